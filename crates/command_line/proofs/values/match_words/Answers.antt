use Rattle.std.proofs.Common.{◌≡◌, ◌∙◌, ap, refl, subst, true, List}
use Rattle.std.proofs.lemmas.Result.{IfOk-weaker}
use Rattle.std.specs.Prelude.{Result, map, string_bytes}
use Rattle.outside.specs.Texts.{texts_of}
use Rattle.clap.specs.Words.{App, Text, is_simple, is_simple_and_free, matches_of, HasMatchesOf, rows_of}
use Rattle.clap.specs.Words.{found_of, FailsBy, fault_of}
use Rattle.clap.specs.declared.parser.matches.ArgMatches.{ArgMatches}
use Rattle.clap.specs.declared.error.Error.{Error}
use Rattle.clap.proofs.OnLiterals.{clap_on_literals}
use Rattle.command_line.specs.Command.{command}
use Rattle.command_line.proofs.values.match_words.Goals as goal

simple : is_simple command ≡ true
unfolding clap_on_literals command
simple = refl

free : is_simple_and_free command ≡ true
unfolding clap_on_literals command
free = refl

-- the matches of a command that was made, which is the simple command b
at_app : (a b : App) (words texts : List Text) (m : ArgMatches) → a ≡ b → words ≡ texts → is_simple b ≡ true
    → HasMatchesOf a words m → rows_of (found_of m) ≡ matches_of b texts
at_app a b words texts m e t s h = (h (ap is_simple e ∙ s)).0 ∙ (ap (λ x. matches_of x words) e ∙ ap (matches_of b) t)

fails_at : (a b : App) (words texts : List Text) (r : Result ArgMatches Error) → a ≡ b → words ≡ texts
    → is_simple_and_free b ≡ true → (is_simple_and_free a ≡ true → FailsBy (fault_of a words) r)
    → FailsBy (fault_of b texts) r
fails_at a b words texts r e t s h = subst (λ x. FailsBy (fault_of b x) r) t
    (subst (λ x. FailsBy (fault_of x words) r) e (h (ap is_simple_and_free e ∙ s)))

pub returns-clause-matches : goal.returns-clause-matches
returns-clause-matches c = IfOk-weaker c.try_get_matches_from.result _ _
    (λ m h. at_app _ command _ (texts_of c.args.words.now) m c.in_ok-make_command.ensures
    (ap (map string_bytes) c.as_slice.ensures.value) simple h) c.try_get_matches_from.ensures.matches

pub returns-clause-fails : goal.returns-clause-fails
returns-clause-fails c = fails_at _ command _ (texts_of c.args.words.now) _ c.in_ok-make_command.ensures
    (ap (map string_bytes) c.as_slice.ensures.value) free c.try_get_matches_from.ensures.kinds
