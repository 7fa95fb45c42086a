use Rattle.std.proofs.Common.{◌≡◌, Bool, true, false, ◌++◌, Some, ◌||◌, not, nat_eq, refl, sym, ap, ◌∙◌, arith}
use Rattle.std.proofs.lemmas.Bool.Decides.{nat_tests}
use Rattle.std.specs.Prelude.{length, slice_index, nat_lt}
use Rattle.word_base.specs.declared.rule.Rule.TheVariants.{K1, K2, M2}
use Rattle.word_base.specs.Words.{words_of}
use Rattle.word_base.specs.Rules.{broken, refusal, first}
use Rattle.tpf_decode.specs.Refusals.{refusal_of}
use Rattle.tpf_decode.proofs.extent.header.Goals as goal

version_first : (v t u : Bool) → v ≡ true → first (broken v K1 0 ++ (broken t K2 1 ++ broken u M2 1)) ≡ Some (refusal K1 0)
version_first true true true h = refl
version_first true true false h = refl
version_first true false true h = refl
version_first true false false h = refl
version_first false t u h = cc

pub returns-then-word-ne327760-clause-refused : goal.returns-then-word-ne327760-clause-refused
returns-then-word-ne327760-clause-refused c =
    let w = words_of c.args.bytes.now in
    let v : not (nat_eq (slice_index w 0) 0x00050050) ≡ true = grind (arith, nat_tests) in
    ap refusal_of c.refuse.ensures ∙ sym (version_first (not (nat_eq (slice_index w 0) 0x00050050)) (nat_lt (slice_index w 1) 2 || nat_lt (length w) (slice_index w 1)) (nat_lt 65536 (slice_index w 1)) v)
