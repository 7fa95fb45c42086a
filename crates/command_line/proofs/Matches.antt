-- From what `clap` answers to the values of the words.
use Rattle.std.proofs.Common.{◌≡◌, ◌≢◌, List, [], ◌∷◌, rules, refl, inl, inr}
use Rattle.std.specs.Prelude.{Some, None}
use Rattle.clap.specs.Words.{Text, matches_of, fault_of, HasKind, IsAmong, Kinds, kind_of}
use Rattle.clap.specs.declared.error.Error.{Error}
use Rattle.clap.specs.declared.error.kind.ErrorKind.{ErrorKind}
use Rattle.clap.specs.declared.error.kind.ErrorKind.TheVariants.{OutOfMemory}
use Rattle.command_line.specs.Command.{Values, command, values_in, values_of}

-- words without a fault have their values
pub found : (words : List Text) (v : Values) → fault_of command words ≡ [] → v ≡ values_in (matches_of command words)
    → Some v ≡ values_of words
unfolding values_of
found words v f e = rw (f, e) refl

is_refused : (kinds : Kinds) (k : ErrorKind) → IsAmong k kinds → kinds ≢ []
is_refused [] k h e = h
is_refused (x ∷ xs) k h e = search rules

-- words with a fault have none
pub refused : (words : List Text) → fault_of command words ≢ [] → None ≡ values_of words
unfolding values_of
refused words n = at (fault_of command words) refl
  where
    at : (kinds : Kinds) → fault_of command words ≡ kinds → None ≡ values_of words
    at [] e = absurd (n e)
    at (x ∷ xs) e = rw (e) refl

pub fails : (words : List Text) (e : Error) → HasKind (fault_of command words) e → kind_of e ≢ OutOfMemory
    → None ≡ values_of words
fails words e (inl h) n = absurd (n h)
fails words e (inr h) n = refused words (is_refused (fault_of command words) (kind_of e) h)
