-- What a write to the last output changes of what a desk tells.
use Rattle.std.proofs.Common.{◌≡◌, ℕ, suc, List, [], ◌∷◌, length, nat_lt, refl, sym, ap, arith}
use Rattle.std.specs.Prelude.{Some}
use Rattle.std.proofs.lemmas.Bool.Decides.{nat_tests}
use Rattle.std.proofs.lemmas.List.{take_all}
use Rattle.outside.specs.Told.{Output, with_last, WritesFront}
use Rattle.outside.specs.Memory.{DeskValue, Counts, told_of}

some_both : (m n : ℕ) → nat_lt 0 (suc m) ≡ nat_lt 0 (suc n)
some_both m n = grind (arith, nat_tests)

pub some_after : (outputs : List Output) (bytes : List ℕ) → nat_lt 0 (length (with_last outputs bytes)) ≡ nat_lt 0 (length outputs)
some_after [] bytes = refl
some_after (a ∷ []) bytes = refl
some_after (a ∷ b ∷ rest) bytes = some_both (length (with_last (b ∷ rest) bytes)) (length (b ∷ rest))

pub wrote : (old : DeskValue) (piece : List ℕ) (room : ℕ) (counts : Counts) → WritesFront (told_of old) (told_of (record old { outputs = with_last old.outputs piece; room = room; counts = counts })) (length piece) piece
wrote old piece room counts = record {
  kept = record { files = refl; left = refl; reading = refl };
  begun = some_after old.outputs piece;
  within = omega arith;
  some = λ h. h;
  outputs = ap Some (ap (with_last old.outputs) (sym (take_all (length piece) piece (omega arith))));
}
