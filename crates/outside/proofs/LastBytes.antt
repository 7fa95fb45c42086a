-- The bytes of a desk's last output, apart from all else that it tells.
use Rattle.std.proofs.Common.{◌≡◌, ℕ, suc, List, [], ◌∷◌, ◌++◌, length, take, Option, Some, None, refl, sym, ap, ◌∙◌, subst, arith}
use Rattle.std.specs.Prelude.{Result, Ok, Err, option_map}
use Rattle.outside.specs.Causes.{Gained, Takes}
use Rattle.outside.specs.Told.{Told, Output, Writes, GainsLast, LastGained, with_last, last_bytes, bytes_of_last, with_empty_last, beside_last}

last_gains : (outputs : List Output) (bytes : List ℕ) → Gained (last_bytes outputs) (last_bytes (with_last outputs bytes)) bytes
last_gains [] bytes = refl
last_gains (o ∷ []) bytes = refl
last_gains (o ∷ p ∷ []) bytes = refl
last_gains (o ∷ p ∷ q ∷ rest) bytes = last_gains (p ∷ q ∷ rest) bytes

told_gains : (old new : Option (List Output)) (bytes : List ℕ) → GainsLast old new bytes → Gained (bytes_of_last old) (bytes_of_last new) bytes
told_gains None new bytes g = ap bytes_of_last g
told_gains (Some outputs) new bytes g = subst (λ o. Gained (last_bytes outputs) (bytes_of_last o) bytes) (sym g) (last_gains outputs bytes)

rest_stays : (outputs : List Output) (bytes : List ℕ) → with_empty_last (with_last outputs bytes) ≡ with_empty_last outputs
rest_stays [] bytes = refl
rest_stays (o ∷ []) bytes = refl
rest_stays (o ∷ p ∷ []) bytes = refl
rest_stays (o ∷ p ∷ q ∷ rest) bytes = ap (λ xs. o ∷ xs) (rest_stays (p ∷ q ∷ rest) bytes)

told_rest : (old new : Option (List Output)) (bytes : List ℕ) → GainsLast old new bytes → option_map with_empty_last new ≡ option_map with_empty_last old
told_rest None new bytes g = ap (option_map with_empty_last) g
told_rest (Some outputs) new bytes g = ap (option_map with_empty_last) g ∙ ap Some (rest_stays outputs bytes)

beside : (old new : Told) → new.files ≡ old.files → new.left ≡ old.left → new.begun ≡ old.begun → new.reading ≡ old.reading
    → option_map with_empty_last new.outputs ≡ option_map with_empty_last old.outputs → beside_last new ≡ beside_last old
beside old new a b c d e = rw (a, b, c, d, e) refl

-- a write to the desk, seen at the last output
pub takes : {E : Type 0} (old new : Told) (piece : List ℕ) (result : Result ℕ E) → Writes old piece result new → Takes (bytes_of_last old.outputs) piece result (bytes_of_last new.outputs)
takes old new piece (Ok n) w = record { within = w.within; some = w.some; gained = told_gains old.outputs new.outputs (take n piece) w.outputs }
takes old new piece (Err e) w = ap bytes_of_last w.outputs

-- what it leaves
pub leaves : {E : Type 0} (old new : Told) (piece : List ℕ) (result : Result ℕ E) → Writes old piece result new → beside_last new ≡ beside_last old
leaves old new piece (Ok n) w = beside old new w.kept.files w.kept.left w.begun w.kept.reading (told_rest old.outputs new.outputs (take n piece) w.outputs)
leaves old new piece (Err e) w = beside old new w.files w.left w.begun w.reading (ap (option_map with_empty_last) w.outputs)

-- Where the rest stayed and the last output gained bytes, the outputs did.
output_is : (o : Output) (name bytes : List ℕ) → o.name ≡ name → o.bytes ≡ bytes → o ≡ record { name = name; bytes = bytes }
output_is o name bytes a b = ap (λ (n : List ℕ). record { name = n; bytes = o.bytes }) a ∙ ap (λ (x : List ℕ). record { name = name; bytes = x }) b

abbrev head_name : List Output → List ℕ
head_name [] = []
head_name (o ∷ rest) = o.name

as_many : (outputs : List Output) → length (with_empty_last outputs) ≡ length outputs
as_many [] = refl
as_many (o ∷ []) = refl
as_many (o ∷ p ∷ rest) = ap (λ n. suc n) (as_many (p ∷ rest))

same_count : (old new : List Output) → with_empty_last new ≡ with_empty_last old → length new ≡ length old
same_count old new e = sym (as_many new) ∙ (ap length e ∙ as_many old)

same_last : (old new : List Output) (bytes : List ℕ) → with_empty_last new ≡ with_empty_last old → Gained (last_bytes old) (last_bytes new) bytes → new ≡ with_last old bytes
same_last [] [] bytes e g = refl
same_last [] (o ∷ rest) bytes e g = absurd (let k = same_count [] (o ∷ rest) e in omega (arith, k))
same_last (o ∷ []) [] bytes e g = absurd (let k = same_count (o ∷ []) [] e in omega (arith, k))
same_last (o ∷ []) (p ∷ []) bytes e g =
    let b : p.bytes ≡ o.bytes ++ bytes = cc in
    ap (λ (q : Output). q ∷ []) (output_is p o.name (o.bytes ++ bytes) (ap head_name e) b)
same_last (o ∷ []) (p ∷ q ∷ rest) bytes e g = absurd (let k = same_count (o ∷ []) (p ∷ q ∷ rest) e in omega (arith, k))
same_last (o ∷ p ∷ rest) [] bytes e g = absurd (let k = same_count (o ∷ p ∷ rest) [] e in omega (arith, k))
same_last (o ∷ p ∷ rest) (q ∷ []) bytes e g = absurd (let k = same_count (o ∷ p ∷ rest) (q ∷ []) e in omega (arith, k))
same_last (o ∷ p ∷ rest) (q ∷ r ∷ more) bytes e g =
    let h : q ≡ o = cc in
    let t : with_empty_last (r ∷ more) ≡ with_empty_last (p ∷ rest) = cc in
    ap (λ (x : Output). x ∷ r ∷ more) h ∙ ap (λ (xs : List Output). o ∷ xs) (same_last (p ∷ rest) (r ∷ more) bytes t g)

told_last : (old new : Option (List Output)) (bytes : List ℕ) → option_map with_empty_last new ≡ option_map with_empty_last old
    → Gained (bytes_of_last old) (bytes_of_last new) bytes → GainsLast old new bytes
told_last None None bytes e g = refl
told_last None (Some new) bytes e g = absurd (cc)
told_last (Some old) None bytes e g = absurd (cc)
told_last (Some old) (Some new) bytes e g = let t : with_empty_last new ≡ with_empty_last old = cc in ap Some (same_last old new bytes t g)

pub last_gained : (old new : Told) (bytes : List ℕ) → beside_last new ≡ beside_last old → Gained (bytes_of_last old.outputs) (bytes_of_last new.outputs) bytes → LastGained old new bytes
last_gained old new bytes e g = record {
  kept = record { files = ap (λ (t : Told). t.files) e; left = ap (λ (t : Told). t.left) e; reading = ap (λ (t : Told). t.reading) e };
  begun = ap (λ (t : Told). t.begun) e;
  outputs = told_last old.outputs new.outputs bytes (ap (λ (t : Told). t.outputs) e) g;
}
