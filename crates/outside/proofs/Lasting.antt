-- Bytes gained one after the other, and files looked up after one was added.
use Rattle.std.proofs.Common.{◌≡◌, ℕ, List, [], ◌∷◌, ◌++◌, Bool, true, false, Option, Some, None, if◌then◌else◌, refl, sym, ap, ◌∙◌, append_assoc}
use Rattle.std.specs.Prelude.{bytes_eq}
use Rattle.std.proofs.lemmas.Slice.Eq.{bytes_eq-Decides}
use Rattle.outside.specs.Causes.{Gained}
use Rattle.outside.specs.Memory.{with_file}
use Rattle.outside.specs.Told.{File, Output, GainsLast, file_of, with_last}

pub gained_twice : (old mid new : Option (List ℕ)) (a b : List ℕ) → Gained old mid a → Gained mid new b → Gained old new (a ++ b)
gained_twice None None new a b g h = h
gained_twice None (Some m) new a b g h = absurd (cc)
gained_twice (Some old) None new a b g h = absurd (cc)
gained_twice (Some old) (Some m) new a b g h =
    let e : m ≡ old ++ a = cc in
    h ∙ ap Some (ap (λ x. x ++ b) e ∙ append_assoc old a b)

pub last_twice : (outputs : List Output) (a b : List ℕ) → with_last (with_last outputs a) b ≡ with_last outputs (a ++ b)
last_twice [] a b = refl
last_twice (o ∷ []) a b = ap (λ (bytes : List ℕ). record { name = o.name; bytes = bytes } ∷ []) (append_assoc o.bytes a b)
last_twice (o ∷ p ∷ []) a b = ap (λ rest. o ∷ rest) (last_twice (p ∷ []) a b)
last_twice (o ∷ p ∷ q ∷ rest) a b = ap (λ xs. o ∷ xs) (last_twice (p ∷ q ∷ rest) a b)

pub gains_twice : (old mid new : Option (List Output)) (a b : List ℕ) → GainsLast old mid a → GainsLast mid new b → GainsLast old new (a ++ b)
gains_twice None None new a b g h = h
gains_twice None (Some m) new a b g h = absurd (cc)
gains_twice (Some old) None new a b g h = absurd (cc)
gains_twice (Some old) (Some m) new a b g h =
    let e : m ≡ with_last old a = cc in
    h ∙ ap Some (ap (λ x. with_last x b) e ∙ last_twice old a b)

pub last_is_new : (outputs : List Output) (o : Output) (bytes : List ℕ) → with_last (outputs ++ o ∷ []) bytes ≡ outputs ++ record { name = o.name; bytes = o.bytes ++ bytes } ∷ []
last_is_new [] o bytes = refl
last_is_new (a ∷ []) o bytes = refl
last_is_new (a ∷ b ∷ rest) o bytes = ap (λ xs. a ∷ xs) (last_is_new (b ∷ rest) o bytes)

head_added : (f : File) (rest : List File) (name bytes other : List ℕ) → file_of (with_file rest name bytes) other ≡ (if bytes_eq name other then Some bytes else file_of rest other)
    → (named asked new : Bool) → bytes_eq f.name name ≡ named → bytes_eq f.name other ≡ asked → bytes_eq name other ≡ new
    → file_of (with_file (f ∷ rest) name bytes) other ≡ (if bytes_eq name other then Some bytes else file_of (f ∷ rest) other)
head_added f rest name bytes other tail true true true a b c = rw (a, b, c) refl
head_added f rest name bytes other tail true true false a b c =
    let e : name ≡ other = sym ((bytes_eq-Decides f.name name).0 a) ∙ (bytes_eq-Decides f.name other).0 b in
    let t : bytes_eq name other ≡ true = (bytes_eq-Decides name other).1 e in absurd (cc)
head_added f rest name bytes other tail true false true a b c =
    let e : f.name ≡ other = (bytes_eq-Decides f.name name).0 a ∙ (bytes_eq-Decides name other).0 c in
    let t : bytes_eq f.name other ≡ true = (bytes_eq-Decides f.name other).1 e in absurd (cc)
head_added f rest name bytes other tail true false false a b c = rw (a, b, c) refl
head_added f rest name bytes other tail false true true a b c =
    let e : f.name ≡ name = (bytes_eq-Decides f.name other).0 b ∙ sym ((bytes_eq-Decides name other).0 c) in
    let t : bytes_eq f.name name ≡ true = (bytes_eq-Decides f.name name).1 e in absurd (cc)
head_added f rest name bytes other tail false true false a b c = rw (a, b, c) refl
head_added f rest name bytes other tail false false true a b c = rw (a, b, c) (rw c at tail)
head_added f rest name bytes other tail false false false a b c = rw (a, b, c) (rw c at tail)

one_file : (name bytes other : List ℕ) (new : Bool) → bytes_eq name other ≡ new → file_of (with_file [] name bytes) other ≡ (if bytes_eq name other then Some bytes else file_of [] other)
one_file name bytes other true e = rw e refl
one_file name bytes other false e = rw e refl

pub file_added : (files : List File) (name bytes other : List ℕ) → file_of (with_file files name bytes) other ≡ (if bytes_eq name other then Some bytes else file_of files other)
file_added [] name bytes other = one_file name bytes other (bytes_eq name other) refl
file_added (f ∷ rest) name bytes other = head_added f rest name bytes other (file_added rest name bytes other) _ _ _ refl refl refl
