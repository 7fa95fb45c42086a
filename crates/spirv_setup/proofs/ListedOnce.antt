-- How many immediate constants a program has: they are listed at most once, in at most 4,096 vectors.
use Rattle.std.proofs.Common.{◌≡◌, ℕ, suc, ◌+◌, ◌%◌, ◌/◌, ◌<◌, ◌≤◌, Bool, true, false, List, [], ◌∷◌, length, Some, refl, ap, subst, arith, length-append}
use Rattle.std.specs.Prelude.{slice_get, nat_eq, nat_le, not, ◌&&◌}
use Rattle.std.proofs.lemmas.Bool.Decides.{nat_tests}
use Rattle.tpf_decode.specs.Profiles.{Profile, Base}
use Rattle.tpf_decode.specs.Spelling.{is_vectors}
use Rattle.tpf_program.specs.declared.declaration.Declaration.TheVariants.{ImmediateConstants}
use Rattle.tpf_program.specs.declared.declaration.Declared.{Declared}
use Rattle.tpf_program.specs.Declarations.{same_thing}
use Rattle.tpf_program.specs.Program.{Shader}
use Rattle.tpf_program.specs.Spelling.{Item, Declares, Types, Does, Lists, Skips, SpellsItems, Spells, constants_in, declarations_in, listed}
use Rattle.spirv_setup.specs.Premises.{IsDeclared}

none_of : (xs : List Item) (v : ℕ)
    → ((n : ℕ) (e : Declared) → slice_get (declarations_in xs) n ≡ Some e → same_thing (ImmediateConstants v) e.what ≡ false)
    → length (constants_in xs) ≡ 0
none_of [] v h = refl
none_of (Declares d ∷ xs) v h = none_of xs v (λ n e g. h (suc n) e g)
none_of (Types d view ∷ xs) v h = none_of xs v (λ n e g. h (suc n) e g)
none_of (Does i ∷ xs) v h = none_of xs v h
none_of (Lists place values ∷ xs) v h = absurd (cc (h 0 _ refl))
none_of (Skips kind values ∷ xs) v h = none_of xs v h

last_of : (a b c : Bool) → (a && (b && c)) ≡ true → c ≡ true
last_of true true c e = e
last_of true false c e = absurd (cc e)
last_of false b c e = absurd (cc e)

at_most : (n : ℕ) → is_vectors n ≡ true → n ≤ 16384
at_most n e = let q = last_of (nat_eq (n % 4) 0) (not (nat_eq n 0)) (nat_le n 16384) e in under n 16384 q where
  under : (m k : ℕ) → nat_le m k ≡ true → m ≤ k
  under m k t = grind (arith, nat_tests)

abbrev AreOnce : List Declared → Type 0
AreOnce ds = (m n : ℕ) (d e : Declared) → m < n → slice_get ds m ≡ Some d → slice_get ds n ≡ Some e → same_thing d.what e.what ≡ false

once_behind : (d : Declared) (ds : List Declared) → AreOnce (d ∷ ds) → AreOnce ds
once_behind d ds h m n x y lt g i = h (suc m) (suc n) x y (omega (arith, lt)) g i

listed_few : (profile : Profile) (at : ℕ) (xs : List Item) (words : List ℕ) → SpellsItems profile at xs words → AreOnce (declarations_in xs)
    → length (constants_in xs) ≤ 16384
listed_few profile at [] words h once = omega arith
listed_few profile at (Declares d ∷ xs) words h once =
    listed_few profile (at + length h.0) xs h.1 h.4 (once_behind d (declarations_in xs) once)
listed_few profile at (Types d view ∷ xs) words h once =
    listed_few profile (at + length h.0) xs h.1 h.4 (once_behind d (declarations_in xs) once)
listed_few profile at (Does i ∷ xs) words h once = listed_few profile (at + length h.0) xs h.1 h.4 once
listed_few profile at (Lists place values ∷ xs) words h once =
    let none = none_of xs (length values / 4) (λ n e g. once 0 (suc n) (listed place values) e (omega arith) refl g) in
    let few = at_most (length values) (h.3.1.vectors refl) in omega (arith, none, few, length-append values (constants_in xs))
listed_few profile at (Skips kind values ∷ xs) words h once = listed_few profile (at + length h.0) xs h.1 h.4 once

pub constants_few : (p : Shader) (tokens : List ℕ) → Spells Base p tokens → IsDeclared p → length p.constants ≤ 16384
constants_few p tokens s h =
    let n = listed_few Base 2 s.items s.body s.parts (subst AreOnce s.declarations h.declared.once) in
    let e = ap length s.constants in omega (arith, n, e)
