-- The strides that a program declares are words, where its declarations break no rule.
use Rattle.std.proofs.Common.{◌≡◌, ℕ, zero, suc, ◌*◌, ◌%◌, ◌<◌, ◌≤◌, ◌^◌, Bool, true, false, List, [], ◌∷◌, Option, Some, None, refl, ap, ◌∙◌, arith}
use Rattle.std.specs.Prelude.{nat_eq, nat_le, nat_lt, slice_get, sum_by, if◌then◌else◌}
use Rattle.std.proofs.lemmas.Bool.Decides.{nat_tests}
use Rattle.std.proofs.lemmas.List.Sums.{sum_by-cons}
use Rattle.word_base.specs.declared.event.Room.{Room}
use Rattle.word_base.specs.Words.{AreWords}
use Rattle.tpf_decode.specs.declared.argument.Kind.{Kind}
use Rattle.tpf_decode.specs.declared.argument.Kind.TheVariants as kind
use Rattle.tpf_program.specs.declared.declaration.ViewKind.{ViewKind}
use Rattle.tpf_program.specs.declared.declaration.ViewKind.TheVariants as view
use Rattle.tpf_program.specs.declared.declaration.SharedKind.{SharedKind}
use Rattle.tpf_program.specs.declared.declaration.SharedKind.TheVariants as shared
use Rattle.tpf_program.specs.declared.declaration.Declaration.{Declaration}
use Rattle.tpf_program.specs.declared.declaration.Declaration.TheVariants as declaration
use Rattle.tpf_program.specs.declared.declaration.Declared.{Declared}
use Rattle.tpf_program.specs.Declarations.{has_sizes, is_from_to, is_within, shared_bytes}
use Rattle.tpf_program.specs.Holding.{IsProgramOfWords}
use Rattle.tpf_program.specs.Program.{Shader}
use Rattle.tpf_program.specs.Sizes.{Addressing, Structures, addressing_declared, addressing_of, is_typed, of_shared, of_view, or_addressing}
use Rattle.shader_check.specs.Facts.{AreDeclared}
use Rattle.raise_program.proofs.Unmarked.{split}

record IsSmall (d : Declaration) : Type 0 where
  sizes : has_sizes d ≡ true
  within : is_within d ≡ true
  bytes : shared_bytes d ≤ 32768

in_slot : (b : Bool) (a c : Addressing) → (if b then Some a else None) ≡ Some c → a ≡ c
in_slot true a c h = cc
in_slot false a c h = absurd (cc)

of_views : (typed : Bool) (v : ViewKind) (stride : ℕ) → has_sizes (declaration.Resource 0 v) ≡ true → of_view typed v ≡ Structures stride
    → stride < 2 ^ 32
of_views true v stride h e = absurd (cc)
of_views false view.Raw stride h e = absurd (cc)
of_views false (view.Structured t) stride h e =
    let same : t ≡ stride = cc in
    let s = split (nat_eq (t % 4) 0) (is_from_to 4 2048 t) h in
    let l = split (nat_le 4 t) (nat_le t 2048) s.1 in
    let m : nat_le t 2048 ≡ true = l.1 in
    let n : t ≤ 2048 = grind (arith, nat_tests, m) in
    omega (arith, n, same)

of_shareds : (slot : ℕ) (k : SharedKind) (stride : ℕ) → IsSmall (declaration.Shared slot k) → of_shared k ≡ Structures stride → stride < 2 ^ 32
of_shareds slot (shared.Raw bytes) stride h e = absurd (cc)
of_shareds slot (shared.Structured t count) stride h e =
    let same : t ≡ stride = cc in
    let s = split (nat_lt slot 64) (nat_le 1 count) h.within in
    let m : nat_le 1 count ≡ true = s.1 in
    let n : 1 ≤ count = grind (arith, nat_tests, m) in
    let o : t * count ≤ 32768 = h.bytes in
    let q : t ≤ t * count = by_count t count n in
    omega (arith, o, q, same)
  where
    by_count : (t count : ℕ) → 1 ≤ count → t ≤ t * count
    by_count t count h = grind (arith, h)

declared : (typed : List Room) (k : Kind) (slot : ℕ) (d : Declaration) (stride : ℕ) → IsSmall d
    → addressing_declared typed k slot d ≡ Some (Structures stride) → stride < 2 ^ 32
declared typed kind.Resource slot (declaration.Resource s v) stride h e =
    of_views (is_typed typed kind.Resource slot) v stride h.sizes
    (in_slot (nat_eq s slot) (of_view (is_typed typed kind.Resource slot) v) (Structures stride) e)
declared typed kind.Uav slot (declaration.Uav s v coherent ordered) stride h e =
    of_views (is_typed typed kind.Uav slot) v stride h.sizes
    (in_slot (nat_eq s slot) (of_view (is_typed typed kind.Uav slot) v) (Structures stride) e)
declared typed kind.Shared slot (declaration.Shared s k) stride h e =
    of_shareds s k stride h (in_slot (nat_eq s slot) (of_shared k) (Structures stride) e)
declared typed k slot d stride h e = absurd (cc)

in_list : (typed : List Room) (k : Kind) (slot : ℕ) (ds : List Declared) (stride : ℕ)
    → ((n : ℕ) (d : Declared) → slice_get ds n ≡ Some d → IsSmall d.what)
    → addressing_of typed k slot ds ≡ Structures stride → stride < 2 ^ 32
in_list typed k slot [] stride h e = absurd (cc)
in_list typed k slot (d ∷ rest) stride h e =
    by_option (addressing_declared typed k slot d.what) refl (λ f. in_list typed k slot rest stride (λ n d. h (suc n) d) f) e
  where
    by_option : (o : Option Addressing) → addressing_declared typed k slot d.what ≡ o
        → (addressing_of typed k slot rest ≡ Structures stride → stride < 2 ^ 32)
        → or_addressing o (addressing_of typed k slot rest) ≡ Structures stride → stride < 2 ^ 32
    by_option None same next e = next e
    by_option (Some a) same next e = declared typed k slot d.what stride (h 0 d refl) (same ∙ ap (λ b. Some b) e)

part_of : {X : Type 0} (f : X → ℕ) (xs : List X) (n : ℕ) (x : X) → slice_get xs n ≡ Some x → f x ≤ sum_by f xs
part_of f [] n x h = absurd (cc)
part_of f (y ∷ xs) zero x h = let e : y ≡ x = cc in omega (arith, ap f e, sum_by-cons f y xs)
part_of f (y ∷ xs) (suc n) x h = omega (arith, part_of f xs n x h, sum_by-cons f y xs)

pub program_of_words : (p : Shader) → AreWords p.constants → AreDeclared p → IsProgramOfWords p
program_of_words p w h = record {
  constants = w;
  strides = λ k slot stride e.
      in_list p.typed k slot p.declarations stride (λ n d at. record {
        sizes = h.sized n d at;
        within = h.within n d at;
        bytes = let l = part_of (λ d. shared_bytes d.what) p.declarations n d at in omega (arith, l, h.shared);
      }) e;
}
