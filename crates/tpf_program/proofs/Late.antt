-- Spelled words break no rule but those on flags.
use Rattle.std.proofs.Common.{◌≡◌, ℕ, zero, suc, ◌+◌, ◌-◌, ◌<◌, ◌≤◌, List, [], ◌∷◌, ◌++◌, length, None, Bool, true, false, not, ◌||◌, nat_eq, sym, refl, ap, ◌∙◌, subst, arith, length-append}
use Rattle.std.specs.Prelude.{Contains, slice_index, slice_index_or, slice_range, nat_lt}
use Rattle.std.proofs.lemmas.Bool.Decides.{nat_tests}
use Rattle.word_base.specs.declared.rule.Rule.{Rule}
use Rattle.word_base.specs.declared.rule.Rule.TheVariants.{K12, K14, K15}
use Rattle.word_base.specs.declared.rule.Refusal.{Refusal}
use Rattle.word_base.specs.Rules.{broken, first}
use Rattle.tpf_decode.specs.Profiles.{Base}
use Rattle.tpf_decode.specs.Refusals.{broken_at, saturates, has_wrong_sync, has_wrong_flags, header_faults, instruction_faults}
use Rattle.tpf_program.specs.Program.{Shader}
use Rattle.tpf_program.specs.Spelling.{arguments, Item, Declares, Types, Does, Lists, Skips, SpellsItem, SpellsItems, Spells}
use Rattle.tpf_program.specs.Faults.{IsLate, body_faults, program_faults}
use Rattle.tpf_program.proofs.SameItems.{no_typed}
use Rattle.tpf_program.proofs.Items.{item_some}
use Rattle.tpf_program.proofs.Passes.{late_tests, instruction_pass, custom_pass}
use Rattle.tpf_program.proofs.Pieces.{taken_front}
use Rattle.tpf_program.proofs.Reach.{part_and_rest, item_size}
use Rattle.tpf_program.proofs.Walk.{head_sound}

abbrev pub AreLate : List Refusal → Type 0
AreLate [] = Unit {0}
AreLate (r ∷ rs) = IsLate r.rule × AreLate rs

late_append : (ps qs : List Refusal) → AreLate ps → AreLate qs → AreLate (ps ++ qs)
late_append [] qs h k = k
late_append (p ∷ ps) qs h k = (h.0, late_append ps qs h.1 k)

late_broken : (t : Bool) (rule : Rule) (at : ℕ) → IsLate rule → AreLate (broken t rule at)
late_broken true rule at h = (h, tt)
late_broken false rule at h = tt

tests_late : (at token : ℕ) → AreLate (broken_at at (late_tests token))
tests_late at token =
    late_append (broken (saturates Base token) K12 at) (broken (has_wrong_sync token) K14 at ++ (broken (has_wrong_flags token) K15 at ++ [])) (late_broken (saturates Base token) K12 at tt)
    (late_append (broken (has_wrong_sync token) K14 at) (broken (has_wrong_flags token) K15 at ++ []) (late_broken (has_wrong_sync token) K14 at tt)
    (late_append (broken (has_wrong_flags token) K15 at) [] (late_broken (has_wrong_flags token) K15 at tt) tt))

item_late : (at : ℕ) (x : Item) (words more : List ℕ) → SpellsItem Base at x words → AreLate (instruction_faults Base at (words ++ more))
item_late at (Declares d) words more s =
    subst AreLate (sym (instruction_pass s.1.code s.1.controls at s.1.arguments s.1.further words more s.1.spelled)) (tests_late at s.1.spelled.tokens.token)
item_late at (Types d view) words more s = absurd (no_typed d.what view words s.1)
item_late at (Does i) words more s =
    subst AreLate (sym (instruction_pass i.code i.controls at (arguments i) [] words more s.1.spelled)) (tests_late at s.1.spelled.tokens.token)
item_late at (Lists place values) words more s = subst AreLate (sym (custom_pass 3 at values words more s.1)) tt
item_late at (Skips kind values) words more s = subst AreLate (sym (custom_pass kind at values words more s.1)) tt

items_late : (at : ℕ) (items : List Item) (words : List ℕ) → SpellsItems Base at items words → AreLate (body_faults Base 0 at words)
unfolding body_faults
items_late at [] words s = subst (λ l. AreLate (body_faults Base 0 at l)) (sym s) tt
items_late at (x ∷ xs) words s =
    subst AreLate (sym (ap (body_faults Base 0 at) s.2 ∙ part_and_rest s.0 s.1 at (item_some at x s.0 s.3) (item_size at x s.0 s.1 s.3)))
    (late_append (instruction_faults Base at (s.0 ++ s.1)) (body_faults Base 0 (at + length s.0) s.1) (item_late at x s.0 s.1 s.3) (items_late (at + length s.0) xs s.1 s.4))

pub one_late : (rs : List Refusal) (k : ℕ) (r : Refusal) → AreLate rs → k < length rs → slice_index_or rs k r ≡ r → IsLate r.rule
one_late [] k r h l e = absurd (omega (arith, l))
one_late (q ∷ rs) zero r h l e = subst (λ x. IsLate x.rule) e h.0
one_late (q ∷ rs) (suc k) r h l e = one_late rs k r h.1 (omega (arith, l)) e

-- where the words of a spelled program stand
body_there : (p : Shader) (tokens : List ℕ) (s : Spells Base p tokens) → (slice_index tokens 1 ≡ p.words) × (slice_range tokens 2 p.words ≡ s.body) × (p.words ≤ length tokens)
body_there p tokens s =
    let n : p.words - 2 ≡ length s.body = omega (arith, s.count) in (
      ap (λ l. slice_index l 1) s.whole,
      ap (λ l. slice_range l 2 p.words) s.whole ∙ taken_front s.body s.ignored (p.words - 2) n,
      omega (arith, ap length s.whole, s.count, length-append s.body s.ignored),
    )

spelled_head : (p : Shader) (tokens : List ℕ) → Spells Base p tokens → p.words ≤ 65536 → first (header_faults tokens) ≡ None
spelled_head p tokens s size =
    let b = body_there p tokens s in
    let z : slice_index tokens 0 ≡ 0x00050050 = ap (λ l. slice_index l 0) s.whole in
    let x : not (nat_eq (slice_index tokens 0) 0x00050050) ≡ false = ap (λ n. not (nat_eq n 0x00050050)) z in
    let y : (nat_lt (slice_index tokens 1) 2 || nat_lt (length tokens) (slice_index tokens 1)) ≡ false = grind (arith, nat_tests, b.0, b.2, s.count) in
    let w : nat_lt 65536 (slice_index tokens 1) ≡ false = grind (arith, nat_tests, b.0, size) in
    rw (x, y, w) refl

pub program_late : (p : Shader) (tokens : List ℕ) → Spells Base p tokens → p.words ≤ 65536 → (r : Refusal) → Contains (program_faults Base tokens) r → IsLate r.rule
program_late p tokens s size r there =
    let b = body_there p tokens s in
    let e = head_sound tokens p.words (sym (spelled_head p tokens s size)) (sym b.0) ∙ ap (body_faults Base 0 2) b.1 in
    one_late (program_faults Base tokens) there.0 r (subst AreLate (sym e) (items_late 2 s.items s.body s.parts)) there.1 there.2
