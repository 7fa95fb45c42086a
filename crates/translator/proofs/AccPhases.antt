-- The rules of tokens, of programs and of bindings are tested behind the room for a program.
use Rattle.std.proofs.Common.{◌≡◌, ℕ, zero, suc, ◌+◌, ◌<◌, Bool, true, false, List, [], ◌∷◌, ◌++◌, length, Option, Some, None, subst, arith}
use Rattle.std.specs.Prelude.{Contains, flat_map, map, filter, is_none, not, slice_index_or, nat_eq, nat_lt, ◌&&◌}
use Rattle.std.specs.List.{list_any}
use Rattle.std.proofs.lemmas.Bool.Decides.{nat_tests}
use Rattle.word_base.specs.declared.rule.Rule.{Rule}
use Rattle.word_base.specs.declared.rule.Rule.TheVariants.{L1, L2, L3, L4, L5, L6, L7, L8, S1, S2, S3, S4, S5, S6, S7, S8, S9, M3, M4, B1}
use Rattle.word_base.specs.declared.rule.Refusal.{Refusal}
use Rattle.word_base.specs.Rules.{Order, broken, comes_before, is_below, key_by, key_of, order_of, refusal}
use Rattle.tpf_decode.specs.Profiles.{Base}
use Rattle.tpf_decode.specs.Opcodes.{meaning_of}
use Rattle.tpf_decode.specs.Refusals.{StandsFrom}
use Rattle.tpf_decode.specs.declared.meaning.Meaning.{Meaning}
use Rattle.tpf_program.specs.declared.declaration.Declared.{Declared}
use Rattle.tpf_program.specs.declared.instruction.Instruction.{Instruction}
use Rattle.tpf_program.specs.Declarations.{declaration_refusals, declares_group, has_sizes, is_past_limit, refusals_at, refusals_from, same_thing}
use Rattle.tpf_program.specs.Ends.{close, is_opening, means}
use Rattle.tpf_program.specs.Nesting.{depth, inner, is_return, is_second_case, is_second_default, is_too_early, is_wrong_else, is_wrong_end, is_wrong_label, is_wrong_leap, last_from, nesting_refusals, open_from, walk_by, walk_from, where_none}
use Rattle.tpf_program.specs.Program.{Shader}
use Rattle.tpf_program.specs.Uses.{is_missing, is_other_view, is_past, refusals_by, up_to, use_refusals, uses}
use Rattle.shader_check.specs.Checked.{checked_refusals}
use Rattle.binding_map.specs.Bindings.{Binding}
use Rattle.binding_map.specs.Completeness.{binding_refusals, is_unbound}

abbrev pub IsLate : Refusal → Type 0
IsLate r = 4 < (order_of r.rule).phase

abbrev pub AreLate : List Refusal → Type 0
AreLate [] = Unit {0}
AreLate (r ∷ rs) = IsLate r × AreLate rs

late_at : (qs : List Refusal) (q : Refusal) (k : ℕ) → AreLate qs → k < length qs → slice_index_or qs k q ≡ q → IsLate q
late_at [] q k h l e = absurd (omega (arith, l))
late_at (p ∷ ps) q zero h l e = subst IsLate e h.0
late_at (p ∷ ps) q (suc k) h l e = late_at ps q k h.1 (omega (arith, l)) e

pub late_in : (qs : List Refusal) (q : Refusal) → AreLate qs → Contains qs q → IsLate q
late_in qs q h c = late_at qs q c.0 h c.1 c.2

below_later : (o : Order) (place : ℕ) → 4 < o.phase → is_below (key_by o place) (key_of (refusal M4 1)) ≡ false
below_later o place h = grind (arith, nat_tests)

-- what is late does not come before the room for a program
pub behind_room : (q : Refusal) → IsLate q → comes_before q (refusal M4 1) ≡ false
behind_room q h = below_later (order_of q.rule) q.place h

pub late_append : (ps qs : List Refusal) → AreLate ps → AreLate qs → AreLate (ps ++ qs)
late_append [] qs h k = k
late_append (p ∷ ps) qs h k = (h.0, late_append ps qs h.1 k)

late_broken : (t : Bool) (rule : Rule) (at : ℕ) → 4 < (order_of rule).phase → AreLate (broken t rule at)
late_broken true rule at h = (h, tt)
late_broken false rule at h = tt

-- one broken rule more, in front or behind
late_more : (t : Bool) (rule : Rule) (at : ℕ) (qs : List Refusal) → 4 < (order_of rule).phase → AreLate qs
    → AreLate (broken t rule at ++ qs)
late_more t rule at qs h k = late_append (broken t rule at) qs (late_broken t rule at h) k

late_then : (qs : List Refusal) (t : Bool) (rule : Rule) (at : ℕ) → AreLate qs → 4 < (order_of rule).phase
    → AreLate (qs ++ broken t rule at)
late_then qs t rule at k h = late_append qs (broken t rule at) k (late_broken t rule at h)

late_each : {X : Type 0} (f : X → List Refusal) → ((x : X) → AreLate (f x)) → (xs : List X) → AreLate (flat_map f xs)
late_each f h [] = tt
late_each f h (x ∷ xs) = late_append (f x) (flat_map f xs) (h x) (late_each f h xs)

-- refusals of tokens
pub late_tokens : (at : ℕ) (qs : List Refusal) → StandsFrom at qs → AreLate qs
late_tokens at [] h = tt
late_tokens at (q ∷ qs) h = (omega (arith, h.0), late_tokens at qs h.2)

-- of bindings
late_bound : (ds : List Declared) → AreLate (map (λ d. refusal B1 d.place) ds)
late_bound [] = tt
late_bound (d ∷ ds) = (omega arith, late_bound ds)

pub late_bindings : (p : Shader) (bindings : List Binding) → AreLate (binding_refusals p bindings)
late_bindings p bindings = late_bound (filter (λ d. is_unbound bindings d.what) p.declarations)

-- of declarations
late_four : (a b c d : Bool) (at : ℕ) → AreLate (broken a L1 at ++ broken b L2 at ++ broken c L3 at ++ broken d L7 at)
late_four a b c d at =
    late_then (broken a L1 at ++ broken b L2 at ++ broken c L3 at) d L7 at
    (late_then (broken a L1 at ++ broken b L2 at) c L3 at
    (late_then (broken a L1 at) b L2 at (late_broken a L1 at (omega arith)) (omega arith)) (omega arith)) (omega arith)

late_declared : (first : ℕ) (p : Shader) (before : List Declared) (d : Declared) → AreLate (refusals_at first p before d)
late_declared first p before d =
    late_four (list_any (λ e. same_thing e.what d.what) before) (list_any (λ i. nat_lt i.place d.place) p.instructions)
    (is_past_limit first before d.what) (not (has_sizes d.what)) d.place

late_from : (first : ℕ) (p : Shader) (before ds : List Declared) → AreLate (refusals_from first p before ds)
late_from first p before [] = tt
late_from first p before (d ∷ ds) =
    late_append (refusals_at first p before d) (refusals_from first p (before ++ d ∷ []) ds)
    (late_declared first p before d) (late_from first p (before ++ d ∷ []) ds)

late_declarations : (p : Shader) → AreLate (declaration_refusals 0 p)
late_declarations p =
    let group = not (list_any (λ d. declares_group d.what) p.declarations) in
    late_append (refusals_from 0 p [] p.declarations) (broken group L4 p.words) (late_from 0 p [] p.declarations)
    (late_broken group L4 p.words (omega arith))

-- of what is used
late_three : (a b c : Bool) (at : ℕ) → AreLate (broken a L5 at ++ broken b L6 at ++ broken c L8 at)
late_three a b c at =
    late_then (broken a L5 at ++ broken b L6 at) c L8 at
    (late_then (broken a L5 at) b L6 at (late_broken a L5 at (omega arith)) (omega arith)) (omega arith)

late_use : (p : Shader) (i : Instruction) (m : Option Meaning)
    → AreLate (refusals_by p.typed (up_to i.place p.declarations) m i)
late_use p i None = tt
late_use p i (Some m) =
    let ds = up_to i.place p.declarations in
    late_three (list_any (is_missing ds) (uses m i)) (list_any (is_past ds) (uses m i))
    (list_any (is_other_view p.typed ds m) (uses m i)) i.place

late_uses : (p : Shader) → AreLate (use_refusals Base p)
late_uses p =
    late_each (λ i. refusals_by p.typed (up_to i.place p.declarations) (meaning_of Base i.code) i)
    (λ i. late_use p i (meaning_of Base i.code)) p.instructions

-- of structure
late_eight : (a b c d e f g h : Bool) (at : ℕ)
    → AreLate (broken a S1 at ++ broken b S3 at ++ broken c S4 at ++ broken d S5 at ++ broken e S6 at ++ broken f S7 at
    ++ broken g S8 at ++ broken h M3 at)
late_eight a b c d e f g h at =
    let one = late_broken a S1 at (omega arith) in
    let two = late_then (broken a S1 at) b S3 at one (omega arith) in
    let three = late_then (broken a S1 at ++ broken b S3 at) c S4 at two (omega arith) in
    let four = late_then (broken a S1 at ++ broken b S3 at ++ broken c S4 at) d S5 at three (omega arith) in
    let five = late_then (broken a S1 at ++ broken b S3 at ++ broken c S4 at ++ broken d S5 at) e S6 at four (omega arith) in
    let six = late_then (broken a S1 at ++ broken b S3 at ++ broken c S4 at ++ broken d S5 at ++ broken e S6 at) f S7 at five
    (omega arith) in
    let seven = late_then (broken a S1 at ++ broken b S3 at ++ broken c S4 at ++ broken d S5 at ++ broken e S6 at
    ++ broken f S7 at) g S8 at six (omega arith) in
    late_then (broken a S1 at ++ broken b S3 at ++ broken c S4 at ++ broken d S5 at ++ broken e S6 at ++ broken f S7 at
    ++ broken g S8 at) h M3 at seven (omega arith)

late_walk : (code : List Instruction) (q : ℕ) (m : Option Meaning) (i : Instruction) → AreLate (walk_by Base code q m i)
late_walk code q None i = tt
late_walk code q (Some m) i =
    let around = inner Base code q in
    late_eight (is_wrong_end Base code around m) (is_wrong_else Base code q around m) (is_wrong_leap Base code q m)
    (is_wrong_label Base code around m) (is_second_default Base code q around m)
    (is_second_case Base code q around m i.o0.x) (is_too_early Base code q around m)
    (is_opening m && nat_eq (depth Base code q) 64) i.place

late_walks : (code : List Instruction) (q : ℕ) (is : List Instruction) → AreLate (walk_from Base code q is)
late_walks code q [] = tt
late_walks code q (i ∷ is) =
    late_append (walk_by Base code q (meaning_of Base i.code) i) (walk_from Base code (q + 1) is)
    (late_walk code q (meaning_of Base i.code) i) (late_walks code (q + 1) is)

late_open : (code : List Instruction) (q : ℕ) (is : List Instruction) → AreLate (open_from Base code q is)
late_open code q [] = tt
late_open code q (i ∷ is) = late_more (means Base is_opening i && is_none (close Base code q)) S2 i.place (open_from Base code (q + 1) is) (omega arith) (late_open code (q + 1) is)

late_where_none : (ps qs : List Refusal) → AreLate qs → AreLate (where_none ps qs)
late_where_none [] qs h = h
late_where_none (p ∷ ps) qs h = tt

late_last : (words : ℕ) (code : List Instruction) (q : ℕ) (is : List Instruction) → AreLate (last_from Base words code q is)
late_last words code q [] = (omega arith, tt)
late_last words code q (i ∷ []) = late_broken (not (means Base is_return i && is_none (inner Base code q))) S9 i.place (omega arith)
late_last words code q (i ∷ (j ∷ is)) = late_last words code (q + 1) (j ∷ is)

late_nesting : (p : Shader) → AreLate (nesting_refusals Base p)
late_nesting p =
    let walk = walk_from Base p.instructions 0 p.instructions in
    let opened = open_from Base p.instructions 0 p.instructions in
    late_append (walk ++ where_none walk opened) (last_from Base p.words p.instructions 0 p.instructions)
    (late_append walk (where_none walk opened) (late_walks p.instructions 0 p.instructions)
    (late_where_none walk opened (late_open p.instructions 0 p.instructions)))
    (late_last p.words p.instructions 0 p.instructions)

pub late_checked : (p : Shader) → AreLate (checked_refusals p)
late_checked p =
    late_append (declaration_refusals 0 p) (use_refusals Base p ++ nesting_refusals Base p) (late_declarations p)
    (late_append (use_refusals Base p) (nesting_refusals Base p) (late_uses p) (late_nesting p))
