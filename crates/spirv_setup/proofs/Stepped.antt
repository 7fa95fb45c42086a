-- A program steps counters of views u# alone that it declares.
use Rattle.std.proofs.Common.{◌≡◌, ℕ, zero, suc, ◌+◌, ◌⊎◌, inl, inr, nat_eq, refl, sym, ap, ◌∙◌, subst, arith}
use Rattle.std.proofs.Common.{Bool, true, false, List, [], ◌∷◌, ◌++◌, length, take, Some, None}
use Rattle.std.specs.Prelude.{slice_get, not, ◌&&◌, ◌||◌}
use Rattle.std.specs.List.{list_any}
use Rattle.std.proofs.lemmas.Bool.Decides.{nat_tests}
use Rattle.tpf_decode.specs.declared.argument.Argument.{Argument}
use Rattle.tpf_decode.specs.declared.argument.Kind.{Kind}
use Rattle.tpf_decode.specs.declared.argument.Kind.TheVariants as kind
use Rattle.tpf_decode.specs.declared.argument.Role.TheVariants.{Dest, ViewName}
use Rattle.tpf_decode.specs.declared.meaning.Meaning.{Meaning}
use Rattle.tpf_decode.specs.declared.meaning.Meaning.TheVariants.{Allocates, Consumes}
use Rattle.tpf_decode.specs.declared.opcode.Form.TheVariants.{Counter}
use Rattle.tpf_decode.specs.Declarations.{declaration_table, layout_of, roles_at}
use Rattle.tpf_decode.specs.Opcodes.{form_of, meaning_of, opcode_table}
use Rattle.tpf_decode.specs.Profiles.{Base}
use Rattle.tpf_decode.specs.Roles as decode
use Rattle.tpf_decode.specs.Spelling.{SpellsOperands}
use Rattle.tpf_program.specs.declared.declaration.Declaration.{Declaration}
use Rattle.tpf_program.specs.declared.declaration.Declaration.TheVariants.{Uav, Input}
use Rattle.tpf_program.specs.declared.declaration.Declared.{Declared}
use Rattle.tpf_program.specs.declared.instruction.Instruction.{Instruction}
use Rattle.tpf_program.specs.Extents.{is_uav, steps_counter}
use Rattle.tpf_program.specs.Program.{Shader}
use Rattle.tpf_program.specs.Spelling.{arguments, SpellsInstruction, SpellsItems, Spells, instructions_in}
use Rattle.tpf_program.specs.Spelling.{Item, Declares, Types, Does, Lists, Skips}
use Rattle.tpf_program.specs.Uses as used
use Rattle.tpf_program.specs.Uses.{Use, use_of, uses, operand_uses, added_uses, is_indexed, is_missing}
use Rattle.shader_check.specs.Facts.{AreUsed}
use Rattle.binding_map.specs.Wanted.{declares}

-- THE OPCODES that step a counter have a destination and name a view u#.
abbrev StepsIt : ℕ → Meaning → Type 0
StepsIt code m =
    (meaning_of Base code ≡ Some m) × (roles_at Base code ≡ Dest ∷ ViewName ∷ []) × (layout_of Base code ≡ None)
    × (form_of Base code ≡ Some Counter)

allocates : StepsIt 178 Allocates
unfolding meaning_of form_of layout_of opcode_table declaration_table
allocates = (refl, refl, refl, refl)

consumes : StepsIt 179 Consumes
unfolding meaning_of form_of layout_of opcode_table declaration_table
consumes = (refl, refl, refl, refl)

uav_is : (k : Kind) → decode.is_uav k ≡ true → k ≡ kind.Uav
uav_is kind.Uav h = refl
uav_is other h = absurd (cc h)

names_uav : (code : ℕ) (k : Kind) → layout_of Base code ≡ None → form_of Base code ≡ Some Counter
    → decode.is_allowed Base code ViewName k ≡ true → k ≡ kind.Uav
names_uav code k l f h =
    uav_is k (subst (λ o. decode.is_named_by None o k ≡ true) f
    (subst (λ o. decode.is_named_by o (form_of Base code) k ≡ true) l h))

second_uav : (code count : ℕ) (a b : Argument) (rest : List Argument) (words : List ℕ) → layout_of Base code ≡ None
    → form_of Base code ≡ Some Counter
    → SpellsOperands Base code (Dest ∷ ViewName ∷ []) (take count (a ∷ b ∷ rest)) words → b.kind ≡ kind.Uav
second_uav code zero a b rest words l f s = absurd s
second_uav code (suc zero) a b rest words l f s = absurd s.4
second_uav code (suc (suc n)) a b rest words l f s = names_uav code b.kind l f s.4.3.head.allowed

spelled_uav : (i : Instruction) (words : List ℕ) (m : Meaning) → SpellsInstruction Base i words → StepsIt i.code m
    → i.o1.kind ≡ kind.Uav
spelled_uav i words m s h =
    second_uav i.code i.count i.o0 i.o1 (i.o2 ∷ i.o3 ∷ i.o4 ∷ []) s.spelled.operands h.2 h.3
    (subst (λ roles. SpellsOperands Base i.code roles (arguments i) s.spelled.operands) h.1 s.spelled.roles)

items_uav : (at : ℕ) (items : List Item) (words : List ℕ) → SpellsItems Base at items words
    → (k : ℕ) (i : Instruction) (m : Meaning) → slice_get (instructions_in items) k ≡ Some i → StepsIt i.code m
    → i.o1.kind ≡ kind.Uav
items_uav at [] words s k i m e h = absurd (cc e)
items_uav at (Declares d ∷ xs) words s k i m e h = items_uav (at + length s.0) xs s.1 s.4 k i m e h
items_uav at (Types d view ∷ xs) words s k i m e h = items_uav (at + length s.0) xs s.1 s.4 k i m e h
items_uav at (Lists place values ∷ xs) words s k i m e h = items_uav (at + length s.0) xs s.1 s.4 k i m e h
items_uav at (Skips kind values ∷ xs) words s k i m e h = items_uav (at + length s.0) xs s.1 s.4 k i m e h
items_uav at (Does j ∷ xs) words s zero i m e h =
    let n : j ≡ i = cc e in
    spelled_uav i s.0 m (subst (λ x. SpellsInstruction Base x s.0) n s.3.1) h
items_uav at (Does j ∷ xs) words s (suc k) i m e h = items_uav (at + length s.0) xs s.1 s.4 k i m e h

-- THE VIEW is used, so it is declared.
seam : {X : Type 0} (xs : List X) (y : X) (ys : List X) → slice_get (xs ++ y ∷ ys) (length xs) ≡ Some y
seam [] y ys = refl
seam (x ∷ xs) y ys = seam xs y ys

-- its second operand is used
abbrev IsNamed : Instruction → Meaning → Type 0
IsNamed i m = (k : ℕ) × (slice_get (uses m i) k ≡ Some (use_of i.o1.kind i.o1.slot))

second_named : (i : Instruction) → IsNamed i Allocates
second_named i = (
  length (operand_uses i.o0),
  seam (operand_uses i.o0) (use_of i.o1.kind i.o1.slot)
      (added_uses (is_indexed i.o1.kind) i.o1.relative ++ []),
)

used_at : (i : Instruction) (m : Meaning) → (m ≡ Allocates) ⊎ (m ≡ Consumes) → IsNamed i m
used_at i m (inl e) = subst (IsNamed i) (sym e) (second_named i)
used_at i m (inr e) = subst (IsNamed i) (sym e) (second_named i)

not_missing : (b : Bool) → not b ≡ false → b ≡ true
not_missing true h = refl
not_missing false h = absurd (cc h)

uav_declared : (slot : ℕ) (d : Declaration) → used.declares d kind.Uav slot ≡ true → is_uav slot d ≡ true
uav_declared slot (Uav s view coherent ordered) h = h
uav_declared slot (Input id select) h = absurd (no_id id h)
  where
    no_id : (id : Kind) → used.declares (Input id select) kind.Uav slot ≡ true → ⊥
    no_id kind.ThreadId h = cc h
    no_id kind.GroupId h = cc h
    no_id kind.IdInGroup h = cc h
    no_id kind.FlatId h = cc h
    no_id other h = cc h
uav_declared slot other h = absurd (cc h)

abbrev has_view : ℕ → List Declared → Bool
has_view slot ds = list_any (λ d. used.declares d.what kind.Uav slot) ds

abbrev has_uav : ℕ → List Declared → Bool
has_uav slot ds = list_any (λ d. is_uav slot d.what) ds

any_declared : (slot : ℕ) (ds : List Declared) → has_view slot ds ≡ true → has_uav slot ds ≡ true
any_declared slot [] h = absurd (cc h)
any_declared slot (d ∷ ds) h =
    by (used.declares d.what kind.Uav slot) (is_uav slot d.what) (uav_declared slot d.what) h (any_declared slot ds)
  where
    by : (a b : Bool) → (a ≡ true → b ≡ true) → (a || has_view slot ds) ≡ true
        → (has_view slot ds ≡ true → has_uav slot ds ≡ true) → (b || has_uav slot ds) ≡ true
    by a true f h g = refl
    by true false f h g = absurd (cc (f refl))
    by false false f h g = g h

view_declared : (p : Shader) (slot : ℕ) → is_missing p.declarations (use_of kind.Uav slot) ≡ false
    → declares is_uav p slot ≡ true
view_declared p slot h =
    any_declared slot p.declarations (not_missing (has_view slot p.declarations) h)

-- WHAT STEPS a counter
equal : (m n : ℕ) → nat_eq m n ≡ true → m ≡ n
equal m n e = grind (arith, nat_tests)

abbrev IsStep : ℕ → Type 0
IsStep code = (m : Meaning) × ((m ≡ Allocates) ⊎ (m ≡ Consumes)) × StepsIt code m

stepping : (slot : ℕ) (i : Instruction) → steps_counter slot i ≡ true → IsStep i.code × (i.o1.slot ≡ slot)
stepping slot i h =
    by (nat_eq i.code 178) (nat_eq i.code 179) (nat_eq i.o1.slot slot) (equal i.code 178) (equal i.code 179)
    (equal i.o1.slot slot) h
  where
    by : (a b c : Bool) → (a ≡ true → i.code ≡ 178) → (b ≡ true → i.code ≡ 179) → (c ≡ true → i.o1.slot ≡ slot)
        → ((a || b) && c) ≡ true → IsStep i.code × (i.o1.slot ≡ slot)
    by true b true f g k h =
        ((Allocates, inl refl, subst (λ n. StepsIt n Allocates) (sym (f refl)) allocates), k refl)
    by false true true f g k h =
        ((Consumes, inr refl, subst (λ n. StepsIt n Consumes) (sym (g refl)) consumes), k refl)
    by false false c f g k h = absurd (cc h)
    by true b false f g k h = absurd (cc h)
    by false true false f g k h = absurd (cc h)

-- an instruction of a list that steps the counter of a slot
abbrev HasStep : ℕ → List Instruction → Type 0
HasStep slot is = (n : ℕ) × (i : Instruction) × (slice_get is n ≡ Some i) × (steps_counter slot i ≡ true)

any_stepping : (slot : ℕ) (is : List Instruction) → list_any (steps_counter slot) is ≡ true → HasStep slot is
any_stepping slot [] h = absurd (cc h)
any_stepping slot (i ∷ is) h = by (steps_counter slot i) refl h (any_stepping slot is)
  where
    by : (b : Bool) → steps_counter slot i ≡ b → (b || list_any (steps_counter slot) is) ≡ true
        → (list_any (steps_counter slot) is ≡ true → HasStep slot is) → HasStep slot (i ∷ is)
    by true e h f = (0, i, refl, e)
    by false e h f = let r = f h in (suc r.0, r.1, r.2, r.3)

pub counters_declared : (p : Shader) (tokens : List ℕ) → Spells Base p tokens → AreUsed p → (slot : ℕ)
    → list_any (steps_counter slot) p.instructions ≡ true → declares is_uav p slot ≡ true
counters_declared p tokens s u slot h =
    let r = any_stepping slot p.instructions h in
    let i = r.1 in
    let t = stepping slot i r.3 in
    let m = t.0.0 in
    let v : i.o1.kind ≡ kind.Uav =
    items_uav 2 s.items s.body s.parts r.0 i m (ap (λ l. slice_get l r.0) (sym s.instructions) ∙ r.2) t.0.2 in
    let k = used_at i m t.0.1 in
    let missing : is_missing p.declarations (use_of i.o1.kind i.o1.slot) ≡ false =
    (u.each r.0 i m k.0 (use_of i.o1.kind i.o1.slot) r.2 t.0.2.0 k.1).0 in
    view_declared p slot (subst (λ n. is_missing p.declarations (use_of kind.Uav n) ≡ false) t.1
    (subst (λ x. is_missing p.declarations (use_of x i.o1.slot) ≡ false) v missing))
