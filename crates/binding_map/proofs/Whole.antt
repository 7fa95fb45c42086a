-- The default map, from the marks of a program and its four groups.
use Rattle.std.proofs.Common.{◌≡◌, ℕ, zero, suc, ◌+◌, ◌<◌, ◌≤◌, Bool, false, List, [], ◌∷◌, ◌++◌, map, filter, length, get_or, refl, ap, ◌∙◌, arith, cond}
use Rattle.std.specs.List.{range_with_len, list_any}
use Rattle.tpf_program.specs.Extents.{is_resource, is_uav, steps_counter}
use Rattle.tpf_program.specs.Program.{Shader}
use Rattle.binding_map.specs.declared.defaults.Group.{Group}
use Rattle.binding_map.specs.declared.defaults.Group.TheVariants.{Constants, Resources, Uavs, Counters}
use Rattle.binding_map.specs.declared.register.Register.{Register}
use Rattle.binding_map.specs.declared.register.Register.TheVariants.{Constant, Resource, Uav, Counter}
use Rattle.binding_map.specs.declared.registers.Registers.{Registers}
use Rattle.binding_map.specs.Bindings.{Binding}
use Rattle.binding_map.specs.Defaults.{is_constants, declared_slots, counter_slots, numbered, default_registers}
use Rattle.binding_map.specs.Marks.{AreMarks, HasMarks}
use Rattle.binding_map.specs.Numbering.{register_in, marked_below, marked_registers}
use Rattle.binding_map.proofs.Numbered.{follows}

-- two tests that agree on some numbers choose the same of them
pub same_choice : (f g : ℕ → Bool) (a n : ℕ) → ((k : ℕ) → a ≤ k → k < a + n → f k ≡ g k) → filter f (range_with_len a n) ≡ filter g (range_with_len a n)
same_choice f g a zero h = refl
same_choice f g a (suc n) h =
    let first : f a ≡ g a = h a (omega arith) (omega arith) in
    let rest : filter f (range_with_len (a + 1) n) ≡ filter g (range_with_len (a + 1) n) =
    same_choice f g (a + 1) n (λ k low high. h k (omega (arith, low)) (omega (arith, high))) in
    ap (λ b. cond b (a ∷ filter f (range_with_len (a + 1) n)) (filter f (range_with_len (a + 1) n))) first
    ∙ ap (λ l. cond (g a) (a ∷ l) l) rest

marked : (limit : ℕ) (group : Group) (marks : List Bool) (test : ℕ → Bool) → AreMarks limit marks test
    → marked_below (length marks) group marks ≡ map (register_in group) (filter test (range_with_len 0 limit))
marked limit group marks test m =
    ap (λ n. marked_below n group marks) m.count
    ∙ ap (map (register_in group)) (same_choice (λ slot. get_or marks slot false) test 0 limit (λ k low high. m.each k (omega (arith, high))))

-- four groups, each numbered behind the one before it
pub four_groups : (A B C D : List Register) (a b c d : List Binding)
    → a ≡ [] ++ numbered (length {A = Binding} []) A → b ≡ a ++ numbered (length a) B → c ≡ b ++ numbered (length b) C → d ≡ c ++ numbered (length c) D
    → d ≡ numbered 0 (A ++ B ++ C ++ D)
four_groups A B C D a b c d ea eb ec ed =
    let two : b ≡ numbered 0 (A ++ B) = follows A B a b ea eb in
    let three : c ≡ numbered 0 (A ++ B ++ C) = follows (A ++ B) C b c two ec in
    follows (A ++ B ++ C) D c d three ed

-- the marked registers of a program are those that its default map numbers
pub marked_are : (p : Shader) (r : Registers) → HasMarks r p.declarations p.instructions → marked_registers r ≡ default_registers p
marked_are p r m =
    let constants : marked_below (length r.constants) Constants r.constants ≡ map Constant (declared_slots 14 is_constants p) =
    marked 14 Constants r.constants (λ slot. list_any (λ d. is_constants slot d.what) p.declarations) m.constants in
    let resources : marked_below (length r.resources) Resources r.resources ≡ map Resource (declared_slots 128 is_resource p) =
    marked 128 Resources r.resources (λ slot. list_any (λ d. is_resource slot d.what) p.declarations) m.resources in
    let uavs : marked_below (length r.uavs) Uavs r.uavs ≡ map Uav (declared_slots 64 is_uav p) =
    marked 64 Uavs r.uavs (λ slot. list_any (λ d. is_uav slot d.what) p.declarations) m.uavs in
    let counters : marked_below (length r.counters) Counters r.counters ≡ map Counter (counter_slots p) =
    marked 64 Counters r.counters (λ slot. list_any (steps_counter slot) p.instructions) m.counters in
    joined_are constants resources uavs counters
  where
    joined_are : {A B C D E F G H : List Register} → A ≡ E → B ≡ F → C ≡ G → D ≡ H → (A ++ B ++ C ++ D) ≡ (E ++ F ++ G ++ H)
    joined_are {A} {B} {C} {D} {E} {F} {G} {H} a b c d =
        ap (λ l. l ++ B ++ C ++ D) a ∙ (ap (λ l. E ++ l ++ C ++ D) b ∙ (ap (λ l. E ++ F ++ l ++ D) c ∙ ap (λ l. E ++ F ++ G ++ l) d))
