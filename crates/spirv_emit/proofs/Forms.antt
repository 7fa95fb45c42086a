-- Single instructions: a lemma a form.
use Rattle.std.proofs.Common.{◌≡◌, ℕ, ◌<◌, inl, List, [], ◌∷◌, Option, Some, None, refl, sym, ap, ◌∙◌, subst}
use Rattle.std.specs.Prelude.{slice_get, Ok, option_map, true, nat_lt, length, IsTrue}
use Rattle.spirv_words.specs.Blocks.{flow_of_op}
use Rattle.spirv_words.specs.Ids.{defined_by, ids_of, ids_in, parts_of}
use Rattle.spirv_words.specs.Roles.{Part, ValueSort, Makes, Plain, AValue, Body}
use Rattle.spirv_words.specs.Operations.{Op, OpAtomicAnd, OpAtomicCompareExchange, OpAtomicExchange, OpAtomicIAdd, OpAtomicISub, OpAtomicOr, OpAtomicSMax, OpAtomicSMin, OpAtomicUMax, OpAtomicUMin, OpAtomicXor, OpCompositeExtract, OpControlBarrier, OpExtInst, OpLabel, OpLoad, OpLoopMerge, OpMemoryBarrier, OpSelect, OpStore, OpSwitch, Row, computes, four, one, op_of, row_of, three, two, value_from}
use Rattle.spirv_words.specs.Text.{Instr, fits_op, instr, is_instr}
use Rattle.spirv_words.specs.Values.{Value, word_of}
use Rattle.spirv_words.specs.Meanings.{Class, Unary, Binary, Ternary, Quaternary, OfTruth, OfTruths, Other, class_of, extended}
use Rattle.spirv_words.specs.Globals.{Machine, Places}
use Rattle.spirv_words.specs.Lane.{State, step, sets, act, act_in, act_of_op, is_glsl}
use Rattle.spirv_symbols.specs.declared.symbol.Symbol.TheVariants.{AType, Import}
use Rattle.spirv_symbols.specs.declared.symbol.TypeSymbol.TheVariants as symbol
use Rattle.spirv_symbols.specs.Tables.{Has}
use Rattle.spirv_emit.specs.Emission.{Emission}
use Rattle.spirv_emit.specs.Code.{In, Typed, typed, typed_by, asks_by, section_by, AreOf, TakesBy, type_for}
use Rattle.spirv_emit.specs.Lanes.{Site, IsWhole}
use Rattle.spirv_emit.specs.ModuleShape.{marks_in, marks_of_op}
use Rattle.spirv_emit.specs.Values.{Slot, slot, a_word, a_truth, a_pair, AreValues, AreKnown, Gives}
use Rattle.spirv_emit.specs.Operations.{row_at, computed, computed_by, calc, chosen, choosing, found, finding, part, taking}
use Rattle.spirv_emit.specs.Steps.{Adds}
use Rattle.spirv_words.specs.Layouts.{fits}
use Rattle.spirv_emit.proofs.Lists.{and_join}
use Rattle.spirv_emit.proofs.Giving.{and_then_ok, ok_same, added_gives}

-- an instruction of a whole module acts by its operation alone
pub acts : (z : Site) (s : State) (i : Instr) → IsWhole z → slice_get z.machine.code s.place ≡ Some i → step z.machine s ≡ act_of_op z.machine s
    (op_of i.op) i.operands
acts z s i whole at = rw (at, whole.sorted s.place i at, whole.defined s.place i at) refl

-- the operation of a row
row_is : (o : Option Op) (r : Row) → option_map row_of o ≡ Some r → (op : Op) × (o ≡ Some op) × (row_of op ≡ r)
row_is None r e = absurd (cc e)
row_is (Some op) r e = (op, refl, cc e)

-- what a class gives is what its instruction sets
module _ (m : Machine) (s : State) (t r : ℕ) where
  acts_one : (k : Class) (a : ℕ) (x u : Value) → s.values a ≡ Some x → computed k (x ∷ []) ≡ Ok u → act_in m s k (t ∷ r ∷ a ∷ []) ≡ sets s r u
  acts_one (Unary f) a x u h e = rw (h, e) refl
  acts_one (OfTruth f) a x u h e = rw (h, e) refl
  acts_one (Binary f) a x u h e = absurd (cc e)
  acts_one (Ternary f) a x u h e = absurd (cc e)
  acts_one (Quaternary f) a x u h e = absurd (cc e)
  acts_one (OfTruths f) a x u h e = absurd (cc e)
  acts_one (Other op) a x u h e = absurd (cc e)

  acts_two : (k : Class) (a b : ℕ) (x y u : Value) → s.values a ≡ Some x → s.values b ≡ Some y → computed k (x ∷ y ∷ []) ≡ Ok u
      → act_in m s k (t ∷ r ∷ a ∷ b ∷ []) ≡ sets s r u
  acts_two (Binary f) a b x y u h i e = rw (h, i, e) refl
  acts_two (OfTruths f) a b x y u h i e = rw (h, i, e) refl
  acts_two (Unary f) a b x y u h i e = absurd (cc e)
  acts_two (OfTruth f) a b x y u h i e = absurd (cc e)
  acts_two (Ternary f) a b x y u h i e = absurd (cc e)
  acts_two (Quaternary f) a b x y u h i e = absurd (cc e)
  acts_two (Other op) a b x y u h i e = absurd (cc e)

  acts_three : (k : Class) (a b c : ℕ) (x y w u : Value) → s.values a ≡ Some x → s.values b ≡ Some y → s.values c ≡ Some w
      → computed k (x ∷ y ∷ w ∷ []) ≡ Ok u
      → act_in m s k (t ∷ r ∷ a ∷ b ∷ c ∷ []) ≡ sets s r u
  acts_three (Ternary f) a b c x y w u h i j e = rw (h, i, j, e) refl
  acts_three (Binary f) a b c x y w u h i j e = absurd (cc e)
  acts_three (OfTruths f) a b c x y w u h i j e = absurd (cc e)
  acts_three (Unary f) a b c x y w u h i j e = absurd (cc e)
  acts_three (OfTruth f) a b c x y w u h i j e = absurd (cc e)
  acts_three (Quaternary f) a b c x y w u h i j e = absurd (cc e)
  acts_three (Other op) a b c x y w u h i j e = absurd (cc e)

  acts_four : (k : Class) (a b c d : ℕ) (x y w v u : Value) → s.values a ≡ Some x → s.values b ≡ Some y → s.values c ≡ Some w → s.values d ≡ Some v
      → computed k (x ∷ y ∷ w ∷ v ∷ []) ≡ Ok u → act_in m s k (t ∷ r ∷ a ∷ b ∷ c ∷ d ∷ []) ≡ sets s r u
  acts_four (Quaternary f) a b c d x y w v u h i j k e = rw (h, i, j, k, e) refl
  acts_four (Binary f) a b c d x y w v u h i j k e = absurd (cc e)
  acts_four (OfTruths f) a b c d x y w v u h i j k e = absurd (cc e)
  acts_four (Unary f) a b c d x y w v u h i j k e = absurd (cc e)
  acts_four (OfTruth f) a b c d x y w v u h i j k e = absurd (cc e)
  acts_four (Ternary f) a b c d x y w v u h i j k e = absurd (cc e)
  acts_four (Other op) a b c d x y w v u h i j k e = absurd (cc e)

-- WHAT A ROW SAYS of the instructions with its number.
some_row : (q r : Row) → Some q ≡ Some r → q ≡ r
some_row q r e = cc e

module _ (t r : ℕ) (os : List ℕ) where
  typed_at : (o : Option Op) (q : Row) → option_map row_of o ≡ Some q → q.defines ≡ AValue → typed_by (defined_by o) (t ∷ r ∷ os) ≡ typed r t ∷ []
  typed_at None q e d = absurd (cc e)
  typed_at (Some op) q e d = ap (λ k. typed_by k (t ∷ r ∷ os)) (ap (λ (y : Row). y.defines) (some_row (row_of op) q e) ∙ d)

  plain_at : (o : Option Op) (q : Row) → option_map row_of o ≡ Some q → q.flow (t ∷ r ∷ os) ≡ Plain → q.section (t ∷ r ∷ os) ≡ Body
      → (flow_of_op o (t ∷ r ∷ os) ≡ Plain) × (section_by o (t ∷ r ∷ os) ≡ Some Body)
  plain_at None q e d b = absurd (cc e)
  plain_at (Some op) q e d b = (
    ap (λ (y : Row). y.flow (t ∷ r ∷ os)) (some_row (row_of op) q e) ∙ d,
    ap Some (ap (λ (y : Row). y.section (t ∷ r ∷ os)) (some_row (row_of op) q e) ∙ b),
  )

  asks_at : (o : Option Op) (q : Row) → option_map row_of o ≡ Some q → asks_by o ≡ q.asks
  asks_at None q e = absurd (cc e)
  asks_at (Some op) q e = ap (λ (y : Row). y.asks) (some_row (row_of op) q e)

  own_at : (o : Option Op) (q : Row) (parts : List Part) → option_map row_of o ≡ Some q → q.layout ≡ value_from parts
      → In (ids_in (parts_of o) (t ∷ r ∷ os)).results r
  own_at None q parts e d = absurd (cc e)
  own_at (Some op) q parts e d =
      subst (λ l. In (ids_in l (t ∷ r ∷ os)).results r) (sym (ap (λ (y : Row). y.layout) (some_row (row_of op) q e) ∙ d)) (inl refl)

  fits_at : (o : Option Op) (q : Row) → option_map row_of o ≡ Some q → fits q.layout (t ∷ r ∷ os) ≡ true → fits_op o (t ∷ r ∷ os) ≡ true
  fits_at None q e d = absurd (cc e)
  fits_at (Some op) q e d = ap (λ (y : Row). fits y.layout (t ∷ r ∷ os)) (some_row (row_of op) q e) ∙ d

-- what computes words and truths makes no event
made_by : (code : List Instr) (places : Places) (op : Op) (os : List ℕ) (result operands : ValueSort) → (row_of op).asks ≡ Makes result operands
    → marks_in code places op os ≡ []
made_by code places OpLoad os x y e = absurd (cc e)
made_by code places OpStore os x y e = absurd (cc e)
made_by code places OpControlBarrier os x y e = absurd (cc e)
made_by code places OpMemoryBarrier os x y e = absurd (cc e)
made_by code places OpAtomicExchange os x y e = absurd (cc e)
made_by code places OpAtomicCompareExchange os x y e = absurd (cc e)
made_by code places OpAtomicIAdd os x y e = absurd (cc e)
made_by code places OpAtomicISub os x y e = absurd (cc e)
made_by code places OpAtomicSMin os x y e = absurd (cc e)
made_by code places OpAtomicUMin os x y e = absurd (cc e)
made_by code places OpAtomicSMax os x y e = absurd (cc e)
made_by code places OpAtomicUMax os x y e = absurd (cc e)
made_by code places OpAtomicAnd os x y e = absurd (cc e)
made_by code places OpAtomicOr os x y e = absurd (cc e)
made_by code places OpAtomicXor os x y e = absurd (cc e)
made_by code places OpLoopMerge os x y e = absurd (cc e)
made_by code places OpLabel os x y e = absurd (cc e)
made_by code places OpSwitch os x y e = absurd (cc e)
made_by code places op os x y e = refl

made_quiet : (code : List Instr) (places : Places) (os : List ℕ) (o : Option Op) (result operands : ValueSort) → asks_by o ≡ Makes result operands
    → marks_of_op code places o os ≡ []
made_quiet code places os None x y e = refl
made_quiet code places os (Some op) x y e = made_by code places op os x y e

pub fits_row : (n t r : ℕ) (os : List ℕ) (parts : List Part) (result operands : ValueSort) → row_at n ≡ Some (computes n parts result operands)
    → fits (value_from parts) (t ∷ r ∷ os) ≡ true → nat_lt (length (t ∷ r ∷ os)) 65535 ≡ true → IsTrue (is_instr (instr n (t ∷ r ∷ os)))
fits_row n t r os parts result operands row f l =
    and_join (fits_op (op_of n) (t ∷ r ∷ os)) (nat_lt (length (t ∷ r ∷ os)) 65535)
    (fits_at t r os (op_of n) (computes n parts result operands) row f) l

-- AN INSTRUCTION of one row with operands of one sort.
module _ (a d : Emission) (n t r : ℕ) (os : List ℕ) (parts : List Part) (result operands : ValueSort) where
  pub made_gives : (xs : List Slot) → row_at n ≡ Some (computes n parts result operands) → Has a.symbols.entries (AType (type_for result)) t
      → Adds a d (instr n (t ∷ r ∷ os)) r
      → ((z : Site) (k : List Typed) → AreKnown z.names k xs → AreOf z.names k (type_for operands) os)
      → ((m : Machine) (s : State) (vs : List Value) (u : Value) (op : Op) → AreValues s.values xs vs → computed (class_of op) vs ≡ Ok u
      → act_in m s (class_of op) (t ∷ r ∷ os) ≡ sets s r u)
      → Gives a d xs (slot r (type_for result) ∷ []) (calc n)
  made_gives xs row has h takes does =
      added_gives a d (instr n (t ∷ r ∷ os)) r t (type_for result) xs (calc n)
      (typed_at t r os (op_of n) (computes n parts result operands) row refl) has
      (plain_at t r os (op_of n) (computes n parts result operands) row refl refl) h
      (λ z comp k is. subst (λ q. TakesBy z.names k q (ids_of (instr n (t ∷ r ∷ os))).uses (t ∷ r ∷ os))
      (sym (asks_at t r os (op_of n) (computes n parts result operands) row)) (comp.has (AType (type_for result)) t has, takes z k is))
      (own_at t r os (op_of n) (computes n parts result operands) parts row refl)
      (λ z places is. made_quiet z.machine.code places (t ∷ r ∷ os) (op_of n) result operands
      (asks_at t r os (op_of n) (computes n parts result operands) row))
      (λ z comp s u vs ws at v mir e.
      let g = and_then_ok (computed_by (op_of n) vs) _ ws e in
      (g.0, sym (ok_same _ _ g.2), acts z s _ comp.whole at ∙ by z.machine s vs g.0 (op_of n) v g.1)) where
        by : (m : Machine) (s : State) (vs : List Value) (u : Value) (o : Option Op) → AreValues s.values xs vs → computed_by o vs ≡ Ok u
            → act_of_op m s o (t ∷ r ∷ os) ≡ sets s r u
        by m s vs u None v e = absurd (cc e)
        by m s vs u (Some op) v e = does m s vs u op v e

-- ONE TO FOUR OPERANDS of one sort.
module _ (a d : Emission) (n t r : ℕ) (result operands : ValueSort) where
  pub one_gives : (x : ℕ) → row_at n ≡ Some (computes n one result operands) → Has a.symbols.entries (AType (type_for result)) t
      → Adds a d (instr n (t ∷ r ∷ x ∷ [])) r → Gives a d (slot x (type_for operands) ∷ []) (slot r (type_for result) ∷ []) (calc n)
  one_gives x row has h = made_gives a d n t r (x ∷ []) one result operands (slot x (type_for operands) ∷ []) row has h (λ z k is. (is.0, tt)) by
    where
      by : (m : Machine) (s : State) (vs : List Value) (u : Value) (op : Op) → AreValues s.values (slot x (type_for operands) ∷ []) vs
          → computed (class_of op) vs ≡ Ok u → act_in m s (class_of op) (t ∷ r ∷ x ∷ []) ≡ sets s r u
      by m s [] u op v e = absurd v
      by m s (p ∷ []) u op v e = acts_one m s t r (class_of op) x p u v.0 e
      by m s (p ∷ q ∷ vs) u op v e = absurd v.1

  pub two_gives : (x y : ℕ) → row_at n ≡ Some (computes n two result operands) → Has a.symbols.entries (AType (type_for result)) t
      → Adds a d (instr n (t ∷ r ∷ x ∷ y ∷ [])) r
      → Gives a d (slot x (type_for operands) ∷ slot y (type_for operands) ∷ []) (slot r (type_for result) ∷ []) (calc n)
  two_gives x y row has h =
      made_gives a d n t r (x ∷ y ∷ []) two result operands (slot x (type_for operands) ∷ slot y (type_for operands) ∷ []) row has h
      (λ z k is. (is.0, (is.1.0, tt))) by where
        by : (m : Machine) (s : State) (vs : List Value) (u : Value) (op : Op)
            → AreValues s.values (slot x (type_for operands) ∷ slot y (type_for operands) ∷ []) vs
            → computed (class_of op) vs ≡ Ok u → act_in m s (class_of op) (t ∷ r ∷ x ∷ y ∷ []) ≡ sets s r u
        by m s [] u op v e = absurd v
        by m s (p ∷ []) u op v e = absurd v.1
        by m s (p ∷ q ∷ []) u op v e = acts_two m s t r (class_of op) x y p q u v.0 v.1.0 e
        by m s (p ∷ q ∷ o ∷ vs) u op v e = absurd v.1.1

  pub three_gives : (x y w : ℕ) → row_at n ≡ Some (computes n three result operands) → Has a.symbols.entries (AType (type_for result)) t
      → Adds a d (instr n (t ∷ r ∷ x ∷ y ∷ w ∷ [])) r
      → Gives a d (slot x (type_for operands) ∷ slot y (type_for operands) ∷ slot w (type_for operands) ∷ []) (slot r (type_for result) ∷ []) (calc n)
  three_gives x y w row has h =
      made_gives a d n t r (x ∷ y ∷ w ∷ []) three result operands
      (slot x (type_for operands) ∷ slot y (type_for operands) ∷ slot w (type_for operands) ∷ []) row has h
      (λ z k is. (is.0, (is.1.0, (is.1.1.0, tt)))) by where
        by : (m : Machine) (s : State) (vs : List Value) (u : Value) (op : Op)
            → AreValues s.values (slot x (type_for operands) ∷ slot y (type_for operands) ∷ slot w (type_for operands) ∷ []) vs
            → computed (class_of op) vs ≡ Ok u → act_in m s (class_of op) (t ∷ r ∷ x ∷ y ∷ w ∷ []) ≡ sets s r u
        by m s [] u op v e = absurd v
        by m s (p ∷ []) u op v e = absurd v.1
        by m s (p ∷ q ∷ []) u op v e = absurd v.1.1
        by m s (p ∷ q ∷ o ∷ []) u op v e = acts_three m s t r (class_of op) x y w p q o u v.0 v.1.0 v.1.1.0 e
        by m s (p ∷ q ∷ o ∷ i ∷ vs) u op v e = absurd v.1.1.1

  pub four_gives : (x y w i : ℕ) → row_at n ≡ Some (computes n four result operands) → Has a.symbols.entries (AType (type_for result)) t
      → Adds a d (instr n (t ∷ r ∷ x ∷ y ∷ w ∷ i ∷ [])) r
      → Gives a d (slot x (type_for operands) ∷ slot y (type_for operands) ∷ slot w (type_for operands) ∷ slot i (type_for operands) ∷ [])
      (slot r (type_for result) ∷ []) (calc n)
  four_gives x y w i row has h =
      made_gives a d n t r (x ∷ y ∷ w ∷ i ∷ []) four result operands
      (slot x (type_for operands) ∷ slot y (type_for operands) ∷ slot w (type_for operands) ∷ slot i (type_for operands) ∷ []) row has h
      (λ z k is. (is.0, (is.1.0, (is.1.1.0, (is.1.1.1.0, tt))))) by where
        by : (m : Machine) (s : State) (vs : List Value) (u : Value) (op : Op)
            → AreValues s.values (slot x (type_for operands) ∷ slot y (type_for operands) ∷ slot w (type_for operands) ∷ slot i (type_for operands) ∷
            []) vs
            → computed (class_of op) vs ≡ Ok u → act_in m s (class_of op) (t ∷ r ∷ x ∷ y ∷ w ∷ i ∷ []) ≡ sets s r u
        by m s [] u op v e = absurd v
        by m s (p ∷ []) u op v e = absurd v.1
        by m s (p ∷ q ∷ []) u op v e = absurd v.1.1
        by m s (p ∷ q ∷ o ∷ []) u op v e = absurd v.1.1.1
        by m s (p ∷ q ∷ o ∷ l ∷ []) u op v e = acts_four m s t r (class_of op) x y w i p q o l u v.0 v.1.0 v.1.1.0 v.1.1.1.0 e
        by m s (p ∷ q ∷ o ∷ l ∷ k ∷ vs) u op v e = absurd v.1.1.1.1

-- OpSelect
pub choose_gives : (a d : Emission) (t r c x y : ℕ) → Has a.symbols.entries (AType symbol.Word) t
    → Adds a d (instr 169 (t ∷ r ∷ c ∷ x ∷ y ∷ [])) r → Gives a d (a_truth c ∷ a_word x ∷ a_word y ∷ []) (a_word r ∷ []) choosing
choose_gives a d t r c x y has h =
    added_gives a d (instr 169 (t ∷ r ∷ c ∷ x ∷ y ∷ [])) r t symbol.Word (a_truth c ∷ a_word x ∷ a_word y ∷ []) choosing refl has (refl, refl) h
    (λ z comp k is. (comp.has (AType symbol.Word) t has, is.0, (is.1.0, (is.1.1.0, tt)))) (inl refl) (λ z places is. refl)
    (λ z comp s u vs ws at v mir e.
    let g = and_then_ok (chosen vs) _ ws e in
    (g.0, sym (ok_same _ _ g.2), acts z s _ comp.whole at ∙ by z.machine s vs g.0 v g.1)) where
      by : (m : Machine) (s : State) (vs : List Value) (u : Value) → AreValues s.values (a_truth c ∷ a_word x ∷ a_word y ∷ []) vs → chosen vs ≡ Ok u
          → act m s OpSelect (t ∷ r ∷ c ∷ x ∷ y ∷ []) ≡ sets s r u
      by m s [] u v e = absurd v
      by m s (p ∷ []) u v e = absurd v.1
      by m s (p ∷ q ∷ []) u v e = absurd v.1.1
      by m s (p ∷ q ∷ o ∷ []) u v e = rw (v.0, v.1.0, v.1.1.0, e) refl
      by m s (p ∷ q ∷ o ∷ i ∷ vs) u v e = absurd v.1.1.1

-- an extended instruction
pub find_gives : (a d : Emission) (t r set n x : ℕ) → Has a.symbols.entries (AType symbol.Word) t → Has a.symbols.entries Import set
    → Adds a d (instr 12 (t ∷ r ∷ set ∷ n ∷ x ∷ [])) r → Gives a d (a_word x ∷ []) (a_word r ∷ []) (finding n)
find_gives a d t r set n x has import h =
    added_gives a d (instr 12 (t ∷ r ∷ set ∷ n ∷ x ∷ [])) r t symbol.Word (a_word x ∷ []) (finding n) refl has (refl, refl) h
    (λ z comp k is. (comp.has (AType symbol.Word) t has, comp.has Import set import, (is.0, tt))) (inl refl) (λ z places is. refl)
    (λ z comp s u vs ws at v mir e.
    let g = and_then_ok (found n vs) _ ws e in
    (g.0, sym (ok_same _ _ g.2), acts z s _ comp.whole at ∙ by z.machine s vs g.0 (comp.whole.sorts Import set (comp.has Import set import)) v g.1))
  where
    by : (m : Machine) (s : State) (vs : List Value) (u : Value) → is_glsl m.code set ≡ true → AreValues s.values (a_word x ∷ []) vs
        → found n vs ≡ Ok u
        → act m s OpExtInst (t ∷ r ∷ set ∷ n ∷ x ∷ []) ≡ sets s r u
    by m s [] u q v e = absurd v
    by m s (p ∷ []) u q v e = let g = and_then_ok (word_of (Some p)) (extended n) u e in rw (v.0, g.1, q, g.2) refl
    by m s (p ∷ o ∷ vs) u q v e = absurd v.1

-- a part of a pair
pub take_gives : (a d : Emission) (t r c k : ℕ) → k < 2 → Has a.symbols.entries (AType symbol.Word) t
    → Adds a d (instr 81 (t ∷ r ∷ c ∷ k ∷ [])) r → Gives a d (a_pair c ∷ []) (a_word r ∷ []) (taking k)
take_gives a d t r c k lt has h =
    added_gives a d (instr 81 (t ∷ r ∷ c ∷ k ∷ [])) r t symbol.Word (a_pair c ∷ []) (taking k) refl has (refl, refl) h
    (λ z comp l is. (comp.has (AType symbol.Word) t has, is.0, lt)) (inl refl) (λ z places is. refl)
    (λ z comp s u vs ws at v mir e.
    let g = and_then_ok (part k vs) _ ws e in
    (g.0, sym (ok_same _ _ g.2), acts z s _ comp.whole at ∙ by z.machine s vs g.0 v g.1)) where
      by : (m : Machine) (s : State) (vs : List Value) (u : Value) → AreValues s.values (a_pair c ∷ []) vs → part k vs ≡ Ok u
          → act m s OpCompositeExtract (t ∷ r ∷ c ∷ k ∷ []) ≡ sets s r u
      by m s [] u v e = absurd v
      by m s (p ∷ []) u v e = rw (v.0, e) refl
      by m s (p ∷ o ∷ vs) u v e = absurd v.1
