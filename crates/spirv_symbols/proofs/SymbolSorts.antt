-- The sorts of the types of a table, and of the operands of its instructions.
use Rattle.std.proofs.Common.{◌≡◌, ℕ, ◌<◌, Bool, true, false, List, [], ◌∷◌, length, map, Some, None, refl, sym, ap, ◌∙◌, subst}
use Rattle.std.specs.Prelude.{◌&&◌, ◌||◌, nat_eq, if◌then◌else◌, is_some, replicate, Option}
use Rattle.std.specs.List.{list_all}
use Rattle.std.proofs.lemmas.Bool.{eq-eqb}
use Rattle.word_base.specs.declared.event.Room.TheVariants.{Resource, Uav, Counter, Shared}
use Rattle.spirv_words.specs.BuiltIn.{LocalInvocationIndex}
use Rattle.spirv_words.specs.StorageClass as storage
use Rattle.spirv_words.specs.Sorts as sort
use Rattle.spirv_words.specs.Sorts.{Sort, sort_of, sort_of_instr, sort_of_type, sort_of_value, literal_of, literal_of_instr, array_by, is_words, is_truths, is_data, is_data_type, same_type, are_alike, is_type as is_type_sort}
use Rattle.spirv_words.specs.Text.{Instr}
use Rattle.spirv_words.specs.Ids.{definition, declared, type_of, type_of_instr}
use Rattle.spirv_words.specs.Operands.{defined_and, type_is, has_type, is_same, is_constant, is_constant_instr, is_sorted, declares, returns, have_types, composes}
use Rattle.spirv_symbols.specs.declared.symbol.Access.TheVariants.{Plain, ReadOnly}
use Rattle.spirv_symbols.specs.declared.symbol.Symbol.{Symbol}
use Rattle.spirv_symbols.specs.declared.symbol.Symbol.TheVariants.{AType, Constant, True, Null, Immediates, Import, Main, FirstLabel, Input, Memory, Uniform, Push, Scratch, Register, Registers, Elements, ImmediateArray}
use Rattle.spirv_symbols.specs.declared.symbol.TypeSymbol.{TypeSymbol}
use Rattle.spirv_symbols.specs.declared.symbol.TypeSymbol.TheVariants.{Void, Procedure, Word, Truth, Triple, Quad, Pair, Words, PushWords, Vectors, RuntimeWords, View, VectorsBlock, PushBlock, WordPointer, TriplePointer, LocalPointer, SharedPointer, ViewPointer, VectorsPointer, PushPointer}
use Rattle.spirv_symbols.specs.declared.row.Part.TheVariants.{Of}
use Rattle.spirv_symbols.specs.Contexts.{Context, declared_of, size_of}
use Rattle.spirv_symbols.specs.Rows.{needs, needs_in, section_of, operand, instr_for, uav_access}
use Rattle.spirv_symbols.specs.Tables.{Entry, Has, AreThere, IsTable, id_of}
use Rattle.spirv_symbols.specs.Sorted.{Defines, is_front, id_of_type, sort_for, value_type}
use Rattle.spirv_symbols.proofs.Ids.{found_id}

type_front : (c : Context) (t : TypeSymbol) → is_front (section_of c (AType t)) ≡ true
type_front c Void = refl
type_front c t = refl

module _ (c : Context) (entries : List Entry) (next : ℕ) (tb : IsTable c entries next) (code : List Instr) (d : Defines c entries code) where
  abbrev ids : Symbol → ℕ
  ids = id_of entries

  -- what is needed has its id
  needed : (ss : List Symbol) (n : ℕ) (u : Symbol) (us : List Symbol) → ss ≡ u ∷ us → AreThere entries ss n → Has entries u (ids u)
  needed ss n u us e h =
      let p = (subst (λ l. AreThere entries l n) e h).0 in
      subst (λ x. Has entries u x) (sym (found_id c entries next u p.0 tb p.1)) p.1

  needed_second : (ss : List Symbol) (n : ℕ) (u v : Symbol) (us : List Symbol) → ss ≡ u ∷ v ∷ us → AreThere entries ss n → Has entries v (ids v)
  needed_second ss n u v us e h =
      let p = (subst (λ l. AreThere entries l n) e h).1.0 in
      subst (λ x. Has entries v x) (sym (found_id c entries next v p.0 tb p.1)) p.1

  founded : (s : Symbol) (x : ℕ) → Has entries s x → AreThere entries (needs c s) x
  founded s x h = tb.founded h.0 (record { symbol = s; id = x }) h.1

  pub first_need : (s u : Symbol) (us : List Symbol) (x : ℕ) → Has entries s x → needs c s ≡ u ∷ us → Has entries u (ids u)
  first_need s u us x h e = needed (needs c s) x u us e (founded s x h)

  pub second_need : (s u v : Symbol) (us : List Symbol) (x : ℕ) → Has entries s x → needs c s ≡ u ∷ v ∷ us → Has entries v (ids v)
  second_need s u v us x h e = needed_second (needs c s) x u v us e (founded s x h)

  -- THE SORTS, a clause a type
  literal : (w x : ℕ) → Has entries (Constant w) x → literal_of code x ≡ Some w
  literal w x h = ap literal_of_instr (d.front (Constant w) x h refl)

  sort_by : (t : TypeSymbol) (x : ℕ) → Has entries (AType t) x → sort_of code x ≡ sort_of_instr code (Some (instr_for c ids (AType t) x))
  sort_by t x h = ap (sort_of_instr code) (d.front (AType t) x h (type_front c t))

  sized : (t : TypeSymbol) (u : Symbol) (n x : ℕ) → Has entries (AType t) x → needs c (AType t) ≡ u ∷ Constant n ∷ []
      → array_by (ids u) (literal_of code (ids (Constant n))) ≡ sort.Array (ids u) n
  sized t u n x h e = ap (array_by (ids u)) (literal n (ids (Constant n)) (second_need (AType t) u (Constant n) [] x h e))

  pub sort_here : (t : TypeSymbol) (x : ℕ) → Has entries (AType t) x → sort_of code x ≡ sort_for (id_of_type entries) t
  sort_here Void x h = sort_by Void x h
  sort_here (Words n) x h = sort_by (Words n) x h ∙ sized (Words n) (AType Word) n x h refl
  sort_here (PushWords n) x h = sort_by (PushWords n) x h ∙ sized (PushWords n) (AType Word) n x h refl
  sort_here (Vectors n) x h = sort_by (Vectors n) x h ∙ sized (Vectors n) (AType Quad) n x h refl
  sort_here t x h = sort_by t x h

  -- the type of a value
  abbrev named : Option TypeSymbol → Option ℕ
  named None = None
  named (Some t) = Some (id_of_type entries t)

  pub type_here : (s : Symbol) (t : TypeSymbol) (x : ℕ) → Has entries s x → value_type c s ≡ Some t → type_of code x ≡ Some (id_of_type entries t)
  type_here s t x h e = ap type_of_instr (d.whole s x h) ∙ by s t e where
    by : (s : Symbol) (t : TypeSymbol) → value_type c s ≡ Some t → type_of_instr (Some (instr_for c ids s x)) ≡ Some (id_of_type entries t)
    by (AType u) t e = absurd (cc e)
    by Import t e = absurd (cc e)
    by Main t e = absurd (cc e)
    by FirstLabel t e = absurd (cc e)
    by (Memory (Resource slot)) t e = ap named e
    by (Memory (Uav slot)) t e = ap named e
    by (Memory (Counter slot)) t e = ap named e
    by (Memory (Shared slot)) t e = ap named e
    by s t e = ap named e

  -- TESTS of operands
  if_defined : (b t : Bool) → t ≡ true → (if b then t else true) ≡ true
  if_defined true t e = e
  if_defined false t e = refl

  both : (a b : Bool) → a ≡ true → b ≡ true → (a && b) ≡ true
  both true b e f = f
  both false b e f = absurd (cc e)

  or_left : (a b : Bool) → a ≡ true → (a || b) ≡ true
  or_left true b e = refl
  or_left false b e = absurd (cc e)

  equals : (n : ℕ) → nat_eq n n ≡ true
  equals n = eq-eqb n n refl

  -- a type meets a test
  type_meets : (t : TypeSymbol) (test : Sort → Bool) → Has entries (AType t) (ids (AType t)) → test (sort_for (id_of_type entries) t) ≡ true
      → type_is code test (ids (AType t)) ≡ true
  type_meets t test h e = if_defined _ (test (sort_of code (ids (AType t)))) (ap test (sort_here t (ids (AType t)) h) ∙ e)

  -- a value has a type
  has_its_type : (s : Symbol) (t : TypeSymbol) → Has entries s (ids s) → value_type c s ≡ Some t → has_type code (ids s) (ids (AType t)) ≡ true
  has_its_type s t h e =
      if_defined _ (is_same code (type_of code (ids s)) (ids (AType t)))
      (ap (λ o. is_same code o (ids (AType t))) (type_here s t (ids s) h e)
      ∙ or_left (nat_eq (ids (AType t)) (ids (AType t))) _ (equals (ids (AType t))))

  type_sort : (t : TypeSymbol) → is_type_sort (sort_for (id_of_type entries) t) ≡ true
  type_sort Void = refl
  type_sort t = refl

  a_type : (t : TypeSymbol) → Has entries (AType t) (ids (AType t)) → type_is code is_type_sort (ids (AType t)) ≡ true
  a_type t h = type_meets t is_type_sort h (type_sort t)

  -- arrays of words are data
  word_data : Has entries (AType Word) (ids (AType Word)) → is_data_type code (ids (AType Word)) ≡ true
  word_data h = ap (sort.is_data_by (sort.is_data_within code (length code))) (sort_here Word (ids (AType Word)) h)

  words_data : (n : ℕ) → Has entries (AType (Words n)) (ids (AType (Words n))) → type_is code (is_data code) (ids (AType (Words n))) ≡ true
  words_data n h =
      type_meets (Words n) (is_data code) h (word_data (first_need (AType (Words n)) (AType Word) (Constant n ∷ []) (ids (AType (Words n))) h refl))

  -- an array and its length
  array_meets : (t : TypeSymbol) (n : ℕ) → Has entries (AType t) (ids (AType t)) → Has entries (Constant n) (ids (Constant n))
      → (type_is code is_type_sort (ids (AType t)) && defined_and code (ids (Constant n)) (is_some (literal_of code (ids (Constant n))))) ≡ true
  array_meets t n h i =
      both (type_is code is_type_sort (ids (AType t))) _ (a_type t h)
      (if_defined _ (is_some (literal_of code (ids (Constant n)))) (ap is_some (literal n (ids (Constant n)) i)))

  -- a pointer's class, and an initializer of its type
  global_meets : (t : TypeSymbol) (class pointee : ℕ) → Has entries (AType t) (ids (AType t)) → sort_for (id_of_type entries) t ≡ sort.Pointer class
      pointee
      → type_is code (declares code class []) (ids (AType t)) ≡ true
  global_meets t class pointee h e =
      type_meets t (declares code class []) h (ap (declares code class []) e ∙ both (nat_eq class class) true (equals class) refl)

  local_meets : (t p : TypeSymbol) (s : Symbol) → Has entries (AType t) (ids (AType t)) → sort_for (id_of_type entries) t ≡ sort.Pointer
      storage.Function (ids (AType p))
      → Has entries s (ids s) → value_type c s ≡ Some p → type_is code (declares code storage.Function (ids s ∷ [])) (ids (AType t)) ≡ true
  local_meets t p s h e i d =
      type_meets t (declares code storage.Function (ids s ∷ [])) h
      (ap (declares code storage.Function (ids s ∷ [])) e ∙ both (has_type code (ids s) (ids (AType p))) true (has_its_type s p i d) refl)

  -- the composite of the immediate constant buffer
  replicated : (ws : List ℕ) → AreThere entries (needs_in (map (λ w. Of (Constant w)) ws)) next → (own : ℕ)
      → have_types code (map (operand ids own) (map (λ w. Of (Constant w)) ws)) (replicate (length ws) (ids (AType Word))) ≡ true
  replicated [] h own = refl
  replicated (w ∷ ws) h own =
      both (has_type code (ids (Constant w)) (ids (AType Word))) _
      (has_its_type (Constant w) Word (subst (λ x. Has entries (Constant w) x) (sym (found_id c entries next (Constant w) h.0.0 tb h.0.1)) h.0.1)
      refl)
      (replicated ws h.1 own)

  all_constant : (ws : List ℕ) → AreThere entries (needs_in (map (λ w. Of (Constant w)) ws)) next → (own : ℕ)
      → list_all (is_constant code) (map (operand ids own) (map (λ w. Of (Constant w)) ws)) ≡ true
  all_constant [] h own = refl
  all_constant (w ∷ ws) h own =
      let i = subst (λ x. Has entries (Constant w) x) (sym (found_id c entries next (Constant w) h.0.0 tb h.0.1)) h.0.1 in
      both (is_constant code (ids (Constant w))) _
      (if_defined _ (is_constant_instr (definition (declared code) (ids (Constant w))))
      (ap is_constant_instr (d.front (Constant w) (ids (Constant w)) i refl)))
      (all_constant ws h.1 own)

  -- THE INSTRUCTIONS, a clause a symbol
  has : (u : Symbol) → ((x : ℕ) × Has entries u x × (x < next)) → Has entries u (ids u)
  has u h = subst (λ x. Has entries u x) (sym (found_id c entries next u h.0 tb h.1)) h.1

  type_right : (t : TypeSymbol) (own : ℕ) → AreThere entries (needs c (AType t)) next → is_sorted code (instr_for c ids (AType t) own) ≡ true
  type_right Void own h = refl
  type_right Procedure own h = both (type_is code is_type_sort (ids (AType Void))) true (a_type Void (has (AType Void) h.0)) refl
  type_right Word own h = refl
  type_right Truth own h = refl
  type_right Triple own h = both (type_is code is_type_sort (ids (AType Word))) true (a_type Word (has (AType Word) h.0)) refl
  type_right Quad own h = both (type_is code is_type_sort (ids (AType Word))) true (a_type Word (has (AType Word) h.0)) refl
  type_right Pair own h =
      let w = a_type Word (has (AType Word) h.0) in
      both (type_is code is_type_sort (ids (AType Word))) _ w (both (type_is code is_type_sort (ids (AType Word))) true w refl)
  type_right (Words n) own h = array_meets Word n (has (AType Word) h.0) (has (Constant n) h.1.0)
  type_right (PushWords n) own h = array_meets Word n (has (AType Word) h.0) (has (Constant n) h.1.0)
  type_right (Vectors n) own h = array_meets Quad n (has (AType Quad) h.0) (has (Constant n) h.1.0)
  type_right RuntimeWords own h = both (type_is code is_type_sort (ids (AType Word))) true (a_type Word (has (AType Word) h.0)) refl
  type_right (View access) own h = both (type_is code is_type_sort (ids (AType RuntimeWords))) true
      (a_type RuntimeWords (has (AType RuntimeWords) h.0)) refl
  type_right (VectorsBlock n) own h = both (type_is code is_type_sort (ids (AType (Vectors n)))) true
      (a_type (Vectors n) (has (AType (Vectors n)) h.0)) refl
  type_right (PushBlock n) own h = both (type_is code is_type_sort (ids (AType (PushWords n)))) true
      (a_type (PushWords n) (has (AType (PushWords n)) h.0)) refl
  type_right (WordPointer class) own h = a_type Word (has (AType Word) h.0)
  type_right TriplePointer own h = a_type Triple (has (AType Triple) h.0)
  type_right (LocalPointer n) own h = a_type (Words n) (has (AType (Words n)) h.0)
  type_right (SharedPointer n) own h = a_type (Words n) (has (AType (Words n)) h.0)
  type_right (ViewPointer access) own h = a_type (View access) (has (AType (View access)) h.0)
  type_right (VectorsPointer n) own h = a_type (VectorsBlock n) (has (AType (VectorsBlock n)) h.0)
  type_right (PushPointer n) own h = a_type (PushBlock n) (has (AType (PushBlock n)) h.0)

  input_right : (b : Bool) (own : ℕ) → ((x : ℕ) × Has entries (AType (if b then WordPointer storage.Input else TriplePointer)) x × (x < next))
      → type_is code (declares code storage.Input []) (ids (AType (if b then WordPointer storage.Input else TriplePointer))) ≡ true
  input_right true own h = global_meets (WordPointer storage.Input) storage.Input (ids (AType Word)) (has (AType (WordPointer storage.Input)) h) refl
  input_right false own h = global_meets TriplePointer storage.Input (ids (AType Triple)) (has (AType TriplePointer) h) refl

  word_right : (own : ℕ) → AreThere entries (AType (WordPointer storage.Function) ∷ Constant 0 ∷ []) next
      → type_is code (declares code storage.Function (ids (Constant 0) ∷ [])) (ids (AType (WordPointer storage.Function))) ≡ true
  word_right own h = local_meets (WordPointer storage.Function) Word (Constant 0) (has (AType (WordPointer storage.Function)) h.0) refl
      (has (Constant 0) h.1.0) refl

  array_right : (n own : ℕ) → AreThere entries (AType (LocalPointer n) ∷ Null n ∷ []) next
      → type_is code (declares code storage.Function (ids (Null n) ∷ [])) (ids (AType (LocalPointer n))) ≡ true
  array_right n own h = local_meets (LocalPointer n) (Words n) (Null n) (has (AType (LocalPointer n)) h.0) refl (has (Null n) h.1.0) refl

  pub is_right : (s : Symbol) (own : ℕ) → AreThere entries (needs c s) next → is_sorted code (instr_for c ids s own) ≡ true
  is_right (AType t) own h = type_right t own h
  is_right (Constant w) own h = type_meets Word is_words (has (AType Word) h.0) refl
  is_right True own h = both (type_is code is_truths (ids (AType Truth))) true (type_meets Truth is_truths (has (AType Truth) h.0) refl) refl
  is_right (Null n) own h = words_data n (has (AType (Words n)) h.0)
  is_right Immediates own h =
      let n = length c.immediates in
      let w = has (AType (Words n)) h.0 in
      both (type_is code (composes code (map (operand ids own) (map (λ w. Of (Constant w)) c.immediates))) (ids (AType (Words n)))) _
      (type_meets (Words n) (composes code (map (operand ids own) (map (λ w. Of (Constant w)) c.immediates))) w
      (both (is_data_type code (ids (AType Word))) _
      (word_data (first_need (AType (Words n)) (AType Word) (Constant n ∷ []) (ids (AType (Words n))) w refl))
      (replicated c.immediates h.1 own)))
      (all_constant c.immediates h.1 own)
  is_right Import own h = refl
  is_right Main own h =
      both (type_is code is_type_sort (ids (AType Void))) _ (a_type Void (has (AType Void) h.0))
      (type_meets Procedure (returns code (ids (AType Void))) (has (AType Procedure) h.1.0)
      (if_defined _ (nat_eq (ids (AType Void)) (ids (AType Void))) (equals (ids (AType Void)))))
  is_right FirstLabel own h = refl
  is_right (Input b) own h = input_right (nat_eq b LocalInvocationIndex) own h.0
  is_right (Memory (Resource slot)) own h = global_meets _ storage.StorageBuffer _ (has (AType (ViewPointer ReadOnly)) h.0) refl
  is_right (Memory (Uav slot)) own h =
      let p = ViewPointer (uav_access (declared_of c (Memory (Uav slot))).coherent) in global_meets p storage.StorageBuffer _ (has (AType p) h.0) refl
  is_right (Memory (Counter slot)) own h = global_meets _ storage.StorageBuffer _ (has (AType (ViewPointer Plain)) h.0) refl
  is_right (Memory (Shared slot)) own h =
      let p = SharedPointer (size_of c (Memory (Shared slot))) in global_meets p storage.Workgroup _ (has (AType p) h.0) refl
  is_right (Uniform slot) own h = let p = VectorsPointer (size_of c (Uniform slot)) in global_meets p storage.Uniform _ (has (AType p) h.0) refl
  is_right Push own h = global_meets (PushPointer c.pushed) storage.PushConstant _ (has (AType (PushPointer c.pushed)) h.0) refl
  is_right (Scratch n) own h = word_right own h
  is_right (Register k) own h = word_right own h
  is_right Registers own h = array_right c.registers own h
  is_right (Elements slot) own h = array_right (size_of c (Elements slot)) own h
  is_right ImmediateArray own h =
      local_meets (LocalPointer (length c.immediates)) (Words (length c.immediates)) Immediates (has (AType (LocalPointer (length c.immediates))) h.0)
      refl (has Immediates h.1.0) refl
