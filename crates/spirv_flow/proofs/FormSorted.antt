-- An instruction that takes ids that are known, of the types that it asks, has operands of the right sorts (SPIR-V specification,
-- unified1, section 3.52).
use Rattle.std.proofs.Common.{◌≡◌, ℕ, ◌<◌, ◌⊎◌, ⊎_elim, List, [], ◌∷◌, Option, Some, None, Bool, true, false, refl, sym, ap, ◌∙◌, subst, arith}
use Rattle.std.specs.Prelude.{nat_eq, ◌&&◌, ◌||◌, cond, is_some, IsTrue, zero, suc}
use Rattle.std.specs.List.{list_all}
use Rattle.std.proofs.lemmas.Bool.{and_from, eq-eqb}
use Rattle.shader_tree.specs.Walks.{Each}
use Rattle.spirv_words.specs.StorageClass as storage
use Rattle.spirv_words.specs.StorageClass.{StorageBuffer, has_events, is_own, is_given}
use Rattle.spirv_words.specs.Roles.{ValueSort, AWord, ATruth, APair, Asks, Makes, Takes, Selects, Loads, Stores, Chains, Lengths, Extracts, Extends, Atomics, Free}
use Rattle.spirv_words.specs.Operations.{Op, op_of}
use Rattle.spirv_words.specs.Text.{Instr}
use Rattle.spirv_words.specs.Ids.{ids_of, definition, type_of}
use Rattle.spirv_words.specs.Sorts.{Sort, Vector, Array, RuntimeArray, Struct, Pointer, sort_of, sort_of_value, sort_of_type, literal_of, literal_of_instr, is_words, is_truths, is_pair, is_data, moves, same_type, are_alike}
use Rattle.spirv_words.specs.Operands.{defined_and, value_is, type_is, has_type, is_same, wants, Way, Leads, index_way, struct_way, way_by, chain_way, literal_way, extract_way, way_from, leads_to, is_pointer_to, is_pointer, loads, stores, changes, chains, measures, is_import, row_holds, op_sorted, is_sorted, extracts}
use Rattle.spirv_symbols.specs.declared.symbol.Access.{Access}
use Rattle.spirv_symbols.specs.declared.symbol.Symbol.{Symbol}
use Rattle.spirv_symbols.specs.declared.symbol.Symbol.TheVariants.{AType, Constant, Import}
use Rattle.spirv_symbols.specs.declared.symbol.TypeSymbol.{TypeSymbol}
use Rattle.spirv_symbols.specs.declared.symbol.TypeSymbol.TheVariants as type
use Rattle.spirv_symbols.specs.declared.symbol.TypeSymbol.TheVariants.{Word, Truth, Pair, WordPointer, TriplePointer, LocalPointer, SharedPointer, ViewPointer, VectorsPointer, PushPointer, Void}
use Rattle.spirv_symbols.specs.declared.entry.Entry.{Entry}
use Rattle.spirv_symbols.specs.Contexts.{Context}
use Rattle.spirv_symbols.specs.Rows.{needs}
use Rattle.spirv_symbols.specs.Tables.{Has, AreThere, id_of}
use Rattle.spirv_symbols.specs.Sorted.{Defines, id_of_type, sort_for}
use Rattle.spirv_emit.specs.Code as emit
use Rattle.spirv_emit.specs.Code.{Typed, typed, In, type_for, asks_of, asks_by, is_loaded, is_stored, IsOf, AreOf, TakesBy, IsTyped}

-- What is proved of a module's code and the ids of its symbols.
pub record Reads (c : Context) (names : List Entry) (code : List Instr) : Type 0 where
  pub defines : Defines c names code
  pub sorts : (y : TypeSymbol) (x : ℕ) → Has names (AType y) x → sort_of code x ≡ sort_for (id_of_type names) y
  pub founded : (s : Symbol) (x : ℕ) → Has names s x → AreThere names (needs c s) x
  pub found : (s : Symbol) (x : ℕ) → Has names s x → id_of names s ≡ x
  pub apart : (s u : Symbol) (x : ℕ) → Has names s x → Has names u x → s ≡ u

-- The ids that are known have their types; but the function, of type void, is no value.
abbrev pub AreRight : List Entry → List Instr → List Typed → Type 0
AreRight names code known = (x t : ℕ) → In known (typed x t) → (type_of code x ≡ Some t) ⊎ Has names (AType Void) t

abbrev is_void : Symbol → Bool
is_void (AType Void) = true
is_void s = false

always : (d b : Bool) → b ≡ true → cond d b true ≡ true
always true b h = h
always false b h = refl

or_left : (a b : Bool) → a ≡ true → (a || b) ≡ true
or_left true b h = refl
or_left false b h = absurd (cc)

equals : (n m : ℕ) → n ≡ m → nat_eq n m ≡ true
equals n m e = eq-eqb n m e

is_not : (y : TypeSymbol) → is_void (AType y) ≡ false → AType y ≡ AType Void → ⊥
is_not y n e = let t : is_void (AType y) ≡ true = ap is_void e in absurd (cc)

loaded_moves : (e o g : Bool) → (e || (o || g)) ≡ true → ((e && true) || ((o || g) && true)) ≡ true
loaded_moves true o g h = refl
loaded_moves false true g h = refl
loaded_moves false false true h = refl
loaded_moves false false false h = h

stored_moves : (e o g : Bool) → (e || o) ≡ true → ((e && true) || ((o || g) && true)) ≡ true
stored_moves true o g h = refl
stored_moves false true g h = refl
stored_moves false false g h = absurd (cc)

module _ (c : Context) (names : List Entry) (code : List Instr) (m : Reads c names code) (known : List Typed) (k : AreRight names code known) where
  abbrev ids : TypeSymbol → ℕ
  ids y = id_of_type names y

  defined_any : (x : ℕ) (b : Bool) → b ≡ true → defined_and code x b ≡ true
  defined_any x b h = always (is_some (definition code x)) b h

  own_id : (s : Symbol) (x : ℕ) → Has names s x → Has names s (id_of names s)
  own_id s x h = subst (λ y. Has names s y) (sym (m.found s x h)) h

  there : (s : Symbol) (b : ℕ) → ((id : ℕ) × Has names s id × (id < b)) → Has names s (id_of names s)
  there s b h = own_id s h.0 h.1

  of_type : (y : TypeSymbol) (x : ℕ) → IsOf names known y x → is_void (AType y) ≡ false → type_of code x ≡ Some (ids y)
  of_type y x h n =
      ⊎_elim (λ e. e ∙ ap Some (sym (m.found (AType y) h.0 h.1))) (λ v. absurd (is_not y n (m.apart (AType y) (AType Void) h.0 h.1 v)))
      (k x h.0 h.2)

  own_type : (y : TypeSymbol) (x : ℕ) → IsOf names known y x → Has names (AType y) (ids y)
  own_type y x h = own_id (AType y) h.0 h.1

  sort_here : (y : TypeSymbol) (x : ℕ) → IsOf names known y x → is_void (AType y) ≡ false → sort_of_value code x ≡ sort_for ids y
  sort_here y x h n = ap (sort_of_type code) (of_type y x h n) ∙ m.sorts y (ids y) (own_type y x h)

  value_by : (test : Sort → Bool) (y : TypeSymbol) (x : ℕ) → IsOf names known y x → is_void (AType y) ≡ false → test (sort_for ids y) ≡ true
      → value_is code test x ≡ true
  value_by test y x h n e = defined_any x (test (sort_of_value code x)) (ap test (sort_here y x h n) ∙ e)

  all_by : (test : Sort → Bool) (xs : List ℕ) → Each (λ x. value_is code test x ≡ true) xs → list_all (value_is code test) xs ≡ true
  all_by test [] h = refl
  all_by test (x ∷ xs) h = and_from (value_is code test x) (list_all (value_is code test) xs) h.0 (all_by test xs h.1)

  each_value : (test : Sort → Bool) (y : TypeSymbol) (xs : List ℕ) → ((x : ℕ) → IsOf names known y x → value_is code test x ≡ true)
      → AreOf names known y xs → Each (λ x. value_is code test x ≡ true) xs
  each_value test y [] f h = tt
  each_value test y (x ∷ xs) f h = (f x h.0, each_value test y xs f h.1)

  type_by : (test : Sort → Bool) (y : TypeSymbol) (t : ℕ) → Has names (AType y) t → test (sort_for ids y) ≡ true → type_is code test t ≡ true
  type_by test y t h e = defined_any t (test (sort_of code t)) (ap test (m.sorts y t h) ∙ e)

  -- WORDS, truths and pairs
  word_sort : (t : ℕ) → Has names (AType Word) t → is_words (sort_of code t) ≡ true
  word_sort t h = ap is_words (m.sorts Word t h)

  pair_words : (t : ℕ) → Has names (AType Pair) t → is_pair code (sort_for ids Pair) ≡ true
  pair_words t h =
      let w = word_sort (ids Word) (there (AType Word) t (m.founded (AType Pair) t h).0) in
      and_from (is_words (sort_of code (ids Word))) (is_words (sort_of code (ids Word))) w w

  wants_by : (v : ValueSort) (t : ℕ) → Has names (AType (type_for v)) t → wants code v (sort_for ids (type_for v)) ≡ true
  wants_by AWord t h = refl
  wants_by ATruth t h = refl
  wants_by APair t h = pair_words t h

  no_void : (v : ValueSort) → is_void (AType (type_for v)) ≡ false
  no_void AWord = refl
  no_void ATruth = refl
  no_void APair = refl

  wanted : (v : ValueSort) (x : ℕ) → IsOf names known (type_for v) x → value_is code (wants code v) x ≡ true
  wanted v x h = value_by (wants code v) (type_for v) x h (no_void v) (wants_by v h.0 h.1)

  all_wanted : (v : ValueSort) (xs : List ℕ) → AreOf names known (type_for v) xs → list_all (value_is code (wants code v)) xs ≡ true
  all_wanted v xs h = all_by (wants code v) xs (each_value (wants code v) (type_for v) xs (wanted v) h)

  all_words : (xs : List ℕ) → AreOf names known Word xs → list_all (value_is code is_words) xs ≡ true
  all_words xs h = all_by is_words xs (each_value is_words Word xs (λ x i. value_by is_words Word x i refl refl) h)

  a_word : (t : ℕ) → Has names (AType Word) t → type_is code is_words t ≡ true
  a_word t h = type_by is_words Word t h refl

  same_word : (t : ℕ) → Has names (AType Word) t → same_type code (ids Word) t ≡ true
  same_word t h = or_left (nat_eq (ids Word) t) (are_alike code (sort_of code (ids Word)) (sort_of code t)) (equals (ids Word) t (m.found (AType Word) t h))

  typed_word : (x : ℕ) → IsOf names known Word x → has_type code x (ids Word) ≡ true
  typed_word x h =
      defined_any x (is_same code (type_of code x) (ids Word))
      (ap (λ o. is_same code o (ids Word)) (of_type Word x h refl) ∙ same_word (ids Word) (own_type Word x h))

  -- MEMORY
  pointee : (class p : ℕ) → IsOf names known (WordPointer class) p → Has names (AType Word) (ids Word)
  pointee class p h = there (AType Word) h.0 (m.founded (AType (WordPointer class)) h.0 h.1).0

  loads_by : (class t p : ℕ) → Has names (AType Word) t → IsOf names known (WordPointer class) p → is_loaded class ≡ true
      → value_is code (loads code t) p ≡ true
  loads_by class t p h q l =
      value_by (loads code t) (WordPointer class) p q refl
      (defined_any t (same_type code (ids Word) t && moves code class (sort_of code t))
      (and_from (same_type code (ids Word) t) (moves code class (sort_of code t)) (same_word t h)
      (ap (moves code class) (m.sorts Word t h) ∙ loaded_moves (has_events class) (is_own class) (is_given class) l)))

  stores_by : (class p x : ℕ) → IsOf names known (WordPointer class) p → is_stored class ≡ true → IsOf names known Word x
      → value_is code (stores code x) p ≡ true
  stores_by class p x q l h =
      value_by (stores code x) (WordPointer class) p q refl
      (and_from (has_events class || is_own class) (moves code class (sort_of code (ids Word)) && has_type code x (ids Word)) l
      (and_from (moves code class (sort_of code (ids Word))) (has_type code x (ids Word))
      (ap (moves code class) (m.sorts Word (ids Word) (pointee class p q)) ∙ stored_moves (has_events class) (is_own class) (is_given class) l)
      (typed_word x h)))

  changes_by : (class p : ℕ) → IsOf names known (WordPointer class) p → has_events class ≡ true → value_is code (changes code) p ≡ true
  changes_by class p q l =
      value_by (changes code) (WordPointer class) p q refl
      (and_from (has_events class) (is_words (sort_of code (ids Word))) l (word_sort (ids Word) (pointee class p q)))

  -- CHAINS, by what the pointer points to
  pointed : (class t : ℕ) → Has names (AType (WordPointer class)) t → (way : Way) → way ≡ Leads (ids Word)
      → leads_to way (λ u. type_is code (λ s. is_pointer_to code s class u) t) ≡ true
  pointed class t h way e =
      ap (λ w. leads_to w (λ u. type_is code (λ s. is_pointer_to code s class u) t)) e
      ∙ type_by (λ s. is_pointer_to code s class (ids Word)) (WordPointer class) t h
      (and_from (nat_eq class class) (same_type code (ids Word) (ids Word)) (equals class class refl)
      (same_word (ids Word) (there (AType Word) t (m.founded (AType (WordPointer class)) t h).0)))

  zero_literal : (z : ℕ) → Has names (Constant 0) z → literal_of code z ≡ Some 0
  zero_literal z h = ap literal_of_instr (m.defines.front (Constant 0) z h refl)

  -- the way of one index into a type that is there
  on_array : (y : TypeSymbol) (t : ℕ) (element count x : ℕ) (xs : List ℕ) → Has names (AType y) t → sort_for ids y ≡ Array element count
      → chain_way code (x ∷ xs) t ≡ chain_way code xs element
  on_array y t element count x xs h e = ap (λ s. way_by code (chain_way code xs) (index_way code s x)) (m.sorts y t h ∙ e)

  on_vector : (y : TypeSymbol) (t : ℕ) (element count x : ℕ) (xs : List ℕ) → Has names (AType y) t → sort_for ids y ≡ Vector element count
      → chain_way code (x ∷ xs) t ≡ chain_way code xs element
  on_vector y t element count x xs h e = ap (λ s. way_by code (chain_way code xs) (index_way code s x)) (m.sorts y t h ∙ e)

  on_words : (y : TypeSymbol) (t : ℕ) (element x : ℕ) (xs : List ℕ) → Has names (AType y) t → sort_for ids y ≡ RuntimeArray element
      → chain_way code (x ∷ xs) t ≡ chain_way code xs element
  on_words y t element x xs h e = ap (λ s. way_by code (chain_way code xs) (index_way code s x)) (m.sorts y t h ∙ e)

  on_struct : (y : TypeSymbol) (t : ℕ) (member z : ℕ) (xs : List ℕ) → Has names (AType y) t → sort_for ids y ≡ Struct (member ∷ [])
      → Has names (Constant 0) z → chain_way code (z ∷ xs) t ≡ chain_way code xs member
  on_struct y t member z xs h e n =
      ap (λ s. way_by code (chain_way code xs) (index_way code s z)) (m.sorts y t h ∙ e)
      ∙ ap (λ o. way_by code (chain_way code xs) (struct_way (member ∷ []) (is_some (definition code z)) o)) (zero_literal z n)

  chained : (class : ℕ) (pointer : TypeSymbol) (t p : ℕ) (xs : List ℕ) (pointed_class pointed_type : ℕ) → is_void (AType pointer) ≡ false
      → sort_for ids pointer ≡ Pointer pointed_class pointed_type → class ≡ pointed_class → IsOf names known pointer p
      → Has names (AType (WordPointer class)) t → chain_way code xs pointed_type ≡ Leads (ids Word) → value_is code (chains code t xs) p ≡ true
  chained class pointer t p xs pc pt n e same q h way =
      value_by (chains code t xs) pointer p q n
      (ap (chains code t xs) e
      ∙ subst (λ d. leads_to (chain_way code xs pt) (λ u. type_is code (λ s. is_pointer_to code s d u) t) ≡ true) same
      (pointed class t h (chain_way code xs pt) way))

  chains_by : (class : ℕ) (pointer : TypeSymbol) (t p : ℕ) (xs : List ℕ) → Has names (AType (WordPointer class)) t → IsOf names known pointer p
      → emit.Leads names known pointer class xs → (list_all (value_is code is_words) xs && value_is code (chains code t xs) p) ≡ true
  chains_by class TriplePointer t p (x ∷ []) h q l =
      let f = (m.founded (AType TriplePointer) q.0 q.1).0 in
      and_from (list_all (value_is code is_words) (x ∷ [])) (value_is code (chains code t (x ∷ [])) p) (all_words (x ∷ []) (l.1, tt))
      (chained class TriplePointer t p (x ∷ []) storage.Input (ids type.Triple) refl refl l.0 q h
      (on_vector type.Triple (ids type.Triple) (ids Word) 3 x [] (there (AType type.Triple) q.0 f) refl))
  chains_by class (LocalPointer n) t p (x ∷ []) h q l =
      let f = (m.founded (AType (LocalPointer n)) q.0 q.1).0 in
      and_from (list_all (value_is code is_words) (x ∷ [])) (value_is code (chains code t (x ∷ [])) p) (all_words (x ∷ []) (l.1, tt))
      (chained class (LocalPointer n) t p (x ∷ []) storage.Function (ids (type.Words n)) refl refl l.0 q h
      (on_array (type.Words n) (ids (type.Words n)) (ids Word) n x [] (there (AType (type.Words n)) q.0 f) refl))
  chains_by class (SharedPointer n) t p (x ∷ []) h q l =
      let f = (m.founded (AType (SharedPointer n)) q.0 q.1).0 in
      and_from (list_all (value_is code is_words) (x ∷ [])) (value_is code (chains code t (x ∷ [])) p) (all_words (x ∷ []) (l.1, tt))
      (chained class (SharedPointer n) t p (x ∷ []) storage.Workgroup (ids (type.Words n)) refl refl l.0 q h
      (on_array (type.Words n) (ids (type.Words n)) (ids Word) n x [] (there (AType (type.Words n)) q.0 f) refl))
  chains_by class (ViewPointer access) t p (z ∷ x ∷ []) h q l =
      let view = there (AType (type.View access)) q.0 (m.founded (AType (ViewPointer access)) q.0 q.1).0 in
      let array = there (AType type.RuntimeWords) (ids (type.View access)) (m.founded (AType (type.View access)) (ids (type.View access)) view).0 in
      and_from (list_all (value_is code is_words) (z ∷ x ∷ [])) (value_is code (chains code t (z ∷ x ∷ [])) p) (all_words (z ∷ x ∷ []) l.2)
      (chained class (ViewPointer access) t p (z ∷ x ∷ []) storage.StorageBuffer (ids (type.View access)) refl refl l.0 q h
      (on_struct (type.View access) (ids (type.View access)) (ids type.RuntimeWords) z (x ∷ []) view refl l.1
      ∙ on_words type.RuntimeWords (ids type.RuntimeWords) (ids Word) x [] array refl))
  chains_by class (VectorsPointer n) t p (z ∷ x ∷ y ∷ []) h q l =
      let block = there (AType (type.VectorsBlock n)) q.0 (m.founded (AType (VectorsPointer n)) q.0 q.1).0 in
      let array = there (AType (type.Vectors n)) (ids (type.VectorsBlock n))
      (m.founded (AType (type.VectorsBlock n)) (ids (type.VectorsBlock n)) block).0 in
      let quad = there (AType type.Quad) (ids (type.Vectors n)) (m.founded (AType (type.Vectors n)) (ids (type.Vectors n)) array).0 in
      and_from (list_all (value_is code is_words) (z ∷ x ∷ y ∷ [])) (value_is code (chains code t (z ∷ x ∷ y ∷ [])) p)
      (all_words (z ∷ x ∷ y ∷ []) l.2)
      (chained class (VectorsPointer n) t p (z ∷ x ∷ y ∷ []) storage.Uniform (ids (type.VectorsBlock n)) refl refl l.0 q h
      (on_struct (type.VectorsBlock n) (ids (type.VectorsBlock n)) (ids (type.Vectors n)) z (x ∷ y ∷ []) block refl l.1
      ∙ (on_array (type.Vectors n) (ids (type.Vectors n)) (ids type.Quad) n x (y ∷ []) array refl
      ∙ on_vector type.Quad (ids type.Quad) (ids Word) 4 y [] quad refl)))
  chains_by class (PushPointer n) t p (z ∷ x ∷ []) h q l =
      let block = there (AType (type.PushBlock n)) q.0 (m.founded (AType (PushPointer n)) q.0 q.1).0 in
      let array = there (AType (type.PushWords n)) (ids (type.PushBlock n))
      (m.founded (AType (type.PushBlock n)) (ids (type.PushBlock n)) block).0 in
      and_from (list_all (value_is code is_words) (z ∷ x ∷ [])) (value_is code (chains code t (z ∷ x ∷ [])) p) (all_words (z ∷ x ∷ []) l.2)
      (chained class (PushPointer n) t p (z ∷ x ∷ []) storage.PushConstant (ids (type.PushBlock n)) refl refl l.0 q h
      (on_struct (type.PushBlock n) (ids (type.PushBlock n)) (ids (type.PushWords n)) z (x ∷ []) block refl l.1
      ∙ on_array (type.PushWords n) (ids (type.PushWords n)) (ids Word) n x [] array refl))
  chains_by class pointer t p xs h q l = absurd l

  -- LENGTHS of views, and parts of pairs
  measures_by : (access : Access) (p n : ℕ) → IsOf names known (ViewPointer access) p → n ≡ 0 → value_is code (measures code n) p ≡ true
  measures_by access p n q e =
      let view = there (AType (type.View access)) q.0 (m.founded (AType (ViewPointer access)) q.0 q.1).0 in
      let array = there (AType type.RuntimeWords) (ids (type.View access)) (m.founded (AType (type.View access)) (ids (type.View access)) view).0 in
      subst (λ i. value_is code (measures code i) p ≡ true) (sym e)
      (value_by (measures code 0) (ViewPointer access) p q refl (rw (
        m.sorts (type.View access) (ids (type.View access)) view,
        m.sorts type.RuntimeWords (ids type.RuntimeWords) array,
      ) refl))

  picks_word : (w n : ℕ) → n < 2 → literal_way (Struct (w ∷ w ∷ [])) n ≡ Leads w
  picks_word w zero lt = refl
  picks_word w (suc zero) lt = refl
  picks_word w (suc (suc n)) lt = absurd (omega (arith, lt))

  extracts_by : (t x n : ℕ) → Has names (AType Word) t → IsOf names known Pair x → n < 2
      → defined_and code x (extracts code t (way_from (extract_way code (n ∷ [])) (type_of code x))) ≡ true
  extracts_by t x n h q lt =
      defined_any x (extracts code t (way_from (extract_way code (n ∷ [])) (type_of code x)))
      (ap (λ o. extracts code t (way_from (extract_way code (n ∷ [])) o)) (of_type Pair x q refl)
      ∙ (ap (λ s. extracts code t (way_by code (λ u. Leads u) (literal_way s n))) (m.sorts Pair (ids Pair) (own_type Pair x q))
      ∙ (ap (λ w. extracts code t (way_by code (λ u. Leads u) w)) (picks_word (ids Word) n lt)
      ∙ defined_any t (same_type code (ids Word) t) (same_word t h))))

  imports_by : (set : ℕ) → Has names Import set → is_import (definition code set) ≡ true
  imports_by set h = ap is_import (m.defines.whole Import set h)

  sorted_by : (asks : Asks) (uses os : List ℕ) → TakesBy names known asks uses os → row_holds code asks uses os ≡ true
  sorted_by (Makes result operands) uses (t ∷ r ∷ xs) h =
      and_from (type_is code (wants code result) t) (list_all (value_is code (wants code operands)) xs)
      (type_by (wants code result) (type_for result) t h.0 (wants_by result t h.0)) (all_wanted operands xs h.1)
  sorted_by (Takes operands) uses os h = all_wanted operands uses h
  sorted_by Selects uses (t ∷ r ∷ x ∷ xs) h =
      and_from (type_is code is_words t) (value_is code is_truths x && list_all (value_is code is_words) xs) (a_word t h.0)
      (and_from (value_is code is_truths x) (list_all (value_is code is_words) xs) (value_by is_truths Truth x h.1 refl refl) (all_words xs h.2))
  sorted_by Loads uses (t ∷ r ∷ p ∷ []) h =
      and_from (type_is code (is_data code) t) (value_is code (loads code t) p) (type_by (is_data code) Word t h.0 refl)
      (loads_by h.1.0 t p h.0 h.1.1 h.1.2)
  sorted_by Stores uses (p ∷ x ∷ []) h =
      and_from (value_is code (stores code x) p) (value_is code (is_data code) x) (stores_by h.0.0 p x h.0.1 h.0.2 h.1)
      (value_by (is_data code) Word x h.1 refl refl)
  sorted_by Chains uses (t ∷ r ∷ p ∷ xs) h =
      and_from (type_is code is_pointer t) (list_all (value_is code is_words) xs && value_is code (chains code t xs) p)
      (type_by is_pointer (WordPointer h.0) t h.2 refl) (chains_by h.0 h.1 t p xs h.2 h.3 h.4)
  sorted_by Lengths uses (t ∷ r ∷ p ∷ n ∷ []) h =
      and_from (type_is code is_words t) (value_is code (measures code n) p) (a_word t h.0) (measures_by h.1.0 p n h.1.1 h.2)
  sorted_by Extracts uses (t ∷ r ∷ x ∷ n ∷ []) h =
      and_from (type_is code (is_data code) t)
      (defined_and code x (extracts code t (way_from (extract_way code (n ∷ [])) (type_of code x)))) (type_by (is_data code) Word t h.0 refl)
      (extracts_by t x n h.0 h.1 h.2)
  sorted_by Extends uses (t ∷ r ∷ set ∷ n ∷ xs) h =
      and_from (type_is code is_words t) (is_import (definition code set) && list_all (value_is code is_words) xs) (a_word t h.0)
      (and_from (is_import (definition code set)) (list_all (value_is code is_words) xs) (imports_by set h.1) (all_words xs h.2))
  sorted_by Atomics uses (t ∷ r ∷ p ∷ xs) h =
      and_from (type_is code is_words t) (value_is code (changes code) p && list_all (value_is code is_words) xs) (a_word t h.0)
      (and_from (value_is code (changes code) p) (list_all (value_is code is_words) xs) (changes_by h.1.0 p h.1.1 h.1.2) (all_words xs h.2))
  sorted_by Free uses os h = refl
  sorted_by asks uses os h = absurd h

  of_op : (o : Option Op) (uses os : List ℕ) → TakesBy names known (asks_by o) uses os → op_sorted code o uses os ≡ true
  of_op None uses os h = refl
  of_op (Some op) uses os h = sorted_by (emit.asks_by (Some op)) uses os h

  pub typed_sorted : (i : Instr) → IsTyped names known i → IsTrue (is_sorted code i)
  typed_sorted i h = of_op (op_of i.op) (ids_of i).uses i.operands h
