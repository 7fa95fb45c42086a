-- The values of the ids of symbols at a lane's start.
use Rattle.std.proofs.Common.{◌≡◌, ℕ, zero, suc, ◌+◌, ◌<◌, ⊎_elim, Bool, true, false, List, [], ◌∷◌, ◌++◌, length, map, Some, None, refl, sym, ap, ◌∙◌, subst, arith}
use Rattle.std.specs.Prelude.{slice_get, ◌&&◌, nat_eq, nat_lt, if◌then◌else◌, cond, find, replicate, Option, option_and_then, option_map, Ok}
use Rattle.std.specs.List.{position, position_or_len}
use Rattle.std.proofs.lemmas.Bool.{eq-eqb}
use Rattle.std.proofs.lemmas.Bool.Decides.{eqb_tells, nat_tests}
use Rattle.word_base.specs.declared.event.Room.{Room}
use Rattle.word_base.specs.declared.event.Room.TheVariants.{Resource, Uav, Counter, Shared}
use Rattle.spirv_words.specs.StorageClass as storage
use Rattle.spirv_words.specs.Decoration as decorations
use Rattle.spirv_words.specs.Sections.{variables_of}
use Rattle.spirv_words.specs.Text.{Instr, instruction}
use Rattle.spirv_words.specs.Operations.{OpDecorate}
use Rattle.spirv_words.specs.Values.{Value, Word, AtRoom, AtConstants, AtInput, of_parts, words_in, cells_of, all_there}
use Rattle.spirv_words.specs.Globals.{Machine, decorates, decoration, global, global_within, value_of_instr, null_by, null_within, filled_slots, input_by, variable_by, bound_room, bound_slot}
use Rattle.spirv_symbols.specs.declared.symbol.Symbol.{Symbol}
use Rattle.spirv_symbols.specs.declared.symbol.Symbol.TheVariants.{AType, Constant, True, Null, Immediates, Input, Memory, Uniform, Push}
use Rattle.spirv_symbols.specs.declared.symbol.TypeSymbol.TheVariants.{Word as AWord, Words}
use Rattle.spirv_symbols.specs.declared.row.Part.TheVariants.{Of}
use Rattle.spirv_symbols.specs.declared.row.Marks.TheVariants.{Bound, BuiltIn}
use Rattle.spirv_symbols.specs.Contexts.{Context, declared_of}
use Rattle.spirv_symbols.specs.Rows.{needs_in, section_of, operand, instr_for, decorations_by, decorations_for}
use Rattle.spirv_symbols.specs.Tables.{Entry, entry, Has, AreThere, IsTable, id_of}
use Rattle.spirv_symbols.specs.Sorted.{Defines, is_front}
use Rattle.spirv_symbols.specs.Starts.{globals_of, slot_in, shared_slots, meaning, AreFound}
use Rattle.spirv_symbols.proofs.Ids.{found_id, place_of}
use Rattle.spirv_symbols.proofs.SymbolSorts.{sort_here, first_need}
use Rattle.spirv_symbols.proofs.DecorationLookups.{Aims, aims}

-- what a module has of its symbols, as far as values ask
pub record Declares (c : Context) (entries : List Entry) (code : List Instr) : Type 0 where
  pub defines : Defines c entries code
  pub decorated : (s : Symbol) (x : ℕ) (test : Instr → Bool) → Has entries s x → Aims x test → find test code ≡ find test (decorations_for c s x)
  pub variables : (classes : ℕ → Bool) → variables_of classes code ≡ globals_of classes entries
  pub long : ℕ
  pub length' : length code ≡ suc long

-- DECORATIONS
equals : (n : ℕ) → nat_eq n n ≡ true
equals n = eq-eqb n n refl

abbrev literal_in : Option Instr → Option ℕ
literal_in o = option_and_then (λ (i : Instr). slice_get i.operands 2) o

pub first_bound : (x set binding : ℕ) → literal_in (find (decorates x decorations.DescriptorSet) (decorations_by x (Bound set binding))) ≡ Some set
first_bound x set binding =
    ap (λ b. literal_in (cond (b && true) (Some (instruction OpDecorate (x ∷ 34 ∷ set ∷ [])))
    (cond (b && false) (Some (instruction OpDecorate (x ∷ 33 ∷ binding ∷ []))) None))) (equals x)

pub second_bound : (x set binding : ℕ) → literal_in (find (decorates x decorations.Binding) (decorations_by x (Bound set binding))) ≡ Some binding
second_bound x set binding =
    ap (λ b. literal_in (cond (b && false) (Some (instruction OpDecorate (x ∷ 34 ∷ set ∷ [])))
    (cond (b && true) (Some (instruction OpDecorate (x ∷ 33 ∷ binding ∷ []))) None))) (equals x)

pub the_built_in : (x b : ℕ) → literal_in (find (decorates x decorations.BuiltIn) (decorations_by x (BuiltIn b))) ≡ Some b
the_built_in x b = ap (λ t. literal_in (cond (t && true) (Some (instruction OpDecorate (x ∷ 11 ∷ b ∷ []))) None)) (equals x)

-- SHARED MEMORY: the slot of an id stands where the id stands
pub record At (x slot : ℕ) (ids slots : List ℕ) : Type 0 where
  pub within : position_or_len (nat_eq x) ids < length ids
  pub slot' : slice_get slots (position_or_len (nat_eq x) ids) ≡ Some slot

abbrev pub is_shared : ℕ → Bool
is_shared class = nat_eq class storage.Workgroup

at_first : (x slot : ℕ) (ids slots : List ℕ) → At x slot (x ∷ ids) (slot ∷ slots)
at_first x slot ids slots = let e : nat_eq x x ≡ true = equals x in record { within = rw (e) (omega arith); slot' = rw (e) refl }

at_later : (i k x slot : ℕ) (ids slots : List ℕ) → nat_eq x i ≡ false → At x slot ids slots → At x slot (i ∷ ids) (k ∷ slots)
at_later i k x slot ids slots e h =
    let next : 1 + position_or_len (nat_eq x) ids ≡ suc (position_or_len (nat_eq x) ids) = omega arith in
    record { within = rw (e) (omega (arith, h.within)); slot' = rw (e) (ap (slice_get (k ∷ slots)) next ∙ h.slot') }

abbrev ids_behind : Symbol → ℕ → List Entry → List ℕ
ids_behind s id es = globals_of is_shared (entry s id ∷ es)

at_further : (s : Symbol) (i x slot : ℕ) (es : List Entry) (slots : List ℕ) → nat_eq x i ≡ false → At x slot (globals_of is_shared es) slots
    → At x slot (ids_behind s i es) (slot_in s ++ slots)
at_further (Memory (Shared k)) i x slot es slots e h = at_later i k x slot (globals_of is_shared es) slots e h
at_further (Memory room) i x slot es slots e h = h
at_further s i x slot es slots e h = h

pub shared_at : (es : List Entry) (k x slot : ℕ) → slice_get es k ≡ Some (entry (Memory (Shared slot)) x)
    → ((i j : ℕ) (f g : Entry) → slice_get es i ≡ Some f → slice_get es j ≡ Some g → f.id ≡ g.id → i ≡ j)
    → At x slot (globals_of is_shared es) (shared_slots es)
shared_at [] k x slot h u = absurd (cc h)
shared_at (e ∷ es) zero x slot h u =
    let q : e ≡ entry (Memory (Shared slot)) x = cc h in
    subst (λ (f : Entry). At x slot (globals_of is_shared (f ∷ es)) (slot_in f.symbol ++ shared_slots es)) (sym q)
    (at_first x slot (globals_of is_shared es) (shared_slots es))
shared_at (e ∷ es) (suc k) x slot h u =
    at_further e.symbol e.id x slot es (shared_slots es)
    (⊎_elim (λ p. let z = u 0 (suc k) e (entry (Memory (Shared slot)) x) refl h (sym p.1) in absurd (omega (arith, z))) (λ p. p.0) (eqb_tells x e.id))
    (shared_at es k x slot h (λ i j f g a b d. let z = u (suc i) (suc j) f g a b d in omega (arith, z)))

pub at_found : (x slot : ℕ) (ids slots : List ℕ) → At x slot ids slots → option_and_then (slice_get slots) (position (nat_eq x) ids) ≡ Some slot
at_found x slot ids slots a =
    let e : nat_lt (position_or_len (nat_eq x) ids) (length ids) ≡ true = grind (arith, nat_tests, a.within) in rw (e) (a.slot')

-- COMPOSITES of words
zero_words : (n : ℕ) → words_in (of_parts (replicate n (Word 0))) ≡ Ok (replicate n 0)
zero_words zero = refl
zero_words (suc n) = rw (zero_words n) refl

given_words : (ws : List ℕ) → words_in (of_parts (map (λ w. Word w) ws)) ≡ Ok ws
given_words [] = refl
given_words (w ∷ ws) = rw (given_words ws) refl

module _ (c : Context) (entries : List Entry) (next : ℕ) (tb : IsTable c entries next) (m : Machine) (d : Declares c entries m.code) where
  pub by_front : (s : Symbol) (x : ℕ) → Has entries s x → is_front (section_of c s) ≡ true
      → global m x ≡ value_of_instr m (global_within m (length m.code)) (Some (instr_for c (id_of entries) s x))
  by_front s x h f = ap (value_of_instr m (global_within m (length m.code))) (d.defines.front s x h f)

  -- what is decorated
  literal_of : (s : Symbol) (x kind : ℕ) (v : Option ℕ) → Has entries s x → literal_in (find (decorates x kind) (decorations_for c s x)) ≡ v
      → decoration m.code x kind ≡ v
  literal_of s x kind v h e = ap literal_in (d.decorated s x (decorates x kind) h (aims x kind)) ∙ e

  room_value : (s : Symbol) (x : ℕ) (r : Room) → Has entries s x → is_front (section_of c s) ≡ true
      → decoration m.code x decorations.DescriptorSet ≡ Some (declared_of c s).set → decoration m.code x decorations.Binding ≡ Some
      (declared_of c s).binding
      → bound_room m.places (Some (declared_of c s).set) (Some (declared_of c s).binding) ≡ Some r
      → variable_by m x storage.StorageBuffer (decoration m.code x decorations.DescriptorSet) (decoration m.code x decorations.Binding)
      (decoration m.code x decorations.BuiltIn)
      ≡ Some (AtRoom r 0)
  room_value s x r h f a b e = rw (a, b, e) refl

  -- THE VALUES of constants and global variables
  pub value_here : (s : Symbol) (x : ℕ) (v : Value) → AreFound c entries m → Has entries s x → is_front (section_of c s) ≡ true → meaning s x ≡ Some v
      → global m x ≡ Some v
  value_here (Constant w) x v p h f e = by_front (Constant w) x h f ∙ e
  value_here True x v p h f e = by_front True x h f ∙ e
  value_here (Input b) x v p h f e =
      by_front (Input b) x h f
      ∙ (ap input_by (literal_of (Input b) x decorations.BuiltIn (Some b) h (the_built_in x b))
      ∙ (ap (λ t. if t then Some (AtInput b 0) else None) (p.found (Input b) x h) ∙ e))
  value_here (Memory (Shared slot)) x v p h f e =
      let ids = d.variables is_shared in
      let a = shared_at entries h.0 x slot h.1 (λ i j f g y z q. place_of c entries next i j f g tb y z q) in
      by_front (Memory (Shared slot)) x h f
      ∙ (ap (λ l. option_map (λ s. AtRoom (Shared s) 0) (option_and_then (slice_get (filled_slots m)) (position (nat_eq x) l))) ids
      ∙ (ap (λ l. option_map (λ s. AtRoom (Shared s) 0) (option_and_then (slice_get l) (position (nat_eq x) (globals_of is_shared entries)))) p.shared
      ∙ (ap (option_map (λ s. AtRoom (Shared s) 0)) (at_found x slot (globals_of is_shared entries) (shared_slots entries) a) ∙ e)))
  value_here (Memory (Resource slot)) x v p h f e =
      let s = Memory (Resource slot) in
      by_front s x h f
      ∙ (room_value s x (Resource slot) h f
      (literal_of s x decorations.DescriptorSet _ h (first_bound x (declared_of c s).set (declared_of c s).binding))
      (literal_of s x decorations.Binding _ h (second_bound x (declared_of c s).set (declared_of c s).binding)) (p.found s x h) ∙ e)
  value_here (Memory (Uav slot)) x v p h f e =
      let s = Memory (Uav slot) in
      by_front s x h f
      ∙ (room_value s x (Uav slot) h f (literal_of s x decorations.DescriptorSet _ h (first_bound x (declared_of c s).set (declared_of c s).binding))
      (literal_of s x decorations.Binding _ h (second_bound x (declared_of c s).set (declared_of c s).binding)) (p.found s x h) ∙ e)
  value_here (Memory (Counter slot)) x v p h f e =
      let s = Memory (Counter slot) in
      by_front s x h f
      ∙ (room_value s x (Counter slot) h f
      (literal_of s x decorations.DescriptorSet _ h (first_bound x (declared_of c s).set (declared_of c s).binding))
      (literal_of s x decorations.Binding _ h (second_bound x (declared_of c s).set (declared_of c s).binding)) (p.found s x h) ∙ e)
  value_here (Uniform slot) x v p h f e =
      let s = Uniform slot in
      let a = literal_of s x decorations.DescriptorSet (Some (declared_of c s).set) h (first_bound x (declared_of c s).set (declared_of c s).binding)
      in
      let b = literal_of s x decorations.Binding (Some (declared_of c s).binding) h (second_bound x (declared_of c s).set (declared_of c s).binding)
      in
      by_front s x h f ∙ (ap (λ o. option_map (λ z. AtConstants z 0) (bound_slot m.places o (decoration m.code x decorations.Binding))) a
      ∙ (ap (λ o. option_map (λ z. AtConstants z 0) (bound_slot m.places (Some (declared_of c s).set) o)) b
      ∙ (ap (option_map (λ z. AtConstants z 0)) (p.found s x h) ∙ e)))
  value_here Push x v p h f e = by_front Push x h f ∙ e
  value_here s x v p h f e = absurd (cc (e, f))

  -- INITIALIZERS
  word_null : Has entries (AType AWord) (id_of entries (AType AWord)) → null_within m.code (length m.code) (id_of entries (AType AWord)) ≡ Some
      (Word 0)
  word_null h =
      ap (λ n. null_within m.code n (id_of entries (AType AWord))) d.length'
      ∙ ap (null_by (null_within m.code d.long)) (sort_here c entries next tb m.code d.defines AWord (id_of entries (AType AWord)) h)

  pub null_cells : (n : ℕ) → Has entries (Null n) (id_of entries (Null n)) → cells_of (global m (id_of entries (Null n))) ≡ Ok (replicate n 0)
  null_cells n h =
      let a = first_need c entries next tb m.code d.defines (Null n) (AType (Words n)) [] (id_of entries (Null n)) h refl in
      let w = first_need c entries next tb m.code d.defines (AType (Words n)) (AType AWord) (Constant n ∷ []) (id_of entries (AType (Words n))) a refl
      in
      ap cells_of (by_front (Null n) (id_of entries (Null n)) h refl
      ∙ (ap (null_by (null_within m.code (length m.code))) (sort_here c entries next tb m.code d.defines (Words n) (id_of entries (AType (Words n)))
      a)
      ∙ ap (option_map (λ v. of_parts (replicate n v))) (word_null w)))
      ∙ zero_words n

  parts_here : (ws : List ℕ) (own : ℕ) → AreThere entries (needs_in (map (λ w. Of (Constant w)) ws)) next
      → all_there (map (global_within m (length m.code)) (map (operand (id_of entries) own) (map (λ w. Of (Constant w)) ws))) ≡ Some
      (map (λ w. Word w) ws)
  parts_here [] own h = refl
  parts_here (w ∷ ws) own h =
      let i = subst (λ x. Has entries (Constant w) x) (sym (found_id c entries next (Constant w) h.0.0 tb h.0.1)) h.0.1 in
      let g : global_within m (length m.code) (id_of entries (Constant w)) ≡ Some (Word w) =
      ap (λ n. global_within m n (id_of entries (Constant w))) d.length' ∙ ap (value_of_instr m (global_within m d.long))
      (d.defines.front (Constant w) (id_of entries (Constant w)) i refl) in
      rw (g, parts_here ws own h.1) refl

  pub immediate_cells : Has entries Immediates (id_of entries Immediates) → cells_of (global m (id_of entries Immediates)) ≡ Ok c.immediates
  immediate_cells h =
      let there = tb.founded h.0 (entry Immediates (id_of entries Immediates)) h.1 in
      ap cells_of (by_front Immediates (id_of entries Immediates) h refl ∙ ap (option_map of_parts)
      (parts_here c.immediates (id_of entries Immediates) (below c.immediates there.1)))
      ∙ given_words c.immediates where
        below : (ws : List ℕ) → AreThere entries (needs_in (map (λ w. Of (Constant w)) ws)) (id_of entries Immediates) → AreThere entries
            (needs_in (map (λ w. Of (Constant w)) ws)) next
        below [] h = tt
        below (w ∷ ws) h = ((h.0.0, h.0.1, tb.below h.0.1.0 (entry (Constant w) h.0.0) h.0.1.1), below ws h.1)
