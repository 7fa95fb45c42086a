-- A module has the variables that its table has, and no others.
use Rattle.std.proofs.Common.{◌≡◌, ℕ, ◌⊎◌, ⊎_elim, inl, inr, Bool, true, false, List, [], ◌∷◌, ◌++◌, map, Some, None, refl, sym, ap, ◌∙◌, subst, arith}
use Rattle.std.specs.Prelude.{◌≢◌, slice_get, ◌&&◌, ◌||◌, nat_eq, nat_le, cond, find, filter, flat_map, Option, option_and_then, is_some, if◌then◌else◌}
use Rattle.std.specs.Bool.{beq}
use Rattle.std.specs.List.{list_all, list_any}
use Rattle.std.proofs.lemmas.List.Folds.{list_all-append, list_any-append}
use Rattle.std.proofs.lemmas.Bool.{and_from, and_parts, eq-eqb}
use Rattle.std.proofs.lemmas.Bool.Decides.{eqb_tells, nat_tests}
use Rattle.word_base.specs.declared.event.Room.TheVariants.{Resource, Uav, Counter, Shared}
use Rattle.spirv_words.specs.Decoration as decorations
use Rattle.spirv_words.specs.Operations.{OpDecorate, OpMemberDecorate}
use Rattle.spirv_words.specs.Text.{Instr, instruction}
use Rattle.spirv_words.specs.Sorts as sort
use Rattle.spirv_words.specs.Sorts.{Sort, sort_of, sort_of_type, sort_of_value}
use Rattle.spirv_words.specs.Globals.{is_built_in, decorates, decorates_member, decoration}
use Rattle.spirv_words.specs.Variables.{WantedBuffer, WantedUniform, is_number, pointee, pointee_in, meets, is_word_type, is_vector, is_vector_sort, is_array_sort, is_runtime_sort, has_stride, is_runtime_array, is_words_array, is_vectors_array, has_one_member, is_block, has_flags, is_bound, is_buffer, is_uniform, is_one, of_class, has_buffers, has_uniforms, has_push, is_shared, are_shared, is_input_type, is_input, carries, has_inputs, is_empty}
use Rattle.spirv_symbols.specs.declared.symbol.Access.{Access}
use Rattle.spirv_symbols.specs.declared.symbol.Access.TheVariants.{Plain, ReadOnly, Coherent}
use Rattle.spirv_symbols.specs.declared.symbol.Symbol.{Symbol}
use Rattle.spirv_symbols.specs.declared.symbol.Symbol.TheVariants.{AType, Constant, Input, Memory, Uniform, Push}
use Rattle.spirv_symbols.specs.declared.symbol.TypeSymbol.{TypeSymbol}
use Rattle.spirv_symbols.specs.declared.symbol.TypeSymbol.TheVariants.{Word, Triple, Quad, Words, PushWords, Vectors, RuntimeWords, View, VectorsBlock, PushBlock, WordPointer, TriplePointer, SharedPointer, ViewPointer, VectorsPointer, PushPointer}
use Rattle.spirv_symbols.specs.declared.row.Marks.TheVariants.{Stride, Block, Bound}
use Rattle.spirv_symbols.specs.Contexts.{Context, declared_of, size_of}
use Rattle.spirv_symbols.specs.Rows.{row_of, needs, input_pointer, decorations_by, uav_access}
use Rattle.spirv_symbols.specs.Tables.{Entry, entry, Has, IsTable}
use Rattle.spirv_symbols.specs.Orders.{Among, Ordered}
use Rattle.spirv_symbols.specs.Sorted.{id_of_type, sort_for, value_type}
use Rattle.spirv_symbols.specs.Modules.{class_of, passes, is_global, globals_of}
use Rattle.spirv_symbols.specs.Wants.{AreApart, push_in, push_with, shared_in, input_in, buffer_in, uniform_in, uniform_at, HasPlaces, wanted_of}
use Rattle.spirv_symbols.proofs.Members.{among_filter, among_kept, among_get, each_at, ordered_kept}
use Rattle.spirv_symbols.proofs.DecorationLookups.{aims, aims_member}
use Rattle.spirv_symbols.proofs.Interfaces.{apart_entries}
use Rattle.spirv_symbols.proofs.FormSingle.{ids_in}
use Rattle.spirv_symbols.proofs.SymbolSorts.{sort_here, type_here, first_need}
use Rattle.spirv_symbols.proofs.ModuleFacts.{offset_by}
use Rattle.spirv_symbols.proofs.StartValues.{Declares, first_bound, second_bound, the_built_in}

equals : (n : ℕ) → nat_eq n n ≡ true
equals n = eq-eqb n n refl

-- THE ONE of a list that passes a test
none_pass : (p : ℕ → Bool) (es : List Entry) → ((f : Entry) → Among es f → p f.id ≡ true → ⊥) → filter p (ids_in es) ≡ []
none_pass p [] h = refl
none_pass p (f ∷ fs) h = by (p f.id) refl (none_pass p fs (λ g i. h g (inr i))) where
  by : (b : Bool) → p f.id ≡ b → filter p (ids_in fs) ≡ [] → cond (p f.id) (f.id ∷ filter p (ids_in fs)) (filter p (ids_in fs)) ≡ []
  by true d e = absurd (h f (inl refl) d)
  by false d e = ap (λ b. cond b (f.id ∷ filter p (ids_in fs)) (filter p (ids_in fs))) d ∙ e

exactly : (p : ℕ → Bool) (es : List Entry) (e : Entry) → Ordered (λ f g. f.id ≢ g.id) es → Among es e → p e.id ≡ true
    → ((f : Entry) → Among es f → p f.id ≡ true → f ≡ e)
    → filter p (ids_in es) ≡ e.id ∷ []
exactly p [] e o h t u = absurd h
exactly p (f ∷ fs) e o h t u = by (p f.id) refl h (λ i. exactly p fs e o.1 i t (λ g j. u g (inr j))) where
  alone : f ≡ e → filter p (ids_in fs) ≡ []
  alone q = none_pass p fs (λ g i s. let z = u g (inr i) s in let d = each_at (λ g. f.id ≢ g.id) fs g o.0 i in
      d (ap (λ (w : Entry). w.id) (q ∙ sym z)))

  by : (b : Bool) → p f.id ≡ b → Among (f ∷ fs) e → (Among fs e → filter p (ids_in fs) ≡ e.id ∷ []) → cond (p f.id) (f.id ∷ filter p (ids_in fs))
      (filter p (ids_in fs)) ≡ e.id ∷ []
  by true d i k =
      let q = u f (inl refl) d in
      ap (λ b. cond b (f.id ∷ filter p (ids_in fs)) (filter p (ids_in fs))) d ∙ ap (λ l. f.id ∷ l) (alone q) ∙ ap (λ (w : Entry). w.id ∷ []) q
  by false d (inl q) k = absurd (cc (d, sym (ap (λ (w : Entry). p w.id) q), t))
  by false d (inr i) k = ap (λ b. cond b (f.id ∷ filter p (ids_in fs)) (filter p (ids_in fs))) d ∙ k i

module _ (c : Context) (es : List Entry) (next : ℕ) (tb : IsTable c es next) (code : List Instr) (d : Declares c es code) where
  abbrev ids : TypeSymbol → ℕ
  ids = id_of_type es

  -- a type that another needs
  abbrev Here : TypeSymbol → Type 0
  Here y = Has es (AType y) (ids y)

  inner : (y z : TypeSymbol) (us : List Symbol) → Here y → needs c (AType y) ≡ AType z ∷ us → Here z
  inner y z us h e = first_need c es next tb code d.defines (AType y) (AType z) us (ids y) h e

  of_value : (s : Symbol) (y : TypeSymbol) (us : List Symbol) (x : ℕ) → Has es s x → needs c s ≡ AType y ∷ us → Here y
  of_value s y us x h e = first_need c es next tb code d.defines s (AType y) us x h e

  is_sort : (y : TypeSymbol) → Here y → sort_of code (ids y) ≡ sort_for ids y
  is_sort y h = sort_here c es next tb code d.defines y (ids y) h

  word_type : Here Word → is_word_type code (ids Word) ≡ true
  word_type h = ap sort.is_words (is_sort Word h)

  -- what a pointer points to
  points : (s : Symbol) (y : TypeSymbol) (us : List Symbol) (class to x : ℕ) → Has es s x → needs c s ≡ AType y ∷ us → value_type c s ≡ Some y
      → sort_for ids y ≡ sort.Pointer class to
      → pointee code class x ≡ Some to
  points s y us class to x h n e q =
      ap (λ o. pointee_in class (sort_of_type code o)) (type_here c es next tb code d.defines s y x h e)
      ∙ (ap (pointee_in class) (is_sort y (of_value s y us x h n) ∙ q) ∙ ap (λ b. if b then Some to else None) (equals class))

  -- LAYOUTS
  stride_holds : (y : TypeSymbol) (bytes : ℕ) → Here y → (row_of c (AType y)).marks ≡ Stride bytes → has_stride code bytes (ids y) ≡ true
  stride_holds y bytes h m =
      ap (λ o. is_number (option_and_then (λ (i : Instr). slice_get i.operands 2) o) bytes)
      (d.decorated (AType y) (ids y) (decorates (ids y) decorations.ArrayStride) h (aims (ids y) decorations.ArrayStride)
      ∙ ap (λ z. find (decorates (ids y) decorations.ArrayStride) (decorations_by (ids y) z)) m)
      ∙ (ap (λ t. is_number (option_and_then (λ (i : Instr). slice_get i.operands 2)
      (cond (t && true) (Some (instruction OpDecorate (ids y ∷ 6 ∷ bytes ∷ []))) None)) bytes) (equals (ids y))
      ∙ equals bytes)

  block_mark : (x : ℕ) (access : Access) → is_some (find (decorates x decorations.Block) (decorations_by x (Block access))) ≡ true
  block_mark x Plain = ap (λ t. is_some (cond (t && true) (Some (instruction OpDecorate (x ∷ 2 ∷ []))) None)) (equals x)
  block_mark x ReadOnly = ap (λ t. is_some (cond (t && true) (Some (instruction OpDecorate (x ∷ 2 ∷ []))) None)) (equals x)
  block_mark x Coherent = ap (λ t. is_some (cond (t && true) (Some (instruction OpDecorate (x ∷ 2 ∷ []))) None)) (equals x)

  block_holds : (y : TypeSymbol) (access : Access) (member : ℕ → Bool) (to : ℕ) → Here y → (row_of c (AType y)).marks ≡ Block access
      → sort_for ids y ≡ sort.Struct (to ∷ []) → member to ≡ true → is_block code member (ids y) ≡ true
  block_holds y access member to h m q e =
      and_from (has_one_member member (sort_of code (ids y))) _ (ap (has_one_member member) (is_sort y h ∙ q) ∙ e)
      (and_from (is_some (find (decorates (ids y) decorations.Block) code)) _
      (ap is_some (d.decorated (AType y) (ids y) (decorates (ids y) decorations.Block) h (aims (ids y) decorations.Block) ∙ ap
      (λ z. find (decorates (ids y) decorations.Block) (decorations_by (ids y) z)) m)
      ∙ block_mark (ids y) access)
      (ap (λ o. is_number (option_and_then (λ (i : Instr). slice_get i.operands 3) o) 0)
      (d.decorated (AType y) (ids y) (decorates_member (ids y) 0 decorations.Offset) h (aims_member (ids y) decorations.Offset)
      ∙ ap (λ z. find (decorates_member (ids y) 0 decorations.Offset) (decorations_by (ids y) z)) m)
      ∙ ap (λ o. is_number o 0) (offset_by (ids y) access)))

  -- PLACES
  place_bound : (s : Symbol) (x set binding : ℕ) → Has es s x → (row_of c s).marks ≡ Bound (declared_of c s).set (declared_of c s).binding
      → is_bound code set binding x ≡ (nat_eq (declared_of c s).set set && nat_eq (declared_of c s).binding binding)
  place_bound s x set binding h m =
      ap (λ o. is_number o set && is_number (decoration code x decorations.Binding) binding)
      (ap (option_and_then (λ (i : Instr). slice_get i.operands 2))
      (d.decorated s x (decorates x decorations.DescriptorSet) h (aims x decorations.DescriptorSet) ∙ ap
      (λ z. find (decorates x decorations.DescriptorSet) (decorations_by x z)) m)
      ∙ first_bound x (declared_of c s).set (declared_of c s).binding)
      ∙ ap (λ o. nat_eq (declared_of c s).set set && is_number o binding)
      (ap (option_and_then (λ (i : Instr). slice_get i.operands 2))
      (d.decorated s x (decorates x decorations.Binding) h (aims x decorations.Binding) ∙ ap
      (λ z. find (decorates x decorations.Binding) (decorations_by x z)) m)
      ∙ second_bound x (declared_of c s).set (declared_of c s).binding)

  equal_numbers : (m n : ℕ) → nat_eq m n ≡ true → m ≡ n
  equal_numbers m n e = ⊎_elim (λ z. z.1) (λ z. absurd (cc (e, z.0))) (eqb_tells m n)

  -- the variables of a class, and those of them at a place
  abbrev of : ℕ → List Entry
  of class = filter (is_global (nat_eq class)) es

  of_is : (class : ℕ) → of_class code class ≡ ids_in (of class)
  of_is class = d.variables (nat_eq class)

  of_apart : (class : ℕ) → Ordered (λ e f. e.id ≢ f.id) (of class)
  of_apart class = ordered_kept (λ e f. e.id ≢ f.id) (λ e f. e.id ≢ f.id) (is_global (nat_eq class)) (λ e f _ _ n. n) es (apart_entries es tb.rises)

  has_entry : (e : Entry) → Among es e → Has es e.symbol e.id
  has_entry e h = let g = among_get es e h in (g.0, g.1)

  class_is : (class : ℕ) (s : Symbol) → passes (nat_eq class) (class_of s) ≡ true → class_of s ≡ Some class
  class_is class s e = by (class_of s) e where
    by : (o : Option ℕ) → passes (nat_eq class) o ≡ true → o ≡ Some class
    by None e = absurd (cc e)
    by (Some n) e = ap Some (sym (equal_numbers class n e))

  same_entry : (e f : Entry) → Among es e → Among es f → f.symbol ≡ e.symbol → f ≡ e
  same_entry e f h i q =
      let x = among_get es e h in
      let y = among_get es f i in
      let k = tb.single y.0 x.0 f e y.1 x.1 q in
      cc (x.1, y.1, k)

  one_bound : (class : ℕ) (e : Entry) → AreApart c es class → ((s : Symbol) → class_of s ≡ Some class → (row_of c s).marks ≡ Bound
      (declared_of c s).set (declared_of c s).binding)
      → Among (of class) e → filter (is_bound code (declared_of c e.symbol).set (declared_of c e.symbol).binding) (of_class code class) ≡ e.id ∷ []
  one_bound class e apart marks h =
      let p = among_filter (is_global (nat_eq class)) es e h in
      let set = (declared_of c e.symbol).set in
      let binding = (declared_of c e.symbol).binding in
      ap (filter (is_bound code set binding)) (of_is class)
      ∙ exactly (is_bound code set binding) (of class) e (of_apart class) h
      (place_bound e.symbol e.id set binding (has_entry e p.0) (marks e.symbol (class_is class e.symbol p.1)) ∙ and_from (nat_eq set set)
      (nat_eq binding binding) (equals set) (equals binding))
      (λ f i t.
      let q = among_filter (is_global (nat_eq class)) es f i in
      let z = and_parts (nat_eq (declared_of c f.symbol).set set) (nat_eq (declared_of c f.symbol).binding binding)
      (sym (place_bound f.symbol f.id set binding (has_entry f q.0) (marks f.symbol (class_is class f.symbol q.1))) ∙ t) in
      same_entry e f p.0 q.0
      (apart f.symbol e.symbol f.id e.id (has_entry f q.0) (has_entry e p.0) (class_is class f.symbol q.1) (class_is class e.symbol p.1)
      (equal_numbers (declared_of c f.symbol).set set z.0) (equal_numbers (declared_of c f.symbol).binding binding z.1)))

  -- VIEWS AND COUNTERS
  abbrev is_read_only : Access → Bool
  is_read_only ReadOnly = true
  is_read_only a = false

  abbrev is_coherent : Access → Bool
  is_coherent Coherent = true
  is_coherent a = false

  record BufferOf (s : Symbol) : Type 0 where
    pub wanted : WantedBuffer
    pub wanted' : buffer_in c s ≡ wanted ∷ []
    pub set' : wanted.set ≡ (declared_of c s).set
    pub binding' : wanted.binding ≡ (declared_of c s).binding
    pub access : Access
    pub type' : value_type c s ≡ Some (ViewPointer access)
    pub needs' : needs c s ≡ AType (ViewPointer access) ∷ []
    pub read_only : wanted.is_read_only ≡ is_read_only access
    pub coherent : wanted.is_coherent ≡ is_coherent access

  uav_flags : (b : Bool) → (false ≡ is_read_only (uav_access b)) × (b ≡ is_coherent (uav_access b))
  uav_flags true = (refl, refl)
  uav_flags false = (refl, refl)

  buffer_of : (s : Symbol) → class_of s ≡ Some 12 → BufferOf s
  buffer_of (Memory (Resource slot)) e =
      record {
        wanted = _;
        wanted' = refl;
        set' = refl;
        binding' = refl;
        access = ReadOnly;
        type' = refl;
        needs' = refl;
        read_only = refl;
        coherent =
            refl;
      }
  buffer_of (Memory (Uav slot)) e =
      let f = uav_flags (declared_of c (Memory (Uav slot))).coherent in
      record {
        wanted = _;
        wanted' = refl;
        set' = refl;
        binding' = refl;
        access = uav_access (declared_of c (Memory (Uav slot))).coherent;
        type' =
            refl;
        needs' = refl;
        read_only = f.0;
        coherent = f.1;
      }
  buffer_of (Memory (Counter slot)) e =
      record {
        wanted = _;
        wanted' = refl;
        set' = refl;
        binding' = refl;
        access = Plain;
        type' = refl;
        needs' = refl;
        read_only = refl;
        coherent =
            refl;
      }
  buffer_of (Memory (Shared slot)) e = absurd (cc e)
  buffer_of (Input b) e = absurd (cc e)
  buffer_of (Uniform slot) e = absurd (cc e)
  buffer_of Push e = absurd (cc e)
  buffer_of s e = absurd (cc e)

  buffer_marks : (s : Symbol) → class_of s ≡ Some 12 → (row_of c s).marks ≡ Bound (declared_of c s).set (declared_of c s).binding
  buffer_marks (Memory (Resource slot)) e = refl
  buffer_marks (Memory (Uav slot)) e = refl
  buffer_marks (Memory (Counter slot)) e = refl
  buffer_marks (Memory (Shared slot)) e = absurd (cc e)
  buffer_marks (Input b) e = absurd (cc e)
  buffer_marks (Uniform slot) e = absurd (cc e)
  buffer_marks Push e = absurd (cc e)
  buffer_marks s e = absurd (cc e)

  flag_by : (x : ℕ) (access : Access) → (is_some (find (decorates_member x 0 decorations.NonWritable) (decorations_by x (Block access))) ≡
      is_read_only access)
      × (is_some (find (decorates_member x 0 decorations.Coherent) (decorations_by x (Block access))) ≡ is_coherent access)
  flag_by x Plain = (
    ap (λ t. is_some (cond (t && false) (Some (instruction OpMemberDecorate (x ∷ 0 ∷ 35 ∷ 0 ∷ []))) None)) (equals x),
    ap (λ t. is_some (cond (t && false) (Some (instruction OpMemberDecorate (x ∷ 0 ∷ 35 ∷ 0 ∷ []))) None)) (equals x),
  )
  flag_by x ReadOnly = (
    ap (λ t. is_some (cond (t && false) (Some (instruction OpMemberDecorate (x ∷ 0 ∷ 35 ∷ 0 ∷ [])))
        (cond (t && true) (Some (instruction OpMemberDecorate (x ∷ 0 ∷ 24 ∷ []))) None))) (equals x),
    ap (λ t. is_some (cond (t && false) (Some (instruction OpMemberDecorate (x ∷ 0 ∷ 35 ∷ 0 ∷ [])))
        (cond (t && false) (Some (instruction OpMemberDecorate (x ∷ 0 ∷ 24 ∷ []))) None))) (equals x),
  )
  flag_by x Coherent = (
    ap (λ t. is_some (cond (t && false) (Some (instruction OpMemberDecorate (x ∷ 0 ∷ 35 ∷ 0 ∷ [])))
        (cond (t && false) (Some (instruction OpMemberDecorate (x ∷ 0 ∷ 23 ∷ []))) None))) (equals x),
    ap (λ t. is_some (cond (t && false) (Some (instruction OpMemberDecorate (x ∷ 0 ∷ 35 ∷ 0 ∷ [])))
        (cond (t && true) (Some (instruction OpMemberDecorate (x ∷ 0 ∷ 23 ∷ []))) None))) (equals x),
  )

  same_flag : (a b : Bool) → a ≡ b → beq a b ≡ true
  same_flag true true e = refl
  same_flag true false e = absurd (cc e)
  same_flag false true e = absurd (cc e)
  same_flag false false e = refl

  flags_hold : (access : Access) (ro coh : Bool) → Here (View access) → ro ≡ is_read_only access → coh ≡ is_coherent access → has_flags code ro coh
      (ids (View access)) ≡ true
  flags_hold access ro coh h e f =
      let x = ids (View access) in
      and_from (beq ro (is_some (find (decorates_member x 0 decorations.NonWritable) code)))
      (beq coh (is_some (find (decorates_member x 0 decorations.Coherent) code)))
      (same_flag ro _ (e ∙ sym
      (ap is_some (d.decorated (AType (View access)) x (decorates_member x 0 decorations.NonWritable) h (aims_member x decorations.NonWritable)) ∙
      (flag_by x access).0)))
      (same_flag coh _ (f ∙ sym
      (ap is_some (d.decorated (AType (View access)) x (decorates_member x 0 decorations.Coherent) h (aims_member x decorations.Coherent)) ∙
      (flag_by x access).1)))

  is_the_buffer : (s : Symbol) (x : ℕ) → Has es s x → (b : BufferOf s) → is_buffer code b.wanted x ≡ true
  is_the_buffer s x h b =
      let p = of_value s (ViewPointer b.access) [] x h b.needs' in
      let v = inner (ViewPointer b.access) (View b.access) [] p refl in
      let r = inner (View b.access) RuntimeWords [] v refl in
      let w = inner RuntimeWords Word [] r refl in
      ap (meets (λ t. is_block code (is_runtime_array code) t && has_flags code b.wanted.is_read_only b.wanted.is_coherent t))
      (points s (ViewPointer b.access) [] 12 (ids (View b.access)) x h b.needs' b.type' refl)
      ∙ and_from (is_block code (is_runtime_array code) (ids (View b.access))) _
      (block_holds (View b.access) b.access (is_runtime_array code) (ids RuntimeWords) v refl refl
      (and_from (is_runtime_sort (is_word_type code) (sort_of code (ids RuntimeWords))) _
      (ap (is_runtime_sort (is_word_type code)) (is_sort RuntimeWords r) ∙ word_type w) (stride_holds RuntimeWords 4 r refl)))
      (flags_hold b.access b.wanted.is_read_only b.wanted.is_coherent v b.read_only b.coherent)

  -- each that is wanted is there
  all_of : {Y : Type 0} (test : Y → Bool) (f : Symbol → List Y) (fs : List Entry) → ((e : Entry) → Among fs e → list_all test (f e.symbol) ≡ true)
      → list_all test (flat_map (λ (e : Entry). f e.symbol) fs) ≡ true
  all_of test f [] h = refl
  all_of test f (e ∷ fs) h =
      list_all-append test (f e.symbol) (flat_map (λ (e : Entry). f e.symbol) fs)
      ∙ and_from (list_all test (f e.symbol)) (list_all test (flat_map (λ (e : Entry). f e.symbol) fs)) (h e (inl refl))
      (all_of test f fs (λ g i. h g (inr i)))

  no_buffer : (s : Symbol) → (class_of s ≡ Some 12 → ⊥) → buffer_in c s ≡ []
  no_buffer (Memory (Resource slot)) e = absurd (e refl)
  no_buffer (Memory (Uav slot)) e = absurd (e refl)
  no_buffer (Memory (Counter slot)) e = absurd (e refl)
  no_buffer (Memory (Shared slot)) e = refl
  no_buffer s e = refl

  class_tells : (s : Symbol) (class : ℕ) → (class_of s ≡ Some class) ⊎ ((class_of s ≡ Some class → ⊥) × (passes (nat_eq class) (class_of s) ≡ false))
  class_tells s class = by (class_of s) where
    some_is : (m n : ℕ) → Some m ≡ Some n → m ≡ n
    some_is m n e = cc e

    by : (o : Option ℕ) → (o ≡ Some class) ⊎ ((o ≡ Some class → ⊥) × (passes (nat_eq class) o ≡ false))
    by None = inr ((λ e. absurd (cc e)), refl)
    by (Some n) = ⊎_elim (λ e. inl (ap Some (sym e.1))) (λ e. inr ((λ q. e.1 (sym (some_is n class q))), e.0)) (eqb_tells class n)

  buffers_there : HasPlaces c es → list_all (λ w. is_one (is_buffer code w) (filter (is_bound code w.set w.binding) (of_class code 12)))
      (wanted_of c es).buffers ≡ true
  buffers_there p = all_of (λ (w : WantedBuffer). is_one (is_buffer code w) (filter (is_bound code w.set w.binding) (of_class code 12)))
      (buffer_in c) es each where
        each : (e : Entry) → Among es e
            → list_all (λ (w : WantedBuffer). is_one (is_buffer code w) (filter (is_bound code w.set w.binding) (of_class code 12)))
            (buffer_in c e.symbol) ≡ true
        each e h = ⊎_elim
            (λ k.
            let b = buffer_of e.symbol k in
            let a = among_kept (is_global (nat_eq 12)) es e h (ap (passes (nat_eq 12)) k) in
            ap (list_all (λ (w : WantedBuffer). is_one (is_buffer code w) (filter (is_bound code w.set w.binding) (of_class code 12)))) b.wanted'
            ∙ and_from (is_one (is_buffer code b.wanted) (filter (is_bound code b.wanted.set b.wanted.binding) (of_class code 12))) true
            (ap (λ l. is_one (is_buffer code b.wanted) l)
            (ap (λ n. filter (is_bound code n b.wanted.binding) (of_class code 12)) b.set' ∙ ap
            (λ n. filter (is_bound code (declared_of c e.symbol).set n) (of_class code 12)) b.binding'
            ∙ one_bound 12 e p.buffers buffer_marks a)
            ∙ is_the_buffer e.symbol e.id (has_entry e h) b) refl)
            (λ k. ap (list_all (λ (w : WantedBuffer). is_one (is_buffer code w) (filter (is_bound code w.set w.binding) (of_class code 12))))
            (no_buffer e.symbol k.0))
            (class_tells e.symbol 12)

  -- and each that is there is wanted
  any_of : {Y : Type 0} (test : Y → Bool) (f : Symbol → List Y) (fs : List Entry) (e : Entry) → Among fs e → list_any test (f e.symbol) ≡ true
      → list_any test (flat_map (λ (e : Entry). f e.symbol) fs) ≡ true
  any_of test f [] e h k = absurd h
  any_of test f (g ∷ fs) e h k = list_any-append test (f g.symbol) (flat_map (λ (e : Entry). f e.symbol) fs) ∙ by h (any_of test f fs e) where
    or_left : (a b : Bool) → a ≡ true → (a || b) ≡ true
    or_left true b q = refl
    or_left false b q = absurd (cc q)

    or_right : (a b : Bool) → b ≡ true → (a || b) ≡ true
    or_right true b q = refl
    or_right false b q = q

    by : Among (g ∷ fs) e → (Among fs e → list_any test (f e.symbol) ≡ true → list_any test (flat_map (λ (e : Entry). f e.symbol) fs) ≡ true)
        → (list_any test (f g.symbol) || list_any test (flat_map (λ (e : Entry). f e.symbol) fs)) ≡ true
    by (inl q) r = or_left (list_any test (f g.symbol)) (list_any test (flat_map (λ (e : Entry). f e.symbol) fs))
        (ap (λ (z : Entry). list_any test (f z.symbol)) q ∙ k)
    by (inr i) r = or_right (list_any test (f g.symbol)) (list_any test (flat_map (λ (e : Entry). f e.symbol) fs)) (r i k)

  all_ids : (test : ℕ → Bool) (fs : List Entry) → ((e : Entry) → Among fs e → test e.id ≡ true) → list_all test (ids_in fs) ≡ true
  all_ids test [] h = refl
  all_ids test (f ∷ fs) h = and_from (test f.id) (list_all test (ids_in fs)) (h f (inl refl)) (all_ids test fs (λ e i. h e (inr i)))

  buffers_wanted : list_all (λ x. list_any (λ w. is_bound code w.set w.binding x) (wanted_of c es).buffers) (of_class code 12) ≡ true
  buffers_wanted =
      ap (list_all (λ x. list_any (λ (w : WantedBuffer). is_bound code w.set w.binding x) (wanted_of c es).buffers)) (of_is 12)
      ∙ all_ids (λ x. list_any (λ (w : WantedBuffer). is_bound code w.set w.binding x) (wanted_of c es).buffers) (of 12) (λ e h.
      let q = among_filter (is_global (nat_eq 12)) es e h in
      let k = class_is 12 e.symbol q.1 in
      let b = buffer_of e.symbol k in
      let set = (declared_of c e.symbol).set in
      let binding = (declared_of c e.symbol).binding in
      any_of (λ (w : WantedBuffer). is_bound code w.set w.binding e.id) (buffer_in c) es e q.0
      (ap (list_any (λ (w : WantedBuffer). is_bound code w.set w.binding e.id)) b.wanted'
      ∙ ap (λ z. z || false)
      (ap (λ n. is_bound code n b.wanted.binding e.id) b.set' ∙ ap (λ n. is_bound code set n e.id) b.binding'
      ∙ place_bound e.symbol e.id set binding (has_entry e q.0) (buffer_marks e.symbol k) ∙ and_from (nat_eq set set) (nat_eq binding binding)
      (equals set) (equals binding))))

  pub buffers_hold : HasPlaces c es → has_buffers code (wanted_of c es).buffers ≡ true
  buffers_hold p =
      and_from (list_all (λ (w : WantedBuffer). is_one (is_buffer code w) (filter (is_bound code w.set w.binding) (of_class code 12)))
      (wanted_of c es).buffers) _ (buffers_there p) buffers_wanted

  -- CONSTANT BUFFERS
  quad_holds : Here Quad → is_vector code 4 (ids Quad) ≡ true
  quad_holds h =
      let w = inner Quad Word [] h refl in
      ap (is_vector_sort code 4) (is_sort Quad h) ∙ and_from (is_word_type code (ids Word)) true (word_type w) refl

  vectors_hold : (n : ℕ) → Here (Vectors n) → is_vectors_array code n (ids (Vectors n)) ≡ true
  vectors_hold n h =
      let q = inner (Vectors n) Quad (Constant n ∷ []) h refl in
      and_from (is_array_sort (is_vector code 4) n (sort_of code (ids (Vectors n)))) _
      (ap (is_array_sort (is_vector code 4) n) (is_sort (Vectors n) h) ∙ and_from (is_vector code 4 (ids Quad)) (nat_eq n n) (quad_holds q)
      (equals n))
      (stride_holds (Vectors n) 16 h refl)

  is_the_uniform : (slot x : ℕ) → Has es (Uniform slot) x → is_uniform code (uniform_at (declared_of c (Uniform slot))) x ≡ true
  is_the_uniform slot x h =
      let n = size_of c (Uniform slot) in
      let p = of_value (Uniform slot) (VectorsPointer n) [] x h refl in
      let v = inner (VectorsPointer n) (VectorsBlock n) [] p refl in
      let a = inner (VectorsBlock n) (Vectors n) [] v refl in
      ap (meets (is_block code (is_vectors_array code n))) (points (Uniform slot) (VectorsPointer n) [] 2 (ids (VectorsBlock n)) x h refl refl refl)
      ∙ block_holds (VectorsBlock n) Plain (is_vectors_array code n) (ids (Vectors n)) v refl refl (vectors_hold n a)

  uniform_slot : (s : Symbol) → class_of s ≡ Some 2 → (slot : ℕ) × (s ≡ Uniform slot)
  uniform_slot (Uniform slot) e = (slot, refl)
  uniform_slot (Memory (Shared slot)) e = absurd (cc e)
  uniform_slot (Memory room) e = absurd (cc e)
  uniform_slot s e = absurd (cc e)

  no_uniform : (s : Symbol) → (class_of s ≡ Some 2 → ⊥) → uniform_in c s ≡ []
  no_uniform (Uniform slot) e = absurd (e refl)
  no_uniform s e = refl

  uniform_marks : (s : Symbol) → class_of s ≡ Some 2 → (row_of c s).marks ≡ Bound (declared_of c s).set (declared_of c s).binding
  uniform_marks (Uniform slot) e = refl
  uniform_marks (Memory (Shared slot)) e = absurd (cc e)
  uniform_marks (Memory room) e = absurd (cc e)
  uniform_marks s e = absurd (cc e)

  abbrev uniform_test : WantedUniform → Bool
  uniform_test w = is_one (is_uniform code w) (filter (is_bound code w.set w.binding) (of_class code 2))

  uniform_there : (e : Entry) → HasPlaces c es → Among es e → (slot : ℕ) → e.symbol ≡ Uniform slot
      → uniform_test (uniform_at (declared_of c (Uniform slot))) ≡ true
  uniform_there e p h slot q =
      let k : class_of e.symbol ≡ Some 2 = ap class_of q in
      let a = among_kept (is_global (nat_eq 2)) es e h (ap (passes (nat_eq 2)) k) in
      ap (λ l. is_one (is_uniform code (uniform_at (declared_of c (Uniform slot)))) l)
      (ap (λ s. filter (is_bound code (declared_of c s).set (declared_of c s).binding) (of_class code 2)) (sym q) ∙ one_bound 2 e p.uniforms
      uniform_marks a)
      ∙ is_the_uniform slot e.id (subst (λ s. Has es s e.id) q (has_entry e h))

  pub uniforms_hold : HasPlaces c es → has_uniforms code (wanted_of c es).uniforms ≡ true
  uniforms_hold p =
      and_from (list_all uniform_test (wanted_of c es).uniforms) _
      (all_of uniform_test (uniform_in c) es (λ e h. ⊎_elim
      (λ k. let u = uniform_slot e.symbol k in ap (λ s. list_all uniform_test (uniform_in c s)) u.1 ∙ and_from
      (uniform_test (uniform_at (declared_of c (Uniform u.0)))) true (uniform_there e p h u.0 u.1) refl)
      (λ k. ap (list_all uniform_test) (no_uniform e.symbol k.0))
      (class_tells e.symbol 2)))
      (ap (list_all (λ x. list_any (λ (w : WantedUniform). is_bound code w.set w.binding x) (wanted_of c es).uniforms)) (of_is 2)
      ∙ all_ids (λ x. list_any (λ (w : WantedUniform). is_bound code w.set w.binding x) (wanted_of c es).uniforms) (of 2) (λ e h.
      let q = among_filter (is_global (nat_eq 2)) es e h in
      let k = class_is 2 e.symbol q.1 in
      let u = uniform_slot e.symbol k in
      let set = (declared_of c e.symbol).set in
      let binding = (declared_of c e.symbol).binding in
      any_of (λ (w : WantedUniform). is_bound code w.set w.binding e.id) (uniform_in c) es e q.0
      (ap (λ s. list_any (λ (w : WantedUniform). is_bound code w.set w.binding e.id) (uniform_in c s)) u.1
      ∙ ap (λ s. is_bound code (declared_of c s).set (declared_of c s).binding e.id || false) (sym u.1)
      ∙ ap (λ z. z || false) (place_bound e.symbol e.id set binding (has_entry e q.0) (uniform_marks e.symbol k) ∙ and_from (nat_eq set set)
      (nat_eq binding binding) (equals set) (equals binding)))))

  -- PUSH CONSTANTS
  all_pass : (xs : List ℕ) → filter (λ _. true) xs ≡ xs
  all_pass [] = refl
  all_pass (x ∷ xs) = ap (λ l. x ∷ l) (all_pass xs)

  is_push : (s : Symbol) → class_of s ≡ Some 9 → s ≡ Push
  is_push Push e = refl
  is_push (Memory (Shared slot)) e = absurd (cc e)
  is_push (Memory room) e = absurd (cc e)
  is_push s e = absurd (cc e)

  push_none : (fs : List Entry) → ((e : Entry) → Among fs e → e.symbol ≡ Push → ⊥) → (push_in c fs ≡ None) × (filter (is_global (nat_eq 9)) fs ≡ [])
  push_none [] h = (refl, refl)
  push_none (f ∷ fs) h =
      let r = push_none fs (λ e i. h e (inr i)) in (
        other f.symbol (h f (inl refl)) ∙ r.0,
        ap (λ b. cond b (f ∷ filter (is_global (nat_eq 9)) fs) (filter (is_global (nat_eq 9)) fs))
            (⊎_elim (λ k. absurd (h f (inl refl) (is_push f.symbol k))) (λ k. k.1) (class_tells f.symbol 9)) ∙ r.1,
      ) where
        other : (s : Symbol) → (s ≡ Push → ⊥) → push_with c s (push_in c fs) ≡ push_in c fs
        other Push d = absurd (d refl)
        other s d = refl

  push_some : (fs : List Entry) (e : Entry) → Among fs e → e.symbol ≡ Push → push_in c fs ≡ Some c.pushed
  push_some [] e h d = absurd h
  push_some (f ∷ fs) e h d = by h (λ i. push_some fs e i d) where
    over : (s : Symbol) → push_in c fs ≡ Some c.pushed → push_with c s (push_in c fs) ≡ Some c.pushed
    over Push q = refl
    over s q = q

    by : Among (f ∷ fs) e → (Among fs e → push_in c fs ≡ Some c.pushed)
        → push_with c f.symbol (push_in c fs) ≡ Some c.pushed
    by (inl q) k = ap (λ s. push_with c s (push_in c fs)) (ap (λ (g : Entry). g.symbol) q ∙ d)
    by (inr i) k = over f.symbol (k i)

  find_push : (fs : List Entry) → ((e : Entry) × Among fs e × (e.symbol ≡ Push)) ⊎ ((e : Entry) → Among fs e → e.symbol ≡ Push → ⊥)
  find_push [] = inr (λ e h. absurd h)
  find_push (f ∷ fs) = ⊎_elim (λ r. inl (r.0, inr r.1, r.2)) (λ r. ⊎_elim (λ k. inl (f, inl refl, is_push f.symbol k))
      (λ k. inr (λ e h d. none e h d r k.0)) (class_tells f.symbol 9)) (find_push fs) where
        none : (e : Entry) → Among (f ∷ fs) e → e.symbol ≡ Push → ((e : Entry) → Among fs e → e.symbol ≡ Push → ⊥) → (class_of f.symbol ≡ Some 9 → ⊥) → ⊥
        none e (inl q) d r k = k (ap (λ (g : Entry). class_of g.symbol) q ∙ ap class_of d)
        none e (inr i) d r k = r e i d

  words_hold : (n : ℕ) → Here (PushWords n) → is_words_array code n (ids (PushWords n)) ≡ true
  words_hold n h =
      let w = inner (PushWords n) Word (Constant n ∷ []) h refl in
      and_from (is_array_sort (is_word_type code) n (sort_of code (ids (PushWords n)))) _
      (ap (is_array_sort (is_word_type code) n) (is_sort (PushWords n) h) ∙ and_from (is_word_type code (ids Word)) (nat_eq n n) (word_type w)
      (equals n))
      (stride_holds (PushWords n) 4 h refl)

  pub push_holds : has_push code (wanted_of c es).push ≡ true
  push_holds = ⊎_elim there (λ n. let r = push_none es n in ap (has_push code) r.0 ∙ ap is_empty (of_is 9 ∙ ap ids_in r.1)) (find_push es) where
    there : (e : Entry) × Among es e × (e.symbol ≡ Push) → has_push code (wanted_of c es).push ≡ true
    there z =
        let e = z.0 in
        let a = among_kept (is_global (nat_eq 9)) es e z.1 (ap (λ s. passes (nat_eq 9) (class_of s)) z.2) in
        let l : of_class code 9 ≡ e.id ∷ [] =
        of_is 9 ∙ sym (all_pass (ids_in (of 9))) ∙ exactly (λ _. true) (of 9) e (of_apart 9) a refl (λ f i t.
        let q = among_filter (is_global (nat_eq 9)) es f i in same_entry e f z.1 q.0 (is_push f.symbol (class_is 9 f.symbol q.1) ∙ sym z.2)) in
        let h = subst (λ s. Has es s e.id) z.2 (has_entry e z.1) in
        let p = of_value Push (PushPointer c.pushed) [] e.id h refl in
        let v = inner (PushPointer c.pushed) (PushBlock c.pushed) [] p refl in
        let w = inner (PushBlock c.pushed) (PushWords c.pushed) [] v refl in
        ap (has_push code) (push_some es e z.1 z.2)
        ∙ ap (is_one (λ x. meets (is_block code (is_words_array code c.pushed)) (pointee code 9 x))) l
        ∙ ap (meets (is_block code (is_words_array code c.pushed))) (points Push (PushPointer c.pushed) [] 9 (ids (PushBlock c.pushed)) e.id h refl
        refl refl)
        ∙ block_holds (PushBlock c.pushed) Plain (is_words_array code c.pushed) (ids (PushWords c.pushed)) v refl refl (words_hold c.pushed w)

  -- SHARED MEMORY
  is_the_memory : (slot x : ℕ) → Has es (Memory (Shared slot)) x → is_shared code (size_of c (Memory (Shared slot))) x ≡ true
  is_the_memory slot x h =
      let n = size_of c (Memory (Shared slot)) in
      let p = of_value (Memory (Shared slot)) (SharedPointer n) [] x h refl in
      let v = inner (SharedPointer n) (Words n) [] p refl in
      let w = inner (Words n) Word (Constant n ∷ []) v refl in
      ap (meets (λ t. is_array_sort (is_word_type code) n (sort_of code t))) (points (Memory (Shared slot)) (SharedPointer n) [] 4 (ids (Words n)) x h
      refl refl refl)
      ∙ ap (is_array_sort (is_word_type code) n) (is_sort (Words n) v) ∙ and_from (is_word_type code (ids Word)) (nat_eq n n) (word_type w) (equals n)

  shared_by : (s : Symbol) (x : ℕ) (more xs : List ℕ) → Has es s x → are_shared code more xs ≡ true
      → are_shared code (shared_in c s ++ more) (map (λ (e : Entry). e.id) (cond (passes (nat_eq 4) (class_of s)) (entry s x ∷ []) []) ++ xs) ≡ true
  shared_by (Memory (Shared slot)) x more xs h k = and_from (is_shared code (size_of c (Memory (Shared slot))) x) (are_shared code more xs)
      (is_the_memory slot x h) k
  shared_by (Memory room) x more xs h k = k
  shared_by s x more xs h k = k

  step_ids : (b : Bool) (f : Entry) (fs : List Entry) → map (λ (e : Entry). e.id) (cond b (f ∷ fs) fs) ≡ map (λ (e : Entry). e.id)
      (cond b (f ∷ []) []) ++ map (λ (e : Entry). e.id) fs
  step_ids true f fs = refl
  step_ids false f fs = refl

  shared_all : (fs : List Entry) → ((e : Entry) → Among fs e → Among es e) → are_shared code (flat_map (λ (e : Entry). shared_in c e.symbol) fs)
      (globals_of (nat_eq 4) fs) ≡ true
  shared_all [] a = refl
  shared_all (f ∷ fs) a =
      ap (are_shared code (shared_in c f.symbol ++ flat_map (λ (e : Entry). shared_in c e.symbol) fs))
      (step_ids (passes (nat_eq 4) (class_of f.symbol)) f (filter (is_global (nat_eq 4)) fs))
      ∙ shared_by f.symbol f.id (flat_map (λ (e : Entry). shared_in c e.symbol) fs) (globals_of (nat_eq 4) fs) (has_entry f (a f (inl refl)))
      (shared_all fs (λ e i. a e (inr i)))

  pub shared_hold : are_shared code (wanted_of c es).shared (of_class code 4) ≡ true
  shared_hold = ap (are_shared code (wanted_of c es).shared) (of_is 4) ∙ shared_all es (λ e h. h)

  -- INPUTS
  carried : (b x kind : ℕ) → Has es (Input b) x → carries code kind x ≡ nat_eq b kind
  carried b x kind h =
      ap (λ o. is_number o kind)
      (ap (option_and_then (λ (i : Instr). slice_get i.operands 2)) (d.decorated (Input b) x (decorates x decorations.BuiltIn) h
      (aims x decorations.BuiltIn)) ∙ the_built_in x b)

  an_input : (s : Symbol) → class_of s ≡ Some 1 → (b : ℕ) × (s ≡ Input b)
  an_input (Input b) e = (b, refl)
  an_input (Memory (Shared slot)) e = absurd (cc e)
  an_input (Memory room) e = absurd (cc e)
  an_input s e = absurd (cc e)

  no_input : (s : Symbol) → (class_of s ≡ Some 1 → ⊥) → input_in s ≡ []
  no_input (Input b) e = absurd (e refl)
  no_input s e = refl

  triple_holds : Here Triple → is_vector code 3 (ids Triple) ≡ true
  triple_holds h =
      let w = inner Triple Word [] h refl in
      ap (is_vector_sort code 3) (is_sort Triple h) ∙ and_from (is_word_type code (ids Word)) true (word_type w) refl

  is_the_input : (b x : ℕ) → Has es (Input b) x → is_built_in b ≡ true → is_input code b x ≡ true
  is_the_input b x h k = by (nat_eq b 29) refl where
    by : (z : Bool) → nat_eq b 29 ≡ z → is_input code b x ≡ true
    by true e =
        let y : input_pointer b ≡ WordPointer 1 = ap (λ t. cond t (WordPointer 1) TriplePointer) e in
        let n : needs c (Input b) ≡ AType (WordPointer 1) ∷ [] = ap (λ p. AType p ∷ []) y in
        let p = of_value (Input b) (WordPointer 1) [] x h n in
        let w = inner (WordPointer 1) Word [] p refl in
        ap (meets (is_input_type code b)) (points (Input b) (WordPointer 1) [] 1 (ids Word) x h n (ap (λ q. Some q) y) refl)
        ∙ ap (λ t. if t then is_word_type code (ids Word) else ((nat_le 26 b && nat_le b 28) && is_vector code 3 (ids Word))) e ∙ word_type w
    by false e =
        let y : input_pointer b ≡ TriplePointer = ap (λ t. cond t (WordPointer 1) TriplePointer) e in
        let n : needs c (Input b) ≡ AType TriplePointer ∷ [] = ap (λ p. AType p ∷ []) y in
        let p = of_value (Input b) TriplePointer [] x h n in
        let w = inner TriplePointer Triple [] p refl in
        let parts = and_parts (nat_le 26 b) (nat_le b 29) k in
        let low : nat_le b 28 ≡ true = grind (arith, nat_tests, e, parts.1) in
        ap (meets (is_input_type code b)) (points (Input b) TriplePointer [] 1 (ids Triple) x h n (ap (λ q. Some q) y) refl)
        ∙ ap (λ t. if t then is_word_type code (ids Triple) else ((nat_le 26 b && nat_le b 28) && is_vector code 3 (ids Triple))) e
        ∙ and_from (nat_le 26 b && nat_le b 28) (is_vector code 3 (ids Triple)) (and_from (nat_le 26 b) (nat_le b 28) parts.0 low) (triple_holds w)

  abbrev input_test : ℕ → Bool
  input_test kind = is_one (is_input code kind) (filter (carries code kind) (of_class code 1))

  input_there : (e : Entry) → HasPlaces c es → Among es e → (b : ℕ) → e.symbol ≡ Input b → input_test b ≡ true
  input_there e p h b q =
      let i = subst (λ s. Has es s e.id) q (has_entry e h) in
      let a = among_kept (is_global (nat_eq 1)) es e h (ap (λ s. passes (nat_eq 1) (class_of s)) q) in
      ap (is_one (is_input code b))
      (ap (filter (carries code b)) (of_is 1) ∙ exactly (carries code b) (of 1) e (of_apart 1) a (carried b e.id b i ∙ equals b) (λ f j t.
      let r = among_filter (is_global (nat_eq 1)) es f j in
      let u = an_input f.symbol (class_is 1 f.symbol r.1) in
      let v = subst (λ s. Has es s f.id) u.1 (has_entry f r.0) in
      same_entry e f h r.0 (u.1 ∙ ap Input (equal_numbers u.0 b (sym (carried u.0 f.id b v) ∙ t)) ∙ sym q)))
      ∙ is_the_input b e.id i (p.inputs b e.id i)

  pub inputs_hold : HasPlaces c es → has_inputs code (wanted_of c es).inputs ≡ true
  inputs_hold p =
      and_from (list_all input_test (wanted_of c es).inputs) _
      (all_of input_test input_in es (λ e h. ⊎_elim
      (λ k. let u = an_input e.symbol k in ap (λ s. list_all input_test (input_in s)) u.1 ∙ and_from (input_test u.0) true (input_there e p h u.0 u.1)
      refl)
      (λ k. ap (list_all input_test) (no_input e.symbol k.0)) (class_tells e.symbol 1)))
      (ap (list_all (λ x. list_any (λ kind. carries code kind x) (wanted_of c es).inputs)) (of_is 1)
      ∙ all_ids (λ x. list_any (λ kind. carries code kind x) (wanted_of c es).inputs) (of 1) (λ e h.
      let q = among_filter (is_global (nat_eq 1)) es e h in
      let u = an_input e.symbol (class_is 1 e.symbol q.1) in
      any_of (λ kind. carries code kind e.id) input_in es e q.0
      (ap (λ s. list_any (λ kind. carries code kind e.id) (input_in s)) u.1
      ∙ ap (λ z. z || false) (carried u.0 e.id u.0 (subst (λ s. Has es s e.id) u.1 (has_entry e q.0)) ∙ equals u.0))))
