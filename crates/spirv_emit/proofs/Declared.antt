-- The types that the symbols of a finished module have.
use Rattle.std.proofs.Common.{◌≡◌, ℕ, true, false, List, [], ◌∷◌, length, Some, refl, sym, ap, ◌∙◌, subst}
use Rattle.std.specs.Prelude.{nat_eq, if◌then◌else◌, option_and_then, option_map, position, slice_get}
use Rattle.word_base.specs.declared.event.Room.{Room}
use Rattle.word_base.specs.declared.event.Room.TheVariants.{Resource, Uav, Counter, Shared}
use Rattle.spirv_words.specs.StorageClass as storage
use Rattle.spirv_words.specs.BuiltIn.{LocalInvocationIndex}
use Rattle.spirv_words.specs.Decoration.{ArrayStride, Binding, DescriptorSet, Offset}
use Rattle.spirv_words.specs.Text.{Instr}
use Rattle.spirv_words.specs.Ids.{type_of}
use Rattle.spirv_words.specs.Sorts.{sort_of, sort_of_type, sort_of_value}
use Rattle.spirv_words.specs.Globals.{Places, bound_room, decoration, member_decoration, workgroup_ids}
use Rattle.spirv_words.specs.Lane.{is_glsl}
use Rattle.spirv_symbols.specs.declared.symbol.Access.{Access}
use Rattle.spirv_symbols.specs.declared.symbol.Access.TheVariants.{Plain, ReadOnly}
use Rattle.spirv_symbols.specs.declared.symbol.Symbol.{Symbol}
use Rattle.spirv_symbols.specs.declared.symbol.Symbol.TheVariants.{AType, Constant, FirstLabel, Import, Main, Input, Memory, Uniform, Push, Registers, Elements, ImmediateArray}
use Rattle.spirv_symbols.specs.declared.symbol.TypeSymbol.{TypeSymbol}
use Rattle.spirv_symbols.specs.declared.symbol.TypeSymbol.TheVariants.{Void, Procedure, Word, Triple, Quad, Words, PushWords, Vectors, RuntimeWords, View, VectorsBlock, PushBlock, WordPointer, TriplePointer, LocalPointer, SharedPointer, ViewPointer, VectorsPointer, PushPointer}
use Rattle.spirv_symbols.specs.declared.row.Part.{Part}
use Rattle.spirv_symbols.specs.declared.row.Part.TheVariants.{Own, Of}
use Rattle.spirv_symbols.specs.declared.row.Marks.TheVariants.{Stride, Block, Bound as AtPlace}
use Rattle.spirv_symbols.specs.Contexts.{Context, declared_of, size_of}
use Rattle.spirv_symbols.specs.Rows.{row_of, needs, needs_in, uav_access, input_pointer}
use Rattle.spirv_symbols.specs.declared.entry.Entry.{Entry}
use Rattle.spirv_symbols.specs.Tables.{Has, AreThere, id_of}
use Rattle.spirv_symbols.specs.Sorted.{Defines, id_of_type, sort_for, value_type}
use Rattle.spirv_emit.specs.Code.{type_in, type_of_symbol}
use Rattle.spirv_emit.specs.Linked.{IsPointer, IsBound, ArePlaced}
use Rattle.spirv_emit.specs.ModuleShape.{variable_room}
use Rattle.spirv_symbols.specs.Starts.{shared_slots}
use Rattle.spirv_emit.specs.Lanes.{IsArray, IsPushBlock, IsView, IsVectors, IsTriple, HasSort}

pub record Known (c : Context) (es : List Entry) (code : List Instr) : Type 0 where
  pub sorts : (y : TypeSymbol) (x : ℕ) → Has es (AType y) x → sort_of code x ≡ sort_for (id_of_type es) y
  pub types : (s : Symbol) (y : TypeSymbol) (x : ℕ) → Has es s x → value_type c s ≡ Some y → type_of code x ≡ Some (id_of_type es y)
  pub imports : (x : ℕ) → Has es Import x → is_glsl code x ≡ true
  pub strides : (s : Symbol) (x bytes : ℕ) → Has es s x → (row_of c s).marks ≡ Stride bytes → decoration code x ArrayStride ≡ Some bytes
  pub offsets : (s : Symbol) (x : ℕ) (access : Access) → Has es s x → (row_of c s).marks ≡ Block access → member_decoration code x 0 Offset ≡ Some 0
  pub founded : (s : Symbol) (x : ℕ) → Has es s x → AreThere es (needs c s) x
  pub found : (s : Symbol) (x : ℕ) → Has es s x → id_of es s ≡ x

-- pointers to words among the types of values
type_needs : (parts : List Part) (y : TypeSymbol) → type_in parts ≡ Some y → (us : List Symbol) × (needs_in parts ≡ AType y ∷ us)
type_needs (Of (AType t) ∷ Own ∷ rest) y e = (needs_in rest, ap (λ s. AType s ∷ needs_in rest) (cc e))
type_needs parts y e = absurd (cc e)

pointer_type : (c : Context) (s : Symbol) (class : ℕ) → type_of_symbol c s ≡ Some (WordPointer class) → value_type c s ≡ Some (WordPointer class)
pointer_type c (Memory (Shared slot)) class e = e
pointer_type c (Memory (Resource slot)) class e = e
pointer_type c (Memory (Uav slot)) class e = e
pointer_type c (Memory (Counter slot)) class e = e
pointer_type c (AType Void) class e = absurd (cc e)
pointer_type c (AType Procedure) class e = absurd (cc e)
pointer_type c (AType t) class e = absurd (cc e)
pointer_type c Import class e = absurd (cc e)
pointer_type c Main class e = absurd (cc e)
pointer_type c FirstLabel class e = absurd (cc e)
pointer_type c s class e = e

module _ (c : Context) (es : List Entry) (code : List Instr) (k : Known c es code) where
  abbrev ids : TypeSymbol → ℕ
  ids = id_of_type es

  abbrev Here : TypeSymbol → Type 0
  Here y = Has es (AType y) (ids y)

  needed : (ss : List Symbol) (x : ℕ) (u : Symbol) (us : List Symbol) → ss ≡ u ∷ us → AreThere es ss x → Has es u (id_of es u)
  needed ss x u us e h = let z = subst (λ l. AreThere es l x) e h in subst (Has es u) (sym (k.found u z.0.0 z.0.1)) z.0.1

  inner : (s : Symbol) (y : TypeSymbol) (us : List Symbol) (x : ℕ) → Has es s x → needs c s ≡ AType y ∷ us → Here y
  inner s y us x h e = needed (needs c s) x (AType y) us e (k.founded s x h)

  sort_is : (y : TypeSymbol) → Here y → sort_of code (ids y) ≡ sort_for ids y
  sort_is y h = k.sorts y (ids y) h

  points : (s : Symbol) (y : TypeSymbol) (x : ℕ) → Has es s x → value_type c s ≡ Some y → Here y → sort_of_value code x ≡ sort_for ids y
  points s y x h e p = ap (sort_of_type code) (k.types s y x h e) ∙ sort_is y p

  -- arrays of words
  local_array : (s : Symbol) (n x : ℕ) (us : List Symbol) → Has es s x → value_type c s ≡ Some (LocalPointer n) → needs c s ≡ AType (LocalPointer n) ∷
      us → IsArray code storage.Function x n
  local_array s n x us h e q =
      let p = inner s (LocalPointer n) us x h q in
      let a = inner (AType (LocalPointer n)) (Words n) [] (ids (LocalPointer n)) p refl in
      let w = inner (AType (Words n)) Word (Constant n ∷ []) (ids (Words n)) a refl in
      record {
        array = ids (Words n);
        element = ids Word;
        pointer = points s (LocalPointer n) x h e p;
        array' = sort_is (Words n) a;
        element' = sort_is Word w;
      }

  shared_array : (slot x : ℕ) → Has es (Memory (Shared slot)) x → IsArray code storage.Workgroup x (size_of c (Memory (Shared slot)))
  shared_array slot x h =
      let n = size_of c (Memory (Shared slot)) in
      let p = inner (Memory (Shared slot)) (SharedPointer n) [] x h refl in
      let a = inner (AType (SharedPointer n)) (Words n) [] (ids (SharedPointer n)) p refl in
      let w = inner (AType (Words n)) Word (Constant n ∷ []) (ids (Words n)) a refl in
      record {
        array = ids (Words n);
        element = ids Word;
        pointer = points (Memory (Shared slot)) (SharedPointer n) x h refl p;
        array' = sort_is (Words n) a;
        element' = sort_is Word w;
      }

  -- blocks
  is_view : (s : Symbol) (access : Access) (x : ℕ) → Has es s x → value_type c s ≡ Some (ViewPointer access) → needs c s ≡ AType (ViewPointer access)
      ∷ [] → IsView code x
  is_view s access x h e q =
      let p = inner s (ViewPointer access) [] x h q in
      let v = inner (AType (ViewPointer access)) (View access) [] (ids (ViewPointer access)) p refl in
      let r = inner (AType (View access)) RuntimeWords [] (ids (View access)) v refl in
      let w = inner (AType RuntimeWords) Word [] (ids RuntimeWords) r refl in
      record {
        block = ids (View access);
        array = ids RuntimeWords;
        element = ids Word;
        pointer = points s (ViewPointer access) x h e p;
        block' = sort_is (View access) v;
        array' = sort_is RuntimeWords r;
        element' = sort_is Word w;
        offset = k.offsets (AType (View access)) (ids (View access)) access v refl;
        stride = k.strides (AType RuntimeWords) (ids RuntimeWords) 4 r refl;
      }

  is_push : (x : ℕ) → Has es Push x → IsPushBlock code x c.pushed
  is_push x h =
      let n = c.pushed in
      let p = inner Push (PushPointer n) [] x h refl in
      let b = inner (AType (PushPointer n)) (PushBlock n) [] (ids (PushPointer n)) p refl in
      let a = inner (AType (PushBlock n)) (PushWords n) [] (ids (PushBlock n)) b refl in
      let w = inner (AType (PushWords n)) Word (Constant n ∷ []) (ids (PushWords n)) a refl in
      record {
        block = ids (PushBlock n);
        array = ids (PushWords n);
        element = ids Word;
        pointer = points Push (PushPointer n) x h refl p;
        block' = sort_is (PushBlock n) b;
        array' = sort_is (PushWords n) a;
        element' = sort_is Word w;
        offset = k.offsets (AType (PushBlock n)) (ids (PushBlock n)) Plain b refl;
        stride = k.strides (AType (PushWords n)) (ids (PushWords n)) 4 a refl;
      }

  is_vectors : (slot x : ℕ) → Has es (Uniform slot) x → IsVectors code x (size_of c (Uniform slot))
  is_vectors slot x h =
      let n = size_of c (Uniform slot) in
      let p = inner (Uniform slot) (VectorsPointer n) [] x h refl in
      let b = inner (AType (VectorsPointer n)) (VectorsBlock n) [] (ids (VectorsPointer n)) p refl in
      let a = inner (AType (VectorsBlock n)) (Vectors n) [] (ids (VectorsBlock n)) b refl in
      let v = inner (AType (Vectors n)) Quad (Constant n ∷ []) (ids (Vectors n)) a refl in
      let w = inner (AType Quad) Word [] (ids Quad) v refl in
      record {
        block = ids (VectorsBlock n);
        array = ids (Vectors n);
        vector = ids Quad;
        element = ids Word;
        pointer = points (Uniform slot) (VectorsPointer n) x h refl p;
        block' = sort_is (VectorsBlock n) b;
        array' = sort_is (Vectors n) a;
        vector' = sort_is Quad v;
        element' = sort_is Word w;
        offset = k.offsets (AType (VectorsBlock n)) (ids (VectorsBlock n)) Plain b refl;
        stride = k.strides (AType (Vectors n)) (ids (Vectors n)) 16 a refl;
      }

  is_triple : (built_in x : ℕ) → Has es (Input built_in) x → nat_eq built_in LocalInvocationIndex ≡ false → IsTriple code x
  is_triple built_in x h e =
      let q : input_pointer built_in ≡ TriplePointer = ap (λ b. if b then WordPointer storage.Input else TriplePointer) e in
      let p = inner (Input built_in) TriplePointer [] x h (ap (λ t. AType t ∷ []) q) in
      let v = inner (AType TriplePointer) Triple [] (ids TriplePointer) p refl in
      let w = inner (AType Triple) Word [] (ids Triple) v refl in
      record {
        vector = ids Triple;
        element = ids Word;
        pointer = points (Input built_in) TriplePointer x h (ap Some q) p;
        vector' = sort_is Triple v;
        element' = sort_is Word w;
      }

  pub pointer_sort : (class x : ℕ) → Has es (AType (WordPointer class)) x → IsPointer (sort_of code x) class
  pointer_sort class x h = record { pointee = ids Word; pointer = k.sorts (WordPointer class) x h }

  pub word_pointer : (s : Symbol) (class x : ℕ) → Has es s x → type_of_symbol c s ≡ Some (WordPointer class) → IsPointer (sort_of_value code x) class
  word_pointer s class x h e =
      let n = type_needs (row_of c s).parts (WordPointer class) e in
      let p = inner s (WordPointer class) n.0 x h n.1 in
      record { pointee = ids Word; pointer = points s (WordPointer class) x h (pointer_type c s class e) p }

  pub has_sort : (s : Symbol) (x : ℕ) → Has es s x → HasSort code c s x
  has_sort (AType Word) x h = k.sorts Word x h
  has_sort Import x h = k.imports x h
  has_sort (Input built_in) x h = is_triple built_in x h
  has_sort (Memory (Shared slot)) x h = shared_array slot x h
  has_sort (Memory (Resource slot)) x h = is_view (Memory (Resource slot)) ReadOnly x h refl refl
  has_sort (Memory (Uav slot)) x h = is_view (Memory (Uav slot)) (uav_access (declared_of c (Memory (Uav slot))).coherent) x h refl refl
  has_sort (Memory (Counter slot)) x h = is_view (Memory (Counter slot)) Plain x h refl refl
  has_sort (Uniform slot) x h = is_vectors slot x h
  has_sort Push x h = is_push x h
  has_sort Registers x h = local_array Registers c.registers x _ h refl refl
  has_sort (Elements slot) x h = local_array (Elements slot) (size_of c (Elements slot)) x _ h refl refl
  has_sort ImmediateArray x h = local_array ImmediateArray (length c.immediates) x _ h refl refl
  has_sort s x h = tt

-- the variables of rooms
pub record Bound (c : Context) (es : List Entry) (code : List Instr) : Type 0 where
  pub set : (s : Symbol) (x set binding : ℕ) → Has es s x → (row_of c s).marks ≡ AtPlace set binding → decoration code x DescriptorSet ≡ Some set
  pub binding : (s : Symbol) (x set binding : ℕ) → Has es s x → (row_of c s).marks ≡ AtPlace set binding → decoration code x Binding ≡ Some binding
  pub slot : (slot x : ℕ) → Has es (Memory (Shared slot)) x
      → option_and_then (slice_get (shared_slots es)) (position (nat_eq x) (workgroup_ids code)) ≡ Some slot

module _ (c : Context) (es : List Entry) (code : List Instr) (places : Places) (d : Defines c es code) (b : Bound c es code)
    (placed : ArePlaced c es places) where
  at_place : (r : Room) (x : ℕ) → decoration code x DescriptorSet ≡ Some (declared_of c (Memory r)).set
      → decoration code x Binding ≡ Some (declared_of c (Memory r)).binding
      → bound_room places (Some (declared_of c (Memory r)).set) (Some (declared_of c (Memory r)).binding) ≡ Some r
      → variable_room code places x storage.StorageBuffer ≡ Some r
  at_place r x e f g = rw (e, f) g

  view_bound : (r : Room) (x : ℕ) → Has es (Memory r) x
      → (row_of c (Memory r)).marks ≡ AtPlace (declared_of c (Memory r)).set (declared_of c (Memory r)).binding
      → bound_room places (Some (declared_of c (Memory r)).set) (Some (declared_of c (Memory r)).binding) ≡ Some r
      → variable_room code places x storage.StorageBuffer ≡ Some r
  view_bound r x h m g =
      at_place r x (b.set (Memory r) x (declared_of c (Memory r)).set (declared_of c (Memory r)).binding h m)
      (b.binding (Memory r) x (declared_of c (Memory r)).set (declared_of c (Memory r)).binding h m) g

  shared_bound : (slot x : ℕ) → Has es (Memory (Shared slot)) x → variable_room code places x storage.Workgroup ≡ Some (Shared slot)
  shared_bound slot x h =
      ap (λ l. option_map (λ s. Shared s) (option_and_then (slice_get l) (position (nat_eq x) (workgroup_ids code)))) placed.shared
      ∙ ap (option_map (λ s. Shared s)) (b.slot slot x h)

  pub bound_there : (room : Room) (x : ℕ) → Has es (Memory room) x → IsBound code places room x
  bound_there (Resource slot) x h = record {
    type' = _;
    class = storage.StorageBuffer;
    variable = d.whole (Memory (Resource slot)) x h;
    found = view_bound (Resource slot) x h refl (placed.bound (Resource slot) x h);
  }
  bound_there (Uav slot) x h = record {
    type' = _;
    class = storage.StorageBuffer;
    variable = d.whole (Memory (Uav slot)) x h;
    found = view_bound (Uav slot) x h refl (placed.bound (Uav slot) x h);
  }
  bound_there (Counter slot) x h = record {
    type' = _;
    class = storage.StorageBuffer;
    variable = d.whole (Memory (Counter slot)) x h;
    found = view_bound (Counter slot) x h refl (placed.bound (Counter slot) x h);
  }
  bound_there (Shared slot) x h = record {
    type' = _;
    class = storage.Workgroup;
    variable = d.whole (Memory (Shared slot)) x h;
    found = shared_bound slot x h;
  }
