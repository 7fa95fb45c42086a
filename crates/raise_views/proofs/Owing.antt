-- What the statement of a guarded instruction holds and names, and its shape.
use Rattle.std.proofs.Common.{◌≡◌, ℕ, ◌/◌, Bool, true, false, List, [], ◌∷◌, ◌++◌, Option, Some, None, refl, sym, ap, ◌∙◌}
use Rattle.std.specs.Prelude.{nat_eq, if◌then◌else◌}
use Rattle.std.proofs.lemmas.Bool.{false≢true}
use Rattle.word_base.specs.declared.event.Act.TheVariants as act
use Rattle.word_base.specs.declared.event.Room.{Room}
use Rattle.word_base.specs.declared.event.Room.TheVariants as room
use Rattle.tpf_decode.specs.Opcodes.{meaning_of}
use Rattle.tpf_decode.specs.Profiles.{Base}
use Rattle.tpf_decode.specs.declared.argument.Argument.{Argument}
use Rattle.tpf_decode.specs.declared.meaning.Meaning.{Meaning}
use Rattle.tpf_decode.specs.declared.meaning.Meaning.TheVariants.{LoadRaw, LoadStructured, StoreRaw, StoreStructured, Measures, Acts, Compares, Fetches, Exchanges, Allocates, Consumes, Syncs}
use Rattle.tpf_program.specs.Plans.{scope_of, classes_of}
use Rattle.tpf_program.specs.Program.{Shader}
use Rattle.tpf_program.specs.Sizes.{Addressing}
use Rattle.tpf_program.specs.Sizes as sizes
use Rattle.tpf_program.specs.Values.{selected}
use Rattle.tpf_program.specs.Views.{room_of, words_by}
use Rattle.tpf_program.specs.Writes.{has_bit, masked, written}
use Rattle.tpf_program.specs.declared.instruction.Instruction.{Instruction}
use Rattle.shader_tree.specs.Shape.{Item, shape}
use Rattle.shader_tree.specs.Terms.{Term}
use Rattle.shader_tree.specs.Terms as term
use Rattle.shader_tree.specs.Walks.{Each}
use Rattle.raise_operands.specs.Laws.{PlainLaws}
use Rattle.raise_operands.specs.Raises.{IsPlain}
use Rattle.raise_operands.specs.Raising.{indices, source}
use Rattle.raise_operands.specs.Vectors.{spaces_of}
use Rattle.raise_views.specs.Guarding.{at_of, first_measure, given_by, is_guarded, items_by, keeps_by, measure_by, measured, parts_by, raised, reach_of, results, room_by, shape_by, shape_of, statement_of, statements, stride_of, sync_part, way_of, work_by, writes}
use Rattle.raise_views.specs.Guards.{IsGuardable}
use Rattle.raise_views.specs.Reaching.{At, answer_scratch, at_byte, at_word, in_structure, keeps, paired_by, structures}
use Rattle.raise_views.proofs.Naming.{IsThere, Names, append_nil, each_append, names_atomic, names_chained, names_counter, names_keeps, names_length, names_loads, names_quarter, names_set, names_stores, names_structures, names_sync, none_keeps, of_plain, plain_scratch, plain_word, quiet_shape, shape_chained, shapes, shapes_append, shapes_atomic, shapes_loads, shapes_none, shapes_one, shapes_stores}
use Rattle.raise_views.proofs.Rooms.{there_of, writable_of}

if_same : (b : Bool) → ◌≡◌ {A = List Item} (if b then [] else []) []
if_same true = refl
if_same false = refl

module _ (plain : PlainLaws) (is_null : Room → Bool) (p : Shader) (i : Instruction) (able : IsGuardable p i) where
  source1 : (c : ℕ) → Names p is_null (source (spaces_of p) 1 i.o1 c)
  source1 c = of_plain p is_null (source (spaces_of p) 1 i.o1 c) (plain.source p 1 c i.o1 able.there.names.1.0)

  source2 : (c : ℕ) → Names p is_null (source (spaces_of p) 2 i.o2 c)
  source2 c = of_plain p is_null (source (spaces_of p) 2 i.o2 c) (plain.source p 2 c i.o2 able.there.names.1.1.0)

  source3 : (c : ℕ) → Names p is_null (source (spaces_of p) 3 i.o3 c)
  source3 c = of_plain p is_null (source (spaces_of p) 3 i.o3 c) (plain.source p 3 c i.o3 able.there.names.1.1.1.0)

  source4 : (c : ℕ) → Names p is_null (source (spaces_of p) 4 i.o4 c)
  source4 c = of_plain p is_null (source (spaces_of p) 4 i.o4 c) (plain.source p 4 c i.o4 able.there.names.1.1.1.1.0)

  zero' : Names p is_null (term.Word 0)
  zero' = of_plain p is_null (term.Word 0) (plain_word p is_null 0)

  -- INDICES AND ADDRESSES
  all_plain : Each (IsPlain p) (indices (spaces_of p) i)
  all_plain = (
    plain.keeps p 0 i.o0 able.there.names.0,
    (
      plain.keeps p 1 i.o1 able.there.names.1.0,
      (
        plain.keeps p 2 i.o2 able.there.names.1.1.0,
        (plain.keeps p 3 i.o3 able.there.names.1.1.1.0, (plain.keeps p 4 i.o4 able.there.names.1.1.1.1.0, tt)),
      ),
    ),
  )

  each_plain : (xs : List Term) → Each (IsPlain p) xs → Each (Names p is_null) xs
  each_plain [] h = tt
  each_plain (x ∷ xs) h = (of_plain p is_null x h.0, each_plain xs h.1)

  each_quiet : (xs : List Term) → Each (IsPlain p) xs → Each (λ x. shape x ≡ []) xs
  each_quiet [] h = tt
  each_quiet (x ∷ xs) h = (quiet_shape x h.0.no_events h.0.no_flow, each_quiet xs h.1)

  at_names : (at : At) → Names p is_null at.word → Names p is_null at.index → Each (Names p is_null) (keeps at)
  at_names at h k = names_keeps p is_null at h k

  byte_names : (x : Term) → Names p is_null x → Each (Names p is_null) (keeps (at_byte x))
  byte_names x h = at_names (at_byte x) (names_quarter p is_null x h) zero'

  structure_names : (n : ℕ) (x y : Term) → Names p is_null x → Names p is_null y → Each (Names p is_null) (keeps (in_structure n x y))
  structure_names n x y h k = at_names (in_structure n x y) (names_quarter p is_null y k) h

  paired_names : (a : Addressing) (n : ℕ) (o : Argument) → ((c : ℕ) → Names p is_null (source (spaces_of p) n o c)) → Each (Names p is_null)
      (keeps (paired_by a (spaces_of p) n o))
  paired_names sizes.Bytes n o f = byte_names (source (spaces_of p) n o 0) (f 0)
  paired_names (sizes.Structures stride) n o f = structure_names (stride / 4) (source (spaces_of p) n o 0) (source (spaces_of p) n o 1) (f 0) (f 1)
  paired_names sizes.Words n o f = at_names (at_word (source (spaces_of p) n o 0)) (f 0) zero'

  kept_names : (m : Meaning) → Each (Names p is_null) (keeps_by m (at_of m p i))
  kept_names Allocates = tt
  kept_names Consumes = tt
  kept_names LoadStructured = structure_names (words_by (way_of p i.o3)) (source (spaces_of p) 1 i.o1 0) (source (spaces_of p) 2 i.o2 0) (source1 0)
      (source2 0)
  kept_names StoreStructured = structure_names (words_by (way_of p i.o0)) (source (spaces_of p) 1 i.o1 0) (source (spaces_of p) 2 i.o2 0) (source1 0)
      (source2 0)
  kept_names (Acts kind) = paired_names (way_of p i.o0) 1 i.o1 source1
  kept_names Compares = paired_names (way_of p i.o0) 1 i.o1 source1
  kept_names (Fetches kind) = paired_names (way_of p i.o1) 2 i.o2 source2
  kept_names Exchanges = paired_names (way_of p i.o1) 2 i.o2 source2
  kept_names other = byte_names (source (spaces_of p) 1 i.o1 0) (source1 0)

  kept_quiet : (m : Meaning) → Each (λ x. shape x ≡ []) (keeps_by m (at_of m p i))
  kept_quiet Allocates = tt
  kept_quiet Consumes = tt
  kept_quiet other = none_keeps (at_of other p i)

  -- WRITES
  value_plain : (m : Meaning) (c : ℕ) → IsPlain p (given_by m c)
  value_plain LoadRaw c = plain_scratch p is_null (answer_scratch c)
  value_plain LoadStructured c = plain_scratch p is_null (answer_scratch c)
  value_plain Consumes c = record { no_events = refl; no_flow = refl; no_rooms = refl; threads = tt; spaces = tt; written = tt }
  value_plain other c = plain_scratch p is_null (answer_scratch 0)

  if_plain : (b : Bool) (x y : Term) → IsPlain p x → IsPlain p y → IsPlain p (if b then x else y)
  if_plain true x y h k = h
  if_plain false x y h k = k

  measured_plain : (a : Addressing) (null : Bool) (c : ℕ) → IsPlain p (measured a null c)
  measured_plain a null c =
      if_plain (nat_eq c 0) (first_measure a null) (if nat_eq c 1 then term.Word (stride_of a) else term.Word 0) (first a)
      (if_plain (nat_eq c 1) (term.Word (stride_of a)) (term.Word 0) (plain_word p is_null (stride_of a)) (plain_word p is_null 0))
    where
      first : (a : Addressing) → IsPlain p (first_measure a null)
      first sizes.Words = plain_word p is_null 0
      first sizes.Bytes = if_plain null (term.Word 0) (term.Scratch (answer_scratch 0)) (plain_word p is_null 0)
          (plain_scratch p is_null (answer_scratch 0))
      first (sizes.Structures stride) = if_plain null (term.Word 0) (term.Scratch (answer_scratch 0)) (plain_word p is_null 0)
          (plain_scratch p is_null (answer_scratch 0))

  written_plain : (F : ℕ → Term) → ((c : ℕ) → IsPlain p (F c)) → (cs : List ℕ) → Each (IsPlain p) (writes (spaces_of p) i F cs)
  written_plain F h [] = tt
  written_plain F h (c ∷ cs) = (plain.write p i.o0 0 c (F c) (h c), written_plain F h cs)

  -- PARTS
  parts_names : (m : Meaning) → meaning_of Base i.code ≡ Some m → is_guarded (Some m) ≡ true → is_null (room_by m i) ≡ false → Each (Names p is_null)
      (parts_by m (spaces_of p) (reach_of m p i) i)
  parts_names LoadRaw e h n = names_loads p is_null (reach_of LoadRaw p i) (there_of is_null p i able LoadRaw e h (λ q. cc q) n) (written i.o0)
      (selected i.o2.select)
  parts_names LoadStructured e h n = names_loads p is_null (reach_of LoadStructured p i) (there_of is_null p i able LoadStructured e h (λ q. cc q) n)
      (written i.o0) (selected i.o3.select)
  parts_names StoreRaw e h n =
      names_stores p is_null (reach_of StoreRaw p i) (there_of is_null p i able StoreRaw e h (λ q. cc q) n) (writable_of p i able StoreRaw e refl)
      (masked i.o0.select) (source (spaces_of p) 2 i.o2) source2
  parts_names StoreStructured e h n =
      names_stores p is_null (reach_of StoreStructured p i) (there_of is_null p i able StoreStructured e h (λ q. cc q) n)
      (writable_of p i able StoreStructured e refl) (masked i.o0.select)
      (source (spaces_of p) 3 i.o3) source3
  parts_names (Acts kind) e h n = (
    names_atomic p is_null (reach_of (Acts kind) p i) (there_of is_null p i able (Acts kind) e h (λ q. cc q) n)
        (writable_of p i able (Acts kind) e refl) kind (source (spaces_of p) 2 i.o2 0) (term.Word 0) false (source2 0) zero',
    tt,
  )
  parts_names Compares e h n = (
    names_atomic p is_null (reach_of Compares p i) (there_of is_null p i able Compares e h (λ q. cc q) n) (writable_of p i able Compares e refl)
        act.CompareExchange (source (spaces_of p) 2 i.o2 0) (source (spaces_of p) 3 i.o3 0) false (source2 0) (source3 0),
    tt,
  )
  parts_names (Fetches kind) e h n = (
    names_atomic p is_null (reach_of (Fetches kind) p i) (there_of is_null p i able (Fetches kind) e h (λ q. cc q) n)
        (writable_of p i able (Fetches kind) e refl) kind (source (spaces_of p) 3 i.o3 0) (term.Word 0) true (source3 0) zero',
    tt,
  )
  parts_names Exchanges e h n = (
    names_atomic p is_null (reach_of Exchanges p i) (there_of is_null p i able Exchanges e h (λ q. cc q) n) (writable_of p i able Exchanges e refl)
        act.CompareExchange (source (spaces_of p) 3 i.o3 0) (source (spaces_of p) 4 i.o4 0) true (source3 0) (source4 0),
    tt,
  )
  parts_names Allocates e h n = (
    names_counter p is_null i.o1.slot (there_of is_null p i able Allocates e h (λ q. cc q) n) (answer_scratch 0) act.Add,
    tt,
  )
  parts_names Consumes e h n = (
    names_counter p is_null i.o1.slot (there_of is_null p i able Consumes e h (λ q. cc q) n) (answer_scratch 0) act.Sub,
    tt,
  )
  parts_names other e h n = tt

  parts_shape : (m : Meaning) → shapes (parts_by m (spaces_of p) (reach_of m p i) i) ≡ items_by m (room_by m i) i
  parts_shape LoadRaw = shapes_loads (reach_of LoadRaw p i) (written i.o0) (selected i.o2.select)
  parts_shape LoadStructured = shapes_loads (reach_of LoadStructured p i) (written i.o0) (selected i.o3.select)
  parts_shape StoreRaw = shapes_stores (reach_of StoreRaw p i) (masked i.o0.select) (source (spaces_of p) 2 i.o2)
  parts_shape StoreStructured = shapes_stores (reach_of StoreStructured p i) (masked i.o0.select) (source (spaces_of p) 3 i.o3)
  parts_shape (Acts kind) = shapes_atomic (reach_of (Acts kind) p i) kind (source (spaces_of p) 2 i.o2 0) (term.Word 0) false
  parts_shape Compares = shapes_atomic (reach_of Compares p i) act.CompareExchange (source (spaces_of p) 2 i.o2 0) (source (spaces_of p) 3 i.o3 0)
      false
  parts_shape (Fetches kind) = shapes_atomic (reach_of (Fetches kind) p i) kind (source (spaces_of p) 3 i.o3 0) (term.Word 0) true
  parts_shape Exchanges = shapes_atomic (reach_of Exchanges p i) act.CompareExchange (source (spaces_of p) 3 i.o3 0) (source (spaces_of p) 4 i.o4 0)
      true
  parts_shape Allocates = shapes_one (term.Atomic (answer_scratch 0) (room.Counter i.o1.slot) (term.Word 0) act.Add (term.Word 1) (term.Word 0))
  parts_shape Consumes = shapes_one (term.Atomic (answer_scratch 0) (room.Counter i.o1.slot) (term.Word 0) act.Sub (term.Word 1) (term.Word 0))
  parts_shape other = shapes_none [] tt

  -- THE WHOLE
  all_names : (kept ps ws : List Term) → Each (Names p is_null) kept → Each (Names p is_null) ps → Each (IsPlain p) ws → Each (Names p is_null)
      (indices (spaces_of p) i ++ (kept ++ (ps ++ ws)))
  all_names kept ps ws h k l =
      each_append (Names p is_null) (indices (spaces_of p) i) (kept ++ (ps ++ ws)) (each_plain (indices (spaces_of p) i) all_plain)
      (each_append (Names p is_null) kept (ps ++ ws) h (each_append (Names p is_null) ps ws k (each_plain ws l)))

  all_shapes : (kept ps ws : List Term) → Each (λ x. shape x ≡ []) kept → Each (IsPlain p) ws
      → shapes (indices (spaces_of p) i ++ (kept ++ (ps ++ ws))) ≡ shapes ps
  all_shapes kept ps ws h l =
      shapes_append (indices (spaces_of p) i) (kept ++ (ps ++ ws))
      ∙ (ap (λ x. x ++ shapes (kept ++ (ps ++ ws))) (shapes_none (indices (spaces_of p) i) (each_quiet (indices (spaces_of p) i) all_plain))
      ∙ (shapes_append kept (ps ++ ws)
      ∙ (ap (λ x. x ++ shapes (ps ++ ws)) (shapes_none kept h)
      ∙ (shapes_append ps ws ∙ (ap (λ x. shapes ps ++ x) (shapes_none ws (each_quiet ws l)) ∙ append_nil (shapes ps))))))

  measure_names : (a : Addressing) → IsThere p is_null (room_of i.o1) → Each (Names p is_null) (measure_by a (room_of i.o1))
  measure_names sizes.Bytes l = (
    names_set p is_null (answer_scratch 0) (term.Product (term.Length (room_of i.o1)) 4)
        (names_length p is_null (room_of i.o1) l),
    tt,
  )
  measure_names (sizes.Structures stride) l = (
    names_set p is_null (answer_scratch 0) (structures (stride / 4) (room_of i.o1))
        (names_structures p is_null (stride / 4) (room_of i.o1) l),
    tt,
  )
  measure_names sizes.Words l = tt

  measure_quiet : (a : Addressing) → Each (λ x. shape x ≡ []) (measure_by a (room_of i.o1))
  measure_quiet sizes.Bytes = (refl, tt)
  measure_quiet (sizes.Structures stride) = (refl, tt)
  measure_quiet sizes.Words = tt

  abbrev NamesAll : Meaning → Bool → Type 0
  NamesAll m null = Each (Names p is_null) (statements (spaces_of p) i (work_by m null p i) (results m i))

  zeros_plain : (cs : List ℕ) → Each (IsPlain p) (writes (spaces_of p) i (λ c. term.Word 0) cs)
  zeros_plain cs = written_plain (λ c. term.Word 0) (λ c. plain_word p is_null 0) cs

  names_by : (m : Meaning) (null : Bool) → is_null (room_by m i) ≡ null → meaning_of Base i.code ≡ Some m → is_guarded (Some m) ≡ true
      → NamesAll m null
  names_by Syncs null n e h = all_names [] (sync_part i.controls) [] tt (
    names_sync p is_null (has_bit i.controls 11) (scope_of i.controls)
        (classes_of i.controls),
    tt,
  ) tt
  names_by Measures true n e h = all_names [] [] (writes (spaces_of p) i (λ c. measured (way_of p i.o1) true (selected i.o1.select c)) (written i.o0))
      tt tt (written_plain (λ c. measured (way_of p i.o1) true (selected i.o1.select c))
      (λ c. measured_plain (way_of p i.o1) true (selected i.o1.select c)) (written i.o0))
  names_by Measures false n e h =
      all_names (measure_by (way_of p i.o1) (room_of i.o1)) [] (writes (spaces_of p) i (λ c. measured (way_of p i.o1) false (selected i.o1.select c))
      (written i.o0)) (measure_names (way_of p i.o1) (there_of is_null p i able Measures e h (λ q. cc q) n)) tt
      (written_plain (λ c. measured (way_of p i.o1) false (selected i.o1.select c))
      (λ c. measured_plain (way_of p i.o1) false (selected i.o1.select c)) (written i.o0))
  names_by other true n e h = all_names [] [] (writes (spaces_of p) i (λ c. term.Word 0) (results other i)) tt tt (zeros_plain (results other i))
  names_by other false n e h =
      all_names (keeps_by other (at_of other p i)) (parts_by other (spaces_of p) (reach_of other p i) i)
      (writes (spaces_of p) i (given_by other) (results other i)) (kept_names other) (parts_names other e h n)
      (written_plain (given_by other) (value_plain other) (results other i))

  shape_all : (m : Meaning) (null : Bool) → is_null (room_by m i) ≡ null → shapes (statements (spaces_of p) i (work_by m null p i) (results m i)) ≡
      shape_by (Some m) is_null i
  shape_all Syncs null n = all_shapes [] (sync_part i.controls) [] tt tt ∙ shapes_one (term.Sync (has_bit i.controls 11) (scope_of i.controls)
      (classes_of i.controls))
  shape_all Measures true n =
      all_shapes [] [] (writes (spaces_of p) i (λ c. measured (way_of p i.o1) true (selected i.o1.select c)) (written i.o0)) tt
      (written_plain (λ c. measured (way_of p i.o1) true (selected i.o1.select c))
      (λ c. measured_plain (way_of p i.o1) true (selected i.o1.select c)) (written i.o0)) ∙
      (shapes_none [] tt ∙ sym (if_same (is_null (room_by Measures i))))
  shape_all Measures false n =
      all_shapes (measure_by (way_of p i.o1) (room_of i.o1)) [] (writes (spaces_of p) i (λ c. measured (way_of p i.o1) false (selected i.o1.select c))
      (written i.o0)) (measure_quiet (way_of p i.o1)) (written_plain (λ c. measured (way_of p i.o1) false (selected i.o1.select c))
      (λ c. measured_plain (way_of p i.o1) false (selected i.o1.select c)) (written i.o0))
      ∙ (shapes_none [] tt ∙ sym (if_same (is_null (room_by Measures i))))
  shape_all other true n = all_shapes [] [] (writes (spaces_of p) i (λ c. term.Word 0) (results other i)) tt (zeros_plain (results other i)) ∙
      (shapes_none [] tt ∙ ap (λ b. if b then [] else items_by other (room_by other i) i) (sym n))
  shape_all other false n =
      all_shapes (keeps_by other (at_of other p i)) (parts_by other (spaces_of p) (reach_of other p i) i)
      (writes (spaces_of p) i (given_by other) (results other i)) (kept_quiet other) (written_plain (given_by other) (value_plain other)
      (results other i))
      ∙ (parts_shape other ∙ ap (λ b. if b then [] else items_by other (room_by other i) i) (sym n))

  names_raised : (m : Option Meaning) → meaning_of Base i.code ≡ m → is_guarded m ≡ true → Names p is_null (raised m is_null p i)
  names_raised None e h = absurd (false≢true h)
  names_raised (Some m) e h = names_chained p is_null (statements (spaces_of p) i (work_by m (is_null (room_by m i)) p i) (results m i))
      (names_by m (is_null (room_by m i)) refl e h)

  shape_raised : (m : Option Meaning) → is_guarded m ≡ true → shape (raised m is_null p i) ≡ shape_by m is_null i
  shape_raised None h = absurd (false≢true h)
  shape_raised (Some m) h = shape_chained (statements (spaces_of p) i (work_by m (is_null (room_by m i)) p i) (results m i)) ∙ shape_all m
      (is_null (room_by m i)) refl

  pub names_all : Names p is_null (statement_of is_null p i)
  unfolding statement_of
  names_all = names_raised (meaning_of Base i.code) refl able.guards

  pub shape_is : shape (statement_of is_null p i) ≡ shape_of is_null i
  unfolding statement_of
  shape_is = shape_raised (meaning_of Base i.code) able.guards
