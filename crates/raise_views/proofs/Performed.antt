-- The statement of a guarded instruction makes the events of its plan, and leaves what the instruction leaves.
use Rattle.std.proofs.Common.{◌≡◌, ℕ, ◌+◌, ◌*◌, ◌/◌, ◌%◌, ◌<◌, ◌≤◌, ◌^◌, Bool, true, false, List, [], ◌∷◌, ◌++◌, map, Option, Some, None, refl, sym, ap, subst, ◌∙◌, arith}
use Rattle.std.specs.Prelude.{nat_eq, nat_lt, if◌then◌else◌, ◌&&◌, option_map, slice_index}
use Rattle.std.proofs.lemmas.Bool.{le-ltb, lt-ltb}
use Rattle.std.proofs.Math.Nat.{zero-div}
use Rattle.word_base.specs.Alu.{difference}
use Rattle.word_base.specs.declared.event.Act.{Act}
use Rattle.word_base.specs.declared.event.Act.TheVariants as act
use Rattle.word_base.specs.declared.event.Event.{Event}
use Rattle.word_base.specs.declared.event.Event.TheVariants as event
use Rattle.word_base.specs.declared.event.Room.{Room}
use Rattle.word_base.specs.declared.event.Room.TheVariants as room
use Rattle.word_base.specs.Registers.{Registers}
use Rattle.word_base.specs.Settings.{Setting}
use Rattle.tpf_decode.specs.declared.argument.Argument.{Argument}
use Rattle.tpf_decode.specs.declared.meaning.Meaning.{Meaning}
use Rattle.tpf_decode.specs.declared.meaning.Meaning.TheVariants.{LoadRaw, LoadStructured, StoreRaw, StoreStructured, Measures, Acts, Compares, Fetches, Exchanges, Allocates, Consumes, Syncs}
use Rattle.tpf_program.specs.Holding.{AreOfWords}
use Rattle.tpf_program.specs.Plans.{parts, made, answered, scope_of, classes_of}
use Rattle.tpf_program.specs.Program.{Shader}
use Rattle.tpf_program.specs.Results.{outcome}
use Rattle.tpf_program.specs.Results as results'
use Rattle.tpf_program.specs.Sizes.{Addressing}
use Rattle.tpf_program.specs.Sizes as sizes
use Rattle.tpf_program.specs.Values.{context, of_four, scalar, selected}
use Rattle.tpf_program.specs.Values as tpf
use Rattle.tpf_program.specs.Views.{Address, AtByte, InStructure, AtWord, word_at, room_of, words_by}
use Rattle.tpf_program.specs.Views as views
use Rattle.tpf_program.specs.Writes.{has_bit, masked, target, with_words, written}
use Rattle.tpf_program.specs.declared.instruction.Instruction.{Instruction}
use Rattle.shader_tree.specs.Chains.{Link, Run}
use Rattle.shader_tree.specs.Lane.{state, step, with_scratch, second_operand}
use Rattle.shader_tree.specs.Plans.{Performs, Plans, Left}
use Rattle.shader_tree.specs.Terms.{Term}
use Rattle.shader_tree.specs.Terms as term
use Rattle.shader_tree.specs.Values.{Words, value, word}
use Rattle.raise_operands.specs.Laws.{IsGiven, ReadingLaws, RunLaws}
use Rattle.raise_operands.specs.Raises.{AreInRange}
use Rattle.raise_operands.specs.Raising.{chained, indices, source}
use Rattle.raise_operands.specs.Runs.{LeadsAll, Ready, pushed}
use Rattle.raise_operands.specs.Vectors.{spaces_of}
use Rattle.raise_views.specs.Guarding.{is_guarded, known_words, measured, results, room_by, statements, sync_part, way_of, work_by, writes}
use Rattle.raise_views.specs.Guarding as guarding
use Rattle.raise_views.specs.Reaching.{At, answer_scratch, at_byte, at_word, atomic_part, in_structure, keeps, paired_by, structures}
use Rattle.raise_views.proofs.Fronts.{Front, below_of, leads_all, leads_set, mask_ascends, plain_front, quarter_value, written_ascends}
use Rattle.raise_views.proofs.Jobs.{set_there, set_elsewhere}
use Rattle.raise_views.proofs.Locating.{counted}
use Rattle.raise_views.proofs.Planning.{Ended, Staged, none_answered_of, none_made_of, staged, weaker}
use Rattle.raise_views.proofs.Working.{change_staged, counter_staged, fetch_staged, loads_staged, reach, silent_staged, stores_staged}

assoc : (xs ys zs : List Term) → (xs ++ ys) ++ zs ≡ xs ++ (ys ++ zs)
assoc [] ys zs = refl
assoc (x ∷ xs) ys zs = ap (λ l. x ∷ l) (assoc xs ys zs)

-- NOTHING is reached of a room without words.
none_in_room : (extent w : ℕ) → extent ≡ 0 → views.in_room extent w ≡ None
none_in_room extent w e = ap (λ b. if b then Some w else None) (le-ltb w extent (omega arith))

none_reached : (extent : ℕ) → extent ≡ 0 → (at : Address) (c : ℕ) → word_at extent at c ≡ None
none_reached extent e (AtByte offset) c = none_in_room extent (offset / 4 + c) e
none_reached extent e (InStructure words index offset) c =
    let none : extent / words ≡ 0 = ap (λ n. n / words) e ∙ zero-div words in
    ap (λ b. if b && nat_lt (offset / 4 + c) words then Some (index * words + (offset / 4 + c)) else None)
    (le-ltb index (extent / words) (omega arith))
none_reached extent e (AtWord index) c = none_in_room extent index e

-- an atomic but that which compares has no second operand
second_zero : (kind : Act) → second_operand kind 0 ≡ 0
second_zero act.CompareExchange = refl
second_zero other = refl

module _ (reading : ReadingLaws) (run : RunLaws) (p : Shader) (s : Setting) (o : Registers) (i : Instruction) (given : IsGiven p s o)
    (range : AreInRange i) (imm : AreOfWords i) where
  as_performs : (kept ps ws : List Term) (es : List Event) (to : List ℕ → Registers)
      → ((t : Words) → t.registers ≡ o → Staged run (spaces_of p) s (indices (spaces_of p) i ++ kept) ps ws es to t)
      → Performs (spaces_of p) s (chained (indices (spaces_of p) i ++ (kept ++ (ps ++ ws)))) o es to
  as_performs kept ps ws es to f =
      subst (λ xs. Performs (spaces_of p) s (chained xs) o es to) (assoc (indices (spaces_of p) i) kept (ps ++ ws))
      (staged run (spaces_of p) s (indices (spaces_of p) i ++ kept) ps ws es to o f)

  -- the same events, and the same registers
  performs_as : (x : Term) (es fs : List Event) (to then' : List ℕ → Registers) → es ≡ fs → ((answers : List ℕ) → to answers ≡ then' answers)
      → Performs (spaces_of p) s x o es to → Performs (spaces_of p) s x o fs then'
  performs_as x es fs to then' e f h =
      subst (λ l. Performs (spaces_of p) s x o l then') e
      (λ k scratch turns. weaker run (spaces_of p) s es _ (λ answers u. Left k (to answers) turns u) (λ answers u. Left k (then' answers) turns u)
      (λ answers u q. record { chain = q.chain; registers = q.registers ∙ f answers; turns = q.turns }) (h k scratch turns))

  -- THE WORDS of sources at the instruction's start
  of1 : (c : ℕ) → c < 4 → (t : Words) → Ready (context p s o) i t → t.registers ≡ o → value (spaces_of p) s t (source (spaces_of p) 1 i.o1 c) ≡ word
      (tpf.value (context p s o) i.o1 c)
  of1 c l t r e = reading.source p s o t 1 i.o1 c given range.o1 l r.o1 e

  of2 : (c : ℕ) → c < 4 → (t : Words) → Ready (context p s o) i t → t.registers ≡ o → value (spaces_of p) s t (source (spaces_of p) 2 i.o2 c) ≡ word
      (tpf.value (context p s o) i.o2 c)
  of2 c l t r e = reading.source p s o t 2 i.o2 c given range.o2 l r.o2 e

  of3 : (c : ℕ) → c < 4 → (t : Words) → Ready (context p s o) i t → t.registers ≡ o → value (spaces_of p) s t (source (spaces_of p) 3 i.o3 c) ≡ word
      (tpf.value (context p s o) i.o3 c)
  of3 c l t r e = reading.source p s o t 3 i.o3 c given range.o3 l r.o3 e

  of4 : (c : ℕ) → c < 4 → (t : Words) → Ready (context p s o) i t → t.registers ≡ o → value (spaces_of p) s t (source (spaces_of p) 4 i.o4 c) ≡ word
      (tpf.value (context p s o) i.o4 c)
  of4 c l t r e = reading.source p s o t 4 i.o4 c given range.o4 l r.o4 e

  below1 : (c : ℕ) → tpf.value (context p s o) i.o1 c < 2 ^ 32
  below1 c = reading.below p s o i.o1 c given imm.o1

  below2 : (c : ℕ) → tpf.value (context p s o) i.o2 c < 2 ^ 32
  below2 c = reading.below p s o i.o2 c given imm.o2

  -- LOADS AND STORES
  module _ (rm : Room) (kn : ℕ) (fits : kn ≤ s.extent rm) where
    abbrev raw_at : At
    raw_at = at_byte (source (spaces_of p) 1 i.o1 0)

    raw_is : (t : Words) → Ready (context p s o) i t → t.registers ≡ o
        → (value (spaces_of p) s t raw_at.word ≡ word (scalar (context p s o) i.o1 / 4)) × (value (spaces_of p) s t raw_at.index ≡ word 0)
    raw_is t r e = (quarter_value (spaces_of p) s (source (spaces_of p) 1 i.o1 0) (scalar (context p s o) i.o1) t (of1 0 (omega arith) t r e), refl)

    structured_is : (n : ℕ) (t : Words) → Ready (context p s o) i t → t.registers ≡ o
        → (value (spaces_of p) s t (in_structure n (source (spaces_of p) 1 i.o1 0) (source (spaces_of p) 2 i.o2 0)).word ≡ word
        (scalar (context p s o) i.o2 / 4))
        × (value (spaces_of p) s t (in_structure n (source (spaces_of p) 1 i.o1 0) (source (spaces_of p) 2 i.o2 0)).index ≡ word
        (scalar (context p s o) i.o1))
    structured_is n t r e = (
      quarter_value (spaces_of p) s (source (spaces_of p) 2 i.o2 0) (scalar (context p s o) i.o2) t (of2 0 (omega arith) t r e),
      of1 0 (omega arith) t r e,
    )

    low1 : scalar (context p s o) i.o1 / 4 + 3 < 2 ^ 32
    low1 = let l = below1 0 in omega arith

    low2 : scalar (context p s o) i.o2 / 4 + 3 < 2 ^ 32
    low2 = let l = below2 0 in omega arith

  abbrev pub fit : Meaning → Type 0
  fit m = known_words p (room_by m i) ≤ s.extent (room_by m i)

  abbrev pub said : Meaning → Bool → Term
  said m null = chained (statements (spaces_of p) i (work_by m null p i) (results m i))

  abbrev pub leaves : Meaning → List ℕ → Registers
  leaves m answers = outcome (context p s o) m i (answered (parts (context p s o) m i) answers)

  abbrev gives : Option Event → List ℕ → Registers
  gives q answers = results'.fetched (context p s o) i.o0 (slice_index (answered (q ∷ []) answers) 0)

  abbrev pub Does : Meaning → Bool → Type 0
  Does m null = Performs (spaces_of p) s (said m null) o (made (parts (context p s o) m i)) (leaves m)

  does_load_raw : fit LoadRaw → Does LoadRaw false
  does_load_raw f =
      as_performs _ _ _ _ _
      (loads_staged reading run p s o i given range (room_of i.o2) (known_words p (room_of i.o2))
      (raw_at (room_of i.o2) (known_words p (room_of i.o2)) f) (scalar (context p s o) i.o1 / 4) 0
      (raw_is (room_of i.o2) (known_words p (room_of i.o2)) f) f i.o2 range.o2.select (low1 (room_of i.o2) (known_words p (room_of i.o2)) f))

  does_load_structured : fit LoadStructured → Does LoadStructured false
  does_load_structured f =
      let n = words_by (way_of p i.o3) in
      as_performs _ _ _ _ _
      (loads_staged reading run p s o i given range (room_of i.o3) (known_words p (room_of i.o3))
      (in_structure n (source (spaces_of p) 1 i.o1 0) (source (spaces_of p) 2 i.o2 0))
      (scalar (context p s o) i.o2 / 4) (scalar (context p s o) i.o1)
      (structured_is (room_of i.o3) (known_words p (room_of i.o3)) f n) f i.o3 range.o3.select (low2 (room_of i.o3) (known_words p (room_of i.o3)) f))

  does_store_raw : fit StoreRaw → Does StoreRaw false
  does_store_raw f =
      as_performs _ _ _ _ _
      (stores_staged reading run p s o i given range (room_of i.o0) (known_words p (room_of i.o0))
      (raw_at (room_of i.o0) (known_words p (room_of i.o0)) f) (scalar (context p s o) i.o1 / 4) 0
      (raw_is (room_of i.o0) (known_words p (room_of i.o0)) f) f (λ c. source (spaces_of p) 2 i.o2 c) (λ c. tpf.value (context p s o) i.o2 c) of2
      (masked i.o0.select) (mask_ascends i.o0.select) (low1 (room_of i.o0) (known_words p (room_of i.o0)) f))

  does_store_structured : fit StoreStructured → Does StoreStructured false
  does_store_structured f =
      let n = words_by (way_of p i.o0) in
      as_performs _ _ _ _ _
      (stores_staged reading run p s o i given range (room_of i.o0) (known_words p (room_of i.o0))
      (in_structure n (source (spaces_of p) 1 i.o1 0) (source (spaces_of p) 2 i.o2 0))
      (scalar (context p s o) i.o2 / 4) (scalar (context p s o) i.o1)
      (structured_is (room_of i.o0) (known_words p (room_of i.o0)) f n) f (λ c. source (spaces_of p) 3 i.o3 c) (λ c. tpf.value (context p s o) i.o3 c)
      of3 (masked i.o0.select) (mask_ascends i.o0.select) (low2 (room_of i.o0) (known_words p (room_of i.o0)) f))

  -- ATOMICS, by the way in which their view is addressed
  abbrev address_at : Addressing → ℕ → ℕ → Address
  address_at sizes.Bytes v w = AtByte v
  address_at (sizes.Structures stride) v w = InStructure (stride / 4) v w
  address_at sizes.Words v w = AtWord v

  module _ (rm : Room) (kn : ℕ) (fits : kn ≤ s.extent rm) (n : ℕ) (a : Argument) (v w : ℕ)
      (first : (t : Words) → Ready (context p s o) i t → t.registers ≡ o → value (spaces_of p) s t (source (spaces_of p) n a 0) ≡ word v)
      (second : (t : Words) → Ready (context p s o) i t → t.registers ≡ o → value (spaces_of p) s t (source (spaces_of p) n a 1) ≡ word w)
      (low : v < 2 ^ 32) (high : w < 2 ^ 32) (kind : Act) (c d : Term) (x y : ℕ)
      (c_is : (t : Words) → Ready (context p s o) i t → t.registers ≡ o → value (spaces_of p) s t c ≡ word x)
      (d_is : (t : Words) → Ready (context p s o) i t → t.registers ≡ o → value (spaces_of p) s t d ≡ word y) where
    abbrev changed : Addressing → Option Event
    changed m = option_map (λ q. event.Atomic rm q kind x (second_operand kind y)) (word_at (s.extent rm) (address_at m v w) 0)

    does_change : (m : Addressing)
        → Performs (spaces_of p) s
        (chained (indices (spaces_of p) i ++
        (keeps (paired_by m (spaces_of p) n a) ++ ((atomic_part (reach rm kn (paired_by m (spaces_of p) n a)) kind c d false ∷ []) ++ [])))) o
        (made (changed m ∷ [])) (λ answers. o)
    does_change sizes.Bytes =
        as_performs _ _ _ _ _ (λ t e.
        change_staged reading run p s o i given range rm kn (at_byte (source (spaces_of p) n a 0)) (v / 4) 0
        (λ u r q. (quarter_value (spaces_of p) s (source (spaces_of p) n a 0) v u (first u r q), refl)) fits kind c d x y c_is d_is
        (let l = low in omega arith) t e)
    does_change (sizes.Structures stride) =
        as_performs _ _ _ _ _ (λ t e.
        change_staged reading run p s o i given range rm kn (in_structure (stride / 4) (source (spaces_of p) n a 0) (source (spaces_of p) n a 1))
        (w / 4) v
        (λ u r q. (quarter_value (spaces_of p) s (source (spaces_of p) n a 1) w u (second u r q), first u r q)) fits kind c d x y c_is d_is
        (let l = high in omega arith) t e)
    does_change sizes.Words =
        as_performs _ _ _ _ _ (λ t e.
        change_staged reading run p s o i given range rm kn (at_word (source (spaces_of p) n a 0)) v 0 (λ u r q. (first u r q, refl)) fits kind c d x
        y c_is d_is low t e)

    does_fetch : (m : Addressing)
        → Performs (spaces_of p) s
        (chained (indices (spaces_of p) i ++
        (keeps (paired_by m (spaces_of p) n a) ++ ((atomic_part (reach rm kn (paired_by m (spaces_of p) n a)) kind c d true ∷ []) ++ writes
        (spaces_of p) i (λ e. term.Scratch (answer_scratch 0)) (written i.o0))))) o
        (made (changed m ∷ [])) (λ answers. results'.fetched (context p s o) i.o0 (slice_index (answered (changed m ∷ []) answers) 0))
    does_fetch sizes.Bytes =
        as_performs _ _ _ _ _ (λ t e.
        fetch_staged reading run p s o i given range rm kn (at_byte (source (spaces_of p) n a 0)) (v / 4) 0
        (λ u r q. (quarter_value (spaces_of p) s (source (spaces_of p) n a 0) v u (first u r q), refl)) fits kind c d x y c_is d_is
        (let l = low in omega arith) t e)
    does_fetch (sizes.Structures stride) =
        as_performs _ _ _ _ _ (λ t e.
        fetch_staged reading run p s o i given range rm kn (in_structure (stride / 4) (source (spaces_of p) n a 0) (source (spaces_of p) n a 1))
        (w / 4) v
        (λ u r q. (quarter_value (spaces_of p) s (source (spaces_of p) n a 1) w u (second u r q), first u r q)) fits kind c d x y c_is d_is
        (let l = high in omega arith) t e)
    does_fetch sizes.Words =
        as_performs _ _ _ _ _ (λ t e.
        fetch_staged reading run p s o i given range rm kn (at_word (source (spaces_of p) n a 0)) v 0 (λ u r q. (first u r q, refl)) fits kind c d x y
        c_is d_is low t e)

  -- the address of an atomic, as the plan has it
  paired_same : (m : Addressing) (a : Argument) → views.paired_by m (context p s o) a ≡ address_at m (tpf.value (context p s o) a 0)
      (tpf.value (context p s o) a 1)
  paired_same sizes.Bytes a = refl
  paired_same (sizes.Structures stride) a = refl
  paired_same sizes.Words a = refl

  abbrev event_at : Room → Act → ℕ → ℕ → Address → Option Event
  event_at rm kind x b at = option_map (λ q. event.Atomic rm q kind x b) (word_at (s.extent rm) at 0)

  zero_is : (t : Words) → Ready (context p s o) i t → t.registers ≡ o → value (spaces_of p) s t (term.Word 0) ≡ word 0
  zero_is t r e = refl

  does_acts : (kind : Act) → fit (Acts kind) → Does (Acts kind) false
  does_acts kind f =
      let m = way_of p i.o0 in
      let x = scalar (context p s o) i.o2 in
      let same = ap (λ b. event_at (room_of i.o0) kind x b (address_at m (tpf.value (context p s o) i.o1 0) (tpf.value (context p s o) i.o1 1)))
      (second_zero kind)
      ∙ ap (λ at. event_at (room_of i.o0) kind x 0 at) (sym (paired_same m i.o1)) in
      performs_as (said (Acts kind) false) _ (made (parts (context p s o) (Acts kind) i)) (λ answers. o) (leaves (Acts kind))
      (ap (λ q. made (q ∷ [])) same) (λ answers. refl)
      (does_change (room_of i.o0) (known_words p (room_of i.o0)) f 1 i.o1 (tpf.value (context p s o) i.o1 0) (tpf.value (context p s o) i.o1 1)
      (of1 0 (omega arith)) (of1 1 (omega arith)) (below1 0) (below1 1)
      kind (source (spaces_of p) 2 i.o2 0) (term.Word 0) x 0 (of2 0 (omega arith)) zero_is m)

  does_compares : fit Compares → Does Compares false
  does_compares f =
      let m = way_of p i.o0 in
      let x = scalar (context p s o) i.o2 in
      let y = scalar (context p s o) i.o3 in
      let same = ap (λ at. event_at (room_of i.o0) act.CompareExchange x y at) (sym (paired_same m i.o1)) in
      performs_as (said Compares false) _ (made (parts (context p s o) Compares i)) (λ answers. o) (leaves Compares) (ap (λ q. made (q ∷ [])) same)
      (λ answers. refl)
      (does_change (room_of i.o0) (known_words p (room_of i.o0)) f 1 i.o1 (tpf.value (context p s o) i.o1 0) (tpf.value (context p s o) i.o1 1)
      (of1 0 (omega arith)) (of1 1 (omega arith)) (below1 0) (below1 1)
      act.CompareExchange (source (spaces_of p) 2 i.o2 0) (source (spaces_of p) 3 i.o3 0) x y (of2 0 (omega arith)) (of3 0 (omega arith)) m)

  does_fetches : (kind : Act) → fit (Fetches kind) → Does (Fetches kind) false
  does_fetches kind f =
      let m = way_of p i.o1 in
      let x = scalar (context p s o) i.o3 in
      let same = ap (λ b. event_at (room_of i.o1) kind x b (address_at m (tpf.value (context p s o) i.o2 0) (tpf.value (context p s o) i.o2 1)))
      (second_zero kind)
      ∙ ap (λ at. event_at (room_of i.o1) kind x 0 at) (sym (paired_same m i.o2)) in
      performs_as (said (Fetches kind) false) _ (made (parts (context p s o) (Fetches kind) i))
      (gives (event_at (room_of i.o1) kind x (second_operand kind 0)
      (address_at m (tpf.value (context p s o) i.o2 0) (tpf.value (context p s o) i.o2 1)))) (leaves (Fetches kind))
      (ap (λ q. made (q ∷ [])) same) (λ answers. ap (λ q. results'.fetched (context p s o) i.o0 (slice_index (answered (q ∷ []) answers) 0)) same)
      (does_fetch (room_of i.o1) (known_words p (room_of i.o1)) f 2 i.o2 (tpf.value (context p s o) i.o2 0) (tpf.value (context p s o) i.o2 1)
      (of2 0 (omega arith)) (of2 1 (omega arith)) (below2 0) (below2 1)
      kind (source (spaces_of p) 3 i.o3 0) (term.Word 0) x 0 (of3 0 (omega arith)) zero_is m)

  does_exchanges : fit Exchanges → Does Exchanges false
  does_exchanges f =
      let m = way_of p i.o1 in
      let x = scalar (context p s o) i.o3 in
      let y = scalar (context p s o) i.o4 in
      let same = ap (λ at. event_at (room_of i.o1) act.CompareExchange x y at) (sym (paired_same m i.o2)) in
      performs_as (said Exchanges false) _ (made (parts (context p s o) Exchanges i))
      (gives (event_at (room_of i.o1) act.CompareExchange x y
      (address_at m (tpf.value (context p s o) i.o2 0) (tpf.value (context p s o) i.o2 1)))) (leaves Exchanges) (ap (λ q. made (q ∷ [])) same)
      (λ answers. ap (λ q. results'.fetched (context p s o) i.o0 (slice_index (answered (q ∷ []) answers) 0)) same)
      (does_fetch (room_of i.o1) (known_words p (room_of i.o1)) f 2 i.o2 (tpf.value (context p s o) i.o2 0) (tpf.value (context p s o) i.o2 1)
      (of2 0 (omega arith)) (of2 1 (omega arith)) (below2 0) (below2 1)
      act.CompareExchange (source (spaces_of p) 3 i.o3 0) (source (spaces_of p) 4 i.o4 0) x y (of3 0 (omega arith)) (of4 0 (omega arith)) m)

  -- COUNTERS that are there
  abbrev step_of : Act → Bool → Option Event
  step_of kind b = if b then Some (event.Atomic (room.Counter i.o1.slot) 0 kind 1 0) else None

  has_it : s.extent (room.Counter i.o1.slot) ≡ 1 → nat_lt 0 (s.extent (room.Counter i.o1.slot)) ≡ true
  has_it e = lt-ltb 0 (s.extent (room.Counter i.o1.slot)) (omega arith)

  does_allocates : s.extent (room.Counter i.o1.slot) ≡ 1 → Does Allocates false
  does_allocates e =
      let P : Bool → Type 0 = λ b.
      Performs (spaces_of p) s (chained (statements (spaces_of p) i (work_by Allocates false p i) (results Allocates i))) o
      (made (step_of act.Add b ∷ []))
      (λ answers. results'.fetched (context p s o) i.o0 (slice_index (answered (step_of act.Add b ∷ []) answers) 0)) in
      subst P (sym (has_it e))
      (as_performs [] (guarding.counter_part (room.Counter i.o1.slot) act.Add) _ _ _
      (counter_staged reading run p s o i given range (room.Counter i.o1.slot) act.Add e (λ c. term.Scratch (answer_scratch 0)) (λ a. a)
      (λ t c a q. ap word q)))

  does_consumes : s.extent (room.Counter i.o1.slot) ≡ 1 → Does Consumes false
  does_consumes e =
      let P : Bool → Type 0 = λ b.
      Performs (spaces_of p) s (chained (statements (spaces_of p) i (work_by Consumes false p i) (results Consumes i))) o
      (made (step_of act.Sub b ∷ []))
      (λ answers. results'.fetched (context p s o) i.o0 (if b then difference (slice_index (answered (step_of act.Sub b ∷ []) answers) 0) 1 else 0))
      in
      subst P (sym (has_it e))
      (as_performs [] (guarding.counter_part (room.Counter i.o1.slot) act.Sub) _ _ _
      (counter_staged reading run p s o i given range (room.Counter i.o1.slot) act.Sub e (guarding.given_by Consumes) (λ a. difference a 1)
      (λ t c a q. ap (λ z. word (difference z 1)) q)))

  -- SYNC
  does_sync : (null : Bool) → Does Syncs null
  does_sync null =
      as_performs [] (sync_part i.controls) [] (made (parts (context p s o) Syncs i)) (leaves Syncs) (λ t e.
      let f = plain_front reading p s o i given range t e in
      record {
        words' = f.base;
        leads = f.leads;
        plan = sync_plan f;
      })
    where
      sync_plan : {t : Words} (f : Front reading p s o i given range [] t) (k : List Link) (turns : ℕ) → Plans (step (spaces_of p) s)
          (state (pushed (sync_part i.controls) k) f.base turns) (made (parts (context p s o) Syncs i))
          (Ended run (spaces_of p) s [] (leaves Syncs) k turns)
      sync_plan f k turns = (
        0,
        state (Run (term.Sync (has_bit i.controls 11) (scope_of i.controls) (classes_of i.controls)) ∷ k) f.base turns,
        λ a. state k f.base turns,
        refl,
        refl,
        λ a l. (0, state k f.base turns, refl, (f.base, f.base, refl, refl, f.registers)),
      )

  -- THE LENGTH of a view, which is measured before registers are written
  set_front : (x : Term) (w : ℕ) → ((t : Words) → value (spaces_of p) s t x ≡ word w) → (t : Words) → t.registers ≡ o
      → (f : Front reading p s o i given range (term.Set (answer_scratch 0) x ∷ []) t) × (f.base.scratch 12 ≡ w)
  set_front x w h t e =
      let b = plain_front reading p s o i given range t e in
      let u = with_scratch b.base 12 w in (
        record {
          base = u;
          leads = subst (λ l. LeadsAll (spaces_of p) s l t u) (assoc (indices (spaces_of p) i) [] (term.Set (answer_scratch 0) x ∷ []))
              (leads_all (spaces_of p) s (indices (spaces_of p) i ++ []) (term.Set (answer_scratch 0) x ∷ []) t b.base u b.leads
              (u, leads_set (spaces_of p) s b.base 12 w x (h b.base), refl));
          registers = b.registers;
          ready = reading.ready_same (context p s o) i b.base u (λ m l. set_elsewhere b.base 12 w m (λ q. omega arith)) b.ready;
        },
        set_there b.base 12 w,
      )

  four_value : (first : Term) (v stride c : ℕ) (u : Words) → value (spaces_of p) s u first ≡ word v
      → value (spaces_of p) s u (if nat_eq c 0 then first else if nat_eq c 1 then term.Word stride else term.Word 0) ≡ word (of_four v stride 0 0 c)
  four_value first v stride c u h = at_x (nat_eq c 0)
    where
      at_z : (b : Bool) → word 0 ≡ word (if b then 0 else 0)
      at_z true = refl
      at_z false = refl

      at_y : (b : Bool) → value (spaces_of p) s u (if b then term.Word stride else term.Word 0) ≡ word
          (if b then stride else if nat_eq c 2 then 0 else 0)
      at_y true = refl
      at_y false = at_z (nat_eq c 2)

      at_x : (b : Bool) → value (spaces_of p) s u (if b then first else if nat_eq c 1 then term.Word stride else term.Word 0) ≡ word
          (if b then v else if nat_eq c 1 then stride else if nat_eq c 2 then 0 else 0)
      at_x true = h
      at_x false = at_y (nat_eq c 1)

  zero_four : (c : ℕ) → of_four 0 0 0 0 c ≡ 0
  zero_four c = at_x (nat_eq c 0) (nat_eq c 1) (nat_eq c 2)
    where
      at_x : (a b d : Bool) → ◌≡◌ {A = ℕ} (if a then 0 else if b then 0 else if d then 0 else 0) 0
      at_x true b d = refl
      at_x false true d = refl
      at_x false false true = refl
      at_x false false false = refl

  module _ (rm : Room) (sel : ℕ → ℕ) where
    abbrev measures : Addressing → Bool → Type 0
    measures m null =
        Performs (spaces_of p) s
        (chained (indices (spaces_of p) i ++ ((if null then [] else guarding.measure_by m rm) ++
        ([] ++ writes (spaces_of p) i (λ c. measured m null (sel c)) (written i.o0))))) o []
        (λ answers. with_words (target (context p s o) i.o0) (written i.o0) (map (λ c. results'.measure_by m (s.extent rm) (sel c)) (written i.o0)) o)

    product_is : (t : Words) → value (spaces_of p) s t (term.Product (term.Length rm) 4) ≡ word (4 * s.extent rm % 2 ^ 32)
    product_is t = ap word (omega arith)

    measured_there : (m : Addressing) → measures m false
    measured_there sizes.Bytes =
        as_performs (term.Set (answer_scratch 0) (term.Product (term.Length rm) 4) ∷ []) [] _ _ _ (λ t e.
        let f = set_front (term.Product (term.Length rm) 4) (4 * s.extent rm % 2 ^ 32) product_is t e in
        silent_staged reading run p s o i given range (λ c. measured sizes.Bytes false (sel c)) (λ c. results'.measure_by sizes.Bytes (s.extent rm)
        (sel c)) (written i.o0)
        (below_of (written i.o0) (written_ascends i.o0.kind i.o0.select)) (term.Set (answer_scratch 0) (term.Product (term.Length rm) 4) ∷ []) t f.0
        (λ u c q. four_value (term.Scratch (answer_scratch 0)) (4 * s.extent rm % 2 ^ 32) 0 (sel c) u (ap word (q 12 ∙ f.1))))
    measured_there (sizes.Structures stride) =
        as_performs (term.Set (answer_scratch 0) (structures (stride / 4) rm) ∷ []) [] _ _ _ (λ t e.
        let f = set_front (structures (stride / 4) rm) (s.extent rm / (stride / 4)) (λ u. counted reading (spaces_of p) s u rm (stride / 4)) t e in
        silent_staged reading run p s o i given range (λ c. measured (sizes.Structures stride) false (sel c))
        (λ c. results'.measure_by (sizes.Structures stride) (s.extent rm) (sel c)) (written i.o0)
        (below_of (written i.o0) (written_ascends i.o0.kind i.o0.select)) (term.Set (answer_scratch 0) (structures (stride / 4) rm) ∷ []) t f.0
        (λ u c q. four_value (term.Scratch (answer_scratch 0)) (s.extent rm / (stride / 4)) stride (sel c) u (ap word (q 12 ∙ f.1))))
    measured_there sizes.Words =
        as_performs [] [] _ _ _ (λ t e.
        silent_staged reading run p s o i given range (λ c. measured sizes.Words false (sel c)) (λ c. 0) (written i.o0)
        (below_of (written i.o0) (written_ascends i.o0.kind i.o0.select)) [] t (plain_front reading p s o i given range t e)
        (λ u c q. four_value (term.Word 0) 0 0 (sel c) u refl ∙ ap word (zero_four (sel c))))

    measured_null : s.extent rm ≡ 0 → (m : Addressing) → measures m true
    measured_null z sizes.Bytes =
        as_performs [] [] _ _ _ (λ t e.
        silent_staged reading run p s o i given range (λ c. measured sizes.Bytes true (sel c)) (λ c. results'.measure_by sizes.Bytes (s.extent rm)
        (sel c)) (written i.o0)
        (below_of (written i.o0) (written_ascends i.o0.kind i.o0.select)) [] t (plain_front reading p s o i given range t e)
        (λ u c q. four_value (term.Word 0) 0 0 (sel c) u refl ∙ ap (λ n. word (of_four (4 * n % 2 ^ 32) 0 0 0 (sel c))) (sym z)))
    measured_null z (sizes.Structures stride) =
        as_performs [] [] _ _ _ (λ t e.
        silent_staged reading run p s o i given range (λ c. measured (sizes.Structures stride) true (sel c))
        (λ c. results'.measure_by (sizes.Structures stride) (s.extent rm) (sel c)) (written i.o0)
        (below_of (written i.o0) (written_ascends i.o0.kind i.o0.select)) [] t (plain_front reading p s o i given range t e)
        (λ u c q.
        four_value (term.Word 0) 0 stride (sel c) u refl
        ∙ ap (λ n. word (of_four n stride 0 0 (sel c))) (sym (ap (λ n. n / (stride / 4)) z ∙ zero-div (stride / 4)))))
    measured_null z sizes.Words =
        as_performs [] [] _ _ _ (λ t e.
        silent_staged reading run p s o i given range (λ c. measured sizes.Words true (sel c)) (λ c. 0) (written i.o0)
        (below_of (written i.o0) (written_ascends i.o0.kind i.o0.select)) [] t (plain_front reading p s o i given range t e)
        (λ u c q. four_value (term.Word 0) 0 0 (sel c) u refl ∙ ap word (zero_four (sel c))))

  does_measures : Does Measures false
  does_measures = measured_there (room_of i.o1) (λ c. selected i.o1.select c) (way_of p i.o1)

  null_measures : s.extent (room_of i.o1) ≡ 0 → Does Measures true
  null_measures z = measured_null (room_of i.o1) (λ c. selected i.o1.select c) z (way_of p i.o1)

  -- NULL ROOMS
  abbrev nothing_said : List ℕ → Term
  nothing_said cs = chained (indices (spaces_of p) i ++ ([] ++ ([] ++ writes (spaces_of p) i (λ c. term.Word 0) cs)))

  zeros_written : Performs (spaces_of p) s (nothing_said (written i.o0)) o [] (λ answers. with_words (target (context p s o) i.o0) (written i.o0)
      (map (λ c. 0) (written i.o0)) o)
  zeros_written =
      as_performs [] [] _ _ _ (λ t e.
      silent_staged reading run p s o i given range (λ c. term.Word 0) (λ c. 0) (written i.o0)
      (below_of (written i.o0) (written_ascends i.o0.kind i.o0.select)) [] t
      (plain_front reading p s o i given range t e) (λ u c q. refl))

  none_written : Performs (spaces_of p) s (nothing_said []) o [] (λ answers. o)
  none_written = as_performs [] [] _ _ _ (λ t e. silent_staged reading run p s o i given range (λ c. term.Word 0) (λ c. 0) [] tt [] t
      (plain_front reading p s o i given range t e) (λ u c q. refl))

  module _ (rm : Room) (z : s.extent rm ≡ 0) where
    no_event : (ev : ℕ → Event) (at : Address) (c : ℕ) → option_map ev (word_at (s.extent rm) at c) ≡ None
    no_event ev at c = ap (option_map ev) (none_reached (s.extent rm) z at c)

    null_loads : (view : Argument) (at : Address)
        → Performs (spaces_of p) s (nothing_said (written i.o0)) o
        (made (map (λ d. option_map (λ q. event.Load rm q) (word_at (s.extent rm) at (selected view.select d))) (written i.o0)))
        (λ answers. with_words (target (context p s o) i.o0) (written i.o0)
        (answered (map (λ d. option_map (λ q. event.Load rm q) (word_at (s.extent rm) at (selected view.select d))) (written i.o0)) answers) o)
    null_loads view at =
        let F : ℕ → Option Event = λ d. option_map (λ q. event.Load rm q) (word_at (s.extent rm) at (selected view.select d)) in
        let h : (d : ℕ) → F d ≡ None = λ d. no_event (λ q. event.Load rm q) at (selected view.select d) in
        performs_as (nothing_said (written i.o0)) [] (made (map F (written i.o0))) (λ answers. with_words (target (context p s o) i.o0) (written i.o0)
        (map (λ c. 0) (written i.o0)) o)
        (λ answers. with_words (target (context p s o) i.o0) (written i.o0) (answered (map F (written i.o0)) answers) o)
        (none_made_of run (spaces_of p) s F (written i.o0) h) (λ answers. ap (λ xs. with_words (target (context p s o) i.o0) (written i.o0) xs o)
        (none_answered_of run (spaces_of p) s F (written i.o0) answers h)) zeros_written

    null_stores : (at : Address) (val : ℕ → ℕ) (ds : List ℕ)
        → Performs (spaces_of p) s (nothing_said []) o (made (map (λ d. option_map (λ q. event.Store rm q (val d)) (word_at (s.extent rm) at d)) ds))
        (λ answers. o)
    null_stores at val ds =
        let F : ℕ → Option Event = λ d. option_map (λ q. event.Store rm q (val d)) (word_at (s.extent rm) at d) in
        performs_as (nothing_said []) [] (made (map F ds)) (λ answers. o) (λ answers. o)
        (none_made_of run (spaces_of p) s F ds (λ d. no_event (λ q. event.Store rm q (val d)) at d)) (λ answers. refl) none_written

  null_change : (q : Option Event) → q ≡ None → Performs (spaces_of p) s (nothing_said []) o (made (q ∷ [])) (λ answers. o)
  null_change q h =
      performs_as (nothing_said []) [] (made (q ∷ [])) (λ answers. o) (λ answers. o) (ap (λ x. made (x ∷ [])) (sym h)) (λ answers. refl) none_written

  null_fetch : (q : Option Event) → q ≡ None → Performs (spaces_of p) s (nothing_said (written i.o0)) o (made (q ∷ [])) (gives q)
  null_fetch q h =
      performs_as (nothing_said (written i.o0)) [] (made (q ∷ [])) (gives None) (gives q) (ap (λ x. made (x ∷ [])) (sym h))
      (λ answers. ap (λ x. gives x answers) (sym h)) zeros_written

  no_counter : s.extent (room.Counter i.o1.slot) ≡ 0 → nat_lt 0 (s.extent (room.Counter i.o1.slot)) ≡ false
  no_counter e = le-ltb 0 (s.extent (room.Counter i.o1.slot)) (omega arith)

  null_allocates : s.extent (room.Counter i.o1.slot) ≡ 0 → Does Allocates true
  null_allocates e = null_fetch _ (ap (step_of act.Add) (no_counter e))

  null_consumes : s.extent (room.Counter i.o1.slot) ≡ 0 → Does Consumes true
  null_consumes e =
      let P : Bool → Type 0 = λ b.
      Performs (spaces_of p) s (nothing_said (written i.o0)) o (made (step_of act.Sub b ∷ []))
      (λ answers. results'.fetched (context p s o) i.o0 (if b then difference (slice_index (answered (step_of act.Sub b ∷ []) answers) 0) 1 else 0))
      in
      subst P (sym (no_counter e)) zeros_written

  pub does_null : (m : Meaning) → s.extent (room_by m i) ≡ 0 → is_guarded (Some m) ≡ true → Does m true
  does_null LoadRaw z h = null_loads (room_of i.o2) z i.o2 (views.raw_at (context p s o) i.o1)
  does_null LoadStructured z h = null_loads (room_of i.o3) z i.o3 (views.structured_at (context p s o) i.o3 i.o1 i.o2)
  does_null StoreRaw z h = null_stores (room_of i.o0) z (views.raw_at (context p s o) i.o1) (λ c. tpf.value (context p s o) i.o2 c)
      (masked i.o0.select)
  does_null StoreStructured z h =
      null_stores (room_of i.o0) z (views.structured_at (context p s o) i.o0 i.o1 i.o2) (λ c. tpf.value (context p s o) i.o3 c) (masked i.o0.select)
  does_null Measures z h = null_measures z
  does_null (Acts kind) z h = null_change _ (no_event (room_of i.o0) z (λ q. event.Atomic (room_of i.o0) q kind (scalar (context p s o) i.o2) 0)
      (views.paired_at (context p s o) i.o0 i.o1) 0)
  does_null Compares z h =
      null_change _ (no_event (room_of i.o0) z (λ q. event.Atomic (room_of i.o0) q act.CompareExchange (scalar (context p s o) i.o2)
      (scalar (context p s o) i.o3)) (views.paired_at (context p s o) i.o0 i.o1) 0)
  does_null (Fetches kind) z h = null_fetch _ (no_event (room_of i.o1) z (λ q. event.Atomic (room_of i.o1) q kind (scalar (context p s o) i.o3) 0)
      (views.paired_at (context p s o) i.o1 i.o2) 0)
  does_null Exchanges z h =
      null_fetch _ (no_event (room_of i.o1) z (λ q. event.Atomic (room_of i.o1) q act.CompareExchange (scalar (context p s o) i.o3)
      (scalar (context p s o) i.o4)) (views.paired_at (context p s o) i.o1 i.o2) 0)
  does_null Allocates z h = null_allocates z
  does_null Consumes z h = null_consumes z
  does_null Syncs z h = does_sync true
  does_null other z h = absurd (cc h)

  pub does_there : (m : Meaning) → fit m → ((slot : ℕ) → room_by m i ≡ room.Counter slot → s.extent (room.Counter slot) ≡ 1)
      → is_guarded (Some m) ≡ true → Does m false
  does_there LoadRaw f z h = does_load_raw f
  does_there LoadStructured f z h = does_load_structured f
  does_there StoreRaw f z h = does_store_raw f
  does_there StoreStructured f z h = does_store_structured f
  does_there Measures f z h = does_measures
  does_there (Acts kind) f z h = does_acts kind f
  does_there Compares f z h = does_compares f
  does_there (Fetches kind) f z h = does_fetches kind f
  does_there Exchanges f z h = does_exchanges f
  does_there Allocates f z h = does_allocates (z i.o1.slot refl)
  does_there Consumes f z h = does_consumes (z i.o1.slot refl)
  does_there Syncs f z h = does_sync false
  does_there other f z h = absurd (cc h)
