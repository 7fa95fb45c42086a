-- The sums of a guarded instruction's statement are below the bounds of its length.
use Rattle.std.proofs.Common.{◌≡◌, ℕ, ◌+◌, ◌*◌, ◌/◌, ◌≤◌, Bool, true, false, List, [], ◌∷◌, ◌++◌, Option, Some, None, refl, sym, ap, subst, arith}
use Rattle.std.specs.Prelude.{nat_eq, if◌then◌else◌, ◌||◌}
use Rattle.std.proofs.lemmas.Bool.{false≢true}
use Rattle.word_base.specs.declared.event.Act.{Act}
use Rattle.word_base.specs.declared.event.Act.TheVariants as act
use Rattle.word_base.specs.declared.event.Room.{Room}
use Rattle.tpf_decode.specs.Opcodes.{meaning_of}
use Rattle.tpf_decode.specs.Profiles.{Base}
use Rattle.tpf_decode.specs.Roles.{is_null, is_register}
use Rattle.tpf_decode.specs.declared.argument.Argument.{Argument}
use Rattle.tpf_decode.specs.declared.argument.Kind.{Kind}
use Rattle.tpf_decode.specs.declared.argument.Kind.TheVariants as kind
use Rattle.tpf_decode.specs.declared.argument.Relative.{Relative}
use Rattle.tpf_decode.specs.declared.argument.Select.{Select}
use Rattle.tpf_decode.specs.declared.meaning.Meaning.{Meaning}
use Rattle.tpf_decode.specs.declared.meaning.Meaning.TheVariants.{LoadRaw, LoadStructured, StoreRaw, StoreStructured, Measures, Acts, Compares, Fetches, Exchanges, Allocates, Consumes, Syncs}
use Rattle.tpf_program.specs.Program.{Shader}
use Rattle.tpf_program.specs.Sizes.{Addressing}
use Rattle.tpf_program.specs.Sizes as sizes
use Rattle.tpf_program.specs.Spelling.{nothing}
use Rattle.tpf_program.specs.Values.{selected}
use Rattle.tpf_program.specs.Views.{room_of, words_by}
use Rattle.tpf_program.specs.Writes.{in_mask, masked, written, written_by}
use Rattle.tpf_program.specs.declared.instruction.Instruction.{Instruction}
use Rattle.shader_tree.specs.Costs.{Affords, words_in, ids_in}
use Rattle.shader_tree.specs.Terms.{Term}
use Rattle.shader_tree.specs.Terms as term
use Rattle.raise_operands.specs.Building.{has_index}
use Rattle.raise_operands.specs.Laws.{CostsAt, OperandCostLaws, Spends, total}
use Rattle.raise_operands.specs.Raises.{IsLong, least_by, least_words}
use Rattle.raise_operands.specs.Raising.{indices, source, target, write_by}
use Rattle.raise_operands.specs.Vectors.{keeps_index, spaces_of}
use Rattle.raise_views.specs.declared.address.Reach.{Reach}
use Rattle.raise_views.specs.Guarding.{at_of, first_measure, given_by, is_guarded, keeps_by, measure_by, measured, parts_by, raised, reach_of, results, room_by, statement_of, statements, stride_of, sync_part, way_of, work_by, writes}
use Rattle.raise_views.specs.Guards.{IsGuardable}
use Rattle.raise_views.specs.Reaching.{answer_scratch, keeps, loads, paired_by}
use Rattle.raise_views.proofs.Rooms.{is_view, read_view, types, written_of, written_view}
use Rattle.raise_views.proofs.Spending.{Few, SpendsAll, all_map, atomic_spends, byte_spends, few_filter, few_none, loads_spend, stores_spend, structure_spends, structures_spend, total_append, word_spends}

-- OPERANDS whose index is not kept
view_unkept : (k : Kind) → is_view k ≡ true → has_index k ≡ false
view_unkept kind.Resource h = refl
view_unkept kind.Uav h = refl
view_unkept kind.Shared h = refl
view_unkept other h = absurd (false≢true h)

least_at : (k : Kind) (r : Option Relative) → is_view k ≡ true → 2 ≤ least_by k r
least_at kind.Resource r h = omega arith
least_at kind.Uav r h = omega arith
least_at kind.Shared r h = omega arith
least_at other r h = absurd (false≢true h)

least_more : (n : Bool) (k : ℕ) → k ≤ (if n then 1 + k else k)
least_more true k = omega arith
least_more false k = omega arith

view_least : (a : Argument) → is_view a.kind ≡ true → 2 ≤ least_words a
view_least a h = let l = least_at a.kind a.relative h in let m = least_more a.negate (least_by a.kind a.relative) in omega arith

nothing_unkept : (a : Argument) → a ≡ nothing → has_index a.kind ≡ false
nothing_unkept a e = ap (λ b. has_index b.kind) e

-- DESTINATIONS are registers, or null, which has no components.
none_written : (k : Kind) (select : Select) → is_null k ≡ true → written_by k select ≡ []
none_written kind.Null select h = refl
none_written other select h = absurd (false≢true h)

not_register : (a b : Bool) → a ≡ false → (a || b) ≡ true → b ≡ true
not_register false b e h = h
not_register true b e h = absurd (false≢true (sym e))

few_written : (k : Kind) (select : Select) → Few (written_by k select)
few_written kind.Null select = few_none
few_written other select = few_filter (in_mask select)

loads_none : (r : Reach) (ds : List ℕ) (select : ℕ → ℕ) → ds ≡ [] → SpendsAll (loads r ds select) 0 0
loads_none r [] select e = record { in_words = omega arith; in_ids = omega arith }
loads_none r (d ∷ ds) select e = absurd (cc e)

few_any : (b : Bool) (cs : List ℕ) → Few cs → Few (if b then cs else [])
few_any true cs h = h
few_any false cs h = few_none

module _ (costs : OperandCostLaws) (p : Shader) (i : Instruction) (able : IsGuardable p i) where
  abbrev cost0 : CostsAt (spaces_of p) i.o0
  cost0 = costs.costs (spaces_of p) i.o0

  abbrev cost1 : CostsAt (spaces_of p) i.o1
  cost1 = costs.costs (spaces_of p) i.o1

  abbrev cost2 : CostsAt (spaces_of p) i.o2
  cost2 = costs.costs (spaces_of p) i.o2

  abbrev cost3 : CostsAt (spaces_of p) i.o3
  cost3 = costs.costs (spaces_of p) i.o3

  abbrev cost4 : CostsAt (spaces_of p) i.o4
  cost4 = costs.costs (spaces_of p) i.o4

  abbrev index_of : (Term → ℕ) → ℕ → Argument → ℕ
  index_of f k a = f (keeps_index (spaces_of p) k a)

  unkept_words : (k : ℕ) (a : Argument) → has_index a.kind ≡ false → index_of words_in k a ≡ 0
  unkept_words k a h = ap words_in (costs.unkept (spaces_of p) k a h)

  unkept_ids : (k : ℕ) (a : Argument) → has_index a.kind ≡ false → index_of ids_in k a ≡ 0
  unkept_ids k a h = ap ids_in (costs.unkept (spaces_of p) k a h)

  -- the sum of a whole
  sum_of : (f : Term → ℕ) (kept ps ws : List Term)
      → total f (indices (spaces_of p) i ++ (kept ++ (ps ++ ws)))
      ≡ (index_of f 0 i.o0 + index_of f 1 i.o1 + index_of f 2 i.o2 + index_of f 3 i.o3 + index_of f 4 i.o4) +
      (total f kept + (total f ps + total f ws))
  sum_of f kept ps ws =
      let a = total_append f (indices (spaces_of p) i) (kept ++ (ps ++ ws)) in
      let b = total_append f kept (ps ++ ws) in
      let c = total_append f ps ws in
      let d : total f (indices (spaces_of p) i) ≡ index_of f 0 i.o0 +
      (index_of f 1 i.o1 + (index_of f 2 i.o2 + (index_of f 3 i.o3 + (index_of f 4 i.o4 + 0)))) = refl in
      omega arith

  -- WRITES
  pub record Written (F : ℕ → Term) (cs : List ℕ) : Type 0 where
    pub in_words : total words_in (writes (spaces_of p) i F cs) ≤ 4 * cost0.write_cost.words
    pub in_ids : total ids_in (writes (spaces_of p) i F cs) ≤ 4 * cost0.write_cost.ids

  written_spends : (F : ℕ → Term) (cs : List ℕ) → ((c : ℕ) → Spends (F c) 25 5) → Few cs → Written F cs
  written_spends F cs h few =
      let m = all_map (λ c. write_by (target (spaces_of p) i.o0) (spaces_of p) 0 c (F c)) cs cost0.write_cost.words cost0.write_cost.ids
      (λ c. cost0.write' 0 c (F c) (h c)) in
      let f = few.few cost0.write_cost.words in
      let g = few.few cost0.write_cost.ids in
      let a = m.in_words in let b = m.in_ids in record { in_words = omega arith; in_ids = omega arith }

  scratch_spends : (n : ℕ) → Spends (term.Scratch n) 25 5
  scratch_spends n = record { in_words = omega arith; in_ids = omega arith }

  word_is : (w : ℕ) → Spends (term.Word w) 25 5
  word_is w = record { in_words = omega arith; in_ids = omega arith }

  given_spends : (m : Meaning) (c : ℕ) → Spends (given_by m c) 25 5
  given_spends LoadRaw c = scratch_spends (answer_scratch c)
  given_spends LoadStructured c = scratch_spends (answer_scratch c)
  given_spends Consumes c = record { in_words = omega arith; in_ids = omega arith }
  given_spends other c = scratch_spends (answer_scratch 0)

  pick_spends : (b : Bool) (x y : Term) → Spends x 25 5 → Spends y 25 5 → Spends (if b then x else y) 25 5
  pick_spends true x y h k = h
  pick_spends false x y h k = k

  measured_spends : (a : Addressing) (null : Bool) (c : ℕ) → Spends (measured a null c) 25 5
  measured_spends a null c =
      pick_spends (nat_eq c 0) (first_measure a null) (if nat_eq c 1 then term.Word (stride_of a) else term.Word 0) (first a)
      (pick_spends (nat_eq c 1) (term.Word (stride_of a)) (term.Word 0) (word_is (stride_of a)) (word_is 0))
    where
      first : (a : Addressing) → Spends (first_measure a null) 25 5
      first sizes.Words = word_is 0
      first sizes.Bytes = pick_spends null (term.Word 0) (term.Scratch (answer_scratch 0)) (word_is 0) (scratch_spends (answer_scratch 0))
      first (sizes.Structures stride) = pick_spends null (term.Word 0) (term.Scratch (answer_scratch 0)) (word_is 0)
          (scratch_spends (answer_scratch 0))

  few_results : (m : Meaning) → Few (results m i)
  few_results m = few_any _ (written i.o0) (few_written i.o0.kind i.o0.select)

  given_written : (m : Meaning) → Written (given_by m) (results m i)
  given_written m = written_spends (given_by m) (results m i) (given_spends m) (few_results m)

  zeros_written : (cs : List ℕ) → Few cs → Written (λ c. term.Word 0) cs
  zeros_written cs few = written_spends (λ c. term.Word 0) cs (λ c. word_is 0) few

  -- ADDRESSES of atomics
  paired_spends : (a : Addressing) (k : ℕ) (o : Argument) (c : CostsAt (spaces_of p) o)
      → SpendsAll (keeps (paired_by a (spaces_of p) k o)) (25 + (c.source_cost.words + c.source_cost.words))
      (4 + (c.source_cost.ids + c.source_cost.ids))
  paired_spends sizes.Bytes k o c =
      let b = byte_spends (source (spaces_of p) k o 0) c.source_cost.words c.source_cost.ids (c.source' k 0) in
      let x = b.in_words in let y = b.in_ids in record { in_words = omega arith; in_ids = omega arith }
  paired_spends (sizes.Structures stride) k o c =
      structure_spends (stride / 4) (source (spaces_of p) k o 0) (source (spaces_of p) k o 1) c.source_cost.words c.source_cost.ids
      c.source_cost.words c.source_cost.ids (c.source' k 0) (c.source' k 1)
  paired_spends sizes.Words k o c =
      let b = word_spends (source (spaces_of p) k o 0) c.source_cost.words c.source_cost.ids (c.source' k 0) in
      let x = b.in_words in let y = b.in_ids in record { in_words = omega arith; in_ids = omega arith }

  zero_spends : Spends (term.Word 0) 4 1
  zero_spends = record { in_words = omega arith; in_ids = omega arith }

  abbrev Fit : Meaning → Bool → Type 0
  Fit m null =
      (total words_in (statements (spaces_of p) i (work_by m null p i) (results m i)) ≤ 256 * i.length)
      × (total ids_in (statements (spaces_of p) i (work_by m null p i) (results m i)) ≤ 48 * i.length)

  module _ (m : Meaning) (means : meaning_of Base i.code ≡ Some m) where
    long : IsLong (Some m) i
    long = subst (λ o. IsLong o i) means able.there.long

  -- EACH KIND
  store_raw : meaning_of Base i.code ≡ Some StoreRaw → Fit StoreRaw false
  store_raw e =
      let l = long StoreRaw e in
      let t = types p i able StoreRaw e in
      let u0 = view_unkept i.o0.kind (written_view i.o0.kind (written_of p i able StoreRaw e refl)) in
      let v = view_least i.o0 (written_view i.o0.kind (written_of p i able StoreRaw e refl)) in
      let a0 = unkept_words 0 i.o0 u0 in
      let b0 = unkept_ids 0 i.o0 u0 in
      let k1 = cost1.keep 1 in
      let a1 = k1.in_words in
      let b1 = k1.in_ids in
      let k2 = cost2.keep 2 in
      let a2 = k2.in_words in
      let b2 = k2.in_ids in
      let u3 = nothing_unkept i.o3 (cc l.others) in
      let a3 = unkept_words 3 i.o3 u3 in
      let b3 = unkept_ids 3 i.o3 u3 in
      let u4 = nothing_unkept i.o4 (cc l.others) in
      let a4 = unkept_words 4 i.o4 u4 in
      let b4 = unkept_ids 4 i.o4 u4 in
      let c1 = cost1.source_words in
      let d1 = cost1.source_ids in
      let c2 = cost2.source_words in
      let d2 = cost2.source_ids in
      let q = byte_spends (source (spaces_of p) 1 i.o1 0) cost1.source_cost.words cost1.source_cost.ids (cost1.source' 1 0) in
      let qa = q.in_words in let qb = q.in_ids in
      let r = stores_spend (reach_of StoreRaw p i) costs (masked i.o0.select) (source (spaces_of p) 2 i.o2) cost2.source_cost.words
      cost2.source_cost.ids (λ c. cost2.source' 2 c) (few_filter (in_mask i.o0.select)) in
      let ra = r.in_words in let rb = r.in_ids in
      let z = l.size in
      let x = sum_of words_in (keeps_by StoreRaw (at_of StoreRaw p i)) (parts_by StoreRaw (spaces_of p) (reach_of StoreRaw p i) i) [] in
      let y = sum_of ids_in (keeps_by StoreRaw (at_of StoreRaw p i)) (parts_by StoreRaw (spaces_of p) (reach_of StoreRaw p i) i) [] in
      (omega arith, omega arith)

  store_structured : meaning_of Base i.code ≡ Some StoreStructured → Fit StoreStructured false
  store_structured e =
      let l = long StoreStructured e in
      let t = types p i able StoreStructured e in
      let u0 = view_unkept i.o0.kind (written_view i.o0.kind (written_of p i able StoreStructured e refl)) in
      let v = view_least i.o0 (written_view i.o0.kind (written_of p i able StoreStructured e refl)) in
      let a0 = unkept_words 0 i.o0 u0 in
      let b0 = unkept_ids 0 i.o0 u0 in
      let k1 = cost1.keep 1 in
      let a1 = k1.in_words in
      let b1 = k1.in_ids in
      let k2 = cost2.keep 2 in
      let a2 = k2.in_words in
      let b2 = k2.in_ids in
      let k3 = cost3.keep 3 in
      let a3 = k3.in_words in
      let b3 = k3.in_ids in
      let u4 = nothing_unkept i.o4 (cc l.others) in
      let a4 = unkept_words 4 i.o4 u4 in
      let b4 = unkept_ids 4 i.o4 u4 in
      let c1 = cost1.source_words in
      let d1 = cost1.source_ids in
      let c2 = cost2.source_words in
      let d2 = cost2.source_ids in
      let c3 = cost3.source_words in
      let d3 = cost3.source_ids in
      let q = structure_spends (words_by (way_of p i.o0)) (source (spaces_of p) 1 i.o1 0) (source (spaces_of p) 2 i.o2 0) cost1.source_cost.words
      cost1.source_cost.ids cost2.source_cost.words cost2.source_cost.ids (cost1.source' 1 0) (cost2.source' 2 0) in
      let qa = q.in_words in let qb = q.in_ids in
      let r = stores_spend (reach_of StoreStructured p i) costs (masked i.o0.select) (source (spaces_of p) 3 i.o3) cost3.source_cost.words
      cost3.source_cost.ids (λ c. cost3.source' 3 c) (few_filter (in_mask i.o0.select)) in
      let ra = r.in_words in let rb = r.in_ids in
      let z = l.size in
      let x = sum_of words_in (keeps_by StoreStructured (at_of StoreStructured p i))
      (parts_by StoreStructured (spaces_of p) (reach_of StoreStructured p i) i) [] in
      let y = sum_of ids_in (keeps_by StoreStructured (at_of StoreStructured p i))
      (parts_by StoreStructured (spaces_of p) (reach_of StoreStructured p i) i) [] in
      (omega arith, omega arith)

  acts : (kind : Act) → meaning_of Base i.code ≡ Some (Acts kind) → Fit (Acts kind) false
  acts kind e =
      let l = long (Acts kind) e in
      let t = types p i able (Acts kind) e in
      let u0 = view_unkept i.o0.kind (written_view i.o0.kind (written_of p i able (Acts kind) e refl)) in
      let v = view_least i.o0 (written_view i.o0.kind (written_of p i able (Acts kind) e refl)) in
      let a0 = unkept_words 0 i.o0 u0 in
      let b0 = unkept_ids 0 i.o0 u0 in
      let k1 = cost1.keep 1 in
      let a1 = k1.in_words in
      let b1 = k1.in_ids in
      let k2 = cost2.keep 2 in
      let a2 = k2.in_words in
      let b2 = k2.in_ids in
      let u3 = nothing_unkept i.o3 (cc l.others) in
      let a3 = unkept_words 3 i.o3 u3 in
      let b3 = unkept_ids 3 i.o3 u3 in
      let u4 = nothing_unkept i.o4 (cc l.others) in
      let a4 = unkept_words 4 i.o4 u4 in
      let b4 = unkept_ids 4 i.o4 u4 in
      let c1 = cost1.source_words in
      let d1 = cost1.source_ids in
      let c2 = cost2.source_words in
      let d2 = cost2.source_ids in
      let q = paired_spends (way_of p i.o0) 1 i.o1 cost1 in
      let qa = q.in_words in let qb = q.in_ids in
      let r = atomic_spends (reach_of (Acts kind) p i) kind (source (spaces_of p) 2 i.o2 0) (term.Word 0) false cost2.source_cost.words
      cost2.source_cost.ids 4 1 (cost2.source' 2 0) zero_spends in
      let ra = r.in_words in let rb = r.in_ids in
      let z = l.size in
      let x = sum_of words_in (keeps_by (Acts kind) (at_of (Acts kind) p i)) (parts_by (Acts kind) (spaces_of p) (reach_of (Acts kind) p i) i) [] in
      let y = sum_of ids_in (keeps_by (Acts kind) (at_of (Acts kind) p i)) (parts_by (Acts kind) (spaces_of p) (reach_of (Acts kind) p i) i) [] in
      (omega arith, omega arith)

  compares : meaning_of Base i.code ≡ Some Compares → Fit Compares false
  compares e =
      let l = long Compares e in
      let t = types p i able Compares e in
      let u0 = view_unkept i.o0.kind (written_view i.o0.kind (written_of p i able Compares e refl)) in
      let v = view_least i.o0 (written_view i.o0.kind (written_of p i able Compares e refl)) in
      let a0 = unkept_words 0 i.o0 u0 in
      let b0 = unkept_ids 0 i.o0 u0 in
      let k1 = cost1.keep 1 in
      let a1 = k1.in_words in
      let b1 = k1.in_ids in
      let k2 = cost2.keep 2 in
      let a2 = k2.in_words in
      let b2 = k2.in_ids in
      let k3 = cost3.keep 3 in
      let a3 = k3.in_words in
      let b3 = k3.in_ids in
      let u4 = nothing_unkept i.o4 (cc l.others) in
      let a4 = unkept_words 4 i.o4 u4 in
      let b4 = unkept_ids 4 i.o4 u4 in
      let c1 = cost1.source_words in
      let d1 = cost1.source_ids in
      let c2 = cost2.source_words in
      let d2 = cost2.source_ids in
      let c3 = cost3.source_words in
      let d3 = cost3.source_ids in
      let q = paired_spends (way_of p i.o0) 1 i.o1 cost1 in
      let qa = q.in_words in let qb = q.in_ids in
      let r = atomic_spends (reach_of Compares p i) act.CompareExchange (source (spaces_of p) 2 i.o2 0) (source (spaces_of p) 3 i.o3 0) false
      cost2.source_cost.words cost2.source_cost.ids cost3.source_cost.words cost3.source_cost.ids (cost2.source' 2 0) (cost3.source' 3 0) in
      let ra = r.in_words in let rb = r.in_ids in
      let z = l.size in
      let x = sum_of words_in (keeps_by Compares (at_of Compares p i)) (parts_by Compares (spaces_of p) (reach_of Compares p i) i) [] in
      let y = sum_of ids_in (keeps_by Compares (at_of Compares p i)) (parts_by Compares (spaces_of p) (reach_of Compares p i) i) [] in
      (omega arith, omega arith)

  fetches : (kind : Act) → meaning_of Base i.code ≡ Some (Fetches kind) → Fit (Fetches kind) false
  fetches kind e =
      let l = long (Fetches kind) e in
      let t = types p i able (Fetches kind) e in
      let k0 = cost0.keep 0 in
      let a0 = k0.in_words in
      let b0 = k0.in_ids in
      let u1 = view_unkept i.o1.kind (written_view i.o1.kind (written_of p i able (Fetches kind) e refl)) in
      let v = view_least i.o1 (written_view i.o1.kind (written_of p i able (Fetches kind) e refl)) in
      let a1 = unkept_words 1 i.o1 u1 in
      let b1 = unkept_ids 1 i.o1 u1 in
      let k2 = cost2.keep 2 in
      let a2 = k2.in_words in
      let b2 = k2.in_ids in
      let k3 = cost3.keep 3 in
      let a3 = k3.in_words in
      let b3 = k3.in_ids in
      let u4 = nothing_unkept i.o4 (cc l.others) in
      let a4 = unkept_words 4 i.o4 u4 in
      let b4 = unkept_ids 4 i.o4 u4 in
      let c2 = cost2.source_words in
      let d2 = cost2.source_ids in
      let c3 = cost3.source_words in
      let d3 = cost3.source_ids in
      let c0 = cost0.write_words in
      let d0 = cost0.write_ids in
      let q = paired_spends (way_of p i.o1) 2 i.o2 cost2 in
      let qa = q.in_words in let qb = q.in_ids in
      let r = atomic_spends (reach_of (Fetches kind) p i) kind (source (spaces_of p) 3 i.o3 0) (term.Word 0) true cost3.source_cost.words
      cost3.source_cost.ids 4 1 (cost3.source' 3 0) zero_spends in
      let ra = r.in_words in let rb = r.in_ids in
      let w = given_written (Fetches kind) in
      let wa = w.in_words in let wb = w.in_ids in
      let z = l.size in
      let x = sum_of words_in (keeps_by (Fetches kind) (at_of (Fetches kind) p i))
      (parts_by (Fetches kind) (spaces_of p) (reach_of (Fetches kind) p i) i)
      (writes (spaces_of p) i (given_by (Fetches kind)) (results (Fetches kind) i)) in
      let y = sum_of ids_in (keeps_by (Fetches kind) (at_of (Fetches kind) p i)) (parts_by (Fetches kind) (spaces_of p) (reach_of (Fetches kind) p i)
      i) (writes (spaces_of p) i (given_by (Fetches kind)) (results (Fetches kind) i)) in
      (omega arith, omega arith)

  exchanges : meaning_of Base i.code ≡ Some Exchanges → Fit Exchanges false
  exchanges e =
      let l = long Exchanges e in
      let t = types p i able Exchanges e in
      let k0 = cost0.keep 0 in
      let a0 = k0.in_words in
      let b0 = k0.in_ids in
      let u1 = view_unkept i.o1.kind (written_view i.o1.kind (written_of p i able Exchanges e refl)) in
      let v = view_least i.o1 (written_view i.o1.kind (written_of p i able Exchanges e refl)) in
      let a1 = unkept_words 1 i.o1 u1 in
      let b1 = unkept_ids 1 i.o1 u1 in
      let k2 = cost2.keep 2 in
      let a2 = k2.in_words in
      let b2 = k2.in_ids in
      let k3 = cost3.keep 3 in
      let a3 = k3.in_words in
      let b3 = k3.in_ids in
      let k4 = cost4.keep 4 in
      let a4 = k4.in_words in
      let b4 = k4.in_ids in
      let c2 = cost2.source_words in
      let d2 = cost2.source_ids in
      let c3 = cost3.source_words in
      let d3 = cost3.source_ids in
      let c4 = cost4.source_words in
      let d4 = cost4.source_ids in
      let c0 = cost0.write_words in
      let d0 = cost0.write_ids in
      let q = paired_spends (way_of p i.o1) 2 i.o2 cost2 in
      let qa = q.in_words in let qb = q.in_ids in
      let r = atomic_spends (reach_of Exchanges p i) act.CompareExchange (source (spaces_of p) 3 i.o3 0) (source (spaces_of p) 4 i.o4 0) true
      cost3.source_cost.words cost3.source_cost.ids cost4.source_cost.words cost4.source_cost.ids (cost3.source' 3 0) (cost4.source' 4 0) in
      let ra = r.in_words in let rb = r.in_ids in
      let w = given_written Exchanges in
      let wa = w.in_words in let wb = w.in_ids in
      let z = l.size in
      let x = sum_of words_in (keeps_by Exchanges (at_of Exchanges p i)) (parts_by Exchanges (spaces_of p) (reach_of Exchanges p i) i)
      (writes (spaces_of p) i (given_by Exchanges) (results Exchanges i)) in
      let y = sum_of ids_in (keeps_by Exchanges (at_of Exchanges p i)) (parts_by Exchanges (spaces_of p) (reach_of Exchanges p i) i)
      (writes (spaces_of p) i (given_by Exchanges) (results Exchanges i)) in
      (omega arith, omega arith)

  allocates : meaning_of Base i.code ≡ Some Allocates → Fit Allocates false
  allocates e =
      let l = long Allocates e in
      let t = types p i able Allocates e in
      let k0 = cost0.keep 0 in
      let a0 = k0.in_words in
      let b0 = k0.in_ids in
      let k1 = cost1.keep 1 in
      let a1 = k1.in_words in
      let b1 = k1.in_ids in
      let u2 = nothing_unkept i.o2 (cc l.others) in
      let a2 = unkept_words 2 i.o2 u2 in
      let b2 = unkept_ids 2 i.o2 u2 in
      let u3 = nothing_unkept i.o3 (cc l.others) in
      let a3 = unkept_words 3 i.o3 u3 in
      let b3 = unkept_ids 3 i.o3 u3 in
      let u4 = nothing_unkept i.o4 (cc l.others) in
      let a4 = unkept_words 4 i.o4 u4 in
      let b4 = unkept_ids 4 i.o4 u4 in
      let c1 = cost1.source_words in
      let d1 = cost1.source_ids in
      let c0 = cost0.write_words in
      let d0 = cost0.write_ids in
      let w = given_written Allocates in
      let wa = w.in_words in let wb = w.in_ids in
      let z = l.size in
      let x = sum_of words_in [] (parts_by Allocates (spaces_of p) (reach_of Allocates p i) i)
      (writes (spaces_of p) i (given_by Allocates) (results Allocates i)) in
      let y = sum_of ids_in [] (parts_by Allocates (spaces_of p) (reach_of Allocates p i) i)
      (writes (spaces_of p) i (given_by Allocates) (results Allocates i)) in
      (omega arith, omega arith)

  consumes : meaning_of Base i.code ≡ Some Consumes → Fit Consumes false
  consumes e =
      let l = long Consumes e in
      let t = types p i able Consumes e in
      let k0 = cost0.keep 0 in
      let a0 = k0.in_words in
      let b0 = k0.in_ids in
      let k1 = cost1.keep 1 in
      let a1 = k1.in_words in
      let b1 = k1.in_ids in
      let u2 = nothing_unkept i.o2 (cc l.others) in
      let a2 = unkept_words 2 i.o2 u2 in
      let b2 = unkept_ids 2 i.o2 u2 in
      let u3 = nothing_unkept i.o3 (cc l.others) in
      let a3 = unkept_words 3 i.o3 u3 in
      let b3 = unkept_ids 3 i.o3 u3 in
      let u4 = nothing_unkept i.o4 (cc l.others) in
      let a4 = unkept_words 4 i.o4 u4 in
      let b4 = unkept_ids 4 i.o4 u4 in
      let c1 = cost1.source_words in
      let d1 = cost1.source_ids in
      let c0 = cost0.write_words in
      let d0 = cost0.write_ids in
      let w = given_written Consumes in
      let wa = w.in_words in let wb = w.in_ids in
      let z = l.size in
      let x = sum_of words_in [] (parts_by Consumes (spaces_of p) (reach_of Consumes p i) i)
      (writes (spaces_of p) i (given_by Consumes) (results Consumes i)) in
      let y = sum_of ids_in [] (parts_by Consumes (spaces_of p) (reach_of Consumes p i) i)
      (writes (spaces_of p) i (given_by Consumes) (results Consumes i)) in
      (omega arith, omega arith)

  load_raw_by : (b : Bool) → is_register i.o0.kind ≡ b → meaning_of Base i.code ≡ Some LoadRaw → Fit LoadRaw false
  load_raw_by true g e =
      let l = long LoadRaw e in
      let t = types p i able LoadRaw e in
      let k0 = cost0.keep 0 in
      let a0 = k0.in_words in
      let b0 = k0.in_ids in
      let k1 = cost1.keep 1 in
      let a1 = k1.in_words in
      let b1 = k1.in_ids in
      let u2 = view_unkept i.o2.kind (read_view i.code i.o2.kind t.1.1.0) in
      let v = view_least i.o2 (read_view i.code i.o2.kind t.1.1.0) in
      let a2 = unkept_words 2 i.o2 u2 in
      let b2 = unkept_ids 2 i.o2 u2 in
      let u3 = nothing_unkept i.o3 (cc l.others) in
      let a3 = unkept_words 3 i.o3 u3 in
      let b3 = unkept_ids 3 i.o3 u3 in
      let u4 = nothing_unkept i.o4 (cc l.others) in
      let a4 = unkept_words 4 i.o4 u4 in
      let b4 = unkept_ids 4 i.o4 u4 in
      let c1 = cost1.source_words in
      let d1 = cost1.source_ids in
      let c0 = cost0.register_words g in
      let d0 = cost0.register_ids g in
      let q = byte_spends (source (spaces_of p) 1 i.o1 0) cost1.source_cost.words cost1.source_cost.ids (cost1.source' 1 0) in
      let qa = q.in_words in let qb = q.in_ids in
      let r = loads_spend (reach_of LoadRaw p i) costs (written i.o0) (selected i.o2.select) (few_written i.o0.kind i.o0.select) in
      let ra = r.in_words in let rb = r.in_ids in
      let w = given_written LoadRaw in
      let wa = w.in_words in let wb = w.in_ids in
      let z = l.size in
      let x = sum_of words_in (keeps_by LoadRaw (at_of LoadRaw p i)) (parts_by LoadRaw (spaces_of p) (reach_of LoadRaw p i) i)
      (writes (spaces_of p) i (given_by LoadRaw) (results LoadRaw i)) in
      let y = sum_of ids_in (keeps_by LoadRaw (at_of LoadRaw p i)) (parts_by LoadRaw (spaces_of p) (reach_of LoadRaw p i) i)
      (writes (spaces_of p) i (given_by LoadRaw) (results LoadRaw i)) in
      (omega arith, omega arith)
  load_raw_by false g e =
      let l = long LoadRaw e in
      let t = types p i able LoadRaw e in
      let k0 = cost0.keep 0 in
      let a0 = k0.in_words in
      let b0 = k0.in_ids in
      let k1 = cost1.keep 1 in
      let a1 = k1.in_words in
      let b1 = k1.in_ids in
      let u2 = view_unkept i.o2.kind (read_view i.code i.o2.kind t.1.1.0) in
      let v = view_least i.o2 (read_view i.code i.o2.kind t.1.1.0) in
      let a2 = unkept_words 2 i.o2 u2 in
      let b2 = unkept_ids 2 i.o2 u2 in
      let u3 = nothing_unkept i.o3 (cc l.others) in
      let a3 = unkept_words 3 i.o3 u3 in
      let b3 = unkept_ids 3 i.o3 u3 in
      let u4 = nothing_unkept i.o4 (cc l.others) in
      let a4 = unkept_words 4 i.o4 u4 in
      let b4 = unkept_ids 4 i.o4 u4 in
      let c1 = cost1.source_words in
      let d1 = cost1.source_ids in
      let c0 = cost0.write_words in
      let d0 = cost0.write_ids in
      let q = byte_spends (source (spaces_of p) 1 i.o1 0) cost1.source_cost.words cost1.source_cost.ids (cost1.source' 1 0) in
      let qa = q.in_words in let qb = q.in_ids in
      let r = loads_none (reach_of LoadRaw p i) (written i.o0) (selected i.o2.select)
      (none_written i.o0.kind i.o0.select (not_register (is_register i.o0.kind) (is_null i.o0.kind) g t.0)) in
      let ra = r.in_words in let rb = r.in_ids in
      let w = given_written LoadRaw in
      let wa = w.in_words in let wb = w.in_ids in
      let z = l.size in
      let x = sum_of words_in (keeps_by LoadRaw (at_of LoadRaw p i)) (parts_by LoadRaw (spaces_of p) (reach_of LoadRaw p i) i)
      (writes (spaces_of p) i (given_by LoadRaw) (results LoadRaw i)) in
      let y = sum_of ids_in (keeps_by LoadRaw (at_of LoadRaw p i)) (parts_by LoadRaw (spaces_of p) (reach_of LoadRaw p i) i)
      (writes (spaces_of p) i (given_by LoadRaw) (results LoadRaw i)) in
      (omega arith, omega arith)

  load_raw : meaning_of Base i.code ≡ Some LoadRaw → Fit LoadRaw false
  load_raw e = load_raw_by (is_register i.o0.kind) refl e

  load_structured_by : (b : Bool) → is_register i.o0.kind ≡ b → meaning_of Base i.code ≡ Some LoadStructured → Fit LoadStructured false
  load_structured_by true g e =
      let l = long LoadStructured e in
      let t = types p i able LoadStructured e in
      let k0 = cost0.keep 0 in
      let a0 = k0.in_words in
      let b0 = k0.in_ids in
      let k1 = cost1.keep 1 in
      let a1 = k1.in_words in
      let b1 = k1.in_ids in
      let k2 = cost2.keep 2 in
      let a2 = k2.in_words in
      let b2 = k2.in_ids in
      let u3 = view_unkept i.o3.kind (read_view i.code i.o3.kind t.1.1.1.0) in
      let v = view_least i.o3 (read_view i.code i.o3.kind t.1.1.1.0) in
      let a3 = unkept_words 3 i.o3 u3 in
      let b3 = unkept_ids 3 i.o3 u3 in
      let u4 = nothing_unkept i.o4 (cc l.others) in
      let a4 = unkept_words 4 i.o4 u4 in
      let b4 = unkept_ids 4 i.o4 u4 in
      let c1 = cost1.source_words in
      let d1 = cost1.source_ids in
      let c2 = cost2.source_words in
      let d2 = cost2.source_ids in
      let c0 = cost0.register_words g in
      let d0 = cost0.register_ids g in
      let q = structure_spends (words_by (way_of p i.o3)) (source (spaces_of p) 1 i.o1 0) (source (spaces_of p) 2 i.o2 0) cost1.source_cost.words
      cost1.source_cost.ids cost2.source_cost.words cost2.source_cost.ids (cost1.source' 1 0) (cost2.source' 2 0) in
      let qa = q.in_words in let qb = q.in_ids in
      let r = loads_spend (reach_of LoadStructured p i) costs (written i.o0) (selected i.o3.select) (few_written i.o0.kind i.o0.select) in
      let ra = r.in_words in let rb = r.in_ids in
      let w = given_written LoadStructured in
      let wa = w.in_words in let wb = w.in_ids in
      let z = l.size in
      let x = sum_of words_in (keeps_by LoadStructured (at_of LoadStructured p i))
      (parts_by LoadStructured (spaces_of p) (reach_of LoadStructured p i) i)
      (writes (spaces_of p) i (given_by LoadStructured) (results LoadStructured i)) in
      let y = sum_of ids_in (keeps_by LoadStructured (at_of LoadStructured p i)) (parts_by LoadStructured (spaces_of p) (reach_of LoadStructured p i)
      i) (writes (spaces_of p) i (given_by LoadStructured) (results LoadStructured i)) in
      (omega arith, omega arith)
  load_structured_by false g e =
      let l = long LoadStructured e in
      let t = types p i able LoadStructured e in
      let k0 = cost0.keep 0 in
      let a0 = k0.in_words in
      let b0 = k0.in_ids in
      let k1 = cost1.keep 1 in
      let a1 = k1.in_words in
      let b1 = k1.in_ids in
      let k2 = cost2.keep 2 in
      let a2 = k2.in_words in
      let b2 = k2.in_ids in
      let u3 = view_unkept i.o3.kind (read_view i.code i.o3.kind t.1.1.1.0) in
      let v = view_least i.o3 (read_view i.code i.o3.kind t.1.1.1.0) in
      let a3 = unkept_words 3 i.o3 u3 in
      let b3 = unkept_ids 3 i.o3 u3 in
      let u4 = nothing_unkept i.o4 (cc l.others) in
      let a4 = unkept_words 4 i.o4 u4 in
      let b4 = unkept_ids 4 i.o4 u4 in
      let c1 = cost1.source_words in
      let d1 = cost1.source_ids in
      let c2 = cost2.source_words in
      let d2 = cost2.source_ids in
      let c0 = cost0.write_words in
      let d0 = cost0.write_ids in
      let q = structure_spends (words_by (way_of p i.o3)) (source (spaces_of p) 1 i.o1 0) (source (spaces_of p) 2 i.o2 0) cost1.source_cost.words
      cost1.source_cost.ids cost2.source_cost.words cost2.source_cost.ids (cost1.source' 1 0) (cost2.source' 2 0) in
      let qa = q.in_words in let qb = q.in_ids in
      let r = loads_none (reach_of LoadStructured p i) (written i.o0) (selected i.o3.select)
      (none_written i.o0.kind i.o0.select (not_register (is_register i.o0.kind) (is_null i.o0.kind) g t.0)) in
      let ra = r.in_words in let rb = r.in_ids in
      let w = given_written LoadStructured in
      let wa = w.in_words in let wb = w.in_ids in
      let z = l.size in
      let x = sum_of words_in (keeps_by LoadStructured (at_of LoadStructured p i))
      (parts_by LoadStructured (spaces_of p) (reach_of LoadStructured p i) i)
      (writes (spaces_of p) i (given_by LoadStructured) (results LoadStructured i)) in
      let y = sum_of ids_in (keeps_by LoadStructured (at_of LoadStructured p i)) (parts_by LoadStructured (spaces_of p) (reach_of LoadStructured p i)
      i) (writes (spaces_of p) i (given_by LoadStructured) (results LoadStructured i)) in
      (omega arith, omega arith)

  load_structured : meaning_of Base i.code ≡ Some LoadStructured → Fit LoadStructured false
  load_structured e = load_structured_by (is_register i.o0.kind) refl e

  -- the length of a view
  measure_spends : (a : Addressing) (rm : Room) → SpendsAll (measure_by a rm) 23 4
  measure_spends sizes.Bytes rm = record { in_words = omega arith; in_ids = omega arith }
  measure_spends (sizes.Structures stride) rm =
      let q = structures_spend (stride / 4) rm in let a = q.in_words in let b = q.in_ids in record { in_words = omega arith; in_ids = omega arith }
  measure_spends sizes.Words rm = record { in_words = omega arith; in_ids = omega arith }

  measured_written : (null : Bool) → Written (λ c. measured (way_of p i.o1) null (selected i.o1.select c)) (written i.o0)
  measured_written null =
      written_spends (λ c. measured (way_of p i.o1) null (selected i.o1.select c)) (written i.o0)
      (λ c. measured_spends (way_of p i.o1) null (selected i.o1.select c)) (few_written i.o0.kind i.o0.select)

  -- NULL ROOMS, and those without one
  null_load_raw : meaning_of Base i.code ≡ Some LoadRaw → Fit LoadRaw true
  null_load_raw e =
      let l = long LoadRaw e in
      let k0 = cost0.keep 0 in
      let a0 = k0.in_words in
      let b0 = k0.in_ids in
      let k1 = cost1.keep 1 in
      let a1 = k1.in_words in
      let b1 = k1.in_ids in
      let c1 = cost1.source_words in
      let d1 = cost1.source_ids in
      let k2 = cost2.keep 2 in
      let a2 = k2.in_words in
      let b2 = k2.in_ids in
      let c2 = cost2.source_words in
      let d2 = cost2.source_ids in
      let u3 = nothing_unkept i.o3 (cc l.others) in
      let a3 = unkept_words 3 i.o3 u3 in
      let b3 = unkept_ids 3 i.o3 u3 in
      let u4 = nothing_unkept i.o4 (cc l.others) in
      let a4 = unkept_words 4 i.o4 u4 in
      let b4 = unkept_ids 4 i.o4 u4 in
      let c0 = cost0.write_words in
      let d0 = cost0.write_ids in
      let w = zeros_written (results LoadRaw i) (few_results LoadRaw) in
      let wa = w.in_words in let wb = w.in_ids in
      let z = l.size in
      let x = sum_of words_in [] [] (writes (spaces_of p) i (λ c. term.Word 0) (results LoadRaw i)) in
      let y = sum_of ids_in [] [] (writes (spaces_of p) i (λ c. term.Word 0) (results LoadRaw i)) in
      (omega arith, omega arith)

  null_load_structured : meaning_of Base i.code ≡ Some LoadStructured → Fit LoadStructured true
  null_load_structured e =
      let l = long LoadStructured e in
      let k0 = cost0.keep 0 in
      let a0 = k0.in_words in
      let b0 = k0.in_ids in
      let k1 = cost1.keep 1 in
      let a1 = k1.in_words in
      let b1 = k1.in_ids in
      let c1 = cost1.source_words in
      let d1 = cost1.source_ids in
      let k2 = cost2.keep 2 in
      let a2 = k2.in_words in
      let b2 = k2.in_ids in
      let c2 = cost2.source_words in
      let d2 = cost2.source_ids in
      let k3 = cost3.keep 3 in
      let a3 = k3.in_words in
      let b3 = k3.in_ids in
      let c3 = cost3.source_words in
      let d3 = cost3.source_ids in
      let u4 = nothing_unkept i.o4 (cc l.others) in
      let a4 = unkept_words 4 i.o4 u4 in
      let b4 = unkept_ids 4 i.o4 u4 in
      let c0 = cost0.write_words in
      let d0 = cost0.write_ids in
      let w = zeros_written (results LoadStructured i) (few_results LoadStructured) in
      let wa = w.in_words in let wb = w.in_ids in
      let z = l.size in
      let x = sum_of words_in [] [] (writes (spaces_of p) i (λ c. term.Word 0) (results LoadStructured i)) in
      let y = sum_of ids_in [] [] (writes (spaces_of p) i (λ c. term.Word 0) (results LoadStructured i)) in
      (omega arith, omega arith)

  null_store_raw : meaning_of Base i.code ≡ Some StoreRaw → Fit StoreRaw true
  null_store_raw e =
      let l = long StoreRaw e in
      let k0 = cost0.keep 0 in
      let a0 = k0.in_words in
      let b0 = k0.in_ids in
      let c0 = cost0.source_words in
      let d0 = cost0.source_ids in
      let k1 = cost1.keep 1 in
      let a1 = k1.in_words in
      let b1 = k1.in_ids in
      let c1 = cost1.source_words in
      let d1 = cost1.source_ids in
      let k2 = cost2.keep 2 in
      let a2 = k2.in_words in
      let b2 = k2.in_ids in
      let c2 = cost2.source_words in
      let d2 = cost2.source_ids in
      let u3 = nothing_unkept i.o3 (cc l.others) in
      let a3 = unkept_words 3 i.o3 u3 in
      let b3 = unkept_ids 3 i.o3 u3 in
      let u4 = nothing_unkept i.o4 (cc l.others) in
      let a4 = unkept_words 4 i.o4 u4 in
      let b4 = unkept_ids 4 i.o4 u4 in
      let z = l.size in
      let x = sum_of words_in [] [] (writes (spaces_of p) i (λ c. term.Word 0) (results StoreRaw i)) in
      let y = sum_of ids_in [] [] (writes (spaces_of p) i (λ c. term.Word 0) (results StoreRaw i)) in
      (omega arith, omega arith)

  null_store_structured : meaning_of Base i.code ≡ Some StoreStructured → Fit StoreStructured true
  null_store_structured e =
      let l = long StoreStructured e in
      let k0 = cost0.keep 0 in
      let a0 = k0.in_words in
      let b0 = k0.in_ids in
      let c0 = cost0.source_words in
      let d0 = cost0.source_ids in
      let k1 = cost1.keep 1 in
      let a1 = k1.in_words in
      let b1 = k1.in_ids in
      let c1 = cost1.source_words in
      let d1 = cost1.source_ids in
      let k2 = cost2.keep 2 in
      let a2 = k2.in_words in
      let b2 = k2.in_ids in
      let c2 = cost2.source_words in
      let d2 = cost2.source_ids in
      let k3 = cost3.keep 3 in
      let a3 = k3.in_words in
      let b3 = k3.in_ids in
      let c3 = cost3.source_words in
      let d3 = cost3.source_ids in
      let u4 = nothing_unkept i.o4 (cc l.others) in
      let a4 = unkept_words 4 i.o4 u4 in
      let b4 = unkept_ids 4 i.o4 u4 in
      let z = l.size in
      let x = sum_of words_in [] [] (writes (spaces_of p) i (λ c. term.Word 0) (results StoreStructured i)) in
      let y = sum_of ids_in [] [] (writes (spaces_of p) i (λ c. term.Word 0) (results StoreStructured i)) in
      (omega arith, omega arith)

  null_acts : (kind : Act) → meaning_of Base i.code ≡ Some (Acts kind) → Fit (Acts kind) true
  null_acts kind e =
      let l = long (Acts kind) e in
      let k0 = cost0.keep 0 in
      let a0 = k0.in_words in
      let b0 = k0.in_ids in
      let c0 = cost0.source_words in
      let d0 = cost0.source_ids in
      let k1 = cost1.keep 1 in
      let a1 = k1.in_words in
      let b1 = k1.in_ids in
      let c1 = cost1.source_words in
      let d1 = cost1.source_ids in
      let k2 = cost2.keep 2 in
      let a2 = k2.in_words in
      let b2 = k2.in_ids in
      let c2 = cost2.source_words in
      let d2 = cost2.source_ids in
      let u3 = nothing_unkept i.o3 (cc l.others) in
      let a3 = unkept_words 3 i.o3 u3 in
      let b3 = unkept_ids 3 i.o3 u3 in
      let u4 = nothing_unkept i.o4 (cc l.others) in
      let a4 = unkept_words 4 i.o4 u4 in
      let b4 = unkept_ids 4 i.o4 u4 in
      let z = l.size in
      let x = sum_of words_in [] [] (writes (spaces_of p) i (λ c. term.Word 0) (results (Acts kind) i)) in
      let y = sum_of ids_in [] [] (writes (spaces_of p) i (λ c. term.Word 0) (results (Acts kind) i)) in
      (omega arith, omega arith)

  null_compares : meaning_of Base i.code ≡ Some Compares → Fit Compares true
  null_compares e =
      let l = long Compares e in
      let k0 = cost0.keep 0 in
      let a0 = k0.in_words in
      let b0 = k0.in_ids in
      let c0 = cost0.source_words in
      let d0 = cost0.source_ids in
      let k1 = cost1.keep 1 in
      let a1 = k1.in_words in
      let b1 = k1.in_ids in
      let c1 = cost1.source_words in
      let d1 = cost1.source_ids in
      let k2 = cost2.keep 2 in
      let a2 = k2.in_words in
      let b2 = k2.in_ids in
      let c2 = cost2.source_words in
      let d2 = cost2.source_ids in
      let k3 = cost3.keep 3 in
      let a3 = k3.in_words in
      let b3 = k3.in_ids in
      let c3 = cost3.source_words in
      let d3 = cost3.source_ids in
      let u4 = nothing_unkept i.o4 (cc l.others) in
      let a4 = unkept_words 4 i.o4 u4 in
      let b4 = unkept_ids 4 i.o4 u4 in
      let z = l.size in
      let x = sum_of words_in [] [] (writes (spaces_of p) i (λ c. term.Word 0) (results Compares i)) in
      let y = sum_of ids_in [] [] (writes (spaces_of p) i (λ c. term.Word 0) (results Compares i)) in
      (omega arith, omega arith)

  null_fetches : (kind : Act) → meaning_of Base i.code ≡ Some (Fetches kind) → Fit (Fetches kind) true
  null_fetches kind e =
      let l = long (Fetches kind) e in
      let k0 = cost0.keep 0 in
      let a0 = k0.in_words in
      let b0 = k0.in_ids in
      let k1 = cost1.keep 1 in
      let a1 = k1.in_words in
      let b1 = k1.in_ids in
      let c1 = cost1.source_words in
      let d1 = cost1.source_ids in
      let k2 = cost2.keep 2 in
      let a2 = k2.in_words in
      let b2 = k2.in_ids in
      let c2 = cost2.source_words in
      let d2 = cost2.source_ids in
      let k3 = cost3.keep 3 in
      let a3 = k3.in_words in
      let b3 = k3.in_ids in
      let c3 = cost3.source_words in
      let d3 = cost3.source_ids in
      let u4 = nothing_unkept i.o4 (cc l.others) in
      let a4 = unkept_words 4 i.o4 u4 in
      let b4 = unkept_ids 4 i.o4 u4 in
      let c0 = cost0.write_words in
      let d0 = cost0.write_ids in
      let w = zeros_written (results (Fetches kind) i) (few_results (Fetches kind)) in
      let wa = w.in_words in let wb = w.in_ids in
      let z = l.size in
      let x = sum_of words_in [] [] (writes (spaces_of p) i (λ c. term.Word 0) (results (Fetches kind) i)) in
      let y = sum_of ids_in [] [] (writes (spaces_of p) i (λ c. term.Word 0) (results (Fetches kind) i)) in
      (omega arith, omega arith)

  null_exchanges : meaning_of Base i.code ≡ Some Exchanges → Fit Exchanges true
  null_exchanges e =
      let l = long Exchanges e in
      let k0 = cost0.keep 0 in
      let a0 = k0.in_words in
      let b0 = k0.in_ids in
      let k1 = cost1.keep 1 in
      let a1 = k1.in_words in
      let b1 = k1.in_ids in
      let c1 = cost1.source_words in
      let d1 = cost1.source_ids in
      let k2 = cost2.keep 2 in
      let a2 = k2.in_words in
      let b2 = k2.in_ids in
      let c2 = cost2.source_words in
      let d2 = cost2.source_ids in
      let k3 = cost3.keep 3 in
      let a3 = k3.in_words in
      let b3 = k3.in_ids in
      let c3 = cost3.source_words in
      let d3 = cost3.source_ids in
      let k4 = cost4.keep 4 in
      let a4 = k4.in_words in
      let b4 = k4.in_ids in
      let c4 = cost4.source_words in
      let d4 = cost4.source_ids in
      let c0 = cost0.write_words in
      let d0 = cost0.write_ids in
      let w = zeros_written (results Exchanges i) (few_results Exchanges) in
      let wa = w.in_words in let wb = w.in_ids in
      let z = l.size in
      let x = sum_of words_in [] [] (writes (spaces_of p) i (λ c. term.Word 0) (results Exchanges i)) in
      let y = sum_of ids_in [] [] (writes (spaces_of p) i (λ c. term.Word 0) (results Exchanges i)) in
      (omega arith, omega arith)

  null_allocates : meaning_of Base i.code ≡ Some Allocates → Fit Allocates true
  null_allocates e =
      let l = long Allocates e in
      let k0 = cost0.keep 0 in
      let a0 = k0.in_words in
      let b0 = k0.in_ids in
      let k1 = cost1.keep 1 in
      let a1 = k1.in_words in
      let b1 = k1.in_ids in
      let c1 = cost1.source_words in
      let d1 = cost1.source_ids in
      let u2 = nothing_unkept i.o2 (cc l.others) in
      let a2 = unkept_words 2 i.o2 u2 in
      let b2 = unkept_ids 2 i.o2 u2 in
      let u3 = nothing_unkept i.o3 (cc l.others) in
      let a3 = unkept_words 3 i.o3 u3 in
      let b3 = unkept_ids 3 i.o3 u3 in
      let u4 = nothing_unkept i.o4 (cc l.others) in
      let a4 = unkept_words 4 i.o4 u4 in
      let b4 = unkept_ids 4 i.o4 u4 in
      let c0 = cost0.write_words in
      let d0 = cost0.write_ids in
      let w = zeros_written (results Allocates i) (few_results Allocates) in
      let wa = w.in_words in let wb = w.in_ids in
      let z = l.size in
      let x = sum_of words_in [] [] (writes (spaces_of p) i (λ c. term.Word 0) (results Allocates i)) in
      let y = sum_of ids_in [] [] (writes (spaces_of p) i (λ c. term.Word 0) (results Allocates i)) in
      (omega arith, omega arith)

  null_consumes : meaning_of Base i.code ≡ Some Consumes → Fit Consumes true
  null_consumes e =
      let l = long Consumes e in
      let k0 = cost0.keep 0 in
      let a0 = k0.in_words in
      let b0 = k0.in_ids in
      let k1 = cost1.keep 1 in
      let a1 = k1.in_words in
      let b1 = k1.in_ids in
      let c1 = cost1.source_words in
      let d1 = cost1.source_ids in
      let u2 = nothing_unkept i.o2 (cc l.others) in
      let a2 = unkept_words 2 i.o2 u2 in
      let b2 = unkept_ids 2 i.o2 u2 in
      let u3 = nothing_unkept i.o3 (cc l.others) in
      let a3 = unkept_words 3 i.o3 u3 in
      let b3 = unkept_ids 3 i.o3 u3 in
      let u4 = nothing_unkept i.o4 (cc l.others) in
      let a4 = unkept_words 4 i.o4 u4 in
      let b4 = unkept_ids 4 i.o4 u4 in
      let c0 = cost0.write_words in
      let d0 = cost0.write_ids in
      let w = zeros_written (results Consumes i) (few_results Consumes) in
      let wa = w.in_words in let wb = w.in_ids in
      let z = l.size in
      let x = sum_of words_in [] [] (writes (spaces_of p) i (λ c. term.Word 0) (results Consumes i)) in
      let y = sum_of ids_in [] [] (writes (spaces_of p) i (λ c. term.Word 0) (results Consumes i)) in
      (omega arith, omega arith)

  measures : meaning_of Base i.code ≡ Some Measures → Fit Measures false
  measures e =
      let l = long Measures e in
      let k0 = cost0.keep 0 in
      let a0 = k0.in_words in
      let b0 = k0.in_ids in
      let k1 = cost1.keep 1 in
      let a1 = k1.in_words in
      let b1 = k1.in_ids in
      let c1 = cost1.source_words in
      let d1 = cost1.source_ids in
      let u2 = nothing_unkept i.o2 (cc l.others) in
      let a2 = unkept_words 2 i.o2 u2 in
      let b2 = unkept_ids 2 i.o2 u2 in
      let u3 = nothing_unkept i.o3 (cc l.others) in
      let a3 = unkept_words 3 i.o3 u3 in
      let b3 = unkept_ids 3 i.o3 u3 in
      let u4 = nothing_unkept i.o4 (cc l.others) in
      let a4 = unkept_words 4 i.o4 u4 in
      let b4 = unkept_ids 4 i.o4 u4 in
      let c0 = cost0.write_words in
      let d0 = cost0.write_ids in
      let q = measure_spends (way_of p i.o1) (room_of i.o1) in
      let qa = q.in_words in let qb = q.in_ids in
      let w = measured_written false in
      let wa = w.in_words in let wb = w.in_ids in
      let z = l.size in
      let x = sum_of words_in (measure_by (way_of p i.o1) (room_of i.o1)) []
      (writes (spaces_of p) i (λ c. measured (way_of p i.o1) false (selected i.o1.select c)) (written i.o0)) in
      let y = sum_of ids_in (measure_by (way_of p i.o1) (room_of i.o1)) []
      (writes (spaces_of p) i (λ c. measured (way_of p i.o1) false (selected i.o1.select c)) (written i.o0)) in
      (omega arith, omega arith)

  null_measures : meaning_of Base i.code ≡ Some Measures → Fit Measures true
  null_measures e =
      let l = long Measures e in
      let k0 = cost0.keep 0 in
      let a0 = k0.in_words in
      let b0 = k0.in_ids in
      let k1 = cost1.keep 1 in
      let a1 = k1.in_words in
      let b1 = k1.in_ids in
      let c1 = cost1.source_words in
      let d1 = cost1.source_ids in
      let u2 = nothing_unkept i.o2 (cc l.others) in
      let a2 = unkept_words 2 i.o2 u2 in
      let b2 = unkept_ids 2 i.o2 u2 in
      let u3 = nothing_unkept i.o3 (cc l.others) in
      let a3 = unkept_words 3 i.o3 u3 in
      let b3 = unkept_ids 3 i.o3 u3 in
      let u4 = nothing_unkept i.o4 (cc l.others) in
      let a4 = unkept_words 4 i.o4 u4 in
      let b4 = unkept_ids 4 i.o4 u4 in
      let c0 = cost0.write_words in
      let d0 = cost0.write_ids in
      let w = measured_written true in
      let wa = w.in_words in let wb = w.in_ids in
      let z = l.size in
      let x = sum_of words_in [] [] (writes (spaces_of p) i (λ c. measured (way_of p i.o1) true (selected i.o1.select c)) (written i.o0)) in
      let y = sum_of ids_in [] [] (writes (spaces_of p) i (λ c. measured (way_of p i.o1) true (selected i.o1.select c)) (written i.o0)) in
      (omega arith, omega arith)

  syncs : (null : Bool) → meaning_of Base i.code ≡ Some Syncs → Fit Syncs null
  syncs null e =
      let l = long Syncs e in
      let u0 = nothing_unkept i.o0 (cc l.others) in
      let a0 = unkept_words 0 i.o0 u0 in
      let b0 = unkept_ids 0 i.o0 u0 in
      let u1 = nothing_unkept i.o1 (cc l.others) in
      let a1 = unkept_words 1 i.o1 u1 in
      let b1 = unkept_ids 1 i.o1 u1 in
      let u2 = nothing_unkept i.o2 (cc l.others) in
      let a2 = unkept_words 2 i.o2 u2 in
      let b2 = unkept_ids 2 i.o2 u2 in
      let u3 = nothing_unkept i.o3 (cc l.others) in
      let a3 = unkept_words 3 i.o3 u3 in
      let b3 = unkept_ids 3 i.o3 u3 in
      let u4 = nothing_unkept i.o4 (cc l.others) in
      let a4 = unkept_words 4 i.o4 u4 in
      let b4 = unkept_ids 4 i.o4 u4 in
      let z = l.size in
      let x = sum_of words_in [] (sync_part i.controls) [] in
      let y = sum_of ids_in [] (sync_part i.controls) [] in
      (omega arith, omega arith)

  fits : (m : Meaning) (null : Bool) → meaning_of Base i.code ≡ Some m → is_guarded (Some m) ≡ true → Fit m null
  fits LoadRaw false e h = load_raw e
  fits LoadStructured false e h = load_structured e
  fits StoreRaw false e h = store_raw e
  fits StoreStructured false e h = store_structured e
  fits Measures false e h = measures e
  fits (Acts kind) false e h = acts kind e
  fits Compares false e h = compares e
  fits (Fetches kind) false e h = fetches kind e
  fits Exchanges false e h = exchanges e
  fits Allocates false e h = allocates e
  fits Consumes false e h = consumes e
  fits LoadRaw true e h = null_load_raw e
  fits LoadStructured true e h = null_load_structured e
  fits StoreRaw true e h = null_store_raw e
  fits StoreStructured true e h = null_store_structured e
  fits Measures true e h = null_measures e
  fits (Acts kind) true e h = null_acts kind e
  fits Compares true e h = null_compares e
  fits (Fetches kind) true e h = null_fetches kind e
  fits Exchanges true e h = null_exchanges e
  fits Allocates true e h = null_allocates e
  fits Consumes true e h = null_consumes e
  fits Syncs null e h = syncs null e
  fits other null e h = absurd (cc h)

  by_meaning : (o : Option Meaning) (is_null' : Room → Bool) → meaning_of Base i.code ≡ o → is_guarded o ≡ true → Affords i.length
      (raised o is_null' p i)
  by_meaning None is_null' e h = absurd (false≢true h)
  by_meaning (Some m) is_null' e h =
      let f = fits m (is_null' (room_by m i)) e h in
      let a = costs.chained_words (statements (spaces_of p) i (work_by m (is_null' (room_by m i)) p i) (results m i)) in
      let b = costs.chained_ids (statements (spaces_of p) i (work_by m (is_null' (room_by m i)) p i) (results m i)) in
      let x = f.0 in let y = f.1 in record { words = omega arith; ids = omega arith }

  pub affords_all : (is_null' : Room → Bool) → Affords i.length (statement_of is_null' p i)
  unfolding statement_of
  affords_all is_null' = by_meaning (meaning_of Base i.code) is_null' refl able.guards
