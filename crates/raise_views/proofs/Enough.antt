-- The nodes of a guarded instruction's statement are at most 16 for each of its words, less two: what its operands
-- begin with, its work, and one for a statement that does nothing.
use Rattle.std.proofs.Common.{◌≡◌, ℕ, ◌+◌, ◌*◌, ◌≤◌, Bool, true, false, List, Option, Some, None, refl, sym, ap, subst, arith}
use Rattle.std.specs.Prelude.{◌||◌, if◌then◌else◌, drop, sum_by}
use Rattle.std.proofs.lemmas.Bool.{false≢true}
use Rattle.tpf_decode.specs.Opcodes.{meaning_of}
use Rattle.tpf_decode.specs.Profiles.{Base}
use Rattle.tpf_decode.specs.Roles.{is_null, is_register}
use Rattle.tpf_decode.specs.declared.argument.Argument.{Argument}
use Rattle.tpf_decode.specs.declared.argument.Kind.{Kind}
use Rattle.tpf_decode.specs.declared.argument.Kind.TheVariants as kind
use Rattle.tpf_decode.specs.declared.argument.Relative.{Relative}
use Rattle.tpf_decode.specs.declared.meaning.Meaning.{Meaning}
use Rattle.tpf_decode.specs.declared.meaning.Meaning.TheVariants.{LoadRaw, LoadStructured, StoreRaw, StoreStructured, Measures, Acts, Compares, Fetches, Exchanges, Allocates, Consumes, Syncs}
use Rattle.tpf_program.specs.Program.{Shader}
use Rattle.tpf_program.specs.Spelling.{nothing, nothings, operands}
use Rattle.tpf_program.specs.declared.instruction.Instruction.{Instruction}
use Rattle.shader_tree.specs.declared.node.Node.{Node}
use Rattle.shader_tree.specs.Values.{Spaces}
use Rattle.raise_operands.specs.declared.operand.Operand.{Operand}
use Rattle.raise_operands.specs.declared.operand.Operands.{Operands}
use Rattle.raise_operands.specs.Building.{AreOperands, IsOperandOf, begin_nodes, begun_nodes, indexed_by, indexed_by_kind, known_target, operands_nodes, source_nodes}
use Rattle.raise_operands.specs.Laws.{CountLaws, writes_nodes}
use Rattle.raise_operands.specs.Raises.{IsLong, arity, least_by, least_words}
use Rattle.raise_operands.specs.Vectors.{spaces_of}
use Rattle.raise_views.specs.declared.address.Way.{Way}
use Rattle.raise_views.specs.declared.address.Way.TheVariants.{Structures}
use Rattle.raise_views.specs.declared.writing.Given.{Given}
use Rattle.raise_views.specs.Counting.{given_most, load_nodes, work_nodes}
use Rattle.raise_views.specs.Giving.{given_nodes}
use Rattle.raise_views.specs.Guarding.{at_of, is_guarded}
use Rattle.raise_views.specs.Guards.{IsGuardable}
use Rattle.raise_views.specs.Making.{more}
use Rattle.raise_views.proofs.Rooms.{is_view, read_view, types, written_of, written_view}

-- the indices of operands, of which those that an instruction has not have none
abbrev index_nodes : List Argument → ℕ
index_nodes xs = sum_by (λ a. begun_nodes (indexed_by a)) xs

no_others : (m : Meaning) (i : Instruction) → IsLong (Some m) i
    → index_nodes (drop (arity (Some m)) (operands i)) ≡ index_nodes (drop (arity (Some m)) nothings)
no_others m i l = ap index_nodes l.others

-- a view has no index, and two words
view_by : (k : Kind) (r : Option Relative) → is_view k ≡ true → begun_nodes (indexed_by_kind k r) + 32 ≤ 16 * least_by k r
view_by kind.Resource r h = omega arith
view_by kind.Uav r h = omega arith
view_by kind.Shared r h = omega arith
view_by other r h = absurd (false≢true h)

least_more : (n : Bool) (k : ℕ) → k ≤ (if n then 1 + k else k)
least_more true k = omega arith
least_more false k = omega arith

view_of : (a : Argument) → is_view a.kind ≡ true → begun_nodes (indexed_by a) + 32 ≤ 16 * least_words a
view_of a h = omega (arith, view_by a.kind a.relative h, least_more a.negate (least_by a.kind a.relative))

begin_least : (r : Option Relative) → begin_nodes r None ≤ begun_nodes r
begin_least None = omega arith
begin_least (Some r) = omega arith

first_view : (a : Argument) → is_view a.kind ≡ true → begin_nodes (indexed_by a) None + 32 ≤ 16 * least_words a
first_view a h = omega (arith, view_of a h, begin_least (indexed_by a))

-- a destination with its loads, of which the null operand has none
loaded_by : (k : Kind) (begun writes least loads : ℕ) → is_register k || is_null k ≡ true → 4 ≤ loads → begun + writes + 16 ≤ least
    → (is_register k ≡ true → begun + writes + 20 ≤ least) → begun + load_nodes k loads + writes + 20 ≤ least + loads
loaded_by kind.Null b w l n h f d r = omega (arith, f, d)
loaded_by kind.Temp b w l n h f d r = omega (arith, r refl)
loaded_by kind.Indexable b w l n h f d r = omega (arith, r refl)
loaded_by other b w l n h f d r = absurd (false≢true h)

-- the first operand, by its kind as it is begun
abbrev Loads : Argument → Operand → ℕ → Kind → Type 0
Loads a o loads k =
    begin_nodes (indexed_by a) None + load_nodes k loads + writes_nodes (known_target o) + 20 ≤ 16 * least_words a + loads

loaded : (n : CountLaws) (nodes : List Node) (g : Spaces) (a : Argument) (o : Operand) (loads : ℕ) → IsOperandOf nodes g 0 a o
    → is_register a.kind || is_null a.kind ≡ true → 4 ≤ loads → Loads a o loads o.argument.kind
loaded n nodes g a o loads r h f =
    let P : Argument → Type 0 = λ b. Loads a o loads b.kind in
    subst P (sym r.argument)
    (loaded_by a.kind (begin_nodes (indexed_by a) None) (writes_nodes (known_target o)) (16 * least_words a) loads h f (n.dest_once nodes g a o r)
    (n.register_once nodes g a o r))

more_most : (way : Way) → more way ≤ 5
more_most (Structures words) = omega arith
more_most other = omega arith

-- its words pay for the nodes of an instruction
abbrev Pays : Shader → Meaning → Operands → Given → Instruction → Type 0
Pays p m os given i = operands_nodes i + work_nodes m (at_of m p i).way given os + 3 ≤ 16 * i.length

module _ (n : CountLaws) (p : Shader) (nodes : List Node) (os : Operands) (begun : AreOperands nodes (spaces_of p) os)
    (able : IsGuardable p os.instruction) (given : Given) where
  abbrev it : Instruction
  it = os.instruction

  -- its sources take what its operands take as they are begun
  s1 : source_nodes os.o1.argument ≡ source_nodes it.o1
  s1 = ap source_nodes begun.o1.argument

  s2 : source_nodes os.o2.argument ≡ source_nodes it.o2
  s2 = ap source_nodes begun.o2.argument

  s3 : source_nodes os.o3.argument ≡ source_nodes it.o3
  s3 = ap source_nodes begun.o3.argument

  s4 : source_nodes os.o4.argument ≡ source_nodes it.o4
  s4 = ap source_nodes begun.o4.argument

  -- and so does its destination
  to : begin_nodes (indexed_by it.o0) None + writes_nodes (known_target os.o0) + 16 ≤ 16 * least_words it.o0
  to = n.dest_once nodes (spaces_of p) it.o0 os.o0 begun.o0

  by_meaning : (m : Meaning) → meaning_of Base it.code ≡ Some m → is_guarded (Some m) ≡ true → IsLong (Some m) it
      → given_nodes given ≤ given_most m → Pays p m os given it
  by_meaning LoadRaw e h l f =
      let t = types p it able LoadRaw e in
      let d = loaded n nodes (spaces_of p) it.o0 os.o0 56 begun.o0 t.0 (omega arith) in
      let v = view_of it.o2 (read_view it.code it.o2.kind t.1.1.0) in
      omega (arith, no_others LoadRaw it l, d, v, s1, n.once it.o1, l.size, f)
  by_meaning LoadStructured e h l f =
      let t = types p it able LoadStructured e in
      let d = loaded n nodes (spaces_of p) it.o0 os.o0 76 begun.o0 t.0 (omega arith) in
      let v = view_of it.o3 (read_view it.code it.o3.kind t.1.1.1.0) in
      omega (arith, no_others LoadStructured it l, d, v, s1, s2, n.once it.o1, n.once it.o2, l.size, f)
  by_meaning StoreRaw e h l f =
      let v = first_view it.o0 (written_view it.o0.kind (written_of p it able StoreRaw e refl)) in
      omega (arith, no_others StoreRaw it l, v, s1, s2, n.once it.o1, n.source it.o2, l.size)
  by_meaning StoreStructured e h l f =
      let v = first_view it.o0 (written_view it.o0.kind (written_of p it able StoreStructured e refl)) in
      omega (arith, no_others StoreStructured it l, v, s1, s2, s3, n.once it.o1, n.once it.o2, n.source it.o3, l.size)
  by_meaning Measures e h l f = omega (arith, no_others Measures it l, to, s1, n.once it.o1, l.size, f)
  by_meaning (Acts kind) e h l f =
      let w = more_most (at_of (Acts kind) p it).way in
      omega (arith, no_others (Acts kind) it l, w, s1, s2, n.first it.o0, n.source it.o1, n.once it.o2, l.size)
  by_meaning Compares e h l f =
      let w = more_most (at_of Compares p it).way in
      omega (arith, no_others Compares it l, w, s1, s2, s3, n.first it.o0, n.source it.o1, n.once it.o2, n.once it.o3, l.size)
  by_meaning (Fetches kind) e h l f =
      let w = more_most (at_of (Fetches kind) p it).way in
      omega (arith, no_others (Fetches kind) it l, w, to, s2, s3, n.begun it.o1, n.source it.o2, n.once it.o3, l.size, f)
  by_meaning Exchanges e h l f =
      let w = more_most (at_of Exchanges p it).way in
      omega (arith, w, to, s2, s3, s4, n.begun it.o1, n.source it.o2, n.once it.o3, n.once it.o4, l.size, f)
  by_meaning Allocates e h l f = omega (arith, no_others Allocates it l, to, s1, n.once it.o1, l.size, f)
  by_meaning Consumes e h l f = omega (arith, no_others Consumes it l, to, s1, n.once it.o1, l.size, f)
  by_meaning Syncs e h l f =
      let none : it.o1 ≡ nothing = cc (l.others) in
      let two = ap source_nodes none in
      omega (arith, no_others Syncs it l, begin_least (indexed_by it.o0), s1, two, l.size)
  by_meaning other e h l f = absurd (false≢true h)

-- THE BUDGET. One node is for a statement that does nothing where there is no other, and two of 16 a word stay free.
pub enough : (n : CountLaws) (p : Shader) (i : Instruction) (m : Meaning) → IsGuardable p i → meaning_of Base i.code ≡ Some m
    → (nodes : List Node) (os : Operands) → AreOperands nodes (spaces_of p) os → os.instruction ≡ i
    → (given : Given) → given_nodes given ≤ given_most m
    → operands_nodes i + work_nodes m (at_of m p i).way given os + 3 ≤ 16 * i.length
enough n p i m able means nodes os begun same given few =
    let P : Instruction → Type 0 = λ x. IsGuardable p x → meaning_of Base x.code ≡ Some m → Pays p m os given x in
    subst P same
    (λ able means. by_meaning n p nodes os begun able given m means (subst (λ o. is_guarded o ≡ true) means able.guards)
    (subst (λ o. IsLong o os.instruction) means able.there.long) few)
    able means
