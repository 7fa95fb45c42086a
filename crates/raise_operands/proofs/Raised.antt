-- The statement of an instruction leaves what the instruction leaves.
use Rattle.std.proofs.Common.{◌≡◌, ℕ, true, List, [], ◌∷◌, ◌++◌, map, Option, Some, None, refl, ap, subst, ◌∙◌, arith}
use Rattle.std.proofs.lemmas.Bool.{false≢true}
use Rattle.word_base.specs.Registers.{Registers}
use Rattle.word_base.specs.Settings.{Setting, HoldsWords}
use Rattle.word_base.specs.Words.{AreWords}
use Rattle.tpf_decode.specs.Opcodes.{meaning_of}
use Rattle.tpf_decode.specs.Profiles.{Base}
use Rattle.tpf_decode.specs.declared.argument.Argument.{Argument}
use Rattle.tpf_decode.specs.declared.meaning.Meaning.{Meaning}
use Rattle.tpf_program.specs.Bytecode.{left_by, result, result_by}
use Rattle.tpf_program.specs.Holding.{HoldWords}
use Rattle.tpf_program.specs.declared.instruction.Instruction.{Instruction}
use Rattle.tpf_program.specs.Program.{Shader}
use Rattle.tpf_program.specs.Values.{Context, context, index_of, selected}
use Rattle.tpf_program.specs.Writes as writes
use Rattle.raise_operands.proofs.Cells.{cell}
use Rattle.tpf_program.specs.Values as tpf
use Rattle.shader_tree.specs.Plans.{Performs}
use Rattle.shader_tree.specs.Walks.{Each}
use Rattle.shader_tree.specs.Values.{Spaces, Words, words, value, word}
use Rattle.raise_operands.specs.Raises.{AreSmall, InRange, IsRaisable, IsScalar, Gives, is_computed}
use Rattle.word_base.specs.Lanes.{Goes}
use Rattle.shader_tree.specs.Chains.{push}
use Rattle.shader_tree.specs.Lane.{state, step}
use Rattle.raise_operands.specs.Raising.{indices, parts, now, behind, raised, raised_by, sources, source, statement_of, scalar_front, scalar_word}
use Rattle.raise_operands.specs.Vectors.{Vector, spaces_of, index_scratch, start_scratch, index_word, vector, keeps_index}
use Rattle.raise_operands.specs.Runs.{Ready}
use Rattle.raise_operands.specs.Raises.{AreInRange}
use Rattle.raise_operands.proofs.Computed.{moves, parts_are, left_is, ready_same, Sees, AreKnown}
use Rattle.raise_operands.proofs.Indices.{index_value, index_lit, kept_in, keeps_leads, keeps_finds, keeps_scratch, keeps_registers, finds_same}
use Rattle.raise_operands.specs.Runs.{Leads, LeadsAll}
use Rattle.raise_operands.proofs.Leading.{leads_all, leads_chained, performs}
use Rattle.raise_operands.proofs.Moves.{Move, all, now_all, behind_all, moves_lead, moved_registers}
use Rattle.raise_operands.proofs.Ordered.{all_good, own_scratch, not_read, commuting}
use Rattle.raise_operands.specs.Runs.{Finds}
use Rattle.raise_operands.proofs.Sources.{IsSame, source_value}

-- what is kept of one operand stays where that of another is kept
other_kept : (v w : Vector) (g : Spaces) (s : Setting) (small : AreSmall g) (k j index other : ℕ) (t : Words) → (k ≡ j → ⊥) → Finds v g k index t
    → Finds v g k index (kept_in w g j other t)
other_kept v w g s small k j index other t h f =
    finds_same v g k index t (kept_in w g j other t)
    (keeps_scratch g s small j w other t (index_scratch k) (λ e. h (omega arith)) (λ e. omega arith))
    (keeps_scratch g s small j w other t (start_scratch k) (λ e. omega arith) (λ e. h (omega arith))) f

module _ (p : Shader) (s : Setting) (o : Registers) (small : AreSmall (spaces_of p)) (in_p : AreWords p.constants) (in_s : HoldsWords s)
    (in_o : HoldWords o) where
  -- one index after the other
  abbrev kept_of : ℕ → Argument → Words → Words
  kept_of k a t = kept_in (vector (spaces_of p) a) (spaces_of p) k (index_of (context p s o) a) t

  one_leads : (k : ℕ) (a : Argument) → InRange a → (t : Words) → t.registers ≡ o → Leads (spaces_of p) s (keeps_index (spaces_of p) k a) t
      (kept_of k a t)
  one_leads k a h t e =
      keeps_leads (spaces_of p) s small k (vector (spaces_of p) a) (index_of (context p s o) a) (index_word (spaces_of p) a) t
      (ap (λ r. value (spaces_of p) s (words t.scratch r) (index_word (spaces_of p) a)) e ∙ index_value p s o small in_p in_s in_o t.scratch a h)

  one_registers : (k : ℕ) (a : Argument) (t : Words) → t.registers ≡ o → (kept_of k a t).registers ≡ o
  one_registers k a t e = keeps_registers (spaces_of p) s small k (vector (spaces_of p) a) (index_of (context p s o) a) t ∙ e

  one_finds : (k : ℕ) (a : Argument) (t : Words) → Finds (vector (spaces_of p) a) (spaces_of p) k (index_of (context p s o) a) (kept_of k a t)
  one_finds k a t = keeps_finds (spaces_of p) s small k (vector (spaces_of p) a) (index_of (context p s o) a) t

  on : (v : Vector) (k j index : ℕ) (a : Argument) (t : Words) → (k ≡ j → ⊥) → Finds v (spaces_of p) k index t → Finds v (spaces_of p) k index
      (kept_of j a t)
  on v k j index a t h f = other_kept v (vector (spaces_of p) a) (spaces_of p) s small k j index (index_of (context p s o) a) t h f

  module _ (i : Instruction) (range : AreInRange i) where
    known : AreKnown (context p s o) i
    known = record {
      o0 = index_lit p s o small in_p in_s in_o i.o0 range.o0;
      o1 = index_lit p s o small in_p in_s in_o i.o1 range.o1;
      o2 = index_lit p s o small in_p in_s in_o i.o2 range.o2;
      o3 = index_lit p s o small in_p in_s in_o i.o3 range.o3;
      o4 = index_lit p s o small in_p in_s in_o i.o4 range.o4;
    }

    abbrev pub after : Words → Words
    after t = kept_of 4 i.o4 (kept_of 3 i.o3 (kept_of 2 i.o2 (kept_of 1 i.o1 (kept_of 0 i.o0 t))))

    pub indices_lead : (t : Words) → t.registers ≡ o → LeadsAll (spaces_of p) s (indices (spaces_of p) i) t (after t)
    indices_lead t e =
        let t0 = kept_of 0 i.o0 t in
        let t1 = kept_of 1 i.o1 t0 in
        let t2 = kept_of 2 i.o2 t1 in
        let t3 = kept_of 3 i.o3 t2 in
        let t4 = kept_of 4 i.o4 t3 in
        let e0 = one_registers 0 i.o0 t e in
        let e1 = one_registers 1 i.o1 t0 e0 in
        let e2 = one_registers 2 i.o2 t1 e1 in
        let e3 = one_registers 3 i.o3 t2 e2 in (
          t0,
          one_leads 0 i.o0 range.o0 t e,
          (
            t1,
            one_leads 1 i.o1 range.o1 t0 e0,
            (
              t2,
              one_leads 2 i.o2 range.o2 t1 e1,
              (t3, one_leads 3 i.o3 range.o3 t2 e2, (t4, one_leads 4 i.o4 range.o4 t3 e3, refl)),
            ),
          ),
        )

    pub after_registers : (t : Words) → t.registers ≡ o → (after t).registers ≡ o
    after_registers t e = one_registers 4 i.o4 _ (one_registers 3 i.o3 _ (one_registers 2 i.o2 _ (one_registers 1 i.o1 _ (one_registers 0 i.o0 t e))))

    pub ready : (t : Words) → Ready (context p s o) i (after t)
    ready t = record {
      o0 = on _ 0 4 _ i.o4 _ (λ e. omega arith)
          (on _ 0 3 _ i.o3 _ (λ e. omega arith) (on _ 0 2 _ i.o2 _ (λ e. omega arith) (on _ 0 1 _ i.o1 _ (λ e. omega arith) (one_finds 0 i.o0 t))));
      o1 = on _ 1 4 _ i.o4 _ (λ e. omega arith) (on _ 1 3 _ i.o3 _ (λ e. omega arith) (on _ 1 2 _ i.o2 _ (λ e. omega arith) (one_finds 1 i.o1 _)));
      o2 = on _ 2 4 _ i.o4 _ (λ e. omega arith) (on _ 2 3 _ i.o3 _ (λ e. omega arith) (one_finds 2 i.o2 _));
      o3 = on _ 3 4 _ i.o4 _ (λ e. omega arith) (one_finds 3 i.o3 _);
      o4 = one_finds 4 i.o4 _;
    }

    same_all : (r : Registers) → r ≡ o → (as' : List Argument) (c : ℕ) → Each (λ a. IsSame (context p s o) r a c) as'
    same_all r e [] c = tt
    same_all r e (a ∷ as') c = (ap (λ x. cell x (writes.target (context p s o) a) (selected a.select c)) e, same_all r e as' c)

    seen : (m : Meaning) (r : Registers) → r ≡ o → (ms : List Move) → Each (λ n. Sees m (context p s o) i n r) ms
    seen m r e [] = tt
    seen m r e (n ∷ ms) = (same_all r e (sources m i) n.part.component, seen m r e ms)

    left : (m : Meaning) (t : Words) → Words
    left m t = behind_all (moves m (context p s o) i) (now_all (moves m (context p s o) i) t)

    components_lead : (m : Meaning) (t : Words) → t.registers ≡ o → Ready (context p s o) i t
        → LeadsAll (spaces_of p) s (map (now (spaces_of p)) (parts m (spaces_of p) i) ++ map (behind (spaces_of p)) (parts m (spaces_of p) i)) t
        (behind_all (moves m (context p s o) i) (now_all (moves m (context p s o) i) t))
    components_lead m t e h =
        subst (λ ps. LeadsAll (spaces_of p) s (map (now (spaces_of p)) ps ++ map (behind (spaces_of p)) ps) t
        (behind_all (moves m (context p s o) i) (now_all (moves m (context p s o) i) t))) (parts_are m (context p s o) i)
        (moves_lead (spaces_of p) s (Ready (context p s o) i) (ready_same (context p s o) i) (Sees m (context p s o) i) (moves m (context p s o) i)
        (all_good p s o i small range known m) (not_read p s o i small range known m) (own_scratch p s o i small range known m) t h
        (seen m t.registers e (moves m (context p s o) i)))

    pub raised_performs : (m : Meaning) → is_computed (Some m) ≡ true → Performs (spaces_of p) s (raised_by m (spaces_of p) i) o []
        (λ answers. left_by (context p s o) m i [])
    raised_performs m h =
        performs (spaces_of p) s (raised_by m (spaces_of p) i) o (left_by (context p s o) m i [])
        (λ scratch.
        let t = words scratch o in
        let u = after t in
        let e = after_registers t refl in (
          behind_all (moves m (context p s o) i) (now_all (moves m (context p s o) i) u),
          leads_chained (spaces_of p) s (indices (spaces_of p) i ++ (map (now (spaces_of p)) (parts m (spaces_of p) i) ++ map (behind (spaces_of p))
              (parts m (spaces_of p) i))) t
              (behind_all (moves m (context p s o) i) (now_all (moves m (context p s o) i) u))
              (leads_all (spaces_of p) s (indices (spaces_of p) i) _ t u _ (indices_lead t refl) (components_lead m u e (ready t))),
          moved_registers (moves m (context p s o) i) (commuting p s o i small range known m) u ∙ (ap (all (moves m (context p s o) i)) e ∙ left_is m
              (context p s o) i h),
        ))

in_range : (p : Shader) (i : Instruction) → IsRaisable p i → AreInRange i
in_range p i h = record { o0 = h.o0; o1 = h.o1; o2 = h.o2; o3 = h.o3; o4 = h.o4 }

by_meaning : (p : Shader) (s : Setting) (o : Registers) (i : Instruction) → AreSmall (spaces_of p) → AreWords p.constants → HoldsWords s → HoldWords o
    → AreInRange i → (m : Option Meaning) → is_computed m ≡ true
    → Performs (spaces_of p) s (raised (spaces_of p) m i) o [] (λ answers. result_by (context p s o) m i [])
by_meaning p s o i small in_p in_s in_o range None h = absurd (false≢true h)
by_meaning p s o i small in_p in_s in_o range (Some m) h = raised_performs p s o small in_p in_s in_o i range m h

-- THE STATEMENT OF AN INSTRUCTION
pub performs_all : (p : Shader) (i : Instruction) → IsRaisable p i → (s : Setting) (o : Registers) → HoldsWords s → HoldWords o
    → Performs (spaces_of p) s (statement_of p i) o [] (λ answers. result Base p s o i [])
unfolding statement_of
performs_all p i h s o in_s in_o = by_meaning p s o i h.spaces h.words in_s in_o (in_range p i h) (meaning_of Base i.code) h.computes

-- THE NUMBER THAT CONTROL FLOW READS
pub scalar_gives : (p : Shader) (i : Instruction) → IsScalar p i → (s : Setting) (o : Registers) → HoldsWords s → HoldWords o
    → Gives (spaces_of p) s (scalar_front p i) (scalar_word p i) o (tpf.scalar (context p s o) i.o0)
unfolding scalar_front scalar_word
scalar_gives p i h s o in_s in_o k scratch turns =
    let t = words scratch o in
    let u = kept_in (vector (spaces_of p) i.o0) (spaces_of p) 0 (index_of (context p s o) i.o0) t in
    let x = one_leads p s o h.spaces h.words in_s in_o 0 i.o0 h.o0 t refl k turns in
    let e : u.registers ≡ o = one_registers p s o h.spaces h.words in_s in_o 0 i.o0 t refl in
    let v = source_value p s o u h.spaces 0 i.o0 0 h.o0 (omega arith) (index_lit p s o h.spaces h.words in_s in_o i.o0 h.o0)
    (one_finds p s o h.spaces h.words in_s in_o 0 i.o0 t)
    (ap (λ r. cell r (writes.target (context p s o) i.o0) (selected i.o0.select 0)) e) in (
      x.0,
      u.scratch,
      subst (λ r. Goes (step (spaces_of p) s) x.0 (state (push (keeps_index (spaces_of p) 0 i.o0) k) t turns) (state k (words u.scratch r) turns)) e
          x.1,
      subst (λ r. value (spaces_of p) s (words u.scratch r) (source (spaces_of p) 0 i.o0 0) ≡ word (tpf.scalar (context p s o) i.o0)) e v,
    )
