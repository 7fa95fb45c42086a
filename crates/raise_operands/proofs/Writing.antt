-- What is written by a destination, and what a source still reads.
use Rattle.std.proofs.Common.{◌≡◌, ℕ, ◌+◌, ◌*◌, ◌%◌, ◌<◌, Bool, true, false, Option, Some, None, refl, sym, ap, subst, ◌∙◌, arith}
use Rattle.std.specs.Prelude.{nat_eq, nat_lt, if◌then◌else◌, ◌&&◌}
use Rattle.std.proofs.lemmas.Bool.{ltb-true, ltb-false, le-ltb, false≢true}
use Rattle.word_base.specs.Registers.{Registers}
use Rattle.word_base.specs.Settings.{Setting}
use Rattle.tpf_decode.specs.declared.argument.Argument.{Argument}
use Rattle.tpf_decode.specs.declared.argument.Kind.{Kind}
use Rattle.tpf_decode.specs.declared.argument.Kind.TheVariants as kind
use Rattle.tpf_program.specs.Program.{Shader}
use Rattle.tpf_program.specs.Values.{Context, context, named, index_of}
use Rattle.tpf_program.specs.Writes.{Target, InTemp, InElement, Nowhere, with_temp, with_element}
use Rattle.tpf_program.specs.Writes as tpf
use Rattle.shader_tree.specs.declared.node.Space.TheVariants.{Temps, Indexable}
use Rattle.shader_tree.specs.Lane.{with_word}
use Rattle.shader_tree.specs.Terms.{Term, Word, Write, Guard, Nothing}
use Rattle.shader_tree.specs.Values.{Spaces, Words, words, value, word, truth, size_of}
use Rattle.raise_operands.specs.Raises.{AreSmall}
use Rattle.raise_operands.specs.Raising.{target_by, write_by}
use Rattle.raise_operands.specs.Vectors.{Outside, At, Indexed, spaces_of, vector_of, vector_by, start_scratch, inside, word_of}
use Rattle.raise_operands.proofs.Basics.{quotient_of, rest_of}
use Rattle.raise_operands.proofs.Cells.{cell, Covers, outside, temp, element, indexed, past}
use Rattle.raise_operands.proofs.FoldingValues.{Lit}
use Rattle.raise_operands.specs.Runs.{Leads}
use Rattle.raise_operands.proofs.Leading.{leads_nothing, leads_write, leads_guard}
use Rattle.raise_operands.specs.Runs.{HoldsIndex, Finds}
use Rattle.raise_operands.proofs.Reading.{start_value, start_inside, inside_value}

-- the registers that the tree's lane writes are those of the target
temp_written : (r : Registers) (n c w : ℕ) → c < 4 → with_word r Temps (4 * n + c) w ≡ Some (with_temp r n c w)
temp_written r n c w l =
    ap (λ m. Some (record { temp = λ s d. if nat_eq s m && nat_eq d ((4 * n + c) % 4) then w else r.temp s d; indexable = r.indexable }))
    (quotient_of n c l)
    ∙ ap (λ e. Some (record { temp = λ s d. if nat_eq s n && nat_eq d e then w else r.temp s d; indexable = r.indexable })) (rest_of n c l)

element_written : (r : Registers) (slot n c w : ℕ) → c < 4 → with_word r (Indexable slot) (4 * n + c) w ≡ Some (with_element r slot n c w)
element_written r slot n c w l =
    ap (λ m. Some (record {
      temp = r.temp;
      indexable = λ x i d. if nat_eq x slot && (nat_eq i m && nat_eq d ((4 * n + c) % 4)) then w else r.indexable
          x i d;
    })) (quotient_of n c l)
    ∙ ap (λ e. Some (record { temp = r.temp; indexable = λ x i d. if nat_eq x slot && (nat_eq i n && nat_eq d e) then w else r.indexable x i d }))
    (rest_of n c l)

module _ (g : Spaces) (s : Setting) (t : Words) (small : AreSmall g) (k c w : ℕ) (v : Term) (below : c < 4) (is : value g s t v ≡ word w) where
  temp_leads : (b : Bool) (n : ℕ) → nat_lt n g.temps ≡ b
      → Leads g s (write_by (if b then At Temps n else Outside) g k c v) t
      (words t.scratch (tpf.with_word (if b then InTemp n else Nowhere) c w t.registers))
  temp_leads true n e =
      let l = ltb-true n g.temps e in
      leads_write g s t Temps (Word (4 * n + c)) v (4 * n + c) w _ refl is (omega arith) (temp_written t.registers n c w below)
  temp_leads false n e = leads_nothing g s t

  known_leads : (b : Bool) (slot n : ℕ) → nat_lt n (g.elements slot) ≡ b
      → Leads g s (write_by (if b then At (Indexable slot) n else Outside) g k c v) t
      (words t.scratch (tpf.with_word (if b then InElement slot n else Nowhere) c w t.registers))
  known_leads true slot n e =
      let l = ltb-true n (g.elements slot) e in
      leads_write g s t (Indexable slot) (Word (4 * n + c)) v (4 * n + c) w _ refl is (omega arith) (element_written t.registers slot n c w below)
  known_leads false slot n e = leads_nothing g s t

  kept_leads : (b : Bool) (slot index : ℕ) → nat_lt index (g.elements slot) ≡ b → HoldsIndex g (Indexable slot) k index t → 0 < g.elements slot
      → Leads g s (Guard (inside g k (Indexable slot)) (Write (Indexable slot) (word_of k c) v)) t
      (words t.scratch (tpf.with_word (if b then InElement slot index else Nowhere) c w t.registers))
  kept_leads b slot index e h p =
      leads_guard g s b t _ _ _ (inside_value g s t small (Indexable slot) k index h ∙ ap truth e)
      (λ q. let at : t.scratch (start_scratch k) ≡ 4 * index = h.start ∙ ap (λ x. 4 * (if x then index else 0)) (e ∙ q) in
      leads_write g s t (Indexable slot) (word_of k c) v (4 * index + c) w _ (start_value g s t small (Indexable slot) k index c h p below ∙ ap
      (λ m. word (m + c)) at) is
      (subst (λ m. m + c < size_of g (Indexable slot)) at (start_inside g s t small (Indexable slot) k index c h p below))
      (element_written t.registers slot index c w below ∙ ap (λ x. Some (tpf.with_word (if x then InElement slot index else Nowhere) c w t.registers))
      (sym q)))
      (λ q. ap (λ x. words t.scratch (tpf.with_word (if x then InElement slot index else Nowhere) c w t.registers)) (sym q))

  found_leads : (b : Bool) (slot index : ℕ) → nat_lt 0 (g.elements slot) ≡ b → Finds (if b then Indexed (Indexable slot) else Outside) g k index t
      → Leads g s (write_by (if b then Indexed (Indexable slot) else Outside) g k c v) t
      (words t.scratch (tpf.with_word (if nat_lt index (g.elements slot) then InElement slot index else Nowhere) c w t.registers))
  found_leads true slot index e h = kept_leads (nat_lt index (g.elements slot)) slot index refl h (ltb-true 0 (g.elements slot) e)
  found_leads false slot index e h =
      let none = ltb-false 0 (g.elements slot) e in
      subst (λ b. Leads g s Nothing t (words t.scratch (tpf.with_word (if b then InElement slot index else Nowhere) c w t.registers)))
      (sym (le-ltb index (g.elements slot) (omega arith))) (leads_nothing g s t)

  element_leads : (o : Option ℕ) (slot index : ℕ) → Lit o index → Finds (vector_of g (Indexable slot) o) g k index t
      → Leads g s (write_by (vector_of g (Indexable slot) o) g k c v) t
      (words t.scratch (tpf.with_word (if nat_lt index (g.elements slot) then InElement slot index else Nowhere) c w t.registers))
  element_leads (Some n) slot index e h =
      subst (λ m. Leads g s (write_by (vector_of g (Indexable slot) (Some n)) g k c v) t
      (words t.scratch (tpf.with_word (if nat_lt m (g.elements slot) then InElement slot m else Nowhere) c w t.registers))) e
      (known_leads (nat_lt n (g.elements slot)) slot n refl)
  element_leads None slot index e h = found_leads (nat_lt 0 (g.elements slot)) slot index refl h

-- A WRITE BY A DESTINATION
pub target_leads : (p : Shader) (s : Setting) (t : Words) (r : Registers) (small : AreSmall (spaces_of p)) (k c w : ℕ) (v : Term) (below : c < 4)
    (is : value (spaces_of p) s t v ≡ word w)
    → (kind : Kind) (a : Argument) (o : Option ℕ) → Lit o (index_of (context p s r) a)
    → Finds (target_by kind (vector_by kind (spaces_of p) a.slot o)) (spaces_of p) k (index_of (context p s r) a) t
    → Leads (spaces_of p) s (write_by (target_by kind (vector_by kind (spaces_of p) a.slot o)) (spaces_of p) k c v) t
    (words t.scratch (tpf.with_word (tpf.target_by kind (context p s r) a) c w t.registers))
target_leads p s t r small k c w v below is kind.Temp a o e h = temp_leads (spaces_of p) s t small k c w v below is
    (nat_lt a.slot (spaces_of p).temps) a.slot refl
target_leads p s t r small k c w v below is kind.Indexable a o e h = element_leads (spaces_of p) s t small k c w v below is o a.slot
    (index_of (context p s r) a) e h
target_leads p s t r small k c w v below is other a o e h = leads_nothing (spaces_of p) s t

-- THE TARGET that a vector stands for
temp_covers : (b : Bool) (n : ℕ) → Covers (if b then At Temps n else Outside) (if b then InTemp n else Nowhere)
temp_covers true n = temp
temp_covers false n = outside

known_covers : (b : Bool) (slot n : ℕ) → Covers (if b then At (Indexable slot) n else Outside) (if b then InElement slot n else Nowhere)
known_covers true slot n = element
known_covers false slot n = outside

found_covers : (b q : Bool) (slot n : ℕ) → (b ≡ false → q ≡ false) → Covers (if b then Indexed (Indexable slot) else Outside)
    (if q then InElement slot n else Nowhere)
found_covers true true slot n h = indexed
found_covers true false slot n h = past
found_covers false true slot n h = absurd (false≢true (sym (h refl)))
found_covers false false slot n h = outside

pub element_covers : (g : Spaces) (o : Option ℕ) (slot n : ℕ) → Lit o n → Covers (vector_of g (Indexable slot) o)
    (if nat_lt n (g.elements slot) then InElement slot n else Nowhere)
element_covers g (Some m) slot n e =
    subst (λ x. Covers (vector_of g (Indexable slot) (Some m)) (if nat_lt x (g.elements slot) then InElement slot x else Nowhere)) e
    (known_covers (nat_lt m (g.elements slot)) slot m)
element_covers g None slot n e =
    found_covers (nat_lt 0 (g.elements slot)) (nat_lt n (g.elements slot)) slot n (λ q. let none = ltb-false 0 (g.elements slot) q in
    le-ltb n (g.elements slot) (omega arith))

pub target_covers : (k : Context) (kind : Kind) (a : Argument) (o : Option ℕ) → Lit o (index_of k a)
    → Covers (target_by kind (vector_by kind (spaces_of k.program) a.slot o)) (tpf.target_by kind k a)
target_covers k kind.Temp a o e = temp_covers (nat_lt a.slot (spaces_of k.program).temps) a.slot
target_covers k kind.Indexable a o e = element_covers (spaces_of k.program) o a.slot (index_of k a) e
target_covers k other a o e = outside

-- WHAT A SOURCE READS is the word of its target, or no word of a register
temp_alike : (b : Bool) (n c : ℕ) (r q : Registers) → cell r (if b then InTemp n else Nowhere) c ≡ cell q (if b then InTemp n else Nowhere) c
    → (if b then r.temp n c else 0) ≡ (if b then q.temp n c else 0)
temp_alike true n c r q e = e
temp_alike false n c r q e = refl

element_alike : (b : Bool) (slot n c : ℕ) (r q : Registers) → cell r (if b then InElement slot n else Nowhere) c ≡ cell q
    (if b then InElement slot n else Nowhere) c
    → (if b then r.indexable slot n c else 0) ≡ (if b then q.indexable slot n c else 0)
element_alike true slot n c r q e = e
element_alike false slot n c r q e = refl

pub named_alike : (p : Shader) (s : Setting) (o r q : Registers) (kind : Kind) (a : Argument) (c : ℕ)
    → cell r (tpf.target_by kind (context p s o) a) c ≡ cell q (tpf.target_by kind (context p s o) a) c
    → named (context p s r) kind a.slot (index_of (context p s o) a) c ≡ named (context p s q) kind a.slot (index_of (context p s o) a) c
named_alike p s o r q kind.Temp a c e = temp_alike (nat_lt a.slot (spaces_of p).temps) a.slot c r q e
named_alike p s o r q kind.Indexable a c e =
    element_alike (nat_lt (index_of (context p s o) a) ((spaces_of p).elements a.slot)) a.slot (index_of (context p s o) a) c r q e
named_alike p s o r q other a c e = refl
