-- The components of an instruction in their order: none overwrites what a later one reads, unless it waits.
use Rattle.std.proofs.Common.{◌≡◌, ℕ, ◌<◌, Bool, true, false, List, [], ◌∷◌, ◌++◌, map, Option, refl, sym, ap, subst, ◌∙◌, ⊎_elim, arith}
use Rattle.std.specs.Prelude.{nat_eq, nat_lt, if◌then◌else◌, ◌&&◌}
use Rattle.std.proofs.lemmas.Bool.{false≢true, lt-ltb, ne_eqb, and_right, or_parts, cases_eq}
use Rattle.word_base.specs.Registers.{Registers}
use Rattle.word_base.specs.Settings.{Setting}
use Rattle.tpf_decode.specs.declared.argument.Argument.{Argument}
use Rattle.tpf_decode.specs.declared.argument.Kind.{Kind}
use Rattle.tpf_decode.specs.declared.argument.Kind.TheVariants as kind
use Rattle.tpf_decode.specs.declared.meaning.Meaning.{Meaning}
use Rattle.tpf_decode.specs.declared.meaning.Meaning.TheVariants.{One, Two, Three, Inserts, Pair, Swaps}
use Rattle.tpf_program.specs.declared.instruction.Instruction.{Instruction}
use Rattle.tpf_program.specs.Program.{Shader}
use Rattle.tpf_program.specs.Values.{Context, context, index_of, selected}
use Rattle.tpf_program.specs.Writes.{Target, InTemp, InElement, Nowhere, with_word, in_mask}
use Rattle.tpf_program.specs.Writes as writes
use Rattle.shader_tree.specs.Walks.{Each}
use Rattle.raise_operands.specs.Folding.{literal}
use Rattle.raise_operands.specs.Raises.{AreSmall}
use Rattle.raise_operands.specs.Raising.{sources, first_written, second_written, first_waits, second_waits, is_behind, reads, reads_at, above, target}
use Rattle.raise_operands.specs.Vectors.{Vector, spaces_of, index_word, vector, vector_by, meets}
use Rattle.raise_operands.proofs.Basics.{Pairs, In, each_append, each_map, each_from, each_in, of_each, pairs_append, pairs_map, pairs_in, none_in, in_left, in_right, in_filter}
use Rattle.raise_operands.proofs.Cells.{same_cell, unchanged, Covers, apart}
use Rattle.raise_operands.specs.Runs.{Ready}
use Rattle.raise_operands.specs.Raises.{AreInRange}
use Rattle.raise_operands.proofs.Computed.{first_move, second_move, moves, first_components, second_components, first_mask, first_evaluates, second_evaluates, Sees, AreKnown}
use Rattle.raise_operands.proofs.FoldingValues.{Lit}
use Rattle.raise_operands.proofs.Indices.{target_finds}
use Rattle.raise_operands.proofs.Moves.{Move, Commutes, OtherScratch, Good, Unread}
use Rattle.raise_operands.proofs.Sources.{IsSame}
use Rattle.raise_operands.proofs.Writing.{target_leads, target_covers}

-- different components are different words
other_component : (one other : Target) (c d : ℕ) → (c ≡ d → ⊥) → same_cell one c other d ≡ false
other_component (InTemp n) (InTemp m) c d h = and_right (nat_eq n m) (nat_eq c d) (ne_eqb c d h)
other_component (InTemp n) (InElement z m) c d h = refl
other_component (InTemp n) Nowhere c d h = refl
other_component (InElement s n) (InTemp m) c d h = refl
other_component (InElement s n) (InElement z m) c d h = and_right (nat_eq s z) _ (and_right (nat_eq n m) (nat_eq c d) (ne_eqb c d h))
other_component (InElement s n) Nowhere c d h = refl
other_component Nowhere other c d h = refl

nowhere_apart : (one : Target) (c d : ℕ) → same_cell one c Nowhere d ≡ false
nowhere_apart (InTemp n) c d = refl
nowhere_apart (InElement s n) c d = refl
nowhere_apart Nowhere c d = refl

both_false : (b q : Bool) → (if b then true else q) ≡ false → (b ≡ false) × (q ≡ false)
both_false true q e = absurd (false≢true (sym e))
both_false false q e = (refl, e)

third_false : (a b q : Bool) → a ≡ true → b ≡ true → (a && (b && q)) ≡ false → q ≡ false
third_false a b q e f h = sym (ap (λ x. x && (b && q)) e ∙ ap (λ x. x && q) f) ∙ h

IsKnown : Context → Argument → Type 0
IsKnown k a = Lit (literal (index_word (spaces_of k.program) a)) (index_of k a)

module _ (k : Context) where
  -- A source that does not meet a destination is read as before.
  met_apart : (kind : Kind) (a : Argument) (o : Option ℕ) {v : Vector} {one : Target} (c d : ℕ) → Lit o (index_of k a) → Covers v one
      → meets v c (vector_by kind (spaces_of k.program) a.slot o) d ≡ false
      → same_cell one c (writes.target_by kind k a) d ≡ false
  met_apart kind.Temp a o c d e f h = apart f (target_covers k kind.Temp a o e) c d h
  met_apart kind.Indexable a o c d e f h = apart f (target_covers k kind.Indexable a o e) c d h
  met_apart other a o {one = one} c d e f h = nowhere_apart one c d

  module _ (to : Argument) (to_known : Lit (literal (index_word (spaces_of k.program) to)) (index_of k to)) (c d x : ℕ) (r : Registers) where
    one_unread : (a : Argument) → Lit (literal (index_word (spaces_of k.program) a)) (index_of k a) → meets (target (spaces_of k.program) to) c
        (vector (spaces_of k.program) a) (selected a.select d) ≡ false
        → IsSame k r a d → IsSame k (with_word (writes.target k to) c x r) a d
    one_unread a e h l =
        unchanged (writes.target k to) (writes.target k a) c (selected a.select d) x r
        (met_apart a.kind a (literal (index_word (spaces_of k.program) a)) c (selected a.select d) e
        (target_covers k to.kind to (literal (index_word (spaces_of k.program) to)) to_known) h)
        ∙ l

    all_unread : (as' : List Argument) → Each (λ a. Lit (literal (index_word (spaces_of k.program) a)) (index_of k a)) as'
        → reads_at (spaces_of k.program) as' (target (spaces_of k.program) to) c d ≡ false
        → Each (λ a. IsSame k r a d) as' → Each (λ a. IsSame k (with_word (writes.target k to) c x r) a d) as'
    all_unread [] e h l = tt
    all_unread (a ∷ as') e h l =
        let q = or_parts (meets (target (spaces_of k.program) to) c (vector (spaces_of k.program) a) (selected a.select d))
        (reads_at (spaces_of k.program) as' (target (spaces_of k.program) to) c d) h in
        (one_unread a e.0 q.0 l.0, all_unread as' e.1 q.1 l.1)

known_sources : (k : Context) (i : Instruction) → AreKnown k i → (m : Meaning)
    → Each (λ a. Lit (literal (index_word (spaces_of k.program) a)) (index_of k a)) (sources m i)
known_sources k i h (One op) = (h.o1, tt)
known_sources k i h (Two op) = (h.o1, (h.o2, tt))
known_sources k i h (Three op) = (h.o1, (h.o2, (h.o3, tt)))
known_sources k i h Inserts = (h.o1, (h.o2, (h.o3, (h.o4, tt))))
known_sources k i h (Pair op) = (h.o2, (h.o3, tt))
known_sources k i h Swaps = (h.o2, (h.o3, (h.o4, tt)))
known_sources k i h other = tt

module _ (p : Shader) (s : Setting) (o : Registers) (i : Instruction) (small : AreSmall (spaces_of p)) (range : AreInRange i)
    (known : AreKnown (context p s o) i) (m : Meaning) where
  first_good : (c : ℕ) → c < 4 → Good (spaces_of p) s (Ready (context p s o) i) (Sees m (context p s o) i) (first_move m (context p s o) i c)
  first_good c l = record {
    high = omega arith;
    writes = λ t v ready is.
        target_leads p s t o small 0 c _ v l is i.o0.kind i.o0 (literal (index_word (spaces_of p) i.o0)) known.o0
        (target_finds i.o0.kind (vector (spaces_of p) i.o0) (spaces_of p) 0 _ t ready.o0);
    evaluates = λ t ready h. first_evaluates p s o i small range known t ready c l m h;
  }

  second_good : (c : ℕ) → c < 4 → Good (spaces_of p) s (Ready (context p s o) i) (Sees m (context p s o) i) (second_move m (context p s o) i c)
  second_good c l = record {
    high = omega arith;
    writes = λ t v ready is.
        target_leads p s t o small 1 c _ v l is i.o1.kind i.o1 (literal (index_word (spaces_of p) i.o1)) known.o1
        (target_finds i.o1.kind (vector (spaces_of p) i.o1) (spaces_of p) 1 _ t ready.o1);
    evaluates = λ t ready h. second_evaluates p s o i small range known t ready c l m h;
  }

  pub all_good : Each (Good (spaces_of p) s (Ready (context p s o) i) (Sees m (context p s o) i)) (moves m (context p s o) i)
  all_good =
      each_append _ (map (first_move m (context p s o) i) (first_written m i)) (map (second_move m (context p s o) i) (second_written m i))
      (each_map _ (first_move m (context p s o) i) (first_written m i) (each_from _ _ (first_written m i) first_good (first_components m i).1))
      (each_map _ (second_move m (context p s o) i) (second_written m i) (each_from _ _ (second_written m i) second_good (second_components m i).1))

  -- what holds of two components holds of all
  pairs_of : (R : Move → Move → Type 0)
      → ((c d : ℕ) → In c (first_written m i) → In d (first_written m i) → c < d → R (first_move m (context p s o) i c)
      (first_move m (context p s o) i d))
      → ((c d : ℕ) → In c (second_written m i) → In d (second_written m i) → c < d → R (second_move m (context p s o) i c)
      (second_move m (context p s o) i d))
      → ((c d : ℕ) → In c (first_written m i) → In d (second_written m i) → R (first_move m (context p s o) i c) (second_move m (context p s o) i d))
      → Pairs R (moves m (context p s o) i)
  pairs_of R f g h =
      pairs_append R (map (first_move m (context p s o) i) (first_written m i)) (map (second_move m (context p s o) i) (second_written m i))
      (pairs_map R (first_move m (context p s o) i) (first_written m i) (pairs_in _ (first_written m i) (first_components m i).0 f))
      (pairs_map R (second_move m (context p s o) i) (second_written m i) (pairs_in _ (second_written m i) (second_components m i).0 g))
      (each_map _ (first_move m (context p s o) i) (first_written m i)
      (each_in _ (first_written m i) (λ c in_c.
      each_map _ (second_move m (context p s o) i) (second_written m i) (each_in _ (second_written m i) (λ d in_d. h c d in_c in_d)))))

  pub own_scratch : Pairs OtherScratch (moves m (context p s o) i)
  own_scratch =
      pairs_of OtherScratch (λ c d j k l e. omega arith) (λ c d j k l e. omega arith)
      (λ c d j k e. let b = of_each (λ x. x < 4) (first_written m i) c j (first_components m i).1 in omega arith)

  pub not_read : Pairs (Unread (Sees m (context p s o) i)) (moves m (context p s o) i)
  not_read =
      pairs_of (Unread (Sees m (context p s o) i))
      (λ c d j k l w r h.
      all_unread (context p s o) i.o0 known.o0 c d _ r (sources m i) (known_sources (context p s o) i known m)
      (none_in (reads_at (spaces_of p) (sources m i) (target (spaces_of p) i.o0) c) (above c (first_written m i) ++ second_written m i) d
      (in_left (above c (first_written m i)) (second_written m i) d (in_filter (λ e. nat_lt c e) (first_written m i) d k (lt-ltb c d l))) w) h)
      (λ c d j k l w r h.
      all_unread (context p s o) i.o1 known.o1 c d _ r (sources m i) (known_sources (context p s o) i known m)
      (none_in (reads_at (spaces_of p) (sources m i) (target (spaces_of p) i.o1) c) (above c (second_written m i)) d
      (in_filter (λ e. nat_lt c e) (second_written m i) d k (lt-ltb c d l))
      (both_false (reads (spaces_of p) (sources m i) (target (spaces_of p) i.o1) c (above c (second_written m i))) (is_behind m (spaces_of p) i c)
      w).0) h)
      (λ c d j k w r h.
      all_unread (context p s o) i.o0 known.o0 c d _ r (sources m i) (known_sources (context p s o) i known m)
      (none_in (reads_at (spaces_of p) (sources m i) (target (spaces_of p) i.o0) c) (above c (first_written m i) ++ second_written m i) d
      (in_right (above c (first_written m i)) (second_written m i) d k) w) h)

  -- one that waits, and one of the second destination that does not
  behind_first : (c d : ℕ) → In c (first_written m i) → first_waits m (spaces_of p) i c ≡ true → second_waits m (spaces_of p) i d ≡ false
      → same_cell (writes.target (context p s o) i.o0) c (writes.target (context p s o) i.o1) d ≡ false
  behind_first c d j w v =
      ⊎_elim
      (λ e. let f = (both_false (reads (spaces_of p) (sources m i) (target (spaces_of p) i.o1) d (above d (second_written m i)))
      (is_behind m (spaces_of p) i d) v).1 in
      let g : is_behind m (spaces_of p) i c ≡ false = ap (is_behind m (spaces_of p) i) e ∙ f in
      subst (λ x. same_cell (writes.target (context p s o) i.o0) c (writes.target (context p s o) i.o1) x ≡ false) e
      (apart (target_covers (context p s o) i.o0.kind i.o0 (literal (index_word (spaces_of p) i.o0)) known.o0)
      (target_covers (context p s o) i.o1.kind i.o1 (literal (index_word (spaces_of p) i.o1)) known.o1) c c
      (third_false (in_mask i.o0.select c) (first_waits m (spaces_of p) i c) _ (first_mask m i c j) w g)))
      (λ n. other_component (writes.target (context p s o) i.o0) (writes.target (context p s o) i.o1) c d n)
      (cases_eq c d)

  pub commuting : Pairs Commutes (moves m (context p s o) i)
  commuting =
      pairs_of Commutes
      (λ c d j k l w v. other_component (writes.target (context p s o) i.o0) (writes.target (context p s o) i.o0) c d (λ e. omega arith))
      (λ c d j k l w v. other_component (writes.target (context p s o) i.o1) (writes.target (context p s o) i.o1) c d (λ e. omega arith))
      (λ c d j k w v. behind_first c d j w v)
