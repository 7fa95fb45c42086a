-- What the statements of each kind of instruction do: loads, stores, atomics, counters, and those that make no event.
use Rattle.std.proofs.Common.{◌≡◌, ℕ, ◌+◌, ◌*◌, ◌/◌, ◌<◌, ◌≤◌, ◌^◌, Bool, true, false, List, [], ◌∷◌, ◌++◌, map, Option, Some, None, refl, sym, ap, subst, ◌∙◌, arith}
use Rattle.std.specs.Prelude.{nat_eq, nat_lt, if◌then◌else◌, ◌&&◌, is_some, option_map, slice_index}
use Rattle.std.proofs.lemmas.Bool.{and_parts, false≢true}
use Rattle.word_base.specs.declared.event.Act.{Act}
use Rattle.word_base.specs.declared.event.Event.{Event}
use Rattle.word_base.specs.declared.event.Event.TheVariants as event
use Rattle.word_base.specs.declared.event.Room.{Room}
use Rattle.word_base.specs.Registers.{Registers}
use Rattle.word_base.specs.Settings.{Setting}
use Rattle.tpf_decode.specs.declared.argument.Argument.{Argument}
use Rattle.tpf_program.specs.Holding.{SelectsInRange}
use Rattle.tpf_program.specs.Plans.{made, answered}
use Rattle.tpf_program.specs.Program.{Shader}
use Rattle.tpf_program.specs.Values.{context, selected}
use Rattle.tpf_program.specs.Writes.{target, with_words, written}
use Rattle.tpf_program.specs.declared.instruction.Instruction.{Instruction}
use Rattle.shader_tree.specs.Lane.{State, state, step, with_scratch, second_operand}
use Rattle.shader_tree.specs.Plans.{Plans}
use Rattle.shader_tree.specs.Terms.{Term}
use Rattle.shader_tree.specs.Terms as term
use Rattle.word_base.specs.Lanes.{Asks}
use Rattle.shader_tree.specs.Chains.{Link, Run, push}
use Rattle.shader_tree.specs.Values.{Words, value, word, truth}
use Rattle.raise_operands.specs.Folding.{literal}
use Rattle.raise_operands.specs.Laws.{IsGiven, ReadingLaws, RunLaws}
use Rattle.raise_operands.specs.Raises.{AreInRange}
use Rattle.raise_operands.specs.Raising.{indices}
use Rattle.raise_operands.specs.Runs.{LeadsAll, Ready, pushed}
use Rattle.raise_operands.specs.Vectors.{spaces_of}
use Rattle.raise_views.specs.declared.address.Reach.{Reach}
use Rattle.raise_views.specs.declared.address.Way.{Way}
use Rattle.raise_views.specs.declared.address.Way.TheVariants as way
use Rattle.raise_views.specs.Guarding.{counter_part, load_parts, writes}
use Rattle.raise_views.specs.Reaching.{At, address_of, answer_scratch, are_inside, are_joined, atomic_part, change, index_of, index_test, keeps, load_of, load_part, place, stand_together, store_of, store_part, stores, together, word_scratch, words_of, structure_scratch, zero_of}
use Rattle.raise_views.proofs.Fronts.{Ascends, Below, Inv, Front, Reached, below_of, holds_lit, holds_on, holds_value, inv_on, leads_set, plain_front, reached_front, ready_in, selected_below, writes_lead, written_ascends}
use Rattle.raise_views.proofs.Jobs.{alone, answered_job, atomic_runs, guarded_job, load_runs, set_there, set_elsewhere, store_runs}
use Rattle.raise_views.proofs.Locating.{Lit, Located, hits, index_tests, reached_by}
use Rattle.raise_views.proofs.Planning.{Done, Ended, Fill, Filled, Job, Rises, Slots, Staged, after, filled, first_slot, parts, pushed_append, slots_map, under_one, weaker}

abbrev pub reach : Room → ℕ → At → Reach
reach room known at = record { room = room; known = known; address = address_of at }

-- the part of a component, by the word that it reaches
abbrev pub part_at : (ℕ → Event) → Reach → ℕ → ℕ → ℕ → ℕ → Option Event
part_at ev r extent w j c = option_map ev (reached_by r.address.way extent w j c)

module _ (reading : ReadingLaws) (run : RunLaws) (p : Shader) (s : Setting) (o : Registers) (i : Instruction) (given : IsGiven p s o)
    (range : AreInRange i) where
  abbrev AtIs : At → ℕ → ℕ → Type 0
  AtIs at w j =
      (t : Words) → Ready (context p s o) i t → t.registers ≡ o → (value (spaces_of p) s t at.word ≡ word w) ×
      (value (spaces_of p) s t at.index ≡ word j)

  -- what a scratch word takes
  taken : (n a : ℕ) (t : Words) → Fill run (spaces_of p) s true n a t (with_scratch t n a)
  taken n a t = record { answer = λ q. set_there t n a; others = λ m q. set_elsewhere t n a m q; registers = refl }

  dropped : (n a : ℕ) (t : Words) → Fill run (spaces_of p) s false n a t (with_scratch t n a)
  dropped n a t = record { answer = λ q. absurd (false≢true q); others = λ m q. set_elsewhere t n a m q; registers = refl }

  unchanged : (n a : ℕ) (t : Words) → Fill run (spaces_of p) s false n a t t
  unchanged n a t = record { answer = λ q. absurd (false≢true q); others = λ m q. refl; registers = refl }

  kept_by : (base : Words) (fills : Bool) (n a : ℕ) (t u : Words) → 12 ≤ n → Fill run (spaces_of p) s fills n a t u
      → Inv reading p s o i given range base t → Inv reading p s o i given range base u
  kept_by base fills n a t u l f k =
      inv_on reading p s o i given range base t u (λ m z. f.others m (λ q. omega arith)) f.registers k

  at_base : (base : Words) → base.registers ≡ o → Inv reading p s o i given range base base
  at_base base e = record { registers = e; same = λ m l. refl }

  located : (room : Room) (known : ℕ) (at : At) (w j : ℕ) (t : Words) (f : Reached reading p s o i given range at w j t) (u : Words)
      → Inv reading p s o i given range f.front.base u → Located reading (spaces_of p) s (reach room known at) w j u
  located room known at w j t f u k =
      let a = holds_on (literal at.word) word_scratch w f.front.base u (k.same word_scratch (omega arith)) f.word' in
      let b = holds_on (literal at.index) structure_scratch j f.front.base u (k.same structure_scratch (omega arith)) f.index' in
      record {
        word' = holds_value (spaces_of p) s (literal at.word) word_scratch w u a;
        index' = holds_value (spaces_of p) s (literal at.index) structure_scratch j u b;
        lit_word = holds_lit (literal at.word) word_scratch w u a;
        lit_index = holds_lit (literal at.index) structure_scratch j u b;
      }

  module _ (room : Room) (known : ℕ) (at : At) (w j : ℕ) (at_is : AtIs at w j) (fits : known ≤ s.extent room) where
    short : s.extent room < 2 ^ 32
    short = given.setting.extent room

    -- components under one guard
    abbrev InIt : (ℕ → ℕ) → ℕ → Type 0
    InIt sel d = (d < 4) × (nat_lt (w + sel d) (words_of at.way) ≡ true)

    rises_in : (sel : ℕ → ℕ) (v : ℕ) (ds : List ℕ) → v ≡ w → Ascends ds → are_inside (words_of at.way) v (map sel ds) ≡ true → Rises (InIt sel) ds
    rises_in sel v [] e c h = tt
    rises_in sel v (d ∷ ds) e c h =
        let q = and_parts (nat_lt (v + sel d) (words_of at.way)) (are_inside (words_of at.way) v (map sel ds)) h in
        ((c.0, sym (ap (λ m. nat_lt (m + sel d) (words_of at.way)) e) ∙ q.0), c.1, rises_in sel v ds e c.2 q.1)

    record Joined (cs : List ℕ) : Type 0 where
      is_way : at.way ≡ way.Structures (words_of at.way)
      v : ℕ
      is_word : literal at.word ≡ Some v
      inside : are_inside (words_of at.way) v cs ≡ true

    joined : (cs : List ℕ) → stand_together (reach room known at) cs ≡ true → Joined cs
    joined [] h = absurd (false≢true h)
    joined (c ∷ cs) h = by_way at.way refl (literal at.word) refl (literal at.index) h
      where
        by_way : (y : Way) → at.way ≡ y → (a : Option ℕ) → literal at.word ≡ a → (b : Option ℕ) → are_joined y known a b (c ∷ cs) ≡ true
            → Joined (c ∷ cs)
        by_way (way.Structures n) e (Some x) f b q =
            let p' = and_parts (are_inside n x (c ∷ cs)) _ q in
            let m : n ≡ words_of at.way = sym (ap words_of e) in
            record { is_way = e ∙ ap way.Structures m; v = x; is_word = f; inside = subst (λ z. are_inside z x (c ∷ cs) ≡ true) m p'.0 }
        by_way (way.Structures n) e None f b q = absurd (false≢true q)
        by_way way.Bytes e a f b q = absurd (false≢true q)
        by_way way.Words e a f b q = absurd (false≢true q)

    -- where the index is out of range nothing is reached, and else each component in its structure is
    no_structure : at.way ≡ way.Structures (words_of at.way) → (c : ℕ) → nat_lt j (s.extent room / words_of at.way) ≡ false → reached_by at.way
        (s.extent room) w j c ≡ None
    no_structure e c q =
        ap (λ y. reached_by y (s.extent room) w j c) e
        ∙ ap (λ b. if b && nat_lt (w + c) (words_of at.way) then Some (j * words_of at.way + (w + c)) else None) q

    a_structure : at.way ≡ way.Structures (words_of at.way) → (c : ℕ) → nat_lt j (s.extent room / words_of at.way) ≡ true → nat_lt (w + c)
        (words_of at.way) ≡ true
        → is_some (reached_by at.way (s.extent room) w j c) ≡ true
    a_structure e c q h = ap (λ y. is_some (reached_by y (s.extent room) w j c)) e ∙ rw (q, h) refl

    index_is : (t : Words) → value (spaces_of p) s t (index_of (address_of at)) ≡ word j
        → value (spaces_of p) s t (index_test (words_of at.way) room (index_of (address_of at))) ≡ truth (nat_lt j (s.extent room / words_of at.way))
    index_is t h = index_tests reading (spaces_of p) s t room (index_of (address_of at)) (words_of at.way) j h

    -- the words of zeros
    record Zeros (ds : List ℕ) (t : Words) : Type 0 where
      words' : Words
      leads : LeadsAll (spaces_of p) s (map zero_of ds) t words'
      others : (m : ℕ) → m < 12 → words'.scratch m ≡ t.scratch m
      registers : words'.registers ≡ t.registers
      kept : (m : ℕ) → t.scratch m ≡ 0 → words'.scratch m ≡ 0
      slots : Slots ds (map (λ d. 0) ds) words'

    zeros : (ds : List ℕ) (t : Words) → Zeros ds t
    zeros [] t = record { words' = t; leads = refl; others = λ m l. refl; registers = refl; kept = λ m e. e; slots = tt }
    zeros (d ∷ ds) t =
        let u = with_scratch t (12 + d) 0 in
        let z = zeros ds u in
        record {
          words' = z.words';
          leads = (u, leads_set (spaces_of p) s t (12 + d) 0 (term.Word 0) refl, z.leads);
          others = λ m l. z.others m l ∙ set_elsewhere t (12 + d) 0 m (λ e. omega arith);
          registers = z.registers;
          kept = λ m e. z.kept m (still m (nat_eq m (12 + d)) e);
          slots = (z.kept (12 + d) (set_there t (12 + d) 0), z.slots);
        }
      where
        still : (m : ℕ) (b : Bool) → t.scratch m ≡ 0 → (if b then 0 else t.scratch m) ≡ 0
        still m true e = refl
        still m false e = e

    -- LOADS
    module _ (view : Argument) (sel : SelectsInRange view.select) (few : w + 3 < 2 ^ 32) where
      abbrev pub loaded : ℕ → Option Event
      loaded d = part_at (λ q. event.Load room q) (reach room known at) (s.extent room) w j (selected view.select d)

      module _ (t : Words) (e : t.registers ≡ o) where
        f : Reached reading p s o i given range at w j t
        f = reached_front reading p s o i given range at w j at_is t e

        abbrev I : Words → Type 0
        I u = Inv reading p s o i given range f.front.base u

        load_job : (d : ℕ) → d < 4 → (u : Words) → I u → Job run (spaces_of p) s true (12 + d)
            (load_part (reach room known at) d (selected view.select d)) u (loaded d)
        load_job d l u k =
            let c = selected view.select d in
            let m = selected_below view.select d sel l in
            answered_job reading run (spaces_of p) s (reach room known at) w j I (λ x y a b z. inv_on reading p s o i given range f.front.base x y a b
            z) (located room known at w j t f) fits short
            c (12 + d) (omega arith) (omega arith) (term.Load (12 + d) room (place (reach room known at) c)) (λ q. event.Load room q)
            (λ a v. with_scratch v (12 + d) a) (λ ks. refl)
            (λ v q z h x ks turns. load_runs (spaces_of p) s (12 + d) room (place (reach room known at) c) v z h x ks turns)
            (λ a v. taken (12 + d) a v) u k

        alone_job : at.way ≡ way.Structures (words_of at.way) → nat_lt j (s.extent room / words_of at.way) ≡ true → (d : ℕ)
            → InIt (selected view.select) d → (u : Words) → I u
            → Job run (spaces_of p) s true (12 + d) (load_of (reach room known at) d (selected view.select d)) u (loaded d)
        alone_job y q d l u k =
            let c = selected view.select d in
            let m = selected_below view.select d sel l.0 in
            alone reading run (spaces_of p) s (reach room known at) w j I (λ x y a b z. inv_on reading p s o i given range f.front.base x y a b z)
            (located room known at w j t f) fits short
            c (12 + d) (omega arith) (omega arith) (term.Load (12 + d) room (place (reach room known at) c)) (λ q. event.Load room q)
            (λ a v. with_scratch v (12 + d) a) (λ ks. refl)
            (λ v q z h x ks turns. load_runs (spaces_of p) s (12 + d) room (place (reach room known at) c) v z h x ks turns) true
            (λ a v. taken (12 + d) a v) u k
            (reached_by at.way (s.extent room) w j c)
            (hits reading (spaces_of p) s (reach room known at) w j c u (located room known at w j t f u k) (omega arith) fits short)
            (a_structure y c q l.1)

        loads_go : (b : Bool) → stand_together (reach room known at) (map (selected view.select) (written i.o0)) ≡ b → (k : List Link) (turns : ℕ)
            → Plans (step (spaces_of p) s)
            (state (pushed (if b then map zero_of (written i.o0) ++ together (reach room known at)
            (map (λ d. load_of (reach room known at) d (selected view.select d)) (written i.o0)) ∷ []
            else map (λ d. load_part (reach room known at) d (selected view.select d)) (written i.o0)) k) f.front.base turns)
            (made (map loaded (written i.o0))) (λ answers u. Filled run (spaces_of p) s true I (written i.o0)
            (answered (map loaded (written i.o0)) answers) k turns u)
        loads_go false h k turns =
            filled run (spaces_of p) s true (λ d. load_part (reach room known at) d (selected view.select d)) loaded (λ d. d < 4) I
            (λ n a. kept_by f.front.base true n a) load_job (written i.o0)
            (written_ascends i.o0.kind i.o0.select) f.front.base (at_base f.front.base f.front.registers) k turns
        loads_go true h k turns =
            let ds = written i.o0 in
            let n = joined (map (selected view.select) ds) h in
            let z = zeros ds f.front.base in
            let iz = inv_on reading p s o i given range f.front.base f.front.base z.words' z.others z.registers
            (at_base f.front.base f.front.registers) in
            let body = together (reach room known at) (map (λ d. load_of (reach room known at) d (selected view.select d)) ds) in
            let same = holds_on (literal at.word) word_scratch w f.front.base f.front.base refl f.word' in
            let v_is : n.v ≡ w = subst (λ q. Lit q w) n.is_word (holds_lit (literal at.word) word_scratch w f.front.base f.word') in
            let g = run.all_go (spaces_of p) s (map zero_of ds) f.front.base z.words' (push body k) turns z.leads in
            subst (λ l. Plans (step (spaces_of p) s) (state l f.front.base turns) (made (map loaded ds))
            (λ answers u. Filled run (spaces_of p) s true I ds (answered (map loaded ds) answers) k turns u))
            (sym (pushed_append (map zero_of ds) (body ∷ []) k))
            (after run (spaces_of p) s (made (map loaded ds)) g.0 (state (pushed (map zero_of ds) (push body k)) f.front.base turns)
            (state (push body k) z.words' turns) _ g.1
            (under_one run (spaces_of p) s true (λ d. load_of (reach room known at) d (selected view.select d)) loaded (InIt (selected view.select)) I
            (λ m a. kept_by f.front.base true m a)
            (index_test (words_of at.way) room (index_of (address_of at))) ds (nat_lt j (s.extent room / words_of at.way)) (alone_job n.is_way)
            (λ q d. ap (option_map (λ x. event.Load room x)) (no_structure n.is_way (selected view.select d) q))
            (rises_in (selected view.select) n.v ds v_is (written_ascends i.o0.kind i.o0.select) n.inside) z.words' iz
            (index_is z.words' (located room known at w j t f z.words' iz).index') (λ q. z.slots) k turns))

        pub loads_staged : Staged run (spaces_of p) s (indices (spaces_of p) i ++ keeps at) (load_parts (reach room known at) i.o0 view)
            (writes (spaces_of p) i (λ c. term.Scratch (answer_scratch c)) (written i.o0)) (made (map loaded (written i.o0)))
            (λ answers. with_words (target (context p s o) i.o0) (written i.o0) (answered (map loaded (written i.o0)) answers) o) t
        loads_staged = record {
          words' = f.front.base;
          leads = f.front.leads;
          plan = λ k turns.
              weaker run (spaces_of p) s (made (map loaded (written i.o0))) _ (λ answers u. Filled run (spaces_of p) s true I (written i.o0)
              (answered (map loaded (written i.o0)) answers) k turns u)
              (Ended run (spaces_of p) s (writes (spaces_of p) i (λ c. term.Scratch (answer_scratch c)) (written i.o0))
              (λ answers. with_words (target (context p s o) i.o0) (written i.o0) (answered (map loaded (written i.o0)) answers) o) k turns)
              (λ answers u d.
              let ds = written i.o0 in
              let v = d.words' in
              let z = writes_lead reading p s o i given range (λ c. term.Scratch (answer_scratch c)) (λ c. v.scratch (12 + c)) ds
              (below_of ds (written_ascends i.o0.kind i.o0.select)) v
              (ready_in reading p s o i given range f.front.base v f.front.ready d.inv) (λ x c q. ap word (q (12 + c))) in (
                v,
                z.0,
                d.is,
                z.1,
                z.2
                    ∙ (ap (λ as'. with_words (target (context p s o) i.o0) ds as' v.registers) (slots_map ds (answered (map loaded ds) answers) v
                    (d.slots refl))
                    ∙ ap (λ q. with_words (target (context p s o) i.o0) ds (answered (map loaded ds) answers) q) d.inv.registers),
              ))
              (loads_go (stand_together (reach room known at) (map (selected view.select) (written i.o0))) refl k turns);
        }

    -- STORES, of values that hold from the start on
    module _ (src : ℕ → Term) (val : ℕ → ℕ)
        (src_is : (c : ℕ) → c < 4 → (t : Words) → Ready (context p s o) i t → t.registers ≡ o → value (spaces_of p) s t (src c) ≡ word (val c))
        (cs : List ℕ) (rises : Ascends cs) (few : w + 3 < 2 ^ 32) where
      abbrev pub stored : ℕ → Option Event
      stored c = part_at (λ q. event.Store room q (val c)) (reach room known at) (s.extent room) w j c

      module _ (t : Words) (e : t.registers ≡ o) where
        f' : Reached reading p s o i given range at w j t
        f' = reached_front reading p s o i given range at w j at_is t e

        abbrev I' : Words → Type 0
        I' u = Inv reading p s o i given range f'.front.base u

        store_job : (d : ℕ) → d < 4 → (u : Words) → I' u → Job run (spaces_of p) s false (12 + d) (store_part (reach room known at) d (src d)) u
            (stored d)
        store_job c l u k =
            guarded_job reading run (spaces_of p) s (reach room known at) w j I' (λ x y a b z. inv_on reading p s o i given range f'.front.base x y a
            b z) (located room known at w j t f') fits short
            c (12 + c) (omega arith) (omega arith) (term.Store room (place (reach room known at) c) (src c)) (λ q. event.Store room q (val c))
            (λ a v. v) (λ ks. refl)
            (λ v q z h x ks turns. store_runs (spaces_of p) s room (place (reach room known at) c) (src c) v z (val c) h
            (src_is c l v (ready_in reading p s o i given range f'.front.base v f'.front.ready q) q.registers) x ks turns)
            (λ a v. unchanged (12 + c) a v) u k

        alone_store : at.way ≡ way.Structures (words_of at.way) → nat_lt j (s.extent room / words_of at.way) ≡ true → (d : ℕ) → InIt (λ c. c) d
            → (u : Words) → I' u
            → Job run (spaces_of p) s false (12 + d) (store_of (reach room known at) src d) u (stored d)
        alone_store y q c l u k =
            let m = l.0 in
            alone reading run (spaces_of p) s (reach room known at) w j I' (λ x y a b z. inv_on reading p s o i given range f'.front.base x y a b z)
            (located room known at w j t f') fits short
            c (12 + c) (omega arith) (omega arith) (term.Store room (place (reach room known at) c) (src c)) (λ q. event.Store room q (val c))
            (λ a v. v) (λ ks. refl)
            (λ v q z h x ks turns. store_runs (spaces_of p) s room (place (reach room known at) c) (src c) v z (val c) h
            (src_is c l.0 v (ready_in reading p s o i given range f'.front.base v f'.front.ready q) q.registers) x ks turns)
            false (λ a v. unchanged (12 + c) a v) u k (reached_by at.way (s.extent room) w j c)
            (hits reading (spaces_of p) s (reach room known at) w j c u (located room known at w j t f' u k) (omega arith) fits short)
            (a_structure y c q l.1)

        same_list : (xs : List ℕ) → map (λ c. c) xs ≡ xs
        same_list [] = refl
        same_list (x ∷ xs) = ap (λ ys. x ∷ ys) (same_list xs)

        stores_go : (b : Bool) → stand_together (reach room known at) cs ≡ b → (k : List Link) (turns : ℕ)
            → Plans (step (spaces_of p) s)
            (state (pushed (if b then together (reach room known at) (map (store_of (reach room known at) src) cs) ∷ [] else map
            (λ c. store_part (reach room known at) c (src c)) cs) k) f'.front.base turns)
            (made (map stored cs)) (λ answers u. Filled run (spaces_of p) s false I' cs (answered (map stored cs) answers) k turns u)
        stores_go false h k turns =
            filled run (spaces_of p) s false (λ d. store_part (reach room known at) d (src d)) stored (λ d. d < 4) I'
            (λ n a. kept_by f'.front.base false n a) store_job cs rises f'.front.base
            (at_base f'.front.base f'.front.registers) k turns
        stores_go true h k turns =
            let n = joined cs h in
            let ib = at_base f'.front.base f'.front.registers in
            let v_is : n.v ≡ w = subst (λ q. Lit q w) n.is_word (holds_lit (literal at.word) word_scratch w f'.front.base f'.word') in
            under_one run (spaces_of p) s false (store_of (reach room known at) src) stored (InIt (λ c. c)) I'
            (λ m a. kept_by f'.front.base false m a)
            (index_test (words_of at.way) room (index_of (address_of at))) cs (nat_lt j (s.extent room / words_of at.way)) (alone_store n.is_way)
            (λ q d. ap (option_map (λ x. event.Store room x (val d))) (no_structure n.is_way d q))
            (rises_in (λ c. c) n.v cs v_is rises (subst (λ xs. are_inside (words_of at.way) n.v xs ≡ true) (sym (same_list cs)) n.inside))
            f'.front.base ib
            (index_is f'.front.base (located room known at w j t f' f'.front.base ib).index') (λ q. absurd (false≢true q)) k turns

        pub stores_staged : Staged run (spaces_of p) s (indices (spaces_of p) i ++ keeps at) (stores (reach room known at) cs src) []
            (made (map stored cs)) (λ answers. o) t
        stores_staged = record {
          words' = f'.front.base;
          leads = f'.front.leads;
          plan = λ k turns.
              weaker run (spaces_of p) s (made (map stored cs)) _ (λ answers u. Filled run (spaces_of p) s false I' cs
              (answered (map stored cs) answers) k turns u)
              (Ended run (spaces_of p) s [] (λ answers. o) k turns) (λ answers u d. (d.words', d.words', d.is, refl, d.inv.registers))
              (stores_go (stand_together (reach room known at) cs) refl k turns);
        }

    -- ATOMICS: one event, whose answer is given or not
    module _ (kind : Act) (a b : Term) (x y : ℕ)
        (a_is : (t : Words) → Ready (context p s o) i t → t.registers ≡ o → value (spaces_of p) s t a ≡ word x)
        (b_is : (t : Words) → Ready (context p s o) i t → t.registers ≡ o → value (spaces_of p) s t b ≡ word y) (few : w < 2 ^ 32) where
      abbrev pub Changed : Option Event
      Changed = part_at (λ q. event.Atomic room q kind x (second_operand kind y)) (reach room known at) (s.extent room) w j 0

      module _ (t : Words) (e : t.registers ≡ o) where
        front : Reached reading p s o i given range at w j t
        front = reached_front reading p s o i given range at w j at_is t e

        abbrev Kept : Words → Type 0
        Kept u = Inv reading p s o i given range front.front.base u

        runs : (v : Words) → Kept v → (z : ℕ) → value (spaces_of p) s v (place (reach room known at) 0) ≡ word z → z < s.extent room
            → (ks : List Link) (turns : ℕ)
            → step (spaces_of p) s (state (Run (change (reach room known at) kind a b) ∷ ks) v turns) ≡ Asks
            (event.Atomic room z kind x (second_operand kind y)) (λ c. state ks (with_scratch v 12 c) turns)
        runs v q z h l ks turns =
            let ready = ready_in reading p s o i given range front.front.base v front.front.ready q in
            atomic_runs (spaces_of p) s 12 room (place (reach room known at) 0) kind a b v z x y h (a_is v ready q.registers)
            (b_is v ready q.registers) l ks turns

        job : (fills : Bool) (u : Words) → Kept u → Job run (spaces_of p) s fills 12 (atomic_part (reach room known at) kind a b fills) u Changed
        job true u k =
            answered_job reading run (spaces_of p) s (reach room known at) w j Kept (λ m n c d z. inv_on reading p s o i given range front.front.base
            m n c d z)
            (located room known at w j t front) fits short 0 12 (omega arith) (omega arith) (change (reach room known at) kind a b)
            (λ q. event.Atomic room q kind x (second_operand kind y)) (λ c v. with_scratch v 12 c) (λ ks. refl) runs (λ c v. taken 12 c v) u k
        job false u k =
            guarded_job reading run (spaces_of p) s (reach room known at) w j Kept (λ m n c d z. inv_on reading p s o i given range front.front.base m
            n c d z)
            (located room known at w j t front) fits short 0 12 (omega arith) (omega arith) (change (reach room known at) kind a b)
            (λ q. event.Atomic room q kind x (second_operand kind y)) (λ c v. with_scratch v 12 c) (λ ks. refl) runs (λ c v. dropped 12 c v) u k

        jobs : (fills : Bool) (d : ℕ) → d ≡ 0 → (u : Words) → Kept u → Job run (spaces_of p) s fills (12 + d)
            (atomic_part (reach room known at) kind a b fills) u Changed
        jobs fills d z u k = subst (λ n. Job run (spaces_of p) s fills (12 + n) (atomic_part (reach room known at) kind a b fills) u Changed) (sym z)
            (job fills u k)

        abbrev Finished : Bool → List Link → ℕ → List ℕ → State → Type 0
        Finished fills k turns answers u =
            Done run (spaces_of p) s fills (λ d. atomic_part (reach room known at) kind a b fills) (λ d. Changed) (λ d. d ≡ 0) Kept
            (λ n c. kept_by front.front.base fills n c) (jobs fills) (0 ∷ [])
            (answered (Changed ∷ []) answers) front.front.base k turns u

        made_by : (fills : Bool) (k : List Link) (turns : ℕ)
            → Plans (step (spaces_of p) s) (state (pushed (atomic_part (reach room known at) kind a b fills ∷ []) k) front.front.base turns)
            (made (Changed ∷ [])) (λ answers u. Finished fills k turns answers u)
        made_by fills k turns =
            parts run (spaces_of p) s fills (λ d. atomic_part (reach room known at) kind a b fills) (λ d. Changed) (λ d. d ≡ 0) Kept
            (λ n c. kept_by front.front.base fills n c) (jobs fills) (0 ∷ [])
            (refl, tt, tt) front.front.base (at_base front.front.base front.front.registers) k turns

        pub change_staged : Staged run (spaces_of p) s (indices (spaces_of p) i ++ keeps at) (atomic_part (reach room known at) kind a b false ∷ [])
            [] (made (Changed ∷ [])) (λ answers. o) t
        change_staged = record {
          words' = front.front.base;
          leads = front.front.leads;
          plan = λ k turns.
              weaker run (spaces_of p) s (made (Changed ∷ [])) _ (Finished false k turns) (Ended run (spaces_of p) s [] (λ answers. o) k turns)
              (λ answers u d. (d.words', d.words', d.is, refl, d.inv.registers)) (made_by false k turns);
        }

        pub fetch_staged : Staged run (spaces_of p) s (indices (spaces_of p) i ++ keeps at) (atomic_part (reach room known at) kind a b true ∷ [])
            (writes (spaces_of p) i (λ c. term.Scratch (answer_scratch 0)) (written i.o0))
            (made (Changed ∷ [])) (λ answers. with_words (target (context p s o) i.o0) (written i.o0)
            (map (λ c. slice_index (answered (Changed ∷ []) answers) 0) (written i.o0)) o) t
        fetch_staged = record {
          words' = front.front.base;
          leads = front.front.leads;
          plan = λ k turns.
              weaker run (spaces_of p) s (made (Changed ∷ [])) _ (Finished true k turns)
              (Ended run (spaces_of p) s (writes (spaces_of p) i (λ c. term.Scratch (answer_scratch 0)) (written i.o0))
              (λ answers. with_words (target (context p s o) i.o0) (written i.o0) (map (λ c. slice_index (answered (Changed ∷ []) answers) 0)
              (written i.o0)) o) k turns)
              (λ answers u d.
              let v = d.words' in
              let z = writes_lead reading p s o i given range (λ c. term.Scratch (answer_scratch 0))
              (λ c. slice_index (answered (Changed ∷ []) answers) 0) (written i.o0)
              (below_of (written i.o0) (written_ascends i.o0.kind i.o0.select)) v
              (ready_in reading p s o i given range front.front.base v front.front.ready d.inv)
              (λ m c q. ap word (q 12 ∙ first_slot (answered (Changed ∷ []) answers) v (d.slots refl))) in (
                v,
                z.0,
                d.is,
                z.1,
                z.2 ∙ ap (λ q. with_words (target (context p s o) i.o0) (written i.o0) (map (λ c. slice_index (answered (Changed ∷ []) answers) 0)
                    (written i.o0)) q) d.inv.registers,
              ))
              (made_by true k turns);
        }

  -- COUNTERS that are there: one step, and its answer
  module _ (room : Room) (kind : Act) (there : s.extent room ≡ 1) (F : ℕ → Term) (W : ℕ → ℕ)
      (F_is : (t : Words) (c a : ℕ) → t.scratch 12 ≡ a → value (spaces_of p) s t (F c) ≡ word (W a)) where
    abbrev pub Stepped : Option Event
    Stepped = Some (event.Atomic room 0 kind 1 (second_operand kind 0))

    pub counter_staged : (t : Words) → t.registers ≡ o
        → Staged run (spaces_of p) s (indices (spaces_of p) i ++ []) (counter_part room kind) (writes (spaces_of p) i F (written i.o0))
        (made (Stepped ∷ []))
        (λ answers. with_words (target (context p s o) i.o0) (written i.o0) (map (λ c. W (slice_index (answered (Stepped ∷ []) answers) 0))
        (written i.o0)) o) t
    counter_staged t e = record {
      words' = f.base;
      leads = f.leads;
      plan = λ k turns.
          weaker run (spaces_of p) s (made (Stepped ∷ [])) _ (Finished k turns)
          (Ended run (spaces_of p) s (writes (spaces_of p) i F (written i.o0)) (λ answers. with_words (target (context p s o) i.o0) (written i.o0)
          (map (λ c. W (slice_index (answered (Stepped ∷ []) answers) 0)) (written i.o0)) o) k turns)
          (λ answers u d.
          let v = d.words' in
          let a = slice_index (answered (Stepped ∷ []) answers) 0 in
          let z = writes_lead reading p s o i given range F (λ c. W a) (written i.o0)
          (below_of (written i.o0) (written_ascends i.o0.kind i.o0.select)) v
          (ready_in reading p s o i given range f.base v f.ready d.inv)
          (λ m c q. F_is m c a (q 12 ∙ first_slot (answered (Stepped ∷ []) answers) v (d.slots refl))) in (
            v,
            z.0,
            d.is,
            z.1,
            z.2 ∙ ap (λ q. with_words (target (context p s o) i.o0) (written i.o0) (map (λ c. W a) (written i.o0)) q)
                d.inv.registers,
          ))
          (parts run (spaces_of p) s true X (λ d. Stepped) (λ d. d ≡ 0) I (λ n c. kept_by f.base true n c) jobs (0 ∷ []) (refl, tt, tt) f.base
          (at_base f.base f.registers) k turns);
    }
      where
        f : Front reading p s o i given range [] t
        f = plain_front reading p s o i given range t e

        X : ℕ → Term
        X d = term.Atomic (answer_scratch 0) room (term.Word 0) kind (term.Word 1) (term.Word 0)

        I : Words → Type 0
        I u = Inv reading p s o i given range f.base u

        in_it : 0 < s.extent room
        in_it = let l = there in omega arith

        jobs : (d : ℕ) → d ≡ 0 → (u : Words) → I u → Job run (spaces_of p) s true (12 + d) (X d) u Stepped
        jobs d z u k =
            subst (λ n. Job run (spaces_of p) s true (12 + n) (X d) u Stepped) (sym z)
            (λ ks turns. (
              0,
              state (pushed (X 0 ∷ []) ks) u turns,
              λ a. state ks (with_scratch u 12 a) turns,
              refl,
              atomic_runs (spaces_of p) s 12 room (term.Word 0) kind (term.Word 1) (term.Word 0) u 0 1 0 refl refl refl in_it ks turns,
              λ a. (with_scratch u 12 a, refl, taken 12 a u),
            ))

        Finished : List Link → ℕ → List ℕ → State → Type 0
        Finished k turns answers u =
            Done run (spaces_of p) s true X (λ d. Stepped) (λ d. d ≡ 0) I (λ n c. kept_by f.base true n c) jobs (0 ∷ [])
            (answered (Stepped ∷ []) answers) f.base k turns u

  -- NO EVENT: words that hold from the start on, or behind one word that is kept
  module _ (F : ℕ → Term) (W : ℕ → ℕ) where
    pub silent_staged : (cs : List ℕ) → Below cs → (kept : List Term) (t : Words) (f : Front reading p s o i given range kept t)
        → ((u : Words) (c : ℕ) → ((m : ℕ) → u.scratch m ≡ f.base.scratch m) → value (spaces_of p) s u (F c) ≡ word (W c))
        → Staged run (spaces_of p) s (indices (spaces_of p) i ++ kept) [] (writes (spaces_of p) i F cs) []
        (λ answers. with_words (target (context p s o) i.o0) cs (map W cs) o) t
    silent_staged cs below kept t f is =
        let z = writes_lead reading p s o i given range F W cs below f.base f.ready is in
        record {
          words' = f.base;
          leads = f.leads;
          plan = λ k turns. (
            0,
            state k f.base turns,
            refl,
            (f.base, z.0, refl, z.1, z.2 ∙ ap (λ q. with_words (target (context p s o) i.o0) cs (map W cs) q) f.registers),
          );
        }
