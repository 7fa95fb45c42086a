-- One instruction behind a piece of code: without a result, or with one that is an answer.
use Rattle.std.proofs.Common.{◌≡◌, ℕ, ◌+◌, ◌<◌, ⊎_elim, inl, inr, List, [], ◌∷◌, ◌++◌, length, Option, Some, refl, sym, ap, ◌∙◌, subst, arith, length-append, append-nil}
use Rattle.std.specs.Prelude.{slice_get, Ok, map, IsTrue}
use Rattle.word_base.specs.Lanes.{Goes, Silent, Asks}
use Rattle.word_base.specs.declared.event.Event.{Event}
use Rattle.kept_values.specs.declared.word.Word.{Word as Kept}
use Rattle.kept_values.specs.declared.word.Word.TheVariants as kept
use Rattle.kept_values.specs.Tables.{Table, id_in, Puts}
use Rattle.shader_tree.specs.Values.{Words}
use Rattle.shader_tree.specs.Lane.{with_scratch}
use Rattle.shader_tree.specs.Shape.{Item}
use Rattle.spirv_words.specs.Definitions.{are_distinct}
use Rattle.spirv_words.specs.Globals.{Places}
use Rattle.spirv_words.specs.Text.{Instr, instr, is_instr, words_of_instr}
use Rattle.spirv_words.specs.Values.{Value, Word, AtLocal}
use Rattle.spirv_words.specs.Lane.{State, step, with_value, with_memory, goes_to}
use Rattle.spirv_symbols.specs.declared.symbol.Symbol.{Symbol}
use Rattle.spirv_symbols.specs.declared.symbol.Symbol.TheVariants.{AType}
use Rattle.spirv_symbols.specs.declared.symbol.TypeSymbol.TheVariants as symbol
use Rattle.spirv_symbols.specs.declared.entry.Entry.{Entry}
use Rattle.spirv_symbols.specs.Tables.{Has}
use Rattle.spirv_emit.specs.Emission.{Emission, next_of}
use Rattle.spirv_emit.specs.Code.{In, Typed, typed, typed_result, values, IsPlain, ArePlain, behind, IsOf, IsTyped, Covers, CoversKept}
use Rattle.spirv_emit.specs.Lanes.{Site, IsWhole, Mirrors, HasAt, Stands}
use Rattle.spirv_emit.specs.Growing.{Grows, Completes, globals_in}
use Rattle.spirv_emit.specs.Linked.{IsLinked, StandsIn}
use Rattle.spirv_emit.specs.ModuleShape.{Seen, marks_of, shape_of}
use Rattle.spirv_emit.specs.Values.{Slot, slot, AreValues, AreKnown, HaveClasses, Runs, Knowing, Quiet, Meaning, Gives, nothing}
use Rattle.spirv_emit.specs.Steps.{Named, Adds, Acts, Settled}
use Rattle.spirv_emit.specs.Blocks.{Change, Becomes, Alters, Assigns, Meets}
use Rattle.spirv_emit.proofs.Links as links
use Rattle.spirv_emit.proofs.Links.{quiet_both, shape_append, shape_one}
use Rattle.spirv_emit.proofs.Lists.{code_back, each_append, behind_append, typed_append}
use Rattle.spirv_emit.proofs.Growth.{grows_on, completes_back, apart, settled_grows, add_grows, all_one, at_same, goes_join, runs_on, stands_front, stands_back, one_defines}
use Rattle.spirv_emit.proofs.Giving.{mirrors_value, plain_behind, covers_stays, ok_same}
use Rattle.spirv_emit.proofs.Forms.{acts}
use Rattle.spirv_emit.proofs.Memory.{stored, kept_differ, some_same}

-- a symbol that is there
pub there_named : (e : Emission) (s : Symbol) (r : ℕ) → Has e.symbols.entries s r → r < next_of e → Named e e s r
there_named e s r has lt = record {
  grows = settled_grows e e (record { same = record { frame = refl; limit = refl; capacity = refl; limits = refl }; code = refl; symbols = refl });
  has = has;
  below = lt;
  kept = refl;
}

-- an instruction without a result
none_defined : (i : Instr) → typed_result i ≡ [] → values (i ∷ []) ≡ []
none_defined i e = ap (λ l. map (λ (x : Typed). x.id) l ++ []) e

pub act_grows : (a b : Emission) (i : Instr) → typed_result i ≡ [] → Acts a b i → Grows a b (i ∷ [])
act_grows a b i e h =
    let next : next_of b ≡ next_of a = ap (λ t. t.next) h.symbols in
    record {
      same = h.same;
      next = omega (arith, next);
      code = h.code ∙ ap (λ l. a.code.list ++ l) (sym (append-nil (words_of_instr i)));
      instructions = all_one is_instr i h.fits;
      distinct = subst (λ l. IsTrue (are_distinct l)) (sym (none_defined i e)) refl;
      has = λ n id k. subst (λ t. Has t.entries n id) (sym h.symbols) k;
      later = λ n id k. inl (subst (λ t. Has t.entries n id) h.symbols k);
      globals = ap (λ t. globals_in t.entries) h.symbols;
      fresh = λ id d. absurd (subst (λ l. In l id) (none_defined i e) d);
    }

-- THE LANE at a store and at a load of a room.
module _ (z : Site) (s : State) (whole : IsWhole z) where
  pub store_step : (p x v i w : ℕ) → slice_get z.machine.code s.place ≡ Some (instr 62 (p ∷ x ∷ [])) → s.values p ≡ Some (AtLocal v i)
      → s.values x ≡ Some (Word w)
      → step z.machine s ≡ Silent (with_memory s (stored s.memory v i w))
  store_step p x v i w at hp hx = acts z s (instr 62 (p ∷ x ∷ [])) whole at ∙ rw (hp, hx) refl

-- BEHIND A PIECE OF CODE, in front of one more instruction.
pub record Before (z : Site) (front : List Instr) (i : Instr) (table : Table) (rs : List Slot) (vs : List Value) (s : State) (t : Words) : Type 0
  where
    pub to : State
    pub runs : Runs z front s to
    pub mirrors : Mirrors z table to t
    pub values : AreValues to.values rs vs
    pub at : slice_get z.machine.code to.place ≡ Some i

module _ (a b d : Emission) (rs : List Slot) (f : Meaning) (i : Instr) (x : Gives a b [] rs f) (g : Grows b d (i ∷ [])) where
  pub before : (z : Site) → Completes d z → (s : State) (t : Words) (vs : List Value) → Stands z (x.seg ++ i ∷ []) a.kept s t → f z t [] ≡ Ok vs
      → Before z x.seg i b.kept rs vs s t
  before z comp s t vs st e =
      let one = x.law z (completes_back b d (i ∷ []) z g comp) tt s t [] vs (stands_front z x.seg (i ∷ []) a.kept s t st) tt e in
      record {
        to = one.to;
        runs = one.runs;
        mirrors = one.mirrors;
        values = one.values;
        at = subst (λ p. slice_get z.machine.code p ≡ Some i) (sym one.runs.place) (code_back z.machine.code s.place x.seg (i ∷ []) st.here).0;
      }

  pub grown : Grows a d (x.seg ++ i ∷ [])
  grown = grows_on a b d x.seg (i ∷ []) x.grows g

  pub all_plain : IsPlain i → ArePlain (x.seg ++ i ∷ [])
  all_plain p = each_append IsPlain x.seg (i ∷ []) x.plain (p, tt)

  pub in_front_of : (z : Site) (places : Places) → Completes d z → IsLinked z places → StandsIn z (x.seg ++ i ∷ []) → Quiet z places x.seg rs
  in_front_of z places comp linked here =
      x.quiet z places (completes_back b d (i ∷ []) z g comp) linked (links.stands_front z x.seg (i ∷ []) here) tt

  pub knowing : IsPlain i → (z : Site) → Completes d z → (gl k : List Typed) → Covers z.names z.frame.context k → CoversKept z.names a.kept k
      → ((k : List Typed) → CoversKept z.names b.kept k → AreKnown z.names k rs → IsTyped z.names k i × CoversKept z.names d.kept
      (typed_result i ++ k))
      → Knowing z.names gl k (x.seg ++ i ∷ []) d.kept []
  knowing plain z comp gl k cover keeps takes =
      let p = x.known z (completes_back b d (i ∷ []) z g comp) gl k cover keeps tt in
      let o = takes (behind gl k x.seg) p.kept p.results in
      let same : behind gl k (x.seg ++ i ∷ []) ≡ typed_result i ++ behind gl k x.seg =
      behind_append gl k x.seg (i ∷ []) ∙ plain_behind gl (behind gl k x.seg) i plain in
      record {
        typed = typed_append z.names gl k x.seg (i ∷ []) p.typed (o.0, tt);
        kept = subst (CoversKept z.names d.kept) (sym same) o.1;
        results = tt;
      }

-- A SILENT STORE, and what it leaves of the words that are kept.
module _ (a b c d : Emission) (rs : List Slot) (f : Meaning) (i : Instr) (x : Gives a b [] rs f) (act : Acts b c i) (set : Settled c d)
    (none : typed_result i ≡ []) (plain : IsPlain i)
    (takes : (z : Site) → Completes d z → (k : List Typed) → CoversKept z.names b.kept k → AreKnown z.names k rs → IsTyped z.names k i × CoversKept
    z.names d.kept k)
    (silent : (z : Site) (places : Places) → HaveClasses z.machine.code rs → marks_of z.machine.code places i ≡ []) where
  acted : Grows b d (i ∷ [])
  acted = grows_on b c d (i ∷ []) [] (act_grows b c i none act) (settled_grows c d set)

  still : (z : Site) (places : Places) → Completes d z → IsLinked z places → StandsIn z (x.seg ++ i ∷ [])
      → shape_of z.machine.code places (x.seg ++ i ∷ []) ≡ []
  still z places comp linked here =
      let q = in_front_of a b d rs f i x acted z places comp linked here in
      shape_one z.machine.code places x.seg i [] q.none (silent z places q.classes)

  take : (z : Site) → Completes d z → (k : List Typed) → CoversKept z.names b.kept k → AreKnown z.names k rs
      → IsTyped z.names k i × CoversKept z.names d.kept (typed_result i ++ k)
  take z comp k keeps is = let o = takes z comp k keeps is in (o.0, subst (λ l. CoversKept z.names d.kept (l ++ k)) (sym none) o.1)

  abbrev pub Does : Site → State → Words → Words → List Value → Type 0
  Does z s t u vs =
      slice_get z.machine.code s.place ≡ Some i → AreValues s.values rs vs → Mirrors z b.kept s t
      → (m : ℕ → ℕ → Option ℕ) × (step z.machine s ≡ Silent (with_memory s m)) × Mirrors z d.kept (with_memory s m) u

  stored_runs : (z : Site) (s : State) (m : ℕ → ℕ → Option ℕ) → step z.machine s ≡ Silent (with_memory s m) → Runs z (i ∷ []) s (with_memory s m)
  stored_runs z s m h = record { goes = (with_memory s m, h, refl); place = refl; kept = λ id d. refl }

  done : (z : Site) → Completes d z → (s : State) (t u : Words) (vs : List Value) → Stands z (x.seg ++ i ∷ []) a.kept s t → f z t [] ≡ Ok vs
      → ((s : State) → Does z s t u vs) → (to : State) × Runs z (x.seg ++ i ∷ []) s to × Mirrors z d.kept to u
  done z comp s t u vs st e does =
      let p = before a b d rs f i x acted z comp s t vs st e in
      let q = does p.to p.at p.values p.mirrors in
      (with_memory p.to q.0, runs_on z x.seg (i ∷ []) s p.to (with_memory p.to q.0) p.runs (stored_runs z p.to q.0 q.1), q.2)

  -- what the store does, where the words of the tree's lane change so
  abbrev pub Effect : Change → Type 0
  Effect E =
      (z : Site) → Completes d z → (s : State) (t u : Words) → Mirrors z a.kept s t → E z t u
      → (vs : List Value) × (f z t [] ≡ Ok vs) × ((s : State) → Does z s t u vs)

  abbrev pub same_words : Change
  same_words z t u = u ≡ t

  pub flushed_gives : Effect same_words → Gives a d [] [] nothing
  flushed_gives eff = record {
    seg = x.seg ++ i ∷ [];
    grows = grown a b d rs f i x acted;
    plain = all_plain a b d rs f i x acted plain;
    below = λ l. tt;
    known = λ z comp gl k cover keeps is. knowing a b d rs f i x acted plain z comp gl k cover keeps (take z comp);
    quiet = λ z places comp linked here is. record { none = still z places comp linked here; classes = tt };
    law = λ z comp l s t vs ws st v e.
        let q = eff z comp s t t st.mirrors refl in
        let o = done z comp s t t q.0 st q.1 q.2 in
        record { to = o.0; runs = o.1; mirrors = o.2; values = subst (AreValues o.0.values []) (ok_same [] ws e) tt };
  }

  pub stored_alters : (E : Change) → Effect E → Alters a d E
  stored_alters E eff = record {
    seg = x.seg ++ i ∷ [];
    grows = grown a b d rs f i x acted;
    plain = all_plain a b d rs f i x acted plain;
    known = λ z comp gl k cover keeps. knowing a b d rs f i x acted plain z comp gl k cover keeps (take z comp);
    quiet = still;
    law = λ z comp s t u st e.
        let q = eff z comp s t u st.mirrors e in
        let o = done z comp s t u q.0 st q.1 q.2 in
        (o.0, o.1.goes, record { place = o.1.place; mirrors = o.2 });
  }

-- AN EVENT without an answer.
module _ (a b c : Emission) (rs : List Slot) (f : Meaning) (i : Instr) (x : Gives a b [] rs f) (act : Acts b c i) (none : typed_result i ≡ [])
    (plain : IsPlain i)
    (takes : (z : Site) → Completes c z → (k : List Typed) → AreKnown z.names k rs → IsTyped z.names k i) (item : Item)
    (seen : (z : Site) (places : Places) → Completes b z → IsLinked z places → StandsIn z x.seg → HaveClasses z.machine.code rs
    → marks_of z.machine.code places i ≡ Seen item ∷ []) where
  met : Grows b c (i ∷ [])
  met = act_grows b c i none act

  pub event_meets : (E : Site → Words → Event → (ℕ → Words) → Type 0)
      → ((z : Site) → Completes c z → (t : Words) (e : Event) (u : ℕ → Words) → E z t e u
      → (u ≡ (λ answer. t)) × ((vs : List Value) × (f z t [] ≡ Ok vs) × ((s : State) → slice_get z.machine.code s.place ≡ Some i
      → AreValues s.values rs vs
      → step z.machine s ≡ Asks e (λ answer. goes_to s (s.place + 1)))))
      → Meets a c item E
  event_meets E eff = record {
    seg = x.seg ++ i ∷ [];
    grows = grown a b c rs f i x met;
    plain = all_plain a b c rs f i x met plain;
    known = λ z comp gl k cover keeps. knowing a b c rs f i x met plain z comp gl k cover keeps
        (λ k keeps is. (
          takes z comp k is,
          subst (λ l. CoversKept z.names c.kept (l ++ k)) (sym none)
              (subst (λ t. CoversKept z.names t k) (sym act.kept) keeps),
        ));
    shows = λ z places comp linked here.
        let q = in_front_of a b c rs f i x met z places comp linked here in
        shape_one z.machine.code places x.seg i (Seen item ∷ []) q.none
        (seen z places (completes_back b c (i ∷ []) z met comp) linked (links.stands_front z x.seg (i ∷ []) here) q.classes);
    law = λ z comp s t e u st h.
        let q = eff z comp t e u h in
        let p = before a b c rs f i x met z comp s t q.1.0 st q.1.1 in (
          length x.seg,
          p.to,
          (λ answer. goes_to p.to (p.to.place + 1)),
          omega (arith, length-append x.seg (i ∷ [])),
          p.runs.goes,
          q.1.2 p.to p.at p.values,
          λ answer lt.
              let to = goes_to p.to (p.to.place + 1) in
              let place : to.place ≡ s.place + length (x.seg ++ i ∷ []) = omega (arith, p.runs.place, length-append x.seg (i ∷ [])) in
              record {
                front = x.seg ++ i ∷ [];
                back = [];
                parts = sym (append-nil (x.seg ++ i ∷ []));
                place = place;
                to = to;
                goes = refl;
                behind = record {
                  place = place;
                  mirrors = subst (Mirrors z c.kept to) (sym (ap (λ (g : ℕ → Words). g answer) q.0))
                      (subst (λ k. Mirrors z k to t) (sym act.kept)
                      (record { knows = p.mirrors.knows; ids = p.mirrors.ids; inside = p.mirrors.inside; cells = p.mirrors.cells }));
                };
              },
        );
  }

-- A WORD THAT WAITS.
pub put_covers : (names : List Entry) (a b : Table) (w : Kept) (r : ℕ) (k l : List Typed) → Puts a b w r → CoversKept names a k
    → ((y : Typed) → In k y → In l y)
    → IsOf names l symbol.Word r → CoversKept names b l
put_covers names a b w r k l h keeps more is y id q =
    ⊎_elim
    (λ (e : y ≡ w). let same : r ≡ id = some_same (sym h.here ∙ (ap (id_in b) (sym e) ∙ q)) in subst (IsOf names l symbol.Word) same is)
    (λ d. let o = keeps y id (sym (h.other y d) ∙ q) in (o.0, o.1, more (typed id o.0) o.2)) (kept_differ y w)

-- A WORD OF THE LANE is the value of a piece of code.
module _ (a b c : Emission) (w : Kept) (r : ℕ) (f : Meaning) (x : Gives a b [] (slot r symbol.Word ∷ []) f) (y : Assigns b c w r) where
  pub assigned_alters : (E : Change)
      → ((z : Site) → Completes c z → (t u : Words) → E z t u → (n : ℕ) × (f z t [] ≡ Ok (Word n ∷ [])) × Becomes z.frame w n t u) → Alters a c E
  assigned_alters E eff = record {
    seg = x.seg ++ y.seg;
    grows = grows_on a b c x.seg y.seg x.grows y.grows;
    plain = each_append IsPlain x.seg y.seg x.plain y.plain;
    known = λ z comp gl k cover keeps.
        let p = x.known z (completes_back b c y.seg z y.grows comp) gl k cover keeps tt in
        let q = y.known z comp gl (behind gl k x.seg) (covers_stays z.names z.frame.context gl k x.seg x.plain cover) p.kept p.results.0 in
        record {
          typed = typed_append z.names gl k x.seg y.seg p.typed q.typed;
          kept = subst (CoversKept z.names c.kept) (sym (behind_append gl k x.seg y.seg)) q.kept;
          results = tt;
        };
    quiet = λ z places comp linked here.
        quiet_both z.machine.code places x.seg y.seg
        (x.quiet z places (completes_back b c y.seg z y.grows comp) linked (links.stands_front z x.seg y.seg here) tt).none
        (y.quiet z places comp linked (links.stands_back z x.seg y.seg here));
    law = λ z comp s t u st e.
        let q = eff z comp t u e in
        let o = x.law z (completes_back b c y.seg z y.grows comp) tt s t [] (Word q.0 ∷ []) (stands_front z x.seg y.seg a.kept s t st) tt q.1 in
        let p = y.law z comp o.to t u q.0 (stands_back z x.seg y.seg a.kept b.kept s o.to t st o.runs o.mirrors) o.values.0 q.2 in (
          p.0,
          subst (λ n. Goes (step z.machine) n s p.0) (sym (length-append x.seg y.seg))
              (goes_join (step z.machine) (length x.seg) (length y.seg) s o.to p.0 o.runs.goes p.1),
          record { place = omega (arith, o.runs.place, p.2.place, length-append x.seg y.seg); mirrors = p.2.mirrors },
        );
  }

-- AN EVENT whose answer becomes a scratch word.
module _ (a b c d : Emission) (rs : List Slot) (f : Meaning) (i : Instr) (r type n : ℕ) (x : Gives a b [] rs f) (add : Adds b c i r)
    (y : Assigns c d (kept.Scratch n) r)
    (one : typed_result i ≡ typed r type ∷ []) (plain : IsPlain i) (has : Has b.symbols.entries (AType symbol.Word) type)
    (takes : (z : Site) → Completes b z → (k : List Typed) → AreKnown z.names k rs → IsTyped z.names k i) (item : Item)
    (seen : (z : Site) (places : Places) → Completes b z → IsLinked z places → StandsIn z x.seg → HaveClasses z.machine.code rs
    → marks_of z.machine.code places i ≡ Seen item ∷ []) where
  abbrev front : List Instr
  front = x.seg ++ i ∷ []

  answered : Grows b c (i ∷ [])
  answered = add_grows b c i r type one add

  front_plain : ArePlain front
  front_plain = all_plain a b c rs f i x answered plain

  -- the answer is known behind the event
  answer_known : (z : Site) → Completes c z → (gl k : List Typed) → IsOf z.names (behind gl k front) symbol.Word r
  answer_known z comp gl k =
      let same : behind gl k front ≡ typed r type ∷ behind gl k x.seg =
      behind_append gl k x.seg (i ∷ [])
      ∙ (plain_behind gl (behind gl k x.seg) i plain ∙ ap (λ l. l ++ behind gl k x.seg) one) in (
        type,
        (completes_back b c (i ∷ []) z answered comp).has (AType symbol.Word) type has,
        subst (λ l. In l (typed r type)) (sym same) (inl refl),
      )

  -- so are the words that are kept
  front_known : (z : Site) → Completes c z → (gl k : List Typed) → Covers z.names z.frame.context k → CoversKept z.names a.kept k
      → Knowing z.names gl k front c.kept []
  front_known z comp gl k cover keeps =
      knowing a b c rs f i x answered plain z comp gl k cover keeps
      (λ k keeps is. (
        takes z (completes_back b c (i ∷ []) z answered comp) k is,
        subst (λ l. CoversKept z.names c.kept (l ++ k)) (sym one)
            (λ w id q. let o = keeps w id (subst (λ t. id_in t w ≡ Some id) add.kept q) in (o.0, o.1, inr o.2)),
      ))

  pub answer_meets : (E : Site → Words → Event → (ℕ → Words) → Type 0)
      → ((z : Site) → Completes b z → (t : Words) (e : Event) (u : ℕ → Words) → E z t e u
      → (u ≡ (λ answer. with_scratch t n answer)) × ((vs : List Value) × (f z t [] ≡ Ok vs) × ((s : State) → slice_get z.machine.code s.place ≡ Some i
      → AreValues s.values rs vs → step z.machine s ≡ Asks e (λ answer. with_value s r (Word answer)))))
      → Meets a d item E
  answer_meets E eff = record {
    seg = front ++ y.seg;
    grows = grows_on a c d front y.seg (grown a b c rs f i x answered) y.grows;
    plain = each_append IsPlain front y.seg front_plain y.plain;
    known = λ z comp gl k cover keeps.
        let mid = completes_back c d y.seg z y.grows comp in
        let p = front_known z mid gl k cover keeps in
        let q = y.known z comp gl (behind gl k front) (covers_stays z.names z.frame.context gl k front front_plain cover) p.kept
        (answer_known z mid gl k) in
        record {
          typed = typed_append z.names gl k front y.seg p.typed q.typed;
          kept = subst (CoversKept z.names d.kept) (sym (behind_append gl k front y.seg)) q.kept;
          results = tt;
        };
    shows = λ z places comp linked here.
        let mid = completes_back c d y.seg z y.grows comp in
        let at_front = links.stands_front z front y.seg here in
        let q = in_front_of a b c rs f i x answered z places mid linked at_front in
        let event = shape_one z.machine.code places x.seg i (Seen item ∷ []) q.none
        (seen z places (completes_back b c (i ∷ []) z answered mid) linked (links.stands_front z x.seg (i ∷ []) at_front) q.classes) in
        shape_append z.machine.code places front y.seg
        ∙ (ap (λ l. l ++ shape_of z.machine.code places y.seg) event
        ∙ ap (λ l. Seen item ∷ l) (y.quiet z places comp linked (links.stands_back z front y.seg here)));
    law = λ z comp s t e u st h.
        let mid = completes_back c d y.seg z y.grows comp in
        let q = eff z (completes_back b c (i ∷ []) z answered mid) t e u h in
        let p = before a b c rs f i x answered z mid s t q.1.0 (stands_front z front y.seg a.kept s t st) q.1.1 in (
          length x.seg,
          p.to,
          (λ answer. with_value p.to r (Word answer)),
          omega (arith, length-append x.seg (i ∷ []), length-append front y.seg),
          p.runs.goes,
          q.1.2 p.to p.at p.values,
          λ answer lt.
              let from = with_value p.to r (Word answer) in
              let place : from.place ≡ s.place + length front = omega (arith, p.runs.place, length-append x.seg (i ∷ [])) in
              let new : Mirrors z b.kept from t = mirrors_value z b.kept p.to t r (Word answer)
              (λ y id k e. apart b c (i ∷ []) z y id answered mid k (one_defines i r type id one (sym e)))
              (λ y id k e. let lt = add.kept_below y id k in absurd (omega (arith, lt, e, add.result))) p.mirrors in
              let o = y.law z comp from t (with_scratch t n answer) answer
              (record {
                here = subst (λ q. HasAt z.machine.code q y.seg) (sym place) (code_back z.machine.code s.place front y.seg st.here);
                mirrors = subst (λ k. Mirrors z k from t) (sym add.kept) new;
                words = st.words;
              }) (at_same p.to.values r (Some (Word answer))) refl in
              record {
                front = front;
                back = y.seg;
                parts = refl;
                place = place;
                to = o.0;
                goes = o.1;
                behind = record {
                  place = omega (arith, o.2.place, place, length-append front y.seg);
                  mirrors = subst (Mirrors z d.kept o.0) (sym (ap (λ (g : ℕ → Words). g answer) q.0)) o.2.mirrors;
                };
              },
        );
  }
