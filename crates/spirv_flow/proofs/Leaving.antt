-- Statements of one step, from what the calls that wrote them ensure.
use Rattle.std.proofs.Common.{length, ◌≡◌, ℕ, ◌<◌, inl, List, [], ◌∷◌, Option, Some, None, Bool, true, false, refl, sym, ap, arith, length-append}
use Rattle.std.specs.Prelude.{nat_lt, cond, Ok, map}
use Rattle.std.proofs.lemmas.Bool.Decides.{nat_tests}
use Rattle.kept_values.specs.Tables.{IsEmpty}
use Rattle.word_base.specs.declared.event.Act.{Act}
use Rattle.word_base.specs.declared.event.Classes.{Classes}
use Rattle.word_base.specs.declared.event.Event.{Event}
use Rattle.word_base.specs.declared.event.Event.TheVariants as event
use Rattle.word_base.specs.declared.event.Room.{Room}
use Rattle.word_base.specs.declared.event.Scope.{Scope}
use Rattle.word_base.specs.Lanes.{Turn, Silent, Asks}
use Rattle.word_base.specs.Registers.{Registers}
use Rattle.word_base.specs.Settings.{Setting}
use Rattle.shader_tree.specs.Chains.{Run}
use Rattle.shader_tree.specs.Holding.{AreGiven, HoldWords, OfWords, IsOfWords, Keeps}
use Rattle.shader_tree.specs.declared.node.Space.{Space}
use Rattle.shader_tree.specs.Shape.{Item, shape}
use Rattle.shader_tree.specs.Shape as shapes
use Rattle.shader_tree.specs.Terms.{Term}
use Rattle.shader_tree.specs.Terms as term
use Rattle.shader_tree.specs.Values.{Spaces, Words, words, Value, IsWord, IsTruth, size_of, value}
use Rattle.shader_tree.specs.Lane as tree
use Rattle.spirv_words.specs.Memory.{takes_stores}
use Rattle.spirv_words.specs.Text.{Instr}
use Rattle.spirv_words.specs.Definitions.{results}
use Rattle.spirv_words.specs.Globals.{Places}
use Rattle.spirv_words.specs.Lane.{State}
use Rattle.spirv_emit.specs.Code.{Typed, Covers, CoversKept}
use Rattle.spirv_emit.specs.Emission.{next_of, spaces_of}
use Rattle.spirv_emit.specs.declared.emitter.Emitter.{Emitter as Emission}
use Rattle.spirv_emit.specs.Growing.{Grows, Completes}
use Rattle.spirv_emit.specs.Lanes.{Site, HasAt}
use Rattle.spirv_emit.specs.Linked.{IsLinked, StandsIn}
use Rattle.spirv_emit.specs.ModuleShape.{Seen, shape_of}
use Rattle.spirv_emit.specs.Values.{Knowing}
use Rattle.spirv_emit.specs.Blocks.{Alters, Meets, Sets, Writes, Loads, Stores, Atomics, Syncs}
use Rattle.spirv_flow.specs.Layout.{Straight, ArePlain}
use Rattle.spirv_flow.specs.Lowering.{Lowered}
use Rattle.spirv_flow.specs.Lowers.{Holds, IsClean, IsTaken, Lowers, marks, cases_of, default_of, times}
use Rattle.spirv_flow.specs.Pieces.{Answers}
use Rattle.spirv_flow.proofs.Composing.{any_marks}
use Rattle.spirv_flow.proofs.Pieces.{piece_once}
use Rattle.spirv_flow.proofs.Taken.{labels_plain}

-- what is proved of the tree's lane: its words stay words
pub record IsKeeping : Type 0 where
  pub step : (g : Spaces) (s : Setting) (x : tree.State) → AreGiven g s → IsOfWords x → Keeps (tree.step g s x)

is_less : (a b : ℕ) → nat_lt a b ≡ true → a < b
is_less a b h = grind (arith, nat_tests)

module _ (keeping : IsKeeping) where
  -- the state behind a statement holds words
  keeps_words : (z : Site) (a b : Emission) (x : Term) (w : Words) → Completes b z → OfWords x → HoldWords w
      → Keeps (tree.step (spaces_of z.frame) z.machine.setting (tree.state (Run x ∷ []) w 0))
  keeps_words z a b x w full of holds =
      keeping.step (spaces_of z.frame) z.machine.setting (tree.state (Run x ∷ []) w 0) full.whole.fits.given
      (record { chain = (of, tt); words = holds })

  -- A SET.
  does_set : (z : Site) (a b : Emission) (n : ℕ) (v : Term) (h : Alters a b (Sets n v)) → Completes b z → (s : State) (w : Words)
      → HasAt z.machine.code s.place h.seg → Holds z a.kept s w
      → (o : Option Value) → value (spaces_of z.frame) z.machine.setting w v ≡ o
      → Keeps (tree.on_word o (λ x. Silent (tree.state [] (tree.with_scratch w n x) 0)))
      → Answers z.machine (Holds z) (tree.on_word o (λ x. Silent (tree.state [] (tree.with_scratch w n x) 0))) h.seg b.kept s
  does_set z a b n v h full s w here holds None e k = tt
  does_set z a b n v h full s w here holds (Some (IsTruth t)) e k = tt
  does_set z a b n v h full s w here holds (Some (IsWord x)) e k =
      let r = h.law z full s w (tree.with_scratch w n x) (record { here = here; mirrors = holds.mirrors; words = holds.words }) (x, e, refl) in
      record { to = r.0; goes = r.1; place = r.2.place; holds = record { mirrors = r.2.mirrors; words = k.words } }

  -- one piece of straight code that does what the statement says
  leaf : (a b : Emission) (brk cont first : ℕ) (l t : Bool) (x : Term) (seg : List Instr) → marks x ≡ 0 → cases_of x first ≡ []
      → default_of x first ≡ None → Grows a b seg → ArePlain seg
      → ((z : Site) → Completes b z → (globals known : List Typed) → Covers z.names z.frame.context known → CoversKept z.names a.kept known
      → Knowing z.names globals known seg b.kept [])
      → ((z : Site) → Completes b z → Lowered z.machine (Holds z) IsClean IsEmpty (spaces_of z.frame) x (Straight seg) a.kept b.kept)
      → ((z : Site) (places : Places) → Completes b z → IsLinked z places → StandsIn z seg
      → shape_of z.machine.code places seg ≡ map Seen (shape x))
      → Lowers a b brk cont first l t x
  leaf a b brk cont first l t x seg m c d grows plain known law shows = record {
    layout = Straight seg;
    placed = plain;
    cases' = sym c;
    default' = sym d;
    written = record {
      grows = grows;
      known = λ z w globals k cg ck kept. let q = known z w globals k ck kept in
          record { typed = q.typed; kept = q.kept };
    };
    once = λ id. any_marks id (next_of a) (next_of b) first (marks x) (times id (results seg)) (piece_once a b seg grows plain id);
    labels = λ id h. inl (labels_plain (IsTaken a b) seg plain id h);
    law = law;
    shows = shows;
  }

  pub lowers_set : (a b : Emission) (brk cont first : ℕ) (l t : Bool) (n : ℕ) (v : Term) (h : Alters a b (Sets n v)) → ArePlain h.seg
      → OfWords (term.Set n v)
      → Lowers a b brk cont first l t (term.Set n v)
  lowers_set a b brk cont first l t n v h plain of = leaf a b brk cont first l t (term.Set n v) h.seg refl refl refl h.grows plain h.known
      (λ z full. (
        h.seg,
        refl,
        λ s w here holds.
            does_set z a b n v h full s w here holds (value (spaces_of z.frame) z.machine.setting w v) refl
            (keeps_words z a b (term.Set n v) w full of holds.words),
      ))
      h.quiet

  -- A WRITE.
  abbrev wrote : Words → Registers → Turn tree.State
  wrote w r = Silent (tree.state [] (words w.scratch r) 0)

  does_write : (z : Site) (a b : Emission) (space : Space) (at v : Term) (h : Alters a b (Writes space at v)) → Completes b z
      → (s : State) (w : Words) → HasAt z.machine.code s.place h.seg
      → Holds z a.kept s w → (o q : Option Value) → value (spaces_of z.frame) z.machine.setting w at ≡ o → value (spaces_of z.frame) z.machine.setting
      w v ≡ q
      → Keeps (tree.on_word o
      (λ i. tree.on_word q (λ x. tree.within i (size_of (spaces_of z.frame) space) (tree.on_some (tree.with_word w.registers space i x)
      (wrote w)))))
      → Answers z.machine (Holds z)
      (tree.on_word o (λ i. tree.on_word q (λ x. tree.within i (size_of (spaces_of z.frame) space)
      (tree.on_some (tree.with_word w.registers space i x) (wrote w))))) h.seg b.kept s
  does_write z a b space at v h full s w here holds None q e f k = tt
  does_write z a b space at v h full s w here holds (Some (IsTruth t)) q e f k = tt
  does_write z a b space at v h full s w here holds (Some (IsWord i)) None e f k = tt
  does_write z a b space at v h full s w here holds (Some (IsWord i)) (Some (IsTruth t)) e f k = tt
  does_write z a b space at v h full s w here holds (Some (IsWord i)) (Some (IsWord x)) e f k =
      inside (nat_lt i (size_of (spaces_of z.frame) space)) refl (tree.with_word w.registers space i x) refl k where
        inside : (c : Bool) → nat_lt i (size_of (spaces_of z.frame) space) ≡ c → (r : Option Registers) → tree.with_word w.registers space i x ≡ r
            → Keeps (cond c (tree.on_some r (wrote w)) tree.wrong) → Answers z.machine (Holds z) (cond c (tree.on_some r (wrote w)) tree.wrong) h.seg
            b.kept s
        inside false d r y k = tt
        inside true d None y k = tt
        inside true d (Some r) y k =
            let c = h.law z full s w (words w.scratch r) (record { here = here; mirrors = holds.mirrors; words = holds.words })
            (i, x, e, is_less i (size_of (spaces_of z.frame) space) d, f, y, refl) in
            record { to = c.0; goes = c.1; place = c.2.place; holds = record { mirrors = c.2.mirrors; words = k.words } }

  pub lowers_write : (a b : Emission) (brk cont first : ℕ) (l t : Bool) (space : Space) (at v : Term) (h : Alters a b (Writes space at v))
      → ArePlain h.seg → OfWords (term.Write space at v)
      → Lowers a b brk cont first l t (term.Write space at v)
  lowers_write a b brk cont first l t space at v h plain of = leaf a b brk cont first l t (term.Write space at v) h.seg refl refl refl h.grows plain
      h.known
      (λ z full. (
        h.seg,
        refl,
        λ s w here holds.
            does_write z a b space at v h full s w here holds (value (spaces_of z.frame) z.machine.setting w at)
            (value (spaces_of z.frame) z.machine.setting w v) refl refl
            (keeps_words z a b (term.Write space at v) w full of holds.words),
      ))
      h.quiet

  -- EVENTS.
  abbrev asked : Event → (ℕ → Words) → Turn tree.State
  asked e u = Asks e (λ a. tree.state [] (u a) 0)

  met : (z : Site) (a b : Emission) (item : Item) (E : Site → Words → Event → (ℕ → Words) → Type 0) (h : Meets a b item E) → Completes b z → (s : State) (w : Words)
      → HasAt z.machine.code s.place h.seg
      → Holds z a.kept s w → (e : Event) (u : ℕ → Words) → E z w e u → Keeps (asked e u) → Answers z.machine (Holds z) (asked e u) h.seg b.kept s
  met z a b item E h full s w here holds e u x k =
      let r = h.law z full s w e u (record { here = here; mirrors = holds.mirrors; words = holds.words }) x in (
        r.0,
        r.1,
        r.2,
        r.3,
        r.4,
        r.5,
        λ answer lt.
            let c = r.6 answer lt in
            record {
              front = c.front;
              back = c.back;
              parts = c.parts;
              place = c.place;
              arrives = record {
                to = c.to;
                goes = c.goes;
                place = omega (arith, c.behind.place, c.place, ap length c.parts, length-append c.front c.back);
                holds = record { mirrors = c.behind.mirrors; words = (k answer lt).words };
              };
            },
      )

  does_load : (z : Site) (a b : Emission) (n : ℕ) (room : Room) (at : Term) (h : Meets a b (shapes.Loads room) (Loads n room at)) → Completes b z
      → (s : State) (w : Words) → HasAt z.machine.code s.place h.seg
      → Holds z a.kept s w → (o : Option Value) → value (spaces_of z.frame) z.machine.setting w at ≡ o
      → Keeps (tree.on_word o (λ i. tree.within i (z.machine.setting.extent room)
      (asked (event.Load room i) (λ answer. tree.with_scratch w n answer))))
      → Answers z.machine (Holds z)
      (tree.on_word o (λ i. tree.within i (z.machine.setting.extent room) (asked (event.Load room i) (λ answer. tree.with_scratch w n answer))))
      h.seg b.kept s
  does_load z a b n room at h full s w here holds None e k = tt
  does_load z a b n room at h full s w here holds (Some (IsTruth t)) e k = tt
  does_load z a b n room at h full s w here holds (Some (IsWord i)) e k = inside (nat_lt i (z.machine.setting.extent room)) refl k where
    inside : (c : Bool) → nat_lt i (z.machine.setting.extent room) ≡ c
        → Keeps (cond c (asked (event.Load room i) (λ answer. tree.with_scratch w n answer)) tree.wrong)
        → Answers z.machine (Holds z) (cond c (asked (event.Load room i) (λ answer. tree.with_scratch w n answer)) tree.wrong) h.seg b.kept s
    inside false d k = tt
    inside true d k = met z a b (shapes.Loads room) (Loads n room at) h full s w here holds (event.Load room i) (λ answer. tree.with_scratch w n answer)
        (i, e, is_less i (z.machine.setting.extent room) d, refl, refl) k

  pub lowers_load : (a b : Emission) (brk cont first : ℕ) (l t : Bool) (n : ℕ) (room : Room) (at : Term) (h : Meets a b (shapes.Loads room) (Loads n room at))
      → ArePlain h.seg → OfWords (term.Load n room at)
      → Lowers a b brk cont first l t (term.Load n room at)
  lowers_load a b brk cont first l t n room at h plain of = leaf a b brk cont first l t (term.Load n room at) h.seg refl refl refl h.grows plain
      h.known
      (λ z full. (
        h.seg,
        refl,
        λ s w here holds.
            does_load z a b n room at h full s w here holds (value (spaces_of z.frame) z.machine.setting w at) refl
            (keeps_words z a b (term.Load n room at) w full of holds.words),
      ))
      h.shows

  does_store : (z : Site) (a b : Emission) (room : Room) (at v : Term) (h : Meets a b (shapes.Stores room) (Stores room at v)) → takes_stores room ≡ Ok 0 → Completes b z
      → (s : State) (w : Words) → HasAt z.machine.code s.place h.seg
      → Holds z a.kept s w → (o q : Option Value) → value (spaces_of z.frame) z.machine.setting w at ≡ o → value (spaces_of z.frame) z.machine.setting
      w v ≡ q
      → Keeps (tree.on_word o (λ i. tree.on_word q (λ x. tree.within i (z.machine.setting.extent room) (asked (event.Store room i x) (λ answer. w)))))
      → Answers z.machine (Holds z)
      (tree.on_word o (λ i. tree.on_word q (λ x. tree.within i (z.machine.setting.extent room) (asked (event.Store room i x) (λ answer. w)))))
      h.seg b.kept s
  does_store z a b room at v h takes full s w here holds None q e f k = tt
  does_store z a b room at v h takes full s w here holds (Some (IsTruth t)) q e f k = tt
  does_store z a b room at v h takes full s w here holds (Some (IsWord i)) None e f k = tt
  does_store z a b room at v h takes full s w here holds (Some (IsWord i)) (Some (IsTruth t)) e f k = tt
  does_store z a b room at v h takes full s w here holds (Some (IsWord i)) (Some (IsWord x)) e f k = inside (nat_lt i (z.machine.setting.extent room))
      refl k where
        inside : (c : Bool) → nat_lt i (z.machine.setting.extent room) ≡ c → Keeps (cond c (asked (event.Store room i x) (λ answer. w)) tree.wrong)
            → Answers z.machine (Holds z) (cond c (asked (event.Store room i x) (λ answer. w)) tree.wrong) h.seg b.kept s
        inside false d k = tt
        inside true d k = met z a b (shapes.Stores room) (Stores room at v) h full s w here holds (event.Store room i x) (λ answer. w)
            (i, x, e, f, is_less i (z.machine.setting.extent room) d, takes, refl, refl) k

  pub lowers_store : (a b : Emission) (brk cont first : ℕ) (l t : Bool) (room : Room) (at v : Term) (h : Meets a b (shapes.Stores room) (Stores room at v))
      → takes_stores room ≡ Ok 0 → ArePlain h.seg → OfWords (term.Store room at v)
      → Lowers a b brk cont first l t (term.Store room at v)
  lowers_store a b brk cont first l t room at v h takes plain of = leaf a b brk cont first l t (term.Store room at v) h.seg refl refl refl h.grows
      plain h.known
      (λ z full. (
        h.seg,
        refl,
        λ s w here holds.
            does_store z a b room at v h takes full s w here holds (value (spaces_of z.frame) z.machine.setting w at)
            (value (spaces_of z.frame) z.machine.setting w v) refl refl
            (keeps_words z a b (term.Store room at v) w full of holds.words),
      ))
      h.shows

  does_atomic : (z : Site) (a b : Emission) (n : ℕ) (room : Room) (at : Term) (kind : Act) (c d : Term) (h : Meets a b (shapes.Changes room kind) (Atomics n room at kind c d))
      → Completes b z → (s : State) (w : Words)
      → HasAt z.machine.code s.place h.seg → Holds z a.kept s w → (o p q : Option Value) → value (spaces_of z.frame) z.machine.setting w at ≡ o
      → value (spaces_of z.frame) z.machine.setting w c ≡ p → value (spaces_of z.frame) z.machine.setting w d ≡ q
      → Keeps (tree.on_word o (λ i. tree.on_word p (λ x. tree.on_word q (λ y. tree.within i (z.machine.setting.extent room)
      (asked (event.Atomic room i kind x (tree.second_operand kind y)) (λ answer. tree.with_scratch w n answer))))))
      → Answers z.machine (Holds z) (tree.on_word o (λ i. tree.on_word p (λ x. tree.on_word q (λ y. tree.within i (z.machine.setting.extent room)
      (asked (event.Atomic room i kind x (tree.second_operand kind y)) (λ answer. tree.with_scratch w n answer)))))) h.seg b.kept s
  does_atomic z a b n room at kind c d h full s w here holds None p q e f g k = tt
  does_atomic z a b n room at kind c d h full s w here holds (Some (IsTruth t)) p q e f g k = tt
  does_atomic z a b n room at kind c d h full s w here holds (Some (IsWord i)) None q e f g k = tt
  does_atomic z a b n room at kind c d h full s w here holds (Some (IsWord i)) (Some (IsTruth t)) q e f g k = tt
  does_atomic z a b n room at kind c d h full s w here holds (Some (IsWord i)) (Some (IsWord x)) None e f g k = tt
  does_atomic z a b n room at kind c d h full s w here holds (Some (IsWord i)) (Some (IsWord x)) (Some (IsTruth t)) e f g k = tt
  does_atomic z a b n room at kind c d h full s w here holds (Some (IsWord i)) (Some (IsWord x)) (Some (IsWord y)) e f g k =
      inside (nat_lt i (z.machine.setting.extent room)) refl k where
        inside : (r : Bool) → nat_lt i (z.machine.setting.extent room) ≡ r
            → Keeps (cond r (asked (event.Atomic room i kind x (tree.second_operand kind y)) (λ answer. tree.with_scratch w n answer)) tree.wrong)
            → Answers z.machine (Holds z)
            (cond r (asked (event.Atomic room i kind x (tree.second_operand kind y)) (λ answer. tree.with_scratch w n answer)) tree.wrong) h.seg
            b.kept s
        inside false u k = tt
        inside true u k = met z a b (shapes.Changes room kind) (Atomics n room at kind c d) h full s w here holds (event.Atomic room i kind x (tree.second_operand kind y))
            (λ answer. tree.with_scratch w n answer)
            (i, x, y, e, f, g, is_less i (z.machine.setting.extent room) u, refl, refl) k

  pub lowers_atomic : (a b : Emission) (brk cont first : ℕ) (l t : Bool) (n : ℕ) (room : Room) (at : Term) (kind : Act) (c d : Term)
      (h : Meets a b (shapes.Changes room kind) (Atomics n room at kind c d)) → ArePlain h.seg
      → OfWords (term.Atomic n room at kind c d) → Lowers a b brk cont first l t (term.Atomic n room at kind c d)
  lowers_atomic a b brk cont first l t n room at kind c d h plain of = leaf a b brk cont first l t (term.Atomic n room at kind c d) h.seg refl refl
      refl h.grows plain h.known
      (λ z full. (
        h.seg,
        refl,
        λ s w here holds.
            does_atomic z a b n room at kind c d h full s w here holds (value (spaces_of z.frame) z.machine.setting w at)
            (value (spaces_of z.frame) z.machine.setting w c)
            (value (spaces_of z.frame) z.machine.setting w d) refl refl refl
            (keeps_words z a b (term.Atomic n room at kind c d) w full of holds.words),
      ))
      h.shows

  pub lowers_sync : (a b : Emission) (brk cont first : ℕ) (l t : Bool) (threads : Bool) (scope : Scope) (classes : Classes)
      (h : Meets a b (cond threads shapes.Waits shapes.Fences) (Syncs threads scope classes)) → ArePlain h.seg
      → Lowers a b brk cont first l t (term.Sync threads scope classes)
  lowers_sync a b brk cont first l t threads scope classes h plain = leaf a b brk cont first l t (term.Sync threads scope classes) h.seg refl refl
      refl h.grows plain h.known
      (λ z full. (
        h.seg,
        refl,
        λ s w here holds.
            met z a b (cond threads shapes.Waits shapes.Fences) (Syncs threads scope classes) h full s w here holds (tree.sync threads scope classes) (λ answer. w) (refl, refl)
            (keeps_words z a b (term.Sync threads scope classes) w full refl holds.words),
      ))
      h.shows
