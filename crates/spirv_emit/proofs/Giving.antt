-- Pieces of code one behind the other.
use Rattle.std.proofs.Common.{◌≡◌, ℕ, zero, suc, ◌≤◌, inl, inr, List, [], ◌∷◌, ◌++◌, Option, Some, refl, sym, ap, ◌∙◌, subst, arith}
use Rattle.std.specs.Prelude.{slice_get, Ok, Err}
use Rattle.word_base.specs.declared.event.Room.{Room}
use Rattle.kept_values.specs.declared.word.Word.{Word as Kept}
use Rattle.kept_values.specs.Tables.{Table, id_in}
use Rattle.shader_tree.specs.Values.{Words}
use Rattle.shader_tree.specs.Holding.{HoldWords}
use Rattle.spirv_words.specs.Globals.{Places}
use Rattle.spirv_words.specs.Ids.{ids_of}
use Rattle.spirv_words.specs.Text.{Instr}
use Rattle.spirv_words.specs.Values.{Value, Got, and_then}
use Rattle.spirv_words.specs.Lane.{State, step, sets, with_value}
use Rattle.spirv_symbols.specs.declared.symbol.Symbol.{Symbol}
use Rattle.spirv_symbols.specs.declared.symbol.Symbol.TheVariants.{AType}
use Rattle.spirv_symbols.specs.declared.symbol.TypeSymbol.{TypeSymbol}
use Rattle.spirv_symbols.specs.Contexts.{Context}
use Rattle.spirv_symbols.specs.declared.entry.Entry.{Entry}
use Rattle.spirv_symbols.specs.Tables.{Has}
use Rattle.spirv_emit.specs.Emission.{Emission, Frame, next_of}
use Rattle.spirv_emit.specs.Code.{In, Typed, typed, typed_result, IsPlain, ArePlain, known_by, known_behind, behind, IsOf, IsTyped, Covers, CoversKept, type_of_symbol}
use Rattle.spirv_emit.specs.Lanes.{Site, Mirrors, meaning, Stands}
use Rattle.spirv_emit.specs.Growing.{Grows, Completes}
use Rattle.spirv_emit.specs.Linked.{IsLinked, StandsIn}
use Rattle.spirv_emit.specs.ModuleShape.{marks_of, pointer_room}
use Rattle.spirv_emit.specs.Values.{Slot, slot, AreValues, AreBelow, AreKnown, HaveClasses, Runs, Reaches, Knowing, Quiet, Meaning, Gives}
use Rattle.spirv_emit.specs.Joins.{at_place, with_item, picked, given, always, joined, only}
use Rattle.spirv_emit.specs.Steps.{Named, Adds}
use Rattle.spirv_emit.proofs.Links as links
use Rattle.spirv_emit.proofs.Links.{quiet_both, shape_one, classes_append, classes_picked, value_sort, value_class, symbol_class}
use Rattle.spirv_emit.proofs.Lists.{in_back, each_append, behind_append, typed_append}
use Rattle.spirv_emit.proofs.Growth.{grows_on, completes_back, apart, add_grows, at_same, at_other, runs_none, runs_on, runs_one, stands_front, stands_back, one_defines}

-- RESULTS that were got.
pub and_then_ok : {X Y : Type 0} (g : Got X) (f : X → Got Y) (w : Y) → and_then g f ≡ Ok w → (x : X) × (g ≡ Ok x) × (f x ≡ Ok w)
and_then_ok (Ok x) f w h = (x, refl, h)
and_then_ok (Err r) f w h = absurd (cc h)

abbrev the_got : {X : Type 0} → X → Got X
the_got x = Ok x

pub ok_same : {X : Type 0} (x y : X) → the_got x ≡ Ok y → x ≡ y
ok_same x y h = cc h

-- LISTS OF IDS.
pub values_append : (f : ℕ → Option Value) (xs ys : List Slot) (vs us : List Value) → AreValues f xs vs → AreValues f ys us → AreValues f (xs ++ ys)
    (vs ++ us)
values_append f [] ys [] us a b = b
values_append f [] ys (v ∷ vs) us a b = absurd a
values_append f (x ∷ xs) ys [] us a b = absurd a
values_append f (x ∷ xs) ys (v ∷ vs) us a b = (a.0, values_append f xs ys vs us a.1 b)

pub below_append : (n : ℕ) (xs ys : List Slot) → AreBelow n xs → AreBelow n ys → AreBelow n (xs ++ ys)
below_append n [] ys a b = b
below_append n (x ∷ xs) ys a b = (a.0, below_append n xs ys a.1 b)

pub below_up : (n k : ℕ) (xs : List Slot) → n ≤ k → AreBelow n xs → AreBelow k xs
below_up n k [] le a = tt
below_up n k (x ∷ xs) le a = (omega (arith, le, a.0), below_up n k xs le a.1)

pub known_append : (names : List Entry) (known : List Typed) (xs ys : List Slot) → AreKnown names known xs → AreKnown names known ys
    → AreKnown names known (xs ++ ys)
known_append names known [] ys a b = b
known_append names known (x ∷ xs) ys a b = (a.0, known_append names known xs ys a.1 b)

-- the value, bound and type of one at a place
value_place : (f : ℕ → Option Value) (xs : List Slot) (vs : List Value) (p : ℕ) (ys : List Slot) (us : List Value) → AreValues f xs vs
    → AreValues f ys us
    → AreValues f (with_item (at_place xs p) ys) (with_item (at_place vs p) us)
value_place f [] [] p ys us a b = b
value_place f [] (v ∷ vs) p ys us a b = absurd a
value_place f (x ∷ xs) [] p ys us a b = absurd a
value_place f (x ∷ xs) (v ∷ vs) zero ys us a b = (a.0, b)
value_place f (x ∷ xs) (v ∷ vs) (suc p) ys us a b = value_place f xs vs p ys us a.1 b

pub values_picked : (f : ℕ → Option Value) (ps : List ℕ) (xs : List Slot) (vs : List Value) → AreValues f xs vs → AreValues f (picked ps xs)
    (picked ps vs)
values_picked f [] xs vs a = tt
values_picked f (p ∷ ps) xs vs a = value_place f xs vs p (picked ps xs) (picked ps vs) a (values_picked f ps xs vs a)

below_place : (n : ℕ) (xs : List Slot) (p : ℕ) (ys : List Slot) → AreBelow n xs → AreBelow n ys → AreBelow n (with_item (at_place xs p) ys)
below_place n [] p ys a b = b
below_place n (x ∷ xs) zero ys a b = (a.0, b)
below_place n (x ∷ xs) (suc p) ys a b = below_place n xs p ys a.1 b

pub below_picked : (n : ℕ) (ps : List ℕ) (xs : List Slot) → AreBelow n xs → AreBelow n (picked ps xs)
below_picked n [] xs a = tt
below_picked n (p ∷ ps) xs a = below_place n xs p (picked ps xs) a (below_picked n ps xs a)

known_place : (names : List Entry) (known : List Typed) (xs : List Slot) (p : ℕ) (ys : List Slot) → AreKnown names known xs → AreKnown names known ys
    → AreKnown names known (with_item (at_place xs p) ys)
known_place names known [] p ys a b = b
known_place names known (x ∷ xs) zero ys a b = (a.0, b)
known_place names known (x ∷ xs) (suc p) ys a b = known_place names known xs p ys a.1 b

pub known_picked : (names : List Entry) (known : List Typed) (ps : List ℕ) (xs : List Slot) → AreKnown names known xs → AreKnown names known
    (picked ps xs)
known_picked names known [] xs a = tt
known_picked names known (p ∷ ps) xs a = known_place names known xs p (picked ps xs) a (known_picked names known ps xs a)

-- WHAT STAYS. All that is known is known behind code of one block.
pub plain_behind : (g k : List Typed) (i : Instr) → IsPlain i → known_behind g k i ≡ typed_result i ++ k
plain_behind g k i h = ap (λ f. known_by f g (typed_result i ++ k)) h.0

pub stays : (g k : List Typed) (seg : List Instr) (x : Typed) → ArePlain seg → In k x → In (behind g k seg) x
stays g k [] x h i = i
stays g k (j ∷ seg) x h i =
    stays g (known_behind g k j) seg x h.1 (subst (λ l. In l x) (sym (plain_behind g k j h.0)) (in_back (typed_result j) k x i))

pub of_stays : (names : List Entry) (g k : List Typed) (seg : List Instr) (type : TypeSymbol) (x : ℕ) → ArePlain seg → IsOf names k type x
    → IsOf names (behind g k seg) type x
of_stays names g k seg type x h i = (i.0, i.1, stays g k seg (typed x i.0) h i.2)

pub covers_stays : (names : List Entry) (c : Context) (g k : List Typed) (seg : List Instr) → ArePlain seg → Covers names c k → Covers names c
    (behind g k seg)
covers_stays names c g k seg h cover s type id has e = of_stays names g k seg type id h (cover s type id has e)

pub known_stays : (names : List Entry) (g k : List Typed) (seg : List Instr) (xs : List Slot) → ArePlain seg → AreKnown names k xs → AreKnown names
    (behind g k seg) xs
known_stays names g k seg [] h a = tt
known_stays names g k seg (x ∷ xs) h a = (of_stays names g k seg x.type' x.id h a.0, known_stays names g k seg xs h a.1)

-- ids from in front of code keep their values
pub values_stay : (a b : Emission) (seg : List Instr) (z : Site) (s t : State) (xs : List Slot) (vs : List Value) → Grows a b seg → Runs z seg s t
    → AreBelow (next_of a) xs → AreValues s.values xs vs → AreValues t.values xs vs
values_stay a b seg z s t [] [] g r l v = tt
values_stay a b seg z s t [] (v ∷ vs) g r l h = absurd h
values_stay a b seg z s t (x ∷ xs) [] g r l h = absurd h
values_stay a b seg z s t (x ∷ xs) (v ∷ vs) g r l h =
    (r.kept x.id (λ d. let f = g.fresh x.id d in absurd (omega (arith, f.0, l.0))) ∙ h.0, values_stay a b seg z s t xs vs g r l.1 h.1)

-- NO CODE gives what was there.
pub nothing_gives : (a b : Emission) (xs : List Slot) → Grows a b [] → b.kept ≡ a.kept → Gives a b xs xs given
nothing_gives a b xs g kept = record {
  seg = [];
  grows = g;
  plain = tt;
  below = λ l. below_up (next_of a) (next_of b) xs g.next l;
  known = λ z comp gl k cover keeps is. record { typed = tt; kept = subst (λ t. CoversKept z.names t k) (sym kept) keeps; results = is };
  quiet = λ z places comp linked here is. record { none = refl; classes = is };
  law = λ z comp l s t vs ws st v e. record {
    to = s;
    runs = runs_none z s;
    mirrors = subst (λ x. Mirrors z x s t) (sym kept) st.mirrors;
    values = subst (AreValues s.values xs) (ok_same vs ws e) v;
  };
}

-- in a finished module the id is a pointer that leads to the room
abbrev pub Leads : (a b : Emission) (xs rs : List Slot) (f : Meaning) → Gives a b xs rs f → Room → ℕ → Type 0
Leads a b xs rs f g room p =
    (z : Site) (places : Places) → Completes b z → IsLinked z places → StandsIn z g.seg → pointer_room z.machine.code places p ≡ Some room

-- ONE BEHIND THE OTHER.
module _ (a b c : Emission) (xs ys zs ws : List Slot) (f h : Meaning) (ps : List ℕ) (x : Gives a b xs ys f) (y : Gives b c zs ws h)
    (e : picked ps ys ≡ zs) where
  joined_known : (z : Site) → Completes c z → (g k : List Typed) → Covers z.names z.frame.context k → CoversKept z.names a.kept k
      → AreKnown z.names k xs
      → Knowing z.names g k (x.seg ++ y.seg) c.kept (ws ++ ys)
  joined_known z comp g k cover keeps is =
      let p = x.known z (completes_back b c y.seg z y.grows comp) g k cover keeps is in
      let q = y.known z comp g (behind g k x.seg) (covers_stays z.names z.frame.context g k x.seg x.plain cover) p.kept
      (subst (AreKnown z.names (behind g k x.seg)) e (known_picked z.names (behind g k x.seg) ps ys p.results)) in
      let same = sym (behind_append g k x.seg y.seg) in
      record {
        typed = typed_append z.names g k x.seg y.seg p.typed q.typed;
        kept = subst (CoversKept z.names c.kept) same q.kept;
        results = subst (λ l. AreKnown z.names l (ws ++ ys)) same
            (known_append z.names (behind g (behind g k x.seg) y.seg) ws ys q.results
            (known_stays z.names g (behind g k x.seg) y.seg ys y.plain p.results));
      }

  joined_quiet : (z : Site) (places : Places) → Completes c z → IsLinked z places → StandsIn z (x.seg ++ y.seg) → HaveClasses z.machine.code xs
      → Quiet z places (x.seg ++ y.seg) (ws ++ ys)
  joined_quiet z places comp linked here is =
      let p = x.quiet z places (completes_back b c y.seg z y.grows comp) linked (links.stands_front z x.seg y.seg here) is in
      let q = y.quiet z places comp linked (links.stands_back z x.seg y.seg here)
      (subst (HaveClasses z.machine.code) e (classes_picked z.machine.code ps ys p.classes)) in
      record {
        none = quiet_both z.machine.code places x.seg y.seg p.none q.none;
        classes = classes_append z.machine.code ws ys q.classes p.classes;
      }

  joined_law : (z : Site) → Completes c z → AreBelow (next_of a) xs → (s : State) (t : Words) (vs rs : List Value)
      → Stands z (x.seg ++ y.seg) a.kept s t → AreValues s.values xs vs → joined f ps h z t vs ≡ Ok rs → Reaches z (x.seg ++ y.seg) c.kept
      (ws ++ ys) rs s t
  joined_law z comp l s t vs rs st v q =
      let m = and_then_ok (f z t vs) _ rs q in
      let n = and_then_ok (h z t (picked ps m.0)) _ rs m.2 in
      let one = x.law z (completes_back b c y.seg z y.grows comp) l s t vs m.0 (stands_front z x.seg y.seg a.kept s t st) v m.1 in
      let mid = x.below l in
      let two = y.law z comp (subst (AreBelow (next_of b)) e (below_picked (next_of b) ps ys mid)) one.to t (picked ps m.0) n.0
      (stands_back z x.seg y.seg a.kept b.kept s one.to t st one.runs one.mirrors)
      (subst (λ l. AreValues one.to.values l (picked ps m.0)) e (values_picked one.to.values ps ys m.0 one.values)) n.1 in
      record {
        to = two.to;
        runs = runs_on z x.seg y.seg s one.to two.to one.runs two.runs;
        mirrors = two.mirrors;
        values = subst (AreValues two.to.values (ws ++ ys)) (ok_same (n.0 ++ m.0) rs n.2)
            (values_append two.to.values ws ys n.0 m.0 two.values (values_stay b c y.seg z one.to two.to ys m.0 y.grows two.runs mid one.values));
      }

  pub then' : Gives a c xs (ws ++ ys) (joined f ps h)
  then' = record {
    seg = x.seg ++ y.seg;
    grows = grows_on a b c x.seg y.seg x.grows y.grows;
    plain = each_append IsPlain x.seg y.seg x.plain y.plain;
    below = λ l. below_append (next_of c) ws ys
        (y.below (subst (AreBelow (next_of b)) e (below_picked (next_of b) ps ys (x.below l))))
        (below_up (next_of b) (next_of c) ys y.grows.next (x.below l));
    known = joined_known;
    quiet = joined_quiet;
    law = joined_law;
  }

  -- pointers of either piece
  pub leads_front : (room : Room) (p : ℕ) → Leads a b xs ys f x room p → Leads a c xs (ws ++ ys) (joined f ps h) then' room p
  unfolding then'
  leads_front room p leads z places comp linked here =
      leads z places (completes_back b c y.seg z y.grows comp) linked (links.stands_front z x.seg y.seg here)

  pub leads_back : (room : Room) (p : ℕ) → Leads b c zs ws h y room p → Leads a c xs (ws ++ ys) (joined f ps h) then' room p
  unfolding then'
  leads_back room p leads z places comp linked here = leads z places comp linked (links.stands_back z x.seg y.seg here)

-- some of the ids
pub only_gives : (a b : Emission) (xs ys zs : List Slot) (f : Meaning) (ps : List ℕ) → Gives a b xs ys f → picked ps ys ≡ zs → Gives a b xs zs
    (only ps f)
only_gives a b xs ys zs f ps x e = record {
  seg = x.seg;
  grows = x.grows;
  plain = x.plain;
  below = λ l. subst (AreBelow (next_of b)) e (below_picked (next_of b) ps ys (x.below l));
  known = λ z comp g k cover keeps is.
      let p = x.known z comp g k cover keeps is in
      record {
        typed = p.typed;
        kept = p.kept;
        results = subst (AreKnown z.names (behind g k x.seg)) e
            (known_picked z.names (behind g k x.seg) ps ys p.results);
      };
  quiet = λ z places comp linked here is.
      let p = x.quiet z places comp linked here is in
      record { none = p.none; classes = subst (HaveClasses z.machine.code) e (classes_picked z.machine.code ps ys p.classes) };
  law = λ z comp l s t vs ws st v q.
      let m = and_then_ok (f z t vs) _ ws q in
      let r = x.law z comp l s t vs m.0 st v m.1 in
      record {
        to = r.to;
        runs = r.runs;
        mirrors = r.mirrors;
        values = subst (AreValues r.to.values zs) (ok_same (picked ps m.0) ws m.2)
            (subst (λ l. AreValues r.to.values l (picked ps m.0)) e (values_picked r.to.values ps ys m.0 r.values));
      };
}

pub only_leads : (a b : Emission) (xs ys zs : List Slot) (f : Meaning) (ps : List ℕ) (x : Gives a b xs ys f) (e : picked ps ys ≡ zs) (room : Room)
    (p : ℕ) → Leads a b xs ys f x room p → Leads a b xs zs (only ps f) (only_gives a b xs ys zs f ps x e) room p
unfolding only_gives
only_leads a b xs ys zs f ps x e room p leads = leads

-- the same by another account of the values
pub weaker : (a b : Emission) (xs ys : List Slot) (f h : Meaning)
    → ((z : Site) → Completes b z → (t : Words) → HoldWords t → (vs ws : List Value) → h z t vs ≡ Ok ws → f z t vs ≡ Ok ws)
    → Gives a b xs ys f → Gives a b xs ys h
weaker a b xs ys f h by x = record {
  seg = x.seg;
  grows = x.grows;
  plain = x.plain;
  below = x.below;
  known = x.known;
  quiet = x.quiet;
  law = λ z comp l s t vs ws st v q. x.law z comp l s t vs ws st v (by z comp t st.words vs ws q);
}

pub weaker_leads : (a b : Emission) (xs ys : List Slot) (f h : Meaning)
    (by : (z : Site) → Completes b z → (t : Words) → HoldWords t → (vs ws : List Value) → h z t vs ≡ Ok ws → f z t vs ≡ Ok ws)
    (x : Gives a b xs ys f) (room : Room) (p : ℕ) → Leads a b xs ys f x room p → Leads a b xs ys h (weaker a b xs ys f h by x) room p
unfolding weaker
weaker_leads a b xs ys f h by x room p leads = leads

-- A SYMBOL'S ID has its meaning.
pub named_gives : (a b : Emission) (s : Symbol) (r : ℕ) (v : Value) (type : TypeSymbol) → meaning s r ≡ Some v → type_of_symbol b.frame.context s ≡
    Some type
    → Named a b s r → Gives a b [] (slot r type ∷ []) (always v)
named_gives a b s r v type m e n = record {
  seg = [];
  grows = n.grows;
  plain = tt;
  below = λ l. (n.below, tt);
  known = λ z comp g k cover keeps is. record {
    typed = tt;
    kept = subst (λ t. CoversKept z.names t k) (sym n.kept) keeps;
    results = (cover s type r (comp.has s r n.has) (subst (λ (f : Frame). type_of_symbol f.context s ≡ Some type) comp.frame e), tt);
  };
  quiet = λ z places comp linked here is. record {
    none = refl;
    classes = (
      symbol_class z places s r type linked (comp.has s r n.has) (subst (λ (f : Frame). type_of_symbol f.context s ≡ Some type) comp.frame e),
      tt,
    );
  };
  law = λ z comp l s' t vs ws st h q. record {
    to = s';
    runs = runs_none z s';
    mirrors = subst (λ x. Mirrors z x s' t) (sym n.kept) st.mirrors;
    values = subst (AreValues s'.values (slot r type ∷ [])) (ok_same (v ∷ []) ws q) (st.mirrors.knows s r v (comp.has s r n.has) m, tt);
  };
}

-- ONE INSTRUCTION with a value.
pub mirrors_value : (z : Site) (table : Table) (s : State) (t : Words) (r : ℕ) (v : Value) → ((n : Symbol) (id : ℕ) → Has z.names n id → id ≡ r → ⊥)
    → ((w : Kept) (id : ℕ) → id_in table w ≡ Some id → id ≡ r → ⊥) → Mirrors z table s t → Mirrors z table (with_value s r v) t
mirrors_value z table s t r v f h x = record {
  knows = λ n id u has m. at_other s.values r id (Some v) (f n id has) ∙ x.knows n id u has m;
  ids = λ w id i u. at_other s.values r id (Some v) (h w id i) ∙ x.ids w id i u;
  inside = x.inside;
  cells = x.cells;
}

pub added_gives : (a d : Emission) (i : Instr) (r t : ℕ) (type : TypeSymbol) (xs : List Slot) (f : Meaning)
    → typed_result i ≡ typed r t ∷ [] → Has a.symbols.entries (AType type) t → IsPlain i → Adds a d i r
    → ((z : Site) → Completes a z → (k : List Typed) → AreKnown z.names k xs → IsTyped z.names k i) → In (ids_of i).results r
    → ((z : Site) (places : Places) → HaveClasses z.machine.code xs → marks_of z.machine.code places i ≡ [])
    → ((z : Site) → Completes a z → (s : State) (u : Words) (vs ws : List Value) → slice_get z.machine.code s.place ≡ Some i
    → AreValues s.values xs vs
    → Mirrors z a.kept s u → f z u vs ≡ Ok ws → (v : Value) × (ws ≡ v ∷ []) × (step z.machine s ≡ sets s r v))
    → Gives a d xs (slot r type ∷ []) f
added_gives a d i r t type xs f e has plain h takes own silent steps =
    let g = add_grows a d i r t e h in
    let back : (z : Site) → Completes d z → Completes a z = λ z comp. completes_back a d (i ∷ []) z g comp in
    record {
      seg = i ∷ [];
      grows = g;
      plain = (plain, tt);
      below = λ l. (omega (arith, h.result, h.next), tt);
      known = λ z comp gl k cover keeps is.
          let b : known_behind gl k i ≡ typed r t ∷ k = plain_behind gl k i plain ∙ ap (λ l. l ++ k) e in
          record {
            typed = (takes z (back z comp) k is, tt);
            kept = λ w id q.
                let o = keeps w id (subst (λ t. id_in t w ≡ Some id) h.kept q) in
                (o.0, o.1, subst (λ l. In l (typed id o.0)) (sym b) (inr o.2));
            results = ((t, (back z comp).has (AType type) t has, subst (λ l. In l (typed r t)) (sym b) (inl refl)), tt);
          };
      quiet = λ z places comp linked here is. record {
        none = shape_one z.machine.code places [] i [] refl (silent z places is);
        classes = (
          value_class z places i r t type linked ((back z comp).has (AType type) t has) (value_sort z places i r t linked here own e),
          tt,
        );
      };
      law = λ z comp l s u vs ws st v q.
          let p = steps z (back z comp) s u vs ws st.here.0 v st.mirrors q in
          let to = with_value s r p.0 in
          let new : Mirrors z a.kept to u = mirrors_value z a.kept s u r p.0
          (λ n id x q. apart a d (i ∷ []) z n id g comp x (one_defines i r t id e (sym q)))
          (λ w id x q. let lt = h.kept_below w id x in absurd (omega (arith, lt, q, h.result))) st.mirrors in
          record {
            to = to;
            runs = runs_one z i s r t p.0 e p.2;
            mirrors = subst (λ x. Mirrors z x to u) (sym h.kept) new;
            values = subst (AreValues to.values (slot r type ∷ [])) (sym p.1) (at_same s.values r (Some p.0), tt);
          };
    }

-- where its instruction is known
pub added_here : (a d : Emission) (i : Instr) (r t : ℕ) (type : TypeSymbol) (xs : List Slot) (f : Meaning)
    → typed_result i ≡ typed r t ∷ [] → Has a.symbols.entries (AType type) t → IsPlain i → Adds a d i r
    → ((z : Site) → Completes a z → (k : List Typed) → AreKnown z.names k xs → IsTyped z.names k i) → In (ids_of i).results r
    → ((z : Site) (places : Places) → HaveClasses z.machine.code xs → marks_of z.machine.code places i ≡ [])
    → ((z : Site) → Completes a z → (s : State) (u : Words) (vs ws : List Value) → slice_get z.machine.code s.place ≡ Some i
    → AreValues s.values xs vs
    → Mirrors z a.kept s u → f z u vs ≡ Ok ws → (v : Value) × (ws ≡ v ∷ []) × (step z.machine s ≡ sets s r v))
    → (g : Gives a d xs (slot r type ∷ []) f) × (g.seg ≡ i ∷ [])
unfolding added_gives
added_here a d i r t type xs f e has plain h takes own silent steps =
    (added_gives a d i r t type xs f e has plain h takes own silent steps, refl)
