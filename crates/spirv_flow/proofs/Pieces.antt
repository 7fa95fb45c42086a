-- Pieces of a block's code, as they were emitted: what they add, what is known behind them, and what they do in a finished module.
use Rattle.std.proofs.Common.{◌≡◌, ℕ, ◌+◌, ◌<◌, ◌≤◌, ◌⊎◌, inl, inr, ⊎_elim, List, [], ◌∷◌, ◌++◌, length, Some, Bool, true, false, refl, sym, ap, ◌∙◌, subst, arith, length-append}
use Rattle.std.specs.Prelude.{nat_eq}
use Rattle.std.proofs.lemmas.Bool.Decides.{nat_tests}
use Rattle.word_base.specs.Lanes.{Goes}
use Rattle.kept_values.specs.Tables.{Table}
use Rattle.shader_tree.specs.Terms.{Term}
use Rattle.shader_tree.specs.Values.{Words, truth, word}
use Rattle.shader_tree.specs.Values as tree
use Rattle.spirv_words.specs.Definitions.{results}
use Rattle.spirv_words.specs.Text.{Instr}
use Rattle.spirv_words.specs.Globals.{Places}
use Rattle.spirv_words.specs.Lane.{State, step}
use Rattle.spirv_symbols.specs.declared.entry.Entry.{Entry}
use Rattle.spirv_symbols.specs.declared.symbol.TypeSymbol.{TypeSymbol}
use Rattle.spirv_emit.specs.Code.{Typed, In, IsOf, Covers, CoversKept, values, typed, known_by, known_behind, behind, typed_result}
use Rattle.spirv_emit.specs.Emission.{next_of, spaces_of}
use Rattle.spirv_emit.specs.declared.emitter.Emitter.{Emitter as Emission}
use Rattle.spirv_emit.specs.Growing.{Grows, Completes}
use Rattle.spirv_emit.specs.Lanes.{Site, HasAt, Stands}
use Rattle.spirv_emit.specs.Linked.{IsLinked, StandsIn}
use Rattle.spirv_emit.specs.ModuleShape.{shape_of}
use Rattle.spirv_emit.specs.Values.{Slot, slot, Meaning, Gives, Emitted, Flushed, as_value, got_of, valued, nothing, type_of_term}
use Rattle.spirv_flow.specs.Layout.{ArePlain}
use Rattle.spirv_flow.specs.Lowers.{Holds, IsClean, Written, times, AtMost}
use Rattle.spirv_flow.specs.Pieces as pieces
use Rattle.spirv_emit.proofs.Lists.{code_back, code_front}
use Rattle.spirv_emit.proofs.Links.{quiet_both}
use Rattle.spirv_flow.proofs.Composing.{in_right, behind_append, IsGrowth, written_on}
use Rattle.spirv_flow.proofs.Shapes.{in_front, behind as behind_code}
use Rattle.word_base.proofs.Walks.{goes_on}
use Rattle.spirv_flow.proofs.Defined.{results_are_values}
use Rattle.spirv_flow.proofs.Numbers.{once}

-- HOW OFTEN an id is among the results of a piece: once at most, and then it is a new one.
times_or_in : (id : ℕ) (xs : List ℕ) → (times id xs ≡ 0) ⊎ In xs id
times_or_in id [] = inl refl
times_or_in id (x ∷ xs) = ⊎_elim (λ e. at_first (nat_eq x id) refl e) (λ h. inr (inr h)) (times_or_in id xs) where
  at_first : (b : Bool) → nat_eq x id ≡ b → times id xs ≡ 0 → (times id (x ∷ xs) ≡ 0) ⊎ In (x ∷ xs) id
  at_first true e z = inr (inl (grind (arith, nat_tests, e)))
  at_first false e z = inl (grind (arith, nat_tests, e, z))

at_most_by : (id low high n : ℕ) → n ≤ 1 → (n ≡ 0) ⊎ ((low ≤ id) × (id < high)) → AtMost id low high 0 0 n
at_most_by id low high n h w = grind arith

pub piece_once : (a b : Emission) (seg : List Instr) → Grows a b seg → ArePlain seg → (id : ℕ) → AtMost id (next_of a) (next_of b) 0 0
    (times id (results seg))
piece_once a b seg g plain id =
    let e = results_are_values seg plain g.instructions in
    let f : times id (results seg) ≡ times id (values seg) = ap (times id) e in
    let few = once id (values seg) g.distinct in
    at_most_by id (next_of a) (next_of b) (times id (results seg)) (omega (arith, f, few))
    (⊎_elim (λ z. inl (f ∙ z)) (λ h. let r = g.fresh id h in inr (r.0, r.1)) (times_or_in id (values seg)))

-- A PIECE of straight code.
pub record Piece (old new : Emission) (code : List Instr) : Type 0 where
  pub plain : ArePlain code
  pub written : Written old new code
  pub quiet : (z : Site) (places : Places) → Completes new z → IsLinked z places → StandsIn z code → shape_of z.machine.code places code ≡ []

pub gives_piece : (a b : Emission) (rs : List Slot) (f : Meaning) (g : Gives a b [] rs f) → ArePlain g.seg → Piece a b g.seg
gives_piece a b rs f g plain = record {
  plain = plain;
  written = record {
    grows = g.grows;
    known = λ z w globals known cg ck kept. let k = g.known z w globals known ck kept tt in record { typed = k.typed; kept = k.kept };
  };
  quiet = λ z places w linked here. (g.quiet z places w linked here tt).none;
}

-- the id of a value is known behind a piece, and stays known behind straight code
pub record Results (old new : Emission) (code : List Instr) (r : ℕ) (type : TypeSymbol) : Type 0 where
  pub result : (z : Site) → Completes new z → (globals known : List Typed) → Covers z.names z.frame.context globals → Covers z.names z.frame.context
      known
      → CoversKept z.names old.kept known → IsOf z.names (behind globals known code) type r

-- straight code forgets nothing
remembers : (names : List Entry) (globals known : List Typed) (code : List Instr) (x : Typed) → ArePlain code → In known x
    → In (behind globals known code) x
remembers names globals known [] x p h = h
remembers names globals known (i ∷ is) x p h =
    remembers names globals (known_behind globals known i) is x p.1
    (subst (λ f. In (known_by f globals (typed_result i ++ known)) x) (sym p.0.0) (in_right (typed_result i) known x h))

pub remembers_of : (names : List Entry) (globals known : List Typed) (code : List Instr) (type : TypeSymbol) (id : ℕ) → ArePlain code
    → IsOf names known type id
    → IsOf names (behind globals known code) type id
remembers_of names globals known code type id p h = (h.0, h.1, remembers names globals known code (typed id h.0) p h.2)

-- AN EXPRESSION, and what waits was stored behind it.
pub record Front (old new : Emission) (x : Term) (code : List Instr) (r : ℕ) : Type 0 where
  pub piece : Piece old new code
  pub known : Results old new code r (type_of_term x)
  pub law : (z : Site) → Completes new z → (s : State) (w : Words) (v : tree.Value) → HasAt z.machine.code s.place code → Holds z old.kept s w
      → tree.value (spaces_of z.frame) z.machine.setting w x ≡ Some v → pieces.Gives z.machine (Holds z) code new.kept r (as_value v) s w

-- WHAT WAITS was stored.
pub record Flush (old new : Emission) (code : List Instr) : Type 0 where
  pub piece : Piece old new code
  pub law : (z : Site) → Completes new z → pieces.Passes z.machine (Holds z) code old.kept new.kept
  pub clean : IsClean new.kept

standing : (z : Site) (code : List Instr) (table : Table) (s : State) (w : Words) → HasAt z.machine.code s.place code → Holds z table s w
    → Stands z code table s w
standing z code table s w here h = record { here = here; mirrors = h.mirrors; words = h.words }

module _ (growth : IsGrowth) where
  -- TWO PIECES, one behind the other.
  pub both_pieces : (a b c : Emission) (x y : List Instr) → Piece a b x → Piece b c y → Piece a c (x ++ y)
  both_pieces a b c x y g h = record {
    plain = plain_both x y g.plain h.plain;
    written = written_on growth a b c x y g.written h.written;
    quiet = λ z places w linked here.
        quiet_both z.machine.code places x y
        (g.quiet z places (growth.back b c y z h.written.grows w) linked (in_front z x y here))
        (h.quiet z places w linked (behind_code z x y here));
  } where
    plain_both : (x y : List Instr) → ArePlain x → ArePlain y → ArePlain (x ++ y)
    plain_both [] y p q = q
    plain_both (i ∷ x) y p q = (p.0, plain_both x y p.1 q)

  result_on : (a b c : Emission) (x y : List Instr) (r : ℕ) (type : TypeSymbol) → Piece a b x → Piece b c y → Results a b x r type
      → Results a c (x ++ y) r type
  result_on a b c x y r type g h k = record {
    result = λ z w globals known cg ck kept.
        let back = growth.back b c y z h.written.grows w in
        subst (λ l. IsOf z.names l type r) (sym (behind_append z.names globals known x y))
        (remembers_of z.names globals (behind globals known x) y type r h.plain (k.result z back globals known cg ck kept));
  }

  pub front : (a b c : Emission) (x : Term) (r : ℕ) (e : Emitted a b x r) (f : Flushed b c) → ArePlain e.gives.seg → ArePlain f.gives.seg
      → Front a c x (e.gives.seg ++ f.gives.seg) r
  front a b c x r e f p q =
      let first = gives_piece a b (slot r (type_of_term x) ∷ []) (valued x) e.gives p in
      let second = gives_piece b c [] nothing f.gives q in
      let x1 = e.gives.seg in
      let x2 = f.gives.seg in
      record {
        piece = both_pieces a b c x1 x2 first second;
        known = result_on a b c x1 x2 r (type_of_term x) first second
            (record { result = λ z w globals known cg ck kept. (e.gives.known z w globals known ck kept tt).results.0 });
        law = λ z w s t v here holds is.
            let back = growth.back b c x2 z f.gives.grows w in
            let one = e.gives.law z back tt s t [] (as_value v ∷ []) (standing z x1 a.kept s t (code_front z.machine.code s.place x1 x2 here) holds) tt
            (ap got_of is) in
            let there = subst (λ n. HasAt z.machine.code n x2) (sym one.runs.place) (code_back z.machine.code s.place x1 x2 here) in
            let two = f.gives.law z w tt one.to t [] [] (record { here = there; mirrors = one.mirrors; words = holds.words }) tt refl in
            let long = length-append x1 x2 in
            record {
              arrives = record {
                to = two.to;
                goes = subst (λ n. Goes (step z.machine) n s two.to) (sym long) (goes_on (step z.machine) (length x1) (length x2) s one.to two.to
                    one.runs.goes two.runs.goes);
                place = two.runs.place ∙ (ap (λ n. n + length x2) one.runs.place ∙ omega (arith, long));
                holds = record { mirrors = two.mirrors; words = holds.words };
              };
              value = two.runs.kept r (λ d. let k = f.gives.grows.fresh r d in let l = (e.gives.below tt).0 in absurd (omega (arith, k.0, l))) ∙
                  one.values.0;
            };
      }

  pub flush : (a b : Emission) (f : Flushed a b) → ArePlain f.gives.seg → Flush a b f.gives.seg
  flush a b f q = record {
    piece = gives_piece a b [] nothing f.gives q;
    law = λ z w s t here holds.
        let two = f.gives.law z w tt s t [] [] (standing z f.gives.seg a.kept s t here holds) tt refl in
        record { to = two.to; goes = two.runs.goes; place = two.runs.place; holds = record { mirrors = two.mirrors; words = holds.words } };
    clean = f.clean;
  }
