use Rattle.std.proofs.Common.{◌≡◌, ℕ, ◌+◌, ◌≤◌, List, [], ◌∷◌, ◌++◌, length, get_or, map, take, None, sym, ap, ◌∙◌, subst, arith}
use Rattle.std.specs.Prelude.{Contains}
use Rattle.std.specs.List.Sorted.{IsPermutation}
use Rattle.std.proofs.lemmas.List.{length-map}
use Rattle.std.proofs.lemmas.List.Elements.{Contains-get_or}
use Rattle.std.proofs.lemmas.List.Sorted.{Contains-permutation, length_permutation}
use Rattle.root_signature.specs.declared.covers.Entry.{Entry}
use Rattle.root_signature.specs.declared.covers.Covers.TheVariants.{Constants}
use Rattle.root_signature.specs.Covers.{lowest, highest}
use Rattle.root_signature.specs.Covering.{span_of, spans_of}
use Rattle.root_signature.specs.Overlaps.{Overlapping, AreSome}
use Rattle.root_signature.proofs.Overlapped.{nothing_marked}
use Rattle.root_signature.proofs.Members.{mapped, from_mapped, taken, spans_more, written}
use Rattle.root_signature.proofs.overlaps.overlap_refusal.Goals as goal

abbrev blank : Entry
blank = record { place = 0; covers = Constants 0 0 0 }

has_row : (entries : List Entry) (rows : List ℕ) (e : Entry) → IsPermutation (map (λ e. lowest e.covers) entries) rows → Contains entries e → Contains rows (lowest e.covers)
has_row entries rows e p h = Contains-permutation (map (λ e. lowest e.covers) entries) rows (lowest e.covers) p (mapped (λ e. lowest e.covers) entries e h)

are_some : (entries : List Entry) (rows : List ℕ) (n : ℕ) → IsPermutation (map (λ e. lowest e.covers) entries) rows
    → ((e : Entry) → Contains entries e → lowest e.covers ≤ highest e.covers) → AreSome rows (spans_of (take n entries))
are_some entries rows n p some = λ s h.
    let w : (e : Entry) × (Contains (take n entries) e × (span_of e ≡ s)) = from_mapped span_of (take n entries) s h in
    let m : Contains entries w.0 = taken entries n w.0 w.1.0 in
    subst (λ x. Contains rows x.low × (x.low ≤ x.high)) w.1.1 (has_row entries rows w.0 p m, some w.0 m)

pub loop-entry-init : goal.loop-entry-init
loop-entry-init c =
    subst (λ marks. Overlapping c.in_ok-rows.rows.items [] marks None) (sym c.in_ok-marks.ensures)
    (nothing_marked c.in_ok-rows.rows.items (length c.args.entries.now)
    (sym (length_permutation (map (λ e. lowest e.covers) c.args.entries.now) c.in_ok-rows.rows.items c.in_ok-rows.ensures.moved ∙ length-map c.args.entries.now (λ e. lowest e.covers))))

pub meet-best-requires-clause-has_row : goal.meet-best-requires-clause-has_row
meet-best-requires-clause-has_row c =
    subst (λ rows. Contains rows (lowest (get_or c.args.entries.now c.loop-entry.entry-index blank).covers)) (sym c.deref.ensures.value)
    (has_row c.args.entries.now c.in_ok-rows.rows.items (get_or c.args.entries.now c.loop-entry.entry-index blank) c.in_ok-rows.ensures.moved (Contains-get_or c.args.entries.now c.loop-entry.entry-index blank c.loop-entry-test.true))

pub loop-entry-preserved : goal.loop-entry-preserved
loop-entry-preserved c =
    let some : AreSome c.in_ok-rows.rows.items (spans_of (take c.loop-entry.entry-index c.args.entries.now)) =
    are_some c.args.entries.now c.in_ok-rows.rows.items c.loop-entry.entry-index c.in_ok-rows.ensures.moved c.requires.some in
    let next = c.meet-best.ensures (spans_of (take c.loop-entry.entry-index c.args.entries.now))
    (subst (λ rows. AreSome rows (spans_of (take c.loop-entry.entry-index c.args.entries.now))) (sym c.deref.ensures.value) some)
    (subst (λ rows. Overlapping rows (spans_of (take c.loop-entry.entry-index c.args.entries.now)) c.deref_mut.result.now c.loop-entry.best) (sym c.deref.ensures.value)
    (subst (λ marks. Overlapping c.in_ok-rows.rows.items (spans_of (take c.loop-entry.entry-index c.args.entries.now)) marks c.loop-entry.best) (sym c.deref_mut.ensures.value) c.loop-entry.invariant)) in
    subst (λ marks. Overlapping c.in_ok-rows.rows.items (spans_of (take (c.loop-entry.entry-index + 1) c.args.entries.now)) marks c.meet-best.result)
    (sym (written c.loop-entry.marks.len c.meet-best.new.marks _
    (omega (arith, next.size, c.deref.ensures.value, ap length c.deref.ensures.value, c.loop-entry.invariant.size, c.deref_mut.ensures.len, ap length c.deref_mut.ensures.value))))
    (subst (λ spans. Overlapping c.in_ok-rows.rows.items spans c.meet-best.new.marks c.meet-best.result)
    (sym (spans_more c.args.entries.now c.loop-entry.entry-index blank c.loop-entry-test.true))
    (subst (λ rows. Overlapping rows (spans_of (take c.loop-entry.entry-index c.args.entries.now) ++ span_of (get_or c.args.entries.now c.loop-entry.entry-index blank) ∷ []) c.meet-best.new.marks c.meet-best.result)
    c.deref.ensures.value next))
