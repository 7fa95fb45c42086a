use Rattle.std.proofs.Common.{◌≡◌, ◌+◌, ◌-◌, ◌∙◌, suc, ap, length, arith, subst}
use Rattle.std.specs.Prelude.{vec_len}
use Rattle.outside.specs.Held.{OutputsValue, EndsAt}
use Rattle.outside.proofs.Standing.{grown_value, grown_stands, ends_set, last_place}
use Rattle.outside.proofs.outputs.Outputs.add.Goals as goal

pub invariant_of-self : goal.invariant_of-self
invariant_of-self c =
    let last : suc (c.len-last.result - 1) ≡ length c.self.inside.spans.items = last_place c.args.self.now c.self.inside.held.items c.self.inside.spans.items _ _ c.len-last.result c.self.view_is c.requires.begun (c.len-last.ensures ∙ c.self.inside.spans.ok.0) in
    let end : c.len.result ≡ length c.self.inside.held.items + length c.args.piece.now =
    c.len.ensures ∙ c.in-Ok.ensures.len ∙ ap (λ n. n + length c.args.piece.now) c.self.inside.held.ok.0 in
    let left : c.self.inside.room - vec_len c.self.inside.held ≡ c.args.self.now.room = ap (λ (v : OutputsValue). v.room) c.self.view_is in
    record {
      fits = omega (arith, c.in-Ok.ensures.len, c.requires.room, left, c.self.invariant.fits);
      there = omega (arith, c.in-Ok.ensures.capacity, c.self.invariant.there);
      few = c.self.invariant.few;
      places = c.self.invariant.places;
      stand = rw (c.in-Ok.ensures.items, end) (grown_stands c.self.inside.held.items c.args.piece.now c.self.inside.spans.items (c.len-last.result - 1) c.index_mut.result.now last c.self.invariant.stand c.index_mut.ensures.value);
      ends = ends_set c.self.inside.spans.items (c.len-last.result - 1) _ _ last c.len.ensures;
    }

pub returns : goal.returns
returns c =
    let last : suc (c.len-last.result - 1) ≡ length c.self.inside.spans.items = last_place c.args.self.now c.self.inside.held.items c.self.inside.spans.items _ _ c.len-last.result c.self.view_is c.requires.begun (c.len-last.ensures ∙ c.self.inside.spans.ok.0) in
    let end : c.len.result ≡ length c.self.inside.held.items + length c.args.piece.now =
    c.len.ensures ∙ c.in-Ok.ensures.len ∙ ap (λ n. n + length c.args.piece.now) c.self.inside.held.ok.0 in
    let ends : EndsAt c.self.inside.spans.items (length c.self.inside.held.items) = subst (EndsAt c.self.inside.spans.items) c.self.inside.held.ok.0 c.self.invariant.ends in
    grown_value c.args.self.now c.self.inside.held.items c.extend_from_slice.new.self.items c.args.piece.now c.self.inside.spans.items (c.len-last.result - 1) c.len.result c.index_mut.result.now c.self.inside.room c.self.inside.most (vec_len c.self.inside.held) (vec_len c.extend_from_slice.new.self) (vec_len c.self.inside.spans) c.self.view_is last c.self.invariant.stand ends c.index_mut.ensures.value c.in-Ok.ensures.items end c.in-Ok.ensures.len
