use Rattle.std.proofs.Common.{◌≡◌, ◌+◌, ◌-◌, ◌∙◌, ap, refl, length, arith}
use Rattle.std.specs.Prelude.{vec_len, IsUtf8}
use Rattle.outside.specs.Held.{OutputsValue}
use Rattle.outside.proofs.Standing.{begun_value, begun_stands, ends_new}
use Rattle.outside.proofs.outputs.Outputs.begin.Goals as goal

pub invariant_of-self : goal.invariant_of-self
invariant_of-self c =
    let utf8 : IsUtf8 c.as_bytes.result.now = c.as_bytes.ensures.utf8 in
    let start : c.len-start.result ≡ length c.self.inside.held.items = c.len-start.ensures ∙ c.self.inside.held.ok.0 in
    let end : c.len-end.result ≡ length c.self.inside.held.items + length c.as_bytes.result.now =
    c.len-end.ensures ∙ c.in-Ok.ensures.len ∙ ap (λ n. n + length c.as_bytes.result.now) c.self.inside.held.ok.0 in
    let left : c.self.inside.room - vec_len c.self.inside.held ≡ c.args.self.now.room = ap (λ (v : OutputsValue). v.room) c.self.view_is in
    let spare : c.self.inside.most - vec_len c.self.inside.spans ≡ c.args.self.now.spare = ap (λ (v : OutputsValue). v.spare) c.self.view_is in
    let name : length c.as_bytes.result.now ≡ length c.args.name.now = ap length c.as_bytes.ensures.value in
    record {
      fits = omega (arith, c.in-Ok.ensures.len, c.requires.room, left, name, c.self.invariant.fits);
      there = omega (arith, c.in-Ok.ensures.capacity, c.self.invariant.there);
      few = omega (arith, c.in-Ok-push.ensures.len, c.requires.spare, spare, c.self.invariant.few);
      places = omega (arith, c.in-Ok-push.ensures.capacity, c.self.invariant.places);
      stand = rw (c.in-Ok.ensures.items, c.in-Ok-push.ensures.items) (begun_stands c.self.inside.held.items c.as_bytes.result.now c.self.inside.spans.items _ c.self.invariant.stand utf8 start end refl);
      ends = rw c.in-Ok-push.ensures.items (ends_new c.self.inside.spans.items _ _ c.len-end.ensures);
    }

pub returns : goal.returns
returns c =
    let start : c.len-start.result ≡ length c.self.inside.held.items = c.len-start.ensures ∙ c.self.inside.held.ok.0 in
    let end : c.len-end.result ≡ length c.self.inside.held.items + length c.as_bytes.result.now =
    c.len-end.ensures ∙ c.in-Ok.ensures.len ∙ ap (λ n. n + length c.as_bytes.result.now) c.self.inside.held.ok.0 in
    begun_value c.args.self.now c.self.inside.held.items c.extend_from_slice.new.self.items c.as_bytes.result.now c.args.name.now c.self.inside.spans.items c.push.new.self.items _ c.self.inside.room c.self.inside.most (vec_len c.self.inside.held) (vec_len c.extend_from_slice.new.self) (vec_len c.self.inside.spans) (vec_len c.push.new.self) c.self.view_is c.self.invariant.stand start end refl c.as_bytes.ensures.value c.in-Ok.ensures.items c.in-Ok-push.ensures.items c.in-Ok.ensures.len c.in-Ok-push.ensures.len
