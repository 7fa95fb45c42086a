use Rattle.std.proofs.Common.{refl}
use Rattle.binding_map.specs.Fits.{is_null_in}
use Rattle.raise_views.proofs.Affording.{affords_all}
use Rattle.raise_views.proofs.Owing.{names_all, shape_is}
use Rattle.raise_views.proofs.Whole.{performs_all}
use Rattle.raise_views.proofs.laws.guarded_laws.Goals as goal

pub returns : goal.returns
returns c bindings p i able =
    let null = is_null_in bindings in
    let n = names_all c.plain_laws.ensures null p i able in
    record {
      performs = λ setting r fits holds. performs_all c.reading_laws.ensures c.run_laws.ensures null (λ slot. refl) p i able setting r fits holds;
      shape' = shape_is c.plain_laws.ensures null p i able;
      no_flow = n.no_flow;
      threads = n.threads';
      spaces = n.spaces';
      rooms = n.rooms';
      written = n.written';
      changed = n.changed';
      affords = affords_all c.operand_cost_laws.ensures p i able null;
    }
