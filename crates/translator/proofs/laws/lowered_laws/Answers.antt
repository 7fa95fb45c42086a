use Rattle.translator.proofs.Meaning.{Laws}
use Rattle.translator.proofs.Meaning as meaning
use Rattle.translator.proofs.laws.lowered_laws.Goals as goal

-- src/laws.rt
pub returns : goal.returns
returns c =
    let finishes = c.finished_laws.ensures in
    let flows = c.form_laws.ensures in
    let forms = c.form_laws-2.ensures in
    let growth = c.growth_laws.ensures in
    let lanes = c.lane_laws.ensures in
    let places = c.placed_laws.ensures in
    let raises = c.raised_lane_laws.ensures in
    let setup = c.setup_laws.ensures in
    let shapes = c.shape_laws.ensures in
    let texts = c.text_laws.ensures in
    let words = c.program_word_laws.ensures in
    let laws : Laws = record {
      finishes = record {
        whole = finishes.whole;
        linked = finishes.linked;
        completes = finishes.completes;
        opens = finishes.opens;
      };
      flows = record { keeps = flows.keeps; unmarked = flows.unmarked; fitted = flows.fitted; form = flows.form };
      forms = record {
        sections = forms.sections;
        single = forms.single;
        types = forms.types;
        sorts = forms.sorts;
        variables = forms.variables;
        interface = forms.interface;
        instructions = forms.instructions;
      };
      growth = record {
        kept = growth.kept;
        later = growth.later;
        on = growth.on;
        itself = growth.itself;
        taken = growth.taken;
      };
      lanes = record { labels = lanes.labels; same = lanes.same; turns = lanes.turns };
      places = record { placed = places.placed; named = places.named };
      raises = record { same = raises.same; turns = raises.turns };
      runs = record { holds = c.same_laws.ensures };
      setup = record {
        fits = setup.fits;
        found = setup.found;
        places = setup.places;
        wanted = setup.wanted;
        spaces = setup.spaces;
        names = setup.names;
        few = setup.few;
        interface = setup.interface;
        small = setup.small;
      };
      shapes = record { shown = shapes.shown; front = shapes.front };
      sizes = record { holds = c.size_laws.ensures };
      texts = record { append = texts.append; determined = texts.determined };
      trees = record { holds = c.raised_tree_laws.ensures };
      words = record { program = words.program; instructions = words.instructions };
    } in
    record {
      means = λ bytes content p bindings version tree e cs body chunk can spelled l.
          meaning.means laws p bindings version tree e cs body can l bytes content chunk spelled;
      lent = λ bytes content p bindings version tree e cs body chunk can spelled l.
          meaning.lent laws p bindings version tree e cs body can l bytes content chunk spelled;
      ordered = λ bytes content p bindings version tree e cs body chunk can spelled l.
          meaning.ordered laws p bindings version tree e cs body can l;
    }
