use Rattle.std.proofs.Common.{sym, subst}
use Rattle.spirv_symbols.specs.Modules.{module_code}
use Rattle.spirv_symbols.specs.Tables.{Has}
use Rattle.spirv_emit.proofs.Declared.{Known, Bound, has_sort, pointer_sort, word_pointer, bound_there}
use Rattle.spirv_emit.proofs.Links.{single_distinct}
use Rattle.spirv_emit.specs.Finished.{site}
use Rattle.spirv_emit.proofs.Opening.{stands_first}
use Rattle.spirv_emit.proofs.whole.finished_laws.Goals as goal

pub returns-clause-linked : goal.returns-clause-linked
returns-clause-linked x = λ f kind t cs body bound own places setting r b h placed.
    let c = f.context in
    let code = module_code c kind t.entries cs body in
    let m = x.module_laws.ensures in
    let i = x.id_laws.ensures in
    let d = m.defines c kind t cs body r b in
    let k : Known c t.entries code = record {
      sorts = λ y z g. m.sorts c t code y z r.stands d g;
      types = λ u y z g e. m.types c t code u y z r.stands d g e;
      imports = λ z g. m.imports c t code z r.stands d g;
      strides = λ u z bytes g e. m.strides c kind t cs body u z bytes r b g e;
      offsets = λ u z access g e. m.offsets c kind t cs body u z access r b g e;
      founded = λ u z g. i.founded c t u z r.stands g;
      found = λ u z g. i.found c t u z r.stands g;
    } in
    let w = x.room_laws.ensures in
    let bound_as : Bound c t.entries code = record {
      set = λ u z a e g q. w.set c kind t cs body u z a e r b g q;
      binding = λ u z a e g q. w.binding c kind t cs body u z a e r b g q;
      slot = λ slot z g. w.slot c kind t cs body slot z r b g;
    } in
    record {
      distinct = single_distinct bound code (x.form_laws.ensures.single c kind t cs body bound r h);
      types = λ class z g. pointer_sort c t.entries code k class z g;
      variables = λ u class z g e. word_pointer c t.entries code k u class z g e;
      rooms = λ room z g. bound_there c t.entries code places d bound_as placed room z g;
    }

pub returns-clause-whole : goal.returns-clause-whole
returns-clause-whole x = λ f kind t cs body bound places setting r b h s fits.
    let c = f.context in
    let code = module_code c kind t.entries cs body in
    let m = x.module_laws.ensures in
    let i = x.id_laws.ensures in
    let d = m.defines c kind t cs body r b in
    let k : Known c t.entries code = record {
      sorts = λ y z g. m.sorts c t code y z r.stands d g;
      types = λ u y z g e. m.types c t code u y z r.stands d g e;
      imports = λ z g. m.imports c t code z r.stands d g;
      strides = λ u z bytes g e. m.strides c kind t cs body u z bytes r b g e;
      offsets = λ u z access g e. m.offsets c kind t cs body u z access r b g e;
      founded = λ u z g. i.founded c t u z r.stands g;
      found = λ u z g. i.found c t u z r.stands g;
    } in
    record {
      sorted = λ n j e. x.form_laws-2.ensures.sorted code n j (x.form_laws.ensures.sorts c kind t cs body r b s) e;
      defined = λ n j e. x.form_laws-2.ensures.defined bound code n j (x.form_laws.ensures.single c kind t cs body bound r h) e;
      sorts = λ u z g. has_sort c t.entries code k u z g;
      fits = fits;
    }

pub returns-clause-completes : goal.returns-clause-completes
returns-clause-completes x = λ e t z st n f g w.
    let i = x.id_laws.ensures in
    let l = x.growth_laws.ensures in
    let c = z.frame.context in
    record {
      frame = f;
      whole = w;
      has = λ s id h. subst (λ es. Has es s id) (sym n) (l.kept e.symbols t s id g h);
      later = λ s id h. l.later e.symbols t s id g (subst (λ es. Has es s id) n h);
      single = λ s a b h k. i.single c t s a b st (subst (λ es. Has es s a) n h) (subst (λ es. Has es s b) n k);
      apart = λ s y id h k. i.apart c t s y id st (subst (λ es. Has es s id) n h) (subst (λ es. Has es y id) n k);
    }

pub returns-clause-opens : goal.returns-clause-opens
returns-clause-opens x = λ f kind t cs body bound places setting table r b h e.
    let s = x.start_laws.ensures f.context kind t cs body bound places setting r b h in
    record {
      from = s.from;
      first = s.first;
      steps = s.steps;
      to = s.to;
      goes = s.goes;
      stands = stands_first (site f kind t cs body bound places setting) table s.to e s.words _ s.here s.values;
    }
