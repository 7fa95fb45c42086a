use Rattle.std.proofs.Common.{◌≤◌, refl, arith}
use Rattle.std.specs.Prelude.{nat_eq, false, [], ◌∷◌}
use Rattle.std.proofs.lemmas.Bool.{and_from, eq-eqb}
use Rattle.spirv_words.specs.Text.{is_version}
use Rattle.spirv_symbols.specs.Sorted.{id_of_type}
use Rattle.spirv_symbols.specs.Modules.{module_code, module_of}
use Rattle.spirv_emit.specs.Emission.{next_of}
use Rattle.spirv_emit.specs.Finished.{site}
use Rattle.spirv_flow.specs.Layout.{leave}
use Rattle.spirv_flow.proofs.FormFits.{fitted}
use Rattle.spirv_flow.proofs.FormGlobals.{typed_symbols, covers, of_symbols}
use Rattle.spirv_flow.proofs.FormMarks.{unmarked}
use Rattle.spirv_flow.proofs.FormKeeps.{IsModule, leaves_ids, reads, keeps}
use Rattle.spirv_flow.proofs.FormWritten.{is_written}
use Rattle.spirv_flow.proofs.forms.form_laws.Goals as goal

pub returns-clause-keeps : goal.returns-clause-keeps
returns-clause-keeps q = λ kind old new x t cs bound h fin.
    let f = new.frame in
    let c = f.context in
    let r = fin.ready in
    let i = q.id_laws.ensures in
    let m = q.module_laws.ensures in
    let laws : IsModule c kind t cs bound = record {
      defines = λ body b. m.defines c kind t cs body r b;
      sorts = λ code y z d k. m.sorts c t code y z r.stands d k;
      founded = λ s z k. i.founded c t s z r.stands k;
      found = λ s z k. i.found c t s z r.stands k;
      apart = λ s u z k l. i.apart c t s u z r.stands k l;
      single = λ body ids. q.form_laws.ensures.single c kind t cs body bound r ids;
    } in
    let left = leave ∷ [] in
    let some = fitted f fin.sized in
    let whole = q.finished_laws.ensures.whole f kind t cs left bound some.places some.setting r refl (leaves_ids t bound fin.next) refl
    (some.fits t.entries (module_of c kind t.entries cs left bound)) in
    let z = site f kind t cs left bound some.places some.setting in
    let full = q.finished_laws.ensures.completes new t z r.stands refl refl fin.extends whole in
    let read = reads c kind t cs bound laws left refl in
    let code = module_code c kind t.entries cs left in
    let globals = typed_symbols c (id_of_type t.entries) t.entries in
    let written = is_written old new x h fin.unmarked z full globals fin.empty (covers c t.entries code read) (of_symbols c t.entries code read) in
    let below : next_of new ≤ bound = omega (arith, fin.extends.next', fin.next) in
    keeps c kind t cs bound laws r (next_of old) (next_of new) h.layout written fin.some below fin.next

pub returns-clause-unmarked : goal.returns-clause-unmarked
returns-clause-unmarked q = λ x h. unmarked false false x h

pub returns-clause-fitted : goal.returns-clause-fitted
returns-clause-fitted q = λ f h. fitted f h

pub returns-clause-form : goal.returns-clause-form
returns-clause-form q = λ c kind t cs bound body r k p v.
    let l = q.form_laws.ensures in
    record {
      header = and_from (is_version kind.version) (nat_eq kind.version kind.version) v (eq-eqb kind.version kind.version refl);
      sections = l.sections c kind t cs body r k.in_function;
      single_definition = l.single c kind t cs body bound r k.ids;
      distinct_types = l.types c kind t cs body r k.in_function;
      sorts = l.sorts c kind t cs body r k.in_function k.sorts;
      local_results = k.local_results;
      blocks = k.structured.blocks;
      merges = k.structured.merges;
      branches = k.structured.branches;
      variables = l.variables c kind t cs body r k.in_function p k.variables;
      switch_order = k.structured.switch_order;
      interface = l.interface c kind t cs body r k.in_function;
    }
