use Rattle.std.proofs.Common.{sym, ap, ◌∙◌, subst, arith}
use Rattle.spirv_emit.specs.declared.emitter.Emitter.{Emitter as Emission}
use Rattle.spirv_setup.specs.Naming.{MayName, NamesAll}
use Rattle.spirv_setup.specs.Variables.{push_variables}
use Rattle.binding_map.specs.Wanted.{push_words}
use Rattle.spirv_setup.proofs.Ready.{may_begin, may_bound, may_push, may_shared, may_threads, named_all, described_on, set_up, same_on, immediates_on}
use Rattle.spirv_setup.proofs.setup.begin.Goals as goal

pub name_bound-requires : goal.name_bound-requires
name_bound-requires c =
    let m = may_begin c.args.program.now.shader c.args.bindings.now c.args.emitter.now c.describe-pushed.new.emitter c.start.new.self c.describe-pushed.ensures.map c.requires.declared c.describe-pushed.ensures.rest c.start.ensures.begun
    c.start.ensures.globals c.start.ensures.words c.start.ensures.ids c.requires.words c.requires.ids in
    may_bound c.args.program.now.shader c.args.bindings.now c.start.new.self m

pub name_push-requires : goal.name_push-requires
name_push-requires c =
    let m = may_begin c.args.program.now.shader c.args.bindings.now c.args.emitter.now c.describe-pushed.new.emitter c.start.new.self c.describe-pushed.ensures.map c.requires.declared c.describe-pushed.ensures.rest c.start.ensures.begun
    c.start.ensures.globals c.start.ensures.words c.start.ensures.ids c.requires.words c.requires.ids in
    subst (λ w. MayName c.name_bound.new.emitter (push_variables w)) (sym c.describe-pushed.ensures.pushed) (may_push c.args.program.now.shader c.args.bindings.now c.start.new.self m c.name_bound.new.emitter c.name_bound.ensures)

pub name_shared-requires : goal.name_shared-requires
name_shared-requires c =
    let m = may_begin c.args.program.now.shader c.args.bindings.now c.args.emitter.now c.describe-pushed.new.emitter c.start.new.self c.describe-pushed.ensures.map c.requires.declared c.describe-pushed.ensures.rest c.start.ensures.begun
    c.start.ensures.globals c.start.ensures.words c.start.ensures.ids c.requires.words c.requires.ids in
    let push : NamesAll c.name_bound.new.emitter c.name_push.new.emitter (push_variables (push_words c.args.program.now.shader c.args.bindings.now)) =
    subst (λ w. NamesAll c.name_bound.new.emitter c.name_push.new.emitter (push_variables w)) c.describe-pushed.ensures.pushed c.name_push.ensures in
    may_shared c.args.program.now.shader c.args.bindings.now c.start.new.self m c.name_bound.new.emitter c.name_bound.ensures c.name_push.new.emitter push

pub name_threads-requires : goal.name_threads-requires
name_threads-requires c =
    let m = may_begin c.args.program.now.shader c.args.bindings.now c.args.emitter.now c.describe-pushed.new.emitter c.start.new.self c.describe-pushed.ensures.map c.requires.declared c.describe-pushed.ensures.rest c.start.ensures.begun
    c.start.ensures.globals c.start.ensures.words c.start.ensures.ids c.requires.words c.requires.ids in
    let push : NamesAll c.name_bound.new.emitter c.name_push.new.emitter (push_variables (push_words c.args.program.now.shader c.args.bindings.now)) =
    subst (λ w. NamesAll c.name_bound.new.emitter c.name_push.new.emitter (push_variables w)) c.describe-pushed.ensures.pushed c.name_push.ensures in
    may_threads c.args.program.now.shader c.args.bindings.now c.start.new.self m c.name_bound.new.emitter c.name_bound.ensures c.name_push.new.emitter push c.name_shared.new.emitter c.name_shared.ensures

pub name_arrays-requires-clause-words : goal.name_arrays-requires-clause-words
name_arrays-requires-clause-words c =
    let m = may_begin c.args.program.now.shader c.args.bindings.now c.args.emitter.now c.describe-pushed.new.emitter c.start.new.self c.describe-pushed.ensures.map c.requires.declared c.describe-pushed.ensures.rest c.start.ensures.begun
    c.start.ensures.globals c.start.ensures.words c.start.ensures.ids c.requires.words c.requires.ids in
    let push : NamesAll c.name_bound.new.emitter c.name_push.new.emitter (push_variables (push_words c.args.program.now.shader c.args.bindings.now)) =
    subst (λ w. NamesAll c.name_bound.new.emitter c.name_push.new.emitter (push_variables w)) c.describe-pushed.ensures.pushed c.name_push.ensures in
    let all = named_all c.args.program.now.shader c.args.bindings.now c.start.new.self m c.name_bound.new.emitter c.name_bound.ensures c.name_push.new.emitter push c.name_shared.new.emitter c.name_shared.ensures c.growth_laws.ensures.on c.name_threads.new.emitter
    c.name_threads.ensures in
    let code = ap (λ (e : Emission). e.code.capacity) c.describe-pushed.ensures.rest in
    let limit = ap (λ (e : Emission). e.symbols.limit) c.describe-pushed.ensures.rest in
    omega (arith, code, all.words, c.start.ensures.words, c.requires.words)

pub name_arrays-requires-clause-ids : goal.name_arrays-requires-clause-ids
name_arrays-requires-clause-ids c =
    let m = may_begin c.args.program.now.shader c.args.bindings.now c.args.emitter.now c.describe-pushed.new.emitter c.start.new.self c.describe-pushed.ensures.map c.requires.declared c.describe-pushed.ensures.rest c.start.ensures.begun
    c.start.ensures.globals c.start.ensures.words c.start.ensures.ids c.requires.words c.requires.ids in
    let push : NamesAll c.name_bound.new.emitter c.name_push.new.emitter (push_variables (push_words c.args.program.now.shader c.args.bindings.now)) =
    subst (λ w. NamesAll c.name_bound.new.emitter c.name_push.new.emitter (push_variables w)) c.describe-pushed.ensures.pushed c.name_push.ensures in
    let all = named_all c.args.program.now.shader c.args.bindings.now c.start.new.self m c.name_bound.new.emitter c.name_bound.ensures c.name_push.new.emitter push c.name_shared.new.emitter c.name_shared.ensures c.growth_laws.ensures.on c.name_threads.new.emitter
    c.name_threads.ensures in
    let code = ap (λ (e : Emission). e.code.capacity) c.describe-pushed.ensures.rest in
    let limit = ap (λ (e : Emission). e.symbols.limit) c.describe-pushed.ensures.rest in
    omega (arith, limit, all.ids, c.start.ensures.ids, c.requires.ids)

pub name_constants-requires-clause-said : goal.name_constants-requires-clause-said
name_constants-requires-clause-said c =
    let m = may_begin c.args.program.now.shader c.args.bindings.now c.args.emitter.now c.describe-pushed.new.emitter c.start.new.self c.describe-pushed.ensures.map c.requires.declared c.describe-pushed.ensures.rest c.start.ensures.begun
    c.start.ensures.globals c.start.ensures.words c.start.ensures.ids c.requires.words c.requires.ids in
    let push : NamesAll c.name_bound.new.emitter c.name_push.new.emitter (push_variables (push_words c.args.program.now.shader c.args.bindings.now)) =
    subst (λ w. NamesAll c.name_bound.new.emitter c.name_push.new.emitter (push_variables w)) c.describe-pushed.ensures.pushed c.name_push.ensures in
    let all = named_all c.args.program.now.shader c.args.bindings.now c.start.new.self m c.name_bound.new.emitter c.name_bound.ensures c.name_push.new.emitter push c.name_shared.new.emitter c.name_shared.ensures c.growth_laws.ensures.on c.name_threads.new.emitter
    c.name_threads.ensures in
    let said = described_on c.args.program.now.shader c.args.bindings.now c.describe-pushed.new.emitter c.start.new.self c.start.ensures.rest c.describe-pushed.ensures.described in
    immediates_on c.args.program.now.shader c.args.bindings.now c.start.new.self c.name_threads.new.emitter c.name_arrays.new.emitter said c.start.ensures.globals all c.name_arrays.ensures

pub name_constants-requires-clause-words : goal.name_constants-requires-clause-words
name_constants-requires-clause-words c =
    let m = may_begin c.args.program.now.shader c.args.bindings.now c.args.emitter.now c.describe-pushed.new.emitter c.start.new.self c.describe-pushed.ensures.map c.requires.declared c.describe-pushed.ensures.rest c.start.ensures.begun
    c.start.ensures.globals c.start.ensures.words c.start.ensures.ids c.requires.words c.requires.ids in
    let push : NamesAll c.name_bound.new.emitter c.name_push.new.emitter (push_variables (push_words c.args.program.now.shader c.args.bindings.now)) =
    subst (λ w. NamesAll c.name_bound.new.emitter c.name_push.new.emitter (push_variables w)) c.describe-pushed.ensures.pushed c.name_push.ensures in
    let all = named_all c.args.program.now.shader c.args.bindings.now c.start.new.self m c.name_bound.new.emitter c.name_bound.ensures c.name_push.new.emitter push c.name_shared.new.emitter c.name_shared.ensures c.growth_laws.ensures.on c.name_threads.new.emitter
    c.name_threads.ensures in
    let code = ap (λ (e : Emission). e.code.capacity) c.describe-pushed.ensures.rest in
    let limit = ap (λ (e : Emission). e.symbols.limit) c.describe-pushed.ensures.rest in
    omega (arith, code, all.words, c.name_arrays.ensures.words, c.start.ensures.words, c.requires.words)

pub name_constants-requires-clause-ids : goal.name_constants-requires-clause-ids
name_constants-requires-clause-ids c =
    let m = may_begin c.args.program.now.shader c.args.bindings.now c.args.emitter.now c.describe-pushed.new.emitter c.start.new.self c.describe-pushed.ensures.map c.requires.declared c.describe-pushed.ensures.rest c.start.ensures.begun
    c.start.ensures.globals c.start.ensures.words c.start.ensures.ids c.requires.words c.requires.ids in
    let push : NamesAll c.name_bound.new.emitter c.name_push.new.emitter (push_variables (push_words c.args.program.now.shader c.args.bindings.now)) =
    subst (λ w. NamesAll c.name_bound.new.emitter c.name_push.new.emitter (push_variables w)) c.describe-pushed.ensures.pushed c.name_push.ensures in
    let all = named_all c.args.program.now.shader c.args.bindings.now c.start.new.self m c.name_bound.new.emitter c.name_bound.ensures c.name_push.new.emitter push c.name_shared.new.emitter c.name_shared.ensures c.growth_laws.ensures.on c.name_threads.new.emitter
    c.name_threads.ensures in
    let code = ap (λ (e : Emission). e.code.capacity) c.describe-pushed.ensures.rest in
    let limit = ap (λ (e : Emission). e.symbols.limit) c.describe-pushed.ensures.rest in
    omega (arith, limit, all.ids, c.name_arrays.ensures.ids, c.start.ensures.ids, c.requires.ids)

pub returns-clause-set_up : goal.returns-clause-set_up
returns-clause-set_up c =
    let m = may_begin c.args.program.now.shader c.args.bindings.now c.args.emitter.now c.describe-pushed.new.emitter c.start.new.self c.describe-pushed.ensures.map c.requires.declared c.describe-pushed.ensures.rest c.start.ensures.begun
    c.start.ensures.globals c.start.ensures.words c.start.ensures.ids c.requires.words c.requires.ids in
    let push : NamesAll c.name_bound.new.emitter c.name_push.new.emitter (push_variables (push_words c.args.program.now.shader c.args.bindings.now)) =
    subst (λ w. NamesAll c.name_bound.new.emitter c.name_push.new.emitter (push_variables w)) c.describe-pushed.ensures.pushed c.name_push.ensures in
    let all = named_all c.args.program.now.shader c.args.bindings.now c.start.new.self m c.name_bound.new.emitter c.name_bound.ensures c.name_push.new.emitter push c.name_shared.new.emitter c.name_shared.ensures c.growth_laws.ensures.on c.name_threads.new.emitter
    c.name_threads.ensures in
    let said = described_on c.args.program.now.shader c.args.bindings.now c.describe-pushed.new.emitter c.start.new.self c.start.ensures.rest c.describe-pushed.ensures.described in
    set_up c.args.program.now.shader c.args.bindings.now c.start.new.self c.name_threads.new.emitter c.name_arrays.new.emitter said c.start.ensures.globals all c.name_arrays.ensures c.growth_laws.ensures.kept c.name_constants.new.emitter c.name_constants.ensures

pub returns-clause-code : goal.returns-clause-code
returns-clause-code c =
    let m = may_begin c.args.program.now.shader c.args.bindings.now c.args.emitter.now c.describe-pushed.new.emitter c.start.new.self c.describe-pushed.ensures.map c.requires.declared c.describe-pushed.ensures.rest c.start.ensures.begun
    c.start.ensures.globals c.start.ensures.words c.start.ensures.ids c.requires.words c.requires.ids in
    let push : NamesAll c.name_bound.new.emitter c.name_push.new.emitter (push_variables (push_words c.args.program.now.shader c.args.bindings.now)) =
    subst (λ w. NamesAll c.name_bound.new.emitter c.name_push.new.emitter (push_variables w)) c.describe-pushed.ensures.pushed c.name_push.ensures in
    let all = named_all c.args.program.now.shader c.args.bindings.now c.start.new.self m c.name_bound.new.emitter c.name_bound.ensures c.name_push.new.emitter push c.name_shared.new.emitter c.name_shared.ensures c.growth_laws.ensures.on c.name_threads.new.emitter
    c.name_threads.ensures in
    let said = described_on c.args.program.now.shader c.args.bindings.now c.describe-pushed.new.emitter c.start.new.self c.start.ensures.rest c.describe-pushed.ensures.described in
    let rest = same_on c.args.program.now.shader c.args.bindings.now c.start.new.self c.name_threads.new.emitter c.name_arrays.new.emitter said c.start.ensures.globals all c.name_arrays.ensures c.name_constants.new.emitter c.name_constants.ensures in
    ap (λ (e : Emission). e.code) rest ∙ (ap (λ (e : Emission). e.code) c.start.ensures.rest ∙ ap (λ (e : Emission). e.code) c.describe-pushed.ensures.rest)

pub returns-clause-kept : goal.returns-clause-kept
returns-clause-kept c =
    let m = may_begin c.args.program.now.shader c.args.bindings.now c.args.emitter.now c.describe-pushed.new.emitter c.start.new.self c.describe-pushed.ensures.map c.requires.declared c.describe-pushed.ensures.rest c.start.ensures.begun
    c.start.ensures.globals c.start.ensures.words c.start.ensures.ids c.requires.words c.requires.ids in
    let push : NamesAll c.name_bound.new.emitter c.name_push.new.emitter (push_variables (push_words c.args.program.now.shader c.args.bindings.now)) =
    subst (λ w. NamesAll c.name_bound.new.emitter c.name_push.new.emitter (push_variables w)) c.describe-pushed.ensures.pushed c.name_push.ensures in
    let all = named_all c.args.program.now.shader c.args.bindings.now c.start.new.self m c.name_bound.new.emitter c.name_bound.ensures c.name_push.new.emitter push c.name_shared.new.emitter c.name_shared.ensures c.growth_laws.ensures.on c.name_threads.new.emitter
    c.name_threads.ensures in
    let said = described_on c.args.program.now.shader c.args.bindings.now c.describe-pushed.new.emitter c.start.new.self c.start.ensures.rest c.describe-pushed.ensures.described in
    let rest = same_on c.args.program.now.shader c.args.bindings.now c.start.new.self c.name_threads.new.emitter c.name_arrays.new.emitter said c.start.ensures.globals all c.name_arrays.ensures c.name_constants.new.emitter c.name_constants.ensures in
    ap (λ (e : Emission). e.kept) rest ∙ (ap (λ (e : Emission). e.kept) c.start.ensures.rest ∙ ap (λ (e : Emission). e.kept) c.describe-pushed.ensures.rest)

pub returns-clause-limit : goal.returns-clause-limit
returns-clause-limit c =
    let m = may_begin c.args.program.now.shader c.args.bindings.now c.args.emitter.now c.describe-pushed.new.emitter c.start.new.self c.describe-pushed.ensures.map c.requires.declared c.describe-pushed.ensures.rest c.start.ensures.begun
    c.start.ensures.globals c.start.ensures.words c.start.ensures.ids c.requires.words c.requires.ids in
    let push : NamesAll c.name_bound.new.emitter c.name_push.new.emitter (push_variables (push_words c.args.program.now.shader c.args.bindings.now)) =
    subst (λ w. NamesAll c.name_bound.new.emitter c.name_push.new.emitter (push_variables w)) c.describe-pushed.ensures.pushed c.name_push.ensures in
    let all = named_all c.args.program.now.shader c.args.bindings.now c.start.new.self m c.name_bound.new.emitter c.name_bound.ensures c.name_push.new.emitter push c.name_shared.new.emitter c.name_shared.ensures c.growth_laws.ensures.on c.name_threads.new.emitter
    c.name_threads.ensures in
    c.name_constants.ensures.extends.limit' ∙ (c.name_arrays.ensures.extends.limit' ∙ (all.extends.limit' ∙ (c.start.ensures.limit
    ∙ ap (λ (e : Emission). e.symbols.limit) c.describe-pushed.ensures.rest)))

pub returns-clause-words : goal.returns-clause-words
returns-clause-words c =
    let m = may_begin c.args.program.now.shader c.args.bindings.now c.args.emitter.now c.describe-pushed.new.emitter c.start.new.self c.describe-pushed.ensures.map c.requires.declared c.describe-pushed.ensures.rest c.start.ensures.begun
    c.start.ensures.globals c.start.ensures.words c.start.ensures.ids c.requires.words c.requires.ids in
    let push : NamesAll c.name_bound.new.emitter c.name_push.new.emitter (push_variables (push_words c.args.program.now.shader c.args.bindings.now)) =
    subst (λ w. NamesAll c.name_bound.new.emitter c.name_push.new.emitter (push_variables w)) c.describe-pushed.ensures.pushed c.name_push.ensures in
    let all = named_all c.args.program.now.shader c.args.bindings.now c.start.new.self m c.name_bound.new.emitter c.name_bound.ensures c.name_push.new.emitter push c.name_shared.new.emitter c.name_shared.ensures c.growth_laws.ensures.on c.name_threads.new.emitter
    c.name_threads.ensures in
    let code = ap (λ (e : Emission). e.code.capacity) c.describe-pushed.ensures.rest in
    let limit = ap (λ (e : Emission). e.symbols.limit) c.describe-pushed.ensures.rest in
    omega (arith, code, all.words, c.name_arrays.ensures.words, c.name_constants.ensures.words, c.start.ensures.words)

pub returns-clause-ids : goal.returns-clause-ids
returns-clause-ids c =
    let m = may_begin c.args.program.now.shader c.args.bindings.now c.args.emitter.now c.describe-pushed.new.emitter c.start.new.self c.describe-pushed.ensures.map c.requires.declared c.describe-pushed.ensures.rest c.start.ensures.begun
    c.start.ensures.globals c.start.ensures.words c.start.ensures.ids c.requires.words c.requires.ids in
    let push : NamesAll c.name_bound.new.emitter c.name_push.new.emitter (push_variables (push_words c.args.program.now.shader c.args.bindings.now)) =
    subst (λ w. NamesAll c.name_bound.new.emitter c.name_push.new.emitter (push_variables w)) c.describe-pushed.ensures.pushed c.name_push.ensures in
    let all = named_all c.args.program.now.shader c.args.bindings.now c.start.new.self m c.name_bound.new.emitter c.name_bound.ensures c.name_push.new.emitter push c.name_shared.new.emitter c.name_shared.ensures c.growth_laws.ensures.on c.name_threads.new.emitter
    c.name_threads.ensures in
    let code = ap (λ (e : Emission). e.code.capacity) c.describe-pushed.ensures.rest in
    let limit = ap (λ (e : Emission). e.symbols.limit) c.describe-pushed.ensures.rest in
    omega (arith, limit, all.ids, c.name_arrays.ensures.ids, c.name_constants.ensures.ids, c.start.ensures.ids)

pub returns-clause-declared : goal.returns-clause-declared
returns-clause-declared c =
    let m = may_begin c.args.program.now.shader c.args.bindings.now c.args.emitter.now c.describe-pushed.new.emitter c.start.new.self c.describe-pushed.ensures.map c.requires.declared c.describe-pushed.ensures.rest c.start.ensures.begun
    c.start.ensures.globals c.start.ensures.words c.start.ensures.ids c.requires.words c.requires.ids in
    let push : NamesAll c.name_bound.new.emitter c.name_push.new.emitter (push_variables (push_words c.args.program.now.shader c.args.bindings.now)) =
    subst (λ w. NamesAll c.name_bound.new.emitter c.name_push.new.emitter (push_variables w)) c.describe-pushed.ensures.pushed c.name_push.ensures in
    let all = named_all c.args.program.now.shader c.args.bindings.now c.start.new.self m c.name_bound.new.emitter c.name_bound.ensures c.name_push.new.emitter push c.name_shared.new.emitter c.name_shared.ensures c.growth_laws.ensures.on c.name_threads.new.emitter
    c.name_threads.ensures in
    let said = described_on c.args.program.now.shader c.args.bindings.now c.describe-pushed.new.emitter c.start.new.self c.start.ensures.rest c.describe-pushed.ensures.described in
    let rest = same_on c.args.program.now.shader c.args.bindings.now c.start.new.self c.name_threads.new.emitter c.name_arrays.new.emitter said c.start.ensures.globals all c.name_arrays.ensures c.name_constants.new.emitter c.name_constants.ensures in
    ap (λ (e : Emission). e.frame.context.capacity) rest ∙ (ap (λ (e : Emission). e.frame.context.capacity) c.start.ensures.rest ∙ c.describe-pushed.ensures.declared)

pub returns-clause-immediates : goal.returns-clause-immediates
returns-clause-immediates c =
    let m = may_begin c.args.program.now.shader c.args.bindings.now c.args.emitter.now c.describe-pushed.new.emitter c.start.new.self c.describe-pushed.ensures.map c.requires.declared c.describe-pushed.ensures.rest c.start.ensures.begun
    c.start.ensures.globals c.start.ensures.words c.start.ensures.ids c.requires.words c.requires.ids in
    let push : NamesAll c.name_bound.new.emitter c.name_push.new.emitter (push_variables (push_words c.args.program.now.shader c.args.bindings.now)) =
    subst (λ w. NamesAll c.name_bound.new.emitter c.name_push.new.emitter (push_variables w)) c.describe-pushed.ensures.pushed c.name_push.ensures in
    let all = named_all c.args.program.now.shader c.args.bindings.now c.start.new.self m c.name_bound.new.emitter c.name_bound.ensures c.name_push.new.emitter push c.name_shared.new.emitter c.name_shared.ensures c.growth_laws.ensures.on c.name_threads.new.emitter
    c.name_threads.ensures in
    let said = described_on c.args.program.now.shader c.args.bindings.now c.describe-pushed.new.emitter c.start.new.self c.start.ensures.rest c.describe-pushed.ensures.described in
    let rest = same_on c.args.program.now.shader c.args.bindings.now c.start.new.self c.name_threads.new.emitter c.name_arrays.new.emitter said c.start.ensures.globals all c.name_arrays.ensures c.name_constants.new.emitter c.name_constants.ensures in
    ap (λ (e : Emission). e.frame.context.room) rest ∙ (ap (λ (e : Emission). e.frame.context.room) c.start.ensures.rest ∙ c.describe-pushed.ensures.immediates)

pub returns-clause-buffers : goal.returns-clause-buffers
returns-clause-buffers c =
    let m = may_begin c.args.program.now.shader c.args.bindings.now c.args.emitter.now c.describe-pushed.new.emitter c.start.new.self c.describe-pushed.ensures.map c.requires.declared c.describe-pushed.ensures.rest c.start.ensures.begun
    c.start.ensures.globals c.start.ensures.words c.start.ensures.ids c.requires.words c.requires.ids in
    let push : NamesAll c.name_bound.new.emitter c.name_push.new.emitter (push_variables (push_words c.args.program.now.shader c.args.bindings.now)) =
    subst (λ w. NamesAll c.name_bound.new.emitter c.name_push.new.emitter (push_variables w)) c.describe-pushed.ensures.pushed c.name_push.ensures in
    let all = named_all c.args.program.now.shader c.args.bindings.now c.start.new.self m c.name_bound.new.emitter c.name_bound.ensures c.name_push.new.emitter push c.name_shared.new.emitter c.name_shared.ensures c.growth_laws.ensures.on c.name_threads.new.emitter
    c.name_threads.ensures in
    let said = described_on c.args.program.now.shader c.args.bindings.now c.describe-pushed.new.emitter c.start.new.self c.start.ensures.rest c.describe-pushed.ensures.described in
    let rest = same_on c.args.program.now.shader c.args.bindings.now c.start.new.self c.name_threads.new.emitter c.name_arrays.new.emitter said c.start.ensures.globals all c.name_arrays.ensures c.name_constants.new.emitter c.name_constants.ensures in
    ap (λ (e : Emission). e.frame.buffers.capacity) rest ∙ (ap (λ (e : Emission). e.frame.buffers.capacity) c.start.ensures.rest ∙ c.describe-pushed.ensures.buffers)
