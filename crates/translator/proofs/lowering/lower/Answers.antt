use Rattle.std.proofs.Common.{ap, ◌∙◌}
use Rattle.shader_tree.specs.Trees.{Grown}
use Rattle.spirv_symbols.specs.ModuleWords.{kind_of}
use Rattle.translator.proofs.clauses.TreeClauses.{TreeClauses}
use Rattle.translator.proofs.LowSteps.{Begins, Ends, IsCleared, Writes, begins_by, cleared_by, ends_by, writes_by}
use Rattle.translator.proofs.LowSteps.{has_room, ids_enough, known, sums_by, words_enough}
use Rattle.translator.proofs.Fitting.{has_root, is_small, lists_below, ready, rest_words, tree_fits, tree_ids}
use Rattle.translator.proofs.Fitting.{tree_placed, tree_words}
use Rattle.translator.proofs.LowLowered.{keeps_room, limit_within, lowered}
use Rattle.translator.proofs.lowering.lower.Goals as goal

pub begin-kind-requires-clause-room : goal.begin-kind-requires-clause-room
begin-kind-requires-clause-room c =
    let s = c.sum_laws.ensures in
    let sums = sums_by s.listed s.constants s.words s.ids in
    let program = known c.requires.program c.map_laws.ensures c.declared_laws.ensures c.setup_laws.ensures.few sums in
    let n = c.clear-2.ensures in
    let cleared : IsCleared c.args.emitter.now c.clear-2.new.self =
    cleared_by n.new n.unsaid n.ids n.words n.declared n.immediates n.buffers n.kept in
    has_room program c.requires.room cleared

pub begin-kind-requires-clause-declared : goal.begin-kind-requires-clause-declared
begin-kind-requires-clause-declared c =
    let s = c.sum_laws.ensures in
    let sums = sums_by s.listed s.constants s.words s.ids in
    let program = known c.requires.program c.map_laws.ensures c.declared_laws.ensures c.setup_laws.ensures.few sums in
    program.declared

pub begin-kind-requires-clause-words : goal.begin-kind-requires-clause-words
begin-kind-requires-clause-words c =
    let s = c.sum_laws.ensures in
    let sums = sums_by s.listed s.constants s.words s.ids in
    let program = known c.requires.program c.map_laws.ensures c.declared_laws.ensures c.setup_laws.ensures.few sums in
    let n = c.clear-2.ensures in
    let cleared : IsCleared c.args.emitter.now c.clear-2.new.self =
    cleared_by n.new n.unsaid n.ids n.words n.declared n.immediates n.buffers n.kept in
    words_enough program c.requires.room cleared

pub begin-kind-requires-clause-ids : goal.begin-kind-requires-clause-ids
begin-kind-requires-clause-ids c =
    let s = c.sum_laws.ensures in
    let sums = sums_by s.listed s.constants s.words s.ids in
    let program = known c.requires.program c.map_laws.ensures c.declared_laws.ensures c.setup_laws.ensures.few sums in
    let n = c.clear-2.ensures in
    let cleared : IsCleared c.args.emitter.now c.clear-2.new.self =
    cleared_by n.new n.unsaid n.ids n.words n.declared n.immediates n.buffers n.kept in
    ids_enough program c.requires.room cleared

pub emit_tree-requires-clause-root : goal.emit_tree-requires-clause-root
emit_tree-requires-clause-root c =
    let s = c.sum_laws.ensures in
    let sums = sums_by s.listed s.constants s.words s.ids in
    let program = known c.requires.program c.map_laws.ensures c.declared_laws.ensures c.setup_laws.ensures.few sums in
    let n = c.clear-2.ensures in
    let cleared : IsCleared c.args.emitter.now c.clear-2.new.self =
    cleared_by n.new n.unsaid n.ids n.words n.declared n.immediates n.buffers n.kept in
    let b = c.begin-kind.ensures in
    let begins : Begins c.args.program.now.shader c.args.bindings.now c.number.result (kind_of c.begin-kind.result)
    c.clear-2.new.self c.begin-kind.new.emitter =
    begins_by b.set_up b.code b.kept b.limit b.kind b.words b.ids b.declared b.immediates b.buffers in
    let trees : TreeClauses = record { holds = c.raised_tree_laws.ensures } in
    let done = ready program c.requires.room cleared begins c.raise.ensures.raised trees in
    has_root done

pub emit_tree-requires-clause-fits : goal.emit_tree-requires-clause-fits
emit_tree-requires-clause-fits c =
    let s = c.sum_laws.ensures in
    let sums = sums_by s.listed s.constants s.words s.ids in
    let program = known c.requires.program c.map_laws.ensures c.declared_laws.ensures c.setup_laws.ensures.few sums in
    let n = c.clear-2.ensures in
    let cleared : IsCleared c.args.emitter.now c.clear-2.new.self =
    cleared_by n.new n.unsaid n.ids n.words n.declared n.immediates n.buffers n.kept in
    let b = c.begin-kind.ensures in
    let begins : Begins c.args.program.now.shader c.args.bindings.now c.number.result (kind_of c.begin-kind.result)
    c.clear-2.new.self c.begin-kind.new.emitter =
    begins_by b.set_up b.code b.kept b.limit b.kind b.words b.ids b.declared b.immediates b.buffers in
    let trees : TreeClauses = record { holds = c.raised_tree_laws.ensures } in
    let done = ready program c.requires.room cleared begins c.raise.ensures.raised trees in
    tree_fits done c.placed_laws.ensures.named

pub emit_tree-requires-clause-placed : goal.emit_tree-requires-clause-placed
emit_tree-requires-clause-placed c =
    let s = c.sum_laws.ensures in
    let sums = sums_by s.listed s.constants s.words s.ids in
    let program = known c.requires.program c.map_laws.ensures c.declared_laws.ensures c.setup_laws.ensures.few sums in
    let n = c.clear-2.ensures in
    let cleared : IsCleared c.args.emitter.now c.clear-2.new.self =
    cleared_by n.new n.unsaid n.ids n.words n.declared n.immediates n.buffers n.kept in
    let b = c.begin-kind.ensures in
    let begins : Begins c.args.program.now.shader c.args.bindings.now c.number.result (kind_of c.begin-kind.result)
    c.clear-2.new.self c.begin-kind.new.emitter =
    begins_by b.set_up b.code b.kept b.limit b.kind b.words b.ids b.declared b.immediates b.buffers in
    let trees : TreeClauses = record { holds = c.raised_tree_laws.ensures } in
    let done = ready program c.requires.room cleared begins c.raise.ensures.raised trees in
    tree_placed done

pub emit_tree-requires-clause-words : goal.emit_tree-requires-clause-words
emit_tree-requires-clause-words c =
    let s = c.sum_laws.ensures in
    let sums = sums_by s.listed s.constants s.words s.ids in
    let program = known c.requires.program c.map_laws.ensures c.declared_laws.ensures c.setup_laws.ensures.few sums in
    let n = c.clear-2.ensures in
    let cleared : IsCleared c.args.emitter.now c.clear-2.new.self =
    cleared_by n.new n.unsaid n.ids n.words n.declared n.immediates n.buffers n.kept in
    let b = c.begin-kind.ensures in
    let begins : Begins c.args.program.now.shader c.args.bindings.now c.number.result (kind_of c.begin-kind.result)
    c.clear-2.new.self c.begin-kind.new.emitter =
    begins_by b.set_up b.code b.kept b.limit b.kind b.words b.ids b.declared b.immediates b.buffers in
    let trees : TreeClauses = record { holds = c.raised_tree_laws.ensures } in
    let done = ready program c.requires.room cleared begins c.raise.ensures.raised trees in
    tree_words done

pub emit_tree-requires-clause-ids : goal.emit_tree-requires-clause-ids
emit_tree-requires-clause-ids c =
    let s = c.sum_laws.ensures in
    let sums = sums_by s.listed s.constants s.words s.ids in
    let program = known c.requires.program c.map_laws.ensures c.declared_laws.ensures c.setup_laws.ensures.few sums in
    let n = c.clear-2.ensures in
    let cleared : IsCleared c.args.emitter.now c.clear-2.new.self =
    cleared_by n.new n.unsaid n.ids n.words n.declared n.immediates n.buffers n.kept in
    let b = c.begin-kind.ensures in
    let begins : Begins c.args.program.now.shader c.args.bindings.now c.number.result (kind_of c.begin-kind.result)
    c.clear-2.new.self c.begin-kind.new.emitter =
    begins_by b.set_up b.code b.kept b.limit b.kind b.words b.ids b.declared b.immediates b.buffers in
    let trees : TreeClauses = record { holds = c.raised_tree_laws.ensures } in
    let done = ready program c.requires.room cleared begins c.raise.ensures.raised trees in
    tree_ids done

pub finish-body-requires-clause-small : goal.finish-body-requires-clause-small
finish-body-requires-clause-small c =
    let s = c.sum_laws.ensures in
    let sums = sums_by s.listed s.constants s.words s.ids in
    let program = known c.requires.program c.map_laws.ensures c.declared_laws.ensures c.setup_laws.ensures.few sums in
    let n = c.clear-2.ensures in
    let cleared : IsCleared c.args.emitter.now c.clear-2.new.self =
    cleared_by n.new n.unsaid n.ids n.words n.declared n.immediates n.buffers n.kept in
    let b = c.begin-kind.ensures in
    let begins : Begins c.args.program.now.shader c.args.bindings.now c.number.result (kind_of c.begin-kind.result)
    c.clear-2.new.self c.begin-kind.new.emitter =
    begins_by b.set_up b.code b.kept b.limit b.kind b.words b.ids b.declared b.immediates b.buffers in
    let trees : TreeClauses = record { holds = c.raised_tree_laws.ensures } in
    let done = ready program c.requires.room cleared begins c.raise.ensures.raised trees in
    let w = c.emit_tree.ensures in
    let writes : Writes c.begin-kind.new.emitter c.emit_tree.new.emitter c.raise.new.tree =
    writes_by w.emits w.begun w.words in
    is_small done writes c.setup_laws.ensures.small

pub finish-body-requires-clause-few : goal.finish-body-requires-clause-few
finish-body-requires-clause-few c =
    let s = c.sum_laws.ensures in
    let sums = sums_by s.listed s.constants s.words s.ids in
    let program = known c.requires.program c.map_laws.ensures c.declared_laws.ensures c.setup_laws.ensures.few sums in
    let n = c.clear-2.ensures in
    let cleared : IsCleared c.args.emitter.now c.clear-2.new.self =
    cleared_by n.new n.unsaid n.ids n.words n.declared n.immediates n.buffers n.kept in
    let b = c.begin-kind.ensures in
    let begins : Begins c.args.program.now.shader c.args.bindings.now c.number.result (kind_of c.begin-kind.result)
    c.clear-2.new.self c.begin-kind.new.emitter =
    begins_by b.set_up b.code b.kept b.limit b.kind b.words b.ids b.declared b.immediates b.buffers in
    let trees : TreeClauses = record { holds = c.raised_tree_laws.ensures } in
    let done = ready program c.requires.room cleared begins c.raise.ensures.raised trees in
    let w = c.emit_tree.ensures in
    let writes : Writes c.begin-kind.new.emitter c.emit_tree.new.emitter c.raise.new.tree =
    writes_by w.emits w.begun w.words in
    lists_below done writes c.setup_laws.ensures.interface c.begin-kind.result.version

pub finish-body-requires-clause-constants : goal.finish-body-requires-clause-constants
finish-body-requires-clause-constants c =
    let n = c.clear-2.ensures in
    let cleared : IsCleared c.args.emitter.now c.clear-2.new.self =
    cleared_by n.new n.unsaid n.ids n.words n.declared n.immediates n.buffers n.kept in
    let b = c.begin-kind.ensures in
    let begins : Begins c.args.program.now.shader c.args.bindings.now c.number.result (kind_of c.begin-kind.result)
    c.clear-2.new.self c.begin-kind.new.emitter =
    begins_by b.set_up b.code b.kept b.limit b.kind b.words b.ids b.declared b.immediates b.buffers in
    let w = c.emit_tree.ensures in
    let writes : Writes c.begin-kind.new.emitter c.emit_tree.new.emitter c.raise.new.tree =
    writes_by w.emits w.begun w.words in
    limit_within c.requires.room cleared begins writes

pub finish-body-requires-clause-room : goal.finish-body-requires-clause-room
finish-body-requires-clause-room c =
    let s = c.sum_laws.ensures in
    let sums = sums_by s.listed s.constants s.words s.ids in
    let program = known c.requires.program c.map_laws.ensures c.declared_laws.ensures c.setup_laws.ensures.few sums in
    let n = c.clear-2.ensures in
    let cleared : IsCleared c.args.emitter.now c.clear-2.new.self =
    cleared_by n.new n.unsaid n.ids n.words n.declared n.immediates n.buffers n.kept in
    let b = c.begin-kind.ensures in
    let begins : Begins c.args.program.now.shader c.args.bindings.now c.number.result (kind_of c.begin-kind.result)
    c.clear-2.new.self c.begin-kind.new.emitter =
    begins_by b.set_up b.code b.kept b.limit b.kind b.words b.ids b.declared b.immediates b.buffers in
    let trees : TreeClauses = record { holds = c.raised_tree_laws.ensures } in
    let done = ready program c.requires.room cleared begins c.raise.ensures.raised trees in
    let w = c.emit_tree.ensures in
    let writes : Writes c.begin-kind.new.emitter c.emit_tree.new.emitter c.raise.new.tree =
    writes_by w.emits w.begun w.words in
    rest_words done writes c.begin-kind.result.version

pub returns-clause-lowered : goal.returns-clause-lowered
returns-clause-lowered c =
    let s = c.sum_laws.ensures in
    let sums = sums_by s.listed s.constants s.words s.ids in
    let program = known c.requires.program c.map_laws.ensures c.declared_laws.ensures c.setup_laws.ensures.few sums in
    let n = c.clear-2.ensures in
    let cleared : IsCleared c.args.emitter.now c.clear-2.new.self =
    cleared_by n.new n.unsaid n.ids n.words n.declared n.immediates n.buffers n.kept in
    let b = c.begin-kind.ensures in
    let begins : Begins c.args.program.now.shader c.args.bindings.now c.number.result (kind_of c.begin-kind.result)
    c.clear-2.new.self c.begin-kind.new.emitter =
    begins_by b.set_up b.code b.kept b.limit b.kind b.words b.ids b.declared b.immediates b.buffers in
    let trees : TreeClauses = record { holds = c.raised_tree_laws.ensures } in
    let done = ready program c.requires.room cleared begins c.raise.ensures.raised trees in
    let w = c.emit_tree.ensures in
    let writes : Writes c.begin-kind.new.emitter c.emit_tree.new.emitter c.raise.new.tree =
    writes_by w.emits w.begun w.words in
    let f = c.finish-body.ensures in
    let ends : Ends (kind_of c.begin-kind.result) c.emit_tree.new.emitter c.finish-body.new.self c.args.constants.now
    c.finish-body.new.constants c.finish-body.result =
    ends_by f.symbols f.frame f.kept f.capacity f.sorted f.spare f.within f.text (c.word_laws.ensures.words c.finish-body.result) in
    let v = c.number.ensures in
    lowered v.number v.version cleared begins done writes ends c.setup_laws.ensures.small c.setup_laws.ensures.interface

pub returns-clause-room : goal.returns-clause-room
returns-clause-room c =
    let n = c.clear-2.ensures in
    let cleared : IsCleared c.args.emitter.now c.clear-2.new.self =
    cleared_by n.new n.unsaid n.ids n.words n.declared n.immediates n.buffers n.kept in
    let b = c.begin-kind.ensures in
    let begins : Begins c.args.program.now.shader c.args.bindings.now c.number.result (kind_of c.begin-kind.result)
    c.clear-2.new.self c.begin-kind.new.emitter =
    begins_by b.set_up b.code b.kept b.limit b.kind b.words b.ids b.declared b.immediates b.buffers in
    let w = c.emit_tree.ensures in
    let writes : Writes c.begin-kind.new.emitter c.emit_tree.new.emitter c.raise.new.tree =
    writes_by w.emits w.begun w.words in
    let f = c.finish-body.ensures in
    let ends : Ends (kind_of c.begin-kind.result) c.emit_tree.new.emitter c.finish-body.new.self c.args.constants.now
    c.finish-body.new.constants c.finish-body.result =
    ends_by f.symbols f.frame f.kept f.capacity f.sorted f.spare f.within f.text (c.word_laws.ensures.words c.finish-body.result) in
    let nodes = c.raise.ensures.capacity ∙ ap (λ (t : Grown). t.capacity) c.clear.ensures in
    keeps_room nodes cleared begins writes ends
