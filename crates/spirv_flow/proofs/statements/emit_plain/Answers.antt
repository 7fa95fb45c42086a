use Rattle.spirv_flow.proofs.Emits.{growth_of}
use Rattle.shader_tree.specs.declared.node.Stmt.TheVariants as stmt
use Rattle.shader_tree.specs.Terms.{term_at}
use Rattle.spirv_flow.specs.Emitting.{MayEmit, DidEmit}
use Rattle.spirv_flow.proofs.Leaving.{IsKeeping}
use Rattle.spirv_flow.proofs.Plain.{set_did, write_did, load_did, store_did, atomic_did, sync_did, nothing_did}
use Rattle.spirv_flow.proofs.Standing.{stand, by_node, to_node}
use Rattle.spirv_flow.proofs.statements.emit_plain.Goals as goal

pub returns-in-Set : goal.returns-in-Set
returns-in-Set c =
    let ns = c.args.tree.now.nodes in
    let s = stmt.Set c.in-Set.scratch c.in-Set.value in
    let st = stand ns c.args.id _ s c.stmt_at.ensures c.in-Set.is in
    let keeping : IsKeeping = record { step = c.word_laws.ensures.step } in
    by_node ns c.args.id s (λ x. DidEmit c.args.emitter.now c.set.new.self c.args.around c.args.mark x) st
    (set_did c.args.around c.args.mark keeping c.args.emitter.now c.set.new.self c.in-Set.scratch (term_at ns c.in-Set.value)
    (to_node ns c.args.id s (λ x. MayEmit c.args.emitter.now c.args.around c.args.mark x) st c.requires.may) c.set.ensures.alters c.set.ensures.spends)

pub returns-in-Write : goal.returns-in-Write
returns-in-Write c =
    let ns = c.args.tree.now.nodes in
    let s = stmt.Write c.in-Write.space c.in-Write.word c.in-Write.value in
    let st = stand ns c.args.id _ s c.stmt_at.ensures c.in-Write.is in
    let keeping : IsKeeping = record { step = c.word_laws.ensures.step } in
    by_node ns c.args.id s (λ x. DidEmit c.args.emitter.now c.write.new.self c.args.around c.args.mark x) st
    (write_did c.args.around c.args.mark keeping c.args.emitter.now c.write.new.self c.in-Write.space (term_at ns c.in-Write.word) (term_at ns c.in-Write.value)
    (to_node ns c.args.id s (λ x. MayEmit c.args.emitter.now c.args.around c.args.mark x) st c.requires.may) c.write.ensures.alters c.write.ensures.spends)

pub returns-in-Load : goal.returns-in-Load
returns-in-Load c =
    let ns = c.args.tree.now.nodes in
    let s = stmt.Load c.in-Load.scratch c.in-Load.room c.in-Load.word in
    let st = stand ns c.args.id _ s c.stmt_at.ensures c.in-Load.is in
    let keeping : IsKeeping = record { step = c.word_laws.ensures.step } in
    by_node ns c.args.id s (λ x. DidEmit c.args.emitter.now c.load.new.self c.args.around c.args.mark x) st
    (load_did c.args.around c.args.mark keeping c.args.emitter.now c.load.new.self c.in-Load.scratch c.in-Load.room (term_at ns c.in-Load.word)
    (to_node ns c.args.id s (λ x. MayEmit c.args.emitter.now c.args.around c.args.mark x) st c.requires.may) c.load.ensures.meets c.load.ensures.spends)

pub returns-in-Store : goal.returns-in-Store
returns-in-Store c =
    let ns = c.args.tree.now.nodes in
    let s = stmt.Store c.in-Store.room c.in-Store.word c.in-Store.value in
    let st = stand ns c.args.id _ s c.stmt_at.ensures c.in-Store.is in
    let keeping : IsKeeping = record { step = c.word_laws.ensures.step } in
    by_node ns c.args.id s (λ x. DidEmit c.args.emitter.now c.store.new.self c.args.around c.args.mark x) st
    (store_did c.args.around c.args.mark keeping c.args.emitter.now c.store.new.self c.in-Store.room (term_at ns c.in-Store.word) (term_at ns c.in-Store.value)
    (to_node ns c.args.id s (λ x. MayEmit c.args.emitter.now c.args.around c.args.mark x) st c.requires.may) c.store.ensures.meets c.store.ensures.spends)

pub returns-in-Atomic : goal.returns-in-Atomic
returns-in-Atomic c =
    let ns = c.args.tree.now.nodes in
    let s = stmt.Atomic c.in-Atomic.scratch c.in-Atomic.room c.in-Atomic.word c.in-Atomic.kind c.in-Atomic.a c.in-Atomic.b in
    let st = stand ns c.args.id _ s c.stmt_at.ensures c.in-Atomic.is in
    let keeping : IsKeeping = record { step = c.word_laws.ensures.step } in
    by_node ns c.args.id s (λ x. DidEmit c.args.emitter.now c.atomic.new.self c.args.around c.args.mark x) st
    (atomic_did c.args.around c.args.mark keeping c.args.emitter.now c.atomic.new.self c.in-Atomic.scratch c.in-Atomic.room (term_at ns c.in-Atomic.word) c.in-Atomic.kind (term_at ns c.in-Atomic.a) (term_at ns c.in-Atomic.b)
    (to_node ns c.args.id s (λ x. MayEmit c.args.emitter.now c.args.around c.args.mark x) st c.requires.may) c.atomic.ensures.meets c.atomic.ensures.spends)

pub returns-in-Sync : goal.returns-in-Sync
returns-in-Sync c =
    let ns = c.args.tree.now.nodes in
    let s = stmt.Sync c.in-Sync.threads c.in-Sync.scope c.in-Sync.classes in
    let st = stand ns c.args.id _ s c.stmt_at.ensures c.in-Sync.is in
    let keeping : IsKeeping = record { step = c.word_laws.ensures.step } in
    by_node ns c.args.id s (λ x. DidEmit c.args.emitter.now c.sync.new.self c.args.around c.args.mark x) st
    (sync_did c.args.around c.args.mark keeping c.args.emitter.now c.sync.new.self c.in-Sync.threads c.in-Sync.scope c.in-Sync.classes
    c.sync.ensures.meets c.sync.ensures.begun c.sync.ensures.words c.sync.ensures.ids)

pub returns-in-Nothing : goal.returns-in-Nothing
returns-in-Nothing c =
    let ns = c.args.tree.now.nodes in
    let st = stand ns c.args.id _ stmt.Nothing c.stmt_at.ensures c.in-Nothing.is in
    let e = c.emit_laws.ensures in
    let laws = growth_of e.on e.back e.takes e.takes_row in
    by_node ns c.args.id stmt.Nothing (λ x. DidEmit c.args.emitter.now c.args.emitter.now c.args.around c.args.mark x) st
    (nothing_did c.args.around c.args.mark laws c.args.emitter.now
    (to_node ns c.args.id stmt.Nothing (λ x. MayEmit c.args.emitter.now c.args.around c.args.mark x) st c.requires.may))
