-- Statements of one block, from what the calls that write them ensure.
use Rattle.std.proofs.Common.{◌≡◌, ℕ, ◌+◌, ◌≤◌, inl, [], append-nil, Bool, refl, sym, arith}
use Rattle.std.specs.Prelude.{cond, unwrap_or, is_some}
use Rattle.word_base.specs.declared.event.Act.{Act}
use Rattle.word_base.specs.declared.event.Classes.{Classes}
use Rattle.word_base.specs.declared.event.Room.{Room}
use Rattle.word_base.specs.declared.event.Scope.{Scope}
use Rattle.shader_tree.specs.declared.node.Space.{Space}
use Rattle.shader_tree.specs.Costs.{words_in, ids_in}
use Rattle.shader_tree.specs.Shape as shapes
use Rattle.shader_tree.specs.Terms.{Term}
use Rattle.shader_tree.specs.Terms as term
use Rattle.spirv_emit.specs.Begun.{IsBegun}
use Rattle.spirv_emit.specs.Blocks.{Alters, Meets, Sets, Writes, Loads, Stores, Atomics, Syncs}
use Rattle.spirv_emit.specs.Emission.{words_left, ids_left}
use Rattle.spirv_emit.specs.declared.emitter.Emitter.{Emitter as Emission}
use Rattle.spirv_emit.specs.Growing.{Grows}
use Rattle.spirv_emit.specs.Spending.{Spends}
use Rattle.spirv_flow.specs.declared.around.Around.{Around}
use Rattle.spirv_flow.specs.Emitting.{MayEmit, LowersIn, DidEmit}
use Rattle.spirv_flow.specs.Lowers.{marks}
use Rattle.spirv_flow.proofs.Composing.{IsGrowth}
use Rattle.spirv_flow.proofs.Constructs.{lowers_nothing}
use Rattle.spirv_flow.proofs.Emits.{plain_code}
use Rattle.spirv_flow.proofs.Leaving.{IsKeeping, lowers_set, lowers_write, lowers_load, lowers_store, lowers_atomic, lowers_sync}

spent : (a b : Emission) (around : Around) (mark : ℕ) (x : Term) → marks x ≡ 0 → LowersIn a b around mark x → Spends a b x → DidEmit a b around mark x
spent a b around mark x e h s = record {
  lowers = h;
  begun = s.begun;
  words = let w = s.words in omega (arith, e, w);
  ids = let i = s.ids in omega (arith, e, i);
}

grows_itself : (a : Emission) → Grows a a []
grows_itself a = record {
  same = record { frame = refl; limit = refl; capacity = refl; limits = refl };
  next = omega arith;
  code = sym (append-nil a.code.list);
  instructions = refl;
  distinct = refl;
  has = λ s id h. h;
  later = λ s id h. inl h;
  globals = refl;
  fresh = λ id h. absurd h;
}

module _ (around : Around) (mark : ℕ) where
  pub nothing_did : (growth : IsGrowth) (a : Emission) → MayEmit a around mark term.Nothing → DidEmit a a around mark term.Nothing
  nothing_did growth a may = record {
    lowers = lowers_nothing growth a (unwrap_or around.leave 0) (unwrap_or around.renew 0) mark (is_some around.renew) (is_some around.leave)
        (grows_itself a);
    begun = may.begun;
    words = omega arith;
    ids = omega arith;
  }

  module _ (keeping : IsKeeping) (a b : Emission) where
    pub set_did : (n : ℕ) (v : Term) → MayEmit a around mark (term.Set n v) → Alters a b (Sets n v) → Spends a b (term.Set n v)
        → DidEmit a b around mark (term.Set n v)
    set_did n v may h s = spent a b around mark (term.Set n v) refl
        (lowers_set keeping a b (unwrap_or around.leave 0) (unwrap_or around.renew 0) mark (is_some around.renew) (is_some around.leave) n v h
        (plain_code h.seg h.plain) may.fit.literals) s

    pub write_did : (space : Space) (at v : Term) → MayEmit a around mark (term.Write space at v) → Alters a b (Writes space at v)
        → Spends a b (term.Write space at v) → DidEmit a b around mark (term.Write space at v)
    write_did space at v may h s = spent a b around mark (term.Write space at v) refl
        (lowers_write keeping a b (unwrap_or around.leave 0) (unwrap_or around.renew 0) mark (is_some around.renew) (is_some around.leave) space at v
        h (plain_code h.seg h.plain) may.fit.literals) s

    pub load_did : (n : ℕ) (room : Room) (at : Term) → MayEmit a around mark (term.Load n room at) → Meets a b (shapes.Loads room) (Loads n room at)
        → Spends a b (term.Load n room at) → DidEmit a b around mark (term.Load n room at)
    load_did n room at may h s = spent a b around mark (term.Load n room at) refl
        (lowers_load keeping a b (unwrap_or around.leave 0) (unwrap_or around.renew 0) mark (is_some around.renew) (is_some around.leave) n room at h
        (plain_code h.seg h.plain) may.fit.literals) s

    pub store_did : (room : Room) (at v : Term) → MayEmit a around mark (term.Store room at v) → Meets a b (shapes.Stores room) (Stores room at v)
        → Spends a b (term.Store room at v) → DidEmit a b around mark (term.Store room at v)
    store_did room at v may h s = spent a b around mark (term.Store room at v) refl
        (lowers_store keeping a b (unwrap_or around.leave 0) (unwrap_or around.renew 0) mark (is_some around.renew) (is_some around.leave) room at v h
        may.fit.changed.0 (plain_code h.seg h.plain) may.fit.literals) s

    pub atomic_did : (n : ℕ) (room : Room) (at : Term) (kind : Act) (x y : Term) → MayEmit a around mark (term.Atomic n room at kind x y)
        → Meets a b (shapes.Changes room kind) (Atomics n room at kind x y) → Spends a b (term.Atomic n room at kind x y)
        → DidEmit a b around mark (term.Atomic n room at kind x y)
    atomic_did n room at kind x y may h s = spent a b around mark (term.Atomic n room at kind x y) refl
        (lowers_atomic keeping a b (unwrap_or around.leave 0) (unwrap_or around.renew 0) mark (is_some around.renew) (is_some around.leave) n room at
        kind x y h (plain_code h.seg h.plain) may.fit.literals) s

    pub sync_did : (threads : Bool) (scope : Scope) (classes : Classes) → Meets a b (cond threads shapes.Waits shapes.Fences) (Syncs threads scope classes) → IsBegun b
        → words_left a ≤ words_left b + words_in (term.Sync threads scope classes) → ids_left a ≤ ids_left b + ids_in (term.Sync threads scope classes)
        → DidEmit a b around mark (term.Sync threads scope classes)
    sync_did threads scope classes h begun words ids = spent a b around mark (term.Sync threads scope classes) refl
        (lowers_sync keeping a b (unwrap_or around.leave 0) (unwrap_or around.renew 0) mark (is_some around.renew) (is_some around.leave) threads scope
        classes h (plain_code h.seg h.plain)) (record { begun = begun; words = words; ids = ids })
