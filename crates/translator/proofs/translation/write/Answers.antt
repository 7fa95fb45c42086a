use Rattle.std.proofs.Common.{◌≡◌, [], sym, ap, subst}
use Rattle.std.specs.Prelude.{Contains}
use Rattle.std.proofs.lemmas.Result.{err_from_is_err_and}
use Rattle.word_base.specs.Rules.{IsFirst}
use Rattle.spirv_words.specs.Versions.{number_of_version}
use Rattle.binding_map.specs.Completeness.{binding_refusals}
use Rattle.translator.specs.Accepted.{IsRead}
use Rattle.translator.proofs.AccRooms.{keeps_fit, keeps_rooms, same_rooms}
use Rattle.translator.proofs.Answered.{lowerable}
use Rattle.translator.proofs.translation.write.Goals as goal

pub returns-in_err-complete-clause-refused : goal.returns-in_err-complete-clause-refused
returns-in_err-complete-clause-refused c =
    let p = err_from_is_err_and c.from_residual.result c.from_residual.ensures.1 in
    let r = c.in_err-complete.field-0.0 in
    let e : c.work.inside.program.shader ≡ c.args.work.now.program = ap (λ h. h.program) c.work.view_is in
    rw (p.1, p.2)
    (subst (λ q. IsFirst (Contains (binding_refusals q c.args.bindings.now)) r) e
    (c.first_laws.ensures.some (binding_refusals c.work.inside.program.shader c.args.bindings.now) r
    c.in_err-complete.ensures.refused))

pub invariant_of-work : goal.invariant_of-work
invariant_of-work c =
    let w = c.work.inside in
    let i = c.work.invariant in
    let l = c.lower-work-inside in
    record {
      rooms = keeps_rooms w.words w.program.shader w.tree l.new.tree w.emitter l.new.emitter w.constants l.new.constants
          w.body l.result l.ensures.room i.rooms;
      program_room = i.program_room;
      program_short = i.program_short;
      room = keeps_fit w.words w.tree l.new.tree w.emitter l.new.emitter w.constants l.new.constants l.ensures.room
          i.room;
      body = l.ensures.lowered.within;
      short = l.ensures.short;
    }

pub returns-clause-means : goal.returns-clause-means
returns-clause-means c room bytes read =
    let p = c.work.inside.program.shader in
    let l = c.lower-work-inside in
    let e : p ≡ c.args.work.now.program = ap (λ h. h.program) c.work.view_is in
    let r : IsRead room bytes p = subst (IsRead room bytes) (sym e) read in
    c.lowered_laws.ensures.means bytes r.content p c.args.bindings.now (number_of_version c.args.version)
    l.new.tree l.new.emitter l.new.constants.list l.result r.chunk
    (lowerable room bytes p c.args.bindings.now r c.in_ok-complete.ensures.ok) r.spelled l.ensures.lowered

pub returns-clause-lent : goal.returns-clause-lent
returns-clause-lent c room bytes read =
    let p = c.work.inside.program.shader in
    let l = c.lower-work-inside in
    let e : p ≡ c.args.work.now.program = ap (λ h. h.program) c.work.view_is in
    let r : IsRead room bytes p = subst (IsRead room bytes) (sym e) read in
    c.lowered_laws.ensures.lent bytes r.content p c.args.bindings.now (number_of_version c.args.version)
    l.new.tree l.new.emitter l.new.constants.list l.result r.chunk
    (lowerable room bytes p c.args.bindings.now r c.in_ok-complete.ensures.ok) r.spelled l.ensures.lowered

pub returns-clause-ordered : goal.returns-clause-ordered
returns-clause-ordered c =
    let p = c.work.inside.program.shader in
    let l = c.lower-work-inside in
    let some = c.requires.read in
    let e : p ≡ c.args.work.now.program = ap (λ h. h.program) c.work.view_is in
    let r : IsRead some.room some.bytes p = subst (IsRead some.room some.bytes) (sym e) some.read in
    c.lowered_laws.ensures.ordered some.bytes r.content p c.args.bindings.now (number_of_version c.args.version)
    l.new.tree l.new.emitter l.new.constants.list l.result r.chunk
    (lowerable some.room some.bytes p c.args.bindings.now r c.in_ok-complete.ensures.ok) r.spelled l.ensures.lowered

pub returns-clause-bound : goal.returns-clause-bound
returns-clause-bound c =
    subst (λ q. binding_refusals q c.args.bindings.now ≡ []) (ap (λ h. h.program) c.work.view_is)
    c.in_ok-complete.ensures.ok

pub returns-clause-rooms : goal.returns-clause-rooms
returns-clause-rooms c =
    let w = c.work.inside in
    let l = c.lower-work-inside in
    same_rooms c.args.work.now w.words w.program.shader w.tree l.new.tree w.emitter l.new.emitter w.constants
    l.new.constants w.body l.result c.work.view_is l.ensures.room
