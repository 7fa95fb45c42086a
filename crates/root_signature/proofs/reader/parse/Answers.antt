use Rattle.std.proofs.Common.{◌≡◌, ◌≢◌, ℕ, List, [], ◌∷◌, Some, Result, Ok, Err}
use Rattle.std.specs.Prelude.{IfErr, OnOk}
use Rattle.word_base.specs.declared.rule.Refusal.{Refusal}
use Rattle.word_base.specs.declared.rule.Halt.{Halt}
use Rattle.word_base.specs.declared.rule.Halt.TheVariants.{Refused, NoMemory}
use Rattle.word_base.specs.Rules.{first, HaltsBy, IsFirst, IsSound}
use Rattle.dxbc_container.specs.Chunks.{content_of}
use Rattle.dxbc_container.specs.Refusals.{sole_refusals}
use Rattle.root_signature.specs.Layout.{rts0_tag}
use Rattle.root_signature.specs.Refusals.{IsBrokenIn, IsBroken}
use Rattle.root_signature.proofs.Soles.{missing_first, sound_file, first_of_file}
use Rattle.root_signature.proofs.reader.parse.Goals as goal

not_none : (qs : List Refusal) (r : Refusal) → Some r ≡ first qs → qs ≢ []
not_none [] r e n = cc
not_none (q ∷ qs) r e n = cc

on_ok : {X : Type 0} (P Q : Type 0) (r : Result X Halt) → (P → Q) → OnOk r P → OnOk r Q
on_ok P Q (Ok x) f h = f h
on_ok P Q (Err e) f h = h

halted_by : (P Q : Refusal → Type 0) → ((r : Refusal) → IsFirst P r → IsFirst Q r) → (h : Halt) → HaltsBy P h → HaltsBy Q h
halted_by P Q f (Refused r) h = f r h
halted_by P Q f NoMemory h = h

if_err : {X : Type 0} (P Q : Halt → Type 0) (r : Result X Halt) → ((h : Halt) → P h → Q h) → IfErr r P → IfErr r Q
if_err P Q (Ok x) f h = h
if_err P Q (Err e) f h = f e h

pub returns-in_default-clause-halted : goal.returns-in_default-clause-halted
returns-in_default-clause-halted c =
    missing_first c.args.bytes.now c.container_laws.ensures.sole_holds (not_none (sole_refusals c.args.bytes.now rts0_tag) c.in_default.field-0 c.in_default.ensures.refused)

pub returns-clause-sound : goal.returns-clause-sound
returns-clause-sound c =
    let content : List ℕ = content_of c.args.bytes.now c.in-Ok.part in
    on_ok (IsSound (IsBrokenIn content)) (IsSound (IsBroken c.args.bytes.now)) c.read.result
    (sound_file c.args.bytes.now c.container_laws.ensures.sole_holds c.in-Ok.part.start content c.in-Ok.ensures.found.sole) c.read.ensures.sound

pub returns-clause-halted : goal.returns-clause-halted
returns-clause-halted c =
    let content : List ℕ = content_of c.args.bytes.now c.in-Ok.part in
    if_err (HaltsBy (IsBrokenIn content)) (HaltsBy (IsBroken c.args.bytes.now)) c.read.result
    (halted_by (IsBrokenIn content) (IsBroken c.args.bytes.now) (first_of_file c.args.bytes.now c.container_laws.ensures.sole_holds c.in-Ok.part.start content c.in-Ok.ensures.found.sole)) c.read.ensures.halted
