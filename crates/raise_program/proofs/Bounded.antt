-- A raised tree keeps within bounds where the statements of its instructions do.
use Rattle.std.proofs.Common.{◌≡◌, Bool, true, false, ◌&&◌, [], ◌∷◌, ◌++◌, Option, Some, None, refl}
use Rattle.std.specs.Prelude.{if◌then◌else◌}
use Rattle.std.proofs.lemmas.Bool.{and_from}
use Rattle.tpf_decode.specs.declared.meaning.Meaning.{Meaning}
use Rattle.tpf_decode.specs.declared.meaning.Meaning.TheVariants as meaning
use Rattle.tpf_decode.specs.Opcodes.{meaning_of}
use Rattle.tpf_decode.specs.Profiles.{Base}
use Rattle.tpf_program.specs.Ends.{is_default, means}
use Rattle.tpf_program.specs.declared.instruction.Instruction.{Instruction}
use Rattle.shader_check.specs.Statements.{Statement, Nothing, Then, Plain, If, IfElse, Loop, Switch, Label, flattened, Where, in_if, in_loop, in_switch, IsSound, stands}
use Rattle.shader_tree.specs.Terms.{Term}
use Rattle.shader_tree.specs.Terms as term
use Rattle.shader_tree.specs.Walks.{Each, holds_no}
use Rattle.raise_operands.specs.Bounds.{IsBounded, is_unbounded}
use Rattle.raise_program.specs.Raised.{Parts, alone, goes_on, raised}
use Rattle.raise_program.proofs.Sums.{each_parts}

both : (a b : Term) → IsBounded a → IsBounded b → (holds_no is_unbounded a && holds_no is_unbounded b) ≡ true
both a b h k = and_from (holds_no is_unbounded a) (holds_no is_unbounded b) h k

-- what the parts of an instruction keep
pub record PartsKeep (parts : Parts) (i : Instruction) : Type 0 where
  pub plain : goes_on (meaning_of Base i.code) ≡ true → IsBounded (parts.plain i)
  pub front : IsBounded (parts.front i)
  pub truth : IsBounded (parts.truth i)
  pub word : IsBounded (parts.word i)

module _ (parts : Parts) where
  under : (front b t : Term) → IsBounded front → IsBounded b → IsBounded t → IsBounded (term.Then front (term.Guard b t))
  under front b t h k l = both front (term.Guard b t) h (both b t k l)

  alone_bounded : (m : Option Meaning) (i : Instruction) (w : Where) → stands w m ≡ true → IsBounded (parts.front i) → IsBounded (parts.truth i)
      → (goes_on m ≡ true → IsBounded (parts.plain i)) → IsBounded (alone parts m i)
  alone_bounded None i w s f t h = absurd (cc)
  alone_bounded (Some meaning.If) i w s f t h = absurd (cc)
  alone_bounded (Some meaning.Else) i w s f t h = absurd (cc)
  alone_bounded (Some meaning.EndIf) i w s f t h = absurd (cc)
  alone_bounded (Some meaning.Loop) i w s f t h = absurd (cc)
  alone_bounded (Some meaning.EndLoop) i w s f t h = absurd (cc)
  alone_bounded (Some meaning.Switch) i w s f t h = absurd (cc)
  alone_bounded (Some meaning.Case) i w s f t h = absurd (cc)
  alone_bounded (Some meaning.Default) i w s f t h = absurd (cc)
  alone_bounded (Some meaning.EndSwitch) i w s f t h = absurd (cc)
  alone_bounded (Some meaning.Break) i w s f t h = refl
  alone_bounded (Some meaning.Continue) i w s f t h = refl
  alone_bounded (Some meaning.Return) i w s f t h = refl
  alone_bounded (Some meaning.BreakIf) i w s f t h = under (parts.front i) (parts.truth i) term.Break f t refl
  alone_bounded (Some meaning.ContinueIf) i w s f t h = under (parts.front i) (parts.truth i) term.Continue f t refl
  alone_bounded (Some meaning.ReturnIf) i w s f t h = under (parts.front i) (parts.truth i) term.Return f t refl
  alone_bounded (Some m) i w s f t h = h refl

  label_bounded : (b : Bool) (i : Instruction) → IsBounded (if b then term.Default term.Nothing else term.Case i.o0.x term.Nothing)
  label_bounded true i = refl
  label_bounded false i = refl

  pub bounded : (w : Where) (s : Statement) → IsSound w s → Each (PartsKeep parts) (flattened s) → IsBounded (raised parts s)
  bounded w Nothing h k = refl
  bounded w (Then first next) h k =
      let q = each_parts (PartsKeep parts) (flattened first) (flattened next) k in
      both (raised parts first) (raised parts next) (bounded w first h.0 q.0) (bounded w next h.1 q.1)
  bounded w (Plain i) h k = alone_bounded (meaning_of Base i.code) i w h k.0.front k.0.truth k.0.plain
  bounded w (Label i) h k = label_bounded (means Base is_default i) i
  bounded w (If opening body end) h k =
      let q = each_parts (PartsKeep parts) (flattened body) (end ∷ []) k.1 in
      under (parts.front opening) (parts.truth opening) (raised parts body) k.0.front k.0.truth (bounded (in_if w) body h.3 q.0)
  bounded w (Loop opening body end) h k =
      let q = each_parts (PartsKeep parts) (flattened body) (end ∷ []) k.1 in bounded (in_loop w) body h.3 q.0
  bounded w (Switch opening body end) h k =
      let q = each_parts (PartsKeep parts) (flattened body) (end ∷ []) k.1 in
      both (parts.front opening) (term.Switch (parts.word opening) (raised parts body)) k.0.front
      (both (parts.word opening) (raised parts body) k.0.word (bounded (in_switch w) body h.3 q.0))
  bounded w (IfElse opening body middle other end) h k =
      let q = each_parts (PartsKeep parts) (flattened body) (middle ∷ (flattened other ++ end ∷ [])) k.1 in
      let r = each_parts (PartsKeep parts) (flattened other) (end ∷ []) q.1.1 in
      let b = bounded (in_if w) body h.4 q.0 in
      let c = bounded (in_if w) other h.5 r.0 in
      both (parts.front opening) (term.If (parts.truth opening) (raised parts body) (raised parts other)) k.0.front
      (and_from (holds_no is_unbounded (parts.truth opening)) (holds_no is_unbounded (raised parts body) && holds_no is_unbounded (raised parts other))
      k.0.truth (both (raised parts body) (raised parts other) b c))
