-- What a raised tree names is what the statements of its instructions name.
use Rattle.std.proofs.Common.{◌≡◌, ◌<◌, Bool, true, false, ◌&&◌, not, List, [], ◌∷◌, ◌++◌, Option, Some, None, refl}
use Rattle.std.specs.Prelude.{IsTrue, if◌then◌else◌}
use Rattle.word_base.specs.declared.event.Room.{Room}
use Rattle.tpf_decode.specs.declared.argument.Kind.{Kind}
use Rattle.tpf_decode.specs.declared.meaning.Meaning.{Meaning}
use Rattle.tpf_decode.specs.declared.meaning.Meaning.TheVariants as meaning
use Rattle.tpf_decode.specs.Opcodes.{meaning_of}
use Rattle.tpf_decode.specs.Profiles.{Base}
use Rattle.tpf_program.specs.Ends.{is_default, means}
use Rattle.tpf_program.specs.Program.{Shader}
use Rattle.tpf_program.specs.declared.instruction.Instruction.{Instruction}
use Rattle.shader_check.specs.Statements.{Statement, Nothing, Then, Plain, If, IfElse, Loop, Switch, Label, flattened, Where, in_if, in_loop, in_switch, IsSound, stands}
use Rattle.shader_tree.specs.declared.node.Space.{Space}
use Rattle.shader_tree.specs.Terms.{Term}
use Rattle.shader_tree.specs.Terms as term
use Rattle.shader_tree.specs.Values.{size_of}
use Rattle.shader_tree.specs.Walks.{Each, changed_in, rooms_in, spaces_in, threads_in, written_in}
use Rattle.raise_operands.specs.Raises.{HasThread, is_register}
use Rattle.raise_operands.specs.Vectors.{spaces_of}
use Rattle.raise_views.specs.Guards.{has_room, is_resource}
use Rattle.raise_program.specs.Raised.{Parts, alone, goes_on, raised}
use Rattle.raise_program.proofs.Sums.{each_both, each_parts}

pub record Gathers (p : Shader) (is_null : Room → Bool) (threads : List Kind) (spaces : List Space) (rooms : List Room) (written : List Space)
    (changed : List Room) : Type 0 where
  pub threads' : Each (HasThread p) threads
  pub spaces' : Each (λ space. 0 < size_of (spaces_of p) space) spaces
  pub rooms' : Each (λ room. IsTrue (has_room p room && not (is_null room))) rooms
  pub written' : Each (λ space. IsTrue (is_register space)) written
  pub changed' : Each (λ room. IsTrue (not (is_resource room))) changed

abbrev pub Names : Shader → (Room → Bool) → Term → Type 0
Names p is_null x = Gathers p is_null (threads_in x) (spaces_in x) (rooms_in x) (written_in x) (changed_in x)

module _ {p : Shader} {is_null : Room → Bool} where
  pub both : {ts ts' : List Kind} {ss ss' : List Space} {rs rs' : List Room} {ws ws' : List Space} {cs cs' : List Room}
      → Gathers p is_null ts ss rs ws cs → Gathers p is_null ts' ss' rs' ws' cs'
      → Gathers p is_null (ts ++ ts') (ss ++ ss') (rs ++ rs') (ws ++ ws') (cs ++ cs')
  both {ts} {ts'} {ss} {ss'} {rs} {rs'} {ws} {ws'} {cs} {cs'} h k = record {
    threads' = each_both (HasThread p) ts ts' h.threads' k.threads';
    spaces' = each_both (λ space. 0 < size_of (spaces_of p) space) ss ss' h.spaces' k.spaces';
    rooms' = each_both (λ room. IsTrue (has_room p room && not (is_null room))) rs rs' h.rooms' k.rooms';
    written' = each_both (λ space. IsTrue (is_register space)) ws ws' h.written' k.written';
    changed' = each_both (λ room. IsTrue (not (is_resource room))) cs cs' h.changed' k.changed';
  }

  pub leaf : Gathers p is_null [] [] [] [] []
  leaf = record { threads' = tt; spaces' = tt; rooms' = tt; written' = tt; changed' = tt }

-- what the parts of an instruction name
pub record PartsName (p : Shader) (is_null : Room → Bool) (parts : Parts) (i : Instruction) : Type 0 where
  pub plain : goes_on (meaning_of Base i.code) ≡ true → Names p is_null (parts.plain i)
  pub front : Names p is_null (parts.front i)
  pub truth : Names p is_null (parts.truth i)
  pub word : Names p is_null (parts.word i)

module _ (p : Shader) (is_null : Room → Bool) (parts : Parts) where
  alone_names : (m : Option Meaning) (i : Instruction) (w : Where) → stands w m ≡ true → Names p is_null (parts.front i) → Names p is_null (parts.truth i)
      → (goes_on m ≡ true → Names p is_null (parts.plain i)) → Names p is_null (alone parts m i)
  alone_names None i w s f t h = absurd (cc)
  alone_names (Some meaning.If) i w s f t h = absurd (cc)
  alone_names (Some meaning.Else) i w s f t h = absurd (cc)
  alone_names (Some meaning.EndIf) i w s f t h = absurd (cc)
  alone_names (Some meaning.Loop) i w s f t h = absurd (cc)
  alone_names (Some meaning.EndLoop) i w s f t h = absurd (cc)
  alone_names (Some meaning.Switch) i w s f t h = absurd (cc)
  alone_names (Some meaning.Case) i w s f t h = absurd (cc)
  alone_names (Some meaning.Default) i w s f t h = absurd (cc)
  alone_names (Some meaning.EndSwitch) i w s f t h = absurd (cc)
  alone_names (Some meaning.Break) i w s f t h = leaf
  alone_names (Some meaning.Continue) i w s f t h = leaf
  alone_names (Some meaning.Return) i w s f t h = leaf
  alone_names (Some meaning.BreakIf) i w s f t h = both f (both t leaf)
  alone_names (Some meaning.ContinueIf) i w s f t h = both f (both t leaf)
  alone_names (Some meaning.ReturnIf) i w s f t h = both f (both t leaf)
  alone_names (Some m) i w s f t h = h refl

  label_names : (b : Bool) (i : Instruction) → Names p is_null (if b then term.Default term.Nothing else term.Case i.o0.x term.Nothing)
  label_names true i = leaf
  label_names false i = leaf

  abbrev Known : List Instruction → Type 0
  Known xs = Each (PartsName p is_null parts) xs

  pub named : (w : Where) (s : Statement) → IsSound w s → Known (flattened s) → Names p is_null (raised parts s)
  named w Nothing h k = leaf
  named w (Then first next) h k =
      let q = each_parts (PartsName p is_null parts) (flattened first) (flattened next) k in both (named w first h.0 q.0) (named w next h.1 q.1)
  named w (Plain i) h k = alone_names (meaning_of Base i.code) i w h k.0.front k.0.truth k.0.plain
  named w (Label i) h k = label_names (means Base is_default i) i
  named w (If opening body end) h k =
      let q = each_parts (PartsName p is_null parts) (flattened body) (end ∷ []) k.1 in both k.0.front (both k.0.truth (named (in_if w) body h.3 q.0))
  named w (Loop opening body end) h k =
      let q = each_parts (PartsName p is_null parts) (flattened body) (end ∷ []) k.1 in named (in_loop w) body h.3 q.0
  named w (Switch opening body end) h k =
      let q = each_parts (PartsName p is_null parts) (flattened body) (end ∷ []) k.1 in both k.0.front (both k.0.word (named (in_switch w) body h.3 q.0))
  named w (IfElse opening body middle other end) h k =
      let q = each_parts (PartsName p is_null parts) (flattened body) (middle ∷ (flattened other ++ end ∷ [])) k.1 in
      let r = each_parts (PartsName p is_null parts) (flattened other) (end ∷ []) q.1.1 in
      both k.0.front (both k.0.truth (both (named (in_if w) body h.4 q.0) (named (in_if w) other h.5 r.0)))
