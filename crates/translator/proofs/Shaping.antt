-- The finished module of a program has the program's shape.
use Rattle.std.proofs.Common.{◌≡◌, ℕ, List, [], ◌∷◌, ◌++◌, map, refl, sym, ap, ◌∙◌, subst, append_assoc}
use Rattle.tpf_decode.specs.Profiles.{Base}
use Rattle.tpf_program.specs.Program.{Shader}
use Rattle.spirv_words.specs.Operations.{OpFunctionEnd}
use Rattle.spirv_words.specs.Text.{Instr, instruction}
use Rattle.binding_map.specs.Bindings.{Binding}
use Rattle.binding_map.specs.Fits.{is_null_in}
use Rattle.shader_tree.specs.Shape.{shape}
use Rattle.shader_tree.specs.Trees.{Grown}
use Rattle.raise_program.specs.ProgramShape.{program_shape}
use Rattle.raise_program.specs.Parts.{parts_of}
use Rattle.raise_program.specs.Raised.{raised}
use Rattle.spirv_symbols.specs.declared.symbol.Section.TheVariants.{Heads, Labels, Locals}
use Rattle.spirv_symbols.specs.declared.numbered.Numbered.{Numbered}
use Rattle.spirv_symbols.specs.Modules.{front}
use Rattle.spirv_symbols.specs.ModuleWords.{head}
use Rattle.spirv_symbols.specs.Sections.{section_code}
use Rattle.spirv_emit.specs.declared.emitter.Emitter.{Emitter}
use Rattle.spirv_emit.specs.Growing.{Completes}
use Rattle.spirv_emit.specs.Lanes.{Site}
use Rattle.spirv_emit.specs.Linked.{ArePlaced, IsLinked}
use Rattle.spirv_emit.specs.ModuleShape.{Seen}
use Rattle.spirv_emit.specs.Sized.{IsSized}
use Rattle.spirv_flow.specs.Emitting.{root_by, root_of}
use Rattle.spirv_flow.specs.Formed.{IsFitted}
use Rattle.spirv_flow.specs.Layout.{code_of, leave}
use Rattle.spirv_setup.specs.SharedPlaces.{places_in}
use Rattle.translator.specs.Shape.{HasShape}
use Rattle.translator.specs.Lowered.{CanBeLowered, Lowered, kind_for}
use Rattle.translator.specs.Finished.{Finished, at_places, blocks, target}
use Rattle.translator.proofs.clauses.FinishedClauses.{FinishedClauses}
use Rattle.translator.proofs.clauses.FormClauses.{FormClauses}
use Rattle.translator.proofs.clauses.PlacedClauses.{PlacedClauses}
use Rattle.translator.proofs.clauses.ShapeClauses.{ShapeClauses}
use Rattle.translator.proofs.clauses.SizeClauses.{SizeClauses}
use Rattle.translator.proofs.clauses.TreeClauses.{TreeClauses}

-- what stands in front of the blocks is one list, and what stands behind them another
grouped : (f h l o b : List Instr) (x y : Instr)
    → f ++ (h ++ (l ++ (o ++ ((b ++ x ∷ []) ++ y ∷ [])))) ≡ (f ++ (h ++ (l ++ o))) ++ (b ++ x ∷ y ∷ [])
grouped f h l o b x y =
    let t : List Instr = b ++ x ∷ y ∷ [] in
    let behind : ((b ++ x ∷ []) ++ y ∷ []) ≡ t = append_assoc b (x ∷ []) (y ∷ []) in
    let function : h ++ (l ++ (o ++ ((b ++ x ∷ []) ++ y ∷ []))) ≡ (h ++ (l ++ o)) ++ t =
    ap (λ z. h ++ (l ++ (o ++ z))) behind ∙ ap (λ z. h ++ z) (sym (append_assoc l o t))
    ∙ sym (append_assoc h (l ++ o) t) in
    ap (λ z. f ++ z) function ∙ sym (append_assoc f (h ++ (l ++ o)) t)

module _ (shapes : ShapeClauses) (forms : FormClauses) (sizes : SizeClauses) (placings : PlacedClauses)
    (endings : FinishedClauses) (trees : TreeClauses) (p : Shader) (bindings : List Binding) (version : ℕ)
    (tree : Grown) (e : Emitter) (cs : List Numbered) (body : ℕ) (l : Lowered p bindings version tree e cs body)
    (can : CanBeLowered p bindings) (f : Finished p bindings version tree e cs body l) where
  -- the frame says sizes of some setting
  sized : IsSized e.frame
  sized = subst IsSized (sym f.frame) (sizes.holds p bindings l.begun e.frame.separate l.declared l.map l.set_up)

  fitted : IsFitted e.frame
  fitted = forms.fitted e.frame sized

  -- the module, run under a setting that fits
  abbrev ran : Site
  ran = at_places p bindings version tree e cs body l fitted.places fitted.setting

  completed : Completes l.emits.ended ran
  completed =
      f.completes fitted.places fitted.setting
      (fitted.fits e.symbols.entries (target p bindings version tree e cs body l))

  -- its variables of rooms have their rooms where the map says
  placed : ArePlaced e.frame.context e.symbols.entries (places_in p bindings)
  placed =
      subst (λ g. ArePlaced g.context e.symbols.entries (places_in p bindings)) (sym f.frame)
      (placings.placed p bindings l.begun e.symbols.entries l.declared l.map l.set_up f.globals)

  linked : IsLinked ran (places_in p bindings)
  linked =
      endings.linked e.frame (kind_for p version) e.symbols cs (blocks p bindings version tree e cs body l)
      e.symbols.next fitted.places (places_in p bindings) fitted.setting f.ready f.keeps.in_function f.keeps.ids placed

  -- the statement that was written is the one that the program is raised to
  written : root_of tree ≡ raised (parts_of (is_null_in bindings) p) l.raised.nested.front
  written = ap (root_by tree.nodes) l.raised.is_root ∙ l.raised.term

  -- its shape is the program's
  program : map Seen (shape (root_of tree)) ≡ map Seen (program_shape Base p bindings)
  program =
      ap (λ x. map Seen (shape x)) written
      ∙ ap (λ items. map Seen items)
      (trees.holds p can.raisable.tokens bindings l.raised.nested can.raisable.checked can.checked).shape'

  -- THE SHAPE of the module.
  pub shaped : HasShape Base p bindings (target p bindings version tree e cs body l)
  shaped = record {
    items =
        shapes.shown ran (places_in p bindings) (target p bindings version tree e cs body l)
        (front e.frame.context (kind_for p version) e.symbols.entries cs ++ head e.frame.context e.symbols.entries)
        l.emits.opened l.emits.ended (root_of tree) l.emits.lowers completed linked
        (shapes.front e.frame.context (kind_for p version) e.symbols.entries cs) refl
        (grouped (front e.frame.context (kind_for p version) e.symbols.entries cs)
        (section_code e.frame.context Heads e.symbols.entries) (section_code e.frame.context Labels e.symbols.entries)
        (section_code e.frame.context Locals e.symbols.entries) (code_of l.emits.lowers.layout 0 0) leave
        (instruction OpFunctionEnd [])) ∙ program;
  }
