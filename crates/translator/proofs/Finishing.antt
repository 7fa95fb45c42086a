-- What holds of the finished module of a program that was lowered.
use Rattle.std.proofs.Common.{◌≡◌, ℕ, ◌<◌, ◌≤◌, Bool, List, [], ◌∷◌, ◌++◌, refl, sym, ap, ◌∙◌, subst, arith}
use Rattle.word_base.specs.Settings.{Setting}
use Rattle.kept_values.specs.Tables.{IsEmpty}
use Rattle.tpf_program.specs.Program.{Shader}
use Rattle.shader_tree.specs.Terms.{term_at}
use Rattle.shader_tree.specs.Trees.{Grown}
use Rattle.binding_map.specs.Bindings.{Binding}
use Rattle.raise_program.specs.TreeOf.{IsTreeOf}
use Rattle.spirv_words.specs.Globals.{Places}
use Rattle.spirv_words.specs.Text.{Instr, words_of_code}
use Rattle.spirv_symbols.specs.declared.numbered.Numbered.{Numbered}
use Rattle.spirv_symbols.specs.declared.symbol.Symbol.TheVariants.{Main, FirstLabel}
use Rattle.spirv_symbols.specs.Modules.{IsReady}
use Rattle.spirv_symbols.specs.Tables.{Table, Has, Stands, Extends}
use Rattle.spirv_emit.specs.declared.emitter.Emitter.{Emitter}
use Rattle.spirv_emit.specs.declared.emitter.Frame.{Frame}
use Rattle.spirv_emit.specs.Growing.{Completes, globals_in}
use Rattle.spirv_emit.specs.Lanes.{FitsSetting}
use Rattle.spirv_emit.specs.Sized.{IsSized}
use Rattle.spirv_flow.specs.Emitting.{root_by, root_of}
use Rattle.spirv_flow.specs.Formed.{Finishes, KeepsForm}
use Rattle.spirv_flow.specs.Layout.{code_of, leave}
use Rattle.translator.specs.Lowered.{CanBeLowered, Lowered, kind_for}
use Rattle.translator.specs.Finished as finish
use Rattle.translator.specs.Finished.{Finished}
use Rattle.translator.proofs.clauses.FormClauses.{FormClauses}
use Rattle.translator.proofs.clauses.FinishedClauses.{FinishedClauses}
use Rattle.translator.proofs.clauses.GrowthClauses.{GrowthClauses}
use Rattle.translator.proofs.clauses.SizeClauses.{SizeClauses}
use Rattle.translator.proofs.clauses.TextClauses.{TextClauses}
use Rattle.translator.proofs.clauses.TreeClauses.{TreeClauses}

-- code behind no code
joined : (append : (xs ys : List Instr) → words_of_code (xs ++ ys) ≡ words_of_code xs ++ words_of_code ys)
    → (xs ys : List Instr) (none some all : List ℕ) → none ≡ [] → some ≡ none ++ words_of_code xs
    → all ≡ some ++ words_of_code ys → all ≡ words_of_code (xs ++ ys)
joined append xs ys none some all n s a =
    let front : some ≡ words_of_code xs = s ∙ ap (λ l. l ++ words_of_code xs) n in
    a ∙ ap (λ l. l ++ words_of_code ys) front ∙ sym (append xs ys)

-- a frame is another but for its registers
but_for : (f g : Frame) (b : Bool) → f ≡ record g { separate = b } → f ≡ record g { separate = f.separate }
but_for f g b h = h ∙ ap (λ x. record g { separate = x }) (sym (ap (λ (x : Frame). x.separate) h))

positive : (a b : ℕ) → 0 < a → a ≤ b → 0 < b
positive a b x y = omega (arith, x, y)

itself : (n : ℕ) → n ≤ n
itself n = omega arith

module _ (forms : FormClauses) (finishes : FinishedClauses) (growth : GrowthClauses) (sizes : SizeClauses)
    (trees : TreeClauses) (texts : TextClauses) where
  module _ (p : Shader) (bindings : List Binding) (version : ℕ) (tree : Grown) (e : Emitter) (cs : List Numbered)
      (body : ℕ) (can : CanBeLowered p bindings) (l : Lowered p bindings version tree e cs body) where
    abbrev ended : Emitter
    ended = l.emits.ended

    abbrev opened : Emitter
    opened = l.emits.opened

    abbrev blocks : List Instr
    blocks = finish.blocks p bindings version tree e cs body l

    -- the tree that was raised
    pub is_tree : IsTreeOf p bindings (root_of tree)
    is_tree =
        let is_root : root_of tree ≡ term_at tree.nodes l.raised.root = ap (root_by tree.nodes) l.raised.is_root in
        subst (IsTreeOf p bindings) (sym (is_root ∙ l.raised.term))
        (trees.holds p can.raisable.tokens bindings l.raised.nested can.raisable.checked can.checked)

    -- the frame and the symbols stay
    frames : e.frame ≡ ended.frame
    frames = l.frame ∙ l.emits.leaves.grows.same.frame

    symbols : e.symbols ≡ ended.symbols
    symbols = l.symbols ∙ l.emits.leaves.symbols

    extends : Extends ended.symbols e.symbols
    extends = subst (Extends ended.symbols) (sym symbols) (growth.itself ended.symbols)

    opened_frame : ended.frame ≡ opened.frame
    opened_frame = l.emits.lowers.written.grows.same.frame

    stands : Stands e.frame.context e.symbols
    stands = subst (λ (f : Frame). Stands f.context e.symbols) (sym l.frame)
        (subst (Stands l.built.frame.context) (sym l.symbols) l.stands.table)

    ready : IsReady e.frame.context e.symbols cs
    ready = record {
      stands = stands;
      sorted = l.sorted;
      main = l.stands.fixed.main.0;
      has_main = subst (λ (t : Table). Has t.entries Main l.stands.fixed.main.0) (sym l.symbols) l.stands.fixed.main.1;
      label = l.stands.fixed.label.0;
      has_label =
          subst (λ (t : Table). Has t.entries FirstLabel l.stands.fixed.label.0) (sym l.symbols)
          l.stands.fixed.label.1;
    }

    code : l.built.code.list ≡ words_of_code blocks
    code =
        let old : opened.code.list ≡ [] = ap (λ (x : Emitter). x.code.list) l.emits.opens.rest ∙ l.fresh in
        joined texts.append (code_of l.emits.lowers.layout 0 0) (leave ∷ []) opened.code.list ended.code.list
        l.built.code.list old l.emits.lowers.written.grows.code l.emits.leaves.grows.code

    sized : IsSized ended.frame
    sized =
        subst IsSized (sym (opened_frame ∙ l.emits.opens.frame))
        (sizes.holds p bindings l.begun _ l.declared l.map l.set_up)

    finished_table : Finishes opened ended (root_of tree) e.symbols cs e.symbols.next
    finished_table = record {
      empty = subst IsEmpty (sym (ap (λ (x : Emitter). x.kept) l.emits.opens.rest)) l.empty;
      some =
          positive l.begun.symbols.next opened.symbols.next l.set_up.begun.table.some l.emits.opens.extends.next';
      unmarked = forms.unmarked (root_of tree) is_tree.placed;
      ready = subst (λ (f : Frame). IsReady f.context e.symbols cs) frames ready;
      extends = extends;
      next = itself e.symbols.next;
      sized = sized;
    }

    keeps : KeepsForm e.frame.context (kind_for p version) e.symbols cs e.symbols.next blocks
    keeps =
        subst (λ (f : Frame). KeepsForm f.context (kind_for p version) e.symbols cs e.symbols.next blocks) (sym frames)
        (forms.keeps (kind_for p version) opened ended (root_of tree) e.symbols cs e.symbols.next l.emits.lowers
        finished_table)

    completes : (places : Places) (setting : Setting)
        → FitsSetting e.frame e.symbols.entries
        (finish.at_places p bindings version tree e cs body l places setting).machine
        → Completes ended (finish.at_places p bindings version tree e cs body l places setting)
    completes places setting fits =
        finishes.completes ended e.symbols (finish.at_places p bindings version tree e cs body l places setting) stands
        refl (sym frames) extends
        (finishes.whole e.frame (kind_for p version) e.symbols cs blocks e.symbols.next places setting ready
        keeps.in_function keeps.ids keeps.sorts fits)

    pub finished : Finished p bindings version tree e cs body l
    finished = record {
      text = l.text blocks code;
      ready = ready;
      keeps = keeps;
      globals =
          ap (λ (t : Table). globals_in t.entries) symbols
          ∙ l.emits.lowers.written.grows.globals ∙ l.emits.opens.globals;
      frame = but_for e.frame l.begun.frame _ (frames ∙ opened_frame ∙ l.emits.opens.frame);
      completes = completes;
    }
