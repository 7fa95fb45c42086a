-- The finished module has the form of one, its words are its text, and its constants ascend.
use Rattle.std.proofs.Common.{◌≡◌, ℕ, ◌<◌, ◌≤◌, List, length, sym, ap, ◌∙◌, subst, arith}
use Rattle.tpf_program.specs.Program.{Shader}
use Rattle.shader_tree.specs.Trees.{Grown}
use Rattle.binding_map.specs.Bindings.{Binding}
use Rattle.spirv_words.specs.Form.{Form}
use Rattle.spirv_words.specs.Text.{Module, IsTextOf}
use Rattle.spirv_symbols.specs.declared.numbered.Numbered.{Numbered}
use Rattle.spirv_symbols.specs.Contexts.{IsSmall}
use Rattle.spirv_symbols.specs.Modules.{interface}
use Rattle.spirv_symbols.specs.Tables.{Table}
use Rattle.spirv_symbols.specs.Wants as wants
use Rattle.spirv_symbols.specs.Wants.{HasPlaces}
use Rattle.spirv_emit.specs.declared.emitter.Emitter.{Emitter}
use Rattle.spirv_emit.specs.declared.emitter.Frame.{Frame}
use Rattle.spirv_emit.specs.Finished.{text_of}
use Rattle.binding_map.specs.Wanted.{group_of, wanted_of}
use Rattle.translator.specs.Finished as finish
use Rattle.translator.specs.Finished.{Finished}
use Rattle.translator.specs.Lowered.{Lowered, kind_for}
use Rattle.translator.specs.Means.{HasOrderedConstants}
use Rattle.translator.proofs.clauses.FormClauses.{FormClauses}
use Rattle.translator.proofs.clauses.ModuleFormClauses.{ModuleFormClauses}
use Rattle.translator.proofs.clauses.SetupClauses.{SetupClauses}
use Rattle.translator.proofs.clauses.TextClauses.{TextClauses}
use Rattle.translator.proofs.Ordering as ordering

fewer : (n : ℕ) → n ≤ 339 → n < 65000
fewer n h = omega (arith, h)

module _ (p : Shader) (bindings : List Binding) (version : ℕ) (tree : Grown) (e : Emitter) (cs : List Numbered)
    (body : ℕ) (l : Lowered p bindings version tree e cs body) (f : Finished p bindings version tree e cs body l) where
  abbrev target : Module
  target = finish.target p bindings version tree e cs body l

  -- what is said of the program is what was said before its code was written
  context : e.frame.context ≡ l.begun.frame.context
  context = ap (λ (g : Frame). g.context) f.frame

  pub formed : FormClauses → SetupClauses → Form version (group_of p) (wanted_of p bindings) target
  formed forms setup =
      let places : HasPlaces e.frame.context e.symbols.entries =
      subst (λ c. HasPlaces c e.symbols.entries) (sym context)
      (setup.places p bindings l.begun e.symbols.entries l.declared l.map l.set_up f.globals) in
      let wanted : wants.wanted_of e.frame.context e.symbols.entries ≡ wanted_of p bindings =
      ap (λ c. wants.wanted_of c e.symbols.entries) context
      ∙ setup.wanted p bindings l.begun e.symbols.entries l.declared l.map l.set_up f.globals in
      subst (λ w. Form version (group_of p) w target) wanted
      (forms.form e.frame.context (kind_for p version) e.symbols cs e.symbols.next
      (finish.blocks p bindings version tree e cs body l) f.ready f.keeps places l.version')

  pub is_text : ModuleFormClauses → IsTextOf target (text_of body e.code.list)
  is_text forms =
      let small : IsSmall e.frame.context = subst (λ (g : Frame). IsSmall g.context) (sym l.frame) l.small in
      let few : length (interface version e.symbols.entries) < 65000 =
      fewer (length (interface version e.symbols.entries))
      (subst (λ (t : Table). length (interface version t.entries) ≤ 339) (sym l.symbols) l.few) in
      record {
        words = l.words;
        version = l.version';
        is_text = f.text;
        instructions =
            forms.instructions e.frame.context (kind_for p version) e.symbols cs
            (finish.blocks p bindings version tree e cs body l) f.ready small few f.keeps.instructions;
      }

  -- THE CONSTANTS ascend, in each module of which the words are the text.
  pub ordered : ModuleFormClauses → TextClauses → HasOrderedConstants (text_of body e.code.list)
  ordered forms texts m written =
      let same : m ≡ target = texts.determined m target (text_of body e.code.list) written (is_text forms) in
      ordering.ordered e.frame.context (kind_for p version) e.symbols.entries cs
      (finish.blocks p bindings version tree e cs body l) l.sorted.ascends f.keeps.in_function m
      (ap (λ (n : Module). n.code) same)
