-- The finished module of a program that was lowered.
use Rattle.std.specs.Prelude.{◌≡◌, ℕ, ◌++◌, ◌∷◌, [], List}
use Rattle.word_base.specs.Settings.{Setting}
use Rattle.tpf_program.specs.Program.{Shader}
use Rattle.spirv_words.specs.Globals.{Places}
use Rattle.spirv_words.specs.Text.{Instr, Module, header_of, words_of_code}
use Rattle.binding_map.specs.Bindings.{Binding}
use Rattle.shader_tree.specs.Trees.{Grown}
use Rattle.spirv_symbols.specs.declared.numbered.Numbered.{Numbered}
use Rattle.spirv_symbols.specs.Modules.{IsReady}
use Rattle.spirv_emit.specs.declared.emitter.Emitter.{Emitter}
use Rattle.spirv_emit.specs.Finished.{site, text_of}
use Rattle.spirv_emit.specs.Growing.{Completes, globals_in}
use Rattle.spirv_emit.specs.Lanes.{FitsSetting, Site}
use Rattle.spirv_flow.specs.Formed.{KeepsForm}
use Rattle.spirv_flow.specs.Layout.{code_of, leave}
use Rattle.translator.specs.Lowered.{Lowered, kind_for, module_for}

module _ (p : Shader) (bindings : List Binding) (version : ℕ) (tree : Grown) (e : Emitter) (cs : List Numbered)
    (body : ℕ) (l : Lowered p bindings version tree e cs body) where
  -- the code of the function's blocks
  abbrev pub blocks : List Instr
  blocks = code_of l.emits.lowers.layout 0 0 ++ leave ∷ []

  abbrev pub target : Module
  target = module_for p version e cs blocks

  -- the module, run at places under a setting
  abbrev pub at_places : Places → Setting → Site
  at_places places setting =
      site e.frame (kind_for p version) e.symbols cs blocks e.symbols.next places setting

  -- WHAT HOLDS of it: its words, the part of its code in its form, the same global variables and frame as when the code
  -- began, but for the registers, and that it completes the emitter behind the code of the tree.
  pub record Finished : Type 0 where
    pub text : text_of body e.code.list ≡ header_of target ++ words_of_code target.code
    pub ready : IsReady e.frame.context e.symbols cs
    pub keeps : KeepsForm e.frame.context (kind_for p version) e.symbols cs e.symbols.next blocks
    pub globals : globals_in e.symbols.entries ≡ globals_in l.begun.symbols.entries
    pub frame : e.frame ≡ record l.begun.frame { separate = e.frame.separate }
    pub completes : (places : Places) (setting : Setting)
        → FitsSetting e.frame e.symbols.entries (at_places places setting).machine
        → Completes l.emits.ended (at_places places setting)
