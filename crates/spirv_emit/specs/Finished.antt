-- A finished module: the words of its function's code with the function's end, and behind them the words that stand in
-- front of them.
use Rattle.std.specs.Prelude.{◌≡◌, ℕ, List, ◌++◌, take, drop, Some}
use Rattle.word_base.specs.Lanes.{Goes}
use Rattle.word_base.specs.Registers.{zeros}
use Rattle.word_base.specs.Settings.{Setting}
use Rattle.spirv_words.specs.Globals.{Places}
use Rattle.spirv_words.specs.Lane.{State, machine, start, step}
use Rattle.spirv_words.specs.Text.{Instr, Module}
use Rattle.spirv_symbols.specs.declared.numbered.Numbered.{Numbered}
use Rattle.spirv_symbols.specs.Modules.{Kind, module_of}
use Rattle.spirv_symbols.specs.Tables.{Table}
use Rattle.spirv_emit.specs.Emission.{Frame}
use Rattle.kept_values.specs.Tables as kept
use Rattle.shader_tree.specs.Values.{words}
use Rattle.spirv_emit.specs.Lanes.{Site, Stands}

-- The words of the module: those behind the first so many, and then those.
abbrev pub text_of : ℕ → List ℕ → List ℕ
text_of body words = drop body words ++ take body words

-- the module with that code, run at places under a setting
abbrev pub site : Frame → Kind → Table → List Numbered → List Instr → ℕ → Places → Setting → Site
site f kind t cs body bound places setting = record {
  frame = f;
  names = t.entries;
  machine = machine (module_of f.context kind t.entries cs body bound) places setting;
}

-- From its start the lane comes to that code, and mirrors a lane of the tree whose words are all 0.
pub record Opens (z : Site) (m : Module) (places : Places) (setting : Setting) (seg : List Instr) (table : kept.Table)
    : Type 0 where
  pub from : State
  pub first : start m places setting ≡ Some from
  pub steps : ℕ
  pub to : State
  pub goes : Goes (step (machine m places setting)) steps from to
  pub stands : Stands z seg table to (words (λ n. 0) zeros)
