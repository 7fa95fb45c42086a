-- What is written for a program means it.
use Rattle.std.proofs.Common.{ℕ, List}
use Rattle.word_base.specs.Words.{words_of}
use Rattle.dxbc_container.specs.Chunks.{IsShex}
use Rattle.tpf_decode.specs.Profiles.{Base}
use Rattle.tpf_program.specs.Program.{Shader}
use Rattle.tpf_program.specs.Spelling.{Spells}
use Rattle.binding_map.specs.Bindings.{Binding}
use Rattle.shader_tree.specs.Trees.{Grown}
use Rattle.spirv_symbols.specs.declared.numbered.Numbered.{Numbered}
use Rattle.spirv_emit.specs.declared.emitter.Emitter.{Emitter}
use Rattle.spirv_emit.specs.Finished.{text_of}
use Rattle.translator.specs.Finished.{Finished, target}
use Rattle.translator.specs.Lowered.{CanBeLowered, Lowered}
use Rattle.translator.specs.Means.{HasOrderedConstants, Means, TreeMeans}
use Rattle.translator.proofs.clauses.FinishedClauses.{FinishedClauses}
use Rattle.translator.proofs.clauses.FormClauses.{FormClauses}
use Rattle.translator.proofs.clauses.GrowthClauses.{GrowthClauses}
use Rattle.translator.proofs.clauses.LaneClauses.{LaneClauses}
use Rattle.translator.proofs.clauses.ModuleFormClauses.{ModuleFormClauses}
use Rattle.translator.proofs.clauses.PlacedClauses.{PlacedClauses}
use Rattle.translator.proofs.clauses.RaisedClauses.{RaisedClauses}
use Rattle.translator.proofs.clauses.SameClauses.{SameClauses}
use Rattle.translator.proofs.clauses.SetupClauses.{SetupClauses}
use Rattle.translator.proofs.clauses.ShapeClauses.{ShapeClauses}
use Rattle.translator.proofs.clauses.SizeClauses.{SizeClauses}
use Rattle.translator.proofs.clauses.TextClauses.{TextClauses}
use Rattle.translator.proofs.clauses.TreeClauses.{TreeClauses}
use Rattle.translator.proofs.clauses.WordClauses.{WordClauses}
use Rattle.translator.proofs.Finishing as finishing
use Rattle.translator.proofs.Following as following
use Rattle.translator.proofs.Forming as forming
use Rattle.translator.proofs.Shaping as shaping

-- the laws of lower crates that are used
pub record Laws : Type 0 where
  pub finishes : FinishedClauses
  pub flows : FormClauses
  pub forms : ModuleFormClauses
  pub growth : GrowthClauses
  pub lanes : LaneClauses
  pub places : PlacedClauses
  pub raises : RaisedClauses
  pub runs : SameClauses
  pub setup : SetupClauses
  pub shapes : ShapeClauses
  pub sizes : SizeClauses
  pub texts : TextClauses
  pub trees : TreeClauses
  pub words : WordClauses

module _ (laws : Laws) (p : Shader) (bindings : List Binding) (version : ℕ) (tree : Grown) (e : Emitter)
    (cs : List Numbered) (body : ℕ) (can : CanBeLowered p bindings)
    (l : Lowered p bindings version tree e cs body) where
  finished : Finished p bindings version tree e cs body l
  finished =
      finishing.finished laws.flows laws.finishes laws.growth laws.sizes laws.trees laws.texts p bindings version tree e
      cs body can l

  pub means : (bytes content : List ℕ) → IsShex bytes content → Spells Base p (words_of content)
      → Means bytes bindings version (text_of body e.code.list)
  means bytes content chunk spelled = record {
    content = content;
    program = p;
    target = target p bindings version tree e cs body l;
    chunk = chunk;
    spelled = spelled;
    text = forming.is_text p bindings version tree e cs body l finished laws.forms;
    form = forming.formed p bindings version tree e cs body l finished laws.flows laws.setup;
    shape =
        shaping.shaped laws.shapes laws.flows laws.sizes laws.places laws.finishes laws.trees p bindings version tree e
        cs body l can finished;
    follows =
        following.follows p bindings version tree e cs body l can finished laws.raises laws.lanes laws.finishes
        laws.setup laws.forms;
    runs =
        following.runs p bindings version tree e cs body l can finished laws.raises laws.lanes laws.finishes laws.setup
        laws.forms laws.runs laws.words;
  }

  pub lent : (bytes content : List ℕ) → IsShex bytes content → Spells Base p (words_of content)
      → TreeMeans bytes bindings tree
  lent bytes content chunk spelled =
      following.lent p bindings version tree e cs body l can laws.raises bytes content spelled chunk

  pub ordered : HasOrderedConstants (text_of body e.code.list)
  ordered = forming.ordered p bindings version tree e cs body l finished laws.forms laws.texts
