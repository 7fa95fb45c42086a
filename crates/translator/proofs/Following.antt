-- The lane of a finished module follows the lane of its program, and so does that of the program's tree.
use Rattle.std.proofs.Common.{◌≡◌, ℕ, ◌+◌, ◌<◌, ◌≤◌, List, [], ◌∷◌, ◌++◌, length, Some, refl, sym, ap, ◌∙◌, subst}
use Rattle.std.proofs.Common.{arith}
use Rattle.word_base.specs.Lanes.{Turn, SameLanes}
use Rattle.word_base.specs.Registers.{zeros}
use Rattle.word_base.specs.Settings.{Setting}
use Rattle.word_base.specs.Words.{words_of}
use Rattle.dxbc_container.specs.Chunks.{IsShex}
use Rattle.tpf_decode.specs.Profiles.{Base}
use Rattle.tpf_program.specs.Bytecode as bytecode
use Rattle.tpf_program.specs.Program.{Shader}
use Rattle.tpf_program.specs.Spelling.{Spells}
use Rattle.spirv_words.specs.Lane as lane
use Rattle.spirv_words.specs.Operations.{OpFunctionEnd}
use Rattle.spirv_words.specs.Text.{Instr, Module, instruction}
use Rattle.binding_map.specs.Bindings.{Binding}
use Rattle.binding_map.specs.Fits.{Fits}
use Rattle.binding_map.specs.Places.{places_of}
use Rattle.kept_values.specs.Tables.{IsEmpty}
use Rattle.shader_tree.specs.Lane as tree_lane
use Rattle.shader_tree.specs.Terms.{term_at}
use Rattle.shader_tree.specs.Trees.{Grown}
use Rattle.shader_tree.specs.Values.{words}
use Rattle.raise_operands.specs.Vectors.{spaces_of}
use Rattle.dispatch_machine.specs.SameRuns.{FollowsIn, SameRuns}
use Rattle.word_base.proofs.Composing.{same_on}
use Rattle.spirv_symbols.specs.declared.numbered.Numbered.{Numbered}
use Rattle.spirv_symbols.specs.Contexts.{IsSmall}
use Rattle.spirv_symbols.specs.Modules.{interface, module_code}
use Rattle.spirv_symbols.specs.Starts.{AreFound}
use Rattle.spirv_emit.specs.declared.emitter.Emitter.{Emitter}
use Rattle.spirv_emit.specs.Emission as emission
use Rattle.spirv_emit.specs.Finished.{Opens}
use Rattle.spirv_emit.specs.Lanes.{FitsSetting, HasAt, Site}
use Rattle.spirv_flow.specs.Emitting.{root_by, root_of}
use Rattle.spirv_flow.specs.Pieces.{HasSingleLabels}
use Rattle.translator.specs.Finished.{Finished, at_places, blocks, target}
use Rattle.translator.specs.Lowered.{CanBeLowered, Lowered, kind_for}
use Rattle.translator.specs.Means.{TreeMeans}
use Rattle.translator.proofs.clauses.FinishedClauses.{FinishedClauses}
use Rattle.translator.proofs.clauses.LaneClauses.{LaneClauses}
use Rattle.translator.proofs.clauses.ModuleFormClauses.{ModuleFormClauses}
use Rattle.translator.proofs.clauses.RaisedClauses.{RaisedClauses}
use Rattle.translator.proofs.clauses.SameClauses.{SameClauses}
use Rattle.translator.proofs.clauses.SetupClauses.{SetupClauses}
use Rattle.translator.proofs.clauses.WordClauses.{WordClauses}
use Rattle.word_base.proofs.Started.{same_from}

-- the front of code that stands somewhere stands there
has_front : (code : List Instr) (at : ℕ) (a b : List Instr) → HasAt code at (a ++ b) → HasAt code at a
has_front code at [] b h = tt
has_front code at (i ∷ a) b h = (h.0, has_front code (at + 1) a b h.1)

-- THE LANE OF THE TREE, from the root on.
module _ (p : Shader) (bindings : List Binding) (version : ℕ) (tree : Grown) (e : Emitter) (cs : List Numbered)
    (body : ℕ) (l : Lowered p bindings version tree e cs body) (h : CanBeLowered p bindings)
    (raises : RaisedClauses) where
  tree_follows : (setting : Setting) → Fits p bindings setting
      → SameLanes (bytecode.step Base p setting) (tree_lane.step (spaces_of p) setting) bytecode.start
      (tree_lane.start (term_at tree.nodes l.raised.root))
  tree_follows setting fits =
      subst (λ x. SameLanes (bytecode.step Base p setting) (tree_lane.step (spaces_of p) setting) bytecode.start
      (tree_lane.start x)) (sym l.raised.term)
      (raises.same p h.raisable.tokens bindings l.raised.nested setting h.raisable.checked h.checked fits)

  -- The tree that is lent does what the program does.
  pub lent : (bytes content : List ℕ) → Spells Base p (words_of content) → IsShex bytes content
      → TreeMeans bytes bindings tree
  lent bytes content spelled chunk = record {
    content = content;
    program = p;
    chunk = chunk;
    spelled = spelled;
    root = l.raised.root;
    is_root = l.raised.is_root;
    same = tree_follows;
  }

-- THE LANE OF THE MODULE.
module _ (p : Shader) (bindings : List Binding) (version : ℕ) (tree : Grown) (e : Emitter) (cs : List Numbered)
    (body : ℕ) (l : Lowered p bindings version tree e cs body) (h : CanBeLowered p bindings)
    (f : Finished p bindings version tree e cs body l) (raises : RaisedClauses) (lanes : LaneClauses)
    (finished : FinishedClauses) (setup : SetupClauses) (forms : ModuleFormClauses) where
  abbrev code : List Instr
  code = blocks p bindings version tree e cs body l

  abbrev made : Module
  made = target p bindings version tree e cs body l

  abbrev site_in : Setting → Site
  site_in setting = at_places p bindings version tree e cs body l (places_of bindings) setting

  fits_in : (setting : Setting) → Fits p bindings setting
      → FitsSetting e.frame e.symbols.entries (site_in setting).machine
  fits_in setting fits =
      subst (λ x. FitsSetting x e.symbols.entries (site_in setting).machine) (sym f.frame)
      (setup.fits p bindings l.begun e.symbols.entries (site_in setting).machine e.frame.separate l.declared l.map
      l.set_up f.globals refl fits)

  found_in : (setting : Setting) → Fits p bindings setting
      → AreFound e.frame.context e.symbols.entries (site_in setting).machine
  found_in setting fits =
      let same : e.frame.context ≡ l.begun.frame.context = ap (λ x. x.context) f.frame in
      subst (λ c. AreFound c e.symbols.entries (site_in setting).machine) (sym same)
      (setup.found p bindings l.begun e.symbols.entries (site_in setting).machine l.declared l.map l.set_up f.globals
      refl fits)

  same_spaces : emission.spaces_of e.frame ≡ spaces_of p
  same_spaces =
      ap emission.spaces_of f.frame ∙ setup.spaces p bindings l.begun e.frame.separate l.declared h.bound l.set_up

  -- no word is kept when the function is opened
  empty : IsEmpty l.emits.opened.kept
  empty = subst IsEmpty (sym (ap (λ x. x.kept) l.emits.opens.rest)) l.empty

  -- each label stands once
  small : IsSmall e.frame.context
  small = subst (λ x. IsSmall x.context) (sym l.frame) l.small

  few : length (interface version e.symbols.entries) < 65000
  few =
      let k = subst (λ t. length (interface version t.entries) ≤ 339) (sym l.symbols) l.few in
      omega (arith, k)

  single : HasSingleLabels (module_code e.frame.context (kind_for p version) e.symbols.entries cs code)
  single =
      lanes.labels (module_code e.frame.context (kind_for p version) e.symbols.entries cs code)
      (forms.instructions e.frame.context (kind_for p version) e.symbols cs code f.ready small few f.keeps.instructions)
      f.keeps.distinct

  opens_in : (setting : Setting) → Fits p bindings setting
      → Opens (site_in setting) made (places_of bindings) setting (code ++ instruction OpFunctionEnd [] ∷ [])
      l.emits.opened.kept
  opens_in setting fits =
      finished.opens e.frame (kind_for p version) e.symbols cs code e.symbols.next (places_of bindings) setting
      l.emits.opened.kept f.ready f.keeps.in_function (found_in setting fits) empty

  -- the tree's lane from the root of the tree on, with the spaces that the module knows
  abbrev steps_in : Setting → tree_lane.State → Turn tree_lane.State
  steps_in setting = tree_lane.step (emission.spaces_of e.frame) setting

  is_root : term_at tree.nodes l.raised.root ≡ root_of tree
  is_root = sym (ap (root_by tree.nodes) l.raised.is_root)

  rooted : (setting : Setting) → Fits p bindings setting
      → SameLanes (bytecode.step Base p setting) (steps_in setting) bytecode.start (tree_lane.start (root_of tree))
  rooted setting fits =
      subst (λ g. SameLanes (bytecode.step Base p setting) (tree_lane.step g setting) bytecode.start
      (tree_lane.start (root_of tree))) (sym same_spaces)
      (subst (λ x. SameLanes (bytecode.step Base p setting) (tree_lane.step (spaces_of p) setting) bytecode.start
      (tree_lane.start x)) is_root
      (tree_follows p bindings version tree e cs body l h raises setting fits))

  -- the module's lane from the code of the tree on
  run_on : (setting : Setting) (fits : Fits p bindings setting)
      → SameLanes (steps_in setting) (lane.step (site_in setting).machine) (tree_lane.start (root_of tree))
      (opens_in setting fits).to
  run_on setting fits =
      let opens = opens_in setting fits in
      lanes.same (site_in setting) l.emits.opened l.emits.ended (root_of tree) l.emits.lowers opens.to
      (words (λ n. 0) zeros) (f.completes (places_of bindings) setting (fits_in setting fits)) single
      (has_front (site_in setting).machine.code opens.to.place code (instruction OpFunctionEnd [] ∷ [])
      opens.stands.here)
      (record { mirrors = opens.stands.mirrors; words = opens.stands.words }) (rooted setting fits).never_wrong

  -- Under each setting that fits nobody can tell the module's lane from the program's.
  pub follows : (setting : Setting) → Fits p bindings setting → FollowsIn Base p bindings made setting
  follows setting fits =
      let opens = opens_in setting fits in
      let second = run_on setting fits in
      let machine = (site_in setting).machine in
      subst (λ b. SameLanes (bytecode.step Base p setting) (lane.lane made (places_of bindings) setting)
      bytecode.start b) (sym opens.first)
      (same_on (bytecode.step Base p setting) (lane.step machine) (lane.lane made (places_of bindings) setting)
      bytecode.start opens.to (Some opens.from)
      (same_on (bytecode.step Base p setting) (steps_in setting) (lane.step machine) bytecode.start
      (tree_lane.start (root_of tree)) opens.to (rooted setting fits) second)
      (same_from (lane.step machine) 0 3 opens.steps opens.from opens.to opens.goes second.never_wrong))

  -- and each run of the module's lanes is one of the program's
  pub runs : SameClauses → WordClauses → SameRuns Base p bindings made
  runs same word_laws =
      same.holds p bindings made (word_laws.program p h.raisable.tokens h.raisable.checked h.checked)
      (word_laws.instructions p h.raisable.tokens h.raisable.checked) follows
