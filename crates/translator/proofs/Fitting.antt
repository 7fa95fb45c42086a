-- From an emitter that is begun to the finished module: what stays, what stands, and what is written.
use Rattle.std.proofs.Common.{◌≡◌, ℕ, ◌+◌, ◌*◌, ◌<◌, ◌≤◌, List, [], length, refl, sym, ap, ◌∙◌, subst, arith}
use Rattle.std.specs.Prelude.{IsTrue, IsSome}
use Rattle.tpf_decode.specs.Profiles.{Base}
use Rattle.tpf_program.specs.Program.{Shader}
use Rattle.tpf_program.specs.Spelling.{Spells}
use Rattle.binding_map.specs.Bindings.{Binding, IsMap}
use Rattle.binding_map.specs.Completeness.{binding_refusals}
use Rattle.binding_map.specs.Fits.{is_null_in}
use Rattle.node_pool.specs.Pools.{Pooled}
use Rattle.shader_tree.specs.Costs.{ids_in, words_in}
use Rattle.shader_tree.specs.Placed.{is_placed}
use Rattle.shader_tree.specs.Terms.{Term}
use Rattle.shader_tree.specs.Trees.{Grown}
use Rattle.raise_program.specs.Parts.{parts_of}
use Rattle.raise_program.specs.Raised.{raised}
use Rattle.raise_program.specs.TreeOf.{IsTreeOf, lengths}
use Rattle.raise_program.specs.Whole.{IsRaisedTo}
use Rattle.spirv_symbols.specs.declared.numbered.Numbered.{Numbered}
use Rattle.spirv_symbols.specs.declared.entry.Entry.{Entry}
use Rattle.spirv_symbols.specs.Contexts.{IsSmall}
use Rattle.spirv_symbols.specs.Modules.{Kind, interface}
use Rattle.spirv_symbols.specs.Tables.{weight}
use Rattle.spirv_emit.specs.Emission.{ids_left, words_left}
use Rattle.spirv_emit.specs.declared.emitter.Emitter.{Emitter as Emission}
use Rattle.spirv_emit.specs.Growing.{globals_in}
use Rattle.spirv_flow.specs.Emitting.{FitsTree, root_by, root_of}
use Rattle.spirv_setup.specs.Named.{IsNamed}
use Rattle.spirv_setup.specs.Unopened.{AreThere}
use Rattle.spirv_setup.specs.Premises.{IsDeclared, declared_ids, declared_words}
use Rattle.spirv_setup.specs.Setup.{IsSetUp}
use Rattle.translator.specs.Lowered.{HasRoomFor}
use Rattle.translator.proofs.clauses.TreeClauses.{TreeClauses}
use Rattle.translator.proofs.Budget.{code_fits, finishes, ids_fit, rest_fits}
use Rattle.translator.proofs.LowSteps.{Begins, IsCleared, IsKnown, Writes, code_left, constants_few}
use Rattle.translator.proofs.LowSteps.{numbers_left, stays}
use Rattle.translator.proofs.Named.{fits, named}

-- THE ROOT of a raised tree stands for what its program is raised to.
pub rooted : (is_null : _) (p : Shader) (tree : Grown) (h : IsRaisedTo is_null p tree)
    → root_of tree ≡ raised (parts_of is_null p) h.nested.front
rooted is_null p tree h = ap (λ r. root_by tree.nodes r) h.is_root ∙ h.term

-- A TREE in a workspace, of a program that is known, with an emitter in which all is that is declared.
pub record IsReady (p : Shader) (bindings : List Binding) (tree : Grown) (e : Emission) : Type 0 where
  pub known : IsKnown p bindings
  pub raised' : IsRaisedTo (is_null_in bindings) p tree
  pub tree' : IsTreeOf p bindings (raised (parts_of (is_null_in bindings) p) raised'.nested.front)
  pub set_up : IsSetUp p bindings e
  pub words : 256 * p.words + 8192 ≤ words_left e + declared_words p bindings
  pub ids : 48 * p.words + 4096 ≤ ids_left e + declared_ids p bindings

pub ready : {p : Shader} {bindings : List Binding} {version : ℕ} {kind : Kind} {t tree : Grown} {e a b : Emission}
    {cs : Pooled Numbered} → IsKnown p bindings → HasRoomFor p.words t e cs → IsCleared e a
    → Begins p bindings version kind a b → IsRaisedTo (is_null_in bindings) p tree → TreeClauses
    → IsReady p bindings tree b
ready {p} {bindings} known room cleared begins raised trees = record {
  known = known;
  raised' = raised;
  tree' = trees.holds p known.can.raisable.tokens bindings raised.nested known.can.raisable.checked known.can.checked;
  set_up = begins.set_up;
  words = code_left known room cleared begins;
  ids = numbers_left known room cleared begins;
}

module _ {p : Shader} {bindings : List Binding} {tree : Grown} {e : Emission} (r : IsReady p bindings tree e) where
  is_root : root_of tree ≡ raised (parts_of (is_null_in bindings) p) r.raised'.nested.front
  is_root = rooted (is_null_in bindings) p tree r.raised'

  tree_at : IsTreeOf p bindings (root_of tree)
  tree_at = subst (λ x. IsTreeOf p bindings x) (sym is_root) r.tree'

  spelled : Spells Base p r.known.can.raisable.tokens
  spelled = r.known.can.raisable.checked.spelled

  pub has_root : IsSome tree.root
  has_root = subst (λ o. IsSome o) (sym r.raised'.is_root) refl

  pub tree_placed : IsTrue (is_placed (root_of tree))
  tree_placed = tree_at.placed

  pub tree_fits : ((q : Shader) (bs : List Binding) (f : Emission) (x : Term) → IsDeclared q → IsMap bs
      → binding_refusals q bs ≡ [] → IsSetUp q bs f → IsNamed q bs x → AreThere f x)
      → FitsTree e (root_of tree)
  tree_fits there =
      let t = tree_at in
      let names = named p bindings (root_of tree) t.names in
      fits p bindings e (root_of tree) t.names
      (there p bindings e (root_of tree) r.known.declared r.known.map r.known.can.bound r.set_up names)

  words_sum : (version : ℕ) (entries : List Entry) → globals_in entries ≡ globals_in e.symbols.entries
      → declared_words p bindings + length (interface version entries) + 66 + 256 * lengths p.instructions
      ≤ 256 * p.words + 8192
  words_sum version entries same =
      r.known.sums.words p bindings r.known.can.raisable.tokens version entries spelled r.known.declared r.known.map
      (same ∙ r.set_up.globals)

  pub tree_words : words_in (root_of tree) + 44 ≤ words_left e
  tree_words =
      code_fits (declared_words p bindings) (length (interface 0 e.symbols.entries)) (lengths p.instructions) p.words
      (words_left e) (words_in (root_of tree)) (words_sum 0 e.symbols.entries refl) r.words tree_at.affords.words

  pub tree_ids : ids_in (root_of tree) + 6 ≤ ids_left e
  tree_ids =
      ids_fit (declared_ids p bindings) (lengths p.instructions) p.words (ids_left e) (ids_in (root_of tree))
      (r.known.sums.ids p bindings r.known.can.raisable.tokens spelled r.known.declared r.known.map) r.ids
      tree_at.affords.ids

  -- THE REST of the module has room behind the code of the tree.
  module _ {f : Emission} (w : Writes e f tree) where
    pub rest_words : (version : ℕ) → length f.code.list + weight f.frame.context f.symbols.entries
        + length (interface version f.symbols.entries) + 22 ≤ f.code.capacity
    rest_words version =
        finishes f (length (interface version f.symbols.entries)) w.begun
        (rest_fits (declared_words p bindings) (length (interface version f.symbols.entries)) (lengths p.instructions)
        p.words (words_left e) (words_in (root_of tree)) (words_left f)
        (words_sum version f.symbols.entries (stays w.emits).globals) r.words tree_at.affords.words w.words)

    pub is_small : ((q : Shader) (bs : List Binding) (o : Emission) → IsSetUp q bs o → length q.constants < 65000
        → IsSmall o.frame.context) → IsSmall f.frame.context
    is_small small =
        subst (λ c. IsSmall c) (sym (stays w.emits).context) (small p bindings e r.set_up (constants_few r.known))

    module _ (few : (q : Shader) (bs : List Binding) (o : Emission) (es : List Entry) (v : ℕ) → IsDeclared q → IsMap bs
        → IsSetUp q bs o → globals_in es ≡ globals_in o.symbols.entries → length (interface v es) ≤ 339)
        (version : ℕ) where
      pub lists_few : length (interface version f.symbols.entries) ≤ 339
      lists_few =
          few p bindings e f.symbols.entries version r.known.declared r.known.map r.set_up (stays w.emits).globals

      pub lists_below : length (interface version f.symbols.entries) < 65000
      lists_below = let h = lists_few in omega (arith, h)
