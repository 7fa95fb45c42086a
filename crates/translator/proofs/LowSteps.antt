-- What the calls leave by which a program is lowered, one behind the other.
use Rattle.std.proofs.Common.{◌≡◌, ℕ, ◌+◌, ◌*◌, ◌<◌, ◌≤◌, ◌++◌, List, length, sym, ap, ◌∙◌, subst, arith}
use Rattle.std.specs.Prelude.{sum_by}
use Rattle.word_base.specs.Words.{AreWords}
use Rattle.tpf_decode.specs.Profiles.{Base}
use Rattle.tpf_program.specs.Program.{Shader}
use Rattle.tpf_program.specs.Spelling.{Spells}
use Rattle.shader_check.specs.Checked.{IsChecked as BreaksNoRule}
use Rattle.spirv_words.specs.Text.{Instr, header_of, words_of_code}
use Rattle.binding_map.specs.Bindings.{Binding, IsMap}
use Rattle.node_pool.specs.Pools.{Pooled}
use Rattle.kept_values.specs.Tables.{limits_in}
use Rattle.shader_tree.specs.Costs.{words_in}
use Rattle.shader_tree.specs.Trees.{Grown}
use Rattle.spirv_symbols.specs.declared.numbered.Numbered.{Numbered}
use Rattle.spirv_symbols.specs.declared.entry.Entry.{Entry}
use Rattle.spirv_symbols.specs.Contexts.{Context}
use Rattle.spirv_symbols.specs.Modules.{Kind, interface, module_of}
use Rattle.spirv_symbols.specs.Orders.{Sorts}
use Rattle.spirv_symbols.specs.Tables.{Table}
use Rattle.spirv_emit.specs.Begun.{IsBegun, IsNew, IsUnsaid}
use Rattle.spirv_emit.specs.Emission.{ids_left, words_left}
use Rattle.spirv_emit.specs.declared.emitter.Emitter.{Emitter as Emission}
use Rattle.spirv_emit.specs.declared.emitter.Frame.{Frame}
use Rattle.spirv_emit.specs.Finished.{text_of}
use Rattle.spirv_emit.specs.Growing.{globals_in}
use Rattle.spirv_flow.specs.Emitting.{EmitsTree, root_of}
use Rattle.spirv_setup.specs.Premises.{IsDeclared, declared_ids, declared_words}
use Rattle.spirv_setup.specs.Setup.{HasRoom, IsSetUp}
use Rattle.spirv_setup.specs.Variables.{variables}
use Rattle.binding_map.specs.Wanted.{group_of}
use Rattle.translator.specs.Lowered.{CanBeLowered, HasRoomFor}
use Rattle.translator.proofs.clauses.SumClauses.{SumClauses}
use Rattle.translator.proofs.Budget.{declared_within, named_within}

-- THE EMITTER is cleared, with the room that it had.
pub record IsCleared (old new : Emission) : Type 0 where
  pub new' : IsNew new
  pub unsaid : IsUnsaid new.frame
  pub ids : new.symbols.limit ≡ old.symbols.limit
  pub words : new.code.capacity ≡ old.code.capacity
  pub declared : new.frame.context.capacity ≡ old.frame.context.capacity
  pub immediates : new.frame.context.room ≡ old.frame.context.room
  pub buffers : new.frame.buffers.capacity ≡ old.frame.buffers.capacity
  pub kept : limits_in new.kept ≡ limits_in old.kept

pub cleared_by : {old new : Emission} → IsNew new → IsUnsaid new.frame → (new.symbols.limit ≡ old.symbols.limit)
    → (new.code.capacity ≡ old.code.capacity) → (new.frame.context.capacity ≡ old.frame.context.capacity)
    → (new.frame.context.room ≡ old.frame.context.room) → (new.frame.buffers.capacity ≡ old.frame.buffers.capacity)
    → (limits_in new.kept ≡ limits_in old.kept) → IsCleared old new
cleared_by new unsaid ids words declared immediates buffers kept = record {
  new' = new;
  unsaid = unsaid;
  ids = ids;
  words = words;
  declared = declared;
  immediates = immediates;
  buffers = buffers;
  kept = kept;
}

-- All that the program and its map declare is there.
pub record Begins (p : Shader) (bindings : List Binding) (version : ℕ) (kind : Kind) (old new : Emission) : Type 0 where
  pub set_up : IsSetUp p bindings new
  pub code : new.code ≡ old.code
  pub kept : new.kept ≡ old.kept
  pub limit : new.symbols.limit ≡ old.symbols.limit
  pub kind' : kind ≡ record { version = version; threads = group_of p }
  pub words : old.code.capacity ≤ words_left new + declared_words p bindings
  pub ids : old.symbols.limit ≤ ids_left new + declared_ids p bindings
  pub declared : new.frame.context.capacity ≡ old.frame.context.capacity
  pub immediates : new.frame.context.room ≡ old.frame.context.room
  pub buffers : new.frame.buffers.capacity ≡ old.frame.buffers.capacity

pub begins_by : {p : Shader} {bindings : List Binding} {version : ℕ} {kind : Kind} {old new : Emission}
    → IsSetUp p bindings new → (new.code ≡ old.code) → (new.kept ≡ old.kept)
    → (new.symbols.limit ≡ old.symbols.limit) → (kind ≡ record { version = version; threads = group_of p })
    → (old.code.capacity ≤ words_left new + declared_words p bindings)
    → (old.symbols.limit ≤ ids_left new + declared_ids p bindings)
    → (new.frame.context.capacity ≡ old.frame.context.capacity) → (new.frame.context.room ≡ old.frame.context.room)
    → (new.frame.buffers.capacity ≡ old.frame.buffers.capacity) → Begins p bindings version kind old new
begins_by set_up code kept limit kind words ids declared immediates buffers = record {
  set_up = set_up;
  code = code;
  kept = kept;
  limit = limit;
  kind' = kind;
  words = words;
  ids = ids;
  declared = declared;
  immediates = immediates;
  buffers = buffers;
}

-- The code of the tree is written.
pub record Writes (old new : Emission) (tree : Grown) : Type 0 where
  pub emits : EmitsTree old new tree
  pub begun : IsBegun new
  pub words : words_left old ≤ words_left new + words_in (root_of tree) + 44

pub writes_by : {old new : Emission} {tree : Grown} → EmitsTree old new tree → IsBegun new
    → (words_left old ≤ words_left new + words_in (root_of tree) + 44) → Writes old new tree
writes_by emits begun words = record { emits = emits; begun = begun; words = words }

-- The rest of the module is written, for words of that kind.
abbrev pub IsText : List ℕ → List Numbered → List Instr → Context → Kind → Table → Type 0
IsText text cs code c kind t =
    text ≡ header_of (module_of c kind t.entries cs code t.next)
    ++ words_of_code (module_of c kind t.entries cs code t.next).code

pub record Ends (kind : Kind) (old new : Emission) (cs ds : Pooled Numbered) (body : ℕ) : Type 0 where
  pub symbols : new.symbols ≡ old.symbols
  pub frame : new.frame ≡ old.frame
  pub kept : new.kept ≡ old.kept
  pub capacity : new.code.capacity ≡ old.code.capacity
  pub sorted : Sorts old.symbols.entries ds.list
  pub spare : ds.capacity ≡ cs.capacity
  pub within : body ≤ length new.code.list
  pub text : (code : List Instr) → old.code.list ≡ words_of_code code
      → IsText (text_of body new.code.list) ds.list code old.frame.context kind old.symbols
  pub words : AreWords (text_of body new.code.list)

pub ends_by : {kind : Kind} {old new : Emission} {cs ds : Pooled Numbered} {body : ℕ} → (new.symbols ≡ old.symbols)
    → (new.frame ≡ old.frame) → (new.kept ≡ old.kept) → (new.code.capacity ≡ old.code.capacity)
    → Sorts old.symbols.entries ds.list → (ds.capacity ≡ cs.capacity) → (body ≤ length new.code.list)
    → ((code : List Instr) → old.code.list ≡ words_of_code code
    → IsText (text_of body new.code.list) ds.list code old.frame.context kind old.symbols)
    → AreWords (text_of body new.code.list) → Ends kind old new cs ds body
ends_by symbols frame kept capacity sorted spare within text words = record {
  symbols = symbols;
  frame = frame;
  kept = kept;
  capacity = capacity;
  sorted = sorted;
  spare = spare;
  within = within;
  text = text;
  words = words;
}

-- WHAT IS KNOWN OF A PROGRAM that is lowered.
pub record IsKnown (p : Shader) (bindings : List Binding) : Type 0 where
  pub can : CanBeLowered p bindings
  pub map : IsMap bindings
  pub declared : IsDeclared p
  pub few : length (variables p bindings) ≤ 2 * length p.declarations + 1
  pub sums : SumClauses

pub sums_by : ((p : Shader) (tokens : List ℕ) → Spells Base p tokens
    → (length p.declarations ≤ p.words) × (length p.constants ≤ p.words))
    → ((p : Shader) (tokens : List ℕ) → Spells Base p tokens → IsDeclared p → length p.constants ≤ 16384)
    → ((p : Shader) (bindings : List Binding) (tokens : List ℕ) (version : ℕ) (entries : List Entry)
    → Spells Base p tokens → IsDeclared p → IsMap bindings → globals_in entries ≡ variables p bindings
    → declared_words p bindings + length (interface version entries) + 66
    + 256 * sum_by (λ i. i.length) p.instructions ≤ 256 * p.words + 8192)
    → ((p : Shader) (bindings : List Binding) (tokens : List ℕ) → Spells Base p tokens → IsDeclared p → IsMap bindings
    → declared_ids p bindings + 6 + 48 * sum_by (λ i. i.length) p.instructions ≤ 48 * p.words + 4096)
    → SumClauses
sums_by listed constants words ids = record { listed = listed; constants = constants; words = words; ids = ids }

pub known : {p : Shader} {bindings : List Binding} → CanBeLowered p bindings → IsMap bindings
    → ((q : Shader) (tokens : List ℕ) → AreWords tokens → Spells Base q tokens → BreaksNoRule q → IsDeclared q)
    → ((q : Shader) (bs : List Binding) → IsDeclared q → IsMap bs
    → length (variables q bs) ≤ 2 * length q.declarations + 1)
    → SumClauses → IsKnown p bindings
known {p} {bindings} can map declares few sums =
    let checked = can.raisable.checked in
    let declared = declares p can.raisable.tokens checked.words checked.spelled can.checked in
    record { can = can; map = map; declared = declared; few = few p bindings declared map; sums = sums }

module _ {p : Shader} {bindings : List Binding} (k : IsKnown p bindings) where
  abbrev tokens : List ℕ
  tokens = k.can.raisable.tokens

  spelled : Spells Base p tokens
  spelled = k.can.raisable.checked.spelled

  listed : (length p.declarations ≤ p.words) × (length p.constants ≤ p.words)
  listed = k.sums.listed p tokens spelled

  pub constants_few : length p.constants < 65000
  constants_few = let h = k.sums.constants p tokens spelled k.declared in omega (arith, h)

  -- THE ROOM for what is declared, in an emitter that was cleared
  module _ {t : Grown} {e a : Emission} {cs : Pooled Numbered} (room : HasRoomFor p.words t e cs)
      (cleared : IsCleared e a) where
    pub has_room : HasRoom p a
    has_room =
        let l = listed in
        record {
          new = cleared.new';
          unsaid = cleared.unsaid;
          declared = omega (arith, l.0, room.declared, cleared.declared);
          immediates = omega (arith, l.1, room.immediates, cleared.immediates);
          buffers = omega (arith, l.0, room.buffers, cleared.buffers);
        }

    code_room : 256 * p.words + 8192 ≤ a.code.capacity
    code_room = omega (arith, room.code, cleared.words)

    ids_room : 48 * p.words + 4096 ≤ a.symbols.limit
    ids_room = omega (arith, room.ids, cleared.ids)

    pub words_enough : declared_words p bindings ≤ a.code.capacity
    words_enough = declared_within p bindings a.code.capacity k.few listed.0 listed.1 code_room

    pub ids_enough : declared_ids p bindings ≤ a.symbols.limit
    ids_enough = named_within p bindings a.symbols.limit k.few listed.0 listed.1 ids_room

    -- what is left of the room behind what was declared
    module _ {version : ℕ} {kind : Kind} {b : Emission} (begins : Begins p bindings version kind a b) where
      pub code_left : 256 * p.words + 8192 ≤ words_left b + declared_words p bindings
      code_left = let h = code_room in omega (arith, h, begins.words)

      pub numbers_left : 48 * p.words + 4096 ≤ ids_left b + declared_ids p bindings
      numbers_left = let h = ids_room in omega (arith, h, begins.ids)

-- WHAT STAYS while the code of a tree is written.
pub record Stays (old new : Emission) : Type 0 where
  pub context : new.frame.context ≡ old.frame.context
  pub buffers : new.frame.buffers ≡ old.frame.buffers
  pub globals : globals_in new.symbols.entries ≡ globals_in old.symbols.entries
  pub limit : new.symbols.limit ≡ old.symbols.limit
  pub capacity : new.code.capacity ≡ old.code.capacity
  pub limits : limits_in new.kept ≡ limits_in old.kept

pub stays : {old new : Emission} {tree : Grown} → EmitsTree old new tree → Stays old new
stays {old} {new} m =
    let written = m.lowers.written.grows in
    let left = m.leaves.grows in
    let frame : new.frame ≡ record old.frame { separate = m.opened.frame.separate } =
    left.same.frame ∙ (written.same.frame ∙ opened_frame) in
    record {
      context = ap (λ (f : Frame). f.context) frame;
      buffers = ap (λ (f : Frame). f.buffers) frame;
      globals = left.globals ∙ (written.globals ∙ m.opens.globals);
      limit = left.same.limit ∙ (written.same.limit ∙ m.opens.extends.limit');
      capacity = left.same.capacity ∙ (written.same.capacity ∙ ap (λ (e : Emission). e.code.capacity) m.opens.rest);
      limits = left.same.limits ∙ (written.same.limits ∙ ap (λ (e : Emission). limits_in e.kept) m.opens.rest);
    }
  where
    opened_frame : m.opened.frame ≡ record old.frame { separate = m.opened.frame.separate }
    opened_frame =
        subst (λ b. m.opened.frame ≡ record old.frame { separate = b })
        (sym (ap (λ (f : Frame). f.separate) m.opens.frame)) m.opens.frame
