-- What is written for a program that is lowered.
use Rattle.std.proofs.Common.{◌≡◌, ℕ, ◌<◌, ◌≤◌, List, length, sym, ap, ◌∙◌, subst}
use Rattle.std.specs.Prelude.{IsTrue}
use Rattle.tpf_program.specs.Program.{Shader}
use Rattle.spirv_words.specs.Text.{Instr, is_version}
use Rattle.binding_map.specs.Bindings.{Binding, IsMap}
use Rattle.node_pool.specs.Pools.{Pooled}
use Rattle.kept_values.specs.Tables.{IsEmpty, limits_in}
use Rattle.shader_tree.specs.Trees.{Grown}
use Rattle.spirv_symbols.specs.declared.numbered.Numbered.{Numbered}
use Rattle.spirv_symbols.specs.declared.entry.Entry.{Entry}
use Rattle.spirv_symbols.specs.Contexts.{Context, IsSmall}
use Rattle.spirv_symbols.specs.Modules.{Kind, interface}
use Rattle.spirv_symbols.specs.Orders.{Sorts}
use Rattle.spirv_symbols.specs.Tables.{Table}
use Rattle.spirv_emit.specs.declared.emitter.Emitter.{Emitter as Emission}
use Rattle.spirv_emit.specs.declared.emitter.Frame.{Frame}
use Rattle.spirv_emit.specs.Finished.{text_of}
use Rattle.spirv_emit.specs.Growing.{globals_in}
use Rattle.spirv_setup.specs.Premises.{IsDeclared}
use Rattle.spirv_setup.specs.Setup.{IsSetUp}
use Rattle.translator.specs.Lowered.{HasRoomFor, KeepsRoom, Lowered, kind_for}
use Rattle.translator.proofs.LowSteps.{Begins, Ends, IsCleared, IsText, Writes, stays}
use Rattle.translator.proofs.Fitting.{IsReady, is_small, lists_few}

-- a text of the same parts
text_for : (text : List ℕ) (cs : List Numbered) (code : List Instr) (c d : Context) (k l : Kind) (t u : Table)
    → d ≡ c → l ≡ k → u ≡ t → IsText text cs code c k t → IsText text cs code d l u
text_for text cs code c d k l t u e f g h =
    subst (λ x. IsText text cs code x l u) (sym e)
    (subst (λ x. IsText text cs code c x u) (sym f) (subst (λ x. IsText text cs code c k x) (sym g) h))

pub lowered : {p : Shader} {bindings : List Binding} {version n : ℕ} {kind : Kind} {tree : Grown} {e a b f g : Emission}
    {cs ds : Pooled Numbered} {body : ℕ} → version ≡ n → IsTrue (is_version version) → IsCleared e a
    → Begins p bindings version kind a b → IsReady p bindings tree b → Writes b f tree → Ends kind f g cs ds body
    → ((q : Shader) (bs : List Binding) (o : Emission) → IsSetUp q bs o → length q.constants < 65000
    → IsSmall o.frame.context)
    → ((q : Shader) (bs : List Binding) (o : Emission) (es : List Entry) (v : ℕ) → IsDeclared q → IsMap bs
    → IsSetUp q bs o → globals_in es ≡ globals_in o.symbols.entries → length (interface v es) ≤ 339)
    → Lowered p bindings n tree g ds.list body
lowered {p} {bindings} {version} {n} {kind} {tree} {e} {a} {b} {f} {g} {cs} {ds} {body} same is cleared begins r writes
    ends small few = subst (λ v. Lowered p bindings v tree g ds.list body) same of_version where
      of_version : Lowered p bindings version tree g ds.list body
      of_version = record {
        version' = is;
        map = r.known.map;
        declared = r.known.declared;
        raised = r.raised';
        begun = b;
        set_up = begins.set_up;
        fresh = ap (λ c. c.list) begins.code ∙ cleared.new'.code;
        empty = subst (λ t. IsEmpty t) (sym begins.kept) cleared.new'.kept;
        built = f;
        emits = writes.emits;
        stands = writes.begun;
        small = is_small r writes small;
        few = lists_few r writes few version;
        frame = ends.frame;
        symbols = ends.symbols;
        sorted = subst (λ t. Sorts t.entries ds.list) (sym ends.symbols) ends.sorted;
        within = ends.within;
        text = λ code h.
            text_for (text_of body g.code.list) ds.list code f.frame.context g.frame.context kind (kind_for p version)
            f.symbols g.symbols (ap (λ (x : Frame). x.context) ends.frame) (sym begins.kind') ends.symbols
            (ends.text code h);
        words = ends.words;
      }

pub keeps_room : {p : Shader} {bindings : List Binding} {version : ℕ} {kind : Kind} {t tree : Grown}
    {e a b f g : Emission} {cs ds : Pooled Numbered} {body : ℕ} → tree.capacity ≡ t.capacity → IsCleared e a
    → Begins p bindings version kind a b → Writes b f tree → Ends kind f g cs ds body → KeepsRoom t tree e g cs ds
keeps_room nodes cleared begins writes ends =
    let s = stays writes.emits in
    let limits = ap limits_in begins.kept ∙ cleared.kept in
    let context = ap (λ (x : Frame). x.context) ends.frame ∙ s.context in
    record {
      nodes = nodes;
      code = ends.capacity ∙ (s.capacity ∙ (ap (λ c. c.capacity) begins.code ∙ cleared.words));
      ids = ap (λ (t : Table). t.limit) ends.symbols ∙ (s.limit ∙ (begins.limit ∙ cleared.ids));
      declared = ap (λ (c : Context). c.capacity) context ∙ (begins.declared ∙ cleared.declared);
      immediates = ap (λ (c : Context). c.room) context ∙ (begins.immediates ∙ cleared.immediates);
      buffers = ap (λ (x : Frame). x.buffers.capacity) ends.frame ∙ (ap (λ x. x.capacity) s.buffers
          ∙ (begins.buffers ∙ cleared.buffers));
      kept = ap limits_in ends.kept ∙ (s.limits ∙ limits);
      constants = ends.spare;
    }

-- Constants in order have room for all ids.
pub limit_within : {p : Shader} {bindings : List Binding} {version : ℕ} {kind : Kind} {t tree : Grown}
    {e a b f : Emission} {cs : Pooled Numbered} → HasRoomFor p.words t e cs → IsCleared e a
    → Begins p bindings version kind a b → Writes b f tree → f.symbols.limit ≤ cs.capacity
limit_within {cs = cs} room cleared begins writes =
    subst (λ n. n ≤ cs.capacity) (sym ((stays writes.emits).limit ∙ (begins.limit ∙ cleared.ids))) room.constants
