-- An emitter with all that a program and its map declare, part by part.
use Rattle.std.proofs.Common.{◌≡◌, ℕ, ◌+◌, ◌*◌, ◌≤◌, Bool, true, false, List, [], ◌∷◌, ◌++◌, sym, ap, ◌∙◌, subst, arith}
use Rattle.std.specs.Prelude.{find, sum_by, nat_eq, if◌then◌else◌}
use Rattle.std.proofs.lemmas.List.Sums.{sum_by-cons}
use Rattle.tpf_program.specs.declared.declaration.Declaration.{Declaration}
use Rattle.tpf_program.specs.declared.declaration.Declaration.TheVariants.{Temps}
use Rattle.tpf_program.specs.declared.declaration.Declared.{Declared}
use Rattle.tpf_program.specs.Declarations.{register_count}
use Rattle.tpf_program.specs.Program.{Shader}
use Rattle.tpf_program.specs.Sizes.{temps_declared, temps_of}
use Rattle.binding_map.specs.Bindings.{Binding, IsMap}
use Rattle.spirv_symbols.specs.declared.declared.Declared.{Declared as Said}
use Rattle.spirv_symbols.specs.declared.symbol.Symbol.{Symbol}
use Rattle.spirv_symbols.specs.declared.symbol.Symbol.TheVariants.{Elements}
use Rattle.spirv_symbols.specs.Tables.{Table, Has, Extends}
use Rattle.spirv_emit.specs.Begun.{IsBegun, IsUnsaid}
use Rattle.spirv_emit.specs.Emission.{words_left, ids_left}
use Rattle.spirv_emit.specs.declared.buffer.ConstantBuffer.{ConstantBuffer}
use Rattle.spirv_emit.specs.declared.emitter.Emitter.{Emitter as Emission}
use Rattle.spirv_emit.specs.Growing.{globals_in}
use Rattle.spirv_setup.specs.Describing.{Describes, is_of}
use Rattle.spirv_setup.specs.Descriptions.{descriptions, buffers_of}
use Rattle.spirv_setup.specs.Naming.{MayName, NamesAll, NamesArrays, NamesConstants}
use Rattle.spirv_setup.specs.Premises.{Apart, IsDeclared, declared_words, declared_ids}
use Rattle.spirv_setup.specs.Setup.{IsDescribed, IsSetUp}
use Rattle.spirv_setup.specs.Variables.{bound_variables, push_variables, shared_variables, thread_variables, variables}
use Rattle.binding_map.specs.Wanted.{push_words}
use Rattle.spirv_setup.proofs.Distinct.{all_apart}
use Rattle.spirv_setup.proofs.Said.{same_among}
use Rattle.spirv_setup.proofs.Walked.{may_front, may_back, names_on}

-- so few registers are declared that their words are counted
temps_count : (d : Declaration) → temps_declared d ≤ register_count d
temps_count (Temps count) = omega arith
temps_count other = omega arith

chosen : (b : Bool) (n m r s : ℕ) → m ≤ s → n ≤ r → (if b then m else n) ≤ r + s
chosen true n m r s h k = omega (arith, h)
chosen false n m r s h k = omega (arith, k)

pub temps_few : (ds : List Declared) → temps_of ds ≤ sum_by (λ d. register_count d.what) ds
temps_few [] = omega arith
temps_few (d ∷ ds) =
    subst (λ n. temps_of (d ∷ ds) ≤ n) (sym (sum_by-cons (λ (d : Declared). register_count d.what) d ds))
    (chosen (nat_eq (temps_declared d.what) 0) (temps_declared d.what) (temps_of ds) (register_count d.what)
    (sum_by (λ (d : Declared). register_count d.what) ds) (temps_few ds) (temps_count d.what))

-- WHAT IS SAID, from an emitter of which nothing was said
pub all_described : (p : Shader) (bindings : List Binding) (a b c : Emission) → IsUnsaid a.frame → Describes b c (descriptions p bindings) (buffers_of p bindings)
    → b ≡ record a {
      frame = record a.frame {
        context = record a.frame.context {
          registers = 4 * temps_of p.declarations;
          pushed = push_words p bindings;
          immediates = p.constants;
        };
        separate = false;
      };
    }
    → IsDescribed p bindings c
all_described p bindings a b c none d e =
    let declared : b.frame.context.declared ≡ [] =
    ap (λ (x : Emission). x.frame.context.declared) e ∙ ap (λ x. x.declared) none.context in
    let added : b.frame.buffers.list ≡ [] = ap (λ (x : Emission). x.frame.buffers.list) e ∙ none.buffers in
    record {
      variables = λ s.
          same_among c.frame.context.declared (descriptions p bindings) s (d.found s ∙ ap (λ l. find (is_of s) (l ++ descriptions p bindings)) declared);
      registers = ap (λ (x : Emission). x.frame.context.registers) (d.rest ∙ ap (λ (x : Emission). record x { frame = record x.frame { context = record x.frame.context { declared = c.frame.context.declared }; buffers = c.frame.buffers } }) e);
      pushed = ap (λ (x : Emission). x.frame.context.pushed) (d.rest ∙ ap (λ (x : Emission). record x { frame = record x.frame { context = record x.frame.context { declared = c.frame.context.declared }; buffers = c.frame.buffers } }) e);
      immediates = ap (λ (x : Emission). x.frame.context.immediates) (d.rest ∙ ap (λ (x : Emission). record x { frame = record x.frame { context = record x.frame.context { declared = c.frame.context.declared }; buffers = c.frame.buffers } }) e);
      buffers = d.buffers ∙ ap (λ l. l ++ buffers_of p bindings) added;
    }

-- only the table of symbols grew
pub described_on : (p : Shader) (bindings : List Binding) (a b : Emission) → b ≡ record a { symbols = b.symbols } → IsDescribed p bindings a
    → IsDescribed p bindings b
described_on p bindings a b e h = subst (IsDescribed p bindings) (sym e) (record {
  variables = h.variables;
  registers = h.registers;
  pushed = h.pushed;
  immediates = h.immediates;
  buffers = h.buffers;
})

-- WHAT MAY BE NAMED
pub may_all : (p : Shader) (bindings : List Binding) (e : Emission) (words ids : ℕ) → IsMap bindings → IsDeclared p → IsBegun e
    → globals_in e.symbols.entries ≡ [] → words ≤ words_left e + 79 → ids ≤ ids_left e + 22 → declared_words p bindings ≤ words
    → declared_ids p bindings ≤ ids → MayName e (variables p bindings)
may_all p bindings e words ids m h b none w i dw di = record {
  begun = b;
  apart = subst (λ l. Apart (l ++ variables p bindings)) (sym none) (all_apart p bindings m h.declared);
  words = omega (arith, w, dw);
  ids = omega (arith, i, di);
}

pub may_begin : (p : Shader) (bindings : List Binding) (a d e : Emission) → IsMap bindings → IsDeclared p
    → d ≡ record a { frame = d.frame } → IsBegun e → globals_in e.symbols.entries ≡ [] → d.code.capacity ≤ words_left e + 79
    → d.symbols.limit ≤ ids_left e + 22 → declared_words p bindings ≤ a.code.capacity → declared_ids p bindings ≤ a.symbols.limit
    → MayName e (variables p bindings)
may_begin p bindings a d e m h rest b none w i dw di =
    let code = ap (λ (x : Emission). x.code.capacity) rest in
    let limit = ap (λ (x : Emission). x.symbols.limit) rest in
    may_all p bindings e d.code.capacity d.symbols.limit m h b none w i (omega (arith, code, dw)) (omega (arith, limit, di))

-- WHAT IS THERE THEN, with or without immediate constants
module _ (p : Shader) (bindings : List Binding) (a b c : Emission) (said : IsDescribed p bindings a) (none : globals_in a.symbols.entries ≡ [])
    (n : NamesAll a b (variables p bindings)) (m : NamesArrays b c p.declarations) where
  rest_on : c ≡ record a { symbols = c.symbols }
  rest_on = m.rest ∙ ap (λ (e : Emission). record e { symbols = c.symbols }) n.rest

  globals_on : globals_in c.symbols.entries ≡ variables p bindings
  globals_on = m.globals ∙ (n.globals ∙ ap (λ l. l ++ variables p bindings) none)

  pub set_up : ((t u : Table) (s : Symbol) (x : ℕ) → Extends t u → Has t.entries s x → Has u.entries s x)
      → (d : Emission) → NamesConstants c d p.constants → IsSetUp p bindings d
  set_up kept d h = record {
    begun = h.begun;
    described = described_on p bindings a d (h.rest ∙ ap (λ (e : Emission). record e { symbols = d.symbols }) rest_on) said;
    globals = h.globals ∙ globals_on;
    elements = λ slot e. let x = m.there slot e in (x.0, kept c.symbols d.symbols (Elements slot) x.0 h.extends x.1);
    immediates = h.there;
  }

  pub same_on : (d : Emission) → NamesConstants c d p.constants → d ≡ record a { symbols = d.symbols }
  same_on d h = h.rest ∙ ap (λ (e : Emission). record e { symbols = d.symbols }) rest_on

  pub immediates_on : c.frame.context.immediates ≡ p.constants
  immediates_on = ap (λ (e : Emission). e.frame.context.immediates) rest_on ∙ said.immediates

-- THE PARTS of the variables, one behind the other
module _ (p : Shader) (bindings : List Binding) (a : Emission) (m : MayName a (variables p bindings)) where
  abbrev B : List Symbol
  B = bound_variables p bindings

  abbrev P : List Symbol
  P = push_variables (push_words p bindings)

  abbrev S : List Symbol
  S = shared_variables p

  abbrev T : List Symbol
  T = thread_variables p

  pub may_bound : MayName a B
  may_bound = may_front a B (P ++ (S ++ T)) m

  module _ (b : Emission) (n : NamesAll a b B) where
    behind_bound : MayName b (P ++ (S ++ T))
    behind_bound = may_back a b B (P ++ (S ++ T)) m n

    pub may_push : MayName b P
    may_push = may_front b P (S ++ T) behind_bound

    module _ (c : Emission) (o : NamesAll b c P) where
      behind_push : MayName c (S ++ T)
      behind_push = may_back b c P (S ++ T) behind_bound o

      pub may_shared : MayName c S
      may_shared = may_front c S T behind_push

      module _ (d : Emission) (q : NamesAll c d S) where
        pub may_threads : MayName d T
        may_threads = may_back c d S T behind_push q

        pub named_all : ((t u v : Table) → Extends t u → Extends u v → Extends t v) → (e : Emission) → NamesAll d e T → NamesAll a e (variables p bindings)
        named_all on e r =
            names_on on a b e B (P ++ (S ++ T)) n (names_on on b c e P (S ++ T) o (names_on on c d e S T q r))

-- what is said first: the sizes and the immediates
pub said_sizes : (p : Shader) (bindings : List Binding) (a s b : Emission) (t q : ℕ) → t ≡ temps_of p.declarations → q ≡ push_words p bindings
    → s ≡ record a {
      frame = record a.frame { separate = false; context = record a.frame.context { registers = 4 * t; pushed = q } };
    }
    → b ≡ record s { frame = record s.frame { context = record s.frame.context { immediates = p.constants } } }
    → b ≡ record a {
      frame = record a.frame {
        context = record a.frame.context {
          registers = 4 * temps_of p.declarations;
          pushed = push_words p bindings;
          immediates = p.constants;
        };
        separate = false;
      };
    }
said_sizes p bindings a s b t q e f x y =
    y ∙ ap (λ (z : Emission). record z { frame = record z.frame { context = record z.frame.context { immediates = p.constants } } }) x
    ∙ ap (λ n. record a {
      frame = record a.frame {
        context = record a.frame.context { registers = 4 * n; pushed = q; immediates = p.constants };
        separate = false;
      };
    }) e
    ∙ ap (λ n. record a {
      frame = record a.frame {
        context = record a.frame.context { registers = 4 * temps_of p.declarations; pushed = n; immediates = p.constants };
        separate = false;
      };
    }) f

-- THE ROOM for what is said stays as it was.
module _ (a b c : Emission) (ds : List Said) (bs : List ConstantBuffer) (registers pushed : ℕ) (immediates : List ℕ) (d : Describes b c ds bs)
    (e : b ≡ record a {
      frame = record a.frame {
        context = record a.frame.context { registers = registers; pushed = pushed; immediates = immediates };
        separate = false;
      };
    }) where
  pub declared_kept : c.frame.context.capacity ≡ a.frame.context.capacity
  declared_kept = ap (λ (x : Emission). x.frame.context.capacity) d.rest ∙ ap (λ (x : Emission). x.frame.context.capacity) e

  pub immediates_kept : c.frame.context.room ≡ a.frame.context.room
  immediates_kept = ap (λ (x : Emission). x.frame.context.room) d.rest ∙ ap (λ (x : Emission). x.frame.context.room) e

  pub buffers_kept : c.frame.buffers.capacity ≡ a.frame.buffers.capacity
  buffers_kept = d.capacity ∙ ap (λ (x : Emission). x.frame.buffers.capacity) e
