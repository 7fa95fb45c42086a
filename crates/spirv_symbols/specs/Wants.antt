-- The variables that a module of a table has, as they are asked of a module.
use Rattle.std.specs.Prelude.{◌≡◌, ℕ, Bool, true, false, List, [], ◌∷◌, flat_map, Option, Some, None}
use Rattle.word_base.specs.declared.event.Room.TheVariants.{Resource, Uav, Counter, Shared}
use Rattle.spirv_words.specs.StorageClass as storage
use Rattle.spirv_words.specs.Globals.{is_built_in}
use Rattle.spirv_words.specs.Variables.{WantedBuffer, WantedUniform, Wanted}
use Rattle.spirv_symbols.specs.declared.symbol.Symbol.{Symbol}
use Rattle.spirv_symbols.specs.declared.symbol.Symbol.TheVariants.{Input, Memory, Uniform, Push}
use Rattle.spirv_symbols.specs.declared.declared.Declared.{Declared}
use Rattle.spirv_symbols.specs.Contexts.{Context, declared_of, size_of}
use Rattle.spirv_symbols.specs.Tables.{Entry, Has}
use Rattle.spirv_symbols.specs.Modules.{class_of}

abbrev pub buffer_at : Declared → (read_only coherent : Bool) → WantedBuffer
buffer_at d read_only coherent =
    record { set = d.set; binding = d.binding; is_read_only = read_only; is_coherent = coherent }

abbrev pub buffer_in : Context → Symbol → List WantedBuffer
buffer_in c (Memory (Resource slot)) = buffer_at (declared_of c (Memory (Resource slot))) true false ∷ []
buffer_in c (Memory (Uav slot)) =
    buffer_at (declared_of c (Memory (Uav slot))) false (declared_of c (Memory (Uav slot))).coherent ∷ []
buffer_in c (Memory (Counter slot)) = buffer_at (declared_of c (Memory (Counter slot))) false false ∷ []
buffer_in c s = []

abbrev pub uniform_at : Declared → WantedUniform
uniform_at d = record { set = d.set; binding = d.binding; vectors = d.size }

abbrev pub uniform_in : Context → Symbol → List WantedUniform
uniform_in c (Uniform slot) = uniform_at (declared_of c (Uniform slot)) ∷ []
uniform_in c s = []

abbrev pub shared_in : Context → Symbol → List ℕ
shared_in c (Memory (Shared slot)) = size_of c (Memory (Shared slot)) ∷ []
shared_in c s = []

abbrev pub input_in : Symbol → List ℕ
input_in (Input built_in) = built_in ∷ []
input_in s = []

abbrev pub push_with : Context → Symbol → Option ℕ → Option ℕ
push_with c Push further = Some c.pushed
push_with c s further = further

abbrev pub push_in : Context → List Entry → Option ℕ
push_in c [] = None
push_in c (e ∷ es) = push_with c e.symbol (push_in c es)

abbrev pub wanted_of : Context → List Entry → Wanted
wanted_of c es = record {
  buffers = flat_map (λ e. buffer_in c e.symbol) es;
  uniforms = flat_map (λ e. uniform_in c e.symbol) es;
  push = push_in c es;
  shared = flat_map (λ e. shared_in c e.symbol) es;
  inputs = flat_map (λ e. input_in e.symbol) es;
}

-- No two views or counters, and no two constant buffers, are bound at one place; inputs are built-ins.
abbrev pub AreApart : Context → List Entry → ℕ → Type 0
AreApart c es class =
    (s u : Symbol) (x y : ℕ) → Has es s x → Has es u y → class_of s ≡ Some class → class_of u ≡ Some class
    → (declared_of c s).set ≡ (declared_of c u).set → (declared_of c s).binding ≡ (declared_of c u).binding → s ≡ u

pub record HasPlaces (c : Context) (es : List Entry) : Type 0 where
  pub buffers : AreApart c es storage.StorageBuffer
  pub uniforms : AreApart c es storage.Uniform
  pub inputs : (built_in x : ℕ) → Has es (Input built_in) x → is_built_in built_in ≡ true
