-- What a program and its bindings say of the variables of a module: their sizes and places. No size stands inside a
-- symbol.
use Rattle.std.specs.Prelude.{◌≡◌, ℕ, ◌<◌, ◌⊎◌, if◌then◌else◌, false, List, [], ◌∷◌, ◌++◌, length, map, Contains}
use Rattle.spirv_symbols.specs.declared.symbol.Symbol.{Symbol}
use Rattle.spirv_symbols.specs.declared.declared.Declared.{Declared}
use Rattle.spirv_symbols.specs.Names.{is_symbol}

-- The declared variables with their sizes and places, the words of the registers r#, the words of push constants, and
-- the words of the immediate constant buffer.
pub record Context : Type 0 where
  pub declared : List Declared
  pub capacity : ℕ
  pub registers : ℕ
  pub pushed : ℕ
  pub immediates : List ℕ
  pub room : ℕ

-- An instruction has at most 65,535 words, so the composite of the immediate constant buffer has fewer parts.
abbrev pub IsSmall : Context → Type 0
IsSmall context = length context.immediates < 65000

-- what is said of a variable that is not declared
abbrev pub undeclared : Symbol → Declared
undeclared s = record { variable = s; size = 0; set = 0; binding = 0; coherent = false }

-- what is declared of a variable
abbrev pub declared_among : List Declared → Symbol → Declared
declared_among [] s = undeclared s
declared_among (d ∷ ds) s = if is_symbol d.variable s then d else declared_among ds s

abbrev pub declared_of : Context → Symbol → Declared
declared_of context s = declared_among context.declared s

abbrev pub size_of : Context → Symbol → ℕ
size_of context s = (declared_of context s).size

-- before anything is said
abbrev pub empty_context : (capacity room : ℕ) → Context
empty_context capacity room =
    record { declared = []; capacity = capacity; registers = 0; pushed = 0; immediates = []; room = room }

abbrev pub context_of : List Declared → ℕ → (registers pushed : ℕ) → List ℕ → ℕ → Context
context_of declared capacity registers pushed immediates room =
    record {
      declared = declared;
      capacity = capacity;
      registers = registers;
      pushed = pushed;
      immediates =
          immediates;
      room = room;
    }

abbrev pub variables_of : List Declared → List Symbol
variables_of ds = map (λ d. d.variable) ds

-- A variable is declared once: what was said first stays.
abbrev pub with_declared : Context → List Declared → Context
with_declared c ds = record c { declared = ds }

abbrev pub Declares : Context → Context → Declared → Type 0
Declares old new d =
    (Contains (variables_of old.declared) d.variable × (new ≡ old))
    ⊎ ((Contains (variables_of old.declared) d.variable → ⊥) × (new ≡ with_declared old (old.declared ++ d ∷ [])))
