-- What a program and its binding map say of the variables of a module: their sizes, and where they are bound.
use Rattle.std.specs.Prelude.{ℕ, ◌*◌, Bool, false, List, [], ◌∷◌, flat_map, Option, Some, None}
use Rattle.std.specs.List.{filter_map}
use Rattle.word_base.specs.declared.event.Room.TheVariants as room
use Rattle.tpf_program.specs.declared.declaration.Declaration.{Declaration}
use Rattle.tpf_program.specs.declared.declaration.Declaration.TheVariants.{Constants, Resource, Uav, Shared, Indexable}
use Rattle.tpf_program.specs.Extents.{shared_words}
use Rattle.tpf_program.specs.Program.{Shader}
use Rattle.binding_map.specs.declared.register.Register.TheVariants as register
use Rattle.binding_map.specs.declared.register.Place.{Place}
use Rattle.binding_map.specs.declared.register.Place.TheVariants.{Bound}
use Rattle.binding_map.specs.Bindings.{Binding, place_of}
use Rattle.spirv_symbols.specs.declared.symbol.Symbol.{Symbol}
use Rattle.spirv_symbols.specs.declared.symbol.Symbol.TheVariants.{Memory, Uniform, Elements}
use Rattle.spirv_symbols.specs.declared.declared.Declared.{Declared}
use Rattle.spirv_emit.specs.declared.buffer.ConstantBuffer.{ConstantBuffer}

-- the set and binding of a register at a descriptor
abbrev pub set_in : Option Place → ℕ
set_in (Some (Bound set binding)) = set
set_in other = 0

abbrev pub binding_in : Option Place → ℕ
binding_in (Some (Bound set binding)) = binding
binding_in other = 0

abbrev pub described : Symbol → ℕ → Option Place → Bool → Declared
described variable size place coherent = record {
  variable = variable;
  size = size;
  set = set_in place;
  binding = binding_in place;
  coherent = coherent;
}

-- Of a view or counter no size; of shared memory its words, of indexable registers four words each, of a constant
-- buffer its vectors.
abbrev pub described_by : List Binding → Declaration → List Declared
described_by bindings (Constants slot size) =
    described (Uniform slot) size (place_of bindings (register.Constant slot)) false ∷ []
described_by bindings (Resource slot view) =
    described (Memory (room.Resource slot)) 0 (place_of bindings (register.Resource slot)) false ∷ []
described_by bindings (Uav slot view coherent ordered) =
    described (Memory (room.Uav slot)) 0 (place_of bindings (register.Uav slot)) coherent
    ∷ described (Memory (room.Counter slot)) 0 (place_of bindings (register.Counter slot)) false ∷ []
described_by bindings (Shared slot kind) = described (Memory (room.Shared slot)) (shared_words kind) None false ∷ []
described_by bindings (Indexable slot count components) = described (Elements slot) (4 * count) None false ∷ []
described_by bindings other = []

abbrev pub descriptions : Shader → List Binding → List Declared
descriptions p bindings = flat_map (λ d. described_by bindings d.what) p.declarations

-- the constant buffers that are bound
abbrev pub buffer_at : ℕ → ℕ → Option Place → Option ConstantBuffer
buffer_at slot vectors None = None
buffer_at slot vectors (Some place) = Some (record { slot = slot; vectors = vectors; place = place })

abbrev pub buffer_by : List Binding → Declaration → Option ConstantBuffer
buffer_by bindings (Constants slot size) = buffer_at slot size (place_of bindings (register.Constant slot))
buffer_by bindings other = None

abbrev pub buffers_of : Shader → List Binding → List ConstantBuffer
buffers_of p bindings = filter_map (λ d. buffer_by bindings d.what) p.declarations
