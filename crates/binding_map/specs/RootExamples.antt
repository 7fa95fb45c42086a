-- Maps of root signatures.
use Rattle.std.specs.Prelude.{◌≡◌, [], ◌∷◌, refl}
use Rattle.root_signature.specs.declared.covers.Covers.TheVariants as covers
use Rattle.tpf_program.specs.declared.declaration.Declaration.TheVariants as declared
use Rattle.tpf_program.specs.declared.declaration.ViewKind.TheVariants.{Raw}
use Rattle.tpf_program.specs.ExampleParts.{bare, program_of}
use Rattle.tpf_program.specs.Program.{Shader}
use Rattle.binding_map.specs.declared.register.Register.TheVariants.{Constant, Resource, Uav, Counter}
use Rattle.binding_map.specs.declared.register.Place.TheVariants.{Bound, Push}
use Rattle.binding_map.specs.Bindings.{binding}
use Rattle.binding_map.specs.Examples.{mixed, raw}
use Rattle.binding_map.specs.Roots.{root_map}

-- a histogram: two root constants, the data at t0, the counts at u0
abbrev pub histogram : Shader
histogram = program_of (declared.Constants 0 1 ∷ declared.Resource 0 Raw ∷ raw 0 ∷ []) (bare 62 ∷ [])

pub of_histogram : root_map (covers.Constants 0 0 2 ∷ covers.Srv 0 1 ∷ covers.Uav 0 1 ∷ []) histogram
    ≡ binding (Constant 0) (Push 0 2) ∷ binding (Resource 0) (Bound 0 0) ∷ binding (Uav 0) (Bound 0 1) ∷ []
of_histogram = refl

-- The order of covering counts, registers ascend in a range, and the counter comes last. An unbounded range covers t100
-- too; cb1 is not covered, and left out.
pub of_ranges : root_map (covers.Uav 7 1 ∷ covers.Srv 1 4294967295 ∷ covers.Cbv 2 2 ∷ []) mixed
    ≡ binding (Uav 7) (Bound 0 0) ∷ binding (Resource 2) (Bound 0 1) ∷ binding (Resource 100) (Bound 0 2)
    ∷ binding (Constant 3) (Bound 0 3) ∷ binding (Counter 7) (Bound 0 4) ∷ []
of_ranges = refl

-- A counter has a number also where its u# is not covered; root constants of no words cover their register.
pub of_none : root_map (covers.Constants 3 0 0 ∷ []) mixed
    ≡ binding (Constant 3) (Push 0 0) ∷ binding (Counter 7) (Bound 0 0) ∷ []
of_none = refl
