-- The items of a layout's blocks in a module: those of its straight code, and of the loops and switches around it.
use Rattle.std.specs.Prelude.{◌≡◌, ℕ, nat_eq, false, List, [], ◌∷◌, ◌++◌}
use Rattle.std.specs.List.{list_any}
use Rattle.shader_tree.specs.Shape.{OpensLoop, OpensSwitch, ClosesIt}
use Rattle.spirv_words.specs.Definitions.{results}
use Rattle.spirv_words.specs.Globals.{Places}
use Rattle.spirv_words.specs.Text.{Instr}
use Rattle.spirv_emit.specs.Code.{In}
use Rattle.spirv_emit.specs.ModuleShape.{Mark, Seen, merges_of, shape_of}
use Rattle.spirv_flow.specs.Layout.{Layout, Straight, Both, Guarded, Chosen, Looped, Switched, Case, cases}

abbrev pub values : List Case → List ℕ
values [] = []
values (c ∷ cs) = c.value ∷ values cs

abbrev pub shape_in : List Instr → Places → Layout → List Mark
shape_in code places (Straight seg) = shape_of code places seg
shape_in code places (Both a b) = shape_in code places a ++ shape_in code places b
shape_in code places (Guarded t i m x) = shape_in code places x
shape_in code places (Chosen t y n m a b) = shape_in code places a ++ shape_in code places b
shape_in code places (Looped h i c m x) = Seen OpensLoop ∷ (shape_in code places x ++ Seen ClosesIt ∷ [])
shape_in code places (Switched on i m x) =
    Seen (OpensSwitch (values (cases x))) ∷ (shape_in code places x ++ Seen ClosesIt ∷ [])
shape_in code places x = []

-- What stands in front of a function's blocks has no items, where no label of it ends a loop or switch.
pub record HasNoItems (front : List Instr) : Type 0 where
  pub merges : (rest : List Instr) → merges_of (front ++ rest) ≡ merges_of rest
  pub shows : (code : List Instr) (places : Places)
      → ((l : ℕ) → In (results front) l → list_any (nat_eq l) (merges_of code) ≡ false)
      → shape_of code places front ≡ []
