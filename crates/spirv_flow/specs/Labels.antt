-- The labels that stand in code, in its order.
use Rattle.std.specs.Prelude.{ℕ, List, [], ◌∷◌, ◌++◌}
use Rattle.spirv_words.specs.Blocks.{Flow, Label, flow_of}
use Rattle.spirv_words.specs.Text.{Instr}

abbrev pub labels_of : Flow → List ℕ
labels_of (Label l) = l ∷ []
labels_of f = []

abbrev pub labels_in : List Instr → List ℕ
labels_in [] = []
labels_in (i ∷ is) = labels_of (flow_of i) ++ labels_in is
