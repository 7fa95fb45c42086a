-- What a table says of a lane does not depend on its place; where no word waits, an empty table says no more.
use Rattle.std.proofs.Common.{◌≡◌, ℕ, Some, sym, ◌∙◌, subst}
use Rattle.kept_values.specs.declared.word.Word.{Word as Kept}
use Rattle.kept_values.specs.Tables.{Table, id_in, dirty_in, Among, IsEmpty}
use Rattle.shader_tree.specs.Values.{Words}
use Rattle.spirv_words.specs.Lane.{State, goes_to}
use Rattle.spirv_emit.specs.Lanes.{Site, Mirrors, Holds}
use Rattle.spirv_flow.specs.Lowers as flow
use Rattle.spirv_flow.specs.Lowers.{IsClean}
use Rattle.spirv_flow.specs.Pieces.{CarriesOver}

no_id : (b : Table) (w : Kept) (id : ℕ) → IsEmpty b → id_in b w ≡ Some id → ⊥
no_id b w id e h = let n = e.ids w in absurd (cc)

none_waits : (b : Table) (w : Kept) → IsEmpty b → Among (dirty_in b) w → ⊥
none_waits b w e h = subst (λ l. Among l w) e.dirty h

renewed_mirrors : (z : Site) (a b : Table) (s : State) (t : Words) → IsClean a → IsEmpty b → Mirrors z a s t → Mirrors z b s t
renewed_mirrors z a b s t clean e h = record {
  knows = h.knows;
  ids = λ w id i u. absurd (no_id b w id e i);
  inside = λ w i. absurd (none_waits b w e i);
  cells = λ y id i. subst (λ l. Holds z.frame (s.memory id) l t y) (clean ∙ sym e.dirty) (h.cells y id i);
}

moved_mirrors : (z : Site) (a : Table) (s : State) (t : Words) (p : ℕ) → Mirrors z a s t → Mirrors z a (goes_to s p) t
moved_mirrors z a s t p h = record { knows = h.knows; ids = h.ids; inside = h.inside; cells = h.cells }

pub carried : (z : Site) → CarriesOver (flow.Holds z) IsClean IsEmpty
carried z = record {
  moved = λ a s t p h. record { mirrors = moved_mirrors z a s t p h.mirrors; words = h.words };
  renewed = λ a b s t clean e h. record { mirrors = renewed_mirrors z a b s t clean e h.mirrors; words = h.words };
  new_clean = λ a e. e.dirty;
}
