-- What a contract sees of a pool.
use Rattle.std.specs.Prelude.{◌≡◌, ℕ, ◌≤◌, List, length, Option, refl}
use Rattle.std.specs.Coded.{Coded, code_by, coded×, coded_list, coded_ℕ}
use Rattle.node_pool.specs.Places.{IsStored}

-- the items in their order, and how many there may be
pub record Pooled (X : Type 0) : Type 0 where
  pub list : List X
  pub capacity : ℕ

module _ {X : Type 0} where
  abbrev pub pooled : List X → ℕ → Pooled X
  pooled items capacity = record { list = items; capacity = capacity }

  abbrev pub pooled_code : Coded X → Coded (Pooled X)
  pooled_code code = code_by (List X × ℕ) (coded× (coded_list code) coded_ℕ) (λ p. (p.list, p.capacity)) (λ p. pooled p.0 p.1) (λ _. refl)

  -- the items are what the first n of the places hold
  abbrev pub IsPool : ℕ → List (Option X) → ℕ → Type 0
  IsPool n places capacity = (length places ≡ capacity) × (n ≤ capacity) × IsStored n places
