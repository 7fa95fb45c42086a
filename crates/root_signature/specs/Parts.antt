-- What is read of the data of a root signature.
use Rattle.std.specs.Prelude.{◌≡◌, ℕ, ◌≤◌, List, length, Option, None}
use Rattle.word_base.specs.declared.rule.Refusal.{Refusal}
use Rattle.root_signature.specs.declared.covers.Entry.{Entry}
use Rattle.root_signature.specs.Covering.{all_covered}
use Rattle.root_signature.specs.Refusals.{IsBrokenIn}
use Rattle.root_signature.specs.Bests.{IsBest}

-- The first broken rule; where none is broken, all entries.
pub record AreParts (content : List ℕ) (entries : List Entry) (best : Option Refusal) : Type 0 where
  pub first : IsBest (IsBrokenIn content) best
  pub exact : best ≡ None → entries ≡ all_covered content
  pub few : length entries ≤ 33554432
