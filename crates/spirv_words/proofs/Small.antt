-- The smallest module has the form.
use Rattle.std.proofs.Common.{◌≡◌, ℕ, true, nat_eq, IsTrue, refl}
use Rattle.std.proofs.lemmas.Bool.{eq-eqb, and_from}
use Rattle.word_base.specs.Settings.{axes}
use Rattle.spirv_words.specs.Smallest.{smallest}
use Rattle.spirv_words.specs.Text.{is_version}
use Rattle.spirv_words.specs.Sections.{has_sections}
use Rattle.spirv_words.specs.Variables.{nothing_wanted}
use Rattle.spirv_words.specs.Form.{Form}

sectioned : (version x y z : ℕ) → has_sections (axes x y z) (smallest version x y z).code ≡ true
sectioned version x y z = rw (eq-eqb x x refl, eq-eqb y y refl, eq-eqb z z refl) refl

pub form : (version x y z : ℕ) → IsTrue (is_version version) → Form version (axes x y z) nothing_wanted (smallest version x y z)
form version x y z h = record {
  header = and_from (is_version version) (nat_eq version version) h (eq-eqb version version refl);
  sections = sectioned version x y z;
  single_definition = refl;
  distinct_types = refl;
  sorts = refl;
  local_results = refl;
  blocks = refl;
  merges = refl;
  branches = refl;
  variables = refl;
  switch_order = refl;
  interface = refl;
}
