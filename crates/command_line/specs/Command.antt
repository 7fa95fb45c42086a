-- The command line as one simple command of `clap`, and the values that its words give to the options.
use Rattle.std.specs.Prelude.{ℕ, List, [], ◌∷◌, Option, Some, None, Bool, true, false, if◌then◌else◌, codes}
use Rattle.clap.specs.Words.{App, Row, Rule, Text, fault_of, first_of, matches_of, new_app, new_rule, with_rule}
use Rattle.clap.specs.Simple.{on_top}

-- an option of one letter
abbrev pub letter_rule : Text → ℕ → Rule
letter_rule id letter = record (new_rule id) { short = Some letter }

-- an option that is a word, which is its id too
abbrev pub word_rule : Text → Rule
word_rule id = record (new_rule id) { long = Some id }

-- the command without options, whose words begin behind the program's name
abbrev pub bare_command : App
bare_command = on_top (λ s. record s { no_binary_name = true }) (new_app (codes "vkd3d-compiler"))

-- with the options on the kinds of the input and of the output, and on the output's name
abbrev pub output_command : App
output_command = with_rule (with_rule (with_rule bare_command
    (letter_rule (codes "x") 120)) (letter_rule (codes "b") 98)) (letter_rule (codes "o") 111)

-- and with the two binding options
abbrev pub binding_command : App
binding_command =
    with_rule (with_rule output_command (word_rule (codes "bindings"))) (word_rule (codes "root-signature"))

-- the command line
unfoldable pub command : App
command = with_rule (with_rule (with_rule (with_rule binding_command (word_rule (codes "simulate")))
    (word_rule (codes "sample"))) (word_rule (codes "spirv-version"))) (new_rule (codes "INPUT"))

-- what the words give to each option and to INPUT
pub record Values : Type 0 where
  -- `-x`, the kind of the input
  pub source : Option Text
  -- `-b`, the kind of the output
  pub target : Option Text
  -- `-o`, the name of the output
  pub output : Option Text
  pub bindings : Option Text
  pub root_signature : Option Text
  pub simulate : Option Text
  pub sample : Option Text
  pub spirv_version : Option Text
  pub input : Option Text

abbrev pub values_in : List Row → Values
values_in rows = record {
  source = first_of (codes "x") rows;
  target = first_of (codes "b") rows;
  output = first_of (codes "o") rows;
  bindings = first_of (codes "bindings") rows;
  root_signature = first_of (codes "root-signature") rows;
  simulate = first_of (codes "simulate") rows;
  sample = first_of (codes "sample") rows;
  spirv_version = first_of (codes "spirv-version") rows;
  input = first_of (codes "INPUT") rows;
}

abbrev pub has_none : {A : Type 0} → List A → Bool
has_none [] = true
has_none (x ∷ xs) = false

-- the values, where the words match the command
unfoldable pub values_of : List Text → Option Values
values_of words = if has_none (fault_of command words) then Some (values_in (matches_of command words)) else None
