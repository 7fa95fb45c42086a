-- What the clauses of `text_laws` of spirv_words say.
use Rattle.std.specs.Prelude.{◌≡◌, ℕ, List, ◌++◌}
use Rattle.spirv_words.specs.Text.{Instr, Module, IsTextOf, words_of_code}

pub record TextClauses : Type 0 where
  pub append : (xs ys : List Instr) → words_of_code (xs ++ ys) ≡ words_of_code xs ++ words_of_code ys
  pub determined : (m n : Module) (words : List ℕ) → IsTextOf m words → IsTextOf n words → m ≡ n
