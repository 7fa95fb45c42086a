-- Where statements stand: a break in a loop or switch, a continue in a loop, cases and defaults directly in a switch.
-- A switch has no case twice, at most one default, and at most 32,766 cases.
use Rattle.std.specs.Prelude.{ℕ, ◌+◌, nat_eq, nat_le, not, Bool, true, false, ◌&&◌, List, [], ◌∷◌, length}
use Rattle.std.specs.List.{list_any}
use Rattle.shader_tree.specs.Shape.{cases_in}
use Rattle.shader_tree.specs.Terms.{Term}
use Rattle.shader_tree.specs.Terms as term

abbrev pub are_distinct : List ℕ → Bool
are_distinct [] = true
are_distinct (v ∷ vs) = not (list_any (nat_eq v) vs) && are_distinct vs

-- the defaults that stand directly in a switch
abbrev pub defaults_in : Term → ℕ
defaults_in (term.Case v next) = defaults_in next
defaults_in (term.Default next) = defaults_in next + 1
defaults_in (term.Then a b) = defaults_in a + defaults_in b
defaults_in other = 0

abbrev pub is_switch : Term → Bool
is_switch cases =
    are_distinct (cases_in cases) && (nat_le (length (cases_in cases)) 32766 && nat_le (defaults_in cases) 1)

-- in a statement: whether a loop is around it, whether a loop or switch is, and whether it stands directly in a switch
abbrev pub placed_in : Bool → Bool → Bool → Term → Bool
placed_in loop either switch (term.Guard b body) = placed_in loop either false body
placed_in loop either switch (term.If b a c) = placed_in loop either false a && placed_in loop either false c
placed_in loop either switch (term.Loop body) = placed_in true true false body
placed_in loop either switch (term.Switch on cases) = is_switch cases && placed_in loop true true cases
placed_in loop either switch (term.Case v next) = switch && placed_in loop either switch next
placed_in loop either switch (term.Default next) = switch && placed_in loop either switch next
placed_in loop either switch (term.Then a b) = placed_in loop either switch a && placed_in loop either switch b
placed_in loop either switch term.Break = either
placed_in loop either switch term.Continue = loop
placed_in loop either switch other = true

abbrev pub is_placed : Term → Bool
is_placed root = placed_in false false false root
