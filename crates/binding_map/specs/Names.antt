-- The names of registers in texts. (This project's own format.)
use Rattle.std.specs.Prelude.{ℕ, nat_eq, nat_lt, if◌then◌else◌, List, ◌++◌, drop, Option, Some, None, codes}
use Rattle.std.specs.Fmt.{decimal}
use Rattle.std.specs.List.{starts_with}
use Rattle.std.specs.Option.{option_map}
use Rattle.text_lines.specs.Numbers.{number_of}
use Rattle.binding_map.specs.declared.register.Register.{Register}
use Rattle.binding_map.specs.declared.register.Register.TheVariants.{Constant, Resource, Uav, Counter}
use Rattle.binding_map.specs.Bindings.{slot_of}

abbrev pub below : ℕ → Option ℕ → Option ℕ
below limit None = None
below limit (Some n) = if nat_lt n limit then Some n else None

-- the register of a name: that of a kind, and behind it a slot below the kind's limit
abbrev pub register_named : List ℕ → Option Register
register_named name =
    if starts_with nat_eq name (codes "cb") then option_map Constant (below 14 (number_of (drop 2 name)))
    else if starts_with nat_eq name (codes "counter") then option_map Counter (below 64 (number_of (drop 7 name)))
    else if starts_with nat_eq name (codes "t") then option_map Resource (below 128 (number_of (drop 1 name)))
    else if starts_with nat_eq name (codes "u") then option_map Uav (below 64 (number_of (drop 1 name)))
    else None

-- the limit of its kind's slots, which a register that a text names is below
abbrev pub slots_of : Register → ℕ
slots_of (Constant slot) = 14
slots_of (Resource slot) = 128
slots_of (Uav slot) = 64
slots_of (Counter slot) = 64

-- a register's name as it is written
abbrev pub kind_name : Register → List ℕ
kind_name (Constant slot) = codes "cb"
kind_name (Resource slot) = codes "t"
kind_name (Uav slot) = codes "u"
kind_name (Counter slot) = codes "counter"

abbrev pub name_of : Register → List ℕ
name_of register = kind_name register ++ decimal (slot_of register)
