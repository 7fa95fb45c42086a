-- Numbers. They are written by std's `decimal`, without leading zeros. (This project's own format.)
use Rattle.std.specs.Prelude.{ℕ, nat_lt, nat_le, ◌&&◌, if◌then◌else◌, List, length, Option, Some, None}
use Rattle.std.specs.Char.{is_ascii_digit}
use Rattle.std.specs.List.{list_all}
use Rattle.std.specs.Str.Parse.{digits_value}

-- the number that 1 to 10 decimal digits write
abbrev pub number_of : List ℕ → Option ℕ
number_of digits =
    if nat_lt 0 (length digits) && (nat_le (length digits) 10 && list_all is_ascii_digit digits)
    then Some (digits_value 10 digits)
    else None
