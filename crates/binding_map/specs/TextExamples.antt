-- What lines say, and maps of texts.
use Rattle.std.specs.Prelude.{◌≡◌, true, false, [], ◌∷◌, Some, None, codes, refl}
use Rattle.std.specs.Fmt.{digits}
use Rattle.binding_map.specs.declared.register.Register.TheVariants.{Constant, Resource, Uav, Counter}
use Rattle.binding_map.specs.declared.register.Place.TheVariants.{Bound, Push}
use Rattle.binding_map.specs.Bindings.{binding}
use Rattle.binding_map.specs.Names.{name_of, register_named}
use Rattle.binding_map.specs.Texts.{said, Nothing, Unread, Names, text_map, is_past}

-- one or more spaces, and leading zeros
pub spaced : said (codes "counter07   1 0004") ≡ Names (binding (Counter 7) (Bound 1 4))
spaced = refl

pub pushes : said (codes "cb13 push 62 2") ≡ Names (binding (Constant 13) (Push 62 2))
pushes = refl

-- comments and empty lines; a line of a space is not empty
pub comment : said (codes "#u0 1 4") ≡ Nothing
comment = refl

pub nothing : said [] ≡ Nothing
nothing = refl

pub one_space : said (codes " ") ≡ Unread
one_space = refl

-- no binding, a slot past its limit, push constants of a t#, and a number of 11 digits
pub short : said (codes "u0 1") ≡ Unread
short = refl

pub past_slots : said (codes "u64 1 4") ≡ Unread
past_slots = refl

pub pushed_view : said (codes "t0 push 0 1") ≡ Unread
pushed_view = refl

pub long : said (codes "u0 1 00000000004") ≡ Unread
long = refl

-- Past a limit a line still names its register.
pub named : said (codes "u0 8 4294967296") ≡ Names (binding (Uav 0) (Bound 8 4294967296))
named = refl

pub past_words : is_past (Push 63 2) ≡ true
past_words = refl

pub last_words : is_past (Push 62 2) ≡ false
last_words = refl

pub no_words : is_past (Push 0 0) ≡ true
no_words = refl

-- A CR stands before the LF of the first line, and the last line has no LF.
pub of_lines : text_map (codes "t0 0 1\r\n\n# a\nu0 0 0")
    ≡ binding (Resource 0) (Bound 0 1) ∷ binding (Uav 0) (Bound 0 0) ∷ []
of_lines = refl

-- Names of registers: a leading zero is read and not written, and `c` is no kind.
pub of_a_name : register_named (codes "cb02") ≡ Some (Constant 2)
of_a_name = refl

pub of_no_kind : register_named (codes "c2") ≡ None
of_no_kind = refl

pub written : name_of (Counter 63) ≡ codes "counter63"
unfolding digits
written = refl
