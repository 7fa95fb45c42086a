-- What the reader of a text knows of a line, and how it adds one to a map.
use Rattle.std.specs.Prelude.{◌≡◌, ℕ, ◌+◌, nat_eq, nat_lt, ◌&&◌, max, min, if◌then◌else◌, Bool, true, false, List, ◌++◌, Some, slice_get, ◌⊎◌}
use Rattle.std.specs.Option.{option_to_list}
use Rattle.word_base.specs.declared.rule.Refusal.{Refusal}
use Rattle.word_base.specs.declared.rule.Rule.TheVariants.{B2, B3}
use Rattle.word_base.specs.Rules.{refusal, IsSound}
use Rattle.binding_map.specs.declared.line.Line.{Line}
use Rattle.binding_map.specs.declared.line.Line.TheVariants as line
use Rattle.binding_map.specs.declared.line.Named.{Named}
use Rattle.binding_map.specs.declared.line.Named.TheVariants as one
use Rattle.binding_map.specs.declared.register.Register.TheVariants.{Constant}
use Rattle.binding_map.specs.declared.register.Place.{Place}
use Rattle.binding_map.specs.declared.register.Place.TheVariants.{Bound, Push}
use Rattle.binding_map.specs.Bindings.{Binding, binding, same_register}
use Rattle.binding_map.specs.Texts.{Said, Nothing, Unread, Names, named, Shares, is_past}

-- a binding that a line names, and what the line says
abbrev pub binding_of : Named → Binding
binding_of (one.Bound register set number) = binding register (Bound set number)
binding_of (one.Push slot first count) = binding (Constant slot) (Push first count)

abbrev pub shown : Line → Said
shown line.Nothing = Nothing
shown line.Unread = Unread
shown (line.Names n) = Names (binding_of n)

-- whether two places, or two bindings, have something in common
abbrev pub is_common : Place → Place → Bool
is_common (Bound s b) (Bound set number) = nat_eq s set && nat_eq b number
is_common (Push f c) (Push first count) = nat_lt (max f first) (min (f + c) (first + count))
is_common p q = false

abbrev pub is_shared : Binding → Binding → Bool
is_shared a b = if same_register a.register b.register then true else is_common a.place b.place

-- a binding of the map has something in common with one more
pub record IsNamed (bindings : List Binding) (b : Binding) : Type 0 where
  pub place : ℕ
  pub a : Binding
  pub there : slice_get bindings place ≡ Some a
  pub shares : Shares a b

-- the rules that a line breaks, behind lines that give the map so far
abbrev pub LineBreaks : List Binding → Said → ℕ → Refusal → Type 0
LineBreaks bindings Nothing line r = ⊥
LineBreaks bindings Unread line r = r ≡ refusal B3 line
LineBreaks bindings (Names b) line r =
    (IsNamed bindings b × (r ≡ refusal B2 line)) ⊎ ((is_past b.place ≡ true) × (r ≡ refusal B3 line))

-- the map with what a line names
pub record Adds (old new : List Binding) (s : Said) (line : ℕ) : Type 0 where
  pub sound : IsSound (LineBreaks old s line)
  pub list : new ≡ old ++ option_to_list (named s)
