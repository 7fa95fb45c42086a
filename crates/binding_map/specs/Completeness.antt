-- The rule on what has to be bound.
use Rattle.std.specs.Prelude.{ℕ, nat_lt, if◌then◌else◌, is_none, Bool, false, List, map, filter, Option, Some, None}
use Rattle.word_base.specs.declared.rule.Refusal.{Refusal}
use Rattle.word_base.specs.declared.rule.Rule.TheVariants.{B1}
use Rattle.word_base.specs.Rules.{refusal}
use Rattle.tpf_program.specs.declared.declaration.Declaration.{Declaration}
use Rattle.tpf_program.specs.declared.declaration.Declaration.TheVariants.{Constants}
use Rattle.tpf_program.specs.Program.{Shader}
use Rattle.binding_map.specs.declared.register.Register.TheVariants.{Constant}
use Rattle.binding_map.specs.Bindings.{Binding, place_of}

-- a constant buffer without a binding
abbrev pub is_unbound : List Binding → Declaration → Bool
is_unbound bindings (Constants slot size) = is_none (place_of bindings (Constant slot))
is_unbound bindings other = false

-- Each declared constant buffer has a binding; a t#, u# or counter may be without one.
abbrev pub binding_refusals : Shader → List Binding → List Refusal
binding_refusals p bindings = map (λ d. refusal B1 d.place) (filter (λ d. is_unbound bindings d.what) p.declarations)

-- the lesser of two places, where there may be no first one
abbrev pub lesser_place : Option ℕ → ℕ → ℕ
lesser_place None place = place
lesser_place (Some before) place = if nat_lt before place then before else place
