-- The statement of a guarded instruction does what its instruction does.
use Rattle.std.proofs.Common.{◌≡◌, ℕ, Bool, true, false, Option, Some, None, refl, subst}
use Rattle.std.specs.List.{list_any}
use Rattle.std.proofs.lemmas.Bool.{false≢true}
use Rattle.word_base.specs.declared.event.Room.{Room}
use Rattle.word_base.specs.declared.event.Room.TheVariants as room
use Rattle.word_base.specs.Registers.{Registers}
use Rattle.word_base.specs.Settings.{Setting}
use Rattle.tpf_decode.specs.Opcodes.{meaning_of}
use Rattle.tpf_decode.specs.Profiles.{Base}
use Rattle.tpf_decode.specs.declared.argument.Kind.{Kind}
use Rattle.tpf_decode.specs.declared.argument.Kind.TheVariants as kind
use Rattle.tpf_decode.specs.declared.meaning.Meaning.{Meaning}
use Rattle.tpf_decode.specs.declared.meaning.Meaning.TheVariants.{Allocates, Consumes}
use Rattle.tpf_program.specs.Bytecode.{plan, plan_by, result, result_by}
use Rattle.tpf_program.specs.Extents.{FitsRooms, steps_counter}
use Rattle.tpf_program.specs.Holding.{HoldWords}
use Rattle.tpf_program.specs.Program.{Shader}
use Rattle.tpf_program.specs.Values.{context}
use Rattle.tpf_program.specs.Views as views
use Rattle.tpf_program.specs.declared.instruction.Instruction.{Instruction}
use Rattle.shader_tree.specs.Plans.{Performs}
use Rattle.raise_operands.specs.Laws.{IsGiven, ReadingLaws, RunLaws}
use Rattle.raise_operands.specs.Vectors.{spaces_of}
use Rattle.raise_views.specs.Guarding.{is_guarded, raised, room_by, statement_of, view_of}
use Rattle.raise_views.specs.Guards.{IsGuardable}
use Rattle.raise_views.proofs.Given.{any_at, counter_extent, known_extent, null_extent, steps, steps_it}
use Rattle.raise_views.proofs.Performed.{Does, does_null, does_there}

of_view : (k : Kind) (slot n : ℕ) → views.room_by k slot ≡ room.Counter n → ⊥
of_view kind.Resource slot n e = absurd (cc e)
of_view kind.Shared slot n e = absurd (cc e)
of_view other slot n e = absurd (cc e)

module _ (reading : ReadingLaws) (run : RunLaws) (is_null : Room → Bool) (shared : (slot : ℕ) → is_null (room.Shared slot) ≡ false) (p : Shader)
    (i : Instruction) (able : IsGuardable p i)
    (s : Setting) (o : Registers) (fits : FitsRooms is_null p s) (holds : HoldWords o) where
  given : IsGiven p s o
  given = record { spaces = able.there.spaces; constants = able.there.words; setting = fits.words; registers = holds }

  abbrev does : Meaning → Bool → Type 0
  does m null = Does reading run p s o i given able.there.range able.there.immediates m null

  by_null : (m : Meaning) (b : Bool) → is_null (room_by m i) ≡ b → is_guarded (Some m) ≡ true → meaning_of Base i.code ≡ Some m → does m b
  by_null m true e h q =
      does_null reading run p s o i given able.there.range able.there.immediates m (null_extent is_null shared p s fits (room_by m i) e) h
  by_null m false e h q =
      does_there reading run p s o i given able.there.range able.there.immediates m (known_extent is_null shared p s fits (room_by m i))
      (stepped m e q) h
    where
      there : (m : Meaning) → steps m ≡ true → meaning_of Base i.code ≡ Some m → list_any (steps_counter i.o1.slot) p.instructions ≡ true
      there m e q = any_at (steps_counter i.o1.slot) p.instructions able.there.number i able.there.there (steps_it i m q e)

      stepped : (m : Meaning) → is_null (room_by m i) ≡ false → meaning_of Base i.code ≡ Some m → (slot : ℕ) → room_by m i ≡ room.Counter slot
          → s.extent (room.Counter slot) ≡ 1
      stepped Allocates e q slot r = subst (λ x. s.extent x ≡ 1) r (counter_extent is_null shared p s fits i.o1.slot e (there Allocates refl q))
      stepped Consumes e q slot r = subst (λ x. s.extent x ≡ 1) r (counter_extent is_null shared p s fits i.o1.slot e (there Consumes refl q))
      stepped other e q slot r = absurd (of_view (view_of other i).kind (view_of other i).slot slot r)

  by_meaning : (m : Option Meaning) → meaning_of Base i.code ≡ m → is_guarded m ≡ true
      → Performs (spaces_of p) s (raised m is_null p i) o (plan_by (context p s o) m i) (λ answers. result_by (context p s o) m i answers)
  by_meaning None q h = absurd (false≢true h)
  by_meaning (Some m) q h = by_null m (is_null (room_by m i)) refl h q

  pub performs_all : Performs (spaces_of p) s (statement_of is_null p i) o (plan Base p s o i) (λ answers. result Base p s o i answers)
  unfolding statement_of
  performs_all = by_meaning (meaning_of Base i.code) refl able.guards
