-- What the parts of a checked program owe, under a setting that fits it.
use Rattle.std.proofs.Common.{◌≡◌, ℕ, Bool, true, false, List, Option, None, refl, sym, ap, ◌∙◌, subst}
use Rattle.std.specs.Prelude.{nat_eq, not, if◌then◌else◌}
use Rattle.word_base.specs.declared.event.Event.{Event}
use Rattle.word_base.specs.declared.event.Room.{Room}
use Rattle.word_base.specs.Registers.{Registers}
use Rattle.word_base.specs.Settings.{Setting, HoldsWords}
use Rattle.word_base.specs.Words.{AreWords}
use Rattle.tpf_decode.specs.Profiles.{Base}
use Rattle.tpf_decode.specs.Opcodes.{meaning_of}
use Rattle.tpf_program.specs.declared.instruction.Instruction.{Instruction}
use Rattle.tpf_program.specs.Bytecode.{plan, result}
use Rattle.tpf_program.specs.Extents.{FitsRooms}
use Rattle.tpf_program.specs.Holding.{HoldWords}
use Rattle.tpf_program.specs.Program.{Shader}
use Rattle.tpf_program.specs.Values.{context, scalar}
use Rattle.tpf_program.specs.Writes.{has_bit}
use Rattle.shader_tree.specs.Chains.{Link, behind_mark}
use Rattle.shader_tree.specs.declared.node.Comparison.TheVariants.{Equal, Unequal}
use Rattle.shader_tree.specs.Plans.{Performs}
use Rattle.shader_tree.specs.Terms.{Term}
use Rattle.shader_tree.specs.Values.{compares, for_two, truth, word}
use Rattle.raise_operands.specs.Raises.{Raises, RaisesScalar, is_computed}
use Rattle.raise_operands.specs.Raising as computing
use Rattle.raise_operands.specs.Raising.{scalar_front, scalar_word}
use Rattle.raise_operands.specs.Vectors.{spaces_of}
use Rattle.raise_views.specs.Guarding as guarding
use Rattle.raise_views.specs.Guarding.{is_guarded}
use Rattle.raise_views.specs.Guards.{Guards}
use Rattle.raise_program.specs.Advances.{Serves}
use Rattle.raise_program.specs.Parts.{comparison_of, parts_of, plain_of}
use Rattle.raise_program.specs.Raised.{goes_on}
use Rattle.raise_program.proofs.Known.{by_kind, none_planned}
use Rattle.raise_program.proofs.Together.{IsIn, Raising}
use Rattle.raise_program.proofs.Unmarked.{unmarked}

-- what is known of the instructions of a program
pub record Known (is_null : Room → Bool) (p : Shader) : Type 0 where
  pub computed :
      (i : Instruction) → IsIn p i → is_computed (meaning_of Base i.code) ≡ true → Raises p i (computing.statement_of p i)
  pub guarded :
      (i : Instruction) → IsIn p i → is_guarded (meaning_of Base i.code) ≡ true → Guards is_null p i (guarding.statement_of is_null p i)
  pub scalars : (i : Instruction) → IsIn p i → RaisesScalar p i (scalar_front p i) (scalar_word p i)
  pub registers :
      (setting : Setting) (r : Registers) (i : Instruction) (answers : List ℕ) → HoldsWords setting → HoldWords r → IsIn p i → AreWords answers
      → HoldWords (result Base p setting r i answers)

-- the test of an instruction
test_is : (b : Bool) (w : ℕ) → compares (if b then Unequal else Equal) w 0 ≡ (if b then not (nat_eq w 0) else nat_eq w 0)
test_is true w = refl
test_is false w = refl

module _ (is_null : Room → Bool) (p : Shader) (known : Known is_null p) where
  abbrev computing_of : Instruction → Term
  computing_of i = computing.statement_of p i

  abbrev guarding_of : Instruction → Term
  guarding_of i = guarding.statement_of is_null p i

  plain_unmarked : (i : Instruction) → IsIn p i → goes_on (meaning_of Base i.code) ≡ true
      → (mark : Option ℕ) (k : List Link) → behind_mark mark (plain_of is_null p i) k ≡ None
  plain_unmarked i at g =
      by_kind is_null p (λ x. (mark : Option ℕ) (k : List Link) → behind_mark mark x k ≡ None) i g
      (λ e. unmarked (guarding_of i) (known.guarded i at e).no_flow) (λ e. unmarked (computing_of i) (known.computed i at e).plain.no_flow)

  pub raising : (setting : Setting) → FitsRooms is_null p setting → Raising p (spaces_of p) setting (parts_of is_null p)
  raising setting fits = record {
    unmarked = record {
      plain = λ n i at g mark k. plain_unmarked i (n, at) g mark k;
      front = λ n i at mark k. unmarked (scalar_front p i) (known.scalars i (n, at)).front'.no_flow mark k;
    };
    serves = λ r i h at. serves_by r i h at;
    performs = λ r i h at g. performs_by r i h at g;
    keeps = λ r i answers h at w. known.registers setting r i answers fits.words h at w;
  }
    where
      serves_by : (r : Registers) (i : Instruction) → HoldWords r → IsIn p i → Serves p (spaces_of p) setting (parts_of is_null p) r i
      serves_by r i h at =
          let s = known.scalars i at in
          record {
            leads = λ k scratch turns.
                let l = s.gives setting r fits.words h k scratch turns in
                let w = scalar (context p setting r) i.o0 in
                let b = has_bit i.controls 18 in (
                  l.0,
                  l.1,
                  l.2,
                  ap (λ v. for_two v (word 0) (λ x y. truth (compares (comparison_of i) x y))) l.3 ∙ ap (λ c. truth c) (test_is b w),
                  l.3,
                );
          }

      performs_by : (r : Registers) (i : Instruction) → HoldWords r → IsIn p i → goes_on (meaning_of Base i.code) ≡ true
          → Performs (spaces_of p) setting (plain_of is_null p i) r (plan Base p setting r i) (λ answers. result Base p setting r i answers)
      performs_by r i h at g =
          by_kind is_null p (λ x. Performs (spaces_of p) setting x r (plan Base p setting r i) (λ answers. result Base p setting r i answers)) i g
          (λ e. (known.guarded i at e).performs setting r fits h)
          (λ e. computed_performs r i h at e)
        where
          computed_performs : (r : Registers) (i : Instruction) → HoldWords r → IsIn p i → is_computed (meaning_of Base i.code) ≡ true
              → Performs (spaces_of p) setting (computing_of i) r (plan Base p setting r i) (λ answers. result Base p setting r i answers)
          computed_performs r i h at e =
              let none = none_planned (context p setting r) (meaning_of Base i.code) i e in
              subst (λ (es : List Event). Performs (spaces_of p) setting (computing_of i) r es (λ answers. result Base p setting r i answers)) (sym none)
              ((known.computed i at e).performs setting r fits.words h)
