-- The raised tree of a program that breaks no rule, in all.
use Rattle.std.proofs.Common.{◌≡◌, ℕ, ◌+◌, ◌≤◌, true, List, [], ◌∷◌, ◌++◌, Option, Some, None, refl, sym, ap, ◌∙◌, subst, append-nil, arith}
use Rattle.std.specs.Prelude.{slice_get}
use Rattle.tpf_decode.specs.Profiles.{Base}
use Rattle.tpf_decode.specs.Opcodes.{meaning_of}
use Rattle.tpf_decode.specs.declared.meaning.Meaning.{Meaning}
use Rattle.tpf_decode.specs.declared.meaning.Meaning.TheVariants as meaning
use Rattle.tpf_program.specs.Ends.{has}
use Rattle.tpf_program.specs.Nesting.{is_return}
use Rattle.tpf_program.specs.Program.{Shader}
use Rattle.tpf_program.specs.declared.instruction.Instruction.{Instruction}
use Rattle.binding_map.specs.Bindings.{Binding}
use Rattle.binding_map.specs.Fits.{is_null_in}
use Rattle.shader_check.specs.Checked.{IsChecked as BreaksNoRule}
use Rattle.shader_check.specs.Statements.{IsNested, flattened, outside_all}
use Rattle.shader_tree.specs.Costs.{Affords}
use Rattle.shader_tree.specs.Shape.{shape}
use Rattle.shader_tree.specs.Terms.{Term}
use Rattle.shader_tree.specs.Walks.{Each}
use Rattle.raise_operands.specs.Raises.{IsChecked}
use Rattle.raise_program.specs.Parts.{parts_of}
use Rattle.raise_program.specs.ProgramShape.{case_values, items_by, program_shape}
use Rattle.raise_program.specs.Raised.{raised}
use Rattle.raise_program.specs.Spots.{IsSpot, size}
use Rattle.raise_program.specs.TreeOf.{IsTreeOf, lengths}
use Rattle.raise_program.proofs.Bounded.{PartsKeep, bounded}
use Rattle.raise_program.proofs.Frames.{stood}
use Rattle.raise_program.proofs.Instructions.{Laws, calm, each_place, parts_keep, parts_name, parts_show, spares}
use Rattle.raise_program.proofs.Lengths.{lengths_few}
use Rattle.raise_program.proofs.Named.{PartsName, named}
use Rattle.raise_program.proofs.Placing.{Calm, placed}
use Rattle.raise_program.proofs.Shown.{PartsShow, item, items, items_append, shown}
use Rattle.raise_program.proofs.Sums.{Spares, affords, both_lengths, each_parts}

module _ (laws : Laws) (p : Shader) (tokens : List ℕ) (checked : IsChecked p tokens) (sound : BreaksNoRule p) (bindings : List Binding)
    (nested : IsNested p) where
  -- what holds of each instruction holds of those in front of the last
  in_front : (P : Instruction → Type 0) → ((k : ℕ) (i : Instruction) → slice_get p.instructions k ≡ Some i → P i) → Each P (flattened nested.front)
  in_front P f =
      (each_parts P (flattened nested.front) (nested.last ∷ []) (subst (Each P) nested.flat (each_place P p.instructions f))).0

  few : lengths p.instructions + 2 ≤ p.words
  few = lengths_few p tokens checked.spelled

  fewer : lengths (flattened nested.front) ≤ lengths p.instructions
  fewer =
      let a = ap lengths nested.flat in
      let b = both_lengths (flattened nested.front) (nested.last ∷ []) in
      omega (arith, a, b)

  affords_more : (n m : ℕ) (x : Term) → n ≤ m → Affords n x → Affords m x
  affords_more n m x l h = let a = h.words in let b = h.ids in record { words = omega (arith, a, l); ids = omega (arith, b, l) }

  return_shows : (m : Option Meaning) (at : ℕ) (i : Instruction) (cases : ℕ → List ℕ) → has is_return m ≡ true → items_by bindings cases m at i ≡ []
  return_shows None at i cases h = absurd (cc)
  return_shows (Some meaning.Return) at i cases h = refl
  return_shows (Some m) at i cases h = absurd (cc)

  shows : shape (raised (parts_of (is_null_in bindings) p) nested.front) ≡ program_shape Base p bindings
  shows =
      let parts = parts_of (is_null_in bindings) p in
      let values = case_values Base p.instructions in
      let spot : IsSpot p.instructions [] nested.front = record { rest = nested.last ∷ []; flat = nested.flat; sound = nested.sound } in
      let last = size nested.front in
      let a = shown bindings p.instructions parts [] nested.front (stood p.instructions [] nested.front spot)
      (in_front (PartsShow bindings values parts) (λ k i at. parts_show laws p tokens checked bindings k i at values))
      (in_front (Calm parts) (calm laws p tokens checked bindings)) in
      let z : 0 + last ≡ last = omega arith in
      let b : items bindings values (0 + last) (nested.last ∷ []) ≡ [] =
      append-nil (item bindings values (meaning_of Base nested.last.code) (0 + last) nested.last)
      ∙ return_shows (meaning_of Base nested.last.code) (0 + last) nested.last values nested.returns in
      a
      ∙ sym (ap (items bindings values 0) nested.flat
      ∙ (items_append bindings values 0 (flattened nested.front) (nested.last ∷ [])
      ∙ (ap (λ l. items bindings values 0 (flattened nested.front) ++ l) b ∙ append-nil (items bindings values 0 (flattened nested.front)))))

  pub tree_of : IsTreeOf p bindings (raised (parts_of (is_null_in bindings) p) nested.front)
  tree_of =
      let parts = parts_of (is_null_in bindings) p in
      let s = checked.size in
      let n = named p (is_null_in bindings) parts outside_all nested.front nested.sound
      (in_front (PartsName p (is_null_in bindings) parts) (parts_name laws p tokens checked bindings)) in
      record {
        placed = placed parts outside_all nested.front nested.sound (in_front (Calm parts) (calm laws p tokens checked bindings)) (omega (arith, few, fewer, s));
        names = record { threads = n.threads'; spaces = n.spaces'; rooms = n.rooms'; written = n.written'; changed = n.changed' };
        bounded = bounded parts outside_all nested.front nested.sound
            (in_front (PartsKeep parts) (λ k i at. parts_keep laws p tokens checked bindings k i at sound));
        short = few;
        shape' = shows;
        affords = affords_more (lengths (flattened nested.front)) (lengths p.instructions) (raised parts nested.front) fewer
            (affords parts outside_all nested.front nested.sound (in_front (Spares parts) (spares laws p tokens checked bindings)));
      }
