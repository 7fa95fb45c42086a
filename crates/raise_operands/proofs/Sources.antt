-- The words of sources.
use Rattle.std.proofs.Common.{◌≡◌, ℕ, ◌<◌, Bool, true, false, refl, ap, ◌∙◌, arith}
use Rattle.std.specs.Prelude.{if◌then◌else◌}
use Rattle.word_base.specs.declared.arithmetic.Unary.TheVariants.{Ineg}
use Rattle.word_base.specs.Alu.{difference}
use Rattle.word_base.specs.Registers.{Registers}
use Rattle.word_base.specs.Settings.{Setting}
use Rattle.tpf_decode.specs.declared.argument.Argument.{Argument}
use Rattle.tpf_decode.specs.declared.argument.Kind.{Kind}
use Rattle.tpf_decode.specs.declared.argument.Kind.TheVariants as kind
use Rattle.tpf_decode.specs.declared.argument.Select.{Select}
use Rattle.tpf_decode.specs.declared.argument.Select.TheVariants.{Bare, Mask, Swizzle, One}
use Rattle.tpf_program.specs.Holding.{SelectsInRange}
use Rattle.tpf_program.specs.Program.{Shader}
use Rattle.tpf_program.specs.Values.{Context, context, named, index_of, selected, word_by}
use Rattle.tpf_program.specs.Values as tpf
use Rattle.tpf_program.specs.Writes as writes
use Rattle.shader_tree.specs.Terms.{Term}
use Rattle.shader_tree.specs.Values.{Words, value, word}
use Rattle.raise_operands.specs.Folding.{literal, unary_of}
use Rattle.raise_operands.specs.Raises.{AreSmall, InRange}
use Rattle.raise_operands.specs.Raising.{source, source_by}
use Rattle.raise_operands.specs.Vectors.{spaces_of, index_word, named_word, vector}
use Rattle.raise_operands.proofs.Cells.{cell}
use Rattle.raise_operands.proofs.FoldingValues.{Lit, unary_value}
use Rattle.raise_operands.specs.Runs.{Finds}
use Rattle.raise_operands.proofs.Reading.{named_value}
use Rattle.raise_operands.proofs.Writing.{named_alike}

pub selected_below : (select : Select) (c : ℕ) → SelectsInRange select → c < 4 → selected select c < 4
selected_below Bare c h l = l
selected_below (Mask bits) c h l = l
selected_below (Swizzle bits) c h l = omega arith
selected_below (One k) c h l = h

-- the word of a source, from the registers at the instruction's start, is still there
abbrev pub IsSame : Context → Registers → Argument → ℕ → Type 0
IsSame k r a c = cell r (writes.target k a) (selected a.select c) ≡ cell k.registers (writes.target k a) (selected a.select c)

module _ (p : Shader) (s : Setting) (o : Registers) (t : Words) (small : AreSmall (spaces_of p)) (k : ℕ) (a : Argument) (c : ℕ) (range : InRange a)
    (below : c < 4)
    (known : Lit (literal (index_word (spaces_of p) a)) (index_of (context p s o) a)) where
  of_kind : (kind : Kind) → value (spaces_of p) s t (named_word kind (spaces_of p) k (vector (spaces_of p) a) (selected a.select c)) ≡ word
      (named (context p s o) kind a.slot (index_of (context p s o) a) (selected a.select c))
      → value (spaces_of p) s t (source_by kind (spaces_of p) k a c) ≡ word (word_by kind (context p s o) a c)
  of_kind kind.Immediate h = refl
  of_kind other h = h

  negated : (b : Bool) (x : Term) (w : ℕ) → value (spaces_of p) s t x ≡ word w → value (spaces_of p) s t (if b then unary_of Ineg x else x) ≡ word
      (if b then difference 0 w else w)
  negated true x w h = unary_value (spaces_of p) s t Ineg x w h
  negated false x w h = h

  pub source_value : Finds (vector (spaces_of p) a) (spaces_of p) k (index_of (context p s o) a) t → IsSame (context p s o) t.registers a c
      → value (spaces_of p) s t (source (spaces_of p) k a c) ≡ word (tpf.value (context p s o) a c)
  source_value h e =
      negated a.negate (source_by a.kind (spaces_of p) k a c) (word_by a.kind (context p s o) a c)
      (of_kind a.kind
      (named_value p s t small a.kind (literal (index_word (spaces_of p) a)) k a.slot (index_of (context p s o) a) (selected a.select c) known h
      (selected_below a.select c range.select below)
      ∙ ap word (named_alike p s o t.registers o a.kind a (selected a.select c) e)))
