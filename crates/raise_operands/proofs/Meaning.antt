-- What operands stand for, from the registers at the start of their instruction.
use Rattle.std.proofs.Common.{◌≡◌, ℕ, ◌<◌, ◌^◌, Bool, true, false, ap, arith}
use Rattle.std.specs.Prelude.{nat_eq, if◌then◌else◌}
use Rattle.word_base.specs.Alu.{difference}
use Rattle.word_base.specs.Registers.{Registers}
use Rattle.word_base.specs.Settings.{Setting}
use Rattle.tpf_decode.specs.declared.argument.Argument.{Argument}
use Rattle.tpf_decode.specs.declared.argument.Kind.{Kind}
use Rattle.tpf_decode.specs.declared.argument.Kind.TheVariants as kind
use Rattle.tpf_program.specs.declared.instruction.Instruction.{Instruction}
use Rattle.tpf_program.specs.Holding.{IsOfWords}
use Rattle.tpf_program.specs.Program.{Shader}
use Rattle.tpf_program.specs.Values.{Context, context, index_of, of_four, selected, word_by}
use Rattle.tpf_program.specs.Values as tpf
use Rattle.tpf_program.specs.Writes.{with_word}
use Rattle.tpf_program.specs.Writes as writes
use Rattle.shader_tree.specs.Terms.{Term}
use Rattle.shader_tree.specs.Values.{Words, words, value, word}
use Rattle.raise_operands.specs.Folding.{literal}
use Rattle.raise_operands.specs.Laws.{Begins, IsGiven}
use Rattle.raise_operands.specs.Raises.{AreInRange, InRange}
use Rattle.raise_operands.specs.Raising.{source, target, write_by}
use Rattle.raise_operands.specs.Runs.{Finds, Leads, Ready}
use Rattle.raise_operands.specs.Vectors.{index_word, spaces_of, vector}
use Rattle.raise_operands.proofs.Cells.{cell}
use Rattle.raise_operands.proofs.Computed.{ready_same}
use Rattle.raise_operands.proofs.Indices.{index_lit, named_below, target_finds}
use Rattle.raise_operands.proofs.Raised.{after, after_registers, indices_lead, ready}
use Rattle.raise_operands.proofs.Sources.{source_value}
use Rattle.raise_operands.proofs.Writing.{target_leads}

pub begins : (p : Shader) (s : Setting) (o : Registers) (i : Instruction) (t : Words) → IsGiven p s o → AreInRange i → t.registers ≡ o
    → Begins p s o i t
begins p s o i t h r e = record {
  words' = after p s o h.spaces h.constants h.setting h.registers i r t;
  leads = indices_lead p s o h.spaces h.constants h.setting h.registers i r t e;
  registers = after_registers p s o h.spaces h.constants h.setting h.registers i r t e;
  ready = ready p s o h.spaces h.constants h.setting h.registers i r t;
}

pub ready_on : (k : Context) (i : Instruction) (t u : Words) → ((n : ℕ) → n < 10 → u.scratch n ≡ t.scratch n) → Ready k i t → Ready k i u
ready_on k i t u h r = ready_same k i t u h r

pub source_is : (p : Shader) (s : Setting) (o : Registers) (t : Words) (k : ℕ) (a : Argument) (c : ℕ) → IsGiven p s o → InRange a → c < 4
    → Finds (vector (spaces_of p) a) (spaces_of p) k (index_of (context p s o) a) t → t.registers ≡ o
    → value (spaces_of p) s t (source (spaces_of p) k a c) ≡ word (tpf.value (context p s o) a c)
source_is p s o t k a c h r l f e =
    source_value p s o t h.spaces k a c r l (index_lit p s o h.spaces h.constants h.setting h.registers a r) f
    (ap (λ q. cell q (writes.target (context p s o) a) (selected a.select c)) e)

pub four_below : (x y z w c : ℕ) → x < 2 ^ 32 → y < 2 ^ 32 → z < 2 ^ 32 → w < 2 ^ 32 → of_four x y z w c < 2 ^ 32
four_below x y z w c h j k l = first (nat_eq c 0)
  where
    third : (b : Bool) → (if b then z else w) < 2 ^ 32
    third true = k
    third false = l

    second : (b : Bool) → (if b then y else if nat_eq c 2 then z else w) < 2 ^ 32
    second true = j
    second false = third (nat_eq c 2)

    first : (b : Bool) → (if b then x else if nat_eq c 1 then y else if nat_eq c 2 then z else w) < 2 ^ 32
    first true = h
    first false = second (nat_eq c 1)

word_below : (p : Shader) (s : Setting) (o : Registers) (a : Argument) (c : ℕ) → IsGiven p s o → IsOfWords a → (kind : Kind)
    → word_by kind (context p s o) a c < 2 ^ 32
word_below p s o a c h w kind.Immediate = four_below a.x a.y a.z a.w c w.x w.y w.z w.w
word_below p s o a c h w other = named_below p s o h.constants h.setting h.registers other a.slot (index_of (context p s o) a) (selected a.select c)

negated_below : (b : Bool) (x : ℕ) → x < 2 ^ 32 → (if b then difference 0 x else x) < 2 ^ 32
negated_below true x l = omega arith
negated_below false x l = l

pub below : (p : Shader) (s : Setting) (o : Registers) (a : Argument) (c : ℕ) → IsGiven p s o → IsOfWords a → tpf.value (context p s o) a c < 2 ^ 32
below p s o a c h w = negated_below a.negate (word_by a.kind (context p s o) a c) (word_below p s o a c h w a.kind)

pub write_leads : (p : Shader) (s : Setting) (o : Registers) (t : Words) (k : ℕ) (a : Argument) (c w : ℕ) (x : Term) → IsGiven p s o → InRange a
    → c < 4
    → Finds (vector (spaces_of p) a) (spaces_of p) k (index_of (context p s o) a) t → value (spaces_of p) s t x ≡ word w
    → Leads (spaces_of p) s (write_by (target (spaces_of p) a) (spaces_of p) k c x) t
    (words t.scratch (with_word (writes.target (context p s o) a) c w t.registers))
write_leads p s o t k a c w x h r l f e =
    target_leads p s t o h.spaces k c w x l e a.kind a (literal (index_word (spaces_of p) a))
    (index_lit p s o h.spaces h.constants h.setting h.registers a r)
    (target_finds a.kind (vector (spaces_of p) a) (spaces_of p) k (index_of (context p s o) a) t f)
