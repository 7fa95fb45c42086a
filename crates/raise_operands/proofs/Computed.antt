-- The components that an instruction writes, and their words.
use Rattle.std.proofs.Common.{◌≡◌, ℕ, ◌<◌, true, List, [], ◌∷◌, ◌++◌, map, Some, refl, ap, ◌∙◌, arith}
use Rattle.std.specs.Prelude.{nat_eq, if◌then◌else◌}
use Rattle.std.proofs.lemmas.Bool.{false≢true}
use Rattle.word_base.specs.Alu.{unary, binary, ternary, inserted_field, pair}
use Rattle.word_base.specs.Registers.{Registers}
use Rattle.word_base.specs.Settings.{Setting}
use Rattle.tpf_decode.specs.declared.argument.Kind.{Kind}
use Rattle.tpf_decode.specs.declared.argument.Kind.TheVariants as kind
use Rattle.tpf_decode.specs.declared.argument.Select.{Select}
use Rattle.tpf_decode.specs.declared.meaning.Meaning.{Meaning}
use Rattle.tpf_decode.specs.declared.meaning.Meaning.TheVariants.{One, Two, Three, Inserts, Pair, Swaps, Nop}
use Rattle.tpf_program.specs.declared.instruction.Instruction.{Instruction}
use Rattle.tpf_program.specs.Program.{Shader}
use Rattle.tpf_program.specs.Bytecode.{left_by}
use Rattle.tpf_program.specs.Values.{Context, context, index_of, selected}
use Rattle.tpf_program.specs.Values as tpf
use Rattle.tpf_program.specs.Writes.{Target, InTemp, InElement, Nowhere, with_word, with_words, in_mask, written, written_by}
use Rattle.tpf_program.specs.Writes as writes
use Rattle.shader_tree.specs.Walks.{Each}
use Rattle.shader_tree.specs.Values.{Words, value, word}
use Rattle.raise_operands.specs.Folding.{literal}
use Rattle.raise_operands.specs.Raises.{AreInRange, AreSmall, is_computed}
use Rattle.raise_operands.specs.Raising.{Part, source, computed, computed_second, sources, first_written, second_written, first_part, second_part, parts}
use Rattle.raise_operands.specs.Vectors.{spaces_of, index_word}
use Rattle.raise_operands.proofs.Basics.{In, AreComponents, components, of_filter}
use Rattle.raise_operands.proofs.FoldingValues.{Lit, unary_value, binary_value, ternary_value, insert_value, first_value, second_value, chosen_value}
use Rattle.raise_operands.proofs.Indices.{finds_same}
use Rattle.raise_operands.proofs.Moves.{Move, put, all, all_append, Same}
use Rattle.raise_operands.specs.Runs.{Ready}
use Rattle.raise_operands.proofs.Sources.{IsSame, source_value}

-- THE WORDS, by the definitions of the instructions
abbrev pub first_word : Meaning → Context → Instruction → ℕ → ℕ
first_word (One op) k i c = unary op (tpf.value k i.o1 c)
first_word (Two op) k i c = binary op (tpf.value k i.o1 c) (tpf.value k i.o2 c)
first_word (Three op) k i c = ternary op (tpf.value k i.o1 c) (tpf.value k i.o2 c) (tpf.value k i.o3 c)
first_word Inserts k i c = inserted_field (tpf.value k i.o1 c) (tpf.value k i.o2 c) (tpf.value k i.o3 c) (tpf.value k i.o4 c)
first_word (Pair op) k i c = (pair op (tpf.value k i.o2 c) (tpf.value k i.o3 c)).first
first_word Swaps k i c = if nat_eq (tpf.value k i.o2 c) 0 then tpf.value k i.o3 c else tpf.value k i.o4 c
first_word other k i c = 0

abbrev pub second_word : Meaning → Context → Instruction → ℕ → ℕ
second_word (Pair op) k i c = (pair op (tpf.value k i.o2 c) (tpf.value k i.o3 c)).second
second_word Swaps k i c = if nat_eq (tpf.value k i.o2 c) 0 then tpf.value k i.o4 c else tpf.value k i.o3 c
second_word other k i c = 0

abbrev pub first_move : Meaning → Context → Instruction → ℕ → Move
first_move m k i c = record { part = first_part m (spaces_of k.program) i c; to = writes.target k i.o0; word' = first_word m k i c }

abbrev pub second_move : Meaning → Context → Instruction → ℕ → Move
second_move m k i c = record { part = second_part m (spaces_of k.program) i c; to = writes.target k i.o1; word' = second_word m k i c }

abbrev pub moves : Meaning → Context → Instruction → List Move
moves m k i = map (first_move m k i) (first_written m i) ++ map (second_move m k i) (second_written m i)

first_parts : (m : Meaning) (k : Context) (i : Instruction) (cs : List ℕ) (ms : List Move) (ps : List Part) → map (λ n. n.part) ms ≡ ps
    → map (λ n. n.part) (map (first_move m k i) cs ++ ms) ≡ map (first_part m (spaces_of k.program) i) cs ++ ps
first_parts m k i [] ms ps e = e
first_parts m k i (c ∷ cs) ms ps e = ap (λ x. first_part m (spaces_of k.program) i c ∷ x) (first_parts m k i cs ms ps e)

second_parts : (m : Meaning) (k : Context) (i : Instruction) (cs : List ℕ) → map (λ n. n.part) (map (second_move m k i) cs) ≡ map
    (second_part m (spaces_of k.program) i) cs
second_parts m k i [] = refl
second_parts m k i (c ∷ cs) = ap (λ x. second_part m (spaces_of k.program) i c ∷ x) (second_parts m k i cs)

pub parts_are : (m : Meaning) (k : Context) (i : Instruction) → map (λ n. n.part) (moves m k i) ≡ parts m (spaces_of k.program) i
parts_are m k i = first_parts m k i (first_written m i) (map (second_move m k i) (second_written m i)) _ (second_parts m k i (second_written m i))

-- what they leave is what the instruction leaves
first_all_is : (m : Meaning) (k : Context) (i : Instruction) (cs : List ℕ) (r : Registers) → all (map (first_move m k i) cs) r ≡ with_words
    (writes.target k i.o0) cs (map (first_word m k i) cs) r
first_all_is m k i [] r = refl
first_all_is m k i (c ∷ cs) r = first_all_is m k i cs (put (first_move m k i c) r)

second_all_is : (m : Meaning) (k : Context) (i : Instruction) (cs : List ℕ) (r : Registers) → all (map (second_move m k i) cs) r ≡ with_words
    (writes.target k i.o1) cs (map (second_word m k i) cs) r
second_all_is m k i [] r = refl
second_all_is m k i (c ∷ cs) r = second_all_is m k i cs (put (second_move m k i c) r)

both_all : (m : Meaning) (k : Context) (i : Instruction)
    → all (moves m k i) k.registers
    ≡ with_words (writes.target k i.o1) (second_written m i) (map (second_word m k i) (second_written m i))
    (with_words (writes.target k i.o0) (first_written m i) (map (first_word m k i) (first_written m i)) k.registers)
both_all m k i =
    all_append (map (first_move m k i) (first_written m i)) (map (second_move m k i) (second_written m i)) k.registers
    ∙ (second_all_is m k i (second_written m i) _
    ∙ ap (with_words (writes.target k i.o1) (second_written m i) (map (second_word m k i) (second_written m i)))
    (first_all_is m k i (first_written m i) k.registers))

pub left_is : (m : Meaning) (k : Context) (i : Instruction) → is_computed (Some m) ≡ true → all (moves m k i) k.registers ≡ left_by k m i []
left_is (One op) k i h = both_all (One op) k i
left_is (Two op) k i h = both_all (Two op) k i
left_is (Three op) k i h = both_all (Three op) k i
left_is Inserts k i h = both_all Inserts k i
left_is (Pair op) k i h = both_all (Pair op) k i
left_is Swaps k i h = both_all Swaps k i
left_is Nop k i h = both_all Nop k i
left_is other k i h = absurd (false≢true h)

-- THE COMPONENTS that are written
pub written_components : (kind : Kind) (select : Select) → AreComponents (written_by kind select)
written_components kind.Null select = (tt, tt)
written_components other select = components (in_mask select)

pub first_components : (m : Meaning) (i : Instruction) → AreComponents (first_written m i)
first_components (One op) i = written_components i.o0.kind i.o0.select
first_components (Two op) i = written_components i.o0.kind i.o0.select
first_components (Three op) i = written_components i.o0.kind i.o0.select
first_components Inserts i = written_components i.o0.kind i.o0.select
first_components (Pair op) i = written_components i.o0.kind i.o0.select
first_components Swaps i = written_components i.o0.kind i.o0.select
first_components other i = (tt, tt)

pub second_components : (m : Meaning) (i : Instruction) → AreComponents (second_written m i)
second_components (Pair op) i = written_components i.o1.kind i.o1.select
second_components Swaps i = written_components i.o1.kind i.o1.select
second_components other i = (tt, tt)

by_mask : (kind : Kind) (select : Select) (c : ℕ) → In c (written_by kind select) → in_mask select c ≡ true
by_mask kind.Null select c h = absurd h
by_mask other select c h = of_filter (in_mask select) (0 ∷ 1 ∷ 2 ∷ 3 ∷ []) c h

pub first_mask : (m : Meaning) (i : Instruction) (c : ℕ) → In c (first_written m i) → in_mask i.o0.select c ≡ true
first_mask (One op) i c h = by_mask i.o0.kind i.o0.select c h
first_mask (Two op) i c h = by_mask i.o0.kind i.o0.select c h
first_mask (Three op) i c h = by_mask i.o0.kind i.o0.select c h
first_mask Inserts i c h = by_mask i.o0.kind i.o0.select c h
first_mask (Pair op) i c h = by_mask i.o0.kind i.o0.select c h
first_mask Swaps i c h = by_mask i.o0.kind i.o0.select c h
first_mask other i c h = absurd h

-- WHAT A STATEMENT NEEDS: the indices of the operands are kept
pub ready_same : (k : Context) (i : Instruction) (t u : Words) → Same t u → Ready k i t → Ready k i u
ready_same k i t u e h = record {
  o0 = finds_same _ _ 0 _ t u (e 0 (omega arith)) (e 1 (omega arith)) h.o0;
  o1 = finds_same _ _ 1 _ t u (e 2 (omega arith)) (e 3 (omega arith)) h.o1;
  o2 = finds_same _ _ 2 _ t u (e 4 (omega arith)) (e 5 (omega arith)) h.o2;
  o3 = finds_same _ _ 3 _ t u (e 6 (omega arith)) (e 7 (omega arith)) h.o3;
  o4 = finds_same _ _ 4 _ t u (e 8 (omega arith)) (e 9 (omega arith)) h.o4;
}

abbrev pub Sees : Meaning → Context → Instruction → Move → Registers → Type 0
Sees m k i move r = Each (λ a. IsSame k r a move.part.component) (sources m i)

pub record AreKnown (k : Context) (i : Instruction) : Type 0 where
  pub o0 : Lit (literal (index_word (spaces_of k.program) i.o0)) (index_of k i.o0)
  pub o1 : Lit (literal (index_word (spaces_of k.program) i.o1)) (index_of k i.o1)
  pub o2 : Lit (literal (index_word (spaces_of k.program) i.o2)) (index_of k i.o2)
  pub o3 : Lit (literal (index_word (spaces_of k.program) i.o3)) (index_of k i.o3)
  pub o4 : Lit (literal (index_word (spaces_of k.program) i.o4)) (index_of k i.o4)

module _ (p : Shader) (s : Setting) (o : Registers) (i : Instruction) (small : AreSmall (spaces_of p)) (range : AreInRange i)
    (known : AreKnown (context p s o) i) where
  module _ (t : Words) (ready : Ready (context p s o) i t) (c : ℕ) (below : c < 4) where
    of1 : IsSame (context p s o) t.registers i.o1 c → value (spaces_of p) s t (source (spaces_of p) 1 i.o1 c) ≡ word
        (tpf.value (context p s o) i.o1 c)
    of1 h = source_value p s o t small 1 i.o1 c range.o1 below known.o1 ready.o1 h

    of2 : IsSame (context p s o) t.registers i.o2 c → value (spaces_of p) s t (source (spaces_of p) 2 i.o2 c) ≡ word
        (tpf.value (context p s o) i.o2 c)
    of2 h = source_value p s o t small 2 i.o2 c range.o2 below known.o2 ready.o2 h

    of3 : IsSame (context p s o) t.registers i.o3 c → value (spaces_of p) s t (source (spaces_of p) 3 i.o3 c) ≡ word
        (tpf.value (context p s o) i.o3 c)
    of3 h = source_value p s o t small 3 i.o3 c range.o3 below known.o3 ready.o3 h

    of4 : IsSame (context p s o) t.registers i.o4 c → value (spaces_of p) s t (source (spaces_of p) 4 i.o4 c) ≡ word
        (tpf.value (context p s o) i.o4 c)
    of4 h = source_value p s o t small 4 i.o4 c range.o4 below known.o4 ready.o4 h

    pub first_evaluates : (m : Meaning) → Each (λ a. IsSame (context p s o) t.registers a c) (sources m i) → value (spaces_of p) s t
        (computed m (spaces_of p) i c) ≡ word (first_word m (context p s o) i c)
    first_evaluates (One op) h = unary_value (spaces_of p) s t op (source (spaces_of p) 1 i.o1 c) (tpf.value (context p s o) i.o1 c) (of1 h.0)
    first_evaluates (Two op) h = binary_value (spaces_of p) s t op (source (spaces_of p) 1 i.o1 c) (source (spaces_of p) 2 i.o2 c)
        (tpf.value (context p s o) i.o1 c) (tpf.value (context p s o) i.o2 c) (of1 h.0) (of2 h.1.0)
    first_evaluates (Three op) h = ternary_value (spaces_of p) s t op (source (spaces_of p) 1 i.o1 c) (source (spaces_of p) 2 i.o2 c)
        (source (spaces_of p) 3 i.o3 c) (tpf.value (context p s o) i.o1 c) (tpf.value (context p s o) i.o2 c) (tpf.value (context p s o) i.o3 c)
        (of1 h.0) (of2 h.1.0) (of3 h.1.1.0)
    first_evaluates Inserts h = insert_value (spaces_of p) s t (source (spaces_of p) 1 i.o1 c) (source (spaces_of p) 2 i.o2 c)
        (source (spaces_of p) 3 i.o3 c) (source (spaces_of p) 4 i.o4 c) (tpf.value (context p s o) i.o1 c) (tpf.value (context p s o) i.o2 c)
        (tpf.value (context p s o) i.o3 c) (tpf.value (context p s o) i.o4 c) (of1 h.0) (of2 h.1.0) (of3 h.1.1.0) (of4 h.1.1.1.0)
    first_evaluates (Pair op) h = first_value (spaces_of p) s t op (source (spaces_of p) 2 i.o2 c) (source (spaces_of p) 3 i.o3 c)
        (tpf.value (context p s o) i.o2 c) (tpf.value (context p s o) i.o3 c) (of2 h.0) (of3 h.1.0)
    first_evaluates Swaps h = chosen_value (spaces_of p) s t (source (spaces_of p) 2 i.o2 c) (source (spaces_of p) 3 i.o3 c)
        (source (spaces_of p) 4 i.o4 c) (tpf.value (context p s o) i.o2 c) (tpf.value (context p s o) i.o3 c) (tpf.value (context p s o) i.o4 c)
        (of2 h.0) (of3 h.1.0) (of4 h.1.1.0)
    first_evaluates other h = refl

    pub second_evaluates : (m : Meaning) → Each (λ a. IsSame (context p s o) t.registers a c) (sources m i) → value (spaces_of p) s t
        (computed_second m (spaces_of p) i c) ≡ word (second_word m (context p s o) i c)
    second_evaluates (Pair op) h = second_value (spaces_of p) s t op (source (spaces_of p) 2 i.o2 c) (source (spaces_of p) 3 i.o3 c)
        (tpf.value (context p s o) i.o2 c) (tpf.value (context p s o) i.o3 c) (of2 h.0) (of3 h.1.0)
    second_evaluates Swaps h = chosen_value (spaces_of p) s t (source (spaces_of p) 2 i.o2 c) (source (spaces_of p) 4 i.o4 c)
        (source (spaces_of p) 3 i.o3 c) (tpf.value (context p s o) i.o2 c) (tpf.value (context p s o) i.o4 c) (tpf.value (context p s o) i.o3 c)
        (of2 h.0) (of4 h.1.1.0) (of3 h.1.0)
    second_evaluates other h = refl
