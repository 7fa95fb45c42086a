-- The words of vectors and of all that operands name.
use Rattle.std.proofs.Common.{◌≡◌, ℕ, ◌+◌, ◌*◌, ◌/◌, ◌%◌, ◌<◌, ◌≤◌, ◌^◌, Bool, true, false, length, Option, Some, None, refl, sym, ap, subst, ◌∙◌, arith}
use Rattle.std.specs.Prelude.{nat_lt, if◌then◌else◌, slice_index}
use Rattle.std.proofs.lemmas.Bool.{ltb-true, ltb-false, lt-ltb, le-ltb}
use Rattle.std.proofs.lemmas.List.{get_or_past}
use Rattle.word_base.specs.Registers.{Registers}
use Rattle.word_base.specs.Settings.{Setting}
use Rattle.tpf_decode.specs.declared.argument.Kind.{Kind}
use Rattle.tpf_decode.specs.declared.argument.Kind.TheVariants as kind
use Rattle.tpf_program.specs.Program.{Shader}
use Rattle.tpf_program.specs.Values.{context, named, of_four}
use Rattle.shader_tree.specs.declared.node.Space.{Space}
use Rattle.shader_tree.specs.declared.node.Space.TheVariants.{Temps, Indexable, Constant, ImmediateConstant}
use Rattle.shader_tree.specs.Terms.{Term, Word, Scratch, Read, Pick}
use Rattle.shader_tree.specs.Values.{Spaces, Words, value, word, truth, provided, size_of, word_in}
use Rattle.raise_operands.specs.Raises.{AreSmall}
use Rattle.raise_operands.specs.Runs.{HoldsIndex, Finds}
use Rattle.raise_operands.specs.Vectors.{Outside, At, Indexed, spaces_of, vectors_in, vector_at, vector_of, vector_by, start_scratch, inside, word_of, known_word, vector_word, thread_word, named_word}
use Rattle.raise_operands.proofs.Basics.{fours, quotient_of, rest_of}
use Rattle.raise_operands.proofs.FoldingValues.{Lit, add_value}

pub few : (g : Spaces) → AreSmall g → (space : Space) → vectors_in g space < 2 ^ 30
few g h Temps = h.temps
few g h (Indexable slot) = h.elements slot
few g h (Constant slot) = h.vectors slot
few g h ImmediateConstant = let l = h.immediates in omega arith

pub enough : (g : Spaces) (space : Space) → 4 * vectors_in g space ≤ size_of g space
enough g Temps = omega arith
enough g (Indexable slot) = omega arith
enough g (Constant slot) = omega arith
enough g ImmediateConstant = omega arith

-- the word of a vector in range, and 0 past the end
abbrev pub word_at : Spaces → Setting → Registers → Space → ℕ → ℕ → ℕ
word_at g s r space n c = if nat_lt n (vectors_in g space) then word_in g s r space (4 * n + c) else 0

start_in : (b : Bool) (n v c : ℕ) → nat_lt n v ≡ b → 0 < v → c < 4 → 4 * (if b then n else 0) + c < 4 * v
start_in true n v c e h k = let l = ltb-true n v e in omega arith
start_in false n v c e h k = omega arith

module _ (g : Spaces) (s : Setting) (t : Words) (small : AreSmall g) where
  pub read_value : (space : Space) (m : ℕ) → m < size_of g space → value g s t (Read space (Word m)) ≡ word (word_in g s t.registers space m)
  read_value space m h = ap (λ b. provided b (word (word_in g s t.registers space m))) (lt-ltb m (size_of g space) h)

  known_value : (space : Space) (n c : ℕ) → n < vectors_in g space → c < 4 → value g s t (known_word g space n c) ≡ word
      (word_in g s t.registers space (4 * n + c))
  known_value Temps n c h k = read_value Temps (4 * n + c) (omega arith)
  known_value (Indexable slot) n c h k = read_value (Indexable slot) (4 * n + c) (omega arith)
  known_value (Constant slot) n c h k = read_value (Constant slot) (4 * n + c) (omega arith)
  known_value ImmediateConstant n c h k = refl

  -- where the index is kept
  pub start_value : (space : Space) (k index c : ℕ) → HoldsIndex g space k index t → 0 < vectors_in g space → c < 4
      → value g s t (word_of k c) ≡ word (t.scratch (start_scratch k) + c)
  start_value space k index c h p l =
      let few' = few g small space in
      let in' = start_in (nat_lt index (vectors_in g space)) index (vectors_in g space) c refl p l in
      let below : t.scratch (start_scratch k) + c < 2 ^ 32 = subst (λ x. x + c < 2 ^ 32) (sym h.start) (omega arith) in
      add_value g s t (Scratch (start_scratch k)) (t.scratch (start_scratch k)) c refl (omega arith) ∙ ap word (omega arith)

  pub start_inside : (space : Space) (k index c : ℕ) → HoldsIndex g space k index t → 0 < vectors_in g space → c < 4 → t.scratch (start_scratch k) + c
      < size_of g space
  start_inside space k index c h p l =
      let in' = start_in (nat_lt index (vectors_in g space)) index (vectors_in g space) c refl p l in
      let more = enough g space in
      subst (λ x. x + c < size_of g space) (sym h.start) (omega arith)

  pub inside_value : (space : Space) (k index : ℕ) → HoldsIndex g space k index t → value g s t (inside g k space) ≡ truth
      (nat_lt index (vectors_in g space))
  inside_value space k index h = ap (λ x. truth (nat_lt x (vectors_in g space))) h.index'

  read_start : (space : Space) (k index c : ℕ) → HoldsIndex g space k index t → 0 < vectors_in g space → c < 4
      → value g s t (Read space (word_of k c)) ≡ word (word_in g s t.registers space (t.scratch (start_scratch k) + c))
  read_start space k index c h p l =
      rw (start_value space k index c h p l) (read_value space (t.scratch (start_scratch k) + c) (start_inside space k index c h p l))

  pub pick_value : (b a c : Term) (x : Bool) (y z : ℕ) → value g s t b ≡ truth x → value g s t a ≡ word y → value g s t c ≡ word z
      → value g s t (Pick b a c) ≡ word (if x then y else z)
  pick_value b a c x y z h k l = rw (h, k, l) refl

  picked : (b : Bool) (space : Space) (n c start : ℕ) → start ≡ 4 * (if b then n else 0)
      → word (if b then word_in g s t.registers space (start + c) else 0) ≡ word (if b then word_in g s t.registers space (4 * n + c) else 0)
  picked true space n c start e = ap (λ m. word (word_in g s t.registers space (m + c))) e
  picked false space n c start e = refl

  indexed_value : (space : Space) (k index c : ℕ) → HoldsIndex g space k index t → 0 < vectors_in g space → c < 4
      → value g s t (vector_word g k (Indexed space) c) ≡ word (word_at g s t.registers space index c)
  indexed_value space k index c h p l =
      pick_value (inside g k space) (Read space (word_of k c)) (Word 0) (nat_lt index (vectors_in g space)) _ 0 (inside_value space k index h)
      (read_start space k index c h p l) refl
      ∙ picked (nat_lt index (vectors_in g space)) space index c (t.scratch (start_scratch k)) h.start

  at_value : (b : Bool) (space : Space) (k n c : ℕ) → nat_lt n (vectors_in g space) ≡ b → c < 4
      → value g s t (vector_word g k (if b then At space n else Outside) c) ≡ word (if b then word_in g s t.registers space (4 * n + c) else 0)
  at_value true space k n c e l = known_value space n c (ltb-true n (vectors_in g space) e) l
  at_value false space k n c e l = refl

  found_value : (b : Bool) (space : Space) (k index c : ℕ) → nat_lt 0 (vectors_in g space) ≡ b → Finds (if b then Indexed space else Outside) g k
      index t → c < 4
      → value g s t (vector_word g k (if b then Indexed space else Outside) c) ≡ word (word_at g s t.registers space index c)
  found_value true space k index c e h l = indexed_value space k index c h (ltb-true 0 (vectors_in g space) e) l
  found_value false space k index c e h l =
      let none = ltb-false 0 (vectors_in g space) e in
      ap (λ b. word (if b then word_in g s t.registers space (4 * index + c) else 0)) (sym (le-ltb index (vectors_in g space) (omega arith)))

  pub vector_value : (o : Option ℕ) (space : Space) (k index c : ℕ) → Lit o index → Finds (vector_of g space o) g k index t → c < 4
      → value g s t (vector_word g k (vector_of g space o) c) ≡ word (word_at g s t.registers space index c)
  vector_value (Some n) space k index c e h l =
      at_value (nat_lt n (vectors_in g space)) space k n c refl l ∙ ap (λ m. word (word_at g s t.registers space m c)) e
  vector_value None space k index c e h l = found_value (nat_lt 0 (vectors_in g space)) space k index c refl h l

  pub temp_value : (k slot c : ℕ) → c < 4 → value g s t (vector_word g k (vector_at g Temps slot) c) ≡ word
      (if nat_lt slot g.temps then t.registers.temp slot c else 0)
  temp_value k slot c l =
      at_value (nat_lt slot g.temps) Temps k slot c refl l
      ∙ (ap (λ m. word (if nat_lt slot g.temps then t.registers.temp m ((4 * slot + c) % 4) else 0)) (quotient_of slot c l)
      ∙ ap (λ d. word (if nat_lt slot g.temps then t.registers.temp slot d else 0)) (rest_of slot c l))

  element_word : (slot n c : ℕ) → c < 4 → word_at g s t.registers (Indexable slot) n c ≡
      (if nat_lt n (g.elements slot) then t.registers.indexable slot n c else 0)
  element_word slot n c l =
      ap (λ m. if nat_lt n (g.elements slot) then t.registers.indexable slot m ((4 * n + c) % 4) else 0) (quotient_of n c l)
      ∙ ap (λ d. if nat_lt n (g.elements slot) then t.registers.indexable slot n d else 0) (rest_of n c l)

  whole_word : (b : Bool) (n c : ℕ) → nat_lt n (length g.immediates / 4) ≡ b → (if b then slice_index g.immediates (4 * n + c) else 0) ≡ slice_index
      g.immediates (4 * n + c)
  whole_word true n c e = refl
  whole_word false n c e =
      let l = ltb-false n (length g.immediates / 4) e in
      let w = small.whole in
      sym (get_or_past g.immediates (4 * n + c) 0 (omega arith))

-- the numbers of a thread
module _ (p : Shader) (s : Setting) (t : Words) (small : AreSmall (spaces_of p)) where
  pub named_value : (kind : Kind) (o : Option ℕ) (k slot index c : ℕ) → Lit o index → Finds (vector_by kind (spaces_of p) slot o) (spaces_of p) k
      index t → c < 4
      → value (spaces_of p) s t (named_word kind (spaces_of p) k (vector_by kind (spaces_of p) slot o) c) ≡ word
      (named (context p s t.registers) kind slot index c)
  named_value kind.Temp o k slot index c e h l = temp_value (spaces_of p) s t small k slot c l
  named_value kind.Indexable o k slot index c e h l =
      vector_value (spaces_of p) s t small o (Indexable slot) k index c e h l ∙ ap word (element_word (spaces_of p) s t small slot index c l)
  named_value kind.Constant o k slot index c e h l = vector_value (spaces_of p) s t small o (Constant slot) k index c e h l
  named_value kind.ImmediateConstant o k slot index c e h l =
      vector_value (spaces_of p) s t small o ImmediateConstant k index c e h l ∙ ap word
      (whole_word (spaces_of p) s t small (nat_lt index (length p.constants / 4)) index c refl)
  named_value kind.ThreadId o k slot index c e h l =
      fours (λ d. value (spaces_of p) s t (thread_word kind.ThreadId d) ≡ word (of_four s.ids.thread_x s.ids.thread_y s.ids.thread_z 0 d)) c l refl
      refl refl refl
  named_value kind.GroupId o k slot index c e h l =
      fours (λ d. value (spaces_of p) s t (thread_word kind.GroupId d) ≡ word (of_four s.ids.group_x s.ids.group_y s.ids.group_z 0 d)) c l refl refl
      refl refl
  named_value kind.IdInGroup o k slot index c e h l =
      fours (λ d. value (spaces_of p) s t (thread_word kind.IdInGroup d) ≡ word (of_four s.ids.x s.ids.y s.ids.z 0 d)) c l refl refl refl refl
  named_value kind.FlatId o k slot index c e h l = refl
  named_value kind.Immediate o k slot index c e h l = refl
  named_value kind.Resource o k slot index c e h l = refl
  named_value kind.Null o k slot index c e h l = refl
  named_value kind.Uav o k slot index c e h l = refl
  named_value kind.Shared o k slot index c e h l = refl
