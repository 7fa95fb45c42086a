-- The indices of operands, and the statements that keep them.
use Rattle.std.proofs.Common.{◌≡◌, ℕ, ◌+◌, ◌*◌, ◌%◌, ◌<◌, ◌^◌, Bool, true, false, Option, Some, None, refl, ap, ◌∙◌, arith}
use Rattle.std.specs.Prelude.{nat_eq, nat_lt, if◌then◌else◌}
use Rattle.std.proofs.lemmas.Bool.{ltb-true, eq-eqb, ne_eqb}
use Rattle.word_base.specs.Registers.{Registers}
use Rattle.word_base.specs.Settings.{Setting, HoldsWords}
use Rattle.word_base.specs.Words.{AreWords}
use Rattle.tpf_decode.specs.declared.argument.Argument.{Argument}
use Rattle.tpf_decode.specs.declared.argument.Kind.{Kind}
use Rattle.tpf_decode.specs.declared.argument.Kind.TheVariants as kind
use Rattle.tpf_decode.specs.declared.argument.Relative.{Relative}
use Rattle.tpf_program.specs.Holding.{HoldWords}
use Rattle.tpf_program.specs.Program.{Shader}
use Rattle.tpf_program.specs.Values.{Context, context, named, of_four, index_of}
use Rattle.tpf_program.specs.Values as tpf
use Rattle.shader_tree.specs.declared.node.Space.{Space}
use Rattle.shader_tree.specs.declared.node.Space.TheVariants.{Temps, Indexable}
use Rattle.shader_tree.specs.declared.node.Space.TheVariants as space
use Rattle.shader_tree.specs.Lane.{with_scratch}
use Rattle.shader_tree.specs.Terms.{Term, Word, Scratch, Product, Pick, Set}
use Rattle.shader_tree.specs.Values.{Spaces, Words, words, value, word, truth, for_word}
use Rattle.raise_operands.specs.Folding.{literal}
use Rattle.raise_operands.specs.Raises.{AreSmall, AddsInRange, InRange}
use Rattle.raise_operands.specs.Raising.{target_by}
use Rattle.raise_operands.specs.Vectors.{Vector, Outside, At, Indexed, spaces_of, vectors_in, vector_by, index_scratch, start_scratch, inside, relative_word, index_word, keeps_by}
use Rattle.raise_operands.proofs.FoldingValues.{Lit, lit, add_value}
use Rattle.raise_operands.specs.Runs.{Leads}
use Rattle.raise_operands.proofs.Leading.{leads_nothing, leads_then, leads_set}
use Rattle.raise_operands.specs.Runs.{Finds}
use Rattle.raise_operands.proofs.Reading.{few, pick_value, named_value}

-- what is added to an index is a word
either : (b : Bool) (x : ℕ) → x < 2 ^ 32 → (if b then x else 0) < 2 ^ 32
either true x h = h
either false x h = omega arith

one_of : (x y z c : ℕ) → x < 2 ^ 32 → y < 2 ^ 32 → z < 2 ^ 32 → of_four x y z 0 c < 2 ^ 32
one_of x y z c h k l = pick (nat_eq c 0) (nat_eq c 1) (nat_eq c 2)
  where
    pick : (a b d : Bool) → (if a then x else if b then y else if d then z else 0) < 2 ^ 32
    pick true b d = h
    pick false true d = k
    pick false false true = l
    pick false false false = omega arith

pub named_below : (p : Shader) (s : Setting) (o : Registers) → AreWords p.constants → HoldsWords s → HoldWords o → (kind : Kind) (slot index c : ℕ)
    → named (context p s o) kind slot index c < 2 ^ 32
named_below p s o u v w kind.Temp slot index c = either (nat_lt slot (spaces_of p).temps) _ (w.temp slot c)
named_below p s o u v w kind.Indexable slot index c = either (nat_lt index ((spaces_of p).elements slot)) _ (w.indexable slot index c)
named_below p s o u v w kind.Constant slot index c = either (nat_lt index ((spaces_of p).vectors slot)) _ (v.constants slot (4 * index + c))
named_below p s o u v w kind.ImmediateConstant slot index c = u (4 * index + c)
named_below p s o u v w kind.ThreadId slot index c = one_of _ _ _ c v.ids.thread_x v.ids.thread_y v.ids.thread_z
named_below p s o u v w kind.GroupId slot index c = one_of _ _ _ c v.ids.group_x v.ids.group_y v.ids.group_z
named_below p s o u v w kind.IdInGroup slot index c = one_of _ _ _ c v.ids.x v.ids.y v.ids.z
named_below p s o u v w kind.FlatId slot index c = v.ids.flat
named_below p s o u v w other slot index c = omega arith

-- a vector whose index is known is not kept
at_finds : (b : Bool) (g : Spaces) (space : Space) (n k index : ℕ) (t : Words) → Finds (if b then At space n else Outside) g k index t
at_finds true g space n k index t = tt
at_finds false g space n k index t = tt

known_finds : (kind : Kind) (g : Spaces) (slot n k index : ℕ) (t : Words) → Finds (vector_by kind g slot (Some n)) g k index t
known_finds kind.Temp g slot n k index t = at_finds (nat_lt slot g.temps) g Temps slot k index t
known_finds kind.Indexable g slot n k index t = at_finds (nat_lt n (vectors_in g (Indexable slot))) g (Indexable slot) n k index t
known_finds kind.Constant g slot n k index t = at_finds (nat_lt n (vectors_in g (space.Constant slot))) g (space.Constant slot) n k index t
known_finds kind.ImmediateConstant g slot n k index t = at_finds (nat_lt n (vectors_in g space.ImmediateConstant)) g space.ImmediateConstant n k index
    t
known_finds other g slot n k index t = tt

module _ (p : Shader) (s : Setting) (o : Registers) (small : AreSmall (spaces_of p)) (in_p : AreWords p.constants) (in_s : HoldsWords s)
    (in_o : HoldWords o) where
  relative_value : (scratch : ℕ → ℕ) (r : Option Relative) → AddsInRange r → value (spaces_of p) s (words scratch o) (relative_word (spaces_of p) r) ≡
      word (tpf.relative_word (context p s o) r)
  relative_value scratch None h = refl
  relative_value scratch (Some r) h =
      named_value p s (words scratch o) small r.kind (Some r.index) 0 r.slot r.index r.component refl
      (known_finds r.kind (spaces_of p) r.slot r.index 0 r.index (words scratch o)) h

  relative_below : (r : Option Relative) → tpf.relative_word (context p s o) r < 2 ^ 32
  relative_below None = omega arith
  relative_below (Some r) = named_below p s o in_p in_s in_o r.kind r.slot r.index r.component

  pub index_value : (scratch : ℕ → ℕ) (a : Argument) → InRange a → value (spaces_of p) s (words scratch o) (index_word (spaces_of p) a) ≡ word
      (index_of (context p s o) a)
  index_value scratch a h =
      add_value (spaces_of p) s (words scratch o) (relative_word (spaces_of p) a.relative) (tpf.relative_word (context p s o) a.relative) a.index
      (relative_value scratch a.relative h.relative) (relative_below a.relative)
      ∙ ap (λ x. word (x % 2 ^ 32)) (omega arith)

  pub index_lit : (a : Argument) → InRange a → Lit (literal (index_word (spaces_of p) a)) (index_of (context p s o) a)
  index_lit a h = lit (spaces_of p) s (words (λ n. 0) o) (index_word (spaces_of p) a) (index_of (context p s o) a) (index_value (λ n. 0) a h)

-- THE STATEMENT THAT KEEPS AN INDEX
abbrev pub start_of : Spaces → Space → ℕ → ℕ
start_of g space index = 4 * (if nat_lt index (vectors_in g space) then index else 0)

abbrev pub kept_in : Vector → Spaces → ℕ → ℕ → Words → Words
kept_in (Indexed space) g k index t = with_scratch (with_scratch t (index_scratch k) index) (start_scratch k) (start_of g space index)
kept_in v g k index t = t

pub set_there : (t : Words) (n w : ℕ) → (with_scratch t n w).scratch n ≡ w
set_there t n w = ap (λ b. if b then w else t.scratch n) (eq-eqb n n refl)

pub set_elsewhere : (t : Words) (n w m : ℕ) → (m ≡ n → ⊥) → (with_scratch t n w).scratch m ≡ t.scratch m
set_elsewhere t n w m h = ap (λ b. if b then w else t.scratch m) (ne_eqb m n h)

small_start : (b : Bool) (n v : ℕ) → nat_lt n v ≡ b → v < 2 ^ 30 → (if b then n else 0) * 4 % 2 ^ 32 ≡ 4 * (if b then n else 0)
small_start true n v e h = let l = ltb-true n v e in omega arith
small_start false n v e h = refl

module _ (g : Spaces) (s : Setting) (small : AreSmall g) (k : ℕ) where
  start_is : (space : Space) (index : ℕ) (t : Words) → t.scratch (index_scratch k) ≡ index
      → value g s t (Product (Pick (inside g k space) (Scratch (index_scratch k)) (Word 0)) 4) ≡ word (start_of g space index)
  start_is space index t e =
      ap (λ v. for_word v (λ x. word (x * 4 % 2 ^ 32)))
      (pick_value g s t small (inside g k space) (Scratch (index_scratch k)) (Word 0) (nat_lt index (vectors_in g space)) index 0
      (ap (λ x. truth (nat_lt x (vectors_in g space))) e) (ap word e) refl)
      ∙ ap word (small_start (nat_lt index (vectors_in g space)) index (vectors_in g space) refl (few g small space))

  pub keeps_leads : (v : Vector) (index : ℕ) (at : Term) (t : Words) → value g s t at ≡ word index → Leads g s (keeps_by v g k at) t
      (kept_in v g k index t)
  keeps_leads Outside index at t h = leads_nothing g s t
  keeps_leads (At space n) index at t h = leads_nothing g s t
  keeps_leads (Indexed space) index at t h =
      let u = with_scratch t (index_scratch k) index in
      leads_then g s (Set (index_scratch k) at) (Set (start_scratch k) (Product (Pick (inside g k space) (Scratch (index_scratch k)) (Word 0)) 4)) t u
      _
      (leads_set g s t (index_scratch k) index at h) (leads_set g s u (start_scratch k) (start_of g space index) _
      (start_is space index u (set_there t (index_scratch k) index)))

  pub keeps_finds : (v : Vector) (index : ℕ) (t : Words) → Finds v g k index (kept_in v g k index t)
  keeps_finds Outside index t = tt
  keeps_finds (At space n) index t = tt
  keeps_finds (Indexed space) index t = record {
    index' =
        set_elsewhere (with_scratch t (index_scratch k) index) (start_scratch k) (start_of g space index) (index_scratch k) (λ e. omega arith)
        ∙ set_there t (index_scratch k) index;
    start = set_there (with_scratch t (index_scratch k) index) (start_scratch k) (start_of g space index);
  }

  pub keeps_scratch : (v : Vector) (index : ℕ) (t : Words) (n : ℕ) → (n ≡ index_scratch k → ⊥) → (n ≡ start_scratch k → ⊥)
      → (kept_in v g k index t).scratch n ≡ t.scratch n
  keeps_scratch Outside index t n h l = refl
  keeps_scratch (At space m) index t n h l = refl
  keeps_scratch (Indexed space) index t n h l =
      set_elsewhere (with_scratch t (index_scratch k) index) (start_scratch k) (start_of g space index) n l ∙ set_elsewhere t (index_scratch k) index
      n h

  pub keeps_registers : (v : Vector) (index : ℕ) (t : Words) → (kept_in v g k index t).registers ≡ t.registers
  keeps_registers Outside index t = refl
  keeps_registers (At space n) index t = refl
  keeps_registers (Indexed space) index t = refl

-- what is kept depends on two scratch words alone
pub finds_same : (v : Vector) (g : Spaces) (k index : ℕ) (t u : Words) → u.scratch (index_scratch k) ≡ t.scratch (index_scratch k)
    → u.scratch (start_scratch k) ≡ t.scratch (start_scratch k)
    → Finds v g k index t → Finds v g k index u
finds_same Outside g k index t u e f h = tt
finds_same (At space n) g k index t u e f h = tt
finds_same (Indexed space) g k index t u e f h = record { index' = e ∙ h.index'; start = f ∙ h.start }

pub target_finds : (kind : Kind) (v : Vector) (g : Spaces) (k index : ℕ) (t : Words) → Finds v g k index t → Finds (target_by kind v) g k index t
target_finds kind.Temp v g k index t h = h
target_finds kind.Indexable v g k index t h = h
target_finds other v g k index t h = tt
