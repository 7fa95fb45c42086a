-- What statements of instructions hold and name.
use Rattle.std.proofs.Common.{◌≡◌, ℕ, ◌+◌, ◌*◌, ◌<◌, Bool, true, false, List, [], ◌∷◌, ◌++◌, map, Option, Some, None, refl, sym, ap, ◌∙◌, arith}
use Rattle.std.specs.Prelude.{nat_eq, nat_lt, if◌then◌else◌, ◌&&◌, ◌||◌}
use Rattle.std.specs.List.{list_any}
use Rattle.std.proofs.lemmas.Bool.{ltb-true, and_from, not-false, or_parts}
use Rattle.word_base.specs.declared.arithmetic.Unary.{Unary}
use Rattle.word_base.specs.declared.arithmetic.Unary.TheVariants as one
use Rattle.word_base.specs.declared.arithmetic.Binary.{Binary}
use Rattle.word_base.specs.declared.arithmetic.Binary.TheVariants as two
use Rattle.word_base.specs.declared.arithmetic.Ternary.{Ternary}
use Rattle.word_base.specs.declared.arithmetic.Paired.{Paired}
use Rattle.word_base.specs.declared.event.Room.{Room}
use Rattle.tpf_decode.specs.declared.argument.Argument.{Argument}
use Rattle.tpf_decode.specs.declared.argument.Kind.{Kind}
use Rattle.tpf_decode.specs.declared.argument.Kind.TheVariants as kind
use Rattle.tpf_decode.specs.declared.argument.Relative.{Relative}
use Rattle.tpf_decode.specs.declared.meaning.Meaning.{Meaning}
use Rattle.tpf_decode.specs.declared.meaning.Meaning.TheVariants.{One, Two, Three, Inserts, Pair, Swaps}
use Rattle.tpf_decode.specs.Opcodes.{meaning_of}
use Rattle.tpf_decode.specs.Profiles.{Base}
use Rattle.tpf_program.specs.declared.declaration.Declaration.{Declaration}
use Rattle.tpf_program.specs.declared.declaration.Declaration.TheVariants as declaration
use Rattle.tpf_program.specs.Spelling.{operands}
use Rattle.tpf_program.specs.declared.declaration.Declared.{Declared}
use Rattle.tpf_program.specs.declared.instruction.Instruction.{Instruction}
use Rattle.tpf_program.specs.Program.{Shader}
use Rattle.tpf_program.specs.Uses.{declares, is_missing, Use, use_of, operand_uses, added_uses, is_indexed}
use Rattle.tpf_program.specs.Values.{selected}
use Rattle.shader_tree.specs.declared.node.Space.{Space}
use Rattle.shader_tree.specs.declared.node.Space.TheVariants.{Temps, Indexable, Constant, ImmediateConstant}
use Rattle.shader_tree.specs.Terms.{Term}
use Rattle.shader_tree.specs.Terms as term
use Rattle.shader_tree.specs.Values.{size_of}
use Rattle.shader_tree.specs.Walks.{Each, holds_no, is_event, is_flow, rooms_in, threads_in, spaces_in, written_in}
use Rattle.raise_operands.specs.Folding.{literal, added_by, unary_of, unary_by, binary_by, ternary_by, insert_by, first_by, second_by, chosen_by}
use Rattle.raise_operands.specs.Raises.{IsPlain, HasThread, is_input, is_register}
use Rattle.raise_operands.specs.Raising.{Part, source, source_by, is_nothing, followed, chained_from, computed, computed_second, first_written, second_written, first_part, second_part, first_waits, second_waits, parts, target, target_by, write_by, now, behind, indices, raised, raised_by, statement_of, scalar_front, scalar_word}
use Rattle.raise_operands.specs.Vectors.{Vector, Outside, At, Indexed, spaces_of, vectors_in, vector_of, vector_by, word_of, known_word, vector_word, thread_word, named_word, relative_word, index_word, vector, keeps_by, keeps_index}
use Rattle.raise_operands.proofs.Basics.{each_append, each_map}
use Rattle.raise_operands.proofs.Reading.{enough}

-- THE FACTS of a walk, by what it gathers
abbrev pub IsNamed : Shader → Kind → Type 0
IsNamed p kind = HasThread p kind

pub record Facts (p : Shader) (events flow : Bool) (rooms : List Room) (threads : List Kind) (spaces written : List Space) : Type 0 where
  pub no_events : events ≡ true
  pub no_flow : flow ≡ true
  pub no_rooms : rooms ≡ []
  pub declared : Each (IsNamed p) threads
  pub there : Each (λ space. 0 < size_of (spaces_of p) space) spaces
  pub registers : Each (λ space. is_register space ≡ true) written

abbrev pub Plain : Shader → Term → Type 0
Plain p x = Facts p (holds_no is_event x) (holds_no is_flow x) (rooms_in x) (threads_in x) (spaces_in x) (written_in x)

joined : {p : Shader} {e f e' f' : Bool} {rs rs' : List Room} {ts ts' : List Kind} {ss ss' ws ws' : List Space} → Facts p e f rs ts ss ws
    → Facts p e' f' rs' ts' ss' ws'
    → Facts p (e && e') (f && f') (rs ++ rs') (ts ++ ts') (ss ++ ss') (ws ++ ws')
joined {p} {e} {f} {e'} {f'} {rs} {rs'} {ts} {ts'} {ss} {ss'} {ws} {ws'} h k = record {
  no_events = and_from e e' h.no_events k.no_events;
  no_flow = and_from f f' h.no_flow k.no_flow;
  no_rooms = ap (λ x. x ++ rs') h.no_rooms ∙ k.no_rooms;
  declared = each_append (IsNamed p) ts ts' h.declared k.declared;
  there = each_append (λ space. 0 < size_of (spaces_of p) space) ss ss' h.there k.there;
  registers = each_append (λ space. is_register space ≡ true) ws ws' h.registers k.registers;
}

nothing : {p : Shader} → Facts p true true [] [] [] []
nothing = record { no_events = refl; no_flow = refl; no_rooms = refl; declared = tt; there = tt; registers = tt }

reading : {p : Shader} {e f : Bool} {rs : List Room} {ts : List Kind} {ss ws : List Space} (space : Space) → 0 < size_of (spaces_of p) space
    → Facts p e f rs ts ss ws → Facts p e f rs ts (space ∷ ss) ws
reading space l h =
    record {
      no_events = h.no_events;
      no_flow = h.no_flow;
      no_rooms = h.no_rooms;
      declared = h.declared;
      there = (l, h.there);
      registers =
          h.registers;
    }

writing : {p : Shader} {e f : Bool} {rs : List Room} {ts : List Kind} {ss ws : List Space} (space : Space) → 0 < size_of (spaces_of p) space
    → is_register space ≡ true → Facts p e f rs ts ss ws
    → Facts p e f rs ts (space ∷ ss) (space ∷ ws)
writing space l r h =
    record {
      no_events = h.no_events;
      no_flow = h.no_flow;
      no_rooms = h.no_rooms;
      declared = h.declared;
      there = (l, h.there);
      registers =
          (r, h.registers);
    }

module _ (p : Shader) where
  plain_added : (o : Option ℕ) (a : Term) (n : ℕ) → Plain p a → Plain p (added_by o a n)
  plain_added (Some w) a n h = nothing
  plain_added None a n h = by_zero (nat_eq n 0)
    where
      by_zero : (b : Bool) → Plain p (if b then a else term.Two two.Iadd a (term.Word n))
      by_zero true = h
      by_zero false = joined h nothing

  plain_one : (o : Option ℕ) (op : Unary) (a : Term) → Plain p a → Plain p (unary_by o op a)
  plain_one (Some w) op a h = nothing
  plain_one None op a h = h

  plain_unary : (op : Unary) (a : Term) → Plain p a → Plain p (unary_of op a)
  plain_unary one.Mov a h = h
  plain_unary other a h = plain_one (literal a) other a h

  plain_binary : (o q : Option ℕ) (op : Binary) (a b : Term) → Plain p a → Plain p b → Plain p (binary_by o q op a b)
  plain_binary (Some v) (Some w) op a b h k = nothing
  plain_binary None q op a b h k = joined h k
  plain_binary (Some v) None op a b h k = joined h k

  plain_ternary : (o q r : Option ℕ) (op : Ternary) (a b c : Term) → Plain p a → Plain p b → Plain p c → Plain p (ternary_by o q r op a b c)
  plain_ternary (Some u) (Some v) (Some w) op a b c h k l = nothing
  plain_ternary None q r op a b c h k l = joined h (joined k l)
  plain_ternary (Some u) None r op a b c h k l = joined h (joined k l)
  plain_ternary (Some u) (Some v) None op a b c h k l = joined h (joined k l)

  plain_insert : (o q r z : Option ℕ) (a b c d : Term) → Plain p a → Plain p b → Plain p c → Plain p d → Plain p (insert_by o q r z a b c d)
  plain_insert (Some u) (Some v) (Some w) (Some x) a b c d h k l m = nothing
  plain_insert None q r z a b c d h k l m = joined h (joined k (joined l m))
  plain_insert (Some u) None r z a b c d h k l m = joined h (joined k (joined l m))
  plain_insert (Some u) (Some v) None z a b c d h k l m = joined h (joined k (joined l m))
  plain_insert (Some u) (Some v) (Some w) None a b c d h k l m = joined h (joined k (joined l m))

  plain_first : (o q : Option ℕ) (op : Paired) (a b : Term) → Plain p a → Plain p b → Plain p (first_by o q op a b)
  plain_first (Some v) (Some w) op a b h k = nothing
  plain_first None q op a b h k = joined h k
  plain_first (Some v) None op a b h k = joined h k

  plain_second : (o q : Option ℕ) (op : Paired) (a b : Term) → Plain p a → Plain p b → Plain p (second_by o q op a b)
  plain_second (Some v) (Some w) op a b h k = nothing
  plain_second None q op a b h k = joined h k
  plain_second (Some v) None op a b h k = joined h k

  plain_chosen : (o : Option ℕ) (on a b : Term) → Plain p on → Plain p a → Plain p b → Plain p (chosen_by o on a b)
  plain_chosen (Some w) on a b h k l = by_zero (nat_eq w 0)
    where
      by_zero : (q : Bool) → Plain p (if q then a else b)
      by_zero true = k
      by_zero false = l
  plain_chosen None on a b h k l = joined (joined h nothing) (joined l k)

  -- VECTORS
  abbrev InSpace : Vector → Type 0
  InSpace Outside = Unit {0}
  InSpace (At space n) = 0 < size_of (spaces_of p) space
  InSpace (Indexed space) = 0 < size_of (spaces_of p) space

  at_in : (b : Bool) (space : Space) (n : ℕ) → nat_lt n (vectors_in (spaces_of p) space) ≡ b → InSpace (if b then At space n else Outside)
  at_in true space n e = let l = ltb-true n (vectors_in (spaces_of p) space) e in let m = enough (spaces_of p) space in omega arith
  at_in false space n e = tt

  found_in : (b : Bool) (space : Space) → nat_lt 0 (vectors_in (spaces_of p) space) ≡ b → InSpace (if b then Indexed space else Outside)
  found_in true space e = let l = ltb-true 0 (vectors_in (spaces_of p) space) e in let m = enough (spaces_of p) space in omega arith
  found_in false space e = tt

  of_in : (o : Option ℕ) (space : Space) → InSpace (vector_of (spaces_of p) space o)
  of_in (Some n) space = at_in (nat_lt n (vectors_in (spaces_of p) space)) space n refl
  of_in None space = found_in (nat_lt 0 (vectors_in (spaces_of p) space)) space refl

  by_in : (kind : Kind) (slot : ℕ) (o : Option ℕ) → InSpace (vector_by kind (spaces_of p) slot o)
  by_in kind.Temp slot o = at_in (nat_lt slot (spaces_of p).temps) Temps slot refl
  by_in kind.Indexable slot o = of_in o (Indexable slot)
  by_in kind.Constant slot o = of_in o (Constant slot)
  by_in kind.ImmediateConstant slot o = of_in o ImmediateConstant
  by_in other slot o = tt

  plain_known : (space : Space) (n c : ℕ) → 0 < size_of (spaces_of p) space → Plain p (known_word (spaces_of p) space n c)
  plain_known ImmediateConstant n c l = nothing
  plain_known Temps n c l = reading Temps l nothing
  plain_known (Indexable slot) n c l = reading (Indexable slot) l nothing
  plain_known (Constant slot) n c l = reading (Constant slot) l nothing

  plain_start : (k c : ℕ) → Plain p (word_of k c)
  plain_start k c = plain_added None (term.Scratch (2 * k + 1)) c nothing

  plain_vector : (k c : ℕ) (v : Vector) → InSpace v → Plain p (vector_word (spaces_of p) k v c)
  plain_vector k c Outside l = nothing
  plain_vector k c (At space n) l = plain_known space n c l
  plain_vector k c (Indexed space) l = joined nothing (joined (reading space l (plain_start k c)) nothing)

  -- thread ids that are declared
  abbrev pub IsDeclaredKind : Kind → Type 0
  IsDeclaredKind kind.ThreadId = IsNamed p kind.ThreadId
  IsDeclaredKind kind.GroupId = IsNamed p kind.GroupId
  IsDeclaredKind kind.IdInGroup = IsNamed p kind.IdInGroup
  IsDeclaredKind kind.FlatId = IsNamed p kind.FlatId
  IsDeclaredKind other = Unit {0}

  plain_thread : (kind : Kind) (c : ℕ) → IsNamed p kind → Plain p (thread_word kind c)
  plain_thread kind c h = below (nat_lt c 3)
    where
      below : (b : Bool) → Plain p (if b then term.Thread kind c else term.Word 0)
      below true = record { no_events = refl; no_flow = refl; no_rooms = refl; declared = (h, tt); there = tt; registers = tt }
      below false = nothing

  plain_named : (kind : Kind) (k c : ℕ) (v : Vector) → IsDeclaredKind kind → InSpace v → Plain p (named_word kind (spaces_of p) k v c)
  plain_named kind.ThreadId k c v h l = plain_thread kind.ThreadId c h
  plain_named kind.GroupId k c v h l = plain_thread kind.GroupId c h
  plain_named kind.IdInGroup k c v h l = plain_thread kind.IdInGroup c h
  plain_named kind.FlatId k c v h l = record { no_events = refl; no_flow = refl; no_rooms = refl; declared = (h, tt); there = tt; registers = tt }
  plain_named other k c v h l = plain_vector k c v l

  abbrev pub IsDeclaredRelative : Option Relative → Type 0
  IsDeclaredRelative None = Unit {0}
  IsDeclaredRelative (Some r) = IsDeclaredKind r.kind

  plain_relative : (r : Option Relative) → IsDeclaredRelative r → Plain p (relative_word (spaces_of p) r)
  plain_relative None h = nothing
  plain_relative (Some r) h = plain_named r.kind 0 r.component (vector_by r.kind (spaces_of p) r.slot (Some r.index)) h
      (by_in r.kind r.slot (Some r.index))

  plain_index : (a : Argument) → IsDeclaredRelative a.relative → Plain p (index_word (spaces_of p) a)
  plain_index a h = plain_added (literal (relative_word (spaces_of p) a.relative)) (relative_word (spaces_of p) a.relative) a.index
      (plain_relative a.relative h)

  -- an index that is kept, of a type that has one
  abbrev pub IsDeclaredIndex : Kind → Option Relative → Type 0
  IsDeclaredIndex kind.Indexable r = IsDeclaredRelative r
  IsDeclaredIndex kind.Constant r = IsDeclaredRelative r
  IsDeclaredIndex kind.ImmediateConstant r = IsDeclaredRelative r
  IsDeclaredIndex other r = Unit {0}

  plain_kept : (v : Vector) (k : ℕ) (x : Term) → Plain p x → Plain p (keeps_by v (spaces_of p) k x)
  plain_kept Outside k x h = nothing
  plain_kept (At space n) k x h = nothing
  plain_kept (Indexed space) k x h = joined h nothing

  unkept : (b : Bool) (space : Space) (n k : ℕ) (x : Term) → Plain p (keeps_by (if b then At space n else Outside) (spaces_of p) k x)
  unkept true space n k x = nothing
  unkept false space n k x = nothing

  plain_keeps_by : (kind : Kind) (r : Option Relative) (slot : ℕ) (o : Option ℕ) (k : ℕ) (x : Term) → IsDeclaredIndex kind r
      → (IsDeclaredRelative r → Plain p x) → Plain p (keeps_by (vector_by kind (spaces_of p) slot o) (spaces_of p) k x)
  plain_keeps_by kind.Temp r slot o k x h f = unkept (nat_lt slot (spaces_of p).temps) Temps slot k x
  plain_keeps_by kind.Indexable r slot o k x h f = plain_kept (vector_of (spaces_of p) (Indexable slot) o) k x (f h)
  plain_keeps_by kind.Constant r slot o k x h f = plain_kept (vector_of (spaces_of p) (Constant slot) o) k x (f h)
  plain_keeps_by kind.ImmediateConstant r slot o k x h f = plain_kept (vector_of (spaces_of p) ImmediateConstant o) k x (f h)
  plain_keeps_by other r slot o k x h f = nothing

  pub record IsDeclaredOperand (a : Argument) : Type 0 where
    pub kind' : IsDeclaredKind a.kind
    pub index' : IsDeclaredIndex a.kind a.relative

  plain_keeps : (k : ℕ) (a : Argument) → IsDeclaredOperand a → Plain p (keeps_index (spaces_of p) k a)
  plain_keeps k a h = plain_keeps_by a.kind a.relative a.slot (literal (index_word (spaces_of p) a)) k (index_word (spaces_of p) a) h.index'
      (plain_index a)

  plain_source_by : (kind : Kind) (k c : ℕ) (a : Argument) → IsDeclaredKind kind → Plain p (source_by kind (spaces_of p) k a c)
  plain_source_by kind.Immediate k c a h = nothing
  plain_source_by other k c a h = plain_named other k (selected a.select c) (vector (spaces_of p) a) h
      (by_in a.kind a.slot (literal (index_word (spaces_of p) a)))

  plain_source : (k c : ℕ) (a : Argument) → IsDeclaredOperand a → Plain p (source (spaces_of p) k a c)
  plain_source k c a h = negated a.negate
    where
      negated : (b : Bool) → Plain p (if b then unary_of one.Ineg (source_by a.kind (spaces_of p) k a c) else source_by a.kind (spaces_of p) k a c)
      negated true = plain_unary one.Ineg (source_by a.kind (spaces_of p) k a c) (plain_source_by a.kind k c a h.kind')
      negated false = plain_source_by a.kind k c a h.kind'

  -- WRITES
  plain_at : (b : Bool) (space : Space) (n k c : ℕ) (x : Term) → nat_lt n (vectors_in (spaces_of p) space) ≡ b → is_register space ≡ true → Plain p x
      → Plain p (write_by (if b then At space n else Outside) (spaces_of p) k c x)
  plain_at true space n k c x e r h = writing space (at_in true space n e) r (joined nothing h)
  plain_at false space n k c x e r h = nothing

  plain_found : (b : Bool) (space : Space) (k c : ℕ) (x : Term) → nat_lt 0 (vectors_in (spaces_of p) space) ≡ b → is_register space ≡ true → Plain p x
      → Plain p (write_by (if b then Indexed space else Outside) (spaces_of p) k c x)
  plain_found true space k c x e r h = joined nothing (writing space (found_in true space e) r (joined (plain_start k c) h))
  plain_found false space k c x e r h = nothing

  plain_element : (o : Option ℕ) (slot k c : ℕ) (x : Term) → Plain p x
      → Plain p (write_by (vector_of (spaces_of p) (Indexable slot) o) (spaces_of p) k c x)
  plain_element (Some n) slot k c x h = plain_at (nat_lt n (vectors_in (spaces_of p) (Indexable slot))) (Indexable slot) n k c x refl refl h
  plain_element None slot k c x h = plain_found (nat_lt 0 (vectors_in (spaces_of p) (Indexable slot))) (Indexable slot) k c x refl refl h

  plain_write_by : (kind : Kind) (slot : ℕ) (o : Option ℕ) (k c : ℕ) (x : Term) → Plain p x
      → Plain p (write_by (target_by kind (vector_by kind (spaces_of p) slot o)) (spaces_of p) k c x)
  plain_write_by kind.Temp slot o k c x h = plain_at (nat_lt slot (spaces_of p).temps) Temps slot k c x refl refl h
  plain_write_by kind.Indexable slot o k c x h = plain_element o slot k c x h
  plain_write_by other slot o k c x h = nothing

  plain_write : (a : Argument) (k c : ℕ) (x : Term) → Plain p x → Plain p (write_by (target (spaces_of p) a) (spaces_of p) k c x)
  plain_write a k c x h = plain_write_by a.kind a.slot (literal (index_word (spaces_of p) a)) k c x h

  plain_now : (b : Bool) (n : ℕ) (x w : Term) → Plain p x → Plain p w → Plain p (if b then term.Set n x else w)
  plain_now true n x w h k = h
  plain_now false n x w h k = k

  plain_behind : (b : Bool) (w : Term) → Plain p w → Plain p (if b then w else term.Nothing)
  plain_behind true w h = h
  plain_behind false w h = nothing

  -- CHAINS
  plain_followed : (a b : Term) → Plain p a → Plain p b → Plain p (followed a b)
  plain_followed a b h k = first (is_nothing a) (is_nothing b)
    where
      first : (x y : Bool) → Plain p (if x then b else if y then a else term.Then a b)
      first true y = k
      first false true = h
      first false false = joined h k

  plain_chained : (xs : List Term) (a : Term) → Plain p a → Each (Plain p) xs → Plain p (chained_from a xs)
  plain_chained [] a h k = h
  plain_chained (x ∷ xs) a h k = plain_chained xs (followed a x) (plain_followed a x h k.0) k.1

  pub record AreDeclared (i : Instruction) : Type 0 where
    pub o0 : IsDeclaredOperand i.o0
    pub o1 : IsDeclaredOperand i.o1
    pub o2 : IsDeclaredOperand i.o2
    pub o3 : IsDeclaredOperand i.o3
    pub o4 : IsDeclaredOperand i.o4

  module _ (i : Instruction) (d : AreDeclared i) where
    plain_computed : (m : Meaning) (c : ℕ) → Plain p (computed m (spaces_of p) i c)
    plain_computed (One op) c = plain_unary op (source (spaces_of p) 1 i.o1 c) (plain_source 1 c i.o1 d.o1)
    plain_computed (Two op) c = plain_binary (literal (source (spaces_of p) 1 i.o1 c)) (literal (source (spaces_of p) 2 i.o2 c)) op
        (source (spaces_of p) 1 i.o1 c) (source (spaces_of p) 2 i.o2 c) (plain_source 1 c i.o1 d.o1) (plain_source 2 c i.o2 d.o2)
    plain_computed (Three op) c =
        plain_ternary (literal (source (spaces_of p) 1 i.o1 c)) (literal (source (spaces_of p) 2 i.o2 c)) (literal (source (spaces_of p) 3 i.o3 c)) op
        (source (spaces_of p) 1 i.o1 c) (source (spaces_of p) 2 i.o2 c) (source (spaces_of p) 3 i.o3 c)
        (plain_source 1 c i.o1 d.o1) (plain_source 2 c i.o2 d.o2) (plain_source 3 c i.o3 d.o3)
    plain_computed Inserts c =
        plain_insert (literal (source (spaces_of p) 1 i.o1 c)) (literal (source (spaces_of p) 2 i.o2 c)) (literal (source (spaces_of p) 3 i.o3 c))
        (literal (source (spaces_of p) 4 i.o4 c))
        (source (spaces_of p) 1 i.o1 c) (source (spaces_of p) 2 i.o2 c) (source (spaces_of p) 3 i.o3 c) (source (spaces_of p) 4 i.o4 c)
        (plain_source 1 c i.o1 d.o1) (plain_source 2 c i.o2 d.o2) (plain_source 3 c i.o3 d.o3) (plain_source 4 c i.o4 d.o4)
    plain_computed (Pair op) c = plain_first (literal (source (spaces_of p) 2 i.o2 c)) (literal (source (spaces_of p) 3 i.o3 c)) op
        (source (spaces_of p) 2 i.o2 c) (source (spaces_of p) 3 i.o3 c) (plain_source 2 c i.o2 d.o2) (plain_source 3 c i.o3 d.o3)
    plain_computed Swaps c =
        plain_chosen (literal (source (spaces_of p) 2 i.o2 c)) (source (spaces_of p) 2 i.o2 c) (source (spaces_of p) 3 i.o3 c)
        (source (spaces_of p) 4 i.o4 c)
        (plain_source 2 c i.o2 d.o2) (plain_source 3 c i.o3 d.o3) (plain_source 4 c i.o4 d.o4)
    plain_computed other c = nothing

    plain_computed_second : (m : Meaning) (c : ℕ) → Plain p (computed_second m (spaces_of p) i c)
    plain_computed_second (Pair op) c = plain_second (literal (source (spaces_of p) 2 i.o2 c)) (literal (source (spaces_of p) 3 i.o3 c)) op
        (source (spaces_of p) 2 i.o2 c) (source (spaces_of p) 3 i.o3 c) (plain_source 2 c i.o2 d.o2) (plain_source 3 c i.o3 d.o3)
    plain_computed_second Swaps c =
        plain_chosen (literal (source (spaces_of p) 2 i.o2 c)) (source (spaces_of p) 2 i.o2 c) (source (spaces_of p) 4 i.o4 c)
        (source (spaces_of p) 3 i.o3 c)
        (plain_source 2 c i.o2 d.o2) (plain_source 4 c i.o4 d.o4) (plain_source 3 c i.o3 d.o3)
    plain_computed_second other c = nothing

    now_first : (m : Meaning) (cs : List ℕ) (ps : List Part) → Each (λ x. Plain p (now (spaces_of p) x)) ps
        → Each (λ x. Plain p (now (spaces_of p) x)) (map (first_part m (spaces_of p) i) cs ++ ps)
    now_first m [] ps h = h
    now_first m (c ∷ cs) ps h = (
      plain_now (first_waits m (spaces_of p) i c) (10 + c) (computed m (spaces_of p) i c) (write_by (target (spaces_of p) i.o0) (spaces_of p) 0 c
          (computed m (spaces_of p) i c)) (plain_computed m c)
          (plain_write i.o0 0 c (computed m (spaces_of p) i c) (plain_computed m c)),
      now_first m cs ps h,
    )

    now_second : (m : Meaning) (cs : List ℕ) → Each (λ x. Plain p (now (spaces_of p) x)) (map (second_part m (spaces_of p) i) cs)
    now_second m [] = tt
    now_second m (c ∷ cs) = (
      plain_now (second_waits m (spaces_of p) i c) (14 + c) (computed_second m (spaces_of p) i c)
          (write_by (target (spaces_of p) i.o1) (spaces_of p) 1 c (computed_second m (spaces_of p) i c)) (plain_computed_second m c)
          (plain_write i.o1 1 c (computed_second m (spaces_of p) i c) (plain_computed_second m c)),
      now_second m cs,
    )

    behind_first : (m : Meaning) (cs : List ℕ) (ps : List Part) → Each (λ x. Plain p (behind (spaces_of p) x)) ps
        → Each (λ x. Plain p (behind (spaces_of p) x)) (map (first_part m (spaces_of p) i) cs ++ ps)
    behind_first m [] ps h = h
    behind_first m (c ∷ cs) ps h = (
      plain_behind (first_waits m (spaces_of p) i c) (write_by (target (spaces_of p) i.o0) (spaces_of p) 0 c (term.Scratch (10 + c)))
          (plain_write i.o0 0 c (term.Scratch (10 + c)) nothing),
      behind_first m cs ps h,
    )

    behind_second : (m : Meaning) (cs : List ℕ) → Each (λ x. Plain p (behind (spaces_of p) x)) (map (second_part m (spaces_of p) i) cs)
    behind_second m [] = tt
    behind_second m (c ∷ cs) = (
      plain_behind (second_waits m (spaces_of p) i c) (write_by (target (spaces_of p) i.o1) (spaces_of p) 1 c (term.Scratch (14 + c)))
          (plain_write i.o1 1 c (term.Scratch (14 + c)) nothing),
      behind_second m cs,
    )

    plain_indices : Each (Plain p) (indices (spaces_of p) i)
    plain_indices = (
      plain_keeps 0 i.o0 d.o0,
      (plain_keeps 1 i.o1 d.o1, (plain_keeps 2 i.o2 d.o2, (plain_keeps 3 i.o3 d.o3, (plain_keeps 4 i.o4 d.o4, tt)))),
    )

    plain_raised_by : (m : Meaning) → Plain p (raised_by m (spaces_of p) i)
    plain_raised_by m =
        plain_chained (indices (spaces_of p) i ++ (map (now (spaces_of p)) (parts m (spaces_of p) i) ++ map (behind (spaces_of p))
        (parts m (spaces_of p) i))) term.Nothing nothing
        (each_append (Plain p) (indices (spaces_of p) i) _ plain_indices
        (each_append (Plain p) (map (now (spaces_of p)) (parts m (spaces_of p) i)) (map (behind (spaces_of p)) (parts m (spaces_of p) i))
        (each_map (Plain p) (now (spaces_of p)) (parts m (spaces_of p) i)
        (now_first m (first_written m i) (map (second_part m (spaces_of p) i) (second_written m i)) (now_second m (second_written m i))))
        (each_map (Plain p) (behind (spaces_of p)) (parts m (spaces_of p) i)
        (behind_first m (first_written m i) (map (second_part m (spaces_of p) i) (second_written m i)) (behind_second m (second_written m i))))))

    plain_raised : (m : Option Meaning) → Plain p (raised (spaces_of p) m i)
    plain_raised None = nothing
    plain_raised (Some m) = plain_raised_by m

is_plain : (p : Shader) (x : Term) → Plain p x → IsPlain p x
is_plain p x h = record {
  no_events = h.no_events;
  no_flow = h.no_flow;
  no_rooms = h.no_rooms;
  threads = h.declared;
  spaces = h.there;
  written =
      h.registers;
}

-- operands whose thread ids are not missing among the declarations
by_id : (what : Declaration) (slot : ℕ) → declares what kind.ThreadId slot ≡ is_input kind.ThreadId what
by_id (declaration.Input id select) slot = refl
by_id other slot = refl

by_group : (what : Declaration) (slot : ℕ) → declares what kind.GroupId slot ≡ is_input kind.GroupId what
by_group (declaration.Input id select) slot = refl
by_group other slot = refl

by_inner : (what : Declaration) (slot : ℕ) → declares what kind.IdInGroup slot ≡ is_input kind.IdInGroup what
by_inner (declaration.Input id select) slot = refl
by_inner other slot = refl

by_flat : (what : Declaration) (slot : ℕ) → declares what kind.FlatId slot ≡ is_input kind.FlatId what
by_flat (declaration.Input id select) slot = refl
by_flat other slot = refl

named_among : (kind : Kind) (slot : ℕ) → ((what : Declaration) → declares what kind slot ≡ is_input kind what) → (ds : List Declared)
    → list_any (λ d. declares d.what kind slot) ds ≡ list_any (λ d. is_input kind d.what) ds
named_among kind slot f [] = refl
named_among kind slot f (d ∷ ds) = ap (λ b. b || list_any (λ e. declares e.what kind slot) ds) (f d.what) ∙ ap (λ b. is_input kind d.what || b)
    (named_among kind slot f ds)

declared_thread : (p : Shader) (kind : Kind) (slot : ℕ) → is_missing p.declarations (use_of kind slot) ≡ false → IsDeclaredKind p kind
declared_thread p kind.ThreadId slot h = sym (named_among kind.ThreadId slot (λ what. by_id what slot) p.declarations) ∙ not-false _ h
declared_thread p kind.GroupId slot h = sym (named_among kind.GroupId slot (λ what. by_group what slot) p.declarations) ∙ not-false _ h
declared_thread p kind.IdInGroup slot h = sym (named_among kind.IdInGroup slot (λ what. by_inner what slot) p.declarations) ∙ not-false _ h
declared_thread p kind.FlatId slot h = sym (named_among kind.FlatId slot (λ what. by_flat what slot) p.declarations) ∙ not-false _ h
declared_thread p other slot h = tt

-- operands of which no use is missing
abbrev Given : Shader → List Use → Type 0
Given p us = list_any (is_missing p.declarations) us ≡ false

declared_relative : (p : Shader) (r : Option Relative) → Given p (added_uses true r) → IsDeclaredRelative p r
declared_relative p None h = tt
declared_relative p (Some r) h = declared_thread p r.kind r.slot (or_parts (is_missing p.declarations (use_of r.kind r.slot)) false h).0

declared_index : (p : Shader) (kind : Kind) (r : Option Relative) → Given p (added_uses (is_indexed kind) r) → IsDeclaredIndex p kind r
declared_index p kind.Indexable r h = declared_relative p r h
declared_index p kind.Constant r h = declared_relative p r h
declared_index p kind.ImmediateConstant r h = declared_relative p r h
declared_index p other r h = tt

declared_operand : (p : Shader) (a : Argument) → Given p (operand_uses a) → IsDeclaredOperand p a
declared_operand p a h =
    let q = or_parts (is_missing p.declarations (use_of a.kind a.slot))
    (list_any (is_missing p.declarations) (added_uses (is_indexed a.kind) a.relative)) h in
    record { kind' = declared_thread p a.kind a.slot q.0; index' = declared_index p a.kind a.relative q.1 }

pub plain_all : (p : Shader) (i : Instruction) → Each (λ a. list_any (is_missing p.declarations) (operand_uses a) ≡ false) (operands i)
    → IsPlain p (statement_of p i)
unfolding statement_of
plain_all p i h =
    is_plain p _ (plain_raised p i
    (record {
      o0 = declared_operand p i.o0 h.0;
      o1 = declared_operand p i.o1 h.1.0;
      o2 = declared_operand p i.o2 h.1.1.0;
      o3 = declared_operand p i.o3 h.1.1.1.0;
      o4 = declared_operand p i.o4 h.1.1.1.1.0;
    }) (meaning_of Base i.code))

-- the number that control flow reads
pub plain_scalar : (p : Shader) (i : Instruction) → list_any (is_missing p.declarations) (operand_uses i.o0) ≡ false → IsPlain p (scalar_front p i) ×
    IsPlain p (scalar_word p i)
unfolding scalar_front scalar_word
plain_scalar p i h =
    let d = declared_operand p i.o0 h in
    (is_plain p (keeps_index (spaces_of p) 0 i.o0) (plain_keeps p 0 i.o0 d), is_plain p (source (spaces_of p) 0 i.o0 0) (plain_source p 0 0 i.o0 d))

-- WHAT OPERANDS NAME
of_plain : (p : Shader) (x : Term) → IsPlain p x → Plain p x
of_plain p x h =
    record { no_events = h.no_events; no_flow = h.no_flow; no_rooms = h.no_rooms; declared = h.threads; there = h.spaces; registers = h.written }

pub keeps_plain : (p : Shader) (k : ℕ) (a : Argument) → list_any (is_missing p.declarations) (operand_uses a) ≡ false
    → IsPlain p (keeps_index (spaces_of p) k a)
keeps_plain p k a h = is_plain p (keeps_index (spaces_of p) k a) (plain_keeps p k a (declared_operand p a h))

pub source_plain : (p : Shader) (k c : ℕ) (a : Argument) → list_any (is_missing p.declarations) (operand_uses a) ≡ false
    → IsPlain p (source (spaces_of p) k a c)
source_plain p k c a h = is_plain p (source (spaces_of p) k a c) (plain_source p k c a (declared_operand p a h))

pub write_plain : (p : Shader) (a : Argument) (k c : ℕ) (x : Term) → IsPlain p x → IsPlain p (write_by (target (spaces_of p) a) (spaces_of p) k c x)
write_plain p a k c x h = is_plain p _ (plain_write p a k c x (of_plain p x h))
