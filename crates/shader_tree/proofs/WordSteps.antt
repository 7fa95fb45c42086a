-- A lane that holds words goes on holding words.
use Rattle.std.proofs.Common.{ℕ, ◌/◌, ◌%◌, ◌<◌, ◌^◌, Bool, true, false, List, [], ◌∷◌, Option, Some, None}
use Rattle.std.specs.Prelude.{◌&&◌, nat_lt, nat_eq, if◌then◌else◌, unwrap_or}
use Rattle.word_base.specs.Lanes.{Turn}
use Rattle.word_base.specs.Registers.{Registers}
use Rattle.word_base.specs.Settings.{Setting}
use Rattle.shader_tree.specs.declared.node.Space.{Space}
use Rattle.shader_tree.specs.declared.node.Space.TheVariants as space
use Rattle.shader_tree.specs.Chains.{Link, Run, Again, Out, push, or_else, is_case, is_default, behind_mark, switched, left, renewed}
use Rattle.shader_tree.specs.Holding.{AreGiven, HoldWords, is_long, OfWords, LinksOfWords, IsOfWords, Keeps}
use Rattle.shader_tree.specs.Lane.{State, with_scratch, with_word, wrong, on_word, on_truth, on_some, run, turn, step}
use Rattle.shader_tree.specs.Terms.{Term}
use Rattle.shader_tree.specs.Terms as term
use Rattle.shader_tree.specs.Values.{Spaces, Words, words, Value, IsWord, IsTruth, size_of, value}
use Rattle.shader_tree.specs.Walks.{holds_no}
use Rattle.shader_tree.proofs.Truths.{split}
use Rattle.shader_tree.proofs.WordLemmas.{AreResults, Short, value_short}

-- CHAINS.
pub push_words : (t : Term) (k : List Link) → OfWords t → LinksOfWords k → LinksOfWords (push t k)
push_words (term.Then a b) k o h =
    let p = split (holds_no is_long a) (holds_no is_long b) o in
    push_words a (push b k) p.0 (push_words b k p.1 h)
push_words term.Nothing k o h = h
push_words other k o h = (o, h)

-- a chain, if there is one
abbrev Found : Option (List Link) → Type 0
Found None = Unit {0}
Found (Some k) = LinksOfWords k

or_else_words : (x y : Option (List Link)) → Found x → Found y → Found (or_else x y)
or_else_words None y h k = k
or_else_words (Some x) y h k = h

choice_words : (b : Bool) (x y : Option (List Link)) → Found x → Found y → Found (if b then x else y)
choice_words true x y h k = h
choice_words false x y h k = k

mark_words : (mark : Option ℕ) (t : Term) (k : List Link) → OfWords t → LinksOfWords k → Found (behind_mark mark t k)
mark_words mark (term.Case v next) k o h =
    choice_words (is_case mark v) (Some (push next k)) (behind_mark mark next k) (push_words next k o h) (mark_words mark next k o h)
mark_words mark (term.Default next) k o h =
    choice_words (is_default mark) (Some (push next k)) (behind_mark mark next k) (push_words next k o h) (mark_words mark next k o h)
mark_words mark (term.Then a b) k o h =
    let p = split (holds_no is_long a) (holds_no is_long b) o in
    or_else_words (behind_mark mark a (push b k)) (behind_mark mark b k) (mark_words mark a (push b k) p.0 (push_words b k p.1 h)) (mark_words mark b k p.1 h)
mark_words mark other k o h = tt

unwrap_words : (x : Option (List Link)) (k : List Link) → Found x → LinksOfWords k → LinksOfWords (unwrap_or x k)
unwrap_words None k f h = h
unwrap_words (Some x) k f h = f

switched_words : (w : ℕ) (cases : Term) (k : List Link) → OfWords cases → LinksOfWords k → LinksOfWords (switched w cases k)
switched_words w cases k o h =
    unwrap_words (or_else (behind_mark (Some w) cases (Out ∷ k)) (behind_mark None cases (Out ∷ k))) k
    (or_else_words (behind_mark (Some w) cases (Out ∷ k)) (behind_mark None cases (Out ∷ k))
    (mark_words (Some w) cases (Out ∷ k) o h) (mark_words None cases (Out ∷ k) o h)) h

left_words : (k : List Link) → LinksOfWords k → Found (left k)
left_words [] h = tt
left_words (Run s ∷ k) h = left_words k h.1
left_words (Again body ∷ k) h = h.1
left_words (Out ∷ k) h = h

renewed_words : (k : List Link) → LinksOfWords k → Found (renewed k)
renewed_words [] h = tt
renewed_words (Run s ∷ k) h = renewed_words k h.1
renewed_words (Again body ∷ k) h = h
renewed_words (Out ∷ k) h = renewed_words k h

-- WORDS.
if_word : (b : Bool) (x y : ℕ) → x < 2 ^ 32 → y < 2 ^ 32 → (if b then x else y) < 2 ^ 32
if_word true x y h k = h
if_word false x y h k = k

scratch_words : (t : Words) (n w : ℕ) → HoldWords t → w < 2 ^ 32 → HoldWords (with_scratch t n w)
scratch_words t n w h lt = record { scratch = λ k. if_word (nat_eq k n) w (t.scratch k) lt (h.scratch k); temp = h.temp; indexable = h.indexable }

abbrev Written : (ℕ → ℕ) → Option Registers → Type 0
Written scratch None = Unit {0}
Written scratch (Some r) = HoldWords (words scratch r)

written_words : (t : Words) (place : Space) (i w : ℕ) → HoldWords t → w < 2 ^ 32 → Written t.scratch (with_word t.registers place i w)
written_words t space.Temps i w h lt = record {
  scratch = h.scratch;
  temp = λ slot c. if_word (nat_eq slot (i / 4) && nat_eq c (i % 4)) w (t.registers.temp slot c) lt (h.temp slot c);
  indexable = h.indexable;
}
written_words t (space.Indexable slot) i w h lt = record {
  scratch = h.scratch;
  temp = h.temp;
  indexable = λ x e c. if_word (nat_eq x slot && (nat_eq e (i / 4) && nat_eq c (i % 4))) w (t.registers.indexable x e c) lt (h.indexable x e c);
}
written_words t constants i w h lt = tt

-- STEPS.
on_word_keeps : (v : Option Value) (f : ℕ → Turn State) → Short v → ((w : ℕ) → w < 2 ^ 32 → Keeps (f w)) → Keeps (on_word v f)
on_word_keeps None f s h = tt
on_word_keeps (Some (IsTruth b)) f s h = tt
on_word_keeps (Some (IsWord w)) f s h = h w s

on_truth_keeps : (v : Option Value) (f : Bool → Turn State) → ((b : Bool) → Keeps (f b)) → Keeps (on_truth v f)
on_truth_keeps None f h = tt
on_truth_keeps (Some (IsTruth b)) f h = h b
on_truth_keeps (Some (IsWord w)) f h = tt

on_chain_keeps : (o : Option (List Link)) (f : List Link → Turn State) → Found o → ((k : List Link) → LinksOfWords k → Keeps (f k)) → Keeps (on_some o f)
on_chain_keeps None f s h = tt
on_chain_keeps (Some k) f s h = h k s

on_written_keeps : (scratch : ℕ → ℕ) (o : Option Registers) (f : Registers → Turn State) → Written scratch o
    → ((r : Registers) → HoldWords (words scratch r) → Keeps (f r)) → Keeps (on_some o f)
on_written_keeps scratch None f s h = tt
on_written_keeps scratch (Some r) f s h = h r s

within_by : (b : Bool) (x : Turn State) → Keeps x → Keeps (if b then x else wrong)
within_by true x h = h
within_by false x h = tt

choice_links : (b : Bool) (k l : List Link) → LinksOfWords k → LinksOfWords l → LinksOfWords (if b then k else l)
choice_links true k l h i = h
choice_links false k l h i = i

module _ (results : AreResults) (g : Spaces) (s : Setting) (given : AreGiven g s) where
  short : (t : Words) (e : Term) → HoldWords t → OfWords e → Short (value g s t e)
  short t e h o = value_short results g s t given h e o

  run_keeps : (x : Term) (k : List Link) (t : Words) (n : ℕ) → OfWords x → LinksOfWords k → HoldWords t → Keeps (run g s k t n x)
  run_keeps (term.Set m v) k t n o l h =
      on_word_keeps (value g s t v) _ (short t v h o) (λ w lt. record { chain = l; words = scratch_words t m w h lt })
  run_keeps (term.Write place at v) k t n o l h =
      let p = split (holds_no is_long at) (holds_no is_long v) o in
      on_word_keeps (value g s t at) _ (short t at h p.0) (λ i hi. on_word_keeps (value g s t v) _ (short t v h p.1) (λ w hw.
      within_by (nat_lt i (size_of g place)) _ (on_written_keeps t.scratch (with_word t.registers place i w) _ (written_words t place i w h hw)
      (λ r hr. record { chain = l; words = hr }))))
  run_keeps (term.Load m room at) k t n o l h =
      on_word_keeps (value g s t at) _ (short t at h o) (λ i hi. within_by (nat_lt i (s.extent room)) _
      (λ a lt. record { chain = l; words = scratch_words t m a h lt }))
  run_keeps (term.Store room at v) k t n o l h =
      let p = split (holds_no is_long at) (holds_no is_long v) o in
      on_word_keeps (value g s t at) _ (short t at h p.0) (λ i hi. on_word_keeps (value g s t v) _ (short t v h p.1) (λ w hw.
      within_by (nat_lt i (s.extent room)) _ (λ a lt. record { chain = l; words = h })))
  run_keeps (term.Atomic m room at kind x y) k t n o l h =
      let p = split (holds_no is_long at) (holds_no is_long x && holds_no is_long y) o in
      let q = split (holds_no is_long x) (holds_no is_long y) p.1 in
      on_word_keeps (value g s t at) _ (short t at h p.0) (λ i hi. on_word_keeps (value g s t x) _ (short t x h q.0) (λ u hu.
      on_word_keeps (value g s t y) _ (short t y h q.1) (λ w hw. within_by (nat_lt i (s.extent room)) _
      (λ a lt. record { chain = l; words = scratch_words t m a h lt }))))
  run_keeps (term.Sync threads scope classes) k t n o l h = λ a lt. record { chain = l; words = h }
  run_keeps (term.Guard b body) k t n o l h =
      let p = split (holds_no is_long b) (holds_no is_long body) o in
      on_truth_keeps (value g s t b) _ (λ c. record { chain = choice_links c (push body k) k (push_words body k p.1 l) l; words = h })
  run_keeps (term.If b x y) k t n o l h =
      let p = split (holds_no is_long b) (holds_no is_long x && holds_no is_long y) o in
      let q = split (holds_no is_long x) (holds_no is_long y) p.1 in
      on_truth_keeps (value g s t b) _ (λ c. record { chain = choice_links c (push x k) (push y k) (push_words x k q.0 l) (push_words y k q.1 l); words = h })
  run_keeps (term.Loop body) k t n o l h = record { chain = push_words body (Again body ∷ k) o (o, l); words = h }
  run_keeps (term.Switch on cases) k t n o l h =
      let p = split (holds_no is_long on) (holds_no is_long cases) o in
      on_word_keeps (value g s t on) _ (short t on h p.0) (λ w lt. record { chain = switched_words w cases k p.1 l; words = h })
  run_keeps (term.Case v next) k t n o l h = record { chain = push_words next k o l; words = h }
  run_keeps (term.Default next) k t n o l h = record { chain = push_words next k o l; words = h }
  run_keeps term.Break k t n o l h = on_chain_keeps (left k) _ (left_words k l) (λ c hc. record { chain = hc; words = h })
  run_keeps term.Continue k t n o l h = on_chain_keeps (renewed k) _ (renewed_words k l) (λ c hc. record { chain = hc; words = h })
  run_keeps (term.Then x y) k t n o l h =
      let p = split (holds_no is_long x) (holds_no is_long y) o in
      record { chain = push_words x (push y k) p.0 (push_words y k p.1 l); words = h }
  run_keeps term.Nothing k t n o l h = record { chain = l; words = h }
  run_keeps other k t n o l h = tt

  turn_keeps : (k : List Link) (t : Words) (n : ℕ) → LinksOfWords k → HoldWords t → Keeps (turn g s k t n)
  turn_keeps [] t n l h = tt
  turn_keeps (Run x ∷ k) t n l h = run_keeps x k t n l.0 l.1 h
  turn_keeps (Again body ∷ k) t n l h = record { chain = push_words body (Again body ∷ k) l.0 l; words = h }
  turn_keeps (Out ∷ k) t n l h = record { chain = l; words = h }

  pub step_keeps : (x : State) → IsOfWords x → Keeps (step g s x)
  step_keeps x h = turn_keeps x.chain x.words x.turns h.chain h.words
