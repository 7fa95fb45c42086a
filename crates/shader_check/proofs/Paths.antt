-- The instructions in front of a place, as statements that are done in the constructs around it.
use Rattle.std.proofs.Common.{◌≡◌, ℕ, zero, suc, ◌+◌, ◌<◌, ◌≤◌, List, [], ◌∷◌, ◌++◌, length, take, Bool, true, false, ◌||◌, if◌then◌else◌, Option, Some, None, refl, sym, ap, ◌∙◌, subst, arith, append_assoc}
use Rattle.std.specs.Prelude.{⊤, slice_get, is_some}
use Rattle.std.specs.List.{list_any}
use Rattle.std.proofs.lemmas.List.{append-nil}
use Rattle.std.proofs.lemmas.List.Folds.{list_any-append}
use Rattle.tpf_decode.specs.Profiles.{Base}
use Rattle.tpf_decode.specs.Opcodes.{meaning_of}
use Rattle.tpf_decode.specs.declared.meaning.Meaning.{Meaning}
use Rattle.tpf_decode.specs.declared.meaning.Meaning.TheVariants as meaning
use Rattle.tpf_program.specs.declared.instruction.Instruction.{Instruction}
use Rattle.tpf_program.specs.Ends.{has, means, is_if, is_loop, is_switch, is_loop_or_switch, is_opening, is_else}
use Rattle.tpf_program.specs.Nesting.{inner, is_label}
use Rattle.shader_check.specs.Nested.{first_of}
use Rattle.shader_check.specs.Statements.{Statement, Then, Label, flattened, labels, Where, outside_all, in_if, in_loop, in_switch, IsSound, same_label, AreDistinct, BeginsWithLabel}

-- the first body of an `if`, and its else
pub record Met : Type 0 where
  pub body : Statement
  pub middle : Instruction

-- what is done outside of all constructs; and in a construct that is open, behind its else if that is met
pub data Path : Type 0 where
  Top : (done : Statement) → Path
  In : (around : Path) (opening : Instruction) (met : Option Met) (done : Statement) → Path

abbrev pub part : Option Met → Statement → List Instruction
part None done = flattened done
part (Some m) done = flattened m.body ++ (m.middle ∷ flattened done)

abbrev pub front : Path → List Instruction
front (Top done) = flattened done
front (In around opening met done) = front around ++ (opening ∷ part met done)

abbrev pub places : Path → List ℕ
places (Top done) = []
places (In around opening met done) = length (front around) ∷ places around

abbrev pub within : Option Meaning → Where → Where
within (Some meaning.Loop) w = in_loop w
within (Some meaning.Switch) w = in_switch w
within other w = in_if w

abbrev pub where_at : Path → Where
where_at (Top done) = outside_all
where_at (In around opening met done) = within (meaning_of Base opening.code) (where_at around)

abbrev pub done_at : Path → Statement
done_at (Top done) = done
done_at (In around opening met done) = done

abbrev pub IsMet : Where → Instruction → Option Met → Type 0
IsMet w opening None = means Base is_opening opening ≡ true
IsMet w opening (Some m) = (means Base is_if opening ≡ true) × (means Base is_else m.middle ≡ true) × IsSound (in_if w) m.body

-- something is done, and it begins with a label
abbrev pub BeginsSome : List Instruction → Type 0
BeginsSome [] = ⊥
BeginsSome (i ∷ rest) = means Base is_label i ≡ true

abbrev pub IsReady : Path → Type 0
IsReady p = (where_at p).direct ≡ true → BeginsSome (flattened (done_at p))

pub record IsOpen (w : Where) (around : Path) (opening : Instruction) (met : Option Met) (done : Statement) : Type 0 where
  pub is_met : IsMet (where_at around) opening met
  pub few : (where_at around).depth < 64
  pub ready : IsReady around
  pub sound : IsSound w done
  pub begins : w.direct ≡ true → BeginsWithLabel (flattened done)
  pub distinct : w.direct ≡ true → AreDistinct (labels done)

abbrev pub IsSoundPath : Path → Type 0
IsSoundPath (Top done) = IsSound outside_all done
IsSoundPath (In around opening met done) = IsSoundPath around × IsOpen (within (meaning_of Base opening.code) (where_at around)) around opening met done

-- what is done has been seen in the list, directly in the construct
module _ (code : List Instruction) where
  pub data Seen (q n : ℕ) (i : Instruction) : Type 0 where
    SeenAt : (m : ℕ) → m < q → slice_get code m ≡ Some i → inner Base code m ≡ Some n → Seen q n i

  pub record AreSeen (q n : ℕ) (met : Option Met) (done : Statement) : Type 0 where
    pub middle : (m : Met) → met ≡ Some m → Seen q n m.middle
    pub marks : (k : ℕ) (i : Instruction) → slice_get (labels done) k ≡ Some i → Seen q n i

  abbrev pub IsSeenPath : ℕ → Path → Type 0
  IsSeenPath q (Top done) = ⊤
  IsSeenPath q (In around opening met done) = IsSeenPath q around × AreSeen q (length (front around)) met done

  seen_later : (q n : ℕ) (i : Instruction) → Seen q n i → Seen (q + 1) n i
  seen_later q n i (SeenAt m l e h) = SeenAt m (omega (arith, l)) e h

  pub path_later : (q : ℕ) (p : Path) → IsSeenPath q p → IsSeenPath (q + 1) p
  path_later q (Top done) h = tt
  path_later q (In around opening met done) h = (
    path_later q around h.0,
    record {
      middle = λ m e. seen_later q (length (front around)) m.middle (h.1.middle m e);
      marks = λ k i e. seen_later q (length (front around)) i (h.1.marks k i e);
    },
  )

  -- each opening stands where its construct begins
  pub seam : (xs : List Instruction) (i : Instruction) (ys : List Instruction) → slice_get (xs ++ (i ∷ ys)) (length xs) ≡ Some i
  seam [] i ys = refl
  seam (x ∷ xs) i ys = let z : length (x ∷ xs) ≡ suc (length xs) = omega arith in ap (slice_get ((x ∷ xs) ++ (i ∷ ys))) z ∙ seam xs i ys

  take_get : (xs : List Instruction) (q n : ℕ) (i : Instruction) → slice_get (take q xs) n ≡ Some i → slice_get xs n ≡ Some i
  take_get xs zero n i h = absurd (cc)
  take_get [] (suc q) n i h = h
  take_get (x ∷ xs) (suc q) zero i h = h
  take_get (x ∷ xs) (suc q) (suc n) i h = take_get xs q n i h

  pub opening_at : (q : ℕ) (around : Path) (opening : Instruction) (rest : List Instruction) → take q code ≡ front around ++ (opening ∷ rest) → slice_get code (length (front around)) ≡ Some opening
  opening_at q around opening rest h =
      take_get code q (length (front around)) opening (ap (λ l. slice_get l (length (front around))) h ∙ seam (front around) opening rest)

  -- the tests along the openings
  along : (sort : Meaning → Bool) (flag : Where → Bool) → flag outside_all ≡ false → ((m : Option Meaning) (w : Where) → flag (within m w) ≡ (has sort m || flag w))
      → (q : ℕ) (p : Path) (rest : List Instruction) → take q code ≡ front p ++ rest → is_some (first_of sort code (places p)) ≡ flag (where_at p)
  along sort flag z f q (Top done) rest h = sym z
  along sort flag z f q (In around opening met done) rest h =
      let k : take q code ≡ front around ++ (opening ∷ (part met done ++ rest)) = h ∙ append_assoc (front around) (opening ∷ part met done) rest in
      let e = opening_at q around opening (part met done ++ rest) k in
      ap (λ x. is_some (if has (means Base sort) x then Some (length (front around)) else first_of sort code (places around))) e
      ∙ (by_test (has sort (meaning_of Base opening.code)) (along sort flag z f q around (opening ∷ (part met done ++ rest)) k)
      ∙ sym (f (meaning_of Base opening.code) (where_at around)))
    where
      by_test : (b : Bool) → is_some (first_of sort code (places around)) ≡ flag (where_at around)
          → is_some (if b then Some (length (front around)) else first_of sort code (places around)) ≡ (b || flag (where_at around))
      by_test true k = refl
      by_test false k = k

  loop_flag : (m : Option Meaning) (w : Where) → (within m w).loops ≡ (has is_loop m || w.loops)
  loop_flag (Some meaning.Loop) w = refl
  loop_flag (Some meaning.Switch) w = refl
  loop_flag (Some m) w = refl
  loop_flag None w = refl

  leave_flag : (m : Option Meaning) (w : Where) → (within m w).leaves ≡ (has is_loop_or_switch m || w.leaves)
  leave_flag (Some meaning.Loop) w = refl
  leave_flag (Some meaning.Switch) w = refl
  leave_flag (Some m) w = refl
  leave_flag None w = refl

  pub in_loops : (q : ℕ) (p : Path) (rest : List Instruction) → take q code ≡ front p ++ rest → is_some (first_of is_loop code (places p)) ≡ (where_at p).loops
  in_loops q p rest h = along is_loop (λ w. w.loops) refl loop_flag q p rest h

  pub in_leaves : (q : ℕ) (p : Path) (rest : List Instruction) → take q code ≡ front p ++ rest → is_some (first_of is_loop_or_switch code (places p)) ≡ (where_at p).leaves
  in_leaves q p rest h = along is_loop_or_switch (λ w. w.leaves) refl leave_flag q p rest h

depth_within : (m : Option Meaning) (w : Where) → (within m w).depth ≡ w.depth + 1
depth_within (Some meaning.Loop) w = refl
depth_within (Some meaning.Switch) w = refl
depth_within (Some m) w = refl
depth_within None w = refl

pub depth_at : (p : Path) → length (places p) ≡ (where_at p).depth
depth_at (Top done) = refl
depth_at (In around opening met done) = omega (arith, depth_at around, depth_within (meaning_of Base opening.code) (where_at around))

pub depth_few : (p : Path) → IsSoundPath p → (where_at p).depth ≤ 64
depth_few (Top done) h = omega arith
depth_few (In around opening met done) h = omega (arith, depth_within (meaning_of Base opening.code) (where_at around), h.1.few)

pub direct_switch : (m : Option Meaning) (w : Where) → (within m w).direct ≡ has is_switch m
direct_switch (Some meaning.Loop) w = refl
direct_switch (Some meaning.Switch) w = refl
direct_switch (Some m) w = refl
direct_switch None w = refl

-- ONE MORE STATEMENT is done
abbrev pub push : Path → Statement → Path
push (Top done) s = Top (Then done s)
push (In around opening met done) s = In around opening met (Then done s)

pub push_front : (p : Path) (s : Statement) → front (push p s) ≡ front p ++ flattened s
push_front (Top done) s = refl
push_front (In around opening None done) s = sym (append_assoc (front around) (opening ∷ flattened done) (flattened s))
push_front (In around opening (Some m) done) s =
    ap (λ l. front around ++ (opening ∷ l)) (sym (append_assoc (flattened m.body) (m.middle ∷ flattened done) (flattened s)))
    ∙ sym (append_assoc (front around) (opening ∷ (flattened m.body ++ (m.middle ∷ flattened done))) (flattened s))

pub push_places : (p : Path) (s : Statement) → places (push p s) ≡ places p
push_places (Top done) s = refl
push_places (In around opening met done) s = refl

begins_more : (xs ys : List Instruction) → BeginsSome xs → BeginsWithLabel (xs ++ ys)
begins_more [] ys h = absurd h
begins_more (x ∷ xs) ys h = h

begins_label : (xs : List Instruction) (i : Instruction) → BeginsWithLabel xs → means Base is_label i ≡ true → BeginsWithLabel (xs ++ i ∷ [])
begins_label [] i h k = k
begins_label (x ∷ xs) i h k = h

distinct_more : (xs : List Instruction) (i : Instruction) → AreDistinct xs → ((k : ℕ) (j : Instruction) → slice_get xs k ≡ Some j → same_label j i ≡ false) → AreDistinct (xs ++ i ∷ [])
distinct_more [] i h f = (refl, tt)
distinct_more (x ∷ xs) i h f =
    (list_any-append (same_label x) xs (i ∷ []) ∙ (ap (λ b. b || list_any (same_label x) (i ∷ [])) h.0 ∙ ap (λ b. b || false) (f 0 x refl)), distinct_more xs i h.1 (λ k j e. f (suc k) j e))

-- a statement without labels, where it is ready for one
pub push_sound : (p : Path) (s : Statement) → IsSoundPath p → IsReady p → IsSound (where_at p) s → labels s ≡ [] → IsSoundPath (push p s)
push_sound (Top done) s h r k l = (h, k)
push_sound (In around opening met done) s h r k l = (
  h.0,
  record {
    is_met = h.1.is_met;
    few = h.1.few;
    ready = h.1.ready;
    sound = (h.1.sound, k);
    begins = λ d. begins_more (flattened done) (flattened s) (r d);
    distinct = λ d. subst AreDistinct (sym (ap (λ x. labels done ++ x) l ∙ append-nil (labels done))) (h.1.distinct d);
  },
)

pub push_seen : (code : List Instruction) (q : ℕ) (p : Path) (s : Statement) → IsSeenPath code q p → labels s ≡ [] → IsSeenPath code q (push p s)
push_seen code q (Top done) s h l = tt
push_seen code q (In around opening met done) s h l = (
  h.0,
  record {
    middle = h.1.middle;
    marks = λ k i e. h.1.marks k i (sym (ap (λ x. slice_get x k) (ap (λ x. labels done ++ x) l ∙ append-nil (labels done))) ∙ e);
  },
)

-- a label
pub mark_sound : (around : Path) (opening : Instruction) (met : Option Met) (done : Statement) (i : Instruction) → IsSoundPath (In around opening met done)
    → (where_at (In around opening met done)).direct ≡ true → means Base is_label i ≡ true → ((k : ℕ) (j : Instruction) → slice_get (labels done) k ≡ Some j → same_label j i ≡ false)
    → IsSoundPath (push (In around opening met done) (Label i))
mark_sound around opening met done i h d k f = (
  h.0,
  record {
    is_met = h.1.is_met;
    few = h.1.few;
    ready = h.1.ready;
    sound = (h.1.sound, (k, d));
    begins = λ d. begins_label (flattened done) i (h.1.begins d) k;
    distinct = λ d. distinct_more (labels done) i (h.1.distinct d) f;
  },
)

last_get : (xs : List Instruction) (i j : Instruction) (k : ℕ) → slice_get (xs ++ i ∷ []) k ≡ Some j → ((slice_get xs k ≡ Some j) → ⊤) × ((P : Instruction → Type 0) → P i → ((k : ℕ) (j : Instruction) → slice_get xs k ≡ Some j → P j) → P j)
last_get [] i j zero h = (λ x. tt, λ P p f. subst P (some_same h) p)
  where
    some_same : Some i ≡ Some j → i ≡ j
    some_same h = cc
last_get [] i j (suc k) h = absurd (cc)
last_get (x ∷ xs) i j zero h = (λ x. tt, λ P p f. f zero j h)
last_get (x ∷ xs) i j (suc k) h = (λ x. tt, λ P p f. (last_get xs i j k h).1 P p (λ m y e. f (suc m) y e))

pub mark_seen : (code : List Instruction) (q : ℕ) (around : Path) (opening : Instruction) (met : Option Met) (done : Statement) (i : Instruction)
    → IsSeenPath code q (In around opening met done) → slice_get code q ≡ Some i → inner Base code q ≡ Some (length (front around))
    → IsSeenPath code (q + 1) (push (In around opening met done) (Label i))
mark_seen code q around opening met done i h at n =
    let l = path_later code q (In around opening met done) h in (
      l.0,
      record {
        middle = l.1.middle;
        marks = λ k j e. (last_get (labels done) i j k e).1 (Seen code (q + 1) (length (front around))) (SeenAt q (omega arith) at n) l.1.marks;
      },
    )
