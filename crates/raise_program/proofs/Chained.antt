-- Where the lane of the list goes on and where the lane of the tree goes on: the chains at the spots.
use Rattle.std.proofs.Common.{◌≡◌, ℕ, Bool, true, false, ◌+◌, List, [], ◌∷◌, ◌++◌, Option, Some, None, refl, sym, ap, ◌∙◌, arith}
use Rattle.std.specs.Prelude.{nat_eq, if◌then◌else◌, slice_get, ⊤, unwrap_or}
use Rattle.std.proofs.lemmas.Bool.Decides.{nat_tests}
use Rattle.tpf_decode.specs.Profiles.{Base}
use Rattle.tpf_decode.specs.Opcodes.{meaning_of}
use Rattle.tpf_decode.specs.declared.meaning.Meaning.{Meaning}
use Rattle.tpf_decode.specs.declared.meaning.Meaning.TheVariants as meaning
use Rattle.tpf_program.specs.declared.instruction.Instruction.{Instruction}
use Rattle.tpf_program.specs.Ends.{has, means, is_case, is_default, is_case_of}
use Rattle.tpf_program.specs.Nesting.{is_label}
use Rattle.shader_tree.specs.Chains.{Link, Again, Out, push, behind_mark, switched, left, renewed, or_else}
use Rattle.shader_tree.specs.Terms.{Term}
use Rattle.shader_tree.specs.Terms as term
use Rattle.shader_check.specs.Statements.{Statement, Nothing, Then, Plain, If, IfElse, Loop, Switch, Label, Where, flattened, stands as stands_there}
use Rattle.raise_program.specs.Spots.{Frame, Before, Behind, InIf, InThen, InElse, InLoop, InSwitch, place_in, where_in}
use Rattle.raise_program.specs.SpotLane.{Spot, AtBegin, AtEnd, moved, left_spot, renewed_spot, or_spot, label_spot, switched_spot}
use Rattle.raise_program.specs.Raised.{Parts, AreUnmarked, goes_on, alone, raised, links, chain_of, chain_of_any}
use Rattle.raise_program.proofs.Places.{get_at}
use Rattle.raise_program.proofs.Frames.{Stood, stands}

left_push : (t : Term) (k : List Link) → left (push t k) ≡ left k
left_push (term.Then a b) k = left_push a (push b k) ∙ left_push b k
left_push t k = refl

renewed_push : (t : Term) (k : List Link) → renewed (push t k) ≡ renewed k
renewed_push (term.Then a b) k = renewed_push a (push b k) ∙ renewed_push b k
renewed_push t k = refl

same : (x y : Spot) → Some x ≡ Some y → x ≡ y
same x y h = cc

nat_eq_turned : (n m : ℕ) → nat_eq n m ≡ nat_eq m n
nat_eq_turned n m = by_test (nat_eq n m) refl (nat_eq m n) refl
  where
    by_test : (a : Bool) → nat_eq n m ≡ a → (b : Bool) → nat_eq m n ≡ b → nat_eq n m ≡ nat_eq m n
    by_test true h true k = h ∙ sym k
    by_test false h false k = h ∙ sym k
    by_test true h false k = absurd (grind (arith, nat_tests, h, k))
    by_test false h true k = absurd (grind (arith, nat_tests, h, k))

module _ (parts : Parts) (last : List Link) where
  abbrev Keeps : Spot → Option Spot → Type 0
  Keeps x None = ⊤
  Keeps x (Some y) = chain_of parts last y ≡ chain_of parts last x

  kept : (x y : Spot) (o : Option Spot) → Keeps x o → o ≡ Some y → chain_of parts last y ≡ chain_of parts last x
  kept x y None h e = absurd (cc)
  kept x y (Some z) h e = let k : z ≡ y = same z y e in ap (chain_of parts last) (sym k) ∙ h

  keeps : (x : Spot) → Keeps x (moved x)
  keeps (AtBegin frames Nothing) = refl
  keeps (AtBegin frames (Then first next)) = refl
  keeps (AtBegin frames (Plain i)) = tt
  keeps (AtBegin frames (If opening body end)) = tt
  keeps (AtBegin frames (IfElse opening body middle other end)) = tt
  keeps (AtBegin frames (Loop opening body end)) = tt
  keeps (AtBegin frames (Switch opening body end)) = tt
  keeps (AtBegin frames (Label i)) = tt
  keeps (AtEnd [] s) = tt
  keeps (AtEnd (Before next ∷ frames) s) = refl
  keeps (AtEnd (Behind first ∷ frames) s) = refl
  keeps (AtEnd (InIf opening end ∷ frames) s) = tt
  keeps (AtEnd (InThen opening middle other end ∷ frames) s) = tt
  keeps (AtEnd (InElse opening body middle end ∷ frames) s) = tt
  keeps (AtEnd (InLoop opening end ∷ frames) s) = tt
  keeps (AtEnd (InSwitch opening end ∷ frames) s) = tt

  -- a move keeps what is still to be run
  pub move_chained : (x y : Spot) → moved x ≡ Some y → chain_of parts last y ≡ chain_of parts last x
  move_chained x y h = kept x y (moved x) (keeps x) h

  -- a break, where it leads somewhere
  pub left_chained : (frames : List Frame) (s : Statement) (y : Spot) → left_spot frames s ≡ Some y → left (links parts last frames s) ≡ Some
      (chain_of parts last y)
  left_chained [] s y h = absurd (cc)
  left_chained (Before next ∷ frames) s y h = left_push (raised parts next) (links parts last frames (Then s next)) ∙ left_chained frames
      (Then s next) y h
  left_chained (Behind first ∷ frames) s y h = left_chained frames (Then first s) y h
  left_chained (InIf opening end ∷ frames) s y h = left_chained frames (If opening s end) y h
  left_chained (InThen opening middle other end ∷ frames) s y h = left_chained frames (IfElse opening s middle other end) y h
  left_chained (InElse opening body middle end ∷ frames) s y h = left_chained frames (IfElse opening body middle s end) y h
  left_chained (InLoop opening end ∷ frames) s y h = ap (λ y. Some (chain_of parts last y)) (same (AtEnd frames (Loop opening s end)) y h)
  left_chained (InSwitch opening end ∷ frames) s y h = ap (λ y. Some (chain_of parts last y)) (same (AtEnd frames (Switch opening s end)) y h)

  -- a continue, where it leads somewhere: to the end of the loop's body, which is begun anew
  pub record Renews (frames : List Frame) (s : Statement) (y : Spot) : Type 0 where
    pub body : Term
    pub k : List Link
    pub found : renewed (links parts last frames s) ≡ Some (Again body ∷ k)
    pub anew : chain_of parts last y ≡ push body (Again body ∷ k)

  pub renewed_chained : (frames : List Frame) (s : Statement) (y : Spot) → renewed_spot frames s ≡ Some y → Renews frames s y
  renewed_chained [] s y h = absurd (cc)
  renewed_chained (Before next ∷ frames) s y h =
      let r = renewed_chained frames (Then s next) y h in
      record { body = r.body; k = r.k; found = renewed_push (raised parts next) (links parts last frames (Then s next)) ∙ r.found; anew = r.anew }
  renewed_chained (Behind first ∷ frames) s y h =
      let r = renewed_chained frames (Then first s) y h in record { body = r.body; k = r.k; found = r.found; anew = r.anew }
  renewed_chained (InIf opening end ∷ frames) s y h =
      let r = renewed_chained frames (If opening s end) y h in record { body = r.body; k = r.k; found = r.found; anew = r.anew }
  renewed_chained (InThen opening middle other end ∷ frames) s y h =
      let r = renewed_chained frames (IfElse opening s middle other end) y h in record { body = r.body; k = r.k; found = r.found; anew = r.anew }
  renewed_chained (InElse opening body middle end ∷ frames) s y h =
      let r = renewed_chained frames (IfElse opening body middle s end) y h in record { body = r.body; k = r.k; found = r.found; anew = r.anew }
  renewed_chained (InLoop opening end ∷ frames) s y h = record {
    body = raised parts s;
    k = links parts last frames (Loop opening s end);
    found = refl;
    anew = ap (chain_of parts last) (sym (same (AtBegin (InLoop opening end ∷ frames) s) y h));
  }
  renewed_chained (InSwitch opening end ∷ frames) s y h =
      let r = renewed_chained frames (Switch opening s end) y h in record { body = r.body; k = r.k; found = r.found; anew = r.anew }

  -- a switch
  mark_or : (a b : Option Spot) (c d : Option (List Link)) → c ≡ chain_of_any parts last a → d ≡ chain_of_any parts last b
      → or_else c d ≡ chain_of_any parts last (or_spot a b)
  mark_or None b c d h k = ap (λ c. or_else c d) h ∙ k
  mark_or (Some x) b c d h k = ap (λ c. or_else c d) h

  -- the labels that a test takes are those of a mark
  abbrev IsMark : (Instruction → Bool) → Option ℕ → Type 0
  IsMark test mark =
      (i : Instruction) (k : List Link) → means Base is_label i ≡ true → behind_mark mark (raised parts (Label i)) k ≡
      (if test i then Some k else None)

  default_mark : IsMark (means Base is_default) None
  default_mark i k h = by_test (means Base is_default i)
    where
      by_test : (b : Bool) → behind_mark None (if b then term.Default term.Nothing else term.Case i.o0.x term.Nothing) k ≡
          (if b then Some k else None)
      by_test true = refl
      by_test false = refl

  case_mark : (w : ℕ) → IsMark (is_case_of Base w) (Some w)
  case_mark w i k h = by_meaning (meaning_of Base i.code) h
    where
      by_meaning : (m : Option Meaning) → has is_label m ≡ true
          → behind_mark (Some w) (if has is_default m then term.Default term.Nothing else term.Case i.o0.x term.Nothing) k ≡
          (if has (is_case w i.o0.x) m then Some k else None)
      by_meaning None h = absurd (cc)
      by_meaning (Some meaning.Case) h = ap (λ b. if b then Some k else None) (nat_eq_turned w i.o0.x)
      by_meaning (Some meaning.Default) h = refl
      by_meaning (Some m) h = absurd (cc)

  module _ (code : List Instruction) (u : AreUnmarked code parts) where
    first_at : (frames : List Frame) (s : Statement) (i : Instruction) (rest : List Instruction) → Stood code frames s → flattened s ≡ i ∷ rest
        → slice_get code (place_in frames + 0) ≡ Some i
    first_at frames s i rest h e = get_at code (place_in frames) (flattened s) 0 i (stands code frames s h).here (ap (λ l. slice_get l 0) e)

    front_unmarked : (frames : List Frame) (s : Statement) (i : Instruction) (rest : List Instruction) (mark : Option ℕ) (k : List Link)
        → Stood code frames s → flattened s ≡ i ∷ rest → behind_mark mark (parts.front i) k ≡ None
    front_unmarked frames s i rest mark k h e = u.front (place_in frames + 0) i (first_at frames s i rest h e) mark k

    alone_unmarked : (n : ℕ) (i : Instruction) → slice_get code n ≡ Some i → (w : Where) (m : Option Meaning) → meaning_of Base i.code ≡ m
        → stands_there w m ≡ true → (mark : Option ℕ) (k : List Link) → behind_mark mark (alone parts m i) k ≡ None
    alone_unmarked n i at w None e h mark k = absurd (cc)
    alone_unmarked n i at w (Some meaning.Break) e h mark k = refl
    alone_unmarked n i at w (Some meaning.BreakIf) e h mark k =
        ap (λ o. or_else o None) (u.front n i at mark (push (term.Guard (parts.truth i) term.Break) k))
    alone_unmarked n i at w (Some meaning.Continue) e h mark k = refl
    alone_unmarked n i at w (Some meaning.ContinueIf) e h mark k =
        ap (λ o. or_else o None) (u.front n i at mark (push (term.Guard (parts.truth i) term.Continue) k))
    alone_unmarked n i at w (Some meaning.Return) e h mark k = refl
    alone_unmarked n i at w (Some meaning.ReturnIf) e h mark k =
        ap (λ o. or_else o None) (u.front n i at mark (push (term.Guard (parts.truth i) term.Return) k))
    alone_unmarked n i at w (Some meaning.If) e h mark k = absurd (cc)
    alone_unmarked n i at w (Some meaning.Else) e h mark k = absurd (cc)
    alone_unmarked n i at w (Some meaning.EndIf) e h mark k = absurd (cc)
    alone_unmarked n i at w (Some meaning.Loop) e h mark k = absurd (cc)
    alone_unmarked n i at w (Some meaning.EndLoop) e h mark k = absurd (cc)
    alone_unmarked n i at w (Some meaning.Switch) e h mark k = absurd (cc)
    alone_unmarked n i at w (Some meaning.Case) e h mark k = absurd (cc)
    alone_unmarked n i at w (Some meaning.Default) e h mark k = absurd (cc)
    alone_unmarked n i at w (Some meaning.EndSwitch) e h mark k = absurd (cc)
    alone_unmarked n i at w (Some m) e h mark k = u.plain n i at (ap goes_on e) mark k

    label_chained : (test : Instruction → Bool) (mark : Option ℕ) → IsMark test mark → (frames : List Frame) (s : Statement) → Stood code frames s
        → behind_mark mark (raised parts s) (links parts last frames s) ≡ chain_of_any parts last (label_spot test frames s)
    label_chained test mark m frames Nothing h = refl
    label_chained test mark m frames (Then first next) h =
        mark_or (label_spot test (Before next ∷ frames) first) (label_spot test (Behind first ∷ frames) next)
        (behind_mark mark (raised parts first) (push (raised parts next) (links parts last frames (Then first next))))
        (behind_mark mark (raised parts next) (links parts last frames (Then first next)))
        (label_chained test mark m (Before next ∷ frames) first h) (label_chained test mark m (Behind first ∷ frames) next h)
    label_chained test mark m frames (Plain i) h =
        alone_unmarked (place_in frames + 0) i (first_at frames (Plain i) i [] h refl) (where_in frames) (meaning_of Base i.code) refl
        (stands code frames (Plain i) h).sound mark (links parts last frames (Plain i))
    label_chained test mark m frames (If opening body end) h =
        ap (λ o. or_else o None)
        (front_unmarked frames (If opening body end) opening (flattened body ++ end ∷ []) mark
        (push (term.Guard (parts.truth opening) (raised parts body)) (links parts last frames (If opening body end))) h refl)
    label_chained test mark m frames (IfElse opening body middle other end) h =
        ap (λ o. or_else o None)
        (front_unmarked frames (IfElse opening body middle other end) opening (flattened body ++ middle ∷ (flattened other ++ end ∷ [])) mark
        (push (term.If (parts.truth opening) (raised parts body) (raised parts other)) (links parts last frames (IfElse opening body middle other end)))
        h refl)
    label_chained test mark m frames (Loop opening body end) h = refl
    label_chained test mark m frames (Switch opening body end) h =
        ap (λ o. or_else o None)
        (front_unmarked frames (Switch opening body end) opening (flattened body ++ end ∷ []) mark
        (push (term.Switch (parts.word opening) (raised parts body)) (links parts last frames (Switch opening body end))) h refl)
    label_chained test mark m frames (Label i) h = m i (links parts last frames (Label i)) (stands code frames (Label i) h).sound.0 ∙ by_test (test i)
      where
        by_test : (b : Bool) → (if b then Some (links parts last frames (Label i)) else None) ≡ chain_of_any parts last
            (if b then Some (AtEnd frames (Label i)) else None)
        by_test true = refl
        by_test false = refl

    pub switch_chained : (w : ℕ) (frames : List Frame) (opening : Instruction) (body : Statement) (end : Instruction)
        → Stood code frames (Switch opening body end)
        → Some (switched w (raised parts body) (links parts last frames (Switch opening body end))) ≡ chain_of_any parts last
        (switched_spot w frames opening body end)
    switch_chained w frames opening body end h =
        let f = InSwitch opening end ∷ frames in
        let k = links parts last frames (Switch opening body end) in
        let c = behind_mark (Some w) (raised parts body) (Out ∷ k) in
        let d = behind_mark None (raised parts body) (Out ∷ k) in
        let rest = Some (AtEnd frames (Switch opening body end)) in
        unwrapped c d k
        ∙ mark_or (label_spot (is_case_of Base w) f body) (or_spot (label_spot (means Base is_default) f body) rest) c (or_else d (Some k))
        (label_chained (is_case_of Base w) (Some w) (case_mark w) f body h)
        (mark_or (label_spot (means Base is_default) f body) rest d (Some k) (label_chained (means Base is_default) None default_mark f body h) refl)
      where
        unwrapped : (c d : Option (List Link)) (k : List Link) → Some (unwrap_or (or_else c d) k) ≡ or_else c (or_else d (Some k))
        unwrapped None None k = refl
        unwrapped None (Some x) k = refl
        unwrapped (Some x) d k = refl
