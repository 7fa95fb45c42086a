-- The value of an expression depends on what it reads alone.
use Rattle.std.proofs.Common.{◌≡◌, ℕ, List, [], ◌∷◌, ◌++◌, refl, ap}
use mathlib.Core.Path.{fun_ext}
use Rattle.word_base.specs.declared.event.Room.{Room}
use Rattle.tpf_decode.specs.declared.argument.Kind.{Kind}
use Rattle.shader_tree.specs.declared.node.Space.{Space}
use Rattle.shader_tree.specs.Reads.{Sight, SameOf, SameFor}
use Rattle.shader_tree.specs.Terms.{Term}
use Rattle.shader_tree.specs.Terms as term
use Rattle.shader_tree.specs.Values.{word, for_word, value}
use Rattle.shader_tree.specs.Walks.{Each, scratch_in, spaces_in, threads_in, rooms_in}

each_left : {X : Type 0} (P : X → Type 0) (xs ys : List X) → Each P (xs ++ ys) → Each P xs
each_left P [] ys h = tt
each_left P (x ∷ xs) ys h = (h.0, each_left P xs ys h.1)

each_right : {X : Type 0} (P : X → Type 0) (xs ys : List X) → Each P (xs ++ ys) → Each P ys
each_right P [] ys h = h
each_right P (x ∷ xs) ys h = each_right P xs ys h.1

module _ (a b : Sight) where
  on_left : (n m : List ℕ) (s z : List Space) (k l : List Kind) (r q : List Room) → SameOf a b (n ++ m) (s ++ z) (k ++ l) (r ++ q) → SameOf a b n s k r
  on_left n m s z k l r q h = record {
    scratch = each_left _ n m h.scratch;
    spaces = each_left _ s z h.spaces;
    threads = each_left _ k l h.threads;
    rooms = each_left _ r q h.rooms;
  }

  on_right : (n m : List ℕ) (s z : List Space) (k l : List Kind) (r q : List Room) → SameOf a b (n ++ m) (s ++ z) (k ++ l) (r ++ q) → SameOf a b m z l q
  on_right n m s z k l r q h = record {
    scratch = each_right _ n m h.scratch;
    spaces = each_right _ s z h.spaces;
    threads = each_right _ k l h.threads;
    rooms = each_right _ r q h.rooms;
  }

  -- what two terms name
  abbrev Both : Term → Term → Type 0
  Both x y = SameOf a b (scratch_in x ++ scratch_in y) (spaces_in x ++ spaces_in y) (threads_in x ++ threads_in y) (rooms_in x ++ rooms_in y)

  first : (x y : Term) → Both x y → SameFor a b x
  first x y h = on_left (scratch_in x) (scratch_in y) (spaces_in x) (spaces_in y) (threads_in x) (threads_in y) (rooms_in x) (rooms_in y) h

  second : (x y : Term) → Both x y → SameFor a b y
  second x y h = on_right (scratch_in x) (scratch_in y) (spaces_in x) (spaces_in y) (threads_in x) (threads_in y) (rooms_in x) (rooms_in y) h

  -- what follows the first of several terms
  abbrev After : Term → List ℕ → List Space → List Kind → List Room → Type 0
  After x n s k r = SameOf a b (scratch_in x ++ n) (spaces_in x ++ s) (threads_in x ++ k) (rooms_in x ++ r)

  head : (x : Term) (n : List ℕ) (s : List Space) (k : List Kind) (r : List Room) → After x n s k r → SameFor a b x
  head x n s k r h = on_left (scratch_in x) n (spaces_in x) s (threads_in x) k (rooms_in x) r h

  tail : (x : Term) (n : List ℕ) (s : List Space) (k : List Kind) (r : List Room) → After x n s k r → SameOf a b n s k r
  tail x n s k r h = on_right (scratch_in x) n (spaces_in x) s (threads_in x) k (rooms_in x) r h

  abbrev Same : Term → Type 0
  Same e = value a.spaces a.setting a.words e ≡ value b.spaces b.setting b.words e

  pub values_alike : (e : Term) → SameFor a b e → Same e
  values_alike (term.Word w) h = refl
  values_alike (term.Scratch n) h = ap word h.scratch.0
  values_alike (term.Thread kind c) h = h.threads.0 c
  values_alike (term.Read space at) h =
      let x = values_alike at (record { scratch = h.scratch; spaces = h.spaces.1; threads = h.threads; rooms = h.rooms }) in
      let same = h.spaces.0 in
      rw (x) (ap (for_word (value b.spaces b.setting b.words at)) (fun_ext (λ i. rw (same.size, same.word i) refl)))
  values_alike (term.Length room) h = ap word h.rooms.0
  values_alike (term.One op x) h = rw (values_alike x h) refl
  values_alike (term.Two op x y) h = rw (values_alike x (first x y h), values_alike y (second x y h)) refl
  values_alike (term.Three op x y z) h =
      let rest : Both y z = tail x _ _ _ _ h in
      rw (values_alike x (head x _ _ _ _ h), values_alike y (first y z rest), values_alike z (second y z rest)) refl
  values_alike (term.Insert w o x y) h =
      let more = tail w _ _ _ _ h in
      let rest : Both x y = tail o _ _ _ _ more in
      rw (values_alike w (head w _ _ _ _ h), values_alike o (head o _ _ _ _ more), values_alike x (first x y rest), values_alike y (second x y rest)) refl
  values_alike (term.First op x y) h = rw (values_alike x (first x y h), values_alike y (second x y h)) refl
  values_alike (term.Second op x y) h = rw (values_alike x (first x y h), values_alike y (second x y h)) refl
  values_alike (term.Quotient x by) h = rw (values_alike x h) refl
  values_alike (term.Product x by) h = rw (values_alike x h) refl
  values_alike (term.Pick x y z) h =
      let rest : Both y z = tail x _ _ _ _ h in
      rw (values_alike x (head x _ _ _ _ h), values_alike y (first y z rest), values_alike z (second y z rest)) refl
  values_alike (term.Compare how x y) h = rw (values_alike x (first x y h), values_alike y (second x y h)) refl
  values_alike (term.Both x y) h = rw (values_alike x (first x y h), values_alike y (second x y h)) refl
  values_alike other h = refl
