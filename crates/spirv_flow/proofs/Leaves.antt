-- The step of a statement that is one silent step or event of its own does not depend on the chain behind it.
use Rattle.std.proofs.Common.{◌≡◌, ℕ, List, [], Option, Some, None, Bool, true, false, refl}
use Rattle.std.specs.Prelude.{nat_lt, cond}
use Rattle.word_base.specs.Lanes.{Turn, Silent, Asks, Ends, Wrong}
use Rattle.word_base.specs.Registers.{Registers}
use Rattle.word_base.specs.Settings.{Setting}
use Rattle.shader_tree.specs.Chains.{Link}
use Rattle.shader_tree.specs.Terms.{Term}
use Rattle.shader_tree.specs.Terms as term
use Rattle.shader_tree.specs.Values.{Spaces, Words, Value, IsWord, IsTruth, size_of, value}
use Rattle.shader_tree.specs.Lane as tree
use Rattle.shader_tree.specs.Lane.{State, state, on_word, on_some, within, with_word}

abbrev pub rechained : List Link → ℕ → Turn State → Turn State
rechained k n (Silent t) = Silent (state k t.words n)
rechained k n (Asks e after) = Asks e (λ a. state k (after a).words n)
rechained k n Ends = Ends
rechained k n (Wrong place rule) = Wrong place rule

on_word_alike : (k : List Link) (n : ℕ) (o : Option Value) (f h : ℕ → Turn State) → ((w : ℕ) → rechained k n (f w) ≡ h w)
    → rechained k n (on_word o f) ≡ on_word o h
on_word_alike k n None f h e = refl
on_word_alike k n (Some (IsWord w)) f h e = e w
on_word_alike k n (Some (IsTruth b)) f h e = refl

on_some_alike : (k : List Link) (n : ℕ) (o : Option Registers) (f h : Registers → Turn State) → ((w : Registers) → rechained k n (f w) ≡ h w)
    → rechained k n (on_some o f) ≡ on_some o h
on_some_alike k n None f h e = refl
on_some_alike k n (Some w) f h e = e w

within_alike : (k : List Link) (n : ℕ) (b : Bool) (x y : Turn State) → rechained k n x ≡ y → rechained k n (cond b x (Wrong 0 0)) ≡ cond b y
    (Wrong 0 0)
within_alike k n true x y e = e
within_alike k n false x y e = refl

abbrev pub IsOneStep : Term → Type 0
IsOneStep (term.Set n v) = Unit {0}
IsOneStep (term.Write space at v) = Unit {0}
IsOneStep (term.Load n room at) = Unit {0}
IsOneStep (term.Store room at v) = Unit {0}
IsOneStep (term.Atomic n room at kind a b) = Unit {0}
IsOneStep (term.Sync threads scope classes) = Unit {0}
IsOneStep x = ⊥

module _ (g : Spaces) (s : Setting) (k : List Link) (n : ℕ) (t : Words) where
  abbrev of : Term → Option Value
  of e = value g s t e

  pub set_alike : (m : ℕ) (v : Term) → rechained k n (tree.run g s [] t 0 (term.Set m v)) ≡ tree.run g s k t n (term.Set m v)
  set_alike m v = on_word_alike k n (of v) _ _ (λ w. refl)

  pub write_alike : (space : _) (at v : Term) → rechained k n (tree.run g s [] t 0 (term.Write space at v)) ≡ tree.run g s k t n
      (term.Write space at v)
  write_alike space at v = on_word_alike k n (of at) _ _ (λ i. on_word_alike k n (of v) _ _ (λ w.
      within_alike k n (nat_lt i (size_of g space)) _ _ (on_some_alike k n (with_word t.registers space i w) _ _ (λ r. refl))))

  pub load_alike : (m : ℕ) (room : _) (at : Term) → rechained k n (tree.run g s [] t 0 (term.Load m room at)) ≡ tree.run g s k t n
      (term.Load m room at)
  load_alike m room at = on_word_alike k n (of at) _ _ (λ i. within_alike k n (nat_lt i (s.extent room)) _ _ refl)

  pub store_alike : (room : _) (at v : Term) → rechained k n (tree.run g s [] t 0 (term.Store room at v)) ≡ tree.run g s k t n (term.Store room at v)
  store_alike room at v = on_word_alike k n (of at) _ _
      (λ i. on_word_alike k n (of v) _ _ (λ w. within_alike k n (nat_lt i (s.extent room)) _ _ refl))

  pub atomic_alike : (m : ℕ) (room : _) (at : Term) (kind : _) (a b : Term)
      → rechained k n (tree.run g s [] t 0 (term.Atomic m room at kind a b)) ≡ tree.run g s k t n (term.Atomic m room at kind a b)
  atomic_alike m room at kind a b = on_word_alike k n (of at) _ _ (λ i. on_word_alike k n (of a) _ _ (λ x. on_word_alike k n (of b) _ _ (λ y.
      within_alike k n (nat_lt i (s.extent room)) _ _ refl)))

  pub sync_alike : (threads : Bool) (scope : _) (classes : _)
      → rechained k n (tree.run g s [] t 0 (term.Sync threads scope classes)) ≡ tree.run g s k t n (term.Sync threads scope classes)
  sync_alike threads scope classes = refl
