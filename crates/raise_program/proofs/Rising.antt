-- The number of times that a tree's lane began a loop anew never falls.
use Rattle.std.proofs.Common.{◌≡◌, ℕ, zero, suc, ◌≤◌, Bool, true, false, List, [], ◌∷◌, Option, Some, None, subst, arith}
use Rattle.std.specs.Prelude.{nat_lt, if◌then◌else◌, ⊤}
use Rattle.word_base.specs.declared.event.Event.{Event}
use Rattle.word_base.specs.Lanes.{Turn, Silent, Asks, Goes}
use Rattle.word_base.specs.Settings.{Setting}
use Rattle.shader_tree.specs.Chains.{Link, Run, Again, Out, left, renewed}
use Rattle.shader_tree.specs.Lane.{State, state, on_some, on_truth, on_word, run, step, turn, with_scratch, with_word, within, wrong}
use Rattle.shader_tree.specs.Plans.{Plans}
use Rattle.shader_tree.specs.Terms.{Term}
use Rattle.shader_tree.specs.Terms as term
use Rattle.shader_tree.specs.Values.{IsTruth, IsWord, Spaces, Value, Words, value, size_of}

abbrev pub Rises : ℕ → Turn State → Type 0
Rises n (Silent to) = n ≤ to.turns
Rises n (Asks e after) = (a : ℕ) → n ≤ (after a).turns
Rises n other = ⊤

by_word : (n : ℕ) (v : Option Value) (f : ℕ → Turn State) → ((w : ℕ) → Rises n (f w)) → Rises n (on_word v f)
by_word n None f h = tt
by_word n (Some (IsWord w)) f h = h w
by_word n (Some (IsTruth b)) f h = tt

by_truth : (n : ℕ) (v : Option Value) (f : Bool → Turn State) → ((b : Bool) → Rises n (f b)) → Rises n (on_truth v f)
by_truth n None f h = tt
by_truth n (Some (IsWord w)) f h = tt
by_truth n (Some (IsTruth b)) f h = h b

by_some : {X : Type 0} (n : ℕ) (o : Option X) (f : X → Turn State) → ((x : X) → Rises n (f x)) → Rises n (on_some o f)
by_some n None f h = tt
by_some n (Some x) f h = h x

either : (n : ℕ) (b : Bool) (x y : Turn State) → Rises n x → Rises n y → Rises n (if b then x else y)
either n true x y h k = h
either n false x y h k = k

inside : (n i size : ℕ) (x : Turn State) → Rises n x → Rises n (within i size x)
inside n i size x h = either n (nat_lt i size) x wrong h tt

same : (n : ℕ) → n ≤ n
same n = omega arith

module _ (g : Spaces) (s : Setting) where
  runs : (k : List Link) (t : Words) (n : ℕ) (x : Term) → Rises n (run g s k t n x)
  runs k t n (term.Set m v) = by_word n (value g s t v) (λ w. Silent (state k (with_scratch t m w) n)) (λ w. same n)
  runs k t n (term.Write space at v) =
      by_word n (value g s t at) _ (λ i. by_word n (value g s t v) _ (λ w. inside n i (size_of g space) _
      (by_some n (with_word t.registers space i w) _ (λ r. same n))))
  runs k t n (term.Load m room at) = by_word n (value g s t at) _ (λ i. inside n i (s.extent room) _ (λ a. same n))
  runs k t n (term.Store room at v) =
      by_word n (value g s t at) _ (λ i. by_word n (value g s t v) _ (λ w. inside n i (s.extent room) _ (λ a. same n)))
  runs k t n (term.Atomic m room at kind a b) =
      by_word n (value g s t at) _ (λ i. by_word n (value g s t a) _ (λ x. by_word n (value g s t b) _ (λ y.
      inside n i (s.extent room) _ (λ answer. same n))))
  runs k t n (term.Sync threads scope classes) = λ a. same n
  runs k t n (term.Guard b body) = by_truth n (value g s t b) _ (λ holds. same n)
  runs k t n (term.If b x y) = by_truth n (value g s t b) _ (λ holds. same n)
  runs k t n (term.Loop body) = same n
  runs k t n (term.Switch on cases) = by_word n (value g s t on) _ (λ w. same n)
  runs k t n (term.Case v next) = same n
  runs k t n (term.Default next) = same n
  runs k t n term.Break = by_some n (left k) _ (λ c. same n)
  runs k t n term.Continue = by_some n (renewed k) _ (λ c. same n)
  runs k t n term.Return = tt
  runs k t n (term.Then a b) = same n
  runs k t n term.Nothing = same n
  runs k t n expression = tt

  turns : (k : List Link) (t : Words) (n : ℕ) → Rises n (turn g s k t n)
  turns [] t n = tt
  turns (Run x ∷ k) t n = runs k t n x
  turns (Again body ∷ k) t n = omega arith
  turns (Out ∷ k) t n = same n

  pub rises : (x : State) → Rises x.turns (step g s x)
  rises x = turns x.chain x.words x.turns

  pub goes_rises : (m : ℕ) (x y : State) → Goes (step g s) m x y → x.turns ≤ y.turns
  goes_rises zero x y h = subst (λ z. x.turns ≤ z.turns) h (same x.turns)
  goes_rises (suc m) x y h =
      let a : x.turns ≤ h.0.turns = subst (Rises x.turns) h.1 (rises x) in
      omega (arith, a, goes_rises m h.0 y h.2)

  pub asks_rises : (x : State) (e : Event) (after : ℕ → State) (a : ℕ) → step g s x ≡ Asks e after → x.turns ≤ (after a).turns
  asks_rises x e after a h = (subst (Rises x.turns) h (rises x)) a

  -- behind a plan there are at least as many
  pub plan_rises : (es : List Event) (x : State) (Q : List ℕ → State → Type 0) (n : ℕ)
      → ((answers : List ℕ) (y : State) → Q answers y → y.turns ≡ n) → Plans (step g s) x es Q → x.turns ≤ n
  plan_rises [] x Q n f h = let a = goes_rises h.0 x h.1 h.2 in omega (arith, a, f [] h.1 h.3)
  plan_rises (e ∷ es) x Q n f h =
      let a = goes_rises h.0 x h.1 h.3 in
      let b = asks_rises h.1 e h.2 0 h.4 in
      let c = plan_rises es (h.2 0) (λ answers y. Q (0 ∷ answers) y) n (λ answers y q. f (0 ∷ answers) y q) (h.5 0 (omega arith)) in
      omega (arith, a, b, c)
