-- Statements that make silent steps alone, from words to words, whatever follows them.
use Rattle.std.proofs.Common.{◌≡◌, ℕ, zero, suc, ◌<◌, Bool, true, false, List, [], ◌∷◌, ◌++◌, Some, refl, sym, ap, subst, ◌∙◌}
use Rattle.std.specs.Prelude.{nat_lt, if◌then◌else◌}
use Rattle.std.proofs.lemmas.Bool.{lt-ltb, false≢true}
use Rattle.word_base.specs.Lanes.{Turn, Silent, Goes}
use Rattle.word_base.specs.Registers.{Registers}
use Rattle.word_base.specs.Settings.{Setting}
use Rattle.shader_tree.specs.declared.node.Space.{Space}
use Rattle.shader_tree.specs.Chains.{Link, push}
use Rattle.shader_tree.specs.Lane.{state, step, with_scratch, with_word, on_word, on_truth, on_some, within, wrong}
use Rattle.shader_tree.specs.Plans.{Performs}
use Rattle.shader_tree.specs.Terms.{Term, Set, Write, Guard, Then, Nothing}
use Rattle.shader_tree.specs.Values.{Spaces, Words, words, value, word, truth, size_of}
use Rattle.raise_operands.specs.Runs.{Leads, LeadsAll, pushed}
use Rattle.raise_operands.specs.Raising.{is_nothing, followed, chained, chained_from}

pub goes_on : {S : Type 0} (go : S → Turn S) (n m : ℕ) (s t u : S) → Goes go n s t → Goes go m t u → (k : ℕ) × Goes go k s u
goes_on go zero m s t u g h = (m, subst (λ x. Goes go m x u) (sym g) h)
goes_on go (suc n) m s t u g h = let r = goes_on go n m g.0 t u g.2 h in (suc r.0, (g.0, g.1, r.1))

nothing_is : (a : Term) → is_nothing a ≡ true → a ≡ Nothing
nothing_is Nothing e = refl
nothing_is other e = absurd (false≢true e)

push_followed : (a b : Term) (k : List Link) → push (followed a b) k ≡ push a (push b k)
push_followed a b k = first (is_nothing a) refl
  where
    second : (q : Bool) → is_nothing b ≡ q → push (if q then a else Then a b) k ≡ push a (push b k)
    second true e = ap (λ x. push a (push x k)) (sym (nothing_is b e))
    second false e = refl

    first : (p : Bool) → is_nothing a ≡ p → push (if p then b else if is_nothing b then a else Then a b) k ≡ push a (push b k)
    first true e = ap (λ x. push x (push b k)) (sym (nothing_is a e))
    first false e = second (is_nothing b) refl

module _ (g : Spaces) (s : Setting) where
  pub leads_nothing : (t : Words) → Leads g s Nothing t t
  leads_nothing t k turns = (zero, refl)

  pub leads_then : (a b : Term) (t u v : Words) → Leads g s a t u → Leads g s b u v → Leads g s (followed a b) t v
  leads_then a b t u v h f k turns =
      let x = h (push b k) turns in
      let y = f k turns in
      let z = goes_on (step g s) x.0 y.0 (state (push a (push b k)) t turns) (state (push b k) u turns) (state k v turns) x.1 y.1 in
      (z.0, subst (λ l. Goes (step g s) z.0 (state l t turns) (state k v turns)) (sym (push_followed a b k)) z.1)

  pub leads_set : (t : Words) (n w : ℕ) (v : Term) → value g s t v ≡ word w → Leads g s (Set n v) t (with_scratch t n w)
  leads_set t n w v h k turns =
      (suc zero, (state k (with_scratch t n w) turns, ap (λ x. on_word x (λ y. Silent (state k (with_scratch t n y) turns))) h, refl))

  write_step : (t : Words) (space : Space) (at v : Term) (i w : ℕ) (r : Registers) (k : List Link) (turns : ℕ) → value g s t at ≡ word i
      → value g s t v ≡ word w → nat_lt i (size_of g space) ≡ true
      → with_word t.registers space i w ≡ Some r → step g s (state (push (Write space at v) k) t turns) ≡ Silent (state k (words t.scratch r) turns)
  write_step t space at v i w r k turns h f e q =
      ap (λ x. on_word x (λ j. on_word (value g s t v)
      (λ y. within j (size_of g space) (on_some (with_word t.registers space j y) (λ o. Silent (state k (words t.scratch o) turns)))))) h
      ∙ (ap (λ x. on_word x
      (λ y. within i (size_of g space) (on_some (with_word t.registers space i y) (λ o. Silent (state k (words t.scratch o) turns))))) f
      ∙ (ap (λ x. if x then on_some (with_word t.registers space i w) (λ o. Silent (state k (words t.scratch o) turns)) else wrong) e
      ∙ ap (λ x. on_some x (λ o. Silent (state k (words t.scratch o) turns))) q))

  pub leads_write : (t : Words) (space : Space) (at v : Term) (i w : ℕ) (r : Registers) → value g s t at ≡ word i → value g s t v ≡ word w
      → i < size_of g space
      → with_word t.registers space i w ≡ Some r → Leads g s (Write space at v) t (words t.scratch r)
  leads_write t space at v i w r h f l q k turns =
      (suc zero, (state k (words t.scratch r) turns, write_step t space at v i w r k turns h f (lt-ltb i (size_of g space) l) q, refl))

  pub leads_guard : (b : Bool) (t u : Words) (on body : Term) → value g s t on ≡ truth b → (b ≡ true → Leads g s body t u) → (b ≡ false → t ≡ u)
      → Leads g s (Guard on body) t u
  leads_guard true t u on body h f e k turns =
      let y = f refl k turns in
      (suc y.0, (state (push body k) t turns, ap (λ x. on_truth x (λ holds. Silent (state (if holds then push body k else k) t turns))) h, y.1))
  leads_guard false t u on body h f e k turns = (
    suc zero,
    (
      state k t turns,
      ap (λ x. on_truth x (λ holds. Silent (state (if holds then push body k else k) t turns))) h,
      ap
          (λ x. state k x turns) (e refl),
    ),
  )

  -- one statement after the other
  pub leads_all : (xs ys : List Term) (t u v : Words) → LeadsAll g s xs t u → LeadsAll g s ys u v → LeadsAll g s (xs ++ ys) t v
  leads_all [] ys t u v h k = subst (λ x. LeadsAll g s ys x v) (sym h) k
  leads_all (x ∷ xs) ys t u v h k = (h.0, h.1, leads_all xs ys h.0 u v h.2 k)

  leads_from : (xs : List Term) (a : Term) (t u v : Words) → Leads g s a t u → LeadsAll g s xs u v → Leads g s (chained_from a xs) t v
  leads_from [] a t u v h k = subst (λ x. Leads g s a t x) k h
  leads_from (x ∷ xs) a t u v h k = leads_from xs (followed a x) t k.0 v (leads_then a x t u k.0 h k.1) k.2

  pub leads_chained : (xs : List Term) (t u : Words) → LeadsAll g s xs t u → Leads g s (chained xs) t u
  leads_chained xs t u h = leads_from xs Nothing t t u (leads_nothing t) h

  pub performs : (x : Term) (r q : Registers) → ((scratch : ℕ → ℕ) → (u : Words) × Leads g s x (words scratch r) u × (u.registers ≡ q))
      → Performs g s x r [] (λ answers. q)
  performs x r q h k scratch turns =
      let y = h scratch in
      let z = y.1 k turns in
      (z.0, state k y.0 turns, z.1, record { chain = refl; registers = y.2; turns = refl })

-- the statements of a list, one by one
pushed_from : (xs : List Term) (a : Term) (k : List Link) → push (chained_from a xs) k ≡ push a (pushed xs k)
pushed_from [] a k = refl
pushed_from (x ∷ xs) a k = pushed_from xs (followed a x) k ∙ push_followed a x (pushed xs k)

pub pushed_is : (xs : List Term) (k : List Link) → push (chained xs) k ≡ pushed xs k
pushed_is xs k = pushed_from xs Nothing k

pub all_go : (g : Spaces) (s : Setting) (xs : List Term) (t u : Words) (k : List Link) (turns : ℕ) → LeadsAll g s xs t u
    → (n : ℕ) × Goes (step g s) n (state (pushed xs k) t turns) (state k u turns)
all_go g s [] t u k turns h = (zero, ap (λ x. state k x turns) h)
all_go g s (x ∷ xs) t u k turns h =
    let a = h.1 (pushed xs k) turns in
    let b = all_go g s xs h.0 u k turns h.2 in
    goes_on (step g s) a.0 b.0 (state (push x (pushed xs k)) t turns) (state (pushed xs k) h.0 turns) (state k u turns) a.1 b.1
