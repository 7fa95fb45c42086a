-- Plans behind one another.
use Rattle.std.proofs.Common.{◌≡◌, ℕ, zero, suc, List, [], ◌∷◌, refl, sym, ap, subst, ◌∙◌}
use Rattle.word_base.specs.declared.event.Event.{Event}
use Rattle.word_base.specs.Lanes.{Turn, Goes}
use Rattle.word_base.specs.Registers.{Registers}
use Rattle.word_base.specs.Settings.{Setting}
use Rattle.shader_tree.specs.Chains.{Link, push}
use Rattle.shader_tree.specs.Lane.{State, state, step}
use Rattle.shader_tree.specs.Plans.{Plans, Left, Performs, Reaches}
use Rattle.shader_tree.specs.Terms.{Term, Then, Nothing}
use Rattle.shader_tree.specs.Values.{Spaces, words}

module _ {S : Type 0} (go : S → Turn S) where
  pub goes_on : (n m : ℕ) (s t u : S) → Goes go n s t → Goes go m t u → (k : ℕ) × Goes go k s u
  goes_on zero m s t u g h = (m, subst (λ x. Goes go m x u) (sym g) h)
  goes_on (suc n) m s t u g h = let r = goes_on n m g.0 t u g.2 h in (suc r.0, (g.0, g.1, r.1))

  -- silent steps in front of a plan
  pub after : (s t : S) (n : ℕ) (es : List Event) (Q : List ℕ → S → Type 0) → Goes go n s t → Plans go t es Q → Plans go s es Q
  after s t n [] Q g h = let r = goes_on n h.0 s t h.1 g h.2 in (r.0, h.1, r.1, h.3)
  after s t n (e ∷ es) Q g h = let r = goes_on n h.0 s t h.1 g h.3 in (r.0, h.1, h.2, r.1, h.4, h.5)

  -- and behind it
  pub behind : (s : S) (es : List Event) (P Q : List ℕ → S → Type 0) → Plans go s es P
      → ((answers : List ℕ) (t : S) → P answers t → Reaches go t (Q answers)) → Plans go s es Q
  behind s [] P Q h f =
      let r = f [] h.1 h.3 in
      let k = goes_on h.0 r.0 s h.1 r.1 h.2 r.2 in
      (k.0, r.1, k.1, r.3)
  behind s (e ∷ es) P Q h f =
      (h.0, h.1, h.2, h.3, h.4, λ a lt. behind (h.2 a) es (λ as'. P (a ∷ as')) (λ as'. Q (a ∷ as')) (h.5 a lt) (λ as' t p. f (a ∷ as') t p))

module _ (g : Spaces) (setting : Setting) where
  left_is : (k : List Link) (r : Registers) (n : ℕ) (t : State) → Left k r n t → t ≡ state k (words t.words.scratch r) n
  left_is k r n t h =
      ap (λ c. state c t.words t.turns) h.chain
      ∙ (ap (λ x. state k (words t.words.scratch x) t.turns) h.registers ∙ ap (λ m. state k (words t.words.scratch r) m) h.turns)

  -- no statement, and a silent statement in front of another
  pub nothing : (r : Registers) → Performs g setting Nothing r [] (λ answers. r)
  nothing r k scratch n = (zero, state k (words scratch r) n, refl, record { chain = refl; registers = refl; turns = refl })

  pub silent_first : (a b : Term) (r q : Registers) (es : List Event) (to : List ℕ → Registers)
      → Performs g setting a r [] (λ answers. q) → Performs g setting b q es to
      → Performs g setting (Then a b) r es to
  silent_first a b r q es to x y k scratch n =
      let h = x (push b k) scratch n in
      let here = left_is (push b k) q n h.1 h.3 in
      after (step g setting) (state (push a (push b k)) (words scratch r) n) h.1 h.0 es _ h.2
      (subst (λ s. Plans (step g setting) s es (λ answers u. Left k (to answers) n u)) (sym here) (y k h.1.words.scratch n))

  pub silent_last : (a b : Term) (r : Registers) (es : List Event) (mid to : List ℕ → Registers) → Performs g setting a r es mid
      → ((answers : List ℕ) → Performs g setting b (mid answers) [] (λ none. to answers)) → Performs g setting (Then a b) r es to
  silent_last a b r es mid to x y k scratch n =
      behind (step g setting) (state (push a (push b k)) (words scratch r) n) es _ _ (x (push b k) scratch n)
      (λ answers t l. let here = left_is (push b k) (mid answers) n t l in
      subst (λ s. Reaches (step g setting) s (Left k (to answers) n)) (sym here) (y answers k t.words.scratch n))
