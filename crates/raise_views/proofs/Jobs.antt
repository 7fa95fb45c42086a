-- The statements of events, each under its test: what each of them does, in range and out of range.
use Rattle.std.proofs.Common.{◌≡◌, ℕ, ◌+◌, ◌<◌, ◌≤◌, ◌^◌, Bool, true, false, List, ◌∷◌, Option, Some, None, refl, ap, ◌∙◌, arith}
use Rattle.std.specs.Prelude.{if◌then◌else◌, is_some, option_map}
use Rattle.std.proofs.lemmas.Bool.{eq-eqb, ne_eqb, lt-ltb, false≢true}
use Rattle.word_base.specs.declared.event.Act.{Act}
use Rattle.word_base.specs.declared.event.Event.{Event}
use Rattle.word_base.specs.declared.event.Event.TheVariants as event
use Rattle.word_base.specs.declared.event.Room.{Room}
use Rattle.word_base.specs.Lanes.{Silent, Asks}
use Rattle.word_base.specs.Settings.{Setting}
use Rattle.shader_tree.specs.Chains.{Link, Run, push}
use Rattle.shader_tree.specs.Lane.{state, step, with_scratch, second_operand, on_word, on_truth, within, wrong}
use Rattle.shader_tree.specs.Terms.{Term}
use Rattle.shader_tree.specs.Terms as term
use Rattle.shader_tree.specs.Values.{Spaces, Words, value, word, truth}
use Rattle.raise_operands.specs.Laws.{ReadingLaws, RunLaws}
use Rattle.raise_views.specs.declared.address.Reach.{Reach}
use Rattle.raise_views.specs.Reaching.{answered, guarded, is_known, place, test}
use Rattle.raise_views.proofs.Locating.{Hits, Located, hits, reached_by}
use Rattle.raise_views.proofs.Planning.{Fill, Job}

-- SCRATCH WORDS that are written
pub set_there : (t : Words) (n w : ℕ) → (with_scratch t n w).scratch n ≡ w
set_there t n w = ap (λ b. if b then w else t.scratch n) (eq-eqb n n refl)

pub set_elsewhere : (t : Words) (n w m : ℕ) → (m ≡ n → ⊥) → (with_scratch t n w).scratch m ≡ t.scratch m
set_elsewhere t n w m h = ap (λ b. if b then w else t.scratch m) (ne_eqb m n h)

-- THE STEPS of statements
module _ (g : Spaces) (s : Setting) where
  pub load_runs : (n : ℕ) (room : Room) (at : Term) (t : Words) (p : ℕ) → value g s t at ≡ word p → p < s.extent room → (k : List Link) (turns : ℕ)
      → step g s (state (Run (term.Load n room at) ∷ k) t turns) ≡ Asks (event.Load room p) (λ a. state k (with_scratch t n a) turns)
  load_runs n room at t p h l k turns =
      ap (λ v. on_word v (λ i. within i (s.extent room) (Asks (event.Load room i) (λ a. state k (with_scratch t n a) turns)))) h
      ∙ ap (λ b. if b then Asks (event.Load room p) (λ a. state k (with_scratch t n a) turns) else wrong) (lt-ltb p (s.extent room) l)

  pub store_runs : (room : Room) (at v : Term) (t : Words) (p w : ℕ) → value g s t at ≡ word p → value g s t v ≡ word w → p < s.extent room
      → (k : List Link) (turns : ℕ)
      → step g s (state (Run (term.Store room at v) ∷ k) t turns) ≡ Asks (event.Store room p w) (λ a. state k t turns)
  store_runs room at v t p w h f l k turns =
      ap (λ x. on_word x (λ i. on_word (value g s t v) (λ y. within i (s.extent room) (Asks (event.Store room i y) (λ a. state k t turns))))) h
      ∙ (ap (λ x. on_word x (λ y. within p (s.extent room) (Asks (event.Store room p y) (λ a. state k t turns)))) f
      ∙ ap (λ b. if b then Asks (event.Store room p w) (λ a. state k t turns) else wrong) (lt-ltb p (s.extent room) l))

  pub atomic_runs : (n : ℕ) (room : Room) (at : Term) (kind : Act) (a b : Term) (t : Words) (p x y : ℕ) → value g s t at ≡ word p
      → value g s t a ≡ word x → value g s t b ≡ word y
      → p < s.extent room → (k : List Link) (turns : ℕ)
      → step g s (state (Run (term.Atomic n room at kind a b) ∷ k) t turns) ≡ Asks (event.Atomic room p kind x (second_operand kind y))
      (λ z. state k (with_scratch t n z) turns)
  atomic_runs n room at kind a b t p x y h f q l k turns =
      ap (λ v. on_word v (λ i. on_word (value g s t a)
      (λ c. on_word (value g s t b)
      (λ d. within i (s.extent room) (Asks (event.Atomic room i kind c (second_operand kind d)) (λ z. state k (with_scratch t n z) turns)))))) h
      ∙ (ap (λ v. on_word v
      (λ c. on_word (value g s t b)
      (λ d. within p (s.extent room) (Asks (event.Atomic room p kind c (second_operand kind d)) (λ z. state k (with_scratch t n z) turns))))) f
      ∙ (ap (λ v. on_word v
      (λ d. within p (s.extent room) (Asks (event.Atomic room p kind x (second_operand kind d)) (λ z. state k (with_scratch t n z) turns)))) q
      ∙ ap (λ c. if c then Asks (event.Atomic room p kind x (second_operand kind y)) (λ z. state k (with_scratch t n z) turns) else wrong)
      (lt-ltb p (s.extent room) l)))

  guard_step : (b : Bool) (on body : Term) (t : Words) (k : List Link) (turns : ℕ) → value g s t on ≡ truth b
      → step g s (state (Run (term.Guard on body) ∷ k) t turns) ≡ Silent (state (if b then push body k else k) t turns)
  guard_step b on body t k turns h = ap (λ x. on_truth x (λ holds. Silent (state (if holds then push body k else k) t turns))) h

module _ (reading : ReadingLaws) (run : RunLaws) (g : Spaces) (s : Setting) (r : Reach) (w j : ℕ) (Inv : Words → Type 0)
    (stays : (t u : Words) → ((m : ℕ) → m < 12 → u.scratch m ≡ t.scratch m) → u.registers ≡ t.registers → Inv t → Inv u)
    (located : (t : Words) → Inv t → Located reading g s r w j t) (known : r.known ≤ s.extent r.room) (short : s.extent r.room < 2 ^ 32) where
  module _ (c n : ℕ) (low : w + c < 2 ^ 32) (high : 12 ≤ n) (body : Term) (ev : ℕ → Event) (to : ℕ → Words → Words)
      (pushes : (k : List Link) → push body k ≡ Run body ∷ k)
      (runs : (t : Words) → Inv t → (p : ℕ) → value g s t (place r c) ≡ word p → p < s.extent r.room → (k : List Link) (turns : ℕ)
      → step g s (state (Run body ∷ k) t turns) ≡ Asks (ev p) (λ a. state k (to a t) turns)) where
    pub found : (t : Words) → Inv t → Hits reading g s r c t (reached_by r.address.way (s.extent r.room) w j c)
    found t i = hits reading g s r w j c t (located t i) low known short

    asks : (t : Words) → Inv t → (p : ℕ) → value g s t (place r c) ≡ word p → p < s.extent r.room → (k : List Link) (turns : ℕ)
        → step g s (state (push body k) t turns) ≡ Asks (ev p) (λ a. state k (to a t) turns)
    asks t i p h l k turns = ap (λ x. step g s (state x t turns)) (pushes k) ∙ runs t i p h l k turns

    -- one that is known to be in range stands alone
    pub alone : (fills : Bool) → ((a : ℕ) (t : Words) → Fill run g s fills n a t (to a t)) → (t : Words) → Inv t → (o : Option ℕ)
        → Hits reading g s r c t o → is_some o ≡ true
        → Job run g s fills n body t (option_map ev o)
    alone fills fill t i None h e = absurd (false≢true e)
    alone fills fill t i (Some p) h e = λ k turns.
        let x = h.places p refl in (
          0,
          state (push body k) t turns,
          λ a. state k (to a t) turns,
          refl,
          asks t i p x.0 x.1 k turns,
          λ a.
              (to a t, refl, fill a t),
        )

    pub guarded_job : ((a : ℕ) (t : Words) → Fill run g s false n a t (to a t)) → (t : Words) → Inv t
        → Job run g s false n (guarded r c body) t (option_map ev (reached_by r.address.way (s.extent r.room) w j c))
    guarded_job fill t i = by_known (is_known r c) refl
      where
        by_reach : (o : Option ℕ) → Hits reading g s r c t o → Job run g s false n (term.Guard (test r c) body) t (option_map ev o)
        by_reach None h = (
          t,
          λ k turns. (1, (state k t turns, guard_step g s false (test r c) body t k turns h.tests, refl)),
          record { answer = λ e. absurd (false≢true e); others = λ m e. refl; registers = refl },
        )
        by_reach (Some p) h = λ k turns.
            let x = h.places p refl in (
              1,
              state (push body k) t turns,
              λ a. state k (to a t) turns,
              (state (push body k) t turns, guard_step g s true (test r c) body t k turns h.tests, refl),
              asks t i p x.0 x.1 k turns,
              λ a. (to a t, refl, fill a t),
            )

        by_known : (b : Bool) → is_known r c ≡ b
            → Job run g s false n (if b then body else term.Guard (test r c) body) t
            (option_map ev (reached_by r.address.way (s.extent r.room) w j c))
        by_known true e = alone false fill t i (reached_by r.address.way (s.extent r.room) w j c) (found t i) ((found t i).known' e)
        by_known false e = by_reach (reached_by r.address.way (s.extent r.room) w j c) (found t i)

    pub answered_job : ((a : ℕ) (t : Words) → Fill run g s true n a t (to a t)) → (t : Words) → Inv t
        → Job run g s true n (answered r c n body) t (option_map ev (reached_by r.address.way (s.extent r.room) w j c))
    answered_job fill t i = by_known (is_known r c) refl
      where
        zeroed : Words
        zeroed = with_scratch t n 0

        kept : Inv zeroed
        kept = stays t zeroed (λ m l. set_elsewhere t n 0 m (λ e. omega arith)) refl i

        with_zero : (k : List Link) (turns : ℕ) (b : Bool) → value g s zeroed (test r c) ≡ truth b
            → (step g s (state (Run (term.Set n (term.Word 0)) ∷ Run (term.Guard (test r c) body) ∷ k) t turns) ≡ Silent
            (state (Run (term.Guard (test r c) body) ∷ k) zeroed turns))
            × (step g s (state (Run (term.Guard (test r c) body) ∷ k) zeroed turns) ≡ Silent (state (if b then push body k else k) zeroed turns))
        with_zero k turns b h = (refl, guard_step g s b (test r c) body zeroed k turns h)

        by_reach : (o : Option ℕ) → Hits reading g s r c zeroed o → Job run g s true n
            (term.Then (term.Set n (term.Word 0)) (term.Guard (test r c) body)) t (option_map ev o)
        by_reach None h = (
          zeroed,
          λ k turns.
              let z = with_zero k turns false h.tests in
              (2, (state (Run (term.Guard (test r c) body) ∷ k) zeroed turns, z.0, (state k zeroed turns, z.1, refl))),
          record { answer = λ e. set_there t n 0; others = λ m e. set_elsewhere t n 0 m e; registers = refl },
        )
        by_reach (Some p) h = λ k turns.
            let x = h.places p refl in
            let z = with_zero k turns true h.tests in (
              2,
              state (push body k) zeroed turns,
              λ a. state k (to a zeroed) turns,
              (state (Run (term.Guard (test r c) body) ∷ k) zeroed turns, z.0, (state (push body k) zeroed turns, z.1, refl)),
              asks zeroed kept p x.0 x.1 k turns,
              λ a.
                  let f = fill a zeroed in (
                    to a zeroed,
                    refl,
                    record { answer = f.answer; others = λ m e. f.others m e ∙ set_elsewhere t n 0 m e; registers = f.registers },
                  ),
            )

        by_known : (b : Bool) → is_known r c ≡ b
            → Job run g s true n (if b then body else term.Then (term.Set n (term.Word 0)) (term.Guard (test r c) body)) t
            (option_map ev (reached_by r.address.way (s.extent r.room) w j c))
        by_known true e = alone true fill t i (reached_by r.address.way (s.extent r.room) w j c) (found t i) ((found t i).known' e)
        by_known false e = by_reach (reached_by r.address.way (s.extent r.room) w j c) (found zeroed kept)
