-- Access chains and loads as instructions.
use Rattle.std.proofs.Common.{◌≡◌, ℕ, ◌+◌, ◌*◌, inl, List, [], ◌∷◌, Some, refl, sym, ap, ◌∙◌, subst, arith}
use Rattle.std.proofs.lemmas.Bool.Decides.{nat_tests}
use Rattle.std.specs.Prelude.{Ok, nat_lt, ◌&&◌, ◌||◌, true, false, Bool, slice_get, IsTrue}
use Rattle.word_base.specs.declared.event.Room.{Room}
use Rattle.shader_tree.specs.Values.{Words}
use Rattle.spirv_words.specs.StorageClass as storage
use Rattle.spirv_words.specs.StorageClass.{has_events, is_own, is_given}
use Rattle.spirv_words.specs.Operations.{OpLoad, OpArrayLength}
use Rattle.spirv_words.specs.Sorts.{sort_of, sort_of_value}
use Rattle.spirv_words.specs.Sorts as sort
use Rattle.spirv_words.specs.Text.{instr}
use Rattle.spirv_words.specs.Values.{Value, Word, Truth, NoParts, Part, AtLocal, AtRoom, AtConstants, AtPush, AtInput, both, word_of}
use Rattle.spirv_words.specs.Memory.{chained, pointer_of}
use Rattle.spirv_words.specs.Lane.{State, step, sets, act}
use Rattle.spirv_symbols.specs.declared.symbol.Access.{Access}
use Rattle.spirv_symbols.specs.declared.symbol.Symbol.{Symbol}
use Rattle.spirv_symbols.specs.declared.symbol.Symbol.TheVariants.{AType, Constant, Memory}
use Rattle.spirv_symbols.specs.declared.symbol.TypeSymbol.{TypeSymbol}
use Rattle.spirv_symbols.specs.declared.symbol.TypeSymbol.TheVariants as type
use Rattle.spirv_symbols.specs.Tables.{Has}
use Rattle.spirv_emit.specs.Code.{Typed, IsOf, Leads, is_loaded}
use Rattle.spirv_emit.specs.Emission.{Emission}
use Rattle.spirv_emit.specs.Growing.{Completes}
use Rattle.spirv_emit.specs.Lanes.{Site, IsWhole, Mirrors, meaning}
use Rattle.spirv_emit.specs.Reads.{inside, within, points, points_inside, within_vector, points_in_vector, given_at, given_word, extent_of}
use Rattle.spirv_emit.specs.Steps.{Adds}
use Rattle.spirv_emit.specs.Values.{slot, a_word, AreValues, Meaning, Gives}
use Rattle.spirv_emit.proofs.Links.{load_quiet}
use Rattle.spirv_emit.proofs.Forms.{acts}
use Rattle.spirv_emit.proofs.Giving.{and_then_ok, ok_same, added_gives}
use Rattle.spirv_emit.proofs.Values.{word_is, both_ok}

-- the test of a size
within_ok : (n : ℕ) (at : ℕ → Value) (i : ℕ) (v : Value) → within n at i ≡ Ok v → (nat_lt i n ≡ true) × (at i ≡ v)
within_ok n at i v e = by (nat_lt i n) refl e where
  by : (b : Bool) → nat_lt i n ≡ b → inside b (at i) ≡ Ok v → (nat_lt i n ≡ true) × (at i ≡ v)
  by true q e = (q, cc e)
  by false q e = absurd (cc e)

vector_ok : (n : ℕ) (at : ℕ → Value) (i j : ℕ) (v : Value) → within_vector n at i j ≡ Ok v → (nat_lt i n ≡ true) × (nat_lt j 4 ≡ true) ×
    (at (i * 4 + j) ≡ v)
vector_ok n at i j v e = by (nat_lt i n) (nat_lt j 4) refl refl e where
  by : (b c : Bool) → nat_lt i n ≡ b → nat_lt j 4 ≡ c → inside (b && c) (at (i * 4 + j)) ≡ Ok v
      → (nat_lt i n ≡ true) × (nat_lt j 4 ≡ true) × (at (i * 4 + j) ≡ v)
  by true true q p e = (q, p, cc e)
  by true false q p e = absurd (cc e)
  by false c q p e = absurd (cc e)

-- what a chain leads to is what its instruction sets
module _ (z : Site) (s : State) (t r p : ℕ) (u v : Value) (whole : IsWhole z) (pointer : pointer_of (Some u) ≡ Ok u) (hp : s.values p ≡ Some u) where
  chain_one : (x i : ℕ) → slice_get z.machine.code s.place ≡ Some (instr 65 (t ∷ r ∷ p ∷ x ∷ [])) → s.values x ≡ Some (Word i)
      → chained z.machine (sort_of_value z.machine.code p) u (i ∷ []) ≡ Ok v → step z.machine s ≡ sets s r v
  chain_one x i at hx e = acts z s (instr 65 (t ∷ r ∷ p ∷ x ∷ [])) whole at ∙ rw (hp, pointer, hx, e) refl

  chain_two : (n x i : ℕ) → slice_get z.machine.code s.place ≡ Some (instr 65 (t ∷ r ∷ p ∷ n ∷ x ∷ [])) → s.values n ≡ Some (Word 0)
      → s.values x ≡ Some (Word i)
      → chained z.machine (sort_of_value z.machine.code p) u (0 ∷ i ∷ []) ≡ Ok v → step z.machine s ≡ sets s r v
  chain_two n x i at hn hx e = acts z s (instr 65 (t ∷ r ∷ p ∷ n ∷ x ∷ [])) whole at ∙ rw (hp, pointer, hn, hx, e) refl

  chain_three : (n x y i j : ℕ) → slice_get z.machine.code s.place ≡ Some (instr 65 (t ∷ r ∷ p ∷ n ∷ x ∷ y ∷ [])) → s.values n ≡ Some (Word 0)
      → s.values x ≡ Some (Word i) → s.values y ≡ Some (Word j)
      → chained z.machine (sort_of_value z.machine.code p) u (0 ∷ i ∷ j ∷ []) ≡ Ok v → step z.machine s ≡ sets s r v
  chain_three n x y i j at hn hx hy e = acts z s (instr 65 (t ∷ r ∷ p ∷ n ∷ x ∷ y ∷ [])) whole at ∙ rw (hp, pointer, hn, hx, hy, e) refl

-- CHAINS from the variable of a symbol.
module _ (a d : Emission) (s : Symbol) (class t r p : ℕ) (pointer : TypeSymbol) (u : Value) (size : Site → ℕ) (at : ℕ → Value)
    (here : meaning s p ≡ Some u) (is_pointer : pointer_of (Some u) ≡ Ok u) (named : Has a.symbols.entries s p)
    (typed : Has a.symbols.entries (AType (type.WordPointer class)) t) where
  pub chain_gives : (x : ℕ) → Adds a d (instr 65 (t ∷ r ∷ p ∷ x ∷ [])) r
      → ((z : Site) (k : List Typed) → IsOf z.names k type.Word x → Leads z.names k pointer class (x ∷ []))
      → ((z : Site) → Completes a z → (i : ℕ) → nat_lt i (size z) ≡ true → chained z.machine (sort_of_value z.machine.code p) u (i ∷ []) ≡ Ok (at i))
      → Gives a d (slot p pointer ∷ a_word x ∷ []) (slot r (type.WordPointer class) ∷ []) (points size at)
  chain_gives x h leads leads_to =
      added_gives a d (instr 65 (t ∷ r ∷ p ∷ x ∷ [])) r t (type.WordPointer class) (slot p pointer ∷ a_word x ∷ []) (points size at) refl typed
      (refl, refl) h
      (λ z comp k is. (class, pointer, comp.has _ t typed, is.0, leads z k is.1.0)) (inl refl) (λ z places is. refl)
      (λ z comp q w vs ws place v mir e. by z comp q w vs ws place v mir e) where
        by : (z : Site) → Completes a z → (q : State) (w : Words) (vs ws : List Value) → slice_get z.machine.code q.place ≡ Some
            (instr 65 (t ∷ r ∷ p ∷ x ∷ []))
            → AreValues q.values (slot p pointer ∷ a_word x ∷ []) vs → Mirrors z a.kept q w → points size at z w vs ≡ Ok ws
            → (v : Value) × (ws ≡ v ∷ []) × (step z.machine q ≡ sets q r v)
        by z comp q w [] ws place v mir e = absurd v
        by z comp q w (l ∷ []) ws place v mir e = absurd v.1
        by z comp q w (l ∷ m ∷ n ∷ vs) ws place v mir e = absurd v.1.1
        by z comp q w (l ∷ m ∷ []) ws place v mir e =
            let g = and_then_ok (word_of (Some m)) _ ws e in
            let f = and_then_ok (within (size z) at g.0) _ ws g.2 in
            let k = within_ok (size z) at g.0 f.0 f.1 in (
              at g.0,
              sym (ok_same _ _ f.2) ∙ ap (λ v. v ∷ []) (sym k.1),
              chain_one z q t r p u (at g.0) comp.whole is_pointer (mir.knows s p u (comp.has s p named) here) x g.0 place
                  (v.1.0 ∙ ap Some (word_is m g.0 g.1)) (leads_to z comp g.0 k.0),
            )

  pub chain_inside_gives : (n x : ℕ) → Has a.symbols.entries (Constant 0) n → Adds a d (instr 65 (t ∷ r ∷ p ∷ n ∷ x ∷ [])) r
      → ((z : Site) (k : List Typed) → Has z.names (Constant 0) n → IsOf z.names k type.Word n → IsOf z.names k type.Word x
      → Leads z.names k pointer class (n ∷ x ∷ []))
      → ((z : Site) → Completes a z → (i : ℕ) → nat_lt i (size z) ≡ true → chained z.machine (sort_of_value z.machine.code p) u (0 ∷ i ∷ []) ≡ Ok
      (at i))
      → Gives a d (slot p pointer ∷ a_word n ∷ a_word x ∷ []) (slot r (type.WordPointer class) ∷ []) (points_inside size at)
  chain_inside_gives n x zero' h leads leads_to =
      added_gives a d (instr 65 (t ∷ r ∷ p ∷ n ∷ x ∷ [])) r t (type.WordPointer class) (slot p pointer ∷ a_word n ∷ a_word x ∷ [])
      (points_inside size at) refl typed (refl, refl) h
      (λ z comp k is. (class, pointer, comp.has _ t typed, is.0, leads z k (comp.has _ n zero') is.1.0 is.1.1.0)) (inl refl) (λ z places is. refl)
      (λ z comp q w vs ws place v mir e. by z comp q w vs ws place v mir e) where
        by : (z : Site) → Completes a z → (q : State) (w : Words) (vs ws : List Value) → slice_get z.machine.code q.place ≡ Some
            (instr 65 (t ∷ r ∷ p ∷ n ∷ x ∷ []))
            → AreValues q.values (slot p pointer ∷ a_word n ∷ a_word x ∷ []) vs → Mirrors z a.kept q w → points_inside size at z w vs ≡ Ok ws
            → (v : Value) × (ws ≡ v ∷ []) × (step z.machine q ≡ sets q r v)
        by z comp q w [] ws place v mir e = absurd v
        by z comp q w (l ∷ []) ws place v mir e = absurd v.1
        by z comp q w (l ∷ m ∷ []) ws place v mir e = absurd v.1.1
        by z comp q w (l ∷ m ∷ o ∷ i ∷ vs) ws place v mir e = absurd v.1.1.1
        by z comp q w (l ∷ o ∷ m ∷ []) ws place v mir e =
            let g = and_then_ok (word_of (Some m)) _ ws e in
            let f = and_then_ok (within (size z) at g.0) _ ws g.2 in
            let k = within_ok (size z) at g.0 f.0 f.1 in (
              at g.0,
              sym (ok_same _ _ f.2) ∙ ap (λ v. v ∷ []) (sym k.1),
              chain_two z q t r p u (at g.0) comp.whole is_pointer (mir.knows s p u (comp.has s p named) here) n x g.0 place
                  (mir.knows (Constant 0) n (Word 0) (comp.has _ n zero') refl) (v.1.1.0 ∙ ap Some (word_is m g.0 g.1)) (leads_to z comp g.0 k.0),
            )

  pub chain_vector_gives : (n x y : ℕ) → Has a.symbols.entries (Constant 0) n → Adds a d (instr 65 (t ∷ r ∷ p ∷ n ∷ x ∷ y ∷ [])) r
      → ((z : Site) (k : List Typed) → Has z.names (Constant 0) n → IsOf z.names k type.Word n → IsOf z.names k type.Word x
      → IsOf z.names k type.Word y
      → Leads z.names k pointer class (n ∷ x ∷ y ∷ []))
      → ((z : Site) → Completes a z → (i j : ℕ) → nat_lt i (size z) ≡ true → nat_lt j 4 ≡ true
      → chained z.machine (sort_of_value z.machine.code p) u (0 ∷ i ∷ j ∷ []) ≡ Ok (at (i * 4 + j)))
      → Gives a d (slot p pointer ∷ a_word n ∷ a_word x ∷ a_word y ∷ []) (slot r (type.WordPointer class) ∷ []) (points_in_vector size at)
  chain_vector_gives n x y zero' h leads leads_to =
      added_gives a d (instr 65 (t ∷ r ∷ p ∷ n ∷ x ∷ y ∷ [])) r t (type.WordPointer class) (slot p pointer ∷ a_word n ∷ a_word x ∷ a_word y ∷ [])
      (points_in_vector size at) refl typed (refl, refl) h
      (λ z comp k is. (class, pointer, comp.has _ t typed, is.0, leads z k (comp.has _ n zero') is.1.0 is.1.1.0 is.1.1.1.0)) (inl refl)
      (λ z places is. refl)
      (λ z comp q w vs ws place v mir e. by z comp q w vs ws place v mir e) where
        by : (z : Site) → Completes a z → (q : State) (w : Words) (vs ws : List Value) → slice_get z.machine.code q.place ≡ Some
            (instr 65 (t ∷ r ∷ p ∷ n ∷ x ∷ y ∷ []))
            → AreValues q.values (slot p pointer ∷ a_word n ∷ a_word x ∷ a_word y ∷ []) vs → Mirrors z a.kept q w → points_in_vector size at z w vs ≡
            Ok ws
            → (v : Value) × (ws ≡ v ∷ []) × (step z.machine q ≡ sets q r v)
        by z comp q w [] ws place v mir e = absurd v
        by z comp q w (l ∷ []) ws place v mir e = absurd v.1
        by z comp q w (l ∷ m ∷ []) ws place v mir e = absurd v.1.1
        by z comp q w (l ∷ m ∷ o ∷ []) ws place v mir e = absurd v.1.1.1
        by z comp q w (l ∷ m ∷ o ∷ i ∷ j ∷ vs) ws place v mir e = absurd v.1.1.1.1
        by z comp q w (l ∷ o ∷ m ∷ i ∷ []) ws place v mir e =
            let g = and_then_ok (both (word_of (Some m)) (word_of (Some i))) _ ws e in
            let b = both_ok (word_of (Some m)) (word_of (Some i)) g.0 g.1 in
            let f = and_then_ok (within_vector (size z) at g.0.0 g.0.1) _ ws g.2 in
            let k = vector_ok (size z) at g.0.0 g.0.1 f.0 f.1 in (
              at (g.0.0 * 4 + g.0.1),
              sym (ok_same _ _ f.2) ∙ ap (λ v. v ∷ []) (sym k.2),
              chain_three z q t r p u (at (g.0.0 * 4 + g.0.1)) comp.whole is_pointer (mir.knows s p u (comp.has s p named) here) n x y g.0.0 g.0.1
                  place
                  (mir.knows (Constant 0) n (Word 0) (comp.has _ n zero') refl) (v.1.1.0 ∙ ap Some (word_is m g.0.0 b.0))
                  (v.1.1.1.0 ∙ ap Some (word_is i g.0.1 b.1))
                  (leads_to z comp g.0.0 g.0.1 k.0 k.1),
            )

-- LOADS of what the lane is given.
is_loaded_given : (class : ℕ) → IsTrue (is_given class) → IsTrue (is_loaded class)
is_loaded_given class h = by (has_events class) (is_own class) (is_given class) h where
  by : (a b c : Bool) → IsTrue c → IsTrue (a || (b || c))
  by true b c h = refl
  by false true c h = refl
  by false false c h = h

given_quiet : (class : ℕ) → IsTrue (is_given class) → has_events class ≡ false
given_quiet class h = grind (arith, nat_tests)

loads_given : (z : Site) (q : State) (t r p : ℕ) (l : Value) (w : ℕ) → sort_of z.machine.code t ≡ sort.Words → q.values p ≡ Some l
    → given_at z.machine l ≡ Ok w
    → act z.machine q OpLoad (t ∷ r ∷ p ∷ []) ≡ sets q r (Word w)
loads_given z q t r p (AtInput kind k) w words hp e = rw (hp, words, e) refl
loads_given z q t r p (AtConstants buffer k) w words hp e = rw (hp, words) (ap (λ n. sets q r (Word n)) (ok_same _ _ e))
loads_given z q t r p (AtPush k) w words hp e = rw (hp, words) (ap (λ n. sets q r (Word n)) (ok_same _ _ e))
loads_given z q t r p (Word x) w words hp e = absurd (cc e)
loads_given z q t r p (Truth x) w words hp e = absurd (cc e)
loads_given z q t r p NoParts w words hp e = absurd (cc e)
loads_given z q t r p (Part x y) w words hp e = absurd (cc e)
loads_given z q t r p (AtLocal x y) w words hp e = absurd (cc e)
loads_given z q t r p (AtRoom x y) w words hp e = absurd (cc e)

pub given_gives : (a d : Emission) (class t r p : ℕ) → IsTrue (is_given class) → Has a.symbols.entries (AType type.Word) t
    → Adds a d (instr 61 (t ∷ r ∷ p ∷ [])) r → Gives a d (slot p (type.WordPointer class) ∷ []) (a_word r ∷ []) given_word
given_gives a d class t r p given' has h =
    added_gives a d (instr 61 (t ∷ r ∷ p ∷ [])) r t type.Word (slot p (type.WordPointer class) ∷ []) given_word refl has (refl, refl) h
    (λ z comp k is. (comp.has _ t has, (class, is.0, is_loaded_given class given'))) (inl refl)
    (λ z places is. load_quiet z places t r p class is.0 (given_quiet class given'))
    (λ z comp q w vs ws place v mir e. by z comp q w vs ws place v mir e) where
      by : (z : Site) → Completes a z → (q : State) (w : Words) (vs ws : List Value) → slice_get z.machine.code q.place ≡ Some
          (instr 61 (t ∷ r ∷ p ∷ []))
          → AreValues q.values (slot p (type.WordPointer class) ∷ []) vs → Mirrors z a.kept q w → given_word z w vs ≡ Ok ws
          → (v : Value) × (ws ≡ v ∷ []) × (step z.machine q ≡ sets q r v)
      by z comp q w [] ws place v mir e = absurd v
      by z comp q w (l ∷ m ∷ vs) ws place v mir e = absurd v.1
      by z comp q w (l ∷ []) ws place v mir e =
          let g = and_then_ok (given_at z.machine l) _ ws e in (
            Word g.0,
            sym (ok_same _ _ g.2),
            acts z q (instr 61 (t ∷ r ∷ p ∷ [])) comp.whole place ∙ loads_given z q t r p l g.0
                (comp.whole.sorts (AType type.Word) t (comp.has _ t has)) v.0 g.1,
          )

-- LOADS of the lane's own words: of a variable of one word, and of one of an array.
loads_local : (z : Site) (q : State) (t r p v i x : ℕ) → sort_of z.machine.code t ≡ sort.Words → q.values p ≡ Some (AtLocal v i)
    → q.memory v i ≡ Some x
    → act z.machine q OpLoad (t ∷ r ∷ p ∷ []) ≡ sets q r (Word x)
loads_local z q t r p v i x words hp hx = rw (hp, words, hx) refl

pub variable_gives : (a d : Emission) (s : Symbol) (t r p : ℕ) (f : Meaning) → meaning s p ≡ Some (AtLocal p 0) → Has a.symbols.entries s p
    → Has a.symbols.entries (AType type.Word) t → Adds a d (instr 61 (t ∷ r ∷ p ∷ [])) r
    → ((z : Site) → Completes a z → (q : State) (w : Words) (vs ws : List Value) → Mirrors z a.kept q w → f z w vs ≡ Ok ws
    → (x : ℕ) × (ws ≡ Word x ∷ []) × (q.memory p 0 ≡ Some x))
    → Gives a d (slot p (type.WordPointer storage.Function) ∷ []) (a_word r ∷ []) f
variable_gives a d s t r p f here named has h from =
    added_gives a d (instr 61 (t ∷ r ∷ p ∷ [])) r t type.Word (slot p (type.WordPointer storage.Function) ∷ []) f refl has (refl, refl) h
    (λ z comp k is. (comp.has _ t has, (storage.Function, is.0, refl))) (inl refl)
    (λ z places is. load_quiet z places t r p storage.Function is.0 refl)
    (λ z comp q w vs ws place v mir e.
    let g = from z comp q w vs ws mir e in (
      Word g.0,
      g.1,
      acts z q (instr 61 (t ∷ r ∷ p ∷ [])) comp.whole place
          ∙ loads_local z q t r p p 0 g.0 (comp.whole.sorts (AType type.Word) t (comp.has _ t has))
          (mir.knows s p (AtLocal p 0) (comp.has s p named) here) g.2,
    ))

pub array_gives : (a d : Emission) (s : Symbol) (t r p q : ℕ) (f : Meaning) → Has a.symbols.entries s p
    → Has a.symbols.entries (AType type.Word) t → Adds a d (instr 61 (t ∷ r ∷ q ∷ [])) r
    → ((z : Site) → Completes a z → (o : State) (w : Words) (vs ws : List Value) → Mirrors z a.kept o w → f z w vs ≡ Ok ws
    → (i : ℕ) × (x : ℕ) × (vs ≡ AtLocal p i ∷ []) × (ws ≡ Word x ∷ []) × (o.memory p i ≡ Some x))
    → Gives a d (slot q (type.WordPointer storage.Function) ∷ []) (a_word r ∷ []) f
array_gives a d s t r p q f named has h from =
    added_gives a d (instr 61 (t ∷ r ∷ q ∷ [])) r t type.Word (slot q (type.WordPointer storage.Function) ∷ []) f refl has (refl, refl) h
    (λ z comp k is. (comp.has _ t has, (storage.Function, is.0, refl))) (inl refl)
    (λ z places is. load_quiet z places t r q storage.Function is.0 refl)
    (λ z comp o w vs ws place v mir e.
    let g = from z comp o w vs ws mir e in
    let here : AreValues o.values (slot q (type.WordPointer storage.Function) ∷ []) (AtLocal p g.0 ∷ []) =
    subst (AreValues o.values (slot q (type.WordPointer storage.Function) ∷ [])) g.2 v in (
      Word g.1,
      g.3,
      acts z o (instr 61 (t ∷ r ∷ q ∷ [])) comp.whole place
          ∙ loads_local z o t r q p g.0 g.1 (comp.whole.sorts (AType type.Word) t (comp.has _ t has)) here.0 g.4,
    ))

-- THE LENGTH of a view or counter.
pub length_gives : (a d : Emission) (room : Room) (access : Access) (t r p : ℕ) → Has a.symbols.entries (Memory room) p
    → Has a.symbols.entries (AType type.Word) t → Adds a d (instr 68 (t ∷ r ∷ p ∷ 0 ∷ [])) r
    → Gives a d (slot p (type.ViewPointer access) ∷ []) (a_word r ∷ []) (extent_of room)
length_gives a d room access t r p named has h =
    added_gives a d (instr 68 (t ∷ r ∷ p ∷ 0 ∷ [])) r t type.Word (slot p (type.ViewPointer access) ∷ []) (extent_of room) refl has (refl, refl) h
    (λ z comp k is. (comp.has _ t has, (access, is.0), refl)) (inl refl) (λ z places is. refl)
    (λ z comp q w vs ws place v mir e. (
      Word (z.machine.setting.extent room),
      sym (ok_same _ _ e),
      acts z q (instr 68 (t ∷ r ∷ p ∷ 0 ∷ [])) comp.whole place ∙ measured z q t r p
          (mir.knows (Memory room) p (AtRoom room 0) (comp.has _ p named) refl),
    )) where
      measured : (z : Site) (q : State) (t r p : ℕ) → q.values p ≡ Some (AtRoom room 0) → act z.machine q OpArrayLength (t ∷ r ∷ p ∷ 0 ∷ []) ≡ sets q
          r (Word (z.machine.setting.extent room))
      measured z q t r p hp = rw hp refl
