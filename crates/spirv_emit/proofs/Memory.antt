-- Memory and the words that are kept behind a store, and behind a word that waits.
use Rattle.std.proofs.Common.{◌≡◌, ℕ, ◌+◌, ◌-◌, ◌/◌, ◌%◌, ◌⊎◌, ⊎_elim, inl, inr, List, [], ◌∷◌, Option, Some, refl, sym, ap, ◌∙◌, subst, arith, nat_eq, Bool, true, false, ◌&&◌}
use Rattle.std.specs.Prelude.{◌≢◌, if◌then◌else◌}
use Rattle.std.proofs.lemmas.Bool.{eqb-true, eq-eqb, eqb-false}
use Rattle.std.proofs.lemmas.Bool.Decides.{nat_tests}
use Rattle.kept_values.specs.declared.word.Word.{Word as Kept}
use Rattle.kept_values.specs.declared.word.Word.TheVariants as kept
use Rattle.kept_values.specs.Tables.{Table, id_in, dirty_in, Among, Puts}
use Rattle.shader_tree.specs.declared.node.Space.{Space}
use Rattle.shader_tree.specs.declared.node.Space.TheVariants as space
use Rattle.word_base.specs.Registers.{Registers}
use Rattle.shader_tree.specs.Values.{Words, words}
use Rattle.shader_tree.specs.Lane.{with_scratch, with_word}
use Rattle.spirv_words.specs.Values as value
use Rattle.spirv_words.specs.Memory.{with_at, with_words}
use Rattle.spirv_words.specs.Lane.{State}
use Rattle.spirv_symbols.specs.declared.symbol.Symbol.{Symbol}
use Rattle.spirv_symbols.specs.declared.symbol.Symbol.TheVariants as symbol
use Rattle.spirv_symbols.specs.Tables.{Has}
use Rattle.spirv_emit.specs.Emission.{Emission, Frame, per_array, space_of_element, index_of_element}
use Rattle.spirv_emit.specs.Lanes.{Site, Mirrors, IsClean, IsInside, IsUsed, IsCleanAt, HoldsArray, Holds, element_at, word_of}
use Rattle.spirv_emit.specs.Growing.{Completes}
use Rattle.spirv_emit.proofs.Growth.{at_same, at_other}

-- The variable of a word, and the word's place in it.
abbrev pub array_for : Space → Symbol
array_for space.Temps = symbol.Registers
array_for (space.Indexable slot) = symbol.Elements slot
array_for constants = symbol.ImmediateArray

abbrev pub IsArraySpace : Space → Type 0
IsArraySpace space.Temps = Unit {0}
IsArraySpace (space.Indexable slot) = Unit {0}
IsArraySpace constants = ⊥

abbrev pub variable : Kept → Symbol
variable (kept.Scratch n) = symbol.Scratch n
variable (kept.Register k) = symbol.Register k
variable (kept.Element n) = array_for (space_of_element n)

abbrev pub place : Kept → ℕ
place (kept.Scratch n) = 0
place (kept.Register k) = 0
place (kept.Element n) = index_of_element n

pub some_same : {X : Type 0} {x y : X} → Some x ≡ Some y → x ≡ y
some_same e = cc e

differ : (x y : ℕ) → (x ≡ y) ⊎ (x ≢ y)
differ x y = grind arith

-- A WORD OF A SPACE CHANGES: others stay.
same_word : (i j : ℕ) → j / 4 ≡ i / 4 → j % 4 ≡ i % 4 → j ≡ i
same_word i j d r = omega (arith, d, r)

tests : (a b c d : ℕ) → (nat_eq a b && nat_eq c d ≡ true) ⊎ (nat_eq a b && nat_eq c d ≡ false)
tests a b c d = grind arith

module _ (t : Words) (r : Registers) (sp : Space) (i w : ℕ) (e : with_word t.registers sp i w ≡ Some r) where
  pub written_here : element_at (words t.scratch r) sp i ≡ w
  written_here = here sp e where
    here : (sp : Space) → with_word t.registers sp i w ≡ Some r → element_at (words t.scratch r) sp i ≡ w
    here space.Temps e = let q = some_same e in subst (λ (x : Registers). x.temp (i / 4) (i % 4) ≡ w) q (grind arith)
    here (space.Indexable slot) e = let q = some_same e in subst (λ (x : Registers). x.indexable slot (i / 4) (i % 4) ≡ w) q (grind arith)
    here (space.Constant slot) e = absurd (cc e)
    here space.ImmediateConstant e = absurd (cc e)

-- where a word of a space is kept
abbrev pub IsAt : Space → ℕ → Kept → Type 0
IsAt space.Temps i (kept.Register k) = k ≡ i
IsAt sp i (kept.Element n) = (space_of_element n ≡ sp) × (index_of_element n ≡ i)
IsAt sp i k = ⊥

temp_other : (i j w x : ℕ) → j ≢ i → (if nat_eq (j / 4) (i / 4) && nat_eq (j % 4) (i % 4) then w else x) ≡ x
temp_other i j w x ne = by (nat_eq (j / 4) (i / 4)) (nat_eq (j % 4) (i % 4)) refl refl where
  by : (b c : Bool) → nat_eq (j / 4) (i / 4) ≡ b → nat_eq (j % 4) (i % 4) ≡ c → (if b && c then w else x) ≡ x
  by true true p q = absurd (ne (same_word i j (eqb-true _ _ p) (eqb-true _ _ q)))
  by true false p q = refl
  by false c p q = refl

slot_other : (a b : Bool) (w x : ℕ) → a ≡ false → (if a && b then w else x) ≡ x
slot_other a b w x e = ap (λ c. if c && b then w else x) e

not_eq : (a b : ℕ) → a ≢ b → nat_eq a b ≡ false
not_eq a b ne = grind (arith, nat_tests, ne)

-- the words of registers and of elements at other places stay
abbrev pub IsApart : Space → ℕ → Space → ℕ → Type 0
IsApart a i b j = a ≡ b → i ≡ j → ⊥

slot_same : (a b : ℕ) → a ≡ b → space.Indexable a ≡ space.Indexable b
slot_same a b e = ap (λ s. space.Indexable s) e

pub element_other : (t : Words) (r : Registers) (sp : Space) (i w : ℕ) → with_word t.registers sp i w ≡ Some r → (b : Space) (j : ℕ)
    → IsApart b j sp i
    → element_at (words t.scratch r) b j ≡ element_at t b j
element_other t r space.Temps i w e space.Temps j ne =
    let q = some_same e in
    subst (λ (x : Registers). x.temp (j / 4) (j % 4) ≡ t.registers.temp (j / 4) (j % 4)) q (temp_other i j w (t.registers.temp (j / 4) (j % 4))
    (λ z. ne refl z))
element_other t r space.Temps i w e (space.Indexable slot) j ne =
    let q = some_same e in
    subst (λ (x : Registers). x.indexable slot (j / 4) (j % 4) ≡ t.registers.indexable slot (j / 4) (j % 4)) q refl
element_other t r space.Temps i w e (space.Constant slot) j ne = refl
element_other t r space.Temps i w e space.ImmediateConstant j ne = refl
element_other t r (space.Indexable slot) i w e space.Temps j ne =
    let q = some_same e in
    subst (λ (x : Registers). x.temp (j / 4) (j % 4) ≡ t.registers.temp (j / 4) (j % 4)) q refl
element_other t r (space.Indexable slot) i w e (space.Indexable other) j ne =
    let q = some_same e in
    subst (λ (x : Registers). x.indexable other (j / 4) (j % 4) ≡ t.registers.indexable other (j / 4) (j % 4)) q
    (⊎_elim
    (λ (s : other ≡ slot). let d : j ≢ i = λ z. ne (slot_same other slot s) z in
    ap (λ c. if c && (nat_eq (j / 4) (i / 4) && nat_eq (j % 4) (i % 4)) then w else t.registers.indexable other (j / 4) (j % 4)) (eq-eqb other slot s)
    ∙ temp_other i j w (t.registers.indexable other (j / 4) (j % 4)) d)
    (λ (s : other ≢ slot). slot_other (nat_eq other slot) (nat_eq (j / 4) (i / 4) && nat_eq (j % 4) (i % 4)) w
    (t.registers.indexable other (j / 4) (j % 4)) (not_eq other slot s))
    (differ other slot))
element_other t r (space.Indexable slot) i w e (space.Constant other) j ne = refl
element_other t r (space.Indexable slot) i w e space.ImmediateConstant j ne = refl
element_other t r (space.Constant slot) i w e b j ne = absurd (cc e)
element_other t r space.ImmediateConstant i w e b j ne = absurd (cc e)

pub word_other : (t : Words) (r : Registers) (sp : Space) (i w : ℕ) → with_word t.registers sp i w ≡ Some r → (k : Kept) → (IsAt sp i k → ⊥)
    → word_of (words t.scratch r) k ≡ word_of t k
word_other t r sp i w e (kept.Scratch n) ne = refl
word_other t r space.Temps i w e (kept.Register k) ne = element_other t r space.Temps i w e space.Temps k (λ s z. ne z)
word_other t r (space.Indexable slot) i w e (kept.Register k) ne = element_other t r (space.Indexable slot) i w e space.Temps k (λ s z. absurd (cc s))
word_other t r (space.Constant slot) i w e (kept.Register k) ne = absurd (cc e)
word_other t r space.ImmediateConstant i w e (kept.Register k) ne = absurd (cc e)
word_other t r sp i w e (kept.Element n) ne = element_other t r sp i w e (space_of_element n) (index_of_element n) (λ s z. ne (at_element sp i n s z))
  where
    at_element : (sp : Space) (i n : ℕ) → space_of_element n ≡ sp → index_of_element n ≡ i → IsAt sp i (kept.Element n)
    at_element space.Temps i n s z = (s, z)
    at_element (space.Indexable slot) i n s z = (s, z)
    at_element (space.Constant slot) i n s z = (s, z)
    at_element space.ImmediateConstant i n s z = (s, z)

-- A STORE to a word of a symbol's variable.
abbrev pub stored : (ℕ → ℕ → Option ℕ) → ℕ → ℕ → ℕ → ℕ → ℕ → Option ℕ
stored memory v i w = with_at memory v (with_words (memory v) i (w ∷ []))

-- what a store to a variable changes in what its symbol says of its cells, and that others stay
pub record StoresWell (f : Frame) (y : Symbol) (i w : ℕ) (old new : List Kept) (t u : Words) : Type 0 where
  pub own : (cells : ℕ → Option ℕ) → Holds f cells old t y → Holds f (with_at cells i (Some w)) new u y
  pub other : (cells : ℕ → Option ℕ) (x : Symbol) → x ≢ y → Holds f cells old t x → Holds f cells new u x

pub stored_cells : (e : Emission) (z : Site) (y : Symbol) (v i w : ℕ) (old new : List Kept) (t u : Words) (memory : ℕ → ℕ → Option ℕ)
    → Completes e z → Has z.names y v → StoresWell z.frame y i w old new t u
    → ((x : Symbol) (id : ℕ) → Has z.names x id → Holds z.frame (memory id) old t x)
    → (x : Symbol) (id : ℕ) → Has z.names x id → Holds z.frame (stored memory v i w id) new u x
stored_cells e z y v i w old new t u memory c has h cells x id k =
    ⊎_elim
    (λ (q : id ≡ v).
    let same : x ≡ y = c.apart x y id k (subst (λ n. Has z.names y n) (sym q) has) in
    let here : stored memory v i w id ≡ with_at (memory v) i (Some w) =
    ap (stored memory v i w) q ∙ at_same memory v (with_words (memory v) i (w ∷ [])) in
    subst (λ f. Holds z.frame f new u x) (sym here)
    (subst (λ s. Holds z.frame (with_at (memory v) i (Some w)) new u s) (sym same)
    (h.own (memory v) (subst (λ n. Holds z.frame (memory n) old t y) q (subst (λ s. Holds z.frame (memory id) old t s) same (cells x id k))))))
    (λ (ne : id ≢ v).
    let apart' : x ≢ y = λ q. ne (c.single y id v (subst (λ s. Has z.names s id) q k) has) in
    subst (λ f. Holds z.frame f new u x) (sym (at_other memory v id (with_words (memory v) i (w ∷ [])) ne))
    (h.other (memory id) x apart' (cells x id k)))
    (differ id v)

-- A WORD THAT WAITED goes to its variable.
pub element_space : (n : ℕ) → (space_of_element n ≡ space.Temps) ⊎ ((slot : ℕ) × (space_of_element n ≡ space.Indexable slot))
element_space n = by (nat_eq (n / per_array) 0) refl where
  by : (b : Bool) → nat_eq (n / per_array) 0 ≡ b → (space_of_element n ≡ space.Temps) ⊎ ((slot : ℕ) × (space_of_element n ≡ space.Indexable slot))
  by true e = inl (ap (λ b. if b then space.Temps else space.Indexable (n / per_array - 1)) e)
  by false e = inr (n / per_array - 1, ap (λ b. if b then space.Temps else space.Indexable (n / per_array - 1)) e)

temps_first : (n : ℕ) → space_of_element n ≡ space.Temps → n / per_array ≡ 0
temps_first n e = by (nat_eq (n / per_array) 0) refl where
  by : (b : Bool) → nat_eq (n / per_array) 0 ≡ b → n / per_array ≡ 0
  by true q = eqb-true _ _ q
  by false q = absurd (cc (sym (ap (λ b. if b then space.Temps else space.Indexable (n / per_array - 1)) q) ∙ e))

slot_of_element : (n slot : ℕ) → space_of_element n ≡ space.Indexable slot → n / per_array ≡ slot + 1
slot_of_element n slot e = by (nat_eq (n / per_array) 0) refl where
  by : (b : Bool) → nat_eq (n / per_array) 0 ≡ b → n / per_array ≡ slot + 1
  by true q = absurd (cc (sym (ap (λ b. if b then space.Temps else space.Indexable (n / per_array - 1)) q) ∙ e))
  by false q =
      let same : n / per_array - 1 ≡ slot = cc (sym (ap (λ b. if b then space.Temps else space.Indexable (n / per_array - 1)) q) ∙ e) in
      let some : n / per_array ≢ 0 = λ z. eqb-false (n / per_array) 0 q z in
      omega (arith, same, some)

-- no two words of arrays have one place
pub element_placed : (m n : ℕ) → space_of_element m ≡ space_of_element n → index_of_element m ≡ index_of_element n → m ≡ n
element_placed m n s i =
    let d : m / per_array ≡ n / per_array = ⊎_elim
    (λ (e : space_of_element n ≡ space.Temps). temps_first m (s ∙ e) ∙ sym (temps_first n e))
    (λ (e : (slot : ℕ) × (space_of_element n ≡ space.Indexable slot)). slot_of_element m e.0 (s ∙ e.1) ∙ sym (slot_of_element n e.0 e.1))
    (element_space n) in
    omega (arith, d, i)

module _ (f : Frame) (k : Kept) (old new : List Kept) (t : Words) (h : (x : Kept) → Among old x → (x ≡ k) ⊎ Among new x) where
  -- a word that is clean behind the store was so, if it is another
  clean_other : (x : Kept) → x ≢ k → IsClean new x → IsClean old x
  clean_other x ne clean a = ⊎_elim ne clean (h x a)

  array_other : (sp : Space) → array_for sp ≢ variable k → (cells : ℕ → Option ℕ) → HoldsArray f cells old t sp → HoldsArray f cells new t sp
  array_other sp ne cells a i lt clean =
      a i lt (λ n s z. clean_other (kept.Element n) (λ q. ne (ap array_for (sym s) ∙ ap variable q)) (clean n s z))

  flush_other : (cells : ℕ → Option ℕ) (x : Symbol) → x ≢ variable k → Holds f cells old t x → Holds f cells new t x
  flush_other cells (symbol.AType a) ne a' = tt
  flush_other cells (symbol.Constant w) ne a = tt
  flush_other cells symbol.True ne a = tt
  flush_other cells (symbol.Null n) ne a = tt
  flush_other cells symbol.Immediates ne a = tt
  flush_other cells symbol.Import ne a = tt
  flush_other cells symbol.Main ne a = tt
  flush_other cells symbol.FirstLabel ne a = tt
  flush_other cells (symbol.Input b) ne a = tt
  flush_other cells (symbol.Memory room) ne a = tt
  flush_other cells (symbol.Uniform slot) ne a = tt
  flush_other cells symbol.Push ne a = tt
  flush_other cells (symbol.Scratch n) ne a = λ clean. a (clean_other (kept.Scratch n) (λ q. ne (ap variable q)) clean)
  flush_other cells (symbol.Register n) ne a = λ s clean. a s (clean_other (kept.Register n) (λ q. ne (ap variable q)) clean)
  flush_other cells symbol.Registers ne a = λ s. array_other space.Temps ne cells (a s)
  flush_other cells (symbol.Elements slot) ne a = array_other (space.Indexable slot) ne cells a
  flush_other cells symbol.ImmediateArray ne a = a

element_same : (m n : ℕ) → kept.Element m ≡ kept.Element n → m ≡ n
element_same m n e = cc e

module _ (f : Frame) (n : ℕ) (old new : List Kept) (t : Words) (h : (x : Kept) → Among old x → (x ≡ kept.Element n) ⊎ Among new x) where
  array_own : (sp : Space) → space_of_element n ≡ sp → (cells : ℕ → Option ℕ) → HoldsArray f cells old t sp
      → HoldsArray f (with_at cells (index_of_element n) (Some (word_of t (kept.Element n)))) new t sp
  array_own sp e cells a i lt clean =
      ⊎_elim
      (λ (q : i ≡ index_of_element n).
      ap (with_at cells (index_of_element n) (Some (word_of t (kept.Element n)))) q
      ∙ (at_same cells (index_of_element n) (Some (word_of t (kept.Element n)))
      ∙ (ap (λ s. Some (element_at t s (index_of_element n))) e ∙ ap (λ j. Some (element_at t sp j)) (sym q))))
      (λ (ne : i ≢ index_of_element n).
      at_other cells (index_of_element n) i (Some (word_of t (kept.Element n))) ne
      ∙ a i lt (λ m s z. clean_other f (kept.Element n) old new t h (kept.Element m)
      (λ q. ne (sym z ∙ ap index_of_element (element_same m n q))) (clean m s z)))
      (differ i (index_of_element n))

pub flushes_well : (f : Frame) (k : Kept) (old new : List Kept) (t : Words) → ((x : Kept) → Among old x → (x ≡ k) ⊎ Among new x)
    → StoresWell f (variable k) (place k) (word_of t k) old new t t
flushes_well f k old new t h = record { own = own k h; other = flush_other f k old new t h } where
  own : (k : Kept) → ((x : Kept) → Among old x → (x ≡ k) ⊎ Among new x) → (cells : ℕ → Option ℕ) → Holds f cells old t (variable k)
      → Holds f (with_at cells (place k) (Some (word_of t k))) new t (variable k)
  own (kept.Scratch n) h cells a = λ clean. at_same cells 0 (Some (t.scratch n))
  own (kept.Register n) h cells a = λ s clean. at_same cells 0 (Some (word_of t (kept.Register n)))
  own (kept.Element n) h cells a =
      ⊎_elim
      (λ (e : space_of_element n ≡ space.Temps).
      subst (λ s. Holds f (with_at cells (index_of_element n) (Some (word_of t (kept.Element n)))) new t (array_for s)) (sym e)
      (λ sep. array_own f n old new t h space.Temps e cells (subst (λ s. Holds f cells old t (array_for s)) e a sep)))
      (λ (e : (slot : ℕ) × (space_of_element n ≡ space.Indexable slot)).
      subst (λ s. Holds f (with_at cells (index_of_element n) (Some (word_of t (kept.Element n)))) new t (array_for s)) (sym e.1)
      (array_own f n old new t h (space.Indexable e.0) e.1 cells (subst (λ s. Holds f cells old t (array_for s)) e.1 a)))
      (element_space n)

-- A WRITE to a word of an array, while no word of an array waits.
array_same : (a b : Space) → IsArraySpace a → IsArraySpace b → array_for a ≡ array_for b → a ≡ b
array_same space.Temps space.Temps p q e = refl
array_same space.Temps (space.Indexable x) p q e = absurd (cc e)
array_same space.Temps (space.Constant x) p q e = absurd q
array_same space.Temps space.ImmediateConstant p q e = absurd q
array_same (space.Indexable x) space.Temps p q e = absurd (cc e)
array_same (space.Indexable x) (space.Indexable y) p q e = let s : x ≡ y = cc e in slot_same x y s
array_same (space.Indexable x) (space.Constant y) p q e = absurd q
array_same (space.Indexable x) space.ImmediateConstant p q e = absurd q
array_same (space.Constant x) b p q e = absurd p
array_same space.ImmediateConstant b p q e = absurd p

module _ (f : Frame) (sp : Space) (i w : ℕ) (old new : List Kept) (t : Words) (r : Registers) (e : with_word t.registers sp i w ≡ Some r)
    (array : IsArraySpace sp) (used : sp ≡ space.Temps → f.separate ≡ false) (same : (x : Kept) → Among old x → Among new x)
    (none : (n : ℕ) → Among old (kept.Element n) → ⊥) where
  clean_old : (x : Kept) → IsClean new x → IsClean old x
  clean_old x clean a = clean (same x a)

  write_array : (b : Space) → IsArraySpace b → array_for b ≢ array_for sp → (cells : ℕ → Option ℕ) → HoldsArray f cells old t b
      → HoldsArray f cells new (words t.scratch r) b
  write_array b p ne cells a j lt clean =
      a j lt (λ n s z. clean_old (kept.Element n) (clean n s z))
      ∙ ap Some (sym (element_other t r sp i w e b j (λ q z. ne (ap array_for q))))

  write_other : (cells : ℕ → Option ℕ) (x : Symbol) → x ≢ array_for sp → Holds f cells old t x → Holds f cells new (words t.scratch r) x
  write_other cells (symbol.AType a) ne a' = tt
  write_other cells (symbol.Constant x) ne a = tt
  write_other cells symbol.True ne a = tt
  write_other cells (symbol.Null n) ne a = tt
  write_other cells symbol.Immediates ne a = tt
  write_other cells symbol.Import ne a = tt
  write_other cells symbol.Main ne a = tt
  write_other cells symbol.FirstLabel ne a = tt
  write_other cells (symbol.Input b) ne a = tt
  write_other cells (symbol.Memory room) ne a = tt
  write_other cells (symbol.Uniform slot) ne a = tt
  write_other cells symbol.Push ne a = tt
  write_other cells (symbol.Scratch n) ne a = λ clean. a (clean_old (kept.Scratch n) clean)
  write_other cells (symbol.Register k) ne a = λ s clean.
      a s (clean_old (kept.Register k) clean)
      ∙ ap Some (sym (element_other t r sp i w e space.Temps k (λ q z. absurd (cc (sym s ∙ used (sym q))))))
  write_other cells symbol.Registers ne a = λ s. write_array space.Temps tt ne cells (a s)
  write_other cells (symbol.Elements slot) ne a = write_array (space.Indexable slot) tt ne cells a
  write_other cells symbol.ImmediateArray ne a = a

  write_here : (cells : ℕ → Option ℕ) → HoldsArray f cells old t sp → HoldsArray f (with_at cells i (Some w)) new (words t.scratch r) sp
  write_here cells a j lt clean =
      ⊎_elim
      (λ (q : j ≡ i). ap (with_at cells i (Some w)) q ∙ (at_same cells i (Some w)
      ∙ ap Some (sym (ap (element_at (words t.scratch r) sp) q ∙ written_here t r sp i w e))))
      (λ (ne : j ≢ i). at_other cells i j (Some w) ne
      ∙ (a j lt (λ n s z. none n) ∙ ap Some (sym (element_other t r sp i w e sp j (λ q z. ne z)))))
      (differ j i)

pub writes_well : (f : Frame) (sp : Space) (i w : ℕ) (old new : List Kept) (t : Words) (r : Registers) → with_word t.registers sp i w ≡ Some r
    → IsArraySpace sp → (sp ≡ space.Temps → f.separate ≡ false) → ((x : Kept) → Among old x → Among new x)
    → ((n : ℕ) → Among old (kept.Element n) → ⊥) → StoresWell f (array_for sp) i w old new t (words t.scratch r)
writes_well f sp i w old new t r e array used same none =
    record { own = own sp e array used; other = write_other f sp i w old new t r e array used same none } where
      own : (sp : Space) → with_word t.registers sp i w ≡ Some r → IsArraySpace sp → (sp ≡ space.Temps → f.separate ≡ false)
          → (cells : ℕ → Option ℕ) → Holds f cells old t (array_for sp) → Holds f (with_at cells i (Some w)) new (words t.scratch r) (array_for sp)
      own space.Temps e p u cells a = λ s. write_here f space.Temps i w old new t r e p u same none cells (a s)
      own (space.Indexable slot) e p u cells a = write_here f (space.Indexable slot) i w old new t r e p u same none cells a
      own (space.Constant slot) e p u cells a = absurd p
      own space.ImmediateConstant e p u cells a = absurd p

-- A WORD THAT WAITS.
scratch_same : (x y : ℕ) → kept.Scratch x ≡ kept.Scratch y → x ≡ y
scratch_same x y e = cc e

register_same : (x y : ℕ) → kept.Register x ≡ kept.Register y → x ≡ y
register_same x y e = cc e

pub kept_differ : (a b : Kept) → (a ≡ b) ⊎ (a ≢ b)
kept_differ (kept.Scratch m) (kept.Scratch n) = ⊎_elim (λ q. inl (ap (λ x. kept.Scratch x) q)) (λ d. inr (λ e. d (scratch_same m n e))) (differ m n)
kept_differ (kept.Scratch m) (kept.Register n) = inr (λ e. absurd (cc e))
kept_differ (kept.Scratch m) (kept.Element n) = inr (λ e. absurd (cc e))
kept_differ (kept.Register m) (kept.Scratch n) = inr (λ e. absurd (cc e))
kept_differ (kept.Register m) (kept.Register n) = ⊎_elim (λ q. inl (ap (λ x. kept.Register x) q)) (λ d. inr (λ e. d (register_same m n e)))
    (differ m n)
kept_differ (kept.Register m) (kept.Element n) = inr (λ e. absurd (cc e))
kept_differ (kept.Element m) (kept.Scratch n) = inr (λ e. absurd (cc e))
kept_differ (kept.Element m) (kept.Register n) = inr (λ e. absurd (cc e))
kept_differ (kept.Element m) (kept.Element n) = ⊎_elim (λ q. inl (ap (λ x. kept.Element x) q)) (λ d. inr (λ e. d (element_same m n e))) (differ m n)

-- how the words of the lane change where one word gets another value, as far as words are used
pub record PutsWell (f : Frame) (k : Kept) (w : ℕ) (old new : List Kept) (t u : Words) : Type 0 where
  pub here : word_of u k ≡ w
  pub other : (x : Kept) → IsUsed f x → x ≢ k → word_of u x ≡ word_of t x
  pub inside : IsUsed f k × IsInside f k
  pub cells : (cells : ℕ → Option ℕ) (y : Symbol) → Holds f cells old t y → Holds f cells new u y

pub put_mirrors : (z : Site) (a b : Table) (k : Kept) (r w : ℕ) (s : State) (t u : Words) → Puts a b k r → PutsWell z.frame k w (dirty_in a)
    (dirty_in b) t u
    → s.values r ≡ Some (value.Word w) → Mirrors z a s t → Mirrors z b s u
put_mirrors z a b k r w s t u h p v m = record {
  knows = m.knows;
  ids = λ x id i used. ⊎_elim
      (λ (q : x ≡ k).
      let same : r ≡ id = some_same (sym h.here ∙ (ap (id_in b) (sym q) ∙ i)) in
      ap s.values (sym same) ∙ (v ∙ ap (λ y. Some (value.Word y)) (sym (ap (word_of u) q ∙ p.here))))
      (λ d. m.ids x id (sym (h.other x d) ∙ i) used ∙ ap (λ y. Some (value.Word y)) (sym (p.other x used d))) (kept_differ x k);
  inside = λ x i. ⊎_elim (λ q. subst (λ y. IsUsed z.frame y × IsInside z.frame y) (sym q) p.inside) (λ j. m.inside x j) (h.dirty x i);
  cells = λ y id i. p.cells (s.memory id) y (m.cells y id i);
}

module _ (f : Frame) (n w : ℕ) (old new : List Kept) (t : Words) (still : (x : Kept) → Among old x → Among new x)
    (marked : Among new (kept.Scratch n)) where
  scratch_other : (x : Kept) → x ≢ kept.Scratch n → word_of (with_scratch t n w) x ≡ word_of t x
  scratch_other (kept.Scratch m) d = at_other t.scratch n m w (λ q. d (ap (λ x. kept.Scratch x) q))
  scratch_other (kept.Register m) d = refl
  scratch_other (kept.Element m) d = refl_of (space_of_element m) where
    refl_of : (sp : Space) → element_at (with_scratch t n w) sp (index_of_element m) ≡ element_at t sp (index_of_element m)
    refl_of space.Temps = refl
    refl_of (space.Indexable slot) = refl
    refl_of (space.Constant slot) = refl
    refl_of space.ImmediateConstant = refl

  scratch_array : (sp : Space) (cells : ℕ → Option ℕ) → HoldsArray f cells old t sp → HoldsArray f cells new (with_scratch t n w) sp
  scratch_array sp cells a i lt clean = a i lt (λ m s z c. clean m s z (still (kept.Element m) c)) ∙ ap Some (same sp) where
    same : (sp : Space) → element_at t sp i ≡ element_at (with_scratch t n w) sp i
    same space.Temps = refl
    same (space.Indexable slot) = refl
    same (space.Constant slot) = refl
    same space.ImmediateConstant = refl

  scratch_cells : (cells : ℕ → Option ℕ) (y : Symbol) → Holds f cells old t y → Holds f cells new (with_scratch t n w) y
  scratch_cells cells (symbol.AType a') a = tt
  scratch_cells cells (symbol.Constant x) a = tt
  scratch_cells cells symbol.True a = tt
  scratch_cells cells (symbol.Null m) a = tt
  scratch_cells cells symbol.Immediates a = tt
  scratch_cells cells symbol.Import a = tt
  scratch_cells cells symbol.Main a = tt
  scratch_cells cells symbol.FirstLabel a = tt
  scratch_cells cells (symbol.Input b) a = tt
  scratch_cells cells (symbol.Memory room) a = tt
  scratch_cells cells (symbol.Uniform slot) a = tt
  scratch_cells cells symbol.Push a = tt
  scratch_cells cells (symbol.Scratch m) a = λ clean.
      a (λ c. clean (still (kept.Scratch m) c))
      ∙ ap Some (sym (scratch_other (kept.Scratch m) (λ q. clean (subst (Among new) (sym q) marked))))
  scratch_cells cells (symbol.Register k) a = λ s clean. a s (λ c. clean (still (kept.Register k) c))
  scratch_cells cells symbol.Registers a = λ s. scratch_array space.Temps cells (a s)
  scratch_cells cells (symbol.Elements slot) a = scratch_array (space.Indexable slot) cells a
  scratch_cells cells symbol.ImmediateArray a = a

  pub sets_well : PutsWell f (kept.Scratch n) w old new t (with_scratch t n w)
  sets_well = record {
    here = at_same t.scratch n w;
    other = λ x used d. scratch_other x d;
    inside = (tt, tt);
    cells = scratch_cells;
  }

-- one word that is used is at a place
at_single : (f : Frame) (sp : Space) (i : ℕ) (k x : Kept) → IsAt sp i k → IsUsed f k → IsAt sp i x → IsUsed f x → x ≡ k
at_single f space.Temps i (kept.Register k) (kept.Register x) p u q v = ap (λ y. kept.Register y) (q ∙ sym p)
at_single f space.Temps i (kept.Register k) (kept.Element n) p u q v = absurd (cc (sym u ∙ v q.0))
at_single f space.Temps i (kept.Element m) (kept.Register x) p u q v = absurd (cc (sym v ∙ u p.0))
at_single f space.Temps i (kept.Element m) (kept.Element n) p u q v = ap (λ y. kept.Element y) (element_placed n m (q.0 ∙ sym p.0) (q.1 ∙ sym p.1))
at_single f space.Temps i (kept.Scratch m) x p u q v = absurd p
at_single f space.Temps i (kept.Register k) (kept.Scratch x) p u q v = absurd q
at_single f space.Temps i (kept.Element k) (kept.Scratch x) p u q v = absurd q
at_single f (space.Indexable slot) i (kept.Element m) (kept.Element n) p u q v = ap (λ y. kept.Element y)
    (element_placed n m (q.0 ∙ sym p.0) (q.1 ∙ sym p.1))
at_single f (space.Indexable slot) i (kept.Element m) (kept.Scratch n) p u q v = absurd q
at_single f (space.Indexable slot) i (kept.Element m) (kept.Register n) p u q v = absurd q
at_single f (space.Indexable slot) i (kept.Scratch m) x p u q v = absurd p
at_single f (space.Indexable slot) i (kept.Register m) x p u q v = absurd p
at_single f (space.Constant slot) i (kept.Element m) (kept.Element n) p u q v = ap (λ y. kept.Element y)
    (element_placed n m (q.0 ∙ sym p.0) (q.1 ∙ sym p.1))
at_single f (space.Constant slot) i (kept.Element m) (kept.Scratch n) p u q v = absurd q
at_single f (space.Constant slot) i (kept.Element m) (kept.Register n) p u q v = absurd q
at_single f (space.Constant slot) i (kept.Scratch m) x p u q v = absurd p
at_single f (space.Constant slot) i (kept.Register m) x p u q v = absurd p
at_single f space.ImmediateConstant i (kept.Element m) (kept.Element n) p u q v = ap (λ y. kept.Element y)
    (element_placed n m (q.0 ∙ sym p.0) (q.1 ∙ sym p.1))
at_single f space.ImmediateConstant i (kept.Element m) (kept.Scratch n) p u q v = absurd q
at_single f space.ImmediateConstant i (kept.Element m) (kept.Register n) p u q v = absurd q
at_single f space.ImmediateConstant i (kept.Scratch m) x p u q v = absurd p
at_single f space.ImmediateConstant i (kept.Register m) x p u q v = absurd p

module _ (f : Frame) (sp : Space) (i w : ℕ) (k : Kept) (old new : List Kept) (t : Words) (r : Registers) (e : with_word t.registers sp i w ≡ Some r)
    (at : IsAt sp i k) (used : IsUsed f k) (inside : IsInside f k) (still : (x : Kept) → Among old x → Among new x) (marked : Among new k) where
  -- a place of an array whose words do not wait is another
  put_apart : (b : Space) (j : ℕ) → (b ≡ space.Temps → f.separate ≡ false) → IsCleanAt new b j → IsApart b j sp i
  put_apart b j u clean s z = by k at used marked where
    by : (k : Kept) → IsAt sp i k → IsUsed f k → Among new k → ⊥
    by (kept.Scratch n) p v m = at_scratch sp p where
      at_scratch : (sp : Space) → IsAt sp i (kept.Scratch n) → ⊥
      at_scratch space.Temps p = p
      at_scratch (space.Indexable slot) p = p
      at_scratch (space.Constant slot) p = p
      at_scratch space.ImmediateConstant p = p
    by (kept.Register n) p v m = at_register sp s p where
      at_register : (sp : Space) → b ≡ sp → IsAt sp i (kept.Register n) → ⊥
      at_register space.Temps s p = absurd (cc (sym v ∙ u s))
      at_register (space.Indexable slot) s p = p
      at_register (space.Constant slot) s p = p
      at_register space.ImmediateConstant s p = p
    by (kept.Element n) p v m = let q = at_element sp p in clean n (q.0 ∙ sym s) (q.1 ∙ sym z) m where
      at_element : (sp : Space) → IsAt sp i (kept.Element n) → (space_of_element n ≡ sp) × (index_of_element n ≡ i)
      at_element space.Temps p = p
      at_element (space.Indexable slot) p = p
      at_element (space.Constant slot) p = p
      at_element space.ImmediateConstant p = p

  put_array : (b : Space) → (b ≡ space.Temps → f.separate ≡ false) → (cells : ℕ → Option ℕ) → HoldsArray f cells old t b → HoldsArray f cells new
      (words t.scratch r) b
  put_array b u cells a j lt clean =
      a j lt (λ m s z c. clean m s z (still (kept.Element m) c))
      ∙ ap Some (sym (element_other t r sp i w e b j (put_apart b j u clean)))

  put_other : (x : Kept) → IsUsed f x → x ≢ k → word_of (words t.scratch r) x ≡ word_of t x
  put_other x u d = word_other t r sp i w e x (λ p. d (at_single f sp i k x at used p u))

  put_cells : (cells : ℕ → Option ℕ) (y : Symbol) → Holds f cells old t y → Holds f cells new (words t.scratch r) y
  put_cells cells (symbol.AType a') a = tt
  put_cells cells (symbol.Constant x) a = tt
  put_cells cells symbol.True a = tt
  put_cells cells (symbol.Null m) a = tt
  put_cells cells symbol.Immediates a = tt
  put_cells cells symbol.Import a = tt
  put_cells cells symbol.Main a = tt
  put_cells cells symbol.FirstLabel a = tt
  put_cells cells (symbol.Input b) a = tt
  put_cells cells (symbol.Memory room) a = tt
  put_cells cells (symbol.Uniform slot) a = tt
  put_cells cells symbol.Push a = tt
  put_cells cells (symbol.Scratch m) a = λ clean. a (λ c. clean (still (kept.Scratch m) c))
  put_cells cells (symbol.Register m) a = λ s clean.
      a s (λ c. clean (still (kept.Register m) c))
      ∙ ap Some (sym (put_other (kept.Register m) s (λ q. clean (subst (Among new) (sym q) marked))))
  put_cells cells symbol.Registers a = λ s. put_array space.Temps (λ q. s) cells (a s)
  put_cells cells (symbol.Elements slot) a = put_array (space.Indexable slot) (λ q. absurd (cc q)) cells a
  put_cells cells symbol.ImmediateArray a = a

  put_here : word_of (words t.scratch r) k ≡ w
  put_here = by k at where
    by : (k : Kept) → IsAt sp i k → word_of (words t.scratch r) k ≡ w
    by (kept.Scratch n) p = absurd (at_scratch sp p) where
      at_scratch : (sp : Space) → IsAt sp i (kept.Scratch n) → ⊥
      at_scratch space.Temps p = p
      at_scratch (space.Indexable slot) p = p
      at_scratch (space.Constant slot) p = p
      at_scratch space.ImmediateConstant p = p
    by (kept.Register n) p = at_register sp e p where
      at_register : (sp : Space) → with_word t.registers sp i w ≡ Some r → IsAt sp i (kept.Register n) → word_of (words t.scratch r) (kept.Register n)
          ≡ w
      at_register space.Temps e p = ap (element_at (words t.scratch r) space.Temps) p ∙ written_here t r space.Temps i w e
      at_register (space.Indexable slot) e p = absurd p
      at_register (space.Constant slot) e p = absurd p
      at_register space.ImmediateConstant e p = absurd p
    by (kept.Element n) p = let q = at_element sp p in
        ap (λ s. element_at (words t.scratch r) s (index_of_element n)) q.0 ∙ (ap (element_at (words t.scratch r) sp) q.1 ∙ written_here t r sp i w e)
      where
        at_element : (sp : Space) → IsAt sp i (kept.Element n) → (space_of_element n ≡ sp) × (index_of_element n ≡ i)
        at_element space.Temps p = p
        at_element (space.Indexable slot) p = p
        at_element (space.Constant slot) p = p
        at_element space.ImmediateConstant p = p

  pub puts_well : PutsWell f k w old new t (words t.scratch r)
  puts_well = record { here = put_here; other = put_other; inside = (used, inside); cells = put_cells }
