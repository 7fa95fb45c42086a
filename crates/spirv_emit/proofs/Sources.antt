-- Words of the lane and words that it is given, by the code that reads them.
use Rattle.std.proofs.Common.{◌≡◌, ℕ, ◌<◌, ◌≤◌, ◌⊎◌, ⊎_elim, inl, inr, List, [], ◌∷◌, Some, refl, sym, ap, ◌∙◌, subst, arith}
use Rattle.std.specs.Prelude.{Ok, Err, nat_eq, nat_lt, Bool, true, false, if◌then◌else◌, length, slice_get}
use Rattle.std.proofs.lemmas.Bool.Decides.{nat_tests}
use Rattle.kept_values.specs.declared.word.Word.{Word as Kept}
use Rattle.kept_values.specs.declared.word.Word.TheVariants as kept
use Rattle.kept_values.specs.Tables.{Table, dirty_in, Among}
use Rattle.shader_tree.specs.declared.node.Space.{Space}
use Rattle.shader_tree.specs.declared.node.Space.TheVariants as space
use Rattle.shader_tree.specs.Values.{Words, size_of, word_in}
use Rattle.spirv_words.specs.StorageClass as storage
use Rattle.spirv_words.specs.Text.{instr}
use Rattle.spirv_words.specs.Values.{Value, Word, Truth, NoParts, Part, AtLocal, AtRoom, AtConstants, AtPush, AtInput, Got, or_rule, word_of}
use Rattle.spirv_words.specs.Globals.{built_in}
use Rattle.spirv_words.specs.Lane.{State}
use Rattle.spirv_symbols.specs.declared.symbol.Symbol.{Symbol}
use Rattle.spirv_symbols.specs.declared.symbol.Symbol.TheVariants.{AType, Constant, Scratch, Register, Registers, Elements, ImmediateArray, Input}
use Rattle.spirv_symbols.specs.declared.symbol.TypeSymbol.TheVariants as type
use Rattle.spirv_symbols.specs.Contexts.{Context}
use Rattle.spirv_symbols.specs.Contexts as context
use Rattle.spirv_symbols.specs.Rows.{needs, words_of}
use Rattle.spirv_symbols.specs.Tables.{Has, AreThere}
use Rattle.spirv_emit.specs.Begun.{IsBegun}
use Rattle.spirv_emit.specs.Code.{type_of_symbol}
use Rattle.spirv_emit.specs.Emission.{Emission, Frame, spaces_of}
use Rattle.spirv_emit.specs.Growing.{Completes}
use Rattle.spirv_emit.specs.Joins.{given, always, joined, only}
use Rattle.spirv_emit.specs.Lanes.{Site, Mirrors, meaning, IsArray, IsUsed, HasSort, word_of as lane_word}
use Rattle.spirv_emit.specs.Reads.{inside, points, given_word, local_at, array_word, space_word, the_word, input_word, flat_word, variable_of, array_of}
use Rattle.spirv_emit.specs.Steps.{Named, Adds}
use Rattle.spirv_emit.specs.Values.{slot, a_word, Meaning, Gives}
use Rattle.spirv_emit.proofs.Chains.{local_chain, triple_chain}
use Rattle.spirv_emit.proofs.Giving.{and_then_ok, ok_same, then', only_gives, weaker, named_gives}
use Rattle.spirv_emit.proofs.Groups.{start, fixed}
use Rattle.spirv_emit.proofs.Loads.{chain_gives, variable_gives, array_gives, given_gives}
use Rattle.spirv_emit.proofs.Room.{has_below}
use Rattle.spirv_emit.proofs.Values.{word_is}

-- WORDS WITH A VARIABLE OF THEIR OWN.
some_same : (s y : Symbol) → Some s ≡ Some y → s ≡ y
some_same s y e = cc e

-- what holds of the variable of each word that has one
by_variable : (P : Kept → Symbol → Type 0) → ((n : ℕ) → P (kept.Scratch n) (Scratch n)) → ((k : ℕ) → P (kept.Register k) (Register k))
    → (w : Kept) (s : Symbol) → variable_of w ≡ Some s → P w s
by_variable P f g (kept.Scratch n) s e = subst (P (kept.Scratch n)) (some_same (Scratch n) s e) (f n)
by_variable P f g (kept.Register n) s e = subst (P (kept.Register n)) (some_same (Register n) s e) (g n)
by_variable P f g (kept.Element n) s e = absurd (cc e)

pub variable_needs : (a : Emission) (w : Kept) (s : Symbol) → variable_of w ≡ Some s → IsBegun a
    → AreThere a.symbols.entries (needs a.frame.context s) a.symbols.next
variable_needs a w s v h = by_variable (λ w s. AreThere a.symbols.entries (needs a.frame.context s) a.symbols.next) (λ n. (local, (none, tt)))
    (λ n. (local, (none, tt))) w s v where
      local : (id : ℕ) × Has a.symbols.entries (AType (type.WordPointer storage.Function)) id × (id < a.symbols.next)
      local = let x = h.fixed.local in (x.0, x.1, has_below a.frame.context a.symbols _ x.0 h.table x.1)

      none : (id : ℕ) × Has a.symbols.entries (Constant 0) id × (id < a.symbols.next)
      none = let x = h.fixed.zero' in (x.0, x.1, has_below a.frame.context a.symbols _ x.0 h.table x.1)

local_cell : (z : Site) (table : Table) (q : State) (t : Words) (p : ℕ) (w : Kept) (s : Symbol) → variable_of w ≡ Some s
    → IsUsed z.frame w → (Among (dirty_in table) w → ⊥) → Has z.names s p → Mirrors z table q t → q.memory p 0 ≡ Some (lane_word t w)
local_cell z table q t p w s v =
    by_variable (λ w s. IsUsed z.frame w → (Among (dirty_in table) w → ⊥) → Has z.names s p → Mirrors z table q t → q.memory p 0 ≡ Some
    (lane_word t w))
    (λ n used clean has mir. mir.cells (Scratch n) p has clean) (λ n used clean has mir. mir.cells (Register n) p has used clean) w s v

local_meaning : (p : ℕ) (w : Kept) (s : Symbol) → variable_of w ≡ Some s → meaning s p ≡ Some (AtLocal p 0)
local_meaning p w s v = by_variable (λ w s. meaning s p ≡ Some (AtLocal p 0)) (λ n. refl) (λ n. refl) w s v

local_type : (c : Context) (w : Kept) (s : Symbol) → variable_of w ≡ Some s → type_of_symbol c s ≡ Some (type.WordPointer storage.Function)
local_type c w s v = by_variable (λ w s. type_of_symbol c s ≡ Some (type.WordPointer storage.Function)) (λ n. refl) (λ n. refl) w s v

pub variable_words : (c : Context) (w : Kept) (s : Symbol) → variable_of w ≡ Some s → words_of c s ≡ 5
variable_words c w s v = by_variable (λ w s. words_of c s ≡ 5) (λ n. refl) (λ n. refl) w s v

pub local_gives : (a b d : Emission) (w : Kept) (s : Symbol) (p t r : ℕ) → variable_of w ≡ Some s → IsUsed a.frame w → (Among (dirty_in a.kept) w → ⊥)
    → Named a b s p
    → Has b.symbols.entries (AType type.Word) t → Adds b d (instr 61 (t ∷ r ∷ p ∷ [])) r → Gives a d [] (a_word r ∷ []) (the_word w)
local_gives a b d w s p t r v used clean n has h =
    let clean' : Among (dirty_in b.kept) w → ⊥ = λ q. clean (subst (λ k. Among (dirty_in k) w) n.kept q) in
    let x = named_gives a b s p (AtLocal p 0) (type.WordPointer storage.Function) (local_meaning p w s v) (local_type b.frame.context w s v) n in
    let y = variable_gives b d s t r p (the_word w) (local_meaning p w s v) n.has has h
    (λ z comp q u vs ws mir e. (
      lane_word u w,
      sym (ok_same _ ws e),
      local_cell z b.kept q u p w s v
          (subst (λ (f : Frame). IsUsed f w) (sym n.grows.same.frame ∙ comp.frame) used) clean' (comp.has s p n.has) mir,
    )) in
    weaker a d [] (a_word r ∷ []) _ (the_word w) (λ z u t ht vs ws e. e) (only_gives _ _ _ _ _ _ (0 ∷ []) (then' _ _ _ _ _ _ _ _ _ (0 ∷ []) x y refl)
    refl)

-- WORDS OF ARRAYS. What their variables hold:
abbrev count_of : Context → Space → ℕ
count_of c space.Temps = c.registers
count_of c (space.Indexable slot) = context.size_of c (Elements slot)
count_of c space.ImmediateConstant = length c.immediates
count_of c (space.Constant slot) = 0

by_array : (P : Space → Symbol → Type 0) → P space.Temps Registers → ((n : ℕ) → P (space.Indexable n) (Elements n))
    → P space.ImmediateConstant ImmediateArray
    → (x : Space) (s : Symbol) → array_of x ≡ Some s → P x s
by_array P f g h space.Temps s e = subst (P space.Temps) (some_same Registers s e) f
by_array P f g h (space.Indexable n) s e = subst (P (space.Indexable n)) (some_same (Elements n) s e) (g n)
by_array P f g h space.ImmediateConstant s e = subst (P space.ImmediateConstant) (some_same ImmediateArray s e) h
by_array P f g h (space.Constant n) s e = absurd (cc e)

array_meaning : (p : ℕ) (x : Space) (s : Symbol) → array_of x ≡ Some s → meaning s p ≡ Some (AtLocal p 0)
array_meaning p x s v = by_array (λ x s. meaning s p ≡ Some (AtLocal p 0)) refl (λ n. refl) refl x s v

array_type : (c : Context) (x : Space) (s : Symbol) → array_of x ≡ Some s → type_of_symbol c s ≡ Some (type.LocalPointer (count_of c x))
array_type c x s v = by_array (λ x s. type_of_symbol c s ≡ Some (type.LocalPointer (count_of c x))) refl (λ n. refl) refl x s v

array_sort : (z : Site) (p : ℕ) (x : Space) (s : Symbol) → array_of x ≡ Some s → HasSort z.machine.code z.frame.context s p
    → IsArray z.machine.code storage.Function p (count_of z.frame.context x)
array_sort z p x s v =
    by_array (λ x s. HasSort z.machine.code z.frame.context s p → IsArray z.machine.code storage.Function p (count_of z.frame.context x))
    (λ h. h) (λ n h. h) (λ h. h) x s v

array_size : (f : Frame) (x : Space) → size_of (spaces_of f) x ≤ count_of f.context x ⊎ ((n : ℕ) × (x ≡ space.Constant n))
array_size f space.Temps = inl (omega arith)
array_size f (space.Indexable n) = inl (omega arith)
array_size f space.ImmediateConstant = inl (omega arith)
array_size f (space.Constant n) = inr (n, refl)

array_fits : (f : Frame) (x : Space) (s : Symbol) → array_of x ≡ Some s → size_of (spaces_of f) x ≤ count_of f.context x
array_fits f x s v = ⊎_elim (λ le. le) (λ q. absurd (no_array q.0 s (ap array_of (sym q.1) ∙ v))) (array_size f x) where
  no_array : (n : ℕ) (s : Symbol) → array_of (space.Constant n) ≡ Some s → ⊥
  no_array n s e = cc e

array_cell : (z : Site) (table : Table) (q : State) (t : Words) (p i : ℕ) (x : Space) (s : Symbol) → array_of x ≡ Some s
    → (x ≡ space.Temps → z.frame.separate ≡ false) → ((n : ℕ) → Among (dirty_in table) (kept.Element n) → ⊥) → Has z.names s p → Mirrors z table q t
    → i < size_of (spaces_of z.frame) x
    → q.memory p i ≡ Some (word_in (spaces_of z.frame) z.machine.setting t.registers x i)
array_cell z table q t p i x s v used clean =
    by_array (λ x s. (x ≡ space.Temps → z.frame.separate ≡ false) → Has z.names s p → Mirrors z table q t → i < size_of (spaces_of z.frame) x
    → q.memory p i ≡ Some (word_in (spaces_of z.frame) z.machine.setting t.registers x i))
    (λ u has mir lt. mir.cells Registers p has (u refl) i lt (λ n a b. clean n)) (λ k u has mir lt. mir.cells (Elements k) p has i lt
    (λ n a b. clean n))
    (λ u has mir lt. mir.cells ImmediateArray p has i lt) x s v used

local_is : (p : ℕ) (v : Value) (i : ℕ) → local_at p v ≡ Ok i → v ≡ AtLocal p i
local_is p (AtLocal q k) i e = by (nat_eq q p) refl e where
  by : (b : Bool) → nat_eq q p ≡ b → (let g : Got ℕ = if b then Ok k else Err 1 in g ≡ Ok i) → AtLocal q k ≡ AtLocal p i
  by true d e = let same : q ≡ p = grind (arith, nat_tests, d) in ap (λ q. AtLocal q k) same ∙ ap (AtLocal p) (ok_same k i e)
  by false d e = absurd (cc e)
local_is p (Word x) i e = absurd (cc e)
local_is p (Truth x) i e = absurd (cc e)
local_is p NoParts i e = absurd (cc e)
local_is p (Part x y) i e = absurd (cc e)
local_is p (AtRoom x y) i e = absurd (cc e)
local_is p (AtConstants x y) i e = absurd (cc e)
local_is p (AtPush x) i e = absurd (cc e)
local_is p (AtInput x y) i e = absurd (cc e)

pub inside_ok : (n i : ℕ) (x v : Value) → inside (nat_lt i n) x ≡ Ok v → (i < n) × (nat_lt i n ≡ true) × (x ≡ v)
inside_ok n i x v e = by (nat_lt i n) refl e where
  by : (b : Bool) → nat_lt i n ≡ b → inside b x ≡ Ok v → (i < n) × (nat_lt i n ≡ true) × (x ≡ v)
  by true d e = (grind (arith, nat_tests, d), d, ok_same x v e)
  by false d e = absurd (cc e)

abbrev array_by : ℕ → Space → Meaning
array_by p x =
    only (0 ∷ []) (joined (joined (joined given [] (always (AtLocal p 0))) (0 ∷ 1 ∷ []) (points (λ z. size_of (spaces_of z.frame) x) (AtLocal p)))
    (0 ∷ []) (array_word p x))

same_number : (p : ℕ) → nat_eq p p ≡ true
same_number p = grind (arith, nat_tests)

abbrev one : Value → Got (List Value)
one v = Ok (v ∷ [])

array_is : (p : ℕ) (x : Space) (z : Site) (t : Words) (vs ws : List Value) → space_word x z t vs ≡ Ok ws → array_by p x z t vs ≡ Ok ws
array_is p x z t [] ws e = absurd (cc e)
array_is p x z t (y ∷ u ∷ vs) ws e = absurd (cc e)
array_is p x z t (y ∷ []) ws e =
    let g = and_then_ok (word_of (Some y)) _ ws e in
    let f = and_then_ok (inside (nat_lt g.0 (size_of (spaces_of z.frame) x)) (Word (word_in (spaces_of z.frame) z.machine.setting t.registers x g.0)))
    _ ws g.2 in
    let k = inside_ok (size_of (spaces_of z.frame) x) g.0 _ f.0 f.1 in
    let words : array_by p x z t (Word g.0 ∷ []) ≡ Ok ws = rw (k.1, same_number p, k.1) (ap (λ v. one v) k.2 ∙ f.2) in
    ap (λ y. array_by p x z t (y ∷ [])) (word_is y g.0 g.1) ∙ words

pub arrays : (a d e : Emission) (x : Space) (s : Symbol) (i p t q w r : ℕ) → array_of x ≡ Some s → (x ≡ space.Temps → a.frame.separate ≡ false)
    → IsBegun a → ((n : ℕ) → Among (dirty_in d.kept) (kept.Element n) → ⊥)
    → Has a.symbols.entries s p → Has a.symbols.entries (AType (type.WordPointer storage.Function)) t → Adds a d (instr 65 (t ∷ q ∷ p ∷ i ∷ [])) q
    → Has d.symbols.entries (AType type.Word) w → Has d.symbols.entries s p → Adds d e (instr 61 (w ∷ r ∷ q ∷ [])) r
    → Gives a e (a_word i ∷ []) (a_word r ∷ []) (space_word x)
arrays a d e x s i p t q w r v used h clean has pointer chain word has' load =
    let count = count_of a.frame.context x in
    let size : Site → ℕ = λ z. size_of (spaces_of z.frame) x in
    let xs = a_word i ∷ [] in
    let v0 = fixed a s p (AtLocal p 0) (type.LocalPointer count) (array_meaning p x s v) (array_type a.frame.context x s v) h has in
    let c = chain_gives a d s storage.Function t q p (type.LocalPointer count) (AtLocal p 0) size (AtLocal p) (array_meaning p x s v) refl has pointer
    i chain
    (λ z k is. (refl, is))
    (λ z comp k lt.
    let le = array_fits z.frame x s v in
    let small : k < size_of (spaces_of z.frame) x = grind (arith, nat_tests, lt) in
    let inn : nat_lt k (count_of z.frame.context x) ≡ true = (let l : k < count_of z.frame.context x = omega (arith, small, le) in
    grind (arith, nat_tests, l)) in
    local_chain z.machine p (count_of z.frame.context x) k (array_sort z p x s v (comp.whole.sorts s p (comp.has s p has))) inn) in
    let l = array_gives d e s w r p q (array_word p x) has' word load (λ z comp o u vs ws mir e. loaded z comp o u vs ws mir e) in
    let p1 = then' _ _ _ _ _ _ _ _ _ [] (start a xs) v0 refl in
    let p2 = then' _ _ _ _ _ _ _ _ _ (0 ∷ 1 ∷ []) p1 c refl in
    let p3 = then' _ _ _ _ _ _ _ _ _ (0 ∷ []) p2 l refl in
    weaker a e xs (a_word r ∷ []) (array_by p x) (space_word x) (λ z u t ht vs ws e. array_is p x z t vs ws e)
    (only_gives _ _ _ _ _ _ (0 ∷ []) p3 refl) where
      loaded : (z : Site) → Completes d z → (o : State) (u : Words) (vs ws : List Value) → Mirrors z d.kept o u → array_word p x z u vs ≡ Ok ws
          → (i : ℕ) × (y : ℕ) × (vs ≡ AtLocal p i ∷ []) × (ws ≡ Word y ∷ []) × (o.memory p i ≡ Some y)
      loaded z comp o u [] ws mir e = absurd (cc e)
      loaded z comp o u (l ∷ m ∷ vs) ws mir e = absurd (cc e)
      loaded z comp o u (l ∷ []) ws mir e =
          let g = and_then_ok (local_at p l) _ ws e in
          let f = and_then_ok (inside (nat_lt g.0 (size_of (spaces_of z.frame) x))
          (Word (word_in (spaces_of z.frame) z.machine.setting u.registers x g.0))) _ ws g.2 in
          let k = inside_ok (size_of (spaces_of z.frame) x) g.0 _ f.0 f.1 in (
            g.0,
            word_in (spaces_of z.frame) z.machine.setting u.registers x g.0,
            ap (λ v. v ∷ []) (local_is p l g.0 g.1),
            sym (ok_same _ ws f.2) ∙ ap (λ v. v ∷ []) (sym k.2),
            array_cell z d.kept o u p g.0 x s v (λ q. subst (λ (f : Frame). f.separate ≡ false) (sym chain.same.frame ∙ comp.frame) (used q)) clean
                (comp.has s p has') mir k.0,
          )

-- INPUTS.
abbrev flat_by : Meaning
flat_by = only (0 ∷ []) (joined (always (AtInput 29 0)) (0 ∷ []) given_word)

flat_is : (z : Site) (t : Words) (vs ws : List Value) → flat_word z t vs ≡ Ok ws → flat_by z t vs ≡ Ok ws
flat_is z t vs ws e = e

abbrev component_by : ℕ → ℕ → Meaning
component_by kind k =
    only (0 ∷ []) (joined (joined (joined (always (Word k)) [] (always (AtInput kind 0))) (0 ∷ 1 ∷ []) (points (λ z. 3) (AtInput kind)))
    (0 ∷ []) given_word)

component_is : (kind k : ℕ) → nat_lt k 3 ≡ true → (z : Site) (t : Words) (vs ws : List Value) → input_word kind k z t vs ≡ Ok ws
    → component_by kind k z t vs ≡ Ok ws
component_is kind k few z t vs ws e = let g = and_then_ok (or_rule 7 (slice_get (built_in z.machine.setting.ids kind) k)) _ ws e in rw (few, g.1) g.2

pub flat : (a d : Emission) (p w r : ℕ) → IsBegun a → Has a.symbols.entries (Input 29) p → Has a.symbols.entries (AType type.Word) w
    → Adds a d (instr 61 (w ∷ r ∷ p ∷ [])) r → Gives a d [] (a_word r ∷ []) flat_word
flat a d p w r h has word load =
    let v = fixed a (Input 29) p (AtInput 29 0) (type.WordPointer storage.Input) refl refl h has in
    let l = given_gives a d storage.Input w r p refl word load in
    weaker a d [] (a_word r ∷ []) flat_by flat_word (λ z u t ht vs ws e. flat_is z t vs ws e)
    (only_gives _ _ _ _ _ _ (0 ∷ []) (then' _ _ _ _ _ _ _ _ _ (0 ∷ []) v l refl) refl)

component_type : (c : Context) (kind : ℕ) → nat_eq kind 29 ≡ false → type_of_symbol c (Input kind) ≡ Some type.TriplePointer
component_type c kind e = rw e refl

pub components : (a b d e : Emission) (kind k i p t q w r : ℕ) → kind < 29 → k < 3 → IsBegun b → Gives a b [] (a_word i ∷ []) (always (Word k))
    → Has b.symbols.entries (Input kind) p → Has b.symbols.entries (AType (type.WordPointer storage.Input)) t
    → Adds b d (instr 65 (t ∷ q ∷ p ∷ i ∷ [])) q
    → Has d.symbols.entries (AType type.Word) w → Adds d e (instr 61 (w ∷ r ∷ q ∷ [])) r → Gives a e [] (a_word r ∷ []) (input_word kind k)
components a b d e kind k i p t q w r low small h index has pointer chain word load =
    let other : nat_eq kind 29 ≡ false = grind (arith, nat_tests, low) in
    let few : nat_lt k 3 ≡ true = grind (arith, nat_tests, small) in
    let v = fixed b (Input kind) p (AtInput kind 0) type.TriplePointer refl (component_type b.frame.context kind other) h has in
    let c = chain_gives b d (Input kind) storage.Input t q p type.TriplePointer (AtInput kind 0) (λ z. 3) (AtInput kind) refl refl has pointer i chain
    (λ z k is. (refl, is)) (λ z comp k lt. triple_chain z.machine p kind k (comp.whole.sorts (Input kind) p (comp.has _ p has) other) lt) in
    let l = given_gives d e storage.Input w r q refl word load in
    let p1 = then' _ _ _ _ _ _ _ _ _ [] index v refl in
    let p2 = then' _ _ _ _ _ _ _ _ _ (0 ∷ 1 ∷ []) p1 c refl in
    let p3 = then' _ _ _ _ _ _ _ _ _ (0 ∷ []) p2 l refl in
    weaker a e [] (a_word r ∷ []) (component_by kind k) (input_word kind k) (λ z u t ht vs ws e. component_is kind k few z t vs ws e)
    (only_gives _ _ _ _ _ _ (0 ∷ []) p3 refl)
