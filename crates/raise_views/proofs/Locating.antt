-- Where an address lies: the value of its test, and of its word in the room.
use Rattle.std.proofs.Common.{◌≡◌, ℕ, zero, suc, ◌+◌, ◌*◌, ◌/◌, ◌%◌, ◌<◌, ◌≤◌, ◌^◌, Bool, true, false, Option, Some, None, refl, sym, ap, subst, ◌∙◌, arith}
use Rattle.std.specs.Prelude.{nat_eq, nat_lt, if◌then◌else◌, ◌&&◌, is_some}
use Rattle.std.proofs.lemmas.Bool.{and_parts, eqb-true, eq-eqb, false≢true, lt-ltb, ltb-true, ltb-false}
use Rattle.std.proofs.Math.Nat.{div-zero, div-mul-le_self, mul-le-mul_right, suc-mul}
use Rattle.std.proofs.lemmas.Nat.{le-div}
use Rattle.word_base.specs.declared.event.Room.{Room}
use Rattle.word_base.specs.Settings.{Setting}
use Rattle.tpf_program.specs.Views.{in_room, in_structure}
use Rattle.shader_tree.specs.declared.node.Comparison.TheVariants.{ULess}
use Rattle.shader_tree.specs.Terms.{Term}
use Rattle.shader_tree.specs.Terms as term
use Rattle.shader_tree.specs.Values.{Spaces, Words, value, word, truth, for_word, for_two, provided}
use Rattle.raise_operands.specs.Folding.{literal}
use Rattle.raise_operands.specs.Laws.{ReadingLaws}
use Rattle.raise_views.specs.declared.address.Address.{Address}
use Rattle.raise_views.specs.declared.address.Reach.{Reach}
use Rattle.raise_views.specs.declared.address.Way.{Way}
use Rattle.raise_views.specs.declared.address.Way.TheVariants as way
use Rattle.raise_views.specs.Reaching.{known_or, word_scratch, structure_scratch, word_of, index_of, structures, index_test, structure_test, structure_by, sum_by, test_by, place_by, is_known_by, test, place, is_known}

-- where a word is known, it is that one
abbrev pub Lit : Option ℕ → ℕ → Type 0
Lit (Some v) w = v ≡ w
Lit None w = Unit {0}

word_is : (x y : ℕ) → word x ≡ word y → x ≡ y
word_is x y h = cc

pub lit : (g : Spaces) (s : Setting) (t : Words) (a : Term) (x : ℕ) → value g s t a ≡ word x → Lit (literal a) x
lit g s t (term.Word w) x h = word_is w x h
lit g s t other x h = tt

-- the word that a component of an address has, where it is in range
abbrev pub reached_by : Way → ℕ → ℕ → ℕ → ℕ → Option ℕ
reached_by way.Bytes extent w j c = in_room extent (w + c)
reached_by (way.Structures n) extent w j c = in_structure extent n j (w + c)
reached_by way.Words extent w j c = in_room extent w

-- NUMBERS
no_wrap : (p v : ℕ) → p + v < 2 ^ 32 → (p % 2 ^ 32 + v) % 2 ^ 32 ≡ p + v
no_wrap p v h = omega arith

small : (p : ℕ) → p < 2 ^ 32 → p % 2 ^ 32 ≡ p
small p h = omega arith

in_range : (extent n j v : ℕ) → j < extent / n → v < n → j * n + v < extent
in_range extent n j v h l =
    let a = mul-le-mul_right {m = suc j} {n = extent / n} n (omega arith) in
    let b = div-mul-le_self extent n in
    let c = suc-mul j n in
    omega arith

less_than_more : (w a b : ℕ) → a ≤ b → nat_lt w a ≡ true → nat_lt w b ≡ true
less_than_more w a b l e = let k = ltb-true w a e in lt-ltb w b (omega arith)

fewer_structures : (known extent n : ℕ) → known ≤ extent → known / n ≤ extent / n
fewer_structures known extent zero l = let a = div-zero known in let b = div-zero extent in omega arith
fewer_structures known extent (suc n) l = div_more known extent (suc n) l (omega arith)
  where
    div_more : (a b m : ℕ) → a ≤ b → 0 < m → a / m ≤ b / m
    div_more a b m l p = le-div (a / m) b m p (let q = div-mul-le_self a m in omega arith)

module _ (reading : ReadingLaws) (g : Spaces) (s : Setting) where
  -- AN ADDRESS whose word is w, and the index of whose structure is j
  pub record Located (r : Reach) (w j : ℕ) (t : Words) : Type 0 where
    pub word' : value g s t (known_or word_scratch r.address.word) ≡ word w
    pub index' : value g s t (known_or structure_scratch r.address.index) ≡ word j
    pub lit_word : Lit r.address.word w
    pub lit_index : Lit r.address.index j

  pub record HitsBy (t : Words) (tested placed : Term) (known : Bool) (extent : ℕ) (o : Option ℕ) : Type 0 where
    pub known' : known ≡ true → is_some o ≡ true
    pub tests : value g s t tested ≡ truth (is_some o)
    pub places : (p : ℕ) → o ≡ Some p → (value g s t placed ≡ word p) × (p < extent)

  module _ (t : Words) (room : Room) where
    abbrev extent : ℕ
    extent = s.extent room

    in_room_hits : (x : Term) (p : ℕ) (k : Bool) (b : Bool) → nat_lt p extent ≡ b → value g s t x ≡ word p → (k ≡ true → nat_lt p extent ≡ true)
        → HitsBy t (term.Compare ULess x (term.Length room)) x k extent (if b then Some p else None)
    in_room_hits x p k true e h f = record {
      known' = λ q. refl;
      tests = ap (λ v. for_two v (word extent) (λ m n. truth (nat_lt m n))) h ∙ ap truth e;
      places = λ q i. let same : p ≡ q = cc i in (h ∙ ap word same, subst (λ m. m < extent) same (ltb-true p extent e));
    }
    in_room_hits x p k false e h f = record {
      known' = λ q. absurd (false≢true (sym e ∙ f q));
      tests = ap (λ v. for_two v (word extent) (λ m n. truth (nat_lt m n))) h ∙ ap truth e;
      places = λ q i. absurd (cc i);
    }

    pub counted : (n : ℕ) → value g s t (structures n room) ≡ word (extent / n)
    counted n = by_zero (nat_eq n 0) refl
      where
        by_zero : (b : Bool) → nat_eq n 0 ≡ b → value g s t (if b then term.Word 0 else term.Quotient (term.Length room) n) ≡ word (extent / n)
        by_zero true e = ap word (sym (ap (λ m. extent / m) (eqb-true n 0 e) ∙ div-zero extent))
        by_zero false e = ap (λ b. provided b (word (extent / n))) (above (nat_lt 0 n) refl)
          where
            above : (c : Bool) → nat_lt 0 n ≡ c → nat_lt 0 n ≡ true
            above true q = q
            above false q = let l = ltb-false 0 n q in absurd (false≢true (sym e ∙ eq-eqb n 0 (omega arith)))

    pub index_tests : (i : Term) (n j : ℕ) → value g s t i ≡ word j → value g s t (index_test n room i) ≡ truth (nat_lt j (extent / n))
    index_tests i n j h = rw (h, counted n) refl

    both_tests : (i x : Term) (n j v : ℕ) → value g s t i ≡ word j → value g s t x ≡ word v
        → value g s t (structure_test n room i x) ≡ truth (nat_lt j (extent / n) && nat_lt v n)
    both_tests i x n j v h k = rw (index_tests i n j h, k) refl

    tests_by : (o : Option ℕ) (i x : Term) (n j v : ℕ) → Lit o v → value g s t i ≡ word j → value g s t x ≡ word v
        → value g s t (structure_by o n room i x) ≡ truth (nat_lt j (extent / n) && nat_lt v n)
    tests_by None i x n j v e h k = both_tests i x n j v h k
    tests_by (Some w) i x n j v e h k = by_test (nat_lt w n) (ap (λ m. nat_lt m n) e)
      where
        and_true : (a b : Bool) → b ≡ true → a ≡ (a && b)
        and_true true b q = sym q
        and_true false b q = refl

        by_test : (b : Bool) → b ≡ nat_lt v n → value g s t (if b then index_test n room i else structure_test n room i x) ≡ truth
            (nat_lt j (extent / n) && nat_lt v n)
        by_test true q = index_tests i n j h ∙ ap truth (and_true (nat_lt j (extent / n)) (nat_lt v n) (sym q))
        by_test false q = both_tests i x n j v h k

    places_by : (o : Option ℕ) (i x : Term) (n j v : ℕ) → Lit o v → value g s t i ≡ word j → value g s t x ≡ word v → j * n + v < 2 ^ 32
        → value g s t (sum_by o (term.Product i n) x) ≡ word (j * n + v)
    places_by (Some w) i x n j v e h k l =
        let product : value g s t (term.Product i n) ≡ word (j * n % 2 ^ 32) = ap (λ y. for_word y (λ m. word (m * n % 2 ^ 32))) h in
        reading.added g s t (term.Product i n) (j * n % 2 ^ 32) w product (omega arith) ∙ (ap (λ m. word ((j * n % 2 ^ 32 + m) % 2 ^ 32)) e ∙ ap word
        (no_wrap (j * n) v l))
    places_by None i x n j v e h k l = rw (h, k) (ap word (no_wrap (j * n) v l))

    structure_hits : (o : Option ℕ) (i x : Term) (n j v : ℕ) (k : Bool) → Lit o v → value g s t i ≡ word j → value g s t x ≡ word v → extent < 2 ^ 32
        → (k ≡ true → (nat_lt j (extent / n) && nat_lt v n) ≡ true)
        → HitsBy t (structure_by o n room i x) (sum_by o (term.Product i n) x) k extent (in_structure extent n j v)
    structure_hits o i x n j v k e h m l f = by_both (nat_lt j (extent / n) && nat_lt v n) refl
      where
        by_both : (b : Bool) → (nat_lt j (extent / n) && nat_lt v n) ≡ b
            → HitsBy t (structure_by o n room i x) (sum_by o (term.Product i n) x) k extent (if b then Some (j * n + v) else None)
        by_both true q =
            let p = and_parts (nat_lt j (extent / n)) (nat_lt v n) q in
            let a = in_range extent n j v (ltb-true j (extent / n) p.0) (ltb-true v n p.1) in
            record {
              known' = λ z. refl;
              tests = tests_by o i x n j v e h m ∙ ap truth q;
              places = λ z y.
                  let same : j * n + v ≡ z = cc y in
                  (places_by o i x n j v e h m (omega arith) ∙ ap word same, subst (λ w. w < extent) same a);
            }
        by_both false q = record {
          known' = λ z. absurd (false≢true (sym q ∙ f z));
          tests = tests_by o i x n j v e h m ∙ ap truth q;
          places = λ z y. absurd (cc y);
        }

    byte_known : (o i : Option ℕ) (known w c : ℕ) → Lit o w → known ≤ extent → is_known_by way.Bytes known o i c ≡ true → nat_lt (w + c) extent ≡ true
    byte_known (Some v) i known w c e l q = less_than_more (w + c) known extent l (sym (ap (λ m. nat_lt (m + c) known) e) ∙ q)
    byte_known None i known w c e l q = absurd (false≢true q)

    word_known : (o i : Option ℕ) (known w c : ℕ) → Lit o w → known ≤ extent → is_known_by way.Words known o i c ≡ true → nat_lt w extent ≡ true
    word_known (Some v) i known w c e l q = less_than_more w known extent l (sym (ap (λ m. nat_lt m known) e) ∙ q)
    word_known None i known w c e l q = absurd (false≢true q)

    structure_known : (o i : Option ℕ) (known n w j c : ℕ) → Lit o w → Lit i j → known ≤ extent → is_known_by (way.Structures n) known o i c ≡ true
        → (nat_lt j (extent / n) && nat_lt (w + c) n) ≡ true
    structure_known (Some v) (Some k) known n w j c e f l q =
        let p = and_parts (nat_lt k (known / n)) (nat_lt (v + c) n) q in
        let a = less_than_more j (known / n) (extent / n) (fewer_structures known extent n l) (sym (ap (λ m. nat_lt m (known / n)) f) ∙ p.0) in
        let b : nat_lt (w + c) n ≡ true = sym (ap (λ m. nat_lt (m + c) n) e) ∙ p.1 in
        rw (a, b) refl
    structure_known (Some v) None known n w j c e f l q = absurd (false≢true q)
    structure_known None i known n w j c e f l q = absurd (false≢true q)

    hits_by : (y : Way) (a : Address) (known w j c : ℕ) → value g s t (known_or word_scratch a.word) ≡ word w → value g s t (index_of a) ≡ word j
        → Lit a.word w → Lit a.index j → w + c < 2 ^ 32 → known ≤ extent → extent < 2 ^ 32
        → HitsBy t (test_by y room a c) (place_by y a c) (is_known_by y known a.word a.index c) extent (reached_by y extent w j c)
    hits_by way.Bytes a known w j c h k e f l m n =
        in_room_hits (word_of a c) (w + c) (is_known_by way.Bytes known a.word a.index c) (nat_lt (w + c) extent) refl
        (reading.added g s t (known_or word_scratch a.word) w c h (omega arith) ∙ ap word (small (w + c) l))
        (byte_known a.word a.index known w c e m)
    hits_by (way.Structures size) a known w j c h k e f l m n =
        let x : value g s t (word_of a c) ≡ word (w + c) = reading.added g s t (known_or word_scratch a.word) w c h (omega arith) ∙ ap word
        (small (w + c) l) in
        structure_hits (literal (word_of a c)) (index_of a) (word_of a c) size j (w + c) (is_known_by (way.Structures size) known a.word a.index c)
        (lit g s t (word_of a c) (w + c) x) k x n (structure_known a.word a.index known size w j c e f m)
    hits_by way.Words a known w j c h k e f l m n =
        in_room_hits (known_or word_scratch a.word) w (is_known_by way.Words known a.word a.index c) (nat_lt w extent) refl h
        (word_known a.word a.index known w c e m)

  abbrev pub Hits : Reach → ℕ → Words → Option ℕ → Type 0
  Hits r c t o = HitsBy t (test r c) (place r c) (is_known r c) (s.extent r.room) o

  pub hits : (r : Reach) (w j c : ℕ) (t : Words) → Located r w j t → w + c < 2 ^ 32 → r.known ≤ s.extent r.room → s.extent r.room < 2 ^ 32
      → Hits r c t (reached_by r.address.way (s.extent r.room) w j c)
  hits r w j c t h l m n = hits_by t r.room r.address.way r.address r.known w j c h.word' h.index' h.lit_word h.lit_index l m n
