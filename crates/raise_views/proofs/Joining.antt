-- Components that stand under one guard, and four components one after the other.
use Rattle.std.proofs.Common.{◌≡◌, ℕ, Bool, true, false, List, [], ◌∷◌, ◌++◌, map, Option, Some, None, refl, sym, ap, ◌∙◌}
use Rattle.std.specs.Prelude.{◌+◌, ◌*◌, not, if◌then◌else◌, ◌&&◌, ◌||◌, is_some, filter}
use Rattle.tpf_decode.specs.declared.argument.Argument.{Argument}
use Rattle.tpf_decode.specs.declared.argument.Kind.{Kind}
use Rattle.tpf_decode.specs.declared.argument.Kind.TheVariants as kind
use Rattle.tpf_decode.specs.declared.argument.Select.{Select}
use Rattle.tpf_program.specs.Writes.{in_mask, masked, written, written_by}
use Rattle.shader_tree.specs.Terms.{Term, Atomic, Guard, Nothing}
use Rattle.shader_tree.specs.Values.{Spaces}
use Rattle.word_base.specs.declared.event.Act.{Act}
use Rattle.word_base.specs.declared.event.Room.{Room}
use Rattle.tpf_decode.specs.declared.meaning.Meaning.{Meaning}
use Rattle.raise_operands.specs.declared.operand.Operands.{Operands}
use Rattle.raise_operands.specs.Building.{known_target}
use Rattle.raise_operands.specs.Laws.{writes_nodes}
use Rattle.raise_operands.specs.Raising.{source, target, write_by}
use Rattle.raise_views.specs.declared.writing.Given.{Given}
use Rattle.raise_views.specs.Counting.{results_nodes}
use Rattle.raise_views.specs.Giving.{given_nodes}
use Rattle.raise_views.specs.Guarding.{has_result}
use Rattle.raise_operands.specs.Building.{is_written, is_written_by}
use Rattle.raise_operands.specs.Raising.{chained_from, followed}
use Rattle.raise_views.specs.declared.address.Reach.{Reach}
use Rattle.raise_views.specs.declared.address.Way.{Way}
use Rattle.raise_views.specs.declared.address.Way.TheVariants.{Structures}
use Rattle.raise_views.specs.Giving.{are_all, at_terms, four_taken, inside, is_any, taken}
use Rattle.raise_views.specs.Making.{four_of, next_if}
use Rattle.raise_views.specs.Reaching.{atomic_part, address_of, keeps, are_inside, are_joined, index_of, index_test, is_index_known, load_of, load_part, loads, stand_together, store_of, store_part, stores, together, words_of, zero_of}

inside_taken : (n v : ℕ) (o : Option ℕ) (cs : List ℕ) → are_inside n v (taken o cs) ≡ (inside n v o && are_inside n v cs)
inside_taken n v None cs = refl
inside_taken n v (Some c) cs = refl

and_true : (b : Bool) → (b && true) ≡ b
and_true true = refl
and_true false = refl

all_inside : (n v : ℕ) (x y z w : Option ℕ) → are_inside n v (four_taken x y z w) ≡ are_all n v x y z w
all_inside n v x y z w =
    inside_taken n v x _ ∙ ap (λ b. inside n v x && b)
    (inside_taken n v y _ ∙ ap (λ b. inside n v y && b) (inside_taken n v z _ ∙ ap (λ b. inside n v z && b)
    (inside_taken n v w [] ∙ and_true (inside n v w))))

abbrev is_cons : List ℕ → Bool
is_cons [] = false
is_cons (c ∷ cs) = true

cons_taken : (o : Option ℕ) (cs : List ℕ) → is_cons (taken o cs) ≡ (is_some o || is_cons cs)
cons_taken None cs = refl
cons_taken (Some c) cs = refl

or_false : (b : Bool) → (b || false) ≡ b
or_false true = refl
or_false false = refl

any_taken : (x y z w : Option ℕ) → is_cons (four_taken x y z w) ≡ is_any x y z w
any_taken x y z w =
    cons_taken x _ ∙ ap (λ b. is_some x || b)
    (cons_taken y _ ∙ ap (λ b. is_some y || b) (cons_taken z _ ∙ ap (λ b. is_some z || b) (cons_taken w [] ∙ or_false (is_some w))))

stand_by : (r : Reach) (cs : List ℕ) → stand_together r cs ≡ (is_cons cs && are_joined r.address.way r.known r.address.word r.address.index cs)
stand_by r [] = refl
stand_by r (c ∷ cs) = refl

and_assoc : (a b c : Bool) → (a && (b && c)) ≡ ((a && b) && c)
and_assoc true b c = refl
and_assoc false b c = refl

pub joined_four : (r : Reach) (n v : ℕ) (x y z w : Option ℕ) → r.address.way ≡ Structures n → r.address.word ≡ Some v
    → ((is_any x y z w && are_all n v x y z w) && not (is_index_known n r.known r.address.index)) ≡ stand_together r (four_taken x y z w)
joined_four r n v x y z w e f =
    let cs = four_taken x y z w in
    sym (stand_by r cs
    ∙ (ap (λ q. is_cons cs && are_joined q r.known r.address.word r.address.index cs) e
    ∙ (ap (λ q. is_cons cs && are_joined (Structures n) r.known q r.address.index cs) f
    ∙ (ap (λ q. q && (are_inside n v cs && not (is_index_known n r.known r.address.index))) (any_taken x y z w)
    ∙ (ap (λ q. is_any x y z w && (q && not (is_index_known n r.known r.address.index))) (all_inside n v x y z w)
    ∙ and_assoc (is_any x y z w) (are_all n v x y z w) (not (is_index_known n r.known r.address.index)))))))

-- FOUR COMPONENTS of a test
abbrev pub four : List ℕ
four = 0 ∷ 1 ∷ 2 ∷ 3 ∷ []

followed_by_none : (t : Term) → followed t Nothing ≡ t
followed_by_none Nothing = refl
followed_by_none other = refl

chained_if : (b : Bool) (f : ℕ → Term) (s : Term) (c : ℕ) (cs : List ℕ) → chained_from s (map f (if b then c ∷ cs else cs)) ≡ chained_from
    (next_if b s (f c)) (map f cs)
chained_if true f s c cs = refl
chained_if false f s c cs = refl

chained_of : (t : ℕ → Bool) (f : ℕ → Term) (s : Term) (c : ℕ) (cs : List ℕ) → chained_from s (map f (filter t (c ∷ cs))) ≡ chained_from
    (next_if (t c) s (f c)) (map f (filter t cs))
chained_of t f s c cs = chained_if (t c) f s c (filter t cs)

pub chained_four : (t : ℕ → Bool) (f : ℕ → Term) (s : Term) → chained_from s (map f (filter t four)) ≡ four_of t f s
chained_four t f s =
    chained_of t f s 0 (1 ∷ 2 ∷ 3 ∷ []) ∙ (chained_of t f _ 1 (2 ∷ 3 ∷ []) ∙ (chained_of t f _ 2 (3 ∷ []) ∙ chained_of t f _ 3 []))

pub chained_append : (s : Term) (xs ys : List Term) → chained_from s (xs ++ ys) ≡ chained_from (chained_from s xs) ys
chained_append s [] ys = refl
chained_append s (x ∷ xs) ys = chained_append (followed s x) xs ys

written_is : (k : Kind) (s : Select) → written_by k s ≡ filter (is_written_by k s) four
written_is kind.Null s = refl
written_is other s = refl

pub written_four : (a : Argument) → written a ≡ filter (is_written a) four
written_four a = written_is a.kind a.select

taken_if : (b : Bool) (f : ℕ → ℕ) (c : ℕ) (cs : List ℕ) → map f (if b then c ∷ cs else cs) ≡ taken (if b then Some (f c) else None) (map f cs)
taken_if true f c cs = refl
taken_if false f c cs = refl

taken_of : (t : ℕ → Bool) (f : ℕ → ℕ) (c : ℕ) (cs : List ℕ) → map f (filter t (c ∷ cs)) ≡ taken (if t c then Some (f c) else None)
    (map f (filter t cs))
taken_of t f c cs = taken_if (t c) f c (filter t cs)

pub taken_four : (t : ℕ → Bool) (f : ℕ → ℕ)
    → map f (filter t four) ≡ four_taken (if t 0 then Some (f 0) else None) (if t 1 then Some (f 1) else None) (if t 2 then Some (f 2) else None)
    (if t 3 then Some (f 3) else None)
taken_four t f =
    taken_of t f 0 (1 ∷ 2 ∷ 3 ∷ [])
    ∙ ap (λ l. taken (if t 0 then Some (f 0) else None) l) (taken_of t f 1 (2 ∷ 3 ∷ [])
    ∙ ap (λ l. taken (if t 1 then Some (f 1) else None) l) (taken_of t f 2 (3 ∷ []) ∙ ap (λ l. taken (if t 2 then Some (f 2) else None) l)
    (taken_of t f 3 [])))

pub same_list : (xs : List ℕ) → map (λ c. c) xs ≡ xs
same_list [] = refl
same_list (x ∷ xs) = ap (λ ys. x ∷ ys) (same_list xs)

pub followed_is : (a b x y : Term) → a ≡ b → x ≡ y → followed a x ≡ followed b y
followed_is a b x y e h = rw (e, h) refl

-- LOADS, each under its test or all under one
pub loads_stand : (r : Reach) (a : Argument) (f : ℕ → ℕ) (x y z w : Option ℕ) → x ≡ (if is_written a 0 then Some (f 0) else None)
    → y ≡ (if is_written a 1 then Some (f 1) else None) → z ≡ (if is_written a 2 then Some (f 2) else None)
    → w ≡ (if is_written a 3 then Some (f 3) else None) → stand_together r (map f (written a)) ≡ stand_together r (four_taken x y z w)
loads_stand r a f x y z w ex ey ez ew =
    rw (ex, ey, ez, ew) (ap (λ ds. stand_together r (map f ds)) (written_four a) ∙ ap (λ cs. stand_together r cs) (taken_four (is_written a) f))

abbrev one_test : Reach → Term → Term
one_test r body = Guard (index_test (words_of r.address.way) r.room (index_of r.address)) body

abbrev loads_joined : Reach → (ℕ → ℕ) → List ℕ → List Term
loads_joined r f ds = map zero_of ds ++ together r (map (λ d. load_of r d (f d)) ds) ∷ []

abbrev loads_each : Reach → (ℕ → ℕ) → List ℕ → List Term
loads_each r f ds = map (λ d. load_part r d (f d)) ds

pub loads_apart_is : (r : Reach) (a : Argument) (f : ℕ → ℕ) (s : Term) → stand_together r (map f (written a)) ≡ false
    → four_of (is_written a) (λ d. load_part r d (f d)) s ≡ chained_from s (loads r (written a) f)
loads_apart_is r a f s e =
    sym (ap (λ b. chained_from s (if b then loads_joined r f (written a) else loads_each r f (written a))) e
    ∙ (ap (λ ds. chained_from s (loads_each r f ds)) (written_four a) ∙ chained_four (is_written a) (λ d. load_part r d (f d)) s))

pub loads_joined_is : (r : Reach) (a : Argument) (f : ℕ → ℕ) (s : Term) → stand_together r (map f (written a)) ≡ true
    → followed (four_of (is_written a) zero_of s) (one_test r (four_of (is_written a) (λ d. load_of r d (f d)) Nothing)) ≡ chained_from s
    (loads r (written a) f)
loads_joined_is r a f s e =
    let t = is_written a in
    let ds = filter t four in
    let body = together r (map (λ d. load_of r d (f d)) ds) in
    sym (ap (λ b. chained_from s (if b then loads_joined r f (written a) else loads_each r f (written a))) e
    ∙ (ap (λ q. chained_from s (loads_joined r f q)) (written_four a)
    ∙ (chained_append s (map zero_of ds) (body ∷ [])
    ∙ (ap (λ q. followed q body) (chained_four t zero_of s)
    ∙ ap (λ q. followed (four_of t zero_of s) (one_test r q)) (chained_four t (λ d. load_of r d (f d)) Nothing)))))

-- STORES likewise
pub stores_stand : (r : Reach) (m : Select) (x y z w : Option ℕ) → x ≡ (if in_mask m 0 then Some 0 else None)
    → y ≡ (if in_mask m 1 then Some 1 else None) → z ≡ (if in_mask m 2 then Some 2 else None)
    → w ≡ (if in_mask m 3 then Some 3 else None) → stand_together r (masked m) ≡ stand_together r (four_taken x y z w)
stores_stand r m x y z w ex ey ez ew =
    rw (ex, ey, ez, ew) (ap (λ cs. stand_together r cs) (sym (same_list (filter (in_mask m) four)) ∙ taken_four (in_mask m) (λ c. c)))

abbrev stores_joined : Reach → (ℕ → Term) → List ℕ → List Term
stores_joined r f cs = together r (map (store_of r f) cs) ∷ []

abbrev stores_each : Reach → (ℕ → Term) → List ℕ → List Term
stores_each r f cs = map (λ c. store_part r c (f c)) cs

pub stores_apart_is : (r : Reach) (m : Select) (f : ℕ → Term) (s : Term) → stand_together r (masked m) ≡ false
    → four_of (in_mask m) (λ c. store_part r c (f c)) s ≡ chained_from s (stores r (masked m) f)
stores_apart_is r m f s e =
    sym (ap (λ b. chained_from s (if b then stores_joined r f (masked m) else stores_each r f (masked m))) e
    ∙ chained_four (in_mask m) (λ c. store_part r c (f c)) s)

pub stores_joined_is : (r : Reach) (m : Select) (f : ℕ → Term) (s : Term) → stand_together r (masked m) ≡ true
    → followed s (one_test r (four_of (in_mask m) (store_of r f) Nothing)) ≡ chained_from s (stores r (masked m) f)
stores_joined_is r m f s e =
    sym (ap (λ b. chained_from s (if b then stores_joined r f (masked m) else stores_each r f (masked m))) e
    ∙ ap (λ q. followed s (one_test r q)) (chained_four (in_mask m) (store_of r f) Nothing))

-- ADDRESSES by equal terms
pub kept_same : (s t : Term) (w : Way) (a b x y : Term) → s ≡ t → a ≡ b → x ≡ y
    → chained_from s (keeps (at_terms w a x)) ≡ chained_from t (keeps (at_terms w b y))
kept_same s t w a b x y e h k = rw (e, h, k) refl

pub address_same : (w : Way) (a b x y : Term) → a ≡ b → x ≡ y → address_of (at_terms w a x) ≡ address_of (at_terms w b y)
address_same w a b x y h k = rw (h, k) refl

-- THE WORDS of a destination
pub results_are : (b : Bool) (a : Argument) (f : ℕ → Term) (s : Term) → b ≡ true
    → four_of (is_written a) f s ≡ chained_from s (map f (if b then written a else []))
results_are b a f s e =
    sym (ap (λ q. chained_from s (map f (if q then written a else []))) e ∙ (ap (λ cs. chained_from s (map f cs)) (written_four a) ∙ chained_four
    (is_written a) f s))

pub results_count : (m : Meaning) (given : Given) (os : Operands) → has_result m ≡ true
    → results_nodes m given os ≡ 4 * (given_nodes given + 1) + writes_nodes (known_target os.o0)
results_count m given os e = ap (λ b. if b then 4 * (given_nodes given + 1) + writes_nodes (known_target os.o0) else 0) e

pub same_writes : (g : Spaces) (a b : Argument) (k n : ℕ) (f : ℕ → Term) (s : Term) → n ≡ k → a ≡ b
    → four_of (is_written a) (λ c. write_by (target g a) g n c (f c)) s ≡ four_of (is_written b) (λ c. write_by (target g b) g k c (f c)) s
same_writes g a b k n f s e h =
    ap (λ q. four_of (is_written q) (λ c. write_by (target g q) g n c (f c)) s) h ∙ ap
    (λ q. four_of (is_written b) (λ c. write_by (target g b) g q c (f c)) s) e

pub atomic_same : (n : ℕ) (r : Room) (kind : Act) (w v a b x y : Term) → w ≡ v → a ≡ b → x ≡ y → Atomic n r w kind a x ≡ Atomic n r v kind b y
atomic_same n r kind w v a b x y e h k = rw (e, h, k) refl

pub part_same : (r : Reach) (kind : Act) (answers : Bool) (a b x y : Term) → a ≡ b → x ≡ y → atomic_part r kind a x answers ≡ atomic_part r kind b y
    answers
part_same r kind answers a b x y h k = ap (λ q. atomic_part r kind q x answers) h ∙ ap (λ q. atomic_part r kind b q answers) k

pub stores_same : (s : Term) (r : Reach) (g : Spaces) (a b x y : Argument) (n k : ℕ) → a ≡ b → n ≡ k → x ≡ y
    → chained_from s (stores r (masked a.select) (source g n x)) ≡ chained_from s (stores r (masked b.select) (source g k y))
stores_same s r g a b x y n k e h l =
    ap (λ q. chained_from s (stores r (masked q.select) (source g n x))) e
    ∙ (ap (λ q. chained_from s (stores r (masked b.select) (source g q x))) h ∙ ap (λ q. chained_from s (stores r (masked b.select) (source g k q)))
    l)
