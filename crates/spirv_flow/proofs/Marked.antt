-- Cases and defaults: where they stand, what was taken for them, and how they are counted.
use Rattle.std.proofs.Common.{◌≡◌, ℕ, ◌+◌, ◌*◌, ◌<◌, ◌≤◌, ◌⊎◌, ⊎_elim, inl, inr, List, [], ◌∷◌, ◌++◌, length, length-append, append_assoc, append-nil, Option, Some, None, Bool, true, false, refl, sym, ap, ◌∙◌, subst, arith}
use Rattle.std.specs.Prelude.{◌&&◌, nat_le, nat_lt, unwrap_or, IsTrue}
use Rattle.std.proofs.lemmas.Bool.Decides.{nat_tests}
use Rattle.shader_tree.specs.Costs.{words_in, ids_in}
use Rattle.shader_tree.specs.Placed.{placed_in, is_switch, are_distinct, defaults_in}
use Rattle.shader_tree.specs.Shape.{cases_in}
use Rattle.shader_tree.specs.Terms.{Term}
use Rattle.shader_tree.specs.Terms as term
use Rattle.spirv_words.specs.Layouts.{are_pairs}
use Rattle.spirv_words.specs.Operations.{OpSwitch, number_of}
use Rattle.spirv_words.specs.Text.{instruction, is_instr, words_of_instr, words_of_code}
use Rattle.spirv_symbols.specs.Tables.{Has}
use Rattle.spirv_emit.specs.Blocks.{Ends, switch_head}
use Rattle.spirv_emit.specs.declared.emitter.Emitter.{Emitter as Emission}
use Rattle.spirv_emit.specs.Growing.{Grows, globals_in}
use Rattle.spirv_emit.specs.Steps.{Lengthens}
use Rattle.spirv_flow.specs.Marks.{choice, PutsCases, Puts}
use Rattle.spirv_flow.specs.Layout.{Case, pairs, first_of}
use Rattle.spirv_flow.specs.Lowers.{marks, cases_of, default_of}
use Rattle.spirv_emit.proofs.Lists.{and_left, and_right}

-- COSTS. The nodes of the marks pay for the labels, and for the words in the instruction of the switch.
pub paid_words : (x : Term) → 2 * marks x ≤ words_in x
paid_words (term.Case v next) = let h = paid_words next in omega (arith, h)
paid_words (term.Default next) = let h = paid_words next in omega (arith, h)
paid_words (term.Then a b) = let h = paid_words a in let k = paid_words b in omega (arith, h, k)
paid_words x = omega arith

pub paid_ids : (x : Term) → marks x ≤ ids_in x
paid_ids (term.Case v next) = let h = paid_ids next in omega (arith, h)
paid_ids (term.Default next) = let h = paid_ids next in omega (arith, h)
paid_ids (term.Then a b) = let h = paid_ids a in let k = paid_ids b in omega (arith, h, k)
paid_ids x = omega arith

-- PLACES. What does not stand directly in a switch has no marks, and might.
pub no_marks_in : (l t : Bool) (x : Term) → IsTrue (placed_in l t false x) → marks x ≡ 0
no_marks_in l t (term.Case v next) h = absurd (cc h)
no_marks_in l t (term.Default next) h = absurd (cc h)
no_marks_in l t (term.Then a b) h =
    let p = no_marks_in l t a (and_left (placed_in l t false a) (placed_in l t false b) h) in
    let q = no_marks_in l t b (and_right (placed_in l t false a) (placed_in l t false b) h) in omega (arith, p, q)
no_marks_in l t x h = refl

pub and_both : (b c : Bool) → IsTrue b → IsTrue c → IsTrue (b && c)
and_both true c g h = h
and_both false c g h = absurd (cc g)

pub any_place : (l t : Bool) (x : Term) → IsTrue (placed_in l t false x) → IsTrue (placed_in l t true x)
any_place l t (term.Case v next) h = absurd (cc h)
any_place l t (term.Default next) h = absurd (cc h)
any_place l t (term.Then a b) h = and_both (placed_in l t true a) (placed_in l t true b)
    (any_place l t a (and_left (placed_in l t false a) (placed_in l t false b) h))
    (any_place l t b (and_right (placed_in l t false a) (placed_in l t false b) h))
any_place l t (term.Guard b x) h = h
any_place l t (term.If b x y) h = h
any_place l t (term.Loop x) h = h
any_place l t (term.Switch on x) h = h
any_place l t term.Break h = h
any_place l t term.Continue h = h
any_place l t x h = refl

-- COUNTS.
pub marks_are : (x : Term) → marks x ≡ length (cases_in x) + defaults_in x
marks_are (term.Case v next) = let h = marks_are next in omega (arith, h)
marks_are (term.Default next) = let h = marks_are next in omega (arith, h)
marks_are (term.Then a b) =
    let h = marks_are a in let k = marks_are b in let l = length-append (cases_in a) (cases_in b) in omega (arith, h, k, l)
marks_are x = refl

pub at_most : (a b : ℕ) → IsTrue (nat_le a b) → a ≤ b
at_most a b h = grind (arith, nat_tests)

pub few_cases : (x : Term) → IsTrue (is_switch x) → length (cases_in x) ≤ 32766
few_cases x h =
    let q = and_right (are_distinct (cases_in x)) (nat_le (length (cases_in x)) 32766 && nat_le (defaults_in x) 1) h in
    at_most (length (cases_in x)) 32766 (and_left (nat_le (length (cases_in x)) 32766) (nat_le (defaults_in x) 1) q)

pub few_marks : (x : Term) → IsTrue (is_switch x) → marks x ≤ 32767
few_marks x h =
    let q = and_right (are_distinct (cases_in x)) (nat_le (length (cases_in x)) 32766 && nat_le (defaults_in x) 1) h in
    let d = at_most (defaults_in x) 1 (and_right (nat_le (length (cases_in x)) 32766) (nat_le (defaults_in x) 1) q) in
    let c = few_cases x h in let e = marks_are x in omega (arith, c, d, e)

pairs_append : (xs ys : List Case) → pairs (xs ++ ys) ≡ pairs xs ++ pairs ys
pairs_append [] ys = refl
pairs_append (c ∷ xs) ys = ap (λ l. c.value ∷ c.label ∷ l) (pairs_append xs ys)

pub pairs_then : (a b : Term) (k : ℕ) → pairs (cases_of (term.Then a b) k) ≡ pairs (cases_of a k) ++ pairs (cases_of b (k + marks a))
pairs_then a b k = pairs_append (cases_of a k) (cases_of b (k + marks a))

pub pairs_length : (x : Term) (k : ℕ) → length (pairs (cases_of x k)) ≡ 2 * length (cases_in x)
pairs_length (term.Case v next) k = let h = pairs_length next (k + 1) in omega (arith, h)
pairs_length (term.Default next) k = pairs_length next (k + 1)
pairs_length (term.Then a b) k =
    let h = pairs_length a k in
    let j = pairs_length b (k + marks a) in
    let l = length-append (cases_in a) (cases_in b) in
    let m = length-append (pairs (cases_of a k)) (pairs (cases_of b (k + marks a))) in
    let e = ap length (pairs_then a b k) in omega (arith, h, j, l, m, e)
pairs_length x k = refl

-- THE DEFAULT has the label behind as many as marks are in front of it.
abbrev pub shifted : ℕ → Option ℕ → Option ℕ
shifted n None = None
shifted n (Some k) = Some (n + k)

shifted_first : (n : ℕ) (o p : Option ℕ) → first_of (shifted n o) (shifted n p) ≡ shifted n (first_of o p)
shifted_first n None p = refl
shifted_first n (Some k) p = refl

pub default_shifted : (n k : ℕ) (x : Term) → default_of x (n + k) ≡ shifted n (default_of x k)
default_shifted n k (term.Case v next) = let e : n + k + 1 ≡ n + (k + 1) = omega arith in ap (default_of next) e ∙ default_shifted n (k + 1) next
default_shifted n k (term.Default next) = refl
default_shifted n k (term.Then a b) =
    let e : n + k + marks a ≡ n + (k + marks a) = omega arith in
    let p = default_shifted n k a in
    let q = ap (default_of b) e ∙ default_shifted n (k + marks a) b in
    ap (λ o. first_of o (default_of b (n + k + marks a))) p
    ∙ (ap (λ o. first_of (shifted n (default_of a k)) o) q ∙ shifted_first n (default_of a k) (default_of b (k + marks a)))
default_shifted n k x = refl

pub first_assoc : (o p q : Option ℕ) → first_of (first_of o p) q ≡ first_of o (first_of p q)
first_assoc None p q = refl
first_assoc (Some k) p q = refl

pub first_none : (o : Option ℕ) → first_of o None ≡ o
first_none None = refl
first_none (Some k) = refl

first_cases : (o p : Option ℕ) (d : ℕ) → first_of o p ≡ Some d → (o ≡ Some d) ⊎ (p ≡ Some d)
first_cases None p d h = inr h
first_cases (Some l) p d h = inl h

pub default_below : (k d : ℕ) (x : Term) → default_of x k ≡ Some d → d < k + marks x
default_below k d (term.Case v next) h = let i = default_below (k + 1) d next h in omega (arith, i)
default_below k d (term.Default next) h = let e : k ≡ d = cc in omega (arith, e)
default_below k d (term.Then a b) h =
    ⊎_elim (λ e. let i = default_below k d a e in omega (arith, i)) (λ e. let i = default_below (k + marks a) d b e in omega (arith, i))
    (first_cases (default_of a k) (default_of b (k + marks a)) d h)
default_below k d x h = absurd (cc h)

are_pairs_of : (cs : List Case) → IsTrue (are_pairs (pairs cs))
are_pairs_of [] = refl
are_pairs_of (c ∷ cs) = are_pairs_of cs

-- THE INSTRUCTION of a switch, from its words.
lengthened_on : (a b c : Emission) (x y : List ℕ) → Lengthens a b x → Lengthens b c y → Lengthens a c (x ++ y)
lengthened_on a b c x y g h = record {
  same = record {
    frame = h.same.frame ∙ g.same.frame;
    limit = h.same.limit ∙ g.same.limit;
    capacity = h.same.capacity ∙ g.same.capacity;
    limits = h.same.limits ∙ g.same.limits;
  };
  code = h.code ∙ (ap (λ l. l ++ y) g.code ∙ append_assoc a.code.list x y);
  symbols = h.symbols ∙ g.symbols;
  kept = h.kept ∙ g.kept;
}

is_choice : (on other : ℕ) (cs : List Case) → length (pairs cs) ≤ 65532 → IsTrue (is_instr (instruction OpSwitch (on ∷ other ∷ pairs cs)))
is_choice on other cs l =
    and_both (are_pairs (pairs cs)) (nat_lt (length (on ∷ other ∷ pairs cs)) 65535) (are_pairs_of cs) (short (length (on ∷ other ∷ pairs cs)) (omega (arith, l)))
  where
    short : (n : ℕ) → n < 65535 → IsTrue (nat_lt n 65535)
    short n h = grind (arith, nat_tests)

head_word : (n m count : ℕ) → n ≡ 2 * count → m ≡ n + 2 → 65536 * (2 * count + 3) + number_of OpSwitch ≡ 65536 * (m + 1) + number_of OpSwitch
head_word n m count e f = omega (arith, e, f)

switch_grows : (a c : Emission) (on other : ℕ) (cs : List Case) (count : ℕ) → length (pairs cs) ≡ 2 * count → count ≤ 32766
    → Lengthens a c (switch_head on other count ++ pairs cs) → Grows a c (instruction OpSwitch (on ∷ other ∷ pairs cs) ∷ [])
switch_grows a c on other cs count e few h =
    let i = instruction OpSwitch (on ∷ other ∷ pairs cs) in
    let words : switch_head on other count ++ pairs cs ≡ words_of_code (i ∷ []) =
    ap (λ w. w ∷ on ∷ other ∷ pairs cs) (head_word (length (pairs cs)) (length (on ∷ other ∷ pairs cs)) count e (omega arith)) ∙ sym (append-nil (words_of_instr i)) in
    record {
      same = h.same;
      next = let s = ap (λ t. t.next) h.symbols in omega (arith, s);
      code = h.code ∙ ap (λ l. a.code.list ++ l) words;
      instructions = and_both (is_instr i) true (is_choice on other cs (omega (arith, e, few))) refl;
      distinct = refl;
      has = λ s id q. subst (λ t. Has t.entries s id) (sym h.symbols) q;
      later = λ s id q. inl (subst (λ t. Has t.entries s id) h.symbols q);
      globals = ap (λ t. globals_in t.entries) h.symbols;
      fresh = λ id q. absurd q;
    }

-- the label of the default is that which was counted, or that of the merge block
abbrev pub other_label : ℕ → ℕ → Option ℕ → ℕ
other_label first merge None = merge
other_label first merge (Some k) = first + k

other_is : (first merge : ℕ) (o : Option ℕ) → unwrap_or (shifted first o) merge ≡ other_label first merge o
other_is first merge None = refl
other_is first merge (Some k) = refl

pub choice_ends : (a b c : Emission) (on merge first other count : ℕ) (x : Term) → Lengthens a b (switch_head on other count)
    → Lengthens b c (pairs (cases_of x first)) → count ≡ length (cases_in x) → other ≡ other_label first merge (default_of x 0)
    → IsTrue (is_switch x) → Ends a c (choice on merge x first ∷ [])
choice_ends a b c on merge first other count x g h n o is =
    let all = lengthened_on a b c (switch_head on other count) (pairs (cases_of x first)) g h in
    let few = few_cases x is in
    let long = pairs_length x first in
    let zero' : first ≡ first + 0 = omega arith in
    let same : other ≡ unwrap_or (default_of x first) merge =
    o ∙ (sym (other_is first merge (default_of x 0)) ∙ sym (ap (λ d. unwrap_or d merge) (ap (default_of x) zero' ∙ default_shifted first 0 x))) in
    record {
      grows = subst (λ l. Grows a c (instruction OpSwitch (on ∷ l ∷ pairs (cases_of x first)) ∷ [])) same
          (switch_grows a c on other (cases_of x first) count (omega (arith, long, n)) (omega (arith, few, n)) all);
      symbols = all.symbols;
      kept = all.kept;
    }

-- CHAINS of cases.
pub then_puts : (a b : Emission) (mark k : ℕ) (x y : Term) → PutsCases a b mark x → k ≡ mark + marks x → Puts a b mark k (term.Then x y) y
then_puts a b mark k x y h e = record {
  begun = h.begun;
  marks' = omega (arith, e);
  words = let w = h.words in omega (arith, w);
  ids = h.ids;
  cases = λ c g.
      subst (λ l. Lengthens a c l) (sym (pairs_then x y mark))
      (lengthened_on a b c (pairs (cases_of x mark)) (pairs (cases_of y (mark + marks x))) h.lengthens
      (subst (λ n. Lengthens b c (pairs (cases_of y n))) e g));
}
