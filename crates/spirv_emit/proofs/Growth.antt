-- An emitter that grows, what completes it, and lanes that run through code.
use Rattle.std.proofs.Common.{◌≡◌, ℕ, zero, suc, ◌+◌, ◌≤◌, ⊎_elim, inl, inr, List, [], ◌∷◌, ◌++◌, length, Some, refl, sym, ap, ◌∙◌, subst, arith, append_assoc, length-append, append-nil}
use Rattle.std.specs.Prelude.{◌≢◌, IsTrue, map, Bool}
use Rattle.std.specs.List.{list_all}
use Rattle.word_base.specs.Lanes.{Turn, Goes}
use Rattle.kept_values.specs.Tables.{Table}
use Rattle.shader_tree.specs.Values.{Words}
use Rattle.spirv_words.specs.Text.{Instr, is_instr, words_of_instr, words_of_code}
use Rattle.spirv_words.specs.Values.{Value}
use Rattle.spirv_words.specs.Memory.{with_at}
use Rattle.spirv_words.specs.Lane.{State, step, sets, with_value}
use Rattle.spirv_symbols.specs.declared.symbol.Symbol.{Symbol}
use Rattle.spirv_symbols.specs.Tables.{Has}
use Rattle.spirv_emit.specs.Emission.{Emission, next_of}
use Rattle.spirv_emit.specs.Code.{In, values, Defines, typed_result, typed}
use Rattle.spirv_emit.specs.Lanes.{Site, Mirrors, HasAt, Stands}
use Rattle.spirv_emit.specs.Growing.{Same, Grows, Completes, globals_in}
use Rattle.spirv_emit.specs.Values.{Runs}
use Rattle.spirv_emit.specs.Steps.{Adds, Settled}
use Rattle.spirv_emit.proofs.Lists.{code_front, code_back, defines_front, defines_back, defines_split, values_append, distinct_append, all_append}
use Rattle.spirv_words.specs.Definitions.{are_distinct}

pub words_append : (xs ys : List Instr) → words_of_code (xs ++ ys) ≡ words_of_code xs ++ words_of_code ys
words_append [] ys = refl
words_append (i ∷ xs) ys =
    ap (λ l. words_of_instr i ++ l) (words_append xs ys) ∙ sym (append_assoc (words_of_instr i) (words_of_code xs) (words_of_code ys))

pub same_on : (a b c : Emission) → Same a b → Same b c → Same a c
same_on a b c g h = record {
  frame = h.frame ∙ g.frame;
  limit = h.limit ∙ g.limit;
  capacity = h.capacity ∙ g.capacity;
  limits = h.limits ∙ g.limits;
}

-- growing is transitive
pub grows_on : (a b c : Emission) (x y : List Instr) → Grows a b x → Grows b c y → Grows a c (x ++ y)
grows_on a b c x y g h = record {
  same = same_on a b c g.same h.same;
  next = omega (arith, g.next, h.next);
  code = h.code ∙ (ap (λ l. l ++ words_of_code y) g.code
      ∙ (append_assoc a.code.list (words_of_code x) (words_of_code y) ∙ ap (λ l. a.code.list ++ l) (sym (words_append x y))));
  instructions = all_append is_instr x y g.instructions h.instructions;
  distinct = subst (λ l. IsTrue (are_distinct l)) (sym (values_append x y)) (distinct_append (values x) (values y) g.distinct h.distinct
      (λ i p q. let f = g.fresh i p in let k = h.fresh i q in absurd (omega (arith, f.1, k.0))));
  has = λ n id k. h.has n id (g.has n id k);
  later = λ n id k. ⊎_elim (λ i. g.later n id i) (λ le. inr (omega (arith, le, g.next))) (h.later n id k);
  globals = h.globals ∙ g.globals;
  fresh = λ id d. ⊎_elim
      (λ i. let f = g.fresh id i in (
        f.0,
        omega (arith, f.1, h.next),
        λ n k. ⊎_elim (λ j. f.2 n j) (λ le. absurd (omega (arith, le, f.1)))
            (h.later n id k),
      ))
      (λ i. let f = h.fresh id i in (omega (arith, f.0, g.next), f.1, f.2))
      (defines_split x y id d);
}

-- what completes the later emitter completes the earlier one
pub completes_back : (a b : Emission) (x : List Instr) (z : Site) → Grows a b x → Completes b z → Completes a z
completes_back a b x z g c = record {
  frame = sym g.same.frame ∙ c.frame;
  whole = c.whole;
  has = λ n id k. c.has n id (g.has n id k);
  later = λ n id k. ⊎_elim (λ i. g.later n id i) (λ le. inr (omega (arith, le, g.next))) (c.later n id k);
  single = c.single;
  apart = c.apart;
}

-- no completed symbol's id is defined by the code
pub apart : (a b : Emission) (x : List Instr) (z : Site) (s : Symbol) (id : ℕ) → Grows a b x → Completes b z → Has z.names s id → Defines x id → ⊥
apart a b x z s id g c h d =
    let f = g.fresh id d in ⊎_elim (λ i. f.2 s i) (λ le. absurd (omega (arith, le, f.1))) (c.later s id h)

-- nothing was added but what `next` and the words of the lane say
pub grows_same : (a b : Emission) → Same a b → b.code.list ≡ a.code.list → b.symbols.entries ≡ a.symbols.entries → next_of a ≤ next_of b
    → Grows a b []
grows_same a b same code entries next = record {
  same = same;
  next = next;
  code = code ∙ sym (append-nil a.code.list);
  instructions = refl;
  distinct = refl;
  has = λ n id k. subst (λ l. Has l n id) (sym entries) k;
  later = λ n id k. inl (subst (λ l. Has l n id) entries k);
  globals = ap globals_in entries;
  fresh = λ id d. absurd d;
}

pub settled_grows : (a b : Emission) → Settled a b → Grows a b []
settled_grows a b h = let e : next_of b ≡ next_of a = ap (λ t. t.next) h.symbols in
    grows_same a b h.same h.code (ap (λ t. t.entries) h.symbols) (omega (arith, e))

-- one value
values_one : (i : Instr) (r t : ℕ) → typed_result i ≡ typed r t ∷ [] → values (i ∷ []) ≡ r ∷ []
values_one i r t e = ap (λ l. map (λ x. x.id) l ++ []) e

pub all_one : {X : Type 0} (test : X → Bool) (x : X) → IsTrue (test x) → IsTrue (list_all test (x ∷ []))
all_one test x h = rw h refl

pub defines_one : (i : Instr) (r t id : ℕ) → typed_result i ≡ typed r t ∷ [] → Defines (i ∷ []) id → r ≡ id
defines_one i r t id e d = last (subst (λ l. In l id) (values_one i r t e) d) where
  last : In (r ∷ []) id → r ≡ id
  last (inl q) = q
  last (inr x) = absurd x

pub one_defines : (i : Instr) (r t id : ℕ) → typed_result i ≡ typed r t ∷ [] → r ≡ id → Defines (i ∷ []) id
one_defines i r t id e q = subst (λ l. In l id) (sym (values_one i r t e)) (inl q)

pub add_grows : (a b : Emission) (i : Instr) (r t : ℕ) → typed_result i ≡ typed r t ∷ [] → Adds a b i r → Grows a b (i ∷ [])
add_grows a b i r t e h = record {
  same = h.same;
  next = omega (arith, h.next);
  code = h.code ∙ ap (λ l. a.code.list ++ l) (sym (append-nil (words_of_instr i)));
  instructions = all_one is_instr i h.fits;
  distinct = subst (λ l. IsTrue (are_distinct l)) (sym (values_one i r t e)) refl;
  has = λ n id k. subst (λ l. Has l n id) (sym h.entries) k;
  later = λ n id k. inl (subst (λ l. Has l n id) h.entries k);
  globals = ap globals_in h.entries;
  fresh = λ id d.
      let q = defines_one i r t id e d in (
        omega (arith, q, h.result),
        omega (arith, q, h.result, h.next),
        λ n k. let lt = h.symbols_below n id (subst (λ l. Has l n id) h.entries k) in absurd (omega (arith, q, h.result, lt)),
      );
}

-- RUNS, one after the other.
pub at_same : {X : Type 0} (f : ℕ → X) (k : ℕ) (v : X) → with_at f k v k ≡ v
at_same f k v = grind arith

pub at_other : {X : Type 0} (f : ℕ → X) (k i : ℕ) (v : X) → i ≢ k → with_at f k v i ≡ f i
at_other f k i v h = grind (arith, h)

pub goes_join : {S : Type 0} (f : S → Turn S) (n k : ℕ) (s t u : S) → Goes f n s t → Goes f k t u → Goes f (n + k) s u
goes_join f zero k s t u g h = let e : k ≡ 0 + k = omega arith in subst (λ n. Goes f n s u) e (subst (λ x. Goes f k x u) (sym g) h)
goes_join f (suc n) k s t u g h =
    let e : suc (n + k) ≡ suc n + k = omega arith in
    subst (λ n. Goes f n s u) e (g.0, g.1, goes_join f n k g.0 t u g.2 h)

pub runs_none : (z : Site) (s : State) → Runs z [] s s
runs_none z s = record { goes = refl; place = omega arith; kept = λ id d. refl }

pub runs_on : (z : Site) (x y : List Instr) (s t u : State) → Runs z x s t → Runs z y t u → Runs z (x ++ y) s u
runs_on z x y s t u g h = record {
  goes = subst (λ k. Goes (step z.machine) k s u) (sym (length-append x y)) (goes_join (step z.machine) (length x) (length y) s t u g.goes h.goes);
  place = omega (arith, g.place, h.place, length-append x y);
  kept = λ id d. h.kept id (λ e. d (defines_back x y id e)) ∙ g.kept id (λ e. d (defines_front x y id e));
}

pub runs_one : (z : Site) (i : Instr) (s : State) (r t : ℕ) (v : Value) → typed_result i ≡ typed r t ∷ [] → step z.machine s ≡ sets s r v
    → Runs z (i ∷ []) s (with_value s r v)
runs_one z i s r t v e h = record {
  goes = (with_value s r v, h, refl);
  place = refl;
  kept = λ id d. at_other s.values r id (Some v) (λ q. d (one_defines i r t id e (sym q)));
}

-- STANDING in front of parts.
pub stands_front : (z : Site) (x y : List Instr) (table : Table) (s : State) (t : Words) → Stands z (x ++ y) table s t → Stands z x table s t
stands_front z x y table s t h = record { here = code_front z.machine.code s.place x y h.here; mirrors = h.mirrors; words = h.words }

pub stands_back : (z : Site) (x y : List Instr) (a b : Table) (s u : State) (t : Words)
    → Stands z (x ++ y) a s t → Runs z x s u → Mirrors z b u t → Stands z y b u t
stands_back z x y a b s u t h r mir = record {
  here = subst (λ p. HasAt z.machine.code p y) (sym r.place) (code_back z.machine.code s.place x y h.here);
  mirrors = mir;
  words = h.words;
}
