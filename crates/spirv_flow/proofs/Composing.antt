-- Code behind code, as a module grows.
use Rattle.std.proofs.Common.{◌≡◌, ℕ, ◌+◌, ◌≤◌, inr, List, [], ◌∷◌, ◌++◌, Some, None, refl, sym, ap, ◌∙◌, subst, arith, append_assoc}
use Rattle.std.specs.Prelude.{nat_eq, cond}
use Rattle.std.proofs.lemmas.Bool.Decides.{nat_tests}
use Rattle.kept_values.specs.Tables.{id_in}
use Rattle.spirv_words.specs.Roles.{Flow, Plain, Local, Begins, Closes, Label, Merge, LoopMerge, Branch, Choose, Switch, Leave}
use Rattle.spirv_words.specs.Blocks.{flow_of}
use Rattle.spirv_words.specs.Definitions.{results}
use Rattle.spirv_words.specs.Ids.{ids_of}
use Rattle.spirv_words.specs.Text.{Instr}
use Rattle.spirv_symbols.specs.declared.entry.Entry.{Entry}
use Rattle.spirv_symbols.specs.declared.symbol.TypeSymbol.{TypeSymbol}
use Rattle.spirv_symbols.specs.Contexts.{Context}
use Rattle.spirv_emit.specs.Code.{Typed, In, IsOf, IsTyped, AreTyped, Covers, CoversKept, known_behind, known_by, behind, typed_result}
use Rattle.spirv_emit.specs.declared.emitter.Emitter.{Emitter as Emission}
use Rattle.spirv_emit.specs.Growing.{Grows, Completes}
use Rattle.spirv_emit.specs.Lanes.{Site}
use Rattle.spirv_emit.specs.Blocks.{Ends, Begins as BeginsBlock}
use Rattle.spirv_emit.specs.Steps.{Takes, TakesRow}
use Rattle.spirv_flow.specs.Layout.{label}
use Rattle.spirv_flow.specs.Lowers.{Written, times, AtMost}

-- LISTS.
pub in_right : {X : Type 0} (xs ys : List X) (x : X) → In ys x → In (xs ++ ys) x
in_right [] ys x h = h
in_right (y ∷ xs) ys x h = inr (in_right xs ys x h)

pub times_append : (id : ℕ) (xs ys : List ℕ) → times id (xs ++ ys) ≡ times id xs + times id ys
times_append id [] ys = omega arith
times_append id (x ∷ xs) ys = let e = times_append id xs ys in omega (arith, e)

pub results_append : (x y : List Instr) → results (x ++ y) ≡ results x ++ results y
results_append [] y = refl
results_append (i ∷ x) y = ap (λ l. (ids_of i).results ++ l) (results_append x y) ∙ sym (append_assoc (ids_of i).results (results x) (results y))

pub times_results : (id : ℕ) (x y : List Instr) → times id (results (x ++ y)) ≡ times id (results x) + times id (results y)
times_results id x y = ap (times id) (results_append x y) ∙ times_append id (results x) (results y)

-- WHAT IS KNOWN behind code.
module _ (names : List Entry) where
  pub of_more : (more known : List Typed) (type : TypeSymbol) (id : ℕ) → IsOf names known type id → IsOf names (more ++ known) type id
  of_more more known type id h = (h.0, h.1, in_right more known _ h.2)

  covers_more : (context : Context) (more known : List Typed) → Covers names context known → Covers names context (more ++ known)
  covers_more context more known h s type id a b = of_more more known type id (h s type id a b)

  covers_by : (context : Context) (f : Flow) (globals more known : List Typed) → Covers names context globals → Covers names context known
      → Covers names context (known_by f globals (more ++ known))
  covers_by context (Label l) globals more known g h = g
  covers_by context Plain globals more known g h = covers_more context more known h
  covers_by context Local globals more known g h = covers_more context more known h
  covers_by context Begins globals more known g h = covers_more context more known h
  covers_by context Closes globals more known g h = covers_more context more known h
  covers_by context (Merge l) globals more known g h = covers_more context more known h
  covers_by context (LoopMerge l c) globals more known g h = covers_more context more known h
  covers_by context (Branch l) globals more known g h = covers_more context more known h
  covers_by context (Choose l k) globals more known g h = covers_more context more known h
  covers_by context (Switch other targets) globals more known g h = covers_more context more known h
  covers_by context Leave globals more known g h = covers_more context more known h

  pub covers_behind : (context : Context) (globals known : List Typed) (code : List Instr) → Covers names context globals → Covers names context known
      → Covers names context (behind globals known code)
  covers_behind context globals known [] g h = h
  covers_behind context globals known (i ∷ is) g h =
      covers_behind context globals (known_behind globals known i) is g (covers_by context (flow_of i) globals (typed_result i) known g h)

  pub behind_append : (globals known : List Typed) (x y : List Instr) → behind globals known (x ++ y) ≡ behind globals (behind globals known x) y
  behind_append globals known [] y = refl
  behind_append globals known (i ∷ x) y = behind_append globals (known_behind globals known i) x y

  pub typed_both : (globals known : List Typed) (x y : List Instr) → AreTyped names globals known x → AreTyped names globals (behind globals known x)
      y
      → AreTyped names globals known (x ++ y)
  typed_both globals known [] y g h = h
  typed_both globals known (i ∷ x) y g h = (g.0, typed_both globals (known_behind globals known i) x y g.1 h)

-- GROWING, by what is proved of growth.
pub record IsGrowth : Type 0 where
  pub on : (a b c : Emission) (x y : List Instr) → Grows a b x → Grows b c y → Grows a c (x ++ y)
  pub back : (a b : Emission) (x : List Instr) (z : Site) → Grows a b x → Completes b z → Completes a z
  pub taken : (a b : Emission) (r : ℕ) → Takes a b r → Grows a b []
  pub row : (a b : Emission) (first count : ℕ) → TakesRow a b first count → Grows a b []

module _ (growth : IsGrowth) where
  pub written_on : (a b c : Emission) (x y : List Instr) → Written a b x → Written b c y → Written a c (x ++ y)
  written_on a b c x y g h = record {
    grows = growth.on a b c x y g.grows h.grows;
    known = λ z w globals known cg ck kept.
        let first = g.known z (growth.back b c y z h.grows w) globals known cg ck kept in
        let mid = behind globals known x in
        let second = h.known z w globals mid cg (covers_behind z.names z.frame.context globals known x cg ck) first.kept in
        record {
          typed = typed_both z.names globals known x y first.typed second.typed;
          kept = subst (λ l. CoversKept z.names c.kept l) (sym (behind_append z.names globals known x y)) second.kept;
        };
  }

  -- ids that were taken for labels
  pub written_taken : (a b : Emission) (r : ℕ) → Takes a b r → Written a b []
  written_taken a b r h = record {
    grows = growth.taken a b r h;
    known = λ z w globals known cg ck kept. record { typed = tt; kept = subst (λ t. CoversKept z.names t known) (sym h.kept) kept };
  }

-- one instruction that names labels, and a label
pub written_end : (a b : Emission) (i : Instr) → Ends a b (i ∷ []) → ((names : List Entry) (known : List Typed) → IsTyped names known i)
    → ((globals known : List Typed) → known_behind globals known i ≡ known) → Written a b (i ∷ [])
written_end a b i h typed same = record {
  grows = h.grows;
  known = λ z w globals known cg ck kept. record {
    typed = (typed z.names known, tt);
    kept = subst (λ t. CoversKept z.names t (known_behind globals known i)) (sym h.kept)
        (subst (λ l. CoversKept z.names a.kept l) (sym (same globals known)) kept);
  };
}

pub written_label : (a b : Emission) (l : ℕ) → BeginsBlock a b l → Written a b (label l ∷ [])
written_label a b l h = record {
  grows = h.grows;
  known = λ z w globals known cg ck kept. record { typed = (tt, tt); kept = λ k id e. absurd (none k id (h.empty.ids k) e) };
} where
  none : (k : _) (id : ℕ) → id_in b.kept k ≡ None → id_in b.kept k ≡ Some id → ⊥
  none k id e f = absurd (cc)

-- HOW OFTEN, one behind the other.
abbrev pub is_it : ℕ → ℕ → ℕ
is_it x id = cond (nat_eq x id) 1 0

pub one_id : (id n x : ℕ) → x ≡ n → AtMost id n (n + 1) 0 0 (is_it x id)
one_id id n x e = grind (arith, nat_tests)

pub joined : (id a b c x y n : ℕ) → a ≤ b → b ≤ c → n ≡ x + y → AtMost id a b 0 0 x → AtMost id b c 0 0 y → AtMost id a c 0 0 n
joined id a b c x y n p q e g h = grind arith

pub no_marks : (id a b first count n : ℕ) → count ≡ 0 → AtMost id a b first count n → AtMost id a b 0 0 n
no_marks id a b first count n e h = grind arith

-- the labels of cases were taken directly in front
pub with_marks : (id a b first count n : ℕ) → first + count ≤ a → a ≤ b → AtMost id a b first count n → AtMost id first b 0 0 n
with_marks id a b first count n e f h = grind arith

pub any_marks : (id a b first count n : ℕ) → AtMost id a b 0 0 n → AtMost id a b first count n
any_marks id a b first count n h = grind arith

pub both_marks : (id a b c first p q x y n : ℕ) → a ≤ b → b ≤ c → first + p + q ≤ a → n ≡ x + y → AtMost id a b first p x → AtMost id b c
    (first + p) q y
    → AtMost id a c first (p + q) n
both_marks id a b c first p q x y n u v w e g h = grind arith

-- what was stored, the label of a case, and what stands behind it
pub case_once : (id a b e first count tf tl all : ℕ) → first + count + 1 ≤ a → a ≤ b → b ≤ e → all ≡ tf + is_it first id + tl → AtMost id a b 0 0 tf
    → AtMost id b e (first + 1) count tl → AtMost id a e first (count + 1) all
case_once id a b e first count tf tl all older p q s f h =
    let mark = one_id id first first refl in
    case_join id a b e first count tf (is_it first id) tl all older p q s f mark h where
      case_join : (id a b e first count tf m tl all : ℕ) → first + count + 1 ≤ a → a ≤ b → b ≤ e → all ≡ tf + m + tl → AtMost id a b 0 0 tf
          → AtMost id first (first + 1) 0 0 m
          → AtMost id b e (first + 1) count tl → AtMost id a e first (count + 1) all
      case_join id a b e first count tf m tl all older p q s f g h = grind arith
