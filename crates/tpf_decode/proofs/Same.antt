-- An operand's words say what the operand is, and where they end.
use Rattle.std.proofs.Common.{◌≡◌, ℕ, List, [], ◌∷◌, ◌++◌, Option, Some, None, Bool, true, false, refl, sym, ap, ◌∙◌, subst, append_assoc}
use Rattle.std.specs.List.{list_any}
use Rattle.tpf_decode.specs.declared.argument.Kind.{Kind}
use Rattle.tpf_decode.specs.declared.argument.Kind.TheVariants.{Temp, Indexable, Constant}
use Rattle.tpf_decode.specs.declared.argument.Select.{Select}
use Rattle.tpf_decode.specs.declared.argument.Role.{Role}
use Rattle.tpf_decode.specs.declared.argument.Argument.{Argument}
use Rattle.tpf_decode.specs.declared.argument.Relative.{Relative}
use Rattle.tpf_decode.specs.Profiles.{Profile}
use Rattle.tpf_decode.specs.Tokens.{follows, kind_of, select_of, Fixed, Literal, Slot, Nothing, fixed_of, element_of, has_immediate, has_relative, is_negation}
use Rattle.tpf_decode.specs.Spelling.{IsChain, component_of, SpellsPlace, SpellsRelative, SpellsImmediate, SpellsAddend, SpellsElement, SpellsFixed, SpellsOperand}

-- two lists that begin with parts of their own
behind_front : (ws front back more vs : List ℕ) → ws ≡ front ++ back → ws ++ more ≡ vs → front ++ (back ++ more) ≡ vs
behind_front ws front back more vs e h = sym (append_assoc front back more) ∙ (ap (λ l. l ++ more) (sym e) ∙ h)

pub chain_same : (more : Bool) (e f xs ys : List ℕ) → IsChain more e → IsChain more f → e ++ xs ≡ f ++ ys → (e ≡ f) × (xs ≡ ys)
chain_same false [] [] xs ys h k p = (refl, p)
chain_same false [] (u ∷ us) xs ys h k p = absurd k
chain_same false (t ∷ ts) f xs ys h k p = absurd h
chain_same true [] f xs ys h k p = absurd h
chain_same true (t ∷ ts) [] xs ys h k p = absurd k
chain_same true (t ∷ ts) (u ∷ us) xs ys h k p =
    let q : t ≡ u = cc in
    let r : ts ++ xs ≡ us ++ ys = cc in
    let s = chain_same (follows t) ts us xs ys h (subst (λ n. IsChain (follows n) us) (sym q) k) r in
    (ap (λ n. n ∷ ts) q ∙ ap (λ l. u ∷ l) s.0, s.1)

place_same : (kind : Kind) (s i t j : ℕ) (ws vs xs ys : List ℕ) → SpellsPlace kind s i ws → SpellsPlace kind t j vs → ws ++ xs ≡ vs ++ ys → (s ≡ t) × (i ≡ j) × (xs ≡ ys)
place_same Temp s i t j ws vs xs ys h k p =
    let q : s ∷ xs ≡ t ∷ ys = ap (λ l. l ++ xs) (sym h.0) ∙ (p ∙ ap (λ l. l ++ ys) k.0) in
    (cc, h.1 ∙ sym k.1, cc)
place_same Indexable s i t j ws vs xs ys h k p =
    let q : s ∷ (i ∷ xs) ≡ t ∷ (j ∷ ys) = ap (λ l. l ++ xs) (sym h) ∙ (p ∙ ap (λ l. l ++ ys) k) in
    (cc, cc, cc)
place_same Constant s i t j ws vs xs ys h k p =
    let q : s ∷ (i ∷ xs) ≡ t ∷ (j ∷ ys) = ap (λ l. l ++ xs) (sym h) ∙ (p ∙ ap (λ l. l ++ ys) k) in
    (cc, cc, cc)
place_same kind s i t j ws vs xs ys h k p =
    (h.1 ∙ sym k.1, h.2 ∙ sym k.2, ap (λ l. l ++ xs) (sym h.0) ∙ (p ∙ ap (λ l. l ++ ys) k.0))

same_relative : (r q : Relative) → r.kind ≡ q.kind → r.slot ≡ q.slot → r.index ≡ q.index → r.component ≡ q.component → r ≡ q
same_relative r q a b c d =
    let made : Kind → ℕ → ℕ → ℕ → Relative = λ k s i n. record { kind = k; slot = s; index = i; component = n } in
    ap (λ k. made k r.slot r.index r.component) a
    ∙ (ap (λ s. made q.kind s r.index r.component) b
    ∙ (ap (λ i. made q.kind q.slot i r.component) c ∙ ap (made q.kind q.slot q.index) d))

relative_same : (r q : Relative) (ws vs xs ys : List ℕ) → SpellsRelative r ws → SpellsRelative q vs → ws ++ xs ≡ vs ++ ys → (r ≡ q) × (xs ≡ ys)
relative_same r q ws vs xs ys h k p =
    let e : h.token ∷ (h.place ++ xs) ≡ k.token ∷ (k.place ++ ys) = ap (λ l. l ++ xs) (sym h.parts) ∙ (p ∙ ap (λ l. l ++ ys) k.parts) in
    let t : h.token ≡ k.token = cc in
    let l : h.place ++ xs ≡ k.place ++ ys = cc in
    let o : Some r.kind ≡ Some q.kind = sym h.kind ∙ (ap kind_of t ∙ k.kind) in
    let n : r.kind ≡ q.kind = cc in
    let s = place_same q.kind r.slot r.index q.slot q.index h.place k.place xs ys (subst (λ x. SpellsPlace x r.slot r.index h.place) n h.indices) k.indices l in
    let c : r.component ≡ q.component = h.component ∙ (ap (λ x. component_of x h.token) n ∙ (ap (component_of q.kind) t ∙ sym k.component)) in
    (same_relative r q n s.0 s.1 c, s.2)

immediate_same : (b : Bool) (i j : ℕ) (ws vs xs ys : List ℕ) → SpellsImmediate b i ws → SpellsImmediate b j vs → ws ++ xs ≡ vs ++ ys → (i ≡ j) × (xs ≡ ys)
immediate_same true i j ws vs xs ys h k p =
    let q : i ∷ xs ≡ j ∷ ys = ap (λ l. l ++ xs) (sym h) ∙ (p ∙ ap (λ l. l ++ ys) k) in
    (cc, cc)
immediate_same false i j ws vs xs ys h k p =
    (h.1 ∙ sym k.1, ap (λ l. l ++ xs) (sym h.0) ∙ (p ∙ ap (λ l. l ++ ys) k.0))

addend_same : (b : Bool) (r q : Option Relative) (ws vs xs ys : List ℕ) → SpellsAddend b r ws → SpellsAddend b q vs → ws ++ xs ≡ vs ++ ys → (r ≡ q) × (xs ≡ ys)
addend_same false r q ws vs xs ys h k p =
    (h.1 ∙ sym k.1, ap (λ l. l ++ xs) (sym h.0) ∙ (p ∙ ap (λ l. l ++ ys) k.0))
addend_same true None q ws vs xs ys h k p = absurd h
addend_same true (Some r) None ws vs xs ys h k p = absurd k
addend_same true (Some r) (Some q) ws vs xs ys h k p =
    let s = relative_same r q ws vs xs ys h k p in
    (ap (λ x. Some x) s.0, s.1)

element_same : (o : Option ℕ) (i j : ℕ) (r q : Option Relative) (ws vs xs ys : List ℕ) → SpellsElement o i r ws → SpellsElement o j q vs → ws ++ xs ≡ vs ++ ys → (i ≡ j) × (r ≡ q) × (xs ≡ ys)
element_same None i j r q ws vs xs ys h k p =
    (h.1 ∙ sym k.1, h.2 ∙ sym k.2, ap (λ l. l ++ xs) (sym h.0) ∙ (p ∙ ap (λ l. l ++ ys) k.0))
element_same (Some n) i j r q ws vs xs ys h k p =
    let e = behind_front ws h.front h.back xs (k.front ++ (k.back ++ ys)) h.parts (p ∙ sym (behind_front vs k.front k.back ys (vs ++ ys) k.parts refl)) in
    let s = immediate_same (has_immediate n) i j h.front k.front (h.back ++ xs) (k.back ++ ys) h.immediate k.immediate e in
    let a = addend_same (has_relative n) r q h.back k.back xs ys h.addend k.addend s.1 in
    (s.0, a.0, a.1)

-- two immediates, slots or nothing
record SameFixed (s x y z w t a b c d : ℕ) (xs ys : List ℕ) : Type 0 where
  slot : s ≡ t
  first : x ≡ a
  second : y ≡ b
  third : z ≡ c
  fourth : w ≡ d
  rest : xs ≡ ys

fixed_same : (f : Fixed) (s x y z w t a b c d : ℕ) (ws vs xs ys : List ℕ) → SpellsFixed f s x y z w ws → SpellsFixed f t a b c d vs → ws ++ xs ≡ vs ++ ys → SameFixed s x y z w t a b c d xs ys
fixed_same (Literal true) s x y z w t a b c d ws vs xs ys h k p =
    let q : x ∷ (y ∷ (z ∷ (w ∷ xs))) ≡ a ∷ (b ∷ (c ∷ (d ∷ ys))) = ap (λ l. l ++ xs) (sym h.1) ∙ (p ∙ ap (λ l. l ++ ys) k.1) in
    record { slot = h.0 ∙ sym k.0; first = cc; second = cc; third = cc; fourth = cc; rest = cc }
fixed_same (Literal false) s x y z w t a b c d ws vs xs ys h k p =
    let q : x ∷ xs ≡ a ∷ ys = ap (λ l. l ++ xs) (sym h.1.0) ∙ (p ∙ ap (λ l. l ++ ys) k.1.0) in
    let e : x ≡ a = cc in
    record { slot = h.0 ∙ sym k.0; first = e; second = h.1.1 ∙ (e ∙ sym k.1.1); third = h.1.2 ∙ (e ∙ sym k.1.2); fourth = h.1.3 ∙ (e ∙ sym k.1.3); rest = cc }
fixed_same Slot s x y z w t a b c d ws vs xs ys h k p =
    let q : s ∷ xs ≡ t ∷ ys = ap (λ l. l ++ xs) (sym h.0) ∙ (p ∙ ap (λ l. l ++ ys) k.0) in
    record { slot = cc; first = h.1.x_is ∙ sym k.1.x_is; second = h.1.y_is ∙ sym k.1.y_is; third = h.1.z_is ∙ sym k.1.z_is; fourth = h.1.w_is ∙ sym k.1.w_is; rest = cc }
fixed_same Nothing s x y z w t a b c d ws vs xs ys h k p =
    record { slot = h.1 ∙ sym k.1; first = h.2.x_is ∙ sym k.2.x_is; second = h.2.y_is ∙ sym k.2.y_is; third = h.2.z_is ∙ sym k.2.z_is; fourth = h.2.w_is ∙ sym k.2.w_is; rest = ap (λ l. l ++ xs) (sym h.0) ∙ (p ∙ ap (λ l. l ++ ys) k.0) }

argument_of : Kind → Select → Bool → ℕ → ℕ → Option Relative → ℕ → ℕ → ℕ → ℕ → Argument
argument_of k s n l i r x y z w = record { kind = k; select = s; negate = n; slot = l; index = i; relative = r; x = x; y = y; z = z; w = w }

argument_made : (a : Argument) → argument_of a.kind a.select a.negate a.slot a.index a.relative a.x a.y a.z a.w ≡ a
unfolding argument_of
argument_made a = refl

same_fields : (a b : Argument) → a.kind ≡ b.kind → a.select ≡ b.select → a.negate ≡ b.negate → a.slot ≡ b.slot → a.index ≡ b.index → a.relative ≡ b.relative
    → a.x ≡ b.x → a.y ≡ b.y → a.z ≡ b.z → a.w ≡ b.w
    → argument_of a.kind a.select a.negate a.slot a.index a.relative a.x a.y a.z a.w ≡ argument_of b.kind b.select b.negate b.slot b.index b.relative b.x b.y b.z b.w
same_fields a b k s n l i r x y z w = cc

-- the words of two operands begin alike only where the operands are the same
pub operand_same : (profile : Profile) (code : ℕ) (role : Role) (a b : Argument) (ws vs xs ys : List ℕ) → SpellsOperand profile code role a ws → SpellsOperand profile code role b vs → ws ++ xs ≡ vs ++ ys → (a ≡ b) × (xs ≡ ys)
operand_same profile code role a b ws vs xs ys h k p =
    let e : h.token ∷ ((h.extended ++ h.behind) ++ xs) ≡ k.token ∷ ((k.extended ++ k.behind) ++ ys) = ap (λ l. l ++ xs) (sym h.parts) ∙ (p ∙ ap (λ l. l ++ ys) k.parts) in
    let t : h.token ≡ k.token = cc in
    let l : (h.extended ++ h.behind) ++ xs ≡ (k.extended ++ k.behind) ++ ys = cc in
    let m : h.extended ++ (h.behind ++ xs) ≡ k.extended ++ (k.behind ++ ys) = sym (append_assoc h.extended h.behind xs) ∙ (l ∙ append_assoc k.extended k.behind ys) in
    let c = chain_same (follows k.token) h.extended k.extended (h.behind ++ xs) (k.behind ++ ys) (subst (λ n. IsChain (follows n) h.extended) t h.chain) k.chain m in
    let o : Some a.kind ≡ Some b.kind = sym h.head.kind ∙ (ap kind_of t ∙ k.head.kind) in
    let kind : a.kind ≡ b.kind = cc in
    let select : a.select ≡ b.select = h.head.select ∙ (ap (λ x. select_of x h.token) kind ∙ (ap (select_of b.kind) t ∙ sym k.head.select)) in
    let negate : a.negate ≡ b.negate = h.negate ∙ (ap (list_any is_negation) c.0 ∙ sym k.negate) in
    let r = h.rest in
    let q = k.rest in
    let n = behind_front h.behind r.fixed r.element xs (q.fixed ++ (q.element ++ ys)) r.parts (c.1 ∙ sym (behind_front k.behind q.fixed q.element ys (k.behind ++ ys) q.parts refl)) in
    let f = fixed_same (fixed_of b.kind k.token) a.slot a.x a.y a.z a.w b.slot b.x b.y b.z b.w r.fixed q.fixed (r.element ++ xs) (q.element ++ ys)
    (subst (λ x. SpellsFixed (fixed_of b.kind x) a.slot a.x a.y a.z a.w r.fixed) t (subst (λ x. SpellsFixed (fixed_of x h.token) a.slot a.x a.y a.z a.w r.fixed) kind r.fixed_is)) q.fixed_is n in
    let g = element_same (element_of b.kind k.token) a.index b.index a.relative b.relative r.element q.element xs ys
    (subst (λ x. SpellsElement (element_of b.kind x) a.index a.relative r.element) t (subst (λ x. SpellsElement (element_of x h.token) a.index a.relative r.element) kind r.element_is)) q.element_is f.rest in (
      sym (argument_made a)
          ∙ (same_fields a b kind select negate f.slot g.0 g.1 f.first f.second f.third f.fourth ∙ argument_made b),
      g.2,
    )
