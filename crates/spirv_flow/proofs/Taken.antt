-- The labels of code are ids that were taken for them, which are no symbol's.
use Rattle.std.proofs.Common.{◌≡◌, ℕ, ◌+◌, ◌<◌, ◌≤◌, ◌⊎◌, inl, inr, ⊎_elim, List, [], ◌∷◌, ◌++◌, subst, arith}
use Rattle.spirv_words.specs.Blocks.{flow_of}
use Rattle.spirv_words.specs.Text.{Instr}
use Rattle.spirv_symbols.specs.declared.symbol.Symbol.{Symbol}
use Rattle.spirv_symbols.specs.Tables.{Has}
use Rattle.spirv_emit.specs.Code.{In}
use Rattle.spirv_emit.specs.Emission.{next_of}
use Rattle.spirv_emit.specs.declared.emitter.Emitter.{Emitter as Emission}
use Rattle.spirv_emit.specs.Growing.{Grows}
use Rattle.spirv_emit.specs.Steps.{Takes, TakesRow}
use Rattle.spirv_flow.specs.Labels.{labels_of, labels_in}
use Rattle.spirv_flow.specs.Layout.{label, branch, merge, loop_merge, choose, ArePlain}
use Rattle.spirv_flow.specs.Lowers.{IsTaken}
use Rattle.spirv_flow.proofs.FormKnown.{in_either}
use Rattle.spirv_flow.proofs.FormNames.{labels_append}

abbrev pub AllLabels : (ℕ → Type 0) → List Instr → Type 0
AllLabels P code = (id : ℕ) → In (labels_in code) id → P id

module _ (P : ℕ → Type 0) where
  pub labels_both : (x y : List Instr) → AllLabels P x → AllLabels P y → AllLabels P (x ++ y)
  labels_both x y g h id i = ⊎_elim (g id) (h id) (in_either (labels_in x) (labels_in y) id (subst (λ l. In l id) (labels_append x y) i))

  pub labels_plain : (x : List Instr) → ArePlain x → AllLabels P x
  labels_plain [] p id h = absurd h
  labels_plain (i ∷ x) p id h = labels_plain x p.1 id (subst (λ f. In (labels_of f ++ labels_in x) id) p.0.0 h)

  pub labels_next : (l : ℕ) (x : List Instr) → P l → AllLabels P x → AllLabels P (label l ∷ x)
  labels_next l x p h id (inl e) = subst P e p
  labels_next l x p h id (inr i) = h id i

  pub labels_none : AllLabels P []
  labels_none id h = absurd h

  -- the last label of a construct
  pub labels_last : (m : ℕ) → P m → AllLabels P (branch m ∷ label m ∷ [])
  labels_last m p = labels_next m [] p labels_none

pub labels_mapped : (P Q : ℕ → Type 0) (x : List Instr) → ((id : ℕ) → P id → Q id) → AllLabels P x → AllLabels Q x
labels_mapped P Q x f h id i = f id (h id i)

-- An emitter is a later one: further symbols have new ids.
pub record Later (a b : Emission) : Type 0 where
  pub next : next_of a ≤ next_of b
  pub later : (s : Symbol) (id : ℕ) → Has b.symbols.entries s id → Has a.symbols.entries s id ⊎ (next_of a ≤ id)

pub later_by : (a b : Emission) (x : List Instr) → Grows a b x → Later a b
later_by a b x g = record { next = g.next; later = g.later }

pub later_same : (a : Emission) → Later a a
later_same a = record { next = omega arith; later = λ s id h. inl h }

pub later_on : (a b c : Emission) → Later a b → Later b c → Later a c
later_on a b c g h = record {
  next = omega (arith, g.next, h.next);
  later = λ s id k. ⊎_elim (λ i. g.later s id i) (λ le. inr (omega (arith, le, g.next))) (h.later s id k);
}

pub later_then : (a b c : Emission) (x : List Instr) → Grows a b x → Later b c → Later a c
later_then a b c x g h = later_on a b c (later_by a b x g) h

pub later_taken : (a b c : Emission) (r : ℕ) → Takes a b r → Later b c → Later a c
later_taken a b c r t h =
    later_on a b c (record { next = omega (arith, t.next); later = λ s id k. inl (subst (λ l. Has l s id) t.entries k) }) h

pub later_row : (a b c : Emission) (first count : ℕ) → TakesRow a b first count → Later b c → Later a c
later_row a b c first count t h =
    later_on a b c (record { next = omega (arith, t.next, t.result); later = λ s id k. inl (subst (λ l. Has l s id) t.entries k) }) h

-- what was taken in between stays taken
pub widen : (a b c d : Emission) (id : ℕ) → Later a b → Later c d → IsTaken b c id → IsTaken a d id
widen a b c d id g h t = (
  omega (arith, t.0, g.next),
  omega (arith, t.1, h.next),
  λ s k. ⊎_elim (λ i. t.2 s i) (λ le. absurd (omega (arith, le, t.1))) (h.later s id k),
)

pub taken_one : (a b : Emission) (r : ℕ) → Takes a b r → IsTaken a b r
taken_one a b r t = (
  omega (arith, t.result),
  omega (arith, t.result, t.next),
  λ s k. let lt = t.symbols_below s r (subst (λ l. Has l s r) t.entries k) in absurd (omega (arith, lt, t.result)),
)

pub taken_row : (a b : Emission) (first count id : ℕ) → TakesRow a b first count → first ≤ id → id < first + count → IsTaken a b id
taken_row a b first count id t le lt = (
  omega (arith, t.result, le),
  omega (arith, t.next, lt),
  λ s k. let below = t.symbols_below s id (subst (λ l. Has l s id) t.entries k) in absurd (omega (arith, below, t.result, le)),
)

-- a label that was taken directly behind a front, in front of what follows
pub taken_in : (a b c d : Emission) (r : ℕ) → Later a b → Takes b c r → Later c d → IsTaken a d r
taken_in a b c d r g t h = widen a b c d r g h (taken_one b c r t)

pub labels_within : (a b c d : Emission) (code : List Instr) → Later a b → Later c d → AllLabels (IsTaken b c) code → AllLabels (IsTaken a d) code
labels_within a b c d code g h = labels_mapped (IsTaken b c) (IsTaken a d) code (λ id t. widen a b c d id g h t)

-- THE LABELS OF A CONSTRUCT, where those of its body were taken from e7 to e9.
pub guard_labels : (e0 e2 e3 e4 e7 e9 e11 : Emission) (front code : List Instr) (r i m : ℕ) → ArePlain front → Later e0 e2 → Takes e2 e3 i
    → Takes e3 e4 m → Later e4 e7 → AllLabels (IsTaken e7 e9) code → Later e7 e9 → Later e9 e11
    → AllLabels (IsTaken e0 e11) (front ++ (merge m ∷ choose r i m ∷ label i ∷ (code ++ (branch m ∷ label m ∷ []))))
guard_labels e0 e2 e3 e4 e7 e9 e11 front code r i m plain g ti tm h inner k j =
    let P = IsTaken e0 e11 in
    let end = later_on e4 e7 e11 h (later_on e7 e9 e11 k j) in
    let own = taken_in e0 e3 e4 e11 m (later_on e0 e2 e3 g (later_taken e2 e3 e3 i ti (later_same e3))) tm end in
    let first = taken_in e0 e2 e3 e11 i g ti (later_taken e3 e4 e11 m tm end) in
    let start = later_on e0 e2 e7 g (later_taken e2 e3 e7 i ti (later_taken e3 e4 e7 m tm h)) in
    labels_both P front (merge m ∷ choose r i m ∷ label i ∷ (code ++ (branch m ∷ label m ∷ []))) (labels_plain P front plain)
    (labels_next P i (code ++ (branch m ∷ label m ∷ [])) first
    (labels_both P code (branch m ∷ label m ∷ []) (labels_within e0 e7 e9 e11 code start j inner) (labels_last P m own)))

pub choice_labels : (e0 e2 e3 e4 e5 e8 e10 e12 e14 e16 : Emission) (front code code' : List Instr) (r i j m : ℕ) → ArePlain front → Later e0 e2
    → Takes e2 e3 i → Takes e3 e4 j → Takes e4 e5 m → Later e5 e8 → AllLabels (IsTaken e8 e10) code → Later e8 e10 → Later e10 e12
    → AllLabels (IsTaken e12 e14) code' → Later e12 e14 → Later e14 e16
    → AllLabels (IsTaken e0 e16)
    (front ++ (merge m ∷ choose r i j ∷ label i ∷ (code ++ (branch m ∷ label j ∷ (code' ++ (branch m ∷ label m ∷ []))))))
choice_labels e0 e2 e3 e4 e5 e8 e10 e12 e14 e16 front code code' r i j m plain g ti tj tm h inner k o inner' k' o' =
    let P = IsTaken e0 e16 in
    let last = branch m ∷ label m ∷ [] in
    let second = branch m ∷ label j ∷ (code' ++ last) in
    let late = later_on e12 e14 e16 k' o' in
    let mid = later_on e10 e12 e16 o late in
    let end = later_on e5 e8 e16 h (later_on e8 e10 e16 k mid) in
    let to3 = later_on e0 e2 e3 g (later_taken e2 e3 e3 i ti (later_same e3)) in
    let to4 = later_on e0 e3 e4 to3 (later_taken e3 e4 e4 j tj (later_same e4)) in
    let to8 = later_on e0 e4 e8 to4 (later_taken e4 e5 e8 m tm h) in
    let to12 = later_on e0 e8 e12 to8 (later_on e8 e10 e12 k o) in
    let behind4 = later_taken e4 e5 e16 m tm end in
    labels_both P front (merge m ∷ choose r i j ∷ label i ∷ (code ++ second)) (labels_plain P front plain)
    (labels_next P i (code ++ second) (taken_in e0 e2 e3 e16 i g ti (later_taken e3 e4 e16 j tj behind4))
    (labels_both P code second (labels_within e0 e8 e10 e16 code to8 mid inner)
    (labels_next P j (code' ++ last) (taken_in e0 e3 e4 e16 j to3 tj behind4)
    (labels_both P code' last (labels_within e0 e12 e14 e16 code' to12 o' inner') (labels_last P m (taken_in e0 e4 e5 e16 m to4 tm end))))))

pub loop_labels : (e0 e1 e2 e3 e4 e5 e10 e12 e16 : Emission) (front code : List Instr) (h i c m : ℕ) → ArePlain front → Later e0 e1
    → Takes e1 e2 h → Takes e2 e3 i → Takes e3 e4 c → Takes e4 e5 m → Later e5 e10 → AllLabels (IsTaken e10 e12) code → Later e10 e12
    → Later e12 e16
    → AllLabels (IsTaken e0 e16) (front ++ (branch h ∷ label h ∷ loop_merge m c ∷ branch i ∷ label i ∷
    (code ++ (branch c ∷ label c ∷ branch h ∷ label m ∷ []))))
loop_labels e0 e1 e2 e3 e4 e5 e10 e12 e16 front code h i c m plain g th ti tc tm begin inner k o =
    let P = IsTaken e0 e16 in
    let last = branch c ∷ label c ∷ branch h ∷ label m ∷ [] in
    let end = later_on e5 e10 e16 begin (later_on e10 e12 e16 k o) in
    let to2 = later_on e0 e1 e2 g (later_taken e1 e2 e2 h th (later_same e2)) in
    let to3 = later_on e0 e2 e3 to2 (later_taken e2 e3 e3 i ti (later_same e3)) in
    let to4 = later_on e0 e3 e4 to3 (later_taken e3 e4 e4 c tc (later_same e4)) in
    let to10 = later_on e0 e4 e10 to4 (later_taken e4 e5 e10 m tm begin) in
    let behind4 = later_taken e4 e5 e16 m tm end in
    let behind3 = later_taken e3 e4 e16 c tc behind4 in
    let behind2 = later_taken e2 e3 e16 i ti behind3 in
    labels_both P front (branch h ∷ label h ∷ loop_merge m c ∷ branch i ∷ label i ∷ (code ++ last)) (labels_plain P front plain)
    (labels_next P h (loop_merge m c ∷ branch i ∷ label i ∷ (code ++ last)) (taken_in e0 e1 e2 e16 h g th behind2)
    (labels_next P i (code ++ last) (taken_in e0 e2 e3 e16 i to2 ti behind3)
    (labels_both P code last (labels_within e0 e10 e12 e16 code to10 o inner)
    (labels_next P c (branch h ∷ label m ∷ []) (taken_in e0 e3 e4 e16 c to3 tc behind4)
    (labels_next P m [] (taken_in e0 e4 e5 e16 m to4 tm end) (labels_none P))))))

-- the labels of a switch's cases were taken in a row
abbrev pub IsMark : Emission → Emission → ℕ → ℕ → ℕ → Type 0
IsMark a b first count id = IsTaken a b id ⊎ ((first ≤ id) × (id < first + count))

pub switch_labels : (e0 e2 e3 e4 e5 e8 e10 e12 : Emission) (front code : List Instr) (i m first count : ℕ) (s : Instr)
    → labels_of (flow_of s) ≡ [] → ArePlain front → Later e0 e2 → Takes e2 e3 i → Takes e3 e4 m → TakesRow e4 e5 first count → Later e5 e8
    → AllLabels (IsMark e8 e10 first count) code → Later e8 e10 → Later e10 e12
    → AllLabels (IsTaken e0 e12) (front ++ (merge m ∷ s ∷ label i ∷ (code ++ (branch m ∷ label m ∷ []))))
switch_labels e0 e2 e3 e4 e5 e8 e10 e12 front code i m first count s none plain g ti tm row h inner k o =
    let P = IsTaken e0 e12 in
    let last = branch m ∷ label m ∷ [] in
    let end = later_on e5 e8 e12 h (later_on e8 e10 e12 k o) in
    let to3 = later_on e0 e2 e3 g (later_taken e2 e3 e3 i ti (later_same e3)) in
    let to4 = later_on e0 e3 e4 to3 (later_taken e3 e4 e4 m tm (later_same e4)) in
    let to8 = later_on e0 e4 e8 to4 (later_row e4 e5 e8 first count row h) in
    let behind4 = later_row e4 e5 e12 first count row end in
    let body : AllLabels P code =
    labels_mapped (IsMark e8 e10 first count) P code
    (λ id t. ⊎_elim (λ own. widen e0 e8 e10 e12 id to8 o own)
    (λ mark. widen e0 e4 e5 e12 id to4 end (taken_row e4 e5 first count id row mark.0 mark.1)) t) inner in
    labels_both P front (merge m ∷ s ∷ label i ∷ (code ++ last)) (labels_plain P front plain)
    (no_label (labels_in (label i ∷ (code ++ last))) (labels_next P i (code ++ last)
    (taken_in e0 e2 e3 e12 i g ti (later_taken e3 e4 e12 m tm behind4))
    (labels_both P code last body (labels_last P m (taken_in e0 e3 e4 e12 m to3 tm behind4))))) where
      no_label : (ls : List ℕ) → ((id : ℕ) → In ls id → IsTaken e0 e12 id) → (id : ℕ) → In (labels_of (flow_of s) ++ ls) id → IsTaken e0 e12 id
      no_label ls f id j = f id (subst (λ l. In (l ++ ls) id) none j)

-- away under a truth that always holds
pub away_labels : (e0 e2 e3 e4 e5 e12 : Emission) (front : List Instr) (r i m n : ℕ) (leads : Instr) → labels_of (flow_of leads) ≡ [] → ArePlain front
    → Later e0 e2 → Takes e2 e3 i → Takes e3 e4 m → Takes e4 e5 n → Later e5 e12
    → AllLabels (IsTaken e0 e12) (front ++ (merge m ∷ choose r i m ∷ label i ∷ ((leads ∷ label n ∷ []) ++ (branch m ∷ label m ∷ []))))
away_labels e0 e2 e3 e4 e5 e12 front r i m n leads none plain g ti tm tn end =
    let P = IsTaken e0 e12 in
    let last = branch m ∷ label m ∷ [] in
    let to3 = later_on e0 e2 e3 g (later_taken e2 e3 e3 i ti (later_same e3)) in
    let to4 = later_on e0 e3 e4 to3 (later_taken e3 e4 e4 m tm (later_same e4)) in
    let behind4 = later_taken e4 e5 e12 n tn end in
    labels_both P front (merge m ∷ choose r i m ∷ label i ∷ (leads ∷ label n ∷ last)) (labels_plain P front plain)
    (labels_next P i (leads ∷ label n ∷ last) (taken_in e0 e2 e3 e12 i g ti (later_taken e3 e4 e12 m tm behind4))
    (no_label (labels_in (label n ∷ last)) (labels_next P n last (taken_in e0 e4 e5 e12 n to4 tn end)
    (labels_last P m (taken_in e0 e3 e4 e12 m to3 tm behind4))))) where
      no_label : (ls : List ℕ) → ((id : ℕ) → In ls id → IsTaken e0 e12 id) → (id : ℕ) → In (labels_of (flow_of leads) ++ ls) id → IsTaken e0 e12 id
      no_label ls f id j = f id (subst (λ l. In (l ++ ls) id) none j)

-- without marks an id was taken
pub no_mark : (a b : Emission) (first count id : ℕ) → count ≡ 0 → IsMark a b first count id → IsTaken a b id
no_mark a b first count id e (inl t) = t
no_mark a b first count id e (inr m) = absurd (omega (arith, e, m.0, m.1))
