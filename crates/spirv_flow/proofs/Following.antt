-- What follows a place in the code of a function, while the module's lane follows the tree's.
use Rattle.std.proofs.Common.{◌≡◌, ℕ, ◌+◌, ◌<◌, ◌≤◌, List, [], ◌∷◌, length, Option, Some, Bool, true, refl, sym, ◌∙◌, subst, arith}
use Rattle.std.specs.Prelude.{slice_get}
use Rattle.spirv_words.specs.Text.{Instr}
use Rattle.spirv_words.specs.Globals.{Machine}
use Rattle.spirv_words.specs.Lane.{State}
use Rattle.shader_tree.specs.Chains.{Link, Again, Out, push, left, renewed}
use Rattle.shader_tree.specs.Terms.{Term}
use Rattle.shader_tree.specs.Values.{Spaces, Words}
use Rattle.spirv_flow.specs.Layout.{Layout, branch, loop_merge, leave, code_of, ArePlain, Placed}
use Rattle.spirv_emit.specs.Lanes.{HasAt}
use Rattle.spirv_flow.specs.Pieces.{IsSettled, CarriesOver, Passes}
use Rattle.spirv_flow.specs.Lowering.{IsBody, Lowered}
use Rattle.spirv_flow.proofs.Chains.{left_push, renewed_push}
use Rattle.spirv_flow.proofs.Steps.{Labels}

-- The blocks of a statement, straight code, a branch, the end of a loop's body in its continue block, and the end of a switch.
pub data Follow (Table : Type 0) : Type 0 where
  Rest : (x : Term) (l : Layout) (brk cont : ℕ) (z : Table) → Follow Table
  Pass : (code : List Instr) (z : Table) → Follow Table
  Jump : (to : ℕ) → Follow Table
  Turns : (body : Term) (header inside continue merge : ℕ) (x : Layout) (back : List Instr) → Follow Table
  Closes : (to : ℕ) → Follow Table

abbrev pub chain_of : {Table : Type 0} → List (Follow Table) → List Link
chain_of [] = []
chain_of (Rest x l brk cont z ∷ k) = push x (chain_of k)
chain_of (Pass code z ∷ k) = chain_of k
chain_of (Jump to ∷ k) = chain_of k
chain_of (Turns body h i c n x back ∷ k) = Again body ∷ chain_of k
chain_of (Closes to ∷ k) = Out ∷ chain_of k

-- where a break and a continue lead
abbrev pub BreaksTo : {Table : Type 0} → List (Follow Table) → ℕ → Type 0
BreaksTo [] to = ⊥
BreaksTo (Rest x l brk cont z ∷ k) to = BreaksTo k to
BreaksTo (Pass code z ∷ k) to = BreaksTo k to
BreaksTo (Jump j ∷ k) to = BreaksTo k to
BreaksTo (Turns body h i c n x back ∷ k) to = to ≡ n
BreaksTo (Closes j ∷ k) to = to ≡ j

abbrev pub ContinuesTo : {Table : Type 0} → List (Follow Table) → ℕ → Type 0
ContinuesTo [] to = ⊥
ContinuesTo (Rest x l brk cont z ∷ k) to = ContinuesTo k to
ContinuesTo (Pass code z ∷ k) to = ContinuesTo k to
ContinuesTo (Jump j ∷ k) to = ContinuesTo k to
ContinuesTo (Turns body h i c n x back ∷ k) to = to ≡ c
ContinuesTo (Closes j ∷ k) to = ContinuesTo k to

pub record Stands {Table : Type 0} (l : Layout) (k : List (Follow Table)) (brk cont : ℕ) : Type 0 where
  pub in_loop : Bool
  pub in_any : Bool
  pub placed : Placed l in_loop in_any
  pub breaks : in_any ≡ true → BreaksTo k brk
  pub continues : in_loop ≡ true → ContinuesTo k cont

module _ (g : Spaces) (m : Machine) (settled : IsSettled m.code) (Table : Type 0) (Holds : Table → State → Words → Type 0)
    (IsClean IsNew : Table → Type 0)
    (carries : CarriesOver Holds IsClean IsNew) where
  abbrev code_length : Layout → ℕ → ℕ → ℕ
  code_length l brk cont = length (code_of l brk cont)

  -- a branch to a label, behind which this stands
  pub record Leads (to p : ℕ) (Then : ℕ → Table → Type 0) : Type 0 where
    pub q : ℕ
    pub labelled : Labels m settled to q
    pub ahead : p < q
    pub begun : Table
    pub is_begun : IsNew begun
    pub then : Then q begun

  -- the continue block of a loop
  pub record IsTurn (body : Term) (h i c n : ℕ) (x : Layout) (back : List Instr) (p : ℕ) (a : Table) (Then : ℕ → Table → Type 0) : Type 0 where
    pub clean : IsClean a
    pub here : slice_get m.code p ≡ Some (branch h)
    pub labelled : Labels m settled c p
    pub head : ℕ
    pub at_head : Labels m settled h head
    pub merges : slice_get m.code head ≡ Some (loop_merge n c)
    pub enters : slice_get m.code (head + 1) ≡ Some (branch i)
    pub inner : ℕ
    pub at_inner : Labels m settled i inner
    pub body_here : HasAt m.code inner (code_of x n c)
    pub back_here : HasAt m.code (inner + code_length x n c) back
    pub ends : slice_get m.code (inner + code_length x n c + length back) ≡ Some (branch c)
    pub is_body : IsBody m Holds IsClean IsNew (λ k b z. Lowered m Holds IsClean IsNew g body k b z) x back
    pub placed : Placed x true true
    pub plain : ArePlain back
    pub behind : Leads n p Then
    pub head_first : head + 1 < inner
    pub turn_last : inner + code_length x n c + length back < p

  abbrev pub After : ℕ → Table → List (Follow Table) → Type 0
  After p a [] = slice_get m.code p ≡ Some leave
  After p a (Rest x l brk cont z ∷ k) =
      HasAt m.code p (code_of l brk cont) × Lowered m Holds IsClean IsNew g x l a z × Stands l k brk cont × After (p + code_length l brk cont) z k
  After p a (Pass code z ∷ k) = HasAt m.code p code × Passes m Holds code a z × ArePlain code × After (p + length code) z k
  After p a (Jump to ∷ k) = IsClean a × (slice_get m.code p ≡ Some (branch to)) × Leads to p (λ q b. After q b k)
  After p a (Turns body h i c n x back ∷ k) = IsTurn body h i c n x back p a (λ q b. After q b k)
  After p a (Closes to ∷ k) = IsClean a × (slice_get m.code p ≡ Some (branch to)) × Leads to p (λ q b. After q b k)

  -- behind a break: at the label to which it leads
  pub record Lands (to p : ℕ) (chain : Option (List Link)) : Type 0 where
    pub q : ℕ
    pub labelled : Labels m settled to q
    pub ahead : p ≤ q
    pub begun : Table
    pub is_begun : IsNew begun
    pub items : List (Follow Table)
    pub after : After q begun items
    pub found : chain ≡ Some (chain_of items)

  lands_at : (to p r : ℕ) (o u : Option (List Link)) → p ≤ r → o ≡ u → Lands to r o → Lands to p u
  lands_at to p r o u l e w = record {
    q = w.q;
    labelled = w.labelled;
    ahead = omega (arith, l, w.ahead);
    begun = w.begun;
    is_begun = w.is_begun;
    items = w.items;
    after = w.after;
    found = sym e ∙ w.found;
  }

  lands_behind : (to j p : ℕ) (k : List (Follow Table)) (o : Option (List Link)) → to ≡ j → o ≡ Some (chain_of k) → Leads j p (λ q b. After q b k)
      → Lands to p o
  lands_behind to j p k o e h w = record {
    q = w.q;
    labelled = subst (λ y. Labels m settled y w.q) (sym e) w.labelled;
    ahead = omega (arith, w.ahead);
    begun = w.begun;
    is_begun = w.is_begun;
    items = k;
    after = w.then;
    found = h;
  }

  pub breaks_to : (k : List (Follow Table)) (to p : ℕ) (a : Table) → BreaksTo k to → After p a k → Lands to p (left (chain_of k))
  breaks_to [] to p a b h = absurd b
  breaks_to (Rest x l brk cont z ∷ k) to p a b h =
      lands_at to p (p + code_length l brk cont) (left (chain_of k)) (left (push x (chain_of k))) (omega arith) (sym (left_push x (chain_of k)))
      (breaks_to k to (p + code_length l brk cont) z b h.3)
  breaks_to (Pass code z ∷ k) to p a b h =
      lands_at to p (p + length code) (left (chain_of k)) (left (chain_of k)) (omega arith) refl (breaks_to k to (p + length code) z b h.3)
  breaks_to (Jump j ∷ k) to p a b h =
      let w = h.2 in
      lands_at to p w.q (left (chain_of k)) (left (chain_of k)) (omega (arith, w.ahead)) refl (breaks_to k to w.q w.begun b w.then)
  breaks_to (Turns body i j c n x back ∷ k) to p a b h = lands_behind to n p k (left (Again body ∷ chain_of k)) b refl h.behind
  breaks_to (Closes j ∷ k) to p a b h = lands_behind to j p k (left (Out ∷ chain_of k)) b refl h.2

  -- behind a continue: in the continue block
  turn_begun : (body : Term) (i j c n : ℕ) (x : Layout) (back : List Instr) (p : ℕ) (a b : Table) (Then : ℕ → Table → Type 0)
      → IsClean b → IsTurn body i j c n x back p a Then → IsTurn body i j c n x back p b Then
  turn_begun body i j c n x back p a b Then clean h = record {
    clean = clean;
    here = h.here;
    labelled = h.labelled;
    head = h.head;
    at_head = h.at_head;
    merges = h.merges;
    enters = h.enters;
    inner = h.inner;
    at_inner = h.at_inner;
    body_here = h.body_here;
    back_here = h.back_here;
    ends = h.ends;
    is_body = h.is_body;
    placed = h.placed;
    plain = h.plain;
    behind = h.behind;
    head_first = h.head_first;
    turn_last = h.turn_last;
  }

  continues_here : (body : Term) (i j c n : ℕ) (x : Layout) (back : List Instr) (k : List (Follow Table)) (to p : ℕ) (a : Table) → to ≡ c
      → IsTurn body i j c n x back p a (λ q b. After q b k) → Lands to p (Some (Again body ∷ chain_of k))
  continues_here body i j c n x back k to p a e h = record {
    q = p;
    labelled = subst (λ y. Labels m settled y p) (sym e) h.labelled;
    ahead = omega arith;
    begun = h.is_body.begun;
    is_begun = h.is_body.is_begun;
    items = Turns body i j c n x back ∷ k;
    after = turn_begun body i j c n x back p a h.is_body.begun (λ q b. After q b k) (carries.new_clean h.is_body.begun h.is_body.is_begun) h;
    found = refl;
  }

  pub continues_to : (k : List (Follow Table)) (to p : ℕ) (a : Table) → ContinuesTo k to → After p a k → Lands to p (renewed (chain_of k))
  continues_to [] to p a b h = absurd b
  continues_to (Rest x l brk cont z ∷ k) to p a b h =
      lands_at to p (p + code_length l brk cont) (renewed (chain_of k)) (renewed (push x (chain_of k))) (omega arith)
      (sym (renewed_push x (chain_of k)))
      (continues_to k to (p + code_length l brk cont) z b h.3)
  continues_to (Pass code z ∷ k) to p a b h =
      lands_at to p (p + length code) (renewed (chain_of k)) (renewed (chain_of k)) (omega arith) refl (continues_to k to (p + length code) z b h.3)
  continues_to (Jump j ∷ k) to p a b h =
      let w = h.2 in
      lands_at to p w.q (renewed (chain_of k)) (renewed (chain_of k)) (omega (arith, w.ahead)) refl (continues_to k to w.q w.begun b w.then)
  continues_to (Turns body i j c n x back ∷ k) to p a b h = continues_here body i j c n x back k to p a b h
  continues_to (Closes j ∷ k) to p a b h =
      let w = h.2 in
      lands_at to p w.q (renewed (chain_of k)) (renewed (chain_of k)) (omega (arith, w.ahead)) refl (continues_to k to w.q w.begun b w.then)
