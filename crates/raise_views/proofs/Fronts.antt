-- The beginning of a guarded instruction: the indices of its operands and its address are kept; and its end: registers are
-- written.
use Rattle.std.proofs.Common.{◌≡◌, ℕ, ◌/◌, ◌<◌, Bool, true, false, List, [], ◌∷◌, ◌++◌, map, Option, Some, None, refl, sym, ap, subst, ◌∙◌, arith}
use Rattle.std.specs.Prelude.{if◌then◌else◌, filter}
use Rattle.word_base.specs.Registers.{Registers}
use Rattle.word_base.specs.Settings.{Setting}
use Rattle.tpf_decode.specs.declared.argument.Kind.{Kind}
use Rattle.tpf_decode.specs.declared.argument.Kind.TheVariants as kind
use Rattle.tpf_decode.specs.declared.argument.Select.{Select}
use Rattle.tpf_decode.specs.declared.argument.Select.TheVariants.{Bare, Mask, Swizzle, One}
use Rattle.tpf_program.specs.Holding.{SelectsInRange}
use Rattle.tpf_program.specs.Program.{Shader}
use Rattle.tpf_program.specs.Values.{context, selected}
use Rattle.tpf_program.specs.Writes.{in_mask, masked, written_by, with_word, with_words}
use Rattle.tpf_program.specs.Writes as writes
use Rattle.tpf_program.specs.declared.instruction.Instruction.{Instruction}
use Rattle.shader_tree.specs.Lane.{state, with_scratch, on_word}
use Rattle.word_base.specs.Lanes.{Silent}
use Rattle.shader_tree.specs.Terms.{Term}
use Rattle.shader_tree.specs.Terms as term
use Rattle.shader_tree.specs.Values.{Spaces, Words, words, value, word, for_word}
use Rattle.shader_tree.specs.Walks.{Each}
use Rattle.raise_operands.specs.Folding.{literal}
use Rattle.raise_operands.specs.Laws.{IsGiven, ReadingLaws}
use Rattle.raise_operands.specs.Raises.{AreInRange}
use Rattle.raise_operands.specs.Raising.{indices}
use Rattle.raise_operands.specs.Runs.{Leads, LeadsAll, Ready}
use Rattle.raise_operands.specs.Vectors.{spaces_of}
use Rattle.raise_views.specs.Guarding as guarding
use Rattle.raise_views.specs.Reaching.{At, keep, keep_by, keeps, known_or, quarter, quarter_by, word_scratch, structure_scratch}
use Rattle.raise_views.proofs.Jobs.{set_there, set_elsewhere}
use Rattle.raise_views.proofs.Locating.{Lit, lit}
use Rattle.raise_views.proofs.Planning.{Rises}

-- COMPONENTS of masks rise, and are below four.
abbrev pub Below : List ℕ → Type 0
Below [] = Unit {0}
Below (c ∷ cs) = (c < 4) × Below cs

abbrev pub Ascends : List ℕ → Type 0
Ascends cs = Rises (λ c. c < 4) cs

pub below_of : (cs : List ℕ) → Ascends cs → Below cs
below_of [] h = tt
below_of (c ∷ cs) h = (h.0, below_of cs h.2)

each_if : (P : ℕ → Type 0) (b : Bool) (x : ℕ) (xs : List ℕ) → P x → Each P xs → Each P (if b then x ∷ xs else xs)
each_if P true x xs h k = (h, k)
each_if P false x xs h k = k

each_filter : (P : ℕ → Type 0) (f : ℕ → Bool) (xs : List ℕ) → Each P xs → Each P (filter f xs)
each_filter P f [] h = tt
each_filter P f (x ∷ xs) h = each_if P (f x) x (filter f xs) h.0 (each_filter P f xs h.1)

ascends_if : (b : Bool) (x : ℕ) (xs : List ℕ) → x < 4 → Each (λ d. x < d) xs → Ascends xs → Ascends (if b then x ∷ xs else xs)
ascends_if true x xs h k l = (h, k, l)
ascends_if false x xs h k l = l

ascends_filter : (f : ℕ → Bool) (xs : List ℕ) → Ascends xs → Ascends (filter f xs)
ascends_filter f [] h = tt
ascends_filter f (x ∷ xs) h = ascends_if (f x) x (filter f xs) h.0 (each_filter (λ d. x < d) f xs h.1) (ascends_filter f xs h.2)

pub mask_ascends : (select : Select) → Ascends (masked select)
mask_ascends select =
    ascends_filter (in_mask select) (0 ∷ 1 ∷ 2 ∷ 3 ∷ []) (
      omega arith,
      (omega arith, (omega arith, (omega arith, tt))),
      (omega arith, (omega arith, (omega arith, tt)), (omega arith, (omega arith, tt), (omega arith, tt, tt))),
    )

pub written_ascends : (k : Kind) (select : Select) → Ascends (written_by k select)
written_ascends kind.Null select = tt
written_ascends other select = mask_ascends select

pub selected_below : (select : Select) (c : ℕ) → SelectsInRange select → c < 4 → selected select c < 4
selected_below Bare c h l = l
selected_below (Mask bits) c h l = l
selected_below (Swizzle bits) c h l = omega arith
selected_below (One k) c h l = h

-- what a list in two parts leads to
pub leads_all : (g : Spaces) (s : Setting) (xs ys : List Term) (t u v : Words) → LeadsAll g s xs t u → LeadsAll g s ys u v
    → LeadsAll g s (xs ++ ys) t v
leads_all g s [] ys t u v h k = subst (λ x. LeadsAll g s ys x v) (sym h) k
leads_all g s (x ∷ xs) ys t u v h k = (h.0, h.1, leads_all g s xs ys h.0 u v h.2 k)

pub leads_set : (g : Spaces) (s : Setting) (t : Words) (n w : ℕ) (v : Term) → value g s t v ≡ word w → Leads g s (term.Set n v) t (with_scratch t n w)
leads_set g s t n w v h k turns =
    (1, (state k (with_scratch t n w) turns, ap (λ x. on_word x (λ y. Silent (state k (with_scratch t n y) turns))) h, refl))

leads_nothing : (g : Spaces) (s : Setting) (t : Words) → Leads g s term.Nothing t t
leads_nothing g s t k turns = (0, refl)

-- A WORD THAT IS KEPT: the literal, or what the scratch word holds
abbrev pub Holds : Option ℕ → ℕ → ℕ → Words → Type 0
Holds (Some v) n w t = v ≡ w
Holds None n w t = t.scratch n ≡ w

pub holds_lit : (o : Option ℕ) (n w : ℕ) (t : Words) → Holds o n w t → Lit o w
holds_lit (Some v) n w t h = h
holds_lit None n w t h = tt

pub holds_value : (g : Spaces) (s : Setting) (o : Option ℕ) (n w : ℕ) (t : Words) → Holds o n w t → value g s t (known_or n o) ≡ word w
holds_value g s (Some v) n w t h = ap word h
holds_value g s None n w t h = ap word h

pub holds_on : (o : Option ℕ) (n w : ℕ) (t u : Words) → u.scratch n ≡ t.scratch n → Holds o n w t → Holds o n w u
holds_on (Some v) n w t u e h = h
holds_on None n w t u e h = e ∙ h

module _ (g : Spaces) (s : Setting) where
  pub record KeptOne (n : ℕ) (x : Term) (w : ℕ) (t : Words) : Type 0 where
    pub words' : Words
    pub leads : Leads g s (keep n x) t words'
    pub holds : Holds (literal x) n w words'
    pub others : (m : ℕ) → (m ≡ n → ⊥) → words'.scratch m ≡ t.scratch m
    pub registers : words'.registers ≡ t.registers

  pub keep_one : (n : ℕ) (x : Term) (w : ℕ) (t : Words) → value g s t x ≡ word w → KeptOne n x w t
  keep_one n x w t h = by_literal (literal x) refl (lit g s t x w h)
    where
      by_literal : (o : Option ℕ) → literal x ≡ o → Lit (literal x) w → KeptOne n x w t
      by_literal (Some v) e l = record {
        words' = t;
        leads = subst (λ q. Leads g s (keep_by q n x) t t) (sym e) (leads_nothing g s t);
        holds = subst (λ q. Lit q w → Holds q n w t) (sym e) (λ z. z) l;
        others = λ m z. refl;
        registers = refl;
      }
      by_literal None e l = record {
        words' = with_scratch t n w;
        leads = subst (λ q. Leads g s (keep_by q n x) t (with_scratch t n w)) (sym e) (leads_set g s t n w x h);
        holds = subst (λ q. Holds q n w (with_scratch t n w)) (sym e) (set_there t n w);
        others = λ m z. set_elsewhere t n w m z;
        registers = refl;
      }

  quarter_by_value : (o : Option ℕ) (x : Term) (w : ℕ) (t : Words) → Lit o w → value g s t x ≡ word w → value g s t (quarter_by o x) ≡ word (w / 4)
  quarter_by_value (Some v) x w t e h = ap (λ y. word (y / 4)) e
  quarter_by_value None x w t e h = ap (λ y. for_word y (λ z. word (z / 4))) h

  pub quarter_value : (x : Term) (w : ℕ) (t : Words) → value g s t x ≡ word w → value g s t (quarter x) ≡ word (w / 4)
  quarter_value x w t h = quarter_by_value (literal x) x w t (lit g s t x w h) h

module _ (reading : ReadingLaws) (p : Shader) (s : Setting) (o : Registers) (i : Instruction) (given : IsGiven p s o) (range : AreInRange i) where
  -- the words that the parts of an instruction keep
  pub record Inv (base t : Words) : Type 0 where
    pub registers : t.registers ≡ o
    pub same : (m : ℕ) → m < 12 → t.scratch m ≡ base.scratch m

  pub inv_on : (base t u : Words) → ((m : ℕ) → m < 12 → u.scratch m ≡ t.scratch m) → u.registers ≡ t.registers → Inv base t → Inv base u
  inv_on base t u h e k = record { registers = e ∙ k.registers; same = λ m l. h m l ∙ k.same m l }

  pub ready_in : (base t : Words) → Ready (context p s o) i base → Inv base t → Ready (context p s o) i t
  ready_in base t r k = reading.ready_same (context p s o) i base t (λ m l. k.same m (omega arith)) r

  -- THE BEGINNING of one that reaches a room at an address
  pub record Front (kept : List Term) (t : Words) : Type 0 where
    pub base : Words
    pub leads : LeadsAll (spaces_of p) s (indices (spaces_of p) i ++ kept) t base
    pub registers : base.registers ≡ o
    pub ready : Ready (context p s o) i base

  pub plain_front : (t : Words) → t.registers ≡ o → Front [] t
  plain_front t e =
      let b = reading.begins p s o i t given range e in
      record {
        base = b.words';
        leads = leads_all (spaces_of p) s (indices (spaces_of p) i) [] t b.words' b.words' b.leads refl;
        registers = b.registers;
        ready = b.ready;
      }

  pub record Reached (at : At) (w j : ℕ) (t : Words) : Type 0 where
    pub front : Front (keeps at) t
    pub word' : Holds (literal at.word) word_scratch w front.base
    pub index' : Holds (literal at.index) structure_scratch j front.base

  pub reached_front : (at : At) (w j : ℕ)
      → ((t : Words) → Ready (context p s o) i t → t.registers ≡ o → (value (spaces_of p) s t at.word ≡ word w) ×
      (value (spaces_of p) s t at.index ≡ word j))
      → (t : Words) → t.registers ≡ o → Reached at w j t
  reached_front at w j f t e =
      let b = reading.begins p s o i t given range e in
      let a = keep_one (spaces_of p) s word_scratch at.word w b.words' (f b.words' b.ready b.registers).0 in
      let r1 = reading.ready_same (context p s o) i b.words' a.words' (λ m l. a.others m (λ q. omega arith)) b.ready in
      let e1 = a.registers ∙ b.registers in
      let c = keep_one (spaces_of p) s structure_scratch at.index j a.words' (f a.words' r1 e1).1 in
      let r2 = reading.ready_same (context p s o) i a.words' c.words' (λ m l. c.others m (λ q. omega arith)) r1 in
      record {
        front = record {
          base = c.words';
          leads = leads_all (spaces_of p) s (indices (spaces_of p) i) (keeps at) t b.words' c.words' b.leads
              (a.words', a.leads, (c.words', c.leads, refl));
          registers = c.registers ∙ e1;
          ready = r2;
        };
        word' = holds_on (literal at.word) word_scratch w a.words' c.words' (c.others word_scratch (λ q. omega arith)) a.holds;
        index' = c.holds;
      }

  -- THE END: registers are written from words that no register changes.
  pub writes_lead : (F : ℕ → Term) (W : ℕ → ℕ) (cs : List ℕ) → Below cs → (v : Words) → Ready (context p s o) i v
      → ((t : Words) (c : ℕ) → ((m : ℕ) → t.scratch m ≡ v.scratch m) → value (spaces_of p) s t (F c) ≡ word (W c))
      → (w : Words) × LeadsAll (spaces_of p) s (guarding.writes (spaces_of p) i F cs) v w
      × (w.registers ≡ with_words (writes.target (context p s o) i.o0) cs (map W cs) v.registers)
  writes_lead F W [] h v r f = (v, refl, refl)
  writes_lead F W (c ∷ cs) h v r f =
      let u = words v.scratch (with_word (writes.target (context p s o) i.o0) c (W c) v.registers) in
      let x = reading.write p s o v 0 i.o0 c (W c) (F c) given range.o0 h.0 r.o0 (f v c (λ m. refl)) in
      let z = writes_lead F W cs h.1 u (reading.ready_same (context p s o) i v u (λ m l. refl) r) (λ t d e. f t d e) in
      (z.0, (u, x, z.1), z.2)
