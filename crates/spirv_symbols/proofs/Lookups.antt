-- Look-ups in lists of instructions, one part behind the other.
use Rattle.std.proofs.Common.{◌≡◌, ℕ, ◌⊎◌, ⊎_elim, inl, inr, Bool, true, false, List, [], ◌∷◌, ◌++◌, map, Some, None, refl, sym, ap, ◌∙◌, subst, arith}
use Rattle.std.specs.Prelude.{◌≢◌, ◌||◌, nat_eq, cond, find, Option}
use Rattle.std.proofs.lemmas.Bool.Decides.{eqb_tells}
use Rattle.spirv_words.specs.Text.{Instr}
use Rattle.spirv_words.specs.Ids.{Ids, ids_of, contains, definition, in_front_of}
use Rattle.spirv_symbols.specs.declared.symbol.Symbol.{Symbol}
use Rattle.spirv_symbols.specs.declared.symbol.Symbol.TheVariants.{AType, Constant, Memory}
use Rattle.spirv_symbols.specs.declared.symbol.TypeSymbol.{TypeSymbol}
use Rattle.spirv_symbols.specs.declared.symbol.TypeSymbol.TheVariants.{Void}
use Rattle.word_base.specs.declared.event.Room.TheVariants.{Shared}
use Rattle.spirv_symbols.specs.declared.symbol.Section.{Section}
use Rattle.spirv_symbols.specs.declared.numbered.Numbered.{Numbered}
use Rattle.spirv_symbols.specs.Contexts.{Context}
use Rattle.spirv_symbols.specs.Rows.{type_row, section_of, instr_for}
use Rattle.spirv_symbols.specs.Tables.{Entry, entry, Has, IsTable, id_of, instr_of}
use Rattle.spirv_symbols.specs.Sections.{order, in_section, part_of, code_of, section_code}
use Rattle.spirv_symbols.specs.Orders.{Among, Sorts, numbered, constant_in, constants_of, entry_for}
use Rattle.spirv_symbols.proofs.Members.{among_right, among_filter, among_get, get_among, among_kept}
use Rattle.spirv_symbols.proofs.EachSymbol.{ids_here}
use Rattle.spirv_symbols.proofs.Ids.{place_of}
use Rattle.spirv_symbols.proofs.Gathers.{gathered_there}

-- FINDING
stop_by : {X : Type 0} (b : Bool) (z x : X) (f g : Option X) → (f ≡ Some x → g ≡ Some x) → cond b (Some z) f ≡ Some x → cond b (Some z) g ≡ Some x
stop_by true z x f g h e = e
stop_by false z x f g h e = h e

pub find_stop : {X : Type 0} (test : X → Bool) (xs ys : List X) (x : X) → find test xs ≡ Some x → find test (xs ++ ys) ≡ Some x
find_stop test [] ys x h = absurd (cc h)
find_stop test (z ∷ zs) ys x h = stop_by (test z) z x (find test zs) (find test (zs ++ ys)) (find_stop test zs ys x) h

skip_by : {X : Type 0} (b : Bool) (z : X) (f g : Option X) (o : Option X) → (f ≡ None → g ≡ o) → cond b (Some z) f ≡ None → cond b (Some z) g ≡ o
skip_by true z f g o h e = absurd (cc e)
skip_by false z f g o h e = h e

pub find_skip : {X : Type 0} (test : X → Bool) (xs ys : List X) → find test xs ≡ None → find test (xs ++ ys) ≡ find test ys
find_skip test [] ys h = refl
find_skip test (z ∷ zs) ys h = skip_by (test z) z (find test zs) (find test (zs ++ ys)) (find test ys) (find_skip test zs ys) h

pub find_none : {X : Type 0} (test : X → Bool) (xs : List X) → ((x : X) → Among xs x → test x ≡ false) → find test xs ≡ None
find_none test [] h = refl
find_none test (z ∷ zs) h = ap (λ b. cond b (Some z) (find test zs)) (h z (inl refl)) ∙ find_none test zs (λ x i. h x (inr i))

pub find_append : {X : Type 0} (test : X → Bool) (xs ys : List X) → find test xs ≡ None → find test ys ≡ None → find test (xs ++ ys) ≡ None
find_append test xs ys h i = find_skip test xs ys h ∙ i

pub not_among : {X : Type 0} (test : X → Bool) (xs : List X) (x : X) → find test xs ≡ None → Among xs x → test x ≡ false
not_among test [] x h a = absurd a
not_among test (z ∷ zs) x h a = by (test z) refl h a (not_among test zs x) where
  by : (b : Bool) → test z ≡ b → cond b (Some z) (find test zs) ≡ None → Among (z ∷ zs) x → (find test zs ≡ None → Among zs x → test x ≡ false)
      → test x ≡ false
  by true e h a f = absurd (cc h)
  by false e h (inl q) f = sym (ap test q) ∙ e
  by false e h (inr i) f = f h i

-- in front of the first that passes a test
front_by : {X : Type 0} (b : Bool) (z : X) (f g h : List X) → b ≡ false → f ≡ g → cond b [] (z ∷ f) ≡ z ∷ g
front_by true z f g h e d = absurd (cc e)
front_by false z f g h e d = ap (λ l. z ∷ l) d

pub front_of : (test : Instr → Bool) (xs ys : List Instr) (y : Instr) → find test xs ≡ None → test y ≡ true → in_front_of test (xs ++ y ∷ ys) ≡ xs
front_of test [] ys y h e = ap (λ b. cond b [] (y ∷ in_front_of test ys)) e
front_of test (x ∷ xs) ys y h e = by (test x) refl h (front_of test xs ys y) where
  by : (b : Bool) → test x ≡ b → cond b (Some x) (find test xs) ≡ None → (find test xs ≡ None → test y ≡ true → in_front_of test (xs ++ y ∷ ys) ≡ xs)
      → cond (test x) [] (x ∷ in_front_of test (xs ++ y ∷ ys)) ≡ x ∷ xs
  by true d h f = absurd (cc h)
  by false d h f = ap (λ c. cond c [] (x ∷ in_front_of test (xs ++ y ∷ ys))) d ∙ ap (λ l. x ∷ l) (f h e)

-- DEFINITIONS of entries
pub equal_tells : (x y : ℕ) → x ≡ y → nat_eq x y ≡ true
equal_tells x y e = ⊎_elim (λ d. d.0) (λ d. absurd (d.1 e)) (eqb_tells x y)

differ_tells : (x y : ℕ) → x ≢ y → nat_eq x y ≡ false
differ_tells x y e = ⊎_elim (λ d. absurd (e d.1)) (λ d. d.0) (eqb_tells x y)

one_in : (y x : ℕ) → contains (y ∷ []) x ≡ nat_eq y x
one_in y x = or_false (nat_eq y x) where
  or_false : (b : Bool) → (b || false) ≡ b
  or_false true = refl
  or_false false = refl

pub defines_id : (c : Context) (ids : Symbol → ℕ) (e : Entry) (x : ℕ) → contains (ids_of (instr_for c ids e.symbol e.id)).results x ≡ nat_eq e.id x
defines_id c ids e x = ap (λ (i : Ids). contains i.results x) (ids_here c ids e.symbol e.id) ∙ one_in e.id x

module _ (c : Context) (entries : List Entry) where
  -- a list of entries without an id, and one with it
  pub no_definition : (es : List Entry) (x : ℕ) → ((e : Entry) → Among es e → e.id ≢ x) → definition (code_of c entries es) x ≡ None
  no_definition [] x h = refl
  no_definition (e ∷ es) x h =
      ap (λ b. cond b (Some (instr_of c entries e)) (definition (code_of c entries es) x)) (defines_id c (id_of entries) e x ∙ differ_tells e.id x
      (h e (inl refl)))
      ∙ no_definition es x (λ f i. h f (inr i))

  pub a_definition : (es : List Entry) (e : Entry) → ((f : Entry) → Among es f → f.id ≡ e.id → f ≡ e) → Among es e
      → definition (code_of c entries es) e.id ≡ Some (instr_of c entries e)
  a_definition [] e l h = absurd h
  a_definition (f ∷ fs) e l h = by (nat_eq f.id e.id) refl (eqb_tells f.id e.id) h (a_definition fs e (λ g i. l g (inr i))) where
    by : (b : Bool) → nat_eq f.id e.id ≡ b → ((nat_eq f.id e.id ≡ true) × (f.id ≡ e.id)) ⊎ ((nat_eq f.id e.id ≡ false) × (f.id ≢ e.id))
        → Among (f ∷ fs) e
        → (Among fs e → definition (code_of c entries fs) e.id ≡ Some (instr_of c entries e)) → definition (code_of c entries (f ∷ fs)) e.id ≡ Some
        (instr_of c entries e)
    by b d (inl q) h k =
        ap (λ t. cond t (Some (instr_of c entries f)) (definition (code_of c entries fs) e.id)) (defines_id c (id_of entries) f e.id ∙ q.0)
        ∙ ap (λ (g : Entry). Some (instr_of c entries g)) (l f (inl refl) q.1)
    by b d (inr q) (inl i) k = absurd (q.1 (ap (λ (g : Entry). g.id) i))
    by b d (inr q) (inr i) k =
        ap (λ t. cond t (Some (instr_of c entries f)) (definition (code_of c entries fs) e.id)) (defines_id c (id_of entries) f e.id ∙ q.0) ∙ k i

-- THE SECTIONS of a table
module _ (c : Context) (entries : List Entry) (next : ℕ) (t : IsTable c entries next) where
  -- an id has one entry
  pub alike : (e f : Entry) → Among entries e → Among entries f → f.id ≡ e.id → f ≡ e
  alike e f h i d =
      let x = among_get entries e h in
      let y = among_get entries f i in
      let p = place_of c entries next y.0 x.0 f e t y.1 x.1 d in
      cc (x.1, y.1, p)

  pub here : (section : Section) (e : Entry) → Among entries e → order (section_of c e.symbol) ≡ order section
      → definition (section_code c section entries) e.id ≡ Some (instr_of c entries e)
  here section e h d =
      a_definition c entries (part_of c section entries) e
      (λ f i q. alike e f h (among_filter (in_section c section) entries f i).0 q)
      (among_kept (in_section c section) entries e h (equal_tells (order (section_of c e.symbol)) (order section) d))

  pub elsewhere : (section : Section) (e : Entry) → Among entries e → order (section_of c e.symbol) ≢ order section
      → definition (section_code c section entries) e.id ≡ None
  elsewhere section e h d =
      no_definition c entries (part_of c section entries) e.id
      (λ f i q.
      let r = among_filter (in_section c section) entries f i in
      let z = alike e f h r.0 q in
      let o = ⊎_elim (λ y. y.1) (λ y. absurd (cc (r.1, y.0))) (eqb_tells (order (section_of c f.symbol)) (order section)) in
      d (sym (ap (λ (g : Entry). order (section_of c g.symbol)) z) ∙ o))

-- CONSTANTS, in whatever order
constant_symbol_type : (t : TypeSymbol) → order (type_row t).section ≡ 2 → ⊥
constant_symbol_type Void d = omega (arith, d)
constant_symbol_type t d = omega (arith, d)

pub constant_symbol : (c : Context) (s : Symbol) → order (section_of c s) ≡ 2 → (w : ℕ) × (s ≡ Constant w)
constant_symbol c (Constant w) d = (w, refl)
constant_symbol c (AType t) d = absurd (constant_symbol_type t d)
constant_symbol c (Memory (Shared slot)) d = absurd (omega (arith, d))
constant_symbol c (Memory room) d = absurd (omega (arith, d))
constant_symbol c s d = absurd (omega (arith, d))

among_map : (cs : List Numbered) (f : Entry) → Among (map entry_for cs) f → (p : Numbered) × Among cs p × (entry_for p ≡ f)
among_map [] f h = absurd h
among_map (p ∷ ps) f (inl e) = (p, inl refl, e)
among_map (p ∷ ps) f (inr h) = let r = among_map ps f h in (r.0, inr r.1, r.2)

map_among : (cs : List Numbered) (p : Numbered) → Among cs p → Among (map entry_for cs) (entry_for p)
map_among [] p h = absurd h
map_among (q ∷ qs) p (inl e) = inl (ap entry_for e)
map_among (q ∷ qs) p (inr h) = inr (map_among qs p h)

gathered_here : (entries : List Entry) (w id : ℕ) → Among entries (entry (Constant w) id) → Among (constants_of entries) (numbered w id)
gathered_here [] w id h = absurd h
gathered_here (e ∷ es) w id (inl d) = subst (λ (f : Entry). Among (constant_in f.symbol f.id ++ constants_of es) (numbered w id)) (sym d) (inl refl)
gathered_here (e ∷ es) w id (inr h) = among_right (constant_in e.symbol e.id) (constants_of es) (numbered w id) (gathered_here es w id h)

module _ (c : Context) (entries : List Entry) (next : ℕ) (t : IsTable c entries next) (cs : List Numbered) (so : Sorts entries cs) where
  -- each of them is an entry
  pub constant_there : (f : Entry) → Among (map entry_for cs) f → Among entries f × (order (section_of c f.symbol) ≡ 2)
  constant_there f h =
      let r = among_map cs f h in
      let p = gathered_there entries r.0 (so.same.back r.0 r.1) in
      (subst (λ g. Among entries g) r.2 (get_among entries p.0 (entry_for r.0) p.1), sym (ap (λ (g : Entry). order (section_of c g.symbol)) r.2))

  pub constant_here : (e : Entry) → Among entries e → order (section_of c e.symbol) ≡ 2
      → definition (code_of c entries (map entry_for cs)) e.id ≡ Some (instr_of c entries e)
  constant_here e h d =
      let w = constant_symbol c e.symbol d in
      let i : e ≡ entry (Constant w.0) e.id = ap (λ s. entry s e.id) w.1 in
      let a = gathered_here entries w.0 e.id (subst (λ f. Among entries f) i h) in
      a_definition c entries (map entry_for cs) e (λ f k q. alike c entries next t e f h (constant_there f k).0 q)
      (subst (λ f. Among (map entry_for cs) f) (sym i) (map_among cs (numbered w.0 e.id) (so.same.there (numbered w.0 e.id) a)))

  pub constant_elsewhere : (e : Entry) → Among entries e → order (section_of c e.symbol) ≢ 2
      → definition (code_of c entries (map entry_for cs)) e.id ≡ None
  constant_elsewhere e h d =
      no_definition c entries (map entry_for cs) e.id
      (λ f i q.
      let r = constant_there f i in
      d (sym (ap (λ (g : Entry). order (section_of c g.symbol)) (alike c entries next t e f h r.0 q)) ∙ r.1))

  -- and each constant of the table is one of them
  pub constant_among : (s : Symbol) (x : ℕ) → (h : Has entries s x) → order (section_of c s) ≡ 2 → Among (map entry_for cs) (entry s x)
  constant_among s x h d =
      let w = constant_symbol c s d in
      let i : entry s x ≡ entry (Constant w.0) x = ap (λ s. entry s x) w.1 in
      let a = gathered_here entries w.0 x (subst (λ f. Among entries f) i (get_among entries h.0 (entry s x) h.1)) in
      subst (λ f. Among (map entry_for cs) f) (sym i) (map_among cs (numbered w.0 x) (so.same.there (numbered w.0 x) a))
