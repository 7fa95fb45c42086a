-- The steps of a lane through the variables of the function.
use Rattle.std.proofs.Common.{◌≡◌, ℕ, suc, ◌+◌, ◌<◌, ⊎_elim, inl, inr, Bool, true, false, List, [], ◌∷◌, ◌++◌, length, map, Some, refl, sym, ap, ◌∙◌, subst, arith}
use Rattle.std.specs.Prelude.{◌≢◌, slice_get, ◌&&◌, is_some, replicate, Option, Ok}
use Rattle.std.specs.List.{list_all}
use Rattle.std.proofs.lemmas.Bool.Decides.{eqb_tells}
use Rattle.word_base.specs.Lanes.{Silent, Goes}
use Rattle.word_base.specs.declared.event.Room.TheVariants.{Shared}
use Rattle.spirv_words.specs.StorageClass as storage
use Rattle.spirv_words.specs.Operations.{op_of}
use Rattle.spirv_words.specs.Text.{Instr, instr}
use Rattle.spirv_words.specs.Ids.{Ids, definition}
use Rattle.spirv_words.specs.Operands.{is_sorted, is_defined}
use Rattle.spirv_words.specs.Values.{AtLocal, cells_of}
use Rattle.spirv_words.specs.Globals.{Machine, global}
use Rattle.spirv_words.specs.Lane.{State, step, act_at, act_sorted, act_of_op, with_at}
use Rattle.spirv_symbols.specs.declared.symbol.Section.{Section}
use Rattle.spirv_symbols.specs.declared.symbol.Section.TheVariants.{Locals}
use Rattle.spirv_symbols.specs.declared.symbol.Symbol.{Symbol}
use Rattle.spirv_symbols.specs.declared.symbol.Symbol.TheVariants.{AType, Constant, Null, Immediates, Memory, Scratch, Register, Registers, Elements, ImmediateArray}
use Rattle.spirv_symbols.specs.declared.symbol.TypeSymbol.{TypeSymbol}
use Rattle.spirv_symbols.specs.declared.symbol.TypeSymbol.TheVariants.{Void, WordPointer, LocalPointer}
use Rattle.spirv_symbols.specs.Contexts.{Context, size_of}
use Rattle.spirv_symbols.specs.Rows.{type_row, needs, section_of, instr_for}
use Rattle.spirv_symbols.specs.Tables.{Entry, entry, Has, AreThere, IsTable, id_of, instr_of}
use Rattle.spirv_symbols.specs.Sections.{order, in_section, part_of, code_of, section_code}
use Rattle.spirv_symbols.specs.Orders.{Among, Each, Ordered}
use Rattle.spirv_symbols.specs.Sorted.{is_front}
use Rattle.spirv_symbols.specs.Starts.{initial, HasAt}
use Rattle.spirv_symbols.proofs.Members.{among_filter, among_get, each_of, each_at, ordered_kept}
use Rattle.spirv_symbols.proofs.Ids.{found_id, one_symbol}
use Rattle.spirv_symbols.proofs.EachSymbol.{ids_here}
use Rattle.spirv_symbols.proofs.SymbolSorts.{is_right, second_need}
use Rattle.spirv_symbols.proofs.StartValues.{Declares, by_front, null_cells, immediate_cells}

-- ONE STEP
step_by : (m : Machine) (s : State) (i : Instr) → slice_get m.code s.place ≡ Some i → is_sorted m.code i ≡ true → is_defined m.code i ≡ true
    → step m s ≡ act_of_op m s (op_of i.op) i.operands
step_by m s i h so de =
    ap (act_at m s) h ∙ (ap (λ b. act_sorted m s i b (is_defined m.code i)) so ∙ ap (λ b. act_sorted m s i true b) de)

-- the state behind a variable that begins with words
abbrev begun : State → ℕ → List ℕ → State
begun s r ws = record { place = s.place + 1; values = with_at s.values r (Some (AtLocal r 0)); memory = with_at s.memory r (slice_get ws) }

variable_step : (m : Machine) (s : State) (t r x : ℕ) (ws : List ℕ) → slice_get m.code s.place ≡ Some (instr 59 (t ∷ r ∷ 7 ∷ x ∷ []))
    → is_sorted m.code (instr 59 (t ∷ r ∷ 7 ∷ x ∷ [])) ≡ true → is_defined m.code (instr 59 (t ∷ r ∷ 7 ∷ x ∷ [])) ≡ true
    → cells_of (s.values x) ≡ Ok ws
    → step m s ≡ Silent (begun s r ws)
variable_step m s t r x ws h so de e = step_by m s (instr 59 (t ∷ r ∷ 7 ∷ x ∷ [])) h so de ∙ rw (e) refl

at_same : {X : Type 0} (f : ℕ → X) (k : ℕ) (v : X) → with_at f k v k ≡ v
at_same f k v = grind arith

at_other : {X : Type 0} (f : ℕ → X) (k i : ℕ) (v : X) → i ≢ k → with_at f k v i ≡ f i
at_other f k i v h = grind (arith, h)

-- a symbol of the function's variables
local_type : (t : TypeSymbol) → order (type_row t).section ≡ 6 → ⊥
local_type Void d = omega (arith, d)
local_type t d = omega (arith, d)

module _ (c : Context) (entries : List Entry) (next : ℕ) (tb : IsTable c entries next) (m : Machine) (d : Declares c entries m.code) where
  record LocalOf (s : Symbol) (x : ℕ) : Type 0 where
    pub pointer : TypeSymbol
    pub first : Symbol
    pub words : List ℕ
    pub instr' : instr_for c (id_of entries) s x ≡ instr 59 (id_of entries (AType pointer) ∷ x ∷ 7 ∷ id_of entries first ∷ [])
    pub needs' : needs c s ≡ AType pointer ∷ first ∷ []
    pub front' : is_front (section_of c first) ≡ true
    pub initial' : initial c s ≡ Some words
    pub cells' : cells_of (global m (id_of entries first)) ≡ Ok words

  zero_cells : Has entries (Constant 0) (id_of entries (Constant 0)) → cells_of (global m (id_of entries (Constant 0))) ≡ Ok (0 ∷ [])
  zero_cells h = ap cells_of (by_front c entries next tb m d (Constant 0) (id_of entries (Constant 0)) h refl)

  local_word : (s : Symbol) (x : ℕ) → Has entries s x → needs c s ≡ AType (WordPointer storage.Function) ∷ Constant 0 ∷ []
      → instr_for c (id_of entries) s x ≡ instr 59 (id_of entries (AType (WordPointer storage.Function)) ∷ x ∷ 7 ∷ id_of entries (Constant 0) ∷ [])
      → initial c s ≡ Some (0 ∷ []) → LocalOf s x
  local_word s x h n i w = record {
    pointer = WordPointer storage.Function;
    first = Constant 0;
    words = 0 ∷ [];
    instr' = i;
    needs' = n;
    front' = refl;
    initial' = w;
    cells' = zero_cells (second_need c entries next tb m.code d.defines s (AType (WordPointer storage.Function)) (Constant 0) [] x h n);
  }

  local_array : (s : Symbol) (x n : ℕ) → Has entries s x → needs c s ≡ AType (LocalPointer n) ∷ Null n ∷ []
      → instr_for c (id_of entries) s x ≡ instr 59 (id_of entries (AType (LocalPointer n)) ∷ x ∷ 7 ∷ id_of entries (Null n) ∷ [])
      → initial c s ≡ Some (replicate n 0) → LocalOf s x
  local_array s x n h e i w = record {
    pointer = LocalPointer n;
    first = Null n;
    words = replicate n 0;
    instr' = i;
    needs' = e;
    front' = refl;
    initial' = w;
    cells' = null_cells c entries next tb m d n (second_need c entries next tb m.code d.defines s (AType (LocalPointer n)) (Null n) [] x h e);
  }

  local_of : (s : Symbol) (x : ℕ) → Has entries s x → order (section_of c s) ≡ 6 → LocalOf s x
  local_of (Scratch n) x h o = local_word (Scratch n) x h refl refl refl
  local_of (Register k) x h o = local_word (Register k) x h refl refl refl
  local_of Registers x h o = local_array Registers x c.registers h refl refl refl
  local_of (Elements slot) x h o = local_array (Elements slot) x (size_of c (Elements slot)) h refl refl refl
  local_of ImmediateArray x h o = record {
    pointer = LocalPointer (length c.immediates);
    first = Immediates;
    words = c.immediates;
    instr' = refl;
    needs' = refl;
    front' = refl;
    initial' = refl;
    cells' = immediate_cells c entries next tb m d (second_need c entries next tb m.code d.defines ImmediateArray
        (AType (LocalPointer (length c.immediates))) Immediates [] x h refl);
  }
  local_of (AType t) x h o = absurd (local_type t o)
  local_of (Memory (Shared slot)) x h o = absurd (omega (arith, o))
  local_of (Memory room) x h o = absurd (omega (arith, o))
  local_of s x h o = absurd (omega (arith, o))

  -- all that an entry's instruction uses is defined
  some_of : (o : Option Instr) (i : Instr) → o ≡ Some i → is_some o ≡ true
  some_of o i e = ap is_some e

  both : (a b : Bool) → a ≡ true → b ≡ true → (a && b) ≡ true
  both true b e f = f
  both false b e f = absurd (cc e)

  all_defined : (ss : List Symbol) (n : ℕ) → AreThere entries ss n → list_all (λ x. is_some (definition m.code x)) (map (id_of entries) ss) ≡ true
  all_defined [] n h = refl
  all_defined (s ∷ ss) n h =
      let i = subst (λ x. Has entries s x) (sym (found_id c entries next s h.0.0 tb h.0.1)) h.0.1 in
      both (is_some (definition m.code (id_of entries s))) _ (some_of _ _ (d.defines.whole s (id_of entries s) i)) (all_defined ss n h.1)

  pub defined_here : (s : Symbol) (x : ℕ) → Has entries s x → is_defined m.code (instr_for c (id_of entries) s x) ≡ true
  defined_here s x h =
      ap (λ (i : Ids). list_all (λ x. is_some (definition m.code x)) i.uses) (ids_here c (id_of entries) s x) ∙ all_defined (needs c s) x
      (tb.founded h.0 (entry s x) h.1)

  below_next : (ss : List Symbol) (n : ℕ) → n < next → AreThere entries ss n → AreThere entries ss next
  below_next [] n lt h = tt
  below_next (s ∷ ss) n lt h = ((h.0.0, h.0.1, omega (arith, lt, h.0.2)), below_next ss n lt h.1)

  pub sorted_here : (s : Symbol) (x : ℕ) → Has entries s x → is_sorted m.code (instr_for c (id_of entries) s x) ≡ true
  sorted_here s x h =
      is_right c entries next tb m.code d.defines s x (below_next (needs c s) x (tb.below h.0 (entry s x) h.1) (tb.founded h.0 (entry s x) h.1))

  -- the ids of what stands in front have their values
  abbrev Knows : State → Type 0
  Knows s = (u : Symbol) (y : ℕ) → Has entries u y → is_front (section_of c u) ≡ true → s.values y ≡ global m y

  record One (e : Entry) (s : State) : Type 0 where
    pub words : List ℕ
    pub initial' : initial c e.symbol ≡ Some words
    pub goes : step m s ≡ Silent (begun s e.id words)

  one_step : (e : Entry) (s : State) → Among entries e → order (section_of c e.symbol) ≡ 6 → slice_get m.code s.place ≡ Some (instr_of c entries e)
      → Knows s → One e s
  one_step e s a o h k =
      let g = among_get entries e a in
      let there : Has entries e.symbol e.id = (g.0, g.1) in
      let l = local_of e.symbol e.id there o in
      let i = second_need c entries next tb m.code d.defines e.symbol (AType l.pointer) l.first [] e.id there l.needs' in
      record {
        words = l.words;
        initial' = l.initial';
        goes = variable_step m s (id_of entries (AType l.pointer)) e.id (id_of entries l.first) l.words (h ∙ ap (λ j. Some j) l.instr')
            (sym (ap (is_sorted m.code) l.instr') ∙ sorted_here e.symbol e.id there)
            (sym (ap (is_defined m.code) l.instr') ∙ defined_here e.symbol e.id there)
            (ap cells_of (k l.first (id_of entries l.first) i l.front') ∙ l.cells');
      }

  -- ALL VARIABLES
  pub record Ran (es : List Entry) (s : State) (rest : List Instr) : Type 0 where
    pub steps : ℕ
    pub to : State
    pub goes : Goes (step m) steps s to
    pub here : HasAt m.code to.place rest
    pub kept : (y : ℕ) → ((e : Entry) → Among es e → e.id ≢ y) → (to.values y ≡ s.values y) × (to.memory y ≡ s.memory y)
    pub made : (e : Entry) → Among es e → (to.values e.id ≡ Some (AtLocal e.id 0)) × ((ws : List ℕ) → initial c e.symbol ≡ Some ws
        → to.memory e.id ≡ slice_get ws)

  knows_on : (e : Entry) (s : State) (ws : List ℕ) → Among entries e → order (section_of c e.symbol) ≡ 6 → Knows s → Knows (begun s e.id ws)
  knows_on e s ws a o k u y h f =
      at_other s.values e.id y (Some (AtLocal e.id 0)) (λ q.
      let g = among_get entries e a in
      let same = one_symbol c entries next e.symbol u e.id tb (g.0, g.1) (subst (λ x. Has entries u x) q h) in
      not_front (section_of c u) (ap (λ z. order (section_of c z)) (sym same) ∙ o) f)
      ∙ k u y h f where
        not_front : (section : Section) → order section ≡ 6 → is_front section ≡ true → ⊥
        not_front Locals o f = absurd (cc f)
        not_front section o f = absurd (omega (arith, o))

  joined : (e : Entry) (es : List Entry) (s : State) (rest : List Instr) → (o : One e s) → Each (λ f. e.id ≢ f.id) es → Ran es (begun s e.id o.words)
      rest → Ran (e ∷ es) s rest
  joined e es s rest o apart r = record {
    steps = suc r.steps;
    to = r.to;
    goes = (begun s e.id o.words, o.goes, r.goes);
    here = r.here;
    kept = λ y h.
        let k = r.kept y (λ f i. h f (inr i)) in
        let n : y ≢ e.id = λ q. h e (inl refl) (sym q) in
        (k.0 ∙ at_other s.values e.id y (Some (AtLocal e.id 0)) n, k.1 ∙ at_other s.memory e.id y (slice_get o.words) n);
    made = λ f h. made f h;
  } where
    mine : (r.to.values e.id ≡ Some (AtLocal e.id 0)) × (r.to.memory e.id ≡ slice_get o.words)
    mine =
        let k = r.kept e.id (λ f i q. each_at (λ f. e.id ≢ f.id) es f apart i (sym q)) in
        (k.0 ∙ at_same s.values e.id (Some (AtLocal e.id 0)), k.1 ∙ at_same s.memory e.id (slice_get o.words))

    made : (f : Entry) → Among (e ∷ es) f → (r.to.values f.id ≡ Some (AtLocal f.id 0)) × ((ws : List ℕ) → initial c f.symbol ≡ Some ws
        → r.to.memory f.id ≡ slice_get ws)
    made f (inl q) =
        subst (λ (g : Entry). (r.to.values g.id ≡ Some (AtLocal g.id 0)) × ((ws : List ℕ) → initial c g.symbol ≡ Some ws
        → r.to.memory g.id ≡ slice_get ws)) q
        (mine.0, λ ws i. let z : o.words ≡ ws = cc (o.initial', i) in mine.1 ∙ ap (λ l. slice_get l) z)
    made f (inr i) = r.made f i

  pub all_run : (es : List Entry) (s : State) (rest : List Instr) → ((e : Entry) → Among es e → Among entries e × (order (section_of c e.symbol) ≡ 6))
      → Ordered (λ e f. e.id ≢ f.id) es → HasAt m.code s.place (code_of c entries es ++ rest) → Knows s → Ran es s rest
  all_run [] s rest a apart h k = record { steps = 0; to = s; goes = refl; here = h; kept = λ y n. (refl, refl); made = λ e i. absurd i }
  all_run (e ∷ es) s rest a apart h k =
      let p = a e (inl refl) in
      let o = one_step e s p.0 p.1 h.0 k in
      joined e es s rest o apart.0 (all_run es (begun s e.id o.words) rest (λ f i. a f (inr i)) apart.1 h.1 (knows_on e s o.words p.0 p.1 k))

  -- the entries of a table have different ids
  ordered : (es : List Entry) → ((j k : ℕ) (e f : Entry) → j < k → slice_get es j ≡ Some e → slice_get es k ≡ Some f → e.id < f.id)
      → Ordered (λ e f. e.id ≢ f.id) es
  ordered [] r = tt
  ordered (e ∷ es) r = (
    each_of (λ f. e.id ≢ f.id) es (λ f h q. let g = among_get es f h in absurd (omega (arith, q, r 0 (suc g.0) e f (omega arith) refl g.1))),
    ordered es (λ j k f g lt x y. r (suc j) (suc k) f g (omega (arith, lt)) x y),
  )

  pub locals_run : (s : State) (rest : List Instr) → HasAt m.code s.place (section_code c Locals entries ++ rest) → Knows s
      → Ran (part_of c Locals entries) s rest
  locals_run s rest h k =
      all_run (part_of c Locals entries) s rest
      (λ e i.
      let r = among_filter (in_section c Locals) entries e i in
      (r.0, ⊎_elim (λ y. y.1) (λ y. absurd (cc (r.1, y.0))) (eqb_tells (order (section_of c e.symbol)) 6)))
      (ordered_kept (λ e f. e.id ≢ f.id) (λ e f. e.id ≢ f.id) (in_section c Locals) (λ e f _ _ n. n) entries (ordered entries tb.rises)) h k
