-- What stands in front of a function's code in a module that declares the symbols of a table: the declarations, the function, its first
-- label and its variables (SPIR-V specification, unified1, section 2.4, Logical Layout of a Module).
use Rattle.std.proofs.Common.{◌≡◌, ℕ, zero, suc, ◌+◌, ◌<◌, inl, inr, ⊎_elim, List, [], ◌∷◌, ◌++◌, map, filter, Some, Bool, true, false, refl, sym, ap, ◌∙◌, subst, arith, append_assoc, append-nil}
use Rattle.std.specs.Prelude.{◌&&◌, cond, slice_get}
use Rattle.std.proofs.lemmas.Bool.{eqb-true, eq-eqb}
use Rattle.word_base.specs.declared.event.Room.TheVariants.{Shared}
use Rattle.shader_tree.specs.Walks.{Each}
use Rattle.spirv_words.specs.Roles.{Flow, Plain, Local, Begins, Label}
use Rattle.spirv_words.specs.Blocks.{flow_of, next_block, edges_of_flow, edges_from, spans_of_flow, spans_from}
use Rattle.spirv_words.specs.Structure.{walk, walk_on, InFront, AtFunction, AtVariables, follow, may_follow, merge_before, NoMerge}
use Rattle.spirv_words.specs.Ids.{ids_of}
use Rattle.spirv_words.specs.Definitions.{Home, at_block, local_results, homes, used_at}
use Rattle.spirv_words.specs.Text.{Instr}
use Rattle.spirv_symbols.specs.declared.symbol.Access.TheVariants as access
use Rattle.spirv_symbols.specs.declared.symbol.Section.{Section}
use Rattle.spirv_symbols.specs.declared.symbol.Section.TheVariants.{Imports, Types, Declarations, Heads, Labels, Locals}
use Rattle.spirv_symbols.specs.declared.symbol.Symbol.{Symbol}
use Rattle.spirv_symbols.specs.declared.symbol.Symbol.TheVariants.{AType, Main, FirstLabel, Memory, Scratch, Register, Registers, Elements, ImmediateArray}
use Rattle.spirv_symbols.specs.declared.symbol.TypeSymbol.{TypeSymbol}
use Rattle.spirv_symbols.specs.declared.symbol.TypeSymbol.TheVariants.{Void}
use Rattle.spirv_symbols.specs.declared.row.Marks.{Marks}
use Rattle.spirv_symbols.specs.declared.row.Marks.TheVariants.{Nothing, Stride, Block, Bound, BuiltIn}
use Rattle.spirv_symbols.specs.declared.numbered.Numbered.{Numbered}
use Rattle.spirv_symbols.specs.declared.entry.Entry.{Entry}
use Rattle.spirv_symbols.specs.Contexts.{Context}
use Rattle.spirv_symbols.specs.Rows.{type_row, row_of, section_of, instr_for, decorations_by, decorations_for}
use Rattle.spirv_symbols.specs.Tables.{Table, entry, Has, id_of, instr_of}
use Rattle.spirv_symbols.specs.Sections.{order, in_section, part_of, code_of, section_code, decorations_of}
use Rattle.spirv_symbols.specs.Orders.{entry_for}
use Rattle.spirv_symbols.specs.Modules.{Kind, IsReady, models, declarations, front}
use Rattle.spirv_flow.specs.Fronts.{Numbered as AreNumbered, IsFront}
use Rattle.spirv_flow.proofs.FormEach.{each_append, each_mapped}
use Rattle.spirv_emit.specs.Code.{In}
use Rattle.spirv_flow.proofs.FormKnown.{in_either}

-- FLOWS of the instructions that declare symbols
type_plain : (c : Context) (ids : Symbol → ℕ) (t : TypeSymbol) (own : ℕ) → flow_of (instr_for c ids (AType t) own) ≡ Plain
type_plain c ids Void own = refl
type_plain c ids t own = refl

declared_plain : (c : Context) (ids : Symbol → ℕ) (s : Symbol) (own : ℕ) → order (section_of c s) < 4 → flow_of (instr_for c ids s own) ≡ Plain
declared_plain c ids (AType t) own lt = type_plain c ids t own
declared_plain c ids (Memory (Shared slot)) own lt = refl
declared_plain c ids (Memory room) own lt = refl
declared_plain c ids Main own lt = absurd (omega (arith, lt))
declared_plain c ids FirstLabel own lt = absurd (omega (arith, lt))
declared_plain c ids (Scratch n) own lt = absurd (omega (arith, lt))
declared_plain c ids (Register n) own lt = absurd (omega (arith, lt))
declared_plain c ids Registers own lt = absurd (omega (arith, lt))
declared_plain c ids (Elements slot) own lt = absurd (omega (arith, lt))
declared_plain c ids ImmediateArray own lt = absurd (omega (arith, lt))
declared_plain c ids s own lt = refl

type_early : (t : TypeSymbol) → order (type_row t).section < 4
type_early Void = omega arith
type_early t = omega arith

no_type : (t : TypeSymbol) (n : ℕ) → order (type_row t).section ≡ n + 4 → ⊥
no_type t n e = let lt = type_early t in omega (arith, lt, e)

is_head : (c : Context) (s : Symbol) → order (section_of c s) ≡ 4 → s ≡ Main
is_head c Main e = refl
is_head c (AType t) e = absurd (no_type t 0 e)
is_head c (Memory (Shared slot)) e = absurd (omega (arith, e))
is_head c (Memory room) e = absurd (omega (arith, e))
is_head c s e = absurd (omega (arith, e))

is_first : (c : Context) (s : Symbol) → order (section_of c s) ≡ 5 → s ≡ FirstLabel
is_first c FirstLabel e = refl
is_first c (AType t) e = absurd (no_type t 1 e)
is_first c (Memory (Shared slot)) e = absurd (omega (arith, e))
is_first c (Memory room) e = absurd (omega (arith, e))
is_first c s e = absurd (omega (arith, e))

local_flow : (c : Context) (ids : Symbol → ℕ) (s : Symbol) (own : ℕ) → order (section_of c s) ≡ 6 → flow_of (instr_for c ids s own) ≡ Local
local_flow c ids (Scratch n) own e = refl
local_flow c ids (Register n) own e = refl
local_flow c ids Registers own e = refl
local_flow c ids (Elements slot) own e = refl
local_flow c ids ImmediateArray own e = refl
local_flow c ids (AType t) own e = absurd (no_type t 2 e)
local_flow c ids (Memory (Shared slot)) own e = absurd (omega (arith, e))
local_flow c ids (Memory room) own e = absurd (omega (arith, e))
local_flow c ids s own e = absurd (omega (arith, e))

-- LISTS that a test leaves
filter_each : {X : Type 0} (test : X → Bool) (P : X → Type 0) (xs : List X) → ((x : X) → test x ≡ true → P x) → Each P (filter test xs)
filter_each test P [] f = tt
filter_each test P (x ∷ xs) f = by (test x) refl (filter_each test P xs f) where
  by : (b : Bool) → test x ≡ b → Each P (filter test xs) → Each P (cond b (x ∷ filter test xs) (filter test xs))
  by true e h = (f x e, h)
  by false e h = h

filter_none : {X : Type 0} (test : X → Bool) (xs : List X) → ((k : ℕ) (x : X) → slice_get xs k ≡ Some x → test x ≡ true → ⊥) → filter test xs ≡ []
filter_none test [] f = refl
filter_none test (x ∷ xs) f = by (test x) refl (filter_none test xs (λ k y e t. f (suc k) y e t)) where
  by : (b : Bool) → test x ≡ b → filter test xs ≡ [] → cond b (x ∷ filter test xs) (filter test xs) ≡ []
  by true e h = absurd (f 0 x refl e)
  by false e h = h

filter_one : {X : Type 0} (test : X → Bool) (xs : List X) (k : ℕ) (x : X) → slice_get xs k ≡ Some x → test x ≡ true
    → ((j : ℕ) (y : X) → slice_get xs j ≡ Some y → test y ≡ true → j ≡ k) → filter test xs ≡ x ∷ []
filter_one test [] k x h t one = absurd (cc)
filter_one test (y ∷ ys) zero x h t one =
    let same : y ≡ x = cc in
    subst (λ z. cond (test z) (z ∷ filter test ys) (filter test ys) ≡ x ∷ []) (sym same)
    (ap (λ b. cond b (x ∷ filter test ys) (filter test ys)) t
    ∙ ap (λ l. x ∷ l) (filter_none test ys (λ j z e u. let q = one (suc j) z e u in omega (arith, q))))
filter_one test (y ∷ ys) (suc k) x h t one =
    by (test y) refl (filter_one test ys k x h t (λ j z e u. let q = one (suc j) z e u in omega (arith, q))) where
      by : (b : Bool) → test y ≡ b → filter test ys ≡ x ∷ [] → cond b (y ∷ filter test ys) (filter test ys) ≡ x ∷ []
      by true e i = absurd (let q = one 0 y refl e in omega (arith, q))
      by false e i = i

abbrev HasFlow : Flow → Instr → Type 0
HasFlow f i = flow_of i ≡ f

each_code : (c : Context) (entries part : List Entry) (P : Instr → Type 0) → Each (λ (e : Entry). P (instr_of c entries e)) part
    → Each P (code_of c entries part)
each_code c entries [] P h = tt
each_code c entries (e ∷ part) P h = (h.0, each_code c entries part P h.1)

marks_plain : (own : ℕ) (marks : Marks) → Each (HasFlow Plain) (decorations_by own marks)
marks_plain own Nothing = tt
marks_plain own (Stride bytes) = (refl, tt)
marks_plain own (Block access.Plain) = (refl, (refl, tt))
marks_plain own (Block access.ReadOnly) = (refl, (refl, (refl, tt)))
marks_plain own (Block access.Coherent) = (refl, (refl, (refl, tt)))
marks_plain own (Bound set binding) = (refl, (refl, tt))
marks_plain own (BuiltIn built_in) = (refl, tt)

decorations_plain : (c : Context) (entries : List Entry) → Each (HasFlow Plain) (decorations_of c entries)
decorations_plain c [] = tt
decorations_plain c (e ∷ es) =
    each_append (HasFlow Plain) (decorations_for c e.symbol e.id) (decorations_of c es) (marks_plain e.id (row_of c e.symbol).marks)
    (decorations_plain c es)

-- A FUNCTION'S OPENING: plain instructions, the function, its first label, variables.
pub record Opening (code : List Instr) : Type 0 where
  pub plain : List Instr
  pub head : Instr
  pub first : Instr
  pub label : ℕ
  pub locals : List Instr
  pub list : code ≡ plain ++ (head ∷ first ∷ locals)
  pub plain' : Each (HasFlow Plain) plain
  pub head' : flow_of head ≡ Begins
  pub first' : flow_of first ≡ Label label
  pub locals' : Each (HasFlow Local) locals

module _ (c : Context) (kind : Kind) (t : Table) (cs : List Numbered) (r : IsReady c t cs) where
  abbrev es : List Entry
  es = t.entries

  tested : (section : Section) (e : Entry) → in_section c section e ≡ true → order (section_of c e.symbol) ≡ order section
  tested section e h = eqb-true (order (section_of c e.symbol)) (order section) h

  section_plain : (section : Section) → order section < 4 → Each (HasFlow Plain) (section_code c section es)
  section_plain section lt =
      each_code c es (part_of c section es) (HasFlow Plain) (filter_each (in_section c section) (λ (e : Entry). HasFlow Plain (instr_of c es e)) es
      (λ e h. let o = tested section e h in declared_plain c (id_of es) e.symbol e.id (omega (arith, o, lt))))

  constants_plain : (ns : List Numbered) → Each (HasFlow Plain) (code_of c es (map entry_for ns))
  constants_plain [] = tt
  constants_plain (n ∷ ns) = (refl, constants_plain ns)

  front_plain : Each (HasFlow Plain) (front c kind es cs)
  front_plain = (
    refl,
    each_append (HasFlow Plain) (section_code c Imports es) (models kind es ++ (decorations_of c es ++ declarations c es cs))
        (section_plain Imports (omega arith)) (
          refl,
          (
            refl,
            (
              refl,
              each_append (HasFlow Plain) (decorations_of c es) (declarations c es cs) (decorations_plain c es)
                  (each_append (HasFlow Plain) (section_code c Types es) (code_of c es (map entry_for cs) ++ section_code c Declarations es)
                  (section_plain Types (omega arith))
                  (each_append (HasFlow Plain) (code_of c es (map entry_for cs)) (section_code c Declarations es) (constants_plain cs)
                  (section_plain Declarations (omega arith)))),
            ),
          ),
        ),
  )

  only : (section : Section) (s : Symbol) (x : ℕ) (h : Has es s x) → order (section_of c s) ≡ order section
      → ((u : Symbol) → order (section_of c u) ≡ order section → u ≡ s) → section_code c section es ≡ instr_of c es (entry s x) ∷ []
  only section s x h o f =
      ap (code_of c es) (filter_one (in_section c section) es h.0 (entry s x) h.1 (eq-eqb (order (section_of c s)) (order section) o)
      (λ j e i q. r.stands.table.single j h.0 e (entry s x) i h.1 (f e.symbol (tested section e q))))

  pub opening : Opening (front c kind es cs ++ (section_code c Heads es ++ (section_code c Labels es ++ section_code c Locals es)))
  opening = record {
    plain = front c kind es cs;
    head = instr_of c es (entry Main r.main);
    first = instr_of c es (entry FirstLabel r.label);
    label = r.label;
    locals = section_code c Locals es;
    list = ap (λ l. front c kind es cs ++ l)
        (ap (λ l. l ++ (section_code c Labels es ++ section_code c Locals es)) (only Heads Main r.main r.has_main refl (is_head c))
        ∙ ap (λ l. instr_of c es (entry Main r.main) ∷ (l ++ section_code c Locals es)) (only Labels FirstLabel r.label r.has_label refl (is_first c)));
    plain' = front_plain;
    head' = refl;
    first' = refl;
    locals' = each_code c es (part_of c Locals es) (HasFlow Local) (filter_each (in_section c Locals) (λ (e : Entry). HasFlow Local (instr_of c es e)) es
        (λ e h. local_flow c (id_of es) e.symbol e.id (tested Locals e h)));
  }

-- SILENT instructions have no part in blocks, branches and constructs.
pub record IsSilent (f : Flow) : Type 0 where
  pub edges : (number : ℕ → ℕ) (b : ℕ) → edges_of_flow number b f ≡ []
  pub spans : (number : ℕ → ℕ) (b : ℕ) (is : List Instr) → spans_of_flow number b f is ≡ []
  pub next : (b : ℕ) → next_block b f ≡ b
  pub follows : may_follow NoMerge f ≡ true
  pub merges : merge_before f ≡ NoMerge

silent_plain : IsSilent Plain
silent_plain = record { edges = λ n b. refl; spans = λ n b is. refl; next = λ b. refl; follows = refl; merges = refl }

silent_local : IsSilent Local
silent_local = record { edges = λ n b. refl; spans = λ n b is. refl; next = λ b. refl; follows = refl; merges = refl }

silent_begins : IsSilent Begins
silent_begins = record { edges = λ n b. refl; spans = λ n b is. refl; next = λ b. refl; follows = refl; merges = refl }

abbrev Quiet : Instr → Type 0
Quiet i = IsSilent (flow_of i)

quiet_of : (f : Flow) → IsSilent f → (is : List Instr) → Each (HasFlow f) is → Each Quiet is
quiet_of f q is h = each_mapped (HasFlow f) Quiet is (λ i e. subst IsSilent (sym e) q) h

quiet_edges : (number : ℕ → ℕ) (is rest : List Instr) (b : ℕ) → Each Quiet is → edges_from number (is ++ rest) b ≡ edges_from number rest b
quiet_edges number [] rest b h = refl
quiet_edges number (i ∷ is) rest b h =
    ap (λ l. l ++ edges_from number (is ++ rest) (next_block b (flow_of i))) (h.0.edges number b)
    ∙ (ap (λ n. edges_from number (is ++ rest) n) (h.0.next b) ∙ quiet_edges number is rest b h.1)

quiet_spans : (number : ℕ → ℕ) (is rest : List Instr) (b : ℕ) → Each Quiet is → spans_from number (is ++ rest) b ≡ spans_from number rest b
quiet_spans number [] rest b h = refl
quiet_spans number (i ∷ is) rest b h =
    ap (λ l. l ++ spans_from number (is ++ rest) (next_block b (flow_of i))) (h.0.spans number b (is ++ rest))
    ∙ (ap (λ n. spans_from number (is ++ rest) n) (h.0.next b) ∙ quiet_spans number is rest b h.1)

quiet_follows : (is rest : List Instr) → Each Quiet is → follow NoMerge (is ++ rest) ≡ follow NoMerge rest
quiet_follows [] rest h = refl
quiet_follows (i ∷ is) rest h =
    ap (λ b. b && follow (merge_before (flow_of i)) (is ++ rest)) h.0.follows
    ∙ (ap (λ m. follow m (is ++ rest)) h.0.merges ∙ quiet_follows is rest h.1)

quiet_numbered : (number : ℕ → ℕ) (is rest : List Instr) (b : ℕ) → Each Quiet is → AreNumbered number (is ++ rest) b → AreNumbered number rest b
quiet_numbered number [] rest b h n = n
quiet_numbered number (i ∷ is) rest b h n =
    quiet_numbered number is rest b h.1 (subst (λ k. AreNumbered number (is ++ rest) k) (h.0.next b) n.1)

plain_walk : (is rest : List Instr) → Each (HasFlow Plain) is → walk InFront (is ++ rest) ≡ walk InFront rest
plain_walk [] rest h = refl
plain_walk (i ∷ is) rest h = ap (λ f. walk (walk_on InFront f) (is ++ rest)) h.0 ∙ plain_walk is rest h.1

local_walk : (is rest : List Instr) → Each (HasFlow Local) is → walk AtVariables (is ++ rest) ≡ walk AtVariables rest
local_walk [] rest h = refl
local_walk (i ∷ is) rest h = ap (λ f. walk (walk_on AtVariables f) (is ++ rest)) h.0 ∙ local_walk is rest h.1

-- THE BLOCK behind code
abbrev pub block_behind : List Instr → ℕ → ℕ
block_behind [] b = b
block_behind (i ∷ is) b = block_behind is (next_block b (flow_of i))

quiet_behind : (is rest : List Instr) (b : ℕ) → Each Quiet is → block_behind (is ++ rest) b ≡ block_behind rest b
quiet_behind [] rest b h = refl
quiet_behind (i ∷ is) rest b h = ap (block_behind (is ++ rest)) (h.0.next b) ∙ quiet_behind is rest b h.1

pub homes_on : (is rest : List Instr) (b : ℕ) → homes (is ++ rest) b ≡ homes is b ++ homes rest (block_behind is b)
homes_on [] rest b = refl
homes_on (i ∷ is) rest b =
    ap (λ l. at_block b (local_results (flow_of i) (ids_of i).results) ++ l) (homes_on is rest (next_block b (flow_of i)))
    ∙ sym (append_assoc (at_block b (local_results (flow_of i) (ids_of i).results)) (homes is (next_block b (flow_of i)))
    (homes rest (block_behind is (next_block b (flow_of i)))))

pub used_on : (is rest : List Instr) (b : ℕ) → used_at (is ++ rest) b ≡ used_at is b ++ used_at rest (block_behind is b)
used_on [] rest b = refl
used_on (i ∷ is) rest b =
    ap (λ l. at_block b ((ids_of i).uses ++ (ids_of i).names) ++ l) (used_on is rest (next_block b (flow_of i)))
    ∙ sym (append_assoc (at_block b ((ids_of i).uses ++ (ids_of i).names)) (used_at is (next_block b (flow_of i)))
    (used_at rest (block_behind is (next_block b (flow_of i)))))

-- THE FRONT of a function's blocks
module _ (code : List Instr) (o : Opening code) where
  abbrev start : List Instr
  start = o.plain ++ (o.head ∷ [])

  starts_quiet : Each Quiet start
  starts_quiet =
      each_append Quiet o.plain (o.head ∷ []) (quiet_of Plain silent_plain o.plain o.plain') (subst IsSilent (sym o.head') silent_begins, tt)

  locals_quiet : Each Quiet o.locals
  locals_quiet = quiet_of Local silent_local o.locals o.locals'

  parted : (rest : List Instr) → code ++ rest ≡ start ++ (o.first ∷ (o.locals ++ rest))
  parted rest =
      ap (λ l. l ++ rest) o.list ∙ (append_assoc o.plain (o.head ∷ o.first ∷ o.locals) rest
      ∙ sym (append_assoc o.plain (o.head ∷ []) (o.first ∷ (o.locals ++ rest))))

  walks : (rest : List Instr) → walk InFront (code ++ rest) ≡ walk AtVariables rest
  walks rest =
      ap (λ l. walk InFront (l ++ rest)) o.list
      ∙ (ap (walk InFront) (append_assoc o.plain (o.head ∷ o.first ∷ o.locals) rest)
      ∙ (plain_walk o.plain (o.head ∷ o.first ∷ (o.locals ++ rest)) o.plain'
      ∙ (ap (λ f. walk (walk_on InFront f) (o.first ∷ (o.locals ++ rest))) o.head'
      ∙ (ap (λ f. walk (walk_on AtFunction f) (o.locals ++ rest)) o.first' ∙ local_walk o.locals rest o.locals'))))

  follows : (rest : List Instr) → follow NoMerge (code ++ rest) ≡ follow NoMerge rest
  follows rest =
      ap (follow NoMerge) (parted rest) ∙ (quiet_follows start (o.first ∷ (o.locals ++ rest)) starts_quiet
      ∙ (ap (λ f. may_follow NoMerge f && follow (merge_before f) (o.locals ++ rest)) o.first' ∙ quiet_follows o.locals rest locals_quiet))

  pub is_front : IsFront code
  is_front = record {
    walks = walks;
    follows = follows;
    numbered = λ number rest n.
        let behind = quiet_numbered number start (o.first ∷ (o.locals ++ rest)) 0 starts_quiet
        (subst (λ l. AreNumbered number l 0) (parted rest) n) in
        quiet_numbered number o.locals rest 1 locals_quiet (subst (λ f. AreNumbered number (o.locals ++ rest) (next_block 0 f)) o.first' behind.1);
    edges = λ number rest.
        ap (λ l. edges_from number l 0) (parted rest) ∙ (quiet_edges number start (o.first ∷ (o.locals ++ rest)) 0 starts_quiet
        ∙ (ap (λ f. edges_of_flow number 0 f ++ edges_from number (o.locals ++ rest) (next_block 0 f)) o.first'
        ∙ quiet_edges number o.locals rest 1 locals_quiet));
    spans = λ number rest.
        ap (λ l. spans_from number l 0) (parted rest) ∙ (quiet_spans number start (o.first ∷ (o.locals ++ rest)) 0 starts_quiet
        ∙ (ap (λ f. spans_of_flow number 0 f (o.locals ++ rest) ++ spans_from number (o.locals ++ rest) (next_block 0 f)) o.first'
        ∙ quiet_spans number o.locals rest 1 locals_quiet));
  }

  -- HOMES in front of the code are in no block, and the code stands in the first block.
  abbrev Outside : List Home → Type 0
  Outside hs = (h : Home) → In hs h → h.block ≡ 0

  at_outside : (xs : List ℕ) → Outside (at_block 0 xs)
  at_outside [] h i = absurd i
  at_outside (x ∷ xs) h (inl e) = ap (λ (y : Home). y.block) (sym e)
  at_outside (x ∷ xs) h (inr i) = at_outside xs h i

  quiet_homes : (is rest : List Instr) → Each Quiet is → Outside (homes rest 0) → Outside (homes (is ++ rest) 0)
  quiet_homes [] rest q f h j = f h j
  quiet_homes (i ∷ is) rest q f h j =
      ⊎_elim (λ own. at_outside (local_results (flow_of i) (ids_of i).results) h own)
      (λ later. quiet_homes is rest q.1 f h (subst (λ b. In (homes (is ++ rest) b) h) (q.0.next 0) later))
      (in_either (at_block 0 (local_results (flow_of i) (ids_of i).results)) (homes (is ++ rest) (next_block 0 (flow_of i))) h j)

  no_homes : (is : List Instr) (b : ℕ) → Each (HasFlow Local) is → homes is b ≡ []
  no_homes [] b h = refl
  no_homes (i ∷ is) b h =
      ap (λ f. at_block b (local_results f (ids_of i).results) ++ homes is (next_block b f)) h.0 ∙ no_homes is b h.1

  first_homes : homes (o.first ∷ o.locals) 0 ≡ []
  first_homes =
      ap (λ f. at_block 0 (local_results f (ids_of o.first).results) ++ homes o.locals (next_block 0 f)) o.first' ∙ no_homes o.locals 1 o.locals'

  code_is : code ≡ start ++ (o.first ∷ o.locals)
  code_is = o.list ∙ sym (append_assoc o.plain (o.head ∷ []) (o.first ∷ o.locals))

  pub front_homes : (h : Home) → In (homes code 0) h → h.block ≡ 0
  front_homes h i =
      quiet_homes start (o.first ∷ o.locals) starts_quiet (λ g j. absurd (subst (λ l. In l g) first_homes j)) h
      (subst (λ l. In (homes l 0) h) code_is i)

  pub front_behind : block_behind code 0 ≡ 1
  front_behind =
      ap (λ l. block_behind l 0) code_is ∙ (quiet_behind start (o.first ∷ o.locals) 0 starts_quiet
      ∙ (ap (λ f. block_behind o.locals (next_block 0 f)) o.first'
      ∙ (ap (λ l. block_behind l 1) (sym (append-nil o.locals)) ∙ quiet_behind o.locals [] 1 locals_quiet)))
