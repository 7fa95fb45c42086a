-- The constants of a finished module ascend.
use Rattle.std.proofs.Common.{◌≡◌, ℕ, zero, suc, ◌<◌, ⊎_elim, Bool, true, false, List, [], ◌∷◌, ◌++◌, map, Some}
use Rattle.std.proofs.Common.{refl, sym, ap, ◌∙◌, subst, arith}
use Rattle.std.specs.Prelude.{nat_eq, slice_get}
use Rattle.std.specs.List.{list_all}
use Rattle.std.proofs.lemmas.Bool.{and_parts}
use Rattle.std.proofs.lemmas.Bool.Decides.{eqb_tells}
use Rattle.word_base.specs.declared.event.Room.TheVariants.{Shared}
use Rattle.spirv_words.specs.Operations.{OpConstant, OpFunctionEnd}
use Rattle.spirv_words.specs.Sections.{is_body}
use Rattle.spirv_words.specs.Sections as sections
use Rattle.spirv_words.specs.Text.{Instr, Module, instruction, is_op}
use Rattle.spirv_symbols.specs.declared.symbol.Access.TheVariants.{Plain, ReadOnly, Coherent}
use Rattle.spirv_symbols.specs.declared.symbol.Section.{Section}
use Rattle.spirv_symbols.specs.declared.symbol.Section.TheVariants.{Imports, Types, Declarations, Heads, Labels, Locals}
use Rattle.spirv_symbols.specs.declared.symbol.Symbol.{Symbol}
use Rattle.spirv_symbols.specs.declared.symbol.Symbol.TheVariants.{AType, Constant, Memory}
use Rattle.spirv_symbols.specs.declared.symbol.TypeSymbol.{TypeSymbol}
use Rattle.spirv_symbols.specs.declared.symbol.TypeSymbol.TheVariants.{Void}
use Rattle.spirv_symbols.specs.declared.row.Marks.{Marks}
use Rattle.spirv_symbols.specs.declared.row.Marks.TheVariants.{Nothing, Stride, Block, Bound, BuiltIn}
use Rattle.spirv_symbols.specs.declared.numbered.Numbered.{Numbered}
use Rattle.spirv_symbols.specs.Contexts.{Context}
use Rattle.spirv_symbols.specs.Rows.{row_of, section_of, instr_for, decorations_by}
use Rattle.spirv_symbols.specs.declared.entry.Entry.{Entry}
use Rattle.spirv_symbols.specs.Tables.{id_of, instr_of}
use Rattle.spirv_symbols.specs.Sections.{order, in_section, part_of, code_of, section_code, decorations_of}
use Rattle.spirv_symbols.specs.Orders.{Each, Ordered, Ascends, words_of_all, entry_for}
use Rattle.spirv_symbols.specs.Modules.{Kind, IsBody, models, declarations, front, function, module_code}
use Rattle.spirv_symbols.proofs.Members.{each_append, each_at, get_among, passes}
use Rattle.translator.specs.Means.{AreOrdered}

-- INSTRUCTIONS that are no constants of words, and those of which the first is less where both are.
abbrev Other : Instr → Type 0
Other i = is_op OpConstant i ≡ false

abbrev constant : (t r w : ℕ) → Instr
constant t r w = instruction OpConstant (t ∷ r ∷ w ∷ [])

abbrev Rising : Instr → Instr → Type 0
Rising i j = (t r u s v w : ℕ) → i ≡ constant t r v → j ≡ constant u s w → v < w

before_other : (i j : Instr) → Other j → Rising i j
before_other i j o t r u s v w e f = let gone : false ≡ true = sym o ∙ ap (is_op OpConstant) f in absurd (cc gone)

behind_other : (i j : Instr) → Other i → Rising i j
behind_other i j o t r u s v w e f = let gone : false ≡ true = sym o ∙ ap (is_op OpConstant) e in absurd (cc gone)

all_before : (i : Instr) (is : List Instr) → Each Other is → Each (Rising i) is
all_before i [] o = tt
all_before i (j ∷ is) o = (before_other i j o.0, all_before i is o.1)

all_behind : (i : Instr) (is : List Instr) → Other i → Each (Rising i) is
all_behind i [] o = tt
all_behind i (j ∷ is) o = (behind_other i j o, all_behind i is o)

others : (is : List Instr) → Each Other is → Ordered Rising is
others [] o = tt
others (i ∷ is) o = (all_behind i is o.0, others is o.1)

others_front : (is js : List Instr) → Each Other is → Ordered Rising js → Ordered Rising (is ++ js)
others_front [] js o h = h
others_front (i ∷ is) js o h = (all_behind i (is ++ js) o.0, others_front is js o.1 h)

others_back : (is js : List Instr) → Ordered Rising is → Each Other js → Ordered Rising (is ++ js)
others_back [] js h o = others js o
others_back (i ∷ is) js h o =
    (each_append (Rising i) is js h.0 (all_before i js o), others_back is js h.1 o)

-- of two places the first is less
apart : (is : List Instr) (i j : ℕ) (x y : Instr) → Ordered Rising is → i < j → slice_get is i ≡ Some x
    → slice_get is j ≡ Some y → Rising x y
apart [] i j x y h l a b = absurd (cc a)
apart (z ∷ is) zero zero x y h l a b = absurd (omega (arith, l))
apart (z ∷ is) zero (suc j) x y h l a b =
    subst (λ c. Rising c y) (cc a) (each_at (Rising z) is y h.0 (get_among is j y b))
apart (z ∷ is) (suc i) zero x y h l a b = absurd (omega (arith, l))
apart (z ∷ is) (suc i) (suc j) x y h l a b = apart is i j x y h.1 (omega (arith, l)) a b

-- THE SYMBOLS that stand in no section of constants
other_type : (c : Context) (ids : Symbol → ℕ) (t : TypeSymbol) (own : ℕ) → Other (instr_for c ids (AType t) own)
other_type c ids Void own = refl
other_type c ids t own = refl

other_symbol : (c : Context) (ids : Symbol → ℕ) (s : Symbol) (own : ℕ) → nat_eq (order (section_of c s)) 2 ≡ false
    → Other (instr_for c ids s own)
other_symbol c ids (Constant w) own d = absurd (cc d)
other_symbol c ids (AType t) own d = other_type c ids t own
other_symbol c ids (Memory (Shared slot)) own d = refl
other_symbol c ids (Memory room) own d = refl
other_symbol c ids s own d = refl

elsewhere : (a b : ℕ) → nat_eq a b ≡ true → nat_eq b 2 ≡ false → nat_eq a 2 ≡ false
elsewhere a b e d = ⊎_elim (λ q. ap (λ n. nat_eq n 2) q.1 ∙ d) (λ q. absurd (cc (e, q.0))) (eqb_tells a b)

other_code : (c : Context) (entries es : List Entry) (section : Section) → nat_eq (order section) 2 ≡ false
    → Each (λ e. in_section c section e ≡ true) es → Each Other (code_of c entries es)
other_code c entries [] section d h = tt
other_code c entries (e ∷ es) section d h = (
  other_symbol c (id_of entries) e.symbol e.id (elsewhere (order (section_of c e.symbol)) (order section) h.0 d),
  other_code c entries es section d h.1,
)

other_section : (c : Context) (entries : List Entry) (section : Section) → nat_eq (order section) 2 ≡ false
    → Each Other (section_code c section entries)
other_section c entries section d =
    other_code c entries (part_of c section entries) section d (passes (in_section c section) entries)

-- decorations
other_marks : (own : ℕ) (marks : Marks) → Each Other (decorations_by own marks)
other_marks own Nothing = tt
other_marks own (Stride bytes) = (refl, tt)
other_marks own (Block Plain) = (refl, (refl, tt))
other_marks own (Block ReadOnly) = (refl, (refl, (refl, tt)))
other_marks own (Block Coherent) = (refl, (refl, (refl, tt)))
other_marks own (Bound set binding) = (refl, (refl, tt))
other_marks own (BuiltIn built_in) = (refl, tt)

other_decorations : (c : Context) (es : List Entry) → Each Other (decorations_of c es)
other_decorations c [] = tt
other_decorations c (e ∷ es) =
    each_append Other (decorations_by e.id (row_of c e.symbol).marks) (decorations_of c es)
    (other_marks e.id (row_of c e.symbol).marks) (other_decorations c es)

-- the code of a body
abbrev is_in_body : Instr → Bool
is_in_body i = is_body (sections.section_of i)

declares : (os : List ℕ) → is_in_body (record { op = 43; operands = os }) ≡ false
declares os = refl

other_body : (i : Instr) → is_in_body i ≡ true → Other i
other_body i b =
    ⊎_elim
    (λ e. absurd (cc (b, ap (λ m. is_in_body (record { op = m; operands = i.operands })) e.1, declares i.operands)))
    (λ e. e.0) (eqb_tells i.op 43)

other_bodies : (body : List Instr) → list_all is_in_body body ≡ true → Each Other body
other_bodies [] h = tt
other_bodies (i ∷ is) h =
    let p = and_parts (is_in_body i) (list_all is_in_body is) h in
    (other_body i p.0, other_bodies is p.1)

-- THE CONSTANTS in ascending order
abbrev word_in : List ℕ → ℕ
word_in (t ∷ r ∷ w ∷ []) = w
word_in operands = 0

rising : (a b r s v w : ℕ) → v < w → Rising (constant a r v) (constant b s w)
rising a b r s v w l t q u z x y e f =
    let first : v ≡ x = ap (λ (i : Instr). word_in i.operands) e in
    let second : w ≡ y = ap (λ (i : Instr). word_in i.operands) f in
    omega (arith, l, first, second)

each_rising : (c : Context) (entries : List Entry) (p : Numbered) (ps : List Numbered)
    → Each (λ w. p.word < w) (words_of_all ps)
    → Each (Rising (instr_of c entries (entry_for p))) (code_of c entries (map entry_for ps))
each_rising c entries p [] h = tt
each_rising c entries p (q ∷ ps) h =
    (rising _ _ p.id q.id p.word q.word h.0, each_rising c entries p ps h.1)

ordered_constants : (c : Context) (entries : List Entry) (ps : List Numbered) → Ascends (words_of_all ps)
    → Ordered Rising (code_of c entries (map entry_for ps))
ordered_constants c entries [] h = tt
ordered_constants c entries (p ∷ ps) h = (each_rising c entries p ps h.0, ordered_constants c entries ps h.1)

-- THE MODULE
module _ (c : Context) (kind : Kind) (entries : List Entry) (cs : List Numbered) (body : List Instr)
    (ascends : Ascends (words_of_all cs)) (in_function : IsBody body) where
  other_function : Each Other (function c entries body)
  other_function =
      each_append Other (section_code c Heads entries) _ (other_section c entries Heads refl)
      (each_append Other (section_code c Labels entries) _ (other_section c entries Labels refl)
      (each_append Other (section_code c Locals entries) _ (other_section c entries Locals refl)
      (each_append Other body (instruction OpFunctionEnd [] ∷ []) (other_bodies body in_function) (refl, tt))))

  ordered_front : Ordered Rising (front c kind entries cs)
  ordered_front =
      let declared : Ordered Rising (declarations c entries cs) =
      others_front (section_code c Types entries) _ (other_section c entries Types refl)
      (others_back (code_of c entries (map entry_for cs)) (section_code c Declarations entries)
      (ordered_constants c entries cs ascends) (other_section c entries Declarations refl)) in
      let behind = others_front (decorations_of c entries) (declarations c entries cs) (other_decorations c entries)
      declared in
      let modelled = others_front (models kind entries) (decorations_of c entries ++ declarations c entries cs)
      (refl, (refl, (refl, tt))) behind in
      let imported = others_front (section_code c Imports entries) _ (other_section c entries Imports refl) modelled in
      (all_behind _ _ refl, imported)

  pub ordered_code : Ordered Rising (module_code c kind entries cs body)
  ordered_code = others_back (front c kind entries cs) (function c entries body) ordered_front other_function

  pub ordered : (m : Module) → m.code ≡ module_code c kind entries cs body → AreOrdered m
  ordered m same = record {
    ascend = λ i j t r u s v w l a b.
        apart (module_code c kind entries cs body) i j (constant t r v) (constant u s w) ordered_code l
        (ap (λ code. slice_get code i) (sym same) ∙ a) (ap (λ code. slice_get code j) (sym same) ∙ b) t r u s v w refl
        refl;
  }
