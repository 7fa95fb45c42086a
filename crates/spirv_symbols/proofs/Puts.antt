-- Writing the sections.
use Rattle.std.proofs.Common.{◌≡◌, ℕ, zero, suc, ◌+◌, ◌*◌, ◌≤◌, ◌<◌, List, [], ◌∷◌, ◌++◌, length, take, map, true, false, Some, refl, sym, ap, ◌∙◌, arith, append_assoc, length-append}
use Rattle.std.specs.Prelude.{slice_get, flat_map, cond}
use Rattle.std.proofs.lemmas.List.{length-map}
use Rattle.std.proofs.lemmas.Grind.{flat_map-append}
use Rattle.spirv_words.specs.Text.{words_of_instr, words_of_code}
use Rattle.spirv_symbols.specs.declared.symbol.Access.TheVariants.{Plain, ReadOnly, Coherent}
use Rattle.spirv_symbols.specs.declared.symbol.Section.{Section}
use Rattle.spirv_symbols.specs.declared.row.Part.{Part}
use Rattle.spirv_symbols.specs.declared.row.Marks.{Marks}
use Rattle.spirv_symbols.specs.declared.row.Marks.TheVariants.{Nothing, Stride, Block, Bound, BuiltIn}
use Rattle.spirv_symbols.specs.Contexts.{Context}
use Rattle.spirv_symbols.specs.Rows.{row_of, operand, decorations_by, decorations_for, words_of_marks}
use Rattle.spirv_symbols.specs.Tables.{Entry, instr_of, id_of}
use Rattle.spirv_symbols.specs.Sections.{in_section, part_of, code_of, section_code, decorations_of}
use Rattle.spirv_symbols.proofs.EntriesLaws.{append_none}
use Rattle.spirv_symbols.proofs.Lists.{take_next, take_all, each_next, each_room, filter_each, map_each, passed}

-- OPERANDS
pub operand_next : (f : Part → ℕ) (parts : List Part) (k x : ℕ) (p : Part) (before now after : List ℕ) → slice_get parts k ≡ Some p → x ≡ f p
    → now ≡ before ++ map f (take k parts) → after ≡ now ++ x ∷ [] → after ≡ before ++ map f (take (k + 1) parts)
operand_next f parts k x p before now after h i e d =
    d ∙ ap (λ l. l ++ x ∷ []) e ∙ append_assoc before (map f (take k parts)) (x ∷ []) ∙ ap (λ l. before ++ l)
    (last (take k parts) ∙ ap (map f) (sym (take_next parts k p h))) where
      last : (ps : List Part) → map f ps ++ x ∷ [] ≡ map f (ps ++ p ∷ [])
      last [] = ap (λ n. n ∷ []) i
      last (q ∷ ps) = ap (λ l. f q ∷ l) (last ps)

take_fewer : {X : Type 0} (xs : List X) (k : ℕ) → k ≤ length xs → length (take k xs) ≡ k
take_fewer xs zero h = refl
take_fewer [] (suc k) h = absurd (omega (arith, h))
take_fewer (x ∷ xs) (suc k) h = ap suc (take_fewer xs k (omega (arith, h)))

-- room for an operand more
pub operand_room : (f : Part → ℕ) (parts : List Part) (k capacity : ℕ) (front now : List ℕ) → k < length parts → length front + length parts ≤
    capacity
    → now ≡ front ++ map f (take k parts) → length now < capacity
operand_room f parts k capacity front now lt le e =
    omega (
      arith,
      lt,
      le,
      ap length e,
      length-append front (map f (take k parts)),
      length-map (take k parts) f,
      take_fewer parts k
          (omega (arith, lt)),
    )

-- the whole instruction
pub instruction_whole : (f : Part → ℕ) (parts : List Part) (k count op : ℕ) (before first now : List ℕ) → length parts ≤ k → count ≡ length parts
    → first ≡ before ++ (65536 * (count + 1) + op) ∷ [] → now ≡ first ++ map f (take k parts)
    → now ≡ before ++ words_of_instr (record { op = op; operands = map f parts })
instruction_whole f parts k count op before first now le c e d =
    d ∙ ap (λ l. first ++ map f l) (take_all parts k le) ∙ ap (λ l. l ++ map f parts) e
    ∙ append_assoc before ((65536 * (count + 1) + op) ∷ []) (map f parts)
    ∙ ap (λ n. before ++ (65536 * (n + 1) + op) ∷ map f parts) (c ∙ sym (length-map parts f))

-- SECTIONS
abbrev words_at : Context → List Entry → Entry → List ℕ
words_at context entries e = words_of_instr (instr_of context entries e)

-- what is written of an entry in a walk
abbrev in_words : Context → Section → List Entry → Entry → List ℕ
in_words context section entries e = passed (words_at context entries) (in_section context section) e

section_words : (context : Context) (section : Section) (entries es : List Entry)
    → words_of_code (code_of context entries (part_of context section es)) ≡ flat_map (in_words context section entries) es
section_words context section entries es =
    map_each words_of_instr (instr_of context entries) (part_of context section es)
    ∙ filter_each (words_at context entries) (in_section context section) es

abbrev Walked : Context → Section → List Entry → ℕ → List ℕ
Walked context section entries k = words_of_code (code_of context entries (part_of context section (take k entries)))

pub section_in : (context : Context) (section : Section) (entries : List Entry) (k : ℕ) (e : Entry) (before now after : List ℕ)
    → slice_get entries k ≡ Some e
    → in_section context section e ≡ true → now ≡ before ++ Walked context section entries k → after ≡ now ++ words_at context entries e
    → after ≡ before ++ Walked context section entries (k + 1)
section_in context section entries k e before now after h t p q =
    let r = each_next (in_words context section entries) entries k e before now after h
    (p ∙ ap (λ l. before ++ l) (section_words context section entries (take k entries)))
    (q ∙ ap (λ b. now ++ cond b (words_at context entries e) []) (sym t)) in
    r ∙ ap (λ l. before ++ l) (sym (section_words context section entries (take (k + 1) entries)))

pub section_out : (context : Context) (section : Section) (entries : List Entry) (k : ℕ) (e : Entry) (before now : List ℕ)
    → slice_get entries k ≡ Some e
    → in_section context section e ≡ false → now ≡ before ++ Walked context section entries k → now ≡ before ++ Walked context section entries (k + 1)
section_out context section entries k e before now h t p =
    let r = each_next (in_words context section entries) entries k e before now now h
    (p ∙ ap (λ l. before ++ l) (section_words context section entries (take k entries)))
    (sym (append_none now) ∙ ap (λ b. now ++ cond b (words_at context entries e) []) (sym t)) in
    r ∙ ap (λ l. before ++ l) (sym (section_words context section entries (take (k + 1) entries)))

pub section_room : (context : Context) (section : Section) (entries : List Entry) (k capacity : ℕ) (e : Entry) (before now : List ℕ)
    → slice_get entries k ≡ Some e
    → in_section context section e ≡ true → now ≡ before ++ Walked context section entries k → length before + length
    (words_of_code (section_code context section entries)) ≤ capacity
    → length now + length (row_of context e.symbol).parts + 1 ≤ capacity
section_room context section entries k capacity e before now h t p le =
    let r = each_room (in_words context section entries) entries k e h in
    let a = ap length p in
    let b = length-append before (Walked context section entries k) in
    let c = ap length (section_words context section entries (take k entries)) in
    let d = ap length (section_words context section entries entries) in
    let f = ap (λ x. length (cond x (words_at context entries e) [])) t in
    let g = length-map (row_of context e.symbol).parts (operand (id_of entries) e.id) in
    omega (arith, r, a, b, c, d, f, g, le)

pub section_whole : (context : Context) (section : Section) (entries : List Entry) (k : ℕ) (before now : List ℕ) → length entries ≤ k
    → now ≡ before ++ Walked context section entries k → now ≡ before ++ words_of_code (section_code context section entries)
section_whole context section entries k before now le p =
    p ∙ ap (λ l. before ++ words_of_code (code_of context entries (part_of context section l))) (take_all entries k le)

-- DECORATIONS
pub marks_length : (id : ℕ) (marks : Marks) → length (words_of_code (decorations_by id marks)) ≡ words_of_marks marks
marks_length id Nothing = refl
marks_length id (Stride bytes) = refl
marks_length id (Block Plain) = refl
marks_length id (Block ReadOnly) = refl
marks_length id (Block Coherent) = refl
marks_length id (Bound set binding) = refl
marks_length id (BuiltIn built_in) = refl

abbrev marks_words : Context → Entry → List ℕ
marks_words context e = words_of_code (decorations_for context e.symbol e.id)

marks_all : (context : Context) (es : List Entry) → words_of_code (decorations_of context es) ≡ flat_map (marks_words context) es
marks_all context [] = refl
marks_all context (e ∷ es) =
    flat_map-append words_of_instr (decorations_for context e.symbol e.id) (decorations_of context es)
    ∙ ap (λ l. marks_words context e ++ l) (marks_all context es)

pub decorations_next : (context : Context) (entries : List Entry) (k : ℕ) (e : Entry) (marks : Marks) (before now after : List ℕ)
    → slice_get entries k ≡ Some e
    → marks ≡ (row_of context e.symbol).marks → now ≡ before ++ words_of_code (decorations_of context (take k entries)) → after ≡ now ++ words_of_code
    (decorations_by e.id marks)
    → after ≡ before ++ words_of_code (decorations_of context (take (k + 1) entries))
decorations_next context entries k e marks before now after h m p q =
    each_next (marks_words context) entries k e before now after h (p ∙ ap (λ l. before ++ l) (marks_all context (take k entries)))
    (q ∙ ap (λ z. now ++ words_of_code (decorations_by e.id z)) m)
    ∙ ap (λ l. before ++ l) (sym (marks_all context (take (k + 1) entries)))

pub decorations_room : (context : Context) (entries : List Entry) (k capacity : ℕ) (e : Entry) (marks : Marks) (before now : List ℕ)
    → slice_get entries k ≡ Some e
    → marks ≡ (row_of context e.symbol).marks → now ≡ before ++ words_of_code (decorations_of context (take k entries))
    → length before + length (words_of_code (decorations_of context entries)) ≤ capacity → length now + words_of_marks marks ≤ capacity
decorations_room context entries k capacity e marks before now h m p le =
    let r = each_room (marks_words context) entries k e h in
    let a = ap length p in
    let b = length-append before (words_of_code (decorations_of context (take k entries))) in
    let c = ap length (marks_all context (take k entries)) in
    let d = ap length (marks_all context entries) in
    let f = marks_length e.id (row_of context e.symbol).marks in
    let g = ap words_of_marks m in
    omega (arith, r, a, b, c, d, f, g, le)

pub decorations_whole : (context : Context) (entries : List Entry) (k : ℕ) (before now : List ℕ) → length entries ≤ k
    → now ≡ before ++ words_of_code (decorations_of context (take k entries)) → now ≡ before ++ words_of_code (decorations_of context entries)
decorations_whole context entries k before now le p = p ∙ ap (λ l. before ++ words_of_code (decorations_of context l)) (take_all entries k le)
