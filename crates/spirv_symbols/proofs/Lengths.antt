-- The words of a module: those of its symbols, those of its body, and a few beside them.
use Rattle.std.proofs.Common.{◌≡◌, ℕ, ◌+◌, ◌*◌, ◌<◌, ◌≤◌, inl, inr, Bool, true, false, List, [], ◌∷◌, ◌++◌, map, refl, sym, ap, ◌∙◌, subst, arith}
use Rattle.std.specs.Prelude.{◌≢◌, length, cond, nat_eq}
use Rattle.std.proofs.lemmas.List.{length-append, length-map, append_assoc}
use Rattle.word_base.specs.declared.event.Room.TheVariants.{Shared}
use Rattle.spirv_words.specs.Text.{Instr, words_of_code, words_of_instr}
use Rattle.spirv_words.specs.Operations.{OpFunctionEnd}
use Rattle.spirv_words.specs.Text.{instruction}
use Rattle.spirv_symbols.specs.declared.symbol.Access.TheVariants.{Plain, ReadOnly, Coherent}
use Rattle.spirv_symbols.specs.declared.symbol.Section.{Section}
use Rattle.spirv_symbols.specs.declared.symbol.Section.TheVariants.{Imports, Types, Constants, Declarations, Heads, Labels, Locals}
use Rattle.spirv_symbols.specs.declared.symbol.Symbol.{Symbol}
use Rattle.spirv_symbols.specs.declared.symbol.Symbol.TheVariants.{AType, Constant, Memory}
use Rattle.spirv_symbols.specs.declared.symbol.TypeSymbol.{TypeSymbol}
use Rattle.spirv_symbols.specs.declared.symbol.TypeSymbol.TheVariants.{Word}
use Rattle.spirv_symbols.specs.declared.row.Marks.{Marks}
use Rattle.spirv_symbols.specs.declared.row.Marks.TheVariants.{Nothing, Stride, Block, Bound, BuiltIn}
use Rattle.spirv_symbols.specs.declared.numbered.Numbered.{Numbered}
use Rattle.spirv_symbols.specs.Contexts.{Context}
use Rattle.spirv_symbols.specs.Rows.{row_of, section_of, section_of_type, type_row, operand, decorations_by, decorations_for, words_of_marks}
use Rattle.spirv_symbols.specs.Tables.{Table, Entry, IsTable, Stands, id_of, weight}
use Rattle.spirv_symbols.specs.Sections.{order, in_section, part_of, code_of, section_code, decorations_of}
use Rattle.spirv_symbols.specs.Orders.{Among, Each, Differ, Ascends, words_of_all, constant_in, constants_of, entry_for, Sorts}
use Rattle.spirv_symbols.specs.Modules.{Kind, IsReady, interface, models, declarations, front, function, module_code}
use Rattle.spirv_symbols.specs.ModuleWords.{head}
use Rattle.spirv_symbols.proofs.Gathers.{differ}
use Rattle.spirv_symbols.proofs.Members.{each_at}

abbrev long : List Instr → ℕ
long [] = 0
long (i ∷ is) = length i.operands + 1 + long is

long_append : (a b : List Instr) → long (a ++ b) ≡ long a + long b
long_append [] b = omega arith
long_append (i ∷ a) b = omega (arith, long_append a b)

words_long : (is : List Instr) → length (words_of_code is) ≡ long is
words_long [] = refl
words_long (i ∷ is) = omega (arith, length-append i.operands (words_of_code is), words_long is)

marks_long : (own : ℕ) (marks : Marks) → long (decorations_by own marks) ≡ words_of_marks marks
marks_long own Nothing = refl
marks_long own (Stride bytes) = refl
marks_long own (Block Plain) = refl
marks_long own (Block ReadOnly) = refl
marks_long own (Block Coherent) = refl
marks_long own (Bound set binding) = refl
marks_long own (BuiltIn built_in) = refl

-- each symbol stands in one section
share_by : (s : Section) (n : ℕ)
    → cond (nat_eq (order s) 0) n 0 + (cond (nat_eq (order s) 1) n 0 + (cond (nat_eq (order s) 2) n 0 + (cond (nat_eq (order s) 3) n 0
    + (cond (nat_eq (order s) 4) n 0 + (cond (nat_eq (order s) 5) n 0 + cond (nat_eq (order s) 6) n 0))))) ≡ n
share_by Imports n = omega arith
share_by Types n = omega arith
share_by Constants n = omega arith
share_by Declarations n = omega arith
share_by Heads n = omega arith
share_by Labels n = omega arith
share_by Locals n = omega arith

module _ (c : Context) (es : List Entry) where
  abbrev own_words : Entry → ℕ
  own_words e = length (row_of c e.symbol).parts + 1

  abbrev share : Section → Entry → ℕ
  share section e = cond (in_section c section e) (own_words e) 0

  abbrev here : Section → List Entry → ℕ
  here section fs = long (code_of c es (part_of c section fs))

  here_step : (section : Section) (e : Entry) (fs : List Entry) → here section (e ∷ fs) ≡ share section e + here section fs
  here_step section e fs = by (in_section c section e) where
    by : (b : Bool) → long (code_of c es (cond b (e ∷ part_of c section fs) (part_of c section fs))) ≡ cond b (own_words e) 0 + here section fs
    by true = ap (λ n. n + 1 + here section fs) (length-map (row_of c e.symbol).parts (operand (id_of es) e.id))
    by false = omega arith

  shares : (e : Entry)
      → share Imports e + (share Types e + (share Constants e + (share Declarations e + (share Heads e + (share Labels e + share Locals e))))) ≡
      own_words e
  shares e = share_by (section_of c e.symbol) (own_words e)

  abbrev marks_here : List Entry → ℕ
  marks_here fs = long (decorations_of c fs)

  marks_step : (e : Entry) (fs : List Entry) → marks_here (e ∷ fs) ≡ words_of_marks (row_of c e.symbol).marks + marks_here fs
  marks_step e fs =
      long_append (decorations_for c e.symbol e.id) (decorations_of c fs) ∙ ap (λ n. n + marks_here fs) (marks_long e.id (row_of c e.symbol).marks)

  all_here : (fs : List Entry)
      → here Imports fs + (here Types fs + (here Constants fs + (here Declarations fs + (here Heads fs + (here Labels fs + here Locals fs))))) +
      marks_here fs ≡ weight c fs
  all_here [] = refl
  all_here (e ∷ fs) =
      omega (
        arith,
        all_here fs,
        shares e,
        marks_step e fs,
        here_step Imports e fs,
        here_step Types e fs,
        here_step Constants e fs,
        here_step Declarations e fs,
        here_step Heads e fs,
        here_step Labels e fs,
        here_step Locals e fs,
      )

  -- what is written for a section, or as decorations, has at most the words of all symbols
  pub section_short : (section : Section) → length (words_of_code (section_code c section es)) ≤ weight c es
  section_short Imports = omega (arith, all_here es, words_long (section_code c Imports es))
  section_short Types = omega (arith, all_here es, words_long (section_code c Types es))
  section_short Constants = omega (arith, all_here es, words_long (section_code c Constants es))
  section_short Declarations = omega (arith, all_here es, words_long (section_code c Declarations es))
  section_short Heads = omega (arith, all_here es, words_long (section_code c Heads es))
  section_short Labels = omega (arith, all_here es, words_long (section_code c Labels es))
  section_short Locals = omega (arith, all_here es, words_long (section_code c Locals es))

  pub decorations_short : length (words_of_code (decorations_of c es)) ≤ weight c es
  decorations_short = omega (arith, all_here es, words_long (decorations_of c es))

  -- constants have four words each
  type_share : (t : TypeSymbol) → cond (nat_eq (order (section_of_type t)) 2) (length (type_row t).parts + 1) 0 ≡ 0
  type_share Word = refl
  type_share t = refl

  constant_share : (s : Symbol) (x : ℕ) → cond (nat_eq (order (section_of c s)) 2) (length (row_of c s).parts + 1) 0 ≡ 4 * length (constant_in s x)
  constant_share (AType t) x = omega (arith, type_share t)
  constant_share (Memory (Shared slot)) x = omega arith
  constant_share (Constant w) x = refl
  constant_share s x = omega arith

  four_each : (fs : List Entry) → here Constants fs ≡ 4 * length (constants_of fs)
  four_each [] = refl
  four_each (e ∷ fs) =
      omega (arith, four_each fs, here_step Constants e fs, constant_share e.symbol e.id, length-append (constant_in e.symbol e.id) (constants_of fs))

  four_sorted : (cs : List Numbered) → long (code_of c es (map entry_for cs)) ≡ 4 * length cs
  four_sorted [] = refl
  four_sorted (p ∷ cs) = omega (arith, four_sorted cs)

pub constants_words : (c : Context) (es : List Entry) (cs : List Numbered) → length (words_of_code (code_of c es (map entry_for cs))) ≡ 4 * length cs
constants_words c es cs = words_long (code_of c es (map entry_for cs)) ∙ four_sorted c es cs

pub front_long : (c : Context) (kind : Kind) (es : List Entry) (cs : List Numbered)
    → length (words_of_code (front c kind es cs)) ≡ 2 + length (words_of_code (section_code c Imports es)) + length (words_of_code (models kind es)) +
    length (words_of_code (decorations_of c es))
    + length (words_of_code (section_code c Types es)) + 4 * length cs + length (words_of_code (section_code c Declarations es))
front_long c kind es cs =
    omega (
      arith,
      words_long (front c kind es cs),
      words_long (section_code c Imports es),
      words_long (models kind es),
      words_long
          (decorations_of c es),
      words_long (section_code c Types es),
      words_long (section_code c Declarations es),
      four_sorted c es cs,
      long_append (section_code c Imports es) (models kind es ++ (decorations_of c es ++ declarations c es cs)),
      long_append (models kind es) (decorations_of c es ++ declarations c es cs),
      long_append (decorations_of c es) (declarations c es cs),
      long_append (section_code c Types es) (code_of c es (map entry_for cs) ++ section_code c Declarations es),
      long_append (code_of c es (map entry_for cs)) (section_code c Declarations es),
    )

words_append : (a b : List Instr) → words_of_code (a ++ b) ≡ words_of_code a ++ words_of_code b
words_append [] b = refl
words_append (i ∷ a) b = ap (λ l. words_of_instr i ++ l) (words_append a b) ∙ sym (append_assoc (words_of_instr i) (words_of_code a)
    (words_of_code b))

-- the words of a module, piece by piece
pub module_words : (c : Context) (kind : Kind) (es : List Entry) (cs : List Numbered) (body : List Instr)
    → words_of_code (module_code c kind es cs body)
    ≡ words_of_code (front c kind es cs) ++ (words_of_code (head c es) ++ (words_of_code body ++ words_of_instr (instruction OpFunctionEnd [])))
module_words c kind es cs body =
    let ends = body ++ instruction OpFunctionEnd [] ∷ [] in
    let a = section_code c Heads es in
    let b = section_code c Labels es in
    let d = section_code c Locals es in
    let one : function c es body ≡ head c es ++ ends = ap (λ l. a ++ l) (sym (append_assoc b d ends)) ∙ sym (append_assoc a (b ++ d) ends) in
    words_append (front c kind es cs) (function c es body)
    ∙ ap (λ l. words_of_code (front c kind es cs) ++ l) (ap words_of_code one ∙ words_append (head c es) ends
    ∙ ap (λ l. words_of_code (head c es) ++ l) (words_append body (instruction OpFunctionEnd [] ∷ [])))

-- LISTS of the same elements, all different
record Around {X : Type 0} (xs : List X) (x : X) : Type 0 where
  pub front : List X
  pub back : List X
  pub list : xs ≡ front ++ x ∷ back

around : {X : Type 0} (xs : List X) (x : X) → Among xs x → Around xs x
around [] x h = absurd h
around (y ∷ ys) x (inl e) = record { front = []; back = ys; list = ap (λ z. z ∷ ys) e }
around (y ∷ ys) x (inr h) = let a = around ys x h in record { front = y ∷ a.front; back = a.back; list = ap (λ l. y ∷ l) a.list }

beside : {X : Type 0} (a b : List X) (x z : X) → Among (a ++ x ∷ b) z → z ≢ x → Among (a ++ b) z
beside [] b x z (inl e) d = absurd (d (sym e))
beside [] b x z (inr h) d = h
beside (y ∷ a) b x z (inl e) d = inl e
beside (y ∷ a) b x z (inr h) d = inr (beside a b x z h d)

no_more : (xs ys : List Numbered) → Differ xs → ((x : Numbered) → Among xs x → Among ys x) → length xs ≤ length ys
no_more [] ys d h = omega arith
no_more (x ∷ xs) ys d h =
    let a = around ys x (h x (inl refl)) in
    let k = no_more xs (a.front ++ a.back) d.1
    (λ z i. beside a.front a.back x z (subst (λ l. Among l z) a.list (h z (inr i)))
    (λ e. each_at (λ q. x.word ≢ q.word) xs z d.0 i (ap (λ (p : Numbered). p.word) (sym e)))) in
    omega (arith, k, ap length a.list, length-append a.front a.back, length-append a.front (x ∷ a.back))

each_word : (w : ℕ) (ps : List Numbered) → Each (λ v. w < v) (words_of_all ps) → Each (λ q. w ≢ q.word) ps
each_word w [] h = tt
each_word w (p ∷ ps) h = ((λ e. absurd (omega (arith, e, h.0))), each_word w ps h.1)

differ_sorted : (ps : List Numbered) → Ascends (words_of_all ps) → Differ ps
differ_sorted [] h = tt
differ_sorted (p ∷ ps) h = (each_word p.word ps h.0, differ_sorted ps h.1)

constants_long : (c : Context) (es : List Entry) (next : ℕ) (cs : List Numbered) → IsTable c es next → Sorts es cs → length cs ≡ length
    (constants_of es)
constants_long c es next cs tb h =
    let a = no_more cs (constants_of es) (differ_sorted cs h.ascends) h.same.back in
    let b = no_more (constants_of es) cs (differ es tb.single) h.same.there in
    omega (arith, a, b)

pub constants_short : (c : Context) (t : Table) (cs : List Numbered) → Stands c t → Sorts t.entries cs → 4 * length cs ≤ weight c t.entries
constants_short c t cs h s =
    omega (arith, constants_long c t.entries t.next cs h.table s, all_here c t.entries t.entries, four_each c t.entries t.entries)

pub module_long : (c : Context) (kind : Kind) (t : Table) (cs : List Numbered) (body : List Instr) → IsReady c t cs
    → length (words_of_code (module_code c kind t.entries cs body)) ≡ weight c t.entries + length (interface kind.version t.entries) + length
    (words_of_code body) + 17
module_long c kind t cs body r =
    let es = t.entries in
    let ends = body ++ instruction OpFunctionEnd [] ∷ [] in
    omega (
      arith,
      constants_long c es t.next cs r.stands.table r.sorted,
      words_long (module_code c kind es cs body),
      words_long body,
      all_here c es es,
      four_each c es es,
      four_sorted c es cs,
      long_append (front c kind es cs) (function c es body),
      long_append (section_code c Imports es) (models kind es ++ (decorations_of c es ++ declarations c es cs)),
      long_append (models kind es) (decorations_of c es ++ declarations c es cs),
      long_append (decorations_of c es) (declarations c es cs),
      long_append (section_code c Types es) (code_of c es (map entry_for cs) ++ section_code c Declarations es),
      long_append (code_of c es (map entry_for cs)) (section_code c Declarations es),
      long_append (section_code c Heads es) (section_code c Labels es ++ (section_code c Locals es ++ ends)),
      long_append (section_code c Labels es) (section_code c Locals es ++ ends),
      long_append (section_code c Locals es) ends,
      long_append body (instruction OpFunctionEnd [] ∷ []),
    )
