-- The decorations of a symbol's id in a module are those of its row.
use Rattle.std.proofs.Common.{◌≡◌, ℕ, zero, suc, ⊎_elim, inl, inr, Bool, true, false, List, [], ◌∷◌, ◌++◌, map, Some, None, refl, sym, ap, ◌∙◌, subst, arith}
use Rattle.std.specs.Prelude.{◌≢◌, slice_get, ◌&&◌, nat_eq, cond, find, Option}
use Rattle.std.specs.List.{list_all}
use Rattle.std.proofs.lemmas.Bool.{and_parts}
use Rattle.std.proofs.lemmas.Bool.Decides.{eqb_tells}
use Rattle.word_base.specs.declared.event.Room.TheVariants.{Shared}
use Rattle.spirv_words.specs.Operations.{OpCapability, OpDecorate, OpMemberDecorate, OpFunctionEnd}
use Rattle.spirv_words.specs.Text.{Instr, instruction, is_op}
use Rattle.spirv_words.specs.Globals.{decorates, decorates_member}
use Rattle.spirv_words.specs.Sections as sections
use Rattle.spirv_symbols.specs.declared.symbol.Access.TheVariants.{Plain, ReadOnly, Coherent}
use Rattle.spirv_symbols.specs.declared.symbol.Section.TheVariants.{Imports, Types, Declarations, Heads, Labels, Locals}
use Rattle.spirv_symbols.specs.declared.symbol.Symbol.{Symbol}
use Rattle.spirv_symbols.specs.declared.symbol.Symbol.TheVariants.{AType, Memory}
use Rattle.spirv_symbols.specs.declared.symbol.TypeSymbol.{TypeSymbol}
use Rattle.spirv_symbols.specs.declared.symbol.TypeSymbol.TheVariants.{Void}
use Rattle.spirv_symbols.specs.declared.row.Marks.{Marks}
use Rattle.spirv_symbols.specs.declared.row.Marks.TheVariants.{Nothing, Stride, Block, Bound, BuiltIn}
use Rattle.spirv_symbols.specs.declared.numbered.Numbered.{Numbered}
use Rattle.spirv_symbols.specs.Contexts.{Context}
use Rattle.spirv_symbols.specs.Rows.{row_of, instr_for, decorations_by, decorations_for}
use Rattle.spirv_symbols.specs.Tables.{Entry, entry, Has, IsTable, id_of, instr_of}
use Rattle.spirv_symbols.specs.Sections.{part_of, code_of, section_code, decorations_of}
use Rattle.spirv_symbols.specs.Orders.{Among, entry_for}
use Rattle.spirv_symbols.specs.Modules.{Kind, models, declarations, front, function, module_code}
use Rattle.spirv_symbols.proofs.Ids.{place_of}
use Rattle.spirv_symbols.proofs.Lookups.{find_stop, find_skip, find_append, find_none}

-- A TEST OF DECORATIONS of one id
pub record Aims (x : ℕ) (test : Instr → Bool) : Type 0 where
  pub others : (own : ℕ) (marks : Marks) → nat_eq own x ≡ false → find test (decorations_by own marks) ≡ None
  pub only : (i : Instr) → is_op OpDecorate i ≡ false → is_op OpMemberDecorate i ≡ false → test i ≡ false

and_false : (b d : Bool) → b ≡ false → (b && d) ≡ false
and_false true d e = absurd (cc e)
and_false false d e = refl

other : (x kind own : ℕ) (marks : Marks) → nat_eq own x ≡ false → find (decorates x kind) (decorations_by own marks) ≡ None
other x kind own Nothing e = refl
other x kind own (Stride bytes) e = ap (λ b. cond (b && nat_eq 6 kind) (Some (instruction OpDecorate (own ∷ 6 ∷ bytes ∷ []))) None) e
other x kind own (Block Plain) e = ap (λ b. cond (b && nat_eq 2 kind) (Some (instruction OpDecorate (own ∷ 2 ∷ []))) None) e
other x kind own (Block ReadOnly) e = ap (λ b. cond (b && nat_eq 2 kind) (Some (instruction OpDecorate (own ∷ 2 ∷ []))) None) e
other x kind own (Block Coherent) e = ap (λ b. cond (b && nat_eq 2 kind) (Some (instruction OpDecorate (own ∷ 2 ∷ []))) None) e
other x kind own (Bound set binding) e =
    ap (λ b. cond (b && nat_eq 34 kind) (Some (instruction OpDecorate (own ∷ 34 ∷ set ∷ [])))
    (cond (b && nat_eq 33 kind) (Some (instruction OpDecorate (own ∷ 33 ∷ binding ∷ []))) None)) e
other x kind own (BuiltIn built_in) e = ap (λ b. cond (b && nat_eq 11 kind) (Some (instruction OpDecorate (own ∷ 11 ∷ built_in ∷ []))) None) e

pub aims : (x kind : ℕ) → Aims x (decorates x kind)
aims x kind = record { others = other x kind; only = λ i d m. and_false (is_op OpDecorate i) _ d }

abbrev member : ℕ → List ℕ → Instr
member own literals = instruction OpMemberDecorate (own ∷ 0 ∷ literals)

other_member : (x kind own : ℕ) (marks : Marks) → nat_eq own x ≡ false → find (decorates_member x 0 kind) (decorations_by own marks) ≡ None
other_member x kind own Nothing e = refl
other_member x kind own (Stride bytes) e = refl
other_member x kind own (Block Plain) e = ap (λ b. cond (b && nat_eq 35 kind) (Some (member own (35 ∷ 0 ∷ []))) None) e
other_member x kind own (Block ReadOnly) e =
    ap (λ b. cond (b && nat_eq 35 kind) (Some (member own (35 ∷ 0 ∷ []))) (cond (b && nat_eq 24 kind) (Some (member own (24 ∷ []))) None)) e
other_member x kind own (Block Coherent) e =
    ap (λ b. cond (b && nat_eq 35 kind) (Some (member own (35 ∷ 0 ∷ []))) (cond (b && nat_eq 23 kind) (Some (member own (23 ∷ []))) None)) e
other_member x kind own (Bound set binding) e = refl
other_member x kind own (BuiltIn built_in) e = refl

pub aims_member : (x kind : ℕ) → Aims x (decorates_member x 0 kind)
aims_member x kind = record { others = other_member x kind; only = λ i d m. and_false (is_op OpMemberDecorate i) _ m }

-- NO OTHER INSTRUCTION decorates
no_type : (c : Context) (ids : Symbol → ℕ) (t : TypeSymbol) (own : ℕ)
    → (is_op OpDecorate (instr_for c ids (AType t) own) ≡ false) × (is_op OpMemberDecorate (instr_for c ids (AType t) own) ≡ false)
no_type c ids Void own = (refl, refl)
no_type c ids t own = (refl, refl)

pub no_decoration : (c : Context) (ids : Symbol → ℕ) (s : Symbol) (own : ℕ)
    → (is_op OpDecorate (instr_for c ids s own) ≡ false) × (is_op OpMemberDecorate (instr_for c ids s own) ≡ false)
no_decoration c ids (AType t) own = no_type c ids t own
no_decoration c ids (Memory (Shared slot)) own = (refl, refl)
no_decoration c ids (Memory room) own = (refl, refl)
no_decoration c ids s own = (refl, refl)

abbrev pub is_in_body : Instr → Bool
is_in_body i = sections.is_body (sections.section_of i)

-- an instruction of a body is of no such number
pub other_number : (n : ℕ) → ((os : List ℕ) → is_in_body (record { op = n; operands = os }) ≡ false) → (i : Instr) → is_in_body i ≡ true
    → nat_eq i.op n ≡ false
other_number n f i b =
    ⊎_elim (λ e. absurd (cc (b, ap (λ m. is_in_body (record { op = m; operands = i.operands })) e.1, f i.operands))) (λ e. e.0) (eqb_tells i.op n)

pub body_plain : (i : Instr) → is_in_body i ≡ true → (is_op OpDecorate i ≡ false) × (is_op OpMemberDecorate i ≡ false)
body_plain i b = (other_number 71 (λ os. refl) i b, other_number 72 (λ os. refl) i b)

module _ (c : Context) (kind : Kind) (entries : List Entry) (next : ℕ) (t : IsTable c entries next) (cs : List Numbered) (body : List Instr)
    (x : ℕ) (test : Instr → Bool) (a : Aims x test) where
  code_fails : (es : List Entry) → find test (code_of c entries es) ≡ None
  code_fails [] = refl
  code_fails (e ∷ es) =
      let n = no_decoration c (id_of entries) e.symbol e.id in
      ap (λ b. cond b (Some (instr_of c entries e)) (find test (code_of c entries es))) (a.only (instr_of c entries e) n.0 n.1) ∙ code_fails es

  body_fails : (code : List Instr) → list_all is_in_body code ≡ true → find test code ≡ None
  body_fails [] h = refl
  body_fails (i ∷ is) h =
      let p = and_parts (is_in_body i) (list_all is_in_body is) h in
      let n = body_plain i p.0 in
      ap (λ b. cond b (Some i) (find test is)) (a.only i n.0 n.1) ∙ body_fails is p.1

  models_fail : find test (models kind entries) ≡ None
  models_fail = find_none test (models kind entries) fails where
    fails : (i : Instr) → Among (models kind entries) i → test i ≡ false
    fails i (inl e) = subst (λ (j : Instr). test j ≡ false) e (a.only _ refl refl)
    fails i (inr (inl e)) = subst (λ (j : Instr). test j ≡ false) e (a.only _ refl refl)
    fails i (inr (inr (inl e))) = subst (λ (j : Instr). test j ≡ false) e (a.only _ refl refl)
    fails i (inr (inr (inr h))) = absurd h

  -- of other entries, and of the one
  others_fail : (es : List Entry) → ((k : ℕ) (e : Entry) → slice_get es k ≡ Some e → e.id ≢ x) → find test (decorations_of c es) ≡ None
  others_fail [] h = refl
  others_fail (e ∷ es) h =
      find_append test (decorations_for c e.symbol e.id) (decorations_of c es)
      (a.others e.id (row_of c e.symbol).marks (⊎_elim (λ d. absurd (h 0 e refl d.1)) (λ d. d.0) (eqb_tells e.id x)))
      (others_fail es (λ k f i. h (suc k) f i))

  is_last : (m n : List Instr) → find test n ≡ None → find test (m ++ n) ≡ find test m
  is_last m n h = by (find test m) refl where
    by : (o : Option Instr) → find test m ≡ o → find test (m ++ n) ≡ find test m
    by None e = find_skip test m n e ∙ h ∙ sym e
    by (Some i) e = find_stop test m n i e ∙ sym e

  one_found : (es : List Entry) (k : ℕ) (e : Entry) → slice_get es k ≡ Some e → e.id ≡ x
      → ((j k : ℕ) (f g : Entry) → slice_get es j ≡ Some f → slice_get es k ≡ Some g → f.id ≡ g.id → j ≡ k)
      → find test (decorations_of c es) ≡ find test (decorations_for c e.symbol e.id)
  one_found [] k e h d u = absurd (cc h)
  one_found (f ∷ fs) zero e h d u =
      let q : f ≡ e = cc h in
      is_last (decorations_for c f.symbol f.id) (decorations_of c fs)
      (others_fail fs (λ j g i p. let z = u 0 (suc j) f g refl i (ap (λ (g : Entry). g.id) q ∙ d ∙ sym p) in omega (arith, z)))
      ∙ ap (λ (g : Entry). find test (decorations_for c g.symbol g.id)) q
  one_found (f ∷ fs) (suc k) e h d u =
      find_skip test (decorations_for c f.symbol f.id) (decorations_of c fs)
      (a.others f.id (row_of c f.symbol).marks (⊎_elim (λ p. let z = u 0 (suc k) f e refl h (p.1 ∙ sym d) in absurd (omega (arith, z))) (λ p. p.0)
      (eqb_tells f.id x)))
      ∙ one_found fs k e h d (λ i j g g' y z p. let w = u (suc i) (suc j) g g' y z p in omega (arith, w))

  function_fails : list_all is_in_body body ≡ true → find test (function c entries body) ≡ None
  function_fails b =
      find_append test (section_code c Heads entries)
      (section_code c Labels entries ++ (section_code c Locals entries ++ (body ++ instruction OpFunctionEnd [] ∷ [])))
      (code_fails (part_of c Heads entries))
      (find_append test (section_code c Labels entries) (section_code c Locals entries ++ (body ++ instruction OpFunctionEnd [] ∷ []))
      (code_fails (part_of c Labels entries))
      (find_append test (section_code c Locals entries) (body ++ instruction OpFunctionEnd [] ∷ []) (code_fails (part_of c Locals entries))
      (find_append test body (instruction OpFunctionEnd [] ∷ []) (body_fails body b) (ap (λ b. cond b (Some (instruction OpFunctionEnd [])) None)
      (a.only (instruction OpFunctionEnd []) refl refl)))))

  declarations_fail : find test (declarations c entries cs) ≡ None
  declarations_fail =
      find_append test (section_code c Types entries) (code_of c entries (map entry_for cs) ++ section_code c Declarations entries)
      (code_fails (part_of c Types entries))
      (find_append test (code_of c entries (map entry_for cs)) (section_code c Declarations entries) (code_fails (map entry_for cs))
      (code_fails (part_of c Declarations entries)))

  front_found : find test (front c kind entries cs) ≡ find test (decorations_of c entries)
  front_found =
      ap (λ b. cond b (Some (instruction OpCapability (1 ∷ [])))
      (find test (section_code c Imports entries ++ (models kind entries ++ (decorations_of c entries ++ declarations c entries cs)))))
      (a.only (instruction OpCapability (1 ∷ [])) refl refl)
      ∙ find_skip test (section_code c Imports entries) (models kind entries ++ (decorations_of c entries ++ declarations c entries cs))
      (code_fails (part_of c Imports entries))
      ∙ find_skip test (models kind entries) (decorations_of c entries ++ declarations c entries cs) models_fail
      ∙ is_last (decorations_of c entries) (declarations c entries cs) declarations_fail

  -- in the whole module
  pub decorated_as : (s : Symbol) → Has entries s x → list_all is_in_body body ≡ true
      → find test (module_code c kind entries cs body) ≡ find test (decorations_for c s x)
  decorated_as s h b =
      is_last (front c kind entries cs) (function c entries body) (function_fails b)
      ∙ front_found
      ∙ one_found entries h.0 (entry s x) h.1 refl (λ j k f g y z p. place_of c entries next j k f g t y z p)
