-- A whole module has single definitions.
use Rattle.std.proofs.Common.{◌≡◌, ℕ, ◌+◌, ◌<◌, ◌≤◌, inl, inr, Bool, true, false, List, [], ◌∷◌, ◌++◌, map, refl, sym, ap, ◌∙◌, subst, arith, append_assoc}
use Rattle.std.specs.Prelude.{◌&&◌, nat_lt, filter}
use Rattle.std.specs.List.{list_all}
use Rattle.std.proofs.lemmas.List.{map-append}
use Rattle.std.proofs.lemmas.List.Folds.{list_all-append}
use Rattle.std.proofs.lemmas.Bool.{and_from}
use Rattle.std.proofs.lemmas.Bool.Decides.{nat_tests}
use Rattle.spirv_words.specs.Operations.{OpFunctionEnd}
use Rattle.spirv_words.specs.Text.{Instr, instruction}
use Rattle.spirv_words.specs.Ids.{Ids, ids_of, contains}
use Rattle.spirv_words.specs.Sections.{listed_classes}
use Rattle.spirv_words.specs.Definitions.{results, are_distinct, is_id, uses_follow, names_are_among, has_single_definitions}
use Rattle.spirv_symbols.specs.declared.symbol.Access.TheVariants.{Plain, ReadOnly, Coherent}
use Rattle.spirv_symbols.specs.declared.symbol.Section.{Section}
use Rattle.spirv_symbols.specs.declared.symbol.Section.TheVariants.{Imports, Types, Constants, Declarations, Heads, Labels, Locals}
use Rattle.spirv_symbols.specs.declared.symbol.Symbol.{Symbol}
use Rattle.spirv_symbols.specs.declared.symbol.Symbol.TheVariants.{Main}
use Rattle.spirv_symbols.specs.declared.row.Marks.{Marks}
use Rattle.spirv_symbols.specs.declared.row.Marks.TheVariants.{Nothing, Stride, Block, Bound, BuiltIn}
use Rattle.spirv_symbols.specs.declared.numbered.Numbered.{Numbered}
use Rattle.spirv_symbols.specs.Contexts.{Context}
use Rattle.spirv_symbols.specs.Rows.{row_of, section_of, decorations_by}
use Rattle.spirv_symbols.specs.Tables.{Table, Entry, entry, Has, id_of}
use Rattle.spirv_symbols.specs.Sections.{order, in_section, part_of, code_of, section_code, decorations_of}
use Rattle.spirv_symbols.specs.Orders.{Among, Each, entry_for}
use Rattle.spirv_symbols.specs.Modules.{Kind, IsReady, HasIds, models, declarations, front, function, module_code, interface, is_global}
use Rattle.spirv_symbols.proofs.Members.{among_left, among_right, among_kept, among_filter, among_get, get_among, each_at}
use Rattle.spirv_symbols.proofs.EntriesLaws.{append_none}
use Rattle.spirv_symbols.proofs.EachSymbol.{ids_here}
use Rattle.spirv_symbols.proofs.Ids.{found_id}
use Rattle.spirv_symbols.proofs.Lookups.{constant_among, equal_tells}
use Rattle.spirv_symbols.proofs.Interfaces.{ids_apart}
use Rattle.spirv_symbols.proofs.FormAll.{whole_passes}
use Rattle.spirv_symbols.proofs.FormSingle.{ids_in, results_append, code_results, decorations_results, written, segments, distinct_append, id_contained, in_left, in_right, behind, follow_append, still_seen, decorations_follow, section_follows, section_low, constants_follow, constants_low}

results_code : (c : Context) (entries es : List Entry) (b : List Instr) → results (code_of c entries es ++ b) ≡ ids_in es ++ results b
results_code c entries es b = results_append (code_of c entries es) b ∙ ap (λ l. l ++ results b) (code_results c entries es)

ids_join : (es fs : List Entry) (r : List ℕ) → ids_in (es ++ fs) ++ r ≡ ids_in es ++ (ids_in fs ++ r)
ids_join es fs r = ap (λ l. l ++ r) (map-append (λ (e : Entry). e.id) es fs) ∙ append_assoc (ids_in es) (ids_in fs) r

module _ (c : Context) (kind : Kind) (t : Table) (cs : List Numbered) (r : IsReady c t cs) (bound : ℕ) (body : List Instr) (h : HasIds t bound body)
  where
    abbrev es : List Entry
    es = t.entries

    abbrev part : Section → List Entry
    part section = part_of c section es

    abbrev ends : List Instr
    ends = body ++ instruction OpFunctionEnd [] ∷ []

    abbrev all : List Entry
    all = written c es t.next r.stands.table cs r.sorted

    abbrev code : List Instr
    code = module_code c kind es cs body

    -- RESULTS
    ends_results : results ends ≡ results body
    ends_results = results_append body (instruction OpFunctionEnd [] ∷ []) ∙ append_none (results body)

    function_results : results (function c es body) ≡ ids_in (part Heads) ++ (ids_in (part Labels) ++ (ids_in (part Locals) ++ results body))
    function_results =
        results_code c es (part Heads) (section_code c Labels es ++ (section_code c Locals es ++ ends))
        ∙ ap (λ l. ids_in (part Heads) ++ l) (results_code c es (part Labels) (section_code c Locals es ++ ends)
        ∙ ap (λ l. ids_in (part Labels) ++ l) (results_code c es (part Locals) ends ∙ ap (λ l. ids_in (part Locals) ++ l) ends_results))

    behind_front : (rest : List Instr) → results (front c kind es cs ++ rest)
        ≡ ids_in (part Imports) ++ (ids_in (part Types) ++ (ids_in (map entry_for cs) ++ (ids_in (part Declarations) ++ results rest)))
    behind_front rest =
        ap results (append_assoc (section_code c Imports es) (models kind es ++ (decorations_of c es ++ declarations c es cs)) rest)
        ∙ results_code c es (part Imports) ((models kind es ++ (decorations_of c es ++ declarations c es cs)) ++ rest)
        ∙ ap (λ l. ids_in (part Imports) ++ l)
        (ap results (append_assoc (models kind es) (decorations_of c es ++ declarations c es cs) rest)
        ∙ results_append (models kind es) ((decorations_of c es ++ declarations c es cs) ++ rest)
        ∙ ap results (append_assoc (decorations_of c es) (declarations c es cs) rest)
        ∙ results_append (decorations_of c es) (declarations c es cs ++ rest)
        ∙ ap (λ l. l ++ results (declarations c es cs ++ rest)) (decorations_results c es)
        ∙ ap results (append_assoc (section_code c Types es) (code_of c es (map entry_for cs) ++ section_code c Declarations es) rest)
        ∙ results_code c es (part Types) ((code_of c es (map entry_for cs) ++ section_code c Declarations es) ++ rest)
        ∙ ap (λ l. ids_in (part Types) ++ l)
        (ap results (append_assoc (code_of c es (map entry_for cs)) (section_code c Declarations es) rest)
        ∙ results_code c es (map entry_for cs) (section_code c Declarations es ++ rest)
        ∙ ap (λ l. ids_in (map entry_for cs) ++ l) (results_code c es (part Declarations) rest)))

    joined : ids_in all ++ results body ≡ ids_in (part Imports) ++ (ids_in (part Types) ++ (ids_in (map entry_for cs) ++ (ids_in (part Declarations)
        ++ (ids_in (part Heads) ++ (ids_in (part Labels) ++ (ids_in (part Locals) ++ results body))))))
    joined =
        ids_join (part Imports) _ (results body) ∙ ap (λ l. ids_in (part Imports) ++ l) (ids_join (part Types) _ (results body)
        ∙ ap (λ l. ids_in (part Types) ++ l) (ids_join (map entry_for cs) _ (results body)
        ∙ ap (λ l. ids_in (map entry_for cs) ++ l) (ids_join (part Declarations) _ (results body)
        ∙ ap (λ l. ids_in (part Declarations) ++ l) (ids_join (part Heads) _ (results body)
        ∙ ap (λ l. ids_in (part Heads) ++ l) (ids_join (part Labels) (part Locals) (results body))))))

    pub results_are : results code ≡ ids_in all ++ results body
    results_are =
        behind_front (function c es body)
        ∙ ap (λ l. ids_in (part Imports) ++ (ids_in (part Types) ++ (ids_in (map entry_for cs) ++ (ids_in (part Declarations) ++ l)))) function_results
        ∙ sym joined

    -- all entries are written
    in_part : (section : Section) (s : Symbol) (x : ℕ) → Has es s x → order (section_of c s) ≡ order section → Among (part section) (entry s x)
    in_part section s x i d = among_kept (in_section c section) es (entry s x) (get_among es i.0 (entry s x) i.1)
        (equal_tells (order (section_of c s)) (order section) d)

    among_written : (section : Section) (s : Symbol) (x : ℕ) → Has es s x → order (section_of c s) ≡ order section → Among all (entry s x)
    among_written Imports s x i d = among_left (part Imports) _ (entry s x) (in_part Imports s x i d)
    among_written Types s x i d = among_right (part Imports) _ (entry s x) (among_left (part Types) _ (entry s x) (in_part Types s x i d))
    among_written Constants s x i d =
        among_right (part Imports) _ (entry s x) (among_right (part Types) _ (entry s x)
        (among_left (map entry_for cs) _ (entry s x) (constant_among c es t.next r.stands.table cs r.sorted s x i d)))
    among_written Declarations s x i d =
        among_right (part Imports) _ (entry s x) (among_right (part Types) _ (entry s x) (among_right (map entry_for cs) _ (entry s x)
        (among_left (part Declarations) _ (entry s x) (in_part Declarations s x i d))))
    among_written Heads s x i d =
        among_right (part Imports) _ (entry s x) (among_right (part Types) _ (entry s x) (among_right (map entry_for cs) _ (entry s x)
        (among_right (part Declarations) _ (entry s x) (among_left (part Heads) _ (entry s x) (in_part Heads s x i d)))))
    among_written Labels s x i d =
        among_right (part Imports) _ (entry s x) (among_right (part Types) _ (entry s x) (among_right (map entry_for cs) _ (entry s x)
        (among_right (part Declarations) _ (entry s x)
        (among_right (part Heads) _ (entry s x) (among_left (part Labels) (part Locals) (entry s x) (in_part Labels s x i d))))))
    among_written Locals s x i d =
        among_right (part Imports) _ (entry s x) (among_right (part Types) _ (entry s x) (among_right (map entry_for cs) _ (entry s x)
        (among_right (part Declarations) _ (entry s x)
        (among_right (part Heads) _ (entry s x) (among_right (part Labels) (part Locals) (entry s x) (in_part Locals s x i d))))))

    pub symbol_contained : (s : Symbol) (x : ℕ) → Has es s x → contains (results code) x ≡ true
    symbol_contained s x i =
        ap (λ l. contains l x) results_are ∙ in_left (ids_in all) (results body) x
        (id_contained all (entry s x) (among_written (section_of c s) s x i refl))

    -- DISTINCT, and below the bound
    distinct_all : are_distinct (results code) ≡ true
    distinct_all =
        ap are_distinct results_are
        ∙ distinct_append (ids_in all) (results body) (ids_apart all (segments c es t.next r.stands.table cs r.sorted).apart)
        (none all (λ e i. (each_at (λ e. Among es e × (0 ≤ order (section_of c e.symbol))) all e (segments c es t.next r.stands.table cs r.sorted).each
        i).0)) h.distinct where
          none : (fs : List Entry) → ((e : Entry) → Among fs e → Among es e) → Each (λ x. contains (results body) x ≡ false) (ids_in fs)
          none [] a = tt
          none (f ∷ fs) a = (let g = among_get es f (a f (inl refl)) in h.fresh f.symbol f.id (g.0, g.1), none fs (λ e i. a e (inr i)))

    ids_bound : (fs : List Entry) → ((e : Entry) → Among fs e → Among es e) → list_all (is_id bound) (ids_in fs) ≡ true
    ids_bound [] a = refl
    ids_bound (f ∷ fs) a =
        let g = among_get es f (a f (inl refl)) in
        let p : nat_lt 0 f.id ≡ true = grind (arith, nat_tests, r.stands.table.positive g.0 f g.1) in
        let q : nat_lt f.id bound ≡ true = let lt = r.stands.table.below g.0 f g.1 in grind (arith, nat_tests, lt, h.next) in
        and_from (is_id bound f.id) (list_all (is_id bound) (ids_in fs)) (and_from (nat_lt 0 f.id) (nat_lt f.id bound) p q)
        (ids_bound fs (λ e i. a e (inr i)))

    bounds_all : list_all (is_id bound) (results code) ≡ true
    bounds_all =
        ap (list_all (is_id bound)) results_are
        ∙ (list_all-append (is_id bound) (ids_in all) (results body)
        ∙ and_from (list_all (is_id bound) (ids_in all)) (list_all (is_id bound) (results body))
        (ids_bound all (λ e i. (each_at (λ e. Among es e × (0 ≤ order (section_of c e.symbol))) all e
        (segments c es t.next r.stands.table cs r.sorted).each i).0)) h.bounds)

    -- USES
    abbrev Low : ℕ → List ℕ → Type 0
    Low n seen = (u : Symbol) (y : ℕ) → Has es u y → order (section_of c u) < n → contains seen y ≡ true

    one_section : (n : ℕ) (section : Section) → order section ≡ n → (seen : List ℕ) (rest : List Instr) → Low n seen
        → ((seen : List ℕ) → Low (n + 1) seen → uses_follow seen rest ≡ true) → uses_follow seen (section_code c section es ++ rest) ≡ true
    one_section n section e seen rest low f =
        follow_append seen (section_code c section es) rest (section_follows c es t.next r.stands.table n section e seen low)
        (f (behind seen (section_code c section es)) (section_low c es t.next r.stands.table n section e seen low))

    seen_all : (seen : List ℕ) → Low 7 seen → (s : Symbol) (x : ℕ) → Has es s x → contains seen x ≡ true
    seen_all seen low s x i = low s x i (seven (section_of c s)) where
      seven : (section : Section) → order section < 7
      seven Imports = omega arith
      seven Types = omega arith
      seven Constants = omega arith
      seven Declarations = omega arith
      seven Heads = omega arith
      seven Labels = omega arith
      seven Locals = omega arith

    end_follows : (seen : List ℕ) → Low 7 seen → uses_follow seen ends ≡ true
    end_follows seen low = follow_append seen body (instruction OpFunctionEnd [] ∷ []) (h.uses seen (seen_all seen low)) refl

    function_follows : (seen : List ℕ) → Low 4 seen → uses_follow seen (function c es body) ≡ true
    function_follows seen low =
        one_section 4 Heads refl seen (section_code c Labels es ++ (section_code c Locals es ++ ends)) low
        (λ seen low. one_section 5 Labels refl seen (section_code c Locals es ++ ends) low
        (λ seen low. one_section 6 Locals refl seen ends low end_follows))

    declarations_follow : (seen : List ℕ) → Low 1 seen → uses_follow seen (declarations c es cs ++ function c es body) ≡ true
    declarations_follow seen low =
        subst (λ l. uses_follow seen l ≡ true)
        (sym (append_assoc (section_code c Types es) (code_of c es (map entry_for cs) ++ section_code c Declarations es) (function c es body)))
        (one_section 1 Types refl seen ((code_of c es (map entry_for cs) ++ section_code c Declarations es) ++ function c es body) low
        (λ seen low. subst (λ l. uses_follow seen l ≡ true)
        (sym (append_assoc (code_of c es (map entry_for cs)) (section_code c Declarations es) (function c es body)))
        (follow_append seen (code_of c es (map entry_for cs)) (section_code c Declarations es ++ function c es body)
        (constants_follow c es t.next r.stands.table cs r.sorted seen low)
        (one_section 3 Declarations refl (behind seen (code_of c es (map entry_for cs))) (function c es body)
        (constants_low c es t.next r.stands.table cs r.sorted seen low) function_follows))))

    decorated_follows : (seen : List ℕ) → Low 1 seen → uses_follow seen ((models kind es ++ (decorations_of c es ++ declarations c es cs)) ++ function c
        es body) ≡ true
    decorated_follows seen low =
        subst (λ l. uses_follow seen l ≡ true) (sym (append_assoc (models kind es) (decorations_of c es ++ declarations c es cs) (function c es body)))
        (follow_append seen (models kind es) ((decorations_of c es ++ declarations c es cs) ++ function c es body) refl
        (subst (λ l. uses_follow seen l ≡ true) (sym (append_assoc (decorations_of c es) (declarations c es cs) (function c es body)))
        (follow_append seen (decorations_of c es) (declarations c es cs ++ function c es body) (decorations_follow c seen es)
        (declarations_follow (behind seen (decorations_of c es)) (λ u y i lt. still_seen seen (decorations_of c es) y (low u y i lt))))))

    uses_all : uses_follow [] code ≡ true
    uses_all =
        subst (λ l. uses_follow [] l ≡ true)
        (sym (append_assoc (section_code c Imports es) (models kind es ++ (decorations_of c es ++ declarations c es cs)) (function c es body)))
        (one_section 0 Imports refl [] ((models kind es ++ (decorations_of c es ++ declarations c es cs)) ++ function c es body)
        (λ u y i lt. absurd (omega (arith, lt))) decorated_follows)

    -- NAMES
    abbrev named : Instr → Bool
    named i = list_all (contains (results code)) (ids_of i).names

    marks_named : (own : ℕ) (marks : Marks) → contains (results code) own ≡ true → list_all named (decorations_by own marks) ≡ true
    marks_named own Nothing e = refl
    marks_named own (Stride bytes) e = ap (λ b. (b && true) && true) e
    marks_named own (Block Plain) e = ap (λ b. (b && true) && ((b && true) && true)) e
    marks_named own (Block ReadOnly) e = ap (λ b. (b && true) && ((b && true) && ((b && true) && true))) e
    marks_named own (Block Coherent) e = ap (λ b. (b && true) && ((b && true) && ((b && true) && true))) e
    marks_named own (Bound set binding) e = ap (λ b. (b && true) && ((b && true) && true)) e
    marks_named own (BuiltIn built_in) e = ap (λ b. (b && true) && true) e

    entry_contained : (e : Entry) → Among es e → contains (results code) e.id ≡ true
    entry_contained e i = let g = among_get es e i in symbol_contained e.symbol e.id (g.0, g.1)

    listed_contained : (fs : List Entry) → ((e : Entry) → Among fs e → Among es e) → list_all (contains (results code)) (ids_in fs) ≡ true
    listed_contained [] a = refl
    listed_contained (f ∷ fs) a =
        and_from (contains (results code) f.id) (list_all (contains (results code)) (ids_in fs)) (entry_contained f (a f (inl refl)))
        (listed_contained fs (λ e i. a e (inr i)))

    main_contained : contains (results code) (id_of es Main) ≡ true
    main_contained = subst (λ x. contains (results code) x ≡ true) (sym (found_id c es t.next Main r.main r.stands.table r.has_main))
        (symbol_contained Main r.main r.has_main)

    models_named : list_all named (models kind es) ≡ true
    models_named =
        and_from (contains (results code) (id_of es Main) && list_all (contains (results code)) (interface kind.version es))
        ((contains (results code) (id_of es Main) && true) && true)
        (and_from (contains (results code) (id_of es Main)) (list_all (contains (results code)) (interface kind.version es)) main_contained
        (listed_contained (filter (is_global (listed_classes kind.version)) es)
        (λ e i. (among_filter (is_global (listed_classes kind.version)) es e i).0)))
        (ap (λ b. (b && true) && true) main_contained)

    names_all : names_are_among (results code) code ≡ true
    names_all =
        whole_passes c kind t cs r named
        (record {
          capability = refl;
          models' = models_named;
          marks = λ e i. marks_named e.id (row_of c e.symbol).marks (entry_contained e i);
          symbols = λ e i. ap (λ (j : Ids). list_all (contains (results code)) j.names) (ids_here c (id_of es) e.symbol e.id);
          closing = refl;
        }) body
        (h.names (results code) symbol_contained (λ x e. ap (λ l. contains l x) results_are ∙ in_right (ids_in all) (results body) x e))

    pub single_holds : has_single_definitions bound code ≡ true
    single_holds =
        and_from (are_distinct (results code) && list_all (is_id bound) (results code)) (uses_follow [] code && names_are_among (results code) code)
        (and_from (are_distinct (results code)) (list_all (is_id bound) (results code)) distinct_all bounds_all)
        (and_from (uses_follow [] code) (names_are_among (results code) code) uses_all names_all)
