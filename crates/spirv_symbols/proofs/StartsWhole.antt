-- From the start of a module to the code of its function.
use Rattle.std.proofs.Common.{◌≡◌, ℕ, suc, ◌+◌, ⊎_elim, Bool, true, false, List, [], ◌∷◌, ◌++◌, length, drop, Some, None, refl, sym, ap, ◌∙◌, subst, arith, append_assoc, length-append}
use Rattle.std.specs.Prelude.{slice_get, find, cond, option_and_then, option_map}
use Rattle.std.proofs.lemmas.Bool.{eq-eqb}
use Rattle.std.proofs.lemmas.Bool.Decides.{eqb_tells}
use Rattle.word_base.specs.Settings.{Setting}
use Rattle.word_base.specs.declared.event.Room.TheVariants.{Shared}
use Rattle.spirv_words.specs.Operations.{OpFunctionEnd}
use Rattle.spirv_words.specs.Text.{Instr, instruction}
use Rattle.spirv_words.specs.Ids.{definition, is_function}
use Rattle.spirv_words.specs.Values.{Value, AtLocal}
use Rattle.spirv_words.specs.Globals.{Places, Machine, global, initial_memory}
use Rattle.spirv_words.specs.Lane.{State, start_place, first_from, behind_label}
use Rattle.spirv_symbols.specs.declared.symbol.Section.{Section}
use Rattle.spirv_symbols.specs.declared.symbol.Section.TheVariants.{Labels, Locals}
use Rattle.spirv_symbols.specs.declared.symbol.Symbol.{Symbol}
use Rattle.spirv_symbols.specs.declared.symbol.Symbol.TheVariants.{AType, Main, FirstLabel, Memory, Scratch, Register, Registers, Elements, ImmediateArray}
use Rattle.spirv_symbols.specs.declared.numbered.Numbered.{Numbered}
use Rattle.spirv_symbols.specs.Contexts.{Context}
use Rattle.spirv_symbols.specs.Rows.{section_of}
use Rattle.spirv_symbols.specs.Tables.{Table, Entry, entry, Has, id_of, instr_of}
use Rattle.spirv_symbols.specs.Sections.{order, in_section, part_of, section_code}
use Rattle.spirv_symbols.specs.Orders.{Among}
use Rattle.spirv_symbols.specs.Sorted.{Defines, is_front}
use Rattle.spirv_symbols.specs.Modules.{Kind, IsReady, IsBody, front, function, module_code}
use Rattle.spirv_symbols.specs.Starts.{HasAt, AreFound, Starts, meaning, initial}
use Rattle.spirv_symbols.proofs.Members.{among_get, get_among, among_filter, among_kept}
use Rattle.spirv_symbols.proofs.Ids.{one_symbol}
use Rattle.spirv_symbols.proofs.EachSymbol.{is_first_label}
use Rattle.spirv_symbols.proofs.Placed.{in_front, in_whole}
use Rattle.spirv_symbols.proofs.Fronts.{section_one, front_fails, entry_is, is_main, function_head, declared_is}
use Rattle.spirv_symbols.proofs.GlobalVariables.{variables_are}
use Rattle.spirv_symbols.proofs.DecorationLookups.{decorated_as}
use Rattle.spirv_symbols.proofs.StartValues.{Declares, value_here}
use Rattle.spirv_symbols.proofs.StartSteps.{Ran, locals_run}

-- PLACES
first_at : (test : Instr → Bool) (a : List Instr) (x : Instr) (r : List Instr) (n : ℕ) → find test a ≡ None → test x ≡ true
    → first_from test (a ++ x ∷ r) n ≡ Some (n + length a)
first_at test [] x r n h e = let p : n ≡ n + 0 = omega arith in ap (λ b. cond b (Some n) (first_from test r (n + 1))) e ∙ ap Some p
first_at test (i ∷ is) x r n h e = by (test i) refl h (first_at test is x r (n + 1)) where
  by : (b : Bool) → test i ≡ b → cond b (Some i) (find test is) ≡ None
      → (find test is ≡ None → test x ≡ true → first_from test (is ++ x ∷ r) (n + 1) ≡ Some (n + 1 + length is))
      → first_from test (i ∷ is ++ x ∷ r) n ≡ Some (n + length (i ∷ is))
  by true d h f = absurd (cc h)
  by false d h f =
      let p : n + 1 + length is ≡ n + suc (length is) = omega arith in
      ap (λ b. cond b (Some n) (first_from test (is ++ x ∷ r) (n + 1))) d ∙ (f h e ∙ ap Some p)

drop_front : (a b : List Instr) → drop (length a) (a ++ b) ≡ b
drop_front [] b = refl
drop_front (i ∷ a) b = drop_front a b

seam : (before : List Instr) (i : Instr) (rest : List Instr) → slice_get (before ++ i ∷ rest) (length before) ≡ Some i
seam [] i rest = refl
seam (j ∷ before) i rest = seam before i rest

within : (a b : List Instr) → HasAt (a ++ b) (length a) b
within a [] = tt
within a (i ∷ b) =
    let e : length (a ++ i ∷ []) ≡ length a + 1 = omega (arith, length-append a (i ∷ [])) in (
      seam a i b,
      subst (λ p. HasAt (a ++ i ∷ b) p b) e (subst (λ l. HasAt l (length (a ++ i ∷ [])) b) (append_assoc a (i ∷ []) b)
          (within (a ++ i ∷ []) b)),
    )

module _ (c : Context) (kind : Kind) (t : Table) (cs : List Numbered) (r : IsReady c t cs) (body : List Instr) (b : IsBody body) where
  abbrev es : List Entry
  es = t.entries

  abbrev code : List Instr
  code = module_code c kind es cs body

  abbrev ends : List Instr
  ends = body ++ instruction OpFunctionEnd [] ∷ []

  among : (s : Symbol) (x : ℕ) → Has es s x → Among es (entry s x)
  among s x h = get_among es h.0 (entry s x) h.1

  pub defines : Defines c es code
  defines = record {
    whole = λ s x h. in_whole c kind es t.next r.stands.table cs r.sorted (entry s x) (among s x h) body;
    front = λ s x h f.
        ap (λ l. definition l x) (declared_is c kind es t.next r.stands.table cs r.sorted r.main r.has_main body)
        ∙ in_front c kind es t.next r.stands.table cs r.sorted (entry s x) (among s x h) f;
  }

  pub declares : Declares c es code
  declares = record {
    defines = defines;
    decorated = λ s x test h a. decorated_as c kind es t.next r.stands.table cs body x test a s h b;
    variables = λ classes. variables_are c kind es t.next r.stands.table cs r.sorted classes r.main r.has_main body;
    long = _;
    length' = refl;
  }

  labels : section_code c Labels es ≡ instr_of c es (entry FirstLabel r.label) ∷ []
  labels = section_one c Labels FirstLabel es t.next r.label r.stands.table r.has_label refl (is_first_label c)

  abbrev begin : ℕ
  begin = length (front c kind es cs) + 1 + 1

  abbrev head : Instr
  head = instr_of c es (entry Main r.main)

  abbrev first_label : Instr
  first_label = instr_of c es (entry FirstLabel r.label)

  pub function_is : function c es body ≡ head ∷ first_label ∷ (section_code c Locals es ++ ends)
  function_is =
      function_head c kind es t.next r.stands.table cs r.sorted r.main r.has_main body
      ∙ ap (λ l. head ∷ (l ++ (section_code c Locals es ++ ends))) labels

  start_at : start_place code ≡ Some begin
  start_at =
      let p : 0 + length (front c kind es cs) ≡ length (front c kind es cs) = omega arith in
      let found : first_from (is_function (id_of es Main)) code 0 ≡ Some (length (front c kind es cs)) =
      ap (λ l. first_from (is_function (id_of es Main)) (front c kind es cs ++ l) 0) function_is
      ∙ (first_at (is_function (id_of es Main)) (front c kind es cs) head (first_label ∷ (section_code c Locals es ++ ends)) 0
      (front_fails c kind es t.next r.stands.table cs r.sorted r.main r.has_main body (id_of es Main))
      (is_main c kind es t.next r.stands.table cs r.sorted r.main r.has_main body) ∙ ap Some p) in
      ap (λ o. option_and_then (λ f. option_and_then (λ place. behind_label (drop place code) place) (first_from (is_function f) code 0)) o)
      (entry_is c kind es t.next r.stands.table cs r.sorted r.main r.has_main body)
      ∙ (ap (option_and_then (λ place. behind_label (drop place code) place)) found
      ∙ (ap (λ l. behind_label l (length (front c kind es cs))) (drop_front (front c kind es cs) (function c es body))
      ∙ ap (λ l. behind_label l (length (front c kind es cs))) function_is))

  body_at : HasAt code begin (section_code c Locals es ++ ends)
  body_at =
      subst (λ l. HasAt (front c kind es cs ++ l) begin (section_code c Locals es ++ ends)) (sym function_is)
      (let h = within (front c kind es cs) (head ∷ first_label ∷ (section_code c Locals es ++ ends)) in h.1.1)

  module _ (places : Places) (setting : Setting) (bound : ℕ) (p : AreFound c es (record { code = code; places = places; setting = setting })) where
    abbrev m : Machine
    m = record { code = code; places = places; setting = setting }

    abbrev from : State
    from = record { place = begin; values = global m; memory = initial_memory m }

    ran : Ran c es t.next r.stands.table m declares (part_of c Locals es) from ends
    ran = locals_run c es t.next r.stands.table m declares from ends body_at (λ u y h f. refl)

    not_local : (section : Section) → is_front section ≡ true → order section ≡ 6 → ⊥
    not_local Locals f o = absurd (cc f)
    not_local section f o = absurd (omega (arith, o))

    front_value : (s : Symbol) (x : ℕ) (v : Value) → Has es s x → is_front (section_of c s) ≡ true → meaning s x ≡ Some v → ran.to.values x ≡ Some v
    front_value s x v h f e =
        (ran.kept x (λ g i q.
        let w = among_filter (in_section c Locals) es g i in
        let o = ⊎_elim (λ y. y.1) (λ y. absurd (cc (w.1, y.0))) (eqb_tells (order (section_of c g.symbol)) 6) in
        let a = among_get es g w.0 in
        let same = one_symbol c es t.next g.symbol s x r.stands.table (a.0, a.1 ∙ ap (λ z. Some (entry g.symbol z)) q) h in
        not_local (section_of c s) f (ap (λ z. order (section_of c z)) (sym same) ∙ o))).0
        ∙ value_here c es t.next r.stands.table m declares s x v p h f e

    among_locals : (s : Symbol) (x : ℕ) → Has es s x → order (section_of c s) ≡ 6 → Among (part_of c Locals es) (entry s x)
    among_locals s x h o = among_kept (in_section c Locals) es (entry s x) (among s x h) (eq-eqb (order (section_of c s)) 6 o)

    local_value : (s : Symbol) (x : ℕ) (v : Value) → Has es s x → order (section_of c s) ≡ 6 → Some (AtLocal x 0) ≡ Some v → ran.to.values x ≡ Some v
    local_value s x v h o e = (ran.made (entry s x) (among_locals s x h o)).0 ∙ e

    value : (s : Symbol) (x : ℕ) (v : Value) → Has es s x → meaning s x ≡ Some v → ran.to.values x ≡ Some v
    value (Scratch n) x v h e = local_value (Scratch n) x v h refl e
    value (Register k) x v h e = local_value (Register k) x v h refl e
    value Registers x v h e = local_value Registers x v h refl e
    value (Elements slot) x v h e = local_value (Elements slot) x v h refl e
    value ImmediateArray x v h e = local_value ImmediateArray x v h refl e
    value (Memory (Shared slot)) x v h e = front_value (Memory (Shared slot)) x v h refl e
    value (Memory room) x v h e = front_value (Memory room) x v h refl e
    value (AType type) x v h e = absurd (cc e)
    value Main x v h e = absurd (cc e)
    value FirstLabel x v h e = absurd (cc e)
    value s x v h e = front_value s x v h refl e

    word : (s : Symbol) (x : ℕ) (ws : List ℕ) → Has es s x → initial c s ≡ Some ws → ran.to.memory x ≡ slice_get ws
    word (Scratch n) x ws h e = (ran.made (entry (Scratch n) x) (among_locals (Scratch n) x h refl)).1 ws e
    word (Register k) x ws h e = (ran.made (entry (Register k) x) (among_locals (Register k) x h refl)).1 ws e
    word Registers x ws h e = (ran.made (entry Registers x) (among_locals Registers x h refl)).1 ws e
    word (Elements slot) x ws h e = (ran.made (entry (Elements slot) x) (among_locals (Elements slot) x h refl)).1 ws e
    word ImmediateArray x ws h e = (ran.made (entry ImmediateArray x) (among_locals ImmediateArray x h refl)).1 ws e
    word s x ws h e = absurd (cc e)

    pub starts : Starts c es (record { version = kind.version; bound = bound; code = code }) places setting ends
    starts = record {
      from = from;
      first = ap (option_map (λ place. record { place = place; values = global m; memory = initial_memory m })) start_at;
      steps = ran.steps;
      to = ran.to;
      goes = ran.goes;
      here = ran.here;
      values = value;
      words = word;
    }
