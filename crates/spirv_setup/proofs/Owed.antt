-- What an emitter that is set up owes to the tree of its program.
use mathlib.Core.Path.{fun_ext}
use Rattle.std.proofs.Common.{◌≡◌, ℕ, zero, suc, ◌*◌, ◌/◌, ◌%◌, ◌<◌, Bool, true, false, List, [], ◌∷◌, Some, None, refl, sym, ap, ◌∙◌, subst, arith}
use Rattle.std.specs.Prelude.{slice_get, Option, filter, map, nat_eq, is_none, if◌then◌else◌}
use Rattle.std.specs.List.{filter_map, cons_option}
use Rattle.std.proofs.Math.Nat.{div-add-mod, mod-lt}
use Rattle.std.proofs.lemmas.Bool.Decides.{nat_tests}
use Rattle.word_base.specs.declared.rule.Refusal.{Refusal}
use Rattle.word_base.specs.declared.rule.Rule.TheVariants.{B1}
use Rattle.word_base.specs.Rules.{refusal}
use Rattle.tpf_program.specs.declared.declaration.Declaration.TheVariants.{Constants}
use Rattle.tpf_program.specs.declared.declaration.Declared.{Declared as Item}
use Rattle.tpf_program.specs.Program.{Shader}
use Rattle.tpf_program.specs.Sizes.{temps_of, vectors_of, elements_of}
use Rattle.binding_map.specs.declared.register.Register.TheVariants as register
use Rattle.binding_map.specs.declared.register.Place.{Place}
use Rattle.binding_map.specs.declared.register.Place.TheVariants.{Bound, Push as InPush}
use Rattle.binding_map.specs.Bindings.{Binding, binding, place_of, IsMap}
use Rattle.binding_map.specs.Completeness.{binding_refusals, is_unbound}
use Rattle.binding_map.specs.Lookups.{LooksUp}
use Rattle.shader_tree.specs.declared.node.Node.{Node}
use Rattle.shader_tree.specs.declared.node.Space.{Space}
use Rattle.shader_tree.specs.declared.node.Space.TheVariants as space
use Rattle.shader_tree.specs.Terms.{Term, term_at}
use Rattle.shader_tree.specs.Values.{size_of}
use Rattle.shader_tree.specs.Walks.{Each, rooms_in, spaces_in, threads_in}
use Rattle.spirv_symbols.specs.declared.symbol.Symbol.{Symbol}
use Rattle.spirv_symbols.specs.declared.symbol.Symbol.TheVariants.{Input, Memory, Uniform, Push, Registers, Elements}
use Rattle.spirv_symbols.specs.declared.declared.Declared.{Declared}
use Rattle.spirv_symbols.specs.Tables.{Table, Has, Extends}
use Rattle.spirv_emit.specs.Begun.{IsThere, IsPlaceThere, IsBufferThere, IsSpaceThere, Names, built_in_of}
use Rattle.spirv_emit.specs.Code.{In}
use Rattle.spirv_emit.specs.declared.buffer.ConstantBuffer.{ConstantBuffer}
use Rattle.spirv_emit.specs.declared.emitter.Emitter.{Emitter as Emission}
use Rattle.spirv_emit.specs.Emission.{buffer_of, vectors_in}
use Rattle.spirv_emit.specs.Emission as emission
use Rattle.spirv_emit.specs.Naming.{Opened}
use Rattle.spirv_setup.specs.Descriptions.{buffer_at, buffer_by, buffers_of}
use Rattle.spirv_setup.specs.Named.{IsNamed, spaces_of}
use Rattle.spirv_setup.specs.Premises.{IsDeclared}
use Rattle.spirv_setup.specs.Setup.{IsDescribed, IsSetUp}
use Rattle.spirv_setup.specs.Unopened.{AreThere}
use Rattle.spirv_setup.specs.Variables.{variables}
use Rattle.spirv_setup.proofs.Fitting.{buffer_declared, end_under, reaches}
use Rattle.spirv_setup.proofs.Looked.{elements_at, vectors_declared_at}
use Rattle.spirv_setup.proofs.There.{in_table, room_in, thread_in, push_in, uniform_in, array_in}

each_by : {X : Type 0} (P Q : X → Type 0) (xs : List X) → ((x : X) → P x → Q x) → Each P xs → Each Q xs
each_by P Q [] f h = tt
each_by P Q (x ∷ xs) f h = (f x h.0, each_by P Q xs f h.1)

-- EACH DECLARED CONSTANT BUFFER is bound.
module _ (f : Item → Refusal) (test : Item → Bool) where
  taken : (x : Item) (xs : List Item) → test x ≡ true → filter test (x ∷ xs) ≡ x ∷ filter test xs
  taken x xs q = rw q refl

  passed : (x : Item) (xs : List Item) → test x ≡ false → filter test (x ∷ xs) ≡ filter test xs
  passed x xs q = rw q refl

  none_first : (x : Item) (xs : List Item) → map f (filter test (x ∷ xs)) ≡ [] → test x ≡ false
  none_first x xs e = by (test x) refl where
    by : (b : Bool) → test x ≡ b → test x ≡ false
    by true q = absurd (cc (sym (ap (map f) (taken x xs q)) ∙ e))
    by false q = q

  none_left : (ds : List Item) → map f (filter test ds) ≡ [] → (k : ℕ) (d : Item) → slice_get ds k ≡ Some d → test d ≡ false
  none_left [] e k d g = absurd (cc g)
  none_left (x ∷ xs) e zero d g = let same : x ≡ d = cc g in ap test (sym same) ∙ none_first x xs e
  none_left (x ∷ xs) e (suc k) d g =
      none_left xs (sym (ap (map f) (passed x xs (none_first x xs e))) ∙ e) k d g

slot_itself : (n : ℕ) → nat_eq n n ≡ true
slot_itself n = grind (arith, nat_tests)

module _ (bindings : List Binding) (slot : ℕ) where
  rest_none : (o : Option ConstantBuffer) (l : List ConstantBuffer) → buffer_of (cons_option o l) slot ≡ None → buffer_of l slot ≡ None
  rest_none None l n = n
  rest_none (Some z) l n = by (nat_eq z.slot slot) refl where
    by : (b : Bool) → nat_eq z.slot slot ≡ b → buffer_of l slot ≡ None
    by true q = absurd (cc (sym (ap (λ b. if b then Some z else buffer_of l slot) q) ∙ n))
    by false q = sym (ap (λ b. if b then Some z else buffer_of l slot) q) ∙ n

  none_here : (x : ConstantBuffer) (l : List ConstantBuffer) → nat_eq x.slot slot ≡ true → buffer_of (x ∷ l) slot ≡ None → ⊥
  none_here x l t n = absurd (cc (sym (ap (λ b. if b then Some x else buffer_of l slot) t) ∙ n))

  none_there : (ds : List Item) → buffer_of (filter_map (λ d. buffer_by bindings d.what) ds) slot ≡ None → (k : ℕ) (d : Item) (x : ConstantBuffer)
      → slice_get ds k ≡ Some d → buffer_by bindings d.what ≡ Some x → nat_eq x.slot slot ≡ true → ⊥
  none_there [] n k d x g e t = absurd (cc g)
  none_there (y ∷ ys) n zero d x g e t =
      let same : y ≡ d = cc g in
      let q : buffer_by bindings y.what ≡ Some x = ap (λ (z : Item). buffer_by bindings z.what) same ∙ e in
      none_here x (filter_map (λ (d : Item). buffer_by bindings d.what) ys) t
      (subst (λ o. buffer_of (cons_option o (filter_map (λ (d : Item). buffer_by bindings d.what) ys)) slot ≡ None) q n)
  none_there (y ∷ ys) n (suc k) d x g e t =
      none_there ys (rest_none (buffer_by bindings y.what) (filter_map (λ (d : Item). buffer_by bindings d.what) ys) n) k d x g e t

  placed : (size : ℕ) → is_unbound bindings (Constants slot size) ≡ false → (x : ConstantBuffer) × (buffer_by bindings (Constants slot size) ≡ Some x)
      × (nat_eq x.slot slot ≡ true)
  placed size q = by (place_of bindings (register.Constant slot)) refl where
    by : (o : Option Place) → place_of bindings (register.Constant slot) ≡ o → (x : ConstantBuffer) × (buffer_by bindings (Constants slot size) ≡ Some x)
        × (nat_eq x.slot slot ≡ true)
    by None e = absurd (cc (sym (ap is_none e) ∙ q))
    by (Some place) e = (record { slot = slot; vectors = size; place = place }, ap (buffer_at slot size) e, slot_itself slot)

  bound_buffer : (p : Shader) → binding_refusals p bindings ≡ [] → 0 < vectors_of slot p.declarations
      → (b : ConstantBuffer) × (buffer_of (buffers_of p bindings) slot ≡ Some b)
  bound_buffer p complete lt = by (buffer_of (buffers_of p bindings) slot) refl where
    by : (o : Option ConstantBuffer) → buffer_of (buffers_of p bindings) slot ≡ o → (b : ConstantBuffer) × (buffer_of (buffers_of p bindings) slot ≡ Some b)
    by (Some b) e = (b, e)
    by None e =
        let r = vectors_declared_at p slot lt in
        let unbound = none_left (λ (d : Item). refusal B1 d.place) (λ (d : Item). is_unbound bindings d.what) p.declarations complete r.0 r.1 r.2 in
        let x = placed r.3 (sym (ap (is_unbound bindings) r.4) ∙ unbound) in
        absurd (none_there p.declarations e r.0 r.1 x.0 r.2 (ap (buffer_by bindings) r.4 ∙ x.1) x.2)

-- THE SPACES are the program's.
quarter : (n : ℕ) → 4 * n / 4 ≡ n
quarter n = let e = div-add-mod (4 * n) 4 in let r : 4 * n % 4 < 4 = mod-lt (4 * n) (omega arith) in omega (arith, e, r)

module _ (p : Shader) (bindings : List Binding) (h : IsDeclared p) (complete : binding_refusals p bindings ≡ []) (e : Emission)
    (said : IsDescribed p bindings e) where
  vectors_by : (slot n : ℕ) → vectors_of slot p.declarations ≡ n → (o : Option ConstantBuffer) → buffer_of (buffers_of p bindings) slot ≡ o
      → vectors_in o ≡ vectors_of slot p.declarations
  vectors_by slot n q (Some b) r = (buffer_declared p bindings h.declared slot b r).0
  vectors_by slot zero q None r = sym q
  vectors_by slot (suc n) q None r =
      let x = bound_buffer bindings slot p complete (omega (arith, q)) in absurd (cc (sym x.1 ∙ r))

  vectors_are : (slot : ℕ) → vectors_in (buffer_of e.frame.buffers.list slot) ≡ vectors_of slot p.declarations
  vectors_are slot =
      ap (λ l. vectors_in (buffer_of l slot)) said.buffers
      ∙ vectors_by slot (vectors_of slot p.declarations) refl (buffer_of (buffers_of p bindings) slot) refl

  pub same_spaces : (b : Bool) → emission.spaces_of (record e.frame { separate = b }) ≡ spaces_of p
  same_spaces b =
      let temps : e.frame.context.registers / 4 ≡ temps_of p.declarations = ap (λ n. n / 4) said.registers ∙ quarter (temps_of p.declarations) in
      let elements = fun_ext (λ slot. ap (λ (d : Declared). d.size / 4) (said.variables (Elements slot))
      ∙ ap (λ n. n / 4) (elements_at p bindings h.declared slot) ∙ quarter (elements_of slot p.declarations)) in
      let vectors = fun_ext vectors_are in
      rw (temps, elements, vectors, said.immediates) refl

-- WHAT A TREE NAMES is there, in each emitter that has what one had that was set up.
module _ (p : Shader) (bindings : List Binding) (h : IsDeclared p) (m : IsMap bindings) (looks : LooksUp bindings)
    (complete : binding_refusals p bindings ≡ []) (e o : Emission) (su : IsSetUp p bindings e) (same : o.frame.buffers.list ≡ e.frame.buffers.list)
    (array : o.frame.separate ≡ false → IsThere o.symbols.entries Registers)
    (stays : (s : Symbol) → IsThere e.symbols.entries s → IsThere o.symbols.entries s) where
  variable_there : (s : Symbol) → In (variables p bindings) s → IsThere o.symbols.entries s
  variable_there s i = stays s (in_table e.symbols.entries s (subst (λ l. In l s) (sym su.globals) i))

  place_there : (slot own : ℕ) (place : Place) → own ≡ slot → 0 < vectors_of slot p.declarations
      → (k : ℕ) → slice_get bindings k ≡ Some (binding (register.Constant slot) place) → IsPlaceThere o.symbols.entries own place
  place_there slot own (Bound set number) q lt k at =
      subst (λ n. IsThere o.symbols.entries (Uniform n)) (sym q)
      (variable_there (Uniform slot) (uniform_in p bindings h m looks slot k set number lt at))
  place_there slot own (InPush first count) q lt k at = λ some.
      let n = end_under p bindings k (binding (register.Constant slot) (InPush first count)) at in
      let f = reaches p slot first count lt some in
      variable_there Push (push_in p bindings h m looks (omega (arith, n, f, some)))

  buffer_there : (slot : ℕ) → 0 < vectors_of slot p.declarations → IsBufferThere o.symbols.entries (buffer_of o.frame.buffers.list slot)
  buffer_there slot lt =
      let x = bound_buffer bindings slot p complete lt in
      let d = buffer_declared p bindings h.declared slot x.0 x.1 in
      let f = looks.found (register.Constant slot) x.0.place d.1 in
      let all : o.frame.buffers.list ≡ buffers_of p bindings = same ∙ su.described.buffers in
      subst (IsBufferThere o.symbols.entries) (sym (ap (λ l. buffer_of l slot) all ∙ x.1)) (place_there slot x.0.slot x.0.place d.3 lt f.0 f.1)

  space_there : (s : Space) → 0 < size_of (spaces_of p) s → IsSpaceThere o s
  space_there space.Temps lt = array
  space_there (space.Indexable slot) lt =
      stays (Elements slot) (su.elements slot (array_in p bindings h m looks slot (omega (arith, lt))))
  space_there (space.Constant slot) lt = buffer_there slot (omega (arith, lt))
  space_there space.ImmediateConstant lt = stays _ (su.immediates lt)

  pub rooms_there : (x : Term) → IsNamed p bindings x → Each (λ room. IsThere o.symbols.entries (Memory room)) (rooms_in x)
  rooms_there x n =
      each_by _ (λ room. IsThere o.symbols.entries (Memory room)) (rooms_in x)
      (λ r q. variable_there (Memory r) (room_in p bindings h m looks r q)) n.rooms

  pub threads_there : (x : Term) → IsNamed p bindings x → Each (λ k. IsThere o.symbols.entries (Input (built_in_of k))) (threads_in x)
  threads_there x n =
      each_by _ (λ k. IsThere o.symbols.entries (Input (built_in_of k))) (threads_in x)
      (λ k q. variable_there (Input (built_in_of k)) (thread_in p bindings h m looks k q)) n.threads

  pub spaces_there : (x : Term) → IsNamed p bindings x → Each (IsSpaceThere o) (spaces_in x)
  spaces_there x n = each_by (λ s. 0 < size_of (spaces_of p) s) (IsSpaceThere o) (spaces_in x) space_there n.spaces

-- When the emitter is open for the tree, and before that, when the registers r# need not be there.
module _ (p : Shader) (bindings : List Binding) (h : IsDeclared p) (m : IsMap bindings) (looks : LooksUp bindings)
    (complete : binding_refusals p bindings ≡ []) (e : Emission) (su : IsSetUp p bindings e) where
  pub names_there : (o : Emission) (nodes : List Node) → Opened e o nodes
      → ((t u : Table) (s : Symbol) (x : ℕ) → Extends t u → Has t.entries s x → Has u.entries s x)
      → (id : ℕ) → IsNamed p bindings (term_at nodes id) → Names o (term_at nodes id)
  names_there o nodes opened kept id n =
      let same : o.frame.buffers.list ≡ e.frame.buffers.list = ap (λ f. f.buffers.list) opened.frame in
      let stays : (s : Symbol) → IsThere e.symbols.entries s → IsThere o.symbols.entries s =
      λ s x. (x.0, kept e.symbols o.symbols s x.0 opened.extends x.1) in
      record {
        spaces = spaces_there p bindings h m looks complete e o su same opened.array stays (term_at nodes id) n;
        rooms = rooms_there p bindings h m looks complete e o su same opened.array stays (term_at nodes id) n;
        threads = threads_there p bindings h m looks complete e o su same opened.array stays (term_at nodes id) n;
        direct = λ own. opened.direct own id;
      }

  abbrev apart : Emission
  apart = record e { frame = record e.frame { separate = true } }

  array_apart : apart.frame.separate ≡ false → IsThere apart.symbols.entries Registers
  array_apart q = absurd (cc q)

  space_before : (s : Space) → IsSpaceThere apart s → (s ≡ space.Temps → ⊥) → IsSpaceThere e s
  space_before space.Temps x f = absurd (f refl)
  space_before (space.Indexable slot) x f = x
  space_before (space.Constant slot) x f = x
  space_before space.ImmediateConstant x f = x

  pub named_there : (x : Term) → IsNamed p bindings x → AreThere e x
  named_there x n = record {
    spaces = each_by (IsSpaceThere apart) (λ s. (s ≡ space.Temps → ⊥) → IsSpaceThere e s) (spaces_in x) space_before
        (spaces_there p bindings h m looks complete e apart su refl array_apart (λ s y. y) x n);
    rooms = rooms_there p bindings h m looks complete e apart su refl array_apart (λ s y. y) x n;
    threads = threads_there p bindings h m looks complete e apart su refl array_apart (λ s y. y) x n;
  }
