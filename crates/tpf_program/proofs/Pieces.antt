-- What a piece of a program spells.
use Rattle.std.proofs.Common.{◌≡◌, ℕ, ◌+◌, ◌-◌, ◌≤◌, List, [], ◌∷◌, ◌++◌, length, take, drop, Some, None, false, nat_eq, refl, sym, ap, ◌∙◌, subst, arith}
use Rattle.std.specs.Prelude.{slice_range, slice_index, slice_index_or, is_some}
use Rattle.tpf_decode.specs.declared.argument.Argument.{Argument}
use Rattle.tpf_decode.specs.declared.extent.Extent.{Extent}
use Rattle.tpf_decode.specs.declared.opcode.Form.{Form}
use Rattle.tpf_decode.specs.declared.opcode.Form.TheVariants as form
use Rattle.tpf_decode.specs.declared.declaration.Layout.{Layout}
use Rattle.tpf_decode.specs.Profiles.{Base}
use Rattle.tpf_decode.specs.Tokens.{length_of}
use Rattle.tpf_decode.specs.Opcodes.{roles_of, form_of}
use Rattle.tpf_decode.specs.Declarations.{layout_of, roles_at, roles_by}
use Rattle.tpf_decode.specs.Spelling.{SpellsHead, SpellsOperands, SpellsCustom, further_words}
use Rattle.tpf_decode.specs.Spelling as token
use Rattle.tpf_decode.specs.Refusals.{IsCut, IsExtent}
use Rattle.tpf_decode.proofs.Ranges.{range_split, range_none, range_cons, length-range}
use Rattle.tpf_program.specs.declared.declaration.Declaration.{Declaration}
use Rattle.tpf_program.specs.Spelling.{nothings, named, IsDeclaredBy, SpellsDeclaration, SpellsInstruction}
use Rattle.tpf_program.specs.Reading.{HasOperands}
use Rattle.tpf_program.proofs.Parts.{operands_count}

pub few_roles : (f : Form) → length (roles_of f) ≤ 5
few_roles form.Unary = omega arith
few_roles form.Binary = omega arith
few_roles form.Ternary = omega arith
few_roles form.Insert = omega arith
few_roles form.Paired = omega arith
few_roles form.Swap = omega arith
few_roles form.LoadRaw = omega arith
few_roles form.LoadStructured = omega arith
few_roles form.StoreRaw = omega arith
few_roles form.StoreStructured = omega arith
few_roles form.Size = omega arith
few_roles form.Atomic = omega arith
few_roles form.AtomicCompare = omega arith
few_roles form.ImmediateAtomic = omega arith
few_roles form.ImmediateCompare = omega arith
few_roles form.Counter = omega arith
few_roles form.Condition = omega arith
few_roles form.Case = omega arith
few_roles form.Plain = omega arith

pub roles_of_form : (code : ℕ) (f : Form) → form_of Base code ≡ Some f → roles_at Base code ≡ roles_of f
roles_of_form code f h = ap (λ o. roles_by o (layout_of Base code)) h

-- a part by its extent and its operands
pub whole_spelled : (words : List ℕ) (n at place : ℕ) (e : Extent) (arguments : List Argument) → n ≤ length words → IsExtent Base words n at e → nat_eq e.code 53 ≡ false
    → e.first ≤ place → place ≤ e.end → SpellsOperands Base e.code (roles_at Base e.code) arguments (slice_range words e.first place)
    → length (slice_range words place e.end) ≡ further_words (layout_of Base e.code)
    → token.Spells Base e.code e.controls arguments (slice_range words place e.end) (slice_range words at e.end)
whole_spelled words n at place e arguments fits s other from upto h k =
    let head : SpellsHead Base e.code e.controls (e.end - at) (slice_range words at e.first) = subst (λ b. IsCut b Base words at e) other s.spelled in
    let size : e.end - at ≡ length (slice_range words at e.end) = sym (length-range words at e.end (omega (arith, s.ends))) in
    record {
      head = slice_range words at e.first;
      operands = slice_range words e.first place;
      parts = range_split words at e.first e.end (omega (arith, s.begins)) s.order
          ∙ ap (λ l. slice_range words at e.first ++ l) (range_split words e.first place e.end from upto);
      tokens = subst (λ m. SpellsHead Base e.code e.controls m (slice_range words at e.first)) size head;
      roles = h;
      rest = k;
    }

-- the length that the token has
pub token_length : (words : List ℕ) (n at : ℕ) (e : Extent) → n ≤ length words → IsExtent Base words n at e → nat_eq e.code 53 ≡ false → length_of (slice_index words at) ≡ length (slice_range words at e.end)
token_length words n at e fits s other =
    let head : SpellsHead Base e.code e.controls (e.end - at) (slice_range words at e.first) = subst (λ b. IsCut b Base words at e) other s.spelled in
    let t : slice_index (slice_range words at e.first) 0 ≡ head.token = ap (λ l. slice_index l 0) head.parts in
    let i : slice_index (slice_range words at e.first) 0 ≡ slice_index words at = ap (λ l. slice_index l 0) (range_cons words at e.first s.begins (omega (arith, s.order, s.ends))) in
    ap length_of (sym i ∙ t) ∙ (head.size_is ∙ sym (length-range words at e.end (omega (arith, s.ends))))

pub taken_front : {A : Type 0} (front back : List A) (n : ℕ) → n ≡ length front → take n (front ++ back) ≡ front
taken_front {A} front back n e = ap (λ m. take m (front ++ back)) e ∙ counted front
  where
    counted : (front : List A) → take (length front) (front ++ back) ≡ front
    counted [] = refl
    counted (a ∷ front) = ap (λ l. a ∷ l) (counted front)

pub dropped_front : (front back : List Argument) (n : ℕ) → n ≡ length front → drop n (front ++ back) ≡ back
dropped_front front back n e = ap (λ m. drop m (front ++ back)) e ∙ counted front
  where
    counted : (front : List Argument) → drop (length front) (front ++ back) ≡ back
    counted [] = refl
    counted (a ∷ front) = counted front

pub length-places : (read places : List Argument) → length read ≤ length places → length (read ++ drop (length read) places) ≡ length places
length-places [] places h = refl
length-places (r ∷ read) [] h = absurd (omega arith)
length-places (r ∷ read) (p ∷ places) h = omega (arith, length-places read places (omega arith))

pub five : (places : List Argument) (d : Argument) → length places ≡ 5
    → places ≡ slice_index_or places 0 d ∷ slice_index_or places 1 d ∷ slice_index_or places 2 d ∷ slice_index_or places 3 d ∷ slice_index_or places 4 d ∷ []
five [] d h = absurd (omega arith)
five (a ∷ []) d h = absurd (omega arith)
five (a ∷ b ∷ []) d h = absurd (omega arith)
five (a ∷ b ∷ x ∷ []) d h = absurd (omega arith)
five (a ∷ b ∷ x ∷ y ∷ []) d h = absurd (omega arith)
five (a ∷ b ∷ x ∷ y ∷ z ∷ []) d h = refl
five (a ∷ b ∷ x ∷ y ∷ z ∷ u ∷ more) d h = absurd (omega arith)

-- an instruction of five places
pub instruction_spelled : (words : List ℕ) (n at place size count : ℕ) (e : Extent) (f : Form) (places : List Argument) (d : Argument) → n ≤ length words → IsExtent Base words n at e → nat_eq e.code 53 ≡ false
    → layout_of Base e.code ≡ None → form_of Base e.code ≡ Some f → e.first ≤ place → place + 0 ≡ e.end
    → HasOperands e.code (roles_at Base e.code) places (slice_range words e.first place) → size ≡ length_of (slice_index words at) → count ≡ length (roles_of f)
    → SpellsInstruction Base (record {
      place = at;
      length = size;
      code = e.code;
      controls = e.controls;
      count = count;
      o0 = slice_index_or places 0 d;
      o1 = slice_index_or places 1 d;
      o2 = slice_index_or places 2 d;
      o3 = slice_index_or places 3 d;
      o4 = slice_index_or places 4 d;
    }) (slice_range words at e.end)
instruction_spelled words n at place size count e f places d fits s other none some from upto h l c =
    let r = roles_of_form e.code f some in
    let m : count ≡ length h.arguments = c ∙ (sym (ap length r) ∙ sym (operands_count Base e.code (roles_at Base e.code) h.arguments (slice_range words e.first place) h.spelled)) in
    let few = few_roles f in
    let all : places ≡ slice_index_or places 0 d ∷ slice_index_or places 1 d ∷ slice_index_or places 2 d ∷ slice_index_or places 3 d ∷ slice_index_or places 4 d ∷ [] =
    five places d (ap length h.places_are ∙ length-places h.arguments nothings (omega (arith, m, c, few))) in
    let is = sym all ∙ h.places_are in
    let end : place ≡ e.end = omega arith in
    let empty : slice_range words place e.end ≡ [] = ap (λ k. slice_range words place k) (sym end) ∙ range_none words place in
    record {
      spelled = subst (λ l. token.Spells Base e.code e.controls l [] (slice_range words at e.end))
          (sym (ap (take count) is ∙ taken_front h.arguments (drop (length h.arguments) nothings) count m))
          (subst (λ l. token.Spells Base e.code e.controls h.arguments l (slice_range words at e.end)) empty
          (whole_spelled words n at place e h.arguments fits s other from (omega arith) h.spelled (ap length empty ∙ ap further_words (sym none))));
      form = ap is_some some;
      size = l ∙ token_length words n at e fits s other;
      count = omega (arith, c, few);
      others = ap (drop count) is ∙ (dropped_front h.arguments (drop (length h.arguments) nothings) count m ∙ ap (λ k. drop k nothings) (sym m));
    }

named_first : (arguments : List Argument) (d : Argument) → slice_index_or (arguments ++ drop (length arguments) nothings) 0 d ≡ named arguments
named_first [] d = refl
named_first (a ∷ arguments) d = refl

pub declaration_spelled : (words : List ℕ) (n at place : ℕ) (e : Extent) (layout : Layout) (places : List Argument) (d : Argument) (what : Declaration) → n ≤ length words → IsExtent Base words n at e → nat_eq e.code 53 ≡ false
    → layout_of Base e.code ≡ Some layout → e.first ≤ place → place + layout.words ≡ e.end → HasOperands e.code (roles_at Base e.code) places (slice_range words e.first place)
    → IsDeclaredBy what e.code e.controls (slice_index_or places 0 d) (slice_range words place e.end)
    → SpellsDeclaration Base what (slice_range words at e.end)
declaration_spelled words n at place e layout places d what fits s other some from upto h k =
    let size : length (slice_range words place e.end) ≡ further_words (layout_of Base e.code) =
    length-range words place e.end (omega (arith, s.ends)) ∙ (omega arith ∙ ap further_words (sym some)) in
    record {
      code = e.code;
      controls = e.controls;
      arguments = h.arguments;
      further = slice_range words place e.end;
      spelled = whole_spelled words n at place e h.arguments fits s other from (omega arith) h.spelled size;
      declared = subst (λ a. IsDeclaredBy what e.code e.controls a (slice_range words place e.end))
          (ap (λ l. slice_index_or l 0 d) h.places_are ∙ named_first h.arguments d) k;
    }
