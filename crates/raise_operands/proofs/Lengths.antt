-- The words of spelled operands, and what is added to their indices.
use Rattle.std.proofs.Common.{◌≡◌, ℕ, suc, ◌+◌, ◌<◌, ◌≤◌, Bool, true, false, List, [], ◌∷◌, ◌++◌, length, take, drop, Option, Some, None, refl, sym, ap, subst, arith, length-append}
use Rattle.std.specs.Prelude.{zero, if◌then◌else◌, sum_by, is_some, option_map}
use Rattle.std.specs.List.{list_any}
use Rattle.std.proofs.lemmas.Bool.{false≢true}
use Rattle.std.proofs.lemmas.List.{length-take-le, take-append-drop}
use Rattle.std.proofs.lemmas.List.Sums.{sum_by-append}
use Rattle.tpf_decode.specs.Opcodes.{form_of, form_of_meaning, meaning_of}
use Rattle.tpf_decode.specs.Declarations.{roles_at, roles_by, layout_of}
use Rattle.tpf_decode.specs.Profiles.{Base}
use Rattle.tpf_decode.specs.Spelling.{SpellsPlace, SpellsRelative, SpellsAddend, SpellsElement, SpellsLiteral, SpellsFixed, SpellsOperand, SpellsOperands, component_of}
use Rattle.tpf_decode.specs.Tokens as token'
use Rattle.tpf_decode.specs.Tokens.{Fixed, Literal, Slot, Nothing, fixed_of, element_of, is_negation}
use Rattle.tpf_decode.specs.declared.argument.Argument.{Argument}
use Rattle.tpf_decode.specs.declared.argument.Kind.{Kind}
use Rattle.tpf_decode.specs.declared.argument.Kind.TheVariants as kind
use Rattle.tpf_decode.specs.declared.argument.Relative.{Relative}
use Rattle.tpf_decode.specs.declared.argument.Role.{Role}
use Rattle.tpf_decode.specs.declared.meaning.Meaning.{Meaning}
use Rattle.tpf_program.specs.declared.instruction.Instruction.{Instruction}
use Rattle.tpf_program.specs.Spelling.{SpellsInstruction, arguments, operands, nothing, nothings}
use Rattle.shader_tree.specs.Walks.{Each}
use Rattle.raise_operands.specs.Raises.{AddsInRange, IsLong, Take, arity, roles_in, least_added, least_index, least_by, least_words}
use Rattle.raise_operands.proofs.Basics.{each_append}

-- WHAT IS ADDED to an index
place_length : (kind : Kind) (slot index : ℕ) (words : List ℕ) → SpellsPlace kind slot index words → least_added kind ≤ 1 + length words
place_length kind.Temp slot index words h = let e : length words ≡ 1 = ap length h.0 in omega arith
place_length kind.Indexable slot index words h = let e : length words ≡ 2 = ap length h in omega arith
place_length kind.Constant slot index words h = let e : length words ≡ 2 = ap length h in omega arith
place_length other slot index words h = omega arith

relative_length : (r : Relative) (words : List ℕ) → SpellsRelative r words → least_added r.kind ≤ length words
relative_length r words h = let e : length words ≡ length (h.token ∷ h.place) = ap length h.parts in let l = place_length r.kind r.slot r.index
    h.place h.indices in omega arith

component_below : (kind : Kind) (token : ℕ) → component_of kind token < 4
component_below kind.FlatId token = omega arith
component_below other token = omega arith

addend_length : (b : Bool) (r : Option Relative) (words : List ℕ) → SpellsAddend b r words → least_index r ≤ length words
addend_length false r words h = subst (λ x. least_index x ≤ length words) (sym h.1) (omega arith)
addend_length true None words h = absurd h
addend_length true (Some r) words h = relative_length r words h

addend_range : (b : Bool) (r : Option Relative) (words : List ℕ) → SpellsAddend b r words → AddsInRange r
addend_range false r words h = subst AddsInRange (sym h.1) tt
addend_range true None words h = absurd h
addend_range true (Some r) words h = subst (λ c. c < 4) (sym h.component) (component_below r.kind h.token)

element_length : (o : Option ℕ) (index : ℕ) (r : Option Relative) (words : List ℕ) → SpellsElement o index r words → least_index r ≤ length words
element_length None index r words h = subst (λ x. least_index x ≤ length words) (sym h.2) (omega arith)
element_length (Some representation) index r words h =
    let l = addend_length (token'.has_relative representation) r h.back h.addend in
    let e : length words ≡ length (h.front ++ h.back) = ap length h.parts in
    let f = length-append h.front h.back in omega arith

element_range : (o : Option ℕ) (index : ℕ) (r : Option Relative) (words : List ℕ) → SpellsElement o index r words → AddsInRange r
element_range None index r words h = subst AddsInRange (sym h.2) tt
element_range (Some representation) index r words h = addend_range (token'.has_relative representation) r h.back h.addend

-- WHAT STANDS BEHIND a token
literal_length : (b : Bool) (x y z w : ℕ) (words : List ℕ) → SpellsLiteral b x y z w words → 1 ≤ length words
literal_length true x y z w words h = let e : length words ≡ 4 = ap length h in omega arith
literal_length false x y z w words h = let e : length words ≡ 1 = ap length h.0 in omega arith

fixed_least : Fixed → ℕ
fixed_least (Literal four) = 1
fixed_least Slot = 1
fixed_least Nothing = 0

fixed_length : (f : Fixed) (slot x y z w : ℕ) (words : List ℕ) → SpellsFixed f slot x y z w words → fixed_least f ≤ length words
unfolding fixed_least
fixed_length (Literal four) slot x y z w words h = literal_length four x y z w words h.1
fixed_length Slot slot x y z w words h = let e : length words ≡ 1 = ap length h.0 in omega arith
fixed_length Nothing slot x y z w words h = omega arith

behind_length : (kind : Kind) (r : Option Relative) (token f e : ℕ) → fixed_least (fixed_of kind token) ≤ f → least_index r ≤ e
    → least_by kind r ≤ 1 + (f + e)
unfolding fixed_least
behind_length kind.Temp r token f e h k = omega arith
behind_length kind.Indexable r token f e h k = omega arith
behind_length kind.Constant r token f e h k = omega arith
behind_length kind.ImmediateConstant r token f e h k = omega arith
behind_length kind.Immediate r token f e h k = omega arith
behind_length kind.Resource r token f e h k = omega arith
behind_length kind.Uav r token f e h k = omega arith
behind_length kind.Shared r token f e h k = omega arith
behind_length other r token f e h k = omega arith

negation_length : (b : Bool) (tokens : List ℕ) → b ≡ list_any is_negation tokens → (l n : ℕ) → l ≤ n → (if b then 1 + l else l) ≤ length tokens + n
negation_length true [] e l n h = absurd (false≢true (sym e))
negation_length true (t ∷ ts) e l n h = omega arith
negation_length false ts e l n h = omega arith

module _ (role : Role) (code : ℕ) (a : Argument) (words : List ℕ) (h : SpellsOperand Base code role a words) where
  operand_length : least_words a ≤ length words
  operand_length =
      let b = h.rest in
      let f = fixed_length (fixed_of a.kind h.token) a.slot a.x a.y a.z a.w b.fixed b.fixed_is in
      let e = element_length (element_of a.kind h.token) a.index a.relative b.element b.element_is in
      let l = behind_length a.kind a.relative h.token (length b.fixed) (length b.element) f e in
      let n = negation_length a.negate h.extended h.negate (least_by a.kind a.relative) (1 + (length b.fixed + length b.element)) l in
      let p : length words ≡ length (h.token ∷ (h.extended ++ h.behind)) = ap length h.parts in
      let q = length-append h.extended h.behind in
      let r : length h.behind ≡ length (b.fixed ++ b.element) = ap length b.parts in
      let s = length-append b.fixed b.element in
      omega arith

  operand_range : AddsInRange a.relative
  operand_range = element_range (element_of a.kind h.token) a.index a.relative h.rest.element h.rest.element_is

-- OPERANDS, one after the other
operands_length : (code : ℕ) (roles : List Role) (as' : List Argument) (words : List ℕ) → SpellsOperands Base code roles as' words
    → sum_by least_words as' ≤ length words
operands_length code [] [] words h = omega arith
operands_length code [] (a ∷ as') words h = absurd h
operands_length code (role ∷ roles) [] words h = absurd h
operands_length code (role ∷ roles) (a ∷ as') words h =
    let l = operand_length role code a h.0 h.3 in
    let n = operands_length code roles as' h.1 h.4 in
    let e : length words ≡ length (h.0 ++ h.1) = ap length h.2 in
    let f = length-append h.0 h.1 in
    let s = sum_by-append least_words (a ∷ []) as' in
    omega arith

operands_count : (code : ℕ) (roles : List Role) (as' : List Argument) (words : List ℕ) → SpellsOperands Base code roles as' words
    → length as' ≡ length roles
operands_count code [] [] words h = refl
operands_count code [] (a ∷ as') words h = absurd h
operands_count code (role ∷ roles) [] words h = absurd h
operands_count code (role ∷ roles) (a ∷ as') words h = ap suc (operands_count code roles as' h.1 h.4)

operands_range : (code : ℕ) (roles : List Role) (as' : List Argument) (words : List ℕ) → SpellsOperands Base code roles as' words
    → Each (λ a. AddsInRange a.relative) as'
operands_range code [] [] words h = tt
operands_range code [] (a ∷ as') words h = absurd h
operands_range code (role ∷ roles) [] words h = absurd h
operands_range code (role ∷ roles) (a ∷ as') words h = (operand_range role code a h.0 h.3, operands_range code roles as' h.1 h.4)

operands_take : (code : ℕ) (roles : List Role) (as' : List Argument) (words : List ℕ) → SpellsOperands Base code roles as' words → Take code roles as'
operands_take code [] as' words h = tt
operands_take code (role ∷ roles) [] words h = absurd h
operands_take code (role ∷ roles) (a ∷ as') words h = (h.3.head.allowed, operands_take code roles as' h.1 h.4)

take_more : (code n : ℕ) (roles : List Role) (as' : List Argument) → Take code roles (take n as') → Take code roles as'
take_more code n [] as' h = tt
take_more code zero (role ∷ roles) as' h = absurd h
take_more code (suc n) (role ∷ roles) [] h = absurd h
take_more code (suc n) (role ∷ roles) (a ∷ as') h = (h.0, take_more code n roles as' h.1)

-- THE ROLES of an instruction are those of its meaning
same_roles : (o : Option Meaning) (code : ℕ) → meaning_of Base code ≡ o → is_some o ≡ true → roles_at Base code ≡ roles_in o
unfolding form_of
same_roles None code e h = absurd (false≢true h)
same_roles (Some m) code e h = ap (λ x. roles_by (option_map form_of_meaning x) (layout_of Base code)) e

roles_are : (o : Option Meaning) (code : ℕ) → meaning_of Base code ≡ o → is_some o ≡ true → length (roles_at Base code) ≡ arity o
unfolding form_of
roles_are None code e h = absurd (false≢true h)
roles_are (Some m) code e h = ap (λ x. length (roles_by (option_map form_of_meaning x) (layout_of Base code))) e

each_drop : {X : Type 0} (P : X → Type 0) (n : ℕ) (xs : List X) → Each P xs → Each P (drop n xs)
each_drop P zero xs h = h
each_drop P (suc n) [] h = tt
each_drop P (suc n) (x ∷ xs) h = each_drop P n xs h.1

pub each_operand : (P : Argument → Type 0) (i : Instruction) → drop i.count (operands i) ≡ drop i.count nothings → P nothing → Each P (arguments i)
    → Each P (operands i)
each_operand P i e n h =
    subst (Each P) (take-append-drop i.count (operands i))
    (each_append P (arguments i) (drop i.count (operands i)) h (subst (Each P) (sym e) (each_drop P i.count nothings (n, (n, (n, (n, (n, tt))))))))

module _ (i : Instruction) (words : List ℕ) (h : SpellsInstruction Base i words) (o : Option Meaning) (e : meaning_of Base i.code ≡ o)
    (some : is_some o ≡ true) where
  pub count_is : i.count ≡ arity o
  count_is =
      let a = operands_count i.code (roles_at Base i.code) (arguments i) h.spelled.operands h.spelled.roles in
      let b = length-take-le i.count (operands i) h.count in
      let c = roles_are o i.code e some in
      omega arith

  pub is_long : IsLong o i
  is_long = record {
    size = subst (λ n. 1 + sum_by least_words (take n (operands i)) ≤ i.length) count_is
        (let l = operands_length i.code (roles_at Base i.code) (arguments i) h.spelled.operands h.spelled.roles in
        let t : length h.spelled.head ≡ length (h.spelled.tokens.token ∷ h.spelled.tokens.extended) = ap length h.spelled.tokens.parts in
        let p : length words ≡ length (h.spelled.head ++ (h.spelled.operands ++ [])) = ap length h.spelled.parts in
        let q = length-append h.spelled.head (h.spelled.operands ++ []) in
        let r = length-append h.spelled.operands [] in
        let z = h.size in
        omega arith);
    others = subst (λ n. drop n (operands i) ≡ drop n nothings) count_is h.others;
  }

  pub in_range : Each (λ a. AddsInRange a.relative) (operands i)
  in_range = each_operand (λ a. AddsInRange a.relative) i h.others tt (operands_range i.code (roles_at Base i.code) (arguments i) h.spelled.operands
      h.spelled.roles)

  pub types_taken : Take i.code (roles_in o) (operands i)
  types_taken =
      subst (λ roles. Take i.code roles (operands i)) (same_roles o i.code e some)
      (take_more i.code i.count (roles_at Base i.code) (operands i) (operands_take i.code (roles_at Base i.code) (arguments i) h.spelled.operands
      h.spelled.roles))
