-- The tables of instructions and declarations, and custom data, have no opcode in common.
use Rattle.std.proofs.Common.{◌≡◌, ℕ, List, [], ◌∷◌, Option, Some, None, Bool, true, false, not, ◌&&◌, ◌||◌, ◌⊎◌, inl, inr, nat_eq, refl, ap, subst, arith}
use Rattle.std.specs.Prelude.{is_some, if◌then◌else◌}
use Rattle.std.specs.List.{list_any, list_all}
use Rattle.std.proofs.lemmas.Bool.Decides.{nat_tests}
use Rattle.tpf_decode.specs.Profiles.{Base, includes}
use Rattle.tpf_decode.specs.Opcodes.{form_of, meaning_of, opcode_table}
use Rattle.tpf_decode.specs.Declarations.{DeclarationRow, declaration_table, layout_in, layout_of, is_known}
use Rattle.tpf_decode.specs.declared.declaration.Layout.{Layout}
use Rattle.tpf_program.proofs.Truths.{both}

-- a row of the base profile has the property that all of them have
abbrev HaveAll : (ℕ → Bool) → List DeclarationRow → Type 0
HaveAll test rows = list_all (λ row. not (includes Base row.since) || test row.code) rows ≡ true

found_in : (test : ℕ → Bool) (code : ℕ) (rows : List DeclarationRow) → HaveAll test rows → is_some (layout_in Base code rows) ≡ true → test code ≡ true
found_in test code [] h k = cc
found_in test code (row ∷ rows) h k =
    let t = both (not (includes Base row.since) || test row.code) (list_all (λ row. not (includes Base row.since) || test row.code) rows) h in
    by_test (includes Base row.since) (nat_eq row.code code) (record { role = row.role; kind = row.kind; words = row.words }) refl k t.0 (found_in test code rows t.1)
  where
    by_test : (b c : Bool) (x : Layout) → c ≡ nat_eq row.code code → is_some (if b && c then Some x else layout_in Base code rows) ≡ true → (not b || test row.code) ≡ true
        → (is_some (layout_in Base code rows) ≡ true → test code ≡ true) → test code ≡ true
    by_test true true x e k t f = let s : row.code ≡ code = grind (arith, nat_tests) in subst (λ n. test n ≡ true) s t
    by_test true false x e k t f = f k
    by_test false c x e k t f = f k

some_is : {A : Type 0} (o : Option A) (x : A) → o ≡ Some x → is_some o ≡ true
some_is None x h = cc
some_is (Some y) x h = refl

none_is : {A : Type 0} (o : Option A) → not (is_some o) ≡ true → o ≡ None
none_is None h = refl
none_is (Some y) h = cc

-- no declaration is an instruction
tests_all : HaveAll (λ n. not (is_some (form_of Base n))) declaration_table
unfolding form_of meaning_of opcode_table declaration_table
tests_all = refl

layout_tests : (test : ℕ → Bool) (code : ℕ) → HaveAll test declaration_table → is_some (layout_of Base code) ≡ true → test code ≡ true
unfolding layout_of
layout_tests test code t h = found_in test code declaration_table t h

pub no_form : (code : ℕ) (layout : Layout) → layout_of Base code ≡ Some layout → form_of Base code ≡ None
no_form code layout h = none_is (form_of Base code) (layout_tests (λ n. not (is_some (form_of Base n))) code tests_all (some_is (layout_of Base code) layout h))

abbrev pub is_declared_code : ℕ → Bool
is_declared_code code = list_any (λ k. nat_eq k code) (89 ∷ 95 ∷ 104 ∷ 105 ∷ 106 ∷ 155 ∷ 157 ∷ 158 ∷ 159 ∷ 160 ∷ 161 ∷ 162 ∷ [])

codes_all : HaveAll is_declared_code declaration_table
unfolding declaration_table
codes_all = refl

pub declared_code : (code : ℕ) → is_some (layout_of Base code) ≡ true → is_declared_code code ≡ true
declared_code code h = layout_tests is_declared_code code codes_all h

-- custom data is neither
pub custom_unknown : is_known Base 53 ≡ false
unfolding form_of meaning_of opcode_table layout_of declaration_table
custom_unknown = refl

-- neither are the declarations of typed views
pub typed_unknown : (code : ℕ) → (code ≡ 88) ⊎ (code ≡ 156) → is_known Base code ≡ false
unfolding form_of meaning_of opcode_table layout_of declaration_table
typed_unknown code (inl e) = ap (is_known Base) e
typed_unknown code (inr e) = ap (is_known Base) e
