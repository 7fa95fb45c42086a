-- The parts of a program are told by its words.
use Rattle.std.proofs.Common.{◌≡◌, ℕ, ◌+◌, ◌<◌, List, [], ◌∷◌, ◌++◌, length, refl, sym, ap, ◌∙◌, subst, arith, length-append}
use Rattle.word_base.specs.declared.event.Room.{Room}
use Rattle.tpf_decode.specs.Profiles.{Base}
use Rattle.tpf_decode.specs.Spelling as token
use Rattle.tpf_decode.specs.declared.argument.Argument.{Argument}
use Rattle.tpf_program.specs.declared.declaration.Declared.{Declared}
use Rattle.tpf_program.specs.declared.instruction.Instruction.{Instruction}
use Rattle.tpf_program.specs.Program.{Shader}
use Rattle.tpf_program.specs.Spelling.{arguments, Item, Declares, Types, Does, Lists, Skips, SpellsItem, SpellsItems, Spells, declarations_in, instructions_in, constants_in, typed_in}
use Rattle.tpf_decode.proofs.Instructions.{front_same}
use Rattle.tpf_program.proofs.SameItems.{declared_same, instructions_same, custom_same, no_custom, no_both, no_typed}

pub item_told : (at : ℕ) (x y : Item) (ws vs xs ys : List ℕ) → SpellsItem Base at x ws → SpellsItem Base at y vs → ws ++ xs ≡ vs ++ ys → (x ≡ y) × (xs ≡ ys)
item_told at (Declares d) (Declares e) ws vs xs ys h k p =
    let s = declared_same d e at ws vs xs ys h.0 k.0 h.1 k.1 p in
    (ap (λ x. Declares x) s.0, s.1)
item_told at (Declares d) (Does i) ws vs xs ys h k p = absurd (no_both d i ws vs xs ys h.1 k.1 p)
item_told at (Declares d) (Lists place values) ws vs xs ys h k p = absurd (no_custom h.1.code h.1.controls 3 h.1.arguments h.1.further values ws vs xs ys h.1.spelled k.1 p)
item_told at (Declares d) (Skips kind values) ws vs xs ys h k p = absurd (no_custom h.1.code h.1.controls kind h.1.arguments h.1.further values ws vs xs ys h.1.spelled k.1 p)
item_told at (Types d view) y ws vs xs ys h k p = absurd (no_typed d.what view ws h.1)
item_told at (Declares d) (Types e view) ws vs xs ys h k p = absurd (no_typed e.what view vs k.1)
item_told at (Does i) (Types e view) ws vs xs ys h k p = absurd (no_typed e.what view vs k.1)
item_told at (Lists place values) (Types e view) ws vs xs ys h k p = absurd (no_typed e.what view vs k.1)
item_told at (Skips kind values) (Types e view) ws vs xs ys h k p = absurd (no_typed e.what view vs k.1)
item_told at (Does i) (Declares d) ws vs xs ys h k p = absurd (no_both d i vs ws ys xs k.1 h.1 (sym p))
item_told at (Does i) (Does j) ws vs xs ys h k p =
    let s = instructions_same i j at ws vs xs ys h.0 k.0 h.1 k.1 p in
    (ap (λ x. Does x) s.0, s.1)
item_told at (Does i) (Lists place values) ws vs xs ys h k p = absurd (no_custom i.code i.controls 3 (arguments i) [] values ws vs xs ys h.1.spelled k.1 p)
item_told at (Does i) (Skips kind values) ws vs xs ys h k p = absurd (no_custom i.code i.controls kind (arguments i) [] values ws vs xs ys h.1.spelled k.1 p)
item_told at (Lists place values) (Declares d) ws vs xs ys h k p = absurd (no_custom k.1.code k.1.controls 3 k.1.arguments k.1.further values vs ws ys xs k.1.spelled h.1 (sym p))
item_told at (Lists place values) (Does i) ws vs xs ys h k p = absurd (no_custom i.code i.controls 3 (arguments i) [] values vs ws ys xs k.1.spelled h.1 (sym p))
item_told at (Lists place values) (Lists other others) ws vs xs ys h k p =
    let s = custom_same 3 3 values others ws vs xs ys h.1 k.1 p in
    (ap (λ n. Lists n values) (h.0 ∙ sym k.0) ∙ ap (λ l. Lists other l) s.1, s.2)
item_told at (Lists place values) (Skips kind others) ws vs xs ys h k p =
    let s = custom_same 3 kind values others ws vs xs ys h.1 k.1 p in
    absurd (omega (arith, s.0, k.0))
item_told at (Skips kind values) (Declares d) ws vs xs ys h k p = absurd (no_custom k.1.code k.1.controls kind k.1.arguments k.1.further values vs ws ys xs k.1.spelled h.1 (sym p))
item_told at (Skips kind values) (Does i) ws vs xs ys h k p = absurd (no_custom i.code i.controls kind (arguments i) [] values vs ws ys xs k.1.spelled h.1 (sym p))
item_told at (Skips kind values) (Lists place others) ws vs xs ys h k p =
    let s = custom_same kind 3 values others ws vs xs ys h.1 k.1 p in
    absurd (omega (arith, s.0, h.0))
item_told at (Skips kind values) (Skips other others) ws vs xs ys h k p =
    let s = custom_same kind other values others ws vs xs ys h.1 k.1 p in
    (ap (λ n. Skips n values) s.0 ∙ ap (λ l. Skips other l) s.1, s.2)

-- no part has no words
spelled_some : (code controls : ℕ) (arguments : List Argument) (further words : List ℕ) → token.Spells Base code controls arguments further words → 0 < length words
spelled_some code controls arguments further words s =
    omega (arith, ap length s.parts, ap length s.tokens.parts, length-append s.head (s.operands ++ further))

pub item_some : (at : ℕ) (x : Item) (words : List ℕ) → SpellsItem Base at x words → 0 < length words
item_some at (Declares d) words h = spelled_some h.1.code h.1.controls h.1.arguments h.1.further words h.1.spelled
item_some at (Types d view) words h = absurd (no_typed d.what view words h.1)
item_some at (Does i) words h = spelled_some i.code i.controls (arguments i) [] words h.1.spelled
item_some at (Lists place values) words h = omega (arith, ap length h.1.parts)
item_some at (Skips kind values) words h = omega (arith, ap length h.1.parts)

no_item : (at : ℕ) (x : Item) (front rest : List ℕ) → SpellsItem Base at x front → [] ≡ front ++ rest → ⊥
no_item at x front rest h e =
    let n : 0 ≡ length front + length rest = ap length e ∙ length-append front rest in
    omega (arith, n, item_some at x front h)

pub items_told : (at : ℕ) (xs ys : List Item) (words : List ℕ) → SpellsItems Base at xs words → SpellsItems Base at ys words → xs ≡ ys
items_told at [] [] words h k = refl
items_told at [] (y ∷ ys) words h k = absurd (no_item at y k.0 k.1 k.3 (sym h ∙ k.2))
items_told at (x ∷ xs) [] words h k = absurd (no_item at x h.0 h.1 h.3 (sym k ∙ h.2))
items_told at (x ∷ xs) (y ∷ ys) words h k =
    let e : h.0 ++ h.1 ≡ k.0 ++ k.1 = sym h.2 ∙ k.2 in
    let s = item_told at x y h.0 k.0 h.1 k.1 h.3 k.3 e in
    let l : length k.0 ≡ length h.0 = omega (arith, ap length e, ap length s.1, length-append h.0 h.1, length-append k.0 k.1) in
    let r = items_told (at + length h.0) xs ys h.1 h.4 (subst (λ l. SpellsItems Base (at + length h.0) ys l) (sym s.1) (subst (λ m. SpellsItems Base (at + m) ys k.1) l k.4)) in
    ap (λ z. z ∷ xs) s.0 ∙ ap (λ l. y ∷ l) r

shader_is : (p q : Shader) → p.words ≡ q.words → p.declarations ≡ q.declarations → p.constants ≡ q.constants → p.instructions ≡ q.instructions → p.typed ≡ q.typed → p ≡ q
shader_is p q a b c d e = fields p.words p.declarations p.constants p.instructions p.typed a b c d e
  where
    fields : (n : ℕ) (ds : List Declared) (cs : List ℕ) (is : List Instruction) (ts : List Room) → n ≡ q.words → ds ≡ q.declarations → cs ≡ q.constants → is ≡ q.instructions
        → ts ≡ q.typed → record { words = n; declarations = ds; constants = cs; instructions = is; typed = ts } ≡ q
    fields n ds cs is ts a b c d e = rw (a, b, c, d, e) refl

-- one program is spelled
pub program_told : (p q : Shader) (tokens : List ℕ) → Spells Base p tokens → Spells Base q tokens → p ≡ q
program_told p q tokens a b =
    let e = sym a.whole ∙ b.whole in
    let n : p.words ≡ q.words = cc in
    let r : a.body ++ a.ignored ≡ b.body ++ b.ignored = cc in
    let l : length a.body ≡ length b.body = omega (arith, a.count, b.count, n) in
    let s = front_same a.body b.body a.ignored b.ignored l r in
    let i = items_told 2 a.items b.items a.body a.parts (subst (λ l. SpellsItems Base 2 b.items l) (sym s.0) b.parts) in
    shader_is p q n
    (a.declarations ∙ (ap declarations_in i ∙ sym b.declarations))
    (a.constants ∙ (ap constants_in i ∙ sym b.constants))
    (a.instructions ∙ (ap instructions_in i ∙ sym b.instructions))
    (a.typed ∙ (ap typed_in i ∙ sym b.typed))
