-- The words of instructions, and that a text has one module.
use Rattle.std.proofs.Common.{◌≡◌, ℕ, ◌+◌, ◌*◌, ◌<◌, List, [], ◌∷◌, ◌++◌, length, slice_index, ◌^◌, IsTrue, refl, sym, ap, ◌∙◌, arith}
use Rattle.std.specs.List.{list_all}
use Rattle.std.proofs.lemmas.Bool.{and_parts}
use Rattle.std.proofs.lemmas.List.{append_assoc}
use Rattle.spirv_words.specs.Text.{Instr, Module, instr, is_instr, IsInstr, IsTextOf, header_of, words_of_instr, words_of_code}
use Rattle.spirv_words.specs.TextExamples.{wide}
use Rattle.spirv_words.proofs.Numbers.{number_is_short}

pub append : (xs ys : List Instr) → words_of_code (xs ++ ys) ≡ words_of_code xs ++ words_of_code ys
append [] ys = refl
append (x ∷ xs) ys = ap (λ ws. words_of_instr x ++ ws) (append xs ys) ∙ sym (append_assoc (words_of_instr x) (words_of_code xs) (words_of_code ys))

-- lists of one length in front of others
pub same_front : (ps qs xs ys : List ℕ) → length ps ≡ length qs → ps ++ xs ≡ qs ++ ys → (ps ≡ qs) × (xs ≡ ys)
same_front [] [] xs ys l e = (refl, e)
same_front [] (b ∷ qs) xs ys l e = absurd (omega (arith, l))
same_front (a ∷ ps) [] xs ys l e = absurd (omega (arith, l))
same_front (a ∷ ps) (b ∷ qs) xs ys l e =
    let head : a ≡ b = cc in
    let tail : ps ++ xs ≡ qs ++ ys = cc in
    let rest = same_front ps qs xs ys (omega (arith, l)) tail in
    let front : a ∷ ps ≡ b ∷ qs = rw (head, rest.0) refl in
    (front, rest.1)

-- a first word determines the number and the count
count_of : (m n p q : ℕ) → p < 256 → q < 256 → 65536 * (m + 1) + p ≡ 65536 * (n + 1) + q → m ≡ n
count_of m n p q hp hq e = omega (arith, hp, hq, e)

number_of_word : (m n p q : ℕ) → m ≡ n → 65536 * (m + 1) + p ≡ 65536 * (n + 1) + q → p ≡ q
number_of_word m n p q h e = omega (arith, h, e)

pub same_code : (xs ys : List Instr) → IsTrue (list_all is_instr xs) → IsTrue (list_all is_instr ys) → words_of_code xs ≡ words_of_code ys → xs ≡ ys
same_code [] [] hx hy e = refl
same_code [] (y ∷ ys) hx hy e = absurd cc
same_code (x ∷ xs) [] hx hy e = absurd cc
same_code (x ∷ xs) (y ∷ ys) hx hy e =
    let px : IsInstr x = (and_parts (is_instr x) (list_all is_instr xs) hx).0 in
    let py : IsInstr y = (and_parts (is_instr y) (list_all is_instr ys) hy).0 in
    let word : 65536 * (length x.operands + 1) + x.op ≡ 65536 * (length y.operands + 1) + y.op = cc in
    let rest : x.operands ++ words_of_code xs ≡ y.operands ++ words_of_code ys = cc in
    let lengths = count_of (length x.operands) (length y.operands) x.op y.op (number_is_short x.op x.operands px) (number_is_short y.op y.operands py) word in
    let numbers = number_of_word (length x.operands) (length y.operands) x.op y.op lengths word in
    let parts = same_front x.operands y.operands (words_of_code xs) (words_of_code ys) lengths rest in
    let further = same_code xs ys (and_parts (is_instr x) (list_all is_instr xs) hx).1 (and_parts (is_instr y) (list_all is_instr ys) hy).1 parts.1 in
    same_instrs x.op y.op x.operands y.operands xs ys numbers parts.0 further where
      same_instrs : (p q : ℕ) (us vs : List ℕ) (is js : List Instr) → p ≡ q → us ≡ vs → is ≡ js → instr p us ∷ is ≡ instr q vs ∷ js
      same_instrs p q us vs is js hp ha hi = rw (hp, ha, hi) refl

-- a text has one module
pub determined : (m n : Module) (words : List ℕ) → IsTextOf m words → IsTextOf n words → m ≡ n
determined m n words a b =
    let e : header_of m ++ words_of_code m.code ≡ header_of n ++ words_of_code n.code = sym a.is_text ∙ b.is_text in
    let version : m.version ≡ n.version = cc in
    let bound : m.bound ≡ n.bound = cc in
    let words_same : words_of_code m.code ≡ words_of_code n.code = cc in
    same_module m.version n.version m.bound n.bound m.code n.code version bound (same_code m.code n.code a.instructions b.instructions words_same) where
      same_module : (v w b c : ℕ) (is js : List Instr) → v ≡ w → b ≡ c → is ≡ js
          → Prim.Path Module (record { version = v; bound = b; code = is }) (record { version = w; bound = c; code = js })
      same_module v w b c is js hv hb hi = rw (hv, hb, hi) refl

-- a module whose ids are no words has no text
pub wide_has_no_text : (text : List ℕ) → IsTextOf wide text → ⊥
wide_has_no_text text t =
    let at_bound : slice_index text 3 < 2 ^ 32 = t.words 3 in
    let bound : slice_index text 3 ≡ 5 * 2 ^ 32 = ap (λ ws. slice_index ws 3) t.is_text in
    omega (arith, at_bound, bound)
