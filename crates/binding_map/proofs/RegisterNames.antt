-- The names of registers: what is written of a register is read again.
use Rattle.std.proofs.Common.{◌≡◌, ℕ, ◌<◌, ◌≤◌, ◌^◌, Bool, true, false, cond, nat_lt, List, drop, Option, Some, None, refl, ap, ◌∙◌, subst, arith}
use Rattle.std.specs.Prelude.{nat_eq, codes}
use Rattle.std.specs.Fmt.{decimal}
use Rattle.std.specs.List.{starts_with}
use Rattle.std.specs.Option.{option_map}
use Rattle.text_lines.specs.Lines.{lacks}
use Rattle.text_lines.specs.Numbers.{number_of}
use Rattle.text_lines.specs.Parts.{is_word}
use Rattle.text_lines.proofs.Digits.{decimal_word, number_again}
use Rattle.text_lines.proofs.Read.{longer_word}
use Rattle.binding_map.specs.declared.register.Register.{Register}
use Rattle.binding_map.specs.declared.register.Register.TheVariants.{Constant, Resource, Uav, Counter}
use Rattle.binding_map.specs.Bindings.{slot_of}
use Rattle.binding_map.specs.Names.{below, kind_name, name_of, register_named, slots_of}

is_below : (n limit : ℕ) → n < limit → nat_lt n limit ≡ true
is_below n limit h = grind arith

slot_again : (make : ℕ → Register) (n limit : ℕ) → n < limit → limit ≤ 128 → option_map make (below limit (number_of (decimal n))) ≡ Some (make n)
slot_again make n limit h l =
    ap (λ o. option_map make (below limit o)) (number_again n (omega (arith, h, l)))
    ∙ ap (λ t. option_map make (cond t (Some n) None)) (is_below n limit h)

pub name_again : (r : Register) → slot_of r < slots_of r → register_named (name_of r) ≡ Some r
name_again (Constant slot) h = slot_again Constant slot 14 h (omega arith)
name_again (Resource slot) h = slot_again Resource slot 128 h (omega arith)
name_again (Uav slot) h = slot_again Uav slot 64 h (omega arith)
name_again (Counter slot) h = slot_again Counter slot 64 h (omega arith)

no_spaces : (r : Register) → lacks 32 (kind_name r) ≡ true
no_spaces (Constant slot) = refl
no_spaces (Resource slot) = refl
no_spaces (Uav slot) = refl
no_spaces (Counter slot) = refl

pub name_word : (r : Register) → slot_of r < 2 ^ 64 → is_word (name_of r) ≡ true
name_word r h = longer_word (kind_name r) (decimal (slot_of r)) (no_spaces r) (decimal_word (slot_of r) h)

-- a slot that is read is below its limit
module _ (r : Register) where
  read_below : (make : ℕ → Register) (limit : ℕ) (o : Option ℕ) → ((n : ℕ) → n < limit → slot_of (make n) < slots_of (make n))
      → option_map make (below limit o) ≡ Some r → slot_of r < slots_of r
  read_below make limit None fits e = absurd (cc e)
  read_below make limit (Some n) fits e = by (nat_lt n limit) refl e where
    less : nat_lt n limit ≡ true → n < limit
    less t = grind arith

    by : (t : Bool) → nat_lt n limit ≡ t → option_map make (cond t (Some n) None) ≡ Some r → slot_of r < slots_of r
    by true t e = let same : make n ≡ r = cc e in subst (λ x. slot_of x < slots_of x) same (fits n (less t))
    by false t e = absurd (cc e)

  pub name_bounded : (name : List ℕ) → register_named name ≡ Some r → slot_of r < slots_of r
  name_bounded name e =
      by (starts_with nat_eq name (codes "cb")) (starts_with nat_eq name (codes "counter")) (starts_with nat_eq name (codes "t"))
      (starts_with nat_eq name (codes "u")) e
    where
      by : (a b c d : Bool)
          → cond a (option_map Constant (below 14 (number_of (drop 2 name)))) (cond b (option_map Counter (below 64 (number_of (drop 7 name))))
          (cond c (option_map Resource (below 128 (number_of (drop 1 name)))) (cond d (option_map Uav (below 64 (number_of (drop 1 name)))) None)))
          ≡ Some r → slot_of r < slots_of r
      by true b c d e = read_below Constant 14 (number_of (drop 2 name)) (λ n h. h) e
      by false true c d e = read_below Counter 64 (number_of (drop 7 name)) (λ n h. h) e
      by false false true d e = read_below Resource 128 (number_of (drop 1 name)) (λ n h. h) e
      by false false false true e = read_below Uav 64 (number_of (drop 1 name)) (λ n h. h) e
      by false false false false e = absurd (cc e)
