-- A field set in a word leaves a word.
use Rattle.std.proofs.Common.{◌≡◌, ℕ, ◌+◌, ◌-◌, ◌*◌, ◌/◌, ◌%◌, ◌<◌, ◌≤◌, ◌^◌, sym, ap, ◌∙◌, subst, arith}
use Rattle.std.proofs.lemmas.Nat.{mul-add-lt, mod_below, shr_below, pow-add, pow_pos}
use Rattle.word_base.specs.Alu.{with_bits}

parts : (F M W x y q : ℕ) → x < F → y < M → q < W → x + y * F + q * (F * M) < (F * M) * W
parts F M W x y q h k l =
    let p = mul-add-lt y F x M k h in
    let r = mul-add-lt q (F * M) (y * F + x) W l p in
    omega (arith, r)

powers : (from to : ℕ) → from ≤ to → 2 ^ from * 2 ^ (to - from) ≡ 2 ^ to
powers from to h = sym (pow-add 2 from (to - from)) ∙ ap (λ n. 2 ^ n) (omega arith)

pub fits : (from to inserted base : ℕ) → from ≤ to → to ≤ 32 → base < 2 ^ 32 → with_bits from to inserted base < 2 ^ 32
fits from to inserted base h k l =
    let q : base / 2 ^ to < 2 ^ (32 - to) = shr_below base (32 - to) to (subst (λ n. base < 2 ^ n) (let e : 32 ≡ 32 - to + to = omega arith in e) l) in
    let r = parts (2 ^ from) (2 ^ (to - from)) (2 ^ (32 - to)) (base % 2 ^ from) (inserted % 2 ^ (to - from)) (base / 2 ^ to) (mod_below _ _ (pow_pos _)) (mod_below _ _ (pow_pos _)) q in
    subst (λ n. with_bits from to inserted base < n) (powers to 32 k)
    (subst (λ n. base % 2 ^ from + inserted % 2 ^ (to - from) * 2 ^ from + base / 2 ^ to * n < n * 2 ^ (32 - to)) (powers from to h) r)
