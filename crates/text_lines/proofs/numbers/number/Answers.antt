use Rattle.std.proofs.Common.{◌≡◌, ◌<◌, length, get_or, true, sym, ◌∙◌, arith}
use Rattle.std.specs.Char.{is_ascii_digit}
use Rattle.text_lines.proofs.Digits.{all_passed, one_more_digit}
use Rattle.text_lines.proofs.numbers.number.Goals as goal

pub loop-digit-preserved : goal.loop-digit-preserved
loop-digit-preserved c =
    let digit : is_ascii_digit (get_or c.args.digits.now c.loop-digit.digit-index 0) ≡ true = sym c.is_ascii_digit.ensures.value ∙ c.if-not-is_ascii_digit.false in
    let within : c.loop-digit.digit-index < length c.args.digits.now = omega arith in
    let more = one_more_digit c.args.digits.now c.loop-digit.digit-index c.loop-digit.value within digit c.loop-digit.invariant.value c.loop-digit.invariant.small in
    record {
      digits = all_passed c.args.digits.now c.loop-digit.digit-index within c.loop-digit.invariant.digits digit;
      value = more.0;
      small = more.1;
    }
