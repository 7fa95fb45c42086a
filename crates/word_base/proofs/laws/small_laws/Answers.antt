use Rattle.word_base.proofs.ShiftedFields.{unsigned_shifts, signed_shifts, no_bits, no_signed_bits, bits_past_end, signed_bits_past_end}
use Rattle.word_base.proofs.Turned.{dividend, rest_below, reversed_twice, first_of_complement, first_of_positive}
use Rattle.word_base.proofs.laws.small_laws.Goals as goal

pub returns-clause-unsigned_field : goal.returns-clause-unsigned_field
returns-clause-unsigned_field c = unsigned_shifts

pub returns-clause-signed_field : goal.returns-clause-signed_field
returns-clause-signed_field c = signed_shifts

pub returns-clause-unsigned_none : goal.returns-clause-unsigned_none
returns-clause-unsigned_none c = no_bits

pub returns-clause-signed_none : goal.returns-clause-signed_none
returns-clause-signed_none c = no_signed_bits

pub returns-clause-unsigned_end : goal.returns-clause-unsigned_end
returns-clause-unsigned_end c = bits_past_end

pub returns-clause-signed_end : goal.returns-clause-signed_end
returns-clause-signed_end c = signed_bits_past_end

pub returns-clause-dividend : goal.returns-clause-dividend
returns-clause-dividend c = dividend

pub returns-clause-rest : goal.returns-clause-rest
returns-clause-rest c = rest_below

pub returns-clause-reversed : goal.returns-clause-reversed
returns-clause-reversed c = reversed_twice

pub returns-clause-complement : goal.returns-clause-complement
returns-clause-complement c = first_of_complement

pub returns-clause-positive : goal.returns-clause-positive
returns-clause-positive c = first_of_positive
