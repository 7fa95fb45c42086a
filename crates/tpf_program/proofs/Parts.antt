-- Operands that are read one after the other.
use Rattle.std.proofs.Common.{◌≡◌, ℕ, zero, suc, ◌+◌, ◌<◌, ◌≤◌, List, [], ◌∷◌, ◌++◌, length, take, drop, Some, refl, sym, ap, ◌∙◌, subst, arith, append_assoc, append-nil, length-append}
use Rattle.std.specs.Prelude.{slice_range, slice_set}
use Rattle.word_base.specs.declared.rule.Refusal.{Refusal}
use Rattle.word_base.specs.Rules.{first}
use Rattle.tpf_decode.specs.declared.argument.Argument.{Argument}
use Rattle.tpf_decode.specs.declared.argument.Role.{Role}
use Rattle.tpf_decode.specs.Profiles.{Profile, Base}
use Rattle.tpf_decode.specs.Spelling.{SpellsOperand, SpellsOperands}
use Rattle.tpf_decode.specs.Refusals.{Rest, nothing, IsOrderly, operand_faults, operands_faults}
use Rattle.tpf_decode.proofs.Ranges.{range_split, range_none, length-range}
use Rattle.tpf_decode.proofs.Spelled.{operand_pass}
use Rattle.tpf_decode.proofs.Wholes.{operand_refused}
use Rattle.tpf_decode.proofs.Instructions.{operands_orderly}
use Rattle.tpf_program.specs.Spelling.{nothings}
use Rattle.tpf_program.specs.Reading.{HasOperands}

-- there are as many operands as roles
pub operands_count : (profile : Profile) (code : ℕ) (roles : List Role) (arguments : List Argument) (words : List ℕ) → SpellsOperands profile code roles arguments words → length arguments ≡ length roles
operands_count profile code [] [] words h = refl
operands_count profile code [] (a ∷ arguments) words h = absurd h
operands_count profile code (role ∷ roles) [] words h = absurd h
operands_count profile code (role ∷ roles) (a ∷ arguments) words h = omega (arith, operands_count profile code roles arguments h.1 h.4)

-- one operand more
pub operands_more : (profile : Profile) (code : ℕ) (roles : List Role) (role : Role) (arguments : List Argument) (a : Argument) (front back : List ℕ)
    → SpellsOperands profile code roles arguments front → SpellsOperand profile code role a back → SpellsOperands profile code (roles ++ role ∷ []) (arguments ++ a ∷ []) (front ++ back)
operands_more profile code [] role [] a front back h k = (back, [], ap (λ l. l ++ back) h ∙ sym (append-nil back), k, refl)
operands_more profile code [] role (b ∷ arguments) a front back h k = absurd h
operands_more profile code (r ∷ roles) role [] a front back h k = absurd h
operands_more profile code (r ∷ roles) role (b ∷ arguments) a front back h k =
    (h.0, h.1 ++ back, ap (λ l. l ++ back) h.2 ∙ append_assoc h.0 h.1 back, h.3, operands_more profile code roles role arguments a h.1 back h.4 k)

-- spelled operands are passed over
pub operands_pass : (profile : Profile) (code : ℕ) (roles : List Role) (arguments : List Argument) (rest : Rest) (at : ℕ) (words more : List ℕ) → SpellsOperands profile code roles arguments words
    → operands_faults profile code roles rest at (words ++ more) ≡ rest (at + length words) more
operands_pass profile code [] [] rest at words more h =
    let e : at ≡ at + length words = omega (arith, ap length h) in
    ap (λ l. rest at (l ++ more)) h ∙ ap (λ n. rest n more) e
operands_pass profile code [] (a ∷ arguments) rest at words more h = absurd h
operands_pass profile code (role ∷ roles) [] rest at words more h = absurd h
operands_pass profile code (role ∷ roles) (a ∷ arguments) rest at words more h =
    let e : at + length h.0 + length h.1 ≡ at + length words = omega (arith, ap length h.2, length-append h.0 h.1) in
    ap (operands_faults profile code (role ∷ roles) rest at) (ap (λ l. l ++ more) h.2 ∙ append_assoc h.0 h.1 more)
    ∙ (operand_pass profile code role a (operands_faults profile code roles rest) at h.0 (h.1 ++ more) h.3
    ∙ (operands_pass profile code roles arguments rest (at + length h.0) h.1 more h.4 ∙ ap (λ n. rest n more) e))

operands_joined : (profile : Profile) (code : ℕ) (xs ys : List Role) (rest : Rest) → operands_faults profile code (xs ++ ys) rest ≡ operands_faults profile code xs (operands_faults profile code ys rest)
operands_joined profile code [] ys rest = refl
operands_joined profile code (role ∷ xs) ys rest = ap (operand_faults profile code role) (operands_joined profile code xs ys rest)

-- so many operands are read
pub record AreRead (code : ℕ) (roles : List Role) (k : ℕ) (places : List Argument) (words : List ℕ) (at place end : ℕ) : Type 0 where
  pub from : at ≤ place
  pub upto : place ≤ end
  pub held : HasOperands code (take k roles) places (slice_range words at place)

pub none_read : (code : ℕ) (roles : List Role) (words : List ℕ) (at end : ℕ) → at ≤ end → AreRead code roles 0 nothings words at at end
none_read code roles words at end h = record {
  from = omega arith;
  upto = h;
  held = record { arguments = []; places_are = refl; spelled = range_none words at };
}

set_next : (read places : List Argument) (a : Argument) → length read < length places → slice_set (read ++ drop (length read) places) (length read) a ≡ (read ++ a ∷ []) ++ drop (length read + 1) places
set_next read [] a h = absurd (omega arith)
set_next [] (p ∷ places) a h = refl
set_next (r ∷ read) (p ∷ places) a h =
    let e : suc (length read + 1) ≡ suc (length read) + 1 = omega arith in
    ap (λ l. r ∷ l) (set_next read places a (omega arith)) ∙ ap (λ n. r ∷ ((read ++ a ∷ []) ++ drop n (p ∷ places))) e

take_more : (roles : List Role) (k : ℕ) (role : Role) (later : List Role) → drop k roles ≡ role ∷ later → take (suc k) roles ≡ take k roles ++ role ∷ []
take_more [] zero role later h = cc
take_more [] (suc k) role later h = cc
take_more (r ∷ roles) zero role later h = let e : r ≡ role = cc in ap (λ x. x ∷ []) e
take_more (r ∷ roles) (suc k) role later h = ap (λ l. r ∷ l) (take_more roles k role later h)

next_number : (k : ℕ) → k + 1 ≡ suc k
next_number k = omega arith

length-taken : (roles : List Role) (k : ℕ) → k ≤ length roles → length (take k roles) ≡ k
length-taken [] zero h = refl
length-taken [] (suc k) h = absurd (omega arith)
length-taken (r ∷ roles) zero h = refl
length-taken (r ∷ roles) (suc k) h = omega (arith, length-taken roles k (omega arith))

-- the next one
pub one_read : (code : ℕ) (roles later : List Role) (k : ℕ) (places : List Argument) (words : List ℕ) (at place next end : ℕ) (role : Role) (a : Argument) → length roles ≤ 5 → k < length roles
    → drop k roles ≡ role ∷ later → AreRead code roles k places words at place end → place < next → next ≤ end → SpellsOperand Base code role a (slice_range words place next)
    → AreRead code roles (k + 1) (slice_set places k a) words at next end
one_read code roles later k places words at place next end role a few within here h from upto s =
    let read = h.held.arguments in
    let n : length read ≡ k = operands_count Base code (take k roles) read (slice_range words at place) h.held.spelled ∙ length-taken roles k (omega arith) in
    let m : length (read ++ a ∷ []) ≡ length read + 1 = length-append read (a ∷ []) in
    record {
      from = omega (arith, h.from);
      upto = upto;
      held = record {
        arguments = read ++ a ∷ [];
        places_are = ap (λ l. slice_set l k a) h.held.places_are
            ∙ (ap (λ i. slice_set (read ++ drop (length read) nothings) i a) (sym n)
            ∙ (set_next read nothings a (omega (arith, n)) ∙ ap (λ i. (read ++ a ∷ []) ++ drop i nothings) (sym m)));
        spelled = subst (λ l. SpellsOperands Base code l (read ++ a ∷ []) (slice_range words at next)) (sym (ap (λ n. take n roles) (next_number k) ∙ take_more roles k role later here))
            (subst (λ l. SpellsOperands Base code (take k roles ++ role ∷ []) (read ++ a ∷ []) l) (sym (range_split words at place next h.from (omega arith)))
            (operands_more Base code (take k roles) role read a (slice_range words at place) (slice_range words place next) h.held.spelled s));
      };
    }

take_and_drop : (roles : List Role) (k : ℕ) → roles ≡ take k roles ++ drop k roles
take_and_drop roles zero = refl
take_and_drop [] (suc k) = refl
take_and_drop (r ∷ roles) (suc k) = ap (λ l. r ∷ l) (take_and_drop roles k)

-- what the next one refuses is refused
pub one_refused : (code : ℕ) (roles later : List Role) (k : ℕ) (places : List Argument) (words : List ℕ) (at place end : ℕ) (role : Role) (r : Refusal) → end ≤ length words
    → drop k roles ≡ role ∷ later → AreRead code roles k places words at place end → first (operand_faults Base code role nothing place (slice_range words place end)) ≡ Some r
    → (rest : Rest) → IsOrderly rest → first (operands_faults Base code roles rest at (slice_range words at end)) ≡ Some r
one_refused code roles later k places words at place end role r fits here h refused rest o =
    let e : at + length (slice_range words at place) ≡ place = omega (arith, length-range words at place (omega (arith, h.upto)), h.from) in
    let more = operands_faults Base code later rest in
    ap (λ l. first (operands_faults Base code l rest at (slice_range words at end))) (take_and_drop roles k ∙ ap (λ l. take k roles ++ l) here)
    ∙ (ap (λ f. first (f at (slice_range words at end))) (operands_joined Base code (take k roles) (role ∷ later) rest)
    ∙ (ap (λ l. first (operands_faults Base code (take k roles) (operand_faults Base code role more) at l)) (range_split words at place end h.from h.upto)
    ∙ (ap first (operands_pass Base code (take k roles) h.held.arguments (operand_faults Base code role more) at (slice_range words at place) (slice_range words place end) h.held.spelled)
    ∙ (ap (λ n. first (operand_faults Base code role more n (slice_range words place end))) e
    ∙ operand_refused Base code role more place (slice_range words place end) r (operands_orderly Base code later rest o) refused))))

take_all : (roles : List Role) → take (length roles) roles ≡ roles
take_all [] = refl
take_all (r ∷ roles) = ap (λ l. r ∷ l) (take_all roles)

-- all of them
pub all_read : (code : ℕ) (roles : List Role) (k : ℕ) (places : List Argument) (words : List ℕ) (at place end : ℕ) → k ≡ length roles → AreRead code roles k places words at place end
    → HasOperands code roles places (slice_range words at place)
all_read code roles k places words at place end e h = subst (λ l. HasOperands code l places (slice_range words at place)) (ap (λ n. take n roles) e ∙ take_all roles) h.held
