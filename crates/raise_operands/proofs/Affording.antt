-- The sums of an instruction's statement are below its bounds.
use Rattle.std.proofs.Common.{◌≡◌, ℕ, ◌+◌, ◌*◌, ◌≤◌, Bool, true, false, List, [], ◌∷◌, ◌++◌, map, Option, Some, None, refl, sym, ap, subst, arith}
use Rattle.std.specs.Prelude.{if◌then◌else◌, nat_lt}
use Rattle.std.proofs.lemmas.Bool.{false≢true}
use Rattle.tpf_decode.specs.declared.argument.Argument.{Argument}
use Rattle.tpf_decode.specs.declared.argument.Kind.{Kind}
use Rattle.tpf_decode.specs.declared.argument.Kind.TheVariants as kind
use Rattle.tpf_decode.specs.declared.argument.Relative.{Relative}
use Rattle.tpf_decode.specs.Opcodes.{meaning_of}
use Rattle.tpf_decode.specs.Profiles.{Base}
use Rattle.tpf_decode.specs.declared.meaning.Meaning.{Meaning}
use Rattle.tpf_decode.specs.declared.meaning.Meaning.TheVariants.{One, Two, Three, Inserts, Pair, Swaps, Nop}
use Rattle.tpf_program.specs.declared.instruction.Instruction.{Instruction}
use Rattle.tpf_program.specs.Program.{Shader}
use Rattle.shader_tree.specs.Costs.{Cost, cost, words_in, ids_in, Affords}
use Rattle.shader_tree.specs.Terms.{Term}
use Rattle.shader_tree.specs.Terms as term
use Rattle.shader_tree.specs.Values.{Spaces}
use Rattle.raise_operands.specs.Laws.{CostsAt, Spends, total}
use Rattle.raise_operands.specs.Raises.{least_added, least_by, least_words, IsLong, is_computed}
use Rattle.raise_operands.specs.Raising.{chained, target, write_by, first_written, second_written, first_part, second_part, parts, now, behind, indices, raised, raised_by, statement_of}
use Rattle.tpf_decode.specs.Roles.{is_register}
use Rattle.shader_tree.specs.declared.node.Space.TheVariants.{Temps}
use Rattle.raise_operands.specs.Building.{has_index}
use Rattle.raise_operands.specs.Folding.{literal}
use Rattle.raise_operands.specs.Vectors.{At, Outside, index_word, keeps_by, keeps_index, spaces_of, vector, vector_by}
use Rattle.raise_operands.proofs.Sums.{has_relative, spends_more}
use Rattle.raise_operands.proofs.Totals.{other_target, source_spends, write_spends, Both, Total, total_words, total_ids, words_append, ids_append, chained_spends, spent, spent_written, list_total, one_list_total, keeps_spends, first_both, second_both, first_none, second_none, source_cost, added_cost, keep_cost, write_cost, value_cost, is_target, Dest, there, none}

-- WHAT IS ADDED to an index, a source, and a destination, each against its fewest words
added_words : (kind : Kind) → (added_cost kind).words + 232 ≤ 256 * least_added kind
added_words kind.Temp = omega arith
added_words kind.Indexable = omega arith
added_words kind.Constant = omega arith
added_words other = omega arith

added_ids : (kind : Kind) → (added_cost kind).ids + 44 ≤ 48 * least_added kind
added_ids kind.Temp = omega arith
added_ids kind.Indexable = omega arith
added_ids kind.Constant = omega arith
added_ids other = omega arith

record Fits (words ids keep_words keep_ids least : ℕ) : Type 0 where
  twice_words : 8 * words + keep_words ≤ 256 * least + 183
  twice_ids : 8 * ids + keep_ids ≤ 48 * least + 43
  once_words : 4 * words + keep_words ≤ 256 * least
  once_ids : 4 * ids + keep_ids ≤ 48 * least

plain_fits : (kind : Kind) (r : Option Relative) → Fits (source_cost kind r false).words (source_cost kind r false).ids (keep_cost kind r).words
    (keep_cost kind r).ids (least_by kind r)
plain_fits kind.Indexable None = record { twice_words = omega arith; twice_ids = omega arith; once_words = omega arith; once_ids = omega arith }
plain_fits kind.Indexable (Some r) =
    let w = added_words r.kind in let n = added_ids r.kind in record {
      twice_words = omega arith;
      twice_ids = omega arith;
      once_words =
          omega arith;
      once_ids = omega arith;
    }
plain_fits kind.Constant None = record { twice_words = omega arith; twice_ids = omega arith; once_words = omega arith; once_ids = omega arith }
plain_fits kind.Constant (Some r) =
    let w = added_words r.kind in let n = added_ids r.kind in record {
      twice_words = omega arith;
      twice_ids = omega arith;
      once_words =
          omega arith;
      once_ids = omega arith;
    }
plain_fits kind.ImmediateConstant None = record {
  twice_words = omega arith;
  twice_ids = omega arith;
  once_words = omega arith;
  once_ids =
      omega arith;
}
plain_fits kind.ImmediateConstant (Some r) =
    let w = added_words r.kind in let n = added_ids r.kind in record {
      twice_words = omega arith;
      twice_ids = omega arith;
      once_words =
          omega arith;
      once_ids = omega arith;
    }
plain_fits other r = record { twice_words = omega arith; twice_ids = omega arith; once_words = omega arith; once_ids = omega arith }

negated_fits : (w n k j l : ℕ) → Fits w n k j l → Fits (24 + w) (4 + n) k j (1 + l)
negated_fits w n k j l h =
    let a = h.twice_words in let b = h.twice_ids in let c = h.once_words in let d = h.once_ids in
    record { twice_words = omega arith; twice_ids = omega arith; once_words = omega arith; once_ids = omega arith }

fits_by : (b : Bool) (kind : Kind) (r : Option Relative) → Fits (source_cost kind r b).words (source_cost kind r b).ids (keep_cost kind r).words
    (keep_cost kind r).ids (if b then 1 + least_by kind r else least_by kind r)
fits_by true kind r = negated_fits _ _ _ _ _ (plain_fits kind r)
fits_by false kind r = plain_fits kind r

abbrev FitsSource : Argument → Type 0
FitsSource a = Fits (source_cost a.kind a.relative a.negate).words (source_cost a.kind a.relative a.negate).ids (keep_cost a.kind a.relative).words
    (keep_cost a.kind a.relative).ids (least_words a)

fits_source : (a : Argument) → FitsSource a
fits_source a = fits_by a.negate a.kind a.relative

target_words : (kind : Kind) (r : Option Relative) → is_target kind ≡ true → 4 * (17 + (write_cost kind (has_relative r)).words) +
    (keep_cost kind r).words + 317 ≤ 256 * least_by kind r
target_words kind.Temp r e = omega arith
target_words kind.Indexable None e = omega arith
target_words kind.Indexable (Some r) e = let w = added_words r.kind in omega arith
target_words other r e = absurd (false≢true e)

target_ids : (kind : Kind) (r : Option Relative) → is_target kind ≡ true → 4 * (3 + (write_cost kind (has_relative r)).ids) + (keep_cost kind r).ids +
    61 ≤ 48 * least_by kind r
target_ids kind.Temp r e = omega arith
target_ids kind.Indexable None e = omega arith
target_ids kind.Indexable (Some r) e = let n = added_ids r.kind in omega arith
target_ids other r e = absurd (false≢true e)

at_least : (b : Bool) (n : ℕ) → n ≤ (if b then 1 + n else n)
at_least true n = omega arith
at_least false n = omega arith

abbrev each_words : Argument → ℕ → ℕ
each_words a value = if is_target a.kind then 17 + (write_cost a.kind (has_relative a.relative)).words + value else 0

abbrev each_ids : Argument → ℕ → ℕ
each_ids a value = if is_target a.kind then 3 + (write_cost a.kind (has_relative a.relative)).ids + value else 0

dest_words : (a : Argument) (value : ℕ) → Dest 317 value (keep_cost a.kind a.relative).words (256 * least_words a) (each_words a value)
dest_words a value = by_kind (is_target a.kind) refl
  where
    by_kind : (b : Bool) → is_target a.kind ≡ b → Dest 317 value (keep_cost a.kind a.relative).words (256 * least_words a)
        (if b then 17 + (write_cost a.kind (has_relative a.relative)).words + value else 0)
    by_kind true e = there (17 + (write_cost a.kind (has_relative a.relative)).words) (let w = target_words a.kind a.relative e in let l =
        at_least a.negate (least_by a.kind a.relative) in omega arith)
    by_kind false e = none (let f = (fits_source a).once_words in omega arith)

dest_ids : (a : Argument) (value : ℕ) → Dest 61 value (keep_cost a.kind a.relative).ids (48 * least_words a) (each_ids a value)
dest_ids a value = by_kind (is_target a.kind) refl
  where
    by_kind : (b : Bool) → is_target a.kind ≡ b → Dest 61 value (keep_cost a.kind a.relative).ids (48 * least_words a)
        (if b then 3 + (write_cost a.kind (has_relative a.relative)).ids + value else 0)
    by_kind true e = there (3 + (write_cost a.kind (has_relative a.relative)).ids) (let w = target_ids a.kind a.relative e in let l =
        at_least a.negate (least_by a.kind a.relative) in omega arith)
    by_kind false e = none (let f = (fits_source a).once_ids in omega arith)

-- ONE DESTINATION, AND TWO
single : (total token slack value keep least keeps leasts : ℕ) {b : ℕ} → Dest slack value keep least b → total ≤ keep + 4 * b + keeps
    → 4 * value + keeps ≤ slack + token + leasts → keeps ≤ leasts
    → total ≤ token + least + leasts
single total token slack value keep least keeps leasts (there write h) t e f = omega arith
single total token slack value keep least keeps leasts (none h) t e f = omega arith

double : (total token slack value keep least keep' least' keeps leasts : ℕ) {b b' : ℕ} → Dest slack value keep least b → Dest slack value keep' least'
    b' → total ≤ keep + 4 * b + (keep' + 4 * b') + keeps
    → 8 * value + keeps ≤ slack + slack + token + leasts → 4 * value + keeps ≤ slack + token + leasts → keeps ≤ leasts
    → total ≤ token + least + least' + leasts
double total token slack value keep least keep' least' keeps leasts (there write h) (there write' k) t e f g = omega arith
double total token slack value keep least keep' least' keeps leasts (there write h) (none k) t e f g = omega arith
double total token slack value keep least keep' least' keeps leasts (none h) (there write' k) t e f g = omega arith
double total token slack value keep least keep' least' keeps leasts (none h) (none k) t e f g = omega arith

-- THE WHOLE STATEMENT
module _ (g : Spaces) (i : Instruction) (m : Meaning) where
  first_each : (c : ℕ) → Both (now g (first_part m g i c)) (behind g (first_part m g i c)) (each_words i.o0 (value_cost m i).words)
      (each_ids i.o0 (value_cost m i).ids)
  first_each c = by_kind (is_target i.o0.kind) refl
    where
      by_kind : (b : Bool) → is_target i.o0.kind ≡ b
          → Both (now g (first_part m g i c)) (behind g (first_part m g i c))
          (if b then 17 + (write_cost i.o0.kind (has_relative i.o0.relative)).words + (value_cost m i).words else 0)
          (if b then 3 + (write_cost i.o0.kind (has_relative i.o0.relative)).ids + (value_cost m i).ids else 0)
      by_kind true e = first_both g i m c
      by_kind false e = first_none g i m e c

  second_each : (c : ℕ) → Both (now g (second_part m g i c)) (behind g (second_part m g i c)) (each_words i.o1 (value_cost m i).words)
      (each_ids i.o1 (value_cost m i).ids)
  second_each c = by_kind (is_target i.o1.kind) refl
    where
      by_kind : (b : Bool) → is_target i.o1.kind ≡ b
          → Both (now g (second_part m g i c)) (behind g (second_part m g i c))
          (if b then 17 + (write_cost i.o1.kind (has_relative i.o1.relative)).words + (value_cost m i).words else 0)
          (if b then 3 + (write_cost i.o1.kind (has_relative i.o1.relative)).ids + (value_cost m i).ids else 0)
      by_kind true e = second_both g i m c
      by_kind false e = second_none g i m e c

  parts_total : Total g (parts m g i)
      (spent (first_written m i) (each_words i.o0 (value_cost m i).words) + spent (second_written m i) (each_words i.o1 (value_cost m i).words))
      (spent (first_written m i) (each_ids i.o0 (value_cost m i).ids) + spent (second_written m i) (each_ids i.o1 (value_cost m i).ids))
  parts_total =
      list_total g (first_part m g i) (first_written m i) (map (second_part m g i) (second_written m i)) _ _ _ _ first_each
      (one_list_total g (second_part m g i) (second_written m i) _ _ second_each)

  indices_words : total_words (indices g i) ≤ (keep_cost i.o0.kind i.o0.relative).words +
      ((keep_cost i.o1.kind i.o1.relative).words +
      ((keep_cost i.o2.kind i.o2.relative).words + ((keep_cost i.o3.kind i.o3.relative).words + (keep_cost i.o4.kind i.o4.relative).words)))
  unfolding total_words
  indices_words =
      let a = (keeps_spends g 0 i.o0).in_words in let b = (keeps_spends g 1 i.o1).in_words in let c = (keeps_spends g 2 i.o2).in_words in
      let d = (keeps_spends g 3 i.o3).in_words in let e = (keeps_spends g 4 i.o4).in_words in omega arith

  indices_ids : total_ids (indices g i) ≤ (keep_cost i.o0.kind i.o0.relative).ids +
      ((keep_cost i.o1.kind i.o1.relative).ids +
      ((keep_cost i.o2.kind i.o2.relative).ids + ((keep_cost i.o3.kind i.o3.relative).ids + (keep_cost i.o4.kind i.o4.relative).ids)))
  unfolding total_ids
  indices_ids =
      let a = (keeps_spends g 0 i.o0).in_ids in let b = (keeps_spends g 1 i.o1).in_ids in let c = (keeps_spends g 2 i.o2).in_ids in
      let d = (keeps_spends g 3 i.o3).in_ids in let e = (keeps_spends g 4 i.o4).in_ids in omega arith

  raised_words : words_in (raised_by m g i) ≤ total_words (indices g i) + (spent (first_written m i) (each_words i.o0 (value_cost m i).words) + spent
      (second_written m i) (each_words i.o1 (value_cost m i).words))
  raised_words =
      let ns = map (now g) (parts m g i) in
      let bs = map (behind g) (parts m g i) in
      let h = (chained_spends (indices g i ++ (ns ++ bs)) term.Nothing).in_words in
      let e = words_append (indices g i) (ns ++ bs) in
      let f = words_append ns bs in
      let t = parts_total.in_words in
      omega arith

  raised_ids : ids_in (raised_by m g i) ≤ total_ids (indices g i) + (spent (first_written m i) (each_ids i.o0 (value_cost m i).ids) + spent
      (second_written m i) (each_ids i.o1 (value_cost m i).ids))
  raised_ids =
      let ns = map (now g) (parts m g i) in
      let bs = map (behind g) (parts m g i) in
      let h = (chained_spends (indices g i ++ (ns ++ bs)) term.Nothing).in_ids in
      let e = ids_append (indices g i) (ns ++ bs) in
      let f = ids_append ns bs in
      let t = parts_total.in_ids in
      omega arith

abbrev kept_words : List Argument → ℕ
kept_words [] = 0
kept_words (a ∷ as') = (keep_cost a.kind a.relative).words + kept_words as'

abbrev kept_ids : List Argument → ℕ
kept_ids [] = 0
kept_ids (a ∷ as') = (keep_cost a.kind a.relative).ids + kept_ids as'

first_spent : (m : Meaning) (i : Instruction) (b : ℕ) → spent (first_written m i) b ≤ 4 * b
unfolding spent
first_spent (One op) i b = spent_written i.o0.kind i.o0.select b
first_spent (Two op) i b = spent_written i.o0.kind i.o0.select b
first_spent (Three op) i b = spent_written i.o0.kind i.o0.select b
first_spent Inserts i b = spent_written i.o0.kind i.o0.select b
first_spent (Pair op) i b = spent_written i.o0.kind i.o0.select b
first_spent Swaps i b = spent_written i.o0.kind i.o0.select b
first_spent other i b = omega arith

second_spent : (m : Meaning) (i : Instruction) (b : ℕ) → spent (second_written m i) b ≤ 4 * b
unfolding spent
second_spent (Pair op) i b = spent_written i.o1.kind i.o1.select b
second_spent Swaps i b = spent_written i.o1.kind i.o1.select b
second_spent other i b = omega arith

module _ (g : Spaces) (i : Instruction) where
  -- one destination
  single_words : (m : Meaning) → spent (second_written m i) (each_words i.o1 (value_cost m i).words) ≡ 0 → (keeps leasts : ℕ)
      → (keep_cost i.o1.kind i.o1.relative).words +
      ((keep_cost i.o2.kind i.o2.relative).words + ((keep_cost i.o3.kind i.o3.relative).words + (keep_cost i.o4.kind i.o4.relative).words)) ≤
      keeps
      → 4 * (value_cost m i).words + keeps ≤ 317 + 256 + leasts → keeps ≤ leasts → words_in (raised_by m g i) ≤ 256 + 256 * least_words i.o0 + leasts
  single_words m z keeps leasts k e f =
      single _ 256 317 (value_cost m i).words (keep_cost i.o0.kind i.o0.relative).words (256 * least_words i.o0) keeps leasts
      (dest_words i.o0 (value_cost m i).words)
      (let a = raised_words g i m in let b = indices_words g i m in let c = first_spent m i (each_words i.o0 (value_cost m i).words) in omega arith) e
      f

  single_ids : (m : Meaning) → spent (second_written m i) (each_ids i.o1 (value_cost m i).ids) ≡ 0 → (keeps leasts : ℕ)
      → (keep_cost i.o1.kind i.o1.relative).ids +
      ((keep_cost i.o2.kind i.o2.relative).ids + ((keep_cost i.o3.kind i.o3.relative).ids + (keep_cost i.o4.kind i.o4.relative).ids)) ≤ keeps
      → 4 * (value_cost m i).ids + keeps ≤ 61 + 48 + leasts → keeps ≤ leasts → ids_in (raised_by m g i) ≤ 48 + 48 * least_words i.o0 + leasts
  single_ids m z keeps leasts k e f =
      single _ 48 61 (value_cost m i).ids (keep_cost i.o0.kind i.o0.relative).ids (48 * least_words i.o0) keeps leasts
      (dest_ids i.o0 (value_cost m i).ids)
      (let a = raised_ids g i m in let b = indices_ids g i m in let c = first_spent m i (each_ids i.o0 (value_cost m i).ids) in omega arith) e f

  -- two
  double_words : (m : Meaning) → (keeps leasts : ℕ)
      → (keep_cost i.o2.kind i.o2.relative).words + ((keep_cost i.o3.kind i.o3.relative).words + (keep_cost i.o4.kind i.o4.relative).words) ≤ keeps
      → 8 * (value_cost m i).words + keeps ≤ 317 + 317 + 256 + leasts → 4 * (value_cost m i).words + keeps ≤ 317 + 256 + leasts → keeps ≤ leasts
      → words_in (raised_by m g i) ≤ 256 + 256 * least_words i.o0 + 256 * least_words i.o1 + leasts
  double_words m keeps leasts k e f h =
      double _ 256 317 (value_cost m i).words (keep_cost i.o0.kind i.o0.relative).words (256 * least_words i.o0)
      (keep_cost i.o1.kind i.o1.relative).words (256 * least_words i.o1) keeps leasts
      (dest_words i.o0 (value_cost m i).words) (dest_words i.o1 (value_cost m i).words)
      (let a = raised_words g i m in let b = indices_words g i m in let c = first_spent m i (each_words i.o0 (value_cost m i).words) in let d =
      second_spent m i (each_words i.o1 (value_cost m i).words) in omega arith) e f h

  double_ids : (m : Meaning) → (keeps leasts : ℕ)
      → (keep_cost i.o2.kind i.o2.relative).ids + ((keep_cost i.o3.kind i.o3.relative).ids + (keep_cost i.o4.kind i.o4.relative).ids) ≤ keeps
      → 8 * (value_cost m i).ids + keeps ≤ 61 + 61 + 48 + leasts → 4 * (value_cost m i).ids + keeps ≤ 61 + 48 + leasts → keeps ≤ leasts
      → ids_in (raised_by m g i) ≤ 48 + 48 * least_words i.o0 + 48 * least_words i.o1 + leasts
  double_ids m keeps leasts k e f h =
      double _ 48 61 (value_cost m i).ids (keep_cost i.o0.kind i.o0.relative).ids (48 * least_words i.o0) (keep_cost i.o1.kind i.o1.relative).ids
      (48 * least_words i.o1) keeps leasts
      (dest_ids i.o0 (value_cost m i).ids) (dest_ids i.o1 (value_cost m i).ids)
      (let a = raised_ids g i m in let b = indices_ids g i m in let c = first_spent m i (each_ids i.o0 (value_cost m i).ids) in let d =
      second_spent m i (each_ids i.o1 (value_cost m i).ids) in omega arith) e f h

  -- each instruction
  affords_by : (m : Meaning) → is_computed (Some m) ≡ true → IsLong (Some m) i → Affords i.length (raised_by m g i)
  unfolding spent
  affords_by (One op) c h =
      let f1 = fits_source i.o1 in
      let e : kept_words (i.o2 ∷ i.o3 ∷ i.o4 ∷ []) ≡ 0 = ap kept_words h.others in
      let d : kept_ids (i.o2 ∷ i.o3 ∷ i.o4 ∷ []) ≡ 0 = ap kept_ids h.others in
      let size = h.size in
      let w = single_words (One op) refl ((keep_cost i.o1.kind i.o1.relative).words) (256 * least_words i.o1) (omega arith) (omega arith)
      (omega arith) in
      let n = single_ids (One op) refl ((keep_cost i.o1.kind i.o1.relative).ids) (48 * least_words i.o1) (omega arith) (omega arith) (omega arith) in
      record { words = omega arith; ids = omega arith }
  affords_by (Two op) c h =
      let f1 = fits_source i.o1 in
      let f2 = fits_source i.o2 in
      let e : kept_words (i.o3 ∷ i.o4 ∷ []) ≡ 0 = ap kept_words h.others in
      let d : kept_ids (i.o3 ∷ i.o4 ∷ []) ≡ 0 = ap kept_ids h.others in
      let size = h.size in
      let w = single_words (Two op) refl ((keep_cost i.o1.kind i.o1.relative).words + (keep_cost i.o2.kind i.o2.relative).words)
      (256 * least_words i.o1 + 256 * least_words i.o2) (omega arith) (omega arith) (omega arith) in
      let n = single_ids (Two op) refl ((keep_cost i.o1.kind i.o1.relative).ids + (keep_cost i.o2.kind i.o2.relative).ids)
      (48 * least_words i.o1 + 48 * least_words i.o2) (omega arith) (omega arith) (omega arith) in
      record { words = omega arith; ids = omega arith }
  affords_by (Three op) c h =
      let f1 = fits_source i.o1 in
      let f2 = fits_source i.o2 in
      let f3 = fits_source i.o3 in
      let e : kept_words (i.o4 ∷ []) ≡ 0 = ap kept_words h.others in
      let d : kept_ids (i.o4 ∷ []) ≡ 0 = ap kept_ids h.others in
      let size = h.size in
      let w = single_words (Three op) refl ((keep_cost i.o1.kind i.o1.relative).words + (keep_cost i.o2.kind i.o2.relative).words +
      (keep_cost i.o3.kind i.o3.relative).words) (256 * least_words i.o1 + 256 * least_words i.o2 + 256 * least_words i.o3) (omega arith)
      (omega arith) (omega arith) in
      let n = single_ids (Three op) refl ((keep_cost i.o1.kind i.o1.relative).ids + (keep_cost i.o2.kind i.o2.relative).ids +
      (keep_cost i.o3.kind i.o3.relative).ids) (48 * least_words i.o1 + 48 * least_words i.o2 + 48 * least_words i.o3) (omega arith) (omega arith)
      (omega arith) in
      record { words = omega arith; ids = omega arith }
  affords_by Inserts c h =
      let f1 = fits_source i.o1 in
      let f2 = fits_source i.o2 in
      let f3 = fits_source i.o3 in
      let f4 = fits_source i.o4 in
      let size = h.size in
      let w = single_words Inserts refl ((keep_cost i.o1.kind i.o1.relative).words + (keep_cost i.o2.kind i.o2.relative).words +
      (keep_cost i.o3.kind i.o3.relative).words + (keep_cost i.o4.kind i.o4.relative).words)
      (256 * least_words i.o1 + 256 * least_words i.o2 + 256 * least_words i.o3 + 256 * least_words i.o4) (omega arith) (omega arith)
      (omega arith) in
      let n = single_ids Inserts refl ((keep_cost i.o1.kind i.o1.relative).ids + (keep_cost i.o2.kind i.o2.relative).ids +
      (keep_cost i.o3.kind i.o3.relative).ids + (keep_cost i.o4.kind i.o4.relative).ids)
      (48 * least_words i.o1 + 48 * least_words i.o2 + 48 * least_words i.o3 + 48 * least_words i.o4) (omega arith) (omega arith) (omega arith) in
      record { words = omega arith; ids = omega arith }
  affords_by (Pair op) c h =
      let f2 = fits_source i.o2 in
      let f3 = fits_source i.o3 in
      let e : kept_words (i.o4 ∷ []) ≡ 0 = ap kept_words h.others in
      let d : kept_ids (i.o4 ∷ []) ≡ 0 = ap kept_ids h.others in
      let size = h.size in
      let w = double_words (Pair op) ((keep_cost i.o2.kind i.o2.relative).words + (keep_cost i.o3.kind i.o3.relative).words)
      (256 * least_words i.o2 + 256 * least_words i.o3) (omega arith) (omega arith) (omega arith) (omega arith) in
      let n = double_ids (Pair op) ((keep_cost i.o2.kind i.o2.relative).ids + (keep_cost i.o3.kind i.o3.relative).ids)
      (48 * least_words i.o2 + 48 * least_words i.o3) (omega arith) (omega arith) (omega arith) (omega arith) in
      record { words = omega arith; ids = omega arith }
  affords_by Swaps c h =
      let f2 = fits_source i.o2 in
      let f3 = fits_source i.o3 in
      let f4 = fits_source i.o4 in
      let size = h.size in
      let w = double_words Swaps ((keep_cost i.o2.kind i.o2.relative).words + (keep_cost i.o3.kind i.o3.relative).words +
      (keep_cost i.o4.kind i.o4.relative).words) (256 * least_words i.o2 + 256 * least_words i.o3 + 256 * least_words i.o4) (omega arith)
      (omega arith) (omega arith) (omega arith) in
      let n = double_ids Swaps ((keep_cost i.o2.kind i.o2.relative).ids + (keep_cost i.o3.kind i.o3.relative).ids +
      (keep_cost i.o4.kind i.o4.relative).ids) (48 * least_words i.o2 + 48 * least_words i.o3 + 48 * least_words i.o4) (omega arith) (omega arith)
      (omega arith) (omega arith) in
      record { words = omega arith; ids = omega arith }
  affords_by Nop c h =
      let e : kept_words (i.o0 ∷ i.o1 ∷ i.o2 ∷ i.o3 ∷ i.o4 ∷ []) ≡ 0 = ap kept_words h.others in
      let d : kept_ids (i.o0 ∷ i.o1 ∷ i.o2 ∷ i.o3 ∷ i.o4 ∷ []) ≡ 0 = ap kept_ids h.others in
      let a = raised_words g i Nop in let b = indices_words g i Nop in
      let x = raised_ids g i Nop in let y = indices_ids g i Nop in
      record { words = omega arith; ids = omega arith }
  affords_by other c h = absurd (false≢true c)

by_meaning : (g : Spaces) (i : Instruction) (m : Option Meaning) → is_computed m ≡ true → IsLong m i → Affords i.length (raised g m i)
by_meaning g i None c h = absurd (false≢true c)
by_meaning g i (Some m) c h = affords_by g i m c h

pub affords_all : (p : Shader) (i : Instruction) → is_computed (meaning_of Base i.code) ≡ true → IsLong (meaning_of Base i.code) i → Affords i.length
    (statement_of p i)
unfolding statement_of
affords_all p i c h = by_meaning (spaces_of p) i (meaning_of Base i.code) c h

-- WHAT OPERANDS COST, by their words
abbrev each_at : Kind → Option Relative → Cost
each_at kind.Temp r = cost 41 8
each_at kind.Indexable None = cost 41 8
each_at kind.Indexable (Some r) = cost 95 18
each_at other r = cost 0 0

each_more : (kind : Kind) (r : Option Relative) → is_target kind ≡ true → ((write_cost kind (has_relative r)).words + 25 ≤ (each_at kind r).words) ×
    ((write_cost kind (has_relative r)).ids + 5 ≤ (each_at kind r).ids)
each_more kind.Temp r e = (omega arith, omega arith)
each_more kind.Indexable None e = (omega arith, omega arith)
each_more kind.Indexable (Some r) e = (omega arith, omega arith)
each_more other r e = absurd (false≢true e)

target_spends : (g : Spaces) (a : Argument) (k c : ℕ) (x : Term) → Spends x 25 5 → Spends (write_by (target g a) g k c x)
    (each_at a.kind a.relative).words (each_at a.kind a.relative).ids
target_spends g a k c x h = by_kind (is_target a.kind) refl
  where
    by_kind : (b : Bool) → is_target a.kind ≡ b → Spends (write_by (target g a) g k c x) (each_at a.kind a.relative).words
        (each_at a.kind a.relative).ids
    by_kind true e = let m = each_more a.kind a.relative e in spends_more _ _ _ _ _ (write_spends g a k c x 25 5 h) m.0 m.1
    by_kind false e = subst (λ v. Spends (write_by v g k c x) (each_at a.kind a.relative).words (each_at a.kind a.relative).ids)
        (sym (other_target a.kind (vector g a) e)) (record { in_words = omega arith; in_ids = omega arith })

least_write_words : (kind : Kind) (r : Option Relative) → 4 * (each_at kind r).words + (keep_cost kind r).words + 200 ≤ 256 * least_by kind r
least_write_words kind.Temp r = omega arith
least_write_words kind.Indexable None = omega arith
least_write_words kind.Indexable (Some r) = let w = added_words r.kind in omega arith
least_write_words kind.Constant None = omega arith
least_write_words kind.Constant (Some r) = let w = added_words r.kind in omega arith
least_write_words kind.ImmediateConstant None = omega arith
least_write_words kind.ImmediateConstant (Some r) = let w = added_words r.kind in omega arith
least_write_words kind.Immediate r = omega arith
least_write_words other r = omega arith

least_write_ids : (kind : Kind) (r : Option Relative) → 4 * (each_at kind r).ids + (keep_cost kind r).ids + 30 ≤ 48 * least_by kind r
least_write_ids kind.Temp r = omega arith
least_write_ids kind.Indexable None = omega arith
least_write_ids kind.Indexable (Some r) = let w = added_ids r.kind in omega arith
least_write_ids kind.Constant None = omega arith
least_write_ids kind.Constant (Some r) = let w = added_ids r.kind in omega arith
least_write_ids kind.ImmediateConstant None = omega arith
least_write_ids kind.ImmediateConstant (Some r) = let w = added_ids r.kind in omega arith
least_write_ids kind.Immediate r = omega arith
least_write_ids other r = omega arith

register_words : (kind : Kind) (r : Option Relative) → is_register kind ≡ true → 4 * (each_at kind r).words + (keep_cost kind r).words + 280 ≤ 256 *
    least_by kind r
register_words kind.Temp r h = omega arith
register_words kind.Indexable None h = omega arith
register_words kind.Indexable (Some r) h = let w = added_words r.kind in omega arith
register_words other r h = absurd (false≢true h)

register_ids : (kind : Kind) (r : Option Relative) → is_register kind ≡ true → 4 * (each_at kind r).ids + (keep_cost kind r).ids + 50 ≤ 48 * least_by
    kind r
register_ids kind.Temp r h = omega arith
register_ids kind.Indexable None h = omega arith
register_ids kind.Indexable (Some r) h = let w = added_ids r.kind in omega arith
register_ids other r h = absurd (false≢true h)

unkept_by : (kind : Kind) (g : Spaces) (slot k : ℕ) (o : Option ℕ) (x : Term) → has_index kind ≡ false → keeps_by (vector_by kind g slot o) g k x ≡
    term.Nothing
unkept_by kind.Temp g slot k o x h = by_test (nat_lt slot g.temps)
  where
    by_test : (b : Bool) → keeps_by (if b then At Temps slot else Outside) g k x ≡ term.Nothing
    by_test true = refl
    by_test false = refl
unkept_by kind.Indexable g slot k o x h = absurd (false≢true (sym h))
unkept_by kind.Constant g slot k o x h = absurd (false≢true (sym h))
unkept_by kind.ImmediateConstant g slot k o x h = absurd (false≢true (sym h))
unkept_by other g slot k o x h = refl

pub unkept : (g : Spaces) (k : ℕ) (a : Argument) → has_index a.kind ≡ false → keeps_index g k a ≡ term.Nothing
unkept g k a h = unkept_by a.kind g a.slot k (literal (index_word g a)) (index_word g a) h

pub costs_at : (g : Spaces) (a : Argument) → CostsAt g a
costs_at g a =
    let f = fits_source a in
    let l = at_least a.negate (least_by a.kind a.relative) in
    let w = least_write_words a.kind a.relative in
    let n = least_write_ids a.kind a.relative in
    record {
      source_cost = source_cost a.kind a.relative a.negate;
      keep_cost = keep_cost a.kind a.relative;
      write_cost = each_at a.kind a.relative;
      source' = λ k c. source_spends g k c a;
      keep = λ k. keeps_spends g k a;
      write' = λ k c x h. target_spends g a k c x h;
      source_words = f.once_words;
      source_ids = f.once_ids;
      write_words = omega arith;
      write_ids = omega arith;
      register_words = λ h. let q = register_words a.kind a.relative h in omega arith;
      register_ids = λ h. let q = register_ids a.kind a.relative h in omega arith;
    }

sum_words : (xs : List Term) → total_words xs ≡ total words_in xs
unfolding total_words
sum_words [] = refl
sum_words (x ∷ xs) = ap (λ n. words_in x + n) (sum_words xs)

sum_ids : (xs : List Term) → total_ids xs ≡ total ids_in xs
unfolding total_ids
sum_ids [] = refl
sum_ids (x ∷ xs) = ap (λ n. ids_in x + n) (sum_ids xs)

pub chained_words : (xs : List Term) → words_in (chained xs) ≤ total words_in xs
chained_words xs = let h = (chained_spends xs term.Nothing).in_words in let e = sum_words xs in omega arith

pub chained_ids : (xs : List Term) → ids_in (chained xs) ≤ total ids_in xs
chained_ids xs = let h = (chained_spends xs term.Nothing).in_ids in let e = sum_ids xs in omega arith
