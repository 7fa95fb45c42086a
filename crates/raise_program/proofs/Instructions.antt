-- What the statements of the instructions of a program that breaks no rule owe.
use Rattle.std.proofs.Common.{◌≡◌, ℕ, suc, ◌+◌, ◌≤◌, Bool, true, false, List, [], ◌∷◌, Option, Some, None, refl, sym, ◌∙◌, subst, arith}
use Rattle.std.specs.Prelude.{IsTrue, if◌then◌else◌, not, ◌&&◌, slice_get}
use Rattle.std.proofs.lemmas.Bool.{and_from}
use Rattle.word_base.specs.declared.event.Room.{Room}
use Rattle.tpf_decode.specs.declared.argument.Argument.{Argument}
use Rattle.tpf_decode.specs.declared.argument.Kind.{Kind}
use Rattle.tpf_decode.specs.declared.argument.Kind.TheVariants as kind
use Rattle.tpf_decode.specs.declared.argument.Relative.{Relative}
use Rattle.tpf_decode.specs.declared.meaning.Meaning.{Meaning}
use Rattle.tpf_decode.specs.declared.meaning.Meaning.TheVariants as meaning
use Rattle.tpf_decode.specs.Opcodes.{meaning_of}
use Rattle.tpf_decode.specs.Profiles.{Base}
use Rattle.tpf_program.specs.Cases.{is_any_case}
use Rattle.tpf_program.specs.Ends.{has}
use Rattle.tpf_program.specs.Holding.{IsProgramOfWords}
use Rattle.tpf_program.specs.Program.{Shader}
use Rattle.tpf_program.specs.Spelling.{operands}
use Rattle.tpf_program.specs.declared.instruction.Instruction.{Instruction}
use Rattle.binding_map.specs.Bindings.{Binding}
use Rattle.binding_map.specs.Fits.{is_null_in}
use Rattle.shader_check.specs.Checked.{IsChecked as BreaksNoRule}
use Rattle.shader_check.specs.Facts.{AreDeclared}
use Rattle.shader_tree.specs.Costs.{Affords}
use Rattle.shader_tree.specs.Shape.{Item, shape}
use Rattle.shader_tree.specs.Terms.{Term}
use Rattle.shader_tree.specs.Walks.{Each, changed_in, holds_no, is_event, is_flow}
use Rattle.raise_operands.specs.Bounds.{BoundLaws, IsBounded, IsWithin, is_unbounded}
use Rattle.raise_operands.specs.Laws.{OperandCostLaws}
use Rattle.raise_operands.specs.Raises.{IsChecked, IsInProgram, IsLong, IsPlain, IsRaisable, IsScalar, Raises, RaisesScalar, is_computed, least_by, least_words}
use Rattle.raise_operands.specs.Raising as computing
use Rattle.raise_operands.specs.Raising.{scalar_front, scalar_word}
use Rattle.raise_operands.specs.Vectors.{spaces_of}
use Rattle.raise_views.specs.Guarding as guarding
use Rattle.raise_views.specs.Guarding.{is_guarded, room_by, shape_by}
use Rattle.raise_views.specs.Guards.{Guards, IsGuardable, has_room, is_resource}
use Rattle.raise_program.specs.Parts.{parts_of}
use Rattle.raise_program.specs.ProgramShape.{items_by}
use Rattle.raise_program.specs.Raised.{Parts}
use Rattle.raise_program.proofs.Bounded.{PartsKeep}
use Rattle.raise_program.proofs.Known.{by_kind}
use Rattle.raise_program.proofs.Named.{Names, PartsName, both, leaf}
use Rattle.raise_program.proofs.Placing.{Calm}
use Rattle.raise_program.proofs.Shown.{PartsShow}
use Rattle.raise_program.proofs.Strides.{program_of_words}
use Rattle.raise_program.proofs.Sums.{Leaves, Spares, reads_scalar}

-- THE LAWS of the crates below
pub record Laws : Type 0 where
  pub in_program : (p : Shader) (tokens : List ℕ) → IsChecked p tokens → (k : ℕ) (i : Instruction) → slice_get p.instructions k ≡ Some i → IsInProgram p i
  pub raisable :
      (p : Shader) (tokens : List ℕ) → IsChecked p tokens → (k : ℕ) (i : Instruction) → slice_get p.instructions k ≡ Some i
      → is_computed (meaning_of Base i.code) ≡ true → IsRaisable p i
  pub scalar : (p : Shader) (tokens : List ℕ) → IsChecked p tokens → (k : ℕ) (i : Instruction) → slice_get p.instructions k ≡ Some i → IsScalar p i
  pub guardable :
      (p : Shader) (tokens : List ℕ) → IsChecked p tokens → (k : ℕ) (i : Instruction) → slice_get p.instructions k ≡ Some i
      → is_guarded (meaning_of Base i.code) ≡ true → IsGuardable p i
  pub raises : (p : Shader) (i : Instruction) → IsRaisable p i → Raises p i (computing.statement_of p i)
  pub raises_scalar : (p : Shader) (i : Instruction) → IsScalar p i → RaisesScalar p i (scalar_front p i) (scalar_word p i)
  pub guards :
      (bindings : List Binding) (p : Shader) (i : Instruction) → IsGuardable p i
      → Guards (is_null_in bindings) p i (guarding.statement_of (is_null_in bindings) p i)
  pub costs : OperandCostLaws
  pub bounds : BoundLaws
  pub guarded_bounds :
      (p : Shader) (is_null : Room → Bool) (i : Instruction) → IsProgramOfWords p → Each (IsWithin p) (operands i)
      → IsBounded (guarding.statement_of is_null p i)
  pub declared : (p : Shader) → BreaksNoRule p → AreDeclared p
  pub changed : (x : Term) → IsTrue (holds_no is_event x) → changed_in x ≡ []
  pub shown : (x : Term) → IsTrue (holds_no is_event x) → IsTrue (holds_no is_flow x) → shape x ≡ []

-- what holds of each place of a list holds of all of it
pub each_place : {X : Type 0} (P : X → Type 0) (xs : List X) → ((k : ℕ) (x : X) → slice_get xs k ≡ Some x → P x) → Each P xs
each_place P [] f = tt
each_place P (x ∷ xs) f = (f 0 x refl, each_place P xs (λ k y h. f (suc k) y h))

-- HOW LONG an instruction is
least_one : (k : Kind) (r : Option Relative) → 1 ≤ least_by k r
least_one kind.Temp r = omega arith
least_one kind.Indexable r = omega arith
least_one kind.Constant r = omega arith
least_one kind.ImmediateConstant r = omega arith
least_one kind.Immediate r = omega arith
least_one kind.Resource r = omega arith
least_one kind.Uav r = omega arith
least_one kind.Shared r = omega arith
least_one other r = omega arith

some_word : (a : Argument) → 1 ≤ least_words a
some_word a = by_negation a.negate (least_one a.kind a.relative)
  where
    by_negation : (b : Bool) → 1 ≤ least_by a.kind a.relative → 1 ≤ (if b then 1 + least_by a.kind a.relative else least_by a.kind a.relative)
    by_negation true h = omega arith
    by_negation false h = h

scalar_long : (m : Option Meaning) (i : Instruction) → reads_scalar m ≡ true → IsLong m i → 1 + least_words i.o0 ≤ i.length
scalar_long None i h l = absurd (cc)
scalar_long (Some meaning.If) i h l = let z = l.size in omega (arith, z)
scalar_long (Some meaning.Switch) i h l = let z = l.size in omega (arith, z)
scalar_long (Some meaning.BreakIf) i h l = let z = l.size in omega (arith, z)
scalar_long (Some meaning.ContinueIf) i h l = let z = l.size in omega (arith, z)
scalar_long (Some meaning.ReturnIf) i h l = let z = l.size in omega (arith, z)
scalar_long (Some m) i h l = absurd (cc)

case_long : (m : Option Meaning) (i : Instruction) → has is_any_case m ≡ true → IsLong m i → 2 ≤ i.length
case_long None i h l = absurd (cc)
case_long (Some meaning.Case) i h l = let z = l.size in let w = some_word i.o0 in omega (arith, z, w)
case_long (Some m) i h l = absurd (cc)

-- WHAT SHOWS of an instruction
if_same : (b : Bool) → ◌≡◌ {A = List Item} (if b then [] else []) []
if_same true = refl
if_same false = refl

guarded_shows : (bindings : List Binding) (cases : ℕ → List ℕ) (m : Option Meaning) (at : ℕ) (i : Instruction) → is_guarded m ≡ true
    → shape_by m (is_null_in bindings) i ≡ items_by bindings cases m at i
guarded_shows bindings cases None at i h = absurd (cc)
guarded_shows bindings cases (Some meaning.LoadRaw) at i h = refl
guarded_shows bindings cases (Some meaning.LoadStructured) at i h = refl
guarded_shows bindings cases (Some meaning.StoreRaw) at i h = refl
guarded_shows bindings cases (Some meaning.StoreStructured) at i h = refl
guarded_shows bindings cases (Some meaning.Measures) at i h = if_same (is_null_in bindings (room_by meaning.Measures i))
guarded_shows bindings cases (Some (meaning.Acts kind)) at i h = refl
guarded_shows bindings cases (Some meaning.Compares) at i h = refl
guarded_shows bindings cases (Some (meaning.Fetches kind)) at i h = refl
guarded_shows bindings cases (Some meaning.Exchanges) at i h = refl
guarded_shows bindings cases (Some meaning.Allocates) at i h = refl
guarded_shows bindings cases (Some meaning.Consumes) at i h = refl
guarded_shows bindings cases (Some meaning.Syncs) at i h = refl
guarded_shows bindings cases (Some m) at i h = absurd (cc)

computed_shows : (bindings : List Binding) (cases : ℕ → List ℕ) (m : Option Meaning) (at : ℕ) (i : Instruction) → is_computed m ≡ true
    → items_by bindings cases m at i ≡ []
computed_shows bindings cases None at i h = absurd (cc)
computed_shows bindings cases (Some (meaning.One op)) at i h = refl
computed_shows bindings cases (Some (meaning.Two op)) at i h = refl
computed_shows bindings cases (Some (meaning.Three op)) at i h = refl
computed_shows bindings cases (Some meaning.Inserts) at i h = refl
computed_shows bindings cases (Some (meaning.Pair op)) at i h = refl
computed_shows bindings cases (Some meaning.Swaps) at i h = refl
computed_shows bindings cases (Some meaning.Nop) at i h = refl
computed_shows bindings cases (Some m) at i h = absurd (cc)

module _ (laws : Laws) (p : Shader) (tokens : List ℕ) (checked : IsChecked p tokens) (bindings : List Binding) where
  abbrev parts : Parts
  parts = parts_of (is_null_in bindings) p

  of_plain : (x : Term) → IsPlain p x → Names p (is_null_in bindings) x
  of_plain x h = record {
    threads' = h.threads;
    spaces' = h.spaces;
    rooms' = subst (Each (λ room. IsTrue (has_room p room && not (is_null_in bindings room)))) (sym h.no_rooms) tt;
    written' = h.written;
    changed' = subst (Each (λ room. IsTrue (not (is_resource room)))) (sym (laws.changed x h.no_events)) tt;
  }

  module _ (k : ℕ) (i : Instruction) (at : slice_get p.instructions k ≡ Some i) where
    guards : is_guarded (meaning_of Base i.code) ≡ true
        → Guards (is_null_in bindings) p i (guarding.statement_of (is_null_in bindings) p i)
    guards e = laws.guards bindings p i (laws.guardable p tokens checked k i at e)

    raises : is_computed (meaning_of Base i.code) ≡ true → Raises p i (computing.statement_of p i)
    raises e = laws.raises p i (laws.raisable p tokens checked k i at e)

    scalar : RaisesScalar p i (scalar_front p i) (scalar_word p i)
    scalar = laws.raises_scalar p i (laws.scalar p tokens checked k i at)

    long : IsLong (meaning_of Base i.code) i
    long = (laws.in_program p tokens checked k i at).long

    some_length : 1 ≤ i.length
    some_length = let z = long.size in omega (arith, z)

    pub calm : Calm parts i
    calm = record {
      plain = λ g. by_kind (is_null_in bindings) p (λ x. IsTrue (holds_no is_flow x)) i g (λ e. (guards e).no_flow) (λ e. (raises e).plain.no_flow);
      front = scalar.front'.no_flow;
      case' = λ e. case_long (meaning_of Base i.code) i e long;
      long = some_length;
    }

    pub parts_name : PartsName p (is_null_in bindings) parts i
    parts_name =
        let named : (is_guarded (meaning_of Base i.code) ≡ true) → Names p (is_null_in bindings) (guarding.statement_of (is_null_in bindings) p i) =
        λ e. let g = guards e in
        record { threads' = g.threads; spaces' = g.spaces; rooms' = g.rooms; written' = g.written; changed' = g.changed } in
        record {
          plain = λ g. by_kind (is_null_in bindings) p (λ x. Names p (is_null_in bindings) x) i g named
              (λ e. of_plain (computing.statement_of p i) (raises e).plain);
          front = of_plain (scalar_front p i) scalar.front';
          truth = both (of_plain (scalar_word p i) scalar.word') leaf;
          word = of_plain (scalar_word p i) scalar.word';
        }

    leaves : reads_scalar (meaning_of Base i.code) ≡ true
        → Leaves i.length (scalar_front p i) (parts.truth i) × Leaves i.length (scalar_front p i) (scalar_word p i)
    unfolding scalar_front scalar_word
    leaves e =
        let c = laws.costs.costs (spaces_of p) i.o0 in
        let f = c.keep 0 in let s = c.source' 0 0 in
        let f0 = f.in_words in let f1 = f.in_ids in let s0 = s.in_words in let s1 = s.in_ids in
        let w = c.source_words in let d = c.source_ids in
        let l = scalar_long (meaning_of Base i.code) i e long in (
          record { words = omega (arith, f0, s0, w, l); ids = omega (arith, f1, s1, d, l) },
          record { words = omega (arith, f0, s0, w, l); ids = omega (arith, f1, s1, d, l) },
        )

    pub spares : Spares parts i
    spares = record {
      long = some_length;
      plain = λ g. by_kind (is_null_in bindings) p (λ x. Affords i.length x) i g (λ e. (guards e).affords) (λ e. (raises e).affords);
      test = λ e. (leaves e).0;
      word = λ e. (leaves e).1;
    }

    pub parts_show : (cases : ℕ → List ℕ) → PartsShow bindings cases parts i
    parts_show cases =
        let guarded : (at : ℕ) → (is_guarded (meaning_of Base i.code) ≡ true)
        → shape (guarding.statement_of (is_null_in bindings) p i) ≡ items_by bindings cases (meaning_of Base i.code) at i =
        λ at e. (guards e).shape' ∙ guarded_shows bindings cases (meaning_of Base i.code) at i e in
        let computed : (at : ℕ) → (is_computed (meaning_of Base i.code) ≡ true)
        → shape (computing.statement_of p i) ≡ items_by bindings cases (meaning_of Base i.code) at i =
        λ at e. let q = (raises e).plain in
        laws.shown (computing.statement_of p i) q.no_events q.no_flow ∙ sym (computed_shows bindings cases (meaning_of Base i.code) at i e) in
        record {
          plain = λ g at. by_kind (is_null_in bindings) p (λ x. shape x ≡ items_by bindings cases (meaning_of Base i.code) at i) i g (guarded at)
              (computed at);
          front = laws.shown (scalar_front p i) scalar.front'.no_events scalar.front'.no_flow;
        }

    module _ (sound : BreaksNoRule p) where
      within : Each (IsWithin p) (operands i)
      within = laws.bounds.within p tokens checked k i at

      word_bounded : IsBounded (scalar_word p i)
      unfolding scalar_word
      word_bounded = laws.bounds.source p 0 0 i.o0 within.0 (omega arith)

      front_bounded : IsBounded (scalar_front p i)
      unfolding scalar_front
      front_bounded = laws.bounds.keeps p 0 i.o0 within.0 (omega arith)

      pub parts_keep : PartsKeep parts i
      parts_keep = record {
        plain = λ g. by_kind (is_null_in bindings) p IsBounded i g
            (λ e. laws.guarded_bounds p (is_null_in bindings) i
            (program_of_words p (laws.in_program p tokens checked k i at).words (laws.declared p sound)) within)
            (λ e. laws.bounds.statement p i within);
        front = front_bounded;
        truth = and_from (holds_no is_unbounded (scalar_word p i)) true word_bounded refl;
        word = word_bounded;
      }
