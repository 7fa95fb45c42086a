-- A lane of a program of words makes events of words.
use Rattle.tpf_decode.specs.Profiles.{Base}
use Rattle.std.proofs.Common.{◌≡◌, ℕ, zero, suc, ◌+◌, ◌<◌, ◌^◌, Bool, true, false, List, [], ◌∷◌, ◌++◌, length, Option, Some, None, refl, subst, arith}
use Rattle.std.specs.Prelude.{if◌then◌else◌, slice_get}
use Rattle.word_base.specs.declared.event.Event.{Event}
use Rattle.word_base.specs.Lanes.{Turn, Silent, Asks, Ends, Wrong, Goes, Meets, Makes}
use Rattle.word_base.specs.Registers.{Registers}
use Rattle.word_base.specs.Settings.{Setting, HoldsWords}
use Rattle.word_base.specs.Words.{AreWords}
use Rattle.tpf_program.specs.declared.instruction.Instruction.{Instruction}
use Rattle.tpf_program.specs.Bytecode.{State, start, plan_by, result_by, goes_to, goes_behind, holds, onward, turn_of, turn_by, turn_at, step}
use Rattle.tpf_program.specs.Ends.{else_of, around, close_around, is_loop, is_loop_or_switch}
use Rattle.tpf_program.specs.Holding.{HoldWords, AreOfWords, IsProgramOfWords, IsEventOfWords}
use Rattle.tpf_decode.specs.Opcodes.{meaning_of}
use Rattle.tpf_decode.specs.declared.meaning.Meaning.{Meaning}
use Rattle.tpf_decode.specs.declared.meaning.Meaning.TheVariants as meaning
use Rattle.tpf_program.specs.Plans.{parts, made, answered}
use Rattle.tpf_program.specs.Program.{Shader}
use Rattle.tpf_program.specs.Results.{outcome}
use Rattle.tpf_program.specs.Values.{Context, context}
use Rattle.dispatch_machine.proofs.WordLaws.{LeavesWords, MakesWords}
use Rattle.dispatch_machine.proofs.SameLogs.{MakesOnly}

record IsGood (s : State) : Type 0 where
  registers : HoldWords s.registers
  answers : AreWords s.answers

-- what a turn leads to holds words again, and so does what it asks for
abbrev IsGoodTurn : Turn State → Type 0
IsGoodTurn (Silent to) = IsGood to
IsGoodTurn (Asks e after) = IsEventOfWords e × ((w : ℕ) → w < 2 ^ 32 → IsGood (after w))
IsGoodTurn Ends = Unit {0}
IsGoodTurn (Wrong place rule) = Unit {0}

no_words : AreWords []
no_words k = omega arith

one_more : (words : List ℕ) (w : ℕ) → AreWords words → w < 2 ^ 32 → AreWords (words ++ w ∷ [])
one_more [] w h l zero = l
one_more [] w h l (suc k) = omega arith
one_more (x ∷ words) w h l zero = h zero
one_more (x ∷ words) w h l (suc k) = one_more words w (λ n. h (suc n)) l k

either : (b : Bool) (x y : Turn State) → IsGoodTurn x → IsGoodTurn y → IsGoodTurn (if b then x else y)
either true x y h k = h
either false x y h k = k

to_place : (registers : Registers) (place : ℕ) → HoldWords registers → IsGoodTurn (goes_to registers place)
to_place registers place h = record { registers = h; answers = no_words }

behind : (registers : Registers) (place : Option ℕ) → HoldWords registers → IsGoodTurn (goes_behind registers place)
behind registers None h = tt
behind registers (Some place) h = to_place registers (place + 1) h

onward_good : (k : Context) (q : ℕ) (m : Meaning) (i : Instruction) (answers : List ℕ) → HoldWords k.registers
    → HoldWords (outcome k m i (answered (parts k m i) answers)) → IsGoodTurn (onward Base k q m i answers)
onward_good k q meaning.If i answers h r =
    either (holds k i) (goes_to k.registers (q + 1)) (goes_behind k.registers (else_of Base k.program.instructions q)) (to_place k.registers (q + 1) h) (behind k.registers _ h)
onward_good k q meaning.Else i answers h r = behind k.registers _ h
onward_good k q meaning.EndLoop i answers h r = behind k.registers _ h
onward_good k q meaning.Continue i answers h r = behind k.registers _ h
onward_good k q meaning.ContinueIf i answers h r =
    either (holds k i) (goes_behind k.registers (around Base is_loop k.program.instructions q)) (goes_to k.registers (q + 1)) (behind k.registers _ h) (to_place k.registers (q + 1) h)
onward_good k q meaning.Break i answers h r = behind k.registers _ h
onward_good k q meaning.BreakIf i answers h r =
    either (holds k i) (goes_behind k.registers (close_around Base is_loop_or_switch k.program.instructions q)) (goes_to k.registers (q + 1)) (behind k.registers _ h) (to_place k.registers (q + 1) h)
onward_good k q meaning.Switch i answers h r = behind k.registers _ h
onward_good k q meaning.Return i answers h r = tt
onward_good k q meaning.ReturnIf i answers h r = either (holds k i) Ends (goes_to k.registers (q + 1)) tt (to_place k.registers (q + 1) h)
onward_good k q (meaning.One op) i answers h r = to_place _ (q + 1) r
onward_good k q (meaning.Two op) i answers h r = to_place _ (q + 1) r
onward_good k q (meaning.Three op) i answers h r = to_place _ (q + 1) r
onward_good k q meaning.Inserts i answers h r = to_place _ (q + 1) r
onward_good k q (meaning.Pair op) i answers h r = to_place _ (q + 1) r
onward_good k q meaning.Swaps i answers h r = to_place _ (q + 1) r
onward_good k q meaning.LoadRaw i answers h r = to_place _ (q + 1) r
onward_good k q meaning.LoadStructured i answers h r = to_place _ (q + 1) r
onward_good k q meaning.LoadTyped i answers h r = to_place _ (q + 1) r
onward_good k q meaning.StoreRaw i answers h r = to_place _ (q + 1) r
onward_good k q meaning.StoreStructured i answers h r = to_place _ (q + 1) r
onward_good k q meaning.StoreTyped i answers h r = to_place _ (q + 1) r
onward_good k q meaning.Measures i answers h r = to_place _ (q + 1) r
onward_good k q (meaning.Acts kind) i answers h r = to_place _ (q + 1) r
onward_good k q meaning.Compares i answers h r = to_place _ (q + 1) r
onward_good k q (meaning.Fetches kind) i answers h r = to_place _ (q + 1) r
onward_good k q meaning.Exchanges i answers h r = to_place _ (q + 1) r
onward_good k q meaning.Allocates i answers h r = to_place _ (q + 1) r
onward_good k q meaning.Consumes i answers h r = to_place _ (q + 1) r
onward_good k q meaning.Syncs i answers h r = to_place _ (q + 1) r
onward_good k q meaning.EndIf i answers h r = to_place _ (q + 1) r
onward_good k q meaning.Loop i answers h r = to_place _ (q + 1) r
onward_good k q meaning.Case i answers h r = to_place _ (q + 1) r
onward_good k q meaning.Default i answers h r = to_place _ (q + 1) r
onward_good k q meaning.EndSwitch i answers h r = to_place _ (q + 1) r
onward_good k q meaning.Nop i answers h r = to_place _ (q + 1) r

turn_good : (s : State) (o : Option Event) (way : Turn State) → IsGood s → ((e : Event) → o ≡ Some e → IsEventOfWords e) → IsGoodTurn way → IsGoodTurn (turn_of s o way)
turn_good s None way h k w = w
turn_good s (Some e) way h k w = (k e refl, λ a l. record { registers = h.registers; answers = one_more s.answers a h.answers l })

module _ (leaves : LeavesWords) (makes : MakesWords) (p : Shader) (setting : Setting) (words : IsProgramOfWords p)
    (instructions : (n : ℕ) (i : Instruction) → slice_get p.instructions n ≡ Some i → AreOfWords i) (given : HoldsWords setting) where
  turn_good_by : (s : State) (i : Instruction) (o : Option Meaning) → IsGood s
      → ((n : ℕ) (e : Event) → slice_get (plan_by (context p setting s.registers) o i) n ≡ Some e → IsEventOfWords e)
      → HoldWords (result_by (context p setting s.registers) o i s.answers) → IsGoodTurn (turn_by Base (context p setting s.registers) s o i)
  turn_good_by s i None h m l = tt
  turn_good_by s i (Some meaning) h m l =
      turn_good s (slice_get (made (parts (context p setting s.registers) meaning i)) (length s.answers)) (onward Base (context p setting s.registers) s.place meaning i s.answers) h
      (m (length s.answers)) (onward_good (context p setting s.registers) s.place meaning i s.answers h.registers l)

  at_good : (s : State) (o : Option Instruction) → IsGood s → ((i : Instruction) → o ≡ Some i → AreOfWords i) → IsGoodTurn (turn_at Base p setting s o)
  at_good s None h k = tt
  at_good s (Some i) h k =
      turn_good_by s i (meaning_of Base i.code) h (makes Base p setting s.registers i words given h.registers (k i refl))
      (leaves Base p setting s.registers i s.answers words given h.registers (k i refl) h.answers)

  step_good : (s : State) → IsGood s → IsGoodTurn (step Base p setting s)
  step_good s h = at_good s (slice_get p.instructions s.place) h (instructions s.place)

  walk_good : (n : ℕ) (s t : State) → IsGood s → Goes (step Base p setting) n s t → IsGood t
  walk_good zero s t h g = subst IsGood g h
  walk_good (suc n) s t h g = walk_good n g.0 t (subst IsGoodTurn g.1 (step_good s h)) g.2

  event_good : (s : State) (e : Event) (after : ℕ → State) → IsGood s → Meets (step Base p setting) s (Asks e after) → IsEventOfWords e × ((w : ℕ) → w < 2 ^ 32 → IsGood (after w))
  event_good s e after h m = subst IsGoodTurn m.1.2 (step_good m.1.0 (walk_good m.0 s m.1.0 h m.1.1))

  log_good : (events : List Event) (answers : List ℕ) (s t : State) → IsGood s → Makes (step Base p setting) s events answers t → IsGood t
  log_good [] [] s t h k = subst IsGood k h
  log_good [] (a ∷ answers) s t h k = absurd k
  log_good (e ∷ events) [] s t h k = absurd k
  log_good (e ∷ events) (a ∷ answers) s t h k =
      let g = event_good s e k.0 h k.1 in
      log_good events answers (k.0 a) t (g.1 a k.2) k.3

  pub makes_words : MakesOnly IsEventOfWords (step Base p setting) start
  makes_words events answers t e after k m =
      let zeros : IsGood start = record { registers = record { temp = λ slot c. omega arith; indexable = λ slot index c. omega arith }; answers = no_words } in
      (event_good t e after (log_good events answers start t zeros k) m).0
