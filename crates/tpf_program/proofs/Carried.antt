-- The events of an instruction name words.
use Rattle.std.proofs.Common.{◌≡◌, ℕ, zero, suc, ◌+◌, ◌*◌, ◌/◌, ◌<◌, ◌^◌, Bool, true, false, List, [], ◌∷◌, map, Option, Some, None, refl, subst, arith}
use Rattle.std.specs.Prelude.{nat_lt, if◌then◌else◌, ◌&&◌, slice_get, option_map}
use Rattle.std.proofs.lemmas.Nat.{mul-add-lt}
use Rattle.std.proofs.lemmas.Bool.{ltb-true}
use Rattle.std.proofs.Math.Nat.{div-mul-le_self}
use Rattle.word_base.specs.declared.event.Act.{Act}
use Rattle.word_base.specs.declared.event.Event.{Event}
use Rattle.word_base.specs.declared.event.Event.TheVariants.{Fence, Barrier}
use Rattle.word_base.specs.Settings.{Setting, HoldsWords}
use Rattle.word_base.specs.Registers.{Registers}
use Rattle.tpf_decode.specs.declared.argument.Argument.{Argument}
use Rattle.tpf_program.specs.declared.instruction.Instruction.{Instruction}
use Rattle.tpf_decode.specs.Profiles.{Profile}
use Rattle.tpf_decode.specs.Opcodes.{meaning_of}
use Rattle.tpf_decode.specs.declared.meaning.Meaning.{Meaning}
use Rattle.tpf_decode.specs.declared.meaning.Meaning.TheVariants.{One, Two, Three, Inserts, Pair, Swaps, LoadRaw, LoadStructured, LoadTyped, StoreRaw, StoreStructured, StoreTyped, Measures, Acts, Compares, Fetches, Exchanges, Allocates, Consumes, Syncs, If, Else, EndIf, Loop, EndLoop, Continue, ContinueIf, Switch, Case, Default, EndSwitch, Break, BreakIf, Return, ReturnIf, Nop}
use Rattle.tpf_program.specs.Program.{Shader}
use Rattle.tpf_program.specs.Values.{Context, context, selected}
use Rattle.tpf_program.specs.Views.{Address, AtByte, InStructure, AtWord, word_at, reached, room_of, paired_at, raw_at, structured_at, typed_at}
use Rattle.tpf_program.specs.Writes.{has_bit, masked, written}
use Rattle.tpf_program.specs.Plans.{parts, made, load_part, store_part, atomic, has_counter, sync, scope_of, classes_of}
use Rattle.tpf_program.specs.Bytecode.{plan, plan_by}
use Rattle.tpf_program.specs.Holding.{HoldWords, IsOfWords, AreOfWords, IsProgramOfWords, IsEventOfWords}
use Rattle.tpf_program.proofs.Kept.{WordsIn, value_word}

-- a word that is in range is a word
IsFound : Option ℕ → Type 0
IsFound None = Unit {0}
IsFound (Some w) = w < 2 ^ 32

where_below : (b : Bool) (w extent : ℕ) → nat_lt w extent ≡ b → extent < 2 ^ 32 → IsFound (if b then Some w else None)
unfolding IsFound
where_below true w extent e h = let l = ltb-true w extent e in omega (arith, l)
where_below false w extent e h = tt

inside : (extent words index word : ℕ) → index < extent / words → word < words → index * words + word < extent
inside extent words index word h k =
    let p = mul-add-lt index words word (extent / words) h k in
    let q = div-mul-le_self extent words in
    grind (arith, p, q)

where_inside : (b c : Bool) (extent words index word : ℕ) → nat_lt index (extent / words) ≡ b → nat_lt word words ≡ c → extent < 2 ^ 32
    → IsFound (if b && c then Some (index * words + word) else None)
unfolding IsFound
where_inside true true extent words index word e f h =
    let l = inside extent words index word (ltb-true index (extent / words) e) (ltb-true word words f) in omega (arith, l)
where_inside true false extent words index word e f h = tt
where_inside false c extent words index word e f h = tt

found_word : (extent : ℕ) (at : Address) (c : ℕ) → extent < 2 ^ 32 → IsFound (word_at extent at c)
found_word extent (AtByte offset) c h = where_below (nat_lt (offset / 4 + c) extent) _ extent refl h
found_word extent (InStructure words index offset) c h =
    where_inside (nat_lt index (extent / words)) (nat_lt (offset / 4 + c) words) extent words index (offset / 4 + c) refl refl h
found_word extent (AtWord index) c h = where_below (nat_lt index extent) _ extent refl h

-- all parts name words
AreParts : List (Option Event) → Type 0
AreParts [] = Unit {0}
AreParts (None ∷ rest) = AreParts rest
AreParts (Some e ∷ rest) = IsEventOfWords e × AreParts rest

part : (o : Option ℕ) (f : ℕ → Event) (rest : List (Option Event)) → IsFound o → ((w : ℕ) → w < 2 ^ 32 → IsEventOfWords (f w)) → AreParts rest → AreParts (option_map f o ∷ rest)
unfolding IsFound AreParts
part None f rest h k l = l
part (Some w) f rest h k l = (k w h, l)

none : AreParts []
unfolding AreParts
none = tt

each_load : (k : Context) → WordsIn k → (view : Argument) (at : Address) (cs : List ℕ) → AreParts (map (load_part k view at) cs)
each_load k h view at [] = none
each_load k h view at (c ∷ cs) =
    part (reached k view at (selected view.select c)) _ _ (found_word _ at _ (h.setting.extent (room_of view))) (λ w l. l) (each_load k h view at cs)

each_store : (k : Context) → WordsIn k → (view : Argument) (at : Address) (from : Argument) → IsOfWords from → (cs : List ℕ) → AreParts (map (store_part k view at from) cs)
each_store k h view at from o [] = none
each_store k h view at from o (c ∷ cs) =
    part (reached k view at c) _ _ (found_word _ at _ (h.setting.extent (room_of view))) (λ w l. (l, value_word k h from o c)) (each_store k h view at from o cs)

one_atomic : (k : Context) → WordsIn k → (view at : Argument) (kind : Act) (a b : ℕ) → a < 2 ^ 32 → b < 2 ^ 32 → AreParts (atomic k view at kind a b)
one_atomic k h view at kind a b l m =
    part (reached k view (paired_at k view at) 0) _ _ (found_word _ (paired_at k view at) _ (h.setting.extent (room_of view))) (λ w n. (n, l, m)) none

one_step : (t : Bool) (e : Event) → IsEventOfWords e → AreParts ((if t then Some e else None) ∷ [])
unfolding AreParts
one_step true e h = (h, tt)
one_step false e h = tt

one_sync : (t : Bool) (controls : ℕ) → IsEventOfWords (if t then Barrier (scope_of controls) (classes_of controls) else Fence (scope_of controls) (classes_of controls))
one_sync true controls = tt
one_sync false controls = tt

parts_are : (k : Context) → WordsIn k → (m : Meaning) (i : Instruction) → AreOfWords i → AreParts (parts k m i)
parts_are k h LoadRaw i o = each_load k h i.o2 (raw_at k i.o1) (written i.o0)
parts_are k h LoadStructured i o = each_load k h i.o3 (structured_at k i.o3 i.o1 i.o2) (written i.o0)
parts_are k h LoadTyped i o = part (reached k i.o2 (typed_at k i.o1) 0) _ _ (found_word (k.setting.extent (room_of i.o2)) (typed_at k i.o1) 0 (h.setting.extent (room_of i.o2))) (λ w l. l) none
parts_are k h StoreRaw i o = each_store k h i.o0 (raw_at k i.o1) i.o2 o.o2 (masked i.o0.select)
parts_are k h StoreStructured i o = each_store k h i.o0 (structured_at k i.o0 i.o1 i.o2) i.o3 o.o3 (masked i.o0.select)
parts_are k h StoreTyped i o = each_store k h i.o0 (typed_at k i.o1) i.o2 o.o2 (0 ∷ [])
parts_are k h (Acts kind) i o = one_atomic k h i.o0 i.o1 kind _ 0 (value_word k h i.o2 o.o2 0) (omega arith)
parts_are k h Compares i o = one_atomic k h i.o0 i.o1 _ _ _ (value_word k h i.o2 o.o2 0) (value_word k h i.o3 o.o3 0)
parts_are k h (Fetches kind) i o = one_atomic k h i.o1 i.o2 kind _ 0 (value_word k h i.o3 o.o3 0) (omega arith)
parts_are k h Exchanges i o = one_atomic k h i.o1 i.o2 _ _ _ (value_word k h i.o3 o.o3 0) (value_word k h i.o4 o.o4 0)
parts_are k h Allocates i o = one_step (has_counter k i.o1) _ (omega arith, omega arith, omega arith)
parts_are k h Consumes i o = one_step (has_counter k i.o1) _ (omega arith, omega arith, omega arith)
parts_are k h Syncs i o = one_step true (sync i.controls) (one_sync (has_bit i.controls 11) i.controls)
parts_are k h (One op) i o = none
parts_are k h (Two op) i o = none
parts_are k h (Three op) i o = none
parts_are k h Inserts i o = none
parts_are k h (Pair op) i o = none
parts_are k h Swaps i o = none
parts_are k h Measures i o = none
parts_are k h If i o = none
parts_are k h Else i o = none
parts_are k h EndIf i o = none
parts_are k h Loop i o = none
parts_are k h EndLoop i o = none
parts_are k h Continue i o = none
parts_are k h ContinueIf i o = none
parts_are k h Switch i o = none
parts_are k h Case i o = none
parts_are k h Default i o = none
parts_are k h EndSwitch i o = none
parts_are k h Break i o = none
parts_are k h BreakIf i o = none
parts_are k h Return i o = none
parts_are k h ReturnIf i o = none
parts_are k h Nop i o = none

made_are : (ps : List (Option Event)) → AreParts ps → (n : ℕ) (e : Event) → slice_get (made ps) n ≡ Some e → IsEventOfWords e
unfolding AreParts
made_are [] h n e f = absurd (cc)
made_are (None ∷ ps) h n e f = made_are ps h n e f
made_are (Some x ∷ ps) h zero e f = let g : x ≡ e = cc in subst IsEventOfWords g h.0
made_are (Some x ∷ ps) h (suc n) e f = made_are ps h.1 n e f

planned : (k : Context) → WordsIn k → (o : Option Meaning) (i : Instruction) → AreOfWords i → (n : ℕ) (e : Event) → slice_get (plan_by k o i) n ≡ Some e → IsEventOfWords e
planned k h None i o n e f = absurd (cc)
planned k h (Some m) i o n e f = made_are (parts k m i) (parts_are k h m i o) n e f

pub plan_words : (profile : Profile) (p : Shader) (setting : Setting) (registers : Registers) (i : Instruction)
    → IsProgramOfWords p → HoldsWords setting → HoldWords registers → AreOfWords i → (n : ℕ) (e : Event) → slice_get (plan profile p setting registers i) n ≡ Some e → IsEventOfWords e
plan_words profile p setting registers i h k l o =
    planned (context p setting registers) (record { program = h; setting = k; registers = l }) (meaning_of profile i.code) i o
