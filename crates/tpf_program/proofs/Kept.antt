-- Instructions leave words in registers.
use Rattle.std.proofs.Common.{◌≡◌, ℕ, zero, suc, ◌+◌, ◌*◌, ◌/◌, ◌<◌, ◌^◌, Bool, true, false, List, [], ◌∷◌, map, Option, Some, None, refl, arith}
use Rattle.std.specs.Prelude.{nat_eq, nat_lt, if◌then◌else◌, ◌&&◌}
use Rattle.std.proofs.Math.Nat.{div-le_self}
use Rattle.word_base.specs.declared.event.Event.{Event}
use Rattle.word_base.specs.Registers.{Registers}
use Rattle.word_base.specs.Settings.{HoldsWords}
use Rattle.word_base.specs.Words.{AreWords}
use Rattle.tpf_decode.specs.declared.argument.Argument.{Argument}
use Rattle.tpf_decode.specs.declared.argument.Kind.{Kind}
use Rattle.tpf_decode.specs.declared.argument.Kind.TheVariants as kind
use Rattle.tpf_program.specs.Sizes.{Addressing, Bytes, Structures, temps_of, elements_of, vectors_of, Words}
use Rattle.tpf_program.specs.Values.{Context, of_four, named, word_by, value, index_of, selected}
use Rattle.tpf_program.specs.Writes.{Target, InTemp, InElement, Nowhere, with_word, with_words, writes, written, target}
use Rattle.tpf_program.specs.Views.{room_of, addressing}
use Rattle.tpf_program.specs.Plans.{answered}
use Rattle.tpf_program.specs.Results.{measure, measure_by}
use Rattle.tpf_program.specs.Holding.{HoldWords, IsOfWords, IsProgramOfWords}

pub either : (b : Bool) (x y : ℕ) → x < 2 ^ 32 → y < 2 ^ 32 → (if b then x else y) < 2 ^ 32
either true x y h k = h
either false x y h k = k

-- one of four words
pub one_of : (x y z w c : ℕ) → x < 2 ^ 32 → y < 2 ^ 32 → z < 2 ^ 32 → w < 2 ^ 32 → of_four x y z w c < 2 ^ 32
one_of x y z w c h k l m = either (nat_eq c 0) _ _ h (either (nat_eq c 1) _ _ k (either (nat_eq c 2) _ _ l m))

-- what a lane reads holds words
pub record WordsIn (k : Context) : Type 0 where
  pub program : IsProgramOfWords k.program
  pub setting : HoldsWords k.setting
  pub registers : HoldWords k.registers

named_word : (k : Context) → WordsIn k → (kind : Kind) (slot index c : ℕ) → named k kind slot index c < 2 ^ 32
named_word k h kind.Temp slot index c = either (nat_lt slot (temps_of k.program.declarations)) _ _ (h.registers.temp slot c) (omega arith)
named_word k h kind.Indexable slot index c = either (nat_lt index (elements_of slot k.program.declarations)) _ _ (h.registers.indexable slot index c) (omega arith)
named_word k h kind.Constant slot index c = either (nat_lt index (vectors_of slot k.program.declarations)) _ _ (h.setting.constants slot (4 * index + c)) (omega arith)
named_word k h kind.ImmediateConstant slot index c = h.program.constants (4 * index + c)
named_word k h kind.ThreadId slot index c = one_of _ _ _ _ c h.setting.ids.thread_x h.setting.ids.thread_y h.setting.ids.thread_z (omega arith)
named_word k h kind.GroupId slot index c = one_of _ _ _ _ c h.setting.ids.group_x h.setting.ids.group_y h.setting.ids.group_z (omega arith)
named_word k h kind.IdInGroup slot index c = one_of _ _ _ _ c h.setting.ids.x h.setting.ids.y h.setting.ids.z (omega arith)
named_word k h kind.FlatId slot index c = h.setting.ids.flat
named_word k h kind.Immediate slot index c = omega arith
named_word k h kind.Resource slot index c = omega arith
named_word k h kind.Null slot index c = omega arith
named_word k h kind.Uav slot index c = omega arith
named_word k h kind.Shared slot index c = omega arith

word_below : (k : Context) → WordsIn k → (kind : Kind) (a : Argument) → IsOfWords a → (c : ℕ) → word_by kind k a c < 2 ^ 32
word_below k h kind.Immediate a o c = one_of _ _ _ _ c o.x o.y o.z o.w
word_below k h kind.Temp a o c = named_word k h kind.Temp a.slot (index_of k a) (selected a.select c)
word_below k h kind.Indexable a o c = named_word k h kind.Indexable a.slot (index_of k a) (selected a.select c)
word_below k h kind.Constant a o c = named_word k h kind.Constant a.slot (index_of k a) (selected a.select c)
word_below k h kind.ImmediateConstant a o c = named_word k h kind.ImmediateConstant a.slot (index_of k a) (selected a.select c)
word_below k h kind.ThreadId a o c = named_word k h kind.ThreadId a.slot (index_of k a) (selected a.select c)
word_below k h kind.GroupId a o c = named_word k h kind.GroupId a.slot (index_of k a) (selected a.select c)
word_below k h kind.IdInGroup a o c = named_word k h kind.IdInGroup a.slot (index_of k a) (selected a.select c)
word_below k h kind.FlatId a o c = named_word k h kind.FlatId a.slot (index_of k a) (selected a.select c)
word_below k h kind.Resource a o c = omega arith
word_below k h kind.Null a o c = omega arith
word_below k h kind.Uav a o c = omega arith
word_below k h kind.Shared a o c = omega arith

pub value_word : (k : Context) → WordsIn k → (a : Argument) → IsOfWords a → (c : ℕ) → value k a c < 2 ^ 32
value_word k h a o c = either a.negate _ _ (omega arith) (word_below k h a.kind a o c)

-- registers with words set
one_set : (t : Target) (c w : ℕ) (r : Registers) → w < 2 ^ 32 → HoldWords r → HoldWords (with_word t c w r)
one_set (InTemp slot) c w r h k = record {
  temp = λ s d. either (nat_eq s slot && nat_eq d c) _ _ h (k.temp s d);
  indexable = k.indexable;
}
one_set (InElement slot index) c w r h k = record {
  temp = k.temp;
  indexable = λ s i d. either (nat_eq s slot && (nat_eq i index && nat_eq d c)) _ _ h (k.indexable s i d);
}
one_set Nowhere c w r h k = k

pub all_set : (t : Target) (cs ws : List ℕ) (r : Registers) → AreWords ws → HoldWords r → HoldWords (with_words t cs ws r)
all_set t [] ws r h k = k
all_set t (c ∷ cs) [] r h k = k
all_set t (c ∷ cs) (w ∷ ws) r h k = all_set t cs ws (with_word t c w r) (λ n. h (suc n)) (one_set t c w r (h 0) k)

mapped : (f : ℕ → ℕ) → ((c : ℕ) → f c < 2 ^ 32) → (cs : List ℕ) → AreWords (map f cs)
mapped f h [] n = omega arith
mapped f h (c ∷ cs) zero = h c
mapped f h (c ∷ cs) (suc n) = mapped f h cs n

pub set_by : (k : Context) (a : Argument) (f : ℕ → ℕ) (r : Registers) → ((c : ℕ) → f c < 2 ^ 32) → HoldWords r → HoldWords (writes k a f r)
set_by k a f r h g = all_set (target k a) (written a) (map f (written a)) r (mapped f h (written a)) g

pub answers_are : (ps : List (Option Event)) (answers : List ℕ) → AreWords answers → AreWords (answered ps answers)
answers_are [] answers h n = omega arith
answers_are (None ∷ ps) answers h zero = omega arith
answers_are (None ∷ ps) answers h (suc n) = answers_are ps answers h n
answers_are (Some e ∷ ps) [] h zero = omega arith
answers_are (Some e ∷ ps) [] h (suc n) = answers_are ps [] h n
answers_are (Some e ∷ ps) (a ∷ answers) h zero = h 0
answers_are (Some e ∷ ps) (a ∷ answers) h (suc n) = answers_are ps answers (λ m. h (suc m)) n

measured_by : (a : Addressing) → ((stride : ℕ) → a ≡ Structures stride → stride < 2 ^ 32) → (extent c : ℕ) → extent < 2 ^ 32 → measure_by a extent c < 2 ^ 32
measured_by Bytes h extent c e = one_of _ _ _ _ c (omega arith) (omega arith) (omega arith) (omega arith)
measured_by (Structures stride) h extent c e = one_of _ _ _ _ c (let q = div-le_self extent (stride / 4) in omega (arith, q)) (h stride refl) (omega arith) (omega arith)
measured_by Words h extent c e = omega arith

pub measure_word : (k : Context) → WordsIn k → (view : Argument) (c : ℕ) → measure k view c < 2 ^ 32
measure_word k h view c =
    measured_by (addressing k view) (h.program.strides view.kind view.slot) (k.setting.extent (room_of view)) (selected view.select c) (h.setting.extent (room_of view))
