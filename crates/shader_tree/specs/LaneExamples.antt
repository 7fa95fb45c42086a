-- What lanes of trees log: guards, switches, loops, events; and where they are wrong.
use Rattle.std.specs.Prelude.{◌≡◌, ℕ, ◌^◌, ◌-◌, true, false, [], ◌∷◌, Option, None, refl}
use Rattle.word_base.specs.declared.arithmetic.Binary.TheVariants.{Iadd}
use Rattle.word_base.specs.declared.event.Act.TheVariants.{Add, CompareExchange}
use Rattle.word_base.specs.declared.event.Classes.{Classes}
use Rattle.word_base.specs.declared.event.Event.TheVariants as event
use Rattle.word_base.specs.declared.event.Room.TheVariants.{Resource, Uav, Shared}
use Rattle.word_base.specs.declared.event.Scope.TheVariants.{Group, Device}
use Rattle.tpf_decode.specs.declared.argument.Kind.TheVariants.{ThreadId, FlatId, Temp}
use Rattle.shader_tree.specs.declared.node.Comparison.TheVariants.{Equal, ULess, SLess}
use Rattle.shader_tree.specs.declared.node.Space.TheVariants.{Temps, Indexable, Constant, ImmediateConstant}
use Rattle.shader_tree.specs.Terms.{Term, Word, Scratch, Thread, Read, Length, Two, Quotient, Product, Pick, Compare, Both, Set, Write, Load, Atomic, Sync, Guard, If, Loop, Switch, Case, Default, Break, Continue, Return, Then, Nothing}
use Rattle.shader_tree.specs.ExampleParts.{putting, log, AtEnd, IsWrong, GoesOn, logged, spaces, setting, r0, adds, all, stores}
use Rattle.shader_tree.specs.Lane.{start}
use Rattle.shader_tree.specs.Values.{Value, value, word, truth}

-- the value at the start of a lane
abbrev pub value_of : Term → Option Value
value_of t = value spaces setting (start t).words t

-- A GUARDED LOAD of the word at an index of a room of two words, and a store of what it left: the answer 7, or 0.
abbrev pub guarded : ℕ → Term
guarded i = all (
    Set 0 (Word i) ∷ Set 1 (Word 0) ∷
    Guard (Compare ULess (Scratch 0) (Length (Resource 0))) (Load 1 (Resource 0) (Scratch 0)) ∷
    stores (Scratch 1) ∷ [])

pub inside : logged 9 (7 ∷ []) (guarded 1) ≡ log (event.Load (Resource 0) 1 ∷ putting 7 ∷ []) (AtEnd 0)
inside = refl

pub outside : logged 9 (7 ∷ []) (guarded 2) ≡ log (putting 0 ∷ []) (AtEnd 0)
outside = refl

-- without its guard the load is wrong there
pub unguarded : logged 9 [] (Load 1 (Resource 0) (Word 2)) ≡ log [] IsWrong
unguarded = refl

-- SWITCHES: from the default on into the case behind it; from that case; from a default behind it; and not at all.
abbrev pub falling : ℕ → Term
falling w = all (
    Switch (Word w) (Case 1 (Then Break (Default (Then (adds 0 1) (Case 3 (Then (adds 0 10) Break)))))) ∷
    stores (r0 0) ∷ [])

pub through_default : logged 20 [] (falling 9) ≡ log (putting 11 ∷ []) (AtEnd 0)
through_default = refl

pub from_case : logged 20 [] (falling 3) ≡ log (putting 10 ∷ []) (AtEnd 0)
from_case = refl

abbrev pub default_first : Term
default_first = Switch (Word 3) (Default (Then (adds 0 1) (Case 3 (adds 0 10))))

pub default_in_front : logged 20 [] (Then default_first (stores (r0 0))) ≡ log (putting 10 ∷ []) (AtEnd 0)
default_in_front = refl

pub without_default : logged 20 [] (Then (Switch (Word 4) (Case 3 (adds 0 10))) (stores (r0 0)))
    ≡ log (putting 0 ∷ []) (AtEnd 0)
without_default = refl

-- A LOOP: r0.x counts to 3, its second turn goes back early, and the break leaves the loop though it stands in a
-- selection.
abbrev pub looping : Term
looping = all (
    Loop (all (
    adds 0 1 ∷ If (Compare Equal (r0 0) (Word 3)) Break Nothing ∷
    Guard (Compare Equal (r0 0) (Word 2)) Continue ∷ stores (r0 0) ∷ [])) ∷
    stores (Word 99) ∷ [])

pub left_and_renewed : logged 40 [] looping ≡ log (putting 1 ∷ putting 99 ∷ []) (AtEnd 2)
left_and_renewed = refl

-- a break in a switch inside a loop leaves the switch, and a continue there the loop's body
abbrev pub broken : Term
broken = all (
    Switch (r0 0) (Case 0 Break) ∷ adds 0 1 ∷ Guard (Compare Equal (r0 0) (Word 2)) Return ∷ stores (r0 0) ∷ [])

pub inner_switch : logged 40 [] (Loop broken) ≡ log (putting 1 ∷ []) (AtEnd 1)
inner_switch = refl

pub out_of_switch : logged 40 [] (Loop (all (adds 0 1 ∷ Switch (r0 0) (Case 1 Continue) ∷ stores (r0 0) ∷ Return ∷ [])))
    ≡ log (putting 2 ∷ []) (AtEnd 1)
out_of_switch = refl

-- a body without an end goes on and on
pub for_ever : logged 40 [] (Loop Nothing) ≡ log [] GoesOn
for_ever = refl

-- ATOMICS AND FENCES: the second operand counts in a compare-exchange alone.
abbrev pub shared_only : Classes
shared_only = record { buffers = false; shared = true }

pub added : logged 9 (4 ∷ []) (all (Atomic 0 (Shared 2) (Word 1) Add (Word 5) (Word 6) ∷ stores (Scratch 0) ∷ []))
    ≡ log (event.Atomic (Shared 2) 1 Add 5 0 ∷ putting 4 ∷ []) (AtEnd 0)
added = refl

pub exchanged : logged 9 [] (Atomic 0 (Uav 1) (Word 0) CompareExchange (Word 5) (Word 6))
    ≡ log (event.Atomic (Uav 1) 0 CompareExchange 5 6 ∷ []) (AtEnd 0)
exchanged = refl

pub synchronised : logged 9 [] (Then (Sync true Group shared_only) (Sync false Device shared_only))
    ≡ log (event.Barrier Group shared_only ∷ event.Fence Device shared_only ∷ []) (AtEnd 0)
synchronised = refl

-- SPACES: the last word of each, and one past it. Of a constant buffer one word is given, and the rest of its vector
-- is 0.
pub last_temp : logged 9 [] (Then (Write Temps (Word 7) (Word 3)) (stores (Read Temps (Word 7))))
    ≡ log (putting 3 ∷ []) (AtEnd 0)
last_temp = refl

pub past_temps : logged 9 [] (Write Temps (Word 8) (Word 3)) ≡ log [] IsWrong
past_temps = refl

pub past_indexable : value_of (Read (Indexable 0) (Word 4)) ≡ None
past_indexable = refl

pub given : value_of (Read (Constant 0) (Word 0)) ≡ word 9
given = refl

pub not_given : value_of (Read (Constant 0) (Word 3)) ≡ word 0
not_given = refl

pub past_constants : value_of (Read (Constant 0) (Word 4)) ≡ None
past_constants = refl

pub last_immediate : value_of (Read ImmediateConstant (Word 3)) ≡ word 8
last_immediate = refl

pub past_immediates : value_of (Read ImmediateConstant (Word 4)) ≡ None
past_immediates = refl

pub constants_stay : logged 9 [] (Write (Constant 0) (Word 0) (Word 3)) ≡ log [] IsWrong
constants_stay = refl

-- EACH PART must have a value, also the one that is not picked, and of the right sort.
pub not_picked : value_of (Pick (Compare Equal (Word 0) (Word 0)) (Word 1) (Read Temps (Word 8))) ≡ None
not_picked = refl

pub wrong_part : logged 9 [] (Set 0 (Pick (Compare Equal (Word 0) (Word 0)) (Word 1) (Read Temps (Word 8))))
    ≡ log [] IsWrong
wrong_part = refl

pub divisor : value_of (Quotient (Word 7) 0) ≡ None
divisor = refl

pub quotient : value_of (Quotient (Word 7) 2) ≡ word 3
quotient = refl

pub wrapped : value_of (Product (Word (2 ^ 32 - 1)) 2) ≡ word (2 ^ 32 - 2)
wrapped = refl

pub a_truth_is_no_word : value_of (Two Iadd (Word 1) (Compare Equal (Word 0) (Word 0))) ≡ None
a_truth_is_no_word = refl

pub a_word_is_no_truth : value_of (Both (Compare Equal (Word 0) (Word 0)) (Word 1)) ≡ None
a_word_is_no_truth = refl

pub by_sign : value_of (Compare SLess (Word (2 ^ 32 - 1)) (Word 0)) ≡ truth true
by_sign = refl

pub by_value : value_of (Compare ULess (Word (2 ^ 32 - 1)) (Word 0)) ≡ truth false
by_value = refl

pub thread : value_of (Thread ThreadId 0) ≡ word 1
thread = refl

pub flat_thread : value_of (Thread FlatId 2) ≡ word 3
flat_thread = refl

pub no_thread : value_of (Thread Temp 0) ≡ None
no_thread = refl

-- a break without a loop or switch, a continue without a loop, an expression in a statement's place
pub stray_break : logged 9 [] (Guard (Compare Equal (Word 0) (Word 0)) Break) ≡ log [] IsWrong
stray_break = refl

pub stray_continue : logged 9 [] (Switch (Word 0) (Default Continue)) ≡ log [] IsWrong
stray_continue = refl

pub no_statement : logged 9 [] (Word 3) ≡ log [] IsWrong
no_statement = refl
