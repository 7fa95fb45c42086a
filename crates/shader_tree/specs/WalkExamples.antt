-- What statements hold and name, and where they stand.
use Rattle.std.specs.Prelude.{◌≡◌, true, false, [], ◌∷◌, refl}
use Rattle.word_base.specs.declared.event.Act.TheVariants.{Add}
use Rattle.word_base.specs.declared.event.Room.TheVariants.{Resource, Uav, Shared}
use Rattle.tpf_decode.specs.declared.argument.Kind.TheVariants.{FlatId}
use Rattle.shader_tree.specs.declared.node.Comparison.TheVariants.{ULess}
use Rattle.shader_tree.specs.declared.node.Space.TheVariants.{Temps, Constant}
use Rattle.shader_tree.specs.Terms.{Term, Word, Scratch, Thread, Read, Length, Compare, Write, Load, Store, Atomic, Guard, Loop, Switch, Case, Default, Break, Continue, Then, Nothing}
use Rattle.shader_tree.specs.ControlExample.{control}
use Rattle.shader_tree.specs.ExampleParts.{all}
use Rattle.shader_tree.specs.Placed.{is_placed}
use Rattle.shader_tree.specs.Shape.{shape, Loads, Stores, Changes}
use Rattle.shader_tree.specs.Walks.{scratch_in, threads_in, spaces_in, written_in, rooms_in, changed_in, holds_no, is_event, is_flow}

-- a load under its test, a store of what it left, and an atomic
abbrev pub accesses : Term
accesses = all (
    Guard (Compare ULess (Scratch 4) (Length (Resource 0))) (Load 5 (Resource 0) (Scratch 4)) ∷
    Store (Uav 1) (Thread FlatId 0) (Read (Constant 2) (Word 0)) ∷
    Atomic 6 (Shared 3) (Word 0) Add (Scratch 5) (Word 0) ∷
    Write Temps (Word 0) (Scratch 6) ∷ [])

pub shaped : shape accesses ≡ Loads (Resource 0) ∷ Stores (Uav 1) ∷ Changes (Shared 3) Add ∷ []
shaped = refl

pub scratch : scratch_in accesses ≡ 4 ∷ 4 ∷ 5 ∷ 6 ∷ []
scratch = refl

pub threads : threads_in accesses ≡ FlatId ∷ []
threads = refl

pub spaces : spaces_in accesses ≡ Constant 2 ∷ Temps ∷ []
spaces = refl

pub written : written_in accesses ≡ Temps ∷ []
written = refl

pub rooms : rooms_in accesses ≡ Resource 0 ∷ Resource 0 ∷ Uav 1 ∷ Shared 3 ∷ []
rooms = refl

pub changed : changed_in accesses ≡ Uav 1 ∷ Shared 3 ∷ []
changed = refl

pub events_are_held : holds_no is_event accesses ≡ false
events_are_held = refl

pub no_flow : holds_no is_flow accesses ≡ true
no_flow = refl

pub flow : holds_no is_flow control ≡ false
flow = refl

-- Statements that stand where they may: those of the control flow, also a continue in a switch inside a loop.
pub well_placed : is_placed control ≡ true
well_placed = refl

pub through_switch : is_placed (Loop (Switch (Word 0) (Case 0 (Then Continue (Default Break))))) ≡ true
through_switch = refl

-- a break and a continue without a construct, a continue in a switch alone, a case outside a switch, in a guard and
-- in a loop, and a switch with a case or a default twice
pub stray_break : is_placed (Then (Loop Nothing) Break) ≡ false
stray_break = refl

pub stray_continue : is_placed (Switch (Word 0) (Case 0 Continue)) ≡ false
stray_continue = refl

pub stray_case : is_placed (Case 0 Nothing) ≡ false
stray_case = refl

pub guarded_case : is_placed (Switch (Word 0) (Guard (Compare ULess (Word 0) (Word 1)) (Case 0 Nothing))) ≡ false
guarded_case = refl

pub case_in_loop : is_placed (Switch (Word 0) (Loop (Default Nothing))) ≡ false
case_in_loop = refl

pub twice : is_placed (Switch (Word 0) (Then (Case 7 Break) (Case 7 Break))) ≡ false
twice = refl

pub two_defaults : is_placed (Switch (Word 0) (Then (Default Break) (Default Break))) ≡ false
two_defaults = refl
