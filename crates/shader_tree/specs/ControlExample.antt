-- Control flow as a tree, and its events: a loop with a break, a continue and a return, and a switch with a default
-- between its cases.
use Rattle.std.specs.Prelude.{◌≡◌, [], ◌∷◌, refl}
use Rattle.word_base.specs.declared.arithmetic.Binary.TheVariants.{Uge, Ieq}
use Rattle.word_base.specs.declared.event.Room.TheVariants.{Uav}
use Rattle.shader_tree.specs.Terms.{Term, Word, Two, Guard, Loop, Switch, Case, Default, Break, Continue, Return, Then}
use Rattle.shader_tree.specs.ExampleParts.{log, putting, AtEnd, logged, r0, puts, adds, all, is_set, stores}
use Rattle.shader_tree.specs.Shape.{shape, OpensLoop, OpensSwitch, ClosesIt, Stores}

-- switch r0.x; case 1: r0.y += 1; default: r0.y += 10; break; case 3: r0.y += 100; case 4: r0.y += 1000; break;
-- endswitch
abbrev pub cases : Term
cases =
    Case 1 (Then (adds 1 1) (
    Default (Then (adds 1 10) (Then Break (
    Case 3 (Then (adds 1 100) (
    Case 4 (Then (adds 1 1000) Break))))))))

abbrev pub body : Term
body = all (
    puts 2 (Two Uge (r0 0) (Word 6)) ∷ Guard (is_set 2) Break ∷
    adds 0 1 ∷ puts 2 (Two Ieq (r0 0) (Word 2)) ∷ Guard (is_set 2) Continue ∷
    Switch (r0 0) cases ∷ stores (r0 1) ∷
    puts 2 (Two Ieq (r0 0) (Word 5)) ∷ Guard (is_set 2) Return ∷ [])

abbrev pub control : Term
control = all (puts 0 (Word 0) ∷ puts 1 (Word 0) ∷ Loop body ∷ Return ∷ [])

-- what it stores; the loop is begun anew four times, once behind the continue
pub stored : logged 80 [] control
    ≡ log (putting 11 ∷ putting 1111 ∷ putting 2111 ∷ putting 2121 ∷ []) (AtEnd 4)
stored = refl

-- its shape: the store inside the loop and behind the switch
pub shaped : shape control ≡ OpensLoop ∷ OpensSwitch (1 ∷ 3 ∷ 4 ∷ []) ∷ ClosesIt ∷ Stores (Uav 0) ∷ ClosesIt ∷ []
shaped = refl
