-- What the raised tree of a program names is there: two spellings of one test lead to the same answer.
use Rattle.std.proofs.Common.{◌≡◌, ℕ, Bool, true, false, List, [], ◌∷◌, refl, ap}
use Rattle.std.specs.Prelude.{not, ◌&&◌, ◌||◌, IsTrue, Ok}
use Rattle.std.specs.List.{list_any}
use Rattle.word_base.specs.declared.event.Room.{Room}
use Rattle.word_base.specs.declared.event.Room.TheVariants as room
use Rattle.tpf_decode.specs.declared.argument.Kind.{Kind}
use Rattle.tpf_program.specs.declared.declaration.Declaration.{Declaration}
use Rattle.tpf_program.specs.declared.declaration.Declared.{Declared}
use Rattle.tpf_program.specs.declared.declaration.Declaration.TheVariants.{Input}
use Rattle.tpf_program.specs.Program.{Shader}
use Rattle.spirv_words.specs.Memory.{takes_stores}
use Rattle.binding_map.specs.Bindings.{Binding}
use Rattle.binding_map.specs.Fits.{is_null_in}
use Rattle.shader_tree.specs.declared.node.Space.{Space}
use Rattle.shader_tree.specs.declared.node.Space.TheVariants as space
use Rattle.shader_tree.specs.Terms.{Term}
use Rattle.shader_tree.specs.Walks.{Each, changed_in, rooms_in, spaces_in, threads_in}
use Rattle.raise_operands.specs.Raises.{HasThread}
use Rattle.raise_operands.specs.Raises as raises
use Rattle.raise_program.specs.TreeOf.{NamesOf}
use Rattle.spirv_emit.specs.Begun.{IsSpaceThere}
use Rattle.spirv_emit.specs.declared.emitter.Emitter.{Emitter as Emission}
use Rattle.spirv_flow.specs.Emitting.{FitsTree, IsSpaceNamed}
use Rattle.spirv_setup.specs.Named as setup
use Rattle.spirv_setup.specs.Named.{IsNamed}
use Rattle.spirv_setup.specs.Unopened.{AreThere}

each_by : {X : Type 0} (P Q : X → Type 0) (xs : List X) → ((x : X) → P x → Q x) → Each P xs → Each Q xs
each_by P Q [] f h = tt
each_by P Q (x ∷ xs) f h = (f x h.0, each_by P Q xs f h.1)

-- THREAD IDS that are declared
input_same : (k : Kind) (d : Declaration) → raises.is_input k d ≡ true → setup.is_input k d ≡ true
input_same k (Input id select) e = e
input_same k d e = absurd (cc e)

either : (a b c d : Bool) → (a ≡ true → b ≡ true) → (c ≡ true → d ≡ true) → (a || c) ≡ true → (b || d) ≡ true
either true b c d f g h = ap (λ x. x || d) (f refl)
either false true c d f g h = refl
either false false c d f g h = g h

any_by : (f g : Declared → Bool) (ds : List Declared) → ((d : Declared) → f d ≡ true → g d ≡ true)
    → list_any f ds ≡ true → list_any g ds ≡ true
any_by f g [] less h = absurd (cc h)
any_by f g (d ∷ ds) less h = either (f d) (g d) (list_any f ds) (list_any g ds) (less d) (any_by f g ds less) h

-- ROOMS, by what sort they are
each_room : (P Q : Room → Type 0) (xs : List Room)
    → ((slot : ℕ) → P (room.Resource slot) → Q (room.Resource slot))
    → ((slot : ℕ) → P (room.Uav slot) → Q (room.Uav slot))
    → ((slot : ℕ) → P (room.Counter slot) → Q (room.Counter slot))
    → ((slot : ℕ) → P (room.Shared slot) → Q (room.Shared slot)) → Each P xs → Each Q xs
each_room P Q xs resource uav counter shared h = each_by P Q xs one h where
  one : (r : Room) → P r → Q r
  one (room.Resource slot) k = resource slot k
  one (room.Uav slot) k = uav slot k
  one (room.Counter slot) k = counter slot k
  one (room.Shared slot) k = shared slot k

pub named : (p : Shader) (bindings : List Binding) (x : Term) → NamesOf p bindings x → IsNamed p bindings x
named p bindings x n = record {
  threads = each_by (HasThread p) (λ k. IsTrue (list_any (λ d. setup.is_input k d.what) p.declarations)) (threads_in x)
      (λ k. any_by (λ d. raises.is_input k d.what) (λ d. setup.is_input k d.what) p.declarations
      (λ d. input_same k d.what)) n.threads;
  spaces = n.spaces;
  rooms = each_room _ (λ r. IsTrue (setup.has_room p r && not (is_null_in bindings r))) (rooms_in x)
      (λ slot h. h) (λ slot h. h) (λ slot h. h) (λ slot h. h) n.rooms;
}

-- SPACES that are there, but for the registers r#
space_named : (e : Emission) (s : Space) → ((s ≡ space.Temps → ⊥) → IsSpaceThere e s) → IsSpaceNamed e s
space_named e space.Temps h = tt
space_named e (space.Indexable slot) h = h (λ q. absurd (cc q))
space_named e (space.Constant slot) h = h (λ q. absurd (cc q))
space_named e space.ImmediateConstant h = h (λ q. absurd (cc q))

-- WHAT THE TREE HOLDS is there before the function is opened for it.
pub fits : (p : Shader) (bindings : List Binding) (e : Emission) (x : Term)
    → NamesOf p bindings x → AreThere e x → FitsTree e x
fits p bindings e x n there = record {
  spaces = each_by (λ s. (s ≡ space.Temps → ⊥) → IsSpaceThere e s) (IsSpaceNamed e) (spaces_in x) (space_named e)
      there.spaces;
  rooms = there.rooms;
  threads = there.threads;
  changed = each_room _ (λ r. takes_stores r ≡ Ok 0) (changed_in x) (λ slot h. absurd (cc h)) (λ slot h. refl)
      (λ slot h. refl) (λ slot h. refl) n.changed;
}
