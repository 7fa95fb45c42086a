-- The statement of an instruction, from where it reaches its room, its events and the words that it gives.
use Rattle.std.proofs.Common.{◌≡◌, ℕ, ◌≤◌, Bool, false, List, [], ◌∷◌, ◌++◌, map, refl, sym, ap, subst, arith, ◌∙◌}
use Rattle.std.specs.Prelude.{◌+◌, ◌-◌, ◌*◌, if◌then◌else◌, Option, Some, slice_get}
use Rattle.word_base.specs.declared.event.Classes.{Classes}
use Rattle.word_base.specs.declared.event.Room.{Room}
use Rattle.word_base.specs.declared.event.Scope.{Scope}
use Rattle.tpf_decode.specs.Opcodes.{meaning_of}
use Rattle.tpf_decode.specs.Profiles.{Base}
use Rattle.tpf_decode.specs.declared.meaning.Meaning.{Meaning}
use Rattle.tpf_decode.specs.declared.meaning.Meaning.TheVariants.{Allocates, Consumes}
use Rattle.tpf_program.specs.Program.{Shader}
use Rattle.tpf_program.specs.Sizes.{Addressing, of_view}
use Rattle.tpf_program.specs.declared.declaration.ViewKind.{ViewKind}
use Rattle.tpf_program.specs.declared.declaration.ViewKind.TheVariants as view
use Rattle.tpf_program.specs.declared.instruction.Instruction.{Instruction}
use Rattle.shader_tree.specs.declared.node.Node.{Node}
use Rattle.shader_tree.specs.Terms.{Set, Sync, Term}
use Rattle.shader_tree.specs.Values.{Spaces}
use Rattle.raise_operands.specs.declared.operand.Operands.{Operands}
use Rattle.raise_operands.specs.Building.{AreOperands, operands_nodes}
use Rattle.raise_operands.specs.Laws.{CountLaws}
use Rattle.raise_operands.specs.Raises.{IsLong}
use Rattle.raise_operands.specs.Raising.{chained_from, followed, target, write_by}
use Rattle.raise_operands.specs.Vectors.{spaces_of}
use Rattle.raise_views.specs.declared.address.Reach.{Reach}
use Rattle.raise_views.specs.declared.writing.Given.{Given}
use Rattle.raise_views.specs.Counting.{given_most, parts_nodes, work_nodes}
use Rattle.raise_views.specs.Giving.{given_nodes}
use Rattle.raise_views.specs.Guarding.{at_of, measure_by, parts_by, reach_of, writes}
use Rattle.raise_views.specs.Guards.{IsGuardable}
use Rattle.raise_views.specs.Making.{IsReachOf, length_of}
use Rattle.raise_views.specs.Reaching.{answer_scratch}
use Rattle.raise_views.proofs.Enough.{enough}
use Rattle.raise_views.proofs.Joining.{chained_append}

pub sync_same : (a b : Bool) (s t : Scope) (c d : Classes) → a ≡ b → s ≡ t → c ≡ d → Sync a s c ≡ Sync b t d
sync_same a b s t c d e h k = rw (e, h, k) refl

-- WHERE IT REACHES its room
pub way_same : (m : Meaning) (p : Shader) (i : Instruction) (r : Reach) (os : Operands) → IsReachOf m p i r
    → parts_nodes m r.address.way os ≡ parts_nodes m (at_of m p i).way os
way_same Allocates p i r os e = refl
way_same Consumes p i r os e = refl
way_same other p i r os e = ap (λ x. parts_nodes other x.address.way os) e

pub parts_same : (m : Meaning) (p : Shader) (i : Instruction) (r : Reach) → IsReachOf m p i r
    → parts_by m (spaces_of p) r i ≡ parts_by m (spaces_of p) (reach_of m p i) i
parts_same Allocates p i r e = rw e refl
parts_same Consumes p i r e = rw e refl
parts_same other p i r e = ap (λ x. parts_by other (spaces_of p) x i) e

-- THE LENGTH OF A VIEW
measure_is : (v : ViewKind) (r : Room) → measure_by (of_view false v) r ≡ Set (answer_scratch 0) (length_of (of_view false v) r) ∷ []
measure_is view.Raw r = refl
measure_is (view.Structured stride) r = refl

pub measured_is : (null : Bool) (s t x y : Term) (v : ViewKind) (a : Addressing) (r q : Room) → null ≡ false → s ≡ t → of_view false v ≡ a → r ≡ q
    → x ≡ Set 12 y → y ≡ length_of (of_view false v) r → followed s x ≡ chained_from t (if null then [] else measure_by a q)
measured_is null s t x y v a r q n e h k f g = rw (n, sym e, sym h, sym k, f, g, measure_is v r) refl

-- THE WORDS THAT IT GIVES
same_map : (f h : ℕ → Term) (cs : List ℕ) → ((c : ℕ) → f c ≡ h c) → map f cs ≡ map h cs
same_map f h [] e = refl
same_map f h (c ∷ cs) e = rw (e c, same_map f h cs e) refl

pub writes_same : (g : Spaces) (i : Instruction) (f h : ℕ → Term) (cs : List ℕ) → ((c : ℕ) → f c ≡ h c) → writes g i f cs ≡ writes g i h cs
writes_same g i f h cs e =
    same_map (λ c. write_by (target g i.o0) g 0 c (f c)) (λ c. write_by (target g i.o0) g 0 c (h c)) cs
    (λ c. ap (λ x. write_by (target g i.o0) g 0 c x) (e c))

-- THE WHOLE, one part behind the other
pub all_behind : (s : Term) (kept parts words : List Term) → chained_from (chained_from (chained_from s kept) parts) words
    ≡ chained_from s (kept ++ (parts ++ words))
all_behind s kept parts words =
    sym (chained_append s kept (parts ++ words) ∙ chained_append (chained_from s kept) parts words)

pub behind_same : (s t : Term) (xs ys : List Term) → s ≡ t → xs ≡ ys → chained_from s xs ≡ chained_from t ys
behind_same s t xs ys e h = rw (e, h) refl

-- THE NODES OF ALL, where those of its operands, of its work and one more are 16 for each word at most, less two
pub enough_of : (n : CountLaws) (p : Shader) (i : Instruction) (m : Meaning) → IsGuardable p i → meaning_of Base i.code ≡ Some m
    → (nodes : List Node) (os : Operands) → AreOperands nodes (spaces_of p) os → os.instruction ≡ i → (given : Given)
    → given_nodes given ≤ given_most m → operands_nodes i + work_nodes m (at_of m p os.instruction).way given os + 3 ≤ 16 * i.length
enough_of n p i m able e nodes os are same given few =
    let P : Instruction → Type 0 = λ x. operands_nodes i + work_nodes m (at_of m p x).way given os + 3 ≤ 16 * i.length in
    subst P (sym same) (enough n p i m able e nodes os are same given few)

pub begun_room : (old new top top' ops w words : ℕ) → ops + w + 3 ≤ 16 * words → new ≤ old + ops → top' ≡ top → old + 16 * words ≤ top
    → new + w ≤ top'
begun_room old new top top' ops w words n a h r = omega arith

pub done_room : (old new last top top' top'' ops w words : ℕ) → ops + w + 3 ≤ 16 * words → new ≤ old + ops → top' ≡ top → last ≤ new + w
    → top'' ≡ top' → old + 16 * words ≤ top → last + 1 ≤ top''
done_room old new last top top' top'' ops w words n a h b k r = omega arith

pub all_nodes : (ops w words : ℕ) → ops + w + 3 ≤ 16 * words → ops + w + 1 ≤ 16 * words - 2
all_nodes ops w words n = omega arith

-- THE INSTRUCTION of a number
pub same_item : {X : Type 0} (xs : List X) (n : ℕ) (x y : X) → slice_get xs n ≡ Some x → slice_get xs n ≡ Some y → x ≡ y
same_item xs n x y e h = cc (e, h)

pub least_words : (o : Option Meaning) (i : Instruction) → IsLong o i → 1 ≤ i.length
least_words o i l = omega (arith, l.size)
