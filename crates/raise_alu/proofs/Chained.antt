-- The statement of an instruction, one after the other.
use Rattle.std.proofs.Common.{◌≡◌, ℕ, ◌+◌, Bool, true, false, List, [], ◌∷◌, ◌++◌, map, refl, sym, ap, ◌∙◌}
use Rattle.std.specs.Prelude.{if◌then◌else◌, filter}
use Rattle.tpf_decode.specs.declared.meaning.Meaning.{Meaning}
use Rattle.tpf_program.specs.declared.instruction.Instruction.{Instruction}
use Rattle.shader_tree.specs.declared.node.Node.{Node}
use Rattle.shader_tree.specs.Terms.{Term, Nothing, Extends}
use Rattle.shader_tree.specs.Values.{Spaces}
use Rattle.raise_alu.specs.declared.statement.Component.{Component}
use Rattle.raise_alu.specs.declared.statement.Components.{Components}
use Rattle.raise_alu.specs.declared.statement.Four.{Four}
use Rattle.raise_alu.specs.Computing.{is_double, writes_first, writes_second}
use Rattle.raise_alu.specs.Waits.{AreComponents, AreFour, HasFour, HaveSteps, IsComponent, all_of, behind_four, chain_nodes, double_of, four_of, fours, in_turn, single_of, second_now, second_behind}
use Rattle.raise_operands.specs.Building.{front_of}
use Rattle.raise_operands.specs.Raising.{Part, first_part, second_part, first_written, second_written, parts, now, behind, indices, followed, chained_from, raised_by}
use Rattle.raise_operands.specs.Laws.{GrowingLaws}
use Rattle.raise_alu.proofs.Same.{four, first_written_is, second_written_is}

followed_by_none : (t : Term) → followed t Nothing ≡ t
followed_by_none Nothing = refl
followed_by_none other = refl

pub followed_both : (a b x y : Term) → a ≡ b → x ≡ y → followed a x ≡ followed b y
followed_both a b x y e h = ap (λ z. followed z x) e ∙ ap (λ z. followed b z) h

pub behind_four_same : (s a b c d t w x y z : Term) → s ≡ t → a ≡ w → b ≡ x → c ≡ y → d ≡ z → behind_four s a b c d ≡ behind_four t w x y z
behind_four_same s a b c d t w x y z e h i j k =
    followed_both _ _ _ _ (followed_both _ _ _ _ (followed_both _ _ _ _ (followed_both _ _ _ _ e h) i) j) k

pub all_double : (nodes : List Node) (m : Meaning) (xs : Components) (s : Term) → is_double m ≡ true → all_of nodes m xs s ≡ double_of nodes xs s
all_double nodes m xs s e = rw e refl

pub double_more : (m : Meaning) → is_double m ≡ true → 8 + 8 ≡ chain_nodes m
double_more m e = rw e refl

-- the statements of four components in a greater tree
pub four_on : (l : GrowingLaws) (old new : List Node) (f : Four) → Extends old new → HasFour old f → HasFour new f
four_on l old new f e n = record {
  x = l.step_on_itself old new _ _ e n.x;
  y = l.step_on_itself old new _ _ e n.y;
  z = l.step_on_itself old new _ _ e n.z;
  w = l.step_on_itself old new _ _ e n.w;
}

pub fours_on : (l : GrowingLaws) (old new : List Node) (f : Four) (s t : Term) → Extends old new → HasFour old f → s ≡ t → fours new f s ≡ fours old f
    t
fours_on l old new f s t e n h =
    behind_four_same _ _ _ _ _ _ _ _ _ _ h
    (l.step_on old new _ _ e n.x).term (l.step_on old new _ _ e n.y).term (l.step_on old new _ _ e n.z).term (l.step_on old new _ _ e n.w).term

pub component_on : (l : GrowingLaws) → (old new : List Node) (m : Meaning) (g : Spaces) (i : Instruction) (c : ℕ) (x : Component) → Extends old new
    → IsComponent old m g i c x → IsComponent new m g i c x
component_on l old new m g i c x e n = record {
  first_now' = l.step_on old new _ _ e n.first_now';
  first_behind' = l.step_on old new _ _ e n.first_behind';
  second_now' = l.step_on old new _ _ e n.second_now';
  second_behind' = l.step_on old new _ _ e n.second_behind';
}

-- CHAINS OF COMPONENTS THAT ARE WRITTEN.
chained_if : (b : Bool) (F : Part → Term) (f : ℕ → Part) (s : Term) (c : ℕ) (cs : List ℕ)
    → chained_from s (map F (map f (if b then c ∷ cs else cs))) ≡ chained_from (followed s (if b then F (f c) else Nothing)) (map F (map f cs))
chained_if true F f s c cs = refl
chained_if false F f s c cs = ap (λ t. chained_from t (map F (map f cs))) (sym (followed_by_none s))

chained_of : (p : ℕ → Bool) (F : Part → Term) (f : ℕ → Part) (s : Term) (c : ℕ) (cs : List ℕ)
    → chained_from s (map F (map f (filter p (c ∷ cs)))) ≡ chained_from (followed s (if p c then F (f c) else Nothing)) (map F (map f (filter p cs)))
chained_of p F f s c cs = chained_if (p c) F f s c (filter p cs)

chained_four : (p : ℕ → Bool) (F : Part → Term) (f : ℕ → Part) (s : Term)
    → chained_from s (map F (map f (filter p four))) ≡ four_of s (λ c. if p c then F (f c) else Nothing)
chained_four p F f s =
    chained_of p F f s 0 (1 ∷ 2 ∷ 3 ∷ [])
    ∙ chained_of p F f _ 1 (2 ∷ 3 ∷ [])
    ∙ chained_of p F f _ 2 (3 ∷ [])
    ∙ chained_of p F f _ 3 []

chained_append : (s : Term) (xs ys : List Term) → chained_from s (xs ++ ys) ≡ chained_from (chained_from s xs) ys
chained_append s [] ys = refl
chained_append s (x ∷ xs) ys = chained_append (followed s x) xs ys

chained_both : (F : Part → Term) (s : Term) (xs ys : List Part) → chained_from s (map F (xs ++ ys)) ≡ chained_from (chained_from s (map F xs))
    (map F ys)
chained_both F s [] ys = refl
chained_both F s (x ∷ xs) ys = chained_both F (followed s (F x)) xs ys

parts_chained : (m : Meaning) (g : Spaces) (i : Instruction) (F : Part → Term) (s : Term)
    → chained_from s (map F (parts m g i))
    ≡ four_of (four_of s (λ c. if writes_first m i c then F (first_part m g i c) else Nothing))
    (λ c. if writes_second m i c then F (second_part m g i c) else Nothing)
parts_chained m g i F s =
    chained_both F s (map (first_part m g i) (first_written m i)) (map (second_part m g i) (second_written m i))
    ∙ ap (λ cs. chained_from (chained_from s (map F (map (first_part m g i) cs))) (map F (map (second_part m g i) (second_written m i))))
    (first_written_is m i)
    ∙ ap (λ t. chained_from t (map F (map (second_part m g i) (second_written m i)))) (chained_four (writes_first m i) F (first_part m g i) s)
    ∙ ap (λ cs. chained_from (four_of s (λ c. if writes_first m i c then F (first_part m g i c) else Nothing)) (map F (map (second_part m g i) cs)))
    (second_written_is m i)
    ∙ chained_four (writes_second m i) F (second_part m g i) _

pub in_turn_is : (m : Meaning) (g : Spaces) (i : Instruction) → in_turn m g i ≡ raised_by m g i
in_turn_is m g i =
    let now' = map (now g) (parts m g i) in
    let behind' = map (behind g) (parts m g i) in
    sym (chained_append Nothing (indices g i) (now' ++ behind')
    ∙ chained_append (front_of g i) now' behind'
    ∙ ap (λ t. chained_from t behind') (parts_chained m g i (now g) (front_of g i))
    ∙ parts_chained m g i (behind g) _)

-- THE STATEMENTS OF THE COMPONENTS' NODES.
none_behind : (s : Term) → behind_four s Nothing Nothing Nothing Nothing ≡ s
none_behind s =
    followed_by_none _ ∙ followed_by_none _ ∙ followed_by_none _ ∙ followed_by_none s

no_second : (m : Meaning) (g : Spaces) (i : Instruction) (s t : Term) → is_double m ≡ false → s ≡ t → s ≡ four_of t (second_now m g i)
no_second m g i s t e h = rw e (h ∙ sym (none_behind t))

no_second_behind : (m : Meaning) (g : Spaces) (i : Instruction) (s t : Term) → is_double m ≡ false → s ≡ t → s ≡ four_of t (second_behind m g i)
no_second_behind m g i s t e h = rw e (h ∙ sym (none_behind t))

fours_is : (nodes : List Node) (f : Four) (F : ℕ → Term) (s t : Term) → AreFour nodes f F → s ≡ t → fours nodes f s ≡ four_of t F
fours_is nodes f F s t n e = behind_four_same _ _ _ _ _ _ _ _ _ _ e n.x.term n.y.term n.z.term n.w.term

all_if : (b : Bool) (nodes : List Node) (m : Meaning) (g : Spaces) (i : Instruction) (xs : Components) (s : Term) → is_double m ≡ b
    → AreComponents nodes m g i xs
    → s ≡ front_of g i → (if b then double_of nodes xs s else single_of nodes xs s) ≡ in_turn m g i
all_if true nodes m g i xs s e n h =
    fours_is nodes _ _ _ _ n.second_behind'
    (fours_is nodes _ _ _ _ n.first_behind' (fours_is nodes _ _ _ _ n.second_now' (fours_is nodes _ _ _ _ n.first_now' h)))
all_if false nodes m g i xs s e n h =
    no_second_behind m g i _ _ e (fours_is nodes _ _ _ _ n.first_behind' (no_second m g i _ _ e (fours_is nodes _ _ _ _ n.first_now' h)))

pub all_is : (nodes : List Node) (m : Meaning) (g : Spaces) (i : Instruction) (xs : Components) (s : Term) → AreComponents nodes m g i xs
    → s ≡ front_of g i → all_of nodes m xs s ≡ raised_by m g i
all_is nodes m g i xs s n h = all_if (is_double m) nodes m g i xs s refl n h ∙ in_turn_is m g i

has_four : (l : GrowingLaws) (nodes : List Node) (f : Four) (F : ℕ → Term) → AreFour nodes f F → HasFour nodes f
has_four l nodes f F n = record {
  x = l.step_itself nodes _ _ n.x;
  y = l.step_itself nodes _ _ n.y;
  z = l.step_itself nodes _ _ n.z;
  w = l.step_itself nodes _ _ n.w;
}

pub have_steps : (l : GrowingLaws) (nodes : List Node) (m : Meaning) (g : Spaces) (i : Instruction) (xs : Components) → AreComponents nodes m g i xs
    → HaveSteps nodes xs
have_steps l nodes m g i xs n = record {
  first_now' = has_four l nodes _ _ n.first_now';
  second_now' = has_four l nodes _ _ n.second_now';
  first_behind' = has_four l nodes _ _ n.first_behind';
  second_behind' = has_four l nodes _ _ n.second_behind';
}
