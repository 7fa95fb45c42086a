-- What the code of atomics does.
use Rattle.std.proofs.Common.{◌≡◌, ℕ, ◌<◌, List, [], ◌∷◌, Some, refl, sym, ap, ◌∙◌, subst, arith, true}
use Rattle.std.specs.Prelude.{slice_get, nat_lt, IsTrue}
use Rattle.std.proofs.lemmas.Bool.{lt-ltb}
use Rattle.word_base.specs.Lanes.{Asks}
use Rattle.word_base.specs.declared.event.Act.{Act}
use Rattle.word_base.specs.declared.event.Act.TheVariants as act
use Rattle.word_base.specs.declared.event.Event.TheVariants as event
use Rattle.word_base.specs.declared.event.Room.{Room}
use Rattle.kept_values.specs.declared.word.Word.TheVariants as kept
use Rattle.shader_tree.specs.Shape as shape
use Rattle.shader_tree.specs.Terms.{Term}
use Rattle.shader_tree.specs.Lane.{second_operand}
use Rattle.spirv_words.specs.Globals.{Places}
use Rattle.spirv_words.specs.Sorts.{sort_of_value}
use Rattle.spirv_words.specs.StorageClass.{has_events}
use Rattle.spirv_words.specs.Text.{instr}
use Rattle.spirv_words.specs.Values.{Word, AtRoom}
use Rattle.spirv_words.specs.Lane.{State, step, with_value}
use Rattle.spirv_symbols.specs.declared.symbol.Symbol.TheVariants as symbols
use Rattle.spirv_symbols.specs.declared.symbol.TypeSymbol.TheVariants as symbol
use Rattle.spirv_symbols.specs.Tables.{Has}
use Rattle.spirv_emit.specs.Emission.{Emission}
use Rattle.spirv_emit.specs.Begun.{IsBegun}
use Rattle.spirv_emit.specs.Blocks.{Assigns, Meets, Atomics}
use Rattle.spirv_emit.specs.Joins.{always, joined, only}
use Rattle.spirv_words.specs.Roles.{Atomics as Asked}
use Rattle.spirv_words.specs.Ids.{ids_of}
use Rattle.spirv_words.specs.Text.{is_instr}
use Rattle.spirv_emit.specs.Code.{typed, typed_result, IsPlain, asks_of, TakesBy}
use Rattle.spirv_emit.specs.Lanes.{Site, IsWhole}
use Rattle.spirv_emit.specs.Linked.{IsPointer}
use Rattle.spirv_emit.specs.ModuleShape.{Seen, marks_of, pointer_room}
use Rattle.spirv_emit.specs.Rooms.{PointsTo, class_of, room_word, IsOne, number_of_act}
use Rattle.spirv_emit.specs.Steps.{Adds}
use Rattle.spirv_emit.specs.Values.{slot, a_word, Gives, valued}
use Rattle.spirv_emit.proofs.Forms.{acts}
use Rattle.spirv_emit.proofs.Giving.{then', leads_front, leads_back, only_gives, only_leads, named_gives}
use Rattle.spirv_emit.proofs.Links.{event_seen}
use Rattle.spirv_emit.proofs.Room.{has_below}
use Rattle.spirv_emit.proofs.Effects.{event_class}
use Rattle.spirv_emit.proofs.Stores.{there_named, answer_meets}

-- ATOMICS. What their rows say.
pub typed_atomic : (kind : Act) (t r : ℕ) (os : List ℕ) → typed_result (instr (number_of_act kind) (t ∷ r ∷ os)) ≡ typed r t ∷ []
typed_atomic act.Add t r os = refl
typed_atomic act.Sub t r os = refl
typed_atomic act.And t r os = refl
typed_atomic act.Or t r os = refl
typed_atomic act.Xor t r os = refl
typed_atomic act.SMax t r os = refl
typed_atomic act.SMin t r os = refl
typed_atomic act.UMax t r os = refl
typed_atomic act.UMin t r os = refl
typed_atomic act.Exchange t r os = refl
typed_atomic act.CompareExchange t r os = refl

pub plain_atomic : (kind : Act) (t r : ℕ) (os : List ℕ) → IsPlain (instr (number_of_act kind) (t ∷ r ∷ os))
plain_atomic act.Add t r os = (refl, refl)
plain_atomic act.Sub t r os = (refl, refl)
plain_atomic act.And t r os = (refl, refl)
plain_atomic act.Or t r os = (refl, refl)
plain_atomic act.Xor t r os = (refl, refl)
plain_atomic act.SMax t r os = (refl, refl)
plain_atomic act.SMin t r os = (refl, refl)
plain_atomic act.UMax t r os = (refl, refl)
plain_atomic act.UMin t r os = (refl, refl)
plain_atomic act.Exchange t r os = (refl, refl)
plain_atomic act.CompareExchange t r os = (refl, refl)

pub asks_atomic : (kind : Act) (t r : ℕ) (os : List ℕ) → asks_of (instr (number_of_act kind) (t ∷ r ∷ os)) ≡ Asked
asks_atomic act.Add t r os = refl
asks_atomic act.Sub t r os = refl
asks_atomic act.And t r os = refl
asks_atomic act.Or t r os = refl
asks_atomic act.Xor t r os = refl
asks_atomic act.SMax t r os = refl
asks_atomic act.SMin t r os = refl
asks_atomic act.UMax t r os = refl
asks_atomic act.UMin t r os = refl
asks_atomic act.Exchange t r os = refl
asks_atomic act.CompareExchange t r os = refl

pub fits_atomic : (kind : Act) → IsOne kind → (t r p a b x : ℕ) → IsTrue (is_instr (instr (number_of_act kind) (t ∷ r ∷ p ∷ a ∷ b ∷ x ∷ [])))
fits_atomic act.Add one t r p a b x = refl
fits_atomic act.Sub one t r p a b x = refl
fits_atomic act.And one t r p a b x = refl
fits_atomic act.Or one t r p a b x = refl
fits_atomic act.Xor one t r p a b x = refl
fits_atomic act.SMax one t r p a b x = refl
fits_atomic act.SMin one t r p a b x = refl
fits_atomic act.UMax one t r p a b x = refl
fits_atomic act.UMin one t r p a b x = refl
fits_atomic act.Exchange one t r p a b x = refl
fits_atomic act.CompareExchange one t r p a b x = absurd one

pub short_atomic : (kind : Act) → number_of_act kind < 65536
short_atomic act.Add = omega arith
short_atomic act.Sub = omega arith
short_atomic act.And = omega arith
short_atomic act.Or = omega arith
short_atomic act.Xor = omega arith
short_atomic act.SMax = omega arith
short_atomic act.SMin = omega arith
short_atomic act.UMax = omega arith
short_atomic act.UMin = omega arith
short_atomic act.Exchange = omega arith
short_atomic act.CompareExchange = omega arith

second_none : (kind : Act) → IsOne kind → (y : ℕ) → second_operand kind y ≡ 0
second_none act.Add one y = refl
second_none act.Sub one y = refl
second_none act.And one y = refl
second_none act.Or one y = refl
second_none act.Xor one y = refl
second_none act.SMax one y = refl
second_none act.SMin one y = refl
second_none act.UMax one y = refl
second_none act.UMin one y = refl
second_none act.Exchange one y = refl
second_none act.CompareExchange one y = absurd one

module _ (z : Site) (s : State) (whole : IsWhole z) (t r p a b x i w : ℕ) (q : Room) (hp : s.values p ≡ Some (AtRoom q i))
    (ha : s.values a ≡ Some (Word 1))
    (hb : s.values b ≡ Some (Word 0)) (hx : s.values x ≡ Some (Word w)) (lt : i < z.machine.setting.extent q) where
  inside : nat_lt i (z.machine.setting.extent q) ≡ true
  inside = lt-ltb i (z.machine.setting.extent q) lt

  act_step : (kind : Act) → IsOne kind → slice_get z.machine.code s.place ≡ Some (instr (number_of_act kind) (t ∷ r ∷ p ∷ a ∷ b ∷ x ∷ []))
      → step z.machine s ≡ Asks (event.Atomic q i kind w 0) (λ answer. with_value s r (Word answer))
  act_step act.Add one at = acts z s (instr (number_of_act act.Add) (t ∷ r ∷ p ∷ a ∷ b ∷ x ∷ [])) whole at ∙ rw (hp, ha, hb, hx, inside) refl
  act_step act.Sub one at = acts z s (instr (number_of_act act.Sub) (t ∷ r ∷ p ∷ a ∷ b ∷ x ∷ [])) whole at ∙ rw (hp, ha, hb, hx, inside) refl
  act_step act.And one at = acts z s (instr (number_of_act act.And) (t ∷ r ∷ p ∷ a ∷ b ∷ x ∷ [])) whole at ∙ rw (hp, ha, hb, hx, inside) refl
  act_step act.Or one at = acts z s (instr (number_of_act act.Or) (t ∷ r ∷ p ∷ a ∷ b ∷ x ∷ [])) whole at ∙ rw (hp, ha, hb, hx, inside) refl
  act_step act.Xor one at = acts z s (instr (number_of_act act.Xor) (t ∷ r ∷ p ∷ a ∷ b ∷ x ∷ [])) whole at ∙ rw (hp, ha, hb, hx, inside) refl
  act_step act.SMax one at = acts z s (instr (number_of_act act.SMax) (t ∷ r ∷ p ∷ a ∷ b ∷ x ∷ [])) whole at ∙ rw (hp, ha, hb, hx, inside) refl
  act_step act.SMin one at = acts z s (instr (number_of_act act.SMin) (t ∷ r ∷ p ∷ a ∷ b ∷ x ∷ [])) whole at ∙ rw (hp, ha, hb, hx, inside) refl
  act_step act.UMax one at = acts z s (instr (number_of_act act.UMax) (t ∷ r ∷ p ∷ a ∷ b ∷ x ∷ [])) whole at ∙ rw (hp, ha, hb, hx, inside) refl
  act_step act.UMin one at = acts z s (instr (number_of_act act.UMin) (t ∷ r ∷ p ∷ a ∷ b ∷ x ∷ [])) whole at ∙ rw (hp, ha, hb, hx, inside) refl
  act_step act.Exchange one at = acts z s (instr (number_of_act act.Exchange) (t ∷ r ∷ p ∷ a ∷ b ∷ x ∷ [])) whole at ∙ rw (hp, ha, hb, hx, inside)
      refl
  act_step act.CompareExchange one at = absurd one

  exchange_step : (y v : ℕ) → s.values y ≡ Some (Word v) → slice_get z.machine.code s.place ≡ Some (instr 230 (t ∷ r ∷ p ∷ a ∷ b ∷ b ∷ y ∷ x ∷ []))
      → step z.machine s ≡ Asks (event.Atomic q i act.CompareExchange w v) (λ answer. with_value s r (Word answer))
  exchange_step y v hy at = acts z s (instr 230 (t ∷ r ∷ p ∷ a ∷ b ∷ b ∷ y ∷ x ∷ [])) whole at ∙ rw (hp, ha, hb, hx, hy, inside) refl

-- the item of an atomic
change_seen : (z : Site) (places : Places) (kind : Act) (t r p : ℕ) (os : List ℕ) (class : ℕ) (q : Room)
    → IsPointer (sort_of_value z.machine.code p) class → IsTrue (has_events class) → pointer_room z.machine.code places p ≡ Some q
    → marks_of z.machine.code places (instr (number_of_act kind) (t ∷ r ∷ p ∷ os)) ≡ Seen (shape.Changes q kind) ∷ []
change_seen z places act.Add t r p os class q k e f =
    event_seen (λ room. shape.Changes room act.Add) (sort_of_value z.machine.code p) class (pointer_room z.machine.code places p) q k e f
change_seen z places act.Sub t r p os class q k e f =
    event_seen (λ room. shape.Changes room act.Sub) (sort_of_value z.machine.code p) class (pointer_room z.machine.code places p) q k e f
change_seen z places act.And t r p os class q k e f =
    event_seen (λ room. shape.Changes room act.And) (sort_of_value z.machine.code p) class (pointer_room z.machine.code places p) q k e f
change_seen z places act.Or t r p os class q k e f =
    event_seen (λ room. shape.Changes room act.Or) (sort_of_value z.machine.code p) class (pointer_room z.machine.code places p) q k e f
change_seen z places act.Xor t r p os class q k e f =
    event_seen (λ room. shape.Changes room act.Xor) (sort_of_value z.machine.code p) class (pointer_room z.machine.code places p) q k e f
change_seen z places act.SMax t r p os class q k e f =
    event_seen (λ room. shape.Changes room act.SMax) (sort_of_value z.machine.code p) class (pointer_room z.machine.code places p) q k e f
change_seen z places act.SMin t r p os class q k e f =
    event_seen (λ room. shape.Changes room act.SMin) (sort_of_value z.machine.code p) class (pointer_room z.machine.code places p) q k e f
change_seen z places act.UMax t r p os class q k e f =
    event_seen (λ room. shape.Changes room act.UMax) (sort_of_value z.machine.code p) class (pointer_room z.machine.code places p) q k e f
change_seen z places act.UMin t r p os class q k e f =
    event_seen (λ room. shape.Changes room act.UMin) (sort_of_value z.machine.code p) class (pointer_room z.machine.code places p) q k e f
change_seen z places act.Exchange t r p os class q k e f =
    event_seen (λ room. shape.Changes room act.Exchange) (sort_of_value z.machine.code p) class (pointer_room z.machine.code places p) q k e f
change_seen z places act.CompareExchange t r p os class q k e f =
    event_seen (λ room. shape.Changes room act.CompareExchange) (sort_of_value z.machine.code p) class (pointer_room z.machine.code places p) q k
    e f

-- an atomic with one value: the scope is the device, and no memory is ordered
module _ (a b c d e k : Emission) (n at v p one zero' r t : ℕ) (q : Room) (kind : Act) (x y w : Term) (begun : IsBegun d)
    (g : Gives a b [] (a_word at ∷ []) (valued x)) (h : Gives b c [] (a_word v ∷ []) (valued y))
    (to : PointsTo c d q at p)
    (has : Has d.symbols.entries (symbols.AType symbol.Word) t) (hone : Has d.symbols.entries (symbols.Constant 1) one)
    (hzero : Has d.symbols.entries (symbols.Constant 0) zero') where
  constant : (n o : ℕ) → Has d.symbols.entries (symbols.Constant n) o → Gives d d [] (a_word o ∷ []) (always (Word n))
  constant n o has =
      named_gives d d (symbols.Constant n) o (Word n) symbol.Word refl refl
      (there_named d (symbols.Constant n) o has (has_below d.frame.context d.symbols (symbols.Constant n) o begun.table has))

  pub change_meets : IsOne kind → Adds d e (instr (number_of_act kind) (t ∷ r ∷ p ∷ one ∷ zero' ∷ v ∷ [])) r → Assigns e k (kept.Scratch n) r
      → Meets a k (shape.Changes q kind) (Atomics n q x kind y w)
  change_meets is add out =
      let m = to.gives in
      let ptr = slot p (symbol.WordPointer (class_of q)) in
      let f1 = joined (valued x) [] (valued y) in
      let g1 = then' a b c [] (a_word at ∷ []) [] (a_word v ∷ []) (valued x) (valued y) [] g h refl in
      let f2 = joined f1 (1 ∷ []) (room_word q) in
      let g2 = then' a c d [] (a_word v ∷ a_word at ∷ []) (a_word at ∷ []) (ptr ∷ []) f1 (room_word q) (1 ∷ []) g1 m refl in
      let f3 = joined f2 [] (always (Word 1)) in
      let g3 = then' a d d [] (ptr ∷ a_word v ∷ a_word at ∷ []) [] (a_word one ∷ []) f2 (always (Word 1)) [] g2 (constant 1 one hone) refl in
      let f4 = joined f3 [] (always (Word 0)) in
      let g4 = then' a d d [] (a_word one ∷ ptr ∷ a_word v ∷ a_word at ∷ []) [] (a_word zero' ∷ []) f3 (always (Word 0)) [] g3
      (constant 0 zero' hzero) refl in
      let rs = ptr ∷ a_word one ∷ a_word zero' ∷ a_word v ∷ [] in
      let g5 = only_gives a d [] (a_word zero' ∷ a_word one ∷ ptr ∷ a_word v ∷ a_word at ∷ []) rs f4 (2 ∷ 1 ∷ 0 ∷ 3 ∷ []) g4 refl in
      let os = p ∷ one ∷ zero' ∷ v ∷ [] in
      answer_meets a d e k rs (only (2 ∷ 1 ∷ 0 ∷ 3 ∷ []) f4) (instr (number_of_act kind) (t ∷ r ∷ os)) r t n g5 add out (typed_atomic kind t r os)
      (plain_atomic kind t r os) has
      (λ z comp l is. subst (λ o. TakesBy z.names l o (ids_of (instr (number_of_act kind) (t ∷ r ∷ os))).uses (t ∷ r ∷ os))
      (sym (asks_atomic kind t r os))
      (comp.has (symbols.AType symbol.Word) t has, (class_of q, is.0, event_class q), (is.1.0, (is.1.1.0, (is.1.1.1.0, tt)))))
      (shape.Changes q kind)
      (λ z places comp linked here is.
      let l2 = leads_back a c d [] (a_word v ∷ a_word at ∷ []) (a_word at ∷ []) (ptr ∷ []) f1 (room_word q) (1 ∷ []) g1 m refl q p to.leads in
      let l3 = leads_front a d d [] (ptr ∷ a_word v ∷ a_word at ∷ []) [] (a_word one ∷ []) f2 (always (Word 1)) [] g2 (constant 1 one hone) refl q p
      l2 in
      let l4 = leads_front a d d [] (a_word one ∷ ptr ∷ a_word v ∷ a_word at ∷ []) [] (a_word zero' ∷ []) f3 (always (Word 0)) [] g3
      (constant 0 zero' hzero) refl q p l3 in
      let l5 = only_leads a d [] (a_word zero' ∷ a_word one ∷ ptr ∷ a_word v ∷ a_word at ∷ []) rs f4 (2 ∷ 1 ∷ 0 ∷ 3 ∷ []) g4 refl q p l4 in
      change_seen z places kind t r p (one ∷ zero' ∷ v ∷ []) (class_of q) q is.0 (event_class q) (l5 z places comp linked here))
      (Atomics n q x kind y w)
      (λ z comp s ev u l. (
        l.8,
        (
          AtRoom q l.0 ∷ Word 1 ∷ Word 0 ∷ Word l.1 ∷ [],
          (let i = l.3 in let o = l.4 in let b : nat_lt l.0 (z.machine.setting.extent q) ≡ true = lt-ltb l.0 (z.machine.setting.extent q) l.6 in
              rw (i, o, b) refl),
          λ s here vs. act_step z s comp.whole t r p one zero' v l.0 l.1 q vs.0 vs.1.0 vs.1.1.0 vs.1.1.1.0 l.6 kind is here
              ∙ ap (λ y. Asks (event.Atomic q l.0 kind l.1 y) (λ answer. with_value s r (Word answer))) (sym (second_none kind is l.2))
              ∙ ap (λ y. Asks y (λ answer. with_value s r (Word answer))) (sym l.7),
        ),
      ))

-- an atomic that compares
module _ (a b c d e k o : Emission) (n at v u p one zero' r t : ℕ) (q : Room) (x y w : Term) (begun : IsBegun e)
    (g : Gives a b [] (a_word at ∷ []) (valued x)) (h : Gives b c [] (a_word v ∷ []) (valued y)) (j : Gives c d [] (a_word u ∷ []) (valued w))
    (to : PointsTo d e q at p)
    (has : Has e.symbols.entries (symbols.AType symbol.Word) t) (hone : Has e.symbols.entries (symbols.Constant 1) one)
    (hzero : Has e.symbols.entries (symbols.Constant 0) zero') where
  number : (n o : ℕ) → Has e.symbols.entries (symbols.Constant n) o → Gives e e [] (a_word o ∷ []) (always (Word n))
  number n o has =
      named_gives e e (symbols.Constant n) o (Word n) symbol.Word refl refl
      (there_named e (symbols.Constant n) o has (has_below e.frame.context e.symbols (symbols.Constant n) o begun.table has))

  pub exchange_meets : Adds e k (instr 230 (t ∷ r ∷ p ∷ one ∷ zero' ∷ zero' ∷ u ∷ v ∷ [])) r → Assigns k o (kept.Scratch n) r
      → Meets a o (shape.Changes q act.CompareExchange) (Atomics n q x act.CompareExchange y w)
  exchange_meets add out =
      let m = to.gives in
      let ptr = slot p (symbol.WordPointer (class_of q)) in
      let f1 = joined (valued x) [] (valued y) in
      let g1 = then' a b c [] (a_word at ∷ []) [] (a_word v ∷ []) (valued x) (valued y) [] g h refl in
      let f2 = joined f1 [] (valued w) in
      let g2 = then' a c d [] (a_word v ∷ a_word at ∷ []) [] (a_word u ∷ []) f1 (valued w) [] g1 j refl in
      let f3 = joined f2 (2 ∷ []) (room_word q) in
      let g3 = then' a d e [] (a_word u ∷ a_word v ∷ a_word at ∷ []) (a_word at ∷ []) (ptr ∷ []) f2 (room_word q) (2 ∷ []) g2 m refl in
      let f4 = joined f3 [] (always (Word 1)) in
      let g4 = then' a e e [] (ptr ∷ a_word u ∷ a_word v ∷ a_word at ∷ []) [] (a_word one ∷ []) f3 (always (Word 1)) [] g3 (number 1 one hone) refl in
      let f5 = joined f4 [] (always (Word 0)) in
      let g5 = then' a e e [] (a_word one ∷ ptr ∷ a_word u ∷ a_word v ∷ a_word at ∷ []) [] (a_word zero' ∷ []) f4 (always (Word 0)) [] g4
      (number 0 zero' hzero) refl in
      let rs = ptr ∷ a_word one ∷ a_word zero' ∷ a_word u ∷ a_word v ∷ [] in
      let g6 = only_gives a e [] (a_word zero' ∷ a_word one ∷ ptr ∷ a_word u ∷ a_word v ∷ a_word at ∷ []) rs f5 (2 ∷ 1 ∷ 0 ∷ 3 ∷ 4 ∷ []) g5 refl in
      let os = p ∷ one ∷ zero' ∷ zero' ∷ u ∷ v ∷ [] in
      answer_meets a e k o rs (only (2 ∷ 1 ∷ 0 ∷ 3 ∷ 4 ∷ []) f5) (instr 230 (t ∷ r ∷ os)) r t n g6 add out refl (refl, refl) has
      (λ z comp l is. (
        comp.has (symbols.AType symbol.Word) t has,
        (class_of q, is.0, event_class q),
        (is.1.0, (is.1.1.0, (is.1.1.0, (is.1.1.1.0, (is.1.1.1.1.0, tt))))),
      ))
      (shape.Changes q act.CompareExchange)
      (λ z places comp linked here is.
      let l3 = leads_back a d e [] (a_word u ∷ a_word v ∷ a_word at ∷ []) (a_word at ∷ []) (ptr ∷ []) f2 (room_word q) (2 ∷ []) g2 m refl q p
      to.leads in
      let l4 = leads_front a e e [] (ptr ∷ a_word u ∷ a_word v ∷ a_word at ∷ []) [] (a_word one ∷ []) f3 (always (Word 1)) [] g3
      (number 1 one hone) refl q p l3 in
      let l5 = leads_front a e e [] (a_word one ∷ ptr ∷ a_word u ∷ a_word v ∷ a_word at ∷ []) [] (a_word zero' ∷ []) f4 (always (Word 0)) [] g4
      (number 0 zero' hzero) refl q p l4 in
      let l6 = only_leads a e [] (a_word zero' ∷ a_word one ∷ ptr ∷ a_word u ∷ a_word v ∷ a_word at ∷ []) rs f5 (2 ∷ 1 ∷ 0 ∷ 3 ∷ 4 ∷ []) g5 refl
      q p l5 in
      change_seen z places act.CompareExchange t r p (one ∷ zero' ∷ zero' ∷ u ∷ v ∷ []) (class_of q) q is.0 (event_class q)
      (l6 z places comp linked here))
      (Atomics n q x act.CompareExchange y w)
      (λ z comp s ev f l. (
        l.8,
        (
          AtRoom q l.0 ∷ Word 1 ∷ Word 0 ∷ Word l.2 ∷ Word l.1 ∷ [],
          (let i = l.3 in let o = l.4 in let j = l.5 in let b : nat_lt l.0 (z.machine.setting.extent q) ≡ true =
              lt-ltb l.0 (z.machine.setting.extent q) l.6 in rw (i, o, j, b) refl),
          λ s here vs. exchange_step z s comp.whole t r p one zero' v l.0 l.1 q vs.0 vs.1.0 vs.1.1.0 vs.1.1.1.1.0 l.6 u l.2 vs.1.1.1.0 here
              ∙ ap (λ y. Asks y (λ answer. with_value s r (Word answer))) (sym l.7),
        ),
      ))
