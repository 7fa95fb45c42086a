-- Words of constant buffers, and lengths.
use Rattle.std.proofs.Common.{◌≡◌, ℕ, zero, suc, ◌+◌, ◌*◌, ◌/◌, ◌%◌, ◌^◌, ◌<◌, ◌≤◌, List, [], ◌∷◌, drop, Option, Some, None, refl, sym, ap, ◌∙◌, subst, arith}
use Rattle.std.specs.Prelude.{◌≢◌, Ok, nat_eq, nat_lt, Bool, true, false, if◌then◌else◌, slice_get, slice_index}
use Rattle.std.proofs.lemmas.Bool.Decides.{nat_tests}
use Rattle.word_base.specs.declared.event.Room.{Room}
use Rattle.word_base.specs.declared.event.Room.TheVariants as room
use Rattle.binding_map.specs.declared.register.Place.TheVariants.{Push as InPush}
use Rattle.shader_tree.specs.declared.node.Space.TheVariants as space
use Rattle.shader_tree.specs.Values.{Words, size_of}
use Rattle.spirv_words.specs.StorageClass as storage
use Rattle.spirv_words.specs.Text.{instr}
use Rattle.spirv_words.specs.Values.{Value, Word, AtConstants, AtPush, AtRoom, Got, word_of}
use Rattle.spirv_words.specs.Globals.{push_word}
use Rattle.spirv_symbols.specs.declared.symbol.Access.TheVariants.{ReadOnly}
use Rattle.spirv_symbols.specs.declared.symbol.Symbol.TheVariants.{AType, Constant, Memory, Push, Uniform}
use Rattle.spirv_symbols.specs.declared.symbol.TypeSymbol.TheVariants as type
use Rattle.spirv_symbols.specs.Contexts as context
use Rattle.spirv_symbols.specs.Contexts.{declared_of}
use Rattle.spirv_symbols.specs.Rows.{uav_access}
use Rattle.spirv_symbols.specs.Tables.{Has}
use Rattle.spirv_emit.specs.declared.buffer.ConstantBuffer.{ConstantBuffer}
use Rattle.spirv_symbols.specs.declared.entry.Entry.{Entry}
use Rattle.spirv_emit.specs.Begun.{IsBegun, IsThere, IsBufferThere, IsPlaceThere}
use Rattle.spirv_emit.specs.Emission.{Emission, Frame, spaces_of, buffer_of, vectors_in}
use Rattle.spirv_emit.specs.Joins.{given, always, joined, only}
use Rattle.spirv_emit.specs.Lanes.{Site}
use Rattle.spirv_emit.specs.Operations.{calc, choosing}
use Rattle.spirv_emit.specs.Reads.{inside, points_inside, points_in_vector, given_word, space_word, extent_of, IsView}
use Rattle.spirv_emit.specs.Steps.{Adds}
use Rattle.spirv_emit.specs.Values.{slot, a_word, a_truth, Meaning, Gives}
use Rattle.spirv_emit.proofs.Chains.{vectors_chain, push_chain}
use Rattle.spirv_emit.proofs.Giving.{and_then_ok, then', only_gives, weaker}
use Rattle.spirv_emit.proofs.Groups.{start, fixed, constant, with_constant}
use Rattle.spirv_emit.proofs.Loads.{chain_inside_gives, chain_vector_gives, given_gives, length_gives}
use Rattle.spirv_emit.proofs.Sources.{inside_ok}
use Rattle.spirv_emit.proofs.Values.{word_is}

abbrev one : Value → Got (List Value)
one v = Ok (v ∷ [])

-- A CONSTANT BUFFER AT A DESCRIPTOR.
abbrev uniform_by : ℕ → Meaning
uniform_by buffer =
    only (0 ∷ []) (joined
    (joined (joined (joined (joined (joined (joined given [] (always (AtConstants buffer 0))) [] (always (Word 0))) [] (always (Word 4)))
    (3 ∷ 0 ∷ []) (calc 134)) (4 ∷ 1 ∷ []) (calc 137)) (4 ∷ 3 ∷ 1 ∷ 0 ∷ []) (points_in_vector (λ z. context.size_of z.frame.context (Uniform buffer))
    (AtConstants buffer)))
    (0 ∷ []) given_word)

uniform_is : (buffer : ℕ) (z : Site) (b : ConstantBuffer) → buffer_of z.frame.buffers.list buffer ≡ Some b
    → b.vectors ≤ context.size_of z.frame.context (Uniform buffer)
    → (t : Words) (vs ws : List Value) → space_word (space.Constant buffer) z t vs ≡ Ok ws → uniform_by buffer z t vs ≡ Ok ws
uniform_is n z b found le t [] ws e = absurd (cc e)
uniform_is n z b found le t (y ∷ u ∷ vs) ws e = absurd (cc e)
uniform_is n z b found le t (y ∷ []) ws e =
    let g = and_then_ok (word_of (Some y)) _ ws e in
    let f = and_then_ok (inside (nat_lt g.0 (size_of (spaces_of z.frame) (space.Constant n)))
    (Word (slice_index (z.machine.setting.constants n) g.0))) _ ws g.2 in
    let k = inside_ok (size_of (spaces_of z.frame) (space.Constant n)) g.0 _ f.0 f.1 in
    let size : size_of (spaces_of z.frame) (space.Constant n) ≡ 4 * b.vectors = ap (λ o. 4 * vectors_in o) found in
    let first : nat_lt (g.0 / 4) (context.size_of z.frame.context (Uniform n)) ≡ true =
    (let lt : g.0 / 4 < context.size_of z.frame.context (Uniform n) = omega (arith, k.0, size, le) in grind (arith, nat_tests, lt)) in
    let second : nat_lt (g.0 % 4) 4 ≡ true = (let lt : g.0 % 4 < 4 = omega arith in grind (arith, nat_tests, lt)) in
    let place : g.0 / 4 * 4 + g.0 % 4 ≡ g.0 = omega arith in
    let words : uniform_by n z t (Word g.0 ∷ []) ≡ Ok ws = rw (first, second, place) (ap (λ v. one v) k.2 ∙ f.2) in
    ap (λ y. uniform_by n z t (y ∷ [])) (word_is y g.0 g.1) ∙ words

pub uniforms : (a b c d e : Emission) (buffer : ConstantBuffer) (x v k f p t q m w r : ℕ) → buffer_of a.frame.buffers.list buffer.slot ≡ Some buffer
    → IsBegun a
    → Has a.symbols.entries (Uniform buffer.slot) v → Has a.symbols.entries (Constant 0) k → Has a.symbols.entries (Constant 4) f
    → Has a.symbols.entries (AType (type.WordPointer storage.Uniform)) p
    → Gives a b (a_word x ∷ a_word f ∷ []) (a_word t ∷ []) (calc 134) → Gives b c (a_word x ∷ a_word f ∷ []) (a_word m ∷ []) (calc 137)
    → Adds c d (instr 65 (p ∷ q ∷ v ∷ k ∷ t ∷ m ∷ [])) q → Has d.symbols.entries (AType type.Word) w → Adds d e (instr 61 (w ∷ r ∷ q ∷ [])) r
    → Gives a e (a_word x ∷ []) (a_word r ∷ []) (space_word (space.Constant buffer.slot))
uniforms a b c d e buffer x v k f p t q m w r found h hv hk hf hp div rest chain word load =
    let n = buffer.slot in
    let up : (s : _) (id : ℕ) → Has a.symbols.entries s id → Has c.symbols.entries s id = λ s id i. rest.grows.has s id (div.grows.has s id i) in
    let xs = a_word x ∷ [] in
    let v0 = fixed a (Uniform n) v (AtConstants n 0) (type.VectorsPointer (context.size_of a.frame.context (Uniform n))) refl refl h hv in
    let ch = chain_vector_gives c d (Uniform n) storage.Uniform p q v (type.VectorsPointer (context.size_of a.frame.context (Uniform n)))
    (AtConstants n 0)
    (λ z. context.size_of z.frame.context (Uniform n)) (AtConstants n) refl refl (up _ v hv) (up _ p hp) k t m (up _ k hk) chain
    (λ z l has i j o. (refl, has, (i, (j, (o, tt)))))
    (λ z comp i j lt le. vectors_chain z.machine v n (context.size_of z.frame.context (Uniform n)) i j
    (comp.whole.sorts (Uniform n) v (comp.has _ v (up _ v hv))) lt le) in
    let l = given_gives d e storage.Uniform w r q refl word load in
    let p1 = then' _ _ _ _ _ _ _ _ _ [] (start a xs) v0 refl in
    let p2 = with_constant _ _ _ _ _ 4 f h hf (with_constant _ _ _ _ _ 0 k h hk p1) in
    let p3 = then' _ _ _ _ _ _ _ _ _ (3 ∷ 0 ∷ []) p2 div refl in
    let p4 = then' _ _ _ _ _ _ _ _ _ (4 ∷ 1 ∷ []) p3 rest refl in
    let p5 = then' _ _ _ _ _ _ _ _ _ (4 ∷ 3 ∷ 1 ∷ 0 ∷ []) p4 ch refl in
    let p6 = then' _ _ _ _ _ _ _ _ _ (0 ∷ []) p5 l refl in
    let same : e.frame ≡ a.frame = p6.grows.same.frame in
    weaker a e xs (a_word r ∷ []) (uniform_by n) (space_word (space.Constant n))
    (λ z comp u hu vs ws q.
    let there : buffer_of z.frame.buffers.list n ≡ Some buffer = subst (λ (y : Frame). buffer_of y.buffers.list n ≡ Some buffer)
    (sym same ∙ comp.frame) found in
    uniform_is n z buffer there (comp.whole.fits.vectors n buffer there) u vs ws q)
    (only_gives _ _ _ _ _ _ (0 ∷ []) p6 refl)

-- IN PUSH CONSTANTS.
abbrev pushed_by : (first count : ℕ) → Meaning
pushed_by first count =
    only (0 ∷ []) (joined (joined (joined (joined (joined (joined (joined (joined (joined (joined given [] (always (AtPush 0))) [] (always (Word 0)))
    [] (always (Word count))) [] (always (Word first))) (4 ∷ 1 ∷ []) (calc 176)) (0 ∷ 5 ∷ 3 ∷ []) choosing) (0 ∷ 2 ∷ []) (calc 128))
    (6 ∷ 5 ∷ 0 ∷ []) (points_inside (λ z. z.frame.context.pushed) AtPush)) (0 ∷ []) given_word) (4 ∷ 0 ∷ 7 ∷ []) choosing)

pushed_is : (first count : ℕ) (z : Site) (b : ConstantBuffer) (n : ℕ) → 0 < count → z.frame.context.pushed < 2 ^ 32
    → ((w : ℕ) → w < count → (first + w < z.frame.context.pushed) × (push_word z.machine (first + w) ≡ slice_index (z.machine.setting.constants n) w))
    → ((w : ℕ) → count ≤ w → slice_index (z.machine.setting.constants n) w ≡ 0)
    → (t : Words) (vs ws : List Value) → space_word (space.Constant n) z t vs ≡ Ok ws → pushed_by first count z t vs ≡ Ok ws
pushed_is first count z b n some few has past t [] ws e = absurd (cc e)
pushed_is first count z b n some few has past t (y ∷ u ∷ vs) ws e = absurd (cc e)
pushed_is first count z b n some few has past t (y ∷ []) ws e =
    let g = and_then_ok (word_of (Some y)) _ ws e in
    let f = and_then_ok (inside (nat_lt g.0 (size_of (spaces_of z.frame) (space.Constant n)))
    (Word (slice_index (z.machine.setting.constants n) g.0))) _ ws g.2 in
    let k = inside_ok (size_of (spaces_of z.frame) (space.Constant n)) g.0 _ f.0 f.1 in
    ap (λ y. pushed_by first count z t (y ∷ [])) (word_is y g.0 g.1) ∙ (by g.0 (nat_lt g.0 count) refl ∙ (ap (λ v. one v) k.2 ∙ f.2)) where
      by : (i : ℕ) (b : Bool) → nat_lt i count ≡ b → pushed_by first count z t (Word i ∷ []) ≡ one
          (Word (slice_index (z.machine.setting.constants n) i))
      by i true q =
          let lt : i < count = grind (arith, nat_tests, q) in
          let p = has i lt in
          let place : (i + first) % 2 ^ 32 ≡ first + i = omega (arith, p.0, few) in
          let fits : nat_lt (first + i) z.frame.context.pushed ≡ true = grind (arith, nat_tests, p.0) in
          rw (q, place, fits) (ap (λ n. one (Word n)) p.1)
      by i false q =
          let le : count ≤ i = grind (arith, nat_tests, q) in
          let p = has 0 some in
          let place : (0 + first) % 2 ^ 32 ≡ first = omega (arith, p.0, few) in
          let fits : nat_lt first z.frame.context.pushed ≡ true = (let lt : first < z.frame.context.pushed = omega (arith, p.0) in
          grind (arith, nat_tests, lt)) in
          rw (q, place, fits) (ap (λ n. one (Word n)) (sym (past i le)))

pub pushes : (a b c d e f g h' k' : Emission) (buffer : ConstantBuffer) (first count x v k p n s t i w q y l r : ℕ) → buffer_of a.frame.buffers.list
    buffer.slot ≡ Some buffer
    → buffer.place ≡ InPush first count → 0 < count → IsBegun a → Has a.symbols.entries Push v → Has a.symbols.entries (Constant 0) k
    → Has a.symbols.entries (AType (type.WordPointer storage.PushConstant)) p
    → Gives a b [] (a_word n ∷ []) (always (Word count)) → Gives b c [] (a_word s ∷ []) (always (Word first))
    → Gives c d (a_word x ∷ a_word n ∷ []) (a_truth t ∷ []) (calc 176) → Gives d e (a_truth t ∷ a_word x ∷ a_word k ∷ []) (a_word i ∷ []) choosing
    → Gives e f (a_word i ∷ a_word s ∷ []) (a_word w ∷ []) (calc 128) → Adds f g (instr 65 (p ∷ q ∷ v ∷ k ∷ w ∷ [])) q
    → Has g.symbols.entries (AType type.Word) y → Adds g h' (instr 61 (y ∷ l ∷ q ∷ [])) l → Gives h' k' (a_truth t ∷ a_word l ∷ a_word k ∷ [])
    (a_word r ∷ []) choosing
    → Gives a k' (a_word x ∷ []) (a_word r ∷ []) (space_word (space.Constant buffer.slot))
pushes a b c d e f g h' k' buffer first count x v k p n s t i w q y l r found place some h hv hk hp end start' test pick sum chain word load last =
    let up : (s : _) (id : ℕ) → Has a.symbols.entries s id → Has f.symbols.entries s id =
    λ s id i. sum.grows.has s id (pick.grows.has s id (test.grows.has s id (start'.grows.has s id (end.grows.has s id i)))) in
    let xs = a_word x ∷ [] in
    let v0 = fixed a Push v (AtPush 0) (type.PushPointer a.frame.context.pushed) refl refl h hv in
    let ch = chain_inside_gives f g Push storage.PushConstant p q v (type.PushPointer a.frame.context.pushed) (AtPush 0) (λ z. z.frame.context.pushed)
    AtPush
    refl refl (up _ v hv) (up _ p hp) k w (up _ k hk) chain (λ z l has i j. (refl, has, (i, (j, tt))))
    (λ z comp i lt. push_chain z.machine v z.frame.context.pushed i (comp.whole.sorts Push v (comp.has _ v (up _ v hv))) lt) in
    let ld = given_gives g h' storage.PushConstant y l q refl word load in
    let p1 = with_constant _ _ _ _ _ 0 k h hk (then' _ _ _ _ _ _ _ _ _ [] (start a xs) v0 refl) in
    let p2 = then' _ _ _ _ _ _ _ _ _ [] p1 end refl in
    let p3 = then' _ _ _ _ _ _ _ _ _ [] p2 start' refl in
    let p4 = then' _ _ _ _ _ _ _ _ _ (4 ∷ 1 ∷ []) p3 test refl in
    let p5 = then' _ _ _ _ _ _ _ _ _ (0 ∷ 5 ∷ 3 ∷ []) p4 pick refl in
    let p6 = then' _ _ _ _ _ _ _ _ _ (0 ∷ 2 ∷ []) p5 sum refl in
    let p7 = then' _ _ _ _ _ _ _ _ _ (6 ∷ 5 ∷ 0 ∷ []) p6 ch refl in
    let p8 = then' _ _ _ _ _ _ _ _ _ (0 ∷ []) p7 ld refl in
    let p9 = then' _ _ _ _ _ _ _ _ _ (4 ∷ 0 ∷ 7 ∷ []) p8 last refl in
    let same : k'.frame ≡ a.frame = p9.grows.same.frame in
    weaker a k' xs (a_word r ∷ []) (pushed_by first count) (space_word (space.Constant buffer.slot))
    (λ z comp u hu vs ws q.
    let there : buffer_of z.frame.buffers.list buffer.slot ≡ Some buffer =
    subst (λ (y : Frame). buffer_of y.buffers.list buffer.slot ≡ Some buffer) (sym same ∙ comp.frame) found in
    pushed_is first count z buffer buffer.slot some comp.whole.fits.few (comp.whole.fits.pushed buffer.slot first count buffer there place)
    (comp.whole.fits.past buffer.slot first count buffer there place) u vs ws q)
    (only_gives _ _ _ _ _ _ (0 ∷ []) p9 refl)

abbrev none_by : Meaning
none_by = only (0 ∷ []) (joined given [] (always (Word 0)))

none_is : (n : ℕ) (z : Site) → ((w : ℕ) → slice_index (z.machine.setting.constants n) w ≡ 0) → (t : Words) (vs ws : List Value)
    → space_word (space.Constant n) z t vs ≡ Ok ws → none_by z t vs ≡ Ok ws
none_is n z none t [] ws e = absurd (cc e)
none_is n z none t (y ∷ u ∷ vs) ws e = absurd (cc e)
none_is n z none t (y ∷ []) ws e =
    let g = and_then_ok (word_of (Some y)) _ ws e in
    let f = and_then_ok (inside (nat_lt g.0 (size_of (spaces_of z.frame) (space.Constant n)))
    (Word (slice_index (z.machine.setting.constants n) g.0))) _ ws g.2 in
    let k = inside_ok (size_of (spaces_of z.frame) (space.Constant n)) g.0 _ f.0 f.1 in
    ap (λ n. one (Word n)) (sym (none g.0)) ∙ (ap (λ v. one v) k.2 ∙ f.2)

-- none of a buffer's words are pushed
pub none_pushed : (a : Emission) (buffer : ConstantBuffer) (first count x k : ℕ) → buffer_of a.frame.buffers.list buffer.slot ≡ Some buffer
    → buffer.place ≡ InPush first count → count ≡ 0 → IsBegun a → Has a.symbols.entries (Constant 0) k
    → Gives a a (a_word x ∷ []) (a_word k ∷ []) (space_word (space.Constant buffer.slot))
none_pushed a buffer first count x k found place none h hk =
    let xs = a_word x ∷ [] in
    weaker a a xs (a_word k ∷ []) none_by (space_word (space.Constant buffer.slot))
    (λ z comp u hu vs ws q.
    let there : buffer_of z.frame.buffers.list buffer.slot ≡ Some buffer = subst (λ (y : Frame). buffer_of y.buffers.list buffer.slot ≡ Some buffer)
    comp.frame found in
    none_is buffer.slot z (λ w. comp.whole.fits.past buffer.slot first count buffer there place w (omega (arith, none))) u vs ws q)
    (only_gives _ _ _ _ _ _ (0 ∷ []) (with_constant a a xs xs given 0 k h hk (start a xs)) refl)

-- LENGTHS.
pub view_length : (a d : Emission) (room : Room) (w r p : ℕ) → IsView room → IsBegun a → Has a.symbols.entries (Memory room) p → Has a.symbols.entries
    (AType type.Word) w
    → Adds a d (instr 68 (w ∷ r ∷ p ∷ 0 ∷ [])) r → Gives a d [] (a_word r ∷ []) (extent_of room)
view_length a d (room.Resource n) w r p v h has word load =
    let x = fixed a (Memory (room.Resource n)) p (AtRoom (room.Resource n) 0) (type.ViewPointer ReadOnly) refl refl h has in
    let y = length_gives a d (room.Resource n) ReadOnly w r p has word load in
    weaker a d [] (a_word r ∷ []) _ (extent_of (room.Resource n)) (λ z u t ht vs ws e. e)
    (only_gives _ _ _ _ _ _ (0 ∷ []) (then' _ _ _ _ _ _ _ _ _ (0 ∷ []) x y refl) refl)
view_length a d (room.Uav n) w r p v h has word load =
    let access = uav_access (declared_of a.frame.context (Memory (room.Uav n))).coherent in
    let x = fixed a (Memory (room.Uav n)) p (AtRoom (room.Uav n) 0) (type.ViewPointer access) refl refl h has in
    let y = length_gives a d (room.Uav n) access w r p has word load in
    weaker a d [] (a_word r ∷ []) _ (extent_of (room.Uav n)) (λ z u t ht vs ws e. e)
    (only_gives _ _ _ _ _ _ (0 ∷ []) (then' _ _ _ _ _ _ _ _ _ (0 ∷ []) x y refl) refl)
view_length a d (room.Counter n) w r p v h has word load = absurd v
view_length a d (room.Shared n) w r p v h has word load = absurd v

pub shared_length : (a b : Emission) (n r : ℕ) → Gives a b [] (a_word r ∷ [])
    (always (Word (context.size_of a.frame.context (Memory (room.Shared n)))))
    → Gives a b [] (a_word r ∷ []) (extent_of (room.Shared n))
shared_length a b n r x =
    weaker a b [] (a_word r ∷ []) _ (extent_of (room.Shared n))
    (λ z comp t ht vs ws e.
    let same : z.frame ≡ a.frame = sym comp.frame ∙ x.grows.same.frame in
    ap (λ n. one (Word n)) (sym (comp.whole.fits.shared n ∙ ap (λ (f : Frame). context.size_of f.context (Memory (room.Shared n))) same)) ∙ e) x

pub counter_length : (a : Emission) (n k id : ℕ) → IsBegun a → Has a.symbols.entries (Memory (room.Counter n)) id → Has a.symbols.entries
    (Constant 1) k
    → Gives a a [] (a_word k ∷ []) (extent_of (room.Counter n))
counter_length a n k id h has one' =
    weaker a a [] (a_word k ∷ []) _ (extent_of (room.Counter n))
    (λ z comp t ht vs ws e. ap (λ n. one (Word n)) (sym (comp.whole.fits.counters n id (comp.has _ id has))) ∙ e) (constant a 1 k h one')

-- LOOK-UPS of buffers.
first_is : (bs : List ConstantBuffer) (c b : ConstantBuffer) (slot : ℕ) → c ≡ b → b.slot ≡ slot → buffer_of (c ∷ bs) slot ≡ Some b
first_is bs c b slot e q = let t : nat_eq c.slot slot ≡ true = (let k : c.slot ≡ slot = ap (λ (b : ConstantBuffer). b.slot) e ∙ q in
    grind (arith, nat_tests, k)) in rw t (ap Some e)

some_buffer : (c b : ConstantBuffer) → Some c ≡ Some b → c ≡ b
some_buffer c b e = cc e

pub here : (bs : List ConstantBuffer) (i slot : ℕ) (b : ConstantBuffer) → slice_get bs i ≡ Some b → b.slot ≡ slot → buffer_of (drop i bs) slot ≡ Some
    b
here [] i slot b at e = absurd (cc at)
here (c ∷ bs) zero slot b at e = first_is bs c b slot (some_buffer c b at) e
here (c ∷ bs) (suc i) slot b at e = here bs i slot b at e

pub further : (bs : List ConstantBuffer) (i slot : ℕ) (b : ConstantBuffer) → slice_get bs i ≡ Some b → b.slot ≢ slot
    → buffer_of (drop (suc i) bs) slot ≡ buffer_of (drop i bs) slot
further [] i slot b at e = absurd (cc at)
further (c ∷ bs) zero slot b at e =
    let k : nat_eq c.slot slot ≡ false = (let d : c.slot ≢ slot = λ q. e (ap (λ (b : ConstantBuffer). b.slot) (sym (some_buffer c b at)) ∙ q) in
    grind (arith, nat_tests, d)) in
    rw k refl
further (c ∷ bs) (suc i) slot b at e = further bs i slot b at e

pub slot_is : (bs : List ConstantBuffer) (slot : ℕ) (b : ConstantBuffer) → buffer_of bs slot ≡ Some b → b.slot ≡ slot
slot_is [] slot b e = absurd (cc e)
slot_is (c ∷ bs) slot b e = by (nat_eq c.slot slot) refl e (slot_is bs slot b) where
  by : (t : Bool) → nat_eq c.slot slot ≡ t → (if t then Some c else buffer_of bs slot) ≡ Some b → (buffer_of bs slot ≡ Some b → b.slot ≡ slot)
      → b.slot ≡ slot
  by true q e f = let k : c.slot ≡ slot = grind (arith, nat_tests, q) in ap (λ (b : ConstantBuffer). b.slot) (sym (some_buffer c b e)) ∙ k
  by false q e f = f e

pub there : (o : Option ConstantBuffer) (entries : List Entry) → IsBufferThere entries o → (b : ConstantBuffer) × (o ≡ Some b)
there None entries h = absurd h
there (Some b) entries h = (b, refl)

-- the buffer of a slot by its own
pub own : (bs : List ConstantBuffer) (slot : ℕ) (b : ConstantBuffer) → buffer_of bs slot ≡ Some b → buffer_of bs b.slot ≡ Some b
own bs slot b e = subst (λ n. buffer_of bs n ≡ Some b) (sym (slot_is bs slot b e)) e

pub placed : (entries : List Entry) (o : Option ConstantBuffer) (b : ConstantBuffer) → o ≡ Some b → IsBufferThere entries o → IsPlaceThere entries
    b.slot b.place
placed entries o b e h = subst (IsBufferThere entries) e h

pub by_slot : (a b : Emission) (x r slot own : ℕ) → own ≡ slot → Gives a b (a_word x ∷ []) (a_word r ∷ []) (space_word (space.Constant own))
    → Gives a b (a_word x ∷ []) (a_word r ∷ []) (space_word (space.Constant slot))
by_slot a b x r slot own e g = subst (λ n. Gives a b (a_word x ∷ []) (a_word r ∷ []) (space_word (space.Constant n))) e g
