-- What the code of writes to words of the lane does.
use Rattle.std.proofs.Common.{◌≡◌, ℕ, ◌<◌, [], ◌∷◌, Some, None, refl, sym, ap, ◌∙◌, subst, arith, true, false}
use Rattle.std.specs.Prelude.{nat_lt}
use Rattle.std.proofs.lemmas.Bool.{lt-ltb}
use Rattle.word_base.specs.Registers.{Registers}
use Rattle.kept_values.specs.declared.word.Word.{Word as Kept}
use Rattle.kept_values.specs.declared.word.Word.TheVariants as kept
use Rattle.kept_values.specs.Tables.{Table, id_in, dirty_in, Among, Drops}
use Rattle.shader_tree.specs.declared.node.Space.{Space}
use Rattle.shader_tree.specs.declared.node.Space.TheVariants as space
use Rattle.shader_tree.specs.Lane.{with_word}
use Rattle.shader_tree.specs.Terms.{Term}
use Rattle.shader_tree.specs.Terms as term
use Rattle.shader_tree.specs.Values.{Words, words, size_of}
use Rattle.spirv_words.specs.StorageClass as storage
use Rattle.spirv_words.specs.Text.{instr}
use Rattle.spirv_words.specs.Values.{Word, AtLocal}
use Rattle.spirv_words.specs.Lane.{with_memory}
use Rattle.spirv_symbols.specs.declared.symbol.Symbol.{Symbol}
use Rattle.spirv_symbols.specs.declared.symbol.Symbol.TheVariants as symbols
use Rattle.spirv_symbols.specs.declared.symbol.TypeSymbol.TheVariants as symbol
use Rattle.spirv_symbols.specs.Contexts as context
use Rattle.spirv_symbols.specs.Tables.{Has}
use Rattle.spirv_emit.specs.Begun.{IsBegun}
use Rattle.spirv_emit.specs.Blocks.{Alters, Assigns, IsValue, Writes}
use Rattle.spirv_emit.specs.Code.{type_of_symbol}
use Rattle.spirv_emit.specs.Emission.{Emission, Frame, spaces_of}
use Rattle.spirv_emit.specs.Joins.{always, joined, only}
use Rattle.spirv_emit.specs.Lanes.{Site, IsWhole, Mirrors, IsUsed, IsArray, meaning}
use Rattle.spirv_emit.specs.Steps.{Adds, Acts, IsDropped}
use Rattle.spirv_emit.specs.Reads.{written_array}
use Rattle.spirv_emit.specs.Values.{Slot, slot, a_word, Meaning, Gives, valued}
use Rattle.spirv_emit.proofs.Links.{store_quiet}
use Rattle.spirv_emit.proofs.Giving.{then', only_gives, named_gives}
use Rattle.spirv_emit.proofs.Growth.{settled_grows}
use Rattle.spirv_emit.proofs.Memory.{IsArraySpace, array_for, IsAt, stored, stored_cells, writes_well, word_other}
use Rattle.spirv_emit.proofs.Room.{has_below}
use Rattle.spirv_emit.proofs.RoomChains.{array_chain_gives, pointing}
use Rattle.spirv_emit.proofs.RoomWaiting.{none_waits}
use Rattle.spirv_emit.proofs.Stores.{there_named, store_step, stored_alters, assigned_alters}

-- the index of a literal
literal_is : (z : Site) (t : Words) (k i : ℕ) → IsValue z t (term.Word k) i → k ≡ i
literal_is z t k i e = cc e

-- A REGISTER'S WORD that has a variable of its own.
pub register_alters : (a b c : Emission) (k r : ℕ) (x y : Term) → x ≡ term.Word k → a.frame.separate ≡ true → Gives a b [] (a_word r ∷ []) (valued y)
    → Assigns b c (kept.Register k) r → Alters a c (Writes space.Temps x y)
register_alters a b c k r x y literal separate g out =
    assigned_alters a b c (kept.Register k) r (valued y) g out (Writes space.Temps x y)
    (λ z comp t u e.
    let same : k ≡ e.0 = literal_is z t k e.0 (subst (λ l. IsValue z t l e.0) literal e.2) in
    let used : z.frame.separate ≡ true = subst (λ (f : Frame). f.separate ≡ true) (sym (out.grows.same.frame ∙ g.grows.same.frame) ∙ comp.frame)
    separate in (
      e.1,
      (let v = e.4 in rw v refl),
      (used, subst (λ i. with_word t.registers space.Temps i e.1 ≡ Some u.registers) (sym same) e.5, e.6),
    ))

-- ARRAYS. How many words the variable of a space has:
abbrev count_of : context.Context → Space → ℕ
count_of c space.Temps = c.registers
count_of c (space.Indexable slot') = context.size_of c (symbols.Elements slot')
count_of c constants = 0

record ForArray (sp : Space) (s : Symbol) : Type 0 where
  pub array : IsArraySpace sp
  pub same : s ≡ array_for sp

for_array : (sp : Space) (s : Symbol) → written_array sp ≡ Some s → ForArray sp s
for_array space.Temps s e = record { array = tt; same = cc e }
for_array (space.Indexable slot') s e = record { array = tt; same = cc e }
for_array (space.Constant slot') s e = absurd (cc e)
for_array space.ImmediateConstant s e = absurd (cc e)

module _ (p : ℕ) where
  array_meaning : (sp : Space) → IsArraySpace sp → meaning (array_for sp) p ≡ Some (AtLocal p 0)
  array_meaning space.Temps h = refl
  array_meaning (space.Indexable slot') h = refl
  array_meaning (space.Constant slot') h = absurd h
  array_meaning space.ImmediateConstant h = absurd h

  array_type : (c : context.Context) (sp : Space) → IsArraySpace sp → type_of_symbol c (array_for sp) ≡ Some (symbol.LocalPointer (count_of c sp))
  array_type c space.Temps h = refl
  array_type c (space.Indexable slot') h = refl
  array_type c (space.Constant slot') h = absurd h
  array_type c space.ImmediateConstant h = absurd h

  array_sort : (z : Site) (sp : Space) → IsArraySpace sp → IsWhole z → Has z.names (array_for sp) p
      → IsArray z.machine.code storage.Function p (count_of z.frame.context sp)
  array_sort z space.Temps h w has = w.sorts symbols.Registers p has
  array_sort z (space.Indexable slot') h w has = w.sorts (symbols.Elements slot') p has
  array_sort z (space.Constant slot') h w has = absurd h
  array_sort z space.ImmediateConstant h w has = absurd h

array_fits : (f : Frame) (sp : Space) (i : ℕ) → IsArraySpace sp → i < size_of (spaces_of f) sp → i < count_of f.context sp
array_fits f space.Temps i h lt = omega (arith, lt)
array_fits f (space.Indexable slot') i h lt = omega (arith, lt)
array_fits f (space.Constant slot') i h lt = absurd h
array_fits f space.ImmediateConstant i h lt = absurd h

-- no word that is kept is one of an array
not_there : (f : Frame) (sp : Space) (i id : ℕ) (l : Table) (o : Kept) → (sp ≡ space.Temps → f.separate ≡ false)
    → ((n : ℕ) → id_in l (kept.Element n) ≡ None)
    → id_in l o ≡ Some id → IsUsed f o → IsAt sp i o → ⊥
not_there f sp i id l (kept.Element n) array none q us p = absurd (cc (sym (none n) ∙ q))
not_there f space.Temps i id l (kept.Scratch n) array none q us p = p
not_there f (space.Indexable slot') i id l (kept.Scratch n) array none q us p = p
not_there f (space.Constant slot') i id l (kept.Scratch n) array none q us p = p
not_there f space.ImmediateConstant i id l (kept.Scratch n) array none q us p = p
not_there f space.Temps i id l (kept.Register n) array none q us p = absurd (cc (sym us ∙ array refl))
not_there f (space.Indexable slot') i id l (kept.Register n) array none q us p = p
not_there f (space.Constant slot') i id l (kept.Register n) array none q us p = p
not_there f space.ImmediateConstant i id l (kept.Register n) array none q us p = p

-- the words that are kept where those of arrays were dropped
left_of : (a b : Table) (o : Kept) (id : ℕ) → Drops a b → id_in b o ≡ Some id → id_in a o ≡ Some id
left_of a b (kept.Scratch n) id d q = sym (d.scratch n) ∙ q
left_of a b (kept.Register n) id d q = sym (d.registers n) ∙ q
left_of a b (kept.Element n) id d q = absurd (cc (sym (d.elements n) ∙ q))

module _ (a b c d e f : Emission) (sp : Space) (at v p q t : ℕ) (x y : Term) (array : IsArraySpace sp)
    (used : sp ≡ space.Temps → a.frame.separate ≡ false)
    (g : Gives a b [] (a_word at ∷ []) (valued x)) (h : Gives b c [] (a_word v ∷ []) (valued y)) (begun : IsBegun c)
    (has : Has c.symbols.entries (array_for sp) p) (pointer : Has c.symbols.entries (symbols.AType (symbol.WordPointer storage.Function)) t)
    (chain : Adds c d (instr 65 (t ∷ q ∷ p ∷ at ∷ [])) q) (act : Acts d e (instr 62 (q ∷ v ∷ []))) (drop : IsDropped e f) where
  abbrev n : ℕ
  n = count_of c.frame.context sp

  abbrev size : Site → ℕ
  size z = count_of z.frame.context sp

  abbrev base : Slot
  base = slot p (symbol.LocalPointer n)

  abbrev ptr : Slot
  ptr = slot q (symbol.WordPointer storage.Function)

  abbrev through : Meaning
  through = joined (joined (joined (valued x) [] (valued y)) [] (always (AtLocal p 0))) (0 ∷ 2 ∷ []) (pointing size (λ k. AtLocal p k))

  led : Gives a d [] (ptr ∷ a_word v ∷ []) (only (0 ∷ 2 ∷ []) through)
  led =
      let one = then' a b c [] (a_word at ∷ []) [] (a_word v ∷ []) (valued x) (valued y) [] g h refl in
      let named = there_named c (array_for sp) p has (has_below c.frame.context c.symbols (array_for sp) p begun.table has) in
      let here = named_gives c c (array_for sp) p (AtLocal p 0) (symbol.LocalPointer n) (array_meaning p sp array)
      (array_type p c.frame.context sp array) named in
      let f2 = joined (valued x) [] (valued y) in
      let two = then' a c c [] (a_word v ∷ a_word at ∷ []) [] (base ∷ []) f2 (always (AtLocal p 0)) [] one here refl in
      let f3 = joined f2 [] (always (AtLocal p 0)) in
      let to = array_chain_gives c d t q p at n (array_for sp) size has chain pointer (array_meaning p sp array)
      (λ z comp. array_sort p z sp array comp.whole (comp.has (array_for sp) p has)) in
      let three = then' a c d [] (base ∷ a_word v ∷ a_word at ∷ []) (base ∷ a_word at ∷ []) (ptr ∷ []) f3 (pointing size (λ k. AtLocal p k))
      (0 ∷ 2 ∷ []) two to refl in
      only_gives a d [] (ptr ∷ base ∷ a_word v ∷ a_word at ∷ []) (ptr ∷ a_word v ∷ []) through (0 ∷ 2 ∷ []) three refl

  array_alters : Alters a f (Writes sp x y)
  array_alters =
      stored_alters a d e f (ptr ∷ a_word v ∷ []) (only (0 ∷ 2 ∷ []) through) (instr 62 (q ∷ v ∷ [])) led act drop.settled refl (refl, refl)
      (λ z comp l keeps is. (
        ((storage.Function, is.0, refl), is.1.0),
        λ o i w. keeps o i (subst (λ t. id_in t o ≡ Some i) act.kept (left_of e.kept f.kept o i drop.drops w)),
      ))
      (λ z places is. store_quiet z places q v storage.Function is.0 refl)
      (Writes sp x y)
      (λ z comp s t u mir w.
      let frame : a.frame ≡ z.frame =
      sym (drop.settled.same.frame ∙ act.same.frame ∙ chain.same.frame ∙ h.grows.same.frame ∙ g.grows.same.frame) ∙ comp.frame in
      let open' : sp ≡ space.Temps → z.frame.separate ≡ false = λ k. subst (λ (f : Frame). f.separate ≡ false) frame (used k) in
      let inside : nat_lt w.0 (size z) ≡ true = lt-ltb w.0 (size z) (array_fits z.frame sp w.0 array w.3) in
      let names : Has z.names (array_for sp) p = comp.has (array_for sp) p
      (subst (λ l. Has l.entries (array_for sp) p) (sym (drop.settled.symbols ∙ act.symbols))
      (subst (λ l. Has l (array_for sp) p) (sym chain.entries) has)) in (
        AtLocal p w.0 ∷ Word w.1 ∷ [],
        (let i = w.2 in let j = w.4 in rw (i, j, inside) refl),
        λ s at' vs mid.
            let memory = stored s.memory p w.0 w.1 in
            let dropped : dirty_in f.kept ≡ dirty_in d.kept = drop.drops.dirty ∙ ap dirty_in act.kept in
            let back : (o : Kept) (i : ℕ) → id_in f.kept o ≡ Some i → id_in d.kept o ≡ Some i =
            λ o i k. subst (λ t. id_in t o ≡ Some i) act.kept (left_of e.kept f.kept o i drop.drops k) in
            let stays : d.kept ≡ c.kept = chain.kept in (
              memory,
              store_step z s comp.whole q v p w.0 w.1 at' vs.0 vs.1.0,
              subst (Mirrors z f.kept (with_memory s memory)) (sym w.6) (record {
                knows = mid.knows;
                ids = λ o i k us. mid.ids o i (back o i k) us ∙ ap (λ n. Some (Word n)) (sym (word_other t u.registers sp w.0 w.1 w.5 o
                    (not_there z.frame sp w.0 i f.kept o open' drop.drops.elements k us)));
                inside = λ o k. mid.inside o (subst (λ l. Among l o) dropped k);
                cells = stored_cells f z (array_for sp) p w.0 w.1 (dirty_in d.kept) (dirty_in f.kept) t (words t.scratch u.registers) s.memory comp
                    names
                    (writes_well z.frame sp w.0 w.1 (dirty_in d.kept) (dirty_in f.kept) t u.registers w.5 array open'
                    (λ o k. subst (λ l. Among l o) (sym dropped) k)
                    (λ m k. none_waits c.kept begun.stored m (subst (λ l. Among (dirty_in l) (kept.Element m)) stays k)))
                    mid.cells;
              }),
            ),
      ))

pub arrays_alter : (a b c d e f : Emission) (sp : Space) (s : Symbol) (at v p q t : ℕ) (x y : Term) → written_array sp ≡ Some s
    → (sp ≡ space.Temps → a.frame.separate ≡ false) → Gives a b [] (a_word at ∷ []) (valued x) → Gives b c [] (a_word v ∷ []) (valued y) → IsBegun c
    → Has c.symbols.entries s p → Has c.symbols.entries (symbols.AType (symbol.WordPointer storage.Function)) t
    → Adds c d (instr 65 (t ∷ q ∷ p ∷ at ∷ [])) q
    → Acts d e (instr 62 (q ∷ v ∷ [])) → IsDropped e f → Alters a f (Writes sp x y)
arrays_alter a b c d e f sp s at v p q t x y into used g h begun has pointer chain act drop =
    let o = for_array sp s into in
    array_alters a b c d e f sp at v p q t x y o.array used g h begun (subst (λ s. Has c.symbols.entries s p) o.same has) pointer chain act drop

-- WHERE NO WORD IS WRITTEN.
pub never_alters : (a : Emission) (sp : Space) (x y : Term) → ((r : Registers) (i w : ℕ) → with_word r sp i w ≡ None) → Alters a a (Writes sp x y)
never_alters a sp x y never = record {
  seg = [];
  grows = settled_grows a a (record { same = record { frame = refl; limit = refl; capacity = refl; limits = refl }; code = refl; symbols = refl });
  plain = tt;
  known = λ z comp gl k cover keeps. record { typed = tt; kept = keeps; results = tt };
  quiet = λ z places comp linked here. refl;
  law = λ z comp s t u st w. absurd (cc (sym (never t.registers w.0 w.1) ∙ w.5));
}
