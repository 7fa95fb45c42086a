-- A word that waited goes to its variable. It is taken for one in memory first, and its code is read as if it still waited.
use Rattle.std.proofs.Common.{◌≡◌, ℕ, ◌+◌, ◌<◌, ◌≤◌, inl, inr, List, [], ◌∷◌, ◌++◌, length, Some, refl, sym, ap, ◌∙◌, subst, arith, length-append}
use Rattle.std.specs.Prelude.{Ok}
use Rattle.kept_values.specs.declared.word.Word.{Word as Kept}
use Rattle.kept_values.specs.Tables.{Table, id_in, dirty_in, limits_in, Among, IsLast, Pops}
use Rattle.shader_tree.specs.Values.{Words}
use Rattle.spirv_words.specs.StorageClass as storage
use Rattle.spirv_words.specs.Text.{Instr, instr}
use Rattle.spirv_words.specs.Values.{Word, AtLocal}
use Rattle.spirv_words.specs.Lane.{with_memory}
use Rattle.spirv_symbols.specs.declared.symbol.Symbol.{Symbol}
use Rattle.spirv_symbols.specs.declared.symbol.TypeSymbol.TheVariants as symbol
use Rattle.spirv_symbols.specs.Tables.{Has}
use Rattle.spirv_emit.specs.Emission.{Emission, Frame, next_of}
use Rattle.spirv_emit.specs.Begun.{IsBegun, HasVariable}
use Rattle.spirv_emit.specs.Code.{type_of_symbol}
use Rattle.spirv_emit.specs.Lanes.{Site, Mirrors, IsInside, word_of, meaning}
use Rattle.spirv_emit.specs.Growing.{Same, Grows, Completes}
use Rattle.spirv_emit.specs.Values.{slot, Meaning, Gives, nothing, Saves}
use Rattle.spirv_emit.specs.Joins.{given, always, joined}
use Rattle.spirv_emit.specs.Steps.{Named, Acts, Adds, IsPopped, StoresTo}
use Rattle.spirv_emit.proofs.Assigning.{own_type, own_meaning}
use Rattle.spirv_emit.proofs.Links.{store_quiet}
use Rattle.spirv_emit.proofs.Growth.{settled_grows}
use Rattle.spirv_emit.proofs.Giving.{then', only_gives, named_gives, nothing_gives}
use Rattle.spirv_emit.proofs.Memory.{variable, place, stored, stored_cells, flushes_well}
use Rattle.spirv_emit.proofs.Stores.{store_step, flushed_gives}
use Rattle.spirv_emit.proofs.RoomWaiting.{pops_either, pops_among}

-- the same emitter with other words kept
abbrev pub with_kept : Emission → Table → Emission
with_kept e t = record e { kept = t }

module _ (p b : Emission) (t : Table) (limits : limits_in t ≡ limits_in p.kept) where
  kept_same : Same p b → Same (with_kept p t) (with_kept b t)
  kept_same h = record { frame = h.frame; limit = h.limit; capacity = h.capacity; limits = refl }

  kept_grows : (seg : List Instr) → Grows p b seg → Grows (with_kept p t) (with_kept b t) seg
  kept_grows seg g = record {
    same = kept_same g.same;
    next = g.next;
    code = g.code;
    instructions = g.instructions;
    distinct = g.distinct;
    has = g.has;
    later = g.later;
    globals = g.globals;
    fresh = g.fresh;
  }

  kept_named : (s : Symbol) (r : ℕ) → Named p b s r → Named (with_kept p t) (with_kept b t) s r
  kept_named s r n = record { grows = kept_grows [] n.grows; has = n.has; below = n.below; kept = refl }

  kept_acts : (i : Instr) → Acts p b i → Acts (with_kept p t) (with_kept b t) i
  kept_acts i h = record { same = kept_same h.same; fits = h.fits; code = h.code; symbols = h.symbols; kept = refl }

  kept_adds : (i : Instr) (r : ℕ) → ((w : Kept) (id : ℕ) → id_in t w ≡ Some id → id < next_of p) → Adds p b i r → Adds (with_kept p t) (with_kept b t)
      i r
  kept_adds i r below h = record {
    same = kept_same h.same;
    fits = h.fits;
    code = h.code;
    entries = h.entries;
    next = h.next;
    result = h.result;
    kept = refl;
    symbols_below = h.symbols_below;
    kept_below = below;
  }

-- code that leads to the word's place, read as if the word still waited, and the store
module _ (a b c d : Emission) (w : Kept) (id q v : ℕ) (f : Meaning) (x : Gives a b [] (slot q (symbol.WordPointer storage.Function) ∷ []) f)
    (kept : b.kept ≡ a.kept)
    (has : Has b.symbols.entries (variable w) v) (last : IsLast a.kept w id) (act : Acts b c (instr 62 (q ∷ id ∷ []))) (popped : IsPopped c d w id)
    (same : c.kept ≡ a.kept)
    (leads : (z : Site) → Completes d z → (t : Words) → IsInside z.frame w → f z t [] ≡ Ok (AtLocal v (place w) ∷ [])) where
  among_last : (xs : List Kept) → Among (xs ++ w ∷ []) w
  among_last [] = inl refl
  among_last (y ∷ xs) = inr (among_last xs)

  waits : Among (dirty_in a.kept) w
  waits = subst (λ l. Among l w) (sym last.dirty) (among_last last.rest)

  pub save_gives : Gives a d [] [] nothing
  save_gives =
      flushed_gives a b c d (slot q (symbol.WordPointer storage.Function) ∷ []) f (instr 62 (q ∷ id ∷ [])) x act popped.settled refl (refl, refl)
      (λ z comp k keeps is. (
        (((storage.Function, is.0, refl), keeps w id (subst (λ t. id_in t w ≡ Some id) (sym kept) last.here))),
        (λ y i e. keeps y i (subst (λ t. id_in t y ≡ Some i) (same ∙ sym kept) (sym (popped.pops.ids y) ∙ e))),
      ))
      (λ z places is. store_quiet z places q id storage.Function is.0 refl)
      (λ z comp s t u mir e.
      let ins = mir.inside w waits in (
        AtLocal v (place w) ∷ [],
        leads z comp t ins.1,
        λ s at vs mid.
            let m : Mirrors z a.kept s t = subst (λ k. Mirrors z k s t) kept mid in
            let word : s.values id ≡ Some (Word (word_of t w)) = m.ids w id last.here ins.0 in
            let memory = stored s.memory v (place w) (word_of t w) in
            let names : Has z.names (variable w) v = comp.has (variable w) v
            (subst (λ l. Has l.entries (variable w) v) (sym (popped.settled.symbols ∙ act.symbols)) has) in
            let pops = popped.pops in (
              memory,
              store_step z s comp.whole q id v (place w) (word_of t w) at vs.0 word,
              subst (Mirrors z d.kept (with_memory s memory)) (sym e) (record {
                knows = m.knows;
                ids = λ y i h used. m.ids y i (subst (λ k. id_in k y ≡ Some i) same (sym (pops.ids y) ∙ h)) used;
                inside = λ y h. m.inside y (subst (λ k. Among (dirty_in k) y) same (pops_among c.kept d.kept w id pops y h));
                cells = stored_cells d z (variable w) v (place w) (word_of t w) (dirty_in a.kept) (dirty_in d.kept) t t s.memory comp names
                    (flushes_well z.frame w (dirty_in a.kept) (dirty_in d.kept) t
                    (λ y h. pops_either c.kept d.kept w id pops y (subst (λ k. Among (dirty_in k) y) (sym same) h)))
                    m.cells;
              }),
            ),
      ))

module _ (a p d : Emission) (w : Kept) (id : ℕ) (begun : IsBegun a) (last : IsLast a.kept w id) (popped : IsPopped a p w id) (kept : d.kept ≡ p.kept)
  where
    limits : limits_in a.kept ≡ limits_in p.kept
    limits = sym popped.settled.same.limits

    waiting : Gives a (with_kept p a.kept) [] [] given
    waiting =
        nothing_gives a (with_kept p a.kept) []
        (settled_grows a (with_kept p a.kept) (record {
          same = record {
            frame = popped.settled.same.frame;
            limit = popped.settled.same.limit;
            capacity = popped.settled.same.capacity;
            limits =
                refl;
          };
          code = popped.settled.code;
          symbols = popped.settled.symbols;
        })) refl

    taken : IsPopped (with_kept d a.kept) d w id
    taken = record {
      settled = record {
        same = record { frame = refl; limit = refl; capacity = refl; limits = ap limits_in kept ∙ popped.settled.same.limits };
        code =
            refl;
        symbols = refl;
      };
      pops = subst (λ t. Pops a.kept t w id) (sym kept) popped.pops;
    }

    below : (y : Kept) (i : ℕ) → id_in a.kept y ≡ Some i → i < next_of p
    below y i h = let lt = begun.kept y i h in let e : next_of p ≡ next_of a = ap (λ t. t.next) popped.settled.symbols in omega (arith, lt, e)

    -- to a variable of its own
    pub saved_to : (h : StoresTo p d (variable w) id) → meaning (variable w) h.variable ≡ Some (AtLocal h.variable (place w))
        → type_of_symbol p.frame.context (variable w) ≡ Some (symbol.WordPointer storage.Function) → Gives a d [] [] nothing
    saved_to h means typed =
        let v = h.variable in let t = a.kept in let ptr = slot v (symbol.WordPointer storage.Function) in
        let pp = with_kept p t in let mm = with_kept h.mid t in let dd = with_kept d t in
        let frame : h.mid.frame ≡ p.frame = h.named.grows.same.frame in
        let named : Named pp mm (variable w) v = kept_named p h.mid t limits (variable w) v h.named in
        let to : Gives pp mm [] (ptr ∷ []) (always (AtLocal v (place w))) =
        named_gives pp mm (variable w) v (AtLocal v (place w)) (symbol.WordPointer storage.Function) means
        (subst (λ (f : Frame). type_of_symbol f.context (variable w) ≡ Some (symbol.WordPointer storage.Function)) (sym frame) typed) named in
        let x = then' a pp mm [] [] [] (ptr ∷ []) given (always (AtLocal v (place w))) [] waiting to refl in
        save_gives a mm dd d w id v v (joined given [] (always (AtLocal v (place w)))) x refl h.named.has last
        (kept_acts h.mid d t (limits ∙ ap limits_in (sym h.named.kept)) (instr 62 (v ∷ id ∷ [])) h.acts) taken refl (λ z comp t' i. refl)

-- ONE WORD.
pub word_saves : (a p d : Emission) (w : Kept) (id : ℕ) → IsBegun a → HasVariable w → IsLast a.kept w id → IsPopped a p w id
    → StoresTo p d (variable w) id → Saves a d
word_saves a p d w id begun own last popped h =
    let kept = h.acts.kept ∙ h.named.kept in
    record {
      gives = saved_to a p d w id begun last popped kept h (own_meaning w h.variable own) (own_type p.frame.context w own);
      count = ap length popped.pops.dirty ∙ (length-append (dirty_in p.kept) (w ∷ []) ∙ ap (λ t. length (dirty_in t) + 1) (sym kept));
    }

-- NO CODE, and one piece behind another, that give nothing.
pub nothing_from : (a : Emission) → Gives a a [] [] nothing
nothing_from a =
    only_gives a a [] [] [] given []
    (nothing_gives a a []
    (settled_grows a a (record { same = record { frame = refl; limit = refl; capacity = refl; limits = refl }; code = refl; symbols = refl }))
    refl)
    refl

pub nothing_on : (a b c : Emission) → Gives a b [] [] nothing → Gives b c [] [] nothing → Gives a c [] [] nothing
nothing_on a b c x y = then' a b c [] [] [] [] nothing nothing [] x y refl

pub nil_of : {X : Type 0} (xs : List X) → length xs ≤ 0 → xs ≡ []
nil_of [] le = refl
nil_of (x ∷ xs) le = absurd (omega (arith, le))
