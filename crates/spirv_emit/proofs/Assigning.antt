-- A word of the lane is given the word of an id: it waits, or it goes to its variable.
use Rattle.std.proofs.Common.{◌≡◌, ℕ, ⊎_elim, inl, inr, List, [], ◌∷◌, Some, None, refl, sym, ap, ◌∙◌, subst, arith}
use Rattle.kept_values.specs.declared.word.Word.{Word as Kept}
use Rattle.kept_values.specs.declared.word.Word.TheVariants as kept
use Rattle.kept_values.specs.Tables.{id_in, dirty_in, Among}
use Rattle.shader_tree.specs.declared.node.Space.TheVariants as space
use Rattle.shader_tree.specs.Values.{Words}
use Rattle.spirv_words.specs.StorageClass as storage
use Rattle.spirv_words.specs.Text.{Instr, instr}
use Rattle.spirv_words.specs.Values.{Word, AtLocal}
use Rattle.spirv_words.specs.Memory.{with_at}
use Rattle.spirv_words.specs.Lane.{with_memory}
use Rattle.spirv_symbols.specs.declared.symbol.TypeSymbol.TheVariants as symbol
use Rattle.spirv_symbols.specs.Contexts.{Context}
use Rattle.spirv_symbols.specs.Tables.{Has}
use Rattle.spirv_emit.specs.Begun.{HasVariable}
use Rattle.spirv_emit.specs.Blocks.{Becomes, Assigns}
use Rattle.spirv_emit.specs.Code.{CoversKept, known_behind, type_of_symbol}
use Rattle.spirv_emit.specs.Emission.{Emission, Frame}
use Rattle.spirv_emit.specs.Growing.{Completes}
use Rattle.spirv_emit.specs.Lanes.{Site, Mirrors, Holds, meaning}
use Rattle.spirv_emit.specs.Reads.{variable_of}
use Rattle.spirv_emit.specs.Steps.{IsPut, StoresTo}
use Rattle.spirv_emit.proofs.Giving.{plain_behind}
use Rattle.spirv_emit.proofs.Growth.{grows_on, settled_grows}
use Rattle.spirv_emit.proofs.Links.{shape_one, store_quiet, symbol_class}
use Rattle.spirv_emit.proofs.Memory.{variable, place, stored, stored_cells, flushes_well, PutsWell, StoresWell, put_mirrors, puts_well, sets_well}
use Rattle.spirv_emit.proofs.Stores.{act_grows, store_step, put_covers}

-- THE WORDS of the lane, where the word waits, and where it is stored at once: as if it waited, and was flushed.
becomes_well : (f : Frame) (k : Kept) (w : ℕ) (old new : List Kept) (t u : Words) → Becomes f k w t u
    → ((x : Kept) → Among old x → Among new x) → Among new k → PutsWell f k w old new t u
becomes_well f (kept.Scratch n) w old new t u e still marked =
    subst (PutsWell f (kept.Scratch n) w old new t) (sym e) (sets_well f n w old new t still marked)
becomes_well f (kept.Register k) w old new t u e still marked =
    subst (PutsWell f (kept.Register k) w old new t) (sym e.2)
    (puts_well f space.Temps k w (kept.Register k) old new t u.registers e.1 refl e.0 tt still marked)
becomes_well f (kept.Element n) w old new t u e still marked = absurd e

stored_well : (f : Frame) (k : Kept) (w : ℕ) (old : List Kept) (t u : Words) → PutsWell f k w old (k ∷ old) t u
    → StoresWell f (variable k) (place k) w old old t u
stored_well f k w old t u p =
    let h = flushes_well f k (k ∷ old) old u (λ x i. ⊎_elim (λ e. inl (sym e)) inr i) in
    record {
      own = λ cells a. subst (λ v. Holds f (with_at cells (place k) (Some v)) old u (variable k)) p.here (h.own cells (p.cells cells (variable k) a));
      other = λ cells x ne a. h.other cells x ne (p.cells cells x a);
    }

-- IT WAITS.
pub put_assigns : (a b : Emission) (k : Kept) (r : ℕ) → IsPut a b k r → Assigns a b k r
put_assigns a b k r put = record {
  seg = [];
  grows = settled_grows a b put.settled;
  plain = tt;
  known = λ z comp gl l cover keeps is.
      record { typed = tt; kept = put_covers z.names a.kept b.kept k r l l put.puts keeps (λ y i. i) is; results = tt };
  quiet = λ z places comp linked here. refl;
  law = λ z comp s t u w st v e.
      let p = becomes_well z.frame k w (dirty_in a.kept) (dirty_in b.kept) t u e put.puts.still put.puts.marked in
      (s, refl, record { place = omega arith; mirrors = put_mirrors z a.kept b.kept k r w s t u put.puts p v st.mirrors });
}

-- IT IS STORED. What its variable is:
pub own_variable : (k : Kept) → HasVariable k → variable_of k ≡ Some (variable k)
own_variable (kept.Scratch n) h = refl
own_variable (kept.Register n) h = refl
own_variable (kept.Element n) h = absurd h

pub own_type : (c : Context) (k : Kept) → HasVariable k → type_of_symbol c (variable k) ≡ Some (symbol.WordPointer storage.Function)
own_type c (kept.Scratch n) h = refl
own_type c (kept.Register n) h = refl
own_type c (kept.Element n) h = absurd h

pub own_meaning : (k : Kept) (v : ℕ) → HasVariable k → meaning (variable k) v ≡ Some (AtLocal v (place k))
own_meaning (kept.Scratch n) v h = refl
own_meaning (kept.Register n) v h = refl
own_meaning (kept.Element n) v h = absurd h

module _ (a b : Emission) (k : Kept) (r : ℕ) (own : HasVariable k) (free : id_in a.kept k ≡ None) (h : StoresTo a b (variable k) r) where
  abbrev store : Instr
  store = instr 62 (h.variable ∷ r ∷ [])

  same : b.kept ≡ a.kept
  same = h.acts.kept ∙ h.named.kept

  there : (z : Site) → Completes b z → Has z.names (variable k) h.variable
  there z comp = comp.has (variable k) h.variable (subst (λ t. Has t.entries (variable k) h.variable) (sym h.acts.symbols) h.named.has)

  -- no other word that is kept is this one
  other : (o : Kept) (i : ℕ) → id_in a.kept o ≡ Some i → o ≡ k → ⊥
  other o i q e = absurd (cc (sym free ∙ (ap (id_in a.kept) (sym e) ∙ q)))

  pub stored_assigns : Assigns a b k r
  stored_assigns = record {
    seg = store ∷ [];
    grows = grows_on a h.mid b [] (store ∷ []) h.named.grows (act_grows h.mid b store refl h.acts);
    plain = ((refl, refl), tt);
    known = λ z comp gl l cover keeps is.
        let pointer = cover (variable k) (symbol.WordPointer storage.Function) h.variable (there z comp) (own_type z.frame.context k own) in
        let behind : known_behind gl l store ≡ l = plain_behind gl l store (refl, refl) in
        record {
          typed = (((storage.Function, pointer, refl), is), tt);
          kept = subst (CoversKept z.names b.kept) (sym behind) (subst (λ t. CoversKept z.names t l) (sym same) keeps);
          results = tt;
        };
    quiet = λ z places comp linked here.
        shape_one z.machine.code places [] store [] refl
        (store_quiet z places h.variable r storage.Function
        (symbol_class z places (variable k) h.variable (symbol.WordPointer storage.Function) linked (there z comp) (own_type z.frame.context k own))
        refl);
    law = λ z comp s t u w st v e.
        let m = st.mirrors in
        let memory = stored s.memory h.variable (place k) w in
        let p = becomes_well z.frame k w (dirty_in a.kept) (k ∷ dirty_in a.kept) t u e (λ x i. inr i) (inl refl) in
        let at = m.knows (variable k) h.variable (AtLocal h.variable (place k)) (there z comp) (own_meaning k h.variable own) in (
          with_memory s memory,
          (with_memory s memory, store_step z s comp.whole h.variable r h.variable (place k) w st.here.0 at v, refl),
          record {
            place = refl;
            mirrors = subst (λ l. Mirrors z l (with_memory s memory) u) (sym same) (record {
              knows = m.knows;
              ids = λ o i q used. m.ids o i q used ∙ ap (λ n. Some (Word n)) (sym (p.other o used (other o i q)));
              inside = m.inside;
              cells = stored_cells b z (variable k) h.variable (place k) w (dirty_in a.kept) (dirty_in a.kept) t u s.memory comp (there z comp)
                  (stored_well z.frame k w (dirty_in a.kept) t u p) m.cells;
            });
          },
        );
  }
