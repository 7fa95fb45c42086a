-- Words that are kept as ids.
use Rattle.std.proofs.Common.{◌≡◌, ℕ, ⊎_elim, inl, inr, [], ◌∷◌, ◌++◌, Some, refl, sym, ap, ◌∙◌, subst, arith, append-nil}
use Rattle.std.specs.Prelude.{nat_eq, Bool, true, false, ◌≢◌, ◌⊎◌}
use Rattle.std.proofs.lemmas.Bool.Decides.{nat_tests}
use Rattle.kept_values.specs.declared.word.Word.{Word as Kept}
use Rattle.kept_values.specs.declared.word.Word.TheVariants as kept
use Rattle.kept_values.specs.Tables.{id_in, Among}
use Rattle.shader_tree.specs.Values.{Words}
use Rattle.spirv_words.specs.Values.{Value}
use Rattle.spirv_words.specs.Values as value
use Rattle.spirv_words.specs.Lane.{State}
use Rattle.spirv_symbols.specs.declared.symbol.TypeSymbol.TheVariants as type
use Rattle.spirv_emit.specs.Begun.{IsBegun}
use Rattle.spirv_emit.specs.Code.{behind, IsOf}
use Rattle.spirv_emit.specs.Emission.{Emission, Frame, next_of}
use Rattle.spirv_emit.specs.Growing.{Grows}
use Rattle.spirv_emit.specs.Lanes.{Site, Mirrors, Holds, IsUsed, word_of}
use Rattle.spirv_emit.specs.Reads.{the_word}
use Rattle.spirv_emit.specs.Steps.{IsKept}
use Rattle.spirv_emit.specs.Values.{a_word, AreValues, Gives}
use Rattle.spirv_emit.proofs.Giving.{ok_same}
use Rattle.spirv_emit.proofs.Groups.{itself}
use Rattle.spirv_emit.proofs.Growth.{settled_grows, grows_on, completes_back, runs_none}

-- two words are the same or differ
differ : (a b : ℕ) → (a ≡ b) ⊎ (a ≢ b)
differ a b = by (nat_eq a b) refl where
  by : (t : Bool) → nat_eq a b ≡ t → (a ≡ b) ⊎ (a ≢ b)
  by true e = inl (grind (arith, nat_tests, e))
  by false e = inr (grind (arith, nat_tests, e))

pub word_differ : (a b : Kept) → (a ≡ b) ⊎ (a ≢ b)
word_differ (kept.Scratch m) (kept.Scratch n) = ⊎_elim (λ e. inl (ap kept.Scratch e)) (λ d. inr (λ e. d (cc e))) (differ m n)
word_differ (kept.Register m) (kept.Register n) = ⊎_elim (λ e. inl (ap kept.Register e)) (λ d. inr (λ e. d (cc e))) (differ m n)
word_differ (kept.Element m) (kept.Element n) = ⊎_elim (λ e. inl (ap kept.Element e)) (λ d. inr (λ e. d (cc e))) (differ m n)
word_differ (kept.Scratch m) (kept.Register n) = inr (λ e. cc e)
word_differ (kept.Scratch m) (kept.Element n) = inr (λ e. cc e)
word_differ (kept.Register m) (kept.Scratch n) = inr (λ e. cc e)
word_differ (kept.Register m) (kept.Element n) = inr (λ e. cc e)
word_differ (kept.Element m) (kept.Scratch n) = inr (λ e. cc e)
word_differ (kept.Element m) (kept.Register n) = inr (λ e. cc e)

-- a word that has an id
pub found_gives : (a : Emission) (w : Kept) (r : ℕ) → IsUsed a.frame w → IsBegun a → id_in a.kept w ≡ Some r → Gives a a [] (a_word r ∷ [])
    (the_word w)
found_gives a w r used h e =
    record {
      seg = [];
      grows = itself a;
      plain = tt;
      below = λ l. (h.kept w r e, tt);
      known = λ z comp gl k cover keeps is. record { typed = tt; kept = keeps; results = (keeps w r e, tt) };
      quiet = λ z places comp linked here is. record { none = refl; classes = (tt, tt) };
      law = λ z comp l s t vs ws st v q. record {
        to = s;
        runs = runs_none z s;
        mirrors = st.mirrors;
        values = subst (AreValues s.values (a_word r ∷ [])) (ok_same _ ws q)
            (st.mirrors.ids w r e (subst (λ (f : Frame). IsUsed f w) comp.frame used), tt);
      };
    }

-- behind code whose value is a word in memory, the table has the id
kept_mirrors : (z : Site) (c d : Emission) (w : Kept) (r : ℕ) (s : State) (t : Words) → IsKept c d w r → s.values r ≡ Some (value.Word (word_of t w))
    → Mirrors z c.kept s t → Mirrors z d.kept s t
kept_mirrors z c d w r s t h v m = record {
  knows = m.knows;
  ids = λ k id i u. ⊎_elim
      (λ (q : k ≡ w).
      let same : r ≡ id = some_is r id (sym h.keeps.here ∙ (ap (id_in d.kept) (sym q) ∙ i)) in
      ap s.values (sym same) ∙ (v ∙ ap (λ k. Some (value.Word (word_of t k))) (sym q)))
      (λ n. m.ids k id (sym (h.keeps.other k n) ∙ i) u) (word_differ k w);
  inside = λ k i. m.inside k (subst (λ l. Among l k) h.keeps.dirty i);
  cells = λ y id i. subst (λ l. Holds z.frame (s.memory id) l t y) (sym h.keeps.dirty) (m.cells y id i);
} where
  some_is : (x y : ℕ) → Some x ≡ Some y → x ≡ y
  some_is x y e = cc e

pub kept_gives : (a c d : Emission) (w : Kept) (r : ℕ) → Gives a c [] (a_word r ∷ []) (the_word w) → IsKept c d w r → Gives a d [] (a_word r ∷ [])
    (the_word w)
kept_gives a c d w r x h =
    let g1 = settled_grows c d h.settled in
    let same : x.seg ++ [] ≡ x.seg = append-nil x.seg in
    let next : next_of d ≡ next_of c = ap (λ t. t.next) h.settled.symbols in
    record {
      seg = x.seg;
      grows = subst (Grows a d) same (grows_on a c d x.seg [] x.grows g1);
      plain = x.plain;
      below = λ l. let b = x.below l in (omega (arith, b.0, next), tt);
      known = λ z comp gl k cover keeps is.
          let p = x.known z (completes_back c d [] z g1 comp) gl k cover keeps is in
          record {
            typed = p.typed;
            kept = λ v id i. ⊎_elim
                (λ (q : v ≡ w).
                let same : r ≡ id = some_is r id (sym h.keeps.here ∙ (ap (id_in d.kept) (sym q) ∙ i)) in
                subst (λ id. IsOf z.names (behind gl k x.seg) type.Word id) same p.results.0)
                (λ n. p.kept v id (sym (h.keeps.other v n) ∙ i)) (word_differ v w);
            results = p.results;
          };
      quiet = λ z places comp linked here is. x.quiet z places (completes_back c d [] z g1 comp) linked here is;
      law = λ z comp l s t vs ws st v q.
          let p = x.law z (completes_back c d [] z g1 comp) l s t vs ws st v q in
          let here : AreValues p.to.values (a_word r ∷ []) (value.Word (word_of t w) ∷ []) = subst (AreValues p.to.values (a_word r ∷ []))
          (sym (ok_same _ ws q)) p.values in
          record { to = p.to; runs = p.runs; mirrors = kept_mirrors z c d w r p.to t h here.0 p.mirrors; values = p.values };
    } where
      some_is : (x y : ℕ) → Some x ≡ Some y → x ≡ y
      some_is x y e = cc e
