-- What the code of barriers and fences does.
use Rattle.std.proofs.Common.{◌≡◌, ℕ, ◌+◌, [], ◌∷◌, Some, refl, sym, ap, ◌∙◌, Bool, true, false}
use Rattle.std.specs.Prelude.{slice_get, Ok}
use Rattle.word_base.specs.Lanes.{Asks}
use Rattle.word_base.specs.declared.event.Classes.{Classes}
use Rattle.word_base.specs.declared.event.Event.TheVariants as event
use Rattle.word_base.specs.declared.event.Scope.{Scope}
use Rattle.word_base.specs.declared.event.Scope.TheVariants as scope
use Rattle.shader_tree.specs.Shape.{Waits, Fences}
use Rattle.spirv_words.specs.Text.{instr}
use Rattle.spirv_words.specs.Values.{Word}
use Rattle.spirv_words.specs.Memory.{scope_of, classes_of}
use Rattle.spirv_words.specs.Lane.{State, step, goes_to}
use Rattle.spirv_emit.specs.Emission.{Emission}
use Rattle.spirv_emit.specs.Blocks.{Meets, Syncs}
use Rattle.spirv_emit.specs.Joins.{always, joined, only}
use Rattle.spirv_emit.specs.Lanes.{Site, IsWhole}
use Rattle.spirv_emit.specs.Rooms.{number_of_scope, semantics_of, semantics_by}
use Rattle.spirv_emit.specs.Steps.{Acts}
use Rattle.spirv_emit.specs.Values.{a_word, Gives}
use Rattle.spirv_emit.proofs.Forms.{acts}
use Rattle.spirv_emit.proofs.Giving.{then', only_gives}
use Rattle.spirv_emit.proofs.Stores.{event_meets}

-- scopes and semantics have their numbers
scope_is : (x : Scope) → scope_of (number_of_scope x) ≡ Ok x
scope_is scope.Device = refl
scope_is scope.Group = refl

classes_by : (b s : Bool) → classes_of (semantics_by b s) ≡ Ok (record { buffers = b; shared = s })
classes_by false false = refl
classes_by true false = refl
classes_by false true = refl
classes_by true true = refl

classes_is : (c : Classes) → classes_of (semantics_of c) ≡ Ok c
classes_is c = classes_by c.buffers c.shared

module _ (z : Site) (s : State) (whole : IsWhole z) (k m : ℕ) (x : Scope) (c : Classes) (hk : s.values k ≡ Some (Word (number_of_scope x)))
    (hm : s.values m ≡ Some (Word (semantics_of c))) where
  barrier_step : (g : ℕ) → s.values g ≡ Some (Word 2) → slice_get z.machine.code s.place ≡ Some (instr 224 (g ∷ k ∷ m ∷ []))
      → step z.machine s ≡ Asks (event.Barrier x c) (λ answer. goes_to s (s.place + 1))
  barrier_step g hg at = acts z s (instr 224 (g ∷ k ∷ m ∷ [])) whole at ∙ rw (hg, hk, hm, scope_is x, classes_is c) refl

  fence_step : slice_get z.machine.code s.place ≡ Some (instr 225 (k ∷ m ∷ [])) → step z.machine s ≡ Asks (event.Fence x c)
      (λ answer. goes_to s (s.place + 1))
  fence_step at = acts z s (instr 225 (k ∷ m ∷ [])) whole at ∙ rw (hk, hm, scope_is x, classes_is c) refl

pub barrier_meets : (a b c d e : Emission) (g k m : ℕ) (x : Scope) (cl : Classes) → Gives a b [] (a_word g ∷ []) (always (Word 2))
    → Gives b c [] (a_word k ∷ []) (always (Word (number_of_scope x)))
    → Gives c d [] (a_word m ∷ []) (always (Word (semantics_of cl))) → Acts d e (instr 224 (g ∷ k ∷ m ∷ [])) → Meets a e Waits (Syncs true x cl)
barrier_meets a b c d e g k m x cl hg hk hm act =
    let w2 = Word 2 in let wk = Word (number_of_scope x) in let wm = Word (semantics_of cl) in
    let f1 = joined (always w2) [] (always wk) in
    let g1 = then' a b c [] (a_word g ∷ []) [] (a_word k ∷ []) (always w2) (always wk) [] hg hk refl in
    let f2 = joined f1 [] (always wm) in
    let g2 = then' a c d [] (a_word k ∷ a_word g ∷ []) [] (a_word m ∷ []) f1 (always wm) [] g1 hm refl in
    let rs = a_word g ∷ a_word k ∷ a_word m ∷ [] in
    let g3 = only_gives a d [] (a_word m ∷ a_word k ∷ a_word g ∷ []) rs f2 (2 ∷ 1 ∷ 0 ∷ []) g2 refl in
    event_meets a d e rs (only (2 ∷ 1 ∷ 0 ∷ []) f2) (instr 224 (g ∷ k ∷ m ∷ [])) g3 act refl (refl, refl)
    (λ z comp l is. (is.0, (is.1.0, (is.1.1.0, tt)))) Waits (λ z places comp linked here is. refl) (Syncs true x cl)
    (λ z comp t ev u l. (
      l.1,
      (
        w2 ∷ wk ∷ wm ∷ [],
        refl,
        λ s at vs. barrier_step z s comp.whole k m x cl vs.1.0 vs.1.1.0 g vs.0 at ∙ ap (λ y. Asks y (λ answer. goes_to s (s.place + 1))) (sym l.0),
      ),
    ))

pub fence_meets : (a b c d : Emission) (k m : ℕ) (x : Scope) (cl : Classes) → Gives a b [] (a_word k ∷ []) (always (Word (number_of_scope x)))
    → Gives b c [] (a_word m ∷ []) (always (Word (semantics_of cl))) → Acts c d (instr 225 (k ∷ m ∷ [])) → Meets a d Fences (Syncs false x cl)
fence_meets a b c d k m x cl hk hm act =
    let wk = Word (number_of_scope x) in let wm = Word (semantics_of cl) in
    let f1 = joined (always wk) [] (always wm) in
    let g1 = then' a b c [] (a_word k ∷ []) [] (a_word m ∷ []) (always wk) (always wm) [] hk hm refl in
    let rs = a_word k ∷ a_word m ∷ [] in
    let g2 = only_gives a c [] (a_word m ∷ a_word k ∷ []) rs f1 (1 ∷ 0 ∷ []) g1 refl in
    event_meets a c d rs (only (1 ∷ 0 ∷ []) f1) (instr 225 (k ∷ m ∷ [])) g2 act refl (refl, refl)
    (λ z comp l is. (is.0, (is.1.0, tt))) Fences (λ z places comp linked here is. refl) (Syncs false x cl)
    (λ z comp t ev u l. (
      l.1,
      (
        wk ∷ wm ∷ [],
        refl,
        λ s at vs. fence_step z s comp.whole k m x cl vs.0 vs.1.0 at ∙ ap (λ y. Asks y (λ answer. goes_to s (s.place + 1))) (sym l.0),
      ),
    ))
