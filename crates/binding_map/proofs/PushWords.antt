-- The push constant words of a map, one binding after the other.
use Rattle.std.proofs.Common.{◌≡◌, ℕ, zero, suc, ◌+◌, List, [], ◌∷◌, take, Some, ap, ◌∙◌, arith}
use Rattle.std.specs.Prelude.{slice_get, max}
use Rattle.tpf_program.specs.Program.{Shader}
use Rattle.binding_map.specs.Bindings.{Binding}
use Rattle.binding_map.specs.Wanted.{push_end, push_words}

-- the push constant words of one more binding
words_suc : (p : Shader) (bs : List Binding) (k : ℕ) (b : Binding) → slice_get bs k ≡ Some b
    → push_words p (take (suc k) bs) ≡ max (push_words p (take k bs)) (push_end p b.register b.place)
words_suc p [] k b g = absurd (cc g)
words_suc p (x ∷ xs) zero b g =
    let e : x ≡ b = cc g in ap (λ (y : Binding). max (push_end p y.register y.place) 0) e ∙ grind arith
words_suc p (x ∷ xs) (suc k) b g =
    ap (λ n. max (push_end p x.register x.place) n) (words_suc p xs k b g) ∙ grind arith

pub words_next : (p : Shader) (bs : List Binding) (k : ℕ) (b : Binding) → slice_get bs k ≡ Some b
    → push_words p (take (k + 1) bs) ≡ max (push_words p (take k bs)) (push_end p b.register b.place)
words_next p bs k b g = let s : k + 1 ≡ suc k = omega arith in ap (λ n. push_words p (take n bs)) s ∙ words_suc p bs k b g
