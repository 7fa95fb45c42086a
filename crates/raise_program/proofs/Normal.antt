-- A statement in front of another, with chains that go on to the right, and bodies likewise: its instructions are those
-- of both, it is sound where both are, and the walk from the last instruction to the first gives what it is raised to.
use Rattle.std.proofs.Common.{◌≡◌, [], ◌∷◌, ◌++◌, refl, sym, ap, subst, ◌∙◌, append_assoc, append-nil}
use Rattle.tpf_program.specs.Program.{Shader}
use Rattle.shader_check.specs.Statements.{Statement, Nothing, Then, Plain, If, IfElse, Loop, Switch, Label, flattened, labels, Where, in_if, in_loop, in_switch, outside_all, IsSound, IsNested, BeginsWithLabel, AreDistinct}

abbrev pub normal : Statement → Statement → Statement
normal Nothing t = t
normal (Then first next) t = normal first (normal next t)
normal (Plain i) t = Then (Plain i) t
normal (If opening body end) t = Then (If opening (normal body Nothing) end) t
normal (IfElse opening body middle other end) t = Then (IfElse opening (normal body Nothing) middle (normal other Nothing) end) t
normal (Loop opening body end) t = Then (Loop opening (normal body Nothing) end) t
normal (Switch opening body end) t = Then (Switch opening (normal body Nothing) end) t
normal (Label i) t = Then (Label i) t

-- ITS INSTRUCTIONS
abbrev pub Flat : Statement → Type 0
Flat s = (t : Statement) → flattened (normal s t) ≡ flattened s ++ flattened t

pub body_flat : (s : Statement) → Flat s → flattened (normal s Nothing) ≡ flattened s
body_flat s h = h Nothing ∙ append-nil (flattened s)

pub normal_flat : (s : Statement) → Flat s
normal_flat Nothing t = refl
normal_flat (Then first next) t =
    normal_flat first (normal next t)
    ∙ ap (λ x. flattened first ++ x) (normal_flat next t) ∙ sym (append_assoc (flattened first) (flattened next) (flattened t))
normal_flat (Plain i) t = refl
normal_flat (If opening body end) t =
    ap (λ x. (opening ∷ (x ++ end ∷ [])) ++ flattened t) (body_flat body (normal_flat body))
normal_flat (IfElse opening body middle other end) t =
    ap (λ x. (opening ∷ (x ++ middle ∷ (flattened (normal other Nothing) ++ end ∷ []))) ++ flattened t) (body_flat body (normal_flat body))
    ∙ ap (λ x. (opening ∷ (flattened body ++ middle ∷ (x ++ end ∷ []))) ++ flattened t) (body_flat other (normal_flat other))
normal_flat (Loop opening body end) t =
    ap (λ x. (opening ∷ (x ++ end ∷ [])) ++ flattened t) (body_flat body (normal_flat body))
normal_flat (Switch opening body end) t =
    ap (λ x. (opening ∷ (x ++ end ∷ [])) ++ flattened t) (body_flat body (normal_flat body))
normal_flat (Label i) t = refl

pub normal_labels : (s t : Statement) → labels (normal s t) ≡ labels s ++ labels t
normal_labels Nothing t = refl
normal_labels (Then first next) t =
    normal_labels first (normal next t)
    ∙ ap (λ x. labels first ++ x) (normal_labels next t) ∙ sym (append_assoc (labels first) (labels next) (labels t))
normal_labels (Plain i) t = refl
normal_labels (If opening body end) t = refl
normal_labels (IfElse opening body middle other end) t = refl
normal_labels (Loop opening body end) t = refl
normal_labels (Switch opening body end) t = refl
normal_labels (Label i) t = refl

-- IT IS SOUND
pub normal_sound : (w : Where) (s t : Statement) → IsSound w s → IsSound w t → IsSound w (normal s t)
normal_sound w Nothing t h k = k
normal_sound w (Then first next) t h k = normal_sound w first (normal next t) h.0 (normal_sound w next t h.1 k)
normal_sound w (Plain i) t h k = (h, k)
normal_sound w (If opening body end) t h k = ((h.0, h.1, h.2, normal_sound (in_if w) body Nothing h.3 tt), k)
normal_sound w (IfElse opening body middle other end) t h k =
    ((h.0, h.1, h.2, h.3, normal_sound (in_if w) body Nothing h.4 tt, normal_sound (in_if w) other Nothing h.5 tt), k)
normal_sound w (Loop opening body end) t h k = ((h.0, h.1, h.2, normal_sound (in_loop w) body Nothing h.3 tt), k)
normal_sound w (Switch opening body end) t h k =
    let flat = body_flat body (normal_flat body) in
    let same = normal_labels body Nothing ∙ append-nil (labels body) in (
      (
        h.0,
        h.1,
        h.2,
        normal_sound (in_switch w) body Nothing h.3 tt,
        subst BeginsWithLabel (sym flat) h.4,
        subst AreDistinct (sym same) h.5,
      ),
      k,
    )
normal_sound w (Label i) t h k = (h, k)

abbrev pub normal_nested : (p : Shader) (nested : IsNested p) → IsNested p
normal_nested p nested = record {
  front = normal nested.front Nothing;
  last = nested.last;
  flat = nested.flat ∙ ap (λ x. x ++ nested.last ∷ []) (sym (body_flat nested.front (normal_flat nested.front)));
  sound = normal_sound outside_all nested.front Nothing nested.sound tt;
  returns = nested.returns;
}
