-- `write` makes room of one place, whatever it held, and puts the value there.
use Rattle.std.proofs.Common.{◌≡◌, ℕ, ◌+◌, ◌*◌, ◌<◌, ◌^◌, List, [], ◌∷◌, ◌++◌, length, get_or, set, length-set, refl, sym, subst, ◌∙◌, arith, w64}
use Rattle.std.proofs.raw_atomic.Walks.{proved_at}
use seplogic.Ra.Ura.{Ura}
use base.Fraction.{full_share}
use base.Logic.{SProp, ent, never, id⊢}
use base.Fml.{Fml, Lft, fat, fbor, flft, fobs, froom, ftrue}
use mir.MapTy.{inst_fn}
use mir.Syntax.{Fn, named}
use mir.Val.{Val, vptr, vint, vunit}
use prog.Memory.{Memory}
use prog.Routine.{Routine}
use prog.Wp.{Calls, Env, Loops, WpFn}
use contract.BorrowLft.{◌⊑◌}
use contract.Monad.{Fun, fact}
use contract.Running.{tables}
use types.ByLocal.{alloc_all, pass_all, free_all, look_at, get, get_in, through, take_at, give_at, sets, env}
use types.Kit.{Item, ⋆, ‵, raw, ◌⊛◌, at_ret, ◌$◌, ◌∵◌, !, qed, by, move, keep, drop, use1, use2, split, join, rewrite, fsplit, fsplit3, fjoin, fjoin3, feq_i, feq_l, flt_i, flt_l, suffices, frame, done}
use types.Logic.{Logic}
use types.Part.{whole, sub}
use types.Run.{init, stop, fld, unit_lit, of_opd, bin, size_lit, assigns_last, first, blocks, exec, returns, enter}
use types.SemTy.{Body as Borrowed}
use denote.Builtin.{usize}
use denote.Exit.{yes, no}
use denote.Memory.{mem}
use denote.Param.{layout}
use denote.RattleType.{owns}
use denote.RawPtr.{Ptr, in_a_block}
use denote.Ref.{MutRef}
use denote.Signature.{plain}
use denote.Steps.{nothing, heard, opens, closes}
use denote.Triple.Clauses.{Clauses}
use denote.Triple.Walked.{says, Stays, stay_dropped, stay_ref, walk_of, ends_at, Goes-dropped, Goes-ref}
use Rattle.core.proofs.mem.Param.{El, R, args, elτ}
use Rattle.core.proofs.ptr.Rows.{times_below, one_below}
use Rattle.std.specs.Prelude.{Some, None}
use Rattle.std_alloc.proofs.RcSteps.{Good, word, word-Good}
use Rattle.std_alloc.proofs.VecSteps.Shapes.{after}
use Rattle.node_pool.specs.Regions.{owns_place, owns_row, owns_places}
use Rattle.node_pool.proofs.Rows.{width, StartRow, RegionRow, start_had, value_had, Others, place_out, place_in, value_in, room_of_place}
use Rattle.node_pool.specs.contracts.region.Region.write as f
use Rattle.node_pool.proofs.region.Region.write.Statement.{statement}
use Rattle.node_pool.proofs.region.Region.write.Code as code

module _ (E : El) where
  abbrev function : Fn
  function = inst_fn (args E) code.function

  abbrev stayed : Stays (f.ended E.row).signature.params (f.ended E.row).kept
  stayed = (stay_ref (0 ∷ []) tt (plain (λ _. RegionRow E)), (stay_dropped (plain (λ _. StartRow E)) no, (stay_dropped (plain (λ _. usize)) yes, (stay_dropped (plain (λ _. R E)) no, tt))))

module _ (E : El) {M : Type 1} {𝓤 : Ura M} (𝓛 : Logic 𝓤) (at_mem : Memory → SProp 𝓤) (run : Routine → Fun 𝓤) where
  open 𝓛 use {H}

  abbrev clauses : Clauses 𝓤 (f.ended E.row)
  clauses = f.clauses E.row 𝓛 at_mem run

  abbrev Bound : Type 0
  Bound = (walk_of 𝓛 (f.ended E.row) (stayed E) clauses).Ghost

  abbrev Post : Bound → Val → SProp 𝓤
  Post = (walk_of 𝓛 (f.ended E.row) (stayed E) clauses).post

  module _ (y : Bound) where
    abbrev κ : Lft
    κ = y.0.0.0

    abbrev d : (RegionRow E).Denot
    d = y.0.3.0.now

    abbrev start : (StartRow E).Denot
    start = y.0.3.1.0

    abbrev index : ℕ
    index = y.0.3.1.1.0

    abbrev value : (R E).Denot
    value = y.0.3.1.1.1.0

    abbrev after_it : (RegionRow E).Denot
    after_it = record d { places = set d.places index (Some value) }

    abbrev Asks : Type 0
    Asks = (start.address ≡ d.first) × (index < length d.places)

    abbrev token : Item 𝓤
    token = ‵ (flft κ y.0.1.0)

    -- the token of the value's lifetime
    abbrev rest : Item 𝓤
    rest = ‵ (flft y.0.0.1.0 y.0.1.1.0) ⊛ ‵ ftrue

    abbrev rb : ℕ
    rb = y.0.3.0.ref_ptr.0

    abbrev ro : ℕ
    ro = y.0.3.0.ref_ptr.1

    -- the two parts of a borrow of the owner
    abbrev seen_at : (RegionRow E).Denot → Fml
    seen_at e = fobs y.0.3.0.ghost_name ((RegionRow E).coded.code e)

    abbrev borrow : Fml
    borrow = fbor κ (Borrowed (mem (RegionRow E)) rb ro y.0.3.0.ghost_name)

    ends : y.0.4.0 ≡ vptr rb ro ∷ [] → ent 𝓤 (⋆ 𝓛 (‵ (seen_at after_it) ∷ ‵ borrow ∷ token ∷ rest ∷ [])) (Post y vunit)
    ends passed =
        qed 𝓛 (‵ (seen_at after_it) ∷ ‵ borrow ∷ token ∷ rest ∷ []) ∵
        suffices ! _ (ends_at 𝓛 (f.ended E.row) (stayed E) clauses y vunit tt (after_it, (tt, (tt, (tt, tt)))) (tt, (tt, (tt, (tt, tt))))) $ says ! (refl, refl) $
        move ! (2 ∷ 3 ∷ []) $ join ! $ frame ! $
        feq_i ! (List Val) y.0.4.0 (vptr rb ro ∷ []) passed $ fjoin3 ! $ nothing ! $ nothing ! $ fjoin ! $ nothing ! $ fjoin ! $ nothing ! $ fjoin ! $ move ! (1 ∷ 0 ∷ []) $ fjoin ! $ frame ! $
        feq_i ! (List Val) (vunit ∷ []) (vunit ∷ []) refl $ done !

    abbrev Had : Val → List (Item 𝓤)
    Had v = ‵ (seen_at d) ∷ ‵ borrow ∷ token ∷ rest ∷ ‵ ((R E).own_val value (v ∷ [])) ∷ []

    walk : (C : Calls 𝓤 H) (Λ : Loops 𝓤 H) → y.0.4.0 ≡ vptr rb ro ∷ [] → Asks → index < 2 ^ 64 → (v : Val) → Good (layout (R E)) v
        → ent 𝓤 (⋆ 𝓛 (Had v)) (WpFn 𝓤 H C Λ (function E) (vptr rb ro ∷ word start.address ∷ vint w64 index ∷ v ∷ []) (Post y))
    walk C Λ passed asked fits v good =
        let n = length d.places in let w = width E in let inside = asked.1 in
        qed 𝓛 (Had v) ∵
        enter ! C Λ (function E) (vptr rb ro ∷ word start.address ∷ vint w64 index ∷ v ∷ []) _ $
        alloc_all ! (λ l. pass_all ! refl ((tt, tt), (word-Good [] start.address, ((tt, record { fits = fits }), (good, tt)))) $
        let En : Env 𝓤 H = env (function E).locals l in
        opens ! tt (RegionRow E) {h = d} rb ro (λ us. move ! (1 ∷ []) $ fsplit ! $ move ! (1 ∷ []) $
        in_a_block ! d.first (λ p. owns_places (R E) p d.places) (id⊢ 𝓤 (never 𝓤)) (λ b o e. fsplit ! $ flt_l ! (λ small.
        let one : w < 2 ^ 64 = omega (arith, one_below n w (2 ^ 63) (omega arith) small) in
        let far : index * w < 2 ^ 64 = omega (arith, times_below index n w (2 ^ 63) (omega arith) small) in
        let small' : length after_it.places * w < 2 ^ 63 = subst (λ k. k * w < 2 ^ 63) (sym (length-set d.places index (Some value))) small in
        -- the start's pointer is that of the block
        take_at ! 2 $ rewrite ! 0 (λ (p : Ptr). ‵ (fat full_share (layout (StartRow E)) (l 2) 0 (word p))) (asked.0 ∙ e) refl $ give_at ! 2 $
        first ! $ blocks ! $
        sets ! (bin ! (get ! refl) (size_lit ! (record { fits = one })) (record { fits = far })) refl (tt, record { fits = far }) $
        sets ! (bin ! (get_in ! (fld ! refl (stop !)) (sub ! 0 refl (whole !))) (get ! refl) tt) refl (tt, tt) $
        use1 𝓛 (‵ (owns_place (R E) b (index * w + o) (get_or d.places index None)) ⊛ ‵ (Others E 𝓛 b o index d.places)) (place_out E 𝓛 b d.places index o inside) $ split ! $
        use1 𝓛 (‵ (froom (elτ E) b (index * w + o))) (room_of_place E 𝓛 b (index * w + o) (get_or d.places index None)) $
        -- [the room; the other places; what the owner's fields own; the owner's cell; the open borrow, in three entries; the tokens; the value; the locals]
        sets ! (of_opd ! (get ! refl)) refl good $ assigns_last ! (of_opd ! (get ! refl)) (through ! refl (stop !)) (init ! 0 refl good) $
        exec ! C Λ En (after 1 (function E).body) (at_ret En (Post y)) $ sets ! (of_opd ! (unit_lit !)) refl (tt, tt) $
        move ! (0 ∷ 8 ∷ []) $ use2 𝓛 (‵ (owns_place (R E) b (index * w + o) (Some value))) (value_in E 𝓛 b (index * w + o) value v) $
        use2 𝓛 (‵ (owns_row (R E) b o after_it.places)) (place_in E 𝓛 b d.places index o inside (Some value)) $
        flt_i ! (length after_it.places * w) (2 ^ 63) small' $ fjoin ! $
        rewrite ! 0 (λ (p : Ptr). ‵ (owns_places (R E) p after_it.places)) (sym e) refl $
        move ! (1 ∷ 0 ∷ []) $ fjoin ! $ move ! (1 ∷ 0 ∷ []) $ closes ! tt (RegionRow E) after_it us rb ro $
        returns ! (look_at ! 0 refl) $ free_all ! refl $ by ! (ends passed)))))

    entry : (C : Calls 𝓤 H) (Λ : Loops 𝓤 H) → ent 𝓤 ((walk_of 𝓛 (f.ended E.row) (stayed E) clauses).pre y)
        (WpFn 𝓤 H C Λ (function E) ((walk_of 𝓛 (f.ended E.row) (stayed E) clauses).args y) (Post y))
    entry C Λ =
        let V = y.0.4 in
        qed 𝓛 (((token ⊛ rest) ⊛ ‵ (owns (MutRef (named 0) κ (RegionRow E) ∷ StartRow E ∷ usize ∷ R E ∷ []) y.0.3 V)) ∷ (raw (fact 𝓤 (y.0.0.1.0 ⊑ E.row.lives)) ⊛ raw (fact 𝓤 Asks)) ∷ []) ∵
        move ! (1 ∷ []) $ split ! $ drop ! $ heard ! _ (λ asked. split ! $ split ! $ move ! (2 ∷ []) $
        fsplit ! $ fsplit3 ! $ feq_l ! (λ e₀. move ! (2 ∷ []) $ fsplit ! $ start_had ! start.address V.1.0 (λ e₁. fsplit ! $ fsplit ! $ feq_l ! (λ e₂. flt_l ! (λ fits.
        fsplit ! $ value_had E ! value V.1.1.1.0 (λ v e₃ good. keep ! (2 ∷ 3 ∷ 4 ∷ 5 ∷ 0 ∷ []) $
        by ! (subst (λ (us : List Val × List Val × List Val × List Val). ent 𝓤 (⋆ 𝓛 (Had v)) (WpFn 𝓤 H C Λ (function E) (us.0 ++ (us.1 ++ (us.2 ++ (us.3 ++ [])))) (Post y)))
        (λ i. (sym e₀ i, sym e₁ i, sym e₂ i, sym e₃ i)) (walk C Λ e₀ asked fits v good))))))))

pub write_spec : {M : Type 1} → statement M
write_spec 𝓤 𝓛 𝓜 𝓡 wired X LX =
    let E : El = record { row = X; laws = LX } in
    proved_at 𝓛 (f.ended X) (stayed E) (clauses E 𝓛 𝓜.mem 𝓡.returns) 𝓜 𝓡
    (Goes-ref 𝓛 2 0 tt (plain (λ _. RegionRow E)), (Goes-dropped 𝓛 2 (plain (λ _. StartRow E)) no (λ κs x w. refl), (Goes-dropped 𝓛 2 (plain (λ _. usize)) yes (λ κs x w. refl), (Goes-dropped 𝓛 2 (plain (λ _. R E)) no (λ κs x w. refl), tt))))
    (f.Key.name (args E)) (function E) (code.unfolded 𝓤 𝓛.H 𝓜 𝓡 wired (X, tt))
    (λ y are. entry E 𝓛 𝓜.mem 𝓡.returns y (tables 𝓤 𝓛.H 𝓜 𝓡 𝓡.env).C (tables 𝓤 𝓛.H 𝓜 𝓡 𝓡.env).Λ)
