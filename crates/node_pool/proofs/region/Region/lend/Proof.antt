-- `lend` gives the address of a place whose value the `&` reaches.
use Rattle.std.proofs.Common.{◌≡◌, ℕ, ◌+◌, ◌*◌, ◌<◌, ◌^◌, List, [], ◌∷◌, ◌++◌, length, get_or, refl, sym, subst, ◌∙◌, arith, w64}
use Rattle.std.proofs.raw_atomic.Walks.{proved_at}
use seplogic.Ra.Ura.{Ura}
use base.Fraction.{full_share}
use base.Logic.{SProp, ent, never, id⊢}
use base.Fml.{Lft, fat, flft, ftrue}
use mir.MapTy.{inst_fn}
use mir.Syntax.{Fn, named}
use mir.Val.{Val, vptr, vint}
use prog.Memory.{Memory}
use prog.Routine.{Routine}
use prog.Wp.{Calls, Env, Loops, WpFn}
use contract.BorrowLft.{◌⊑◌}
use contract.Monad.{Fun, fact}
use contract.Running.{tables}
use types.ByLocal.{alloc_all, pass_all, free_all, look_at, get, get_in, through, take_at, give_at, sets, sets_last, env}
use types.Kit.{Item, ⋆, ‵, raw, ◌⊛◌, at_ret, ◌$◌, ◌∵◌, !, qed, by, move, drop, use1, split, rewrite, fsplit, fjoin, feq_i, feq_l, flt_l, suffices, frame, done}
use types.Logic.{Logic}
use types.Part.{whole, sub}
use types.Run.{stop, fld, of_opd, addr, bin, size_lit, first, blocks, exec, returns, enter}
use denote.Builtin.{RefOf, usize}
use denote.Exit.{yes, no}
use denote.Memory.{hidden_shr}
use denote.Opens.{hide, unhide}
use denote.Param.{layout}
use denote.RattleType.{owns}
use denote.RawPtr.{Ptr, in_a_block}
use denote.Ref.{ShrRef}
use denote.Signature.{plain}
use denote.Steps.{nothing, heard}
use denote.Triple.Clauses.{Clauses}
use denote.Triple.Walked.{says, Stays, stay_dropped, walk_of, ends_at, Goes-dropped}
use Rattle.core.proofs.mem.Param.{El, R, args}
use Rattle.core.proofs.ptr.Rows.{times_below, one_below}
use Rattle.std.specs.Prelude.{Some, None}
use Rattle.std_alloc.proofs.RcSteps.{word, word-Good}
use Rattle.std_alloc.proofs.VecSteps.Shapes.{after}
use Rattle.node_pool.specs.Places.{Holds}
use Rattle.node_pool.specs.Regions.{lends_place, lends_places}
use Rattle.node_pool.proofs.Rows.{Place, width, StartRow, RegionRow, start_had, held_within, place_seen}
use Rattle.node_pool.specs.contracts.region.Region.lend as f
use Rattle.node_pool.proofs.region.Region.lend.Statement.{statement}
use Rattle.node_pool.proofs.region.Region.lend.Code as code

module _ (E : El) where
  abbrev function : Fn
  function = inst_fn (args E) code.function

  abbrev stayed : Stays (f.ended E.row).signature.params (f.ended E.row).kept
  stayed = (stay_dropped (RefOf (0 ∷ []) tt (plain (λ _. RegionRow E)) (λ _. tt)) yes, (stay_dropped (plain (λ _. StartRow E)) no, (stay_dropped (plain (λ _. usize)) yes, tt)))

module _ (E : El) {M : Type 1} {𝓤 : Ura M} (𝓛 : Logic 𝓤) (at_mem : Memory → SProp 𝓤) (run : Routine → Fun 𝓤) where
  open 𝓛 use {H}

  abbrev clauses : Clauses 𝓤 (f.ended E.row)
  clauses = f.clauses E.row 𝓛 at_mem run

  abbrev Bound : Type 0
  Bound = (walk_of 𝓛 (f.ended E.row) (stayed E) clauses).Ghost

  abbrev Post : Bound → Val → SProp 𝓤
  Post = (walk_of 𝓛 (f.ended E.row) (stayed E) clauses).post

  module _ (y : Bound) where
    abbrev κ : Lft
    κ = y.0.0.0

    abbrev d : (RegionRow E).Denot
    d = y.0.3.0.now

    abbrev start : (StartRow E).Denot
    start = y.0.3.1.0

    abbrev index : ℕ
    index = y.0.3.1.1.0

    abbrev Asks : Type 0
    Asks = (start.address ≡ d.first) × Holds d.places index

    -- the tokens of the two lifetimes
    abbrev tokens : Item 𝓤
    tokens = ‵ (flft κ y.0.1.0) ⊛ ‵ (flft y.0.0.1.0 y.0.1.1.0) ⊛ ‵ ftrue

    abbrev rb : ℕ
    rb = y.0.3.0.ref_ptr.0

    abbrev ro : ℕ
    ro = y.0.3.0.ref_ptr.1

    ends : (b o : ℕ) (x : (R E).Denot) → get_or d.places index None ≡ Some x
        → ent 𝓤 (⋆ 𝓛 (‵ (hidden_shr (R E) κ x b o) ∷ tokens ∷ [])) (Post y (vptr b o))
    ends b o x at =
        qed 𝓛 (‵ (hidden_shr (R E) κ x b o) ∷ tokens ∷ []) ∵
        suffices ! _ (ends_at 𝓛 (f.ended E.row) (stayed E) clauses y (vptr b o) (record { ref_ptr = (b, o); now = x }) (tt, (tt, (tt, tt))) (tt, (tt, (tt, tt)))) $ says ! at $
        feq_i ! (List Val) (vptr b o ∷ []) (vptr b o ∷ []) refl $ fjoin ! $ move ! (1 ∷ []) $ frame ! $ nothing ! $ nothing ! $ fjoin ! $ nothing ! $ fjoin ! $ nothing ! $ fjoin ! $ done !

    walk : (C : Calls 𝓤 H) (Λ : Loops 𝓤 H) → Asks → index < 2 ^ 64
        → ent 𝓤 (⋆ 𝓛 (‵ (hidden_shr (RegionRow E) κ d rb ro) ∷ tokens ∷ [])) (WpFn 𝓤 H C Λ (function E) (vptr rb ro ∷ word start.address ∷ vint w64 index ∷ []) (Post y))
    walk C Λ asked fits =
        let n = length d.places in let w = width E in let inside = held_within d.places index asked.1 in
        qed 𝓛 (‵ (hidden_shr (RegionRow E) κ d rb ro) ∷ tokens ∷ []) ∵
        enter ! C Λ (function E) (vptr rb ro ∷ word start.address ∷ vint w64 index ∷ []) _ $
        alloc_all ! (λ l. pass_all ! refl ((tt, tt), (word-Good [] start.address, ((tt, record { fits = fits }), tt))) $
        let En : Env 𝓤 H = env (function E).locals l in
        -- [what the owner lends; the tokens; the locals]
        unhide ! $ fsplit ! $ drop ! $ in_a_block ! d.first (λ p. lends_places (R E) p d.places κ) (id⊢ 𝓤 (never 𝓤)) (λ b o e. fsplit ! $ flt_l ! (λ small.
        let one : w < 2 ^ 64 = omega (arith, one_below n w (2 ^ 63) (omega arith) small) in
        let far : index * w < 2 ^ 64 = omega (arith, times_below index n w (2 ^ 63) (omega arith) small) in
        -- the start's pointer is that of the block
        take_at ! 2 $ rewrite ! 0 (λ (p : Ptr). ‵ (fat full_share (layout (StartRow E)) (l 2) 0 (word p))) (asked.0 ∙ e) refl $ give_at ! 2 $
        first ! $ blocks ! $
        sets ! (bin ! (get ! refl) (size_lit ! (record { fits = one })) (record { fits = far })) refl (tt, record { fits = far }) $
        sets ! (bin ! (get_in ! (fld ! refl (stop !)) (sub ! 0 refl (whole !))) (get ! refl) tt) refl (tt, tt) $
        -- [what the place lends; ..]
        use1 𝓛 (‵ (lends_place (R E) b (index * w + o) (get_or d.places index None) κ)) (place_seen E 𝓛 b κ d.places index o inside) $
        rewrite ! 0 (λ (c : Place E). ‵ (lends_place (R E) b (index * w + o) c κ)) asked.1.1 refl $ hide ! $
        sets_last ! (addr ! (through ! refl (stop !))) refl (tt, tt) $
        exec ! C Λ En (after 1 (function E).body) (at_ret En (Post y)) $ sets ! (of_opd ! (get ! refl)) refl (tt, tt) $
        returns ! (look_at ! 0 refl) $ free_all ! refl $ by ! (ends b (index * w + o) asked.1.0 asked.1.1))))

    entry : (C : Calls 𝓤 H) (Λ : Loops 𝓤 H) → ent 𝓤 ((walk_of 𝓛 (f.ended E.row) (stayed E) clauses).pre y)
        (WpFn 𝓤 H C Λ (function E) ((walk_of 𝓛 (f.ended E.row) (stayed E) clauses).args y) (Post y))
    entry C Λ =
        let V = y.0.4 in
        qed 𝓛 ((tokens ⊛ ‵ (owns (ShrRef (named 0) κ (RegionRow E) ∷ StartRow E ∷ usize ∷ []) y.0.3 V)) ∷ (raw (fact 𝓤 (y.0.0.1.0 ⊑ E.row.lives)) ⊛ raw (fact 𝓤 Asks)) ∷ []) ∵
        move ! (1 ∷ []) $ split ! $ drop ! $ heard ! _ (λ asked. split ! $ move ! (1 ∷ []) $
        fsplit ! $ fsplit ! $ feq_l ! (λ e₀. move ! (1 ∷ []) $ fsplit ! $ start_had ! start.address V.1.0 (λ e₁. fsplit ! $ fsplit ! $ feq_l ! (λ e₂. flt_l ! (λ fits. drop ! $
        by ! (subst (λ (us : List Val × List Val × List Val). ent 𝓤 (⋆ 𝓛 (‵ (hidden_shr (RegionRow E) κ d rb ro) ∷ tokens ∷ [])) (WpFn 𝓤 H C Λ (function E) (us.0 ++ (us.1 ++ (us.2 ++ []))) (Post y)))
        (λ i. (sym e₀ i, sym e₁ i, sym e₂ i)) (walk C Λ asked fits)))))))

pub lend_spec : {M : Type 1} → statement M
lend_spec 𝓤 𝓛 𝓜 𝓡 wired X LX =
    let E : El = record { row = X; laws = LX } in
    proved_at 𝓛 (f.ended X) (stayed E) (clauses E 𝓛 𝓜.mem 𝓡.returns) 𝓜 𝓡
    (Goes-dropped 𝓛 2 (RefOf (0 ∷ []) tt (plain (λ _. RegionRow E)) (λ _. tt)) yes (λ κs x w. refl), (Goes-dropped 𝓛 2 (plain (λ _. StartRow E)) no (λ κs x w. refl), (Goes-dropped 𝓛 2 (plain (λ _. usize)) yes (λ κs x w. refl), tt)))
    (f.Key.name (args E)) (function E) (code.unfolded 𝓤 𝓛.H 𝓜 𝓡 wired (X, tt))
    (λ y are. entry E 𝓛 𝓜.mem 𝓡.returns y (tables 𝓤 𝓛.H 𝓜 𝓡 𝓡.env).C (tables 𝓤 𝓛.H 𝓜 𝓡 𝓡.env).Λ)
