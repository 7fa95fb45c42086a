-- `give_back` makes room of all places, and hands it back with the right to free it.
use Rattle.std.proofs.Common.{◌≡◌, ℕ, ◌*◌, ◌<◌, ◌^◌, List, [], ◌∷◌, ◌++◌, length, refl, sym, ap, subst, ◌∙◌, arith, w64}
use Rattle.std.proofs.raw_atomic.Walks.{proved_at}
use lib.Dec.{T}
use seplogic.Ra.Ura.{Ura}
use base.Logic.{SProp, ent, never, id⊢}
use base.Fml.{Lft, Incl-trans, flft, froom, ftrue}
use mir.MapTy.{inst_fn}
use mir.Syntax.{Fn, Ty, named, ty_array, ty_unit}
use mir.Val.{Val, WT, has_ty, vptr, vint, vunit}
use prog.Capped.{capped_fits}
use prog.Memory.{Memory, align, capped}
use prog.Routine.{Routine}
use prog.Wp.{Calls, Env, Loops, WpFn}
use contract.BorrowLft.{◌⊑◌}
use contract.Monad.{Fun, fact}
use contract.Running.{tables}
use sound.WpLaws.{FmC}
use types.ByLocal.{alloc_all, pass_all, free_all, look_at, get, get_in, sets, is, lands_last, env}
use types.Kit.{Item, ⋆, ‵, raw, ◌⊛◌, given, later, await, learn, at_ret, ◌$◌, ◌∵◌, !, qed, by, move, keep, drop, use1, split, join, group, rewrite, fsplit, fjoin, feq_i, feq_l, flt_l, suffices, done}
use types.Logic.{Logic}
use types.Part.{whole, sub}
use types.Run.{stop, fld, unit_lit, of_opd, bin, size_word, align_word, and_then, no_more, first, blocks, exec, returns, enter}
use denote.Builtin.{RefOf, usize}
use denote.Exit.{yes, no}
use denote.Memory.{hidden_shr}
use denote.RattleType.{RattleType, owns}
use denote.RawPtr.{Ptr, ptr_val, in_a_block}
use denote.Ref.{ShrRef}
use denote.Signature.{plain}
use denote.Steps.{nothing, heard}
use denote.Triple.Call.{calls_at_last}
use denote.Triple.Clauses.{Clauses, Ended}
use denote.Triple.Statement.{Triple}
use denote.Triple.Table.{framed}
use denote.Triple.Walked.{Stays, stay_dropped, walk_of, ends_at, Goes-dropped}
use Rattle.core.proofs.alloc.Calls.{Al, token, gives_key, Gives, at_gives, Gives-goes, Gives-Gives, Goes-blank}
use Rattle.core.proofs.mem.Param.{El, R, elτ}
use Rattle.core.proofs.slots.Leases.{P, args, block_align, block_size, block_ty, uncapped}
use Rattle.std_alloc.proofs.RawLayout.{as_raw}
use Rattle.std_alloc.proofs.RcSteps.{word, word-Good}
use Rattle.std_alloc.proofs.VecSteps.Shapes.{after}
use Rattle.node_pool.specs.Regions.{may_free, owns_places}
use Rattle.node_pool.proofs.Rows.{width, StartRow, RegionRow, no_bytes, owner_had, start_had, room_of_row}
use Rattle.node_pool.specs.contracts.region.Right as right_type
use Rattle.node_pool.specs.contracts.region.give_back as f
use Rattle.node_pool.proofs.region.give_back.Statement.{statement}
use Rattle.node_pool.proofs.region.give_back.Code as code

module _ (E : El) (Z : Al) where
  abbrev function : Fn
  function = inst_fn (args E Z) code.function

  abbrev signed : Ended
  signed = f.ended E.row Z.row Z.g Z.d Z.drops

  abbrev RightRow : RattleType
  RightRow = right_type.the_row (R E) (P E Z) Z.g

  abbrev stayed : Stays signed.signature.params signed.kept
  stayed = (stay_dropped (RefOf (0 ∷ []) tt (plain (λ _. P E Z)) (λ _. tt)) yes, (stay_dropped (plain (λ _. StartRow E)) no, (stay_dropped (plain (λ _. usize)) yes, (stay_dropped (plain (λ _. RegionRow E)) no, (stay_dropped (plain (λ _. RightRow)) no, tt)))))

module _ (E : El) (Z : Al) {M : Type 1} {𝓤 : Ura M} (𝓛 : Logic 𝓤) (at_mem : Memory → SProp 𝓤) (run : Routine → Fun 𝓤) where
  open 𝓛 use {H}

  abbrev clauses : Clauses 𝓤 (signed E Z)
  clauses = f.clauses E.row Z.row Z.g Z.d Z.drops 𝓛 at_mem run

  abbrev Bound : Type 0
  Bound = (walk_of 𝓛 (signed E Z) (stayed E Z) clauses).Ghost

  abbrev Post : Bound → Val → SProp 𝓤
  Post = (walk_of 𝓛 (signed E Z) (stayed E Z) clauses).post

  module _ (y : Bound) where
    abbrev κ : Lft
    κ = y.0.0.0

    abbrev handle : Z.row.Denot
    handle = y.0.3.0.now

    abbrev start : (StartRow E).Denot
    start = y.0.3.1.0

    abbrev count : ℕ
    count = y.0.3.1.1.0

    abbrev region : (RegionRow E).Denot
    region = y.0.3.1.1.1.0

    abbrev right : (RightRow E Z).Denot
    right = y.0.3.1.1.1.1.0

    abbrev Asks : Type 0
    Asks = (region.first ≡ start.address) × (length region.places ≡ count) × (right.first ≡ start.address) × (right.count ≡ count) × (right.from ≡ handle)

    abbrev token_of : Item 𝓤
    token_of = ‵ (flft κ y.0.1.0)

    -- the tokens of the lifetimes of the two types
    abbrev rest : Item 𝓤
    rest = ‵ (flft y.0.0.1.0 y.0.1.1.0) ⊛ ‵ (flft y.0.0.1.1.0 y.0.1.1.1.0) ⊛ ‵ ftrue

    abbrev rb : ℕ
    rb = y.0.3.0.ref_ptr.0

    abbrev ro : ℕ
    ro = y.0.3.0.ref_ptr.1

    ends : ent 𝓤 (⋆ 𝓛 (token_of ∷ rest ∷ [])) (Post y vunit)
    ends =
        qed 𝓛 (token_of ∷ rest ∷ []) ∵
        suffices ! _ (ends_at 𝓛 (signed E Z) (stayed E Z) clauses y vunit tt (tt, (tt, (tt, (tt, (tt, tt))))) (tt, (tt, (tt, (tt, (tt, tt)))))) $
        join ! $ feq_i ! (List Val) (vunit ∷ []) (vunit ∷ []) refl $
        nothing ! $ nothing ! $ fjoin ! $ nothing ! $ fjoin ! $ nothing ! $ fjoin ! $ nothing ! $ fjoin ! $ nothing ! $ fjoin ! $ join ! $
        move ! (1 ∷ 0 ∷ []) $ join ! $ nothing ! $ move ! (1 ∷ 0 ∷ []) $ done !

    abbrev Had : List (Item 𝓤)
    Had = ‵ (owns_places (R E) region.first region.places) ∷ ‵ (may_free (R E) (token Z right.from) right.first right.count) ∷ ‵ (hidden_shr (P E Z) κ handle rb ro) ∷ token_of ∷ rest ∷ []

    abbrev passed : List Val
    passed = vptr rb ro ∷ word start.address ∷ vint w64 count ∷ no_bytes ∷ no_bytes ∷ []

    walk : (C : Calls 𝓤 H) (Λ : Loops 𝓤 H) → FmC 𝓤 H 𝓛.laws C → Triple 𝓤 (C (gives_key Z)) (Gives Z 𝓛 at_mem run) → y.0.0.1.1.0 ⊑ Z.row.lives → Asks → count < 2 ^ 64
        → ent 𝓤 (⋆ 𝓛 Had) (WpFn 𝓤 H C Λ (function E Z) passed (Post y))
    walk C Λ fm callee lives asked fits =
        let w = width E in let al : ℕ = capped (align (elτ E)) in let τ : Ty = block_ty E count in
        qed 𝓛 Had ∵
        enter ! C Λ (function E Z) passed _ $
        alloc_all ! (λ l. pass_all ! refl ((tt, tt), (word-Good [] start.address, ((tt, record { fits = fits }), ((tt, (tt, tt)), ((tt, (tt, tt)), tt))))) $
        let En : Env 𝓤 H = env (function E Z).locals l in
        rewrite ! 0 (λ (p : Ptr). ‵ (owns_places (R E) p region.places)) asked.0 refl $
        in_a_block ! start.address (λ p. owns_places (R E) p region.places) (id⊢ 𝓤 (never 𝓤)) (λ b o e. fsplit ! $ flt_l ! (λ small.
        let small' : count * w < 2 ^ 63 = subst (λ k. k * w < 2 ^ 63) asked.1 small in let bytes : count * w < 2 ^ 64 = omega arith in
        use1 𝓛 (‵ (froom (ty_array (elτ E) (length region.places)) b o)) (room_of_row E 𝓛 b region.places o) $
        rewrite ! 0 (λ (k : ℕ). ‵ (froom (ty_array (elτ E) k) b o)) asked.1 refl $ as_raw ! (ty_array (elτ E) count) b o $
        rewrite ! 1 (λ (r : Z.row.Denot × Ptr × ℕ). ‵ (may_free (R E) (token Z r.0) r.1 r.2)) (λ i. (asked.4 i, (asked.2 ∙ e) i, asked.3 i)) refl $
        -- [the room; the right to free it; the allocator; the tokens; the locals]
        first ! $ blocks ! $
        sets ! (is ! (of_opd ! (get_in ! (fld ! refl (stop !)) (sub ! 0 refl (whole !)))) (ap ptr_val e)) refl (tt, tt) $
        sets ! (is ! (bin ! (get ! refl) (size_word !) (record { fits = subst (λ (k : ℕ). k < 2 ^ 64) (sym (uncapped count w bytes)) bytes })) (ap (vint w64) (uncapped count w bytes))) refl (tt, record { fits = bytes }) $
        let z : (Gives Z 𝓛 at_mem run).Ghost = at_gives Z 𝓛 at_mem run κ y.0.1.0 (rb, ro) handle b o (count * w) al τ in
        group ! 4 $ use1 𝓛 (raw ((Gives Z 𝓛 at_mem run).pre z))
        (Gives-goes Z 𝓛 at_mem run κ y.0.1.0 (rb, ro) handle (Incl-trans y.0.2.0 lives) b o (count * w) al τ (block_size E count bytes) (block_align E count) bytes (capped_fits (align (elτ E)))) $
        calls_at_last ! fm (Gives Z 𝓛 at_mem run) callee z (and_then ! (get ! refl) (and_then ! (get ! refl) (and_then ! (get ! refl) (and_then ! (align_word !) (no_more !))))) (λ v.
        use1 𝓛 (later (given (v ≡ vunit) token_of)) (Gives-Gives Z 𝓛 at_mem run κ y.0.1.0 (rb, ro) handle b o (count * w) al τ v) $ await ! tt $ learn ! (λ none.
        lands_last ! refl (subst (λ (u : Val). T (has_ty ty_unit u) × WT u) (sym none) (tt, tt)) $ exec ! C Λ En (after 1 (function E Z).body) (at_ret En (Post y)) $
        sets ! (of_opd ! (unit_lit !)) refl (tt, tt) $ returns ! (look_at ! 0 refl) $ free_all ! refl $ by ! ends)))))

    entry : (C : Calls 𝓤 H) (Λ : Loops 𝓤 H) → FmC 𝓤 H 𝓛.laws C → Triple 𝓤 (C (gives_key Z)) (Gives Z 𝓛 at_mem run)
        → ent 𝓤 ((walk_of 𝓛 (signed E Z) (stayed E Z) clauses).pre y) (WpFn 𝓤 H C Λ (function E Z) ((walk_of 𝓛 (signed E Z) (stayed E Z) clauses).args y) (Post y))
    entry C Λ fm callee =
        let V = y.0.4 in
        qed 𝓛 (((token_of ⊛ rest) ⊛ ‵ (owns (ShrRef (named 0) κ (P E Z) ∷ StartRow E ∷ usize ∷ RegionRow E ∷ RightRow E Z ∷ []) y.0.3 V))
        ∷ (raw (fact 𝓤 (y.0.0.1.0 ⊑ E.row.lives)) ⊛ raw (fact 𝓤 (y.0.0.1.1.0 ⊑ Z.row.lives)) ⊛ raw (fact 𝓤 Asks)) ∷ []) ∵
        move ! (1 ∷ []) $ split ! $ drop ! $ split ! $ heard ! _ (λ lives. heard ! _ (λ asked. split ! $ split ! $ move ! (2 ∷ []) $
        fsplit ! $ fsplit ! $ feq_l ! (λ e₀. move ! (1 ∷ []) $ fsplit ! $ start_had ! start.address V.1.0 (λ e₁. fsplit ! $ fsplit ! $ feq_l ! (λ e₂. flt_l ! (λ fits.
        fsplit ! $ fsplit ! $ owner_had ! E V.1.1.1.0 (λ e₃. move ! (1 ∷ []) $ fsplit ! $ fsplit ! $ owner_had ! E V.1.1.1.1.0 (λ e₄. keep ! (2 ∷ 0 ∷ 3 ∷ 4 ∷ 5 ∷ []) $
        by ! (subst (λ (us : List Val × List Val × List Val × List Val × List Val). ent 𝓤 (⋆ 𝓛 Had) (WpFn 𝓤 H C Λ (function E Z) (us.0 ++ (us.1 ++ (us.2 ++ (us.3 ++ (us.4 ++ []))))) (Post y)))
        (λ i. (sym e₀ i, sym e₁ i, sym e₂ i, sym e₃ i, sym e₄ i)) (walk C Λ fm callee lives asked fits))))))))))

pub give_back_spec : {M : Type 1} → statement M
give_back_spec 𝓤 𝓛 𝓜 𝓡 wired X W LX LW g d drops met dropped =
    let E : El = record { row = X; laws = LX } in
    let Z : Al = record { row = W; laws = LW; g = g; d = d; drops = drops } in
    let 𝓣 = tables 𝓤 𝓛.H 𝓜 𝓡 𝓡.env in
    proved_at 𝓛 (signed E Z) (stayed E Z) (clauses E Z 𝓛 𝓜.mem 𝓡.returns) 𝓜 𝓡 (
      Goes-dropped 𝓛 3 (RefOf (0 ∷ []) tt (plain (λ _. P E Z)) (λ _. tt)) yes (λ κs x u. refl),
      (
        Goes-dropped 𝓛 3 (plain (λ _. StartRow E)) no (λ κs x u. refl),
        (
          Goes-dropped 𝓛 3 (plain (λ _. usize)) yes (λ κs x u. refl),
          (Goes-blank 𝓛 3 (plain (λ _. RegionRow E)) no (λ κs x u. tt), (Goes-blank 𝓛 3 (plain (λ _. RightRow E Z)) no (λ κs x u. tt), tt)),
        ),
      ),
    )
    (f.Key.name (args E Z)) (function E Z) (code.unfolded 𝓤 𝓛.H 𝓜 𝓡 wired (X, (W, tt)) d drops)
    (λ y are. entry E Z 𝓛 𝓜.mem 𝓡.returns y 𝓣.C 𝓣.Λ (framed 𝓤 𝓛.H 𝓜 𝓣) (met.deallocate drops))
