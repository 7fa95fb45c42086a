-- `take` cuts a block into empty places, and keeps the right to free it.
use Rattle.std.proofs.Common.{◌≡◌, ℕ, ◌*◌, ◌<◌, ◌^◌, List, [], ◌∷◌, ◌++◌, length, replicate, true, false, lit<, refl, sym, ap, subst, arith, w64}
use Rattle.std.proofs.lemmas.List.{length-replicate}
use Rattle.std.proofs.raw_atomic.Walks.{proved_at}
use seplogic.Ra.Ura.{Ura}
use base.Logic.{SProp, ent}
use base.Fml.{Lft, Incl-trans, flft, ftrue}
use mir.MapTy.{inst_fn}
use mir.Syntax.{Body, Fn, Ty, named, ty_array}
use mir.Val.{Val, vcons, vint, vnil, vptr, vstruct}
use prog.Capped.{capped_fits}
use prog.Memory.{Memory, align, capped}
use prog.Routine.{Routine}
use prog.Wp.{Calls, Env, Loops, Wp, WpFn, after_seq, at_return}
use contract.BorrowLft.{◌⊑◌}
use contract.Monad.{Fun, fact}
use contract.Running.{tables}
use sound.WpLaws.{FmC}
use types.ByLocal.{alloc_all, pass_all, free_all, look_at, get, get_in, get_tag, sets, sets_last, is, lands_as, env}
use types.Kit.{Item, Post as After, ⋆, ‵, raw, ◌⊛◌, any_q, later, await, at_ret, ◌$◌, ◌∵◌, !, qed, by, move, drop, use0, use1, use2, use3, split, join, fsplit, fjoin, feq_l, flt_i, flt_l, suffices, frame, done}
use types.Logic.{Logic}
use types.Match.{in_variant, live, vrt}
use types.Part.{agg, whole}
use types.Run.{stop, fld, lit, of_opd, bin, size_word, align_word, and_then, no_more, first, exec, returns, switches_on, enter}
use denote.Builtin.{RefOf, usize}
use denote.Exit.{yes}
use denote.Laws.{Is}
use denote.Memory.{hidden_shr}
use denote.Param.{layout}
use denote.RattleType.{RattleType, owns}
use denote.RawPtr.{Ptr, block_ptr}
use denote.Ref.{ShrRef}
use denote.Signature.{plain}
use denote.Steps.{nothing, heard, owned}
use denote.Struct.Declared as Declared
use denote.Struct.Struct.{Struct, Struct-Makes}
use denote.Struct.Tuple.{Tuple}
use denote.Triple.Call.{calls_at}
use denote.Triple.Clauses.{Clauses, Ended}
use denote.Triple.Statement.{Triple}
use denote.Triple.Table.{framed}
use denote.Triple.Walked.{says, Stays, stay_dropped, walk_of, ends_at, Goes-dropped}
use Rattle.core.proofs.alloc.Calls.{Al, Answer-typed, takes_key, Takes, at_takes, Answered, Takes-goes, Takes-gives, answers}
use Rattle.core.proofs.mem.Param.{El, R, elτ}
use Rattle.core.proofs.slots.Leases.{P, args, block_align, block_size, block_ty, uncapped}
use Rattle.core.specs.contracts.alloc.AllocError as refusal
use Rattle.core.specs.contracts.result.Result as answer
use Rattle.std.specs.Prelude.{IfOk, Ok, Err, None}
use Rattle.std.specs.Vec.Ownership.{FitsInBlock}
use Rattle.std_alloc.proofs.RawLayout.{as_written}
use Rattle.std_alloc.proofs.RcSteps.{Good, word, word-Good, first_Good}
use Rattle.std_alloc.proofs.ResultValues.{ok_of, err_of}
use Rattle.std_alloc.proofs.VecSteps.Shapes.{after, arm_body, head}
use Rattle.node_pool.specs.Regions.{owns_row}
use Rattle.node_pool.proofs.Rows.{width, StartRow, RegionRow, Owner, no_bytes, owner_made, start_made, three_made, row_of_room}
use Rattle.node_pool.specs.contracts.region.Right as right_type
use Rattle.node_pool.specs.contracts.region.take as f
use Rattle.node_pool.proofs.region.take.Statement.{statement}
use Rattle.node_pool.proofs.region.take.Code as code

module _ (E : El) (Z : Al) where
  abbrev function : Fn
  function = inst_fn (args E Z) code.function

  abbrev signed : Ended
  signed = f.ended E.row Z.row Z.g Z.d Z.drops

  abbrev stayed : Stays signed.signature.params signed.kept
  stayed = (stay_dropped (RefOf (0 ∷ []) tt (plain (λ _. P E Z)) (λ _. tt)) yes, (stay_dropped (plain (λ _. usize)) yes, tt))

  abbrev RightRow : RattleType
  RightRow = right_type.the_row (R E) (P E Z) Z.g

  abbrev Made : RattleType
  Made = Tuple (StartRow E ∷ RegionRow E ∷ RightRow ∷ [])

  abbrev Out : RattleType
  Out = answer.the_row Made refusal.the_row

  abbrev Refusal : RattleType
  Refusal = Struct (Declared.shape refusal.the_type)

module _ (E : El) (Z : Al) {M : Type 1} {𝓤 : Ura M} (𝓛 : Logic 𝓤) (at_mem : Memory → SProp 𝓤) (run : Routine → Fun 𝓤) where
  open 𝓛 use {H}

  abbrev clauses : Clauses 𝓤 (signed E Z)
  clauses = f.clauses E.row Z.row Z.g Z.d Z.drops 𝓛 at_mem run

  abbrev Bound : Type 0
  Bound = (walk_of 𝓛 (signed E Z) (stayed E Z) clauses).Ghost

  abbrev Post : Bound → Val → SProp 𝓤
  Post = (walk_of 𝓛 (signed E Z) (stayed E Z) clauses).post

  module _ (y : Bound) where
    abbrev κ : Lft
    κ = y.0.0.0

    abbrev handle : Z.row.Denot
    handle = y.0.3.0.now

    abbrev count : ℕ
    count = y.0.3.1.0

    abbrev token_of : Item 𝓤
    token_of = ‵ (flft κ y.0.1.0)

    -- the tokens of the lifetimes of the two types
    abbrev rest : Item 𝓤
    rest = ‵ (flft y.0.0.1.0 y.0.1.1.0) ⊛ ‵ (flft y.0.0.1.1.0 y.0.1.1.1.0) ⊛ ‵ ftrue

    abbrev rb : ℕ
    rb = y.0.3.0.ref_ptr.0

    abbrev ro : ℕ
    ro = y.0.3.0.ref_ptr.1

    abbrev Ensured : (Out E Z).Denot → Type 0
    Ensured r = IfOk r (λ t. (t.1.first ≡ t.0.address) × (t.1.places ≡ replicate count None) × (t.2.first ≡ t.0.address) × (t.2.count ≡ count) × (t.2.from ≡ handle))

    ends : (r : (Out E Z).Denot) (v : Val) → Ensured r → ent 𝓤 (⋆ 𝓛 (‵ ((Out E Z).own_val r (v ∷ [])) ∷ token_of ∷ rest ∷ [])) (Post y v)
    ends r v ensured =
        qed 𝓛 (‵ ((Out E Z).own_val r (v ∷ [])) ∷ token_of ∷ rest ∷ []) ∵
        suffices ! _ (ends_at 𝓛 (signed E Z) (stayed E Z) clauses y v r (tt, (tt, tt)) (tt, (tt, tt))) $ says ! ensured $
        move ! (1 ∷ 2 ∷ []) $ join ! $ frame ! $ nothing ! $ nothing ! $ fjoin ! $ nothing ! $ fjoin ! $ done !

    abbrev Had : List (Item 𝓤)
    Had = ‵ (hidden_shr (P E Z) κ handle rb ro) ∷ token_of ∷ rest ∷ []

    abbrev passed : List Val
    passed = vptr rb ro ∷ vint w64 count ∷ []

    -- the three parts, where the block b was taken
    module _ (b o : ℕ) where
      abbrev start : (StartRow E).Denot
      start = record { address = block_ptr b o }

      abbrev region : (RegionRow E).Denot
      region = record { of = record {}; first = block_ptr b o; places = replicate count None }

      abbrev right : (RightRow E Z).Denot
      right = record { of = record {}; first = block_ptr b o; count = count; from = handle }

      abbrev parts : (Made E Z).Denot
      parts = (start, region, right)

      abbrev parts_val : Val
      parts_val = vstruct (vcons (word (block_ptr b o)) (vcons no_bytes (vcons no_bytes vnil)))

    walk : (C : Calls 𝓤 H) (Λ : Loops 𝓤 H) → FmC 𝓤 H 𝓛.laws C → Triple 𝓤 (C (takes_key Z)) (Takes Z 𝓛 at_mem run) → y.0.0.1.1.0 ⊑ Z.row.lives → FitsInBlock (R E) count → count < 2 ^ 64
        → ent 𝓤 (⋆ 𝓛 Had) (WpFn 𝓤 H C Λ (function E Z) passed (Post y))
    walk C Λ fm callee lives asked fits =
        let w = width E in let small : count * w < 2 ^ 63 = asked.0 in let bytes : count * w < 2 ^ 64 = omega arith in
        let al : ℕ = capped (align (elτ E)) in let τ : Ty = block_ty E count in
        let z : (Takes Z 𝓛 at_mem run).Ghost = at_takes Z 𝓛 at_mem run κ y.0.1.0 (rb, ro) handle (count * w) al τ in
        qed 𝓛 Had ∵
        enter ! C Λ (function E Z) passed _ $ alloc_all ! (λ l. pass_all ! refl ((tt, tt), ((tt, record { fits = fits }), tt)) $
        let En : Env 𝓤 H = env (function E Z).locals l in
        let both : Body = head (after 2 (function E Z).body) in
        let Next : After 𝓤 H = any_q (after_seq 𝓤 H (Wp 𝓤 H C Λ En (after 3 (function E Z).body) (at_return 𝓤 H En (Post y))) (at_return 𝓤 H En (Post y))) in
        sets ! (is ! (bin ! (get ! refl) (size_word !) (record { fits = subst (λ (k : ℕ). k < 2 ^ 64) (sym (uncapped count w bytes)) bytes })) (ap (vint w64) (uncapped count w bytes))) refl (tt, record { fits = bytes }) $
        use2 𝓛 (raw ((Takes Z 𝓛 at_mem run).pre z))
        (Takes-goes Z 𝓛 at_mem run κ y.0.1.0 (rb, ro) handle (Incl-trans y.0.2.0 lives) (count * w) al τ (block_size E count bytes) (block_align E count) bytes (capped_fits (align (elτ E)))) $
        calls_at ! fm (Takes Z 𝓛 at_mem run) callee z (and_then ! (get ! refl) (and_then ! (get ! refl) (and_then ! (align_word !) (no_more !)))) (λ v.
        use1 𝓛 (later (raw (Answered Z 𝓛 at_mem run handle τ v) ⊛ token_of)) (Takes-gives Z 𝓛 at_mem run κ y.0.1.0 (rb, ro) handle (count * w) al τ v) $ await ! tt $ split ! $
        answers Z ! at_mem run handle τ v
        -- [the room; the right to free it; the tokens; the locals]
        (λ b o e.
        let p : Ptr = block_ptr b o in
        let good : Good (layout (Made E Z)) (parts_val b o) = (tt, ((tt, tt), ((tt, tt), ((tt, tt), tt)))) in
        let ok = first_Good (layout (Made E Z)) (parts_val b o) good in
        let small' : length (region b o).places * w < 2 ^ 63 = subst (λ k. k * w < 2 ^ 63) (sym (length-replicate count None)) small in
        lands_as ! e refl (Answer-typed true b o) $ first ! $ switches_on ! (get_tag ! (vrt ! refl (fld ! refl (stop !))) (whole !)) $ exec ! C Λ En (arm_body 0 both) Next $
        sets ! (of_opd ! (get_in ! (vrt ! refl (fld ! refl (stop !))) (in_variant ! 0 0 refl refl (whole !)))) refl (tt, tt) $
        sets ! (of_opd ! (get ! refl)) refl (tt, tt) $ sets ! (agg ! (and_then ! (get ! refl) (no_more !))) refl (word-Good [] p) $
        sets ! (agg ! (no_more !)) refl (tt, tt) $ sets ! (agg ! (and_then ! (get ! refl) (no_more !))) refl (tt, (tt, tt)) $
        sets ! (agg ! (no_more !)) refl (tt, tt) $ sets ! (agg ! (and_then ! (get ! refl) (no_more !))) refl (tt, (tt, tt)) $
        sets ! (agg ! (and_then ! (get ! refl) (and_then ! (get ! refl) (and_then ! (get ! refl) (no_more !))))) refl good $
        sets_last ! (agg ! (and_then ! (lit ! tt) (and_then ! (get ! refl) (no_more !)))) refl ok $
        exec ! C Λ En (after 3 (function E Z).body) (at_ret En (Post y)) $ sets ! (of_opd ! (get ! refl)) refl ok $
        -- the right, the region and the start are made, the last first
        move ! (1 ∷ []) $ use0 𝓛 (‵ ((Owner E).own_val (tt, tt) (no_bytes ∷ []))) (owner_made E 𝓛) $ fjoin ! $
        move ! (1 ∷ []) $ as_written ! (ty_array (elτ E) count) b o $ use1 𝓛 (‵ (owns_row (R E) b o (region b o).places)) (row_of_room E 𝓛 b count o) $
        flt_i ! (length (region b o).places * w) (2 ^ 63) small' $ fjoin ! $ use0 𝓛 (‵ ((Owner E).own_val (tt, tt) (no_bytes ∷ []))) (owner_made E 𝓛) $ fjoin ! $
        start_made ! p $
        use3 𝓛 (‵ ((Made E Z).own_val (parts b o) (parts_val b o ∷ []))) (three_made 𝓛 (StartRow E) (RegionRow E) (RightRow E Z) (parts b o) (word p) no_bytes no_bytes) $
        use1 𝓛 (‵ ((Out E Z).own_val (Ok (parts b o)) (live 0 (vcons (parts_val b o) vnil) ∷ []))) (ok_of 𝓛 (Made E Z) refusal.the_row (parts b o) (parts_val b o)) $
        returns ! (look_at ! 0 refl) $ free_all ! refl $ by ! (ends (Ok (parts b o)) (live 0 (vcons (parts_val b o) vnil)) (refl, refl, refl, refl, refl)))
        -- [the tokens; the locals]
        (λ e.
        let none : Val = live 1 (vcons (vstruct vnil) vnil) in
        lands_as ! e refl (Answer-typed false 0 0) $ first ! $ switches_on ! (get_tag ! (vrt ! refl (fld ! refl (stop !))) (whole !)) $ exec ! C Λ En (arm_body 1 both) Next $
        sets ! (of_opd ! (get_in ! (vrt ! refl (fld ! refl (stop !))) (in_variant ! 1 0 refl refl (whole !)))) refl (tt, tt) $
        sets_last ! (agg ! (and_then ! (lit ! tt) (and_then ! (get ! refl) (no_more !)))) refl (tt, (record { fits = lit< tt }, (tt, tt))) $
        exec ! C Λ En (after 3 (function E Z).body) (at_ret En (Post y)) $ sets ! (of_opd ! (get ! refl)) refl (tt, (record { fits = lit< tt }, (tt, tt))) $
        owned ! (Refusal E Z) (Is (Refusal E Z)) (Struct-Makes 𝓛 (Declared.shape refusal.the_type) tt) tt (vstruct vnil ∷ []) (tt, (refl, tt)) $
        use1 𝓛 (‵ ((Out E Z).own_val (Err (record {})) (none ∷ []))) (err_of 𝓛 (Made E Z) refusal.the_row (record {}) (vstruct vnil)) $
        returns ! (look_at ! 0 refl) $ free_all ! refl $ by ! (ends (Err (record {})) none tt))))

    entry : (C : Calls 𝓤 H) (Λ : Loops 𝓤 H) → FmC 𝓤 H 𝓛.laws C → Triple 𝓤 (C (takes_key Z)) (Takes Z 𝓛 at_mem run)
        → ent 𝓤 ((walk_of 𝓛 (signed E Z) (stayed E Z) clauses).pre y) (WpFn 𝓤 H C Λ (function E Z) ((walk_of 𝓛 (signed E Z) (stayed E Z) clauses).args y) (Post y))
    entry C Λ fm callee =
        let V = y.0.4 in
        qed 𝓛 (((token_of ⊛ rest) ⊛ ‵ (owns (ShrRef (named 0) κ (P E Z) ∷ usize ∷ []) y.0.3 V))
        ∷ (raw (fact 𝓤 (y.0.0.1.0 ⊑ E.row.lives)) ⊛ raw (fact 𝓤 (y.0.0.1.1.0 ⊑ Z.row.lives)) ⊛ raw (fact 𝓤 (FitsInBlock (R E) count))) ∷ []) ∵
        move ! (1 ∷ []) $ split ! $ drop ! $ split ! $ heard ! _ (λ lives. heard ! _ (λ asked. split ! $ split ! $ move ! (2 ∷ []) $
        fsplit ! $ fsplit ! $ feq_l ! (λ e₀. move ! (1 ∷ []) $ fsplit ! $ fsplit ! $ feq_l ! (λ e₁. flt_l ! (λ fits. drop ! $
        by ! (subst (λ (us : List Val × List Val). ent 𝓤 (⋆ 𝓛 Had) (WpFn 𝓤 H C Λ (function E Z) (us.0 ++ (us.1 ++ [])) (Post y)))
        (λ i. (sym e₀ i, sym e₁ i)) (walk C Λ fm callee lives asked fits)))))))

pub take_spec : {M : Type 1} → statement M
take_spec 𝓤 𝓛 𝓜 𝓡 wired X W LX LW g d drops met dropped =
    let E : El = record { row = X; laws = LX } in
    let Z : Al = record { row = W; laws = LW; g = g; d = d; drops = drops } in
    let 𝓣 = tables 𝓤 𝓛.H 𝓜 𝓡 𝓡.env in
    proved_at 𝓛 (signed E Z) (stayed E Z) (clauses E Z 𝓛 𝓜.mem 𝓡.returns) 𝓜 𝓡
    (Goes-dropped 𝓛 3 (RefOf (0 ∷ []) tt (plain (λ _. P E Z)) (λ _. tt)) yes (λ κs x u. refl), (Goes-dropped 𝓛 3 (plain (λ _. usize)) yes (λ κs x u. refl), tt))
    (f.Key.name (args E Z)) (function E Z) (code.unfolded 𝓤 𝓛.H 𝓜 𝓡 wired (X, (W, tt)) d drops)
    (λ y are. entry E Z 𝓛 𝓜.mem 𝓡.returns y 𝓣.C 𝓣.Λ (framed 𝓤 𝓛.H 𝓜 𝓣) (met.allocate drops))
