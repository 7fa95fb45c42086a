-- A `&` to a region of words tells that they are words. No code runs.
use Rattle.std.proofs.Common.{ℕ, List, [], ◌∷◌, ◌++◌, refl, sym, subst}
use Rattle.std.proofs.raw_atomic.Walks.{proved_at}
use seplogic.Ra.Ura.{Ura}
use base.Logic.{SProp, ent, emp}
use base.Fml.{Lft, flft, ftrue}
use mir.Syntax.{named}
use mir.Val.{Val, vptr, vunit}
use prog.Memory.{Memory}
use prog.Routine.{Routine}
use prog.Wp.{Calls, Env, Loops, WpFn}
use contract.Monad.{Fun, fact}
use contract.Running.{tables}
use types.ByLocal.{alloc_all, pass_all, free_all, look_at, sets, env}
use types.Kit.{Item, ⋆, ‵, raw, ◌⊛◌, ◌$◌, ◌∵◌, !, qed, by, move, keep, use1, split, fsplit, fjoin, feq_i, feq_l, suffices, frame, done}
use types.Logic.{Logic}
use types.Run.{of_opd, unit_lit, returns, enter}
use denote.Builtin.{RefOf, u32}
use denote.Exit.{yes}
use denote.Memory.{hidden_shr}
use denote.Opens.{unhide}
use denote.RattleType.{RattleType, owns}
use denote.Ref.{ShrRef}
use denote.Signature.{plain}
use denote.Steps.{nothing, heard}
use denote.Triple.Clauses.{Clauses}
use denote.Triple.Walked.{says, Stays, stay_dropped, walk_of, ends_at, Goes-dropped}
use Rattle.node_pool.specs.Places.{AllHold}
use Rattle.node_pool.proofs.Words.{IsWord, region_tells}
use Rattle.node_pool.specs.contracts.region.Region as region
use Rattle.node_pool.specs.contracts.region.Region+u32.word_laws as f
use Rattle.node_pool.proofs.region.Region+u32.word_laws.Statement.{statement}
use Rattle.node_pool.proofs.region.Region+u32.word_laws.Code as code

abbrev RegionRow : RattleType
RegionRow = region.the_row u32

abbrev stayed : Stays f.ended.signature.params f.ended.kept
stayed = (stay_dropped (RefOf (0 ∷ []) tt (plain (λ _. RegionRow)) (λ _. tt)) yes, tt)

module _ {M : Type 1} {𝓤 : Ura M} (𝓛 : Logic 𝓤) (at_mem : Memory → SProp 𝓤) (run : Routine → Fun 𝓤) where
  open 𝓛 use {H}

  abbrev clauses : Clauses 𝓤 f.ended
  clauses = f.clauses 𝓛 at_mem run

  abbrev Bound : Type 0
  Bound = (walk_of 𝓛 f.ended stayed clauses).Ghost

  abbrev Post : Bound → Val → SProp 𝓤
  Post = (walk_of 𝓛 f.ended stayed clauses).post

  module _ (y : Bound) where
    abbrev κ : Lft
    κ = y.0.0.0

    abbrev d : RegionRow.Denot
    d = y.0.3.0.now

    abbrev tokens : Item 𝓤
    tokens = ‵ (flft κ y.0.1.0) ⊛ ‵ ftrue

    abbrev rb : ℕ
    rb = y.0.3.0.ref_ptr.0

    abbrev ro : ℕ
    ro = y.0.3.0.ref_ptr.1

    ends : AllHold IsWord d.places → ent 𝓤 (⋆ 𝓛 (tokens ∷ [])) (Post y vunit)
    ends are =
        qed 𝓛 (tokens ∷ []) ∵
        suffices ! _ (ends_at 𝓛 f.ended stayed clauses y vunit tt (tt, tt) (tt, tt)) $ says ! are $
        frame ! $ nothing ! $ nothing ! $ fjoin ! $ frame ! $ feq_i ! (List Val) (vunit ∷ []) (vunit ∷ []) refl $ done !

    walk : (C : Calls 𝓤 H) (Λ : Loops 𝓤 H)
        → ent 𝓤 (⋆ 𝓛 (‵ (hidden_shr RegionRow κ d rb ro) ∷ tokens ∷ [])) (WpFn 𝓤 H C Λ code.function (vptr rb ro ∷ []) (Post y))
    walk C Λ =
        qed 𝓛 (‵ (hidden_shr RegionRow κ d rb ro) ∷ tokens ∷ []) ∵
        unhide ! $ use1 𝓛 (raw (fact 𝓤 (AllHold IsWord d.places))) ((region_tells d rb ro κ).go M 𝓤 𝓛) $ heard ! _ (λ are.
        enter ! C Λ code.function (vptr rb ro ∷ []) _ $
        alloc_all ! (λ l. pass_all ! refl ((tt, tt), tt) $
        let En : Env 𝓤 H = env code.function.locals l in
        sets ! (of_opd ! (unit_lit !)) refl (tt, tt) $
        returns ! (look_at ! 0 refl) $ free_all ! refl $ by ! (ends are)))

    entry : (C : Calls 𝓤 H) (Λ : Loops 𝓤 H) → ent 𝓤 ((walk_of 𝓛 f.ended stayed clauses).pre y)
        (WpFn 𝓤 H C Λ code.function ((walk_of 𝓛 f.ended stayed clauses).args y) (Post y))
    entry C Λ =
        let V = y.0.4 in
        qed 𝓛 ((tokens ⊛ ‵ (owns (ShrRef (named 0) κ RegionRow ∷ []) y.0.3 V)) ∷ raw (emp 𝓤) ∷ []) ∵
        split ! $ move ! (1 ∷ []) $ fsplit ! $ fsplit ! $ feq_l ! (λ e. keep ! (0 ∷ 2 ∷ []) $
        by ! (subst (λ (us : List Val). ent 𝓤 (⋆ 𝓛 (‵ (hidden_shr RegionRow κ d rb ro) ∷ tokens ∷ [])) (WpFn 𝓤 H C Λ code.function (us ++ []) (Post y))) (sym e) (walk C Λ)))

pub word_laws_spec : {M : Type 1} → statement M
word_laws_spec 𝓤 𝓛 𝓜 𝓡 wired =
    proved_at 𝓛 f.ended stayed (clauses 𝓛 𝓜.mem 𝓡.returns) 𝓜 𝓡
    (Goes-dropped 𝓛 1 (RefOf (0 ∷ []) tt (plain (λ _. RegionRow)) (λ _. tt)) yes (λ κs x w. refl), tt)
    f.Key.name code.function (code.unfolded 𝓤 𝓛.H 𝓜 𝓡 wired)
    (λ y are. entry 𝓛 𝓜.mem 𝓡.returns y (tables 𝓤 𝓛.H 𝓜 𝓡 𝓡.env).C (tables 𝓤 𝓛.H 𝓜 𝓡 𝓡.env).Λ)
