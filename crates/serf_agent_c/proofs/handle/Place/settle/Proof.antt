-- The block of a box stays at its address, and the place gets the right to it.
use mathlib.Core.Path.{refl, ap}
use mathlib.Core.List.{List, [], ◌∷◌, ◌++◌}
use Rattle.serf_agent_c.proofs.Names.{one, proved_at, box_owns, passed, flft, fsep, ftrue, full_share, SProp, emp, id⊢, ◌⊑◌, fact, fact_i, tables, layout, param, glues, Ptr, RawPtr, plain, nothing, only, calls_at, Lasts, lasts, alive, triple_of, framed, Goes-dropped, Stays, ends_at, says, stay_dropped, walk_of, Val, WpFn, alloc_all, free_all, get, lands_as, look_at, pass_all, sets, !, await, done, feq_l, fjoin, fsplit, join, later, move, pick, prop, qed, raw, regoal, rewrite, some, split, suffices, use0, use1, ‵, ◌$◌, ◌∵◌, ◌⊛◌, agg, and_then, enter, no_more, of_opd, returns}
use types.Kit.{drop}
use Rattle.std.specs.Prelude.{Some}
use Rattle.std_alloc.specs.contracts.boxed.Box.into_raw as g
use Rattle.std_alloc.proofs.boxed.Box.into_raw.Met.{met}
use Rattle.std_heap.specs.contracts.GlobalAllocator.TheImpl.{ghosts, dict}
use Rattle.std_heap.proofs.Global.TheLaws as heap
use Rattle.serf_agent_c.proofs.session.Session.TheLaws as session
use Rattle.serf_agent_c.proofs.Destruct++none.drop.Code as no_drop
use Rattle.serf_agent_c.proofs.Places.{no_glue, Held, held_laws, Freed, freed_laws, Boxed, boxed_laws, Pointer, glue, goes, pointer_made, pointer_fits, fits, word}
use Rattle.serf_agent_c.specs.contracts.handle.Place.{the_row}
use Rattle.serf_agent_c.specs.contracts.handle.Place.settle as f
use Rattle.serf_agent_c.proofs.handle.Place.settle.Statement.{statement}
use Rattle.serf_agent_c.proofs.handle.Place.settle.Code as code

abbrev stayed : Stays f.ended.signature.params f.ended.kept
stayed = (stay_dropped _ f.ended.kept.0, tt)

pub settle_spec : {M : Type 1} → statement M
unfolding no_drop.code
settle_spec {M} 𝓤 𝓛 𝓜 𝓡 wired =
    let c = f.clauses 𝓛 𝓜.mem 𝓡.returns in
    let 𝓣 = tables 𝓤 𝓛.H 𝓜 𝓡 𝓡.env in
    let G = triple_of 𝓛 (g.signature Held Freed ghosts dict no_glue glue) (g.spec Held Freed ghosts dict no_glue glue 𝓛 𝓜.mem 𝓡.returns) in
    let kept = met 𝓤 𝓛 𝓜 𝓡 (code.calls-std_alloc::boxed::Box::into_raw 𝓡.env wired) Held Freed held_laws freed_laws ghosts dict no_glue glue
    (passed 𝓡.env (code.calls-std_heap::GlobalAllocator::allocate 𝓡.env wired) (code.calls-std_heap::GlobalAllocator::deallocate 𝓡.env wired)
    (code.calls-std_heap::GlobalAllocator::grow 𝓡.env wired) (code.calls-std_heap::GlobalAllocator::shrink 𝓡.env wired) M 𝓤 𝓛 𝓜 𝓡)
    (glues "serf_agent_c::Destruct++none::drop" 𝓡.env (code.calls-serf_agent_c::Destruct++none::drop 𝓡.env wired) Freed freed_laws M 𝓤 𝓛 𝓜 𝓡)
    (goes 𝓤 𝓛 𝓜 𝓡 (code.calls-serf_agent_c::serf_agent_c++session++Session+Destruct::drop 𝓡.env wired)) in
    proved_at 𝓛 f.ended stayed c 𝓜 𝓡 (Goes-dropped 𝓛 0 (plain (λ κs. Boxed)) f.ended.kept.0 (λ κs x w. refl), tt)
    f.Key.name code.function (code.unfolded 𝓤 𝓛.H 𝓜 𝓡 wired) (λ y are.
    let x = y.0.3.0 in
    let Post : Val → SProp 𝓤 = (walk_of 𝓛 f.ended stayed c).post y in
    let bits = one (layout Boxed) y.0.4.0 ((boxed_laws.lawful 𝓛).typed x y.0.4.0 are.0) in
    let z : G.Ghost = ((([], ([], tt)), (full_share, (full_share, tt)), tt, (x, tt), (bits.0 ∷ [], tt)), tt) in
    let lives : SProp 𝓤 = fact 𝓤 ([] ⊑ Held.lives) in
    let heap_lives : SProp 𝓤 = fact 𝓤 ([] ⊑ Freed.lives) in
    qed 𝓛 ((raw (alive 𝓛 f.signature y.0.0 y.0.1) ⊛ ‵ (fsep (Boxed.own_val x y.0.4.0) ftrue)) ∷ raw (emp 𝓤) ∷ []) ∵ split ! $ drop ! $ fsplit ! $
    rewrite ! 0 (λ (vs : List Val). ‵ (Boxed.own_val x vs)) bits.1 refl $ fjoin ! $
    nothing ! $ use0 𝓛 (‵ (flft [] full_share)) (𝓛.lfts.lft-nil full_share) $ join ! $ use0 𝓛 (‵ (flft [] full_share)) (𝓛.lfts.lft-nil full_share) $ join ! $ join ! $
    nothing ! $ use0 𝓛 (raw heap_lives) (fact_i 𝓤 _ (emp 𝓤) (heap.the_within [])) $ join ! $ use0 𝓛 (raw lives) (fact_i 𝓤 _ (emp 𝓤) (session.the_within [])) $ join ! $
    move ! (1 ∷ 0 ∷ []) $ join ! $ use1 𝓛 (raw (G.pre z)) (id⊢ 𝓤 _) $ move ! (1 ∷ []) $ drop ! $
    regoal ! (λ (vs : List Val). prop (WpFn 𝓤 𝓛.H 𝓣.C 𝓣.Λ code.function vs Post)) (λ i. bits.1 i ++ []) refl $
    enter ! 𝓣.C 𝓣.Λ code.function (bits.0 ∷ []) Post $ alloc_all ! (λ l. pass_all ! refl (bits.2, tt) $
    sets ! (of_opd ! (get ! refl)) refl bits.2 $
    calls_at ! (framed 𝓤 𝓛.H 𝓜 𝓣) G kept z (and_then ! (get ! refl) (no_more !)) (λ v.
    let En = g.ended Held Freed ghosts dict no_glue glue in
    use1 𝓛 (later (some (λ (p : Ptr). ((‵ (flft [] full_share) ⊛ ‵ (flft [] full_share) ⊛ ‵ ftrue) ⊛ ‵ (RawPtr.own_val p (v ∷ []))) ⊛
    some (λ (ws : Lasts En z.0.0 z.0.3). ‵ (lasts En z.0.0 z.0.3 ws) ⊛ ‵ (box_owns (ghosts.dealloc_token x.alloc) (param 0 Held) p x.value))))) (id⊢ 𝓤 _) $
    await ! tt $ pick ! (λ p. split ! $ split ! $ drop ! $ feq_l ! (λ is. pick ! (λ ws. split ! $ drop ! $
    let there : the_row.Denot = record { at = p; value = Some x.value } in
    lands_as ! (ap only is) refl (pointer_fits 𝓛 p) $
    sets ! (of_opd ! (get ! refl)) refl (pointer_fits 𝓛 p) $
    sets ! (agg ! (and_then ! (get ! refl) (no_more !))) refl (fits 𝓛 p) $
    returns ! (look_at ! 0 refl) $ free_all ! refl $
    suffices ! _ (ends_at 𝓛 f.ended stayed c y (word p) there (tt, tt) (tt, tt)) $ says ! refl $
    use0 𝓛 (‵ (Pointer.own_val (p, tt) (word p ∷ []))) (pointer_made 𝓛 p) $ fjoin ! $ use1 𝓛 (‵ (the_row.own_val there (word p ∷ []))) (id⊢ 𝓤 _) $
    nothing ! $ nothing ! $ join ! $ nothing ! $ done !))))))
