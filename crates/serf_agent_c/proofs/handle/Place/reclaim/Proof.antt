-- The place gives up its right, and a box gets it.
use mathlib.Core.Path.{◌≡◌, refl, sym, ap, ◌∙◌}
use mathlib.Core.List.{List, [], ◌∷◌, ◌++◌}
use Rattle.serf_agent_c.proofs.Names.{one, proved_at, IsSome, met, passed, flft, fsep, ftrue, full_share, SProp, emp, id⊢, ◌⊑◌, fact, fact_i, tables, shows, layout, param, glues, ptr_val, plain, heard, nothing, peeks, calls_at_last, Lasts, lasts, alive, triple_of, framed, Goes-dropped, Stays, ends_at, says, stay_dropped, walk_of, Val, WpFn, alloc_all, env, free_all, get, get_in, lands_last, look_at, pass_all, sets, !, at_ret, await, done, feq_i, fjoin, fsplit, join, later, move, pick, prop, qed, raw, regoal, rewrite, some, split, suffices, use0, use1, ‵, ◌$◌, ◌∵◌, ◌⊛◌, sub, whole, and_then, blocks, enter, exec, first, fld, no_more, of_opd, returns, stop}
use types.Kit.{drop}
use Rattle.std.specs.Prelude.{Option, Some}
use Rattle.std_alloc.specs.contracts.boxed.Box as Box
use Rattle.std_alloc.specs.contracts.boxed.Box.from_raw as g
use Rattle.std_heap.specs.contracts.Global as Heap
use Rattle.std_heap.specs.contracts.GlobalAllocator.TheImpl.{ghosts, dict}
use Rattle.std_heap.proofs.Global.TheLaws as heap
use Rattle.serf_agent_c.proofs.session.Session.TheLaws as session
use Rattle.serf_agent_c.proofs.Destruct++none.drop.Code as no_drop
use Rattle.serf_agent_c.proofs.Places.{no_glue, Held, held_laws, Freed, freed_laws, Boxed, boxed_laws, pointer_fits, fits, word, found}
use Rattle.serf_agent_c.specs.contracts.handle.Place.{the_row}
use Rattle.serf_agent_c.proofs.handle.Place.TheLaws.{lowers}
use Rattle.serf_agent_c.specs.contracts.handle.Place.reclaim as f
use Rattle.serf_agent_c.proofs.handle.Place.reclaim.Statement.{statement}
use Rattle.serf_agent_c.proofs.handle.Place.reclaim.Code as code

abbrev stayed : Stays f.ended.signature.params f.ended.kept
stayed = (stay_dropped _ f.ended.kept.0, (stay_dropped _ f.ended.kept.1.0, tt))

pub reclaim_spec : {M : Type 1} → statement M
unfolding no_drop.code
reclaim_spec {M} 𝓤 𝓛 𝓜 𝓡 wired =
    let c = f.clauses 𝓛 𝓜.mem 𝓡.returns in
    let 𝓣 = tables 𝓤 𝓛.H 𝓜 𝓡 𝓡.env in
    let G = triple_of 𝓛 (g.signature Held Freed ghosts dict no_glue) (g.spec Held Freed ghosts dict no_glue 𝓛 𝓜.mem 𝓡.returns) in
    let kept = met 𝓤 𝓛 𝓜 𝓡 (code.calls-std_alloc::boxed::Box::from_raw 𝓡.env wired) Held Freed held_laws freed_laws ghosts dict no_glue
    (passed 𝓡.env (code.calls-std_heap::GlobalAllocator::allocate 𝓡.env wired) (code.calls-std_heap::GlobalAllocator::deallocate 𝓡.env wired)
    (code.calls-std_heap::GlobalAllocator::grow 𝓡.env wired) (code.calls-std_heap::GlobalAllocator::shrink 𝓡.env wired) M 𝓤 𝓛 𝓜 𝓡)
    (glues "serf_agent_c::Destruct++none::drop" 𝓡.env (code.calls-serf_agent_c::Destruct++none::drop 𝓡.env wired) Freed freed_laws M 𝓤 𝓛 𝓜 𝓡) in
    proved_at 𝓛 f.ended stayed c 𝓜 𝓡 (Goes-dropped 𝓛 0 (plain (λ κs. the_row)) f.ended.kept.0 (λ κs x w. refl), (Goes-dropped 𝓛 0 (plain (λ κs. Heap.the_row)) f.ended.kept.1.0 (λ κs x w. refl), tt))
    f.Key.name code.function (code.unfolded 𝓤 𝓛.H 𝓜 𝓡 wired) (λ y are.
    let h = y.0.3.0 in
    let a = y.0.3.1.0 in
    let Post : Val → SProp 𝓤 = (walk_of 𝓛 f.ended stayed c).post y in
    let words : y.0.4.0 ≡ word h.at ∷ [] = lowers.val_is h y.0.4.0 are.0 in
    let bits = one (layout Heap.the_row) y.0.4.1.0 ((heap.the_row_laws.lawful 𝓛).typed a y.0.4.1.0 are.1.0) in
    let lives : SProp 𝓤 = fact 𝓤 ([] ⊑ Held.lives) in
    let heap_lives : SProp 𝓤 = fact 𝓤 ([] ⊑ Freed.lives) in
    qed 𝓛 ((raw (alive 𝓛 f.signature y.0.0 y.0.1) ⊛ ‵ (fsep (the_row.own_val h y.0.4.0) (fsep (Heap.the_row.own_val a y.0.4.1.0) ftrue))) ∷ raw (fact 𝓤 (IsSome h.value)) ∷ []) ∵
    move ! (1 ∷ []) $ heard ! (IsSome h.value) (λ some_there. split ! $ drop ! $ fsplit ! $
    let there = found h.value some_there in
    let x = there.0 in
    let z : G.Ghost = ((([], ([], tt)), (full_share, (full_share, tt)), tt, (a, (h.at, tt)), (bits.0 ∷ [], (ptr_val h.at ∷ [], tt))), x) in
    rewrite ! 0 (λ (o : Option Held.Denot). ‵ (the_row.own_val (record h { value = o }) y.0.4.0)) there.1 refl $ fsplit ! $ drop ! $
    use0 𝓛 (raw heap_lives) (fact_i 𝓤 _ (emp 𝓤) (heap.the_within [])) $ join ! $ use0 𝓛 (raw lives) (fact_i 𝓤 _ (emp 𝓤) (session.the_within [])) $ join ! $
    -- [what the call requires; what the heap owns]
    move ! (1 ∷ []) $ fsplit ! $ rewrite ! 0 (λ (vs : List Val). ‵ (Heap.the_row.own_val a vs)) bits.1 refl $
    move ! (1 ∷ []) $ feq_i ! (List Val) (ptr_val h.at ∷ []) (ptr_val h.at ∷ []) refl $ fjoin ! $ move ! (1 ∷ 0 ∷ []) $ fjoin ! $
    nothing ! $ use0 𝓛 (‵ (flft [] full_share)) (𝓛.lfts.lft-nil full_share) $ join ! $ use0 𝓛 (‵ (flft [] full_share)) (𝓛.lfts.lft-nil full_share) $ join ! $ join ! $ join ! $
    use1 𝓛 (raw (G.pre z)) (id⊢ 𝓤 _) $
    regoal ! (λ (vs : List Val). prop (WpFn 𝓤 𝓛.H 𝓣.C 𝓣.Λ code.function vs Post)) (λ i. words i ++ (bits.1 i ++ [])) refl $
    enter ! 𝓣.C 𝓣.Λ code.function (word h.at ∷ bits.0 ∷ []) Post $ alloc_all ! (λ l. pass_all ! refl (fits 𝓛 h.at, (bits.2, tt)) $
    first ! $ blocks ! $ sets ! (of_opd ! (get_in ! (fld ! refl (stop !)) (sub ! 0 refl (whole !)))) refl (pointer_fits 𝓛 h.at) $
    calls_at_last ! (framed 𝓤 𝓛.H 𝓜 𝓣) G kept z (and_then ! (get ! refl) (and_then ! (get ! refl) (no_more !))) (λ v.
    let En = g.ended Held Freed ghosts dict no_glue in
    let Out = Box.the_row (param 0 Held) (param 1 Freed) ghosts in
    use1 𝓛 (later (some (λ (r : Boxed.Denot). ((‵ (flft [] full_share) ⊛ ‵ (flft [] full_share) ⊛ ‵ ftrue) ⊛ ‵ (Boxed.own_val r (v ∷ []))) ⊛
    some (λ (ws : Lasts En z.0.0 z.0.3). ‵ (lasts En z.0.0 z.0.3 ws) ⊛ (raw (fact 𝓤 (r.value ≡ x)) ⊛ raw (fact 𝓤 (r.alloc ≡ a))))))) (id⊢ 𝓤 _) $
    await ! tt $ pick ! (λ r. split ! $ split ! $ drop ! $ peeks ! Boxed _ (shows 𝓛 Boxed) r (v ∷ []) (λ is. move ! (1 ∷ []) $ pick ! (λ ws. split ! $ drop ! $ split ! $ heard ! (r.value ≡ x) (λ same. drop ! $
    let good = ((boxed_laws.lawful 𝓛).typed r (v ∷ []) is).0 in
    lands_last ! refl good $ exec ! 𝓣.C 𝓣.Λ (env code.Mir.locals l) code.Mir.t-2 (at_ret _ Post) $
    sets ! (of_opd ! (get ! refl)) refl good $ returns ! (look_at ! 0 refl) $ free_all ! refl $
    suffices ! _ (ends_at 𝓛 f.ended stayed c y v r (tt, (tt, tt)) (tt, (tt, tt))) $ says ! (there.1 ∙ ap (λ (s : Held.Denot). Some s) (sym same)) $
    nothing ! $ nothing ! $ join ! $ nothing ! $ join ! $ nothing ! $ done !))))))))
