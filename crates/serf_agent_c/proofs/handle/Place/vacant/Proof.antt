-- The null address owns nothing.
use mathlib.Core.Path.{refl}
use mathlib.Core.List.{[], ◌∷◌}
use Rattle.serf_agent_c.proofs.Names.{proved, ftrue, emp, id⊢, tables, null_ptr, nothing, Stays, ends_at, says, alloc_all, free_all, look_at, pass_all, sets, !, done, fjoin, join, qed, raw, suffices, use0, use1, ‵, ◌$◌, ◌∵◌, ◌⊛◌, agg, and_then, enter, lit, no_more, returns}
use types.Kit.{drop}
use Rattle.std.specs.Prelude.{None}
use Rattle.serf_agent_c.proofs.Places.{Pointer, word, fits, pointer_made}
use Rattle.serf_agent_c.specs.contracts.handle.Place.{the_row}
use Rattle.serf_agent_c.specs.contracts.handle.Place.vacant as f
use Rattle.serf_agent_c.proofs.handle.Place.vacant.Statement.{statement}
use Rattle.serf_agent_c.proofs.handle.Place.vacant.Code as code

abbrev stayed : Stays f.ended.signature.params f.ended.kept
stayed = tt

pub vacant_spec : {M : Type 1} → statement M
vacant_spec 𝓤 𝓛 𝓜 𝓡 wired =
    let c = f.clauses 𝓛 𝓜.mem 𝓡.returns in
    let 𝓣 = tables 𝓤 𝓛.H 𝓜 𝓡 𝓡.env in
    proved 𝓛 f.ended stayed c 𝓜 𝓡 tt f.Key.name code.function (code.unfolded 𝓤 𝓛.H 𝓜 𝓡 wired) (λ κs. tt) (λ κs. tt) (λ κs qs bounds a g are.
    let there : the_row.Denot = record { at = null_ptr; value = None } in
    qed 𝓛 ((‵ ftrue ⊛ ‵ ftrue) ∷ raw (emp 𝓤) ∷ []) ∵ drop ! $ drop ! $
    enter ! 𝓣.C 𝓣.Λ code.function [] _ $ alloc_all ! (λ l. pass_all ! refl tt $
    sets ! (agg ! (and_then ! (lit ! tt) (no_more !))) refl (fits 𝓛 null_ptr) $
    returns ! (look_at ! 0 refl) $ free_all ! refl $
    suffices ! _ (ends_at 𝓛 f.ended stayed c ((κs, qs, bounds, a, tt), g) (word null_ptr) there tt tt) $ says ! refl $
    nothing ! $ use0 𝓛 (‵ (Pointer.own_val (null_ptr, tt) (word null_ptr ∷ []))) (pointer_made 𝓛 null_ptr) $ fjoin ! $
    use1 𝓛 (‵ (the_row.own_val there (word null_ptr ∷ []))) (id⊢ 𝓤 _) $ nothing ! $ join ! $ nothing ! $ join ! $ done !))
