-- One step of marking an event as begun: the element at an index is marked.
use Rattle.serf_snapshot.proofs.Names.{List, [], ap, arith, drop, drop_more, get_or, length, sym, take, ℕ, ◌++◌, ◌+◌, ◌<◌, ◌∙◌, ◌∷◌, ◌≡◌, common_steps, TimedEvent}
use Rattle.std.proofs.Common.{set}
use Rattle.std.proofs.lemmas.List.{map-append, take_more, take_more_set, drop-set}
use Rattle.serf_snapshot.specs.Handlers.{mark_begun, mark_begun_if}
use Rattle.serf_snapshot.specs.declared.handlers.OpenEvent.{OpenEvent}

pub begun-step : (e : TimedEvent) (xs ys : List OpenEvent) (i : ℕ) (d new : OpenEvent) → i < length xs → i < length ys → take i xs ≡ mark_begun e (take i ys) → drop i xs ≡ drop i ys → new ≡ mark_begun_if e (get_or xs i d)
    → (take (i + 1) (set xs i new) ≡ mark_begun e (take (i + 1) ys)) × (drop (i + 1) (set xs i new) ≡ drop (i + 1) ys)
begun-step e xs ys i d new in_xs in_ys front back is =
    let parts : get_or xs i d ∷ drop (i + 1) xs ≡ get_or ys i d ∷ drop (i + 1) ys = sym (drop_more xs i d in_xs) ∙ back ∙ drop_more ys i d in_ys in
    let here : get_or xs i d ≡ get_or ys i d = cc in
    let rest : drop (i + 1) xs ≡ drop (i + 1) ys = cc in
    let in_set : i < length (set xs i new) = grind (arith, common_steps) in
    let split : get_or (set xs i new) i d ∷ drop (i + 1) (set xs i new) ≡ new ∷ drop (i + 1) xs = sym (drop_more (set xs i new) i d in_set) ∙ drop-set xs i new in_xs in
    let after : drop (i + 1) (set xs i new) ≡ drop (i + 1) xs = cc in (
      take_more_set xs i new in_xs
          ∙ ap (λ (l : List OpenEvent). l ++ new ∷ []) front
          ∙ ap (λ (o : OpenEvent). mark_begun e (take i ys) ++ o ∷ []) (is ∙ ap (mark_begun_if e) here)
          ∙ sym (map-append (mark_begun_if e) (take i ys) (get_or ys i d ∷ []))
          ∙ ap (mark_begun e) (sym (take_more ys i d in_ys)),
      after ∙ rest,
    )
