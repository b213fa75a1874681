-- The text that one more turn adds.
use Rattle.serf_schedule.proofs.Names.{List, [], ap, append_assoc, arith, length, length-append, refl, sym, ℕ, ◌++◌, ◌+◌, ◌∙◌, ◌∷◌, ◌≡◌, append-nil, length-map, map-append, fold_push, fold, Config, Run, after, run_of, start, step, Turn, Action, Line, TakesStep, WorldState, actions_text, action_text, tells_trace}
use Rattle.std.specs.Prelude.{map}
use Rattle.serf_schedule.proofs.ShownLaws.{actions-push, line-stays, sends}

abbrev shown : Run → List ℕ
shown r = actions_text r.cluster.sent 1 (map (λ t. t.line) r.turns)

-- packets that are sent later don't change a line
record IsStable (r : Run) : Type 0 where
  same : (more : List (List ℕ)) → actions_text (r.cluster.sent ++ more) 1 (map (λ t. t.line) r.turns) ≡ shown r

pushed : (r : Run) (a : Action) → IsStable r → (more : List (List ℕ))
    → actions_text ((step r.cluster a).cluster.sent ++ more) 1 (map (λ t. t.line) (after r a).turns) ≡ shown r ++ action_text (step r.cluster a).cluster.sent (length r.turns + 1) (step r.cluster a).turn.line
pushed r a h more =
    let turn : Turn = (step r.cluster a).turn in
    let lines : List Line = map (λ t. t.line) r.turns in
    let sent : List (List ℕ) = (step r.cluster a).cluster.sent in
    let long = length-map r.turns (λ (t : Turn). t.line) in
    let place : 1 + length lines ≡ length r.turns + 1 = omega (arith, long) in
    ap (λ ls. actions_text (sent ++ more) 1 ls) (map-append (λ (t : Turn). t.line) r.turns (turn ∷ []))
    ∙ actions-push (sent ++ more) 1 lines turn.line
    ∙ ap (λ s. actions_text s 1 lines ++ action_text (sent ++ more) (1 + length lines) turn.line) (ap (λ s. s ++ more) ((sends r.cluster a).sent) ∙ append_assoc r.cluster.sent turn.packets more)
    ∙ ap (λ t. t ++ action_text (sent ++ more) (1 + length lines) turn.line) (h.same (turn.packets ++ more))
    ∙ ap (λ t. shown r ++ t) (ap (λ m. action_text (sent ++ more) m turn.line) place ∙ line-stays r.cluster a (length r.turns + 1) more)

shown-more : (r : Run) (a : Action) → IsStable r → shown (after r a) ≡ shown r ++ action_text (step r.cluster a).cluster.sent (length r.turns + 1) (step r.cluster a).turn.line
shown-more r a h = ap (λ s. actions_text s 1 (map (λ t. t.line) (after r a).turns)) (sym (append-nil (step r.cluster a).cluster.sent)) ∙ pushed r a h []

stable-after : (r : Run) (a : Action) → IsStable r → IsStable (after r a)
stable-after r a h = record { same = λ more. pushed r a h more ∙ sym (shown-more r a h) }

stable-all : (r : Run) (actions : List Action) → IsStable r → IsStable (fold after r actions)
stable-all r [] h = h
stable-all r (a ∷ more) h = stable-all (after r a) more (stable-after r a h)

turns-more : (r : Run) (actions : List Action) → length (fold after r actions).turns ≡ length r.turns + length actions
turns-more r [] = omega arith
turns-more r (a ∷ more) =
    let one = length-append r.turns ((step r.cluster a).turn ∷ []) in
    let rest = turns-more (after r a) more in
    omega (arith, one, rest)

pub tells-more : (configs : List Config) (done : List Action) (a : Action) (w : WorldState) (line : Line) (number : ℕ) (old : List ℕ) → tells_trace configs done old → TakesStep (step (run_of configs done).cluster a) w line → number ≡ length done + 1
    → tells_trace configs (done ++ a ∷ []) (old ++ action_text w.sent number line)
tells-more configs done a w line number old told took counted =
    let r : Run = run_of configs done in
    let next : after r a ≡ run_of configs (done ++ a ∷ []) = sym (fold_push after (start configs) done a) in
    let all = turns-more (start configs) done in
    let place : number ≡ length r.turns + 1 = omega (arith, all, counted) in
    ap (λ s. old ++ action_text s number line) (sym took.view.sent) ∙ ap (λ n. old ++ action_text (step r.cluster a).cluster.sent n line) place
    ∙ ap (λ (x : Line). old ++ action_text (step r.cluster a).cluster.sent (length r.turns + 1) x) took.line_is
    ∙ ap (λ t. t ++ action_text (step r.cluster a).cluster.sent (length r.turns + 1) (step r.cluster a).turn.line) told
    ∙ sym (shown-more r a (stable-all (start configs) done (record { same = λ more. refl })))
    ∙ ap (λ (q : Run). shown q) next
