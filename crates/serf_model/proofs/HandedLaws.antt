-- A query is handed to an agent at most once, in the turn in which it enters.
use Rattle.serf_model.proofs.Names.{Bool, List, None, Option, Some, [], ap, arith, cond, false, inl, inr, length, map, refl, subst, sym, true, ℕ, ◌++◌, ◌==◌, ◌∙◌, ◌∷◌, ◌≡◌, ◌≢◌, ◌⊎◌, map-append, All-nil, filter-append, filter, flat_map, option_map, option_to_list, AllPairs, Contains, Query, TimedEntry, DeliveredQuery, all_pass, handed_if_passed, handed_query, Config, Below, Applied, Cluster, Done, IdealNode, Run, after, applied, apply, handed_line, step, Turn, entered_by, given_by, handed_in, queries_at, queries_to, query_brought, Act, Action, Of, QueryLine}
use Rattle.serf_model.proofs.Effects.{Effect, asks, effect, is_asked, as_message}
use Rattle.serf_model.proofs.StepCases.{step-cases}
use Rattle.serf_model.proofs.TurnLaws.{flat_map-push}
use Rattle.serf_model.proofs.OnceLaws.{query-once}
use Rattle.serf_model.proofs.RunLaws.{CanTellIt, IsAfter, added, after-step, by-push}
use Rattle.serf_model.proofs.Within.{IsWithin, within-more}

abbrev pub only_query : ℕ → ℕ → List (TimedEntry ℕ)
only_query t id = record { time = t; key = id } ∷ []

-- a query that an action hands out is exactly the one that entered
abbrev pub Hands : Action → Option (List ℕ) → Done → Type 0
Hands action given done = (q : DeliveredQuery) → done.handed ≡ Some q → entered_by action given done.answer ≡ only_query q.time q.id

passed : (tags : Bool) (config : Config) (now : ℕ) (q : Query) (h : DeliveredQuery) → handed_if_passed tags config now q ≡ Some h → only_query q.time q.id ≡ only_query h.time h.id
passed tags config now q h e = by (all_pass tags q.filters config.name) e
  where
    by : (b : Bool) → cond b (Some (handed_query config now q)) None ≡ Some h → only_query q.time q.id ≡ only_query h.time h.id
    by true e = let same : handed_query config now q ≡ h = cc e in ap (λ (x : DeliveredQuery). only_query x.time x.id) same
    by false e = absurd (cc e)

hands-effect : (m : IdealNode) (action : Action) (given : Option (List ℕ)) (o : Applied) → Effect m action given o → Hands action given o.done
hands-effect m action given o (asks agent q may) = λ h e. passed q.params.tags_pass m.agent.config q.moment (as_message m q) h e
hands-effect m action given o (is_asked to number packet now q is new) = λ h e. ap query_brought is ∙ passed false m.agent.config now q h e
hands-effect m action given o _ = λ h e. absurd (cc e)

pub hands-apply : Below → (m : IdealNode) (sent : List (List ℕ)) (a : ℕ) (act : Act) → Hands (Of a act) (given_by sent act) (apply m sent act).done
hands-apply lower m sent a act = hands-effect m (Of a act) (given_by sent act) (apply m sent act) (effect lower m sent a act)

-- ---- a step

abbrev mine : ℕ → QueryLine → Bool
mine a h = h.agent == a

queries_to-push : (a : ℕ) (turns : List Turn) (turn : Turn) → queries_to a (turns ++ turn ∷ []) ≡ queries_to a turns ++ map handed_in (filter (mine a) (option_to_list turn.line.handed))
queries_to-push a turns turn =
    let lines : List QueryLine = flat_map (λ t. option_to_list t.line.handed) turns in
    ap (λ es. map handed_in (filter (mine a) es)) (flat_map-push (λ t. option_to_list t.line.handed) turns turn)
    ∙ ap (λ es. map handed_in es) (filter-append (mine a) lines (option_to_list turn.line.handed))
    ∙ map-append handed_in (filter (mine a) lines) (filter (mine a) (option_to_list turn.line.handed))

abbrev entered : Turn → List (TimedEntry ℕ)
entered t = entered_by t.action t.given t.line.answer

-- a query that was handed out entered, and was handed out once
abbrev pub IsHanded : List Turn → Type 0
IsHanded turns = (a : ℕ) → IsWithin (queries_at a turns) (queries_to a turns)

-- what a turn adds for an agent
abbrev Adds : ℕ → Turn → Type 0
Adds a turn = (map handed_in (filter (mine a) (option_to_list turn.line.handed)) ≡ []) ⊎ ((x : TimedEntry ℕ) × (map handed_in (filter (mine a) (option_to_list turn.line.handed)) ≡ x ∷ []) × (added entered a turn ≡ x ∷ []))

adds-applied : Below → (c : Cluster) (b : ℕ) (act : Act) (m : IdealNode) (a : ℕ) → Adds a (applied c b act (apply m c.sent act)).turn
adds-applied lower c b act m a = by (apply m c.sent act).done.handed refl (b == a) refl
  where
    by : (h : Option DeliveredQuery) → (apply m c.sent act).done.handed ≡ h → (t : Bool) → (b == a) ≡ t → Adds a (applied c b act (apply m c.sent act)).turn
    by None none t is = inl (ap (λ (h : Option DeliveredQuery). map handed_in (filter (mine a) (option_to_list (option_map (handed_line b (length (apply m c.sent act).node.handed)) h)))) none)
    by (Some q) some true is = inr (
      record { time = q.time; key = q.id },
      ap (λ (h : Option DeliveredQuery). map handed_in (filter (mine a) (option_to_list (option_map (handed_line b (length (apply m c.sent act).node.handed)) h)))) some
          ∙ ap (λ (t : Bool). map handed_in (cond t (handed_line b (length (apply m c.sent act).node.handed) q ∷ []) [])) is,
      ap (λ (t : Bool). cond t (entered_by (Of b act) (given_by c.sent act) (apply m c.sent act).done.answer) []) is ∙ hands-apply lower m c.sent b act q some,
    )
    by (Some q) some false is =
        inl (ap (λ (h : Option DeliveredQuery). map handed_in (filter (mine a) (option_to_list (option_map (handed_line b (length (apply m c.sent act).node.handed)) h)))) some
        ∙ ap (λ (t : Bool). map handed_in (cond t (handed_line b (length (apply m c.sent act).node.handed) q ∷ []) [])) is)

adds-step : Below → (c : Cluster) (action : Action) (a : ℕ) → Adds a (step c action).turn
adds-step lower c action a = step-cases (λ s. Adds a s.turn) c action (λ bytes. inl refl) (λ b act at. inl refl) (λ b act m is at. adds-applied lower c b act m a)

pub handed-step : Below → (configs : List Config) (r : Run) (action : Action) → CanTellIt configs action → IsAfter configs r.cluster r.turns → IsHanded r.turns → IsHanded (after r action).turns
handed-step lower configs r action tells h all a =
    let turn : Turn = (step r.cluster action).turn in
    let once = query-once configs (after r action).cluster (after r action).turns (after-step lower configs r action tells h) in
    let new = map handed_in (filter (mine a) (option_to_list turn.line.handed)) in
    let entered_now = by-push entered a r.turns turn in
    subst (λ l. IsWithin l (queries_to a (r.turns ++ turn ∷ []))) (sym entered_now)
    (subst (IsWithin (queries_at a r.turns ++ added entered a turn)) (sym (queries_to-push a r.turns turn))
    (within-more (queries_at a r.turns) (queries_to a r.turns) (added entered a turn) new (all a) (subst (AllPairs (λ x y. x ≢ y)) entered_now (once a)) (adds-step lower r.cluster action a)))

pub handed-start : IsHanded []
handed-start a = record { within = All-nil (Contains (queries_at a [])); once = λ i j d lt within. absurd (omega arith) }
