-- Events spread by exchanges of states, in every run that sends and merges as promised.
use Rattle.serf_model.proofs.Names.{Bool, List, Some, [], ap, append_assoc, arith, cond, false, inl, inr, refl, subst, sym, true, ℕ, ◌&&◌, ◌++◌, ◌+◌, ◌∙◌, ◌∷◌, ◌≡◌, ◌≤◌, ◌⊎◌, append-nil, All-contains, Contains-append_left, filter-append, flat_map-append, map-append, filter, flat_map, fold, map, All, Contains, slice_get, decoded, EventBody, TimedEntry, events_of, Config, events_of_life, is_restarted, lived_on, events_given, event_clock_of, Turn, actor_of, event_in, events_brought, events_in_packet, events_to, is_agent, EventLine, All-cons, All-head, All-nil, All-tail, Of, ◌==◌}
use Rattle.serf_model.specs.declared.action.Act.TheVariants as acts
use Rattle.serf_model.specs.declared.line.Answer.TheVariants as answers
use Rattle.serf_model.specs.Exchanges.{ExchangeHands, IsExchange, SpreadsOnWays, StaysNear, passes, starts}
use Rattle.serf_model.specs.Sent.{Sent}
use Rattle.serf_model.specs.Taken.{MergedIsHanded, WhyNot}

-- ---- one exchange

-- the state that an agent sends carries each event of its present life that is within the window
carries : (configs : List Config) (turns early after : List Turn) (sending : Turn) (a : ℕ) (c : Config) (packet : List ℕ) (e : TimedEntry EventBody) → Sent configs turns → slice_get configs a ≡ Some c → turns ≡ early ++ sending ∷ after → sending.action ≡ Of a acts.State → sending.line.answer ≡ answers.State
    → sending.packets ≡ packet ∷ [] → Contains (events_of_life a early) e → event_clock_of a early ≤ e.time + c.event_buffer → Contains (events_in_packet packet) e
carries configs turns early after sending a c packet e sent at is sends says packets there young =
    let spells = (sent early sending after is).state a c at sends says in
    let both = sym packets ∙ spells.2 in
    let same : packet ≡ spells.0 = cc both in
    let shown : spells.1.event_clock ≡ event_clock_of a early = spells.4.event_clock in
    let held : Contains (events_of spells.1.slots) e = All-contains (λ (x : TimedEntry EventBody). spells.1.event_clock ≤ x.time + c.event_buffer → Contains (events_of spells.1.slots) x) (events_of_life a early) e spells.4.carries there (omega (arith, shown, young)) in
    subst (λ r. Contains (events_brought r) e) (sym (ap decoded same ∙ spells.3)) held

pub exchange-hands : (configs : List Config) (turns : List Turn) → Sent configs turns → MergedIsHanded configs turns → ExchangeHands configs turns
exchange-hands configs turns sent merged a b c d early between rest sending merging e at_a at_b is x there young =
    let before : List Turn = early ++ sending ∷ between in
    let earlier : turns ≡ early ++ sending ∷ (between ++ merging ∷ rest) = is ∙ append_assoc early (sending ∷ between) (merging ∷ rest) in
    let held = carries configs turns early (between ++ merging ∷ rest) sending a c x.packet e sent at_a earlier x.sends x.sent x.packets there young in
    merged (early ++ sending ∷ between) merging rest is b x.number x.join d e at_b x.merges (subst (λ g. Contains (events_given g) e) (sym x.given) held)

-- ---- lives without restarts

-- if no agent is opened again, the present life of each agent is everything
one-life : (a : ℕ) (life turns : List Turn) → All (λ t. is_restarted t.line.answer ≡ false) turns → fold (lived_on a) life turns ≡ life ++ turns
one-life a life [] none = sym (append-nil life)
one-life a life (t ∷ ts) none =
    let on : is_restarted t.line.answer ≡ false = All-head (λ t. is_restarted t.line.answer ≡ false) t ts none in
    let next : lived_on a life t ≡ life ++ t ∷ [] = ap (λ b. cond (is_agent a (actor_of t.action) && b) [] (life ++ t ∷ [])) on ∙ by (is_agent a (actor_of t.action)) in
    ap (λ l. fold (lived_on a) l ts) next ∙ one-life a (life ++ t ∷ []) ts (All-tail (λ t. is_restarted t.line.answer ≡ false) t ts none) ∙ append_assoc life (t ∷ []) ts
  where
    by : (b : Bool) → cond (b && false) [] (life ++ t ∷ []) ≡ life ++ t ∷ []
    by true = refl
    by false = refl

whole-life : (a : ℕ) (turns : List Turn) → All (λ t. is_restarted t.line.answer ≡ false) turns → events_of_life a turns ≡ events_to a turns
whole-life a turns none = ap (events_to a) (one-life a [] turns none)

all-front : {X : Type 0} (P : X → Type 0) (xs ys : List X) → All P (xs ++ ys) → All P xs
all-front P [] ys all = All-nil P
all-front P (x ∷ xs) ys all = All-cons P x xs (All-head P x (xs ++ ys) all) (all-front P xs ys (All-tail P x (xs ++ ys) all))

-- what was handed to an agent was handed to it after more turns, too
handed-more : (a : ℕ) (turns more : List Turn) (e : TimedEntry EventBody) → Contains (events_to a turns) e → Contains (events_to a (turns ++ more)) e
handed-more a turns more e there =
    let mine : EventLine → Bool = λ e. e.agent == a in
    let lines : List EventLine = flat_map (λ t. t.line.events) turns in
    let new : List EventLine = flat_map (λ t. t.line.events) more in
    let all = ap (λ es. map event_in (filter (λ (e : EventLine). e.agent == a) es)) (flat_map-append (λ (t : Turn). t.line.events) turns more) ∙ ap (λ es. map event_in es) (filter-append mine lines new) ∙ map-append event_in (filter mine lines) (filter mine new) in
    subst (λ (l : List (TimedEntry EventBody)). Contains l e) (sym all) (Contains-append_left (events_to a turns) (map event_in (filter (λ (e : EventLine). e.agent == a) (flat_map (λ t. t.line.events) more))) e there)

-- ---- ways

-- the agent that merges the state of an agent that was handed the event is handed it, too
passes-on : (configs : List Config) (turns : List Turn) → Sent configs turns → MergedIsHanded configs turns → (via b : ℕ) (earlier more between rest : List Turn) (sending merging : Turn) (c d : Config) (e : TimedEntry EventBody) → slice_get configs via ≡ Some c → slice_get configs b ≡ Some d
    → IsExchange via b sending merging → turns ≡ (((earlier ++ more) ++ sending ∷ between) ++ merging ∷ []) ++ rest → StaysNear configs turns e → Contains (events_to via earlier) e → Contains (events_to b (((earlier ++ more) ++ sending ∷ between) ++ merging ∷ [])) e
passes-on configs turns sent merged via b earlier more between rest sending merging c d e at_via at_b exchange is near there =
    subst (λ (l : List (TimedEntry EventBody)). Contains l e) (whole-life b (before ++ merging ∷ []) (lives (before ++ merging ∷ []) rest is))
    (handed (exchange-hands configs turns sent merged via b c d early between rest sending merging e at_via at_b whole exchange alive (near.young via c early (sending ∷ (between ++ merging ∷ rest)) up_to at_via)))
  where
    early : List Turn
    early = earlier ++ more

    before : List Turn
    before = (earlier ++ more) ++ sending ∷ between

    -- the turns up to the merge, and those up to the sending
    whole : turns ≡ ((earlier ++ more) ++ sending ∷ between) ++ merging ∷ rest
    whole = is ∙ append_assoc ((earlier ++ more) ++ sending ∷ between) (merging ∷ []) rest

    up_to : turns ≡ (earlier ++ more) ++ sending ∷ (between ++ merging ∷ rest)
    up_to = whole ∙ append_assoc (earlier ++ more) (sending ∷ between) (merging ∷ rest)

    lives : (front back : List Turn) → turns ≡ front ++ back → All (λ t. is_restarted t.line.answer ≡ false) front
    lives front back split = all-front (λ t. is_restarted t.line.answer ≡ false) front back (subst (All (λ t. is_restarted t.line.answer ≡ false)) split near.lives)

    -- the sender was handed the event in its present life
    alive : Contains (events_of_life via (earlier ++ more)) e
    alive = subst (λ (l : List (TimedEntry EventBody)). Contains l e) (sym (whole-life via (earlier ++ more) (lives (earlier ++ more) (sending ∷ (between ++ merging ∷ rest)) up_to))) (handed-more via earlier more e there)

    handed : Contains (events_of_life b (((earlier ++ more) ++ sending ∷ between) ++ merging ∷ [])) e ⊎ WhyNot b d ((earlier ++ more) ++ sending ∷ between) merging e → Contains (events_of_life b (((earlier ++ more) ++ sending ∷ between) ++ merging ∷ [])) e
    handed (inl taken) = taken
    handed (inr why) = absurd (near.welcome b exchange.number exchange.join d ((earlier ++ more) ++ sending ∷ between) rest merging whole at_b exchange.merges why)

pub spreads-on_ways : (configs : List Config) (turns : List Turn) → Sent configs turns → MergedIsHanded configs turns → SpreadsOnWays configs turns
spreads-on_ways configs turns sent merged a begun b now rest e is (starts who when) near there =
    subst (λ (l : List Turn). Contains (events_to b l) e) (sym when) (subst (λ (j : ℕ). Contains (events_to j begun) e) (sym who) there)
spreads-on_ways configs turns sent merged a begun b now rest e is (passes via earlier more between sending merging c d way at_via at_b exchange when) near there =
    let done : turns ≡ (((earlier ++ more) ++ sending ∷ between) ++ merging ∷ []) ++ rest = is ∙ ap (λ l. l ++ rest) when in
    let whole : turns ≡ ((earlier ++ more) ++ sending ∷ between) ++ merging ∷ rest = done ∙ append_assoc ((earlier ++ more) ++ sending ∷ between) (merging ∷ []) rest in
    let up_to : turns ≡ (earlier ++ more) ++ sending ∷ (between ++ merging ∷ rest) = whole ∙ append_assoc (earlier ++ more) (sending ∷ between) (merging ∷ rest) in
    let begins : turns ≡ earlier ++ (more ++ sending ∷ (between ++ merging ∷ rest)) = up_to ∙ append_assoc earlier more (sending ∷ (between ++ merging ∷ rest)) in
    subst (λ (l : List Turn). Contains (events_to b l) e) (sym when)
    (passes-on configs turns sent merged via b earlier more between rest sending merging c d e at_via at_b exchange done near
    (spreads-on_ways configs turns sent merged a begun via earlier (more ++ sending ∷ (between ++ merging ∷ rest)) e begins way near there))
