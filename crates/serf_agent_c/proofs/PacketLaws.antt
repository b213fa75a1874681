-- The packet of a firing spells what was fired.
use Rattle.serf_agent_c.proofs.Names.{Bool, None, Ok, Option, Result, Some, ap, arith, cond, false, length, nat_le, nat_lt, refl, subst, sym, true, ℕ, ◌-◌, ◌<◌, ◌^◌, ◌≡◌, ◌≤◌, List, Kept, event_of, ended, is_sound, fire, IdealAgent, fire_query, IsSound, FireError, Fired, FiredQuery, QueryError, QueryParams, params_of, Config, decoded, query, user_event, ConcreteState, Follows, HostSteps, GivesExactly, Session, first_host, hosted, leb-true, ltb-false, and_parts}
use Rattle.std.proofs.lemmas.Bool.{leb-false, or_parts}
use Rattle.serf_wire.specs.Canonical.{canonical}
use Rattle.serf_wire.specs.Laws.{CanonicalSpells, DecodesSpelled}
use Rattle.serf_wire.specs.Message.{Query, UserEvent}
use Rattle.serf_wire.specs.Ranges.{IsRangedQuery}
use Rattle.serf_agent.specs.Events.{drawn, event_out, event_packet, fire_error, fired_as, is_too_large, texts_len}
use Rattle.serf_agent.specs.Laws.{ShortPackets}
use Rattle.serf_agent.specs.Queries.{fired_query, flags_of, is_no_timeout, is_too_large_query, query_at, query_error, query_fired_as}
use Rattle.serf_agent.specs.declared.outcome.FireError.TheVariants as fires
use Rattle.serf_agent.specs.declared.outcome.QueryError.TheVariants as asks
use Rattle.serf_agent_c.specs.declared.call_result.CallResult.TheVariants as call_results
use Rattle.serf_agent_c.specs.declared.burst_outcome.BurstOutcome.TheVariants as burst_outcomes
use Rattle.serf_agent_c.specs.HostPackets.{AreOfTypes, SendsEvents, SendsEventsInBursts, SendsQueries, SendsQueriesInBursts, SpellsEvent, SpellsQuery}
use Rattle.serf_agent_c.proofs.HostedLaws.{answer-given, answer-queued}

-- what the crates below promise of packets
pub record Packets : Type 0 where
  pub spelled : DecodesSpelled
  pub canonical : CanonicalSpells
  pub short : ShortPackets

-- ---- why nothing is refused

none-if : {X : Type 0} (b : Bool) (x : X) (r : Option X) → cond b (Some x) r ≡ None → (b ≡ false) × (r ≡ None)
none-if true x r e = absurd (cc e)
none-if false x r e = (refl, e)

limits : (c : Config) → is_sound c ≡ true → (c.event_limit ≤ 9216) × (c.query_limit ≤ 9216)
limits c ok =
    let per_time = and_parts _ _ ok in
    let responders = and_parts _ _ per_time.0 in
    let response = and_parts _ _ responders.0 in
    let query = and_parts _ _ response.0 in
    let event = and_parts _ _ query.0 in
    (leb-true c.event_limit 9216 event.1, leb-true c.query_limit 9216 query.1)

-- ---- events

event-spelled : Packets → (i : IdealAgent) (name payload : List ℕ) (coalesce : Bool) → IsSound i → fire_error i (event_of name payload) coalesce ≡ None
    → (let e : UserEvent = record { time = i.events.clock; name = name; payload = payload; coalesce = coalesce } in decoded (canonical (user_event e)) ≡ Ok (user_event e))
event-spelled laws i name payload coalesce sound none =
    let what = event_of name payload in
    let e : UserEvent = record { time = i.events.clock; name = name; payload = payload; coalesce = coalesce } in
    let runs = none-if i.snapshot.stopped fires.Stopped _ none in
    let large = none-if (is_too_large i.config.event_limit (drawn i.events.clock) what coalesce) fires.TooLarge _ runs.1 in
    let short = or_parts (nat_lt i.config.event_limit (texts_len what)) (nat_lt i.config.event_limit (length (event_packet (drawn i.events.clock) what coalesce))) large.0 in
    let low : texts_len what ≤ i.config.event_limit = ltb-false _ _ short.0 in
    let limit : i.config.event_limit ≤ 9216 = (limits i.config sound.config).0 in
    let clock : i.events.clock < 2 ^ 64 - 1 = leb-false _ _ (none-if (nat_le (2 ^ 64 - 1) i.events.clock) fires.Exhausted None large.1).0 in
    (laws.spelled (canonical (user_event e)) (user_event e)).1 (laws.canonical (user_event e) clock (laws.short.event_fits i.events.clock name payload coalesce (omega (arith, low, limit))))

pub fired-spells : Packets → (i : IdealAgent) (name payload : List ℕ) (coalesce : Bool) (f : Fired) → IsSound i → (ended i (fire i (event_of name payload) coalesce) Kept).answer ≡ Ok f → SpellsEvent f name payload coalesce
fired-spells laws i name payload coalesce f sound is = by (fire_error i (event_of name payload) coalesce) refl is
  where
    by : (r : Option FireError) → fire_error i (event_of name payload) coalesce ≡ r → (ended i (fired_as r i (event_of name payload) coalesce) Kept).answer ≡ Ok f → SpellsEvent f name payload coalesce
    by (Some error) at says = absurd (cc says)
    by None at says =
        let own : Fired = record { packet = event_packet i.events.clock (event_of name payload) coalesce; handed = event_out i.events.clock (event_of name payload) coalesce } in
        let same : own ≡ f = cc says in
        subst (λ (x : Fired). SpellsEvent x name payload coalesce) same (event-spelled laws i name payload coalesce sound at)

-- ---- queries

flags-fit : (ack quiet : Bool) → flags_of ack quiet < 2 ^ 32
flags-fit true true = omega arith
flags-fit true false = omega arith
flags-fit false true = omega arith
flags-fit false false = omega arith

query-spelled : Packets → (i : IdealAgent) (id : ℕ) (name payload : List ℕ) (params : QueryParams) → IsSound i → AreOfTypes id params.port params.relay_factor params.timeout → query_error i id name payload params ≡ None
    → (let q = query_at i.queries.clock i.config.name id name payload params in decoded (canonical (query q)) ≡ Ok (query q))
query-spelled laws i id name payload params sound sized none =
    let q : Query = query_at i.queries.clock i.config.name id name payload params in
    let runs = none-if i.snapshot.stopped asks.Stopped _ none in
    let large = none-if (is_too_large_query i.config i.queries.clock id name payload params) asks.TooLarge _ runs.1 in
    let timeout = none-if (is_no_timeout params.timeout) asks.ZeroTimeout _ large.1 in
    let clock : i.queries.clock < 2 ^ 64 - 1 = leb-false _ _ (none-if (nat_le (2 ^ 64 - 1) i.queries.clock) asks.Exhausted None timeout.1).0 in
    let same : drawn i.queries.clock ≡ i.queries.clock = omega (arith, clock) in
    let low : length (canonical (query (query_at (drawn i.queries.clock) i.config.name id name payload params))) ≤ i.config.query_limit = ltb-false _ _ large.0 in
    let limit : i.config.query_limit ≤ 9216 = (limits i.config sound.config).1 in
    let short : length (canonical (query q)) ≤ 9216 = subst (λ (t : ℕ). length (canonical (query (query_at t i.config.name id name payload params))) ≤ 9216) same (omega (arith, low, limit)) in
    let ranged : IsRangedQuery q = record { time = omega (arith, clock); id = sized.id_fits; port = sized.port_fits; flags = flags-fit params.want_ack params.no_broadcast; relay_factor = sized.relay_factor_fits; timeout = sized.timeout_fits } in
    (laws.spelled (canonical (query q)) (query q)).1 (laws.canonical (query q) ranged (laws.short.query_fits q short))

pub query-spells : Packets → (i : IdealAgent) (now id : ℕ) (name payload : List ℕ) (params : QueryParams) (f : FiredQuery) → IsSound i → AreOfTypes id params.port params.relay_factor params.timeout → (ended i (fire_query i now id name payload params) Kept).answer ≡ Ok f
    → SpellsQuery f i.config.name id name payload params
query-spells laws i now id name payload params f sound sized is = by (query_error i id name payload params) refl is
  where
    q : Query
    q = query_at i.queries.clock i.config.name id name payload params

    by : (r : Option QueryError) → query_error i id name payload params ≡ r → (ended i (query_fired_as params.tags_pass r i now q) Kept).answer ≡ Ok f → SpellsQuery f i.config.name id name payload params
    by (Some error) at says = absurd (cc says)
    by None at says =
        let own : FiredQuery = fired_query params.tags_pass i.config now q in
        let same : own ≡ f = cc says in
        subst (λ (x : FiredQuery). SpellsQuery x i.config.name id name payload params) same (query-spelled laws i id name payload params sound sized at)

-- ---- a host's calls

pub sends_events : Packets → HostSteps → GivesExactly → SendsEvents
sends_events laws steps exactly = λ name settings text first t deeds what payload flag code f lives ready says call_result.
    let h = hosted (first_host text first) deeds in
    let k = exactly name settings text first deeds lives.sound lives.on lives.fresh lives.may in
    let i = k.agent in
    let call = fire i (event_of what payload) flag in
    let r : Result Fired FireError = (ended i call Kept).answer in
    let e : call_results.Fired r ≡ call_results.Fired (Ok f) = answer-given (λ r. call_results.Fired r) i call h.file h.session t (call_results.Fired (Ok f)) ready call_result (λ none. let no : 8 ≡ 0 = none in absurd (omega (arith, no))) (steps.fires what payload flag h.session t code i h.file says k.follows) in
    fired-spells laws i what payload flag f k.follows.sound (let same : r ≡ Ok f = cc in same)

pub sends_events_in_bursts : Packets → HostSteps → GivesExactly → SendsEventsInBursts
sends_events_in_bursts laws steps exactly = λ name settings text first t deeds what payload flag code f lives says queued.
    let h = hosted (first_host text first) deeds in
    let k = exactly name settings text first deeds lives.sound lives.on lives.fresh lives.may in
    let i = k.agent in
    let call = fire i (event_of what payload) flag in
    let r : Result Fired FireError = (ended i call Kept).answer in
    let e : burst_outcomes.Fired r ≡ burst_outcomes.Fired (Ok f) = answer-queued (λ r. burst_outcomes.Fired r) i call h.file h.session t (burst_outcomes.Fired (Ok f)) queued (steps.fires_in_burst what payload flag h.session t code i h.file says k.follows) in
    fired-spells laws i what payload flag f k.follows.sound (let same : r ≡ Ok f = cc in same)

-- the agent's name is that of the session
name-of : (i : IdealAgent) (file : List ℕ) (s : Session) → Follows i file s → i.config.name ≡ s.agent.concrete.config.name
name-of i file s follows = sym (ap (λ (c : ConcreteState). c.config.name) follows.state)

pub sends_queries : Packets → HostSteps → GivesExactly → SendsQueries
sends_queries laws steps exactly = λ name settings text first t deeds now id what payload addr params code f lives sized ready says call_result.
    let h = hosted (first_host text first) deeds in
    let k = exactly name settings text first deeds lives.sound lives.on lives.fresh lives.may in
    let i = k.agent in
    let how = params_of h.session.filters addr params in
    let call = fire_query i now id what payload how in
    let r : Result FiredQuery QueryError = (ended i call Kept).answer in
    let e : call_results.QueryFired r ≡ call_results.QueryFired (Ok f) = answer-given (λ r. call_results.QueryFired r) i call h.file h.session t (call_results.QueryFired (Ok f)) ready call_result (λ none. let no : 9 ≡ 0 = none in absurd (omega (arith, no))) (steps.asks now id what payload addr params h.session t code i h.file says k.follows) in
    subst (λ (node : List ℕ). SpellsQuery f node id what payload how) (name-of i h.file h.session k.follows) (query-spells laws i now id what payload how f k.follows.sound sized (let same : r ≡ Ok f = cc in same))

pub sends_queries_in_bursts : Packets → HostSteps → GivesExactly → SendsQueriesInBursts
sends_queries_in_bursts laws steps exactly = λ name settings text first t deeds now id what payload params code f lives sized says queued.
    let h = hosted (first_host text first) deeds in
    let k = exactly name settings text first deeds lives.sound lives.on lives.fresh lives.may in
    let i = k.agent in
    let call = fire_query i now id what payload params in
    let r : Result FiredQuery QueryError = (ended i call Kept).answer in
    let e : burst_outcomes.QueryFired r ≡ burst_outcomes.QueryFired (Ok f) = answer-queued (λ r. burst_outcomes.QueryFired r) i call h.file h.session t (burst_outcomes.QueryFired (Ok f)) queued (steps.asks_in_burst now id what payload params h.session t code i h.file says k.follows) in
    subst (λ (node : List ℕ). SpellsQuery f node id what payload params) (name-of i h.file h.session k.follows) (query-spells laws i now id what payload params f k.follows.sound sized (let same : r ≡ Ok f = cc in same))
