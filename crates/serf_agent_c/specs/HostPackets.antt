-- What a host in C sends for what it fires: the packet that a getter returns spells exactly what was fired.
use Rattle.std.specs.Prelude.{◌≡◌, ◌<◌, ◌^◌, ◌++◌, ℕ, ℤ, Bool, true, List, [], ◌∷◌, Some, Ok}
use Rattle.serf_wire.specs.Decoded.{decoded}
use Rattle.serf_wire.specs.Fields.{fits}
use Rattle.serf_wire.specs.Message.{query, user_event}
use Rattle.serf_agent.specs.Config.{is_sound}
use Rattle.serf_agent.specs.Queries.{query_at}
use Rattle.serf_agent.specs.declared.outcome.Fired.{Fired}
use Rattle.serf_agent.specs.declared.outcome.FiredQuery.{FiredQuery}
use Rattle.serf_agent.specs.declared.outcome.QueryParams.{QueryParams}
use Rattle.serf_agent_c.specs.declared.burst_outcome.BurstOutcome.TheVariants as burst_outcomes
use Rattle.serf_agent_c.specs.declared.call_result.CallResult.TheVariants as call_results
use Rattle.serf_agent_c.specs.declared.code.Code.{Code}
use Rattle.serf_agent_c.specs.declared.heads.Params.{Params}
use Rattle.serf_agent_c.specs.declared.heads.Settings.{Settings}
use Rattle.serf_agent_c.specs.declared.session.Session.{Session}
use Rattle.serf_agent_c.specs.Asking.{params_of}
use Rattle.serf_agent_c.specs.Bursts as bursts
use Rattle.serf_agent_c.specs.Hosts.{Burst, Deed, Fire, MayHost, Query, Says, first_host, hosted}
use Rattle.serf_agent_c.specs.Opening.{GoesOn, IsFresh, config_of}
use Rattle.serf_agent_c.specs.Sessions.{is_ready}

-- A host's lives, from its first session on.
pub record HostLives (name : List ℕ) (settings : Settings) (text : List ℕ) (first : Session) (deeds : List Deed) : Type 0 where
  pub sound : is_sound (config_of name settings) ≡ true
  pub on : GoesOn name settings text first
  pub fresh : IsFresh text first
  pub may : MayHost name (first_host text first) deeds

-- the host's session after these steps
abbrev pub session_after : List ℕ → Session → List Deed → Session
session_after text first deeds = (hosted (first_host text first) deeds).session

-- the packet spells this event, at the time that the getters return for it
abbrev pub SpellsEvent : Fired → List ℕ → List ℕ → Bool → Type 0
SpellsEvent f name payload coalesce = decoded f.packet ≡ Ok (user_event (record { time = f.handed.time; name = name; payload = payload; coalesce = coalesce }))

-- the packet spells the query that a node of this name fires with this ID, name, payload and these parameters
abbrev pub SpellsQuery : FiredQuery → List ℕ → ℕ → List ℕ → List ℕ → QueryParams → Type 0
SpellsQuery f node id name payload params = decoded f.packet ≡ Ok (query (query_at f.time node id name payload params))

-- the numbers of a query have their types in C: 32, 16 and 8 bits, and 64 bits with a sign
pub record AreOfTypes (id port relay_factor : ℕ) (timeout : ℤ) : Type 0 where
  pub id_fits : id < 2 ^ 32
  pub port_fits : port < 2 ^ 16
  pub relay_factor_fits : relay_factor < 2 ^ 8
  pub timeout_fits : fits timeout ≡ Some timeout

-- In each life, a call that fires an event returns a packet that spells this event.
abbrev pub SendsEvents : Type 0
SendsEvents =
    (name : List ℕ) (settings : Settings) (text : List ℕ) (first t : Session) (deeds : List Deed) (what payload : List ℕ) (coalesce : Bool) (code : Code) (f : Fired) → HostLives name settings text first deeds
    → let s = session_after text first deeds in is_ready s ≡ true → Says (Fire what payload coalesce) s t code → t.call_result ≡ call_results.Fired (Ok f) → SpellsEvent f what payload coalesce

-- The same is true of an event that is fired in a burst.
abbrev pub SendsEventsInBursts : Type 0
SendsEventsInBursts =
    (name : List ℕ) (settings : Settings) (text : List ℕ) (first t : Session) (deeds : List Deed) (what payload : List ℕ) (coalesce : Bool) (code : Code) (f : Fired) → HostLives name settings text first deeds
    → let s = session_after text first deeds in Says (Burst (bursts.Fires what payload coalesce)) s t code → t.burst.items ≡ s.burst.items ++ burst_outcomes.Fired (Ok f) ∷ [] → SpellsEvent f what payload coalesce

-- In each life, a call that fires a query returns a packet that spells this query, with the name of the session's node.
abbrev pub SendsQueries : Type 0
SendsQueries =
    (name : List ℕ) (settings : Settings) (text : List ℕ) (first t : Session) (deeds : List Deed) (now id : ℕ) (what payload addr : List ℕ) (params : Params) (code : Code) (f : FiredQuery) → HostLives name settings text first deeds → AreOfTypes id params.port params.relay_factor params.timeout
    → let s = session_after text first deeds in is_ready s ≡ true → Says (Query now id what payload addr params) s t code → t.call_result ≡ call_results.QueryFired (Ok f) → SpellsQuery f s.agent.concrete.config.name id what payload (params_of s.filters addr params)

-- The same is true of a query that is fired in a burst.
abbrev pub SendsQueriesInBursts : Type 0
SendsQueriesInBursts =
    (name : List ℕ) (settings : Settings) (text : List ℕ) (first t : Session) (deeds : List Deed) (now id : ℕ) (what payload : List ℕ) (params : QueryParams) (code : Code) (f : FiredQuery) → HostLives name settings text first deeds → AreOfTypes id params.port params.relay_factor params.timeout
    → let s = session_after text first deeds in Says (Burst (bursts.Asks now id what payload params)) s t code → t.burst.items ≡ s.burst.items ++ burst_outcomes.QueryFired (Ok f) ∷ [] → SpellsQuery f s.agent.concrete.config.name id what payload params
