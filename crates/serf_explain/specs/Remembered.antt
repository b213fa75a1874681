-- What is remembered of queries while one action after another is done: private to the crate.
use Rattle.std.specs.Prelude.{◌≡◌, ℕ, ◌++◌, ◌&&◌, ◌||◌, Bool, false, not, nat_eq, nat_lt, if◌then◌else◌, List, [], ◌∷◌, Option, Some, None, filter, is_some, slice_get}
use Rattle.std.specs.List.{list_any}
use Rattle.std.specs.Option.{option_map}
use Rattle.indexmap.specs.IndexMap.{get}
use Rattle.serf_lamport.specs.Clock.{max_clock}
use Rattle.serf_wire.specs.Message.{Message, query}
use Rattle.serf_agent.specs.declared.open_query.OpenQuery.{OpenQuery}
use Rattle.serf_agent.specs.Queries.{fired_query_at}
use Rattle.serf_agent.specs.View.{ConcreteState}
use Rattle.serf_model.specs.declared.action.Act.TheVariants as acts
use Rattle.serf_model.specs.declared.action.Action.{Action}
use Rattle.serf_model.specs.declared.action.Action.TheVariants as actions
use Rattle.serf_model.specs.declared.line.Answer.{Answer}
use Rattle.serf_model.specs.declared.line.Answer.TheVariants as answers
use Rattle.serf_world.specs.View.{WorldState, agent_at}
use Rattle.serf_explain.specs.declared.deliveries.Moment.{Moment}
use Rattle.serf_explain.specs.declared.memory.Firing.{Firing}
use Rattle.serf_explain.specs.declared.memory.Ended.{Ended}
use Rattle.serf_explain.specs.declared.memory.Ended.TheVariants as ends
use Rattle.serf_explain.specs.declared.memory.Memory.{Memory}
use Rattle.serf_explain.specs.declared.memory.QueryKey.{QueryKey}
use Rattle.serf_explain.specs.Recorded.{message_given}

abbrev pub same_query : QueryKey → QueryKey → Bool
same_query x y = nat_eq x.agent y.agent && (nat_eq x.time y.time && nat_eq x.id y.id)

abbrev pub same_moment : Moment → Moment → Bool
same_moment x y = nat_eq x.agent y.agent && nat_eq x.time y.time

-- the agent that fired a query, and its time
abbrev pub fired_at : QueryKey → Moment
fired_at q = record { agent = q.agent; time = q.time }

-- ---- what an action does to queries

-- the query of agent number `a` with this time and this ID
abbrev pub query_of : ℕ → ℕ → ℕ → QueryKey
query_of a time id = record { agent = a; time = time; id = id }

-- the query that a message carries to agent number `a`, and the same only if the answer says that the query was new
abbrev pub query_read : ℕ → Option Message → Option QueryKey
query_read a (Some (query q)) = Some (query_of a q.time q.id)
query_read a _ = None

abbrev pub query_new : ℕ → Answer → Option Message → Option QueryKey
query_new a answers.Query message = query_read a message
query_new a _ message = None

abbrev pub query_brought : List (List ℕ) → Action → Answer → Option QueryKey
query_brought sent (actions.Of a (acts.Deliver packet now)) answer = query_new a answer (message_given (slice_get sent packet))
query_brought sent _ answer = None

-- the query that an agent fires
abbrev pub query_fired : Action → Answer → Option QueryKey
query_fired (actions.Of a (acts.Query q)) (answers.Queried time) = Some (query_of a time q.id)
query_fired _ _ = None

-- the agent whose open queries action number `n` may end, and how they end
abbrev pub ending : ℕ → Action → Option (ℕ × Ended)
ending n (actions.Of a (acts.Close now)) = Some (a, ends.Closed n)
ending n (actions.Of a (acts.Restart tail)) = Some (a, ends.Lost n)
ending n _ = None

-- ---- which queries are open

-- the query that an agent fired at time `t`, while it is open; 2^64 - 1 is not a valid time
abbrev pub open_at : ℕ → List (ℕ × OpenQuery) → Option OpenQuery
open_at t fired_queries = if nat_lt t max_clock then fired_query_at t fired_queries else None

abbrev pub has_open : ℕ → Option ConcreteState → Bool
has_open t None = false
has_open t (Some s) = is_some (open_at t s.fired_queries)

-- whether a query that was open is still open after an action of agent number `a`, which can't end the queries of other
-- agents
abbrev pub stays_open : WorldState → ℕ → Moment → Bool
stays_open w a m = not (nat_eq m.agent a) || has_open m.time (agent_at w m.agent)

-- ---- what is remembered

-- the action at which the query `q` entered its agent, after action number `n` let this query enter, if it did
abbrev pub entered_after : ℕ → Option QueryKey → QueryKey → Option ℕ → Option ℕ
entered_after n None q old = old
entered_after n (Some new) q old = if same_query new q then Some n else old

-- what is known of the query that was fired at `m`, after action number `n` fired this query, if it did
abbrev pub asked_after : ℕ → Option QueryKey → Moment → Option Firing → Option Firing
asked_after n None m old = old
asked_after n (Some new) m old = if same_moment (fired_at new) m then Some (record { action = n; ended = ends.Not }) else old

abbrev pub ended_so : Ended → Firing → Firing
ended_so e x = record { action = x.action; ended = e }

-- what is known of the query that was fired at `m`, after those of the open queries of agent number `a` that are no
-- longer open ended as `e` says
abbrev pub ended_among : WorldState → ℕ → Ended → List Moment → Moment → Option Firing → Option Firing
ended_among w a e pending m old = if list_any (λ k. not (stays_open w a k) && same_moment k m) pending then option_map (ended_so e) old else old

abbrev pub ended_after : WorldState → Option (ℕ × Ended) → List Moment → Moment → Option Firing → Option Firing
ended_after w None pending m old = old
ended_after w (Some by) pending m old = ended_among w by.0 by.1 pending m old

-- the open queries after an action fired this query, if it did, and after those that are no longer open were dropped
abbrev pub pending_with : Option QueryKey → List Moment → List Moment
pending_with None pending = pending
pending_with (Some new) pending = pending ++ fired_at new ∷ []

abbrev pub pending_after : WorldState → Option (ℕ × Ended) → List Moment → List Moment
pending_after w None pending = pending
pending_after w (Some by) pending = filter (stays_open w by.0) pending

-- What is remembered after action number `n`, which had this answer and left the world `w`: for each query that entered
-- an agent, the last action at which it entered; for each query that an agent fired, the action that fired it, and how
-- it ended, if it did; and which of the fired queries are open.
pub record Remembers (w : WorldState) (n : ℕ) (action : Action) (answer : Answer) (old new : Memory) : Type 0 where
  pub entered : (q : QueryKey) → get same_query new.queries q ≡ entered_after n (query_fired action answer) q (entered_after n (query_brought w.sent action answer) q (get same_query old.queries q))
  pub fired_queries : (m : Moment) → get same_moment new.fired_queries m ≡ ended_after w (ending n action) old.pending.items m (asked_after n (query_fired action answer) m (get same_moment old.fired_queries m))
  pub pending : new.pending.items ≡ pending_after w (ending n action) (pending_with (query_fired action answer) old.pending.items)

-- nothing is remembered of a run that has done no action
pub record RemembersNothing (memory : Memory) : Type 0 where
  pub entered : (q : QueryKey) → get same_query memory.queries q ≡ None
  pub fired_queries : (m : Moment) → get same_moment memory.fired_queries m ≡ None
  pub pending : memory.pending.items ≡ []
