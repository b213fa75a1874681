-- All promises about a run in one place: what holds of its turns, and what its agents' open queries hold after it.
use Rattle.std.specs.Prelude.{List}
use Rattle.serf_agent.specs.declared.config.Config.{Config}
use Rattle.serf_model.specs.AnswerPromises.{AckedOnce, AnswersMade, CountedInTime, CountedOnce, CountedSent, OpenQueriesHold, OpenQueriesSent, RepliedOnce}
use Rattle.serf_model.specs.Bounds.{EventsBounded, QueriesBounded, WindowsBounded}
use Rattle.serf_model.specs.Cluster.{Run}
use Rattle.serf_model.specs.HandOuts.{HandsOutEntered, HandsOutGiven, MessagesFired, NewIsHanded, OnlyToActor}
use Rattle.serf_model.specs.NotMissed.{Kept, QueriesKept}
use Rattle.serf_model.specs.Promises.{Held, HeldOrTailed, Later, Once, OnlyFired, OnlyFiredOrTailed, QueryFired, QueryHandedOnce, QueryLater, QueryOnce}
use Rattle.serf_model.specs.Queried.{QueryOnlyFired}
use Rattle.serf_model.specs.Sent.{Sent}
use Rattle.serf_model.specs.Taken.{MergedIsHanded, Taken}
use Rattle.serf_model.specs.Tails.{NoneKeeps}

-- A run of agents with these settings keeps all promises.
pub record KeepsPromises (configs : List Config) (r : Run) : Type 0 where
  -- events
  pub once : Once r.turns
  pub fired : OnlyFiredOrTailed configs r.turns
  pub later : Later r.turns
  pub held : HeldOrTailed configs r.turns
  -- if no agent keeps its events, none restores any from a tail
  pub fired_alone : NoneKeeps configs → OnlyFired r.turns
  pub held_alone : NoneKeeps configs → Held r.turns
  -- what agents that keep their events don't miss: events and queries
  pub kept : Kept configs r.turns
  pub queries_kept : QueriesKept configs r.turns
  -- what every agent sends, and what it accepts in its present life
  pub sent : Sent configs r.turns
  pub taken : Taken configs r.turns
  pub merged : MergedIsHanded configs r.turns
  -- queries
  pub query_once : QueryOnce r.turns
  pub query_later : QueryLater r.turns
  pub query_handed : QueryHandedOnce r.turns
  pub query_fired : QueryFired r.turns
  pub query_only_fired : QueryOnlyFired r.turns
  -- what is handed out, and queries as messages
  pub only_to_actor : OnlyToActor r.turns
  pub hands_out_given : HandsOutGiven r.turns
  pub new_is_handed : NewIsHanded r.turns
  pub hands_out_entered : HandsOutEntered configs r.turns
  pub messages_fired : MessagesFired configs r.turns
  -- acks and responses
  pub counted_once : CountedOnce r.turns
  pub counted_in_time : CountedInTime r.turns
  pub counted_sent : CountedSent r.turns
  pub open_queries : OpenQueriesHold r
  pub open_queries_sent : OpenQueriesSent r
  pub answers_made : AnswersMade configs r.turns
  pub acked_once : AckedOnce r.turns
  pub replied_once : RepliedOnce r.turns
  -- how much each agent's windows hold
  pub events_bounded : EventsBounded configs r.turns
  pub queries_bounded : QueriesBounded configs r.turns
  pub windows_bounded : WindowsBounded r
