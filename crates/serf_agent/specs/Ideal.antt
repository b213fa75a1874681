-- The ideal agent: it keeps every event and every query of all its lives in plain lists, and forgets nothing
-- (Serf's internals page, "Lamport Clocks"; `serf.go`, the state of `Serf`).
use Rattle.std.specs.Prelude.{ℕ, List}
use Rattle.serf_wire.specs.declared.texts.EventBody.{EventBody}
use Rattle.serf_window.specs.Window.{TimedEntry}
use Rattle.serf_snapshot.specs.AppendsLine.{SnapshotView}
use Rattle.serf_agent.specs.declared.config.Config.{Config}
use Rattle.serf_agent.specs.declared.open_query.OpenQuery.{OpenQuery}

-- Something that was entered, an event's name and payload or a query's ID, with its time and the life in which it was
-- entered.
pub record Past (K : Type 0) : Type 0 where
  pub life : ℕ
  pub entry : TimedEntry K

-- What an agent has of its events, or of its queries: the clock that draws their times, the minimum time that it
-- accepts, and everything that was entered in all its lives.
pub record Track (K : Type 0) : Type 0 where
  pub clock : ℕ
  pub minimum : ℕ
  pub history : List (Past K)

-- The ideal agent: its settings, the number of its life, its member clock, its events and its queries, its snapshot,
-- and the open queries that it fired, with their times, in the order in which it fired them.
pub record IdealAgent : Type 0 where
  pub config : Config
  pub life : ℕ
  pub member_clock : ℕ
  pub events : Track EventBody
  pub queries : Track ℕ
  pub snapshot : SnapshotView
  pub fired_queries : List (ℕ × OpenQuery)

-- the agent with other settings; with another snapshot; with other events; with other queries; and with other open
-- queries
abbrev pub with_config : Config → IdealAgent → IdealAgent
with_config config i = record { config = config; life = i.life; member_clock = i.member_clock; events = i.events; queries = i.queries; snapshot = i.snapshot; fired_queries = i.fired_queries }

abbrev pub with_snapshot : SnapshotView → IdealAgent → IdealAgent
with_snapshot s i = record { config = i.config; life = i.life; member_clock = i.member_clock; events = i.events; queries = i.queries; snapshot = s; fired_queries = i.fired_queries }

abbrev pub with_events : Track EventBody → IdealAgent → IdealAgent
with_events events i = record { config = i.config; life = i.life; member_clock = i.member_clock; events = events; queries = i.queries; snapshot = i.snapshot; fired_queries = i.fired_queries }

abbrev pub with_queries : Track ℕ → IdealAgent → IdealAgent
with_queries queries i = record { config = i.config; life = i.life; member_clock = i.member_clock; events = i.events; queries = queries; snapshot = i.snapshot; fired_queries = i.fired_queries }

abbrev pub with_fired_queries : List (ℕ × OpenQuery) → IdealAgent → IdealAgent
with_fired_queries fired_queries i = record { config = i.config; life = i.life; member_clock = i.member_clock; events = i.events; queries = i.queries; snapshot = i.snapshot; fired_queries = fired_queries }
