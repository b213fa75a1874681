-- The default settings of an agent (`config.go`, `DefaultConfig`; the last two numbers are this project's own).
use Rattle.std.specs.Prelude.{ℕ, List, false}
use Rattle.serf_agent.specs.declared.config.Config.{Config}

-- the number of slots of a buffer, for events and for queries
abbrev pub default_slots : ℕ
default_slots = 512

-- the maximum size of a fired event, in bytes
abbrev pub default_event_limit : ℕ
default_event_limit = 512

-- the maximum length of a fired query's packet, and of a response's, in bytes
abbrev pub default_query_limit : ℕ
default_query_limit = 1024

abbrev pub default_response_limit : ℕ
default_response_limit = 1024

-- the maximum number of names that are counted among a query's acks, and among its responses
abbrev pub default_responders : ℕ
default_responders = 1024

-- the maximum number of events, or of queries, that are accepted of one time
abbrev pub default_per_time : ℕ
default_per_time = 1024

abbrev pub default_config : List ℕ → Config
default_config name = record {
  name = name;
  event_buffer = default_slots;
  query_buffer = default_slots;
  event_limit = default_event_limit;
  query_limit = default_query_limit;
  response_limit = default_response_limit;
  responders = default_responders;
  per_time = default_per_time;
  ignore_old = false;
  keep_events = false;
}
