-- What a node may be handed again after something was started on its snapshot.
use Rattle.std.specs.Prelude.{ℕ, ◌+◌, ◌^◌, ◌==◌, ◌&&◌, nat_lt, nat_le, Bool, true, if◌then◌else◌, List, [], length, codes, Option, Some, None, unwrap_or}
use Rattle.std.specs.Option.{is_none}
use Rattle.std.specs.Str.{bytes_eq}
use Rattle.percent_encoding.specs.Percent.{percent_decode}
use Rattle.serf_lamport.specs.Clock.{max_clock}
use Rattle.serf_snapshot.specs.Device.{fresh_device}
use Rattle.serf_snapshot.specs.EventLines.{queries_in}
use Rattle.serf_snapshot.specs.AppendsLine.{opened}
use Rattle.serf_snapshot.specs.declared.kept.EntryFilter.{EntryFilter}
use Rattle.serf_snapshot.specs.declared.kind.ClockKind.{ClockKind}
use Rattle.serf_window.specs.Texts.{event_of}
use Rattle.serf_agent.specs.declared.config.Config.{Config}
use Rattle.serf_agent.specs.Config.{max_text_bytes}
use Rattle.serf_agent.specs.Defaults.{default_config}
use Rattle.serf_agent.specs.Events.{admission}
use Rattle.serf_agent.specs.Ideal.{IdealAgent}
use Rattle.serf_agent.specs.Queries.{query_admission}
use Rattle.serf_agent.specs.Restart.{restarted, unopened}
use Rattle.serf_text.specs.Words.{bytes_of}
use Rattle.serf_judge.specs.declared.entry.EventEntry.{EventEntry}
use Rattle.serf_judge.specs.declared.entry.QueryEntry.{QueryEntry}
use Rattle.serf_judge.specs.declared.reader.Reader.{Reader}
use Rattle.serf_judge.specs.declared.reader.Reader.TheVariants as readers
use Rattle.serf_judge.specs.Identity.{Identity}
use Rattle.serf_judge.specs.SerfClocks.{serf_clock}

-- Stock Serf

-- The minimum time that Serf accepts (`serf.go`, `Create`: `eventMinTime`, `queryMinTime`). It wraps at 2^64.
abbrev pub serf_minimum : ℕ → ℕ
serf_minimum clock = if clock == max_clock then 0 else clock + 1

-- An agent of this project

-- its settings: the default ones, of a node whose name doesn't matter
abbrev pub settings : Bool → Config
settings keeps = let c = default_config (codes "node") in record {
  name = c.name;
  event_buffer = c.event_buffer;
  query_buffer = c.query_buffer;
  event_limit = c.event_limit;
  query_limit = c.query_limit;
  response_limit = c.response_limit;
  responders = c.responders;
  per_time = c.per_time;
  ignore_old = c.ignore_old;
  keep_events = keeps;
}

-- what an opening makes of a text
abbrev pub opened_on : Bool → List ℕ → IdealAgent
opened_on keeps text = let s = opened text (fresh_device text) in restarted text s (unopened (settings keeps) s)

-- the text that a word of a handler's log encodes: `%` and two hex digits are a byte, and `-` is an empty text
abbrev pub unescaped : List ℕ → List ℕ
unescaped word = if bytes_eq word (codes "-") then [] else percent_decode word

-- An event that was handed out is new if the agent hasn't seen it, neither with the words as a handler's log encodes
-- them nor, if they are hex, as a trace does.
abbrev pub is_new_in_hex : IdealAgent → ℕ → Option (List ℕ) → Option (List ℕ) → Bool
is_new_in_hex i time None payload = true
is_new_in_hex i time (Some name) None = true
is_new_in_hex i time (Some name) (Some payload) = is_none (admission i time (event_of name payload))

abbrev pub is_new_event : List ℕ → IdealAgent → EventEntry → Bool
is_new_event text i e =
    nat_lt e.time max_clock
    && (is_none (admission i e.time (event_of (unescaped e.name.items) (unescaped e.payload.items)))
    && is_new_in_hex i e.time (bytes_of e.name.items) (bytes_of e.payload.items))

-- A query that was handed out is new if the text has no line of a query of its time, and the agent would accept it.
-- Serf doesn't pass a query's ID to a handler, so a query is identified by its time.
abbrev pub of_time : ℕ → EntryFilter
of_time time = record { from = time; below = time + 1; longest = max_text_bytes }

abbrev pub query_id_or_zero : Option ℕ → ℕ
query_id_or_zero id = if nat_lt (unwrap_or id 0) (2 ^ 32) then unwrap_or id 0 else 0

abbrev pub is_new_query : List ℕ → IdealAgent → QueryEntry → Bool
is_new_query text i q =
    nat_lt q.time max_clock
    && ((length (queries_in (of_time q.time) text) == 0)
    && is_none (query_admission i q.time (query_id_or_zero q.id)))

-- Both

-- whether what was handed out may be handed out again by the reader of the text
abbrev pub is_new_to : {E : Type 0} → ClockKind → (E → ℕ × Identity) → (List ℕ → IdealAgent → E → Bool) → Reader → List ℕ → E → Bool
is_new_to kind seen is_new (readers.Serf rejoins) text e = nat_le (serf_minimum (serf_clock rejoins kind text)) (seen e).1.time
is_new_to kind seen is_new (readers.Agent keeps) text e = is_new text (opened_on keeps text) e

-- and was handed to this node
abbrev pub is_again : {E : Type 0} → ClockKind → (E → ℕ × Identity) → (List ℕ → IdealAgent → E → Bool) → Reader → List ℕ → List ℕ → E → Bool
is_again kind seen is_new reader text node e = bytes_eq (seen e).1.node node && is_new_to kind seen is_new reader text e
