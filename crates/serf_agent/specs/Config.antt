-- An agent's settings (`config.go`: `NodeName`, `EventBuffer`, `QueryBuffer`, `UserEventSizeLimit`, `QuerySizeLimit`,
-- `QueryResponseSizeLimit`; the bounds are this project's own).
use Rattle.std.specs.Prelude.{ℕ, ◌&&◌, nat_le, Bool, length}
use Rattle.serf_window.specs.Window.{max_per_time, max_slot_count}
use Rattle.serf_agent.specs.declared.config.Config.{Config}

-- the maximum length of a node's name in bytes (this project's own)
abbrev pub max_name_bytes : ℕ
max_name_bytes = 128

-- the maximum length of an event's name and payload together, in bytes (`serf.go`, `UserEventSizeLimit`)
abbrev pub max_text_bytes : ℕ
max_text_bytes = 9216

-- the maximum limit that the settings allow for a query's packet, and for a response's (this project's own)
abbrev pub max_packet_limit : ℕ
max_packet_limit = 9216

-- the maximum number of nodes whose acks, or whose responses, a query keeps (this project's own)
abbrev pub max_responders : ℕ
max_responders = 65536

abbrev pub is_between : ℕ → ℕ → ℕ → Bool
is_between low high n = nat_le low n && nat_le n high

-- whether an agent can have these settings
abbrev pub is_sound : Config → Bool
is_sound c =
    is_between 1 max_name_bytes (length c.name)
    && is_between 1 max_slot_count c.event_buffer
    && is_between 1 max_slot_count c.query_buffer
    && nat_le c.event_limit max_text_bytes
    && nat_le c.query_limit max_packet_limit
    && nat_le c.response_limit max_packet_limit
    && is_between 1 max_responders c.responders
    && is_between 1 max_per_time c.per_time
