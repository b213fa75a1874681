-- The objects with the settings of agents.
use Rattle.std.specs.Prelude.{ℕ, ◌+◌, ◌++◌, List, [], ◌∷◌, codes}
use Rattle.serf_agent.specs.declared.config.Config.{Config}
use Rattle.serf_json.specs.Json.{bytes_member}
use Rattle.serf_json.specs.Object.{object_text}
use Rattle.serf_run_json.specs.Members.{flag_member, joined, number_member}

-- the members with the settings of agent number `a`
unfoldable pub settings_members : ℕ → Config → List ℕ
settings_members a c = joined (
    number_member (codes "agent") a ∷ bytes_member (codes "agent_name") c.name
    ∷ number_member (codes "event_buffer") c.event_buffer ∷ number_member (codes "query_buffer") c.query_buffer
    ∷ number_member (codes "event_limit") c.event_limit ∷ number_member (codes "query_limit") c.query_limit
    ∷ number_member (codes "response_limit") c.response_limit ∷ number_member (codes "responders") c.responders
    ∷ number_member (codes "per_time") c.per_time ∷ flag_member (codes "ignore_old") c.ignore_old
    ∷ flag_member (codes "keep_events") c.keep_events ∷ [])

abbrev pub settings_object : ℕ → Config → List ℕ
settings_object a c = object_text (codes "agent") (settings_members a c)

-- the objects with the settings of these agents, which are numbered from `a` on
abbrev pub agents_text : ℕ → List Config → List ℕ
agents_text a [] = []
agents_text a (c ∷ cs) = settings_object a c ++ agents_text (a + 1) cs
