-- What a session is after it was opened.
use Rattle.std.specs.Prelude.{◌≡◌, ◌⊎◌, ◌==◌, if◌then◌else◌, ℕ, List, [], length, true, false, Option, Some, None}
use Rattle.serf_snapshot.specs.Device.{fresh_device}
use Rattle.serf_snapshot.specs.AppendsLine.{opened, opened_device}
use Rattle.serf_agent.specs.declared.config.Config.{Config}
use Rattle.serf_agent.specs.Config.{is_sound}
use Rattle.serf_agent.specs.Defaults.{default_query_limit, default_response_limit}
use Rattle.serf_agent.specs.Ideal.{IdealAgent, with_config}
use Rattle.serf_agent.specs.Restart.{HasPast, restarted, unopened}
use Rattle.serf_agent.specs.Sound.{IsSound}
use Rattle.serf_agent.specs.View.{view_of}
use Rattle.serf_agent_c.specs.declared.code.Code.TheVariants.{Done, OutOfMemory, BadConfig}
use Rattle.serf_agent_c.specs.declared.call_result.CallResult.TheVariants.{Nothing}
use Rattle.serf_agent_c.specs.declared.heads.Settings.{Settings}
use Rattle.serf_agent_c.specs.declared.session.Session.{Session}
use Rattle.serf_agent_c.specs.Codes.{number_of}
use Rattle.serf_agent_c.specs.Numbered.{numbered}

-- A limit of packets, for which 0 means Serf's own limit, because a host in C that leaves the field out has 0 there.
abbrev pub limit_or : ℕ → ℕ → ℕ
limit_or serfs limit = if limit == 0 then serfs else limit

abbrev pub config_of : List ℕ → Settings → Config
config_of name s =
    record { name = name; event_buffer = s.event_buffer; query_buffer = s.query_buffer; event_limit = s.event_limit; query_limit = limit_or default_query_limit s.query_limit; response_limit = limit_or default_response_limit s.response_limit; responders = s.responders; per_time = s.per_time; ignore_old = s.ignore_old; keep_events = s.keep_events }

-- an agent in its next life, with these settings
abbrev pub next_life : Config → List ℕ → IdealAgent → IdealAgent
next_life config text i = restarted text (opened text (fresh_device text)) (with_config config i)

-- Take any agent whose times are in the text, together with everything that it accepted if these settings keep events;
-- its own settings may have been any. The session is this agent in its next life, which is sound.
abbrev pub GoesOn : List ℕ → Settings → List ℕ → Session → Type 0
GoesOn name settings text s =
    (i : IdealAgent) → IsSound i → HasPast (config_of name settings) i text → (s.agent.concrete ≡ view_of (next_life (config_of name settings) text i)) × IsSound (next_life (config_of name settings) text i)

-- For every text, it is the next life of an agent that has accepted nothing.
abbrev pub IsFirst : List ℕ → Settings → List ℕ → Session → Type 0
IsFirst name settings text s =
    (s.agent.concrete ≡ view_of (restarted text (opened text (fresh_device text)) (unopened (config_of name settings) (opened text (fresh_device text)))))
    × IsSound (restarted text (opened text (fresh_device text)) (unopened (config_of name settings) (opened text (fresh_device text))))

-- It has no result yet. Its text is that of the file, followed by the end of a torn last line, which is pending for the
-- file.
abbrev pub IsFresh : List ℕ → Session → Type 0
IsFresh text s = (s.agent.device ≡ opened_device text (fresh_device text)) × (s.written ≡ length text) × (s.replaces ≡ false) × (s.call_result ≡ Nothing) × (numbered s.waiting ≡ record { handed = 0; waiting = [] }) × (s.filters ≡ []) × (s.status.items ≡ []) × (s.left ≡ []) × (s.burst.items ≡ [])

-- How an opening into an empty handle ends: with a session, or without one if the settings are out of bounds or memory
-- runs out.
abbrev pub EndsAs : Config → Option Session → ℕ → Type 0
EndsAs config (Some s) n = (n ≡ number_of Done) × (is_sound config ≡ true)
EndsAs config None n = ((n ≡ number_of BadConfig) × (is_sound config ≡ false)) ⊎ (n ≡ number_of OutOfMemory)
