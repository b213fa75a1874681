-- The text of a schedule: a line for each agent, and then one for each action.
use Rattle.std.specs.Prelude.{ℕ, ◌==◌, ◌&&◌, ◌+◌, ◌++◌, Bool, if◌then◌else◌, List, [], ◌∷◌, Option, Some, None, codes, decimal, map}
use Rattle.std.specs.Fmt.{signed_decimal}
use Rattle.std.specs.List.{flat_map}
use Rattle.serf_agent.specs.declared.config.Config.{Config}
use Rattle.serf_agent.specs.declared.outcome.QueryParams.{QueryParams}
use Rattle.serf_agent.specs.Defaults.{default_query_limit, default_response_limit}
use Rattle.serf_model.specs.declared.action.Act.{Act}
use Rattle.serf_model.specs.declared.action.Act.TheVariants as acts
use Rattle.serf_model.specs.declared.action.Action.{Action}
use Rattle.serf_model.specs.declared.action.Action.TheVariants as actions
use Rattle.serf_model.specs.declared.action.SinkCall.{SinkCall}
use Rattle.serf_model.specs.declared.action.SinkCall.TheVariants.{Append, Flush, ReplaceOld, ReplaceNew}
pub use Rattle.serf_schedule.specs.Command.{verb_word}
use Rattle.serf_schedule.specs.Line.{Parsed}
use Rattle.serf_text.specs.TextParts.{flag_text, hex_text}

-- Words

abbrev pub mode_word : Config → List ℕ
mode_word c =
    if c.keep_events then (if c.ignore_old then codes "ignore+events" else codes "keep+events")
    else if c.ignore_old then codes "ignore"
    else codes "keep"

abbrev pub join_word : Bool → List ℕ
join_word join = if join then codes "join" else codes "sync"

abbrev pub sink_call_word : SinkCall → List ℕ
sink_call_word Append = codes "append"
sink_call_word Flush = codes "flush"
sink_call_word ReplaceOld = codes "replace-old"
sink_call_word ReplaceNew = codes "replace-new"

-- 1 requests acks, and 2 means no broadcast
abbrev pub flags_of : QueryParams → ℕ
flags_of params = (if params.want_ack then 1 else 0) + (if params.no_broadcast then 2 else 0)

-- The words of an agent's settings, and of what it does. A query says nothing about tags or about the address to which
-- answers go.

-- the limits on packets are left out if both are the default
abbrev pub limit_words : Config → List (List ℕ)
limit_words c =
    if (c.query_limit == default_query_limit) && (c.response_limit == default_response_limit) then []
    else decimal c.query_limit ∷ decimal c.response_limit ∷ []

abbrev pub config_words : Config → List (List ℕ)
config_words c = hex_text c.name ∷ decimal c.event_buffer ∷ decimal c.query_buffer ∷ decimal c.event_limit ∷ decimal c.responders ∷ mode_word c ∷ decimal c.per_time ∷ limit_words c

-- the bytes of a packet if they are passed in, and otherwise its number
abbrev pub packet_word : Option (List ℕ) → ℕ → List ℕ
packet_word None packet = decimal packet
packet_word (Some bytes) packet = hex_text bytes

-- the words after the verb, or after the agent's number if it is written
abbrev pub act_words : Option (List ℕ) → Act → List (List ℕ)
act_words given (acts.Fire name payload coalesce) = hex_text name ∷ hex_text payload ∷ flag_text coalesce ∷ []
act_words given (acts.Deliver packet now) = packet_word given packet ∷ decimal now ∷ []
act_words given (acts.Merge packet join) = packet_word given packet ∷ join_word join ∷ []
act_words given (acts.Query q) =
    decimal q.moment ∷ decimal q.id ∷ hex_text q.name ∷ hex_text q.payload ∷ signed_decimal q.params.timeout ∷ decimal (flags_of q.params)
    ∷ map hex_text q.params.filters
act_words given (acts.Respond handed now payload) = decimal handed ∷ decimal now ∷ hex_text payload ∷ []
act_words given (acts.Restart tail) = hex_text tail ∷ []
act_words given (acts.Break call count) = sink_call_word call ∷ decimal count ∷ []
act_words given (acts.Close now) = decimal now ∷ []
act_words given _ = []

-- The words of the lines of a schedule.

abbrev pub agent_words : Config → List (List ℕ)
agent_words c = codes "agent" ∷ config_words c

abbrev pub action_words : Action → List (List ℕ)
action_words (actions.Inject bytes) = codes "inject" ∷ hex_text bytes ∷ []
action_words (actions.Of agent act) = verb_word act ∷ decimal agent ∷ act_words None act

-- Lines

-- words with a space before each
abbrev pub spaced : List (List ℕ) → List ℕ
spaced words = flat_map (λ word. codes " " ++ word) words

-- words with a space between them, and a newline
abbrev pub line_text : List (List ℕ) → List ℕ
line_text [] = codes "\n"
line_text (word ∷ words) = word ++ spaced words ++ codes "\n"

unfoldable pub agent_text : Config → List ℕ
agent_text config = line_text (agent_words config)

unfoldable pub action_text : Action → List ℕ
action_text action = line_text (action_words action)

abbrev pub schedule_text : Parsed → List ℕ
schedule_text p = flat_map agent_text p.configs ++ flat_map action_text p.actions
