-- The lines of calls.
use Rattle.std.specs.Prelude.{ℕ, ◌++◌, Bool, List, [], Some, codes, decimal}
use Rattle.serf_agent.specs.declared.config.Config.{Config}
use Rattle.serf_model.specs.declared.action.Action.{Action}
use Rattle.serf_model.specs.declared.action.Action.TheVariants as actions
use Rattle.serf_schedule.specs.ScheduleText.{act_words, config_words, spaced, verb_word}
use Rattle.serf_text.specs.TextParts.{flag_text, hex_text}

-- A number, bytes or a truth value as a word, with a space before it.
unfoldable pub number_word : ℕ → List ℕ
number_word n = codes " " ++ decimal n

unfoldable pub hex_word : List ℕ → List ℕ
hex_word bytes = codes " " ++ hex_text bytes

unfoldable pub flag_word : Bool → List ℕ
flag_word flag = codes " " ++ flag_text flag

-- a name and a payload
unfoldable pub texts_words : List ℕ → List ℕ → List ℕ
texts_words name payload = hex_word name ++ hex_word payload

-- an agent of these settings on a snapshot of this text
unfoldable pub open_line : Config → List ℕ → List ℕ
open_line c text = codes "open" ++ spaced (config_words c) ++ hex_word text ++ codes "\n"

-- the Lamport time of a query, and the query's ID
unfoldable pub moment_words : ℕ → ℕ → List ℕ
moment_words now id = number_word now ++ number_word id

-- The line of an action's call, if the agent gets this packet. It doesn't have the agent's number, and it has the
-- packet's bytes in place of its number. An injection isn't a call of any agent.
abbrev pub call_line : Action → List ℕ → List ℕ
call_line (actions.Inject bytes) given = []
call_line (actions.Of agent act) given = verb_word act ++ spaced (act_words (Some given) act) ++ codes "\n"
