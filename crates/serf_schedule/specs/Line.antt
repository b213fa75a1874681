-- What a line adds to the schedule before it.
use Rattle.std.specs.Prelude.{◌^◌, ◌-◌, ℕ, pos, ◌==◌, ◌+◌, ◌++◌, ◌%◌, ◌||◌, nat_le, nat_lt, Bool, true, false, not, if◌then◌else◌, List, [], ◌∷◌, length, take, drop, codes, slice_index, Option, Some, None, Result, Ok, Err}
use Rattle.std.specs.Str.{bytes_eq}
use Rattle.serf_agent.specs.Config.{is_sound}
use Rattle.serf_agent.specs.declared.config.Config.{Config}
use Rattle.serf_agent.specs.declared.outcome.QueryParams.{QueryParams}
use Rattle.serf_agent.specs.Defaults.{default_per_time, default_query_limit, default_response_limit}
use Rattle.serf_model.specs.declared.action.Act.{Act as Deed}
use Rattle.serf_model.specs.declared.action.Act.TheVariants as acts
use Rattle.serf_model.specs.declared.action.Action.{Action}
use Rattle.serf_model.specs.declared.action.Action.TheVariants as actions
use Rattle.serf_model.specs.Runs.{has_name}
use Rattle.serf_schedule.specs.declared.modes.Mode.{Mode}
use Rattle.serf_schedule.specs.declared.command.Command.{Command}
use Rattle.serf_schedule.specs.declared.command.Command.TheVariants.{Agent, Inject, Query, Act}
use Rattle.serf_schedule.specs.declared.command.Verb.{Verb}
use Rattle.serf_schedule.specs.declared.command.Verb.TheVariants.{Deliver, Fire, Merge, Respond, Restart, Break, Close, Bare}
use Rattle.serf_text.specs.declared.cause.Cause.{Cause}
use Rattle.serf_text.specs.declared.cause.Cause.TheVariants.{UnknownWord, LateAgent, WordCount, BadConfig, NameTwice}
use Rattle.serf_schedule.specs.Command.{command_of, count_of, bare_act}
use Rattle.serf_text.specs.Gives.{◌>>=◌}
use Rattle.serf_text.specs.Words.{words_of, word_at, bytes_of, or_bad, number_in, number_between, bytes_in, choice_in}
use Rattle.serf_schedule.specs.Sinks.{sink_call_in}

-- the agents and the actions so far, in order
pub record Parsed : Type 0 where
  pub configs : List Config
  pub actions : List Action

-- Agents

-- how many events of one time an agent accepts: the number in the eighth word, or the default if there are only seven
-- words
unfoldable pub per_time_in : List (List ℕ) → Result ℕ Cause
per_time_in words = if length words == 7 then Ok default_per_time else number_in 8 words

-- how many words an agent's line may have: ten, or eight without the two limits on packets, or seven if PERTIME is
-- omitted too
abbrev pub is_agent_count : ℕ → Bool
is_agent_count count = (count == 7) || (count == 8) || (count == 10)

-- a limit on packets: the number at its place if there are ten words, and otherwise the default
unfoldable pub limit_in : ℕ → ℕ → List (List ℕ) → Result ℕ Cause
limit_in place default words = if length words == 10 then number_in place words else Ok default

-- what a word says: whether an agent ignores old events at a join, and whether it keeps its events across restarts
abbrev pub mode_of : List ℕ → Option Mode
mode_of word =
    if bytes_eq word (codes "keep") then Some (record { ignore_old = false; keep_events = false })
    else if bytes_eq word (codes "ignore") then Some (record { ignore_old = true; keep_events = false })
    else if bytes_eq word (codes "keep+events") then Some (record { ignore_old = false; keep_events = true })
    else if bytes_eq word (codes "ignore+events") then Some (record { ignore_old = true; keep_events = true })
    else None

-- what the word at a place says about this
unfoldable pub mode_in : ℕ → List (List ℕ) → Result Mode Cause
mode_in place words = or_bad place (mode_of (word_at place words))

-- the agent that these words describe
unfoldable pub agent_of : List (List ℕ) → Result Config Cause
agent_of words = do
  name ← bytes_in 2 words
  events ← number_in 3 words
  queries ← number_in 4 words
  limit ← number_in 5 words
  responders ← number_in 6 words
  mode ← mode_in 7 words
  per_time ← per_time_in words
  query_limit ← limit_in 9 default_query_limit words
  response_limit ← limit_in 10 default_response_limit words
  Ok (record { name = name; event_buffer = events; query_buffer = queries; event_limit = limit; query_limit = query_limit; response_limit = response_limit; responders = responders; per_time = per_time; ignore_old = mode.ignore_old; keep_events = mode.keep_events })

abbrev pub add_agent : Parsed → Config → Result Parsed Cause
add_agent before config =
    if not (is_sound config) then Err BadConfig
    else if has_name before.configs config.name then Err NameTwice
    else Ok (record before { configs = before.configs ++ config ∷ [] })

abbrev pub agent_line : Parsed → List (List ℕ) → Result Parsed Cause
agent_line before words =
    if nat_lt 0 (length before.actions) then Err LateAgent
    else if not (is_agent_count (length words)) then Err WordCount
    else agent_of words >>= add_agent before

-- Actions

abbrev pub with_action : Parsed → Action → Parsed
with_action before action = record before { actions = before.actions ++ action ∷ [] }

abbrev pub add_action : Parsed → Action → Result Parsed Cause
add_action before action = Ok (with_action before action)

-- the action in which the agent of the second word does this
abbrev pub by_agent : List (List ℕ) → Result Deed Cause → Result Action Cause
by_agent words deed = do
  agent ← number_in 2 words
  act ← deed
  Ok (actions.Of agent act)

unfoldable pub firing_of : List (List ℕ) → Result Deed Cause
firing_of words = do
  name ← bytes_in 3 words
  payload ← bytes_in 4 words
  coalesce ← choice_in (codes "0") (codes "1") 5 words
  Ok (acts.Fire name payload coalesce)

unfoldable pub delivery_of : List (List ℕ) → Result Deed Cause
delivery_of words = do
  packet ← number_in 3 words
  now ← number_in 4 words
  Ok (acts.Deliver packet now)

unfoldable pub merging_of : List (List ℕ) → Result Deed Cause
merging_of words = do
  packet ← number_in 3 words
  join ← choice_in (codes "sync") (codes "join") 4 words
  Ok (acts.Merge packet join)

unfoldable pub answer_of : List (List ℕ) → Result Deed Cause
answer_of words = do
  handed ← number_in 3 words
  now ← number_in 4 words
  payload ← bytes_in 5 words
  Ok (acts.Respond handed now payload)

unfoldable pub restart_of : List (List ℕ) → Result Deed Cause
restart_of words = do
  tail ← bytes_in 3 words
  Ok (acts.Restart tail)

-- the calls of a sink are counted from 1
unfoldable pub break_of : List (List ℕ) → Result Deed Cause
break_of words = do
  call ← sink_call_in 3 words
  count ← number_between 1 (2 ^ 64 - 1) 4 words
  Ok (acts.Break call count)

unfoldable pub closing_of : List (List ℕ) → Result Deed Cause
closing_of words = do
  now ← number_in 3 words
  Ok (acts.Close now)

-- what an agent does, as the words of its line say
abbrev pub act_of : Verb → List (List ℕ) → Result Deed Cause
act_of Deliver words = delivery_of words
act_of Fire words = firing_of words
act_of Merge words = merging_of words
act_of Respond words = answer_of words
act_of Restart words = restart_of words
act_of Break words = break_of words
act_of Close words = closing_of words
act_of (Bare bare) words = Ok (bare_act bare)

abbrev pub act_line : Verb → Parsed → List (List ℕ) → Result Parsed Cause
act_line verb before words = if not (length words == count_of verb) then Err WordCount else by_agent words (act_of verb words) >>= add_action before

unfoldable pub injection_of : List (List ℕ) → Result Action Cause
injection_of words = do
  bytes ← bytes_in 2 words
  Ok (actions.Inject bytes)

abbrev pub injection_line : Parsed → List (List ℕ) → Result Parsed Cause
injection_line before words = if not (length words == 2) then Err WordCount else injection_of words >>= add_action before

-- Queries

-- the earlier filters, and after them those that these words spell; the first word is at this place of its line
abbrev pub filters_from : List (List ℕ) → ℕ → List (List ℕ) → Result (List (List ℕ)) Cause
filters_from before place [] = Ok before
filters_from before place (word ∷ words) = or_bad place (bytes_of word) >>= (λ filter. filters_from (before ++ filter ∷ []) (place + 1) words)

-- How a query is fired, as eight words and the filters after them say. The flag 1 requests acks, and 2 means no
-- broadcast. A schedule says nothing about tags or about the address to which answers go.
unfoldable pub params_of : List (List ℕ) → List (List ℕ) → Result QueryParams Cause
params_of words filters = do
  timeout ← number_between 0 9223372036854775807 7 words
  flags ← number_between 0 3 8 words
  filters ← filters_from [] 9 filters
  Ok (record { filters = filters; want_ack = flags % 2 == 1; no_broadcast = nat_le 2 flags; tags_pass = false; timeout = pos timeout; addr = []; port = 0; relay_factor = 0 })

unfoldable pub query_of : List (List ℕ) → List (List ℕ) → Result Deed Cause
query_of words filters = do
  moment ← number_in 3 words
  id ← number_between 0 (2 ^ 32 - 1) 4 words
  name ← bytes_in 5 words
  payload ← bytes_in 6 words
  params ← params_of words filters
  Ok (acts.Query record { moment = moment; id = id; name = name; payload = payload; params = params })

abbrev pub query_said : Parsed → List (List ℕ) → List (List ℕ) → Result Parsed Cause
query_said before words filters = if nat_lt (length words) 8 then Err WordCount else by_agent words (query_of words filters) >>= add_action before

-- the words from the ninth on are filters
abbrev pub query_line : Parsed → List (List ℕ) → Result Parsed Cause
query_line before words = query_said before (take 8 words) (drop 8 words)

-- Lines

abbrev pub command_line : Option Command → Parsed → List (List ℕ) → Result Parsed Cause
command_line None before words = Err UnknownWord
command_line (Some Agent) before words = agent_line before words
command_line (Some Inject) before words = injection_line before words
command_line (Some Query) before words = query_line before words
command_line (Some (Act verb)) before words = act_line verb before words

-- what the words of a line add
abbrev pub said_by : Parsed → List (List ℕ) → Result Parsed Cause
said_by before words = command_line (command_of (word_at 1 words)) before words

-- a comment, or a line without words
abbrev pub is_skipped : List ℕ → Bool
is_skipped line = (slice_index line 0 == 35) || (length (words_of line) == 0)

unfoldable pub after_line : Parsed → List ℕ → Result Parsed Cause
after_line before line = if is_skipped line then Ok before else said_by before (words_of line)
