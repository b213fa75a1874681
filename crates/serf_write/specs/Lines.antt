-- What a line does, and what it adds.
use Rattle.std.specs.Prelude.{◌^◌, ◌-◌, ℕ, ◌==◌, ◌+◌, ◌++◌, nat_lt, Bool, true, false, if◌then◌else◌, List, [], ◌∷◌, length, take, drop, codes, position, Option, Some, None, Result, Ok}
use Rattle.std.specs.Option.{is_some}
use Rattle.std.specs.Str.{bytes_eq}
use Rattle.serf_agent.specs.declared.config.Config.{Config}
use Rattle.serf_agent.specs.Config.{is_sound}
use Rattle.serf_agent.specs.Defaults.{default_config}
use Rattle.serf_model.specs.declared.action.Act.{Act}
use Rattle.serf_model.specs.declared.action.Act.TheVariants as acts
use Rattle.serf_model.specs.declared.action.Action.{Action}
use Rattle.serf_model.specs.declared.action.Action.TheVariants as actions
use Rattle.serf_model.specs.Runs.{has_name}
use Rattle.serf_text.specs.Words.{between, number_of}
use Rattle.serf_write.specs.declared.word_error.WordError.{WordError}
use Rattle.serf_write.specs.declared.word_error.Expected.TheVariants as expected
use Rattle.serf_write.specs.declared.actions.Operation.{Operation}
use Rattle.serf_write.specs.declared.actions.Operation.TheVariants.{One, Two}
use Rattle.serf_write.specs.declared.labels.Label.{Label}
use Rattle.serf_write.specs.declared.token.Token.{Token}
use Rattle.serf_write.specs.declared.token.Token.TheVariants.{Word, Text}
use Rattle.serf_write.specs.Gives.{◌>>=◌, wrong, or_wrong}
use Rattle.serf_write.specs.Values.{agent_in, bytes_in, payload_in, ends_after, mode_in, moment_in, number_in, packet_in, token_at, sink_call_in, word_at, word_of}

-- Agents

-- the settings after the number with this key is set
abbrev pub set_number : ℕ → Config → List ℕ → Option ℕ → Result Config WordError
set_number place config key None = wrong place expected.Setting
set_number place config key (Some n) =
    if bytes_eq key (codes "events") then Ok (record config { event_buffer = n })
    else if bytes_eq key (codes "queries") then Ok (record config { query_buffer = n })
    else if bytes_eq key (codes "limit") then Ok (record config { event_limit = n })
    else if bytes_eq key (codes "querylimit") then Ok (record config { query_limit = n })
    else if bytes_eq key (codes "responselimit") then Ok (record config { response_limit = n })
    else if bytes_eq key (codes "responders") then Ok (record config { responders = n })
    else if bytes_eq key (codes "pertime") then Ok (record config { per_time = n })
    else wrong place expected.Setting

-- the settings after a key and its number, with `=` at this index of the word
abbrev pub set_key : ℕ → Config → List ℕ → Option ℕ → Result Config WordError
set_key place config word None = wrong place expected.Setting
set_key place config word (Some at) = set_number place config (take at word) (number_of (drop (at + 1) word))

unfoldable pub with_setting : ℕ → Config → List ℕ → Result Config WordError
with_setting place config word =
    if bytes_eq word (codes "keep") then Ok (record config { ignore_old = false })
    else if bytes_eq word (codes "ignore") then Ok (record config { ignore_old = true })
    else if bytes_eq word (codes "keep-events") then Ok (record config { keep_events = true })
    else set_key place config word (position (λ b. b == 61) word)

-- the settings, if an agent can have them; the word at this place was read last
abbrev pub in_bounds : ℕ → Config → Result Config WordError
in_bounds place config = if is_sound config then Ok config else wrong place expected.Bounds

-- The tokens from this place on are settings, and each of them has to be within its bounds. If one appears more than once,
-- its last value applies.
abbrev pub settings_from : ℕ → Config → List Token → Result Config WordError
settings_from place config [] = Ok config
settings_from place config (token ∷ tokens) = (with_setting place config (word_of (Some token)) >>= in_bounds place) >>= (λ config. settings_from (place + 1) config tokens)

-- the name of an agent; a word that is a number isn't a name, because it is an agent's number in other lines
abbrev pub name_said : Option Token → Result (List ℕ) WordError
name_said None = wrong 2 expected.NewName
name_said (Some (Word word)) = if is_some (number_of word) then wrong 2 expected.NameInQuotes else Ok word
name_said (Some (Text text)) = Ok text

-- the default settings of an agent with this name, which no agent above has
abbrev pub new_named : List Config → List ℕ → Result Config WordError
new_named configs name = in_bounds 2 (default_config name) >>= (λ config. if has_name configs name then wrong 2 expected.NewName else Ok config)

unfoldable pub agent_of : List Config → List Token → Result Config WordError
agent_of configs tokens = do
  name ← name_said (token_at 2 tokens)
  config ← new_named configs name
  settings_from 3 config (drop 2 tokens)

abbrev pub agent_after : List Config → List Token → Result (List Config) WordError
agent_after configs tokens = agent_of configs tokens >>= (λ config. Ok (configs ++ config ∷ []))

-- Actions

abbrev pub actions_of : Operation → List Action
actions_of (One action) = action ∷ []
actions_of (Two first second) = first ∷ second ∷ []

-- the word is optional
unfoldable pub coalesce_in : ℕ → List Token → Result Bool WordError
coalesce_in place tokens =
    if nat_lt (length tokens) place then Ok false
    else if bytes_eq (word_at place tokens) (codes "coalesce") then Ok true
    else wrong place expected.Coalesce

unfoldable pub tail_in : ℕ → List Token → Result (List ℕ) WordError
tail_in place tokens =
    if nat_lt (length tokens) place then Ok []
    else if bytes_eq (word_at place tokens) (codes "tail") then bytes_in (place + 1) tokens
    else wrong place expected.Tail

-- the calls of a sink are counted from 1, and the next call is meant if the line has no number there
unfoldable pub count_in : ℕ → List Token → Result ℕ WordError
count_in place tokens =
    if nat_lt (length tokens) place then Ok 1
    else or_wrong place expected.Count (between 1 (2 ^ 64 - 1) (number_of (word_at place tokens)))

-- the action in which the agent of the second token does this
abbrev pub by_agent : List Config → List Token → Result Act WordError → Result (List Action) WordError
by_agent configs tokens said = do
  agent ← agent_in configs 2 tokens
  act ← said
  Ok (actions.Of agent act ∷ [])

-- an event whose line may have a payload, and after it `coalesce`
abbrev pub firing_with_payload : List ℕ → List Token → Result Act WordError
firing_with_payload name tokens = do
  payload ← payload_in 4 tokens
  coalesce ← coalesce_in 5 tokens
  end ← ends_after 5 tokens
  Ok (acts.Fire name payload coalesce)

-- an event without a payload, with `coalesce` at the fourth place
abbrev pub firing_without_payload : List ℕ → List Token → Result Act WordError
firing_without_payload name tokens = do
  end ← ends_after 4 tokens
  Ok (acts.Fire name [] true)

unfoldable pub firing_of : List Token → Result Act WordError
firing_of tokens = do
  name ← bytes_in 3 tokens
  if bytes_eq (word_at 4 tokens) (codes "coalesce") then firing_without_payload name tokens else firing_with_payload name tokens

unfoldable pub delivery_of : List Label → List Token → Result Act WordError
delivery_of labels tokens = do
  packet ← packet_in labels 3 tokens
  now ← moment_in 4 tokens
  end ← ends_after 5 tokens
  Ok (acts.Deliver packet now)

unfoldable pub merging_of : List Label → List Token → Result Act WordError
merging_of labels tokens = do
  packet ← packet_in labels 3 tokens
  join ← mode_in 4 tokens
  end ← ends_after 4 tokens
  Ok (acts.Merge packet join)

unfoldable pub answer_of : List Token → Result Act WordError
answer_of tokens = do
  handed ← number_in 3 tokens
  payload ← bytes_in 4 tokens
  now ← moment_in 5 tokens
  end ← ends_after 6 tokens
  Ok (acts.Respond handed now payload)

unfoldable pub restart_of : List Token → Result Act WordError
restart_of tokens = do
  tail ← tail_in 3 tokens
  end ← ends_after 4 tokens
  Ok (acts.Restart tail)

unfoldable pub break_of : List Token → Result Act WordError
break_of tokens = do
  call ← sink_call_in 3 tokens
  count ← count_in 4 tokens
  end ← ends_after 4 tokens
  Ok (acts.Break call count)

unfoldable pub closing_of : List Token → Result Act WordError
closing_of tokens = do
  now ← moment_in 3 tokens
  end ← ends_after 4 tokens
  Ok (acts.Close now)

-- an act without arguments
unfoldable pub bare_of : Act → List Token → Result Act WordError
bare_of act tokens = do
  end ← ends_after 2 tokens
  Ok act

unfoldable pub injection_of : List Token → Result (List Action) WordError
injection_of tokens = do
  bytes ← bytes_in 2 tokens
  end ← ends_after 2 tokens
  Ok (actions.Inject bytes ∷ [])

-- Bytes are injected as the packet with this number, and the agent receives it.
unfoldable pub giving_of : List Config → ℕ → List Token → Result (List Action) WordError
giving_of configs sent tokens = do
  to ← agent_in configs 2 tokens
  bytes ← bytes_in 3 tokens
  now ← moment_in 4 tokens
  end ← ends_after 5 tokens
  Ok (actions.Inject bytes ∷ actions.Of to (acts.Deliver sent now) ∷ [])

-- Bytes are injected as the packet with this number, and the agent merges it.
unfoldable pub taking_of : List Config → ℕ → List Token → Result (List Action) WordError
taking_of configs sent tokens = do
  to ← agent_in configs 2 tokens
  bytes ← bytes_in 3 tokens
  join ← mode_in 4 tokens
  end ← ends_after 4 tokens
  Ok (actions.Inject bytes ∷ actions.Of to (acts.Merge sent join) ∷ [])
