-- What a written text means: agents, actions and labels, or its first error.
use Rattle.std.specs.Prelude.{◌^◌, ℕ, ◌==◌, ◌+◌, ◌-◌, ◌++◌, ◌&&◌, nat_lt, min, Bool, not, if◌then◌else◌, List, [], ◌∷◌, length, take, drop, codes, slice_index, Option, Some, None, Result, Ok, Err}
use Rattle.std.specs.List.{slice_split, list_any}
use Rattle.std.specs.Option.{is_some}
use Rattle.std.specs.Str.{bytes_eq}
use Rattle.serf_agent.specs.declared.config.Config.{Config}
use Rattle.serf_model.specs.declared.action.Act.{Act}
use Rattle.serf_model.specs.declared.action.Action.{Action}
use Rattle.serf_model.specs.Cluster.{run_of}
use Rattle.serf_schedule.specs.declared.command.Verb.{Verb as ScheduleVerb}
use Rattle.serf_schedule.specs.declared.command.Verb.TheVariants as verbs_of_schedules
use Rattle.serf_schedule.specs.Command.{bare_act}
use Rattle.serf_schedule.specs.Line.{Parsed}
use Rattle.serf_text.specs.Words.{number_of}
use Rattle.serf_write.specs.declared.word_error.WordError.{WordError}
use Rattle.serf_write.specs.declared.word_error.Expected.TheVariants as expected
use Rattle.serf_write.specs.declared.labels.Label.{Label}
use Rattle.serf_write.specs.declared.token.Token.{Token}
use Rattle.serf_write.specs.declared.said.Verb.{Verb}
use Rattle.serf_write.specs.declared.said.Verb.TheVariants as verbs
use Rattle.serf_write.specs.Gives.{◌>>=◌, wrong, or_wrong}
use Rattle.serf_write.specs.Lines.{agent_after, answer_of, break_of, by_agent, closing_of, delivery_of, firing_of, giving_of, injection_of, bare_of, merging_of, restart_of, taking_of}
use Rattle.serf_write.specs.Tokens.{tokens_of}
use Rattle.serf_write.specs.Queries.{query_of}
use Rattle.serf_write.specs.Values.{label_named, word_at}
use Rattle.serf_write.specs.Verbs.{verb_of}

-- the agents, the actions and the labels so far, in order
pub record Written : Type 0 where
  pub configs : List Config
  pub actions : List Action
  pub labels : List Label

-- how many packets the run of these actions sends
unfoldable pub sent_count : List Config → List Action → ℕ
sent_count configs actions = length (run_of configs actions).cluster.sent

-- what an agent does in a line whose first word is a word of schedules other than `query`
abbrev pub act_of : ScheduleVerb → List Label → List Token → Result Act WordError
act_of verbs_of_schedules.Deliver labels tokens = delivery_of labels tokens
act_of verbs_of_schedules.Fire labels tokens = firing_of tokens
act_of verbs_of_schedules.Merge labels tokens = merging_of labels tokens
act_of verbs_of_schedules.Respond labels tokens = answer_of tokens
act_of verbs_of_schedules.Restart labels tokens = restart_of tokens
act_of verbs_of_schedules.Break labels tokens = break_of tokens
act_of verbs_of_schedules.Close labels tokens = closing_of tokens
act_of (verbs_of_schedules.Bare bare) labels tokens = bare_of (bare_act bare) tokens

-- the actions of a line, before which this number of packets was sent
abbrev pub acts_of : Verb → List Config → List Label → ℕ → List Token → Result (List Action) WordError
acts_of (verbs.Act verb) configs labels sent tokens = by_agent configs tokens (act_of verb labels tokens)
acts_of verbs.Inject configs labels sent tokens = injection_of tokens
acts_of verbs.Query configs labels sent tokens = by_agent configs tokens (query_of tokens)
acts_of verbs.Give configs labels sent tokens = giving_of configs sent tokens
acts_of verbs.Take configs labels sent tokens = taking_of configs sent tokens

unfoldable pub acts_said : List Config → List Label → ℕ → List Token → Result (List Action) WordError
acts_said configs labels sent tokens = or_wrong 1 expected.Command (verb_of (word_at 1 tokens)) >>= (λ verb. acts_of verb configs labels sent tokens)

abbrev pub with_acts : Written → List Action → Result Written WordError
with_acts before acts = Ok (record before { actions = before.actions ++ acts })

-- a line of actions
abbrev pub act_line : Written → List Token → Result Written WordError
act_line before tokens = acts_said before.configs before.labels (sent_count before.configs before.actions) tokens >>= with_acts before

-- an agent line
abbrev pub agent_line : Written → List Token → Result Written WordError
agent_line before tokens =
    if nat_lt 0 (length before.actions) then wrong 1 expected.AgentsFirst
    else agent_after before.configs tokens >>= (λ configs. Ok (record before { configs = configs }))

abbrev pub plain_line : Written → List Token → Result Written WordError
plain_line before tokens = if bytes_eq (word_at 1 tokens) (codes "agent") then agent_line before tokens else act_line before tokens

-- Labels

-- the part of a word before the colon at its end
abbrev pub label_of : List ℕ → Option (List ℕ)
label_of word = if nat_lt 0 (length word) && (slice_index word (length word - 1) == 58) then Some (take (length word - 1) word) else None

-- a name that a new label can have: it isn't empty, isn't a number and has no slash, and no label has it
abbrev pub is_new_label : List Label → List ℕ → Bool
is_new_label labels name =
    nat_lt 0 (length name) && not (is_some (number_of name)) && not (list_any (λ b. b == 47) name) && not (is_some (label_named labels name))

-- the place of an error counts the label too
abbrev pub after_label : {A : Type 0} → Result A WordError → Result A WordError
after_label (Ok x) = Ok x
after_label (Err error) = Err (record { place = min (error.place + 1) (2 ^ 64 - 1); expected = error.expected })

-- the packets that were sent between the two have this label
abbrev pub with_label : List ℕ → Written → Written → Written
with_label name before after = record after {
  labels = before.labels ++ record {
    name = name;
    first = sent_count before.configs before.actions;
    past = sent_count after.configs after.actions;
  } ∷ [];
}

abbrev pub labelled_line : Written → List ℕ → List Token → Result Written WordError
labelled_line before name tokens =
    if not (is_new_label before.labels name) then wrong 1 expected.Label
    else after_label (act_line before tokens) >>= (λ after. Ok (with_label name before after))

abbrev pub by_label : Option (List ℕ) → Written → List Token → Result Written WordError
by_label None before tokens = plain_line before tokens
by_label (Some name) before tokens = labelled_line before name (drop 1 tokens)

-- Lines

abbrev pub said_by : Written → List Token → Result Written WordError
said_by before tokens = if length tokens == 0 then Ok before else by_label (label_of (word_at 1 tokens)) before tokens

unfoldable pub after_line : Written → List ℕ → Result Written WordError
after_line before line = tokens_of line >>= said_by before

-- the number of a line, counted from 1, and its error
pub record BadLine : Type 0 where
  pub line : ℕ
  pub error : WordError

abbrev pub at_line : {A : Type 0} → ℕ → Result A WordError → (A → Result A BadLine) → Result A BadLine
at_line number (Ok after) next = next after
at_line number (Err error) next = Err (record { line = number; error = error })

abbrev pub after_lines : ℕ → Written → List (List ℕ) → Result Written BadLine
after_lines number before [] = Ok before
after_lines number before (line ∷ lines) = at_line number (after_line before line) (λ after. after_lines (number + 1) after lines)

abbrev pub nothing : Written
nothing = record { configs = []; actions = []; labels = [] }

-- a text without the byte order mark of UTF-8 at its beginning, if it has one
abbrev pub after_mark : List ℕ → List ℕ
after_mark text = if bytes_eq (take 3 text) (239 ∷ 187 ∷ 191 ∷ []) then drop 3 text else text

-- what a written text means
abbrev pub written_of : List ℕ → Result Written BadLine
written_of text = after_lines 1 nothing (slice_split (λ b. b == 10) (after_mark text))

abbrev pub schedule_meant : Written → Parsed
schedule_meant w = record { configs = w.configs; actions = w.actions }
