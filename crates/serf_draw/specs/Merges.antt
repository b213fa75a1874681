-- Merges and queries that hand nothing out, and restarts.
use Rattle.std.specs.Prelude.{ℕ, Bool, true, false, ◌&&◌, ◌==◌, ◌++◌, nat_le, if◌then◌else◌, List, [], ◌∷◌, length, codes, decimal, Option, Some, None, Result, Ok}
use Rattle.std.specs.List.{flat_map, list_any}
use Rattle.std.specs.Option.{is_none}
use Rattle.serf_wire.specs.declared.error.WireError.{WireError}
use Rattle.serf_wire.specs.Decoded.{decoded}
use Rattle.serf_wire.specs.Message.{Message, push_pull}
use Rattle.serf_wire.specs.Slots.{SlotContent, empty, held}
use Rattle.serf_model.specs.declared.action.Act.TheVariants as acts
use Rattle.serf_model.specs.declared.action.Action.{Action}
use Rattle.serf_model.specs.declared.action.Action.TheVariants as actions
use Rattle.serf_model.specs.declared.line.Answer.{Answer}
use Rattle.serf_model.specs.declared.line.Answer.TheVariants as answers
use Rattle.serf_model.specs.declared.line.EventLine.{EventLine}
use Rattle.serf_model.specs.declared.line.Line.{Line}
use Rattle.serf_schedule.specs.Show.{answer_text}

-- the times of the events that a state carries, in their order: of a slot, of all slots, and of a packet
abbrev pub slot_times : SlotContent → List ℕ
slot_times empty = []
slot_times (held t events) = flat_map (λ e. t ∷ []) events

abbrev pub slots_times : List SlotContent → List ℕ
slots_times slots = flat_map slot_times slots

abbrev pub times_said : Result Message WireError → List ℕ
times_said (Ok (push_pull m)) = slots_times m.slots
times_said _ = []

abbrev pub times_given : Option (List ℕ) → List ℕ
times_given None = []
times_given (Some packet) = times_said (decoded packet)

-- the times of the events that a merge carries, if its packet is `given`; any other action carries none
abbrev pub carried_times : Action → Option (List ℕ) → List ℕ
carried_times (actions.Of agent (acts.Merge packet join)) given = times_given given
carried_times _ given = []

-- the times of the events of a merge that handed out none of them
abbrev pub passed_over : Answer → List EventLine → List ℕ → List ℕ
passed_over answers.Merged events times = if length events == 0 then times else []
passed_over answer events times = []

-- the words that name the minimum, if all of these times are below it
unfoldable pub below_min : List ℕ → ℕ → List ℕ
below_min times lowest = if list_any (λ t. nat_le lowest t) times then [] else codes ", below " ++ decimal lowest

-- the same for the minimum of an agent, if there is one
abbrev pub below_words : List ℕ → Option ℕ → List ℕ
below_words times None = []
below_words times (Some lowest) = below_min times lowest

-- the words which say that none of `n` events was handed out
unfoldable pub nothing_of : ℕ → List ℕ
nothing_of n = codes ": nothing of " ++ decimal n

-- how many events were passed over, and why, if there were any
abbrev pub passed_words : List ℕ → Option ℕ → List ℕ
passed_words times lowest = if length times == 0 then [] else nothing_of (length times) ++ below_words times lowest

-- The words for the answer to an action. For a restart, they name the agent's minimum for events.
abbrev pub answer_words : Answer → Option ℕ → List ℕ
answer_words (answers.Restarted member_clock event_clock query_clock) (Some lowest) = codes "started again: events from " ++ decimal lowest
answer_words answer lowest = answer_text answer

-- a query that an agent accepted without handing it out, because one of its filters doesn't let the agent pass
abbrev pub is_query : Answer → Bool
is_query answers.Query = true
is_query _ = false

abbrev pub is_held_back : Line → Bool
is_held_back line = is_query line.answer && is_none line.handed

-- the same words, or that a query was held back
abbrev pub result_words : Answer → Bool → Option ℕ → List ℕ
result_words answer withheld lowest = if withheld then codes "held back" else answer_words answer lowest
