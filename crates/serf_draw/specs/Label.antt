-- The label of an action.
use Rattle.std.specs.Prelude.{ℕ, Bool, ◌==◌, ◌++◌, ◌-◌, nat_lt, if◌then◌else◌, List, [], length, take, codes, decimal, Option, Some, None, Result, Ok, Err, slice_get}
use Rattle.serf_wire.specs.declared.error.WireError.{WireError}
use Rattle.serf_wire.specs.Decoded.{decoded}
use Rattle.serf_wire.specs.Message.{Message, user_event, query, query_response, push_pull, foreign}
use Rattle.serf_model.specs.declared.action.Act.{Act}
use Rattle.serf_model.specs.declared.action.Act.TheVariants as acts
use Rattle.serf_model.specs.declared.action.Action.{Action}
use Rattle.serf_model.specs.declared.action.Action.TheVariants as actions
use Rattle.serf_model.specs.declared.line.Answer.{Answer}
use Rattle.serf_model.specs.declared.line.EventLine.{EventLine}
use Rattle.serf_draw.specs.Merges.{result_words, passed_words}

-- a text of at most 12 bytes, or the first 8 bytes of a longer text and its length
unfoldable pub short : List ℕ → List ℕ
short text = if nat_lt 12 (length text) then take 8 text ++ codes "..(" ++ decimal (length text) ++ codes ")" else text

-- a name and a payload, with a space after each
unfoldable pub texts : List ℕ → List ℕ → List ℕ
texts name payload = short name ++ codes " " ++ short payload ++ codes " "

-- a time
unfoldable pub at_time : ℕ → List ℕ
at_time time = codes "@" ++ decimal time ++ codes " "

-- the contents of a packet, or its length if it isn't a message
abbrev pub message_words : ℕ → Result Message WireError → List ℕ
message_words n (Ok (user_event e)) = texts e.name e.payload ++ at_time e.time
message_words n (Ok (query q)) = codes "query " ++ texts q.name q.payload ++ at_time q.time
message_words n (Ok (query_response r)) = codes "answer of " ++ short r.from ++ codes " " ++ at_time r.time
message_words n (Ok (push_pull m)) = codes "state " ++ at_time m.event_clock
message_words n (Ok (foreign kind)) = codes "type " ++ decimal kind ++ codes " "
message_words n (Err error) = decimal n ++ codes " bytes "

abbrev pub packet_words : List ℕ → List ℕ
packet_words packet = message_words (length packet) (decoded packet)

abbrev pub given_words : Option (List ℕ) → List ℕ
given_words None = []
given_words (Some packet) = packet_words packet

-- what an action does, if its packet is `given`

abbrev pub act_words : Act → Option (List ℕ) → List ℕ
act_words (acts.Fire name payload coalesce) given = texts name payload
act_words (acts.Query q) given = codes "query " ++ texts q.name q.payload
act_words (acts.Deliver packet now) given = given_words given
act_words (acts.Merge packet join) given = given_words given
act_words _ given = []

abbrev pub action_words : Action → Option (List ℕ) → List ℕ
action_words (actions.Inject bytes) given = packet_words bytes
action_words (actions.Of agent act) given = act_words act given

-- What a merge handed out

-- an event
unfoldable pub event_words : EventLine → List ℕ
event_words e = texts e.name e.payload ++ codes "@" ++ decimal e.time

-- an event after `sign`, or nothing if there is no event
abbrev pub event_after : List ℕ → Option EventLine → List ℕ
event_after sign None = []
event_after sign (Some e) = sign ++ event_words e

-- the first two events, the first one after a colon, and the second one after a comma
abbrev pub first_two : List EventLine → List ℕ
first_two events = event_after (codes ": ") (slice_get events 0) ++ event_after (codes ", ") (slice_get events 1)

-- how many more events there are, if there are any
abbrev pub count_words : ℕ → List ℕ
count_words n = if n == 0 then [] else codes ", +" ++ decimal n

-- Labels

-- an agent's event clock
abbrev pub clock_words : Option ℕ → List ℕ
clock_words None = []
clock_words (Some clock) = codes ", clock " ++ decimal clock

-- a text of at most `n` bytes; a longer text is cut off, and ends with two full stops
unfoldable pub cut_to : ℕ → List ℕ → List ℕ
cut_to n text = if nat_lt n (length text) then take (n - 2) text ++ codes ".." else text

-- the label that begins with `front`, shortened if 72 bytes aren't enough, and ends with the whole of `end`
unfoldable pub joined : List ℕ → List ℕ → List ℕ
joined front end = cut_to (72 - length end) front ++ end

-- the outcome of an action: its answer, or that the filters of a query held it back; then the first two of the events
-- that a merge handed out, or the number of events that it passed over
unfoldable pub outcome_words : Answer → Bool → Option ℕ → List EventLine → List ℕ → List ℕ
outcome_words answer withheld lowest events passed = result_words answer withheld lowest ++ first_two events ++ passed_words passed lowest

-- The label begins with `words` and the outcome. It ends with the number of further events that were handed out, and
-- with the agent's event clock, if the action changed it.
unfoldable pub label_of : List ℕ → Answer → Bool → Option ℕ → List EventLine → List ℕ → Option ℕ → List ℕ
label_of words answer withheld lowest events passed clock =
    joined (words ++ outcome_words answer withheld lowest events passed) (count_words (length events - 2) ++ clock_words clock)
