-- The picture of a run.
use Rattle.std.specs.Prelude.{◌≡◌, ℕ, ◌==◌, ◌+◌, ◌++◌, ◌&&◌, not, Result, Ok, Err, Bool, true, false, if◌then◌else◌, List, [], ◌∷◌, length, filter, replicate, map, Option, Some, None, slice_get, slice_set}
use Rattle.std.specs.List.{fold}
use Rattle.std.specs.Option.{option_map}
use Rattle.serf_agent.specs.declared.config.Config.{Config}
use Rattle.serf_model.specs.declared.action.Act.TheVariants as acts
use Rattle.serf_model.specs.declared.action.Action.{Action}
use Rattle.serf_model.specs.declared.action.Action.TheVariants as actions
use Rattle.serf_model.specs.declared.line.Answer.{Answer}
use Rattle.serf_model.specs.declared.line.Answer.TheVariants as answers
use Rattle.serf_model.specs.declared.line.EventLine.{EventLine}
use Rattle.serf_model.specs.declared.line.Line.{Line}
use Rattle.serf_model.specs.Cluster.{Cluster, Stepped, start, step}
use Rattle.serf_model.specs.Trace.{actor_of, packet_given}
use Rattle.serf_schedule.specs.Line.{Parsed}
use Rattle.serf_text.specs.Gives.{BadLine}
use Rattle.serf_draw.specs.declared.drawing.DrawError.{DrawError}
use Rattle.serf_draw.specs.declared.drawing.DrawError.TheVariants as errors
use Rattle.serf_draw.specs.declared.picture.Arrow.{Arrow}
use Rattle.serf_draw.specs.declared.picture.Arrow.TheVariants.{NoPacket, Unsent, From}
use Rattle.serf_draw.specs.declared.options.DrawOptions.{DrawOptions}
use Rattle.serf_draw.specs.declared.picture.Lane.{Lane}
use Rattle.serf_draw.specs.declared.picture.Packet.{Packet}
use Rattle.serf_draw.specs.declared.picture.Picture.{Picture}
use Rattle.serf_draw.specs.declared.picture.Row.{Row}
use Rattle.serf_draw.specs.declared.picture.Sender.{Sender}
use Rattle.serf_draw.specs.declared.picture.Tone.{Tone}
use Rattle.serf_draw.specs.declared.picture.Tone.TheVariants.{Taken, Ignored, Refused}
use Rattle.serf_draw.specs.DrawOptions.{is_chosen, is_drawn, missing_agent, named}
use Rattle.serf_draw.specs.Label.{action_words, label_of}
use Rattle.serf_draw.specs.Merges.{is_held_back, passed_over, carried_times}

abbrev pub tone_of : Answer → Tone
tone_of (answers.Ignored reason) = Ignored
tone_of (answers.Refused refusal) = Refused
tone_of _ = Taken

abbrev pub restarts : Answer → Bool
restarts (answers.Restarted member_clock event_clock query_clock) = true
restarts _ = false

-- Arrows

abbrev pub from_packet : Option Packet → Arrow
from_packet None = Unsent
from_packet (Some packet) = From packet.sender

-- a delivery and a merge have an arrow from the sender of the packet, and no other action has one
abbrev pub arrow_of : List Packet → Action → Arrow
arrow_of packets (actions.Of agent (acts.Deliver packet now)) = from_packet (slice_get packets packet)
arrow_of packets (actions.Of agent (acts.Merge packet join)) = from_packet (slice_get packets packet)
arrow_of packets _ = NoPacket

-- Packets

-- a packet that was just sent, by an action that is drawn or not
abbrev pub packet_of : Sender → Bool → Packet
packet_of sender shown = record { sender = sender; is_shown = shown; is_given = false }

abbrev pub given_at : List Packet → ℕ → Option Packet → List Packet
given_at packets k None = packets
given_at packets k (Some packet) = slice_set packets k (record { sender = packet.sender; is_shown = packet.is_shown; is_given = true })

-- the packets after the one with this number was given to an agent, if it was sent
abbrev pub with_given : List Packet → ℕ → List Packet
with_given packets k = given_at packets k (slice_get packets k)

-- the same for the packet of a delivery or a merge
abbrev pub given_by : List Packet → Action → List Packet
given_by packets (actions.Of agent (acts.Deliver packet now)) = with_given packets packet
given_by packets (actions.Of agent (acts.Merge packet join)) = with_given packets packet
given_by packets _ = packets

-- Event clocks

-- an agent's event clock
abbrev pub clock_in : Cluster → Option ℕ → Option ℕ
clock_in c None = None
clock_in c (Some a) = option_map (λ m. m.agent.events.clock) (slice_get c.nodes a)

-- an agent's minimum for events
abbrev pub min_in : Cluster → Option ℕ → Option ℕ
min_in c None = None
min_in c (Some a) = option_map (λ m. m.agent.events.minimum) (slice_get c.nodes a)

-- the clock after an action, if it differs from the clock before it
abbrev pub changed : Option ℕ → Option ℕ → Option ℕ
changed (Some before) (Some now) = if before == now then None else Some now
changed before now = None

-- Rows

-- the events of the selected name that a merge handed out; the label of any other action already names what it handed
-- out
abbrev pub merged_events : Option (List ℕ) → Action → List EventLine → List EventLine
merged_events name (actions.Of agent (acts.Merge packet join)) events = named name events
merged_events name _ events = []

-- nothing was handed out by a merge that passed over all events that it carried, nor for a query that was held back
abbrev pub row_tone : Answer → Bool → List ℕ → Tone
row_tone answer withheld passed = if (length passed == 0) && not withheld then tone_of answer else Ignored

abbrev pub row_with : Option (List ℕ) → ℕ → ℕ → Action → List ℕ → Arrow → Option ℕ → Option ℕ → List ℕ → Line → Row
row_with name n above action words arrow clock lowest passed line = record {
  action = n;
  above = above;
  agent = actor_of action;
  tone = row_tone line.answer (is_held_back line) passed;
  label = label_of words line.answer (is_held_back line) lowest (merged_events name action line.events) passed clock;
  arrow = arrow;
  event_clock = clock;
  restarts = restarts line.answer;
}

-- The row of action number `n`, which has `above` rows above it. `packets` were sent before it, and `line` is its line.
-- `clock` is the agent's event clock if the action changed it, and `lowest` is the agent's minimum for events.
abbrev pub row_of : Option (List ℕ) → ℕ → ℕ → List Packet → Action → Option (List ℕ) → Option ℕ → Option ℕ → Line → Row
row_of name n above packets action given clock lowest line =
    row_with name n above action (action_words action given) (arrow_of packets action) clock lowest (passed_over line.answer line.events (carried_times action given)) line

-- the number of actions that were done, the cluster after them, the packets that were sent, and a row for each action
-- that is drawn
pub record Drawing : Type 0 where
  pub count : ℕ
  pub cluster : Cluster
  pub packets : List Packet
  pub rows : List Row

-- the sender of the packets of action number `n`, before which `above` rows are drawn
abbrev pub sender_of : ℕ → ℕ → Action → Sender
sender_of n above action = record { agent = actor_of action; action = n; above = above }

-- a row if it is drawn, and none otherwise
abbrev pub shown_row : Bool → Row → List Row
shown_row shown row = if shown then row ∷ [] else []

-- Action number `n` is done, whether it is drawn or not: its packets are sent, and its row is added if it is drawn.
abbrev pub drawn_by : DrawOptions → Drawing → ℕ → Action → Bool → Stepped → Drawing
drawn_by options d n action shown s = record {
  count = n;
  cluster = s.cluster;
  packets = given_by d.packets action ++ replicate (length s.turn.line.sent) (packet_of (sender_of n (length d.rows) action) shown);
  rows = d.rows ++ shown_row shown (row_of options.event n (length d.rows) d.packets action (packet_given d.cluster.sent action)
      (changed (clock_in d.cluster (actor_of action)) (clock_in s.cluster (actor_of action))) (min_in s.cluster (actor_of action)) s.turn.line);
}

abbrev pub drawn_next : DrawOptions → Drawing → ℕ → Action → Stepped → Drawing
drawn_next options d n action s = drawn_by options d n action (is_drawn options n action (packet_given d.cluster.sent action) s.turn.line) s

abbrev pub drawn : DrawOptions → Drawing → Action → Drawing
drawn options d action = drawn_next options d (d.count + 1) action (step d.cluster action)

abbrev pub blank : List Config → Drawing
blank configs = record { count = 0; cluster = (start configs).cluster; packets = []; rows = [] }

-- the drawing of all these actions; a row has the number that its action has among all of them
abbrev pub drawing_of : DrawOptions → List Config → List Action → Drawing
drawing_of options configs actions = fold (drawn options) (blank configs) actions

-- the senders of the packets that no agent received, if the actions that sent them are drawn
abbrev pub lost_in : List Packet → List Sender
lost_in packets = map (λ p. p.sender) (filter (λ p. not p.is_given && p.is_shown) packets)

-- these are the packets and the rows of what was drawn so far
pub record IsDrawn (d : Drawing) (packets : List Packet) (rows : List Row) : Type 0 where
  pub packets_are : packets ≡ d.packets
  pub rows_are : rows ≡ d.rows

-- Lanes

abbrev pub lanes_from : ℕ → List Config → List Lane
lanes_from n [] = []
lanes_from n (c ∷ cs) = record { agent = n; name = c.name } ∷ lanes_from (n + 1) cs

abbrev pub shown_lanes : DrawOptions → List Config → List Lane
shown_lanes options configs = filter (λ l. is_chosen options.agents.items l.agent) (lanes_from 0 configs)

-- Pictures

-- The picture of a schedule's run: the selected lanes of its agents, the selected rows of its actions, and their
-- packets that no agent received.
pub record IsPicture (options : DrawOptions) (schedule : Parsed) (picture : Picture) : Type 0 where
  pub lanes : picture.lanes.items ≡ shown_lanes options schedule.configs
  pub rows : picture.rows.items ≡ (drawing_of options schedule.configs schedule.actions).rows
  pub lost : picture.lost.items ≡ lost_in (drawing_of options schedule.configs schedule.actions).packets

-- the result for a schedule: its picture, unless the text is faulty, the options name an agent that it doesn't have, or
-- memory runs out
abbrev pub Draws : DrawOptions → Result Picture DrawError → Result Parsed BadLine → Type 0
Draws options (Ok picture) said = (schedule : Parsed) × (said ≡ Ok schedule)
    × (missing_agent options.agents.items (length schedule.configs) ≡ None) × IsPicture options schedule picture
Draws options (Err (errors.BadLine line cause)) said = said ≡ Err (record { line = line; cause = cause })
Draws options (Err (errors.NoAgent agent count)) said = (schedule : Parsed) × (said ≡ Ok schedule)
    × (missing_agent options.agents.items (length schedule.configs) ≡ Some agent) × (count ≡ length schedule.configs)
Draws options (Err errors.OutOfMemory) said = Unit {0}
