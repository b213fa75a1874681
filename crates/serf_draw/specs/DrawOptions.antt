-- Selects the part of a run that is drawn.
use Rattle.std.specs.Prelude.{ℕ, ◌==◌, ◌||◌, ◌&&◌, nat_lt, nat_le, Bool, if◌then◌else◌, true, false, List, length, filter, Option, Some, None, Result, Ok}
use Rattle.std.specs.List.{find, list_any}
use Rattle.std.specs.Str.{bytes_eq}
use Rattle.serf_wire.specs.declared.error.WireError.{WireError}
use Rattle.serf_wire.specs.Decoded.{decoded}
use Rattle.serf_wire.specs.Message.{Message, user_event}
use Rattle.serf_model.specs.declared.action.Act.{Act}
use Rattle.serf_model.specs.declared.action.Act.TheVariants as acts
use Rattle.serf_model.specs.declared.action.Action.{Action}
use Rattle.serf_model.specs.declared.action.Action.TheVariants as actions
use Rattle.serf_model.specs.declared.line.Answer.{Answer}
use Rattle.serf_model.specs.declared.line.Answer.TheVariants as answers
use Rattle.serf_model.specs.declared.line.EventLine.{EventLine}
use Rattle.serf_model.specs.declared.line.Line.{Line}
use Rattle.serf_model.specs.Trace.{actor_of}
use Rattle.serf_draw.specs.declared.options.DrawOptions.{DrawOptions}
use Rattle.serf_draw.specs.Merges.{passed_over, carried_times}

-- Agents and numbers

-- whether this agent is selected: it is listed, or no agents are listed
abbrev pub is_chosen : List ℕ → ℕ → Bool
is_chosen agents a = if length agents == 0 then true else list_any (λ b. b == a) agents

-- the same for the agent of an action; an injection has none, and is selected if no agents are listed
abbrev pub is_chosen_actor : List ℕ → Option ℕ → Bool
is_chosen_actor agents (Some a) = is_chosen agents a
is_chosen_actor agents None = length agents == 0

-- whether an action is in the range, and is an action of a selected agent
abbrev pub shows : List ℕ → ℕ → ℕ → ℕ → Option ℕ → Bool
shows agents from to action agent = if nat_lt action from || nat_lt to action then false else is_chosen_actor agents agent

-- the first agent that is listed and isn't one of the `count` agents
abbrev pub missing_agent : List ℕ → ℕ → Option ℕ
missing_agent agents count = find (λ a. nat_le count a) agents

-- The outcome of an action; an injection alone changes nothing in any agent

abbrev pub is_taken : Answer → Bool
is_taken (answers.Ignored reason) = false
is_taken (answers.Refused refusal) = false
is_taken answers.Injected = false
is_taken _ = true

-- whether an action is kept: if `taken` is set, it was neither ignored nor refused, isn't an injection, and passed over
-- no events
abbrev pub is_kept : Bool → Answer → List ℕ → Bool
is_kept taken answer passed = if taken then is_taken answer && length passed == 0 else true

-- Events of a name

-- whether a message is an event of this name
abbrev pub brings : List ℕ → Result Message WireError → Bool
brings name (Ok (user_event e)) = bytes_eq e.name name
brings name _ = false

abbrev pub packet_brings : List ℕ → Option (List ℕ) → Bool
packet_brings name None = false
packet_brings name (Some packet) = brings name (decoded packet)

-- whether an action of an agent fires an event of this name, or delivers the packet `given` that contains one
abbrev pub act_names : List ℕ → Act → Option (List ℕ) → Bool
act_names name (acts.Fire fired payload coalesce) given = bytes_eq fired name
act_names name (acts.Deliver packet now) given = packet_brings name given
act_names name _ given = false

-- the same for all actions: an injection may inject an event of this name
abbrev pub action_names : List ℕ → Action → Option (List ℕ) → Bool
action_names name (actions.Inject bytes) given = packet_brings name (Some bytes)
action_names name (actions.Of agent act) given = act_names name act given

abbrev pub has_name : List ℕ → EventLine → Bool
has_name name e = bytes_eq e.name name

-- whether an action names an event of the selected name; if there is no selected name, every action does
abbrev pub names : Option (List ℕ) → Action → Option (List ℕ) → Bool
names None action given = true
names (Some name) action given = action_names name action given

-- whether an event of the selected name is handed out; if there is no selected name, every action counts
abbrev pub hands_out : Option (List ℕ) → List EventLine → Bool
hands_out None events = true
hands_out (Some name) events = list_any (has_name name) events

-- the events of the selected name, or all events if there is no selected name
abbrev pub named : Option (List ℕ) → List EventLine → List EventLine
named None events = events
named (Some name) events = filter (has_name name) events

-- The whole

-- Action number `n` is drawn if it is in the range, is an action of a selected agent, has a selected outcome, and
-- fires, injects, delivers or hands out an event of the selected name.
abbrev pub is_drawn : DrawOptions → ℕ → Action → Option (List ℕ) → Line → Bool
is_drawn options n action given line = shows options.agents.items options.from options.to n (actor_of action)
    && is_kept options.taken line.answer (passed_over line.answer line.events (carried_times action given)) && (names options.event action given || hands_out options.event line.events)
