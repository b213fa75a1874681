-- Objects about events that some node was never handed.
use Rattle.std.specs.Prelude.{ℕ, List, [], length, codes}
use Rattle.std.specs.List.{flat_map}
use Rattle.serf_judge.specs.declared.entry.EventEntry.{EventEntry}
use Rattle.serf_judge.specs.Fired.{EventContent}
use Rattle.serf_judge.specs.Identity.{event_seen}
use Rattle.serf_judge.specs.Missed.{Missing, at_node, missed_of}
use Rattle.serf_judge.specs.Nodes.{receivers_of}
use Rattle.serf_judge_json.specs.declared.kind.Kind.TheVariants as kinds
use Rattle.serf_judge_json.specs.Entries.{about_text}

-- an event, and a node that was never handed it
abbrev pub missing_text : EventContent → List ℕ → List ℕ
missing_text event node = about_text (codes "missed") [] kinds.Event (at_node event node)

-- and each of these nodes
abbrev pub missing_nodes_text : Missing → List ℕ
missing_nodes_text missing = flat_map (missing_text missing.event) missing.nodes

-- an object for each event and each node that was never handed it
abbrev pub missed_text : List EventEntry → List ℕ
missed_text events = flat_map missing_nodes_text (missed_of (length (receivers_of event_seen events)) events)
