-- Which events some node was never handed.
use Rattle.std.specs.Prelude.{ℕ, nat_lt, not, Bool, List, None, map, filter, take, length}
use Rattle.std.specs.List.{list_any}
use Rattle.serf_judge.specs.declared.entry.EventEntry.{EventEntry}
use Rattle.serf_judge.specs.declared.missed.MissedEvent.{MissedEvent}
use Rattle.serf_judge.specs.Again.{firsts_of}
use Rattle.serf_judge.specs.Fired.{EventContent, content_of, is_same_content}
use Rattle.serf_judge.specs.Identity.{Identity, event_identity, event_seen, is_same}
use Rattle.serf_judge.specs.Nodes.{receivers_of, texts_of}

-- each event that was handed out, once, in the order in which the events first appear
abbrev pub contents_of : List EventEntry → List EventContent
contents_of events = firsts_of is_same_content (map content_of events)

-- an event at a node
abbrev pub at_node : EventContent → List ℕ → Identity
at_node x node = record { node = node; time = x.time; id = None; name = x.name; payload = x.payload }

-- whether a node was handed an event
abbrev pub was_handed : List EventEntry → EventContent → List ℕ → Bool
was_handed events x node = list_any (λ e. is_same (at_node x node) (event_identity e)) events

-- the nodes that were handed some event, but never this one
abbrev pub missing_of : List EventEntry → EventContent → List (List ℕ)
missing_of events x = filter (λ node. not (was_handed events x node)) (receivers_of event_seen events)

-- an event, and at most so many of the nodes that were never handed it
pub record Missing : Type 0 where
  pub event : EventContent
  pub nodes : List (List ℕ)

abbrev pub missing_at : EventContent → List (List ℕ) → Missing
missing_at x nodes = record { event = x; nodes = nodes }

abbrev pub at_most : ℕ → List EventEntry → EventContent → Missing
at_most maximum events x = missing_at x (take maximum (missing_of events x))

abbrev pub has_nodes : Missing → Bool
has_nodes m = nat_lt 0 (length m.nodes)

-- the events that some node was never handed, in the order in which they first appear
abbrev pub missed_of : ℕ → List EventEntry → List Missing
missed_of maximum events = filter has_nodes (map (at_most maximum events) (contents_of events))

abbrev pub missing_view : MissedEvent → Missing
missing_view m = record { event = record { time = m.time; name = m.name.now; payload = m.payload.now }; nodes = texts_of m.nodes.items }
