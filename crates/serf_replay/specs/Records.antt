-- What a summary records of the lines of a run.
use Rattle.std.specs.Prelude.{ℕ, ◌+◌, ◌&&◌, ◌++◌, nat_eq, Bool, List, [], ◌∷◌, map}
use Rattle.std.specs.Str.{bytes_eq}
use Rattle.serf_model.specs.declared.line.EventLine.{EventLine}
use Rattle.serf_model.specs.declared.line.Line.{Line}
use Rattle.serf_replay.specs.declared.keys.EventKey.{EventKey}

-- whether an event line shows this event
abbrev pub is_event : EventKey → EventLine → Bool
is_event q e = nat_eq e.time q.time && (bytes_eq e.name q.name.items && bytes_eq e.payload q.payload.items)

-- the lines of actions, each with the number of its action, after this number of actions
abbrev pub numbered_from : ℕ → List Line → List (Line × ℕ)
numbered_from n [] = []
numbered_from n (line ∷ lines) = (line, n + 1) ∷ numbered_from (n + 1) lines

-- the event lines of an action, each with the number of the action
abbrev pub events_at : ℕ → List EventLine → List (EventLine × ℕ)
events_at n events = map (λ e. (e, n)) events

-- all event lines, each with the number of its action
abbrev pub hand_outs_from : ℕ → List Line → List (EventLine × ℕ)
hand_outs_from n [] = []
hand_outs_from n (line ∷ lines) = events_at (n + 1) line.events ++ hand_outs_from (n + 1) lines
