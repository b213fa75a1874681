-- What lines say of the handlers of events: which of them began and never ended. A line is its number, with an event at
-- a node, and what became of the event's handler.
use Rattle.std.specs.Prelude.{◌≡◌, ℕ, ◌+◌, ◌-◌, ◌^◌, ◌==◌, ◌&&◌, min, not, Bool, if◌then◌else◌, List, [], ◌∷◌, Option, unwrap_or}
use Rattle.std.specs.HashMap.{HashMap, get}
use Rattle.std.specs.Option.{is_some, option_map}
use Rattle.serf_judge.specs.declared.entry.RunEntry.{RunEntry}
use Rattle.serf_judge.specs.declared.key.Key.{Key}
use Rattle.serf_judge.specs.Identity.{Identity, event_identity, is_same, key_eq, key_identity}

-- the handler of an event began, or ended with a status
pub record Run : Type 0 where
  pub event : Identity
  pub status : Option (List ℕ)

abbrev pub run_seen : RunEntry → ℕ × Run
run_seen r = (r.event.line, record { event = event_identity r.event; status = option_map (λ word. word.items) r.status })

-- How many lines end a handler of this event that began on no line of theirs: a line more, in front of others that have
-- so many. The number stops at 2^64 - 1.
abbrev pub ends_from : Identity → Run → ℕ → ℕ
ends_from event run ends =
    if is_same event run.event then (if is_some run.status then min (ends + 1) (2 ^ 64 - 1) else ends - 1) else ends

abbrev pub ends_of : Identity → List (ℕ × Run) → ℕ
ends_of event [] = 0
ends_of event (line ∷ later) = ends_from event line.1 (ends_of event later)

-- whether a handler began on a line, and none of the later lines ends it
abbrev pub is_cut_off : Run → List (ℕ × Run) → Bool
is_cut_off run later = not (is_some run.status) && ends_of run.event later == 0

-- the lines on which handlers began that never ended
abbrev pub cut_off_of : List (ℕ × Run) → List (ℕ × Identity)
cut_off_of [] = []
cut_off_of (line ∷ later) = if is_cut_off line.1 later then (line.0, line.1.event) ∷ cut_off_of later else cut_off_of later

-- the table has how many of these lines end a handler of each event that began on no line of theirs
abbrev pub AreCounted : {S : Type 0} → List (ℕ × Run) → HashMap Key ℕ S → Type 0
AreCounted lines table = (q : Key) → unwrap_or (get key_eq table q) 0 ≡ ends_of (key_identity q) lines
