-- What events and queries have in common: each definition is used for both. K is the type of what is entered, an
-- event's name and payload or a query's ID (`serf.go`, `handleUserEvent` and `handleQuery`; what this project adds is
-- marked as its own).
use Rattle.std.specs.Prelude.{◌≢◌, ℕ, ◌+◌, ◌<◌, ◌≤◌, ◌==◌, ◌&&◌, max, nat_lt, nat_le, Bool, if◌then◌else◌, List, [], ◌∷◌, ◌++◌, map, filter, Option, Some, None, All, AllPairs}
use Rattle.std.specs.List.{list_any}
use Rattle.serf_lamport.specs.Clock.{observed}
use Rattle.serf_window.specs.Window.{TimedEntry, SlotOf, count_at, slots_of}
use Rattle.serf_agent.specs.declared.outcome.Reason.{Reason}
use Rattle.serf_agent.specs.declared.outcome.Reason.TheVariants.{BelowMinimum, TooOld, Seen, TimeFull}
use Rattle.serf_agent.specs.Ideal.{Past, Track}

-- what was entered in a life, in order
abbrev pub of_life : {K : Type 0} → ℕ → List (Past K) → List (TimedEntry K)
of_life life history = map (λ p. p.entry) (filter (λ p. p.life == life) history)

-- whether this was entered at this time, in any life
abbrev pub was_ever_entered : {K : Type 0} → (K → K → Bool) → List (Past K) → ℕ → K → Bool
was_ever_entered same history t what = list_any (λ p. (p.entry.time == t) && same p.entry.key what) history

-- Why an entry that arrives with the time t is ignored, or None if it is new. Here n is the buffer's size, and k is
-- the maximum number of entries of one time. The reason is the first of these that applies:
-- BelowMinimum: the time is below the minimum (`eventMinTime`, `queryMinTime`).
-- TooOld: the clock, after it has observed the time, is more than n above it.
-- Seen: the same entry was entered at this time, in any life.
-- TimeFull, which is this project's own rule: k entries were entered at this time in this life.
abbrev pub track_reason : {K : Type 0} → (K → K → Bool) → ℕ → ℕ → ℕ → Track K → ℕ → K → Option Reason
track_reason same n k life track t what =
    if nat_lt t track.minimum then Some BelowMinimum else
    if nat_lt (t + n) (observed track.clock t) then Some TooOld else
    if was_ever_entered same track.history t what then Some Seen else
    if nat_le k (count_at (of_life life track.history) t) then Some TimeFull else None

-- the track after a time was observed
abbrev pub track_observed : {K : Type 0} → ℕ → Track K → Track K
track_observed t track = record { clock = observed track.clock t; minimum = track.minimum; history = track.history }

-- the track after something was entered
abbrev pub track_entered : {K : Type 0} → ℕ → ℕ → K → Track K → Track K
track_entered life t what track =
    record {
      clock = observed track.clock t;
      minimum = track.minimum;
      history = track.history ++ record { life = life; entry = record { time = t; key = what } } ∷ [];
    }

-- the track after another agent's clock and minimum were merged: neither falls
abbrev pub track_raised : {K : Type 0} → ℕ → ℕ → Track K → Track K
track_raised clock minimum track = record { clock = max track.clock clock; minimum = max track.minimum minimum; history = track.history }

-- the track in a new life, if a text has this value as the track's clock (`NewSnapshotter` and `serf.go`, `Create`)
abbrev pub track_reopened : {K : Type 0} → ℕ → Track K → Track K
track_reopened value track = record { clock = value + 1; minimum = value + 1; history = track.history }

-- What an agent stores of its events, or of its queries: only the slots of this life, instead of the whole history.
pub record ConcreteTrack (K : Type 0) : Type 0 where
  pub clock : ℕ
  pub minimum : ℕ
  pub slots : List (SlotOf K)

abbrev pub view_of_track : {K : Type 0} → ℕ → ℕ → Track K → ConcreteTrack K
view_of_track n life track = record { clock = track.clock; minimum = track.minimum; slots = slots_of n (of_life life track.history) }

-- What is true of the events, or of the queries, of every ideal agent in a life, if this is the last clock line of
-- their kind.
pub record IsTrackSound {K : Type 0} (track : Track K) (life last : ℕ) : Type 0 where
  -- nothing was entered in a later life
  pub lives : All (λ p. p.life ≤ life) track.history
  -- each time is below the clock
  pub below_clock : All (λ p. p.entry.time < track.clock) track.history
  -- each time was written, or a later one
  pub noted : All (λ p. p.entry.time ≤ last) track.history
  -- whatever is of an earlier life is below the minimum
  pub earlier : All (λ p. p.life < life → p.entry.time < track.minimum) track.history
  -- nothing was entered twice
  pub distinct : AllPairs (λ p q. p.entry ≢ q.entry) track.history
  -- the minimum is at most the clock
  pub minimum : track.minimum ≤ track.clock
