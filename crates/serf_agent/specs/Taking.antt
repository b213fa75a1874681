-- What stays true, call by call, of an agent that keeps its events, so that nothing is missed (specs/Kept.antt,
-- `TakesNew`): for events and for queries, there is a reason for the minimum time of the track and for that of the
-- durable text. This is for proofs of this crate and of crates above.
use Rattle.std.specs.Prelude.{◌≡◌, ◌⊎◌, ◌+◌, ◌-◌, ◌<◌, ◌≤◌, ◌++◌, ℕ, max, true, List, [], Some, None, All}
use Rattle.serf_lamport.specs.Clock.{observed}
use Rattle.serf_window.specs.Window.{TimedEntry}
use Rattle.serf_snapshot.specs.declared.kind.ClockKind.{ClockKind}
use Rattle.serf_snapshot.specs.Device.{Device}
use Rattle.serf_snapshot.specs.EventLines.{min_in}
use Rattle.serf_snapshot.specs.AppendsLine.{SnapshotView, last_line}
use Rattle.serf_agent.specs.declared.config.Config.{Config}
use Rattle.serf_agent.specs.Ideal.{IdealAgent, Track}
use Rattle.serf_agent.specs.Kept.{IsFull, IsMet, KeepsSettings, TellsNoneAbove, stood_after}
use Rattle.serf_agent.specs.KeptLives.{IsDurable, MayGoOn}
use Rattle.serf_agent.specs.KeptTexts.{whatever}
use Rattle.serf_agent.specs.Lives.{Act, after, first_life}
use Rattle.serf_agent.specs.Sound.{IsSound}
use Rattle.serf_agent.specs.TrackOf.{TrackOf}

-- the maximum that the minimum time of a track of n slots may have if the track still accepts what arrives at t, unless
-- that is too old
abbrev pub allowed : ClockKind → ℕ → ℕ → SnapshotView → ℕ
allowed kind n t s = max t ((last_line kind s + 1) - n)

-- A track accepts what is new and arrives at t, unless that is too old: neither its own minimum time nor that of the
-- durable text is above t, or else everything below that minimum is too old.
pub record IsOpenAt {K : Type 0} (kind : ClockKind) (n t : ℕ) (handed stood : List (TimedEntry K)) (track : Track K) (s : SnapshotView) : Type 0 where
  -- its clock is above the last line
  pub last : last_line kind s < track.clock
  -- everything that was entered was met
  pub known : All (λ p. IsMet handed stood p.entry) track.history
  pub minimum : track.minimum ≤ allowed kind n t s
  pub lowest : (durable : List ℕ) → s.durable ≡ Some durable → min_in kind durable ≤ allowed kind n t s

-- an agent with these settings accepts an entry of this track that arrives at t, unless it is too old
pub record TakesAt {K : Type 0} (which : TrackOf K) (t : ℕ) (config : Config) (handed stood : List (TimedEntry K)) (i : IdealAgent) : Type 0 where
  pub settings : i.config ≡ config
  pub opens : IsOpenAt which.kind (which.slots config) t handed stood (which.track i) i.snapshot

-- the agent accepts an entry at this time, or no more entries of this time are accepted
abbrev pub TakesOrFull : {K : Type 0} → TrackOf K → ℕ → Config → List (TimedEntry K) → List (TimedEntry K) → IdealAgent → Type 0
TakesOrFull which t config handed stood i = TakesAt which t config handed stood i ⊎ IsFull config.per_time t handed stood

-- This is about an agent whose settings stay the same and keep events.
pub record TakingLaws {K : Type 0} (which : TrackOf K) : Type 0 where
  -- `TakesOrFull` is true in the first life, on a text that sets no minimum time above t
  pub begins : (t : ℕ) (config : Config) (text : List ℕ) (d : Device) → config.keep_events ≡ true → min_in which.kind text ≤ t → TakesOrFull which t config [] (which.kept whatever text) (first_life config text d).agent
  -- if `TakesAt` is true before an act that sets no minimum time above t, `TakesOrFull` is true after it
  pub stays : (t : ℕ) (config : Config) (handed stood : List (TimedEntry K)) (i : IdealAgent) (a : Act) → config.keep_events ≡ true → 0 < t → IsSound i → IsDurable i → TakesAt which t config handed stood i → MayGoOn i a → KeepsSettings config a → TellsNoneAbove which t i a
      → TakesOrFull which t config (handed ++ which.entered i a) (stood_after which stood a) (after i a)
  -- if `TakesAt` is true, an entry that arrives at t is admitted if it is short, within the window and new; or no more
  -- entries of this time are accepted
  pub takes : (t : ℕ) (config : Config) (handed stood : List (TimedEntry K)) (i : IdealAgent) (what : K) → IsSound i → TakesAt which t config handed stood i → which.Short what → observed (which.track i).clock t ≤ t + which.slots config
      → (IsMet handed stood (record { time = t; key = what }) → ⊥) → (which.admission i t what ≡ None) ⊎ IsFull config.per_time t handed stood
