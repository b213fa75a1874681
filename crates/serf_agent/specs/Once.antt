-- What each call of an ideal agent preserves about what was handed out. This is for proofs of crates above, which list
-- the deliveries in another order, or drop some of them.
use Rattle.std.specs.Prelude.{◌≡◌, ◌≢◌, ◌<◌, ◌++◌, Bool, true, ℕ, List, [], Ok, All, AllPairs}
use Rattle.serf_wire.specs.declared.texts.EventBody.{EventBody}
use Rattle.serf_window.specs.Window.{TimedEntry}
use Rattle.serf_agent.specs.Ideal.{IdealAgent, Past}
use Rattle.serf_snapshot.specs.Device.{Device}
use Rattle.serf_snapshot.specs.AppendsLine.{Writing}
use Rattle.serf_agent.specs.declared.config.Config.{Config}
use Rattle.serf_agent.specs.declared.outcome.Fired.{Fired}
use Rattle.serf_agent.specs.declared.outcome.FiredQuery.{FiredQuery}
use Rattle.serf_agent.specs.declared.outcome.QueryParams.{QueryParams}
use Rattle.serf_agent.specs.Calls.{ended}
use Rattle.serf_agent.specs.Events.{fire}
use Rattle.serf_agent.specs.Queries.{fire_query}
use Rattle.serf_agent.specs.Config.{is_sound}
use Rattle.serf_agent.specs.KeptLives.{IsDurable, MayKeep, StartsWithDurable}
use Rattle.serf_agent.specs.Lives.{Act, MayAct, Opens, after, events_out, first_life, queries_out}
use Rattle.serf_agent.specs.Restart.{HasPast}
use Rattle.serf_agent.specs.Sound.{IsSound}

-- nothing was handed out twice; and if an entry is new to the history, or later than it, the same is true compared with
-- what was handed out
pub record IsOnce {K : Type 0} (history : List (Past K)) (handed : List (TimedEntry K)) : Type 0 where
  pub once : AllPairs (λ x y. x ≢ y) handed
  pub fresh : (e : TimedEntry K) → All (λ p. p.entry ≢ e) history → All (λ x. x ≢ e) handed
  pub below : (t : ℕ) → All (λ p. p.entry.time < t) history → All (λ x. x.time < t) handed

-- each act leaves `IsOnce` true
abbrev pub StaysOnce : Type 0
StaysOnce = (i : IdealAgent) (a : Act) (events : List (TimedEntry EventBody)) (queries : List (TimedEntry ℕ)) → IsSound i → MayAct i a → IsOnce i.events.history events × IsOnce i.queries.history queries
    → IsOnce (after i a).events.history (events ++ events_out i a) × IsOnce (after i a).queries.history (queries ++ queries_out i a)

-- `IsOnce` is true if nothing was handed out
abbrev pub BeginsOnce : Type 0
BeginsOnce = (history : List (Past EventBody)) → IsOnce history []

-- an event that is fired is later than everything that was handed out before, and so is a query
abbrev pub FiresAfter : Type 0
FiresAfter = (i : IdealAgent) (what : EventBody) (coalesce : Bool) (w : Writing) (f : Fired) (events : List (TimedEntry EventBody)) → IsSound i → IsOnce i.events.history events → (ended i (fire i what coalesce) w).answer ≡ Ok f → All (λ e. e.time < f.handed.time) events

abbrev pub AsksAfter : Type 0
AsksAfter =
    (i : IdealAgent) (now id : ℕ) (name payload : List ℕ) (params : QueryParams) (w : Writing) (f : FiredQuery) (queries : List (TimedEntry ℕ)) → IsSound i → IsOnce i.queries.history queries → (ended i (fire_query i now id name payload params) w).answer ≡ Ok f
    → All (λ e. e.time < f.time) queries

-- a sound agent stays sound, and each first life is sound
abbrev pub StepsSound : Type 0
StepsSound = (i : IdealAgent) (a : Act) → IsSound i → MayAct i a → IsSound (after i a)

abbrev pub BeginsSound : Type 0
BeginsSound = (config : Config) (text : List ℕ) (d : Device) → is_sound config ≡ true → IsSound (first_life config text d).agent

-- a life may open on a text that begins with the durable text
abbrev pub OpensAfter : Type 0
OpensAfter = (i : IdealAgent) (config : Config) (text : List ℕ) (d : Device) → IsSound i → IsDurable i → is_sound config ≡ true → StartsWithDurable i text → MayAct i (Opens config text d) × MayKeep i (Opens config text d) × HasPast config i text
