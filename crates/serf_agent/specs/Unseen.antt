-- What an agent does doesn't depend on what its sink exposes of its bytes. So a promise about a sink that exposes its
-- bytes is also a promise about a real file, which exposes none; the ideal sink's bytes are then what the host knows to
-- be flushed.
use Rattle.std.specs.Prelude.{◌≡◌, ◌≢◌, ◌<◌, ◌≤◌, Bool, true, All, AllPairs, ℕ, List, [], map, Ok, None}
use Rattle.serf_wire.specs.declared.texts.EventBody.{EventBody}
use Rattle.serf_wire.specs.Message.{PushPull}
use Rattle.serf_snapshot.specs.Device.{Device}
use Rattle.serf_snapshot.specs.AppendsLine.{SnapshotView, Writing, Kept, Failed}
use Rattle.serf_agent.specs.declared.config.Config.{Config}
use Rattle.serf_agent.specs.declared.outcome.Fired.{Fired}
use Rattle.serf_agent.specs.declared.outcome.FiredQuery.{FiredQuery}
use Rattle.serf_agent.specs.declared.outcome.QueryParams.{QueryParams}
use Rattle.serf_agent.specs.Calls.{Call, Ends, AppendsLine, Replaces, Step, ended}
use Rattle.serf_agent.specs.Config.{is_sound}
use Rattle.serf_agent.specs.Events.{fire}
use Rattle.serf_agent.specs.Kept.{KeepsOn, TakesNewBy}
use Rattle.serf_agent.specs.KeptLives.{MayGoOn, MayGoOnLives, StartsWithDurable}
use Rattle.serf_agent.specs.Queries.{fire_query}
use Rattle.serf_agent.specs.Restart.{HasPast}
use Rattle.serf_agent.specs.Sound.{IsSound}
use Rattle.serf_agent.specs.Ideal.{IdealAgent, with_snapshot}
use Rattle.serf_agent.specs.TrackOf.{TrackOf, event_track, queries_entered, query_track}
use Rattle.serf_agent.specs.Lives.{Act, Fires, Asks, Gets, Hears, Takes, Saves, Compacts, Closes, Opens, Lived, MayAct, MayLive, after, events_out, first_life, lived, queries_out}

-- the same snapshot, over a sink that exposes nothing
abbrev pub hidden_snapshot : SnapshotView → SnapshotView
hidden_snapshot s = record { member_clock = s.member_clock; event_clock = s.event_clock; query_clock = s.query_clock; stopped = s.stopped; durable = None; plan = s.plan }

abbrev pub hidden : IdealAgent → IdealAgent
hidden i = with_snapshot (hidden_snapshot i.snapshot) i

abbrev pub hidden_device : Device → Device
hidden_device d = record { observed_bytes = None; plan = d.plan; failures = d.failures; calls = d.calls }

abbrev pub hidden_step : {R : Type 0} → Step R → Step R
hidden_step step = record { agent = hidden step.agent; answer = step.answer }

abbrev pub hidden_call : {R : Type 0} → Call R → Call R
hidden_call (Ends step) = Ends (hidden_step step)
hidden_call (AppendsLine kind t line step error) = AppendsLine kind t line (hidden_step step) error
hidden_call (Replaces lines step error) = Replaces lines (hidden_step step) error

abbrev pub unseen : Writing → Writing
unseen Kept = Kept
unseen (Failed durable) = Failed None

abbrev pub unseen_act : Act → Act
unseen_act (Fires what coalesce w) = Fires what coalesce (unseen w)
unseen_act (Asks now id name payload params w) = Asks now id name payload params (unseen w)
unseen_act (Gets tags now packet w) = Gets tags now packet (unseen w)
unseen_act (Hears m is_join w) = Hears m is_join (unseen w)
unseen_act (Takes e w) = Takes e (unseen w)
unseen_act (Saves w) = Saves (unseen w)
unseen_act (Compacts w) = Compacts (unseen w)
unseen_act (Closes now) = Closes now
unseen_act (Opens config text d) = Opens config text (hidden_device d)

-- an act of the agent whose sink exposes nothing is that of the other agent, hands out the same, and enters the same
-- queries
pub record IsSame (i : IdealAgent) (a : Act) : Type 0 where
  pub agent : after (hidden i) (unseen_act a) ≡ hidden (after i a)
  pub events : events_out (hidden i) (unseen_act a) ≡ events_out i a
  pub queries : queries_out (hidden i) (unseen_act a) ≡ queries_out i a
  pub entered : queries_entered (hidden i) (unseen_act a) ≡ queries_entered i a

-- an opening over a sink that exposes nothing
abbrev pub IsUnseen : Act → Type 0
IsUnseen (Opens config text d) = d.observed_bytes ≡ None
IsUnseen a = Unit {0}

-- Whatever may happen over a sink that exposes nothing may also happen over one that exposes its bytes, as this act. If
-- the sink fails at a line, it keeps what it kept.
pub record Seen (i : IdealAgent) (b : Act) : Type 0 where
  pub act : Act
  pub is : unseen_act act ≡ b
  pub may : MayAct i act

-- The same is true of all that a program does: whatever acts may happen in order over a sink that exposes nothing, in
-- all its lives, they may also happen as these acts.
pub record SeenAll (i : IdealAgent) (bs : List Act) : Type 0 where
  pub acts : List Act
  pub are : map unseen_act acts ≡ bs
  pub may : MayLive i acts

abbrev pub hidden_life : Lived → Lived
hidden_life s = record { agent = hidden s.agent; events = s.events; queries = s.queries }

pub record UnseenLaws : Type 0 where
  pub same : (i : IdealAgent) (a : Act) → IsSame i a
  pub seen : (i : IdealAgent) (b : Act) → IsUnseen b → MayAct (hidden i) b → Seen i b
  pub seen_all : (i : IdealAgent) (bs : List Act) → All IsUnseen bs → MayLive (hidden i) bs → SeenAll i bs
  pub begins : (config : Config) (text : List ℕ) (d : Device) → (first_life config text (hidden_device d)).agent ≡ hidden (first_life config text d).agent
  pub lives : (acts : List Act) (s : Lived) → lived (hidden_life s) (map unseen_act acts) ≡ hidden_life (lived s acts)

-- So each promise about lives holds over a sink that exposes nothing, such as a file, if each life opens on a text that
-- begins with what was flushed, with any bytes after it. Here `acts` determine what was flushed, because their sink
-- exposes it, and `unseen_life` is their result.
abbrev pub unseen_life : Config → List ℕ → Device → List Act → Lived
unseen_life config text d acts = lived (first_life config text (hidden_device d)) (map unseen_act acts)

abbrev pub HandsOutOnceUnseen : Type 0
HandsOutOnceUnseen = (config : Config) (text : List ℕ) (d : Device) (acts : List Act) → is_sound config ≡ true → MayGoOnLives (first_life config text d).agent acts → AllPairs (λ x y. x ≢ y) (unseen_life config text d acts).events

abbrev pub HandsOutQueriesOnceUnseen : Type 0
HandsOutQueriesOnceUnseen = (config : Config) (text : List ℕ) (d : Device) (acts : List Act) → is_sound config ≡ true → MayGoOnLives (first_life config text d).agent acts → AllPairs (λ x y. x ≢ y) (unseen_life config text d acts).queries

abbrev pub FiresLaterUnseen : Type 0
FiresLaterUnseen =
    (config : Config) (text : List ℕ) (d : Device) (acts : List Act) (what : EventBody) (coalesce : Bool) (w : Writing) (f : Fired) → is_sound config ≡ true → MayGoOnLives (first_life config text d).agent acts
    → let before = unseen_life config text d acts in (ended before.agent (fire before.agent what coalesce) (unseen w)).answer ≡ Ok f → All (λ e. e.time < f.handed.time) before.events

abbrev pub AsksLaterUnseen : Type 0
AsksLaterUnseen =
    (config : Config) (text : List ℕ) (d : Device) (acts : List Act) (now id : ℕ) (name payload : List ℕ) (params : QueryParams) (w : Writing) (f : FiredQuery) → is_sound config ≡ true → MayGoOnLives (first_life config text d).agent acts
    → let before = unseen_life config text d acts in (ended before.agent (fire_query before.agent now id name payload params) (unseen w)).answer ≡ Ok f → All (λ e. e.time < f.time) before.queries

-- If the settings stay the same and keep events, everything new is accepted, events and queries alike
-- (specs/Kept.antt).
abbrev pub TakesNewUnseen : {K : Type 0} → TrackOf K → Type 0
TakesNewUnseen which = TakesNewBy which (λ i offer. which.entered (hidden i) (unseen_act offer))

abbrev pub HandsOutNewUnseen : Type 0
HandsOutNewUnseen = TakesNewUnseen event_track

abbrev pub TakesNewQueriesUnseen : Type 0
TakesNewQueriesUnseen = TakesNewUnseen query_track

-- Nothing below the time that a join set is handed out.
abbrev pub RemembersJoinsUnseen : Type 0
RemembersJoinsUnseen =
    (config : Config) (text : List ℕ) (d : Device) (acts rest : List Act) (m : PushPull) → is_sound config ≡ true → let s = first_life config text d in MayGoOnLives s.agent acts
    → let before = (lived s acts).agent in before.config.keep_events ≡ true → before.config.ignore_old ≡ true → MayGoOn before (Hears m true Kept)
    → let joined = after before (Hears m true Kept) in MayGoOnLives joined rest → All KeepsOn rest
    → All (λ e. m.event_clock ≤ e.time) (lived (record { agent = hidden joined; events = []; queries = [] }) (map unseen_act rest)).events

-- What `Agent::open` requires of an agent of this kind for its clause `restarted`, so that the next life follows the
-- same agent.
abbrev pub OpensUnseen : Type 0
OpensUnseen =
    (config : Config) (text : List ℕ) (d : Device) (acts : List Act) (next : Config) (left : List ℕ) → is_sound config ≡ true → MayGoOnLives (first_life config text d).agent acts → is_sound next ≡ true → StartsWithDurable (lived (first_life config text d) acts).agent left
    → let i = (unseen_life config text d acts).agent in IsSound i × HasPast next i left
