-- What an agent that keeps its events over a restart doesn't miss: if an event or a query is new and still within its
-- window, it is accepted, in whatever life it arrives. And what the agent continues to ignore: everything below the
-- time that a join set.
use Rattle.std.specs.Prelude.{◌≡◌, ◌≢◌, ◌⊎◌, ◌+◌, ◌<◌, ◌≤◌, ◌++◌, ◌∷◌, ℕ, false, true, List, [], length, Some, All, AllPairs, Contains}
use Rattle.serf_lamport.specs.Clock.{observed}
use Rattle.serf_wire.specs.Message.{PushPull}
use Rattle.serf_window.specs.Window.{TimedEntry}
use Rattle.serf_snapshot.specs.Device.{Device}
use Rattle.serf_snapshot.specs.EventLines.{min_in}
use Rattle.serf_snapshot.specs.AppendsLine.{Kept}
use Rattle.serf_agent.specs.declared.config.Config.{Config}
use Rattle.serf_agent.specs.Config.{is_sound}
use Rattle.serf_agent.specs.Ideal.{IdealAgent}
use Rattle.serf_agent.specs.KeptLives.{MayGoOn, MayGoOnLives}
use Rattle.serf_agent.specs.KeptTexts.{whatever}
use Rattle.serf_agent.specs.Lives.{Act, Hears, Opens, after, first_life, lived}
use Rattle.serf_agent.specs.TrackOf.{TrackOf, event_track, query_track}

-- An entry was met: it was handed out in some life, or was in a text on which an agent opened. If it was in a text but
-- was never handed out, it came from a tail, or from a line that the sink had kept although it failed.
abbrev pub IsMet : {K : Type 0} → List (TimedEntry K) → List (TimedEntry K) → TimedEntry K → Type 0
IsMet handed stood e = Contains handed e ⊎ Contains stood e

-- k entries of a time were met
pub record HasMet {K : Type 0} (k : ℕ) (t : ℕ) (handed stood : List (TimedEntry K)) : Type 0 where
  pub entries : List (TimedEntry K)
  pub many : k ≤ length entries
  pub distinct : AllPairs (λ x y. x ≢ y) entries
  pub met : All (λ e. (e.time ≡ t) × IsMet handed stood e) entries

-- No more entries of a time are accepted: k of them were met, or more than k of a later time. An opening restores at
-- most k entries of a time. From then on it can't recognize the others, nor anything before them.
abbrev pub IsFull : {K : Type 0} → ℕ → ℕ → List (TimedEntry K) → List (TimedEntry K) → Type 0
IsFull k t handed stood = HasMet k t handed stood ⊎ ((later : ℕ) × (t < later) × HasMet (k + 1) later handed stood)

-- What was in texts, and what entered

-- what was kept in any text on which an agent opened, up to this act
abbrev pub stood_after : {K : Type 0} → TrackOf K → List (TimedEntry K) → Act → List (TimedEntry K)
stood_after which stood (Opens config text d) = stood ++ which.kept whatever text
stood_after which stood a = stood

abbrev pub stood_in : {K : Type 0} → TrackOf K → List (TimedEntry K) → List Act → List (TimedEntry K)
stood_in which stood [] = stood
stood_in which stood (a ∷ rest) = stood_in which (stood_after which stood a) rest

-- what acts enter, after what was entered before
abbrev pub entered_in : {K : Type 0} → TrackOf K → List (TimedEntry K) → IdealAgent → List Act → List (TimedEntry K)
entered_in which before i [] = before
entered_in which before i (a ∷ rest) = entered_in which (before ++ which.entered i a) (after i a) rest

-- Which minimum times are set

-- An act sets no minimum time above t, neither by a join that ignores old events, nor by what follows the durable text
-- at an opening.
abbrev pub TellsNoneAbove : {K : Type 0} → TrackOf K → ℕ → IdealAgent → Act → Type 0
TellsNoneAbove which t i (Hears m is_join w) = which.HearsNoneAbove t i.config m is_join
TellsNoneAbove which t i (Opens config text d) =
    (durable : List ℕ) → i.snapshot.durable ≡ Some durable → (min_in which.kind text ≤ min_in which.kind durable) ⊎ (min_in which.kind text ≤ t)
TellsNoneAbove which t i a = Unit {0}

abbrev pub TellNoneAbove : {K : Type 0} → TrackOf K → ℕ → IdealAgent → List Act → Type 0
TellNoneAbove which t i [] = Unit {0}
TellNoneAbove which t i (a ∷ rest) = TellsNoneAbove which t i a × TellNoneAbove which t (after i a) rest

-- Settings that stay the same

abbrev pub KeepsSettings : Config → Act → Type 0
KeepsSettings config (Opens next text d) = next ≡ config
KeepsSettings config a = Unit {0}

-- The offer

-- This is about an agent over one disk, in all its lives, with settings that stay the same and keep events
-- (specs/KeptLives.antt, `MayGoOn`). An event or a query is offered while the agent isn't stopped. It isn't too long.
-- After the clock has observed its time, it isn't too old. It isn't below a minimum time that a join set, or that the
-- first text or a tail contains, and so its time is above 0. It was never met. Then it enters, or its time is full.
abbrev pub TakesNewBy : {K : Type 0} → TrackOf K → (IdealAgent → Act → List (TimedEntry K)) → Type 0
TakesNewBy {K} which gives =
    (config : Config) (text : List ℕ) (d : Device) (acts : List Act) (offer : Act) (e : TimedEntry K) → is_sound config ≡ true → config.keep_events ≡ true → let s = first_life config text d in MayGoOnLives s.agent acts → All (KeepsSettings config) acts
    → let before = (lived s acts).agent in let entered = entered_in which [] s.agent acts in let stood = stood_in which (which.kept whatever text) acts in which.Offers e offer → before.snapshot.stopped ≡ false
    → which.Short e.key
    → observed (which.track before).clock e.time ≤ e.time + which.slots config
    → min_in which.kind text ≤ e.time → TellNoneAbove which e.time s.agent acts
    → (IsMet entered stood e → ⊥)
    → (gives before offer ≡ e ∷ []) ⊎ IsFull config.per_time e.time entered stood

abbrev pub TakesNew : {K : Type 0} → TrackOf K → Type 0
TakesNew which = TakesNewBy which which.entered

-- A new event is handed out, and a new query enters (proofs/WrongLives.antt has agents that miss one).
abbrev pub HandsOutNew : Type 0
HandsOutNew = TakesNew event_track

abbrev pub TakesNewQueries : Type 0
TakesNewQueries = TakesNew query_track

-- What a join set

-- the settings of an opening keep events
abbrev pub KeepsOn : Act → Type 0
KeepsOn (Opens config text d) = config.keep_events ≡ true
KeepsOn a = Unit {0}

-- This is about an agent over one disk that joins while its settings keep events and ignore old ones. From then on
-- nothing below the minimum time that the join set is handed out, in this life and in all later lives whose settings
-- keep events too.
abbrev pub RemembersJoins : Type 0
RemembersJoins =
    (config : Config) (text : List ℕ) (d : Device) (acts rest : List Act) (m : PushPull) → is_sound config ≡ true → let s = first_life config text d in MayGoOnLives s.agent acts
    → let before = (lived s acts).agent in before.config.keep_events ≡ true → before.config.ignore_old ≡ true → MayGoOn before (Hears m true Kept)
    → let joined = after before (Hears m true Kept) in MayGoOnLives joined rest → All KeepsOn rest
    → All (λ e. m.event_clock ≤ e.time) (lived (record { agent = joined; events = []; queries = [] }) rest).events
