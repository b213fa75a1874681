-- Lives over one disk, some with the setting that keeps events and some without it, in any order: the durable text has
-- everything that was entered. So a life may open on each text that begins with the durable text (specs/Lives.antt,
-- `MayAct`).
use Rattle.std.specs.Prelude.{◌≡◌, ◌<◌, ◌≤◌, ◌++◌, ◌∷◌, ℕ, false, true, List, [], Ok, Some}
use Rattle.serf_lamport.specs.Clock.{max_clock}
use Rattle.serf_wire.specs.Decoded.{decoded}
use Rattle.serf_wire.specs.Message.{Message, user_event}
use Rattle.serf_window.specs.Texts.{event_of}
use Rattle.serf_snapshot.specs.Device.{Device}
use Rattle.serf_snapshot.specs.AppendsLine.{AreTimes}
use Rattle.serf_agent.specs.declared.config.Config.{Config}
use Rattle.serf_agent.specs.Config.{is_sound}
use Rattle.serf_agent.specs.Ideal.{IdealAgent}
use Rattle.serf_agent.specs.KeptLines.{AreWritable}
use Rattle.serf_agent.specs.KeptRestart.{HasKept, IsKeptSound}
use Rattle.serf_agent.specs.KeptTexts.{IsIdWritable, IsWritable}
use Rattle.serf_agent.specs.Lives.{Act, Fires, Asks, Gets, Hears, Takes, Opens, MayAct, MayLive, after, first_life, lived}
use Rattle.serf_agent.specs.Sound.{IsSound}
use Rattle.serf_agent.specs.Unkept.{IsSaidSound}

-- if a message is an event, its name and payload are bytes
abbrev pub IsMessageWritable : Message → Type 0
IsMessageWritable (user_event e) = IsWritable (event_of e.name e.payload)
IsMessageWritable _ = Unit {0}

-- What an act delivers can be written in lines: an event's name and payload are bytes, a query's ID is below 2^32, and
-- a push/pull has an event clock that a packet can contain.
abbrev pub IsActWritable : Act → Type 0
IsActWritable (Fires what coalesce w) = IsWritable what
IsActWritable (Asks now id name payload params w) = IsIdWritable id
IsActWritable (Gets tags now packet w) = (m : Message) → decoded packet ≡ Ok m → IsMessageWritable m
IsActWritable (Hears m is_join w) = m.event_clock ≤ max_clock
IsActWritable (Takes e w) = IsWritable e.key
IsActWritable _ = Unit {0}

-- What must hold of an act in addition to `MayAct`, so that nothing is lost from the text: what it delivers can be
-- written, and a text on which an agent opens has everything that was entered, even if its settings keep no events.
abbrev pub MayKeep : IdealAgent → Act → Type 0
MayKeep i (Opens config text d) = HasKept i text
MayKeep i a = IsActWritable a

abbrev pub MayKeepLives : IdealAgent → List Act → Type 0
MayKeepLives i [] = Unit {0}
MayKeepLives i (a ∷ rest) = MayKeep i a × MayKeepLives (after i a) rest

-- a minimum time that an agent can have: it is above 0, and can be 2^64 - 1, which is above all times
abbrev pub IsMin : ℕ → Type 0
IsMin minimum = (0 < minimum) × (minimum ≤ max_clock)

-- What is true of the text of every agent in these lives.
pub record IsDurable (i : IdealAgent) : Type 0 where
  -- the durable text has everything that was entered, if the sink exposes it
  pub kept : IsKeptSound i
  -- if the settings keep no events, the clock lines of the text show that it has everything that was entered
  pub said : i.config.keep_events ≡ false → IsSaidSound i
  -- the last lines are times
  pub times : AreTimes i.snapshot
  -- what was entered can be written in lines
  pub events_written : AreWritable IsWritable i.events.history
  pub queries_written : AreWritable IsIdWritable i.queries.history
  pub events_min : IsMin i.events.minimum
  pub queries_min : IsMin i.queries.minimum

-- each act leaves `IsDurable` true
abbrev pub StaysDurable : Type 0
StaysDurable = (i : IdealAgent) (a : Act) → IsSound i → IsDurable i → MayAct i a → MayKeep i a → IsDurable (after i a)

-- `IsDurable` is true of the first life, on any text
abbrev pub BeginsDurable : Type 0
BeginsDurable = (config : Config) (text : List ℕ) (d : Device) → IsDurable (first_life config text d).agent

-- So a text that begins with the durable text of an agent of this kind has everything that was entered.
abbrev pub KeepsAfter : Type 0
KeepsAfter = (i : IdealAgent) (durable tail : List ℕ) → IsDurable i → i.snapshot.durable ≡ Some durable → HasKept i (durable ++ tail)

-- Over all lives: if the sink exposes its bytes, a text that begins with the durable ones has everything that was
-- entered.
abbrev pub DurableHasKept : Type 0
DurableHasKept =
    (config : Config) (text : List ℕ) (d : Device) (acts : List Act) (durable tail : List ℕ) → is_sound config ≡ true → let s = first_life config text d in MayLive s.agent acts → MayKeepLives s.agent acts
    → (lived s acts).agent.snapshot.durable ≡ Some durable → HasKept (lived s acts).agent (durable ++ tail)

-- A text begins with the durable text. Any bytes can follow.
pub record StartsWithDurable (i : IdealAgent) (text : List ℕ) : Type 0 where
  pub durable : List ℕ
  pub tail : List ℕ
  pub is : i.snapshot.durable ≡ Some durable
  pub whole : text ≡ durable ++ tail

-- An act of an agent over one disk, whose sink exposes its bytes: it opens with any settings, on the durable text with
-- a tail.
abbrev pub MayGoOn : IdealAgent → Act → Type 0
MayGoOn i (Opens config text d) = (is_sound config ≡ true) × StartsWithDurable i text
MayGoOn i a = MayAct i a × IsActWritable a

abbrev pub MayGoOnLives : IdealAgent → List Act → Type 0
MayGoOnLives i [] = Unit {0}
MayGoOnLives i (a ∷ rest) = MayGoOn i a × MayGoOnLives (after i a) rest

-- These acts may happen: each text on which they open has what was flushed and everything that was entered. So all
-- promises about lives hold for them.
abbrev pub DiskSuffices : Type 0
DiskSuffices =
    (config : Config) (text : List ℕ) (d : Device) (acts : List Act) → is_sound config ≡ true → let s = first_life config text d in MayGoOnLives s.agent acts
    → MayLive s.agent acts × MayKeepLives s.agent acts
