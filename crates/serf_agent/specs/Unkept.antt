-- What the durable text of an agent that keeps no events has, in a life among others that keep them. Its clock lines
-- have no leading zero, and this shows that everything up to them was handed out.
use Rattle.std.specs.Prelude.{◌≡◌, ◌<◌, ◌≤◌, ◌⊎◌, ℕ, false, List, Some}
use Rattle.serf_lamport.specs.Clock.{max_clock}
use Rattle.serf_wire.specs.declared.texts.EventBody.{EventBody}
use Rattle.serf_snapshot.specs.declared.kind.ClockKind.{ClockKind}
use Rattle.serf_snapshot.specs.declared.kind.ClockKind.TheVariants as kinds
use Rattle.serf_snapshot.specs.Clocks.{sealed}
use Rattle.serf_snapshot.specs.Device.{Device}
use Rattle.serf_snapshot.specs.EventLines.{min_in}
use Rattle.serf_snapshot.specs.AppendsLine.{AreTimes, IsSnapshotSound, Kept, compaction_of, noted, opened}
use Rattle.serf_agent.specs.Events.{event_entered}
use Rattle.serf_agent.specs.Ideal.{IdealAgent, with_snapshot}
use Rattle.serf_agent.specs.KeptRestart.{HasKept}
use Rattle.serf_agent.specs.Queries.{query_entered}
use Rattle.serf_agent.specs.Restart.{restarted}
use Rattle.serf_agent.specs.Sound.{IsSound}

-- Either no time from the minimum on was written, or the text shows that everything up to the last line was handed out.
abbrev pub IsSaid : ClockKind → ℕ → ℕ → List ℕ → Type 0
IsSaid kind minimum last text = (last < minimum) ⊎ (last < min_in kind text)

-- A text has everything that was entered, and its clock lines show this from then on.
pub record HasSaid (i : IdealAgent) (text : List ℕ) : Type 0 where
  pub kept : HasKept i text
  pub events : IsSaid kinds.Event i.events.minimum i.snapshot.event_clock text
  pub queries : IsSaid kinds.Query i.queries.minimum i.snapshot.query_clock text

abbrev pub IsSaidSound : IdealAgent → Type 0
IsSaidSound i = (durable : List ℕ) → i.snapshot.durable ≡ Some durable → HasSaid i durable

pub record UnkeptLaws : Type 0 where
  -- a life without the setting begins on a text that has everything that was entered
  pub restarts : (i : IdealAgent) (text : List ℕ) (d : Device) → i.config.keep_events ≡ false → HasKept i text → HasSaid (restarted text (opened text d) i) (sealed text)
  -- an event enters, or a query, at a time that is accepted
  pub enters_event : (t : ℕ) (what : EventBody) (i : IdealAgent) → IsSaidSound i → IsSnapshotSound i.snapshot → i.snapshot.stopped ≡ false → i.events.minimum ≤ t → t < max_clock
      → IsSaidSound (with_snapshot (noted kinds.Event t i.snapshot Kept) (event_entered t what i))
  pub enters_query : (t id : ℕ) (i : IdealAgent) → IsSaidSound i → IsSnapshotSound i.snapshot → i.snapshot.stopped ≡ false → i.queries.minimum ≤ t → t < max_clock
      → IsSaidSound (with_snapshot (noted kinds.Query t i.snapshot Kept) (query_entered t id i))
  -- the text of a compaction shows that everything was handed out
  pub compacts : (i : IdealAgent) → IsSound i → AreTimes i.snapshot → HasSaid i (compaction_of i.snapshot)
