-- What the durable text of an agent that keeps its events has after each line that it appends: everything that was
-- entered.
use Rattle.std.specs.Prelude.{◌≡◌, ◌<◌, ◌≤◌, ℕ, false, List, Option}
use Rattle.serf_lamport.specs.Clock.{max_clock}
use Rattle.serf_wire.specs.declared.texts.EventBody.{EventBody}
use Rattle.serf_snapshot.specs.declared.kind.ClockKind.{ClockKind}
use Rattle.serf_snapshot.specs.declared.kind.ClockKind.TheVariants as kinds
use Rattle.serf_snapshot.specs.EventLines.{query_line}
use Rattle.serf_snapshot.specs.KeptAppends.{kept_appended}
use Rattle.serf_snapshot.specs.AppendsLine.{Failed, IsSnapshotSound, KeepsPart, Kept, noted, written}
use Rattle.serf_agent.specs.Config.{max_text_bytes}
use Rattle.serf_agent.specs.Events.{event_entered, texts_len}
use Rattle.serf_agent.specs.Ideal.{IdealAgent, with_snapshot}
use Rattle.serf_agent.specs.KeptRestart.{IsKeptSound}
use Rattle.serf_agent.specs.KeptTexts.{IsIdWritable, IsWritable, line_of_event}
use Rattle.serf_agent.specs.Queries.{query_entered}

pub record KeptAppendLineLaws : Type 0 where
  -- an event, or a query, enters, and its line is written with its clock line
  pub enters_event : (t : ℕ) (what : EventBody) (i : IdealAgent) → IsKeptSound i → IsSnapshotSound i.snapshot → i.snapshot.stopped ≡ false → 0 < t → t < max_clock → IsWritable what → texts_len what ≤ max_text_bytes
      → IsKeptSound (with_snapshot (kept_appended kinds.Event t (line_of_event t what) i.snapshot Kept) (event_entered t what i))
  pub enters_query : (t id : ℕ) (i : IdealAgent) → IsKeptSound i → IsSnapshotSound i.snapshot → i.snapshot.stopped ≡ false → 0 < t → t < max_clock → IsIdWritable id
      → IsKeptSound (with_snapshot (kept_appended kinds.Query t (query_line t id) i.snapshot Kept) (query_entered t id i))
  -- a line is written with which nothing enters, such as that of a minimum time
  pub tells : (kind : ClockKind) (t : ℕ) (line : List ℕ) (i : IdealAgent) → IsKeptSound i → IsKeptSound (with_snapshot (kept_appended kind t line i.snapshot Kept) i)
  -- the member clock's line is written
  pub saves : (t : ℕ) (i : IdealAgent) → IsKeptSound i → IsKeptSound (with_snapshot (noted kinds.Member t i.snapshot Kept) i)
  -- the sink fails, and keeps a part of what was to be written
  pub fails : (kind : ClockKind) (t : ℕ) (bytes : List ℕ) (durable : Option (List ℕ)) (i : IdealAgent) → IsKeptSound i → KeepsPart i.snapshot.durable bytes durable
      → IsKeptSound (with_snapshot (written kind t i.snapshot (Failed durable)) i)
