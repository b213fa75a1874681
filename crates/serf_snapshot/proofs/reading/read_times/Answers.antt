use Rattle.serf_snapshot.proofs.Names.{List, [], ap, arith, max, ℕ, ◌-◌, ◌<◌, ◌^◌, ◌≡◌, largest, lines_of, ClockKind, Event, Member, Query}
use Rattle.serf_snapshot.proofs.ClockLaws.{last_clock-below}
use Rattle.serf_snapshot.proofs.MinTimeLaws.{lowest-some}
use Rattle.serf_snapshot.proofs.reading.read_times.Goals as goal

pub lines-init : goal.lines-init
lines-init c = record {
  member = omega arith;
  event = omega arith;
  query = omega arith;
  events = omega (arith, lowest-some Event (lines_of c.args.text.now));
  queries = omega (arith, lowest-some Query (lines_of c.args.text.now));
  events_some = omega arith;
  queries_some = omega arith;
}

-- the largest value of a whole text is a time
below : (k : ClockKind) (best : ℕ) (left text : List ℕ) → lines_of left ≡ [] → max best (largest k (lines_of left)) ≡ largest k (lines_of text) → best < 2 ^ 64 - 1
below k best left text none is = omega (arith, ap (largest k) none, is, last_clock-below k text)

pub returns-in_default-clause-times : goal.returns-in_default-clause-times
returns-in_default-clause-times c =
    let none = c.in_default.ensures.line in (
      below Member c.lines.times.clocks.member_clock c.lines.left.now c.args.text.now none c.lines.invariant.member,
      below Event c.lines.times.clocks.event_clock c.lines.left.now c.args.text.now none c.lines.invariant.event,
      below Query c.lines.times.clocks.query_clock c.lines.left.now c.args.text.now none c.lines.invariant.query,
    )
