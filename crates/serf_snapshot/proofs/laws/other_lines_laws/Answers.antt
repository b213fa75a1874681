use Rattle.serf_snapshot.proofs.OtherLineLaws.{differs-appended, differs-inserted, differs-itself, differs-joined, differs-refused, differs-sealed, differs-swapped, differs-whole, same-clock, same-events, same-min, same-queries}
use Rattle.serf_snapshot.proofs.laws.other_lines_laws.Goals as goal

pub returns-clause-clocks : goal.returns-clause-clocks
returns-clause-clocks c = same-clock

pub returns-clause-lowest : goal.returns-clause-lowest
returns-clause-lowest c = same-min

pub returns-clause-events : goal.returns-clause-events
returns-clause-events c = same-events

pub returns-clause-queries : goal.returns-clause-queries
returns-clause-queries c = same-queries

pub returns-clause-whole : goal.returns-clause-whole
returns-clause-whole c = differs-whole

pub returns-clause-appended : goal.returns-clause-appended
returns-clause-appended c = differs-appended

pub returns-clause-sealed : goal.returns-clause-sealed
returns-clause-sealed c = differs-sealed

pub returns-clause-inserted : goal.returns-clause-inserted
returns-clause-inserted c = differs-inserted

pub returns-clause-refused : goal.returns-clause-refused
returns-clause-refused c = differs-refused

pub returns-clause-itself : goal.returns-clause-itself
returns-clause-itself c = differs-itself

pub returns-clause-swapped : goal.returns-clause-swapped
returns-clause-swapped c = differs-swapped

pub returns-clause-joined : goal.returns-clause-joined
returns-clause-joined c = differs-joined
