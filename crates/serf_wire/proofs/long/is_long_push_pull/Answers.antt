use Rattle.serf_wire.proofs.Names.{rules}
use Rattle.serf_wire.proofs.Mapped.{long_parts}
use Rattle.serf_wire.proofs.long.is_long_push_pull.Goals as goal

pub returns-then-len-gt-LONGEST : goal.returns-then-len-gt-LONGEST
returns-then-len-gt-LONGEST c = rw (long_parts c.args.parts.now) (search rules)

pub returns-else-len-gt-LONGEST : goal.returns-else-len-gt-LONGEST
returns-else-len-gt-LONGEST c = rw (long_parts c.args.parts.now) (search rules)
