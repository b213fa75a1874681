use Rattle.serf_snapshot.proofs.ClockLaws.{following-prefixed, following-unprefixed}
use Rattle.serf_snapshot.proofs.kept_lines.strip_line_prefix.Goals as goal

pub returns-in-Some : goal.returns-in-Some
returns-in-Some c =
    let says = c.in-Some.ensures in
    following-prefixed c.args.prefix.now c.args.line.now c.in-Some.rest.now says.cases.0 says.cases.1

pub returns-in-None : goal.returns-in-None
returns-in-None c =
    let says = c.in-None.ensures in
    following-unprefixed c.args.prefix.now c.args.line.now says.cases
