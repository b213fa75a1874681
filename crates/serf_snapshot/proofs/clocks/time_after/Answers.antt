use Rattle.serf_snapshot.proofs.Names.{ap, sym, ◌∙◌, time_text_value}
use Rattle.serf_snapshot.proofs.ClockLaws.{following-prefixed, following-unprefixed}
use Rattle.serf_snapshot.proofs.clocks.time_after.Goals as goal

pub returns-in-Some : goal.returns-in-Some
returns-in-Some c =
    let says = c.in-Some.ensures in
    c.time_of.ensures ∙ sym (ap time_text_value (following-prefixed c.args.prefix.now c.args.line.now c.in-Some.digits.now says.cases.0 says.cases.1))

pub returns-in-None : goal.returns-in-None
returns-in-None c =
    let says = c.in-None.ensures in
    sym (ap time_text_value (following-unprefixed c.args.prefix.now c.args.line.now says.cases))
