use Rattle.serf_agent.proofs.Names.{List, Option, subst, ℕ, lines_given, WritesLine}
use Rattle.serf_agent.proofs.AppendLineLaws.{writes-line}
use Rattle.serf_agent.proofs.own_line.append_lines.Goals as goal

pub returns : goal.returns
returns g c =
    let old = c.args.snapshot.now in
    let new = c.append_line.new.self in
    let r = c.append_line.result in
    subst (λ (o : Option (List ℕ)). WritesLine c.args.kind c.args.time o old new r) c.as_slice.ensures (writes-line c.args.kind c.args.time (lines_given c.as_slice.result.now) old new r c.requires c.append_line.ensures)
