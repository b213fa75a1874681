use Rattle.serf_schedule.proofs.TextNames.{All, subst, parsed_of}
use Rattle.serf_schedule.proofs.Names.{HasByteName}
use Rattle.serf_schedule.proofs.written_lines.know_read_back.Goals as goal

pub returns : goal.returns
returns c = λ sayable.
    let bytes = subst (All HasByteName) c.as_slice.ensures.agents c.have_byte_names.ensures in
    let ok = c.as_slice.ensures.configs in
    c.text_reads_back.ensures (parsed_of c.args.schedule.now) ok bytes sayable
