use Rattle.std.proofs.Common.{ap, decimal}
use Rattle.std.proofs.lemmas.Result.{on_ok_weaker}
use Rattle.serf_schedule.specs.Show.{packet_of}
use Rattle.serf_run_json.specs.Readable.{packet_words}
unfoldable use Rattle.serf_run_json.specs.Readable.{sent_line}
use Rattle.serf_run_json.proofs.ReadableLaws.{sent-line}
use Rattle.serf_run_json.proofs.readable.write_sent.Goals as goal

pub returns : goal.returns
unfolding sent_line
returns c = on_ok_weaker c.end_line.result
    (λ is. sent-line c.args.out.now.items (decimal c.args.number) (decimal c.args.packet) (packet_words c.sent_packet.result.now) (packet_words (packet_of c.args.world.now.sent c.args.packet)) _ _ _
    (ap packet_words c.sent_packet.ensures) c.in_ok-write_template.ensures c.in_ok-write_packet.ensures is)
    c.end_line.ensures
