use Rattle.serf_judge.proofs.Names.{nat_le, bytes_eq-Decides, get, bytes_eq, is_same_text}
use Rattle.serf_judge.proofs.RecordedLaws.{table-more}
use Rattle.serf_judge.proofs.later.record_entry.Goals as goal

pub returns : goal.returns
returns c = λ events h.
    table-more bytes_eq bytes_eq-Decides (λ q. q.now) (λ e. e.node.items) (λ recorded t. nat_le t recorded) (λ e t. nat_le t e.time) events c.args.event.now c.as_slice-node.result c.largest_with-time.result
    (λ q. get is_same_text c.args.largest.now q) (λ q. get is_same_text c.insert.new.self q) c.as_slice-node.ensures.value h c.largest_with-time.ensures (λ q. c.in_ok-insert.ensures.updates.0 q)
