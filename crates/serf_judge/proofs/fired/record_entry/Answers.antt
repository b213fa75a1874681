use Rattle.serf_judge.proofs.Names.{get, content_key_eq, content_of, is_same_content, key_content, counts, one_counts}
use Rattle.serf_judge.proofs.FiredLaws.{content-decides}
use Rattle.serf_judge.proofs.RecordedLaws.{table-more}
use Rattle.serf_judge.proofs.fired.record_entry.Goals as goal

pub returns : goal.returns
returns c = λ fired h.
    table-more is_same_content content-decides key_content content_of counts (one_counts c.args.starts.now) fired c.args.entry.now c.content_key-key.result c.firings_with-firings.result
    (λ q. get content_key_eq c.args.table.now q) (λ q. get content_key_eq c.insert.new.self q) c.content_key-key.ensures h (λ at. rw (← c.log_of.ensures) (c.firings_with-firings.ensures at)) (λ q. c.in_ok-insert.ensures.updates.0 q)
