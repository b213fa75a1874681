use Rattle.serf_judge_json.proofs.findings.find_broken.Goals as goal

pub returns : goal.returns
returns c = record {
  events = rw c.as_slice.ensures.value at c.in_ok-first_event_twice.ensures.first;
  queries = rw c.as_slice-2.ensures.value at c.in_ok-first_query_twice.ensures.first;
  unfired = c.in_ok-find_unfired.ensures;
  not_later = c.in_ok-find_not_later.ensures;
}
