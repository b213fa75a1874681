use Rattle.serf_agent_c.proofs.Names.{Some, ap, sym, ◌∙◌, ◌≡◌, error_of, merged_code}
use Rattle.serf_agent_c.proofs.session.Session.merge.Goals as goal

pub returns-clause-merges : goal.returns-clause-merges
returns-clause-merges c = λ ready error e.
    let both : Some c.merge_into-error.result ≡ Some error = sym (ap error_of c.give.ensures.call_result) ∙ e in
    let is : c.merge_into-error.result ≡ error = cc both in (
      c.merged_code.ensures ∙ ap merged_code is,
      λ i m sound same runs said. rw (c.give.ensures.call_result, ← is, c.give.ensures.rest.0, ← c.begin.ensures.agent, ← c.new-events.ensures.items) (c.merge_into-error.ensures.merged i m sound (rw (c.begin.ensures.agent) same) runs said),
    )
