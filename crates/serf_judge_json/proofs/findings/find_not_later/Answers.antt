use Rattle.serf_judge_json.proofs.Names.{true≢false, ◌∙◌}
use Rattle.serf_judge_json.proofs.findings.find_not_later.Goals as goal

pub returns-in-Ok : goal.returns-in-Ok
returns-in-Ok c = (
  λ no. absurd (true≢false (c.if-not-has_both.ensures ∙ no)),
  λ yes. rw (c.as_slice.ensures.value, c.as_slice-2.ensures.value) at c.in-Ok.ensures.verdict,
)
