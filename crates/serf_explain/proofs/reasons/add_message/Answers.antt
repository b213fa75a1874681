use Rattle.serf_explain.proofs.Names.{refl, push_pull_said}
use Rattle.serf_explain.proofs.reasons.add_message.Goals as goal

pub returns-in-PushPull : goal.returns-in-PushPull
returns-in-PushPull c = λ k i m. rw c.in-PushPull.is (c.add_carried_lines.ensures k i (push_pull_said c.in-PushPull.state) m refl refl)
