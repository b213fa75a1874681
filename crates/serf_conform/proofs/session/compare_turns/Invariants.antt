use Rattle.serf_conform.proofs.Names.{List, Option, [], length, ℕ, ◌+◌, ◌≤◌, Appends, AgentCall, turns_from, IsSolo, is_serf, IsAlong, IsFew, session_from}
use Rattle.serf_conform.proofs.session.compare_turns.Given as goal

-- The turns that are left, with what is left of the input, lead to the same session as all turns do. The model's agent
-- got the calls so far.
abbrev pub invariant-turns : goal.invariant-turns
invariant-turns g l = ((v : List ℕ) (held : Option (List ℕ)) → IsSolo l.subject.config.now [] l.fn.solo → Appends held (g.W.Write.contents l.fn.pipe.writer) v
    → (made : List AgentCall) × IsSolo l.subject.config.now made l.solo × IsAlong (g.R.Read.remaining l.fn.pipe.reader) (g.R.Read.remaining l.pipe.reader) held (g.W.Write.contents l.pipe.writer)
    (λ input. session_from (is_serf l.subject.rules) l.subject.agent l.subject.config.now [] 1 l.fn.tally v (turns_from 0 l.fn.run.sent.now l.fn.run.actions.now l.fn.run.lines.now) input)
    (λ w rest. session_from (is_serf l.subject.rules) l.subject.agent l.subject.config.now made l.number l.tally w (turns_from l.count l.fn.run.sent.now l.actions l.lines) rest))
    × (l.number + length l.actions ≤ length l.fn.run.actions.now + 1)
    × IsFew l.tally l.number
    × (l.count ≤ length l.fn.run.sent.now)

abbrev pub decreases-turns : goal.decreases-turns
decreases-turns g l = length l.actions
