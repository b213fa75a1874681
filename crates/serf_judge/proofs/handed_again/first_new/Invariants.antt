use Rattle.serf_judge.proofs.Names.{length, ◌&&◌, ◌-◌, ◌≡◌, ◌≤◌, position_from, IdealAgent, IsSound, view_of, is_line_of}
use Rattle.serf_judge.proofs.handed_again.first_new.Given as goal

-- the first place among those that are left is the first place of all
abbrev pub invariant-entries : goal.invariant-entries
invariant-entries g l =
    ((i : IdealAgent) → IsSound i → l.fn.agent.concrete ≡ view_of i
    → position_from (λ e. is_line_of g.E.Delivered.seen l.fn.node e && g.E.Offered.is_new l.fn.text i e) (length l.fn.entries - length l.left) l.left
    ≡ position_from (λ e. is_line_of g.E.Delivered.seen l.fn.node e && g.E.Offered.is_new l.fn.text i e) 0 l.fn.entries)
    × (length l.left ≤ length l.fn.entries)

abbrev pub decreases-entries : goal.decreases-entries
decreases-entries g l = length l.left
