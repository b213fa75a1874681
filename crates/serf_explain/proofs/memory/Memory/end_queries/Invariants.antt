use Rattle.serf_explain.proofs.Names.{filter, take, ◌≡◌, get, ended_among, same_moment, stays_open, Moment}
use Rattle.serf_explain.proofs.memory.Memory.end_queries.Given as goal

-- what is remembered after these queries were checked
abbrev pub invariant-loop-moment : goal.invariant-loop-moment
invariant-loop-moment l = record {
  entered : l.self.queries ≡ l.fn.self.queries;
  fired_queries : (m : Moment) → get same_moment l.self.fired_queries m ≡ ended_among l.world l.agent l.ended (take l.moment-index l.moments) m (get same_moment l.fn.self.fired_queries m);
  pending : l.self.pending.items ≡ filter (stays_open l.world l.agent) (take l.moment-index l.moments);
}
