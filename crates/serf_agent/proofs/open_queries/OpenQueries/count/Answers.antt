use Rattle.serf_agent.proofs.Names.{OnErr, Result, Some, ap, nat_eq, rules, subst, sym, ◌∙◌, ◌≡◌, lookup, set_value, option_copied_mut, AllocError, OpenQuery}
use Rattle.serf_agent.proofs.OpenQueryLaws.{set_value-same, on_err-map}
use Rattle.serf_agent.proofs.open_queries.OpenQueries.count.Goals as goal
use Rattle.serf_agent.proofs.open_queries.OpenQueries.count.Goals.{in-Some, in-None}

pub returns-clause-err : goal.returns-clause-err
returns-clause-err c = elim c.match-get_mut.branch [
  | in-Some w ↦
      let test = nat_eq c.args.answer.now.time in
      let old = c.self.inside.queries.entries in
      let there : lookup test old ≡ Some w.in-Some.query.now = sym c.get_mut.ensures.value ∙ ap option_copied_mut w.in-Some.is in
      let holds = c.get_mut.follows.holds w.count.new.self in
      subst (λ (r : Result (Unit {0}) AllocError). OnErr r _) (sym w.result-is)
      (on_err-map w.count.result (λ same. ap (λ a. a.queries.entries) w.self-inside-is ∙ holds.0 ∙ ap (λ (v : OpenQuery). set_value test old v) same ∙ set_value-same test old w.in-Some.query.now there ∙ c.self.view_is) w.count.ensures.err)
  | in-None w ↦ search rules
]
