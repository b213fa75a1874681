use Rattle.serf_explain.proofs.Names.{Option, ap, arith, true, ◌∙◌, ◌≡◌, is_some, nat_eq, ConcreteState, has_open}
use Rattle.std.proofs.Common.{eq-eqb}
use Rattle.serf_explain.proofs.MemoryLaws.{is_some-copied}
use Rattle.serf_explain.proofs.memory.stays_open.Goals as goal

pub returns-in-Some : goal.returns-in-Some
returns-in-Some c =
    let is : c.args.moment.agent ≡ c.args.agent = omega arith in
    let same : nat_eq c.args.moment.agent c.args.agent ≡ true = eq-eqb c.args.moment.agent c.args.agent is in
    rw same (c.is_some.ensures ∙ is_some-copied c.open_query.result ∙ ap is_some c.open_query.ensures ∙ ap (λ (o : Option ConcreteState). has_open c.args.moment.time o) c.in-Some.ensures)

pub returns-in-None : goal.returns-in-None
returns-in-None c =
    let is : c.args.moment.agent ≡ c.args.agent = omega arith in
    let same : nat_eq c.args.moment.agent c.args.agent ≡ true = eq-eqb c.args.moment.agent c.args.agent is in
    rw same (ap (λ (o : Option ConcreteState). has_open c.args.moment.time o) c.in-None.ensures)
