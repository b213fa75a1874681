use Rattle.serf_agent_c.proofs.burst_calls.serf_agent_burst_fire.Goals as goal

pub returns-clause-extends : goal.returns-clause-extends
returns-clause-extends c = rw (c.in-Some.ensures.some, c.of.ensures, ← c.deref_mut.ensures.value) (c.burst_fire-code.result, c.number-2.ensures, c.burst_fire-code.ensures.extends)
