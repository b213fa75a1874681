use Rattle.serf_agent_c.proofs.serf_agent_compact.Goals as goal

pub returns-clause-takes : goal.returns-clause-takes
returns-clause-takes c = rw (c.in-Some.ensures.some, c.of.ensures, ← c.deref_mut.ensures.value) (c.compact-code.result, c.number-2.ensures, c.compact-code.ensures.takes)
