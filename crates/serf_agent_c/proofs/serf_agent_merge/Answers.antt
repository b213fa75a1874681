use Rattle.serf_agent_c.proofs.serf_agent_merge.Goals as goal

pub returns-clause-refused : goal.returns-clause-refused
returns-clause-refused c = rw (c.in-Some.ensures.some, c.of.ensures, ← c.deref_mut.ensures.value) (c.merge-code.result, c.number-2.ensures, c.merge-code.ensures.refused)

pub returns-clause-merges : goal.returns-clause-merges
returns-clause-merges c = rw (c.in-Some.ensures.some, c.of.ensures, ← c.deref_mut.ensures.value) (c.merge-code.result, c.number-2.ensures, c.merge-code.ensures.merges)
