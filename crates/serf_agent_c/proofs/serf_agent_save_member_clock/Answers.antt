use Rattle.serf_agent_c.proofs.serf_agent_save_member_clock.Goals as goal

pub returns-clause-takes : goal.returns-clause-takes
returns-clause-takes c = rw (c.in-Some.ensures.some, c.of.ensures, ← c.deref_mut.ensures.value) (c.save_member_clock-code.result, c.number-2.ensures, c.save_member_clock-code.ensures.takes)
