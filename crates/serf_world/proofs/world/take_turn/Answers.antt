use Rattle.serf_world.proofs.world.take_turn.Goals as goal

pub returns-in-Break-clause-turn : goal.returns-in-Break-clause-turn
returns-in-Break-clause-turn c = λ m representable is. rw (c.in-Break.is) (c.break_at.ensures m c.args.number c.args.sent.now.items is)

pub returns-in-Close-clause-turn : goal.returns-in-Close-clause-turn
returns-in-Close-clause-turn c = λ m representable is. rw (c.in-Close.is) (c.close_at.ensures m c.args.number c.args.sent.now.items representable is)

pub returns-in-Compact-clause-turn : goal.returns-in-Compact-clause-turn
returns-in-Compact-clause-turn c = λ m representable is. rw (c.in-Compact.is) (c.compact_at.ensures m c.args.number c.args.sent.now.items representable is)
