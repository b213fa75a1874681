use Rattle.serf_text.proofs.Names.{arith, drop, length, take, ◌++◌, ◌≡◌, ◌≤◌, Consumes-trans, common_steps, take-append-le}
use Rattle.serf_text.proofs.input.read_input.Goals as goal

pub returns-then-is_err-clause-bounded : goal.returns-then-is_err-clause-bounded
returns-then-is_err-clause-bounded g c =
    let room = c.in-Ok.ensures.bound in
    (_, Consumes-trans _ _ _ _ _ c.loop-turn.invariant.2 c.in-Ok.ensures.bytes.0, grind (arith, common_steps, room))

pub loop-turn-preserved : goal.loop-turn-preserved
loop-turn-preserved g c =
    let room = c.in-Ok.ensures.bound in
    let fits : c.in-Ok.n ≤ length c.read.new.buf = room.0 in
    let grown : c.extend_from_slice.new.self.items ≡ c.loop-turn.input.items ++ take c.in-Ok.n (c.read.new.buf ++ drop c.min-room.result c.loop-turn.chunk) = grind (arith, common_steps) in
    let consumed = Consumes-trans _ _ _ _ _ c.loop-turn.invariant.2 c.in-Ok.ensures.bytes.0 in
    (grind (arith, common_steps), grind (arith, common_steps, room), rw (grown, take-append-le) consumed)
