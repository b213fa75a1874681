use Rattle.serf_conform.proofs.Names.{map, take, ◌++◌, ◌≡◌, Sent}
use Rattle.serf_conform.proofs.replies.add_sent.Given as goal

abbrev pub invariant-loop-packet : goal.invariant-loop-packet
invariant-loop-packet l = l.lines.items ≡ l.fn.lines.items ++ map (λ p. Sent p) (take l.packet-index l.packets)
