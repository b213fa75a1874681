use Rattle.std.specs.Prelude.{◌≡◌, length}
use Rattle.serf_packets.specs.Framing.{has_text as has_text_in}
use Rattle.serf_packets.proofs.framing.has_text.Given as goal

abbrev pub invariant-starts : goal.invariant-starts
invariant-starts l = has_text_in l.text l.rest ≡ has_text_in l.text l.bytes

abbrev pub decreases-starts : goal.decreases-starts
decreases-starts l = length l.rest
