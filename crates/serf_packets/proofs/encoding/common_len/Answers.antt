use Rattle.serf_packets.proofs.Names.{List, [], ap, arith, drop, length, ℕ, ◌+◌, ◌∙◌, ◌≡◌, ◌≤◌, common_steps, common}
use Rattle.serf_packets.proofs.ListLaws.{common_nothing}
use Rattle.serf_packets.proofs.encoding.common_len.Goals as goal

pub returns-else-len-other-clause-count : goal.returns-else-len-other-clause-count
returns-else-len-other-clause-count c =
    let len : ℕ = c.bytes.len in
    let rest : List ℕ = drop len c.args.text.now in
    let end : length c.args.other.now ≤ len = grind (arith, common_steps) in
    let none : drop len c.args.other.now ≡ [] = grind (arith, common_steps) in
    let so_far : common c.args.text.now c.args.other.now ≡ common rest [] + len = c.bytes.invariant.2 ∙ ap (λ ys. common rest ys + len) none in
    let zero : common rest [] ≡ 0 = common_nothing rest in
    omega (arith, so_far, zero)
