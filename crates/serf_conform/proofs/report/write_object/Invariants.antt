use Rattle.serf_conform.proofs.Names.{take, ◌++◌, ◌≡◌, flat_map, member_text}
use Rattle.serf_conform.proofs.report.write_object.Given as goal

abbrev pub invariant-loop-member : goal.invariant-loop-member
invariant-loop-member l = l.out.items ≡ l.initial.out.items ++ flat_map member_text (take l.member-index l.members)
