use Rattle.serf_json.proofs.Names.{take, ◌++◌, ◌≡◌, flat_map, member_text}
use Rattle.serf_json.proofs.object.write_members.Given as goal

-- the first of the members were written
abbrev pub invariant-loop-member : goal.invariant-loop-member
invariant-loop-member l = l.out.items ≡ l.fn.out.items ++ flat_map member_text (take l.member-index l.members)
