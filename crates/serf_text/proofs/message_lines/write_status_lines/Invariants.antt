use Rattle.serf_text.proofs.Names.{◌++◌, ◌≡◌, flat_map, status_left, status_line}
use Rattle.serf_text.proofs.message_lines.write_status_lines.Given as goal

-- the lines so far, followed by those of the rest
abbrev pub invariant-loop-entry : goal.invariant-loop-entry
invariant-loop-entry l = l.out.items ++ flat_map status_line (status_left l.entry-iterator) ≡ l.fn.out.items ++ flat_map status_line (status_left l.fn.status)
