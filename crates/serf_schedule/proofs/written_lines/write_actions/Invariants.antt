use Rattle.serf_schedule.proofs.TextNames.{◌≡◌, ◌++◌, take, flat_map}
use Rattle.serf_schedule.specs.ScheduleText.{action_text}
use Rattle.serf_schedule.proofs.written_lines.write_actions.Given as goal

abbrev pub invariant-loop-action : goal.invariant-loop-action
invariant-loop-action l = l.out.items ≡ l.fn.out.items ++ flat_map action_text (take l.action-index l.actions)
