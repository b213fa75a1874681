-- Random schedules.
use Rattle.std.specs.Prelude.{◌≡◌, ◌≤◌, ◌++◌, false, Option, Ok, length}
use Rattle.serf_schedule.specs.Line.{Parsed}
use Rattle.serf_schedule.specs.Schedule.{schedule_of}
use Rattle.serf_random.specs.declared.random_options.RandomOptions.{RandomOptions}
use Rattle.serf_random.specs.Comment.{comment_text}
use Rattle.serf_schedule.specs.ScheduleText.{schedule_text}
use Rattle.serf_conform.specs.declared.missing.MissingCalls.{MissingCalls}
use Rattle.serf_conform.specs.Without.{without_any}

-- The schedule reads back after a comment with the options, and has at most as many actions as the options say.
pub record IsRandom (ask : RandomOptions) (p : Parsed) : Type 0 where
  pub reads_back : schedule_of (comment_text false ask ++ schedule_text p) ≡ Ok p
  pub few : length p.actions ≤ ask.actions

-- what is left of such a schedule without these calls
pub record IsRandomWithout (missing : Option MissingCalls) (ask : RandomOptions) (p : Parsed) : Type 0 where
  pub whole : Parsed
  pub random : IsRandom ask whole
  pub left : p ≡ without_any missing whole
