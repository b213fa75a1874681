-- The summary of a text.
use Rattle.std.specs.Prelude.{◌≡◌, ℕ, List, length, Ok}
use Rattle.serf_model.specs.Runs.{AreConfigs}
use Rattle.serf_schedule.specs.Line.{Parsed}
use Rattle.serf_schedule.specs.Schedule.{schedule_of}
use Rattle.serf_replay.specs.Summaries.{IsSummary}
use Rattle.serf_replay.specs.Turns.{lines_in}
use Rattle.serf_replay.specs.declared.summary.Summary.{Summary}

-- The text is a schedule whose agents can form a cluster, and this is the summary of its run.
pub record IsSummaryOf (text : List ℕ) (summary : Summary) : Type 0 where
  pub schedule : Parsed
  pub reads : schedule_of text ≡ Ok schedule
  pub settings : AreConfigs schedule.configs
  pub sized : summary.size ≡ length schedule.configs
  pub summary_is : IsSummary summary (lines_in schedule)
