-- A window's verdict, as a reason to ignore an entry.
use Rattle.std.specs.Prelude.{Option, Some, None}
use Rattle.serf_window.specs.declared.verdict.Verdict.{Verdict}
use Rattle.serf_window.specs.declared.verdict.Verdict.TheVariants.{BelowMinimum, TooOld, Seen, TimeFull, New}
use Rattle.serf_agent.specs.declared.outcome.Reason.{Reason}
use Rattle.serf_agent.specs.declared.outcome.Reason.TheVariants.{BelowMinimum as IsBelowMinimum, TooOld as IsTooOld, Seen as IsSeen, TimeFull as IsTimeFull}

abbrev pub reason_for : Verdict → Option Reason
reason_for BelowMinimum = Some IsBelowMinimum
reason_for TooOld = Some IsTooOld
reason_for Seen = Some IsSeen
reason_for TimeFull = Some IsTimeFull
reason_for New = None
