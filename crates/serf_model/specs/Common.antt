-- Which turns depend on one of this project's own rules (docs/DECISIONS.md).
use Rattle.std.specs.Prelude.{ℕ, ◌==◌, ◌&&◌, nat_le, Bool, true, false, not, length, List, Option, Some, None, slice_get}
use Rattle.std.specs.Option.{is_none}
use Rattle.serf_agent.specs.declared.config.Config.{Config}
use Rattle.serf_agent.specs.Defaults.{default_per_time}
use Rattle.serf_agent.specs.declared.outcome.Reason.{Reason}
use Rattle.serf_agent.specs.declared.outcome.Reason.TheVariants as reasons
use Rattle.serf_model.specs.declared.action.Act.TheVariants as acts
use Rattle.serf_model.specs.declared.action.Action.{Action}
use Rattle.serf_model.specs.declared.action.Action.TheVariants as actions
use Rattle.serf_model.specs.declared.line.Refusal.{Refusal}
use Rattle.serf_model.specs.declared.line.Refusal.TheVariants as refusals
use Rattle.serf_model.specs.declared.line.Line.{Line}
use Rattle.serf_model.specs.declared.line.Answer.{Answer}
use Rattle.serf_model.specs.declared.line.Answer.TheVariants as answers
use Rattle.serf_model.specs.Trace.{Turn}

-- the limits on an event's texts and on the number of entries of one time are own rules
abbrev pub is_common_reason : Reason → Bool
is_common_reason reasons.Oversize = false
is_common_reason reasons.TimeFull = false
is_common_reason _ = true

-- Own rules decide which packets are refused, and that 2^64 - 1 isn't a valid time. The limit on the number of names,
-- and what happens if the disk fails, are own rules, too.
abbrev pub is_common_refusal : Refusal → Bool
is_common_refusal refusals.Stopped = false
is_common_refusal refusals.Exhausted = false
is_common_refusal refusals.RespondersFull = false
is_common_refusal refusals.SinkError = false
is_common_refusal (refusals.Wire error) = false
is_common_refusal _ = true

-- a compaction and a planned failure of the disk are own
abbrev pub is_common_answer : Answer → Bool
is_common_answer (answers.Ignored reason) = is_common_reason reason
is_common_answer (answers.Refused refusal) = is_common_refusal refusal
is_common_answer answers.Broken = false
is_common_answer answers.Compacted = false
is_common_answer _ = true

-- A query that is held back by its filters is own: its line is written here, but Serf's snapshot has only what Serf
-- hands out.
abbrev pub enters_query : Answer → Bool
enters_query answers.Query = true
enters_query (answers.Queried time) = true
enters_query _ = false

abbrev pub is_held_back : Line → Bool
is_held_back line = enters_query line.answer && is_none line.handed

abbrev pub is_common_line : Line → Bool
is_common_line line = is_common_answer line.answer && not (is_held_back line)

-- the settings of the agent that acts, if there is one
abbrev pub settings_of : List Config → Option ℕ → Option Config
settings_of configs None = None
settings_of configs (Some a) = slice_get configs a

-- What becomes of a torn tail is own. So is what a restart restores for an agent that keeps its events: the setting has
-- no visible effect before the first restart, but afterwards every turn may depend on it. Serf accepts any number of
-- events of one time, and the answer to a merge doesn't say which events were left out, so a merge is own if the agent
-- accepts fewer of one time than by default.
abbrev pub acts_commonly : Option Config → Action → Bool
acts_commonly (Some c) (actions.Of agent (acts.Restart tail)) = not c.keep_events && length tail == 0
acts_commonly None (actions.Of agent (acts.Restart tail)) = length tail == 0
acts_commonly (Some c) (actions.Of agent (acts.Merge packet join)) = nat_le default_per_time c.per_time
acts_commonly config action = true

-- The turn depends on none of this project's own rules, if the agent that acts has these settings and all turns before
-- it are common.
abbrev pub is_common : Option Config → Turn → Bool
is_common config t = is_common_line t.line && acts_commonly config t.action
