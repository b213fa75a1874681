-- The word for an action.
use Rattle.std.specs.Prelude.{ℕ, List, codes}
use Rattle.serf_model.specs.declared.action.Action.{Action}
use Rattle.serf_model.specs.declared.action.Action.TheVariants as actions
use Rattle.serf_schedule.specs.Command.{verb_word}

-- an injection, or what an agent does, as the first word of a line of a schedule
abbrev pub call_word : Action → List ℕ
call_word (actions.Inject bytes) = codes "inject"
call_word (actions.Of agent act) = verb_word act
