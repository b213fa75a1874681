-- How a schedule grows by one line.
use Rattle.std.specs.Prelude.{◌≡◌, ◌++◌, ◌⊎◌, [], Option, Result, Ok, Err}
use Rattle.std.specs.Option.{option_to_list}
use Rattle.serf_model.specs.declared.action.Action.{Action}
use Rattle.serf_text.specs.declared.cause.Cause.{Cause}
use Rattle.serf_schedule.specs.Line.{Parsed}

-- a schedule with one more action, or without a new action
abbrev pub with_turn : Parsed → Option Action → Parsed
with_turn said turn = record { configs = said.configs; actions = said.actions ++ option_to_list turn }

-- there is no action before the line or after it, or the line adds at most one action and no agent
abbrev pub Grows : Parsed → Parsed → Type 0
Grows before after = ((before.actions ≡ []) × (after.actions ≡ [])) ⊎ ((turn : Option Action) × (after ≡ with_turn before turn))

-- both schedules get the same action, or neither gets one, or both are refused for the same cause
abbrev pub AddsSame : Parsed → Parsed → Result Parsed Cause → Result Parsed Cause → Type 0
AddsSame p q (Ok a) (Ok b) = (turn : Option Action) × (a ≡ with_turn p turn) × (b ≡ with_turn q turn)
AddsSame p q (Ok a) (Err f) = ⊥
AddsSame p q (Err e) (Ok b) = ⊥
AddsSame p q (Err e) (Err f) = e ≡ f
