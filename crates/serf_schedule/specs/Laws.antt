-- What a line adds to a schedule, and what an action adds to a trace.
use Rattle.std.specs.Prelude.{All, IfOk, ◌≡◌, ◌+◌, ◌<◌, ◌++◌, ℕ, List, ◌∷◌, [], Ok, length}
use Rattle.serf_model.specs.declared.action.Action.{Action}
use Rattle.serf_model.specs.declared.line.Line.{Line}
use Rattle.serf_model.specs.Sizes.{HasSizes}
use Rattle.serf_model.specs.Tails.{BringsTold}
use Rattle.serf_model.specs.Cluster.{Cluster, step}
use Rattle.serf_schedule.specs.Grown.{AddsSame, Grows}
use Rattle.serf_schedule.specs.Line.{Parsed, after_line}
use Rattle.serf_schedule.specs.Schedule.{schedule_of}
use Rattle.serf_schedule.specs.Show.{action_text, actions_text}

-- a step appends its packets to those that were sent before
abbrev pub SendsAfter : Type 0
SendsAfter = (c : Cluster) (action : Action) → (step c action).cluster.sent ≡ c.sent ++ (step c action).turn.packets

-- packets that are sent after a step don't change its lines
abbrev pub LinesStay : Type 0
LinesStay = (c : Cluster) (action : Action) (n : ℕ) (more : List (List ℕ))
    → action_text ((step c action).cluster.sent ++ more) n (step c action).turn.line ≡ action_text (step c action).cluster.sent n (step c action).turn.line

-- the lines of the last action follow those of the others
abbrev pub LinesFollow : Type 0
LinesFollow = (sent : List (List ℕ)) (n : ℕ) (lines : List Line) (line : Line)
    → actions_text sent n (lines ++ line ∷ []) ≡ actions_text sent n lines ++ action_text sent (n + length lines) line

-- a line of a schedule adds at most one action, and an agent only if there is no action yet
abbrev pub LinesGrow : Type 0
LinesGrow = (before : Parsed) (line : List ℕ) → IfOk (after_line before line) (Grows before)

-- after an action, a line adds the same to every schedule
abbrev pub LateLinesAddSame : Type 0
LateLinesAddSame = (p q : Parsed) (line : List ℕ) → 0 < length p.actions → 0 < length q.actions → AddsSame p q (after_line p line) (after_line q line)

-- the numbers in the actions of a parsed schedule fit into their types
abbrev pub SchedulesAreSized : Type 0
SchedulesAreSized = (text : List ℕ) (schedule : Parsed) → schedule_of text ≡ Ok schedule → All HasSizes schedule.actions

-- snapshot lines can hold what the actions of a parsed schedule fire or inject
abbrev pub SchedulesAreTold : Type 0
SchedulesAreTold = (text : List ℕ) (schedule : Parsed) → schedule_of text ≡ Ok schedule → All BringsTold schedule.actions
