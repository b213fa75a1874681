-- How a call of the ideal agent ends. Every call has one of three forms: it ends at once, or it first appends a clock
-- line or replaces the text, and then the choice of the sink decides.
use Rattle.std.specs.Prelude.{◌≡◌, ℕ, List, Option}
use Rattle.serf_snapshot.specs.declared.kind.ClockKind.{ClockKind}
use Rattle.serf_snapshot.specs.AppendsLine.{Failed, Kept, MayReplaceBy, Writing, text_replaced, written}
use Rattle.serf_agent.specs.Ideal.{IdealAgent, with_snapshot}
use Rattle.serf_agent.specs.Written.{MayAppendLine, appended_with, text_with, will_append_line, will_replace_with}

-- the agent that a call leaves, and the answer that it returns
pub record Step (R : Type 0) : Type 0 where
  pub agent : IdealAgent
  pub answer : R

-- A call has one of these forms. It ends with this step. Or it first appends the clock line of a kind and a time, with
-- an own line if it has one: if the lines are durable, the call ends with this step; if the sink fails, the call
-- returns this error and the agent is stopped. Or it replaces the snapshot's text in the same way, and the new text
-- also has these lines, if there are any.
pub data Call (R : Type 0) : Type 0 where
  Ends : Step R → Call R
  AppendsLine : ClockKind → ℕ → Option (List ℕ) → Step R → R → Call R
  Replaces : Option (List ℕ) → Step R → R → Call R

-- a call that returns this answer and changes nothing
abbrev pub answers : {R : Type 0} → IdealAgent → R → Call R
answers i answer = Ends record { agent = i; answer = answer }

-- how a call ends if the sink does this with the line or the new text
abbrev pub ended : {R : Type 0} → IdealAgent → Call R → Writing → Step R
ended i (Ends step) w = step
ended i (AppendsLine kind t line step error) Kept = record { agent = with_snapshot (appended_with kind t line i.snapshot Kept) step.agent; answer = step.answer }
ended i (AppendsLine kind t line step error) (Failed durable) = record { agent = with_snapshot (written kind t i.snapshot (Failed durable)) i; answer = error }
ended i (Replaces lines step error) Kept = record { agent = with_snapshot (text_replaced (text_with lines i.snapshot) i.snapshot Kept) step.agent; answer = step.answer }
ended i (Replaces lines step error) (Failed durable) = record { agent = with_snapshot (text_replaced (text_with lines i.snapshot) i.snapshot (Failed durable)) i; answer = error }

-- what the sink may do with the line or the new text of a call
abbrev pub MayEnd : {R : Type 0} → IdealAgent → Call R → Writing → Type 0
MayEnd i (Ends step) w = w ≡ Kept
MayEnd i (AppendsLine kind t line step error) w = MayAppendLine kind t line i.snapshot w
MayEnd i (Replaces lines step error) w = MayReplaceBy (text_with lines i.snapshot) i.snapshot w

-- the call appends a line or replaces the text; receiving an event or a query does so only if it is new
abbrev pub AsksSink : {R : Type 0} → Call R → Type 0
AsksSink (Ends step) = ⊥
AsksSink (AppendsLine kind t line step error) = Unit {0}
AsksSink (Replaces lines step error) = Unit {0}

-- what a sink with a plan does in a call
abbrev pub will : {R : Type 0} → IdealAgent → Call R → Writing
will i (Ends step) = Kept
will i (AppendsLine kind t line step error) = will_append_line kind t line i.snapshot
will i (Replaces lines step error) = will_replace_with lines i.snapshot

-- how a call ends over a sink with a plan
abbrev pub planned : {R : Type 0} → IdealAgent → Call R → Step R
planned i call = ended i call (will i call)
