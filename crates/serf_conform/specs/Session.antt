-- The verdict on an agent, as a function of what the agent writes.
use Rattle.std.specs.Prelude.{◌≡◌, ◌<◌, ◌≤◌, ◌-◌, ◌^◌, ℕ, ◌+◌, ◌++◌, ◌&&◌, Bool, true, false, not, if◌then◌else◌, List, [], ◌∷◌, length, take, drop, Option, Some, None}
use Rattle.std.specs.Io.KnownBytes.{Appends}
use Rattle.serf_agent.specs.declared.config.Config.{Config}
use Rattle.serf_model.specs.declared.action.Act.TheVariants as acts
use Rattle.serf_model.specs.declared.action.Action.{Action}
use Rattle.serf_model.specs.declared.action.Action.TheVariants as actions
use Rattle.serf_model.specs.declared.line.Line.{Line}
use Rattle.serf_model.specs.Trace.{Turn, actor_of, is_agent, packet_given}
use Rattle.serf_model.specs.Alone.{AgentCall, call_by}
use Rattle.serf_model.specs.Common.{is_common}
use Rattle.serf_conform.specs.CallText.{call_line, open_line}
use Rattle.serf_conform.specs.Input.{Cut, first_reply}
use Rattle.serf_conform.specs.Reply.{Said, reply_of}
use Rattle.serf_conform.specs.declared.judging.Judgement.{Judgement}
use Rattle.serf_conform.specs.declared.judging.Judgement.TheVariants as judgements
use Rattle.serf_conform.specs.declared.asking.TurnOutcome.{TurnOutcome}
use Rattle.serf_conform.specs.declared.asking.TurnOutcome.TheVariants as asks
use Rattle.serf_conform.specs.declared.dump.StateDump.{StateDump}
use Rattle.serf_conform.specs.declared.asking.Tally.{Tally}
use Rattle.serf_conform.specs.declared.verdict.End.{End}
use Rattle.serf_conform.specs.declared.verdict.End.TheVariants as ends
use Rattle.serf_conform.specs.declared.verdict.Verdict.{Verdict}
use Rattle.serf_conform.specs.StateDump.{is_dumped_after, dump_after, dump_judged, dump_line}
use Rattle.serf_conform.specs.ExpectedReply.{judged, opening, expected_reply_of}

-- One call

-- the outcome of a call, and what the agent writes after its reply
pub record OutcomeOf : Type 0 where
  pub outcome : TurnOutcome
  pub rest : List ℕ

abbrev pub outcome_by : Judgement → List ℕ → TurnOutcome
outcome_by judgements.Agrees text = asks.Agrees
outcome_by judgements.Differs text = asks.Differs text
outcome_by judgements.Unsupported text = asks.Unsupported

abbrev pub outcome_in : List ℕ → Said → Option Cut → OutcomeOf
outcome_in given wanted None = record { outcome = asks.Ended; rest = [] }
outcome_in given wanted (Some split) = record { outcome = outcome_by (judged given wanted (reply_of split.text)) split.text; rest = split.rest }

-- the outcome of a call that carried this packet, if this reply is expected and the agent writes these bytes
abbrev pub outcome_for : List ℕ → Said → List ℕ → OutcomeOf
outcome_for given wanted input = outcome_in given wanted (first_reply input)

-- the outcome of a `look`, if this state is expected
abbrev pub dumped_in : Bool → StateDump → Option Cut → OutcomeOf
dumped_in serf dump None = record { outcome = asks.Ended; rest = [] }
dumped_in serf dump (Some split) = record { outcome = outcome_by (dump_judged serf dump (reply_of split.text)) split.text; rest = split.rest }

abbrev pub dumped_of : Bool → StateDump → List ℕ → OutcomeOf
dumped_of serf dump input = dumped_in serf dump (first_reply input)

-- If the agent hasn't ended, the reader has the rest left.
abbrev pub RestIs : TurnOutcome → Option (List ℕ) → List ℕ → Type 0
RestIs asks.Ended new rest = Unit {0}
RestIs (asks.DumpEnded dump) new rest = Unit {0}
RestIs _ new rest = new ≡ Some rest

pub record IsOutcome (s : OutcomeOf) (outcome : TurnOutcome) (new : Option (List ℕ)) : Type 0 where
  pub outcome_is : outcome ≡ s.outcome
  pub rest : RestIs outcome new s.rest

-- One turn

-- The packet that a call carries, which is empty if the call needs none. The result is None if the call names no packet
-- that was sent.
abbrev pub given_of : Action → Option (List ℕ) → Option (List ℕ)
given_of (actions.Of agent (acts.Deliver packet now)) given = given
given_of (actions.Of agent (acts.Merge packet join)) given = given
given_of _ given = Some []

-- the packet of a turn, if it is a call of this agent
abbrev pub given_for : ℕ → Turn → Option (List ℕ)
given_for a t = if is_agent a (actor_of t.action) then given_of t.action t.given else None

-- the turn of an action and its line, if n packets were sent before it
abbrev pub turn_at : ℕ → List (List ℕ) → Action → Line → Turn
turn_at n sent action line = record { action = action; line = line; given = packet_given (take n sent) action; packets = take (length line.sent) (drop n sent) }

-- the outcome of a turn, what was written for it, and what the agent writes after its reply
pub record Taken : Type 0 where
  pub outcome : TurnOutcome
  pub written : List ℕ
  pub rest : List ℕ

abbrev pub with_line : List ℕ → OutcomeOf → Taken
with_line line s = record { outcome = s.outcome; written = line; rest = s.rest }

-- the outcome of a call that agrees, together with that of the `look` after it
abbrev pub with_dumped : StateDump → TurnOutcome → TurnOutcome
with_dumped dump asks.Agrees = asks.Looked
with_dumped dump asks.Unsupported = asks.Unlooked
with_dumped dump (asks.Differs text) = asks.DumpDiffers dump text
with_dumped dump asks.Ended = asks.DumpEnded dump
with_dumped dump outcome = outcome

-- The reply was read, and it agrees.
abbrev pub agrees : TurnOutcome → Bool
agrees asks.Agrees = true
agrees _ = false

abbrev pub dump_if : Bool → Bool → StateDump → Taken → Taken
dump_if false serf dump s = s
dump_if true serf dump s =
    let l = dumped_of serf dump s.rest in
    record { outcome = with_dumped dump l.outcome; written = s.written ++ dump_line; rest = l.rest }

-- a call, and the `look` after it if one is due and the call agrees
abbrev pub then_dumped : Bool → Option StateDump → Taken → Taken
then_dumped serf None s = s
then_dumped serf (Some dump) s = dump_if (agrees s.outcome) serf dump s

abbrev pub taken_by : Bool → Config → Option StateDump → Option (List ℕ) → Turn → List ℕ → Taken
taken_by serf config due None t input = record { outcome = asks.Skipped; written = []; rest = input }
taken_by serf config due (Some given) t input =
    if serf && not (is_common (Some config) t) then record { outcome = asks.OwnRule; written = []; rest = input }
    else then_dumped serf due (with_line (call_line t.action given) (outcome_for given (expected_reply_of t.line given t.packets) input))

-- a turn of agent a, which has these settings
abbrev pub taken_of : Bool → Config → ℕ → Option StateDump → Turn → List ℕ → Taken
taken_of serf config a due t input = taken_by serf config due (given_for a t) t input

-- the opening, and the `look` after it
abbrev pub opened_of : Bool → Config → List ℕ → Taken
opened_of serf config input = then_dumped serf (Some (dump_after config [])) (with_line (open_line config []) (outcome_for [] opening input))

-- the calls that the model's agent got, including the call of this turn, which carries this packet
abbrev pub made_with : Option (List ℕ) → Turn → List AgentCall → List AgentCall
made_with None t made = made
made_with (Some given) t made = made ++ call_by t.action (Some given)

abbrev pub made_after : ℕ → Turn → List AgentCall → List AgentCall
made_after a t made = made_with (given_for a t) t made

-- the state for the `look` that is due after a turn
abbrev pub due_if : Bool → StateDump → Option StateDump
due_if due dump = if due then Some dump else None

abbrev pub due_by : Option (List ℕ) → Turn → StateDump → Option StateDump
due_by None t dump = None
due_by (Some given) t dump = due_if (is_dumped_after t.line.answer) dump

abbrev pub due_of : ℕ → Config → List AgentCall → Turn → Option StateDump
due_of a config made t = due_by (given_for a t) t (dump_after config made)

pub record IsTaken (s : Taken) (outcome : TurnOutcome) (new : Option (List ℕ)) (held : Option (List ℕ)) (holds : Option (List ℕ)) : Type 0 where
  pub outcome_is : outcome ≡ s.outcome
  pub written : Appends held holds s.written
  pub rest : RestIs outcome new s.rest

-- All turns

-- a verdict, what was written before it, and what the agent writes after it
pub record Session : Type 0 where
  pub verdict : Verdict
  pub written : List ℕ
  pub rest : List ℕ

-- the counts after a call that agrees
abbrev pub one_more : Tally → Tally
one_more n = record { calls = n.calls + 1; dumps = n.dumps; unsupported = n.unsupported }

-- the counts after a `look`
abbrev pub dump_agrees : Tally → Tally
dump_agrees n = record { calls = n.calls; dumps = n.dumps + 1; unsupported = n.unsupported }

abbrev pub dump_unsupported : Tally → Tally
dump_unsupported n = record { calls = n.calls; dumps = n.dumps; unsupported = n.unsupported + 1 }

abbrev pub counted : TurnOutcome → Tally → Tally
counted asks.Agrees n = one_more n
counted asks.Looked n = dump_agrees (one_more n)
counted asks.Unlooked n = dump_unsupported (one_more n)
counted (asks.DumpDiffers dump text) n = one_more n
counted (asks.DumpEnded dump) n = one_more n
counted _ n = n

-- No count is the maximum of 64 bits.
pub record HasRoom (n : Tally) : Type 0 where
  pub calls : n.calls < 2 ^ 64 - 1
  pub dumps : n.dumps < 2 ^ 64 - 1
  pub unsupported : n.unsupported < 2 ^ 64 - 1

-- No count is above this maximum.
pub record IsFew (n : Tally) (maximum : ℕ) : Type 0 where
  pub calls : n.calls ≤ maximum
  pub dumps : n.dumps ≤ maximum
  pub unsupported : n.unsupported ≤ maximum

abbrev pub no_calls : Tally
no_calls = record { calls = 0; dumps = 0; unsupported = 0 }

-- a verdict at an action, with the expected state if the comparison ended at a `look`
abbrev pub verdict_at : ℕ → Tally → Option StateDump → End → Verdict
verdict_at action n dump end = record { calls = n.calls; dumps = n.dumps; unsupported_dumps = n.unsupported; action = action; dump = dump; end = end }

-- the verdict if this outcome of a call ends the comparison, or None if the comparison continues
abbrev pub ending_of : TurnOutcome → ℕ → Tally → Option Verdict
ending_of asks.OwnRule action n = Some (verdict_at action n None ends.OwnRule)
ending_of asks.Unsupported action n = Some (verdict_at action n None ends.Unsupported)
ending_of (asks.Differs text) action n = Some (verdict_at action n None (ends.Differs text))
ending_of asks.Ended action n = Some (verdict_at action n None ends.Ended)
ending_of (asks.DumpDiffers dump text) action n = Some (verdict_at action (one_more n) (Some dump) (ends.Differs text))
ending_of (asks.DumpEnded dump) action n = Some (verdict_at action (one_more n) (Some dump) ends.Ended)
ending_of _ action n = None

-- If there is no verdict yet, the comparison continues with the counts, with what was written, and with what the agent
-- writes from here on.
abbrev pub after_ending : Option Verdict → Tally → List ℕ → List ℕ → (Tally → List ℕ → List ℕ → Session) → Session
after_ending None n written rest next = next n written rest
after_ending (Some verdict) n written rest next = record { verdict = verdict; written = written; rest = rest }

abbrev pub after_outcome : TurnOutcome → ℕ → Tally → List ℕ → List ℕ → (Tally → List ℕ → List ℕ → Session) → Session
after_outcome outcome action n written rest next = after_ending (ending_of outcome action n) (counted outcome n) written rest next

-- the verdict after the `look` that follows the last call
abbrev pub last_of : TurnOutcome → ℕ → Tally → StateDump → Verdict
last_of asks.Agrees action n dump = verdict_at action (dump_agrees n) None ends.AllAgree
last_of asks.Unsupported action n dump = verdict_at action (dump_unsupported n) None ends.AllAgree
last_of (asks.Differs text) action n dump = verdict_at action n (Some dump) (ends.Differs text)
last_of asks.Ended action n dump = verdict_at action n (Some dump) ends.Ended
last_of (asks.DumpEnded other) action n dump = verdict_at action n (Some dump) ends.Ended
last_of outcome action n dump = verdict_at action n None ends.AllAgree

-- A turn, if the model's agent got these calls before it. The state for the `look` that is due after the turn is that
-- of the model's agent.
abbrev pub taken_at : Bool → ℕ → Config → List AgentCall → Turn → List ℕ → Taken
taken_at serf a config made t input = taken_of serf config a (due_of a config (made_after a t made) t) t input

-- The turns that are left, beginning with the one of this action. The model's agent got these calls before.
abbrev pub session_from : Bool → ℕ → Config → List AgentCall → ℕ → Tally → List ℕ → List Turn → List ℕ → Session
session_from serf a config made action n written [] input =
    let dump = dump_after config made in
    let l = dumped_of serf dump input in
    record { verdict = last_of l.outcome action n dump; written = written ++ dump_line; rest = l.rest }
session_from serf a config made action n written (t ∷ ts) input =
    let s = taken_at serf a config made t input in
    after_outcome s.outcome action n (written ++ s.written) s.rest (λ m w rest. session_from serf a config (made_after a t made) (action + 1) m w ts rest)

-- An agent is opened, which counts as action 0, and is then compared with the turns of agent a. Actions are counted
-- from 1.
abbrev pub session : Bool → ℕ → Config → List Turn → List ℕ → Session
session serf a config turns input =
    let s = opened_of serf config input in
    after_outcome s.outcome 0 no_calls s.written s.rest (λ n w rest. session_from serf a config [] 1 n w turns rest)

-- If the agent hasn't ended, the reader has the rest left.
abbrev pub IsLeft : End → Option (List ℕ) → List ℕ → Type 0
IsLeft ends.Ended new rest = Unit {0}
IsLeft _ new rest = new ≡ Some rest

-- the verdict, what was written, and what the reader has left
pub record Concludes (s : Session) (verdict : Verdict) (new held holds : Option (List ℕ)) : Type 0 where
  pub verdict_is : verdict ≡ s.verdict
  pub written : Appends held holds s.written
  pub left : IsLeft verdict.end new s.rest

-- Partway through a session, what is left of the input leads to the same session as the whole input.
abbrev pub IsAlong : Option (List ℕ) → Option (List ℕ) → Option (List ℕ) → Option (List ℕ) → (List ℕ → Session) → (List ℕ → List ℕ → Session) → Type 0
IsAlong None now held holds whole from = Unit {0}
IsAlong (Some input) None held holds whole from = ⊥
IsAlong (Some input) (Some rest) held holds whole from = (w : List ℕ) × Appends held holds w × (from w rest ≡ whole input)
