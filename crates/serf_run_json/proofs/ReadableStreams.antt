-- The text of a schedule's run, written at the end or line by line.
use Rattle.std.specs.Prelude.{IsErrOf}
use Rattle.std.proofs.Common.{Err, List, Ok, Option, Result, ap, sym, ℕ, ◌∙◌, ◌≡◌}
use Rattle.serf_text.specs.Gives.{BadLine}
use Rattle.serf_text.specs.Lines.{lines_of}
use Rattle.serf_text.specs.Streams.{StopsAt}
use Rattle.serf_text.specs.declared.cause.Cause.{Cause}
use Rattle.serf_text.specs.declared.stream_error.StreamError.{StreamError}
use Rattle.serf_agent.specs.declared.config.Config.{Config}
use Rattle.serf_model.specs.declared.action.Action.{Action}
use Rattle.serf_schedule.specs.Line.{Parsed}
use Rattle.serf_schedule.specs.Output as output
use Rattle.serf_schedule.specs.ReportedInput.{ReportsInput}
use Rattle.serf_schedule.specs.Schedule.{schedule_of}
use Rattle.serf_schedule.specs.Running.{HasRun, HasStreamed, is_refused_by}
use Rattle.serf_schedule.specs.declared.run.Run.{Run}
use Rattle.serf_run_json.specs.Readable.{IsHalted, readable_of, tells_run, text_of}

-- the text is that of a run
abbrev Tells : {A T : Type 0} → A → T → List Config → List Action → List ℕ → Type 0
Tells options t configs actions text = tells_run configs actions text

pub whole : {A T : Type 0} (options : A) (run : Run T) (bytes text : List ℕ) → HasRun (Tells options) run (lines_of bytes) text → readable_of bytes ≡ Ok text
whole options run bytes text h = ap text_of h.reads ∙ ap (λ (t : List ℕ). let ok : Result (List ℕ) BadLine = Ok t in ok) (sym h.tells)

pub halted : {A T : Type 0} (streams : A → Type 0) (error : StreamError Cause) (bytes : List ℕ) (first now : Option (List ℕ)) → StopsAt {J = Run T} (HasStreamed streams Tells) is_refused_by error (lines_of bytes) first now → IsHalted error bytes first now
halted streams error bytes first now s =
    let h : HasRun (Tells s.tells.0) s.job s.lines s.text = s.tells.2 in
    record {
      lines = s.lines;
      left = s.left;
      splits = s.splits;
      schedule = h.said;
      reads = h.reads;
      text = s.text;
      tells = h.tells;
      written = s.written;
      cause = s.cause;
    }

-- what was written about the schedule in an input is the text of its run
pub reported : {T : Type 0} (input text : List ℕ) (count : ℕ) → ReportsInput {T = T} (λ t configs actions text. tells_run configs actions text) input text count → readable_of input ≡ Ok text
reported input text count r = ap text_of r.reads ∙ ap (λ (t : List ℕ). let ok : Result (List ℕ) BadLine = Ok t in ok) (sym r.tells)

bad-text : (said : Result Parsed BadLine) (bad : BadLine) → output.text_of said ≡ Err bad → text_of said ≡ Err bad
bad-text (Ok said) bad h = absurd (cc (h))
bad-text (Err why) bad h = h

-- an input that has no trace has no text either
pub bad-input : (input : List ℕ) (bad : BadLine) → output.output_of input ≡ Err bad → readable_of input ≡ Err bad
bad-input input bad h = bad-text (schedule_of input) bad h

-- the same error, of a call that returns another value
pub same-error : {A B E : Type 0} (e x : E) → IsErrOf {T = A} {E = E} (Err e) x → IsErrOf {T = B} {E = E} (Err e) x
same-error {A} {B} {E} e x h =
    let is : e ≡ x = cc (h) in
    ap (λ (y : E). let r : Result B E = Err y in r) is
