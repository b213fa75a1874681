-- A schedule in which each line is explained as soon as it is read.
use Rattle.serf_explain.proofs.Names.{List, Option, ap, length, subst, ℕ, ◌++◌, ◌∙◌, ◌≡◌, lines_of, IsCauseBy, StopsAt, Cause, StreamError, text_of, HasStreamed, is_refused_by, schedule_in, Explains, TellsRun, records_in, all_actions, Reasoned, IsHalted, IsHaltedBy, Range, Reasoning}
use Rattle.serf_text.specs.declared.stream_error.StreamError.TheVariants as errors
use Rattle.serf_schedule.specs.declared.run.Run.{Run}
use Rattle.serf_explain.proofs.TellLaws.{told-whole}

-- the text has all actions of the lines that were executed, with their reasons
abbrev pub HasExplained : Run Reasoning → List (List ℕ) → List ℕ → Type 0
HasExplained run lines text = HasStreamed (λ (range : Range). range ≡ all_actions) Reasoned run lines text

tells-run : (run : Run Reasoning) (lines : List (List ℕ)) (text : List ℕ) (s : HasExplained run lines text) → TellsRun all_actions s.2.said.configs s.2.said.actions text
tells-run run lines text s =
    let h = s.2 in
    subst (λ (range : Range). TellsRun range h.said.configs h.said.actions text) s.1
    (told-whole s.0 h.said.configs h.said.actions (records_in run.reporter.history.deliveries.outs.items) text h.tells.1)

pub whole : (run : Run Reasoning) (bytes text : List ℕ) (count : ℕ) (s : HasExplained run (lines_of bytes) text) → count ≡ length s.2.said.actions → Explains all_actions bytes text count
whole run bytes text count s counted = record {
  schedule = s.2.said;
  reads = s.2.reads;
  replayed = ap text_of s.2.reads;
  tells = tells-run run (lines_of bytes) text s;
  counted = counted;
}

halted-by : (error : StreamError Cause) (bytes : List ℕ) (lines left : List (List ℕ)) → lines_of bytes ≡ lines ++ left → IsCauseBy is_refused_by error lines left → IsHaltedBy error bytes lines left
halted-by errors.ReadError bytes lines left splits h = h
halted-by (errors.BadLine number cause) bytes lines left splits h = (h.3, ap schedule_in (splits ∙ ap (λ (l : List (List ℕ)). lines ++ l) h.2) ∙ h.4 h.1)
halted-by (errors.LineTooLong number) bytes lines left splits h = h
halted-by errors.OutOfMemory bytes lines left splits h = tt
halted-by errors.WriteError bytes lines left splits h = tt

pub halted : (error : StreamError Cause) (bytes : List ℕ) (first now : Option (List ℕ)) → StopsAt HasExplained is_refused_by error (lines_of bytes) first now → IsHalted error bytes first now
halted error bytes first now s =
    let t : HasExplained s.job s.lines s.text = s.tells in
    record {
      lines = s.lines;
      left = s.left;
      splits = s.splits;
      schedule = t.2.said;
      reads = t.2.reads;
      text = s.text;
      tells = tells-run s.job s.lines s.text t;
      written = s.written;
      cause = halted-by error bytes s.lines s.left s.splits s.cause;
    }
