-- A schedule whose objects are written at the end, or line by line.
use Rattle.serf_run_json.proofs.Names.{Bool, List, Option, ap, length, ℕ, ◌++◌, ◌∙◌, ◌≡◌, lines_of, IsCauseBy, StopsAt, Cause, StreamError, HasStreamed, ReportsInput, is_refused_by, schedule_in, IsHaltedBy, Range, all_actions, HasObjects, IsObjectsHalted, ReportsObjects, RunObjects}
use Rattle.serf_text.specs.declared.stream_error.StreamError.TheVariants as errors
use Rattle.serf_schedule.specs.declared.run.Run.{Run}

-- what the teller wrote about the schedule in an input
pub reports-input : (range : Range) (explains : Bool) (input text : List ℕ) (count : ℕ) → ReportsInput (HasObjects (range, explains)) input text count → ReportsObjects range explains input text count
reports-input range explains input text count r = record { schedule = r.schedule; reads = r.reads; tells = r.tells.2; counted = r.counted }

-- the text has the objects of the lines that were executed; `objects` is the teller inside another one
abbrev pub HasStreamedObjects : {T : Type 0} → Bool → (T → RunObjects) → Run T → List (List ℕ) → List ℕ → Type 0
HasStreamedObjects explains objects run lines text =
    HasStreamed {A = Unit {0}} (λ options. Unit {0}) (λ options t configs actions told. HasObjects (all_actions, explains) (objects t) configs actions told) run lines text

pub whole : {T : Type 0} (explains : Bool) (objects : T → RunObjects) (run : Run T) (bytes text : List ℕ) (count : ℕ) (s : HasStreamedObjects explains objects run (lines_of bytes) text) → count ≡ length s.2.said.actions
    → ReportsObjects all_actions explains bytes text count
whole explains objects run bytes text count s counted = record { schedule = s.2.said; reads = s.2.reads; tells = s.2.tells.2; counted = counted }

halted-by : (error : StreamError Cause) (bytes : List ℕ) (lines left : List (List ℕ)) → lines_of bytes ≡ lines ++ left → IsCauseBy is_refused_by error lines left → IsHaltedBy error bytes lines left
halted-by errors.ReadError bytes lines left splits h = h
halted-by (errors.BadLine number cause) bytes lines left splits h = (h.3, ap schedule_in (splits ∙ ap (λ (l : List (List ℕ)). lines ++ l) h.2) ∙ h.4 h.1)
halted-by (errors.LineTooLong number) bytes lines left splits h = h
halted-by errors.OutOfMemory bytes lines left splits h = tt
halted-by errors.WriteError bytes lines left splits h = tt

pub halted : {T : Type 0} (explains : Bool) (objects : T → RunObjects) (error : StreamError Cause) (bytes : List ℕ) (first now : Option (List ℕ))
    → StopsAt (HasStreamedObjects explains objects) is_refused_by error (lines_of bytes) first now → IsObjectsHalted explains error bytes first now
halted explains objects error bytes first now s =
    let t : HasStreamedObjects explains objects s.job s.lines s.text = s.tells in
    record {
      lines = s.lines;
      left = s.left;
      splits = s.splits;
      schedule = t.2.said;
      reads = t.2.reads;
      text = s.text;
      tells = t.2.tells.2;
      written = s.written;
      cause = halted-by error bytes s.lines s.left s.splits s.cause;
    }
