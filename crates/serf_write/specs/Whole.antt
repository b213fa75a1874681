-- The output for a text.
use Rattle.std.specs.Prelude.{◌≡◌, ℕ, List, Result, Ok, Err}
use Rattle.std.specs.declared.vec.Vec.{Vec}
use Rattle.serf_schedule.specs.Schedule.{schedule_of}
use Rattle.serf_schedule.specs.ScheduleText.{schedule_text}
use Rattle.serf_write.specs.declared.schedule.WriteError.{WriteError}
use Rattle.serf_write.specs.declared.schedule.WriteError.TheVariants as errors
use Rattle.serf_write.specs.Written.{BadLine, Written, schedule_meant, written_of}

-- the result of reading the lines is the result of the definition, unless memory ran out
abbrev pub Reads : Result Written WriteError → Result Written BadLine → Type 0
Reads (Ok meant) said = said ≡ Ok meant
Reads (Err (errors.BadLine line error)) said = said ≡ Err (record { line = line; error = error })
Reads (Err errors.OutOfMemory) said = Unit {0}

-- The text has a meaning, and the schedule that was written has exactly its agents and actions.
pub record IsWritten (text out : List ℕ) : Type 0 where
  pub meant : Written
  pub means : written_of text ≡ Ok meant
  pub text_is : out ≡ schedule_text (schedule_meant meant)
  pub reads_back : schedule_of out ≡ Ok (schedule_meant meant)

-- what `write` returns, unless memory runs out
abbrev pub Writes : {A : Type 0} → Result (Vec ℕ A) WriteError → List ℕ → Type 0
Writes (Ok out) text = IsWritten text out.items
Writes (Err (errors.BadLine line error)) text = written_of text ≡ Err (record { line = line; error = error })
Writes (Err errors.OutOfMemory) text = Unit {0}
