-- How far a stream of lines has been answered.
use Rattle.std.specs.Prelude.{◌≡◌, ◌⊎◌, ℕ, ◌++◌, ◌<◌, List, [], ◌∷◌, length, Option, Result, Ok, Err}
use Rattle.std.specs.Io.KnownBytes.{Appends}
use Rattle.serf_text.specs.Io.{AppendsFront}
use Rattle.serf_text.specs.declared.stream_error.StreamError.{StreamError}
use Rattle.serf_text.specs.declared.stream_error.StreamError.TheVariants.{ReadError, BadLine, LineTooLong, OutOfMemory, WriteError}
use Rattle.serf_text.specs.declared.stream_error.StreamLineError.{StreamLineError}
use Rattle.serf_text.specs.declared.stream_error.StreamLineError.TheVariants as line_errors
use Rattle.serf_text.specs.Lines.{lines_of, longest_line, number_after, text_after}

-- How an error relates to the lines that were processed and to those that were not. The first argument says what
-- refuses a line.
abbrev pub IsCauseBy : {F : Type 0} → (List (List ℕ) → List ℕ → F → Type 0) → StreamError F → List (List ℕ) → List (List ℕ) → Type 0
-- each complete line was processed
IsCauseBy refuses ReadError lines left = length left ≡ 1
IsCauseBy refuses (BadLine number error) lines left =
    (line : List ℕ) × (more : List (List ℕ)) × (left ≡ line ∷ more) × (number ≡ number_after lines) × refuses lines line error
IsCauseBy refuses (LineTooLong number) lines left =
    (line : List ℕ) × (more : List (List ℕ)) × (left ≡ line ∷ more) × (number ≡ number_after lines) × (longest_line < length line)
IsCauseBy refuses OutOfMemory lines left = Unit {0}
IsCauseBy refuses WriteError lines left = Unit {0}

-- a line is refused with the error that is its answer
abbrev pub answers_error : {F : Type 0} → (List (List ℕ) → List ℕ → Result (List ℕ) F) → List (List ℕ) → List ℕ → F → Type 0
answers_error answer lines line error = answer lines line ≡ Err error

abbrev pub IsCause : {F : Type 0} → (List (List ℕ) → List ℕ → Result (List ℕ) F) → StreamError F → List (List ℕ) → List (List ℕ) → Type 0
IsCause answer error lines left = IsCauseBy (answers_error answer) error lines left

-- a write that failed leaves a prefix of the text
abbrev pub WritesUpTo : {F : Type 0} → StreamError F → Option (List ℕ) → Option (List ℕ) → List ℕ → Type 0
WritesUpTo WriteError first now text = AppendsFront first now text
WritesUpTo ReadError first now text = Appends first now text
WritesUpTo (BadLine number error) first now text = Appends first now text
WritesUpTo (LineTooLong number) first now text = Appends first now text
WritesUpTo OutOfMemory first now text = Appends first now text

-- Some of the lines that were read were processed, and their text was written. The last line that was read may be
-- incomplete.
pub record IsStopped {F : Type 0} (answer : List (List ℕ) → List ℕ → Result (List ℕ) F) (error : StreamError F) (all : List (List ℕ)) (first now : Option (List ℕ)) : Type 0 where
  pub lines : List (List ℕ)
  pub left : List (List ℕ)
  pub splits : all ≡ lines ++ left
  pub text : List ℕ
  pub answered : text_after answer [] lines ≡ Ok text
  pub written : WritesUpTo error first now text
  pub cause : IsCause answer error lines left

-- All lines were processed, and exactly their text was written.
pub record IsDone {J F : Type 0} (follows : J → List (List ℕ) → Type 0) (answer : List (List ℕ) → List ℕ → Result (List ℕ) F) (job : J) (all : List (List ℕ)) (first now : Option (List ℕ)) : Type 0 where
  pub done : follows job all
  pub text : List ℕ
  pub answered : text_after answer [] all ≡ Ok text
  pub written : Appends first now text

-- A job processed some of the lines that were read, and what it reported for them was written. The last line that was
-- read may be incomplete.
pub record StopsAt {J F : Type 0} (told : J → List (List ℕ) → List ℕ → Type 0) (refuses : List (List ℕ) → List ℕ → F → Type 0) (error : StreamError F) (all : List (List ℕ)) (first now : Option (List ℕ)) : Type 0 where
  pub lines : List (List ℕ)
  pub left : List (List ℕ)
  pub splits : all ≡ lines ++ left
  pub job : J
  pub text : List ℕ
  pub tells : told job lines text
  pub written : WritesUpTo error first now text
  pub cause : IsCauseBy refuses error lines left

-- All lines were processed, and exactly what the job reported for them was written.
pub record TellsAll {J : Type 0} (told : J → List (List ℕ) → List ℕ → Type 0) (job : J) (all : List (List ℕ)) (first now : Option (List ℕ)) : Type 0 where
  pub text : List ℕ
  pub tells : told job all text
  pub written : Appends first now text

-- a job that answers lines reports its answers
abbrev pub answers_told : {J F : Type 0} → (J → List (List ℕ) → Type 0) → (List (List ℕ) → List ℕ → Result (List ℕ) F) → J → List (List ℕ) → List ℕ → Type 0
answers_told follows answer job lines text = follows job lines × (text_after answer [] lines ≡ Ok text)

-- a line is refused with this error, unless memory ran out
abbrev pub IsRefused : {F : Type 0} → (List (List ℕ) → List ℕ → F → Type 0) → List (List ℕ) → List ℕ → StreamLineError F → Type 0
IsRefused refuses lines line (line_errors.Bad error) = refuses lines line error
IsRefused refuses lines line line_errors.OutOfMemory = Unit {0}

-- Steps of the stream, which are private to the crate.

-- These lines were processed. What was written, followed by what waits, is what the job reported for them.
pub record Reached {J : Type 0} (told : J → List (List ℕ) → List ℕ → Type 0) (job : J) (number : ℕ) (waiting : List ℕ) (lines : List (List ℕ)) (first now : Option (List ℕ)) : Type 0 where
  pub numbered : number ≡ number_after lines
  pub text : List ℕ
  pub appended : Appends first now text
  pub tells : told job lines (text ++ waiting)

-- what is wrong with a complete line after these lines
abbrev pub IsLineError : {F : Type 0} → (List (List ℕ) → List ℕ → F → Type 0) → StreamError F → List (List ℕ) → List ℕ → Type 0
IsLineError refuses ReadError lines line = ⊥
IsLineError refuses (BadLine number error) lines line = (number ≡ number_after lines) × refuses lines line error
IsLineError refuses (LineTooLong number) lines line = (number ≡ number_after lines) × (longest_line < length line)
IsLineError refuses OutOfMemory lines line = Unit {0}
IsLineError refuses WriteError lines line = ⊥

-- why an incomplete line can't be kept
abbrev pub IsHoldError : {F : Type 0} → StreamError F → List (List ℕ) → List ℕ → Type 0
IsHoldError (LineTooLong number) lines line = (number ≡ number_after lines) × (longest_line < length line)
IsHoldError OutOfMemory lines line = Unit {0}
IsHoldError _ lines line = ⊥

-- These bytes were read. The complete lines in them were processed, and what follows the last of these lines is held.
pub record HasRead {J : Type 0} (told : J → List (List ℕ) → List ℕ → Type 0) (job : J) (held : List ℕ) (number : ℕ) (waiting bytes : List ℕ) (first now : Option (List ℕ)) : Type 0 where
  pub lines : List (List ℕ)
  pub splits : lines_of bytes ≡ lines ++ held ∷ []
  pub reached : Reached told job number waiting lines first now

-- Some of the lines were processed, what the job reported for them was written or waits, and the next line has this
-- error.
pub record WaitsFor {J F : Type 0} (told : J → List (List ℕ) → List ℕ → Type 0) (refuses : List (List ℕ) → List ℕ → F → Type 0) (error : StreamError F) (all : List (List ℕ)) (waiting : List ℕ) (first now : Option (List ℕ)) : Type 0 where
  pub lines : List (List ℕ)
  pub line : List ℕ
  pub more : List (List ℕ)
  pub splits : all ≡ lines ++ line ∷ more
  pub job : J
  pub text : List ℕ
  pub appended : Appends first now text
  pub tells : told job lines (text ++ waiting)
  pub error_is : IsLineError refuses error lines line

-- A line stopped the stream in this way, or a write failed and nothing waits any more.
abbrev pub IsLeft : {J F : Type 0} → (J → List (List ℕ) → List ℕ → Type 0) → (List (List ℕ) → List ℕ → F → Type 0) → StreamError F → List (List ℕ) → List ℕ → Option (List ℕ) → Option (List ℕ) → Type 0
IsLeft told refuses error all waiting first now = WaitsFor told refuses error all waiting first now ⊎ ((error ≡ WriteError) × (waiting ≡ []) × StopsAt told refuses WriteError all first now)
