-- Lines, and the answers to them.
use Rattle.std.specs.Prelude.{◌^◌, ◌-◌, ◌≡◌, ℕ, ◌+◌, ◌++◌, ◌==◌, min, List, [], ◌∷◌, length, Result, Ok, Err}
use Rattle.std.specs.List.{slice_split}
use Rattle.serf_text.specs.declared.stream_error.StreamLineError.{StreamLineError}
use Rattle.serf_text.specs.declared.stream_error.StreamLineError.TheVariants.{Bad, OutOfMemory}

-- the maximum length of a line, in bytes
abbrev pub longest_line : ℕ
longest_line = 16777216

-- a text split at its newlines
abbrev pub lines_of : List ℕ → List (List ℕ)
lines_of text = slice_split (λ b. b == 10) text

-- the number of the line after these, counted from 1; it stays at 2^64 - 1
abbrev pub number_after : List (List ℕ) → ℕ
number_after lines = min (length lines + 1) (2 ^ 64 - 1)

-- a text followed by the rest, if there are both
abbrev pub joined : {F : Type 0} → Result (List ℕ) F → Result (List ℕ) F → Result (List ℕ) F
joined (Err error) rest = Err error
joined (Ok text) (Err error) = Err error
joined (Ok text) (Ok rest) = Ok (text ++ rest)

-- the answers to lines that follow other lines, one after another, or the first error
abbrev pub text_after : {F : Type 0} → (List (List ℕ) → List ℕ → Result (List ℕ) F) → List (List ℕ) → List (List ℕ) → Result (List ℕ) F
text_after answer before [] = Ok []
text_after answer before (line ∷ lines) = joined (answer before line) (text_after answer (before ++ line ∷ []) lines)

-- an error is the one that the answer says, unless memory ran out
abbrev pub IsSaid : {F : Type 0} → Result (List ℕ) F → StreamLineError F → Type 0
IsSaid said (Bad error) = said ≡ Err error
IsSaid said OutOfMemory = Unit {0}
