-- What the code that reads a line returns, compared with what a definition says.
use Rattle.std.specs.Prelude.{◌≡◌, ℕ, Result, Ok, Err}
use Rattle.serf_text.specs.declared.cause.Cause.{Cause}
use Rattle.serf_text.specs.declared.cause.LineError.{LineError}
use Rattle.serf_text.specs.declared.cause.LineError.TheVariants.{Bad, OutOfMemory}

-- the next step, if the first one found a value
infixl 10 ◌>>=◌
abbrev pub ◌>>=◌ : {A B : Type 0} → Result A Cause → (A → Result B Cause) → Result B Cause
(Ok x) >>= f = f x
(Err e) >>= f = Err e

-- a line, counted from 1, and what is wrong with it
pub record BadLine : Type 0 where
  pub line : ℕ
  pub cause : Cause

-- the next step, if the line with this number is correct
abbrev pub at_line : {A : Type 0} → ℕ → Result A Cause → (A → Result A BadLine) → Result A BadLine
at_line number (Ok after) next = next after
at_line number (Err cause) next = Err (record { line = number; cause = cause })

-- an error is the one that the definition says, unless memory ran out
abbrev pub Fails : {Y : Type 0} → LineError → Result Y Cause → Type 0
Fails OutOfMemory said = Unit {0}
Fails (Bad cause) said = said ≡ Err cause

-- the result, mapped by view, is what the definition says, unless memory ran out
abbrev pub Gives : {X Y : Type 0} → (X → Y) → Result X LineError → Result Y Cause → Type 0
Gives view (Ok x) said = said ≡ Ok (view x)
Gives view (Err e) said = Fails e said
