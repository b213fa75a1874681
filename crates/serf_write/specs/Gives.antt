-- The result of a function that reads, compared with the result of a definition.
use Rattle.std.specs.Prelude.{◌≡◌, ℕ, Option, Some, None, Result, Ok, Err}
use Rattle.serf_write.specs.declared.word_error.WordError.{WordError}
use Rattle.serf_write.specs.declared.word_error.LineError.{LineError}
use Rattle.serf_write.specs.declared.word_error.LineError.TheVariants.{Bad, OutOfMemory}
use Rattle.serf_write.specs.declared.word_error.Expected.{Expected}

-- the next step, if the first one has a value
infixl 10 ◌>>=◌
abbrev pub ◌>>=◌ : {A B : Type 0} → Result A WordError → (A → Result B WordError) → Result B WordError
(Ok x) >>= f = f x
(Err e) >>= f = Err e

-- the word at this place is wrong
abbrev pub wrong : {A : Type 0} → ℕ → Expected → Result A WordError
wrong place expected = Err (record { place = place; expected = expected })

-- the value of a word, or the error that the word at this place is wrong
abbrev pub or_wrong : {A : Type 0} → ℕ → Expected → Option A → Result A WordError
or_wrong place expected None = wrong place expected
or_wrong place expected (Some x) = Ok x

-- the error is the error of the definition, unless memory ran out
abbrev pub Fails : {Y : Type 0} → LineError → Result Y WordError → Type 0
Fails OutOfMemory said = Unit {0}
Fails (Bad error) said = said ≡ Err error

-- the result, seen through `view`, is the result of the definition, unless memory ran out
abbrev pub Gives : {X Y : Type 0} → (X → Y) → Result X LineError → Result Y WordError → Type 0
Gives view (Ok x) said = said ≡ Ok (view x)
Gives view (Err e) said = Fails e said
