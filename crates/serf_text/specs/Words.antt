-- The words of a line, and what they mean.
use Rattle.std.specs.Prelude.{ℕ, ◌==◌, ◌-◌, ◌^◌, ◌&&◌, nat_lt, nat_le, Bool, true, false, if◌then◌else◌, List, [], length, codes, filter, unwrap_or, slice_get, slice_index, Option, Some, None, Result, Ok, Err}
use Rattle.std.specs.List.{list_all, slice_split}
use Rattle.std.specs.Char.{is_ascii_digit}
use Rattle.std.specs.Str.{bytes_eq}
use Rattle.std.specs.Str.Parse.{digits_value}
use Rattle.std.specs.Result.{result_ok}
use Rattle.hex.specs.Hex.{decode_of}
use Rattle.serf_text.specs.declared.cause.Cause.{Cause}
use Rattle.serf_text.specs.declared.cause.Cause.TheVariants.{BadWord}

-- the words between spaces
abbrev pub words_of : List ℕ → List (List ℕ)
words_of line = filter (λ word. nat_lt 0 (length word)) (slice_split (λ b. b == 32) line)

-- the word at a place, counting from 1
abbrev pub word_at : ℕ → List (List ℕ) → List ℕ
word_at place words = unwrap_or (slice_get words (place - 1)) []

-- a number below 2^64 in decimal digits
abbrev pub number_of : List ℕ → Option ℕ
number_of word =
    if nat_lt 0 (length word) && list_all is_ascii_digit word && nat_lt (digits_value 10 word) (2 ^ 64)
    then Some (digits_value 10 word) else None

-- a number, if it is in this range, which includes both bounds
abbrev pub between : ℕ → ℕ → Option ℕ → Option ℕ
between low high None = None
between low high (Some n) = if nat_le low n && nat_le n high then Some n else None

-- bytes in hex digits, two for each, and a dash for none
abbrev pub bytes_of : List ℕ → Option (List ℕ)
bytes_of word = if (length word == 1) && (slice_index word 0 == 45) then Some [] else result_ok (decode_of word)

-- one of two words, as a boolean: true for the second
abbrev pub choice_of : List ℕ → List ℕ → List ℕ → Option Bool
choice_of first second word = if bytes_eq word first then Some false else if bytes_eq word second then Some true else None

-- the value of a word, or an error that says that the word at this place is bad
abbrev pub or_bad : {A : Type 0} → ℕ → Option A → Result A Cause
or_bad place None = Err (BadWord place)
or_bad place (Some x) = Ok x

-- What is at a place among these words: a number, a number in a range, bytes, or one of two words.
unfoldable pub number_in : ℕ → List (List ℕ) → Result ℕ Cause
number_in place words = or_bad place (number_of (word_at place words))

unfoldable pub number_between : ℕ → ℕ → ℕ → List (List ℕ) → Result ℕ Cause
number_between low high place words = or_bad place (between low high (number_of (word_at place words)))

unfoldable pub bytes_in : ℕ → List (List ℕ) → Result (List ℕ) Cause
bytes_in place words = or_bad place (bytes_of (word_at place words))

unfoldable pub choice_in : List ℕ → List ℕ → ℕ → List (List ℕ) → Result Bool Cause
choice_in first second place words = or_bad place (choice_of first second (word_at place words))
