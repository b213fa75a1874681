-- A date and a time of day before a line's other words.
use Rattle.std.specs.Prelude.{ℕ, ◌==◌, ◌&&◌, Bool, false, if◌then◌else◌, List, [], ◌∷◌, ◌++◌, slice_get}
use Rattle.std.specs.Char.{is_ascii_digit}
use Rattle.std.specs.Option.{option_map_or}

abbrev pub has_digit : ℕ → List ℕ → Bool
has_digit place word = option_map_or is_ascii_digit (slice_get word place) false

abbrev pub has_byte : ℕ → ℕ → List ℕ → Bool
has_byte byte place word = option_map_or (λ b. b == byte) (slice_get word place) false

-- four digits and `-`
abbrev pub begins_as_date : List ℕ → Bool
begins_as_date word = has_digit 0 word && (has_digit 1 word && (has_digit 2 word && (has_digit 3 word && has_byte 45 4 word)))

-- two digits and `:`
abbrev pub begins_as_clock : List ℕ → Bool
begins_as_clock word = has_digit 0 word && (has_digit 1 word && has_byte 58 2 word)

abbrev pub after_clock : List (List ℕ) → List (List ℕ)
after_clock [] = []
after_clock (first ∷ rest) = if begins_as_clock first then rest else first ∷ rest

-- the words after a date, and after a time of day that follows it; all words if there is no date at the beginning
abbrev pub after_date : List (List ℕ) → List (List ℕ)
after_date [] = []
after_date (first ∷ rest) = if begins_as_date first then after_clock rest else first ∷ rest

-- and these words, with a space between two
abbrev pub clock_text : List (List ℕ) → List ℕ
clock_text [] = []
clock_text (first ∷ rest) = if begins_as_clock first then 32 ∷ first else []

abbrev pub date_text : List (List ℕ) → List ℕ
date_text [] = []
date_text (first ∷ rest) = if begins_as_date first then first ++ clock_text rest else []
