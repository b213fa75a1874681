-- Words that a line contains unchanged, and lines that say nothing.
use Rattle.std.specs.Prelude.{◌≡◌, ℕ, ◌<◌, ◌^◌, Bool, true, List, ◌∷◌, ◌++◌, Ok, decimal, length, nat_le}
use Rattle.std.specs.List.{AllByRecursion, list_all}
use Rattle.serf_schedule.specs.Line.{Parsed}
use Rattle.serf_schedule.specs.Schedule.{schedule_of}
use Rattle.serf_schedule.specs.ScheduleText.{line_text}

-- a byte above the space
abbrev pub is_plain : ℕ → Bool
is_plain b = nat_le 33 b

-- at least one byte, and each is above the space
pub record IsWord (word : List ℕ) : Type 0 where
  pub some : 0 < length word
  pub plain : list_all is_plain word ≡ true

-- a number in decimal is a word
abbrev pub NumbersAreWords : Type 0
NumbersAreWords = (n : ℕ) → n < 2 ^ 64 → IsWord (decimal n)

-- a line whose first byte is # can be put before a text, which still stands for the same schedule
abbrev pub CommentsAreSkipped : Type 0
CommentsAreSkipped = (first : List ℕ) (words : List (List ℕ)) (text : List ℕ) (p : Parsed) → AllByRecursion IsWord ((35 ∷ first) ∷ words)
    → schedule_of text ≡ Ok p → schedule_of (line_text ((35 ∷ first) ∷ words) ++ text) ≡ Ok p
