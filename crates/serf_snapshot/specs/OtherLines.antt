-- Texts that differ only in other lines: whole lines that say nothing of clocks, minimums, events and queries. A host may
-- write lines of this kind between those of an agent, for members or for handlers, and the agent reads the same from its
-- file.
use Rattle.std.specs.Prelude.{◌≡◌, ℕ, Bool, true, not, ◌&&◌, ◌==◌, if◌then◌else◌, is_some, List, [], ◌∷◌, filter}
use Rattle.std.specs.List.{All, list_any}
use Rattle.serf_snapshot.specs.Clocks.{is_whole, line_value, lines_of}
use Rattle.serf_snapshot.specs.EventLines.{event_of_line, min_of_line, query_of_line}
use Rattle.serf_snapshot.specs.declared.kind.ClockKind.{ClockKind}
use Rattle.serf_snapshot.specs.declared.kind.ClockKind.TheVariants.{Event, Member, Query}

-- whether a line says nothing of the clock of a kind and of its minimum
abbrev pub says_no_time : ClockKind → List ℕ → Bool
says_no_time kind line = (line_value kind line == 0) && (min_of_line kind line == 0)

abbrev pub says_no_times : List ℕ → Bool
says_no_times line = says_no_time Member line && (says_no_time Event line && says_no_time Query line)

-- whether a line is another line: it says nothing of clocks and minimums, and it isn't the line of an event or of a query
abbrev pub is_other_line : List ℕ → Bool
is_other_line line = says_no_times line && (not (is_some (event_of_line line)) && not (is_some (query_of_line line)))

-- the lines of a text that aren't other lines, in their order
abbrev pub own_lines : List ℕ → List (List ℕ)
own_lines text = filter (λ line. not (is_other_line line)) (lines_of text)

-- the bytes after the last newline: a torn line, or nothing
abbrev pub torn_part : List ℕ → List ℕ
torn_part [] = []
torn_part (b ∷ bs) = if list_any (λ c. c == 10) (b ∷ bs) then torn_part bs else b ∷ bs

-- Two texts differ only in other lines: without these, they have the same lines in the same order, and the same bytes
-- follow their last newlines. So whatever is in only one of them is a whole line and ends with a newline
-- (proofs/WrongTexts.antt has texts that differ in more).
pub record DiffersInOtherLines (a b : List ℕ) : Type 0 where
  pub lines : own_lines a ≡ own_lines b
  pub torn : torn_part a ≡ torn_part b

-- whole lines that all are other lines
pub record AreOtherLines (lines : List ℕ) : Type 0 where
  pub whole : is_whole lines ≡ true
  pub other : All (λ line. is_other_line line ≡ true) (lines_of lines)
