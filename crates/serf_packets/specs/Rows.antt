-- The lines of a message's text, split at their spaces.
use Rattle.std.specs.Prelude.{ℕ, ◌==◌, List, [], map, filter, unwrap_or, slice_get, Option, Some, None}
use Rattle.std.specs.List.{find, slice_split}
use Rattle.std.specs.Str.{bytes_eq}
use Rattle.serf_text.specs.Lines.{lines_of}
use Rattle.serf_packets.specs.declared.row.Row.{Row}

-- a line: the name of a field, and its values
pub record RowText : Type 0 where
  pub name : List ℕ
  pub first : List ℕ
  pub second : List ℕ

-- a part of a line, or no bytes
abbrev pub part : ℕ → List (List ℕ) → List ℕ
part n parts = unwrap_or (slice_get parts n) []

abbrev pub row_of_parts : List (List ℕ) → RowText
row_of_parts parts = record { name = part 0 parts; first = part 1 parts; second = part 2 parts }

abbrev pub row_in : List ℕ → RowText
row_in line = row_of_parts (slice_split (λ b. b == 32) line)

abbrev pub rows_in : List ℕ → List RowText
rows_in text = map row_in (lines_of text)

-- the first value of the first line with this name, or no bytes
abbrev pub value_in : Option RowText → List ℕ
value_in None = []
value_in (Some row) = row.first

abbrev pub value_of : List ℕ → List RowText → List ℕ
value_of name rows = value_in (find (λ r. bytes_eq r.name name) rows)

-- all lines with this name
abbrev pub rows_of : List ℕ → List RowText → List RowText
rows_of name rows = filter (λ r. bytes_eq r.name name) rows

-- a line as the code holds it
abbrev pub row_seen : Row → RowText
row_seen r = record { name = r.name.now; first = r.first.now; second = r.second.now }

-- the remainder of a line, split at its spaces; this definition is private to the crate
abbrev pub parts_left : Option (List ℕ) → List (List ℕ)
parts_left None = []
parts_left (Some rest) = slice_split (λ b. b == 32) rest
