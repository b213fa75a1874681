-- Where the lines of several logs are. Lines are counted from 1 over all logs.
use Rattle.std.specs.Prelude.{ℕ, ◌-◌, ◌==◌, ◌++◌, nat_lt, if◌then◌else◌, List, [], ◌∷◌, length, reverse, find, Option, codes}
use Rattle.std.specs.Option.{option_map_or}
use Rattle.std.specs.List.Sorted.{IsNonDecreasingBy}
use Rattle.serf_judge.specs.declared.entry.DatedLine.{DatedLine}
use Rattle.serf_judge_json.specs.declared.places.LogName.{LogName}
use Rattle.serf_judge_json.specs.declared.places.LogPlaces.{LogPlaces}
use Rattle.serf_judge_json.specs.Members.{number_member, text_member}

-- the log of a line: the last log that begins before it
abbrev pub log_of : LogPlaces → ℕ → Option LogName
log_of places line = find (λ log. nat_lt log.before line) (reverse places.logs.now)

-- its name, and the number of the line in it
abbrev pub log_name : LogPlaces → ℕ → List ℕ
log_name places line = option_map_or (λ log. log.name.items) (log_of places line) (codes "-")

abbrev pub line_in_log : LogPlaces → ℕ → ℕ
line_in_log places line = option_map_or (λ log. line - log.before) (log_of places line) line

-- the line's date; empty if it has none
abbrev pub date_of : LogPlaces → ℕ → List ℕ
date_of places line = option_map_or (λ dated. dated.date.items) (find (λ dated. dated.line == line) places.dates.now) []

abbrev pub date_member : List ℕ → List ℕ → List ℕ
date_member name date = if length date == 0 then [] else text_member name date

-- the members that say where a line is; their names begin with this prefix
abbrev pub place_members : List ℕ → LogPlaces → ℕ → List (List ℕ)
place_members prefix places line =
    text_member (prefix ++ codes "log") (log_name places line)
    ∷ number_member (prefix ++ codes "line") (line_in_log places line)
    ∷ date_member (prefix ++ codes "date") (date_of places line)
    ∷ []

-- dates in the order of their lines
abbrev pub AreInOrder : List DatedLine → Type 0
AreInOrder dates = IsNonDecreasingBy (λ dated. dated.line) dates
