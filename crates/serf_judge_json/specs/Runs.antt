-- Objects about the handlers of events: what the lines of a log say of them, and which of them never ended.
use Rattle.std.specs.Prelude.{ℕ, ◌++◌, List, [], ◌∷◌, map, codes, Option, Some, None}
use Rattle.std.specs.List.{flat_map}
use Rattle.serf_json.specs.Json.{bytes_member}
use Rattle.serf_judge.specs.declared.entry.RunEntry.{RunEntry}
use Rattle.serf_judge.specs.Runs.{Run, cut_off_of, run_seen}
use Rattle.serf_judge_json.specs.declared.kind.Kind.TheVariants as kinds
use Rattle.serf_judge_json.specs.declared.places.LogPlaces.{LogPlaces}
use Rattle.serf_judge_json.specs.Entries.{about_text, entry_text}
use Rattle.serf_judge_json.specs.Members.{joined}
use Rattle.serf_judge_json.specs.Places.{place_members}

-- the kind of the object about a line
abbrev pub run_word : Option (List ℕ) → List ℕ
run_word None = codes "begun"
run_word (Some status) = codes "ended"

abbrev pub status_member : Option (List ℕ) → List ℕ
status_member None = []
status_member (Some status) = bytes_member (codes "status") status

-- a handler began on a line, or ended there
unfoldable pub run_text : LogPlaces → ℕ × Run → List ℕ
run_text places line = about_text (run_word line.1.status) (joined (status_member line.1.status ∷ place_members [] places line.0)) kinds.Event line.1.event

-- an object for each line on which a handler began that never ended
abbrev pub cut_off_text : LogPlaces → List (ℕ × Run) → List ℕ
cut_off_text places lines = flat_map (entry_text places (codes "cut-off") kinds.Event) (cut_off_of lines)

abbrev pub runs_text : LogPlaces → List RunEntry → List ℕ
runs_text places runs = flat_map (λ run. run_text places (run_seen run)) runs ++ cut_off_text places (map run_seen runs)
