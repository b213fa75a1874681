-- What the code holds of a line, and of a log.
use Rattle.std.specs.Prelude.{◌^◌, ◌-◌, ◌≡◌, ℕ, ◌+◌, ◌++◌, ◌==◌, Bool, length, slice_index, min, take, drop, if◌then◌else◌, List, [], ◌∷◌, map, None, Some, Result, Ok, Err}
use Rattle.std.specs.List.{fold}
use Rattle.std.specs.Str.{bytes_eq}
use Rattle.serf_text.specs.declared.cause.Cause.{Cause}
use Rattle.serf_text.specs.Words.{words_of}
use Rattle.serf_text.specs.declared.stream_error.StreamLineError.{StreamLineError as LineError}
use Rattle.serf_text.specs.declared.stream_error.StreamLineError.TheVariants.{Bad, OutOfMemory}
use Rattle.serf_judge.specs.declared.entry.BadLine.{BadLine}
use Rattle.serf_judge.specs.declared.entry.DatedLine.{DatedLine}
use Rattle.serf_judge.specs.declared.log_record.LogRecord.{LogRecord as Held}
use Rattle.serf_judge.specs.declared.log_record.LogRecord.TheVariants as held
use Rattle.serf_judge.specs.declared.log.Log.{Log}
use Rattle.serf_judge.specs.Dated.{after_date, date_text}
use Rattle.serf_judge.specs.Identity.{Identity, event_identity, event_seen, query_identity, query_seen}
use Rattle.serf_judge.specs.Log.{LogRecord, nothing, fired, event, query, begun, ended, log_record_of}
use Rattle.serf_judge.specs.Runs.{Run, run_seen}

-- the result, through this view, is what the definition says, unless memory ran out
abbrev pub Says : {X Y : Type 0} → (X → Y) → Result X (LineError Cause) → Result Y Cause → Type 0
Says view (Ok x) said = said ≡ Ok (view x)
Says view (Err (Bad cause)) said = said ≡ Err cause
Says view (Err OutOfMemory) said = Unit {0}

abbrev pub is_comment : List ℕ → Bool
is_comment line = slice_index line 0 == 35

-- what words say, if there are any
abbrev pub words_said : List (List ℕ) → Result LogRecord Cause
words_said words = if length words == 0 then Ok nothing else log_record_of words

-- a line without the carriage return at its end, if it has one
abbrev pub without_return : List ℕ → List ℕ
without_return line = if bytes_eq (drop (length line - 1) line) (13 ∷ []) then take (length line - 1) line else line

-- a line without the byte order mark of UTF-8 at its beginning, if it has one
abbrev pub without_mark : List ℕ → List ℕ
without_mark line = if bytes_eq (take 3 line) (239 ∷ 187 ∷ 191 ∷ []) then drop 3 line else line

-- a byte order mark is only skipped in a log's first line
abbrev pub bare : Bool → List ℕ → List ℕ
bare is_first line = without_return (if is_first then without_mark line else line)

-- what a line says; a comment and a line without words say nothing, and a date at the beginning isn't one of its words
abbrev pub line_said : List ℕ → Result LogRecord Cause
line_said line = if is_comment line then Ok nothing else words_said (after_date (words_of line))

-- the date at the beginning of a line; empty if there is none
abbrev pub line_date : List ℕ → List ℕ
line_date line = if is_comment line then [] else date_text (words_of line)

-- Events and queries, what became of handlers, what is wrong with bad lines, and the dates that lines have, each with
-- the number of its line; and how many lines there are, which stops at 2^64 - 1.
pub record LogView : Type 0 where
  pub fired : List (ℕ × Identity)
  pub events : List (ℕ × Identity)
  pub queries : List (ℕ × Identity)
  pub runs : List (ℕ × Run)
  pub bad : List (ℕ × Cause)
  pub dates : List (ℕ × List ℕ)
  pub lines : ℕ

abbrev pub with_log_record : LogView → ℕ → LogRecord → LogView
with_log_record log n nothing = log
with_log_record log n (fired e) = record log { fired = log.fired ++ (n, e) ∷ [] }
with_log_record log n (event e) = record log { events = log.events ++ (n, e) ∷ [] }
with_log_record log n (query q) = record log { queries = log.queries ++ (n, q) ∷ [] }
with_log_record log n (begun e) = record log { events = log.events ++ (n, e) ∷ []; runs = log.runs ++ (n, record { event = e; status = None }) ∷ [] }
with_log_record log n (ended e status) = record log { runs = log.runs ++ (n, record { event = e; status = Some status }) ∷ [] }

-- a bad line is kept, and says nothing else
abbrev pub with_said : LogView → ℕ → Result LogRecord Cause → LogView
with_said log n (Ok h) = with_log_record log n h
with_said log n (Err cause) = record log { bad = log.bad ++ (n, cause) ∷ [] }

abbrev pub with_date : LogView → ℕ → List ℕ → LogView
with_date log n date = if length date == 0 then log else record log { dates = log.dates ++ (n, date) ∷ [] }

-- a line that says this and has this date
abbrev pub with_line : LogView → ℕ → List ℕ → LogView
with_line log n line = with_said (with_date log n (line_date line)) n (line_said line)

abbrev pub next_line : LogView → ℕ
next_line log = min (log.lines + 1) (2 ^ 64 - 1)

abbrev pub after_line : LogView → List ℕ → LogView
after_line log line = with_line (record log { lines = next_line log }) (next_line log) (bare (log.lines == 0) line)

-- what the lines of a log say, in order
abbrev pub log_of : List (List ℕ) → LogView
log_of lines = fold after_line (record { fired = []; events = []; queries = []; runs = []; bad = []; dates = []; lines = 0 }) lines

-- nothing is written for a line, and no line is refused
abbrev pub log_answer : List (List ℕ) → List ℕ → Result (List ℕ) Cause
log_answer before line = Ok []

abbrev pub bad_seen : BadLine → ℕ × Cause
bad_seen b = (b.line, b.cause)

abbrev pub date_seen : DatedLine → ℕ × List ℕ
date_seen d = (d.line, d.date.items)

abbrev pub log_view : Log → LogView
log_view log = record { fired = map event_seen log.fired.items; events = map event_seen log.events.items; queries = map query_seen log.queries.items; runs = map run_seen log.runs.items; bad = map bad_seen log.bad.items; dates = map date_seen log.dates.items; lines = log.lines }

-- what the code holds of a line
abbrev pub log_record_view : Held → LogRecord
log_record_view held.Nothing = nothing
log_record_view (held.Fired e) = fired (event_identity e)
log_record_view (held.Event e) = event (event_identity e)
log_record_view (held.Query q) = query (query_identity q)
log_record_view (held.Begun e) = begun (event_identity e)
log_record_view (held.Ended e status) = ended (event_identity e) status.items

-- its entry has the number of the line
abbrev pub IsAt : ℕ → Held → Type 0
IsAt n held.Nothing = Unit {0}
IsAt n (held.Fired e) = e.line ≡ n
IsAt n (held.Event e) = e.line ≡ n
IsAt n (held.Query q) = q.line ≡ n
IsAt n (held.Begun e) = e.line ≡ n
IsAt n (held.Ended e status) = e.line ≡ n
