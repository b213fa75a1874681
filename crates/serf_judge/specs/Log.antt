-- What a log says, one record for each line.
use Rattle.std.specs.Prelude.{ℕ, ◌+◌, ◌==◌, if◌then◌else◌, List, [], length, codes, Option, Some, None, is_some, Result, Ok, Err}
use Rattle.std.specs.Str.{bytes_eq}
use Rattle.serf_text.specs.declared.cause.Cause.{Cause}
use Rattle.serf_text.specs.declared.cause.Cause.TheVariants.{UnknownWord, WordCount}
use Rattle.serf_text.specs.Gives.{◌>>=◌}
use Rattle.serf_text.specs.Words.{number_in, number_of, word_at}
use Rattle.serf_judge.specs.Identity.{Identity}

-- what a line says: an event was fired or handed out, a query was handed out, an event was handed out whose handler
-- began, the handler of an event ended with a status, or nothing that is judged
pub data LogRecord : Type 0 where
  nothing : LogRecord
  fired : Identity → LogRecord
  event : Identity → LogRecord
  query : Identity → LogRecord
  begun : Identity → LogRecord
  ended : Identity → List ℕ → LogRecord

-- the event of four words, the first of which is at this place: the node, the time, the name and the payload
unfoldable pub event_at : ℕ → List (List ℕ) → Result Identity Cause
event_at place words = do
  time ← number_in (place + 1) words
  Ok (record { node = word_at place words; time = time; id = None; name = word_at (place + 2) words; payload = word_at (place + 3) words })

-- the ID at a place: a number, or `-` if there is none
unfoldable pub id_in : ℕ → List (List ℕ) → Result (Option ℕ) Cause
id_in place words =
    if bytes_eq (word_at place words) (codes "-") then Ok None
    else (number_in place words >>= (λ n. Ok (Some n)))

-- the query from the word of its node and two others
unfoldable pub query_at : ℕ → ℕ → ℕ → List (List ℕ) → Result Identity Cause
query_at node time id words = do
  t ← number_in time words
  i ← id_in id words
  Ok (record { node = word_at node words; time = t; id = i; name = []; payload = [] })

-- a line that has to have so many words
abbrev pub of_count : ℕ → List (List ℕ) → Result LogRecord Cause → Result LogRecord Cause
of_count n words said = if length words == n then said else Err WordCount

abbrev pub event_line : ℕ → List (List ℕ) → (Identity → LogRecord) → Result LogRecord Cause
event_line place words log_record = event_at place words >>= (λ e. Ok (log_record e))

abbrev pub query_line : ℕ → ℕ → ℕ → List (List ℕ) → Result LogRecord Cause
query_line node time id words = query_at node time id words >>= (λ q. Ok (query q))

-- a line of a trace of `serf-replay`: `N event A T NAME PAYLOAD CC`, `N handed A H T ID NAME PAYLOAD`, or another one
unfoldable pub trace_line : List (List ℕ) → Result LogRecord Cause
trace_line words =
    if bytes_eq (word_at 2 words) (codes "event") then of_count 7 words (event_line 3 words (λ e. event e))
    else if bytes_eq (word_at 2 words) (codes "handed") then of_count 8 words (query_line 3 5 6 words)
    else Ok nothing

-- the record that these words mean
unfoldable pub log_record_of : List (List ℕ) → Result LogRecord Cause
log_record_of words =
    if bytes_eq (word_at 1 words) (codes "event") then of_count 5 words (event_line 2 words (λ e. event e))
    else if bytes_eq (word_at 1 words) (codes "fired") then of_count 5 words (event_line 2 words (λ e. fired e))
    else if bytes_eq (word_at 1 words) (codes "query") then of_count 4 words (query_line 2 3 4 words)
    else if bytes_eq (word_at 1 words) (codes "restarted") then of_count 2 words (Ok nothing)
    else if bytes_eq (word_at 1 words) (codes "begun") then of_count 5 words (event_line 2 words (λ e. begun e))
    else if bytes_eq (word_at 1 words) (codes "ended") then of_count 6 words (event_line 2 words (λ e. ended e (word_at 6 words)))
    else if is_some (number_of (word_at 1 words)) then trace_line words
    else Err UnknownWord
