-- The contents of a reply, or its first line that can't be read.
use Rattle.std.specs.Prelude.{◌^◌, ◌-◌, ◌≡◌, ℕ, ◌==◌, ◌+◌, ◌++◌, nat_lt, not, if◌then◌else◌, List, [], ◌∷◌, length, codes, Option, Some, None, Result, Ok, Err}
use Rattle.std.specs.List.{slice_split}
use Rattle.std.specs.declared.vec.Vec.{Vec}
use Rattle.std.specs.Str.{bytes_eq}
use Rattle.serf_lamport.specs.Clock.{last_time}
use Rattle.serf_text.specs.declared.cause.Cause.{Cause}
use Rattle.serf_text.specs.declared.cause.Cause.TheVariants.{UnknownWord, WordCount}
use Rattle.serf_text.specs.Gives.{◌>>=◌, BadLine, at_line}
use Rattle.serf_text.specs.Words.{words_of, word_at, number_in, number_between, bytes_in, choice_in}
use Rattle.serf_conform.specs.declared.reply_line.LineKind.{LineKind}
use Rattle.serf_conform.specs.declared.reply_line.LineKind.TheVariants as kinds
use Rattle.serf_conform.specs.declared.reply_line.ReplyLine.{ReplyLine}
use Rattle.serf_conform.specs.declared.reply_line.ReplyLine.TheVariants as lines
use Rattle.serf_conform.specs.declared.reply.Reply.{Reply}
use Rattle.serf_conform.specs.declared.reply.ReplyError.{ReplyError}
use Rattle.serf_conform.specs.declared.reply.ReplyError.TheVariants as errors

-- the kind of a line, from its first two words
abbrev pub counted_kind : List ℕ → Option LineKind
counted_kind word =
    if bytes_eq word (codes "ack") then Some kinds.CountedAck
    else if bytes_eq word (codes "response") then Some kinds.CountedResponse
    else None

abbrev pub kind_of : List ℕ → List ℕ → Option LineKind
kind_of first second =
    if bytes_eq first (codes "sent") then Some kinds.Sent
    else if bytes_eq first (codes "event") then Some kinds.Event
    else if bytes_eq first (codes "handed") then Some kinds.DeliveredQuery
    else if bytes_eq first (codes "counted") then counted_kind second
    else if bytes_eq first (codes "kept") then Some kinds.Kept
    else None

-- how many words a line of this kind has
abbrev pub count_of : LineKind → ℕ
count_of kinds.Sent = 2
count_of kinds.Event = 5
count_of kinds.DeliveredQuery = 6
count_of kinds.CountedAck = 5
count_of kinds.CountedResponse = 6
count_of kinds.Kept = 2

-- Reads the words of each kind of line. A time is below 2^64 - 1, and an ID below 2^32.
unfoldable pub sent_of : List (List ℕ) → Result ReplyLine Cause
sent_of words = do
  packet ← bytes_in 2 words
  Ok (lines.Sent packet)

unfoldable pub event_of : List (List ℕ) → Result ReplyLine Cause
event_of words = do
  time ← number_between 0 last_time 2 words
  name ← bytes_in 3 words
  payload ← bytes_in 4 words
  coalesce ← choice_in (codes "0") (codes "1") 5 words
  Ok (lines.Event time name payload coalesce)

unfoldable pub handed_of : List (List ℕ) → Result ReplyLine Cause
handed_of words = do
  index ← number_in 2 words
  time ← number_between 0 last_time 3 words
  id ← number_between 0 (2 ^ 32 - 1) 4 words
  name ← bytes_in 5 words
  payload ← bytes_in 6 words
  Ok (lines.DeliveredQuery index time id name payload)

unfoldable pub counted_ack_of : List (List ℕ) → Result ReplyLine Cause
counted_ack_of words = do
  time ← number_between 0 last_time 3 words
  id ← number_between 0 (2 ^ 32 - 1) 4 words
  from ← bytes_in 5 words
  Ok (lines.CountedAck time id from)

unfoldable pub counted_response_of : List (List ℕ) → Result ReplyLine Cause
counted_response_of words = do
  time ← number_between 0 last_time 3 words
  id ← number_between 0 (2 ^ 32 - 1) 4 words
  from ← bytes_in 5 words
  payload ← bytes_in 6 words
  Ok (lines.CountedResponse time id from payload)

unfoldable pub kept_of : List (List ℕ) → Result ReplyLine Cause
kept_of words = do
  text ← bytes_in 2 words
  Ok (lines.Kept text)

abbrev pub of_kind : LineKind → List (List ℕ) → Result ReplyLine Cause
of_kind kinds.Sent words = sent_of words
of_kind kinds.Event words = event_of words
of_kind kinds.DeliveredQuery words = handed_of words
of_kind kinds.CountedAck words = counted_ack_of words
of_kind kinds.CountedResponse words = counted_response_of words
of_kind kinds.Kept words = kept_of words

-- A line needs as many words as its kind has.
abbrev pub counted_words : Option LineKind → List (List ℕ) → Result ReplyLine Cause
counted_words None words = Err UnknownWord
counted_words (Some kind) words = if not (length words == count_of kind) then Err WordCount else of_kind kind words

-- the contents of a line after the answer, which has eight words at most
unfoldable pub line_of : List (List ℕ) → Result ReplyLine Cause
line_of words = if nat_lt 8 (length words) then Err WordCount else counted_words (kind_of (word_at 1 words) (word_at 2 words)) words

-- adds a line to those before, and skips an empty line
unfoldable pub after_line : List ReplyLine → List ℕ → Result (List ReplyLine) Cause
after_line before line = if length line == 0 then Ok before else line_of (words_of line) >>= (λ l. Ok (before ++ l ∷ []))

abbrev pub after_lines : ℕ → List ReplyLine → List (List ℕ) → Result (List ReplyLine) BadLine
after_lines number before [] = Ok before
after_lines number before (line ∷ lines) = at_line number (after_line before line) (λ after. after_lines (number + 1) after lines)

-- the contents of a reply: its answer, unchanged, and the lines after it
pub record Said : Type 0 where
  pub answer : List ℕ
  pub lines : List ReplyLine

abbrev pub said_with : List ℕ → Result (List ReplyLine) BadLine → Result Said BadLine
said_with answer (Ok lines) = Ok (record { answer = answer; lines = lines })
said_with answer (Err bad) = Err bad

-- The first line is the answer, and it isn't empty.
abbrev pub said_by : List (List ℕ) → Result Said BadLine
said_by [] = Err (record { line = 1; cause = UnknownWord })
said_by (answer ∷ lines) = if length answer == 0 then Err (record { line = 1; cause = UnknownWord }) else said_with answer (after_lines 2 [] lines)

-- the reply in a text, or its first line that can't be read
abbrev pub reply_of : List ℕ → Result Said BadLine
reply_of text = said_by (slice_split (λ b. b == 10) text)

abbrev pub said_in : Reply → Said
said_in r = record { answer = r.answer; lines = r.lines.items }

-- `read_reply` returns this, unless memory runs out.
abbrev pub Reads : Result Reply ReplyError → Result Said BadLine → Type 0
Reads (Ok reply) said = said ≡ Ok (said_in reply)
Reads (Err (errors.BadLine line cause)) said = said ≡ Err (record { line = line; cause = cause })
Reads (Err errors.OutOfMemory) said = Unit {0}

-- The lines are these, unless memory runs out.
abbrev pub ReadsLines : {A : Type 0} → Result (Vec ReplyLine A) ReplyError → Result (List ReplyLine) BadLine → Type 0
ReadsLines (Ok lines) said = said ≡ Ok lines.items
ReadsLines (Err (errors.BadLine line cause)) said = said ≡ Err (record { line = line; cause = cause })
ReadsLines (Err errors.OutOfMemory) said = Unit {0}
