-- The tokens of a line: words between spaces, and texts between quotes.
use Rattle.std.specs.Prelude.{ℕ, ◌==◌, ◌+◌, ◌-◌, ◌++◌, ◌&&◌, nat_lt, if◌then◌else◌, List, [], ◌∷◌, length, take, slice_index, Result, Ok}
use Rattle.std.specs.List.{list_any}
use Rattle.serf_write.specs.declared.word_error.WordError.{WordError}
use Rattle.serf_write.specs.declared.word_error.Expected.TheVariants.{ClosingQuote, Escape}
use Rattle.serf_write.specs.declared.scanner.ScanState.{ScanState}
use Rattle.serf_write.specs.declared.scanner.ScanState.TheVariants as states
use Rattle.serf_write.specs.declared.token.Token.{Token}
use Rattle.serf_write.specs.declared.token.Token.TheVariants.{Word, Text}
use Rattle.serf_write.specs.Gives.{◌>>=◌, wrong, or_wrong}
use Rattle.serf_write.specs.Texts.{text_within}

-- a line without the carriage return at its end, if it has one
abbrev pub before_return : List ℕ → List ℕ
before_return line = if nat_lt 0 (length line) && (slice_index line (length line - 1) == 13) then take (length line - 1) line else line

-- A line as far as it is read: its whole tokens, the bytes of the token that isn't complete, and what the line so far
-- ends with.
pub record Scanned : Type 0 where
  pub tokens : List Token
  pub part : List ℕ
  pub state : ScanState

abbrev pub at_start : Scanned
at_start = record { tokens = []; part = []; state = states.Between }

-- the token that isn't complete has one more byte
abbrev pub longer : Scanned → ℕ → ScanState → Scanned
longer s byte state = record { tokens = s.tokens; part = s.part ++ byte ∷ []; state = state }

-- the word that wasn't complete is whole
abbrev pub with_word : Scanned → ScanState → Scanned
with_word s state = record { tokens = s.tokens ++ Word s.part ∷ []; part = []; state = state }

-- the text that wasn't complete is whole, and stands for these bytes
abbrev pub with_text : Scanned → List ℕ → Scanned
with_text s text = record { tokens = s.tokens ++ Text text ∷ []; part = []; state = states.Between }

-- the text that wasn't complete, at its closing quote
abbrev pub closed : Scanned → Result Scanned WordError
closed s = or_wrong (length s.tokens + 1) Escape (text_within s.part) >>= (λ text. Ok (with_text s text))

-- after a space or a whole token: a space, a `#`, a quote, or the first byte of a word
abbrev pub after_space : Scanned → ℕ → Scanned
after_space s byte =
    if byte == 32 then s
    else if byte == 35 then record s { state = states.Comment }
    else if byte == 34 then record s { state = states.Text }
    else longer s byte states.Word

-- a quote directly after a word begins a text, which is a part of the word if the word has a `=`
abbrev pub after_quote : Scanned → Scanned
after_quote s = if list_any (λ b. b == 61) s.part then longer s 34 states.TextInWord else with_word s states.Text

abbrev pub after_word : Scanned → ℕ → Scanned
after_word s byte = if byte == 32 then with_word s states.Between else if byte == 34 then after_quote s else longer s byte states.Word

-- the line with its next byte
abbrev pub in_state : ScanState → Scanned → ℕ → Result Scanned WordError
in_state states.Between s byte = Ok (after_space s byte)
in_state states.Word s byte = Ok (after_word s byte)
in_state states.Text s byte = if byte == 34 then closed s else Ok (longer s byte states.Text)
in_state states.TextInWord s byte = Ok (longer s byte (if byte == 34 then states.Word else states.TextInWord))
in_state states.Comment s byte = Ok s

unfoldable pub after_byte : Scanned → ℕ → Result Scanned WordError
after_byte s byte = in_state s.state s byte

-- the tokens at the end of the line
abbrev pub end_in : ScanState → Scanned → Result (List Token) WordError
end_in states.Between s = Ok s.tokens
end_in states.Word s = Ok (s.tokens ++ Word s.part ∷ [])
end_in states.Text s = wrong (length s.tokens + 1) ClosingQuote
end_in states.TextInWord s = wrong (length s.tokens + 1) ClosingQuote
end_in states.Comment s = Ok s.tokens

abbrev pub at_end : Scanned → Result (List Token) WordError
at_end s = end_in s.state s

abbrev pub tokens_from : Scanned → List ℕ → Result (List Token) WordError
tokens_from s [] = at_end s
tokens_from s (byte ∷ bytes) = after_byte s byte >>= (λ s. tokens_from s bytes)

-- the tokens of a line, or its first error
unfoldable pub tokens_of : List ℕ → Result (List Token) WordError
tokens_of line = tokens_from at_start (before_return line)
