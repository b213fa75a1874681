-- The words of a line, as the code holds them. These definitions are private to the crate.
use Rattle.std.specs.Prelude.{ℕ, ◌++◌, List, codes, decimal}
use Rattle.std.specs.Fmt.{signed_decimal}
use Rattle.serf_text.specs.TextParts.{hex_text}
use Rattle.serf_schedule.specs.declared.written_words.Word.{Word}
use Rattle.serf_schedule.specs.declared.written_words.Word.TheVariants as words

abbrev pub word_text : Word → List ℕ
word_text (words.Number n) = decimal n
word_text (words.Signed n) = signed_decimal n
word_text (words.Hex bytes) = hex_text bytes.now
word_text (words.Plain word) = word.now

-- a word after a space
abbrev pub word_after : Word → List ℕ
word_after word = codes " " ++ word_text word
