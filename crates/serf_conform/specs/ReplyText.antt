-- The text of a reply's lines.
use Rattle.std.specs.Prelude.{ℕ, ◌++◌, List, codes}
use Rattle.serf_conform.specs.declared.reply_line.ReplyLine.{ReplyLine}
use Rattle.serf_conform.specs.declared.reply_line.ReplyLine.TheVariants as lines
use Rattle.serf_conform.specs.CallText.{number_word, hex_word, flag_word, texts_words, moment_words}

-- the first words of the line for a counted ack, and of the line for a counted response
unfoldable pub counted_ack_name : List ℕ
counted_ack_name = codes "counted ack"

unfoldable pub counted_response_name : List ℕ
counted_response_name = codes "counted response"

abbrev pub line_text : ReplyLine → List ℕ
line_text (lines.Sent packet) = codes "sent" ++ hex_word packet
line_text (lines.Event time name payload coalesce) = codes "event" ++ number_word time ++ texts_words name payload ++ flag_word coalesce
line_text (lines.DeliveredQuery index time id name payload) = codes "handed" ++ number_word index ++ moment_words time id ++ texts_words name payload
line_text (lines.CountedAck time id from) = counted_ack_name ++ moment_words time id ++ hex_word from
line_text (lines.CountedResponse time id from payload) = counted_response_name ++ moment_words time id ++ texts_words from payload
line_text (lines.Kept text) = codes "kept" ++ hex_word text
