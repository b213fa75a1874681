-- The names of a sink's calls in a line.
use Rattle.std.specs.Prelude.{ℕ, if◌then◌else◌, List, codes, Option, Some, None, Result}
use Rattle.std.specs.Str.{bytes_eq}
use Rattle.serf_model.specs.declared.action.SinkCall.{SinkCall}
use Rattle.serf_model.specs.declared.action.SinkCall.TheVariants.{Append, Flush, ReplaceOld, ReplaceNew}
use Rattle.serf_text.specs.declared.cause.Cause.{Cause}
use Rattle.serf_text.specs.Words.{or_bad, word_at}

-- the call of a sink that a word names
abbrev pub sink_call_of : List ℕ → Option SinkCall
sink_call_of word =
    if bytes_eq word (codes "append") then Some Append
    else if bytes_eq word (codes "flush") then Some Flush
    else if bytes_eq word (codes "replace-old") then Some ReplaceOld
    else if bytes_eq word (codes "replace-new") then Some ReplaceNew
    else None

-- the call that the word at a place names
unfoldable pub sink_call_in : ℕ → List (List ℕ) → Result SinkCall Cause
sink_call_in place words = or_bad place (sink_call_of (word_at place words))
