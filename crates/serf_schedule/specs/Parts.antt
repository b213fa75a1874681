-- What a line says if its first eight words are split off, as the code holds it.
use Rattle.std.specs.Prelude.{ℕ, ◌++◌, if◌then◌else◌, not, List, length, Option, Some, None, Result, Ok, Err}
use Rattle.serf_schedule.specs.declared.command.Command.{Command}
use Rattle.serf_schedule.specs.declared.command.Command.TheVariants.{Agent, Inject, Query, Act}
use Rattle.serf_text.specs.declared.cause.Cause.{Cause}
use Rattle.serf_text.specs.declared.cause.Cause.TheVariants.{UnknownWord, WordCount}
use Rattle.serf_text.specs.Words.{words_of}
use Rattle.serf_schedule.specs.Line.{Parsed, act_line, agent_line, injection_line, is_agent_count, query_said}

-- the words of an agent's line, if it can have this number of words
abbrev pub agent_words_in : List (List ℕ) → Result (List (List ℕ)) Cause
agent_words_in words = if not (is_agent_count (length words)) then Err WordCount else Ok words

-- what a line with these first words and this remainder says
abbrev pub parts_said : Option Command → Parsed → List (List ℕ) → List ℕ → Result Parsed Cause
parts_said None before words rest = Err UnknownWord
parts_said (Some Agent) before words rest = agent_line before (words ++ words_of rest)
parts_said (Some Inject) before words rest = injection_line before words
parts_said (Some Query) before words rest = query_said before words (words_of rest)
parts_said (Some (Act verb)) before words rest = act_line verb before words
