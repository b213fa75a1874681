-- The words for what is wrong with a line.
use Rattle.std.specs.Prelude.{ℕ, ◌++◌, List, codes, decimal}
use Rattle.serf_text.specs.declared.cause.Cause.{Cause}
use Rattle.serf_text.specs.declared.cause.Cause.TheVariants.{UnknownWord, LateAgent, WordCount, BadWord, BadConfig, NameTwice}

-- the name of a cause, and the place of the word if it has one
abbrev pub cause_text : Cause → List ℕ
cause_text UnknownWord = codes "UnknownWord"
cause_text LateAgent = codes "LateAgent"
cause_text WordCount = codes "WordCount"
cause_text (BadWord place) = codes "BadWord " ++ decimal place
cause_text BadConfig = codes "BadConfig"
cause_text NameTwice = codes "NameTwice"
