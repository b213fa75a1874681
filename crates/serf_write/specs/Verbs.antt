-- The words with which the lines of actions begin.
use Rattle.std.specs.Prelude.{ℕ, List, if◌then◌else◌, codes, Option, Some, None}
use Rattle.std.specs.Str.{bytes_eq}
use Rattle.serf_schedule.specs.declared.command.Command.{Command}
use Rattle.serf_schedule.specs.declared.command.Command.TheVariants as commands
use Rattle.serf_schedule.specs.Command.{command_of}
use Rattle.serf_write.specs.declared.said.Verb.{Verb}
use Rattle.serf_write.specs.declared.said.Verb.TheVariants as verbs

-- the verbs for two actions
abbrev pub double_verb_of : List ℕ → Option Verb
double_verb_of word =
    if bytes_eq word (codes "give") then Some verbs.Give else if bytes_eq word (codes "take") then Some verbs.Take else None

-- the verb of a command, or a verb for two actions if there is no command; the line of an agent isn't a line of actions
abbrev pub verb_by : Option Command → List ℕ → Option Verb
verb_by (Some (commands.Act verb)) word = Some (verbs.Act verb)
verb_by (Some commands.Inject) word = Some verbs.Inject
verb_by (Some commands.Query) word = Some verbs.Query
verb_by (Some commands.Agent) word = None
verb_by None word = double_verb_of word

-- the verb that a word names
unfoldable pub verb_of : List ℕ → Option Verb
verb_of word = verb_by (command_of word) word
