-- The first word of a line, as it is read and written.
use Rattle.std.specs.Prelude.{ℕ, List, if◌then◌else◌, codes, Option, Some, None}
use Rattle.std.specs.Option.{option_map}
use Rattle.std.specs.Str.{bytes_eq}
use Rattle.serf_model.specs.declared.action.Act.{Act as Deed}
use Rattle.serf_model.specs.declared.action.Act.TheVariants as acts
use Rattle.serf_schedule.specs.declared.command.Command.{Command}
use Rattle.serf_schedule.specs.declared.command.Command.TheVariants.{Agent, Inject, Query, Act}
use Rattle.serf_schedule.specs.declared.command.Bare.{Bare}
use Rattle.serf_schedule.specs.declared.command.Bare.TheVariants as bares
use Rattle.serf_schedule.specs.declared.command.Verb.{Verb}
use Rattle.serf_schedule.specs.declared.command.Verb.TheVariants as verbs

-- what an agent does in a line without arguments
abbrev pub bare_of : List ℕ → Option Bare
bare_of word =
    if bytes_eq word (codes "state") then Some bares.State
    else if bytes_eq word (codes "save") then Some bares.Save
    else if bytes_eq word (codes "compact") then Some bares.Compact
    else None

-- the act that this word stands for
abbrev pub bare_act : Bare → Deed
bare_act bares.State = acts.State
bare_act bares.Save = acts.Save
bare_act bares.Compact = acts.Compact

-- what an agent does in a line with this first word
abbrev pub verb_of : List ℕ → Option Verb
verb_of word =
    if bytes_eq word (codes "deliver") then Some verbs.Deliver
    else if bytes_eq word (codes "fire") then Some verbs.Fire
    else if bytes_eq word (codes "merge") then Some verbs.Merge
    else if bytes_eq word (codes "respond") then Some verbs.Respond
    else if bytes_eq word (codes "restart") then Some verbs.Restart
    else if bytes_eq word (codes "break") then Some verbs.Break
    else if bytes_eq word (codes "close") then Some verbs.Close
    else option_map (λ bare. verbs.Bare bare) (bare_of word)

-- the command that a word names
unfoldable pub command_of : List ℕ → Option Command
command_of word =
    if bytes_eq word (codes "agent") then Some Agent
    else if bytes_eq word (codes "query") then Some Query
    else if bytes_eq word (codes "inject") then Some Inject
    else option_map (λ verb. Act verb) (verb_of word)

-- how many words the line has, including the command and the agent
abbrev pub count_of : Verb → ℕ
count_of (verbs.Bare bare) = 2
count_of verbs.Restart = 3
count_of verbs.Close = 3
count_of verbs.Deliver = 4
count_of verbs.Merge = 4
count_of verbs.Break = 4
count_of verbs.Fire = 5
count_of verbs.Respond = 5

-- the first word of a line in which an agent does this
abbrev pub verb_word : Deed → List ℕ
verb_word (acts.Fire name payload coalesce) = codes "fire"
verb_word (acts.Deliver packet now) = codes "deliver"
verb_word acts.State = codes "state"
verb_word (acts.Merge packet join) = codes "merge"
verb_word (acts.Query q) = codes "query"
verb_word (acts.Respond handed now payload) = codes "respond"
verb_word (acts.Restart tail) = codes "restart"
verb_word (acts.Break call count) = codes "break"
verb_word (acts.Close now) = codes "close"
verb_word acts.Save = codes "save"
verb_word acts.Compact = codes "compact"
