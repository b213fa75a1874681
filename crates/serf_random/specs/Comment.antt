-- The first line of a random schedule: a comment that has its options.
use Rattle.std.specs.Prelude.{ℕ, Bool, true, false, List, [], ◌∷◌, ◌++◌, codes, decimal}
use Rattle.serf_random.specs.declared.random_options.RandomOptions.{RandomOptions}
use Rattle.serf_random.specs.Kind.{is_rounds, kind_name}
use Rattle.serf_schedule.specs.ScheduleText.{line_text}

-- the seed and the kind
unfoldable pub seed_words : RandomOptions → List (List ℕ)
seed_words ask = codes "random" ∷ decimal ask.seed ∷ codes "--kind" ∷ kind_name ask.kind ∷ []

-- how many agents and actions there are
unfoldable pub size_words : RandomOptions → List (List ℕ)
size_words ask = codes "--agents" ∷ decimal ask.agents ∷ codes "--actions" ∷ decimal ask.actions ∷ []

-- the fanout, the losses and the number of rounds, if the kind consists of rounds
abbrev pub spread_of : Bool → RandomOptions → List (List ℕ)
spread_of true ask = codes "--fanout" ∷ decimal ask.fanout ∷ codes "--loss" ∷ decimal ask.loss ∷ codes "--rounds" ∷ decimal ask.rounds ∷ []
spread_of false ask = []

unfoldable pub spread_words : RandomOptions → List (List ℕ)
spread_words ask = spread_of (is_rounds ask.kind) ask

-- all options
unfoldable pub settings_words : RandomOptions → List (List ℕ)
settings_words ask = seed_words ask ++ size_words ask ++ spread_words ask

-- the rules that a schedule keeps to, if these are Serf's own
abbrev pub rules_words : Bool → List (List ℕ)
rules_words true = codes "--rules" ∷ codes "serf" ∷ []
rules_words false = []

-- the options, the rules, and then the version of the generator
abbrev pub comment_words : Bool → RandomOptions → List (List ℕ)
comment_words is_common ask = settings_words ask ++ rules_words is_common ++ codes "version" ∷ codes "5" ∷ []

-- the comment before a schedule, which keeps to Serf's own rules if `is_common` is true
unfoldable pub comment_text : Bool → RandomOptions → List ℕ
comment_text is_common ask = line_text (codes "#" ∷ comment_words is_common ask)
