-- Each agent has its settings at each step.
use Rattle.serf_model.proofs.Names.{List, Some, [], ap, sym, true, ℕ, ◌∙◌, ◌∷◌, ◌≡◌, All-cons, All-nil, recursion_from_All, AllByRecursion, All, slice_get, is_sound, Config, Below, IdealNode, Run, after, apply, start, AreConfigs, HasShortQueries, Turn, given_by, Action, Of}
use Rattle.serf_model.proofs.CallsKept.{query_limit-short}
use Rattle.serf_model.proofs.Effects.{effect, settings-kept}
use Rattle.serf_model.proofs.PerAgent.{Each, each-start, each-step}
use Rattle.serf_model.proofs.RunLaws.{all-at}
use Rattle.serf_model.proofs.StartLaws.{all-sound}

-- each agent has its settings
abbrev pub HasSettings : List Config → ℕ → List Turn → IdealNode → Type 0
HasSettings configs a turns m = slice_get configs a ≡ Some m.agent.config

pub settings-step : Below → (configs : List Config) (r : Run) (action : Action) → Each (HasSettings configs) r.cluster r.turns → Each (HasSettings configs) (after r action).cluster (after r action).turns
settings-step lower configs r action all =
    each-step (HasSettings configs) r action all
    (λ b act m of at is. is ∙ ap (λ (c : Config). Some c) (sym (settings-kept m (Of b act) (given_by r.cluster.sent act) (apply m r.cluster.sent act) (effect lower m r.cluster.sent b act))))

pub settings-start : (configs : List Config) → Each (HasSettings configs) (start configs).cluster []
settings-start configs = each-start (HasSettings configs) configs (λ a config is. is)

-- ---- the limit for queries

pub short-at : (configs : List Config) (a : ℕ) (c : Config) → All HasShortQueries configs → slice_get configs a ≡ Some c → HasShortQueries c
short-at configs a c short at = all-at HasShortQueries configs a c (recursion_from_All HasShortQueries configs short) at

sound-short : (configs : List Config) → AllByRecursion (λ c. is_sound c ≡ true) configs → All HasShortQueries configs
sound-short [] ok = All-nil HasShortQueries
sound-short (c ∷ cs) ok = All-cons HasShortQueries c cs (query_limit-short c ok.0) (sound-short cs ok.1)

pub all-short : (configs : List Config) → AreConfigs configs → All HasShortQueries configs
all-short configs ok = sound-short configs (all-sound configs ok.sound)
