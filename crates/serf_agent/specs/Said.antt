-- Which queries an agent's text contains: only those that entered, or were in a text on which the agent opened. This is
-- for proofs of this crate and of crates above.
use Rattle.std.specs.Prelude.{◌≡◌, ℕ, true, List, Some, IsSome, All}
use Rattle.serf_window.specs.Window.{TimedEntry}
use Rattle.serf_snapshot.specs.Clocks.{is_whole}
use Rattle.serf_snapshot.specs.Device.{Device}
use Rattle.serf_agent.specs.declared.config.Config.{Config}
use Rattle.serf_agent.specs.Ideal.{IdealAgent}
use Rattle.serf_agent.specs.Kept.{IsMet}
use Rattle.serf_agent.specs.KeptLives.{IsDurable, MayGoOn}
use Rattle.serf_agent.specs.KeptTexts.{kept_queries, whatever}
use Rattle.serf_agent.specs.Lives.{Act, Opens, after, first_life}
use Rattle.serf_agent.specs.Sound.{IsSound}
use Rattle.serf_agent.specs.TrackOf.{queries_entered}

-- a text is whole, and each query that it keeps has P
pub record KeepsOnly (P : TimedEntry ℕ → Type 0) (text : List ℕ) : Type 0 where
  pub whole : is_whole text ≡ true
  pub says : All P (kept_queries whatever text)

-- all queries that an agent entered have P, and so have all that its text keeps
pub record SaysQueries (P : TimedEntry ℕ → Type 0) (i : IdealAgent) : Type 0 where
  pub entered : All (λ p. P p.entry) i.queries.history
  pub durable : (text : List ℕ) → i.snapshot.durable ≡ Some text → KeepsOnly P text

-- if an act opens on a text, the queries that this text keeps have P
abbrev pub OpensOn : (TimedEntry ℕ → Type 0) → Act → Type 0
OpensOn P (Opens config text d) = All P (kept_queries whatever text)
OpensOn P a = Unit {0}

-- The laws of `SaysQueries`, if P says that a query was met: it entered, or was in a text.
pub record SaidLaws : Type 0 where
  -- `SaysQueries` is true in the first life
  pub begins : (entered stood : List (TimedEntry ℕ)) (config : Config) (text : List ℕ) (d : Device) → All (IsMet entered stood) (kept_queries whatever text) → SaysQueries (IsMet entered stood) (first_life config text d).agent
  -- each act whose queries are met leaves `SaysQueries` true, if the sink has a plan; a line that fails then leaves
  -- what was there
  pub stays : (entered stood : List (TimedEntry ℕ)) (i : IdealAgent) (a : Act) → IsSound i → IsDurable i → IsSome i.snapshot.plan → SaysQueries (IsMet entered stood) i → MayGoOn i a
      → All (IsMet entered stood) (queries_entered i a) → OpensOn (IsMet entered stood) a → SaysQueries (IsMet entered stood) (after i a)
