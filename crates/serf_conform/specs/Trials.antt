-- Lists of calls that are tried one after another.
use Rattle.std.specs.Prelude.{◌≡◌, ℕ, ◌<◌, ◌++◌, Bool, true, false, List, [], ◌∷◌, length, Option, Some, None}
use Rattle.std.specs.List.{fold}
use Rattle.std.specs.Io.KnownBytes.{Appends}
use Rattle.serf_agent.specs.declared.config.Config.{Config}
use Rattle.serf_conform.specs.declared.verdict.End.{End}
use Rattle.serf_conform.specs.declared.verdict.End.TheVariants as ends
use Rattle.serf_conform.specs.Session.{Session, session}
use Rattle.serf_conform.specs.Case.{turns_in}
use Rattle.serf_conform.specs.declared.agent_calls.Call.{Call}
use Rattle.serf_conform.specs.declared.trying.Outcome.{Outcome}
use Rattle.serf_conform.specs.declared.trying.Outcome.TheVariants as outcomes
use Rattle.serf_conform.specs.declared.shrinking.Shrunk.{Shrunk}
use Rattle.serf_conform.specs.declared.shrinking.Narrowed.{Narrowed}
use Rattle.serf_conform.specs.declared.shrinking.Narrowed.TheVariants as narrows
use Rattle.serf_conform.specs.AgentCalls.{alone}
use Rattle.serf_conform.specs.Sublist.{IsSublist, deletions}

-- In a trial, an agent is opened again and compared with the run of exactly these calls.
abbrev pub trial : Bool → Config → List Call → List ℕ → Session
trial serf config calls input = session serf 0 config (turns_in (alone config calls)) input

abbrev pub outcome_of : End → Outcome
outcome_of ends.AllAgree = outcomes.Agrees
outcome_of ends.OwnRule = outcomes.Agrees
outcome_of ends.Unsupported = outcomes.Agrees
outcome_of (ends.Differs text) = outcomes.Fails
outcome_of ends.Ended = outcomes.Ended

-- If the agent hasn't ended, the reader has the rest left.
abbrev pub IsLeftBy : Outcome → Option (List ℕ) → List ℕ → Type 0
IsLeftBy outcomes.Agrees new rest = new ≡ Some rest
IsLeftBy outcomes.Fails new rest = new ≡ Some rest
IsLeftBy outcomes.Ended new rest = Unit {0}

pub record IsTried (t : Session) (outcome : Outcome) (new from to : Option (List ℕ)) : Type 0 where
  pub outcome_is : outcome ≡ outcome_of t.verdict.end
  pub written : Appends from to t.written
  pub left : IsLeftBy outcome new t.rest

-- The result of some trials: the last list whose calls failed, what was written, and what the agent writes after that.
pub record Trials : Type 0 where
  pub failed : Option (List Call)
  pub written : List ℕ
  pub rest : List ℕ

abbrev pub failed_by : Outcome → List Call → Option (List Call) → Option (List Call)
failed_by outcomes.Fails calls before = Some calls
failed_by outcomes.Agrees calls before = before
failed_by outcomes.Ended calls before = before

abbrev pub after_trial : List Call → Trials → Session → Trials
after_trial calls s t = record { failed = failed_by (outcome_of t.verdict.end) calls s.failed; written = s.written ++ t.written; rest = t.rest }

abbrev pub trials : Bool → Config → List (List Call) → List ℕ → Trials
trials serf config tried input = fold (λ s calls. after_trial calls s (trial serf config calls s.rest)) (record { failed = None; written = []; rest = input }) tried

-- Some lists were tried, the last of them as given. The last list that failed is this one, and it is a sublist of the
-- calls.
pub record IsReached (serf : Bool) (config : Config) (calls kept : List Call) (last : List (List Call)) (input : List ℕ) (from to : Option (List ℕ)) : Type 0 where
  pub before : List (List Call)
  pub sublist : IsSublist kept calls
  pub failed : (trials serf config (before ++ last) input).failed ≡ Some kept
  pub written : Appends from to (trials serf config (before ++ last) input).written

-- The lists that were tried last: all single deletions, if none of them failed.
abbrev pub last_tried : Bool → List Call → List (List Call)
last_tried true kept = deletions kept
last_tried false kept = []

-- What is left of the calls failed when it was last tried. If it is smallest, each single deletion of it was tried
-- after that, and none failed.
abbrev pub IsShrunk : Bool → Config → List Call → Shrunk → List ℕ → Option (List ℕ) → Option (List ℕ) → Type 0
IsShrunk serf config calls shrunk input from to =
    IsReached serf config calls shrunk.calls.items (last_tried shrunk.is_smallest shrunk.calls.items) input from to

-- The result for a list of calls: if the calls themselves fail, some are left.
abbrev pub ShrinksTo : Bool → Config → List Call → Option Shrunk → List ℕ → Option (List ℕ) → Option (List ℕ) → Type 0
ShrinksTo serf config calls None input from to = (trials serf config (calls ∷ []) input).failed ≡ None
ShrinksTo serf config calls (Some shrunk) input from to = IsShrunk serf config calls shrunk input from to

-- Partway through the trials. This is private to the crate.

-- What the reader has left is what the agent writes after the trials.
pub record IsNarrowing (serf : Bool) (config : Config) (calls kept : List Call) (last : List (List Call)) (input : List ℕ) (now from to : Option (List ℕ)) : Type 0 where
  pub reached : IsReached serf config calls kept last input from to
  pub left : now ≡ Some (trials serf config (reached.before ++ last) input).rest

-- The result of trials with fewer calls than these. The truth value says whether they include all single deletions.
abbrev pub NarrowsTo : Bool → Config → List Call → List Call → Bool → Narrowed → List ℕ → Option (List ℕ) → Option (List ℕ) → Option (List ℕ) → Type 0
NarrowsTo serf config calls kept singles (narrows.Shorter shorter) input now from to = IsNarrowing serf config calls shorter.items [] input now from to
NarrowsTo serf config calls kept singles narrows.Stays input now from to = IsNarrowing serf config calls kept (last_tried singles kept) input now from to
NarrowsTo serf config calls kept singles narrows.Ended input now from to = IsReached serf config calls kept [] input from to

-- The result is a list of fewer than n calls, or no list.
abbrev pub IsFewer : Narrowed → ℕ → Type 0
IsFewer (narrows.Shorter shorter) n = length shorter.items < n
IsFewer narrows.Stays n = Unit {0}
IsFewer narrows.Ended n = Unit {0}
