-- What judging a log finds, and the objects that report it.
use Rattle.std.specs.Prelude.{◌≡◌, ℕ, ◌||◌, nat_lt, Bool, true, false, ◌++◌, List, length, map, drop, codes, Option, None, MatchOption}
use Rattle.std.specs.Option.{is_some}
use Rattle.std.specs.List.{flat_map}
use Rattle.serf_judge.specs.declared.log.Log.{Log}
use Rattle.serf_judge.specs.Fired.{AreAllFired, IsFirstUnfired}
use Rattle.serf_judge.specs.Identity.{event_identity, event_seen, query_identity, query_seen}
use Rattle.serf_judge.specs.Later.{AreAllLater, IsFirstNotLater}
use Rattle.serf_judge.specs.Twice.{AreFirstTwo, HasNoTwo}
use Rattle.serf_judge_json.specs.declared.findings.Findings.{Findings}
use Rattle.serf_judge_json.specs.declared.kind.Kind.TheVariants as kinds
use Rattle.serf_judge_json.specs.declared.places.LogPlaces.{LogPlaces}
use Rattle.serf_judge_json.specs.Entries.{bad_text, entries_text, read_text}
use Rattle.serf_judge_json.specs.Missing.{missed_text}
use Rattle.serf_judge_json.specs.Runs.{runs_text}
use Rattle.serf_judge_json.specs.Verdicts.{firings_text, has_both, once_text}

-- for each log but the first, how many lines come before it
abbrev pub starts_of : LogPlaces → List ℕ
starts_of places = map (λ log. log.before) (drop 1 places.logs.now)

-- where an event was handed out that was not fired before; the promise is judged only if the log has firings and events
abbrev pub IsUnfired : LogPlaces → Log → Option ℕ → Type 0
IsUnfired places log found =
    (has_both log ≡ false → found ≡ None)
    × (has_both log ≡ true → MatchOption found (AreAllFired (starts_of places) log.fired.items log.events.items) (IsFirstUnfired (starts_of places) log.fired.items log.events.items))

-- which firing is not later than which event that its node was handed; judged likewise
abbrev pub IsNotLater : Log → Option (ℕ × ℕ) → Type 0
IsNotLater log found =
    (has_both log ≡ false → found ≡ None)
    × (has_both log ≡ true → MatchOption found (AreAllLater log.fired.items log.events.items) (λ places. IsFirstNotLater log.fired.items log.events.items places.0 places.1))

-- the indexes of the lines that break promises
pub record AreFound (places : LogPlaces) (log : Log) (found : Findings) : Type 0 where
  pub events : MatchOption found.event_twice (HasNoTwo (map event_identity log.events.items)) (λ places. AreFirstTwo (map event_identity log.events.items) places.0 places.1)
  pub queries : MatchOption found.query_twice (HasNoTwo (map query_identity log.queries.items)) (λ places. AreFirstTwo (map query_identity log.queries.items) places.0 places.1)
  pub unfired : IsUnfired places log found.unfired
  pub not_later : IsNotLater log found.not_later

-- a promise is broken, or a line is bad
abbrev pub is_broken : Log → Findings → Bool
is_broken log found =
    is_some found.event_twice
    || (is_some found.query_twice
    || (is_some found.unfired
    || (is_some found.not_later
    || nat_lt 0 (length log.bad.items))))

-- what the lines of a log say, and the lines that can't be read
abbrev pub lines_text : LogPlaces → Log → List ℕ
lines_text places log =
    entries_text places (codes "fired") kinds.Event event_seen log.fired.items
    ++ entries_text places (codes "event") kinds.Event event_seen log.events.items
    ++ entries_text places (codes "query") kinds.Query query_seen log.queries.items
    ++ flat_map (bad_text places) log.bad.items

-- the verdict on each promise
abbrev pub verdicts_text : LogPlaces → Log → Findings → List ℕ
verdicts_text places log found =
    once_text places kinds.Event (map event_seen log.events.items) found.event_twice
    ++ once_text places kinds.Query (map query_seen log.queries.items) found.query_twice
    ++ firings_text places log found.unfired found.not_later

-- everything that is written about a log
abbrev pub judgement_text : LogPlaces → Log → Findings → List ℕ
judgement_text places log found =
    read_text log ++ lines_text places log ++ verdicts_text places log found ++ missed_text log.events.items ++ runs_text places log.runs.items
