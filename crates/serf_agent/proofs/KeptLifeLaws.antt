-- What each act leaves in the durable text, and so what is durable over all lives, with the setting that keeps events
-- and without it.
use Rattle.serf_agent.proofs.Names.{Bool, List, None, Some, [], ap, arith, cond, false, max, refl, subst, sym, true, ℕ, ◌&&◌, ◌++◌, ◌-◌, ◌<◌, ◌^◌, ◌∷◌, ◌≡◌, ◌≤◌, All-nil, Contains, PushPull, EventBody, last_clock, Device, min_in, min_line, AreTimes, Kept, Writing, noted, opened, written_event, IdealAgent, Past, with_config, with_snapshot, BeginsDurable, DiskSuffices, DurableHasKept, IsDurable, IsActWritable, KeepsAfter, MayGoOn, MayGoOnLives, MayKeep, MayKeepLives, StaysDurable, HasKept, IsIdWritable, IsWritable, kept_events, kept_queries, whatever, Act, Asks, Closes, Compacts, Fires, Gets, HasFlushed, Hears, Lived, MayAct, MayLive, Opens, Saves, Takes, acted, after, first_life, lived, query_opened, query_entered, written_query, unopened, IsSound, joined, appended_with, Config}
use Rattle.std.specs.Prelude.{◌⊎◌}
use Rattle.serf_snapshot.specs.declared.kind.ClockKind.TheVariants as kinds
use Rattle.serf_agent.proofs.ActMoves.{IsAppended, IsQuiet, Noting, acts, compacted, heard, same-track}
use Rattle.serf_agent.proofs.DurableLaws.{BelowDurable, carried, compacts, enters-event, enters-query, fails, opens, times-noted, with-snapshot}
use Rattle.serf_agent.proofs.KeptStepLaws.{noted-grows, stays-so}
use Rattle.serf_agent.proofs.LifeLaws.{Below, moves, keeps-first}
use Rattle.serf_agent.proofs.SoundLaws.{event-appended_member, query-appended_member}

pub record BelowKeptLives : Type 0 where
  pub life : Below
  pub durable : BelowDurable

-- ---- nothing is written, and nothing enters: everything is the same except the clocks, the open queries and the like

pub same-durable : BelowDurable → (i j : IdealAgent) → IsQuiet i j → IsDurable i → IsDurable j
same-durable laws i j q h = carried laws i j (record {
  keeps = ap (λ (c : Config). c.keep_events) q.settings;
  events = q.events.history;
  queries = q.queries.history;
  events_up = omega (arith, q.events.minimum);
  queries_up = omega (arith, q.queries.minimum);
  events_low = omega (arith, q.events.minimum, h.events_min.1);
  queries_low = omega (arith, q.queries.minimum, h.queries_min.1);
  last_event = rw q.snapshot refl;
  last_query = rw q.snapshot refl;
  times = subst AreTimes (sym q.snapshot) h.times;
  durable = λ new at. stays-so i.snapshot.durable new (subst (λ s. s.durable ≡ Some new) q.snapshot at);
}) h

-- ---- what is appended

-- each appended line of an act leaves `IsDurable` true, if what the act delivers can be written in lines
durable-noting : BelowDurable → (i : IdealAgent) (Written : Type 0) → Written → IsSound i → IsDurable i → Noting i Written (λ j events entered out. IsDurable j)
durable-noting laws i Written able s h = record {
  quiet = λ j q sound. same-durable laws i j q h;
  event = λ t what e told. enters-event laws t what i s h e.runs e.from e.small (told able) e.short;
  event_fails = λ t what durable runs small may. fails laws kinds.Event t (written_event i.config t what) durable i h may;
  query = λ t id out e told passed. enters-query laws t id i s h e.runs e.from e.small (told able);
  asks = λ now q out at e told passed.
      let entered : IdealAgent = with_snapshot (appended_with kinds.Query q.time (written_query i.config q.time q.id) i.snapshot Kept) (query_entered q.time q.id i) in
      let fired_queries : IdealAgent = with_snapshot (appended_with kinds.Query q.time (written_query i.config q.time q.id) i.snapshot Kept) (query_opened now q i) in
      same-durable laws entered fired_queries (record { settings = refl; snapshot = refl; events = same-track entered.events; queries = same-track entered.queries })
      (enters-query laws q.time q.id i s h e.runs e.from e.small (told able));
  query_fails = λ t id durable runs small told may. fails laws kinds.Query t (written_query i.config t id) durable i h may;
  saves = λ t small runs. with-snapshot laws i (noted kinds.Member t i.snapshot Kept) h (event-appended_member t i.snapshot) (query-appended_member t i.snapshot) (times-noted kinds.Member t None i.snapshot h.times small) (noted-grows kinds.Member t None i.snapshot);
  save_fails = λ t durable runs may. fails laws kinds.Member t None durable i h may;
}

-- an act that appends a line leaves `IsDurable` true
noted-durable : BelowKeptLives → (i : IdealAgent) (a : Act) → IsSound i → IsDurable i → IsAppended a → MayAct i a → IsActWritable a → IsDurable (after i a)
noted-durable laws i a s h noted may told = acts laws.life.ranged i a (λ j events entered out. IsDurable j) s (durable-noting laws.durable i (IsActWritable a) told s h) noted may

-- ---- another agent's clocks

-- the minimum time that a join sets is valid
join-low : (i : IdealAgent) (m : PushPull) → IsDurable i → m.event_clock ≤ 2 ^ 64 - 1 → (b : Bool) → max i.events.minimum (cond b m.event_clock 0) ≤ 2 ^ 64 - 1
join-low i m h small true = omega (arith, h.events_min.1, small)
join-low i m h small false = omega (arith, h.events_min.1)

heard-clocks : BelowDurable → (i : IdealAgent) (m : PushPull) (is_join : Bool) → IsDurable i → m.event_clock ≤ 2 ^ 64 - 1 → IsDurable (joined m is_join i)
heard-clocks laws i m is_join h small = carried laws i (joined m is_join i) (record {
  keeps = refl;
  events = refl;
  queries = refl;
  events_up = omega arith;
  queries_up = omega arith;
  events_low = join-low i m h small (is_join && i.config.ignore_old);
  queries_low = omega (arith, h.queries_min.1);
  last_event = refl;
  last_query = refl;
  times = h.times;
  durable = stays-so i.snapshot.durable;
}) h

heard-line : BelowDurable → (i : IdealAgent) (m : PushPull) (is_join : Bool) (line : List ℕ) → IsDurable i → m.event_clock ≤ 2 ^ 64 - 1 → IsDurable (with_snapshot (appended_with kinds.Event 0 (Some line) i.snapshot Kept) (joined m is_join i))
heard-line laws i m is_join line h small =
    let same : max i.snapshot.event_clock 0 ≡ i.snapshot.event_clock = omega arith in
    with-snapshot laws (joined m is_join i) (appended_with kinds.Event 0 (Some line) i.snapshot Kept) (heard-clocks laws i m is_join h small) same refl (times-noted kinds.Event 0 (Some line) i.snapshot h.times (omega arith)) (noted-grows kinds.Event 0 (Some line) i.snapshot)

-- merging a state leaves `IsDurable` true
heard-durable : BelowDurable → (i : IdealAgent) (m : PushPull) (is_join : Bool) (w : Writing) → IsDurable i → m.event_clock ≤ 2 ^ 64 - 1 → MayAct i (Hears m is_join w) → IsDurable (after i (Hears m is_join w))
heard-durable laws i m is_join w h small may =
    heard i m is_join w IsDurable (heard-clocks laws i m is_join h small)
    (λ joins runs. heard-line laws i m is_join (min_line kinds.Event m.event_clock) h small)
    (λ joins runs durable ends. fails laws kinds.Event 0 (Some (min_line kinds.Event m.event_clock)) durable i h ends) may

-- ---- all acts

pub stays_durable : BelowKeptLives → StaysDurable
stays_durable laws i (Hears m is_join w) s h may told = heard-durable laws.durable i m is_join w h told may
stays_durable laws i (Compacts w) s h may told = compacted i w IsDurable h (λ w ends. compacts laws.durable w i s h ends) may
stays_durable laws i (Opens config text d) s h may had =
    let next : IdealAgent = with_config config i in
    let past : HasKept next text = record { events = had.events; queries = had.queries } in
    opens laws.durable next text d h.events_written h.queries_written past
stays_durable laws i (Fires what flag w) s h may told = noted-durable laws i (Fires what flag w) s h tt may told
stays_durable laws i (Asks now id name payload params w) s h may told = noted-durable laws i (Asks now id name payload params w) s h tt may told
stays_durable laws i (Gets tags now packet w) s h may told = noted-durable laws i (Gets tags now packet w) s h tt may told
stays_durable laws i (Takes e w) s h may told = noted-durable laws i (Takes e w) s h tt may told
stays_durable laws i (Saves w) s h may told = noted-durable laws i (Saves w) s h tt may told
stays_durable laws i (Closes now) s h may told = noted-durable laws i (Closes now) s h tt may told

-- ---- lives

pub begins_durable : BelowKeptLives → BeginsDurable
begins_durable laws config text d = opens laws.durable (unopened config (opened text d)) text d
    (All-nil (λ (p : Past EventBody). (0 < p.entry.time) × (p.entry.time < 2 ^ 64 - 1) × IsWritable p.entry.key))
    (All-nil (λ (p : Past ℕ). (0 < p.entry.time) × (p.entry.time < 2 ^ 64 - 1) × IsIdWritable p.entry.key))
    (record {
      events = All-nil (λ (p : Past EventBody). (p.entry.time < min_in kinds.Event text) ⊎ Contains (kept_events whatever text) p.entry);
      queries = All-nil (λ (p : Past ℕ). (p.entry.time < min_in kinds.Query text) ⊎ Contains (kept_queries whatever text) p.entry);
    })

-- over all acts of a life, `IsDurable` stays true
pub durable-lived : Below → StaysDurable → (acts : List Act) (s : Lived) → IsSound s.agent → IsDurable s.agent → MayLive s.agent acts → MayKeepLives s.agent acts → IsDurable (lived s acts).agent
durable-lived laws stays [] s sound h may told = h
durable-lived laws stays (a ∷ rest) s sound h may told =
    durable-lived laws stays rest (acted s a) (moves laws s.agent a sound may.0).sound (stays s.agent a sound h may.0 told.0) may.1 told.1

-- a text that begins with the durable text has everything that was entered
kept-following : BelowDurable → (i : IdealAgent) (durable tail : List ℕ) → IsDurable i → i.snapshot.durable ≡ Some durable → HasKept i (durable ++ tail)
kept-following laws i durable tail h is =
    let had = h.kept durable is in
    record { events = laws.event_texts.grows i.events.history durable tail had.events; queries = laws.query_texts.grows i.queries.history durable tail had.queries }

pub keeps_after : BelowKeptLives → KeepsAfter
keeps_after laws = kept-following laws.durable

pub durable_has_kept : BelowKeptLives → DurableHasKept
durable_has_kept laws = λ config text d acts durable tail ok may told is.
    let s = first_life config text d in
    let first = keeps-first laws.life config text d ok in
    kept-following laws.durable (lived s acts).agent durable tail (durable-lived laws.life (stays_durable laws) acts s first.sound (begins_durable laws config text d) may told) is

-- ---- one disk

flushed-following : Below → (i : IdealAgent) (durable tail : List ℕ) → IsSound i → i.snapshot.durable ≡ Some durable → HasFlushed i (durable ++ tail)
flushed-following laws i durable tail s is =
    let kept = s.snapshot durable is in
    let event : i.snapshot.event_clock ≤ last_clock kinds.Event durable = kept.at_least kinds.Event in
    let fired_queries : i.snapshot.query_clock ≤ last_clock kinds.Query durable = kept.at_least kinds.Query in
    record { events = omega (arith, event, laws.grows kinds.Event durable tail); queries = omega (arith, fired_queries, laws.grows kinds.Query durable tail) }

-- an agent may be opened on a text that begins with the durable text
pub may-open : Below → KeepsAfter → (i : IdealAgent) (config : Config) (text : List ℕ) (d : Device) → IsSound i → IsDurable i → MayGoOn i (Opens config text d) → MayAct i (Opens config text d) × HasKept i text
may-open laws following i config text d s h go =
    let on = go.1 in
    let flushed : HasFlushed i text = subst (HasFlushed i) (sym on.whole) (flushed-following laws i on.durable on.tail s on.is) in
    let kept : HasKept i text = subst (HasKept i) (sym on.whole) (following i on.durable on.tail h on.is) in
    ((flushed, go.0, λ keeps. kept), kept)

pub may-go : BelowKeptLives → (i : IdealAgent) (a : Act) → IsSound i → IsDurable i → MayGoOn i a → MayAct i a × MayKeep i a
may-go laws i (Fires what flag w) s h go = go
may-go laws i (Asks now id name payload params w) s h go = go
may-go laws i (Gets tags now packet w) s h go = go
may-go laws i (Hears m is_join w) s h go = go
may-go laws i (Takes e w) s h go = go
may-go laws i (Saves w) s h go = go
may-go laws i (Compacts w) s h go = go
may-go laws i (Closes now) s h go = go
may-go laws i (Opens config text d) s h go = may-open laws.life (keeps_after laws) i config text d s h go

suffices : BelowKeptLives → (i : IdealAgent) (acts : List Act) → IsSound i → IsDurable i → MayGoOnLives i acts → MayLive i acts × MayKeepLives i acts
suffices laws i [] s h go = (tt, tt)
suffices laws i (a ∷ rest) s h go =
    let may = may-go laws i a s h go.0 in
    let more = suffices laws (after i a) rest (moves laws.life i a s may.0).sound (stays_durable laws i a s h may.0 may.1) go.1 in
    ((may.0, more.0), (may.1, more.1))

pub disk_suffices : BelowKeptLives → DiskSuffices
disk_suffices laws = λ config text d acts ok go. suffices laws (first_life config text d).agent acts (keeps-first laws.life config text d ok).sound (begins_durable laws config text d) go
