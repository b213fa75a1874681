-- What each call leaves of an ideal agent's history, and so what is handed out over all lives.
use Rattle.serf_agent.proofs.Names.{Bool, Err, List, None, Ok, Option, Result, Some, [], ap, append-nil, arith, false, inl, inr, refl, subst, sym, true, ℕ, ◌++◌, ◌-◌, ◌<◌, ◌^◌, ◌∙◌, ◌∷◌, ◌≡◌, ◌≢◌, ◌≤◌, All-contains, All-map, All-nil, All-pop, All-push, All-weaker, all_pairs_push, All, Contains, DecodesInRange, PushPull, EventBody, last_clock, Device, min_line, Failed, Kept, Writing, opened, written, ClockKind, TimedEntry, ended, is_sound, fire_error, fired_as, written_event, IdealAgent, Past, with_config, with_snapshot, entries_in, KeptRestartLaws, IsActWritable, HasKept, Act, Asks, AsksLater, Closes, Compacts, DurableHasFlushed, Fires, FiresLater, Gets, HandsOutOnce, HandsOutQueriesOnce, HasFlushed, Hears, Lived, MayAct, MayLive, Opens, Saves, Takes, acted, after, events_out, first_life, lived, queries_out, AsksAfter, BeginsOnce, BeginsSound, FiresAfter, IsOnce, StaysOnce, StepsSound, query_at, query_error, query_fired_as, written_query, HasPast, IsInText, restarted, restarted_by, unopened, SnapshotLaws, IsSound, joined, MayAppendLine, Config, FireError, Fired, FiredQuery, QueryError, QueryParams}
use Rattle.serf_snapshot.specs.declared.kind.ClockKind.TheVariants as kinds
use Rattle.serf_agent.proofs.ActMoves.{IsAppended, IsPassed, Noting, acts, compacted, heard}
use Rattle.serf_agent.proofs.KeepingLaws.{of-entries}
use Rattle.serf_agent.proofs.SoundLaws.{sound-compact, sound-event_entered, sound-joined, sound-append_line_failed, sound-query_opened, sound-query_entered, sound-restarted, sound-saved, sound-told, sound-unopened, sound-with_config, past-unopened}

-- ---- what the crates below promise

-- each clock of a text is a time, bytes after a text don't lower its clocks, each number of a decoded message is within
-- the range of its type, and snapshots stay sound
pub record Below : Type 0 where
  pub times : (k : ClockKind) (text : List ℕ) → last_clock k text < 2 ^ 64 - 1
  pub grows : (k : ClockKind) (front tail : List ℕ) → last_clock k front ≤ last_clock k (front ++ tail)
  pub ranged : DecodesInRange
  pub snapshots : SnapshotLaws
  pub restart : KeptRestartLaws

-- ---- a history, and what of it was handed out

-- A history continues: nothing was entered; or something new was entered, and was handed out or wasn't; or everything
-- that was entered before was restored, with whatever else a text keeps.
pub data Grows {K : Type 0} (old new : List (Past K)) (more : List (TimedEntry K)) : Type 0 where
  stays : new ≡ old → more ≡ [] → Grows old new more
  enters : (p : Past K) → new ≡ old ++ p ∷ [] → more ≡ p.entry ∷ [] → All (λ q. q.entry ≢ p.entry) old → Grows old new more
  hides : (p : Past K) → new ≡ old ++ p ∷ [] → more ≡ [] → Grows old new more
  recalls : All (Contains (entries_in new)) (entries_in old) → more ≡ [] → Grows old new more

-- if one history has all entries of another, what holds of each entry of the first holds of each entry of the other
held-among : {K : Type 0} (P : TimedEntry K → Type 0) (old new : List (Past K)) → All (Contains (entries_in new)) (entries_in old) → All (λ p. P p.entry) new → All (λ p. P p.entry) old
held-among {K} P old new among each =
    let entries : All P (entries_in new) = All-map P (λ (p : Past K). p.entry) new each in
    of-entries P old (All-weaker (Contains (entries_in new)) P (λ e there. All-contains P (entries_in new) e entries there) (entries_in old) among)

-- `IsOnce` stays true if nothing more was handed out
none-more : {K : Type 0} (new : List (Past K)) (more handed : List (TimedEntry K)) → more ≡ [] → IsOnce new handed → IsOnce new (handed ++ more)
none-more {K} new more handed none same = subst (λ (l : List (TimedEntry K)). IsOnce new l) (sym (ap (λ (m : List (TimedEntry K)). handed ++ m) none ∙ append-nil handed)) same

grown : {K : Type 0} (old new : List (Past K)) (more handed : List (TimedEntry K)) → IsOnce old handed → Grows old new more → IsOnce new (handed ++ more)
grown {K} old new more handed h (stays same none) = none-more new more handed none (subst (λ (l : List (Past K)). IsOnce l handed) (sym same) h)
grown {K} old new more handed h (enters p same one fresh) =
    let both : IsOnce (old ++ p ∷ []) (handed ++ p.entry ∷ []) = record {
      once = all_pairs_push (λ x y. x ≢ y) handed p.entry h.once (h.fresh p.entry fresh);
      fresh = λ e all. let parts = All-pop (λ (q : Past K). q.entry ≢ e) (old ++ p ∷ []) old (Some p) refl all in All-push (λ (x : TimedEntry K). x ≢ e) handed p.entry (h.fresh e parts.0) parts.1;
      below = λ t all. let parts = All-pop (λ (q : Past K). q.entry.time < t) (old ++ p ∷ []) old (Some p) refl all in All-push (λ (x : TimedEntry K). x.time < t) handed p.entry (h.below t parts.0) parts.1;
    } in
    subst (λ (l : List (TimedEntry K)). IsOnce new (handed ++ l)) (sym one) (subst (λ (l : List (Past K)). IsOnce l (handed ++ p.entry ∷ [])) (sym same) both)
grown {K} old new more handed h (hides p same none) =
    let both : IsOnce (old ++ p ∷ []) handed = record {
      once = h.once;
      fresh = λ e all. h.fresh e (All-pop (λ (q : Past K). q.entry ≢ e) (old ++ p ∷ []) old (Some p) refl all).0;
      below = λ t all. h.below t (All-pop (λ (q : Past K). q.entry.time < t) (old ++ p ∷ []) old (Some p) refl all).0;
    } in
    none-more new more handed none (subst (λ (l : List (Past K)). IsOnce l handed) (sym same) both)
grown {K} old new more handed h (recalls among none) = none-more new more handed none (record {
  once = h.once;
  fresh = λ e all. h.fresh e (held-among (λ (x : TimedEntry K). x ≢ e) old new among all);
  below = λ t all. h.below t (held-among (λ (x : TimedEntry K). x.time < t) old new among all);
})

-- ---- calls

-- a sound agent becomes another sound agent, and hands out these events and queries
pub record Moves (i j : IdealAgent) (events : List (TimedEntry EventBody)) (queries : List (TimedEntry ℕ)) : Type 0 where
  pub sound : IsSound j
  pub events_grow : Grows i.events.history j.events.history events
  pub queries_grow : Grows i.queries.history j.queries.history queries

still : (i j : IdealAgent) → IsSound j → j.events.history ≡ i.events.history → j.queries.history ≡ i.queries.history → Moves i j [] []
still i j sound e q = record { sound = sound; events_grow = stays e refl; queries_grow = stays q refl }

-- a query that entered is handed out if the filters let the node pass
passes-grow : (old : List (Past ℕ)) (p : Past ℕ) (out : List (TimedEntry ℕ)) → IsPassed p.entry.time p.entry.key out → All (λ q. q.entry ≢ p.entry) old → Grows old (old ++ p ∷ []) out
passes-grow old p out (inl one) fresh = enters p refl one fresh
passes-grow old p out (inr none) fresh = hides p refl none

-- a failure of the sink when a line is appended moves a sound agent in this way
failed : SnapshotLaws → (kind : ClockKind) (t : ℕ) (line durable : Option (List ℕ)) (i : IdealAgent) → IsSound i → MayAppendLine kind t line i.snapshot (Failed durable) → Moves i (with_snapshot (written kind t i.snapshot (Failed durable)) i) [] []
failed snapshots kind t line durable i s may = still i _ (sound-append_line_failed snapshots kind t line durable i s may) refl refl

-- each line that a sound agent appends moves it in this way
moves-noting : SnapshotLaws → (i : IdealAgent) (Written : Type 0) → IsSound i → Noting i Written (λ j events entered out. Moves i j events out)
moves-noting snapshots i Written s = record {
  quiet = λ j q sound. still i j sound q.events.history q.queries.history;
  event = λ t what e told. record {
    sound = sound-event_entered snapshots t what i s e.runs e.small e.short e.fresh;
    events_grow = enters (record { life = i.life; entry = record { time = t; key = what } }) refl refl e.fresh;
    queries_grow = stays refl refl;
  };
  event_fails = λ t what durable runs small may. failed snapshots kinds.Event t (written_event i.config t what) durable i s may;
  query = λ t id out e told passed. record {
    sound = sound-query_entered snapshots t id i s e.runs e.small e.fresh;
    events_grow = stays refl refl;
    queries_grow = passes-grow i.queries.history (record { life = i.life; entry = record { time = t; key = id } }) out passed e.fresh;
  };
  asks = λ now q out at e told passed. record {
    sound = sound-query_opened snapshots now q i s e.runs at e.small;
    events_grow = stays refl refl;
    queries_grow = passes-grow i.queries.history (record { life = i.life; entry = record { time = q.time; key = q.id } }) out passed e.fresh;
  };
  query_fails = λ t id durable runs small told may. failed snapshots kinds.Query t (written_query i.config t id) durable i s may;
  saves = λ t small runs. still i _ (sound-saved snapshots t i s runs small) refl refl;
  save_fails = λ t durable runs may. failed snapshots kinds.Member t None durable i s may;
}

-- an act that appends a line moves a sound agent in this way
moves-noted : Below → (i : IdealAgent) (a : Act) → IsSound i → IsAppended a → MayAct i a → Moves i (after i a) (events_out i a) (queries_out i a)
moves-noted laws i a s noted may = acts laws.ranged i a (λ j events entered out. Moves i j events out) s (moves-noting laws.snapshots i (IsActWritable a) s) noted may

-- ---- firing

-- the time of what was fired, or otherwise some other time
abbrev fired_time : ℕ → Result Fired FireError → ℕ
fired_time t (Ok f) = f.handed.time
fired_time t (Err error) = t

fired-at : (i : IdealAgent) (what : EventBody) (flag : Bool) (w : Writing) (r : Option FireError) (f : Fired) → (ended i (fired_as r i what flag) w).answer ≡ Ok f → f.handed.time ≡ i.events.clock
fired-at i what flag w (Some error) f is = sym (ap (fired_time i.events.clock) is)
fired-at i what flag Kept None f is = sym (ap (fired_time i.events.clock) is)
fired-at i what flag (Failed durable) None f is = sym (ap (fired_time i.events.clock) is)

abbrev query_time_or : ℕ → Result FiredQuery QueryError → ℕ
query_time_or t (Ok f) = f.time
query_time_or t (Err error) = t

fired_queries-at-clock : (i : IdealAgent) (now id : ℕ) (name payload : List ℕ) (params : QueryParams) (w : Writing) (r : Option QueryError) (f : FiredQuery) → (ended i (query_fired_as params.tags_pass r i now (query_at i.queries.clock i.config.name id name payload params)) w).answer ≡ Ok f → f.time ≡ i.queries.clock
fired_queries-at-clock i now id name payload params w (Some error) f is = sym (ap (query_time_or i.queries.clock) is)
fired_queries-at-clock i now id name payload params Kept None f is = sym (ap (query_time_or i.queries.clock) is)
fired_queries-at-clock i now id name payload params (Failed durable) None f is = sym (ap (query_time_or i.queries.clock) is)

-- ---- lines, closings and openings

moves-heard : SnapshotLaws → (i : IdealAgent) (m : PushPull) (is_join : Bool) (w : Writing) → IsSound i → MayAct i (Hears m is_join w) → Moves i (after i (Hears m is_join w)) [] []
moves-heard snapshots i m is_join w s may =
    heard i m is_join w (λ j. Moves i j [] []) (still i _ sound refl refl)
    (λ joins runs. still i _ (sound-told snapshots (min_line kinds.Event m.event_clock) (joined m is_join i) sound runs (snapshots.min_quiet kinds.Event m.event_clock)) refl refl)
    (λ joins runs durable fails. failed snapshots kinds.Event 0 (Some (min_line kinds.Event m.event_clock)) durable i s fails) may
  where
    sound : IsSound (joined m is_join i)
    sound = sound-joined m is_join i s may.1

moves-compacted : SnapshotLaws → (i : IdealAgent) (w : Writing) → IsSound i → MayAct i (Compacts w) → Moves i (after i (Compacts w)) [] []
moves-compacted snapshots i w s may = compacted i w (λ j. Moves i j [] []) (still i i s refl refl) (λ w ends. still i _ (sound-compact snapshots w i s ends) refl refl) may

-- a text that has what was flushed has each time that was entered
pub text-of-flushed : (i : IdealAgent) (text : List ℕ) → IsSound i → HasFlushed i text → IsInText i text
text-of-flushed i text s h = record {
  events = All-weaker (λ (p : Past EventBody). p.entry.time ≤ i.snapshot.event_clock) (λ (p : Past EventBody). p.entry.time ≤ last_clock kinds.Event text) (λ p low. omega (arith, low, h.events)) i.events.history s.events.noted;
  queries = All-weaker (λ (p : Past ℕ). p.entry.time ≤ i.snapshot.query_clock) (λ (p : Past ℕ). p.entry.time ≤ last_clock kinds.Query text) (λ p low. omega (arith, low, h.queries)) i.queries.history s.queries.noted;
}

moves-opened : Below → (i : IdealAgent) (config : Config) (text : List ℕ) (d : Device) → IsSound i → MayAct i (Opens config text d) → Moves i (after i (Opens config text d)) [] []
moves-opened laws i config text d s may =
    let next : IdealAgent = with_config config i in
    let said = text-of-flushed i text s may.0 in
    let past : HasPast config next text = record { times = record { events = said.events; queries = said.queries }; kept = λ keeps. let had : HasKept i text = may.2 keeps in record { events = had.events; queries = had.queries } } in
    goes config.keep_events (sound-restarted laws.snapshots laws.restart next text d (sound-with_config config i s may.1) past (laws.times kinds.Member text))
  where
    goes : (b : Bool) → IsSound (restarted_by b text (opened text d) (with_config config i)) → Moves i (restarted_by b text (opened text d) (with_config config i)) [] []
    goes true sound = record { sound = sound; events_grow = recalls (laws.restart.events_grown (with_config config i) text (opened text d)) refl; queries_grow = recalls (laws.restart.queries_grown (with_config config i) text (opened text d)) refl }
    goes false sound = still i _ sound refl refl

pub moves : Below → (i : IdealAgent) (a : Act) → IsSound i → MayAct i a → Moves i (after i a) (events_out i a) (queries_out i a)
moves laws i (Hears m is_join w) s may = moves-heard laws.snapshots i m is_join w s may
moves laws i (Compacts w) s may = moves-compacted laws.snapshots i w s may
moves laws i (Opens config text d) s may = moves-opened laws i config text d s may
moves laws i (Fires what flag w) s may = moves-noted laws i (Fires what flag w) s tt may
moves laws i (Asks now id name payload params w) s may = moves-noted laws i (Asks now id name payload params w) s tt may
moves laws i (Gets tags now packet w) s may = moves-noted laws i (Gets tags now packet w) s tt may
moves laws i (Takes e w) s may = moves-noted laws i (Takes e w) s tt may
moves laws i (Saves w) s may = moves-noted laws i (Saves w) s tt may
moves laws i (Closes now) s may = moves-noted laws i (Closes now) s tt may

-- ---- lives

pub record Keeps (s : Lived) : Type 0 where
  pub sound : IsSound s.agent
  pub events_once : IsOnce s.agent.events.history s.events
  pub queries_once : IsOnce s.agent.queries.history s.queries

pub keeps : Below → (acts : List Act) (s : Lived) → Keeps s → MayLive s.agent acts → Keeps (lived s acts)
keeps laws [] s k may = k
keeps laws (a ∷ rest) s k may =
    let m = moves laws s.agent a k.sound may.0 in
    keeps laws rest (acted s a) (record {
      sound = m.sound;
      events_once = grown s.agent.events.history (after s.agent a).events.history (events_out s.agent a) s.events k.events_once m.events_grow;
      queries_once = grown s.agent.queries.history (after s.agent a).queries.history (queries_out s.agent a) s.queries k.queries_once m.queries_grow;
    }) may.1

nothing-once : {K : Type 0} (history : List (Past K)) → IsOnce history []
nothing-once {K} history = record { once = λ i j d lt within. absurd (omega arith); fresh = λ e all. All-nil (λ (x : TimedEntry K). x ≢ e); below = λ t all. All-nil (λ (x : TimedEntry K). x.time < t) }

pub keeps-first : Below → (config : Config) (text : List ℕ) (d : Device) → is_sound config ≡ true → Keeps (first_life config text d)
keeps-first laws config text d ok =
    let i = unopened config (opened text d) in
    record {
      sound = sound-restarted laws.snapshots laws.restart i text d (sound-unopened laws.snapshots config text d ok (laws.times kinds.Member text)) (past-unopened config (opened text d) text) (laws.times kinds.Member text);
      events_once = nothing-once (restarted text (opened text d) i).events.history;
      queries_once = nothing-once (restarted text (opened text d) i).queries.history;
    }

-- ---- what is promised

pub once : Below → HandsOutOnce
once laws = λ config text d acts ok may. (keeps laws acts (first_life config text d) (keeps-first laws config text d ok) may).events_once.once

pub queries_once : Below → HandsOutQueriesOnce
queries_once laws = λ config text d acts ok may. (keeps laws acts (first_life config text d) (keeps-first laws config text d ok) may).queries_once.once

pub fires_after : FiresAfter
fires_after = λ i what flag w f events sound once is.
    subst (λ (t : ℕ). All (λ (e : TimedEntry EventBody). e.time < t) events) (sym (fired-at i what flag w (fire_error i what flag) f is)) (once.below i.events.clock sound.events.below_clock)

pub asks_after : AsksAfter
asks_after = λ i now id name payload params w f queries sound once is.
    subst (λ (t : ℕ). All (λ (e : TimedEntry ℕ). e.time < t) queries) (sym (fired_queries-at-clock i now id name payload params w (query_error i id name payload params) f is)) (once.below i.queries.clock sound.queries.below_clock)

pub later : Below → FiresLater
later laws = λ config text d acts what flag w f ok may is.
    let before = lived (first_life config text d) acts in
    let k = keeps laws acts (first_life config text d) (keeps-first laws config text d ok) may in
    fires_after before.agent what flag w f before.events k.sound k.events_once is

pub queries_later : Below → AsksLater
queries_later laws = λ config text d acts now id name payload params w f ok may is.
    let before = lived (first_life config text d) acts in
    let k = keeps laws acts (first_life config text d) (keeps-first laws config text d ok) may in
    asks_after before.agent now id name payload params w f before.queries k.sound k.queries_once is

pub flushed_there : Below → DurableHasFlushed
flushed_there laws = λ config text d acts durable tail ok may is.
    let k = keeps laws acts (first_life config text d) (keeps-first laws config text d ok) may in
    let kept = k.sound.snapshot durable is in
    let s = (lived (first_life config text d) acts).agent.snapshot in
    let event : s.event_clock ≤ last_clock kinds.Event durable = kept.at_least kinds.Event in
    let fired_queries : s.query_clock ≤ last_clock kinds.Query durable = kept.at_least kinds.Query in
    record {
      events = omega (arith, event, laws.grows kinds.Event durable tail);
      queries = omega (arith, fired_queries, laws.grows kinds.Query durable tail);
    }

pub stays_once : Below → StaysOnce
stays_once laws i a events queries s may h =
    let m = moves laws i a s may in
    (grown i.events.history (after i a).events.history (events_out i a) events h.0 m.events_grow, grown i.queries.history (after i a).queries.history (queries_out i a) queries h.1 m.queries_grow)

pub begins_once : BeginsOnce
begins_once = λ history. nothing-once history

pub steps_sound : Below → StepsSound
steps_sound laws i a s may = (moves laws i a s may).sound

pub begins_sound : Below → BeginsSound
begins_sound laws config text d ok = (keeps-first laws config text d ok).sound
