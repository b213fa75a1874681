-- What an agent that keeps its events over a restart doesn't miss: each act, and all lives.
use Rattle.serf_agent.proofs.Names.{Bool, List, None, Option, Some, [], ap, arith, cond, false, inl, inr, max, refl, subst, sym, true, ℕ, ◌&&◌, ◌++◌, ◌+◌, ◌-◌, ◌<◌, ◌^◌, ◌∙◌, ◌∷◌, ◌≡◌, ◌≤◌, ◌⊎◌, cases_lt, All-contains_itself, All-head, All-tail, All-weaker, Contains-append_right, All, Contains, PushPull, EventBody, last_clock, sealed, Device, min_in, min_line, query_line, kept_bytes, kept_compaction_of, Failed, Kept, MayReplaceBy, SnapshotView, Writing, last_line, noted, opened, text_replaced, written, EntryFilter, ClockKind, same_id, same_texts, TimedEntry, event_entered, written_event, IdealAgent, Past, Track, with_config, with_snapshot, KeepingLaws, taken_back, track_kept, HasMet, IsFull, IsMet, KeepsSettings, TellNoneAbove, TellsNoneAbove, entered_in, stood_after, stood_in, kept_lines, min_written, IsDurable, IsActWritable, MayGoOn, MayGoOnLives, line_of_event, whatever, within_reach, Act, Asks, Closes, Compacts, Fires, Gets, HasFlushed, Hears, Lived, MayAct, Opens, Saves, Takes, acted, after, lived, query_opened, query_entered, written_query, restarted, restarted_by, IsSound, joined, IsOpenAt, TakesAt, MayAppendLine, bytes_with, appended_with, text_with, TrackOf, event_track, query_track, view_of, Config}
use Rattle.serf_snapshot.specs.declared.kind.ClockKind.TheVariants as kinds
use Rattle.serf_agent.proofs.ActMoves.{IsAppended, IsQuiet, IsSeen, Noting, acts, compacted, heard}
use Rattle.serf_agent.proofs.DurableLaws.{opened-durable}
use Rattle.serf_agent.proofs.HandsOutLaws.{Allows, BelowHandsOut, allows, allows-saved, compaction-events, compaction-queries, event-no_member, follows, opens-compacted, opens-entered, opens-failed, opens-noted, opens-saved, opens-wider, query-no_member, stands-wider, tells-event, tells-join, tells-own, tells-query, whole-durable}
use Rattle.serf_agent.proofs.KeptLifeLaws.{may-go, stays_durable}
use Rattle.serf_agent.proofs.KeptRestartLaws.{among}
use Rattle.serf_agent.proofs.LifeLaws.{moves}
use Rattle.serf_agent.proofs.MetLaws.{IsLow, Stands, Tells, Wider, events-stand, full-wider, has-met-wider, low-back, queries-stand, tells_ids, tells_texts, wider-handed, wider-stood}
use Rattle.serf_agent.proofs.SoundLaws.{event-appended_member, query-appended_member}

-- ---- an opening

opened-last : (k : ClockKind) (text : List ℕ) (d : Device) → last_line k (opened text d) ≡ last_clock k text
opened-last kinds.Member text d = refl
opened-last kinds.Event text d = refl
opened-last kinds.Query text d = refl

-- how entries of a kind are read and distinguished
pub record Reading {K : Type 0} (same : K → K → Bool) (read : EntryFilter → List ℕ → List (TimedEntry K)) : Type 0 where
  pub tells : Tells same
  pub stands : Stands read
  pub keeping : KeepingLaws K same

-- a track as an opening makes it from a text
abbrev pub reopened : {K : Type 0} → (K → K → Bool) → (EntryFilter → List ℕ → List (TimedEntry K)) → ClockKind → ℕ → ℕ → ℕ → List ℕ → Track K → Track K
reopened same read kind n k life text track = track_kept same n k life (last_clock kind text) (min_in kind text) (read (within_reach n (last_clock kind text) (min_in kind text)) text) track

opens-opened : {K : Type 0} → BelowHandsOut → (same : K → K → Bool) (read : EntryFilter → List ℕ → List (TimedEntry K)) → Reading same read → (kind : ClockKind) (n k t life : ℕ) (handed stood : List (TimedEntry K)) (track : Track K) (text : List ℕ) (d : Device) → All (λ p. IsMet handed stood p.entry) track.history
    → min_in kind text ≤ max t ((last_clock kind text + 1) - n)
    → IsOpenAt kind n t handed (stood ++ read whatever text) (reopened same read kind n k (life + 1) text track) (opened text d) ⊎ IsFull k t handed (stood ++ read whatever text)
opens-opened {K} laws same read reading kind n k t life handed stood track text d known told = by low
  where
    last : ℕ
    last = last_clock kind text

    lowest : ℕ
    lowest = min_in kind text

    reached : List (TimedEntry K)
    reached = read (within_reach n (last_clock kind text) (min_in kind text)) text

    all : List (TimedEntry K)
    all = stood ++ read whatever text

    back : ℕ
    back = (taken_back same n k (last_clock kind text) (min_in kind text) (read (within_reach n (last_clock kind text) (min_in kind text)) text)).minimum

    small : last_clock kind text < 2 ^ 64 - 1
    small = laws.kept.durable.times kind text

    is : last_line kind (opened text d) ≡ last_clock kind text
    is = opened-last kind text d

    low : IsLow k lowest reached back
    low = low-back same reading.tells n k last lowest reached

    -- everything that is left out is in the text
    wider : Wider [] (read (within_reach n (last_clock kind text) (min_in kind text)) text) handed (stood ++ read whatever text)
    wider e (inl none) = absurd (omega (arith, none.1))
    wider e (inr there) = inr (Contains-append_right stood (read whatever text) e (reading.stands n last lowest text e small there))

    goes : back ≤ max t ((last_clock kind text + 1) - n) → IsOpenAt kind n t handed (stood ++ read whatever text) (reopened same read kind n k (life + 1) text track) (opened text d)
    goes under = record {
      last = omega (arith, is);
      known = among (IsMet handed all) track.history (reopened same read kind n k (life + 1) text track).history reached
          (All-weaker (λ (p : Past K). IsMet handed stood p.entry) (λ (p : Past K). IsMet handed all p.entry) (λ p m. wider-stood handed stood (read whatever text) p.entry m) track.history known)
          (All-weaker (Contains reached) (IsMet handed all) (λ e there. wider e (inr there)) reached (All-contains_itself reached))
          (reading.keeping.only_kept n k (life + 1) last lowest reached track);
      minimum = omega (arith, under, told, is);
      lowest = λ new at.
          let sealed_is : min_in kind (sealed text) ≡ min_in kind new = ap (min_in kind) (opened-durable d.observed_bytes text new at) in
          omega (arith, sealed_is, laws.min_sealed kind text, told, is);
    }

    over : (time : ℕ) → back ≤ time + 1 → HasMet (k + 1) time handed all → IsOpenAt kind n t handed (stood ++ read whatever text) (reopened same read kind n k (life + 1) text track) (opened text d) ⊎ IsFull k t handed (stood ++ read whatever text)
    over time under met = elim (cases_lt t time) [
      | inl later ↦ inr (inr (time, later, met))
      | inr up ↦ elim (cases_lt time t) [
        | inl earlier ↦ inl (goes (omega (arith, under, earlier)))
        | inr down ↦ inr (inl (subst (λ (x : ℕ). HasMet k x handed all) (let same : time ≡ t = omega (arith, up, down) in same) (record { entries = met.entries; many = omega (arith, met.many); distinct = met.distinct; met = met.met })))
      ]
    ]

    by : IsLow k lowest reached back → IsOpenAt kind n t handed (stood ++ read whatever text) (reopened same read kind n k (life + 1) text track) (opened text d) ⊎ IsFull k t handed (stood ++ read whatever text)
    by (inl under) = inl (goes (omega (arith, under, told)))
    by (inr h) = over h.0 h.1 (has-met-wider (k + 1) h.0 [] reached handed all wider h.2)

-- ---- one agent at one time: the common subject of all lemmas about acts

pub record Progress {K : Type 0} (which : TrackOf K) (t : ℕ) (config : Config) (handed stood : List (TimedEntry K)) (i : IdealAgent) : Type 0 where
  pub sound : IsSound i
  pub durable : IsDurable i
  pub stands : TakesAt which t config handed stood i

-- `TakesAt` stays true whatever else is handed out
out : {K : Type 0} (which : TrackOf K) (t : ℕ) (config : Config) (handed stood more : List (TimedEntry K)) (i : IdealAgent) → TakesAt which t config handed stood i → TakesAt which t config (handed ++ more) stood i
out which t config handed stood more i s = stands-wider which t config handed stood (handed ++ more) stood i (wider-handed handed more stood) s

-- an agent of which `TakesAt` is true keeps events, if the settings do
keeps-on : {K : Type 0} (which : TrackOf K) (t : ℕ) (config : Config) (handed stood : List (TimedEntry K)) (i : IdealAgent) → config.keep_events ≡ true → TakesAt which t config handed stood i → true ≡ i.config.keep_events
keeps-on which t config handed stood i on s = sym (ap (λ (c : Config). c.keep_events) s.settings ∙ on)

-- `IsOpenAt` stays true if neither the text nor the history changes
seen : {K : Type 0} (kind : ClockKind) (n t : ℕ) (handed stood : List (TimedEntry K)) (track next : Track K) (s u : SnapshotView) → IsSeen track next → u ≡ s → IsOpenAt kind n t handed stood track s → IsOpenAt kind n t handed stood next u
seen kind n t handed stood track next s u quiet same o = follows kind n t handed stood track s next u (record {
  clock = quiet.clock;
  last = ap (last_line kind) same;
  history = quiet.history;
  minimum = omega (arith, quiet.minimum);
  lowest = λ new at. o.lowest new (subst (λ (v : SnapshotView). v.durable ≡ Some new) same at);
}) o

-- ---- what each appended line leaves of a track

-- The lemmas that are proved separately for events and for queries: which of the entries of an act are theirs, and what
-- a line leaves of their track.
record Lines {K : Type 0} (which : TrackOf K) : Type 0 where
  own : List (TimedEntry EventBody) → List (TimedEntry ℕ) → List (TimedEntry K)
  -- the track is determined by the agent's events and queries
  same : (i j : IdealAgent) → j.events ≡ i.events → j.queries ≡ i.queries → which.track j ≡ which.track i
  quiet : (i j : IdealAgent) → IsQuiet i j → IsSeen (which.track i) (which.track j)
  no_member : (which.kind ≡ kinds.Member) → ⊥
  saved : (t : ℕ) (s : SnapshotView) → last_line which.kind (noted kinds.Member t s Kept) ≡ last_line which.kind s
  event : (n t : ℕ) (handed stood : List (TimedEntry K)) (i : IdealAgent) (time : ℕ) (what : EventBody) → IsOpenAt which.kind n t handed stood (which.track i) i.snapshot
      → Allows which.kind n t i.snapshot (kept_bytes kinds.Event time (line_of_event time what) i.snapshot.event_clock)
      → IsOpenAt which.kind n t (handed ++ own (record { time = time; key = what } ∷ []) []) stood (which.track (event_entered time what i)) (appended_with kinds.Event time (Some (line_of_event time what)) i.snapshot Kept)
  query : (n t : ℕ) (handed stood : List (TimedEntry K)) (i : IdealAgent) (time id : ℕ) → IsOpenAt which.kind n t handed stood (which.track i) i.snapshot
      → Allows which.kind n t i.snapshot (kept_bytes kinds.Query time (query_line time id) i.snapshot.query_clock)
      → IsOpenAt which.kind n t (handed ++ own [] (record { time = time; key = id } ∷ [])) stood (which.track (query_entered time id i)) (appended_with kinds.Query time (Some (query_line time id)) i.snapshot Kept)

-- `IsOpenAt` stays true if a line of the other kind is appended
none-entered : {K : Type 0} (k kind : ClockKind) (n t : ℕ) (handed stood : List (TimedEntry K)) (track : Track K) (s : SnapshotView) (time : ℕ) (line : List ℕ) → last_line k (appended_with kind time (Some line) s Kept) ≡ last_line k s → IsOpenAt k n t handed stood track s
    → Allows k n t s (kept_bytes kind time line (last_line kind s)) → IsOpenAt k n t (handed ++ []) stood track (appended_with kind time (Some line) s Kept)
none-entered k kind n t handed stood track s time line last o all =
    opens-wider k n t handed stood (handed ++ []) stood track (appended_with kind time (Some line) s Kept) (wider-handed handed [] stood)
    (opens-noted k kind n t handed stood track track s time line (omega arith) refl (omega arith) last o all)

-- the lemmas of `Lines` for events, and below for queries
abbrev event-lines : Lines event_track
event-lines = record {
  own = λ events queries. events;
  same = λ i j events queries. events;
  quiet = λ i j q. q.events;
  no_member = event-no_member;
  saved = event-appended_member;
  event = λ n t handed stood i time what o all. opens-entered kinds.Event n t handed stood i.events i.snapshot i.life time what (line_of_event time what) refl o all;
  query = λ n t handed stood i time id o all. none-entered kinds.Event kinds.Query n t handed stood i.events i.snapshot time (query_line time id) refl o all;
}

abbrev query-lines : Lines query_track
query-lines = record {
  own = λ events queries. queries;
  same = λ i j events queries. queries;
  quiet = λ i j q. q.queries;
  no_member = query-no_member;
  saved = query-appended_member;
  event = λ n t handed stood i time what o all. none-entered kinds.Query kinds.Event n t handed stood i.queries i.snapshot time (line_of_event time what) refl o all;
  query = λ n t handed stood i time id o all. opens-entered kinds.Query n t handed stood i.queries i.snapshot i.life time id (query_line time id) refl o all;
}

-- what is true of the track of an agent, with the snapshot of another that has the same events and queries, is true of
-- the other
stands-as : {K : Type 0} (which : TrackOf K) → Lines which → (t : ℕ) (config : Config) (handed stood : List (TimedEntry K)) (i j : IdealAgent) → j.events ≡ i.events → j.queries ≡ i.queries → j.config ≡ config → IsOpenAt which.kind (which.slots config) t handed stood (which.track i) j.snapshot
    → TakesAt which t config handed stood j
stands-as {K} which lines t config handed stood i j events queries settings o = record {
  settings = settings;
  opens = subst (λ (track : Track K). IsOpenAt which.kind (which.slots config) t handed stood track j.snapshot) (sym (lines.same i j events queries)) o;
}

-- `TakesAt` is true of an agent after an act entered these events and queries
abbrev LineAppended : {K : Type 0} (which : TrackOf K) → Lines which → ℕ → Config → List (TimedEntry K) → List (TimedEntry K) → IdealAgent → List (TimedEntry EventBody) → List (TimedEntry ℕ) → List (TimedEntry ℕ) → Type 0
LineAppended which lines t config handed stood i events queries passed = TakesAt which t config (handed ++ lines.own events queries) stood i

-- `TakesAt` stays true after each appended line
noting : {K : Type 0} → BelowHandsOut → (which : TrackOf K) (lines : Lines which) (t : ℕ) (config : Config) (handed stood : List (TimedEntry K)) (i : IdealAgent) (Written : Type 0) → Written → config.keep_events ≡ true → Progress which t config handed stood i → Noting i Written (LineAppended which lines t config handed stood)
noting {K} laws which lines t config handed stood i Written able on c = record {
  quiet = λ j q sound. out which t config handed stood (lines.own [] []) j (record { settings = q.settings ∙ c.stands.settings; opens = seen which.kind n t handed stood (which.track i) (which.track j) i.snapshot j.snapshot (lines.quiet i j q) q.snapshot o });
  event = λ time what e told. subst (λ (b : Bool). LineAppended which lines t config handed stood (entered b time what) (record { time = time; key = what } ∷ []) [] []) keeps
      (stands-as which lines t config (handed ++ lines.own (record { time = time; key = what } ∷ []) []) stood (event_entered time what i) (entered true time what) refl refl c.stands.settings
      (lines.event n t handed stood i time what o (of_event time what e.runs e.small)));
  event_fails = λ time what durable runs small may. fails kinds.Event time (written_event i.config time what) durable
      (subst (λ (b : Bool). Allows which.kind n t i.snapshot (bytes_with kinds.Event time (cond b (Some (line_of_event time what)) None) i.snapshot)) keeps (of_event time what runs small)) may;
  query = λ time id out e told passed. fired_queries time id (query_entered time id i) out e.runs e.small (told able) refl refl refl;
  asks = λ now q out at e told passed. fired_queries q.time q.id (query_opened now q i) out e.runs e.small (told able) refl refl refl;
  query_fails = λ time id durable runs small told may. fails kinds.Query time (written_query i.config time id) durable
      (subst (λ (b : Bool). Allows which.kind n t i.snapshot (bytes_with kinds.Query time (cond b (Some (query_line time id)) None) i.snapshot)) keeps (of_query time id runs small (told able))) may;
  saves = λ time small runs. left (noted kinds.Member time i.snapshot Kept) (opens-saved laws which.kind n t handed stood (which.track i) i.snapshot time lines.no_member (lines.saved time i.snapshot) c.sound.snapshot runs o);
  save_fails = λ time durable runs may. fails kinds.Member time None durable (allows-saved laws which.kind n t handed stood (which.track i) i.snapshot time lines.no_member c.sound.snapshot runs o) may;
}
  where
    n : ℕ
    n = which.slots config

    o : IsOpenAt which.kind (which.slots config) t handed stood (which.track i) i.snapshot
    o = c.stands.opens

    keeps : true ≡ i.config.keep_events
    keeps = keeps-on which t config handed stood i on c.stands

    left : (s : SnapshotView) → IsOpenAt which.kind (which.slots config) t handed stood (which.track i) s → TakesAt which t config (handed ++ lines.own [] []) stood (with_snapshot s i)
    left s opens = out which t config handed stood (lines.own [] []) (with_snapshot s i) (stands-as which lines t config handed stood i (with_snapshot s i) refl refl c.stands.settings opens)

    fails : (kind : ClockKind) (time : ℕ) (line durable : Option (List ℕ)) → Allows which.kind (which.slots config) t i.snapshot (bytes_with kind time line i.snapshot) → MayAppendLine kind time line i.snapshot (Failed durable)
        → TakesAt which t config (handed ++ lines.own [] []) stood (with_snapshot (written kind time i.snapshot (Failed durable)) i)
    fails kind time line durable all may = left (written kind time i.snapshot (Failed durable)) (opens-failed laws which.kind n t handed stood (which.track i) i.snapshot kind time line durable o all may)

    of_event : (time : ℕ) (what : EventBody) → i.snapshot.stopped ≡ false → time < 2 ^ 64 - 1 → Allows which.kind (which.slots config) t i.snapshot (kept_bytes kinds.Event time (line_of_event time what) i.snapshot.event_clock)
    of_event time what runs small = allows laws which.kind n t handed stood (which.track i) i.snapshot kinds.Event time (line_of_event time what) c.sound.snapshot runs o small (tells-event laws which.kind time what small)

    of_query : (time id : ℕ) → i.snapshot.stopped ≡ false → time < 2 ^ 64 - 1 → id < 2 ^ 32 → Allows which.kind (which.slots config) t i.snapshot (kept_bytes kinds.Query time (query_line time id) i.snapshot.query_clock)
    of_query time id runs small low = allows laws which.kind n t handed stood (which.track i) i.snapshot kinds.Query time (query_line time id) c.sound.snapshot runs o small (tells-query laws which.kind time id small low)

    entered : Bool → ℕ → EventBody → IdealAgent
    entered b time what = with_snapshot (appended_with kinds.Event time (cond b (Some (line_of_event time what)) None) i.snapshot Kept) (event_entered time what i)

    asking : Bool → ℕ → ℕ → IdealAgent → IdealAgent
    asking b time id j = with_snapshot (appended_with kinds.Query time (cond b (Some (query_line time id)) None) i.snapshot Kept) j

    fired_queries : (time id : ℕ) (j : IdealAgent) (passed : List (TimedEntry ℕ)) → i.snapshot.stopped ≡ false → time < 2 ^ 64 - 1 → id < 2 ^ 32 → j.events ≡ (query_entered time id i).events → j.queries ≡ (query_entered time id i).queries → j.config ≡ i.config
        → LineAppended which lines t config handed stood (with_snapshot (appended_with kinds.Query time (written_query i.config time id) i.snapshot Kept) j) [] (record { time = time; key = id } ∷ []) passed
    fired_queries time id j passed runs small low events queries settings = subst (λ (b : Bool). LineAppended which lines t config handed stood (asking b time id j) [] (record { time = time; key = id } ∷ []) passed) keeps
        (stands-as which lines t config (handed ++ lines.own [] (record { time = time; key = id } ∷ [])) stood (query_entered time id i) (asking true time id j) events queries (settings ∙ c.stands.settings)
        (lines.query n t handed stood i time id o (of_query time id runs small low)))

-- ---- merging a state

-- a join that ignores old events raises no minimum time above t
join-minimum : (t minimum : ℕ) (m : PushPull) (b : Bool) → (b ≡ true → m.event_clock ≤ t) → max minimum (cond b m.event_clock 0) ≤ max t minimum
join-minimum t minimum m true told = omega (arith, told refl)
join-minimum t minimum m false told = omega arith

-- what is known of a track when a state is merged: its minimum time is raised to at most t, and the line of a join
-- contains at most t
record Heard {K : Type 0} (which : TrackOf K) (n t : ℕ) (i : IdealAgent) (m : PushPull) (is_join : Bool) : Type 0 where
  clock : (which.track i).clock ≤ (which.track (joined m is_join i)).clock
  history : (which.track (joined m is_join i)).history ≡ (which.track i).history
  minimum : (which.track (joined m is_join i)).minimum ≤ max t (which.track i).minimum
  last : last_line which.kind (appended_with kinds.Event 0 (Some (min_line kinds.Event m.event_clock)) i.snapshot Kept) ≡ last_line which.kind i.snapshot
  low : (is_join && i.config.ignore_old) ≡ true → i.snapshot.stopped ≡ false → Allows which.kind n t i.snapshot (kept_bytes kinds.Event 0 (min_line kinds.Event m.event_clock) i.snapshot.event_clock)

-- `TakesAt` stays true when a state is merged
hears : {K : Type 0} → BelowHandsOut → (which : TrackOf K) → Lines which → (t : ℕ) (config : Config) (handed stood : List (TimedEntry K)) (i : IdealAgent) (m : PushPull) (is_join : Bool) (w : Writing) → Progress which t config handed stood i → Heard which (which.slots config) t i m is_join
    → MayAct i (Hears m is_join w) → TakesAt which t config handed stood (after i (Hears m is_join w))
hears {K} laws which lines t config handed stood i m is_join w c h may =
    heard i m is_join w (TakesAt which t config handed stood)
    (record { settings = c.stands.settings; opens = follows which.kind n t handed stood (which.track i) i.snapshot (which.track (joined m is_join i)) i.snapshot (record { clock = h.clock; last = refl; history = h.history; minimum = h.minimum; lowest = o.lowest }) o })
    (λ joins runs. stands-as which lines t config handed stood (joined m is_join i) (with_snapshot (appended_with kinds.Event 0 (Some line) i.snapshot Kept) (joined m is_join i)) refl refl c.stands.settings
    (opens-noted which.kind kinds.Event n t handed stood (which.track i) (which.track (joined m is_join i)) i.snapshot 0 line h.clock h.history h.minimum h.last o (h.low joins runs)))
    (λ joins runs durable fails. stands-as which lines t config handed stood i (with_snapshot (written kinds.Event 0 i.snapshot (Failed durable)) i) refl refl c.stands.settings
    (opens-failed laws which.kind n t handed stood (which.track i) i.snapshot kinds.Event 0 (Some line) durable o (h.low joins runs) fails)) may
  where
    n : ℕ
    n = which.slots config

    line : List ℕ
    line = min_line kinds.Event m.event_clock

    o : IsOpenAt which.kind (which.slots config) t handed stood (which.track i) i.snapshot
    o = c.stands.opens

events-heard : BelowHandsOut → (t : ℕ) (config : Config) (handed stood : List (TimedEntry EventBody)) (i : IdealAgent) (m : PushPull) (is_join : Bool) → Progress event_track t config handed stood i → m.event_clock ≤ 2 ^ 64 - 1 → ((is_join && i.config.ignore_old) ≡ true → m.event_clock ≤ t)
    → Heard event_track config.event_buffer t i m is_join
events-heard laws t config handed stood i m is_join c small told = record {
  clock = omega arith;
  history = refl;
  minimum = join-minimum t i.events.minimum m (is_join && i.config.ignore_old) told;
  last = let same : max i.snapshot.event_clock 0 ≡ i.snapshot.event_clock = omega arith in same;
  low = λ joins runs old is.
      let own = tells-own laws m.event_clock i.snapshot.event_clock old small (whole-durable i.snapshot old c.sound.snapshot runs is) in
      let under = told joins in
      omega (arith, own, under, c.stands.opens.lowest old is);
}

queries-heard : BelowHandsOut → (t : ℕ) (config : Config) (handed stood : List (TimedEntry ℕ)) (i : IdealAgent) (m : PushPull) (is_join : Bool) → Progress query_track t config handed stood i → m.event_clock ≤ 2 ^ 64 - 1 → Heard query_track config.query_buffer t i m is_join
queries-heard laws t config handed stood i m is_join c small = record {
  clock = omega arith;
  history = refl;
  minimum = omega arith;
  last = refl;
  low = λ joins runs. allows laws kinds.Query config.query_buffer t handed stood i.queries i.snapshot kinds.Event 0 (min_line kinds.Event m.event_clock) c.sound.snapshot runs c.stands.opens (omega arith) (tells-join laws m.event_clock small);
}

-- ---- a compaction

-- `TakesAt` stays true after a compaction of an agent that keeps events, because of what its lines set for a kind
compacts : {K : Type 0} (which : TrackOf K) → Lines which → (t : ℕ) (config : Config) (handed stood : List (TimedEntry K)) (i : IdealAgent) (w : Writing) → config.keep_events ≡ true → 0 < t → TakesAt which t config handed stood i
    → min_in which.kind (kept_compaction_of (kept_lines (view_of i)) i.snapshot) ≡ max 1 (min_written (which.slots i.config) (last_line which.kind i.snapshot) (which.track i).minimum) → MayAct i (Compacts w) → TakesAt which t config handed stood (after i (Compacts w))
compacts which lines t config handed stood i w on some s is may =
    compacted i w (TakesAt which t config handed stood) s
    (subst (λ (b : Bool). (let text = text_with (cond b (Some (kept_lines (view_of i))) None) i.snapshot in (w : Writing) → MayReplaceBy text i.snapshot w → TakesAt which t config handed stood (with_snapshot (text_replaced text i.snapshot w) i)))
    (keeps-on which t config handed stood i on s) kept) may
  where
    text : List ℕ
    text = kept_compaction_of (kept_lines (view_of i)) i.snapshot

    told : min_in which.kind (kept_compaction_of (kept_lines (view_of i)) i.snapshot) ≡ max 1 (min_written (which.slots config) (last_line which.kind i.snapshot) (which.track i).minimum)
    told = is ∙ ap (λ (x : Config). max 1 (min_written (which.slots x) (last_line which.kind i.snapshot) (which.track i).minimum)) s.settings

    kept : (w : Writing) → MayReplaceBy text i.snapshot w → TakesAt which t config handed stood (with_snapshot (text_replaced text i.snapshot w) i)
    kept w ends = stands-as which lines t config handed stood i (with_snapshot (text_replaced text i.snapshot w) i) refl refl s.settings
        (opens-compacted which.kind (which.slots config) t handed stood (which.track i) i.snapshot text w some told s.opens ends)

-- ---- each act, of either track

-- what an agent whose settings keep events becomes by an opening
abbrev pub Reopens : {K : Type 0} → TrackOf K → Type 0
Reopens {K} which =
    (t : ℕ) (config : Config) (handed stood : List (TimedEntry K)) (i : IdealAgent) (text : List ℕ) (d : Device) → config.keep_events ≡ true → i.config ≡ config → All (λ p. IsMet handed stood p.entry) (which.track i).history
    → min_in which.kind text ≤ max t ((last_clock which.kind text + 1) - which.slots config)
    → TakesAt which t config handed (stood ++ which.kept whatever text) (restarted text (opened text d) i) ⊎ IsFull config.per_time t handed (stood ++ which.kept whatever text)

-- The lemmas that are proved separately for each track.
pub record Acting {K : Type 0} (which : TrackOf K) : Type 0 where
  pub opens : Reopens which
  pub flushed : (i : IdealAgent) (text : List ℕ) → HasFlushed i text → last_line which.kind i.snapshot ≤ last_clock which.kind text
  pub with_settings : (config : Config) (i : IdealAgent) → (which.track (with_config config i)).history ≡ (which.track i).history
  pub noted : (t : ℕ) (config : Config) (handed stood : List (TimedEntry K)) (i : IdealAgent) (a : Act) → config.keep_events ≡ true → Progress which t config handed stood i → IsAppended a → MayAct i a × IsActWritable a → TakesAt which t config (handed ++ which.entered i a) stood (after i a)
  pub heard : (t : ℕ) (config : Config) (handed stood : List (TimedEntry K)) (i : IdealAgent) (m : PushPull) (is_join : Bool) (w : Writing) → Progress which t config handed stood i → MayGoOn i (Hears m is_join w) → which.HearsNoneAbove t i.config m is_join
      → TakesAt which t config handed stood (after i (Hears m is_join w))
  pub compacted : (t : ℕ) (config : Config) (handed stood : List (TimedEntry K)) (i : IdealAgent) (w : Writing) → config.keep_events ≡ true → 0 < t → Progress which t config handed stood i → MayAct i (Compacts w) → TakesAt which t config handed stood (after i (Compacts w))

-- an opening of either track, as `restarted_by` makes it from a text
reopens : {K : Type 0} → BelowHandsOut → (which : TrackOf K) (same : K → K → Bool) → Reading same which.kept
    → ((text : List ℕ) (d : Device) (i : IdealAgent) → which.track (restarted_by true text (opened text d) i) ≡ reopened same which.kept which.kind (which.slots i.config) i.config.per_time (i.life + 1) text (which.track i)) → Reopens which
reopens {K} laws which same reading is t config handed stood i text d on settings known told =
    subst (λ (b : Bool). TakesAt which t config handed all (restarted_by b text (opened text d) i) ⊎ IsFull config.per_time t handed all) (sym (ap (λ (c : Config). c.keep_events) settings ∙ on))
    (elim (subst (λ (track : Track K). IsOpenAt which.kind (which.slots config) t handed all track (opened text d) ⊎ IsFull config.per_time t handed all) (sym (is text d i ∙ settled))
    (opens-opened laws same which.kept reading which.kind (which.slots config) config.per_time t i.life handed stood (which.track i) text d known told)) [
      | inl o ↦ inl (record { settings = settings; opens = o })
      | inr full ↦ inr full
    ])
  where
    all : List (TimedEntry K)
    all = stood ++ which.kept whatever text

    settled : reopened same which.kept which.kind (which.slots i.config) i.config.per_time (i.life + 1) text (which.track i) ≡ reopened same which.kept which.kind (which.slots config) config.per_time (i.life + 1) text (which.track i)
    settled = ap (λ (c : Config). reopened same which.kept which.kind (which.slots c) c.per_time (i.life + 1) text (which.track i)) settings

pub events-acting : BelowHandsOut → Acting event_track
events-acting laws = record {
  opens = reopens laws event_track same_texts (record { tells = tells_texts; stands = events-stand; keeping = laws.kept.durable.events }) (λ text d i. refl);
  flushed = λ i text flushed. flushed.events;
  with_settings = λ config i. refl;
  noted = λ t config handed stood i a on c noted go. acts laws.kept.life.ranged i a (LineAppended event_track event-lines t config handed stood) c.sound (noting laws event_track event-lines t config handed stood i (IsActWritable a) go.1 on c) noted go.0;
  heard = λ t config handed stood i m is_join w c go told. hears laws event_track event-lines t config handed stood i m is_join w c (events-heard laws t config handed stood i m is_join c go.1 told) go.0;
  compacted = λ t config handed stood i w on some c may. compacts event_track event-lines t config handed stood i w on some c.stands (compaction-events laws i c.durable) may;
}

pub queries-acting : BelowHandsOut → Acting query_track
queries-acting laws = record {
  opens = reopens laws query_track same_id (record { tells = tells_ids; stands = queries-stand; keeping = laws.kept.durable.queries }) (λ text d i. refl);
  flushed = λ i text flushed. flushed.queries;
  with_settings = λ config i. refl;
  noted = λ t config handed stood i a on c noted go. acts laws.kept.life.ranged i a (LineAppended query_track query-lines t config handed stood) c.sound (noting laws query_track query-lines t config handed stood i (IsActWritable a) go.1 on c) noted go.0;
  heard = λ t config handed stood i m is_join w c go told. hears laws query_track query-lines t config handed stood i m is_join w c (queries-heard laws t config handed stood i m is_join c go.1) go.0;
  compacted = λ t config handed stood i w on some c may. compacts query_track query-lines t config handed stood i w on some c.stands (compaction-queries laws i c.durable) may;
}

-- which minimum times an opening may set
told-at : {K : Type 0} → (which : TrackOf K) → Acting which → (t : ℕ) (config : Config) (handed stood : List (TimedEntry K)) (i : IdealAgent) (text durable : List ℕ) → TakesAt which t config handed stood i → HasFlushed i text → i.snapshot.durable ≡ Some durable
    → (min_in which.kind text ≤ min_in which.kind durable) ⊎ (min_in which.kind text ≤ t) → min_in which.kind text ≤ max t ((last_clock which.kind text + 1) - which.slots config)
told-at which acting t config handed stood i text durable s flushed is (inl low) = let up = acting.flushed i text flushed in omega (arith, low, s.opens.lowest durable is, up)
told-at which acting t config handed stood i text durable s flushed is (inr low) = omega (arith, low)

abbrev pub Next : {K : Type 0} → TrackOf K → ℕ → Config → List (TimedEntry K) → List (TimedEntry K) → IdealAgent → Act → Type 0
Next which t config handed stood i a = TakesAt which t config (handed ++ which.entered i a) (stood_after which stood a) (after i a) ⊎ IsFull config.per_time t (handed ++ which.entered i a) (stood_after which stood a)

pub stands-after : {K : Type 0} → BelowHandsOut → (which : TrackOf K) → Acting which → (t : ℕ) (config : Config) (handed stood : List (TimedEntry K)) (i : IdealAgent) (a : Act) → config.keep_events ≡ true → 0 < t → Progress which t config handed stood i → MayGoOn i a → KeepsSettings config a → TellsNoneAbove which t i a
    → Next which t config handed stood i a
stands-after laws which acting t config handed stood i (Fires what flag w) on some c go same told = inl (acting.noted t config handed stood i (Fires what flag w) on c tt go)
stands-after laws which acting t config handed stood i (Asks now id name payload params w) on some c go same told = inl (acting.noted t config handed stood i (Asks now id name payload params w) on c tt go)
stands-after laws which acting t config handed stood i (Gets tags now packet w) on some c go same told = inl (acting.noted t config handed stood i (Gets tags now packet w) on c tt go)
stands-after laws which acting t config handed stood i (Takes e w) on some c go same told = inl (acting.noted t config handed stood i (Takes e w) on c tt go)
stands-after laws which acting t config handed stood i (Saves w) on some c go same told = inl (acting.noted t config handed stood i (Saves w) on c tt go)
stands-after laws which acting t config handed stood i (Closes now) on some c go same told = inl (acting.noted t config handed stood i (Closes now) on c tt go)
stands-after laws which acting t config handed stood i (Hears m is_join w) on some c go same told =
    inl (out which t config handed stood (which.entered i (Hears m is_join w)) (after i (Hears m is_join w)) (acting.heard t config handed stood i m is_join w c go told))
stands-after laws which acting t config handed stood i (Compacts w) on some c go same told =
    inl (out which t config handed stood (which.entered i (Compacts w)) (after i (Compacts w)) (acting.compacted t config handed stood i w on some c go.0))
stands-after {K} laws which acting t config handed stood i (Opens next text d) on some c go same told =
    let may = may-go laws.kept i (Opens next text d) c.sound c.durable go in
    let begins = go.1 in
    let low = told-at which acting t config handed stood i text begins.durable c.stands may.0.0 begins.is (told begins.durable begins.is) in
    by (acting.opens t config handed stood (with_config next i) text d on same known low)
  where
    all : List (TimedEntry K)
    all = stood ++ which.kept whatever text

    more : List (TimedEntry K)
    more = which.entered i (Opens next text d)

    known : All (λ (p : Past K). IsMet handed stood p.entry) (which.track (with_config next i)).history
    known = subst (λ (h : List (Past K)). All (λ (p : Past K). IsMet handed stood p.entry) h) (sym (acting.with_settings next i)) c.stands.opens.known

    by : TakesAt which t config handed (stood ++ which.kept whatever text) (after i (Opens next text d)) ⊎ IsFull config.per_time t handed (stood ++ which.kept whatever text) → Next which t config handed stood i (Opens next text d)
    by (inl s) = inl (out which t config handed all more (after i (Opens next text d)) s)
    by (inr f) = inr (full-wider config.per_time t handed all (handed ++ more) all (wider-handed handed more all) f)

-- ---- lives

abbrev Ends : {K : Type 0} → TrackOf K → ℕ → Config → List (TimedEntry K) → List (TimedEntry K) → IdealAgent → Type 0
Ends which t config handed stood i = Progress which t config handed stood i ⊎ IsFull config.per_time t handed stood

-- everything that an act enters, and every text on which it opens, counts as met
wider-after : {K : Type 0} (which : TrackOf K) (handed stood : List (TimedEntry K)) (i : IdealAgent) (a : Act) → Wider handed stood (handed ++ which.entered i a) (stood_after which stood a)
wider-after which handed stood i (Opens config text d) = λ e m. wider-stood (handed ++ which.entered i (Opens config text d)) stood (which.kept whatever text) e (wider-handed handed (which.entered i (Opens config text d)) stood e m)
wider-after which handed stood i (Fires what flag w) = wider-handed handed (which.entered i (Fires what flag w)) stood
wider-after which handed stood i (Asks now id name payload params w) = wider-handed handed (which.entered i (Asks now id name payload params w)) stood
wider-after which handed stood i (Gets tags now packet w) = wider-handed handed (which.entered i (Gets tags now packet w)) stood
wider-after which handed stood i (Hears m is_join w) = wider-handed handed (which.entered i (Hears m is_join w)) stood
wider-after which handed stood i (Takes e w) = wider-handed handed (which.entered i (Takes e w)) stood
wider-after which handed stood i (Saves w) = wider-handed handed (which.entered i (Saves w)) stood
wider-after which handed stood i (Compacts w) = wider-handed handed (which.entered i (Compacts w)) stood
wider-after which handed stood i (Closes now) = wider-handed handed (which.entered i (Closes now)) stood

pub full-lived : {K : Type 0} (which : TrackOf K) (k t : ℕ) (acts : List Act) (handed stood : List (TimedEntry K)) (i : IdealAgent) → IsFull k t handed stood → IsFull k t (entered_in which handed i acts) (stood_in which stood acts)
full-lived which k t [] handed stood i f = f
full-lived which k t (a ∷ rest) handed stood i f =
    full-lived which k t rest (handed ++ which.entered i a) (stood_after which stood a) (after i a) (full-wider k t handed stood (handed ++ which.entered i a) (stood_after which stood a) (wider-after which handed stood i a) f)

pub progress-lived : {K : Type 0} → BelowHandsOut → (which : TrackOf K) → Acting which → (t : ℕ) (config : Config) (acts : List Act) (s : Lived) (handed stood : List (TimedEntry K)) → config.keep_events ≡ true → 0 < t → Progress which t config handed stood s.agent → MayGoOnLives s.agent acts → All (KeepsSettings config) acts
    → TellNoneAbove which t s.agent acts → Ends which t config (entered_in which handed s.agent acts) (stood_in which stood acts) (lived s acts).agent
progress-lived laws which acting t config [] s handed stood on some c go same told = inl c
progress-lived laws which acting t config (a ∷ rest) s handed stood on some c go same told =
    by (stands-after laws which acting t config handed stood s.agent a on some c go.0 (All-head (KeepsSettings config) a rest same) told.0)
    (λ next. progress-lived laws which acting t config rest (acted s a) (handed ++ which.entered s.agent a) (stood_after which stood a) on some next go.1 (All-tail (KeepsSettings config) a rest same) told.1)
  where
    by : Next which t config handed stood s.agent a
        → (Progress which t config (handed ++ which.entered s.agent a) (stood_after which stood a) (after s.agent a) → Ends which t config (entered_in which (handed ++ which.entered s.agent a) (after s.agent a) rest) (stood_in which (stood_after which stood a) rest) (lived (acted s a) rest).agent)
        → Ends which t config (entered_in which (handed ++ which.entered s.agent a) (after s.agent a) rest) (stood_in which (stood_after which stood a) rest) (lived (acted s a) rest).agent
    by (inl stands) more =
        let may = may-go laws.kept s.agent a c.sound c.durable go.0 in
        more (record { sound = (moves laws.kept.life s.agent a c.sound may.0).sound; durable = stays_durable laws.kept s.agent a c.sound c.durable may.0 may.1; stands = stands })
    by (inr full) more = inr (full-lived which config.per_time t rest (handed ++ which.entered s.agent a) (stood_after which stood a) (after s.agent a) full)
