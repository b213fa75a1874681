-- What an agent that keeps its events over a restart doesn't miss: what stays true of its events, and of its queries,
-- at each line, for one time.
use Rattle.serf_agent.proofs.Names.{Bool, List, None, Option, Some, [], ap, append-nil, append_assoc, arith, cond, drop, false, inl, max, nat_le, refl, subst, sym, take, true, ℕ, ◌++◌, ◌-◌, ◌<◌, ◌==◌, ◌^◌, ◌∙◌, ◌∷◌, ◌≡◌, ◌≢◌, ◌≤◌, take-append-drop, All-head, All-push, All-tail, All-weaker, Contains-append_right, All, EventBody, clock_line, is_whole, line_above_zero, sealed, event_line, kept_clock_line, min_in, min_line, query_line, SaysNoClock, kept_bytes, kept_compaction_of, kept_line_above_zero, Failed, IsSnapshotSound, KeepsPart, Kept, MayReplaceBy, SnapshotView, Writing, last_line, noted, text_replaced, written, ClockKind, SlotLaws, TimedEntry, slots_of, IdealAgent, Past, Track, IsMet, AreWritable, held_from, kept_lines, min_written, lines_written, IsDurable, IsIdWritable, IsWritable, line_of_event, IsOpenAt, TakesAt, allowed, MayAppendLine, bytes_with, appended_with, TrackOf, of_life, track_entered, view_of, Config}
use Rattle.serf_snapshot.specs.declared.kind.ClockKind.TheVariants as kinds
use Rattle.serf_agent.proofs.DurableLaws.{replaced-holds}
use Rattle.serf_agent.proofs.KeptCompactionLaws.{only-entered}
use Rattle.serf_agent.proofs.KeptLifeLaws.{BelowKeptLives}
use Rattle.serf_agent.proofs.KeptStepLaws.{grown-durable, some-same}
use Rattle.serf_agent.proofs.MetLaws.{Wider, wider-handed}
use Rattle.serf_agent.proofs.SoundLaws.{last-text, may-part}

-- ---- what the crates below promise

pub record BelowHandsOut : Type 0 where
  pub kept : BelowKeptLives
  pub event_slots : SlotLaws EventBody
  pub query_slots : SlotLaws ℕ
  pub min_event : (k : ClockKind) (text : List ℕ) (t : ℕ) (name payload : List ℕ) → is_whole text ≡ true → t < 2 ^ 64 - 1 → min_in k (text ++ event_line t name payload) ≡ min_in k text
  pub min_query : (k : ClockKind) (text : List ℕ) (t id : ℕ) → is_whole text ≡ true → t < 2 ^ 64 - 1 → id < 2 ^ 32 → min_in k (text ++ query_line t id) ≡ min_in k text
  pub min_own : (k : ClockKind) (text : List ℕ) (t : ℕ) → is_whole text ≡ true → t ≤ 2 ^ 64 - 1 → min_in k (text ++ min_line k t) ≡ max (min_in k text) t
  pub min_other : (k j : ClockKind) (text : List ℕ) (t : ℕ) → is_whole text ≡ true → t ≤ 2 ^ 64 - 1 → k ≢ j → min_in k (text ++ min_line j t) ≡ min_in k text
  pub min_kept_clock : (k j : ClockKind) (text : List ℕ) (t : ℕ) → is_whole text ≡ true → t < 2 ^ 64 - 1 → min_in k (text ++ kept_clock_line j t) ≡ min_in k text
  pub min_other_clock : (k j : ClockKind) (text : List ℕ) (t : ℕ) → is_whole text ≡ true → k ≢ j → min_in k (text ++ clock_line j t) ≡ min_in k text
  pub min_sealed : (k : ClockKind) (text : List ℕ) → min_in k (sealed text) ≡ min_in k text
  pub event_whole : (t : ℕ) (name payload : List ℕ) → SaysNoClock (event_line t name payload)
  pub query_whole : (t id : ℕ) → SaysNoClock (query_line t id)
  pub min_whole : (k : ClockKind) (t : ℕ) → SaysNoClock (min_line k t)
  pub whole : (text line : List ℕ) → is_whole text ≡ true → is_whole line ≡ true → is_whole (text ++ line) ≡ true
  pub clock_whole : (k : ClockKind) (text : List ℕ) (t : ℕ) → is_whole (text ++ clock_line k t) ≡ true
  pub kept_clock_whole : (k : ClockKind) (text : List ℕ) (t : ℕ) → is_whole (text ++ kept_clock_line k t) ≡ true

pub event-no_member : (kinds.Event ≡ kinds.Member) → ⊥
event-no_member e = absurd (cc e)

event-no_query : (kinds.Event ≡ kinds.Query) → ⊥
event-no_query e = absurd (cc e)

pub query-no_member : (kinds.Query ≡ kinds.Member) → ⊥
query-no_member e = absurd (cc e)

query-no_event : (kinds.Query ≡ kinds.Event) → ⊥
query-no_event e = absurd (cc e)

-- ---- what stays true of a track (specs/Taking.antt)

pub opens-wider : {K : Type 0} (kind : ClockKind) (n t : ℕ) (handed stood handed_more stood_more : List (TimedEntry K)) (track : Track K) (s : SnapshotView) → Wider handed stood handed_more stood_more → IsOpenAt kind n t handed stood track s → IsOpenAt kind n t handed_more stood_more track s
opens-wider {K} kind n t handed stood handed_more stood_more track s wider o = record {
  last = o.last;
  known = All-weaker (λ (p : Past K). IsMet handed stood p.entry) (λ (p : Past K). IsMet handed_more stood_more p.entry) (λ p m. wider p.entry m) track.history o.known;
  minimum = o.minimum;
  lowest = o.lowest;
}

pub stands-wider : {K : Type 0} (which : TrackOf K) (t : ℕ) (config : Config) (handed stood handed_more stood_more : List (TimedEntry K)) (i : IdealAgent) → Wider handed stood handed_more stood_more → TakesAt which t config handed stood i → TakesAt which t config handed_more stood_more i
stands-wider which t config handed stood handed_more stood_more i wider s = record {
  settings = s.settings;
  opens = opens-wider which.kind (which.slots config) t handed stood handed_more stood_more (which.track i) i.snapshot wider s.opens;
}

-- a track continues with its history: its clock doesn't fall, and neither its minimum time nor that of the durable text
-- is raised above t
pub record Follows {K : Type 0} (kind : ClockKind) (n t : ℕ) (track : Track K) (s : SnapshotView) (next : Track K) (u : SnapshotView) : Type 0 where
  pub clock : track.clock ≤ next.clock
  pub last : last_line kind u ≡ last_line kind s
  pub history : next.history ≡ track.history
  pub minimum : next.minimum ≤ max t track.minimum
  pub lowest : (new : List ℕ) → u.durable ≡ Some new → min_in kind new ≤ allowed kind n t s

pub follows : {K : Type 0} (kind : ClockKind) (n t : ℕ) (handed stood : List (TimedEntry K)) (track : Track K) (s : SnapshotView) (next : Track K) (u : SnapshotView) → Follows kind n t track s next u → IsOpenAt kind n t handed stood track s → IsOpenAt kind n t handed stood next u
follows {K} kind n t handed stood track s next u f o = record {
  last = omega (arith, f.last, f.clock, o.last);
  known = subst (λ (l : List (Past K)). All (λ (p : Past K). IsMet handed stood p.entry) l) (sym f.history) o.known;
  minimum = omega (arith, f.minimum, f.last, o.minimum);
  lowest = λ new at. let low = f.lowest new at in omega (arith, low, f.last);
}

-- ---- lines

-- a line that sets no minimum time of this kind
abbrev pub TellsNone : ClockKind → List ℕ → Type 0
TellsNone kind line = (text : List ℕ) → is_whole text ≡ true → min_in kind (text ++ line) ≡ min_in kind text

tells-append_line : BelowHandsOut → (k kind : ClockKind) (t last : ℕ) (line old : List ℕ) → t < 2 ^ 64 - 1 → TellsNone k line → is_whole old ≡ true → min_in k (old ++ kept_bytes kind t line last) ≡ min_in k old
tells-append_line laws k kind t last line old small none whole = by (nat_le t last)
  where
    by : (b : Bool) → min_in k (old ++ (cond b [] (kept_clock_line kind t) ++ line)) ≡ min_in k old
    by true = none old whole
    by false =
        ap (min_in k) (sym (append_assoc old (kept_clock_line kind t) line))
        ∙ none (old ++ kept_clock_line kind t) (laws.kept_clock_whole kind old t)
        ∙ laws.min_kept_clock k kind old t whole small

pub tells-event : BelowHandsOut → (k : ClockKind) (t : ℕ) (what : EventBody) → t < 2 ^ 64 - 1 → TellsNone k (line_of_event t what)
tells-event laws k t what small = λ text whole. laws.min_event k text t what.name what.payload whole small

pub tells-query : BelowHandsOut → (k : ClockKind) (t id : ℕ) → t < 2 ^ 64 - 1 → id < 2 ^ 32 → TellsNone k (query_line t id)
tells-query laws k t id small low = λ text whole. laws.min_query k text t id whole small low

-- if only a part of some bytes is kept, the minimum time of the text is no larger than with all of them
part-lowest : BelowHandsOut → (k : ClockKind) (s durable : Option (List ℕ)) (bytes new : List ℕ) (bound : ℕ) → ((old : List ℕ) → s ≡ Some old → min_in k (old ++ bytes) ≤ bound) → KeepsPart s bytes durable → durable ≡ Some new → min_in k new ≤ bound
part-lowest laws k None durable bytes new bound all part at = absurd (let none : durable ≡ None = part in cc)
part-lowest laws k (Some old) None bytes new bound all part at = absurd (cc at)
part-lowest laws k (Some old) (Some kept) bytes new bound all part at =
    let n : ℕ = part.0 in
    let is : new ≡ old ++ take part.0 bytes = sym (some-same kept new at) ∙ part.1 in
    let whole : (old ++ take part.0 bytes) ++ drop part.0 bytes ≡ old ++ bytes = append_assoc old (take part.0 bytes) (drop part.0 bytes) ∙ ap (λ (l : List ℕ). old ++ l) (take-append-drop part.0 bytes) in
    let up : min_in k (old ++ take part.0 bytes) ≤ min_in k ((old ++ take part.0 bytes) ++ drop part.0 bytes) = laws.kept.durable.min_grows k (old ++ take part.0 bytes) (drop part.0 bytes) in
    let first : min_in k new ≡ min_in k (old ++ take part.0 bytes) = ap (min_in k) is in
    let last : min_in k ((old ++ take part.0 bytes) ++ drop part.0 bytes) ≡ min_in k (old ++ bytes) = ap (min_in k) whole in
    omega (arith, up, first, last, all old refl)

-- with these bytes appended, the minimum time of the durable text is still allowed
abbrev pub Allows : ClockKind → ℕ → ℕ → SnapshotView → List ℕ → Type 0
Allows k n t s bytes = (old : List ℕ) → s.durable ≡ Some old → min_in k (old ++ bytes) ≤ allowed k n t s

-- `IsOpenAt` stays true if the sink fails when a line is appended
pub opens-failed : {K : Type 0} → BelowHandsOut → (k : ClockKind) (n t : ℕ) (handed stood : List (TimedEntry K)) (track : Track K) (s : SnapshotView) (kind : ClockKind) (time : ℕ) (line durable : Option (List ℕ)) → IsOpenAt k n t handed stood track s
    → Allows k n t s (bytes_with kind time line s) → MayAppendLine kind time line s (Failed durable) → IsOpenAt k n t handed stood track (written kind time s (Failed durable))
opens-failed laws k n t handed stood track s kind time line durable o all may = follows k n t handed stood track s track (written kind time s (Failed durable)) (record {
  clock = omega arith;
  last = refl;
  history = refl;
  minimum = omega arith;
  lowest = λ new at. part-lowest laws k s.durable durable (bytes_with kind time line s) new (allowed k n t s) all (may-part kind s time line durable may) at;
}) o

-- the durable text of an agent that runs is whole
pub whole-durable : (s : SnapshotView) (old : List ℕ) → IsSnapshotSound s → s.stopped ≡ false → s.durable ≡ Some old → is_whole old ≡ true
whole-durable s old sound runs is = (sound old is).whole runs

-- a line that sets no minimum time may be appended, as `Allows` states it
pub allows : {K : Type 0} → BelowHandsOut → (k : ClockKind) (n t : ℕ) (handed stood : List (TimedEntry K)) (track : Track K) (s : SnapshotView) (kind : ClockKind) (time : ℕ) (line : List ℕ) → IsSnapshotSound s → s.stopped ≡ false → IsOpenAt k n t handed stood track s → time < 2 ^ 64 - 1 → TellsNone k line
    → Allows k n t s (kept_bytes kind time line (last_line kind s))
allows laws k n t handed stood track s kind time line sound runs o small none old is =
    let same = tells-append_line laws k kind time (last_line kind s) line old small none (whole-durable s old sound runs is) in
    omega (arith, same, o.lowest old is)

-- the minimum time of the durable text is allowed after the line is kept
kept-lowest : (k kind : ClockKind) (n t : ℕ) (s : SnapshotView) (time : ℕ) (line new : List ℕ) → Allows k n t s (kept_bytes kind time line (last_line kind s)) → (appended_with kind time (Some line) s Kept).durable ≡ Some new → min_in k new ≤ allowed k n t s
kept-lowest k kind n t s time line new all at =
    let g = grown-durable s.durable (kept_bytes kind time line (last_line kind s)) new at in
    let same : min_in k (g.0 ++ kept_bytes kind time line (last_line kind s)) ≡ min_in k new = ap (min_in k) g.2 in
    omega (arith, all g.0 g.1, same)

-- ---- what is appended

-- `IsOpenAt` stays true if an entry enters with its line
pub opens-entered : {K : Type 0} (k : ClockKind) (n t : ℕ) (handed stood : List (TimedEntry K)) (track : Track K) (s : SnapshotView) (life time : ℕ) (what : K) (line : List ℕ) → last_line k (appended_with k time (Some line) s Kept) ≡ max (last_line k s) time → IsOpenAt k n t handed stood track s
    → Allows k n t s (kept_bytes k time line (last_line k s)) → IsOpenAt k n t (handed ++ record { time = time; key = what } ∷ []) stood (track_entered life time what track) (appended_with k time (Some line) s Kept)
opens-entered {K} k n t handed stood track s life time what line last o all = record {
  last = omega (arith, o.last, last);
  known = All-push (λ (p : Past K). IsMet (handed ++ e ∷ []) stood p.entry) track.history (record { life = life; entry = e })
      (All-weaker (λ (p : Past K). IsMet handed stood p.entry) (λ (p : Past K). IsMet (handed ++ e ∷ []) stood p.entry) (λ p m. wider-handed handed (e ∷ []) stood p.entry m) track.history o.known)
      (inl (Contains-append_right handed (e ∷ []) e (0, omega arith, refl)));
  minimum = omega (arith, o.minimum, last);
  lowest = λ new at. let low = kept-lowest k k n t s time line new all at in omega (arith, low, last);
}
  where
    e : TimedEntry K
    e = record { time = time; key = what }

-- `IsOpenAt` stays true if a line is appended with which nothing enters this track
pub opens-noted : {K : Type 0} (k kind : ClockKind) (n t : ℕ) (handed stood : List (TimedEntry K)) (track next : Track K) (s : SnapshotView) (time : ℕ) (line : List ℕ) → track.clock ≤ next.clock → next.history ≡ track.history → next.minimum ≤ max t track.minimum
    → last_line k (appended_with kind time (Some line) s Kept) ≡ last_line k s → IsOpenAt k n t handed stood track s → Allows k n t s (kept_bytes kind time line (last_line kind s)) → IsOpenAt k n t handed stood next (appended_with kind time (Some line) s Kept)
opens-noted k kind n t handed stood track next s time line clock history minimum last o all =
    follows k n t handed stood track s next (appended_with kind time (Some line) s Kept) (record { clock = clock; last = last; history = history; minimum = minimum; lowest = λ new at. kept-lowest k kind n t s time line new all at }) o

-- `IsOpenAt` stays true if the member clock's line is appended
pub opens-saved : {K : Type 0} → BelowHandsOut → (k : ClockKind) (n t : ℕ) (handed stood : List (TimedEntry K)) (track : Track K) (s : SnapshotView) (time : ℕ) → k ≢ kinds.Member → last_line k (noted kinds.Member time s Kept) ≡ last_line k s → IsSnapshotSound s → s.stopped ≡ false → IsOpenAt k n t handed stood track s
    → IsOpenAt k n t handed stood track (noted kinds.Member time s Kept)
opens-saved laws k n t handed stood track s time other last sound runs o = follows k n t handed stood track s track (noted kinds.Member time s Kept) (record {
  clock = omega arith;
  last = last;
  history = refl;
  minimum = omega arith;
  lowest = by (nat_le time s.member_clock);
}) o
  where
    by : (b : Bool) (new : List ℕ) → (cond b s (written kinds.Member time s Kept)).durable ≡ Some new → min_in k new ≤ allowed k n t s
    by true new at = o.lowest new at
    by false new at =
        let g = grown-durable s.durable (clock_line kinds.Member time) new at in
        let none = laws.min_other_clock k kinds.Member g.0 time (whole-durable s g.0 sound runs g.1) other in
        let same : min_in k (g.0 ++ clock_line kinds.Member time) ≡ min_in k new = ap (min_in k) g.2 in
        omega (arith, none, same, o.lowest g.0 g.1)

pub allows-saved : {K : Type 0} → BelowHandsOut → (k : ClockKind) (n t : ℕ) (handed stood : List (TimedEntry K)) (track : Track K) (s : SnapshotView) (time : ℕ) → k ≢ kinds.Member → IsSnapshotSound s → s.stopped ≡ false → IsOpenAt k n t handed stood track s → Allows k n t s (clock_line kinds.Member time)
allows-saved laws k n t handed stood track s time other sound runs o = λ old is. let none = laws.min_other_clock k kinds.Member old time (whole-durable s old sound runs is) other in omega (arith, none, o.lowest old is)

-- ---- the line of a join

-- the line of a join sets its own minimum time of events
pub tells-own : BelowHandsOut → (lowest last : ℕ) (old : List ℕ) → lowest ≤ 2 ^ 64 - 1 → is_whole old ≡ true → min_in kinds.Event (old ++ kept_bytes kinds.Event 0 (min_line kinds.Event lowest) last) ≡ max (min_in kinds.Event old) lowest
tells-own laws lowest last old small whole = by (nat_le 0 last)
  where
    by : (b : Bool) → min_in kinds.Event (old ++ (cond b [] (kept_clock_line kinds.Event 0) ++ min_line kinds.Event lowest)) ≡ max (min_in kinds.Event old) lowest
    by true = laws.min_own kinds.Event old lowest whole small
    by false =
        let front = laws.min_kept_clock kinds.Event kinds.Event old 0 whole (omega arith) in
        ap (min_in kinds.Event) (sym (append_assoc old (kept_clock_line kinds.Event 0) (min_line kinds.Event lowest)))
        ∙ laws.min_own kinds.Event (old ++ kept_clock_line kinds.Event 0) lowest (laws.kept_clock_whole kinds.Event old 0) small
        ∙ ap (λ (x : ℕ). max x lowest) front

-- the line of a join sets no minimum time of queries
pub tells-join : BelowHandsOut → (lowest : ℕ) → lowest ≤ 2 ^ 64 - 1 → TellsNone kinds.Query (min_line kinds.Event lowest)
tells-join laws lowest small = λ text whole. laws.min_other kinds.Query kinds.Event text lowest whole small query-no_event

-- ---- a compaction

-- the line of an entry sets no minimum time of this kind, and it is whole
abbrev Written : {K : Type 0} → ClockKind → (ℕ → K → List ℕ) → TimedEntry K → Type 0
Written k line e = TellsNone k (line e.time e.key) × (is_whole (line e.time e.key) ≡ true)

told-lines : {K : Type 0} → BelowHandsOut → (k : ClockKind) (line : ℕ → K → List ℕ) (es : List (TimedEntry K)) (text : List ℕ) → is_whole text ≡ true → All (Written k line) es
    → (min_in k (text ++ lines_written line es) ≡ min_in k text) × (is_whole (text ++ lines_written line es) ≡ true)
told-lines {K} laws k line [] text whole told = (ap (min_in k) (append-nil text), ap is_whole (append-nil text) ∙ whole)
told-lines {K} laws k line (e ∷ es) text whole told =
    let one = All-head (Written k line) e es told in
    let joined : (text ++ line e.time e.key) ++ lines_written line es ≡ text ++ lines_written line (e ∷ es) = append_assoc text (line e.time e.key) (lines_written line es) in
    let rest = told-lines laws k line es (text ++ line e.time e.key) (laws.whole text (line e.time e.key) whole one.1) (All-tail (Written k line) e es told) in
    (ap (min_in k) (sym joined) ∙ rest.0 ∙ one.0 text whole, ap is_whole (sym joined) ∙ rest.1)

-- each line of what the slots of a track hold has the property `Written`
held-told : {K : Type 0} (k : ClockKind) (line : ℕ → K → List ℕ) (Is : K → Type 0) → SlotLaws K → ((t : ℕ) (what : K) → t < 2 ^ 64 - 1 → Is what → Written k line (record { time = t; key = what })) → (n life lowest : ℕ) (history : List (Past K)) → AreWritable Is history
    → All (Written k line) (held_from lowest (slots_of n (of_life life history)))
held-told {K} k line Is slots each n life lowest history told = only-entered slots n life lowest history (Written k line) (λ at d inside. let h = told at d inside in each _ _ h.1 h.2)

-- the clock lines at the end of a text set no minimum time
following-lowest : BelowHandsOut → (k : ClockKind) (text : List ℕ) (m e q : ℕ) → k ≢ kinds.Member → is_whole text ≡ true → e < 2 ^ 64 - 1 → q < 2 ^ 64 - 1
    → min_in k (((text ++ line_above_zero kinds.Member m) ++ kept_line_above_zero kinds.Event e) ++ kept_line_above_zero kinds.Query q) ≡ min_in k text
following-lowest laws k text m e q other whole small_e small_q =
    let first = member (m == 0) in
    let second = kept kinds.Event e (text ++ line_above_zero kinds.Member m) (e == 0) first.1 small_e in
    let third = kept kinds.Query q ((text ++ line_above_zero kinds.Member m) ++ kept_line_above_zero kinds.Event e) (q == 0) second.1 small_q in
    third.0 ∙ second.0 ∙ first.0
  where
    member : (b : Bool) → (min_in k (text ++ cond b [] (clock_line kinds.Member m)) ≡ min_in k text) × (is_whole (text ++ cond b [] (clock_line kinds.Member m)) ≡ true)
    member true = (ap (min_in k) (append-nil text), ap is_whole (append-nil text) ∙ whole)
    member false = (laws.min_other_clock k kinds.Member text m whole other, laws.clock_whole kinds.Member text m)

    kept : (j : ClockKind) (t : ℕ) (front : List ℕ) (b : Bool) → is_whole front ≡ true → t < 2 ^ 64 - 1
        → (min_in k (front ++ cond b [] (kept_clock_line j t)) ≡ min_in k front) × (is_whole (front ++ cond b [] (kept_clock_line j t)) ≡ true)
    kept j t front true w small = (ap (min_in k) (append-nil front), ap is_whole (append-nil front) ∙ w)
    kept j t front false w small = (laws.min_kept_clock k j front t w small, laws.kept_clock_whole j front t)

-- the minimum time of a kind that a compaction writes
abbrev min_of : ClockKind → IdealAgent → ℕ
min_of kinds.Member i = 0
min_of kinds.Event i = min_written i.config.event_buffer i.snapshot.event_clock i.events.minimum
min_of kinds.Query i = min_written i.config.query_buffer i.snapshot.query_clock i.queries.minimum

-- what the two lines of minimum times set for a kind, before the second line and after it
record LinesTell (k : ClockKind) (i : IdealAgent) : Type 0 where
  first : ℕ
  one : min_in k (min_line kinds.Event (min_written i.config.event_buffer i.snapshot.event_clock i.events.minimum)) ≡ first
  two : (text : List ℕ) → is_whole text ≡ true → min_in k text ≡ first → min_in k (text ++ min_line kinds.Query (min_written i.config.query_buffer i.snapshot.query_clock i.queries.minimum)) ≡ max 1 (min_of k i)

compaction-lowest : BelowHandsOut → (k : ClockKind) (i : IdealAgent) → k ≢ kinds.Member → IsDurable i → LinesTell k i → min_in k (kept_compaction_of (kept_lines (view_of i)) i.snapshot) ≡ max 1 (min_of k i)
compaction-lowest laws k i other h tell =
    let lowest : ℕ = min_written i.config.event_buffer i.snapshot.event_clock i.events.minimum in
    let min_query : ℕ = min_written i.config.query_buffer i.snapshot.query_clock i.queries.minimum in
    let held : List (TimedEntry EventBody) = held_from lowest (slots_of i.config.event_buffer (of_life i.life i.events.history)) in
    let held_queries : List (TimedEntry ℕ) = held_from min_query (slots_of i.config.query_buffer (of_life i.life i.queries.history)) in
    let events = told-lines laws k line_of_event held (min_line kinds.Event lowest) (laws.min_whole kinds.Event lowest).whole (held-told k line_of_event IsWritable laws.event_slots (λ t what small is. (tells-event laws k t what small, (laws.event_whole t what.name what.payload).whole)) i.config.event_buffer i.life lowest i.events.history h.events_written) in
    let ev : List ℕ = min_line kinds.Event lowest ++ lines_written line_of_event held in
    let own : min_in k (ev ++ min_line kinds.Query min_query) ≡ max 1 (min_of k i) = tell.two ev events.1 (events.0 ∙ tell.one) in
    let whole : is_whole (ev ++ min_line kinds.Query min_query) ≡ true = laws.whole ev (min_line kinds.Query min_query) events.1 (laws.min_whole kinds.Query min_query).whole in
    let queries = told-lines laws k query_line held_queries (ev ++ min_line kinds.Query min_query) whole (held-told k query_line IsIdWritable laws.query_slots (λ t id small low. (tells-query laws k t id small low, (laws.query_whole t id).whole)) i.config.query_buffer i.life min_query i.queries.history h.queries_written) in
    let joined : (ev ++ min_line kinds.Query min_query) ++ lines_written query_line held_queries ≡ kept_lines (view_of i) = append_assoc ev (min_line kinds.Query min_query) (lines_written query_line held_queries) in
    let lines : min_in k (kept_lines (view_of i)) ≡ max 1 (min_of k i) = ap (min_in k) (sym joined) ∙ queries.0 ∙ own in
    following-lowest laws k (kept_lines (view_of i)) i.snapshot.member_clock i.snapshot.event_clock i.snapshot.query_clock other (ap is_whole (sym joined) ∙ queries.1) h.times.event_clock h.times.query_clock ∙ lines

pub compaction-events : BelowHandsOut → (i : IdealAgent) → IsDurable i → min_in kinds.Event (kept_compaction_of (kept_lines (view_of i)) i.snapshot) ≡ max 1 (min_written i.config.event_buffer i.snapshot.event_clock i.events.minimum)
compaction-events laws i h =
    let lowest : ℕ = min_written i.config.event_buffer i.snapshot.event_clock i.events.minimum in
    let min_query : ℕ = min_written i.config.query_buffer i.snapshot.query_clock i.queries.minimum in
    let bound : lowest ≤ 2 ^ 64 - 1 = omega (arith, h.events_min.1, h.times.event_clock) in
    let bound_query : min_query ≤ 2 ^ 64 - 1 = omega (arith, h.queries_min.1, h.times.query_clock) in
    compaction-lowest laws kinds.Event i event-no_member h (record {
      first = max 1 lowest;
      one = laws.min_own kinds.Event [] lowest refl bound;
      two = λ text whole is. laws.min_other kinds.Event kinds.Query text min_query whole bound_query event-no_query ∙ is;
    })

pub compaction-queries : BelowHandsOut → (i : IdealAgent) → IsDurable i → min_in kinds.Query (kept_compaction_of (kept_lines (view_of i)) i.snapshot) ≡ max 1 (min_written i.config.query_buffer i.snapshot.query_clock i.queries.minimum)
compaction-queries laws i h =
    let lowest : ℕ = min_written i.config.event_buffer i.snapshot.event_clock i.events.minimum in
    let min_query : ℕ = min_written i.config.query_buffer i.snapshot.query_clock i.queries.minimum in
    let bound : lowest ≤ 2 ^ 64 - 1 = omega (arith, h.events_min.1, h.times.event_clock) in
    let bound_query : min_query ≤ 2 ^ 64 - 1 = omega (arith, h.queries_min.1, h.times.query_clock) in
    compaction-lowest laws kinds.Query i query-no_member h (record {
      first = 1;
      one = laws.min_other kinds.Query kinds.Event [] lowest refl bound query-no_event;
      two = λ text whole is. laws.min_own kinds.Query text min_query whole bound_query ∙ ap (λ (x : ℕ). max x min_query) is;
    })

pub opens-compacted : {K : Type 0} (k : ClockKind) (n t : ℕ) (handed stood : List (TimedEntry K)) (track : Track K) (s : SnapshotView) (text : List ℕ) (w : Writing) → 0 < t → min_in k text ≡ max 1 (min_written n (last_line k s) track.minimum) → IsOpenAt k n t handed stood track s → MayReplaceBy text s w
    → IsOpenAt k n t handed stood track (text_replaced text s w)
opens-compacted {K} k n t handed stood track s text w some is o may = follows k n t handed stood track s track (text_replaced text s w) (record {
  clock = omega arith;
  last = last-text k text s w;
  history = refl;
  minimum = omega arith;
  lowest = λ new at. replaced-holds (λ (x : List ℕ). min_in k x ≤ allowed k n t s) text new s w may at o.lowest low;
}) o
  where
    low : min_in k text ≤ allowed k n t s
    low = omega (arith, is, some, o.minimum)
