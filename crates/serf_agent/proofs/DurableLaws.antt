-- What each change of an agent leaves in the durable text, in a life with the setting that keeps events or without it.
use Rattle.serf_agent.proofs.Names.{Bool, List, None, Option, Some, [], arith, cond, false, inl, inr, max, nat_le, refl, subst, sym, true, ℕ, ◌++◌, ◌+◌, ◌-◌, ◌<◌, ◌^◌, ◌∙◌, ◌≡◌, ◌≤◌, ◌⊎◌, true≢false, All-map, All-push, All-weaker, option_map, All, AreBytes, EventBody, last_clock, sealed, Device, Observable, events_in, min_in, queries_in, query_line, AreTimes, Failed, KeepsEither, Kept, MayReplaceBy, SnapshotView, Writing, compaction_of, last_line, opened, text_replaced, with_line, written, EntryFilter, ClockKind, same_id, RecallLaws, same_texts, TimedEntry, event_entered, texts_len, written_event, IdealAgent, Past, with_snapshot, KeepingLaws, opened_clock, taken_back, KeptRestartLaws, AreWritable, CompactionLaws, kept_lines, IsDurable, IsMin, HasKept, IsKeptSound, events_reached, queries_reached, KeptAppendLineLaws, AreKept, IsIdShort, IsIdWritable, IsShort, IsWritable, KeptEventLaws, KeptQueryLaws, event_entry, kept_events, kept_queries, line_of_event, query_entry, within_reach, query_entered, written_query, restarted, restarted_by, IsSound, written_lines, MayAppendLine, appended_with, text_with, HasSaid, IsSaid, IsSaidSound, UnkeptLaws, view_of}
use Rattle.serf_snapshot.specs.declared.kind.ClockKind.TheVariants as kinds
use Rattle.serf_agent.proofs.ConfigLaws.{buffers-sound}
use Rattle.serf_agent.proofs.KeptRestartLaws.{among}
use Rattle.serf_agent.proofs.KeptStepLaws.{GrowsTo, failed-grows, some-same}
use Rattle.serf_agent.proofs.SoundLaws.{last-text}

-- ---- what the crates below promise, and the laws of this one

pub record BelowDurable : Type 0 where
  pub steps : KeptAppendLineLaws
  pub unkept : UnkeptLaws
  pub compactions : CompactionLaws
  pub restart : KeptRestartLaws
  pub events : KeepingLaws EventBody same_texts
  pub queries : KeepingLaws ℕ same_id
  pub recalled_events : RecallLaws EventBody
  pub recalled_queries : RecallLaws ℕ
  pub event_texts : KeptEventLaws
  pub query_texts : KeptQueryLaws
  pub min_grows : (k : ClockKind) (front tail : List ℕ) → min_in k front ≤ min_in k (front ++ tail)
  pub times : (k : ClockKind) (text : List ℕ) → last_clock k text < 2 ^ 64 - 1
  pub events_read : (w : EntryFilter) (text : List ℕ) → All (λ e. (0 < e.time) × (e.time < 2 ^ 64 - 1) × AreBytes e.name × AreBytes e.payload) (events_in w text)
  pub queries_read : (w : EntryFilter) (text : List ℕ) → All (λ q. (0 < q.time) × (q.time < 2 ^ 64 - 1) × (q.id < 2 ^ 32)) (queries_in w text)
  pub min_read : (k : ClockKind) (text : List ℕ) → (1 ≤ min_in k text) × (min_in k text ≤ 2 ^ 64 - 1)

-- ---- the last lines are times

times-line : (kind : ClockKind) (t : ℕ) (s : SnapshotView) → AreTimes s → t < 2 ^ 64 - 1 → AreTimes (with_line kind t s)
times-line kinds.Member t s h small = record { member_clock = small; event_clock = h.event_clock; query_clock = h.query_clock }
times-line kinds.Event t s h small = record { member_clock = h.member_clock; event_clock = small; query_clock = h.query_clock }
times-line kinds.Query t s h small = record { member_clock = h.member_clock; event_clock = h.event_clock; query_clock = small }

times-last : (kind : ClockKind) (s : SnapshotView) → AreTimes s → last_line kind s < 2 ^ 64 - 1
times-last kinds.Member s h = h.member_clock
times-last kinds.Event s h = h.event_clock
times-last kinds.Query s h = h.query_clock

pub times-noted : (kind : ClockKind) (t : ℕ) (line : Option (List ℕ)) (s : SnapshotView) → AreTimes s → t < 2 ^ 64 - 1 → AreTimes (appended_with kind t line s Kept)
times-noted kind t None s h small = by (nat_le t (last_line kind s))
  where
    by : (b : Bool) → AreTimes (cond b s (written kind t s Kept))
    by true = h
    by false = let with = times-line kind t s h small in record { member_clock = with.member_clock; event_clock = with.event_clock; query_clock = with.query_clock }
times-noted kind t (Some line) s h small =
    let last = times-last kind s h in
    let with = times-line kind (max (last_line kind s) t) s h (omega (arith, last, small)) in
    record { member_clock = with.member_clock; event_clock = with.event_clock; query_clock = with.query_clock }

-- ---- nothing enters

-- An agent keeps what it has entered: its minimum times don't fall, and the durable text is the same or longer.
pub record Carries (i j : IdealAgent) : Type 0 where
  pub keeps : j.config.keep_events ≡ i.config.keep_events
  pub events : j.events.history ≡ i.events.history
  pub queries : j.queries.history ≡ i.queries.history
  pub events_up : i.events.minimum ≤ j.events.minimum
  pub queries_up : i.queries.minimum ≤ j.queries.minimum
  pub events_low : j.events.minimum ≤ 2 ^ 64 - 1
  pub queries_low : j.queries.minimum ≤ 2 ^ 64 - 1
  pub last_event : j.snapshot.event_clock ≡ i.snapshot.event_clock
  pub last_query : j.snapshot.query_clock ≡ i.snapshot.query_clock
  pub times : AreTimes j.snapshot
  pub durable : GrowsTo i.snapshot.durable j.snapshot.durable

has-kept : BelowDurable → (i j : IdealAgent) (old more : List ℕ) → Carries i j → HasKept i old → HasKept j (old ++ more)
has-kept laws i j old more c had = record {
  events = subst (λ (l : List (Past EventBody)). AreKept kinds.Event kept_events l (old ++ more)) (sym c.events) (laws.event_texts.grows i.events.history old more had.events);
  queries = subst (λ (l : List (Past ℕ)). AreKept kinds.Query kept_queries l (old ++ more)) (sym c.queries) (laws.query_texts.grows i.queries.history old more had.queries);
}

said-on : BelowDurable → (kind : ClockKind) (minimum up last next : ℕ) (old more : List ℕ) → minimum ≤ up → next ≡ last → IsSaid kind minimum last old → IsSaid kind up next (old ++ more)
said-on laws kind minimum up last next old more higher same (inl low) = inl (omega (arith, higher, same, low))
said-on laws kind minimum up last next old more higher same (inr said) = inr (omega (arith, same, said, laws.min_grows kind old more))

has-said : BelowDurable → (i j : IdealAgent) (old more : List ℕ) → Carries i j → HasSaid i old → HasSaid j (old ++ more)
has-said laws i j old more c had = record {
  kept = has-kept laws i j old more c had.kept;
  events = said-on laws kinds.Event i.events.minimum j.events.minimum i.snapshot.event_clock j.snapshot.event_clock old more c.events_up c.last_event had.events;
  queries = said-on laws kinds.Query i.queries.minimum j.queries.minimum i.snapshot.query_clock j.snapshot.query_clock old more c.queries_up c.last_query had.queries;
}

pub carried : BelowDurable → (i j : IdealAgent) → Carries i j → IsDurable i → IsDurable j
carried laws i j c h = record {
  kept = λ new at. let d = c.durable new at in subst (HasKept j) d.3 (has-kept laws i j d.0 d.1 c (h.kept d.0 d.2));
  said = λ off new at. let d = c.durable new at in subst (HasSaid j) d.3 (has-said laws i j d.0 d.1 c (h.said (sym c.keeps ∙ off) d.0 d.2));
  times = c.times;
  events_written = subst (λ (l : List (Past EventBody)). AreWritable IsWritable l) (sym c.events) h.events_written;
  queries_written = subst (λ (l : List (Past ℕ)). AreWritable IsIdWritable l) (sym c.queries) h.queries_written;
  events_min = (omega (arith, c.events_up, h.events_min.0), c.events_low);
  queries_min = (omega (arith, c.queries_up, h.queries_min.0), c.queries_low);
}

-- `IsDurable` stays true if only the snapshot changes, and its last lines of events and of queries stay the same
pub with-snapshot : BelowDurable → (i : IdealAgent) (s : SnapshotView) → IsDurable i → s.event_clock ≡ i.snapshot.event_clock → s.query_clock ≡ i.snapshot.query_clock → AreTimes s → GrowsTo i.snapshot.durable s.durable → IsDurable (with_snapshot s i)
with-snapshot laws i s h event query times grows = carried laws i (with_snapshot s i) (record {
  keeps = refl;
  events = refl;
  queries = refl;
  events_up = omega arith;
  queries_up = omega arith;
  events_low = h.events_min.1;
  queries_low = h.queries_min.1;
  last_event = event;
  last_query = query;
  times = times;
  durable = grows;
}) h

-- `IsDurable` stays true if the sink fails when a line is appended
pub fails : BelowDurable → (kind : ClockKind) (t : ℕ) (line durable : Option (List ℕ)) (i : IdealAgent) → IsDurable i → MayAppendLine kind t line i.snapshot (Failed durable) → IsDurable (with_snapshot (written kind t i.snapshot (Failed durable)) i)
fails laws kind t line durable i h may =
    let times : AreTimes (written kind t i.snapshot (Failed durable)) = record { member_clock = h.times.member_clock; event_clock = h.times.event_clock; query_clock = h.times.query_clock } in
    with-snapshot laws i (written kind t i.snapshot (Failed durable)) h refl refl times (failed-grows kind t line durable i.snapshot may)

-- ---- an event enters, and a query

pub enters-event : BelowDurable → (t : ℕ) (what : EventBody) (i : IdealAgent) → IsSound i → IsDurable i → i.snapshot.stopped ≡ false → i.events.minimum ≤ t → t < 2 ^ 64 - 1 → IsWritable what → texts_len what ≤ 9216
    → IsDurable (with_snapshot (appended_with kinds.Event t (written_event i.config t what) i.snapshot Kept) (event_entered t what i))
enters-event laws t what i s h runs from small told short = by i.config.keep_events refl
  where
    some : 0 < t
    some = omega (arith, from, h.events_min.0)

    next : Bool → IdealAgent
    next b = with_snapshot (appended_with kinds.Event t (cond b (Some (line_of_event t what)) None) i.snapshot Kept) (event_entered t what i)

    all : (b : Bool) → IsKeptSound (next b) → (i.config.keep_events ≡ false → IsSaidSound (next b)) → IsDurable (next b)
    all b kept said = record {
      kept = kept;
      said = said;
      times = times-noted kinds.Event t (cond b (Some (line_of_event t what)) None) i.snapshot h.times small;
      events_written = All-push (λ (p : Past EventBody). (0 < p.entry.time) × (p.entry.time < 2 ^ 64 - 1) × IsWritable p.entry.key) i.events.history (record { life = i.life; entry = record { time = t; key = what } }) h.events_written (some, small, told);
      queries_written = h.queries_written;
      events_min = h.events_min;
      queries_min = h.queries_min;
    }

    by : (b : Bool) → i.config.keep_events ≡ b → IsDurable (next b)
    by true on = all true (laws.steps.enters_event t what i h.kept s.snapshot runs some small told short) (λ off. absurd (true≢false (sym on ∙ off)))
    by false off = let said = laws.unkept.enters_event t what i (h.said off) s.snapshot runs from small in all false (λ durable at. (said durable at).kept) (λ again. said)

pub enters-query : BelowDurable → (t id : ℕ) (i : IdealAgent) → IsSound i → IsDurable i → i.snapshot.stopped ≡ false → i.queries.minimum ≤ t → t < 2 ^ 64 - 1 → IsIdWritable id
    → IsDurable (with_snapshot (appended_with kinds.Query t (written_query i.config t id) i.snapshot Kept) (query_entered t id i))
enters-query laws t id i s h runs from small told = by i.config.keep_events refl
  where
    some : 0 < t
    some = omega (arith, from, h.queries_min.0)

    next : Bool → IdealAgent
    next b = with_snapshot (appended_with kinds.Query t (cond b (Some (query_line t id)) None) i.snapshot Kept) (query_entered t id i)

    all : (b : Bool) → IsKeptSound (next b) → (i.config.keep_events ≡ false → IsSaidSound (next b)) → IsDurable (next b)
    all b kept said = record {
      kept = kept;
      said = said;
      times = times-noted kinds.Query t (cond b (Some (query_line t id)) None) i.snapshot h.times small;
      events_written = h.events_written;
      queries_written = All-push (λ (p : Past ℕ). (0 < p.entry.time) × (p.entry.time < 2 ^ 64 - 1) × IsIdWritable p.entry.key) i.queries.history (record { life = i.life; entry = record { time = t; key = id } }) h.queries_written (some, small, told);
      events_min = h.events_min;
      queries_min = h.queries_min;
    }

    by : (b : Bool) → i.config.keep_events ≡ b → IsDurable (next b)
    by true on = all true (laws.steps.enters_query t id i h.kept s.snapshot runs some small told) (λ off. absurd (true≢false (sym on ∙ off)))
    by false off = let said = laws.unkept.enters_query t id i (h.said off) s.snapshot runs from small in all false (λ durable at. (said durable at).kept) (λ again. said)

-- ---- a compaction

-- the durable text, after it was to be replaced by another text, is the new text or the old one
either : (s durable : Option (List ℕ)) (text new : List ℕ) → KeepsEither s text durable → durable ≡ Some new → (s ≡ Some new) ⊎ (text ≡ new)
either None durable text new keeps at = absurd (let none : durable ≡ None = keeps in cc)
either (Some k) durable text new (inl old) at = inl (sym old ∙ at)
either (Some k) durable text new (inr other) at = inr (some-same text new (sym other ∙ at))

replaced-by : (s : Option (List ℕ)) (text new : List ℕ) → option_map (λ (k : List ℕ). text) s ≡ Some new → text ≡ new
replaced-by None text new at = absurd (cc at)
replaced-by (Some k) text new at = some-same text new at

-- the durable text is the new text or the old one, whether the text was replaced or not
either-text : (text new : List ℕ) (s : SnapshotView) (w : Writing) → MayReplaceBy text s w → (text_replaced text s w).durable ≡ Some new → (s.durable ≡ Some new) ⊎ (text ≡ new)
either-text text new s Kept may at = inr (replaced-by s.durable text new at)
either-text text new s (Failed durable) may at = either s.durable durable text new may.0 at

-- if something holds of the old durable text, and of the new text, it holds of the durable text afterwards
pub replaced-holds : (P : List ℕ → Type 0) (text new : List ℕ) (s : SnapshotView) (w : Writing) → MayReplaceBy text s w → (text_replaced text s w).durable ≡ Some new → ((old : List ℕ) → s.durable ≡ Some old → P old) → P text → P new
replaced-holds P text new s w may at before says = elim (either-text text new s w may at) [ inl was ↦ before new was | inr is ↦ subst P is says ]

replaces : (text : List ℕ) (w : Writing) (i : IdealAgent) → IsDurable i → HasKept i text → (i.config.keep_events ≡ false → HasSaid i text) → MayReplaceBy text i.snapshot w → IsDurable (with_snapshot (text_replaced text i.snapshot w) i)
replaces text w i h kept said may = record {
  kept = λ new at. let has : HasKept i new = replaced-holds (HasKept i) text new i.snapshot w may at h.kept kept in record { events = has.events; queries = has.queries };
  said = λ off new at.
      let has : HasSaid i new = replaced-holds (HasSaid i) text new i.snapshot w may at (h.said off) (said off) in
      record {
        kept = record { events = has.kept.events; queries = has.kept.queries };
        events = subst (λ (last : ℕ). IsSaid kinds.Event i.events.minimum last new) (sym (last-text kinds.Event text i.snapshot w)) has.events;
        queries = subst (λ (last : ℕ). IsSaid kinds.Query i.queries.minimum last new) (sym (last-text kinds.Query text i.snapshot w)) has.queries;
      };
  times = times w;
  events_written = h.events_written;
  queries_written = h.queries_written;
  events_min = h.events_min;
  queries_min = h.queries_min;
}
  where
    times : (w : Writing) → AreTimes (text_replaced text i.snapshot w)
    times Kept = record { member_clock = h.times.member_clock; event_clock = h.times.event_clock; query_clock = h.times.query_clock }
    times (Failed durable) = record { member_clock = h.times.member_clock; event_clock = h.times.event_clock; query_clock = h.times.query_clock }

pub compacts : BelowDurable → (w : Writing) (i : IdealAgent) → IsSound i → IsDurable i → (let text = text_with (written_lines (view_of i)) i.snapshot in MayReplaceBy text i.snapshot w → IsDurable (with_snapshot (text_replaced text i.snapshot w) i))
compacts laws w i s h = by i.config.keep_events refl
  where
    by : (b : Bool) → i.config.keep_events ≡ b → (let text = text_with (cond b (Some (kept_lines (view_of i))) None) i.snapshot in MayReplaceBy text i.snapshot w → IsDurable (with_snapshot (text_replaced text i.snapshot w) i))
    by true on may =
        let buffers = buffers-sound i.config s.config in
        replaces (text_with (Some (kept_lines (view_of i))) i.snapshot) w i h
        (laws.compactions.keeps i s buffers.0 buffers.1 h.times h.events_min.1 h.queries_min.1 h.events_written h.queries_written)
        (λ off. absurd (true≢false (sym on ∙ off))) may
    by false off may = let said = laws.unkept.compacts i s h.times in replaces (compaction_of i.snapshot) w i h said.kept (λ again. said) may

-- ---- an opening

-- whatever is read from a text can be written in lines
told-events : BelowDurable → (w : EntryFilter) (text : List ℕ) → All (λ e. (0 < e.time) × (e.time < 2 ^ 64 - 1) × IsWritable e.key) (kept_events w text)
told-events laws w text =
    All-map (λ (e : TimedEntry EventBody). (0 < e.time) × (e.time < 2 ^ 64 - 1) × IsWritable e.key) event_entry (events_in w text) (λ k d inside. let h = laws.events_read w text k d inside in (h.0, h.1, record { name = h.2; payload = h.3 }))

told-queries : BelowDurable → (w : EntryFilter) (text : List ℕ) → All (λ e. (0 < e.time) × (e.time < 2 ^ 64 - 1) × IsIdWritable e.key) (kept_queries w text)
told-queries laws w text = All-map (λ (e : TimedEntry ℕ). (0 < e.time) × (e.time < 2 ^ 64 - 1) × IsIdWritable e.key) query_entry (queries_in w text) (λ k d inside. let h = laws.queries_read w text k d inside in (h.0, h.1, h.2))

-- the minimum time that an opening reads from a text is valid
lowest-back : {K : Type 0} → RecallLaws K → (same : K → K → Bool) (n k last lowest : ℕ) (kept : List (TimedEntry K)) → last < 2 ^ 64 - 1 → 1 ≤ lowest → lowest ≤ 2 ^ 64 - 1 → All (λ e. e.time ≤ last) kept
    → IsMin (max (taken_back same n k last lowest kept).minimum (opened_clock last lowest - n))
lowest-back {K} recalls same n k last lowest kept small some bound under =
    let up : lowest ≤ (taken_back same n k last lowest kept).minimum = recalls.minimum same n k (opened_clock last lowest) (record { entries = []; minimum = lowest }) kept in
    let low : (taken_back same n k last lowest kept).minimum ≤ opened_clock last lowest =
    recalls.bounded same n k (opened_clock last lowest) (record { entries = []; minimum = lowest }) kept (omega arith) (All-weaker (λ (e : TimedEntry K). e.time ≤ last) (λ (e : TimedEntry K). e.time < opened_clock last lowest) (λ e h. omega (arith, h)) kept under) in
    (omega (arith, up, some), omega (arith, low, small, bound))

pub opened-durable : (o : Option Observable) (text new : List ℕ) → option_map (λ (t : Observable). sealed text) o ≡ Some new → sealed text ≡ new
opened-durable None text new at = absurd (cc at)
opened-durable (Some t) text new at = some-same (sealed text) new at

times-opened : BelowDurable → (text : List ℕ) (d : Device) → AreTimes (opened text d)
times-opened laws text d = record { member_clock = laws.times kinds.Member text; event_clock = laws.times kinds.Event text; query_clock = laws.times kinds.Query text }

pub opens : BelowDurable → (i : IdealAgent) (text : List ℕ) (d : Device) → AreWritable IsWritable i.events.history → AreWritable IsIdWritable i.queries.history → HasKept i text → IsDurable (restarted text (opened text d) i)
opens laws i text d events queries had = by i.config.keep_events refl
  where
    by : (b : Bool) → i.config.keep_events ≡ b → IsDurable (restarted_by b text (opened text d) i)
    by true on =
        let last : ℕ = last_clock kinds.Event text in
        let last_query : ℕ = last_clock kinds.Query text in
        let lowest = laws.min_read kinds.Event text in
        let min_query = laws.min_read kinds.Query text in
        record {
          kept = λ new at. subst (HasKept (restarted_by true text (opened text d) i)) (opened-durable d.observed_bytes text new at) (laws.restart.kept i text d had);
          said = λ off. absurd (true≢false (sym on ∙ off));
          times = times-opened laws text d;
          events_written = among (λ (e : TimedEntry EventBody). (0 < e.time) × (e.time < 2 ^ 64 - 1) × IsWritable e.key) i.events.history (restarted_by true text (opened text d) i).events.history (events_reached i.config last text) events
              (told-events laws (within_reach i.config.event_buffer last (min_in kinds.Event text)) text)
              (laws.events.only_kept i.config.event_buffer i.config.per_time (i.life + 1) last (min_in kinds.Event text) (events_reached i.config last text) i.events);
          queries_written = among (λ (e : TimedEntry ℕ). (0 < e.time) × (e.time < 2 ^ 64 - 1) × IsIdWritable e.key) i.queries.history (restarted_by true text (opened text d) i).queries.history (queries_reached i.config last_query text) queries
              (told-queries laws (within_reach i.config.query_buffer last_query (min_in kinds.Query text)) text)
              (laws.queries.only_kept i.config.query_buffer i.config.per_time (i.life + 1) last_query (min_in kinds.Query text) (queries_reached i.config last_query text) i.queries);
          events_min = lowest-back laws.recalled_events same_texts i.config.event_buffer i.config.per_time last (min_in kinds.Event text) (events_reached i.config last text) (laws.times kinds.Event text) lowest.0 lowest.1
              (All-weaker (λ (e : TimedEntry EventBody). (e.time ≤ last) × IsShort 9216 e.key) (λ (e : TimedEntry EventBody). e.time ≤ last) (λ e h. h.0) (events_reached i.config last text) (laws.event_texts.inside i.config.event_buffer last (min_in kinds.Event text) text));
          queries_min = lowest-back laws.recalled_queries same_id i.config.query_buffer i.config.per_time last_query (min_in kinds.Query text) (queries_reached i.config last_query text) (laws.times kinds.Query text) min_query.0 min_query.1
              (All-weaker (λ (e : TimedEntry ℕ). (e.time ≤ last_query) × IsIdShort 9216 e.key) (λ (e : TimedEntry ℕ). e.time ≤ last_query) (λ e h. h.0) (queries_reached i.config last_query text) (laws.query_texts.inside i.config.query_buffer last_query (min_in kinds.Query text) text));
        }
    by false off =
        let said : HasSaid (restarted_by false text (opened text d) i) (sealed text) = subst (λ (b : Bool). HasSaid (restarted_by b text (opened text d) i) (sealed text)) off (laws.unkept.restarts i text d off had) in
        record {
          kept = λ new at. (subst (HasSaid (restarted_by false text (opened text d) i)) (opened-durable d.observed_bytes text new at) said).kept;
          said = λ again new at. subst (HasSaid (restarted_by false text (opened text d) i)) (opened-durable d.observed_bytes text new at) said;
          times = times-opened laws text d;
          events_written = events;
          queries_written = queries;
          events_min = (omega arith, omega (arith, laws.times kinds.Event text));
          queries_min = (omega arith, omega (arith, laws.times kinds.Query text));
        }
