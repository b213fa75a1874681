-- An agent that keeps its events is opened again: it is sound, and the durable text still has everything that was
-- entered.
use Rattle.serf_agent.proofs.Names.{List, ap, arith, map, subst, sym, ℕ, ◌+◌, ◌-◌, ◌<◌, ◌^◌, ◌≡◌, ◌≢◌, ◌≤◌, All-append, All-contains, All-map, All-nil, All-weaker, All, Contains, EventBody, last_clock, sealed, Device, events_in, min_in, queries_in, opened, EntryFilter, ClockKind, same_id, same_texts, TimedEntry, texts_len, IdealAgent, Past, KeepingLaws, entries_in, KeptRestartLaws, HasKept, events_reached, queries_reached, restarted_kept, AreKept, IsIdShort, IsShort, KeptEventLaws, KeptQueryLaws, event_entry, kept_events, kept_queries, query_entry, whatever, IsInText, SnapshotLaws, IsOpenQuerySound, IsSound}
use Rattle.std.specs.Prelude.{◌++◌, ◌⊎◌}
use Rattle.serf_snapshot.specs.declared.kind.ClockKind.TheVariants as kinds
use Rattle.serf_agent.proofs.KeepingLaws.{of-entries}
use Rattle.serf_agent.proofs.SoundLaws.{no-pairs}

-- ---- what the crates below promise

pub record BelowKept : Type 0 where
  pub events : KeepingLaws EventBody same_texts
  pub queries : KeepingLaws ℕ same_id
  pub event_texts : KeptEventLaws
  pub query_texts : KeptQueryLaws
  pub snapshots : SnapshotLaws
  pub times : (k : ClockKind) (text : List ℕ) → last_clock k text < 2 ^ 64 - 1
  pub events_sealed : (w : EntryFilter) (text : List ℕ) → events_in w (sealed text) ≡ events_in w text
  pub queries_sealed : (w : EntryFilter) (text : List ℕ) → queries_in w (sealed text) ≡ queries_in w text
  pub min_sealed : (k : ClockKind) (text : List ℕ) → min_in k (sealed text) ≡ min_in k text

-- what holds of each entry of two lists holds of a history whose entries are all in one of these lists
pub among : {K : Type 0} (P : TimedEntry K → Type 0) (old new : List (Past K)) (kept : List (TimedEntry K)) → All (λ p. P p.entry) old → All P kept → All (Contains (entries_in old ++ kept)) (entries_in new) → All (λ p. P p.entry) new
among {K} P old new kept had back from =
    let both : All P (entries_in old ++ kept) = All-append P (entries_in old) kept (All-map P (λ (p : Past K). p.entry) old had) back in
    of-entries P new (All-weaker (Contains (entries_in old ++ kept)) P (λ e there. All-contains P (entries_in old ++ kept) e both there) (entries_in new) from)

sound : BelowKept → (i : IdealAgent) (text : List ℕ) (d : Device) → IsSound i → IsInText i text → HasKept i text → (opened text d).member_clock < 2 ^ 64 - 1 → IsSound (restarted_kept text (opened text d) i)
sound laws i text d s within kept small =
    let last_event : ℕ = last_clock kinds.Event text in
    let last_query : ℕ = last_clock kinds.Query text in
    let inside = laws.event_texts.inside i.config.event_buffer last_event (min_in kinds.Event text) text in
    let inside_queries = laws.query_texts.inside i.config.query_buffer last_query (min_in kinds.Query text) text in
    record {
      config = s.config;
      member_clock = omega arith;
      events = laws.events.restarts i.config.event_buffer i.config.per_time i.life last_event (min_in kinds.Event text) i.snapshot.event_clock (events_reached i.config last_event text) i.events s.events within.events
          (All-weaker (λ (e : TimedEntry EventBody). (e.time ≤ last_event) × IsShort 9216 e.key) (λ (e : TimedEntry EventBody). e.time ≤ last_event) (λ e h. h.0) (events_reached i.config last_event text) inside)
          (laws.event_texts.had i.config.event_buffer last_event i.events.history text within.events s.short kept.events);
      queries = laws.queries.restarts i.config.query_buffer i.config.per_time i.life last_query (min_in kinds.Query text) i.snapshot.query_clock (queries_reached i.config last_query text) i.queries s.queries within.queries
          (All-weaker (λ (e : TimedEntry ℕ). (e.time ≤ last_query) × IsIdShort 9216 e.key) (λ (e : TimedEntry ℕ). e.time ≤ last_query) (λ e h. h.0) (queries_reached i.config last_query text) inside_queries)
          (laws.query_texts.had i.config.query_buffer last_query i.queries.history text within.queries (λ k x lt. omega arith) kept.queries);
      short = among (λ (e : TimedEntry EventBody). texts_len e.key ≤ 9216) i.events.history (restarted_kept text (opened text d) i).events.history (events_reached i.config last_event text) s.short
          (All-weaker (λ (e : TimedEntry EventBody). (e.time ≤ last_event) × IsShort 9216 e.key) (λ (e : TimedEntry EventBody). texts_len e.key ≤ 9216) (λ e h. h.1) (events_reached i.config last_event text) inside)
          (laws.events.only_kept i.config.event_buffer i.config.per_time (i.life + 1) last_event (min_in kinds.Event text) (events_reached i.config last_event text) i.events);
      snapshot = laws.snapshots.opened text d;
      fired_queries_below = All-nil (λ q. q.0 < (restarted_kept text (opened text d) i).queries.clock);
      fired_queries_distinct = no-pairs (λ a b. a.0 ≢ b.0);
      fired_queries_sound = All-nil (λ q. IsOpenQuerySound q.1);
    }

-- a text that was sealed still has what it had before
pub sealed-kept : {K : Type 0} (kind : ClockKind) (read : EntryFilter → List ℕ → List (TimedEntry K)) (history : List (Past K)) (text : List ℕ) → min_in kind (sealed text) ≡ min_in kind text → read whatever (sealed text) ≡ read whatever text
    → AreKept kind read history text → AreKept kind read history (sealed text)
sealed-kept {K} kind read history text lowest same kept =
    subst (λ (m : ℕ). All (λ (p : Past K). (p.entry.time < m) ⊎ Contains (read whatever (sealed text)) p.entry) history) (sym lowest)
    (subst (λ (l : List (TimedEntry K)). All (λ (p : Past K). (p.entry.time < min_in kind text) ⊎ Contains l p.entry) history) (sym same) kept)

kept : BelowKept → (i : IdealAgent) (text : List ℕ) (d : Device) → HasKept i text → HasKept (restarted_kept text (opened text d) i) (sealed text)
kept laws i text d had =
    let next : IdealAgent = restarted_kept text (opened text d) i in
    let last_event : ℕ = last_clock kinds.Event text in
    let last_query : ℕ = last_clock kinds.Query text in
    record {
      events = sealed-kept kinds.Event kept_events next.events.history text (laws.min_sealed kinds.Event text) (ap (map event_entry) (laws.events_sealed whatever text))
          (laws.event_texts.stays i.config.event_buffer last_event i.events.history next.events.history text (laws.times kinds.Event text) had.events
          (laws.events.only_kept i.config.event_buffer i.config.per_time (i.life + 1) last_event (min_in kinds.Event text) (events_reached i.config last_event text) i.events));
      queries = sealed-kept kinds.Query kept_queries next.queries.history text (laws.min_sealed kinds.Query text) (ap (map query_entry) (laws.queries_sealed whatever text))
          (laws.query_texts.stays i.config.query_buffer last_query i.queries.history next.queries.history text (laws.times kinds.Query text) had.queries
          (laws.queries.only_kept i.config.query_buffer i.config.per_time (i.life + 1) last_query (min_in kinds.Query text) (queries_reached i.config last_query text) i.queries));
    }

pub kept_restart_laws : BelowKept → KeptRestartLaws
kept_restart_laws laws = record {
  sound = sound laws;
  kept = kept laws;
  events_view = λ i text s is. laws.events.view i.config.event_buffer i.config.per_time i.life s.event_clock (min_in kinds.Event text) (events_reached i.config s.event_clock text) i.events is.events.lives;
  queries_view = λ i text s is. laws.queries.view i.config.query_buffer i.config.per_time i.life s.query_clock (min_in kinds.Query text) (queries_reached i.config s.query_clock text) i.queries is.queries.lives;
  events_grown = λ i text s. laws.events.grown i.config.event_buffer i.config.per_time (i.life + 1) s.event_clock (min_in kinds.Event text) (events_reached i.config s.event_clock text) i.events;
  queries_grown = λ i text s. laws.queries.grown i.config.query_buffer i.config.per_time (i.life + 1) s.query_clock (min_in kinds.Query text) (queries_reached i.config s.query_clock text) i.queries;
}
