-- A host's own lines change nothing that an agent reads from its file. So on a text with these lines, a host reverts to an
-- agent that remembers as much as the agent whose bytes the text has.
use Rattle.serf_agent_c.proofs.Names.{AreKept, ClockKind, Contains, DiffersInOtherLines, EntryFilter, HasKept, HasSaid, IdealAgent, IsDurable, IsKept, IsSaid, IsSound, List, OpensAfter, Past, Some, StartsWithDurable, TimedEntry, TimedEvent, All, ap, append-nil, arith, false, fresh_device, inl, inr, kept_events, kept_queries, last_clock, last_line, map, min_in, refl, stopped, subst, sym, true, whatever, with_snapshot, [], ℕ, ◌++◌, ◌<◌, ◌∙◌, ◌≡◌, ◌≤◌, ◌⊎◌}
use Rattle.serf_snapshot.specs.declared.kept.KeptQuery.{KeptQuery}
use Rattle.serf_snapshot.specs.EventLines as lines
use Rattle.serf_agent.specs.KeptTexts as texts
use Rattle.serf_snapshot.specs.declared.kind.ClockKind.TheVariants as kinds

-- the agent whose sink failed, and left this text
abbrev pub left_with : List ℕ → IdealAgent → IdealAgent
left_with text i = with_snapshot (stopped (Some text) (λ plan. plan) i.snapshot) i

-- what the crates below promise of texts
pub record Reading : Type 0 where
  pub clock_grows : (k : ClockKind) (front tail : List ℕ) → last_clock k front ≤ last_clock k (front ++ tail)
  pub min_grows : (k : ClockKind) (front tail : List ℕ) → min_in k front ≤ min_in k (front ++ tail)
  pub appended : (a b tail : List ℕ) → DiffersInOtherLines a b → DiffersInOtherLines (a ++ tail) (b ++ tail)
  pub clocks : (k : ClockKind) (a b : List ℕ) → DiffersInOtherLines a b → last_clock k a ≡ last_clock k b
  pub lowest : (k : ClockKind) (a b : List ℕ) → DiffersInOtherLines a b → min_in k a ≡ min_in k b
  pub events : (w : EntryFilter) (a b : List ℕ) → DiffersInOtherLines a b → lines.events_in w a ≡ lines.events_in w b
  pub queries : (w : EntryFilter) (a b : List ℕ) → DiffersInOtherLines a b → lines.queries_in w a ≡ lines.queries_in w b

kept-alike : {K : Type 0} (kind : ClockKind) (read : EntryFilter → List ℕ → List (TimedEntry K)) (history : List (Past K)) (a b : List ℕ) → min_in kind a ≡ min_in kind b → read whatever a ≡ read whatever b → AreKept kind read history a → AreKept kind read history b
kept-alike {K} kind read history a b lowest same kept =
    subst (λ (n : ℕ). All (λ (p : Past K). (p.entry.time < n) ⊎ Contains (read whatever b) p.entry) history) lowest
    (subst (λ (es : List (TimedEntry K)). All (λ (p : Past K). (p.entry.time < min_in kind a) ⊎ Contains es p.entry) history) same kept)

-- if an agent's text begins a text, a text that differs from it in other lines can be that of the agent whose sink failed
pub record Leaves (i : IdealAgent) (text : List ℕ) : Type 0 where
  pub sound : IsSound (left_with text i)
  pub durable : IsDurable (left_with text i)
  pub starts : StartsWithDurable (left_with text i) text

pub leaves : Reading → OpensAfter → (i : IdealAgent) (read text : List ℕ) → IsSound i → IsDurable i → StartsWithDurable i read → DiffersInOtherLines read text → Leaves i text
leaves reading opens i read text sound durable starts differs = record {
  sound = record {
    config = sound.config;
    member_clock = sound.member_clock;
    events = sound.events;
    queries = sound.queries;
    short = sound.short;
    snapshot = λ kept is. let same : Some text ≡ Some kept = is in let at : text ≡ kept = cc in subst (λ (t : List ℕ). IsKept (left_with text i).snapshot t) at (record { at_least = least; equal = λ runs. absurd (let no : true ≡ false = runs in cc); whole = λ runs. absurd (let no : true ≡ false = runs in cc) });
    fired_queries_below = sound.fired_queries_below;
    fired_queries_distinct = sound.fired_queries_distinct;
    fired_queries_sound = sound.fired_queries_sound;
  };
  durable = record {
    kept = λ found is. let same : Some text ≡ Some found = is in let at : text ≡ found = cc in subst (λ (t : List ℕ). HasKept (left_with text i) t) at (record { events = kept.events; queries = kept.queries });
    said = λ keeps found is. let same : Some text ≡ Some found = is in let at : text ≡ found = cc in subst (λ (t : List ℕ). HasSaid (left_with text i) t) at (let s = durable.said keeps starts.durable starts.is in record { kept = record { events = kept.events; queries = kept.queries }; events = still-said kinds.Event i.events.minimum i.snapshot.event_clock s.events; queries = still-said kinds.Query i.queries.minimum i.snapshot.query_clock s.queries });
    times = record { member_clock = durable.times.member_clock; event_clock = durable.times.event_clock; query_clock = durable.times.query_clock };
    events_written = durable.events_written;
    queries_written = durable.queries_written;
    events_min = durable.events_min;
    queries_min = durable.queries_min;
  };
  starts = record { durable = text; tail = []; is = refl; whole = sym (append-nil text) };
}
  where
    grown : (k : ClockKind) → last_clock k starts.durable ≤ last_clock k text
    grown k =
        let more = reading.clock_grows k starts.durable starts.tail in
        let there : last_clock k read ≡ last_clock k (starts.durable ++ starts.tail) = ap (λ (t : List ℕ). last_clock k t) starts.whole in
        let same = reading.clocks k read text differs in
        omega (arith, more, there, same)

    least : (k : ClockKind) → last_line k i.snapshot ≤ last_clock k text
    least k = let kept = (sound.snapshot starts.durable starts.is).at_least k in let more = grown k in omega (arith, kept, more)

    -- what the text has of everything that was entered
    kept : HasKept i text
    kept =
        let there : HasKept i read = (opens i i.config read (fresh_device read) sound durable sound.config starts).1 in
        record {
          events = kept-alike kinds.Event kept_events i.events.history read text (reading.lowest kinds.Event read text differs) (ap (λ (es : List TimedEvent). map texts.event_entry es) (reading.events whatever read text differs)) there.events;
          queries = kept-alike kinds.Query kept_queries i.queries.history read text (reading.lowest kinds.Query read text differs) (ap (λ (qs : List KeptQuery). map texts.query_entry qs) (reading.queries whatever read text differs)) there.queries;
        }

    still-said : (k : ClockKind) (minimum last : ℕ) → IsSaid k minimum last starts.durable → IsSaid k minimum last text
    still-said k minimum last (inl low) = inl low
    still-said k minimum last (inr low) =
        let more = reading.min_grows k starts.durable starts.tail in
        let there : min_in k read ≡ min_in k (starts.durable ++ starts.tail) = ap (λ (t : List ℕ). min_in k t) starts.whole in
        let same = reading.lowest k read text differs in
        inr (omega (arith, low, more, there, same))
