-- Which events are in the text of an agent that keeps its events: after each call, those that were in it before, and
-- those that were handed out.
use Rattle.serf_model.proofs.Names.{Bool, IsSome, List, None, Option, Some, [], ap, cond, false, inl, inr, map, nat_le, nat_lt, refl, subst, sym, true, ℕ, ◌++◌, ◌-◌, ◌<◌, ◌^◌, ◌∙◌, ◌∷◌, ◌≡◌, map-append, All-append, All-cons, All-head, All-map, All-nil, All-tail, option_map, All, IfSome, MatchBool, EventBody, clock_line, is_whole, FailurePlan, events_in, is_event_wanted, kept_clock_line, min_line, query_line, kept_bytes, Failed, IsObservable, KeepsEither, Kept, MayWrite, SnapshotView, Writing, compaction_of, last_line, append_line_fails, written, TimedEvent, timed_event, ClockKind, SlotOf, TimedEntry, slots_of, Call, Ends, MayEnd, AppendsLine, Replaces, ended, IdealAgent, Past, AreWritable, held_from, held_in, kept_lines, lines_written, IsWritable, event_entry, kept_events, line_of_event, whatever, text_with, of_life, view_of, Below}
use Rattle.serf_snapshot.specs.declared.kind.ClockKind.TheVariants as kinds
use Rattle.serf_agent.specs.KeptLines.{min_written}
use Rattle.serf_model.proofs.PacketEvents.{in-life, slots-each}

-- a text is whole, and P holds of each event in it
pub record IsSaying (P : TimedEntry EventBody → Type 0) (text : List ℕ) : Type 0 where
  pub whole : is_whole text ≡ true
  pub says : All P (kept_events whatever text)

-- the same holds of the durable text
abbrev pub DurableSays : (TimedEntry EventBody → Type 0) → SnapshotView → Type 0
DurableSays P s = (text : List ℕ) → s.durable ≡ Some text → IsSaying P text

-- ---- parts of a text

silent : (P : TimedEntry EventBody → Type 0) (text : List ℕ) → is_whole text ≡ true → events_in whatever text ≡ [] → IsSaying P text
silent P text whole none = record { whole = whole; says = subst (λ (es : List TimedEvent). All P (map event_entry es)) (sym none) (All-nil P) }

says-nothing : (P : TimedEntry EventBody → Type 0) → IsSaying P []
says-nothing P = record { whole = refl; says = All-nil P }

-- the text has what its two parts have
pub says-joined : Below → (P : TimedEntry EventBody → Type 0) (front tail : List ℕ) → is_whole front ≡ true → All P (kept_events whatever front) → All P (kept_events whatever tail) → All P (kept_events whatever (front ++ tail))
says-joined lower P front tail whole first more =
    subst (All P) (sym (ap (map event_entry) (lower.says.joined whatever front tail whole) ∙ map-append event_entry (events_in whatever front) (events_in whatever tail)))
    (All-append P (kept_events whatever front) (kept_events whatever tail) first more)

says-more : Below → (P : TimedEntry EventBody → Type 0) (front tail : List ℕ) → IsSaying P front → IsSaying P tail → IsSaying P (front ++ tail)
says-more lower P front tail first more = record { whole = lower.whole.both front tail first.whole more.whole; says = says-joined lower P front tail first.whole first.says more.says }

-- ---- lines

pub says-query : Below → (P : TimedEntry EventBody → Type 0) (t id : ℕ) → IsSaying P (query_line t id)
says-query lower P t id = silent P (query_line t id) (lower.whole.query_line t id) (lower.says.query_line whatever t id)

pub says-lowest : Below → (P : TimedEntry EventBody → Type 0) (k : ClockKind) (t : ℕ) → IsSaying P (min_line k t)
says-lowest lower P k t = silent P (min_line k t) (lower.whole.min_line k t) (lower.says.min_line whatever k t)

says-clock : Below → (P : TimedEntry EventBody → Type 0) (k : ClockKind) (t : ℕ) → IsSaying P (clock_line k t)
says-clock lower P k t = silent P (clock_line k t) (lower.whole.clock_line k t) (lower.says.clock_line whatever k t)

-- an event that can be written in a line
pub record CanBeWritten (P : TimedEntry EventBody → Type 0) (e : TimedEntry EventBody) : Type 0 where
  pub has : P e
  pub some : 0 < e.time
  pub small : e.time < 2 ^ 64 - 1
  pub told : IsWritable e.key

pub says-event : Below → (P : TimedEntry EventBody → Type 0) (t : ℕ) (what : EventBody) → CanBeWritten P (record { time = t; key = what }) → IsSaying P (line_of_event t what)
says-event lower P t what c = record {
  whole = lower.whole.event_line t what.name what.payload;
  says = subst (λ (es : List TimedEvent). All P (map event_entry es)) (sym (lower.says.event_line whatever t what.name what.payload c.some c.small c.told.name c.told.payload))
      (by (is_event_wanted whatever (timed_event t what.name what.payload)));
}
  where
    by : (b : Bool) → All P (map event_entry (cond b (timed_event t what.name what.payload ∷ []) []))
    by true = All-cons P (record { time = t; key = what }) [] c.has (All-nil P)
    by false = All-nil P

-- what is appended for a line
says-bytes : Below → (P : TimedEntry EventBody → Type 0) (kind : ClockKind) (t : ℕ) (line : List ℕ) (last : ℕ) → IsSaying P line → IsSaying P (kept_bytes kind t line last)
says-bytes lower P kind t line last h = by (nat_le t last)
  where
    by : (b : Bool) → IsSaying P (cond b [] (kept_clock_line kind t) ++ line)
    by true = h
    by false = says-more lower P (kept_clock_line kind t) line (silent P (kept_clock_line kind t) (lower.whole.kept_clock_line kind t) (lower.says.kept_clock_line whatever kind t)) h

-- ---- compactions

says-events : Below → (P : TimedEntry EventBody → Type 0) (es : List (TimedEntry EventBody)) → All (CanBeWritten P) es → IsSaying P (lines_written line_of_event es)
says-events lower P [] all = says-nothing P
says-events lower P (e ∷ es) all =
    says-more lower P (line_of_event e.time e.key) (lines_written line_of_event es) (says-event lower P e.time e.key (All-head (CanBeWritten P) e es all)) (says-events lower P es (All-tail (CanBeWritten P) e es all))

says-queries : Below → (P : TimedEntry EventBody → Type 0) (qs : List (TimedEntry ℕ)) → IsSaying P (lines_written query_line qs)
says-queries lower P [] = says-nothing P
says-queries lower P (q ∷ qs) = says-more lower P (query_line q.time q.key) (lines_written query_line qs) (says-query lower P q.time q.key) (says-queries lower P qs)

-- if Q holds of everything in the slots, it holds of what the slots have from a time on
held-have : (Q : TimedEntry EventBody → Type 0) (lowest : ℕ) (ss : List (SlotOf EventBody)) → All (λ s. All (λ what. Q (record { time = s.time; key = what })) s.held) ss → All Q (held_from lowest ss)
held-have Q lowest [] all = All-nil Q
held-have Q lowest (s ∷ ss) all =
    let Each : SlotOf EventBody → Type 0 = λ (s : SlotOf EventBody). All (λ what. Q (record { time = s.time; key = what })) s.held in
    All-append Q (held_in lowest s) (held_from lowest ss) (by (nat_lt s.time lowest) (All-head Each s ss all)) (held-have Q lowest ss (All-tail Each s ss all))
  where
    by : (b : Bool) → All (λ what. Q (record { time = s.time; key = what })) s.held → All Q (cond b [] (map (λ key. record { time = s.time; key = key }) s.held))
    by true h = All-nil Q
    by false h = All-map Q (λ (key : EventBody). record { time = s.time; key = key }) s.held h

-- what was entered can be written in lines
pub all-told : (P : TimedEntry EventBody → Type 0) (h : List (Past EventBody)) → All (λ p. P p.entry) h → AreWritable IsWritable h → All (λ p. CanBeWritten P p.entry) h
all-told P [] all told = All-nil (λ (p : Past EventBody). CanBeWritten P p.entry)
all-told P (p ∷ ps) all told =
    let Written : Past EventBody → Type 0 = λ (p : Past EventBody). (0 < p.entry.time) × (p.entry.time < 2 ^ 64 - 1) × IsWritable p.entry.key in
    let first : (0 < p.entry.time) × (p.entry.time < 2 ^ 64 - 1) × IsWritable p.entry.key = All-head Written p ps told in
    All-cons (λ (p : Past EventBody). CanBeWritten P p.entry) p ps (record { has = All-head (λ (p : Past EventBody). P p.entry) p ps all; some = first.0; small = first.1; told = first.2 })
    (all-told P ps (All-tail (λ (p : Past EventBody). P p.entry) p ps all) (All-tail Written p ps told))

-- the lines that a compaction keeps
pub says-kept : Below → (P : TimedEntry EventBody → Type 0) (i : IdealAgent) → All (λ p. P p.entry) i.events.history → AreWritable IsWritable i.events.history → IsSaying P (kept_lines (view_of i))
says-kept lower P i all told =
    let es : List (TimedEntry EventBody) = of_life i.life i.events.history in
    let n : ℕ = i.config.event_buffer in
    let lowest : ℕ = min_written n i.snapshot.event_clock i.events.minimum in
    let slots = slots-each lower (CanBeWritten P) n es (in-life (CanBeWritten P) i.life i.events.history (all-told P i.events.history all told)) in
    let min_query : ℕ = min_written i.config.query_buffer i.snapshot.query_clock i.queries.minimum in
    let held : List (TimedEntry EventBody) = held_from lowest (slots_of n es) in
    let queries : List (TimedEntry ℕ) = held_from min_query (slots_of i.config.query_buffer (of_life i.life i.queries.history)) in
    says-more lower P (min_line kinds.Event lowest ++ lines_written line_of_event held) (min_line kinds.Query min_query ++ lines_written query_line queries)
    (says-more lower P (min_line kinds.Event lowest) (lines_written line_of_event held) (says-lowest lower P kinds.Event lowest) (says-events lower P held (held-have (CanBeWritten P) lowest (slots_of n es) slots)))
    (says-more lower P (min_line kinds.Query min_query) (lines_written query_line queries) (says-lowest lower P kinds.Query min_query) (says-queries lower P queries))

-- the text that a compaction leaves
abbrev pub LinesSay : (TimedEntry EventBody → Type 0) → Option (List ℕ) → Type 0
LinesSay P None = Unit {0}
LinesSay P (Some lines) = IsSaying P lines

says-compaction : Below → (P : TimedEntry EventBody → Type 0) (lines : Option (List ℕ)) (s : SnapshotView) → LinesSay P lines → IsSaying P (text_with lines s)
says-compaction lower P None s h = silent P (compaction_of s) (lower.whole.compacted s.member_clock s.event_clock s.query_clock) (lower.says.compacted whatever s.member_clock s.event_clock s.query_clock)
says-compaction lower P (Some lines) s h = record {
  whole = lower.whole.kept_compacted lines s h.whole;
  says = subst (λ (es : List TimedEvent). All P (map event_entry es)) (sym (lower.says.kept_compacted whatever lines s h.whole)) h.says;
}

-- ---- calls

-- how durable bytes change
grown : (o : Option (List ℕ)) (bytes new : List ℕ) → option_map (λ (k : List ℕ). k ++ bytes) o ≡ Some new → (old : List ℕ) × (o ≡ Some old) × (old ++ bytes ≡ new)
grown None bytes new at = absurd (cc at)
grown (Some old) bytes new at = let same : old ++ bytes ≡ new = cc at in (old, refl, same)

replaced : (o : Option (List ℕ)) (text new : List ℕ) → option_map (λ (k : List ℕ). text) o ≡ Some new → text ≡ new
replaced None text new at = absurd (cc at)
replaced (Some old) text new at = cc at

says-appended : Below → (P : TimedEntry EventBody → Type 0) (s : SnapshotView) (bytes new : List ℕ) → DurableSays P s → IsSaying P bytes → option_map (λ (k : List ℕ). k ++ bytes) s.durable ≡ Some new → IsSaying P new
says-appended lower P s bytes new old more at = let g = grown s.durable bytes new at in subst (IsSaying P) g.2 (says-more lower P g.0 bytes (old g.0 g.1) more)

-- a sink with a plan that fails keeps what it had
unchanged : (plan : Option FailurePlan) (before after : Option (List ℕ)) → IsSome plan → IfSome plan (λ p. (append_line_fails p ≡ true) × (after ≡ before)) → after ≡ before
unchanged None before after some h = absurd (cc some)
unchanged (Some p) before after some h = h.1

either : (P : TimedEntry EventBody → Type 0) (before after : Option (List ℕ)) (text new : List ℕ) → KeepsEither before text after → after ≡ Some new → ((old : List ℕ) → before ≡ Some old → IsSaying P old) → IsSaying P text → IsSaying P new
either P None after text new keeps at old more = absurd (let none : after ≡ None = keeps in cc)
either P (Some k) after text new (inl same) at old more = let here : k ≡ new = cc (sym same ∙ at) in subst (IsSaying P) here (old k refl)
either P (Some k) after text new (inr same) at old more = let here : text ≡ new = cc (sym same ∙ at) in subst (IsSaying P) here more

-- P holds of everything that a call writes: of its line if the line is kept, and of the text of a compaction
abbrev pub CallSays : {R : Type 0} → (TimedEntry EventBody → Type 0) → IdealAgent → Call R → Writing → Type 0
CallSays P i (Ends step) w = step.agent.snapshot ≡ i.snapshot
CallSays P i (AppendsLine kind t line step error) w = w ≡ Kept → LinesSay P line
CallSays P i (Replaces lines step error) w = LinesSay P lines

pub says-ended : {R : Type 0} → Below → (P : TimedEntry EventBody → Type 0) (i : IdealAgent) (call : Call R) (w : Writing) → IsObservable i.snapshot → MayEnd i call w → CallSays P i call w → DurableSays P i.snapshot → DurableSays P (ended i call w).agent.snapshot
says-ended lower P i (Ends step) w observable may says old new at = old new (sym (ap (λ (s : SnapshotView). s.durable) says) ∙ at)
says-ended lower P i (AppendsLine kind t (Some line) step error) Kept observable may says old new at =
    let bytes : List ℕ = kept_bytes kind t line (last_line kind i.snapshot) in
    says-appended lower P i.snapshot bytes new old (says-bytes lower P kind t line (last_line kind i.snapshot) (says refl)) at
says-ended lower P i (AppendsLine kind t (Some line) step error) (Failed durable) observable may says old new at =
    old new (sym (unchanged i.snapshot.plan i.snapshot.durable durable observable.plan may.1) ∙ at)
says-ended lower P i (AppendsLine kind t None step error) Kept observable may says old new at = by (nat_le t (last_line kind i.snapshot)) at
  where
    by : (b : Bool) → (cond b i.snapshot (written kind t i.snapshot Kept)).durable ≡ Some new → IsSaying P new
    by true at = old new at
    by false at = says-appended lower P i.snapshot (clock_line kind t) new old (says-clock lower P kind t) at
says-ended lower P i (AppendsLine kind t None step error) (Failed durable) observable may says old new at = by (nat_le t (last_line kind i.snapshot)) may
  where
    by : (b : Bool) → MatchBool b (Failed durable ≡ Kept) (MayWrite i.snapshot (clock_line kind t) (Failed durable)) → IsSaying P new
    by true may = absurd (cc may)
    by false may = old new (sym (unchanged i.snapshot.plan i.snapshot.durable durable observable.plan may.1) ∙ at)
says-ended lower P i (Replaces lines step error) Kept observable may says old new at =
    subst (IsSaying P) (replaced i.snapshot.durable (text_with lines i.snapshot) new at) (says-compaction lower P lines i.snapshot says)
says-ended lower P i (Replaces lines step error) (Failed durable) observable may says old new at =
    either P i.snapshot.durable durable (text_with lines i.snapshot) new may.0 at old (says-compaction lower P lines i.snapshot says)
