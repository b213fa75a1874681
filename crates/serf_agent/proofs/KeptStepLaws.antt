-- What the durable text of an agent that keeps its events has after each line that it appends.
use Rattle.serf_agent.proofs.Names.{Bool, List, None, Option, Some, [], ap, append-nil, append_assoc, arith, cond, false, nat_le, refl, subst, sym, take, true, ℕ, ◌++◌, ◌-◌, ◌<◌, ◌^◌, ◌∙◌, ◌∷◌, ◌≡◌, ◌≤◌, option_map, EventBody, clock_line, is_whole, kept_clock_line, query_line, kept_bytes, kept_appended, Failed, IsSnapshotSound, KeepsPart, Kept, SnapshotView, last_line, noted, written, EntryFilter, ClockKind, TimedEntry, event_entered, texts_len, IdealAgent, Past, with_snapshot, HasKept, IsKeptSound, KeptAppendLineLaws, AreKept, IsIdShort, IsIdWritable, IsShort, IsWritable, KeptEventLaws, KeptQueryLaws, KeptTextLaws, kept_events, kept_queries, line_of_event, query_entered, MayAppendLine, bytes_with, appended_with}
use Rattle.serf_snapshot.specs.declared.kind.ClockKind.TheVariants as kinds
use Rattle.serf_agent.proofs.SoundLaws.{may-part}

-- ---- what the crates below promise

pub record BelowSteps : Type 0 where
  pub event_texts : KeptEventLaws
  pub query_texts : KeptQueryLaws
  pub clock_line_whole : (k : ClockKind) (text : List ℕ) (t : ℕ) → is_whole (text ++ kept_clock_line k t) ≡ true

-- ---- what is durable

pub some-same : {X : Type 0} (x y : X) → Some x ≡ Some y → x ≡ y
some-same x y h = cc

-- the durable text after some bytes were appended
pub grown-durable : (s : Option (List ℕ)) (bytes new : List ℕ) → option_map (λ (k : List ℕ). k ++ bytes) s ≡ Some new → (old : List ℕ) × (s ≡ Some old) × (old ++ bytes ≡ new)
grown-durable None bytes new at = absurd (cc at)
grown-durable (Some old) bytes new at = (old, refl, some-same _ _ at)

-- the durable text after a part of some bytes was appended
pub part-durable : (s : Option (List ℕ)) (bytes new : List ℕ) → KeepsPart s bytes (Some new) → (old : List ℕ) × (more : List ℕ) × (s ≡ Some old) × (new ≡ old ++ more)
part-durable None bytes new part = absurd (cc part)
part-durable (Some old) bytes new part = (old, take part.0 bytes, refl, part.1)

-- if something holds of the durable text, and of a whole text with these bytes appended, it holds of the durable text
-- with them
pub appended : (P Q : List ℕ → Type 0) (s : SnapshotView) (bytes new : List ℕ) → ((old : List ℕ) → s.durable ≡ Some old → P old) → IsSnapshotSound s → s.stopped ≡ false → ((old : List ℕ) → is_whole old ≡ true → P old → Q (old ++ bytes)) → option_map (λ (k : List ℕ). k ++ bytes) s.durable ≡ Some new → Q new
appended P Q s bytes new had sound runs step at = let g = grown-durable s.durable bytes new at in subst Q g.2 (step g.0 ((sound g.0 g.1).whole runs) (had g.0 g.1))

-- the durable text grows: it is the earlier one, with more bytes after it, if any
abbrev pub GrowsTo : Option (List ℕ) → Option (List ℕ) → Type 0
GrowsTo old new = (text : List ℕ) → new ≡ Some text → (front : List ℕ) × (more : List ℕ) × (old ≡ Some front) × (front ++ more ≡ text)

-- a text that stays the same grows by nothing
pub stays-so : (s : Option (List ℕ)) → GrowsTo s s
stays-so s text at = (text, [], at, append-nil text)

-- the durable text grows when a line is appended
pub noted-grows : (kind : ClockKind) (t : ℕ) (line : Option (List ℕ)) (s : SnapshotView) → GrowsTo s.durable (appended_with kind t line s Kept).durable
noted-grows kind t None s text at = by (nat_le t (last_line kind s)) at
  where
    by : (b : Bool) → (cond b s (written kind t s Kept)).durable ≡ Some text → (front : List ℕ) × (more : List ℕ) × (s.durable ≡ Some front) × (front ++ more ≡ text)
    by true at = stays-so s.durable text at
    by false at = let g = grown-durable s.durable (clock_line kind t) text at in (g.0, clock_line kind t, g.1, g.2)
noted-grows kind t (Some line) s text at = let g = grown-durable s.durable (kept_bytes kind t line (last_line kind s)) text at in (g.0, kept_bytes kind t line (last_line kind s), g.1, g.2)

-- the durable text grows, or stays the same, if only a part of the bytes was kept
part-grows : (s durable : Option (List ℕ)) (bytes : List ℕ) → KeepsPart s bytes durable → GrowsTo s durable
part-grows s durable bytes part text at = let p = part-durable s bytes text (subst (KeepsPart s bytes) at part) in (p.0, p.1, p.2, sym p.3)

-- the durable text grows, or stays the same, when appending a line fails, whatever the line is
pub failed-grows : (kind : ClockKind) (t : ℕ) (line durable : Option (List ℕ)) (s : SnapshotView) → MayAppendLine kind t line s (Failed durable) → GrowsTo s.durable durable
failed-grows kind t line durable s may = part-grows s.durable durable (bytes_with kind t line s) (may-part kind s t line durable may)

-- ---- one more line

abbrev front_of : ClockKind → ℕ → ℕ → List ℕ
front_of kind t last = cond (nat_le t last) [] (kept_clock_line kind t)

whole-front : BelowSteps → (kind : ClockKind) (text : List ℕ) (t last : ℕ) → is_whole text ≡ true → is_whole (text ++ front_of kind t last) ≡ true
whole-front laws kind text t last whole = by (nat_le t last)
  where
    by : (b : Bool) → is_whole (text ++ cond b [] (kept_clock_line kind t)) ≡ true
    by true = ap is_whole (append-nil text) ∙ whole
    by false = laws.clock_line_whole kind text t

entered : {K : Type 0} (kind : ClockKind) (read : EntryFilter → List ℕ → List (TimedEntry K)) (line : ℕ → K → List ℕ) (Written : K → Type 0) (Short : ℕ → K → Type 0) → BelowSteps → KeptTextLaws kind read line Written Short
    → (history : List (Past K)) (old : List ℕ) (life t last : ℕ) (what : K) → is_whole old ≡ true → 0 < t → t < 2 ^ 64 - 1 → Written what → Short 9216 what → AreKept kind read history old
    → AreKept kind read (history ++ record { life = life; entry = record { time = t; key = what } } ∷ []) (old ++ kept_bytes kind t (line t what) last)
entered {K} kind read line Written Short laws texts history old life t last what whole some small told short kept =
    let front : List ℕ = front_of kind t last in
    subst (λ (l : List ℕ). AreKept kind read (history ++ record { life = life; entry = record { time = t; key = what } } ∷ []) l) (append_assoc old (front_of kind t last) (line t what))
    (texts.line_kept history (old ++ front_of kind t last) life t what (whole-front laws kind old t last whole) some small told short (texts.grows history old (front_of kind t last) kept))

enters_event : BelowSteps → (t : ℕ) (what : EventBody) (i : IdealAgent) → IsKeptSound i → IsSnapshotSound i.snapshot → i.snapshot.stopped ≡ false → 0 < t → t < 2 ^ 64 - 1 → IsWritable what → texts_len what ≤ 9216
    → IsKeptSound (with_snapshot (kept_appended kinds.Event t (line_of_event t what) i.snapshot Kept) (event_entered t what i))
enters_event laws t what i had sound runs some small told short durable =
    let next : IdealAgent = with_snapshot (kept_appended kinds.Event t (line_of_event t what) i.snapshot Kept) (event_entered t what i) in
    let bytes : List ℕ = kept_bytes kinds.Event t (line_of_event t what) i.snapshot.event_clock in
    appended (HasKept i) (HasKept next) i.snapshot bytes durable had sound runs (λ old whole before. record {
      events = entered kinds.Event kept_events line_of_event IsWritable IsShort laws laws.event_texts i.events.history old i.life t i.snapshot.event_clock what whole some small told short before.events;
      queries = laws.query_texts.grows i.queries.history old bytes before.queries;
    })

enters_query : BelowSteps → (t id : ℕ) (i : IdealAgent) → IsKeptSound i → IsSnapshotSound i.snapshot → i.snapshot.stopped ≡ false → 0 < t → t < 2 ^ 64 - 1 → IsIdWritable id
    → IsKeptSound (with_snapshot (kept_appended kinds.Query t (query_line t id) i.snapshot Kept) (query_entered t id i))
enters_query laws t id i had sound runs some small told durable =
    let next : IdealAgent = with_snapshot (kept_appended kinds.Query t (query_line t id) i.snapshot Kept) (query_entered t id i) in
    let bytes : List ℕ = kept_bytes kinds.Query t (query_line t id) i.snapshot.query_clock in
    appended (HasKept i) (HasKept next) i.snapshot bytes durable had sound runs (λ old whole before. record {
      events = laws.event_texts.grows i.events.history old bytes before.events;
      queries = entered kinds.Query kept_queries query_line IsIdWritable IsIdShort laws laws.query_texts i.queries.history old i.life t i.snapshot.query_clock id whole some small told (omega arith) before.queries;
    })

-- ---- lines that enter nothing

-- what was entered is kept if the durable text grows
still-kept : BelowSteps → (i : IdealAgent) (s : SnapshotView) → IsKeptSound i → GrowsTo i.snapshot.durable s.durable → IsKeptSound (with_snapshot s i)
still-kept laws i s had grows durable at =
    let g = grows durable at in
    let before : HasKept i g.0 = had g.0 g.2 in
    let after : HasKept i (g.0 ++ g.1) = record { events = laws.event_texts.grows i.events.history g.0 g.1 before.events; queries = laws.query_texts.grows i.queries.history g.0 g.1 before.queries } in
    let next : HasKept i durable = subst (HasKept i) g.3 after in
    record { events = next.events; queries = next.queries }

tells : BelowSteps → (kind : ClockKind) (t : ℕ) (line : List ℕ) (i : IdealAgent) → IsKeptSound i → IsKeptSound (with_snapshot (kept_appended kind t line i.snapshot Kept) i)
tells laws kind t line i had = still-kept laws i (kept_appended kind t line i.snapshot Kept) had (noted-grows kind t (Some line) i.snapshot)

saves : BelowSteps → (t : ℕ) (i : IdealAgent) → IsKeptSound i → IsKeptSound (with_snapshot (noted kinds.Member t i.snapshot Kept) i)
saves laws t i had = still-kept laws i (noted kinds.Member t i.snapshot Kept) had (noted-grows kinds.Member t None i.snapshot)

fails : BelowSteps → (kind : ClockKind) (t : ℕ) (bytes : List ℕ) (durable : Option (List ℕ)) (i : IdealAgent) → IsKeptSound i → KeepsPart i.snapshot.durable bytes durable → IsKeptSound (with_snapshot (written kind t i.snapshot (Failed durable)) i)
fails laws kind t bytes durable i had part = still-kept laws i (written kind t i.snapshot (Failed durable)) had (part-grows i.snapshot.durable durable bytes part)

pub kept_append_line_laws : BelowSteps → KeptAppendLineLaws
kept_append_line_laws laws = record { enters_event = enters_event laws; enters_query = enters_query laws; tells = tells laws; saves = saves laws; fails = fails laws }
