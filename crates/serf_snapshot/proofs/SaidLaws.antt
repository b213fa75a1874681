-- Which events and which queries a text contains: those of its parts, one part after the other, and only from lines of
-- their own kind.
use Rattle.serf_snapshot.proofs.Names.{Bool, List, None, Option, Some, [], ap, cond, false, refl, true, ℕ, ◌++◌, ◌-◌, ◌<◌, ◌==◌, ◌^◌, ◌∙◌, ◌∷◌, ◌≡◌, flat_map-append, decimal, IsBytes, clock_line, compacted_text, is_whole, line_above_zero, lines_of, prefix_of, event_line, event_of_line, event_text, events_in, if_event_wanted, if_query_wanted, if_wanted, is_event_wanted, is_query_wanted, kept_clock_line, kept_clock_text, kept_query, min_line, min_text, queries_in, query_line, query_of_line, query_text, said_by_lines, kept_compaction_of, kept_line_above_zero, SnapshotView, timed_event, EntryFilter, ClockKind, Event, Member, Query}
use Rattle.serf_snapshot.proofs.ClockLaws.{has_no_newline, is_whole-above_zero, lines_of-append, prefix_no_newline}
use Rattle.serf_snapshot.proofs.EventLineLaws.{events-line, no_newline-decimal, no_newline-event, no_newline-query, queries-line}
use Rattle.serf_snapshot.proofs.KeptAppendLineLaws.{is_whole-kept_above}
use Rattle.serf_snapshot.proofs.MinTimeLaws.{kept_no_newline, min_no_newline}
use Rattle.serf_snapshot.proofs.SayLaws.{append_nil, say-line}

-- ---- what a reader of one kind of items reads

-- what a reader gets from a text, if it reads a line with `item` and selects with `wanted`
abbrev reads : {T : Type 0} → (List ℕ → Option T) → (T → Bool) → List ℕ → List T
reads item wanted text = said_by_lines item wanted (lines_of text)

reads-joined : {T : Type 0} (item : List ℕ → Option T) (wanted : T → Bool) (front tail : List ℕ) → is_whole front ≡ true → reads item wanted (front ++ tail) ≡ reads item wanted front ++ reads item wanted tail
reads-joined item wanted front tail whole = ap (said_by_lines item wanted) (lines_of-append front tail whole) ∙ flat_map-append (λ (line : List ℕ). if_wanted wanted (item line)) (lines_of front) (lines_of tail)

-- a part from which nothing is read adds nothing
reads-following : {T : Type 0} (item : List ℕ → Option T) (wanted : T → Bool) (front tail : List ℕ) → is_whole front ≡ true → reads item wanted tail ≡ [] → reads item wanted (front ++ tail) ≡ reads item wanted front
reads-following {T} item wanted front tail whole none = reads-joined item wanted front tail whole ∙ ap (λ (l : List T). reads item wanted front ++ l) none ∙ append_nil (reads item wanted front)

-- a line that isn't one of the reader's items
reads-none : {T : Type 0} (item : List ℕ → Option T) (wanted : T → Bool) (line : List ℕ) → has_no_newline line ≡ true → item line ≡ None → reads item wanted (line ++ 10 ∷ []) ≡ []
reads-none item wanted line one none = say-line (λ (l : List ℕ). if_wanted wanted (item l)) [] line refl one ∙ ap (if_wanted wanted) none

-- a clock line and a `#least` line aren't items
record IsOther {T : Type 0} (item : List ℕ → Option T) : Type 0 where
  clock : (k : ClockKind) (digits : List ℕ) → item (prefix_of k ++ digits) ≡ None
  lowest : (k : ClockKind) (t : ℕ) → item (min_text k t) ≡ None

reads-clock_line : {T : Type 0} (item : List ℕ → Option T) (wanted : T → Bool) → IsOther item → (k : ClockKind) (t : ℕ) → reads item wanted (clock_line k t) ≡ []
reads-clock_line item wanted other k t = reads-none item wanted (prefix_of k ++ decimal t) (prefix_no_newline k (decimal t) (no_newline-decimal t)) (other.clock k (decimal t))

reads-kept_clock_line : {T : Type 0} (item : List ℕ → Option T) (wanted : T → Bool) → IsOther item → (k : ClockKind) (t : ℕ) → reads item wanted (kept_clock_line k t) ≡ []
reads-kept_clock_line item wanted other k t = reads-none item wanted (kept_clock_text k t) (kept_no_newline k t) (other.clock k (48 ∷ decimal t))

reads-min_line : {T : Type 0} (item : List ℕ → Option T) (wanted : T → Bool) → IsOther item → (k : ClockKind) (t : ℕ) → reads item wanted (min_line k t) ≡ []
reads-min_line item wanted other k t = reads-none item wanted (min_text k t) (min_no_newline k t) (other.lowest k t)

-- ---- compactions

reads-above_zero : {T : Type 0} (item : List ℕ → Option T) (wanted : T → Bool) → IsOther item → (k : ClockKind) (t : ℕ) → reads item wanted (line_above_zero k t) ≡ []
reads-above_zero item wanted other k t = by (t == 0)
  where
    by : (b : Bool) → reads item wanted (cond b [] (clock_line k t)) ≡ []
    by true = refl
    by false = reads-clock_line item wanted other k t

reads-kept_above : {T : Type 0} (item : List ℕ → Option T) (wanted : T → Bool) → IsOther item → (k : ClockKind) (t : ℕ) → reads item wanted (kept_line_above_zero k t) ≡ []
reads-kept_above item wanted other k t = by (t == 0)
  where
    by : (b : Bool) → reads item wanted (cond b [] (kept_clock_line k t)) ≡ []
    by true = refl
    by false = reads-kept_clock_line item wanted other k t

reads-compacted : {T : Type 0} (item : List ℕ → Option T) (wanted : T → Bool) → IsOther item → (m e q : ℕ) → reads item wanted (compacted_text m e q) ≡ []
reads-compacted item wanted other m e q =
    let first : is_whole (line_above_zero Member m) ≡ true = is_whole-above_zero Member [] m refl in
    let both : is_whole (line_above_zero Member m ++ line_above_zero Event e) ≡ true = is_whole-above_zero Event (line_above_zero Member m) e first in
    reads-following item wanted (line_above_zero Member m ++ line_above_zero Event e) (line_above_zero Query q) both (reads-above_zero item wanted other Query q)
    ∙ reads-following item wanted (line_above_zero Member m) (line_above_zero Event e) first (reads-above_zero item wanted other Event e)
    ∙ reads-above_zero item wanted other Member m

reads-kept_compaction : {T : Type 0} (item : List ℕ → Option T) (wanted : T → Bool) → IsOther item → (lines : List ℕ) (s : SnapshotView) → is_whole lines ≡ true → reads item wanted (kept_compaction_of lines s) ≡ reads item wanted lines
reads-kept_compaction item wanted other lines s whole =
    let member : List ℕ = lines ++ line_above_zero Member s.member_clock in
    let event : List ℕ = member ++ kept_line_above_zero Event s.event_clock in
    let member_whole : is_whole member ≡ true = is_whole-above_zero Member lines s.member_clock whole in
    let event_whole : is_whole event ≡ true = is_whole-kept_above Event member s.event_clock member_whole in
    reads-following item wanted event (kept_line_above_zero Query s.query_clock) event_whole (reads-kept_above item wanted other Query s.query_clock)
    ∙ reads-following item wanted member (kept_line_above_zero Event s.event_clock) member_whole (reads-kept_above item wanted other Event s.event_clock)
    ∙ reads-following item wanted lines (line_above_zero Member s.member_clock) whole (reads-above_zero item wanted other Member s.member_clock)

-- ---- events

no_event : IsOther event_of_line
no_event = record { clock = clock; lowest = lowest }
  where
    clock : (k : ClockKind) (digits : List ℕ) → event_of_line (prefix_of k ++ digits) ≡ None
    clock Member digits = refl
    clock Event digits = refl
    clock Query digits = refl

    lowest : (k : ClockKind) (t : ℕ) → event_of_line (min_text k t) ≡ None
    lowest Member t = refl
    lowest Event t = refl
    lowest Query t = refl

pub said-joined : (w : EntryFilter) (front tail : List ℕ) → is_whole front ≡ true → events_in w (front ++ tail) ≡ events_in w front ++ events_in w tail
said-joined w = reads-joined event_of_line (is_event_wanted w)

pub said-clock_line : (w : EntryFilter) (k : ClockKind) (t : ℕ) → events_in w (clock_line k t) ≡ []
said-clock_line w = reads-clock_line event_of_line (is_event_wanted w) no_event

pub said-kept_clock_line : (w : EntryFilter) (k : ClockKind) (t : ℕ) → events_in w (kept_clock_line k t) ≡ []
said-kept_clock_line w = reads-kept_clock_line event_of_line (is_event_wanted w) no_event

pub said-query_line : (w : EntryFilter) (t id : ℕ) → events_in w (query_line t id) ≡ []
said-query_line w t id = reads-none event_of_line (is_event_wanted w) (query_text t id) (no_newline-query t id) refl

pub said-min_line : (w : EntryFilter) (k : ClockKind) (t : ℕ) → events_in w (min_line k t) ≡ []
said-min_line w = reads-min_line event_of_line (is_event_wanted w) no_event

pub said-event_line : (w : EntryFilter) (t : ℕ) (name payload : List ℕ) → 0 < t → t < 2 ^ 64 - 1 → IsBytes name → IsBytes payload
    → events_in w (event_line t name payload) ≡ if_event_wanted w (Some (timed_event t name payload))
said-event_line w t name payload some small n p = events-line w [] t name payload refl some small n p

pub said-compacted : (w : EntryFilter) (m e q : ℕ) → events_in w (compacted_text m e q) ≡ []
said-compacted w = reads-compacted event_of_line (is_event_wanted w) no_event

pub said-kept_compaction : (w : EntryFilter) (lines : List ℕ) (s : SnapshotView) → is_whole lines ≡ true → events_in w (kept_compaction_of lines s) ≡ events_in w lines
said-kept_compaction w = reads-kept_compaction event_of_line (is_event_wanted w) no_event

-- ---- queries

no_query : IsOther query_of_line
no_query = record { clock = clock; lowest = lowest }
  where
    clock : (k : ClockKind) (digits : List ℕ) → query_of_line (prefix_of k ++ digits) ≡ None
    clock Member digits = refl
    clock Event digits = refl
    clock Query digits = refl

    lowest : (k : ClockKind) (t : ℕ) → query_of_line (min_text k t) ≡ None
    lowest Member t = refl
    lowest Event t = refl
    lowest Query t = refl

pub asked-joined : (w : EntryFilter) (front tail : List ℕ) → is_whole front ≡ true → queries_in w (front ++ tail) ≡ queries_in w front ++ queries_in w tail
asked-joined w = reads-joined query_of_line (is_query_wanted w)

pub asked-clock_line : (w : EntryFilter) (k : ClockKind) (t : ℕ) → queries_in w (clock_line k t) ≡ []
asked-clock_line w = reads-clock_line query_of_line (is_query_wanted w) no_query

pub asked-kept_clock_line : (w : EntryFilter) (k : ClockKind) (t : ℕ) → queries_in w (kept_clock_line k t) ≡ []
asked-kept_clock_line w = reads-kept_clock_line query_of_line (is_query_wanted w) no_query

pub asked-event_line : (w : EntryFilter) (t : ℕ) (name payload : List ℕ) → queries_in w (event_line t name payload) ≡ []
asked-event_line w t name payload = reads-none query_of_line (is_query_wanted w) (event_text t name payload) (no_newline-event t name payload) refl

pub asked-min_line : (w : EntryFilter) (k : ClockKind) (t : ℕ) → queries_in w (min_line k t) ≡ []
asked-min_line w = reads-min_line query_of_line (is_query_wanted w) no_query

pub asked-query_line : (w : EntryFilter) (t id : ℕ) → 0 < t → t < 2 ^ 64 - 1 → id < 2 ^ 32 → queries_in w (query_line t id) ≡ if_query_wanted w (Some (kept_query t id))
asked-query_line w t id some small low = queries-line w [] t id refl some small low

pub asked-compacted : (w : EntryFilter) (m e q : ℕ) → queries_in w (compacted_text m e q) ≡ []
asked-compacted w = reads-compacted query_of_line (is_query_wanted w) no_query

pub asked-kept_compaction : (w : EntryFilter) (lines : List ℕ) (s : SnapshotView) → is_whole lines ≡ true → queries_in w (kept_compaction_of lines s) ≡ queries_in w lines
asked-kept_compaction w = reads-kept_compaction query_of_line (is_query_wanted w) no_query
