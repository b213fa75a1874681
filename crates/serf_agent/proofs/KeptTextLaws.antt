-- What a text keeps of what was handed out, and what an opening restores from it, for events and for queries alike.
use Rattle.serf_agent.proofs.Names.{Bool, List, None, Option, Some, [], ap, arith, cond, false, inl, inr, length, map, max, refl, subst, suc, sym, true, zero, ℕ, ◌++◌, ◌+◌, ◌-◌, ◌<◌, ◌^◌, ◌∙◌, ◌∷◌, ◌≡◌, ◌≤◌, ◌⊎◌, and_from, and_parts, cases_lt, le-leb, leb-true, lt-ltb, ltb-true, map-append, All-append, All-cons, All-contains, All-map, All-nil, All-push, All-weaker, Contains-append_cases, Contains-append_left, Contains-append_right, All, Contains, slice_index_or, AreBytes, clock_line, is_whole, lines_of, event_line, event_of_line, events_in, if_event_wanted, if_query_wanted, if_wanted, is_event_wanted, is_query_wanted, kept_query, min_in, queries_in, query_line, query_of_line, said_by_lines, TimedEvent, timed_event, KeptQuery, EntryFilter, ClockKind, TimedEntry, Past, IsHad, entries_in, opened_clock, AreKept, IsIdShort, IsIdWritable, IsShort, IsWritable, KeptEventLaws, KeptQueryLaws, event_entry, kept_events, kept_queries, line_of_event, query_entry, whatever, within_reach}
use Rattle.serf_snapshot.specs.declared.kind.ClockKind.TheVariants as kinds
use Rattle.serf_agent.proofs.KeepingLaws.{of-entries}

-- ---- what the crate below promises about minimum times, and about a line that is written

pub record MinLaws : Type 0 where
  pub grows : (k : ClockKind) (front tail : List ℕ) → min_in k front ≤ min_in k (front ++ tail)
  pub clock_line : (k : ClockKind) (text : List ℕ) (t : ℕ) → is_whole text ≡ true → 0 < t → t < 2 ^ 64 - 1 → min_in k (text ++ clock_line k t) ≡ max (min_in k text) (t + 1)

pub record EventLaws : Type 0 where
  pub written : (w : EntryFilter) (text : List ℕ) (t : ℕ) (name payload : List ℕ) → is_whole text ≡ true → 0 < t → t < 2 ^ 64 - 1 → AreBytes name → AreBytes payload
      → events_in w (text ++ event_line t name payload) ≡ events_in w text ++ if_event_wanted w (Some (timed_event t name payload))
  pub grow : (w : EntryFilter) (front tail : List ℕ) → (more : List TimedEvent) × (events_in w (front ++ tail) ≡ events_in w front ++ more)

pub record QueryLaws : Type 0 where
  pub written : (w : EntryFilter) (text : List ℕ) (t id : ℕ) → is_whole text ≡ true → 0 < t → t < 2 ^ 64 - 1 → id < 2 ^ 32 → queries_in w (text ++ query_line t id) ≡ queries_in w text ++ if_query_wanted w (Some (kept_query t id))
  pub grow : (w : EntryFilter) (front tail : List ℕ) → (more : List KeptQuery) × (queries_in w (front ++ tail) ≡ queries_in w front ++ more)

-- ---- what a line contains

-- the entries that are read from lines
abbrev pub entries_said : {K T : Type 0} → (List ℕ → Option T) → (T → Bool) → (T → TimedEntry K) → List (List ℕ) → List (TimedEntry K)
entries_said item wanted entry lines = map entry (said_by_lines item wanted lines)

only : {X : Type 0} (x e : X) (k : ℕ) → k < 1 → slice_index_or (x ∷ []) k e ≡ e → x ≡ e
only x e zero lt is = is
only x e (suc k) lt is = absurd (omega arith)

-- an item that is read is still read with a filter that accepts at least as much
read-one : {K T : Type 0} (v w : T → Bool) (entry : T → TimedEntry K) (e : TimedEntry K) → ((d : T) → entry d ≡ e → v d ≡ true → w d ≡ true) → (o : Option T) → Contains (map entry (if_wanted v o)) e → Contains (map entry (if_wanted w o)) e
read-one v w entry e wider None h = absurd (omega (arith, h.1))
read-one {K} {T} v w entry e wider (Some d) h = by (v d) refl h
  where
    by : (b : Bool) → v d ≡ b → Contains (map entry (cond b (d ∷ []) [])) e → Contains (map entry (cond (w d) (d ∷ []) [])) e
    by false is h = absurd (omega (arith, h.1))
    by true is h =
        let passes : w d ≡ true = wider d (only (entry d) e h.0 h.1 h.2) is in
        subst (λ (b : Bool). Contains (map entry (cond b (d ∷ []) [])) e) (sym passes) h

pub read-lines : {K T : Type 0} (item : List ℕ → Option T) (v w : T → Bool) (entry : T → TimedEntry K) (e : TimedEntry K) → ((d : T) → entry d ≡ e → v d ≡ true → w d ≡ true) → (lines : List (List ℕ)) → Contains (entries_said item v entry lines) e
    → Contains (entries_said item w entry lines) e
read-lines item v w entry e wider [] h = absurd (omega (arith, h.1))
read-lines {K} {T} item v w entry e wider (l ∷ ls) h =
    let here : List (TimedEntry K) = map entry (if_wanted w (item l)) in
    let old = map-append entry (if_wanted v (item l)) (said_by_lines item v ls) in
    let new = map-append entry (if_wanted w (item l)) (said_by_lines item w ls) in
    let there : Contains (map entry (if_wanted v (item l)) ++ entries_said item v entry ls) e = subst (λ (es : List (TimedEntry K)). Contains es e) old h in
    subst (λ (es : List (TimedEntry K)). Contains es e) (sym new) (elim (Contains-append_cases (map entry (if_wanted v (item l))) (entries_said item v entry ls) e there) [
      | inl first ↦ Contains-append_left here (entries_said item w entry ls) e (read-one v w entry e wider (item l) first)
      | inr later ↦ Contains-append_right here (entries_said item w entry ls) e (read-lines item v w entry e wider ls later)
    ])

-- each item that is read is accepted by the filter
all-wanted : {T : Type 0} (item : List ℕ → Option T) (w : T → Bool) (lines : List (List ℕ)) → All (λ d. w d ≡ true) (said_by_lines item w lines)
all-wanted {T} item w [] = All-nil (λ (d : T). w d ≡ true)
all-wanted {T} item w (l ∷ ls) = All-append (λ (d : T). w d ≡ true) (if_wanted w (item l)) (said_by_lines item w ls) (one (item l)) (all-wanted item w ls)
  where
    one : (o : Option T) → All (λ (d : T). w d ≡ true) (if_wanted w o)
    one None = All-nil (λ (d : T). w d ≡ true)
    one (Some d) = by (w d) refl
      where
        by : (b : Bool) → w d ≡ b → All (λ (x : T). w x ≡ true) (cond b (d ∷ []) [])
        by false is = All-nil (λ (x : T). w x ≡ true)
        by true is = All-cons (λ (x : T). w x ≡ true) d [] is (All-nil (λ (x : T). w x ≡ true))

-- ---- which items the filter accepts

-- How the items of a kind are read: their time and their length determine whether the filter accepts them.
pub record Reads {K T : Type 0} (wanted : EntryFilter → T → Bool) (entry : T → TimedEntry K) (Short : ℕ → K → Type 0) : Type 0 where
  pub passes : (w : EntryFilter) (d : T) → w.from ≤ (entry d).time → (entry d).time < w.below → Short w.longest (entry d).key → wanted w d ≡ true
  pub from : (w : EntryFilter) (d : T) → wanted w d ≡ true → w.from ≤ (entry d).time
  pub below : (w : EntryFilter) (d : T) → wanted w d ≡ true → (entry d).time < w.below
  pub short : (w : EntryFilter) (d : T) → wanted w d ≡ true → Short w.longest (entry d).key
  pub longer : (a b : ℕ) (key : K) → a ≤ b → Short a key → Short b key

pub reads_events : Reads is_event_wanted event_entry IsShort
reads_events = record {
  passes = λ w d from below short. and_from _ _ (and_from _ _ (le-leb w.from d.time from) (lt-ltb d.time w.below below)) (le-leb (length d.name + length d.payload) w.longest short);
  from = λ w d h. leb-true _ _ (and_parts _ _ (and_parts _ _ h).0).0;
  below = λ w d h. ltb-true _ _ (and_parts _ _ (and_parts _ _ h).0).1;
  short = λ w d h. leb-true _ _ (and_parts _ _ h).1;
  longer = λ a b key up h. omega arith;
}

pub reads_queries : Reads is_query_wanted query_entry IsIdShort
reads_queries = record {
  passes = λ w d from below short. and_from _ _ (le-leb w.from d.time from) (lt-ltb d.time w.below below);
  from = λ w d h. leb-true _ _ (and_parts _ _ h).0;
  below = λ w d h. ltb-true _ _ (and_parts _ _ h).1;
  short = λ w d h. omega arith;
  longer = λ a b key up h. omega arith;
}

-- ---- a kind's texts

-- what a reader of a kind does with a longer text, and with one more line
record Grows {K : Type 0} (read : EntryFilter → List ℕ → List (TimedEntry K)) (line : ℕ → K → List ℕ) (Written : K → Type 0) (Short : ℕ → K → Type 0) : Type 0 where
  tail : (text tail : List ℕ) → (more : List (TimedEntry K)) × (read whatever (text ++ tail) ≡ read whatever text ++ more)
  written : (text : List ℕ) (t : ℕ) (what : K) → is_whole text ≡ true → 0 < t → t < 2 ^ 64 - 1 → Written what → Short 9216 what → read whatever (text ++ line t what) ≡ read whatever text ++ record { time = t; key = what } ∷ []

grows : {K : Type 0} (kind : ClockKind) (read : EntryFilter → List ℕ → List (TimedEntry K)) → MinLaws → ((text tail : List ℕ) → (more : List (TimedEntry K)) × (read whatever (text ++ tail) ≡ read whatever text ++ more))
    → (history : List (Past K)) (text tail : List ℕ) → AreKept kind read history text → AreKept kind read history (text ++ tail)
grows {K} kind read lowest more history text tail kept =
    All-weaker (λ (p : Past K). (p.entry.time < min_in kind text) ⊎ Contains (read whatever text) p.entry) (λ (p : Past K). (p.entry.time < min_in kind (text ++ tail)) ⊎ Contains (read whatever (text ++ tail)) p.entry)
    (λ p h. one p.entry h) history kept
  where
    one : (e : TimedEntry K) → (e.time < min_in kind text) ⊎ Contains (read whatever text) e → (e.time < min_in kind (text ++ tail)) ⊎ Contains (read whatever (text ++ tail)) e
    one e (inl low) = inl (omega (arith, lowest.grows kind text tail))
    one e (inr there) = let g = more text tail in inr (subst (λ (l : List (TimedEntry K)). Contains l e) (sym g.1) (Contains-append_left (read whatever text) g.0 e there))

line_kept : {K : Type 0} (kind : ClockKind) (read : EntryFilter → List ℕ → List (TimedEntry K)) (line : ℕ → K → List ℕ) (Written : K → Type 0) (Short : ℕ → K → Type 0) → MinLaws → Grows read line Written Short
    → (history : List (Past K)) (text : List ℕ) (life t : ℕ) (what : K) → is_whole text ≡ true → 0 < t → t < 2 ^ 64 - 1 → Written what → Short 9216 what → AreKept kind read history text
    → AreKept kind read (history ++ record { life = life; entry = record { time = t; key = what } } ∷ []) (text ++ line t what)
line_kept {K} kind read line Written Short lowest more history text life t what whole some small told short kept =
    let e : TimedEntry K = record { time = t; key = what } in
    All-push (λ (p : Past K). (p.entry.time < min_in kind (text ++ line t what)) ⊎ Contains (read whatever (text ++ line t what)) p.entry) history (record { life = life; entry = e })
    (grows kind read lowest more.tail history text (line t what) kept)
    (inr (subst (λ (l : List (TimedEntry K)). Contains l e) (sym (more.written text t what whole some small told short)) (Contains-append_right (read whatever text) (e ∷ []) e (0, omega arith, refl))))

after_clock_line : {K : Type 0} (kind : ClockKind) (read : EntryFilter → List ℕ → List (TimedEntry K)) → MinLaws → ((text tail : List ℕ) → (more : List (TimedEntry K)) × (read whatever (text ++ tail) ≡ read whatever text ++ more))
    → (history : List (Past K)) (text : List ℕ) (life t last : ℕ) (what : K) → is_whole text ≡ true → t ≤ last → 0 < last → last < 2 ^ 64 - 1 → AreKept kind read history text
    → AreKept kind read (history ++ record { life = life; entry = record { time = t; key = what } } ∷ []) (text ++ clock_line kind last)
after_clock_line {K} kind read lowest more history text life t last what whole within some small kept =
    All-push (λ (p : Past K). (p.entry.time < min_in kind (text ++ clock_line kind last)) ⊎ Contains (read whatever (text ++ clock_line kind last)) p.entry) history
    (record { life = life; entry = record { time = t; key = what } }) (grows kind read lowest more history text (clock_line kind last) kept) (inl (omega (arith, lowest.clock_line kind text last whole some small)))

-- what an opening reads from a text with this last clock and this minimum time, of a kind whose items are read in this
-- way
abbrev reached : {K T : Type 0} → (List ℕ → Option T) → (EntryFilter → T → Bool) → (T → TimedEntry K) → ℕ → ℕ → ℕ → List ℕ → List (TimedEntry K)
reached item wanted entry n last lowest text = entries_said item (wanted (within_reach n last lowest)) entry (lines_of text)

had-one : {K T : Type 0} (item : List ℕ → Option T) (wanted : EntryFilter → T → Bool) (entry : T → TimedEntry K) (Short : ℕ → K → Type 0) → Reads wanted entry Short → (n last lowest : ℕ) (text : List ℕ) (e : TimedEntry K) → e.time ≤ last → Short 9216 e.key
    → (e.time < lowest) ⊎ Contains (entries_said item (wanted whatever) entry (lines_of text)) e → IsHad n last lowest (reached item wanted entry n last lowest text) e
had-one item wanted entry Short reads n last lowest text e under small (inl low) = inl low
had-one {K} {T} item wanted entry Short reads n last lowest text e under small (inr there) = elim (cases_lt e.time lowest) [
  | inl low ↦ inl low
  | inr high ↦ elim (cases_lt (e.time + n) (opened_clock last lowest)) [
    | inl old ↦ inr (inl old)
    | inr young ↦ inr (inr (read-lines item (wanted whatever) (wanted (within_reach n last lowest)) entry e (λ x is _. passing high young x is) (lines_of text) there))
  ]
]
  where
    passing : lowest ≤ e.time → opened_clock last lowest ≤ e.time + n → (x : T) → entry x ≡ e → wanted (within_reach n last lowest) x ≡ true
    passing high young x is =
        let time : (entry x).time ≡ e.time = ap (λ (y : TimedEntry K). y.time) is in
        reads.passes (within_reach n last lowest) x (omega arith) (omega arith) (subst (λ (y : TimedEntry K). Short 9216 y.key) (sym is) small)

had : {K T : Type 0} (kind : ClockKind) (item : List ℕ → Option T) (wanted : EntryFilter → T → Bool) (entry : T → TimedEntry K) (Short : ℕ → K → Type 0) → Reads wanted entry Short
    → (n last : ℕ) (history : List (Past K)) (text : List ℕ) → All (λ p. p.entry.time ≤ last) history → All (λ p. Short 9216 p.entry.key) history → AreKept kind (λ w t. entries_said item (wanted w) entry (lines_of t)) history text
    → All (λ p. IsHad n last (min_in kind text) (reached item wanted entry n last (min_in kind text) text) p.entry) history
had {K} {T} kind item wanted entry Short reads n last history text within short kept k d inside =
    had-one item wanted entry Short reads n last (min_in kind text) text (slice_index_or history k d).entry (within k d inside) (short k d inside) (kept k d inside)

inside : {K T : Type 0} (item : List ℕ → Option T) (wanted : EntryFilter → T → Bool) (entry : T → TimedEntry K) (Short : ℕ → K → Type 0) → Reads wanted entry Short → (n last lowest : ℕ) (text : List ℕ)
    → All (λ e. (e.time ≤ last) × Short 9216 e.key) (reached item wanted entry n last lowest text)
inside {K} {T} item wanted entry Short reads n last lowest text =
    let reach : EntryFilter = within_reach n last lowest in
    All-map (λ (e : TimedEntry K). (e.time ≤ last) × Short 9216 e.key) entry (said_by_lines item (wanted reach) (lines_of text))
    (All-weaker (λ (d : T). wanted reach d ≡ true) (λ (d : T). ((entry d).time ≤ last) × Short 9216 (entry d).key)
    (λ d is. let under : (entry d).time < last + 1 = reads.below reach d is in (omega arith, reads.short reach d is))
    (said_by_lines item (wanted reach) (lines_of text)) (all-wanted item (wanted reach) (lines_of text)))

-- what an opening reads from a text is in the text
pub stands-read : {K T : Type 0} (item : List ℕ → Option T) (wanted : EntryFilter → T → Bool) (entry : T → TimedEntry K) (Short : ℕ → K → Type 0) → Reads wanted entry Short → (n last lowest : ℕ) (text : List ℕ) (e : TimedEntry K) → last < 2 ^ 64 - 1 → Contains (reached item wanted entry n last lowest text) e
    → Contains (entries_said item (wanted whatever) entry (lines_of text)) e
stands-read {K} {T} item wanted entry Short reads n last lowest text e small there = read-lines item (wanted reach) (wanted whatever) entry e (λ d _ is. passing d is) (lines_of text) there
  where
    reach : EntryFilter
    reach = within_reach n last lowest

    passing : (d : T) → wanted reach d ≡ true → wanted whatever d ≡ true
    passing d is =
        let under : (entry d).time < last + 1 = reads.below reach d is in
        reads.passes whatever d (omega arith) (omega (arith, under, small)) (reads.longer 9216 (2 ^ 64 - 1) (entry d).key (omega arith) (reads.short reach d is))

stays : {K T : Type 0} (kind : ClockKind) (item : List ℕ → Option T) (wanted : EntryFilter → T → Bool) (entry : T → TimedEntry K) (Short : ℕ → K → Type 0) → Reads wanted entry Short
    → (n last : ℕ) (history new : List (Past K)) (text : List ℕ) → last < 2 ^ 64 - 1 → AreKept kind (λ w t. entries_said item (wanted w) entry (lines_of t)) history text
    → All (Contains (entries_in history ++ reached item wanted entry n last (min_in kind text) text)) (entries_in new) → AreKept kind (λ w t. entries_said item (wanted w) entry (lines_of t)) new text
stays {K} {T} kind item wanted entry Short reads n last history new text small kept from =
    of-entries Stands new (All-weaker (Contains (entries_in history ++ taken)) Stands (λ e there. by e (Contains-append_cases (entries_in history) taken e there)) (entries_in new) from)
  where
    taken : List (TimedEntry K)
    taken = reached item wanted entry n last (min_in kind text) text

    Stands : TimedEntry K → Type 0
    Stands e = (e.time < min_in kind text) ⊎ Contains (entries_said item (wanted whatever) entry (lines_of text)) e

    by : (e : TimedEntry K) → Contains (entries_in history) e ⊎ Contains taken e → Stands e
    by e (inl old) = All-contains Stands (entries_in history) e (All-map Stands (λ (p : Past K). p.entry) history kept) old
    by e (inr back) = inr (stands-read item wanted entry Short reads n last (min_in kind text) text e small back)

-- ---- of events, and of queries

map-grown : {K T : Type 0} (entry : T → TimedEntry K) (all old more : List T) → all ≡ old ++ more → map entry all ≡ map entry old ++ map entry more
map-grown entry all old more is = ap (map entry) is ∙ map-append entry old more

grows_events : EventLaws → Grows kept_events line_of_event IsWritable IsShort
grows_events laws = record {
  tail = λ text tail. let g = laws.grow whatever text tail in (map event_entry g.0, map-grown event_entry (events_in whatever (text ++ tail)) (events_in whatever text) g.0 g.1);
  written = λ text t what whole some small told short.
      let d : TimedEvent = timed_event t what.name what.payload in
      let passes : is_event_wanted whatever d ≡ true = reads_events.passes whatever d (omega arith) small (omega arith) in
      let written : events_in whatever (text ++ event_line t what.name what.payload) ≡ events_in whatever text ++ d ∷ [] =
      laws.written whatever text t what.name what.payload whole some small told.name told.payload ∙ ap (λ (b : Bool). events_in whatever text ++ cond b (d ∷ []) []) passes in
      map-grown event_entry (events_in whatever (text ++ event_line t what.name what.payload)) (events_in whatever text) (d ∷ []) written;
}

grows_queries : QueryLaws → Grows kept_queries query_line IsIdWritable IsIdShort
grows_queries laws = record {
  tail = λ text tail. let g = laws.grow whatever text tail in (map query_entry g.0, map-grown query_entry (queries_in whatever (text ++ tail)) (queries_in whatever text) g.0 g.1);
  written = λ text t id whole some small low short.
      let d : KeptQuery = kept_query t id in
      let passes : is_query_wanted whatever d ≡ true = reads_queries.passes whatever d (omega arith) small (omega arith) in
      let written : queries_in whatever (text ++ query_line t id) ≡ queries_in whatever text ++ d ∷ [] =
      laws.written whatever text t id whole some small low ∙ ap (λ (b : Bool). queries_in whatever text ++ cond b (d ∷ []) []) passes in
      map-grown query_entry (queries_in whatever (text ++ query_line t id)) (queries_in whatever text) (d ∷ []) written;
}

pub kept_event_laws : MinLaws → EventLaws → KeptEventLaws
kept_event_laws lowest laws = record {
  grows = grows kinds.Event kept_events lowest (grows_events laws).tail;
  line_kept = line_kept kinds.Event kept_events line_of_event IsWritable IsShort lowest (grows_events laws);
  clock_line_kept = after_clock_line kinds.Event kept_events lowest (grows_events laws).tail;
  had = had kinds.Event event_of_line is_event_wanted event_entry IsShort reads_events;
  inside = inside event_of_line is_event_wanted event_entry IsShort reads_events;
  stays = stays kinds.Event event_of_line is_event_wanted event_entry IsShort reads_events;
}

pub kept_query_laws : MinLaws → QueryLaws → KeptQueryLaws
kept_query_laws lowest laws = record {
  grows = grows kinds.Query kept_queries lowest (grows_queries laws).tail;
  line_kept = line_kept kinds.Query kept_queries query_line IsIdWritable IsIdShort lowest (grows_queries laws);
  clock_line_kept = after_clock_line kinds.Query kept_queries lowest (grows_queries laws).tail;
  had = had kinds.Query query_of_line is_query_wanted query_entry IsIdShort reads_queries;
  inside = inside query_of_line is_query_wanted query_entry IsIdShort reads_queries;
  stays = stays kinds.Query query_of_line is_query_wanted query_entry IsIdShort reads_queries;
}
