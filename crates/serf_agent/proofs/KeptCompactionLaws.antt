-- The text of a compaction of an agent that keeps its events has everything that was entered.
use Rattle.serf_agent.proofs.Names.{Bool, List, [], ap, append-nil, append_assoc, arith, cond, false, filter, inl, inr, length, map, max, nat_lt, refl, subst, sym, true, ℕ, ◌%◌, ◌++◌, ◌+◌, ◌-◌, ◌<◌, ◌==◌, ◌^◌, ◌∙◌, ◌∷◌, ◌≡◌, ◌≤◌, cases_lt, eq-eqb, eqb-true, le-ltb, All-append, All-cons, All-contains, All-contains_itself, All-head, All-map, All-nil, All-tail, All-weaker, Contains-append_left, Contains-append_right, Contains-get_or, flat_map, All, Contains, EventBody, is_whole, line_above_zero, min_in, min_line, query_line, kept_compaction_of, kept_line_above_zero, AreTimes, EntryFilter, ClockKind, SlotLaws, SlotOf, TimedEntry, TimesBelow, empty_slot, held_at, held_of, slot_for, slots_of, IdealAgent, Past, Track, in_life, AreWritable, CompactionLaws, held_from, held_in, kept_lines, min_written, lines_written, stored_lines, HasKept, AreKept, IsIdShort, IsIdWritable, IsShort, IsWritable, KeptEventLaws, KeptQueryLaws, KeptTextLaws, kept_events, kept_queries, line_of_event, whatever, IsSound, IsTrackSound, of_life, view_of_track, view_of}
use Rattle.std.specs.Prelude.{◌⊎◌}
use Rattle.serf_snapshot.specs.declared.kind.ClockKind.TheVariants as kinds
use Rattle.serf_agent.proofs.KeepingLaws.{All-kept, Contains-entry, Contains-map, entries-in_life}
use Rattle.serf_agent.proofs.SoundLaws.{QuietLaws, kept-quiet}
use Rattle.serf_agent.proofs.TrackLaws.{of-life, slots-below}

-- ---- what the crates below promise

pub record BelowCompactions : Type 0 where
  pub event_slots : SlotLaws EventBody
  pub query_slots : SlotLaws ℕ
  pub event_texts : KeptEventLaws
  pub query_texts : KeptQueryLaws
  pub min_own : (k : ClockKind) (text : List ℕ) (t : ℕ) → is_whole text ≡ true → t ≤ 2 ^ 64 - 1 → min_in k (text ++ min_line k t) ≡ max (min_in k text) t
  pub min_grows : (k : ClockKind) (front tail : List ℕ) → min_in k front ≤ min_in k (front ++ tail)
  pub quiet : QuietLaws
  pub whole : (text line : List ℕ) → is_whole text ≡ true → is_whole line ≡ true → is_whole (text ++ line) ≡ true

-- the lines of what is stored of a track in a life
abbrev pub track_lines : {K : Type 0} → ClockKind → (ℕ → K → List ℕ) → ℕ → ℕ → ℕ → Track K → List ℕ
track_lines kind line n life last track = stored_lines kind line n last (view_of_track n life track)

-- ---- lists

Contains-flat_map : {A B : Type 0} (f : A → List B) (xs : List A) (x : A) (y : B) → Contains xs x → Contains (f x) y → Contains (flat_map f xs) y
Contains-flat_map {A} {B} f xs x y there inside = All-contains (λ (z : A). Contains (f z) y → Contains (flat_map f xs) y) xs x (all xs) there inside
  where
    all : (zs : List A) → All (λ (z : A). Contains (f z) y → Contains (flat_map f zs) y) zs
    all [] = All-nil (λ (z : A). Contains (f z) y → Contains (flat_map f []) y)
    all (z ∷ zs) =
        All-cons (λ (a : A). Contains (f a) y → Contains (flat_map f (z ∷ zs)) y) z zs (λ h. Contains-append_left (f z) (flat_map f zs) y h)
        (All-weaker (λ (a : A). Contains (f a) y → Contains (flat_map f zs) y) (λ (a : A). Contains (f a) y → Contains (flat_map f (z ∷ zs)) y) (λ a h i. Contains-append_right (f z) (flat_map f zs) y (h i)) zs (all zs))

All-flat_map : {A B : Type 0} (f : A → List B) (P : B → Type 0) (xs : List A) → All (λ x. All P (f x)) xs → All P (flat_map f xs)
All-flat_map {A} {B} f P [] h = All-nil P
All-flat_map {A} {B} f P (x ∷ xs) h = All-append P (f x) (flat_map f xs) (All-head (λ (y : A). All P (f y)) x xs h) (All-flat_map f P xs (All-tail (λ (y : A). All P (f y)) x xs h))

-- ---- what the slots hold

abbrev entry_at : {K : Type 0} → ℕ → K → TimedEntry K
entry_at t key = record { time = t; key = key }

-- an entry that is still accepted is in its slot
held-entry : {K : Type 0} (laws : SlotLaws K) (n life last : ℕ) (track : Track K) → IsTrackSound track life last → 0 < n → (p : Past K) → Contains track.history p → min_written n last track.minimum ≤ p.entry.time
    → Contains (held_from (min_written n last track.minimum) (slots_of n (of_life life track.history))) p.entry
held-entry {K} laws n life last track sound pos p there high = by (laws.held_or_too_old n (last + 1) t es pos below)
  where
    t : ℕ
    t = p.entry.time

    es : List (TimedEntry K)
    es = of_life life track.history

    slots : List (SlotOf K)
    slots = slots_of n (of_life life track.history)

    slot : SlotOf K
    slot = slot_for (slots_of n (of_life life track.history)) p.entry.time

    reached : p.entry.time ≤ last
    reached = All-contains (λ (q : Past K). q.entry.time ≤ last) track.history p sound.noted there

    below : TimesBelow (last + 1) (slots_of n (of_life life track.history))
    below = slots-below n life (last + 1) track.history (omega arith) (All-weaker (λ (q : Past K). q.entry.time ≤ last) (λ (q : Past K). q.entry.time < last + 1) (λ q up. omega (arith, up)) track.history sound.noted)

    own : p.life ≡ life
    own =
        let le : p.life ≤ life = All-contains (λ (q : Past K). q.life ≤ life) track.history p sound.lives there in
        let before : p.life < life → p.entry.time < track.minimum = All-contains (λ (q : Past K). q.life < life → q.entry.time < track.minimum) track.history p sound.earlier there in
        elim (cases_lt p.life life) [
          | inl old ↦ absurd (let low : p.entry.time < track.minimum = before old in omega (arith, low, high))
          | inr now ↦ omega arith
        ]

    is_in : Contains (of_life life track.history) p.entry
    is_in =
        Contains-entry (filter (λ (q : Past K). q.life == life) track.history) p
        (All-contains (λ (q : Past K). (q.life == life) ≡ true → Contains (filter (λ (q : Past K). q.life == life) track.history) q) track.history p (All-kept (λ (q : Past K). q.life == life) track.history) there (eq-eqb p.life life own))

    key_in : Contains (held_at p.entry.time (of_life life track.history)) p.entry.key
    key_in =
        let at : TimedEntry K → Bool = λ e. e.time == p.entry.time in
        Contains-map (λ (e : TimedEntry K). e.key) (filter at es) p.entry
        (All-contains (λ (e : TimedEntry K). at e ≡ true → Contains (filter at es) e) es p.entry (All-kept at es) is_in (eq-eqb p.entry.time p.entry.time refl))

    here : Contains slots slot
    here =
        let size : length (slots_of n (of_life life track.history)) ≡ n = laws.size n (of_life life track.history) in
        Contains-get_or (slots_of n (of_life life track.history)) (p.entry.time % length (slots_of n (of_life life track.history))) empty_slot (omega (arith, size, pos))

    in_slot : (b : Bool) → (slot.time == p.entry.time) ≡ b → Contains (cond b slot.held []) p.entry.key → Contains (held_in (min_written n last track.minimum) slot) p.entry
    in_slot false is inside = absurd (omega (arith, inside.1))
    in_slot true is inside =
        let same : slot.time ≡ p.entry.time = eqb-true slot.time p.entry.time is in
        let late : nat_lt slot.time (min_written n last track.minimum) ≡ false = le-ltb slot.time (min_written n last track.minimum) (omega (arith, same, high)) in
        let told : Contains (map (entry_at slot.time) slot.held) (entry_at slot.time p.entry.key) = Contains-map (entry_at slot.time) slot.held p.entry.key inside in
        let entry : Contains (map (entry_at slot.time) slot.held) p.entry = subst (λ (m : ℕ). Contains (map (entry_at slot.time) slot.held) (entry_at m p.entry.key)) same told in
        subst (λ (b : Bool). Contains (cond b [] (map (entry_at slot.time) slot.held)) p.entry) (sym late) entry

    by : (held_of (slot_for (slots_of n (of_life life track.history)) p.entry.time) p.entry.time ≡ held_at p.entry.time (of_life life track.history)) ⊎ (p.entry.time + n < last + 1)
        → Contains (held_from (min_written n last track.minimum) (slots_of n (of_life life track.history))) p.entry
    by (inr old) = absurd (omega (arith, old, high))
    by (inl same) =
        Contains-flat_map (held_in (min_written n last track.minimum)) slots slot p.entry here
        (in_slot (slot.time == p.entry.time) refl (subst (λ (l : List K). Contains l p.entry.key) (sym same) key_in))

-- everything that the slots hold was entered
pub only-entered : {K : Type 0} (laws : SlotLaws K) (n life lowest : ℕ) (history : List (Past K)) (P : TimedEntry K → Type 0) → All (λ p. P p.entry) history → All P (held_from lowest (slots_of n (of_life life history)))
only-entered {K} laws n life lowest history P all =
    All-flat_map (held_in lowest) P (slots_of n (of_life life history))
    (All-weaker (λ (s : SlotOf K). All (λ what. Contains (of_life life history) (entry_at s.time what)) s.held) (λ (s : SlotOf K). All P (held_in lowest s)) (λ s h. of_slot s h (nat_lt s.time lowest))
    (slots_of n (of_life life history)) (laws.only_entered n (of_life life history)))
  where
    of_slot : (s : SlotOf K) → All (λ what. Contains (of_life life history) (entry_at s.time what)) s.held → (b : Bool) → All P (cond b [] (map (entry_at s.time) s.held))
    of_slot s h true = All-nil P
    of_slot s h false =
        All-map P (entry_at s.time) s.held
        (All-weaker (λ (what : K). Contains (of_life life history) (entry_at s.time what)) (λ (what : K). P (entry_at s.time what))
        (λ what there. All-contains P (of_life life history) (entry_at s.time what) (of-life P life history all) there) s.held h)

-- ---- the lines of a track

abbrev Fits : {K : Type 0} → (K → Type 0) → (ℕ → K → Type 0) → TimedEntry K → Type 0
Fits Written Short e = (0 < e.time) × (e.time < 2 ^ 64 - 1) × Written e.key × Short 9216 e.key

-- lines that are appended to a text keep their entries
lines_kept : {K : Type 0} (kind : ClockKind) (read : EntryFilter → List ℕ → List (TimedEntry K)) (line : ℕ → K → List ℕ) (Written : K → Type 0) (Short : ℕ → K → Type 0) → KeptTextLaws kind read line Written Short
    → ((text line : List ℕ) → is_whole text ≡ true → is_whole line ≡ true → is_whole (text ++ line) ≡ true) → ((e : TimedEntry K) → Fits Written Short e → is_whole (line e.time e.key) ≡ true)
    → (es : List (TimedEntry K)) (history : List (Past K)) (text : List ℕ) → is_whole text ≡ true → All (Fits Written Short) es → AreKept kind read history text
    → (is_whole (text ++ lines_written line es) ≡ true) × AreKept kind read (history ++ in_life 0 es) (text ++ lines_written line es)
lines_kept {K} kind read line Written Short texts both line_whole [] history text whole fits kept =
    (ap is_whole (append-nil text) ∙ whole, subst (λ (l : List ℕ). AreKept kind read (history ++ []) l) (sym (append-nil text)) (subst (λ (h : List (Past K)). AreKept kind read h text) (sym (append-nil history)) kept))
lines_kept {K} kind read line Written Short texts both line_whole (e ∷ es) history text whole fits kept =
    let fit : Fits Written Short e = All-head (Fits Written Short) e es fits in
    let p : Past K = record { life = 0; entry = e } in
    let first : AreKept kind read (history ++ p ∷ []) (text ++ line e.time e.key) = texts.line_kept history text 0 e.time e.key whole fit.0 fit.1 fit.2 fit.3 kept in
    let rest = lines_kept kind read line Written Short texts both line_whole es (history ++ p ∷ []) (text ++ line e.time e.key) (both text (line e.time e.key) whole (line_whole e fit)) (All-tail (Fits Written Short) e es fits) first in
    let joined : (text ++ line e.time e.key) ++ lines_written line es ≡ text ++ lines_written line (e ∷ es) = append_assoc text (line e.time e.key) (lines_written line es) in (
      ap is_whole (sym joined) ∙ rest.0,
      subst (λ (l : List ℕ). AreKept kind read (history ++ in_life 0 (e ∷ es)) l) joined
          (subst (λ (h : List (Past K)). AreKept kind read h ((text ++ line e.time e.key) ++ lines_written line es)) (append_assoc history (p ∷ []) (in_life 0 es)) rest.1),
    )

-- the lines of a track keep its entries, even with other bytes after them
track-kept : {K : Type 0} (kind : ClockKind) (read : EntryFilter → List ℕ → List (TimedEntry K)) (line : ℕ → K → List ℕ) (Written : K → Type 0) (Short : ℕ → K → Type 0) → BelowCompactions → SlotLaws K → KeptTextLaws kind read line Written Short
    → ((e : TimedEntry K) → Fits Written Short e → is_whole (line e.time e.key) ≡ true)
    → (n life last : ℕ) (track : Track K) (front back : List ℕ) → IsTrackSound track life last → track.minimum ≤ 2 ^ 64 - 1 → 0 < n → last < 2 ^ 64 - 1 → is_whole front ≡ true → All (λ p. Fits Written Short p.entry) track.history
    → (is_whole (front ++ track_lines kind line n life last track) ≡ true) × AreKept kind read track.history ((front ++ track_lines kind line n life last track) ++ back)
track-kept {K} kind read line Written Short laws slots texts line_whole n life last track front back sound low pos small whole fits =
    let lowest : ℕ = min_written n last track.minimum in
    let told : List (TimedEntry K) = held_from lowest (slots_of n (of_life life track.history)) in
    let start : List ℕ = front ++ min_line kind lowest in
    let bound : lowest ≤ 2 ^ 64 - 1 = omega (arith, low) in
    let start_whole : is_whole start ≡ true = laws.whole front (min_line kind lowest) whole (laws.quiet.lowest kind lowest).whole in
    let none : AreKept kind read [] start = All-nil (λ (p : Past K). (p.entry.time < min_in kind start) ⊎ Contains (read whatever start) p.entry) in
    let all = lines_kept kind read line Written Short texts laws.whole line_whole told [] start start_whole (only-entered slots n life lowest track.history (Fits Written Short) fits) none in
    let joined : start ++ lines_written line told ≡ front ++ track_lines kind line n life last track = append_assoc front (min_line kind lowest) (lines_written line told) in
    let text : List ℕ = (front ++ track_lines kind line n life last track) ++ back in
    let stands : AreKept kind read (in_life 0 told) text = texts.grows (in_life 0 told) (front ++ track_lines kind line n life last track) back (subst (λ (l : List ℕ). AreKept kind read (in_life 0 told) l) joined all.1) in
    let is_min : min_in kind start ≡ max (min_in kind front) lowest = laws.min_own kind front lowest whole bound in
    let up : min_in kind start ≤ min_in kind (start ++ lines_written line told) = laws.min_grows kind start (lines_written line told) in
    let over : min_in kind (start ++ lines_written line told) ≡ min_in kind (front ++ track_lines kind line n life last track) = ap (min_in kind) joined in
    let more : min_in kind (front ++ track_lines kind line n life last track) ≤ min_in kind text = laws.min_grows kind (front ++ track_lines kind line n life last track) back in
    let high : lowest ≤ min_in kind text = omega (arith, is_min, up, over, more) in (
      ap is_whole (sym joined) ∙ all.0,
      All-weaker (Contains track.history) (λ (p : Past K). (p.entry.time < min_in kind text) ⊎ Contains (read whatever text) p.entry) (λ p there. each text high (back_to told text stands) p there) track.history (All-contains_itself track.history),
    )
  where
    back_to : (es : List (TimedEntry K)) (text : List ℕ) → AreKept kind read (in_life 0 es) text → All (λ e. (e.time < min_in kind text) ⊎ Contains (read whatever text) e) es
    back_to es text h = subst (All (λ (e : TimedEntry K). (e.time < min_in kind text) ⊎ Contains (read whatever text) e)) (entries-in_life 0 es)
        (All-map (λ (e : TimedEntry K). (e.time < min_in kind text) ⊎ Contains (read whatever text) e) (λ (p : Past K). p.entry) (in_life 0 es) h)

    each : (text : List ℕ) → min_written n last track.minimum ≤ min_in kind text → All (λ e. (e.time < min_in kind text) ⊎ Contains (read whatever text) e) (held_from (min_written n last track.minimum) (slots_of n (of_life life track.history)))
        → (p : Past K) → Contains track.history p → (p.entry.time < min_in kind text) ⊎ Contains (read whatever text) p.entry
    each text high stands p there = elim (cases_lt p.entry.time (min_written n last track.minimum)) [
      | inl low ↦ inl (omega (arith, low, high))
      | inr late ↦ All-contains (λ e. (e.time < min_in kind text) ⊎ Contains (read whatever text) e) (held_from (min_written n last track.minimum) (slots_of n (of_life life track.history))) p.entry stands
          (held-entry slots n life last track sound pos p there late)
    ]

-- ---- an agent

keeps : BelowCompactions → (i : IdealAgent) → IsSound i → 0 < i.config.event_buffer → 0 < i.config.query_buffer → AreTimes i.snapshot → i.events.minimum ≤ 2 ^ 64 - 1 → i.queries.minimum ≤ 2 ^ 64 - 1 → AreWritable IsWritable i.events.history → AreWritable IsIdWritable i.queries.history
    → HasKept i (kept_compaction_of (kept_lines (view_of i)) i.snapshot)
keeps laws i sound some_events some_queries times low_event low_query written_events written_queries =
    let s = i.snapshot in
    let ev : List ℕ = track_lines kinds.Event line_of_event i.config.event_buffer i.life i.snapshot.event_clock i.events in
    let qu : List ℕ = track_lines kinds.Query query_line i.config.query_buffer i.life i.snapshot.query_clock i.queries in
    let m : List ℕ = line_above_zero kinds.Member i.snapshot.member_clock in
    let e : List ℕ = kept_line_above_zero kinds.Event i.snapshot.event_clock in
    let q : List ℕ = kept_line_above_zero kinds.Query i.snapshot.query_clock in
    let event_fits : All (λ (p : Past EventBody). Fits IsWritable IsShort p.entry) i.events.history = λ k d inside. let t = written_events k d inside in (t.0, t.1, t.2, sound.short k d inside) in
    let query_fits : All (λ (p : Past ℕ). Fits IsIdWritable IsIdShort p.entry) i.queries.history = λ k d inside. let t = written_queries k d inside in (t.0, t.1, t.2, omega arith) in
    let events = track-kept kinds.Event kept_events line_of_event IsWritable IsShort laws laws.event_slots laws.event_texts (λ x fit. (laws.quiet.event x.time x.key.name x.key.payload).whole)
    i.config.event_buffer i.life i.snapshot.event_clock i.events [] qu sound.events low_event some_events times.event_clock refl event_fits in
    let queries = track-kept kinds.Query kept_queries query_line IsIdWritable IsIdShort laws laws.query_slots laws.query_texts (λ x fit. (laws.quiet.query x.time x.key).whole)
    i.config.query_buffer i.life i.snapshot.query_clock i.queries ev m sound.queries low_query some_queries times.query_clock events.0 query_fits in
    record {
      events = laws.event_texts.grows i.events.history (((ev ++ qu) ++ m) ++ e) q (laws.event_texts.grows i.events.history ((ev ++ qu) ++ m) e (laws.event_texts.grows i.events.history (ev ++ qu) m events.1));
      queries = laws.query_texts.grows i.queries.history (((ev ++ qu) ++ m) ++ e) q (laws.query_texts.grows i.queries.history ((ev ++ qu) ++ m) e queries.1);
    }

pub compaction_laws : BelowCompactions → CompactionLaws
compaction_laws laws = record { keeps = keeps laws; says_no_clock = kept-quiet laws.quiet }
