-- Changes keep a track sound, and its window decides as its whole history does.
use Rattle.serf_agent.proofs.Names.{Bool, List, None, Option, Some, [], ap, arith, cond, false, filter, inl, inr, length, max, nat_le, nat_lt, refl, subst, sym, true, ℕ, ◌%◌, ◌&&◌, ◌++◌, ◌+◌, ◌<◌, ◌==◌, ◌||◌, ◌∙◌, ◌∷◌, ◌≡◌, ◌≢◌, ◌≤◌, and_from, cases_Bool, eq-eqb, eqb-false, ltb-false, ne_eqb, or_parts, true≢false, All-cons, All-filter, All-head, All-map, All-nil, All-push, All-tail, All-weaker, get_or-map-range_with_len, length-map-range_with_len, all_pairs_push, All, observed, SlotOf, TimedEntry, TimesBelow, count_at, entries_of, largest_time, slot_of, slots_of, verdict_of, was_entered, Verdict, Past, Track, reason_for, ConcreteTrack, IsTrackSound, of_life, track_entered, track_observed, track_raised, track_reason, track_reopened, view_of_track, was_ever_entered, Reason, BelowMinimum}
use Rattle.serf_agent.specs.declared.outcome.Reason.TheVariants.{TooOld, Seen, TimeFull}

-- ---- a sound track stays sound

-- a track stays sound if something new enters
pub track-entered : {K : Type 0} (track : Track K) (life last new_last t : ℕ) (what : K) → IsTrackSound track life last → last ≤ new_last → t ≤ new_last
    → All (λ p. p.entry ≢ record { time = t; key = what }) track.history → IsTrackSound (track_entered life t what track) life new_last
track-entered {K} track life last new_last t what s up reached fresh =
    let e : Past K = record { life = life; entry = record { time = t; key = what } } in
    let clock : ℕ = observed track.clock t in
    record {
      lives = All-push (λ p. p.life ≤ life) track.history e s.lives (omega arith);
      below_clock = All-push (λ p. p.entry.time < clock) track.history e (All-weaker (λ p. p.entry.time < track.clock) (λ p. p.entry.time < clock) (λ p h. omega arith) track.history s.below_clock) (omega arith);
      noted = All-push (λ p. p.entry.time ≤ new_last) track.history e (All-weaker (λ p. p.entry.time ≤ last) (λ p. p.entry.time ≤ new_last) (λ p h. omega arith) track.history s.noted) reached;
      earlier = All-push (λ p. p.life < life → p.entry.time < track.minimum) track.history e s.earlier (λ h. absurd (omega arith));
      distinct = all_pairs_push (λ a b. a.entry ≢ b.entry) track.history e s.distinct fresh;
      minimum = omega (arith, s.minimum);
    }

-- a track stays sound if its clock and its minimum rise
track-lifted : {K : Type 0} (track : Track K) (life last clock minimum : ℕ) → IsTrackSound track life last → track.clock ≤ clock → track.minimum ≤ minimum → minimum ≤ clock → IsTrackSound (record { clock = clock; minimum = minimum; history = track.history }) life last
track-lifted track life last clock minimum s up above fits = record {
  lives = s.lives;
  below_clock = All-weaker (λ p. p.entry.time < track.clock) (λ p. p.entry.time < clock) (λ p h. omega arith) track.history s.below_clock;
  noted = s.noted;
  earlier = All-weaker (λ p. p.life < life → p.entry.time < track.minimum) (λ p. p.life < life → p.entry.time < minimum) (λ p h l. let below = h l in omega arith) track.history s.earlier;
  distinct = s.distinct;
  minimum = fits;
}

pub track-observed : {K : Type 0} (track : Track K) (life last t : ℕ) → IsTrackSound track life last → IsTrackSound (track_observed t track) life last
track-observed track life last t s = track-lifted track life last (observed track.clock t) track.minimum s (omega arith) (omega arith) (omega (arith, s.minimum))

pub track-raised : {K : Type 0} (track : Track K) (life last clock minimum : ℕ) → IsTrackSound track life last → minimum ≤ clock → IsTrackSound (track_raised clock minimum track) life last
track-raised track life last clock minimum s fits = track-lifted track life last (max track.clock clock) (max track.minimum minimum) s (omega arith) (omega arith) (omega (arith, s.minimum))

-- a track is sound in a new life that begins at a value that no time is above
pub track-reopened : {K : Type 0} (track : Track K) (life last value : ℕ) → IsTrackSound track life last → All (λ p. p.entry.time ≤ value) track.history → IsTrackSound (track_reopened value track) (life + 1) value
track-reopened track life last value s within =
    let below = All-weaker (λ p. p.entry.time ≤ value) (λ p. p.entry.time < value + 1) (λ p h. omega arith) track.history within in
    record {
      lives = All-weaker (λ p. p.life ≤ life) (λ p. p.life ≤ life + 1) (λ p h. omega arith) track.history s.lives;
      below_clock = below;
      noted = within;
      earlier = All-weaker (λ p. p.entry.time < value + 1) (λ p. p.life < life + 1 → p.entry.time < value + 1) (λ p h _. h) track.history below;
      distinct = s.distinct;
      minimum = omega arith;
    }

-- ---- what is new

-- what was never entered differs from each entry
pub unknown-fresh : {K : Type 0} (same : K → K → Bool) → ((x : K) → same x x ≡ true) → (history : List (Past K)) (t : ℕ) (what : K) → was_ever_entered same history t what ≡ false → All (λ p. p.entry ≢ record { time = t; key = what }) history
unknown-fresh {K} same itself [] t what u = All-nil (λ p. p.entry ≢ record { time = t; key = what })
unknown-fresh {K} same itself (e ∷ h) t what u =
    let x : TimedEntry K = record { time = t; key = what } in
    let parts = or_parts ((e.entry.time == t) && same e.entry.key what) (was_ever_entered same h t what) u in
    let P : TimedEntry K → Bool = λ y. (y.time == t) && same y.key what in
    All-cons (λ p. p.entry ≢ x) e h
    (λ q. true≢false (sym (and_from _ _ (eq-eqb t t refl) (itself what)) ∙ (sym (ap P q) ∙ parts.0)))
    (unknown-fresh same itself h t what parts.1)

-- what is later than all entries differs from each
pub later-fresh : {K : Type 0} (history : List (Past K)) (t : ℕ) (what : K) → All (λ p. p.entry.time < t) history → All (λ p. p.entry ≢ record { time = t; key = what }) history
later-fresh {K} history t what below =
    All-weaker (λ p. p.entry.time < t) (λ p. p.entry ≢ record { time = t; key = what }) (λ p b q. let same = ap (λ (y : TimedEntry K). y.time) q in omega arith) history below

-- there is no reason, or no error, only if no test finds one
pub none-from : {X : Type 0} (b : Bool) (x : X) (r : Option X) → cond b (Some x) r ≡ None → (b ≡ false) × (r ≡ None)
none-from true x r h = absurd (cc)
none-from false x r h = (refl, h)

-- if no reason is found against an entry, it was never entered
pub no-reason : {K : Type 0} (same : K → K → Bool) (n k life : ℕ) (track : Track K) (t : ℕ) (what : K) → track_reason same n k life track t what ≡ None → was_ever_entered same track.history t what ≡ false
no-reason same n k life track t what none =
    let by_count : Option Reason = cond (nat_le k (count_at (of_life life track.history) t)) (Some TimeFull) None in
    let by_hand : Option Reason = cond (was_ever_entered same track.history t what) (Some Seen) by_count in
    let by_age : Option Reason = cond (nat_lt (t + n) (observed track.clock t)) (Some TooOld) by_hand in
    let minimum = none-from (nat_lt t track.minimum) BelowMinimum by_age none in
    let age = none-from (nat_lt (t + n) (observed track.clock t)) TooOld by_hand minimum.1 in
    (none-from (was_ever_entered same track.history t what) Seen by_count age.1).0

-- ---- the window decides as the history does

-- the latest time of a slot is below any bound of all times
largest_time-below : {K : Type 0} (n i c : ℕ) (es : List (TimedEntry K)) → 0 < c → All (λ e. e.time < c) es → largest_time (entries_of n i es) < c
largest_time-below n i c [] pos h = pos
largest_time-below n i c (e ∷ es) pos h =
    let ih : largest_time (entries_of n i es) < c = largest_time-below n i c es pos (All-tail (λ x. x.time < c) e es h) in
    elim (cases_Bool (e.time % n == i)) [
      | inl here ↦ rw here (let top : e.time < c = All-head (λ x. x.time < c) e es h in omega arith)
      | inr there ↦ rw there ih
    ]

-- what holds of the entries of a history holds of those of a life
pub of-life : {K : Type 0} (P : TimedEntry K → Type 0) (life : ℕ) (history : List (Past K)) → All (λ p. P p.entry) history → All P (of_life life history)
of-life {K} P life history all = All-map P (λ (p : Past K). p.entry) (filter (λ (p : Past K). p.life == life) history) (All-filter (λ (p : Past K). p.life == life) (λ (p : Past K). P p.entry) history all)

-- each slot's time is below any bound of all entries' times
pub slots-below : {K : Type 0} (n life c : ℕ) (hs : List (Past K)) → 0 < c → All (λ p. p.entry.time < c) hs → TimesBelow c (slots_of n (of_life life hs))
slots-below {K} n life c hs pos all k d within =
    let mine : List (TimedEntry K) = of_life life hs in
    let size : length (slots_of n mine) ≡ n = length-map-range_with_len (slot_of n mine) 0 n in
    let inside : k < n = subst (λ (m : ℕ). k < m) size within in
    let at = get_or-map-range_with_len (slot_of n mine) 0 n k k d inside (omega arith) in
    let below : (slot_of n mine k).time < c = largest_time-below n k c mine pos (of-life (λ (e : TimedEntry K). e.time < c) life hs all) in
    subst (λ (s : SlotOf K). s.time < c) (sym at) below

-- above the minimum only this life counts
was_ever_entered-life : {K : Type 0} (same : K → K → Bool) (life minimum t : ℕ) (what : K) (hs : List (Past K)) → All (λ p. p.life ≤ life) hs → All (λ p. p.life < life → p.entry.time < minimum) hs → minimum ≤ t
    → was_ever_entered same hs t what ≡ was_entered same (of_life life hs) t what
was_ever_entered-life same life minimum t what [] lives earlier low = refl
was_ever_entered-life same life minimum t what (h ∷ hs) lives earlier low =
    let ih = was_ever_entered-life same life minimum t what hs (All-tail (λ p. p.life ≤ life) h hs lives) (All-tail (λ p. p.life < life → p.entry.time < minimum) h hs earlier) low in
    elim (cases_Bool (h.life == life)) [
      | inl mine ↦ rw mine (ap (λ b. (h.entry.time == t) && same h.entry.key what || b) ih)
      | inr other ↦ let ne : h.life ≢ life = eqb-false _ _ other in
          let le : h.life ≤ life = All-head (λ p. p.life ≤ life) h hs lives in
          let before : h.entry.time < minimum = All-head (λ p. p.life < life → p.entry.time < minimum) h hs earlier (omega arith) in
          let no : (h.entry.time == t) ≡ false = ne_eqb _ _ (λ q. omega arith) in
          rw (other, no) ih
    ]

-- the reason is that of the window's verdict
track_reason-verdict : {K : Type 0} (same : K → K → Bool) (n k life last : ℕ) (track : Track K) (t : ℕ) (what : K) → IsTrackSound track life last
    → track_reason same n k life track t what ≡ reason_for (verdict_of same n k (of_life life track.history) (observed track.clock t) track.minimum t what)
track_reason-verdict same n k life last track t what sound =
    elim (cases_Bool (nat_lt t track.minimum)) [
      | inl low ↦ rw low refl
      | inr high ↦ let above : track.minimum ≤ t = ltb-false _ _ high in
          rw (high, was_ever_entered-life same life track.minimum t what track.history sound.lives sound.earlier above) (elim (cases_Bool (nat_lt (t + n) (observed track.clock t))) [
            | inl old ↦ rw old refl
            | inr young ↦ rw young (elim (cases_Bool (was_entered same (of_life life track.history) t what)) [
              | inl seen ↦ rw seen refl
              | inr new ↦ rw new (elim (cases_Bool (nat_le k (count_at (of_life life track.history) t))) [ inl full ↦ rw full refl | inr room ↦ rw room refl ])
            ])
          ])
    ]

-- a verdict from the slots is the reason from the history, if the slots are those of the history
pub verdict-ideal : {K : Type 0} (same : K → K → Bool) (old : ConcreteTrack K) (n k life last : ℕ) (track : Track K) (t clock : ℕ) (what : K) (verdict : Verdict) → IsTrackSound track life last → old ≡ view_of_track n life track → clock ≡ max old.clock (t + 1)
    → ((es : List (TimedEntry K)) → old.slots ≡ slots_of (length old.slots) es → t < clock → TimesBelow clock old.slots → verdict ≡ verdict_of same (length old.slots) k es clock old.minimum t what)
    → reason_for verdict ≡ track_reason same n k life track t what
verdict-ideal {K} same old n k life last track t clock what verdict sound is clocks says =
    let mine : List (TimedEntry K) = of_life life track.history in
    let size : length old.slots ≡ n = ap (λ (s : ConcreteTrack K). length s.slots) is ∙ length-map-range_with_len (slot_of n mine) 0 n in
    let clock_is : clock ≡ observed track.clock t = clocks ∙ ap (λ (s : ConcreteTrack K). max s.clock (t + 1)) is in
    let all : All (λ (p : Past K). p.entry.time < observed track.clock t) track.history = All-weaker (λ p. p.entry.time < track.clock) (λ p. p.entry.time < observed track.clock t) (λ p h. omega arith) track.history sound.below_clock in
    let below : TimesBelow (observed track.clock t) (slots_of n mine) = slots-below n life (observed track.clock t) track.history (omega arith) all in
    let below_old : TimesBelow clock old.slots = subst (λ (c : ℕ). TimesBelow c old.slots) (sym clock_is) (subst (λ (s : ConcreteTrack K). TimesBelow (observed track.clock t) s.slots) (sym is) below) in
    let said = says mine (ap (λ (s : ConcreteTrack K). s.slots) is ∙ ap (λ m. slots_of m mine) (sym size)) (omega arith) below_old in
    let same_verdict : verdict ≡ verdict_of same n k mine (observed track.clock t) track.minimum t what =
    said ∙ (λ j. verdict_of same (size j) k mine (clock_is j) (is j).minimum t what) in
    ap reason_for same_verdict ∙ sym (track_reason-verdict same n k life last track t what sound)

-- ---- what a track stores

-- the entries of a life, if one more entry is entered in it
of_life-append : {K : Type 0} (life : ℕ) (hs : List (Past K)) (e : TimedEntry K) → of_life life (hs ++ record { life = life; entry = e } ∷ []) ≡ of_life life hs ++ e ∷ []
of_life-append life [] e = rw (eq-eqb life life refl) refl
of_life-append life (h ∷ hs) e = elim (cases_Bool (h.life == life)) [
  | inl mine ↦ rw mine (ap (λ xs. h.entry ∷ xs) (of_life-append life hs e))
  | inr other ↦ rw other (of_life-append life hs e)
]

-- nothing was entered in a life that is still to come
pub of_life-none : {K : Type 0} (life : ℕ) (hs : List (Past K)) → All (λ p. p.life ≤ life) hs → of_life (life + 1) hs ≡ []
of_life-none life [] h = refl
of_life-none life (x ∷ hs) h =
    let le : x.life ≤ life = All-head (λ p. p.life ≤ life) x hs h in
    let no : (x.life == life + 1) ≡ false = ne_eqb _ _ (λ q. omega arith) in
    rw no (of_life-none life hs (All-tail (λ p. p.life ≤ life) x hs h))

concrete-eq : {K : Type 0} (new : ConcreteTrack K) (clock minimum : ℕ) (slots : List (SlotOf K)) → new.clock ≡ clock → new.minimum ≡ minimum → new.slots ≡ slots → new ≡ record { clock = clock; minimum = minimum; slots = slots }
concrete-eq new clock minimum slots h1 h2 h3 = λ k. record { clock = h1 k; minimum = h2 k; slots = h3 k }

pub view-entered : {K : Type 0} (n life : ℕ) (track : Track K) (old new : ConcreteTrack K) (t : ℕ) (what : K) → old ≡ view_of_track n life track
    → ((es : List (TimedEntry K)) → old.slots ≡ slots_of (length old.slots) es → new.slots ≡ slots_of (length old.slots) (es ++ record { time = t; key = what } ∷ []))
    → new.clock ≡ observed old.clock t → new.minimum ≡ old.minimum → new ≡ view_of_track n life (track_entered life t what track)
view-entered {K} n life track old new t what is slots clock minimum =
    let mine : List (TimedEntry K) = of_life life track.history in
    let e : TimedEntry K = record { time = t; key = what } in
    let size : length old.slots ≡ n = ap (λ (s : ConcreteTrack K). length s.slots) is ∙ length-map-range_with_len (slot_of n mine) 0 n in
    let slots_are : new.slots ≡ slots_of n (of_life life (track.history ++ record { life = life; entry = e } ∷ [])) =
    slots mine (ap (λ (s : ConcreteTrack K). s.slots) is ∙ ap (λ m. slots_of m mine) (sym size)) ∙ ap (λ m. slots_of m (mine ++ e ∷ [])) size ∙ ap (slots_of n) (sym (of_life-append life track.history e)) in
    concrete-eq new _ _ _ (clock ∙ ap (λ (s : ConcreteTrack K). observed s.clock t) is) (minimum ∙ ap (λ (s : ConcreteTrack K). s.minimum) is) slots_are

pub view-observed : {K : Type 0} (n life : ℕ) (track : Track K) (old new : ConcreteTrack K) (t : ℕ) → old ≡ view_of_track n life track → new.clock ≡ observed old.clock t → new.minimum ≡ old.minimum → new.slots ≡ old.slots → new ≡ view_of_track n life (track_observed t track)
view-observed {K} n life track old new t is clock minimum slots =
    concrete-eq new _ _ _ (clock ∙ ap (λ (s : ConcreteTrack K). observed s.clock t) is) (minimum ∙ ap (λ (s : ConcreteTrack K). s.minimum) is) (slots ∙ ap (λ (s : ConcreteTrack K). s.slots) is)
