-- What an agent enters in one life: at most as many entries of one time as its settings allow.
use Rattle.serf_model.proofs.Names.{Bool, List, None, Option, Some, [], ap, append_assoc, arith, cond, false, inl, inr, length, length-append, map, nat_le, nat_lt, refl, subst, sym, true, ℕ, ◌++◌, ◌+◌, ◌<◌, ◌==◌, ◌∙◌, ◌∷◌, ◌≡◌, ◌≤◌, and_parts, cases_Bool, eq-eqb, eqb-true, leb-false, leb-true, ne_eqb, append-nil, map-append, All-head, All-tail, filter-append, filter, All, observed, EventBody, same_id, event_of, same_texts, TimedEntry, count_at, held_at, is_sound, admission, texts_len, IdealAgent, Past, Track, query_admission, of_life, track_reason, was_ever_entered, Config, EventOut, Reason, BelowMinimum, Seen, TimeFull, TooOld, AtMostOfOneTime}

-- a reason that doesn't apply
pub none-if : {X : Type 0} (b : Bool) (x : X) (r : Option X) → cond b (Some x) r ≡ None → (b ≡ false) × (r ≡ None)
none-if true x r e = absurd (cc e)
none-if false x r e = (refl, e)

-- the entries of a time, after one more was entered
held_at-append : {K : Type 0} (t : ℕ) (es : List (TimedEntry K)) (e : TimedEntry K) → held_at t (es ++ e ∷ []) ≡ held_at t es ++ cond (e.time == t) (e.key ∷ []) []
held_at-append {K} t es e =
    ap (map (λ (x : TimedEntry K). x.key)) (filter-append (λ (x : TimedEntry K). x.time == t) es (e ∷ [])) ∙ map-append (λ (x : TimedEntry K). x.key) (filter (λ (x : TimedEntry K). x.time == t) es) (cond (e.time == t) (e ∷ []) [])
    ∙ ap (λ l. held_at t es ++ l) (by (e.time == t))
  where
    by : (b : Bool) → map (λ (x : TimedEntry K). x.key) (cond b (e ∷ []) []) ≡ cond b (e.key ∷ []) []
    by true = refl
    by false = refl

-- ---- what a track enters

-- what was entered, with its times
abbrev pub entries : {K : Type 0} → List (Past K) → List (TimedEntry K)
entries h = map (λ p. p.entry) h

-- an event that is handed out, as it is entered
abbrev pub out_in : EventOut → TimedEntry EventBody
out_in out = record { time = out.time; key = event_of out.name out.payload }

-- an entry in a life
abbrev pub past : {K : Type 0} → ℕ → TimedEntry K → Past K
past life e = record { life = life; entry = e }

of_life-past : {K : Type 0} (life : ℕ) (es : List (TimedEntry K)) → of_life life (map (past life) es) ≡ es
of_life-past life [] = refl
of_life-past life (e ∷ es) = rw (eq-eqb life life refl) (ap (λ l. e ∷ l) (of_life-past life es))

pub of_life-append : {K : Type 0} (life : ℕ) (h : List (Past K)) (es : List (TimedEntry K)) → of_life life (h ++ map (past life) es) ≡ of_life life h ++ es
of_life-append {K} life h es =
    ap (map (λ (p : Past K). p.entry)) (filter-append (λ (p : Past K). p.life == life) h (map (past life) es))
    ∙ map-append (λ (p : Past K). p.entry) (filter (λ (p : Past K). p.life == life) h) (filter (λ (p : Past K). p.life == life) (map (past life) es))
    ∙ ap (λ l. of_life life h ++ l) (of_life-past life es)

entries-past : {K : Type 0} (life : ℕ) (es : List (TimedEntry K)) → entries (map (past life) es) ≡ es
entries-past life [] = refl
entries-past life (e ∷ es) = ap (λ l. e ∷ l) (entries-past life es)

-- a track enters these in this life, and it still has at most k of one time if it had at most k before
pub record Enters {K : Type 0} (life k : ℕ) (old new : List (Past K)) (more : List (TimedEntry K)) : Type 0 where
  pub grows : new ≡ old ++ map (past life) more
  pub bounded : AtMostOfOneTime k (of_life life old) → AtMostOfOneTime k (of_life life new)

pub enters-entries : {K : Type 0} {life k : ℕ} {old new : List (Past K)} {more : List (TimedEntry K)} → Enters life k old new more → entries new ≡ entries old ++ more
enters-entries {K} {life} {k} {old} {new} {more} h = ap entries h.grows ∙ map-append (λ (p : Past K). p.entry) old (map (past life) more) ∙ ap (λ l. entries old ++ l) (entries-past life more)

pub enters-life : {K : Type 0} {life k : ℕ} {old new : List (Past K)} {more : List (TimedEntry K)} → Enters life k old new more → of_life life new ≡ of_life life old ++ more
enters-life {K} {life} {k} {old} {new} {more} h = ap (of_life life) h.grows ∙ of_life-append life old more

pub enters-none : {K : Type 0} (life k : ℕ) (old new : List (Past K)) → new ≡ old → Enters life k old new []
enters-none life k old new same = record { grows = same ∙ sym (append-nil old); bounded = λ h. subst (λ l. AtMostOfOneTime k (of_life life l)) (sym same) h }

pub enters-nothing : {K : Type 0} {life k : ℕ} {old : List (Past K)} → Enters life k old old []
enters-nothing {K} {life} {k} {old} = enters-none life k old old refl

pub at_most-push : {K : Type 0} (k : ℕ) (es : List (TimedEntry K)) (e : TimedEntry K) → count_at es e.time < k → AtMostOfOneTime k es → AtMostOfOneTime k (es ++ e ∷ [])
at_most-push {K} k es e free all t = subst (λ hs. length hs ≤ k) (sym (held_at-append t es e)) (by (e.time == t) refl)
  where
    by : (b : Bool) → (e.time == t) ≡ b → length (held_at t es ++ cond b (e.key ∷ []) []) ≤ k
    by true is =
        let same : e.time ≡ t = eqb-true e.time t is in
        let room : count_at es t < k = subst (λ n. count_at es n < k) same free in
        omega (arith, length-append (held_at t es) (e.key ∷ []))
    by false is = let one : count_at es t ≤ k = all t in omega (arith, length-append (held_at t es) [])

pub enters-one : {K : Type 0} (life k t : ℕ) (what : K) (old : List (Past K)) → count_at (of_life life old) t < k
    → Enters life k old (old ++ record { life = life; entry = record { time = t; key = what } } ∷ []) (record { time = t; key = what } ∷ [])
enters-one {K} life k t what old free =
    let e : TimedEntry K = record { time = t; key = what } in
    record { grows = refl; bounded = λ h. subst (AtMostOfOneTime k) (sym (of_life-append life old (e ∷ []))) (at_most-push k (of_life life old) e free h) }

pub enters-then : {K : Type 0} (life k : ℕ) (a b c : List (Past K)) (some more : List (TimedEntry K)) → Enters life k a b some → Enters life k b c more → Enters life k a c (some ++ more)
enters-then {K} life k a b c some more first next = record {
  grows = next.grows ∙ ap (λ l. l ++ map (past life) more) first.grows ∙ append_assoc a (map (past life) some) (map (past life) more) ∙ ap (λ l. a ++ l) (sym (map-append (past life) some more));
  bounded = λ h. next.bounded (first.bounded h);
}

-- ---- if there is room

-- nothing was entered at a time that is later than all entries
pub none-at : {K : Type 0} (life t : ℕ) (h : List (Past K)) → All (λ p. p.entry.time < t) h → count_at (of_life life h) t ≡ 0
none-at life t [] below = refl
none-at {K} life t (p ∷ h) below =
    let rest = none-at life t h (All-tail (λ p. p.entry.time < t) p h below) in
    let first : p.entry.time < t = All-head (λ p. p.entry.time < t) p h below in
    let other : (p.entry.time == t) ≡ false = ne_eqb p.entry.time t (λ q. omega arith) in
    elim (cases_Bool (p.life == life)) [
      | inl mine ↦ rw (mine, other) rest
      | inr gone ↦ rw gone rest
    ]

-- if no reason applies to an entry, there is room for it
reason-room : {K : Type 0} (same : K → K → Bool) (n k life : ℕ) (track : Track K) (t : ℕ) (what : K) → track_reason same n k life track t what ≡ None → count_at (of_life life track.history) t < k
reason-room same n k life track t what none =
    let by_count : Option Reason = cond (nat_le k (count_at (of_life life track.history) t)) (Some TimeFull) None in
    let by_hand : Option Reason = cond (was_ever_entered same track.history t what) (Some Seen) by_count in
    let by_age : Option Reason = cond (nat_lt (t + n) (observed track.clock t)) (Some TooOld) by_hand in
    let minimum = none-if (nat_lt t track.minimum) BelowMinimum by_age none in
    let age = none-if (nat_lt (t + n) (observed track.clock t)) TooOld by_hand minimum.1 in
    let hand = none-if (was_ever_entered same track.history t what) Seen by_count age.1 in
    leb-false _ _ (none-if (nat_le k (count_at (of_life life track.history) t)) TimeFull None hand.1).0

pub event-room : (i : IdealAgent) (t : ℕ) (what : EventBody) → admission i t what ≡ None → count_at (of_life i.life i.events.history) t < i.config.per_time
event-room i t what new =
    reason-room same_texts i.config.event_buffer i.config.per_time i.life i.events t what (none-if (nat_lt 9216 (texts_len what)) _ (track_reason same_texts i.config.event_buffer i.config.per_time i.life i.events t what) new).1

pub query-room : (i : IdealAgent) (t id : ℕ) → query_admission i t id ≡ None → count_at (of_life i.life i.queries.history) t < i.config.per_time
query-room i t id new = reason-room same_id i.config.query_buffer i.config.per_time i.life i.queries t id new

-- the settings allow at least one entry of a time
pub some-of-time : (c : Config) → is_sound c ≡ true → 0 < c.per_time
some-of-time c ok =
    let last = and_parts _ _ ok in
    let both = and_parts (nat_le 1 c.per_time) (nat_le c.per_time 65536) last.1 in
    leb-true 1 c.per_time both.0

pub clock-room : {K : Type 0} (c : Config) (life t : ℕ) (h : List (Past K)) → is_sound c ≡ true → All (λ p. p.entry.time < t) h → count_at (of_life life h) t < c.per_time
clock-room c life t h ok below = rw (none-at life t h below) (some-of-time c ok)

-- ---- lives

pub none-of-next : {K : Type 0} (life : ℕ) (h : List (Past K)) → All (λ p. p.life ≤ life) h → of_life (life + 1) h ≡ []
none-of-next life [] all = refl
none-of-next {K} life (p ∷ h) all =
    let old : p.life ≤ life = All-head (λ p. p.life ≤ life) p h all in
    let other : (p.life == life + 1) ≡ false = ne_eqb p.life (life + 1) (λ q. omega arith) in
    rw other (none-of-next life h (All-tail (λ p. p.life ≤ life) p h all))
