-- Small lives that break what is promised about lives, and the proofs that the promises refuse them. If a definition is
-- changed so that it promises nothing, these proofs fail.
use Rattle.serf_agent.proofs.Names.{List, None, [], arith, false, filter, inl, inr, length, nat_lt, refl, subst, true, ℕ, ◌<◌, ◌∷◌, ◌≡◌, ◌≤◌, ◌⊎◌, All-head, All-nil, filter_passes, All, codes, decoded, EventBody, Device, Kept, TimedEntry, is_sound, IdealAgent, Past, HasMet, IsFull, IsMet, KeepsSettings, TakesNewBy, MayGoOnLives, Act, Gets, Takes, events_out, first_life, HasPast, IsSound, BringsQuery, event_track, queries_entered, query_track, unseen_life, Config}

-- An agent that hands out only what is above its last clock line, as an agent that keeps no events does after a
-- restart.
abbrev pub above-last : IdealAgent → Act → List (TimedEntry EventBody)
above-last i a = filter (λ e. nat_lt i.snapshot.event_clock e.time) (events_out i a)

abbrev settings : Config
settings = record {
  name = codes "a";
  event_buffer = 4;
  query_buffer = 4;
  per_time = 2;
  event_limit = 512;
  query_limit = 1024;
  response_limit = 1024;
  responders = 2;
  ignore_old = false;
  keep_events = true;
}

-- The agent opens on a text whose last line of events has the time 3, and then an event of the time 2 arrives.
abbrev text : List ℕ
text = codes "event-clock: 03\n"

abbrev disk : Device
disk = record { observed_bytes = None; plan = None; failures = 0; calls = record { appends = 0; flushes = 0; replaces = 0 } }

abbrev event : TimedEntry EventBody
event = record { time = 2; key = record { name = []; payload = [] } }

-- ---- nothing was met

nothing-met : {K : Type 0} (e : TimedEntry K) → IsMet [] [] e → ⊥
nothing-met e (inl h) = absurd (omega (arith, h.1))
nothing-met e (inr h) = absurd (omega (arith, h.1))

none-met : {K : Type 0} (k t : ℕ) → 0 < k → HasMet {K = K} k t [] [] → ⊥
none-met {K} k t some h = one h.entries h.many h.met
  where
    one : (es : List (TimedEntry K)) → k ≤ length es → All (λ e. (e.time ≡ t) × IsMet [] [] e) es → ⊥
    one [] many met = absurd (omega arith)
    one (e ∷ es) many met = nothing-met e (All-head (λ (x : TimedEntry K). (x.time ≡ t) × IsMet [] [] x) e es met).1

-- what is above the last line 3 contains no entry of the time 2, and no time is full
misses : {K : Type 0} (out : List (TimedEntry K)) (e : TimedEntry K) → e.time ≡ 2 → (filter (λ x. nat_lt 3 x.time) out ≡ e ∷ []) ⊎ IsFull {K = K} 2 2 [] [] → ⊥
misses {K} out e is (inl all) =
    let late : All (λ (x : TimedEntry K). nat_lt 3 x.time ≡ true) (e ∷ []) = subst (All (λ (x : TimedEntry K). nat_lt 3 x.time ≡ true)) all (filter_passes (λ (x : TimedEntry K). nat_lt 3 x.time) out) in
    let first : nat_lt 3 2 ≡ true = subst (λ (t : ℕ). nat_lt 3 t ≡ true) is (All-head (λ (x : TimedEntry K). nat_lt 3 x.time ≡ true) e [] late) in
    absurd (cc first)
misses out e is (inr (inl full)) = none-met 2 2 (omega arith) full
misses out e is (inr (inr full)) = none-met 3 full.0 (omega arith) full.2

-- ---- an agent that misses an event

pub misses_an_event : TakesNewBy event_track above-last → ⊥
misses_an_event promised =
    misses (events_out (first_life settings text disk).agent (Takes event Kept)) event refl
    (promised settings text disk [] (Takes event Kept) event refl refl tt (All-nil (KeepsSettings settings)) refl refl (omega arith) (omega arith) (omega arith) tt (nothing-met event))

-- ---- an agent that misses a query

-- An agent that accepts only queries above its last clock line.
abbrev queries-above-last : IdealAgent → Act → List (TimedEntry ℕ)
queries-above-last i a = filter (λ e. nat_lt i.snapshot.query_clock e.time) (queries_entered i a)

abbrev query_text : List ℕ
query_text = codes "query-clock: 03\n"

abbrev fired_queries : TimedEntry ℕ
fired_queries = record { time = 2; key = 7 }

-- The agent opens on a text whose last line of queries has the time 3, and then a packet with a query of the time 2
-- arrives.
pub misses_a_query : (packet : List ℕ) → BringsQuery fired_queries (decoded packet) → TakesNewBy query_track queries-above-last → ⊥
misses_a_query packet brings promised =
    misses (queries_entered (first_life settings query_text disk).agent (Gets true 0 packet Kept)) fired_queries refl
    (promised settings query_text disk [] (Gets true 0 packet Kept) fired_queries refl refl tt (All-nil (KeepsSettings settings)) brings refl tt (omega arith) (omega arith) tt (nothing-met fired_queries))

-- ---- a file that loses what was flushed

-- the promise that a life may open on any text, which is false
abbrev OpensOnAnyText : Type 0
OpensOnAnyText =
    (config : Config) (text : List ℕ) (d : Device) (acts : List Act) (next : Config) (left : List ℕ) → is_sound config ≡ true → MayGoOnLives (first_life config text d).agent acts → is_sound next ≡ true
    → let i = (unseen_life config text d acts).agent in IsSound i × HasPast next i left

-- An agent accepts an event of the time 2, and then its file is empty.
pub opens_on_nothing : OpensOnAnyText → ⊥
opens_on_nothing promised =
    let may : MayGoOnLives (first_life settings [] disk).agent (Takes event Kept ∷ []) = (((refl, omega arith, tt), record { name = λ i. omega arith; payload = λ i. omega arith }), tt) in
    let has = (promised settings [] disk (Takes event Kept ∷ []) settings [] refl may refl).1 in
    let low : 2 ≤ 0 = All-head (λ (p : Past EventBody). p.entry.time ≤ 0) (record { life = 1; entry = event }) [] has.times.events in
    absurd (omega (arith, low))
