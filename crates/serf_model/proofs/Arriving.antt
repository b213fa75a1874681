-- In every run, each agent accepts what arrives in its present life, whether it keeps its events or not.
use Rattle.serf_model.proofs.Names.{Bool, Err, List, None, Ok, Option, Result, Some, [], ap, append_assoc, arith, cond, false, inl, inr, length, length-append, map, nat_le, nat_lt, refl, subst, sym, true, ℕ, ◌&&◌, ◌++◌, ◌+◌, ◌==◌, ◌∙◌, ◌∷◌, ◌≡◌, ◌≢◌, ◌≤◌, ◌⊎◌, eqb-true, leb-true, and_parts, map-append, append-nil, filter-append, All-append, All-contains, All-head, All-map, All-tail, All-weaker, Contains-append_cases, Contains-append_left, Contains-append_right, filter, max, All, Contains, slice_get, observed, decoded, Message, PushPull, foreign, push_pull, query, query_response, user_event, WireError, EventBody, event_of, same_texts, TimedEntry, count_at, held_at, answers, planned, ended, admission, received_as, texts_len, IdealAgent, Past, was_ever_entered, receive_read, events_of, handed_by, hear, heard_by, merge_refusal, receive_one, written_min_line, of_life, Config, EventOut, MergeError, Outcome, Reason, ReceiveError, IdealNode, apply, delivers, merges_as, merges_events, merges_given, merges_heard, merges_on, receive_gives, events_given, clock_shown, clock_told, hears_of, events_brought, events_in_packet, given_by, Act, Of, All-contains_itself, Kept, is_stopped, min_written_by, state_clock}
use Rattle.serf_agent.specs.declared.outcome.ReceiveError.TheVariants as receives
use Rattle.serf_model.specs.declared.action.Act.TheVariants as acts
use Rattle.serf_model.proofs.CallsKept.{kept-or-failed}
use Rattle.serf_model.proofs.ClockShown.{heard-low, received-low, rising, rising-up}
use Rattle.serf_model.proofs.EventsNotMissed.{decide, event-taken, hears-runs, hears-shown, received-outs, taken-outs, unfailed}
use Rattle.serf_model.proofs.MinimumShown.{told_by}
use Rattle.serf_model.proofs.NotMissedLaws.{none-in, only-in}
use Rattle.serf_model.proofs.PerTimeBound.{of_life-append, out_in, past}
use Rattle.serf_model.proofs.SeenLaws.{same-texts}
use Rattle.std.proofs.lemmas.Bool.{le-ltb}

-- ---- an agent that accepts what arrives at a time

-- Of this time, the agent has exactly the events that were handed to it in its present life.
pub record IsOpenNow (t : ℕ) (config : Config) (handed : List (TimedEntry EventBody)) (i : IdealAgent) : Type 0 where
  pub settings : i.config ≡ config
  pub minimum : i.events.minimum ≤ t
  pub known : All (λ p. p.entry.time ≡ t → Contains handed p.entry) i.events.history
  pub many : count_at (of_life i.life i.events.history) t ≤ count_at handed t

count_at-append : {K : Type 0} (t : ℕ) (xs ys : List (TimedEntry K)) → count_at (xs ++ ys) t ≡ count_at xs t + count_at ys t
count_at-append {K} t xs ys =
    ap length (ap (map (λ (x : TimedEntry K). x.key)) (filter-append (λ (x : TimedEntry K). x.time == t) xs ys) ∙ map-append (λ (x : TimedEntry K). x.key) (filter (λ (x : TimedEntry K). x.time == t) xs) (filter (λ (x : TimedEntry K). x.time == t) ys))
    ∙ length-append (held_at t xs) (held_at t ys)

-- an event that equals none of those that were handed out wasn't entered
equal : (x : TimedEntry EventBody) (t : ℕ) (what : EventBody) → ((x.time == t) && same_texts x.key what) ≡ true → x ≡ record { time = t; key = what }
equal x t what is =
    let parts = and_parts (x.time == t) (same_texts x.key what) is in
    let time : x.time ≡ t = eqb-true x.time t parts.0 in
    let texts : x.key ≡ what = same-texts x.key what parts.1 in
    λ k. record { time = time k; key = texts k }

never-entered : (history : List (Past EventBody)) (handed : List (TimedEntry EventBody)) (t : ℕ) (what : EventBody) → All (λ p. p.entry.time ≡ t → Contains handed p.entry) history → (Contains handed (record { time = t; key = what }) → ⊥)
    → was_ever_entered same_texts history t what ≡ false
never-entered [] handed t what known new = refl
never-entered (p ∷ ps) handed t what known new = by ((p.entry.time == t) && same_texts p.entry.key what) refl (never-entered ps handed t what (All-tail (λ (q : Past EventBody). q.entry.time ≡ t → Contains handed q.entry) p ps known) new)
  where
    by : (b : Bool) → ((p.entry.time == t) && same_texts p.entry.key what) ≡ b → was_ever_entered same_texts ps t what ≡ false → was_ever_entered same_texts (p ∷ ps) t what ≡ false
    by true is rest =
        let same : p.entry ≡ record { time = t; key = what } = equal p.entry t what is in
        let there : Contains handed p.entry = All-head (λ (q : Past EventBody). q.entry.time ≡ t → Contains handed q.entry) p ps known (ap (λ (x : TimedEntry EventBody). x.time) same) in
        absurd (new (subst (Contains handed) same there))
    by false is rest = rw is rest

-- what arrives is admitted, or its time is full
admits : (t : ℕ) (config : Config) (handed : List (TimedEntry EventBody)) (i : IdealAgent) (what : EventBody) → IsOpenNow t config handed i → texts_len what ≤ 9216 → observed i.events.clock t ≤ t + config.event_buffer
    → (Contains handed (record { time = t; key = what }) → ⊥) → (admission i t what ≡ None) ⊎ (config.per_time ≤ count_at handed t)
admits t config handed i what opens short young new = by (nat_le i.config.per_time (count_at (of_life i.life i.events.history) t)) refl
  where
    long : nat_lt 9216 (texts_len what) ≡ false
    long = le-ltb 9216 (texts_len what) short

    low : nat_lt t i.events.minimum ≡ false
    low = le-ltb t i.events.minimum opens.minimum

    window : i.config.event_buffer ≡ config.event_buffer
    window = ap (λ (c : Config). c.event_buffer) opens.settings

    late : nat_lt (t + i.config.event_buffer) (observed i.events.clock t) ≡ false
    late = le-ltb (t + i.config.event_buffer) (observed i.events.clock t) (omega (arith, young, window))

    seen : was_ever_entered same_texts i.events.history t what ≡ false
    seen = never-entered i.events.history handed t what opens.known new

    by : (b : Bool) → nat_le i.config.per_time (count_at (of_life i.life i.events.history) t) ≡ b → (admission i t what ≡ None) ⊎ (config.per_time ≤ count_at handed t)
    by false is = inl (rw (long, low, late, seen, is) refl)
    by true is =
        let many : i.config.per_time ≤ count_at (of_life i.life i.events.history) t = leb-true _ _ is in
        let same : i.config.per_time ≡ config.per_time = ap (λ (c : Config). c.per_time) opens.settings in
        let most : count_at (of_life i.life i.events.history) t ≤ count_at handed t = opens.many in
        inr (omega (arith, many, same, most))

-- ---- entering

-- of this time, all entries of a history are among these, and those of a life are at most as many
pub record IsAll (t life : ℕ) (handed : List (TimedEntry EventBody)) (history : List (Past EventBody)) : Type 0 where
  pub known : All (λ p. p.entry.time ≡ t → Contains handed p.entry) history
  pub many : count_at (of_life life history) t ≤ count_at handed t

pub all-more : (t life : ℕ) (handed more : List (TimedEntry EventBody)) (history : List (Past EventBody)) → IsAll t life handed history → IsAll t life (handed ++ more) (history ++ map (past life) more)
all-more t life handed more history all = record {
  known = All-append (λ (p : Past EventBody). p.entry.time ≡ t → Contains (handed ++ more) p.entry) history (map (past life) more)
      (All-weaker (λ (p : Past EventBody). p.entry.time ≡ t → Contains handed p.entry) (λ (p : Past EventBody). p.entry.time ≡ t → Contains (handed ++ more) p.entry) (λ p h is. Contains-append_left handed more p.entry (h is)) history all.known)
      (All-map (λ (p : Past EventBody). p.entry.time ≡ t → Contains (handed ++ more) p.entry) (past life) more
      (All-weaker (Contains more) (λ (e : TimedEntry EventBody). e.time ≡ t → Contains (handed ++ more) e) (λ e there is. Contains-append_right handed more e there) more (All-contains_itself more)));
  many =
      let entered : count_at (of_life life history ++ more) t ≡ count_at (of_life life history) t + count_at more t = count_at-append t (of_life life history) more in
      let out : count_at (handed ++ more) t ≡ count_at handed t + count_at more t = count_at-append t handed more in
      let before : count_at (of_life life history) t ≤ count_at handed t = all.many in
      subst (λ (l : List (TimedEntry EventBody)). count_at l t ≤ count_at (handed ++ more) t) (sym (of_life-append life history more)) (omega (arith, entered, out, before));
}

-- the agent after it has received one event
opens-on : (t : ℕ) (config : Config) (handed : List (TimedEntry EventBody)) (i : IdealAgent) (x : TimedEntry EventBody) (outcome : Outcome) (r : Option Reason) → IsOpenNow t config handed i
    → (planned i (received_as r i x.time x.key false)).answer ≡ Ok outcome → IsOpenNow t config (handed ++ map out_in (handed_by (Ok outcome))) (planned i (received_as r i x.time x.key false)).agent
opens-on t config handed i x outcome (Some reason) opens is =
    subst (λ (a : Result Outcome ReceiveError). IsOpenNow t config (handed ++ map out_in (handed_by a)) (planned i (received_as (Some reason) i x.time x.key false)).agent) is
    (subst (λ (l : List (TimedEntry EventBody)). IsOpenNow t config l (planned i (received_as (Some reason) i x.time x.key false)).agent) (sym (append-nil handed))
    (record { settings = opens.settings; minimum = opens.minimum; known = opens.known; many = opens.many }))
opens-on t config handed i x outcome None opens is =
    kept-or-failed {R = Result Outcome ReceiveError} (λ o. o.answer ≡ Ok outcome → IsOpenNow t config (handed ++ map out_in (handed_by (Ok outcome))) o.agent) i (received_as None i x.time x.key false)
    (λ is. subst (λ (a : Result Outcome ReceiveError). IsOpenNow t config (handed ++ map out_in (handed_by a)) (ended i (received_as None i x.time x.key false) Kept).agent) is entered) (λ d is. absurd (cc is)) is
  where
    more : IsAll t i.life (handed ++ x ∷ []) (i.events.history ++ past i.life x ∷ [])
    more = all-more t i.life handed (x ∷ []) i.events.history (record { known = opens.known; many = opens.many })

    entered : IsOpenNow t config (handed ++ x ∷ []) (ended i (received_as None i x.time x.key false) Kept).agent
    entered = record { settings = opens.settings; minimum = opens.minimum; known = more.known; many = more.many }

-- ---- an event that arrives

-- An event that an agent has to accept.
pub record Coming : Type 0 where
  pub event : TimedEntry EventBody
  pub config : Config
  pub short : texts_len event.key ≤ 9216

abbrev pub IsYoung : Coming → ℕ → Type 0
IsYoung g clock = clock ≤ g.event.time + g.config.event_buffer

abbrev pub IsOpen : Coming → List (TimedEntry EventBody) → IdealAgent → Type 0
IsOpen g handed i = IsOpenNow g.event.time g.config handed i

-- the event is handed out, or its time is full
abbrev pub Comes : Coming → List (TimedEntry EventBody) → List EventOut → Type 0
Comes g handed outs = Contains (map out_in outs) g.event ⊎ (g.config.per_time ≤ count_at (handed ++ map out_in outs) g.event.time)

full-comes : (g : Coming) (handed : List (TimedEntry EventBody)) (outs : List EventOut) → g.config.per_time ≤ count_at handed g.event.time → Comes g handed outs
full-comes g handed outs many = let more = count_at-append g.event.time handed (map out_in outs) in inr (omega (arith, many, more))

read-takes : (g : Coming) (i : IdealAgent) (number now clock : ℕ) (packet : List ℕ) (handed : List (TimedEntry EventBody)) (r : Result Message WireError) → i.events.clock ≤ clock → IsYoung g (clock_told clock (acts.Deliver number now) r)
    → Contains (events_brought r) g.event → (Contains handed g.event → ⊥) → IsOpen g handed i → hears_of (receive_gives packet (planned i (receive_read false i now r)).answer).answer ≡ true
    → Comes g handed (receive_gives packet (planned i (receive_read false i now r)).answer).events
read-takes g i number now clock packet handed (Ok (user_event e)) low young there new opens hears =
    let what : EventBody = event_of e.name e.payload in
    let same : g.event ≡ record { time = e.time; key = what } = only-in (record { time = e.time; key = event_of e.name e.payload }) g.event there in
    let time : g.event.time ≡ e.time = ap (λ (x : TimedEntry EventBody). x.time) same in
    let outs = event-taken i packet e.time what e.coalesce (admission i e.time what) in
    elim (admits g.event.time g.config handed i g.event.key opens g.short (omega (arith, young, low, time)) new) [
      | inl none ↦
          let admitted : admission i e.time what ≡ None = subst (λ (x : TimedEntry EventBody). admission i x.time x.key ≡ None) same none in
          inl (subst (λ (l : List (TimedEntry EventBody)). Contains l g.event) (sym (outs admitted hears)) (0, omega arith, sym same))
      | inr many ↦ full-comes g handed (receive_gives packet (planned i (receive_read false i now (Ok (user_event e)))).answer).events many
    ]
read-takes g i number now clock packet handed (Ok (query q)) low young there new opens hears = absurd (none-in g.event there)
read-takes g i number now clock packet handed (Ok (query_response r)) low young there new opens hears = absurd (none-in g.event there)
read-takes g i number now clock packet handed (Ok (push_pull m)) low young there new opens hears = absurd (cc hears)
read-takes g i number now clock packet handed (Ok (foreign kind)) low young there new opens hears = absurd (none-in g.event there)
read-takes g i number now clock packet handed (Err error) low young there new opens hears = absurd (none-in g.event there)

delivers-takes : (g : Coming) (m : IdealNode) (number now clock : ℕ) (packet : List ℕ) (handed : List (TimedEntry EventBody)) → m.agent.events.clock ≤ clock → IsYoung g (clock_told clock (acts.Deliver number now) (decoded packet))
    → Contains (events_in_packet packet) g.event → (Contains handed g.event → ⊥) → IsOpen g handed m.agent → hears_of (delivers m now (Some packet)).done.answer ≡ true → Comes g handed (delivers m now (Some packet)).done.events
delivers-takes g m number now clock packet handed low young there new opens = by m.agent.snapshot.stopped
  where
    by : (b : Bool) → (let call = cond b (answers m.agent (Err receives.Stopped)) (receive_read false m.agent now (decoded packet)) in
        hears_of (receive_gives packet (planned m.agent call).answer).answer ≡ true → Comes g handed (receive_gives packet (planned m.agent call).answer).events)
    by true = λ hears. absurd (cc hears)
    by false = read-takes g m.agent number now clock packet handed (decoded packet) low young there new opens

-- ---- a state

-- what remains to be shown of the other events of a state, if the first one has this outcome
abbrev More : Coming → List (TimedEntry EventBody) → IdealAgent → List (TimedEntry EventBody) → Type 0
More g es i handed = Contains es g.event → (Contains handed g.event → ⊥) → IsOpen g handed i → (merges_events es i).failed ≡ false → Comes g handed (merges_events es i).events

take-next : (g : Coming) (x : TimedEntry EventBody) (es : List (TimedEntry EventBody)) (i : IdealAgent) (handed : List (TimedEntry EventBody)) (clock : ℕ) → i.events.clock ≤ clock → IsYoung g (rising clock (x ∷ es))
    → ((outcome : Outcome) → (planned i (receive_one i x)).answer ≡ Ok outcome → More g es (planned i (receive_one i x)).agent (handed ++ map out_in (handed_by (Ok outcome)))) → More g (x ∷ es) i handed
take-next g x es i handed clock low young more there new opens failed = by (planned i (receive_one i x)).answer refl failed
  where
    rest : List EventOut
    rest = (merges_events es (planned i (receive_one i x)).agent).events

    all : (outcome : Outcome) → map out_in (handed_by (Ok outcome) ++ rest) ≡ map out_in (handed_by (Ok outcome)) ++ map out_in rest
    all outcome = map-append out_in (handed_by (Ok outcome)) rest

    here : (outcome : Outcome) → (planned i (receive_one i x)).answer ≡ Ok outcome → x ≡ g.event → Comes g handed (handed_by (Ok outcome) ++ rest)
    here outcome is same =
        let time : x.time ≡ g.event.time = ap (λ (y : TimedEntry EventBody). y.time) same in
        let up = rising-up (observed clock x.time) es in
        elim (admits g.event.time g.config handed i g.event.key opens g.short (omega (arith, young, low, time, up)) new) [
          | inl none ↦
              let admitted : admission i x.time x.key ≡ None = subst (λ (y : TimedEntry EventBody). admission i y.time y.key ≡ None) (sym same) none in
              let first : map out_in (handed_by (Ok outcome)) ≡ x ∷ [] = taken-outs i x outcome (admission i x.time x.key) admitted is in
              let found : Contains (map out_in (handed_by (Ok outcome))) g.event = subst (λ (l : List (TimedEntry EventBody)). Contains l g.event) (sym first) (0, omega arith, same) in
              inl (subst (λ (l : List (TimedEntry EventBody)). Contains l g.event) (sym (all outcome)) (Contains-append_left (map out_in (handed_by (Ok outcome))) (map out_in rest) g.event found))
          | inr many ↦ full-comes g handed (handed_by (Ok outcome) ++ rest) many
        ]

    still : (outcome : Outcome) → All (λ y. y ≡ x) (map out_in (handed_by (Ok outcome))) → x ≢ g.event → Contains (handed ++ map out_in (handed_by (Ok outcome))) g.event → ⊥
    still outcome those differs met = elim (Contains-append_cases handed (map out_in (handed_by (Ok outcome))) g.event met) [
      | inl before ↦ new before
      | inr now ↦ differs (sym (All-contains (λ (y : TimedEntry EventBody). y ≡ x) (map out_in (handed_by (Ok outcome))) g.event those now))
    ]

    later : (outcome : Outcome) → (planned i (receive_one i x)).answer ≡ Ok outcome → x ≢ g.event → (merges_events es (planned i (receive_one i x)).agent).failed ≡ false → Comes g handed (handed_by (Ok outcome) ++ rest)
    later outcome is differs failed =
        let outs : List (TimedEntry EventBody) = map out_in (handed_by (Ok outcome)) in
        let within : Contains es g.event = elim (Contains-append_cases (x ∷ []) es g.event there) [
          | inl first ↦ absurd (differs (sym (only-in x g.event first)))
          | inr found ↦ found
        ] in
        let those : All (λ y. y ≡ x) (map out_in (handed_by (Ok outcome))) = subst (λ (a : Result Outcome ReceiveError). All (λ y. y ≡ x) (map out_in (handed_by a))) is (received-outs i x (admission i x.time x.key)) in
        elim (more outcome is within (still outcome those differs) (opens-on g.event.time g.config handed i x outcome (admission i x.time x.key) opens is) failed) [
          | inl found ↦ inl (subst (λ (l : List (TimedEntry EventBody)). Contains l g.event) (sym (all outcome)) (Contains-append_right (map out_in (handed_by (Ok outcome))) (map out_in rest) g.event found))
          | inr many ↦
              inr (subst (λ (l : List (TimedEntry EventBody)). g.config.per_time ≤ count_at l g.event.time)
              (append_assoc handed (map out_in (handed_by (Ok outcome))) (map out_in rest) ∙ ap (λ (l : List (TimedEntry EventBody)). handed ++ l) (sym (all outcome))) many)
        ]

    by : (r : Result Outcome ReceiveError) → (planned i (receive_one i x)).answer ≡ r → (merges_on (record { agent = (planned i (receive_one i x)).agent; answer = r }) (merges_events es)).failed ≡ false
        → Comes g handed (merges_on (record { agent = (planned i (receive_one i x)).agent; answer = r }) (merges_events es)).events
    by (Err error) is failed = absurd (cc failed)
    by (Ok outcome) is failed = elim (decide x g.event) [
      | inl same ↦ here outcome is same
      | inr differs ↦ later outcome is differs failed
    ]

merges-take : (g : Coming) (es : List (TimedEntry EventBody)) (i : IdealAgent) (handed : List (TimedEntry EventBody)) (clock : ℕ) → i.events.clock ≤ clock → IsYoung g (rising clock es) → More g es i handed
merges-take g [] i handed clock low young there new opens failed = absurd (none-in g.event there)
merges-take g (x ∷ es) i handed clock low young there new opens failed =
    take-next g x es i handed clock low young
    (λ outcome is. merges-take g es (planned i (receive_one i x)).agent (handed ++ map out_in (handed_by (Ok outcome))) (observed clock x.time)
    (received-low i x.time clock i.queries.clock x.key false (admission i x.time x.key) (low, omega arith)).0 young) there new opens failed

-- an agent that has merged the clocks of a state
opens-heard : (t : ℕ) (config : Config) (handed : List (TimedEntry EventBody)) (i : IdealAgent) (s : PushPull) (join : Bool) → told_by i s join ≤ t → IsOpenNow t config handed i → IsOpenNow t config handed (planned i (hear i s join)).agent
opens-heard t config handed i s join lowest opens = by (written_min_line i.config s join)
  where
    joined_open : max i.events.minimum (told_by i s join) ≤ t
    joined_open = let low : i.events.minimum ≤ t = opens.minimum in omega (arith, low, lowest)

    by : (line : Option (List ℕ)) → IsOpenNow t config handed (planned i (heard_by line i s join)).agent
    by None = record { settings = opens.settings; minimum = joined_open; known = opens.known; many = opens.many }
    by (Some line) =
        kept-or-failed (λ o. IsOpenNow t config handed o.agent) i (heard_by (Some line) i s join) (record { settings = opens.settings; minimum = joined_open; known = opens.known; many = opens.many })
        (λ d. record { settings = opens.settings; minimum = opens.minimum; known = opens.known; many = opens.many })

merged-takes : (g : Coming) (m : IdealNode) (join : Bool) (s : PushPull) (handed : List (TimedEntry EventBody)) (clock : ℕ) → told_by m.agent s join ≤ g.event.time → m.agent.events.clock ≤ clock → IsYoung g (rising (max clock s.event_clock) (events_of s.slots))
    → Contains (events_of s.slots) g.event → (Contains handed g.event → ⊥) → IsOpen g handed m.agent → (let o = merges_heard m (events_of s.slots) (planned m.agent (hear m.agent s join)) in hears_of o.done.answer ≡ true → Comes g handed o.done.events)
merged-takes g m join s handed clock lowest low young there new opens hears = by (planned m.agent (hear m.agent s join)).answer hears
  where
    heard : IsOpen g handed (planned m.agent (hear m.agent s join)).agent
    heard = opens-heard g.event.time g.config handed m.agent s join lowest opens

    under : (planned m.agent (hear m.agent s join)).agent.events.clock ≤ max clock s.event_clock
    under = (heard-low m.agent s join clock m.agent.queries.clock (low, omega arith)).0

    by : (x : Result (Unit {0}) MergeError) → (let o = merges_heard m (events_of s.slots) (record { agent = (planned m.agent (hear m.agent s join)).agent; answer = x }) in hears_of o.done.answer ≡ true → Comes g handed o.done.events)
    by (Ok done) hears =
        let j : IdealAgent = (planned m.agent (hear m.agent s join)).agent in
        merges-take g (events_of s.slots) j handed (max clock s.event_clock) under young there new heard (unfailed (merges_events (events_of s.slots) j).failed hears)
    by (Err error) hears = absurd (cc hears)

merge-takes : (g : Coming) (m : IdealNode) (number : ℕ) (join : Bool) (handed : List (TimedEntry EventBody)) (clock : ℕ) (f : Option MergeError) (r : Result Message WireError) → cond (join && m.agent.config.ignore_old) (state_clock r) 0 ≤ g.event.time → m.agent.events.clock ≤ clock
    → IsYoung g (clock_told clock (acts.Merge number join) r) → Contains (events_brought r) g.event → (Contains handed g.event → ⊥) → IsOpen g handed m.agent → hears_of (merges_as f m join r).done.answer ≡ true → Comes g handed (merges_as f m join r).done.events
merge-takes g m number join handed clock None (Ok (push_pull s)) lowest low young there new opens hears = merged-takes g m join s handed clock lowest low young there new opens hears
merge-takes g m number join handed clock (Some error) r lowest low young there new opens hears = absurd (cc hears)
merge-takes g m number join handed clock None _ lowest low young there new opens hears = absurd (cc hears)

-- ---- the packet that a turn passes to its agent

delivered-takes : (g : Coming) (m : IdealNode) (b number now clock : ℕ) (handed : List (TimedEntry EventBody)) (given : Option (List ℕ)) → m.agent.events.clock ≤ clock → IsYoung g (clock_shown clock (Of b (acts.Deliver number now)) given (delivers m now given).done.answer)
    → Contains (events_given given) g.event → (Contains handed g.event → ⊥) → IsOpen g handed m.agent → hears_of (delivers m now given).done.answer ≡ true → Comes g handed (delivers m now given).done.events
delivered-takes g m b number now clock handed None low young there new opens hears = absurd (none-in g.event there)
delivered-takes g m b number now clock handed (Some packet) low young there new opens hears =
    let told = subst (IsYoung g) (hears-shown clock (Of b (acts.Deliver number now)) (Some packet) (delivers m now (Some packet)).done.answer hears) young in
    delivers-takes g m number now clock packet handed low told there new opens hears

merging-takes : (g : Coming) (m : IdealNode) (b number : ℕ) (join : Bool) (clock : ℕ) (handed : List (TimedEntry EventBody)) (given : Option (List ℕ)) → m.agent.events.clock ≤ clock
    → IsYoung g (clock_shown clock (Of b (acts.Merge number join)) given (merges_given m join given).done.answer) → cond (is_stopped (merges_given m join given).done.answer) 0 (min_written_by m.agent.config (Of b (acts.Merge number join)) given) ≤ g.event.time
    → Contains (events_given given) g.event → (Contains handed g.event → ⊥) → IsOpen g handed m.agent → hears_of (merges_given m join given).done.answer ≡ true → Comes g handed (merges_given m join given).done.events
merging-takes g m b number join clock handed None low young lowest there new opens hears = absurd (none-in g.event there)
merging-takes g m b number join clock handed (Some packet) low young lowest there new opens hears =
    let shown = subst (IsYoung g) (hears-shown clock (Of b (acts.Merge number join)) (Some packet) (merges_given m join (Some packet)).done.answer hears) young in
    let says : cond (join && m.agent.config.ignore_old) (state_clock (decoded packet)) 0 ≤ g.event.time =
    subst (λ (x : Bool). cond x 0 (cond (join && m.agent.config.ignore_old) (state_clock (decoded packet)) 0) ≤ g.event.time) (hears-runs (merges_given m join (Some packet)).done.answer hears) lowest in
    merge-takes g m number join handed clock (merge_refusal m.agent.snapshot (decoded packet)) (decoded packet) says low shown there new opens hears

pub acts-take : (g : Coming) (m : IdealNode) (sent : List (List ℕ)) (b clock : ℕ) (act : Act) (handed : List (TimedEntry EventBody)) → m.agent.events.clock ≤ clock → IsYoung g (clock_shown clock (Of b act) (given_by sent act) (apply m sent act).done.answer)
    → cond (is_stopped (apply m sent act).done.answer) 0 (min_written_by m.agent.config (Of b act) (given_by sent act)) ≤ g.event.time → Contains (events_given (given_by sent act)) g.event → (Contains handed g.event → ⊥) → IsOpen g handed m.agent
    → hears_of (apply m sent act).done.answer ≡ true → Comes g handed (apply m sent act).done.events
acts-take g m sent b clock (acts.Deliver number now) handed low young lowest there new opens hears = delivered-takes g m b number now clock handed (slice_get sent number) low young there new opens hears
acts-take g m sent b clock (acts.Merge number join) handed low young lowest there new opens hears = merging-takes g m b number join clock handed (slice_get sent number) low young lowest there new opens hears
acts-take g m sent b clock _ handed low young lowest there new opens hears = absurd (none-in g.event there)
