-- Agents that keep their events don't miss events: neither those in packets, nor those in states that are merged.
use Rattle.serf_model.proofs.Names.{Bool, Err, List, None, Ok, Option, Result, Some, [], ap, append_assoc, arith, cond, false, inl, inr, map, refl, subst, sym, true, ℕ, ◌&&◌, ◌++◌, ◌+◌, ◌-◌, ◌<◌, ◌==◌, ◌^◌, ◌∙◌, ◌∷◌, ◌≡◌, ◌≢◌, ◌≤◌, ◌⊎◌, and_from, and_parts, eq-eqb, eqb-true, true≢false, map-append, All-cons, All-contains, All-head, All-nil, All-tail, Contains-append_cases, Contains-append_left, Contains-append_right, bytes_eq-Decides, AllByRecursion, All, Contains, max, slice_get, observed, decoded, Message, PushPull, foreign, push_pull, query, query_response, user_event, IsRangedPushPull, WireError, EventBody, fresh_device, event_of, same_texts, TimedEntry, Call, answers, planned, will, admission, received_as, texts_len, IdealAgent, IsFull, IsMet, IsDurable, IsWritable, Takes, receive_read, events_of, handed_by, hear, merge_refusal, receive_one, TakesAt, TakesOrFull, event_track, Config, EventOut, MergeError, Outcome, Reason, ReceiveError, Below, Cluster, IdealNode, applied, apply, delivers, event_line, merges_as, merges_events, merges_given, merges_heard, merges_on, receive_gives, events_given, IsToCome, clock_given, clock_shown, clock_then, clock_told, event_clock_of, events_shown, hears_of, is_stopped, min_written, min_written_by, state_clock, IsRepresentable, CanTellAct, tailed_in, tails_to, Turn, event_in, events_brought, events_in_packet, events_to, given_by, Act, Action, Of, Answer}
use Rattle.serf_model.proofs.CallsKept.{ready-received}
use Rattle.serf_model.proofs.ClockShown.{heard-low, received-low, rising, rising-up, clocks-apply}
use Rattle.serf_model.proofs.DurableKept.{durable-heard, durable-received}
use Rattle.serf_model.proofs.LifeActs.{kept-heard, may-end, FitsAct, Outs, given-told}
use Rattle.serf_model.proofs.InvariantKept.{hears-on, ready-heard, runs-on, times-of}
use Rattle.serf_model.proofs.PerTimeBound.{none-if, out_in}
use Rattle.serf_model.proofs.ReadyLaws.{IsReady, ready}
use Rattle.serf_model.proofs.SeenLaws.{same-texts, WasHere, here-more, outs-here, tail-here, to-more}
use Rattle.serf_model.proofs.TakesKept.{event_shows, full-wider, taking, IsFit, events-fit, if-told}
use Rattle.serf_model.proofs.FiredLaws.{tailed-is}
use Rattle.serf_model.proofs.HistoryGrowth.{Says}
use Rattle.serf_model.proofs.PerAgent.{by-more}
use Rattle.serf_model.proofs.RunLaws.{IsAfter, all-at, events_to-push, lines-same, settings-at}
use Rattle.serf_model.proofs.Spreading.{says-weaker}
use Rattle.serf_model.proofs.CallsKept.{kept-or-failed}
use Rattle.serf_model.proofs.NotMissedLaws.{none-in, only-in, IsTaken, RunTrack, first-low}
use Rattle.serf_agent.specs.declared.outcome.MergeError.TheVariants as merges
use Rattle.serf_agent.specs.declared.outcome.ReceiveError.TheVariants as receives
use Rattle.serf_model.specs.declared.action.Act.TheVariants as acts
use Rattle.serf_model.specs.declared.line.Answer.TheVariants as lines
use Rattle.serf_model.specs.declared.line.Refusal.TheVariants as refusals

-- An event that an agent has to accept, with what was handed to the agent before and what was in its tails.
pub record Coming : Type 0 where
  pub event : TimedEntry EventBody
  pub config : Config
  pub stood : List (TimedEntry EventBody)
  pub on : config.keep_events ≡ true
  pub some : 0 < event.time
  pub short : texts_len event.key ≤ 9216

-- the event isn't too old if this is the clock
abbrev IsYoung : Coming → ℕ → Type 0
IsYoung g clock = clock ≤ g.event.time + g.config.event_buffer

abbrev IsNew : Coming → List (TimedEntry EventBody) → Type 0
IsNew g handed = IsMet handed g.stood g.event → ⊥

-- the event is handed out, or its time is full
abbrev Comes : Coming → List (TimedEntry EventBody) → List EventOut → Type 0
Comes g handed outs = Contains (map out_in outs) g.event ⊎ IsFull g.config.per_time g.event.time (handed ++ map out_in outs) g.stood

full-comes : (g : Coming) (handed : List (TimedEntry EventBody)) (outs : List EventOut) → IsFull g.config.per_time g.event.time handed g.stood → Comes g handed outs
full-comes g handed outs full = inr (full-wider g.config.per_time g.event.time handed g.stood (handed ++ map out_in outs) g.stood (λ e m. wider e m) full)
  where
    wider : (e : TimedEntry EventBody) → IsMet handed g.stood e → IsMet (handed ++ map out_in outs) g.stood e
    wider e (inl h) = inl (Contains-append_left handed (map out_in outs) e h)
    wider e (inr h) = inr h

pub decide : (x e : TimedEntry EventBody) → (x ≡ e) ⊎ (x ≢ e)
decide x e = by ((x.time == e.time) && same_texts x.key e.key) refl
  where
    itself : same_texts x.key x.key ≡ true
    itself = and_from _ _ ((bytes_eq-Decides x.key.name x.key.name).1 refl) ((bytes_eq-Decides x.key.payload x.key.payload).1 refl)

    equal : x ≡ e → ((x.time == e.time) && same_texts x.key e.key) ≡ true
    equal same = subst (λ (y : TimedEntry EventBody). ((x.time == y.time) && same_texts x.key y.key) ≡ true) same (and_from _ _ (eq-eqb x.time x.time refl) itself)

    by : (b : Bool) → ((x.time == e.time) && same_texts x.key e.key) ≡ b → (x ≡ e) ⊎ (x ≢ e)
    by true is =
        let parts = and_parts _ _ is in
        let time : x.time ≡ e.time = eqb-true _ _ parts.0 in
        let texts : x.key ≡ e.key = same-texts x.key e.key parts.1 in
        inl (λ k. record { time = time k; key = texts k })
    by false is = inr (λ same. true≢false (sym (equal same) ∙ is))

-- ---- a packet

-- an event that is admitted is handed out if its line is kept
pub event-taken : (i : IdealAgent) (packet : List ℕ) (t : ℕ) (what : EventBody) (coalesce : Bool) (r : Option Reason) → r ≡ None → hears_of (receive_gives packet (planned i (received_as r i t what coalesce)).answer).answer ≡ true
    → map out_in (receive_gives packet (planned i (received_as r i t what coalesce)).answer).events ≡ record { time = t; key = what } ∷ []
event-taken i packet t what coalesce (Some reason) none hears = absurd (cc none)
event-taken i packet t what coalesce None none hears =
    kept-or-failed (λ o. hears_of (receive_gives packet o.answer).answer ≡ true → map out_in (receive_gives packet o.answer).events ≡ record { time = t; key = what } ∷ []) i (received_as None i t what coalesce) (λ hears. refl)
    (λ d hears. absurd (cc hears)) hears

read-takes : Below → (g : Coming) (i : IdealAgent) (number now clock : ℕ) (packet : List ℕ) (handed : List (TimedEntry EventBody)) (r : Result Message WireError) → IsReady i → i.events.clock ≤ clock → IsYoung g (clock_told clock (acts.Deliver number now) r)
    → Contains (events_brought r) g.event → IsNew g handed → TakesAt event_track g.event.time g.config handed g.stood i → hears_of (receive_gives packet (planned i (receive_read false i now r)).answer).answer ≡ true
    → Comes g handed (receive_gives packet (planned i (receive_read false i now r)).answer).events
read-takes lower g i number now clock packet handed (Ok (user_event e)) ready low young there new takes hears =
    let what : EventBody = event_of e.name e.payload in
    let same : g.event ≡ record { time = e.time; key = what } = only-in (record { time = e.time; key = event_of e.name e.payload }) g.event there in
    let time : g.event.time ≡ e.time = ap (λ (x : TimedEntry EventBody). x.time) same in
    let outs = event-taken i packet e.time what e.coalesce (admission i e.time what) in
    elim (lower.keeps.taking.takes g.event.time g.config handed g.stood i g.event.key ready.consistent.sound takes g.short (omega (arith, young, low, time)) new) [
      | inl none ↦
          let admitted : admission i e.time what ≡ None = subst (λ (x : TimedEntry EventBody). admission i x.time x.key ≡ None) same none in
          inl (subst (λ (l : List (TimedEntry EventBody)). Contains l g.event) (sym (outs admitted hears)) (0, omega arith, sym same))
      | inr full ↦ full-comes g handed (receive_gives packet (planned i (receive_read false i now (Ok (user_event e)))).answer).events full
    ]
read-takes lower g i number now clock packet handed (Ok (query q)) ready low young there new takes hears = absurd (none-in g.event there)
read-takes lower g i number now clock packet handed (Ok (query_response r)) ready low young there new takes hears = absurd (none-in g.event there)
read-takes lower g i number now clock packet handed (Ok (push_pull m)) ready low young there new takes hears = absurd (cc hears)
read-takes lower g i number now clock packet handed (Ok (foreign kind)) ready low young there new takes hears = absurd (none-in g.event there)
read-takes lower g i number now clock packet handed (Err error) ready low young there new takes hears = absurd (none-in g.event there)

delivers-takes : Below → (g : Coming) (m : IdealNode) (number now clock : ℕ) (packet : List ℕ) (handed : List (TimedEntry EventBody)) → IsReady m.agent → m.agent.events.clock ≤ clock → IsYoung g (clock_told clock (acts.Deliver number now) (decoded packet))
    → Contains (events_in_packet packet) g.event → IsNew g handed → TakesAt event_track g.event.time g.config handed g.stood m.agent → hears_of (delivers m now (Some packet)).done.answer ≡ true → Comes g handed (delivers m now (Some packet)).done.events
delivers-takes lower g m number now clock packet handed ready low young there new takes = by m.agent.snapshot.stopped
  where
    by : (b : Bool) → (let call = cond b (answers m.agent (Err receives.Stopped)) (receive_read false m.agent now (decoded packet)) in
        hears_of (receive_gives packet (planned m.agent call).answer).answer ≡ true → Comes g handed (receive_gives packet (planned m.agent call).answer).events)
    by true = λ hears. absurd (cc hears)
    by false = read-takes lower g m.agent number now clock packet handed (decoded packet) ready low young there new takes

-- ---- a state

-- when an event is received, nothing but this event is handed out
pub received-outs : (i : IdealAgent) (x : TimedEntry EventBody) (r : Option Reason) → All (λ y. y ≡ x) (map out_in (handed_by (planned i (received_as r i x.time x.key false)).answer))
received-outs i x (Some reason) = All-nil (λ (y : TimedEntry EventBody). y ≡ x)
received-outs i x None =
    kept-or-failed (λ o. All (λ y. y ≡ x) (map out_in (handed_by o.answer))) i (received_as None i x.time x.key false) (All-cons (λ (y : TimedEntry EventBody). y ≡ x) x [] refl (All-nil (λ (y : TimedEntry EventBody). y ≡ x)))
    (λ d. All-nil (λ (y : TimedEntry EventBody). y ≡ x))

-- when an event is admitted, it is handed out
pub taken-outs : (i : IdealAgent) (x : TimedEntry EventBody) (outcome : Outcome) (r : Option Reason) → r ≡ None → (planned i (received_as r i x.time x.key false)).answer ≡ Ok outcome → map out_in (handed_by (Ok outcome)) ≡ x ∷ []
taken-outs i x outcome (Some reason) none is = absurd (cc none)
taken-outs i x outcome None none is =
    kept-or-failed (λ o. o.answer ≡ Ok outcome → map out_in (handed_by (Ok outcome)) ≡ x ∷ []) i (received_as None i x.time x.key false) (λ is. ap (λ (a : Result Outcome ReceiveError). map out_in (handed_by a)) (sym is)) (λ d is. absurd (cc is)) is

-- what remains to be shown of the other events of a state, if the first one has this outcome
abbrev More : Coming → List (TimedEntry EventBody) → IdealAgent → List (TimedEntry EventBody) → Type 0
More g es i handed = Contains es g.event → IsNew g handed → TakesOrFull event_track g.event.time g.config handed g.stood i → (merges_events es i).failed ≡ false → Comes g handed (merges_events es i).events

take-next : Below → (g : Coming) (x : TimedEntry EventBody) (es : List (TimedEntry EventBody)) (i : IdealAgent) (handed : List (TimedEntry EventBody)) (clock : ℕ) → IsReady i → IsDurable i → i.snapshot.stopped ≡ false → x.time < 2 ^ 64 - 1 → IsWritable x.key
    → i.events.clock ≤ clock → IsYoung g (rising clock (x ∷ es)) → ((outcome : Outcome) → (planned i (receive_one i x)).answer ≡ Ok outcome → More g es (planned i (receive_one i x)).agent (handed ++ map out_in (handed_by (Ok outcome))))
    → Contains (x ∷ es) g.event → IsNew g handed → TakesAt event_track g.event.time g.config handed g.stood i → (merges_events (x ∷ es) i).failed ≡ false → Comes g handed (merges_events (x ∷ es) i).events
take-next lower g x es i handed clock ready d runs small told low young more there new takes failed = by (planned i (receive_one i x)).answer refl failed
  where
    j : IdealAgent
    j = (planned i (receive_one i x)).agent

    rest : List EventOut
    rest = (merges_events es (planned i (receive_one i x)).agent).events

    call : Call (Result Outcome ReceiveError)
    call = receive_one i x

    next : TakesOrFull event_track g.event.time g.config (handed ++ map out_in (handed_by (planned i (receive_one i x)).answer)) g.stood (planned i (receive_one i x)).agent
    next =
        lower.keeps.taking.stays g.event.time g.config handed g.stood i (Takes x (will i (receive_one i x))) g.on g.some ready.consistent.sound d takes ((runs, small, may-end i (receive_one i x) ready.consistent.observable), told) tt tt

    all : (outcome : Outcome) → map out_in (handed_by (Ok outcome) ++ rest) ≡ map out_in (handed_by (Ok outcome)) ++ map out_in rest
    all outcome = map-append out_in (handed_by (Ok outcome)) rest

    here : (outcome : Outcome) → (planned i (receive_one i x)).answer ≡ Ok outcome → x ≡ g.event → Comes g handed (handed_by (Ok outcome) ++ rest)
    here outcome is same =
        let time : x.time ≡ g.event.time = ap (λ (y : TimedEntry EventBody). y.time) same in
        let up = rising-up (observed clock x.time) es in
        elim (lower.keeps.taking.takes g.event.time g.config handed g.stood i g.event.key ready.consistent.sound takes g.short (omega (arith, young, low, time, up)) new) [
          | inl none ↦
              let admitted : admission i x.time x.key ≡ None = subst (λ (y : TimedEntry EventBody). admission i y.time y.key ≡ None) (sym same) none in
              let first : map out_in (handed_by (Ok outcome)) ≡ x ∷ [] = taken-outs i x outcome (admission i x.time x.key) admitted is in
              let found : Contains (map out_in (handed_by (Ok outcome))) g.event = subst (λ (l : List (TimedEntry EventBody)). Contains l g.event) (sym first) (0, omega arith, same) in
              inl (subst (λ (l : List (TimedEntry EventBody)). Contains l g.event) (sym (all outcome)) (Contains-append_left (map out_in (handed_by (Ok outcome))) (map out_in rest) g.event found))
          | inr full ↦ full-comes g handed (handed_by (Ok outcome) ++ rest) full
        ]

    later : (outcome : Outcome) → (planned i (receive_one i x)).answer ≡ Ok outcome → x ≢ g.event → (merges_events es (planned i (receive_one i x)).agent).failed ≡ false → Comes g handed (handed_by (Ok outcome) ++ rest)
    later outcome is differs failed =
        let outs : List (TimedEntry EventBody) = map out_in (handed_by (Ok outcome)) in
        let within : Contains es g.event = elim (Contains-append_cases (x ∷ []) es g.event there) [
          | inl first ↦ absurd (differs (sym (only-in x g.event first)))
          | inr found ↦ found
        ] in
        let those : All (λ y. y ≡ x) (map out_in (handed_by (Ok outcome))) = subst (λ (a : Result Outcome ReceiveError). All (λ y. y ≡ x) (map out_in (handed_by a))) is (received-outs i x (admission i x.time x.key)) in
        let goes = subst (λ (a : Result Outcome ReceiveError). TakesOrFull event_track g.event.time g.config (handed ++ map out_in (handed_by a)) g.stood (planned i (receive_one i x)).agent) is next in
        elim (more outcome is within (λ met. still outcome those differs met) goes failed) [
          | inl found ↦ inl (subst (λ (l : List (TimedEntry EventBody)). Contains l g.event) (sym (all outcome)) (Contains-append_right (map out_in (handed_by (Ok outcome))) (map out_in rest) g.event found))
          | inr full ↦
              inr (subst (λ (l : List (TimedEntry EventBody)). IsFull g.config.per_time g.event.time l g.stood)
              (append_assoc handed (map out_in (handed_by (Ok outcome))) (map out_in rest) ∙ ap (λ (l : List (TimedEntry EventBody)). handed ++ l) (sym (all outcome))) full)
        ]
      where
        still : (outcome : Outcome) → All (λ y. y ≡ x) (map out_in (handed_by (Ok outcome))) → x ≢ g.event → IsMet (handed ++ map out_in (handed_by (Ok outcome))) g.stood g.event → ⊥
        still outcome those differs (inr stood) = new (inr stood)
        still outcome those differs (inl met) = elim (Contains-append_cases handed (map out_in (handed_by (Ok outcome))) g.event met) [
          | inl before ↦ new (inl before)
          | inr now ↦ differs (sym (All-contains (λ (y : TimedEntry EventBody). y ≡ x) (map out_in (handed_by (Ok outcome))) g.event those now))
        ]

    by : (r : Result Outcome ReceiveError) → (planned i (receive_one i x)).answer ≡ r → (merges_on (record { agent = (planned i (receive_one i x)).agent; answer = r }) (merges_events es)).failed ≡ false
        → Comes g handed (merges_on (record { agent = (planned i (receive_one i x)).agent; answer = r }) (merges_events es)).events
    by (Err error) is failed = absurd (cc failed)
    by (Ok outcome) is failed = elim (decide x g.event) [
      | inl same ↦ here outcome is same
      | inr differs ↦ later outcome is differs failed
    ]

merges-take : Below → (g : Coming) (es : List (TimedEntry EventBody)) (i : IdealAgent) (handed : List (TimedEntry EventBody)) (clock : ℕ) → IsReady i → IsDurable i → i.snapshot.stopped ≡ false → AllByRecursion (λ e. e.time < 2 ^ 64 - 1) es → All (λ e. IsWritable e.key) es
    → i.events.clock ≤ clock → IsYoung g (rising clock es) → More g es i handed
merges-take lower g [] i handed clock ready d runs times told low young there new goes failed = absurd (none-in g.event there)
merges-take lower g (x ∷ es) i handed clock ready d runs times told low young there new (inr full) failed = full-comes g handed (merges_events (x ∷ es) i).events full
merges-take lower g (x ∷ es) i handed clock ready d runs times told low young there new (inl takes) failed =
    let first : IsWritable x.key = All-head (λ (e : TimedEntry EventBody). IsWritable e.key) x es told in
    take-next lower g x es i handed clock ready d runs times.0 first low young
    (λ outcome is. merges-take lower g es (planned i (receive_one i x)).agent (handed ++ map out_in (handed_by (Ok outcome))) (observed clock x.time)
    (ready-received lower i x.time x.key false (admission i x.time x.key) ready runs times.0 refl) (durable-received lower i x ready d runs times.0 first)
    (runs-on i x.time x.key false (admission i x.time x.key) outcome runs is) times.1 (All-tail (λ (e : TimedEntry EventBody). IsWritable e.key) x es told)
    (received-low i x.time clock i.queries.clock x.key false (admission i x.time x.key) (low, omega arith)).0 young) there new takes failed

-- the sink doesn't fail in a merge with this answer
pub unfailed : (b : Bool) → hears_of (cond b (lines.Refused refusals.SinkError) lines.Merged) ≡ true → b ≡ false
unfailed true hears = absurd (cc hears)
unfailed false hears = refl

merged-takes : Below → (g : Coming) (m : IdealNode) (join : Bool) (s : PushPull) (handed : List (TimedEntry EventBody)) (clock : ℕ) → IsReady m.agent → IsDurable m.agent → m.agent.snapshot.stopped ≡ false → IsRangedPushPull s → All (λ e. IsWritable e.key) (events_of s.slots)
    → ((join && m.agent.config.ignore_old) ≡ true → s.event_clock ≤ g.event.time) → m.agent.events.clock ≤ clock → IsYoung g (rising (max clock s.event_clock) (events_of s.slots)) → Contains (events_of s.slots) g.event → IsNew g handed
    → TakesAt event_track g.event.time g.config handed g.stood m.agent
    → (let o = merges_heard m (events_of s.slots) (planned m.agent (hear m.agent s join)) in hears_of o.done.answer ≡ true → Comes g handed o.done.events)
merged-takes lower g m join s handed clock ready d runs ranged told lowest low young there new takes hears =
    by (planned m.agent (hear m.agent s join)).answer (kept-heard (taking event_track lower lower.keeps.taking g.event.time g.config handed g.stood g.on g.some (event_shows (IsMet handed g.stood))) m.agent s join ready runs ranged
    (record { settings = tt; lowest = lowest; entered = All-nil (IsMet handed g.stood); opens = tt }) (d, inl takes)).1
    (durable-heard lower m.agent s join ready d runs ranged) (ready-heard lower m.agent s join ready runs ranged) (λ done says. hears-on m.agent s join done runs says) (heard-low m.agent s join clock m.agent.queries.clock (low, omega arith)).0 hears
  where
    by : (x : Result (Unit {0}) MergeError) → TakesOrFull event_track g.event.time g.config handed g.stood (planned m.agent (hear m.agent s join)).agent → IsDurable (planned m.agent (hear m.agent s join)).agent → IsReady (planned m.agent (hear m.agent s join)).agent
        → ((done : Unit {0}) → x ≡ Ok done → (planned m.agent (hear m.agent s join)).agent.snapshot.stopped ≡ false) → (planned m.agent (hear m.agent s join)).agent.events.clock ≤ max clock s.event_clock
        → (let o = merges_heard m (events_of s.slots) (record { agent = (planned m.agent (hear m.agent s join)).agent; answer = x }) in hears_of o.done.answer ≡ true → Comes g handed o.done.events)
    by (Ok done) goes heard is_ready on under hears =
        let j : IdealAgent = (planned m.agent (hear m.agent s join)).agent in
        merges-take lower g (events_of s.slots) j handed (max clock s.event_clock) is_ready heard (on done refl) (times-of s.slots ranged.slots) told under young there new goes (unfailed (merges_events (events_of s.slots) j).failed hears)
    by (Err error) goes heard is_ready on under hears = absurd (cc hears)

merge-takes : Below → (g : Coming) (m : IdealNode) (number : ℕ) (join : Bool) (packet : List ℕ) (handed : List (TimedEntry EventBody)) (clock : ℕ) (f : Option MergeError) (r : Result Message WireError) → IsReady m.agent → IsDurable m.agent → All (λ e. IsWritable e.key) (events_brought r)
    → decoded packet ≡ r → merge_refusal m.agent.snapshot r ≡ f → ((s : PushPull) → r ≡ Ok (push_pull s) → (join && m.agent.config.ignore_old) ≡ true → s.event_clock ≤ g.event.time) → m.agent.events.clock ≤ clock → IsYoung g (clock_told clock (acts.Merge number join) r)
    → Contains (events_brought r) g.event → IsNew g handed → TakesAt event_track g.event.time g.config handed g.stood m.agent → hears_of (merges_as f m join r).done.answer ≡ true → Comes g handed (merges_as f m join r).done.events
merge-takes lower g m number join packet handed clock None (Ok (push_pull s)) ready d told is refuses lowest low young there new takes hears =
    let runs = none-if m.agent.snapshot.stopped merges.Stopped None refuses in
    merged-takes lower g m join s handed clock ready d runs.0 (lower.in_range packet (push_pull s) is) told (lowest s refl) low young there new takes hears
merge-takes lower g m number join packet handed clock (Some error) r ready d told is refuses lowest low young there new takes hears = absurd (cc hears)
merge-takes lower g m number join packet handed clock None _ ready d told is refuses lowest low young there new takes hears = absurd (cc hears)

-- ---- the packet that a turn passes to its agent

-- if the answer shows that an agent processed the packet, its clock observed all events in it, and the agent wasn't
-- stopped
pub hears-shown : (clock : ℕ) (action : Action) (given : Option (List ℕ)) (answer : Answer) → hears_of answer ≡ true → clock_shown clock action given answer ≡ clock_given clock action given
hears-shown clock action given lines.New hears = refl
hears-shown clock action given (lines.Ignored reason) hears = refl
hears-shown clock action given lines.Merged hears = refl
hears-shown clock action given _ hears = absurd (cc hears)

pub hears-runs : (answer : Answer) → hears_of answer ≡ true → is_stopped answer ≡ false
hears-runs lines.New hears = refl
hears-runs (lines.Ignored reason) hears = refl
hears-runs lines.Merged hears = refl
hears-runs _ hears = absurd (cc hears)

delivered-takes : Below → (g : Coming) (m : IdealNode) (b number now clock : ℕ) (handed : List (TimedEntry EventBody)) (given : Option (List ℕ)) → IsReady m.agent → m.agent.events.clock ≤ clock
    → IsYoung g (clock_shown clock (Of b (acts.Deliver number now)) given (delivers m now given).done.answer) → Contains (events_given given) g.event → IsNew g handed → TakesAt event_track g.event.time g.config handed g.stood m.agent
    → hears_of (delivers m now given).done.answer ≡ true → Comes g handed (delivers m now given).done.events
delivered-takes lower g m b number now clock handed None ready low young there new takes hears = absurd (none-in g.event there)
delivered-takes lower g m b number now clock handed (Some packet) ready low young there new takes hears =
    let told = subst (IsYoung g) (hears-shown clock (Of b (acts.Deliver number now)) (Some packet) (delivers m now (Some packet)).done.answer hears) young in
    delivers-takes lower g m number now clock packet handed ready low told there new takes hears

merging-takes : Below → (g : Coming) (m : IdealNode) (b number : ℕ) (join : Bool) (clock : ℕ) (handed : List (TimedEntry EventBody)) (given : Option (List ℕ)) → IsReady m.agent → IsDurable m.agent → ((packet : List ℕ) → given ≡ Some packet → All (λ e. IsWritable e.key) (events_in_packet packet))
    → m.agent.events.clock ≤ clock → IsYoung g (clock_shown clock (Of b (acts.Merge number join)) given (merges_given m join given).done.answer)
    → cond (is_stopped (merges_given m join given).done.answer) 0 (min_written_by m.agent.config (Of b (acts.Merge number join)) given) ≤ g.event.time → Contains (events_given given) g.event → IsNew g handed → TakesAt event_track g.event.time g.config handed g.stood m.agent
    → hears_of (merges_given m join given).done.answer ≡ true → Comes g handed (merges_given m join given).done.events
merging-takes lower g m b number join clock handed None ready d told low young lowest there new takes hears = absurd (none-in g.event there)
merging-takes lower g m b number join clock handed (Some packet) ready d told low young lowest there new takes hears =
    let answer : Answer = (merges_given m join (Some packet)).done.answer in
    let shown = subst (IsYoung g) (hears-shown clock (Of b (acts.Merge number join)) (Some packet) (merges_given m join (Some packet)).done.answer hears) young in
    let says : cond (join && m.agent.config.ignore_old) (state_clock (decoded packet)) 0 ≤ g.event.time =
    subst (λ (x : Bool). cond x 0 (cond (join && m.agent.config.ignore_old) (state_clock (decoded packet)) 0) ≤ g.event.time) (hears-runs (merges_given m join (Some packet)).done.answer hears) lowest in
    merge-takes lower g m number join packet handed clock (merge_refusal m.agent.snapshot (decoded packet)) (decoded packet) ready d (told packet refl) refl refl
    (λ s reads on. subst (λ (r : Result Message WireError). state_clock r ≤ g.event.time) reads (if-told (join && m.agent.config.ignore_old) (state_clock (decoded packet)) g.event.time says on)) low shown there new takes hears

acts-take : Below → (g : Coming) (m : IdealNode) (sent : List (List ℕ)) (b clock : ℕ) (act : Act) (handed : List (TimedEntry EventBody)) → IsRepresentable m.agent → CanTellAct m.agent.config act (given_by sent act) → m.agent.config.keep_events ≡ true → m.agent.events.clock ≤ clock
    → IsYoung g (clock_shown clock (Of b act) (given_by sent act) (apply m sent act).done.answer) → cond (is_stopped (apply m sent act).done.answer) 0 (min_written_by m.agent.config (Of b act) (given_by sent act)) ≤ g.event.time
    → Contains (events_given (given_by sent act)) g.event → IsNew g handed → TakesAt event_track g.event.time g.config handed g.stood m.agent → hears_of (apply m sent act).done.answer ≡ true → Comes g handed (apply m sent act).done.events
acts-take lower g m sent b clock (acts.Deliver number now) handed representable tells keeps low young lowest there new takes hears =
    delivered-takes lower g m b number now clock handed (slice_get sent number) (ready m.agent representable) low young there new takes hears
acts-take lower g m sent b clock (acts.Merge number join) handed representable tells keeps low young lowest there new takes hears =
    merging-takes lower g m b number join clock handed (slice_get sent number) (ready m.agent representable) (representable.durable keeps) (given-told (slice_get sent number) (tells keeps).1) low young lowest there new takes hears
acts-take lower g m sent b clock _ handed representable tells keeps low young lowest there new takes hears = absurd (none-in g.event there)

-- ---- what is promised

-- the lines of a turn show what was handed out
pub lines-out : (b : ℕ) (outs : List EventOut) → map event_in (map (event_line b) outs) ≡ map out_in outs
lines-out b [] = refl
lines-out b (out ∷ outs) = ap (λ l. out_in out ∷ l) (lines-out b outs)

-- an event that an agent has to accept is handed to it, or the event's time is full
pub takes : Below → (configs : List Config) (c : Cluster) (turns : List Turn) (b : ℕ) (act : Act) (m : IdealNode) (e : TimedEntry EventBody) → IsRepresentable m.agent → CanTellAct m.agent.config act (given_by c.sent act) → m.agent.config.keep_events ≡ true
    → TakesAt event_track e.time m.agent.config (events_to b turns) (tails_to configs b turns) m.agent → m.agent.events.clock ≤ event_clock_of b turns
    → (let turn = (applied c b act (apply m c.sent act)).turn in
    clock_then (event_clock_of b turns) turn ≤ e.time + m.agent.config.event_buffer → min_written m.agent.config turn ≤ e.time → hears_of turn.line.answer ≡ true → Contains (events_given turn.given) e → IsToCome events_shown configs b m.agent.config turns turn e
    → IsTaken events_shown configs m.agent.config b turns turn e)
takes lower configs c turns b act m e representable tells keeps opens low young lowest hears there come =
    comes (acts-take lower g m c.sent b (event_clock_of b turns) act (events_to b turns) representable tells keeps low young lowest there come.new opens hears)
  where
    turn : Turn
    turn = (applied c b act (apply m c.sent act)).turn

    outs : List EventOut
    outs = (apply m c.sent act).done.events

    g : Coming
    g = record { event = e; config = m.agent.config; stood = tails_to configs b turns; on = keeps; some = come.some; short = come.short }

    handed : events_to b (turns ++ turn ∷ []) ≡ events_to b turns ++ map out_in outs
    handed = events_to-push b turns turn ∙ ap (λ l. events_to b turns ++ l) (lines-same b b outs (eq-eqb b b refl))

    comes : Comes g (events_to b turns) outs → IsTaken events_shown configs m.agent.config b turns turn e
    comes (inl found) = inl (subst (λ (l : List (TimedEntry EventBody)). Contains l e) (sym (lines-out b outs)) found)
    comes (inr full) = inr (subst (λ (l : List (TimedEntry EventBody)). IsFull m.agent.config.per_time e.time l (tails_to configs b turns)) (sym handed) full)

pub fits : Below → (configs : List Config) (c : Cluster) (turns : List Turn) (b : ℕ) (act : Act) (m : IdealNode) → IsAfter configs c turns → slice_get c.nodes b ≡ Some m → Says (WasHere configs b turns) m.agent → m.agent.config.keep_events ≡ true → (t : ℕ)
    → (let turn = (applied c b act (apply m c.sent act)).turn in let P = WasHere configs b (turns ++ turn ∷ []) in min_written m.agent.config turn ≤ t → FitsAct (IsFit event_track t P) (Outs P) m c.sent act)
fits lower configs c turns b act m h at says keeps t lowest =
    let turn : Turn = (applied c b act (apply m c.sent act)).turn in
    let P : TimedEntry EventBody → Type 0 = WasHere configs b (turns ++ turn ∷ []) in
    events-fit lower t P m c.sent b act (all-at (λ m. IsRepresentable m.agent) c.nodes b m h.representable at) lowest ((says-weaker (WasHere configs b turns) P m.agent (here-more configs b turns turn) says).durable keeps)
    (outs-here configs b turns turn (apply m c.sent act).done.events refl) (tail-here configs b turns turn refl (tailed-is configs b m.agent.config turn refl (settings-at configs c turns b m h at) keeps))

abbrev pub event_run : RunTrack EventBody
event_run = record {
  which = event_track;
  shown = events_shown;
  laws = λ lower. lower.keeps.taking;
  shows = event_shows;
  next = clock_then;
  clock_is = λ a turns. refl;
  clock_goes = λ c b clock act m low. (clocks-apply m c.sent b clock m.agent.queries.clock act (low, omega arith)).0;
  clock_begins = λ config. (first-low config).0;
  entered_more = λ a turns turn e h. to-more a turns turn e h;
  tailed_more = λ configs a turns turn e h. by-more (tailed_in configs) a turns turn e h;
  begins = λ lower configs a config t keeps some. lower.keeps.taking.begins t config [] (fresh_device []) keeps (omega (arith, some));
  Says = λ configs a turns m. Says (WasHere configs a turns) m.agent;
  fits = fits;
  takes = takes;
  nobody = λ hears. cc hears;
}
