-- Short lists of turns in which an agent sends less than it has to send, or ignores what it has to accept. The promises
-- about what every agent sends and accepts refuse them.
use Rattle.serf_model.proofs.Names.{List, None, Ok, Some, [], arith, refl, subst, sym, ℕ, ◌+◌, ◌<◌, ◌∙◌, ◌∷◌, ◌≡◌, ◌≤◌, Contains, slice_get, ap, observed, decoded, PushPull, Query, UserEvent, push_pull, query, user_event, EventBody, event_of, TimedEntry, texts_len, ack_flag, has_flag, no_broadcast_flag, events_of, Config, query_message, clock_told, Turn, events_brought, Of, NewQuery, false, inl, inr, true}
use Rattle.serf_agent.specs.declared.outcome.Reason.TheVariants as reasons
use Rattle.serf_model.specs.declared.action.Act.TheVariants as acts
use Rattle.serf_model.specs.declared.line.Answer.TheVariants as answers
use Rattle.serf_model.specs.Sent.{Sent}
use Rattle.serf_model.specs.Taken.{IsDue, MergedIsHanded, Taken, WhyNot, below, full, refused, too_long, too_old}
use Rattle.serf_model.proofs.WrongTurns.{delivery, handed_event, handed_query, in-none, merging, sending, turn}

-- ---- what is sent

-- an agent fires an event, and sends nothing
sent-refuses_silence : (configs : List Config) → Sent configs (turn (Of 0 (acts.Fire [] [] false)) (answers.Fired 1) [] None ∷ []) → ⊥
sent-refuses_silence configs h =
    let spells = (h [] (turn (Of 0 (acts.Fire [] [] false)) (answers.Fired 1) [] None) [] refl).fired 0 1 [] [] false refl refl in
    let no : [] ≡ spells.0 ∷ [] = spells.1 in
    absurd (cc no)

-- an agent fires an event at the time 1, and its packet has another time
sent-refuses_other : (configs : List Config) (packet : List ℕ) (e : UserEvent) → decoded packet ≡ Ok (user_event e) → 1 < e.time → Sent configs (sending (Of 0 (acts.Fire [] [] false)) (answers.Fired 1) packet ∷ []) → ⊥
sent-refuses_other configs packet e reads late h =
    let spells = (h [] (sending (Of 0 (acts.Fire [] [] false)) (answers.Fired 1) packet) [] refl).fired 0 1 [] [] false refl refl in
    let same : packet ≡ spells.0 = let all : packet ∷ [] ≡ spells.0 ∷ [] = spells.1 in cc all in
    let both = sym reads ∙ ap decoded same ∙ spells.2 in
    let event : e ≡ record { time = 1; name = []; payload = []; coalesce = false } = cc both in
    let time : e.time ≡ 1 = ap (λ (x : UserEvent). x.time) event in
    absurd (omega (arith, late, time))

-- an agent fires a query, and sends nothing
sent-refuses_query : (configs : List Config) (c : Config) (q : NewQuery) → slice_get configs 0 ≡ Some c → Sent configs (turn (Of 0 (acts.Query q)) (answers.Queried 1) [] None ∷ []) → ⊥
sent-refuses_query configs c q at h =
    let spells = (h [] (turn (Of 0 (acts.Query q)) (answers.Queried 1) [] None) [] refl).queried 0 1 c q at refl refl in
    let no : [] ≡ spells.0 ∷ spells.1 = spells.2 in
    absurd (cc no)

-- an agent that fired an event at the time 5 sends a state whose clock is 5
sent-refuses_clock : (configs : List Config) (c : Config) (packet : List ℕ) (m : PushPull) → slice_get configs 0 ≡ Some c → decoded packet ≡ Ok (push_pull m) → m.event_clock ≡ 5
    → Sent configs (turn (Of 0 (acts.Fire [] [] false)) (answers.Fired 5) (handed_event 0 5 ∷ []) None ∷ sending (Of 0 acts.State) answers.State packet ∷ []) → ⊥
sent-refuses_clock configs c packet m at reads low h =
    let before : List Turn = turn (Of 0 (acts.Fire [] [] false)) (answers.Fired 5) (handed_event 0 5 ∷ []) None ∷ [] in
    let spells = (h before (sending (Of 0 acts.State) answers.State packet) [] refl).state 0 c at refl refl in
    let same : packet ≡ spells.0 = let all : packet ∷ [] ≡ spells.0 ∷ [] = spells.2 in cc all in
    let both = sym reads ∙ ap decoded same ∙ spells.3 in
    let state : m ≡ spells.1 = cc both in
    let clock : m.event_clock ≡ spells.1.event_clock = ap (λ (x : PushPull). x.event_clock) state in
    let shown : spells.1.event_clock ≡ 6 = spells.4.event_clock in
    absurd (omega (arith, low, clock, shown))

-- an agent that was handed an event of its window sends a state without events
sent-refuses_state : (configs : List Config) (c : Config) (packet : List ℕ) (m : PushPull) → slice_get configs 0 ≡ Some c → decoded packet ≡ Ok (push_pull m) → events_of m.slots ≡ [] → m.event_clock ≤ 5 + c.event_buffer
    → Sent configs (turn (Of 0 (acts.Close 0)) (answers.Closed 0) (handed_event 0 5 ∷ []) None ∷ sending (Of 0 acts.State) answers.State packet ∷ []) → ⊥
sent-refuses_state configs c packet m at reads none young h =
    let before : List Turn = turn (Of 0 (acts.Close 0)) (answers.Closed 0) (handed_event 0 5 ∷ []) None ∷ [] in
    let spells = (h before (sending (Of 0 acts.State) answers.State packet) [] refl).state 0 c at refl refl in
    let same : packet ≡ spells.0 = let all : packet ∷ [] ≡ spells.0 ∷ [] = spells.2 in cc all in
    let both = sym reads ∙ ap decoded same ∙ spells.3 in
    let state : m ≡ spells.1 = cc both in
    let clock : m.event_clock ≡ spells.1.event_clock = ap (λ (x : PushPull). x.event_clock) state in
    let e : TimedEntry EventBody = record { time = 5; key = event_of [] [] } in
    let carried : Contains (events_of spells.1.slots) (record { time = 5; key = event_of [] [] }) = spells.4.carries 0 (record { time = 5; key = event_of [] [] }) (omega arith) (omega (arith, young, clock)) in
    in-none e (subst (λ (l : List (TimedEntry EventBody)). Contains l (record { time = 5; key = event_of [] [] })) (ap (λ (x : PushPull). events_of x.slots) (sym state) ∙ none) carried)

-- an event is new, and isn't sent on
sent-refuses_new : (configs : List Config) (packet : List ℕ) → Sent configs (delivery 0 packet answers.New None ∷ []) → ⊥
sent-refuses_new configs packet h =
    let no : [] ≡ packet ∷ [] = (h [] (delivery 0 packet answers.New None) [] refl).new packet refl refl in
    absurd (cc no)

-- a query is new and doesn't forbid this, and isn't sent on
sent-refuses_new_query : (configs : List Config) (packet : List ℕ) (q : Query) → decoded packet ≡ Ok (query q) → has_flag no_broadcast_flag q.flags ≡ false → Sent configs (delivery 0 packet answers.Query None ∷ []) → ⊥
sent-refuses_new_query configs packet q reads quiet h =
    let sends = (h [] (delivery 0 packet answers.Query None) [] refl).new_query packet q refl refl reads quiet in
    let no : [] ≡ packet ∷ sends.0 = sends.1 in
    absurd (cc no)

-- a query that requests an ack is handed out, and isn't acked
sent-refuses_no_ack : (configs : List Config) (c : Config) (packet : List ℕ) (q : Query) → slice_get configs 0 ≡ Some c → decoded packet ≡ Ok (query q) → has_flag ack_flag q.flags ≡ true → Sent configs (delivery 0 packet answers.Query (Some (handed_query 0 1 7 [])) ∷ []) → ⊥
sent-refuses_no_ack configs c packet q at reads wants h =
    let spells = (h [] (delivery 0 packet answers.Query (Some (handed_query 0 1 7 []))) [] refl).acked 0 c q (handed_query 0 1 7 []) at refl refl (ap query_message reads) wants in
    in-none spells.0 spells.1

-- an agent answers a query, and sends nothing
sent-refuses_no_reply : (configs : List Config) (c : Config) → slice_get configs 0 ≡ Some c → Sent configs (turn (Of 0 (acts.Respond 0 0 [])) answers.Replied [] None ∷ []) → ⊥
sent-refuses_no_reply configs c at h =
    let spells = (h [] (turn (Of 0 (acts.Respond 0 0 [])) answers.Replied [] None) [] refl).replied 0 0 0 [] c at refl refl in
    let no : [] ≡ spells.0 ∷ [] = spells.2 in
    absurd (cc no)

-- ---- what is accepted

-- an agent ignores an event that is new and within its window
taken-refuses : (configs : List Config) (c : Config) (packet : List ℕ) (e : UserEvent) → slice_get configs 0 ≡ Some c → 0 < c.per_time → decoded packet ≡ Ok (user_event e) → 0 < e.time → texts_len (event_of e.name e.payload) ≤ 9216 → observed 1 e.time ≤ e.time + c.event_buffer
    → Taken configs (delivery 0 packet (answers.Ignored reasons.TooOld) None ∷ []) → ⊥
taken-refuses configs c packet e at few reads some short young h = elim (h [] ignored [] refl 0 c entry at refl refl there due) [
  | inl found ↦ in-none entry found
  | inr many ↦ absurd (omega (arith, few, many))
]
  where
    ignored : Turn
    ignored = delivery 0 packet (answers.Ignored reasons.TooOld) None

    entry : TimedEntry EventBody
    entry = record { time = e.time; key = event_of e.name e.payload }

    there : Contains (events_brought (decoded packet)) entry
    there = subst (λ r. Contains (events_brought r) entry) (sym reads) (0, omega arith, refl)

    due : IsDue 0 c [] ignored entry
    due = record { short = short; young = subst (λ r. clock_told 1 (acts.Deliver 0 0) r ≤ e.time + c.event_buffer) (sym reads) young; above = omega (arith, some); new = in-none entry }

-- an agent was opened again with the clock 5, and ignores an event of this time
taken-refuses_anew : (configs : List Config) (c : Config) (packet : List ℕ) (e : UserEvent) → slice_get configs 0 ≡ Some c → 0 < c.per_time → decoded packet ≡ Ok (user_event e) → 5 ≤ e.time → texts_len (event_of e.name e.payload) ≤ 9216 → observed 5 e.time ≤ e.time + c.event_buffer
    → Taken configs (turn (Of 0 (acts.Restart [])) (answers.Restarted 1 5 1) [] None ∷ delivery 0 packet (answers.Ignored reasons.BelowMinimum) None ∷ []) → ⊥
taken-refuses_anew configs c packet e at few reads late short young h = elim (h (restart ∷ []) ignored [] refl 0 c entry at refl refl there due) [
  | inl found ↦ in-none entry found
  | inr many ↦ absurd (omega (arith, few, many))
]
  where
    restart : Turn
    restart = turn (Of 0 (acts.Restart [])) (answers.Restarted 1 5 1) [] None

    ignored : Turn
    ignored = delivery 0 packet (answers.Ignored reasons.BelowMinimum) None

    entry : TimedEntry EventBody
    entry = record { time = e.time; key = event_of e.name e.payload }

    there : Contains (events_brought (decoded packet)) entry
    there = subst (λ r. Contains (events_brought r) entry) (sym reads) (0, omega arith, refl)

    due : IsDue 0 c (restart ∷ []) ignored entry
    due = record { short = short; young = subst (λ r. clock_told 5 (acts.Deliver 0 0) r ≤ e.time + c.event_buffer) (sym reads) young; above = omega (arith, late); new = in-none entry }

-- an agent merges a state, and hands out none of its events
merged-refuses : (configs : List Config) (c : Config) (packet : List ℕ) (m : PushPull) (e : TimedEntry EventBody) → slice_get configs 0 ≡ Some c → 0 < c.per_time → decoded packet ≡ Ok (push_pull m) → Contains (events_of m.slots) e → 0 < e.time → texts_len e.key ≤ 9216
    → clock_told 1 (acts.Merge 0 false) (Ok (push_pull m)) ≤ e.time + c.event_buffer → MergedIsHanded configs (merging packet ∷ []) → ⊥
merged-refuses configs c packet m e at few reads carries some short young h = elim (h [] (merging packet) [] refl 0 0 false c e at refl (subst (λ r. Contains (events_brought r) e) (sym reads) carries)) [
  | inl found ↦ in-none e found
  | inr why ↦ by why
]
  where
    under : clock_told 1 (acts.Merge 0 false) (decoded packet) ≤ e.time + c.event_buffer
    under = subst (λ r. clock_told 1 (acts.Merge 0 false) r ≤ e.time + c.event_buffer) (sym reads) young

    by : WhyNot 0 c [] (merging packet) e → ⊥
    by (refused why says) = absurd (cc says)
    by (too_long long) = absurd (omega (arith, long, short))
    by (too_old old) = absurd (omega (arith, old, under))
    by (below low) = absurd (omega (arith, low, some))
    by (full many) = absurd (omega (arith, few, many))
