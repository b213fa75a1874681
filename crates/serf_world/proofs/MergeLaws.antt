-- If an agent's sink has a plan of failures, a merge can end in only one way.
use Rattle.serf_world.proofs.Names.{Bool, Err, List, None, Ok, Option, Result, Some, [], ap, cond, false, inl, inr, map, refl, subst, sym, true, ℕ, ◌++◌, ◌-◌, ◌<◌, ◌^◌, ◌∙◌, ◌∷◌, ◌≡◌, ◌≢◌, append-nil, All-head, All-tail, AllByRecursion, All, decoded, Message, PushPull, foreign, push_pull, query, query_response, user_event, WireError, EventBody, Device, Kept, TimedEntry, Call, Step, ended, planned, will, device_after, admission, received_as, DeliveredQuery, IdealAgent, IsWritable, EndsAt, EndsHearing, Merges, Receives, ReceivesAfter, after_event, delivered, events_of, handed_by, hear, heard_by, merge_refusal, receive_one, written_min_line, AgentState, ConcreteState, view_of, EventOut, MergeError, Outcome, Reason, ReceiveError, SinkError, IdealNode, Merged, event_line, merge_gives, merge_refusal_of, merges_as, merges_events, merges_heard, merges_on, merges_packet, MergesRepresentable, IsRepresentable, events_brought, events_in_packet, Answer, Line, Shows, TakesTurn, merge_answer}
use Rattle.serf_agent.specs.declared.outcome.MergeError.TheVariants as merges
use Rattle.serf_model.specs.declared.line.Answer.TheVariants as answers
use Rattle.serf_model.specs.declared.line.Refusal.TheVariants.{SinkError as FailedSink}
use Rattle.serf_world.proofs.TurnLaws.{may-will, shows, steps-planned}

-- a reason that doesn't apply
none-if : {X : Type 0} (b : Bool) (x : X) (r : Option X) → cond b (Some x) r ≡ None → (b ≡ false) × (r ≡ None)
none-if true x r e = absurd (cc e)
none-if false x r e = (refl, e)

-- the result of a merge
pub record Merging (o : Merged) (deliveries : List EventOut) (new : ConcreteState) (error : Option MergeError) : Type 0 where
  pub events : deliveries ≡ o.events
  pub state : new ≡ view_of o.agent
  pub failed : error ≡ cond o.failed (Some merges.SinkError) None

-- if the line is durable, the event is received
kept-answer : (i : IdealAgent) (t : ℕ) (what : EventBody) (r : Option Reason) → (outcome : Outcome) × ((ended i (received_as r i t what false) Kept).answer ≡ Ok outcome)
kept-answer i t what (Some reason) = (_, refl)
kept-answer i t what None = (_, refl)

merging-ok : (o : Step (Result Outcome ReceiveError)) (rest : IdealAgent → Merged) (outcome : Outcome) (more : List EventOut) (new : ConcreteState) (error : Option MergeError) → o.answer ≡ Ok outcome → Merging (rest o.agent) more new error
    → Merging (merges_on o rest) (handed_by o.answer ++ more) new error
merging-ok o rest outcome more new error is h = by o.answer is
  where
    by : (r : Result Outcome ReceiveError) → r ≡ Ok outcome → Merging (merges_on (record { agent = o.agent; answer = r }) rest) (handed_by r ++ more) new error
    by (Ok x) e = record { events = ap (λ l. handed_by (Ok x) ++ l) h.events; state = h.state; failed = h.failed }
    by (Err f) e = absurd (cc e)

merging-err : (o : Step (Result Outcome ReceiveError)) (rest : IdealAgent → Merged) (new : ConcreteState) → Err SinkError ≡ o.answer → new ≡ view_of o.agent → Merging (merges_on o rest) [] new (Some merges.SinkError)
merging-err o rest new is state = by o.answer is
  where
    by : (r : Result Outcome ReceiveError) → Err SinkError ≡ r → Merging (merges_on (record { agent = o.agent; answer = r }) rest) [] new (Some merges.SinkError)
    by (Ok x) e = absurd (cc e)
    by (Err f) e = record { events = refl; state = state; failed = refl }

receives-planned : MergesRepresentable → (es : List (TimedEntry EventBody)) (i : IdealAgent) (old : Device) (deliveries : List EventOut) (new : AgentState) (error : Option MergeError) → IsRepresentable i → i.snapshot.stopped ≡ false → AllByRecursion (λ e. e.time < 2 ^ 64 - 1) es → All (λ e. IsWritable e.key) es → error ≢ Some merges.OutOfMemory
    → Receives i es old deliveries new error → Merging (merges_events es i) deliveries new.concrete error
receives-planned laws [] i old deliveries new error representable runs times told memory h = record { events = h.0; state = h.1; failed = h.4 }
receives-planned laws (e ∷ es) i old deliveries new error representable runs times told memory (inl h) =
    let kept : Kept ≡ will i (receive_one i e) = may-will i (receive_one i e) Kept representable.consistent.observable h.0 in
    let same : ended i (receive_one i e) Kept ≡ planned i (receive_one i e) = ap (ended i (receive_one i e)) kept in
    let answer = kept-answer i e.time e.key (admission i e.time e.key) in
    let planned_is : (planned i (receive_one i e)).answer ≡ Ok answer.0 = ap (λ (o : Step (Result Outcome ReceiveError)). o.answer) (sym same) ∙ answer.1 in
    let first : IsRepresentable (planned i (receive_one i e)).agent = laws.received i e representable runs times.0 (λ keeping. All-head (λ (x : TimedEntry EventBody). IsWritable x.key) e es told) in
    let next : IsRepresentable (after_event i e) = subst (λ (o : Step (Result Outcome ReceiveError)). IsRepresentable o.agent) (sym same) first in
    let going = subst (λ (o : Step (Result Outcome ReceiveError)). o.agent.snapshot.stopped ≡ false) (sym same) (laws.goes_on i e answer.0 runs planned_is) in
    let rest = receives-planned laws es (after_event i e) (device_after i (receive_one i e) old) h.1.0 new error next going times.1 (All-tail (λ (x : TimedEntry EventBody). IsWritable x.key) e es told) memory h.1.2 in
    let all : Merging (merges_on (ended i (receive_one i e) Kept) (merges_events es)) (handed_by (ended i (receive_one i e) Kept).answer ++ h.1.0) new.concrete error =
    merging-ok (ended i (receive_one i e) Kept) (merges_events es) answer.0 h.1.0 new.concrete error answer.1 rest in
    subst (λ (l : List EventOut). Merging (merges_events (e ∷ es) i) l new.concrete error) (sym h.1.1)
    (subst (λ (o : Step (Result Outcome ReceiveError)). Merging (merges_on o (merges_events es)) (delivered i e ++ h.1.0) new.concrete error) same all)
receives-planned laws (e ∷ es) i old deliveries new error representable runs times told memory (inr h) = by h.1.0 h.1.1 h.1.2
  where
    by : (f : MergeError) → error ≡ Some f → EndsAt i e old new f → Merging (merges_events (e ∷ es) i) deliveries new.concrete error
    by merges.OutOfMemory is ends = absurd (memory is)
    by merges.SinkError is ends =
        let p = steps-planned i (receive_one i e) (Err SinkError) old new representable.consistent.observable ends in
        subst (λ (f : Option MergeError). Merging (merges_events (e ∷ es) i) deliveries new.concrete f) (sym is)
        (subst (λ (l : List EventOut). Merging (merges_events (e ∷ es) i) l new.concrete (Some merges.SinkError)) (sym h.0)
        (merging-err (planned i (receive_one i e)) (merges_events es) new.concrete p.answers p.state))
    by merges.Stopped is ends = absurd ends
    by (merges.Wire f) is ends = absurd ends
    by merges.NotPushPull is ends = absurd ends

not-state : (b : Bool) → cond b (Some merges.Stopped) (Some merges.NotPushPull) ≡ None → ⊥
not-state true e = cc
not-state false e = cc

-- the line of a merge with this answer, which handed out these events
abbrev pub line_of_merge : ℕ → Answer → List EventOut → Line
line_of_merge a answer out = record { answer = answer; sent = []; events = map (event_line a) out; handed = None }

shows-merge : (a : ℕ) (sent : List (List ℕ)) (handed : List (Option DeliveredQuery)) (answer : Answer) (events : List EventOut) (line : Line) → line ≡ line_of_merge a answer events
    → Shows a sent sent handed handed (record { answer = answer; packets = []; events = events; handed = None }) line
shows-merge a sent handed answer events line is = shows a sent sent handed handed answer [] events line (sym (append-nil sent)) refl is

answers-as : (b : Bool) → merge_answer (cond b (Some merges.SinkError) None) ≡ cond b (answers.Refused FailedSink) answers.Merged
answers-as true = refl
answers-as false = refl

-- the clocks of a state were merged, and its events were received
shows-received : (m : IdealNode) (o : Merged) (error : Option MergeError) (new : ConcreteState) (out : List EventOut) (a : ℕ) (sent : List (List ℕ)) (line : Line) → Merging o out new error → line ≡ line_of_merge a (merge_answer error) out
    → TakesTurn a sent sent (merge_gives m o) (record { concrete = new; handed = m.handed }) line
shows-received m o error new out a sent line done gives =
    let answer : merge_answer error ≡ cond o.failed (answers.Refused FailedSink) answers.Merged = ap merge_answer done.failed ∙ answers-as o.failed in
    let said : Answer = cond o.failed (answers.Refused FailedSink) answers.Merged in
    record { state = done.state; shows = shows-merge a sent m.handed said o.events line (gives ∙ ap (λ x. line_of_merge a x out) answer ∙ ap (line_of_merge a said) done.events) }

heard-ok : (m : IdealNode) (es : List (TimedEntry EventBody)) (o : Step (Result (Unit {0}) MergeError)) (done : Unit {0}) (error : Option MergeError) (new : ConcreteState) (out : List EventOut) (a : ℕ) (sent : List (List ℕ)) (line : Line) → o.answer ≡ Ok done → Merging (merges_events es o.agent) out new error
    → line ≡ line_of_merge a (merge_answer error) out → TakesTurn a sent sent (merges_heard m es o) (record { concrete = new; handed = m.handed }) line
heard-ok m es o done error new out a sent line says did gives = by o.answer says
  where
    by : (r : Result (Unit {0}) MergeError) → r ≡ Ok done → TakesTurn a sent sent (merges_heard m es (record { agent = o.agent; answer = r })) (record { concrete = new; handed = m.handed }) line
    by (Ok x) is = shows-received m (merges_events es o.agent) error new out a sent line did gives
    by (Err f) is = absurd (cc is)

-- or writing the state's line failed, and nothing was handed out
heard-err : (m : IdealNode) (es : List (TimedEntry EventBody)) (o : Step (Result (Unit {0}) MergeError)) (error : Option MergeError) (new : ConcreteState) (out : List EventOut) (a : ℕ) (sent : List (List ℕ)) (line : Line) → Err merges.SinkError ≡ o.answer → new ≡ view_of o.agent → error ≡ Some merges.SinkError → out ≡ []
    → line ≡ line_of_merge a (merge_answer error) out → TakesTurn a sent sent (merges_heard m es o) (record { concrete = new; handed = m.handed }) line
heard-err m es o error new out a sent line says state is none gives = by o.answer says
  where
    by : (r : Result (Unit {0}) MergeError) → Err merges.SinkError ≡ r → TakesTurn a sent sent (merges_heard m es (record { agent = o.agent; answer = r })) (record { concrete = new; handed = m.handed }) line
    by (Ok x) same = absurd (cc same)
    by (Err f) same =
        let one : f ≡ merges.SinkError = cc (sym same) in
        record {
          state = state;
          shows = shows-merge a sent m.handed (answers.Refused (merge_refusal_of f)) [] line
              (gives ∙ ap (λ x. line_of_merge a (merge_answer x) out) is ∙ ap (line_of_merge a (answers.Refused FailedSink)) none ∙ ap (λ x. line_of_merge a (answers.Refused (merge_refusal_of x)) []) (sym one));
        }

-- if the state's line is durable, or the state has none, merging its clocks succeeds
heard-kept : (i : IdealAgent) (p : PushPull) (join : Bool) → (ended i (hear i p join) Kept).answer ≡ Ok tt
heard-kept i p join = by (written_min_line i.config p join)
  where
    by : (line : Option (List ℕ)) → (ended i (heard_by line i p join) Kept).answer ≡ Ok tt
    by None = refl
    by (Some line) = refl

-- a whole merge
heard-planned : MergesRepresentable → (m : IdealNode) (packet : List ℕ) (p : PushPull) (join : Bool) (error : Option MergeError) (old : Device) (new : AgentState) (out : List EventOut) (a : ℕ) (sent : List (List ℕ)) (line : Line) → IsRepresentable m.agent → decoded packet ≡ Ok (push_pull p)
    → m.agent.snapshot.stopped ≡ false → All (λ e. IsWritable e.key) (events_of p.slots) → error ≢ Some merges.OutOfMemory → ReceivesAfter m.agent (hear m.agent p join) (events_of p.slots) old out new error → line ≡ line_of_merge a (merge_answer error) out
    → TakesTurn a sent sent (merges_heard m (events_of p.slots) (planned m.agent (hear m.agent p join))) (record { concrete = new.concrete; handed = m.handed }) line
heard-planned laws m packet p join error old new out a sent line representable reads runs told memory (inl h) gives =
    let i : IdealAgent = m.agent in
    let call : Call (Result (Unit {0}) MergeError) = hear m.agent p join in
    let kept : Kept ≡ will i call = may-will i call Kept representable.consistent.observable h.0 in
    let same : ended i call Kept ≡ planned i call = ap (ended i call) kept in
    let answer : (planned i call).answer ≡ Ok tt = ap (λ (o : Step (Result (Unit {0}) MergeError)). o.answer) (sym same) ∙ heard-kept i p join in
    let received = subst (λ (o : Step (Result (Unit {0}) MergeError)). Receives o.agent (events_of p.slots) (device_after i call old) out new error) same h.1 in
    heard-ok m (events_of p.slots) (planned i call) tt error new.concrete out a sent line answer
    (receives-planned laws (events_of p.slots) (planned i call).agent (device_after i call old) out new error (laws.hears i packet p join representable runs reads) (laws.hears_on i p join tt runs answer) (laws.times packet p reads) told memory received) gives
heard-planned laws m packet p join error old new out a sent line representable reads runs told memory (inr h) gives = by h.1.0 h.1.1 h.1.2
  where
    by : (f : MergeError) → error ≡ Some f → EndsHearing m.agent (hear m.agent p join) old new f
        → TakesTurn a sent sent (merges_heard m (events_of p.slots) (planned m.agent (hear m.agent p join))) (record { concrete = new.concrete; handed = m.handed }) line
    by merges.OutOfMemory is ends = absurd (memory is)
    by merges.SinkError is ends =
        let did = steps-planned m.agent (hear m.agent p join) (Err merges.SinkError) old new representable.consistent.observable ends in
        heard-err m (events_of p.slots) (planned m.agent (hear m.agent p join)) error new.concrete out a sent line did.answers did.state is h.0 gives
    by merges.Stopped is ends = absurd ends
    by (merges.Wire f) is ends = absurd ends
    by merges.NotPushPull is ends = absurd ends

-- what a merge does, whether or not its packet spells a state
does-merge-read : MergesRepresentable → (m : IdealNode) (join : Bool) (packet : List ℕ) (error : Option MergeError) (old : Device) (new : AgentState) (out : List EventOut) (a : ℕ) (sent : List (List ℕ)) (line : Line) (f : Option MergeError) (r : Result Message WireError) → IsRepresentable m.agent → error ≢ Some merges.OutOfMemory
    → All (λ e. IsWritable e.key) (events_brought r) → decoded packet ≡ r → merge_refusal m.agent.snapshot r ≡ f
    → ((g : MergeError) → f ≡ Some g → (error ≡ Some g) × (new.concrete ≡ view_of m.agent) × (out ≡ []))
    → ((p : PushPull) → f ≡ None → r ≡ Ok (push_pull p) → Merges m.agent p join [] out old new error)
    → line ≡ line_of_merge a (merge_answer error) out → TakesTurn a sent sent (merges_as f m join r) (record { concrete = new.concrete; handed = m.handed }) line
does-merge-read laws m join packet error old new out a sent line (Some g) r representable memory told is refuses refused_as merged gives =
    let h = refused_as g refl in
    record { state = h.1; shows = shows-merge a sent m.handed (merge_answer (Some g)) [] line (gives ∙ ap (λ x. line_of_merge a (merge_answer x) out) h.0 ∙ ap (line_of_merge a (merge_answer (Some g))) h.2) }
does-merge-read laws m join packet error old new out a sent line None (Err e) representable memory told is refuses refused_as merged gives = absurd (never m.agent.snapshot.stopped refuses)
  where
    never : (b : Bool) → cond b (Some merges.Stopped) (Some (merges.Wire e)) ≡ None → ⊥
    never true e = cc
    never false e = cc
does-merge-read laws m join packet error old new out a sent line None (Ok (user_event e)) representable memory told is refuses refused_as merged gives = absurd (not-state m.agent.snapshot.stopped refuses)
does-merge-read laws m join packet error old new out a sent line None (Ok (query e)) representable memory told is refuses refused_as merged gives = absurd (not-state m.agent.snapshot.stopped refuses)
does-merge-read laws m join packet error old new out a sent line None (Ok (query_response e)) representable memory told is refuses refused_as merged gives = absurd (not-state m.agent.snapshot.stopped refuses)
does-merge-read laws m join packet error old new out a sent line None (Ok (foreign e)) representable memory told is refuses refused_as merged gives = absurd (not-state m.agent.snapshot.stopped refuses)
does-merge-read laws m join packet error old new out a sent line None (Ok (push_pull p)) representable memory told is refuses refused_as merged gives =
    let h = merged p refl refl in
    let runs = none-if m.agent.snapshot.stopped merges.Stopped None refuses in
    heard-planned laws m packet p join error old new out a sent line representable is runs.0 told memory
    (subst (λ (l : List EventOut). ReceivesAfter m.agent (hear m.agent p join) (events_of p.slots) old l new error) (sym h.out) h.receives) gives

pub does-merge : MergesRepresentable → (m : IdealNode) (join : Bool) (packet : List ℕ) (error : Option MergeError) (old : Device) (new : AgentState) (out : List EventOut) (a : ℕ) (sent : List (List ℕ)) (line : Line) → IsRepresentable m.agent → error ≢ Some merges.OutOfMemory → All (λ e. IsWritable e.key) (events_in_packet packet)
    → ((g : MergeError) → merge_refusal m.agent.snapshot (decoded packet) ≡ Some g → (error ≡ Some g) × (new.concrete ≡ view_of m.agent) × (out ≡ []))
    → ((p : PushPull) → merge_refusal m.agent.snapshot (decoded packet) ≡ None → decoded packet ≡ Ok (push_pull p) → Merges m.agent p join [] out old new error)
    → line ≡ line_of_merge a (merge_answer error) out → TakesTurn a sent sent (merges_packet m join (decoded packet)) (record { concrete = new.concrete; handed = m.handed }) line
does-merge laws m join packet error old new out a sent line representable memory told refused_as merged gives =
    does-merge-read laws m join packet error old new out a sent line (merge_refusal m.agent.snapshot (decoded packet)) (decoded packet) representable memory told refl refl refused_as merged gives

-- an agent that doesn't refuse a packet isn't stopped
pub runs-merge : (i : IdealAgent) (r : Result Message WireError) → merge_refusal i.snapshot r ≡ None → i.snapshot.stopped ≡ false
runs-merge i (Err e) none = (none-if i.snapshot.stopped merges.Stopped (Some (merges.Wire e)) none).0
runs-merge i (Ok (user_event e)) none = (none-if i.snapshot.stopped merges.Stopped (Some merges.NotPushPull) none).0
runs-merge i (Ok (query e)) none = (none-if i.snapshot.stopped merges.Stopped (Some merges.NotPushPull) none).0
runs-merge i (Ok (query_response e)) none = (none-if i.snapshot.stopped merges.Stopped (Some merges.NotPushPull) none).0
runs-merge i (Ok (foreign e)) none = (none-if i.snapshot.stopped merges.Stopped (Some merges.NotPushPull) none).0
runs-merge i (Ok (push_pull m)) none = (none-if i.snapshot.stopped merges.Stopped None none).0
