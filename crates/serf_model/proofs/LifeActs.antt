-- What each act in the lives of one agent preserves, each action of a run preserves, too.
use Rattle.serf_model.proofs.Names.{Bool, Err, IsSome, List, None, Ok, Option, Result, Some, [], ap, arith, false, map, refl, subst, true, unwrap_or, ℕ, ◌++◌, ◌-◌, ◌<◌, ◌^◌, ◌∷◌, ◌≡◌, All-cons, All-head, All-nil, All-tail, AllByRecursion, All, slice_get, decoded, Message, PushPull, foreign, push_pull, query, query_response, user_event, IsRangedPushPull, WireError, EventBody, FailurePlan, fresh_device, IsObservable, Writing, event_of, TimedEntry, Call, Ends, MayEnd, AppendsLine, Replaces, Step, ended, planned, will, admission, fire, DeliveredQuery, IdealAgent, IsMessageWritable, MayGoOn, StartsWithDurable, IsWritable, Asks, Closes, Compacts, Fires, Gets, Hears, Opens, Saves, Takes, fire_query, respond_error, receive, compact, events_of, handed_by, hear, merge_refusal, receive_one, save, EventOut, MergeError, Outcome, ReceiveError, RespondError, Below, IdealNode, Merged, apply, delivers, merges_as, merges_events, merges_given, merges_heard, merges_on, plan_with, responds, responds_as, text_after, with_plan, events_given, IsRepresentable, CanTellAct, events_brought, events_in_packet, given_by, Act}
use Rattle.serf_agent.specs.declared.outcome.MergeError.TheVariants as merges
use Rattle.serf_agent.specs.Lives.{Act as LifeAct, after}
use Rattle.serf_model.specs.declared.action.Act.TheVariants as acts
use Rattle.serf_model.proofs.CallsKept.{does-append_line, does-replace, ready-received}
use Rattle.serf_model.proofs.InvariantKept.{hears-on, ready-heard, runs-on, times-of}
use Rattle.serf_model.proofs.PerTimeBound.{none-if, out_in}
use Rattle.serf_model.proofs.ReadyLaws.{IsReady, ready}

-- ---- the sink does only what it may do

pub may-end : {R : Type 0} (i : IdealAgent) (call : Call R) → IsObservable i.snapshot → MayEnd i call (will i call)
may-end i (Ends step) observable = refl
may-end i (AppendsLine kind t line step error) observable = (does-append_line i.snapshot kind t line observable).may
may-end i (Replaces lines step error) observable = (does-replace lines i.snapshot observable).may

-- what holds of the events in a packet holds of its message
pub told-message : (packet : List ℕ) (m : Message) → All (λ e. IsWritable e.key) (events_in_packet packet) → decoded packet ≡ Ok m → IsMessageWritable m
told-message packet m told is = by m (subst (λ (r : Result Message WireError). All (λ e. IsWritable e.key) (events_brought r)) is told)
  where
    by : (m : Message) → All (λ e. IsWritable e.key) (events_brought (Ok m)) → IsMessageWritable m
    by (user_event e) all = All-head (λ (x : TimedEntry EventBody). IsWritable x.key) (record { time = e.time; key = event_of e.name e.payload }) [] all
    by (query q) all = tt
    by (query_response r) all = tt
    by (push_pull p) all = tt
    by (foreign kind) all = tt

-- the packet that is given, if its events can be written in lines
pub given-told : (given : Option (List ℕ)) → All (λ e. IsWritable e.key) (events_given given) → (packet : List ℕ) → given ≡ Some packet → All (λ e. IsWritable e.key) (events_in_packet packet)
given-told None told packet is = absurd (cc is)
given-told (Some p) told packet is = let same : p ≡ packet = cc is in subst (λ (x : List ℕ). All (λ e. IsWritable e.key) (events_in_packet x)) same told

-- the text on which a restart opens begins with the durable text
starts : (i : IdealAgent) (tail : List ℕ) → IsSome i.snapshot.durable → StartsWithDurable i (text_after i tail)
starts i tail some = by i.snapshot.durable refl some
  where
    by : (k : Option (List ℕ)) → i.snapshot.durable ≡ k → IsSome k → StartsWithDurable i (text_after i tail)
    by None is none = absurd (cc none)
    by (Some durable) is some = record { durable = durable; tail = tail; is = is; whole = ap (λ (k : Option (List ℕ)). unwrap_or k [] ++ tail) is }

-- ---- what is preserved

-- what holds of a list that is handed out holds of both of its parts
pub record Splits (Outs : List EventOut → Type 0) : Type 0 where
  pub none : Outs []
  pub first : (some more : List EventOut) → Outs (some ++ more) → Outs some
  pub rest : (some more : List EventOut) → Outs (some ++ more) → Outs more

pub nothing-splits : Splits (λ outs. Unit {0})
nothing-splits = record { none = tt; first = λ some more outs. tt; rest = λ some more outs. tt }

-- P holds of each event
abbrev pub Outs : (TimedEntry EventBody → Type 0) → List EventOut → Type 0
Outs P outs = All P (map out_in outs)

pub outs-split : (P : TimedEntry EventBody → Type 0) → Splits (Outs P)
outs-split P = record { none = All-nil P; first = first; rest = rest }
  where
    first : (some more : List EventOut) → Outs P (some ++ more) → Outs P some
    first [] more all = All-nil P
    first (o ∷ os) more all = All-cons P (out_in o) (map out_in os) (All-head P (out_in o) (map out_in (os ++ more)) all) (first os more (All-tail P (out_in o) (map out_in (os ++ more)) all))

    rest : (some more : List EventOut) → Outs P (some ++ more) → Outs P more
    rest [] more all = all
    rest (o ∷ os) more all = rest os more (All-tail P (out_in o) (map out_in (os ++ more)) all)

-- A property of an agent that each fit act of its life preserves. The events of a state are separate acts, which are
-- fit if what they hand out is.
pub record Keeping : Type 1 where
  pub Has : IdealAgent → Type 0
  pub Fits : IdealAgent → LifeAct → Type 0
  pub Handing : List EventOut → Type 0
  pub step : (i : IdealAgent) (x : LifeAct) → IsReady i → Has i → MayGoOn i x → Fits i x → Has (after i x)
  pub takes : (i : IdealAgent) (e : TimedEntry EventBody) (w : Writing) → Handing (handed_by (ended i (receive_one i e) w).answer) → Fits i (Takes e w)
  pub splits : Splits Handing
  -- another plan of failures preserves it, too
  pub replanned : (i : IdealAgent) (change : FailurePlan → FailurePlan) → Has i → Has (with_plan change i)

-- an action is fit if the corresponding act of its agent's life is fit, and so is what the action hands out from a
-- state
abbrev pub FitsAct : (IdealAgent → LifeAct → Type 0) → (List EventOut → Type 0) → IdealNode → List (List ℕ) → Act → Type 0
FitsAct Fits Handing m sent (acts.Fire name payload coalesce) = Fits m.agent (Fires (event_of name payload) coalesce (will m.agent (fire m.agent (event_of name payload) coalesce)))
FitsAct Fits Handing m sent (acts.Deliver number now) = (packet : List ℕ) → slice_get sent number ≡ Some packet → Fits m.agent (Gets false now packet (will m.agent (receive false m.agent now packet)))
FitsAct Fits Handing m sent (acts.Merge number join) =
    ((packet : List ℕ) (s : PushPull) → slice_get sent number ≡ Some packet → decoded packet ≡ Ok (push_pull s) → merge_refusal m.agent.snapshot (decoded packet) ≡ None → Fits m.agent (Hears s join (will m.agent (hear m.agent s join))))
    × Handing (merges_given m join (slice_get sent number)).done.events
FitsAct Fits Handing m sent (acts.Query q) = Fits m.agent (Asks q.moment q.id q.name q.payload q.params (will m.agent (fire_query m.agent q.moment q.id q.name q.payload q.params)))
FitsAct Fits Handing m sent (acts.Restart tail) = Fits m.agent (Opens m.agent.config (text_after m.agent tail) (fresh_device (text_after m.agent tail)))
FitsAct Fits Handing m sent (acts.Close now) = Fits m.agent (Closes now)
FitsAct Fits Handing m sent acts.Save = Fits m.agent (Saves (will m.agent (save m.agent)))
FitsAct Fits Handing m sent acts.Compact = Fits m.agent (Compacts (will m.agent (compact m.agent)))
FitsAct Fits Handing m sent _ = Unit {0}

-- ---- merges

-- an agent that receives an event, and an agent that merges the clocks of a state
pub kept-received : (k : Keeping) (i : IdealAgent) (e : TimedEntry EventBody) → IsReady i → i.snapshot.stopped ≡ false → e.time < 2 ^ 64 - 1 → IsWritable e.key → k.Handing (handed_by (planned i (receive_one i e)).answer) → k.Has i → k.Has (planned i (receive_one i e)).agent
kept-received k i e r runs small told outs has =
    let call : Call (Result Outcome ReceiveError) = receive_one i e in
    k.step i (Takes e (will i call)) r has ((runs, small, may-end i call r.consistent.observable), told) (k.takes i e (will i call) outs)

pub kept-heard : (k : Keeping) (i : IdealAgent) (s : PushPull) (join : Bool) → IsReady i → i.snapshot.stopped ≡ false → IsRangedPushPull s → k.Fits i (Hears s join (will i (hear i s join))) → k.Has i → k.Has (planned i (hear i s join)).agent
kept-heard k i s join r runs ranged fits has =
    let call : Call (Result (Unit {0}) MergeError) = hear i s join in
    k.step i (Hears s join (will i call)) r has ((may-end i call r.consistent.observable, omega (arith, ranged.member_clock), λ asks. runs), omega (arith, ranged.event_clock)) fits

kept-on : (k : Keeping) (o : Step (Result Outcome ReceiveError)) (rest : IdealAgent → Merged) → (k.Handing (handed_by o.answer) → k.Has o.agent)
    → ((outcome : Outcome) → o.answer ≡ Ok outcome → k.Has o.agent → k.Handing (rest o.agent).events → k.Has (rest o.agent).agent) → k.Handing (merges_on o rest).events → k.Has (merges_on o rest).agent
kept-on k o rest first more outs = by o.answer refl first outs
  where
    by : (r : Result Outcome ReceiveError) → o.answer ≡ r → (k.Handing (handed_by r) → k.Has o.agent) → k.Handing (merges_on (record { agent = o.agent; answer = r }) rest).events → k.Has (merges_on (record { agent = o.agent; answer = r }) rest).agent
    by (Ok outcome) is first outs = more outcome is (first (k.splits.first (handed_by (Ok outcome)) (rest o.agent).events outs)) (k.splits.rest (handed_by (Ok outcome)) (rest o.agent).events outs)
    by (Err error) is first outs = first k.splits.none

kept-merges : Below → (k : Keeping) (es : List (TimedEntry EventBody)) (i : IdealAgent) → IsReady i → i.snapshot.stopped ≡ false → AllByRecursion (λ e. e.time < 2 ^ 64 - 1) es → All (λ e. IsWritable e.key) es → k.Has i → k.Handing (merges_events es i).events → k.Has (merges_events es i).agent
kept-merges lower k [] i r runs times told has outs = has
kept-merges lower k (e ∷ es) i r runs times told has outs =
    kept-on k (planned i (receive_one i e)) (merges_events es) (λ outs. kept-received k i e r runs times.0 (All-head (λ (x : TimedEntry EventBody). IsWritable x.key) e es told) outs has)
    (λ outcome is has more. kept-merges lower k es (planned i (receive_one i e)).agent (ready-received lower i e.time e.key false (admission i e.time e.key) r runs times.0 refl)
    (runs-on i e.time e.key false (admission i e.time e.key) outcome runs is) times.1 (All-tail (λ (x : TimedEntry EventBody). IsWritable x.key) e es told) has more) outs

kept-merged : Below → (k : Keeping) (m : IdealNode) (join : Bool) (s : PushPull) → IsReady m.agent → m.agent.snapshot.stopped ≡ false → IsRangedPushPull s → All (λ e. IsWritable e.key) (events_of s.slots) → k.Fits m.agent (Hears s join (will m.agent (hear m.agent s join))) → k.Has m.agent
    → (let o = merges_heard m (events_of s.slots) (planned m.agent (hear m.agent s join)) in k.Handing o.done.events → k.Has o.node.agent)
kept-merged lower k m join s r runs ranged told fits has outs =
    by (planned m.agent (hear m.agent s join)).answer (kept-heard k m.agent s join r runs ranged fits has) (ready-heard lower m.agent s join r runs ranged) (λ done says. hears-on m.agent s join done runs says) outs
  where
    by : (x : Result (Unit {0}) MergeError) → k.Has (planned m.agent (hear m.agent s join)).agent → IsReady (planned m.agent (hear m.agent s join)).agent
        → ((done : Unit {0}) → x ≡ Ok done → (planned m.agent (hear m.agent s join)).agent.snapshot.stopped ≡ false)
        → (let o = merges_heard m (events_of s.slots) (record { agent = (planned m.agent (hear m.agent s join)).agent; answer = x }) in k.Handing o.done.events → k.Has o.node.agent)
    by (Ok done) has is_ready runs outs = kept-merges lower k (events_of s.slots) (planned m.agent (hear m.agent s join)).agent is_ready (runs done refl) (times-of s.slots ranged.slots) told has outs
    by (Err error) has is_ready runs outs = has

kept-merge : Below → (k : Keeping) (m : IdealNode) (join : Bool) (packet : List ℕ) (f : Option MergeError) (r : Result Message WireError) → IsReady m.agent → All (λ e. IsWritable e.key) (events_brought r) → decoded packet ≡ r → merge_refusal m.agent.snapshot r ≡ f
    → ((s : PushPull) → r ≡ Ok (push_pull s) → f ≡ None → k.Fits m.agent (Hears s join (will m.agent (hear m.agent s join)))) → k.Has m.agent → k.Handing (merges_as f m join r).done.events → k.Has (merges_as f m join r).node.agent
kept-merge lower k m join packet None (Ok (push_pull s)) r told is refuses fits has outs =
    let runs = none-if m.agent.snapshot.stopped merges.Stopped None refuses in
    kept-merged lower k m join s r runs.0 (lower.in_range packet (push_pull s) is) told (fits s refl refl) has outs
kept-merge lower k m join packet (Some error) r i told is refuses fits has outs = has
kept-merge lower k m join packet None _ r told is refuses fits has outs = has

kept-merges_given : Below → (k : Keeping) (m : IdealNode) (join : Bool) (given : Option (List ℕ)) → IsReady m.agent → ((packet : List ℕ) → given ≡ Some packet → All (λ e. IsWritable e.key) (events_in_packet packet))
    → ((packet : List ℕ) (s : PushPull) → given ≡ Some packet → decoded packet ≡ Ok (push_pull s) → merge_refusal m.agent.snapshot (decoded packet) ≡ None → k.Fits m.agent (Hears s join (will m.agent (hear m.agent s join))))
    → k.Has m.agent → k.Handing (merges_given m join given).done.events → k.Has (merges_given m join given).node.agent
kept-merges_given lower k m join None r told fits has outs = has
kept-merges_given lower k m join (Some packet) r told fits has outs =
    kept-merge lower k m join packet (merge_refusal m.agent.snapshot (decoded packet)) (decoded packet) r (told packet refl) refl refl (λ s is runs. fits packet s refl is runs) has outs

-- ---- the other acts

kept-delivers : (k : Keeping) (m : IdealNode) (now : ℕ) (given : Option (List ℕ)) → IsReady m.agent → ((packet : List ℕ) → given ≡ Some packet → All (λ e. IsWritable e.key) (events_in_packet packet))
    → ((packet : List ℕ) → given ≡ Some packet → k.Fits m.agent (Gets false now packet (will m.agent (receive false m.agent now packet)))) → k.Has m.agent → k.Has (delivers m now given).node.agent
kept-delivers k m now None r told fits has = has
kept-delivers k m now (Some packet) r told fits has =
    let call : Call (Result Outcome ReceiveError) = receive false m.agent now packet in
    k.step m.agent (Gets false now packet (will m.agent call)) r has (may-end m.agent call r.consistent.observable, λ y is. told-message packet y (told packet refl) is) (fits packet refl)

kept-responds : (Has : IdealAgent → Type 0) (m : IdealNode) (number now : ℕ) (payload : List ℕ) (o : Option (Option DeliveredQuery)) → Has m.agent → Has (responds m number o now payload).node.agent
kept-responds Has m number now payload None has = has
kept-responds Has m number now payload (Some None) has = has
kept-responds Has m number now payload (Some (Some h)) has = by (respond_error h now payload)
  where
    by : (r : Option RespondError) → Has (responds_as r m number h payload).node.agent
    by (Some error) = has
    by None = has

-- ---- each act

pub acts-keep : Below → (k : Keeping) (m : IdealNode) (sent : List (List ℕ)) (act : Act) → IsRepresentable m.agent → CanTellAct m.agent.config act (given_by sent act) → m.agent.config.keep_events ≡ true → FitsAct k.Fits k.Handing m sent act
    → k.Has m.agent → k.Has (apply m sent act).node.agent
acts-keep lower k m sent act g tells keeps fits has = by act tells fits
  where
    r : IsReady m.agent
    r = ready m.agent g

    by : (act : Act) → CanTellAct m.agent.config act (given_by sent act) → FitsAct k.Fits k.Handing m sent act → k.Has (apply m sent act).node.agent
    by (acts.Fire name payload coalesce) tells fits =
        let call = fire m.agent (event_of name payload) coalesce in
        k.step m.agent (Fires (event_of name payload) coalesce (will m.agent call)) (ready m.agent g) has (may-end m.agent call g.consistent.observable, (tells keeps).0) fits
    by (acts.Deliver number now) tells fits = kept-delivers k m now (slice_get sent number) (ready m.agent g) (given-told (slice_get sent number) (tells keeps).1) fits has
    by acts.State tells fits = has
    by (acts.Merge number join) tells fits = kept-merges_given lower k m join (slice_get sent number) (ready m.agent g) (given-told (slice_get sent number) (tells keeps).1) fits.0 has fits.1
    by (acts.Query q) tells fits =
        let call = fire_query m.agent q.moment q.id q.name q.payload q.params in
        k.step m.agent (Asks q.moment q.id q.name q.payload q.params (will m.agent call)) (ready m.agent g) has (may-end m.agent call g.consistent.observable, (tells keeps).0) fits
    by (acts.Respond number now payload) tells fits = kept-responds k.Has m number now payload (slice_get m.handed number) has
    by (acts.Restart tail) tells fits =
        let text : List ℕ = text_after m.agent tail in
        k.step m.agent (Opens m.agent.config (text_after m.agent tail) (fresh_device (text_after m.agent tail))) (ready m.agent g) has (g.consistent.sound.config, starts m.agent tail g.consistent.observable.durable) fits
    by (acts.Break call n) tells fits = k.replanned m.agent (plan_with call n) has
    by (acts.Close now) tells fits = k.step m.agent (Closes now) (ready m.agent g) has (tt, tt) fits
    by acts.Save tells fits = k.step m.agent (Saves (will m.agent (save m.agent))) (ready m.agent g) has (may-end m.agent (save m.agent) g.consistent.observable, tt) fits
    by acts.Compact tells fits = k.step m.agent (Compacts (will m.agent (compact m.agent))) (ready m.agent g) has (may-end m.agent (compact m.agent) g.consistent.observable, tt) fits
