-- What a merge does to a host: the push/pull is heard, its events are received one by one, and what it contains is
-- accepted if it is new.
use Rattle.serf_agent_c.proofs.Names.{Bool, Err, List, None, Ok, Option, Result, Some, [], ap, append-nil, append_assoc, arith, cond, false, inl, inr, map, refl, subst, sym, true, ℕ, ◌++◌, ◌+◌, ◌-◌, ◌<◌, ◌^◌, ◌∙◌, ◌∷◌, ◌≡◌, ◌≢◌, ◌≤◌, ◌⊎◌, map-append, All-append, All-cons, All-contains, All-head, All-nil, All-tail, Contains-append_cases, Contains-append_left, Contains-append_right, AllByRecursion, All, Contains, max, observed, AreBytes, HasBytes, SlotHasBytes, decoded, Message, PushPull, foreign, push_pull, query, query_response, user_event, IsRangedPushPull, IsTimed, SlotContent, empty, held, WireError, EventBody, Device, Kept, SnapshotView, Writing, TimedEntry, Call, MayEnd, ended, max_text_bytes, device_after, admission, received_as, texts_len, IdealAgent, IsFull, IsDurable, MayKeep, Act, Hears, MayAct, Takes, event_entry, events_out, IsSound, EndsAt, EndsHearing, Merges, Receives, ReceivesAfter, after_event, at_time, delivered, events_of, events_of_slot, hear, heard_by, merge_refusal, receive_one, written_min_line, AgentState, ConcreteState, view_of, Config, EventOut, MergeError, Reason, IsFlushed, line_of, no_failure, events_in, Host, Merge, Says, Showing, clock_heard, enters, event_kind, shown, error_of, merged_code, is_ready, text_of, Code, CallResult, Session}
use Rattle.serf_agent_c.proofs.BurstLaws.{IsPlain, calm-after, calm-kept, device-bytes, event-plain, runs-after}
use Rattle.serf_agent_c.proofs.HostLaws.{durable-after, text-appends, same-agent, text-ready}
use Rattle.serf_agent_c.proofs.HandedOnce.{made-now, Given, Knows, adds, both, full-wider, only-in, same_entry, call_result_entries, gives-none, join-assoc, join-nothing, knows-nothing, knows-swapped, nothing, only_events, outs, ◌⊕◌, event-in, none-there, unmet, rising, rising-up, received-low, heard-low, received-outs, HeldIn, held-in}
use Rattle.serf_agent_c.proofs.HostedKept.{Aim, Goes, StateOffers, Tracking, Within, acted, aimed, goes-more, still, unmoved}
use Rattle.serf_agent_c.proofs.HostedCalls.{Below, given_to, queue_entries, IsHosted, call-hosted, due-given, knows-after, pre, ready-knows, waits-hosted, quiet-hosted}
use Rattle.serf_agent.specs.Lives as lives
use Rattle.serf_agent_c.specs.declared.call_result.CallResult.TheVariants as call_results
use Rattle.serf_agent.specs.declared.outcome.MergeError.TheVariants as merges
use Rattle.serf_agent.specs.declared.outcome.ReceiveError.TheVariants as receives

pub record Chain (all : Given) (file old : List ℕ) (i : IdealAgent) (d : Device) : Type 0 where
  pub sound : IsSound i
  pub durable : IsDurable i
  pub calm : i.snapshot.plan ≡ Some no_failure
  pub runs : i.snapshot.stopped ≡ false
  pub flushed : IsFlushed d
  pub once : Knows i all
  pub more : List ℕ
  pub disk : i.snapshot.durable ≡ Some (file ++ more)
  pub text : text_of d ≡ old ++ more

pub record ChainEnds (all : Given) (file old : List ℕ) (new : AgentState) : Type 0 where
  pub agent : IdealAgent
  pub state : new.concrete ≡ view_of agent
  pub chain : Chain all file old agent new.device

pub chain-step : {R : Type 0} (laws : Below) (all : Given) (file old : List ℕ) (i : IdealAgent) (d : Device) (act : Act) (call : Call R) → Chain all file old i d → IsPlain i call → lives.after i act ≡ (ended i call Kept).agent → MayAct i act → MayKeep i act
    → Chain (all ⊕ outs i act) file old (ended i call Kept).agent (device_after i call d)
chain-step laws all file old i d act call c plain is may keep =
    let bytes = device-bytes i call d plain c.flushed in
    let line = line_of i call in
    record {
      sound = subst IsSound is (laws.sound i act c.sound may);
      durable = subst IsDurable is (laws.durable i act c.sound c.durable may keep);
      calm = calm-after i call c.calm plain;
      runs = runs-after i call plain c.runs;
      flushed = bytes.1;
      once = subst (λ (j : IdealAgent). Knows j (all ⊕ outs i act)) is (knows-after laws i act all c.sound may c.once);
      more = c.more ++ line;
      disk = durable-after i call (file ++ c.more) plain c.disk ∙ ap (λ (x : List ℕ). Some x) (append_assoc file c.more line);
      text = bytes.0 ∙ ap (λ (xs : List ℕ). xs ++ line) c.text ∙ append_assoc old c.more line;
    }

abbrev pub CanCome : TimedEntry EventBody → Type 0
CanCome e = (e.time < 2 ^ 64 - 1) × HasBytes e.key

pub one-plain : (i : IdealAgent) (e : TimedEntry EventBody) → IsPlain i (receive_one i e)
one-plain i e = event-plain (admission i e.time e.key) i e.time e.key false

pub no-error : (i : IdealAgent) (e : TimedEntry EventBody) (r : Option Reason) → Err receives.SinkError ≡ (ended i (received_as r i e.time e.key false) Kept).answer → ⊥
no-error i e None is = cc
no-error i e (Some reason) is = cc

pub receives-chain : (laws : Below) (file old : List ℕ) (es : List (TimedEntry EventBody)) (all : Given) (i : IdealAgent) (d : Device) (deliveries : List EventOut) (new : AgentState) (error : Option MergeError)
    → Chain all file old i d → All CanCome es → Receives i es d deliveries new error → ChainEnds (all ⊕ only_events deliveries) file old new
receives-chain laws file old [] all i d deliveries new error c can r =
    let ends : ChainEnds all file old new = record { agent = i; state = r.1; chain = subst (λ (e : Device). Chain all file old i e) (sym r.2) c } in
    subst (λ (l : Given). ChainEnds l file old new) (sym (ap (λ (l : List EventOut). all ⊕ only_events l) r.0 ∙ join-nothing all)) ends
receives-chain laws file old (e ∷ es) all i d deliveries new error c can (inl r) =
    let here = All-head CanCome e es can in
    let step = chain-step laws all file old i d (Takes e Kept) (receive_one i e) c (one-plain i e) refl (c.runs, here.0, r.0) here.1 in
    let first = only_events (delivered i e) in
    let rest = receives-chain laws file old es (all ⊕ first) (after_event i e) (device_after i (receive_one i e) d) r.1.0 new error step (All-tail CanCome e es can) r.1.2 in
    subst (λ (l : Given). ChainEnds l file old new) (join-assoc all first (only_events r.1.0) ∙ ap (λ (es : List (TimedEntry EventBody)). all ⊕ both es []) (sym (map-append event_entry (delivered i e) r.1.0) ∙ ap (λ (l : List EventOut). map event_entry l) (sym r.1.1))) rest
receives-chain laws file old (e ∷ es) all i d deliveries new error c can (inr r) =
    subst (λ (l : Given). ChainEnds l file old new) (sym (ap (λ (l : List EventOut). all ⊕ only_events l) r.0 ∙ join-nothing all)) (at r.1.0 r.1.2)
  where
    at : (f : MergeError) → EndsAt i e d new f → ChainEnds all file old new
    at merges.OutOfMemory x = record { agent = i; state = x.1; chain = subst (λ (y : Device). Chain all file old i y) (sym x.2) c }
    at merges.SinkError x = absurd (no-error i e (admission i e.time e.key) (x.answers ∙ ap (λ (w : Writing). (ended i (receive_one i e) w).answer) (calm-kept i (receive_one i e) x.writing c.calm (one-plain i e) x.allowed)))
    at merges.Stopped x = absurd x
    at (merges.Wire f) x = absurd x
    at merges.NotPushPull x = absurd x

pub slot-comes : (t : ℕ) (es : List EventBody) → t < 2 ^ 64 - 1 → AllByRecursion HasBytes es → All CanCome (at_time t es)
slot-comes t [] low bytes = All-nil CanCome
slot-comes t (e ∷ es) low bytes = All-cons CanCome (record { time = t; key = e }) (at_time t es) (low, bytes.0) (slot-comes t es low bytes.1)

pub one-slot : (s : SlotContent) → IsTimed s → SlotHasBytes s → All CanCome (events_of_slot s)
one-slot empty low bytes = All-nil CanCome
one-slot (held t es) low bytes = slot-comes t es low bytes

pub slots-come : (ss : List SlotContent) → AllByRecursion IsTimed ss → AllByRecursion SlotHasBytes ss → All CanCome (events_of ss)
slots-come [] low bytes = All-nil CanCome
slots-come (s ∷ ss) low bytes = All-append CanCome (events_of_slot s) (events_of ss) (one-slot s low.0 bytes.0) (slots-come ss low.1 bytes.1)

pub heard-plain : (line : Option (List ℕ)) (i : IdealAgent) (m : PushPull) (join : Bool) → IsPlain i (heard_by line i m join)
heard-plain None i m join = refl
heard-plain (Some line) i m join = tt

pub no-error-heard : (line : Option (List ℕ)) (i : IdealAgent) (m : PushPull) (join : Bool) → Err merges.SinkError ≡ (ended i (heard_by line i m join) Kept).answer → ⊥
no-error-heard None i m join is = cc
no-error-heard (Some line) i m join is = cc

pub data Refused (s : SnapshotView) (r : Result Message WireError) : Type 0 where
  refused : (f : MergeError) → merge_refusal s r ≡ Some f → Refused s r
  merged : (m : PushPull) → r ≡ Ok (push_pull m) → s.stopped ≡ false → Refused s r

pub either-refused : (b : Bool) (x y : MergeError) → (f : MergeError) × (cond b (Some x) (Some y) ≡ Some f)
either-refused true x y = (x, refl)
either-refused false x y = (y, refl)

pub refusal : (s : SnapshotView) (r : Result Message WireError) → Refused s r
refusal s (Err f) = let e = either-refused s.stopped merges.Stopped (merges.Wire f) in refused e.0 e.1
refusal s (Ok (user_event e)) = let x = either-refused s.stopped merges.Stopped merges.NotPushPull in refused x.0 x.1
refusal s (Ok (query q)) = let x = either-refused s.stopped merges.Stopped merges.NotPushPull in refused x.0 x.1
refusal s (Ok (query_response q)) = let x = either-refused s.stopped merges.Stopped merges.NotPushPull in refused x.0 x.1
refusal s (Ok (foreign k)) = let x = either-refused s.stopped merges.Stopped merges.NotPushPull in refused x.0 x.1
refusal s (Ok (push_pull m)) = by s.stopped refl
  where
    by : (b : Bool) → s.stopped ≡ b → Refused s (Ok (push_pull m))
    by true is = refused merges.Stopped (ap (λ (b : Bool). cond b (Some merges.Stopped) None) is)
    by false is = merged m refl is

-- a merge hands out only events
pub merge-gives : (g : CallResult) (error : Option MergeError) → error_of g ≡ Some error → call_result_entries g ≡ only_events (events_in g)
merge-gives (call_results.Merged events why) error at = refl
merge-gives call_results.Nothing error at = cc
merge-gives (call_results.Kept q) error at = cc
merge-gives (call_results.Received r) error at = cc
merge-gives (call_results.Fired r) error at = cc
merge-gives (call_results.QueryFired r) error at = cc
merge-gives (call_results.State r) error at = cc
merge-gives (call_results.Replied r) error at = cc
merge-gives (call_results.LineAppended r) error at = cc
merge-gives (call_results.Closed q) error at = cc

pub merged-hosted : Below → (h : Host) (t : Session) (code : Code) (packet : List ℕ) (join : Bool) (k : IsHosted h) → Says (Merge packet join) h.session t code → AreBytes packet → IsHosted (shown (pre h t))
merged-hosted laws h t code packet join k may bytes = by (is_ready h.session) refl
  where
    i : IdealAgent
    i = k.inside.agent

    idle-so : is_ready h.session ≡ true → t.agent ≡ h.session.agent → call_result_entries t.call_result ≡ nothing → IsHosted (shown (pre h t))
    idle-so ready same none = let tells = may.1 ready in quiet-hosted h t k ready k.inside.agent (same-agent h.session t k.inside.agent h.file ready same tells.text k.inside.follows) k.inside.durable (λ a knows. knows) none tells.burst

    ends-so : is_ready h.session ≡ true → (error : Option MergeError) → error_of t.call_result ≡ Some error → ChainEnds ((given_to h ⊕ queue_entries h.session.burst.items) ⊕ only_events (events_in t.call_result)) h.file (text_of h.session.agent.device) t.agent → IsHosted (shown (pre h t))
    ends-so ready error at e =
        let tells = may.1 ready in
        let queue = queue_entries h.session.burst.items in
        let call_result = only_events (events_in t.call_result) in
        let c = e.chain in
        call-hosted h t k ready e.agent
        (record { state = e.state; sound = c.sound; calm = c.calm; flushed = c.flushed; disk = c.disk ∙ ap (λ (x : List ℕ). Some x) (sym (text-appends h.file h.session t c.more tells.text c.text)) })
        c.durable (call_result ⊕ queue) (knows-swapped e.agent (given_to h) queue call_result c.once) (due-given h t h.session.burst.items call_result ready (merge-gives t.call_result error at) tells.burst)

    chain-first : is_ready h.session ≡ true → i.snapshot.stopped ≡ false → Chain (given_to h ⊕ queue_entries h.session.burst.items) h.file (text_of h.session.agent.device) i h.session.agent.device
    chain-first ready runs = record {
      sound = k.inside.follows.sound;
      durable = k.inside.durable;
      calm = k.inside.follows.calm;
      runs = runs;
      flushed = k.inside.follows.flushed;
      once = ready-knows h k ready;
      more = [];
      disk = k.inside.follows.disk ∙ ap (λ (x : List ℕ). Some x) (text-ready h.file h.session ready ∙ sym (append-nil h.file));
      text = sym (append-nil (text_of h.session.agent.device));
    }

    goes-through : (error : Option MergeError) (m : PushPull) → is_ready h.session ≡ true → error_of t.call_result ≡ Some error → i.snapshot.stopped ≡ false → decoded packet ≡ Ok (push_pull m) → Merges i m join [] (events_in t.call_result) h.session.agent.device t.agent error → IsHosted (shown (pre h t))
    goes-through error m ready tried runs is merges_it = ends-so ready error tried (subst (λ (es : List EventOut). ChainEnds (all ⊕ only_events es) h.file old t.agent) (sym merges_it.out) (from merges_it.receives))
      where
        all : Given
        all = given_to h ⊕ queue_entries h.session.burst.items

        old : List ℕ
        old = text_of h.session.agent.device

        ranged : IsRangedPushPull m
        ranged = laws.ranged packet (push_pull m) is

        can : All CanCome (events_of m.slots)
        can = slots-come m.slots ranged.slots (laws.bytes packet (push_pull m) bytes is)

        from : ReceivesAfter i (hear i m join) (events_of m.slots) h.session.agent.device merges_it.deliveries t.agent error → ChainEnds (all ⊕ only_events merges_it.deliveries) h.file old t.agent
        from (inl r) =
            let act = Hears m join Kept in
            let step = chain-step laws all h.file old i h.session.agent.device act (hear i m join) (chain-first ready runs) (heard-plain (written_min_line i.config m join) i m join) refl (r.0, omega (arith, ranged.member_clock), λ asks. runs) (omega (arith, ranged.event_clock)) in
            let c = subst (λ (l : Given). Chain l h.file old (ended i (hear i m join) Kept).agent (device_after i (hear i m join) h.session.agent.device)) (join-nothing all) step in
            receives-chain laws h.file old (events_of m.slots) all (ended i (hear i m join) Kept).agent (device_after i (hear i m join) h.session.agent.device) merges_it.deliveries t.agent error c can r.1
        from (inr r) = subst (λ (l : Given). ChainEnds l h.file old t.agent) (sym (ap (λ (l : List EventOut). all ⊕ only_events l) r.0 ∙ join-nothing all)) (at r.1.0 r.1.2)
          where
            at : (f : MergeError) → EndsHearing i (hear i m join) h.session.agent.device t.agent f → ChainEnds all h.file old t.agent
            at merges.OutOfMemory x = record { agent = i; state = x.1; chain = subst (λ (y : Device). Chain all h.file old i y) (sym x.2) (chain-first ready runs) }
            at merges.SinkError x = absurd (no-error-heard (written_min_line i.config m join) i m join (x.answers ∙ ap (λ (w : Writing). (ended i (hear i m join) w).answer) (calm-kept i (hear i m join) x.writing k.inside.follows.calm (heard-plain (written_min_line i.config m join) i m join) x.allowed)))
            at merges.Stopped x = absurd x
            at (merges.Wire f) x = absurd x
            at merges.NotPushPull x = absurd x

    begun : is_ready h.session ≡ true → (error : Option MergeError) → error_of t.call_result ≡ Some error → Refused h.session.agent.concrete.snapshot (decoded packet) → IsHosted (shown (pre h t))
    begun ready error at (refused f is) = let u = may.3 ready error at f is in idle-so ready u.2 (merge-gives t.call_result error at ∙ ap only_events u.1)
    begun ready error at (merged m is runs) =
        let stays : i.snapshot.stopped ≡ false = sym (ap (λ (a : ConcreteState). a.snapshot.stopped) k.inside.follows.state) ∙ runs in
        goes-through error m ready at stays is ((may.4 ready error at).1 i m k.inside.follows.sound k.inside.follows.state stays is)

    tried-it : is_ready h.session ≡ true → (o : Option (Option MergeError)) → error_of t.call_result ≡ o → IsHosted (shown (pre h t))
    tried-it ready None at = let u = may.2 ready at in idle-so ready u.1 (gives-none t.call_result u.2.0)
    tried-it ready (Some error) at = begun ready error at (refusal h.session.agent.concrete.snapshot (decoded packet))

    by : (b : Bool) → is_ready h.session ≡ b → IsHosted (shown (pre h t))
    by false is = waits-hosted h t k is (may.0 is).1
    by true is = tried-it is (error_of t.call_result) refl

-- ---- what is met

-- an agent after the events that it received, if all of this was met
pub record KeptEnds {K : Type 0} (kind : Showing K) (g : Aim) (file old : List ℕ) (new : AgentState) (met : List (TimedEntry K)) : Type 0 where
  pub all : Given
  pub ends : ChainEnds all file old new
  pub goes : Goes kind g met ends.agent

pub receives-kept : {K : Type 0} (laws : Below) (kind : Showing K) (track : Tracking kind) (g : Aim) (file old : List ℕ) (es : List (TimedEntry EventBody)) (all : Given) (met : List (TimedEntry K)) (i : IdealAgent) (d : Device) (deliveries : List EventOut) (new : AgentState) (error : Option MergeError)
    → Chain all file old i d → Goes kind g met i → All CanCome es → Receives i es d deliveries new error → KeptEnds kind g file old new (met ++ track.merges deliveries)
receives-kept laws kind track g file old [] all met i d deliveries new error c takes can r =
    let ends : ChainEnds all file old new = record { agent = i; state = r.1; chain = subst (λ (e : Device). Chain all file old i e) (sym r.2) c } in
    record { all = all; ends = ends; goes = goes-more kind g met (track.merges deliveries) i takes }
receives-kept {K} laws kind track g file old (e ∷ es) all met i d deliveries new error c takes can (inl r) =
    let here = All-head CanCome e es can in
    let act = Takes e Kept in
    let may : MayAct i act = (c.runs, here.0, r.0) in
    let step = chain-step laws all file old i d act (receive_one i e) c (one-plain i e) refl may here.1 in
    let first = track.merges (delivered i e) in
    let goes : Goes kind g (met ++ first) (after_event i e) = subst (λ (l : List (TimedEntry K)). Goes kind g (met ++ l) (after_event i e)) (track.takes i e) (acted kind track g i act met c.sound c.durable (record { may = may; keep = here.1; go = (may, here.1); same = tt; told = λ x. tt; none = refl }) takes) in
    let rest = receives-kept laws kind track g file old es (all ⊕ only_events (delivered i e)) (met ++ first) (after_event i e) (device_after i (receive_one i e) d) r.1.0 new error step goes (All-tail CanCome e es can) r.1.2 in
    subst (λ (l : List (TimedEntry K)). KeptEnds kind g file old new l) (append_assoc met first (track.merges r.1.0) ∙ ap (λ (l : List (TimedEntry K)). met ++ l) (sym (track.merges_both (delivered i e) r.1.0) ∙ ap track.merges (sym r.1.1))) rest
receives-kept laws kind track g file old (e ∷ es) all met i d deliveries new error c takes can (inr r) = at r.1.0 r.1.2
  where
    at : (f : MergeError) → EndsAt i e d new f → KeptEnds kind g file old new (met ++ track.merges deliveries)
    at merges.OutOfMemory x = record { all = all; ends = record { agent = i; state = x.1; chain = subst (λ (y : Device). Chain all file old i y) (sym x.2) c }; goes = goes-more kind g met (track.merges deliveries) i takes }
    at merges.SinkError x = absurd (no-error i e (admission i e.time e.key) (x.answers ∙ ap (λ (w : Writing). (ended i (receive_one i e) w).answer) (calm-kept i (receive_one i e) x.writing c.calm (one-plain i e) x.allowed)))
    at merges.Stopped x = absurd x
    at (merges.Wire f) x = absurd x
    at merges.NotPushPull x = absurd x

-- what is heard of a state before any of its events
pub record HeardFirst {K : Type 0} (kind : Showing K) (g : Aim) (file old : List ℕ) (d : Device) (met : List (TimedEntry K)) (i : IdealAgent) (m : PushPull) (join : Bool) : Type 0 where
  pub all : Given
  pub chain : Chain all file old (ended i (hear i m join) Kept).agent (device_after i (hear i m join) d)
  pub goes : Goes kind g met (ended i (hear i m join) Kept).agent

chain-first : {K : Type 0} (kind : Showing K) (g : Aim) (file : List ℕ) (s : Session) (met : List (TimedEntry K)) (w : Within kind g file s met) → is_ready s ≡ true → Chain nothing file (text_of s.agent.device) w.agent s.agent.device
chain-first kind g file s met w ready = record {
  sound = w.follows.sound;
  durable = w.durable;
  calm = w.follows.calm;
  runs = w.runs;
  flushed = w.follows.flushed;
  once = knows-nothing w.agent;
  more = [];
  disk = w.follows.disk ∙ ap (λ (x : List ℕ). Some x) (text-ready file s ready ∙ sym (append-nil file));
  text = sym (append-nil (text_of s.agent.device));
}

heard-first : {K : Type 0} (laws : Below) (kind : Showing K) (track : Tracking kind) (g : Aim) (file : List ℕ) (s : Session) (met : List (TimedEntry K)) (w : Within kind g file s met) (m : PushPull) (join : Bool) → is_ready s ≡ true → IsRangedPushPull m → kind.which.HearsNoneAbove g.time (aimed g) m join
    → MayEnd w.agent (hear w.agent m join) Kept → HeardFirst kind g file (text_of s.agent.device) s.agent.device met w.agent m join
heard-first {K} laws kind track g file s met w m join ready ranged told ends =
    let i = w.agent in
    let act = Hears m join Kept in
    let j = (ended i (hear i m join) Kept).agent in
    let may_hear : MayAct i act = (ends, omega (arith, ranged.member_clock), λ asks. w.runs) in
    let step = chain-step laws nothing file (text_of s.agent.device) i s.agent.device act (hear i m join) (chain-first kind g file s met w ready) (heard-plain (written_min_line i.config m join) i m join) refl may_hear (omega (arith, ranged.event_clock)) in
    let told_so : i.config ≡ aimed g → kind.which.HearsNoneAbove g.time i.config m join = λ same. subst (λ (c : Config). kind.which.HearsNoneAbove g.time c m join) (sym same) told in
    let goes = acted kind track g i act met w.follows.sound w.durable (record { may = may_hear; keep = omega (arith, ranged.event_clock); go = (may_hear, omega (arith, ranged.event_clock)); same = tt; told = told_so; none = refl }) w.goes in
    let here : Goes kind g met j = subst (λ (l : List (TimedEntry K)). Goes kind g l j) (append-nil met) (subst (λ (l : List (TimedEntry K)). Goes kind g (met ++ l) j) (track.hears i m join) goes) in
    record { all = nothing ⊕ outs i act; chain = step; goes = here }

-- no line fails, so a state is heard unless memory runs out
unheard : {K : Type 0} (kind : Showing K) (g : Aim) (file : List ℕ) (s : Session) (met : List (TimedEntry K)) (w : Within kind g file s met) (m : PushPull) (join : Bool) (new : AgentState) (x : MergeError) → EndsHearing w.agent (hear w.agent m join) s.agent.device new x → x ≡ merges.OutOfMemory
unheard kind g file s met w m join new merges.OutOfMemory ends = refl
unheard kind g file s met w m join new merges.SinkError x =
    let i = w.agent in
    absurd (no-error-heard (written_min_line i.config m join) i m join (x.answers ∙ ap (λ (v : Writing). (ended i (hear i m join) v).answer) (calm-kept i (hear i m join) x.writing w.follows.calm (heard-plain (written_min_line i.config m join) i m join) x.allowed)))
unheard kind g file s met w m join new merges.Stopped x = absurd x
unheard kind g file s met w m join new (merges.Wire v) x = absurd x
unheard kind g file s met w m join new merges.NotPushPull x = absurd x

pub merged-within : {K : Type 0} (laws : Below) (kind : Showing K) (track : Tracking kind) (g : Aim) (file : List ℕ) (s t : Session) (met : List (TimedEntry K)) (w : Within kind g file s met) (code : Code) (packet : List ℕ) (join : Bool) → Says (Merge packet join) s t code → AreBytes packet
    → ((m : PushPull) → decoded packet ≡ Ok (push_pull m) → kind.which.HearsNoneAbove g.time (aimed g) m join) → Within kind g file t (met ++ enters kind (Merge packet join) s t)
merged-within {K} laws kind track g file s t met w code packet join may bytes told = by (is_ready s) refl
  where
    more : List (TimedEntry K)
    more = enters kind (Merge packet join) s t

    unmerged : is_ready s ≡ true → t.agent ≡ s.agent → Within kind g file t (met ++ more)
    unmerged ready same = still kind g file s t met more w (same-agent s t w.agent file ready same (may.1 ready).text w.follows)

    old : List ℕ
    old = text_of s.agent.device

    ends-so : is_ready s ≡ true → KeptEnds kind g file old t.agent (met ++ track.merges (events_in t.call_result)) → Within kind g file t (met ++ more)
    ends-so ready e =
        let c = e.ends.chain in
        record {
          agent = e.ends.agent;
          follows = record { state = e.ends.state; sound = c.sound; calm = c.calm; flushed = c.flushed; disk = c.disk ∙ ap (λ (x : List ℕ). Some x) (sym (text-appends file s t c.more (may.1 ready).text c.text)) };
          durable = c.durable;
          runs = c.runs;
          goes = subst (λ (l : List (TimedEntry K)). Goes kind g (met ++ l) e.ends.agent) (sym (track.merged packet join t.call_result) ∙ made-now (is_ready s) (kind.entered (Merge packet join) t.call_result) ready) e.goes;
        }

    goes-through : (error : Option MergeError) (m : PushPull) → is_ready s ≡ true → decoded packet ≡ Ok (push_pull m) → Merges w.agent m join [] (events_in t.call_result) s.agent.device t.agent error → Within kind g file t (met ++ more)
    goes-through error m ready is merges_it = ends-so ready (subst (λ (es : List EventOut). KeptEnds kind g file old t.agent (met ++ track.merges es)) (sym merges_it.out) (from merges_it.receives))
      where
        ranged : IsRangedPushPull m
        ranged = laws.ranged packet (push_pull m) is

        from : ReceivesAfter w.agent (hear w.agent m join) (events_of m.slots) s.agent.device merges_it.deliveries t.agent error → KeptEnds kind g file old t.agent (met ++ track.merges merges_it.deliveries)
        from (inl r) =
            let h = heard-first laws kind track g file s met w m join ready ranged (told m is) r.0 in
            receives-kept laws kind track g file old (events_of m.slots) h.all met (ended w.agent (hear w.agent m join) Kept).agent (device_after w.agent (hear w.agent m join) s.agent.device) merges_it.deliveries t.agent error h.chain h.goes (slots-come m.slots ranged.slots (laws.bytes packet (push_pull m) bytes is)) r.1
        from (inr r) =
            let x : EndsHearing w.agent (hear w.agent m join) s.agent.device t.agent merges.OutOfMemory = subst (λ (f : MergeError). EndsHearing w.agent (hear w.agent m join) s.agent.device t.agent f) (unheard kind g file s met w m join t.agent r.1.0 r.1.2) r.1.2 in
            record { all = nothing; ends = record { agent = w.agent; state = x.1; chain = subst (λ (y : Device). Chain nothing file old w.agent y) (sym x.2) (chain-first kind g file s met w ready) }; goes = goes-more kind g met (track.merges merges_it.deliveries) w.agent w.goes }

    begun : is_ready s ≡ true → (error : Option MergeError) → error_of t.call_result ≡ Some error → Refused s.agent.concrete.snapshot (decoded packet) → Within kind g file t (met ++ more)
    begun ready error at (refused x is) = let u = may.3 ready error at x is in unmerged ready u.2
    begun ready error at (merged m is runs) = goes-through error m ready is ((may.4 ready error at).1 w.agent m w.follows.sound w.follows.state w.runs is)

    tried-it : is_ready s ≡ true → (o : Option (Option MergeError)) → error_of t.call_result ≡ o → Within kind g file t (met ++ more)
    tried-it ready None at = unmerged ready (may.2 ready at).1
    tried-it ready (Some error) at = begun ready error at (refusal s.agent.concrete.snapshot (decoded packet))

    by : (b : Bool) → is_ready s ≡ b → Within kind g file t (met ++ more)
    by false is = unmoved kind g file s t met more w (may.0 is).1
    by true is = tried-it is (error_of t.call_result) refl

-- ---- what a state delivers

abbrev coming : Aim → EventBody → TimedEntry EventBody
coming g what = record { time = g.time; key = what }

abbrev Comes : Aim → EventBody → List (TimedEntry EventBody) → List EventOut → Type 0
Comes g what met outs = Contains (map event_entry outs) (coming g what) ⊎ IsFull g.settings.per_time g.time (met ++ map event_entry outs) []

receives-comes : (laws : Below) (track : Tracking event_kind) (g : Aim) (what : EventBody) (file old : List ℕ) (es : List (TimedEntry EventBody)) (all : Given) (met : List (TimedEntry EventBody)) (i : IdealAgent) (d : Device) (deliveries : List EventOut) (new : AgentState) (error : Option MergeError) (clock : ℕ) → texts_len what ≤ max_text_bytes
    → Chain all file old i d → Goes event_kind g met i → All CanCome es → Receives i es d deliveries new error → error ≢ Some merges.OutOfMemory → i.events.clock ≤ clock → rising clock es ≤ g.time + g.settings.event_buffer → Contains es (coming g what) → (Contains met (coming g what) → ⊥) → Comes g what met deliveries
receives-comes laws track g what file old [] all met i d deliveries new error clock short c goes can r ended_well low young there unseen = absurd (none-there (coming g what) there)
receives-comes laws track g what file old (x ∷ es) all met i d deliveries new error clock short c (inr full) can r ended_well low young there unseen = inr (full-wider g.settings.per_time g.time met [] (met ++ map event_entry deliveries) [] (adds met (map event_entry deliveries)) full)
receives-comes laws track g what file old (x ∷ es) all met i d deliveries new error clock short c (inl takes) can (inl r) ended_well low young there unseen = elim (same_entry x (coming g what)) [
  | inl same ↦ here same
  | inr differs ↦
      later differs
      (λ step goes within unseen_still. receives-comes laws track g what file old es (all ⊕ only_events (delivered i x)) (met ++ map event_entry (delivered i x)) (after_event i x) (device_after i (receive_one i x) d) r.1.0 new error (observed clock x.time) short step goes (All-tail CanCome x es can) r.1.2 ended_well
      (received-low i x.time clock x.key (admission i x.time x.key) low) young within unseen_still)
]
  where
    first : List (TimedEntry EventBody)
    first = map event_entry (delivered i x)

    rest : List (TimedEntry EventBody)
    rest = map event_entry r.1.0

    both_so : map event_entry deliveries ≡ first ++ rest
    both_so = ap (λ (l : List EventOut). map event_entry l) r.1.1 ∙ map-append event_entry (delivered i x) r.1.0

    here : x ≡ coming g what → Comes g what met deliveries
    here same =
        let time : x.time ≡ g.time = ap (λ (y : TimedEntry EventBody). y.time) same in
        let up = rising-up (observed clock x.time) es in
        elim (track.taking.takes g.time (aimed g) met [] i what c.sound takes short (omega (arith, young, low, time, up)) (unmet met (coming g what) unseen)) [
          | inl none ↦
              (let admitted : admission i x.time x.key ≡ None = subst (λ (y : TimedEntry EventBody). admission i y.time y.key ≡ None) (sym same) none in
              let out : first ≡ x ∷ [] = event-in i x.time x.key false (admission i x.time x.key) admitted in
              let found : Contains first (coming g what) = subst (λ (l : List (TimedEntry EventBody)). Contains l (coming g what)) (sym out) (0, omega arith, same) in
              inl (subst (λ (l : List (TimedEntry EventBody)). Contains l (coming g what)) (sym both_so) (Contains-append_left first rest (coming g what) found)))
          | inr full ↦ inr (full-wider g.settings.per_time g.time met [] (met ++ map event_entry deliveries) [] (adds met (map event_entry deliveries)) full)
        ]

    later : x ≢ coming g what
        → (Chain (all ⊕ only_events (delivered i x)) file old (after_event i x) (device_after i (receive_one i x) d) → Goes event_kind g (met ++ first) (after_event i x) → Contains es (coming g what) → (Contains (met ++ first) (coming g what) → ⊥) → Comes g what (met ++ first) r.1.0) → Comes g what met deliveries
    later differs more =
        let able = All-head CanCome x es can in
        let act = Takes x Kept in
        let may : MayAct i act = (c.runs, able.0, r.0) in
        let step = chain-step laws all file old i d act (receive_one i x) c (one-plain i x) refl may able.1 in
        let goes : Goes event_kind g (met ++ first) (after_event i x) = acted event_kind track g i act met c.sound c.durable (record { may = may; keep = able.1; go = (may, able.1); same = tt; told = λ y. tt; none = refl }) (inl takes) in
        let those = received-outs i x (admission i x.time x.key) in
        let within : Contains es (coming g what) = elim (Contains-append_cases (x ∷ []) es (coming g what) there) [
          | inl now ↦ absurd (differs (sym (only-in x (coming g what) now)))
          | inr found ↦ found
        ] in
        let unseen_still : Contains (met ++ first) (coming g what) → ⊥ = λ seen. elim (Contains-append_cases met first (coming g what) seen) [
          | inl before ↦ unseen before
          | inr now ↦ differs (sym (All-contains (λ (y : TimedEntry EventBody). y ≡ x) first (coming g what) those now))
        ] in
        elim (more step goes within unseen_still) [
          | inl found ↦ inl (subst (λ (l : List (TimedEntry EventBody)). Contains l (coming g what)) (sym both_so) (Contains-append_right first rest (coming g what) found))
          | inr full ↦ inr (subst (λ (l : List (TimedEntry EventBody)). IsFull g.settings.per_time g.time l []) (append_assoc met first rest ∙ ap (λ (l : List (TimedEntry EventBody)). met ++ l) (sym both_so)) full)
        ]
receives-comes laws track g what file old (x ∷ es) all met i d deliveries new error clock short c (inl takes) can (inr r) ended_well low young there unseen = absurd (at r.1.0 r.1.1 r.1.2)
  where
    at : (f : MergeError) → error ≡ Some f → EndsAt i x d new f → ⊥
    at merges.OutOfMemory is y = ended_well is
    at merges.SinkError is y = no-error i x (admission i x.time x.key) (y.answers ∙ ap (λ (w : Writing). (ended i (receive_one i x) w).answer) (calm-kept i (receive_one i x) y.writing c.calm (one-plain i x) y.allowed))
    at merges.Stopped is y = y
    at (merges.Wire w) is y = y
    at merges.NotPushPull is y = y

pub state_offers : Below → Tracking event_kind → StateOffers event_kind
state_offers laws track g what file s t met w packet join code offers says bytes other told short young unseen =
    subst (λ (l : List (TimedEntry EventBody)). Contains l (coming g what) ⊎ IsFull g.settings.per_time g.time (met ++ l) []) (made-now (is_ready s) (map event_entry (events_in t.call_result)) offers.0) (tried (error_of t.call_result) refl)
  where
    i : IdealAgent
    i = w.agent

    held_state : HeldIn (coming g what) (decoded packet)
    held_state = held-in (coming g what) (decoded packet) offers.1

    m : PushPull
    m = held_state.state

    ranged : IsRangedPushPull m
    ranged = laws.ranged packet (push_pull m) held_state.is

    well : (error : Option MergeError) → code ≡ merged_code error → error ≢ Some merges.OutOfMemory
    well error is out = other (is ∙ ap merged_code out)

    low : (ended i (hear i m join) Kept).agent.events.clock ≤ max s.agent.concrete.events.clock m.event_clock
    low = let same = ap (λ (a : ConcreteState). a.events.clock) w.follows.state in heard-low i m join (written_min_line i.config m join) s.agent.concrete.events.clock (omega (arith, same))

    from : (error : Option MergeError) → error ≢ Some merges.OutOfMemory → (deliveries : List EventOut) → ReceivesAfter i (hear i m join) (events_of m.slots) s.agent.device deliveries t.agent error → Comes g what met deliveries
    from error ended_well deliveries (inl r) =
        let h = heard-first laws event_kind track g file s met w m join offers.0 ranged (told m held_state.is) r.0 in
        receives-comes laws track g what file (text_of s.agent.device) (events_of m.slots) h.all met (ended i (hear i m join) Kept).agent (device_after i (hear i m join) s.agent.device) deliveries t.agent error (max s.agent.concrete.events.clock m.event_clock) short h.chain h.goes
        (slots-come m.slots ranged.slots (laws.bytes packet (push_pull m) bytes held_state.is)) r.1 ended_well low
        (subst (λ (r : Result Message WireError). clock_heard s.agent.concrete.events.clock r ≤ g.time + g.settings.event_buffer) held_state.is young) held_state.there unseen
    from error ended_well deliveries (inr r) = absurd (ended_well (r.1.1 ∙ ap (λ (f : MergeError). Some f) (unheard event_kind g file s met w m join t.agent r.1.0 r.1.2)))

    tried : (o : Option (Option MergeError)) → error_of t.call_result ≡ o → Comes g what met (events_in t.call_result)
    tried None at = absurd (other (says.2 offers.0 at).0)
    tried (Some error) at =
        let merge = says.4 offers.0 error at in
        let merges_it = merge.1 i m w.follows.sound w.follows.state w.runs held_state.is in
        subst (λ (es : List EventOut). Comes g what met es) (sym merges_it.out) (from error (well error merge.0) merges_it.deliveries merges_it.receives)
