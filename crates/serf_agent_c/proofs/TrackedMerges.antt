-- What a merge appends to the text of a file.
use Rattle.serf_agent_c.proofs.Names.{AgentState, All, All-head, All-tail, AreBytes, Bool, Call, Code, ConcreteState, Config, Device, EventBody, EventOut, Follows, IdealAgent, IsDurable, IsSound, Kept, List, MayAct, MayKeep, Merge, MergeError, Merges, None, Ok, Option, PushPull, Receives, ReceivesAfter, Says, Session, Some, TimedEntry, Writing, [], admission, after_event, ap, append-nil, append_assoc, arith, cond, decoded, delivered, device_after, ended, error_of, event_entry, events_in, events_of, false, hear, heard_by, is_ready, inl, inr, line_of, map, min_line, push_pull, receive_one, refl, subst, sym, text_of, true, view_of, written_min_line, ℕ, ◌&&◌, ◌++◌, ◌∙◌, ◌∷◌, ◌≡◌, Act, Hears, Takes, EndsAt, EndsHearing, IsFlushed, IsRangedPushPull, no_failure, map-append}
use Rattle.serf_snapshot.specs.declared.kind.ClockKind.TheVariants as kinds
use Rattle.serf_agent.specs.Lives as lives
use Rattle.serf_agent.specs.declared.outcome.MergeError.TheVariants as merges
use Rattle.serf_agent_c.proofs.BurstLaws.{IsPlain, calm-after, calm-kept, device-bytes, runs-after}
use Rattle.serf_agent_c.proofs.HandedOnce.{made-now}
use Rattle.serf_agent_c.proofs.HostLaws.{durable-after, same-agent, text-appends, text-ready}
use Rattle.serf_agent_c.proofs.HostedCalls.{Below}
use Rattle.serf_agent_c.proofs.HostedMerges.{CanCome, Refused, heard-plain, merged, no-error, no-error-heard, one-plain, refusal, refused, slots-come}
use Rattle.serf_agent_c.proofs.TrackedCalls.{Adds, Leads, adds-nothing, adds-unmade, admitted-time, event-leads, leads-config, leads-line, same-replaces}
use Rattle.serf_agent_c.proofs.TrackedLines.{Handling, Hands, hands-both, hands-nothing, hands-silent}
use Rattle.serf_agent_c.specs.TrackedHosts.{result_events}

-- an agent in the middle of a merge, with the lines that it has written since then
pub record Progress (file old : List ℕ) (config : Config) (i : IdealAgent) (d : Device) (es : List (TimedEntry EventBody)) : Type 0 where
  pub sound : IsSound i
  pub durable : IsDurable i
  pub calm : i.snapshot.plan ≡ Some no_failure
  pub runs : i.snapshot.stopped ≡ false
  pub flushed : IsFlushed d
  pub more : List ℕ
  pub disk : i.snapshot.durable ≡ Some (file ++ more)
  pub text : text_of d ≡ old ++ more
  pub hands : Hands more es
  pub config_is : i.config ≡ config

pub record ProgressEnds (file old : List ℕ) (config : Config) (new : AgentState) (es : List (TimedEntry EventBody)) : Type 0 where
  pub agent : IdealAgent
  pub state : new.concrete ≡ view_of agent
  pub progress : Progress file old config agent new.device es

progress-step : {R : Type 0} (below : Below) (laws : Handling) (file old : List ℕ) (config : Config) (i : IdealAgent) (d : Device) (es new : List (TimedEntry EventBody)) (act : Act) (call : Call R) → Progress file old config i d es → IsPlain i call → Leads i call new → lives.after i act ≡ (ended i call Kept).agent → MayAct i act → MayKeep i act
    → Progress file old config (ended i call Kept).agent (device_after i call d) (es ++ new)
progress-step below laws file old config i d es new act call c plain leads is may keep =
    let bytes = device-bytes i call d plain c.flushed in
    let line = line_of i call in
    record {
      sound = subst IsSound is (below.sound i act c.sound may);
      durable = subst IsDurable is (below.durable i act c.sound c.durable may keep);
      calm = calm-after i call c.calm plain;
      runs = runs-after i call plain c.runs;
      flushed = bytes.1;
      more = c.more ++ line;
      disk = durable-after i call (file ++ c.more) plain c.disk ∙ ap (λ (x : List ℕ). Some x) (append_assoc file c.more line);
      text = bytes.0 ∙ ap (λ (xs : List ℕ). xs ++ line) c.text ∙ append_assoc old c.more line;
      hands = hands-both c.more line es new c.hands (leads-line laws i call new leads);
      config_is = leads-config i call new leads ∙ c.config_is;
    }

receives-progress : (below : Below) (laws : Handling) (file old : List ℕ) (config : Config) → config.keep_events ≡ true → (coming : List (TimedEntry EventBody)) (es : List (TimedEntry EventBody)) (i : IdealAgent) (d : Device) (deliveries : List EventOut) (new : AgentState) (error : Option MergeError)
    → Progress file old config i d es → All CanCome coming → Receives i coming d deliveries new error → ProgressEnds file old config new (es ++ map event_entry deliveries)
receives-progress below laws file old config keeps [] es i d deliveries new error c can r =
    subst (ProgressEnds file old config new) (sym (ap (λ (l : List EventOut). es ++ map event_entry l) r.0 ∙ append-nil es))
    (record { agent = i; state = r.1; progress = subst (λ (e : Device). Progress file old config i e es) (sym r.2) c })
receives-progress below laws file old config keeps (e ∷ coming) es i d deliveries new error c can (inl r) =
    let here = All-head CanCome e coming can in
    let first = map event_entry (delivered i e) in
    let leads : Leads i (receive_one i e) first = event-leads i (admission i e.time e.key) e.time e.key false (ap (λ (x : Config). x.keep_events) c.config_is ∙ keeps) (admitted-time i e.time e.key c.durable) here.0 here.1 in
    let step = progress-step below laws file old config i d es first (Takes e Kept) (receive_one i e) c (one-plain i e) leads refl (c.runs, here.0, r.0) here.1 in
    let rest = receives-progress below laws file old config keeps coming (es ++ first) (after_event i e) (device_after i (receive_one i e) d) r.1.0 new error step (All-tail CanCome e coming can) r.1.2 in
    subst (ProgressEnds file old config new) (append_assoc es first (map event_entry r.1.0) ∙ ap (λ (l : List (TimedEntry EventBody)). es ++ l) (sym (map-append event_entry (delivered i e) r.1.0) ∙ ap (λ (l : List EventOut). map event_entry l) (sym r.1.1))) rest
receives-progress below laws file old config keeps (e ∷ coming) es i d deliveries new error c can (inr r) =
    subst (ProgressEnds file old config new) (sym (ap (λ (l : List EventOut). es ++ map event_entry l) r.0 ∙ append-nil es)) (at r.1.0 r.1.2)
  where
    at : (f : MergeError) → EndsAt i e d new f → ProgressEnds file old config new es
    at merges.OutOfMemory x = record { agent = i; state = x.1; progress = subst (λ (y : Device). Progress file old config i y es) (sym x.2) c }
    at merges.SinkError x = absurd (no-error i e (admission i e.time e.key) (x.answers ∙ ap (λ (w : Writing). (ended i (receive_one i e) w).answer) (calm-kept i (receive_one i e) x.writing c.calm (one-plain i e) x.allowed)))
    at merges.Stopped x = absurd x
    at (merges.Wire f) x = absurd x
    at merges.NotPushPull x = absurd x

heard-leads : Handling → (b : Bool) (i : IdealAgent) (m : PushPull) (join : Bool) → Leads i (heard_by (cond b (Some (min_line kinds.Event m.event_clock)) None) i m join) []
heard-leads laws true i m join = (hands-silent (min_line kinds.Event m.event_clock) (laws.silent_min_line kinds.Event m.event_clock), refl)
heard-leads laws false i m join = (refl, refl)

pub merged-adds : Below → Handling → (i : IdealAgent) (file : List ℕ) (s t : Session) (code : Code) (packet : List ℕ) (join : Bool) → Follows i file s → IsDurable i → i.config.keep_events ≡ true → Says (Merge packet join) s t code → AreBytes packet → Adds file s t (result_events s t)
merged-adds below laws i file s t code packet join f d keeps may bytes = by (is_ready s) refl
  where
    events : List (TimedEntry EventBody)
    events = map event_entry (events_in t.call_result)

    now : is_ready s ≡ true → events ≡ result_events s t
    now ready = made-now (is_ready s) events ready

    idle-so : is_ready s ≡ true → t.agent ≡ s.agent → events_in t.call_result ≡ [] → Adds file s t (result_events s t)
    idle-so ready same none =
        let tells = may.1 ready in
        adds-nothing file s t (result_events s t) i i f (same-agent s t i file ready same tells.text f) refl refl (same-replaces s t ready tells.text) (sym (now ready) ∙ ap (λ (es : List EventOut). map event_entry es) none)

    old : List ℕ
    old = text_of s.agent.device

    first : is_ready s ≡ true → i.snapshot.stopped ≡ false → Progress file old i.config i s.agent.device []
    first ready runs = record {
      sound = f.sound;
      durable = d;
      calm = f.calm;
      runs = runs;
      flushed = f.flushed;
      more = [];
      disk = f.disk ∙ ap (λ (x : List ℕ). Some x) (text-ready file s ready ∙ sym (append-nil file));
      text = sym (append-nil old);
      hands = hands-nothing;
      config_is = refl;
    }

    ends-so : is_ready s ≡ true → ProgressEnds file old i.config t.agent events → Adds file s t (result_events s t)
    ends-so ready e =
        let c = e.progress in
        let tells = may.1 ready in
        record {
          more = c.more;
          text = text-appends file s t c.more tells.text c.text ∙ ap (λ (x : List ℕ). x ++ c.more) (sym (text-ready file s ready));
          hands = subst (Hands c.more) (now ready) c.hands;
          config = ap (λ (a : ConcreteState). a.config) e.state ∙ c.config_is ∙ sym (ap (λ (a : ConcreteState). a.config) f.state);
          replaces = same-replaces s t ready tells.text;
        }

    goes-through : (error : Option MergeError) (m : PushPull) → is_ready s ≡ true → i.snapshot.stopped ≡ false → decoded packet ≡ Ok (push_pull m) → Merges i m join [] (events_in t.call_result) s.agent.device t.agent error → Adds file s t (result_events s t)
    goes-through error m ready runs is merges_it = ends-so ready (subst (λ (es : List EventOut). ProgressEnds file old i.config t.agent (map event_entry es)) (sym merges_it.out) (from merges_it.receives))
      where
        ranged : IsRangedPushPull m
        ranged = below.ranged packet (push_pull m) is

        can : All CanCome (events_of m.slots)
        can = slots-come m.slots ranged.slots (below.bytes packet (push_pull m) bytes is)

        from : ReceivesAfter i (hear i m join) (events_of m.slots) s.agent.device merges_it.deliveries t.agent error → ProgressEnds file old i.config t.agent (map event_entry merges_it.deliveries)
        from (inl r) =
            let act = Hears m join Kept in
            let step = progress-step below laws file old i.config i s.agent.device [] [] act (hear i m join) (first ready runs) (heard-plain (written_min_line i.config m join) i m join) (heard-leads laws (i.config.keep_events && (join && i.config.ignore_old)) i m join) refl (r.0, omega (arith, ranged.member_clock), λ asks. runs) (omega (arith, ranged.event_clock)) in
            receives-progress below laws file old i.config keeps (events_of m.slots) [] (ended i (hear i m join) Kept).agent (device_after i (hear i m join) s.agent.device) merges_it.deliveries t.agent error step can r.1
        from (inr r) = subst (ProgressEnds file old i.config t.agent) (sym (ap (λ (l : List EventOut). map event_entry l) r.0)) (at r.1.0 r.1.2)
          where
            at : (x : MergeError) → EndsHearing i (hear i m join) s.agent.device t.agent x → ProgressEnds file old i.config t.agent []
            at merges.OutOfMemory x = record { agent = i; state = x.1; progress = subst (λ (y : Device). Progress file old i.config i y []) (sym x.2) (first ready runs) }
            at merges.SinkError x = absurd (no-error-heard (written_min_line i.config m join) i m join (x.answers ∙ ap (λ (w : Writing). (ended i (hear i m join) w).answer) (calm-kept i (hear i m join) x.writing f.calm (heard-plain (written_min_line i.config m join) i m join) x.allowed)))
            at merges.Stopped x = absurd x
            at (merges.Wire w) x = absurd x
            at merges.NotPushPull x = absurd x

    begun : is_ready s ≡ true → (error : Option MergeError) → error_of t.call_result ≡ Some error → Refused s.agent.concrete.snapshot (decoded packet) → Adds file s t (result_events s t)
    begun ready error at (refused x is) = let u = may.3 ready error at x is in idle-so ready u.2 u.1
    begun ready error at (merged m is runs) =
        let stays : i.snapshot.stopped ≡ false = sym (ap (λ (a : ConcreteState). a.snapshot.stopped) f.state) ∙ runs in
        goes-through error m ready stays is ((may.4 ready error at).1 i m f.sound f.state stays is)

    tried-it : is_ready s ≡ true → (o : Option (Option MergeError)) → error_of t.call_result ≡ o → Adds file s t (result_events s t)
    tried-it ready None at = let u = may.2 ready at in idle-so ready u.1 u.2.0.events
    tried-it ready (Some error) at = begun ready error at (refusal s.agent.concrete.snapshot (decoded packet))

    by : (b : Bool) → is_ready s ≡ b → Adds file s t (result_events s t)
    by false is = adds-unmade file s t (result_events s t) (may.0 is).1 (ap (λ (b : Bool). cond b events []) is)
    by true is = tried-it is (error_of t.call_result) refl
