-- Events of a push/pull, one after another.
use Rattle.serf_agent.proofs.Names.{Bool, Err, List, None, Ok, Option, Some, [], ap, append-nil, append_assoc, arith, false, inl, inr, nat_le, refl, subst, sym, ℕ, ◌++◌, ◌-◌, ◌<◌, ◌^◌, ◌∙◌, ◌∷◌, ◌≡◌, ◌≢◌, cases_Bool, leb-false, PushPull, push_pull, EventBody, Device, FailsLine, Failed, Kept, SnapshotView, AppendLineError, TimedEntry, AsksSink, MayEnd, ended, device_after, admission, event_entered, event_observed, event_out, received_as, written_event, merge_error_of, IdealAgent, with_snapshot, GoesOn, GoesWrong, HasHeard, HasReceived, Received, SnapshotLaws, IsSound, EndsHearing, Merges, Receives, after_event, delivered, events_of, handed_by, hear, heard_by, joined, receive_one, written_min_line, EndsAppendLine, FailsAppendLine, Steps, AreQuiet, MayAppendLine, bytes_with, device_appended, appended_with, AgentState, ConcreteState, concrete_with, view_of, EventOut, MergeError, Reason, SinkError}
use Rattle.serf_snapshot.specs.declared.kind.ClockKind.TheVariants as kinds
use Rattle.serf_snapshot.specs.declared.snapshot.AppendLineError.TheVariants as notes
use Rattle.serf_agent.specs.declared.outcome.MergeError.TheVariants as merges
use Rattle.serf_agent.proofs.AppendLineLaws.{stopped-noted}
use Rattle.serf_agent.proofs.SoundLaws.{admission-new, quiet-lowest, sound-event_entered, sound-event_observed, sound-told}
use Rattle.serf_agent.proofs.StepLaws.{steps-failed}
use Rattle.serf_agent.proofs.ViewLaws.{failed-view}

-- the start of a list, when no event was received yet
pub goes-start : (i : IdealAgent) (now : AgentState) → IsSound i → i.snapshot.stopped ≡ false → now.concrete ≡ view_of i → GoesOn i [] now.device [] now
goes-start i now sound runs state = record { agent = i; state = state; sound = sound; runs = runs; follows = λ rest more last error r. r }

-- receiving one list of events, and then another
pub goes-then : (i : IdealAgent) (es fs : List (TimedEntry EventBody)) (old : Device) (g h : List EventOut) (mid new : AgentState) (first : GoesOn i es old g mid) → GoesOn first.agent fs mid.device h new → GoesOn i (es ++ fs) old (g ++ h) new
goes-then i es fs old g h mid new first second = record {
  agent = second.agent;
  state = second.state;
  sound = second.sound;
  runs = second.runs;
  follows = λ rest more last error r.
      let joined = first.follows (fs ++ rest) (h ++ more) last error (second.follows rest more last error r) in
      subst (λ (l : List (TimedEntry EventBody)). Receives i l old ((g ++ h) ++ more) last error) (sym (append_assoc es fs rest)) (subst (λ (l : List EventOut). Receives i (es ++ (fs ++ rest)) old l last error) (sym (append_assoc g h more)) joined);
}

pub goes-wrong : (i : IdealAgent) (es fs : List (TimedEntry EventBody)) (old : Device) (g h : List EventOut) (mid new : AgentState) (error : MergeError) (first : GoesOn i es old g mid) → GoesWrong first.agent fs mid.device h new error → GoesWrong i (es ++ fs) old (g ++ h) new error
goes-wrong i es fs old g h mid new error first second = λ rest.
    let joined = first.follows (fs ++ rest) h new (Some error) (second rest) in
    subst (λ (l : List (TimedEntry EventBody)). Receives i l old (g ++ h) new (Some error)) (sym (append_assoc es fs rest)) joined

-- the end of a list, when all events were received
pub goes-all : (i : IdealAgent) (es : List (TimedEntry EventBody)) (old : Device) (g : List EventOut) (new : AgentState) → GoesOn i es old g new → Receives i es old g new None
goes-all i es old g new goes =
    let all = goes.follows [] [] new None (refl, goes.state, refl, goes.sound, refl) in
    subst (λ (l : List (TimedEntry EventBody)). Receives i l old g new None) (append-nil es) (subst (λ (l : List EventOut). Receives i (es ++ []) old l new None) (append-nil g) all)

pub wrong-all : (i : IdealAgent) (es : List (TimedEntry EventBody)) (old : Device) (g : List EventOut) (new : AgentState) (error : MergeError) → GoesWrong i es old g new error → Receives i es old g new (Some error)
wrong-all i es old g new error wrong = subst (λ (l : List (TimedEntry EventBody)). Receives i l old g new (Some error)) (append-nil es) (wrong [])

-- ---- one event

after_event-is : (i : IdealAgent) (e : TimedEntry EventBody) (r : Option Reason) → admission i e.time e.key ≡ r → after_event i e ≡ (ended i (received_as r i e.time e.key false) Kept).agent
after_event-is i e r says = ap (λ (o : Option Reason). (ended i (received_as o i e.time e.key false) Kept).agent) says

delivered-is : (i : IdealAgent) (e : TimedEntry EventBody) (r : Option Reason) → admission i e.time e.key ≡ r → delivered i e ≡ handed_by (ended i (received_as r i e.time e.key false) Kept).answer
delivered-is i e r says = ap (λ (o : Option Reason). handed_by (ended i (received_as o i e.time e.key false) Kept).answer) says

device-is : (i : IdealAgent) (e : TimedEntry EventBody) (old : Device) (r : Option Reason) → admission i e.time e.key ≡ r → device_after i (receive_one i e) old ≡ device_after i (received_as r i e.time e.key false) old
device-is i e old r says = ap (λ (o : Option Reason). device_after i (received_as o i e.time e.key false) old) says

-- receiving one event, whose line is durable
goes-one : (i : IdealAgent) (e : TimedEntry EventBody) (old : Device) (g : List EventOut) (j : IdealAgent) (new : AgentState) → MayEnd i (receive_one i e) Kept → delivered i e ≡ g → after_event i e ≡ j → new.concrete ≡ view_of j → new.device ≡ device_after i (receive_one i e) old → IsSound j → j.snapshot.stopped ≡ false → GoesOn i (e ∷ []) old g new
goes-one i e old g j new may deliveries is state device sound runs = record {
  agent = j;
  state = state;
  sound = sound;
  runs = runs;
  follows = λ rest more last error r.
      let after = subst (λ (k : IdealAgent). Receives k rest new.device more last error) (sym is) r in
      inl (may, (more, ap (λ (l : List EventOut). l ++ more) (sym deliveries), subst (λ (d : Device). Receives (after_event i e) rest d more last error) device after));
}

pub goes-ignored : (i : IdealAgent) (t : ℕ) (what : EventBody) (reason : Reason) (old : Device) (new : AgentState) → IsSound i → i.snapshot.stopped ≡ false → admission i t what ≡ Some reason → new.concrete ≡ view_of (event_observed t i) → new.device ≡ old → GoesOn i (record { time = t; key = what } ∷ []) old [] new
goes-ignored i t what reason old new sound runs says state device =
    let e : TimedEntry EventBody = record { time = t; key = what } in
    goes-one i e old [] (event_observed t i) new (subst (λ (r : Option Reason). MayEnd i (received_as r i t what false) Kept) (sym says) refl) (delivered-is i e (Some reason) says) (after_event-is i e (Some reason) says) state (device ∙ sym (device-is i e old (Some reason) says)) (sound-event_observed t i sound) runs

pub goes-entered : SnapshotLaws → (i : IdealAgent) (t : ℕ) (what : EventBody) (old : Device) (new : AgentState) → IsSound i → i.snapshot.stopped ≡ false → t < 2 ^ 64 - 1 → admission i t what ≡ None → MayAppendLine kinds.Event t (written_event i.config t what) i.snapshot Kept
    → new.concrete ≡ view_of (with_snapshot (appended_with kinds.Event t (written_event i.config t what) i.snapshot Kept) (event_entered t what i)) → new.device ≡ device_appended kinds.Event t (written_event i.config t what) i.snapshot old → GoesOn i (record { time = t; key = what } ∷ []) old (event_out t what false ∷ []) new
goes-entered snapshots i t what old new sound runs small says may state device =
    let e : TimedEntry EventBody = record { time = t; key = what } in
    let parts = admission-new i t what says in
    goes-one i e old (event_out t what false ∷ []) (with_snapshot (appended_with kinds.Event t (written_event i.config t what) i.snapshot Kept) (event_entered t what i)) new (subst (λ (r : Option Reason). MayEnd i (received_as r i t what false) Kept) (sym says) may) (delivered-is i e None says) (after_event-is i e None says) state
    (device ∙ sym (device-is i e old None says)) (sound-event_entered snapshots t what i sound runs small parts.0 parts.1) (stopped-noted kinds.Event t (written_event i.config t what) i.snapshot ∙ runs)

pub wrong-memory : (i : IdealAgent) (t : ℕ) (what : EventBody) (old : Device) (new : AgentState) → IsSound i → admission i t what ≡ None → new.concrete ≡ view_of i → new.device ≡ old → GoesWrong i (record { time = t; key = what } ∷ []) old [] new merges.OutOfMemory
wrong-memory i t what old new sound says state device = λ rest. inr (refl, (merges.OutOfMemory, refl, (subst (λ (r : Option Reason). AsksSink (received_as r i t what false)) (sym says) tt, state, device, sound)))

pub wrong-line : (i : IdealAgent) (t : ℕ) (what : EventBody) (old : Device) (new : AgentState) → Steps i (receive_one i (record { time = t; key = what })) (Err SinkError) old new → GoesWrong i (record { time = t; key = what } ∷ []) old [] new merges.SinkError
wrong-line i t what old new steps = λ rest. inr (refl, (merges.SinkError, refl, steps))

-- ---- parts of a list

pub received-ignored : (i : IdealAgent) (es : List (TimedEntry EventBody)) (before after : List EventOut) (old : Device) (new : AgentState) → after ≡ before → GoesOn i es old [] new → Received i es before after old new (Ok tt)
received-ignored i es before after old new same goes = record { deliveries = []; out = same ∙ sym (append-nil before); went = goes }

pub received-entered : (i : IdealAgent) (es : List (TimedEntry EventBody)) (before after : List EventOut) (out handed : EventOut) (old : Device) (new : AgentState) → after ≡ before ++ out ∷ [] → out ≡ handed → GoesOn i es old (handed ∷ []) new → Received i es before after old new (Ok tt)
received-entered i es before after out handed old new added is goes = record { deliveries = handed ∷ []; out = added ∙ ap (λ (o : EventOut). before ++ o ∷ []) is; went = goes }

pub received-wrong : (i : IdealAgent) (es : List (TimedEntry EventBody)) (before after : List EventOut) (old : Device) (new : AgentState) (error : MergeError) → after ≡ before → GoesWrong i es old [] new error → Received i es before after old new (Err error)
received-wrong i es before after old new error same wrong = record { deliveries = []; out = same ∙ sym (append-nil before); went = wrong }

pub has-start : (i : IdealAgent) (all : List (TimedEntry EventBody)) (before : List EventOut) (now : AgentState) → IsSound i → i.snapshot.stopped ≡ false → now.concrete ≡ view_of i → HasReceived i all all before before now.device now
has-start i all before now sound runs state = record { done = []; split = refl; deliveries = []; out = sym (append-nil before); goes = goes-start i now sound runs state }

pub has-more : (i : IdealAgent) (all part left : List (TimedEntry EventBody)) (before mid after : List EventOut) (old : Device) (now new : AgentState) (has : HasReceived i all (part ++ left) before mid old now) → Received has.goes.agent part mid after now.device new (Ok tt) → HasReceived i all left before after old new
has-more i all part left before mid after old now new has more = record {
  done = has.done ++ part;
  split = append_assoc has.done part left ∙ has.split;
  deliveries = has.deliveries ++ more.deliveries;
  out = more.out ∙ ap (λ (l : List EventOut). l ++ more.deliveries) has.out ∙ append_assoc before has.deliveries more.deliveries;
  goes = goes-then i has.done part old has.deliveries more.deliveries now new has.goes more.went;
}

wrong-longer : (i : IdealAgent) (es fs : List (TimedEntry EventBody)) (old : Device) (g : List EventOut) (new : AgentState) (error : MergeError) → GoesWrong i es old g new error → GoesWrong i (es ++ fs) old g new error
wrong-longer i es fs old g new error wrong = λ rest. subst (λ (l : List (TimedEntry EventBody)). Receives i l old g new (Some error)) (sym (append_assoc es fs rest)) (wrong (fs ++ rest))

pub has-wrong : (i : IdealAgent) (all part left : List (TimedEntry EventBody)) (before mid after : List EventOut) (old : Device) (now new : AgentState) (error : MergeError) (has : HasReceived i all (part ++ left) before mid old now) → Received has.goes.agent part mid after now.device new (Err error) → Received i all before after old new (Err error)
has-wrong i all part left before mid after old now new error has more = record {
  deliveries = has.deliveries ++ more.deliveries;
  out = more.out ∙ ap (λ (l : List EventOut). l ++ more.deliveries) has.out ∙ append_assoc before has.deliveries more.deliveries;
  went = subst (λ (l : List (TimedEntry EventBody)). GoesWrong i l old (has.deliveries ++ more.deliveries) new error) (append_assoc has.done part left ∙ has.split)
      (wrong-longer i (has.done ++ part) left old (has.deliveries ++ more.deliveries) new error (goes-wrong i has.done part old has.deliveries more.deliveries now new error has.goes more.went));
}

-- ---- merging the clocks of a push/pull

-- the call needs memory if there is a line to append
asks-line : (line : Option (List ℕ)) (i : IdealAgent) (m : PushPull) (is_join : Bool) → line ≢ None → AsksSink (heard_by line i m is_join)
asks-line None i m is_join some = absurd (some refl)
asks-line (Some line) i m is_join some = tt

pub heard-memory : (i : IdealAgent) (m : PushPull) (is_join : Bool) (old : Device) (new : AgentState) → IsSound i → written_min_line i.config m is_join ≢ None → new.concrete ≡ view_of i → new.device ≡ old → EndsHearing i (hear i m is_join) old new merges.OutOfMemory
heard-memory i m is_join old new sound some state device = (asks-line (written_min_line i.config m is_join) i m is_join some, state, device, sound)

-- merging the clocks failed because the line couldn't be appended
pub heard-wrong : SnapshotLaws → (i : IdealAgent) (m : PushPull) (is_join : Bool) (old new : AgentState) (error : AppendLineError) → IsSound i → old.concrete ≡ view_of i → written_min_line i.config m is_join ≢ None → EndsAppendLine kinds.Event 0 (written_min_line i.config m is_join) old new error
    → EndsHearing i (hear i m is_join) old.device new (merge_error_of error)
heard-wrong snapshots i m is_join old new notes.Stopped sound is some ends = absurd ends
heard-wrong snapshots i m is_join old new notes.OutOfMemory sound is some ends = heard-memory i m is_join old.device new sound some (ap (λ (a : AgentState). a.concrete) ends ∙ is) (ap (λ (a : AgentState). a.device) ends)
heard-wrong snapshots i m is_join old new notes.SinkError sound is some ends = by (written_min_line i.config m is_join) some ends
  where
    by : (line : Option (List ℕ)) → line ≢ None → FailsAppendLine kinds.Event 0 line old new → Steps i (heard_by line i m is_join) (Err merges.SinkError) old.device new
    by None some e = absurd (some refl)
    by (Some line) some e =
        let durable = new.concrete.snapshot.durable in
        let may = subst (λ (s : ConcreteState). MayAppendLine kinds.Event 0 (Some line) s.snapshot (Failed durable)) is e.allowed in
        let device = subst (λ (s : ConcreteState). FailsLine old.device new.device (bytes_with kinds.Event 0 (Some line) s.snapshot)) is e.device in
        steps-failed snapshots i kinds.Event 0 (Some line) _ _ (Err merges.SinkError) old.device new durable sound may refl (failed-view i old.concrete new.concrete kinds.Event 0 durable is e.failed) device

-- if there is no line, nothing is appended
none-noted : (s : SnapshotView) → appended_with kinds.Event 0 None s Kept ≡ s
none-noted s = elim (cases_Bool (nat_le 0 s.event_clock)) [ inl low ↦ rw low refl | inr high ↦ absurd (let below : s.event_clock < 0 = leb-false _ _ high in omega arith) ]

none-device : (s : SnapshotView) (d : Device) → device_appended kinds.Event 0 None s d ≡ d
none-device s d = elim (cases_Bool (nat_le 0 s.event_clock)) [ inl low ↦ rw low refl | inr high ↦ absurd (let below : s.event_clock < 0 = leb-false _ _ high in omega arith) ]

-- merging the clocks after the line is durable
pub heard-kept : SnapshotLaws → (i : IdealAgent) (m : PushPull) (is_join : Bool) (old : Device) (mid new : AgentState) → IsSound i → i.snapshot.stopped ≡ false → (let line = written_min_line i.config m is_join in MayAppendLine kinds.Event 0 line i.snapshot Kept
    → mid.concrete ≡ concrete_with (appended_with kinds.Event 0 line i.snapshot Kept) (view_of i)
    → new.device ≡ device_appended kinds.Event 0 line i.snapshot old
    → ((j : IdealAgent) → IsSound j → mid.concrete ≡ view_of j → (new.concrete ≡ view_of (joined m is_join j)) × IsSound (joined m is_join j))
    → HasHeard i (hear i m is_join) old new)
heard-kept snapshots i m is_join old mid new sound runs may noted device joins = by (written_min_line i.config m is_join) (quiet-lowest snapshots i.config m is_join) may noted device
  where
    by : (line : Option (List ℕ)) → AreQuiet line → MayAppendLine kinds.Event 0 line i.snapshot Kept → mid.concrete ≡ concrete_with (appended_with kinds.Event 0 line i.snapshot Kept) (view_of i) → new.device ≡ device_appended kinds.Event 0 line i.snapshot old → HasHeard i (heard_by line i m is_join) old new
    by None quiet may noted device =
        let j = joins i sound (noted ∙ ap (λ (s : SnapshotView). concrete_with s (view_of i)) (none-noted i.snapshot)) in
        record { allowed = refl; state = j.0; sound = j.1; device = device ∙ none-device i.snapshot old }
    by (Some line) quiet may noted device =
        let j = joins (with_snapshot (appended_with kinds.Event 0 (Some line) i.snapshot Kept) i) (sound-told snapshots line i sound runs quiet) noted in
        record { allowed = may; state = j.0; sound = j.1; device = device }

-- ---- a whole push/pull

-- a push/pull whose clocks were merged over this device, and whose events were then received
pub merges-all : (i : IdealAgent) (m : PushPull) (is_join : Bool) (before after : List EventOut) (old : Device) (mid new : AgentState) (done : Unit {0}) → HasHeard i (hear i m is_join) old mid → Received (ended i (hear i m is_join) Kept).agent (events_of m.slots) before after mid.device new (Ok done)
    → Merges i m is_join before after old new None
merges-all i m is_join before after old mid new done h r =
    let agent = (ended i (hear i m is_join) Kept).agent in
    let all = goes-all agent (events_of m.slots) mid.device r.deliveries new r.went in
    record { deliveries = r.deliveries; out = r.out; receives = inl (h.allowed, subst (λ (d : Device). Receives agent (events_of m.slots) d r.deliveries new None) h.device all) }

pub merges-wrong : (i : IdealAgent) (m : PushPull) (is_join : Bool) (before after : List EventOut) (old : Device) (mid new : AgentState) (error : MergeError) → HasHeard i (hear i m is_join) old mid → Received (ended i (hear i m is_join) Kept).agent (events_of m.slots) before after mid.device new (Err error)
    → Merges i m is_join before after old new (Some error)
merges-wrong i m is_join before after old mid new error h r =
    let agent = (ended i (hear i m is_join) Kept).agent in
    let wrong = wrong-all agent (events_of m.slots) mid.device r.deliveries new error r.went in
    record { deliveries = r.deliveries; out = r.out; receives = inl (h.allowed, subst (λ (d : Device). Receives agent (events_of m.slots) d r.deliveries new (Some error)) h.device wrong) }

-- a push/pull of which nothing was merged
pub merges-none : (i : IdealAgent) (m : PushPull) (is_join : Bool) (before after : List EventOut) (old : Device) (new : AgentState) (error : MergeError) → after ≡ before → EndsHearing i (hear i m is_join) old new error → Merges i m is_join before after old new (Some error)
merges-none i m is_join before after old new error same ends = record { deliveries = []; out = same ∙ sym (append-nil before); receives = inr (refl, (error, refl, ends)) }

pub same-push_pull : (a b : PushPull) → push_pull a ≡ push_pull b → a ≡ b
same-push_pull a b is = cc
