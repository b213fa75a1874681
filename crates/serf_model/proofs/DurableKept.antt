-- If an agent keeps its events, its durable text has everything that it entered, whatever it does.
use Rattle.serf_model.proofs.Names.{Bool, IsSome, List, None, Option, Some, [], ap, arith, false, refl, subst, sym, true, unwrap_or, ℕ, ◌++◌, ◌-◌, ◌<◌, ◌^◌, ◌∙◌, ◌≡◌, ◌≤◌, PushPull, IsRangedPushPull, EventBody, last_clock, FailurePlan, TimedEntry, planned, IdealAgent, IsDurable, MayGoOn, StartsWithDurable, HasKept, IsWritable, HasFlushed, Opens, hear, receive_one, Below, IdealNode, apply, text_after, with_plan, IsConsistent, IsRepresentable, CanTellAct, given_by, Act}
use Rattle.serf_snapshot.specs.declared.kind.ClockKind.TheVariants as kinds
use Rattle.serf_agent.specs.Lives.{Act as LifeAct, after}
use Rattle.serf_model.specs.declared.action.Act.TheVariants as acts
use Rattle.serf_model.proofs.InvariantKept.{text-kept}
use Rattle.serf_model.proofs.LifeActs.{FitsAct, Keeping, acts-keep, kept-heard, kept-received, nothing-splits}
use Rattle.serf_model.proofs.ReadyLaws.{IsReady}

-- ---- each act of a life

-- the durable text followed by a tail has what was flushed
flushed : Below → (i : IdealAgent) (tail : List ℕ) → IsConsistent i → HasFlushed i (text_after i tail)
flushed lower i tail consistent = by i.snapshot.durable refl consistent.observable.durable
  where
    by : (k : Option (List ℕ)) → i.snapshot.durable ≡ k → IsSome k → HasFlushed i (unwrap_or k [] ++ tail)
    by None is none = absurd (cc none)
    by (Some durable) is some =
        let has = consistent.sound.snapshot durable is in
        let event_clock : i.snapshot.event_clock ≤ last_clock kinds.Event durable = has.at_least kinds.Event in
        let query_clock : i.snapshot.query_clock ≤ last_clock kinds.Query durable = has.at_least kinds.Query in
        record { events = omega (arith, event_clock, lower.clock_grows kinds.Event durable tail); queries = omega (arith, query_clock, lower.clock_grows kinds.Query durable tail) }

pub durable-step : Below → (i : IdealAgent) (x : LifeAct) → IsReady i → IsDurable i → MayGoOn i x → IsDurable (after i x)
durable-step lower i (Opens config text d) r durable go =
    let start : StartsWithDurable i text = go.1 in
    let same : text_after i start.tail ≡ text = ap (λ (k : Option (List ℕ)). unwrap_or k [] ++ start.tail) start.is ∙ sym start.whole in
    let had : HasKept i text = subst (HasKept i) same (text-kept lower i start.tail r.consistent durable) in
    lower.keeps.stays i (Opens config text d) r.consistent.sound durable (subst (HasFlushed i) same (flushed lower i start.tail r.consistent), go.0, λ keeps. had) had
durable-step lower i x r durable go = lower.keeps.stays i x r.consistent.sound durable go.0 go.1

-- the same with another plan of failures
pub durable-planned : (i : IdealAgent) (change : FailurePlan → FailurePlan) → IsDurable i → IsDurable (with_plan change i)
durable-planned i change d = record {
  kept = λ durable at. let h = d.kept durable at in record { events = h.events; queries = h.queries };
  said = λ none durable at. let h = d.said none durable at in record { kept = record { events = h.kept.events; queries = h.kept.queries }; events = h.events; queries = h.queries };
  times = record { member_clock = d.times.member_clock; event_clock = d.times.event_clock; query_clock = d.times.query_clock };
  events_written = d.events_written;
  queries_written = d.queries_written;
  events_min = d.events_min;
  queries_min = d.queries_min;
}

-- ---- each action

abbrev durable-keeping : Below → Keeping
durable-keeping lower = record {
  Has = IsDurable;
  Fits = λ i x. Unit {0};
  Handing = λ outs. Unit {0};
  step = λ i x r durable go fits. durable-step lower i x r durable go;
  takes = λ i e w outs. tt;
  splits = nothing-splits;
  replanned = durable-planned;
}

-- an agent that receives an event, and an agent that merges the clocks of a state
pub durable-received : Below → (i : IdealAgent) (e : TimedEntry EventBody) → IsReady i → IsDurable i → i.snapshot.stopped ≡ false → e.time < 2 ^ 64 - 1 → IsWritable e.key → IsDurable (planned i (receive_one i e)).agent
durable-received lower i e r d runs small told = kept-received (durable-keeping lower) i e r runs small told tt d

pub durable-heard : Below → (i : IdealAgent) (s : PushPull) (join : Bool) → IsReady i → IsDurable i → i.snapshot.stopped ≡ false → IsRangedPushPull s → IsDurable (planned i (hear i s join)).agent
durable-heard lower i s join r d runs ranged = kept-heard (durable-keeping lower) i s join r runs ranged tt d

pub durable-apply : Below → (m : IdealNode) (sent : List (List ℕ)) (act : Act) → IsRepresentable m.agent → CanTellAct m.agent.config act (given_by sent act) → m.agent.config.keep_events ≡ true → IsDurable (apply m sent act).node.agent
durable-apply lower m sent act g tells keeps = acts-keep lower (durable-keeping lower) m sent act g tells keeps (fits act) (g.durable keeps)
  where
    fits : (act : Act) → FitsAct (λ i x. Unit {0}) (λ outs. Unit {0}) m sent act
    fits (acts.Deliver number now) = λ packet is. tt
    fits (acts.Merge number join) = (λ packet s given is runs. tt, tt)
    fits _ = tt
