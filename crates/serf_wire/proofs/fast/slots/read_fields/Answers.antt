use Rattle.serf_wire.proofs.Names.{IfNone, IfSome, List, Option, codes, refl, subst, ℕ, ◌≡◌, ReadsPair, event_body, list, time, events_found}
use Rattle.serf_wire.proofs.FastSlots.{events_first_reads, slot_reads}
use Rattle.serf_wire.proofs.fast.slots.read_fields.Goals as goal

pub returns-in-Some-early : goal.returns-in-Some-early
returns-in-Some-early c =
    let fields = c.args.fields.now in
    let next = c.read_early_time-early.result.1.now in
    let early = subst (λ (found : Option ℕ). IfSome found (λ t. ReadsPair 7 time (codes "LTime") t fields next)) c.in-Some-early.is c.read_early_time-early.ensures.early in
    slot_reads c.laws_below.ensures c.in-Some-early.time (events_found c.in-Some.events) _ fields next c.in-Some.rest.now refl early c.in-Some.ensures

pub returns-in-Some-read_time : goal.returns-in-Some-read_time
returns-in-Some-read_time c =
    let fields = c.args.fields.now in
    let next = c.read_early_time-early.result.1.now in
    let same = subst (λ (found : Option ℕ). IfNone found (next ≡ fields)) c.in-None-early.is c.read_early_time-early.ensures.later in
    let events = subst (λ (bytes : List ℕ). ReadsPair 7 (list event_body) (codes "Events") (events_found c.in-Some.events) bytes c.in-Some.rest.now) same c.in-Some.ensures in
    events_first_reads c.laws_below.ensures c.in-Some-read_time.time (events_found c.in-Some.events) _ fields c.in-Some.rest.now c.in-Some-read_time.following.now refl events c.in-Some-read_time.ensures
