use Rattle.serf_agent.proofs.Names.{Err, List, ap, map, sym, ◌∙◌, slots_borrowed, status_of, EncodeError, EventBody, SlotOf, concrete_of, slot_sent, ConcreteState}
use Rattle.serf_agent.proofs.SendLaws.{fits-by, sends, sends-not, sends-some, slots-sent}
use Rattle.serf_agent.proofs.agent.Agent.local_state.Goals as goal

pub returns-in-Ok-clause-state : goal.returns-in-Ok-clause-state
returns-in-Ok-clause-state g c = rw (← c.self.view_is) (λ _.
    let a : ConcreteState = record { config = c.self.inside.config; member_clock = c.self.inside.member_clock; events = concrete_of c.self.inside.events; queries = concrete_of c.self.inside.queries; snapshot = c.self.inside.snapshot.snapshot; fired_queries = c.self.inside.fired_queries } in
    let runs = sym c.is_stopped.ensures ∙ c.if-is_stopped.false in
    let slots = slots-sent (slots_borrowed c.slots.result) ∙ ap (λ (l : List (SlotOf EventBody)). map slot_sent l) c.slots.ensures in
    let fits = fits-by _ c.encode_push_pull.result c.encode_push_pull.ensures.too_long (λ q. let no_error = sym c.in-Ok.is ∙ q in cc) in
    sends a (map status_of c.args.status.now) (map (λ t. t.now) c.args.left.now) _ c.from_vec.result runs
    (λ k. record { member_clock = c.time.ensures k; status = map status_of c.args.status.now; left = map (λ t. t.now) c.args.left.now; event_clock = c.time-2.ensures k; slots = slots k; query_clock = c.time-3.ensures k })
    fits (c.from_vec.ensures ∙ c.in-Ok.ensures.canonical))

pub returns-in-Err-TooLong-clause-state : goal.returns-in-Err-TooLong-clause-state
returns-in-Err-TooLong-clause-state g c = rw (← c.self.view_is) (λ _.
    let a : ConcreteState = record { config = c.self.inside.config; member_clock = c.self.inside.member_clock; events = concrete_of c.self.inside.events; queries = concrete_of c.self.inside.queries; snapshot = c.self.inside.snapshot.snapshot; fired_queries = c.self.inside.fired_queries } in
    let runs = sym c.is_stopped.ensures ∙ c.if-is_stopped.false in
    let slots = slots-sent (slots_borrowed c.slots.result) ∙ ap (λ (l : List (SlotOf EventBody)). map slot_sent l) c.slots.ensures in
    let long = c.in-Err-TooLong.ensures.too_long.0 (ap (λ (x : EncodeError). Err x) c.in-Err-TooLong.field-0-is) in
    sends-not a (map status_of c.args.status.now) (map (λ t. t.now) c.args.left.now) _ runs
    (λ k. record { member_clock = c.time.ensures k; status = map status_of c.args.status.now; left = map (λ t. t.now) c.args.left.now; event_clock = c.time-2.ensures k; slots = slots k; query_clock = c.time-3.ensures k })
    long)

pub returns-in-Err-OutOfMemory-clause-memory : goal.returns-in-Err-OutOfMemory-clause-memory
returns-in-Err-OutOfMemory-clause-memory g c = rw (← c.self.view_is) (λ _.
    let a : ConcreteState = record { config = c.self.inside.config; member_clock = c.self.inside.member_clock; events = concrete_of c.self.inside.events; queries = concrete_of c.self.inside.queries; snapshot = c.self.inside.snapshot.snapshot; fired_queries = c.self.inside.fired_queries } in
    let runs = sym c.is_stopped.ensures ∙ c.if-is_stopped.false in
    let slots = slots-sent (slots_borrowed c.slots.result) ∙ ap (λ (l : List (SlotOf EventBody)). map slot_sent l) c.slots.ensures in
    let ends = ap (λ (x : EncodeError). Err x) c.in-Err-OutOfMemory.field-0-is in
    let fits = fits-by _ _ c.in-Err-OutOfMemory.ensures.too_long (λ q. let no_error = sym ends ∙ q in cc) in
    sends-some a (map status_of c.args.status.now) (map (λ t. t.now) c.args.left.now) _ runs
    (λ k. record { member_clock = c.time.ensures k; status = map status_of c.args.status.now; left = map (λ t. t.now) c.args.left.now; event_clock = c.time-2.ensures k; slots = slots k; query_clock = c.time-3.ensures k })
    fits)
