use Rattle.serf_wire.proofs.Names.{ap, codes, lit<, ◌++◌, ◌∙◌, max_clock, raw_bytes, IsStateSoFar, list, number, slot, status, text, state_name, slots_left, status_left, texts_left}
use Rattle.serf_wire.proofs.FastPairs.{pair_read, part_pair_read}
use Rattle.serf_wire.proofs.FastState.{finds_member, finds_status, finds_left, finds_event, finds_slots, finds_query}
use Rattle.serf_wire.proofs.fast.state.read_pair.Goals as goal

pub returns-in_ok-member_clock-in-Time : goal.returns-in_ok-member_clock-in-Time
returns-in_ok-member_clock-in-Time c =
    let e = c.in_ok-key.ensures ∙ ap (λ k. raw_bytes (state_name k) ++ c.in_ok-key.value.now) c.in-Time.is in
    pair_read IsStateSoFar c.args.found.now _ (codes "LTime") (number max_clock) c.in_ok-member_clock-in-Time.member_clock c.args.bytes.now c.in_ok-key.value.now c.in_ok-member_clock-in-Time.rest.now (lit< tt) e c.in_ok-member_clock-in-Time.ensures.reads (λ p v ps. finds_member c.args.found.now c.in_ok-member_clock-in-Time.member_clock c.in_ok-member_clock-in-Time.ensures.none p v ps)

pub returns-in_ok-status-in-StatusTimes : goal.returns-in_ok-status-in-StatusTimes
returns-in_ok-status-in-StatusTimes c =
    let e = c.in_ok-key.ensures ∙ ap (λ k. raw_bytes (state_name k) ++ c.in_ok-key.value.now) c.in-StatusTimes.is in
    part_pair_read IsStateSoFar c.args.found.now _ (codes "StatusLTimes") 8 status (status_left c.in_ok-status-in-StatusTimes.status) c.args.bytes.now c.in_ok-key.value.now c.in_ok-status-in-StatusTimes.rest.now (lit< tt) (lit< tt) e c.in_ok-status-in-StatusTimes.ensures.reads (λ p v ps. finds_status c.args.found.now c.in_ok-status-in-StatusTimes.status c.in_ok-status-in-StatusTimes.ensures.none p v ps)

pub returns-in_ok-left-in-LeftMembers : goal.returns-in_ok-left-in-LeftMembers
returns-in_ok-left-in-LeftMembers c =
    let e = c.in_ok-key.ensures ∙ ap (λ k. raw_bytes (state_name k) ++ c.in_ok-key.value.now) c.in-LeftMembers.is in
    part_pair_read IsStateSoFar c.args.found.now _ (codes "LeftMembers") 8 (list text) (texts_left c.in_ok-left-in-LeftMembers.left) c.args.bytes.now c.in_ok-key.value.now c.in_ok-left-in-LeftMembers.rest.now (lit< tt) (lit< tt) e c.in_ok-left-in-LeftMembers.ensures.reads (λ p v ps. finds_left c.args.found.now c.in_ok-left-in-LeftMembers.left c.in_ok-left-in-LeftMembers.ensures.none p v ps)

pub returns-in_ok-event_clock-in-EventTime : goal.returns-in_ok-event_clock-in-EventTime
returns-in_ok-event_clock-in-EventTime c =
    let e = c.in_ok-key.ensures ∙ ap (λ k. raw_bytes (state_name k) ++ c.in_ok-key.value.now) c.in-EventTime.is in
    pair_read IsStateSoFar c.args.found.now _ (codes "EventLTime") (number max_clock) c.in_ok-event_clock-in-EventTime.event_clock c.args.bytes.now c.in_ok-key.value.now c.in_ok-event_clock-in-EventTime.rest.now (lit< tt) e c.in_ok-event_clock-in-EventTime.ensures.reads (λ p v ps. finds_event c.args.found.now c.in_ok-event_clock-in-EventTime.event_clock c.in_ok-event_clock-in-EventTime.ensures.none p v ps)

pub returns-in_ok-slots-in-Events : goal.returns-in_ok-slots-in-Events
returns-in_ok-slots-in-Events c =
    let e = c.in_ok-key.ensures ∙ ap (λ k. raw_bytes (state_name k) ++ c.in_ok-key.value.now) c.in-Events.is in
    part_pair_read IsStateSoFar c.args.found.now _ (codes "Events") 5 (list slot) (slots_left c.in_ok-slots-in-Events.slots) c.args.bytes.now c.in_ok-key.value.now c.in_ok-slots-in-Events.rest.now (lit< tt) (lit< tt) e c.in_ok-slots-in-Events.ensures.reads (λ p v ps. finds_slots c.args.found.now c.in_ok-slots-in-Events.slots c.in_ok-slots-in-Events.ensures.none p v ps)

pub returns-in_ok-query_clock-in-QueryTime : goal.returns-in_ok-query_clock-in-QueryTime
returns-in_ok-query_clock-in-QueryTime c =
    let e = c.in_ok-key.ensures ∙ ap (λ k. raw_bytes (state_name k) ++ c.in_ok-key.value.now) c.in-QueryTime.is in
    pair_read IsStateSoFar c.args.found.now _ (codes "QueryLTime") (number max_clock) c.in_ok-query_clock-in-QueryTime.query_clock c.args.bytes.now c.in_ok-key.value.now c.in_ok-query_clock-in-QueryTime.rest.now (lit< tt) e c.in_ok-query_clock-in-QueryTime.ensures.reads (λ p v ps. finds_query c.args.found.now c.in_ok-query_clock-in-QueryTime.query_clock c.in_ok-query_clock-in-QueryTime.ensures.none p v ps)
