use Rattle.serf_wire.proofs.Names.{ap, codes, lit<, ◌++◌, ◌∙◌, max_clock, raw_bytes, IsEventSoFar, number, text, truth, event_name}
use Rattle.serf_wire.proofs.FastPairs.{pair_read}
use Rattle.serf_wire.proofs.FastEvent.{finds_time, finds_name, finds_payload, finds_coalesce}
use Rattle.serf_wire.proofs.fast.event.read_pair.Goals as goal

pub returns-in_ok-time-in-Time : goal.returns-in_ok-time-in-Time
returns-in_ok-time-in-Time c =
    let e = c.in_ok-key.ensures ∙ ap (λ k. raw_bytes (event_name k) ++ c.in_ok-key.value.now) c.in-Time.is in
    pair_read IsEventSoFar c.args.found.now _ (codes "LTime") (number max_clock) c.in_ok-time-in-Time.time c.args.bytes.now c.in_ok-key.value.now c.in_ok-time-in-Time.rest.now (lit< tt) e c.in_ok-time-in-Time.ensures.reads (λ p v ps. finds_time c.args.found.now c.in_ok-time-in-Time.time c.in_ok-time-in-Time.ensures.none p v ps)

pub returns-in_ok-name-in-Name : goal.returns-in_ok-name-in-Name
returns-in_ok-name-in-Name c =
    let e = c.in_ok-key.ensures ∙ ap (λ k. raw_bytes (event_name k) ++ c.in_ok-key.value.now) c.in-Name.is in
    pair_read IsEventSoFar c.args.found.now _ (codes "Name") text c.in_ok-name-in-Name.name.now c.args.bytes.now c.in_ok-key.value.now c.in_ok-name-in-Name.rest.now (lit< tt) e c.in_ok-name-in-Name.ensures.reads (λ p v ps. finds_name c.args.found.now c.in_ok-name-in-Name.name c.in_ok-name-in-Name.ensures.none p v ps)

pub returns-in_ok-payload-in-Payload : goal.returns-in_ok-payload-in-Payload
returns-in_ok-payload-in-Payload c =
    let e = c.in_ok-key.ensures ∙ ap (λ k. raw_bytes (event_name k) ++ c.in_ok-key.value.now) c.in-Payload.is in
    pair_read IsEventSoFar c.args.found.now _ (codes "Payload") text c.in_ok-payload-in-Payload.payload.now c.args.bytes.now c.in_ok-key.value.now c.in_ok-payload-in-Payload.rest.now (lit< tt) e c.in_ok-payload-in-Payload.ensures.reads (λ p v ps. finds_payload c.args.found.now c.in_ok-payload-in-Payload.payload c.in_ok-payload-in-Payload.ensures.none p v ps)

pub returns-in_ok-coalesce-in-Cc : goal.returns-in_ok-coalesce-in-Cc
returns-in_ok-coalesce-in-Cc c =
    let e = c.in_ok-key.ensures ∙ ap (λ k. raw_bytes (event_name k) ++ c.in_ok-key.value.now) c.in-Cc.is in
    pair_read IsEventSoFar c.args.found.now _ (codes "CC") truth c.in_ok-coalesce-in-Cc.coalesce c.args.bytes.now c.in_ok-key.value.now c.in_ok-coalesce-in-Cc.rest.now (lit< tt) e c.in_ok-coalesce-in-Cc.ensures.reads (λ p v ps. finds_coalesce c.args.found.now c.in_ok-coalesce-in-Cc.coalesce c.in_ok-coalesce-in-Cc.ensures.none p v ps)
