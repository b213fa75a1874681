use Rattle.serf_replay.proofs.Names.{nat_eq, refl, sym, ◌∙◌, map-id, get, keys, EventLine, is_event, event_eq, event_in, event_key_eq, event_of, EventKey}
use Rattle.serf_replay.proofs.KeyLaws.{event-found, key-finds, same-agent, same-event}
use Rattle.serf_replay.proofs.TallyLaws.{recorded-more, on-ok-both, order-more}
use Rattle.serf_replay.proofs.summary.record_event.Goals as goal

pub returns : goal.returns
returns c = λ records h.
    let key : EventKey = c.in_ok-key.key in
    let event : EventLine = c.args.event.now in
    let fields = c.in_ok-key.ensures in
    let agents = c.in_ok-count_one.ensures in
    on-ok-both c.count_one-2.result
    (λ f g. record {
      agents_are = λ q. recorded-more (λ k e. nat_eq e.agent k) records event event.agent c.args.action (λ k. get nat_eq c.args.agents.now k) (λ k. get nat_eq c.count_one.new.found k) q (nat_eq event.agent q)
          h.agents_are (agents.frequency q) refl (same-agent event.agent q);
      events_are = λ q. recorded-more is_event records event key c.args.action (λ k. get event_key_eq c.args.events.now k) (λ k. get event_key_eq c.count_one-2.new.found k) q (event_key_eq key q)
          h.events_are (f q) (key-finds key q event fields.0 fields.1 fields.2) (same-event key q);
      agents_order = sym (map-id (keys c.count_one.new.found))
          ∙ order-more nat_eq nat_eq (λ k. k) (λ x y. refl) (λ n. n.0.agent) records (event, c.args.action) c.args.agents.now.entries c.count_one.new.found.entries event.agent _ agents.order refl
          (map-id (keys c.args.agents.now) ∙ h.agents_order);
      events_order = order-more event_key_eq event_eq event_of (λ x y. refl) (λ n. event_in n.0) records (event, c.args.action) c.args.events.now.entries c.count_one-2.new.found.entries key _ g (event-found key event fields.0 fields.1 fields.2) h.events_order;
    })
    c.count_one-2.ensures.frequency c.count_one-2.ensures.order
