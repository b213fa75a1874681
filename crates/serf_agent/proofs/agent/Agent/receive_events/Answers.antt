use Rattle.serf_agent.proofs.Names.{List, [], ap, refl, subst, sym, ◌∙◌, ◌∷◌, event_of_view, events_left, EventViews, EventBody, TimedEntry, HasReceived, at_time, ConcreteState}
use Rattle.serf_agent.proofs.MergeLaws.{has-more, has-start, has-wrong}
use Rattle.serf_agent.proofs.agent.Agent.receive_events.Goals as goal

pub loop-event-init : goal.loop-event-init
loop-event-init g c = record {
  received = λ i sound is.
      let all = at_time c.args.time (events_left c.args.events) in
      let before = c.args.out.now.items in
      let runs = sym (ap (λ (s : ConcreteState). s.snapshot.stopped) is) ∙ c.requires in
      subst (λ (it : EventViews). HasReceived i all (at_time c.args.time (events_left it)) before before c.args.self.now.device c.args.self.now) (sym c.into_iter-event-iterator.ensures.into_iter_gives) (has-start i all before c.args.self.now sound runs is);
  runs = c.requires;
  calm = refl;
}

pub loop-event-preserved : goal.loop-event-preserved
loop-event-preserved g c = record {
  received = λ i sound is.
      let all = at_time c.args.time (events_left c.args.events) in
      let before = c.args.out.now.items in
      let mid = c.loop-event.out.items in
      let old = c.args.self.now.device in
      let part : List (TimedEntry EventBody) = record { time = c.args.time; key = event_of_view c.in-Some.event } ∷ [] in
      let has = subst (λ (l : List (TimedEntry EventBody)). HasReceived i all l before mid old c.loop-event.self) (ap (λ (l : List EventBody). at_time c.args.time l) c.in-Some.ensures.steps) (c.loop-event.invariant.received i sound is) in
      has-more i all part (at_time c.args.time (events_left c.next.new.self)) before mid c.receive_one.new.out.items old c.loop-event.self c.receive_one.new.self has (c.in-Ok.ensures.received has.goes.agent has.goes.sound has.goes.state);
  runs = c.in-Ok.ensures.runs;
  calm = c.in-Ok.ensures.calm ∙ c.loop-event.invariant.calm;
}

pub returns-in-Err-clause-received : goal.returns-in-Err-clause-received
returns-in-Err-clause-received g c = λ i sound is.
    let all = at_time c.args.time (events_left c.args.events) in
    let before = c.args.out.now.items in
    let mid = c.loop-event.out.items in
    let old = c.args.self.now.device in
    let part : List (TimedEntry EventBody) = record { time = c.args.time; key = event_of_view c.in-Some.event } ∷ [] in
    let has = subst (λ (l : List (TimedEntry EventBody)). HasReceived i all l before mid old c.loop-event.self) (ap (λ (l : List EventBody). at_time c.args.time l) c.in-Some.ensures.steps) (c.loop-event.invariant.received i sound is) in
    has-wrong i all part (at_time c.args.time (events_left c.next.new.self)) before mid c.receive_one.new.out.items old c.loop-event.self c.receive_one.new.self c.in-Err.error has (c.in-Err.ensures.received has.goes.agent has.goes.sound has.goes.state)
