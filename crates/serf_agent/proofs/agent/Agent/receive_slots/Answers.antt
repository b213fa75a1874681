use Rattle.serf_agent.proofs.Names.{List, ap, refl, subst, sym, ◌∙◌, slot_of_view, slots_left, SlotContent, SlotViews, EventBody, TimedEntry, HasReceived, events_of, events_of_slot, ConcreteState}
use Rattle.serf_agent.proofs.MergeLaws.{has-more, has-start, has-wrong}
use Rattle.serf_agent.proofs.agent.Agent.receive_slots.Goals as goal

pub loop-slot-init : goal.loop-slot-init
loop-slot-init g c = record {
  received = λ i sound is.
      let all = events_of (slots_left c.args.slots) in
      let before = c.args.out.now.items in
      let runs = sym (ap (λ (s : ConcreteState). s.snapshot.stopped) is) ∙ c.requires in
      subst (λ (it : SlotViews). HasReceived i all (events_of (slots_left it)) before before c.args.self.now.device c.args.self.now) (sym c.into_iter-slot-iterator.ensures.into_iter_gives) (has-start i all before c.args.self.now sound runs is);
  runs = c.requires;
  calm = refl;
}

pub loop-slot-preserved : goal.loop-slot-preserved
loop-slot-preserved g c = record {
  received = λ i sound is.
      let all = events_of (slots_left c.args.slots) in
      let before = c.args.out.now.items in
      let mid = c.loop-slot.out.items in
      let old = c.args.self.now.device in
      let part : List (TimedEntry EventBody) = events_of_slot (slot_of_view c.in-Some.slot) in
      let has = subst (λ (l : List (TimedEntry EventBody)). HasReceived i all l before mid old c.loop-slot.self) (ap (λ (l : List SlotContent). events_of l) c.in-Some.ensures.steps) (c.loop-slot.invariant.received i sound is) in
      has-more i all part (events_of (slots_left c.next.new.self)) before mid c.receive_slot.new.out.items old c.loop-slot.self c.receive_slot.new.self has (c.in-Ok.ensures.received has.goes.agent has.goes.sound has.goes.state);
  runs = c.in-Ok.ensures.runs;
  calm = c.in-Ok.ensures.calm ∙ c.loop-slot.invariant.calm;
}

pub returns-in-Err-clause-received : goal.returns-in-Err-clause-received
returns-in-Err-clause-received g c = λ i sound is.
    let all = events_of (slots_left c.args.slots) in
    let before = c.args.out.now.items in
    let mid = c.loop-slot.out.items in
    let old = c.args.self.now.device in
    let part : List (TimedEntry EventBody) = events_of_slot (slot_of_view c.in-Some.slot) in
    let has = subst (λ (l : List (TimedEntry EventBody)). HasReceived i all l before mid old c.loop-slot.self) (ap (λ (l : List SlotContent). events_of l) c.in-Some.ensures.steps) (c.loop-slot.invariant.received i sound is) in
    has-wrong i all part (events_of (slots_left c.next.new.self)) before mid c.receive_slot.new.out.items old c.loop-slot.self c.receive_slot.new.self c.in-Err.error has (c.in-Err.ensures.received has.goes.agent has.goes.sound has.goes.state)
