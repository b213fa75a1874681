use Rattle.serf_judge.proofs.Names.{Bor, List, None, ap, get_or, length, map, not, sym, ℕ, ◌∙◌, length-map, key_content, missing_view, texts_of, lacks}
use Rattle.serf_judge.proofs.MissedLaws.{no_content, rows-all, rows-more, some-missing}
use Rattle.serf_judge.proofs.missed.missed_events.Goals as goal

pub returns-clause-events : goal.returns-clause-events
returns-clause-events c = ap length c.as_slice-all.ensures.value ∙ sym (length-map c.in_ok-events.events.items key_content) ∙ ap length c.in_ok-events.ensures

pub returns-clause-missed : goal.returns-clause-missed
returns-clause-missed c =
    rows-all c.args.maximum c.args.entries.now c.as_slice-all.result.now c.in_ok-events.events.items c.loop-event.event-index (map missing_view c.loop-event.missed.items) c.loop-event.invariant c.loop-event-test.false
    c.as_slice-all.ensures.value c.in_ok-events.ensures

pub loop-event-preserved : goal.loop-event-preserved
loop-event-preserved c =
    let maximum = c.args.maximum in
    let entries = c.args.entries.now in
    let events = c.as_slice-all.result.now in
    let event = get_or events c.loop-event.event-index no_content in
    let missing = c.in_ok-missing.missing.items in
    let agree = λ (t : Bor (List ℕ)). ap not (c.in_ok-handed.ensures (record { node = t; time = event.time; id = None; name = event.name; payload = event.payload })) in
    rows-more maximum entries events c.loop-event.event-index (map missing_view c.loop-event.missed.items) (map missing_view c.write_missed.new.missed.items) (texts_of missing)
    c.loop-event-test.true c.loop-event.invariant c.in_ok-write_missed.ensures
    (some-missing maximum entries (key_content event) (lacks c.in_ok-handed.handed event) c.as_slice-receivers.result.now missing agree c.in_ok-missing.ensures (ap texts_of c.as_slice-receivers.ensures.value ∙ c.in_ok-nodes.ensures))
