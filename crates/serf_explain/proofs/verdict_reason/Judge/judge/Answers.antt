use Rattle.serf_explain.proofs.Names.{sym, event_of_view}
use Rattle.serf_explain.proofs.JudgeLaws.{judged-ignored, judged-new}
use Rattle.serf_explain.proofs.verdict_reason.Judge.judge.Goals as goal

pub returns-in-Some : goal.returns-in-Some
returns-in-Some c = λ i j sound is h.
    let reason = c.in-Some.ensures.reason i j sound is h in
    (reason, judged-ignored i j c.args.self.now c.observe.new.self c.args.time (event_of_view c.args.event.now) c.in-Some.reason h (sym reason) c.observe.ensures.clock c.observe.ensures.minimum c.observe.ensures.entered)

pub returns-in_ok-accept-in-None : goal.returns-in_ok-accept-in-None
returns-in_ok-accept-in-None c = λ i j sound is h.
    let reason = c.in-None.ensures.reason i j sound is h in
    let took = c.in_ok-accept-in-None.ensures in
    (reason, judged-new c.slot_laws.ensures.events i j c.args.self.now c.accept.new.self c.args.time (event_of_view c.args.event.now) h (sym reason) took.clock took.minimum took.per_time took.slots)
