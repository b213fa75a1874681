use Rattle.serf_explain.proofs.Names.{List, None, Some, ap, arith, length, subst, sym, ℕ, ◌<◌, ◌∙◌, ◌≡◌, EventBody, same_texts, SlotOf, TimesBelow, slots_of, verdict_of, is_seen, event_as}
use Rattle.serf_explain.proofs.JudgeLaws.{took-late, took_is}
use Rattle.serf_explain.proofs.verdict_reason.Judge.took.Goals as goal

pub returns-in-Some : goal.returns-in-Some
returns-in-Some c = λ i j h is.
    let e = event_as c.args.event.now in
    let n : ℕ = i.config.event_buffer in
    let judge = c.args.self.now in
    let k : ℕ = judge.entered.per_time in
    let late : e.time < judge.clock = took-late i j judge e h is in
    let times : Some c.in-Some.time ≡ Some e.time = c.in-Some.ensures late in
    let time : c.in-Some.time ≡ e.time = cc times in
    let size : length judge.entered.slots ≡ n = ap (λ (s : List (SlotOf EventBody)). length s) h.slots_are ∙ c.slot_laws.ensures.events.size n h.entered in
    let below : TimesBelow judge.clock (slots_of n h.entered) = c.slot_laws.ensures.events.below n judge.clock h.entered (omega (arith, late)) h.below in
    let verdict : c.offer.result ≡ verdict_of same_texts n k h.entered judge.clock judge.minimum e.time e.key =
    c.offer.ensures.verdict h.entered (h.slots_are ∙ ap (λ m. slots_of m h.entered) (sym size)) (omega (arith, late, time)) (subst (λ (s : List (SlotOf EventBody)). TimesBelow judge.clock s) (sym h.slots_are) below)
    ∙ (λ q. verdict_of same_texts (size q) k h.entered judge.clock judge.minimum (time q) e.key) in
    c.is_seen.ensures ∙ ap (λ v. is_seen v) verdict ∙ took_is i j judge e k h is

pub returns-in-None : goal.returns-in-None
returns-in-None c = λ i j h is.
    let late : c.args.event.now.time < c.args.self.now.clock = took-late i j c.args.self.now (event_as c.args.event.now) h is in
    let none : None ≡ Some c.args.event.now.time = c.in-None.ensures late in
    absurd (cc none)
