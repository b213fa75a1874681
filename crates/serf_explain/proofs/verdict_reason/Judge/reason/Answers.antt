use Rattle.serf_explain.proofs.Names.{All, List, ap, arith, false, length, nat_le, nat_lt, refl, subst, sym, ℕ, ◌-◌, ◌<◌, ◌∙◌, ◌≡◌, ◌≤◌, nat_tests, All-weaker, observed, event_of_view, EventBody, same_texts, SlotOf, TimedEntry, TimesBelow, count_in, slots_of, verdict_of, texts_len, track_reason, both_verdicts}
use Rattle.serf_explain.proofs.JudgeLaws.{admitted, config-sizes, reason-both}
use Rattle.serf_explain.proofs.verdict_reason.Judge.reason.Goals as goal

pub returns-clause-reason : goal.returns-clause-reason
returns-clause-reason c = λ i j sound is h.
    let t : ℕ = c.args.time in
    let what : EventBody = event_of_view c.args.event.now in
    let n : ℕ = i.config.event_buffer in
    let k : ℕ = i.config.per_time in
    let clock : ℕ = c.args.self.now.clock in
    let lowest : ℕ = c.args.self.now.minimum in
    let sum : c.saturating_add-texts.result ≤ 9216 = omega (arith, c.if-texts-gt-MAX_TEXT_BYTES.false) in
    let short : texts_len what ≤ 9216 = omega (arith, sum, c.saturating_add-texts.ensures) in
    let small : nat_lt 9216 (texts_len what) ≡ false = grind (arith, nat_tests, short) in
    let sizes = config-sizes i.config sound.config in
    let before : c.judge_event-before.result ≡ track_reason same_texts n k i.life i.events t what = c.judge_event-before.ensures i sound is ∙ rw small refl in
    let size : length c.args.self.now.entered.slots ≡ n = ap (λ (s : List (SlotOf EventBody)). length s) h.slots_are ∙ c.slot_laws.ensures.events.size n h.entered in
    let clock_is : c.max-clock.result ≡ observed clock t = c.max-clock.ensures ∙ ap (λ x. observed clock x) c.get.ensures.value in
    let all : All (λ (e : TimedEntry EventBody). e.time < observed clock t) h.entered = All-weaker (λ e. e.time < clock) (λ e. e.time < observed clock t) (λ e b. omega arith) h.entered h.below in
    let below : TimesBelow (observed clock t) (slots_of n h.entered) = c.slot_laws.ensures.events.below n (observed clock t) h.entered (omega arith) all in
    let verdict : c.offer-entered.result ≡ verdict_of same_texts n k h.entered (observed clock t) lowest t what =
    c.offer-entered.ensures.verdict h.entered (h.slots_are ∙ ap (λ m. slots_of m h.entered) (sym size)) (omega (arith, clock_is)) (subst (λ (x : ℕ). TimesBelow x c.args.self.now.entered.slots) (sym clock_is) (subst (λ (s : List (SlotOf EventBody)). TimesBelow (observed clock t) s) (sym h.slots_are) below))
    ∙ (λ q. verdict_of same_texts (size q) (h.per_time_is q) h.entered (clock_is q) lowest t what) in
    c.both.ensures
    ∙ (λ q. both_verdicts (before q) (verdict q) (nat_le ((is q).config.per_time - count_in (is q).events.slots (c.get-2.ensures.value q)) (count_in (h.slots_are q) (c.get-2.ensures.value q))))
    ∙ reason-both c.slot_laws.ensures.events n k i.life i.snapshot.event_clock clock lowest t i.events what h.entered sound.events sizes.0 sizes.1 h.clock_up h.minimum_up below
    ∙ sym (admitted i j t what c.args.self.now h small)
