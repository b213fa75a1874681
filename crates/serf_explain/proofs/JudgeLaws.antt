-- The verdict on an event of a merge, from the verdict before the merge and the verdict against what entered in it.
use Rattle.serf_explain.proofs.Names.{All, Bool, List, None, Option, Some, [], ap, append_assoc, arith, cond, drop, false, inl, inr, length, map, nat_le, nat_lt, refl, subst, sym, true, ℕ, ◌&&◌, ◌++◌, ◌+◌, ◌-◌, ◌<◌, ◌==◌, ◌||◌, ◌∙◌, ◌∷◌, ◌≡◌, ◌≤◌, drop-append_seam, cases_Bool, eq-eqb, ltb-false, ne_eqb, nat_tests, map-append, All-cons, All-head, All-nil, All-push, All-tail, All-weaker, list_any-append, observed, PushPull, EventBody, Kept, SlotLaws, same_texts, SlotOf, TimedEntry, TimesBelow, WindowOf, count_at, count_in, slots_of, verdict_of, was_entered, Verdict, ended, is_sound, admission, event_entered, event_observed, received_as, texts_len, written_event, IdealAgent, Past, Track, with_snapshot, after_event, heard_by, joined, written_min_line, appended_with, IsTrackSound, of_life, track_reason, was_ever_entered, Config, Reason, entered_since, heard, IsJudging, both_verdicts, is_seen, past, Judge}
use Rattle.serf_window.specs.declared.verdict.Verdict.TheVariants as verdicts
use Rattle.serf_agent.specs.declared.outcome.Reason.TheVariants as reasons
use Rattle.serf_snapshot.specs.declared.kind.ClockKind.TheVariants as kinds

-- the tests of a reason and of a verdict, in their order
abbrev chain : Bool → Bool → Bool → Bool → Option Reason
chain low old seen full = cond low (Some reasons.BelowMinimum) (cond old (Some reasons.TooOld) (cond seen (Some reasons.Seen) (cond full (Some reasons.TimeFull) None)))

abbrev window_chain : Bool → Bool → Bool → Bool → Verdict
window_chain low old seen full = cond low verdicts.BelowMinimum (cond old verdicts.TooOld (cond seen verdicts.Seen (cond full verdicts.TimeFull verdicts.New)))

-- the verdicts agree if the time is in the window
inside : (was seen fb fn full : Bool) → (fb ≡ true → full ≡ true) → (fn ≡ true → full ≡ true)
    → both_verdicts (chain false false was fb) (window_chain false false seen fn) full ≡ chain false false (was || seen) full
inside true true fb fn full h k = refl
inside false true fb fn full h k = refl
inside true false fb true full h k = refl
inside true false fb false full h k = refl
inside false false true true full h k = rw (k refl) refl
inside false false false true full h k = rw (k refl) refl
inside false false true false full h k = rw (h refl) refl
inside false false false false true h k = refl
inside false false false false false h k = refl

-- A time that is below the minimum or too old before the merge is so in the merge as well.
both-law : (b1 b2 was fb c1 c2 seen fn full known : Bool) → (c1 ≡ false → b1 ≡ false) → (c2 ≡ false → b2 ≡ false) → (c2 ≡ false → fb ≡ true → full ≡ true) → (c2 ≡ false → fn ≡ true → full ≡ true) → (c2 ≡ false → known ≡ full)
    → both_verdicts (chain b1 b2 was fb) (window_chain c1 c2 seen fn) full ≡ chain c1 c2 (was || seen) known
both-law b1 b2 was fb true c2 seen fn full known h1 h2 h3 h4 h5 = refl
both-law b1 b2 was fb false true seen fn full known h1 h2 h3 h4 h5 = refl
both-law b1 b2 was fb false false seen fn full known h1 h2 h3 h4 h5 = rw (h1 refl, h2 refl, h5 refl) (inside was seen fb fn full (h3 refl) (h4 refl))

-- ---- what entered

-- what entered in the merge belongs to the agent's present life
of_life-past : (life : ℕ) (es : List (TimedEntry EventBody)) → of_life life (map (past life) es) ≡ es
of_life-past life [] = refl
of_life-past life (e ∷ es) = rw (eq-eqb life life refl) (ap (λ xs. e ∷ xs) (of_life-past life es))

of_life-append : (life : ℕ) (hs more : List (Past EventBody)) → of_life life (hs ++ more) ≡ of_life life hs ++ of_life life more
of_life-append life [] more = refl
of_life-append life (h ∷ hs) more = elim (cases_Bool (h.life == life)) [
  | inl mine ↦ rw mine (ap (λ xs. h.entry ∷ xs) (of_life-append life hs more))
  | inr other ↦ rw other (of_life-append life hs more)
]

count-append : (t : ℕ) (xs ys : List (TimedEntry EventBody)) → count_at (xs ++ ys) t ≡ count_at xs t + count_at ys t
count-append t [] ys = omega arith
count-append t (x ∷ xs) ys = elim (cases_Bool (x.time == t)) [
  | inl here ↦ rw here (let ih = count-append t xs ys in omega (arith, ih))
  | inr there ↦ rw there (count-append t xs ys)
]

-- how many events entered with this time, before the merge and in it
pub count-both : (life t : ℕ) (hs : List (Past EventBody)) (es : List (TimedEntry EventBody)) → count_at (of_life life (hs ++ map (past life) es)) t ≡ count_at (of_life life hs) t + count_at es t
count-both life t hs es =
    ap (λ xs. count_at xs t) (of_life-append life hs (map (past life) es) ∙ ap (λ xs. of_life life hs ++ xs) (of_life-past life es))
    ∙ count-append t (of_life life hs) es

was-past : (life t : ℕ) (what : EventBody) (es : List (TimedEntry EventBody)) → was_ever_entered same_texts (map (past life) es) t what ≡ was_entered same_texts es t what
was-past life t what [] = refl
was-past life t what (e ∷ es) = ap (λ b. (e.time == t) && same_texts e.key what || b) (was-past life t what es)

-- whether an event entered, before the merge or in it
pub was-both : (life t : ℕ) (what : EventBody) (hs : List (Past EventBody)) (es : List (TimedEntry EventBody)) → was_ever_entered same_texts (hs ++ map (past life) es) t what ≡ (was_ever_entered same_texts hs t what || was_entered same_texts es t what)
was-both life t what hs es =
    list_any-append (λ (p : Past EventBody). (p.entry.time == t) && same_texts p.entry.key what) hs (map (past life) es)
    ∙ ap (λ b. was_ever_entered same_texts hs t what || b) (was-past life t what es)

-- ---- slots

of_life-below : (life c : ℕ) (hs : List (Past EventBody)) → All (λ p. p.entry.time < c) hs → All (λ e. e.time < c) (of_life life hs)
of_life-below life c [] h = All-nil (λ e. e.time < c)
of_life-below life c (x ∷ hs) h =
    let rest = of_life-below life c hs (All-tail (λ p. p.entry.time < c) x hs h) in
    elim (cases_Bool (x.life == life)) [
      | inl mine ↦ rw mine (All-cons (λ e. e.time < c) x.entry (of_life life hs) (All-head (λ p. p.entry.time < c) x hs h) rest)
      | inr other ↦ rw other rest
    ]

-- the slots of an agent's life hold everything that entered with a time that is not too old
pub count-slots : (laws : SlotLaws EventBody) (n clock t : ℕ) (es : List (TimedEntry EventBody)) → 0 < n → TimesBelow clock (slots_of n es) → (t + n < clock → ⊥) → count_in (slots_of n es) t ≡ count_at es t
count-slots laws n clock t es pos below young = elim (laws.held_or_too_old n clock t es pos below) [
  | inl has ↦ ap (λ (xs : List EventBody). length xs) has
  | inr old ↦ absurd (young old)
]

pub life-slots-below : (laws : SlotLaws EventBody) (track : Track EventBody) (life last n clock : ℕ) → IsTrackSound track life last → track.clock ≤ clock → 0 < clock → TimesBelow clock (slots_of n (of_life life track.history))
life-slots-below laws track life last n clock sound up pos =
    laws.below n clock (of_life life track.history) pos
    (of_life-below life clock track.history (All-weaker (λ p. p.entry.time < track.clock) (λ p. p.entry.time < clock) (λ p h. omega arith) track.history sound.below_clock))

-- ---- before the merge and in it together

-- The reason by the agent's whole history. The slots before the merge hold what entered before it, and the other slots
-- hold what entered in it.
pub reason-both : (laws : SlotLaws EventBody) (n k life last clock minimum t : ℕ) (track : Track EventBody) (what : EventBody) (es : List (TimedEntry EventBody))
    → IsTrackSound track life last → 0 < n → 0 < k → track.clock ≤ clock → track.minimum ≤ minimum → TimesBelow (observed clock t) (slots_of n es)
    → both_verdicts (track_reason same_texts n k life track t what) (verdict_of same_texts n k es (observed clock t) minimum t what)
    (nat_le (k - count_in (slots_of n (of_life life track.history)) t) (count_in (slots_of n es) t))
    ≡ track_reason same_texts n k life (record { clock = clock; minimum = minimum; history = track.history ++ map (past life) es }) t what
reason-both laws n k life last clock minimum t track what es sound pos some up lifted below =
    let hs : List (Past EventBody) = track.history in
    let c : ℕ = observed clock t in
    let before : ℕ = count_at (of_life life hs) t in
    let later : ℕ = count_at es t in
    let fb : Bool = nat_le k before in
    let fn : Bool = nat_le k later in
    let c2 : Bool = nat_lt (t + n) c in
    let slots_before : ℕ = count_in (slots_of n (of_life life hs)) t in
    let slots_later : ℕ = count_in (slots_of n es) t in
    let full : Bool = nat_le (k - slots_before) slots_later in
    let known : Bool = nat_le k (count_at (of_life life (hs ++ map (past life) es)) t) in
    let has_before : c2 ≡ false → slots_before ≡ before = λ young. count-slots laws n c t (of_life life hs) pos (life-slots-below laws track life last n c sound (omega arith) (omega arith)) (λ old. let le = ltb-false (t + n) c young in omega (arith, old, le)) in
    let has_later : c2 ≡ false → slots_later ≡ later = λ young. count-slots laws n c t es pos below (λ old. let le = ltb-false (t + n) c young in omega (arith, old, le)) in
    both-law (nat_lt t track.minimum) (nat_lt (t + n) (observed track.clock t)) (was_ever_entered same_texts hs t what) fb (nat_lt t minimum) c2 (was_entered same_texts es t what) fn full known
    (λ high. grind (arith, nat_tests))
    (λ young. grind (arith, nat_tests))
    (λ young enough. let e = has_before young in grind (arith, nat_tests))
    (λ young enough. let e = has_later young in grind (arith, nat_tests))
    (λ young. let e = has_before young in let f = has_later young in let b = count-both life t hs es in grind (arith, nat_tests))
    ∙ ap (λ w. chain (nat_lt t minimum) c2 w known) (sym (was-both life t what hs es))

-- sound settings have at least one slot, and allow at least one event with the same time
pub config-sizes : (c : Config) → is_sound c ≡ true → (0 < c.event_buffer) × (0 < c.per_time)
config-sizes c h = (grind (arith, nat_tests, h), grind (arith, nat_tests, h))

-- how the agent, after it has received events of a merge, decides about an event that isn't oversized
pub admitted : (i j : IdealAgent) (t : ℕ) (what : EventBody) (judge : Judge) (h : IsJudging i j judge) → nat_lt 9216 (texts_len what) ≡ false
    → admission j t what ≡ track_reason same_texts i.config.event_buffer i.config.per_time i.life (record { clock = judge.clock; minimum = judge.minimum; history = i.events.history ++ map (past i.life) h.entered }) t what
admitted i j t what judge h small =
    rw small (λ q. track_reason same_texts (h.config_same q).event_buffer (h.config_same q).per_time (h.life_same q) (record { clock = h.clock_is q; minimum = h.minimum_is q; history = h.history_is q }) t what)

-- ---- the state is heard of

-- the line of a state that is heard of changes nothing but the snapshot
judging-by : (line : Option (List ℕ)) (i : IdealAgent) (m : PushPull) (is_join : Bool) (judge : Judge) → IsJudging i (joined m is_join i) judge → IsJudging i (ended i (heard_by line i m is_join) Kept).agent judge
judging-by None i m is_join judge h = h
judging-by (Some line) i m is_join judge h = record {
  entered = h.entered;
  config_same = h.config_same;
  life_same = h.life_same;
  clock_is = h.clock_is;
  minimum_is = h.minimum_is;
  history_is = h.history_is;
  slots_are = h.slots_are;
  per_time_is = h.per_time_is;
  below = h.below;
  clock_up = h.clock_up;
  minimum_up = h.minimum_up;
}

pub judging-heard : (i : IdealAgent) (m : PushPull) (is_join : Bool) (judge : Judge) → IsJudging i (joined m is_join i) judge → IsJudging i (heard m is_join i) judge
unfolding heard
judging-heard i m is_join judge h = judging-by (written_min_line i.config m is_join) i m is_join judge h

-- ---- one more event

-- the agent after it has received an event, which it ignores for this reason, or which enters
after-reason : (j : IdealAgent) (t : ℕ) (what : EventBody) (r : Reason) → admission j t what ≡ Some r → after_event j (record { time = t; key = what }) ≡ event_observed t j
after-reason j t what r is = ap (λ (o : Option Reason). (ended j (received_as o j t what false) Kept).agent) is

after-new : (j : IdealAgent) (t : ℕ) (what : EventBody) → admission j t what ≡ None → after_event j (record { time = t; key = what }) ≡ with_snapshot (appended_with kinds.Event t (written_event j.config t what) j.snapshot Kept) (event_entered t what j)
after-new j t what is = ap (λ (o : Option Reason). (ended j (received_as o j t what false) Kept).agent) is

pub judged-ignored : (i j : IdealAgent) (judge new : Judge) (t : ℕ) (what : EventBody) (r : Reason) → IsJudging i j judge → admission j t what ≡ Some r
    → new.clock ≡ observed judge.clock t → new.minimum ≡ judge.minimum → new.entered ≡ judge.entered → IsJudging i (after_event j (record { time = t; key = what })) new
judged-ignored i j judge new t what r h is clock minimum entered =
    subst (λ (k : IdealAgent). IsJudging i k new) (sym (after-reason j t what r is)) (record {
      entered = h.entered;
      config_same = h.config_same;
      life_same = h.life_same;
      clock_is = ap (λ x. observed x t) h.clock_is ∙ sym clock;
      minimum_is = h.minimum_is ∙ sym minimum;
      history_is = h.history_is;
      slots_are = ap (λ (w : WindowOf EventBody). w.slots) entered ∙ h.slots_are;
      per_time_is = ap (λ (w : WindowOf EventBody). w.per_time) entered ∙ h.per_time_is;
      below = All-weaker (λ e. e.time < judge.clock) (λ e. e.time < new.clock) (λ e b. omega (arith, clock, b)) h.entered h.below;
      clock_up = omega (arith, clock, h.clock_up);
      minimum_up = omega (arith, minimum, h.minimum_up);
    })

pub judged-new : (laws : SlotLaws EventBody) (i j : IdealAgent) (judge new : Judge) (t : ℕ) (what : EventBody) → IsJudging i j judge → admission j t what ≡ None
    → new.clock ≡ observed judge.clock t → new.minimum ≡ judge.minimum → new.entered.per_time ≡ judge.entered.per_time
    → ((es : List (TimedEntry EventBody)) → judge.entered.slots ≡ slots_of (length judge.entered.slots) es → new.entered.slots ≡ slots_of (length judge.entered.slots) (es ++ record { time = t; key = what } ∷ []))
    → IsJudging i (after_event j (record { time = t; key = what })) new
judged-new laws i j judge new t what h is clock minimum per_time enters =
    let e : TimedEntry EventBody = record { time = t; key = what } in
    let n : ℕ = i.config.event_buffer in
    let size : length judge.entered.slots ≡ n = ap (λ (s : List (SlotOf EventBody)). length s) h.slots_are ∙ laws.size n h.entered in
    subst (λ (k : IdealAgent). IsJudging i k new) (sym (after-new j t what is)) (record {
      entered = h.entered ++ e ∷ [];
      config_same = h.config_same;
      life_same = h.life_same;
      clock_is = ap (λ x. observed x t) h.clock_is ∙ sym clock;
      minimum_is = h.minimum_is ∙ sym minimum;
      history_is =
          ap (λ (hs : List (Past EventBody)). hs ++ past j.life e ∷ []) h.history_is
          ∙ append_assoc i.events.history (map (past i.life) h.entered) (past j.life e ∷ [])
          ∙ ap (λ (x : ℕ). i.events.history ++ (map (past i.life) h.entered ++ past x e ∷ [])) h.life_same
          ∙ ap (λ (hs : List (Past EventBody)). i.events.history ++ hs) (sym (map-append (past i.life) h.entered (e ∷ [])));
      slots_are = enters h.entered (h.slots_are ∙ ap (λ m. slots_of m h.entered) (sym size)) ∙ ap (λ m. slots_of m (h.entered ++ e ∷ [])) size;
      per_time_is = per_time ∙ h.per_time_is;
      below = All-push (λ e. e.time < new.clock) h.entered e (All-weaker (λ e. e.time < judge.clock) (λ e. e.time < new.clock) (λ e b. omega (arith, clock, b)) h.entered h.below) (omega (arith, clock));
      clock_up = omega (arith, clock, h.clock_up);
      minimum_up = omega (arith, minimum, h.minimum_up);
    })

-- ---- what entered in the merge

-- an event leaves the settings as they are
same-by : (o : Option Reason) (j : IdealAgent) (t : ℕ) (what : EventBody) → (ended j (received_as o j t what false) Kept).agent.config ≡ j.config
same-by None j t what = refl
same-by (Some r) j t what = refl

pub same-config : (j : IdealAgent) (e : TimedEntry EventBody) → (after_event j e).config ≡ j.config
same-config j e = same-by (admission j e.time e.key) j e.time e.key

-- the time of an event that was seen is neither below the minimum nor too old
seen-chain : (large low old seen full : Bool) → cond large (Some reasons.Oversize) (chain low old seen full) ≡ Some reasons.Seen → (low ≡ false) × (old ≡ false)
seen-chain false false false seen full h = (refl, refl)
seen-chain false false true seen full h = absurd (cc h)
seen-chain false true old seen full h = absurd (cc h)
seen-chain true low old seen full h = absurd (cc h)

seen-verdict : (low old was full : Bool) → low ≡ false → old ≡ false → is_seen (window_chain low old was full) ≡ was
seen-verdict low old true full young new = rw (young, new) refl
seen-verdict low old false true young new = rw (young, new) refl
seen-verdict low old false false young new = rw (young, new) refl

-- an event that was seen entered since the merge began exactly if it is among `entered`
entered-are : (i j : IdealAgent) (judge : Judge) (e : TimedEntry EventBody) (h : IsJudging i (after_event j e) judge) → admission j e.time e.key ≡ Some reasons.Seen
    → was_entered same_texts h.entered e.time e.key ≡ entered_since (length i.events.history) j e
entered-are i j judge e h is =
    let history : j.events.history ≡ i.events.history ++ map (past i.life) h.entered = sym (ap (λ (k : IdealAgent). k.events.history) (after-reason j e.time e.key reasons.Seen is)) ∙ h.history_is in
    sym (was-past i.life e.time e.key h.entered)
    ∙ ap (λ (ps : List (Past EventBody)). was_ever_entered same_texts ps e.time e.key) (sym (drop-append_seam i.events.history (map (past i.life) h.entered)) ∙ ap (λ (ps : List (Past EventBody)). drop (length i.events.history) ps) (sym history))

-- the slots of the merge say whether the event entered in the merge
pub took_is : (i j : IdealAgent) (judge : Judge) (e : TimedEntry EventBody) (k : ℕ) (h : IsJudging i (after_event j e) judge) → admission j e.time e.key ≡ Some reasons.Seen
    → is_seen (verdict_of same_texts i.config.event_buffer k h.entered judge.clock judge.minimum e.time e.key) ≡ entered_since (length i.events.history) j e
took_is i j judge e k h is =
    let n : ℕ = i.config.event_buffer in
    let t : ℕ = e.time in
    let after = after-reason j t e.key reasons.Seen is in
    let clock : observed j.events.clock t ≡ judge.clock = sym (ap (λ (x : IdealAgent). x.events.clock) after) ∙ h.clock_is in
    let lowest : j.events.minimum ≡ judge.minimum = sym (ap (λ (x : IdealAgent). x.events.minimum) after) ∙ h.minimum_is in
    let size : j.config.event_buffer ≡ n = ap (λ (c : Config). c.event_buffer) (sym (same-config j e) ∙ h.config_same) in
    let tests = seen-chain (nat_lt 9216 (texts_len e.key)) (nat_lt t j.events.minimum) (nat_lt (t + j.config.event_buffer) (observed j.events.clock t)) (was_ever_entered same_texts j.events.history t e.key) (nat_le j.config.per_time (count_at (of_life j.life j.events.history) t)) is in
    seen-verdict (nat_lt t judge.minimum) (nat_lt (t + n) judge.clock) (was_entered same_texts h.entered t e.key) (nat_le k (count_at h.entered t)) (ap (λ m. nat_lt t m) (sym lowest) ∙ tests.0) ((λ q. nat_lt (t + sym size q) (sym clock q)) ∙ tests.1)
    ∙ entered-are i j judge e h is

pub took-late : (i j : IdealAgent) (judge : Judge) (e : TimedEntry EventBody) → IsJudging i (after_event j e) judge → admission j e.time e.key ≡ Some reasons.Seen → e.time < judge.clock
took-late i j judge e h is =
    let clock : observed j.events.clock e.time ≡ judge.clock = sym (ap (λ (x : IdealAgent). x.events.clock) (after-reason j e.time e.key reasons.Seen is)) ∙ h.clock_is in
    omega (arith, clock)
