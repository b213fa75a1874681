-- The reasons for the events of a merge, which are made for one part of them after another.
use Rattle.serf_explain.proofs.Names.{List, None, Option, Some, [], ap, append-nil, append_assoc, arith, codes, decimal, length, length-append, refl, subst, sym, true, ℕ, ◌++◌, ◌<◌, ◌∙◌, ◌∷◌, ◌≡◌, flat_map, EventBody, TimedEntry, admission, IdealAgent, after_event, ConcreteState, Config, Reason, Seen, Cluster, Action, Line, AddsSuch, because_line, byte_text, AreCarried, AreOfState, IsCarried, IsSeenIn, Known, SlotEntry, TellsMerge, TellsMerged, after_events, entered_since, slot_entries, raised_min, raised_reasons, carried_words, IsNamed, Record, records_from, handed_words, AddsJudged, AddsLines, AddsState, HasJudged, IsHandedIn, IsJudging, IsMerging, TellsText, detail_words, judge_takes, judged_detail, merged_of, left_words, IsEventLeft, IsLeft, is_left, texts_told, Judge, Takes, Merging}
use Rattle.serf_explain.proofs.JudgeLaws.{same-config}
use Rattle.serf_explain.proofs.LeftLaws.{left-is}
use Rattle.serf_explain.proofs.RecordLaws.{is-seen-in}
use Rattle.serf_explain.proofs.ReasonLaws.{lines-append}

carried-append : (k : Known) (xs ys : List SlotEntry) (j : IdealAgent) (front following : List (List ℕ)) → AreCarried k xs j front → AreCarried k ys (after_events xs j) following → AreCarried k (xs ++ ys) j (front ++ following)
carried-append k [] ys j front following h more = subst (λ (rs : List (List ℕ)). AreCarried k ys j (rs ++ following)) (sym h) more
carried-append k (x ∷ xs) ys j front following h more =
    (h.0, h.1 ++ following, ap (λ (rs : List (List ℕ)). rs ++ following) h.2, h.3, carried-append k xs ys (after_event j x.entry) h.1 following h.4 more)

after-append : (xs ys : List SlotEntry) (j : IdealAgent) → after_events (xs ++ ys) j ≡ after_events ys (after_events xs j)
after-append [] ys j = refl
after-append (x ∷ xs) ys j = after-append xs ys (after_event j x.entry)

pub judged-start : (k : Known) (n : ℕ) (i j : IdealAgent) (all : List SlotEntry) (text : List ℕ) (judge : Judge) → IsJudging i j judge → HasJudged k n i j all all text text judge
judged-start k n i j all text judge h = record {
  done = [];
  split = refl;
  lines = record { added = []; new_is = sym (append-nil text); carried = refl };
  judging = h;
}

-- the words for an ignored event have the agent's limits
left-detail : (name : List ℕ) (takes : Takes) (handed : Option ℕ) (time : ℕ) (what : EventBody) (r : Reason) → (r ≡ Seen → ⊥) → detail_words name takes handed time what (Some r) ≡ left_words takes (codes "event") time (texts_told what) r
left-detail name takes handed time what Seen other = absurd (other refl)
left-detail name takes handed time what _ other = refl

pub detail-is : (name : List ℕ) (takes made : Takes) (handed : Option ℕ) (time : ℕ) (what : EventBody) (r : Reason) (verdict : Option Reason) (bytes : ℕ) (old new : List ℕ) → verdict ≡ Some r → (r ≡ Seen → ⊥) → made ≡ takes → bytes ≡ texts_told what
    → new ≡ old ++ left_words made (codes "event") time bytes r → new ≡ old ++ detail_words name takes handed time what verdict
detail-is name takes made handed time what r verdict bytes old new is other same count h =
    h
    ∙ (λ q. old ++ left_words (same q) (codes "event") time (count q) r)
    ∙ ap (λ (t : List ℕ). old ++ t) (sym (left-detail name takes handed time what r other))
    ∙ ap (λ (v : Option Reason). old ++ detail_words name takes handed time what v) (sym is)

left-of : (k : Known) (i j : IdealAgent) (e : TimedEntry EventBody) (merging : Merging) (judge : Judge) (handed : Option ℕ) → IsMerging k i merging → IsJudging i (after_event j e) judge
    → (r : Reason) → is_left r ≡ true → IsEventLeft (after_event j e) k.before e.time e.key r (judged_detail merging judge handed e.time e.key (Some r))
left-of k i j e merging judge handed m h r some =
    let x : IdealAgent = after_event j e in
    let bytes : ℕ = texts_told e.key in
    let name : List ℕ = codes "event" in
    let own : Config = merging.agent.now.concrete.config in
    let config : own ≡ x.config = ap (λ (s : ConcreteState). s.config) m.agent_is ∙ sym h.config_same in
    let detail : List ℕ = judged_detail merging judge handed e.time e.key (Some r) in
    let words : IsLeft name judge.minimum judge.clock own.event_buffer own.per_time (m.earlier ++ m.lowest ∷ []) e.time bytes r detail =
    subst (λ (t : List ℕ). IsLeft name judge.minimum judge.clock own.event_buffer own.per_time (m.earlier ++ m.lowest ∷ []) e.time bytes r t) (sym (left-detail own.name (judge_takes merging judge) handed e.time e.key r (λ q. let no : is_left Seen ≡ true = ap is_left (sym q) ∙ some in cc no)))
    (left-is merging.lowest judge.minimum judge.clock own.event_buffer own.per_time merging.number name m.earlier m.lowest e.time bytes m.mark m.number r) in
    subst (λ (y : ℕ). IsLeft name y x.events.clock x.config.event_buffer x.config.per_time k.before e.time bytes r detail) (sym h.minimum_is)
    (subst (λ (y : ℕ). IsLeft name judge.minimum y x.config.event_buffer x.config.per_time k.before e.time bytes r detail) (sym h.clock_is)
    (subst (λ (c : Config). IsLeft name judge.minimum judge.clock c.event_buffer c.per_time k.before e.time bytes r detail) config
    (subst (λ (bs : List ℕ). IsLeft name judge.minimum judge.clock own.event_buffer own.per_time bs e.time bytes r detail) (sym m.before_are) words)))

-- the words for an event that was seen name the action that handed it out
seen-of : (k : Known) (i j : IdealAgent) (e : TimedEntry EventBody) (merging : Merging) (judge : Judge) (handed : Option ℕ) → IsMerging k i merging → IsJudging i (after_event j e) judge → j.config ≡ (after_event j e).config
    → IsHandedIn i j merging e handed → IsSeenIn k j e (judged_detail merging judge handed e.time e.key (Some Seen))
seen-of k i j e merging judge handed m h same named =
    let config : merging.agent.now.concrete.config ≡ j.config = ap (λ (s : ConcreteState). s.config) m.agent_is ∙ sym h.config_same ∙ sym same in
    let records : IsNamed (records_from 1 k.lines) merging.number merging.agent_number e.time e.key (entered_since k.entered j e) handed =
    subst (λ (n : ℕ). IsNamed (records_from 1 k.lines) merging.number merging.agent_number e.time e.key (entered_since n j e) handed) (sym m.entered)
    (subst (λ (ns : List Record). IsNamed ns merging.number merging.agent_number e.time e.key (entered_since (length i.events.history) j e) handed) m.records named) in
    subst (λ (c : Config). IsSeenIn k j e (handed_words c.name e.time e.key handed)) (sym config)
    (is-seen-in merging.agent_number e.time e.key k j merging.number handed (sym m.agent) m.count records)

-- the line of an event says what it has to
pub carried-line : (k : Known) (slot : ℕ) (e : TimedEntry EventBody) (verdict : Option Reason) (i j : IdealAgent) (merging : Merging) (judge : Judge) (old new : List ℕ) → IsMerging k i merging → IsJudging i (after_event j e) judge
    → verdict ≡ admission j e.time e.key → AddsJudged merging judge i j slot e verdict old new → AddsLines k merging.number (slot_entries slot (e ∷ [])) j old new
carried-line k slot e verdict i j merging judge old new m judging is h =
    let p : SlotEntry = record { slot = slot; entry = e } in
    let detail : Option Reason → List ℕ = λ v. judged_detail merging judge h.handed e.time e.key v in
    let reason : List ℕ = carried_words slot e.time e.key verdict (detail verdict) in
    let own : IsCarried k j p verdict reason = record {
      detail = detail verdict;
      words = refl;
      new = λ q. ap detail q;
      seen = λ q. subst (λ (v : Option Reason). IsSeenIn k j e (detail v)) (sym q) (seen-of k i j e merging judge h.handed m judging (sym (same-config j e)) (h.named q));
      left = λ r q some. subst (λ (v : Option Reason). IsEventLeft (after_event j e) k.before e.time e.key r (detail v)) (sym q) (left-of k i j e merging judge h.handed m judging r some);
    } in
    record {
      added = reason ∷ [];
      new_is = h.added ∙ ap (λ t. old ++ t) (sym (append-nil (because_line merging.number reason)));
      carried = (reason, [], refl, subst (λ (v : Option Reason). IsCarried k j p v reason) is own, refl);
    }

-- the case of a single event, which was judged
pub judged-one : (k : Known) (n : ℕ) (i j : IdealAgent) (p : SlotEntry) (old new : List ℕ) (judge : Judge) → AddsLines k n (p ∷ []) j old new → IsJudging i (after_event j p.entry) judge → HasJudged k n i j (p ∷ []) [] old new judge
judged-one k n i j p old new judge lines judging = record { done = p ∷ []; split = refl; lines = lines; judging = judging }

pub judged-more : (k : Known) (n : ℕ) (i j : IdealAgent) (all part left : List SlotEntry) (old mid new : List ℕ) (judge next : Judge) (h : HasJudged k n i j all (part ++ left) old mid judge)
    → AddsLines k n part (after_events h.done j) mid new → IsJudging i (after_events part (after_events h.done j)) next → HasJudged k n i j all left old new next
judged-more k n i j all part left old mid new judge next h adds judging = record {
  done = h.done ++ part;
  split = append_assoc h.done part left ∙ h.split;
  lines = record {
    added = h.lines.added ++ adds.added;
    new_is = adds.new_is ∙ ap (λ (t : List ℕ). t ++ flat_map (because_line n) adds.added) h.lines.new_is
        ∙ append_assoc old (flat_map (because_line n) h.lines.added) (flat_map (because_line n) adds.added)
        ∙ ap (λ (t : List ℕ). old ++ t) (sym (lines-append n h.lines.added adds.added));
    carried = carried-append k h.done part j h.lines.added adds.added h.lines.carried adds.carried;
  };
  judging = subst (λ (k : IdealAgent). IsJudging i k next) (sym (after-append h.done part j)) judging;
}

pub judged-lines : (k : Known) (n : ℕ) (i j : IdealAgent) (all : List SlotEntry) (old new : List ℕ) (judge : Judge) → HasJudged k n i j all [] old new judge → AddsLines k n all j old new
judged-lines k n i j all old new judge h = subst (λ es. AddsLines k n es j old new) (sym (append-nil h.done) ∙ h.split) h.lines

pub judged-agent : (k : Known) (n : ℕ) (i j : IdealAgent) (all : List SlotEntry) (old new : List ℕ) (judge : Judge) → HasJudged k n i j all [] old new judge → IsJudging i (after_events all j) judge
judged-agent k n i j all old new judge h = subst (λ es. IsJudging i (after_events es j) judge) (sym (append-nil h.done) ∙ h.split) h.judging

-- all events of a merge were judged, and this is the minimum for events that it raises, if it does
pub adds_state : (k : Known) (n : ℕ) (i j : IdealAgent) (all : List SlotEntry) (old new : List ℕ) (judge : Judge) (raised : Option ℕ) → HasJudged k n i j all [] old new judge
    → ((m : IdealAgent) → IsJudging i m judge → raised ≡ raised_min i m) → AddsState k n all i j raised old new
adds_state k n i j all old new judge raised h is = record {
  lines = judged-lines k n i j all old new judge h;
  raises = is (after_events all j) (judged-agent k n i j all old new judge h);
}

-- all reasons of a merge, from those of its events and the minimum that it raises
abbrev pub whole_of : Option ℕ → List (List ℕ) → List (List ℕ)
whole_of raised carried = raised_reasons raised ++ merged_of carried

pub some-merged : (raised : Option ℕ) (carried : List (List ℕ)) → 0 < length (whole_of raised carried)
some-merged None [] = omega arith
some-merged None (r ∷ rs) = omega arith
some-merged (Some lowest) carried = omega arith

told-events : (k : Known) (carried : List (List ℕ)) (ps : List SlotEntry) (i : IdealAgent) → AreCarried k ps i carried → AreOfState k ps i (merged_of carried)
told-events k [] [] i h = refl
told-events k [] (p ∷ ps) i h = absurd (cc (h.2))
told-events k (r ∷ rs) [] i h = absurd (cc (h))
told-events k (r ∷ rs) (p ∷ ps) i h = h

pub told-merged : (raised : Option ℕ) (carried : List (List ℕ)) → TellsMerged raised carried (whole_of raised carried)
told-merged raised carried = λ k ps old i h. (merged_of carried, ap (λ (o : Option ℕ). whole_of o carried) h.0, told-events k carried ps i h.1)

-- no line is empty
some-line : (n : ℕ) (reason : List ℕ) → 0 < length (because_line n reason)
unfolding because_line
some-line n reason =
    let whole = length-append (decimal n ++ codes " because " ++ flat_map byte_text reason) (codes "\n") in
    omega (arith, whole)

-- a text grew by the line of a merge that carries no event
pub adds-no-event : (n : ℕ) (carried : List (List ℕ)) (text a b : List ℕ) → text ≡ flat_map (because_line n) carried → length text ≡ 0 → b ≡ a ++ because_line n (codes "the state carries no event")
    → b ≡ a ++ flat_map (because_line n) (merged_of carried)
adds-no-event n [] text a b lines none is = is ∙ ap (λ t. a ++ t) (sym (append-nil (because_line n (codes "the state carries no event"))))
adds-no-event n (r ∷ rs) text a b lines none is =
    let long = ap (λ (t : List ℕ). length t) lines in
    let sum = length-append (because_line n r) (flat_map (because_line n) rs) in
    absurd (omega (arith, none, long, sum, some-line n r))

-- a text grew by the lines of a merge: first that of the minimum for events, and then those of the events
pub adds_merged : (n : ℕ) (raised : Option ℕ) (carried : List (List ℕ)) (a mid b : List ℕ) → mid ≡ a ++ flat_map (because_line n) (raised_reasons raised) → b ≡ mid ++ flat_map (because_line n) (merged_of carried)
    → AddsSuch (TellsMerged raised carried) n a b
adds_merged n raised carried a mid b first second = record {
  reasons = whole_of raised carried;
  some = some-merged raised carried;
  added = second
      ∙ ap (λ (t : List ℕ). t ++ flat_map (because_line n) (merged_of carried)) first
      ∙ append_assoc a (flat_map (because_line n) (raised_reasons raised)) (flat_map (because_line n) (merged_of carried))
      ∙ ap (λ (t : List ℕ). a ++ t) (sym (lines-append n (raised_reasons raised) (merged_of carried)));
  such = told-merged raised carried;
}

-- if nothing is merged, there are no lines
pub tells-none : (n : ℕ) (lines : List Line) (before : List Cluster) (c : Cluster) (action : Action) (raised : Option ℕ) (text : List ℕ) → text ≡ [] → TellsMerge lines before c action raised [] → TellsText n lines before c action raised text
tells-none n lines before c action raised text empty h = record { carried = []; text_is = empty; tells = h }
