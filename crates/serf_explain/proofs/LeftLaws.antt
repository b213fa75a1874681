-- The reasons for what an agent ignored.
use Rattle.serf_explain.proofs.Names.{List, None, Option, Some, [], ap, append-nil, append_assoc, arith, length, refl, subst, sym, true, ℕ, ◌++◌, ◌+◌, ◌∙◌, ◌∷◌, ◌≡◌, ne_eqb, length-map, map-append, EventBody, TimedEntry, held_count, ConcreteState, view_of, Reason, BelowMinimum, Oversize, Seen, TimeFull, TooOld, Cluster, Action, Line, IsViewed, WorldState, agent_at, AddsSome, AddsSuch, GrowsBy, because_line, IsIgnored, OfIgnored, TellsAll, NamesSeen, name_at, records_in, HoldMarks, IsMark, ignored_words, left_words, mark_after, numbers_of, takes_by, takes_events, buffers_words, IsLeft, events_min, is_left, mark_words, number_in, numbers_in, texts_told, below_words, since_words, delivered_as, event_as, OfLeftEvent, event_delivered, History, Mark, Delivered}
use Rattle.std.specs.Prelude.{codes, decimal}
use Rattle.serf_model.specs.declared.line.Answer.TheVariants as answers
use Rattle.serf_explain.proofs.MarkLaws.{mark_is}
use Rattle.serf_explain.proofs.MergeLaws.{agent-is}

-- the words for a value that was set by an action, and not at the start
pub since-later : (since : ℕ) → (since ≡ 0 → ⊥) → since_words since ≡ codes ", unchanged since action " ++ decimal since
unfolding since_words
since-later since other = rw (ne_eqb since 0 other) refl

pub since_is : (since : ℕ) (old new : List ℕ) → (since ≡ 0 → ⊥) → new ≡ old ++ codes ", unchanged since action " ++ decimal since → new ≡ old ++ since_words since
since_is since old new other is = is ∙ append_assoc old (codes ", unchanged since action ") (decimal since) ∙ ap (λ (t : List ℕ). old ++ t) (sym (since-later since other))

five-law : (o a b c d e : List ℕ) → ((o ++ a ++ b) ++ c ++ d) ++ e ≡ o ++ (a ++ b ++ c ++ d ++ e)
five-law o a b c d e = simp append_assoc

pub below_is : (time slots : ℕ) (o one two three : List ℕ) → one ≡ o ++ codes "time " ++ decimal time → two ≡ one ++ codes " is more than " ++ decimal slots → three ≡ two ++ codes " times below the " → three ≡ o ++ below_words time slots
unfolding below_words
below_is time slots o one two three first second third =
    third
    ∙ ap (λ (t : List ℕ). t ++ codes " times below the ") (second ∙ ap (λ (t : List ℕ). t ++ codes " is more than " ++ decimal slots) first)
    ∙ five-law o (codes "time ") (decimal time) (codes " is more than ") (decimal slots) (codes " times below the ")

six-law : (o a b c d e f : List ℕ) → ((o ++ a ++ b) ++ c ++ d) ++ e ++ f ≡ o ++ (a ++ b ++ c ++ d ++ e ++ f)
six-law o a b c d e f = simp append_assoc

-- the words for the buffers of an agent
pub buffers_is : (s : ConcreteState) (held events queries : ℕ) (o one two three : List ℕ) → held ≡ held_count s.events.slots → events ≡ s.events.clock → queries ≡ s.queries.clock
    → one ≡ o ++ codes ", and its buffers are restored, events held: " ++ decimal held → two ≡ one ++ codes ", event clock " ++ decimal events → three ≡ two ++ codes ", query clock " ++ decimal queries → three ≡ o ++ buffers_words s
unfolding buffers_words
buffers_is s held events queries o one two three held-is events-is queries-is first second third =
    third
    ∙ ap (λ (t : List ℕ). t ++ codes ", query clock " ++ decimal queries) (second ∙ ap (λ (t : List ℕ). t ++ codes ", event clock " ++ decimal events) first)
    ∙ six-law o (codes ", and its buffers are restored, events held: ") (decimal held) (codes ", event clock ") (decimal events) (codes ", query clock ") (decimal queries)
    ∙ (λ q. o ++ (codes ", and its buffers are restored, events held: " ++ decimal (held-is q) ++ codes ", event clock " ++ decimal (events-is q) ++ codes ", query clock " ++ decimal (queries-is q)))

-- the words for what is ignored are right, if the mark of the minimum was right
pub left-is : (old : Mark) (lowest clock slots per_time action : ℕ) (name before : List ℕ) (now time bytes : ℕ) → IsMark before now old → action ≡ length before + 1
    → (r : Reason) → IsLeft name lowest clock slots per_time (before ++ now ∷ []) time bytes r (left_words (takes_by old lowest clock slots per_time action) name time bytes r)
left-is old lowest clock slots per_time action name before now time bytes mark count BelowMinimum =
    let following = mark_is old lowest action before now mark count in
    let since : ℕ = (mark_after old lowest action).since in
    (since, ap (λ n. mark_words n since) following.0, following.1)
left-is old lowest clock slots per_time action name before now time bytes mark count TooOld = refl
left-is old lowest clock slots per_time action name before now time bytes mark count TimeFull = refl
left-is old lowest clock slots per_time action name before now time bytes mark count Oversize = refl
left-is old lowest clock slots per_time action name before now time bytes mark count _ = tt

-- ---- a delivered event

-- the only reason says why the event is ignored
abbrev pub Ignores : Reason → History → ℕ → WorldState → ℕ → TimedEntry EventBody → List (List ℕ) → Type 0
Ignores r past n w a e reasons = (text : List ℕ) × (reasons ≡ text ∷ []) × IsIgnored r past n w a e text

pub adds_ignored : (r : Reason) (past : History) (n : ℕ) (w : WorldState) (a : ℕ) (e : TimedEntry EventBody) (old new none text said : List ℕ) → none ≡ [] → GrowsBy (IsIgnored r past n w a e) none text → said ≡ text → new ≡ old ++ because_line n said
    → AddsSuch (Ignores r past n w a e) n old new
adds_ignored r past n w a e old new none text said empty grows same is =
    let own : said ≡ grows.more = same ∙ grows.added ∙ ap (λ (t : List ℕ). t ++ grows.more) empty in
    record {
      reasons = grows.more ∷ [];
      some = omega arith;
      added = is ∙ ap (λ (t : List ℕ). old ++ because_line n t) own ∙ ap (λ (t : List ℕ). old ++ t) (sym (append-nil (because_line n grows.more)));
      such = (grows.more, refl, grows.such);
    }

pub adds_delivered : (r : Reason) (past : History) (n : ℕ) (w : WorldState) (action : Action) (of : Delivered) (old new : List ℕ) → Some (delivered_as of) ≡ event_delivered w.sent action
    → AddsSuch (Ignores r past n w of.to (event_as of.event)) n old new → AddsSuch (OfIgnored r past n w action) n old new
adds_delivered r past n w action of old new delivers h = record {
  reasons = h.reasons;
  some = h.some;
  added = h.added;
  such = λ a e is.
      let both : Some (delivered_as of) ≡ Some (a, e) = delivers ∙ is in
      let same : delivered_as of ≡ (a, e) = cc in
      subst (λ (d : ℕ × TimedEntry EventBody). Ignores r past n w d.0 d.1 h.reasons) same h.such;
}

-- the action delivers no event
pub adds_other : (r : Reason) (past : History) (n : ℕ) (w : WorldState) (action : Action) (old new : List ℕ) → None ≡ event_delivered w.sent action → AddsSome n old new → AddsSuch (OfIgnored r past n w action) n old new
adds_other r past n w action old new delivers h = record {
  reasons = h.reasons;
  some = h.some;
  added = h.added;
  such = λ a e is. let both : None ≡ Some (a, e) = delivers ∙ is in absurd (cc both);
}

-- the reason for an event that was seen, and for one that was ignored otherwise
pub ignored_seen : (r : Reason) (past : History) (n : ℕ) (w : WorldState) (a : ℕ) (e : TimedEntry EventBody) (old new : List ℕ) → r ≡ Seen → GrowsBy (NamesSeen (records_in past.deliveries.outs.items) (name_at w a) a e.time e.key) old new → GrowsBy (IsIgnored r past n w a e) old new
ignored_seen r past n w a e old new is h = record { more = h.more; added = h.added; such = record { seen = λ q. h.such; left = λ s some at. let no : is_left Seen ≡ true = ap is_left (sym is) ∙ some in absurd (cc no) } }

pub ignored_left : (r : Reason) (past : History) (n : ℕ) (w : WorldState) (a : ℕ) (e : TimedEntry EventBody) (s : ConcreteState) (old new : List ℕ) → (r ≡ Seen → ⊥) → Some s ≡ agent_at w a
    → new ≡ old ++ ignored_words (takes_events (numbers_of past.marks a).event_minimum s n) e.time e.key r → GrowsBy (IsIgnored r past n w a e) old new
ignored_left r past n w a e s old new other at is = record {
  more = ignored_words (takes_events (numbers_of past.marks a).event_minimum s n) e.time e.key r;
  added = is;
  such = record {
    seen = λ q. absurd (other q);
    left = λ t some there.
        let same : s ≡ t = let states : Some s ≡ Some t = at ∙ there in cc states in
        ap (λ (u : ConcreteState). ignored_words (takes_events (numbers_of past.marks a).event_minimum u n) e.time e.key r) same;
  };
}

-- an event that arrives at no agent
pub ignored_nobody : (r : Reason) (past : History) (n : ℕ) (w : WorldState) (a : ℕ) (e : TimedEntry EventBody) (text : List ℕ) → (r ≡ Seen → ⊥) → None ≡ agent_at w a → GrowsBy (IsIgnored r past n w a e) text text
ignored_nobody r past n w a e text other none = record {
  more = [];
  added = sym (append-nil text);
  such = record { seen = λ q. absurd (other q); left = λ t some there. let states : None ≡ Some t = none ∙ there in absurd (cc states) };
}

pub tells_ignored : (r : Reason) (raised : Option ℕ) (carried : List (List ℕ)) (past : History) (n : ℕ) (w : WorldState) (action : Action) (line : Line) (a b : List ℕ) → line.answer ≡ answers.Ignored r → AddsSuch (OfIgnored r past n w action) n a b
    → AddsSuch (TellsAll true raised carried past n w action line) n a b
tells_ignored r raised carried past n w action line a b is h = record {
  reasons = h.reasons;
  some = h.some;
  added = h.added;
  such = record {
    merged = λ q. let bad : answers.Ignored r ≡ answers.Merged = sym is ∙ q in absurd (cc bad);
    ignored = λ k shown q.
        let both : answers.Ignored r ≡ answers.Ignored k = sym is ∙ q in
        let same : r ≡ k = cc both in
        subst (λ (x : Reason). OfIgnored x past n w action h.reasons) same h.such;
  };
}

-- ---- of the ideal agent

pub of-left : (r : Reason) (past : History) (n : ℕ) (before : List Cluster) (c d : Cluster) (w : WorldState) (action : Action) (reasons : List (List ℕ)) → HoldMarks before c past.marks → n ≡ length before + 1 → IsViewed d w → is_left r ≡ true
    → OfIgnored r past n w action reasons → OfLeftEvent r (before ++ c ∷ []) w.sent d action reasons
of-left r past n before c d w action reasons hold count view some ignored = λ a e m is at.
    let one = ignored a e is in
    let old : Mark = (numbers_of past.marks a).event_minimum in
    let s : ConcreteState = view_of m.agent in
    let many : n ≡ length (numbers_in events_min a before) + 1 = count ∙ ap (λ k. k + 1) (sym (length-map before (number_in events_min a))) in
    let detail : List ℕ = left_words (takes_events old s n) (codes "event") e.time (texts_told e.key) r in (
      detail,
      one.1 ∙ ap (λ (t : List ℕ). t ∷ []) (one.2.left s some (agent-is d w a m view at)),
      subst (λ (ns : List ℕ). IsLeft (codes "event") m.agent.events.minimum m.agent.events.clock m.agent.config.event_buffer m.agent.config.per_time ns e.time (texts_told e.key) r detail) (sym (map-append (number_in events_min a) before (c ∷ [])))
          (left-is old m.agent.events.minimum m.agent.events.clock m.agent.config.event_buffer m.agent.config.per_time n (codes "event") (numbers_in events_min a before) (number_in events_min a c) e.time (texts_told e.key) (hold a).event_minimum many r),
    )
