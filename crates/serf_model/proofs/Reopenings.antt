-- The histories of an agent after it was opened again: they keep what they had and, if the settings keep events, they
-- also have what the text keeps. In the new life, they have at most as many entries of one time as the settings allow.
use Rattle.serf_model.proofs.Names.{Bool, List, None, Option, Some, [], arith, cond, false, length, map, nat_le, nat_lt, refl, subst, sym, true, ℕ, ◌++◌, ◌+◌, ◌-◌, ◌<◌, ◌^◌, ◌∷◌, ◌≡◌, ◌≤◌, and_from, and_parts, le-leb, leb-false, leb-true, lt-ltb, ltb-true, map-append, All-append, All-cons, All-contains, All-contains_itself, All-head, All-map, All-nil, All-tail, All-weaker, Contains-append_left, Contains-append_right, All, Contains, EventBody, last_clock, lines_of, fresh_device, event_of_line, events_of_lines, if_event_wanted, is_event_wanted, is_time_wanted, min_in, SnapshotView, opened, TimedEvent, EntryFilter, same_id, Recalled, recalled, recalled_by, recalled_one, same_texts, TimedEntry, count_at, was_entered, IdealAgent, Past, opened_clock, taken_back, events_reached, queries_reached, event_entry, kept_events, whatever, within_reach, restarted_by, IsSound, of_life, Config, Below, AtMostOfOneTime, reopened}
use Rattle.serf_snapshot.specs.declared.kind.ClockKind.TheVariants as kinds
use Rattle.serf_window.specs.declared.verdict.Verdict.TheVariants as verdicts
use Rattle.serf_model.proofs.PerTimeBound.{at_most-push, entries, none-of-next}

-- a history in the next life: nothing is forgotten, and at most k entries of the new life have the same time
pub record Begins {K : Type 0} (life k : ℕ) (old new : List (Past K)) : Type 0 where
  pub grown : All (Contains (entries new)) (entries old)
  pub few : AtMostOfOneTime k (of_life (life + 1) new)

-- ---- what is restored

few-one : {K : Type 0} (same : K → K → Bool) (n k clock : ℕ) (r : Recalled K) (e : TimedEntry K) → AtMostOfOneTime k r.entries → AtMostOfOneTime k (recalled_one same n k clock r e).entries
few-one {K} same n k clock r e few = by (nat_lt e.time r.minimum) (nat_lt (e.time + n) clock) (was_entered same r.entries e.time e.key) (nat_le k (count_at r.entries e.time)) refl
  where
    by : (below old seen full : Bool) → nat_le k (count_at r.entries e.time) ≡ full
        → AtMostOfOneTime k (recalled_by (cond below verdicts.BelowMinimum (cond old verdicts.TooOld (cond seen verdicts.Seen (cond full verdicts.TimeFull verdicts.New)))) r e).entries
    by true old seen full is = few
    by false true seen full is = few
    by false false true full is = few
    by false false false true is = few
    by false false false false is = at_most-push k r.entries e (leb-false _ _ is) few

few-recalled : {K : Type 0} (same : K → K → Bool) (n k clock : ℕ) (r : Recalled K) (es : List (TimedEntry K)) → AtMostOfOneTime k r.entries → AtMostOfOneTime k (recalled same n k clock r es).entries
few-recalled same n k clock r [] few = few
few-recalled same n k clock r (e ∷ es) few = few-recalled same n k clock (recalled_one same n k clock r e) es (few-one same n k clock r e few)

few-back : {K : Type 0} (same : K → K → Bool) (n k last lowest : ℕ) (kept : List (TimedEntry K)) → AtMostOfOneTime k (taken_back same n k last lowest kept).entries
few-back {K} same n k last lowest kept = few-recalled same n k (opened_clock last lowest) (record { entries = []; minimum = lowest }) kept (λ t. omega arith)

-- ---- openings

begins-same : {K : Type 0} (life k : ℕ) (h : List (Past K)) → All (λ p. p.life ≤ life) h → Begins life k h h
begins-same life k h lives = record { grown = All-contains_itself (entries h); few = subst (AtMostOfOneTime k) (sym (none-of-next life h lives)) (λ t. omega arith) }

begins-events : Below → (i : IdealAgent) (text : List ℕ) (s : SnapshotView) → IsSound i → (b : Bool) → Begins i.life i.config.per_time i.events.history (restarted_by b text s i).events.history
begins-events lower i text s sound true =
    let kept : List (TimedEntry EventBody) = events_reached i.config s.event_clock text in
    let lowest : ℕ = min_in kinds.Event text in
    record {
      grown = lower.keeps.events.grown i.config.event_buffer i.config.per_time (i.life + 1) s.event_clock lowest kept i.events;
      few = subst (AtMostOfOneTime i.config.per_time) (sym (lower.keeps.events.view i.config.event_buffer i.config.per_time i.life s.event_clock lowest kept i.events sound.events.lives))
          (few-back same_texts i.config.event_buffer i.config.per_time s.event_clock lowest kept);
    }
begins-events lower i text s sound false = begins-same i.life i.config.per_time i.events.history sound.events.lives

begins-queries : Below → (i : IdealAgent) (text : List ℕ) (s : SnapshotView) → IsSound i → (b : Bool) → Begins i.life i.config.per_time i.queries.history (restarted_by b text s i).queries.history
begins-queries lower i text s sound true =
    let kept : List (TimedEntry ℕ) = queries_reached i.config s.query_clock text in
    let lowest : ℕ = min_in kinds.Query text in
    record {
      grown = lower.keeps.queries.grown i.config.query_buffer i.config.per_time (i.life + 1) s.query_clock lowest kept i.queries;
      few = subst (AtMostOfOneTime i.config.per_time) (sym (lower.keeps.queries.view i.config.query_buffer i.config.per_time i.life s.query_clock lowest kept i.queries sound.queries.lives))
          (few-back same_id i.config.query_buffer i.config.per_time s.query_clock lowest kept);
    }
begins-queries lower i text s sound false = begins-same i.life i.config.per_time i.queries.history sound.queries.lives

pub events-reopened : Below → (i : IdealAgent) (text : List ℕ) → IsSound i → Begins i.life i.config.per_time i.events.history (reopened i text).events.history
events-reopened lower i text sound = begins-events lower i text (opened text (fresh_device text)) sound i.config.keep_events

pub queries-reopened : Below → (i : IdealAgent) (text : List ℕ) → IsSound i → Begins i.life i.config.per_time i.queries.history (reopened i text).queries.history
queries-reopened lower i text sound = begins-queries lower i text (opened text (fresh_device text)) sound i.config.keep_events

-- ---- what a filter selects from a text is in the text

wanted-whatever : (w : EntryFilter) (e : TimedEvent) → w.below ≤ 2 ^ 64 - 1 → w.longest ≤ 2 ^ 64 - 1 → is_event_wanted w e ≡ true → is_event_wanted whatever e ≡ true
wanted-whatever w e below longest is =
    let size : ℕ = length e.name + length e.payload in
    let parts = and_parts (is_time_wanted w e.time) (nat_le size w.longest) is in
    let time = and_parts (nat_le w.from e.time) (nat_lt e.time w.below) parts.0 in
    let early : e.time < w.below = ltb-true _ _ time.1 in
    let short : size ≤ w.longest = leb-true _ _ parts.1 in
    and_from (is_time_wanted whatever e.time) (nat_le size (2 ^ 64 - 1)) (and_from (nat_le 0 e.time) (nat_lt e.time (2 ^ 64 - 1)) (le-leb 0 e.time (omega arith)) (lt-ltb e.time (2 ^ 64 - 1) (omega arith)))
    (le-leb size (2 ^ 64 - 1) (omega arith))

abbrev entries_of_lines : EntryFilter → List (List ℕ) → List (TimedEntry EventBody)
entries_of_lines w lines = map event_entry (events_of_lines w lines)

within-lines : (w : EntryFilter) → w.below ≤ 2 ^ 64 - 1 → w.longest ≤ 2 ^ 64 - 1 → (lines : List (List ℕ)) → All (Contains (entries_of_lines whatever lines)) (entries_of_lines w lines)
within-lines w below longest [] = All-nil (Contains [])
within-lines w below longest (l ∷ ls) =
    let all : List (TimedEntry EventBody) = map event_entry (if_event_wanted whatever (event_of_line l)) in
    let more : List (TimedEntry EventBody) = entries_of_lines whatever ls in
    let whole : entries_of_lines whatever (l ∷ ls) ≡ all ++ more = map-append event_entry (if_event_wanted whatever (event_of_line l)) (events_of_lines whatever ls) in
    subst (λ (es : List (TimedEntry EventBody)). All (Contains es) (entries_of_lines w (l ∷ ls))) (sym whole)
    (subst (All (Contains (all ++ more))) (sym (map-append event_entry (if_event_wanted w (event_of_line l)) (events_of_lines w ls)))
    (All-append (Contains (all ++ more)) (map event_entry (if_event_wanted w (event_of_line l))) (entries_of_lines w ls)
    (All-weaker (Contains all) (Contains (all ++ more)) (λ e c. Contains-append_left all more e c) (map event_entry (if_event_wanted w (event_of_line l))) (one (event_of_line l)))
    (All-weaker (Contains more) (Contains (all ++ more)) (λ e c. Contains-append_right all more e c) (entries_of_lines w ls) (within-lines w below longest ls))))
  where
    one : (o : Option TimedEvent) → All (Contains (map event_entry (if_event_wanted whatever o))) (map event_entry (if_event_wanted w o))
    one None = All-nil (Contains [])
    one (Some e) = by (is_event_wanted w e) refl
      where
        by : (b : Bool) → is_event_wanted w e ≡ b → All (Contains (map event_entry (cond (is_event_wanted whatever e) (e ∷ []) []))) (map event_entry (cond b (e ∷ []) []))
        by false is = All-nil (Contains (map event_entry (cond (is_event_wanted whatever e) (e ∷ []) [])))
        by true is =
            subst (λ (b : Bool). All (Contains (map event_entry (cond b (e ∷ []) []))) (event_entry e ∷ [])) (sym (wanted-whatever w e below longest is)) (All-contains_itself (event_entry e ∷ []))

-- so what holds of everything in a text holds of what is restored from it
reached-have : Below → (P : TimedEntry EventBody → Type 0) (config : Config) (text : List ℕ) → All P (kept_events whatever text) → All P (events_reached config (last_clock kinds.Event text) text)
reached-have lower P config text all =
    let last = lower.clock_below kinds.Event text in
    let w : EntryFilter = within_reach config.event_buffer (last_clock kinds.Event text) (min_in kinds.Event text) in
    All-weaker (Contains (kept_events whatever text)) P (λ e c. All-contains P (kept_events whatever text) e all c) (kept_events w text) (within-lines w (omega arith) (omega arith) (lines_of text))

-- what holds of the entries of a history holds of the history
pub of-entries : (P : TimedEntry EventBody → Type 0) (ps : List (Past EventBody)) → All P (entries ps) → All (λ p. P p.entry) ps
of-entries P [] h = All-nil (λ (p : Past EventBody). P p.entry)
of-entries P (p ∷ ps) h = All-cons (λ (q : Past EventBody). P q.entry) p ps (All-head P p.entry (entries ps) h) (of-entries P ps (All-tail P p.entry (entries ps) h))

-- what holds of everything that was entered, and of everything in the text if it is restored, holds of everything that
-- is entered in the next life
pub reopened-have : Below → (P : TimedEntry EventBody → Type 0) (i : IdealAgent) (text : List ℕ) → All (λ p. P p.entry) i.events.history → (i.config.keep_events ≡ true → All P (kept_events whatever text)) → All (λ p. P p.entry) (reopened i text).events.history
reopened-have lower P i text all says = by i.config.keep_events refl
  where
    by : (b : Bool) → i.config.keep_events ≡ b → All (λ p. P p.entry) (restarted_by b text (opened text (fresh_device text)) i).events.history
    by false none = all
    by true keeps =
        let last : ℕ = last_clock kinds.Event text in
        let lowest : ℕ = min_in kinds.Event text in
        let kept : List (TimedEntry EventBody) = events_reached i.config last text in
        let both : All P (entries i.events.history ++ kept) =
        All-append P (entries i.events.history) kept (All-map P (λ (p : Past EventBody). p.entry) i.events.history all) (reached-have lower P i.config text (says keeps)) in
        let new : List (Past EventBody) = (restarted_by true text (opened text (fresh_device text)) i).events.history in
        of-entries P new
        (All-weaker (Contains (entries i.events.history ++ kept)) P (λ e c. All-contains P (entries i.events.history ++ kept) e both c) (entries new)
        (lower.keeps.events.only_kept i.config.event_buffer i.config.per_time (i.life + 1) last lowest kept i.events))
