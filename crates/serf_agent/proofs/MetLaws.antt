-- What was met of a time, and what an opening leaves below its minimum time.
use Rattle.serf_agent.proofs.Names.{Bool, List, [], ap, arith, cond, false, filter, inl, inr, length, length-append, max, nat_le, nat_lt, refl, subst, sym, true, ℕ, ◌&&◌, ◌++◌, ◌+◌, ◌-◌, ◌<◌, ◌==◌, ◌^◌, ◌||◌, ◌∙◌, ◌∷◌, ◌≡◌, ◌≢◌, ◌≤◌, ◌⊎◌, cases_lt, eq-eqb, eqb-true, leb-true, true≢false, length-map, All-contains, All-contains_itself, All-filter, All-head, All-map, All-nil, All-push, All-tail, All-weaker, Contains-append_left, filter_passes, AllPairs-cons, AllPairs-filter, all_pairs_push, All, AllPairs, Contains, event_of_line, is_event_wanted, is_query_wanted, query_of_line, EntryFilter, same_id, Recalled, recalled, recalled_by, recalled_one, same_texts, TimedEntry, count_at, was_entered, New, Seen, TimeFull, TooOld, Past, entries_in, taken_back, HasMet, IsFull, IsMet, IsIdShort, IsShort, event_entry, kept_events, kept_queries, query_entry, whatever, within_reach, of_life, was_ever_entered}
use Rattle.serf_window.specs.declared.verdict.Verdict.TheVariants.{BelowMinimum}
use Rattle.serf_agent.proofs.KeepingLaws.{contained-entered, entered-contained, pairs-head, pairs-tail, same_texts-itself, same_texts-tells}
use Rattle.serf_agent.proofs.TrackLaws.{of-life}
use Rattle.serf_agent.proofs.KeptTextLaws.{reads_events, reads_queries, stands-read}

-- a test that is true of equal keys and of no others
pub record Tells {K : Type 0} (same : K → K → Bool) : Type 0 where
  pub itself : (a : K) → same a a ≡ true
  pub tells : (a b : K) → same a b ≡ true → a ≡ b

pub tells_texts : Tells same_texts
tells_texts = record { itself = same_texts-itself; tells = same_texts-tells }

pub tells_ids : Tells same_id
tells_ids = record { itself = λ a. eq-eqb a a refl; tells = λ a b h. eqb-true a b h }

-- ---- more is met

-- everything that was met according to the first two lists was met according to the other two
abbrev pub Wider : {K : Type 0} → List (TimedEntry K) → List (TimedEntry K) → List (TimedEntry K) → List (TimedEntry K) → Type 0
Wider {K} handed stood handed_more stood_more = (e : TimedEntry K) → IsMet handed stood e → IsMet handed_more stood_more e

pub wider-handed : {K : Type 0} (handed more stood : List (TimedEntry K)) → Wider handed stood (handed ++ more) stood
wider-handed handed more stood e (inl h) = inl (Contains-append_left handed more e h)
wider-handed handed more stood e (inr h) = inr h

pub wider-stood : {K : Type 0} (handed stood more : List (TimedEntry K)) → Wider handed stood handed (stood ++ more)
wider-stood handed stood more e (inl h) = inl h
wider-stood handed stood more e (inr h) = inr (Contains-append_left stood more e h)

pub has-met-wider : {K : Type 0} (k t : ℕ) (handed stood handed_more stood_more : List (TimedEntry K)) → Wider handed stood handed_more stood_more → HasMet k t handed stood → HasMet k t handed_more stood_more
has-met-wider {K} k t handed stood handed_more stood_more wider h = record {
  entries = h.entries;
  many = h.many;
  distinct = h.distinct;
  met = All-weaker (λ (e : TimedEntry K). (e.time ≡ t) × IsMet handed stood e) (λ (e : TimedEntry K). (e.time ≡ t) × IsMet handed_more stood_more e) (λ e m. (m.0, wider e m.1)) h.entries h.met;
}

pub full-wider : {K : Type 0} (k t : ℕ) (handed stood handed_more stood_more : List (TimedEntry K)) → Wider handed stood handed_more stood_more → IsFull k t handed stood → IsFull k t handed_more stood_more
full-wider k t handed stood handed_more stood_more wider (inl h) = inl (has-met-wider k t handed stood handed_more stood_more wider h)
full-wider k t handed stood handed_more stood_more wider (inr h) = inr (h.0, h.1, has-met-wider (k + 1) h.0 handed stood handed_more stood_more wider h.2)

-- ---- of a time

abbrev at : {K : Type 0} → ℕ → TimedEntry K → Bool
at t e = e.time == t

of-time : {K : Type 0} (t : ℕ) (P : TimedEntry K → Type 0) (es : List (TimedEntry K)) → All P es → All (λ e. (e.time ≡ t) × P e) (filter (at t) es)
of-time t P es all =
    let passes = filter_passes (at t) es in
    let holds = All-filter (at t) P es all in
    λ k d within. (eqb-true _ t (passes k d within), holds k d within)

count-filter : {K : Type 0} (t : ℕ) (es : List (TimedEntry K)) → count_at es t ≡ length (filter (at t) es)
count-filter {K} t es = length-map (filter (at t) es) (λ (e : TimedEntry K). e.key)

-- if a list of distinct entries that were met has k entries of a time, then k entries of this time were met
pub has-met-count : {K : Type 0} (k t : ℕ) (handed stood es : List (TimedEntry K)) → AllPairs (λ x y. x ≢ y) es → All (IsMet handed stood) es → k ≤ count_at es t → HasMet k t handed stood
has-met-count {K} k t handed stood es apart met many = record {
  entries = filter (at t) es;
  many = omega (arith, many, count-filter t es);
  distinct = AllPairs-filter (λ (x y : TimedEntry K). x ≢ y) (at t) es apart;
  met = of-time t (IsMet handed stood) es met;
}

-- an entry that isn't among others differs from each of them
unlike : {K : Type 0} (same : K → K → Bool) → Tells same → (es : List (TimedEntry K)) (e : TimedEntry K) → was_entered same es e.time e.key ≡ false → All (λ x. x ≢ e) es
unlike {K} same tells es e out =
    All-weaker (Contains es) (λ (x : TimedEntry K). x ≢ e)
    (λ x there is. true≢false (sym (subst (λ (y : TimedEntry K). was_entered same es y.time y.key ≡ true) is (entered-contained same tells.itself es x there)) ∙ out))
    es (All-contains_itself es)

-- if an entry that was met isn't in the list, then one entry more was met than it has
has-met-one-more : {K : Type 0} (same : K → K → Bool) → Tells same → (k : ℕ) (es all : List (TimedEntry K)) (e : TimedEntry K) → AllPairs (λ x y. x ≢ y) es → All (Contains all) es → Contains all e → was_entered same es e.time e.key ≡ false → k ≤ count_at es e.time → HasMet (k + 1) e.time [] all
has-met-one-more {K} same tells k es all e apart inside there out many =
    let some : List (TimedEntry K) = filter (at e.time) es in
    let long : length (some ++ e ∷ []) ≡ length some + 1 = length-append some (e ∷ []) in
    record {
      entries = some ++ e ∷ [];
      many = omega (arith, long, many, count-filter e.time es);
      distinct = all_pairs_push (λ (x y : TimedEntry K). x ≢ y) some e (AllPairs-filter (λ (x y : TimedEntry K). x ≢ y) (at e.time) es apart) (All-filter (at e.time) (λ (x : TimedEntry K). x ≢ e) es (unlike same tells es e out));
      met = All-push (λ (x : TimedEntry K). (x.time ≡ e.time) × IsMet [] all x) some e
          (of-time e.time (IsMet [] all) es (All-weaker (Contains all) (IsMet [] all) (λ x h. inr h) es inside)) (refl, inr there);
    }

-- ---- an opening

-- No time is refused, unless it is below a minimum time, or was left out because of a time of which more than k entries
-- are among these.
abbrev pub IsLow : {K : Type 0} → ℕ → ℕ → List (TimedEntry K) → ℕ → Type 0
IsLow k lowest all minimum = (minimum ≤ lowest) ⊎ ((t : ℕ) × (minimum ≤ t + 1) × HasMet (k + 1) t [] all)

record Good {K : Type 0} (k lowest : ℕ) (all : List (TimedEntry K)) (r : Recalled K) : Type 0 where
  inside : All (Contains all) r.entries
  apart : AllPairs (λ x y. x ≢ y) r.entries
  low : IsLow k lowest all r.minimum

good-one : {K : Type 0} (same : K → K → Bool) → Tells same → (n k clock lowest : ℕ) (all : List (TimedEntry K)) (r : Recalled K) (e : TimedEntry K) → Good k lowest all r → Contains all e → Good k lowest all (recalled_one same n k clock r e)
good-one {K} same tells n k clock lowest all r e h there = by (nat_lt e.time r.minimum) (nat_lt (e.time + n) clock) (was_entered same r.entries e.time e.key) (nat_le k (count_at r.entries e.time)) refl refl
  where
    full : was_entered same r.entries e.time e.key ≡ false → nat_le k (count_at r.entries e.time) ≡ true → IsLow k lowest all (max r.minimum (e.time + 1))
    full out many = elim (cases_lt (e.time + 1) r.minimum) [
      | inl under ↦ subst (IsLow k lowest all) (let same : r.minimum ≡ max r.minimum (e.time + 1) = omega arith in same) h.low
      | inr over ↦ inr (e.time, omega (arith, over), has-met-one-more same tells k r.entries all e h.apart h.inside there out (leb-true k (count_at r.entries e.time) many))
    ]

    by : (below old seen many : Bool) → was_entered same r.entries e.time e.key ≡ seen → nat_le k (count_at r.entries e.time) ≡ many
        → Good k lowest all (recalled_by (cond below BelowMinimum (cond old TooOld (cond seen Seen (cond many TimeFull New)))) r e)
    by true old seen many s m = h
    by false true seen many s m = h
    by false false true many s m = h
    by false false false true s m = record { inside = h.inside; apart = h.apart; low = full s m }
    by false false false false s m = record {
      inside = All-push (Contains all) r.entries e h.inside there;
      apart = all_pairs_push (λ (x y : TimedEntry K). x ≢ y) r.entries e h.apart (unlike same tells r.entries e s);
      low = h.low;
    }

good-all : {K : Type 0} (same : K → K → Bool) → Tells same → (n k clock lowest : ℕ) (all : List (TimedEntry K)) (r : Recalled K) (es : List (TimedEntry K)) → Good k lowest all r → All (Contains all) es → Good k lowest all (recalled same n k clock r es)
good-all same tells n k clock lowest all r [] h inside = h
good-all same tells n k clock lowest all r (e ∷ es) h inside =
    good-all same tells n k clock lowest all (recalled_one same n k clock r e) es (good-one same tells n k clock lowest all r e h (All-head (Contains all) e es inside)) (All-tail (Contains all) e es inside)

pub low-back : {K : Type 0} (same : K → K → Bool) → Tells same → (n k last lowest : ℕ) (kept : List (TimedEntry K)) → IsLow k lowest kept (taken_back same n k last lowest kept).minimum
low-back same tells n k last lowest kept =
    (good-all same tells n k (max (last + 1) lowest) lowest kept (record { entries = []; minimum = lowest }) kept
    (record { inside = All-nil (Contains kept); apart = λ i j d lt within. absurd (omega arith); low = inl (omega arith) }) (All-contains_itself kept)).low

-- what an opening reads from a text is in the text
abbrev pub Stands : {K : Type 0} → (EntryFilter → List ℕ → List (TimedEntry K)) → Type 0
Stands {K} read = (n last lowest : ℕ) (text : List ℕ) (e : TimedEntry K) → last < 2 ^ 64 - 1 → Contains (read (within_reach n last lowest) text) e → Contains (read whatever text) e

pub events-stand : Stands kept_events
events-stand = stands-read event_of_line is_event_wanted event_entry IsShort reads_events

pub queries-stand : Stands kept_queries
queries-stand = stands-read query_of_line is_query_wanted query_entry IsIdShort reads_queries

-- ---- what was entered

-- an entry that was ever entered is in the history
ever-contained : {K : Type 0} (same : K → K → Bool) → Tells same → (history : List (Past K)) (e : TimedEntry K) → was_ever_entered same history e.time e.key ≡ true → Contains (entries_in history) e
ever-contained same tells [] e h = absurd (cc h)
ever-contained {K} same tells (p ∷ ps) e h = contained-entered same tells.tells (entries_in (p ∷ ps)) e (ever-entries (p ∷ ps) e.time e.key ∙ h)
  where
    ever-entries : (history : List (Past K)) (t : ℕ) (what : K) → was_entered same (entries_in history) t what ≡ was_ever_entered same history t what
    ever-entries [] t what = refl
    ever-entries (p ∷ ps) t what = ap (λ (b : Bool). ((p.entry.time == t) && same p.entry.key what) || b) (ever-entries ps t what)

pub ever-met : {K : Type 0} (same : K → K → Bool) → Tells same → (P : TimedEntry K → Type 0) (history : List (Past K)) (e : TimedEntry K) → All (λ p. P p.entry) history → was_ever_entered same history e.time e.key ≡ true → P e
ever-met {K} same tells P history e all is = All-contains P (entries_in history) e (All-map P (λ (p : Past K). p.entry) history all) (ever-contained same tells history e is)

-- what was entered in a life is met, and no two of these entries are the same
pub has-met-life : {K : Type 0} (k t life : ℕ) (handed stood : List (TimedEntry K)) (history : List (Past K)) → AllPairs (λ p q. p.entry ≢ q.entry) history → All (λ p. IsMet handed stood p.entry) history → k ≤ count_at (of_life life history) t → HasMet k t handed stood
has-met-life {K} k t life handed stood history apart met many =
    has-met-count k t handed stood (of_life life history) (pairs-map (filter (λ (p : Past K). p.life == life) history) (AllPairs-filter (λ (p q : Past K). p.entry ≢ q.entry) (λ (p : Past K). p.life == life) history apart))
    (of-life (IsMet handed stood) life history met) many
  where
    pairs-map : (ps : List (Past K)) → AllPairs (λ p q. p.entry ≢ q.entry) ps → AllPairs (λ x y. x ≢ y) (entries_in ps)
    pairs-map [] h = λ i j d lt within. absurd (omega arith)
    pairs-map (p ∷ ps) h =
        AllPairs-cons (λ (x y : TimedEntry K). x ≢ y) p.entry (entries_in ps) (All-map (λ (y : TimedEntry K). p.entry ≢ y) (λ (q : Past K). q.entry) ps (pairs-head (λ (x y : Past K). x.entry ≢ y.entry) p ps h)) (pairs-map ps (pairs-tail (λ (x y : Past K). x.entry ≢ y.entry) p ps h))
