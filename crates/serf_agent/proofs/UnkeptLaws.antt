-- What the durable text of an agent that keeps no events has: its clock lines show that everything up to them was
-- handed out.
use Rattle.serf_agent.proofs.Names.{Bool, List, Some, [], ap, append-nil, arith, cond, false, inl, inr, map, max, nat_le, refl, subst, sym, true, ℕ, ◌++◌, ◌+◌, ◌-◌, ◌<◌, ◌==◌, ◌^◌, ◌∙◌, ◌∷◌, ◌≡◌, ◌≢◌, ◌≤◌, ◌⊎◌, eqb-false, eqb-true, leb-false, leb-true, All-push, All-weaker, Contains, EventBody, clock_line, compacted_text, is_whole, line_above_zero, lines_of, sealed, Device, events_in, min_in, min_of_lines, queries_in, AreTimes, IsSnapshotSound, Kept, compaction_of, noted, opened, written, EntryFilter, ClockKind, TimedEntry, event_entered, IdealAgent, Past, with_snapshot, HasKept, AreKept, KeptEventLaws, KeptQueryLaws, event_entry, kept_events, kept_queries, query_entry, whatever, query_entered, restarted, restarted_by, IsSound, HasSaid, IsSaid, IsSaidSound, UnkeptLaws}
use Rattle.serf_snapshot.specs.declared.kind.ClockKind.TheVariants as kinds
use Rattle.serf_agent.proofs.KeptRestartLaws.{sealed-kept}
use Rattle.serf_agent.proofs.KeptStepLaws.{appended}

-- ---- what the crates below promise

pub record BelowUnkept : Type 0 where
  pub event_texts : KeptEventLaws
  pub query_texts : KeptQueryLaws
  pub min_grows : (k : ClockKind) (front tail : List ℕ) → min_in k front ≤ min_in k (front ++ tail)
  pub min_clock_line : (k : ClockKind) (text : List ℕ) (t : ℕ) → is_whole text ≡ true → 0 < t → t < 2 ^ 64 - 1 → min_in k (text ++ clock_line k t) ≡ max (min_in k text) (t + 1)
  pub min_sealed : (k : ClockKind) (text : List ℕ) → min_in k (sealed text) ≡ min_in k text
  pub events_sealed : (w : EntryFilter) (text : List ℕ) → events_in w (sealed text) ≡ events_in w text
  pub queries_sealed : (w : EntryFilter) (text : List ℕ) → queries_in w (sealed text) ≡ queries_in w text
  pub compacted_whole : (m e q : ℕ) → is_whole (compacted_text m e q) ≡ true

-- ---- a time that enters

said-grows : BelowUnkept → (kind : ClockKind) (minimum last : ℕ) (text more : List ℕ) → IsSaid kind minimum last text → IsSaid kind minimum last (text ++ more)
said-grows laws kind minimum last text more (inl low) = inl low
said-grows laws kind minimum last text more (inr said) = inr (omega (arith, said, laws.min_grows kind text more))

-- a time at or below the last line enters
said-below : (kind : ClockKind) (minimum last t : ℕ) (text : List ℕ) → IsSaid kind minimum last text → minimum ≤ t → t ≤ last → t < min_in kind text
said-below kind minimum last t text (inl low) from up = absurd (omega arith)
said-below kind minimum last t text (inr said) from up = omega arith

-- a time above the last line enters
said-above : BelowUnkept → (kind : ClockKind) (minimum t : ℕ) (text : List ℕ) → is_whole text ≡ true → 0 < t → t < 2 ^ 64 - 1 → IsSaid kind minimum t (text ++ clock_line kind t)
said-above laws kind minimum t text whole some small = inr (omega (arith, laws.min_clock_line kind text t whole some small))

-- what enters at or below the last line is below the minimum time of the text
entered-below : {K : Type 0} (kind : ClockKind) (read : EntryFilter → List ℕ → List (TimedEntry K)) (history : List (Past K)) (p : Past K) (minimum last : ℕ) (text : List ℕ) → IsSaid kind minimum last text → minimum ≤ p.entry.time → nat_le p.entry.time last ≡ true → AreKept kind read history text → AreKept kind read (history ++ p ∷ []) text
entered-below {K} kind read history p minimum last text said from low kept =
    All-push (λ (q : Past K). (q.entry.time < min_in kind text) ⊎ Contains (read whatever text) q.entry) history p kept (inl (said-below kind minimum last p.entry.time text said from (leb-true p.entry.time last low)))

enters_event : BelowUnkept → (t : ℕ) (what : EventBody) (i : IdealAgent) → IsSaidSound i → IsSnapshotSound i.snapshot → i.snapshot.stopped ≡ false → i.events.minimum ≤ t → t < 2 ^ 64 - 1
    → IsSaidSound (with_snapshot (noted kinds.Event t i.snapshot Kept) (event_entered t what i))
enters_event laws t what i had sound runs from small durable = by (nat_le t i.snapshot.event_clock) refl
  where
    p : Past EventBody
    p = record { life = i.life; entry = record { time = t; key = what } }

    line : List ℕ
    line = clock_line kinds.Event t

    by : (b : Bool) → nat_le t i.snapshot.event_clock ≡ b → (cond b i.snapshot (written kinds.Event t i.snapshot Kept)).durable ≡ Some durable
        → HasSaid (with_snapshot (cond b i.snapshot (written kinds.Event t i.snapshot Kept)) (event_entered t what i)) durable
    by true low at = let before : HasSaid i durable = had durable at in record {
      kept = record { events = entered-below kinds.Event kept_events i.events.history p i.events.minimum i.snapshot.event_clock durable before.events from low before.kept.events; queries = before.kept.queries };
      events = before.events;
      queries = before.queries;
    }
    by false high at =
        let above : i.snapshot.event_clock < t = leb-false t i.snapshot.event_clock high in
        let some : 0 < t = omega arith in
        appended (HasSaid i) (HasSaid (with_snapshot (written kinds.Event t i.snapshot Kept) (event_entered t what i))) i.snapshot line durable had sound runs (λ old whole before. record {
          kept = record {
            events = laws.event_texts.clock_line_kept i.events.history old i.life t t what whole (omega arith) some small before.kept.events;
            queries = laws.query_texts.grows i.queries.history old line before.kept.queries;
          };
          events = said-above laws kinds.Event i.events.minimum t old whole some small;
          queries = said-grows laws kinds.Query i.queries.minimum i.snapshot.query_clock old line before.queries;
        }) at

enters_query : BelowUnkept → (t id : ℕ) (i : IdealAgent) → IsSaidSound i → IsSnapshotSound i.snapshot → i.snapshot.stopped ≡ false → i.queries.minimum ≤ t → t < 2 ^ 64 - 1
    → IsSaidSound (with_snapshot (noted kinds.Query t i.snapshot Kept) (query_entered t id i))
enters_query laws t id i had sound runs from small durable = by (nat_le t i.snapshot.query_clock) refl
  where
    p : Past ℕ
    p = record { life = i.life; entry = record { time = t; key = id } }

    line : List ℕ
    line = clock_line kinds.Query t

    by : (b : Bool) → nat_le t i.snapshot.query_clock ≡ b → (cond b i.snapshot (written kinds.Query t i.snapshot Kept)).durable ≡ Some durable
        → HasSaid (with_snapshot (cond b i.snapshot (written kinds.Query t i.snapshot Kept)) (query_entered t id i)) durable
    by true low at = let before : HasSaid i durable = had durable at in record {
      kept = record { events = before.kept.events; queries = entered-below kinds.Query kept_queries i.queries.history p i.queries.minimum i.snapshot.query_clock durable before.queries from low before.kept.queries };
      events = before.events;
      queries = before.queries;
    }
    by false high at =
        let above : i.snapshot.query_clock < t = leb-false t i.snapshot.query_clock high in
        let some : 0 < t = omega arith in
        appended (HasSaid i) (HasSaid (with_snapshot (written kinds.Query t i.snapshot Kept) (query_entered t id i))) i.snapshot line durable had sound runs (λ old whole before. record {
          kept = record {
            events = laws.event_texts.grows i.events.history old line before.kept.events;
            queries = laws.query_texts.clock_line_kept i.queries.history old i.life t t id whole (omega arith) some small before.kept.queries;
          };
          events = said-grows laws kinds.Event i.events.minimum i.snapshot.event_clock old line before.events;
          queries = said-above laws kinds.Query i.queries.minimum t old whole some small;
        }) at

-- ---- openings and compactions

restarts : BelowUnkept → (i : IdealAgent) (text : List ℕ) (d : Device) → i.config.keep_events ≡ false → HasKept i text → HasSaid (restarted text (opened text d) i) (sealed text)
restarts laws i text d keeps had =
    subst (λ (b : Bool). HasSaid (restarted_by b text (opened text d) i) (sealed text)) (sym keeps) (record {
      kept = record {
        events = sealed-kept kinds.Event kept_events i.events.history text (laws.min_sealed kinds.Event text) (ap (map event_entry) (laws.events_sealed whatever text)) had.events;
        queries = sealed-kept kinds.Query kept_queries i.queries.history text (laws.min_sealed kinds.Query text) (ap (map query_entry) (laws.queries_sealed whatever text)) had.queries;
      };
      events = inl (omega arith);
      queries = inl (omega arith);
    })

lowest-some : (k : ClockKind) (ls : List (List ℕ)) → 1 ≤ min_of_lines k ls
lowest-some k [] = omega arith
lowest-some k (l ∷ ls) = let ih : 1 ≤ min_of_lines k ls = lowest-some k ls in omega arith

line-said : BelowUnkept → (kind : ClockKind) (text : List ℕ) (t : ℕ) → is_whole text ≡ true → t < 2 ^ 64 - 1 → t < min_in kind (text ++ line_above_zero kind t)
line-said laws kind text t whole small = by (t == 0) refl
  where
    by : (b : Bool) → (t == 0) ≡ b → t < min_in kind (text ++ cond b [] (clock_line kind t))
    by true zero = let none : t ≡ 0 = eqb-true t 0 zero in let some : 1 ≤ min_in kind (text ++ []) = lowest-some kind (lines_of (text ++ [])) in omega arith
    by false more = let ne : t ≢ 0 = eqb-false t 0 more in omega (arith, laws.min_clock_line kind text t whole (omega arith) small)

compacts : BelowUnkept → (i : IdealAgent) → IsSound i → AreTimes i.snapshot → HasSaid i (compaction_of i.snapshot)
compacts laws i sound times =
    let s = i.snapshot in
    let m : List ℕ = line_above_zero kinds.Member i.snapshot.member_clock in
    let e : List ℕ = line_above_zero kinds.Event i.snapshot.event_clock in
    let q : List ℕ = line_above_zero kinds.Query i.snapshot.query_clock in
    let whole_m : is_whole m ≡ true = ap is_whole (sym (append-nil (m ++ []) ∙ append-nil m)) ∙ laws.compacted_whole i.snapshot.member_clock 0 0 in
    let whole_e : is_whole (m ++ e) ≡ true = ap is_whole (sym (append-nil (m ++ e))) ∙ laws.compacted_whole i.snapshot.member_clock i.snapshot.event_clock 0 in
    let event_line : i.snapshot.event_clock < min_in kinds.Event (m ++ e) = line-said laws kinds.Event m i.snapshot.event_clock whole_m times.event_clock in
    let event_said : i.snapshot.event_clock < min_in kinds.Event ((m ++ e) ++ q) = omega (arith, event_line, laws.min_grows kinds.Event (m ++ e) q) in
    let query_said : i.snapshot.query_clock < min_in kinds.Query ((m ++ e) ++ q) = line-said laws kinds.Query (m ++ e) i.snapshot.query_clock whole_e times.query_clock in
    record {
      kept = record {
        events = All-weaker (λ (p : Past EventBody). p.entry.time ≤ i.snapshot.event_clock) (λ (p : Past EventBody). (p.entry.time < min_in kinds.Event ((m ++ e) ++ q)) ⊎ Contains (kept_events whatever ((m ++ e) ++ q)) p.entry)
            (λ p low. inl (omega (arith, low, event_said))) i.events.history sound.events.noted;
        queries = All-weaker (λ (p : Past ℕ). p.entry.time ≤ i.snapshot.query_clock) (λ (p : Past ℕ). (p.entry.time < min_in kinds.Query ((m ++ e) ++ q)) ⊎ Contains (kept_queries whatever ((m ++ e) ++ q)) p.entry)
            (λ p low. inl (omega (arith, low, query_said))) i.queries.history sound.queries.noted;
      };
      events = inr event_said;
      queries = inr query_said;
    }

pub unkept_laws : BelowUnkept → UnkeptLaws
unkept_laws laws = record { restarts = restarts laws; enters_event = enters_event laws; enters_query = enters_query laws; compacts = compacts laws }
