-- The minimum time that was set by a join that ignores old events is remembered, in this life and in later ones.
use Rattle.serf_agent.proofs.Names.{Bool, List, None, Option, Some, [], ap, arith, cond, false, max, refl, subst, sym, true, ℕ, ◌&&◌, ◌++◌, ◌+◌, ◌∙◌, ◌∷◌, ◌≡◌, ◌≤◌, and_from, All-append, All-cons, All-head, All-nil, All-tail, All, PushPull, EventBody, last_clock, sealed, Device, min_in, min_line, kept_bytes, kept_compaction_of, Failed, Kept, MayReplaceBy, SnapshotView, Writing, noted, opened, text_replaced, written, ClockKind, same_texts, TimedEntry, AsksSink, ended, event_entered, written_event, IdealAgent, with_config, with_snapshot, taken_back, KeepsOn, RemembersJoins, kept_lines, IsDurable, IsActWritable, MayGoOn, MayGoOnLives, events_reached, Act, Asks, Closes, Compacts, Fires, Gets, Hears, Lived, MayAct, Opens, Saves, Takes, acted, after, events_out, first_life, lived, query_entered, written_query, restarted, restarted_by, IsSound, heard_by, joined, written_lines, MayAppendLine, appended_with, text_with, view_of, Config}
use Rattle.serf_snapshot.specs.declared.kind.ClockKind.TheVariants as kinds
use Rattle.serf_agent.proofs.ActMoves.{IsAppended, Noting, acts, compacted, heard}
use Rattle.serf_agent.proofs.DurableLaws.{replaced-holds, opened-durable}
use Rattle.serf_agent.proofs.HandsOutLaws.{BelowHandsOut, compaction-events, tells-own, whole-durable}
use Rattle.serf_agent.proofs.KeptLifeLaws.{begins_durable, disk_suffices, durable-lived, may-go, stays_durable}
use Rattle.serf_agent.proofs.KeptStepLaws.{GrowsTo, failed-grows, grown-durable, noted-grows, stays-so}
use Rattle.serf_agent.proofs.LifeLaws.{keeps, keeps-first, moves}

-- ---- what stays true

-- Nothing below this time is accepted, in this life and in those after it.
record Remembers (lowest : ℕ) (i : IdealAgent) : Type 0 where
  keeps : i.config.keep_events ≡ true
  minimum : lowest ≤ i.events.minimum
  durable : (text : List ℕ) → i.snapshot.durable ≡ Some text → lowest ≤ min_in kinds.Event text

rises : BelowHandsOut → (lowest : ℕ) (i j : IdealAgent) → j.config.keep_events ≡ i.config.keep_events → i.events.minimum ≤ j.events.minimum → GrowsTo i.snapshot.durable j.snapshot.durable → Remembers lowest i → Remembers lowest j
rises laws lowest i j keeps up grows r = record {
  keeps = keeps ∙ r.keeps;
  minimum = omega (arith, up, r.minimum);
  durable = λ text at.
      let g = grows text at in
      let more : min_in kinds.Event g.0 ≤ min_in kinds.Event (g.0 ++ g.1) = laws.kept.durable.min_grows kinds.Event g.0 g.1 in
      let same : min_in kinds.Event (g.0 ++ g.1) ≡ min_in kinds.Event text = ap (min_in kinds.Event) g.3 in
      omega (arith, r.durable g.0 g.2, more, same);
}

-- an act leaves it true that nothing below the time is accepted, and hands out nothing below it
record Holds (lowest : ℕ) (j : IdealAgent) (out : List (TimedEntry EventBody)) : Type 0 where
  then : Remembers lowest j
  none_below : All (λ e. lowest ≤ e.time) out

quietly : (lowest : ℕ) (j : IdealAgent) → Remembers lowest j → Holds lowest j []
quietly lowest j r = record { then = r; none_below = All-nil (λ (e : TimedEntry EventBody). lowest ≤ e.time) }

-- ---- acts

-- nothing below the time is accepted after appending a line failed, whatever the line is
failed : BelowHandsOut → (lowest : ℕ) (i : IdealAgent) (kind : ClockKind) (t : ℕ) (line durable : Option (List ℕ)) → Remembers lowest i → MayAppendLine kind t line i.snapshot (Failed durable) → Remembers lowest (with_snapshot (written kind t i.snapshot (Failed durable)) i)
failed laws lowest i kind t line durable h may = rises laws lowest i (with_snapshot (written kind t i.snapshot (Failed durable)) i) refl (omega arith) (failed-grows kind t line durable i.snapshot may) h

-- each appended line leaves it true that nothing below the time is accepted, and nothing below it is handed out
noting : BelowHandsOut → (lowest : ℕ) (i : IdealAgent) (Written : Type 0) → Remembers lowest i → Noting i Written (λ j events entered out. Holds lowest j events)
noting laws lowest i Written h = record {
  quiet = λ j q sound. quietly lowest j (rises laws lowest i j (ap (λ (c : Config). c.keep_events) q.settings) (omega (arith, q.events.minimum)) (subst (λ (s : SnapshotView). GrowsTo i.snapshot.durable s.durable) (sym q.snapshot) (stays-so i.snapshot.durable)) h);
  event = λ t what e told. record {
    then = rises laws lowest i (with_snapshot (appended_with kinds.Event t (written_event i.config t what) i.snapshot Kept) (event_entered t what i)) refl (omega arith) (noted-grows kinds.Event t (written_event i.config t what) i.snapshot) h;
    none_below = let from = e.from in All-cons (λ (e : TimedEntry EventBody). lowest ≤ e.time) (record { time = t; key = what }) [] (omega (arith, from, h.minimum)) (All-nil (λ (e : TimedEntry EventBody). lowest ≤ e.time));
  };
  event_fails = λ t what durable runs small may. quietly lowest _ (failed laws lowest i kinds.Event t (written_event i.config t what) durable h may);
  query = λ t id out e told passed. quietly lowest _ (fired_queries t id);
  asks = λ now q out at e told passed. let same = fired_queries q.time q.id in quietly lowest _ (record { keeps = same.keeps; minimum = same.minimum; durable = same.durable });
  query_fails = λ t id durable runs small told may. quietly lowest _ (failed laws lowest i kinds.Query t (written_query i.config t id) durable h may);
  saves = λ t small runs. quietly lowest _ (rises laws lowest i (with_snapshot (noted kinds.Member t i.snapshot Kept) i) refl (omega arith) (noted-grows kinds.Member t None i.snapshot) h);
  save_fails = λ t durable runs may. quietly lowest _ (failed laws lowest i kinds.Member t None durable h may);
}
  where
    fired_queries : (t id : ℕ) → Remembers lowest (with_snapshot (appended_with kinds.Query t (written_query i.config t id) i.snapshot Kept) (query_entered t id i))
    fired_queries t id = rises laws lowest i (with_snapshot (appended_with kinds.Query t (written_query i.config t id) i.snapshot Kept) (query_entered t id i)) refl (omega arith) (noted-grows kinds.Query t (written_query i.config t id) i.snapshot) h

-- an act that appends a line leaves it true that nothing below the time is accepted
noted-held : BelowHandsOut → (lowest : ℕ) (i : IdealAgent) (a : Act) → IsSound i → Remembers lowest i → IsAppended a → MayAct i a → Holds lowest (after i a) (events_out i a)
noted-held laws lowest i a s h noted may = acts laws.kept.life.ranged i a (λ j events entered out. Holds lowest j events) s (noting laws lowest i (IsActWritable a) h) noted may

-- merging a state leaves it true that nothing below the time is accepted
hears : BelowHandsOut → (lowest : ℕ) (i : IdealAgent) (m : PushPull) (is_join : Bool) (w : Writing) → Remembers lowest i → MayAct i (Hears m is_join w) → Remembers lowest (after i (Hears m is_join w))
hears laws lowest i m is_join w h may =
    heard i m is_join w (Remembers lowest) (rises laws lowest i (joined m is_join i) refl (omega arith) (stays-so i.snapshot.durable) h)
    (λ joins runs. rises laws lowest i (with_snapshot (appended_with kinds.Event 0 (Some line) i.snapshot Kept) (joined m is_join i)) refl (omega arith) (noted-grows kinds.Event 0 (Some line) i.snapshot) h)
    (λ joins runs durable fails. failed laws lowest i kinds.Event 0 (Some line) durable h fails) may
  where
    line : List ℕ
    line = min_line kinds.Event m.event_clock

-- after a compaction, nothing below the time is accepted, because the compaction writes the minimum time
replaced : BelowHandsOut → (lowest : ℕ) (i : IdealAgent) (w : Writing) → IsDurable i → Remembers lowest i
    → (let text = text_with (written_lines (view_of i)) i.snapshot in MayReplaceBy text i.snapshot w → Remembers lowest (with_snapshot (text_replaced text i.snapshot w) i))
replaced laws lowest i w d h =
    subst (λ (b : Bool). (let text = text_with (cond b (Some (kept_lines (view_of i))) None) i.snapshot in MayReplaceBy text i.snapshot w → Remembers lowest (with_snapshot (text_replaced text i.snapshot w) i))) (sym h.keeps) (by w)
  where
    text : List ℕ
    text = kept_compaction_of (kept_lines (view_of i)) i.snapshot

    low : lowest ≤ min_in kinds.Event (kept_compaction_of (kept_lines (view_of i)) i.snapshot)
    low = omega (arith, compaction-events laws i d, h.minimum)

    by : (w : Writing) → MayReplaceBy text i.snapshot w → Remembers lowest (with_snapshot (text_replaced text i.snapshot w) i)
    by w may = record { keeps = h.keeps; minimum = h.minimum; durable = λ new at. replaced-holds (λ (x : List ℕ). lowest ≤ min_in kinds.Event x) text new i.snapshot w may at h.durable low }

-- after an opening, nothing below the time is accepted, because the agent begins with the minimum time of its text
opens : BelowHandsOut → (lowest : ℕ) (i : IdealAgent) (text : List ℕ) (d : Device) → i.config.keep_events ≡ true → lowest ≤ min_in kinds.Event text → Remembers lowest (restarted text (opened text d) i)
opens laws lowest i text d keeps told = subst (λ (b : Bool). Remembers lowest (restarted_by b text (opened text d) i)) (sym keeps) (record {
  keeps = keeps;
  minimum =
      let last : ℕ = last_clock kinds.Event text in
      let reached : List (TimedEntry EventBody) = events_reached i.config (last_clock kinds.Event text) text in
      let up : min_in kinds.Event text ≤ (taken_back same_texts i.config.event_buffer i.config.per_time (last_clock kinds.Event text) (min_in kinds.Event text) (events_reached i.config (last_clock kinds.Event text) text)).minimum =
      laws.kept.durable.recalled_events.minimum same_texts i.config.event_buffer i.config.per_time (max (last_clock kinds.Event text + 1) (min_in kinds.Event text)) (record { entries = []; minimum = min_in kinds.Event text }) (events_reached i.config (last_clock kinds.Event text) text) in
      omega (arith, up, told);
  durable = λ new at. let is : min_in kinds.Event (sealed text) ≡ min_in kinds.Event new = ap (min_in kinds.Event) (opened-durable d.observed_bytes text new at) in omega (arith, is, laws.min_sealed kinds.Event text, told);
})

remembered : BelowHandsOut → (lowest : ℕ) (i : IdealAgent) (a : Act) → IsSound i → IsDurable i → Remembers lowest i → MayGoOn i a → KeepsOn a → Holds lowest (after i a) (events_out i a)
remembered laws lowest i (Fires what flag w) s d h go on = noted-held laws lowest i (Fires what flag w) s h tt go.0
remembered laws lowest i (Asks now id name payload params w) s d h go on = noted-held laws lowest i (Asks now id name payload params w) s h tt go.0
remembered laws lowest i (Gets tags now packet w) s d h go on = noted-held laws lowest i (Gets tags now packet w) s h tt go.0
remembered laws lowest i (Takes e w) s d h go on = noted-held laws lowest i (Takes e w) s h tt go.0
remembered laws lowest i (Saves w) s d h go on = noted-held laws lowest i (Saves w) s h tt go.0
remembered laws lowest i (Closes now) s d h go on = noted-held laws lowest i (Closes now) s h tt go.0
remembered laws lowest i (Hears m is_join w) s d h go on = quietly lowest (after i (Hears m is_join w)) (hears laws lowest i m is_join w h go.0)
remembered laws lowest i (Compacts w) s d h go on = quietly lowest (after i (Compacts w)) (compacted i w (Remembers lowest) h (λ w ends. replaced laws lowest i w d h ends) go.0)
remembered laws lowest i (Opens config text dev) s d h go on =
    let begins = go.1 in
    let more : min_in kinds.Event begins.durable ≤ min_in kinds.Event (begins.durable ++ begins.tail) = laws.kept.durable.min_grows kinds.Event begins.durable begins.tail in
    let same : min_in kinds.Event text ≡ min_in kinds.Event (begins.durable ++ begins.tail) = ap (min_in kinds.Event) begins.whole in
    quietly lowest (after i (Opens config text dev)) (opens laws lowest (with_config config i) text dev on (omega (arith, h.durable begins.durable begins.is, more, same)))

-- ---- lives

all-remembered : BelowHandsOut → (lowest : ℕ) (rest : List Act) (s : Lived) → IsSound s.agent → IsDurable s.agent → Remembers lowest s.agent → All (λ e. lowest ≤ e.time) s.events → MayGoOnLives s.agent rest → All KeepsOn rest → All (λ e. lowest ≤ e.time) (lived s rest).events
all-remembered laws lowest [] s sound d h none go on = none
all-remembered laws lowest (a ∷ rest) s sound d h none go on =
    let may = may-go laws.kept s.agent a sound d go.0 in
    let next = remembered laws lowest s.agent a sound d h go.0 (All-head KeepsOn a rest on) in
    all-remembered laws lowest rest (acted s a) (moves laws.kept.life s.agent a sound may.0).sound (stays_durable laws.kept s.agent a sound d may.0 may.1) next.then (All-append (λ (e : TimedEntry EventBody). lowest ≤ e.time) s.events (events_out s.agent a) none next.none_below) go.1
    (All-tail KeepsOn a rest on)

-- a join sets the minimum time that is remembered
sets : BelowHandsOut → (i : IdealAgent) (m : PushPull) → i.config.keep_events ≡ true → i.config.ignore_old ≡ true → IsSound i → MayGoOn i (Hears m true Kept) → Remembers m.event_clock (after i (Hears m true Kept))
sets laws i m keeps ignores sound go = subst (λ (b : Bool). (AsksSink (heard_by (cond b (Some line) None) i m true) → i.snapshot.stopped ≡ false) → Remembers m.event_clock (ended i (heard_by (cond b (Some line) None) i m true) Kept).agent) (sym both) by go.0.2
  where
    line : List ℕ
    line = min_line kinds.Event m.event_clock

    both : (i.config.keep_events && (true && i.config.ignore_old)) ≡ true
    both = and_from _ _ keeps ignores

    raised : (b : Bool) → b ≡ true → m.event_clock ≤ max i.events.minimum (cond b m.event_clock 0)
    raised true is = omega arith
    raised false is = absurd (cc is)

    by : (AsksSink (heard_by (Some line) i m true) → i.snapshot.stopped ≡ false) → Remembers m.event_clock (ended i (heard_by (Some line) i m true) Kept).agent
    by runs = record {
      keeps = keeps;
      minimum = raised i.config.ignore_old ignores;
      durable = λ new at.
          let g = grown-durable i.snapshot.durable (kept_bytes kinds.Event 0 line i.snapshot.event_clock) new at in
          let own = tells-own laws m.event_clock i.snapshot.event_clock g.0 go.1 (whole-durable i.snapshot g.0 sound.snapshot (runs tt) g.1) in
          let same : min_in kinds.Event (g.0 ++ kept_bytes kinds.Event 0 line i.snapshot.event_clock) ≡ min_in kinds.Event new = ap (min_in kinds.Event) g.2 in
          omega (arith, own, same);
    }

pub remembers_joins : BelowHandsOut → RemembersJoins
remembers_joins laws = λ config text d acts rest m ok go kept ignores join more on.
    let s = first_life config text d in
    let first = keeps-first laws.kept.life config text d ok in
    let lives = disk_suffices laws.kept config text d acts ok go in
    let sound = (keeps laws.kept.life acts s first lives.0).sound in
    let durable = durable-lived laws.kept.life (stays_durable laws.kept) acts s first.sound (begins_durable laws.kept config text d) lives.0 lives.1 in
    let i = (lived s acts).agent in
    let may = may-go laws.kept i (Hears m true Kept) sound durable join in
    all-remembered laws m.event_clock rest (record { agent = after i (Hears m true Kept); events = []; queries = [] }) (moves laws.kept.life i (Hears m true Kept) sound may.0).sound
    (stays_durable laws.kept i (Hears m true Kept) sound durable may.0 may.1) (sets laws i m kept ignores sound join) (All-nil (λ (e : TimedEntry EventBody). m.event_clock ≤ e.time)) more on
