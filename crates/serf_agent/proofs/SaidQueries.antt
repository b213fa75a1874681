-- Which queries an agent's text contains after each act: those that it contained before, and those that entered.
use Rattle.serf_agent.proofs.Names.{Bool, IfSome, List, MatchBool, None, Option, Some, [], ap, arith, cond, false, map, nat_le, refl, subst, sym, true, ℕ, ◌++◌, ◌+◌, ◌-◌, ◌<◌, ◌^◌, ◌∙◌, ◌∷◌, ◌≡◌, ◌≤◌, map-append, All-append, All-cons, All-contains, All-contains_itself, All-head, All-nil, All-push, All-tail, All-weaker, option_map, All, Contains, IsSome, EventBody, clock_line, compacted_text, is_whole, last_clock, sealed, Device, FailurePlan, event_line, if_query_wanted, is_query_wanted, kept_clock_line, kept_query, min_in, min_line, queries_in, query_line, kept_bytes, kept_compaction_of, Failed, Kept, MayReplaceBy, MayWrite, SnapshotView, Writing, compaction_of, last_line, append_line_fails, opened, text_replaced, written, KeptQuery, EntryFilter, ClockKind, TimedEntry, slots_of, written_event, IdealAgent, Past, with_config, IsMet, AreWritable, held_from, kept_lines, min_written, lines_written, IsDurable, IsActWritable, MayGoOn, queries_reached, IsIdWritable, kept_queries, line_of_event, query_entry, whatever, Act, Asks, Closes, Compacts, Fires, Gets, Hears, MayAct, Opens, Saves, Takes, after, written_query, restarted, restarted_by, unopened, KeepsOnly, OpensOn, SaidLaws, SaysQueries, IsSound, written_lines, MayAppendLine, appended_with, text_with, queries_entered, of_life, view_of}
use Rattle.serf_snapshot.specs.declared.kind.ClockKind.TheVariants as kinds
use Rattle.serf_agent.proofs.ActMoves.{IsAppended, Noting, acts, compacted, heard}
use Rattle.serf_agent.proofs.DurableLaws.{replaced-holds, opened-durable}
use Rattle.serf_agent.proofs.HandsOutLaws.{BelowHandsOut}
use Rattle.serf_agent.proofs.KeptCompactionLaws.{only-entered}
use Rattle.serf_agent.proofs.KeptRestartLaws.{among}
use Rattle.serf_agent.proofs.KeptStepLaws.{grown-durable}
use Rattle.serf_agent.proofs.MetLaws.{queries-stand}

-- ---- what the crates below promise

pub record BelowSaid : Type 0 where
  pub hands_out : BelowHandsOut
  pub joined : (w : EntryFilter) (front tail : List ℕ) → is_whole front ≡ true → queries_in w (front ++ tail) ≡ queries_in w front ++ queries_in w tail
  pub sealed_whole : (text : List ℕ) → is_whole (sealed text) ≡ true
  pub sealed : (w : EntryFilter) (text : List ℕ) → queries_in w (sealed text) ≡ queries_in w text
  pub event_line : (w : EntryFilter) (t : ℕ) (name payload : List ℕ) → queries_in w (event_line t name payload) ≡ []
  pub query_line : (w : EntryFilter) (t id : ℕ) → 0 < t → t < 2 ^ 64 - 1 → id < 2 ^ 32 → queries_in w (query_line t id) ≡ if_query_wanted w (Some (kept_query t id))
  pub min_line : (w : EntryFilter) (k : ClockKind) (t : ℕ) → queries_in w (min_line k t) ≡ []
  pub clock_line : (w : EntryFilter) (k : ClockKind) (t : ℕ) → queries_in w (clock_line k t) ≡ []
  pub kept_clock_line : (w : EntryFilter) (k : ClockKind) (t : ℕ) → queries_in w (kept_clock_line k t) ≡ []
  pub compacted : (w : EntryFilter) (m e q : ℕ) → queries_in w (compacted_text m e q) ≡ []
  pub kept_compacted : (w : EntryFilter) (lines : List ℕ) (s : SnapshotView) → is_whole lines ≡ true → queries_in w (kept_compaction_of lines s) ≡ queries_in w lines
  pub compacted_whole : (m e q : ℕ) → is_whole (compacted_text m e q) ≡ true
  pub kept_compacted_whole : (lines : List ℕ) (s : SnapshotView) → is_whole lines ≡ true → is_whole (kept_compaction_of lines s) ≡ true

-- ---- parts of a text

silent : (P : TimedEntry ℕ → Type 0) (text : List ℕ) → is_whole text ≡ true → queries_in whatever text ≡ [] → KeepsOnly P text
silent P text whole none = record { whole = whole; says = subst (λ (qs : List KeptQuery). All P (map query_entry qs)) (sym none) (All-nil P) }

-- if the queries of two parts of a text have P, so have those of the whole text
more : BelowSaid → (P : TimedEntry ℕ → Type 0) (front tail : List ℕ) → KeepsOnly P front → KeepsOnly P tail → KeepsOnly P (front ++ tail)
more laws P front tail first second = record {
  whole = laws.hands_out.whole front tail first.whole second.whole;
  says = subst (All P) (sym (ap (map query_entry) (laws.joined whatever front tail first.whole) ∙ map-append query_entry (queries_in whatever front) (queries_in whatever tail)))
      (All-append P (kept_queries whatever front) (kept_queries whatever tail) first.says second.says);
}

clock : BelowSaid → (P : TimedEntry ℕ → Type 0) (k : ClockKind) (t : ℕ) → KeepsOnly P (clock_line k t)
clock laws P k t = silent P (clock_line k t) (laws.hands_out.clock_whole k [] t) (laws.clock_line whatever k t)

event : BelowSaid → (P : TimedEntry ℕ → Type 0) (t : ℕ) (what : EventBody) → KeepsOnly P (line_of_event t what)
event laws P t what = silent P (line_of_event t what) (laws.hands_out.event_whole t what.name what.payload).whole (laws.event_line whatever t what.name what.payload)

lowest : BelowSaid → (P : TimedEntry ℕ → Type 0) (k : ClockKind) (t : ℕ) → KeepsOnly P (min_line k t)
lowest laws P k t = silent P (min_line k t) (laws.hands_out.min_whole k t).whole (laws.min_line whatever k t)

-- a query that has P, and can be written in a line
record CanBeWritten (P : TimedEntry ℕ → Type 0) (e : TimedEntry ℕ) : Type 0 where
  has : P e
  some : 0 < e.time
  small : e.time < 2 ^ 64 - 1
  low : e.key < 2 ^ 32

query : BelowSaid → (P : TimedEntry ℕ → Type 0) (t id : ℕ) → CanBeWritten P (record { time = t; key = id }) → KeepsOnly P (query_line t id)
query laws P t id c = record {
  whole = (laws.hands_out.query_whole t id).whole;
  says = subst (λ (qs : List KeptQuery). All P (map query_entry qs)) (sym (laws.query_line whatever t id c.some c.small c.low)) (by (is_query_wanted whatever (kept_query t id)));
}
  where
    by : (b : Bool) → All P (map query_entry (cond b (kept_query t id ∷ []) []))
    by true = All-cons P (record { time = t; key = id }) [] c.has (All-nil P)
    by false = All-nil P

-- the queries in the bytes that are appended for a line have P
bytes : BelowSaid → (P : TimedEntry ℕ → Type 0) (kind : ClockKind) (t : ℕ) (line : List ℕ) (last : ℕ) → KeepsOnly P line → KeepsOnly P (kept_bytes kind t line last)
bytes laws P kind t line last h = by (nat_le t last)
  where
    by : (b : Bool) → KeepsOnly P (cond b [] (kept_clock_line kind t) ++ line)
    by true = h
    by false = more laws P (kept_clock_line kind t) line (silent P (kept_clock_line kind t) (laws.hands_out.kept_clock_whole kind [] t) (laws.kept_clock_line whatever kind t)) h

-- ---- a compaction

events : BelowSaid → (P : TimedEntry ℕ → Type 0) (es : List (TimedEntry EventBody)) → KeepsOnly P (lines_written line_of_event es)
events laws P [] = record { whole = refl; says = All-nil P }
events laws P (e ∷ es) = more laws P (line_of_event e.time e.key) (lines_written line_of_event es) (event laws P e.time e.key) (events laws P es)

queries : BelowSaid → (P : TimedEntry ℕ → Type 0) (es : List (TimedEntry ℕ)) → All (CanBeWritten P) es → KeepsOnly P (lines_written query_line es)
queries laws P [] all = record { whole = refl; says = All-nil P }
queries laws P (e ∷ es) all = more laws P (query_line e.time e.key) (lines_written query_line es) (query laws P e.time e.key (All-head (CanBeWritten P) e es all)) (queries laws P es (All-tail (CanBeWritten P) e es all))

can-be-told : (P : TimedEntry ℕ → Type 0) (h : List (Past ℕ)) → All (λ p. P p.entry) h → AreWritable IsIdWritable h → All (λ p. CanBeWritten P p.entry) h
can-be-told P h all told = λ k d inside. let t = told k d inside in record { has = all k d inside; some = t.0; small = t.1; low = t.2 }

-- the queries in the lines that a compaction keeps have P
lines : BelowSaid → (P : TimedEntry ℕ → Type 0) (i : IdealAgent) → All (λ p. P p.entry) i.queries.history → AreWritable IsIdWritable i.queries.history → KeepsOnly P (kept_lines (view_of i))
lines laws P i all told =
    let at : ℕ = min_written i.config.event_buffer i.snapshot.event_clock i.events.minimum in
    let at_query : ℕ = min_written i.config.query_buffer i.snapshot.query_clock i.queries.minimum in
    let held : List (TimedEntry EventBody) = held_from at (slots_of i.config.event_buffer (of_life i.life i.events.history)) in
    let fired_queries : List (TimedEntry ℕ) = held_from at_query (slots_of i.config.query_buffer (of_life i.life i.queries.history)) in
    let can : All (CanBeWritten P) fired_queries = only-entered laws.hands_out.query_slots i.config.query_buffer i.life at_query i.queries.history (CanBeWritten P) (can-be-told P i.queries.history all told) in
    more laws P (min_line kinds.Event at ++ lines_written line_of_event held) (min_line kinds.Query at_query ++ lines_written query_line fired_queries)
    (more laws P (min_line kinds.Event at) (lines_written line_of_event held) (lowest laws P kinds.Event at) (events laws P held))
    (more laws P (min_line kinds.Query at_query) (lines_written query_line fired_queries) (lowest laws P kinds.Query at_query) (queries laws P fired_queries can))

-- the queries in the text that a compaction leaves have P
compaction : BelowSaid → (P : TimedEntry ℕ → Type 0) (i : IdealAgent) → All (λ p. P p.entry) i.queries.history → AreWritable IsIdWritable i.queries.history → KeepsOnly P (text_with (written_lines (view_of i)) i.snapshot)
compaction laws P i all told = by i.config.keep_events
  where
    kept : KeepsOnly P (kept_lines (view_of i))
    kept = lines laws P i all told

    by : (b : Bool) → KeepsOnly P (text_with (cond b (Some (kept_lines (view_of i))) None) i.snapshot)
    by true = record {
      whole = laws.kept_compacted_whole (kept_lines (view_of i)) i.snapshot kept.whole;
      says = subst (λ (qs : List KeptQuery). All P (map query_entry qs)) (sym (laws.kept_compacted whatever (kept_lines (view_of i)) i.snapshot kept.whole)) kept.says;
    }
    by false = silent P (compaction_of i.snapshot) (laws.compacted_whole i.snapshot.member_clock i.snapshot.event_clock i.snapshot.query_clock) (laws.compacted whatever i.snapshot.member_clock i.snapshot.event_clock i.snapshot.query_clock)

-- ---- what is durable

abbrev Durable : (TimedEntry ℕ → Type 0) → SnapshotView → Type 0
Durable P s = (text : List ℕ) → s.durable ≡ Some text → KeepsOnly P text

appended : BelowSaid → (P : TimedEntry ℕ → Type 0) (s : SnapshotView) (line new : List ℕ) → Durable P s → KeepsOnly P line → option_map (λ (k : List ℕ). k ++ line) s.durable ≡ Some new → KeepsOnly P new
appended laws P s line new old says at = let g = grown-durable s.durable line new at in subst (KeepsOnly P) g.2 (more laws P g.0 line (old g.0 g.1) says)

-- if there is an own line, each query that it contains has P
abbrev LineSays : (TimedEntry ℕ → Type 0) → Option (List ℕ) → Type 0
LineSays P None = Unit {0}
LineSays P (Some line) = KeepsOnly P line

append_line : BelowSaid → (P : TimedEntry ℕ → Type 0) (kind : ClockKind) (t : ℕ) (line : Option (List ℕ)) (s : SnapshotView) → LineSays P line → Durable P s → Durable P (appended_with kind t line s Kept)
append_line laws P kind t (Some line) s says old new at = appended laws P s (kept_bytes kind t line (last_line kind s)) new old (bytes laws P kind t line (last_line kind s) says) at
append_line laws P kind t None s says old new at = by (nat_le t (last_line kind s)) at
  where
    by : (b : Bool) → (cond b s (written kind t s Kept)).durable ≡ Some new → KeepsOnly P new
    by true at = old new at
    by false at = appended laws P s (clock_line kind t) new old (clock laws P kind t) at

-- with a plan, a sink that fails keeps what it had
unchanged : (plan : Option FailurePlan) (before after : Option (List ℕ)) → IsSome plan → IfSome plan (λ p. (append_line_fails p ≡ true) × (after ≡ before)) → after ≡ before
unchanged None before after some h = absurd (cc some)
unchanged (Some p) before after some h = h.1

fail : (P : TimedEntry ℕ → Type 0) (kind : ClockKind) (t : ℕ) (line : Option (List ℕ)) (s : SnapshotView) (durable : Option (List ℕ)) → IsSome s.plan → MayAppendLine kind t line s (Failed durable) → Durable P s → Durable P (written kind t s (Failed durable))
fail P kind t (Some line) s durable plan may old new at = old new (sym (unchanged s.plan s.durable durable plan may.1) ∙ at)
fail P kind t None s durable plan may old new at = by (nat_le t (last_line kind s)) may
  where
    by : (b : Bool) → MatchBool b (Failed durable ≡ Kept) (MayWrite s (clock_line kind t) (Failed durable)) → KeepsOnly P new
    by true may = absurd (cc may)
    by false may = old new (sym (unchanged s.plan s.durable durable plan may.1) ∙ at)

replaced : (P : TimedEntry ℕ → Type 0) (text : List ℕ) (s : SnapshotView) (w : Writing) → KeepsOnly P text → MayReplaceBy text s w → Durable P s → Durable P (text_replaced text s w)
replaced P text s w says may old new at = replaced-holds (KeepsOnly P) text new s w may at old says

-- ---- acts

-- the queries in an own line have P, whether or not the settings keep events
told : (P : TimedEntry ℕ → Type 0) (b : Bool) (line : List ℕ) → KeepsOnly P line → LineSays P (cond b (Some line) None)
told P true line says = says
told P false line says = tt

-- if all queries that entered have a property, so have those of the text
abbrev SaysOn : (TimedEntry ℕ → Type 0) → IdealAgent → List (TimedEntry EventBody) → List (TimedEntry ℕ) → List (TimedEntry ℕ) → Type 0
SaysOn P j events entered out = All P entered → SaysQueries P j

-- `SaysQueries` stays true after each appended line
noting : BelowSaid → (P : TimedEntry ℕ → Type 0) (i : IdealAgent) (Written : Type 0) → Written → IsDurable i → IsSome i.snapshot.plan → SaysQueries P i → Noting i Written (SaysOn P)
noting laws P i Written able d plan says = record {
  quiet = λ j q sound all. record { entered = subst (λ (h : List (Past ℕ)). All (λ (p : Past ℕ). P p.entry) h) (sym q.queries.history) says.entered; durable = subst (Durable P) (sym q.snapshot) says.durable };
  event = λ t what e can all. record { entered = says.entered; durable = append_line laws P kinds.Event t (written_event i.config t what) i.snapshot (told P i.config.keep_events (line_of_event t what) (event laws P t what)) says.durable };
  event_fails = λ t what durable runs small may all. record { entered = says.entered; durable = fail P kinds.Event t (written_event i.config t what) i.snapshot durable plan may says.durable };
  query = λ t id out e can passed all. record { entered = entered t id all; durable = fired_queries t id e.from e.small (can able) all };
  asks = λ now q out at e can passed all. record { entered = entered q.time q.id all; durable = fired_queries q.time q.id e.from e.small (can able) all };
  query_fails = λ t id durable runs small can may all. record { entered = says.entered; durable = fail P kinds.Query t (written_query i.config t id) i.snapshot durable plan may says.durable };
  saves = λ t small runs all. record { entered = says.entered; durable = append_line laws P kinds.Member t None i.snapshot tt says.durable };
  save_fails = λ t durable runs may all. record { entered = says.entered; durable = fail P kinds.Member t None i.snapshot durable plan may says.durable };
}
  where
    entered : (t id : ℕ) → All P (record { time = t; key = id } ∷ []) → All (λ p. P p.entry) (i.queries.history ++ record { life = i.life; entry = record { time = t; key = id } } ∷ [])
    entered t id all = All-push (λ (p : Past ℕ). P p.entry) i.queries.history (record { life = i.life; entry = record { time = t; key = id } }) says.entered (All-head P (record { time = t; key = id }) [] all)

    fired_queries : (t id : ℕ) → i.queries.minimum ≤ t → t < 2 ^ 64 - 1 → id < 2 ^ 32 → All P (record { time = t; key = id } ∷ []) → Durable P (appended_with kinds.Query t (written_query i.config t id) i.snapshot Kept)
    fired_queries t id from small low all =
        append_line laws P kinds.Query t (written_query i.config t id) i.snapshot
        (told P i.config.keep_events (query_line t id) (query laws P t id (record { has = All-head P (record { time = t; key = id }) [] all; some = omega (arith, from, d.queries_min.0); small = small; low = low }))) says.durable

-- `SaysQueries` stays true at an opening
reopened : BelowSaid → (P : TimedEntry ℕ → Type 0) (i : IdealAgent) (text : List ℕ) (d : Device) → All (λ p. P p.entry) i.queries.history → All P (kept_queries whatever text) → SaysQueries P (restarted text (opened text d) i)
reopened laws P i text d entered all = record { entered = by i.config.keep_events; durable = durable }
  where
    reached : List (TimedEntry ℕ)
    reached = queries_reached i.config (last_clock kinds.Query text) text

    among_text : All P (queries_reached i.config (last_clock kinds.Query text) text)
    among_text = All-weaker (Contains reached) P (λ e there. from-all e (queries-stand i.config.query_buffer (last_clock kinds.Query text) (min_in kinds.Query text) text e (laws.hands_out.kept.durable.times kinds.Query text) there)) reached (All-contains_itself reached)
      where
        from-all : (e : TimedEntry ℕ) → Contains (kept_queries whatever text) e → P e
        from-all e there = All-contains P (kept_queries whatever text) e all there

    by : (b : Bool) → All (λ (p : Past ℕ). P p.entry) (restarted_by b text (opened text d) i).queries.history
    by true = among P i.queries.history (restarted_by true text (opened text d) i).queries.history reached entered among_text
        (laws.hands_out.kept.durable.queries.only_kept i.config.query_buffer i.config.per_time (i.life + 1) (last_clock kinds.Query text) (min_in kinds.Query text) reached i.queries)
    by false = entered

    durable : (new : List ℕ) → (restarted text (opened text d) i).snapshot.durable ≡ Some new → KeepsOnly P new
    durable new at = subst (KeepsOnly P) (opened-durable d.observed_bytes text new at)
        (record { whole = laws.sealed_whole text; says = subst (λ (qs : List KeptQuery). All P (map query_entry qs)) (sym (laws.sealed whatever text)) all })

-- `SaysQueries` stays true after an act that appends a line
noted-says : BelowSaid → (P : TimedEntry ℕ → Type 0) (i : IdealAgent) (a : Act) → IsSound i → IsDurable i → IsSome i.snapshot.plan → SaysQueries P i → IsAppended a → MayAct i a → IsActWritable a → All P (queries_entered i a) → SaysQueries P (after i a)
noted-says laws P i a sound d plan says noted may able all = acts laws.hands_out.kept.life.ranged i a (SaysOn P) sound (noting laws P i (IsActWritable a) able d plan says) noted may all

stays : BelowSaid → (P : TimedEntry ℕ → Type 0) (i : IdealAgent) (a : Act) → IsSound i → IsDurable i → IsSome i.snapshot.plan → SaysQueries P i → MayGoOn i a → All P (queries_entered i a) → OpensOn P a → SaysQueries P (after i a)
stays laws P i (Fires what flag w) sound d plan says go all opens = noted-says laws P i (Fires what flag w) sound d plan says tt go.0 go.1 all
stays laws P i (Asks now id name payload params w) sound d plan says go all opens = noted-says laws P i (Asks now id name payload params w) sound d plan says tt go.0 go.1 all
stays laws P i (Gets tags now packet w) sound d plan says go all opens = noted-says laws P i (Gets tags now packet w) sound d plan says tt go.0 go.1 all
stays laws P i (Takes e w) sound d plan says go all opens = noted-says laws P i (Takes e w) sound d plan says tt go.0 go.1 all
stays laws P i (Saves w) sound d plan says go all opens = noted-says laws P i (Saves w) sound d plan says tt go.0 go.1 all
stays laws P i (Closes now) sound d plan says go all opens = noted-says laws P i (Closes now) sound d plan says tt go.0 go.1 all
stays laws P i (Hears m is_join w) sound d plan says go all opens =
    heard i m is_join w (SaysQueries P) (record { entered = says.entered; durable = says.durable })
    (λ joins runs. record { entered = says.entered; durable = append_line laws P kinds.Event 0 (Some (min_line kinds.Event m.event_clock)) i.snapshot (lowest laws P kinds.Event m.event_clock) says.durable })
    (λ joins runs durable may. record { entered = says.entered; durable = fail P kinds.Event 0 (Some (min_line kinds.Event m.event_clock)) i.snapshot durable plan may says.durable }) go.0
stays laws P i (Compacts w) sound d plan says go all opens =
    compacted i w (SaysQueries P) says
    (λ w may. record { entered = says.entered; durable = replaced P (text_with (written_lines (view_of i)) i.snapshot) i.snapshot w (compaction laws P i says.entered d.queries_written) may says.durable }) go.0
stays laws P i (Opens config text d) sound durable plan says go all opens = reopened laws P (with_config config i) text d says.entered opens

pub said_laws : BelowSaid → SaidLaws
said_laws laws = record {
  begins = λ entered stood config text d all. reopened laws (IsMet entered stood) (unopened config (opened text d)) text d (All-nil (λ (p : Past ℕ). IsMet entered stood p.entry)) all;
  stays = λ entered stood. stays laws (IsMet entered stood);
}
