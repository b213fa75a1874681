-- What each export appends to the text of a file, and what a compaction leaves.
use Rattle.serf_agent_c.proofs.Names.{Add, AgentState, All-nil, AppendLineError, Appends, Bool, Burst, CallResult, CloseDue, Code, Compact, ConcreteState, Err, EventOut, Export, Fire, Follows, Forget, GivesNothing, IdealAgent, IsDurable, IsPassed, Kept, List, LocalState, Merge, Next, None, Observe, Ok, Option, Query, Receive, Replaces, Respond, Result, Save, Says, Session, Some, Steps, TimedEntry, Waits, [], answer_code, answers, ap, append_line_code, arith, clock_state, compact, cond, drop, ended, event_entry, event_of, events_in, false, fire, fire_query, fired_entries, inl, inr, is_ready, joined, map, min_line, not, option_map, params_of, pending_bytes, receive, refl, replacing, save, subst, sym, text_of, text_with, true, view_of, written_lines, ℕ, ◌&&◌, ◌+◌, ◌-◌, ◌<◌, ◌^◌, ◌∙◌, ◌∷◌, ◌≡◌, ◌≢◌, ◌⊎◌, is_written}
use Rattle.serf_snapshot.specs.EventLines.{query_line}
use Rattle.serf_snapshot.specs.HandlerLaws.{AreUntracked, IsUntracked}
use Rattle.serf_snapshot.specs.declared.kind.ClockKind.TheVariants as kinds
use Rattle.serf_snapshot.specs.declared.snapshot.AppendLineError.TheVariants as notes
use Rattle.serf_agent.specs.KeptLines.{held_from, kept_lines, lines_written, min_written}
use Rattle.serf_agent.specs.KeptTexts.{line_of_event}
use Rattle.serf_agent.specs.Lives as lives
use Rattle.serf_agent_c.specs.Bursts as bursts
use Rattle.serf_agent_c.specs.TrackedHosts.{MayCall, handed_by, result_events}
use Rattle.serf_agent_c.specs.declared.burst_outcome.BurstOutcome.TheVariants as answereds
use Rattle.serf_agent_c.specs.declared.call_result.CallResult.TheVariants as call_results
use Rattle.serf_agent_c.specs.declared.code.Code.TheVariants as codes
use Rattle.serf_agent_c.proofs.BurstLaws.{fire-plain, query-fire-plain, receive-plain}
use Rattle.serf_agent_c.proofs.HandedOnce.{Given, made-now}
use Rattle.serf_agent_c.proofs.HostLaws.{Compacted, bursted, closed-follows, compacted, host_steps, idle, observed-follows, refuses, renews, same-agent, same-pending_bytes, save-plain, unobserved-follows, want}
use Rattle.serf_agent_c.proofs.HostedCalls.{Below, fired-out, fired_queries-out, received-out, replacing-other, top-or}
use Rattle.serf_agent_c.proofs.TrackedCalls.{Adds, adds-nothing, adds-unmade, bursted-adds, fire-leads, query-fire-leads, receive-leads, received_entries, same-replaces, save-leads, some-is, went-adds}
use Rattle.serf_agent_c.proofs.TrackedLines.{Handling}
use Rattle.serf_agent_c.proofs.TrackedMerges.{merged-adds}

-- ---- the lines of a compaction

untracked-written : {K : Type 0} (laws : Handling) (line : ℕ → K → List ℕ) → ((t : ℕ) (key : K) → AreUntracked (line t key)) → (entries : List (TimedEntry K)) → AreUntracked (lines_written line entries)
untracked-written laws line one [] = record { whole = refl; untracked = All-nil IsUntracked }
untracked-written laws line one (e ∷ entries) = laws.untracked_both (line e.time e.key) (lines_written line entries) (one e.time e.key) (untracked-written laws line one entries)

untracked-kept : (laws : Handling) (a : ConcreteState) → AreUntracked (kept_lines a)
untracked-kept laws a =
    let lowest_event = min_written a.config.event_buffer a.snapshot.event_clock a.events.minimum in
    let lowest_query = min_written a.config.query_buffer a.snapshot.query_clock a.queries.minimum in
    laws.untracked_both _ _
    (laws.untracked_both (min_line kinds.Event lowest_event) (lines_written line_of_event (held_from lowest_event a.events.slots)) (laws.untracked_min_line kinds.Event lowest_event)
    (untracked-written laws line_of_event (λ t what. laws.untracked_event t what.name what.payload) (held_from lowest_event a.events.slots)))
    (laws.untracked_both (min_line kinds.Query lowest_query) (lines_written query_line (held_from lowest_query a.queries.slots)) (laws.untracked_min_line kinds.Query lowest_query)
    (untracked-written laws query_line laws.untracked_query (held_from lowest_query a.queries.slots)))

-- ---- an export

-- a call either appends the lines of exactly the events that it hands out, or leaves a text that is to replace the file's
pub data Called (file : List ℕ) (s t : Session) (e : Export) (code : Code) : Type 0 where
  appends : Adds file s t (handed_by e s t) → ((new : Option (List ℕ)) → replacing new e t code ≡ new) → Called file s t e code
  anew : is_ready s ≡ true → t.replaces ≡ true → AreUntracked (pending_bytes t.agent.device t.written) → t.agent.concrete.config ≡ s.agent.concrete.config → handed_by e s t ≡ [] → ((new : Option (List ℕ)) → replacing new e t code ≡ Some (pending_bytes t.agent.device t.written)) → Called file s t e code

compacted-text : (laws : Handling) (i : IdealAgent) → i.config.keep_events ≡ true → AreUntracked (text_with (written_lines (view_of i)) i.snapshot)
compacted-text laws i keeps = subst (λ (b : Bool). AreUntracked (text_with (cond b (Some (kept_lines (view_of i))) None) i.snapshot)) (sym keeps) (laws.untracked_compaction (kept_lines (view_of i)) i.snapshot (untracked-kept laws (view_of i)))

compacted-called : (laws : Handling) (i : IdealAgent) (file : List ℕ) (s t : Session) (code : Code) → Follows i file s → i.config.keep_events ≡ true → Says Compact s t code → Compacted i file s t code → Called file s t Compact code
compacted-called laws i file s t code f keeps says (idle unready same is) =
    appends (adds-unmade file s t [] same refl) (λ new. replacing-other new t code (λ done. let no : codes.Pending ≡ codes.Done = sym is ∙ done in cc))
compacted-called laws i file s t code f keeps says (refuses ready g other none) =
    appends (adds-nothing file s t [] i i f g refl refl (same-replaces s t ready ((says.4 ready).1 other)) refl) (λ new. replacing-other new t code other)
compacted-called laws i file s t code f keeps says (renews ready ends g replaces is none durable recalls) = by i.snapshot.stopped refl
  where
    other : code ≢ codes.OutOfMemory
    other = λ out. let no : codes.Done ≡ codes.OutOfMemory = sym is ∙ out in cc

    config : (b : Bool) → (ended i (cond b (answers i (Err notes.Stopped)) (Replaces (written_lines (view_of i)) (record { agent = i; answer = Ok (tt {0}) }) (Err notes.SinkError))) Kept).agent.config ≡ i.config
    config true = refl
    config false = refl

    stopped-not : i.snapshot.stopped ≡ true → Called file s t Compact code
    stopped-not stopped =
        let gives = says.2 ready other in
        let r : Result (Unit {0}) AppendLineError = gives.0 in
        let steps : Steps i (compact i) r s.agent.device t.agent = says.3 ready other r gives.1 i f.sound f.state in
        let st : Steps i (answers i (Err notes.Stopped)) r s.agent.device t.agent = subst (λ (b : Bool). Steps i (cond b (answers i (Err notes.Stopped)) (Replaces (written_lines (view_of i)) (record { agent = i; answer = Ok (tt {0}) }) (Err notes.SinkError))) r s.agent.device t.agent) stopped steps in
        let at : code ≡ codes.Stopped = gives.2 ∙ ap (λ (x : Result (Unit {0}) AppendLineError). answer_code append_line_code x) st.answers in
        absurd (let no : codes.Stopped ≡ codes.Done = sym at ∙ is in cc)

    by : (b : Bool) → i.snapshot.stopped ≡ b → Called file s t Compact code
    by true stopped = stopped-not stopped
    by false runs =
        let text : List ℕ = text_with (written_lines (view_of i)) i.snapshot in
        let left : (ended i (Replaces (written_lines (view_of i)) (record { agent = i; answer = Ok (tt {0}) }) (Err notes.SinkError)) Kept).agent.snapshot.durable ≡ Some (pending_bytes t.agent.device t.written) =
        subst (λ (b : Bool). (ended i (cond b (answers i (Err notes.Stopped)) (Replaces (written_lines (view_of i)) (record { agent = i; answer = Ok (tt {0}) }) (Err notes.SinkError))) Kept).agent.snapshot.durable ≡ Some (pending_bytes t.agent.device t.written)) runs durable in
        let is_text : (ended i (Replaces (written_lines (view_of i)) (record { agent = i; answer = Ok (tt {0}) }) (Err notes.SinkError)) Kept).agent.snapshot.durable ≡ Some text = ap (λ (o : Option (List ℕ)). option_map (λ (k : List ℕ). text) o) f.disk in
        let same : text ≡ pending_bytes t.agent.device t.written = some-is text (pending_bytes t.agent.device t.written) (sym is_text ∙ left) in
        anew ready replaces (subst AreUntracked same (compacted-text laws i keeps)) (ap (λ (a : ConcreteState). a.config) g.state ∙ config i.snapshot.stopped ∙ sym (ap (λ (a : ConcreteState). a.config) f.state)) refl
        (λ new. ap (λ (c : Code). replacing new Compact t c) is)

unready-none : (s t : Session) → is_ready s ≡ false → result_events s t ≡ []
unready-none s t unready = ap (λ (b : Bool). cond b (map event_entry (events_in t.call_result)) []) unready

given-none : (s t : Session) → GivesNothing t.call_result → result_events s t ≡ []
given-none s t none = ap (λ (es : List EventOut). cond (is_ready s) (map event_entry es) []) none.events ∙ by (is_ready s)
  where
    by : (b : Bool) → cond b (map event_entry []) [] ≡ []
    by true = refl
    by false = refl

given-is : (s t : Session) (g : CallResult) → is_ready s ≡ true → t.call_result ≡ g → result_events s t ≡ map event_entry (events_in g)
given-is s t g ready is = sym (made-now (is_ready s) (map event_entry (events_in t.call_result)) ready) ∙ ap (λ (x : CallResult). map event_entry (events_in x)) is

-- a call that leaves the agent as it was
left-called : (i : IdealAgent) (file : List ℕ) (s t : Session) → Follows i file s → (is_ready s ≡ false → t ≡ s) → (is_ready s ≡ true → (t.agent ≡ s.agent) × Appends s t) → Adds file s t []
left-called i file s t f unmade same = by (is_ready s) refl
  where
    by : (b : Bool) → is_ready s ≡ b → Adds file s t []
    by false is = adds-unmade file s t [] (unmade is) refl
    by true is = let p = same is in adds-nothing file s t [] i i f (same-agent s t i file is p.0 p.1 f) refl refl (same-replaces s t is p.1) refl

closed-adds : (i : IdealAgent) (file : List ℕ) (s t : Session) (code : Code) (now closed : ℕ) → Follows i file s → Says (CloseDue now closed) s t code → Adds file s t []
closed-adds i file s t code now closed f says = by (is_ready s) refl
  where
    by : (b : Bool) → is_ready s ≡ b → Adds file s t []
    by false is = adds-unmade file s t [] (says.0 is).1 refl
    by true is = elim (want code) [
      | inl out ↦ adds-nothing file s t [] i i f (same-agent s t i file is (says.2 out).0 (says.1 is).1 f) refl refl (same-replaces s t is (says.1 is).1) refl
      | inr other ↦ adds-nothing file s t [] i (lives.after i (lives.Closes now)) f (closed-follows s t code now closed i file says is other f) refl refl (same-replaces s t is (says.1 is).1) refl
    ]

observed-adds : (i : IdealAgent) (file : List ℕ) (s t : Session) (code : Code) (time : ℕ) → Follows i file s → Says (Observe time) s t code → time < 2 ^ 64 → Adds file s t []
observed-adds i file s t code time f says small = by (is_ready s) refl
  where
    at-maximum : is_ready s ≡ true → (time ≡ 2 ^ 64 - 1) ⊎ (time < 2 ^ 64 - 1) → Adds file s t []
    at-maximum ready (inl none) = adds-nothing file s t [] i i f (unobserved-follows s t code time i file says ready none f) refl refl (says.1 ready).2 refl
    at-maximum ready (inr low) = adds-nothing file s t [] i (joined (clock_state (time + 1)) false i) f (observed-follows s t code time i file says ready low f) refl refl (says.1 ready).2 refl

    by : (b : Bool) → is_ready s ≡ b → Adds file s t []
    by false is = adds-unmade file s t [] (says.0 is).1 refl
    by true is = at-maximum is (top-or (2 ^ 64 - 1) time (omega (arith, small)))

pub called : (below : Below) (laws : Handling) (i : IdealAgent) (file : List ℕ) (s t : Session) (e : Export) (code : Code) → Follows i file s → IsDurable i → i.config.keep_events ≡ true → Says e s t code → IsPassed e → Called file s t e code
called below laws i file s t (Fire what payload flag) code f d keeps says passed =
    let call = fire i (event_of what payload) flag in
    appends (went-adds laws (λ r. call_results.Fired r) i call file s t (fired_entries (ended i call Kept).answer) (result_events s t) (host_steps.fires what payload flag s t code i file says f) f (fire-plain (event_of what payload) flag i)
    (fire-leads i (event_of what payload) flag keeps f.sound d (record { name = passed.0; payload = passed.1 })) (λ ready. (says.1 ready).text) (unready-none s t) (given-none s t)
    (λ ready gives. given-is s t (call_results.Fired (ended i call Kept).answer) ready gives ∙ sym (ap (λ (g : Given). g.events) (fired-out (ended i call Kept).answer)))) (λ new. refl)
called below laws i file s t (Receive tags now packet) code f d keeps says passed =
    let call = receive tags i now packet in
    appends (went-adds laws (λ r. call_results.Received r) i call file s t (received_entries (ended i call Kept).answer) (result_events s t) (host_steps.receives tags now packet s t code i file says f) f (receive-plain tags now packet i)
    (receive-leads laws below.ranged below.bytes tags i now packet keeps d passed) (λ ready. (says.1 ready).text) (unready-none s t) (given-none s t)
    (λ ready gives. given-is s t (call_results.Received (ended i call Kept).answer) ready gives ∙ sym (ap (λ (g : Given). g.events) (received-out (ended i call Kept).answer)))) (λ new. refl)
called below laws i file s t (Query now id what payload addr params) code f d keeps says passed =
    let how = params_of s.filters addr params in
    appends (went-adds laws (λ r. call_results.QueryFired r) i (fire_query i now id what payload how) file s t [] [] (host_steps.asks now id what payload addr params s t code i file says f) f (query-fire-plain now id what payload how i)
    (query-fire-leads laws i now id what payload how keeps) (λ ready. (says.1 ready).2) (λ unready. refl) (λ none. refl) (λ ready gives. refl)) (λ new. refl)
called below laws i file s t (Merge packet join) code f d keeps says passed = appends (merged-adds below laws i file s t code packet join f d keeps says passed) (λ new. refl)
called below laws i file s t Save code f d keeps says passed =
    appends (went-adds laws (λ r. call_results.LineAppended r) i (save i) file s t [] [] (host_steps.saves s t code i file says f) f (save-plain i) (save-leads i) (λ ready. (says.1 ready).text) (λ unready. refl) (λ none. refl) (λ ready gives. refl)) (λ new. refl)
called below laws i file s t Compact code f d keeps says passed = compacted-called laws i file s t code f keeps says (compacted s t code i file says f)
called below laws i file s t (CloseDue now closed) code f d keeps says passed = appends (closed-adds i file s t code now closed f says) (λ new. refl)
called below laws i file s t (Observe time) code f d keeps says passed = appends (observed-adds i file s t code time f says passed) (λ new. refl)
called below laws i file s t (Respond number now payload) code f d keeps says passed = appends (left-called i file s t f (λ unready. (says.0 unready).1) (λ ready. (says.1, (says.2 ready).3))) (λ new. refl)
called below laws i file s t (Forget number) code f d keeps says passed = appends (left-called i file s t f (λ unready. (says.0 unready).1) (λ ready. (says.1, (says.2 ready).3))) (λ new. refl)
called below laws i file s t LocalState code f d keeps says passed =
    appends (left-called i file s t f (λ unready. (says.0 unready).1)
    (λ ready. (
      elim (want code) [
        | inl out ↦ (says.2 out).0
        | inr other ↦ (says.4 ready other).1
      ],
      (says.1 ready).2,
    ))) (λ new. refl)
called below laws i file s t (Burst (bursts.Fires what payload flag)) code f d keeps says passed =
    let call = fire i (event_of what payload) flag in
    appends (bursted-adds laws (λ r. answereds.Fired r) i (bursts.Fires what payload flag) call file s t (fired_entries (ended i call Kept).answer)
    (bursted (λ r. answereds.Fired r) (λ j. fire j (event_of what payload) flag) (bursts.Fires what payload flag) (λ j. refl) (fire-plain (event_of what payload) flag) s t code i file says.0 says.1 says.2 f) f (fire-plain (event_of what payload) flag i)
    (fire-leads i (event_of what payload) flag keeps f.sound d (record { name = passed.0; payload = passed.1 })) says.0.3 (ap (λ (g : Given). g.events) (fired-out (ended i call Kept).answer))) (λ new. refl)
called below laws i file s t (Burst (bursts.Receives tags now packet)) code f d keeps says passed =
    let call = receive tags i now packet in
    appends (bursted-adds laws (λ r. answereds.Received r) i (bursts.Receives tags now packet) call file s t (received_entries (ended i call Kept).answer)
    (bursted (λ r. answereds.Received r) (λ j. receive tags j now packet) (bursts.Receives tags now packet) (λ j. refl) (receive-plain tags now packet) s t code i file says.0 says.1 says.2 f) f (receive-plain tags now packet i)
    (receive-leads laws below.ranged below.bytes tags i now packet keeps d passed) says.0.3 (ap (λ (g : Given). g.events) (received-out (ended i call Kept).answer))) (λ new. refl)
called below laws i file s t (Burst (bursts.Asks now id what payload how)) code f d keeps says passed =
    let call = fire_query i now id what payload how in
    appends (bursted-adds laws (λ r. answereds.QueryFired r) i (bursts.Asks now id what payload how) call file s t []
    (bursted (λ r. answereds.QueryFired r) (λ j. fire_query j now id what payload how) (bursts.Asks now id what payload how) (λ j. refl) (query-fire-plain now id what payload how) s t code i file says.0 says.1 says.2 f) f (query-fire-plain now id what payload how i)
    (query-fire-leads laws i now id what payload how keeps) says.0.3 (ap (λ (g : Given). g.events) (fired_queries-out (ended i call Kept).answer))) (λ new. refl)
called below laws i file s t (Next old now) code f d keeps says passed = appends (left-called i file s t f (λ unready. (says.0 unready).1) (λ ready. (says.2.0, (says.1 ready).0))) (λ new. refl)
called below laws i file s t Add code f d keeps says passed =
    appends (adds-nothing file s t [] i i f (same-pending_bytes s t i file says.0 says.3 (ap (λ (a : AgentState). drop t.written (text_of a.device)) says.0 ∙ ap (λ (n : ℕ). drop n (text_of s.agent.device)) says.2) f) refl refl says.3 refl) (λ new. refl)

-- ---- while a text is to replace the file's, a call appends nothing

unready : (s : Session) → s.replaces ≡ true → is_ready s ≡ false
unready s replaces = ap (λ (b : Bool). not b && is_written s.agent.device s.written) replaces

abbrev Rest : Session → Session → Export → Type 0
Rest s t e = (pending_bytes t.agent.device t.written ≡ pending_bytes s.agent.device s.written) × (handed_by e s t ≡ [])

unmade : (s t : Session) (code : Code) → Waits s t code → s.replaces ≡ true → pending_bytes t.agent.device t.written ≡ pending_bytes s.agent.device s.written
unmade s t code waits_on replaces = ap (λ (u : Session). pending_bytes u.agent.device u.written) (waits_on (unready s replaces)).1

pub rest : (e : Export) (s t : Session) (code : Code) → Says e s t code → MayCall e s → s.replaces ≡ true → Rest s t e
rest (Fire what payload flag) s t code says may replaces = (unmade s t code says.0.0 replaces, unready-none s t (unready s replaces))
rest (Receive tags now packet) s t code says may replaces = (unmade s t code says.0.0 replaces, unready-none s t (unready s replaces))
rest (Query now id what payload addr params) s t code says may replaces = (unmade s t code says.0.0 replaces, refl)
rest (Merge packet join) s t code says may replaces = (unmade s t code says.0 replaces, unready-none s t (unready s replaces))
rest Save s t code says may replaces = (unmade s t code says.0.0 replaces, refl)
rest Compact s t code says may replaces = (unmade s t code says.0 replaces, refl)
rest (CloseDue now closed) s t code says may replaces = (unmade s t code says.0 replaces, refl)
rest (Observe time) s t code says may replaces = (unmade s t code says.0 replaces, refl)
rest (Respond number now payload) s t code says may replaces = (unmade s t code says.0 replaces, refl)
rest (Forget number) s t code says may replaces = (unmade s t code says.0 replaces, refl)
rest LocalState s t code says may replaces = (unmade s t code says.0 replaces, refl)
rest (Burst call) s t code says may replaces = absurd (let no : true ≡ false = sym replaces ∙ may in cc)
rest (Next old now) s t code says may replaces = (unmade s t code says.0 replaces, refl)
rest Add s t code says may replaces = (ap (λ (a : AgentState). drop t.written (text_of a.device)) says.0 ∙ ap (λ (n : ℕ). drop n (text_of s.agent.device)) says.2, refl)
