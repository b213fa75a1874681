-- What an export does to a host's session and file, and to the ideal agent that the session follows.
use Rattle.serf_agent_c.proofs.Names.{Bool, Err, List, None, Ok, Option, Result, Some, [], ap, append-nil, append_assoc, arith, cond, drop, false, inl, inr, length, min, nat_le, not, refl, subst, sym, true, ℕ, ◌&&◌, ◌++◌, ◌+◌, ◌-◌, ◌<◌, ◌==◌, ◌^◌, ◌∙◌, ◌∷◌, ◌≡◌, ◌≢◌, ◌⊎◌, eqb-true, drop-append-le, drop_min, option_map, IsSomeAnd, MatchBool, slice_get, clock_line, is_whole, seal_line, Device, FailurePlan, Observable, appended, flushed, fresh_device, replace_decremented, replaced, kept_bytes, Failed, Kept, MayReplaceBy, MayWrite, SnapshotView, Writing, last_line, append_line_decremented, opened_device, written, ClockKind, AppendLineError, event_of, Call, Ends, MayEnd, AppendsLine, Replaces, answers, ended, LeavesDevice, fire, IdealAgent, Closes, Opens, clock_state, fire_query, receive, HasPast, IsSound, compact, joined, save, written_lines, Steps, text_with, AgentState, view_of, params_of, BurstCall, Extends, IsFlushed, Leaves, Stands, line_of, no_failure, outcome, outcome_of, answer_code, fire_code, append_line_code, number_of, query_code, receive_code, CodesDiffer, Follows, HostSteps, Went, goes, rests, waits, Called, CloseDue, Compact, Observe, Says, text_at, GoesOn, IsFresh, config_of, Appends, is_ready, bytes_in, pending_bytes, text_of, BurstOutcome, Code, CallResult, Settings, Session}
use Rattle.serf_snapshot.specs.declared.kind.ClockKind.TheVariants as kinds
use Rattle.serf_snapshot.specs.declared.snapshot.AppendLineError.TheVariants as notes
use Rattle.serf_agent.specs.Lives.{after as ideal_after}
use Rattle.serf_agent_c.specs.declared.code.Code.TheVariants as codes
use Rattle.serf_agent_c.specs.declared.call_result.CallResult.TheVariants as call_results
use Rattle.serf_agent_c.specs.Bursts.{Outcome}
use Rattle.serf_agent_c.specs.Bursts as bursts
use Rattle.serf_agent_c.specs.HostLaws.{WentInBurst, WentToCompact, lost, made, pauses, renewed, stays}
use Rattle.serf_agent_c.specs.declared.burst_outcome.BurstOutcome.TheVariants as burst_outcomes
use Rattle.serf_agent_c.proofs.HandedOnce.{Recalls, call_result_entries, gives-none, nothing}
use Rattle.serf_agent_c.proofs.BurstLaws.{fire-plain, query-fire-plain, receive-plain, IsPlain, plain-if, calm-after, calm-kept, device-bytes, kept-step}

-- Codes

pub want : (c : Code) → (c ≡ codes.OutOfMemory) ⊎ (c ≢ codes.OutOfMemory)
want codes.OutOfMemory = inl refl
want codes.Done = inr (λ q. cc)
want codes.Empty = inr (λ q. cc)
want codes.InUse = inr (λ q. cc)
want codes.Pending = inr (λ q. cc)
want codes.Nothing = inr (λ q. cc)
want codes.BadConfig = inr (λ q. cc)
want codes.SinkError = inr (λ q. cc)
want codes.Stopped = inr (λ q. cc)
want codes.TooLarge = inr (λ q. cc)
want codes.Exhausted = inr (λ q. cc)
want codes.NoMessage = inr (λ q. cc)
want codes.RespondersFull = inr (λ q. cc)
want codes.NotPushPull = inr (λ q. cc)
want codes.TooLong = inr (λ q. cc)
want codes.NoTime = inr (λ q. cc)
want codes.PastDeadline = inr (λ q. cc)
want codes.NotPending = inr (λ q. cc)

abbrev all_codes : List Code
all_codes =
    codes.Done ∷ codes.Empty ∷ codes.InUse ∷ codes.Pending ∷ codes.Nothing ∷ codes.OutOfMemory ∷ codes.BadConfig ∷ codes.SinkError ∷ codes.Stopped ∷ codes.TooLarge ∷ codes.Exhausted ∷ codes.NoMessage ∷ codes.RespondersFull ∷ codes.NotPushPull ∷ codes.TooLong ∷ codes.NoTime ∷ codes.PastDeadline
    ∷ codes.NotPending ∷ []

numbered : (c : Code) → slice_get all_codes (number_of c) ≡ Some c
numbered codes.Done = refl
numbered codes.Empty = refl
numbered codes.InUse = refl
numbered codes.Pending = refl
numbered codes.Nothing = refl
numbered codes.OutOfMemory = refl
numbered codes.BadConfig = refl
numbered codes.SinkError = refl
numbered codes.Stopped = refl
numbered codes.TooLarge = refl
numbered codes.Exhausted = refl
numbered codes.NoMessage = refl
numbered codes.RespondersFull = refl
numbered codes.NotPushPull = refl
numbered codes.TooLong = refl
numbered codes.NoTime = refl
numbered codes.PastDeadline = refl
numbered codes.NotPending = refl

pub codes_differ : CodesDiffer
codes_differ = λ c d same. let e : Some c ≡ Some d = sym (numbered c) ∙ ap (λ (n : ℕ). slice_get all_codes n) same ∙ numbered d in cc

-- a session that is ready lacks nothing
nil-at : (xs : List ℕ) → (length xs == 0) ≡ true → xs ≡ []
nil-at [] is = refl
nil-at (x ∷ xs) is = let e : length (x ∷ xs) ≡ 0 = eqb-true (length (x ∷ xs)) 0 is in absurd (omega (arith, e))

pub ready-parts : (replaces : Bool) (more : List ℕ) → (not replaces && (length more == 0)) ≡ true → (replaces ≡ false) × (more ≡ [])
ready-parts true more is = cc
ready-parts false more is = (refl, nil-at more is)

pub text-ready : (file : List ℕ) (s : Session) → is_ready s ≡ true → text_at file s ≡ file
text-ready file s ready =
    let p = ready-parts s.replaces (pending_bytes s.agent.device s.written) ready in
    rw (p.0, p.1) (append-nil file)

-- what a plain call makes durable
durable-noted : (kind : ClockKind) (t : ℕ) (s : SnapshotView) (old : List ℕ) (b : Bool) → s.durable ≡ Some old → (cond b s (written kind t s Kept)).durable ≡ Some (old ++ cond b [] (clock_line kind t))
durable-noted kind t s old true is = is ∙ ap (λ (x : List ℕ). Some x) (sym (append-nil old))
durable-noted kind t s old false is = ap (λ (o : Option (List ℕ)). option_map (λ (k : List ℕ). k ++ clock_line kind t) o) is

pub durable-after : {R : Type 0} (i : IdealAgent) (call : Call R) (old : List ℕ) → IsPlain i call → i.snapshot.durable ≡ Some old → (ended i call Kept).agent.snapshot.durable ≡ Some (old ++ line_of i call)
durable-after i (Ends step) old plain is = ap (λ (s : SnapshotView). s.durable) plain ∙ is ∙ ap (λ (x : List ℕ). Some x) (sym (append-nil old))
durable-after i (AppendsLine kind t None step error) old plain is = durable-noted kind t i.snapshot old (nat_le t (last_line kind i.snapshot)) is
durable-after i (AppendsLine kind t (Some line) step error) old plain is = ap (λ (o : Option (List ℕ)). option_map (λ (k : List ℕ). k ++ kept_bytes kind t line (last_line kind i.snapshot)) o) is
durable-after i (Replaces lines step error) old plain is = absurd plain

-- the file lacks what was appended
appended-lacks : (old line new : List ℕ) → new ≡ old ++ line → drop (length old) new ≡ line
appended-lacks old line new is = rw (is, drop-append-le (length old) old line (omega arith)) (ap (λ (xs : List ℕ). xs ++ line) (drop_self old))
  where
    drop_self : (xs : List ℕ) → drop (length xs) xs ≡ []
    drop_self [] = refl
    drop_self (x ∷ xs) = drop_self xs

pub text-appends : (file : List ℕ) (s t : Session) (line : List ℕ) → Appends s t → text_of t.agent.device ≡ text_of s.agent.device ++ line → text_at file t ≡ file ++ line
text-appends file s t line a text =
    let more : pending_bytes t.agent.device t.written ≡ line = ap (λ (n : ℕ). drop n (text_of t.agent.device)) a.0 ∙ appended-lacks (text_of s.agent.device) line (text_of t.agent.device) text in
    rw (a.1, more) refl

pub called : {R E : Type 0} (call_result : Result R E → CallResult) (error_code : E → Code) (call : IdealAgent → Call (Result R E)) → ((i : IdealAgent) → IsPlain i (call i)) → (s t : Session) (code : Code) (i : IdealAgent) (file : List ℕ)
    → Called call_result error_code call s t code → (is_ready s ≡ true → Appends s t) → Follows i file s → Went call_result i (call i) file s t
called {R} {E} call_result error_code call plain s t code i file c appends f = by (is_ready s) refl
  where
    goes-on : is_ready s ≡ true → code ≢ codes.OutOfMemory → Went call_result i (call i) file s t
    goes-on ready other =
        let g = c.2 ready other in
        let r : Result R E = g.0 in
        let steps = c.3 ready other r g.1 i f.sound f.state in
        let made = kept-step i (call i) r s.agent.device t.agent f.calm (plain i) steps in
        let bytes = rw (← made.3) at (device-bytes i (call i) s.agent.device (plain i) f.flushed) in
        let before : i.snapshot.durable ≡ Some file = f.disk ∙ ap (λ (x : List ℕ). Some x) (text-ready file s ready) in
        goes ready (subst (λ (w : Writing). MayEnd i (call i) w) (calm-kept i (call i) steps.writing f.calm (plain i) steps.allowed) steps.allowed) (g.1 ∙ ap call_result made.0)
        (record {
          state = made.1;
          sound = made.2;
          calm = calm-after i (call i) f.calm (plain i);
          flushed = bytes.1;
          disk = durable-after i (call i) file (plain i) before ∙ ap (λ (x : List ℕ). Some x) (sym (text-appends file s t (line_of i (call i)) (appends ready) bytes.0));
        })

    none : is_ready s ≡ true → code ≡ codes.OutOfMemory → Went call_result i (call i) file s t
    none ready out =
        let forgoes = c.1 out in
        let same = forgoes.0 in
        let text : text_of t.agent.device ≡ text_of s.agent.device ++ [] = ap (λ (a : AgentState). text_of a.device) same ∙ sym (append-nil (text_of s.agent.device)) in
        rests ready (record {
          state = ap (λ (a : AgentState). a.concrete) same ∙ f.state;
          sound = f.sound;
          calm = f.calm;
          flushed = subst (λ (a : AgentState). IsFlushed a.device) (sym same) f.flushed;
          disk = f.disk ∙ ap (λ (x : List ℕ). Some x) (text-ready file s ready ∙ sym (text-appends file s t [] (appends ready) text ∙ append-nil file));
        }) forgoes.1.0

    by : (b : Bool) → is_ready s ≡ b → Went call_result i (call i) file s t
    by false is = waits is (c.0 is).1
    by true is = elim (want code) [
      | inl out ↦ none is out
      | inr other ↦ goes-on is other
    ]

pub save-plain : (i : IdealAgent) → IsPlain i (save i)
save-plain i = plain-if {R = Result (Unit {0}) AppendLineError} i i.snapshot.stopped (answers i (Err notes.Stopped)) (AppendsLine kinds.Member (i.member_clock - 1) None (record { agent = i; answer = Ok (tt {0}) }) (Err notes.SinkError)) refl (tt {0})

drop-all : (xs : List ℕ) → drop (length xs) xs ≡ []
drop-all [] = refl
drop-all (x ∷ xs) = drop-all xs

written-follows : (s t : Session) (i : IdealAgent) (file : List ℕ) → t.written ≡ length (text_of s.agent.device) → t.replaces ≡ false → t.agent ≡ s.agent → Follows i file s → Follows i (text_at file s) t
written-follows s t i file written replaces same f =
    let more : pending_bytes t.agent.device t.written ≡ [] = ap (λ (n : ℕ). drop n (text_of t.agent.device)) written ∙ ap (λ (a : AgentState). drop (length (text_of s.agent.device)) (text_of a.device)) same ∙ drop-all (text_of s.agent.device) in
    let text : text_at (text_at file s) t ≡ text_at file s = rw (replaces, more) (append-nil (text_at file s)) in
    record {
      state = ap (λ (a : AgentState). a.concrete) same ∙ f.state;
      sound = f.sound;
      calm = f.calm;
      flushed = subst (λ (a : AgentState). IsFlushed a.device) (sym same) f.flushed;
      disk = f.disk ∙ ap (λ (x : List ℕ). Some x) (sym text);
    }

opened-calm : (text : List ℕ) (b : Bool) → cond b (fresh_device text).plan (option_map append_line_decremented (fresh_device text).plan) ≡ Some no_failure
opened-calm text true = refl
opened-calm text false = refl

opened-flushed : (text : List ℕ) (b : Bool) → IsFlushed (cond b (fresh_device text) (flushed (appended seal_line (fresh_device text))))
opened-flushed text true = refl
opened-flushed text false = refl

pub sealed-so : (text : List ℕ) (b : Bool) → text ++ drop (length text) (text_of (cond b (fresh_device text) (flushed (appended seal_line (fresh_device text))))) ≡ cond b text (text ++ seal_line)
sealed-so text true = ap (λ (xs : List ℕ). text ++ xs) (drop-all text) ∙ append-nil text
sealed-so text false = ap (λ (xs : List ℕ). text ++ xs) (appended-lacks text seal_line (text ++ seal_line) refl)

opens-follows : (name : List ℕ) (settings : Settings) (text : List ℕ) (t : Session) (i : IdealAgent) → IsSound i → HasPast (config_of name settings) i text → GoesOn name settings text t → IsFresh text t
    → Follows (ideal_after i (Opens (config_of name settings) text (fresh_device text))) text t
opens-follows name settings text t i sound past goes_on fresh =
    let g = goes_on i sound past in
    let more : pending_bytes t.agent.device t.written ≡ drop (length text) (text_of (opened_device text (fresh_device text))) = ap (λ (n : ℕ). drop n (text_of t.agent.device)) fresh.1 ∙ ap (λ (d : Device). drop (length text) (text_of d)) fresh.0 in
    let all : text_at text t ≡ text ++ drop (length text) (text_of (opened_device text (fresh_device text))) = rw (fresh.2, more) refl in
    record {
      state = g.0;
      sound = g.1;
      calm = opened-calm text (is_whole text);
      flushed = subst IsFlushed (sym fresh.0) (opened-flushed text (is_whole text));
      disk = ap (λ (x : List ℕ). Some x) (sym (all ∙ sealed-so text (is_whole text)));
    }

-- the agent is as before, and what was appended counts as written
pub same-agent : (s t : Session) (i : IdealAgent) (file : List ℕ) → is_ready s ≡ true → t.agent ≡ s.agent → Appends s t → Follows i file s → Follows i file t
same-agent s t i file ready same appends f =
    let text : text_of t.agent.device ≡ text_of s.agent.device ++ [] = ap (λ (a : AgentState). text_of a.device) same ∙ sym (append-nil (text_of s.agent.device)) in
    record {
      state = ap (λ (a : AgentState). a.concrete) same ∙ f.state;
      sound = f.sound;
      calm = f.calm;
      flushed = subst (λ (a : AgentState). IsFlushed a.device) (sym same) f.flushed;
      disk = f.disk ∙ ap (λ (x : List ℕ). Some x) (text-ready file s ready ∙ sym (text-appends file s t [] appends text ∙ append-nil file));
    }

-- the session has the same agent and lacks the same bytes
pub same-pending_bytes : (s t : Session) (i : IdealAgent) (file : List ℕ) → t.agent ≡ s.agent → t.replaces ≡ s.replaces → pending_bytes t.agent.device t.written ≡ pending_bytes s.agent.device s.written → Follows i file s → Follows i file t
same-pending_bytes s t i file same replaces lacks f = record {
  state = ap (λ (a : AgentState). a.concrete) same ∙ f.state;
  sound = f.sound;
  calm = f.calm;
  flushed = subst (λ (a : AgentState). IsFlushed a.device) (sym same) f.flushed;
  disk = f.disk ∙ ap (λ (x : List ℕ). Some x) (sym (rw (replaces, lacks) refl));
}

-- the open queries that were due are closed
pub closed-follows : (s t : Session) (code : Code) (now closed : ℕ) (i : IdealAgent) (file : List ℕ) → Says (CloseDue now closed) s t code → is_ready s ≡ true → code ≢ codes.OutOfMemory → Follows i file s → Follows (ideal_after i (Closes now)) file t
closed-follows s t code now closed i file may ready other f =
    let c = may.3 ready other in
    let j = c.5 i f.sound f.state in
    let text : text_of t.agent.device ≡ text_of s.agent.device ++ [] = ap (λ (d : Device). text_of d) c.1 ∙ sym (append-nil (text_of s.agent.device)) in
    record {
      state = j.1;
      sound = j.2;
      calm = f.calm;
      flushed = subst IsFlushed (sym c.1) f.flushed;
      disk = f.disk ∙ ap (λ (x : List ℕ). Some x) (text-ready file s ready ∙ sym (text-appends file s t [] (may.1 ready).1 text ∙ append-nil file));
    }

-- a time of the member clock is observed, or is not a valid time
pub unobserved-follows : (s t : Session) (code : Code) (time : ℕ) (i : IdealAgent) (file : List ℕ) → Says (Observe time) s t code → is_ready s ≡ true → time ≡ 2 ^ 64 - 1 → Follows i file s → Follows i file t
unobserved-follows s t code time i file may ready none f =
    let rest = may.1 ready in
    let same = (may.2 ready none).1 in
    same-pending_bytes s t i file same rest.2 (ap (λ (a : AgentState). drop t.written (text_of a.device)) same ∙ ap (λ (n : ℕ). drop n (text_of s.agent.device)) rest.1) f

pub observed-follows : (s t : Session) (code : Code) (time : ℕ) (i : IdealAgent) (file : List ℕ) → Says (Observe time) s t code → is_ready s ≡ true → time < 2 ^ 64 - 1 → Follows i file s → Follows (joined (clock_state (time + 1)) false i) file t
observed-follows s t code time i file may ready low f =
    let rest = may.1 ready in
    let heard = may.3 ready low i f.sound f.state in
    let lacks : pending_bytes t.agent.device t.written ≡ pending_bytes s.agent.device s.written = ap (λ (d : Device). drop t.written (text_of d)) rest.7 ∙ ap (λ (n : ℕ). drop n (text_of s.agent.device)) rest.1 in
    record { state = heard.0; sound = heard.1; calm = f.calm; flushed = subst IsFlushed (sym rest.7) f.flushed; disk = f.disk ∙ ap (λ (x : List ℕ). Some x) (sym (ap (λ (b : Bool). cond b (pending_bytes t.agent.device t.written) (file ++ pending_bytes t.agent.device t.written)) rest.2 ∙ ap (λ (xs : List ℕ). cond s.replaces xs (file ++ xs)) lacks)) }

may-append_line : (s : SnapshotView) (line : List ℕ) (b : Bool) → s.plan ≡ Some no_failure → MatchBool b (Kept ≡ Kept) (MayWrite s line Kept)
may-append_line s line true calm = refl
may-append_line s line false calm = rw calm refl

-- a sink that is planned never to fail may do what a plain call requests
pub may-calm : {R : Type 0} (i : IdealAgent) (call : Call R) → i.snapshot.plan ≡ Some no_failure → IsPlain i call → MayEnd i call Kept
may-calm i (Ends step) calm plain = refl
may-calm i (AppendsLine kind t None step error) calm plain = may-append_line i.snapshot (clock_line kind t) (nat_le t (last_line kind i.snapshot)) calm
may-calm i (AppendsLine kind t (Some line) step error) calm plain = may-append_line i.snapshot (kept_bytes kind t line (last_line kind i.snapshot)) false calm
may-calm i (Replaces lines step error) calm plain = absurd plain

more-at : (replaces : Bool) (file lacks line more : List ℕ) → more ≡ lacks ++ (line ++ []) → cond replaces more (file ++ more) ≡ cond replaces lacks (file ++ lacks) ++ line
more-at true file lacks line more is = is ∙ ap (λ (xs : List ℕ). lacks ++ xs) (append-nil line)
more-at false file lacks line more is = ap (λ (xs : List ℕ). file ++ xs) (is ∙ ap (λ (xs : List ℕ). lacks ++ xs) (append-nil line)) ∙ sym (append_assoc file lacks line)

pub bursted : {R : Type 0} (burst_outcome : R → BurstOutcome) (f : IdealAgent → Call R) (call : BurstCall) → ((j : IdealAgent) → outcome_of j call ≡ outcome burst_outcome j (f j)) → ((j : IdealAgent) → IsPlain j (f j))
    → (s t : Session) (code : Code) (i : IdealAgent) (file : List ℕ) → Stands s t → Leaves s t code → Extends call s t code → Follows i file s → WentInBurst burst_outcome i (f i) file s t
bursted {R} burst_outcome f call is plain s t code i file stands leaves extends k = elim (want code) [
  | inl out ↦
      (let l = leaves out in
      lost (same-pending_bytes s t i file l.0 stands.3 (ap (λ (n : ℕ). drop n (text_of t.agent.device)) stands.4 ∙ ap (λ (a : AgentState). drop (min s.written (length (text_of s.agent.device))) (text_of a.device)) l.0 ∙ drop_min s.written (text_of s.agent.device)) k) l.1)
  | inr other ↦
      (let b = extends other i [] s (record { state = k.state; sound = k.sound; calm = k.calm; flushed = k.flushed; outcomes = sym (append-nil s.burst.items); lines = sym (append-nil (pending_bytes s.agent.device s.written)) }) in
      let same = is i in
      let lines : pending_bytes t.agent.device t.written ≡ pending_bytes s.agent.device s.written ++ (line_of i (f i) ++ []) = b.lines ∙ ap (λ (o : Outcome). pending_bytes s.agent.device s.written ++ (o.line ++ [])) same in
      made (may-calm i (f i) k.calm (plain i)) (record {
        state = b.state ∙ ap (λ (o : Outcome). view_of o.agent) same;
        sound = subst (λ (o : Outcome). IsSound o.agent) same b.sound;
        calm = calm-after i (f i) k.calm (plain i);
        flushed = b.flushed;
        disk = durable-after i (f i) (text_at file s) (plain i) k.disk ∙ ap (λ (x : List ℕ). Some x) (sym (ap (λ (b : Bool). cond b (pending_bytes t.agent.device t.written) (file ++ pending_bytes t.agent.device t.written)) stands.3 ∙ more-at s.replaces file (pending_bytes s.agent.device s.written) (line_of i (f i)) (pending_bytes t.agent.device t.written) lines));
      }) (b.outcomes ∙ ap (λ (o : Outcome). s.burst.items ++ o.answer ∷ []) same))
]

-- ---- a compaction

-- a compaction: either nothing was done, or the agent's whole text will replace the file's
pub data Compacted (i : IdealAgent) (file : List ℕ) (s t : Session) (code : Code) : Type 0 where
  idle : is_ready s ≡ false → t ≡ s → code ≡ codes.Pending → Compacted i file s t code
  refuses : is_ready s ≡ true → Follows i file t → code ≢ codes.Done → call_result_entries t.call_result ≡ nothing → Compacted i file s t code
  renews : is_ready s ≡ true → MayEnd i (compact i) Kept → Follows (ended i (compact i) Kept).agent file t → t.replaces ≡ true → code ≡ codes.Done → call_result_entries t.call_result ≡ nothing → (ended i (compact i) Kept).agent.snapshot.durable ≡ Some (pending_bytes t.agent.device t.written)
      → Recalls i (ended i (compact i) Kept).agent → Compacted i file s t code

calm-replace : (s : SnapshotView) (text : List ℕ) (w : Writing) → s.plan ≡ Some no_failure → MayReplaceBy text s w → w ≡ Kept
calm-replace s text Kept calm may = refl
calm-replace s text (Failed durable) calm may = let planned = rw calm at may.1 in let wrong : false ≡ true = planned.0 in cc

text-replaced : (o : Option Observable) (text : List ℕ) → IsSomeAnd o (λ (b : Observable). b.buffered ≡ []) → bytes_in (option_map (λ (t : Observable). t.durable) (option_map (λ (t : Observable). let n : Observable = record { buffered = []; durable = text } in n) o)) ≡ text
text-replaced (Some b) text is = refl
text-replaced None text is = absurd is

flushed-replaced : (o : Option Observable) (text : List ℕ) → IsSomeAnd o (λ (b : Observable). b.buffered ≡ []) → IsSomeAnd (option_map (λ (t : Observable). let n : Observable = record { buffered = []; durable = text } in n) o) (λ (b : Observable). b.buffered ≡ [])
flushed-replaced (Some b) text is = refl
flushed-replaced None text is = absurd is

noted-nothing : (r : Result (Unit {0}) AppendLineError) → call_result_entries (call_results.LineAppended r) ≡ nothing
noted-nothing (Ok done) = refl
noted-nothing (Err error) = refl

pub compacted : (s t : Session) (code : Code) (i : IdealAgent) (file : List ℕ) → Says Compact s t code → Follows i file s → Compacted i file s t code
compacted s t code i file says f = by (is_ready s) refl
  where
    out-of : is_ready s ≡ true → code ≡ codes.OutOfMemory → Compacted i file s t code
    out-of ready out =
        let u = says.1 out in
        let other : code ≢ codes.Done = λ done. let no : codes.OutOfMemory ≡ codes.Done = sym out ∙ done in cc in
        let appends = (says.4 ready).1 other in
        let text : text_of t.agent.device ≡ text_of s.agent.device ++ [] = ap (λ (o : Option Observable). bytes_in (option_map (λ (x : Observable). x.durable) o)) u.1 ∙ sym (append-nil (text_of s.agent.device)) in
        refuses ready (record {
          state = u.0 ∙ f.state;
          sound = f.sound;
          calm = f.calm;
          flushed = subst (λ (o : Option Observable). IsSomeAnd o (λ (b : Observable). b.buffered ≡ [])) (sym u.1) f.flushed;
          disk = f.disk ∙ ap (λ (x : List ℕ). Some x) (text-ready file s ready ∙ sym (text-appends file s t [] appends text ∙ append-nil file));
        }) other (gives-none t.call_result u.2.0)

    stops : (r : Result (Unit {0}) AppendLineError) → is_ready s ≡ true → t.call_result ≡ call_results.LineAppended r → code ≡ answer_code append_line_code r → i.snapshot.stopped ≡ true → Steps i (compact i) r s.agent.device t.agent → Compacted i file s t code
    stops r ready call_result is stopped steps =
        let call : Call (Result (Unit {0}) AppendLineError) = answers i (Err notes.Stopped) in
        let st : Steps i call r s.agent.device t.agent = subst (λ (b : Bool). Steps i (cond b (answers i (Err notes.Stopped)) (Replaces (written_lines (view_of i)) (record { agent = i; answer = Ok (tt {0}) }) (Err notes.SinkError))) r s.agent.device t.agent) stopped steps in
        let made = kept-step i call r s.agent.device t.agent f.calm refl st in
        let code-is : code ≡ codes.Stopped = is ∙ ap (λ (x : Result (Unit {0}) AppendLineError). answer_code append_line_code x) made.0 in
        let other : code ≢ codes.Done = λ done. let no : codes.Stopped ≡ codes.Done = sym code-is ∙ done in cc in
        let text : text_of t.agent.device ≡ text_of s.agent.device ++ [] = ap (λ (d : Device). text_of d) made.3 ∙ sym (append-nil (text_of s.agent.device)) in
        refuses ready (record {
          state = made.1;
          sound = f.sound;
          calm = f.calm;
          flushed = subst IsFlushed (sym made.3) f.flushed;
          disk = f.disk ∙ ap (λ (x : List ℕ). Some x) (text-ready file s ready ∙ sym (text-appends file s t [] ((says.4 ready).1 other) text ∙ append-nil file));
        }) other (ap call_result_entries call_result ∙ noted-nothing r)

    replaces-all : (r : Result (Unit {0}) AppendLineError) → is_ready s ≡ true → t.call_result ≡ call_results.LineAppended r → code ≡ answer_code append_line_code r → i.snapshot.stopped ≡ false → Steps i (compact i) r s.agent.device t.agent → Compacted i file s t code
    replaces-all r ready call_result is runs steps =
        let lines = written_lines (view_of i) in
        let text = text_with lines i.snapshot in
        let call : Call (Result (Unit {0}) AppendLineError) = Replaces lines (record { agent = i; answer = Ok (tt {0}) }) (Err notes.SinkError) in
        let same : compact i ≡ call = ap (λ (b : Bool). cond b (answers i (Err notes.Stopped)) call) runs in
        let st : Steps i call r s.agent.device t.agent = subst (λ (c : Call (Result (Unit {0}) AppendLineError)). Steps i c r s.agent.device t.agent) same steps in
        let w = calm-replace i.snapshot text st.writing f.calm st.allowed in
        let st-answer : r ≡ Ok (tt {0}) = st.answers ∙ ap (λ (v : Writing). (ended i call v).answer) w in
        let done : code ≡ codes.Done = is ∙ ap (λ (x : Result (Unit {0}) AppendLineError). answer_code append_line_code x) st-answer in
        let dev : t.agent.device ≡ replaced text s.agent.device = subst (λ (v : Writing). LeavesDevice i call v s.agent.device t.agent.device) w st.device in
        let c = (says.4 ready).0 done in
        let bytes : text_of t.agent.device ≡ text = ap (λ (d : Device). text_of d) dev ∙ text-replaced s.agent.device.observed_bytes text f.flushed in
        let lacks : pending_bytes t.agent.device t.written ≡ text = ap (λ (n : ℕ). drop n (text_of t.agent.device)) c.0 ∙ bytes in
        let durable : (ended i call Kept).agent.snapshot.durable ≡ Some text = ap (λ (o : Option (List ℕ)). option_map (λ (k : List ℕ). text) o) f.disk in
        let follows : Follows (ended i call Kept).agent file t = record {
          state = st.state ∙ ap (λ (v : Writing). view_of (ended i call v).agent) w;
          sound = subst (λ (v : Writing). IsSound (ended i call v).agent) w st.sound;
          calm = ap (λ (o : Option FailurePlan). option_map replace_decremented o) f.calm;
          flushed = subst IsFlushed (sym dev) (flushed-replaced s.agent.device.observed_bytes text f.flushed);
          disk = durable ∙ ap (λ (x : List ℕ). Some x) (sym (ap (λ (b : Bool). cond b (pending_bytes t.agent.device t.written) (file ++ pending_bytes t.agent.device t.written)) c.1 ∙ lacks));
        } in
        renews ready (subst (λ (c : Call (Result (Unit {0}) AppendLineError)). MayEnd i c Kept) (sym same) (subst (λ (v : Writing). MayEnd i call v) w st.allowed))
        (subst (λ (c : Call (Result (Unit {0}) AppendLineError)). Follows (ended i c Kept).agent file t) (sym same) follows) c.1 done (ap call_result_entries call_result ∙ noted-nothing r)
        (subst (λ (c : Call (Result (Unit {0}) AppendLineError)). (ended i c Kept).agent.snapshot.durable ≡ Some (pending_bytes t.agent.device t.written)) (sym same) (durable ∙ ap (λ (x : List ℕ). Some x) (sym lacks)))
        (subst (λ (c : Call (Result (Unit {0}) AppendLineError)). Recalls i (ended i c Kept).agent) (sym same) (λ a knows. knows))

    goes-on : is_ready s ≡ true → code ≢ codes.OutOfMemory → Compacted i file s t code
    goes-on ready other =
        split i.snapshot.stopped refl
      where
        split : (b : Bool) → i.snapshot.stopped ≡ b → Compacted i file s t code
        split true is = let g = says.2 ready other in stops g.0 ready g.1 g.2 is (says.3 ready other g.0 g.1 i f.sound f.state)
        split false is = let g = says.2 ready other in replaces-all g.0 ready g.1 g.2 is (says.3 ready other g.0 g.1 i f.sound f.state)

    by : (b : Bool) → is_ready s ≡ b → Compacted i file s t code
    by false is = idle is (says.0 is).1 (says.0 is).0
    by true is = elim (want code) [
      | inl out ↦ out-of is out
      | inr other ↦ goes-on is other
    ]

-- a compaction, without what a host's results have of it
compaction-step : (i : IdealAgent) (file : List ℕ) (s t : Session) (code : Code) → Compacted i file s t code → WentToCompact i file s t code
compaction-step i file s t code (idle unready same is) = pauses unready same
compaction-step i file s t code (refuses ready follows other none) = stays ready other follows
compaction-step i file s t code (renews ready may follows new done none durable recalls) = renewed ready done may follows new durable

pub host_steps : HostSteps
host_steps = record {
  fires = λ name payload coalesce s t code i file says f. called (λ r. call_results.Fired r) fire_code (λ i. fire i (event_of name payload) coalesce) (fire-plain (event_of name payload) coalesce) s t code i file says.0 (λ ready. (says.1 ready).text) f;
  receives = λ tags now packet s t code i file says f. called (λ r. call_results.Received r) receive_code (λ i. receive tags i now packet) (receive-plain tags now packet) s t code i file says.0 (λ ready. (says.1 ready).text) f;
  asks = λ now id name payload addr params s t code i file says f. called (λ r. call_results.QueryFired r) query_code (λ i. fire_query i now id name payload (params_of s.filters addr params)) (query-fire-plain now id name payload (params_of s.filters addr params)) s t code i file says.0 (λ ready. (says.1 ready).2) f;
  saves = λ s t code i file says f. called (λ r. call_results.LineAppended r) append_line_code (λ i. save i) save-plain s t code i file says.0 (λ ready. (says.1 ready).text) f;
  compacts = λ s t code i file says f. compaction-step i file s t code (compacted s t code i file says f);
  fires_in_burst = λ name payload coalesce s t code i file says f. bursted (λ r. burst_outcomes.Fired r) (λ j. fire j (event_of name payload) coalesce) (bursts.Fires name payload coalesce) (λ j. refl) (fire-plain (event_of name payload) coalesce) s t code i file says.0 says.1 says.2 f;
  receives_in_burst = λ tags now packet s t code i file says f. bursted (λ r. burst_outcomes.Received r) (λ j. receive tags j now packet) (bursts.Receives tags now packet) (λ j. refl) (receive-plain tags now packet) s t code i file says.0 says.1 says.2 f;
  asks_in_burst = λ now id name payload params s t code i file says f. bursted (λ r. burst_outcomes.QueryFired r) (λ j. fire_query j now id name payload params) (bursts.Asks now id name payload params) (λ j. refl) (query-fire-plain now id name payload params) s t code i file says.0 says.1 says.2 f;
  writes = written-follows;
  opens = opens-follows;
}
