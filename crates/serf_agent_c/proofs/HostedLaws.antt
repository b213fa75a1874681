-- What the getters may have returned to a host in C over all its lives, and that the host misses nothing new.
use Rattle.serf_agent_c.proofs.Names.{Bool, Err, List, None, Ok, Option, Result, Some, [], ap, append-nil, append_assoc, arith, cond, drop, false, inl, inr, not, refl, subst, sym, true, ℕ, ◌&&◌, ◌++◌, ◌||◌, ◌∙◌, ◌∷◌, ◌≡◌, ◌≢◌, ◌≤◌, ◌⊎◌, All-head, All-tail, All, EventsHaveBytes, Message, foreign, push_pull, query, query_response, user_event, fresh_device, min_in, Kept, AppendLineError, event_of, TimedEntry, Call, ended, is_sound, fire, DeliveredQuery, DiffersInOtherLines, IdealAgent, IsDurable, IsMessageWritable, IsActWritable, IsWritable, StartsWithDurable, whatever, Asks, Fires, Gets, Opens, Saves, first_life, fire_query, receive, IsSound, save, TakesOrFull, AgentState, FireError, Fired, FiredQuery, QueryError, params_of, reply_of, IsFlushed, Waits, Follows, GivesExactly, Went, WentInBurst, goes, lost, made, rests, waits, Add, BeginsWith, Burst, Calls, CloseDue, Compact, Deed, Dies, Export, Fire, Forget, GivesLater, GivesLaterInBursts, GivesOnce, GivesQueriesLater, GivesQueriesLaterInBursts, GivesQueriesOnce, Host, IsPassed, KeepsTo, LocalState, MayDo, MayHost, Merge, Met, MissesNone, Next, Observe, Query, Receive, Respond, Save, Says, Showing, Writes, all_met, did, enters, first_host, first_met, gives, hosted, met_after, met_in, replacing, shown, text_at, waiting_at, GoesOn, IsFresh, config_of, kind_of, is_ready, settled, is_written, text_of, BurstOutcome, Code, CallResult, Settings, Session}
use Rattle.serf_agent.specs.declared.outcome.Outcome.TheVariants as outcomes
use Rattle.serf_agent.specs.Lives as lives
use Rattle.serf_agent_c.specs.declared.call_result.CallResult.TheVariants as call_results
use Rattle.serf_agent_c.specs.declared.burst_outcome.BurstOutcome.TheVariants as answereds
use Rattle.serf_agent_c.specs.Bursts as bursts
use Rattle.serf_agent_c.proofs.HostLaws.{closed-follows}
use Rattle.serf_agent_c.specs.declared.code.Code.TheVariants as codes
use Rattle.serf_agent_c.proofs.BurstLaws.{fire-plain, query-fire-plain, receive-plain}
use Rattle.serf_agent_c.proofs.HostLaws.{compacted, bursted, host_steps, same-agent, same-pending_bytes, want}
use Rattle.serf_agent_c.proofs.HandedOnce.{made-now, Given, Knows, call_result_entries, gives-none, in-two, knows-front, knows-nothing, nothing, ◌⊕◌}
use Rattle.serf_agent_c.proofs.HostedCalls.{Below, queue_entries, given_to, due, AfterAt, IsHosted, knows-after, shown-hosted, pre, went-hosted, fired-out, fired_queries-out, received-out, bursted-hosted, compacted-hosted, next-hosted, beside-hosted, waits-hosted, quiet-hosted, replied-out, local-hosted, observed-hosted}
use Rattle.serf_agent_c.proofs.OtherLines.{Leaves, leaves, left_with}
use Rattle.serf_agent_c.proofs.HostedMerges.{merged-hosted, merged-within}
use Rattle.serf_agent_c.proofs.HostedKept.{Aim, IsKept, KeptAt, StateOffers, Tracking, Within, aimed, bursted-within, called-kept, closed-within, compacted-kept, compacted-within, goes-left, left-within, more-within, observed-within, offered-kept, opened-kept, renewed-on, saved-within, shown-kept, still, went-within}

pub due-kind : (g : CallResult) → kind_of g ≡ 13 → call_result_entries g ≡ nothing
due-kind (call_results.Received (Ok (outcomes.Event e))) is = let no : 1 ≡ 13 = is in absurd (omega (arith, no))
due-kind (call_results.Received (Ok (outcomes.Query a b c))) is = let no : 2 ≡ 13 = is in absurd (omega (arith, no))
due-kind (call_results.Received (Ok outcomes.Ack)) is = refl
due-kind (call_results.Received (Ok outcomes.Response)) is = refl
due-kind (call_results.Received (Ok (outcomes.Ignored reason))) is = refl
due-kind (call_results.Received (Ok (outcomes.Foreign kind))) is = refl
due-kind (call_results.Received (Ok outcomes.PushPull)) is = refl
due-kind (call_results.Received (Err error)) is = refl
due-kind (call_results.Fired (Ok f)) is = let no : 8 ≡ 13 = is in absurd (omega (arith, no))
due-kind (call_results.Fired (Err error)) is = refl
due-kind (call_results.Merged events error) is = let no : 10 ≡ 13 = is in absurd (omega (arith, no))
due-kind call_results.Nothing is = refl
due-kind (call_results.Kept q) is = refl
due-kind (call_results.QueryFired (Ok f)) is = let no : 9 ≡ 13 = is in absurd (omega (arith, no))
due-kind (call_results.QueryFired (Err error)) is = refl
due-kind (call_results.State r) is = refl
due-kind (call_results.Replied r) is = refl
due-kind (call_results.LineAppended r) is = refl
due-kind (call_results.Closed q) is = refl

closed-hosted : Below → (h : Host) (t : Session) (code : Code) (now closed : ℕ) (k : IsHosted h) → Says (CloseDue now closed) h.session t code → IsHosted (shown (pre h t))
closed-hosted laws h t code now closed k may = by (is_ready h.session) refl
  where
    i : IdealAgent
    i = k.inside.agent

    done : is_ready h.session ≡ true → code ≢ codes.OutOfMemory → IsHosted (shown (pre h t))
    done ready other =
        let c = may.3 ready other in
        quiet-hosted h t k ready (lives.after i (lives.Closes now)) (closed-follows h.session t code now closed i h.file may ready other k.inside.follows) (laws.durable i (lives.Closes now) k.inside.follows.sound k.inside.durable tt tt) (λ a knows. knows) (due-kind t.call_result c.3) (may.1 ready).4

    by : (b : Bool) → is_ready h.session ≡ b → IsHosted (shown (pre h t))
    by false is = waits-hosted h t k is (may.0 is).1
    by true is = elim (want code) [
      | inl out ↦ (let f = may.2 out in let kept = may.1 is in quiet-hosted h t k is i (same-agent h.session t i h.file is f.0 kept.1 k.inside.follows) k.inside.durable (λ a knows. knows) (gives-none t.call_result f.1.0) kept.4)
      | inr other ↦ done is other
    ]

responds-hosted : (h : Host) (t : Session) (code : Code) (number now : ℕ) (payload : List ℕ) (k : IsHosted h) → Says (Respond number now payload) h.session t code → IsHosted (shown (pre h t))
responds-hosted h t code number now payload k may = by (is_ready h.session) refl
  where
    made-it : is_ready h.session ≡ true → call_result_entries t.call_result ≡ nothing → IsHosted (shown (pre h t))
    made-it ready none = let d = may.2 ready in quiet-hosted h t k ready k.inside.agent (same-agent h.session t k.inside.agent h.file ready may.1 d.3 k.inside.follows) k.inside.durable (λ a knows. knows) none d.6

    found : is_ready h.session ≡ true → code ≢ codes.OutOfMemory → (o : Option DeliveredQuery) → waiting_at number (settled h.session).waiting ≡ o → IsHosted (shown (pre h t))
    found ready other None at = let d = may.2 ready in let rests = d.1 (d.0 at other) in made-it ready (gives-none t.call_result rests.0)
    found ready other (Some q) at = let r = may.3 ready other q at in made-it ready (ap call_result_entries r.0 ∙ replied-out (reply_of q now payload))

    by : (b : Bool) → is_ready h.session ≡ b → IsHosted (shown (pre h t))
    by false is = waits-hosted h t k is (may.0 is).1
    by true is = elim (want code) [
      | inl out ↦ (let d = may.2 is in let rests = d.2 out in made-it is (gives-none t.call_result rests.0))
      | inr other ↦ found is other (waiting_at number (settled h.session).waiting) refl
    ]

forgets-hosted : (h : Host) (t : Session) (code : Code) (number : ℕ) (k : IsHosted h) → Says (Forget number) h.session t code → IsHosted (shown (pre h t))
forgets-hosted h t code number k may = by (is_ready h.session) refl
  where
    made-it : is_ready h.session ≡ true → call_result_entries t.call_result ≡ nothing → IsHosted (shown (pre h t))
    made-it ready none = let d = may.2 ready in quiet-hosted h t k ready k.inside.agent (same-agent h.session t k.inside.agent h.file ready may.1 d.3 k.inside.follows) k.inside.durable (λ a knows. knows) none d.6

    none-at : is_ready h.session ≡ true → code ≢ codes.OutOfMemory → (o : Option DeliveredQuery) → waiting_at number (settled h.session).waiting ≡ o → IsHosted (shown (pre h t))
    none-at ready other None at = let d = may.2 ready in let rests = d.1 (d.0 at other) in made-it ready (gives-none t.call_result rests.0)
    none-at ready other (Some q) at = let r = may.3 ready other q at in made-it ready (gives-none t.call_result r.1)

    by : (b : Bool) → is_ready h.session ≡ b → IsHosted (shown (pre h t))
    by false is = waits-hosted h t k is (may.0 is).1
    by true is = elim (want code) [
      | inl out ↦ (let d = may.2 is in let rests = d.2 out in made-it is (gives-none t.call_result rests.0))
      | inr other ↦ none-at is other (waiting_at number (settled h.session).waiting) refl
    ]

tells : (m : Message) → EventsHaveBytes m → IsMessageWritable m
tells (user_event e) b = record { name = b.name; payload = b.payload }
tells (query q) b = tt
tells (query_response r) b = tt
tells (push_pull m) b = tt
tells (foreign kind) b = tt

noted-out : (r : Result (Unit {0}) AppendLineError) → nothing ≡ call_result_entries (call_results.LineAppended r)
noted-out (Ok f) = refl
noted-out (Err error) = refl

-- the next life, which is that of the agent to which a kill reverts
opened-hosted : Below → (name : List ℕ) (settings : Settings) (text : List ℕ) (t : Session) → is_sound (config_of name settings) ≡ true → GoesOn name settings text t → IsFresh text t → (h : Host) → AfterAt h text → IsHosted (did h (Dies settings text t))
opened-hosted laws name settings text t ok goes_on fresh h b =
    let j = b.agent in
    let config = config_of name settings in
    let act = Opens config text (fresh_device text) in
    let o = laws.opens j config text (fresh_device text) b.sound b.durable ok b.starts in
    let none : due (did h (Dies settings text t)) ≡ nothing = ap queue_entries fresh.8 in
    record {
      inside = record {
        agent = lives.after j act;
        follows = host_steps.opens name settings text t j b.sound o.2 goes_on fresh;
        durable = laws.durable j act b.sound b.durable o.0 o.1;
        once = subst (λ (g : Given). Knows (lives.after j act) (given_to h ⊕ g)) (sym none) (knows-after laws j act (given_to h) b.sound o.0 b.once);
      };
      following = record { agent = j; sound = b.sound; durable = b.durable; starts = b.starts; once = b.once };
      renewed = λ front at. absurd (let no : None ≡ Some front = at in cc);
      quiet = λ ready. refl;
    }

-- the agent that had these bytes in its file, after a host opened on a text that begins with them, up to other lines
reopened : {h : Host} (laws : Below) (i : IdealAgent) (own text : List ℕ) (begins : BeginsWith h text) → own ≡ begins.own → IsSound i → IsDurable i → StartsWithDurable i own → Leaves i text
reopened {h} laws i own text begins same sound durable starts =
    let read = own ++ begins.tail in
    let more : StartsWithDurable i read = record {
      durable = starts.durable;
      tail = starts.tail ++ begins.tail;
      is = starts.is;
      whole = ap (λ (xs : List ℕ). xs ++ begins.tail) starts.whole ∙ append_assoc starts.durable starts.tail begins.tail;
    } in
    let differs : DiffersInOtherLines own begins.front = subst (λ (xs : List ℕ). DiffersInOtherLines xs begins.front) (sym same) begins.lines in
    leaves laws.reading laws.opens i read text sound durable more (subst (λ (xs : List ℕ). DiffersInOtherLines read xs) (sym begins.whole) (laws.reading.appended own begins.front begins.tail differs))

pub does : Below → (name : List ℕ) (h : Host) (deed : Deed) → IsHosted h → MayDo name h deed → IsHosted (did h deed)
does laws name h (Calls (Fire what payload flag) t code) k may =
    let i = k.inside.agent in
    went-hosted laws (λ r. call_results.Fired r) h t (Fires (event_of what payload) flag Kept) i (fire i (event_of what payload) flag) k refl (λ ready. (may.0.1 ready).burst)
    (host_steps.fires what payload flag h.session t code i h.file may.0 k.inside.follows) refl (λ ends. ends) (record { name = may.1.0; payload = may.1.1 }) (fired-out (ended i (fire i (event_of what payload) flag) Kept).answer)
does laws name h (Writes t) k may =
    let i = k.inside.agent in
    let p : Host = record h { session = t; file = text_at h.file h.session; new = None } in
    let f : Follows i (text_at h.file h.session) t = host_steps.writes h.session t i h.file may.0 may.1 may.2 k.inside.follows in
    let same : due p ≡ due h = ap (λ (g : CallResult). cond h.fresh (call_result_entries g) nothing ⊕ queue_entries t.burst.items) may.3 ∙ ap (λ (xs : List BurstOutcome). cond h.fresh (call_result_entries h.session.call_result) nothing ⊕ queue_entries xs) may.4 in
    shown-hosted p (record { agent = i; follows = f; durable = k.inside.durable; once = subst (λ (g : Given). Knows i (given_to h ⊕ g)) (sym same) k.inside.once })
    (record { agent = i; sound = k.inside.follows.sound; durable = k.inside.durable; starts = record { durable = text_at h.file h.session; tail = []; is = k.inside.follows.disk; whole = sym (append-nil (text_at h.file h.session)) }; once = knows-front i (given_to h) (due h) k.inside.once }) (λ front at. absurd (let no : None ≡ Some front = at in cc))
does laws name h (Dies settings text t) k may = from may.3.is
  where
    back : (own : List ℕ) → AfterAt h own → own ≡ may.3.own → IsHosted (did h (Dies settings text t))
    back own b same =
        let left = reopened laws b.agent own text may.3 same b.sound b.durable b.starts in
        opened-hosted laws name settings text t may.0 may.1 may.2 h (record { agent = left_with text b.agent; sound = left.sound; durable = left.durable; starts = left.starts; once = b.once })

    from : (may.3.own ≡ h.file) ⊎ (h.new ≡ Some may.3.own) → IsHosted (did h (Dies settings text t))
    from (inl same) = back h.file k.following (sym same)
    from (inr new) = back may.3.own (k.renewed may.3.own new).0 refl
does laws name h (Calls Compact t code) k may = compacted-hosted laws h t code k (λ ready. (may.0.4 ready).5) (compacted h.session t code k.inside.agent h.file may.0 k.inside.follows)
does laws name h (Calls (Burst (bursts.Fires what payload flag)) t code) k may =
    let i = k.inside.agent in
    let call = fire i (event_of what payload) flag in
    bursted-hosted laws (λ r. answereds.Fired r) h t (Fires (event_of what payload) flag Kept) i call k refl may.0.0.0 may.0.0.3
    (bursted (λ r. answereds.Fired r) (λ j. fire j (event_of what payload) flag) (bursts.Fires what payload flag) (λ j. refl) (fire-plain (event_of what payload) flag) h.session t code i h.file may.0.0 may.0.1 may.0.2 k.inside.follows)
    refl (λ ends. ends) (record { name = may.1.0; payload = may.1.1 }) (fired-out (ended i call Kept).answer)
does laws name h (Calls (Next old new) t code) k may = next-hosted h t code old new k may.0
does laws name h (Calls (Receive tags now packet) t code) k may =
    let i = k.inside.agent in
    went-hosted laws (λ r. call_results.Received r) h t (Gets tags now packet Kept) i (receive tags i now packet) k refl (λ ready. (may.0.1 ready).burst)
    (host_steps.receives tags now packet h.session t code i h.file may.0 k.inside.follows) refl (λ ends. ends) (λ m at. tells m (laws.bytes packet m may.1 at)) (received-out (ended i (receive tags i now packet) Kept).answer)
does laws name h (Calls (Query now id what payload addr params) t code) k may =
    let i = k.inside.agent in
    let how = params_of h.session.filters addr params in
    went-hosted laws (λ r. call_results.QueryFired r) h t (Asks now id what payload how Kept) i (fire_query i now id what payload how) k refl (λ ready. (may.0.1 ready).5)
    (host_steps.asks now id what payload addr params h.session t code i h.file may.0 k.inside.follows) refl (λ ends. ends) may.1 (fired_queries-out (ended i (fire_query i now id what payload how) Kept).answer)
does laws name h (Calls Save t code) k may =
    let i = k.inside.agent in
    went-hosted laws (λ r. call_results.LineAppended r) h t (Saves Kept) i (save i) k refl (λ ready. (may.0.1 ready).burst)
    (host_steps.saves h.session t code i h.file may.0 k.inside.follows) refl (λ ends. ends) tt (noted-out (ended i (save i) Kept).answer)
does laws name h (Calls (Burst (bursts.Receives tags now packet)) t code) k may =
    let i = k.inside.agent in
    let call = receive tags i now packet in
    bursted-hosted laws (λ r. answereds.Received r) h t (Gets tags now packet Kept) i call k refl may.0.0.0 may.0.0.3
    (bursted (λ r. answereds.Received r) (λ j. receive tags j now packet) (bursts.Receives tags now packet) (λ j. refl) (receive-plain tags now packet) h.session t code i h.file may.0.0 may.0.1 may.0.2 k.inside.follows)
    refl (λ ends. ends) (λ m at. tells m (laws.bytes packet m may.1 at)) (received-out (ended i call Kept).answer)
does laws name h (Calls (Burst (bursts.Asks now id what payload params)) t code) k may =
    let i = k.inside.agent in
    let call = fire_query i now id what payload params in
    bursted-hosted laws (λ r. answereds.QueryFired r) h t (Asks now id what payload params Kept) i call k refl may.0.0.0 may.0.0.3
    (bursted (λ r. answereds.QueryFired r) (λ j. fire_query j now id what payload params) (bursts.Asks now id what payload params) (λ j. refl) (query-fire-plain now id what payload params) h.session t code i h.file may.0.0 may.0.1 may.0.2 k.inside.follows)
    refl (λ ends. ends) may.1 (fired_queries-out (ended i call Kept).answer)
does laws name h (Calls Add t code) k may =
    beside-hosted h t k may.0.1 may.0.3 may.0.4 k.inside.agent (same-pending_bytes h.session t k.inside.agent h.file may.0.0 may.0.3 (ap (λ (a : AgentState). drop t.written (text_of a.device)) may.0.0 ∙ ap (λ (n : ℕ). drop n (text_of h.session.agent.device)) may.0.2) k.inside.follows) k.inside.durable (λ a knows. knows)
does laws name h (Calls LocalState t code) k may = local-hosted h t code k may.0
does laws name h (Calls (Observe time) t code) k may = observed-hosted laws h t code time k may.0 may.1
does laws name h (Calls (Merge packet join) t code) k may = merged-hosted laws h t code packet join k may.0 may.1
does laws name h (Calls (CloseDue now closed) t code) k may = closed-hosted laws h t code now closed k may.0
does laws name h (Calls (Respond number now payload) t code) k may = responds-hosted h t code number now payload k may.0
does laws name h (Calls (Forget number) t code) k may = forgets-hosted h t code number k may.0

does-all : Below → (name : List ℕ) (deeds : List Deed) (h : Host) → IsHosted h → MayHost name h deeds → IsHosted (hosted h deeds)
does-all laws name [] h k may = k
does-all laws name (deed ∷ rest) h k may = does-all laws name rest (did h deed) (does laws name h deed k may.0) may.1

-- the first opening begins the next life of an agent that opened on no text
pub begins : Below → (name : List ℕ) (settings : Settings) (text : List ℕ) (t : Session) → is_sound (config_of name settings) ≡ true → GoesOn name settings text t → IsFresh text t → IsHosted (first_host text t)
begins laws name settings text t ok goes_on fresh =
    let config = config_of name settings in
    let j = (first_life config [] (fresh_device [])).agent in
    opened-hosted laws name settings text t ok goes_on fresh (first_host [] t) (record {
      agent = j;
      sound = laws.begins_sound config [] (fresh_device []) ok;
      durable = laws.begins_durable config [] (fresh_device []);
      starts = record { durable = []; tail = text; is = refl; whole = refl };
      once = knows-nothing j;
    })

all-hosted : Below → (name : List ℕ) (settings : Settings) (text : List ℕ) (t : Session) (deeds : List Deed) → is_sound (config_of name settings) ≡ true → GoesOn name settings text t → IsFresh text t → MayHost name (first_host text t) deeds → IsHosted (hosted (first_host text t) deeds)
all-hosted laws name settings text t deeds ok goes_on fresh may = does-all laws name deeds (first_host text t) (begins laws name settings text t ok goes_on fresh) may

pub gives_once : Below → GivesOnce
gives_once laws = λ name settings text t deeds ok goes_on fresh may. (all-hosted laws name settings text t deeds ok goes_on fresh may).following.once.0.once

pub gives_queries_once : Below → GivesQueriesOnce
gives_queries_once laws = λ name settings text t deeds ok goes_on fresh may. (all-hosted laws name settings text t deeds ok goes_on fresh may).following.once.1.once

-- the agent inside remembers what was handed out, whatever is due
given-known : (h : Host) (k : IsHosted h) → Knows k.inside.agent (given_to h)
given-known h k = knows-front k.inside.agent (given_to h) (due h) k.inside.once

pub gives_exactly : Below → GivesExactly
gives_exactly laws = λ name settings text t deeds ok goes_on fresh may.
    let h = hosted (first_host text t) deeds in
    let k = all-hosted laws name settings text t deeds ok goes_on fresh may in
    let knows = given-known h k in
    record { agent = k.inside.agent; follows = k.inside.follows; knows = knows.0; knows_queries = knows.1 }

-- the result of a call is the agent's answer
pub answer-given : {R : Type 0} (call_result : R → CallResult) (i : IdealAgent) (call : Call R) (file : List ℕ) (s t : Session) (g : CallResult) → is_ready s ≡ true → t.call_result ≡ g → kind_of g ≢ 0 → Went call_result i call file s t → call_result (ended i call Kept).answer ≡ g
answer-given call_result i call file s t g ready at some (waits unready same) = absurd (let no : true ≡ false = sym ready ∙ unready in cc)
answer-given call_result i call file s t g ready at some (rests is follows none) = absurd (some (sym (ap kind_of at) ∙ none.kind))
answer-given call_result i call file s t g ready at some (goes is ends gives follows) = sym gives ∙ at

pub gives_later : Below → GivesLater
gives_later laws = λ name settings text first t deeds what payload flag code f ok goes_on fresh may ready says call_result.
    let h = hosted (first_host text first) deeds in
    let k = all-hosted laws name settings text first deeds ok goes_on fresh may in
    let i = k.inside.agent in
    let call = fire i (event_of what payload) flag in
    let r : Result Fired FireError = (ended i call Kept).answer in
    let e : call_results.Fired r ≡ call_results.Fired (Ok f) = answer-given (λ r. call_results.Fired r) i call h.file h.session t (call_results.Fired (Ok f)) ready call_result (λ none. let no : 8 ≡ 0 = none in absurd (omega (arith, no))) (host_steps.fires what payload flag h.session t code i h.file says k.inside.follows) in
    laws.fires i (event_of what payload) flag Kept f h.given k.inside.follows.sound (given-known h k).0 (let same : r ≡ Ok f = cc in same)

-- the outcome of a call in a burst is the agent's answer
longer : {A : Type 0} (xs : List A) (x : A) → xs ≡ xs ++ x ∷ [] → ⊥
longer [] x is = cc
longer {A} (y ∷ ys) x is = longer ys x (let rest : ys ≡ ys ++ x ∷ [] = cc in rest)

last-same : {A : Type 0} (xs : List A) (x y : A) → xs ++ x ∷ [] ≡ xs ++ y ∷ [] → x ≡ y
last-same [] x y is = cc
last-same {A} (z ∷ zs) x y is = last-same zs x y (let rest : zs ++ x ∷ [] ≡ zs ++ y ∷ [] = cc in rest)

pub answer-queued : {R : Type 0} (burst_outcome : R → BurstOutcome) (i : IdealAgent) (call : Call R) (file : List ℕ) (s t : Session) (x : BurstOutcome) → t.burst.items ≡ s.burst.items ++ x ∷ [] → WentInBurst burst_outcome i call file s t → burst_outcome (ended i call Kept).answer ≡ x
answer-queued burst_outcome i call file s t x at (lost follows same) = absurd (longer s.burst.items x (sym same ∙ at))
answer-queued burst_outcome i call file s t x at (made may follows queued) = last-same s.burst.items (burst_outcome (ended i call Kept).answer) x (sym queued ∙ at)

pub gives_later_in_bursts : Below → GivesLaterInBursts
gives_later_in_bursts laws = λ name settings text first t deeds what payload flag code f ok goes_on fresh may says queued.
    let h = hosted (first_host text first) deeds in
    let k = all-hosted laws name settings text first deeds ok goes_on fresh may in
    let i = k.inside.agent in
    let call = fire i (event_of what payload) flag in
    let r : Result Fired FireError = (ended i call Kept).answer in
    let e : answereds.Fired r ≡ answereds.Fired (Ok f) = answer-queued (λ r. answereds.Fired r) i call h.file h.session t (answereds.Fired (Ok f)) queued (host_steps.fires_in_burst what payload flag h.session t code i h.file says k.inside.follows) in
    laws.fires i (event_of what payload) flag Kept f h.given k.inside.follows.sound (given-known h k).0 (let same : r ≡ Ok f = cc in same)

pub gives_queries_later_in_bursts : Below → GivesQueriesLaterInBursts
gives_queries_later_in_bursts laws = λ name settings text first t deeds now id what payload params code f ok goes_on fresh may says queued.
    let h = hosted (first_host text first) deeds in
    let k = all-hosted laws name settings text first deeds ok goes_on fresh may in
    let i = k.inside.agent in
    let call = fire_query i now id what payload params in
    let r : Result FiredQuery QueryError = (ended i call Kept).answer in
    let e : answereds.QueryFired r ≡ answereds.QueryFired (Ok f) = answer-queued (λ r. answereds.QueryFired r) i call h.file h.session t (answereds.QueryFired (Ok f)) queued (host_steps.asks_in_burst now id what payload params h.session t code i h.file says k.inside.follows) in
    laws.asks i now id what payload params Kept f h.queries k.inside.follows.sound (given-known h k).1 (let same : r ≡ Ok f = cc in same)

pub gives_queries_later : Below → GivesQueriesLater
gives_queries_later laws = λ name settings text first t deeds now id what payload addr params code f ok goes_on fresh may ready says call_result.
    let h = hosted (first_host text first) deeds in
    let k = all-hosted laws name settings text first deeds ok goes_on fresh may in
    let i = k.inside.agent in
    let how = params_of h.session.filters addr params in
    let call = fire_query i now id what payload how in
    let r : Result FiredQuery QueryError = (ended i call Kept).answer in
    let e : call_results.QueryFired r ≡ call_results.QueryFired (Ok f) = answer-given (λ r. call_results.QueryFired r) i call h.file h.session t (call_results.QueryFired (Ok f)) ready call_result (λ none. let no : 9 ≡ 0 = none in absurd (omega (arith, no))) (host_steps.asks now id what payload addr params h.session t code i h.file says k.inside.follows) in
    laws.asks i now id what payload how Kept f h.queries k.inside.follows.sound (given-known h k).1 (let same : r ≡ Ok f = cc in same)

-- ---- what a host doesn't miss

calls-within : {K : Type 0} (laws : Below) (kind : Showing K) (track : Tracking kind) (g : Aim) (file : List ℕ) (s t : Session) (met : List (TimedEntry K)) (w : Within kind g file s met) (e : Export) (code : Code) → Says e s t code → IsPassed e → KeepsTo kind g.name g.settings g.time (Calls e t code) → Within kind g file t (met ++ enters kind e s t)
calls-within laws kind track g file s t met w (Fire what payload flag) code says passed keeps =
    let told : IsWritable (event_of what payload) = record { name = passed.0; payload = passed.1 } in
    went-within laws kind track g (λ r. call_results.Fired r) file s t met (enters kind (Fire what payload flag) s t) w (Fires (event_of what payload) flag Kept) (fire w.agent (event_of what payload) flag) (host_steps.fires what payload flag s t code w.agent file says w.follows) (fire-plain (event_of what payload) flag w.agent) refl
    (λ ends. record { may = ends; keep = told; go = (ends, told); same = tt; told = λ c. tt; none = refl }) (λ ready gives. track.fires w.agent what payload flag ∙ ap (λ (x : CallResult). kind.entered (Fire what payload flag) x) (sym gives) ∙ made-now (is_ready s) (kind.entered (Fire what payload flag) t.call_result) ready)
calls-within laws kind track g file s t met w (Receive tags now packet) code says passed keeps =
    let told : IsActWritable (Gets tags now packet Kept) = λ m at. tells m (laws.bytes packet m passed at) in
    went-within laws kind track g (λ r. call_results.Received r) file s t met (enters kind (Receive tags now packet) s t) w (Gets tags now packet Kept) (receive tags w.agent now packet) (host_steps.receives tags now packet s t code w.agent file says w.follows) (receive-plain tags now packet w.agent) refl
    (λ ends. record { may = ends; keep = told; go = (ends, told); same = tt; told = λ c. tt; none = refl }) (λ ready gives. track.gets w.agent tags now packet ∙ ap (λ (x : CallResult). kind.entered (Receive tags now packet) x) (sym gives) ∙ made-now (is_ready s) (kind.entered (Receive tags now packet) t.call_result) ready)
calls-within laws kind track g file s t met w (Query now id what payload addr params) code says passed keeps =
    let how = params_of s.filters addr params in
    went-within laws kind track g (λ r. call_results.QueryFired r) file s t met (enters kind (Query now id what payload addr params) s t) w (Asks now id what payload how Kept) (fire_query w.agent now id what payload how) (host_steps.asks now id what payload addr params s t code w.agent file says w.follows) (query-fire-plain now id what payload how w.agent) refl
    (λ ends. record { may = ends; keep = passed; go = (ends, passed); same = tt; told = λ c. tt; none = refl }) (λ ready gives. track.asks w.agent now id what payload addr params how ∙ ap (λ (x : CallResult). kind.entered (Query now id what payload addr params) x) (sym gives) ∙ made-now (is_ready s) (kind.entered (Query now id what payload addr params) t.call_result) ready)
calls-within laws kind track g file s t met w (Merge packet join) code says passed keeps = merged-within laws kind track g file s t met w code packet join says passed keeps
calls-within laws kind track g file s t met w Save code says passed keeps = saved-within laws kind track g file s t met (enters kind Save s t) w code says
calls-within laws kind track g file s t met w Compact code says passed keeps = compacted-within laws kind track g file s t met (enters kind Compact s t) w code (compacted s t code w.agent file says w.follows)
calls-within laws kind track g file s t met w (CloseDue now closed) code says passed keeps = closed-within laws kind track g file s t met (enters kind (CloseDue now closed) s t) w code now closed says
calls-within laws kind track g file s t met w (Observe time) code says passed keeps = observed-within laws kind track g file s t met (enters kind (Observe time) s t) w code time says passed
calls-within laws kind track g file s t met w (Respond number now payload) code says passed keeps = left-within kind g file s t met (enters kind (Respond number now payload) s t) w (λ unready. (says.0 unready).1) (λ ready. (says.1, (says.2 ready).3))
calls-within laws kind track g file s t met w (Forget number) code says passed keeps = left-within kind g file s t met (enters kind (Forget number) s t) w (λ unready. (says.0 unready).1) (λ ready. (says.1, (says.2 ready).3))
calls-within laws kind track g file s t met w LocalState code says passed keeps =
    left-within kind g file s t met (enters kind LocalState s t) w (λ unready. (says.0 unready).1)
    (λ ready. (
      elim (want code) [
        | inl out ↦ (says.2 out).0
        | inr other ↦ (says.4 ready other).1
      ],
      (says.1 ready).2,
    ))
calls-within laws kind track g file s t met w (Burst (bursts.Fires what payload flag)) code says passed keeps =
    let told : IsWritable (event_of what payload) = record { name = passed.0; payload = passed.1 } in
    bursted-within laws kind track g (λ r. answereds.Fired r) file s t met w (Fires (event_of what payload) flag Kept) (bursts.Fires what payload flag) (fire w.agent (event_of what payload) flag)
    (bursted (λ r. answereds.Fired r) (λ j. fire j (event_of what payload) flag) (bursts.Fires what payload flag) (λ j. refl) (fire-plain (event_of what payload) flag) s t code w.agent file says.0 says.1 says.2 w.follows) (fire-plain (event_of what payload) flag w.agent) refl
    (λ ends. record { may = ends; keep = told; go = (ends, told); same = tt; told = λ c. tt; none = refl }) (track.fires_on w.agent what payload flag)
calls-within laws kind track g file s t met w (Burst (bursts.Receives tags now packet)) code says passed keeps =
    let told : IsActWritable (Gets tags now packet Kept) = λ m at. tells m (laws.bytes packet m passed at) in
    bursted-within laws kind track g (λ r. answereds.Received r) file s t met w (Gets tags now packet Kept) (bursts.Receives tags now packet) (receive tags w.agent now packet)
    (bursted (λ r. answereds.Received r) (λ j. receive tags j now packet) (bursts.Receives tags now packet) (λ j. refl) (receive-plain tags now packet) s t code w.agent file says.0 says.1 says.2 w.follows) (receive-plain tags now packet w.agent) refl
    (λ ends. record { may = ends; keep = told; go = (ends, told); same = tt; told = λ c. tt; none = refl }) (track.gets_on w.agent tags now packet)
calls-within laws kind track g file s t met w (Burst (bursts.Asks now id what payload how)) code says passed keeps =
    bursted-within laws kind track g (λ r. answereds.QueryFired r) file s t met w (Asks now id what payload how Kept) (bursts.Asks now id what payload how) (fire_query w.agent now id what payload how)
    (bursted (λ r. answereds.QueryFired r) (λ j. fire_query j now id what payload how) (bursts.Asks now id what payload how) (λ j. refl) (query-fire-plain now id what payload how) s t code w.agent file says.0 says.1 says.2 w.follows) (query-fire-plain now id what payload how w.agent) refl
    (λ ends. record { may = ends; keep = passed; go = (ends, passed); same = tt; told = λ c. tt; none = refl }) (track.asks_on w.agent now id what payload how)
calls-within laws kind track g file s t met w (Next old new) code says passed keeps = left-within kind g file s t met (enters kind (Next old new) s t) w (λ unready. (says.0 unready).1) (λ ready. (says.2.0, (says.1 ready).0))
calls-within laws kind track g file s t met w Add code says passed keeps =
    still kind g file s t met (enters kind Add s t) w (same-pending_bytes s t w.agent file says.0 says.3 (ap (λ (a : AgentState). drop t.written (text_of a.device)) says.0 ∙ ap (λ (n : ℕ). drop n (text_of s.agent.device)) says.2) w.follows)

-- while a text is to replace the file's, only calls of a burst are made
unready : (s : Session) → s.replaces ≡ true → is_ready s ≡ false
unready s replaces = ap (λ (b : Bool). not b && is_written s.agent.device s.written) replaces

unmade : (s t : Session) (code : Code) → Waits s t code → s.replaces ≡ true → t.replaces ≡ true
unmade s t code waits_on replaces = ap (λ (u : Session). u.replaces) (waits_on (unready s replaces)).1 ∙ replaces

replaces-on : (e : Export) (s t : Session) (code : Code) → Says e s t code → s.replaces ≡ true → t.replaces ≡ true
replaces-on (Fire what payload flag) s t code says = unmade s t code says.0.0
replaces-on (Receive tags now packet) s t code says = unmade s t code says.0.0
replaces-on (Query now id what payload addr params) s t code says = unmade s t code says.0.0
replaces-on (Merge packet join) s t code says = unmade s t code says.0
replaces-on Save s t code says = unmade s t code says.0.0
replaces-on Compact s t code says = unmade s t code says.0
replaces-on (CloseDue now closed) s t code says = unmade s t code says.0
replaces-on (Observe time) s t code says = unmade s t code says.0
replaces-on (Respond number now payload) s t code says = unmade s t code says.0
replaces-on (Forget number) s t code says = unmade s t code says.0
replaces-on LocalState s t code says = unmade s t code says.0
replaces-on (Burst call) s t code says = λ replaces. says.0.3 ∙ replaces
replaces-on (Next old new) s t code says = unmade s t code says.0
replaces-on Add s t code says = λ replaces. says.3 ∙ replaces

new-on : {K : Type 0} (laws : Below) (kind : Showing K) (track : Tracking kind) (g : Aim) (h : Host) (e : Export) (t : Session) (code : Code) (m : Met K) → IsKept kind g h m → Says e h.session t code → (front : List ℕ) → replacing h.new e t code ≡ Some front → KeptAt kind g front m.written × (t.replaces ≡ true)
new-on laws kind track g h Compact t code m k says = compacted-kept laws kind track g h t code m k (compacted h.session t code k.inside.agent h.file says k.inside.follows)
new-on laws kind track g h (Fire what payload flag) t code m k says = renewed-on kind g h t m k (replaces-on (Fire what payload flag) h.session t code says)
new-on laws kind track g h (Receive tags now packet) t code m k says = renewed-on kind g h t m k (replaces-on (Receive tags now packet) h.session t code says)
new-on laws kind track g h (Query now id what payload addr params) t code m k says = renewed-on kind g h t m k (replaces-on (Query now id what payload addr params) h.session t code says)
new-on laws kind track g h (Merge packet join) t code m k says = renewed-on kind g h t m k (replaces-on (Merge packet join) h.session t code says)
new-on laws kind track g h Save t code m k says = renewed-on kind g h t m k (replaces-on Save h.session t code says)
new-on laws kind track g h (CloseDue now closed) t code m k says = renewed-on kind g h t m k (replaces-on (CloseDue now closed) h.session t code says)
new-on laws kind track g h (Observe time) t code m k says = renewed-on kind g h t m k (replaces-on (Observe time) h.session t code says)
new-on laws kind track g h (Respond number now payload) t code m k says = renewed-on kind g h t m k (replaces-on (Respond number now payload) h.session t code says)
new-on laws kind track g h (Forget number) t code m k says = renewed-on kind g h t m k (replaces-on (Forget number) h.session t code says)
new-on laws kind track g h LocalState t code m k says = renewed-on kind g h t m k (replaces-on LocalState h.session t code says)
new-on laws kind track g h (Burst call) t code m k says = renewed-on kind g h t m k (replaces-on (Burst call) h.session t code says)
new-on laws kind track g h (Next old new) t code m k says = renewed-on kind g h t m k (replaces-on (Next old new) h.session t code says)
new-on laws kind track g h Add t code m k says = renewed-on kind g h t m k (replaces-on Add h.session t code says)

deeds-kept : {K : Type 0} (laws : Below) (kind : Showing K) (track : Tracking kind) (g : Aim) (h : Host) (deed : Deed) (m : Met K) → IsKept kind g h m → MayDo g.name h deed → KeepsTo kind g.name g.settings g.time deed → IsKept kind g (did h deed) (met_after kind h m deed)
deeds-kept laws kind track g h (Calls e t code) m k may keeps =
    called-kept kind g h t m (enters kind e h.session t) (replacing h.new e t code) (h.fresh || (gives e && is_ready h.session)) k
    (calls-within laws kind track g h.file h.session t (all_met m) k.inside e code may.0 may.1 keeps) (new-on laws kind track g h e t code m k may.0)
deeds-kept laws kind track g h (Writes t) m k may keeps =
    let i = k.inside.agent in
    let file = text_at h.file h.session in
    let p : Host = record h { session = t; file = file; new = None } in
    let follows : Follows i file t = host_steps.writes h.session t i h.file may.0 may.1 may.2 k.inside.follows in
    shown-kept kind g p (record { written = all_met m; pending = [] }) (record {
      inside = more-within kind g file t (all_met m) [] (record { agent = i; follows = follows; durable = k.inside.durable; runs = k.inside.runs; goes = k.inside.goes });
      following = record { agent = i; sound = k.inside.follows.sound; durable = k.inside.durable; starts = record { durable = file; tail = []; is = k.inside.follows.disk; whole = sym (append-nil file) }; goes = k.inside.goes };
      renewed = λ front at. absurd (let no : None ≡ Some front = at in cc);
      quiet = λ ready. refl;
    })
deeds-kept {K} laws kind track g h (Dies next text t) m k may keeps = from may.3.is
  where
    back : (own : List ℕ) → KeptAt kind g own m.written → own ≡ may.3.own → IsKept kind g (did h (Dies next text t)) (met_after kind h m (Dies next text t))
    back own b same =
        let left = reopened laws b.agent own text may.3 same b.sound b.durable b.starts in
        opened-kept laws kind track g h next text t m may.0 may.1 may.2 keeps.0 keeps.1 (record { agent = left_with text b.agent; sound = left.sound; durable = left.durable; starts = left.starts; goes = goes-left kind track g m.written b.agent text keeps.1 b.goes })

    from : (may.3.own ≡ h.file) ⊎ (h.new ≡ Some may.3.own) → IsKept kind g (did h (Dies next text t)) (met_after kind h m (Dies next text t))
    from (inl same) = back h.file k.following (sym same)
    from (inr new) = back may.3.own (k.renewed may.3.own new).0 refl

all-kept : {K : Type 0} (laws : Below) (kind : Showing K) (track : Tracking kind) (g : Aim) (deeds : List Deed) (h : Host) (m : Met K) → IsKept kind g h m → MayHost g.name h deeds → All (KeepsTo kind g.name g.settings g.time) deeds → IsKept kind g (hosted h deeds) (met_in kind h m deeds)
all-kept laws kind track g [] h m k may keeps = k
all-kept laws kind track g (deed ∷ rest) h m k may keeps =
    all-kept laws kind track g rest (did h deed) (met_after kind h m deed) (deeds-kept laws kind track g h deed m k may.0 (All-head (KeepsTo kind g.name g.settings g.time) deed rest keeps)) may.1 (All-tail (KeepsTo kind g.name g.settings g.time) deed rest keeps)

first-kept : {K : Type 0} (laws : Below) (kind : Showing K) (track : Tracking kind) (g : Aim) (text : List ℕ) (t : Session) → is_sound (aimed g) ≡ true → GoesOn g.name g.settings text t → IsFresh text t → min_in kind.which.kind text ≤ g.time → IsKept kind g (first_host text t) (first_met kind text)
first-kept {K} laws kind track g text t ok goes_on fresh lowest =
    let j = (first_life (aimed g) [] (fresh_device [])).agent in
    let begun : TakesOrFull kind.which g.time (aimed g) [] (kind.which.kept whatever []) j = track.taking.begins g.time (aimed g) [] (fresh_device []) g.on (omega (arith, g.some)) in
    opened-kept laws kind track g (first_host [] t) g.settings text t (record { written = []; pending = [] }) ok goes_on fresh refl lowest (record {
      agent = j;
      sound = laws.begins_sound (aimed g) [] (fresh_device []) ok;
      durable = laws.begins_durable (aimed g) [] (fresh_device []);
      starts = record { durable = []; tail = text; is = refl; whole = refl };
      goes = subst (λ (stood : List (TimedEntry K)). TakesOrFull kind.which g.time (aimed g) [] stood j) track.empty begun;
    })

pub misses_none : {K : Type 0} → Below → (kind : Showing K) → Tracking kind → StateOffers kind → ((text : List ℕ) → 1 ≤ min_in kind.which.kind text) → MissesNone kind
misses_none {K} laws kind track state some = λ name settings text first t deeds offer code e ok on goes_on fresh may lowest keeps offers says passed other short young new.
    let g : Aim = record { name = name; settings = settings; time = e.time; on = on; some = (let low = some text in omega (arith, low, lowest)) } in
    let keep = in-two (KeepsTo kind name settings e.time) deeds (Calls offer t code ∷ []) keeps in
    let k = all-kept laws kind track g deeds (first_host text first) (first_met kind text) (first-kept laws kind track g text first ok goes_on fresh lowest) may keep.front in
    let h = hosted (first_host text first) deeds in
    offered-kept kind track state g e.key h.file h.session t (all_met (met_in kind (first_host text first) (first_met kind text) deeds)) k.inside offer code offers says passed other (All-head (KeepsTo kind name settings e.time) (Calls offer t code) [] keep.back) short young new
