-- What each action adds to the histories of its agent.
use Rattle.serf_model.proofs.Names.{Bool, Err, List, None, Ok, Option, Result, Some, [], ap, cond, false, map, refl, subst, sym, true, ℕ, ◌++◌, ◌+◌, ◌∙◌, ◌∷◌, ◌≡◌, true≢false, map-append, All-append, All-map, All, decoded, Message, push_pull, WireError, EventBody, event_of, TimedEntry, Step, planned, IdealAgent, Past, events_of, hear, merge_refusal, Config, MergeError, Below, is_restarted, Applied, Done, IdealNode, apply, delivers, merges_as, merges_given, merges_heard, text_after, IsRepresentable, CanTellAct, tailed_by, entered_by, given_by, query_brought, Act, Action, Of}
use Rattle.serf_model.specs.declared.line.Answer.TheVariants as lines
use Rattle.serf_model.proofs.Effects.{Effect, IsIdle, settings-kept, asks, counts, effect, fires, hears, idle-enters, is_asked, passes_on, reopens}
use Rattle.serf_model.proofs.Reopenings.{Begins, events-reopened, of-entries, queries-reopened, reopened-have}
use Rattle.serf_model.proofs.SaidTexts.{DurableSays}
use Rattle.serf_model.proofs.SaysKept.{says-after, says-apply}
use Rattle.serf_model.proofs.PerTimeBound.{Enters, enters-entries, entries, clock-room, enters-none, enters-nothing, enters-one, event-room, out_in, query-room}

-- What an action makes of its agent. While the agent's life continues, its histories grow by exactly what is handed out
-- and by the query that enters, and what the agent fires has the time of its clock. When a life begins, nothing is
-- handed out and nothing is forgotten.
pub record Keeps (i j : IdealAgent) (done : Done) (entered : List (TimedEntry ℕ)) : Type 0 where
  pub config : j.config ≡ i.config
  pub life : j.life ≡ cond (is_restarted done.answer) (i.life + 1) i.life
  pub events : is_restarted done.answer ≡ false → Enters i.life i.config.per_time i.events.history j.events.history (map out_in done.events)
  pub queries : is_restarted done.answer ≡ false → Enters i.life i.config.per_time i.queries.history j.queries.history entered
  pub no_events : is_restarted done.answer ≡ true → done.events ≡ []
  pub no_queries : is_restarted done.answer ≡ true → entered ≡ []
  pub events_begin : is_restarted done.answer ≡ true → Begins i.life i.config.per_time i.events.history j.events.history
  pub queries_begin : is_restarted done.answer ≡ true → Begins i.life i.config.per_time i.queries.history j.queries.history
  pub fired : (t : ℕ) → done.answer ≡ lines.Fired t → t ≡ i.events.clock
  pub fired_queries : (t : ℕ) → done.answer ≡ lines.Queried t → t ≡ i.queries.clock

-- the life continues
goes-on : {i j : IdealAgent} {done : Done} {entered : List (TimedEntry ℕ)} → is_restarted done.answer ≡ false → j.config ≡ i.config → j.life ≡ i.life
    → Enters i.life i.config.per_time i.events.history j.events.history (map out_in done.events) → Enters i.life i.config.per_time i.queries.history j.queries.history entered
    → ((t : ℕ) → done.answer ≡ lines.Fired t → t ≡ i.events.clock) → ((t : ℕ) → done.answer ≡ lines.Queried t → t ≡ i.queries.clock) → Keeps i j done entered
goes-on {i} {j} {done} {entered} on config life events queries fired fired_queries = record {
  config = config;
  life = life ∙ ap (λ b. cond b (i.life + 1) i.life) (sym on);
  events = λ same. events;
  queries = λ same. queries;
  no_events = λ anew. absurd (true≢false (sym anew ∙ on));
  no_queries = λ anew. absurd (true≢false (sym anew ∙ on));
  events_begin = λ anew. absurd (true≢false (sym anew ∙ on));
  queries_begin = λ anew. absurd (true≢false (sym anew ∙ on));
  fired = fired;
  fired_queries = fired_queries;
}

keeps-effect : Below → (m : IdealNode) (action : Action) (given : Option (List ℕ)) (o : Applied) → IsRepresentable m.agent → Effect m action given o → Keeps m.agent o.node.agent o.done (entered_by action given o.done.answer)
keeps-effect lower m action given o representable (hears j outs answer h idle) =
    let says = idle-enters m.agent action given answer idle in
    goes-on says.1 h.config h.life h.events
    (subst (Enters m.agent.life m.agent.config.per_time m.agent.queries.history j.queries.history) (sym says.0) (enters-none m.agent.life m.agent.config.per_time m.agent.queries.history j.queries.history h.queries))
    (λ t e. absurd (subst (IsIdle m.agent given) e idle)) (λ t e. absurd (subst (IsIdle m.agent given) e idle))
keeps-effect lower m action given o representable (fires agent name payload coalesce may) =
    goes-on refl refl refl
    (enters-one m.agent.life m.agent.config.per_time m.agent.events.clock (event_of name payload) m.agent.events.history
    (clock-room m.agent.config m.agent.life m.agent.events.clock m.agent.events.history representable.consistent.sound.config representable.consistent.sound.events.below_clock))
    enters-nothing (λ t e. cc) (λ t e. cc)
keeps-effect lower m action given o representable (passes_on packet e is new) =
    goes-on refl refl refl (enters-one m.agent.life m.agent.config.per_time e.time (event_of e.name e.payload) m.agent.events.history (event-room m.agent e.time (event_of e.name e.payload) new)) enters-nothing (λ t e. cc) (λ t e. cc)
keeps-effect lower m action given o representable (asks agent q may) =
    goes-on refl refl refl enters-nothing
    (enters-one m.agent.life m.agent.config.per_time m.agent.queries.clock q.id m.agent.queries.history
    (clock-room m.agent.config m.agent.life m.agent.queries.clock m.agent.queries.history representable.consistent.sound.config representable.consistent.sound.queries.below_clock)) (λ t e. cc) (λ t e. cc)
keeps-effect lower m action given o representable (is_asked to number packet now q is new) =
    goes-on refl refl refl enters-nothing
    (subst (λ (r : Result Message WireError). Enters m.agent.life m.agent.config.per_time m.agent.queries.history (m.agent.queries.history ++ record { life = m.agent.life; entry = record { time = q.time; key = q.id } } ∷ []) (query_brought r)) (sym is)
    (enters-one m.agent.life m.agent.config.per_time q.time q.id m.agent.queries.history (query-room m.agent q.time q.id new))) (λ t e. cc) (λ t e. cc)
keeps-effect lower m action given o representable (counts to number now packet r q true is at none kind) = goes-on refl refl refl enters-nothing enters-nothing (λ t e. cc) (λ t e. cc)
keeps-effect lower m action given o representable (reopens agent tail) = record {
  config = refl;
  life = refl;
  events = λ same. absurd (true≢false same);
  queries = λ same. absurd (true≢false same);
  no_events = λ anew. refl;
  no_queries = λ anew. refl;
  events_begin = λ anew. events-reopened lower m.agent (text_after m.agent tail) representable.consistent.sound;
  queries_begin = λ anew. queries-reopened lower m.agent (text_after m.agent tail) representable.consistent.sound;
  fired = λ t e. cc;
  fired_queries = λ t e. cc;
}
keeps-effect lower m action given o representable _ = goes-on refl refl refl enters-nothing enters-nothing (λ t e. cc) (λ t e. cc)

pub keeps-apply : Below → (m : IdealNode) (sent : List (List ℕ)) (a : ℕ) (act : Act) → IsRepresentable m.agent → (let o = apply m sent act in Keeps m.agent o.node.agent o.done (entered_by (Of a act) (given_by sent act) o.done.answer))
keeps-apply lower m sent a act representable = keeps-effect lower m (Of a act) (given_by sent act) (apply m sent act) representable (effect lower m sent a act)

-- ---- all that is entered

-- If P holds of what was entered before, of what is handed out and of what is restored from a tail, it holds of
-- everything that was entered afterwards. The first lemma is about a history that grows by entries with P.
grown-have : (P : TimedEntry EventBody → Type 0) (old new : List (Past EventBody)) (more : List (TimedEntry EventBody)) → entries new ≡ entries old ++ more → All (λ p. P p.entry) old → All P more → All (λ p. P p.entry) new
grown-have P old new more grows all handed = of-entries P new (subst (All P) (sym grows) (All-append P (entries old) more (All-map P (λ (p : Past EventBody). p.entry) old all) handed))

have-effect : Below → (P : TimedEntry EventBody → Type 0) (m : IdealNode) (action : Action) (given : Option (List ℕ)) (o : Applied) → IsRepresentable m.agent → Effect m action given o → All (λ p. P p.entry) m.agent.events.history
    → (m.agent.config.keep_events ≡ true → DurableSays P m.agent.snapshot) → All P (map out_in o.done.events) → (m.agent.config.keep_events ≡ true → All P (tailed_by action)) → All (λ p. P p.entry) o.node.agent.events.history
have-effect lower P m action given o g (reopens agent tail) all says outs tailed =
    reopened-have lower P m.agent (text_after m.agent tail) all (λ keeps. says-after lower P m.agent tail g.consistent.observable.durable (says keeps) (tailed keeps))
have-effect lower P m action given o g (hears j outs answer heard idle) all says handed tailed = grown-have P m.agent.events.history j.events.history (map out_in outs) (enters-entries heard.events) all handed
have-effect lower P m action given o g (fires agent name payload coalesce may) all says handed tailed = grown-have P m.agent.events.history _ _ (map-append (λ (p : Past EventBody). p.entry) m.agent.events.history _) all handed
have-effect lower P m action given o g (passes_on packet e is new) all says handed tailed = grown-have P m.agent.events.history _ _ (map-append (λ (p : Past EventBody). p.entry) m.agent.events.history _) all handed
have-effect lower P m action given o g _ all says handed tailed = all

-- P holds of all events that an agent entered and, if the agent keeps its events, of all events in its text.
pub record Says (P : TimedEntry EventBody → Type 0) (i : IdealAgent) : Type 0 where
  pub entered : All (λ p. P p.entry) i.events.history
  pub durable : i.config.keep_events ≡ true → DurableSays P i.snapshot

pub says-more : Below → (P : TimedEntry EventBody → Type 0) (m : IdealNode) (sent : List (List ℕ)) (a : ℕ) (act : Act) → IsRepresentable m.agent → CanTellAct m.agent.config act (given_by sent act) → Says P m.agent
    → (let o = apply m sent act in All P (map out_in o.done.events) → (m.agent.config.keep_events ≡ true → All P (tailed_by (Of a act))) → Says P o.node.agent)
says-more lower P m sent a act g told says outs tailed =
    let e = effect lower m sent a act in
    let same = ap (λ (c : Config). c.keep_events) (settings-kept m (Of a act) (given_by sent act) (apply m sent act) e) in
    record {
      entered = have-effect lower P m (Of a act) (given_by sent act) (apply m sent act) g e says.entered says.durable outs tailed;
      durable = λ keeps. let kept = sym same ∙ keeps in says-apply lower P m sent a act g told kept says.entered (says.durable kept) outs (tailed kept);
    }

-- ---- deliveries and merges keep the queries that were handed out

pub delivers-handed : (m : IdealNode) (now : ℕ) (given : Option (List ℕ)) → (delivers m now given).node.handed ≡ m.handed
delivers-handed m now None = refl
delivers-handed m now (Some packet) = refl

heard-handed : (m : IdealNode) (events : List (TimedEntry EventBody)) (o : Step (Result (Unit {0}) MergeError)) → (merges_heard m events o).node.handed ≡ m.handed
heard-handed m events o = by o.answer
  where
    by : (x : Result (Unit {0}) MergeError) → (merges_heard m events (record { agent = o.agent; answer = x })).node.handed ≡ m.handed
    by (Ok done) = refl
    by (Err error) = refl

merge-handed : (m : IdealNode) (join : Bool) (f : Option MergeError) (r : Result Message WireError) → (merges_as f m join r).node.handed ≡ m.handed
merge-handed m join (Some error) r = refl
merge-handed m join None (Ok (push_pull s)) = heard-handed m (events_of s.slots) (planned m.agent (hear m.agent s join))
merge-handed m join None _ = refl

pub merges-handed : (m : IdealNode) (join : Bool) (given : Option (List ℕ)) → (merges_given m join given).node.handed ≡ m.handed
merges-handed m join None = refl
merges-handed m join (Some packet) = merge-handed m join (merge_refusal m.agent.snapshot (decoded packet)) (decoded packet)
