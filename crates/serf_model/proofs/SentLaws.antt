-- In every run, each turn sends what it has to send.
use Rattle.serf_model.proofs.Names.{List, None, Ok, Option, Some, [], ap, arith, length, refl, subst, sym, ℕ, ◌+◌, ◌∙◌, ◌∷◌, ◌≡◌, ◌≤◌, Contains-append_right, option_map, All, Contains, slice_get, EventBody, TimedEntry, DeliveredQuery, of_life, Config, Below, AreConfigs, events_of_life, Cluster, IdealNode, Run, after, applied, apply, handed_line, run_of, start, step, CanTell, HasSizes, IsRepresentable, Turn, given_by, Act, Action, Of, QueryLine, HasShortQueries, Answer, Bool, PushPull, decoded, events_of, false, injects, on_agent, push_pull, true, true≢false, turns_by, recursion_from_All}
use Rattle.serf_model.specs.declared.action.Act.TheVariants as acts
use Rattle.serf_model.specs.declared.line.Answer.TheVariants as lines
use Rattle.serf_model.specs.Sent.{IsStateOf, SendsAll, Sent}
use Rattle.serf_model.specs.Taken.{event_minimum_of}
use Rattle.serf_model.proofs.AnswerLaws.{IsServed, served-start, served-step}
use Rattle.serf_model.proofs.BoundLaws.{IsLived, IsLivedAt, lived-start, lived-step}
use Rattle.serf_model.proofs.Effects.{Effect, effect}
use Rattle.serf_model.proofs.HandedQueries.{HasHanded}
use Rattle.serf_model.proofs.RunLaws.{CanTellIt, IsAfter, after-step, all-at, tell-each}
use Rattle.serf_model.proofs.SendingLaws.{SpellsAck, SpellsQuery, SpellsReply, acked-effect, fired-effect, new-effect, new_query-effect, queried-effect, replied-by}
use Rattle.serf_model.proofs.SettingsKept.{all-short, short-at}
use Rattle.serf_model.proofs.StartLaws.{after-start}
use Rattle.serf_model.proofs.StatesSent.{state-holds, state-sent, state_read}
use Rattle.serf_model.proofs.StepCases.{step-cases}
use Rattle.serf_model.proofs.TakenLaws.{AreOpened, IsOpened, opened-start, opened-step}
use Rattle.serf_model.proofs.TurnLaws.{all-in, at_each_nil, at_each_push, both-each, fold_keeps_at}

-- ---- an agent's state

-- the state that an agent sends is its state
state-of : Below → (configs : List Config) (c : Cluster) (turns : List Turn) (b : ℕ) (m : IdealNode) (config : Config) → IsAfter configs c turns → IsLivedAt configs turns b (Some m) → IsOpened config b turns m → m.agent.snapshot.stopped ≡ false → slice_get c.nodes b ≡ Some m
    → IsStateOf b config turns (state_read m.agent)
state-of lower configs c turns b m config h lived opened runs at = record {
  event_clock = (opened.exact runs).0;
  query_clock = (opened.exact runs).1;
  carries = all-in (λ e. m.agent.events.clock ≤ e.time + config.event_buffer → Contains (events_of (state_read m.agent).slots) e) (events_of_life b turns) holds;
}
  where
    representable : IsRepresentable m.agent
    representable = all-at (λ m. IsRepresentable m.agent) c.nodes b m h.representable at

    settings : m.agent.config ≡ config
    settings = (opened.opens (event_minimum_of config b turns) (omega arith)).settings

    holds : (e : TimedEntry EventBody) → Contains (events_of_life b turns) e → m.agent.events.clock ≤ e.time + config.event_buffer → Contains (events_of (state_read m.agent).slots) e
    holds e there young =
        let within : Contains (of_life m.agent.life m.agent.events.history) e = subst (λ (l : List (TimedEntry EventBody)). Contains l e) (sym lived.events.ends) (Contains-append_right lived.events.taken (events_of_life b turns) e there) in
        let window : m.agent.config.event_buffer ≡ config.event_buffer = ap (λ (x : Config). x.event_buffer) settings in
        state-holds lower m.agent e representable within (omega (arith, young, window))

-- ---- a turn of an agent

own-config : (configs : List Config) (b a : ℕ) (mine config : Config) → slice_get configs b ≡ Some mine → b ≡ a → slice_get configs a ≡ Some config → mine ≡ config
own-config configs b a mine config at same is = let both : Some mine ≡ Some config = sym at ∙ ap (slice_get configs) same ∙ is in cc both

-- the query that a line shows is the one that was handed out
record IsHandedLine (handed : Option DeliveredQuery) (h : QueryLine) : Type 0 where
  query : DeliveredQuery
  is : handed ≡ Some query
  time : h.time ≡ query.time
  id : h.id ≡ query.id

handed-shown : (b n : ℕ) (handed : Option DeliveredQuery) (h : QueryLine) → option_map (handed_line b n) handed ≡ Some h → IsHandedLine handed h
handed-shown b n None h is = absurd (cc is)
handed-shown b n (Some q) h is =
    let same : handed_line b n q ≡ h = cc is in
    record { query = q; is = refl; time = ap (λ (x : QueryLine). x.time) (sym same); id = ap (λ (x : QueryLine). x.id) (sym same) }

sends-acts : Below → (configs : List Config) (c : Cluster) (turns : List Turn) (b : ℕ) (act : Act) (m : IdealNode) → IsAfter configs c turns → IsLivedAt configs turns b (Some m) → AreOpened configs c turns → HasHanded configs b (turns_by b turns) m → All HasShortQueries configs → HasSizes (Of b act)
    → slice_get c.nodes b ≡ Some m → SendsAll configs turns (applied c b act (apply m c.sent act)).turn
sends-acts lower configs c turns b act m h lived opened hands short sized at = record {
  fired = λ a t name payload coalesce is says. fired-effect lower m (Of b act) (given_by c.sent act) (apply m c.sent act) did representable a t name payload coalesce is says;
  queried = λ a t config q found is says.
      let who : b ≡ a = cc is in
      subst (λ (x : Config). SpellsQuery (apply m c.sent act).done.packets t x.name q) (own-config configs b a m.agent.config config hands.settings who found)
      (queried-effect lower m (Of b act) (given_by c.sent act) (apply m c.sent act) did (short-at configs b m.agent.config short hands.settings) sized a t q is says);
  state = λ a config found is says. states a config found is says;
  new = λ packet says given. new-effect m (Of b act) (given_by c.sent act) (apply m c.sent act) did packet says given;
  new_query = λ packet q says given reads quiet. new_query-effect m (Of b act) (given_by c.sent act) (apply m c.sent act) did packet q says given reads quiet;
  acked = λ a config q line found actor handed entered wants.
      let who : b ≡ a = cc actor in
      let out = handed-shown b (length (apply m c.sent act).node.handed) (apply m c.sent act).done.handed line handed in
      subst (λ (x : Config). SpellsAck (apply m c.sent act).done.packets line.time line.id x.name) (own-config configs b a m.agent.config config hands.settings who found)
      (subst (λ (t : ℕ). SpellsAck (apply m c.sent act).done.packets t line.id m.agent.config.name) (sym out.time)
      (subst (λ (id : ℕ). SpellsAck (apply m c.sent act).done.packets out.query.time id m.agent.config.name) (sym out.id)
      (acked-effect lower configs m (Of b act) (given_by c.sent act) (apply m c.sent act) b refl hands.settings did representable sized q out.query out.is entered wants)));
  replied = λ a number now payload config found is says. replies a number now payload config found is says;
}
  where
    representable : IsRepresentable m.agent
    representable = all-at (λ m. IsRepresentable m.agent) c.nodes b m h.representable at

    did : Effect m (Of b act) (given_by c.sent act) (apply m c.sent act)
    did = effect lower m c.sent b act

    states : (a : ℕ) (config : Config) → slice_get configs a ≡ Some config → Of b act ≡ Of a acts.State → (apply m c.sent act).done.answer ≡ lines.State
        → (packet : List ℕ) × (s : PushPull) × ((apply m c.sent act).done.packets ≡ packet ∷ []) × (decoded packet ≡ Ok (push_pull s)) × IsStateOf a config turns s
    states a config found is says =
        let who : b ≡ a = cc is in
        let same : act ≡ acts.State = cc is in
        let answers : (apply m c.sent acts.State).done.answer ≡ lines.State = subst (λ (x : Act). (apply m c.sent x).done.answer ≡ lines.State) same says in
        let sends = state-sent lower m representable answers in
        let spells = sends.spells in
        let mine = opened b config m (ap (slice_get configs) who ∙ found) at in (
          spells.0,
          state_read m.agent,
          ap (λ (x : Act). (apply m c.sent x).done.packets) same ∙ spells.1,
          spells.2,
          subst (λ (j : ℕ). IsStateOf j config turns (state_read m.agent)) who (state-of lower configs c turns b m config h lived mine sends.runs at),
        )

    replies : (a number now : ℕ) (payload : List ℕ) (config : Config) → slice_get configs a ≡ Some config → Of b act ≡ Of a (acts.Respond number now payload) → (apply m c.sent act).done.answer ≡ lines.Replied → SpellsReply (apply m c.sent act).done.packets config.name payload
    replies a number now payload config found is says =
        let who : b ≡ a = cc is in
        let same : act ≡ acts.Respond number now payload = cc is in
        let answers : (apply m c.sent (acts.Respond number now payload)).done.answer ≡ lines.Replied = subst (λ (x : Act). (apply m c.sent x).done.answer ≡ lines.Replied) same says in
        subst (λ (x : Config). SpellsReply (apply m c.sent act).done.packets x.name payload) (own-config configs b a m.agent.config config hands.settings who found)
        (subst (λ (x : Act). SpellsReply (apply m c.sent x).done.packets m.agent.config.name payload) (sym same) (replied-by lower m number now payload (slice_get m.handed number) refl representable hands.handable answers))

-- ---- every turn

-- an injection and a refusal have to send nothing
abbrev still : Answer → Bool
still lines.Injected = true
still (lines.Refused why) = true
still _ = false

sends-still : (configs : List Config) (before : List Turn) (turn : Turn) → still turn.line.answer ≡ true → turn.line.handed ≡ None → SendsAll configs before turn
sends-still configs before turn is_still none = record {
  fired = λ a t name payload coalesce is says. absurd (true≢false (sym is_still ∙ ap still says));
  queried = λ a t config q found is says. absurd (true≢false (sym is_still ∙ ap still says));
  state = λ a config found is says. absurd (true≢false (sym is_still ∙ ap still says));
  new = λ packet says given. absurd (true≢false (sym is_still ∙ ap still says));
  new_query = λ packet q says given reads quiet. absurd (true≢false (sym is_still ∙ ap still says));
  acked = λ a config q line found actor handed entered wants. absurd (let no : None ≡ Some line = sym none ∙ handed in cc no);
  replied = λ a number now payload config found is says. absurd (true≢false (sym is_still ∙ ap still says));
}

sends-turn : Below → (configs : List Config) (c : Cluster) (turns : List Turn) (action : Action) → IsAfter configs c turns → IsLived configs c turns → AreOpened configs c turns → IsServed configs c turns → All HasShortQueries configs → HasSizes action → SendsAll configs turns (step c action).turn
sends-turn lower configs c turns action h lived opened served short sized =
    step-cases (λ s. SendsAll configs turns s.turn) c action (λ bytes. sends-still configs turns (injects c bytes).turn refl refl) (λ b act none. sends-still configs turns (on_agent c b act None).turn refl refl)
    (λ b act m is at. sends-acts lower configs c turns b act m h (subst (IsLivedAt configs turns b) at (lived b)) opened (served.each b m at) short (subst HasSizes is sized) at)

-- what each action preserves
pub record IsSendingOn (configs : List Config) (r : Run) : Type 0 where
  pub after : IsAfter configs r.cluster r.turns
  pub lived : IsLived configs r.cluster r.turns
  pub opened : AreOpened configs r.cluster r.turns
  pub served : IsServed configs r.cluster r.turns
  pub sent : Sent configs r.turns

pub sending-run : Below → (configs : List Config) (actions : List Action) → AreConfigs configs → CanTell configs actions → All HasSizes actions → IsSendingOn configs (run_of configs actions)
sending-run lower configs actions ok told sized =
    fold_keeps_at (IsSendingOn configs) (λ action. HasSizes action × CanTellIt configs action) after (start configs) actions
    (record { after = after-start lower configs ok; lived = lived-start configs; opened = opened-start lower configs ok; served = served-start configs; sent = at_each_nil (SendsAll configs) })
    (both-each HasSizes (CanTellIt configs) actions (recursion_from_All HasSizes actions sized) (tell-each configs actions told))
    (λ r action has h. record {
      after = after-step lower configs r action has.1 h.after;
      lived = lived-step lower configs r action h.after h.lived;
      opened = opened-step lower configs r action has.1 h.after h.opened;
      served = served-step lower configs r action has.0 has.1 h.after h.served;
      sent = at_each_push (SendsAll configs) r.turns (step r.cluster action).turn h.sent (sends-turn lower configs r.cluster r.turns action h.after h.lived h.opened h.served (all-short configs ok) has.0);
    })
