-- An event that is ignored as seen was handed to its agent by an earlier action.
use Rattle.serf_explain.proofs.Names.{Err, List, None, Ok, Option, Result, Some, [], ap, arith, false, inl, inr, refl, subst, suc, sym, true, zero, ℕ, ◌++◌, ◌∙◌, ◌∷◌, ◌≡◌, cases_Bool, eqb-true, list_any, option_map, Contains, slice_get, decoded, Message, UserEvent, foreign, push_pull, query, query_response, user_event, WireError, EventBody, event_of, TimedEntry, Config, Seen, Cluster, IdealNode, Run, after, delivers, on_agent, step, SeenWasHandedOrTailed, actor_keeps, keeps, tails_to, Turn, actor_of, given_by, is_agent, packet_given, Action, Line, KnowsSeen, Record, is_record, records_from, event_delivered, event_given, event_read}
use Rattle.std.specs.Prelude.{map}
use Rattle.serf_model.specs.declared.action.Act.TheVariants as acts
use Rattle.serf_model.specs.declared.action.Action.TheVariants as actions
use Rattle.serf_model.specs.declared.line.Answer.TheVariants as answers
use Rattle.serf_explain.proofs.RecordLaws.{handed-recorded}

-- the turn of a step is that of the action that was done
pub turn-action : (c : Cluster) (action : Action) → (step c action).turn.action ≡ action
turn-action c (actions.Inject bytes) = refl
turn-action c (actions.Of a act) = by (slice_get c.nodes a)
  where
    by : (m : Option IdealNode) → (on_agent c a act m).turn.action ≡ actions.Of a act
    by None = refl
    by (Some m) = refl

-- its packet is the one that the action passes to the agent
gives : (c : Cluster) (action : Action) → (step c action).turn.given ≡ packet_given c.sent action
gives c (actions.Inject bytes) = refl
gives c (actions.Of a act) = by (slice_get c.nodes a)
  where
    by : (m : Option IdealNode) → (on_agent c a act m).turn.given ≡ given_by c.sent act
    by None = refl
    by (Some m) = refl

-- a delivered event is in a packet that the action passes to the agent
record Gives (sent : List (List ℕ)) (action : Action) (a : ℕ) (e : TimedEntry EventBody) : Type 0 where
  packet : List ℕ
  event : UserEvent
  actor : actor_of action ≡ Some a
  given : packet_given sent action ≡ Some packet
  spells : decoded packet ≡ Ok (user_event event)
  is : e ≡ record { time = event.time; key = event_of event.name event.payload }

given-by : (sent : List (List ℕ)) (action : Action) (a : ℕ) (e : TimedEntry EventBody) → event_delivered sent action ≡ Some (a, e) → Gives sent action a e
given-by sent (actions.Of agent (acts.Deliver packet now)) a e h = at (slice_get sent packet) refl h
  where
    pair : TimedEntry EventBody → ℕ × TimedEntry EventBody
    pair e = (agent, e)

    read : (bytes : List ℕ) (r : Result Message WireError) → slice_get sent packet ≡ Some bytes → decoded bytes ≡ r → option_map pair (event_read r) ≡ Some (a, e) → Gives sent (actions.Of agent (acts.Deliver packet now)) a e
    read bytes (Ok (user_event u)) is spells k =
        let both : (agent, record { time = u.time; key = event_of u.name u.payload }) ≡ (a, e) = cc (k) in
        record {
          packet = bytes;
          event = u;
          actor = ap (λ (d : ℕ × TimedEntry EventBody). Some d.0) both;
          given = is;
          spells = spells;
          is = sym (ap (λ (d : ℕ × TimedEntry EventBody). d.1) both);
        }
    read bytes (Ok (query q)) is spells k = absurd (cc (k))
    read bytes (Ok (query_response r)) is spells k = absurd (cc (k))
    read bytes (Ok (push_pull p)) is spells k = absurd (cc (k))
    read bytes (Ok (foreign n)) is spells k = absurd (cc (k))
    read bytes (Err error) is spells k = absurd (cc (k))

    at : (o : Option (List ℕ)) → slice_get sent packet ≡ o → option_map pair (event_given o) ≡ Some (a, e) → Gives sent (actions.Of agent (acts.Deliver packet now)) a e
    at None is k = absurd (cc (k))
    at (Some bytes) is k = read bytes (decoded bytes) is refl k
given-by sent _ a e h = absurd (cc h)

-- a packet that was sent keeps its number when more are sent
pub still-sent : (xs ys : List (List ℕ)) (k : ℕ) (x : List ℕ) → slice_get xs k ≡ Some x → slice_get (xs ++ ys) k ≡ Some x
still-sent [] ys k x h = absurd (cc (h))
still-sent (y ∷ xs) ys zero x h = h
still-sent (y ∷ xs) ys (suc k) x h = still-sent xs ys k x h

-- an event that is ignored as seen was sent before
delivered-before : (c : Cluster) (more : List (List ℕ)) (action : Action) (a : ℕ) (e : TimedEntry EventBody) → (step c action).turn.line.answer ≡ answers.Ignored Seen
    → event_delivered (c.sent ++ more) action ≡ Some (a, e) → event_delivered c.sent action ≡ Some (a, e)
delivered-before c more (actions.Of agent (acts.Deliver packet now)) a e says h = at (slice_get c.sent packet) refl h
  where
    pair : TimedEntry EventBody → ℕ × TimedEntry EventBody
    pair e = (agent, e)

    no-packet : (m : Option IdealNode) → (on_agent c agent (acts.Deliver packet now) m).turn.line.answer ≡ answers.Ignored Seen → slice_get c.sent packet ≡ None → ⊥
    no-packet None says none = cc (says)
    no-packet (Some m) says none =
        let refused : (delivers m now None).done.answer ≡ answers.Ignored Seen = ap (λ (o : Option (List ℕ)). (delivers m now o).done.answer) (sym none) ∙ says in
        cc (refused)

    at : (o : Option (List ℕ)) → slice_get c.sent packet ≡ o → option_map pair (event_given (slice_get (c.sent ++ more) packet)) ≡ Some (a, e) → option_map pair (event_given (slice_get c.sent packet)) ≡ Some (a, e)
    at None is k = absurd (no-packet (slice_get c.nodes agent) says is)
    at (Some bytes) is k =
        ap (λ (o : Option (List ℕ)). option_map pair (event_given o)) (is ∙ sym (still-sent c.sent more packet bytes is)) ∙ k
delivered-before c more _ a e says h = h

-- an agent that keeps no events restores none from the text on which it is opened
actor-off : (configs : List Config) (a : ℕ) (actor : Option ℕ) → is_agent a actor ≡ true → keeps (slice_get configs a) ≡ false → actor_keeps configs actor ≡ false
actor-off configs a None mine off = refl
actor-off configs a (Some b) mine off = subst (λ (x : ℕ). keeps (slice_get configs x) ≡ false) (sym (eqb-true b a mine)) off

tails-none : (configs : List Config) (a : ℕ) (turns : List Turn) → keeps (slice_get configs a) ≡ false → tails_to configs a turns ≡ []
tails-none configs a [] off = refl
tails-none configs a (t ∷ ts) off = elim (cases_Bool (is_agent a (actor_of t.action))) [
  | inl mine ↦ rw (mine, actor-off configs a (actor_of t.action) mine off) (tails-none configs a ts off)
  | inr other ↦ rw other (tails-none configs a ts off)
]

tailed-keeps : (configs : List Config) (a : ℕ) (turns : List Turn) (e : TimedEntry EventBody) → Contains (tails_to configs a turns) e → keeps (slice_get configs a) ≡ true
tailed-keeps configs a turns e h = elim (cases_Bool (keeps (slice_get configs a))) [
  | inl on ↦ on
  | inr off ↦ (let none : Contains [] e = subst (λ (es : List (TimedEntry EventBody)). Contains es e) (tails-none configs a turns off) h in absurd (omega (arith, none.1)))
]

-- the event that an action delivers is known, if it is ignored as seen and the run keeps this promise
pub knows-seen : (configs : List Config) (r : Run) (action : Action) (sent : List (List ℕ)) (line : Line) (records : List Record) → SeenWasHandedOrTailed configs (after r action).turns
    → (step r.cluster action).cluster.sent ≡ r.cluster.sent ++ (step r.cluster action).turn.packets → (step r.cluster action).cluster.sent ≡ sent → line ≡ (step r.cluster action).turn.line
    → records ≡ records_from 1 (map (λ (t : Turn). t.line) r.turns) → KnowsSeen configs records sent action line
knows-seen configs r action sent line records held sends sent-is line-is records-are says a e h =
    let c : Cluster = r.cluster in
    let turn : Turn = (step c action).turn in
    let seen : turn.line.answer ≡ answers.Ignored Seen = ap (λ (l : Line). l.answer) (sym line-is) ∙ says in
    let given = given-by c.sent action a e (delivered-before c turn.packets action a e seen (ap (λ (s : List (List ℕ)). event_delivered s action) (sym sends ∙ sent-is) ∙ h)) in
    let known = held r.turns turn [] refl a given.packet given.event (ap actor_of (turn-action c action) ∙ given.actor) seen (gives c action ∙ given.given) given.spells in
    elim known [
      | inl handed ↦ inl (subst (λ (x : TimedEntry EventBody). list_any (is_record a x.time x.key) records ≡ true) (sym given.is)
          (ap (list_any (is_record a given.event.time (event_of given.event.name given.event.payload))) records-are
          ∙ handed-recorded a given.event.time (event_of given.event.name given.event.payload) 1 r.turns handed))
      | inr tailed ↦ inr (tailed-keeps configs a r.turns (record { time = given.event.time; key = event_of given.event.name given.event.payload }) tailed)
    ]
