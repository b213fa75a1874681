-- The whole state that an agent sends has its clocks, and each event of its present life that is within its window.
use Rattle.serf_model.proofs.Names.{Bool, Err, List, Ok, [], arith, cond, false, inl, inr, length, map, nat_le, refl, subst, sym, true, ℕ, ◌%◌, ◌+◌, ◌<◌, ◌==◌, ◌∷◌, ◌≡◌, ◌≤◌, and_parts, eq-eqb, eqb-true, leb-true, All-cons, All-contains, All-nil, All-weaker, Contains-append_left, Contains-append_right, filter, All, Contains, has_long, without_events, canonical, decoded, PushPull, held, push_pull, EventBody, SlotOf, TimedEntry, held_at, slots_of, IdealAgent, events_of, events_of_slot, slot_sent, state_of, of_life, view_of, Config, is_sound, Below, IdealNode, sends_state, state_gives, IsRepresentable}
use Rattle.std.proofs.lemmas.Nat.{mod_below}
use Rattle.serf_window.specs.Window.{TimesBelow, empty_slot, held_of, slot_for}
use Rattle.serf_agent.specs.declared.outcome.PushPullError.TheVariants as states
use Rattle.serf_model.specs.declared.line.Answer.TheVariants as lines
use Rattle.serf_model.proofs.PacketEvents.{in-life, state-ranged}

-- ---- what a window holds is in the state

mapped-in : {X Y : Type 0} (f : X → Y) (xs : List X) → All (λ x. Contains (map f xs) (f x)) xs
mapped-in f [] = All-nil (λ x. Contains [] (f x))
mapped-in f (x ∷ xs) =
    All-cons (λ y. Contains (map f (x ∷ xs)) (f y)) x xs (0, omega arith, refl)
    (All-weaker (λ y. Contains (map f xs) (f y)) (λ y. Contains (map f (x ∷ xs)) (f y)) (λ y h. Contains-append_right (f x ∷ []) (map f xs) (f y) h) xs (mapped-in f xs))

-- an event of a slot, at the slot's time
abbrev at_slot : SlotOf EventBody → EventBody → TimedEntry EventBody
at_slot s what = record { time = s.time; key = what }

slot-holds : (s : SlotOf EventBody) → All (λ what. Contains (events_of_slot (without_events (slot_sent s))) (at_slot s what)) s.held
slot-holds s = by s.held
  where
    by : (es : List EventBody) → All (λ what. Contains (events_of_slot (without_events (held s.time es))) (at_slot s what)) es
    by [] = All-nil (λ what. Contains [] (at_slot s what))
    by (e ∷ es) = mapped-in (at_slot s) (e ∷ es)

-- the events of slots, as a packet carries them
abbrev carried : List (SlotOf EventBody) → List (TimedEntry EventBody)
carried ss = events_of (map without_events (map slot_sent ss))

slots-hold : (ss : List (SlotOf EventBody)) → All (λ s. All (λ what. Contains (carried ss) (at_slot s what)) s.held) ss
slots-hold [] = All-nil (λ s. All (λ what. Contains [] (at_slot s what)) s.held)
slots-hold (s ∷ ss) =
    let own : List (TimedEntry EventBody) = events_of_slot (without_events (slot_sent s)) in
    All-cons (λ x. All (λ what. Contains (carried (s ∷ ss)) (at_slot x what)) x.held) s ss
    (All-weaker (λ what. Contains own (at_slot s what)) (λ what. Contains (carried (s ∷ ss)) (at_slot s what)) (λ what h. Contains-append_left own (carried ss) (at_slot s what) h) s.held (slot-holds s))
    (All-weaker (λ x. All (λ what. Contains (carried ss) (at_slot x what)) x.held) (λ x. All (λ what. Contains (carried (s ∷ ss)) (at_slot x what)) x.held)
    (λ x all. All-weaker (λ what. Contains (carried ss) (at_slot x what)) (λ what. Contains (carried (s ∷ ss)) (at_slot x what)) (λ what h. Contains-append_right own (carried ss) (at_slot x what) h) x.held all) ss (slots-hold ss))

-- what entered at a time is held at this time
held-all : (t : ℕ) (es : List (TimedEntry EventBody)) → All (λ x. x.time ≡ t → Contains (held_at t es) x.key) es
held-all t [] = All-nil (λ x. x.time ≡ t → Contains [] x.key)
held-all t (e ∷ es) =
    All-cons (λ x. x.time ≡ t → Contains (held_at t (e ∷ es)) x.key) e es first
    (All-weaker (λ x. x.time ≡ t → Contains (held_at t es) x.key) (λ x. x.time ≡ t → Contains (held_at t (e ∷ es)) x.key) (λ x h same. more x.key (e.time == t) (h same)) es (held-all t es))
  where
    first : e.time ≡ t → Contains (held_at t (e ∷ es)) e.key
    first same = rw (eq-eqb e.time t same) (0, omega arith, refl)

    more : (what : EventBody) (b : Bool) → Contains (held_at t es) what → Contains (map (λ (x : TimedEntry EventBody). x.key) (cond b (e ∷ filter (λ x. x.time == t) es) (filter (λ x. x.time == t) es))) what
    more what true h = Contains-append_right (e.key ∷ []) (held_at t es) what h
    more what false h = h

in-nothing : {X : Type 0} (x : X) → Contains [] x → ⊥
in-nothing x h = absurd (let lt = h.1 in omega arith)

-- a slot that holds something of a time has this time
held-slot : (P : EventBody → ℕ → Type 0) (s : SlotOf EventBody) (t : ℕ) (what : EventBody) → Contains (held_of s t) what → All (λ x. P x s.time) s.held → P what t
held-slot P s t what there all = by (s.time == t) refl there
  where
    by : (b : Bool) → (s.time == t) ≡ b → Contains (cond b s.held []) what → P what t
    by true is h = subst (P what) (eqb-true s.time t is) (All-contains (λ x. P x s.time) s.held what all h)
    by false is h = absurd (in-nothing what h)

-- the window has at least one slot
some-slot : (c : Config) → is_sound c ≡ true → 0 < c.event_buffer
some-slot c ok =
    let per_time = and_parts _ _ ok in
    let responders = and_parts _ _ per_time.0 in
    let response = and_parts _ _ responders.0 in
    let query = and_parts _ _ response.0 in
    let event = and_parts _ _ query.0 in
    let queries = and_parts _ _ event.0 in
    let events = and_parts _ _ queries.0 in
    let both = and_parts (nat_le 1 c.event_buffer) (nat_le c.event_buffer 65536) events.1 in
    leb-true 1 c.event_buffer both.0

-- each event of the present life that is within the window is in the state
pub state-holds : Below → (i : IdealAgent) (e : TimedEntry EventBody) → IsRepresentable i → Contains (of_life i.life i.events.history) e → i.events.clock ≤ e.time + i.config.event_buffer
    → Contains (carried (slots_of i.config.event_buffer (of_life i.life i.events.history))) e
state-holds lower i e g there young = elim (lower.slots.held_or_too_old i.config.event_buffer i.events.clock e.time life some below) [
  | inl holds ↦ held-slot (λ what t. Contains (carried slots) (record { time = t; key = what })) (slot_for slots e.time) e.time e.key (subst (λ (l : List EventBody). Contains l e.key) (sym holds) found) (slots-hold slots (e.time % length slots) empty_slot (mod_below e.time (length slots) (omega (arith, some, size))))
  | inr old ↦ absurd (omega (arith, old, young))
]
  where
    life : List (TimedEntry EventBody)
    life = of_life i.life i.events.history

    slots : List (SlotOf EventBody)
    slots = slots_of i.config.event_buffer (of_life i.life i.events.history)

    some : 0 < i.config.event_buffer
    some = some-slot i.config g.consistent.sound.config

    size : length (slots_of i.config.event_buffer (of_life i.life i.events.history)) ≡ i.config.event_buffer
    size = lower.slots.size i.config.event_buffer (of_life i.life i.events.history)

    low : All (λ x. x.time < i.events.clock) (of_life i.life i.events.history)
    low = in-life (λ x. x.time < i.events.clock) i.life i.events.history g.consistent.sound.events.below_clock

    below : TimesBelow i.events.clock (slots_of i.config.event_buffer (of_life i.life i.events.history))
    below =
        let first : e.time < i.events.clock = All-contains (λ (x : TimedEntry EventBody). x.time < i.events.clock) (of_life i.life i.events.history) e low there in
        lower.slots.below i.config.event_buffer i.events.clock (of_life i.life i.events.history) (omega (arith, first)) low

    found : Contains (held_at e.time (of_life i.life i.events.history)) e.key
    found = All-contains (λ (x : TimedEntry EventBody). x.time ≡ e.time → Contains (held_at e.time (of_life i.life i.events.history)) x.key) (of_life i.life i.events.history) e (held-all e.time (of_life i.life i.events.history)) there refl

-- ---- the packet of a state

-- what an agent's state says, once it is read
abbrev pub state_read : IdealAgent → PushPull
state_read i = record (state_of (view_of i) [] []) { slots = map without_events (state_of (view_of i) [] []).slots }

-- these packets are one that spells this state
abbrev pub SpellsState : List (List ℕ) → PushPull → Type 0
SpellsState packets m = (packet : List ℕ) × (packets ≡ packet ∷ []) × (decoded packet ≡ Ok (push_pull m))

-- the agent isn't stopped, and its turn spells its state
pub record SendsState (m : IdealNode) (packets : List (List ℕ)) : Type 0 where
  pub runs : m.agent.snapshot.stopped ≡ false
  pub spells : SpellsState packets (state_read m.agent)

pub state-sent : Below → (m : IdealNode) → IsRepresentable m.agent → (sends_state m).done.answer ≡ lines.State → SendsState m (sends_state m).done.packets
state-sent lower m g = by m.agent.snapshot.stopped (has_long (push_pull (state_of (view_of m.agent) [] []))) refl refl
  where
    packet : List ℕ
    packet = canonical (push_pull (state_of (view_of m.agent) [] []))

    by : (stopped long : Bool) → m.agent.snapshot.stopped ≡ stopped → has_long (push_pull (state_of (view_of m.agent) [] [])) ≡ long
        → (let done = state_gives (cond stopped (Err states.Stopped) (cond long (Err states.TooLong) (Ok (canonical (push_pull (state_of (view_of m.agent) [] [])))))) in done.answer ≡ lines.State → SendsState m done.packets)
    by true long stops is says = absurd (cc says)
    by false true runs is says = absurd (cc says)
    by false false runs is says = record {
      runs = runs;
      spells = (packet, refl, lower.spelled (canonical (push_pull (state_of (view_of m.agent) [] []))) (push_pull (state_read m.agent)) (lower.canonical (push_pull (state_of (view_of m.agent) [] [])) (state-ranged lower m.agent g) is));
    }
