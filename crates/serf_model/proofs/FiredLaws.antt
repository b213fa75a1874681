-- Where the events that are handed out and sent come from.
use Rattle.serf_model.proofs.Names.{List, None, Option, Some, [], ap, arith, cond, false, inl, inr, map, refl, subst, sym, true, ℕ, ◌++◌, ◌∙◌, ◌∷◌, ◌≡◌, All-cons, All-head, All-nil, All-tail, All-weaker, flat_map, All, Contains, slice_get, EventBody, TimedEntry, Config, EventOut, Below, Applied, Cluster, IdealNode, Run, after, applied, apply, event_line, injects, on_agent, start, CarriesOnlyFired, CarriesOnlyFiredOrTailed, OnlyFired, OnlyFiredOrTailed, WasFired, WasFiredOrTailed, IsRepresentable, NoneKeeps, actor_keeps, keeps, tail_events, tailed_by, tailed_in, Turn, actor_of, event_in, events_in_packet, fired_by, injects_of, Act, Action, Inject, Of}
use Rattle.serf_model.proofs.PacketsHave.{AllHave, Carries}
use Rattle.serf_model.proofs.PerTimeBound.{out_in}
use Rattle.serf_model.proofs.RunLaws.{CanTellIt, IsAfter, all-at, none-keeps, settings-at, tells-at}
use Rattle.serf_model.proofs.Spreading.{Spreads, spreads-applied, spreads-injected, spreads-weaker}
use Rattle.serf_model.proofs.StartLaws.{spreads-start}
use Rattle.serf_model.proofs.TurnLaws.{all-in, at_each_nil, at_each_push, in-before, in-now, in-parts_before, in-parts_now}

-- ---- what was fired stays fired

was-fired-more : (turns : List Turn) (turn : Turn) (e : TimedEntry EventBody) → WasFired turns e → WasFired (turns ++ turn ∷ []) e
was-fired-more turns turn e (inl h) = inl (in-before (λ t. fired_by t.action t.line.answer) turns turn e h)
was-fired-more turns turn e (inr h) = inr (in-parts_before events_in_packet (λ t. injects_of t.action) turns turn e h)

-- after a turn, what it fired was fired, and what it injected was injected
fires-now : (turns : List Turn) (turn : Turn) → All (WasFired (turns ++ turn ∷ [])) (fired_by turn.action turn.line.answer)
fires-now turns turn = all-in (WasFired (turns ++ turn ∷ [])) (fired_by turn.action turn.line.answer) (λ e h. inl (in-now (λ t. fired_by t.action t.line.answer) turns turn e h))

forges-now : (turns : List Turn) (turn : Turn) → All (WasFired (turns ++ turn ∷ [])) (flat_map events_in_packet (injects_of turn.action))
forges-now turns turn = all-in (WasFired (turns ++ turn ∷ [])) (flat_map events_in_packet (injects_of turn.action)) (λ e h. inr (in-parts_now events_in_packet (λ t. injects_of t.action) turns turn e h))

-- ---- tails

-- an agent that keeps its events restores those of its tail
pub tailed-is : (configs : List Config) (b : ℕ) (config : Config) (turn : Turn) → actor_of turn.action ≡ Some b → slice_get configs b ≡ Some config → config.keep_events ≡ true → tailed_in configs turn ≡ tailed_by turn.action
tailed-is configs b config turn actor at keeping =
    ap (λ a. cond (actor_keeps configs a) (tailed_by turn.action) []) actor ∙ ap (λ c. cond (keeps c) (tailed_by turn.action) []) at ∙ ap (λ x. cond x (tailed_by turn.action) []) keeping

-- if no agent keeps its events, none restores any from a tail
none-keep : (configs : List Config) (r : Option Config) (a : ℕ) → NoneKeeps configs → slice_get configs a ≡ r → keeps r ≡ false
none-keep configs None a none at = refl
none-keep configs (Some c) a none at = none-keeps configs a c none at

none-tailed : (configs : List Config) (turn : Turn) → NoneKeeps configs → tailed_in configs turn ≡ []
none-tailed configs turn none = ap (λ x. cond x (tailed_by turn.action) []) (by (actor_of turn.action))
  where
    by : (a : Option ℕ) → actor_keeps configs a ≡ false
    by None = refl
    by (Some a) = none-keep configs (slice_get configs a) a none refl

pub no-tails : (configs : List Config) (turns : List Turn) → NoneKeeps configs → tail_events configs turns ≡ []
no-tails configs [] none = refl
no-tails configs (t ∷ ts) none = ap (λ l. l ++ tail_events configs ts) (none-tailed configs t none) ∙ no-tails configs ts none

-- ---- what was fired or was in a tail remains so

was-more : (configs : List Config) (turns : List Turn) (turn : Turn) (e : TimedEntry EventBody) → WasFiredOrTailed configs turns e → WasFiredOrTailed configs (turns ++ turn ∷ []) e
was-more configs turns turn e (inl h) = inl (was-fired-more turns turn e h)
was-more configs turns turn e (inr h) = inr (in-before (tailed_in configs) turns turn e h)

tails-now : (configs : List Config) (turns : List Turn) (turn : Turn) → tailed_in configs turn ≡ tailed_by turn.action → All (WasFiredOrTailed configs (turns ++ turn ∷ [])) (tailed_by turn.action)
tails-now configs turns turn is =
    all-in (WasFiredOrTailed configs (turns ++ turn ∷ [])) (tailed_by turn.action) (λ e h. inr (in-now (tailed_in configs) turns turn e (subst (λ (l : List (TimedEntry EventBody)). Contains l e) (sym is) h)))

-- ---- after a run, everything that agents entered and that packets carry was fired, or was in a tail

pub record IsFired (configs : List Config) (c : Cluster) (turns : List Turn) : Type 0 where
  pub spreads : Spreads (WasFiredOrTailed configs turns) c
  pub handed_out : OnlyFiredOrTailed configs turns
  pub carries : CarriesOnlyFiredOrTailed configs turns

abbrev OnlyFiredAt : List Config → List Turn → Turn → Type 0
OnlyFiredAt configs before turn = All (λ e. WasFiredOrTailed configs (before ++ turn ∷ []) (event_in e)) turn.line.events

abbrev CarriesAt : List Config → List Turn → Turn → Type 0
CarriesAt configs before turn = All (λ packet. All (WasFiredOrTailed configs (before ++ turn ∷ [])) (events_in_packet packet)) turn.packets

-- the lines of what was handed out
lines-have : (P : TimedEntry EventBody → Type 0) (a : ℕ) (outs : List EventOut) → All P (map out_in outs) → All (λ e. P (event_in e)) (map (event_line a) outs)
lines-have P a [] all = All-nil (λ e. P (event_in e))
lines-have P a (o ∷ os) all = All-cons (λ e. P (event_in e)) (event_line a o) (map (event_line a) os) (All-head P (out_in o) (map out_in os) all) (lines-have P a os (All-tail P (out_in o) (map out_in os) all))

all-front : {X : Type 0} (P : X → Type 0) (xs ys : List X) → All P (xs ++ ys) → All P xs
all-front P [] ys all = All-nil P
all-front P (x ∷ xs) ys all = All-cons P x xs (All-head P x (xs ++ ys) all) (all-front P xs ys (All-tail P x (xs ++ ys) all))

all-back : {X : Type 0} (P : X → Type 0) (xs ys : List X) → All P (xs ++ ys) → All P ys
all-back P [] ys all = all
all-back P (x ∷ xs) ys all = all-back P xs ys (All-tail P x (xs ++ ys) all)

pub all-parts : {X Y : Type 0} (P : Y → Type 0) (f : X → List Y) (xs : List X) → All P (flat_map f xs) → All (λ x. All P (f x)) xs
all-parts P f [] all = All-nil (λ x. All P (f x))
all-parts P f (x ∷ xs) all = All-cons (λ y. All P (f y)) x xs (all-front P (f x) (flat_map f xs) all) (all-parts P f xs (all-back P (f x) (flat_map f xs) all))

-- if P holds of everything that these packets carry, each packet carries only entries with P
parts-carry : (P : TimedEntry EventBody → Type 0) (packets : List (List ℕ)) → All P (flat_map events_in_packet packets) → All (Carries P) packets
parts-carry P packets all = all-parts P events_in_packet packets all

fired-acts : Below → (configs : List Config) (c : Cluster) (turns : List Turn) (b : ℕ) (act : Act) (m : IdealNode) → IsAfter configs c turns → CanTellIt configs (Of b act) → IsFired configs c turns → slice_get c.nodes b ≡ Some m
    → (let s = applied c b act (apply m c.sent act) in IsFired configs s.cluster (turns ++ s.turn ∷ []))
fired-acts lower configs c turns b act m h tells f at =
    let o : Applied = apply m c.sent act in
    let turn : Turn = (applied c b act (apply m c.sent act)).turn in
    let P : TimedEntry EventBody → Type 0 = WasFiredOrTailed configs (turns ++ turn ∷ []) in
    let representable = all-at (λ m. IsRepresentable m.agent) c.nodes b m h.representable at in
    let old : Spreads P c = spreads-weaker (WasFiredOrTailed configs turns) P c (was-more configs turns turn) f.spreads in
    let fired : All P (fired_by turn.action turn.line.answer) = All-weaker (WasFired (turns ++ turn ∷ [])) P (λ e w. inl w) (fired_by turn.action turn.line.answer) (fires-now turns turn) in
    let both = spreads-applied lower P c b act m representable (tells-at configs c turns b act m h tells at) at old fired
    (λ keeping. tails-now configs turns turn (tailed-is configs b m.agent.config turn refl (settings-at configs c turns b m h at) keeping)) in
    let has : AllHave P o.done = both.1 in
    record {
      spreads = both.0;
      handed_out = at_each_push (OnlyFiredAt configs) turns turn f.handed_out (lines-have P b o.done.events has.events);
      carries = at_each_push (CarriesAt configs) turns turn f.carries has.packets;
    }

pub fired-step : Below → (configs : List Config) (r : Run) (action : Action) → CanTellIt configs action → IsAfter configs r.cluster r.turns → IsFired configs r.cluster r.turns → IsFired configs (after r action).cluster (after r action).turns
fired-step lower configs r (Inject bytes) tells h f =
    let c : Cluster = r.cluster in
    let turn : Turn = (injects r.cluster bytes).turn in
    let P : TimedEntry EventBody → Type 0 = WasFiredOrTailed configs (r.turns ++ turn ∷ []) in
    let now : All P (flat_map events_in_packet (bytes ∷ [])) = All-weaker (WasFired (r.turns ++ turn ∷ [])) P (λ e w. inl w) (flat_map events_in_packet (bytes ∷ [])) (forges-now r.turns turn) in
    let carry : All (Carries P) (bytes ∷ []) = parts-carry P (bytes ∷ []) now in
    record {
      spreads = spreads-injected P c bytes (spreads-weaker (WasFiredOrTailed configs r.turns) P c (was-more configs r.turns turn) f.spreads) (All-head (Carries P) bytes [] carry);
      handed_out = at_each_push (OnlyFiredAt configs) r.turns turn f.handed_out (All-nil (λ e. P (event_in e)));
      carries = at_each_push (CarriesAt configs) r.turns turn f.carries carry;
    }
fired-step lower configs r (Of b act) tells h f = by (slice_get r.cluster.nodes b) refl
  where
    by : (n : Option IdealNode) → slice_get r.cluster.nodes b ≡ n → (let s = on_agent r.cluster b act n in IsFired configs s.cluster (r.turns ++ s.turn ∷ []))
    by None at =
        let turn : Turn = (on_agent r.cluster b act None).turn in
        let P : TimedEntry EventBody → Type 0 = WasFiredOrTailed configs (r.turns ++ turn ∷ []) in
        record {
          spreads = spreads-weaker (WasFiredOrTailed configs r.turns) P r.cluster (was-more configs r.turns turn) f.spreads;
          handed_out = at_each_push (OnlyFiredAt configs) r.turns turn f.handed_out (All-nil (λ e. P (event_in e)));
          carries = at_each_push (CarriesAt configs) r.turns turn f.carries (All-nil (Carries P));
        }
    by (Some m) at = fired-acts lower configs r.cluster r.turns b act m h tells f at

pub fired-start : Below → (configs : List Config) → IsFired configs (start configs).cluster []
fired-start lower configs = record { spreads = spreads-start lower (WasFiredOrTailed configs []) configs; handed_out = at_each_nil (OnlyFiredAt configs); carries = at_each_nil (CarriesAt configs) }

-- ---- if no agent keeps its events

pub in-none : {X : Type 0} (x : X) → Contains [] x → ⊥
in-none x h = absurd (let lt = h.1 in omega arith)

pub was-fired : (configs : List Config) (turns : List Turn) (e : TimedEntry EventBody) → NoneKeeps configs → WasFiredOrTailed configs turns e → WasFired turns e
was-fired configs turns e none (inl h) = h
was-fired configs turns e none (inr h) = absurd (in-none e (subst (λ (l : List (TimedEntry EventBody)). Contains l e) (no-tails configs turns none) h))

pub fired-alone : (configs : List Config) (turns : List Turn) → NoneKeeps configs → OnlyFiredOrTailed configs turns → OnlyFired turns
fired-alone configs turns none h before turn rest is =
    All-weaker (λ e. WasFiredOrTailed configs (before ++ turn ∷ []) (event_in e)) (λ e. WasFired (before ++ turn ∷ []) (event_in e)) (λ e w. was-fired configs (before ++ turn ∷ []) (event_in e) none w) turn.line.events (h before turn rest is)

pub carries-alone : (configs : List Config) (turns : List Turn) → NoneKeeps configs → CarriesOnlyFiredOrTailed configs turns → CarriesOnlyFired turns
carries-alone configs turns none h before turn rest is =
    let W : TimedEntry EventBody → Type 0 = WasFired (before ++ turn ∷ []) in
    let T : TimedEntry EventBody → Type 0 = WasFiredOrTailed configs (before ++ turn ∷ []) in
    All-weaker (Carries T) (Carries W) (λ p all. All-weaker T W (λ e w. was-fired configs (before ++ turn ∷ []) e none w) (events_in_packet p) all) turn.packets (h before turn rest is)
