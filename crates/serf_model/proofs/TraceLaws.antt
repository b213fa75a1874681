-- The turns of a run are read off its actions and its trace.
use Rattle.serf_model.proofs.Names.{List, None, [], ap, append_assoc, drop, length, length-append, map, refl, suc, sym, take, ℕ, ◌++◌, ◌+◌, ◌∙◌, ◌∷◌, ◌≡◌, append-nil, map-append, fold, Cluster, Run, after, applied, apply, injects, numbers_from, on_agent, step, trace_of, AtEach, Turn, packet_given, sent_in, turns_from, turns_of, Action}
use Rattle.serf_model.proofs.StepCases.{step-cases}
use Rattle.serf_model.proofs.TurnLaws.{at_each_nil, at_each_push, flat_map-push}
use Rattle.serf_model.proofs.RunLaws.{turn-action, turn-given}

take-front : {X : Type 0} (xs ys : List X) → take (length xs) (xs ++ ys) ≡ xs
take-front [] ys = refl
take-front (x ∷ xs) ys = ap (λ l. x ∷ l) (take-front xs ys)

drop-front : {X : Type 0} (xs ys : List X) → drop (length xs) (xs ++ ys) ≡ ys
drop-front [] ys = refl
drop-front (x ∷ xs) ys = drop-front xs ys

length-numbers : (n : ℕ) (packets : List (List ℕ)) → length (numbers_from n packets) ≡ length packets
length-numbers n [] = refl
length-numbers n (p ∷ ps) = ap (λ k. suc k) (length-numbers (n + 1) ps)

-- what a turn shows of itself
pub record IsRead (before : List Turn) (turn : Turn) : Type 0 where
  pub given : turn.given ≡ packet_given (sent_in before) turn.action
  pub count : length turn.line.sent ≡ length turn.packets

reads-from : (before ts : List Turn) (more : List Action) → ((b : List Turn) (t : Turn) (r : List Turn) → before ++ ts ≡ b ++ t ∷ r → IsRead b t)
    → turns_from (length (sent_in before)) (sent_in before ++ sent_in ts) (map (λ t. t.action) ts ++ more) (map (λ t. t.line) ts) ≡ ts
reads-from before [] [] all = refl
reads-from before [] (action ∷ more) all = refl
reads-from before (t ∷ ts) more all =
    let here : IsRead before t = all before t ts refl in
    let next : before ++ t ∷ [] ++ ts ≡ before ++ t ∷ ts = append_assoc before (t ∷ []) ts in
    let rest = reads-from (before ++ t ∷ []) ts more (λ b u r e. all b u r (sym next ∙ e)) in
    let pushed : sent_in (before ++ t ∷ []) ≡ sent_in before ++ t.packets = flat_map-push (λ (t : Turn). t.packets) before t in
    let n : length (sent_in before) + length t.line.sent ≡ length (sent_in (before ++ t ∷ [])) =
    ap (λ k. length (sent_in before) + k) here.count ∙ sym (ap length pushed ∙ length-append (sent_in before) t.packets) in
    let sent : sent_in before ++ (t.packets ++ sent_in ts) ≡ sent_in (before ++ t ∷ []) ++ sent_in ts =
    sym (append_assoc (sent_in before) t.packets (sent_in ts)) ∙ ap (λ l. l ++ sent_in ts) (sym pushed) in
    let head : record { action = t.action; line = t.line; given = packet_given (take (length (sent_in before)) (sent_in before ++ (t.packets ++ sent_in ts))) t.action; packets = take (length t.line.sent) (drop (length (sent_in before)) (sent_in before ++ (t.packets ++ sent_in ts))) } ≡ t =
    λ k. record {
      action = t.action;
      line = t.line;
      given = (ap (λ l. packet_given l t.action) (take-front (sent_in before) (t.packets ++ sent_in ts)) ∙ sym here.given) k;
      packets = (ap (take (length t.line.sent)) (drop-front (sent_in before) (t.packets ++ sent_in ts)) ∙ ap (λ m. take m (t.packets ++ sent_in ts)) here.count ∙ take-front t.packets (sent_in ts)) k;
    } in
    let tail : turns_from (length (sent_in before) + length t.line.sent) (sent_in before ++ (t.packets ++ sent_in ts)) (map (λ t. t.action) ts ++ more) (map (λ t. t.line) ts) ≡ ts =
    ap (λ m. turns_from m (sent_in before ++ (t.packets ++ sent_in ts)) (map (λ (t : Turn). t.action) ts ++ more) (map (λ (t : Turn). t.line) ts)) n
    ∙ ap (λ l. turns_from (length (sent_in (before ++ t ∷ []))) l (map (λ (t : Turn). t.action) ts ++ more) (map (λ (t : Turn). t.line) ts)) sent ∙ rest in
    ap (λ (x : Turn). x ∷ turns_from (length (sent_in before) + length t.line.sent) (sent_in before ++ (t.packets ++ sent_in ts)) (map (λ t. t.action) ts ++ more) (map (λ t. t.line) ts)) head ∙ ap (λ l. t ∷ l) tail

-- ---- a run's turns

count-step : (c : Cluster) (action : Action) → length (step c action).turn.line.sent ≡ length (step c action).turn.packets
count-step c action =
    step-cases (λ s. length s.turn.line.sent ≡ length s.turn.packets) c action (λ bytes. refl) (λ b act at. refl) (λ b act m is at. length-numbers (length c.sent) (apply m c.sent act).done.packets)

sent-more : {sent new : List (List ℕ)} (turns : List Turn) (turn : Turn) → new ≡ sent ++ turn.packets → sent ≡ sent_in turns → new ≡ sent_in (turns ++ turn ∷ [])
sent-more {sent} {new} turns turn is h = is ∙ ap (λ l. l ++ turn.packets) h ∙ sym (flat_map-push (λ (t : Turn). t.packets) turns turn)

pub read-step : (r : Run) (action : Action) → r.cluster.sent ≡ sent_in r.turns → AtEach IsRead r.turns → AtEach IsRead (after r action).turns
read-step r action h all =
    at_each_push IsRead r.turns (step r.cluster action).turn all (record {
      given = turn-given r.cluster action ∙ ap (λ l. packet_given l action) h ∙ ap (packet_given (sent_in r.turns)) (sym (turn-action r.cluster action));
      count = count-step r.cluster action;
    })

-- what was sent is what the turns show
pub sent-step : (r : Run) (action : Action) → r.cluster.sent ≡ sent_in r.turns → (after r action).cluster.sent ≡ sent_in (after r action).turns
sent-step r action h =
    step-cases (λ s. s.cluster.sent ≡ sent_in (r.turns ++ s.turn ∷ [])) r.cluster action (λ bytes. sent-more r.turns (injects r.cluster bytes).turn refl h)
    (λ b act at. sent-more r.turns (on_agent r.cluster b act None).turn (sym (append-nil r.cluster.sent)) h) (λ b act m is at. sent-more r.turns (applied r.cluster b act (apply m r.cluster.sent act)).turn refl h)

pub read-start : AtEach IsRead []
read-start = at_each_nil IsRead

pub actions-step : (r : Run) (action : Action) → map (λ t. t.action) (after r action).turns ≡ map (λ t. t.action) r.turns ++ action ∷ []
actions-step r action = map-append (λ (t : Turn). t.action) r.turns _ ∙ ap (λ a. map (λ (t : Turn). t.action) r.turns ++ a ∷ []) (turn-action r.cluster action)

pub reads : (r : Run) (actions more : List Action) → r.cluster.sent ≡ sent_in r.turns → AtEach IsRead r.turns → map (λ t. t.action) r.turns ++ more ≡ actions → turns_of actions (trace_of r) ≡ r.turns
reads r actions more h all same =
    ap (λ (l : List Action). turns_from 0 r.cluster.sent l (map (λ (t : Turn). t.line) r.turns)) (sym same)
    ∙ ap (λ l. turns_from 0 l (map (λ (t : Turn). t.action) r.turns ++ more) (map (λ (t : Turn). t.line) r.turns)) h
    ∙ reads-from [] r.turns more all

-- a run's turns have the run's actions
pub actions-of : (r : Run) (actions : List Action) → map (λ t. t.action) (fold after r actions).turns ≡ map (λ t. t.action) r.turns ++ actions
actions-of r [] = sym (append-nil (map (λ (t : Turn). t.action) r.turns))
actions-of r (action ∷ actions) =
    actions-of (after r action) actions ∙ ap (λ l. l ++ actions) (actions-step r action) ∙ append_assoc (map (λ (t : Turn). t.action) r.turns) (action ∷ []) actions
