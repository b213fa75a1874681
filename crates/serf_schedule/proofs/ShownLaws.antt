-- The text of a run's lines while its actions are done one after another.
use Rattle.serf_schedule.proofs.Names.{List, None, Option, Some, [], ap, append_assoc, arith, codes, decimal, length, length-append, refl, sym, ℕ, ◌++◌, ◌+◌, ◌<◌, ◌∙◌, ◌∷◌, ◌≡◌, ◌≤◌, append-nil, get_or_append_left, unwrap_or-slice_get, flat_map, option_to_list, slice_get, hex_text, Cluster, IdealNode, numbers_from, on_agent, step, Turn, Action, Inject, Of, Line, actions_text, answer_line, event_line, handed_line, numbered, packet_of, action_text, sent_line}

-- ---- packets that are sent later don't change a line

packet-kept : (sent more : List (List ℕ)) (k : ℕ) → k < length sent → packet_of (sent ++ more) k ≡ packet_of sent k
packet-kept sent more k h = unwrap_or-slice_get (sent ++ more) k [] ∙ get_or_append_left sent more [] k h ∙ sym (unwrap_or-slice_get sent k [])

line-kept : (sent more : List (List ℕ)) (n k : ℕ) → k < length sent → sent_line (sent ++ more) n k ≡ sent_line sent n k
unfolding sent_line
line-kept sent more n k h = ap (λ p. numbered n (codes "sent " ++ decimal k ++ codes " " ++ hex_text p)) (packet-kept sent more k h)

lines-kept : (sent more : List (List ℕ)) (n k : ℕ) (packets : List (List ℕ)) → k + length packets ≤ length sent
    → flat_map (sent_line (sent ++ more) n) (numbers_from k packets) ≡ flat_map (sent_line sent n) (numbers_from k packets)
lines-kept sent more n k [] h = refl
lines-kept sent more n k (p ∷ ps) h =
    ap (λ l. l ++ flat_map (sent_line (sent ++ more) n) (numbers_from (k + 1) ps)) (line-kept sent more n k (omega (arith, h)))
    ∙ ap (λ l. sent_line sent n k ++ l) (lines-kept sent more n (k + 1) ps (omega (arith, h)))

pub action-kept : (sent more : List (List ℕ)) (n k : ℕ) (line : Line) (packets : List (List ℕ)) → line.sent ≡ numbers_from k packets → k + length packets ≤ length sent
    → action_text (sent ++ more) n line ≡ action_text sent n line
unfolding action_text
action-kept sent more n k line packets is h =
    ap (λ l. answer_line n line.answer ++ l ++ flat_map (event_line n) line.events ++ flat_map (handed_line n) (option_to_list line.handed))
    (ap (λ ks. flat_map (sent_line (sent ++ more) n) ks) is ∙ lines-kept sent more n k packets h ∙ ap (λ ks. flat_map (sent_line sent n) ks) (sym is))

-- ---- one more line

pub actions-push : (sent : List (List ℕ)) (n : ℕ) (lines : List Line) (line : Line)
    → actions_text sent n (lines ++ line ∷ []) ≡ actions_text sent n lines ++ action_text sent (n + length lines) line
actions-push sent n [] line =
    let none : n ≡ n + 0 = omega arith in
    append-nil (action_text sent n line) ∙ ap (λ m. action_text sent m line) none
actions-push sent n (l ∷ ls) line =
    let later : n + 1 + length ls ≡ n + length (l ∷ ls) = omega arith in
    ap (λ t. action_text sent n l ++ t) (actions-push sent (n + 1) ls line ∙ ap (λ m. actions_text sent (n + 1) ls ++ action_text sent m line) later)
    ∙ sym (append_assoc (action_text sent n l) (actions_text sent (n + 1) ls) (action_text sent (n + length (l ∷ ls)) line))

-- ---- what a step sends

-- a step appends its packets to those that were sent before, and its line has their numbers
pub record Sends (c : Cluster) (action : Action) : Type 0 where
  pub sent : (step c action).cluster.sent ≡ c.sent ++ (step c action).turn.packets
  pub numbers : (step c action).turn.line.sent ≡ numbers_from (length c.sent) (step c action).turn.packets

pub sends : (c : Cluster) (action : Action) → Sends c action
sends c (Inject bytes) = record { sent = refl; numbers = refl }
sends c (Of a act) = record { sent = (at (slice_get c.nodes a)).0; numbers = (at (slice_get c.nodes a)).1 }
  where
    at : (m : Option IdealNode) → ((on_agent c a act m).cluster.sent ≡ c.sent ++ (on_agent c a act m).turn.packets)
        × ((on_agent c a act m).turn.line.sent ≡ numbers_from (length c.sent) (on_agent c a act m).turn.packets)
    at None = (sym (append-nil c.sent), refl)
    at (Some m) = (refl, refl)

-- packets that are sent after a step don't change its lines
pub line-stays : (c : Cluster) (action : Action) (n : ℕ) (more : List (List ℕ))
    → action_text ((step c action).cluster.sent ++ more) n (step c action).turn.line ≡ action_text (step c action).cluster.sent n (step c action).turn.line
line-stays c action n more =
    let turn : Turn = (step c action).turn in
    let did : Sends c action = sends c action in
    let within : length c.sent + length turn.packets ≤ length (step c action).cluster.sent = omega (arith, ap length did.sent, length-append c.sent turn.packets) in
    action-kept (step c action).cluster.sent more n (length c.sent) turn.line turn.packets did.numbers within
