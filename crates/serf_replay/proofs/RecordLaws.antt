-- The records after one more line.
use Rattle.serf_replay.proofs.Names.{List, [], ap, append_assoc, arith, length, sym, ℕ, ◌++◌, ◌+◌, ◌∙◌, ◌∷◌, ◌≡◌, Line, events_at, hand_outs_from, numbered_from}
use Rattle.std.proofs.Common.{append-nil}

pub numbered-push : (n m : ℕ) (lines : List Line) (line : Line) → m ≡ n + length lines + 1 → numbered_from n (lines ++ line ∷ []) ≡ numbered_from n lines ++ (line, m) ∷ []
numbered-push n m [] line is = let here : n + 1 ≡ m = omega arith in ap (λ (k : ℕ). (line, k) ∷ []) here
numbered-push n m (l ∷ ls) line is = ap (λ k. (l, n + 1) ∷ k) (numbered-push (n + 1) m ls line (omega arith))

pub handed-push : (n m : ℕ) (lines : List Line) (line : Line) → m ≡ n + length lines + 1 → hand_outs_from n (lines ++ line ∷ []) ≡ hand_outs_from n lines ++ events_at m line.events
handed-push n m [] line is = let here : n + 1 ≡ m = omega arith in append-nil (events_at (n + 1) line.events) ∙ ap (λ (k : ℕ). events_at k line.events) here
handed-push n m (l ∷ ls) line is =
    ap (λ k. events_at (n + 1) l.events ++ k) (handed-push (n + 1) m ls line (omega arith)) ∙ sym (append_assoc (events_at (n + 1) l.events) (hand_outs_from (n + 1) ls) (events_at m line.events))
