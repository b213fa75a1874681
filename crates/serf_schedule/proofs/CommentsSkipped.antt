-- The text of a schedule after a comment.
use Rattle.serf_schedule.proofs.TextNames.{◌≡◌, ◌+◌, ◌∙◌, ℕ, List, [], ◌∷◌, Ok, refl, ap, ◌==◌, slice_split, Parsed, after_line, after_lines}
use Rattle.serf_schedule.proofs.Names.{Err, at_line, CommentsAreSkipped}
use Rattle.serf_schedule.proofs.LinesBack.{body, line-off}

-- the number of a line matters only in errors
any-number : (n m : ℕ) (p q : Parsed) (lines : List (List ℕ)) → after_lines n p lines ≡ Ok q → after_lines m p lines ≡ Ok q
any-number n m p q [] h = h
any-number n m p q (line ∷ lines) h =
    (elim (after_line p line) as (λ r. at_line n r (λ after. after_lines (n + 1) after lines) ≡ Ok q → at_line m r (λ after. after_lines (m + 1) after lines) ≡ Ok q) [
      | Ok after ↦ λ e. any-number (n + 1) (m + 1) after q lines e
      | Err cause ↦ λ e. absurd (cc e)
    ]) h

skipped : (p : Parsed) (first : List ℕ) (words : List (List ℕ)) → after_line p (body ((35 ∷ first) ∷ words)) ≡ Ok p
unfolding after_line
skipped p first words = refl

pub comments-skipped : CommentsAreSkipped
comments-skipped first words text p plain back =
    let none : Parsed = record { configs = []; actions = [] } in
    ap (after_lines 1 none) (line-off ((35 ∷ first) ∷ words) text plain)
    ∙ ap (λ r. at_line 1 r (λ after. after_lines 2 after (slice_split (λ b. b == 10) text))) (skipped none first words)
    ∙ any-number 1 2 none p (slice_split (λ b. b == 10) text) back
