use Rattle.serf_write.proofs.Names.{length, ◌≡◌, slice_split, ◌==◌, text_from, text_within}
use Rattle.serf_write.proofs.token.text.Given as goal

-- the text so far, and after it the remaining parts, make up the result
abbrev pub invariant-parts : goal.invariant-parts
invariant-parts l = text_from l.text.items (slice_split (λ b. b == 92) l.rest) ≡ text_within l.fn.quoted

abbrev pub decreases-parts : goal.decreases-parts
decreases-parts l = length l.rest
