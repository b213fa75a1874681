use Rattle.serf_judge.proofs.Names.{length, map, ◌++◌, ◌≡◌, words_of}
use Rattle.serf_judge.proofs.log.words_in.Given as goal

-- the words so far, followed by those of the rest
abbrev pub invariant-words : goal.invariant-words
invariant-words l = map (λ w. w.now) l.words.items ++ words_of l.rest ≡ words_of l.fn.line

abbrev pub decreases-words : goal.decreases-words
decreases-words l = length l.rest
