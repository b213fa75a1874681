use Rattle.serf_text.proofs.Names.{length, map, take, ◌++◌, ◌≡◌, ◌≤◌, words_of}
use Rattle.serf_text.proofs.words.split_words.Given as goal

-- the words so far, at most eight, followed by those of the rest
abbrev pub invariant-words : goal.invariant-words
invariant-words l = (map (λ w. w.now) (take l.count l.words) ++ words_of l.rest ≡ words_of l.fn.line)
    × (l.count ≤ 8) × (length l.words ≡ 8)

abbrev pub decreases-words : goal.decreases-words
decreases-words l = length l.rest
