use Rattle.serf_schedule.proofs.Names.{[], length, ◌+◌, ◌≡◌, ◌≤◌, words_of, filters_from}
use Rattle.serf_schedule.proofs.line.filters.Given as goal

-- the filters so far, and after them those of the remaining words, are the result
abbrev pub invariant-words : goal.invariant-words
invariant-words l = (filters_from l.filters l.place (words_of l.rest) ≡ filters_from [] 9 (words_of l.fn.text))
    × (l.place + length l.rest ≤ length l.fn.text + 9)

abbrev pub decreases-words : goal.decreases-words
decreases-words l = length l.rest
