use Rattle.serf_schedule.proofs.TextNames.{◌≡◌, ◌++◌, take, flat_map}
use Rattle.serf_schedule.proofs.Names.{word_after}
use Rattle.serf_schedule.proofs.written_words.write_words.Given as goal

abbrev pub invariant-loop-word : goal.invariant-loop-word
invariant-loop-word l = l.out.items ≡ l.fn.out.items ++ flat_map word_after (take l.word-index l.words)
