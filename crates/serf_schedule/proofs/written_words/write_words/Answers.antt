use Rattle.serf_schedule.proofs.TextNames.{◌≡◌, ◌++◌, ◌∙◌, ap, arith, take, common_steps}
use Rattle.serf_schedule.proofs.Names.{word_text}
use Rattle.serf_schedule.proofs.LineLemmas.{spaced-map}
use Rattle.serf_schedule.proofs.written_words.write_words.Goals as goal

pub returns : goal.returns
returns c =
    let whole : take c.loop-word.word-index c.args.words.now ≡ c.args.words.now = grind (arith, common_steps) in
    rw whole at c.loop-word.invariant ∙ ap (λ text. c.args.out.now.items ++ text) (spaced-map word_text c.args.words.now)
