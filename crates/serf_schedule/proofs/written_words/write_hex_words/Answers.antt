use Rattle.serf_schedule.proofs.TextNames.{◌≡◌, ◌++◌, ◌∙◌, ap, arith, take, common_steps, hex_text}
use Rattle.serf_schedule.proofs.LineLemmas.{spaced-map}
use Rattle.serf_schedule.proofs.written_words.write_hex_words.Goals as goal

pub returns : goal.returns
returns c =
    let whole : take c.loop-list.list-index c.args.lists.now ≡ c.args.lists.now = grind (arith, common_steps) in
    rw whole at c.loop-list.invariant ∙ ap (λ text. c.args.out.now.items ++ text) (spaced-map hex_text c.args.lists.now)
