use Rattle.serf_draw.proofs.Names.{[], ap, append_assoc, arith, false, length, sym, ◌++◌, ◌==◌, ◌∙◌, ◌≡◌, common_steps, on_ok_weaker, if◌then◌else◌, below_words, nothing_of}
use Rattle.serf_draw.proofs.FilledLemmas.{nothing_filled}
use Rattle.serf_draw.proofs.label.write_passed_over.Goals as goal

pub returns : goal.returns
returns c =
    let out = c.args.out.now.items in
    let n = length c.args.times.now in
    let below = below_words c.args.times.now c.args.lowest in
    let some : (n == 0) ≡ false = grind (arith, common_steps) in
    on_ok_weaker c.write_below.result
    (λ is. is ∙ ap (λ t. t ++ below) (c.in_ok-write_template.ensures ∙ ap (λ t. out ++ t) (nothing_filled n)) ∙ append_assoc out (nothing_of n) below
    ∙ sym (ap (λ b. out ++ (if b then [] else nothing_of n ++ below)) some))
    c.write_below.ensures
