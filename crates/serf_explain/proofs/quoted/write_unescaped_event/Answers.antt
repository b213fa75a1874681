use Rattle.serf_explain.proofs.Names.{List, ap, append_assoc, codes, decimal, ℕ, ◌++◌, ◌∙◌, on_ok_weaker, standing_texts}
use Rattle.serf_explain.proofs.StandingLaws.{standing-words}
use Rattle.serf_explain.proofs.quoted.write_unescaped_event.Goals as goal

pub returns : goal.returns
returns c =
    let old : List ℕ = c.args.out.now.items in
    let texts : List ℕ = standing_texts c.args.name.now c.args.payload.now in
    on_ok_weaker c.write_standing_texts.result
    (λ is. is
    ∙ ap (λ (t : List ℕ). t ++ texts) (c.in_ok-say.ensures ∙ append_assoc old (codes "event ") (decimal c.args.time))
    ∙ append_assoc old (codes "event " ++ decimal c.args.time) texts
    ∙ ap (λ (t : List ℕ). old ++ t) (standing-words c.args.time c.args.name.now c.args.payload.now c.requires.name c.requires.payload))
    c.write_standing_texts.ensures
