use Rattle.serf_schedule.proofs.Names.{List, Option, [], ap, subst, sym, ◌++◌, ◌∙◌, ◌∷◌, ◌≡◌, Config, Action, Parsed, HasActed, IsStage, Acting}
use Rattle.serf_schedule.proofs.run.do_action.Goals as goal

pub returns-in_ok-begun-in-None : goal.returns-in_ok-begun-in-None
returns-in_ok-begun-in-None g c = λ options said front is.
    let stage = subst (λ (o : Option Acting). IsStage (g.T.Turns.told options) c.args.agents.now o c.args.reporter.now said (front ++ c.args.text.now.items)) c.in-None.is is in
    let roster = c.replace-roster.result in
    let action : Action = c.args.action.now in
    let held : said.configs ≡ roster = stage.0 ∙ sym c.replace-roster.ensures.value in
    let begun = c.in_ok-begun-in-None.ensures options front (stage.2 roster) in
    let one : record { configs = roster; actions = action ∷ [] } ≡ record { configs = said.configs; actions = said.actions ++ action ∷ [] } =
    ap (λ (configs : List Config). let p : Parsed = record { configs = configs; actions = action ∷ [] } in p) (sym held)
    ∙ ap (λ (actions : List Action). let p : Parsed = record { configs = said.configs; actions = actions ++ action ∷ [] } in p) (sym stage.1) in
    subst (λ (p : Parsed). HasActed (g.T.Turns.told options) p c.in_ok-begun-in-None.begun c.begin.new.reporter (front ++ c.begin.new.text.items)) one begun
