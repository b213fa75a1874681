use Rattle.serf_agent.proofs.Names.{List, [], ap, subst, sym, ℕ, ◌++◌, ◌<◌, ◌∙◌, ◌∷◌, OpenQuery}
use Rattle.std.proofs.Common.{All}
use Rattle.serf_agent.proofs.OpenQueryLaws.{insert-later}
use Rattle.serf_agent.proofs.open_queries.OpenQueries.push.Goals as goal

pub returns-in-Ok-clause-ok : goal.returns-in-Ok-clause-ok
returns-in-Ok-clause-ok c =
    c.in-Ok.ensures.entries ∙ insert-later c.self.inside.queries.entries c.args.time c.args.query (subst (λ (l : List (ℕ × OpenQuery)). All (λ q. q.0 < c.args.time) l) (sym c.self.view_is) c.requires)
    ∙ ap (λ (l : List (ℕ × OpenQuery)). l ++ (c.args.time, c.args.query) ∷ []) c.self.view_is
