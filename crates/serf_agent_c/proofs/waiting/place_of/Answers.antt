use Rattle.serf_agent_c.proofs.Names.{rules, ◌∙◌, answers_always}
use Rattle.serf_agent_c.proofs.NumberedLaws.{searched}
use Rattle.serf_agent_c.proofs.waiting.place_of.Goals as goal

pub returns : goal.returns
returns c =
    let facts = c.binary_search_by_key.ensures in
    let by_key = facts.position (λ pair. pair.0) (answers_always _ _ _ (λ f a r g called. search rules)) in
    c.ok.ensures.value ∙ searched c.args.queries.now c.requires c.args.number c.binary_search_by_key.result facts.bound by_key
