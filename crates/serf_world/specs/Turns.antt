-- How the code takes an agent's turn. These definitions are private to the crate.
use Rattle.std.specs.Prelude.{◌≡◌, ◌++◌, ◌∷◌, ℕ, List, [], Option, Some, None, length, map}
use Rattle.std.specs.Option.{option_map, option_to_list}
use Rattle.serf_agent.specs.DeliveredQuery.{DeliveredQuery}
use Rattle.serf_agent.specs.Queries.{respond_error, response_packet}
use Rattle.serf_agent.specs.View.{view_of}
use Rattle.serf_agent.specs.declared.outcome.MergeError.{MergeError}
use Rattle.serf_agent.specs.declared.outcome.RespondError.{RespondError}
use Rattle.serf_model.specs.declared.line.Answer.{Answer}
use Rattle.serf_model.specs.declared.line.Answer.TheVariants as answers
use Rattle.serf_model.specs.declared.line.Line.{Line}
use Rattle.serf_model.specs.declared.line.Refusal.TheVariants.{NoQuery}
use Rattle.serf_model.specs.Cluster.{Applied, Done, event_line, handed_line, merge_refusal_of, numbers_from, refused, respond_refusal}
use Rattle.serf_world.specs.View.{NodeState}

-- A line shows the result of an action of the agent with this number. `before` and `after` are all packets of the
-- cluster before and after the action, and `old` and `new` are the queries that were handed to the agent until then.
pub record Shows (a : ℕ) (before after : List (List ℕ)) (old new : List (Option DeliveredQuery)) (d : Done) (line : Line) : Type 0 where
  pub packets : after ≡ before ++ d.packets
  pub kept : new ≡ old ++ map (λ q. Some q) (option_to_list d.handed)
  pub answer : line.answer ≡ d.answer
  pub sent : line.sent ≡ numbers_from (length before) d.packets
  pub events : line.events ≡ map (event_line a) d.events
  pub handed : line.handed ≡ option_map (handed_line a (length old)) d.handed

-- a node took the same turn as the ideal node
pub record TakesTurn (a : ℕ) (before after : List (List ℕ)) (o : Applied) (new : NodeState) (line : Line) : Type 0 where
  pub state : new.concrete ≡ view_of o.node.agent
  pub shows : Shows a before after o.node.handed new.handed o.done line

-- ---- answers and merges

-- the result of answering the query in a slot, and what is in the slot afterwards
abbrev pub answer_gives : Option RespondError → DeliveredQuery → List ℕ → Done
answer_gives (Some error) q payload = refused (respond_refusal error)
answer_gives None q payload = record { answer = answers.Replied; packets = response_packet q payload ∷ []; events = []; handed = None }

abbrev pub slot_gives : Option DeliveredQuery → ℕ → List ℕ → Done
slot_gives None now payload = refused NoQuery
slot_gives (Some q) now payload = answer_gives (respond_error q now payload) q payload

abbrev pub answer_after : Option RespondError → DeliveredQuery → Option DeliveredQuery
answer_after (Some error) q = Some q
answer_after None q = None

abbrev pub slot_after : Option DeliveredQuery → ℕ → List ℕ → Option DeliveredQuery
slot_after None now payload = None
slot_after (Some q) now payload = answer_after (respond_error q now payload) q

-- the answer to a merge
abbrev pub merge_answer : Option MergeError → Answer
merge_answer None = answers.Merged
merge_answer (Some error) = answers.Refused (merge_refusal_of error)
