-- A schedule and its text, while both grow step by step.
use Rattle.serf_random.proofs.Names.{List, [], ap, append_assoc, arith, length-append, sym, ℕ, ◌++◌, ◌+◌, ◌∙◌, ◌≡◌, ◌≤◌, append-nil, flat_map-append, All-append, All-nil, flat_map, Config, Action, IsSayable, action_text, agent_text, AddsActions, AddsAgents}

pub no_agents : (text : List ℕ) (agents : List Config) → AddsAgents text text agents agents
no_agents text agents = record { added = []; agents = sym (append-nil agents); text = sym (append-nil text); short = λ s. s }

pub more_agents : (a b c : List ℕ) (xs ys zs : List Config) → AddsAgents a b xs ys → AddsAgents b c ys zs → AddsAgents a c xs zs
more_agents a b c xs ys zs one two = record {
  added = one.added ++ two.added;
  agents = two.agents ∙ ap (λ l. l ++ two.added) one.agents ∙ append_assoc xs one.added two.added;
  text = two.text ∙ ap (λ t. t ++ flat_map agent_text two.added) one.text ∙ append_assoc a (flat_map agent_text one.added) (flat_map agent_text two.added)
      ∙ ap (λ t. a ++ t) (sym (flat_map-append agent_text one.added two.added));
  short = λ s. two.short (one.short s);
}

-- If there were no agents before, the agents that were added are all agents.
pub all_text : (old new : List ℕ) (agents : List Config) → AddsAgents old new [] agents → new ≡ old ++ flat_map agent_text agents
all_text old new agents adds = adds.text ∙ ap (λ l. old ++ flat_map agent_text l) (sym adds.agents)

pub no_actions : (n : ℕ) (text : List ℕ) (actions : List Action) → AddsActions n text text actions actions
no_actions n text actions = record {
  added = [];
  actions = sym (append-nil actions);
  text = sym (append-nil text);
  few = omega arith;
  sayable = All-nil IsSayable;
  short = λ s. s;
}

pub more_actions : (m n maximum : ℕ) (a b c : List ℕ) (xs ys zs : List Action) → m + n ≤ maximum → AddsActions m a b xs ys → AddsActions n b c ys zs
    → AddsActions maximum a c xs zs
more_actions m n maximum a b c xs ys zs few one two = record {
  added = one.added ++ two.added;
  actions = two.actions ∙ ap (λ l. l ++ two.added) one.actions ∙ append_assoc xs one.added two.added;
  text = two.text ∙ ap (λ t. t ++ flat_map action_text two.added) one.text
      ∙ append_assoc a (flat_map action_text one.added) (flat_map action_text two.added)
      ∙ ap (λ t. a ++ t) (sym (flat_map-append action_text one.added two.added));
  few = omega (arith, few, one.few, two.few, length-append one.added two.added);
  sayable = All-append IsSayable one.added two.added one.sayable two.sayable;
  short = λ s. two.short (one.short s);
}

-- A first text, followed by the agents' lines and the actions' lines.
pub whole_text : (comment a b c : List ℕ) (agents : List Config) (maximum : ℕ) (actions : List Action) → a ≡ comment → AddsAgents a b [] agents
    → AddsActions maximum b c [] actions → c ≡ comment ++ (flat_map agent_text agents ++ flat_map action_text actions)
whole_text comment a b c agents maximum actions is one two =
    two.text
    ∙ ap (λ t. t ++ flat_map action_text two.added) (one.text ∙ ap (λ t. t ++ flat_map agent_text one.added) is)
    ∙ append_assoc comment (flat_map agent_text one.added) (flat_map action_text two.added)
    ∙ ap (λ l. comment ++ (flat_map agent_text l ++ flat_map action_text two.added)) (sym one.agents)
    ∙ ap (λ l. comment ++ (flat_map agent_text agents ++ flat_map action_text l)) (sym two.actions)
