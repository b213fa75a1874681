-- The event clock of an agent that a world stores, and its minimum for events.
use Rattle.serf_draw.proofs.Names.{List, None, Option, Some, ap, refl, sym, ℕ, ◌∙◌, ◌≡◌, slice_get-map, option_map, slice_get, Cluster, IdealNode, IsViewed, NodeState, WorldState, agent_at, node_of, clock_in, min_in}

mapped : (o : Option IdealNode) → option_map (λ s. s.events.clock) (option_map (λ s. s.concrete) (option_map node_of o)) ≡ option_map (λ m. m.agent.events.clock) o
mapped None = refl
mapped (Some m) = refl

pub clock_viewed : (c : Cluster) (w : WorldState) (a : ℕ) → IsViewed c w → option_map (λ s. s.events.clock) (agent_at w a) ≡ clock_in c (Some a)
clock_viewed c w a h =
    ap (λ (ns : List NodeState). option_map (λ s. s.events.clock) (option_map (λ s. s.concrete) (slice_get ns a))) (sym h.nodes)
    ∙ ap (λ (o : Option NodeState). option_map (λ s. s.events.clock) (option_map (λ s. s.concrete) o)) (slice_get-map node_of c.nodes a)
    ∙ mapped (slice_get c.nodes a)

mapped-lowest : (o : Option IdealNode) → option_map (λ s. s.events.minimum) (option_map (λ s. s.concrete) (option_map node_of o)) ≡ option_map (λ m. m.agent.events.minimum) o
mapped-lowest None = refl
mapped-lowest (Some m) = refl

pub min_viewed : (c : Cluster) (w : WorldState) (a : ℕ) → IsViewed c w → option_map (λ s. s.events.minimum) (agent_at w a) ≡ min_in c (Some a)
min_viewed c w a h =
    ap (λ (ns : List NodeState). option_map (λ s. s.events.minimum) (option_map (λ s. s.concrete) (slice_get ns a))) (sym h.nodes)
    ∙ ap (λ (o : Option NodeState). option_map (λ s. s.events.minimum) (option_map (λ s. s.concrete) o)) (slice_get-map node_of c.nodes a)
    ∙ mapped-lowest (slice_get c.nodes a)
