-- An agent that a world stores is the view of a sound ideal agent; and what the lines of a merge into it are, by what
-- its packet contains.
use Rattle.serf_explain.proofs.Names.{Bool, Err, List, None, Ok, Option, Result, Some, [], ap, refl, subst, suc, sym, zero, ℕ, ◌∙◌, ◌∷◌, ◌≡◌, slice_get-map, AllByRecursion, option_map, slice_get, decoded, Message, PushPull, push_pull, WireError, IsSound, ConcreteState, view_of, Cluster, IdealNode, AreRepresentable, IsRepresentable, Act, Action, Line, IsViewed, NodeState, WorldState, agent_at, node_of, IsFound, Known, known_of, slot_entries_from, heard, AddsMerge, AddsState, TellsText}
use Rattle.serf_model.specs.declared.action.Act.TheVariants as acts
use Rattle.serf_model.specs.declared.action.Action.TheVariants as actions

mapped : (o : Option IdealNode) → option_map (λ s. s.concrete) (option_map node_of o) ≡ option_map (λ m. view_of m.agent) o
mapped None = refl
mapped (Some m) = refl

agent-viewed : (c : Cluster) (w : WorldState) (a : ℕ) → IsViewed c w → agent_at w a ≡ option_map (λ m. view_of m.agent) (slice_get c.nodes a)
agent-viewed c w a h =
    ap (λ (ns : List NodeState). option_map (λ s. s.concrete) (slice_get ns a)) (sym h.nodes)
    ∙ ap (λ (o : Option NodeState). option_map (λ s. s.concrete) o) (slice_get-map node_of c.nodes a)
    ∙ mapped (slice_get c.nodes a)

pub agent-is : (c : Cluster) (w : WorldState) (a : ℕ) (m : IdealNode) → IsViewed c w → slice_get c.nodes a ≡ Some m → agent_at w a ≡ Some (view_of m.agent)
agent-is c w a m h at = agent-viewed c w a h ∙ ap (λ (o : Option IdealNode). option_map (λ m. view_of m.agent) o) at

at-index : (ms : List IdealNode) (a : ℕ) (m : IdealNode) → AllByRecursion (λ m. IsRepresentable m.agent) ms → slice_get ms a ≡ Some m → IsSound m.agent
at-index [] a m h at = absurd (cc)
at-index (x ∷ xs) zero m h at = let same : x ≡ m = cc in subst (λ (y : IdealNode). IsSound y.agent) same h.0.consistent.sound
at-index (x ∷ xs) (suc a) m h at = at-index xs a m h.1 at

pub agent-sound : (c : Cluster) (a : ℕ) (m : IdealNode) → AreRepresentable c → slice_get c.nodes a ≡ Some m → IsSound m.agent
agent-sound c a m h at = at-index c.nodes a m h at

-- an agent that a world stores is one of the cluster
pub node-of : (c : Cluster) (w : WorldState) (a : ℕ) (s : ConcreteState) → IsViewed c w → agent_at w a ≡ Some s → (m : IdealNode) × (slice_get c.nodes a ≡ Some m) × (s ≡ view_of m.agent)
node-of c w a s h at = by (slice_get c.nodes a) refl
  where
    by : (o : Option IdealNode) → slice_get c.nodes a ≡ o → (m : IdealNode) × (slice_get c.nodes a ≡ Some m) × (s ≡ view_of m.agent)
    by None is =
        let none : Some s ≡ None = sym at ∙ agent-viewed c w a h ∙ ap (λ (o : Option IdealNode). option_map (λ m. view_of m.agent) o) is in
        absurd (cc none)
    by (Some m) is =
        let some : Some s ≡ Some (view_of m.agent) = sym at ∙ agent-viewed c w a h ∙ ap (λ (o : Option IdealNode). option_map (λ m. view_of m.agent) o) is in
        (m, is, cc some)

-- ---- the lines of a merge

module _ (n : ℕ) (lines : List Line) (before : List Cluster) (c : Cluster) (agent packet : ℕ) (join : Bool) (m : IdealNode) (raised : Option ℕ) (bytes new : List ℕ) (at : slice_get c.nodes agent ≡ Some m) (sent : slice_get c.sent packet ≡ Some bytes) where
  abbrev known : Known
  known = known_of agent lines before m.agent

  merges : (p : PushPull) → decoded bytes ≡ Ok (push_pull p) → AddsState known n (slot_entries_from 0 p.slots) m.agent (heard p join m.agent) raised [] new → TellsText n lines before c (actions.Of agent (acts.Merge packet join)) raised new
  merges p is adds = record {
    carried = adds.lines.added;
    text_is = adds.lines.new_is;
    tells = λ node given q here there reads.
        let one : m ≡ node = cc (sym at ∙ here) in
        let packets : bytes ≡ given = cc (sym sent ∙ there) in
        let same : p ≡ q = cc (sym is ∙ ap decoded packets ∙ reads) in
        subst (λ (x : IdealNode). IsFound raised (known_of agent lines before x.agent) (slot_entries_from 0 q.slots) x.agent (heard q join x.agent) adds.lines.added) one
        (subst (λ (r : PushPull). IsFound raised known (slot_entries_from 0 r.slots) m.agent (heard r join m.agent) adds.lines.added) same (adds.raises, adds.lines.carried));
  }

  nothing : ((p : PushPull) → decoded bytes ≡ Ok (push_pull p) → ⊥) → new ≡ [] → TellsText n lines before c (actions.Of agent (acts.Merge packet join)) raised new
  nothing other is = record {
    carried = [];
    text_is = is;
    tells = λ node given q here there reads.
        let packets : bytes ≡ given = cc (sym sent ∙ there) in
        absurd (other q (ap decoded packets ∙ reads));
  }

  -- the packet contains a state, or something else
  pub tells-merge : AddsMerge known n m.agent join (decoded bytes) raised [] new → TellsText n lines before c (actions.Of agent (acts.Merge packet join)) raised new
  tells-merge h = by (decoded bytes) refl h
    where
      by : (r : Result Message WireError) → decoded bytes ≡ r → AddsMerge known n m.agent join r raised [] new → TellsText n lines before c (actions.Of agent (acts.Merge packet join)) raised new
      by (Ok (push_pull p)) is adds = merges p is adds
      by (Ok _) is none = nothing (λ p e. let other = sym is ∙ e in cc other) none
      by (Err _) is none = nothing (λ p e. let other = sym is ∙ e in cc other) none

-- the same for an action that merges
pub told_of : (n : ℕ) (lines : List Line) (before : List Cluster) (c : Cluster) (action : Action) (agent : ℕ) (act : Act) (packet : ℕ) (join : Bool) (raised : Option ℕ) (text : List ℕ) → action ≡ actions.Of agent act → act ≡ acts.Merge packet join
    → TellsText n lines before c (actions.Of agent (acts.Merge packet join)) raised text → TellsText n lines before c action raised text
told_of n lines before c action agent act packet join raised text is merge told =
    subst (λ (a : Action). TellsText n lines before c a raised text) (sym is) (subst (λ (x : Act). TellsText n lines before c (actions.Of agent x) raised text) (sym merge) told)
