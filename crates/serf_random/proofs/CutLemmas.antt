-- What is kept, while it grows action by action.
use Rattle.serf_random.proofs.Names.{All, Bool, List, [], ap, false, refl, subst, sym, true, ℕ, ◌&&◌, ◌++◌, ◌∙◌, ◌∷◌, ◌≡◌, flat_map_more, All-push, fold-append, flat_map, None, Option, Some, slice_get, Config, Cluster, IdealNode, Run, after, on_agent, run_of, start, step, acts_commonly, is_common_line, settings_of, AreRepresentable, actor_of, Action, Inject, Of, Line, IsViewed, TakesStep, WorldState, IsSayable, action_text, IsCommon, AddsLine, AddsNothing, AreKept, GoesOn, IsAlong, MayAdd}

-- A turn has the action that was done.
turn-action : (c : Cluster) (action : Action) → (step c action).turn.action ≡ action
turn-action c (Inject bytes) = refl
turn-action c (Of a act) = by (slice_get c.nodes a)
  where
    by : (m : Option IdealNode) → (on_agent c a act m).turn.action ≡ Of a act
    by None = refl
    by (Some m) = refl

-- The turn of an action and its line is common.
abbrev pub IsCommonTurn : List Config → Action → Line → Type 0
IsCommonTurn configs action line = (is_common_line line && acts_commonly (settings_of configs (actor_of action)) action) ≡ true

-- So is the turn of a step.
common-step : (configs : List Config) (c : Cluster) (action : Action) (line : Line) → line ≡ (step c action).turn.line
    → IsCommonTurn configs action line → IsCommon configs (step c action).turn
common-step configs c action line is common =
    subst (λ (l : Line). IsCommonTurn configs (step c action).turn.action l) is
    (subst (λ (a : Action). IsCommonTurn configs a line) (sym (turn-action c action)) common)

more-kept : (configs : List Config) (first old new : List ℕ) (before following : List Action) (action : Action) (line : Line) (w v : WorldState)
    → IsAlong configs first old before w → IsSayable action → IsCommonTurn configs action line
    → TakesStep (step (run_of configs before).cluster action) v line → AddsLine action old new before following → IsAlong configs first new following v
more-kept configs first old new before following action line w v h sayable common took adds =
    let r : Run = run_of configs before in
    let grown : run_of configs following ≡ after r action = ap (run_of configs) adds.actions_are ∙ fold-append after (start configs) before (action ∷ []) in
    record {
      kept = record {
        common = subst (λ (q : Run). All (IsCommon configs) q.turns) (sym grown)
            (All-push (IsCommon configs) r.turns (step r.cluster action).turn h.kept.common (common-step configs r.cluster action line took.line_is common));
        sayable = subst (All IsSayable) (sym adds.actions_are) (All-push IsSayable before action h.kept.sayable sayable);
        text_is = adds.text_is ∙ ap (λ t. t ++ action_text action) h.kept.text_is ∙ flat_map_more action_text first before action
            ∙ ap (λ l. first ++ flat_map action_text l) (sym adds.actions_are);
        short = λ s. adds.short;
      };
      view = subst (λ (q : Run). IsViewed q.cluster v) (sym grown) took.view;
      representable = subst (λ (q : Run). AreRepresentable q.cluster) (sym grown) took.representable;
    }

same-kept : (configs : List Config) (first old new : List ℕ) (before following : List Action) → AreKept configs first old before
    → AddsNothing old new before following → AreKept configs first new following
same-kept configs first old new before following h same =
    subst (λ l. AreKept configs first new l) (sym same.actions_are) (subst (λ t. AreKept configs first t before) (sym same.text_is) h)

-- An action with a common turn is kept, or nothing is.
pub may-keep : (configs : List Config) (first old new : List ℕ) (before following : List Action) (action : Action) (line : Line) (w v : WorldState)
    → IsAlong configs first old before w → IsSayable action → IsCommonTurn configs action line
    → TakesStep (step (run_of configs before).cluster action) v line → (added : Bool) → MayAdd added action old new before following
    → GoesOn added configs first new following v
may-keep configs first old new before following action line w v h sayable common took true adds =
    more-kept configs first old new before following action line w v h sayable common took adds
may-keep configs first old new before following action line w v h sayable common took false same =
    same-kept configs first old new before following h.kept same
