-- The agents of a world, one after another.
use Rattle.serf_run_json.proofs.Names.{List, None, codes, Option, Some, [], add-one, ap, drop, refl, sym, zero, ℕ, ◌+◌, ◌∙◌, ◌∷◌, ◌≡◌, drop-cons, get_or_from_slice_get, option_map, slice_get, slice_get-map, slice_get_within, suc, Config, ConcreteState, NodeState, WorldState, agent_at, agent_text, joined, name_text, number_member, settings_of}

-- the settings of the agent with this number
pub settings-at : (w : WorldState) (a : ℕ) → slice_get (settings_of w) a ≡ option_map (λ (s : ConcreteState). s.config) (agent_at w a)
settings-at w a = slice_get-map (λ (s : NodeState). s.concrete.config) w.nodes a ∙ by (slice_get w.nodes a)
  where
    by : (o : Option NodeState) → option_map (λ (s : NodeState). s.concrete.config) o ≡ option_map (λ (s : ConcreteState). s.config) (option_map (λ (s : NodeState). s.concrete) o)
    by None = refl
    by (Some s) = refl

-- the members of an agent that the world has, or hasn't
pub agent-known : (w : WorldState) (a : ℕ) (o : Option ConcreteState) → o ≡ agent_at w a
    → joined (number_member (codes "agent") a ∷ name_text (option_map (λ (s : ConcreteState). s.config) o) ∷ []) ≡ agent_text (settings_of w) a
unfolding agent_text
agent-known w a o is =
    ap (λ (c : Option Config). joined (number_member (codes "agent") a ∷ name_text c ∷ []))
    (ap (λ (x : Option ConcreteState). option_map (λ (s : ConcreteState). s.config) x) is ∙ sym (settings-at w a))

-- the agents from one of them on
pub some-left : {X : Type 0} (xs : List X) (n : ℕ) (x : X) → slice_get xs n ≡ Some x → drop n xs ≡ x ∷ drop (n + 1) xs
some-left xs n x at =
    drop-cons xs n x (slice_get_within xs n x at)
    ∙ ap (λ y. y ∷ drop (suc n) xs) (get_or_from_slice_get xs n x x at)
    ∙ ap (λ m. x ∷ drop m xs) (sym (add-one n))

-- there are none from this number on
pub none-left : {X : Type 0} (xs : List X) (n : ℕ) → slice_get xs n ≡ None → drop n xs ≡ []
none-left [] zero at = refl
none-left [] (suc n) at = refl
none-left (x ∷ xs) zero at = absurd (cc (at))
none-left (x ∷ xs) (suc n) at = none-left xs n at
