use Rattle.serf_run_json.proofs.Names.{List, None, Option, Some, ap, append-nil, append_assoc, drop, sym, ℕ, ◌++◌, ◌+◌, ◌∙◌, ◌≡◌, option_map, slice_get, Config, ConcreteState, agents_text, settings_object, settings_of}
use Rattle.serf_run_json.proofs.SettingLaws.{none-left, settings-at, some-left}
use Rattle.serf_run_json.proofs.states.write_agents.Goals as goal

pub returns-in_default : goal.returns-in_default
returns-in_default c =
    let w = c.args.world.now in
    let n : ℕ = c.loop-number.number in
    let out : List ℕ = c.loop-number.out.items in
    let none : slice_get (settings_of w) n ≡ None = settings-at w n ∙ ap (λ (o : Option ConcreteState). option_map (λ (s : ConcreteState). s.config) o) (sym c.in_default.ensures) in
    sym (append-nil out) ∙ ap (λ l. out ++ agents_text n l) (sym (none-left (settings_of w) n none)) ∙ c.loop-number.invariant

pub loop-number-preserved : goal.loop-number-preserved
loop-number-preserved c =
    let w = c.args.world.now in
    let n : ℕ = c.loop-number.number in
    let out : List ℕ = c.loop-number.out.items in
    let config : Config = c.in-Some.agent.now.concrete.config in
    let rest : List ℕ = agents_text (n + 1) (drop (n + 1) (settings_of w)) in
    let some : slice_get (settings_of w) n ≡ Some config = settings-at w n ∙ ap (λ (o : Option ConcreteState). option_map (λ (s : ConcreteState). s.config) o) (sym c.in-Some.ensures) in
    ap (λ t. t ++ rest) (c.in_ok-write_settings.ensures ∙ ap (λ k. out ++ settings_object n k) c.config.ensures.config)
    ∙ append_assoc out (settings_object n config) rest
    ∙ ap (λ l. out ++ agents_text n l) (sym (some-left (settings_of w) n config some))
    ∙ c.loop-number.invariant
