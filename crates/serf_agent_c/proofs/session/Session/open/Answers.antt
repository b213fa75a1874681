use Rattle.serf_agent_c.proofs.Names.{List, subst, sym, ℕ, ◌≡◌, Device, fresh_device, opened, IdealAgent, with_config, HasPast, restarted, IsSound, ConcreteState, view_of, Config, config_of}
use Rattle.serf_agent_c.proofs.session.Session.open.Goals as goal

-- what is stored of an agent that resumes from a text, over a device
abbrev Stored : ConcreteState → List ℕ → IdealAgent → Config → Device → Type 0
Stored a text i config d = (a ≡ view_of (restarted text (opened text d) (with_config config i))) × IsSound (restarted text (opened text d) (with_config config i))

stored-same : (a : ConcreteState) (text : List ℕ) (i : IdealAgent) (config other : Config) (d e : Device) → config ≡ other → d ≡ e → Stored a text i config d → Stored a text i other e
stored-same a text i config other d e same there h = subst (λ (c : Config). Stored a text i c e) same (subst (λ (x : Device). Stored a text i config x) there h)

pub returns-in-Ok-open-clause-goes_on : goal.returns-in-Ok-open-clause-goes_on
returns-in-Ok-open-clause-goes_on c = λ i sound past.
    let text = c.args.text.now in
    let same : HasPast c.in-Ok.config i text = subst (λ (config : Config). HasPast config i text) (sym c.in-Ok.ensures) past in
    stored-same c.in-Ok-open.agent.concrete text i c.in-Ok.config (config_of c.args.name.now c.args.settings.now) c.in-Ok-with.sink.device (fresh_device text) c.in-Ok.ensures c.in-Ok-with.ensures (c.in-Ok-open.ensures.restarted i sound same)
