use Rattle.std.proofs.Common.{List, subst, ℕ, ◌≡◌}
use Rattle.serf_snapshot.specs.Device.{Device, fresh_device}
use Rattle.serf_snapshot.specs.AppendsLine.{opened}
use Rattle.serf_agent.specs.declared.config.Config.{Config}
use Rattle.serf_agent.specs.Restart.{restarted, unopened}
use Rattle.serf_agent.specs.Sound.{IsSound}
use Rattle.serf_agent.specs.View.{ConcreteState, view_of}
use Rattle.serf_judge.proofs.handed_again.agent_on.Goals as goal

-- an agent was opened on a text, with these settings and on this device
abbrev pub IsOpenedOn : List ℕ → ConcreteState → Config → Device → Type 0
IsOpenedOn text a config d = let s = opened text d in (a ≡ view_of (restarted text s (unopened config s))) × IsSound (restarted text s (unopened config s))

pub returns-in-Ok : goal.returns-in-Ok
returns-in-Ok c =
    let text = c.args.text.now in
    let a = c.in-Ok.agent.concrete in
    subst (λ (config : Config). IsOpenedOn text a config (fresh_device text)) c.in_ok-config.ensures
    (subst (λ (d : Device). IsOpenedOn text a c.in_ok-config.config d) c.in_ok-sink.ensures c.in-Ok.ensures.first)
