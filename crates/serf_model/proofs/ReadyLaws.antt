-- A representable agent, apart from its texts.
use Rattle.serf_model.proofs.Names.{◌-◌, ◌^◌, ◌≤◌, IdealAgent, IsConsistent, IsRepresentable}

pub record IsReady (i : IdealAgent) : Type 0 where
  pub consistent : IsConsistent i
  pub events : i.events.clock ≤ 2 ^ 64 - 1
  pub queries : i.queries.clock ≤ 2 ^ 64 - 1

pub ready : (i : IdealAgent) → IsRepresentable i → IsReady i
ready i g = record { consistent = g.consistent; events = g.events; queries = g.queries }
