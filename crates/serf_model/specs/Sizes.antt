-- The numbers that an action's fields can hold.
use Rattle.std.specs.Prelude.{◌≡◌, ℕ, ℤ, ◌<◌, ◌^◌, Some}
use Rattle.serf_wire.specs.Fields.{fits}
use Rattle.serf_model.specs.declared.action.Act.TheVariants as acts
use Rattle.serf_model.specs.declared.action.Action.{Action}
use Rattle.serf_model.specs.declared.action.Action.TheVariants as actions

-- The numbers of a query fit into their types: 32, 16 and 8 bits, and 64 bits with a sign.
pub record IsSized (id port relay_factor : ℕ) (timeout : ℤ) : Type 0 where
  pub id_fits : id < 2 ^ 32
  pub port_fits : port < 2 ^ 16
  pub relay_factor_fits : relay_factor < 2 ^ 8
  pub timeout_fits : fits timeout ≡ Some timeout

-- the numbers of an action fit into their types
abbrev pub HasSizes : Action → Type 0
HasSizes (actions.Of agent (acts.Query q)) = IsSized q.id q.params.port q.params.relay_factor q.params.timeout
HasSizes _ = Unit {0}
