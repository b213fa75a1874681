-- What the lines of a schedule can express.
use Rattle.std.specs.Prelude.{◌≡◌, ℕ, pos, ◌<◌, ◌≤◌, ◌^◌, false, [], All}
use Rattle.hex.specs.Hex.{IsBytes}
use Rattle.serf_agent.specs.declared.config.Config.{Config}
use Rattle.serf_agent.specs.declared.outcome.QueryParams.{QueryParams}
use Rattle.serf_model.specs.declared.action.Act.{Act}
use Rattle.serf_model.specs.declared.action.Act.TheVariants as acts
use Rattle.serf_model.specs.declared.action.Action.{Action}
use Rattle.serf_model.specs.declared.action.Action.TheVariants as actions
use Rattle.serf_model.specs.declared.query.NewQuery.{NewQuery}

-- How a query can be fired: with a timeout that isn't negative and with filters, but with nothing about tags or about
-- the address to which answers go.
pub record AreSayable (params : QueryParams) : Type 0 where
  pub nanoseconds : ℕ
  pub timeout : params.timeout ≡ pos nanoseconds
  pub timeout_fits : nanoseconds < 2 ^ 63
  pub filters : All IsBytes params.filters
  pub tags_pass : params.tags_pass ≡ false
  pub addr : params.addr ≡ []
  pub port : params.port ≡ 0
  pub relay_factor : params.relay_factor ≡ 0

-- Each number fits into its type, each list consists of bytes, and the calls of a sink are counted from 1.

pub record IsQuerySayable (q : NewQuery) : Type 0 where
  pub moment : q.moment < 2 ^ 64
  pub id : q.id < 2 ^ 32
  pub name : IsBytes q.name
  pub payload : IsBytes q.payload
  pub params : AreSayable q.params

abbrev pub IsActSayable : Act → Type 0
IsActSayable (acts.Fire name payload coalesce) = IsBytes name × IsBytes payload
IsActSayable (acts.Deliver packet now) = (packet < 2 ^ 64) × (now < 2 ^ 64)
IsActSayable (acts.Merge packet join) = packet < 2 ^ 64
IsActSayable (acts.Query q) = IsQuerySayable q
IsActSayable (acts.Respond handed now payload) = (handed < 2 ^ 64) × (now < 2 ^ 64) × IsBytes payload
IsActSayable (acts.Restart tail) = IsBytes tail
IsActSayable (acts.Break call count) = (1 ≤ count) × (count < 2 ^ 64)
IsActSayable (acts.Close now) = now < 2 ^ 64
IsActSayable _ = Unit {0}

abbrev pub IsSayable : Action → Type 0
IsSayable (actions.Inject bytes) = IsBytes bytes
IsSayable (actions.Of agent act) = (agent < 2 ^ 64) × IsActSayable act

-- an agent whose name consists of bytes
abbrev pub HasByteName : Config → Type 0
HasByteName config = IsBytes config.name
