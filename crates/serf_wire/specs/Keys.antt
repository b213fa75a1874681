-- The names of keys.
use Rattle.std.specs.Prelude.{ℕ, List, codes}
use Rattle.serf_wire.specs.declared.key.EventKey.{EventKey}
use Rattle.serf_wire.specs.declared.key.EventKey.TheVariants as event_keys
use Rattle.serf_wire.specs.declared.key.StateKey.{StateKey}
use Rattle.serf_wire.specs.declared.key.StateKey.TheVariants as state_keys

abbrev pub event_name : EventKey → List ℕ
event_name event_keys.Time = codes "LTime"
event_name event_keys.Name = codes "Name"
event_name event_keys.Payload = codes "Payload"
event_name event_keys.Cc = codes "CC"

abbrev pub state_name : StateKey → List ℕ
state_name state_keys.Time = codes "LTime"
state_name state_keys.StatusTimes = codes "StatusLTimes"
state_name state_keys.LeftMembers = codes "LeftMembers"
state_name state_keys.EventTime = codes "EventLTime"
state_name state_keys.Events = codes "Events"
state_name state_keys.QueryTime = codes "QueryLTime"
