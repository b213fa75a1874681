-- The numbers of `enum serf_agent_code` in include/serf_agent.h, and the code of each error.
use Rattle.std.specs.Prelude.{ℕ}
use Rattle.serf_snapshot.specs.declared.snapshot.AppendLineError.{AppendLineError}
use Rattle.serf_snapshot.specs.declared.snapshot.AppendLineError.TheVariants as notes
use Rattle.serf_agent.specs.declared.outcome.OpenError.{OpenError}
use Rattle.serf_agent.specs.declared.outcome.OpenError.TheVariants as opens
use Rattle.serf_agent.specs.declared.outcome.FireError.{FireError}
use Rattle.serf_agent.specs.declared.outcome.FireError.TheVariants as fires
use Rattle.serf_agent.specs.declared.outcome.ReceiveError.{ReceiveError}
use Rattle.serf_agent.specs.declared.outcome.ReceiveError.TheVariants as receives
use Rattle.serf_agent.specs.declared.outcome.QueryError.{QueryError}
use Rattle.serf_agent.specs.declared.outcome.QueryError.TheVariants as queries
use Rattle.serf_agent.specs.declared.outcome.MergeError.{MergeError}
use Rattle.serf_agent.specs.declared.outcome.MergeError.TheVariants as merges
use Rattle.serf_agent.specs.declared.outcome.PushPullError.{PushPullError}
use Rattle.serf_agent.specs.declared.outcome.PushPullError.TheVariants as states
use Rattle.serf_agent.specs.declared.outcome.RespondError.{RespondError}
use Rattle.serf_agent.specs.declared.outcome.RespondError.TheVariants as responds
use Rattle.serf_agent_c.specs.declared.code.Code.{Code}
use Rattle.serf_agent_c.specs.declared.code.Code.TheVariants.{Done, Empty, InUse, Pending, Nothing, OutOfMemory, BadConfig, SinkError, Stopped, TooLarge, Exhausted, NoMessage, RespondersFull, NotPushPull, TooLong, NoTime, PastDeadline, NotPending}

abbrev pub number_of : Code → ℕ
number_of Done = 0
number_of Empty = 1
number_of InUse = 2
number_of Pending = 3
number_of Nothing = 4
number_of OutOfMemory = 5
number_of BadConfig = 6
number_of SinkError = 7
number_of Stopped = 8
number_of TooLarge = 9
number_of Exhausted = 10
number_of NoMessage = 11
number_of RespondersFull = 12
number_of NotPushPull = 13
number_of TooLong = 14
number_of NoTime = 15
number_of PastDeadline = 16
number_of NotPending = 17

abbrev pub open_code : OpenError → Code
open_code opens.BadConfig = BadConfig
open_code opens.OutOfMemory = OutOfMemory
open_code opens.SinkError = SinkError

abbrev pub fire_code : FireError → Code
fire_code fires.Stopped = Stopped
fire_code fires.TooLarge = TooLarge
fire_code fires.Exhausted = Exhausted
fire_code fires.OutOfMemory = OutOfMemory
fire_code fires.SinkError = SinkError

abbrev pub receive_code : ReceiveError → Code
receive_code receives.Stopped = Stopped
receive_code (receives.Wire f) = NoMessage
receive_code receives.RespondersFull = RespondersFull
receive_code receives.OutOfMemory = OutOfMemory
receive_code receives.SinkError = SinkError

abbrev pub query_code : QueryError → Code
query_code queries.Stopped = Stopped
query_code queries.TooLarge = TooLarge
query_code queries.ZeroTimeout = NoTime
query_code queries.Exhausted = Exhausted
query_code queries.OutOfMemory = OutOfMemory
query_code queries.SinkError = SinkError

abbrev pub merge_code : MergeError → Code
merge_code merges.Stopped = Stopped
merge_code (merges.Wire f) = NoMessage
merge_code merges.NotPushPull = NotPushPull
merge_code merges.OutOfMemory = OutOfMemory
merge_code merges.SinkError = SinkError

abbrev pub state_code : PushPullError → Code
state_code states.Stopped = Stopped
state_code states.TooLong = TooLong
state_code states.OutOfMemory = OutOfMemory

abbrev pub respond_code : RespondError → Code
respond_code responds.PastDeadline = PastDeadline
respond_code responds.TooLarge = TooLarge
respond_code responds.OutOfMemory = OutOfMemory

abbrev pub append_line_code : AppendLineError → Code
append_line_code notes.Stopped = Stopped
append_line_code notes.OutOfMemory = OutOfMemory
append_line_code notes.SinkError = SinkError
