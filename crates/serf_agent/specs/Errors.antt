-- Which error of an agent's call an error of its snapshot becomes.
use Rattle.serf_snapshot.specs.declared.snapshot.AppendLineError.{AppendLineError}
use Rattle.serf_snapshot.specs.declared.snapshot.AppendLineError.TheVariants as notes
use Rattle.serf_snapshot.specs.declared.snapshot.SealError.{SealError}
use Rattle.serf_snapshot.specs.declared.snapshot.SealError.TheVariants as seals
use Rattle.serf_agent.specs.declared.outcome.FireError.{FireError}
use Rattle.serf_agent.specs.declared.outcome.FireError.TheVariants as fires
use Rattle.serf_agent.specs.declared.outcome.QueryError.{QueryError}
use Rattle.serf_agent.specs.declared.outcome.QueryError.TheVariants as asks
use Rattle.serf_agent.specs.declared.outcome.ReceiveError.{ReceiveError}
use Rattle.serf_agent.specs.declared.outcome.ReceiveError.TheVariants as receives
use Rattle.serf_agent.specs.declared.outcome.MergeError.{MergeError}
use Rattle.serf_agent.specs.declared.outcome.MergeError.TheVariants as merges
use Rattle.serf_agent.specs.declared.outcome.OpenError.{OpenError}
use Rattle.serf_agent.specs.declared.outcome.OpenError.TheVariants as opens

abbrev pub fire_error_of : AppendLineError → FireError
fire_error_of notes.Stopped = fires.Stopped
fire_error_of notes.OutOfMemory = fires.OutOfMemory
fire_error_of notes.SinkError = fires.SinkError

abbrev pub query_error_of : AppendLineError → QueryError
query_error_of notes.Stopped = asks.Stopped
query_error_of notes.OutOfMemory = asks.OutOfMemory
query_error_of notes.SinkError = asks.SinkError

abbrev pub receive_error_of : AppendLineError → ReceiveError
receive_error_of notes.Stopped = receives.Stopped
receive_error_of notes.OutOfMemory = receives.OutOfMemory
receive_error_of notes.SinkError = receives.SinkError

abbrev pub merge_error_of : AppendLineError → MergeError
merge_error_of notes.Stopped = merges.Stopped
merge_error_of notes.OutOfMemory = merges.OutOfMemory
merge_error_of notes.SinkError = merges.SinkError

abbrev pub open_error_of : SealError → OpenError
open_error_of seals.OutOfMemory = opens.OutOfMemory
open_error_of seals.SinkError = opens.SinkError
