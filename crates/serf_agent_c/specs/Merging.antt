-- What a session does with whole states, and with a compaction.
use Rattle.std.specs.Prelude.{map, ◌≡◌, ◌≢◌, ℕ, Bool, true, false, List, [], Option, Some, None, Ok}
use Rattle.serf_wire.specs.Decoded.{decoded}
use Rattle.serf_wire.specs.Message.{PushPull, push_pull}
use Rattle.serf_agent.specs.declared.outcome.MergeError.{MergeError}
use Rattle.serf_agent.specs.Ideal.{IdealAgent}
use Rattle.serf_agent.specs.Sound.{IsSound}
use Rattle.serf_agent.specs.States.{Merges, merge_refusal, send_state}
use Rattle.serf_agent.specs.View.{view_of}
use Rattle.serf_agent_c.specs.declared.code.Code.{Code}
use Rattle.serf_agent_c.specs.declared.code.Code.TheVariants.{Done, OutOfMemory}
use Rattle.serf_agent_c.specs.declared.call_result.CallResult.{CallResult}
use Rattle.serf_agent_c.specs.declared.call_result.CallResult.TheVariants.{Merged, State}
use Rattle.serf_agent_c.specs.declared.session.Session.{Session}
use Rattle.serf_agent_c.specs.Codes.{merge_code}
use Rattle.serf_agent_c.specs.ResultParts.{events_in}
use Rattle.serf_agent_c.specs.Members.{named}
use Rattle.serf_agent_c.specs.Sessions.{Appends, KeepsBurst, KeepsFilters, KeepsMembers, Numbers, Rests, is_ready}

abbrev pub merged_code : Option MergeError → Code
merged_code None = Done
merged_code (Some error) = merge_code error

-- if the last call was a merge: the error if not all of the push/pull was merged
abbrev pub error_of : CallResult → Option (Option MergeError)
error_of (Merged events error) = Some error
error_of _ = None

-- If C reads no merge, there was no memory to begin one, and nothing was done.
abbrev pub IsUnbegun : Session → Session → Code → Type 0
IsUnbegun s t code = is_ready s ≡ true → error_of t.call_result ≡ None → (code ≡ OutOfMemory) × (t.agent ≡ s.agent) × Rests s t

-- Otherwise the error determines the code. A packet that isn't merged changes nothing.
abbrev pub IsUnmerged : List ℕ → Session → Session → Code → Type 0
IsUnmerged packet s t code =
    is_ready s ≡ true → (error : Option MergeError) → error_of t.call_result ≡ Some error → (f : MergeError) → merge_refusal s.agent.concrete.snapshot (decoded packet) ≡ Some f
    → (code ≡ merge_code f) × (events_in t.call_result ≡ []) × (t.agent ≡ s.agent)

-- A sound agent merges any other one, either to its end or up to the event at which the error stopped it. C reads the
-- events that were handed out until then, and the sink has exactly their lines.
abbrev pub MergesFrom : List ℕ → Bool → Session → Session → Code → Type 0
MergesFrom packet is_join s t code =
    is_ready s ≡ true → (error : Option MergeError) → error_of t.call_result ≡ Some error
    → (code ≡ merged_code error)
    × ((i : IdealAgent) (m : PushPull) → IsSound i → s.agent.concrete ≡ view_of i → i.snapshot.stopped ≡ false → decoded packet ≡ Ok (push_pull m)
    → Merges i m is_join [] (events_in t.call_result) s.agent.device t.agent error)

-- The packet contains the agent's whole state, with the members that were named, and the agent is as before.
abbrev pub SendsState : Session → Session → Code → Type 0
SendsState s t code = is_ready s ≡ true → code ≢ OutOfMemory → (t.call_result ≡ State (send_state s.agent.concrete (map named s.status.items) s.left)) × (t.agent ≡ s.agent)

-- After a state was tried, the members are forgotten. If memory ran out, none was tried.
abbrev pub ForgetsMembers : Session → Session → Code → Type 0
ForgetsMembers s t code =
    is_ready s ≡ true → (code ≡ OutOfMemory → KeepsMembers s t) × (code ≢ OutOfMemory → (t.status.items ≡ []) × (t.left ≡ [])) × Appends s t × Numbers s t × KeepsFilters s t × KeepsBurst s t

-- After a compaction, the whole new text replaces the file's. Otherwise, what the call appended is pending for the
-- file.
abbrev pub Compacts : Session → Session → Code → Type 0
Compacts s t code =
    is_ready s ≡ true
    → (code ≡ Done → (t.written ≡ 0) × (t.replaces ≡ true))
    × (code ≢ Done → Appends s t)
    × Numbers s t × KeepsFilters s t × KeepsMembers s t × KeepsBurst s t

-- If memory runs out, a compaction doesn't change the agent or its text, and there is no result.
abbrev pub IsUncompacted : Session → Session → Code → Type 0
IsUncompacted s t code = code ≡ OutOfMemory → (t.agent.concrete ≡ s.agent.concrete) × (t.agent.device.observed_bytes ≡ s.agent.device.observed_bytes) × Rests s t
