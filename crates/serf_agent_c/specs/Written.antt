-- What C reads of the members that a push/pull's packet names.
use Rattle.std.specs.Prelude.{◌≡◌, ◌≢◌, ◌++◌, ℕ, List, map, length, true, false, Option, Some, None, Result, Ok, Err}
use Rattle.std.specs.List.{flat_map}
use Rattle.serf_wire.specs.declared.error.WireError.{WireError}
use Rattle.serf_wire.specs.Lists.{status_left, texts_left}
use Rattle.serf_wire.specs.Message.{Message, push_pull}
use Rattle.serf_agent_c.specs.declared.code.Code.{Code}
use Rattle.serf_agent_c.specs.declared.code.Code.TheVariants.{Done, Nothing, OutOfMemory}
use Rattle.serf_agent_c.specs.declared.state_members.BorrowedMembers.{BorrowedMembers}
use Rattle.serf_agent_c.specs.declared.state_members.MemberHead.{MemberHead}
use Rattle.serf_agent_c.specs.declared.state_members.MembersHead.{MembersHead}

-- what a push/pull says about members: the sender's member clock, the status times, and the members that left
pub record Members : Type 0 where
  pub clock : ℕ
  pub status : List (List ℕ × ℕ)
  pub left : List (List ℕ)

-- the same, borrowed from its packet
abbrev pub members_borrowed : BorrowedMembers → Members
members_borrowed m = record { clock = m.clock; status = status_left m.status; left = texts_left m.left }

-- what a message says about members if it is a push/pull, and what a packet says
abbrev pub members_of : Message → Option Members
members_of (push_pull m) = Some record { clock = m.member_clock; status = m.status; left = m.left }
members_of _ = None

abbrev pub members_in : Result Message WireError → Option Members
members_in (Ok message) = members_of message
members_in (Err f) = None

-- a member with its status time, and one that left
abbrev pub status_head : List ℕ × ℕ → MemberHead
status_head p = record { status_time = p.1; name_len = length p.0; left = false }

abbrev pub left_head : List ℕ → MemberHead
left_head name = record { status_time = 0; name_len = length name; left = true }

-- the members: those with status times, in order, and then those that left
abbrev pub member_heads : Members → List MemberHead
member_heads m = map status_head m.status ++ map left_head m.left

-- their names, one after another
abbrev pub member_names : Members → List ℕ
member_names m = flat_map (λ p. p.0) m.status ++ flat_map (λ name. name) m.left

abbrev pub members_head : Members → MembersHead
members_head m = record { member_clock = m.clock; members = length (member_heads m); names_len = length (member_names m) }

-- C reads what a push/pull says, unless memory runs out. If the packet is not a push/pull, the code is Nothing.
abbrev pub ReadsMembers : Option Members → (Members → Type 0) → Code → Type 0
ReadsMembers None P code = code ≡ Nothing
ReadsMembers (Some m) P code = (code ≢ Done → code ≡ OutOfMemory) × (code ≡ Done → P m)
