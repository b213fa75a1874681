-- What a session is between two calls, and what each call changes in it.
use Rattle.std.specs.Prelude.{◌≡◌, ◌&&◌, Bool, false, not, length}
use Rattle.serf_agent_c.specs.declared.session.Session.{Session}
use Rattle.serf_agent_c.specs.ResultParts.{handed_in, unsettled_in}
use Rattle.serf_agent_c.specs.Numbered.{Numbered, numbered, with_handed}
use Rattle.serf_agent_c.specs.Reads.{GivesNothing}
use Rattle.serf_agent_c.specs.Texts.{is_written, text_of}

-- whether the host's file has all of the agent's text, and no text is to replace it
abbrev pub is_ready : Session → Bool
is_ready s = not s.replaces && is_written s.agent.device s.written

-- the queries that were handed out and wait for an answer, by number, including the latest one
abbrev pub settled : Session → Numbered
settled s = with_handed (unsettled_in s.call_result) (numbered s.waiting)

-- A session after a call, and after the result of the call before was settled. The bytes after the earlier text are
-- pending for its file;
abbrev pub Appends : Session → Session → Type 0
Appends s t = (t.written ≡ length (text_of s.agent.device)) × (t.replaces ≡ false)

-- each query that was handed out keeps its number, and one that this call hands out has the next;
abbrev pub Numbers : Session → Session → Type 0
Numbers s t = settled t ≡ with_handed (handed_in t.call_result) (settled s)

-- the filters of the next query stay, and so do the members that the next state names;
abbrev pub KeepsFilters : Session → Session → Type 0
KeepsFilters s t = t.filters ≡ s.filters

abbrev pub KeepsMembers : Session → Session → Type 0
KeepsMembers s t = (t.status ≡ s.status) × (t.left ≡ s.left)

-- the outcomes of a burst that were not read yet keep waiting.
abbrev pub KeepsBurst : Session → Session → Type 0
KeepsBurst s t = t.burst.items ≡ s.burst.items

-- All of this holds.
pub record Settles (s t : Session) : Type 0 where
  pub text : Appends s t
  pub waiting : Numbers s t
  pub filters : KeepsFilters s t
  pub members : KeepsMembers s t
  pub burst : KeepsBurst s t

-- There is no result, and each query that was handed out keeps its number.
abbrev pub Rests : Session → Session → Type 0
Rests s t = GivesNothing t.call_result × (settled t ≡ settled s)
