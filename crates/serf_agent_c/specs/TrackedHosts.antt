-- What a host in C does that also tracks its handlers, over all its lives: it writes its own lines to its file, which say
-- what has begun and what is done (docs/HOST.md, "What was handed out and isn't done").
use Rattle.std.specs.Prelude.{◌≡◌, ℕ, ◌<◌, Bool, true, false, if◌then◌else◌, List, [], ◌∷◌, ◌++◌, map}
use Rattle.serf_lamport.specs.Clock.{max_clock}
use Rattle.serf_wire.specs.declared.texts.EventBody.{EventBody}
use Rattle.serf_window.specs.Window.{TimedEntry}
use Rattle.serf_snapshot.specs.Clocks.{is_whole, lines_of}
use Rattle.serf_snapshot.specs.HandlerLaws.{AreSilent, CanBeWritten, compacted_lines}
use Rattle.serf_snapshot.specs.Handlers.{begun_line, done_line, done_up_to_line, is_tracked, mark_begun, mark_done, mark_done_up_to, mark_handed, open_after_lines, open_events}
use Rattle.serf_snapshot.specs.OtherLines.{AreOtherLines}
use Rattle.serf_snapshot.specs.TimedEvent.{TimedEvent, timed_event}
use Rattle.serf_snapshot.specs.declared.handlers.OpenEvent.{OpenEvent}
use Rattle.serf_agent.specs.Config.{is_sound}
use Rattle.serf_agent.specs.Lives.{event_entry}
use Rattle.serf_agent_c.specs.declared.code.Code.{Code}
use Rattle.serf_agent_c.specs.declared.heads.Settings.{Settings}
use Rattle.serf_agent_c.specs.declared.session.Session.{Session}
use Rattle.serf_agent_c.specs.ResultParts.{events_in}
use Rattle.serf_agent_c.specs.Hosts.{Burst, Export, Fire, Host, Merge, Receive, enters, event_kind, first_host}
use Rattle.serf_agent_c.specs.Hosts as hosts
use Rattle.serf_agent_c.specs.Opening.{GoesOn, IsFresh, config_of}
use Rattle.serf_agent_c.specs.Sessions.{is_ready}
use Rattle.serf_agent_c.specs.Texts.{pending_bytes}

-- The events that a call hands out: those of its result, or in a burst those of the outcome that waits since then. A getter
-- returns them after the host's confirmation.
abbrev pub result_events : Session → Session → List (TimedEntry EventBody)
result_events s t = if is_ready s then map event_entry (events_in t.call_result) else []

abbrev pub handed_by : Export → Session → Session → List (TimedEntry EventBody)
handed_by (Fire name payload coalesce) s t = result_events s t
handed_by (Receive tags now packet) s t = result_events s t
handed_by (Merge packet is_join) s t = result_events s t
handed_by (Burst call) s t = enters event_kind (Burst call) s t
handed_by _ s t = []

abbrev pub event_of_entry : TimedEntry EventBody → TimedEvent
event_of_entry e = timed_event e.time e.key.name e.key.payload

abbrev pub mark_all_handed : List (TimedEntry EventBody) → List OpenEvent → List OpenEvent
mark_all_handed [] open_list = open_list
mark_all_handed (e ∷ es) open_list = mark_all_handed es (mark_handed (event_of_entry e) open_list)

-- A host that tracks its handlers: what it does with its handle, as any host; its file, with its own lines; what the last
-- opening found in the file after these bytes, until the host writes again; the events that calls handed out since its last
-- confirmation; the events that it counts as open; and whether the new text of a compaction has replaced the file and isn't
-- confirmed yet.
pub record TrackedHost : Type 0 where
  pub host : Host
  pub file : List ℕ
  pub tail : List ℕ
  pub pending : List (TimedEntry EventBody)
  pub open_list : List OpenEvent
  pub renamed : Bool

-- the text on which the next life opens, up to its own tail
abbrev pub text_now : TrackedHost → List ℕ
text_now h = h.file ++ h.tail

-- the events that the host counts as open: what it handed out, and what it said has begun or is done. If the last opening
-- found a tail, the tail's lines may have said some of this too.
abbrev pub counted : TrackedHost → List OpenEvent
counted h = open_after_lines h.open_list (lines_of h.tail)

-- One step: a call of an export, with the session and the code that it left; the confirmation that the file has the agent's
-- text; the new text of a compaction replaces the file at once; a line that says that the handler of an event
-- begins, that an event is done, or that all events up to a time are; other lines, such as those of members; and the end of
-- a session, after which the file has this tail, and the opening of the next one.
pub data TrackedDeed : Type 0 where
  Calls : Export → Session → Code → TrackedDeed
  Writes : Session → TrackedDeed
  Renames : ℕ → List ℕ → TrackedDeed
  Begins : TimedEvent → TrackedDeed
  Ends : TimedEvent → TrackedDeed
  EndsUpTo : ℕ → TrackedDeed
  Appends : List ℕ → TrackedDeed
  Dies : Settings → List ℕ → Session → TrackedDeed

-- lines of the host's own are appended to its file and flushed
abbrev pub with_lines : List ℕ → List OpenEvent → TrackedHost → TrackedHost
with_lines lines open_list h = record h { file = text_now h ++ lines; tail = []; open_list = open_list }

abbrev pub agent_bytes : TrackedHost → List ℕ
agent_bytes h = pending_bytes h.host.session.agent.device h.host.session.written

abbrev pub did : TrackedHost → TrackedDeed → TrackedHost
did h (Calls e t code) = record h { host = hosts.did h.host (hosts.Calls e t code); pending = h.pending ++ handed_by e h.host.session t }
did h (Writes t) =
    record {
      host = hosts.did h.host (hosts.Writes t);
      file = if h.renamed then text_now h else text_now h ++ agent_bytes h;
      tail = [];
      pending = [];
      open_list = mark_all_handed h.pending (counted h);
      renamed = false;
    }
did h (Renames time more) = record h { file = compacted_lines (agent_bytes h) time (counted h) more; tail = []; open_list = counted h; renamed = true }
did h (Begins e) = with_lines (begun_line e.time e.name e.payload) (mark_begun e (counted h)) h
did h (Ends e) = with_lines (done_line e.time e.name e.payload) (mark_done e (counted h)) h
did h (EndsUpTo time) = with_lines (done_up_to_line time) (mark_done_up_to time (counted h)) h
did h (Appends lines) = with_lines lines (counted h) h
did h (Dies settings tail t) = record h { host = hosts.did h.host (hosts.Dies settings (text_now h ++ tail) t); tail = h.tail ++ tail; pending = []; renamed = false }

-- whole lines that say nothing that the agent reads, and nothing of handlers
abbrev pub AreOwn : List ℕ → Type 0
AreOwn lines = AreOtherLines lines × AreSilent lines

-- What such a host may do. It writes its own lines when nothing of the agent's text is pending. From a compaction until its
-- confirmation, it makes no call in a burst, whose events would be above the line `#done TIME` of the new text. Its settings
-- keep events in all lives.
abbrev pub MayCall : Export → Session → Type 0
MayCall (Burst call) s = s.replaces ≡ false
MayCall _ s = Unit {0}

abbrev pub MayDo : List ℕ → TrackedHost → TrackedDeed → Type 0
MayDo name h (Calls e t code) = hosts.MayDo name h.host (hosts.Calls e t code) × MayCall e h.host.session
MayDo name h (Writes t) = hosts.MayDo name h.host (hosts.Writes t) × (h.renamed ≡ h.host.session.replaces)
MayDo name h (Renames time more) = (h.host.session.replaces ≡ true) × (h.renamed ≡ false) × (time < max_clock) × AreOwn more
MayDo name h (Begins e) = (is_ready h.host.session ≡ true) × CanBeWritten e
MayDo name h (Ends e) = (is_ready h.host.session ≡ true) × CanBeWritten e
MayDo name h (EndsUpTo time) = (is_ready h.host.session ≡ true) × (time < max_clock)
MayDo name h (Appends lines) = (is_ready h.host.session ≡ true) × AreOwn lines
MayDo name h (Dies settings tail t) = (is_sound (config_of name settings) ≡ true) × (settings.keep_events ≡ true) × GoesOn name settings (text_now h ++ tail) t × IsFresh (text_now h ++ tail) t

abbrev pub tracked : TrackedHost → List TrackedDeed → TrackedHost
tracked h [] = h
tracked h (deed ∷ rest) = tracked (did h deed) rest

abbrev pub MayTrack : List ℕ → TrackedHost → List TrackedDeed → Type 0
MayTrack name h [] = Unit {0}
MayTrack name h (deed ∷ rest) = MayDo name h deed × MayTrack name (did h deed) rest

-- the host of a first session, on a text that already has a line `#done TIME`
abbrev pub first_tracked : List ℕ → Session → TrackedHost
first_tracked text t = record { host = first_host text t; file = text; tail = []; pending = []; open_list = open_events text; renamed = false }

-- A host's lives, from its first session on.
pub record Lives (name : List ℕ) (settings : Settings) (text : List ℕ) (t : Session) (deeds : List TrackedDeed) : Type 0 where
  pub sound : is_sound (config_of name settings) ≡ true
  pub keeps : settings.keep_events ≡ true
  pub on : GoesOn name settings text t
  pub fresh : IsFresh text t
  pub whole : is_whole text ≡ true
  pub is_tracked : is_tracked text ≡ true
  pub may : MayTrack name (first_tracked text t) deeds
