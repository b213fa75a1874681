-- What is promised to a host in C that tracks its handlers, over all its lives.
use Rattle.std.specs.Prelude.{◌≡◌, ◌≢◌, ◌⊎◌, ◌+◌, ◌<◌, ◌≤◌, ℕ, List, [], ◌∷◌, ◌++◌, length, Some, All, AllPairs, Contains}
use Rattle.serf_wire.specs.declared.texts.EventBody.{EventBody}
use Rattle.serf_window.specs.Window.{TimedEntry}
use Rattle.serf_snapshot.specs.Clocks.{lines_of}
use Rattle.serf_snapshot.specs.HandlerLaws.{Waits}
use Rattle.serf_snapshot.specs.Handlers.{handed_of_line, open_after_lines, open_events}
use Rattle.serf_snapshot.specs.TimedEvent.{TimedEvent}
use Rattle.serf_agent_c.specs.declared.code.Code.{Code}
use Rattle.serf_agent_c.specs.declared.heads.Settings.{Settings}
use Rattle.serf_agent_c.specs.declared.session.Session.{Session}
use Rattle.serf_agent_c.specs.Hosts.{Export}
use Rattle.serf_agent_c.specs.TrackedHosts.{Begins, Calls, Dies, Lives, MayDo, TrackedDeed, TrackedHost, counted, did, event_of_entry, first_tracked, handed_by, text_now, tracked}

-- The file reports exactly what was handed out and isn't done, in order, each with whether its handler has begun: at each
-- opening, whenever the kill came and whatever its tail is, and at every other moment.
abbrev pub NoSilence : Type 0
NoSilence = (name : List ℕ) (settings : Settings) (text : List ℕ) (t : Session) (deeds : List TrackedDeed) → Lives name settings text t deeds
    → let h = tracked (first_tracked text t) deeds in open_events (text_now h) ≡ counted h

-- what calls handed out, in all lives, in order
abbrev pub handed_of : TrackedHost → TrackedDeed → List (TimedEntry EventBody)
handed_of h (Calls e t code) = handed_by e h.host.session t
handed_of h _ = []

abbrev pub all_handed : TrackedHost → List TrackedDeed → List (TimedEntry EventBody)
all_handed h [] = []
all_handed h (deed ∷ rest) = handed_of h deed ++ all_handed (did h deed) rest

-- Whatever the getters may have returned, in any life, was handed out by a call, so the host counts it.
abbrev pub GivesHanded : Type 0
GivesHanded = (name : List ℕ) (settings : Settings) (text : List ℕ) (t : Session) (deeds : List TrackedDeed) → Lives name settings text t deeds
    → All (Contains (all_handed (first_tracked text t) deeds)) (tracked (first_tracked text t) deeds).host.given

-- A call hands out no event that the getters may have returned before, in any life.
abbrev pub HandsOutNew : Type 0
HandsOutNew = (name : List ℕ) (settings : Settings) (text : List ℕ) (first t : Session) (deeds : List TrackedDeed) (e : Export) (code : Code) → Lives name settings text first deeds
    → let h = tracked (first_tracked text first) deeds in MayDo name h (Calls e t code) → All (λ x. Contains h.host.given x → ⊥) (handed_by e h.host.session t)

-- this is true of each step, and of the host before it
abbrev pub Along : (TrackedHost → TrackedDeed → Type 0) → TrackedHost → List TrackedDeed → Type 0
Along P h [] = Unit {0}
Along P h (deed ∷ rest) = P h deed × Along P (did h deed) rest

-- Begins

-- the events whose handlers have begun, in order
abbrev pub begun_by : TrackedDeed → List TimedEvent
begun_by (Begins e) = e ∷ []
begun_by _ = []

abbrev pub begun_in : List TrackedDeed → List TimedEvent
begun_in [] = []
begun_in (deed ∷ rest) = begun_by deed ++ begun_in rest

-- a host begins only what its file reports as open and not begun
abbrev pub BeginsWaiting : TrackedHost → TrackedDeed → Type 0
BeginsWaiting h (Begins e) = Waits (open_events (text_now h)) e
BeginsWaiting h _ = Unit {0}

-- No line of a tail hands out an event that has begun. And if a call hands one out, the getters may have returned it before:
-- so it isn't one that only a tail spelled, or whose outcome in a burst a kill left unread.
abbrev pub OpensNew : List TimedEvent → TrackedHost → TrackedDeed → Type 0
OpensNew begun h (Calls e t code) = All (λ x. Contains begun (event_of_entry x) → Contains h.host.given x) (handed_by e h.host.session t)
OpensNew begun h (Dies settings tail t) = All (λ e. All (λ line. handed_of_line line ≢ Some e) (lines_of (h.tail ++ tail))) begun
OpensNew begun h _ = Unit {0}

abbrev pub AllOpenNew : List TimedEvent → TrackedHost → List TrackedDeed → Type 0
AllOpenNew begun h [] = Unit {0}
AllOpenNew begun h (deed ∷ rest) = OpensNew begun h deed × AllOpenNew (begun ++ begun_by deed) (did h deed) rest

-- In all lives, such a host begins each event at most once.
abbrev pub BeginsOnce : Type 0
BeginsOnce = (name : List ℕ) (settings : Settings) (text : List ℕ) (t : Session) (deeds : List TrackedDeed) → Lives name settings text t deeds
    → Along BeginsWaiting (first_tracked text t) deeds → AllOpenNew [] (first_tracked text t) deeds
    → AllPairs (λ x y. x ≢ y) (begun_in deeds)

-- The bound

-- A host holds back at a limit: while this many events are open, or will be after its next confirmation, no call hands out
-- any. One call hands out at most so many. And a tail leaves no more open than the calls before the kill did.
abbrev pub HoldsBack : ℕ → ℕ → TrackedHost → TrackedDeed → Type 0
HoldsBack limit most h (Calls e t code) = (handed_by e h.host.session t ≡ []) ⊎ ((length (counted h) + length h.pending < limit) × (length (handed_by e h.host.session t) ≤ most))
HoldsBack limit most h (Dies settings tail t) = length (open_after_lines h.open_list (lines_of (h.tail ++ tail))) ≤ length (counted h) + length h.pending
HoldsBack limit most h _ = Unit {0}

-- Then its file never has more open events than the limit and what one call hands out.
abbrev pub OpenBounded : Type 0
OpenBounded = (name : List ℕ) (settings : Settings) (text : List ℕ) (t : Session) (deeds : List TrackedDeed) (limit most : ℕ) → Lives name settings text t deeds
    → length (open_events text) ≤ limit + most → Along (HoldsBack limit most) (first_tracked text t) deeds
    → length (open_events (text_now (tracked (first_tracked text t) deeds))) ≤ limit + most
