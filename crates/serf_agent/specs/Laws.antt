-- What holds of every sound agent's steps, and of every short packet.
use Rattle.std.specs.Prelude.{◌≡◌, ◌≢◌, ◌+◌, ◌<◌, ◌≤◌, ℕ, Bool, true, false, List, length, Option, None, All}
use Rattle.serf_lamport.specs.Clock.{max_clock}
use Rattle.serf_wire.specs.declared.texts.EventBody.{EventBody}
use Rattle.serf_wire.specs.Canonical.{canonical, has_long}
use Rattle.serf_wire.specs.Message.{PushPull, Query, query, response_of, user_event_of}
use Rattle.serf_snapshot.specs.declared.kind.ClockKind.{ClockKind}
use Rattle.serf_snapshot.specs.declared.kind.ClockKind.TheVariants as kinds
use Rattle.serf_snapshot.specs.Device.{Device}
use Rattle.serf_snapshot.specs.AppendsLine.{Failed, Kept, MayReplaceBy, Writing, noted, opened, text_replaced, written}
use Rattle.serf_agent.specs.Calls.{ended}
use Rattle.serf_agent.specs.Config.{max_packet_limit, is_sound, max_text_bytes}
use Rattle.serf_agent.specs.declared.config.Config.{Config}
use Rattle.serf_agent.specs.Events.{admission, event_entered, event_observed, texts_len, written_event}
use Rattle.serf_agent.specs.Ideal.{IdealAgent, with_config, with_snapshot}
use Rattle.serf_agent.specs.Queries.{query_admission, query_opened, query_entered, query_observed, written_query}
use Rattle.serf_agent.specs.Restart.{HasPast, restarted, unopened}
use Rattle.serf_agent.specs.Sound.{IsSound}
use Rattle.serf_agent.specs.States.{hear, joined, written_lines}
use Rattle.serf_agent.specs.Written.{MayAppendLine, appended_with, text_with}
use Rattle.serf_agent.specs.View.{view_of}

-- no byte string in a packet that an agent sends is too long for its header
pub record ShortPackets : Type 0 where
  pub event_fits : (t : ℕ) (name payload : List ℕ) (flag : Bool) → length name + length payload ≤ max_text_bytes → has_long (user_event_of t name payload flag) ≡ false
  pub query_fits : (q : Query) → length (canonical (query q)) ≤ max_packet_limit → has_long (query q) ≡ false
  pub response_fits : (t id : ℕ) (from : List ℕ) (flags : ℕ) (payload : List ℕ) → length from ≤ max_text_bytes → length payload ≤ max_text_bytes → has_long (response_of t id from flags payload) ≡ false
  -- the byte strings in a short ack or response are short
  pub texts_short : (t id : ℕ) (from : List ℕ) (flags : ℕ) (payload : List ℕ) → length (canonical (response_of t id from flags payload)) ≤ max_packet_limit → (length from ≤ max_text_bytes) × (length payload ≤ max_text_bytes)

-- what an agent admits was never entered before, and an admitted event has a short name and payload
pub record AdmitsNew : Type 0 where
  pub event_new : (i : IdealAgent) (t : ℕ) (what : EventBody) → admission i t what ≡ None → (texts_len what ≤ max_text_bytes) × All (λ p. p.entry ≢ record { time = t; key = what }) i.events.history
  pub query_new : (i : IdealAgent) (t id : ℕ) → query_admission i t id ≡ None → All (λ p. p.entry ≢ record { time = t; key = id }) i.queries.history

-- each change of a sound agent leaves a sound agent
pub record StaysSound : Type 0 where
  pub fails_append_line : (kind : ClockKind) (t : ℕ) (line durable : Option (List ℕ)) (i : IdealAgent) → IsSound i → MayAppendLine kind t line i.snapshot (Failed durable) → IsSound (with_snapshot (written kind t i.snapshot (Failed durable)) i)
  pub observes_event : (t : ℕ) (i : IdealAgent) → IsSound i → IsSound (event_observed t i)
  pub enters_event : (t : ℕ) (what : EventBody) (i : IdealAgent) → IsSound i → i.snapshot.stopped ≡ false → t < max_clock → texts_len what ≤ max_text_bytes → All (λ p. p.entry ≢ record { time = t; key = what }) i.events.history
      → IsSound (with_snapshot (appended_with kinds.Event t (written_event i.config t what) i.snapshot Kept) (event_entered t what i))
  pub observes_query : (t : ℕ) (i : IdealAgent) → IsSound i → IsSound (query_observed t i)
  pub enters_query : (t id : ℕ) (i : IdealAgent) → IsSound i → i.snapshot.stopped ≡ false → t < max_clock → All (λ p. p.entry ≢ record { time = t; key = id }) i.queries.history
      → IsSound (with_snapshot (appended_with kinds.Query t (written_query i.config t id) i.snapshot Kept) (query_entered t id i))
  pub asks_query : (now : ℕ) (q : Query) (i : IdealAgent) → IsSound i → i.snapshot.stopped ≡ false → q.time ≡ i.queries.clock → q.time < max_clock
      → IsSound (with_snapshot (appended_with kinds.Query q.time (written_query i.config q.time q.id) i.snapshot Kept) (query_opened now q i))
  pub joins : (m : PushPull) (is_join : Bool) (i : IdealAgent) → IsSound i → m.member_clock ≤ max_clock → IsSound (joined m is_join i)
  pub hears : (m : PushPull) (is_join : Bool) (i : IdealAgent) → IsSound i → i.snapshot.stopped ≡ false → m.member_clock ≤ max_clock → IsSound (ended i (hear i m is_join) Kept).agent
  pub saves : (t : ℕ) (i : IdealAgent) → IsSound i → i.snapshot.stopped ≡ false → t < max_clock → IsSound (with_snapshot (noted kinds.Member t i.snapshot Kept) i)
  pub compacts : (w : Writing) (i : IdealAgent) → IsSound i → (let text = text_with (written_lines (view_of i)) i.snapshot in MayReplaceBy text i.snapshot w → IsSound (with_snapshot (text_replaced text i.snapshot w) i))
  pub restarts : (i : IdealAgent) (text : List ℕ) (d : Device) → IsSound i → HasPast i.config i text → (opened text d).member_clock < max_clock → IsSound (restarted text (opened text d) i)
  pub sets : (config : Config) (i : IdealAgent) → IsSound i → is_sound config ≡ true → IsSound (with_config config i)
  pub begins : (config : Config) (text : List ℕ) (d : Device) → is_sound config ≡ true → (opened text d).member_clock < max_clock → IsSound (unopened config (opened text d))
