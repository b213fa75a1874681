-- What it means that an event was fired before it was handed out.
use Rattle.std.specs.Prelude.{◌≡◌, ℕ, ◌<◌, ◌&&◌, ◌||◌, nat_eq, nat_lt, nat_le, Bool, true, false, List, Some, length, position, slice_get, unwrap_or}
use Rattle.std.specs.List.{list_any}
use Rattle.std.specs.Str.{bytes_eq}
use Rattle.serf_judge.specs.declared.entry.EventEntry.{EventEntry}
use Rattle.serf_judge.specs.declared.fired.ContentKey.{ContentKey}

-- an event: a time, a name and a payload
pub record EventContent : Type 0 where
  pub time : ℕ
  pub name : List ℕ
  pub payload : List ℕ

abbrev pub content_of : EventEntry → EventContent
content_of e = record { time = e.time; name = e.name.items; payload = e.payload.items }

abbrev pub is_same_content : EventContent → EventContent → Bool
is_same_content x y = nat_eq x.time y.time && (bytes_eq x.name y.name && bytes_eq x.payload y.payload)

-- For several logs, one after another: the number of the log that contains a line, counted from 0. For each log but the
-- first, `starts` has how many lines come before it.
abbrev pub log_at : List ℕ → ℕ → ℕ
log_at starts line = unwrap_or (position (λ s. nat_le line s) starts) (length starts)

-- This firing is of the event, and is on an earlier line or in a later log. (Whatever is in an earlier log is on an
-- earlier line.)
abbrev pub is_firing_of : List ℕ → EventEntry → EventEntry → Bool
is_firing_of starts e f = is_same_content (content_of e) (content_of f) && (nat_lt f.line e.line || nat_lt (log_at starts e.line) (log_at starts f.line))

abbrev pub was_fired : List ℕ → List EventEntry → EventEntry → Bool
was_fired starts fired e = list_any (is_firing_of starts e) fired

abbrev pub AreAllFired : List ℕ → List EventEntry → List EventEntry → Type 0
AreAllFired starts fired events = (k : ℕ) (e : EventEntry) → slice_get events k ≡ Some e → was_fired starts fired e ≡ true

-- the first event that was not fired before
pub record IsFirstUnfired (starts : List ℕ) (fired events : List EventEntry) (place : ℕ) : Type 0 where
  pub event : EventEntry
  pub at : slice_get events place ≡ Some event
  pub unfired : was_fired starts fired event ≡ false
  pub lowest : (k : ℕ) (e : EventEntry) → k < place → slice_get events k ≡ Some e → was_fired starts fired e ≡ true

-- the content of a key by which the code records an event
abbrev pub key_content : ContentKey → EventContent
key_content k = record { time = k.time; name = k.name.now; payload = k.payload.now }

-- how keys are compared
abbrev pub content_key_eq : ContentKey → ContentKey → Bool
content_key_eq x y = is_same_content (key_content x) (key_content y)
