-- A kept event, as contracts see it.
use Rattle.std.specs.Prelude.{ℕ, List}

pub record TimedEvent : Type 0 where
  pub time : ℕ
  pub name : List ℕ
  pub payload : List ℕ

abbrev pub timed_event : ℕ → List ℕ → List ℕ → TimedEvent
timed_event time name payload = record { time = time; name = name; payload = payload }
