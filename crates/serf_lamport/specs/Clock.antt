-- How a clock changes when it observes a time from another node: Serf's internals page, "Lamport Clocks".
use Rattle.std.specs.Prelude.{ℕ, ◌+◌, ◌-◌, ◌^◌, ◌==◌, if◌then◌else◌, max}

-- the largest number that a clock can hold, which isn't a valid time, because no number of 64 bits is above it (this
-- limit is this project's own; Serf's clocks wrap around)
abbrev pub max_clock : ℕ
max_clock = 2 ^ 64 - 1

-- the largest valid time
abbrev pub last_time : ℕ
last_time = max_clock - 1

-- the clock after it has observed a time: above that time, and never lower than before
abbrev pub observed : ℕ → ℕ → ℕ
observed clock time = max clock (time + 1)

-- the clock after it has observed the number before this value; at 0 it observes nothing
abbrev pub observed_before : ℕ → ℕ → ℕ
observed_before clock value = if value == 0 then clock else observed clock (value - 1)
