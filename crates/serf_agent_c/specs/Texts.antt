-- Bytes that C reads.
use Rattle.std.specs.Prelude.{ℕ, Bool, ◌==◌, List, [], ◌++◌, take, drop, length, Option, Some, None}
use Rattle.serf_snapshot.specs.Device.{Device, durable_of}

-- the host's memory after a copy: as many of the bytes, or of other items, as fit, followed by what was there before
abbrev pub copied : {A : Type 0} → List A → List A → List A
copied items old = take (length old) items ++ drop (length items) old

-- what is durable on a sink in memory
abbrev pub bytes_in : Option (List ℕ) → List ℕ
bytes_in (Some bytes) = bytes
bytes_in None = []

-- the text that an agent's sink has
abbrev pub text_of : Device → List ℕ
text_of d = bytes_in (durable_of d)

-- the bytes of it that are pending for the host's file if the file has the first n
abbrev pub pending_bytes : Device → ℕ → List ℕ
pending_bytes d n = drop n (text_of d)

-- whether the host's file has all of it
abbrev pub is_written : Device → ℕ → Bool
is_written d n = length (pending_bytes d n) == 0
