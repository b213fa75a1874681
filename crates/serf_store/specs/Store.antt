-- A store over a file: a sink without a plan, with the bytes of the file's text if the file exposes them.
use Rattle.std.specs.Prelude.{ℕ, Option, None, if◌then◌else◌}
use Rattle.std.specs.Option.{option_map}
use Rattle.serf_snapshot.specs.Device.{Device, Observable}
use Rattle.serf_store.specs.TextFile.{Kept, all_of, made_with}

-- what a crash leaves of the text's file: if the name isn't on the device, nothing is sure to be left
abbrev pub left_of : Kept → Observable
left_of k = if k.is_named then k.text else made_with (all_of k.text)

abbrev pub text_of : Option Kept → Option Observable
text_of kept = option_map left_of kept

-- a device with these bytes, which has failed and was called this often
abbrev pub file_device : Option Observable → ℕ → ℕ → ℕ → ℕ → Device
file_device bytes failures appends flushes replaces =
    record { observed_bytes = bytes; plan = None; failures = failures; calls = record { appends = appends; flushes = flushes; replaces = replaces } }
