-- Messages as the code holds them. These definitions are private to the crate.
use Rattle.std.specs.Prelude.{◌≡◌, ℕ, List, true, false, map, Result, Ok, Err}
use Rattle.serf_wire.specs.declared.encode.EncodeError.{EncodeError}
use Rattle.serf_wire.specs.declared.encode.EncodeError.TheVariants.{TooLong, OutOfMemory}
use Rattle.serf_wire.specs.Canonical.{canonical, has_long}
use Rattle.serf_wire.specs.Message.{Message}
use Rattle.serf_packets.specs.declared.slots.Member.{Member}
use Rattle.serf_packets.specs.Rows.{RowText, rows_of}
use Rattle.serf_packets.specs.Meant.{member_meant}
use Rattle.std.specs.Prelude.{codes}

abbrev pub member_held : Member → List ℕ × ℕ
member_held m = (m.name, m.time)

abbrev pub members_of : List RowText → List (List ℕ × ℕ)
members_of rows = map member_meant (rows_of (codes "status") rows)

-- the result is the canonical packet of a message, seen through a function, or the error that the message is too long
abbrev pub IsPacketOf : {V : Type 0} → (V → List ℕ) → Result V EncodeError → Message → Type 0
IsPacketOf seen (Ok packet) m = (has_long m ≡ false) × (seen packet ≡ canonical m)
IsPacketOf seen (Err TooLong) m = has_long m ≡ true
IsPacketOf seen (Err OutOfMemory) m = Unit {0}
