-- Laws about packets.
use Rattle.std.specs.Prelude.{◌≡◌, ◌↔◌, ◌≤◌, ◌+◌, ℕ, List, [], ◌∷◌, length, true, false, Ok, Err}
use Rattle.serf_pack.specs.Tree.{Pairs, pairs}
use Rattle.serf_pack.specs.Packs.{Packs}
use Rattle.serf_pack.specs.View.{pair_list}
use Rattle.serf_wire.specs.declared.error.WireError.{WireError}
use Rattle.serf_wire.specs.declared.error.WireError.TheVariants as errors
use Rattle.serf_wire.specs.declared.layout.Layout.{Layout}
use Rattle.serf_wire.specs.Errors.{layout_errors}
use Rattle.serf_wire.specs.Bytes.{AreBytes, EventsHaveBytes}
use Rattle.serf_wire.specs.Message.{Message}
use Rattle.serf_wire.specs.Spells.{Spells, IsFirstError}
use Rattle.serf_wire.specs.Decoded.{decoded}
use Rattle.serf_wire.specs.Canonical.{canonical, without_empty_slots, has_long}
use Rattle.serf_wire.specs.Passes.{Passes, passes_of}
use Rattle.serf_wire.specs.Ranges.{InRange}

-- bytes decode to a message if and only if they spell it
abbrev pub DecodesSpelled : Type 0
DecodesSpelled = (packet : List ℕ) (m : Message) → (decoded packet ≡ Ok m) ↔ Spells m packet

-- bytes decode to an error if and only if it is their first one
abbrev pub DecodesMalformed : Type 0
DecodesMalformed = (packet : List ℕ) (f : WireError) → (decoded packet ≡ Err f) ↔ IsFirstError packet f

-- a byte list spells at most one message
abbrev pub OneMessage : Type 0
OneMessage = (packet : List ℕ) (m n : Message) → Spells m packet → Spells n packet → m ≡ n

-- if nothing in a message is too long, its canonical packet spells the message in which slots without events are empty
abbrev pub CanonicalSpells : Type 0
CanonicalSpells = (m : Message) → InRange m → has_long m ≡ false → Spells (without_empty_slots m) (canonical m)

-- what is decoded is in range
abbrev pub DecodesInRange : Type 0
DecodesInRange = (packet : List ℕ) (m : Message) → decoded packet ≡ Ok m → InRange m

-- if a packet consists of bytes, so do the texts of its events
abbrev pub DecodesBytes : Type 0
DecodesBytes = (packet : List ℕ) (m : Message) → AreBytes packet → decoded packet ≡ Ok m → EventsHaveBytes m

-- the reading of a filter lets a node pass if and only if the filter does
abbrev pub PassesExactly : Type 0
PassesExactly = (filter node : List ℕ) → (passes_of filter node ≡ true) ↔ Passes filter node

-- the place in the packet of a map's error, and 0 for any other error
abbrev pub map_place : WireError → ℕ
map_place errors.Empty = 0
map_place (errors.UnknownType kind) = 0
map_place (errors.Pack f) = 0
map_place errors.NotAMap = 0
map_place (errors.BadKey p) = p
map_place (errors.Twice p) = p
map_place (errors.WrongKind p) = p
map_place (errors.OutOfRange p) = p
map_place (errors.MaxTime p) = p

-- the places of the errors never fall, and are between these two
abbrev pub InOrder : ℕ → List WireError → ℕ → Type 0
InOrder from [] to = from ≤ to
InOrder from (f ∷ fs) to = (from ≤ map_place f) × InOrder (map_place f) fs to

-- the errors of a map are in reading order, after the packet's first byte, with any layout of its fields
abbrev pub ErrorsInOrder : Type 0
ErrorsInOrder = (layout : Layout) (ps : Pairs) (bytes : List ℕ) → Packs (pairs 0 ps) 0 0 bytes → InOrder 1 (layout_errors layout (pair_list ps)) (length bytes + 1)
