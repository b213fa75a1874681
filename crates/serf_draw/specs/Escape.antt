-- Arbitrary bytes, escaped for the text of an SVG file.
use Rattle.std.specs.Prelude.{ℕ, ◌==◌, ◌&&◌, ◌||◌, nat_lt, not, Bool, if◌then◌else◌, List, [], ◌∷◌, codes}
use Rattle.std.specs.List.{flat_map}

-- The escaped form of a byte: an entity for `&`, `<`, `>` and both quotes, and the replacement character for a byte
-- that isn't printable ASCII.
abbrev pub escaped_byte : ℕ → List ℕ
escaped_byte b =
    if b == 38 then codes "&amp;" else
    if b == 60 then codes "&lt;" else
    if b == 62 then codes "&gt;" else
    if b == 34 then codes "&quot;" else
    if b == 39 then codes "&#39;" else
    if nat_lt b 32 || nat_lt 126 b then codes "&#65533;" else b ∷ []

abbrev pub escape : List ℕ → List ℕ
escape text = flat_map escaped_byte text

-- a byte that neither begins nor ends a tag or a quoted value: it is printable ASCII, and not `<`, `>` or a quote
abbrev pub is_safe : ℕ → Bool
is_safe b = not (b == 60) && not (b == 62) && not (b == 34) && not (b == 39) && not (nat_lt b 32) && not (nat_lt 126 b)
