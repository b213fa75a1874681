-- Texts between quotes.
use Rattle.std.specs.Prelude.{ℕ, ◌==◌, ◌++◌, ◌&&◌, ◌||◌, Bool, nat_le, not, if◌then◌else◌, List, [], ◌∷◌, codes, decimal, length, map, take}
use Rattle.std.specs.List.{flat_map, list_all}
use Rattle.serf_text.specs.TextParts.{hex_text}

-- whether a byte is printable ASCII
abbrev pub is_printable : ℕ → Bool
is_printable byte = nat_le 32 byte && nat_le byte 126

-- a byte of a text: the byte itself if it is printable, and otherwise `\x` and its two hex digits
unfoldable pub byte_text : ℕ → List ℕ
byte_text byte = if is_printable byte then byte ∷ [] else codes "\\x" ++ hex_text (byte ∷ [])

-- whether a byte is unchanged in a quoted text: it is printable, and neither a quote nor a backslash
abbrev pub is_plain : ℕ → Bool
is_plain byte = is_printable byte && not (byte == 34) && not (byte == 92)

-- a byte of a quoted text: a quote and a backslash are also written as hex digits
unfoldable pub quoted_byte : ℕ → List ℕ
quoted_byte byte = if byte == 34 || byte == 92 then codes "\\x" ++ hex_text (byte ∷ []) else byte_text byte

unfoldable pub whole_quoted : List ℕ → List ℕ
whole_quoted text = codes "\"" ++ flat_map quoted_byte text ++ codes "\""

unfoldable pub front_quoted : List ℕ → List ℕ
front_quoted text = codes "\"" ++ flat_map quoted_byte (take 32 text) ++ codes "..\" (" ++ decimal (length text) ++ codes " bytes)"

-- a text between quotes; if it is longer than 64 bytes, only its beginning and its length are shown
abbrev pub quoted : List ℕ → List ℕ
quoted text = if nat_le (length text) 64 then whole_quoted text else front_quoted text

-- whether a text is shown in full between quotes, with every byte unchanged
abbrev pub stands : List ℕ → Bool
stands text = nat_le (length text) 64 && list_all is_plain text

-- a text in which a `?` replaces each byte that isn't printable
abbrev pub masked_byte : ℕ → ℕ
masked_byte byte = if is_printable byte then byte else 63

abbrev pub masked : List ℕ → List ℕ
masked text = map masked_byte text
