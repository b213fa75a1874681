-- Arbitrary bytes, escaped for the places of a page at which they are written.
use Rattle.std.specs.Prelude.{ℕ, ◌+◌, ◌/◌, ◌%◌, ◌==◌, ◌&&◌, nat_lt, not, Bool, if◌then◌else◌, List, [], ◌∷◌, codes}
use Rattle.std.specs.List.{flat_map}

-- a byte of a text: an entity for `&`, `<`, `>` and both quotes
abbrev pub html_byte : ℕ → List ℕ
html_byte b =
    if b == 38 then codes "&amp;" else
    if b == 60 then codes "&lt;" else
    if b == 62 then codes "&gt;" else
    if b == 34 then codes "&quot;" else
    if b == 39 then codes "&#39;" else b ∷ []

abbrev pub html : List ℕ → List ℕ
html text = flat_map html_byte text

-- a byte of data: a `<` by its number, which is the same character in a text of JSON
abbrev pub data_byte : ℕ → List ℕ
data_byte b = if b == 60 then codes "\\u003c" else b ∷ []

abbrev pub data_text : List ℕ → List ℕ
data_text objects = flat_map data_byte objects

-- the code of a hex digit, in upper case
abbrev pub hex_digit : ℕ → ℕ
hex_digit d = if nat_lt d 10 then 48 + d else 55 + d

-- a byte that is written as it is in an address: printable ASCII, and neither a space nor one of `"#%&<>`
abbrev pub is_plain : ℕ → Bool
is_plain b = nat_lt 32 b && nat_lt b 127 && not (b == 34) && not (b == 35) && not (b == 37) && not (b == 38) && not (b == 60) && not (b == 62)

abbrev pub address_byte : ℕ → List ℕ
address_byte b = if is_plain b then b ∷ [] else 37 ∷ hex_digit (b / 16) ∷ hex_digit (b % 16) ∷ []

abbrev pub address : List ℕ → List ℕ
address file = flat_map address_byte file

-- a byte that neither begins nor ends an element or a quoted value
abbrev pub is_text : ℕ → Bool
is_text b = not (b == 60) && not (b == 62) && not (b == 34) && not (b == 39)

-- a byte that can't begin the end of an element
abbrev pub is_data : ℕ → Bool
is_data b = not (b == 60)
