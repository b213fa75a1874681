-- Parts of printed lines.
use Rattle.std.specs.Prelude.{ℕ, ℤ, ◌==◌, ◌++◌, Bool, if◌then◌else◌, List, length, codes, decimal}
use Rattle.std.specs.Fmt.{signed_decimal}
use Rattle.hex.specs.Hex.{encode_lower}

-- bytes in lower-case hex, or a dash for none
unfoldable pub hex_text : List ℕ → List ℕ
hex_text bytes = if length bytes == 0 then codes "-" else encode_lower bytes

abbrev pub flag_text : Bool → List ℕ
flag_text coalesce = if coalesce then codes "1" else codes "0"

-- a text, a space and a number
unfoldable pub with_number : List ℕ → ℕ → List ℕ
with_number text n = text ++ codes " " ++ decimal n

-- a text, a space and bytes
unfoldable pub with_hex : List ℕ → List ℕ → List ℕ
with_hex text bytes = text ++ codes " " ++ hex_text bytes

-- The line of a field: its name, a space and its value.
unfoldable pub number_line : List ℕ → ℕ → List ℕ
number_line name n = with_number name n ++ codes "\n"

unfoldable pub signed_line : List ℕ → ℤ → List ℕ
signed_line name z = name ++ codes " " ++ signed_decimal z ++ codes "\n"

unfoldable pub hex_line : List ℕ → List ℕ → List ℕ
hex_line name bytes = with_hex name bytes ++ codes "\n"

unfoldable pub flag_line : List ℕ → Bool → List ℕ
flag_line name flag = name ++ codes " " ++ flag_text flag ++ codes "\n"
