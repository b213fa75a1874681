-- The values of members, and their names.
use Rattle.std.specs.Prelude.{ℕ, ◌+◌, ◌/◌, ◌%◌, ◌==◌, ◌||◌, ◌++◌, nat_lt, Bool, if◌then◌else◌, List, [], ◌∷◌, codes, decimal}
use Rattle.std.specs.List.{flat_map, list_all}
use Rattle.hex.specs.Hex.{encode_lower}

abbrev pub hex_digit : ℕ → ℕ
hex_digit d = if nat_lt d 10 then 48 + d else 87 + d

-- Whether a byte of a text is written by its number: it isn't printable ASCII, or it is `<`, `>` or `&`.
abbrev pub is_escaped : ℕ → Bool
is_escaped b = nat_lt b 32 || nat_lt 126 b || b == 60 || b == 62 || b == 38

-- A byte of a text. A quote or a backslash has a backslash in front. A byte that is escaped is `\u00` with two hex
-- digits.
abbrev pub json_byte : ℕ → List ℕ
json_byte b =
    if b == 34 || b == 92 then 92 ∷ b ∷ [] else
    if is_escaped b then 92 ∷ 117 ∷ 48 ∷ 48 ∷ hex_digit (b / 16) ∷ hex_digit (b % 16) ∷ [] else b ∷ []

-- a text in quotes
abbrev pub json_string : List ℕ → List ℕ
json_string text = (34 ∷ []) ++ (flat_map json_byte text ++ (34 ∷ []))

-- bytes in lower-case hex, in quotes
abbrev pub hex_string : List ℕ → List ℕ
hex_string bytes = (34 ∷ []) ++ (encode_lower bytes ++ (34 ∷ []))

abbrev pub flag_text : Bool → List ℕ
flag_text flag = if flag then codes "true" else codes "false"

abbrev pub is_ascii : List ℕ → Bool
is_ascii bytes = list_all (λ b. nat_lt b 128) bytes

-- a list of numbers
abbrev pub more_numbers : List ℕ → List ℕ
more_numbers numbers = flat_map (λ n. 44 ∷ decimal n) numbers

abbrev pub numbers_text : List ℕ → List ℕ
numbers_text [] = codes "[]"
numbers_text (n ∷ ns) = (91 ∷ []) ++ (decimal n ++ (more_numbers ns ++ (93 ∷ [])))

-- a comma, and a name in quotes before a colon; the second name ends with `_hex`
abbrev pub name_start : List ℕ → List ℕ
name_start name = (44 ∷ 34 ∷ []) ++ (name ++ (34 ∷ 58 ∷ []))

abbrev pub hex_name : List ℕ → List ℕ
hex_name name = (44 ∷ 34 ∷ []) ++ (name ++ codes "_hex\":")

-- bytes: as a text, if all of them are ASCII, and in hex
abbrev pub bytes_member : List ℕ → List ℕ → List ℕ
bytes_member name bytes = (if is_ascii bytes then name_start name ++ json_string bytes else []) ++ (hex_name name ++ hex_string bytes)
