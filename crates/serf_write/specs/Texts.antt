-- A text between quotes: the bytes that it stands for.
use Rattle.std.specs.Prelude.{ℕ, ◌==◌, ◌++◌, ◌&&◌, nat_le, if◌then◌else◌, List, [], ◌∷◌, length, take, drop, slice_index, Option, Some, None}
use Rattle.std.specs.List.{slice_split}
use Rattle.std.specs.Option.{option_map}
use Rattle.std.specs.Result.{result_ok}
use Rattle.hex.specs.Hex.{decode_of}

-- what may follow a backslash: x, two hex digits and more text
abbrev pub escaped_of : List ℕ → Option (List ℕ)
escaped_of rest = if nat_le 3 (length rest) && (slice_index rest 0 == 120)
    then option_map (λ byte. byte ++ drop 3 rest) (result_ok (decode_of (take 2 (drop 1 rest)))) else None

abbrev pub with_escaped : List ℕ → Option (List ℕ) → (List ℕ → Option (List ℕ)) → Option (List ℕ)
with_escaped before None next = None
with_escaped before (Some text) next = next (before ++ text)

-- a text so far, followed by the parts between backslashes
abbrev pub text_from : List ℕ → List (List ℕ) → Option (List ℕ)
text_from before [] = Some before
text_from before (part ∷ parts) = with_escaped before (escaped_of part) (λ text. text_from text parts)

abbrev pub text_of_parts : List (List ℕ) → Option (List ℕ)
text_of_parts [] = None
text_of_parts (part ∷ parts) = text_from part parts

-- the text between two quotes
unfoldable pub text_within : List ℕ → Option (List ℕ)
text_within quoted = text_of_parts (slice_split (λ b. b == 92) quoted)
