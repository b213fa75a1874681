-- The members of objects, each with its name and its value.
use Rattle.std.specs.Prelude.{ℕ, ◌++◌, Bool, List, [], ◌∷◌, codes, decimal}
use Rattle.std.specs.List.{flat_map}
use Rattle.serf_json.specs.Json.{flag_text, json_string, name_start}
use Rattle.serf_json.specs.Object.{object_text}

abbrev pub number_member : List ℕ → ℕ → List ℕ
number_member name n = name_start name ++ decimal n

abbrev pub text_member : List ℕ → List ℕ → List ℕ
text_member name text = name_start name ++ json_string text

abbrev pub flag_member : List ℕ → Bool → List ℕ
flag_member name flag = name_start name ++ flag_text flag

-- one after another
abbrev pub joined : List (List ℕ) → List ℕ
joined texts = flat_map (λ text. text) texts

-- the exit status
abbrev pub status_text : ℕ → List ℕ
status_text status = object_text (codes "status") (joined (number_member (codes "status") status ∷ []))
