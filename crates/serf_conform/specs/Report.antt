-- The report on agents that were compared: one JSON object per line (docs/CONFORMANCE.md).
use Rattle.std.specs.Prelude.{ℕ, ◌==◌, ◌+◌, ◌/◌, ◌%◌, ◌||◌, ◌++◌, nat_lt, Bool, true, false, if◌then◌else◌, List, [], ◌∷◌, codes, decimal, Option, Some, None}
use Rattle.std.specs.List.{flat_map}
use Rattle.std.specs.Option.{option_copied}
use Rattle.serf_conform.specs.declared.report.Disagreement.{Disagreement}
use Rattle.serf_conform.specs.declared.report.Sums.{Sums}

abbrev pub hex_digit : ℕ → ℕ
hex_digit d = if nat_lt d 10 then 48 + d else 87 + d

-- A byte of a JSON text. A quote or a backslash has a backslash in front. A byte that isn't printable ASCII is `\u00`
-- with two hex digits.
abbrev pub json_byte : ℕ → List ℕ
json_byte b =
    if b == 34 || b == 92 then 92 ∷ b ∷ [] else
    if nat_lt b 32 || nat_lt 126 b then 92 ∷ 117 ∷ 48 ∷ 48 ∷ hex_digit (b / 16) ∷ hex_digit (b % 16) ∷ [] else b ∷ []

-- bytes in quotes
abbrev pub json_text : List ℕ → List ℕ
json_text text = (34 ∷ []) ++ (flat_map json_byte text ++ (34 ∷ []))

-- a comma, and a name in quotes before a colon
abbrev pub name_text : List ℕ → List ℕ
name_text name = (44 ∷ 34 ∷ []) ++ (name ++ (34 ∷ 58 ∷ []))

abbrev pub number_member : List ℕ → ℕ → List ℕ
number_member name n = name_text name ++ decimal n

abbrev pub text_member : List ℕ → List ℕ → List ℕ
text_member name text = name_text name ++ json_text text

abbrev pub null_member : List ℕ → List ℕ
null_member name = name_text name ++ codes "null"

-- `{"report":`, the kind, the members and `}`
abbrev pub object_text : List ℕ → List ℕ → List ℕ
object_text kind members = (123 ∷ 34 ∷ 114 ∷ 101 ∷ 112 ∷ 111 ∷ 114 ∷ 116 ∷ 34 ∷ 58 ∷ []) ++ (json_text kind ++ (members ++ (125 ∷ 10 ∷ [])))

abbrev pub seed_text : Option ℕ → List ℕ
seed_text (Some seed) = number_member (codes "seed") seed
seed_text None = null_member (codes "seed")

-- the member that is present if schedules of several kinds are compared
abbrev pub kind_member : Option (List ℕ) → List ℕ
kind_member (Some kind) = text_member (codes "kind") kind
kind_member None = []

abbrev pub kind_text : Bool → List ℕ
kind_text true = codes "ended"
kind_text false = codes "differs"

-- one after another
abbrev pub joined : List (List ℕ) → List ℕ
joined texts = flat_map (λ text. text) texts

unfoldable pub disagreement_text : Disagreement → List ℕ
disagreement_text told =
    object_text (kind_text told.has_ended)
    (joined (seed_text told.seed ∷ kind_member (option_copied told.kind) ∷ number_member (codes "agent") told.agent ∷ number_member (codes "agreed") told.agreed
    ∷ number_member (codes "action") told.action ∷ number_member (codes "line") told.line ∷ text_member (codes "call") told.call.now
    ∷ text_member (codes "wanted") told.wanted.now ∷ text_member (codes "got") told.got.now ∷ []))

unfoldable pub sums_text : Sums → List ℕ
sums_text sums =
    object_text (codes "end")
    (joined (number_member (codes "schedules") sums.schedules ∷ number_member (codes "calls") sums.calls
    ∷ number_member (codes "disagreements") sums.disagreements ∷ number_member (codes "status") sums.status ∷ []))
