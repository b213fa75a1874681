-- Looking up fields in a map without errors.
use Rattle.std.specs.Prelude.{ℕ, ℤ, pos, Bool, List, [], ◌∷◌, map, Option, Some, None, unwrap_or, false, codes, if◌then◌else◌}
use Rattle.serf_lamport.specs.Clock.{max_clock}
use Rattle.serf_pack.specs.Tree.{Tree, nil, flag, int, raw, array, pairs}
use Rattle.serf_pack.specs.View.{items_of, pairs_of, pair_list}
use Rattle.serf_wire.specs.declared.texts.EventBody.{EventBody}
use Rattle.serf_wire.specs.Slots.{SlotContent, empty, held}
use Rattle.serf_wire.specs.Fields.{text, truth, number, time, signed, is_key}

-- the value of the first pair with this key, or nil
abbrev pub value_of_key : List ℕ → List (Tree × Tree) → Tree
value_of_key name [] = nil 0
value_of_key name (p ∷ ps) = if is_key name p.0 then p.1 else value_of_key name ps

abbrev pub tree_or_nil : Option Tree → Tree
tree_or_nil None = nil 0
tree_or_nil (Some v) = v

-- The meaning of a valid value. These functions also have a result for an invalid value.
abbrev pub text_in : Tree → List ℕ
text_in v = unwrap_or (text v) []

abbrev pub truth_in : Tree → Bool
truth_in v = unwrap_or (truth v) false

abbrev pub number_in : ℕ → Tree → ℕ
number_in max v = unwrap_or (number max v) 0

abbrev pub time_in : Tree → ℕ
time_in v = unwrap_or (time v) 0

abbrev pub signed_in : Tree → ℤ
signed_in v = unwrap_or (signed v) (pos 0)

abbrev pub list_in : {A : Type 0} → (Tree → A) → Tree → List A
list_in item v = map item (items_of v)

abbrev pub status_time_in : Tree × Tree → List ℕ × ℕ
status_time_in p = (text_in p.0, number_in max_clock p.1)

abbrev pub status_in : Tree → List (List ℕ × ℕ)
status_in v = map status_time_in (pairs_of v)

abbrev pub event_body_in : Tree → EventBody
event_body_in v = record { name = text_in (value_of_key (codes "Name") (pairs_of v)); payload = text_in (value_of_key (codes "Payload") (pairs_of v)) }

abbrev pub slot_in : Tree → SlotContent
slot_in (nil p) = empty
slot_in (flag p b) = empty
slot_in (int p z) = empty
slot_in (raw p s) = empty
slot_in (array p vs) = empty
slot_in (pairs p ps) = held (time_in (value_of_key (codes "LTime") (pair_list ps))) (list_in event_body_in (value_of_key (codes "Events") (pair_list ps)))
