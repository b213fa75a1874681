-- The errors of a map, in reading order.
use Rattle.std.specs.Prelude.{ℕ, zero, suc, ◌+◌, ℤ, pos, negsuc, List, [], ◌∷◌, ◌++◌, Option, Some, None, ◌==◌, if◌then◌else◌}
use Rattle.serf_lamport.specs.Clock.{max_clock, last_time}
use Rattle.serf_pack.specs.Tree.{Tree, nil, flag, int, raw, array, pairs}
use Rattle.serf_pack.specs.View.{raw_of, place_of, item_list, pair_list}
use Rattle.serf_wire.specs.declared.error.WireError.{WireError}
use Rattle.serf_wire.specs.declared.error.WireError.TheVariants.{BadKey, Twice, WrongKind, OutOfRange, MaxTime}
use Rattle.serf_wire.specs.declared.layout.MessageType.{MessageType}
use Rattle.serf_wire.specs.declared.layout.Layout.{Layout}
use Rattle.serf_wire.specs.declared.layout.Kind.{Kind}
use Rattle.serf_wire.specs.declared.layout.Kind.TheVariants as kinds
use Rattle.serf_wire.specs.Layout.{fields_of, kind_in, layout_of}
use Rattle.serf_wire.specs.Fields.{text, truth, up_to, fits, has_key}

-- the place of a value in the packet, whose first byte is the type
abbrev pub at : Tree → ℕ
at v = place_of v + 1

abbrev pub unless : {A : Type 0} → Option A → WireError → List WireError
unless (Some x) f = []
unless None f = f ∷ []

abbrev pub number_errors : ℕ → Tree → List WireError
number_errors max (nil p) = []
number_errors max (flag p b) = WrongKind (p + 1) ∷ []
number_errors max (int p z) = unless (up_to max z) (OutOfRange (p + 1))
number_errors max (raw p s) = WrongKind (p + 1) ∷ []
number_errors max (array p vs) = WrongKind (p + 1) ∷ []
number_errors max (pairs p ps) = WrongKind (p + 1) ∷ []

-- the error of an integer in the place of a time
abbrev pub time_error : ℤ → ℕ → WireError
time_error (pos n) p = if n == max_clock then MaxTime p else OutOfRange p
time_error (negsuc k) p = OutOfRange p

abbrev pub time_errors : Tree → List WireError
time_errors (nil p) = []
time_errors (flag p b) = WrongKind (p + 1) ∷ []
time_errors (int p z) = unless (up_to last_time z) (time_error z (p + 1))
time_errors (raw p s) = WrongKind (p + 1) ∷ []
time_errors (array p vs) = WrongKind (p + 1) ∷ []
time_errors (pairs p ps) = WrongKind (p + 1) ∷ []

abbrev pub text_errors : Tree → List WireError
text_errors v = unless (text v) (WrongKind (at v))

abbrev pub truth_errors : Tree → List WireError
truth_errors v = unless (truth v) (WrongKind (at v))

abbrev pub signed_errors : Tree → List WireError
signed_errors (nil p) = []
signed_errors (flag p b) = WrongKind (p + 1) ∷ []
signed_errors (int p z) = unless (fits z) (OutOfRange (p + 1))
signed_errors (raw p s) = WrongKind (p + 1) ∷ []
signed_errors (array p vs) = WrongKind (p + 1) ∷ []
signed_errors (pairs p ps) = WrongKind (p + 1) ∷ []

-- the errors of a list's items, one after another
abbrev pub items_errors : {X : Type 0} → (X → List WireError) → List X → List WireError
items_errors item [] = []
items_errors item (v ∷ vs) = item v ++ items_errors item vs

abbrev pub list_errors : (Tree → List WireError) → Tree → List WireError
list_errors item (nil p) = []
list_errors item (flag p b) = WrongKind (p + 1) ∷ []
list_errors item (int p z) = WrongKind (p + 1) ∷ []
list_errors item (raw p s) = WrongKind (p + 1) ∷ []
list_errors item (array p vs) = items_errors item (item_list vs)
list_errors item (pairs p ps) = WrongKind (p + 1) ∷ []

-- the errors of a name and its time
abbrev pub name_errors : Tree → Option (List ℕ) → List WireError
name_errors v name = unless name (BadKey (at v))

abbrev pub status_time_errors : Tree × Tree → List WireError
status_time_errors p = name_errors p.0 (raw_of p.0) ++ number_errors max_clock p.1

abbrev pub status_errors : Tree → List WireError
status_errors (nil p) = []
status_errors (flag p b) = WrongKind (p + 1) ∷ []
status_errors (int p z) = WrongKind (p + 1) ∷ []
status_errors (raw p s) = WrongKind (p + 1) ∷ []
status_errors (array p vs) = WrongKind (p + 1) ∷ []
status_errors (pairs p ps) = items_errors status_time_errors (pair_list ps)

-- the errors of a pair that follows these earlier ones, if its key is the name of a field of this kind, or of no
-- field; vf returns the errors of values
abbrev pub field_errors : (Kind → Tree → List WireError) → List (Tree × Tree) → Tree × Tree → List ℕ → Option Kind → List WireError
field_errors vf earlier p name None = []
field_errors vf earlier p name (Some kind) = (if has_key name earlier then Twice (at p.0) ∷ [] else []) ++ vf kind p.1

abbrev pub key_errors : (Kind → Tree → List WireError) → Layout → List (Tree × Tree) → Tree × Tree → Option (List ℕ) → List WireError
key_errors vf layout earlier p None = BadKey (at p.0) ∷ []
key_errors vf layout earlier p (Some name) = field_errors vf earlier p name (kind_in name (fields_of layout))

-- the errors of the pairs that follow these earlier ones
abbrev pub errors_after : (Kind → Tree → List WireError) → Layout → List (Tree × Tree) → List (Tree × Tree) → List WireError
errors_after vf layout earlier [] = []
errors_after vf layout earlier (p ∷ ps) = key_errors vf layout earlier p (raw_of p.0) ++ errors_after vf layout (earlier ++ p ∷ []) ps

-- the errors of a map with these fields, or of nil
abbrev pub map_errors : (Kind → Tree → List WireError) → Layout → Tree → List WireError
map_errors vf layout (nil p) = []
map_errors vf layout (flag p b) = WrongKind (p + 1) ∷ []
map_errors vf layout (int p z) = WrongKind (p + 1) ∷ []
map_errors vf layout (raw p s) = WrongKind (p + 1) ∷ []
map_errors vf layout (array p vs) = WrongKind (p + 1) ∷ []
map_errors vf layout (pairs p ps) = errors_after vf layout [] (pair_list ps)

-- the errors of a value in a field of this kind, if `maps` returns the errors of a list of maps
abbrev pub kind_errors : (Layout → Tree → List WireError) → Kind → Tree → List WireError
kind_errors maps kinds.Time v = time_errors v
kind_errors maps (kinds.Natural max) v = number_errors max v
kind_errors maps kinds.Signed v = signed_errors v
kind_errors maps kinds.Text v = text_errors v
kind_errors maps kinds.Flag v = truth_errors v
kind_errors maps kinds.Texts v = list_errors text_errors v
kind_errors maps kinds.Status v = status_errors v
kind_errors maps (kinds.Maps layout) v = maps layout v

-- the same, if lists of maps may be nested this deep
abbrev pub value_errors : ℕ → Kind → Tree → List WireError
value_errors zero kind v = kind_errors (λ layout v. []) kind v
value_errors (suc depth_left) kind v = kind_errors (λ layout. list_errors (map_errors (value_errors depth_left) layout)) kind v

-- the first item of a list, if it has one
abbrev pub first : {A : Type 0} → List A → Option A
first [] = None
first (x ∷ xs) = Some x

-- the errors of a map with the fields of a layout, including its lists of slots and their events
abbrev pub layout_errors : Layout → List (Tree × Tree) → List WireError
layout_errors layout ps = errors_after (value_errors 2) layout [] ps

-- the errors of a message's map
abbrev pub message_errors : MessageType → List (Tree × Tree) → List WireError
message_errors message ps = layout_errors (layout_of message) ps
