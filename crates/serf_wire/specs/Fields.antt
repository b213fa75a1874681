-- The meaning of the fields of a map.
use Rattle.std.specs.Prelude.{ℕ, ℤ, pos, negsuc, Bool, true, false, ◌||◌, ◌&&◌, List, [], ◌∷◌, Option, Some, None, is_some, codes, nat_le, nat_lt, if◌then◌else◌}
use Rattle.std.specs.Str.{bytes_eq}
use Rattle.serf_lamport.specs.Clock.{max_clock, last_time}
use Rattle.serf_wire.specs.declared.texts.EventBody.{EventBody}
use Rattle.serf_wire.specs.Slots.{SlotContent, empty, held}
use Rattle.serf_pack.specs.Tree.{Tree, nil, flag, int, raw, array, pairs}
use Rattle.serf_pack.specs.View.{raw_of, item_list, pair_list}

-- What a value means as a value of some kind. Nil means the kind's zero value.
abbrev pub text : Tree → Option (List ℕ)
text (nil p) = Some []
text (flag p b) = None
text (int p z) = None
text (raw p s) = Some s
text (array p vs) = None
text (pairs p ps) = None

abbrev pub truth : Tree → Option Bool
truth (nil p) = Some false
truth (flag p b) = Some b
truth (int p z) = None
truth (raw p s) = None
truth (array p vs) = None
truth (pairs p ps) = None

-- an integer from 0 to max
abbrev pub up_to : ℕ → ℤ → Option ℕ
up_to max (pos n) = if nat_le n max then Some n else None
up_to max (negsuc k) = None

abbrev pub number : ℕ → Tree → Option ℕ
number max (nil p) = Some 0
number max (flag p b) = None
number max (int p z) = up_to max z
number max (raw p s) = None
number max (array p vs) = None
number max (pairs p ps) = None

-- 2^64 - 1 isn't a valid time
abbrev pub time : Tree → Option ℕ
time = number last_time

-- a signed integer of 64 bits
abbrev pub fits : ℤ → Option ℤ
fits (pos n) = if nat_lt n 9223372036854775808 then Some (pos n) else None
fits (negsuc k) = if nat_lt k 9223372036854775808 then Some (negsuc k) else None

abbrev pub signed : Tree → Option ℤ
signed (nil p) = Some (pos 0)
signed (flag p b) = None
signed (int p z) = fits z
signed (raw p s) = None
signed (array p vs) = None
signed (pairs p ps) = None

-- the items of a list, each of them a value of some kind
abbrev pub in_front : {A : Type 0} → Option A → Option (List A) → Option (List A)
in_front None xs = None
in_front (Some x) None = None
in_front (Some x) (Some xs) = Some (x ∷ xs)

abbrev pub all : {X A : Type 0} → (X → Option A) → List X → Option (List A)
all item [] = Some []
all item (v ∷ vs) = in_front (item v) (all item vs)

abbrev pub list : {A : Type 0} → (Tree → Option A) → Tree → Option (List A)
list item (nil p) = Some []
list item (flag p b) = None
list item (int p z) = None
list item (raw p s) = None
list item (array p vs) = all item (item_list vs)
list item (pairs p ps) = None

-- whether a key is this name
abbrev pub is_text : List ℕ → Option (List ℕ) → Bool
is_text name None = false
is_text name (Some s) = bytes_eq s name

abbrev pub is_key : List ℕ → Tree → Bool
is_key name key = is_text name (raw_of key)

-- the values after this key, in order
abbrev pub values_of : List ℕ → List (Tree × Tree) → List Tree
values_of name [] = []
values_of name (p ∷ ps) = if is_key name p.0 then p.1 ∷ values_of name ps else values_of name ps

-- An absent value is nil. If there are two values, neither counts.
abbrev pub sole : {A : Type 0} → (Tree → Option A) → List Tree → Option A
sole kind [] = kind (nil 0)
sole kind (v ∷ []) = kind v
sole kind (v ∷ w ∷ vs) = None

-- the field of this name in a map, if the map determines it
abbrev pub field : {A : Type 0} → (Tree → Option A) → List ℕ → List (Tree × Tree) → Option A
field kind name ps = sole kind (values_of name ps)

-- whether each key is raw
abbrev pub raw_keys : List (Tree × Tree) → Bool
raw_keys [] = true
raw_keys (p ∷ ps) = is_some (raw_of p.0) && raw_keys ps

-- a map whose keys are raw and whose fields together have a meaning, or nil, which means zero
abbrev pub map_of : {A : Type 0} → A → (List (Tree × Tree) → Option A) → Tree → Option A
map_of zero fields (nil p) = Some zero
map_of zero fields (flag p b) = None
map_of zero fields (int p z) = None
map_of zero fields (raw p s) = None
map_of zero fields (array p vs) = None
map_of zero fields (pairs p ps) = if raw_keys (pair_list ps) then fields (pair_list ps) else None

abbrev pub both : {A B C : Type 0} → (A → B → C) → Option A → Option B → Option C
both make None y = None
both make (Some a) None = None
both make (Some a) (Some b) = Some (make a b)

-- a pair of a raw name and a time of 64 bits; a name may appear twice
abbrev pub status_time : Tree × Tree → Option (List ℕ × ℕ)
status_time p = both (λ name time. (name, time)) (raw_of p.0) (number max_clock p.1)

abbrev pub status : Tree → Option (List (List ℕ × ℕ))
status (nil p) = Some []
status (flag p b) = None
status (int p z) = None
status (raw p s) = None
status (array p vs) = None
status (pairs p ps) = all status_time (pair_list ps)

-- an event in a slot; nil is an event with empty texts
abbrev pub event_body : Tree → Option EventBody
event_body = map_of (record { name = []; payload = [] }) (λ ps. both (λ n p. record { name = n; payload = p }) (field text (codes "Name") ps) (field text (codes "Payload") ps))

abbrev pub slot : Tree → Option SlotContent
slot = map_of empty (λ ps. both held (field time (codes "LTime") ps) (field (list event_body) (codes "Events") ps))

-- whether a pair has this key
abbrev pub has_key : List ℕ → List (Tree × Tree) → Bool
has_key name [] = false
has_key name (p ∷ ps) = is_key name p.0 || has_key name ps
