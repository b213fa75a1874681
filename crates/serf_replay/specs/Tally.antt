-- How often something occurs in a list of records, at which action it last occurs, and in which order things first
-- occur.
use Rattle.std.specs.Prelude.{◌^◌, ◌-◌, ℕ, ◌+◌, min, Bool, if◌then◌else◌, List, [], ◌∷◌, Option, Some, None}
use Rattle.std.specs.List.{fold}
use Rattle.serf_replay.specs.declared.tally.Frequency.{Frequency}

-- it occurs once more, at this action
abbrev pub again : ℕ → Option Frequency → Frequency
again action None = record { times = 1; last = action }
again action (Some s) = record { times = min (s.times + 1) (2 ^ 64 - 1); last = action }

-- what is known about one thing after another one was recorded; this definition is private to the crate
abbrev pub recorded : Bool → Frequency → Option Frequency → Option Frequency
recorded same frequency old = if same then Some frequency else old

-- the count after one more record, which is a thing and the number of an action
abbrev pub with_record : {X : Type 0} → (X → Bool) → Option Frequency → X × ℕ → Option Frequency
with_record is old count_one = if is count_one.0 then Some (again count_one.1 old) else old

-- how many records are about this, which stops at 2^64 - 1, and the number of the latest action; `None` if there is no
-- record
abbrev pub frequency_in : {X : Type 0} → (X → Bool) → List (X × ℕ) → Option Frequency
frequency_in is records = fold (with_record is) None records

-- the earlier things, and after them the new one if it isn't one of them
abbrev pub with_first : {V : Type 0} → (V → V → Bool) → List V → V → List V
with_first same [] now = now ∷ []
with_first same (v ∷ vs) now = if same now v then v ∷ vs else v ∷ with_first same vs now

-- each thing once, in the order in which they first occur
abbrev pub firsts : {V : Type 0} → (V → V → Bool) → List V → List V
firsts same came = fold (with_first same) [] came
