-- What appears in a list again, and what appears there for the first time.
use Rattle.std.specs.Prelude.{Bool, not, if◌then◌else◌, List, [], ◌∷◌, ◌++◌}
use Rattle.std.specs.List.{list_any}

-- those of the second list, in its order, that are kept, depending on whether they equal an earlier one; the first list
-- comes before all of them
abbrev pub picked_after : {X : Type 0} → (Bool → Bool) → (X → X → Bool) → List X → List X → List X
picked_after kept eq before [] = []
picked_after kept eq before (x ∷ xs) = (if kept (list_any (eq x) before) then x ∷ [] else []) ++ picked_after kept eq (before ++ x ∷ []) xs

-- those that equal an earlier one
abbrev pub repeats_of : {X : Type 0} → (X → X → Bool) → List X → List X
repeats_of eq xs = picked_after (λ again. again) eq [] xs

-- those that equal no earlier one
abbrev pub firsts_of : {X : Type 0} → (X → X → Bool) → List X → List X
firsts_of eq xs = picked_after not eq [] xs
