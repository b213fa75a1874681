-- Lists that have some items of another list, in the same order.
use Rattle.std.specs.Prelude.{◌≡◌, ◌+◌, ◌⊎◌, ◌++◌, List, [], ◌∷◌, length, map, take, drop}
use Rattle.std.specs.List.{range_with_len}

abbrev pub IsSublist : {A : Type 0} → List A → List A → Type 0
IsSublist [] ys = Unit {0}
IsSublist (x ∷ xs) [] = ⊥
IsSublist (x ∷ xs) (y ∷ ys) = ((x ≡ y) × IsSublist xs ys) ⊎ IsSublist (x ∷ xs) ys

-- all lists that lack exactly one item, in the order of the missing item's position
abbrev pub deletions : {A : Type 0} → List A → List (List A)
deletions xs = map (λ i. take i xs ++ drop (i + 1) xs) (range_with_len 0 (length xs))
