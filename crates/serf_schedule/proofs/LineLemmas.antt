-- Words after spaces.
use Rattle.serf_schedule.proofs.TextNames.{◌≡◌, ◌++◌, ℕ, List, [], ◌∷◌, refl, ap, codes, map, flat_map}
use Rattle.serf_schedule.proofs.Names.{spaced}

-- the texts of things, each after a space
pub spaced-map : {X : Type 0} (text : X → List ℕ) (xs : List X) → flat_map (λ x. codes " " ++ text x) xs ≡ spaced (map text xs)
spaced-map text [] = refl
spaced-map text (x ∷ xs) = ap (λ rest. (codes " " ++ text x) ++ rest) (spaced-map text xs)
