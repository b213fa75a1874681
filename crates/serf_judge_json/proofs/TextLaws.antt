-- Texts of the items of a list, one after another.
use Rattle.serf_judge_json.proofs.Names.{List, ap, append_assoc, length, map, sym, take, take_all, ℕ, ◌++◌, ◌∙◌, ◌≡◌, ◌≤◌, flat_map, flat_map-map}

-- the text of each item was written, by a view of the item
pub all-written : {X Y : Type 0} (f : Y → List ℕ) (v : X → Y) (xs items : List X) (ys : List Y) (n : ℕ) (out start : List ℕ) → out ≡ start ++ flat_map (λ x. f (v x)) (take n xs)
    → length xs ≤ n → xs ≡ items → map v items ≡ ys → out ≡ start ++ flat_map f ys
all-written f v xs items ys n out start are end same named =
    are ∙ ap (λ l. start ++ flat_map (λ x. f (v x)) l) (take_all n xs end ∙ same) ∙ ap (λ t. start ++ t) (sym (flat_map-map f v items) ∙ ap (flat_map f) named)

-- five texts that were appended, one after another
pub all-joined : (out a b c d e : List ℕ) → ((((out ++ a) ++ b) ++ c) ++ d) ++ e ≡ out ++ ((((a ++ b) ++ c) ++ d) ++ e)
all-joined out a b c d e = simp append_assoc
