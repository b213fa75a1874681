-- One more line with the names of the lanes.
use Rattle.serf_draw.proofs.Names.{List, ap, map, sym, zero-add, ℕ, ◌++◌, ◌+◌, ◌∙◌, ◌≡◌, flat_map_more, map-range_with_len_more, flat_map, range_with_len}

pub heads_more : (f : ℕ → ℕ) (g : ℕ → List ℕ) (out : List ℕ) (k : ℕ)
    → (out ++ flat_map g (map f (range_with_len 0 k))) ++ g (f k) ≡ out ++ flat_map g (map f (range_with_len 0 (k + 1)))
heads_more f g out k =
    flat_map_more g out (map f (range_with_len 0 k)) (f k)
    ∙ ap (λ xs. out ++ flat_map g xs) (sym (map-range_with_len_more f 0 k k (zero-add k)))
