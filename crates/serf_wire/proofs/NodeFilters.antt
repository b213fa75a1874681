-- Node filters that were written.
use Rattle.serf_wire.proofs.Names.{List, false, length, lit<, map, refl, subst, sym, ℕ, ◌+◌, ◌<◌, ◌↔◌, ◌∙◌, ◌∷◌, ◌≡◌, length-map, Contains, list_any, bytes_eq, array_head, raw_bytes, Packs, Items, array, Below, is_long, list_bytes, Passes, canonical_filter, passes_of}
use Rattle.serf_wire.proofs.Mapped.{any_mapped, joined_mapped}
use Rattle.serf_wire.proofs.Spelling.{items_from, text_part}
use Rattle.serf_wire.proofs.CanonicalPackets.{texts_are_part, texts_read}
use Rattle.serf_wire.proofs.Passing.{any_contains, contains_any, passes_from, passes_is}

-- whether the filter lets a node pass, as a function
filter_tests : Below → (names : List (List ℕ)) → list_any is_long names ≡ false → length names < 4294967296 → (node : List ℕ) → passes_of (canonical_filter names) node ≡ list_any (λ name. bytes_eq name node) names
unfolding passes_of
filter_tests below names none lt node =
    let items : Items = items_from text_part (0 + length (array_head (length names))) names in
    let packs : Packs (array 0 items) 0 0 (list_bytes raw_bytes names) = texts_are_part below 0 names (lit< tt) none lt 0 in
    rw ((below.reading.value (list_bytes raw_bytes names) (array 0 items)).1 packs, texts_read names (0 + length (array_head (length names)))) refl

pub filter_passes : Below → (names : List (List ℕ)) → list_any is_long names ≡ false → length names < 4294967296 → (node : List ℕ) → Passes (canonical_filter names) node ↔ Contains names node
filter_passes below names none lt node =
    let same = filter_tests below names none lt node in
    (λ p. any_contains node names (sym same ∙ passes_is below (canonical_filter names) node p), λ c. passes_from below (canonical_filter names) node (same ∙ contains_any node names c))

-- ---- borrowed names

pub borrowed_filter : {X : Type 0} (f : X → List ℕ) (xs : List X) → 0 ∷ list_bytes (λ x. raw_bytes (f x)) xs ≡ canonical_filter (map f xs)
borrowed_filter f xs = rw (length-map xs f, joined_mapped raw_bytes f xs) refl

pub borrowed_passes : Below → {X : Type 0} (f : X → List ℕ) (xs : List X) (filter : List ℕ) → filter ≡ canonical_filter (map f xs) → length xs < 4294967296 → list_any (λ x. is_long (f x)) xs ≡ false → (node : List ℕ) → Passes filter node ↔ Contains (map f xs) node
borrowed_passes below f xs filter e lt none node =
    subst (λ bytes. Passes bytes node ↔ Contains (map f xs) node) (sym e) (filter_passes below (map f xs) (any_mapped is_long f xs ∙ none) (rw (length-map xs f) lt) node)
