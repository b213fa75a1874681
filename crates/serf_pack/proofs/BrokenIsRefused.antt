-- If a value breaks, the reading refuses it with the same error.
use Rattle.serf_pack.proofs.Names.{Err, List, Ok, [], ap, append_assoc, arith, length, length-append, nat_lt, refl, subst, suc, true, zero, ℕ, ◌++◌, ◌+◌, ◌-◌, ◌<◌, ◌∙◌, ◌∷◌, ◌≡◌, ◌≤◌, lt-ltb, Breaks, at_end, deep_array, deep_map, in_array, in_key, in_value, short_number, short_raw, unsupported, PackItems, PackPairs, Packs, item_count, pair_count, Reader, head_by, place, head_at, items_at, pairs_at, value_at, row_of, Items, Pairs, Tree, item, no_items, no_pairs, pair, PackError, Field, Row, Number, Unsupported}
use Rattle.serf_pack.specs.declared.error.PackError.TheVariants as errors
use Rattle.serf_pack.proofs.ByHead.{refuse_head, refuse_raw, refuse_deep_array, refuse_deep_map, refuse_array, refuse_map}
use Rattle.serf_pack.proofs.SpelledIsRead.{head_read, value_read, part}

refuse_empty : (total : ℕ) → head_at total [] ≡ Err (errors.Truncated (place total []))
unfolding head_at
refuse_empty total = refl

refuse_byte : (total b : ℕ) (rest : List ℕ) → row_of b ≡ Unsupported → head_at total (b ∷ rest) ≡ Err (errors.Unsupported b (place total (b ∷ rest)))
unfolding head_at
refuse_byte total b rest e = ap (λ (r : Row). head_by (place total (b ∷ rest)) r b rest) e

refuse_number : (total b : ℕ) (rest : List ℕ) (field : Field) (w : ℕ) → row_of b ≡ Number field w → length rest < w → head_at total (b ∷ rest) ≡ Err (errors.Truncated (place total (b ∷ rest)))
unfolding head_at
refuse_number total b rest field w e lt =
    let short : nat_lt (length rest) w ≡ true = lt-ltb _ _ lt in
    ap (λ (r : Row). head_by (place total (b ∷ rest)) r b rest) e ∙ rw short refl

items_stop : (value : Reader Tree) (n : ℕ) (bytes : List ℕ) (f : PackError) → value bytes ≡ Err f → 0 < n → items_at value n bytes ≡ Err f
unfolding items_at
items_stop value zero bytes f e lt = absurd (omega arith)
items_stop value (suc n) bytes f e lt = rw e refl

items_go : (value : Reader Tree) (n : ℕ) (bytes middle : List ℕ) (v : Tree) (f : PackError) → value bytes ≡ Ok (v, middle) → items_at value n middle ≡ Err f → items_at value (suc n) bytes ≡ Err f
unfolding items_at
items_go value n bytes middle v f e g = rw (e, g) refl

pairs_stop : (value : Reader Tree) (n : ℕ) (bytes : List ℕ) (f : PackError) → value bytes ≡ Err f → 0 < n → pairs_at value n bytes ≡ Err f
unfolding pairs_at
pairs_stop value zero bytes f e lt = absurd (omega arith)
pairs_stop value (suc n) bytes f e lt = rw e refl

pairs_half : (value : Reader Tree) (n : ℕ) (bytes following : List ℕ) (k : Tree) (f : PackError) → value bytes ≡ Ok (k, following) → value following ≡ Err f → 0 < n → pairs_at value n bytes ≡ Err f
unfolding pairs_at
pairs_half value zero bytes following k f e g lt = absurd (omega arith)
pairs_half value (suc n) bytes following k f e g lt = rw (e, g) refl

pairs_go : (value : Reader Tree) (n : ℕ) (bytes following middle : List ℕ) (k v : Tree) (f : PackError) → value bytes ≡ Ok (k, following) → value following ≡ Ok (v, middle) → pairs_at value n middle ≡ Err f → pairs_at value (suc n) bytes ≡ Err f
unfolding pairs_at
pairs_go value n bytes following middle k v f e g h = rw (e, g, h) refl

-- after the spelled items, the reading continues
items_after : (vs : Items) (d depth_left total n : ℕ) (text rest : List ℕ) (f : PackError) → d + depth_left ≡ 8 → length (text ++ rest) ≤ total → PackItems vs d (place total (text ++ rest)) text → item_count vs < n
    → value_at depth_left total rest ≡ Err f → items_at (value_at depth_left total) n (text ++ rest) ≡ Err f
items_after no_items d depth_left total n text rest f e le h lt bad = rw h (items_stop (value_at depth_left total) n rest f bad (omega arith))
items_after (item v vs) d depth_left total zero text rest f e le h lt bad = absurd (omega arith)
items_after (item v vs) d depth_left total (suc n) text rest f e le h lt bad =
    let p = part total text rest h.0 h.1 h.2 le in
    let first = value_read v d depth_left total h.0 (h.1 ++ rest) e (rw p.bytes at le) (subst (λ (t : List ℕ). Packs v d (place total t) h.0) p.bytes h.3) in
    let others = items_after vs d depth_left total n h.1 rest f e p.within (subst (λ k. PackItems vs d k h.1) p.place_is h.4) (omega arith) bad in
    rw p.bytes (items_go (value_at depth_left total) n (h.0 ++ (h.1 ++ rest)) (h.1 ++ rest) v f first others)

pairs_after : (ps : Pairs) (d depth_left total n : ℕ) (text rest : List ℕ) (f : PackError) → d + depth_left ≡ 8 → length (text ++ rest) ≤ total → PackPairs ps d (place total (text ++ rest)) text → pair_count ps < n
    → ((k : ℕ) → 0 < k → pairs_at (value_at depth_left total) k rest ≡ Err f) → pairs_at (value_at depth_left total) n (text ++ rest) ≡ Err f
pairs_after no_pairs d depth_left total n text rest f e le h lt bad = rw h (bad n (omega arith))
pairs_after (pair k v ps) d depth_left total zero text rest f e le h lt bad = absurd (omega arith)
pairs_after (pair k v ps) d depth_left total (suc n) text rest f e le h lt bad =
    let p = part total text rest h.0 (h.1 ++ h.2) (h.3 ∙ append_assoc h.0 h.1 h.2) le in
    let q = part total (h.1 ++ h.2) rest h.1 h.2 refl p.within in
    let key = value_read k d depth_left total h.0 ((h.1 ++ h.2) ++ rest) e (rw p.bytes at le) (subst (λ (t : List ℕ). Packs k d (place total t) h.0) p.bytes h.4) in
    let value = value_read v d depth_left total h.1 (h.2 ++ rest) e (rw q.bytes at p.within) (subst (λ (t : List ℕ). Packs v d (place total t) h.1) q.bytes (subst (λ n. Packs v d n h.1) p.place_is h.5)) in
    let others = pairs_after ps d depth_left total n h.2 rest f e q.within (subst (λ n. PackPairs ps d n h.2) (ap (λ n. n + length h.1) p.place_is ∙ q.place_is) h.6) (omega arith) bad in
    rw p.bytes (pairs_go (value_at depth_left total) n (h.0 ++ ((h.1 ++ h.2) ++ rest)) ((h.1 ++ h.2) ++ rest) (h.2 ++ rest) k v f key (rw q.bytes value) others)

-- what follows a front part of the bytes, and the place at which it begins
following : (total p : ℕ) (bytes front rest : List ℕ) → bytes ≡ front ++ rest → length bytes ≤ total → p ≡ place total bytes → (length rest ≤ total) × (p + length front ≡ place total rest)
following total p bytes front rest e le at =
    let lengths : length bytes ≡ length front + length rest = ap length e ∙ length-append front rest in
    (omega arith, omega arith)

-- what breaks is refused
pub break_read : (d p : ℕ) (bytes : List ℕ) (f : PackError) → Breaks d p bytes f → (depth_left total : ℕ) → d + depth_left ≡ 8 → length bytes ≤ total → p ≡ place total bytes → value_at depth_left total bytes ≡ Err f
break_read d p bytes f (at_end _ _ _ _ e error) depth_left total sum le at =
    rw (error, at) (refuse_head depth_left total bytes (errors.Truncated (place total bytes)) (rw e (refuse_empty total)))
break_read d p bytes f (unsupported _ _ _ _ b rest e row error) depth_left total sum le at =
    rw (error, at) (refuse_head depth_left total bytes (errors.Unsupported b (place total bytes)) (rw e (refuse_byte total b rest row)))
break_read d p bytes f (short_number _ _ _ _ b rest field w e row lt error) depth_left total sum le at =
    rw (error, at) (refuse_head depth_left total bytes (errors.Truncated (place total bytes)) (rw e (refuse_number total b rest field w row lt)))
break_read d p bytes f (short_raw _ _ _ _ head rest n e is lt error) depth_left total sum le at =
    rw (error, at) (refuse_raw depth_left total bytes rest n (rw e (head_read total head rest _ is)) lt)
break_read d p bytes f (deep_array _ _ _ _ head rest n e is full error) depth_left total sum le at =
    rw (error, at) (refuse_deep_array depth_left total bytes rest n (rw e (head_read total head rest _ is)) (omega arith))
break_read d p bytes f (deep_map _ _ _ _ head rest n e is full error) depth_left total sum le at =
    rw (error, at) (refuse_deep_map depth_left total bytes rest n (rw e (head_read total head rest _ is)) (omega arith))
break_read d p bytes f (in_array _ _ _ _ head front rest n vs e is lt packs count inner) depth_left total sum le at =
    let m = following total p bytes head (front ++ rest) e le at in
    let k = following total (p + length head) (front ++ rest) front rest refl m.0 m.1 in
    let bad = break_read (d + 1) (p + length head + length front) rest f inner (depth_left - 1) total (omega arith) k.0 k.1 in
    refuse_array depth_left total bytes (front ++ rest) n f (omega arith) (rw e (head_read total head (front ++ rest) _ is))
    (items_after vs (d + 1) (depth_left - 1) total n front rest f (omega arith) m.0 (subst (λ k. PackItems vs (d + 1) k front) m.1 packs) count bad)
break_read d p bytes f (in_key _ _ _ _ head front rest n ps e is lt packs count inner) depth_left total sum le at =
    let m = following total p bytes head (front ++ rest) e le at in
    let k = following total (p + length head) (front ++ rest) front rest refl m.0 m.1 in
    let bad = break_read (d + 1) (p + length head + length front) rest f inner (depth_left - 1) total (omega arith) k.0 k.1 in
    refuse_map depth_left total bytes (front ++ rest) n f (omega arith) (rw e (head_read total head (front ++ rest) _ is))
    (pairs_after ps (d + 1) (depth_left - 1) total n front rest f (omega arith) m.0 (subst (λ k. PackPairs ps (d + 1) k front) m.1 packs) count (λ i pos. pairs_stop (value_at (depth_left - 1) total) i rest f bad pos))
break_read d p bytes f (in_value _ _ _ _ head front key rest n ps k e is lt packs count packed inner) depth_left total sum le at =
    let m = following total p bytes head (front ++ (key ++ rest)) e le at in
    let j = following total (p + length head) (front ++ (key ++ rest)) front (key ++ rest) refl m.0 m.1 in
    let i = following total (p + length head + length front) (key ++ rest) key rest refl j.0 j.1 in
    let good = value_read k (d + 1) (depth_left - 1) total key rest (omega arith) j.0 (subst (λ n. Packs k (d + 1) n key) j.1 packed) in
    let bad = break_read (d + 1) (p + length head + length front + length key) rest f inner (depth_left - 1) total (omega arith) i.0 i.1 in
    refuse_map depth_left total bytes (front ++ (key ++ rest)) n f (omega arith) (rw e (head_read total head (front ++ (key ++ rest)) _ is))
    (pairs_after ps (d + 1) (depth_left - 1) total n front (key ++ rest) f (omega arith) m.0 (subst (λ k. PackPairs ps (d + 1) k front) m.1 packs) count
    (λ i pos. pairs_half (value_at (depth_left - 1) total) i (key ++ rest) rest k f good bad pos))
