-- What the appenders write spells the value.
use Rattle.serf_pack.proofs.Names.{Bool, FitsSigned, List, arith, false, length, negsuc, pos, refl, true, ℕ, ℤ, ◌++◌, ◌+◌, ◌<◌, ◌^◌, ints, w64, array_head, flag_bytes, int_bytes, map_head, nil_bytes, raw_bytes, raw_head, uint_bytes, PackItems, PackPairs, Packs, item_count, pair_count, Items, Pairs, array, flag, int, nil, pairs, raw}
use Rattle.serf_pack.proofs.Canonical.{map_head_is, array_head_is, raw_head_is, uint_is, negative_is}

pub nil_packs : (d p : ℕ) → Packs (nil p) d p nil_bytes
nil_packs d p = (refl, (refl, refl))

pub flag_packs : (d p : ℕ) (b : Bool) → Packs (flag p b) d p (flag_bytes b)
flag_packs d p true = (refl, (refl, refl))
flag_packs d p false = (refl, (refl, refl))

pub uint_packs : (d p n : ℕ) → n < 2 ^ 64 → Packs (int p (pos n)) d p (uint_bytes n)
uint_packs d p n lt = (refl, uint_is n lt)

pub int_packs : (d p : ℕ) (z : ℤ) → FitsSigned w64 z → Packs (int p z) d p (int_bytes z)
int_packs d p (pos n) fits = (refl, uint_is n (omega (arith, ints)))
int_packs d p (negsuc k) fits = (refl, negative_is k (omega (arith, ints)))

pub raw_packs : (d p : ℕ) (s : List ℕ) → length s < 2 ^ 32 → Packs (raw p s) d p (raw_bytes s)
raw_packs d p s lt = (refl, raw_head (length s), raw_head_is (length s) lt, refl)

pub array_packs : (d p : ℕ) (vs : Items) (parts : List ℕ) → d < 8 → item_count vs < 2 ^ 32 → PackItems vs (d + 1) (p + length (array_head (item_count vs))) parts
    → Packs (array p vs) d p (array_head (item_count vs) ++ parts)
array_packs d p vs parts depth_left few packs = (refl, depth_left, array_head (item_count vs), parts, array_head_is (item_count vs) few, refl, packs)

pub map_packs : (d p : ℕ) (ps : Pairs) (parts : List ℕ) → d < 8 → pair_count ps < 2 ^ 32 → PackPairs ps (d + 1) (p + length (map_head (pair_count ps))) parts
    → Packs (pairs p ps) d p (map_head (pair_count ps) ++ parts)
map_packs d p ps parts depth_left few packs = (refl, depth_left, map_head (pair_count ps), parts, map_head_is (pair_count ps) few, refl, packs)
