-- The canonical spellings are spellings.
use Rattle.serf_pack.proofs.Names.{List, [], ap, append-nil, arith, cond, false, nat_lt, negsuc, pos, refl, subst, sym, true, ℕ, ℤ, ◌*◌, ◌+◌, ◌-ℤ◌, ◌-◌, ◌<◌, ◌^◌, ◌∙◌, ◌∷◌, ◌≡◌, ◌≤◌, le-ltb, lt-ltb, ltb-false, ltb-true, nat_tests, ints, w64, big_bytes, big_number, low_bytes, twos_complement, big_number-reads_back, length-bytes_high_first, array_head, map_head, negative_bytes, raw_head, uint_bytes, IsHead, meaning_of, row_of, Field, Head, Number, Whole}
use Rattle.serf_pack.specs.declared.head.Head.TheVariants as heads
use Rattle.serf_pack.specs.declared.head.Field.TheVariants as fields

number_back : (w x : ℕ) → x < 256 ^ w → big_number w (big_bytes w x) ≡ x
number_back w x lt = ap (big_number w) (sym (append-nil (big_bytes w x))) ∙ big_number-reads_back w x [] lt

-- a number of w bytes after a byte whose row requires it
numbered : (b w x : ℕ) (f : Field) → row_of b ≡ Number f w → x < 256 ^ w → IsHead (b ∷ big_bytes w x) (meaning_of f w x)
numbered b w x f row lt = rw row (length-bytes_high_first w x, ap (meaning_of f w) (sym (number_back w x lt)))

whole : (b : ℕ) (h : Head) → row_of b ≡ Whole h → IsHead (b ∷ []) h
whole b h row = rw row (refl, refl)

by_size : (P : List ℕ → Type 0) (n limit : ℕ) (xs ys : List ℕ) → (n < limit → P xs) → (limit ≤ n → P ys) → P (cond (nat_lt n limit) xs ys)
by_size P n limit xs ys small large =
    (elim (nat_lt n limit) as (λ b. nat_lt n limit ≡ b → P (cond b xs ys)) [ true ↦ λ e. small (ltb-true _ _ e) | false ↦ λ e. large (ltb-false _ _ e) ]) refl

map_row : (n : ℕ) → n < 16 → row_of (0x80 + n) ≡ Whole (heads.Map n)
map_row n lt =
    let a : nat_lt (0x80 + n) 0x80 ≡ false = le-ltb _ _ (omega arith) in
    let b : nat_lt (0x80 + n) 0x90 ≡ true = lt-ltb _ _ (omega arith) in
    let c : (0x80 + n) - 0x80 ≡ n = omega arith in
    rw (a, b, c) refl

array_row : (n : ℕ) → n < 16 → row_of (0x90 + n) ≡ Whole (heads.Array n)
array_row n lt =
    let a : nat_lt (0x90 + n) 0x80 ≡ false = le-ltb _ _ (omega arith) in
    let b : nat_lt (0x90 + n) 0x90 ≡ false = le-ltb _ _ (omega arith) in
    let c : nat_lt (0x90 + n) 0xa0 ≡ true = lt-ltb _ _ (omega arith) in
    let d : (0x90 + n) - 0x90 ≡ n = omega arith in
    rw (a, b, c, d) refl

raw_row : (n : ℕ) → n < 32 → row_of (0xa0 + n) ≡ Whole (heads.Raw n)
raw_row n lt =
    let a : nat_lt (0xa0 + n) 0x80 ≡ false = le-ltb _ _ (omega arith) in
    let b : nat_lt (0xa0 + n) 0x90 ≡ false = le-ltb _ _ (omega arith) in
    let c : nat_lt (0xa0 + n) 0xa0 ≡ false = le-ltb _ _ (omega arith) in
    let d : nat_lt (0xa0 + n) 0xc0 ≡ true = lt-ltb _ _ (omega arith) in
    let e : (0xa0 + n) - 0xa0 ≡ n = omega arith in
    rw (a, b, c, d, e) refl

int_row : (n : ℕ) → n < 128 → row_of n ≡ Whole (heads.Int (pos n))
int_row n lt = let a : nat_lt n 0x80 ≡ true = lt-ltb _ _ (omega arith) in rw a refl

pub map_head_is : (n : ℕ) → n < 2 ^ 32 → IsHead (map_head n) (heads.Map n)
map_head_is n lt =
    by_size (λ t. IsHead t (heads.Map n)) n 16 _ _ (λ small. whole (0x80 + n) (heads.Map n) (map_row n small))
    (λ large. by_size (λ t. IsHead t (heads.Map n)) n 65536 _ _ (λ small. numbered 0xde 2 n fields.Map refl (omega arith)) (λ larger. numbered 0xdf 4 n fields.Map refl (omega arith)))

pub array_head_is : (n : ℕ) → n < 2 ^ 32 → IsHead (array_head n) (heads.Array n)
array_head_is n lt =
    by_size (λ t. IsHead t (heads.Array n)) n 16 _ _ (λ small. whole (0x90 + n) (heads.Array n) (array_row n small))
    (λ large. by_size (λ t. IsHead t (heads.Array n)) n 65536 _ _ (λ small. numbered 0xdc 2 n fields.Array refl (omega arith)) (λ larger. numbered 0xdd 4 n fields.Array refl (omega arith)))

pub raw_head_is : (n : ℕ) → n < 2 ^ 32 → IsHead (raw_head n) (heads.Raw n)
raw_head_is n lt =
    by_size (λ t. IsHead t (heads.Raw n)) n 32 _ _ (λ small. whole (0xa0 + n) (heads.Raw n) (raw_row n small))
    (λ large. by_size (λ t. IsHead t (heads.Raw n)) n 65536 _ _ (λ small. numbered 0xda 2 n fields.Raw refl (omega arith)) (λ larger. numbered 0xdb 4 n fields.Raw refl (omega arith)))

pub uint_is : (n : ℕ) → n < 2 ^ 64 → IsHead (uint_bytes n) (heads.Int (pos n))
uint_is n lt =
    by_size (λ t. IsHead t (heads.Int (pos n))) n 128 _ _ (λ small. whole n (heads.Int (pos n)) (int_row n small))
    (λ a. by_size (λ t. IsHead t (heads.Int (pos n))) n 256 _ _ (λ small. numbered 0xcc 1 n fields.Unsigned refl (omega arith))
    (λ b. by_size (λ t. IsHead t (heads.Int (pos n))) n 65536 _ _ (λ small. numbered 0xcd 2 n fields.Unsigned refl (omega arith))
    (λ c. by_size (λ t. IsHead t (heads.Int (pos n))) n 4294967296 _ _ (λ small. numbered 0xce 4 n fields.Unsigned refl (omega arith)) (λ d. numbered 0xcf 8 n fields.Unsigned refl (omega arith)))))

-- 256 - (k + 1) and the same for wider numbers are -1 - k
minus : (k m : ℕ) → k < m → pos (m - (k + 1)) -ℤ pos m ≡ negsuc k
minus k m lt = omega (arith, ints)

negative_row : (k : ℕ) → k < 32 → row_of (255 - k) ≡ Whole (heads.Int (negsuc k))
negative_row k lt =
    let n = 255 - k in
    let z : pos (255 - k) -ℤ pos 256 ≡ negsuc k = omega (arith, ints) in
    let tests : row_of (255 - k) ≡ Whole (heads.Int (pos (255 - k) -ℤ pos 256)) = grind (arith, nat_tests) in
    tests ∙ ap (λ (y : ℤ). Whole (heads.Int y)) z

low1 : (k : ℕ) → k < 2 ^ 7 → low_bytes w64 1 (negsuc k) ≡ 2 ^ 8 - (k + 1)
low1 k lt = omega arith

low2 : (k : ℕ) → k < 2 ^ 15 → low_bytes w64 2 (negsuc k) ≡ 2 ^ 16 - (k + 1)
low2 k lt = omega arith

low4 : (k : ℕ) → k < 2 ^ 31 → low_bytes w64 4 (negsuc k) ≡ 2 ^ 32 - (k + 1)
low4 k lt = omega arith

low8 : (k : ℕ) → k < 2 ^ 63 → low_bytes w64 8 (negsuc k) ≡ 2 ^ 64 - (k + 1)
low8 k lt = omega arith

signed_by : (w m k : ℕ) → 2 ^ (8 * w) ≡ m → nat_lt (m - (k + 1)) (2 ^ (8 * w - 1)) ≡ false → k < m → twos_complement w (m - (k + 1)) ≡ negsuc k
signed_by w m k e test lt = rw (test, e) (minus k m lt)

signed : (b w m k : ℕ) → row_of b ≡ Number fields.Signed w → low_bytes w64 w (negsuc k) ≡ m - (k + 1) → 256 ^ w ≡ m → 2 ^ (8 * w) ≡ m → 2 ^ (8 * w - 1) ≤ m - (k + 1) → k < m → IsHead (b ∷ big_bytes w (low_bytes w64 w (negsuc k))) (heads.Int (negsuc k))
signed b w m k row low size size2 half lt =
    let here = numbered b w (m - (k + 1)) fields.Signed row (rw size (omega arith)) in
    let z = signed_by w m k size2 (le-ltb _ _ half) lt in
    rw low (subst (λ (y : ℤ). IsHead (b ∷ big_bytes w (m - (k + 1))) (heads.Int y)) z here)

pub negative_is : (k : ℕ) → k < 2 ^ 63 → IsHead (negative_bytes k) (heads.Int (negsuc k))
negative_is k lt =
    by_size (λ t. IsHead t (heads.Int (negsuc k))) k 32 _ _ (λ small. whole (255 - k) (heads.Int (negsuc k)) (negative_row k small))
    (λ a. by_size (λ t. IsHead t (heads.Int (negsuc k))) k 128 _ _ (λ small. signed 0xd0 1 (2 ^ 8) k refl (low1 k (omega arith)) refl refl (omega arith) (omega arith))
    (λ b. by_size (λ t. IsHead t (heads.Int (negsuc k))) k 32768 _ _ (λ small. signed 0xd1 2 (2 ^ 16) k refl (low2 k (omega arith)) refl refl (omega arith) (omega arith))
    (λ c. by_size (λ t. IsHead t (heads.Int (negsuc k))) k 2147483648 _ _ (λ small. signed 0xd2 4 (2 ^ 32) k refl (low4 k (omega arith)) refl refl (omega arith) (omega arith))
    (λ d. signed 0xd3 8 (2 ^ 64) k refl (low8 k lt) refl refl (omega arith) (omega arith)))))
