-- Values at the start of bytes.
use Rattle.serf_wire.proofs.Names.{Bool, IfSome, List, None, Ok, Option, Some, [], ap, append_assoc, arith, cond, drop, false, get_or, length, nat_le, nat_lt, negsuc, pos, refl, subst, suc, sym, take, take-append-drop, true, ℕ, ℤ, ◌++◌, ◌+◌, ◌-◌, ◌<◌, ◌∙◌, ◌∷◌, ◌≡◌, ◌≤◌, nat_tests, drop_more, length-take-le, take_rest, big_number, max_clock, IsHead, Packs, head_at, meaning_of, row_of, Tree, array, flag, int, nil, pairs, raw, raw_of, Field, Head, Number, Whole, Below, Reads, ReadsIn, number, text, truth, up_to}
use Rattle.serf_pack.specs.declared.head.Head.TheVariants as heads
use Rattle.serf_pack.specs.declared.head.Field.TheVariants as fields
use Rattle.serf_wire.proofs.Spelling.{within}

-- ---- literal bytes at the start

abbrev pub IsFrontAt : ℕ → List ℕ → List ℕ → Type 0
IsFrontAt i [] bytes = Unit {0}
IsFrontAt i (k ∷ ks) bytes = (get_or bytes i 0 ≡ k) × IsFrontAt (suc i) ks bytes

drop_front : (i : ℕ) (key bytes : List ℕ) → i + length key ≤ length bytes → IsFrontAt i key bytes → drop i bytes ≡ key ++ drop (i + length key) bytes
drop_front i [] bytes le is = ap (λ n. drop n bytes) (let e : i ≡ i + 0 = omega arith in e)
drop_front i (k ∷ ks) bytes le is =
    let here : drop i bytes ≡ get_or bytes i 0 ∷ drop (i + 1) bytes = drop_more bytes i 0 (omega arith) in
    let next : drop (suc i) bytes ≡ ks ++ drop (suc i + length ks) bytes = drop_front (suc i) ks bytes (omega arith) is.1 in
    let step : i + 1 ≡ suc i = omega arith in
    let ends : suc i + length ks ≡ i + suc (length ks) = omega arith in
    here ∙ ap (λ x. x ∷ drop (i + 1) bytes) is.0 ∙ ap (λ n. k ∷ drop n bytes) step ∙ ap (λ t. k ∷ t) next ∙ ap (λ n. k ∷ (ks ++ drop n bytes)) ends

pub starts : (key bytes : List ℕ) → length key ≤ length bytes → IsFrontAt 0 key bytes → bytes ≡ key ++ take (length bytes - length key) (drop (length key) bytes)
starts key bytes le is =
    let zero_less : 0 + length key ≡ length key = omega arith in
    let all : drop 0 bytes ≡ key ++ drop (0 + length key) bytes = drop_front 0 key bytes (omega arith) is in
    all ∙ ap (λ n. key ++ drop n bytes) zero_less ∙ ap (λ t. key ++ t) (sym (take_rest bytes (length key)))

-- what is read at any depth is read below every limit on the depth
abbrev pub anywhere : {A : Type 0} (limit : ℕ) (meaning : Tree → Option A) (x : A) (bytes rest : List ℕ) → Reads meaning x bytes rest → ReadsIn limit meaning x bytes rest
anywhere limit meaning x bytes rest r = record { front = r.front; tree = r.tree; bytes_are = r.bytes_are; packs = λ d p room. r.packs d p; means = r.means }

-- ---- heads

reads_head : Below → {A : Type 0} (meaning : Tree → Option A) (x : A) (bytes rest : List ℕ) (h : Head) (tree : ℕ → Tree) → head_at 0 bytes ≡ Ok (h, rest) → ((d p : ℕ) (head : List ℕ) → IsHead head h → Packs (tree p) d p head) → ((p : ℕ) → meaning (tree p) ≡ Some x) → Reads meaning x bytes rest
reads_head below meaning x bytes rest h tree e packs means =
    let b = (below.reading.head 0 bytes rest h).0 e in
    record { front = b.head; tree = tree; bytes_are = b.bytes_are; packs = λ d p. packs d p b.head b.is; means = means }

pub reads_number : Below → (max n : ℕ) (bytes rest : List ℕ) → n ≤ max → head_at 0 bytes ≡ Ok (heads.Int (pos n), rest) → Reads (number max) n bytes rest
reads_number below max n bytes rest le e = reads_head below (number max) n bytes rest (heads.Int (pos n)) (λ p. int p (pos n)) e (λ d p head is. (refl, is)) (λ p. within max n le)

pub reads_nil : Below → {A : Type 0} (meaning : Tree → Option A) (x : A) (bytes rest : List ℕ) → ((p : ℕ) → meaning (nil p) ≡ Some x) → head_at 0 bytes ≡ Ok (heads.Nil, rest) → Reads meaning x bytes rest
reads_nil below meaning x bytes rest means e = reads_head below meaning x bytes rest heads.Nil nil e (λ d p head is. (refl, is)) means

pub reads_flag : Below → (b : Bool) (bytes rest : List ℕ) → head_at 0 bytes ≡ Ok (heads.Flag b, rest) → Reads truth b bytes rest
reads_flag below b bytes rest e = reads_head below truth b bytes rest (heads.Flag b) (λ p. flag p b) e (λ d p head is. (refl, is)) (λ p. refl)

reads_raw : Below → (n : ℕ) (bytes rest : List ℕ) → n ≤ length rest → head_at 0 bytes ≡ Ok (heads.Raw n, rest) → Reads raw_of (take n rest) bytes (drop n rest)
reads_raw below n bytes rest le e =
    let b = (below.reading.head 0 bytes rest (heads.Raw n)).0 e in
    let len : length (take n rest) ≡ n = length-take-le n rest le in
    record {
      front = b.head ++ take n rest;
      tree = λ p. raw p (take n rest);
      bytes_are = b.bytes_are ∙ ap (λ t. b.head ++ t) (sym (take-append-drop n rest)) ∙ sym (append_assoc b.head (take n rest) (drop n rest));
      packs = λ d p. (refl, b.head, subst (λ m. IsHead b.head (heads.Raw m)) (sym len) b.is, refl);
      means = λ p. refl;
    }

-- the number of this many bytes after a byte
pub wide_head : (b w : ℕ) (f : Field) (rest : List ℕ) → row_of b ≡ Number f w → w ≤ length rest → head_at 0 (b ∷ rest) ≡ Ok (meaning_of f w (big_number w rest), drop w rest)
unfolding head_at
wide_head b w f rest row le = rw row (let no : nat_lt (length rest) w ≡ false = grind (arith, nat_tests) in rw no refl)

pub whole_head : (b : ℕ) (h : Head) (rest : List ℕ) → row_of b ≡ Whole h → head_at 0 (b ∷ rest) ≡ Ok (h, rest)
unfolding head_at
whole_head b h rest row = rw row refl

-- ---- a number that fits a narrower field

fits_by : (z : ℤ) (max n narrow : ℕ) → up_to max z ≡ Some n → n ≤ narrow → up_to narrow z ≡ Some n
fits_by (pos m) max n narrow e le = by m max n narrow _ refl e le
  where
    by : (m max n narrow : ℕ) (b : Bool) → nat_le m max ≡ b → cond b (Some m) None ≡ Some n → n ≤ narrow → up_to narrow (pos m) ≡ Some n
    by m max n narrow true is e le = let same : m ≡ n = cc in within narrow m (omega arith) ∙ ap (λ k. Some k) same
    by m max n narrow false is e le = absurd cc
fits_by (negsuc k) max n narrow e le = absurd cc

pub narrower : (v : Tree) (max n narrow : ℕ) → number max v ≡ Some n → n ≤ narrow → number narrow v ≡ Some n
narrower (nil p) max n narrow e le = e
narrower (flag p b) max n narrow e le = absurd cc
narrower (int p z) max n narrow e le = fits_by z max n narrow e le
narrower (raw p s) max n narrow e le = absurd cc
narrower (array p vs) max n narrow e le = absurd cc
narrower (pairs p ps) max n narrow e le = absurd cc

-- ---- what follows a format byte

pub after_byte : (b : ℕ) (bytes : List ℕ) → 1 ≤ length bytes → get_or bytes 0 0 ≡ b → bytes ≡ b ∷ take (length bytes - 1) (drop 1 bytes)
after_byte b bytes le is = starts (b ∷ []) bytes le (is, tt)

is_small : (b : ℕ) → b < 128 → nat_lt b 128 ≡ true
is_small b lt = grind (arith, nat_tests)

pub small_number : Below → (b : ℕ) (bytes rest : List ℕ) → bytes ≡ b ∷ rest → b < 128 → Reads (number max_clock) b bytes rest
small_number below b bytes rest e lt =
    reads_number below max_clock b bytes rest (omega arith) (ap (head_at 0) e ∙ whole_head b (heads.Int (pos b)) rest (rw (is_small b lt) refl))

pub nil_front : Below → {A : Type 0} (meaning : Tree → Option A) (x : A) (bytes rest : List ℕ) → ((p : ℕ) → meaning (nil p) ≡ Some x) → bytes ≡ 0xc0 ∷ rest → Reads meaning x bytes rest
nil_front below meaning x bytes rest means e = reads_nil below meaning x bytes rest means (ap (head_at 0) e ∙ whole_head 0xc0 heads.Nil rest refl)

pub flag_front : Below → (b : Bool) (k : ℕ) (bytes rest : List ℕ) → row_of k ≡ Whole (heads.Flag b) → bytes ≡ k ∷ rest → Reads truth b bytes rest
flag_front below b k bytes rest row e = reads_flag below b bytes rest (ap (head_at 0) e ∙ whole_head k (heads.Flag b) rest row)

pub wide_number : Below → {X : Type 0} (r : Option X) (value : X → ℕ) (following : X → List ℕ) (b w limit : ℕ) (bytes rest : List ℕ) → limit ≤ 18446744073709551616 → bytes ≡ b ∷ rest → row_of b ≡ Number fields.Unsigned w
    → IfSome r (λ x. w ≤ length rest) → IfSome r (λ x. value x ≡ big_number w rest) → IfSome r (λ x. value x < limit) → IfSome r (λ x. following x ≡ drop w rest)
    → IfSome r (λ x. Reads (number max_clock) (value x) bytes (following x))
wide_number below None value following b w limit bytes rest high e row room is small drops = tt
wide_number below (Some x) value following b w limit bytes rest high e row room is small drops =
    reads_number below max_clock (value x) bytes (following x) (omega arith)
    (ap (head_at 0) e ∙ wide_head b w fields.Unsigned rest row room ∙ rw (is, drops) refl)

-- a text whose length is in its format byte
short_raw : Below → {X : Type 0} (r : Option X) (front following : X → List ℕ) (b n : ℕ) (bytes rest : List ℕ) → bytes ≡ b ∷ rest → row_of b ≡ Whole (heads.Raw n)
    → IfSome r (λ x. n ≤ length rest) → IfSome r (λ x. front x ≡ take n rest) → IfSome r (λ x. following x ≡ drop n rest) → IfSome r (λ x. Reads raw_of (front x) bytes (following x))
short_raw below None front following b n bytes rest e row room is drops = tt
short_raw below (Some x) front following b n bytes rest e row room is drops = rw (is, drops) (reads_raw below n bytes rest room (ap (head_at 0) e ∙ whole_head b (heads.Raw n) rest row))

-- a text whose length is in the bytes after its format byte
pub wide_raw : Below → {X : Type 0} (r : Option X) (front following : X → List ℕ) (b w n : ℕ) (bytes rest after : List ℕ) → bytes ≡ b ∷ rest → row_of b ≡ Number fields.Raw w → w ≤ length rest → n ≡ big_number w rest → after ≡ drop w rest
    → IfSome r (λ x. n ≤ length after) → IfSome r (λ x. front x ≡ take n after) → IfSome r (λ x. following x ≡ drop n after) → IfSome r (λ x. Reads raw_of (front x) bytes (following x))
wide_raw below None front following b w n bytes rest after e row len num drops room is ends = tt
wide_raw below (Some x) front following b w n bytes rest after e row len num drops room is ends =
    rw (is, ends) (reads_raw below n bytes after room (ap (head_at 0) e ∙ wide_head b w fields.Raw rest row len ∙ rw (num, drops) refl))

raw_row : (b : ℕ) → 160 ≤ b → b ≤ 191 → row_of b ≡ Whole (heads.Raw (b - 160))
raw_row b low high = rw (no 128 (omega arith), no 144 (omega arith), no 160 (omega arith), yes) refl
  where
    no : (k : ℕ) → k ≤ b → nat_lt b k ≡ false
    no k le = grind (arith, nat_tests)

    yes : nat_lt b 192 ≡ true
    yes = grind (arith, nat_tests)

pub fix_raw : Below → {X : Type 0} (r : Option X) (front following : X → List ℕ) (b : ℕ) (bytes rest : List ℕ) → bytes ≡ b ∷ rest → 160 ≤ b → b ≤ 191
    → IfSome r (λ x. b - 160 ≤ length rest) → IfSome r (λ x. front x ≡ take (b - 160) rest) → IfSome r (λ x. following x ≡ drop (b - 160) rest) → IfSome r (λ x. Reads raw_of (front x) bytes (following x))
fix_raw below r front following b bytes rest e low high = short_raw below r front following b (b - 160) bytes rest e (raw_row b low high)

-- a byte string is a text
raw_text : (v : Tree) (s : List ℕ) → raw_of v ≡ Some s → text v ≡ Some s
raw_text (nil p) s e = absurd cc
raw_text (flag p b) s e = absurd cc
raw_text (int p z) s e = absurd cc
raw_text (raw p t) s e = e
raw_text (array p vs) s e = absurd cc
raw_text (pairs p ps) s e = absurd cc

pub text_of_raw : (s bytes rest : List ℕ) → Reads raw_of s bytes rest → Reads text s bytes rest
text_of_raw s bytes rest r = record { front = r.front; tree = r.tree; bytes_are = r.bytes_are; packs = r.packs; means = λ p. raw_text (r.tree p) s (r.means p) }

-- a count in the bytes after a format byte
pub wide_count : {X : Type 0} (r : Option X) (value : X → ℕ) (following : X → List ℕ) (b w : ℕ) (f : Field) (bytes rest : List ℕ) → bytes ≡ b ∷ rest → row_of b ≡ Number f w
    → IfSome r (λ x. w ≤ length rest) → IfSome r (λ x. value x ≡ big_number w rest) → IfSome r (λ x. following x ≡ drop w rest) → IfSome r (λ x. head_at 0 bytes ≡ Ok (meaning_of f w (value x), following x))
wide_count None value following b w f bytes rest e row room is drops = tt
wide_count (Some x) value following b w f bytes rest e row room is drops = ap (head_at 0) e ∙ wide_head b w f rest row room ∙ rw (is, drops) refl

pub fix_array : (b : ℕ) (bytes rest : List ℕ) → bytes ≡ b ∷ rest → 144 ≤ b → b ≤ 159 → head_at 0 bytes ≡ Ok (heads.Array (b - 144), rest)
fix_array b bytes rest e low high =
    let first : nat_lt b 128 ≡ false = grind (arith, nat_tests) in
    let second : nat_lt b 144 ≡ false = grind (arith, nat_tests) in
    let third : nat_lt b 160 ≡ true = grind (arith, nat_tests) in
    ap (head_at 0) e ∙ whole_head b (heads.Array (b - 144)) rest (rw (first, second, third) refl)

pub map_row : (b : ℕ) → 128 ≤ b → b ≤ 143 → row_of b ≡ Whole (heads.Map (b - 128))
map_row b low high =
    let first : nat_lt b 128 ≡ false = grind (arith, nat_tests) in
    let second : nat_lt b 144 ≡ true = grind (arith, nat_tests) in
    rw (first, second) refl

pub fix_map : (b : ℕ) (bytes rest : List ℕ) → bytes ≡ b ∷ rest → 128 ≤ b → b ≤ 143 → head_at 0 bytes ≡ Ok (heads.Map (b - 128), rest)
fix_map b bytes rest e low high = ap (head_at 0) e ∙ whole_head b (heads.Map (b - 128)) rest (map_row b low high)
