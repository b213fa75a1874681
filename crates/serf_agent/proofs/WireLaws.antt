-- Short packets have short byte strings, which fit their headers.
use Rattle.serf_agent.proofs.Names.{Bool, List, [], arith, false, inl, inr, length, length-append, nat_lt, refl, ℕ, ◌+◌, ◌<◌, ◌∷◌, ◌≡◌, ◌≤◌, cases_Bool, lt-leb, flat_map, list_any, raw_bytes, raw_head, is_long, canonical, has_long, Query, query, response_of, user_event_of}

short-fits : {X : Type 0} (xs : List X) → length xs ≤ 9216 → is_long xs ≡ false
short-fits xs short = lt-leb 4294967296 (length xs) (omega arith)

pub event-not_long : (t : ℕ) (name payload : List ℕ) (flag : Bool) → length name + length payload ≤ 9216 → has_long (user_event_of t name payload flag) ≡ false
unfolding has_long
event-not_long t name payload flag short = rw (short-fits name (omega arith), short-fits payload (omega arith)) refl

pub response-not_long : (t id : ℕ) (from : List ℕ) (flags : ℕ) (payload : List ℕ) → length from ≤ 9216 → length payload ≤ 9216 → has_long (response_of t id from flags payload) ≡ false
unfolding has_long
response-not_long t id from flags payload short small = rw (short-fits from short, short-fits payload small) refl

pub response-short : (t id : ℕ) (from : List ℕ) (flags : ℕ) (payload : List ℕ) → length (canonical (response_of t id from flags payload)) ≤ 9216 → (length from ≤ 9216) × (length payload ≤ 9216)
unfolding canonical
response-short t id from flags payload short =
    let parts = simp length-append at short in
    (omega arith, omega arith)

-- the header of a byte string has at least one byte
head-some : (n : ℕ) → 0 < length (raw_head n)
head-some n = elim (cases_Bool (nat_lt n 32)) [
  | inl short ↦ rw short (omega arith)
  | inr long ↦ rw long (elim (cases_Bool (nat_lt n 65536)) [ inl middle ↦ rw middle (omega arith) | inr great ↦ rw great (omega arith) ])
]

raw-longer : (s : List ℕ) → length s < length (raw_bytes s)
raw-longer s = omega (arith, length-append (raw_head (length s)) s, head-some (length s))

-- a list of byte strings has no more elements than their encoding has bytes, and none of them is longer than that
texts-short : (ts : List (List ℕ)) → length (flat_map raw_bytes ts) ≤ 9216 → (length ts ≤ length (flat_map raw_bytes ts)) × (list_any is_long ts ≡ false)
texts-short [] short = (omega arith, refl)
texts-short (t ∷ ts) short =
    let parts : length (flat_map raw_bytes (t ∷ ts)) ≡ length (raw_bytes t) + length (flat_map raw_bytes ts) = length-append (raw_bytes t) (flat_map raw_bytes ts) in
    let longer = raw-longer t in
    let rest = texts-short ts (omega arith) in
    let fits : is_long t ≡ false = short-fits t (omega arith) in
    (omega (arith, rest.0), rw (fits, rest.1) refl)

pub query-not_long : (q : Query) → length (canonical (query q)) ≤ 9216 → has_long (query q) ≡ false
unfolding canonical has_long
query-not_long q short =
    let parts = simp length-append at short in
    let filters = texts-short q.filters (omega arith) in
    rw (short-fits q.addr (omega arith), short-fits q.source (omega arith), short-fits q.filters (omega (arith, filters.0)), filters.1, short-fits q.name (omega arith), short-fits q.payload (omega arith)) refl
