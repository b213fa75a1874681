-- A search that records each key's first place.
use Rattle.serf_judge.proofs.Names.{Bool, List, None, Option, Some, ap, arith, cond, false, inl, inr, length, refl, subst, sym, true, true≢false, ℕ, ◌+◌, ◌<◌, ◌∙◌, ◌≡◌, ◌≤◌, ◌⊎◌, cases_lt, slice_get_within, IsEquivalence, MatchOption, slice_get, HasNoPair, IsFirstPair, IsPair}

-- no key at the first places equals this one
abbrev pub NoneEqual : {K : Type 0} → (K → K → Bool) → List K → ℕ → K → Type 0
NoneEqual {K} eq keys n q = (j : ℕ) (y : K) → j < n → slice_get keys j ≡ Some y → eq q y ≡ false

-- the key at this place, one of the first, equals that one
pub record IsEqualAt {K : Type 0} (eq : K → K → Bool) (keys : List K) (n : ℕ) (q : K) (i : ℕ) : Type 0 where
  pub below : i < n
  pub key : K
  pub at : slice_get keys i ≡ Some key
  pub equal : eq q key ≡ true

-- no two of the first keys are equal, and a place is recorded for each of them
pub record Records {K : Type 0} (eq : K → K → Bool) (keys : List K) (n : ℕ) (recorded : K → Option ℕ) : Type 0 where
  pub none_below : (i j : ℕ) → IsPair eq keys i j → n ≤ j
  pub has : (q : K) → MatchOption (recorded q) (NoneEqual eq keys n q) (λ i. IsEqualAt eq keys n q i)

pub nothing-recorded : {K : Type 0} (eq : K → K → Bool) (keys : List K) (recorded : K → Option ℕ) → ((q : K) → recorded q ≡ None) → Records eq keys 0 recorded
nothing-recorded eq keys recorded none = record {
  none_below = λ i j p. omega arith;
  has = λ q. rw (none q) (λ j y lt at. absurd (omega arith));
}

one-key : {K : Type 0} (x y : K) → Some x ≡ Some y → x ≡ y
one-key x y e = cc

-- the next key was recorded: its recorded place is that of the first pair
pub found : {K : Type 0} (eq : K → K → Bool) (laws : IsEquivalence eq) (keys : List K) (n i : ℕ) (x : K) (recorded : K → Option ℕ)
    → Records eq keys n recorded → slice_get keys n ≡ Some x → recorded x ≡ Some i → IsFirstPair eq keys i n
found {K} eq laws keys n i x recorded h at is =
    let here : IsEqualAt eq keys n x i = rw is at (h.has x) in record {
      pair = record {
        before = here.below;
        first = here.key;
        first_at = here.at;
        second = x;
        second_at = at;
        equal = laws.symm here.key x ∙ here.equal;
      };
      min_later = h.none_below;
      min_earlier = λ k p. by k p here (cases_lt k i);
    }
  where
    by : (k : ℕ) → IsPair eq keys k n → IsEqualAt eq keys n x i → (k < i) ⊎ (i ≤ k) → i ≤ k
    by k p here (inr le) = le
    by k p here (inl lt) =
        let same : p.second ≡ x = one-key p.second x (sym p.second_at ∙ at) in
        let equal : eq p.first x ≡ true = subst (λ (y : K). eq p.first y ≡ true) same p.equal in
        let both : eq p.first here.key ≡ true = laws.congr p.first x here.key equal ∙ here.equal in
        let late = h.none_below k i (record { before = lt; first = p.first; first_at = p.first_at; second = here.key; second_at = here.at; equal = both }) in
        let below = here.below in
        absurd (omega arith)

weaker-none : {K : Type 0} (eq : K → K → Bool) (keys : List K) (n : ℕ) (x q : K) → slice_get keys n ≡ Some x → eq q x ≡ false → NoneEqual eq keys n q → NoneEqual eq keys (n + 1) q
weaker-none {K} eq keys n x q at differ h j y lt is = by (cases_lt j n)
  where
    by : (j < n) ⊎ (n ≤ j) → eq q y ≡ false
    by (inl before) = h j y before is
    by (inr le) =
        let here : j ≡ n = omega arith in
        let same : x ≡ y = one-key x y (sym at ∙ ap (slice_get keys) (sym here) ∙ is) in
        subst (λ (z : K). eq q z ≡ false) same differ

recorded-more : {K : Type 0} (eq : K → K → Bool) (laws : IsEquivalence eq) (keys : List K) (n : ℕ) (x q : K) (b : Bool) (old : Option ℕ) → slice_get keys n ≡ Some x → eq x q ≡ b
    → MatchOption old (NoneEqual eq keys n q) (λ i. IsEqualAt eq keys n q i)
    → MatchOption (cond b (Some n) old) (NoneEqual eq keys (n + 1) q) (λ i. IsEqualAt eq keys (n + 1) q i)
recorded-more eq laws keys n x q true old at is h = record { below = omega arith; key = x; at = at; equal = laws.symm q x ∙ is }
recorded-more eq laws keys n x q false None at is h = weaker-none eq keys n x q at (laws.symm q x ∙ is) h
recorded-more eq laws keys n x q false (Some i) at is h = let below = h.below in record { below = omega arith; key = h.key; at = h.at; equal = h.equal }

-- the next key was not recorded, and now it is
pub not-found : {K : Type 0} (eq : K → K → Bool) (laws : IsEquivalence eq) (keys : List K) (n : ℕ) (x : K) (recorded new : K → Option ℕ)
    → Records eq keys n recorded → slice_get keys n ≡ Some x → recorded x ≡ None → ((q : K) → new q ≡ cond (eq x q) (Some n) (recorded q)) → Records eq keys (n + 1) new
not-found {K} eq laws keys n x recorded new h at is step = record {
  none_below = λ i j p. by i j p (cases_lt n j);
  has = λ q. rw (step q) (recorded-more eq laws keys n x q (eq x q) (recorded q) at refl (h.has q));
}
  where
    none : NoneEqual eq keys n x
    none = rw is at (h.has x)

    by : (i j : ℕ) → IsPair eq keys i j → (n < j) ⊎ (j ≤ n) → n + 1 ≤ j
    by i j p (inl lt) = omega arith
    by i j p (inr le) =
        let lowest = h.none_below i j p in
        let here : j ≡ n = omega arith in
        let same : p.second ≡ x = one-key p.second x (sym p.second_at ∙ ap (slice_get keys) here ∙ at) in
        let equal : eq p.first x ≡ true = subst (λ (y : K). eq p.first y ≡ true) same p.equal in
        let before = p.before in
        let differ = none i p.first (omega arith) p.first_at in
        absurd (true≢false (sym (laws.symm x p.first ∙ equal) ∙ differ))

-- all keys were read
pub no-pair : {K : Type 0} (eq : K → K → Bool) (keys : List K) (n : ℕ) (recorded : K → Option ℕ) → Records eq keys n recorded → length keys ≤ n → HasNoPair eq keys
no-pair eq keys n recorded h end i j p =
    let within = slice_get_within keys j p.second p.second_at in
    let late = h.none_below i j p in
    omega arith
