-- Equal keys, if a view of a key is compared.
use Rattle.serf_judge.proofs.Names.{Bool, Decides, List, None, Option, Some, ap, map, refl, sym, ℕ, ◌∙◌, ◌≡◌, slice_get-map, option_map, MatchOption, slice_get, HasNoPair, IsFirstPair, IsPair, AreFirstTwo, HasNoTwo, IsTwice}

-- a key with this view
pub record HasKey {K X : Type 0} (view : K → X) (found : Option K) (x : X) : Type 0 where
  pub key : K
  pub is : found ≡ Some key
  pub seen : view key ≡ x

pub has-key : {K X : Type 0} (view : K → X) (found : Option K) (x : X) → option_map view found ≡ Some x → HasKey view found x
has-key view None x e = absurd (cc)
has-key view (Some k) x e = record { key = k; is = refl; seen = cc }

is-twice : {K X : Type 0} (eq : K → K → Bool) (view : K → X) (keys : List K) (i j : ℕ) → ((x y : K) → Decides (eq x y) (view x ≡ view y)) → IsPair eq keys i j → IsTwice (map view keys) i j
is-twice eq view keys i j decides p = record {
  before = p.before;
  item = view p.second;
  first_at = slice_get-map view keys i ∙ ap (option_map view) p.first_at ∙ ap (λ x. Some x) ((decides p.first p.second).0 p.equal);
  second_at = slice_get-map view keys j ∙ ap (option_map view) p.second_at;
}

is-pair : {K X : Type 0} (eq : K → K → Bool) (view : K → X) (keys : List K) (i j : ℕ) → ((x y : K) → Decides (eq x y) (view x ≡ view y)) → IsTwice (map view keys) i j → IsPair eq keys i j
is-pair eq view keys i j decides t =
    let first = has-key view (slice_get keys i) t.item (sym (slice_get-map view keys i) ∙ t.first_at) in
    let second = has-key view (slice_get keys j) t.item (sym (slice_get-map view keys j) ∙ t.second_at) in record {
      before = t.before;
      first = first.key;
      first_at = first.is;
      second = second.key;
      second_at = second.is;
      equal = (decides first.key second.key).1 (first.seen ∙ sym second.seen);
    }

-- what a search for equal keys shows for the things that the keys are of
pub twice-from-pairs : {K X : Type 0} (eq : K → K → Bool) (view : K → X) (keys : List K) (pair : Option (ℕ × ℕ)) → ((x y : K) → Decides (eq x y) (view x ≡ view y))
    → MatchOption pair (HasNoPair eq keys) (λ places. IsFirstPair eq keys places.0 places.1)
    → MatchOption pair (HasNoTwo (map view keys)) (λ places. AreFirstTwo (map view keys) places.0 places.1)
twice-from-pairs eq view keys None decides h = λ i j t. h i j (is-pair eq view keys i j decides t)
twice-from-pairs eq view keys (Some places) decides h = record {
  twice = is-twice eq view keys places.0 places.1 decides h.pair;
  min_later = λ i j t. h.min_later i j (is-pair eq view keys i j decides t);
  min_earlier = λ i t. h.min_earlier i (is-pair eq view keys i places.1 decides t);
}
