-- The counts after one more record.
use Rattle.serf_replay.proofs.Names.{Bool, Err, List, None, Ok, Option, Result, Some, [], ap, cond, false, map, refl, sym, true, ℕ, ◌++◌, ◌∙◌, ◌∷◌, ◌≡◌, map-append, fold-append, fold, keys_of, OnOk, insert_entry, again, firsts, recorded, frequency_in, with_first, with_record, Frequency}

frequency-push : {X : Type 0} (is : X → Bool) (records : List (X × ℕ)) (x : X) (n : ℕ) → frequency_in is (records ++ (x, n) ∷ []) ≡ with_record is (frequency_in is records) (x, n)
frequency-push is records x n = fold-append (with_record is) None records ((x, n) ∷ [])

-- two tests that agree find the same count
fold-same : {X : Type 0} (is other : X → Bool) (s : Option Frequency) (records : List (X × ℕ)) → ((x : X) → is x ≡ other x) → fold (with_record is) s records ≡ fold (with_record other) s records
fold-same is other s [] agree = refl
fold-same is other s (count_one ∷ records) agree =
    ap (λ (b : Bool). fold (with_record is) (cond b (Some (again count_one.1 s)) s) records) (agree count_one.0) ∙ fold-same is other (with_record other s count_one) records agree

-- what a table has for each key after a thing with some key was recorded
pub recorded-more : {X K : Type 0} (is : K → X → Bool) (records : List (X × ℕ)) (x : X) (key : K) (n : ℕ) (old new : K → Option Frequency) (q : K) (b : Bool)
    → ((k : K) → old k ≡ frequency_in (is k) records) → new q ≡ recorded b (again n (old key)) (old q) → is q x ≡ b → (b ≡ true → (y : X) → is key y ≡ is q y)
    → new q ≡ frequency_in (is q) (records ++ (x, n) ∷ [])
recorded-more is records x key n old new q true h step here same =
    step ∙ ap (λ s. Some (again n s)) (h key ∙ fold-same (is key) (is q) None records (same refl))
    ∙ sym (ap (λ (b : Bool). cond b (Some (again n (frequency_in (is q) records))) (frequency_in (is q) records)) here) ∙ sym (frequency-push (is q) records x n)
recorded-more is records x key n old new q false h step here same =
    step ∙ h q ∙ sym (ap (λ (b : Bool). cond b (Some (again n (frequency_in (is q) records))) (frequency_in (is q) records)) here) ∙ sym (frequency-push (is q) records x n)

-- a key that is inserted is put at the end if it is new
keys-push : {K V X : Type 0} (eq : K → K → Bool) (same : V → V → Bool) (view : K → V) (agree : (x y : K) → eq x y ≡ same (view x) (view y)) (es : List (K × X)) (k : K) (x : X)
    → map view (keys_of (insert_entry eq es k x)) ≡ with_first same (map view (keys_of es)) (view k)
keys-push eq same view agree [] k x = refl
keys-push {K} {V} {X} eq same view agree (e ∷ es) k x = by (eq k e.0) (agree k e.0) (keys-push eq same view agree es k x)
  where
    olds : List V
    olds = view e.0 ∷ map view (keys_of es)

    more : List V
    more = view e.0 ∷ with_first same (map view (keys_of es)) (view k)

    by : (b : Bool) → b ≡ same (view k) (view e.0) → map view (keys_of (insert_entry eq es k x)) ≡ with_first same (map view (keys_of es)) (view k)
        → map view (keys_of (cond b ((e.0, x) ∷ es) (e ∷ insert_entry eq es k x))) ≡ cond (same (view k) (view e.0)) olds more
    by true is rest = ap (λ (c : Bool). cond c olds more) is
    by false is rest = ap (λ l. view e.0 ∷ l) rest ∙ ap (λ (c : Bool). cond c olds more) is

-- the order of a table's keys after one more record
pub order-more : {K V X N : Type 0} (eq : K → K → Bool) (same : V → V → Bool) (view : K → V) (agree : (x y : K) → eq x y ≡ same (view x) (view y)) (what : N → V)
    (records : List N) (count_one : N) (old new : List (K × X)) (k : K) (x : X)
    → new ≡ insert_entry eq old k x → view k ≡ what count_one → map view (keys_of old) ≡ firsts same (map what records)
    → map view (keys_of new) ≡ firsts same (map what (records ++ count_one ∷ []))
order-more {K} {V} {X} eq same view agree what records count_one old new k x step is before =
    ap (λ (es : List (K × X)). map view (keys_of es)) step ∙ keys-push eq same view agree old k x
    ∙ ap (λ (vs : List V). with_first same vs (view k)) before ∙ ap (with_first same (firsts same (map what records))) is
    ∙ sym (fold-append (with_first same) [] (map what records) (what count_one ∷ [])) ∙ ap (firsts same) (sym (map-append what records (count_one ∷ [])))

pub on-ok-both : {T E P Q R : Type 0} (r : Result T E) → (P → Q → R) → OnOk r P → OnOk r Q → OnOk r R
on-ok-both (Ok x) f p q = f p q
on-ok-both (Err e) f p q = tt
