-- Lists of open queries by time.
use Rattle.serf_agent.proofs.Names.{Bool, Err, List, Ok, OnErr, OnOk, Result, Some, [], ap, arith, cond, false, filter, get_or, length, nat_eq, not, refl, subst, suc, sym, true, zero, ℕ, ◌++◌, ◌+◌, ◌<◌, ◌∙◌, ◌∷◌, ◌≡◌, ◌≢◌, ne_eqb, or_parts, true≢false, All-cons, All-head, All-nil, All-tail, bytes_eq-Decides, list_any, lookup, set_value, All, AllPairs, bytes_eq, insert_entry}

-- a key above all others is inserted at the end
pub insert-later : {X : Type 0} (es : List (ℕ × X)) (t : ℕ) (x : X) → All (λ e. e.0 < t) es → insert_entry nat_eq es t x ≡ es ++ (t, x) ∷ []
insert-later [] t x below = refl
insert-later {X} (e ∷ es) t x below =
    let low : e.0 < t = All-head (λ (p : ℕ × X). p.0 < t) e es below in
    let other : nat_eq t e.0 ≡ false = ne_eqb t e.0 (λ q. omega arith) in
    rw other (ap (λ (l : List (ℕ × X)). e ∷ l) (insert-later es t x (All-tail (λ (p : ℕ × X). p.0 < t) e es below)))

-- the number of elements that pass a test and the number of those that don't add up to the length
pub count-rest : {X : Type 0} (test : X → Bool) (xs : List X) → length (filter test xs) + length (filter (λ x. not (test x)) xs) ≡ length xs
count-rest test [] = refl
count-rest {X} test (x ∷ xs) = by (test x) (count-rest test xs)
  where
    by : (b : Bool) → length (filter test xs) + length (filter (λ y. not (test y)) xs) ≡ length xs → length (cond b (x ∷ filter test xs) (filter test xs)) + length (cond (not b) (x ∷ filter (λ y. not (test y)) xs) (filter (λ y. not (test y)) xs)) ≡ length (x ∷ xs)
    by true ih = omega arith
    by false ih = omega arith

-- writing the value that is already there changes nothing
pub set_value-same : {X : Type 0} (test : ℕ → Bool) (es : List (ℕ × X)) (x : X) → lookup test es ≡ Some x → set_value test es x ≡ es
set_value-same test [] x is = refl
set_value-same {X} test (e ∷ es) x is = by (test e.0) is (set_value-same test es x)
  where
    by : (b : Bool) → cond b (Some e.1) (lookup test es) ≡ Some x → (lookup test es ≡ Some x → set_value test es x ≡ es) → cond b ((e.0, x) ∷ es) (e ∷ set_value test es x) ≡ e ∷ es
    by true is ih = let same : e.1 ≡ x = cc in ap (λ (v : X). (e.0, v) ∷ es) (sym same)
    by false is ih = ap (λ (l : List (ℕ × X)). e ∷ l) (ih is)

pub on_err-map : {A E : Type 0} (r : Result A E) {P Q : Type 0} → (P → Q) → OnErr r P → OnErr r Q
on_err-map (Ok x) f h = h
on_err-map (Err e) f h = f h

pub on_ok-map : {A E : Type 0} (r : Result A E) {P Q : Type 0} → (P → Q) → OnOk r P → OnOk r Q
on_ok-map (Ok x) f h = f h
on_ok-map (Err e) f h = h

-- if a call leaves one value on success and another on failure, what holds of both holds of the value that it leaves
pub either-result : {A E X : Type 0} (P : X → Type 0) (r : Result A E) {new done old : X} → OnOk r (new ≡ done) → OnErr r (new ≡ old) → P done → P old → P new
either-result P (Ok x) ok err d o = subst P (sym ok) d
either-result P (Err e) ok err d o = subst P (sym err) o

-- writing a value preserves what holds of each entry, if it also holds of an entry with this value
set_value-all : {X : Type 0} (P : ℕ × X → Type 0) (test : ℕ → Bool) (es : List (ℕ × X)) (x : X) → ((e : ℕ × X) → P e → P (e.0, x)) → All P es → All P (set_value test es x)
set_value-all P test [] x put all = all
set_value-all {X} P test (e ∷ es) x put all =
    by (test e.0) (set_value-all P test es x put rest)
  where
    head : P e
    head = All-head P e es all

    rest : All P es
    rest = All-tail P e es all

    by : (b : Bool) → All P (set_value test es x) → All P (cond b ((e.0, x) ∷ es) (e ∷ set_value test es x))
    by true ih = All-cons P (e.0, x) es (put e head) rest
    by false ih = All-cons P e (set_value test es x) head ih

-- writing a value preserves what holds of all keys, or of all values
pub set_value-keys : {X : Type 0} (P : ℕ → Type 0) (test : ℕ → Bool) (es : List (ℕ × X)) (x : X) → All (λ e. P e.0) es → All (λ e. P e.0) (set_value test es x)
set_value-keys {X} P test es x all = set_value-all (λ (e : ℕ × X). P e.0) test es x (λ e h. h) all

pub set_value-values : {X : Type 0} (P : X → Type 0) (test : ℕ → Bool) (es : List (ℕ × X)) (x : X) → P x → All (λ e. P e.1) es → All (λ e. P e.1) (set_value test es x)
set_value-values {X} P test es x px all = set_value-all (λ (e : ℕ × X). P e.1) test es x (λ e h. px) all

-- what holds of all values holds of the one that is found
pub lookup-each : {X : Type 0} (P : X → Type 0) (test : ℕ → Bool) (es : List (ℕ × X)) (x : X) → All (λ e. P e.1) es → lookup test es ≡ Some x → P x
lookup-each P test [] x all is = absurd cc
lookup-each {X} P test (e ∷ es) x all is = by (test e.0) is (lookup-each P test es x (All-tail (λ (p : ℕ × X). P p.1) e es all))
  where
    by : (b : Bool) → cond b (Some e.1) (lookup test es) ≡ Some x → (lookup test es ≡ Some x → P x) → P x
    by true found ih = let same : e.1 ≡ x = cc in subst P same (All-head (λ (p : ℕ × X). P p.1) e es all)
    by false found ih = ih found

-- writing a value preserves the keys and the length
set_value-length : {X : Type 0} (test : ℕ → Bool) (es : List (ℕ × X)) (x : X) → length (set_value test es x) ≡ length es
set_value-length test [] x = refl
set_value-length {X} test (e ∷ es) x = by (test e.0) (set_value-length test es x)
  where
    by : (b : Bool) → length (set_value test es x) ≡ length es → length (cond b ((e.0, x) ∷ es) (e ∷ set_value test es x)) ≡ length (e ∷ es)
    by true ih = refl
    by false ih = ap (λ (n : ℕ). suc n) ih

set_value-key : {X : Type 0} (test : ℕ → Bool) (es : List (ℕ × X)) (x : X) (k : ℕ) (d : ℕ × X) → (get_or (set_value test es x) k d).0 ≡ (get_or es k d).0
set_value-key test [] x k d = refl
set_value-key {X} test (e ∷ es) x k d = by (test e.0) k (λ j. set_value-key test es x j d)
  where
    by : (b : Bool) (k : ℕ) → ((j : ℕ) → (get_or (set_value test es x) j d).0 ≡ (get_or es j d).0) → (get_or (cond b ((e.0, x) ∷ es) (e ∷ set_value test es x)) k d).0 ≡ (get_or (e ∷ es) k d).0
    by true zero ih = refl
    by true (suc j) ih = refl
    by false zero ih = refl
    by false (suc j) ih = ih j

pub set_value-distinct : {X : Type 0} (test : ℕ → Bool) (es : List (ℕ × X)) (x : X) → AllPairs (λ a b. a.0 ≢ b.0) es → AllPairs (λ a b. a.0 ≢ b.0) (set_value test es x)
set_value-distinct test es x distinct i j d before within same =
    distinct i j d before (omega (arith, set_value-length test es x)) (sym (set_value-key test es x i d) ∙ same ∙ set_value-key test es x j d)

-- a name that is not among these differs from each of them
pub unlike-each : {X : Type 0} (name_of : X → List ℕ) (xs : List X) (name : List ℕ) → list_any (λ x. bytes_eq (name_of x) name) xs ≡ false → All (λ x. name_of x ≢ name) xs
unlike-each name_of [] name none = All-nil (λ x. name_of x ≢ name)
unlike-each {X} name_of (x ∷ xs) name none =
    let parts = or_parts (bytes_eq (name_of x) name) (list_any (λ y. bytes_eq (name_of y) name) xs) none in
    All-cons (λ y. name_of y ≢ name) x xs (λ same. true≢false (sym ((bytes_eq-Decides (name_of x) name).1 same) ∙ parts.0)) (unlike-each name_of xs name parts.1)
