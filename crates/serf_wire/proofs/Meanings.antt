-- Kinds of fields: a value without errors has a meaning, and a value with a meaning has no errors.
use Rattle.serf_wire.proofs.Names.{Bool, List, None, Option, Some, [], ap, cond, false, is_some, map, pos, refl, true, unwrap_or, ℕ, ℤ, ◌&&◌, ◌++◌, ◌∙◌, ◌∷◌, ◌≡◌, max_clock, Tree, array, flag, int, nil, pairs, raw, item_list, pair_list, raw_of, errors_after, items_errors, list_errors, map_errors, name_errors, number_errors, signed_errors, status_errors, status_time_errors, text_errors, time_errors, truth_errors, unless, all, both, fits, in_front, list, map_of, number, raw_keys, signed, status, status_time, text, time, truth, up_to, list_in, number_in, signed_in, status_in, status_time_in, text_in, time_in, truth_in, HasRawKeys, WireError, Kind, Layout}
use Rattle.serf_wire.proofs.Sound.{raw_keys as keys_of}

-- there is a meaning if and only if there is no error
pub record IsExact {X A : Type 0} (meaning : X → Option A) (value : X → A) (errors : X → List WireError) : Type 0 where
  pub there : (v : X) → errors v ≡ [] → meaning v ≡ Some (value v)
  pub sound : (v : X) (x : A) → meaning v ≡ Some x → errors v ≡ []

unless_there : {A : Type 0} (o : Option A) (f : WireError) (d : A) → unless o f ≡ [] → o ≡ Some (unwrap_or o d)
unless_there None f d e = absurd cc
unless_there (Some x) f d e = refl

unless_sound : {A : Type 0} (o : Option A) (f : WireError) (x : A) → o ≡ Some x → unless o f ≡ []
unless_sound None f x e = absurd cc
unless_sound (Some y) f x e = refl

pub text_exact : IsExact text text_in text_errors
text_exact = record { there = λ v e. unless_there (text v) _ [] e; sound = λ v x e. unless_sound (text v) _ x e }

pub truth_exact : IsExact truth truth_in truth_errors
truth_exact = record { there = λ v e. unless_there (truth v) _ false e; sound = λ v x e. unless_sound (truth v) _ x e }

number_there : (max : ℕ) (v : Tree) → number_errors max v ≡ [] → number max v ≡ Some (number_in max v)
number_there max (nil p) e = refl
number_there max (flag p b) e = absurd cc
number_there max (int p z) e = unless_there (up_to max z) _ 0 e
number_there max (raw p s) e = absurd cc
number_there max (array p vs) e = absurd cc
number_there max (pairs p ps) e = absurd cc

number_sound : (max : ℕ) (v : Tree) (x : ℕ) → number max v ≡ Some x → number_errors max v ≡ []
number_sound max (nil p) x e = refl
number_sound max (flag p b) x e = absurd cc
number_sound max (int p z) x e = unless_sound (up_to max z) _ x e
number_sound max (raw p s) x e = absurd cc
number_sound max (array p vs) x e = absurd cc
number_sound max (pairs p ps) x e = absurd cc

pub number_exact : (max : ℕ) → IsExact (number max) (number_in max) (number_errors max)
number_exact max = record { there = number_there max; sound = number_sound max }

time_there : (v : Tree) → time_errors v ≡ [] → time v ≡ Some (time_in v)
time_there (nil p) e = refl
time_there (flag p b) e = absurd cc
time_there (int p z) e = unless_there (up_to 18446744073709551614 z) _ 0 e
time_there (raw p s) e = absurd cc
time_there (array p vs) e = absurd cc
time_there (pairs p ps) e = absurd cc

time_sound : (v : Tree) (x : ℕ) → time v ≡ Some x → time_errors v ≡ []
time_sound (nil p) x e = refl
time_sound (flag p b) x e = absurd cc
time_sound (int p z) x e = unless_sound (up_to 18446744073709551614 z) _ x e
time_sound (raw p s) x e = absurd cc
time_sound (array p vs) x e = absurd cc
time_sound (pairs p ps) x e = absurd cc

pub time_exact : IsExact time time_in time_errors
time_exact = record { there = time_there; sound = time_sound }

signed_there : (v : Tree) → signed_errors v ≡ [] → signed v ≡ Some (signed_in v)
signed_there (nil p) e = refl
signed_there (flag p b) e = absurd cc
signed_there (int p z) e = unless_there (fits z) _ (pos 0) e
signed_there (raw p s) e = absurd cc
signed_there (array p vs) e = absurd cc
signed_there (pairs p ps) e = absurd cc

signed_sound : (v : Tree) (x : ℤ) → signed v ≡ Some x → signed_errors v ≡ []
signed_sound (nil p) x e = refl
signed_sound (flag p b) x e = absurd cc
signed_sound (int p z) x e = unless_sound (fits z) _ x e
signed_sound (raw p s) x e = absurd cc
signed_sound (array p vs) x e = absurd cc
signed_sound (pairs p ps) x e = absurd cc

pub signed_exact : IsExact signed signed_in signed_errors
signed_exact = record { there = signed_there; sound = signed_sound }

-- lists of items with this property

both_empty : {A : Type 0} (xs ys : List A) → xs ++ ys ≡ [] → (xs ≡ []) × (ys ≡ [])
both_empty [] ys e = (refl, e)
both_empty (x ∷ xs) ys e = absurd cc

in_front_is : {A : Type 0} (o : Option A) (p : Option (List A)) (x : A) (xs : List A) → o ≡ Some x → p ≡ Some xs → in_front o p ≡ Some (x ∷ xs)
in_front_is o p x xs e f = rw (e, f) refl

record InFront {A : Type 0} (o : Option A) (p : Option (List A)) : Type 0 where
  one : A
  more : List A
  one_is : o ≡ Some one
  more_is : p ≡ Some more

in_front_from : {A : Type 0} (o : Option A) (p : Option (List A)) (xs : List A) → in_front o p ≡ Some xs → InFront o p
in_front_from None p xs e = absurd cc
in_front_from (Some x) None xs e = absurd cc
in_front_from (Some x) (Some ys) xs e = record { one = x; more = ys; one_is = refl; more_is = refl }

module _ {X A : Type 0} (meaning : X → Option A) (value : X → A) (errors : X → List WireError) (exact : IsExact meaning value errors) where
  all_there : (vs : List X) → items_errors errors vs ≡ [] → all meaning vs ≡ Some (map value vs)
  all_there [] e = refl
  all_there (v ∷ vs) e =
      let both = both_empty (errors v) (items_errors errors vs) e in
      in_front_is (meaning v) (all meaning vs) (value v) (map value vs) (exact.there v both.0) (all_there vs both.1)

  all_sound : (vs : List X) (xs : List A) → all meaning vs ≡ Some xs → items_errors errors vs ≡ []
  all_sound [] xs e = refl
  all_sound (v ∷ vs) xs e =
      let f = in_front_from (meaning v) (all meaning vs) xs e in
      rw (exact.sound v f.one f.one_is) (all_sound vs f.more f.more_is)

module _ {A : Type 0} (meaning : Tree → Option A) (value : Tree → A) (errors : Tree → List WireError) (exact : IsExact meaning value errors) where
  list_there : (v : Tree) → list_errors errors v ≡ [] → list meaning v ≡ Some (list_in value v)
  list_there (nil p) e = refl
  list_there (flag p b) e = absurd cc
  list_there (int p z) e = absurd cc
  list_there (raw p s) e = absurd cc
  list_there (array p vs) e = all_there meaning value errors exact (item_list vs) e
  list_there (pairs p ps) e = absurd cc

  list_sound : (v : Tree) (xs : List A) → list meaning v ≡ Some xs → list_errors errors v ≡ []
  list_sound (nil p) xs e = refl
  list_sound (flag p b) xs e = absurd cc
  list_sound (int p z) xs e = absurd cc
  list_sound (raw p s) xs e = absurd cc
  list_sound (array p vs) xs e = all_sound meaning value errors exact (item_list vs) xs e
  list_sound (pairs p ps) xs e = absurd cc

  pub list_exact : IsExact (list meaning) (list_in value) (list_errors errors)
  list_exact = record { there = list_there; sound = list_sound }

-- ---- the names with their times

pub record AreBoth {A B C : Type 0} (make : A → B → C) (o : Option A) (p : Option B) (x : C) : Type 0 where
  pub one : A
  pub other : B
  pub one_is : o ≡ Some one
  pub other_is : p ≡ Some other

pub both_from : {A B C : Type 0} (make : A → B → C) (o : Option A) (p : Option B) (x : C) → both make o p ≡ Some x → AreBoth make o p x
both_from make None p x e = absurd cc
both_from make (Some a) None x e = absurd cc
both_from make (Some a) (Some b) x e = record { one = a; other = b; one_is = refl; other_is = refl }

name_there : (v : Tree) → name_errors v (raw_of v) ≡ [] → raw_of v ≡ Some (text_in v)
name_there (nil p) e = absurd cc
name_there (flag p b) e = absurd cc
name_there (int p z) e = absurd cc
name_there (raw p s) e = refl
name_there (array p vs) e = absurd cc
name_there (pairs p ps) e = absurd cc

status_time_there : (p : Tree × Tree) → status_time_errors p ≡ [] → status_time p ≡ Some (status_time_in p)
status_time_there p e =
    let parts = both_empty (name_errors p.0 (raw_of p.0)) _ e in
    rw (name_there p.0 parts.0, number_there max_clock p.1 parts.1) refl

status_time_sound : (p : Tree × Tree) (x : List ℕ × ℕ) → status_time p ≡ Some x → status_time_errors p ≡ []
status_time_sound p x e =
    let b = both_from (λ name time. (name, time)) (raw_of p.0) (number max_clock p.1) x e in
    rw (b.one_is, number_sound max_clock p.1 b.other b.other_is) refl

status_time_exact : IsExact status_time status_time_in status_time_errors
status_time_exact = record { there = status_time_there; sound = status_time_sound }

status_there : (v : Tree) → status_errors v ≡ [] → status v ≡ Some (status_in v)
status_there (nil p) e = refl
status_there (flag p b) e = absurd cc
status_there (int p z) e = absurd cc
status_there (raw p s) e = absurd cc
status_there (array p vs) e = absurd cc
status_there (pairs p ps) e = all_there status_time status_time_in status_time_errors status_time_exact (pair_list ps) e

status_sound : (v : Tree) (xs : List (List ℕ × ℕ)) → status v ≡ Some xs → status_errors v ≡ []
status_sound (nil p) xs e = refl
status_sound (flag p b) xs e = absurd cc
status_sound (int p z) xs e = absurd cc
status_sound (raw p s) xs e = absurd cc
status_sound (array p vs) xs e = absurd cc
status_sound (pairs p ps) xs e = all_sound status_time status_time_in status_time_errors status_time_exact (pair_list ps) xs e

pub status_exact : IsExact status status_in status_errors
status_exact = record { there = status_there; sound = status_sound }

-- maps of values with this property

raw_keys_true : (ps : List (Tree × Tree)) → HasRawKeys ps → raw_keys ps ≡ true
raw_keys_true [] keys = refl
raw_keys_true (p ∷ ps) keys = rw keys.0 (raw_keys_true ps keys.1)

keys_by : (p : Tree × Tree) (ps : List (Tree × Tree)) → (raw_keys ps ≡ true → HasRawKeys ps) → (b : Bool) → is_some (raw_of p.0) ≡ b → (b && raw_keys ps) ≡ true → HasRawKeys (p ∷ ps)
keys_by p ps others true is f = (is, others f)
keys_by p ps others false is f = absurd cc

raw_keys_are : (ps : List (Tree × Tree)) → raw_keys ps ≡ true → HasRawKeys ps
raw_keys_are [] e = tt
raw_keys_are (p ∷ ps) e = keys_by p ps (raw_keys_are ps) _ refl e

-- the value of a map's pairs, or zero
abbrev pub pairs_value : {A : Type 0} → A → (List (Tree × Tree) → A) → Tree → A
pairs_value zero value (nil p) = zero
pairs_value zero value (flag p b) = zero
pairs_value zero value (int p z) = zero
pairs_value zero value (raw p s) = zero
pairs_value zero value (array p vs) = zero
pairs_value zero value (pairs p ps) = value (pair_list ps)

module _ {A : Type 0} (zero : A) (fields : List (Tree × Tree) → Option A) (vf : Kind → Tree → List WireError) (layout : Layout) (value : List (Tree × Tree) → A) {seen : Tree → A} (shows : (v : Tree) → pairs_value zero value v ≡ seen v)
    (there : (ps : List (Tree × Tree)) → errors_after vf layout [] ps ≡ [] → fields ps ≡ Some (value ps))
    (sound : (ps : List (Tree × Tree)) (x : A) → HasRawKeys ps → fields ps ≡ Some x → errors_after vf layout [] ps ≡ []) where
  map_there : (v : Tree) → map_errors vf layout v ≡ [] → map_of zero fields v ≡ Some (pairs_value zero value v)
  map_there (nil p) e = refl
  map_there (flag p b) e = absurd cc
  map_there (int p z) e = absurd cc
  map_there (raw p s) e = absurd cc
  map_there (array p vs) e = absurd cc
  map_there (pairs p ps) e = rw (raw_keys_true _ (keys_of vf layout [] (pair_list ps) e)) (there (pair_list ps) e)

  by_keys : (ps : List (Tree × Tree)) (x : A) (b : Bool) → raw_keys ps ≡ b → cond b (fields ps) None ≡ Some x → errors_after vf layout [] ps ≡ []
  by_keys ps x true is e = sound ps x (raw_keys_are ps is) e
  by_keys ps x false is e = absurd cc

  map_sound : (v : Tree) (x : A) → map_of zero fields v ≡ Some x → map_errors vf layout v ≡ []
  map_sound (nil p) x e = refl
  map_sound (flag p b) x e = absurd cc
  map_sound (int p z) x e = absurd cc
  map_sound (raw p s) x e = absurd cc
  map_sound (array p vs) x e = absurd cc
  map_sound (pairs p ps) x e = by_keys (pair_list ps) x _ refl e

  pub map_exact : IsExact (map_of zero fields) seen (map_errors vf layout)
  map_exact = record { there = λ v e. map_there v e ∙ ap (λ x. Some x) (shows v); sound = map_sound }
