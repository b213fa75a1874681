-- What the result of two steps of a reading says about each step.
use Rattle.serf_pack.proofs.Names.{Bool, Err, Ok, Result, cond, false, inl, inr, refl, true, ◌≡◌, ◌⊎◌, ◌>>=◌, PackError}

-- Ok and Err with the type of the other case fixed
abbrev pub done : {A : Type 0} → A → Result A PackError
done x = Ok x

abbrev pub refused : {A : Type 0} → PackError → Result A PackError
refused f = Err f

pub ok_is : {A : Type 0} (x y : A) → done x ≡ done y → x ≡ y
ok_is x y e = cc

pub error_is : {A : Type 0} (f g : PackError) → refused {A = A} f ≡ refused g → g ≡ f
error_is f g e = cc

-- both steps succeeded
pub bind_ok : {A B : Type 0} (r : Result A PackError) (f : A → Result B PackError) (y : B) → (r >>= f) ≡ Ok y → (x : A) × (r ≡ Ok x) × (f x ≡ Ok y)
bind_ok (Ok x) f y e = (x, refl, e)
bind_ok (Err d) f y e = absurd cc

-- either the first step failed, or the next one did
pub bind_err : {A B : Type 0} (r : Result A PackError) (f : A → Result B PackError) (d : PackError) → (r >>= f) ≡ Err d → (r ≡ Err d) ⊎ ((x : A) × (r ≡ Ok x) × (f x ≡ Err d))
bind_err (Ok x) f d e = inr (x, refl, e)
bind_err (Err g) f d e = let same : g ≡ d = cc in inl (rw same refl)

-- a test that had to be false
pub guard_ok : {A : Type 0} (b : Bool) (d : PackError) (x y : A) → cond b (Err d) (Ok x) ≡ Ok y → (b ≡ false) × (x ≡ y)
guard_ok true d x y e = absurd cc
guard_ok false d x y e = (refl, cc)

pub guard_err : {A : Type 0} (b : Bool) (d f : PackError) (x : A) → cond b (Err d) (Ok x) ≡ Err f → (b ≡ true) × (f ≡ d)
guard_err true d f x e = (refl, cc)
guard_err false d f x e = absurd cc
