-- What is read with a limit on nesting is also read with a higher limit.
use Rattle.serf_pack.proofs.Names.{Err, List, Ok, Result, arith, refl, suc, zero, ℕ, ◌≡◌, ◌≤◌, Reader, parts_by, place, too_deep, ◌>>=◌, head_at, items_at, pairs_at, value_at, Items, Pairs, Tree, array, item, pair, pairs, PackError, Head}
use Rattle.serf_pack.specs.declared.head.Head.TheVariants as heads

-- whatever the first reader reads, the second reads in the same way
abbrev ReadsAlso : {A : Type 0} → Reader A → Reader A → Type 0
ReadsAlso {A} less more = (bytes : List ℕ) (x : A × List ℕ) → less bytes ≡ Ok x → more bytes ≡ Ok x

-- the same, for one reading
abbrev GivesAlso : {A : Type 0} → Result (A × List ℕ) PackError → Result (A × List ℕ) PackError → Type 0
GivesAlso {A} less more = (x : A × List ℕ) → less ≡ Ok x → more ≡ Ok x

-- a step after a reading
step_also : {A B : Type 0} (less more : Result (A × List ℕ) PackError) (f g : A × List ℕ → Result (B × List ℕ) PackError) → GivesAlso less more → ((x : A × List ℕ) → GivesAlso (f x) (g x)) → GivesAlso (less >>= f) (more >>= g)
step_also (Ok x) more f g first next y e = rw (first x refl) (next x y e)
step_also (Err error) more f g first next y e = absurd cc

items_also : (less more : Reader Tree) → ReadsAlso less more → (n : ℕ) → ReadsAlso (items_at less n) (items_at more n)
unfolding items_at
items_also less more also zero bytes = λ x e. e
items_also less more also (suc n) bytes =
    step_also (less bytes) (more bytes) _ _ (also bytes) (λ v. step_also (items_at less n v.1) (items_at more n v.1) (λ vs. Ok (item v.0 vs.0, vs.1)) (λ vs. Ok (item v.0 vs.0, vs.1)) (items_also less more also n v.1) (λ vs y e. e))

pairs_also : (less more : Reader Tree) → ReadsAlso less more → (n : ℕ) → ReadsAlso (pairs_at less n) (pairs_at more n)
unfolding pairs_at
pairs_also less more also zero bytes = λ x e. e
pairs_also less more also (suc n) bytes =
    step_also (less bytes) (more bytes) _ _ (also bytes) (λ k. step_also (less k.1) (more k.1) _ _ (also k.1)
    (λ v. step_also (pairs_at less n v.1) (pairs_at more n v.1) (λ ps. Ok (pair k.0 v.0 ps.0, ps.1)) (λ ps. Ok (pair k.0 v.0 ps.0, ps.1)) (pairs_also less more also n v.1) (λ ps y e. e)))

parts_also : (items items' : ℕ → Reader Items) (members members' : ℕ → Reader Pairs) → ((n : ℕ) → ReadsAlso (items n) (items' n)) → ((n : ℕ) → ReadsAlso (members n) (members' n)) → (p : ℕ) (h : Head) (rest : List ℕ)
    → GivesAlso (parts_by items members p h rest) (parts_by items' members' p h rest)
parts_also items items' members members' is ms p heads.Nil rest = λ x e. e
parts_also items items' members members' is ms p (heads.Flag b) rest = λ x e. e
parts_also items items' members members' is ms p (heads.Int z) rest = λ x e. e
parts_also items items' members members' is ms p (heads.Raw n) rest = λ x e. e
parts_also items items' members members' is ms p (heads.Array n) rest = step_also (items n rest) (items' n rest) (λ vs. Ok (array p vs.0, vs.1)) (λ vs. Ok (array p vs.0, vs.1)) (is n rest) (λ vs y e. e)
parts_also items items' members members' is ms p (heads.Map n) rest = step_also (members n rest) (members' n rest) (λ ps. Ok (pairs p ps.0, ps.1)) (λ ps. Ok (pairs p ps.0, ps.1)) (ms n rest) (λ ps y e. e)

refused_also : {A : Type 0} (p : ℕ) (more : ℕ → Reader A) (n : ℕ) → ReadsAlso (too_deep p n) (more n)
refused_also p more n bytes x e = absurd cc

pub value_also : (depth_left more total : ℕ) → depth_left ≤ more → ReadsAlso (value_at depth_left total) (value_at more total)
unfolding value_at
value_also zero zero total le bytes = λ x e. e
value_also zero (suc more) total le bytes =
    let p = place total bytes in
    step_also (head_at total bytes) (head_at total bytes) _ _ (λ h e. e)
    (λ h. parts_also (too_deep p) (items_at (value_at more total)) (too_deep p) (pairs_at (value_at more total)) (refused_also p (items_at (value_at more total))) (refused_also p (pairs_at (value_at more total))) p h.0 h.1)
value_also (suc depth_left) zero total le bytes = absurd (omega arith)
value_also (suc depth_left) (suc more) total le bytes =
    let less = value_at depth_left total in
    let roomier = value_at more total in
    let also = value_also depth_left more total (omega arith) in
    step_also (head_at total bytes) (head_at total bytes) _ _ (λ h e. e)
    (λ h. parts_also (items_at less) (items_at roomier) (pairs_at less) (pairs_at roomier) (items_also less roomier also) (pairs_also less roomier also) (place total bytes) h.0 h.1)
