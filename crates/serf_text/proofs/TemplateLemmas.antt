-- A template, filled up to its first blank.
use Rattle.serf_text.proofs.Names.{All, List, Some, [], add-one, ap, arith, drop, false, filled, get_or, length, position, position-Some, refl, suc, take, true, zero, ℕ, ◌++◌, ◌+◌, ◌-◌, ◌<◌, ◌==◌, ◌∷◌, ◌≡◌, common_steps}

-- no bytes have no blank
pub nothing-filled : {P : Type 0} (words : P → List ℕ) (parts : List P) → filled words [] parts ≡ []
nothing-filled words [] = refl
nothing-filled words (part ∷ parts) = refl

-- a text without a blank
pub none-filled : {P : Type 0} (words : P → List ℕ) (text : List ℕ) (part : P) (parts : List P) → All (λ b. (b == 126) ≡ false) text → filled words text (part ∷ parts) ≡ text
none-filled words [] part parts none = refl
none-filled words (b ∷ bs) part parts none =
    let first : (b == 126) ≡ false = none 0 0 (omega arith) in
    let others : All (λ c. (c == 126) ≡ false) bs = λ k d h. none (suc k) d (omega (arith, h)) in
    rw first (ap (λ t. b ∷ t) (none-filled words bs part parts others))

-- a text up to its first blank, what fills the blank, and the rest
filled_at : {P : Type 0} (words : P → List ℕ) (text : List ℕ) (k : ℕ) (part : P) (parts : List P)
    → k < length text → (get_or text k 0 == 126) ≡ true → ((i : ℕ) → i < k → (get_or text i 0 == 126) ≡ false)
    → filled words text (part ∷ parts) ≡ take k text ++ (words part ++ filled words (drop (suc k) text) parts)
filled_at words [] k part parts low at before = absurd (omega (arith, low))
filled_at words (b ∷ bs) zero part parts low at before = rw at refl
filled_at words (b ∷ bs) (suc k) part parts low at before =
    rw (before 0 (omega arith)) (ap (λ t. b ∷ t) (filled_at words bs k part parts (omega (arith, low)) at (λ i h. before (suc i) (omega (arith, h)))))

pub some-filled : {P : Type 0} (words : P → List ℕ) (text : List ℕ) (k : ℕ) (part : P) (parts : List P) → position (λ b. b == 126) text ≡ Some k
    → filled words text (part ∷ parts) ≡ take k text ++ (words part ++ filled words (take (length text - (k + 1)) (drop (k + 1) text)) parts)
some-filled words text k part parts e =
    let h = position-Some (λ (b : ℕ). b == 126) text k 0 e in
    let whole : take (length text - (k + 1)) (drop (k + 1) text) ≡ drop (k + 1) text = grind (arith, common_steps) in
    rw (whole, add-one k) (filled_at words text k part parts h.0 h.1 h.2)
