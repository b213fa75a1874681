-- The items of a list at its first places, one after another.
use Rattle.serf_judge.proofs.Names.{List, Some, ap, arith, inl, inr, subst, sym, ℕ, ◌+◌, ◌<◌, ◌∙◌, ◌≡◌, ◌≤◌, ◌⊎◌, cases_lt, slice_get}

-- what holds for the first items, and for the next one
pub below-or-here : {X : Type 0} (P : X → Type 0) (items : List X) (n : ℕ) (item : X) → slice_get items n ≡ Some item
    → ((k : ℕ) (x : X) → k < n → slice_get items k ≡ Some x → P x) → P item → (k : ℕ) (x : X) → k < n + 1 → slice_get items k ≡ Some x → P x
below-or-here P items n item at h here k x lt is = by (cases_lt k n)
  where
    one : Some item ≡ Some x → item ≡ x
    one s = cc s

    by : (k < n) ⊎ (n ≤ k) → P x
    by (inl before) = h k x before is
    by (inr le) = let same : k ≡ n = omega arith in subst P (one (sym at ∙ ap (slice_get items) (sym same) ∙ is)) here
