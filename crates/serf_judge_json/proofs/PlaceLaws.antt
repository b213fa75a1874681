-- Dates in the order of their lines.
use Rattle.serf_judge_json.proofs.Names.{Bool, IsTrue, List, None, Some, [], ap, arith, false, get_or, length, nat_eq, nat_le, nat_lt, refl, sym, true, true≢false, ℕ, ◌+◌, ◌<◌, ◌==◌, ◌↔◌, ◌∙◌, ◌∷◌, ◌≡◌, ◌≤◌, ◌⊎◌, inl, inr, cases_lt, le-leb, leb-true, nat_tests, find_at, IsNonDecreasingBy-from_all_adjacent, position_or_len_is, slice_get_cases, slice_get-get_or, slice_get_past, IsAllAdjacentAnswer, IsPartitionPoint, find, slice_get, DatedLine, AreInOrder}

-- each date is not above the next one
pub in-order : (dates : List DatedLine) (r : Bool) → IsAllAdjacentAnswer (λ x y b. b ≡ nat_le x.line y.line) dates r → IsTrue r ↔ AreInOrder dates
in-order dates true h = (λ _. IsNonDecreasingBy-from_all_adjacent (λ (x : DatedLine). x.line) dates (λ k d more. leb-true _ _ (sym (h k d more))), λ _. refl)
in-order dates false h = (λ t. absurd (cc t), λ order. absurd (by order (slice_get_cases dates h.0).1))
  where
    by : AreInOrder dates → ((x : DatedLine) × (h.0 < length dates) × (slice_get dates h.0 ≡ Some x) × (get_or dates h.0 x ≡ x)) ⊎ ((length dates ≤ h.0) × (slice_get dates h.0 ≡ None)) → ⊥
    by order (inl found) =
        let x = found.0 in
        let le = order h.0 (h.0 + 1) x (omega arith) h.1 in
        true≢false (sym (le-leb (get_or dates h.0 x).line (get_or dates (h.0 + 1) x).line le) ∙ sym (h.2 x))
    by order (inr past) = let high = past.0 in let low = h.1 in omega (arith, high, low)

abbrev pub IsPlaceOf : ℕ → List DatedLine → ℕ → Type 0
IsPlaceOf line dates place = IsPartitionPoint (λ (y : DatedLine). nat_lt y.line line ≡ true) (λ (y : DatedLine). nat_lt y.line line ≡ false) dates place

below : (a b : ℕ) → nat_lt a b ≡ true → nat_eq a b ≡ false
below a b h = grind (arith, nat_tests)

above : (a b c : ℕ) → nat_lt a c ≡ false → (a ≡ c → ⊥) → a ≤ b → nat_eq b c ≡ false
above a b c h ne le = grind (arith, nat_tests)

same : (a b : ℕ) → a ≡ b → nat_eq a b ≡ true
same a b h = grind (arith, nat_tests)

-- the date before which all lines are smaller is that of the line
pub found_there : (dates : List DatedLine) (line place : ℕ) (d : DatedLine) → IsPlaceOf line dates place → place < length dates → d ≡ get_or dates place d → d.line ≡ line → find (λ dated. dated.line == line) dates ≡ Some d
found_there dates line place d point within at is =
    let here = ap (λ (x : DatedLine). x.line) (sym at) ∙ is in
    find_at (λ (x : DatedLine). x.line == line) dates
    ∙ ap (slice_get dates) (position_or_len_is (λ (x : DatedLine). x.line == line) dates place d (omega (arith, within)) (λ k lt. below _ _ (point.0 k d (omega arith) lt)) (λ _. same _ _ here))
    ∙ slice_get-get_or dates place d within ∙ ap Some (sym at)

-- or the line has no date
pub found_nowhere : (dates : List DatedLine) (line place : ℕ) → AreInOrder dates → IsPlaceOf line dates place → ((d : DatedLine) → place < length dates → (get_or dates place d).line ≡ line → ⊥) → find (λ dated. dated.line == line) dates ≡ None
found_nowhere [] line place order point apart = refl
found_nowhere (d ∷ ds) line place order point apart =
    find_at is dates ∙ ap (slice_get dates) (position_or_len_is is dates (length dates) d (omega arith) fails (λ lt. absurd (omega (arith, lt)))) ∙ slice_get_past dates (length dates) (omega arith)
  where
    dates : List DatedLine
    dates = d ∷ ds

    is : DatedLine → Bool
    is x = x.line == line

    fails : (k : ℕ) → k < length dates → is (get_or dates k d) ≡ false
    fails k lt = elim (cases_lt k place) [
      | inl before ↦ below _ _ (point.0 k d (omega arith) before)
      | inr after ↦
          let there : place < length dates = omega (arith, after, lt) in
          above (get_or dates place d).line (get_or dates k d).line line (point.1 place d (omega arith) there) (apart d there) (order place k d after lt)
    ]
