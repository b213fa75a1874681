-- Texts split at a byte.
use Rattle.serf_snapshot.proofs.Names.{Bool, List, None, Some, [], ap, arith, cond, drop, false, length, refl, sym, take, true, ℕ, ◌+◌, ◌-◌, ◌<◌, ◌==◌, ◌∙◌, ◌∷◌, ◌≡◌, ◌≤◌, common_steps, position-Some, slice_split_first, slice_split_none, position_or_len_is, All, onto_first, position, position_or_len, slice_split, lines_of, onto_line, event_from_parts, query_from_parts}

pub cut_some : (s : ℕ) (xs : List ℕ) (k : ℕ) → position (λ b. b == s) xs ≡ Some k
    → slice_split (λ b. b == s) xs ≡ take k xs ∷ slice_split (λ b. b == s) (take (length xs - (k + 1)) (drop (k + 1) xs))
cut_some s xs k e =
    let h = position-Some (λ (b : ℕ). b == s) xs k 0 e in
    let within : k ≤ length xs = omega (arith, h.0) in
    let at : position_or_len (λ b. b == s) xs ≡ k = position_or_len_is (λ b. b == s) xs k 0 within h.2 (λ _. h.1) in
    let lt : position_or_len (λ b. b == s) xs < length xs = rw at h.0 in
    let whole : take (length xs - (k + 1)) (drop (k + 1) xs) ≡ drop (k + 1) xs = grind (arith, common_steps) in
    rw whole (rw at at (slice_split_first (λ (b : ℕ). b == s) xs 0 lt))

pub cut_none : (s : ℕ) (xs : List ℕ) → All (λ b. (b == s) ≡ false) xs → slice_split (λ b. b == s) xs ≡ xs ∷ []
cut_none s xs none = slice_split_none (λ (b : ℕ). b == s) xs none

-- there is always a first part
pub some_part : (s : ℕ) (xs : List ℕ) → (p : List ℕ) × (ps : List (List ℕ)) × (slice_split (λ b. b == s) xs ≡ p ∷ ps)
some_part s [] = ([], [], refl)
some_part s (x ∷ xs) = step (x == s) (some_part s xs)
  where
    onto : (parts : List (List ℕ)) → (p : List ℕ) × (ps : List (List ℕ)) × (parts ≡ p ∷ ps) → (p : List ℕ) × (ps : List (List ℕ)) × (onto_first x parts ≡ p ∷ ps)
    onto [] h = absurd (cc h.2)
    onto (q ∷ qs) h = (x ∷ q, qs, refl)

    step : (t : Bool) → (p : List ℕ) × (ps : List (List ℕ)) × (slice_split (λ b. b == s) xs ≡ p ∷ ps)
        → (p : List ℕ) × (ps : List (List ℕ)) × (cond t ([] ∷ slice_split (λ b. b == s) xs) (onto_first x (slice_split (λ b. b == s) xs)) ≡ p ∷ ps)
    step true ih = ([], slice_split (λ b. b == s) xs, refl)
    step false ih = onto (slice_split (λ b. b == s) xs) ih

-- the lines of a text are all its parts except the last
but_last : List (List ℕ) → List (List ℕ)
but_last [] = []
but_last (p ∷ []) = []
but_last (p ∷ q ∷ qs) = p ∷ but_last (q ∷ qs)

lines_are : (xs : List ℕ) → lines_of xs ≡ but_last (slice_split (λ b. b == 10) xs)
unfolding but_last
lines_are [] = refl
lines_are (x ∷ xs) = step (x == 10) (slice_split (λ b. b == 10) xs) refl (lines_are xs) (some_part 10 xs)
  where
    step : (t : Bool) (parts : List (List ℕ)) → slice_split (λ b. b == 10) xs ≡ parts → lines_of xs ≡ but_last (slice_split (λ b. b == 10) xs)
        → (p : List ℕ) × (ps : List (List ℕ)) × (slice_split (λ b. b == 10) xs ≡ p ∷ ps)
        → cond t ([] ∷ lines_of xs) (onto_line x (lines_of xs)) ≡ but_last (cond t ([] ∷ slice_split (λ b. b == 10) xs) (onto_first x (slice_split (λ b. b == 10) xs)))
    step t [] is ih some = absurd (cc (sym is ∙ some.2))
    step true (p ∷ ps) is ih some = rw is (ap (λ (l : List (List ℕ)). [] ∷ l) (rw is at ih))
    step false (p ∷ []) is ih some = rw is (ap (onto_line x) (rw is at ih))
    step false (p ∷ q ∷ qs) is ih some = rw is (ap (onto_line x) (rw is at ih))

-- if a newline ends the first part, this part is the first line
pub first_line_some : (xs line rest : List ℕ) → slice_split (λ b. b == 10) xs ≡ line ∷ slice_split (λ b. b == 10) rest → lines_of xs ≡ line ∷ lines_of rest
unfolding but_last
first_line_some xs line rest h = step (slice_split (λ b. b == 10) rest) refl (some_part 10 rest)
  where
    step : (parts : List (List ℕ)) → slice_split (λ b. b == 10) rest ≡ parts → (p : List ℕ) × (ps : List (List ℕ)) × (slice_split (λ b. b == 10) rest ≡ p ∷ ps) → lines_of xs ≡ line ∷ lines_of rest
    step [] is some = absurd (cc (sym is ∙ some.2))
    step (p ∷ ps) is some = lines_are xs ∙ ap but_last (h ∙ ap (λ (l : List (List ℕ)). line ∷ l) is) ∙ ap (λ (l : List (List ℕ)). line ∷ l) (sym (lines_are rest ∙ ap but_last is))

pub first_line_none : (xs line : List ℕ) → slice_split (λ b. b == 10) xs ≡ line ∷ [] → lines_of xs ≡ []
unfolding but_last
first_line_none xs line h = lines_are xs ∙ ap but_last h

-- two parts with another part after them aren't a query, and three with another part after them aren't an event
pub no_query : (xs time id rest : List ℕ) (r : List ℕ) → slice_split (λ b. b == 32) xs ≡ time ∷ slice_split (λ b. b == 32) rest → slice_split (λ b. b == 32) rest ≡ id ∷ slice_split (λ b. b == 32) r → None ≡ query_from_parts (slice_split (λ b. b == 32) xs)
no_query xs time id rest r first second =
    let more = some_part 32 r in
    sym (ap query_from_parts (first ∙ ap (λ (l : List (List ℕ)). time ∷ l) (second ∙ ap (λ (l : List (List ℕ)). id ∷ l) more.2)))

pub no_event : (xs time name payload rest last r : List ℕ) → slice_split (λ b. b == 32) xs ≡ time ∷ slice_split (λ b. b == 32) rest → slice_split (λ b. b == 32) rest ≡ name ∷ slice_split (λ b. b == 32) last
    → slice_split (λ b. b == 32) last ≡ payload ∷ slice_split (λ b. b == 32) r → None ≡ event_from_parts (slice_split (λ b. b == 32) xs)
no_event xs time name payload rest last r first second third =
    let more = some_part 32 r in
    sym (ap event_from_parts (first ∙ ap (λ (l : List (List ℕ)). time ∷ l) (second ∙ ap (λ (l : List (List ℕ)). name ∷ l) (third ∙ ap (λ (l : List (List ℕ)). payload ∷ l) more.2))))
