-- What one more line adds to what is read from a text, and how a seal changes a torn line.
use Rattle.serf_snapshot.proofs.Names.{Bool, List, None, Option, Some, [], ap, append_assoc, arith, cond, eqb, false, length, not, refl, sym, take, true, ℕ, ◌&&◌, ◌++◌, ◌+◌, ◌<◌, ◌==◌, ◌∙◌, ◌∷◌, ◌≡◌, ◌≤◌, and_from, and_parts, cond-false, not-true, common_steps, length-append, flat_map-append, flat_map, suc, following, is_whole, lines_of, onto_line, sealed}
use Rattle.std.specs.Prelude.{zero}
use Rattle.serf_snapshot.proofs.ClockLaws.{front_lines, has_no_newline, is_whole-push, lines_of-append, lines_of-one, torn_line}

pub append_nil : {A : Type 0} (xs : List A) → xs ++ [] ≡ xs
append_nil [] = refl
append_nil {A} (x ∷ xs) = ap (λ (l : List A). x ∷ l) (append_nil xs)

pub no_newline-append : (a b : List ℕ) → has_no_newline a ≡ true → has_no_newline b ≡ true → has_no_newline (a ++ b) ≡ true
no_newline-append [] b ha hb = hb
no_newline-append (x ∷ a) b ha hb = let p = and_parts (not (eqb x 10)) (has_no_newline a) ha in and_from _ _ p.0 (no_newline-append a b p.1 hb)

pub no_newline-take : (j : ℕ) (a : List ℕ) → has_no_newline a ≡ true → has_no_newline (take j a) ≡ true
no_newline-take zero a h = refl
no_newline-take (suc j) [] h = refl
no_newline-take (suc j) (x ∷ a) h = let p = and_parts (not (eqb x 10)) (has_no_newline a) h in and_from _ _ p.0 (no_newline-take j a p.1)

-- bytes without a newline contain no line
pub no_lines : (l : List ℕ) → has_no_newline l ≡ true → lines_of l ≡ []
no_lines [] h = refl
no_lines (b ∷ bs) h =
    let p = and_parts (not (eqb b 10)) (has_no_newline bs) h in
    cond-false (eqb b 10) _ _ (not-true (eqb b 10) p.0) ∙ ap (onto_line b) (no_lines bs p.1)

-- a line after a whole text, a line with more text after it, and a part of a line
pub lines-line : (text l : List ℕ) → is_whole text ≡ true → has_no_newline l ≡ true → lines_of (text ++ (l ++ 10 ∷ [])) ≡ lines_of text ++ l ∷ []
lines-line text l whole none = lines_of-append text (l ++ 10 ∷ []) whole ∙ ap (λ (x : List (List ℕ)). lines_of text ++ x) (lines_of-one l none)

pub lines-inside : (front l back : List ℕ) → is_whole front ≡ true → has_no_newline l ≡ true → lines_of (front ++ (l ++ 10 ∷ back)) ≡ lines_of front ++ l ∷ lines_of back
lines-inside front l back whole none =
    let first : lines_of (l ++ 10 ∷ back) ≡ l ∷ lines_of back =
    ap lines_of (sym (append_assoc l (10 ∷ []) back)) ∙ lines_of-append (l ++ 10 ∷ []) back (is_whole-push l) ∙ ap (λ (x : List (List ℕ)). x ++ lines_of back) (lines_of-one l none) in
    lines_of-append front (l ++ 10 ∷ back) whole ∙ ap (λ (x : List (List ℕ)). lines_of front ++ x) first

pub lines-torn : (text l : List ℕ) (j : ℕ) → is_whole text ≡ true → has_no_newline l ≡ true → j < length (l ++ 10 ∷ []) → lines_of (text ++ take j (l ++ 10 ∷ [])) ≡ lines_of text
lines-torn text l j whole none within =
    let long : length (l ++ 10 ∷ []) ≡ length l + 1 = length-append l (10 ∷ []) in
    let short : j ≤ length l = omega arith in
    let part : take j (l ++ 10 ∷ []) ≡ take j l = grind (arith, common_steps) in
    ap (λ (x : List ℕ). lines_of (text ++ x)) part
    ∙ lines_of-append text (take j l) whole
    ∙ ap (λ (x : List (List ℕ)). lines_of text ++ x) (no_lines (take j l) (no_newline-take j l none))
    ∙ append_nil (lines_of text)

-- what is read from each line: after one more line, in a longer text, and in a sealed text
pub say-line : {A : Type 0} (f : List ℕ → List A) (text l : List ℕ) → is_whole text ≡ true → has_no_newline l ≡ true → flat_map f (lines_of (text ++ (l ++ 10 ∷ []))) ≡ flat_map f (lines_of text) ++ f l
say-line {A} f text l whole none =
    ap (flat_map f) (lines-line text l whole none)
    ∙ flat_map-append f (lines_of text) (l ∷ [])
    ∙ ap (λ (x : List A). flat_map f (lines_of text) ++ x) (append_nil (f l))

pub say-grows : {A : Type 0} (f : List ℕ → List A) (front tail : List ℕ) → (more : List A) × (flat_map f (lines_of (front ++ tail)) ≡ flat_map f (lines_of front) ++ more)
say-grows f front tail =
    let g = front_lines front tail in
    (flat_map f g.0, ap (flat_map f) g.1 ∙ flat_map-append f (lines_of front) g.0)

pub say-sealed : {A : Type 0} (f : List ℕ → List A) (text : List ℕ) → ((u : List ℕ) → f (u ++ 35 ∷ []) ≡ []) → flat_map f (lines_of (sealed text)) ≡ flat_map f (lines_of text)
say-sealed {A} f text none = step (is_whole text) refl
  where
    step : (t : Bool) → is_whole text ≡ t → flat_map f (lines_of (cond t text (text ++ 35 ∷ 10 ∷ []))) ≡ flat_map f (lines_of text)
    step true e = refl
    step false e =
        let torn = torn_line text e in
        ap (flat_map f) torn.1
        ∙ flat_map-append f (lines_of text) ((torn.0 ++ 35 ∷ []) ∷ [])
        ∙ ap (λ (x : List A). flat_map f (lines_of text) ++ x) (append_nil (f (torn.0 ++ 35 ∷ [])) ∙ none torn.0)
        ∙ append_nil (flat_map f (lines_of text))

-- What a reader of the bytes after a prefix reads from a line that a seal ended: nothing, if it reads nothing from
-- bytes that end in `#`. The prefix contains no `#`, or has one in front.
abbrev pub has_no_hash : List ℕ → Bool
has_no_hash [] = true
has_no_hash (b ∷ bs) = not (b == 35) && has_no_hash bs

pub following-sealed : {A : Type 0} (z : A) (f : Option (List ℕ) → A) → f None ≡ z → ((v : List ℕ) → f (Some (v ++ 35 ∷ [])) ≡ z) → (p u : List ℕ) → has_no_hash p ≡ true → f (following p (u ++ 35 ∷ [])) ≡ z
following-sealed z f none some [] u h = some u
following-sealed z f none some (b ∷ p) [] h =
    let parts = and_parts (not (eqb b 35)) (has_no_hash p) h in
    ap f (cond-false (eqb b 35) _ _ (not-true (eqb b 35) parts.0)) ∙ none
following-sealed {A} z f none some (b ∷ p) (x ∷ u) h =
    let parts = and_parts (not (eqb b 35)) (has_no_hash p) h in
    step (eqb b x) (following-sealed z f none some p u parts.1)
  where
    step : (t : Bool) → f (following p (u ++ 35 ∷ [])) ≡ z → f (cond t (following p (u ++ 35 ∷ [])) None) ≡ z
    step true ih = ih
    step false ih = none

pub hash_after-sealed : {A : Type 0} (z : A) (f : Option (List ℕ) → A) → f None ≡ z → ((v : List ℕ) → f (Some (v ++ 35 ∷ [])) ≡ z) → (b : ℕ) (p u : List ℕ) → has_no_hash (b ∷ p) ≡ true → f (following (35 ∷ b ∷ p) (u ++ 35 ∷ [])) ≡ z
hash_after-sealed z f none some b p [] h = none
hash_after-sealed {A} z f none some b p (x ∷ u) h = step (eqb 35 x) (following-sealed z f none some (b ∷ p) u h)
  where
    step : (t : Bool) → f (following (b ∷ p) (u ++ 35 ∷ [])) ≡ z → f (cond t (following (b ∷ p) (u ++ 35 ∷ [])) None) ≡ z
    step true ih = ih
    step false ih = none
