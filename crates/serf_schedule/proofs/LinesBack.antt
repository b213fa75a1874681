-- Lines that were written are split again: the text at newlines, and each line at spaces.
use Rattle.serf_schedule.proofs.TextNames.{◌≡◌, ◌<◌, ◌≤◌, ◌∙◌, ℕ, List, [], ◌∷◌, ◌++◌, length, true, false, refl, ap, arith, append_assoc, ◌==◌, filter, nat_lt, AllByRecursion, slice_split, common_steps, append-nil, All-append, All-cons, All-nil, slice_split_at, slice_split_none, words_of}
use Rattle.serf_schedule.proofs.Names.{All, IsWord, line_text, spaced}
use Rattle.serf_schedule.proofs.PlainWords.{above-space}

above : (s b : ℕ) → s < b → (b == s) ≡ false
above s b h = grind (arith, common_steps)

-- none of these bytes is the separator
without : (s : ℕ) → s < 33 → (xs : List ℕ) → All (λ b. 33 ≤ b) xs → All (λ b. (b == s) ≡ false) xs
without s low xs h k d lt = let e = h k d lt in above s _ (omega (arith, e))

-- Words

-- the parts between the spaces of a line are its words
parts : (word : List ℕ) (words : List (List ℕ)) → IsWord word → AllByRecursion IsWord words
    → slice_split (λ b. b == 32) (word ++ spaced words) ≡ word ∷ words
parts word [] w ws = ap (slice_split (λ b. b == 32)) (append-nil word) ∙ slice_split_none (λ b. b == 32) word (without 32 (omega arith) word (above-space word w.plain))
parts word (next ∷ words) w ws =
    slice_split_at (λ b. b == 32) word 32 (next ++ spaced words) (without 32 (omega arith) word (above-space word w.plain)) refl
    ∙ ap (λ ps. word ∷ ps) (parts next words ws.0 ws.1)

-- each of them has at least one byte
kept : (words : List (List ℕ)) → AllByRecursion IsWord words → filter (λ word. nat_lt 0 (length word)) words ≡ words
kept [] ws = refl
kept (word ∷ words) ws =
    let some : nat_lt 0 (length word) ≡ true = let h = ws.0.some in grind (arith, common_steps) in
    rw some (ap (λ rest. word ∷ rest) (kept words ws.1))

pub words-back : (word : List ℕ) (words : List (List ℕ)) → AllByRecursion IsWord (word ∷ words)
    → words_of (word ++ spaced words) ≡ word ∷ words
words-back word words ws = ap (filter (λ w. nat_lt 0 (length w))) (parts word words ws.0 ws.1) ∙ kept (word ∷ words) ws

-- Lines

-- a line without its newline
abbrev pub body : List (List ℕ) → List ℕ
body [] = []
body (word ∷ words) = word ++ spaced words

spaced-plain : (words : List (List ℕ)) → AllByRecursion IsWord words → All (λ b. (b == 10) ≡ false) (spaced words)
spaced-plain [] ws = All-nil (λ b. (b == 10) ≡ false)
spaced-plain (word ∷ words) ws =
    All-cons (λ b. (b == 10) ≡ false) 32 (word ++ spaced words) refl
    (All-append (λ b. (b == 10) ≡ false) word (spaced words) (without 10 (omega arith) word (above-space word ws.0.plain)) (spaced-plain words ws.1))

body-plain : (words : List (List ℕ)) → AllByRecursion IsWord words → All (λ b. (b == 10) ≡ false) (body words)
body-plain [] ws = All-nil (λ b. (b == 10) ≡ false)
body-plain (word ∷ words) ws = All-append (λ b. (b == 10) ≡ false) word (spaced words) (without 10 (omega arith) word (above-space word ws.0.plain)) (spaced-plain words ws.1)

ended : (words : List (List ℕ)) (rest : List ℕ) → line_text words ++ rest ≡ body words ++ 10 ∷ rest
ended [] rest = refl
ended (word ∷ words) rest = append_assoc (word ++ spaced words) (10 ∷ []) rest

-- the first line is split off
pub line-off : (words : List (List ℕ)) (rest : List ℕ) → AllByRecursion IsWord words
    → slice_split (λ b. b == 10) (line_text words ++ rest) ≡ body words ∷ slice_split (λ b. b == 10) rest
line-off words rest ws = ap (slice_split (λ b. b == 10)) (ended words rest) ∙ slice_split_at (λ b. b == 10) (body words) 10 rest (body-plain words ws) refl
