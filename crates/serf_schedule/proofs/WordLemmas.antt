-- A line as a whole, and in parts.
use Rattle.serf_schedule.proofs.Names.{List, None, Option, Some, [], ap, arith, drop, false, length, refl, subst, sym, take, ℕ, ◌++◌, ◌<◌, ◌∙◌, ◌∷◌, ◌≡◌, ◌≤◌, common_steps, append-nil, slice_index, word_at, words_of, count_of, command_of, Parsed, command_line, query_said, said_by, after_line, parts_said, Command, Act, Agent, Query, Verb}
use Rattle.std.specs.Prelude.{◌==◌}
use Rattle.std.proofs.lemmas.List.{length-append}
use Rattle.serf_schedule.specs.declared.command.Command.TheVariants.{Inject}

apart : (n k : ℕ) → k < n → (n == k) ≡ false
apart n k h = grind (arith, common_steps)

-- no line of these actions has more than five words
few-words : (v : Verb) → count_of v ≤ 5
few-words v = grind (arith, common_steps)

front-of : {X : Type 0} (xs ys : List X) (n : ℕ) → length xs ≡ n → take n (xs ++ ys) ≡ xs
front-of xs ys n l = rw (← l) (grind (arith, common_steps))

back-of : {X : Type 0} (xs ys : List X) (n : ℕ) → length xs ≡ n → drop n (xs ++ ys) ≡ ys
back-of xs ys n l = rw (← l) (grind (arith, common_steps))

-- the line has no words after its first eight words
whole-said : (c : Option Command) (p : Parsed) (ws : List (List ℕ)) → length ws ≤ 8 → parts_said c p ws [] ≡ command_line c p ws
whole-said None p ws few = refl
whole-said (Some Agent) p ws few = ap (command_line (Some Agent) p) (append-nil ws)
whole-said (Some Query) p ws few =
    let all : take 8 ws ≡ ws = grind (arith, common_steps) in
    let none : drop 8 ws ≡ [] = grind (arith, common_steps) in
    sym (ap (λ (x : List (List ℕ)). query_said p x (drop 8 ws)) all ∙ ap (query_said p ws) none)
whole-said (Some Inject) p ws few = refl
whole-said (Some (Act v)) p ws few = refl

-- the line has more than eight words
more-said : (c : Option Command) (p : Parsed) (ws : List (List ℕ)) (b : ℕ) (bs : List ℕ) → length ws ≡ 8 → 0 < length (words_of (b ∷ bs))
    → parts_said c p ws (b ∷ bs) ≡ command_line c p (ws ++ words_of (b ∷ bs))
more-said None p ws b bs eight some = refl
more-said (Some Agent) p ws b bs eight some = refl
more-said (Some Query) p ws b bs eight some =
    let r : List (List ℕ) = words_of (b ∷ bs) in
    sym (ap (λ (x : List (List ℕ)). query_said p x (drop 8 (ws ++ r))) (front-of ws r 8 eight) ∙ ap (query_said p ws) (back-of ws r 8 eight))
more-said (Some Inject) p ws b bs eight some =
    let total = length-append ws (words_of (b ∷ bs)) in
    let first = apart (length ws) 2 (omega arith) in
    let all = apart (length (ws ++ words_of (b ∷ bs))) 2 (omega (arith, total)) in
    rw (first, all) refl
more-said (Some (Act v)) p ws b bs eight some =
    let total = length-append ws (words_of (b ∷ bs)) in
    let short = few-words v in
    let first = apart (length ws) (count_of v) (omega (arith, short)) in
    let all = apart (length (ws ++ words_of (b ∷ bs))) (count_of v) (omega (arith, total, short)) in
    rw (first, all) refl

joined-said : (c : Option Command) (p : Parsed) (ws : List (List ℕ)) (rest : List ℕ) → length ws ≤ 8
    → (0 < length rest → (length ws ≡ 8) × (0 < length (words_of rest)))
    → parts_said c p ws rest ≡ command_line c p (ws ++ words_of rest)
joined-said c p ws [] few full = whole-said c p ws few ∙ ap (command_line c p) (sym (append-nil ws))
joined-said c p ws (b ∷ bs) few full = let f = full (omega arith) in more-said c p ws b bs f.0 f.1

first-word : (ws xs : List (List ℕ)) → 0 < length ws → word_at 1 (ws ++ xs) ≡ word_at 1 ws
first-word [] xs h = absurd (omega arith)
first-word (w ∷ ws) xs h = refl

-- a line that isn't a comment says what its parts say
pub line-said : (p : Parsed) (line : List ℕ) (ws : List (List ℕ)) (rest : List ℕ) → (slice_index line 0 == 35) ≡ false
    → ws ++ words_of rest ≡ words_of line → 0 < length ws → length ws ≤ 8
    → (0 < length rest → (length ws ≡ 8) × (0 < length (words_of rest)))
    → parts_said (command_of (word_at 1 ws)) p ws rest ≡ after_line p line
unfolding after_line
line-said p line ws rest plain joined some few full =
    let total = ap length joined in
    let sum = length-append ws (words_of rest) in
    let one = apart (length (words_of line)) 0 (omega (arith, total, sum)) in
    let parts = joined-said (command_of (word_at 1 ws)) p ws rest few full in
    let whole : parts_said (command_of (word_at 1 ws)) p ws rest ≡ said_by p (words_of line) =
    subst (λ (all : List (List ℕ)). parts_said (command_of (word_at 1 ws)) p ws rest ≡ said_by p all) joined
    (parts ∙ ap (λ (w : List ℕ). command_line (command_of w) p (ws ++ words_of rest)) (sym (first-word ws (words_of rest) some))) in
    rw (plain, one) whole
