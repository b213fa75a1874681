-- Agents that can make a cluster, and what happens if one more is added.
use Rattle.serf_world.proofs.Names.{Bool, List, None, Option, Some, [], ap, arith, cond, false, length, length-append, refl, sym, true, ℕ, ◌++◌, ◌+◌, ◌∙◌, ◌∷◌, ◌≡◌, ◌≤◌, ltb-false, common_steps, append-nil, append_assoc, position_or_len_push, prefix_len-le-length, AllByRecursion, position_or_len, not, is_sound, Config, AreConfigs, first_bad, has_name, twice_after}
use Rattle.std.specs.Prelude.{nat_lt}

not-some : (b : Bool) (n : ℕ) (o : Option ℕ) → cond b (Some n) o ≡ None → b ≡ false
not-some true n o h = absurd (cc h)
not-some false n o h = refl

twice-push : (before xs : List Config) (c : Config) → twice_after before xs ≡ None → has_name (before ++ xs) c.name ≡ false
    → twice_after before (xs ++ c ∷ []) ≡ None
twice-push before [] c none free =
    let h : has_name before c.name ≡ false = ap (λ (all : List Config). has_name all c.name) (sym (append-nil before)) ∙ free in
    rw h refl
twice-push before (x ∷ xs) c none free =
    let own = not-some (has_name before x.name) (length before) (twice_after (before ++ x ∷ []) xs) none in
    let rest : twice_after (before ++ x ∷ []) xs ≡ None = rw own at none in
    let all : (before ++ x ∷ []) ++ xs ≡ before ++ x ∷ xs = append_assoc before (x ∷ []) xs in
    rw own (twice-push (before ++ x ∷ []) xs c rest (ap (λ (a : List Config). has_name a c.name) all ∙ free))

last : (k n : ℕ) → nat_lt k n ≡ false → k ≤ n → k ≡ n
last k n h le = grind (arith, common_steps)

not-below : (n k : ℕ) → k ≡ n → nat_lt k n ≡ false
not-below n k h = grind (arith, common_steps)

bad-push : (xs : List Config) (c : Config) → first_bad xs ≡ None → is_sound c ≡ true → first_bad (xs ++ c ∷ []) ≡ None
bad-push xs c none sound =
    let k = position_or_len (λ c. not (is_sound c)) xs in
    let all : k ≡ length xs = last k (length xs) (not-some (nat_lt k (length xs)) k None none) (prefix_len-le-length (λ c. not (not (is_sound c))) xs) in
    let more : position_or_len (λ c. not (is_sound c)) (xs ++ c ∷ []) ≡ length (xs ++ c ∷ []) = grind (arith, common_steps, position_or_len_push (λ c. not (is_sound c)) xs c, length-append xs (c ∷ [])) in
    rw (not-below (length (xs ++ c ∷ [])) (position_or_len (λ c. not (is_sound c)) (xs ++ c ∷ [])) more) refl

-- if none of the settings is bad, each of them is within its bounds
none-bad : (configs : List Config) → length configs ≤ position_or_len (λ c. not (is_sound c)) configs → AllByRecursion (λ c. is_sound c ≡ true) configs
none-bad [] h = tt
none-bad (c ∷ cs) h = by (is_sound c) refl h (none-bad cs)
  where
    by : (b : Bool) → is_sound c ≡ b → length (c ∷ cs) ≤ cond (not (not b)) (1 + position_or_len (λ c. not (is_sound c)) cs) 0
        → (length cs ≤ position_or_len (λ c. not (is_sound c)) cs → AllByRecursion (λ c. is_sound c ≡ true) cs) → (is_sound c ≡ true) × AllByRecursion (λ c. is_sound c ≡ true) cs
    by true is h rest = (is, rest (omega arith))
    by false is h rest = absurd (omega arith)

pub all-sound : (configs : List Config) → AreConfigs configs → AllByRecursion (λ c. is_sound c ≡ true) configs
all-sound configs ok =
    let k = position_or_len (λ c. not (is_sound c)) configs in
    none-bad configs (ltb-false k (length configs) (not-some (nat_lt k (length configs)) k None ok.sound))

-- one more agent, with settings within their bounds and a name that no other agent has
pub one_more : (xs : List Config) (c : Config) → AreConfigs xs → is_sound c ≡ true → has_name xs c.name ≡ false → AreConfigs (xs ++ c ∷ [])
one_more xs c ok sound free = record { names = twice-push [] xs c ok.names free; sound = bad-push xs c ok.sound sound }
