-- The number that digits write.
use Rattle.serf_text.proofs.Names.{Bool, List, None, Option, Some, [], ap, arith, cond, drop, false, get_or, length, refl, take, true, ℕ, ◌&&◌, ◌*◌, ◌++◌, ◌+◌, ◌-◌, ◌<◌, ◌∷◌, ◌≡◌, ◌≤◌, common_steps, digits_value_more, take-append-drop, list_all_at, digit_value, is_ascii_digit, list_all, digits_value, digits_value_after, number_of}
use Rattle.std.specs.Prelude.{nat_lt}

value_grows : (n : ℕ) (cs : List ℕ) → n ≤ digits_value_after 10 n cs
value_grows n [] = omega arith
value_grows n (c ∷ cs) = let more = value_grows (n * 10 + digit_value c) cs in omega (arith, more)

value_append : (n : ℕ) (xs ys : List ℕ) → digits_value_after 10 n (xs ++ ys) ≡ digits_value_after 10 (digits_value_after 10 n xs) ys
value_append n [] ys = refl
value_append n (x ∷ xs) ys = value_append (n * 10 + digit_value x) xs ys

-- a prefix doesn't write a larger number than the whole
pub value_front : (word : List ℕ) (i : ℕ) → digits_value 10 (take i word) ≤ digits_value 10 word
value_front word i =
    let split = ap (digits_value_after 10 0) (take-append-drop i word) in
    let joined = value_append 0 (take i word) (drop i word) in
    let more = value_grows (digits_value_after 10 0 (take i word)) (drop i word) in
    omega (arith, split, joined, more)

and_false : (a b : Bool) (x y : Option ℕ) → b ≡ false → cond (a && b) x y ≡ y
and_false true b x y e = rw e refl
and_false false b x y e = refl

-- a number that is too large is recognized from a prefix
pub too_great : (word : List ℕ) (i : ℕ) → i < length word
    → 18446744073709551616 ≤ digits_value 10 (take i word) * 10 + digit_value (get_or word i 0)
    → number_of word ≡ None
too_great word i lt h =
    let front = value_front word (i + 1) in
    let step = digits_value_more 10 word i lt in
    let great : 18446744073709551616 ≤ digits_value 10 word = omega (arith, front, step) in
    let test : nat_lt (digits_value 10 word) 18446744073709551616 ≡ false = grind (arith, common_steps) in
    and_false (nat_lt 0 (length word) && list_all is_ascii_digit word) (nat_lt (digits_value 10 word) 18446744073709551616) _ _ test

-- a byte that isn't a digit
pub not_digit : (word : List ℕ) (i : ℕ) → i < length word → is_ascii_digit (get_or word i 0) ≡ false → number_of word ≡ None
not_digit word i lt h = let all = list_all_at is_ascii_digit word i 0 lt h in rw all (grind (arith, common_steps))

-- digits that write a number in range
pub is_number : (word : List ℕ) → 0 < length word → list_all is_ascii_digit word ≡ true → digits_value 10 word < 18446744073709551616
    → number_of word ≡ Some (digits_value 10 word)
is_number word some all fits = rw all (grind (arith, common_steps))

-- the value of a digit
pub digit_is : (c : ℕ) → is_ascii_digit c ≡ true → digit_value c ≡ c - 48
digit_is c h = grind (arith, common_steps)
