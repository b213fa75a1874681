-- What is written is in range.
use Rattle.serf_wire.proofs.Names.{Bool, List, Some, [], arith, false, map, nat_lt, negsuc, pos, refl, true, ℤ, ◌&&◌, ◌<◌, ◌∷◌, ◌≡◌, nat_tests, AllByRecursion, list_all, w64, SFits, fits, status_of, slot_content, IsTimed, StatusTime, EventBody, TimeSlot}

and_true : (a b : Bool) → (a && b) ≡ true → (a ≡ true) × (b ≡ true)
and_true true b e = (refl, e)
and_true false b e = absurd cc

pub status_ranged : (ss : List StatusTime) → list_all (λ s. nat_lt s.time 18446744073709551616) ss ≡ true → AllByRecursion (λ p. p.1 < 18446744073709551616) (map status_of ss)
status_ranged [] e = tt
status_ranged (s ∷ ss) e =
    let both = and_true (nat_lt s.time 18446744073709551616) _ e in
    (grind (arith, nat_tests, both.0), status_ranged ss both.1)

pub slots_timed : (ss : List (TimeSlot EventBody)) → list_all (λ s. nat_lt s.time 18446744073709551615) ss ≡ true → AllByRecursion IsTimed (map slot_content ss)
slots_timed [] e = tt
slots_timed (s ∷ ss) e =
    let both = and_true (nat_lt s.time 18446744073709551615) _ e in
    (grind (arith, nat_tests, both.0), slots_timed ss both.1)

pub fits_signed : (z : ℤ) → SFits w64 z → fits z ≡ Some z
fits_signed (pos n) f = let yes : nat_lt n 9223372036854775808 ≡ true = grind (arith, nat_tests) in rw yes refl
fits_signed (negsuc k) f = let yes : nat_lt k 9223372036854775808 ≡ true = grind (arith, nat_tests) in rw yes refl
