-- A signed number of 64 bits fits into its type.
use Rattle.serf_world.proofs.Names.{Some, arith, nat_lt, negsuc, pos, refl, true, ℤ, ◌≡◌, nat_tests, w64, SFits, fits}

pub fits_signed : (z : ℤ) → SFits w64 z → fits z ≡ Some z
fits_signed (pos n) f = let yes : nat_lt n 9223372036854775808 ≡ true = grind (arith, nat_tests) in rw yes refl
fits_signed (negsuc k) f = let yes : nat_lt k 9223372036854775808 ≡ true = grind (arith, nat_tests) in rw yes refl
