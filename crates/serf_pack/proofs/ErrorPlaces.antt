-- The place of an error is in the input, or at its end.
use Rattle.serf_pack.proofs.Names.{List, ap, arith, length, length-append, ℕ, ◌++◌, ◌+◌, ◌≤◌, Breaks, IsMalformed, at_end, breaks, deep_array, deep_map, error_place, in_array, in_key, in_value, short_number, short_raw, trails, unsupported, PackError}

break_within : (d p : ℕ) (bytes : List ℕ) (f : PackError) → Breaks d p bytes f → error_place f ≤ p + length bytes
break_within d p bytes f (at_end _ _ _ _ e error) = omega (arith, ap error_place error)
break_within d p bytes f (unsupported _ _ _ _ b rest e row error) = omega (arith, ap error_place error)
break_within d p bytes f (short_number _ _ _ _ b rest field w e row lt error) = omega (arith, ap error_place error)
break_within d p bytes f (short_raw _ _ _ _ head rest n e is lt error) = omega (arith, ap error_place error)
break_within d p bytes f (deep_array _ _ _ _ head rest n e is full error) = omega (arith, ap error_place error)
break_within d p bytes f (deep_map _ _ _ _ head rest n e is full error) = omega (arith, ap error_place error)
break_within d p bytes f (in_array _ _ _ _ head front rest n vs e is lt packs count inner) =
    omega (arith, break_within (d + 1) (p + length head + length front) rest f inner, ap length e, length-append head (front ++ rest), length-append front rest)
break_within d p bytes f (in_key _ _ _ _ head front rest n ps e is lt packs count inner) =
    omega (arith, break_within (d + 1) (p + length head + length front) rest f inner, ap length e, length-append head (front ++ rest), length-append front rest)
break_within d p bytes f (in_value _ _ _ _ head front key rest n ps k e is lt packs count packed inner) =
    omega (arith, break_within (d + 1) (p + length head + length front + length key) rest f inner, ap length e, length-append head (front ++ (key ++ rest)), length-append front (key ++ rest), length-append key rest)

-- the place of a malformed input's error is in the input or at its end
pub malformed_within : (bytes : List ℕ) (f : PackError) → IsMalformed bytes f → error_place f ≤ length bytes
malformed_within bytes f (breaks _ _ h) = omega (arith, break_within 0 0 bytes f h)
malformed_within bytes f (trails _ _ front rest v e packs some error) = omega (arith, ap error_place error, ap length e, length-append front rest)
