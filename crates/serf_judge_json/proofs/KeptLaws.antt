-- The first entry that can be handed out again.
use Rattle.serf_judge_json.proofs.Names.{Bool, List, None, Option, Some, ap, cond, false, find, find_at, length, nat_lt, position_from, position_from-zero, position_or_len, option_and_then, refl, slice_get, slice_get_past, sym, true, ℕ, ◌∙◌, ◌≡◌, ltb-false}

pub place-found : {X : Type 0} (p : X → Bool) (xs : List X) (o : Option ℕ) → o ≡ position_from p 0 xs → option_and_then (slice_get xs) o ≡ find p xs
place-found p xs o is = by (nat_lt (position_or_len p xs) (length xs)) refl
  where
    by : (b : Bool) → nat_lt (position_or_len p xs) (length xs) ≡ b → option_and_then (slice_get xs) o ≡ find p xs
    by true e = ap (option_and_then (slice_get xs)) (is ∙ sym (position_from-zero p xs) ∙ ap (λ b. cond b (Some (position_or_len p xs)) None) e) ∙ sym (find_at p xs)
    by false e = ap (option_and_then (slice_get xs)) (is ∙ sym (position_from-zero p xs) ∙ ap (λ b. cond b (Some (position_or_len p xs)) None) e) ∙ sym (find_at p xs ∙ slice_get_past xs (position_or_len p xs) (ltb-false _ _ e))
