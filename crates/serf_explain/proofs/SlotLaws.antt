-- How many entries with this time are in borrowed slots.
use Rattle.serf_explain.proofs.Names.{List, None, Option, Some, [], ap, cond, inl, inr, length, map, refl, suc, sym, zero, ℕ, ◌%◌, ◌==◌, ◌∙◌, ◌∷◌, ◌≡◌, cases_Bool, length-map, option_map, slice_get, slice_index_or, borrowed_slot, slot_in_memory, BorrowedSlot, EventBody, TimeSlot, slot_view, count_in, empty_slot, held_of}

abbrev pub found : ℕ → Option (ℕ × List EventBody) → ℕ
found t None = 0
found t (Some s) = length (cond (s.0 == t) s.1 [])

at-place : (xs : List (TimeSlot EventBody)) (k t : ℕ) → found t (slice_get (map slot_in_memory xs) k) ≡ length (held_of (slice_index_or (map slot_view xs) k empty_slot) t)
at-place [] k t = elim (cases_Bool (0 == t)) [ inl here ↦ rw here refl | inr there ↦ rw there refl ]
at-place (x ∷ xs) zero t = refl
at-place (x ∷ xs) (suc k) t = at-place xs k t

pub count-found : (xs : List (TimeSlot EventBody)) (t n : ℕ) (o : Option (BorrowedSlot EventBody)) → n ≡ length xs → option_map borrowed_slot o ≡ slice_get (map slot_in_memory xs) (t % n) → found t (option_map borrowed_slot o) ≡ count_in (map slot_view xs) t
count-found xs t n o size is =
    ap (found t) is
    ∙ ap (λ m. found t (slice_get (map slot_in_memory xs) (t % m))) (size ∙ sym (length-map xs slot_view))
    ∙ at-place xs (t % length (map slot_view xs)) t
