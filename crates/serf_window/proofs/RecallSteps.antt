-- A window that restores one entry after another.
use Rattle.serf_window.proofs.Names.{Bool, List, ℕ, ◌≡◌, entries_offered, recalled, SlotOf, TimedEntry, slots_of, Offer}

-- At each step, the slots are those of some entries, and restoring the remaining offers from here has the same result
-- as restoring all offers from the start.
abbrev pub Goes : {K L : Type 0} → (K → K → Bool) → (L → K) → ℕ → ℕ → ℕ → List (SlotOf K) → ℕ → List (Offer L) → List (SlotOf K) → ℕ → List (Offer L) → Type 0
Goes {K} {L} same key n k clock first_slots first all slots minimum rest =
    (entries : List (TimedEntry K)) → first_slots ≡ slots_of n entries
    → (now : List (TimedEntry K)) × (slots ≡ slots_of n now) × (recalled same n k clock (record { entries = now; minimum = minimum }) (entries_offered key rest) ≡ recalled same n k clock (record { entries = entries; minimum = first }) (entries_offered key all))
