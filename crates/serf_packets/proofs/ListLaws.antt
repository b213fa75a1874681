-- What two texts have in common, and a change of the last slot in a list.
use Rattle.serf_packets.proofs.Names.{List, [], ap, map, refl, sym, ℕ, ◌++◌, ◌∙◌, ◌∷◌, ◌≡◌, map-append, SlotContent, common, on_last}

pub common_nothing : (xs : List ℕ) → common xs [] ≡ 0
common_nothing [] = refl
common_nothing (x ∷ xs) = refl

pub last-on : (change : SlotContent → SlotContent) (slots : List SlotContent) (slot : SlotContent) → on_last change (slots ++ slot ∷ []) ≡ slots ++ change slot ∷ []
last-on change [] slot = refl
last-on change (s ∷ []) slot = refl
last-on change (s ∷ n ∷ ss) slot = ap (λ k. s ∷ k) (last-on change (n ∷ ss) slot)

-- the last item of a list was removed, and another one was put in its place
pub last_changed : {A : Type 0} (seen : A → SlotContent) (change : SlotContent → SlotContent) (slots rest new : List A) (slot other : A) → slots ≡ rest ++ slot ∷ [] → new ≡ rest ++ other ∷ [] → seen other ≡ change (seen slot)
    → map seen new ≡ on_last change (map seen slots)
last_changed seen change slots rest new slot other old after is =
    ap (map seen) after ∙ map-append seen rest (other ∷ []) ∙ ap (λ (s : SlotContent). map seen rest ++ s ∷ []) is
    ∙ sym (last-on change (map seen rest) (seen slot)) ∙ ap (on_last change) (sym (map-append seen rest (slot ∷ []))) ∙ ap (λ ss. on_last change (map seen ss)) (sym old)
