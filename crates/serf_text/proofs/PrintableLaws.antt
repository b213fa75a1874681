-- Texts in which every byte is unchanged.
use Rattle.serf_text.proofs.Names.{Bool, List, [], ap₂, false, not, refl, true, ℕ, ◌&&◌, ◌++◌, ◌==◌, ◌||◌, ◌∷◌, ◌≡◌, flat_map, list_all, is_printable, byte_text, is_plain, quoted_byte}

and-left : (x y : Bool) → (x && y) ≡ true → x ≡ true
and-left true y h = refl
and-left false y h = h

and-right : (x y : Bool) → (x && y) ≡ true → y ≡ true
and-right true y h = h
and-right false y h = absurd (cc (h))

-- each byte is unchanged
same-text : (f : ℕ → List ℕ) (p : ℕ → Bool) → ((b : ℕ) → p b ≡ true → f b ≡ b ∷ []) → (bytes : List ℕ) → list_all p bytes ≡ true → flat_map f bytes ≡ bytes
same-text f p one [] h = refl
same-text f p one (b ∷ bs) h = ap₂ (λ (s t : List ℕ). s ++ t) (one b (and-left (p b) (list_all p bs) h)) (same-text f p one bs (and-right (p b) (list_all p bs) h))

printable-byte : (b : ℕ) → is_printable b ≡ true → byte_text b ≡ b ∷ []
unfolding byte_text
printable-byte b h = rw h refl

pub printable-text : (bytes : List ℕ) → list_all is_printable bytes ≡ true → flat_map byte_text bytes ≡ bytes
printable-text bytes h = same-text byte_text is_printable printable-byte bytes h

no-quote : (x y z : Bool) → (x && not y && not z) ≡ true → (y || z) ≡ false
no-quote true false false h = refl
no-quote true false true h = absurd (cc (h))
no-quote true true z h = absurd (cc (h))
no-quote false y z h = absurd (cc (h))

plain-printable : (x y z : Bool) → (x && not y && not z) ≡ true → x ≡ true
plain-printable true y z h = refl
plain-printable false y z h = h

plain-byte : (b : ℕ) → is_plain b ≡ true → quoted_byte b ≡ b ∷ []
unfolding quoted_byte
plain-byte b h = rw (no-quote (is_printable b) (b == 34) (b == 92) h) (printable-byte b (plain-printable (is_printable b) (b == 34) (b == 92) h))

pub plain-text : (bytes : List ℕ) → list_all is_plain bytes ≡ true → flat_map quoted_byte bytes ≡ bytes
plain-text bytes h = same-text quoted_byte is_plain plain-byte bytes h
