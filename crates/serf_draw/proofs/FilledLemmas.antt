-- Texts whose blanks are filled.
use Rattle.serf_draw.proofs.Names.{Bor, List, [], ap, append_assoc, codes, decimal, refl, sym, ℕ, ◌++◌, ◌∷◌, ◌≡◌, append-nil, escape, filled, nothing_of, label_place, line_of, mark_text, place_text, tone_word, between, class_text, dot_text, label_text, lane_line, number_text, placed_text, row_text, size_text, text_element, view_text, Lane, Row, ROW}
use Rattle.serf_draw.specs.declared.filled.PicturePart.TheVariants as parts

-- texts in groups are the same as one text after another
two : (a n b m c : List ℕ) → (a ++ n ++ b) ++ (m ++ c) ≡ a ++ (n ++ (b ++ (m ++ c)))
two a n b m c = simp append_assoc refl

three : (a n b m c e d : List ℕ) → ((a ++ n ++ b) ++ (m ++ c)) ++ (e ++ d) ≡ a ++ (n ++ (b ++ (m ++ (c ++ (e ++ d)))))
three a n b m c e d = simp append_assoc refl

four : (n a m b o c p d : List ℕ) → ((n ++ a) ++ (m ++ b)) ++ ((c ++ o ++ d) ++ p) ≡ n ++ (a ++ (m ++ (b ++ (c ++ (o ++ (d ++ p))))))
four n a m b o c p d = simp append_assoc refl

nine : (a n n' b m c d t t' e f p g k k' h i l j v w w' z : List ℕ) → n ≡ n' → t ≡ t' → k ≡ k' → w ≡ w'
    → a ++ (n ++ (b ++ (m ++ (c ++ (d ++ (t ++ (e ++ (f ++ (p ++ (g ++ (k ++ (h ++ (t ++ (i ++ (l ++ (j ++ (n ++ (v ++ (w ++ z)))))))))))))))))))
    ≡ ((((a ++ n' ++ b) ++ (m ++ c)) ++ ((d ++ t' ++ e) ++ (f ++ p ++ g))) ++ k') ++ ((((h ++ t' ++ i) ++ l) ++ (j ++ n' ++ v)) ++ (w' ++ z))
nine a n n' b m c d t t' e f p g k k' h i l j v w w' z same-n same-t same-k same-w = rw (same-n, same-t, same-k, same-w) (simp append_assoc refl)

-- one text, followed by further texts
pub three_more : (out a b c : List ℕ) → ((out ++ a) ++ b) ++ c ≡ out ++ ((a ++ b) ++ c)
three_more out a b c = simp append_assoc refl

pub nothing_filled : (n : ℕ) → filled (codes ": nothing of ~") (parts.Number n ∷ []) ≡ nothing_of n
unfolding nothing_of
nothing_filled n = ap (λ t. codes ": nothing of " ++ t) (append-nil (decimal n))

pub lane_filled : (last i : ℕ) → filled (codes "<path class='l' d='M~500 90V~99'/>\n") (parts.Number i ∷ parts.Number last ∷ []) ≡ lane_line last i
unfolding between lane_line
lane_filled last i = sym (two (codes "<path class='l' d='M") (decimal i) (codes "500 90V") (decimal last) (codes "99'/>\n"))

pub name_filled : (line i : ℕ) (name : Bor (List ℕ)) → filled (codes "<text class='h' x='~500' y='~65'>~</text>\n") (parts.Number i ∷ parts.Number line ∷ parts.Escaped name ∷ [])
    ≡ between (codes "<text class='h' x='") i (codes "500' y='") ++ between [] line (codes "65'>") ++ text_element [] name.now
unfolding between text_element
name_filled line i name = sym (three (codes "<text class='h' x='") (decimal i) (codes "500' y='") (decimal line) (codes "65'>") (escape name.now) (codes "</text>\n"))

pub size_filled : (columns lines : ℕ) → filled (codes "~700 ~99' width='~7pc' height='~.99pc'>\n") (parts.Number columns ∷ parts.Number lines ∷ parts.Number columns ∷ parts.Number lines ∷ [])
    ≡ view_text columns lines ++ size_text columns lines
unfolding between view_text size_text
size_filled columns lines = sym (four (decimal columns) (codes "700 ") (decimal lines) (codes "99'") (decimal columns) (codes " width='") (decimal lines ++ codes ".99pc'>\n") (codes "7pc' height='"))

pub row_filled : (lanes : Bor (List Lane)) (row : Row) (n : ℕ) (tone mark label : Bor (List ℕ)) → n ≡ line_of row.above → tone.now ≡ tone_word row.tone → mark.now ≡ mark_text row.restarts → label.now ≡ row.label
    → filled ROW.now (parts.Number n ∷ parts.Number row.action ∷ parts.Text tone ∷ parts.Place lanes row.agent row.above ∷ parts.Text mark
    ∷ parts.Text tone ∷ parts.LabelPlace lanes ∷ parts.Number n ∷ parts.Escaped label ∷ [])
    ≡ row_text lanes.now row
unfolding between row_text number_text dot_text label_text class_text placed_text text_element
row_filled lanes row n tone mark label is-n is-tone is-mark is-label =
    nine (codes "<text class='n' x='-680' y='") (decimal n) (decimal (line_of row.above)) (codes "75'>") (decimal row.action) (codes "</text>\n") (codes "<g class='") tone.now (tone_word row.tone) (codes "'")
    (codes " transform='translate(") (place_text lanes.now row.agent row.above) (codes ")'>") mark.now (mark_text row.restarts) (codes "<text class='") (codes "' x='") (label_place lanes.now)
    (codes "' y='") (codes "75'>") (escape label.now) (escape row.label) (codes "</text>\n") (ap decimal is-n) is-tone is-mark (ap escape is-label)
