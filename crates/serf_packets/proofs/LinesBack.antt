-- The lines of a message's text are split again.
use Rattle.serf_packets.proofs.Names.{Bool, List, Some, [], ap, append_assoc, arith, decimal, false, map, refl, sym, true, ℕ, ℤ, ◌++◌, ◌<◌, ◌^◌, ◌∙◌, ◌∷◌, ◌≡◌, and_parts, common_steps, append-nil, All-append, All-cons, All-nil, slice_split_at, slice_split_none, signed_decimal, All, AllByRecursion, flat_map, list_all, slice_split, ◌==◌, bytes_eq, fits, flag_text, flag_line, hex_line, hex_text, number_line, signed_line, with_hex, with_number, bytes_meant, RowText, row_in, row_of_parts, rows_in, rows_of}
use Rattle.serf_packets.proofs.PacketBytes.{AreBytes}
use Rattle.serf_packets.proofs.WordsBack.{IsPlain, bytes_back, is_plain, plain_bytes, plain_number, plain_signed}

abbrev pub row : List ℕ → List ℕ → List ℕ → RowText
row name first second = record { name = name; first = first; second = second }

-- the empty line after the last newline
abbrev pub no_row : RowText
no_row = row [] [] []

-- The words of a line

above : (s b : ℕ) → s < 33 → is_plain b ≡ true → (b == s) ≡ false
above s b low h = grind (arith, common_steps)

-- none of these bytes is the separator
without : (s : ℕ) → s < 33 → (xs : List ℕ) → list_all is_plain xs ≡ true → All (λ b. (b == s) ≡ false) xs
without s low [] h = All-nil (λ b. (b == s) ≡ false)
without s low (b ∷ bs) h =
    let parts = and_parts (is_plain b) (list_all is_plain bs) h in
    All-cons (λ b. (b == s) ≡ false) b bs (above s b low parts.0) (without s low bs parts.1)

abbrev HasNoEnd : List ℕ → Type 0
HasNoEnd line = All (λ b. (b == 10) ≡ false) line

-- words of a line, with a space after each; what follows them is split independently
record Begins (start : List ℕ) (words : List (List ℕ) → List (List ℕ)) : Type 0 where
  pub cut : (rest : List ℕ) → slice_split (λ b. b == 32) (start ++ rest) ≡ words (slice_split (λ b. b == 32) rest)
  pub no_end : HasNoEnd start

nothing : Begins [] (λ ws. ws)
nothing = record { cut = λ rest. refl; no_end = All-nil (λ b. (b == 10) ≡ false) }

longer : {start : List ℕ} {words : List (List ℕ) → List (List ℕ)} → Begins start words → (word : List ℕ) → IsPlain word
    → Begins (start ++ word ++ 32 ∷ []) (λ ws. words (word ∷ ws))
longer {start} {words} s word w = record {
  cut = λ rest.
      ap (slice_split (λ b. b == 32)) (append_assoc (start ++ word) (32 ∷ []) rest ∙ append_assoc start word (32 ∷ rest))
      ∙ s.cut (word ++ 32 ∷ rest) ∙ ap words (slice_split_at (λ b. b == 32) word 32 rest (without 32 (omega arith) word w.each) refl);
  no_end = All-append (λ b. (b == 10) ≡ false) (start ++ word) (32 ∷ []) (All-append (λ b. (b == 10) ≡ false) start word s.no_end (without 10 (omega arith) word w.each))
      (All-cons (λ b. (b == 10) ≡ false) 32 [] refl (All-nil (λ b. (b == 10) ≡ false)));
}

-- Texts of whole lines

-- what follows a text of whole lines is split independently
pub record Reads (text : List ℕ) (rows : List RowText → List RowText) : Type 0 where
  pub each : (rest : List ℕ) → rows_in (text ++ rest) ≡ rows (rows_in rest)

infixl 20 ◌▸◌
pub ◌▸◌ : {a b : List ℕ} {f g : List RowText → List RowText} → Reads a f → Reads b g → Reads (a ++ b) (λ rs. f (g rs))
◌▸◌ {a} {b} {f} p q = record { each = λ rest. ap rows_in (append_assoc a b rest) ∙ p.each (b ++ rest) ∙ ap f (q.each rest) }

pub at_end : {text : List ℕ} {rows : List RowText → List RowText} → Reads text rows → rows_in text ≡ rows (no_row ∷ [])
at_end {text} p = ap rows_in (sym (append-nil text)) ∙ p.each []

line_of : {start : List ℕ} {words : List (List ℕ) → List (List ℕ)} → Begins start words → (word : List ℕ) → IsPlain word
    → Reads (start ++ word ++ 10 ∷ []) (λ rs. row_of_parts (words (word ∷ [])) ∷ rs)
line_of {start} {words} s word w = record {
  each = λ rest.
      ap rows_in (append_assoc (start ++ word) (10 ∷ []) rest)
      ∙ ap (map row_in) (slice_split_at (λ b. b == 10) (start ++ word) 10 rest (All-append (λ b. (b == 10) ≡ false) start word s.no_end (without 10 (omega arith) word w.each)) refl)
      ∙ ap (λ parts. row_of_parts parts ∷ rows_in rest) (s.cut word ∙ ap words (slice_split_none (λ b. b == 32) word (without 32 (omega arith) word w.each)));
}

pair : (name first : List ℕ) → list_all is_plain name ≡ true → IsPlain first → Reads (name ++ 32 ∷ [] ++ first ++ 10 ∷ []) (λ rs. row name first [] ∷ rs)
pair name first n f = line_of (longer nothing name (record { each = n })) first f

pub reads_triple : (name first second : List ℕ) → list_all is_plain name ≡ true → IsPlain first → IsPlain second
    → Reads (name ++ 32 ∷ [] ++ first ++ 32 ∷ [] ++ second ++ 10 ∷ []) (λ rs. row name first second ∷ rs)
reads_triple name first second n f s = line_of (longer (longer nothing name (record { each = n })) first f) second s

-- Fields

pub reads_kind : (name : List ℕ) → list_all is_plain name ≡ true → Reads (name ++ 10 ∷ []) (λ rs. row name [] [] ∷ rs)
reads_kind name n = line_of nothing name (record { each = n })

pub reads_number : (name : List ℕ) (n : ℕ) → list_all is_plain name ≡ true → n < 2 ^ 64 → Reads (number_line name n) (λ rs. row name (decimal n) [] ∷ rs)
unfolding number_line with_number
reads_number name n p h = pair name (decimal n) p (plain_number n h)

pub reads_hex : (name bytes : List ℕ) → list_all is_plain name ≡ true → AreBytes bytes → Reads (hex_line name bytes) (λ rs. row name (hex_text bytes) [] ∷ rs)
unfolding hex_line with_hex
reads_hex name bytes p h = pair name (hex_text bytes) p (plain_bytes bytes h.each)

pub reads_signed : (name : List ℕ) (z : ℤ) → list_all is_plain name ≡ true → fits z ≡ Some z → Reads (signed_line name z) (λ rs. row name (signed_decimal z) [] ∷ rs)
unfolding signed_line
reads_signed name z p h = pair name (signed_decimal z) p (plain_signed z h)

plain-flag : (b : Bool) → IsPlain (flag_text b)
plain-flag true = record { each = refl }
plain-flag false = record { each = refl }

pub reads_flag : (name : List ℕ) (b : Bool) → list_all is_plain name ≡ true → Reads (flag_line name b) (λ rs. row name (flag_text b) [] ∷ rs)
unfolding flag_line
reads_flag name b p = pair name (flag_text b) p (plain-flag b)

-- Lists of lines

-- a line with one text
abbrev pub text_row : List ℕ → List ℕ → RowText
text_row name text = row name (hex_text text) []

pub reads_listed : {A : Type 0} (P : A → Type 0) (line : A → List ℕ) (as_row : A → RowText) → ((x : A) → P x → Reads (line x) (λ rs. as_row x ∷ rs))
    → (xs : List A) → AllByRecursion P xs → Reads (flat_map line xs) (λ rs. map as_row xs ++ rs)
reads_listed P line as_row each [] h = record { each = λ rest. refl }
reads_listed P line as_row each (x ∷ xs) h = each x h.0 ▸ reads_listed P line as_row each xs h.1

pub reads_texts : (name : List ℕ) (texts : List (List ℕ)) → list_all is_plain name ≡ true → AllByRecursion AreBytes texts
    → Reads (flat_map (hex_line name) texts) (λ rs. map (text_row name) texts ++ rs)
reads_texts name texts n = reads_listed AreBytes (hex_line name) (text_row name) (λ text. reads_hex name text n) texts

-- lines that a reading skips
pub past : {A B : Type 0} (g : List RowText → B) (as_row : A → RowText) → ((x : A) (rs : List RowText) → g (as_row x ∷ rs) ≡ g rs)
    → (xs : List A) (rs : List RowText) → g (map as_row xs ++ rs) ≡ g rs
past g as_row skips [] rs = refl
past g as_row skips (x ∷ xs) rs = skips x (map as_row xs ++ rs) ∙ past g as_row skips xs rs

-- what lines with one name mean, if no line with this name follows them
pub list_back : {A : Type 0} (P : A → Type 0) (name : List ℕ) (as_row : A → RowText) (meant : RowText → A)
    → ((x : A) → bytes_eq (as_row x).name name ≡ true) → ((x : A) → P x → meant (as_row x) ≡ x)
    → (xs : List A) (tail : List RowText) → AllByRecursion P xs → rows_of name tail ≡ [] → map meant (rows_of name (map as_row xs ++ tail)) ≡ xs
list_back P name as_row meant named back [] tail h none = ap (map meant) none
list_back P name as_row meant named back (x ∷ xs) tail h none =
    rw (named x) (ap (λ y. y ∷ map meant (rows_of name (map as_row xs ++ tail))) (back x h.0)
    ∙ ap (λ ys. x ∷ ys) (list_back P name as_row meant named back xs tail h.1 none))

pub texts_back : (name : List ℕ) (texts : List (List ℕ)) (tail : List RowText) → bytes_eq name name ≡ true → AllByRecursion AreBytes texts
    → rows_of name tail ≡ [] → map (λ r. bytes_meant r.first) (rows_of name (map (text_row name) texts ++ tail)) ≡ texts
texts_back name texts tail same = list_back AreBytes name (text_row name) (λ r. bytes_meant r.first) (λ text. same) (λ text h. bytes_back text h.each) texts tail
