-- Lines that are split off and answered, one after another.
use Rattle.serf_text.proofs.Names.{Bool, List, [], ap, append-nil, append_assoc, arith, cond, false, length, length-append, min, refl, sym, true, ℕ, ◌++◌, ◌+◌, ◌==◌, ◌∙◌, ◌∷◌, ◌≡◌, onto_first, slice_split, Err, Ok, Result, joined, lines_of, number_after, text_after}

-- ---- texts

-- joining two texts
record AreJoined {F : Type 0} (r s : Result (List ℕ) F) (all : List ℕ) : Type 0 where
  pub first : List ℕ
  pub second : List ℕ
  pub first_is : r ≡ Ok first
  pub second_is : s ≡ Ok second
  pub all_is : first ++ second ≡ all

are-joined : {F : Type 0} (r s : Result (List ℕ) F) (all : List ℕ) → joined r s ≡ Ok all → AreJoined r s all
are-joined (Ok a) (Ok b) all h = record { first = a; second = b; first_is = refl; second_is = refl; all_is = cc }
are-joined (Ok a) (Err e) all h = absurd (cc)
are-joined (Err e) s all h = absurd (cc)

-- one more line
pub text-push : {F : Type 0} (answer : List (List ℕ) → List ℕ → Result (List ℕ) F) (before lines : List (List ℕ)) (line all text : List ℕ)
    → text_after answer before lines ≡ Ok all → answer (before ++ lines) line ≡ Ok text → text_after answer before (lines ++ line ∷ []) ≡ Ok (all ++ text)
text-push answer before [] line all text h is =
    let here : answer before line ≡ Ok text = ap (λ (ls : List (List ℕ)). answer ls line) (sym (append-nil before)) ∙ is in
    let none : [] ≡ all = cc in
    ap (λ r. joined r (Ok [])) here ∙ ap (λ (t : List ℕ). Ok t) (append-nil text ∙ ap (λ t. t ++ text) none)
text-push answer before (l ∷ ls) line all text h is =
    let parts = are-joined (answer before l) (text_after answer (before ++ l ∷ []) ls) all h in
    let here : answer ((before ++ l ∷ []) ++ ls) line ≡ Ok text = ap (λ (k : List (List ℕ)). answer k line) (append_assoc before (l ∷ []) ls) ∙ is in
    let rest = text-push answer (before ++ l ∷ []) ls line parts.second text parts.second_is here in
    ap (λ r. joined r (text_after answer (before ++ l ∷ []) (ls ++ line ∷ []))) parts.first_is
    ∙ ap (λ r. joined (Ok parts.first) r) rest
    ∙ ap (λ (t : List ℕ). Ok t) (sym (append_assoc parts.first parts.second text) ∙ ap (λ t. t ++ text) parts.all_is)

-- ---- numbers

pub number-more : (lines : List (List ℕ)) (line : List ℕ) (n m : ℕ) → n ≡ number_after lines → m ≡ min (n + 1) 18446744073709551615 → m ≡ number_after (lines ++ line ∷ [])
number-more lines line n m h is = let more = length-append lines (line ∷ []) in omega (arith, more)

-- ---- splits

-- a beginning of a line, completed by the first of these lines
abbrev pub onto : List ℕ → List (List ℕ) → List (List ℕ)
onto held [] = held ∷ []
onto held (line ∷ lines) = (held ++ line) ∷ lines

-- two lists of lines joined into one, so that the last line of the first continues with the first line of the second
glue : List (List ℕ) → List (List ℕ) → List (List ℕ)
glue [] others = others
glue (line ∷ []) others = onto line others
glue (line ∷ next ∷ lines) others = line ∷ glue (next ∷ lines) others

record HasLine (lines : List (List ℕ)) : Type 0 where
  pub head : List ℕ
  pub tail : List (List ℕ)
  pub is : lines ≡ head ∷ tail

onto_first-line : (x : ℕ) (lines : List (List ℕ)) → HasLine (onto_first x lines)
onto_first-line x [] = record { head = x ∷ []; tail = []; is = refl }
onto_first-line x (l ∷ ls) = record { head = x ∷ l; tail = ls; is = refl }

cond-line : (b : Bool) (x : ℕ) (lines : List (List ℕ)) → HasLine (cond b ([] ∷ lines) (onto_first x lines))
cond-line true x lines = record { head = []; tail = lines; is = refl }
cond-line false x lines = onto_first-line x lines

has-line : (text : List ℕ) → HasLine (lines_of text)
has-line [] = record { head = []; tail = []; is = refl }
has-line (x ∷ xs) = cond-line (x == 10) x (lines_of xs)

pub onto-nothing : (text : List ℕ) → onto [] (lines_of text) ≡ lines_of text
onto-nothing text = let h = has-line text in ap (onto []) h.is ∙ sym h.is

glue-first : (x : ℕ) (l : List ℕ) (ls others : List (List ℕ)) → HasLine others → onto_first x (glue (l ∷ ls) others) ≡ glue ((x ∷ l) ∷ ls) others
unfolding glue
glue-first x l [] others h = ap (λ o. onto_first x (onto l o)) h.is ∙ ap (onto (x ∷ l)) (sym h.is)
glue-first x l (n ∷ ls) others h = refl

glue-line : (l : List ℕ) (ls others : List (List ℕ)) → HasLine ls → l ∷ glue ls others ≡ glue (l ∷ ls) others
unfolding glue
glue-line l ls others h = ap (λ k. l ∷ glue k others) h.is ∙ ap (λ k. glue (l ∷ k) others) (sym h.is)

splits-more : (b : Bool) (x : ℕ) (ls others : List (List ℕ)) → HasLine ls → HasLine others
    → cond b ([] ∷ glue ls others) (onto_first x (glue ls others)) ≡ glue (cond b ([] ∷ ls) (onto_first x ls)) others
splits-more true x ls others h o = glue-line [] ls others h
splits-more false x ls others h o =
    ap (λ k. onto_first x (glue k others)) h.is ∙ glue-first x h.head h.tail others o ∙ ap (λ k. glue (onto_first x k) others) (sym h.is)

splits-append : (xs ys : List ℕ) → lines_of (xs ++ ys) ≡ glue (lines_of xs) (lines_of ys)
unfolding glue
splits-append [] ys = sym (onto-nothing ys)
splits-append (x ∷ xs) ys =
    ap (λ ls. cond (x == 10) ([] ∷ ls) (onto_first x ls)) (splits-append xs ys) ∙ splits-more (x == 10) x (lines_of xs) (lines_of ys) (has-line xs) (has-line ys)

glue-last : (lines : List (List ℕ)) (held : List ℕ) (others : List (List ℕ)) → glue (lines ++ held ∷ []) others ≡ lines ++ onto held others
unfolding glue
glue-last [] held others = refl
glue-last (l ∷ []) held others = refl
glue-last (l ∷ n ∷ ls) held others = ap (λ k. l ∷ k) (glue-last (n ∷ ls) held others)

-- more of a text whose last line is incomplete
pub lines-more : (bytes more : List ℕ) (lines : List (List ℕ)) (held : List ℕ) → lines_of bytes ≡ lines ++ held ∷ [] → lines_of (bytes ++ more) ≡ lines ++ onto held (lines_of more)
lines-more bytes more lines held h = splits-append bytes more ∙ ap (λ ls. glue ls (lines_of more)) h ∙ glue-last lines held (lines_of more)

-- the next complete line
pub next-line : (all lines : List (List ℕ)) (held line rest next new : List ℕ) → all ≡ lines ++ onto held (lines_of rest) → lines_of rest ≡ line ∷ lines_of next → new ≡ []
    → all ≡ (lines ++ (held ++ line) ∷ []) ++ onto new (lines_of next)
next-line all lines held line rest next new h parts is =
    h ∙ ap (λ r. lines ++ onto held r) parts ∙ sym (append_assoc lines ((held ++ line) ∷ []) (lines_of next))
    ∙ ap (λ k. (lines ++ (held ++ line) ∷ []) ++ k) (sym (onto-nothing next)) ∙ ap (λ n. (lines ++ (held ++ line) ∷ []) ++ onto n (lines_of next)) (sym is)

pub this-line : (all lines more : List (List ℕ)) (held line rest : List ℕ) → all ≡ lines ++ onto held (lines_of rest) → lines_of rest ≡ line ∷ more → all ≡ lines ++ (held ++ line) ∷ more
this-line all lines more held line rest h parts = h ∙ ap (λ r. lines ++ onto held r) parts
