-- What the code counts of the lines about handlers, which it reads in reverse order.
use Rattle.serf_judge.proofs.Names.{reverse_onto, map-append, is_some, append_assoc, cut_off_of, is_cut_off, option_map, reverse, reverse-append, Bool, List, None, Option, Some, [], ap, cond, false, map, min, refl, sym, true, unwrap_or, ℕ, ◌++◌, ◌+◌, ◌-◌, ◌^◌, ◌∙◌, ◌∷◌, ◌≡◌, Identity, is_same, key_eq, key_identity, Key, Run, ends_of}
use Rattle.serf_judge.proofs.KeyLaws.{same-decides}
use Rattle.serf_judge.proofs.RecordedLaws.{turned}

-- what a line counts for its own event
pub at-its-event : (line : ℕ × Run) (later : List (ℕ × Run)) → ends_of line.1.event (line ∷ later) ≡ cond (is_some line.1.status) (min (ends_of line.1.event later + 1) (2 ^ 64 - 1)) (ends_of line.1.event later - 1)
at-its-event line later = ap (λ b. cond b (cond (is_some line.1.status) (min (ends_of line.1.event later + 1) (2 ^ 64 - 1)) (ends_of line.1.event later - 1)) (ends_of line.1.event later)) ((same-decides line.1.event line.1.event).1 refl)

-- a line is counted at its key
pub line-counted : (later : List (ℕ × Run)) (line : ℕ × Run) (key : Key) (n : ℕ) (old new : Key → Option ℕ)
    → ((q : Key) → unwrap_or (old q) 0 ≡ ends_of (key_identity q) later) → key_identity key ≡ line.1.event → n ≡ ends_of line.1.event (line ∷ later)
    → ((q : Key) → new q ≡ cond (key_eq key q) (Some n) (old q))
    → (q : Key) → unwrap_or (new q) 0 ≡ ends_of (key_identity q) (line ∷ later)
line-counted later line key n old new before same is step q = rw (step q) (by (key_eq key q) refl)
  where
    by : (b : Bool) → key_eq key q ≡ b → unwrap_or (cond b (Some n) (old q)) 0 ≡ ends_of (key_identity q) (line ∷ later)
    by true e =
        let there : line.1.event ≡ key_identity q = sym same ∙ (same-decides (key_identity key) (key_identity q)).0 e in
        is ∙ ap (λ i. ends_of i (line ∷ later)) there
    by false e =
        let apart : is_same (key_identity q) line.1.event ≡ false = ap (is_same (key_identity q)) (sym same) ∙ turned is_same same-decides (key_identity q) (key_identity key) ∙ e in
        before q ∙ sym (ap (λ b. cond b (cond (is_some line.1.status) (min (ends_of (key_identity q) later + 1) (2 ^ 64 - 1)) (ends_of (key_identity q) later - 1)) (ends_of (key_identity q) later)) apart)

pub some-map : {X Y : Type 0} (f : X → Y) (o : Option X) → is_some (option_map f o) ≡ is_some o
some-map f None = refl
some-map f (Some x) = refl

-- a line in front of those that are counted, and what is found with it
pub parts-moved : (before later all : List (ℕ × Run)) (line : ℕ × Run) → (before ++ line ∷ []) ++ later ≡ all → before ++ line ∷ later ≡ all
parts-moved before later all line e = sym (append_assoc before (line ∷ []) later) ∙ e

pub found-moved : (found : List (ℕ × Identity)) (one : ℕ × Identity) (line : ℕ × Run) (later : List (ℕ × Run)) → one ≡ (line.0, line.1.event) → is_cut_off line.1 later ≡ true
    → reverse found ≡ cut_off_of later → reverse (found ++ one ∷ []) ≡ cut_off_of (line ∷ later)
found-moved found one line later same cut e =
    reverse-append found (one ∷ []) ∙ (λ k. same k ∷ e k) ∙ sym (ap (λ b. cond b ((line.0, line.1.event) ∷ cut_off_of later) (cut_off_of later)) cut)

pub found-kept : (found : List (ℕ × Identity)) (line : ℕ × Run) (later : List (ℕ × Run)) → is_cut_off line.1 later ≡ false
    → reverse found ≡ cut_off_of later → reverse found ≡ cut_off_of (line ∷ later)
found-kept found line later cut e = e ∙ sym (ap (λ b. cond b ((line.0, line.1.event) ∷ cut_off_of later) (cut_off_of later)) cut)

pub map-reversed : {X Y : Type 0} (f : X → Y) (xs : List X) → map f (reverse xs) ≡ reverse (map f xs)
map-reversed f [] = refl
map-reversed f (x ∷ xs) = ap (map f) (reverse_onto xs x []) ∙ map-append f (reverse xs) (x ∷ []) ∙ ap (λ t. t ++ f x ∷ []) (map-reversed f xs) ∙ sym (reverse_onto (map f xs) (f x) [])
