-- How appending changes the lines and the largest values of a text.
use Rattle.serf_snapshot.proofs.Names.{Bool, List, None, Option, Some, [], ap, append_assoc, arith, cond, drop, eqb, false, get_or, inl, inr, length, max, min, not, refl, rules, sym, take, true, ℕ, ◌&&◌, ◌*◌, ◌++◌, ◌+◌, ◌-◌, ◌<◌, ◌^◌, ◌∙◌, ◌∷◌, ◌≡◌, ◌≢◌, ◌≤◌, and_from, and_left, and_parts, and_right, cases_Bool, cases_lt, cond-false, cond-true, eq-eqb, eqb-true, leb-true, lt-ltb, ltb-true, ne_eqb, not-true, decimal_nonempty, digits_decimal, digits_value-decimal, common_steps, drop_more, take-append-drop, IsNumeralModel, numerals_by_fold, is_ascii_digit, other_text, pointwise, same_text, slice_get, decimal, nat_eq, nat_lt, all_ascii_digits, following, clock_line, compacted_text, largest, is_empty, is_time_text, is_whole, last_clock, line_above_zero, line_value, lines_of, of_kind, once_set, onto_line, prefix_of, read_on, sealed, time_text_value, ClockKind, Event, Member, Query}
use Rattle.std.specs.Prelude.{nat_le, ◌==◌}

-- a line that contains no newline is one line
abbrev pub has_no_newline : List ℕ → Bool
has_no_newline [] = true
has_no_newline (b ∷ bs) = not (b == 10) && has_no_newline bs

pub largest-append : (k : ClockKind) (ls ms : List (List ℕ)) → largest k (ls ++ ms) ≡ max (largest k ls) (largest k ms)
largest-append k [] ms = omega arith
largest-append k (l ∷ ls) ms = omega (arith, largest-append k ls ms)

onto_front : (b : ℕ) (ls ms : List (List ℕ)) → (rest : List (List ℕ)) × (onto_line b (ls ++ ms) ≡ onto_line b ls ++ rest)
onto_front b [] ms = (onto_line b ms, refl)
onto_front b (l ∷ ls) ms = (ms, refl)

-- the lines of a text don't change, whatever follows it
pub front_lines : (a b : List ℕ) → (rest : List (List ℕ)) × (lines_of (a ++ b) ≡ lines_of a ++ rest)
front_lines [] b = (lines_of b, refl)
front_lines (x ∷ a) b = step (eqb x 10) (front_lines a b)
  where
    step : (t : Bool) → (rest : List (List ℕ)) × (lines_of (a ++ b) ≡ lines_of a ++ rest)
        → (rest : List (List ℕ)) × (cond t ([] ∷ lines_of (a ++ b)) (onto_line x (lines_of (a ++ b))) ≡ cond t ([] ∷ lines_of a) (onto_line x (lines_of a)) ++ rest)
    step true ih = (ih.0, ap (λ (l : List (List ℕ)). [] ∷ l) ih.1)
    step false ih = let f = onto_front x (lines_of a) ih.0 in (f.0, ap (onto_line x) ih.1 ∙ f.1)

-- no tail lowers the value of a kind
pub last_clock_grows : (k : ClockKind) (a b : List ℕ) → last_clock k a ≤ last_clock k (a ++ b)
last_clock_grows k a b =
    let f = front_lines a b in
    omega (arith, ap (largest k) f.1, largest-append k (lines_of a) f.0)

-- a whole text that isn't empty has a line
whole_has_line : (x : ℕ) (xs : List ℕ) → is_whole (x ∷ xs) ≡ true → (l : List ℕ) × (ls : List (List ℕ)) × (lines_of (x ∷ xs) ≡ l ∷ ls)
whole_has_line x [] h = ([], [], cond-true (eqb x 10) _ _ h)
whole_has_line x (y ∷ ys) h = step (eqb x 10) (whole_has_line y ys h)
  where
    step : (t : Bool) → (l : List ℕ) × (ls : List (List ℕ)) × (lines_of (y ∷ ys) ≡ l ∷ ls)
        → (l : List ℕ) × (ls : List (List ℕ)) × (cond t ([] ∷ lines_of (y ∷ ys)) (onto_line x (lines_of (y ∷ ys))) ≡ l ∷ ls)
    step true ih = ([], lines_of (y ∷ ys), refl)
    step false ih = (x ∷ ih.0, ih.1, ap (onto_line x) ih.2)

-- after a whole text, the lines continue
pub lines_of-append : (a b : List ℕ) → is_whole a ≡ true → lines_of (a ++ b) ≡ lines_of a ++ lines_of b
lines_of-append [] b h = refl
lines_of-append (x ∷ []) b h = cond-true (eqb x 10) _ _ h ∙ ap (λ (l : List (List ℕ)). l ++ lines_of b) (sym (cond-true (eqb x 10) _ _ h))
lines_of-append (x ∷ y ∷ a) b h = step (eqb x 10) (lines_of-append (y ∷ a) b h) (whole_has_line y a h)
  where
    onto : (ls ms : List (List ℕ)) → (l : List ℕ) × (r : List (List ℕ)) × (ls ≡ l ∷ r) → onto_line x (ls ++ ms) ≡ onto_line x ls ++ ms
    onto [] ms h = absurd (cc h.2)
    onto (l ∷ ls) ms h = refl

    step : (t : Bool) → lines_of ((y ∷ a) ++ b) ≡ lines_of (y ∷ a) ++ lines_of b → (l : List ℕ) × (ls : List (List ℕ)) × (lines_of (y ∷ a) ≡ l ∷ ls)
        → cond t ([] ∷ lines_of ((y ∷ a) ++ b)) (onto_line x (lines_of ((y ∷ a) ++ b))) ≡ cond t ([] ∷ lines_of (y ∷ a)) (onto_line x (lines_of (y ∷ a))) ++ lines_of b
    step true ih some = ap (λ (l : List (List ℕ)). [] ∷ l) ih
    step false ih some = ap (onto_line x) ih ∙ onto (lines_of (y ∷ a)) (lines_of b) some

pub lines_of-one : (line : List ℕ) → has_no_newline line ≡ true → lines_of (line ++ 10 ∷ []) ≡ line ∷ []
lines_of-one [] h = refl
lines_of-one (b ∷ bs) h =
    let p = and_parts (not (eqb b 10)) (has_no_newline bs) h in
    cond-false (eqb b 10) _ _ (grind (arith, p.0)) ∙ ap (onto_line b) (lines_of-one bs p.1)

pub own : IsNumeralModel (λ ds. all_ascii_digits ds ≡ true) (read_on 0)
own = numerals_by_fold _ (search rules) read_on (search rules)

pub digits_no_newline : (ds : List ℕ) → all_ascii_digits ds ≡ true → has_no_newline ds ≡ true
digits_no_newline [] h = refl
digits_no_newline (d ∷ ds) h =
    let p = and_parts (is_ascii_digit d) (all_ascii_digits ds) h in
    let range = and_parts (nat_le 48 d) (nat_le d 57) p.0 in
    let far : d ≢ 10 = omega (arith, leb-true 48 d range.0) in
    and_from (not (eqb d 10)) (has_no_newline ds) (ap not (ne_eqb d 10 far)) (digits_no_newline ds p.1)

pub prefix_no_newline : (k : ClockKind) (ds : List ℕ) → has_no_newline ds ≡ true → has_no_newline (prefix_of k ++ ds) ≡ true
prefix_no_newline Member ds h = h
prefix_no_newline Event ds h = h
prefix_no_newline Query ds h = h

pub decimal_is_time : (n : ℕ) → n < 2 ^ 64 - 1 → is_time_text (decimal n) ≡ true
decimal_is_time n h =
    let small : n < 2 ^ 64 = omega arith in
    let value = digits_value-decimal own n small in
    and_from _ _ (not_empty (decimal n) (decimal_nonempty n small))
    (and_from _ _ (digits_decimal own n small) (lt-ltb (read_on 0 (decimal n)) (2 ^ 64 - 1) (omega arith)))
  where
    not_empty : (ds : List ℕ) → 0 < length ds → not (is_empty ds) ≡ true
    not_empty [] l = absurd (omega arith)
    not_empty (d ∷ ds) l = refl

pub time_text_value-decimal : (n : ℕ) → n < 2 ^ 64 - 1 → time_text_value (Some (decimal n)) ≡ n
time_text_value-decimal n h = cond-true _ _ _ (decimal_is_time n h) ∙ digits_value-decimal own n (omega arith)

-- the value of a written line, as a line of its own kind and of another kind
pub line_value-written : (k : ClockKind) (n : ℕ) → n < 2 ^ 64 - 1 → line_value k (prefix_of k ++ decimal n) ≡ n
line_value-written Member n h = time_text_value-decimal n h
line_value-written Event n h = time_text_value-decimal n h
line_value-written Query n h = time_text_value-decimal n h

pub line_value-other : (k j : ClockKind) (n : ℕ) → k ≢ j → line_value k (prefix_of j ++ decimal n) ≡ 0
line_value-other Member Member n h = absurd (h refl)
line_value-other Member Event n h = refl
line_value-other Member Query n h = refl
line_value-other Event Member n h = refl
line_value-other Event Event n h = absurd (h refl)
line_value-other Event Query n h = refl
line_value-other Query Member n h = refl
line_value-other Query Event n h = refl
line_value-other Query Query n h = absurd (h refl)

pub lines_of-clock_line : (k : ClockKind) (n : ℕ) → n < 2 ^ 64 - 1 → lines_of (clock_line k n) ≡ (prefix_of k ++ decimal n) ∷ []
lines_of-clock_line k n h =
    lines_of-one (prefix_of k ++ decimal n) (prefix_no_newline k (decimal n) (digits_no_newline (decimal n) (digits_decimal own n (omega arith))))

-- a line that is written after a whole text raises the value of its own kind and of no other
pub last_clock-line : (k : ClockKind) (text : List ℕ) (n : ℕ) → is_whole text ≡ true → n < 2 ^ 64 - 1 → last_clock k (text ++ clock_line k n) ≡ max (last_clock k text) n
last_clock-line k text n whole h =
    ap (largest k) (lines_of-append text (clock_line k n) whole ∙ ap (λ (l : List (List ℕ)). lines_of text ++ l) (lines_of-clock_line k n h))
    ∙ omega (arith, largest-append k (lines_of text) ((prefix_of k ++ decimal n) ∷ []), line_value-written k n h)

pub last_clock-other_line : (k j : ClockKind) (text : List ℕ) (n : ℕ) → is_whole text ≡ true → n < 2 ^ 64 - 1 → k ≢ j → last_clock k (text ++ clock_line j n) ≡ last_clock k text
last_clock-other_line k j text n whole h other =
    ap (largest k) (lines_of-append text (clock_line j n) whole ∙ ap (λ (l : List (List ℕ)). lines_of text ++ l) (lines_of-clock_line j n h))
    ∙ omega (arith, largest-append k (lines_of text) ((prefix_of j ++ decimal n) ∷ []), line_value-other k j n other)

pub is_whole-push : (a : List ℕ) → is_whole (a ++ 10 ∷ []) ≡ true
is_whole-push [] = refl
is_whole-push (x ∷ []) = refl
is_whole-push (x ∷ y ∷ a) = is_whole-push (y ∷ a)

pub is_whole-line : (k : ClockKind) (text : List ℕ) (n : ℕ) → is_whole (text ++ clock_line k n) ≡ true
is_whole-line k text n = ap is_whole (sym (append_assoc text (prefix_of k ++ decimal n) (10 ∷ []))) ∙ is_whole-push (text ++ (prefix_of k ++ decimal n))

pub is_whole-sealed : (text : List ℕ) → is_whole (sealed text) ≡ true
is_whole-sealed text = step (is_whole text) refl
  where
    step : (t : Bool) → is_whole text ≡ t → is_whole (cond t text (text ++ 35 ∷ 10 ∷ [])) ≡ true
    step true e = e
    step false e = ap is_whole (sym (append_assoc text (35 ∷ []) (10 ∷ []))) ∙ is_whole-push (text ++ 35 ∷ [])

-- the seal ends a line that isn't a clock line
pub torn_line : (text : List ℕ) → is_whole text ≡ false → (u : List ℕ) × (lines_of (text ++ 35 ∷ 10 ∷ []) ≡ lines_of text ++ (u ++ 35 ∷ []) ∷ [])
torn_line [] h = absurd (cc h)
torn_line (x ∷ []) h = (x ∷ [], cond-false (eqb x 10) _ _ h ∙ sym (ap (λ (l : List (List ℕ)). l ++ (x ∷ 35 ∷ []) ∷ []) (cond-false (eqb x 10) _ _ h)))
torn_line (x ∷ y ∷ text) h = step (eqb x 10) (torn_line (y ∷ text) h)
  where
    onto : (ls : List (List ℕ)) (u : List ℕ) → (v : List ℕ) × (onto_line x (ls ++ (u ++ 35 ∷ []) ∷ []) ≡ onto_line x ls ++ (v ++ 35 ∷ []) ∷ [])
    onto [] u = (x ∷ u, refl)
    onto (l ∷ ls) u = (u, refl)

    step : (t : Bool) → (u : List ℕ) × (lines_of ((y ∷ text) ++ 35 ∷ 10 ∷ []) ≡ lines_of (y ∷ text) ++ (u ++ 35 ∷ []) ∷ [])
        → (u : List ℕ) × (cond t ([] ∷ lines_of ((y ∷ text) ++ 35 ∷ 10 ∷ [])) (onto_line x (lines_of ((y ∷ text) ++ 35 ∷ 10 ∷ []))) ≡ cond t ([] ∷ lines_of (y ∷ text)) (onto_line x (lines_of (y ∷ text))) ++ (u ++ 35 ∷ []) ∷ [])
    step true ih = (ih.0, ap (λ (l : List (List ℕ)). [] ∷ l) ih.1)
    step false ih = let f = onto (lines_of (y ∷ text)) ih.0 in (f.0, ap (onto_line x) ih.1 ∙ f.1)

pub digits_end : (v : List ℕ) → all_ascii_digits (v ++ 35 ∷ []) ≡ false
digits_end [] = refl
digits_end (d ∷ v) = and_right (is_ascii_digit d) _ (digits_end v)

torn_value : (v : List ℕ) → time_text_value (Some (v ++ 35 ∷ [])) ≡ 0
torn_value v = cond-false _ _ _ (and_right (not (is_empty (v ++ 35 ∷ []))) _ (and_left (all_ascii_digits (v ++ 35 ∷ [])) _ (digits_end v)))

has_no_hash : List ℕ → Bool
has_no_hash [] = true
has_no_hash (b ∷ bs) = not (eqb b 35) && has_no_hash bs

torn_after : (p u : List ℕ) → has_no_hash p ≡ true → time_text_value (following p (u ++ 35 ∷ [])) ≡ 0
unfolding has_no_hash
torn_after [] u h = torn_value u
torn_after (b ∷ p) [] h =
    let parts = and_parts (not (eqb b 35)) (has_no_hash p) h in
    ap time_text_value (cond-false (eqb b 35) _ _ (not-true (eqb b 35) parts.0))
torn_after (b ∷ p) (x ∷ u) h =
    let parts = and_parts (not (eqb b 35)) (has_no_hash p) h in
    step (eqb b x) (torn_after p u parts.1)
  where
    step : (t : Bool) → time_text_value (following p (u ++ 35 ∷ [])) ≡ 0 → time_text_value (cond t (following p (u ++ 35 ∷ [])) None) ≡ 0
    step true ih = ih
    step false ih = refl

line_value-torn : (k : ClockKind) (u : List ℕ) → line_value k (u ++ 35 ∷ []) ≡ 0
unfolding has_no_hash
line_value-torn Member u = torn_after (prefix_of Member) u refl
line_value-torn Event u = torn_after (prefix_of Event) u refl
line_value-torn Query u = torn_after (prefix_of Query) u refl

pub last_clock-sealed : (k : ClockKind) (text : List ℕ) → last_clock k (sealed text) ≡ last_clock k text
last_clock-sealed k text = step (is_whole text) refl
  where
    step : (t : Bool) → is_whole text ≡ t → last_clock k (cond t text (text ++ 35 ∷ 10 ∷ [])) ≡ last_clock k text
    step true e = refl
    step false e =
        let torn = torn_line text e in
        omega (arith, ap (largest k) torn.1, largest-append k (lines_of text) ((torn.0 ++ 35 ∷ []) ∷ []), line_value-torn k torn.0)

-- reading more digits never makes a number smaller
read_on-grows : (n : ℕ) (ds : List ℕ) → n ≤ read_on n ds
read_on-grows n [] = omega arith
read_on-grows n (d ∷ ds) = let ih : 10 * n + (d - 48) ≤ read_on (10 * n + (d - 48)) ds = read_on-grows (10 * n + (d - 48)) ds in omega arith

-- numbers with the same bounded value still have the same one after more digits
pub read_on-top : (n m top : ℕ) (ds : List ℕ) → min n top ≡ min m top → min (read_on n ds) top ≡ min (read_on m ds) top
read_on-top n m top ds h = elim (cases_lt n top) [
  | inl low ↦ let same : n ≡ m = omega arith in ap (λ k. min (read_on k ds) top) same
  | inr high ↦ let a = read_on-grows n ds in let b = read_on-grows m ds in omega arith
]

-- one more digit, whether the value has reached the bound or not
pub read_on-step : (n m top i : ℕ) (ds : List ℕ) → i < length ds → m ≡ min (min (n * 10) top + (get_or ds i 0 - 48)) top → min (read_on m (drop (i + 1) ds)) top ≡ min (read_on n (drop i ds)) top
read_on-step n m top i ds within is =
    rw (drop_more ds i 0 within) (read_on-top m (10 * n + (get_or ds i 0 - 48)) top (drop (i + 1) ds) (omega arith))

pub value-below : (r : Option (List ℕ)) → time_text_value r < 2 ^ 64 - 1
value-below None = omega arith
value-below (Some ds) = by (is_time_text ds) refl
  where
    by : (b : Bool) → is_time_text ds ≡ b → cond b (read_on 0 ds) 0 < 2 ^ 64 - 1
    by false h = omega arith
    by true h =
        let parts = and_parts (not (is_empty ds)) (all_ascii_digits ds && nat_lt (read_on 0 ds) (2 ^ 64 - 1)) h in
        let more = and_parts (all_ascii_digits ds) (nat_lt (read_on 0 ds) (2 ^ 64 - 1)) parts.1 in
        ltb-true _ _ more.1

largest-below : (k : ClockKind) (lines : List (List ℕ)) → largest k lines < 2 ^ 64 - 1
largest-below k [] = omega arith
largest-below k (l ∷ ls) = let a : line_value k l < 2 ^ 64 - 1 = value-below (following (prefix_of k) l) in let b = largest-below k ls in omega arith

pub last_clock-below : (k : ClockKind) (text : List ℕ) → last_clock k text < 2 ^ 64 - 1
last_clock-below k text = largest-below k (lines_of text)

-- a line above zero after a whole text, as a compaction writes it
pub last_clock-above_zero : (k kind : ClockKind) (text : List ℕ) (t : ℕ) → is_whole text ≡ true → t < 2 ^ 64 - 1 → last_clock k (text ++ line_above_zero kind t) ≡ max (last_clock k text) (once_set k kind t 0)
last_clock-above_zero k kind text t whole small = by (t == 0) refl
  where
    value : (a b : ClockKind) → last_clock a (text ++ clock_line b t) ≡ max (last_clock a text) (once_set a b t 0)
    value Member Member = last_clock-line Member text t whole small
    value Event Event = last_clock-line Event text t whole small
    value Query Query = last_clock-line Query text t whole small
    value Member Event = omega (arith, last_clock-other_line Member Event text t whole small (λ q. cc))
    value Member Query = omega (arith, last_clock-other_line Member Query text t whole small (λ q. cc))
    value Event Member = omega (arith, last_clock-other_line Event Member text t whole small (λ q. cc))
    value Event Query = omega (arith, last_clock-other_line Event Query text t whole small (λ q. cc))
    value Query Member = omega (arith, last_clock-other_line Query Member text t whole small (λ q. cc))
    value Query Event = omega (arith, last_clock-other_line Query Event text t whole small (λ q. cc))

    nothing : (a b : ClockKind) (n : ℕ) → n ≡ 0 → once_set a b n 0 ≡ 0
    nothing Member Member n h = h
    nothing Event Event n h = h
    nothing Query Query n h = h
    nothing Member Event n h = refl
    nothing Member Query n h = refl
    nothing Event Member n h = refl
    nothing Event Query n h = refl
    nothing Query Member n h = refl
    nothing Query Event n h = refl

    by : (b : Bool) → (t == 0) ≡ b → last_clock k (text ++ cond b [] (clock_line kind t)) ≡ max (last_clock k text) (once_set k kind t 0)
    by true zero =
        let none : text ++ [] ≡ text = grind (arith, common_steps) in
        let t0 : t ≡ 0 = grind (arith, common_steps) in
        let z : once_set k kind t 0 ≡ 0 = nothing k kind t t0 in
        ap (last_clock k) none ∙ omega (arith, z)
    by false more = value k kind

pub is_whole-above_zero : (kind : ClockKind) (text : List ℕ) (t : ℕ) → is_whole text ≡ true → is_whole (text ++ line_above_zero kind t) ≡ true
is_whole-above_zero kind text t whole = by (t == 0)
  where
    by : (b : Bool) → is_whole (text ++ cond b [] (clock_line kind t)) ≡ true
    by true = let none : text ++ [] ≡ text = grind (arith, common_steps) in ap is_whole none ∙ whole
    by false = is_whole-line kind text t

-- the clocks of a compacted text are the numbers from which it was made
pub last_clock-compacted : (k : ClockKind) (m e q : ℕ) → m < 2 ^ 64 - 1 → e < 2 ^ 64 - 1 → q < 2 ^ 64 - 1 → last_clock k (compacted_text m e q) ≡ of_kind k m e q
last_clock-compacted k m e q low_m low_e low_q =
    let w1 : is_whole (line_above_zero Member m) ≡ true = is_whole-above_zero Member [] m refl in
    let w2 : is_whole (line_above_zero Member m ++ line_above_zero Event e) ≡ true = is_whole-above_zero Event (line_above_zero Member m) e w1 in
    let a : last_clock k (line_above_zero Member m) ≡ max 0 (once_set k Member m 0) = last_clock-above_zero k Member [] m refl low_m in
    let b : last_clock k (line_above_zero Member m ++ line_above_zero Event e) ≡ max (last_clock k (line_above_zero Member m)) (once_set k Event e 0) = last_clock-above_zero k Event (line_above_zero Member m) e w1 low_e in
    let c : last_clock k ((line_above_zero Member m ++ line_above_zero Event e) ++ line_above_zero Query q) ≡ max (last_clock k (line_above_zero Member m ++ line_above_zero Event e)) (once_set k Query q 0) = last_clock-above_zero k Query (line_above_zero Member m ++ line_above_zero Event e) q w2 low_q in
    c ∙ ap (λ n. max n (once_set k Query q 0)) (b ∙ ap (λ n. max n (once_set k Event e 0)) a) ∙ all k
  where
    all : (at : ClockKind) → max (max (max 0 (once_set at Member m 0)) (once_set at Event e 0)) (once_set at Query q 0) ≡ of_kind at m e q
    all Member = omega arith
    all Event = omega arith
    all Query = omega arith

pub is_whole-compacted : (m e q : ℕ) → is_whole (compacted_text m e q) ≡ true
is_whole-compacted m e q =
    is_whole-above_zero Query (line_above_zero Member m ++ line_above_zero Event e) q (is_whole-above_zero Event (line_above_zero Member m) e (is_whole-above_zero Member [] m refl))

-- what follows a prefix, if the text begins with it and if it doesn't
following-append : (p rest : List ℕ) → following p (p ++ rest) ≡ Some rest
following-append [] rest = refl
following-append (b ∷ p) rest = cond-true (eqb b b) _ _ (eq-eqb b b refl) ∙ following-append p rest

following-other : (p s : List ℕ) → (take (length p) s ≢ p) → following p s ≡ None
following-other [] s h = absurd (h refl)
following-other (b ∷ p) [] h = refl
following-other (b ∷ p) (x ∷ s) h = elim (cases_Bool (eqb b x)) [
  | inl same ↦ cond-true (eqb b x) _ _ same ∙ following-other p s (λ e. h (let same_byte : b ≡ x = eqb-true b x same in cc))
  | inr other ↦ cond-false (eqb b x) _ _ other
]

pub following-prefixed : (p s rest : List ℕ) → pointwise nat_eq (take (length p) s) p ≡ true → rest ≡ drop (length p) s → following p s ≡ Some rest
following-prefixed p s rest same is =
    let front : take (length p) s ≡ p = same_text (take (length p) s) p (sym same) in
    let whole : s ≡ p ++ rest = sym (take-append-drop (length p) s) ∙ ap (λ (l : List ℕ). l ++ drop (length p) s) front ∙ ap (λ (l : List ℕ). p ++ l) (sym is) in
    ap (following p) whole ∙ following-append p rest

pub following-unprefixed : (p s : List ℕ) → pointwise nat_eq (take (length p) s) p ≡ false → following p s ≡ None
following-unprefixed p s other = following-other p s (other_text (take (length p) s) p (sym other))

-- whether a text is whole depends only on its last byte
pub is_whole-last : (text : List ℕ) (b : ℕ) → Some b ≡ slice_get text (length text - 1) → (b == 10) ≡ is_whole text
is_whole-last [] b h = absurd (cc h)
is_whole-last (x ∷ []) b h = let same : b ≡ x = cc h in ap (λ n. n == 10) same
is_whole-last (x ∷ y ∷ ys) b h =
    let here : length (x ∷ y ∷ ys) - 1 ≡ length (y ∷ ys) = omega arith in
    let before : length (y ∷ ys) - 1 ≡ length ys = omega arith in
    is_whole-last (y ∷ ys) b (h ∙ ap (slice_get (x ∷ y ∷ ys)) here ∙ ap (slice_get (y ∷ ys)) (sym before))

-- the values stay below a bound if the time that is set is below it
pub once_set-below : (at kind : ClockKind) (time value top : ℕ) → time < top → value < top → once_set at kind time value < top
once_set-below Member Member time value top new old = new
once_set-below Member Event time value top new old = old
once_set-below Member Query time value top new old = old
once_set-below Event Member time value top new old = old
once_set-below Event Event time value top new old = new
once_set-below Event Query time value top new old = old
once_set-below Query Member time value top new old = old
once_set-below Query Event time value top new old = old
once_set-below Query Query time value top new old = new
