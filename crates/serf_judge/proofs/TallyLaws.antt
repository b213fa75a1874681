-- The tallies of lines, one line after another.
use Rattle.serf_judge.proofs.Names.{Bool, Bor, List, None, Option, Some, [], ap, arith, cond, false, get_or, length, map, max, min, refl, subst, sym, take, take_all, true, unwrap_or, ℕ, ◌++◌, ◌+◌, ◌-◌, ◌<◌, ◌^◌, ◌∙◌, ◌∷◌, ◌≡◌, ◌≤◌, append-nil, length_push, map-append, take_more, filter-append, fold-append, bytes_eq-Decides, nat_list_eq_equiv, bytes_eq, Identity, texts_of, largest, lowest, lines_to, nodes_of, tallies_of, tally_of, Delivery, Tally}

pub map-map : {X Y Z : Type 0} (g : Y → Z) (f : X → Y) (xs : List X) → map g (map f xs) ≡ map (λ x. g (f x)) xs
map-map g f [] = refl
map-map g f (x ∷ xs) = ap (λ t. g (f x) ∷ t) (map-map g f xs)

-- the item past the end of the list, as the goals have it
abbrev pub no_text : Bor (List ℕ)
no_text = record { ref_ptr = (0, 0); now = [] }

abbrev pub no_line : Delivery
no_line = record { line = 0; key = record { node = no_text; time = 0; id = None; name = no_text; payload = no_text } }

-- one more item of a list that a loop walks through
pub take-next : {X : Type 0} (xs : List X) (i : ℕ) (x : X) → i < length xs → x ≡ get_or xs i x → take (i + 1) xs ≡ take i xs ++ x ∷ []
take-next xs i x lt is = take_more xs i x lt ∙ ap (λ y. take i xs ++ y ∷ []) (sym is)

lowest-push : (numbers : List ℕ) (n : ℕ) → lowest (numbers ++ n ∷ []) ≡ min (lowest numbers) n
lowest-push numbers n = fold-append min (2 ^ 64 - 1) numbers (n ∷ [])

largest-push : (numbers : List ℕ) (n : ℕ) → largest (numbers ++ n ∷ []) ≡ max (largest numbers) n
largest-push numbers n = fold-append max 0 numbers (n ∷ [])

stops : (n : ℕ) → min (n + 1) (2 ^ 64 - 1) ≡ min (min n (2 ^ 64 - 1) + 1) (2 ^ 64 - 1)
stops n = omega arith

abbrev pub with_line : Tally → (ℕ × Identity) → Tally
with_line t h = record {
  count = min (t.count + 1) (2 ^ 64 - 1);
  min_time = min t.min_time h.1.time;
  largest_time = max t.largest_time h.1.time;
  first_line = min t.first_line h.0;
  last_line = max t.last_line h.0;
}

pub tally-push : (own : List (ℕ × Identity)) (h : ℕ × Identity) → tally_of (own ++ h ∷ []) ≡ with_line (tally_of own) h
tally-push own h =
    let count = ap (λ n. min n (2 ^ 64 - 1)) (length_push own h) ∙ stops (length own) in
    let times = map-append (λ (x : ℕ × Identity). x.1.time) own (h ∷ []) in
    let lines = map-append (λ (x : ℕ × Identity). x.0) own (h ∷ []) in
    let min_time = ap lowest times ∙ lowest-push (map (λ x. x.1.time) own) h.1.time in
    let largest_time = ap largest times ∙ largest-push (map (λ x. x.1.time) own) h.1.time in
    let first_line = ap lowest lines ∙ lowest-push (map (λ x. x.0) own) h.0 in
    let last_line = ap largest lines ∙ largest-push (map (λ x. x.0) own) h.0 in
    λ k. record { count = count k; min_time = min_time k; largest_time = largest_time k; first_line = first_line k; last_line = last_line k }

pub lines_to-push : (node : List ℕ) (lines : List (ℕ × Identity)) (h : ℕ × Identity) → lines_to node (lines ++ h ∷ []) ≡ lines_to node lines ++ cond (bytes_eq node h.1.node) (h ∷ []) []
lines_to-push node lines h = filter-append (λ (x : ℕ × Identity). bytes_eq node x.1.node) lines (h ∷ [])

-- a node's next line is tallied
pub line-tallied : (lines : List (ℕ × Identity)) (h : ℕ × Identity) (key : Bor (List ℕ)) (tally : Tally) (old new : Bor (List ℕ) → Option Tally)
    → ((q : Bor (List ℕ)) → unwrap_or (old q) (tally_of []) ≡ tally_of (lines_to q.now lines)) → key.now ≡ h.1.node → tally ≡ tally_of (lines_to h.1.node lines ++ h ∷ [])
    → ((q : Bor (List ℕ)) → new q ≡ cond (bytes_eq key.now q.now) (Some tally) (old q))
    → (q : Bor (List ℕ)) → unwrap_or (new q) (tally_of []) ≡ tally_of (lines_to q.now (lines ++ h ∷ []))
line-tallied lines h key tally old new before same is step q = rw (step q) (by (bytes_eq key.now q.now) refl)
  where
    by : (b : Bool) → bytes_eq key.now q.now ≡ b → unwrap_or (cond b (Some tally) (old q)) (tally_of []) ≡ tally_of (lines_to q.now (lines ++ h ∷ []))
    by true e =
        let there : h.1.node ≡ q.now = sym same ∙ (bytes_eq-Decides key.now q.now).0 e in
        let own : lines_to h.1.node (lines ++ h ∷ []) ≡ lines_to h.1.node lines ++ h ∷ [] = lines_to-push h.1.node lines h ∙ ap (λ b. lines_to h.1.node lines ++ cond b (h ∷ []) []) ((bytes_eq-Decides h.1.node h.1.node).1 refl) in
        subst (λ (node : List ℕ). tally ≡ tally_of (lines_to node (lines ++ h ∷ []))) there (is ∙ ap tally_of (sym own))
    by false e =
        let apart : bytes_eq q.now h.1.node ≡ false = nat_list_eq_equiv.symm q.now h.1.node ∙ ap (λ n. bytes_eq n q.now) (sym same) ∙ e in
        let own : lines_to q.now (lines ++ h ∷ []) ≡ lines_to q.now lines = lines_to-push q.now lines h ∙ ap (λ b. lines_to q.now lines ++ cond b (h ∷ []) []) apart ∙ append-nil (lines_to q.now lines) in
        before q ∙ ap tally_of (sym own)

-- each node was reported
pub told-all : (lines : List (ℕ × Identity)) (told : List (List ℕ × Tally)) (items nodes : List (Bor (List ℕ))) (n : ℕ) → told ≡ map (λ t. (t.now, tally_of (lines_to t.now lines))) (take n items)
    → length items ≤ n → items ≡ nodes → texts_of nodes ≡ nodes_of lines → told ≡ tallies_of lines
told-all lines told items nodes n are end same named =
    let row : List ℕ → List ℕ × Tally = λ node. (node, tally_of (lines_to node lines)) in
    let text : Bor (List ℕ) → List ℕ = λ t. t.now in
    are ∙ ap (map (λ t. row (text t))) (take_all n items end ∙ same) ∙ sym (map-map row text nodes) ∙ ap (map row) named
