-- Which events some node was never handed, one event after another.
use Rattle.serf_judge.proofs.Names.{Bool, Bor, List, [], ap, cond, false, get_or, length, map, nat_lt, not, refl, sym, take, take_all, true, ℕ, ◌++◌, ◌+◌, ◌<◌, ◌∙◌, ◌∷◌, ◌≡◌, ◌≤◌, lt-ltb, append-nil, map_more, take-map, filter-append, filter, EventContent, key_content, event_seen, Missing, at_most, contents_of, has_nodes, missed_of, missing_at, missing_of, was_handed, receivers_of, texts_of, EventEntry, ContentKey}
use Rattle.serf_judge.proofs.TallyLaws.{map-map, no_text}

filter-view : {X Y : Type 0} (f : X → Y) (p : X → Bool) (q : Y → Bool) → ((x : X) → p x ≡ q (f x)) → (xs : List X) → map f (filter p xs) ≡ filter q (map f xs)
filter-view f p q agree [] = refl
filter-view {X} f p q agree (x ∷ xs) = by (p x) ∙ (λ k. cond (agree x k) (f x ∷ filter-view f p q agree xs k) (filter-view f p q agree xs k))
  where
    by : (b : Bool) → map f (cond b (x ∷ filter p xs) (filter p xs)) ≡ cond b (f x ∷ map f (filter p xs)) (map f (filter p xs))
    by true = refl
    by false = refl

-- the first nodes for which the set doesn't have an event
pub some-missing : (maximum : ℕ) (entries : List EventEntry) (x : EventContent) (lacks : Bor (List ℕ) → Bool) (nodes found : List (Bor (List ℕ))) → ((t : Bor (List ℕ)) → lacks t ≡ not (was_handed entries x t.now))
    → found ≡ take maximum (filter lacks nodes) → texts_of nodes ≡ receivers_of event_seen entries → texts_of found ≡ take maximum (missing_of entries x)
some-missing maximum entries x lacks nodes found agree are named =
    ap texts_of are ∙ sym (take-map (λ (t : Bor (List ℕ)). t.now) maximum (filter lacks nodes))
    ∙ ap (take maximum) (filter-view (λ (t : Bor (List ℕ)). t.now) lacks (λ n. not (was_handed entries x n)) agree nodes ∙ ap (filter (λ n. not (was_handed entries x n))) named)

-- the item past the end of a list, as the goals have it
abbrev pub no_content : ContentKey
no_content = record { time = 0; name = no_text; payload = no_text }

-- an event that no node missed is left out
pub put-none : (xs : List Missing) (x : EventContent) (nodes : List (List ℕ)) → length nodes ≡ 0 → xs ≡ xs ++ filter has_nodes (missing_at x nodes ∷ [])
put-none xs x nodes none = sym (ap (λ n. xs ++ cond (nat_lt 0 n) (missing_at x nodes ∷ []) []) none ∙ append-nil xs)

pub put-some : (xs : List Missing) (x : EventContent) (nodes : List (List ℕ)) → 0 < length nodes → xs ++ missing_at x nodes ∷ [] ≡ xs ++ filter has_nodes (missing_at x nodes ∷ [])
put-some xs x nodes some = sym (ap (λ b. xs ++ cond b (missing_at x nodes ∷ []) []) (lt-ltb 0 (length nodes) some))

abbrev pub row_of : ℕ → List EventEntry → ContentKey → Missing
row_of maximum entries key = at_most maximum entries (key_content key)

-- one more event was read
pub rows-more : (maximum : ℕ) (entries : List EventEntry) (keys : List ContentKey) (i : ℕ) (old new : List Missing) (missing : List (List ℕ)) → i < length keys
    → old ≡ filter has_nodes (map (row_of maximum entries) (take i keys)) → new ≡ old ++ filter has_nodes (missing_at (key_content (get_or keys i no_content)) missing ∷ [])
    → missing ≡ take maximum (missing_of entries (key_content (get_or keys i no_content))) → new ≡ filter has_nodes (map (row_of maximum entries) (take (i + 1) keys))
rows-more maximum entries keys i old new missing lt are is named =
    let key = get_or keys i no_content in
    is
    ∙ (λ k. are k ++ filter has_nodes (missing_at (key_content key) (named k) ∷ []))
    ∙ sym (filter-append has_nodes (map (row_of maximum entries) (take i keys)) (row_of maximum entries key ∷ []))
    ∙ ap (filter has_nodes) (sym (map_more (row_of maximum entries) keys i no_content lt))

-- all events were read
pub rows-all : (maximum : ℕ) (entries : List EventEntry) (keys items : List ContentKey) (n : ℕ) (rows : List Missing) → rows ≡ filter has_nodes (map (row_of maximum entries) (take n keys))
    → length keys ≤ n → keys ≡ items → map key_content items ≡ contents_of entries → rows ≡ missed_of maximum entries
rows-all maximum entries keys items n rows are end same named =
    are ∙ ap (λ ks. filter has_nodes (map (row_of maximum entries) ks)) (take_all n keys end ∙ same)
    ∙ ap (filter has_nodes) (sym (map-map (at_most maximum entries) key_content items) ∙ ap (map (at_most maximum entries)) named)
