-- A walk returns as many parts as the head says.
use Rattle.serf_pack.proofs.Names.{Err, List, Ok, Result, ap, is_ok, length, refl, suc, sym, true, zero, ℕ, ◌∙◌, ◌≡◌, Reader, items_or_none, pairs_or_none, ◌>>=◌, items_at, pairs_at, Items, Pairs, Tree, item, no_items, no_pairs, pair, item_list, pair_list, PackError}
use Rattle.serf_pack.proofs.Steps.{bind_ok, ok_is}

items_of_ok : (value : Reader Tree) (n : ℕ) (bytes : List ℕ) (x : Items × List ℕ) → items_at value n bytes ≡ Ok x → length (item_list x.0) ≡ n
unfolding items_at
items_of_ok value zero bytes x e = sym (ap (λ (y : Items × List ℕ). length (item_list y.0)) (ok_is (no_items, bytes) x e))
items_of_ok value (suc n) bytes x e =
    let a = bind_ok (value bytes) (λ v. items_at value n v.1 >>= λ vs. Ok (item v.0 vs.0, vs.1)) x e in
    let b = bind_ok (items_at value n a.0.1) (λ vs. Ok (item a.0.0 vs.0, vs.1)) x a.2 in
    sym (ap (λ (y : Items × List ℕ). length (item_list y.0)) (ok_is (item a.0.0 b.0.0, b.0.1) x b.2)) ∙ ap suc (items_of_ok value n a.0.1 b.0 b.1)

items_by_good : (n : ℕ) (r : Result (Items × List ℕ) PackError) → ((x : Items × List ℕ) → r ≡ Ok x → length (item_list x.0) ≡ n) → is_ok r ≡ true → length (item_list (items_or_none r)) ≡ n
items_by_good n (Ok x) each good = each x refl
items_by_good n (Err f) each good = absurd cc

pub item_count_is : (value : Reader Tree) (n : ℕ) (bytes : List ℕ) → is_ok (items_at value n bytes) ≡ true → length (item_list (items_or_none (items_at value n bytes))) ≡ n
item_count_is value n bytes good = items_by_good n (items_at value n bytes) (items_of_ok value n bytes) good

pairs_of_ok : (value : Reader Tree) (n : ℕ) (bytes : List ℕ) (x : Pairs × List ℕ) → pairs_at value n bytes ≡ Ok x → length (pair_list x.0) ≡ n
unfolding pairs_at
pairs_of_ok value zero bytes x e = sym (ap (λ (y : Pairs × List ℕ). length (pair_list y.0)) (ok_is (no_pairs, bytes) x e))
pairs_of_ok value (suc n) bytes x e =
    let a = bind_ok (value bytes) (λ k. value k.1 >>= λ v. pairs_at value n v.1 >>= λ ps. Ok (pair k.0 v.0 ps.0, ps.1)) x e in
    let b = bind_ok (value a.0.1) (λ v. pairs_at value n v.1 >>= λ ps. Ok (pair a.0.0 v.0 ps.0, ps.1)) x a.2 in
    let c = bind_ok (pairs_at value n b.0.1) (λ ps. Ok (pair a.0.0 b.0.0 ps.0, ps.1)) x b.2 in
    sym (ap (λ (y : Pairs × List ℕ). length (pair_list y.0)) (ok_is (pair a.0.0 b.0.0 c.0.0, c.0.1) x c.2)) ∙ ap suc (pairs_of_ok value n b.0.1 c.0 c.1)

pairs_by_good : (n : ℕ) (r : Result (Pairs × List ℕ) PackError) → ((x : Pairs × List ℕ) → r ≡ Ok x → length (pair_list x.0) ≡ n) → is_ok r ≡ true → length (pair_list (pairs_or_none r)) ≡ n
pairs_by_good n (Ok x) each good = each x refl
pairs_by_good n (Err f) each good = absurd cc

pub pair_count_is : (value : Reader Tree) (n : ℕ) (bytes : List ℕ) → is_ok (pairs_at value n bytes) ≡ true → length (pair_list (pairs_or_none (pairs_at value n bytes))) ≡ n
pair_count_is value n bytes good = pairs_by_good n (pairs_at value n bytes) (pairs_of_ok value n bytes) good
