-- What the recorded firings become after one more firing.
use Rattle.serf_judge.proofs.Names.{Bool, Decides, [], ap, arith, false, max, min, nat_lt, refl, true, ℕ, ◌||◌, ◌∙◌, ◌≡◌, nat_tests, EventContent, is_same_content, Identity, at_node}
use Rattle.serf_judge.proofs.KeyLaws.{same-decides}

pub content-decides : (x y : EventContent) → Decides (is_same_content x y) (x ≡ y)
content-decides x y = (λ e. ap content ((same-decides (at_node x []) (at_node y [])).0 e), λ p. (same-decides (at_node x []) (at_node y [])).1 (ap (λ c. at_node c []) p))
  where
    content : Identity → EventContent
    content i = record { time = i.time; name = i.name; payload = i.payload }

min-below : (a b n : ℕ) → nat_lt (min a b) n ≡ (nat_lt a n || nat_lt b n)
min-below a b n = grind (arith, nat_tests)

max-above : (a b n : ℕ) → nat_lt n (max a b) ≡ (nat_lt n a || nat_lt n b)
max-above a b n = grind (arith, nat_tests)

shuffle : (p q r s : Bool) → ((p || q) || (r || s)) ≡ ((p || r) || (q || s))
shuffle true q r s = refl
shuffle false true true s = refl
shuffle false true false s = refl
shuffle false false true s = refl
shuffle false false false s = refl

pub counts-more : (first log line last : ℕ) (at : ℕ × ℕ)
    → (nat_lt (min first line) at.0 || nat_lt at.1 (max last log)) ≡ ((nat_lt first at.0 || nat_lt at.1 last) || (nat_lt line at.0 || nat_lt at.1 log))
counts-more first log line last at = (λ k. min-below first line at.0 k || max-above last log at.1 k) ∙ shuffle (nat_lt first at.0) (nat_lt line at.0) (nat_lt at.1 last) (nat_lt at.1 log)
