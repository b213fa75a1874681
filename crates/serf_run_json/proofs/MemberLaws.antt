-- The texts of members one after another.
use Rattle.serf_run_json.proofs.Names.{List, ap, append_assoc, append-nil, sym, ℕ, ◌++◌, ◌∙◌, ◌∷◌, ◌≡◌, Err, Member, Ok, OnOk, Result, flat_map-append, member_text, members_text, object_text, pair_text}

-- an object was written, and its members are these
pub written : {R E : Type 0} (r : Result R E) (new old kind a b : List ℕ) → OnOk r (new ≡ old ++ object_text kind a) → a ≡ b → OnOk r (new ≡ old ++ object_text kind b)
written (Ok x) new old kind a b is same = is ∙ ap (λ t. old ++ object_text kind t) same
written (Err e) new old kind a b is same = tt

-- the members of two lists
pub members-append : (xs ys : List Member) → members_text (xs ++ ys) ≡ members_text xs ++ members_text ys
unfolding members_text
members-append xs ys = flat_map-append member_text xs ys

-- the members of an agent after one other member
pub agent-in : (first number name : Member) (rest : List Member) (agent : List ℕ) → pair_text (number, name) ≡ agent → members_text (first ∷ number ∷ name ∷ rest) ≡ member_text first ++ (agent ++ members_text rest)
unfolding members_text
agent-in first number name rest agent is =
    ap (λ t. member_text first ++ t)
    (sym (append_assoc (member_text number) (member_text name) (members_text rest))
    ∙ ap (λ t. t ++ members_text rest) (ap (λ t. member_text number ++ t) (sym (append-nil (member_text name))) ∙ is))
