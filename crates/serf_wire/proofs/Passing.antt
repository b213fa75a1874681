-- Which filters let which nodes pass.
use Rattle.serf_wire.proofs.Names.{Bool, Err, List, None, Ok, Option, Result, Some, [], ap, arith, cond, eqb-true, false, refl, subst, suc, true, ℕ, ◌==◌, ◌||◌, ◌∷◌, ◌≡◌, list_any_at, Contains, list_any, bytes_eq, Packs, whole_at, Items, Tree, array, flag, int, nil, pairs, raw, item_list, kind_of, PackError, Array, Below, first, list_errors, text_errors, all, text, list_in, text_in, NamesNode, Passes, is_among, names_node, value_names_node, passes_of, WireError}
use Rattle.serf_wire.proofs.Stepping.{no_first}
use Rattle.serf_wire.proofs.Meanings.{list_exact, text_exact}
use Rattle.serf_wire.proofs.Sound.{same_text, text_is}

pub any_contains : (node : List ℕ) (names : List (List ℕ)) → list_any (λ name. bytes_eq name node) names ≡ true → Contains names node
any_contains node [] e = absurd cc
any_contains node (x ∷ xs) e = by node x xs (any_contains node xs) (bytes_eq x node) refl e
  where
    by : (node x : List ℕ) (xs : List (List ℕ)) → (list_any (λ name. bytes_eq name node) xs ≡ true → Contains xs node) → (b : Bool) → bytes_eq x node ≡ b → (b || list_any (λ name. bytes_eq name node) xs) ≡ true → Contains (x ∷ xs) node
    by node x xs rest true is e = (0, omega arith, same_text x node is)
    by node x xs rest false is e = let r = rest e in (suc r.0, omega (arith, r.1), r.2)

pub contains_any : (node : List ℕ) (names : List (List ℕ)) → Contains names node → list_any (λ name. bytes_eq name node) names ≡ true
contains_any node names c = list_any_at (λ name. bytes_eq name node) names c.0 node c.1 (rw c.2 (text_is node))

among_by : (bytes node : List ℕ) (vs : Items) → Packs (array 0 vs) 0 0 bytes → (o : Option (List (List ℕ))) → all text (item_list vs) ≡ o → is_among node o ≡ true → NamesNode bytes node
among_by bytes node vs packs None are e = absurd cc
among_by bytes node vs packs (Some names) are e = record { items = vs; packs = packs; names = names; are = are; among = any_contains node names e }

tree_named : (bytes node : List ℕ) (v : Tree) → Packs v 0 0 bytes → names_node node v ≡ true → NamesNode bytes node
tree_named bytes node (nil p) packs e = absurd cc
tree_named bytes node (flag p b) packs e = absurd cc
tree_named bytes node (int p z) packs e = absurd cc
tree_named bytes node (raw p s) packs e = absurd cc
tree_named bytes node (array p vs) packs e = among_by bytes node vs (subst (λ q. Packs (array q vs) 0 0 bytes) packs.0 packs) _ refl e
tree_named bytes node (pairs p ps) packs e = absurd cc

value_named : Below → (bytes node : List ℕ) (r : Result Tree PackError) → whole_at 8 bytes ≡ r → value_names_node node r ≡ true → NamesNode bytes node
value_named below bytes node (Ok v) is e = tree_named bytes node v ((below.reading.value bytes v).0 is) e
value_named below bytes node (Err f) is e = absurd cc

named_value : Below → (bytes node : List ℕ) → NamesNode bytes node → value_names_node node (whole_at 8 bytes) ≡ true
named_value below bytes node n = rw ((below.reading.value bytes (array 0 n.items)).1 n.packs, n.are) (contains_any node n.names n.among)

kind_by : Below → (kind : ℕ) (bytes node : List ℕ) (b : Bool) → (kind == 0) ≡ b → cond b (value_names_node node (whole_at 8 bytes)) false ≡ true → Passes (kind ∷ bytes) node
kind_by below kind bytes node true is e = (eqb-true _ _ is, value_named below bytes node (whole_at 8 bytes) refl e)
kind_by below kind bytes node false is e = absurd cc

pub passes_from : Below → (filter node : List ℕ) → passes_of filter node ≡ true → Passes filter node
unfolding passes_of
passes_from below [] node e = absurd cc
passes_from below (kind ∷ bytes) node e = kind_by below kind bytes node _ refl e

pub passes_is : Below → (filter node : List ℕ) → Passes filter node → passes_of filter node ≡ true
unfolding passes_of
passes_is below [] node p = absurd p
passes_is below (kind ∷ bytes) node p = rw p.0 (named_value below bytes node p.1)

-- ---- a list that is read without errors, or has one

pub names_read : (node : List ℕ) (v : Tree) → kind_of v ≡ Array → first (list_errors text_errors v) ≡ None → names_node node v ≡ list_any (λ t. bytes_eq t node) (list_in text_in v)
names_read node (nil p) is none = absurd cc
names_read node (flag p b) is none = absurd cc
names_read node (int p z) is none = absurd cc
names_read node (raw p s) is none = absurd cc
names_read node (array p vs) is none = rw ((list_exact _ _ _ text_exact).there (array p vs) (no_first _ none)) refl
names_read node (pairs p ps) is none = absurd cc

malformed_by : (node : List ℕ) (p : ℕ) (vs : Items) (f : WireError) → first (list_errors text_errors (array p vs)) ≡ Some f → (o : Option (List (List ℕ))) → all text (item_list vs) ≡ o → is_among node o ≡ false
malformed_by node p vs f malformed None is = refl
malformed_by node p vs f malformed (Some names) is = let none : first (list_errors text_errors (array p vs)) ≡ first [] = ap (λ fs. first fs) ((list_exact _ _ _ text_exact).sound (array p vs) names is) in absurd cc

pub names_malformed : (node : List ℕ) (v : Tree) (f : WireError) → first (list_errors text_errors v) ≡ Some f → names_node node v ≡ false
names_malformed node (nil p) f malformed = refl
names_malformed node (flag p b) f malformed = refl
names_malformed node (int p z) f malformed = refl
names_malformed node (raw p s) f malformed = refl
names_malformed node (array p vs) f malformed = malformed_by node p vs f malformed _ refl
names_malformed node (pairs p ps) f malformed = refl
