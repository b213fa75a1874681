-- What is found of a map's fields, one pair after another.
use Rattle.serf_wire.proofs.Names.{Bool, IfNone, List, None, Option, Some, [], ap, arith, cond, false, get_or, is_some, length, refl, set, sym, true, ℕ, ◌++◌, ◌+◌, ◌<◌, ◌||◌, ◌∙◌, ◌∷◌, ◌≡◌, ◌≢◌, ◌≤◌, get_or-set_other, get_or-set_same, length-map, length-set, option_map, bytes_eq, Tree, raw_of, tree_of, View, at, first, key_errors, has_key, is_key, values_of, Finds, found_at, trees_found, field_at, field_in, fields_of, kind_in, tree_or_nil, value_of_key, WireError, Twice, FoundFields, Kind, Layout}
use Rattle.serf_wire.specs.declared.layout.Layout.TheVariants as layouts
use Rattle.serf_wire.specs.declared.layout.Field.{Field}
use Rattle.serf_wire.proofs.Sound.{same_text, text_is}

-- ---- fields and their places

pub field_kind : (place : ℕ) (name : List ℕ) (fs : List (List ℕ × Kind)) → kind_in name fs ≡ option_map (λ (f : Field). f.kind) (field_in place name fs)
field_kind place name [] = refl
field_kind place name (e ∷ es) =
    let rest = field_kind (place + 1) name es in
    elim (bytes_eq name e.0) as (λ b. cond b (Some e.1) (kind_in name es) ≡ option_map (λ (f : Field). f.kind) (cond b (Some (field_at place e.1)) (field_in (place + 1) name es))) [ true ↦ refl | false ↦ rest ]

its_place : (place : ℕ) (kind : Kind) (f : Field) → Some (field_at place kind) ≡ Some f → f.place ≡ place
its_place place kind f e = let same : field_at place kind ≡ f = cc in ap (λ (g : Field). g.place) (sym same)

place_from : (place : ℕ) (name : List ℕ) (fs : List (List ℕ × Kind)) (f : Field) → field_in place name fs ≡ Some f → place ≤ f.place
place_from place name [] f e = absurd cc
place_from place name (x ∷ xs) f e = by (place_from (place + 1) name xs f) (bytes_eq name x.0) e
  where
    by : (field_in (place + 1) name xs ≡ Some f → place + 1 ≤ f.place) → (b : Bool) → cond b (Some (field_at place x.1)) (field_in (place + 1) name xs) ≡ Some f → place ≤ f.place
    by rest true own = omega (arith, its_place place x.1 f own)
    by rest false following = omega (arith, rest following)

place_below : (place : ℕ) (name : List ℕ) (fs : List (List ℕ × Kind)) (f : Field) → field_in place name fs ≡ Some f → f.place < place + length fs
place_below place name [] f e = absurd cc
place_below place name (x ∷ xs) f e = by (place_below (place + 1) name xs f) (bytes_eq name x.0) e
  where
    by : (field_in (place + 1) name xs ≡ Some f → f.place < place + 1 + length xs) → (b : Bool) → cond b (Some (field_at place x.1)) (field_in (place + 1) name xs) ≡ Some f → f.place < place + length (x ∷ xs)
    by rest true own = omega (arith, its_place place x.1 f own)
    by rest false following = omega (arith, rest following)

few_fields : (layout : Layout) → length (fields_of layout) ≤ 11
few_fields layouts.UserEvent = omega arith
few_fields layouts.Query = omega arith
few_fields layouts.QueryResponse = omega arith
few_fields layouts.PushPull = omega arith
few_fields layouts.Slot = omega arith
few_fields layouts.Event = omega arith
few_fields layouts.Join = omega arith
few_fields layouts.Leave = omega arith

pub place_within : (layout : Layout) (name : List ℕ) (f : Field) → field_in 0 name (fields_of layout) ≡ Some f → f.place < 11
place_within layout name f e = omega (arith, place_below 0 name (fields_of layout) f e, few_fields layout)

-- different names have different places
one_name : (place : ℕ) (m n : List ℕ) (fs : List (List ℕ × Kind)) (f g : Field) → field_in place m fs ≡ Some f → field_in place n fs ≡ Some g → f.place ≡ g.place → m ≡ n
one_name place m n [] f g e h same = absurd cc
one_name place m n (x ∷ xs) f g e h same = by (λ one other. one_name (place + 1) m n xs f g one other same) (bytes_eq m x.0) refl (bytes_eq n x.0) refl e h
  where
    by : (field_in (place + 1) m xs ≡ Some f → field_in (place + 1) n xs ≡ Some g → m ≡ n) → (b : Bool) → bytes_eq m x.0 ≡ b → (d : Bool) → bytes_eq n x.0 ≡ d → cond b (Some (field_at place x.1)) (field_in (place + 1) m xs) ≡ Some f → cond d (Some (field_at place x.1)) (field_in (place + 1) n xs) ≡ Some g → m ≡ n
    by rest true is true too one other = same_text m x.0 is ∙ sym (same_text n x.0 too)
    by rest true is false not one other = absurd (omega (arith, its_place place x.1 f one, place_from (place + 1) n xs g other, same))
    by rest false not true is one other = absurd (omega (arith, its_place place x.1 g other, place_from (place + 1) m xs f one, same))
    by rest false not false neither one other = rest one other

-- ---- the first value of a name

other_first : (name : List ℕ) (ps : List (Tree × Tree)) (p : Tree × Tree) → is_key name p.0 ≡ false → first (values_of name (ps ++ p ∷ [])) ≡ first (values_of name ps)
other_first name [] p other = rw other refl
other_first name (q ∷ qs) p other =
    let rest = other_first name qs p other in
    elim (is_key name q.0) as (λ b. first (cond b (q.1 ∷ values_of name (qs ++ p ∷ [])) (values_of name (qs ++ p ∷ []))) ≡ first (cond b (q.1 ∷ values_of name qs) (values_of name qs))) [ true ↦ refl | false ↦ rest ]

own_first : (name : List ℕ) (ps : List (Tree × Tree)) (p : Tree × Tree) → is_key name p.0 ≡ true → first (values_of name ps) ≡ None → first (values_of name (ps ++ p ∷ [])) ≡ Some p.1
own_first name [] p own none = rw own refl
own_first name (q ∷ qs) p own none = by (own_first name qs p own) (is_key name q.0) none
  where
    by : (first (values_of name qs) ≡ None → first (values_of name (qs ++ p ∷ [])) ≡ Some p.1) → (b : Bool) → first (cond b (q.1 ∷ values_of name qs) (values_of name qs)) ≡ None → first (cond b (q.1 ∷ values_of name (qs ++ p ∷ [])) (values_of name (qs ++ p ∷ []))) ≡ Some p.1
    by rest true some = absurd cc
    by rest false before = rest before

has_first : (name : List ℕ) (ps : List (Tree × Tree)) → has_key name ps ≡ is_some (first (values_of name ps))
has_first name [] = refl
has_first name (q ∷ qs) =
    let rest = has_first name qs in
    elim (is_key name q.0) as (λ b. (b || has_key name qs) ≡ is_some (first (cond b (q.1 ∷ values_of name qs) (values_of name qs)))) [ true ↦ refl | false ↦ rest ]

value_first : (name : List ℕ) (ps : List (Tree × Tree)) → tree_or_nil (first (values_of name ps)) ≡ value_of_key name ps
value_first name [] = refl
value_first name (q ∷ qs) =
    let rest = value_first name qs in
    elim (is_key name q.0) as (λ b. tree_or_nil (first (cond b (q.1 ∷ values_of name qs) (values_of name qs))) ≡ cond b q.1 (value_of_key name qs)) [ true ↦ refl | false ↦ rest ]

key_by : (name s : List ℕ) (p : Tree × Tree) (b : Bool) → raw_of p.0 ≡ Some s → bytes_eq s name ≡ b → is_key name p.0 ≡ b
key_by name s p b raw e = rw raw e

-- ---- options

pub some_map : (o : Option View) → is_some (option_map tree_of o) ≡ is_some o
some_map None = refl
some_map (Some v) = refl

pub not_some : {A : Type 0} (o : Option A) → is_some o ≡ false → o ≡ None
not_some None e = refl
not_some (Some x) e = absurd cc

pub in_any_case : {A P : Type 0} (o : Option A) → P → IfNone o P
in_any_case None p = p
in_any_case (Some x) p = tt

-- ---- what was found

module _ (layout : Layout) (found : FoundFields) (ps : List (Tree × Tree)) (finds : Finds layout found ps) where
  -- a value was found if and only if the key was there
  pub found_has : (name : List ℕ) (f : Field) → field_in 0 name (fields_of layout) ≡ Some f → is_some (found_at found f.place) ≡ has_key name ps
  found_has name f e = ap is_some (finds.values name f e) ∙ sym (has_first name ps)

  pub shown : (name : List ℕ) (place : ℕ) (kind : Kind) (o : Option Tree) → field_in 0 name (fields_of layout) ≡ Some (field_at place kind) → o ≡ found_at found place → tree_or_nil o ≡ value_of_key name ps
  shown name place kind o e is = ap tree_or_nil (is ∙ finds.values name (field_at place kind) e) ∙ value_first name ps

  -- ---- the errors of one more pair

  module _ (vf : Kind → Tree → List WireError) (p : Tree × Tree) (s : List ℕ) (f : Field) (raw : raw_of p.0 ≡ Some s) (known : field_in 0 s (fields_of layout) ≡ Some f) where
    by_found : (b : Bool) → is_some (found_at found f.place) ≡ b → key_errors vf layout ps p (raw_of p.0) ≡ cond b (Twice (at p.0) ∷ []) [] ++ vf f.kind p.1
    by_found b is =
        let has : has_key s ps ≡ b = sym (found_has s f known) ∙ is in
        rw (raw, field_kind 0 s (fields_of layout), known, has) refl

    pub twice_first : is_some (found_at found f.place) ≡ true → first (key_errors vf layout ps p (raw_of p.0)) ≡ Some (Twice (at p.0))
    twice_first is = ap first (by_found true is)

    pub once_first : is_some (found_at found f.place) ≡ false → first (key_errors vf layout ps p (raw_of p.0)) ≡ first (vf f.kind p.1)
    once_first not = ap first (by_found false not)

  -- a pair whose key belongs to no field
  pub finds_other : (p : Tree × Tree) (s : List ℕ) → raw_of p.0 ≡ Some s → field_in 0 s (fields_of layout) ≡ None → Finds layout found (ps ++ p ∷ [])
  finds_other p s raw unknown = record {
    size = finds.size;
    values = λ name f e. by name f e (bytes_eq s name) refl;
  }
    where
      by : (name : List ℕ) (f : Field) → field_in 0 name (fields_of layout) ≡ Some f → (b : Bool) → bytes_eq s name ≡ b → found_at found f.place ≡ first (values_of name (ps ++ p ∷ []))
      by name f e true is = let same = ap (λ n. field_in 0 n (fields_of layout)) (same_text s name is) in absurd cc
      by name f e false not = finds.values name f e ∙ sym (other_first name ps p (key_by name s p false raw not))

  -- a pair of a field, whose value is stored at the field's place
  pub finds_write : (new : FoundFields) (p : Tree × Tree) (s : List ℕ) (f : Field) → raw_of p.0 ≡ Some s → field_in 0 s (fields_of layout) ≡ Some f → found_at found f.place ≡ None
      → trees_found new ≡ set (trees_found found) f.place (Some p.1) → Finds layout new (ps ++ p ∷ [])
  finds_write new p s f raw known none put = record {
    size = sym (length-map new.values (option_map tree_of)) ∙ ap length put ∙ length-set (trees_found found) f.place (Some p.1) ∙ length-map found.values (option_map tree_of) ∙ finds.size;
    values = λ name g e. by name g e (bytes_eq s name) refl;
  }
    where
      within : f.place < length (trees_found found)
      within = let size = length-map found.values (option_map tree_of) in omega (arith, place_within layout s f known, finds.size, size)

      by : (name : List ℕ) (g : Field) → field_in 0 name (fields_of layout) ≡ Some g → (b : Bool) → bytes_eq s name ≡ b → found_at new g.place ≡ first (values_of name (ps ++ p ∷ []))
      by name g e true is =
          let same : s ≡ name = same_text s name is in
          let fields : Some f ≡ Some g = sym known ∙ ap (λ n. field_in 0 n (fields_of layout)) same ∙ e in
          let field : f ≡ g = cc in
          let before : first (values_of name ps) ≡ None = sym (finds.values name g e) ∙ ap (λ (h : Field). found_at found h.place) (sym field) ∙ none in
          ap (λ (h : Field). found_at new h.place) (sym field) ∙ ap (λ l. get_or l f.place None) put ∙ get_or-set_same (trees_found found) f.place (Some p.1) None within ∙ sym (own_first name ps p (key_by name s p true raw is) before)
      by name g e false not =
          let apart : g.place ≢ f.place = λ e2. (let same : name ≡ s = one_name 0 name s (fields_of layout) g f e known e2 in let own = text_is s in let other : bytes_eq s s ≡ false = ap (bytes_eq s) (sym same) ∙ not in absurd cc) in
          ap (λ l. get_or l g.place None) put ∙ get_or-set_other (trees_found found) f.place g.place (Some p.1) None apart ∙ finds.values name g e ∙ sym (other_first name ps p (key_by name s p false raw not))
