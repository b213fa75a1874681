-- Maps that are checked as a whole: the check of bytes is exact, with any layout.
use Rattle.serf_wire.proofs.Names.{Err, List, MatchResult, None, Ok, Option, Result, Some, [], ap, refl, subst, sym, ℕ, ◌∙◌, ◌≡◌, Packs, whole_at, Pairs, Tree, array, flag, int, nil, pairs, raw, kind_of, pair_list, PackError, Map, Below, FindsChecked, checked_pairs, made_of, sound_pairs, first, layout_errors, Finds, unless_error, IsFirstMapError, in_map, no_map, no_value, WireError, FoundFields, Layout}
use Rattle.serf_wire.specs.declared.error.WireError.TheVariants as errors
use Rattle.serf_wire.proofs.Stepping.{no_first}

-- the bytes are a map of these pairs, which have no error
pub record IsSoundMap (layout : Layout) (bytes : List ℕ) (ps : List (Tree × Tree)) : Type 0 where
  pub map : Pairs
  pub packs : Packs (pairs 0 map) 0 0 bytes
  pub are : pair_list map ≡ ps
  pub sound : layout_errors layout ps ≡ []

abbrev pub IsChecked : Layout → List ℕ → Result (List (Tree × Tree)) WireError → Type 0
IsChecked layout bytes r = MatchResult r (λ ps. IsSoundMap layout bytes ps) (λ f. IsFirstMapError layout bytes f)

pairs_checked : (layout : Layout) (bytes : List ℕ) (ps : Pairs) → Packs (pairs 0 ps) 0 0 bytes → (o : Option WireError) → first (layout_errors layout (pair_list ps)) ≡ o → IsChecked layout bytes (unless_error o (pair_list ps))
pairs_checked layout bytes ps packs None e = record { map = ps; packs = packs; are = refl; sound = no_first _ e }
pairs_checked layout bytes ps packs (Some f) e = in_map layout bytes f ps packs e

tree_checked : (layout : Layout) (bytes : List ℕ) (v : Tree) → Packs v 0 0 bytes → IsChecked layout bytes (sound_pairs layout v)
tree_checked layout bytes (nil p) packs = no_map layout bytes errors.NotAMap (nil p) packs (λ e. cc) refl
tree_checked layout bytes (flag p b) packs = no_map layout bytes errors.NotAMap (flag p b) packs (λ e. cc) refl
tree_checked layout bytes (int p z) packs = no_map layout bytes errors.NotAMap (int p z) packs (λ e. cc) refl
tree_checked layout bytes (raw p s) packs = no_map layout bytes errors.NotAMap (raw p s) packs (λ e. cc) refl
tree_checked layout bytes (array p vs) packs = no_map layout bytes errors.NotAMap (array p vs) packs (λ e. cc) refl
tree_checked layout bytes (pairs p ps) packs = pairs_checked layout bytes ps (subst (λ q. Packs (pairs q ps) 0 0 bytes) packs.0 packs) _ refl

-- the result of checking bytes is the pairs of the map that they spell, or their first error
pub value_checked : Below → (layout : Layout) (bytes : List ℕ) (r : Result Tree PackError) → whole_at 8 bytes ≡ r → IsChecked layout bytes (checked_pairs layout r)
value_checked below layout bytes (Ok v) e = tree_checked layout bytes v ((below.reading.value bytes v).0 e)
value_checked below layout bytes (Err f) e = no_value layout bytes _ f ((below.reading.error bytes f).0 e) refl

-- ---- the other direction

pub sound_checked : Below → (layout : Layout) (bytes : List ℕ) (ps : Pairs) → Packs (pairs 0 ps) 0 0 bytes → layout_errors layout (pair_list ps) ≡ [] → checked_pairs layout (whole_at 8 bytes) ≡ Ok (pair_list ps)
sound_checked below layout bytes ps packs none = ap (checked_pairs layout) ((below.reading.value bytes (pairs 0 ps)).1 packs) ∙ rw none refl

no_map_checked : (layout : Layout) (v : Tree) → (kind_of v ≡ Map → ⊥) → sound_pairs layout v ≡ Err errors.NotAMap
no_map_checked layout (nil p) not = refl
no_map_checked layout (flag p b) not = refl
no_map_checked layout (int p z) not = refl
no_map_checked layout (raw p s) not = refl
no_map_checked layout (array p vs) not = refl
no_map_checked layout (pairs p ps) not = absurd (not refl)

pub malformed_checked : Below → (layout : Layout) (bytes : List ℕ) (f : WireError) → IsFirstMapError layout bytes f → checked_pairs layout (whole_at 8 bytes) ≡ Err f
malformed_checked below layout bytes f (no_value _ _ _ g malformed e) = ap (checked_pairs layout) ((below.reading.error bytes g).1 malformed) ∙ ap (λ h. Err h) (sym e)
malformed_checked below layout bytes f (no_map _ _ _ w spelled not e) = ap (checked_pairs layout) ((below.reading.value bytes w).1 spelled) ∙ no_map_checked layout w not ∙ ap (λ g. Err g) (sym e)
malformed_checked below layout bytes f (in_map _ _ _ ps spelled e) = ap (checked_pairs layout) ((below.reading.value bytes (pairs 0 ps)).1 spelled) ∙ rw e refl

-- ---- what is made from the fields that were found

pub made_found : {A : Type 0} (layout : Layout) (make : List (Tree × Tree) → A) (found : FoundFields) (r : Result (List (Tree × Tree)) WireError) (x : A) → FindsChecked layout (Ok found) r → ((ps : List (Tree × Tree)) → Finds layout found ps → x ≡ make ps) → made_of make r ≡ Ok x
made_found layout make found (Ok ps) x finds is = ap (λ y. Ok y) (sym (is ps finds))
made_found layout make found (Err f) x finds is = absurd finds
