-- A step over an item in a compact spelling.
use Rattle.serf_wire.proofs.Names.{List, Option, Some, ap, length, map, take, ℕ, ◌-◌, ◌<◌, ◌∙◌, ◌∷◌, ◌≡◌, Tree, PacksAlone, ReadsIn, Spans, WireError}
use Rattle.serf_wire.proofs.Meanings.{IsExact}
use Rattle.serf_wire.proofs.FastLists.{packed_alone}

abbrev spans_of : {A : Type 0} (limit : ℕ) (meaning : Tree → Option A) (x : A) (bytes rest : List ℕ) → ReadsIn limit meaning x bytes rest → Spans limit meaning bytes rest
spans_of limit meaning x bytes rest r = record { value = x; reads = r }

-- what was read is the first of the values
pub compact_step : {A : Type 0} (limit : ℕ) (meaning : Tree → Option A) (value : Tree → A) (errors : Tree → List WireError) (x : A) (bytes rest : List ℕ) (old new : List Tree) → IsExact meaning value errors → 0 < limit → ReadsIn limit meaning x bytes rest
    → ((tree : ℕ → Tree) → PacksAlone tree (take (length bytes - length rest) bytes) → (p : ℕ) × (old ≡ tree p ∷ new)) → map value old ≡ x ∷ map value new
compact_step limit meaning value errors x bytes rest old new exact room r steps =
    let b = steps r.tree (packed_alone limit meaning bytes rest (spans_of limit meaning x bytes rest r) room) in
    let v : Tree = r.tree b.0 in
    let there : meaning v ≡ Some (value v) = exact.there v (exact.sound v x (r.means b.0)) in
    let means : meaning v ≡ Some x = r.means b.0 in
    let same : value v ≡ x = cc in
    ap (map value) b.1 ∙ ap (λ y. y ∷ map value new) same
