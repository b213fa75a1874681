use Rattle.serf_pack.proofs.Names.{Err, List, Ok, Result, ap, arith, drop, inl, inr, length, length-drop, refl, sym, take, take-append-drop, ℕ, ◌++◌, ◌-◌, ◌∙◌, ◌∷◌, ◌≡◌, ◌≤◌, cases_lt, items_or_none, place, rest_of, value_or_nil, items_at, value_at, Tree, item_list, PacksAlone, items_bytes, items_left, PackError}
use Rattle.serf_pack.proofs.Roomier.{value_also}
use Rattle.serf_pack.proofs.SpelledIsRead.{value_read}
use Rattle.serf_pack.proofs.Viewing.{IsGood}
use Rattle.serf_pack.proofs.Walking.{item_is_good, item_step, no_item}
use Rattle.serf_pack.proofs.walk.Items.following.Goals as goal

-- the item at the front is read if containers may be nested eight deep
alone_read : (tree : ℕ → Tree) (total len : ℕ) (bytes : List ℕ) → length bytes ≤ total → PacksAlone tree (take len bytes)
    → value_at 8 total bytes ≡ Ok (tree (place total bytes), drop len bytes)
alone_read tree total len bytes within packs =
    let whole : take len bytes ++ drop len bytes ≡ bytes = take-append-drop len bytes in
    let long : length (take len bytes ++ drop len bytes) ≤ total = rw whole within in
    let read = value_read (tree (place total (take len bytes ++ drop len bytes))) 0 8 total (take len bytes) (drop len bytes) refl long (packs (place total (take len bytes ++ drop len bytes))) in
    rw whole at read

-- what is read with a lower limit on nesting
was_read : (depth_left total : ℕ) (bytes : List ℕ) (r : Result (Tree × List ℕ) PackError) → r ≡ value_at depth_left total bytes → IsGood r → (x : Tree × List ℕ) × (value_at depth_left total bytes ≡ Ok x)
was_read depth_left total bytes (Ok x) e good = (x, sym e)
was_read depth_left total bytes (Err f) e good = absurd cc

-- the item at the front is read with every limit on nesting
front_read : (depth_left total : ℕ) (bytes : List ℕ) (x : Tree × List ℕ) → value_at 8 total bytes ≡ Ok x → IsGood (value_at depth_left total bytes) → value_at depth_left total bytes ≡ Ok x
front_read depth_left total bytes x e good =
    elim (cases_lt depth_left 8) [
      | inl lt ↦
          let less = was_read depth_left total bytes (value_at depth_left total bytes) refl good in
          let same = value_also depth_left 8 total (omega (arith, lt)) bytes less.0 less.1 in
          less.1 ∙ sym same ∙ e
      | inr ge ↦ value_also 8 depth_left total ge bytes x e
    ]

pub invariant_of-result : goal.invariant_of-result
unfolding items_bytes
invariant_of-result c =
    let old = c.args.self.now in
    let value = value_at old.depth_left old.total in
    let alone = alone_read c.requires.packed.0 old.total c.args.len old.rest.now old.within c.requires.packed.1 in
    let read = front_read old.depth_left old.total old.rest.now _ alone (item_is_good value old.left old.rest.now c.if-self-eq0.false old.checked) in
    let step = item_step value old.left old.rest.now (drop c.args.len old.rest.now) c.if-self-eq0.false (ap rest_of read) old.checked in
    record {
      within = rw c.after-rest.ensures (omega (arith, length-drop c.args.len old.rest.now, old.within));
      small = old.small;
      checked = rw c.after-rest.ensures step.0;
    }

pub returns-clause-some : goal.returns-clause-some
unfolding items_left items_bytes
returns-clause-some c tree packs =
    let old = c.args.self.now in
    let value = value_at old.depth_left old.total in
    let alone = alone_read tree old.total c.args.len old.rest.now old.within packs in
    let read = front_read old.depth_left old.total old.rest.now _ alone (item_is_good value old.left old.rest.now c.if-self-eq0.false old.checked) in
    let step = item_step value old.left old.rest.now (drop c.args.len old.rest.now) c.if-self-eq0.false (ap rest_of read) old.checked in
    (place old.total old.rest.now, rw c.after-rest.ensures (step.1 ∙ ap (λ r. value_or_nil r ∷ item_list (items_or_none (items_at value (old.left - 1) (drop c.args.len old.rest.now)))) read))

pub returns-then-self-eq0-clause-none : goal.returns-then-self-eq0-clause-none
unfolding items_left
returns-then-self-eq0-clause-none c =
    let old = c.args.self.now in
    no_item (value_at old.depth_left old.total) old.left old.rest.now c.if-self-eq0.true
