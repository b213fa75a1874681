use Rattle.serf_wire.proofs.Names.{arith, length, subst, sym, take, ℕ, ◌-◌, ◌∷◌, ◌≡◌, Tree, PacksAlone, items_left, slot, slot_of_view, slot_in}
use Rattle.serf_wire.proofs.MessageFields.{slot_exact}
use Rattle.serf_wire.proofs.CompactSteps.{compact_step}
use Rattle.serf_wire.proofs.steps.compact_slot.Goals as goal

pub returns-in-Some-following : goal.returns-in-Some-following
returns-in-Some-following c =
    let bytes = c.bytes-bytes.result.now in
    let rest = c.in-Some.rest.now in
    let old = items_left c.args.items.now in
    let new = items_left c.in-Some-following.following in
    compact_step 6 slot slot_in _ (slot_of_view c.in-Some.slot) bytes rest old new slot_exact (omega arith) c.in-Some.ensures
    (subst (λ b. (tree : ℕ → Tree) → PacksAlone tree (take (length bytes - length rest) b) → (p : ℕ) × (old ≡ tree p ∷ new)) (sym c.bytes-bytes.ensures) c.in-Some-following.ensures.some)
