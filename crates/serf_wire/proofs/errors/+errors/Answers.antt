use Rattle.serf_wire.proofs.Names.{[], ap, false, is_some, refl, sym, true, ◌∙◌, ◌≡◌, pairs_of, tree_of, pairs_left, value_errors, found_at}
use Rattle.serf_wire.proofs.Finding.{some_map, not_some, in_any_case, place_within, twice_first, once_first, finds_other, finds_write}
use Rattle.serf_wire.proofs.errors.+errors.Goals as goal

pub find_fields-pairs-init : goal.find_fields-pairs-init
find_fields-pairs-init t c =
    let all : pairs_left c.into_iter-key-iterator.result ≡ pairs_of (tree_of c.args.map.now) = ap pairs_left c.into_iter-key-iterator.ensures.into_iter_gives ∙ c.pairs-key-items.ensures.left in
    record { earlier = []; seen = sym all; finds = c.new-found.ensures c.args.layout; sound = rw all refl }

pub find_pair-returns-in_default-field_of-clause-found : goal.find_pair-returns-in_default-field_of-clause-found
find_pair-returns-in_default-field_of-clause-found t c = λ earlier finds.
    finds_other c.args.layout c.args.found.now earlier finds (tree_of c.args.key.now, tree_of c.args.value.now) c.in-Some.name.now (sym c.in-Some.ensures) (sym c.field_of.ensures ∙ c.in_default-field_of.is)

pub find_pair-at-requires : goal.find_pair-at-requires
find_pair-at-requires t c = place_within c.args.layout c.in-Some.name.now c.in-Some-field_of.field (sym c.in-Some-field_of.ensures)

pub find_pair-returns-then-is_some-clause-error : goal.find_pair-returns-then-is_some-clause-error
find_pair-returns-then-is_some-clause-error t c = λ earlier finds.
    let found : is_some (found_at c.args.found.now c.in-Some-field_of.field.place) ≡ true = ap is_some (sym c.at.ensures) ∙ some_map c.at.result ∙ sym c.is_some.ensures ∙ c.if-is_some.true in
    rw c.offset-then-is_some.ensures.place
    (sym (twice_first c.args.layout c.args.found.now earlier finds (value_errors c.args.depth_left) (tree_of c.args.key.now, tree_of c.args.value.now) c.in-Some.name.now c.in-Some-field_of.field (sym c.in-Some.ensures) (sym c.in-Some-field_of.ensures) found))

pub find_pair-returns-clause-error : goal.find_pair-returns-clause-error
find_pair-returns-clause-error t c = λ earlier finds.
    let new : is_some (found_at c.args.found.now c.in-Some-field_of.field.place) ≡ false = ap is_some (sym c.at.ensures) ∙ some_map c.at.result ∙ sym c.is_some.ensures ∙ c.if-is_some.false in
    c.value_error.ensures
    ∙ sym (once_first c.args.layout c.args.found.now earlier finds (value_errors c.args.depth_left) (tree_of c.args.key.now, tree_of c.args.value.now) c.in-Some.name.now c.in-Some-field_of.field (sym c.in-Some.ensures) (sym c.in-Some-field_of.ensures) new)

pub find_pair-returns-clause-found : goal.find_pair-returns-clause-found
find_pair-returns-clause-found t c = λ earlier finds.
    let new : is_some (found_at c.args.found.now c.in-Some-field_of.field.place) ≡ false = ap is_some (sym c.at.ensures) ∙ some_map c.at.result ∙ sym c.is_some.ensures ∙ c.if-is_some.false in
    in_any_case c.value_error.result
    (finds_write c.args.layout c.args.found.now earlier finds c.put.new.self (tree_of c.args.key.now, tree_of c.args.value.now) c.in-Some.name.now c.in-Some-field_of.field (sym c.in-Some.ensures) (sym c.in-Some-field_of.ensures) (not_some _ new) c.put.ensures)
