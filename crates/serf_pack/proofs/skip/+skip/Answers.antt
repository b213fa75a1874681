use Rattle.serf_pack.proofs.Names.{arith, sym, ◌∙◌, common_steps, err_from_is_err_and}
use Rattle.serf_pack.proofs.Skipping.{by_error, by_nil, by_flag, by_int, by_raw, by_raw_short, by_array, by_map, array_too_deep, map_too_deep, item_left, items_end, item_error, pair_left, pairs_end, key_error, pair_error}
use Rattle.serf_pack.proofs.skip.+skip.Goals as goal

pub skip_any-returns-in_err-head-clause-rest : goal.skip_any-returns-in_err-head-clause-rest
skip_any-returns-in_err-head-clause-rest t c =
    let p = err_from_is_err_and c.from_residual.result c.from_residual.ensures.1 in
    rw (p.1, p.2) (by_error c.args.depth_left c.args.total c.args.bytes.now _ c.in_err-head.ensures.head)

pub skip_any-returns-then-rest-n-clause-rest : goal.skip_any-returns-then-rest-n-clause-rest
skip_any-returns-then-rest-n-clause-rest t c = by_raw_short c.args.depth_left c.args.total c.args.bytes.now c.in-Raw.n c.in_ok-head.rest.now (rw c.in-Raw.is at c.in_ok-head.ensures.head) c.if-rest-n.true

pub skip_any-returns-then-depth_left-eq0-clause-rest : goal.skip_any-returns-then-depth_left-eq0-clause-rest
skip_any-returns-then-depth_left-eq0-clause-rest t c = array_too_deep c.args.depth_left c.args.total c.args.bytes.now c.in-Array.n c.in_ok-head.rest.now c.if-depth_left-eq0.true (rw c.in-Array.is at c.in_ok-head.ensures.head)

pub skip_any-returns-then-depth_left-eq0-2-clause-rest : goal.skip_any-returns-then-depth_left-eq0-2-clause-rest
skip_any-returns-then-depth_left-eq0-2-clause-rest t c = map_too_deep c.args.depth_left c.args.total c.args.bytes.now c.in-Map.n c.in_ok-head.rest.now c.if-depth_left-eq0-2.true (rw c.in-Map.is at c.in_ok-head.ensures.head)

pub skip_any-returns-in-Nil-clause-rest : goal.skip_any-returns-in-Nil-clause-rest
skip_any-returns-in-Nil-clause-rest t c = by_nil c.args.depth_left c.args.total c.args.bytes.now c.in_ok-head.rest.now (rw c.in-Nil.is at c.in_ok-head.ensures.head)

pub skip_any-returns-in-Flag-clause-rest : goal.skip_any-returns-in-Flag-clause-rest
skip_any-returns-in-Flag-clause-rest t c = by_flag c.args.depth_left c.args.total c.args.bytes.now c.in-Flag.field-0 c.in_ok-head.rest.now (rw c.in-Flag.is at c.in_ok-head.ensures.head)

pub skip_any-returns-in-Int-clause-rest : goal.skip_any-returns-in-Int-clause-rest
skip_any-returns-in-Int-clause-rest t c = by_int c.args.depth_left c.args.total c.args.bytes.now c.in-Int.field-0 c.in_ok-head.rest.now (rw c.in-Int.is at c.in_ok-head.ensures.head)

pub skip_any-returns-else-rest-n-clause-rest : goal.skip_any-returns-else-rest-n-clause-rest
skip_any-returns-else-rest-n-clause-rest t c =
    let e = by_raw c.args.depth_left c.args.total c.args.bytes.now c.in-Raw.n c.in_ok-head.rest.now (rw c.in-Raw.is at c.in_ok-head.ensures.head) c.if-rest-n.false in
    grind (arith, common_steps, e)

pub skip_any-returns-else-depth_left-eq0-clause-rest : goal.skip_any-returns-else-depth_left-eq0-clause-rest
skip_any-returns-else-depth_left-eq0-clause-rest t c =
    rw (by_array c.args.depth_left c.args.total c.args.bytes.now c.in-Array.n c.in_ok-head.rest.now (omega arith) (rw c.in-Array.is at c.in_ok-head.ensures.head)) c.skip_items.ensures.rest

pub skip_any-returns-else-depth_left-eq0-2-clause-rest : goal.skip_any-returns-else-depth_left-eq0-2-clause-rest
skip_any-returns-else-depth_left-eq0-2-clause-rest t c =
    rw (by_map c.args.depth_left c.args.total c.args.bytes.now c.in-Map.n c.in_ok-head.rest.now (omega arith) (rw c.in-Map.is at c.in_ok-head.ensures.head)) c.skip_pairs.ensures.rest

pub skip_items-returns-in_err-rest-clause-rest : goal.skip_items-returns-in_err-rest-clause-rest
skip_items-returns-in_err-rest-clause-rest t c =
    let p = err_from_is_err_and c.from_residual.result c.from_residual.ensures.1 in
    rw (p.1, p.2) (sym c.items.invariant.read ∙ item_error c.args.depth_left c.args.total c.args.count c.items.counter c.items.rest.now _ c.items-test.true c.in_err-rest.ensures.rest)

pub skip_items-items-preserved : goal.skip_items-items-preserved
skip_items-items-preserved t c = record {
  read = sym (item_left c.args.depth_left c.args.total c.args.count c.items.counter c.items.rest.now c.in_ok-rest.rest.now c.items-test.true c.in_ok-rest.ensures.rest) ∙ c.items.invariant.read;
  within = omega (arith, c.in_ok-rest.ensures.within);
}

pub skip_items-returns-clause-rest : goal.skip_items-returns-clause-rest
skip_items-returns-clause-rest t c = sym c.items.invariant.read ∙ items_end c.args.depth_left c.args.total c.args.count c.items.counter c.items.rest.now c.items-test.false

pub skip_pairs-returns-in_err-after_key-clause-rest : goal.skip_pairs-returns-in_err-after_key-clause-rest
skip_pairs-returns-in_err-after_key-clause-rest t c =
    let p = err_from_is_err_and c.from_residual.result c.from_residual.ensures.1 in
    rw (p.1, p.2) (sym c.pairs.invariant.read ∙ key_error c.args.depth_left c.args.total c.args.count c.pairs.counter c.pairs.rest.now _ c.pairs-test.true c.in_err-after_key.ensures.rest)

pub skip_pairs-returns-in_err-rest-clause-rest : goal.skip_pairs-returns-in_err-rest-clause-rest
skip_pairs-returns-in_err-rest-clause-rest t c =
    let p = err_from_is_err_and c.from_residual-in_err-rest.result c.from_residual-in_err-rest.ensures.1 in
    rw (p.1, p.2) (sym c.pairs.invariant.read ∙ pair_error c.args.depth_left c.args.total c.args.count c.pairs.counter c.pairs.rest.now c.in_ok-after_key.after_key.now _ c.pairs-test.true c.in_ok-after_key.ensures.rest c.in_err-rest.ensures.rest)

pub skip_pairs-pairs-preserved : goal.skip_pairs-pairs-preserved
skip_pairs-pairs-preserved t c = record {
  read = sym (pair_left c.args.depth_left c.args.total c.args.count c.pairs.counter c.pairs.rest.now c.in_ok-after_key.after_key.now c.in_ok-rest.rest.now c.pairs-test.true c.in_ok-after_key.ensures.rest c.in_ok-rest.ensures.rest) ∙ c.pairs.invariant.read;
  within = omega (arith, c.in_ok-after_key.ensures.within, c.in_ok-rest.ensures.within);
}

pub skip_pairs-returns-clause-rest : goal.skip_pairs-returns-clause-rest
skip_pairs-returns-clause-rest t c = sym c.pairs.invariant.read ∙ pairs_end c.args.depth_left c.args.total c.args.count c.pairs.counter c.pairs.rest.now c.pairs-test.false
