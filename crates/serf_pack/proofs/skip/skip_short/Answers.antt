use Rattle.serf_pack.proofs.Names.{arith, common_steps, Nil}
use Rattle.serf_pack.proofs.Skipping.{whole_head, number_head, by_nil, by_flag, by_int, by_raw}
use Rattle.serf_pack.proofs.skip.skip_short.Goals as goal

pub returns-in-Whole-Nil-clause-rest : goal.returns-in-Whole-Nil-clause-rest
returns-in-Whole-Nil-clause-rest c = λ depth_left total.
    by_nil depth_left total c.args.bytes.now _ (whole_head total c.args.bytes.now c.row_for.result c.in-Whole-Nil.field-0 Nil c.in-len1-up.len_at_least c.row_for.ensures.row c.in-Whole-Nil.is c.in-Whole-Nil.field-0-is)

pub returns-in-Whole-Flag-clause-rest : goal.returns-in-Whole-Flag-clause-rest
returns-in-Whole-Flag-clause-rest c = λ depth_left total.
    by_flag depth_left total c.args.bytes.now c.in-Whole-Flag.field-0-0 _ (whole_head total c.args.bytes.now c.row_for.result c.in-Whole-Flag.field-0 _ c.in-len1-up.len_at_least c.row_for.ensures.row c.in-Whole-Flag.is c.in-Whole-Flag.field-0-is)

pub returns-in-Whole-Int-clause-rest : goal.returns-in-Whole-Int-clause-rest
returns-in-Whole-Int-clause-rest c = λ depth_left total.
    by_int depth_left total c.args.bytes.now c.in-Whole-Int.field-0-0 _ (whole_head total c.args.bytes.now c.row_for.result c.in-Whole-Int.field-0 _ c.in-len1-up.len_at_least c.row_for.ensures.row c.in-Whole-Int.is c.in-Whole-Int.field-0-is)

pub returns-else-rest-n-clause-rest : goal.returns-else-rest-n-clause-rest
returns-else-rest-n-clause-rest c = λ depth_left total.
    let e = by_raw depth_left total c.args.bytes.now c.in-Whole-Raw.n _ (whole_head total c.args.bytes.now c.row_for.result c.in-Whole-Raw.field-0 _ c.in-len1-up.len_at_least c.row_for.ensures.row c.in-Whole-Raw.is c.in-Whole-Raw.field-0-is) c.if-rest-n.false in
    grind (arith, common_steps, e)

pub returns-else-rest-width-clause-rest : goal.returns-else-rest-width-clause-rest
returns-else-rest-width-clause-rest c = λ depth_left total.
    let arm = c.in-Number-Unsigned-default in
    let e = by_int depth_left total c.args.bytes.now _ _ (number_head total c.args.bytes.now c.row_for.result arm.field-0 _ arm.width c.in-len1-up.len_at_least c.row_for.ensures.row arm.is arm.field-0-is c.if-rest-width.false) in
    grind (arith, common_steps, e)
