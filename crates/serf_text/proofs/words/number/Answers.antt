use Rattle.serf_text.proofs.Names.{Some, ap, arith, get_or, length, rules, sym, take, true, ◌*◌, ◌+◌, ◌<◌, ◌∙◌, ◌≡◌, ◌≤◌, common_steps, digits_value_more, list_all_more, is_ascii_digit}
use Rattle.serf_text.proofs.NumberLemmas.{too_great, is_number, digit_is}
use Rattle.serf_text.proofs.words.number.Goals as goal

pub returns-in_default : goal.returns-in_default
returns-in_default c =
    let great : 18446744073709551616 ≤ c.loop-byte.value * 10 = omega (arith, c.in_default.ensures) in
    let written = c.loop-byte.invariant.1 in
    sym (too_great c.args.word.now c.loop-byte.byte-index (omega arith) (omega (arith, written)))

pub returns-in_default-checked_add : goal.returns-in_default-checked_add
returns-in_default-checked_add c =
    let digit : is_ascii_digit (get_or c.args.word.now c.loop-byte.byte-index 0) ≡ true = search rules in
    let is = digit_is (get_or c.args.word.now c.loop-byte.byte-index 0) digit in
    let great : 18446744073709551616 ≤ c.in-Some.tens + c.from-digit.result = omega (arith, c.in_default-checked_add.ensures) in
    let written = c.loop-byte.invariant.1 in
    sym (too_great c.args.word.now c.loop-byte.byte-index (omega arith) (omega (arith, written, is, c.in-Some.ensures.1)))

pub loop-byte-preserved : goal.loop-byte-preserved
loop-byte-preserved c =
    let digit : is_ascii_digit (get_or c.args.word.now c.loop-byte.byte-index 0) ≡ true = search rules in
    let is = digit_is (get_or c.args.word.now c.loop-byte.byte-index 0) digit in
    let lt : c.loop-byte.byte-index < length c.args.word.now = omega arith in
    let all = list_all_more is_ascii_digit c.args.word.now c.loop-byte.byte-index 0 lt in
    let more = digits_value_more 10 c.args.word.now c.loop-byte.byte-index lt in
    (rw (all, c.loop-byte.invariant.0, digit) (search rules), omega (arith, more, is, c.in-Some.ensures.1, c.in-Some-checked_add.ensures.1, c.loop-byte.invariant.1), omega (arith, c.in-Some-checked_add.ensures.0, c.in-Some-checked_add.ensures.1))

pub returns : goal.returns
returns c =
    let whole : take c.loop-byte.byte-index c.args.word.now ≡ c.args.word.now = grind (arith, common_steps) in
    let digits = rw whole at c.loop-byte.invariant.0 in
    let written = rw whole at c.loop-byte.invariant.1 in
    ap Some written ∙ sym (is_number c.args.word.now (search rules) digits (omega (arith, written, c.loop-byte.invariant.2)))
