use Rattle.serf_json.proofs.Names.{take, ◌++◌, ◌≡◌, more_numbers}
use Rattle.serf_json.proofs.text.write_more_numbers.Given as goal

-- the first of the numbers were written
abbrev pub invariant-loop-number : goal.invariant-loop-number
invariant-loop-number l = l.out.items ≡ l.fn.out.items ++ more_numbers (take l.number-index l.numbers)
