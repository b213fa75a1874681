use Rattle.serf_text.proofs.Names.{take, true, ◌<◌, ◌≡◌, is_ascii_digit, list_all, digits_value}
use Rattle.serf_text.proofs.words.number.Given as goal

-- the bytes so far are digits that write the value
abbrev pub invariant-loop-byte : goal.invariant-loop-byte
invariant-loop-byte l = (list_all is_ascii_digit (take l.byte-index l.word) ≡ true)
    × (l.value ≡ digits_value 10 (take l.byte-index l.word))
    × (l.value < 18446744073709551616)
