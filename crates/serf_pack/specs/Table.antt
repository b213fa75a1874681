-- The formats of MessagePack, row by row: MessagePack specification, "Formats" (the table of first bytes). Str and bin
-- are one kind here, raw. The profile has no formats for floats, ext and timestamps.
use Rattle.std.specs.Prelude.{ℕ, ℤ, pos, negsuc, ◌<◌, ◌^◌, ◌-ℤ◌, ◌-◌, true, false, nat_lt, ◌==◌, if◌then◌else◌}
use Rattle.byteorder.specs.Endian.{twos_complement}
use Rattle.serf_pack.specs.declared.head.Head.{Head}
use Rattle.serf_pack.specs.declared.head.Head.TheVariants as heads
use Rattle.serf_pack.specs.declared.head.Field.{Field}
use Rattle.serf_pack.specs.declared.head.Field.TheVariants as fields
use Rattle.serf_pack.specs.declared.head.Row.{Row}
use Rattle.serf_pack.specs.declared.head.Row.TheVariants.{Whole, Number, Unsupported}

-- the meaning of a value's first byte: "Formats", "Overview"
abbrev pub row_of : ℕ → Row
row_of b =
    if nat_lt b 0x80 then Whole (heads.Int (pos b)) else
    (if nat_lt b 0x90 then Whole (heads.Map (b - 0x80)) else
    (if nat_lt b 0xa0 then Whole (heads.Array (b - 0x90)) else
    (if nat_lt b 0xc0 then Whole (heads.Raw (b - 0xa0)) else
    (if b == 0xc0 then Whole heads.Nil else
    (if b == 0xc2 then Whole (heads.Flag false) else
    (if b == 0xc3 then Whole (heads.Flag true) else
    (if b == 0xc4 then Number fields.Raw 1 else
    (if b == 0xc5 then Number fields.Raw 2 else
    (if b == 0xc6 then Number fields.Raw 4 else
    (if b == 0xcc then Number fields.Unsigned 1 else
    (if b == 0xcd then Number fields.Unsigned 2 else
    (if b == 0xce then Number fields.Unsigned 4 else
    (if b == 0xcf then Number fields.Unsigned 8 else
    (if b == 0xd0 then Number fields.Signed 1 else
    (if b == 0xd1 then Number fields.Signed 2 else
    (if b == 0xd2 then Number fields.Signed 4 else
    (if b == 0xd3 then Number fields.Signed 8 else
    (if b == 0xd9 then Number fields.Raw 1 else
    (if b == 0xda then Number fields.Raw 2 else
    (if b == 0xdb then Number fields.Raw 4 else
    (if b == 0xdc then Number fields.Array 2 else
    (if b == 0xdd then Number fields.Array 4 else
    (if b == 0xde then Number fields.Map 2 else
    (if b == 0xdf then Number fields.Map 4 else
    (if nat_lt b 0xe0 then Unsupported else Whole (heads.Int (pos b -ℤ pos 256)))))))))))))))))))))))))))

-- the numbers of the int format family: of 64 bits, unsigned or signed
abbrev pub IsFormatInt : ℤ → Type 0
IsFormatInt (pos n) = n < 2 ^ 64
IsFormatInt (negsuc k) = k < 2 ^ 63

-- the number of a head is one of that family, if the head is an integer's
abbrev pub HasFormatInt : Head → Type 0
HasFormatInt (heads.Int z) = IsFormatInt z
HasFormatInt _ = Unit {0}

abbrev pub RowHasFormatInt : Row → Type 0
RowHasFormatInt (Whole head) = HasFormatInt head
RowHasFormatInt _ = Unit {0}

-- the meaning of a number of w bytes after the first byte: "int format family", and the lengths and counts of "str
-- format family", "bin format family", "array format family" and "map format family", all big-endian
abbrev pub meaning_of : Field → ℕ → ℕ → Head
meaning_of fields.Unsigned w x = heads.Int (pos x)
meaning_of fields.Signed w x = heads.Int (twos_complement w x)
meaning_of fields.Raw w x = heads.Raw x
meaning_of fields.Array w x = heads.Array x
meaning_of fields.Map w x = heads.Map x
