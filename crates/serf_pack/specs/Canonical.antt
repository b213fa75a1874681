-- The one canonical spelling of a header or a value: the shortest of its formats, as the MessagePack specification
-- requires in "Serialization: type to format conversion". Byte strings are written as str, but never as str 8, which
-- readers of the older raw family don't know: from 32 to 65,535 bytes they are str 16.
use Rattle.std.specs.Prelude.{ℕ, ℤ, pos, negsuc, ◌+◌, ◌-◌, Bool, true, false, List, [], ◌∷◌, ◌++◌, length, nat_lt, if◌then◌else◌}
use Rattle.std.specs.Int.{w64}
use Rattle.byteorder.specs.Endian.{big_bytes, low_bytes}

-- a map's header: fixmap, map 16 or map 32 ("map format family")
abbrev pub map_head : ℕ → List ℕ
map_head n = if nat_lt n 16 then (0x80 + n) ∷ [] else (if nat_lt n 65536 then 0xde ∷ big_bytes 2 n else 0xdf ∷ big_bytes 4 n)

-- an array's header: fixarray, array 16 or array 32 ("array format family")
abbrev pub array_head : ℕ → List ℕ
array_head n = if nat_lt n 16 then (0x90 + n) ∷ [] else (if nat_lt n 65536 then 0xdc ∷ big_bytes 2 n else 0xdd ∷ big_bytes 4 n)

-- a byte string's header: fixstr, str 16 or str 32 ("str format family")
abbrev pub raw_head : ℕ → List ℕ
raw_head n = if nat_lt n 32 then (0xa0 + n) ∷ [] else (if nat_lt n 65536 then 0xda ∷ big_bytes 2 n else 0xdb ∷ big_bytes 4 n)

-- a byte string
abbrev pub raw_bytes : List ℕ → List ℕ
raw_bytes s = raw_head (length s) ++ s

-- a number of 0 or above: positive fixint, uint 8, 16, 32 or 64 ("int format family")
abbrev pub uint_bytes : ℕ → List ℕ
uint_bytes n =
    if nat_lt n 128 then n ∷ [] else
    (if nat_lt n 256 then 0xcc ∷ big_bytes 1 n else
    (if nat_lt n 65536 then 0xcd ∷ big_bytes 2 n else
    (if nat_lt n 4294967296 then 0xce ∷ big_bytes 4 n else 0xcf ∷ big_bytes 8 n)))

-- the negative number -1 - k: negative fixint, int 8, 16, 32 or 64, in two's complement ("int format family")
abbrev pub negative_bytes : ℕ → List ℕ
negative_bytes k =
    if nat_lt k 32 then (255 - k) ∷ [] else
    (if nat_lt k 128 then 0xd0 ∷ big_bytes 1 (low_bytes w64 1 (negsuc k)) else
    (if nat_lt k 32768 then 0xd1 ∷ big_bytes 2 (low_bytes w64 2 (negsuc k)) else
    (if nat_lt k 2147483648 then 0xd2 ∷ big_bytes 4 (low_bytes w64 4 (negsuc k)) else 0xd3 ∷ big_bytes 8 (low_bytes w64 8 (negsuc k)))))

-- a signed number
abbrev pub int_bytes : ℤ → List ℕ
int_bytes (pos n) = uint_bytes n
int_bytes (negsuc k) = negative_bytes k

-- a truth value ("bool format family")
abbrev pub flag_bytes : Bool → List ℕ
flag_bytes true = 0xc3 ∷ []
flag_bytes false = 0xc2 ∷ []

-- nil ("nil format")
abbrev pub nil_bytes : List ℕ
nil_bytes = 0xc0 ∷ []
