-- What C reads of the error by which a packet is not a message.
use Rattle.std.specs.Prelude.{◌≡◌, ℕ, Result, Ok, Err}
use Rattle.serf_pack.specs.declared.error.PackError.TheVariants as pack
use Rattle.serf_wire.specs.declared.error.WireError.{WireError}
use Rattle.serf_wire.specs.declared.error.WireError.TheVariants as errors
use Rattle.serf_wire.specs.Message.{Message}
use Rattle.serf_agent_c.specs.declared.code.Code.{Code}
use Rattle.serf_agent_c.specs.declared.code.Code.TheVariants.{Done, Nothing}
use Rattle.serf_agent_c.specs.declared.heads.ErrorHead.{ErrorHead}

-- the numbers of `enum serf_agent_error`
abbrev pub error_kind : WireError → ℕ
error_kind errors.Empty = 1
error_kind (errors.UnknownType type) = 2
error_kind (errors.Pack (pack.Truncated offset)) = 3
error_kind (errors.Pack (pack.Unsupported byte offset)) = 4
error_kind (errors.Pack (pack.TooDeep offset)) = 5
error_kind (errors.Pack (pack.Trailing offset)) = 6
error_kind errors.NotAMap = 7
error_kind (errors.BadKey offset) = 8
error_kind (errors.Twice offset) = 9
error_kind (errors.WrongKind offset) = 10
error_kind (errors.OutOfRange offset) = 11
error_kind (errors.MaxTime offset) = 12

-- the error's offset, in bytes from the packet's first byte; 0 if it names none
abbrev pub error_offset : WireError → ℕ
error_offset (errors.Pack (pack.Truncated offset)) = offset
error_offset (errors.Pack (pack.Unsupported byte offset)) = offset
error_offset (errors.Pack (pack.TooDeep offset)) = offset
error_offset (errors.Pack (pack.Trailing offset)) = offset
error_offset (errors.BadKey offset) = offset
error_offset (errors.Twice offset) = offset
error_offset (errors.WrongKind offset) = offset
error_offset (errors.OutOfRange offset) = offset
error_offset (errors.MaxTime offset) = offset
error_offset _ = 0

-- the byte that the error names: the unknown type, or the byte that begins an unsupported value; 0 if it names none
abbrev pub error_byte : WireError → ℕ
error_byte (errors.UnknownType type) = type
error_byte (errors.Pack (pack.Unsupported byte offset)) = byte
error_byte _ = 0

abbrev pub error_head : WireError → ErrorHead
error_head f = record { offset = error_offset f; kind = error_kind f; byte = error_byte f }

-- C reads the first error. If the packet is a message, the code is Nothing, and the error stays as it was.
abbrev pub ReadsError : Result Message WireError → ErrorHead → ErrorHead → Code → Type 0
ReadsError (Ok m) old new code = (code ≡ Nothing) × (new ≡ old)
ReadsError (Err f) old new code = (code ≡ Done) × (new ≡ error_head f)
