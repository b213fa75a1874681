-- What C reads of a packet that is an intent, and the packets of intents that it gets.
use Rattle.std.specs.Prelude.{◌≡◌, ◌≢◌, ◌<◌, ℕ, Bool, true, false, List, length, Option, Some, None, Result, Ok, Err}
use Rattle.serf_lamport.specs.Clock.{max_clock}
use Rattle.serf_wire.specs.declared.encode.EncodeError.{EncodeError}
use Rattle.serf_wire.specs.declared.encode.EncodeError.TheVariants as encodes
use Rattle.serf_wire.specs.declared.error.WireError.{WireError}
use Rattle.serf_wire.specs.Canonical.{is_long}
use Rattle.serf_wire.specs.Intent.{Intent, join, leave, intent_time, intent_node, canonical_intent, join_of, leave_of}
use Rattle.serf_agent_c.specs.declared.code.Code.{Code}
use Rattle.serf_agent_c.specs.declared.code.Code.TheVariants.{Done, Nothing, OutOfMemory, Exhausted, NoMessage, TooLong}
use Rattle.serf_agent_c.specs.declared.heads.ErrorHead.{ErrorHead}
use Rattle.serf_agent_c.specs.declared.intents.IntentHead.{IntentHead}
use Rattle.serf_agent_c.specs.Errors.{error_head}
use Rattle.serf_agent_c.specs.Texts.{copied}

abbrev pub encode_code : EncodeError → Code
encode_code encodes.TooLong = TooLong
encode_code encodes.OutOfMemory = OutOfMemory

abbrev pub intent_head : Intent → IntentHead
intent_head (join j) = record { time = j.time; node_len = length j.node; leave = false; prune = false }
intent_head (leave l) = record { time = l.time; node_len = length l.node; leave = true; prune = l.prune }

-- a leave intent if it is given whether the members are to prune the node, and otherwise a join intent
abbrev pub said_intent : ℕ → List ℕ → Option Bool → Intent
said_intent time node None = join_of time node
said_intent time node (Some prune) = leave_of time node prune

-- C reads the contents of an intent. For another message, the code is Nothing, and for a faulty packet it is NoMessage.
abbrev pub ReadsIntent : Result (Option Intent) WireError → (Intent → Type 0) → Code → Type 0
ReadsIntent (Ok (Some i)) P code = (code ≡ Done) × P i
ReadsIntent (Ok None) P code = code ≡ Nothing
ReadsIntent (Err f) P code = code ≡ NoMessage

-- C reads the first error. For an intent and for another message, the code is Nothing, and the error stays as it was.
abbrev pub ReadsIntentError : Result (Option Intent) WireError → ErrorHead → ErrorHead → Code → Type 0
ReadsIntentError (Ok o) old new code = (code ≡ Nothing) × (new ≡ old)
ReadsIntentError (Err f) old new code = (code ≡ Done) × (new ≡ error_head f)

-- The packet of an intent is written, unless its time is 2^64 - 1, which is not a valid time, its name is too long, or
-- memory runs out. In these cases, nothing is written.
pub record WritesIntent (i : Intent) (len_old len_new : ℕ) (old new : List ℕ) (code : Code) : Type 0 where
  pub exhausted : intent_time i ≡ max_clock → code ≡ Exhausted
  pub too_long : intent_time i < max_clock → is_long (intent_node i) ≡ true → code ≡ TooLong
  pub memory : intent_time i < max_clock → is_long (intent_node i) ≡ false → code ≢ Done → code ≡ OutOfMemory
  pub writes : code ≡ Done → (len_new ≡ length (canonical_intent i)) × (new ≡ copied (canonical_intent i) old)
  pub same : code ≢ Done → (len_new ≡ len_old) × (new ≡ old)
