-- The state of an agent: its clocks, its minimums, and what its disk keeps. When `look` is called, and which replies to
-- it agree.
use Rattle.std.specs.Prelude.{ℕ, ◌==◌, ◌&&◌, ◌++◌, Bool, true, false, if◌then◌else◌, List, [], ◌∷◌, codes, Option, Some, None, unwrap_or, Result, Ok, Err}
use Rattle.std.specs.Str.{bytes_eq}
use Rattle.serf_snapshot.specs.Clocks.{last_clock}
use Rattle.serf_snapshot.specs.declared.kind.ClockKind.{ClockKind}
use Rattle.serf_snapshot.specs.declared.kind.ClockKind.TheVariants as clocks
use Rattle.serf_agent.specs.declared.config.Config.{Config}
use Rattle.serf_agent.specs.View.{ConcreteState, view_of}
use Rattle.serf_model.specs.declared.line.Answer.{Answer}
use Rattle.serf_model.specs.declared.line.Answer.TheVariants as answers
use Rattle.serf_model.specs.Alone.{AgentCall, alone}
use Rattle.serf_text.specs.Gives.{BadLine}
use Rattle.serf_conform.specs.declared.dump.StateDump.{StateDump}
use Rattle.serf_conform.specs.declared.reply_line.ReplyLine.{ReplyLine}
use Rattle.serf_conform.specs.declared.reply_line.ReplyLine.TheVariants as lines
use Rattle.serf_conform.specs.CallText.{number_word}
use Rattle.serf_conform.specs.Reply.{Said}
use Rattle.serf_conform.specs.declared.judging.Judgement.{Judgement}
use Rattle.serf_conform.specs.declared.judging.Judgement.TheVariants as judgements
use Rattle.serf_conform.specs.ExpectedReply.{is_unsupported}

-- The call and the expected reply

-- the call
unfoldable pub dump_line : List ℕ
dump_line = codes "look\n"

-- the state of an agent that stores this
abbrev pub dump_of : ConcreteState → StateDump
dump_of s =
    record {
      member_clock = s.member_clock;
      event_clock = s.events.clock;
      query_clock = s.queries.clock;
      event_minimum = s.events.minimum;
      query_minimum = s.queries.minimum;
      kept = unwrap_or s.snapshot.durable [];
    }

-- the state of the model's agent with these settings after these calls
abbrev pub dump_after : Config → List AgentCall → StateDump
dump_after config made = dump_of (view_of (alone config made).node.agent)

-- the three clocks and the two minimums
unfoldable pub dump_answer : StateDump → List ℕ
dump_answer dump = codes "looked" ++ number_word dump.member_clock ++ number_word dump.event_clock ++ number_word dump.query_clock
    ++ number_word dump.event_minimum ++ number_word dump.query_minimum

abbrev pub dump_said : StateDump → Said
dump_said dump = record { answer = dump_answer dump; lines = lines.Kept dump.kept ∷ [] }

-- A `look` follows an opening, each of these answers, and the last call.

abbrev pub is_dumped_after : Answer → Bool
is_dumped_after (answers.Refused refusal) = true
is_dumped_after (answers.Restarted member_clock event_clock query_clock) = true
is_dumped_after answers.Compacted = true
is_dumped_after _ = false

-- What agrees

-- Both texts have the same clock of this kind.
abbrev pub same_clock : ClockKind → List ℕ → List ℕ → Bool
same_clock kind x y = last_clock kind x == last_clock kind y

abbrev pub same_clocks : List ℕ → List ℕ → Bool
same_clocks x y = same_clock clocks.Member x y && (same_clock clocks.Event x y && same_clock clocks.Query x y)

-- Under Serf's rules, only the clocks in a text count, and otherwise all of its bytes do.
abbrev pub kept_alike : Bool → List ℕ → List ℕ → Bool
kept_alike serf wanted got = if serf then same_clocks wanted got else bytes_eq wanted got

-- the text of a `kept` line
abbrev pub kept_in : ReplyLine → Option (List ℕ)
kept_in (lines.Kept text) = Some text
kept_in (lines.Sent packet) = None
kept_in (lines.Event time name payload coalesce) = None
kept_in (lines.DeliveredQuery index time id name payload) = None
kept_in (lines.CountedAck time id from) = None
kept_in (lines.CountedResponse time id from payload) = None

-- the text of a reply's only line
abbrev pub only_kept : List ReplyLine → Option (List ℕ)
only_kept [] = None
only_kept (line ∷ []) = kept_in line
only_kept (line ∷ other ∷ rest) = None

abbrev pub kept_means : Bool → List ℕ → Option (List ℕ) → Bool
kept_means serf wanted None = false
kept_means serf wanted (Some got) = kept_alike serf wanted got

-- The clocks and the minimums are equal, and the kept texts agree.
abbrev pub dump_means : Bool → StateDump → Said → Bool
dump_means serf dump said = bytes_eq (dump_answer dump) said.answer && kept_means serf dump.kept (only_kept said.lines)

-- A reply that can't be read differs.
abbrev pub dump_judged : Bool → StateDump → Result Said BadLine → Judgement
dump_judged serf dump (Err bad) = judgements.Differs
dump_judged serf dump (Ok said) = if is_unsupported said then judgements.Unsupported else if dump_means serf dump said then judgements.Agrees else judgements.Differs
