-- The message of a map without errors, and the first error of any other map.
use Rattle.std.specs.Prelude.{List, Result, Ok, Err, Option, Some, None, codes}
use Rattle.serf_lamport.specs.Clock.{max_clock}
use Rattle.serf_pack.specs.Tree.{Tree, nil, flag, int, raw, array, pairs}
use Rattle.serf_pack.specs.View.{pair_list}
use Rattle.serf_wire.specs.declared.error.WireError.{WireError}
use Rattle.serf_wire.specs.declared.error.WireError.TheVariants.{NotAMap}
use Rattle.serf_wire.specs.declared.layout.MessageType.{MessageType}
use Rattle.serf_wire.specs.declared.layout.MessageType.TheVariants as types
use Rattle.serf_wire.specs.Lookups.{value_of_key, text_in, truth_in, number_in, time_in, signed_in, list_in, status_in, slot_in}
use Rattle.serf_wire.specs.Errors.{message_errors, first}
use Rattle.serf_wire.specs.Message.{Message, UserEvent, Query, QueryResponse, PushPull, user_event, query, query_response, push_pull}

abbrev pub event_in : List (Tree × Tree) → UserEvent
event_in ps = record {
  time = time_in (value_of_key (codes "LTime") ps);
  name = text_in (value_of_key (codes "Name") ps);
  payload = text_in (value_of_key (codes "Payload") ps);
  coalesce = truth_in (value_of_key (codes "CC") ps);
}

abbrev pub query_in : List (Tree × Tree) → Query
query_in ps = record {
  time = time_in (value_of_key (codes "LTime") ps);
  id = number_in 0xffff_ffff (value_of_key (codes "ID") ps);
  addr = text_in (value_of_key (codes "Addr") ps);
  port = number_in 0xffff (value_of_key (codes "Port") ps);
  source = text_in (value_of_key (codes "SourceNode") ps);
  filters = list_in text_in (value_of_key (codes "Filters") ps);
  flags = number_in 0xffff_ffff (value_of_key (codes "Flags") ps);
  relay_factor = number_in 0xff (value_of_key (codes "RelayFactor") ps);
  timeout = signed_in (value_of_key (codes "Timeout") ps);
  name = text_in (value_of_key (codes "Name") ps);
  payload = text_in (value_of_key (codes "Payload") ps);
}

abbrev pub response_in : List (Tree × Tree) → QueryResponse
response_in ps = record {
  time = number_in max_clock (value_of_key (codes "LTime") ps);
  id = number_in 0xffff_ffff (value_of_key (codes "ID") ps);
  from = text_in (value_of_key (codes "From") ps);
  flags = number_in 0xffff_ffff (value_of_key (codes "Flags") ps);
  payload = text_in (value_of_key (codes "Payload") ps);
}

abbrev pub push_pull_in : List (Tree × Tree) → PushPull
push_pull_in ps = record {
  member_clock = number_in max_clock (value_of_key (codes "LTime") ps);
  status = status_in (value_of_key (codes "StatusLTimes") ps);
  left = list_in text_in (value_of_key (codes "LeftMembers") ps);
  event_clock = number_in max_clock (value_of_key (codes "EventLTime") ps);
  slots = list_in slot_in (value_of_key (codes "Events") ps);
  query_clock = number_in max_clock (value_of_key (codes "QueryLTime") ps);
}

abbrev pub message_in : MessageType → List (Tree × Tree) → Message
message_in types.UserEvent ps = user_event (event_in ps)
message_in types.Query ps = query (query_in ps)
message_in types.QueryResponse ps = query_response (response_in ps)
message_in types.PushPull ps = push_pull (push_pull_in ps)

abbrev pub unless_error : {A : Type 0} → Option WireError → A → Result A WireError
unless_error None m = Ok m
unless_error (Some f) m = Err f

abbrev pub read_pairs : MessageType → List (Tree × Tree) → Result Message WireError
read_pairs message ps = unless_error (first (message_errors message ps)) (message_in message ps)

-- the message that a value spells
abbrev pub read_tree : MessageType → Tree → Result Message WireError
read_tree message (nil p) = Err NotAMap
read_tree message (flag p b) = Err NotAMap
read_tree message (int p z) = Err NotAMap
read_tree message (raw p s) = Err NotAMap
read_tree message (array p vs) = Err NotAMap
read_tree message (pairs p ps) = read_pairs message (pair_list ps)
