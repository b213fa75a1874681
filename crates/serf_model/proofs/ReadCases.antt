-- What holds of each error and of each message of a type holds of the result of reading a value.
use Rattle.serf_model.proofs.Names.{Err, List, None, Ok, Option, Result, Some, Tree, array, flag, int, nil, pairs, raw, pair_list, PackError, read_value, first, message_errors, Message, message_in, unless_error, WireError, MessageType}

pub read_has : (P : Result Message WireError → Type 0) (message : MessageType) (r : Result Tree PackError) → ((f : WireError) → P (Err f)) → ((ps : List (Tree × Tree)) → P (Ok (message_in message ps))) → P (read_value message r)
read_has P message (Err f) bad good = bad _
read_has P message (Ok (nil p)) bad good = bad _
read_has P message (Ok (flag p b)) bad good = bad _
read_has P message (Ok (int p z)) bad good = bad _
read_has P message (Ok (raw p s)) bad good = bad _
read_has P message (Ok (array p vs)) bad good = bad _
read_has P message (Ok (pairs p ps)) bad good = by (first (message_errors message (pair_list ps)))
  where
    by : (o : Option WireError) → P (unless_error o (message_in message (pair_list ps)))
    by None = good (pair_list ps)
    by (Some f) = bad f
