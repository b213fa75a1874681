-- Snapshot lines can hold what the actions of a schedule's text fire or inject: the names and payloads are read from
-- hex, so they are bytes.
use Rattle.serf_schedule.proofs.Names.{Bool, Err, List, Ok, Result, Some, [], arith, cond, false, length, refl, rules, true, ℕ, ◌&&◌, ◌==◌, ◌≡◌, ◌≤◌, slice_index, result_ok, decode_of-ok, IsBytes, decode_of, FromHexError, bytes_of, or_bad, word_at, bytes_in, choice_in, number_between, number_in, IsWritable, BringsTold, events_in_packet, Parsed, act_of, answer_of, break_of, closing_of, delivery_of, firing_of, injection_of, merging_of, params_of, query_of, restart_of, schedule_of, sink_call_in, State, Verb, Break, Close, Deliver, Fire, Bare, Merge, Respond, Restart}
use Rattle.std.specs.Prelude.{All, codes}
use Rattle.serf_model.specs.declared.action.Act.{Act as Deed}
use Rattle.serf_schedule.proofs.SaidLaws.{AllOk, HoldsOf, holds-of-all, next-ok, next-ok_of}
use Rattle.serf_schedule.proofs.SizedLaws.{number-high}

-- ---- a word

found-bytes : (place : ℕ) (r : Result (List ℕ) FromHexError) (word : List ℕ) → decode_of word ≡ r → AllOk IsBytes (or_bad place (result_ok r))
found-bytes place (Ok bytes) word is = (decode_of-ok word bytes is).3
found-bytes place (Err error) word is = tt

hex-bytes : (place : ℕ) (word : List ℕ) → AllOk IsBytes (or_bad place (bytes_of word))
hex-bytes place word = by ((length word == 1) && (slice_index word 0 == 45))
  where
    by : (b : Bool) → AllOk IsBytes (or_bad place (cond b (Some []) (result_ok (decode_of word))))
    by true = λ i. search rules
    by false = found-bytes place (decode_of word) word refl

told-bytes : (place : ℕ) (words : List (List ℕ)) → AllOk IsBytes (bytes_in place words)
unfolding bytes_in
told-bytes place words = hex-bytes place (word_at place words)

-- ---- an action

abbrev IsActTold : Deed → Type 0
IsActTold = HoldsOf BringsTold

told-query : (words filters : List (List ℕ)) → AllOk IsActTold (query_of words filters)
unfolding query_of
told-query words filters =
    next-ok IsActTold (number_in 3 words) _ (λ moment.
    next-ok_of (λ n. n ≤ 4294967295) IsActTold (number_between 0 4294967295 4 words) _ (number-high 0 4294967295 4 words) (λ id small.
    next-ok IsActTold (bytes_in 5 words) _ (λ name. next-ok IsActTold (bytes_in 6 words) _ (λ payload.
    next-ok IsActTold (params_of words filters) _ (λ params agent. omega arith)))))

told-act : (verb : Verb) (words : List (List ℕ)) → AllOk IsActTold (act_of verb words)
unfolding delivery_of firing_of merging_of answer_of restart_of break_of closing_of
told-act Deliver words = next-ok IsActTold (number_in 3 words) _ (λ packet. next-ok IsActTold (number_in 4 words) _ (λ now agent. tt))
told-act Fire words =
    next-ok_of IsBytes IsActTold (bytes_in 3 words) _ (told-bytes 3 words) (λ name n.
    next-ok_of IsBytes IsActTold (bytes_in 4 words) _ (told-bytes 4 words) (λ payload p.
    next-ok IsActTold (choice_in (codes "0") (codes "1") 5 words) _ (λ coalesce agent. record { name = n; payload = p })))
told-act Merge words = next-ok IsActTold (number_in 3 words) _ (λ packet. next-ok IsActTold (choice_in (codes "sync") (codes "join") 4 words) _ (λ join agent. tt))
told-act Respond words = next-ok IsActTold (number_in 3 words) _ (λ handed. next-ok IsActTold (number_in 4 words) _ (λ now. next-ok IsActTold (bytes_in 5 words) _ (λ payload agent. tt)))
told-act Restart words = next-ok IsActTold (bytes_in 3 words) _ (λ tail agent. tt)
told-act Break words = next-ok IsActTold (sink_call_in 3 words) _ (λ call. next-ok IsActTold (number_between 1 18446744073709551615 4 words) _ (λ count agent. tt))
told-act Close words = next-ok IsActTold (number_in 3 words) _ (λ now agent. tt)
told-act (Bare State) words = λ agent. tt
told-act _ words = λ agent. tt

told-injection : ((packet : List ℕ) → IsBytes packet → All (λ e. IsWritable e.key) (events_in_packet packet)) → (words : List (List ℕ)) → AllOk BringsTold (injection_of words)
unfolding injection_of
told-injection packets words = next-ok_of IsBytes BringsTold (bytes_in 2 words) _ (told-bytes 2 words) (λ bytes h. packets bytes h)

-- ---- a text

pub told-schedule : ((packet : List ℕ) → IsBytes packet → All (λ e. IsWritable e.key) (events_in_packet packet))
    → (text : List ℕ) (schedule : Parsed) → schedule_of text ≡ Ok schedule → All BringsTold schedule.actions
told-schedule packets = holds-of-all BringsTold (record { act = told-act; query = told-query; injection = told-injection packets })
