-- The numbers in the actions of a schedule's text fit into their types.
use Rattle.serf_schedule.proofs.Names.{Bool, List, None, Ok, Option, Some, [], arith, cond, false, nat_le, nat_lt, refl, true, ℕ, ◌&&◌, ◌≡◌, ◌≤◌, and_parts, nat_tests, pos, fits, between, number_of, or_bad, word_at, bytes_in, choice_in, number_between, number_in, QueryParams, HasSizes, Parsed, act_of, filters_from, answer_of, break_of, closing_of, delivery_of, firing_of, injection_of, merging_of, params_of, query_of, restart_of, schedule_of, sink_call_in, State, Verb, Break, Close, Deliver, Fire, Bare, Merge, Respond, Restart}
use Rattle.std.specs.Prelude.{All, codes}
use Rattle.serf_model.specs.declared.action.Act.{Act as Deed}
use Rattle.serf_schedule.proofs.SaidLaws.{AllOk, HoldsOf, holds-of-all, next-ok, next-ok_of}

-- ---- numbers

between-high : (low high place : ℕ) (r : Option ℕ) → AllOk (λ n. n ≤ high) (or_bad place (between low high r))
between-high low high place None = tt
between-high low high place (Some n) = by (nat_le low n && nat_le n high) refl
  where
    by : (b : Bool) → (nat_le low n && nat_le n high) ≡ b → AllOk (λ n. n ≤ high) (or_bad place (cond b (Some n) None))
    by true is = let both = and_parts (nat_le low n) (nat_le n high) is in let within = both.1 in grind (arith, nat_tests)
    by false is = tt

pub number-high : (low high place : ℕ) (words : List (List ℕ)) → AllOk (λ n. n ≤ high) (number_between low high place words)
unfolding number_between
number-high low high place words = between-high low high place (number_of (word_at place words))

fits-positive : (n : ℕ) → n ≤ 9223372036854775807 → fits (pos n) ≡ Some (pos n)
fits-positive n small = let yes : nat_lt n 9223372036854775808 ≡ true = grind (arith, nat_tests) in rw yes refl

-- ---- an action

record HasParams (params : QueryParams) : Type 0 where
  port : params.port ≡ 0
  relay_factor : params.relay_factor ≡ 0
  timeout : fits params.timeout ≡ Some params.timeout

sized-params : (words filters : List (List ℕ)) → AllOk HasParams (params_of words filters)
unfolding params_of
sized-params words filters =
    next-ok_of (λ n. n ≤ 9223372036854775807) HasParams (number_between 0 9223372036854775807 7 words) _ (number-high 0 9223372036854775807 7 words)
    (λ timeout small. next-ok HasParams (number_between 0 3 8 words) _ (λ flags. next-ok HasParams (filters_from [] 9 filters) _ (λ filters. record { port = refl; relay_factor = refl; timeout = fits-positive timeout small })))

-- the numbers in what an agent does fit into their types
abbrev IsActSized : Deed → Type 0
IsActSized = HoldsOf HasSizes

sized-query : (words filters : List (List ℕ)) → AllOk IsActSized (query_of words filters)
unfolding query_of
sized-query words filters =
    next-ok IsActSized (number_in 3 words) _ (λ moment.
    next-ok_of (λ n. n ≤ 4294967295) IsActSized (number_between 0 4294967295 4 words) _ (number-high 0 4294967295 4 words) (λ id small.
    next-ok IsActSized (bytes_in 5 words) _ (λ name. next-ok IsActSized (bytes_in 6 words) _ (λ payload.
    next-ok_of HasParams IsActSized (params_of words filters) _ (sized-params words filters)
    (λ params h agent. record { id_fits = omega arith; port_fits = (let p = h.port in omega arith); relay_factor_fits = (let p = h.relay_factor in omega arith); timeout_fits = h.timeout })))))

sized-act : (verb : Verb) (words : List (List ℕ)) → AllOk IsActSized (act_of verb words)
unfolding delivery_of firing_of merging_of answer_of restart_of break_of closing_of
sized-act Deliver words = next-ok IsActSized (number_in 3 words) _ (λ packet. next-ok IsActSized (number_in 4 words) _ (λ now agent. tt))
sized-act Fire words = next-ok IsActSized (bytes_in 3 words) _ (λ name. next-ok IsActSized (bytes_in 4 words) _ (λ payload. next-ok IsActSized (choice_in (codes "0") (codes "1") 5 words) _ (λ coalesce agent. tt)))
sized-act Merge words = next-ok IsActSized (number_in 3 words) _ (λ packet. next-ok IsActSized (choice_in (codes "sync") (codes "join") 4 words) _ (λ join agent. tt))
sized-act Respond words = next-ok IsActSized (number_in 3 words) _ (λ handed. next-ok IsActSized (number_in 4 words) _ (λ now. next-ok IsActSized (bytes_in 5 words) _ (λ payload agent. tt)))
sized-act Restart words = next-ok IsActSized (bytes_in 3 words) _ (λ tail agent. tt)
sized-act Break words = next-ok IsActSized (sink_call_in 3 words) _ (λ call. next-ok IsActSized (number_between 1 18446744073709551615 4 words) _ (λ count agent. tt))
sized-act Close words = next-ok IsActSized (number_in 3 words) _ (λ now agent. tt)
sized-act (Bare State) words = λ agent. tt
sized-act _ words = λ agent. tt

sized-injection : (words : List (List ℕ)) → AllOk HasSizes (injection_of words)
unfolding injection_of
sized-injection words = next-ok HasSizes (bytes_in 2 words) _ (λ bytes. tt)

-- ---- a text

pub sized-schedule : (text : List ℕ) (schedule : Parsed) → schedule_of text ≡ Ok schedule → All HasSizes schedule.actions
sized-schedule = holds-of-all HasSizes (record { act = sized-act; query = sized-query; injection = sized-injection })
