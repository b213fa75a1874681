-- What the line of a query says.
use Rattle.std.specs.Prelude.{◌^◌, ◌-◌, ℕ, pos, ◌==◌, ◌+◌, ◌++◌, true, false, if◌then◌else◌, List, [], ◌∷◌, take, drop, codes, position, Option, Some, None, Result, Ok}
use Rattle.std.specs.Str.{bytes_eq}
use Rattle.serf_model.specs.declared.action.Act.{Act}
use Rattle.serf_model.specs.declared.action.Act.TheVariants as acts
use Rattle.serf_text.specs.Words.{between, number_of}
use Rattle.serf_write.specs.declared.word_error.WordError.{WordError}
use Rattle.serf_write.specs.declared.word_error.Expected.TheVariants as expected
use Rattle.serf_write.specs.declared.query_spec.QuerySpec.{QuerySpec}
use Rattle.serf_write.specs.declared.token.Token.{Token}
use Rattle.serf_write.specs.Filters.{filter_said}
use Rattle.serf_write.specs.Gives.{◌>>=◌, wrong, or_wrong}
use Rattle.serf_write.specs.Values.{bytes_in, time_in, time_of, word_at, word_of}

-- a query whose line has only a name and a payload: the agent accepts answers for one second
abbrev pub plain_query : QuerySpec
plain_query = record { id = 0; params = record { filters = []; want_ack = false; no_broadcast = false; tags_pass = false; timeout = pos 1000000000; addr = []; port = 0; relay_factor = 0 } }

-- the query after the value of a key; it may have any number of filters, and of any other option, the last value
-- applies
abbrev pub option_value : ℕ → QuerySpec → List ℕ → List ℕ → Result QuerySpec WordError
option_value place query_spec key value =
    if bytes_eq key (codes "id") then or_wrong place expected.Option (between 0 (2 ^ 32 - 1) (number_of value))
    >>= (λ id. Ok (record { id = id; params = query_spec.params }))
    else if bytes_eq key (codes "timeout") then or_wrong place expected.Option (between 0 9223372036854775807 (time_of value))
    >>= (λ time. Ok (record { id = query_spec.id; params = record query_spec.params { timeout = pos time } }))
    else if bytes_eq key (codes "filter") then filter_said place value
    >>= (λ filter. Ok (record { id = query_spec.id; params = record query_spec.params { filters = query_spec.params.filters ++ filter ∷ [] } }))
    else wrong place expected.Option

-- the query after a key and its value, with `=` at this index of the word
abbrev pub with_pair : ℕ → QuerySpec → List ℕ → Option ℕ → Result QuerySpec WordError
with_pair place query_spec word None = wrong place expected.Option
with_pair place query_spec word (Some at) = option_value place query_spec (take at word) (drop (at + 1) word)

unfoldable pub with_option : ℕ → QuerySpec → List ℕ → Result QuerySpec WordError
with_option place query_spec word =
    if bytes_eq word (codes "ack") then Ok (record { id = query_spec.id; params = record query_spec.params { want_ack = true } })
    else if bytes_eq word (codes "quiet") then Ok (record { id = query_spec.id; params = record query_spec.params { no_broadcast = true } })
    else with_pair place query_spec word (position (λ b. b == 61) word)

abbrev pub options_from : ℕ → QuerySpec → List Token → Result QuerySpec WordError
options_from place query_spec [] = Ok query_spec
options_from place query_spec (token ∷ tokens) = with_option place query_spec (word_of (Some token)) >>= (λ query_spec. options_from (place + 1) query_spec tokens)

-- `at` and a moment may follow the payload, at the fifth place
unfoldable pub query_moment : List Token → Result ℕ WordError
query_moment tokens = if bytes_eq (word_at 5 tokens) (codes "at") then time_in 6 tokens else Ok 0

unfoldable pub options_in : List Token → Result QuerySpec WordError
options_in tokens = if bytes_eq (word_at 5 tokens) (codes "at") then options_from 7 plain_query (drop 6 tokens) else options_from 5 plain_query (drop 4 tokens)

unfoldable pub query_of : List Token → Result Act WordError
query_of tokens = do
  name ← bytes_in 3 tokens
  payload ← bytes_in 4 tokens
  moment ← query_moment tokens
  query_spec ← options_in tokens
  Ok (acts.Query record { moment = moment; id = query_spec.id; name = name; payload = payload; params = query_spec.params })
