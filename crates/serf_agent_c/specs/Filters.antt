-- What C reads of the filters in a query's packet.
use Rattle.std.specs.Prelude.{◌≡◌, ◌≢◌, ℕ, List, map, length, Option, Some, None, Result, Ok, Err}
use Rattle.std.specs.List.{flat_map}
use Rattle.serf_wire.specs.declared.error.WireError.{WireError}
use Rattle.serf_wire.specs.Lists.{texts_left}
use Rattle.serf_wire.specs.Message.{Message, query}
use Rattle.serf_agent_c.specs.declared.code.Code.{Code}
use Rattle.serf_agent_c.specs.declared.code.Code.TheVariants.{Done, Nothing, OutOfMemory}
use Rattle.serf_agent_c.specs.declared.filters.FiltersHead.{FiltersHead}
use Rattle.serf_agent_c.specs.declared.filters.BorrowedFilters.{BorrowedFilters}

-- the filters of a query, borrowed from its packet
abbrev pub filters_borrowed : BorrowedFilters → List (List ℕ)
filters_borrowed f = texts_left f.filters

-- the filters of a message if it is a query, and those of a packet
abbrev pub filters_of : Message → Option (List (List ℕ))
filters_of (query q) = Some q.filters
filters_of _ = None

abbrev pub filters_in : Result Message WireError → Option (List (List ℕ))
filters_in (Ok message) = filters_of message
filters_in (Err f) = None

-- the length of each filter, and their bytes, one filter after another
abbrev pub filter_lens : List (List ℕ) → List ℕ
filter_lens filters = map (λ filter. length filter) filters

abbrev pub filter_bytes : List (List ℕ) → List ℕ
filter_bytes filters = flat_map (λ filter. filter) filters

abbrev pub filters_head : List (List ℕ) → FiltersHead
filters_head filters = record { filters = length (filter_lens filters); filters_len = length (filter_bytes filters) }

-- C reads the filters of a query, unless memory ran out. If the packet is not a query, the code is Nothing.
abbrev pub ReadsFilters : Option (List (List ℕ)) → (List (List ℕ) → Type 0) → Code → Type 0
ReadsFilters None P code = code ≡ Nothing
ReadsFilters (Some filters) P code = (code ≢ Done → code ≡ OutOfMemory) × (code ≡ Done → P filters)
