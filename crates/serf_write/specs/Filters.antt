-- The filters that the words of a query say.
use Rattle.std.specs.Prelude.{ℕ, ◌==◌, ◌+◌, ◌++◌, ◌&&◌, ◌||◌, nat_lt, Bool, false, not, if◌then◌else◌, List, [], ◌∷◌, length, take, drop, codes, position, slice_index, Option, Some, None, Result, Ok}
use Rattle.std.specs.List.{list_any}
use Rattle.std.specs.Str.{bytes_eq}
use Rattle.serf_pack.specs.Canonical.{map_head, raw_bytes}
use Rattle.serf_text.specs.Words.{bytes_of}
use Rattle.serf_wire.specs.Canonical.{entry, is_long}
use Rattle.serf_wire.specs.Passes.{canonical_filter}
use Rattle.serf_write.specs.declared.word_error.WordError.{WordError}
use Rattle.serf_write.specs.declared.word_error.Expected.TheVariants as expected
use Rattle.serf_write.specs.Gives.{◌>>=◌, wrong, or_wrong}
use Rattle.serf_write.specs.Texts.{text_within}

-- Names and expressions

-- a text after its opening quote, with the next quote at this index: this has to be the last byte
abbrev pub in_quotes : ℕ → List ℕ → Option ℕ → Result (List ℕ) WordError
in_quotes place rest None = wrong place expected.Filter
in_quotes place rest (Some at) = if at + 1 == length rest then or_wrong place expected.Escape (text_within (take at rest)) else wrong place expected.Filter

-- a name or an expression: a text in quotes, or at least one byte, none of which is a quote
unfoldable pub piece_said : ℕ → List ℕ → Result (List ℕ) WordError
piece_said place piece =
    if nat_lt 0 (length piece) && (slice_index piece 0 == 34) then in_quotes place (drop 1 piece) (position (λ b. b == 34) (drop 1 piece))
    else if (length piece == 0) || list_any (λ b. b == 34) piece then wrong place expected.Filter
    else Ok piece

-- Some pieces, followed by the pieces between the commas of a word that are outside of quotes. The first of these begins
-- with `piece`, which ends within quotes if `is_quoted`.
abbrev pub pieces_from : List (List ℕ) → Bool → List ℕ → List ℕ → List (List ℕ)
pieces_from before is_quoted piece [] = before ++ piece ∷ []
pieces_from before is_quoted piece (byte ∷ bytes) =
    if (byte == 44) && not is_quoted then pieces_from (before ++ piece ∷ []) false [] bytes
    else pieces_from before (if byte == 34 then not is_quoted else is_quoted) (piece ++ byte ∷ []) bytes

abbrev pub pieces_of : List ℕ → List (List ℕ)
pieces_of word = pieces_from [] false [] word

-- some names, followed by those that these pieces say
abbrev pub names_from : ℕ → List (List ℕ) → List (List ℕ) → Result (List (List ℕ)) WordError
names_from place names [] = Ok names
names_from place names (piece ∷ pieces) = piece_said place piece >>= (λ name. names_from place (names ++ name ∷ []) pieces)

-- Filters

-- a node filter of these names, if they fit into a packet
abbrev pub node_filter_of : ℕ → List (List ℕ) → Result (List ℕ) WordError
node_filter_of place names = if is_long names || list_any is_long names then wrong place expected.Filter else Ok (canonical_filter names)

-- Serf's tag filter (its type is 1): a map with a regular expression and the name of a tag
abbrev pub canonical_tag_filter : List ℕ → List ℕ → List ℕ
canonical_tag_filter name expression = 1 ∷ [] ++ map_head 2 ++ entry (codes "Expr") (raw_bytes expression) ++ entry (codes "Tag") (raw_bytes name)

-- a tag filter of this name and this expression, if they fit into a packet
abbrev pub tag_filter_of : ℕ → List ℕ → List ℕ → Result (List ℕ) WordError
tag_filter_of place name expression = if is_long name || is_long expression then wrong place expected.Filter else Ok (canonical_tag_filter name expression)

-- names between commas
abbrev pub nodes_said : ℕ → List ℕ → Result (List ℕ) WordError
nodes_said place word = names_from place [] (pieces_of word) >>= node_filter_of place

-- the name of a tag and an expression, with `=` at this index
abbrev pub tag_said : ℕ → List ℕ → Option ℕ → Result (List ℕ) WordError
tag_said place word None = wrong place expected.Filter
tag_said place word (Some at) = do
  name ← piece_said place (take at word)
  expression ← piece_said place (drop (at + 1) word)
  tag_filter_of place name expression

-- a filter of this kind
abbrev pub filter_by_kind : ℕ → List ℕ → List ℕ → Result (List ℕ) WordError
filter_by_kind place kind word =
    if bytes_eq kind (codes "node") then nodes_said place word
    else if bytes_eq kind (codes "tag") then tag_said place word (position (λ b. b == 61) word)
    else wrong place expected.Filter

-- the kind of a filter, and after the colon at this index what it selects; the filter's bytes in hex if there is no colon
abbrev pub filter_cut : ℕ → List ℕ → Option ℕ → Result (List ℕ) WordError
filter_cut place word None = or_wrong place expected.Filter (bytes_of word)
filter_cut place word (Some at) = filter_by_kind place (take at word) (drop (at + 1) word)

-- the filter that a word says
unfoldable pub filter_said : ℕ → List ℕ → Result (List ℕ) WordError
filter_said place word = filter_cut place word (position (λ b. b == 58) word)
