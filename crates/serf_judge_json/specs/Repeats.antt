-- Objects about what a node was handed again.
use Rattle.std.specs.Prelude.{◌≡◌, ℕ, ◌++◌, List, [], ◌∷◌, codes, Option, None, Some, unwrap_or}
use Rattle.std.specs.List.{find, flat_map}
use Rattle.std.specs.Option.{option_map}
use Rattle.serf_json.specs.Json.{bytes_member}
use Rattle.serf_json.specs.Object.{object_text}
use Rattle.serf_judge.specs.declared.tally.Tally.{Tally}
use Rattle.indexmap.specs.IndexMap.{IndexMap, get}
use Rattle.serf_judge.specs.declared.key.Key.{Key}
use Rattle.serf_judge.specs.Identity.{Identity, is_same, key_eq, key_identity}
use Rattle.serf_judge.specs.Tallies.{repeats_among, tallies_of}
use Rattle.serf_judge_json.specs.declared.kind.Kind.{Kind}
use Rattle.serf_judge_json.specs.declared.places.LogPlaces.{LogPlaces}
use Rattle.serf_judge_json.specs.Entries.{about_text}
use Rattle.serf_judge_json.specs.Kinds.{kind_word}
use Rattle.serf_judge_json.specs.Members.{joined, number_member, text_member}
use Rattle.serf_judge_json.specs.Places.{place_members}

-- the number of the first line that hands this to this node
abbrev pub first_of : List (ℕ × Identity) → Identity → Option ℕ
first_of lines i = option_map (λ line. line.0) (find (λ line. is_same i line.1) lines)

-- a line that hands something out again, and the first one that did
unfoldable pub repeat_text : LogPlaces → Kind → ℕ × Identity → ℕ → List ℕ
repeat_text places kind line first =
    about_text (codes "repeat")
    (joined (text_member (codes "of") (kind_word kind) ∷ (place_members [] places line.0 ++ place_members (codes "earlier_") places first)))
    kind line.1

-- an object for each line that hands a node what an earlier line handed to it
abbrev pub repeats_text : LogPlaces → Kind → List (ℕ × Identity) → List ℕ
repeats_text places kind lines = flat_map (λ line. repeat_text places kind line (unwrap_or (first_of lines line.1) 0)) (repeats_among lines)

-- a node, and the tally of what it was handed again
unfoldable pub tally_text : LogPlaces → Kind → List ℕ × Tally → List ℕ
tally_text places kind told =
    object_text (codes "tally")
    (joined (text_member (codes "of") (kind_word kind) ∷ bytes_member (codes "node") told.0 ∷ number_member (codes "count") told.1.count
    ∷ number_member (codes "min_time") told.1.min_time ∷ number_member (codes "max_time") told.1.largest_time ∷ [])
    ++ joined (place_members (codes "first_") places told.1.first_line ++ place_members (codes "last_") places told.1.last_line))

abbrev pub tallies_text : LogPlaces → Kind → List (ℕ × Identity) → List ℕ
tallies_text places kind lines = flat_map (tally_text places kind) (tallies_of (repeats_among lines))

-- a table has the first line for each thing that these lines hand out
abbrev pub AreFirsts : {S : Type 0} → List (ℕ × Identity) → IndexMap Key ℕ S → Type 0
AreFirsts lines firsts = (q : Key) → get key_eq firsts q ≡ first_of lines (key_identity q)

-- the object about a line, if an earlier one hands out the same
abbrev pub text_after : LogPlaces → Kind → ℕ × Identity → Option ℕ → List ℕ
text_after places kind line None = []
text_after places kind line (Some first) = repeat_text places kind line first

-- and after these lines
abbrev pub again_text : LogPlaces → Kind → List (ℕ × Identity) → ℕ × Identity → List ℕ
again_text places kind lines line = text_after places kind line (first_of lines line.1)
