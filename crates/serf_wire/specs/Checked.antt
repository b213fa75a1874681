-- A map whose fields are checked as a whole: the result is its pairs, or the first error of the value that should be
-- this map.
use Rattle.std.specs.Prelude.{◌≡◌, List, Result, Ok, Err}
use Rattle.serf_pack.specs.declared.error.PackError.{PackError}
use Rattle.serf_pack.specs.Tree.{Tree, nil, flag, int, raw, array, pairs}
use Rattle.serf_pack.specs.View.{pair_list}
use Rattle.serf_wire.specs.declared.error.WireError.{WireError}
use Rattle.serf_wire.specs.declared.error.WireError.TheVariants.{NotAMap, Pack}
use Rattle.serf_wire.specs.declared.found.FoundFields.{FoundFields}
use Rattle.serf_wire.specs.declared.layout.Layout.{Layout}
use Rattle.serf_wire.specs.Errors.{layout_errors, first}
use Rattle.serf_wire.specs.Found.{Finds}
use Rattle.serf_wire.specs.Reading.{unless_error}
use Rattle.serf_wire.specs.Spells.{shifted}

-- the pairs of a map, if they have no error as fields of this layout
abbrev pub sound_pairs : Layout → Tree → Result (List (Tree × Tree)) WireError
sound_pairs layout (nil p) = Err NotAMap
sound_pairs layout (flag p b) = Err NotAMap
sound_pairs layout (int p z) = Err NotAMap
sound_pairs layout (raw p s) = Err NotAMap
sound_pairs layout (array p vs) = Err NotAMap
sound_pairs layout (pairs p ps) = unless_error (first (layout_errors layout (pair_list ps))) (pair_list ps)

-- the same, for what was read after a type byte
abbrev pub checked_pairs : Layout → Result Tree PackError → Result (List (Tree × Tree)) WireError
checked_pairs layout (Ok v) = sound_pairs layout v
checked_pairs layout (Err f) = Err (Pack (shifted f))

-- what is made from the pairs, if there is no error
abbrev pub made_of : {A B : Type 0} → (A → B) → Result A WireError → Result B WireError
made_of make (Ok x) = Ok (make x)
made_of make (Err f) = Err f

-- the function's result is what is found in the pairs, or the same error
abbrev pub FindsChecked : Layout → Result FoundFields WireError → Result (List (Tree × Tree)) WireError → Type 0
FindsChecked layout (Ok found) (Ok ps) = Finds layout found ps
FindsChecked layout (Ok found) (Err f) = ⊥
FindsChecked layout (Err f) answer = answer ≡ Err f
