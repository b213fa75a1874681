-- The fields that a walk over a map's pairs has found.
use Rattle.std.specs.Prelude.{◌≡◌, ℕ, List, length, map, Option, Some, None, get_or}
use Rattle.std.specs.Option.{option_map}
use Rattle.serf_pack.specs.Tree.{Tree}
use Rattle.serf_pack.specs.View.{tree_of}
use Rattle.serf_wire.specs.declared.found.FoundFields.{FoundFields}
use Rattle.serf_wire.specs.declared.found.TheConstants.{MAX_FIELDS}
use Rattle.serf_wire.specs.declared.layout.Layout.{Layout}
use Rattle.serf_wire.specs.declared.layout.Field.{Field}
use Rattle.serf_wire.specs.Layout.{fields_of, field_in}
use Rattle.serf_wire.specs.Fields.{values_of}
use Rattle.serf_wire.specs.Errors.{first}

-- the value at each place, if one was found
abbrev pub trees_found : FoundFields → List (Option Tree)
trees_found found = map (option_map tree_of) found.values

-- the value that was found at this place
abbrev pub found_at : FoundFields → ℕ → Option Tree
found_at found place = get_or (trees_found found) place None

-- at each field's place is the first value with its name in these pairs
pub record Finds (layout : Layout) (found : FoundFields) (ps : List (Tree × Tree)) : Type 0 where
  pub size : length found.values ≡ MAX_FIELDS
  pub values : (name : List ℕ) (f : Field) → field_in 0 name (fields_of layout) ≡ Some f → found_at found f.place ≡ first (values_of name ps)
