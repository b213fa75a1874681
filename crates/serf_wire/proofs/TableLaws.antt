-- Laws of the tables of fields.
use Rattle.std.proofs.Common.{Bool, List, None, Option, Some, cond, drop, false, length, slice_index_or, sym, true, ap, ℕ, ◌+◌, ◌<◌, ◌≤◌, ◌∙◌, ◌≡◌}
use Rattle.std.proofs.lemmas.List.{at_drop_more}
use Rattle.std.proofs.Math.ListN.{drop_of_length-le}
use Rattle.std.specs.Str.{bytes_eq}
use Rattle.serf_wire.specs.declared.layout.Field.{Field}
use Rattle.serf_wire.specs.declared.layout.NamedField.{NamedField}
use Rattle.serf_wire.specs.Layout.{field_at, field_in, rows_of}

-- no field before this place has the key
abbrev pub NoneBefore : List ℕ → List NamedField → ℕ → Type 0
NoneBefore name fields place = field_in 0 name (rows_of fields) ≡ field_in place name (rows_of (drop place fields))

module _ (name : List ℕ) (fields : List NamedField) (place : ℕ) (d : NamedField) (before : NoneBefore name fields place) (within : place < length fields) (b : Bool) (same : b ≡ bytes_eq name (slice_index_or fields place d).key.now) where
  abbrev by_key : Bool → Option Field
  by_key b = cond b (Some (field_at place (slice_index_or fields place d).kind)) (field_in (place + 1) name (rows_of (drop (place + 1) fields)))

  here_or_after : field_in 0 name (rows_of fields) ≡ by_key b
  here_or_after = before ∙ at_drop_more (λ rest. field_in place name (rows_of rest)) fields place d within ∙ ap by_key (sym same)

  pub field_here : b ≡ true → Some (field_at place (slice_index_or fields place d).kind) ≡ field_in 0 name (rows_of fields)
  field_here e = sym (here_or_after ∙ ap by_key e)

  pub none_here : b ≡ false → NoneBefore name fields (place + 1)
  none_here e = here_or_after ∙ ap by_key e

pub none_there : (name : List ℕ) (fields : List NamedField) (place : ℕ) → NoneBefore name fields place → length fields ≤ place → None ≡ field_in 0 name (rows_of fields)
none_there name fields place before all = sym (before ∙ ap (λ rest. field_in place name (rows_of rest)) (drop_of_length-le fields all))
