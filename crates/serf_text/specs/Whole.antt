-- Why a whole text of lines was not processed.
use Rattle.std.specs.Prelude.{◌≡◌, ℕ, ◌+◌, ◌++◌, List, ◌∷◌, length}
use Rattle.serf_text.specs.Streams.{IsRefused}
use Rattle.serf_text.specs.declared.stream_error.StreamLineError.{StreamLineError}

-- the line with this number is the first that is refused, unless memory ran out
abbrev pub IsRefusedAt : {F : Type 0} → (List (List ℕ) → List ℕ → F → Type 0) → List (List ℕ) → ℕ → StreamLineError F → Type 0
IsRefusedAt refuses all number error =
    (lines : List (List ℕ)) × (line : List ℕ) × (more : List (List ℕ)) × (all ≡ lines ++ line ∷ more) × (number ≡ length lines + 1) × IsRefused refuses lines line error
