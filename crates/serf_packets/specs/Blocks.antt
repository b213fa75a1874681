-- Blocks: the texts between empty lines.
use Rattle.std.specs.Prelude.{ℕ, ◌==◌, ◌||◌, ◌++◌, Bool, true, false, if◌then◌else◌, List, [], length, codes, Result, Ok, Err}
use Rattle.std.specs.List.{fold}
use Rattle.serf_packets.specs.declared.blocks.NeverBad.{NeverBad}
use Rattle.serf_packets.specs.Encoded.{answer_text, encoded}

-- the answer to a block depends only on this block; a block without lines has no answer
abbrev pub block_answer : List ℕ → List ℕ
block_answer block = if length block == 0 then [] else answer_text (encoded block)

abbrev pub is_error : Result (List ℕ) ℕ → Bool
is_error (Ok packet) = false
is_error (Err line) = true

abbrev pub refuses_block : List ℕ → Bool
refuses_block block = if length block == 0 then false else is_error (encoded block)

-- the block since the last empty line, and whether an earlier block was refused
pub record Reading : Type 0 where
  pub block : List ℕ
  pub is_refused : Bool

abbrev pub after_line : Reading → List ℕ → Reading
after_line r line =
    if length line == 0 then record { block = []; is_refused = r.is_refused || refuses_block r.block }
    else record { block = r.block ++ line ++ codes "\n"; is_refused = r.is_refused }

abbrev pub reading_of : List (List ℕ) → Reading
reading_of lines = fold after_line (record { block = []; is_refused = false }) lines

-- the answer to an empty line is the answer to the block before it, and any other line has no answer
abbrev pub line_answer : List (List ℕ) → List ℕ → Result (List ℕ) NeverBad
line_answer before line = if length line == 0 then Ok (block_answer (reading_of before).block) else Ok []

-- what the code keeps about the lines that were read
abbrev pub reading_held : List ℕ → Bool → Reading
reading_held block is_refused = record { block = block; is_refused = is_refused }
