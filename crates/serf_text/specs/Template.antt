-- Texts with blanks, and what fills them.
use Rattle.std.specs.Prelude.{ℕ, ◌==◌, ◌++◌, if◌then◌else◌, List, [], ◌∷◌, decimal}
use Rattle.serf_text.specs.declared.part.Part.{Part}
use Rattle.serf_text.specs.declared.part.Part.TheVariants as parts
use Rattle.serf_text.specs.Quoted.{masked, quoted, whole_quoted}
use Rattle.serf_text.specs.TextParts.{hex_text}

-- a text in which each `~` is a blank, with its blanks filled by the texts of the parts, one after another; parts that
-- are left over are dropped, and blanks that are left over stay
abbrev pub filled : {P : Type 0} → (P → List ℕ) → List ℕ → List P → List ℕ
filled words text [] = text
filled words [] (part ∷ parts) = []
filled words (b ∷ bs) (part ∷ parts) = if b == 126 then words part ++ filled words bs parts else b ∷ filled words bs (part ∷ parts)

-- the text of a part
abbrev pub part_text : Part → List ℕ
part_text (parts.Text text) = text.now
part_text (parts.Number n) = decimal n
part_text (parts.Hex bytes) = hex_text bytes.now
part_text (parts.Quoted text) = quoted text.now
part_text (parts.WholeQuoted text) = whole_quoted text.now
part_text (parts.Masked text) = masked text.now
