-- The place in an agent's output at which a reply ends.
use Rattle.std.specs.Prelude.{◌≡◌, ℕ, ◌==◌, ◌&&◌, ◌||◌, ◌++◌, Bool, true, false, if◌then◌else◌, List, [], ◌∷◌, Option, Some, None}

-- the maximum number of bytes of all lines of a reply together
abbrev pub longest_reply : ℕ
longest_reply = 67108864

-- the bytes of a reply's lines, and what follows the empty line after them
pub record Cut : Type 0 where
  pub text : List ℕ
  pub rest : List ℕ

-- The same, after these bytes of the reply were read. The truth values say whether a line begins here, and whether the
-- line so far is only a carriage return.
abbrev pub cut_from : Bool → Bool → List ℕ → List ℕ → Option Cut
cut_from begins is_return text [] = None
cut_from begins is_return text (b ∷ bs) =
    if (begins || is_return) && (b == 10) then Some (record { text = text; rest = bs })
    else cut_from (b == 10) (begins && (b == 13)) (text ++ b ∷ []) bs

-- The first reply, which ends at an empty line or at a line that has only a carriage return. This carriage return stays
-- in the text. The result is None if the bytes end before that.
abbrev pub first_reply : List ℕ → Option Cut
first_reply input = cut_from true false [] input

-- A reader returned the first reply of its known bytes, and what follows the reply is left to read.
abbrev pub ReadsReply : Option (List ℕ) → Option (List ℕ) → List ℕ → Type 0
ReadsReply None new text = Unit {0}
ReadsReply (Some input) None text = ⊥
ReadsReply (Some input) (Some rest) text = first_reply input ≡ Some (record { text = text; rest = rest })

-- A reader returned the first reply of its known bytes, or they don't have a complete reply.
abbrev pub Hears : Option Cut → Option (List ℕ) → Option (List ℕ) → Type 0
Hears split None new = split ≡ None
Hears split (Some text) None = ⊥
Hears split (Some text) (Some rest) = split ≡ Some (record { text = text; rest = rest })

-- After this text of a reply, what is left of the known bytes is cut at the same place as all known bytes are.
abbrev pub IsCutAlike : Option (List ℕ) → Option (List ℕ) → Bool → Bool → List ℕ → Type 0
IsCutAlike None now begins is_return text = Unit {0}
IsCutAlike (Some input) None begins is_return text = ⊥
IsCutAlike (Some input) (Some rest) begins is_return text = cut_from begins is_return text rest ≡ first_reply input
