-- The text of a random schedule, whose first line is a comment, is read back.
use Rattle.serf_random.proofs.Names.{Bool, List, Ok, [], arith, false, length, length-append, refl, true, ℕ, ◌++◌, ◌+◌, ◌<◌, ◌^◌, ◌∷◌, ◌≡◌, ◌≤◌, length-decimal-le, flat_map-append, AllByRecursion, codes, decimal, CommentsAreSkipped, IsWord, NumbersAreWords, Parsed, schedule_of, spaced, comment_words, rules_words, spread_of, settings_words, comment_text, seed_words, size_words, spread_words, HasNumbers, IsShort, is_rounds, kind_name, RandomOptions, Kind}
use Rattle.serf_random.specs.declared.kind.Kind.TheVariants as kinds

-- The words of a line, which have at most this many bytes, with a space before each.
record AreWords (maximum : ℕ) (words : List (List ℕ)) : Type 0 where
  plain : AllByRecursion IsWord words
  few : length (spaced words) ≤ maximum

both-plain : (xs ys : List (List ℕ)) → AllByRecursion IsWord xs → AllByRecursion IsWord ys → AllByRecursion IsWord (xs ++ ys)
both-plain [] ys p q = q
both-plain (x ∷ xs) ys p q = (p.0, both-plain xs ys p.1 q)

both : (m n : ℕ) (xs ys : List (List ℕ)) → AreWords m xs → AreWords n ys → AreWords (m + n) (xs ++ ys)
both m n xs ys p q =
    let spaces = length-append (spaced xs) (spaced ys) in
    record {
      plain = both-plain xs ys p.plain q.plain;
      few = rw (flat_map-append (λ (word : List ℕ). codes " " ++ word) xs ys) (omega (arith, spaces, p.few, q.few));
    }

-- a word, and its number
pair : NumbersAreWords → (word : List ℕ) (n : ℕ) → IsWord word → length word ≤ 9 → n < 2 ^ 64 → AreWords 31 (word ∷ decimal n ∷ [])
pair number-word word n is few below =
    let digits = length-decimal-le 20 n (omega arith) (omega (arith, below)) below in
    record { plain = (is, (number-word n below, tt)); few = simp length-append (omega (arith, few, digits)) }

kind-word : (k : Kind) → IsWord (kind_name k) × (length (kind_name k) ≤ 20)
kind-word kinds.Mixed = (record { some = omega arith; plain = refl }, omega arith)
kind-word kinds.Tiny = (record { some = omega arith; plain = refl }, omega arith)
kind-word kinds.Merges = (record { some = omega arith; plain = refl }, omega arith)
kind-word kinds.Restarts = (record { some = omega arith; plain = refl }, omega arith)
kind-word kinds.Devices = (record { some = omega arith; plain = refl }, omega arith)
kind-word kinds.Injections = (record { some = omega arith; plain = refl }, omega arith)
kind-word kinds.Queries = (record { some = omega arith; plain = refl }, omega arith)
kind-word kinds.Limits = (record { some = omega arith; plain = refl }, omega arith)
kind-word kinds.Exhaustion = (record { some = omega arith; plain = refl }, omega arith)
kind-word kinds.PerTime = (record { some = omega arith; plain = refl }, omega arith)
kind-word kinds.Compactions = (record { some = omega arith; plain = refl }, omega arith)
kind-word kinds.Gossip = (record { some = omega arith; plain = refl }, omega arith)
kind-word kinds.Spellings = (record { some = omega arith; plain = refl }, omega arith)
kind-word kinds.Kept = (record { some = omega arith; plain = refl }, omega arith)
kind-word kinds.Rounds = (record { some = omega arith; plain = refl }, omega arith)

-- The parts of the comment

seed-part : NumbersAreWords → (ask : RandomOptions) → HasNumbers ask → AreWords 60 (seed_words ask)
unfolding seed_words
seed-part number-word ask h =
    let kind = kind-word ask.kind in
    both 31 29 _ (codes "--kind" ∷ kind_name ask.kind ∷ [])
    (pair number-word (codes "random") ask.seed (record { some = omega arith; plain = refl }) (omega arith) h.0)
    (record { plain = (record { some = omega arith; plain = refl }, (kind.0, tt)); few = simp length-append (omega (arith, kind.1)) })

size-part : NumbersAreWords → (ask : RandomOptions) → HasNumbers ask → AreWords 62 (size_words ask)
unfolding size_words
size-part number-word ask h =
    both 31 31 _ _
    (pair number-word (codes "--agents") ask.agents (record { some = omega arith; plain = refl }) (omega arith) h.1)
    (pair number-word (codes "--actions") ask.actions (record { some = omega arith; plain = refl }) (omega arith) h.2)

spread-by : NumbersAreWords → (is : Bool) (ask : RandomOptions) → HasNumbers ask → AreWords 93 (spread_of is ask)
spread-by number-word true ask h =
    both 31 62 _ _
    (pair number-word (codes "--fanout") ask.fanout (record { some = omega arith; plain = refl }) (omega arith) h.3)
    (
    both 31 31 _ _
    (pair number-word (codes "--loss") ask.loss (record { some = omega arith; plain = refl }) (omega arith) h.4)
    (pair number-word (codes "--rounds") ask.rounds (record { some = omega arith; plain = refl }) (omega arith) h.5)
    )
spread-by number-word false ask h = record { plain = tt; few = omega arith }

spread-part : NumbersAreWords → (ask : RandomOptions) → HasNumbers ask → AreWords 93 (spread_words ask)
unfolding spread_words
spread-part number-word ask h = spread-by number-word (is_rounds ask.kind) ask h

rules-part : (is_common : Bool) → AreWords 13 (rules_words is_common)
rules-part true = record {
  plain = (record { some = omega arith; plain = refl }, (record { some = omega arith; plain = refl }, tt));
  few = omega arith;
}
rules-part false = record { plain = tt; few = omega arith }

version-part : AreWords 10 (codes "version" ∷ codes "5" ∷ [])
version-part = record {
  plain = (record { some = omega arith; plain = refl }, (record { some = omega arith; plain = refl }, tt));
  few = omega arith;
}

-- The comment

asked-part : NumbersAreWords → (ask : RandomOptions) → HasNumbers ask → AreWords 215 (settings_words ask)
unfolding settings_words
asked-part number-word ask h =
    both 122 93 _ _ (both 60 62 _ _ (seed-part number-word ask h) (size-part number-word ask h)) (spread-part number-word ask h)

comment-parts : NumbersAreWords → (is_common : Bool) (ask : RandomOptions) → HasNumbers ask → AreWords 238 (comment_words is_common ask)
comment-parts number-word is_common ask h =
    both 228 10 _ _ (both 215 13 _ _ (asked-part number-word ask h) (rules-part is_common)) version-part

pub comment-short : NumbersAreWords → (is_common : Bool) (ask : RandomOptions) → HasNumbers ask → IsShort (comment_text is_common ask)
unfolding comment_text
comment-short number-word is_common ask h =
    let few = (comment-parts number-word is_common ask h).few in
    omega (arith, few, length-append (spaced (comment_words is_common ask)) (codes "\n"))

-- A text after the comment means what it meant without the comment.
pub following-comment : CommentsAreSkipped → NumbersAreWords → (is_common : Bool) (ask : RandomOptions) (text : List ℕ) (p : Parsed) → HasNumbers ask
    → schedule_of text ≡ Ok p → schedule_of (comment_text is_common ask ++ text) ≡ Ok p
unfolding comment_text
following-comment skipped number-word is_common ask text p h back =
    let plain = (comment-parts number-word is_common ask h).plain in
    skipped [] (comment_words is_common ask) text p (record { some = omega arith; plain = refl }, plain) back
