-- Pairs of texts that differ in more than other lines.
use Rattle.serf_snapshot.proofs.Names.{List, [], codes, refl, ℕ, ◌++◌, ◌∷◌, ◌≡◌}
use Rattle.serf_snapshot.specs.OtherLines.{DiffersInOtherLines, own_lines, torn_part}
use Rattle.serf_snapshot.proofs.OtherLineLaws.{differs-refused}

abbrev line : List ℕ → List ℕ
line text = text ++ 10 ∷ []

-- one text lacks a clock line
pub lost_clock_refused : DiffersInOtherLines (line (codes "clock: 7")) (line (codes "clock: 7") ++ line (codes "event-clock: 5")) → ⊥
lost_clock_refused d = differs-refused (line (codes "clock: 7")) (codes "event-clock: 5") [] refl refl refl d

-- one text lacks the line of a query
pub lost_query_refused : DiffersInOtherLines [] (line (codes "#query 5 7")) → ⊥
lost_query_refused d = differs-refused [] (codes "#query 5 7") [] refl refl refl d

-- the same clock lines are in another order
pub other_order_refused : DiffersInOtherLines (line (codes "clock: 7") ++ line (codes "event-clock: 5")) (line (codes "event-clock: 5") ++ line (codes "clock: 7")) → ⊥
other_order_refused d = let same : codes "clock: 7" ∷ codes "event-clock: 5" ∷ [] ≡ codes "event-clock: 5" ∷ codes "clock: 7" ∷ [] = d.lines in cc

-- a member's line has no newline, so what is written next becomes a part of it
pub torn_member_refused : DiffersInOtherLines [] (codes "alive: a 10.0.0.1:7946") → ⊥
torn_member_refused d = let same : [] ≡ codes "alive: a 10.0.0.1:7946" = d.torn in cc

-- a member's line is inside a torn clock line, and not at the beginning of a line
pub inserted_inside_refused : DiffersInOtherLines (codes "event-clock: 5") (codes "event-" ++ line (codes "alive: a 10.0.0.1:7946") ++ codes "clock: 5") → ⊥
inserted_inside_refused d = let same : codes "event-clock: 5" ≡ codes "clock: 5" = d.torn in cc
