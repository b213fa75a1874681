-- What is tallied for each node that was handed something twice. A line is its number, with what it hands to which
-- node.
use Rattle.std.specs.Prelude.{ℕ, ◌^◌, ◌-◌, min, max, List, map, filter, length}
use Rattle.std.specs.List.{fold}
use Rattle.std.specs.Str.{bytes_eq}
use Rattle.serf_judge.specs.declared.tally.NodeTally.{NodeTally}
use Rattle.serf_judge.specs.declared.tally.Tally.{Tally}
use Rattle.serf_judge.specs.Again.{firsts_of, repeats_of}
use Rattle.serf_judge.specs.Identity.{Identity, is_same}

-- the lines that hand a node what an earlier line handed to it
abbrev pub repeats_among : List (ℕ × Identity) → List (ℕ × Identity)
repeats_among lines = repeats_of (λ x y. is_same x.1 y.1) lines

-- the lines of a node
abbrev pub lines_to : List ℕ → List (ℕ × Identity) → List (ℕ × Identity)
lines_to node lines = filter (λ l. bytes_eq node l.1.node) lines

-- the minimum and the maximum of numbers below 2^64
abbrev pub lowest : List ℕ → ℕ
lowest numbers = fold min (2 ^ 64 - 1) numbers

abbrev pub largest : List ℕ → ℕ
largest numbers = fold max 0 numbers

-- how many lines there are, which stops at 2^64 - 1, and their minimum and maximum time and number
abbrev pub tally_of : List (ℕ × Identity) → Tally
tally_of own = record {
  count = min (length own) (2 ^ 64 - 1);
  min_time = lowest (map (λ l. l.1.time) own);
  largest_time = largest (map (λ l. l.1.time) own);
  first_line = lowest (map (λ l. l.0) own);
  last_line = largest (map (λ l. l.0) own);
}

-- each node of some lines once, in the order in which the nodes first appear
abbrev pub nodes_of : List (ℕ × Identity) → List (List ℕ)
nodes_of lines = firsts_of bytes_eq (map (λ l. l.1.node) lines)

-- and with it the tally of its lines
abbrev pub tallies_of : List (ℕ × Identity) → List (List ℕ × Tally)
tallies_of lines = map (λ node. (node, tally_of (lines_to node lines))) (nodes_of lines)

abbrev pub told_of : NodeTally → List ℕ × Tally
told_of t = (t.node.now, t.tally)
