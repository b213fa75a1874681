use Rattle.serf_conform.proofs.Names.{length, ◌≡◌, Consumes, IsCutAlike}
use Rattle.serf_conform.proofs.input.read_reply_text.Given as goal

-- After the text so far, what is left is cut at the same place as the whole. Each turn has read one byte.
abbrev pub invariant-loop-turn : goal.invariant-loop-turn
invariant-loop-turn g l = IsCutAlike (g.R.Read.remaining l.fn.reader) (g.R.Read.remaining l.reader) l.begins l.is_return l.text.items
    × (length l.text.items ≡ l._turn)
    × Consumes (g.R.Read.remaining l.fn.reader) (g.R.Read.remaining l.reader) l.text.items
