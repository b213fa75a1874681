use Rattle.serf_text.proofs.Names.{List, arith, drop, length, sym, take, ℕ, ◌++◌, ◌+◌, ◌-◌, ◌≡◌, ◌≤◌, Appends-trans, take-add, common_steps}
use Rattle.serf_text.proofs.put.write_output.Goals as goal

-- a prefix of a text, followed by a prefix of the rest
front_grows : (text : List ℕ) (at n : ℕ) → at ≤ length text
    → take at text ++ take n (take (length text - at) (drop at text)) ≡ take (at + n) text
front_grows text at n h =
    let whole : take (length text - at) (drop at text) ≡ drop at text = grind (arith, common_steps) in
    rw whole (sym (take-add at n text))

pub loop-at-preserved : goal.loop-at-preserved
loop-at-preserved g c =
    let written = Appends-trans _ _ _ _ _ c.loop-at.invariant.1 c.in-Ok.ensures.bytes in
    (grind (arith, common_steps, c.in-Ok.ensures.bound), rw (front_grows c.args.text.now c.loop-at.at c.in-Ok.n c.loop-at.invariant.0) at written)
