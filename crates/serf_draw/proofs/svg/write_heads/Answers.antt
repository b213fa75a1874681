use Rattle.serf_draw.proofs.Names.{arith, ℕ, ◌*◌, common_steps, head_text, line_above}
use Rattle.serf_draw.proofs.HeadLemmas.{heads_more}
use Rattle.serf_draw.proofs.svg.write_heads.Goals as goal

pub loop-part-preserved : goal.loop-part-preserved
loop-part-preserved c =
    let more = heads_more (λ (k : ℕ). line_above (40 * k)) (head_text c.args.outside c.args.lanes.now) c.args.out.now.items c.loop-part.part in
    first_of (cc, grind (arith, common_steps, more))
