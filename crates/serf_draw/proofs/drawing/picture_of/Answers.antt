use Rattle.serf_draw.proofs.Names.{List, ap, ◌∙◌, Config, lost_in, shown_lanes, Packet}
use Rattle.serf_draw.proofs.drawing.picture_of.Goals as goal

pub returns : goal.returns
returns g c =
    let options = c.args.options.now in
    let drawn = (c.in_ok-report_schedule.ensures options (c.new-reporter.ensures c.args.schedule.agents)).1 in
    record {
      lanes = c.in_ok-lanes.ensures ∙ ap (λ (configs : List Config). shown_lanes options configs) c.as_slice.ensures.agents;
      rows = drawn.rows_are;
      lost = c.in_ok-lost.ensures ∙ ap (λ (packets : List Packet). lost_in packets) (c.as_slice-2.ensures.value ∙ drawn.packets_are);
    }
