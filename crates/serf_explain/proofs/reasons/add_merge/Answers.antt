use Rattle.serf_explain.proofs.Names.{OnOk, [], ap, length, refl, subst, sym, ℕ, ◌++◌, ◌∙◌, ◌∷◌, ◌≡◌, decoded, Known, records_in, AddsMerge, IsMark, History, Mark}
use Rattle.serf_explain.proofs.reasons.add_merge.Goals as goal

pub returns : goal.returns
returns c = λ before n i earlier sound is mark records count many.
    let made = c.in_ok-merging.ensures in
    let k : Known = record { agent = c.args.agent_number; before = before ++ n ∷ []; lines = earlier; entered = length i.events.history } in
    subst (λ (x : ℕ). OnOk c.add_packet.result (AddsMerge k x i c.args.is_join (decoded c.args.packet.now) c.add_packet.new.lines.raised c.args.lines.now.text.items c.add_packet.new.lines.text.items)) made.0
    (c.add_packet.ensures k i (record {
      sound = sound;
      agent_is = made.2 ∙ is;
      agent = made.1;
      entered = refl;
      records = ap (λ (h : History). records_in h.deliveries.outs.items) made.3 ∙ records;
      count = made.0 ∙ many;
      earlier = before;
      lowest = n;
      before_are = refl;
      mark = subst (λ (m : Mark). IsMark before n m) (sym made.4) mark;
      number = made.0 ∙ count;
    }))
