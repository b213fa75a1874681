use Rattle.serf_explain.proofs.Names.{OnOk, Option, subst, sym, ℕ, ◌++◌, ◌≡◌, on_ok_weaker, flat_map, because_line, raised_reasons}
use Rattle.serf_explain.proofs.ReasonLaws.{raised_is}
use Rattle.serf_explain.proofs.reasons.write_raised.Goals as goal

pub returns : goal.returns
returns c =
    subst (λ (o : Option ℕ). OnOk c.write_because.result (c.write_because.new.out.items ≡ c.args.out.now.items ++ flat_map (because_line c.args.number) (raised_reasons o))) (sym c.in-Some.is)
    (on_ok_weaker c.write_because.result
    (λ is. raised_is c.args.number c.in-Some.lowest c.in_ok-reason.reason.items c.say.new.out.items c.deref.result.now c.args.out.now.items c.write_because.new.out.items c.in_ok-reason.ensures.items c.in_ok-say.ensures c.deref.ensures.value is)
    c.write_because.ensures)
