use Rattle.serf_conform.proofs.Names.{Option, Some, arith, subst, sym, true, ◌≡◌, common_steps, is_serf, IsTaken, agrees, then_dumped, TurnOutcome, StateDump}
use Rattle.serf_conform.proofs.SessionLemmas.{then_on}
use Rattle.serf_conform.proofs.asking.look_if_due.Goals as goal

pub returns : goal.returns
returns g c = λ s held taken.
    let on : agrees c.args.outcome ≡ true = grind (arith, common_steps) in
    subst (λ (d : Option StateDump). IsTaken (then_dumped (is_serf c.args.rules) d s) c.with_dumped.result (g.R.Read.remaining c.call_look.new.pipe.reader) held (g.W.Write.contents c.call_look.new.pipe.writer)) (sym c.in-Some.is)
    (subst (λ (a : TurnOutcome). IsTaken (then_dumped (is_serf c.args.rules) (Some c.in-Some.dump) s) a (g.R.Read.remaining c.call_look.new.pipe.reader) held (g.W.Write.contents c.call_look.new.pipe.writer)) (sym c.with_dumped.ensures)
    (then_on (is_serf c.args.rules) c.in-Some.dump s c.args.outcome c.in_ok-dumped.dumped _ _ held _ _ taken on c.in_ok-dumped.ensures.written c.in_ok-dumped.ensures.outcome))
