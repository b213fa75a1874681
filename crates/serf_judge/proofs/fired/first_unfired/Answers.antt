use Rattle.serf_judge.proofs.Names.{List, subst, sym, take, take_all, AreRecorded, EventEntry}
use Rattle.serf_judge.proofs.TallyLaws.{take-next}
use Rattle.serf_judge.proofs.fired.first_unfired.Goals as goal

pub loop-entry-preserved : goal.loop-entry-preserved
loop-entry-preserved c =
    let next = take-next c.args.fired.now c.loop-entry.entry-index c.entry-item.result c.loop-entry-test.true c.entry-item.is in
    subst (λ (fs : List EventEntry). AreRecorded c.args.starts.now fs c.record_entry.new.table) (sym next) (c.in_ok-record_entry.ensures (take c.loop-entry.entry-index c.args.fired.now) c.loop-entry.invariant)

pub returns : goal.returns
returns c =
    c.unfired_by.ensures c.args.fired.now
    (subst (λ (fs : List EventEntry). AreRecorded c.args.starts.now fs c.loop-entry.table) (take_all c.loop-entry.entry-index c.args.fired.now c.loop-entry-test.false) c.loop-entry.invariant)
