use Rattle.serf_judge.proofs.Names.{List, ap, subst, sym, take, take_all, ℕ, ◌∙◌, contains, Identity, event_identity, is_same, key_eq, key_identity, HasHanded, EventEntry}
use Rattle.serf_judge.proofs.KeyLaws.{same-decides}
use Rattle.serf_judge.proofs.RecordedLaws.{key-more, turned}
use Rattle.serf_judge.proofs.TallyLaws.{take-next}
use Rattle.serf_judge.proofs.missed.handed_to.Goals as goal

pub loop-entry-preserved : goal.loop-entry-preserved
loop-entry-preserved c =
    let entry = c.entry-item.result in
    let key = c.handed.result.key in
    subst (λ (events : List EventEntry). HasHanded events c.insert.new.self) (sym (take-next c.args.entries.now c.loop-entry.entry-index entry c.loop-entry-test.true c.entry-item.is))
    (key-more (λ q e. is_same (key_identity q) (event_identity e)) (take c.loop-entry.entry-index c.args.entries.now) entry (key_eq key) (λ q. contains key_eq c.loop-entry.handed q) (λ q. contains key_eq c.insert.new.self q)
    (λ q. ap (λ (s : ℕ × Identity). is_same (key_identity q) s.1) (sym c.handed.ensures) ∙ turned is_same same-decides (key_identity q) (key_identity key)) c.loop-entry.invariant (λ q. c.in_ok-insert.ensures.updates.0 q))

pub returns : goal.returns
returns c = subst (λ (events : List EventEntry). HasHanded events c.loop-entry.handed) (take_all c.loop-entry.entry-index c.args.entries.now c.loop-entry-test.false) c.loop-entry.invariant
