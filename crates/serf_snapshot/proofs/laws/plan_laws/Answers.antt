use Rattle.serf_snapshot.proofs.Names.{subst, sym, MayReplace, MayWrite}
use Rattle.serf_snapshot.proofs.PlanLaws.{will_write-only, will_write-may, will_replace-only, will_replace-may, observable-opened, observable-noted, observable-planned, observable-compacted}
use Rattle.serf_snapshot.proofs.laws.plan_laws.Goals as goal

pub returns-clause-write : goal.returns-clause-write
returns-clause-write c = λ s line w some. (will_write-only s line w some, λ is. subst (MayWrite s line) (sym is) (will_write-may s line some))

pub returns-clause-replace : goal.returns-clause-replace
returns-clause-replace c = λ s w some. (will_replace-only s w some, λ is. subst (MayReplace s) (sym is) (will_replace-may s some))

pub returns-clause-opened_observable : goal.returns-clause-opened_observable
returns-clause-opened_observable c = observable-opened

pub returns-clause-appended_observable : goal.returns-clause-appended_observable
returns-clause-appended_observable c = observable-noted

pub returns-clause-planned_observable : goal.returns-clause-planned_observable
returns-clause-planned_observable c = observable-planned

pub returns-clause-compacted_observable : goal.returns-clause-compacted_observable
returns-clause-compacted_observable c = observable-compacted
