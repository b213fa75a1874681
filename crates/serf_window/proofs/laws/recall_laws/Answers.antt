use Rattle.serf_window.proofs.Names.{ℕ, EventBody}
use Rattle.serf_window.proofs.RecallLaws as recalls
use Rattle.serf_window.proofs.laws.recall_laws.Goals as goal

pub returns : goal.returns
returns c = record { events = recalls.recall_laws EventBody; queries = recalls.recall_laws ℕ }
