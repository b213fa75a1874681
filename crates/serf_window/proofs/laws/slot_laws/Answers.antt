use Rattle.serf_window.proofs.Names.{ℕ, EventBody}
use Rattle.serf_window.proofs.WindowLaws as laws
use Rattle.serf_window.proofs.laws.slot_laws.Goals as goal

pub returns : goal.returns
returns c = record { events = laws.slot_laws EventBody; queries = laws.slot_laws ℕ }
