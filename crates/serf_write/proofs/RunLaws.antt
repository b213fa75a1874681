-- How many packets were sent.
use Rattle.serf_write.proofs.Names.{List, [], ap, length, refl, sym, ◌≡◌, Config, Action, WorldState, HasWorld, sent_count}

pub sent_is : (configs : List Config) (actions : List Action) (world : WorldState) → HasWorld configs actions world
    → length world.sent ≡ sent_count configs actions
unfolding sent_count
sent_is configs actions world run = ap length (sym run.1.view.sent)

pub none_sent : (configs : List Config) (actions : List Action) → actions ≡ [] → 0 ≡ sent_count configs actions
unfolding sent_count
none_sent configs actions none = rw none refl
