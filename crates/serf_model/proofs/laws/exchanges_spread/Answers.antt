use Rattle.serf_model.proofs.Names.{run_of}
use Rattle.serf_model.proofs.ExchangeLaws.{exchange-hands, spreads-on_ways}
use Rattle.serf_model.proofs.SentLaws.{sending-run}
use Rattle.serf_model.proofs.TakenLaws.{taking-run}
use Rattle.serf_model.proofs.laws.exchanges_spread.Goals as goal

pub returns-clause-hands : goal.returns-clause-hands
returns-clause-hands c = λ configs actions sized ok told.
    exchange-hands configs (run_of configs actions).turns ((sending-run c.laws_below.ensures) configs actions ok told sized).sent ((taking-run c.laws_below.ensures) configs actions ok told).merged

pub returns-clause-spreads : goal.returns-clause-spreads
returns-clause-spreads c = λ configs actions sized ok told.
    spreads-on_ways configs (run_of configs actions).turns ((sending-run c.laws_below.ensures) configs actions ok told sized).sent ((taking-run c.laws_below.ensures) configs actions ok told).merged
