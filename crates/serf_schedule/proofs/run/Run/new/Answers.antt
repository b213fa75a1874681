use Rattle.serf_schedule.proofs.Names.{[], refl, rules}
use Rattle.serf_schedule.proofs.run.Run.new.Goals as goal

pub returns : goal.returns
returns g c = λ options told. record { said = record { configs = []; actions = [] }; reads = refl; settings = search rules; stage = (search rules, refl, told); tells = told [] }
