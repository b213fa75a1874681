use Rattle.serf_schedule.proofs.Names.{Ok, arith, ◌≡◌, common_steps, parsed_of, schedule_of}
use Rattle.serf_schedule.proofs.SizedLaws.{sized-schedule}
use Rattle.serf_schedule.proofs.parse.parse_schedule.Goals as goal

pub returns-in-None-clause-sizes : goal.returns-in-None-clause-sizes
returns-in-None-clause-sizes c =
    let read : schedule_of c.args.text.now ≡ Ok (parsed_of c.read_schedule_line.new.schedule) = grind (arith, common_steps) in
    sized-schedule c.args.text.now (parsed_of c.read_schedule_line.new.schedule) read
