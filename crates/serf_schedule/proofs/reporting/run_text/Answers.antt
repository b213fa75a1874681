use Rattle.serf_schedule.proofs.Names.{ap, rules, sym, ◌∙◌, Parsed, parsed_of, schedule_of}
use Rattle.serf_schedule.proofs.reporting.run_text.Goals as goal

pub returns-in-Ok-clause-text : goal.returns-in-Ok-clause-text
returns-in-Ok-clause-text g c options starts =
    let read = c.in_ok-schedule.ensures in
    let p : Parsed = parsed_of c.in_ok-schedule.schedule in
    record {
      schedule = p;
      reads = ap schedule_of (sym c.deref.ensures.value) ∙ read.exact;
      teller = c.report_schedule.new.reporter.reporter;
      tells = c.in-Ok.ensures options (starts p.configs);
      counted = search rules;
    }
