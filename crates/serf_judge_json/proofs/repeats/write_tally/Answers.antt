use Rattle.serf_json.specs.Object.{members_text}
use Rattle.serf_judge_json.specs.Repeats.{tally_text}
use Rattle.serf_judge_json.proofs.repeats.write_tally.Goals as goal

pub returns : goal.returns
unfolding members_text tally_text
returns c =
    rw (
      c.date_member.ensures,
      c.date_member-2.ensures,
      c.place-first.ensures.log,
      c.place-first.ensures.line,
      c.place-first.ensures.date,
      c.place-last.ensures.log,
      c.place-last.ensures.line,
      c.place-last.ensures.date,
      c.word.ensures,
    )
    at c.write_joined.ensures
