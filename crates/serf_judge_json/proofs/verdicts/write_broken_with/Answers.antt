use Rattle.serf_json.specs.Object.{members_text}
use Rattle.serf_judge_json.specs.Verdicts.{broken_with_text}
use Rattle.serf_judge_json.proofs.verdicts.write_broken_with.Goals as goal

pub returns : goal.returns
unfolding members_text broken_with_text
returns c =
    rw (
      c.date_member.ensures,
      c.date_member-2.ensures,
      c.place-place.ensures.log,
      c.place-place.ensures.line,
      c.place-place.ensures.date,
      c.place-before.ensures.log,
      c.place-before.ensures.line,
      c.place-before.ensures.date,
    )
    at c.write_about.ensures
