use Rattle.serf_json.specs.Object.{members_text}
use Rattle.serf_judge_json.specs.Repeats.{repeat_text}
use Rattle.serf_judge_json.proofs.repeats.write_repeat.Goals as goal

pub returns : goal.returns
unfolding members_text repeat_text
returns c =
    rw (
      c.date_member.ensures,
      c.date_member-2.ensures,
      c.place-place.ensures.log,
      c.place-place.ensures.line,
      c.place-place.ensures.date,
      c.place-early.ensures.log,
      c.place-early.ensures.line,
      c.place-early.ensures.date,
      c.word.ensures,
    )
    at c.write_about.ensures
