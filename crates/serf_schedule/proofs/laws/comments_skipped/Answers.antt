use Rattle.serf_schedule.proofs.CommentsSkipped.{comments-skipped}
use Rattle.serf_schedule.proofs.PlainWords.{number-word}
use Rattle.serf_schedule.proofs.laws.comments_skipped.Goals as goal

pub returns-clause-skipped : goal.returns-clause-skipped
returns-clause-skipped c = comments-skipped

pub returns-clause-numbers : goal.returns-clause-numbers
returns-clause-numbers c = number-word
