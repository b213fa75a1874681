use Rattle.serf_text.proofs.CutLemmas.{search-none, search-place}
use Rattle.serf_text.proofs.words.place_in_long.Goals as goal

pub returns-clause-place : goal.returns-clause-place
returns-clause-place c = search-place c.args.separator c.args.text.now c.memchr.result c.memchr.ensures

pub returns-clause-none : goal.returns-clause-none
returns-clause-none c = search-none c.args.separator c.args.text.now c.memchr.result c.memchr.ensures
