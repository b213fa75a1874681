use Rattle.serf_text.proofs.Names.{sym}
use Rattle.serf_text.proofs.CutLemmas.{cut_some, cut_none}
use Rattle.serf_text.proofs.words.split_once.Goals as goal

pub returns-in-Some-clause-parts : goal.returns-in-Some-clause-parts
returns-in-Some-clause-parts c = cut_some c.args.separator c.args.text.now c.in-Some.at (sym c.in-Some.ensures.place)

pub returns-in-None-clause-parts : goal.returns-in-None-clause-parts
returns-in-None-clause-parts c = cut_none c.args.separator c.args.text.now c.in-None.ensures.none
