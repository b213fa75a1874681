use Rattle.serf_pack.proofs.Names.{tree_of}
use Rattle.serf_pack.proofs.Inputs.{check_packs, check_only, check_malformed, check_only_error, check_place}
use Rattle.serf_pack.proofs.whole.check.Goals as goal

pub returns-clause-packs : goal.returns-clause-packs
returns-clause-packs c = check_packs tree_of c.args.bytes.now c.read_whole.result c.read_whole.ensures

pub returns-clause-only : goal.returns-clause-only
returns-clause-only c = check_only tree_of c.args.bytes.now c.read_whole.result c.read_whole.ensures

pub returns-clause-error : goal.returns-clause-error
returns-clause-error c = check_malformed tree_of c.args.bytes.now c.read_whole.result c.read_whole.ensures

pub returns-clause-only_error : goal.returns-clause-only_error
returns-clause-only_error c = check_only_error tree_of c.args.bytes.now c.read_whole.result c.read_whole.ensures

pub returns-clause-place : goal.returns-clause-place
returns-clause-place c = check_place tree_of c.args.bytes.now c.read_whole.result c.read_whole.ensures
