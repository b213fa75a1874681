use Rattle.serf_pack.proofs.Names.{refl, tree_of}
use Rattle.serf_pack.proofs.Inputs.{packs_value}
use Rattle.serf_pack.proofs.whole.view_packed.Goals as goal

pub invariant_of-result-clause-checked : goal.invariant_of-result-clause-checked
invariant_of-result-clause-checked c = rw (packs_value c.args.bytes.now c.requires.packed.0 c.requires.packed.1) refl

pub returns : goal.returns
unfolding tree_of
returns c v packs = rw (packs_value c.args.bytes.now v packs) refl
