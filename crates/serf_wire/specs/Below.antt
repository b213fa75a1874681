-- The laws of serf_pack about spellings, as far as the reading and the encoding of messages rely on them.
use Rattle.serf_pack.specs.Laws.{CanonicalHeads, ReadsExactly}

pub record Below : Type 0 where
  pub reading : ReadsExactly
  pub heads : CanonicalHeads
