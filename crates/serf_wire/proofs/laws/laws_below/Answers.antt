use Rattle.serf_wire.proofs.laws.laws_below.Goals as goal

pub returns : goal.returns
returns c = record { reading = c.exact_reading.ensures; heads = c.canonical_heads.ensures }
