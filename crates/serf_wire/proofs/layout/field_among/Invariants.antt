use Rattle.serf_wire.proofs.TableLaws.{NoneBefore}
use Rattle.serf_wire.proofs.layout.field_among.Given as goal

abbrev pub invariant-loop-place : goal.invariant-loop-place
invariant-loop-place l = NoneBefore l.name l.fields l.place
