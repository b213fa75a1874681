-- The rules that a caller chooses (docs/DECISIONS.md).
use Rattle.std.specs.Prelude.{Bool, true, false}
use Rattle.serf_conform.specs.declared.verdict.Rules.{Rules}
use Rattle.serf_conform.specs.declared.verdict.Rules.TheVariants as rules

abbrev pub is_serf : Rules → Bool
is_serf rules.Serf = true
is_serf rules.Own = false
