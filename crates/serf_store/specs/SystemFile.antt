-- A text's file of the operating system.
use Rattle.std.specs.Prelude.{ℕ}
use Rattle.serf_store.specs.declared.system.SystemFile.{SystemFile}

-- how often one of its calls has failed
abbrev pub system_failures : {R F D : Type 0} → SystemFile R F D → ℕ
system_failures s = s.failures
