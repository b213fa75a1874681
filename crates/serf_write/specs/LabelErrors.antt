-- An error after a label, as the code holds it. This definition is private to the crate.
use Rattle.std.specs.Prelude.{◌^◌, ◌-◌, ◌+◌, min}
use Rattle.serf_write.specs.declared.word_error.LineError.{LineError}
use Rattle.serf_write.specs.declared.word_error.LineError.TheVariants.{Bad, OutOfMemory}

abbrev pub error_after_label : LineError → LineError
error_after_label OutOfMemory = OutOfMemory
error_after_label (Bad error) = Bad (record { place = min (error.place + 1) (2 ^ 64 - 1); expected = error.expected })
