-- A text's file in memory.
use Rattle.std.specs.Prelude.{ℕ, List, None, false}
use Rattle.serf_store.specs.TextFile.{Kept, kept_text, made_with}

-- what the file keeps, how often one of its calls has failed, and which call from now on should fail, 0 for none
pub record MemoryFileState : Type 0 where
  pub kept : Kept
  pub failures : ℕ
  pub failing : ℕ

-- a file that keeps this text and has not failed, whose n-th call should fail
abbrev pub fresh_file : List ℕ → ℕ → MemoryFileState
fresh_file text n = record { kept = kept_text text; failures = 0; failing = n }

-- a file that was just created and written: none of it is on the device, and neither is its name
abbrev pub made_file : List ℕ → ℕ → MemoryFileState
made_file text n = record { kept = record { text = made_with text; new_file = None; is_renamed = false; is_named = false }; failures = 0; failing = n }
