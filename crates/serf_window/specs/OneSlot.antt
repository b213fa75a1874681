-- The verdict of one slot on an entry that is offered with its time: the code's form of the verdict, private to the
-- windows.
use Rattle.std.specs.Prelude.{ℕ, nat_lt, nat_le, Bool, if◌then◌else◌, length}
use Rattle.std.specs.List.{list_any}
use Rattle.serf_window.specs.declared.verdict.Verdict.{Verdict}
use Rattle.serf_window.specs.declared.verdict.Verdict.TheVariants.{TooOld, Seen, TimeFull, New}
use Rattle.serf_window.specs.Window.{SlotOf}

abbrev pub slot_verdict : {K : Type 0} → (K → K → Bool) → ℕ → SlotOf K → ℕ → K → Verdict
slot_verdict same k slot t what =
    if nat_lt t slot.time then TooOld else
    if nat_lt slot.time t then New else
    if list_any (λ h. same h what) slot.held then Seen else
    if nat_le k (length slot.held) then TimeFull else New
