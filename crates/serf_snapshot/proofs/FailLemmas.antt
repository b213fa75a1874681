-- A sink in memory that fails.
use Rattle.serf_snapshot.proofs.Names.{List, [], arith, drop, length, refl, take, ℕ, ◌≡◌, ◌≤◌, common_steps, Calls, Fails, FailurePlan, HasFailed, memory_device}

-- a sink in memory that drops what was buffered has failed, if its count of failures says so
pub fails-dropped : (bytes : List ℕ) (durable failures failures2 : ℕ) (plan plan2 : FailurePlan) (calls calls2 : Calls) (more : List ℕ) → HasFailed failures failures2 → durable ≤ length bytes
    → Fails (memory_device bytes durable plan failures calls) (memory_device (take durable bytes) durable plan2 failures2 calls2) more
fails-dropped bytes durable failures failures2 plan plan2 calls calls2 more cause within =
    let same : take durable (take durable bytes) ≡ take durable bytes = grind (arith, common_steps) in
    let none : drop durable (take durable bytes) ≡ [] = grind (arith, common_steps) in
    record { cause = cause; part = (0, grind (arith, common_steps)); planned = λ _. rw (same, none) refl }
