-- Why a store was not opened: which call failed, and how.
use Rattle.std.specs.Prelude.{◌≡◌, ◌≢◌, ◌⊎◌, ◌↔◌, ◌<◌, ℕ, ⊤, Result, Ok, Err, IfOk, IfErr}
use Rattle.std.specs.IoError.{error_kind}
use Rattle.std.specs.declared.io.ErrorKind.TheVariants.{OutOfMemory as NoMemory}
use Rattle.std.specs.declared.fs.TryLockError.{TryLockError}
use Rattle.std.specs.declared.fs.TryLockError.TheVariants.{Error as LockError, WouldBlock}
use Rattle.serf_store.specs.declared.error.StoreError.{StoreError}
use Rattle.serf_store.specs.declared.error.StoreError.TheVariants.{OutOfMemory, InUse, Path, NotAFile, Open, Lock, Leftover, Read, Sync, Folder}

-- the error of a file that was opened: its text can't be read, or it or its folder can't be synced to the device. If
-- memory runs out for the text, the error is `OutOfMemory`.
abbrev pub IsOfText : StoreError → Type 0
IsOfText OutOfMemory = ⊤
IsOfText (Read e) = error_kind e ≢ NoMemory
IsOfText (Sync e) = ⊤
IsOfText (Folder e) = ⊤
IsOfText f = ⊥

-- the error of a path. If memory runs out for it, the error is `OutOfMemory`.
abbrev pub IsOfPath : StoreError → Type 0
IsOfPath OutOfMemory = ⊤
IsOfPath NotAFile = ⊤
IsOfPath (Path e) = error_kind e ≢ NoMemory
IsOfPath f = ⊥

-- the error of a file that can't be opened
abbrev pub IsOfOpen : StoreError → Type 0
IsOfOpen (Open e) = ⊤
IsOfOpen f = ⊥

-- the error of what has the name: it isn't a regular file, it can't be opened or locked, or another store has it
abbrev pub IsOfFile : StoreError → Type 0
IsOfFile NotAFile = ⊤
IsOfFile (Open e) = ⊤
IsOfFile (Lock e) = ⊤
IsOfFile InUse = ⊤
IsOfFile f = ⊥

-- the error of a file that a crash left
abbrev pub IsOfLeftover : StoreError → Type 0
IsOfLeftover (Leftover e) = ⊤
IsOfLeftover f = ⊥

-- the error of a file that isn't open yet
abbrev pub IsOfOpening : StoreError → Type 0
IsOfOpening f = IsOfPath f ⊎ IsOfFile f ⊎ IsOfLeftover f

-- the error of an opening over a file whose n-th call should fail, 0 for none: the opening reads the text, syncs it,
-- and then syncs the folder
abbrev pub IsOfCall : ℕ → StoreError → Type 0
IsOfCall n OutOfMemory = n ≢ 1
IsOfCall n (Read e) = n ≡ 1
IsOfCall n (Sync e) = (n ≢ 1) × (n ≡ 2 ↔ error_kind e ≢ NoMemory)
IsOfCall n (Folder e) = (n ≢ 1) × (n ≢ 2) × (n ≡ 3 ↔ error_kind e ≢ NoMemory)
IsOfCall n f = ⊥

-- an opening over a file of this kind succeeds only if none of its three calls should fail
abbrev pub OpensAsPlanned : {A : Type 0} → ℕ → Result A StoreError → Type 0
OpensAsPlanned n result = IfOk result (λ _. (n ≡ 0) ⊎ (3 < n)) × IfErr result (IsOfCall n)

-- what the store returns for the result of a lock
abbrev pub locked_as : {A : Type 0} → Result A TryLockError → Result A StoreError
locked_as (Ok x) = Ok x
locked_as (Err WouldBlock) = Err InUse
locked_as (Err (LockError e)) = Err (Lock e)
