-- A text's file as the operating system has it: what a crash leaves of it, and what a replacement has done so far.
use Rattle.std.specs.Prelude.{◌≡◌, ◌≢◌, ◌⊎◌, ◌↔◌, ◌-◌, ℕ, Bool, true, false, List, [], ◌++◌, take, Option, Some, None, IfSome, IsSomeAnd, unwrap_or, Result, IsErr, IfErr, if◌then◌else◌}
use Rattle.std.specs.Option.{option_map}
use Rattle.std.specs.IoError.{error_kind}
use Rattle.std.specs.declared.io.Error.{Error}
use Rattle.std.specs.declared.io.ErrorKind.TheVariants.{OutOfMemory}
use Rattle.serf_snapshot.specs.Device.{Observable}

-- the file that a crash leaves under the text's name, the new file that was written next to it, whether the new file
-- has taken over the name since the folder was last synced to the device, and whether the name is on the device; if it
-- isn't, a crash may leave no file
pub record Kept : Type 0 where
  pub text : Observable
  pub new_file : Option Observable
  pub is_renamed : Bool
  pub is_named : Bool

-- all bytes of a file
abbrev pub all_of : Observable → List ℕ
all_of file = file.durable ++ file.buffered

-- a file after these bytes were written
abbrev pub with_more : List ℕ → Observable → Observable
with_more bytes file = record { buffered = file.buffered ++ bytes; durable = file.durable }

-- a file with these bytes, all of them on the device
abbrev pub on_device : List ℕ → Observable
on_device bytes = record { buffered = []; durable = bytes }

-- a file after its bytes were synced to the device
abbrev pub brought : Observable → Observable
brought file = on_device (all_of file)

-- a file that was just created and written
abbrev pub made_with : List ℕ → Observable
made_with bytes = record { buffered = bytes; durable = [] }

-- these files, but with another text's file or with another new file
abbrev pub with_text : Observable → Kept → Kept
with_text file k = record { text = file; new_file = k.new_file; is_renamed = k.is_renamed; is_named = k.is_named }

abbrev pub with_new_file : Option Observable → Kept → Kept
with_new_file file k = record { text = k.text; new_file = file; is_renamed = k.is_renamed; is_named = k.is_named }

-- the new file has taken over the text's name
abbrev pub renamed : Kept → Kept
renamed k = record { text = k.text; new_file = k.new_file; is_renamed = true; is_named = k.is_named }

-- the folder was synced to the device, so a crash leaves the file that has the name
abbrev pub settled : Kept → Kept
settled k = if k.is_renamed then record { text = unwrap_or k.new_file k.text; new_file = None; is_renamed = false; is_named = true } else record { text = k.text; new_file = k.new_file; is_renamed = false; is_named = true }

-- no file has taken over the name since the folder was synced to the device
abbrev pub IsSettled : Option Kept → Type 0
IsSettled kept = IfSome kept (λ (k : Kept). k.is_renamed ≡ false)

-- the name is on the device
abbrev pub IsNamed : Option Kept → Type 0
IsNamed kept = IfSome kept (λ (k : Kept). k.is_named ≡ true)

-- the new file exists, and all its bytes are on the device
abbrev pub IsReady : Option Kept → Type 0
IsReady kept = IfSome kept (λ (k : Kept). IsSomeAnd k.new_file (λ (file : Observable). file.buffered ≡ []))

-- how the files after a call relate to those before it, if the files are exposed
abbrev pub Becomes : (Kept → Kept → Type 0) → Option Kept → Option Kept → Type 0
Becomes P None new = new ≡ None
Becomes P (Some k) new = IsSomeAnd new (P k)

-- the text has what was on the device, and perhaps a part of what was to be written
abbrev pub IsTorn : List ℕ → Kept → Kept → Type 0
IsTorn more k l = (l.is_renamed ≡ k.is_renamed) × (l.is_named ≡ k.is_named) × (n : ℕ) × (l.text.durable ≡ k.text.durable ++ take n (k.text.buffered ++ more))

-- the text's file is unchanged
abbrev pub HasSameFile : Kept → Kept → Type 0
HasSameFile k l = (l.text ≡ k.text) × (l.is_named ≡ k.is_named)

-- the text's file is unchanged, and still has its name
abbrev pub HasSameText : Kept → Kept → Type 0
HasSameText k l = HasSameFile k l × (l.is_renamed ≡ k.is_renamed)

-- a crash leaves the text's file, or the file that has taken over its name
abbrev pub IsEither : Kept → Kept → Type 0
IsEither k l = (l ≡ k) ⊎ (l ≡ settled k)

-- there is exactly this text, on the device
abbrev pub kept_text : List ℕ → Kept
kept_text text = record { text = on_device text; new_file = None; is_renamed = false; is_named = true }

-- a crash leaves the text's file unchanged, or a file with exactly this text
abbrev pub HasEither : List ℕ → Kept → Kept → Type 0
HasEither text k l = ((l.text ≡ k.text) ⊎ (l.text ≡ on_device text)) × (k.is_named ≡ true → l.is_named ≡ true)

-- a call of a file with a plan, which says which call should fail, 0 for none: that call fails, and any other fails
-- only if memory runs out
abbrev pub GoesAsPlanned : {A : Type 0} → Option ℕ → Option ℕ → Result A Error → Type 0
GoesAsPlanned old new result =
    (new ≡ option_map (λ (n : ℕ). n - 1) old)
    × IfSome old (λ (n : ℕ). n ≡ 1 → IsErr result)
    × IfErr result (λ (e : Error). IfSome old (λ (n : ℕ). n ≡ 1 ↔ error_kind e ≢ OutOfMemory))
