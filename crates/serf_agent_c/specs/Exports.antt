-- What an export does through a handle.
use Rattle.std.specs.Prelude.{◌≡◌, ◌≢◌, ℕ, Option, Some, None, IsSomeAnd}
use Rattle.serf_agent_c.specs.declared.code.Code.{Code}
use Rattle.serf_agent_c.specs.declared.code.Code.TheVariants.{Done, Empty}
use Rattle.serf_agent_c.specs.declared.handle.Handle.{Handle}
use Rattle.serf_agent_c.specs.declared.session.Session.{Session}
use Rattle.serf_agent_c.specs.Codes.{number_of}

-- A call through a handle: an empty handle stays empty, with the code Empty. Otherwise its session becomes another one,
-- and C reads the code.
abbrev pub Through : (Session → Session → Code → Type 0) → Option Session → Option Session → ℕ → Type 0
Through P None new n = (new ≡ None) × (n ≡ number_of Empty)
Through P (Some s) new n = IsSomeAnd new (λ t. (code : Code) × (n ≡ number_of code) × P s t code)

-- A call that only reads: it leaves the handle as it was.
abbrev pub Reads : (Session → Code → Type 0) → Option Session → Option Session → ℕ → Type 0
Reads P None new n = (new ≡ None) × (n ≡ number_of Empty)
Reads P (Some s) new n = (new ≡ Some s) × ((code : Code) × (n ≡ number_of code) × P s code)

-- the same for the handle itself: a call and its code, and a reading
abbrev pub Answers : (Session → Session → Code → Type 0) → Handle → Handle → ℕ → Type 0
Answers P old new n = Through P old.place.value new.place.value n

abbrev pub Shows : (Session → Code → Type 0) → Handle → Handle → ℕ → Type 0
Shows P old new n = Reads P old.place.value new.place.value n

-- What C passed to be filled stays as it was unless the call is done, and so it does for an empty handle.
abbrev pub FillsIfDone : Type 0 → ℕ → Type 0
FillsIfDone Same n = n ≢ number_of Done → Same
