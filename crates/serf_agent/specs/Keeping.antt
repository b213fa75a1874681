-- Tracks of an agent that keeps its events over a restart: what an opening restores from a text is entered again, in
-- the new life. This is this project's own. Serf's buffers are empty after a restart (`serf.go`, `Create`), and its
-- minimum times are one above the snapshot's clocks.
use Rattle.std.specs.Prelude.{◌≡◌, ℕ, ◌+◌, ◌-◌, ◌<◌, ◌≤◌, ◌⊎◌, max, not, Bool, List, [], ◌++◌, map, filter, All, Contains}
use Rattle.serf_window.specs.Recall.{Recalled, recalled}
use Rattle.serf_window.specs.Window.{TimedEntry, was_entered}
use Rattle.serf_agent.specs.Ideal.{Past, Track}
use Rattle.serf_agent.specs.Tracks.{IsTrackSound, of_life}

-- The clock at an opening: it is above the text's last clock, and at least the text's minimum time, which a join may
-- have set above that clock.
abbrev pub opened_clock : ℕ → ℕ → ℕ
opened_clock last lowest = max (last + 1) lowest

-- What the buffers restore of the kept entries of a text, as if each of them was received again.
abbrev pub taken_back : {K : Type 0} → (K → K → Bool) → ℕ → ℕ → ℕ → ℕ → List (TimedEntry K) → Recalled K
taken_back same n k last lowest kept = recalled same n k (opened_clock last lowest) (record { entries = []; minimum = lowest }) kept

-- these entries, as entered in one life
abbrev pub in_life : {K : Type 0} → ℕ → List (TimedEntry K) → List (Past K)
in_life life entries = map (λ e. record { life = life; entry = e }) entries

-- the part of a history that is not among these entries
abbrev pub history_without : {K : Type 0} → (K → K → Bool) → List (TimedEntry K) → List (Past K) → List (Past K)
history_without same entries history = filter (λ p. not (was_entered same entries p.entry.time p.entry.key)) history

-- The track in a new life, if a text has this last clock, this minimum time and these kept entries. From then on,
-- whatever is restored belongs to the new life, even if an earlier life entered it. No time below the buffer's reach is
-- accepted: it would be too old anyway.
abbrev pub track_kept : {K : Type 0} → (K → K → Bool) → ℕ → ℕ → ℕ → ℕ → ℕ → List (TimedEntry K) → Track K → Track K
track_kept same n k life last lowest kept track =
    let back = taken_back same n k last lowest kept in
    record {
      clock = opened_clock last lowest;
      minimum = max back.minimum (opened_clock last lowest - n);
      history = history_without same back.entries track.history ++ in_life life back.entries;
    }

-- What a text must have of an entry that was entered before: either its time is no longer accepted, or the entry is
-- kept.
abbrev pub IsHad : {K : Type 0} → ℕ → ℕ → ℕ → List (TimedEntry K) → TimedEntry K → Type 0
IsHad n last lowest kept e = (e.time < lowest) ⊎ (e.time + n < opened_clock last lowest) ⊎ Contains kept e

-- the entries of a history
abbrev pub entries_in : {K : Type 0} → List (Past K) → List (TimedEntry K)
entries_in history = map (λ p. p.entry) history

-- What is true of tracks that are kept over a restart, if `same` recognizes equal keys.
pub record KeepingLaws (K : Type 0) (same : K → K → Bool) : Type 0 where
  -- a sound track is sound in the next life, if the text has each entry
  pub restarts : (n k life last lowest old_last : ℕ) (kept : List (TimedEntry K)) (track : Track K) → IsTrackSound track life old_last
      → All (λ p. p.entry.time ≤ last) track.history → All (λ e. e.time ≤ last) kept → All (λ p. IsHad n last lowest kept p.entry) track.history
      → IsTrackSound (track_kept same n k (life + 1) last lowest kept track) (life + 1) last
  -- what the new life has entered is what was restored
  pub view : (n k life last lowest : ℕ) (kept : List (TimedEntry K)) (track : Track K) → All (λ p. p.life ≤ life) track.history
      → of_life (life + 1) (track_kept same n k (life + 1) last lowest kept track).history ≡ (taken_back same n k last lowest kept).entries
  -- each entry of the old history is in the new one, and whatever is new in it was kept
  pub grown : (n k life last lowest : ℕ) (kept : List (TimedEntry K)) (track : Track K) → All (Contains (entries_in (track_kept same n k life last lowest kept track).history)) (entries_in track.history)
  pub only_kept : (n k life last lowest : ℕ) (kept : List (TimedEntry K)) (track : Track K) → All (Contains (entries_in track.history ++ kept)) (entries_in (track_kept same n k life last lowest kept track).history)
