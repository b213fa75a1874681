use Rattle.serf_write.proofs.Names.{length, true, ◌+◌, ◌≡◌, ◌≤◌, is_sound, settings_from}
use Rattle.serf_write.proofs.settings.settings.Given as goal

-- the settings so far, and after them the remaining settings, make up the result; the name is that of the beginning, and
-- the settings so far are within their bounds if those of the beginning are
abbrev pub invariant-settings : goal.invariant-settings
invariant-settings l = (settings_from l.place l.config l.rest ≡ settings_from 3 l.fn.config l.fn.tokens)
    × (l.place + length l.rest ≤ length l.fn.tokens + 3)
    × (l.config.name ≡ l.fn.config.name)
    × (is_sound l.fn.config ≡ true → is_sound l.config ≡ true)

abbrev pub decreases-settings : goal.decreases-settings
decreases-settings l = length l.rest
