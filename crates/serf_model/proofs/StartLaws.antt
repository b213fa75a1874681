-- A cluster that has done nothing.
use Rattle.serf_model.proofs.Names.{Bool, List, None, Some, [], ap, arith, cond, false, inr, length, map, nat_lt, refl, subst, sym, true, ◌+◌, ◌∷◌, ◌≡◌, ◌≤◌, ltb-false, All-nil, AllByRecursion, position_or_len, All, Contains, not, slice_get, EventBody, fresh_device, opened, TimedEntry, is_sound, Past, unopened, Config, Below, first_node, opened_first, start, AreRepresentable, IsRepresentable, AreConfigs, NoneBadIsSound}
use Rattle.serf_model.proofs.HistoryGrowth.{Says}
use Rattle.serf_model.proofs.InvariantKept.{first-events, representable-opened_first}
use Rattle.serf_model.proofs.PacketsHave.{Carries}
use Rattle.serf_model.proofs.RunLaws.{IsAfter, Written, events_at, queries_of}
use Rattle.serf_model.proofs.SaysKept.{says-reopened}
use Rattle.serf_model.proofs.Spreading.{Spreads}
use Rattle.serf_model.proofs.Within.{IsWithin}

-- if none of the settings is bad, each of them is sound
none-bad : (configs : List Config) → length configs ≤ position_or_len (λ c. not (is_sound c)) configs → AllByRecursion (λ c. is_sound c ≡ true) configs
none-bad [] h = tt
none-bad (c ∷ cs) h = by (is_sound c) refl h (none-bad cs)
  where
    by : (b : Bool) → is_sound c ≡ b → length (c ∷ cs) ≤ cond (not (not b)) (1 + position_or_len (λ c. not (is_sound c)) cs) 0
        → (length cs ≤ position_or_len (λ c. not (is_sound c)) cs → AllByRecursion (λ c. is_sound c ≡ true) cs) → (is_sound c ≡ true) × AllByRecursion (λ c. is_sound c ≡ true) cs
    by true is h rest = (is, rest (omega arith))
    by false is h rest = absurd (omega arith)

pub all-sound : NoneBadIsSound
all-sound configs none = none-bad configs (by (nat_lt (position_or_len (λ c. not (is_sound c)) configs) (length configs)) refl none)
  where
    by : (b : Bool) → nat_lt (position_or_len (λ c. not (is_sound c)) configs) (length configs) ≡ b → cond b (Some (position_or_len (λ c. not (is_sound c)) configs)) None ≡ None → length configs ≤ position_or_len (λ c. not (is_sound c)) configs
    by true is e = absurd (cc e)
    by false is e = ltb-false _ _ is

representable-first_node : Below → (configs : List Config) → AllByRecursion (λ c. is_sound c ≡ true) configs → AllByRecursion (λ m. IsRepresentable m.agent) (map first_node configs)
representable-first_node lower [] ok = tt
representable-first_node lower (c ∷ cs) ok = (representable-opened_first lower c ok.0, representable-first_node lower cs ok.1)

-- each agent has its settings
first-settings : (configs : List Config) → map (λ m. m.agent.config) (map first_node configs) ≡ configs
first-settings [] = refl
first-settings (c ∷ cs) = ap (λ l. c ∷ l) (first-settings cs)

-- nothing was entered, no event is in a text, and nothing was sent
pub says-first : Below → (P : TimedEntry EventBody → Type 0) (c : Config) → Says P (opened_first c)
says-first lower P c = record {
  entered = subst (All (λ (p : Past EventBody). P p.entry)) (sym (first-events c)) (All-nil (λ (p : Past EventBody). P p.entry));
  durable = λ keeps. says-reopened lower P (unopened c (opened [] (fresh_device []))) [] (All-nil P);
}

says-nodes : Below → (P : TimedEntry EventBody → Type 0) (configs : List Config) → AllByRecursion (λ m. Says P m.agent) (map first_node configs)
says-nodes lower P [] = tt
says-nodes lower P (c ∷ cs) = (says-first lower P c, says-nodes lower P cs)

pub spreads-start : Below → (P : TimedEntry EventBody → Type 0) (configs : List Config) → Spreads P (start configs).cluster
spreads-start lower P configs = record { agents = says-nodes lower P configs; packets = All-nil (Carries P) }

within-none : {X : Type 0} (xs : List X) → IsWithin xs []
within-none xs = record { within = All-nil (Contains xs); once = λ i j d lt within. absurd (omega arith) }

pub after-start : Below → (configs : List Config) → AreConfigs configs → IsAfter configs (start configs).cluster []
after-start lower configs ok = record {
  representable = representable-first_node lower configs (all-sound configs ok.sound);
  settings = first-settings configs;
  told = inr (spreads-start lower Written configs);
  events = λ a. within-none (events_at (slice_get (map first_node configs) a));
  queries = λ a. within-none (queries_of (slice_get (map first_node configs) a));
  sent = refl;
}

-- the agents of a cluster that has done nothing
pub representable-start : Below → (configs : List Config) → AreConfigs configs → AreRepresentable (start configs).cluster
representable-start lower configs ok = (after-start lower configs ok).representable
