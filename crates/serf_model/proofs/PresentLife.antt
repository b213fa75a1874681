-- The life of an agent, read off the turns that it took.
use Rattle.serf_model.proofs.Names.{Bool, List, [], ap, cond, false, if◌then◌else◌, refl, true, ℕ, ◌&&◌, ◌++◌, ◌∙◌, ◌∷◌, ◌≡◌, fold, is_restarted, lived_on, present_life, Turn, actor_of, is_agent, turns_by}
use Rattle.serf_model.proofs.PerAgent.{turns-mine, turns-other}

-- a life continues with a turn, unless the turn begins the next life
abbrev pub lives_on : List Turn → Turn → List Turn
lives_on life turn = if is_restarted turn.line.answer then [] else life ++ turn ∷ []

-- among the turns of one agent, those since it was last opened
abbrev pub last_life : List Turn → List Turn
last_life turns = fold lives_on [] turns

-- a turn of the agent itself
mine-on : (a : ℕ) (life : List Turn) (t : Turn) → is_agent a (actor_of t.action) ≡ true → turns_by a (lived_on a life t) ≡ lives_on (turns_by a life) t
mine-on a life t mine = ap (λ b. turns_by a (cond (b && is_restarted t.line.answer) [] (life ++ t ∷ []))) mine ∙ by (is_restarted t.line.answer)
  where
    by : (r : Bool) → turns_by a (cond r [] (life ++ t ∷ [])) ≡ cond r [] (turns_by a life ++ t ∷ [])
    by true = refl
    by false = turns-mine a life t mine

-- a turn of another agent, or of none
other-on : (a : ℕ) (life : List Turn) (t : Turn) → is_agent a (actor_of t.action) ≡ false → turns_by a (lived_on a life t) ≡ turns_by a life
other-on a life t other = ap (λ b. turns_by a (cond (b && is_restarted t.line.answer) [] (life ++ t ∷ []))) other ∙ turns-other a life t other

own_life-from : (a : ℕ) (life turns : List Turn) → turns_by a (fold (lived_on a) life turns) ≡ fold lives_on (turns_by a life) (turns_by a turns)
own_life-from a life [] = refl
own_life-from a life (t ∷ ts) = own_life-from a (lived_on a life t) ts ∙ by (is_agent a (actor_of t.action)) refl
  where
    by : (b : Bool) → is_agent a (actor_of t.action) ≡ b → fold lives_on (turns_by a (lived_on a life t)) (turns_by a ts) ≡ fold lives_on (turns_by a life) (cond b (t ∷ turns_by a ts) (turns_by a ts))
    by true mine = ap (λ l. fold lives_on l (turns_by a ts)) (mine-on a life t mine)
    by false other = ap (λ l. fold lives_on l (turns_by a ts)) (other-on a life t other)

-- the turns of an agent in its present life are the last life among its turns
pub own_life : (a : ℕ) (turns : List Turn) → turns_by a (present_life a turns) ≡ last_life (turns_by a turns)
own_life a turns = own_life-from a [] turns
