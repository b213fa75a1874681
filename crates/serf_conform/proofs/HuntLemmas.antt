-- Schedules from seeds, one after another.
use Rattle.serf_conform.proofs.Names.{Bool, List, None, Option, Some, ap, arith, refl, subst, suc, sym, zero, ℕ, ◌++◌, ◌+◌, ◌-◌, ◌<◌, ◌∙◌, ◌≡◌, Appends-trans, Err, IfOk, IfSome, Ok, Result, Parsed, ConformError, AfterSweep, HoldsSeed, Hunt, Hunts, IsHunt, IsHunting, IsLeftAfter, Sweep, Sweeps, sum_of, sweep, Counts, Held, Other}

-- a seed for which all agents agree
hunt_on : (makes : ℕ → Parsed → Type 0) (serf : Bool) (old now new from mid to : Option (List ℕ)) (Whole : List ℕ → Hunt → Type 0) (n seed : ℕ) (counts : Counts) (held : Held)
    → IsHunting old now from mid Whole (λ w rest h. Hunts makes serf (suc n) seed counts w rest h)
    → IfSome now (λ input. HoldsSeed (makes seed) serf input held new mid to)
    → held.other ≡ None
    → IsHunting old new from to Whole (λ w rest h. Hunts makes serf n (seed + 1) (sum_of counts held.counts) w rest h)
hunt_on makes serf None now new from mid to Whole n seed counts held along holds none = tt
hunt_on makes serf (Some i) None new from mid to Whole n seed counts held along holds none = absurd along
hunt_on makes serf (Some i) (Some r) new from mid to Whole n seed counts held along holds none =
    let s : Sweep = sweep serf holds.schedule r in
    let Next : Counts → List ℕ → List ℕ → Hunt → Type 0 = λ c w rest k. Hunts makes serf n (seed + 1) c w rest k in
    let same : s.held.other ≡ None = ap (λ (x : Held). x.other) (sym holds.sweeps.held_is) ∙ none in
    let left : new ≡ Some s.rest = subst (λ (o : Option Other). IsLeftAfter o new s.rest) none holds.sweeps.left in
    subst (λ (m : Option (List ℕ)). IsHunting (Some i) m from to Whole (λ w rest h. Hunts makes serf n (seed + 1) (sum_of counts held.counts) w rest h)) (sym left) (
      along.0 ++ s.written,
      Appends-trans _ _ _ _ _ along.1 holds.sweeps.written,
      λ h later. along.2 h (
        holds.schedule,
        holds.made,
        subst (λ (o : Option Other). AfterSweep o seed counts along.0 s Next h) (sym same)
            (subst (λ (x : Held). Next (sum_of counts x.counts) (along.0 ++ s.written) s.rest h) holds.sweeps.held_is later),
      ),
    )

-- a seed for which an agent differs
hunt_ends : (makes : ℕ → Parsed → Type 0) (serf : Bool) (old now new from mid to : Option (List ℕ)) (Whole : List ℕ → Hunt → Type 0) (n seed : ℕ) (counts : Counts) (held : Held) (other : Other)
    → IsHunting old now from mid Whole (λ w rest h. Hunts makes serf (suc n) seed counts w rest h)
    → IfSome now (λ input. HoldsSeed (makes seed) serf input held new mid to)
    → held.other ≡ Some other
    → IfSome old (λ input. IsHunt (Whole input) (record { counts = sum_of counts held.counts; found = Some (record { seed = seed; other = other }) }) from to)
hunt_ends makes serf None now new from mid to Whole n seed counts held other along holds found = tt
hunt_ends makes serf (Some i) None new from mid to Whole n seed counts held other along holds found = absurd along
hunt_ends makes serf (Some i) (Some r) new from mid to Whole n seed counts held other along holds found =
    let s : Sweep = sweep serf holds.schedule r in
    let Next : Counts → List ℕ → List ℕ → Hunt → Type 0 = λ c w rest k. Hunts makes serf n (seed + 1) c w rest k in
    let same : s.held.other ≡ Some other = ap (λ (x : Held). x.other) (sym holds.sweeps.held_is) ∙ found in
    let H : Held → Hunt = λ x. record { hunted = record { counts = sum_of counts x.counts; found = Some (record { seed = seed; other = other }) }; written = along.0 ++ s.written } in
    record {
      hunt = H held;
      is = along.2 (H held) (holds.schedule, holds.made, subst (λ (o : Option Other). AfterSweep o seed counts along.0 s Next (H held)) (sym same) (ap H holds.sweeps.held_is));
      hunted_is = refl;
      written = Appends-trans _ _ _ _ _ along.1 holds.sweeps.written;
    }

-- One seed fewer is left.
one_fewer : (end seed : ℕ) → seed < end → end - seed ≡ suc (end - (seed + 1))
one_fewer end seed below = omega arith

-- The same, as the code counts.
pub next_on : (makes : ℕ → Parsed → Type 0) (serf : Bool) (old now new from mid to : Option (List ℕ)) (Whole : List ℕ → Hunt → Type 0) (end seed : ℕ) (counts total : Counts) (held : Held) → seed < end
    → IsHunting old now from mid Whole (λ w rest h. Hunts makes serf (end - seed) seed counts w rest h)
    → IfSome now (λ input. HoldsSeed (makes seed) serf input held new mid to)
    → held.other ≡ None → total ≡ sum_of counts held.counts
    → IsHunting old new from to Whole (λ w rest h. Hunts makes serf (end - (seed + 1)) (seed + 1) total w rest h)
next_on makes serf old now new from mid to Whole end seed counts total held below along holds none e =
    subst (λ (c : Counts). IsHunting old new from to Whole (λ w rest h. Hunts makes serf (end - (seed + 1)) (seed + 1) c w rest h)) (sym e)
    (hunt_on makes serf old now new from mid to Whole (end - (seed + 1)) seed counts held
    (subst (λ (n : ℕ). IsHunting old now from mid Whole (λ w rest h. Hunts makes serf n seed counts w rest h)) (one_fewer end seed below) along) holds none)

pub next_ends : (makes : ℕ → Parsed → Type 0) (serf : Bool) (old now new from mid to : Option (List ℕ)) (Whole : List ℕ → Hunt → Type 0) (end seed : ℕ) (counts total : Counts) (held : Held) (other : Other) → seed < end
    → IsHunting old now from mid Whole (λ w rest h. Hunts makes serf (end - seed) seed counts w rest h)
    → IfSome now (λ input. HoldsSeed (makes seed) serf input held new mid to)
    → held.other ≡ Some other → total ≡ sum_of counts held.counts
    → IfSome old (λ input. IsHunt (Whole input) (record { counts = total; found = Some (record { seed = seed; other = other }) }) from to)
next_ends makes serf old now new from mid to Whole end seed counts total held other below along holds found e =
    subst (λ (c : Counts). IfSome old (λ input. IsHunt (Whole input) (record { counts = c; found = Some (record { seed = seed; other = other }) }) from to)) (sym e)
    (hunt_ends makes serf old now new from mid to Whole (end - (seed + 1)) seed counts held other
    (subst (λ (n : ℕ). IsHunting old now from mid Whole (λ w rest h. Hunts makes serf n seed counts w rest h)) (one_fewer end seed below) along) holds found)

-- No seed is left.
pub hunt_done : (makes : ℕ → Parsed → Type 0) (serf : Bool) (old now from to : Option (List ℕ)) (Whole : List ℕ → Hunt → Type 0) (n seed : ℕ) (counts : Counts)
    → IsHunting old now from to Whole (λ w rest h. Hunts makes serf n seed counts w rest h) → n ≡ 0
    → IfSome old (λ input. IsHunt (Whole input) (record { counts = counts; found = None }) from to)
hunt_done makes serf None now from to Whole n seed counts along none = tt
hunt_done makes serf (Some i) None from to Whole n seed counts along none = absurd along
hunt_done makes serf (Some i) (Some r) from to Whole zero seed counts along none =
    let end : Hunt = record { hunted = record { counts = counts; found = None }; written = along.0 } in
    record { hunt = end; is = along.2 end refl; hunted_is = refl; written = along.1 }
hunt_done makes serf (Some i) (Some r) from to Whole (suc n) seed counts along none = absurd (omega arith)

-- the comparison of the agents in a schedule that was made from a seed
pub holds_seed : (Is : Parsed → Type 0) (serf : Bool) (old new from to : Option (List ℕ)) (p : Parsed) (result : Result Held ConformError) → Is p
    → IfOk result (λ held. IfSome old (λ input. Sweeps (sweep serf p input) held new from to))
    → IfOk result (λ held. IfSome old (λ input. HoldsSeed Is serf input held new from to))
holds_seed Is serf old new from to p (Err error) made sweeps = tt
holds_seed Is serf None new from to p (Ok held) made sweeps = tt
holds_seed Is serf (Some i) new from to p (Ok held) made sweeps = record { schedule = p; made = made; sweeps = sweeps }
