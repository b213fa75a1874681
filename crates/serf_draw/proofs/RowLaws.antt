-- What is drawn of a run, while one action after another is done.
use Rattle.serf_draw.proofs.Names.{List, [], ap, arith, length, refl, zero-add, ◌+◌, ◌∙◌, ◌∷◌, ◌≡◌, fold, Config, Cluster, Run, after, run_of, start, step, Action, Drawing, blank, drawing_of, drawn, DrawOptions}

count-from : (options : DrawOptions) (d : Drawing) (actions : List Action) → (fold (drawn options) d actions).count ≡ d.count + length actions
count-from options d [] = omega arith
count-from options d (a ∷ rest) = let more = count-from options (drawn options d a) rest in omega (arith, more)

pub count-drawn : (options : DrawOptions) (configs : List Config) (actions : List Action) → (drawing_of options configs actions).count ≡ length actions
count-drawn options configs actions = count-from options (blank configs) actions ∙ zero-add (length actions)

cluster-from : (options : DrawOptions) (d : Drawing) (r : Run) (actions : List Action) → d.cluster ≡ r.cluster → (fold (drawn options) d actions).cluster ≡ (fold after r actions).cluster
cluster-from options d r [] same = same
cluster-from options d r (a ∷ rest) same = cluster-from options (drawn options d a) (after r a) rest (ap (λ (c : Cluster). (step c a).cluster) same)

pub cluster-drawn : (options : DrawOptions) (configs : List Config) (actions : List Action) → (drawing_of options configs actions).cluster ≡ (run_of configs actions).cluster
cluster-drawn options configs actions = cluster-from options (blank configs) (start configs) actions refl
