-- What is left of a schedule without some calls.
use Rattle.serf_conform.proofs.Names.{List, ap, ◌∙◌, ◌≡◌, Config, Action, Parsed, MissingCalls, OwnCall, actions_of, left_in, turns_in, without}

abbrev parsed : List Config → List Action → Parsed
parsed configs actions = record { configs = configs; actions = actions }

pub left_schedule :
    (m : MissingCalls) (p : Parsed) (configs : List Config) (calls now : List OwnCall) (actions : List Action)
    → configs ≡ p.configs → calls ≡ left_in m (turns_in p) → now ≡ calls → actions ≡ actions_of now
    → parsed configs actions ≡ without m p
left_schedule m p configs calls now actions same left value made =
    ap (λ (c : List Config). parsed c actions) same ∙ ap (λ (a : List Action). parsed p.configs a) (made ∙ ap (λ (c : List OwnCall). actions_of c) (value ∙ left))
