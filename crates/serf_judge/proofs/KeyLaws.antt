-- Equal keys are those of the same event, or of the same query, at the same node.
use Rattle.serf_judge.proofs.Names.{Bool, Decides, None, Option, Some, ap, nat_eq, refl, sym, true≢false, unwrap_or, ℕ, ◌&&◌, ◌≡◌, and_from, and_parts, Decides-eqb, none-some, bytes_eq-Decides, option_eq, bytes_eq, Identity, is_same, key_eq, key_identity, Key}

ids : (a b : Option ℕ) → Decides (option_eq nat_eq a b) (a ≡ b)
ids None None = (λ _. refl, λ _. refl)
ids None (Some w) = (λ e. absurd (true≢false (sym e)), λ e. absurd (none-some w e))
ids (Some v) None = (λ e. absurd (true≢false (sym e)), λ e. absurd (none-some v (sym e)))
ids (Some v) (Some w) = (λ e. ap Some ((Decides-eqb v w).0 e), λ e. (Decides-eqb v w).1 (ap (λ u. unwrap_or u v) e))

pub same-decides : (x y : Identity) → Decides (is_same x y) (x ≡ y)
same-decides x y =
    let texts : Bool = bytes_eq x.name y.name && bytes_eq x.payload y.payload in
    let id : Bool = option_eq nat_eq x.id y.id in
    let time : Bool = nat_eq x.time y.time in (
      λ e.
          let a = and_parts (bytes_eq x.node y.node) (time && (id && texts)) e in
          let b = and_parts time (id && texts) a.1 in
          let d = and_parts id texts b.1 in
          let f = and_parts (bytes_eq x.name y.name) (bytes_eq x.payload y.payload) d.1 in
          let node = (bytes_eq-Decides x.node y.node).0 a.0 in
          let times = (Decides-eqb x.time y.time).0 b.0 in
          let same_id = (ids x.id y.id).0 d.0 in
          let name = (bytes_eq-Decides x.name y.name).0 f.0 in
          let payload = (bytes_eq-Decides x.payload y.payload).0 f.1 in
          λ k. record { node = node k; time = times k; id = same_id k; name = name k; payload = payload k },
      λ e.
          and_from (bytes_eq x.node y.node) (time && (id && texts)) ((bytes_eq-Decides x.node y.node).1 (ap (λ (i : Identity). i.node) e))
          (and_from time (id && texts) ((Decides-eqb x.time y.time).1 (ap (λ (i : Identity). i.time) e))
          (and_from id texts ((ids x.id y.id).1 (ap (λ (i : Identity). i.id) e))
          (and_from (bytes_eq x.name y.name) (bytes_eq x.payload y.payload) ((bytes_eq-Decides x.name y.name).1 (ap (λ (i : Identity). i.name) e))
          ((bytes_eq-Decides x.payload y.payload).1 (ap (λ (i : Identity). i.payload) e))))),
    )

pub key-decides : (x y : Key) → Decides (key_eq x y) (key_identity x ≡ key_identity y)
key-decides x y = same-decides (key_identity x) (key_identity y)
