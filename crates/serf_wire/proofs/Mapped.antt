-- The lists that are passed in for a push/pull, and their meaning.
use Rattle.serf_wire.proofs.Names.{Bool, List, [], ap, false, length, map, refl, sym, ◌++◌, ◌<◌, ◌||◌, ◌∙◌, ◌∷◌, ◌≡◌, length-map, flat_map, list_any, raw_bytes, slots_borrowed, is_long, is_long_slot, slot_bytes, status_time_bytes, canonical, has_long, status_of, push_pull, parts_bytes, push_pull_of, slot_content, PushPullParts}
use Rattle.serf_wire.proofs.Short.{short, neither}
use Rattle.serf_wire.proofs.Unused.{any_borrowed}

pub any_mapped : {X Y : Type 0} (test : Y → Bool) (f : X → Y) (xs : List X) → list_any test (map f xs) ≡ list_any (λ x. test (f x)) xs
any_mapped test f [] = refl
any_mapped test f (x ∷ xs) = ap (λ b. test (f x) || b) (any_mapped test f xs)

pub joined_mapped : {X Y A : Type 0} (g : Y → List A) (f : X → Y) (xs : List X) → flat_map g (map f xs) ≡ flat_map (λ x. g (f x)) xs
joined_mapped g f [] = refl
joined_mapped g f (x ∷ xs) = ap (λ r. g (f x) ++ r) (joined_mapped g f xs)

pub long_parts : (p : PushPullParts) → has_long (push_pull (push_pull_of p)) ≡ (is_long p.status.now || list_any (λ s. is_long s.name.now) p.status.now || is_long p.left.now || list_any (λ t. is_long t.now) p.left.now || is_long (slots_borrowed p.slots) || list_any (λ s. is_long_slot (slot_content s)) p.slots.used.now)
unfolding has_long
long_parts p =
    rw (
      length-map p.status.now status_of,
      any_mapped (λ q. is_long q.0) status_of p.status.now,
      length-map p.left.now (λ t. t.now),
      any_mapped is_long (λ t. t.now) p.left.now,
      length-map (slots_borrowed p.slots) slot_content,
      any_mapped is_long_slot slot_content (slots_borrowed p.slots),
      any_borrowed (λ s. is_long_slot (slot_content s)) p.slots refl,
    ) refl

-- what is true of the parts of a push/pull if none is too long
pub record AreShort (p : PushPullParts) : Type 0 where
  pub status : length p.status.now < 4294967296
  pub names : list_any (λ s. is_long s.name.now) p.status.now ≡ false
  pub left : length p.left.now < 4294967296
  pub each : list_any (λ t. is_long t.now) p.left.now ≡ false
  pub slots : length (slots_borrowed p.slots) < 4294967296
  pub contents : list_any (λ s. is_long_slot (slot_content s)) p.slots.used.now ≡ false

pub short_parts : (p : PushPullParts) → has_long (push_pull (push_pull_of p)) ≡ false → AreShort p
short_parts p none =
    let all = sym (long_parts p) ∙ none in
    let f5 = neither _ _ all in
    let f4 = neither _ _ f5.0 in
    let f3 = neither _ _ f4.0 in
    let f2 = neither _ _ f3.0 in
    let f1 = neither _ _ f2.0 in
    record { status = short _ f1.0; names = f1.1; left = short _ f2.1; each = f3.1; slots = short _ f4.1; contents = f5.1 }

-- the canonical packet, made from the parts
pub canonical_parts : (p : PushPullParts) → canonical (push_pull (push_pull_of p)) ≡ parts_bytes p
unfolding canonical
canonical_parts p =
    rw (
      length-map p.status.now status_of,
      joined_mapped status_time_bytes status_of p.status.now,
      length-map p.left.now (λ t. t.now),
      joined_mapped raw_bytes (λ t. t.now) p.left.now,
      length-map (slots_borrowed p.slots) slot_content,
      joined_mapped slot_bytes slot_content (slots_borrowed p.slots),
    ) refl
