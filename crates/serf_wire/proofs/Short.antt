-- Lists in which no text is too long.
use Rattle.serf_wire.proofs.Names.{Bool, List, arith, false, length, refl, true, ℕ, ◌<◌, ◌||◌, ◌≡◌, nat_tests, list_any, is_long, has_long, Query, QueryResponse, UserEvent, query, query_response, user_event}

pub short : {X : Type 0} (xs : List X) → is_long xs ≡ false → length xs < 4294967296
short xs e = grind (arith, nat_tests)

pub neither : (a b : Bool) → (a || b) ≡ false → (a ≡ false) × (b ≡ false)
neither true b e = absurd cc
neither false b e = (refl, e)

-- what is true of a query in which nothing is too long
pub record IsShortQuery (q : Query) : Type 0 where
  pub addr : length q.addr < 4294967296
  pub source : length q.source < 4294967296
  pub filters : length q.filters < 4294967296
  pub each : list_any is_long q.filters ≡ false
  pub name : length q.name < 4294967296
  pub payload : length q.payload < 4294967296

pub short_query : (q : Query) → has_long (query q) ≡ false → IsShortQuery q
unfolding has_long
short_query q none =
    let f5 = neither _ _ none in
    let f4 = neither _ _ f5.0 in
    let f3 = neither _ _ f4.0 in
    let f2 = neither _ _ f3.0 in
    let f1 = neither _ _ f2.0 in
    record { addr = short _ f1.0; source = short _ f1.1; filters = short _ f2.1; each = f3.1; name = short _ f4.1; payload = short _ f5.1 }

pub short_event_texts : (e : UserEvent) → is_long e.name ≡ false → is_long e.payload ≡ false → has_long (user_event e) ≡ false
unfolding has_long
short_event_texts e none other = rw (none, other) refl

pub short_response_texts : (r : QueryResponse) → is_long r.from ≡ false → is_long r.payload ≡ false → has_long (query_response r) ≡ false
unfolding has_long
short_response_texts r none other = rw (none, other) refl
