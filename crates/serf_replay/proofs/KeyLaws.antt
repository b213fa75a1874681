-- Equal keys belong to the same event, or to the same answer.
use Rattle.serf_replay.proofs.Names.{Bor, Decides, List, ap, nat_eq, refl, sym, true, ℕ, ◌&&◌, ◌∙◌, ◌≡◌, and_parts, Decides-eqb, slice_eq-Decides, pointwise, bytes_eq, EventLine, Line, answer_words, is_event, Event, event_in, event_key_eq, event_of, EventKey}

bytes : (xs ys : List ℕ) → Decides (pointwise nat_eq xs ys) (xs ≡ ys)
bytes xs ys = slice_eq-Decides Decides-eqb xs ys (pointwise nat_eq xs ys) refl

pub same-event : (x y : EventKey) → event_key_eq x y ≡ true → (e : EventLine) → is_event x e ≡ is_event y e
same-event x y h e =
    let b = and_parts (nat_eq x.time y.time) (pointwise nat_eq x.name.items y.name.items && pointwise nat_eq x.payload.items y.payload.items) h in
    let d = and_parts (pointwise nat_eq x.name.items y.name.items) (pointwise nat_eq x.payload.items y.payload.items) b.1 in
    ap (λ (t : ℕ). nat_eq e.time t && (bytes_eq e.name x.name.items && bytes_eq e.payload x.payload.items)) ((Decides-eqb x.time y.time).0 b.0)
    ∙ ap (λ (t : List ℕ). nat_eq e.time y.time && (bytes_eq e.name t && bytes_eq e.payload x.payload.items)) ((bytes x.name.items y.name.items).0 d.0)
    ∙ ap (λ (t : List ℕ). nat_eq e.time y.time && (bytes_eq e.name y.name.items && bytes_eq e.payload t)) ((bytes x.payload.items y.payload.items).0 d.1)

-- a key of an event finds this event
pub key-finds : (key q : EventKey) (e : EventLine) → key.time ≡ e.time → key.name.items ≡ e.name → key.payload.items ≡ e.payload → is_event q e ≡ event_key_eq key q
key-finds key q e time name payload =
    ap (λ (t : ℕ). nat_eq t q.time && (bytes_eq e.name q.name.items && bytes_eq e.payload q.payload.items)) (sym time)
    ∙ ap (λ (t : List ℕ). nat_eq key.time q.time && (bytes_eq t q.name.items && bytes_eq e.payload q.payload.items)) (sym name)
    ∙ ap (λ (t : List ℕ). nat_eq key.time q.time && (bytes_eq key.name.items q.name.items && bytes_eq t q.payload.items)) (sym payload)

pub event-found : (key : EventKey) (e : EventLine) → key.time ≡ e.time → key.name.items ≡ e.name → key.payload.items ≡ e.payload → event_of key ≡ event_in e
event-found key e time name payload =
    ap (λ (t : ℕ). let x : Event = (t, key.name.items, key.payload.items) in x) time
    ∙ ap (λ (t : List ℕ). let x : Event = (e.time, t, key.payload.items) in x) name ∙ ap (λ (t : List ℕ). let x : Event = (e.time, e.name, t) in x) payload

pub same-agent : (a b : ℕ) → nat_eq a b ≡ true → (e : EventLine) → nat_eq e.agent a ≡ nat_eq e.agent b
same-agent a b h e = ap (λ (n : ℕ). nat_eq e.agent n) ((Decides-eqb a b).0 h)

pub same-words : (x y : Bor (List ℕ)) → bytes_eq x.now y.now ≡ true → (l : Line) → bytes_eq (answer_words l.answer) x.now ≡ bytes_eq (answer_words l.answer) y.now
same-words x y h l = ap (λ (t : List ℕ). bytes_eq (answer_words l.answer) t) ((bytes x.now y.now).0 h)
