-- What an agent sends of its state.
use Rattle.serf_agent.proofs.Names.{Bool, Err, IsOk, IsTrue, List, Ok, Result, [], ap, cond, false, map, refl, subst, sym, true, ℕ, ◌↔◌, ◌∙◌, ◌∷◌, ◌≡◌, ◌≢◌, canonical, has_long, PushPull, push_pull, slot_content, SlotContent, EncodeError, EventBody, TimeSlot, slot_view, send_state, slot_sent, state_of, ConcreteState, PushPullError}
use Rattle.serf_wire.specs.declared.encode.EncodeError.TheVariants as encodes
use Rattle.serf_agent.specs.declared.outcome.PushPullError.TheVariants as states

-- the content of the slots is what is sent of them
pub slots-sent : (slots : List (TimeSlot EventBody)) → map slot_content slots ≡ map slot_sent (map slot_view slots)
slots-sent [] = refl
slots-sent (s ∷ ss) = ap (λ (l : List SlotContent). slot_content s ∷ l) (slots-sent ss)

pub sends : (a : ConcreteState) (status : List (List ℕ × ℕ)) (left : List (List ℕ)) (m : PushPull) (packet : List ℕ) → a.snapshot.stopped ≡ false → m ≡ state_of a status left → has_long (push_pull m) ≡ false → packet ≡ canonical (push_pull m) → Ok packet ≡ send_state a status left
sends a status left m packet runs is fits gives =
    let fits_too : has_long (push_pull (state_of a status left)) ≡ false = ap (λ (x : PushPull). has_long (push_pull x)) (sym is) ∙ fits in
    let packet_is : packet ≡ canonical (push_pull (state_of a status left)) = gives ∙ ap (λ (x : PushPull). canonical (push_pull x)) is in
    let ok : Result (List ℕ) PushPullError = Ok (canonical (push_pull (state_of a status left))) in
    ap (λ (p : List ℕ). Ok p) packet_is ∙ sym (ap (λ (b : Bool). cond b (Err states.Stopped) (cond (has_long (push_pull (state_of a status left))) (Err states.TooLong) ok)) runs ∙ ap (λ (b : Bool). cond b (Err states.TooLong) ok) fits_too)

pub sends-not : (a : ConcreteState) (status : List (List ℕ × ℕ)) (left : List (List ℕ)) (m : PushPull) → a.snapshot.stopped ≡ false → m ≡ state_of a status left → has_long (push_pull m) ≡ true → Err states.TooLong ≡ send_state a status left
sends-not a status left m runs is long =
    let long_too : has_long (push_pull (state_of a status left)) ≡ true = ap (λ (x : PushPull). has_long (push_pull x)) (sym is) ∙ long in
    let ok : Result (List ℕ) PushPullError = Ok (canonical (push_pull (state_of a status left))) in
    sym (ap (λ (b : Bool). cond b (Err states.Stopped) (cond (has_long (push_pull (state_of a status left))) (Err states.TooLong) ok)) runs ∙ ap (λ (b : Bool). cond b (Err states.TooLong) ok) long_too)

-- if an agent runs and nothing is too long, there is a packet to send
pub sends-some : (a : ConcreteState) (status : List (List ℕ × ℕ)) (left : List (List ℕ)) (m : PushPull) → a.snapshot.stopped ≡ false → m ≡ state_of a status left → has_long (push_pull m) ≡ false → IsOk (send_state a status left)
sends-some a status left m runs is fits = subst (λ (r : Result (List ℕ) PushPullError). IsOk r) (sends a status left m _ runs is fits refl) refl

-- an encoder that returns a packet found nothing too long
pub fits-by : {R : Type 0} (long : Bool) (r : Result R EncodeError) → ((r ≡ Err encodes.TooLong) ↔ IsTrue long) → r ≢ Err encodes.TooLong → long ≡ false
fits-by true r when other = absurd (other (when.1 refl))
fits-by false r when other = refl
