-- Lines of the text of a run, as templates write them.
use Rattle.std.proofs.Common.{List, append_assoc, codes, ℕ, ◌++◌, ◌≡◌}
use Rattle.std.proofs.lemmas.List.{append-nil}

-- the line of an event: a number and an agent, and then the event's time, its name and its payload
pub event-line : (old n agent t name payload u name' payload' a b d : List ℕ) → t ≡ u → name ≡ name' → payload ≡ payload' → a ≡ old ++ n → b ≡ a ++ agent
    → d ≡ b ++ (codes " is handed event " ++ (t ++ (codes " " ++ (name ++ (codes " " ++ (payload ++ codes "\n"))))))
    → d ≡ old ++ (n ++ agent ++ codes " is handed event " ++ u ++ (codes " " ++ name' ++ codes " " ++ payload') ++ codes "\n")
event-line old n agent t name payload u name' payload' a b d tu nn pp ha hb hd = rw (hd, hb, ha, tu, nn, pp) (simp append_assoc)

-- the line of a query, which also has its number at the agent
pub query-line : (old n agent index t name payload u name' payload' a b d : List ℕ) → t ≡ u → name ≡ name' → payload ≡ payload' → a ≡ old ++ n → b ≡ a ++ agent
    → d ≡ b ++ (codes " is handed query " ++ (index ++ (codes " of time " ++ (t ++ (codes " " ++ (name ++ (codes " " ++ (payload ++ codes "\n"))))))))
    → d ≡ old ++ (n ++ agent ++ codes " is handed query " ++ index ++ codes " of time " ++ u ++ (codes " " ++ name' ++ codes " " ++ payload') ++ codes "\n")
query-line old n agent index t name payload u name' payload' a b d tu nn pp ha hb hd = rw (hd, hb, ha, tu, nn, pp) (simp append_assoc)

-- the words of an answer
pub answer-words : (time id from payload id' : List ℕ) → id ≡ id'
    → codes "answer to query " ++ (time ++ (codes " with ID " ++ (id ++ (codes " from " ++ (from ++ (codes ": " ++ (payload ++ codes "")))))))
    ≡ codes "answer to query " ++ time ++ codes " with ID " ++ id' ++ codes " from " ++ from ++ codes ": " ++ payload
answer-words time id from payload id' is = rw is (simp (append_assoc, append-nil))

-- the words of a state
pub state-words : (clock count count' : List ℕ) → count ≡ count'
    → codes "a state with event clock " ++ (clock ++ (codes ", events: " ++ (count ++ codes ""))) ≡ codes "a state with event clock " ++ clock ++ codes ", events: " ++ count'
state-words clock count count' is = rw is (simp (append_assoc, append-nil))

-- the line of a packet that was sent
pub sent-line : (old n k words words' a b d : List ℕ) → words ≡ words' → a ≡ old ++ (n ++ (codes " sends packet " ++ (k ++ codes ": "))) → b ≡ a ++ words → d ≡ b ++ codes "\n"
    → d ≡ old ++ (n ++ codes " sends packet " ++ k ++ codes ": " ++ words' ++ codes "\n")
sent-line old n k words words' a b d is ha hb hd = rw (hd, hb, ha, is) (simp append_assoc)
