-- The members of the objects of an action.
use Rattle.serf_run_json.proofs.Names.{List, [], ap, sym, ℕ, ◌++◌, ◌∙◌, ◌∷◌, ◌≡◌, Member, member_text, members_text, pair_text, triple_text}
use Rattle.serf_run_json.proofs.MemberLaws.{agent-in, members-append}

-- the members of an event
pub event-in : (action number name time text payload flag : Member) (agent n t p : List ℕ) → pair_text (number, name) ≡ agent → member_text time ≡ n → member_text text ≡ t → member_text payload ≡ p
    → members_text (action ∷ number ∷ name ∷ time ∷ text ∷ payload ∷ flag ∷ []) ≡ member_text action ++ (agent ++ (n ++ (t ++ (p ++ (member_text flag ++ [])))))
unfolding members_text
event-in action number name time text payload flag agent n t p who time_is text_is payload_is =
    agent-in action number name (time ∷ text ∷ payload ∷ flag ∷ []) agent who
    ∙ ap (λ x. member_text action ++ (agent ++ (x ++ (member_text text ++ (member_text payload ++ (member_text flag ++ [])))))) time_is
    ∙ ap (λ x. member_text action ++ (agent ++ (n ++ (x ++ (member_text payload ++ (member_text flag ++ [])))))) text_is
    ∙ ap (λ x. member_text action ++ (agent ++ (n ++ (t ++ (x ++ (member_text flag ++ [])))))) payload_is

-- the members of a query
pub query-in : (action number name handed time id text payload : Member) (agent n i t p : List ℕ) → pair_text (number, name) ≡ agent
    → member_text time ≡ n → member_text id ≡ i → member_text text ≡ t → member_text payload ≡ p
    → members_text (action ∷ number ∷ name ∷ handed ∷ time ∷ id ∷ text ∷ payload ∷ []) ≡ member_text action ++ (agent ++ (member_text handed ++ (n ++ (i ++ (t ++ (p ++ []))))))
unfolding members_text
query-in action number name handed time id text payload agent n i t p who time_is id_is text_is payload_is =
    agent-in action number name (handed ∷ time ∷ id ∷ text ∷ payload ∷ []) agent who
    ∙ ap (λ x. member_text action ++ (agent ++ (member_text handed ++ (x ++ (member_text id ++ (member_text text ++ (member_text payload ++ []))))))) time_is
    ∙ ap (λ x. member_text action ++ (agent ++ (member_text handed ++ (n ++ (x ++ (member_text text ++ (member_text payload ++ []))))))) id_is
    ∙ ap (λ x. member_text action ++ (agent ++ (member_text handed ++ (n ++ (i ++ (x ++ (member_text payload ++ []))))))) text_is
    ∙ ap (λ x. member_text action ++ (agent ++ (member_text handed ++ (n ++ (i ++ (t ++ (x ++ []))))))) payload_is

-- the members of a packet that was sent, with its message
pub sent-told : (action packet bytes text : Member) (b t : List ℕ) → member_text bytes ≡ b → member_text text ≡ t
    → members_text (action ∷ packet ∷ bytes ∷ []) ++ members_text (text ∷ []) ≡ member_text action ++ (member_text packet ++ (b ++ (t ++ [])))
unfolding members_text
sent-told action packet bytes text b t bytes_are text_is =
    sym (members-append (action ∷ packet ∷ bytes ∷ []) (text ∷ []))
    ∙ ap (λ x. member_text action ++ (member_text packet ++ (x ++ (member_text text ++ [])))) bytes_are
    ∙ ap (λ x. member_text action ++ (member_text packet ++ (b ++ (x ++ [])))) text_is

-- the same for a packet without a message
pub sent-refused : (action packet bytes : Member) (b t : List ℕ) → member_text bytes ≡ b → [] ≡ t
    → members_text (action ∷ packet ∷ bytes ∷ []) ≡ member_text action ++ (member_text packet ++ (b ++ (t ++ [])))
unfolding members_text
sent-refused action packet bytes b t bytes_are none =
    ap (λ x. member_text action ++ (member_text packet ++ (x ++ []))) bytes_are
    ∙ ap (λ x. member_text action ++ (member_text packet ++ (b ++ (x ++ [])))) none

-- three members before others
three-in : (a b c : Member) (rest : List Member) (text : List ℕ) → triple_text (a, b, c) ≡ text → members_text (a ∷ b ∷ c ∷ rest) ≡ text ++ members_text rest
three-in a b c rest text is = members-append (a ∷ b ∷ c ∷ []) rest ∙ ap (λ t. t ++ members_text rest) is

-- the members of a call: its number and its word, the agent, and the arguments
call-in : (number word agent name one two three : Member) (rest : List Member) (who arguments : List ℕ) → pair_text (agent, name) ≡ who → triple_text (one, two, three) ≡ arguments
    → members_text (number ∷ word ∷ agent ∷ name ∷ one ∷ two ∷ three ∷ rest) ≡ member_text number ++ (member_text word ++ (who ++ (arguments ++ members_text rest)))
unfolding members_text
call-in number word agent name one two three rest who arguments is gives =
    ap (λ t. member_text number ++ t) (agent-in word agent name (one ∷ two ∷ three ∷ rest) who is)
    ∙ ap (λ t. member_text number ++ (member_text word ++ (who ++ t))) (three-in one two three rest arguments gives)

-- the members of an answer: its word, its code, its numbers and its error
answer-in : (word code one two three error : Member) (numbers : List ℕ) → triple_text (one, two, three) ≡ numbers
    → members_text (word ∷ code ∷ one ∷ two ∷ three ∷ error ∷ []) ≡ member_text word ++ (member_text code ++ (numbers ++ (member_text error ++ [])))
unfolding members_text
answer-in word code one two three error numbers is =
    ap (λ t. member_text word ++ (member_text code ++ t)) (three-in one two three (error ∷ []) numbers is)

-- a call and its answer
pub action-in : (number call agent name one two three word code time clock more error : Member) (w who arguments a k numbers e : List ℕ)
    → member_text call ≡ w → pair_text (agent, name) ≡ who → triple_text (one, two, three) ≡ arguments
    → member_text word ≡ a → member_text code ≡ k → triple_text (time, clock, more) ≡ numbers → member_text error ≡ e
    → members_text (number ∷ call ∷ agent ∷ name ∷ one ∷ two ∷ three ∷ []) ++ members_text (word ∷ code ∷ time ∷ clock ∷ more ∷ error ∷ [])
    ≡ member_text number ++ (w ++ (who ++ (arguments ++ (a ++ (k ++ (numbers ++ (e ++ [])))))))
action-in number call agent name one two three word code time clock more error w who arguments a k numbers e call_is who_is gives word_is code_is counts error_is =
    sym (members-append (number ∷ call ∷ agent ∷ name ∷ one ∷ two ∷ three ∷ []) (word ∷ code ∷ time ∷ clock ∷ more ∷ error ∷ []))
    ∙ call-in number call agent name one two three (word ∷ code ∷ time ∷ clock ∷ more ∷ error ∷ []) who arguments who_is gives
    ∙ ap (λ t. member_text number ++ (t ++ (who ++ (arguments ++ members_text (word ∷ code ∷ time ∷ clock ∷ more ∷ error ∷ []))))) call_is
    ∙ ap (λ t. member_text number ++ (w ++ (who ++ (arguments ++ t)))) (answer-in word code time clock more error numbers counts)
    ∙ ap (λ t. member_text number ++ (w ++ (who ++ (arguments ++ (t ++ (member_text code ++ (numbers ++ (member_text error ++ [])))))))) word_is
    ∙ ap (λ t. member_text number ++ (w ++ (who ++ (arguments ++ (a ++ (t ++ (numbers ++ (member_text error ++ [])))))))) code_is
    ∙ ap (λ t. member_text number ++ (w ++ (who ++ (arguments ++ (a ++ (k ++ (numbers ++ (t ++ [])))))))) error_is

-- the members with the settings of an agent
pub settings-in : (number name a b c d e f g h i : Member) (t : List ℕ) → member_text name ≡ t
    → members_text (number ∷ name ∷ a ∷ b ∷ c ∷ d ∷ e ∷ f ∷ g ∷ h ∷ i ∷ [])
    ≡ member_text number ++ (t ++ (member_text a ++ (member_text b ++ (member_text c ++ (member_text d ++ (member_text e ++ (member_text f ++ (member_text g ++ (member_text h ++ (member_text i ++ []))))))))))
unfolding members_text
settings-in number name a b c d e f g h i t is =
    ap (λ x. member_text number ++ (x ++ members_text (a ∷ b ∷ c ∷ d ∷ e ∷ f ∷ g ∷ h ∷ i ∷ []))) is
