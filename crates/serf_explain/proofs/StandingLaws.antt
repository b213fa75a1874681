-- The line of an event that was seen, if all bytes of its texts are unchanged.
use Rattle.serf_explain.proofs.Names.{List, Some, [], ap, append_assoc, arith, codes, decimal, length, nat_le, refl, subst, sym, true, ℕ, ◌%◌, ◌++◌, ◌+◌, ◌<◌, ◌^◌, ◌∙◌, ◌∷◌, ◌≡◌, nat_tests, decimal_by_steps, list_all-append, list_all, EventBody, event_of, Seen, is_printable, because_line, carried_words, slot_words, handed_words, seen_after, seen_front, is_plain, quoted, stands, event_words, standing_texts, whole_quoted}
use Rattle.serf_explain.proofs.TextLaws.{and-left, and-right, plain-is_printable, plain-text, printable-text}

abbrev printable : List ℕ → Type 0
printable text = list_all is_printable text ≡ true

both : (xs ys : List ℕ) → printable xs → printable ys → printable (xs ++ ys)
both xs ys h k = list_all-append is_printable xs ys ∙ rw (h, k) refl

digit : (d : ℕ) → d < 10 → printable ((48 + d) ∷ [])
digit d small =
    let low : nat_le 32 (48 + d) ≡ true = grind (arith, nat_tests) in
    let high : nat_le (48 + d) 126 ≡ true = grind (arith, nat_tests) in
    rw (low, high) refl

number : (n : ℕ) → n < 2 ^ 64 → printable (decimal n)
number n fits = decimal_by_steps (λ m ds. printable ds) (λ m small. digit m small) (λ m ds ten h. both ds ((48 + m % 10) ∷ []) h (digit (m % 10) (omega arith))) n fits

quoted-standing : (text : List ℕ) → stands text ≡ true → quoted text ≡ codes "\"" ++ text ++ codes "\""
unfolding whole_quoted
quoted-standing text h =
    rw (and-left (nat_le (length text) 64) (list_all is_plain text) h)
    (ap (λ t. codes "\"" ++ t ++ codes "\"") (plain-text text (and-right (nat_le (length text) 64) (list_all is_plain text) h)))

quoted-printable : (text : List ℕ) → stands text ≡ true → printable (quoted text)
quoted-printable text h =
    subst printable (sym (quoted-standing text h))
    (both (codes "\"" ++ text) (codes "\"") (both (codes "\"") text refl (plain-is_printable text (and-right (nat_le (length text) 64) (list_all is_plain text) h))) refl)

words-law : (e t s q n p : List ℕ) → e ++ t ++ ((s ++ q) ++ n ++ (q ++ s ++ q) ++ p ++ q) ≡ e ++ t ++ s ++ (q ++ n ++ q) ++ s ++ (q ++ p ++ q)
words-law e t s q n p = simp append_assoc

-- the words for an event
pub standing-words : (time : ℕ) (name payload : List ℕ) → stands name ≡ true → stands payload ≡ true
    → codes "event " ++ decimal time ++ standing_texts name payload ≡ event_words time (event_of name payload)
unfolding standing_texts event_words
standing-words time name payload h k =
    let parts : codes "event " ++ decimal time ++ standing_texts name payload
    ≡ codes "event " ++ decimal time ++ codes " " ++ (codes "\"" ++ name ++ codes "\"") ++ codes " " ++ (codes "\"" ++ payload ++ codes "\"") = words-law (codes "event ") (decimal time) (codes " ") (codes "\"") name payload in
    parts
    ∙ (λ q. codes "event " ++ decimal time ++ codes " " ++ sym (quoted-standing name h) q ++ codes " " ++ sym (quoted-standing payload k) q)

words-printable : (time : ℕ) (name payload : List ℕ) → time < 2 ^ 64 → stands name ≡ true → stands payload ≡ true → printable (event_words time (event_of name payload))
unfolding event_words
words-printable time name payload fits h k =
    let front = both (codes "event ") (decimal time) refl (number time fits) in
    let named = both (codes "event " ++ decimal time ++ codes " ") (quoted name) (both (codes "event " ++ decimal time) (codes " ") front refl) (quoted-printable name h) in
    both (codes "event " ++ decimal time ++ codes " " ++ quoted name ++ codes " ") (quoted payload)
    (both (codes "event " ++ decimal time ++ codes " " ++ quoted name) (codes " ") named refl) (quoted-printable payload k)

-- the words which say when an event was handed to which agent
abbrev seen_detail : List ℕ → List ℕ → ℕ → List ℕ
seen_detail named words action = named ++ words ++ codes " at action " ++ decimal action

reason-printable : (slot time action : ℕ) (what : EventBody) (named : List ℕ) → slot < 2 ^ 64 → action < 2 ^ 64 → printable named → printable (event_words time what)
    → printable (carried_words slot time what (Some Seen) (seen_detail named (event_words time what) action))
unfolding carried_words slot_words
reason-printable slot time action what named slot_fits action_fits h k =
    let words : List ℕ = event_words time what in
    let at = both (codes "slot " ++ decimal slot) (codes " carries ") (both (codes "slot ") (decimal slot) refl (number slot slot_fits)) refl in
    let seen = both (codes "slot " ++ decimal slot ++ codes " carries " ++ words ++ codes ": ") (codes "seen: ") (both (codes "slot " ++ decimal slot ++ codes " carries " ++ words) (codes ": ") (both (codes "slot " ++ decimal slot ++ codes " carries ") words at k) refl) refl in
    let following = both (named ++ words ++ codes " at action ") (decimal action) (both (named ++ words) (codes " at action ") (both named words h k) refl) (number action action_fits) in
    both (codes "slot " ++ decimal slot ++ codes " carries " ++ words ++ codes ": " ++ codes "seen: ") (seen_detail named words action) seen following

line-said : (n : ℕ) (reason : List ℕ) → printable reason → because_line n reason ≡ decimal n ++ codes " because " ++ reason ++ codes "\n"
unfolding because_line
line-said n reason h = ap (λ (t : List ℕ). decimal n ++ codes " because " ++ t ++ codes "\n") (printable-text reason h)

line-law : (n b s k r w c v m a d e : List ℕ) → (n ++ (b ++ s)) ++ k ++ r ++ w ++ ((c ++ v) ++ m ++ w ++ a ++ d ++ e) ≡ n ++ b ++ (s ++ k ++ r ++ w ++ c ++ v ++ (m ++ w ++ a ++ d)) ++ e
line-law n b s k r w c v m a d e = simp append_assoc

line-parts : (n slot time action : ℕ) (what : EventBody) (named : List ℕ)
    → seen_front (decimal n ++ codes " because slot ") slot (event_words time what) ++ seen_after named (event_words time what) action
    ≡ decimal n ++ codes " because " ++ carried_words slot time what (Some Seen) (seen_detail named (event_words time what) action) ++ codes "\n"
unfolding carried_words slot_words seen_front seen_after
line-parts n slot time action what named =
    line-law (decimal n) (codes " because ") (codes "slot ") (decimal slot) (codes " carries ") (event_words time what) (codes ": ") (codes "seen: ") named (codes " at action ") (decimal action) (codes "\n")

handed-is : (agent : List ℕ) (time action : ℕ) (what : EventBody) → seen_detail (quoted agent ++ codes " was handed ") (event_words time what) action ≡ handed_words agent time what (Some action)
unfolding handed_words
handed-is agent time action what = refl

-- a text grew by both halves of the line
pub adds-standing : (n slot time action : ℕ) (agent name payload front named words old mid new : List ℕ) → slot < 2 ^ 64 → time < 2 ^ 64 → action < 2 ^ 64 → stands agent ≡ true → stands name ≡ true → stands payload ≡ true
    → front ≡ decimal n ++ codes " because slot " → named ≡ quoted agent ++ codes " was handed " → words ≡ event_words time (event_of name payload)
    → mid ≡ old ++ seen_front front slot words → new ≡ mid ++ seen_after named words action → new ≡ old ++ because_line n (carried_words slot time (event_of name payload) (Some Seen) (handed_words agent time (event_of name payload) (Some action)))
adds-standing n slot time action agent name payload front named words old mid new slot_fits time_fits action_fits plain h k front_is named_is words_are one two =
    let what : EventBody = event_of name payload in
    let said : List ℕ = quoted agent ++ codes " was handed " in
    let detail : List ℕ = seen_detail said (event_words time what) action in
    let line = line-said n (carried_words slot time what (Some Seen) detail) (reason-printable slot time action what said slot_fits action_fits (both (quoted agent) (codes " was handed ") (quoted-printable agent plain) refl) (words-printable time name payload time_fits h k)) in
    two
    ∙ ap (λ (t : List ℕ). t ++ seen_after named words action) one
    ∙ append_assoc old (seen_front front slot words) (seen_after named words action)
    ∙ (λ q. old ++ (seen_front (front_is q) slot (words_are q) ++ seen_after (named_is q) (words_are q) action))
    ∙ ap (λ (t : List ℕ). old ++ t) (line-parts n slot time action what said ∙ sym line)
    ∙ ap (λ (d : List ℕ). old ++ because_line n (carried_words slot time what (Some Seen) d)) (handed-is agent time action what)
