-- The members of the objects of messages.
use Rattle.std.proofs.Common.{List, Option, [], ap, append_assoc, arith, codes, get_or, length, refl, ℕ, ◌++◌, ◌∙◌, ◌∷◌, ◌≡◌}
use Rattle.std.proofs.lemmas.List.{append-nil}
use Rattle.serf_wire.specs.Message.{Message}
use Rattle.serf_text.specs.MessageText.{message_text}
use Rattle.serf_json.specs.declared.member.Member.{Member}
use Rattle.serf_json.specs.declared.member.Member.TheVariants.{Absent}
use Rattle.serf_json.specs.Object.{member_text}
unfoldable use Rattle.serf_json.specs.Object.{members_text}
use Rattle.serf_run_json.specs.Members.{hex_member, text_member}
use Rattle.serf_run_json.specs.Messages.{line_member, own_members, said_members, type_word}
unfoldable use Rattle.serf_run_json.specs.Messages.{message_members, packet_members}

pub three : (a b c : Member) → members_text (a ∷ b ∷ c ∷ []) ≡ member_text a ++ member_text b ++ member_text c
unfolding members_text
three a b c = simp (append_assoc, append-nil)

pub four : (a b c d : Member) → members_text (a ∷ b ∷ c ∷ d ∷ []) ≡ member_text a ++ member_text b ++ member_text c ++ member_text d
unfolding members_text
four a b c d = simp (append_assoc, append-nil)

-- the second one is absent
pub other-three : (a c d : Member) → members_text (a ∷ Absent ∷ c ∷ d ∷ []) ≡ member_text a ++ member_text c ++ member_text d
unfolding members_text
other-three a c d = simp (append_assoc, append-nil)

-- the members of the object of a packet that is refused
pub refused : (line : Option ℕ) (packet words : List ℕ) (a b c : Member) → member_text a ≡ line_member line → member_text b ≡ hex_member (codes "packet") packet → member_text c ≡ text_member (codes "error") words
    → members_text (a ∷ b ∷ c ∷ []) ≡ packet_members line packet ++ text_member (codes "error") words
unfolding packet_members
refused line packet words a b c la lb lc = three a b c ∙ rw (la, lb, lc)

eight : (a b c d e f g h : Member) → members_text (a ∷ b ∷ c ∷ d ∷ e ∷ f ∷ g ∷ h ∷ []) ≡ (member_text a ++ member_text b) ++ (member_text c ++ (members_text (d ∷ e ∷ f ∷ g ∷ []) ++ member_text h))
unfolding members_text
eight a b c d e f g h = simp (append_assoc, append-nil)

joined : (a b c s h o t u v w x y : List ℕ) → a ≡ t → b ≡ u → c ≡ v → s ≡ w → h ≡ x → o ≡ y → ((a ++ b) ++ (c ++ (s ++ h))) ++ o ≡ (t ++ u) ++ (v ++ w ++ x ++ y)
joined a b c s h o t u v w x y la lb lc ls lh lo = rw (la, lb, lc, ls, lh, lo) (simp append_assoc)

-- the members of the object of a message
pub said : (line : Option ℕ) (packet : List ℕ) (m : Message) (a b c d e f g h : Member) (own : List ℕ) → member_text a ≡ line_member line → member_text b ≡ hex_member (codes "packet") packet
    → member_text c ≡ text_member (codes "type") (type_word m) → members_text (d ∷ e ∷ f ∷ g ∷ []) ≡ said_members m → member_text h ≡ text_member (codes "text") (message_text m) → own ≡ own_members m
    → members_text (a ∷ b ∷ c ∷ d ∷ e ∷ f ∷ g ∷ h ∷ []) ++ own ≡ packet_members line packet ++ message_members m
unfolding packet_members message_members
said line packet m a b c d e f g h own la lb lc ld lh lo =
    ap (λ (t : List ℕ). t ++ own) (eight a b c d e f g h) ∙ joined _ _ _ _ _ _ _ _ _ _ _ _ la lb lc ld lh lo

-- the elements of an array of four
pub four-of : (xs : List Member) (d : Member) → length xs ≡ 4 → get_or xs 0 d ∷ get_or xs 1 d ∷ get_or xs 2 d ∷ get_or xs 3 d ∷ [] ≡ xs
four-of (w ∷ x ∷ y ∷ z ∷ []) d is = refl
four-of [] d is = absurd (omega (arith, is))
four-of (w ∷ []) d is = absurd (omega (arith, is))
four-of (w ∷ x ∷ []) d is = absurd (omega (arith, is))
four-of (w ∷ x ∷ y ∷ []) d is = absurd (omega (arith, is))
four-of (w ∷ x ∷ y ∷ z ∷ v ∷ rest) d is = absurd (omega (arith, is))
