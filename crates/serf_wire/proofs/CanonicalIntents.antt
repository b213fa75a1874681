-- The canonical packet of each intent spells it.
use Rattle.serf_wire.proofs.Names.{List, [], append-nil, append_assoc, arith, codes, false, length, lit<, refl, subst, sym, ℕ, ◌++◌, ◌<◌, ◌∷◌, ◌≡◌, AllByRecursion, max_clock, flag_bytes, map_head, raw_bytes, uint_bytes, Packs, pairs, pair_list, Below, entry, CanonicalIntents, IsJoin, IsLeave, Join, Leave, SpellsIntent, canonical_join, canonical_leave, join, leave}
use Rattle.serf_wire.proofs.CanonicalPackets.{text_entry, number_entry, regroup_two}
use Rattle.serf_wire.proofs.Short.{short}
use Rattle.serf_wire.proofs.Spelling.{text_part, number_part, flag_part, flag_is_part, Entry, IsEntry, pairs_from, entries_are_part, within}

abbrev join_entries : Join → List Entry
join_entries j = record { name = codes "LTime"; value = number_part j.time } ∷ record { name = codes "Node"; value = text_part j.node } ∷ []

join_fields : (j : Join) → j.time < max_clock → (p : ℕ) → IsJoin j (pair_list (pairs_from (λ x. x) p (join_entries j)))
join_fields j lt p = record { keys = (refl, (refl, tt)); time = within 18446744073709551614 j.time (omega arith); node = refl }

pub join_spelled : Below → (j : Join) → j.time < max_clock → length j.node < 4294967296 → SpellsIntent (join j) (canonical_join j)
join_spelled below j time node =
    let are : AllByRecursion (IsEntry 1) (join_entries j) = (number_entry below 1 (codes "LTime") j.time (lit< tt) (omega arith), (text_entry below 1 (codes "Node") j.node (lit< tt) node, tt)) in (
      pairs_from (λ x. x) 1 (join_entries j),
      subst (Packs (pairs 0 (pairs_from (λ x. x) 1 (join_entries j))) 0 0)
          (sym (regroup_two (map_head 2) (entry (codes "LTime") (uint_bytes j.time)) (entry (codes "Node") (raw_bytes j.node))))
          (entries_are_part below 0 (join_entries j) (lit< tt) are (lit< tt) 0),
      join_fields j time 1,
    )

abbrev leave_entries : Leave → List Entry
leave_entries l =
    record { name = codes "LTime"; value = number_part l.time } ∷ record { name = codes "Node"; value = text_part l.node } ∷ record { name = codes "Prune"; value = flag_part l.prune } ∷ []

regroup_three : (h a b c : List ℕ) → ((h ++ a) ++ b) ++ c ≡ h ++ (a ++ (b ++ (c ++ [])))
regroup_three h a b c = simp (append_assoc, append-nil)

leave_fields : (l : Leave) → l.time < max_clock → (p : ℕ) → IsLeave l (pair_list (pairs_from (λ x. x) p (leave_entries l)))
leave_fields l lt p = record { keys = (refl, (refl, (refl, tt))); time = within 18446744073709551614 l.time (omega arith); node = refl; prune = refl }

pub leave_spelled : Below → (l : Leave) → l.time < max_clock → length l.node < 4294967296 → SpellsIntent (leave l) (canonical_leave l)
leave_spelled below l time node =
    let are : AllByRecursion (IsEntry 1) (leave_entries l) = (number_entry below 1 (codes "LTime") l.time (lit< tt) (omega arith), (text_entry below 1 (codes "Node") l.node (lit< tt) node, (record { short = lit< tt; is = flag_is_part 1 l.prune }, tt))) in (
      pairs_from (λ x. x) 1 (leave_entries l),
      subst (Packs (pairs 0 (pairs_from (λ x. x) 1 (leave_entries l))) 0 0)
          (sym (regroup_three (map_head 3) (entry (codes "LTime") (uint_bytes l.time)) (entry (codes "Node") (raw_bytes l.node)) (entry (codes "Prune") (flag_bytes l.prune))))
          (entries_are_part below 0 (leave_entries l) (lit< tt) are (lit< tt) 0),
      leave_fields l time 1,
    )

pub canonical_intents : Below → CanonicalIntents
canonical_intents below (join j) time none = join_spelled below j time (short j.node none)
canonical_intents below (leave l) time none = leave_spelled below l time (short l.node none)
