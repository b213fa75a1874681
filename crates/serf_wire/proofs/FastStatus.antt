-- Names with their times at the start of bytes.
use Rattle.serf_wire.proofs.Names.{List, Ok, Some, [], ap, append_assoc, arith, length, map, refl, subst, sym, ℕ, ◌++◌, ◌+◌, ◌∙◌, ◌∷◌, ◌≡◌, flat_map, max_clock, IsHead, head_at, pairs, pair_list, raw_of, Below, AreParts, Reads, Spans, SpansStatusTime, StatusPart, status_part_bytes, all, number, status, status_time}
use Rattle.serf_pack.specs.declared.head.Head.TheVariants as heads
use Rattle.serf_wire.proofs.Spelling.{Part, pairs_by, count_pairs, pairs_pack, all_true}
use Rattle.serf_wire.proofs.FastReading.{anywhere}
use Rattle.serf_wire.proofs.FastLists.{item_of, part_of}

pub status_time_spans : (name : List ℕ) (time : ℕ) (bytes mid rest : List ℕ) → Reads raw_of name bytes mid → Reads (number max_clock) time mid rest → SpansStatusTime bytes rest
status_time_spans name time bytes mid rest r s = record {
  part = record { name = item_of 9 raw_of name bytes mid (anywhere 9 raw_of name bytes mid r); time = item_of 9 (number max_clock) time mid rest (anywhere 9 (number max_clock) time mid rest s) };
  bytes_are = r.bytes_are ∙ ap (λ t. r.front ++ t) s.bytes_are ∙ sym (append_assoc r.front s.front rest);
}

abbrev name_part : StatusPart → Part
name_part t = part_of 9 raw_of t.name

abbrev time_part : StatusPart → Part
time_part t = part_of 9 (number max_clock) t.time

status_read : (ts : List StatusPart) (p : ℕ) → all status_time (pair_list (pairs_by name_part time_part p ts)) ≡ Some (map (λ t. (t.name.value, t.time.value)) ts)
status_read [] p = refl
status_read (t ∷ ts) p = rw (t.name.means p, t.time.means (p + length t.name.front), status_read ts (p + length t.name.front + length t.time.front)) refl

pub status_spans : Below → (n : ℕ) (bytes parts rest : List ℕ) → head_at 0 bytes ≡ Ok (heads.Map n, parts) → AreParts status_part_bytes n parts rest → Spans 8 status bytes rest
status_spans below n bytes parts rest e a =
    let h = (below.reading.head 0 bytes parts (heads.Map n)).0 e in
    let all = all_true a.parts in record {
      value = map (λ t. (t.name.value, t.time.value)) a.parts;
      reads = record {
        front = h.head ++ flat_map status_part_bytes a.parts;
        tree = λ p. pairs p (pairs_by name_part time_part (p + length h.head) a.parts);
        bytes_are = h.bytes_are ∙ ap (λ t. h.head ++ t) a.bytes_are ∙ sym (append_assoc h.head (flat_map status_part_bytes a.parts) rest);
        packs = λ d p room. (
          refl,
          room,
          h.head,
          flat_map status_part_bytes a.parts,
          subst (λ m. IsHead h.head (heads.Map m)) (sym (count_pairs name_part time_part (p + length h.head) a.parts ∙ a.count)) h.is,
          refl,
          pairs_pack (d + 1) name_part time_part (λ t. Unit {0}) (λ t u q. t.name.packs (d + 1) q (omega arith)) (λ t u q. t.time.packs (d + 1) q (omega arith)) a.parts all (p + length h.head),
        );
        means = λ p. status_read a.parts (p + length h.head);
      };
    }
