use Rattle.serf_wire.proofs.Names.{Err, List, Ok, OnOk, Result, ap, append_assoc, codes, ℕ, ℤ, ◌++◌, ◌∙◌, ◌≡◌, to_z-of_z, w64, SFits, int_bytes, raw_bytes}
use Rattle.serf_wire.proofs.Ranged.{fits_signed}
use Rattle.serf_wire.proofs.put.write_timeout_field.Goals as goal

following : {A E : Type 0} (r : Result A E) (new mid old a : List ℕ) (z w : ℤ) → OnOk r (new ≡ mid ++ int_bytes w) → w ≡ z → mid ≡ old ++ a → OnOk r (new ≡ old ++ (a ++ int_bytes z))
following (Ok x) new mid old a z w e same f = e ∙ ap (λ y. mid ++ int_bytes y) same ∙ ap (λ m. m ++ int_bytes z) f ∙ append_assoc old a (int_bytes z)
following (Err x) new mid old a z w e same f = tt

pub returns-clause-bytes : goal.returns-clause-bytes
returns-clause-bytes c =
    let fits : SFits w64 c.args.parts.now.timeout = assumption in
    following c.write_integer.result c.write_integer.new.out.items c.write_raw.new.out.items c.args.out.now.items (raw_bytes (codes "Timeout")) c.args.parts.now.timeout _ c.write_integer.ensures.ok (to_z-of_z fits) c.in_ok-write_raw.ensures.ok

on_ok : {A E : Type 0} (r : Result A E) (P : Type 0) → P → OnOk r P
on_ok (Ok x) P p = p
on_ok (Err x) P p = tt

pub returns-clause-timeout : goal.returns-clause-timeout
returns-clause-timeout c =
    let range : SFits w64 c.args.parts.now.timeout = assumption in
    on_ok c.write_integer.result _ (fits_signed c.args.parts.now.timeout range)
