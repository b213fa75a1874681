use Rattle.serf_window.proofs.Names.{[], ap, arith, map, subst, sym, ◌∙◌, ◌≡◌, all_slots, slot_view, EachAtMost, TimesBelow, slots_of}
use Rattle.serf_window.proofs.AllSlots.{all_slots-none}
use Rattle.serf_window.proofs.WindowLaws.{starts_below}
use Rattle.serf_window.proofs.WindowLemmas.{EachAtMost-none}
use Rattle.serf_window.proofs.window.Window.new.Goals as goal

-- no slot is in memory
none : (g : _) (c : goal.After-new g) → map slot_view (all_slots c.args.slot_count c.new.result.items) ≡ slots_of c.args.slot_count []
none g c = ap (λ made. map slot_view (all_slots c.args.slot_count made)) c.new.ensures.items ∙ all_slots-none c.args.slot_count

pub invariant_of-result : goal.invariant_of-result
invariant_of-result g c = (
  record {
    some_slot = omega arith;
    max_slots = omega arith;
    some_of_time = omega arith;
    max_of_time = omega arith;
    each = subst (EachAtMost c.args.per_time) (sym (none g c)) (EachAtMost-none c.args.slot_count c.args.per_time);
  },
  omega (arith, c.new.ensures.len),
)

pub returns-clause-slots : goal.returns-clause-slots
returns-clause-slots g c = none g c

pub returns-clause-below : goal.returns-clause-below
returns-clause-below g c = λ clock pos. subst (TimesBelow clock) (sym (none g c)) (starts_below c.args.slot_count clock pos)
