use Rattle.serf_window.proofs.Names.{length, ◌≡◌, drop, TimesBelow}
use Rattle.serf_window.proofs.RecallSteps.{Goes}
use Rattle.serf_window.proofs.window.Window.recall.Given as goal

abbrev pub invariant-loop-offer : goal.invariant-loop-offer
invariant-loop-offer g l = record {
  goes : Goes g.L.BorrowedKey.same g.L.BorrowedKey.key (length l.fn.self.slots) l.fn.self.per_time l.clock l.fn.self.slots l.fn.minimum l.offers l.self.slots l.lowest (drop l.offer-index l.offers);
  below : TimesBelow l.clock l.self.slots;
  size : length l.self.slots ≡ length l.fn.self.slots;
  per_time : l.self.per_time ≡ l.fn.self.per_time;
}
