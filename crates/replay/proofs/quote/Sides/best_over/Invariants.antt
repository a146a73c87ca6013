use Rattle.std.proofs.Common.{◌≡◌, drop}
use Rattle.replay.specs.Quotes.{best_over}
use Rattle.replay.proofs.quote.Sides.best_over.Given as goal

abbrev pub invariant-loop-o : goal.invariant-loop-o
invariant-loop-o l = best_over l.self.buys.now l.self.sells.now l.side l.best (drop l.o-index l.steps) ≡ best_over l.self.buys.now l.self.sells.now l.side l.initial.best l.steps
