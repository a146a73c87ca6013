use Rattle.std.proofs.Common.{drop}
use Rattle.plain.specs.Rule.{Rule, Lawful}
use Rattle.plain.specs.Book.{Book}
use Rattle.plain.specs.Sound.{Sound}
use Rattle.lineup.specs.Lying.{Lies}
use Rattle.lineup.proofs.Meeting.{SweptTo}
use Rattle.lineup.proofs.lineup.Lineup.quote.Given as goal

abbrev pub invariant-loop-place : goal.invariant-loop-place
invariant-loop-place g l =
    (rule : Rule) (b : Book) → Lawful rule → Lies (g.L.Places.contents l.self.mirrored.list) l.self.state b → Sound rule b → SweptTo b (drop l.place-iterator.next (g.L.Places.contents l.place-iterator.list.now)) l.sweep
