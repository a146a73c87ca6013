use Rattle.lineup.proofs.Rested.{rewritten}
use Rattle.lineup.proofs.lineup.Lineup.reduce.Goals as goal

pub returns : goal.returns
returns g c = record {
  lies = λ b d later l is own others phase next. rewritten _ _ _ _ _ b _ c.start-first.ensures l d _ _ later c.hold.ensures.wrote is own others phase next c.hold.ensures.kept;
  kept = c.hold.ensures.kept;
}
