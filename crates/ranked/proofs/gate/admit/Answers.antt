use Rattle.std.proofs.Common.{sym, arith}
use Rattle.ranked.proofs.Gating.{book_full, numbers_spent, reach_decides}
use Rattle.ranked.proofs.gate.admit.Goals as goal

pub returns-then-saturating_sub-state-clause-refused : goal.returns-then-saturating_sub-state-clause-refused
returns-then-saturating_sub-state-clause-refused g c b l = sym (book_full _ _ b l _ _ c.if-room-state.false (sym c.if-is_early.ensures) (omega (arith, c.saturating_sub.ensures, c.if-saturating_sub-state.true)))

pub returns-then-state-gt999999-clause-refused : goal.returns-then-state-gt999999-clause-refused
returns-then-state-gt999999-clause-refused g c b l = sym (numbers_spent _ _ b l _ _ c.if-room-state.false (sym c.if-is_early.ensures) (omega (arith, c.saturating_sub.ensures, c.if-saturating_sub-state.false)) c.if-state-gt999999.true)

pub returns : goal.returns
returns g c = record {
  safe = (omega (arith, c.saturating_sub.ensures, c.if-saturating_sub-state.false), c.if-state-gt999999.false, c.if-room-state.false);
  refused = λ b l. sym (reach_decides _ _ b l _ _ c.if-room-state.false (sym c.if-is_early.ensures) (omega (arith, c.saturating_sub.ensures, c.if-saturating_sub-state.false)) _ c.if-state-gt999999.false (c.if-unreached.ensures b l));
}
