use Rattle.std.proofs.Common.{sym, refl}
use Rattle.ledger.proofs.Adding.{fits, books, passes}
use Rattle.ledger.proofs.totals.Ledger.rows_after.Goals as goal

pub returns-then-not-are_within : goal.returns-then-not-are_within
returns-then-not-are_within c = (refl, passes _ _ _ c.add_fills-rows.ensures.added c.add_fills-rows.ensures.long c.if-not-are_within.ensures)

pub returns : goal.returns
returns c = (
  fits _ _ _ c.add_fills-rows.ensures.added c.add_fills-rows.ensures.long c.if-not-are_within.ensures,
  books _ _ _ c.add_fills-rows.ensures.added c.add_fills-rows.ensures.long c.if-not-are_within.ensures,
  sym c.if-not-are_within.ensures,
)
