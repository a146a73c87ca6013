-- A gate over another admits only what that one admits. Assumes nothing.
use Rattle.std.proofs.Common.{ℕ, Some, None, Option}
use Rattle.orders.specs.declared.refusal.Cause.{Cause}
use Rattle.orders.specs.declared.refusal.Refusal.{Refusal}
use Rattle.venue.specs.Meaning.{Admits, at_height}

pub admits_below : (h : ℕ) (own : Option Cause) (below : Option Refusal) → Admits (at_height h own below) → Admits below
admits_below h None below a = a
admits_below h (Some c) below a = absurd a
