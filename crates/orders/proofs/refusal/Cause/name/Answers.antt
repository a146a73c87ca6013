use Rattle.std.proofs.Common.{sym, ap}
use Rattle.orders.specs.Causes.{cause_name}
use Rattle.orders.proofs.refusal.Cause.name.Goals as goal

pub returns-in-BadVersion : goal.returns-in-BadVersion
returns-in-BadVersion c = ap cause_name (sym c.in-BadVersion.is)

pub returns-in-BadSideOrLife : goal.returns-in-BadSideOrLife
returns-in-BadSideOrLife c = ap cause_name (sym c.in-BadSideOrLife.is)

pub returns-in-OutOfRange : goal.returns-in-OutOfRange
returns-in-OutOfRange c = ap cause_name (sym c.in-OutOfRange.is)

pub returns-in-BelowMinimum : goal.returns-in-BelowMinimum
returns-in-BelowMinimum c = ap cause_name (sym c.in-BelowMinimum.is)

pub returns-in-BadSetup : goal.returns-in-BadSetup
returns-in-BadSetup c = ap cause_name (sym c.in-BadSetup.is)
