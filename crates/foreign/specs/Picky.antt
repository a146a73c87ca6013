-- What a picky layer refuses. Assumes nothing.
use Rattle.std.specs.Prelude.{◌%◌, None, ◌==◌}
use Rattle.orders.specs.declared.request.Request.TheVariants.{Enter, Withdraw, Call, Halt}
use Rattle.orders.specs.declared.refusal.Cause.TheVariants.{LedgerFull}
use Rattle.orders.specs.Causes.{when}
use Rattle.layers.specs.Stack.{OwnRule}

-- an entry of a multiple of three tonnes
abbrev pub picky_rule : OwnRule
picky_rule rule t (Enter e) n = when (e.quantity % 3 == 0) LedgerFull
picky_rule rule t (Withdraw c) n = None
picky_rule rule t Call n = None
picky_rule rule t Halt n = None
